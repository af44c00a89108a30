-- Behind the end of a text nothing is open: its tokens balance.
use Rattle.std.proofs.Common.{◌≡◌, ℕ, suc, ◌≤◌, Bool, true, List, [], ◌++◌, map, Option, Some, None, Result, Ok}
use Rattle.std.proofs.Common.{Err, refl, sym, ap, ap₂, ◌∙◌}
use Rattle.std.specs.Prelude.{is_none}
use Rattle.granit_order.proofs.BracketsKept.{fresh_kinds}
use Rattle.granit_order.proofs.BracketsPassed.{kinds_in}
use Rattle.granit_order.proofs.ColumnLists.{edges}
use Rattle.granit_answers.proofs.OneCause.{answer_reads}
use Rattle.granit_base.specs.Place.{Mark}
use Rattle.granit_error.specs.OptionsData.{OptionsData}
use Rattle.granit_language.specs.Before.{freshened, behind}
use Rattle.granit_language.specs.Reached.{ends_column_by, Reads, of_comment, of_lexeme, ReadWhole, whole_ends}
use Rattle.granit_language.specs.Reached.{whole_stops}
use Rattle.granit_language.specs.Reached.{whole_goes_on}
use Rattle.granit_lexemes.specs.Here.{Here, mark_of, start_of}
use Rattle.granit_lexemes.specs.Lexeme.{Lexeme, Item}
use Rattle.granit_lexemes.specs.Outcome.{Fault}
use Rattle.granit_lexemes.specs.PlainEvent.{PlainEvent}
use Rattle.granit_lexemes.specs.declared.layout.OpenBracket.{OpenBracket}
use Rattle.granit_lexemes.specs.declared.layout.OpenColumn.{OpenColumn}
use Rattle.granit_machine.specs.Laid.{Laid}
use Rattle.granit_machine.specs.LexemeSort.{OpenSign, CloseSign, CommaSign, DashSign, QuestionSign, ColonSign}
use Rattle.granit_machine.specs.LexemeSort.{AliasSign}
use Rattle.granit_machine.specs.LexemeSort.{AnchorSign, TagSign, BlockSign, QuoteSign, StrayMark, NoSign, PlainSign}
use Rattle.granit_machine.specs.LexemeSort.{LexemeSort, TextEnd, StartMark, EndMark, Unprintable, DirectiveSign, Placed}
use Rattle.granit_machine.specs.Machine.{run}
use Rattle.granit_machine.specs.PossibleKeys.{keyed_brackets}
use Rattle.granit_machine.specs.Reader.{LexState, is_end_kind, is_end}
use Rattle.granit_machine.specs.ReaderState.{ReaderState}
use Rattle.granit_reading.proofs.SortAnswers.{kind_not_end}
use Rattle.granit_places.proofs.Telling.{SaysOf, Agrees, telling}
use Rattle.granit_reading.proofs.WholeLaw.{lexed_whole}
use Rattle.granit_steps.proofs.TokenLemmas.{paired_items}
use Rattle.granit_steps.specs.Tokens.{ScanToken, item_in, text_tokens, items_of_states}
use Rattle.granit_tokens.proofs.Openings.{Openings, passed, passed_front, balanced, begins_balanced, no_more_ends}
use Rattle.granit_tokens.proofs.Openings.{as_many_ends}
use Rattle.granit_tokens.proofs.Stacks.{open_at}
use Rattle.granit_tokens.proofs.TextTokens.{given, tokens_pass, have_tokens}
use Rattle.granit_tokens.specs.Balanced.{Balanced, BeginsBalanced, block_starts, block_ends}

-- nothing is open
abbrev IsClosed : Laid → Type 0
IsClosed t = (kinds_in t.brackets ≡ []) × (edges t ≡ [])

module _ (o : OptionsData) (h : Here) (l : Laid) (x : Lexeme) (cut : Option Mark) (reached : Here)
    (after : Laid) where
  end_leaves : (sort : LexemeSort) → SaysOf sort h l x → Agrees after (behind o sort x cut reached h l)
      → is_end_kind x.kind ≡ true → IsClosed after
  end_leaves TextEnd s a e = (
    ap (λ (bs : List OpenBracket). kinds_in bs) a.brackets
        ∙ ap (λ (bs : List OpenBracket). kinds_in (keyed_brackets None bs)) s.1,
    ap (λ (cs : List OpenColumn). map suc (map (λ (c : OpenColumn). c.column) cs)) a.columns,
  )
  end_leaves StartMark s a e = kind_not_end _ x s.0.is refl e
  end_leaves EndMark s a e = kind_not_end _ x s.0.is refl e
  end_leaves DirectiveSign s a e = kind_not_end _ x s.1.is refl e
  end_leaves Unprintable s a e = absurd s
  end_leaves (Placed (OpenSign bracket)) s a e = kind_not_end _ x s.is refl e
  end_leaves (Placed (CloseSign bracket)) s a e = kind_not_end _ x s.0.is refl e
  end_leaves (Placed CommaSign) s a e = kind_not_end _ x s.is refl e
  end_leaves (Placed DashSign) s a e = kind_not_end _ x s.0.is refl e
  end_leaves (Placed QuestionSign) s a e = kind_not_end _ x s.0.is refl e
  end_leaves (Placed ColonSign) s a e = kind_not_end _ x s.0 refl e
  end_leaves (Placed AliasSign) s a e = kind_not_end _ x s.1.is refl e
  end_leaves (Placed AnchorSign) s a e = kind_not_end _ x s.1.is refl e
  end_leaves (Placed TagSign) s a e = kind_not_end _ x s.2.is refl e
  end_leaves (Placed (BlockSign literal)) s a e = kind_not_end _ x s.2.is refl e
  end_leaves (Placed (QuoteSign single)) s a e = kind_not_end _ x s.2.is refl e
  end_leaves (Placed PlainSign) s a e = kind_not_end _ x s.2.is refl e
  end_leaves (Placed StrayMark) s a e = absurd s
  end_leaves (Placed NoSign) s a e = absurd s

end_closed : (o : OptionsData) (s after : ReaderState) (items : List Item) → Reads o s items after
    → is_end items ≡ true → IsClosed after.laid
end_closed o s after items (of_comment at g k) e = absurd cc
end_closed o s after items (of_lexeme at behind sort comes given keys) e =
    let t = telling o (ends_column_by sort (freshened o at)) at.here _ sort items behind given.1 in
    let p = end_leaves o at.here _ t.lexeme t.cut t.reached behind.laid sort t.says t.leaves
    (sym (ap is_end t.are) ∙ e) in
    (fresh_kinds o (mark_of behind.here) behind.laid.brackets ∙ p.0, p.1)

whole_closed : (o : OptionsData) (s t : ReaderState) (items : List Item) (ended : Bool) → ReadWhole o s items ended t
    → ended ≡ true → IsClosed t.laid
whole_closed o s t items ended (whole_ends r e) f = end_closed o s t items r e
whole_closed o s t items ended (whole_stops n) f = absurd cc
whole_closed o s t items ended (whole_goes_on next front more r e w a) f = whole_closed o next t more ended w f

module _ (o : OptionsData) (x : List ℕ) (ts : List ScanToken) (t : LexState)
    (are : text_tokens o (start_of x) ≡ Ok (ts, t)) where
  text_closed : t.fault ≡ None → IsClosed t.reader.laid
  text_closed none =
      let g = given o x ts t are in
      let w = lexed_whole o (start_of x) (map item_in g.items) t
      (sym (paired_items o (start_of x)) ∙ ap items_of_states g.states) in
      whole_closed o _ t.reader (map item_in g.items) (is_none t.fault) w.whole
      (ap (λ (f : Option Fault). is_none f) none)

  whole_passed : t.fault ≡ None → passed ts [] ≡ Some []
  whole_passed none =
      let p = tokens_pass o x ts t are in
      let c = text_closed none in
      p.are_passed ∙ ap₂ (λ bs cs. Some (open_at bs p.pairs None cs)) c.0 c.1

  pub text_balanced : t.fault ≡ None → Balanced ts
  text_balanced none = balanced ts (whole_passed none)

  pub text_counts : t.fault ≡ None → block_ends ts ≡ block_starts ts
  text_counts none = as_many_ends ts (whole_passed none)

  module _ (front back : List ScanToken) (e : ts ≡ front ++ back) where
    front_open : (st : Openings) × (passed front [] ≡ Some st)
    front_open =
        let p = tokens_pass o x ts t are in
        passed_front front back [] _ (ap (λ ts. passed ts []) (sym e) ∙ p.are_passed)

    pub front_begins : BeginsBalanced front
    front_begins = let f = front_open in begins_balanced front f.0 f.1

    pub front_counts : block_ends front ≤ block_starts front
    front_counts = let f = front_open in no_more_ends front f.0 f.1

-- ---- what is answered

pub answer_balanced : (o : OptionsData) (x : List ℕ) (es : List PlainEvent) → run o x ≡ Ok es
    → (ts : List ScanToken) × (t : LexState) × (text_tokens o (start_of x) ≡ Ok (ts, t)) × Balanced ts
answer_balanced o x es e =
    let a = answer_reads o x es e in
    let h = have_tokens o x in
    let g = given o x h.0 h.1 h.2 in
    let same : ◌≡◌ {A = Result (List Item × LexState) Fault} (Ok (map item_in g.items, h.1)) (Ok (a.items, a.state)) =
    sym (ap items_of_states g.states) ∙ paired_items o (start_of x) ∙ a.are_read in
    let f : h.1 ≡ a.state = state_same (map item_in g.items) a.items h.1 a.state same in
    (h.0, h.1, h.2, text_balanced o x h.0 h.1 h.2 (ap (λ (t : LexState). t.fault) f ∙ a.to_end))
  where
    state_of : LexState → Result (List Item × LexState) Fault → LexState
    state_of u (Ok y) = y.1
    state_of u (Err f) = u

    state_same : (xs ys : List Item) (t u : LexState)
        → ◌≡◌ {A = Result (List Item × LexState) Fault} (Ok (xs, t)) (Ok (ys, u)) → t ≡ u
    state_same xs ys t u e = ap (state_of t) e
