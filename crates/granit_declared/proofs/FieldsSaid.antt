-- What each lexeme of a text bears is what the lexemes before it say.
pub use Rattle.granit_order.proofs.KeysMoved.{clash}
use Rattle.std.proofs.Common.{◌≡◌, ℕ, ◌&&◌, ◌||◌, not, Bool, true, false, List, [], ◌∷◌, ◌++◌, map, Option, Some}
use Rattle.std.proofs.Common.{None, inl, inr, refl, sym, ap, ap₂, ◌∙◌, subst, arith}
use Rattle.std.proofs.Math.Nat.{le_refl}
use Rattle.std.proofs.lemmas.Bool.{le-ltb}
use Rattle.std.specs.Bool.{Decides}
use Rattle.std.specs.Prelude.{nat_lt}
use Rattle.std.proofs.lemmas.Bool.Decides.{nat_tests, Decides-at, Decides-like}
use Rattle.granit_base.specs.Place.{Mark}
use Rattle.granit_error.specs.OptionsData.{OptionsData}
use Rattle.granit_language.specs.Before.{freshened, in_front, closed_for}
use Rattle.granit_language.specs.HeldSaid.{RunsSay}
use Rattle.granit_language.specs.OpenColumns.{latest, is_outer_kind, LeavesOpen, Has, Falls}
use Rattle.granit_language.specs.OpenColumns.{ColumnsSay}
use Rattle.granit_language.specs.Reached.{ends_column_by, Reads, of_comment, of_lexeme, Reached, stops, goes_on}
use Rattle.granit_language.specs.Standing.{QuestionStands, Given}
use Rattle.granit_lexemes.specs.Comment.{CommentRead}
use Rattle.granit_lexemes.specs.Here.{Here, mark_of, start_of}
use Rattle.granit_lexemes.specs.Lexeme.{Lexeme, Item, OfLexeme, OfComment}
use Rattle.granit_lexemes.specs.declared.layout.OpenBracket.{OpenBracket}
use Rattle.granit_lexemes.specs.declared.layout.OpenColumn.{OpenColumn}
use Rattle.granit_machine.specs.Columns.{is_right_of_column}
use Rattle.granit_machine.specs.Laid.{Laid, is_dash, is_indicator, is_nonempty, is_in_flow}
use Rattle.granit_machine.specs.LexemeSort.{OpenSign, CloseSign, CommaSign, DashSign, QuestionSign}
use Rattle.granit_machine.specs.LexemeSort.{ColonSign, AliasSign, AnchorSign, TagSign, BlockSign, QuoteSign, PlainSign}
use Rattle.granit_machine.specs.LexemeSort.{StrayMark, NoSign, LexemeSort, TextEnd, StartMark, EndMark, DirectiveSign}
use Rattle.granit_machine.specs.LexemeSort.{Unprintable, Placed}
use Rattle.granit_machine.specs.NodeLexemes.{note_items}
use Rattle.granit_machine.specs.PossibleKeys.{fresh_bracket}
use Rattle.granit_machine.specs.Reader.{is_end}
use Rattle.granit_machine.specs.ReaderState.{ReaderState, reader_start}
use Rattle.granit_before.proofs.HeldLow.{at_most_has}
use Rattle.granit_before.proofs.HeldWhole.{front_flow}
use Rattle.granit_before.proofs.HeldLow.{cols}
use Rattle.granit_before.proofs.HeldWhole.{agrees_said, fresh_said}
use Rattle.granit_before.proofs.TabsWhole.{At, start_at}
use Rattle.granit_order.proofs.BracketsKept.{flow_decided}
use Rattle.granit_before.proofs.Numbered.{closed_held, lexeme_moved}
use Rattle.granit_key_runs.proofs.RunsKept.{Signed}
use Rattle.granit_key_runs.proofs.RunsWhole.{read_runs, start_says}
use Rattle.granit_before.proofs.Numbered.{SaysOf, gap_agrees, telling}
use Rattle.granit_before.proofs.HeldWhole.{HeldSay, read_held, inside_said}
use Rattle.granit_before.specs.Fields.{EndsColumn, FieldsSay, AllFieldsSay}
use Rattle.granit_before.proofs.TabsLeft.{same_head}
use Rattle.granit_before.proofs.QuestionSaid.{front_last}

-- ---- whether a lexeme ends a column, as it is told

head_ends : {x y : Lexeme} {xs ys : List Item} → ◌≡◌ {A = List Item} (OfLexeme x ∷ xs) (OfLexeme y ∷ ys) →
    y.ends_column ≡ x.ends_column
head_ends e = sym (ap (λ (x : Lexeme). x.ends_column) (same_head e))

ends_in : {x y : Lexeme} → x ≡ y → x.ends_column ≡ y.ends_column
ends_in e = ap (λ (x : Lexeme). x.ends_column) e

question_ends : (o : OptionsData) (ends : Bool) (h : Here) (l : Laid) (x : Lexeme) (after : Here) (v : Bool) →
    QuestionStands o ends h l x after v → x.ends_column ≡ ends
question_ends o ends h l x after true p = ends_in p.is
question_ends o ends h l x after false p = ends_in p.is

ends_told :
    (o : OptionsData) (ends : Bool) (sort : LexemeSort) (h : Here) (l : Laid) (items : List Item)
    (after : ReaderState) (x : Lexeme) (notes : List Item) → items ≡ OfLexeme x ∷ notes →
    Given o ends sort h l items after → x.ends_column ≡ ends
ends_told o ends (Placed (QuoteSign single)) h l items after x notes e p = head_ends (sym p.gives ∙ e)
ends_told o ends TextEnd h l (OfLexeme y ∷ []) after x notes e p = head_ends e ∙ ends_in p.0.0.is
ends_told o ends StartMark h l (OfLexeme y ∷ []) after x notes e p = head_ends e ∙ ends_in p.0.0.is
ends_told o ends EndMark h l (OfLexeme y ∷ []) after x notes e p = head_ends e ∙ ends_in p.0.0.is
ends_told o ends DirectiveSign h l (OfLexeme y ∷ []) after x notes e p = head_ends e ∙ ends_in p.0.is
ends_told o ends Unprintable h l (OfLexeme y ∷ []) after x notes e p = absurd p.0
ends_told o ends (Placed (OpenSign bracket)) h l (OfLexeme y ∷ []) after x notes e p = head_ends e ∙ ends_in p.0.0.is
ends_told o ends (Placed (CloseSign bracket)) h l (OfLexeme y ∷ []) after x notes e p =
    head_ends e ∙ ends_in p.0.0.is
ends_told o ends (Placed CommaSign) h l (OfLexeme y ∷ []) after x notes e p = head_ends e ∙ ends_in p.0.0.is
ends_told o ends (Placed DashSign) h l (OfLexeme y ∷ []) after x notes e p = head_ends e ∙ ends_in p.0.is
ends_told o ends (Placed QuestionSign) h l (OfLexeme y ∷ []) after x notes e p =
    head_ends e ∙ question_ends o ends h l y after.here (is_in_flow l) p.0
ends_told o ends (Placed ColonSign) h l (OfLexeme y ∷ []) after x notes e p = head_ends e ∙ ends_in p.0.is
ends_told o ends (Placed AliasSign) h l (OfLexeme y ∷ []) after x notes e p = head_ends e ∙ ends_in p.0.is
ends_told o ends (Placed AnchorSign) h l (OfLexeme y ∷ []) after x notes e p = head_ends e ∙ ends_in p.0.is
ends_told o ends (Placed TagSign) h l (OfLexeme y ∷ []) after x notes e p = head_ends e ∙ ends_in p.0.is
ends_told o ends (Placed (BlockSign literal)) h l (OfLexeme y ∷ []) after x notes e p = head_ends e ∙ ends_in p.0.is
ends_told o ends (Placed PlainSign) h l (OfLexeme y ∷ []) after x notes e p = head_ends e ∙ ends_in p.1.is
ends_told o ends (Placed StrayMark) h l (OfLexeme y ∷ []) after x notes e p = absurd p.0
ends_told o ends (Placed NoSign) h l (OfLexeme y ∷ []) after x notes e p = absurd p.0
ends_told o ends sort h l items after x notes e p = absurd p

-- ---- which columns it ends

abbrev outer_by : (sort : LexemeSort) (h : Here) (l : Laid) (x : Lexeme) → SaysOf sort h l x → Bool
outer_by (Placed sort) h l x s = false
outer_by sort h l x s = true

outer_is : (sort : LexemeSort) (h : Here) (l : Laid) (x : Lexeme) (s : SaysOf sort h l x) →
    is_outer_kind x.kind ≡ outer_by sort h l x s
outer_is TextEnd h l x s = ap is_outer_kind s.0.is
outer_is StartMark h l x s = ap is_outer_kind s.0.is
outer_is EndMark h l x s = ap is_outer_kind s.0.is
outer_is DirectiveSign h l x s = ap is_outer_kind s.1.is
outer_is Unprintable h l x s = absurd s
outer_is (Placed (OpenSign bracket)) h l x s = ap is_outer_kind s.is
outer_is (Placed (CloseSign bracket)) h l x s = ap is_outer_kind s.0.is
outer_is (Placed CommaSign) h l x s = ap is_outer_kind s.is
outer_is (Placed DashSign) h l x s = ap is_outer_kind s.0.is
outer_is (Placed QuestionSign) h l x s = ap is_outer_kind s.0.is
outer_is (Placed ColonSign) h l x s = ap is_outer_kind s.0
outer_is (Placed AliasSign) h l x s = ap is_outer_kind s.1.is
outer_is (Placed AnchorSign) h l x s = ap is_outer_kind s.1.is
outer_is (Placed TagSign) h l x s = ap is_outer_kind s.2.is
outer_is (Placed (BlockSign literal)) h l x s = ap is_outer_kind s.2.is
outer_is (Placed (QuoteSign single)) h l x s = ap is_outer_kind s.2.is
outer_is (Placed PlainSign) h l x s = ap is_outer_kind s.2.is
outer_is (Placed StrayMark) h l x s = absurd s
outer_is (Placed NoSign) h l x s = absurd s

left_then : (k c d : ℕ) → nat_lt k c ≡ true → nat_lt d c ≡ false → nat_lt k d ≡ true
left_then k c d e f = grind (arith, nat_tests, e, f)

not_false : (b : Bool) → (b ≡ false → ⊥) → b ≡ true
not_false true n = refl
not_false false n = absurd (n refl)

module _ (ls : List Lexeme) (l : Laid) (said : ColumnsSay ls l) (x : Lexeme) (h : Here) (start : x.start ≡ mark_of h)
    (flow : x.in_flow ≡ is_in_flow l) where
  column : x.start.place.column ≡ h.place.column
  column = ap (λ (m : Mark). m.place.column) start

  -- one that ends its document
  outer_ends : is_outer_kind x.kind ≡ true → (v : Bool) → is_in_flow l ≡ v →
      Decides (not v && is_nonempty l.columns) (EndsColumn ls x)
  outer_ends u true e = (λ f. absurd cc, λ p. absurd (let z = sym p.outside ∙ (flow ∙ e) in cc))
  outer_ends u false e = on l.columns refl
    where
      on : (cs : List OpenColumn) → l.columns ≡ cs → Decides (is_nonempty cs) (EndsColumn ls x)
      on [] f = (
        λ t. absurd cc,
        λ p. absurd (subst (Has p.column) (ap cols f)
            (said.are_kept p.column p.open_there)),
      )
      on (c ∷ cs) f = (
        λ t. record {
          outside = flow ∙ e;
          column = c.column;
          open_there = said.are_open c.column (subst (Has c.column) (sym (ap cols f)) (inl refl));
          ends = λ q. let z = sym (q (flow ∙ e)).0 ∙ u in cc;
        },
        λ p. refl,
      )

  -- one that stands in a column
  placed_ends : is_outer_kind x.kind ≡ false → (v : Bool) → is_in_flow l ≡ v →
      Decides (not v && is_right_of_column h.place.column l.columns) (EndsColumn ls x)
  placed_ends u true e = (λ f. absurd cc, λ p. absurd (let z = sym p.outside ∙ (flow ∙ e) in cc))
  placed_ends u false e = on l.columns refl
    where
      left : (c : ℕ) → (LeavesOpen x c → ⊥) → nat_lt h.place.column c ≡ true
      left c n =
          not_false (nat_lt h.place.column c) (λ f. n (λ t. (u, ap (λ k. nat_lt k c) column ∙ f)))

      on : (cs : List OpenColumn) → l.columns ≡ cs →
          Decides (is_right_of_column h.place.column cs) (EndsColumn ls x)
      on [] f = (
        λ t. absurd cc,
        λ p. absurd (subst (Has p.column) (ap cols f)
            (said.are_kept p.column p.open_there)),
      )
      on (c ∷ cs) f = (
        λ t. record {
          outside = flow ∙ e;
          column = c.column;
          open_there = said.are_open c.column (subst (Has c.column) (sym (ap cols f)) (inl refl));
          ends = λ q. let z = sym (q (flow ∙ e)).1 ∙ (ap (λ k. nat_lt k c.column) column ∙ t) in cc;
        },
        λ p. left_then h.place.column p.column c.column (left p.column p.ends)
            (least p.column (subst (Has p.column) (ap cols f) (said.are_kept p.column p.open_there))),
      )
        where
          least : (d : ℕ) → Has d (cols (c ∷ cs)) → nat_lt c.column d ≡ false
          least d (inl q) = subst (λ d. nat_lt c.column d ≡ false) q (le-ltb c.column c.column (le_refl c.column))
          least d (inr q) =
              let falls : Falls (cols (c ∷ cs)) = subst Falls (ap cols f) said.fall in
              at_most_has c.column d (cols cs) falls.0 q

  ends_decided : (s : ReaderState) → s.laid ≡ l → s.here ≡ h → (sort : LexemeSort) (m : Laid) →
      SaysOf sort h m x → Decides (ends_column_by sort s) (EndsColumn ls x)
  ends_decided s e f sort m p =
      subst (λ (h : Here). Decides (ends_column_by sort (record { here = h; laid = s.laid })) (EndsColumn ls x)) (sym f)
      (subst (λ (l : Laid). Decides (ends_column_by sort (record { here = h; laid = l })) (EndsColumn ls x)) (sym e)
      (by sort p))
    where
      by : (sort : LexemeSort) → SaysOf sort h m x →
          Decides (ends_column_by sort (record { here = h; laid = l })) (EndsColumn ls x)
      by (Placed sort) p = placed_ends (outer_is (Placed sort) h m x p) (is_in_flow l) refl
      by TextEnd p = outer_ends (outer_is TextEnd h m x p) (is_in_flow l) refl
      by StartMark p = outer_ends (outer_is StartMark h m x p) (is_in_flow l) refl
      by EndMark p = outer_ends (outer_is EndMark h m x p) (is_in_flow l) refl
      by DirectiveSign p = outer_ends (outer_is DirectiveSign h m x p) (is_in_flow l) refl
      by Unprintable p = absurd p

-- ---- one read

pub mapped_nonempty : (f : OpenBracket → OpenBracket) (bs : List OpenBracket) → is_nonempty (map f bs) ≡ is_nonempty bs
mapped_nonempty f [] = refl
mapped_nonempty f (b ∷ bs) = refl

noted_fields : (before : List Lexeme) (x : Lexeme) (note : Option CommentRead) → FieldsSay before x →
    AllFieldsSay before (OfLexeme x ∷ note_items note)
noted_fields before x None b = (b, tt)
noted_fields before x (Some c) b = (b, tt)

module _ (o : OptionsData) (text : List ℕ) where
  read_fields : {s after : ReaderState} {items : List Item} (ls : List Lexeme) → Reads o s items after →
      HeldSay ls s.laid → RunsSay o text (mark_of s.here) ls s.laid → AllFieldsSay ls items
  read_fields ls (of_comment at g k) w r = tt
  read_fields {s = s} ls (of_lexeme {items = items} at behind sort comes given keys) w r =
      let f = freshened o at in
      let a = gap_agrees comes.gap in
      let n = fresh_said o ls at (agrees_said ls s.laid at.laid a w.columns) in
      let t = telling o (ends_column_by sort f) f.here _ sort items behind given.1 in
      let x = t.lexeme in
      let c = closed_held sort f.here f.laid in
      let v = lexeme_moved o sort f.here (closed_for sort f.here f.laid) x t.cut t.reached behind.laid t.told t.says
      t.leaves in
      let flow = t.told.flow ∙ front_flow sort f.here f.laid in
      let inside : is_in_flow f.laid ≡ is_in_flow s.laid =
      mapped_nonempty (fresh_bracket o (mark_of at.here)) at.laid.brackets
      ∙ ap (λ (bs : List OpenBracket). is_nonempty bs) a.brackets in
      let i = inside_said ls s.laid w.brackets in
      subst (AllFieldsSay ls) (sym t.are) (noted_fields ls x t.note (record {
        number = v.number ∙ (c.0 ∙ (a.number ∙ w.number));
        flow =
            Decides-at x.in_flow (is_in_flow s.laid) (flow ∙ inside)
            (Decides-like (is_in_flow s.laid) i.0 i.1 (flow_decided s.laid));
        follows =
            t.told.follows
            ∙ ap₂ (λ (v w : Bool). v || w)
            (ap is_dash (front_last sort f.here f.laid) ∙ (a.last.dash ∙ r.last.dash))
            (ap is_indicator (front_last sort f.here f.laid) ∙ (a.last.indicator ∙ r.last.sign));
        ends =
            Decides-at x.ends_column (ends_column_by sort f)
            (ends_told o (ends_column_by sort f) sort f.here (in_front sort f.here f.laid) items behind x
            (note_items t.note) t.are given.1)
            (ends_decided ls f.laid n.columns x f.here t.told.start flow f refl refl sort
            (in_front sort f.here f.laid) t.says);
      }))

  fields_joined : (before : List Lexeme) (items more : List Item) → AllFieldsSay before items →
      AllFieldsSay (latest items before) more → AllFieldsSay before (items ++ more)
  fields_joined before [] more b n = n
  fields_joined before (OfLexeme x ∷ is) more b n = (b.0, fields_joined (x ∷ before) is more b.1 n)
  fields_joined before (OfComment c ∷ is) more b n = fields_joined before is more b n

  fields_reach : {s t : ReaderState} {items : List Item} (ls : List Lexeme) → Reached o s items t → At text s.here →
      HeldSay ls s.laid → RunsSay o text (mark_of s.here) ls s.laid → Signed text ls s → AllFieldsSay ls items
  fields_reach ls stops a w r d = tt
  fields_reach {s = s} ls (goes_on next items more read last rest e) a w r d =
      let p = read_runs o text ls read a r d in
      subst (AllFieldsSay ls) (sym e) (fields_joined ls items more (read_fields ls read w r)
      (on (is_end items) refl p.runs p.signed
      (λ (q : RunsSay o text (mark_of next.here) (latest items ls) next.laid)
      (d : Signed text (latest items ls) next).
      fields_reach (latest items ls) rest p.place (read_held o ls read w) q d)))
    where
      on : (v : Bool) → is_end items ≡ v →
          (is_end items ≡ false → RunsSay o text (mark_of next.here) (latest items ls) next.laid) →
          (is_end items ≡ false → Signed text (latest items ls) next) →
          (RunsSay o text (mark_of next.here) (latest items ls) next.laid → Signed text (latest items ls) next →
          AllFieldsSay (latest items ls) more) → AllFieldsSay (latest items ls) more
      on true y f d g = subst (AllFieldsSay (latest items ls)) (sym (last y)) tt
      on false y f d g = g (f y) (d y)

  pub fields_said : (items : List Item) (t : ReaderState) → Reached o (reader_start (start_of text)) items t →
      AllFieldsSay [] items
  fields_said items t r =
      fields_reach [] r (start_at text)
      (record {
        columns = record { columns = record { are_open = λ c p. p; are_kept = λ c p. p; fall = tt }; key = tt };
        number = refl;
        keys = record { says = (tt, tt); heads = tt };
        brackets = refl;
      }) (start_says o text (start_of text)) (λ e. absurd cc)
