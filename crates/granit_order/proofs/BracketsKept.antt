-- The brackets of the flagged lexemes of a text are in order.
pub use Rattle.granit_quiet.proofs.EndTelling.{lexed_whole, none_waits_behind, run_told}
pub use Rattle.granit_quiet.proofs.TellStream.{all_read_whole, flow_decided, lexed}
pub use Rattle.granit_quiet.proofs.CommentLaws.{Lexed, answer_to, items_given, none_told, run_given, run_same}
pub use Rattle.granit_quiet.proofs.CommentLaws.{settled_asked}
pub use Rattle.granit_places.proofs.ColumnsWhole.{agrees_said, fresh_said, latest_joined, latest_noted, reads_said}
pub use Rattle.granit_places.proofs.ColumnsLaw.{cols, front_flow, some_of}
pub use Rattle.granit_places.proofs.ColumnsKept.{OpenSays}
use Rattle.std.proofs.Common.{◌≡◌, ℕ, Bool, true, false, List, [], ◌∷◌, ◌++◌, map, Option, Some, None, refl, sym, ap}
use Rattle.std.proofs.Common.{◌∙◌, subst}
use Rattle.granit_base.specs.Place.{Mark}
use Rattle.granit_error.specs.OptionsData.{OptionsData}
use Rattle.granit_views.specs.Fair.{is_key_part}
use Rattle.granit_language.specs.Seen.{Flagged, terminal_kind, lexemes_flagged, read_lexemes, key_number}
use Rattle.granit_language.specs.Before.{freshened, closed_for}
use Rattle.granit_language.specs.Fitting.{role_of}
use Rattle.granit_language.specs.Reached.{ends_column_by, Reads, of_comment, of_lexeme, Reached, stops, goes_on}
use Rattle.granit_language.specs.Scope.{Scope, no_scope}
use Rattle.granit_language.specs.Scoping.{next_scope}
use Rattle.granit_language.specs.Terminal.{is_dash_kind}
use Rattle.granit_lexemes.specs.Comment.{CommentRead}
use Rattle.granit_lexemes.specs.Here.{Here, mark_of, start_of}
use Rattle.granit_lexemes.specs.Lexeme.{LexemeKind, StreamEnd, KeyStart, Lexeme, Item, OfLexeme, OfComment}
use Rattle.granit_lexemes.specs.declared.layout.Bracket.{Bracket}
use Rattle.granit_lexemes.specs.declared.layout.OpenBracket.{OpenBracket}
use Rattle.granit_machine.specs.Laid.{Laid, is_opener, is_nonempty, is_in_flow}
use Rattle.granit_machine.specs.LexemeSort.{LexemeSort, Placed, TextEnd, StartMark, EndMark, DirectiveSign, Unprintable}
use Rattle.granit_machine.specs.Lexing.{Flagging, is_nearest, flag_lexeme, flag_item, flagging}
use Rattle.granit_machine.specs.NodeLexemes.{note_items}
use Rattle.granit_machine.specs.PossibleKeys.{fresh_bracket, fresh}
use Rattle.granit_machine.specs.Reader.{is_end_kind, is_end}
use Rattle.granit_machine.specs.ReaderState.{ReaderState, reader_start}
use Rattle.granit_places.proofs.Choosing.{Held, Within, within_self, Below, below_within, Chosen, nones, chosen_none}
use Rattle.granit_places.proofs.Choosing.{chosen_within, and_number, pending, stepped, below_moves, role_key}
use Rattle.granit_places.proofs.Holding.{held, full, fresh-within}
use Rattle.granit_places.proofs.KeysLaw.{named}
use Rattle.granit_places.proofs.Moving.{agrees_held, closed_held}
pub use Rattle.granit_places.proofs.Moving.{lexeme_moved}
pub use Rattle.granit_places.proofs.Telling.{gap_agrees, telling}
use Rattle.granit_order.specs.Order.{open_behind, may_follow, closes_innermost, EndsThere, BracketsFrom}
use Rattle.granit_order.proofs.BracketsPassed.{kinds_in, kinds_flow, Passed, passed}

-- flagged items whose brackets are in order where these are open
record BracketFits (l : Laid) (y : Flagging) : Type 0 where
  ks : Held
  chosen : Chosen (held l) ks y.1
  ordered : (s : Scope) (may : Bool) → (is_nonempty (kinds_in l.brackets) ≡ true → may ≡ is_opener l.last)
      → BracketsFrom (lexemes_flagged y.0) s (kinds_in l.brackets) may

fits_from : (a b : Laid) (y : Flagging) → Within (held a) (held b) → kinds_in a.brackets ≡ kinds_in b.brackets
    → is_opener a.last ≡ is_opener b.last → BracketFits a y → BracketFits b y
fits_from a b y w k e f = record {
  ks = f.ks;
  chosen = chosen_within (held a) (held b) f.ks y.1 w f.chosen;
  ordered = λ s may p. subst (λ bs. BracketsFrom (lexemes_flagged y.0) s bs may) k
      (f.ordered s may (λ q. p (ap (λ (bs : List Bracket). is_nonempty bs) (sym k) ∙ q) ∙ sym e));
}

pub fresh_kinds : (o : OptionsData) (m : Mark) (bs : List OpenBracket)
    → kinds_in (map (fresh_bracket o m) bs) ≡ kinds_in bs
fresh_kinds o m [] = refl
fresh_kinds o m (b ∷ bs) = ap (λ (ks : List Bracket). b.bracket ∷ ks) (fresh_kinds o m bs)

unfresh : (o : OptionsData) (m : Mark) (l : Laid) (y : Flagging) → BracketFits (fresh o m l) y → BracketFits l y
unfresh o m l y f = fits_from (fresh o m l) l y (fresh-within o m l) (fresh_kinds o m l.brackets) refl f

comment_fits : (l : Laid) (c : CommentRead) (y : Flagging) → BracketFits l y → BracketFits l (flag_item (OfComment c) y)
comment_fits l c y f = record { ks = f.ks; chosen = f.chosen; ordered = f.ordered }

-- ---- one lexeme

end_there : (kind : LexemeKind) (key : Option KeyStart) (fs : List Flagged) → (is_end_kind kind ≡ true → fs ≡ [])
    → EndsThere (terminal_kind kind key) fs
end_there StreamEnd key fs p = p refl
end_there kind key fs p = tt

module _ (l after : Laid) (x : Lexeme) (flow : x.in_flow ≡ is_in_flow l) (number : x.number ≡ l.number)
    (key : key_number x.key ≡ role_key (role_of x.kind x.key)) (p : Passed l x after) (y : Flagging)
    (last : is_end_kind x.kind ≡ true → lexemes_flagged y.0 ≡ []) (f : BracketFits after y) where
  ordered_as : (flag : Bool) → (flag ≡ true → p.new ≡ true) → (s : Scope) (may : Bool)
      → (is_nonempty (kinds_in l.brackets) ≡ true → may ≡ is_opener l.last)
      → BracketsFrom ((x, flag) ∷ lexemes_flagged y.0) s (kinds_in l.brackets) may
  ordered_as flag b s may q = (
    record {
      in_flow = flow ∙ sym (kinds_flow l.brackets);
      closes = ap (λ kind. closes_innermost kind (kinds_in l.brackets)) p.term_is ∙ p.closes;
      no_dash = λ e. ap (λ kind. is_dash_kind kind) p.term_is ∙ p.no_dash e;
      begins = λ e n. ap (λ kind. is_key_part kind flag) p.term_is ∙ p.begins flag b e (sym (q e) ∙ n);
    },
    end_there x.kind x.key (lexemes_flagged y.0) last,
    subst (λ bs. BracketsFrom (lexemes_flagged y.0) (next_scope (terminal_kind x.kind x.key) s) bs
        (may_follow (terminal_kind x.kind x.key)))
        (p.kinds ∙ ap (λ kind. open_behind kind (kinds_in l.brackets)) (sym p.term_is))
        (f.ordered (next_scope (terminal_kind x.kind x.key) s) (may_follow (terminal_kind x.kind x.key))
        (λ e. ap (λ kind. may_follow kind) p.term_is ∙ sym (p.last e))),
  )

  as_flagged : (flag : Bool) (before : Held) → (flag ≡ true → p.new ≡ true)
      → Chosen (held l) before (pending flag (role_of x.kind x.key) y.1) → BracketFits l (flag_lexeme flag x y)
  as_flagged true before b c = record {
    ks = before;
    chosen = subst (Chosen (held l) before)
        (sym (named x.key _ ∙ ap (λ k. and_number k (Rattle.granit_machine.specs.Lexing.others y.1)) key)) c;
    ordered =
        ordered_as true b;
  }
  as_flagged false before b c = record {
    ks = before;
    chosen = subst (Chosen (held l) before)
        (sym (named x.key _ ∙ ap (λ k. and_number k y.1) key)) c;
    ordered = ordered_as false b;
  }

  lexeme_fits : Below l.number (held l) → BracketFits l (flag_item (OfLexeme x) y)
  lexeme_fits b =
      let t = stepped (role_of x.kind x.key) p.new l.number (held l) (held after) f.ks y.1 (full l) b p.moves
      f.chosen in
      subst (λ flag. BracketFits l (flag_lexeme flag x y)) (sym (ap (λ n. is_nearest n y.1) number ∙ t.flags))
      (as_flagged t.flag t.before t.begun t.chosen)

-- ---- one read

pub closed_same : (sort : LexemeSort) (h : Here) (l : Laid)
    → (kinds_in (closed_for sort h l).brackets ≡ kinds_in l.brackets)
    × (is_opener (closed_for sort h l).last ≡ is_opener l.last)
closed_same TextEnd h l = (refl, refl)
closed_same Unprintable h l = (refl, refl)
closed_same StartMark h l = (refl, refl)
closed_same EndMark h l = (refl, refl)
closed_same DirectiveSign h l = (refl, refl)
closed_same (Placed sort) h l = (refl, refl)

pub run_flow : (sort : LexemeSort) (h : Here) (l : Laid)
    → is_in_flow (Rattle.granit_language.specs.Before.run_for sort h l) ≡ is_in_flow l
run_flow TextEnd h l = refl
run_flow Unprintable h l = refl
run_flow StartMark h l = refl
run_flow EndMark h l = refl
run_flow DirectiveSign h l = refl
run_flow (Placed sort) h l = Rattle.granit_reading.proofs.ReadingLaw.run_flow sort h l

record ReadFits (l : Laid) (items : List Item) (after : Laid) : Type 0 where
  below : Below after.number (held after)
  fits : (more : List Item) → (is_end items ≡ true → more ≡ []) → BracketFits after (flagging more)
      → BracketFits l (flagging (items ++ more))

noted_fits : (l after : Laid) (x : Lexeme) (note : Option CommentRead) (more : List Item)
    → ((y : Flagging) → (is_end_kind x.kind ≡ true → lexemes_flagged y.0 ≡ []) → BracketFits after y
    → BracketFits l (flag_item (OfLexeme x) y)) → (is_end_kind x.kind ≡ true → more ≡ [])
    → BracketFits after (flagging more) → BracketFits l (flagging ((OfLexeme x ∷ note_items note) ++ more))
noted_fits l after x None more step last f = step (flagging more)
    (λ e. ap (λ (is : List Item). lexemes_flagged (flagging is).0) (last e)) f
noted_fits l after x (Some c) more step last f = step (flag_item (OfComment c) (flagging more))
    (λ e. ap (λ (is : List Item). lexemes_flagged (flagging is).0) (last e)) (comment_fits after c (flagging more) f)

read_fits : (o : OptionsData) (s : ReaderState) {items : List Item} {after : ReaderState} → Reads o s items after
    → Below s.laid.number (held s.laid) → ReadFits s.laid items after.laid
read_fits o s (of_comment {comment = c} at g k) p =
    let a = gap_agrees g in
    let f = fresh o (mark_of at.here) at.laid in
    let w = subst (Within (held f)) (agrees_held a) (fresh-within o (mark_of at.here) at.laid) in
    record {
      below = below_within at.laid.number (held f) (held s.laid) w
          (subst (λ n. Below n (held s.laid)) (sym a.number) p);
      fits = λ more last g. comment_fits s.laid c (flagging more)
          (fits_from f s.laid (flagging more) w
          (fresh_kinds o (mark_of at.here) at.laid.brackets ∙ ap kinds_in a.brackets) a.last.opener g);
    }
read_fits o s (of_lexeme {items = items} at behind sort comes given keys) p =
    let a = gap_agrees comes.gap in
    let h = at.here in
    let f = (freshened o at).laid in
    let w = subst (Within (held f)) (agrees_held a) (fresh-within o (mark_of h) at.laid) in
    let q : Below f.number (held f) = below_within at.laid.number (held f) (held s.laid) w
    (subst (λ n. Below n (held s.laid)) (sym a.number) p) in
    let c = closed_for sort h f in
    let v = closed_held sort h f in
    let u = closed_same sort h f in
    let t = telling o (ends_column_by sort (freshened o at)) h _ sort items behind given.1 in
    let m = lexeme_moved o sort h c t.lexeme t.cut t.reached behind.laid t.told t.says t.leaves in
    let g = passed o h c t.lexeme t.cut t.reached behind.laid m sort t.says t.leaves in
    let r : Below c.number (held c) = subst (λ n. Below n (held c)) (sym v.0)
    (subst (λ hs. Below f.number hs) (sym v.1) q) in
    let b = fresh-within o (mark_of behind.here) behind.laid in
    record {
      below = below_within behind.laid.number (held (freshened o behind).laid) (held behind.laid) b
          (subst (λ n. Below n (held behind.laid)) (sym m.next)
          (below_moves (role_of t.lexeme.kind t.lexeme.key) g.new c.number (held c) (held behind.laid) r g.moves));
      fits = λ more last after.
          fits_from f s.laid (flagging (items ++ more)) w
          (fresh_kinds o (mark_of h) at.laid.brackets ∙ ap kinds_in a.brackets) a.last.opener
          (fits_from c f (flagging (items ++ more)) (subst (λ hs. Within hs (held f)) (sym v.1) (within_self (held f)))
          u.0 u.1
          (subst (λ (is : List Item). BracketFits c (flagging (is ++ more))) (sym t.are)
          (noted_fits c behind.laid t.lexeme t.note more
          (λ y end k. lexeme_fits c behind.laid t.lexeme (t.told.flow ∙ run_flow sort h c) m.number m.key g y end k r)
          (λ e. last (ap is_end t.are ∙ e)) (unfresh o (mark_of behind.here) behind.laid (flagging more) after))));
    }

all_fit : (o : OptionsData) {s t : ReaderState} {items : List Item} → Reached o s items t
    → Below s.laid.number (held s.laid) → BracketFits s.laid (flagging items)
all_fit o {s = s} stops p = record {
  ks = nones (held s.laid);
  chosen = chosen_none (held s.laid);
  ordered =
      λ s may p. tt;
}
all_fit o {s = s} (goes_on after items more r last rest e) p =
    let f = read_fits o s r p in
    subst (λ (l : List Item). BracketFits s.laid (flagging l)) (sym e) (f.fits more last (all_fit o rest f.below))

pub brackets_kept : (o : OptionsData) (x : List ℕ) (items : List Item) (t : ReaderState)
    → Reached o (reader_start (start_of x)) items t → BracketsFrom (read_lexemes items) no_scope [] false
brackets_kept o x items t r = (all_fit o r tt).ordered no_scope false (λ e. absurd cc)
