-- Where indentation is strict, what stands in flow stands right of each open column.
use Rattle.std.proofs.Common.{◌≡◌, ℕ, ◌≤◌, ◌<◌, Bool, true, false, arith, List, [], ◌∷◌, ◌++◌, Option, Some, None}
use Rattle.std.proofs.Common.{inl, inr, refl, sym, ap, ◌∙◌, subst}
use Rattle.std.proofs.lemmas.Bool.{both_ways}
use Rattle.std.specs.Prelude.{if◌then◌else◌, nat_lt}
use Rattle.std.proofs.lemmas.Bool.Decides.{nat_tests}
use Rattle.granit_base.specs.Place.{Mark}
use Rattle.granit_error.specs.OptionsData.{OptionsData}
use Rattle.granit_language.specs.Before.{freshened, with_run, in_front}
use Rattle.granit_language.specs.OpenColumns.{latest, Has, AtMost, Falls, columns_of, is_outer_kind}
use Rattle.granit_language.specs.Reached.{StandsInside, ends_column_by, Reads, of_comment, of_lexeme, Reached, stops}
use Rattle.granit_language.specs.Reached.{goes_on}
use Rattle.granit_lexemes.specs.Comment.{CommentRead}
use Rattle.granit_lexemes.specs.Here.{Here, mark_of}
use Rattle.granit_lexemes.specs.Lexeme.{LexemeKind, Lexeme, Item, OfLexeme, OfComment}
use Rattle.granit_lexemes.specs.declared.layout.OpenColumn.{OpenColumn}
use Rattle.granit_machine.specs.Columns.{up_to_column, closed_at}
use Rattle.granit_machine.specs.Laid.{Laid, is_in_flow}
use Rattle.granit_machine.specs.LexemeSort.{PlacedSort, OpenSign, AliasSign, AnchorSign, TagSign, BlockSign, QuoteSign}
use Rattle.granit_machine.specs.LexemeSort.{PlainSign, LexemeSort, TextEnd, StartMark, EndMark, DirectiveSign}
use Rattle.granit_machine.specs.LexemeSort.{Unprintable, Placed}
use Rattle.granit_machine.specs.NodeLexemes.{note_items}
use Rattle.granit_machine.specs.ReaderState.{ReaderState, reader_start}
use Rattle.granit_order.proofs.BracketsKept.{OpenSays}
use Rattle.granit_order.proofs.BracketsKept.{front_flow, some_of, cols}
use Rattle.granit_order.proofs.BracketsKept.{agrees_said, fresh_said, reads_said}
use Rattle.granit_order.proofs.BracketsPassed.{SaysOf}
use Rattle.granit_order.proofs.BracketsKept.{gap_agrees, telling}
use Rattle.granit_answers.specs.FlowLimit.{StandsRight, AllStandRight}

-- ---- columns

run_columns : (sort : PlacedSort) (h : Here) (l : Laid) → columns_of (with_run sort h l) ≡ columns_of l
run_columns (OpenSign bracket) h l = refl
run_columns AliasSign h l = refl
run_columns AnchorSign h l = refl
run_columns TagSign h l = refl
run_columns (BlockSign literal) h l = refl
run_columns (QuoteSign single) h l = refl
run_columns PlainSign h l = refl
run_columns sort h l = refl

-- in flow no column ends before a lexeme
kept : (sort : PlacedSort) (h : Here) (l : Laid) → is_in_flow l ≡ true →
    columns_of (in_front (Placed sort) h l) ≡ columns_of l
kept sort h l e =
    run_columns sort h (closed_at h.place.column l)
    ∙ ap (λ v. cols (if v then l.columns else up_to_column h.place.column l.columns)) e

not_left : (n column : ℕ) → (column ≤ n → ⊥) → n < column
not_left n column p = by (nat_lt n column) refl
  where
    by : (v : Bool) → nat_lt n column ≡ v → n < column
    by true e = grind (arith, nat_tests)
    by false e = absurd (p (grind (arith, nat_tests)))

not_more : (n column c : ℕ) → nat_lt n c ≡ false → n < column → c < column
not_more n column c e f = grind (arith, nat_tests)

at_most : (ns : List ℕ) (n c : ℕ) → AtMost n ns → Has c ns → nat_lt n c ≡ false
at_most [] n c a h = absurd h
at_most (m ∷ ns) n c a (inl e) = ap (nat_lt n) (sym e) ∙ a.0
at_most (m ∷ ns) n c a (inr h) = at_most ns n c a.1 h

-- right of the innermost column it stands right of each
right_of : (cs : List OpenColumn) (column c : ℕ) →
    ((b : OpenColumn) (bs : List OpenColumn) → cs ≡ b ∷ bs → column ≤ b.column → ⊥) → Falls (cols cs) →
    Has c (cols cs) → c < column
right_of [] column c p f h = absurd h
right_of (b ∷ bs) column c p f (inl e) = subst (λ c. c < column) e (not_left b.column column (p b bs refl))
right_of (b ∷ bs) column c p f (inr h) =
    not_more b.column column c (at_most (cols bs) b.column c f.0 h) (not_left b.column column (p b bs refl))

-- ---- one lexeme

outer : (o : OptionsData) (ls : List Lexeme) (x : Lexeme) (kind : LexemeKind) → x.kind ≡ kind →
    is_outer_kind kind ≡ true → StandsRight o ls x
outer o ls x kind e f strict flow k c kept_open =
    absurd (both_ways (is_outer_kind x.kind) k (ap is_outer_kind e ∙ f))

module _ (o : OptionsData) (ls : List Lexeme) (h : Here) (l : Laid) (n : OpenSays ls l) (x : Lexeme)
    (start : x.start ≡ mark_of h) (flow : x.in_flow ≡ is_in_flow l) where
  stands : (sort : PlacedSort) → StandsInside o (Placed sort) h (in_front (Placed sort) h l) → StandsRight o ls x
  stands sort p strict f k c opened =
      let m = in_front (Placed sort) h l in
      let e = sym flow ∙ f in
      let inside = some_of m.brackets (front_flow (Placed sort) h l ∙ e) in
      let same = kept sort h l e in
      subst (λ (m : Mark). c < m.place.column) (sym start)
      (right_of m.columns h.place.column c
      (λ b bs is le. p ((record { bracket = inside.0; around = inside.1; is = inside.2 }, strict), (b, bs, is, le)))
      (subst Falls (sym same) n.columns.fall) (subst (Has c) (sym same) (n.columns.are_kept c opened)))

  stands_by : (sort : LexemeSort) → SaysOf sort h (in_front sort h l) x → StandsInside o sort h (in_front sort h l) →
      StandsRight o ls x
  stands_by TextEnd s p = outer o ls x _ s.0.is refl
  stands_by StartMark s p = outer o ls x _ s.0.is refl
  stands_by EndMark s p = outer o ls x _ s.0.is refl
  stands_by DirectiveSign s p = outer o ls x _ s.1.is refl
  stands_by Unprintable s p = absurd s
  stands_by (Placed sort) s p = stands sort p

-- ---- all

noted_right : (o : OptionsData) (ls : List Lexeme) (x : Lexeme) (note : Option CommentRead) → StandsRight o ls x →
    AllStandRight o ls (OfLexeme x ∷ note_items note)
noted_right o ls x None p = (p, tt)
noted_right o ls x (Some c) p = (p, tt)

read_right : (o : OptionsData) (ls : List Lexeme) {s after : ReaderState} {items : List Item} → Reads o s items after →
    OpenSays ls s.laid → AllStandRight o ls items
read_right o ls (of_comment at g k) m = tt
read_right o ls {s = s} (of_lexeme {items = items} at behind sort comes given keys) m =
    let f = freshened o at in
    let n = fresh_said o ls at (agrees_said ls s.laid at.laid (gap_agrees comes.gap) m) in
    let t = telling o (ends_column_by sort f) f.here _ sort items behind given.1 in
    subst (AllStandRight o ls) (sym t.are)
    (noted_right o ls t.lexeme t.note
    (stands_by o ls f.here f.laid n t.lexeme t.told.start (t.told.flow
    ∙ front_flow sort f.here f.laid) sort t.says given.0))

right_joined : (o : OptionsData) (ls : List Lexeme) (items more : List Item) → AllStandRight o ls items →
    AllStandRight o (latest items ls) more → AllStandRight o ls (items ++ more)
right_joined o ls [] more p q = q
right_joined o ls (OfLexeme x ∷ is) more p q = (p.0, right_joined o (x ∷ ls) is more p.1 q)
right_joined o ls (OfComment c ∷ is) more p q = right_joined o ls is more p q

all_right : (o : OptionsData) (ls : List Lexeme) {s t : ReaderState} {items : List Item} → Reached o s items t →
    OpenSays ls s.laid → AllStandRight o ls items
all_right o ls stops m = tt
all_right o ls (goes_on next items more r last rest e) m =
    subst (AllStandRight o ls) (sym e)
    (right_joined o ls items more (read_right o ls r m) (all_right o (latest items ls) rest (reads_said o ls r m)))

pub flow_stands_right : (o : OptionsData) (h : Here) (items : List Item) (t : ReaderState) →
    Reached o (reader_start h) items t →
    AllStandRight o [] items
flow_stands_right o h items t r =
    all_right o [] r (record { columns = record { are_open = λ c p. p; are_kept = λ c p. p; fall = tt }; key = tt })
