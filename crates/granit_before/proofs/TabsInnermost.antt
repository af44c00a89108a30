-- In the innermost column a tab may stand where the lexemes say so.
use Rattle.std.proofs.Common.{◌≡◌, ℕ, ◌<◌, Bool, true, false, ◌&&◌, ◌||◌, not, List, [], ◌∷◌}
use Rattle.std.proofs.Common.{◌⊎◌, inl, inr, refl, sym, ap, ◌∙◌, subst, arith}
use Rattle.std.proofs.Math.Bool.{or-false}
use Rattle.std.proofs.Math.Nat.{le_refl}
use Rattle.std.proofs.lemmas.Bool.{le-ltb}
use Rattle.std.specs.Bool.{Decides}
use Rattle.std.specs.Prelude.{if◌then◌else◌, nat_lt, nat_le, drop}
use Rattle.std.proofs.lemmas.Bool.Decides.{nat_tests, Decides-at}
use Rattle.granit_base.specs.Place.{Mark, first}
use Rattle.granit_language.specs.Before.{in_front}
use Rattle.granit_language.specs.OpenColumns.{is_outer_kind, IsOpenColumn, LeavesOpen, Has, Falls}
use Rattle.granit_language.specs.OpenColumns.{ColumnsSay}
use Rattle.granit_lexemes.specs.Here.{Here, mark_of}
use Rattle.granit_lexemes.specs.LayoutData.{is_left}
use Rattle.granit_lexemes.specs.Lexeme.{LexemeKind, StreamEnd, Open, Dash, Colon, Lexeme, is_opener_kind}
use Rattle.granit_lexemes.specs.declared.layout.OpenColumn.{OpenColumn}
use Rattle.granit_machine.specs.Columns.{chosen_columns, up_to_column}
use Rattle.granit_machine.specs.IndicatorLexemes.{is_before_break}
use Rattle.granit_machine.specs.Laid.{Laid, is_nonempty, is_in_flow, block_column, innermost_column}
use Rattle.granit_machine.specs.LexemeSort.{PlacedSort, OpenSign, CloseSign, CommaSign, DashSign, QuestionSign}
use Rattle.granit_machine.specs.LexemeSort.{ColonSign, AliasSign, AnchorSign, TagSign, BlockSign, QuoteSign, PlainSign}
use Rattle.granit_machine.specs.LexemeSort.{StrayMark, NoSign, LexemeSort, TextEnd, StartMark, EndMark, DirectiveSign}
use Rattle.granit_machine.specs.LexemeSort.{Unprintable, Placed}
use Rattle.granit_machine.specs.PossibleKeys.{top_key}
use Rattle.granit_places.proofs.ColumnsKept.{at_most_has}
use Rattle.granit_places.proofs.ColumnsLaw.{front_flow, cols}
use Rattle.granit_places.proofs.Telling.{SaysOf}
use Rattle.granit_before.proofs.TabsLeft.{left_of, Styled, flow_tabs, placed_columns, placed_rolled, outer_rolled}
use Rattle.granit_before.proofs.TabsLeft.{question_rolled, colon_rolled}
use Rattle.granit_before.specs.Tabs.{ends_sign, AsksFurther, keeps_in_flow}
use Rattle.granit_before.specs.Tabs.{keeps_outside, RightOfColumns, StillSo, in_flow, outside, at_end, IndentsFurther}
use Rattle.granit_before.specs.Tabs.{behind_sign, behind_opener, still_so}

-- ---- columns that are open

below_right : (d c k : ℕ) → not (nat_le k d) ≡ true → nat_lt d c ≡ false → c < k
below_right d c k e f = grind (arith, nat_tests, e, f)

right_below : (d k : ℕ) → d < k → not (nat_le k d) ≡ true
right_below d k e = grind (arith, nat_tests, e)

-- whether a lexeme stands right of the innermost column decides whether it does of each
right_decided :
    (ls : List Lexeme) (l : Laid) (x : Lexeme) (k : ℕ) → ColumnsSay ls l → x.start.place.column ≡ k →
    Decides (not (is_left (block_column l) k)) (RightOfColumns ls x)
right_decided ls l x k said at = on l.columns refl
  where
    on : (cs : List OpenColumn) → l.columns ≡ cs →
        Decides (not (is_left (innermost_column cs) k)) (RightOfColumns ls x)
    on [] e = (λ f c p. absurd (subst (Has c) (ap cols e) (said.are_kept c p)), λ p. refl)
    on (d ∷ ds) e = (
      λ f c p. subst (λ k. c < k) (sym at)
          (below_right d.column c k f (by c (subst (Has c) (ap cols e) (said.are_kept c p)))),
      λ p. right_below d.column k
          (subst (λ k. d.column < k) at (p d.column (said.are_open d.column
          (subst (Has d.column) (sym (ap cols e)) (inl refl))))),
    )
      where
        falls : Falls (cols (d ∷ ds))
        falls = subst Falls (ap cols e) said.fall

        by : (c : ℕ) → Has c (cols (d ∷ ds)) → nat_lt d.column c ≡ false
        by c (inl q) = subst (λ c. nat_lt d.column c ≡ false) q (le-ltb d.column d.column (le_refl d.column))
        by c (inr q) = at_most_has d.column c (cols ds) falls.0 q

kept_some : (k : ℕ) (cs : List OpenColumn) → is_nonempty (up_to_column k cs) ≡ true →
    (c : ℕ) × Has c (cols cs) × (nat_lt k c ≡ false)
kept_some k [] e = absurd cc
kept_some k (c ∷ cs) e = on (nat_lt k c.column) refl (λ e. kept_some k cs e) e
  where
    on : (v : Bool) → nat_lt k c.column ≡ v →
        (is_nonempty (up_to_column k cs) ≡ true → (d : ℕ) × Has d (cols cs) × (nat_lt k d ≡ false)) →
        is_nonempty (chosen_columns v (up_to_column k cs) (c ∷ cs)) ≡ true →
        (d : ℕ) × Has d (cols (c ∷ cs)) × (nat_lt k d ≡ false)
    on true f more e = let r = more e in (r.0, inr r.1, r.2)
    on false f more e = (c.column, inl refl, f)

some_kept : (k c : ℕ) (cs : List OpenColumn) → Has c (cols cs) → nat_lt k c ≡ false →
    is_nonempty (up_to_column k cs) ≡ true
some_kept k c [] h f = absurd h
some_kept k c (d ∷ ds) h f = on (nat_lt k d.column) refl (λ h. some_kept k c ds h f) h
  where
    on : (v : Bool) → nat_lt k d.column ≡ v →
        (Has c (cols ds) → is_nonempty (up_to_column k ds) ≡ true) → Has c (cols (d ∷ ds)) →
        is_nonempty (chosen_columns v (up_to_column k ds) (d ∷ ds)) ≡ true
    on true g more (inl e) = absurd (let z = sym g ∙ (ap (λ c. nat_lt k c) e ∙ f) in cc)
    on true g more (inr e) = more e
    on false g more e = refl

-- ---- what a lexeme says

abbrev pub asks_kind : LexemeKind → Bool
asks_kind Dash = true
asks_kind Colon = true
asks_kind kind = false

pub no_asks : (text : List ℕ) (x : Lexeme) {kind : LexemeKind} → x.kind ≡ kind → asks_kind kind ≡ false →
    AsksFurther text x → ⊥
no_asks text x e n (inl c) = let z = ap asks_kind (sym c.colon ∙ e) ∙ n in cc
no_asks text x e n (inr d) = let z = ap asks_kind (sym d.dash ∙ e) ∙ n in cc

-- a `:` in flow asks for nothing
pub no_colon : (text : List ℕ) (x : Lexeme) → x.kind ≡ Colon → x.in_flow ≡ true → AsksFurther text x → ⊥
no_colon text x e f (inl c) = let z = sym c.outside ∙ f in cc
no_colon text x e f (inr d) = let z = ap is_opener_kind (sym d.dash ∙ e) in let y = sym d.dash ∙ e in cc

module _ (text : List ℕ) (ls : List Lexeme) (x : Lexeme) where
  abbrev Opens : Type 0
  Opens = (c : ℕ) × (is_opener_kind x.kind ≡ true) × (x.in_flow ≡ false) × IsOpenColumn ls c × LeavesOpen x c

  parts : IndentsFurther text (x ∷ ls) →
      AsksFurther text x ⊎ (Opens ⊎ (StillSo ls x × IndentsFurther text ls))
  parts (behind_sign a) = inl a
  parts (behind_opener c o f i p) = inr (inl (c, o, f, i, p))
  parts (still_so s m) = inr (inr (s, m))

  kept_decides : (b : Bool) → Decides b (IndentsFurther text ls) → StillSo ls x → (AsksFurther text x → ⊥) →
      (Opens → ⊥) → Decides b (IndentsFurther text (x ∷ ls))
  kept_decides b d s n m = (
    λ e. still_so s (d.0 e),
    λ p. elim (parts p) [
      | inl q ↦ absurd (n q)
      | inr q ↦ elim q [ inl r ↦ absurd (m r) | inr r ↦ d.1 r.1 ]
    ],
  )

  ends_decides : (AsksFurther text x → ⊥) → (Opens → ⊥) → (StillSo ls x → ⊥) →
      Decides false (IndentsFurther text (x ∷ ls))
  ends_decides n m s = (
    λ e. absurd cc,
    λ p. elim (parts p) [
      | inl q ↦ absurd (n q)
      | inr q ↦ elim q [ inl r ↦ absurd (m r) | inr r ↦ absurd (s r.0) ]
    ],
  )

  both : (a b : Bool) → a ≡ true → b ≡ true → (a && b) ≡ true
  both a b e f = ap (λ a. a && b) e ∙ f

  and_left : (a b : Bool) → (a && b) ≡ true → a ≡ true
  and_left true b e = refl
  and_left false b e = e

  and_right : (a b : Bool) → (a && b) ≡ true → b ≡ true
  and_right true b e = e
  and_right false b e = absurd cc

  right_of : StillSo ls x → x.in_flow ≡ false → is_outer_kind x.kind ≡ false → RightOfColumns ls x
  right_of (in_flow f k) g o = absurd (let z = sym f ∙ g in cc)
  right_of (outside f k r) g o = r
  right_of (at_end e) g o = absurd (let z = ap is_outer_kind (sym e) ∙ o in cc)

  -- outside flow what says nothing new keeps what was said where it stands right of the columns
  right_decides : (b r : Bool) → Decides b (IndentsFurther text ls) → Decides r (RightOfColumns ls x) →
      x.in_flow ≡ false → keeps_outside x.kind ≡ true → is_outer_kind x.kind ≡ false →
      (AsksFurther text x → ⊥) → (Opens → ⊥) → Decides (b && r) (IndentsFurther text (x ∷ ls))
  right_decides b r d k f o u n m = (
    λ e. still_so (outside f o (k.0 (and_right b r e))) (d.0 (and_left b r e)),
    λ p. elim (parts p) [
      | inl q ↦ absurd (n q)
      | inr q ↦ elim q [ inl r ↦ absurd (m r) | inr s ↦ both b r (d.1 s.1) (k.1 (right_of s.0 f u)) ]
    ],
  )

  or_left : (a b : Bool) → a ≡ true → (a || b) ≡ true
  or_left a b e = ap (λ a. a || b) e

  or_right : (a b : Bool) → b ≡ true → (a || b) ≡ true
  or_right true b e = refl
  or_right false b e = e

  -- an opener does too, and else it says so inside a block collection
  opener_decides : (b r s : Bool) → Decides b (IndentsFurther text ls) → Decides r (RightOfColumns ls x) →
      Decides s ((c : ℕ) × IsOpenColumn ls c × LeavesOpen x c) →
      x.in_flow ≡ false → keeps_outside x.kind ≡ true → is_outer_kind x.kind ≡ false →
      is_opener_kind x.kind ≡ true → (AsksFurther text x → ⊥) →
      Decides ((b && r) || s) (IndentsFurther text (x ∷ ls))
  opener_decides b r s d k t f o u i n = (
    λ e. on (b && r) refl e,
    λ p. elim (parts p) [
      | inl q ↦ absurd (n q)
      | inr q ↦ elim q [
        | inl v ↦ or_right (b && r) s (t.1 (v.0, v.3, v.4))
        | inr v ↦ or_left (b && r) s (both b r (d.1 v.1) (k.1 (right_of v.0 f u)))
      ]
    ],
  )
    where
      on : (v : Bool) → (b && r) ≡ v → (v || s) ≡ true → IndentsFurther text (x ∷ ls)
      on true e g = still_so (outside f o (k.0 (and_right b r e))) (d.0 (and_left b r e))
      on false e g = let y = t.0 g in behind_opener y.0 i f y.1 y.2

-- ---- one lexeme

nonempty_flow : (l : Laid) → l.brackets ≡ [] → is_in_flow l ≡ false
nonempty_flow l e = ap is_nonempty e

module _ (text : List ℕ) (ls : List Lexeme) (l : Laid) (said : ColumnsSay ls l)
    (d : Decides l.rolled (IndentsFurther text ls)) (h g : Here) (x : Lexeme) (start : x.start ≡ mark_of h)
    (flow : x.in_flow ≡ is_in_flow l)
    (there : x.end ≡ mark_of g → drop x.end.place.index text ≡ g.unread.text) where
  abbrev Goal : Bool → Type 0
  Goal b = Decides b (IndentsFurther text (x ∷ ls))

  column : x.start.place.column ≡ h.place.column
  column = ap (λ (m : Mark). m.place.column) start

  abbrev front : LexemeSort → Laid
  front sort = in_front sort h l

  abbrev right : Bool
  right = not (is_left (block_column l) h.place.column)

  right_is : Decides right (RightOfColumns ls x)
  right_is = right_decided ls l x h.place.column said column

  no_flow : (sort : LexemeSort) → (front sort).brackets ≡ [] → is_in_flow l ≡ true → ⊥
  no_flow sort e f = let z = sym (nonempty_flow (front sort) e) ∙ (front_flow sort h l ∙ f) in cc

  -- ---- in flow
  module _ (inside : is_in_flow l ≡ true) where
    abbrev in_flow_here : x.in_flow ≡ true
    in_flow_here = flow ∙ inside

    not_outside : x.in_flow ≡ false → ⊥
    not_outside f = let z = sym in_flow_here ∙ f in cc

    passing : (sort : LexemeSort) {kind : LexemeKind} (b : Bool) → b ≡ (front sort).rolled → x.kind ≡ kind →
        keeps_in_flow kind ≡ true → (AsksFurther text x → ⊥) → Goal b
    passing sort b e is k n =
        Decides-at b l.rolled (e ∙ (flow_tabs sort h l inside).rolled)
        (kept_decides text ls x l.rolled d (in_flow in_flow_here (ap keeps_in_flow is ∙ k)) n (λ o. not_outside o.2))

    ending : {kind : LexemeKind} → x.kind ≡ kind → keeps_in_flow kind ≡ false → asks_kind kind ≡ false →
        (kind ≡ StreamEnd → ⊥) → Goal false
    ending {kind = kind} is k a s =
        ends_decides text ls x (no_asks text x is a) (λ o. not_outside o.2) (λ p. still p)
      where
        still : StillSo ls x → ⊥
        still (in_flow f y) = let z = sym (ap keeps_in_flow is ∙ k) ∙ y in cc
        still (outside f y r) = not_outside f
        still (at_end e) = s (sym is ∙ e)

    flow_step : (sort : LexemeSort) → SaysOf sort h (front sort) x → Styled sort g x →
        Goal (left_of sort g h (front sort)).rolled
    flow_step TextEnd s t = absurd (no_flow TextEnd s.1 inside)
    flow_step StartMark s t = absurd (no_flow StartMark s.1 inside)
    flow_step EndMark s t = absurd (no_flow EndMark s.1 inside)
    flow_step DirectiveSign s t = passing DirectiveSign _ refl s.1.is refl (no_asks text x s.1.is refl)
    flow_step Unprintable s t = absurd s
    flow_step (Placed (OpenSign bracket)) s t =
        let m = front (Placed (OpenSign bracket)) in
        passing (Placed (OpenSign bracket)) _
        (ap (λ v. m.rolled || (not v && is_nonempty m.columns)) (front_flow (Placed (OpenSign bracket)) h l ∙ inside)
        ∙ or-false m.rolled) s.is refl (no_asks text x s.is refl)
    flow_step (Placed (CloseSign bracket)) s t =
        passing (Placed (CloseSign bracket)) _ refl s.0.is refl (no_asks text x s.0.is refl)
    flow_step (Placed CommaSign) s t = passing (Placed CommaSign) _ refl s.is refl (no_asks text x s.is refl)
    flow_step (Placed DashSign) s t =
        absurd (let z = sym s.1 ∙ (front_flow (Placed DashSign) h l ∙ inside) in cc)
    flow_step (Placed QuestionSign) s t =
        let m = front (Placed QuestionSign) in
        passing (Placed QuestionSign) _
        (question_rolled (is_in_flow m) h m
        ∙ ap (λ v. v && m.rolled) (front_flow (Placed QuestionSign) h l ∙ inside)) s.0.is refl
        (no_asks text x s.0.is refl)
    flow_step (Placed ColonSign) s t =
        let m = front (Placed ColonSign) in
        passing (Placed ColonSign) _
        (colon_rolled (is_in_flow m) (top_key m) h m
        ∙ ap (λ v. if v then m.rolled else true) (front_flow (Placed ColonSign) h l ∙ inside)) s.0 refl
        (no_colon text x s.0 in_flow_here)
    flow_step (Placed AliasSign) s t = passing (Placed AliasSign) _ refl s.1.is refl (no_asks text x s.1.is refl)
    flow_step (Placed AnchorSign) s t = passing (Placed AnchorSign) _ refl s.1.is refl (no_asks text x s.1.is refl)
    flow_step (Placed TagSign) s t = passing (Placed TagSign) _ refl s.2.is refl (no_asks text x s.2.is refl)
    flow_step (Placed (BlockSign true)) s t = ending t.1 refl refl (λ e. absurd cc)
    flow_step (Placed (BlockSign false)) s t = ending t.1 refl refl (λ e. absurd cc)
    flow_step (Placed (QuoteSign true)) s t =
        passing (Placed (QuoteSign true)) _ refl t.1 refl (no_asks text x t.1 refl)
    flow_step (Placed (QuoteSign false)) s t =
        passing (Placed (QuoteSign false)) _ refl t.1 refl (no_asks text x t.1 refl)
    flow_step (Placed PlainSign) s t = ending t.1 refl refl (λ e. absurd cc)
    flow_step (Placed StrayMark) s t = absurd s
    flow_step (Placed NoSign) s t = absurd s

  -- ---- outside flow
  module _ (out : is_in_flow l ≡ false) where
    abbrev outside_here : x.in_flow ≡ false
    outside_here = flow ∙ out

    no_opener : {kind : LexemeKind} → x.kind ≡ kind → is_opener_kind kind ≡ false → Opens text ls x → ⊥
    no_opener is n o = let z = sym o.1 ∙ (ap is_opener_kind is ∙ n) in cc

    stays : (sort : PlacedSort) {kind : LexemeKind} (b : Bool) → b ≡ (front (Placed sort)).rolled → x.kind ≡ kind →
        keeps_outside kind ≡ true → is_outer_kind kind ≡ false → asks_kind kind ≡ false →
        is_opener_kind kind ≡ false → Goal b
    stays sort b e is k u a n =
        Decides-at b (l.rolled && right) (e ∙ placed_rolled sort h l out)
        (right_decides text ls x l.rolled right d right_is outside_here (ap keeps_outside is ∙ k)
        (ap is_outer_kind is ∙ u) (no_asks text x is a) (no_opener is n))

    forgets : {kind : LexemeKind} (b : Bool) → b ≡ false → x.kind ≡ kind → keeps_outside kind ≡ false →
        (AsksFurther text x → ⊥) → is_opener_kind kind ≡ false → (kind ≡ StreamEnd → ⊥) → Goal b
    forgets {kind = kind} b e is k a n s =
        Decides-at b false e (ends_decides text ls x a (no_opener is n) (λ p. still p))
      where
        still : StillSo ls x → ⊥
        still (in_flow f y) = let z = sym outside_here ∙ f in cc
        still (outside f y r) = let z = sym (ap keeps_outside is ∙ k) ∙ y in cc
        still (at_end e) = s (sym is ∙ e)

    asks : AsksFurther text x → Goal true
    asks a = (λ e. behind_sign a, λ p. refl)

    opens_is : {kind : LexemeKind} → x.kind ≡ kind → is_outer_kind kind ≡ false →
        Decides (is_nonempty (up_to_column h.place.column l.columns)) ((c : ℕ) × IsOpenColumn ls c × LeavesOpen x c)
    opens_is is u = (
      λ e. let r = kept_some h.place.column l.columns e in (
        r.0,
        said.are_open r.0 r.1,
        λ f. (ap is_outer_kind is ∙ u, ap (λ k. nat_lt k r.0) column ∙ r.2),
      ),
      λ p. some_kept h.place.column p.0 l.columns (said.are_kept p.0 p.1)
          (sym (ap (λ k. nat_lt k p.0) column) ∙ (p.2 outside_here).1),
    )

    opener_step : (bracket : Rattle.granit_lexemes.specs.declared.layout.Bracket.Bracket) → x.kind ≡ Open bracket →
        Goal (left_of (Placed (OpenSign bracket)) g h (front (Placed (OpenSign bracket)))).rolled
    opener_step bracket is =
        let sort = OpenSign bracket in
        let m = front (Placed sort) in
        Decides-at (m.rolled || (not (is_in_flow m) && is_nonempty m.columns))
        ((l.rolled && right) || is_nonempty (up_to_column h.place.column l.columns))
        (ap (λ v. m.rolled || (not v && is_nonempty m.columns)) (front_flow (Placed sort) h l ∙ out)
        ∙ (ap (λ (cs : List OpenColumn). m.rolled || is_nonempty cs) (placed_columns sort h l out)
        ∙ ap (λ b. b || is_nonempty (up_to_column h.place.column l.columns)) (placed_rolled sort h l out)))
        (opener_decides text ls x l.rolled right (is_nonempty (up_to_column h.place.column l.columns)) d right_is
        (opens_is is refl) outside_here (ap keeps_outside is) (ap is_outer_kind is) (ap is_opener_kind is)
        (no_asks text x is refl))

    -- a `-` asks for a node further right where nothing but its tail stands behind it
    dash_step : x.kind ≡ Dash → x.end ≡ mark_of g → (v : Bool) → is_before_break g ≡ v → Goal v
    dash_step is e true b =
        asks (inr (record { dash = is; bare = ap (λ (t : List ℕ). ends_sign (first t)) (there e) ∙ b }))
    dash_step is e false b =
        forgets false refl is refl (λ a. bare a) refl (λ e. absurd cc)
      where
        bare : AsksFurther text x → ⊥
        bare (inl c) = let z = sym c.colon ∙ is in cc
        bare (inr c) = let z = sym (ap (λ (t : List ℕ). ends_sign (first t)) (there e) ∙ b) ∙ c.bare in cc

    out_step : (sort : LexemeSort) → SaysOf sort h (front sort) x → Styled sort g x →
        Goal (left_of sort g h (front sort)).rolled
    out_step TextEnd s t =
        kept_decides text ls x l.rolled d (at_end s.0.is) (no_asks text x s.0.is refl) (no_opener s.0.is refl)
    out_step StartMark s t =
        forgets _ (outer_rolled StartMark h l tt out) s.0.is refl (no_asks text x s.0.is refl) refl (λ e. absurd cc)
    out_step EndMark s t =
        forgets _ (outer_rolled EndMark h l tt out) s.0.is refl (no_asks text x s.0.is refl) refl (λ e. absurd cc)
    out_step DirectiveSign s t =
        forgets _ (outer_rolled DirectiveSign h l tt out) s.1.is refl (no_asks text x s.1.is refl) refl
        (λ e. absurd cc)
    out_step Unprintable s t = absurd s
    out_step (Placed (OpenSign bracket)) s t = opener_step bracket s.is
    out_step (Placed (CloseSign bracket)) s t =
        let m = front (Placed (CloseSign bracket)) in
        let b = Rattle.granit_places.proofs.Moving.left_open m.brackets bracket s.1 in
        absurd (let z = sym (ap is_nonempty b.2) ∙ (front_flow (Placed (CloseSign bracket)) h l ∙ out) in cc)
    out_step (Placed CommaSign) s t = stays CommaSign _ refl s.is refl refl refl refl
    out_step (Placed DashSign) s t = dash_step s.0.is t (is_before_break g) refl
    out_step (Placed QuestionSign) s t =
        let m = front (Placed QuestionSign) in
        forgets _
        (question_rolled (is_in_flow m) h m
        ∙ ap (λ v. v && m.rolled) (front_flow (Placed QuestionSign) h l ∙ out)) s.0.is refl
        (no_asks text x s.0.is refl) refl (λ e. absurd cc)
    out_step (Placed ColonSign) s t =
        let m = front (Placed ColonSign) in
        Decides-at _ true
        (colon_rolled (is_in_flow m) (top_key m) h m
        ∙ ap (λ v. if v then m.rolled else true) (front_flow (Placed ColonSign) h l ∙ out))
        (asks (inl (record { colon = s.0; outside = outside_here })))
    out_step (Placed AliasSign) s t = stays AliasSign _ refl s.1.is refl refl refl refl
    out_step (Placed AnchorSign) s t = stays AnchorSign _ refl s.1.is refl refl refl refl
    out_step (Placed TagSign) s t = stays TagSign _ refl s.2.is refl refl refl refl
    out_step (Placed (BlockSign true)) s t =
        forgets _ refl t.1 refl (no_asks text x t.1 refl) refl (λ e. absurd cc)
    out_step (Placed (BlockSign false)) s t =
        forgets _ refl t.1 refl (no_asks text x t.1 refl) refl (λ e. absurd cc)
    out_step (Placed (QuoteSign true)) s t = stays (QuoteSign true) _ refl t.1 refl refl refl refl
    out_step (Placed (QuoteSign false)) s t = stays (QuoteSign false) _ refl t.1 refl refl refl refl
    out_step (Placed PlainSign) s t =
        forgets _ refl t.1 refl (no_asks text x t.1 refl) refl (λ e. absurd cc)
    out_step (Placed StrayMark) s t = absurd s
    out_step (Placed NoSign) s t = absurd s

  pub rolled_step : (sort : LexemeSort) → SaysOf sort h (front sort) x → Styled sort g x →
      Goal (left_of sort g h (front sort)).rolled
  rolled_step sort s t = on (is_in_flow l) refl
    where
      on : (v : Bool) → is_in_flow l ≡ v → Goal (left_of sort g h (front sort)).rolled
      on true e = flow_step e sort s t
      on false e = out_step e sort s t
