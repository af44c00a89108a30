-- In each open column tabs may stand where the lexemes say so.
use Rattle.std.proofs.Common.{◌≡◌, ℕ, ◌<◌, ◌==◌, Bool, true, false, List, [], ◌∷◌, map, Option, Some, None, ◌⊎◌}
use Rattle.std.proofs.Common.{inl, inr, refl, sym, ap, ◌∙◌, subst, arith}
use Rattle.std.proofs.lemmas.Bool.{eqb-true}
use Rattle.std.specs.Bool.{Decides}
use Rattle.std.specs.Prelude.{if◌then◌else◌, nat_lt, drop}
use Rattle.std.proofs.lemmas.Bool.Decides.{nat_tests}
use Rattle.granit_base.specs.Place.{Mark, first}
use Rattle.granit_places.proofs.ColumnsLaw.{is_below}
use Rattle.granit_language.specs.Before.{in_front, behind_colon, behind_question_sign}
use Rattle.granit_language.specs.OpenColumns.{EntryOf, IsEntry, Has, AtMost}
use Rattle.granit_lexemes.specs.Here.{Here, mark_of}
use Rattle.granit_lexemes.specs.Lexeme.{LexemeKind, Dash, KeyStart, Lexeme, is_opener_kind}
use Rattle.granit_lexemes.specs.declared.layout.OpenBracket.{OpenBracket}
use Rattle.granit_lexemes.specs.declared.layout.OpenColumn.{OpenColumn}
use Rattle.granit_lexemes.specs.declared.layout.PossibleKey.{PossibleKey}
use Rattle.granit_machine.specs.Columns.{widened, chosen_columns, up_to_column, entered_columns}
use Rattle.granit_machine.specs.IndicatorLexemes.{is_before_break}
use Rattle.granit_machine.specs.Laid.{Laid, is_nonempty, is_in_flow, innermost_column, is_column}
use Rattle.granit_machine.specs.LexemeSort.{PlacedSort, OpenSign, CloseSign, CommaSign, DashSign, QuestionSign}
use Rattle.granit_machine.specs.LexemeSort.{ColonSign, AliasSign, AnchorSign, TagSign, BlockSign, QuoteSign, PlainSign}
use Rattle.granit_machine.specs.LexemeSort.{StrayMark, NoSign, LexemeSort, TextEnd, StartMark, EndMark, DirectiveSign}
use Rattle.granit_machine.specs.LexemeSort.{Unprintable, Placed}
use Rattle.granit_machine.specs.PossibleKeys.{key_in, top_key}
use Rattle.granit_places.proofs.ColumnsKept.{KeySays, OpenSays}
use Rattle.granit_places.proofs.ColumnsLaw.{front_flow, cols}
use Rattle.granit_places.proofs.Moving.{left_open}
use Rattle.granit_places.proofs.Telling.{SaysOf}
use Rattle.granit_before.proofs.TabsInnermost.{asks_kind, no_asks, no_colon}
use Rattle.granit_before.proofs.TabsLeft.{left_of, Styled, flow_tabs, placed_columns, outer_columns}
use Rattle.granit_before.specs.Tabs.{ends_sign, AsksFurther, IsWideColumn}

-- ---- columns, each right of those around it, and whether each is wide

abbrev pub Below : ℕ → List OpenColumn → Type 0
Below n [] = Unit {0}
Below n (c ∷ cs) = (c.column < n) × Below n cs

abbrev AtEach : ℕ → List OpenColumn → Type 0
AtEach k [] = Unit {0}
AtEach k (c ∷ cs) = (nat_lt k c.column ≡ false) × AtEach k cs

abbrev pub Widths : (text : List ℕ) → List Lexeme → List OpenColumn → Type 0
Widths text ls [] = Unit {0}
Widths text ls (c ∷ cs) = Decides c.is_wide (IsWideColumn text ls c.column) × Below c.column cs × Widths text ls cs

less_then : (a n k : ℕ) → a < n → nat_lt k n ≡ false → nat_lt k a ≡ false
less_then a n k e f = grind (arith, nat_tests, e, f)

less_on : (a n k : ℕ) → a < n → n < k → a < k
less_on a n k e f = omega (arith, e, f)

never_below : (n : ℕ) → n < n → ⊥
never_below n e = omega (arith, e)

below_each : (n k : ℕ) (cs : List OpenColumn) → nat_lt k n ≡ false → Below n cs → AtEach k cs
below_each n k [] e b = tt
below_each n k (c ∷ cs) e b = (less_then c.column n k b.0 e, below_each n k cs e b.1)

below_more : (n k : ℕ) (cs : List OpenColumn) → n < k → Below n cs → Below k cs
below_more n k [] e b = tt
below_more n k (c ∷ cs) e b = (less_on c.column n k b.0 e, below_more n k cs e b.1)

below_has : (n c : ℕ) (cs : List OpenColumn) → Below n cs → Has c (cols cs) → c < n
below_has n c [] b h = absurd h
below_has n c (d ∷ ds) b (inl e) = subst (λ c. c < n) e b.0
below_has n c (d ∷ ds) b (inr h) = below_has n c ds b.1 h

pop_below : (n k : ℕ) (cs : List OpenColumn) → Below n cs → Below n (up_to_column k cs)
pop_below n k [] b = tt
pop_below n k (c ∷ cs) b = on (nat_lt k c.column) (pop_below n k cs b.1)
  where
    on : (v : Bool) → Below n (up_to_column k cs) → Below n (chosen_columns v (up_to_column k cs) (c ∷ cs))
    on true more = more
    on false more = b

pop_each : (n k : ℕ) (cs : List OpenColumn) → AtEach n cs → AtEach n (up_to_column k cs)
pop_each n k [] b = tt
pop_each n k (c ∷ cs) b = on (nat_lt k c.column) (pop_each n k cs b.1)
  where
    on : (v : Bool) → AtEach n (up_to_column k cs) → AtEach n (chosen_columns v (up_to_column k cs) (c ∷ cs))
    on true more = more
    on false more = b

at_most_each : (n : ℕ) (cs : List OpenColumn) → AtMost n (cols cs) → AtEach n cs
at_most_each n [] p = tt
at_most_each n (c ∷ cs) p = (p.0, at_most_each n cs p.1)

widened_below : (n : ℕ) (cs : List OpenColumn) → Below n cs → Below n (map widened cs)
widened_below n [] b = tt
widened_below n (c ∷ cs) b = (b.0, widened_below n cs b.1)

module _ (text : List ℕ) (ls : List Lexeme) where
  pub pop_widths : (k : ℕ) (cs : List OpenColumn) → Widths text ls cs → Widths text ls (up_to_column k cs)
  pop_widths k [] w = tt
  pop_widths k (c ∷ cs) w = on (nat_lt k c.column) (pop_widths k cs w.2)
    where
      on : (v : Bool) → Widths text ls (up_to_column k cs) →
          Widths text ls (chosen_columns v (up_to_column k cs) (c ∷ cs))
      on true more = more
      on false more = w

  popped_each : (k : ℕ) (cs : List OpenColumn) → Widths text ls cs → AtEach k (up_to_column k cs)
  popped_each k [] w = tt
  popped_each k (c ∷ cs) w = on (nat_lt k c.column) refl (popped_each k cs w.2)
    where
      on : (v : Bool) → nat_lt k c.column ≡ v → AtEach k (up_to_column k cs) →
          AtEach k (chosen_columns v (up_to_column k cs) (c ∷ cs))
      on true e more = more
      on false e more = (e, below_each c.column k cs e w.1)

  -- those around an entry
  abbrev around : ℕ → List OpenColumn → List OpenColumn
  around k cs = if is_column (innermost_column cs) k then drop 1 cs else cs

  around_below : (k : ℕ) (cs : List OpenColumn) → Widths text ls cs → AtEach k cs → Below k (around k cs)
  around_below k [] w a = tt
  around_below k (c ∷ cs) w a = on (c.column == k) refl
    where
      on : (v : Bool) → (c.column == k) ≡ v → Below k (if v then cs else c ∷ cs)
      on true e = subst (λ n. Below n cs) (eqb-true c.column k e) w.1
      on false e = let f = is_below c.column k e a.0 in (f, below_more c.column k cs f w.1)

  around_widths : (k : ℕ) (cs : List OpenColumn) → Widths text ls cs → Widths text ls (around k cs)
  around_widths k [] w = tt
  around_widths k (c ∷ cs) w = on (c.column == k)
    where
      on : (v : Bool) → Widths text ls (if v then cs else c ∷ cs)
      on true = w.2
      on false = w

  module _ (x : Lexeme) where
    abbrev Widens : Type 0
    Widens = AsksFurther text x ⊎ (is_opener_kind x.kind ≡ true)

    -- a lexeme that says nothing of these columns
    keep_widths : (cs : List OpenColumn) → (Widens → ⊥) →
        ((c : ℕ) → Has c (cols cs) → IsEntry x ls c → ⊥) → Widths text ls cs → Widths text (x ∷ ls) cs
    keep_widths [] n none w = tt
    keep_widths (c ∷ cs) n none w = (
      (
        λ e. inr (none c.column (inl refl), w.0.0 e),
        λ p. elim p [ inl q ↦ absurd (n q) | inr q ↦ w.0.1 q.1 ],
      ),
      w.1,
      keep_widths cs n (λ d h. none d (inr h)) w.2,
    )

    widen : (cs : List OpenColumn) → Widens → Widths text ls cs → Widths text (x ∷ ls) (map widened cs)
    widen [] y w = tt
    widen (c ∷ cs) y w = ((λ e. inl y, λ p. refl), widened_below c.column cs w.1, widen cs y w.2)

    -- an entry in a column
    enter : (k : ℕ) (cs : List OpenColumn) → (Widens → ⊥) → IsEntry x ls k →
        ((c : ℕ) → IsEntry x ls c → c ≡ k) → Widths text ls cs → AtEach k cs →
        Widths text (x ∷ ls) (entered_columns k cs)
    unfolding entered_columns
    enter k cs n is only w a = (
      (λ e. absurd cc, λ p. elim p [ inl q ↦ absurd (n q) | inr q ↦ absurd (q.0 is) ]),
      around_below k cs w a,
      keep_widths (around k cs) n
          (λ c h e. never_below k (subst (λ c. c < k) (only c e)
          (below_has k c (around k cs) (around_below k cs w a) h))) (around_widths k cs w),
    )

    -- one that asks for a node further right
    enter_wide : (k : ℕ) (cs : List OpenColumn) → Widens → Widths text ls cs → AtEach k cs →
        Widths text (x ∷ ls) (map widened (entered_columns k cs))
    unfolding entered_columns
    enter_wide k cs y w a = (
      (λ e. inl y, λ p. refl),
      widened_below k (around k cs) (around_below k cs w a),
      widen (around k cs) y (around_widths k cs w),
    )

-- ---- one lexeme

no_entry : (ls : List Lexeme) (x : Lexeme) {kind : LexemeKind} → x.kind ≡ kind →
    ((key : Option KeyStart) (column c : ℕ) (ls : List Lexeme) → EntryOf kind key column ls c → ⊥) → (c : ℕ) →
    IsEntry x ls c → ⊥
no_entry ls x is none c p =
    none x.key x.start.place.column c ls
    (subst (λ kind. EntryOf kind x.key x.start.place.column ls c) is p.1)

question_columns : (v : Bool) (h : Here) (l : Laid) →
    (behind_question_sign v h l).columns ≡ (if v then l.columns else entered_columns h.place.column l.columns)
question_columns true h l = refl
question_columns false h l = refl

colon_flow_columns : (key : Option PossibleKey) (h : Here) (l : Laid) → (behind_colon true key h l).columns ≡ l.columns
colon_flow_columns (Some k) h l = refl
colon_flow_columns None h l = refl

abbrev key_column : Option PossibleKey → ℕ → ℕ
key_column (Some k) c = k.start.place.column
key_column None c = c

colon_columns : (key : Option PossibleKey) (h : Here) (l : Laid) →
    (behind_colon false key h l).columns ≡ map widened (entered_columns (key_column key h.place.column) l.columns)
colon_columns (Some k) h l = refl
colon_columns None h l = refl

module _ (text : List ℕ) (ls : List Lexeme) (l : Laid) (said : OpenSays ls l) (w : Widths text ls l.columns)
    (h g : Here) (x : Lexeme) (start : x.start ≡ mark_of h) (flow : x.in_flow ≡ is_in_flow l)
    (there : x.end ≡ mark_of g → drop x.end.place.index text ≡ g.unread.text) where
  abbrev Goal : List OpenColumn → Type 0
  Goal cs = Widths text (x ∷ ls) cs

  column : x.start.place.column ≡ h.place.column
  column = ap (λ (m : Mark). m.place.column) start

  abbrev front : LexemeSort → Laid
  front sort = in_front sort h l

  as_goal : {cs ds : List OpenColumn} → cs ≡ ds → Goal ds → Goal cs
  as_goal e p = subst Goal (sym e) p

  says_none : {kind : LexemeKind} → x.kind ≡ kind → asks_kind kind ≡ false → is_opener_kind kind ≡ false →
      Widens text ls x → ⊥
  says_none is a n (inl p) = no_asks text x is a p
  says_none is a n (inr e) = let z = sym (ap is_opener_kind is ∙ n) ∙ e in cc

  -- ---- in flow
  module _ (inside : is_in_flow l ≡ true) where
    no_flow : (sort : LexemeSort) → (front sort).brackets ≡ [] → ⊥
    no_flow sort e = let z = sym (ap is_nonempty e) ∙ (front_flow sort h l ∙ inside) in cc

    no_entries : (c : ℕ) → Has c (cols l.columns) → IsEntry x ls c → ⊥
    no_entries c h e = let z = sym e.0 ∙ (flow ∙ inside) in cc

    keeps : (sort : LexemeSort) (cs : List OpenColumn) → cs ≡ (front sort).columns → (Widens text ls x → ⊥) → Goal cs
    keeps sort cs e n =
        as_goal (e ∙ (flow_tabs sort h l inside).columns) (keep_widths text ls x l.columns n no_entries w)

    flow_columns : (sort : LexemeSort) → SaysOf sort h (front sort) x → Styled sort g x →
        Goal (left_of sort g h (front sort)).columns
    flow_columns TextEnd s t = tt
    flow_columns StartMark s t = absurd (no_flow StartMark s.1)
    flow_columns EndMark s t = absurd (no_flow EndMark s.1)
    flow_columns DirectiveSign s t = keeps DirectiveSign _ refl (says_none s.1.is refl refl)
    flow_columns Unprintable s t = absurd s
    flow_columns (Placed (OpenSign bracket)) s t =
        as_goal (ap (λ cs. map widened cs) (flow_tabs (Placed (OpenSign bracket)) h l inside).columns)
        (widen text ls x l.columns (inr (ap is_opener_kind s.is)) w)
    flow_columns (Placed (CloseSign bracket)) s t =
        keeps (Placed (CloseSign bracket)) _ refl (says_none s.0.is refl refl)
    flow_columns (Placed CommaSign) s t = keeps (Placed CommaSign) _ refl (says_none s.is refl refl)
    flow_columns (Placed DashSign) s t =
        absurd (let z = sym s.1 ∙ (front_flow (Placed DashSign) h l ∙ inside) in cc)
    flow_columns (Placed QuestionSign) s t =
        let m = front (Placed QuestionSign) in
        keeps (Placed QuestionSign) _
        (question_columns (is_in_flow m) h m
        ∙ ap (λ v. if v then m.columns else entered_columns h.place.column m.columns)
        (front_flow (Placed QuestionSign) h l ∙ inside)) (says_none s.0.is refl refl)
    flow_columns (Placed ColonSign) s t =
        let m = front (Placed ColonSign) in
        keeps (Placed ColonSign) _
        (ap (λ v. (behind_colon v (top_key m) h m).columns) (front_flow (Placed ColonSign) h l ∙ inside)
        ∙ colon_flow_columns (top_key m) h m) (λ y. elim y [
          | inl a ↦ no_colon text x s.0 (flow ∙ inside) a
          | inr e ↦ absurd (let z = sym (ap is_opener_kind s.0) ∙ e in cc)
        ])
    flow_columns (Placed AliasSign) s t = keeps (Placed AliasSign) _ refl (says_none s.1.is refl refl)
    flow_columns (Placed AnchorSign) s t = keeps (Placed AnchorSign) _ refl (says_none s.1.is refl refl)
    flow_columns (Placed TagSign) s t = keeps (Placed TagSign) _ refl (says_none s.2.is refl refl)
    flow_columns (Placed (BlockSign literal)) s t =
        keeps (Placed (BlockSign literal)) _ refl (says_none s.2.is refl refl)
    flow_columns (Placed (QuoteSign single)) s t =
        keeps (Placed (QuoteSign single)) _ refl (says_none s.2.is refl refl)
    flow_columns (Placed PlainSign) s t = keeps (Placed PlainSign) _ refl (says_none s.2.is refl refl)
    flow_columns (Placed StrayMark) s t = absurd s
    flow_columns (Placed NoSign) s t = absurd s

  -- ---- outside flow
  module _ (out : is_in_flow l ≡ false) where
    abbrev left_columns : List OpenColumn
    left_columns = up_to_column h.place.column l.columns

    left_widths : Widths text ls left_columns
    left_widths = pop_widths text ls h.place.column l.columns w

    left_each : AtEach h.place.column left_columns
    left_each = popped_each text ls h.place.column l.columns w

    pops : (sort : PlacedSort) {kind : LexemeKind} → x.kind ≡ kind → asks_kind kind ≡ false →
        is_opener_kind kind ≡ false →
        ((key : Option KeyStart) (column c : ℕ) (ls : List Lexeme) → EntryOf kind key column ls c → ⊥) →
        (cs : List OpenColumn) → cs ≡ (front (Placed sort)).columns → Goal cs
    pops sort is a n none cs e =
        as_goal (e ∙ placed_columns sort h l out)
        (keep_widths text ls x left_columns (says_none is a n) (λ c h. no_entry ls x is none c) left_widths)

    -- an entry where a `-` or a `?` stands
    enters : (sort : PlacedSort) {kind : LexemeKind} → x.kind ≡ kind →
        ((key : Option KeyStart) (column c : ℕ) (ls : List Lexeme) → EntryOf kind key column ls c → column ≡ c) →
        ((key : Option KeyStart) (column c : ℕ) (ls : List Lexeme) → column ≡ c → EntryOf kind key column ls c) →
        (Widens text ls x → ⊥) → (cs : List OpenColumn) →
        cs ≡ entered_columns h.place.column (front (Placed sort)).columns → Goal cs
    enters sort is only here n cs e =
        as_goal (e ∙ ap (entered_columns h.place.column) (placed_columns sort h l out))
        (enter text ls x h.place.column left_columns n (
          flow ∙ out,
          subst (λ kind. EntryOf kind x.key x.start.place.column ls h.place.column) (sym is)
              (here x.key x.start.place.column h.place.column ls column),
        )
        (λ c p. sym (only x.key x.start.place.column c ls
        (subst (λ kind. EntryOf kind x.key x.start.place.column ls c) is p.1)) ∙ column) left_widths left_each)

    widens : (k : ℕ) (sort : PlacedSort) → Widens text ls x → AtEach k left_columns → (cs : List OpenColumn) →
        cs ≡ map widened (entered_columns k (front (Placed sort)).columns) → Goal cs
    widens k sort y a cs e =
        as_goal (e ∙ ap (λ cs. map widened (entered_columns k cs)) (placed_columns sort h l out))
        (enter_wide text ls x k left_columns y left_widths a)

    dash_columns : x.kind ≡ Dash → x.end ≡ mark_of g → (v : Bool) → is_before_break g ≡ v →
        Goal (if v then map widened (entered_columns h.place.column (front (Placed DashSign)).columns)
        else entered_columns h.place.column (front (Placed DashSign)).columns)
    dash_columns is e true b =
        widens h.place.column DashSign
        (inl (inr (record { dash = is; bare = ap (λ (t : List ℕ). ends_sign (first t)) (there e) ∙ b }))) left_each _
        refl
    dash_columns is e false b =
        enters DashSign is (λ key column c ls q. q) (λ key column c ls q. q) none _ refl
      where
        none : Widens text ls x → ⊥
        none (inl (inl c)) = let z = sym c.colon ∙ is in cc
        none (inl (inr c)) = let z = sym (ap (λ (t : List ℕ). ends_sign (first t)) (there e) ∙ b) ∙ c.bare in cc
        none (inr o) = let z = sym (ap is_opener_kind is) ∙ o in cc

    shut : l.brackets ≡ []
    shut = on l.brackets refl out
      where
        on : (bs : List OpenBracket) → l.brackets ≡ bs → is_nonempty bs ≡ false → l.brackets ≡ []
        on [] e f = e
        on (b ∷ bs) e f = absurd cc

    -- the column of the key of a `:`, or its own
    key_each : (key : Option PossibleKey) → l.key ≡ key → AtEach (key_column key h.place.column) left_columns
    key_each None e = left_each
    key_each (Some k) e =
        let q : KeySays ls l (Some k) = subst (KeySays ls l) e said.key in
        pop_each k.start.place.column h.place.column l.columns
        (at_most_each k.start.place.column l.columns q.1)

    out_columns : (sort : LexemeSort) → SaysOf sort h (front sort) x → Styled sort g x →
        Goal (left_of sort g h (front sort)).columns
    out_columns TextEnd s t = tt
    out_columns StartMark s t = as_goal (outer_columns StartMark h l tt out) tt
    out_columns EndMark s t = as_goal (outer_columns EndMark h l tt out) tt
    out_columns DirectiveSign s t = as_goal (outer_columns DirectiveSign h l tt out) tt
    out_columns Unprintable s t = absurd s
    out_columns (Placed (OpenSign bracket)) s t =
        as_goal (ap (λ cs. map widened cs) (placed_columns (OpenSign bracket) h l out))
        (widen text ls x left_columns (inr (ap is_opener_kind s.is)) left_widths)
    out_columns (Placed (CloseSign bracket)) s t =
        let m = front (Placed (CloseSign bracket)) in
        let b = left_open m.brackets bracket s.1 in
        absurd (let z = sym (ap is_nonempty b.2) ∙ (front_flow (Placed (CloseSign bracket)) h l ∙ out) in cc)
    out_columns (Placed CommaSign) s t = pops CommaSign s.is refl refl (λ key column c ls q. q) _ refl
    out_columns (Placed DashSign) s t = dash_columns s.0.is t (is_before_break g) refl
    out_columns (Placed QuestionSign) s t =
        let m = front (Placed QuestionSign) in
        enters QuestionSign s.0.is (λ key column c ls q. q) (λ key column c ls q. q) (says_none s.0.is refl refl) _
        (question_columns (is_in_flow m) h m
        ∙ ap (λ v. if v then m.columns else entered_columns h.place.column m.columns)
        (front_flow (Placed QuestionSign) h l ∙ out))
    out_columns (Placed ColonSign) s t =
        let m = front (Placed ColonSign) in
        widens (key_column (top_key m) h.place.column) ColonSign
        (inl (inl (record { colon = s.0; outside = flow ∙ out })))
        (key_each (top_key m) (sym (ap (λ (bs : List OpenBracket). key_in bs l.key) shut))) _
        (ap (λ v. (behind_colon v (top_key m) h m).columns) (front_flow (Placed ColonSign) h l ∙ out)
        ∙ colon_columns (top_key m) h m)
    out_columns (Placed AliasSign) s t = pops AliasSign s.1.is refl refl (λ key column c ls q. q) _ refl
    out_columns (Placed AnchorSign) s t = pops AnchorSign s.1.is refl refl (λ key column c ls q. q) _ refl
    out_columns (Placed TagSign) s t = pops TagSign s.2.is refl refl (λ key column c ls q. q) _ refl
    out_columns (Placed (BlockSign literal)) s t =
        pops (BlockSign literal) s.2.is refl refl (λ key column c ls q. q) _ refl
    out_columns (Placed (QuoteSign single)) s t =
        pops (QuoteSign single) s.2.is refl refl (λ key column c ls q. q) _ refl
    out_columns (Placed PlainSign) s t = pops PlainSign s.2.is refl refl (λ key column c ls q. q) _ refl
    out_columns (Placed StrayMark) s t = absurd s
    out_columns (Placed NoSign) s t = absurd s

  pub columns_step : (sort : LexemeSort) → SaysOf sort h (front sort) x → Styled sort g x →
      Goal (left_of sort g h (front sort)).columns
  columns_step sort s t = on (is_in_flow l) refl
    where
      on : (v : Bool) → is_in_flow l ≡ v → Goal (left_of sort g h (front sort)).columns
      on true e = flow_columns e sort s t
      on false e = out_columns e sort s t
