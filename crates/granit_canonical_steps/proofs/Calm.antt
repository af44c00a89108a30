-- What the lexemes of canonical text leave: no block collection, no key that must have a `:`, and none at all directly
-- in a mapping.
use Rattle.std.proofs.Common.{Bool, List, Option, [], ap, drop, false, length, map, not, refl, subst, suc, sym, true}
use Rattle.std.proofs.Common.{ℕ, ◌&&◌, ◌||◌, ◌∙◌, ◌∷◌, ◌≡◌}
use Rattle.std.proofs.lemmas.Bool.{and_right}
use Rattle.std.specs.Prelude.{None, Some, if◌then◌else◌, is_none}
use Rattle.granit_base.specs.Place.{Mark}
use Rattle.granit_error.specs.OptionsData.{OptionsData}
use Rattle.granit_language.specs.Allowed.{CutFits, TabsFit}
use Rattle.granit_language.specs.Before.{left}
use Rattle.granit_language.specs.Reached.{NoneOverdue, StandsInside}
use Rattle.granit_language.specs.Standing.{ClosesInnermost}
use Rattle.granit_lexemes.specs.Here.{Here, mark_of}
use Rattle.granit_lexemes.specs.LayoutData.{is_left}
use Rattle.granit_lexemes.specs.declared.layout.Bracket.{Bracket}
use Rattle.granit_lexemes.specs.declared.layout.Bracket.TheVariants.{Curly, Square}
use Rattle.granit_lexemes.specs.declared.layout.LastLexeme.{LastLexeme}
use Rattle.granit_lexemes.specs.declared.layout.LastLexeme.TheVariants.{Adjacent, Another, BehindBareColon}
use Rattle.granit_lexemes.specs.declared.layout.LastLexeme.TheVariants.{BehindDash, BehindProperty, BehindQuestion}
use Rattle.granit_lexemes.specs.declared.layout.LastLexeme.TheVariants.{Opener}
use Rattle.granit_lexemes.specs.declared.layout.OpenBracket.{OpenBracket}
use Rattle.granit_lexemes.specs.declared.layout.OpenColumn.{OpenColumn}
use Rattle.granit_lexemes.specs.declared.layout.PossibleKey.{PossibleKey}
use Rattle.granit_machine.specs.Columns.{closed_all, closed_at, up_to_column, widened}
use Rattle.granit_machine.specs.FlowLexemes.{closed_bracket, opened}
use Rattle.granit_machine.specs.Gaps.{behind_gap, last_behind, no_more_adjacent}
use Rattle.granit_machine.specs.Laid.{Laid, behind_lexeme, block_column, innermost_column, is_column, is_dash}
use Rattle.granit_machine.specs.Laid.{is_in_flow, is_indicator, is_nonempty, is_opener, laid_start}
use Rattle.granit_machine.specs.LexemeSort.{Placed, PlacedSort}
use Rattle.granit_machine.specs.PossibleKeys.{forgets_key, fresh, fresh_bracket, fresh_key, is_allowed, is_stale}
use Rattle.granit_machine.specs.PossibleKeys.{key_goes_on, key_in, keyed_brackets, new_key, node_key, outer_key}
use Rattle.granit_machine.specs.PossibleKeys.{top_key}
use Rattle.granit_machine.specs.Reader.{noded}
use Rattle.granit_machine.specs.ReaderState.{ReaderState}

abbrev pub Mild : Option PossibleKey → Type 0
Mild key = (k : PossibleKey) → key ≡ Some k → k.is_required ≡ false

-- these brackets are open, the innermost first
pub data Shape : List Bracket → List OpenBracket → Type 0 where
  outside : Shape [] []
  in_square : {bs : List Bracket} {obs : List OpenBracket} (m : Mark) (key : Option PossibleKey) → Mild key
      → Shape bs obs → Shape (Square ∷ bs) (record { bracket = Square; mark = m; key = key } ∷ obs)
  in_curly : {bs : List Bracket} {obs : List OpenBracket} (m : Mark) → Shape bs obs
      → Shape (Curly ∷ bs) (record { bracket = Curly; mark = m; key = None } ∷ obs)

pub record Calm (bs : List Bracket) (l : Laid) : Type 0 where
  pub key : Mild l.key
  pub shape : Shape bs l.brackets
  pub columns : l.columns ≡ []
  pub cut : l.cut ≡ None

pub calm_start : Calm [] laid_start
calm_start = record { key = λ k e. absurd cc; shape = outside; columns = refl; cut = refl }

pub none_mild : Mild None
none_mild k e = absurd cc

-- directly in a mapping no key begins
abbrev pub Fine : List Bracket → LastLexeme → Type 0
Fine [] last = Unit {0}
Fine (Square ∷ bs) last = Unit {0}
Fine (Curly ∷ bs) last = is_opener last ≡ false

pub fine_if : (bs : List Bracket) (last : LastLexeme) → is_opener last ≡ false → Fine bs last
fine_if [] last e = tt
fine_if (Square ∷ bs) last e = tt
fine_if (Curly ∷ bs) last e = e

pub fine_as : (bs : List Bracket) (a b : LastLexeme) → is_opener b ≡ is_opener a → Fine bs a → Fine bs b
fine_as [] a b e f = tt
fine_as (Square ∷ bs) a b e f = tt
fine_as (Curly ∷ bs) a b e f = e ∙ f

-- ---- keys that are left behind

pub if_mild : (b : Bool) (k : PossibleKey) → k.is_required ≡ false → Mild (if b then None else Some k)
if_mild true k e j f = none_mild j f
if_mild false k e j f = let same : k ≡ j = cc in ap (λ (k : PossibleKey). k.is_required) (sym same) ∙ e

pub fresh_mild : (o : OptionsData) (in_flow : Bool) (m : Mark) (key : Option PossibleKey) → Mild key
    → Mild (fresh_key o in_flow m key)
fresh_mild o in_flow m None h = none_mild
fresh_mild o in_flow m (Some k) h = if_mild (is_stale o in_flow m k) k (h k refl)

fresh_shape : (o : OptionsData) (m : Mark) (bs : List Bracket) (obs : List OpenBracket) → Shape bs obs
    → Shape bs (map (fresh_bracket o m) obs)
fresh_shape o m _ _ outside = outside
fresh_shape o m _ _ (in_square {bs = bs} {obs = obs} n key h s) =
    in_square n (fresh_key o true m key) (fresh_mild o true m key h) (fresh_shape o m bs obs s)
fresh_shape o m _ _ (in_curly {bs = bs} {obs = obs} n s) = in_curly n (fresh_shape o m bs obs s)

pub calm_fresh : (o : OptionsData) (m : Mark) (bs : List Bracket) (l : Laid) → Calm bs l → Calm bs (fresh o m l)
calm_fresh o m bs l c = record {
  key = fresh_mild o (is_in_flow l) m l.key c.key;
  shape = fresh_shape o m bs l.brackets c.shape;
  columns = c.columns;
  cut = c.cut;
}

-- ---- gaps

pub calm_gap : (moved : Bool) (bs : List Bracket) (l : Laid) → Calm bs l → Calm bs (behind_gap moved l)
calm_gap moved bs l c = record { key = c.key; shape = c.shape; columns = c.columns; cut = refl }

opener_kept : (last : LastLexeme) → is_opener (no_more_adjacent last) ≡ is_opener last
opener_kept last = by last
  where
    by : (last : LastLexeme) → is_opener (no_more_adjacent last) ≡ is_opener last
    by Opener = refl
    by BehindDash = refl
    by BehindQuestion = refl
    by BehindBareColon = refl
    by BehindProperty = refl
    by Adjacent = refl
    by Another = refl

pub gap_opener : (moved : Bool) (last : LastLexeme) → is_opener (last_behind moved last) ≡ is_opener last
gap_opener true last = opener_kept last
gap_opener false last = refl

-- ---- columns

if_both : (b : Bool) (a c z : List OpenColumn) → a ≡ z → c ≡ z → (if b then a else c) ≡ z
if_both true a c z p q = p
if_both false a c z p q = q

pub calm_closed : (column : ℕ) (bs : List Bracket) (l : Laid) → Calm bs l → Calm bs (closed_at column l)
calm_closed column bs l c = record {
  key = c.key;
  shape = c.shape;
  columns = if_both (is_in_flow l) l.columns (up_to_column column l.columns) [] c.columns
      (ap (up_to_column column) c.columns);
  cut = c.cut;
}

pub calm_all : (bs : List Bracket) (l : Laid) → Calm bs l → Calm bs (closed_all l)
calm_all bs l c = record {
  key = c.key;
  shape = c.shape;
  columns = if_both (is_in_flow l) l.columns [] [] c.columns refl;
  cut = c.cut;
}

-- ---- keys

pub some_same : (k j : PossibleKey) → ◌≡◌ {A = Option PossibleKey} (Some k) (Some j) → k ≡ j
some_same k j e = cc

goes_mild : (property low : Bool) (key : Option PossibleKey) → Mild key → Mild (key_goes_on property low key)
goes_mild property low None h = none_mild
goes_mild property low (Some k) h = by k.is_head
  where
    by : (b : Bool) → Mild (if b then Some (record k { is_low = k.is_low || low; is_head = property }) else Some k)
    by true j e = ap (λ (k : PossibleKey). k.is_required)
        (sym (some_same (record k { is_low = k.is_low || low; is_head = property }) j e)) ∙ h k refl
    by false j e = h j e

no_column : (columns : List OpenColumn) (n : ℕ) → columns ≡ [] → is_column (innermost_column columns) n ≡ false
no_column columns n e = ap (λ (cs : List OpenColumn). is_column (innermost_column cs) n) e

choose_mild : (b : Bool) (x y : Option PossibleKey) → Mild x → Mild y → Mild (if b then x else y)
choose_mild true x y h g = h
choose_mild false x y h g = g

node_mild : (property allowed : Bool) (m : Mark) (bs : List Bracket) (l : Laid) → Calm bs l → Mild (top_key l)
    → Mild (node_key property allowed m l)
unfolding node_key
node_mild property allowed m bs l c h =
    choose_mild allowed (Some (new_key property m l))
    (key_goes_on property (is_left (block_column l) m.place.column) (top_key l))
    (λ j e. ap (λ (k : PossibleKey). k.is_required) (sym (some_same (new_key property m l) j e))
    ∙ and_right (not (is_in_flow l)) (is_column (block_column l) m.place.column)
    (no_column l.columns m.place.column c.columns))
    (goes_mild property (is_left (block_column l) m.place.column) (top_key l) h)

pub top_mild : (bs : List Bracket) (l : Laid) → Calm bs l → Mild (top_key l)
top_mild bs l c = by bs l.brackets c.shape
  where
    by : (bs : List Bracket) (obs : List OpenBracket) → Shape bs obs → Mild (key_in obs l.key)
    by _ _ outside = c.key
    by _ _ (in_square m key h s) = h
    by _ _ (in_curly m s) = none_mild

-- in a mapping, not behind its opener or a comma, a lexeme of a node begins no key
pub noded_none : (property : Bool) (h : Here) (bs : List Bracket) (l : Laid) → Calm (Curly ∷ bs) l
    → is_opener l.last ≡ false → top_key l ≡ None
    → node_key property (is_allowed h.begins_line h.tab l) (mark_of h) l ≡ None
unfolding node_key is_allowed
noded_none property h bs l c q n = by l.brackets c.shape
  where
    low : Bool
    low = is_left (block_column l) h.place.column

    at : (obs : List OpenBracket) → Bool
    at obs = if is_nonempty obs then is_opener l.last
        else (h.begins_line || is_dash l.last) || (is_indicator l.last && is_none h.tab)

    by : (obs : List OpenBracket) → Shape (Curly ∷ bs) obs
        → (if at obs then Some (new_key property (mark_of h) l) else key_goes_on property low (top_key l)) ≡ None
    by _ (in_curly m s) =
        ap (λ b. if b then Some (new_key property (mark_of h) l) else key_goes_on property low (top_key l)) q
        ∙ ap (key_goes_on property low) n

keyed : (bs : List Bracket) (obs : List OpenBracket) (old key : Option PossibleKey) → Shape bs obs → Mild old → Mild key
    → ((ds : List Bracket) → bs ≡ Curly ∷ ds → key ≡ None)
    → Mild (outer_key obs key old) × Shape bs (keyed_brackets key obs)
keyed _ _ old key outside f g n = (g, outside)
keyed _ _ old key (in_square m k h s) f g n = (f, in_square m key g s)
keyed _ _ old key (in_curly {bs = bs} {obs = obs} m s) f g n = (
  f,
  subst (λ (key : Option PossibleKey). Shape (Curly ∷ bs) (record { bracket = Curly; mark = m; key = key } ∷ obs))
      (sym (n bs refl)) (in_curly m s),
)

pub curly_key : (bs : List Bracket) (l : Laid) → Calm (Curly ∷ bs) l → top_key l ≡ None
curly_key bs l c = by l.brackets c.shape
  where
    by : (obs : List OpenBracket) → Shape (Curly ∷ bs) obs → key_in obs l.key ≡ None
    by _ (in_curly m s) = refl

fine_none : (property : Bool) (h : Here) (bs ds : List Bracket) (l : Laid) → Calm bs l → Fine bs l.last
    → bs ≡ Curly ∷ ds
    → node_key property (is_allowed h.begins_line h.tab l) (mark_of h) l ≡ None
fine_none property h [] ds l c f e = absurd cc
fine_none property h (Square ∷ bs) ds l c f e = absurd cc
fine_none property h (Curly ∷ bs) ds l c f e = noded_none property h bs l c f (curly_key bs l c)

-- a lexeme of a node stands there
pub calm_noded : (property : Bool) (h : Here) (bs : List Bracket) (l : Laid) → Calm bs l → Fine bs l.last
    → Calm bs (noded property h l)
calm_noded property h bs l c f =
    let key = node_key property (is_allowed h.begins_line h.tab l) (mark_of h) l in
    let both = keyed bs l.brackets l.key key c.shape c.key
    (node_mild property (is_allowed h.begins_line h.tab l) (mark_of h) bs l c (top_mild bs l c))
    (λ ds e. fine_none property h bs ds l c f e) in
    record { key = both.0; shape = both.1; columns = c.columns; cut = c.cut }

pub calm_forgets : (bs : List Bracket) (l : Laid) → Calm bs l → Calm bs (forgets_key l)
calm_forgets bs l c =
    let both = keyed bs l.brackets l.key None c.shape c.key none_mild (λ ds e. refl) in
    record { key = both.0; shape = both.1; columns = c.columns; cut = c.cut }

-- ---- brackets

pub calm_opened : (bracket : Bracket) (m : Mark) (bs : List Bracket) (l : Laid) → Calm bs l
    → Calm (bracket ∷ bs) (opened bracket m l)
calm_opened Square m bs l c = record {
  key = c.key;
  shape = in_square m None none_mild c.shape;
  columns = ap (map widened) c.columns;
  cut = c.cut;
}
calm_opened Curly m bs l c = record {
  key = c.key;
  shape = in_curly m c.shape;
  columns = ap (map widened) c.columns;
  cut = c.cut;
}

pub calm_shut : (bracket : Bracket) (bs : List Bracket) (l : Laid) → Calm (bracket ∷ bs) l
    → Calm bs (closed_bracket (drop 1 l.brackets) l)
calm_shut bracket bs l c = record {
  key = c.key;
  shape = by bracket l.brackets c.shape;
  columns = c.columns;
  cut =
      c.cut;
}
  where
    by : (bracket : Bracket) (obs : List OpenBracket) → Shape (bracket ∷ bs) obs → Shape bs (drop 1 obs)
    by _ _ (in_square m key h s) = s
    by _ _ (in_curly m s) = s

pub shape_length : (bs : List Bracket) (obs : List OpenBracket) → Shape bs obs → length obs ≡ length bs
shape_length _ _ outside = refl
shape_length _ _ (in_square {bs = bs} {obs = obs} m key h s) = ap suc (shape_length bs obs s)
shape_length _ _ (in_curly {bs = bs} {obs = obs} m s) = ap suc (shape_length bs obs s)

pub shape_innermost : (bracket : Bracket) (bs : List Bracket) (obs : List OpenBracket) → Shape (bracket ∷ bs) obs
    → ClosesInnermost bracket obs
shape_innermost _ bs _ (in_square m key h s) = refl
shape_innermost _ bs _ (in_curly m s) = refl

pub shape_flow : (bracket : Bracket) (bs : List Bracket) (obs : List OpenBracket) → Shape (bracket ∷ bs) obs
    → is_nonempty obs ≡ true
shape_flow _ bs _ (in_square m key h s) = refl
shape_flow _ bs _ (in_curly m s) = refl

pub shape_outside : (obs : List OpenBracket) → Shape [] obs → obs ≡ []
shape_outside _ outside = refl

-- a lexeme was read
pub calm_behind : (last : LastLexeme) (bs : List Bracket) (l : Laid) → Calm bs l → Calm bs (behind_lexeme last l)
calm_behind last bs l c = record { key = c.key; shape = c.shape; columns = c.columns; cut = c.cut }

-- ---- what is asked of a place

pub none_overdue : (o : OptionsData) (bs : List Bracket) (s : ReaderState) → Calm bs s.laid → NoneOverdue o s
none_overdue o bs s c k e l = c.key k e

pub tabs_fit : (o : OptionsData) (bs : List Bracket) (l : Laid) (h : Here) → Calm bs l → TabsFit o l h
tabs_fit o bs l h c tab b = (
  λ left. let e : [] ≡ left.1.0 ∷ left.1.1 = sym c.columns ∙ left.1.2 in cc,
  λ inside. let e : [] ≡ inside.0 ∷ inside.1 = sym c.columns ∙ inside.2 in cc,
)

pub cut_fits : (bs : List Bracket) (l : Laid) (h : Here) → Calm bs l → CutFits l h
cut_fits bs l h c cut e = absurd (let f : None ≡ Some cut = sym c.cut ∙ e in cc)

pub stands_inside : (o : OptionsData) (sort : PlacedSort) (bs : List Bracket) (l : Laid) (h : Here) → Calm bs l
    → StandsInside o (Placed sort) h l
stands_inside o sort bs l h c left = let e : [] ≡ left.1.0 ∷ left.1.1 = sym c.columns ∙ left.1.2 in cc

pub no_cut_fits : (l : Laid) (h : Here) → l.cut ≡ None → CutFits l h
no_cut_fits l h e cut f = absurd (some_cut (sym e ∙ f))
  where
    some_cut : ◌≡◌ {A = Option Mark} None (Some cut) → ⊥
    some_cut g = cc
