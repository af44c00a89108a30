-- The machine's tests decide what is declared.
use Rattle.std.proofs.Common.{◌≡◌, ◌≢◌, ℕ, suc, ◌+◌, ◌≤◌, ◌<◌, ◌==◌, ◌&&◌, ◌||◌, not, Bool, true, false, List, [], ◌∷◌}
use Rattle.std.proofs.Common.{length, Option, Some, None, ◌⊎◌, inl, inr, refl, sym, ap, ap₂, ◌∙◌, subst, arith}
use Rattle.std.specs.Prelude.{if◌then◌else◌, nat_lt, nat_le, is_none, is_some, slice_index}
use Rattle.std.specs.Bool.{Decides}
use Rattle.std.proofs.lemmas.Bool.{and_parts, cases_eq}
use Rattle.std.proofs.lemmas.Bool.Decides.{nat_tests, not_from_Decides, Decides-at, Decides-like, Decides-not}
use Rattle.std.proofs.lemmas.Bool.Decides.{Decides-and, Decides-or}
use Rattle.granit_base.specs.Classes.{is_breakz, is_blank_or_breakz}
use Rattle.granit_base.specs.Place.{Mark, first}
use Rattle.granit_error.specs.OptionsData.{OptionsData}
use Rattle.granit_lexemes.specs.Basics.{is_document_mark}
use Rattle.granit_lexemes.specs.Here.{Here, next_char, text_len}
use Rattle.granit_lexemes.specs.LayoutData.{LayoutData, is_left}
use Rattle.granit_lexemes.specs.Lexeme.{opener_char}
use Rattle.granit_lexemes.specs.declared.layout.Bracket.{Bracket}
use Rattle.granit_lexemes.specs.declared.layout.Bracket.TheVariants.{Square, Curly}
use Rattle.granit_lexemes.specs.declared.layout.LastLexeme.{LastLexeme}
use Rattle.granit_lexemes.specs.declared.layout.LastLexeme.TheVariants.{Opener, BehindDash, BehindQuestion}
use Rattle.granit_lexemes.specs.declared.layout.LastLexeme.TheVariants.{BehindBareColon, BehindProperty, Adjacent}
use Rattle.granit_lexemes.specs.declared.layout.LastLexeme.TheVariants.{Another}
use Rattle.granit_lexemes.specs.declared.layout.OpenBracket.{OpenBracket}
use Rattle.granit_lexemes.specs.declared.layout.OpenColumn.{OpenColumn}
use Rattle.granit_lexemes.specs.declared.layout.PossibleKey.{PossibleKey}
use Rattle.granit_machine.specs.Gaps.{leading_tab, goes_on_behind, takes_prefix}
use Rattle.granit_machine.specs.IndicatorLexemes.{is_tabbed_dash, nul_behind, opens_flow}
use Rattle.granit_machine.specs.Laid.{Laid, is_opener, is_dash, is_indicator, is_question, is_adjacent, is_in_flow}
use Rattle.granit_machine.specs.Laid.{in_square, same_bracket, is_nonempty, block_column, innermost_column, is_column}
use Rattle.granit_machine.specs.PossibleKeys.{is_allowed, is_far_below, is_stale, tab_column_of, is_wide_at, layout_of}
use Rattle.granit_language.specs.Allowed.{InFlow, OutsideFlow, InSequence, Innermost, LeftOfNodes, IsIndicator}
use Rattle.granit_language.specs.Allowed.{EntryMayBegin, behind_opener, first_on_line, behind_dash, behind_indicator}
use Rattle.granit_language.specs.Allowed.{FarBelow, LeftBehind, SignStands, ThreeSignsStand, DashBehindTab, NulBehind}
use Rattle.granit_language.specs.Allowed.{OpenerBehind, GoesOnBehind, TabBegins, IsBehindQuestion, InIndentation}
use Rattle.granit_language.specs.Allowed.{StrictInside, LeftOfKey, InBlock, LeftInside, MayPrefix, IsWide, FlowIs}
use Rattle.granit_language.specs.Allowed.{inside, outside, ColumnIs, at_root, in_block, TabColumnIs, nowhere, left_of}
use Rattle.granit_language.specs.Allowed.{and_in, LayoutIs}

-- ---- what a test that decides tells

pub tells : {P : Type 0} {r : Bool} → Decides r P → r ≡ true → P
tells d e = d.0 e

pub denies : {P : Type 0} {r : Bool} → Decides r P → r ≡ false → P → ⊥
denies {r = r} d e = not_from_Decides r d e

pub asserts : {P : Type 0} {r : Bool} → Decides r P → P → r ≡ true
asserts d p = d.1 p

pub rejects : {P : Type 0} {r : Bool} → Decides r P → (P → ⊥) → r ≡ false
rejects {r = true} d n = absurd (n (d.0 refl))
rejects {r = false} d n = refl

-- ---- brackets and columns

pub flow_decided : (l : Laid) → Decides (is_in_flow l) (InFlow l)
flow_decided l = on l.brackets refl
  where
    on : (bs : List OpenBracket) → l.brackets ≡ bs → Decides (is_nonempty bs) (InFlow l)
    on [] e = (λ f. absurd cc, λ p. absurd (let q = sym e ∙ p.is in cc))
    on (b ∷ bs) e = (λ f. record { bracket = b; around = bs; is = e }, λ p. refl)

pub outside_decided : (l : Laid) → Decides (not (is_in_flow l)) (OutsideFlow l)
outside_decided l = on l.brackets refl
  where
    on : (bs : List OpenBracket) → l.brackets ≡ bs → Decides (not (is_nonempty bs)) (OutsideFlow l)
    on [] e = (λ f. e, λ p. refl)
    on (b ∷ bs) e = (λ f. absurd cc, λ p. absurd (let q = sym e ∙ p in cc))

pub left_decided : (l : Laid) (column : ℕ) → Decides (is_left (block_column l) column) (LeftOfNodes l column)
left_decided l column = on l.columns refl
  where
    le_decides : (a b : ℕ) → Decides (nat_le a b) (a ≤ b)
    le_decides a b = (λ e. grind (arith, nat_tests), λ p. grind (arith, nat_tests, p))

    on : (cs : List OpenColumn) → l.columns ≡ cs → Decides (is_left (innermost_column cs) column) (LeftOfNodes l column)
    on [] e = (λ f. absurd cc, λ (c, cs, p, q). absurd (let q = sym e ∙ p in cc))
    on (c ∷ cs) e = (
      λ f. (c, cs, e, (le_decides column c.column).0 f),
      λ (d, ds, p, q). let r : c
          ≡ d = (let q = sym e ∙ p in cc) in (le_decides column c.column).1
          (subst (λ (d : OpenColumn). column ≤ d.column) (sym r) q),
    )

-- ---- entries

opener_decided : (last : LastLexeme) → Decides (is_opener last) (last ≡ Opener)
opener_decided Opener = (λ e. refl, λ p. refl)
opener_decided BehindDash = (λ e. absurd cc, λ p. absurd cc)
opener_decided BehindQuestion = (λ e. absurd cc, λ p. absurd cc)
opener_decided BehindBareColon = (λ e. absurd cc, λ p. absurd cc)
opener_decided BehindProperty = (λ e. absurd cc, λ p. absurd cc)
opener_decided Adjacent = (λ e. absurd cc, λ p. absurd cc)
opener_decided Another = (λ e. absurd cc, λ p. absurd cc)

dash_decided : (last : LastLexeme) → Decides (is_dash last) (last ≡ BehindDash)
dash_decided BehindDash = (λ e. refl, λ p. refl)
dash_decided Opener = (λ e. absurd cc, λ p. absurd cc)
dash_decided BehindQuestion = (λ e. absurd cc, λ p. absurd cc)
dash_decided BehindBareColon = (λ e. absurd cc, λ p. absurd cc)
dash_decided BehindProperty = (λ e. absurd cc, λ p. absurd cc)
dash_decided Adjacent = (λ e. absurd cc, λ p. absurd cc)
dash_decided Another = (λ e. absurd cc, λ p. absurd cc)

indicator_decided : (last : LastLexeme) → Decides (is_indicator last) (IsIndicator last)
indicator_decided BehindQuestion = (λ e. inl refl, λ p. refl)
indicator_decided BehindBareColon = (λ e. inr refl, λ p. refl)
indicator_decided Opener = (λ e. absurd cc, λ p. elim p [ inl q ↦ absurd cc | inr q ↦ absurd cc ])
indicator_decided BehindDash = (λ e. absurd cc, λ p. elim p [ inl q ↦ absurd cc | inr q ↦ absurd cc ])
indicator_decided BehindProperty = (λ e. absurd cc, λ p. elim p [ inl q ↦ absurd cc | inr q ↦ absurd cc ])
indicator_decided Adjacent = (λ e. absurd cc, λ p. elim p [ inl q ↦ absurd cc | inr q ↦ absurd cc ])
indicator_decided Another = (λ e. absurd cc, λ p. elim p [ inl q ↦ absurd cc | inr q ↦ absurd cc ])

none_decided : {A : Type 0} (x : Option A) → Decides (is_none x) (x ≡ None)
none_decided None = (λ e. refl, λ p. refl)
none_decided (Some x) = (λ e. absurd cc, λ p. absurd cc)

pub true_decided : (b : Bool) → Decides b (b ≡ true)
true_decided b = (λ e. e, λ p. p)

pub begin_decided : (h : Here) (l : Laid) → Decides (is_allowed h.begins_line h.tab l) (EntryMayBegin h l)
unfolding is_allowed
begin_decided h l = on (is_in_flow l) refl
  where
    Told : Type 0
    Told = ((h.begins_line ≡ true) ⊎ (l.last ≡ BehindDash)) ⊎ (IsIndicator l.last × (h.tab ≡ None))

    told : Decides ((h.begins_line || is_dash l.last) || (is_indicator l.last && is_none h.tab)) Told
    told = Decides-or (h.begins_line || is_dash l.last) (is_indicator l.last && is_none h.tab)
        (Decides-or h.begins_line (is_dash l.last) (true_decided h.begins_line) (dash_decided l.last))
        (Decides-and (is_indicator l.last) (is_none h.tab) (indicator_decided l.last) (none_decided h.tab))

    to : OutsideFlow l → Told → EntryMayBegin h l
    to out (inl (inl e)) = first_on_line out e
    to out (inl (inr e)) = behind_dash out e
    to out (inr (e, f)) = behind_indicator out e f

    from : is_in_flow l ≡ false → EntryMayBegin h l → Told
    from out (behind_opener f e) = absurd (denies (flow_decided l) out f)
    from out (first_on_line f e) = inl (inl e)
    from out (behind_dash f e) = inl (inr e)
    from out (behind_indicator f e t) = inr (e, t)

    opens : is_in_flow l ≡ true → EntryMayBegin h l → l.last ≡ Opener
    opens f (behind_opener g e) = e
    opens f (first_on_line g e) = absurd (let n = asserts (outside_decided l) g in let m = ap not f in cc)
    opens f (behind_dash g e) = absurd (let n = asserts (outside_decided l) g in let m = ap not f in cc)
    opens f (behind_indicator g e t) = absurd (let n = asserts (outside_decided l) g in let m = ap not f in cc)

    on : (v : Bool) → is_in_flow l ≡ v → Decides
        (if v then is_opener l.last else (h.begins_line || is_dash l.last) || (is_indicator l.last && is_none h.tab))
        (EntryMayBegin h l)
    on true f = Decides-like (is_opener l.last) (λ e. behind_opener (tells (flow_decided l) f) e) (opens f)
        (opener_decided l.last)
    on false f = Decides-like _ (to (tells (outside_decided l) (ap not f))) (from f) told

-- ---- numbers

pub le_decided : (a b : ℕ) → Decides (nat_le a b) (a ≤ b)
le_decided a b = (λ e. grind (arith, nat_tests), λ p. grind (arith, nat_tests, p))

pub lt_decided : (a b : ℕ) → Decides (nat_lt a b) (a < b)
lt_decided a b = (λ e. grind (arith, nat_tests), λ p. grind (arith, nat_tests, p))

pub is_decided : (a b : ℕ) → Decides (a == b) (a ≡ b)
is_decided a b = (λ e. grind (arith, nat_tests), λ p. grind (arith, nat_tests, p))

-- ---- room

pub innermost_decided : (l : Laid) (column : ℕ) → Decides (is_column (block_column l) column) (Innermost l column)
innermost_decided l column = on l.columns refl
  where
    on : (cs : List OpenColumn) → l.columns ≡ cs → Decides (is_column (innermost_column cs) column) (Innermost l column)
    on [] e = (λ f. absurd cc, λ (c, cs, p, q). absurd (let q = sym e ∙ p in cc))
    on (c ∷ cs) e = (
      λ f. (c, cs, e, (is_decided c.column column).0 f),
      λ (d, ds, p, q). let r : c
          ≡ d = (let q = sym e ∙ p in cc) in (is_decided c.column column).1 (ap (λ (d : OpenColumn). d.column) r ∙ q),
    )

pub full_decided : (o : OptionsData) (l : Laid)
    → Decides (nat_le o.block_nesting_limit (length l.columns)) (o.block_nesting_limit ≤ length l.columns)
full_decided o l = le_decided o.block_nesting_limit (length l.columns)

-- ---- keys

pub bracket_decided : (a b : Bracket) → Decides (same_bracket a b) (a ≡ b)
bracket_decided Square Square = (λ e. refl, λ p. refl)
bracket_decided Curly Curly = (λ e. refl, λ p. refl)
bracket_decided Square Curly = (λ e. absurd cc, λ p. absurd cc)
bracket_decided Curly Square = (λ e. absurd cc, λ p. absurd cc)

sequence_decided : (l : Laid) → Decides (in_square l.brackets) (InSequence l)
sequence_decided l = on l.brackets refl
  where
    on : (bs : List OpenBracket) → l.brackets ≡ bs → Decides (in_square bs) (InSequence l)
    on [] e = (λ f. absurd cc, λ (c, cs, p, q). absurd (let q = sym e ∙ p in cc))
    on (b ∷ bs) e = (
      λ f. (b, bs, e, (bracket_decided b.bracket Square).0 f),
      λ (d, ds, p, q). let r : b
          ≡ d = (let q = sym e ∙ p in cc) in (bracket_decided b.bracket Square).1
          (ap (λ (d : OpenBracket). d.bracket) r ∙ q),
    )

pub far_decided : (h : Here) (l : Laid) (k : PossibleKey) → Decides (is_far_below h.place l k) (FarBelow h l k)
unfolding is_far_below
far_decided h l k =
    Decides-and (is_in_flow l && nat_lt k.start.place.line h.place.line)
    ((k.is_low || is_left (block_column l) h.place.column) || in_square l.brackets)
    (Decides-and (is_in_flow l) (nat_lt k.start.place.line h.place.line) (flow_decided l)
    (lt_decided k.start.place.line h.place.line))
    (Decides-or (k.is_low || is_left (block_column l) h.place.column) (in_square l.brackets)
    (Decides-or k.is_low (is_left (block_column l) h.place.column) (true_decided k.is_low)
    (left_decided l h.place.column)) (sequence_decided l))

pub stale_decided : (o : OptionsData) (l : Laid) (m : Mark) (k : PossibleKey)
    → Decides (is_stale o (is_in_flow l) m k) (LeftBehind o l m k)
unfolding is_stale
stale_decided o l m k =
    Decides-or (nat_lt (k.start.place.index + o.simple_key_max_lookahead) m.place.index)
    (not (is_in_flow l) && nat_lt k.start.place.line m.place.line)
    (lt_decided (k.start.place.index + o.simple_key_max_lookahead) m.place.index)
    (Decides-and (not (is_in_flow l)) (nat_lt k.start.place.line m.place.line) (outside_decided l)
    (lt_decided k.start.place.line m.place.line))

-- ---- signs

sign_decided : (c : ℕ) (text : List ℕ) → (0 == c) ≡ false
    → Decides (first text == c && is_blank_or_breakz (slice_index text 1)) (SignStands c text)
sign_decided c [] n = (
  λ e. absurd (let q = (and_parts (0 == c) (is_blank_or_breakz 0) e).0 in cc),
  λ (r, p, q). absurd
      cc,
)
sign_decided c (x ∷ xs) n = (
  λ e. let p = and_parts (x == c) (is_blank_or_breakz (first xs)) e in let q : x
      ≡ c = (is_decided x c).0 p.0 in (xs, ap (λ (x : ℕ). x ∷ xs) q, p.1),
  λ (r, p, q). let s : x ≡ c = cc in let t : xs
      ≡ r = cc in both (x == c) (is_blank_or_breakz (first xs)) ((is_decided x c).1 s)
      (ap (λ (r : List ℕ). is_blank_or_breakz (first r)) t ∙ q),
)
  where
    both : (a b : Bool) → a ≡ true → b ≡ true → (a && b) ≡ true
    both true b e f = f
    both false b e f = absurd cc

pub tabbed_decided : (h : Here) → Decides (is_tabbed_dash h) (DashBehindTab h)
unfolding is_tabbed_dash
tabbed_decided h =
    Decides-at (is_tabbed_dash h) (is_some h.tab
    && (next_char h == 0x2D && is_blank_or_breakz (slice_index h.unread.text 1)))
    (together (is_some h.tab) (next_char h == 0x2D) (is_blank_or_breakz (slice_index h.unread.text 1)))
    (Decides-and (is_some h.tab) (next_char h == 0x2D && is_blank_or_breakz (slice_index h.unread.text 1))
    (some_decided h.tab) (sign_decided 0x2D h.unread.text refl))
  where
    together : (a b c : Bool) → ((a && b) && c) ≡ (a && (b && c))
    together true b c = refl
    together false b c = refl

    some_decided : (t : Option Mark) → Decides (is_some t) ((tab : Mark) × (t ≡ Some tab))
    some_decided None = (λ e. absurd cc, λ (t, p). absurd cc)
    some_decided (Some t) = (λ e. (t, refl), λ p. refl)

pub nul_decided : (h : Here) → Decides (nul_behind h) (NulBehind h)
nul_decided h = on h.unread.text refl
  where
    on : (text : List ℕ) → h.unread.text ≡ text
        → Decides (slice_index text 1 == 0x00 && nat_lt 1 (length text)) (NulBehind h)
    on [] e = (λ f. absurd cc, λ (c, b, p). absurd (let q = sym e ∙ p in cc))
    on (x ∷ []) e = (λ f. absurd cc, λ (c, b, p). absurd (let q = sym e ∙ p in cc))
    on (x ∷ y ∷ ys) e = (
      λ f. let p = and_parts (y == 0x00) (nat_lt 1 (length (x ∷ y ∷ ys))) f in let q : y
          ≡ 0x00 = (is_decided y 0x00).0 p.0 in (x, ys, e ∙ ap (λ (y : ℕ). x ∷ y ∷ ys) q),
      λ (c, b, p). let q : y ≡ 0x00 = (let q = sym e ∙ p in cc) in both (y == 0x00) (nat_lt 1 (length (x ∷ y ∷ ys)))
          ((is_decided y 0x00).1 q) ((lt_decided 1 (length (x ∷ y ∷ ys))).1 (omega arith)),
    )
      where
        both : (a b : Bool) → a ≡ true → b ≡ true → (a && b) ≡ true
        both true b e f = f
        both false b e f = absurd cc

pub touches_decided : (h : Here) → Decides (opens_flow (slice_index h.unread.text 1)) (OpenerBehind h)
touches_decided h = on h.unread.text refl
  where
    some_opener : (c : ℕ) → Decides (opens_flow c) ((b : Bracket) × (c ≡ opener_char b))
    some_opener c = Decides-like (opens_flow c) (λ p. elim p [ inl q ↦ (Square, q) | inr q ↦ (Curly, q) ]) back
        (Decides-or (c == 0x5B) (c == 0x7B) (is_decided c 0x5B) (is_decided c 0x7B))
      where
        back : (b : Bracket) × (c ≡ opener_char b) → (c ≡ 0x5B) ⊎ (c ≡ 0x7B)
        back (Square, q) = inl q
        back (Curly, q) = inr q

    on : (text : List ℕ) → h.unread.text ≡ text → Decides (opens_flow (slice_index text 1)) (OpenerBehind h)
    on [] e = (λ f. absurd cc, λ (c, b, r, p). absurd (let q = sym e ∙ p in cc))
    on (x ∷ []) e = (λ f. absurd cc, λ (c, b, r, p). absurd (let q = sym e ∙ p in cc))
    on (x ∷ y ∷ ys) e = (
      λ f. let (b, q) = (some_opener y).0 f in (x, b, ys, e ∙ ap (λ (y : ℕ). x ∷ y ∷ ys) q),
      λ (c, b, r, p). (some_opener y).1 (b, (let q = sym e ∙ p in cc)),
    )

three_decided : (c : ℕ) (text : List ℕ) → (0 == c) ≡ false
    → Decides (((slice_index text 0 == c && slice_index text 1 == c) && slice_index text 2 == c)
    && is_blank_or_breakz (slice_index text 3)) (ThreeSignsStand c text)
three_decided c text n = on text
  where
    Same : List ℕ → Bool
    Same t = ((slice_index t 0 == c && slice_index t 1 == c) && slice_index t 2 == c)
        && is_blank_or_breakz (slice_index t 3)

    none : {A : Type 0} → (a : Bool) → (0 == c) ≡ true → A
    none a e = absurd cc

    last_zero : (a b : Bool) → (a && (0 == c)) ≡ true → (0 == c) ≡ true
    last_zero true b e = e
    last_zero false b e = absurd cc

    on : (t : List ℕ) → Decides (Same t) (ThreeSignsStand c t)
    on [] = (
      λ e. none true (and_parts (0 == c) (0 == c) (and_parts _ _ (and_parts _ _ e).0).0).0,
      λ (r, p, q). absurd
          cc,
    )
    on (x ∷ []) = (
      λ e. none true (and_parts (x == c) (0 == c) (and_parts _ _ (and_parts _ _ e).0).0).1,
      λ (r, p, q). absurd cc,
    )
    on (x ∷ y ∷ []) = (
      λ e. none true (and_parts (x == c && y == c) (0 == c) (and_parts _ _ e).0).1,
      λ (r, p, q). absurd
          cc,
    )
    on (x ∷ y ∷ z ∷ zs) =
        Decides-like (Same (x ∷ y ∷ z ∷ zs)) to from
        (Decides-and ((x == c && y == c) && z == c) (is_blank_or_breakz (first zs))
        (Decides-and (x == c && y == c) (z == c) (Decides-and (x == c) (y == c) (is_decided x c) (is_decided y c))
        (is_decided z c)) (true_decided (is_blank_or_breakz (first zs))))
      where
        to : (((x ≡ c) × (y ≡ c)) × (z ≡ c)) × (is_blank_or_breakz (first zs) ≡ true)
            → ThreeSignsStand c (x ∷ y ∷ z ∷ zs)
        to (((p, q), r), s) = (zs, ap₂ (λ (x y : ℕ). x ∷ y ∷ z ∷ zs) p q ∙ ap (λ (z : ℕ). c ∷ c ∷ z ∷ zs) r, s)

        from : ThreeSignsStand c (x ∷ y ∷ z ∷ zs)
            → (((x ≡ c) × (y ≡ c)) × (z ≡ c)) × (is_blank_or_breakz (first zs) ≡ true)
        from (r, p, q) = let t : zs ≡ r = cc in (
          ((cc, cc), cc),
          ap (λ (r : List ℕ). is_blank_or_breakz (first r)) t
              ∙ q,
        )

empty_decided : (text : List ℕ) → Decides (not (length text == 0)) (text ≢ [])
empty_decided [] = (λ e. absurd cc, λ n. absurd (n refl))
empty_decided (x ∷ xs) = (λ e p. absurd cc, λ n. ap not (some (length xs)))
  where
    some : (n : ℕ) → (suc n == 0) ≡ false
    some n = grind (arith, nat_tests)

pub goes_decided : (l : Laid) (h : Here) (cut : Mark) → Decides (goes_on_behind l h cut) (GoesOnBehind l h cut)
unfolding goes_on_behind
goes_decided l h cut =
    let ends = is_document_mark h.unread.text
    || (next_char h == 0x3A && is_blank_or_breakz (slice_index h.unread.text 1)) in
    Decides-and ((not (is_in_flow l) && h.place.line == suc cut.place.line)
    && (not (is_left (block_column l) h.place.column) && not (text_len h == 0))) (not ends)
    (Decides-and (not (is_in_flow l) && h.place.line == suc cut.place.line)
    (not (is_left (block_column l) h.place.column) && not (text_len h == 0))
    (Decides-and (not (is_in_flow l)) (h.place.line == suc cut.place.line) (outside_decided l)
    (is_decided h.place.line (suc cut.place.line)))
    (Decides-and (not (is_left (block_column l) h.place.column)) (not (text_len h == 0))
    (Decides-not (is_left (block_column l) h.place.column) (left_decided l h.place.column))
    (empty_decided h.unread.text)))
    (Decides-not ends (Decides-or (is_document_mark h.unread.text)
    (next_char h == 0x3A && is_blank_or_breakz (slice_index h.unread.text 1))
    (Decides-or _ _ (three_decided 0x2D h.unread.text refl) (three_decided 0x2E h.unread.text refl))
    (sign_decided 0x3A h.unread.text refl)))

-- ---- tabs

pub tab_told : (h : Here) (tab : Mark) → leading_tab h ≡ Some tab → TabBegins h tab
tab_told h tab e = on h.begins_line (is_breakz (next_char h)) refl refl e
  where
    on : (a b : Bool) → h.begins_line ≡ a → is_breakz (next_char h) ≡ b
        → (if a && not b then h.tab else None) ≡ Some tab → TabBegins h tab
    on true false p q e = ((p, q), e)
    on true true p q e = absurd cc
    on false b p q e = absurd cc

pub tab_leads : (h : Here) (tab : Mark) → TabBegins h tab → leading_tab h ≡ Some tab
tab_leads h tab ((p, q), e) = rw (p, q) e

pub question_decided : (last : LastLexeme) → Decides (is_question last) (IsBehindQuestion last)
question_decided BehindQuestion = (λ e. inl refl, λ p. refl)
question_decided BehindProperty = (λ e. inr refl, λ p. refl)
question_decided Opener = (λ e. absurd cc, λ p. elim p [ inl q ↦ absurd cc | inr q ↦ absurd cc ])
question_decided BehindDash = (λ e. absurd cc, λ p. elim p [ inl q ↦ absurd cc | inr q ↦ absurd cc ])
question_decided BehindBareColon = (λ e. absurd cc, λ p. elim p [ inl q ↦ absurd cc | inr q ↦ absurd cc ])
question_decided Adjacent = (λ e. absurd cc, λ p. elim p [ inl q ↦ absurd cc | inr q ↦ absurd cc ])
question_decided Another = (λ e. absurd cc, λ p. elim p [ inl q ↦ absurd cc | inr q ↦ absurd cc ])

pub adjacent_decided : (last : LastLexeme) → Decides (is_adjacent last) (last ≡ Adjacent)
adjacent_decided Adjacent = (λ e. refl, λ p. refl)
adjacent_decided Opener = (λ e. absurd cc, λ p. absurd cc)
adjacent_decided BehindDash = (λ e. absurd cc, λ p. absurd cc)
adjacent_decided BehindQuestion = (λ e. absurd cc, λ p. absurd cc)
adjacent_decided BehindBareColon = (λ e. absurd cc, λ p. absurd cc)
adjacent_decided BehindProperty = (λ e. absurd cc, λ p. absurd cc)
adjacent_decided Another = (λ e. absurd cc, λ p. absurd cc)

pub key_tab_decided : (l : Laid) (tab : Mark)
    → Decides (is_question l.last && is_left (block_column l) tab.place.column) (LeftOfKey l tab)
key_tab_decided l tab = Decides-and (is_question l.last) (is_left (block_column l) tab.place.column)
    (question_decided l.last) (left_decided l tab.place.column)

indentation_decided : (further : Bool) (P : Type 0) (l : Laid) (column : ℕ) → Decides further P
    → Decides (nat_lt column (tab_column_of further (block_column l))) (InIndentation P l column)
indentation_decided further P l column d = on l.columns refl
  where
    by : (v : Bool) → further ≡ v → (c : OpenColumn)
        → Decides (nat_lt column (if v then c.column + 1 else c.column))
        ((column < c.column) ⊎ (P × (column ≡ c.column)))
    by true e c = (
      λ f. split ((lt_decided column (c.column + 1)).0 f),
      λ p. (lt_decided column (c.column + 1)).1
          (elim p [ inl q ↦ omega (arith, q) | inr q ↦ (let r = q.1 in omega (arith, r)) ]),
    )
      where
        split : column < c.column + 1 → (column < c.column) ⊎ (P × (column ≡ c.column))
        split f = elim (cases_eq column c.column)
            [ inl same ↦ inr (tells d e, same) | inr n ↦ inl (omega (arith, f, n)) ]
    by false e c = (
      λ f. inl ((lt_decided column c.column).0 f),
      λ p. (lt_decided column c.column).1
          (elim p [ inl q ↦ q | inr q ↦ absurd (denies d e q.0) ]),
    )

    on : (cs : List OpenColumn) → l.columns ≡ cs
        → Decides (nat_lt column (tab_column_of further (innermost_column cs))) (InIndentation P l column)
    on [] e = (
      λ f. absurd (let q = (lt_decided column 0).0 f in omega (arith, q)),
      λ (c, cs, p, q). absurd
          (let q = sym e ∙ p in cc),
    )
    on (c ∷ cs) e = (
      λ f. (c, cs, e, (by further refl c).0 f),
      λ (b, bs, p, q). let r : b
          ≡ c = (let q = sym e ∙ p in cc) in (by further refl c).1
          (subst (λ (b : OpenColumn). (column < b.column) ⊎ (P × (column ≡ b.column))) r q),
    )

pub strict_decided : (o : OptionsData) (l : Laid) → Decides (is_in_flow l && o.strict_indentation) (StrictInside o l)
strict_decided o l = Decides-and (is_in_flow l) o.strict_indentation (flow_decided l)
    (true_decided o.strict_indentation)

-- the column left of which no tab may begin a line
abbrev pub tab_limit : OptionsData → Laid → ℕ
tab_limit o l = tab_column_of (l.rolled || (is_in_flow l && o.strict_indentation)) (block_column l)

pub block_tab_decided : (o : OptionsData) (l : Laid) (tab : Mark)
    → Decides (nat_lt tab.place.column (tab_limit o l)) (InBlock o l tab)
block_tab_decided o l tab = indentation_decided (l.rolled || (is_in_flow l && o.strict_indentation)) _ l
    tab.place.column (Decides-or l.rolled (is_in_flow l && o.strict_indentation) (true_decided l.rolled)
    (strict_decided o l))

-- ---- what a scalar is told

wide_decided : (l : Laid) (column : ℕ) → Decides (is_wide_at (is_in_flow l) column l.columns) (IsWide column l)
wide_decided l column = on l.columns refl
  where
    on : (cs : List OpenColumn) → l.columns ≡ cs → Decides (is_wide_at (is_in_flow l) column cs) (IsWide column l)
    on [] e = (λ f. absurd cc, λ (c, cs, p, q). absurd (let q = sym e ∙ p in cc))
    on (c ∷ cs) e =
        let d = Decides-and c.is_wide (is_in_flow l || not (c.column == column)) (true_decided c.is_wide)
        (Decides-or (is_in_flow l) (not (c.column == column)) (flow_decided l)
        (Decides-not (c.column == column) (is_decided c.column column))) in (
          λ f. (c, cs, e, d.0 f),
          λ (b, bs, p, q). let r : b
              ≡ c = (let q = sym e ∙ p in cc) in d.1
              (subst (λ (b : OpenColumn). (b.is_wide ≡ true) × (InFlow l ⊎ (b.column ≢ column))) r q),
        )

abbrev pub further_tab : OptionsData → ℕ → Laid → Bool
further_tab o column l = is_wide_at (is_in_flow l) column l.columns || (is_in_flow l && o.strict_indentation)

further_decided : (o : OptionsData) (column : ℕ) (l : Laid)
    → Decides (further_tab o column l) (IsWide column l ⊎ StrictInside o l)
further_decided o column l = Decides-or (is_wide_at (is_in_flow l) column l.columns)
    (is_in_flow l && o.strict_indentation) (wide_decided l column) (strict_decided o l)

pub flow_is : (l : Laid) → FlowIs l (is_in_flow l)
flow_is l = on (is_in_flow l) refl
  where
    on : (v : Bool) → is_in_flow l ≡ v → FlowIs l v
    on true e = inside (tells (flow_decided l) e)
    on false e = outside (tells (outside_decided l) (ap not e))

pub flow_same : {l : Laid} {v : Bool} → FlowIs l v → is_in_flow l ≡ v
flow_same {l = l} (inside f) = asserts (flow_decided l) f
flow_same {l = l} (outside f) = ap (λ (bs : List OpenBracket). is_nonempty bs) f

column_is : (l : Laid) → ColumnIs l (block_column l)
column_is l = on l.columns refl
  where
    on : (cs : List OpenColumn) → l.columns ≡ cs → ColumnIs l (innermost_column cs)
    on [] e = at_root e
    on (c ∷ cs) e = in_block (c, cs, e, refl)

column_same : {l : Laid} {n : Option ℕ} → ColumnIs l n → block_column l ≡ n
column_same (at_root e) = ap (λ (cs : List OpenColumn). innermost_column cs) e
column_same (in_block (c, cs, e, f)) = ap (λ (cs : List OpenColumn). innermost_column cs) e ∙ ap (λ (n : ℕ). Some n) f

module _ (o : OptionsData) (column : ℕ) (l : Laid) where
  abbrev Further : Type 0
  Further = IsWide column l ⊎ StrictInside o l

  tabs_are : TabColumnIs Further l (tab_column_of (further_tab o column l) (block_column l))
  tabs_are = on l.columns refl
    where
      by : (v : Bool) → further_tab o column l ≡ v → (c : OpenColumn) (cs : List OpenColumn) → l.columns ≡ c ∷ cs
          → TabColumnIs Further l (if v then c.column + 1 else c.column)
      by true f c cs e = and_in (c, cs, e, refl) (tells (further_decided o column l) f)
      by false f c cs e = left_of (c, cs, e, refl) (denies (further_decided o column l) f)

      on : (cs : List OpenColumn) → l.columns ≡ cs
          → TabColumnIs Further l (tab_column_of (further_tab o column l) (innermost_column cs))
      on [] e = nowhere e
      on (c ∷ cs) e = by (further_tab o column l) refl c cs e

  tabs_same : {n : ℕ} → TabColumnIs Further l n → tab_column_of (further_tab o column l) (block_column l) ≡ n
  tabs_same (nowhere e) = ap (λ (cs : List OpenColumn). tab_column_of (further_tab o column l) (innermost_column cs)) e
  tabs_same (left_of (c, cs, e, f) n) = ap (λ (cs : List OpenColumn). tab_column_of (further_tab o column l)
      (innermost_column cs)) e ∙ ap (λ v. if v then c.column + 1 else c.column) (rejects (further_decided o column l) n)
      ∙ f
  tabs_same (and_in (c, cs, e, f) y) = ap (λ (cs : List OpenColumn). tab_column_of (further_tab o column l)
      (innermost_column cs)) e ∙ ap (λ v. if v then c.column + 1 else c.column) (asserts (further_decided o column l) y)
      ∙ ap (λ (n : ℕ). n + 1) f

  -- the layout that the reader tells a scalar is the declared one
  pub layout_is : LayoutIs o column l (layout_of o column l)
  layout_is = record { block = column_is l; tabs = tabs_are; flow = flow_is l; strict = refl; comments = refl }

  pub layout_same : {d : LayoutData} → LayoutIs o column l d → layout_of o column l ≡ d
  layout_same {d = d} p =
      let a = column_same p.block in let b = tabs_same p.tabs in let c = flow_same p.flow in let s = sym
      p.strict in let n = sym p.comments in
      ap₂ (λ (x : Option ℕ) (y : ℕ). record {
        block_column = x;
        tab_column = y;
        in_flow = is_in_flow l;
        strict =
            o.strict_indentation;
        comments = true;
      }) a b
      ∙ ap₂ (λ (x y : Bool). record {
        block_column = d.block_column;
        tab_column = d.tab_column;
        in_flow = x;
        strict = y;
        comments = true;
      }) c s
      ∙ ap (λ (x : Bool). record {
        block_column = d.block_column;
        tab_column = d.tab_column;
        in_flow = d.in_flow;
        strict = d.strict;
        comments = x;
      }) n

-- whether a `:` touches an opener
pub touching_decided : (h : Here) (l : Laid) → Decides
    (not (is_adjacent l.last) && opens_flow (slice_index h.unread.text 1)) ((l.last ≢ Adjacent) × OpenerBehind h)
touching_decided h l = Decides-and (not (is_adjacent l.last)) (opens_flow (slice_index h.unread.text 1))
    (Decides-not (is_adjacent l.last) (adjacent_decided l.last)) (touches_decided h)

-- whether a lexeme in flow stands left of where a node may
pub outside_block_decided : (o : OptionsData) (h : Here) (l : Laid)
    → Decides ((o.strict_indentation && is_in_flow l) && is_left (block_column l) h.place.column) (LeftInside o h l)
outside_block_decided o h l =
    Decides-and (o.strict_indentation && is_in_flow l) (is_left (block_column l) h.place.column)
    (Decides-like (o.strict_indentation && is_in_flow l) (λ p. (p.1, p.0)) (λ p. (p.1, p.0))
    (Decides-and o.strict_indentation (is_in_flow l) (true_decided o.strict_indentation) (flow_decided l)))
    (left_decided l h.place.column)

-- ---- byte-order marks

pub prefix_decided : (l : Laid) → Decides (takes_prefix l) (MayPrefix l)
prefix_decided l = Decides-and l.may_prefix (not (is_in_flow l)) (true_decided l.may_prefix) (outside_decided l)
