-- The start table says which lexeme begins at a place.
use Rattle.std.proofs.Common.{◌≡◌, ◌≢◌, ℕ, ◌<◌, ◌==◌, ◌&&◌, ◌||◌, Bool, true, false, not, List, [], ◌∷◌, length, ◌⊎◌}
use Rattle.std.proofs.Common.{inl, inr, refl, sym, ap, ◌∙◌, subst, arith}
use Rattle.std.proofs.lemmas.Bool.{and_parts, or_parts, not-false, not-true, or_cases, eq-eqb}
use Rattle.std.specs.Prelude.{if◌then◌else◌, slice_index}
use Rattle.std.proofs.lemmas.Bool.Decides.{nat_tests}
use Rattle.granit_base.specs.Classes.{is_blank_or_breakz, is_printable, is_bom}
use Rattle.granit_base.specs.Place.{first}
use Rattle.granit_lexemes.specs.BlockScalar.{block_indicator}
use Rattle.granit_lexemes.specs.Here.{Here}
use Rattle.granit_lexemes.specs.declared.layout.Bracket.TheVariants.{Square, Curly}
use Rattle.granit_lexemes.specs.Basics.{is_document_mark}
use Rattle.granit_lexemes.proofs.HereLemmas.{not_empty}
use Rattle.granit_machine.proofs.SortLemmas.{no_flow}
use Rattle.granit_machine.specs.LexemeSort.{PlacedSort, LexemeSort, TextEnd, StartMark, EndMark, Unprintable}
use Rattle.granit_machine.specs.LexemeSort.{DirectiveSign, Placed, OpenSign, CloseSign, CommaSign, DashSign}
use Rattle.granit_machine.specs.LexemeSort.{QuestionSign, ColonSign, AliasSign, AnchorSign, TagSign, BlockSign}
use Rattle.granit_machine.specs.LexemeSort.{QuoteSign, StrayMark, sort_of, sort_at}
use Rattle.granit_language.specs.Begins.{ReservedChar, parts_colon, SignBegins, opens, closes, comma, dash}
use Rattle.granit_language.specs.Begins.{question, colon, alias, anchor, tag, block, quote, stray, nothing, other}
use Rattle.granit_language.specs.Begins.{ThreeStand, NoMark, Begins, at_end, dashes, dots, unprintable, directive, sign}

either : {A : Type 0} (P : A → Type 0) (b : Bool) (x y : A) → (b ≡ true → P x) → (b ≡ false → P y)
    → P (if b then x else y)
either P true x y p q = p refl
either P false x y p q = q refl

pub same : (c d : ℕ) → (c == d) ≡ true → d ≡ c
same c d e = grind (arith, nat_tests)

differs : (c d : ℕ) → (c == d) ≡ false → c ≢ d
differs c d e = λ p. grind (arith, nat_tests)

unless : (c d : ℕ) (v : Bool) → (c == d && v) ≡ false → c ≡ d → v ≡ false
unless c d true e p = absurd (grind (arith, nat_tests))
unless c d false e p = refl

bom_is : (c : ℕ) → is_bom c ≡ true → 0xFEFF ≡ c
unfolding is_bom
bom_is c e = same c 0xFEFF e

no_bom : (c : ℕ) → is_bom c ≡ false → c ≢ 0xFEFF
unfolding is_bom
no_bom c e = differs c 0xFEFF e

reserved : (c : ℕ) → (((c == 0x40 || c == 0x60) || c == 0x25) || (c == 0x7C || c == 0x3E)) ≡ true → ReservedChar c
reserved c e = elim (or_cases ((c == 0x40 || c == 0x60) || c == 0x25) (c == 0x7C || c == 0x3E) e) [
  | inl p ↦ elim (or_cases (c == 0x40 || c == 0x60) (c == 0x25) p) [
    | inl q ↦ elim (or_cases (c == 0x40) (c == 0x60) q)
        [ inl r ↦ inl (inl (sym (same c 0x40 r))) | inr r ↦ inl (inr (sym (same c 0x60 r))) ]
    | inr q ↦ inr
        (inl (sym (same c 0x25 q)))
  ]
  | inr p ↦ elim (or_cases (c == 0x7C) (c == 0x3E) p)
      [ inl q ↦ inr (inr (inl (sym (same c 0x7C q)))) | inr q ↦ inr (inr (inr (sym (same c 0x3E q)))) ]
]

not_reserved : (c : ℕ) → (((c == 0x40 || c == 0x60) || c == 0x25) || (c == 0x7C || c == 0x3E)) ≡ false → ReservedChar c
    → ⊥
not_reserved c e =
    let a = or_parts ((c == 0x40 || c == 0x60) || c == 0x25) (c == 0x7C || c == 0x3E) e in
    let b = or_parts (c == 0x40 || c == 0x60) (c == 0x25) a.0 in
    let d = or_parts (c == 0x40) (c == 0x60) b.0 in
    let f = or_parts (c == 0x7C) (c == 0x3E) a.1 in
    λ r. elim r [
      | inl p ↦ elim p [ inl q ↦ differs c 0x40 d.0 q | inr q ↦ differs c 0x60 d.1 q ]
      | inr p ↦ elim p [
        | inl q ↦ differs c 0x25 b.1 q
        | inr q ↦ elim q
            [ inl s ↦ differs c 0x7C f.0 s | inr s ↦ differs c 0x3E f.1 s ]
      ]
    ]

module _ (in_flow adjacent : Bool) (next : ℕ) where
  at_char : (c d : ℕ) (sort : PlacedSort) → (c == d) ≡ true → SignBegins in_flow adjacent next d sort
      → SignBegins in_flow adjacent next c sort
  at_char c d sort e p = subst (λ c. SignBegins in_flow adjacent next c sort) (same c d e) p

  block_at : (c : ℕ) (v : Bool) → (c == 0x7C) ≡ v → (v || c == 0x3E) ≡ true → in_flow ≡ false
      → SignBegins in_flow adjacent next c (BlockSign v)
  block_at c true e held out = at_char c 0x7C (BlockSign true) e (block true out)
  block_at c false e held out = at_char c 0x3E (BlockSign false) held (block false out)

  quote_at : (c : ℕ) (v : Bool) → (c == 0x27) ≡ v → (v || c == 0x22) ≡ true
      → SignBegins in_flow adjacent next c (QuoteSign v)
  quote_at c true e held = at_char c 0x27 (QuoteSign true) e (quote true)
  quote_at c false e held = at_char c 0x22 (QuoteSign false) held (quote false)

  not_block : (c : ℕ) → ((c == 0x7C || c == 0x3E) && not in_flow) ≡ false → in_flow ≡ false → (literal : Bool)
      → c ≢ block_indicator literal
  not_block c e out true p = absurd (let n : (c == 0x7C)
      ≡ true = grind (arith, nat_tests, p) in let z = rw (n, out) at e in cc)
  not_block c e out false p = absurd (let n : (c == 0x3E) ≡ true = grind (arith, nat_tests, p) in let m : (c == 0x7C)
      ≡ false = grind (arith, nat_tests, p) in let z = rw (n, m, out) at e in cc)

  pub sign_is : (c : ℕ) → SignBegins in_flow adjacent next c (sort_of in_flow adjacent c next)
  unfolding sort_of
  sign_is c =
      let P = λ (sort : PlacedSort). SignBegins in_flow adjacent next c sort in
      either P (c == 0x5B) _ _ (λ e. at_char c 0x5B (OpenSign Square) e (opens Square)) (λ n1.
      either P (c == 0x7B) _ _ (λ e. at_char c 0x7B (OpenSign Curly) e (opens Curly)) (λ n2.
      either P (c == 0x5D) _ _ (λ e. at_char c 0x5D (CloseSign Square) e (closes Square)) (λ n3.
      either P (c == 0x7D) _ _ (λ e. at_char c 0x7D (CloseSign Curly) e (closes Curly)) (λ n4.
      either P (c == 0x2C) _ _ (λ e. at_char c 0x2C CommaSign e comma) (λ n5.
      either P (c == 0x2D && is_blank_or_breakz next) _ _
      (λ e. let p = and_parts (c == 0x2D) (is_blank_or_breakz next) e in at_char c 0x2D DashSign p.0 (dash p.1))
      (λ n6.
      either P (c == 0x3F && is_blank_or_breakz next) _ _
      (λ e. let p = and_parts (c == 0x3F) (is_blank_or_breakz next) e in at_char c 0x3F QuestionSign p.0
      (question p.1)) (λ n7.
      either P (c == 0x3A && parts_colon in_flow adjacent next) _ _
      (λ e. let p = and_parts (c == 0x3A) (parts_colon in_flow adjacent next) e in at_char c 0x3A ColonSign p.0
      (colon p.1)) (λ n8.
      either P (c == 0x2A) _ _ (λ e. at_char c 0x2A AliasSign e alias) (λ n9.
      either P (c == 0x26) _ _ (λ e. at_char c 0x26 AnchorSign e anchor) (λ n10.
      either P (c == 0x21) _ _ (λ e. at_char c 0x21 TagSign e tag) (λ n11.
      either P ((c == 0x7C || c == 0x3E) && not in_flow) _ _
      (λ e. let p = and_parts (c == 0x7C || c == 0x3E) (not in_flow) e in block_at c (c == 0x7C) refl p.0
      (not-true in_flow p.1)) (λ n12.
      either P (c == 0x27 || c == 0x22) _ _ (λ e. quote_at c (c == 0x27) refl e) (λ n13.
      either P (is_bom c) _ _ (λ e. subst (λ c. SignBegins in_flow adjacent next c StrayMark) (bom_is c e) stray)
      (λ n14.
      either P (((c == 0x40 || c == 0x60) || c == 0x25) || (c == 0x7C || c == 0x3E)) _ _
      (λ e. nothing (reserved c e) (not_block c n12)) (λ n15.
      let q = or_parts (c == 0x27) (c == 0x22) n13 in
      other (no_flow c n1 n2 n3 n4 n5) (unless c 0x2D (is_blank_or_breakz next) n6)
      (unless c 0x3F (is_blank_or_breakz next) n7) (unless c 0x3A (parts_colon in_flow adjacent next) n8)
      (differs c 0x2A n9) (differs c 0x26 n10) (differs c 0x21 n11) (differs c 0x27 q.0) (differs c 0x22 q.1)
      (no_bom c n14) (not_reserved c n15))))))))))))))))

-- ---- document marks

abbrev pub three : ℕ → List ℕ → Bool
three c text = ((slice_index text 0 == c && slice_index text 1 == c) && slice_index text 2 == c)
    && is_blank_or_breakz (slice_index text 3)

pub three_stand : (c column : ℕ) (text : List ℕ) → 0 < c → column ≡ 0 → three c text ≡ true → ThreeStand c column text
three_stand c column [] some z e = absurd (grind (arith, nat_tests))
three_stand c column (a ∷ []) some z e = absurd (grind (arith, nat_tests))
three_stand c column (a ∷ b ∷ []) some z e = absurd (grind (arith, nat_tests))
three_stand c column (a ∷ b ∷ d ∷ t) some z e =
    let p = and_parts ((a == c && b == c) && d == c) (is_blank_or_breakz (slice_index t 0)) e in
    let q = and_parts (a == c && b == c) (d == c) p.0 in
    let r = and_parts (a == c) (b == c) q.0 in
    let x = same a c r.0 in let y = same b c r.1 in let w = same d c q.1 in
    (z, t, cc, p.1)

stand_three : (c column : ℕ) (text : List ℕ) → ThreeStand c column text → three c text ≡ true
stand_three c column text (z, t, e, s) = ap (three c) e
    ∙ passes (c == c) (is_blank_or_breakz (first t)) (grind (arith, nat_tests)) s
  where
    passes : (a b : Bool) → a ≡ true → b ≡ true → (((a && a) && a) && b) ≡ true
    passes true true p q = refl
    passes true false p q = absurd cc
    passes false b p q = absurd cc

mark_of_three : (column : ℕ) (text : List ℕ) → (column == 0 && is_document_mark text) ≡ false → NoMark column text
mark_of_three column text e = (
  λ s. no_three (column == 0) (three 0x2D text) (three 0x2E text) (eq-eqb column 0 s.0)
      (inl (stand_three 0x2D column text s)) e,
  λ s. no_three (column == 0) (three 0x2D text) (three 0x2E text) (eq-eqb column 0 s.0)
      (inr (stand_three 0x2E column text s)) e,
)
  where
    no_three : (a b d : Bool) → a ≡ true → (b ≡ true) ⊎ (d ≡ true) → (a && (b || d)) ≡ false → ⊥
    no_three false b d p q e = absurd cc
    no_three true true d p q e = absurd cc
    no_three true false true p q e = absurd cc
    no_three true false false p (inl q) e = absurd cc
    no_three true false false p (inr q) e = absurd cc

dash_three : (text : List ℕ) → (three 0x2D text || three 0x2E text) ≡ true → (first text == 0x2D) ≡ true
    → three 0x2D text ≡ true
dash_three text e d = elim (or_cases (three 0x2D text) (three 0x2E text) e) [
  | inl p ↦ p
  | inr p ↦ absurd (let q = and_parts ((slice_index text 0 == 0x2E && slice_index text 1 == 0x2E)
      && slice_index text 2 == 0x2E) (is_blank_or_breakz (slice_index text 3)) p in
      let r = and_parts (slice_index text 0 == 0x2E && slice_index text 1 == 0x2E) (slice_index text 2 == 0x2E) q.0 in
      let s = and_parts (slice_index text 0 == 0x2E) (slice_index text 1 == 0x2E) r.0 in grind
      (arith, nat_tests, s.0, d))
]

dot_three : (text : List ℕ) → (three 0x2D text || three 0x2E text) ≡ true → (first text == 0x2D) ≡ false
    → three 0x2E text ≡ true
dot_three text e d = elim (or_cases (three 0x2D text) (three 0x2E text) e) [
  | inr p ↦ p
  | inl p ↦ absurd (let q = and_parts ((slice_index text 0 == 0x2D && slice_index text 1 == 0x2D)
      && slice_index text 2 == 0x2D) (is_blank_or_breakz (slice_index text 3)) p in
      let r = and_parts (slice_index text 0 == 0x2D && slice_index text 1 == 0x2D) (slice_index text 2 == 0x2D) q.0 in
      let s = and_parts (slice_index text 0 == 0x2D) (slice_index text 1 == 0x2D) r.0 in cc)
]

-- ---- what begins at a place

module _ (in_flow adjacent : Bool) (h : Here) where
  percent : (text : List ℕ) (column : ℕ) → (column == 0 && first text == 0x25) ≡ true
      → Begins in_flow adjacent column text DirectiveSign
  percent [] column e = absurd (let p = and_parts (column == 0) (0 == 0x25) e in cc)
  percent (c ∷ text) column e = let p = and_parts (column == 0) (c == 0x25)
      e in subst (λ c. Begins in_flow adjacent column (c ∷ text) DirectiveSign) (same c 0x25 p.1)
      (directive (sym (same column 0 p.0)))

  no_percent : (column c : ℕ) → (column == 0 && c == 0x25) ≡ false → column ≡ 0 → c ≢ 0x25
  no_percent column c e z = λ p. grind (arith, nat_tests)

  begins_on : (text : List ℕ) (column : ℕ) → Begins in_flow adjacent column text (
      if length text == 0 then TextEnd
      else if column == 0 && is_document_mark text then (if first text == 0x2D then StartMark else EndMark)
      else if not (is_printable (first text)) then Unprintable
      else if column == 0 && first text == 0x25 then DirectiveSign
      else Placed (sort_of in_flow adjacent (first text) (slice_index text 1)))
  begins_on [] column = at_end
  begins_on (c ∷ text) column =
      let P = λ (sort : LexemeSort). Begins in_flow adjacent column (c ∷ text) sort in
      either P (length (c ∷ text) == 0) _ _ (λ e. absurd (let n = not_empty c text in cc)) (λ _.
      either P (column == 0 && is_document_mark (c ∷ text)) _ _
      (λ e. let p = and_parts (column == 0) (is_document_mark (c ∷ text)) e in
      either P (c == 0x2D) _ _ (λ d. dashes (three_stand 0x2D column (c ∷ text) (omega arith) (sym (same column 0 p.0))
      (dash_three (c ∷ text) p.1 d)))
      (λ d. dots (three_stand 0x2E column (c ∷ text) (omega arith) (sym (same column 0 p.0))
      (dot_three (c ∷ text) p.1 d))))
      (λ m. let no = mark_of_three column (c ∷ text) m in
      either P (not (is_printable c)) _ _ (λ e. unprintable no (not-true (is_printable c) e)) (λ y.
      either P (column == 0 && c == 0x25) _ _ (λ e. percent (c ∷ text) column e) (λ n.
      sign no (not-false (is_printable c) y) (no_percent column c n) (sign_is in_flow adjacent (first text) c)))))

  -- the sort of the lexeme is by the start table
  pub begins_is : Begins in_flow adjacent h.place.column h.unread.text (sort_at in_flow adjacent h)
  unfolding sort_at
  begins_is = begins_on h.unread.text h.place.column
