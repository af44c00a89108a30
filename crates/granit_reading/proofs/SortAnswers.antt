-- The lexeme that begins at a place is the one that the reader's start table tells.
use Rattle.std.proofs.Common.{◌≡◌, ◌≢◌, ℕ, ◌==◌, ◌&&◌, ◌||◌, Bool, true, false, not, List, ◌∷◌, length, inl, inr, refl}
use Rattle.std.proofs.Common.{sym, ap, ap₂, ◌∙◌, subst, arith}
use Rattle.std.specs.Prelude.{if◌then◌else◌, slice_index}
use Rattle.std.proofs.lemmas.Bool.{cond-true, cond-false, and_parts, or_parts, or_cases, or_from}
use Rattle.granit_base.specs.Classes.{is_blank_or_breakz, is_flow, is_printable, is_bom, is_break}
use Rattle.granit_base.specs.Place.{first}
use Rattle.granit_lexemes.specs.Basics.{is_document_mark}
use Rattle.granit_lexemes.specs.BlockScalar.{block_indicator}
use Rattle.granit_lexemes.specs.Here.{Here}
use Rattle.granit_lexemes.specs.declared.layout.Bracket.TheVariants.{Square, Curly}
use Rattle.granit_lexemes.proofs.HereLemmas.{not_empty}
use Rattle.granit_lexemes.specs.Lexeme.{Lexeme, LexemeKind}
use Rattle.granit_machine.specs.LexemeSort.{PlacedSort, NoSign, PlainSign, LexemeSort, TextEnd, StartMark, EndMark}
use Rattle.granit_machine.specs.LexemeSort.{Unprintable, DirectiveSign, Placed, sort_of, sort_at}
use Rattle.granit_machine.specs.Reader.{is_end_kind}
use Rattle.granit_language.specs.Begins.{ReservedChar, parts_colon, SignBegins, opens, closes, comma, dash}
use Rattle.granit_language.specs.Begins.{question, colon, alias, anchor, tag, block, quote, stray, nothing, other}
use Rattle.granit_language.specs.Begins.{ThreeStand, NoMark, Begins, at_end, dashes, dots, unprintable, directive, sign}
use Rattle.granit_reading.proofs.Sorting.{same, three, three_stand}

is_not : (c d : ℕ) → c ≢ d → (c == d) ≡ false
is_not c d n = on (c == d) refl
  where
    on : (v : Bool) → (c == d) ≡ v → v ≡ false
    on true e = absurd (n (sym (same c d e)))
    on false e = refl

unless_and : (c d : ℕ) (v : Bool) → (c ≡ d → v ≡ false) → (c == d && v) ≡ false
unless_and c d v n = on (c == d) refl
  where
    on : (w : Bool) → (c == d) ≡ w → (w && v) ≡ false
    on true e = n (sym (same c d e))
    on false e = refl

and_not : (a b : Bool) → a ≡ false → (a && b) ≡ false
and_not true b e = absurd cc
and_not false b e = refl

module _ (in_flow adjacent : Bool) (next : ℕ) where
  abbrev Sorts : ℕ → PlacedSort → Type 0
  Sorts c s = sort_of in_flow adjacent c next ≡ s

  -- a character that is reserved and begins no block scalar
  reserved_answers : (c : ℕ) → ReservedChar c → (in_flow ≡ false → (literal : Bool) → c ≢ block_indicator literal)
      → Sorts c NoSign
  unfolding sort_of is_bom
  reserved_answers c (inl (inl e)) n = subst (λ c. Sorts c NoSign) (sym e) refl
  reserved_answers c (inl (inr e)) n = subst (λ c. Sorts c NoSign) (sym e) refl
  reserved_answers c (inr (inl e)) n = subst (λ c. Sorts c NoSign) (sym e) refl
  reserved_answers c (inr (inr (inl e))) n = subst (λ c. Sorts c NoSign) (sym e) (on in_flow refl)
    where
      on : (v : Bool) → in_flow ≡ v → Sorts 0x7C NoSign
      on true f = rw f refl
      on false f = absurd (n f true e)
  reserved_answers c (inr (inr (inr e))) n = subst (λ c. Sorts c NoSign) (sym e) (on in_flow refl)
    where
      on : (v : Bool) → in_flow ≡ v → Sorts 0x3E NoSign
      on true f = rw f refl
      on false f = absurd (n f false e)

  plain_answers : (c : ℕ) → is_flow c ≡ false → (c ≡ 0x2D → is_blank_or_breakz next ≡ false)
      → (c ≡ 0x3F → is_blank_or_breakz next ≡ false) → (c ≡ 0x3A → parts_colon in_flow adjacent next ≡ false)
      → (c ≢ 0x2A) → (c ≢ 0x26) → (c ≢ 0x21) → (c ≢ 0x27) → (c ≢ 0x22) → (c ≢ 0xFEFF) → (ReservedChar c → ⊥)
      → Sorts c PlainSign
  unfolding sort_of is_flow is_bom
  plain_answers c flow d q o a b e f g bom r =
      let p = or_parts (c == 0x2C || (c == 0x5B || c == 0x5D)) (c == 0x7B || c == 0x7D) flow in
      let u = or_parts (c == 0x2C) (c == 0x5B || c == 0x5D) p.0 in
      let s = or_parts (c == 0x5B) (c == 0x5D) u.1 in
      let k = or_parts (c == 0x7B) (c == 0x7D) p.1 in
      let at = is_not c 0x40 (λ e. r (inl (inl e))) in
      let tick = is_not c 0x60 (λ e. r (inl (inr e))) in
      let percent = is_not c 0x25 (λ e. r (inr (inl e))) in
      let bar = is_not c 0x7C (λ e. r (inr (inr (inl e)))) in
      let more = is_not c 0x3E (λ e. r (inr (inr (inr e)))) in
      cond-false (c == 0x5B) _ _ s.0 ∙ cond-false (c == 0x7B) _ _ k.0 ∙ cond-false (c == 0x5D) _ _ s.1
      ∙ cond-false (c == 0x7D) _ _ k.1 ∙ cond-false (c == 0x2C) _ _ u.0
      ∙ cond-false (c == 0x2D && is_blank_or_breakz next) _ _ (unless_and c 0x2D (is_blank_or_breakz next) d)
      ∙ cond-false (c == 0x3F && is_blank_or_breakz next) _ _ (unless_and c 0x3F (is_blank_or_breakz next) q)
      ∙ cond-false (c == 0x3A && parts_colon in_flow adjacent next) _ _
      (unless_and c 0x3A (parts_colon in_flow adjacent next) o)
      ∙ cond-false (c == 0x2A) _ _ (is_not c 0x2A a) ∙ cond-false (c == 0x26) _ _ (is_not c 0x26 b)
      ∙ cond-false (c == 0x21) _ _ (is_not c 0x21 e)
      ∙ cond-false ((c == 0x7C || c == 0x3E) && not in_flow) _ _
      (and_not (c == 0x7C || c == 0x3E) (not in_flow) (or_from (c == 0x7C) (c == 0x3E) bar more))
      ∙ cond-false (c == 0x27 || c == 0x22) _ _ (or_from (c == 0x27) (c == 0x22) (is_not c 0x27 f) (is_not c 0x22 g))
      ∙ cond-false (c == 0xFEFF) _ _ (is_not c 0xFEFF bom)
      ∙ cond-false (((c == 0x40 || c == 0x60) || c == 0x25) || (c == 0x7C || c == 0x3E)) _ _
      (or_from ((c == 0x40 || c == 0x60) || c == 0x25) (c == 0x7C || c == 0x3E)
      (or_from (c == 0x40 || c == 0x60) (c == 0x25) (or_from (c == 0x40) (c == 0x60) at tick) percent)
      (or_from (c == 0x7C) (c == 0x3E) bar more))

  sign_answers : {c : ℕ} {s : PlacedSort} → SignBegins in_flow adjacent next c s → Sorts c s
  unfolding sort_of is_bom
  sign_answers (opens Square) = refl
  sign_answers (opens Curly) = refl
  sign_answers (closes Square) = refl
  sign_answers (closes Curly) = refl
  sign_answers comma = refl
  sign_answers (dash e) = rw e refl
  sign_answers (question e) = rw e refl
  sign_answers (colon e) = rw e refl
  sign_answers alias = refl
  sign_answers anchor = refl
  sign_answers tag = refl
  sign_answers (block true e) = rw e refl
  sign_answers (block false e) = rw e refl
  sign_answers (quote true) = refl
  sign_answers (quote false) = refl
  sign_answers stray = refl
  sign_answers (nothing {c = c} r n) = reserved_answers c r n
  sign_answers (other {c = c} flow d q o a b e f g bom r) = plain_answers c flow d q o a b e f g bom r

-- ---- what begins at a place

no_mark_there : (column : ℕ) (text : List ℕ) → NoMark column text → (column == 0 && is_document_mark text) ≡ false
no_mark_there column text bare = on (column == 0 && is_document_mark text) refl
  where
    on : (v : Bool) → (column == 0 && is_document_mark text) ≡ v → v ≡ false
    on false e = refl
    on true e = absurd (let p = and_parts (column == 0) (is_document_mark text) e in
        let z = sym (same column 0 p.0) in
        elim (or_cases (three 0x2D text) (three 0x2E text) p.1) [
          | inl q ↦ bare.0 (three_stand 0x2D column text (omega arith) z q)
          | inr q ↦ bare.1
              (three_stand 0x2E column text (omega arith) z q)
        ])

module _ (in_flow adjacent : Bool) where
  abbrev sort_by : ℕ → List ℕ → LexemeSort
  sort_by column text =
      if length text == 0 then TextEnd
      else if column == 0 && is_document_mark text then (if first text == 0x2D then StartMark else EndMark)
      else if not (is_printable (first text)) then Unprintable
      else if column == 0 && first text == 0x25 then DirectiveSign
      else Placed (sort_of in_flow adjacent (first text) (slice_index text 1))

  dashes_answer : (column : ℕ) (text : List ℕ) → ThreeStand 0x2D column text → sort_by column text ≡ StartMark
  dashes_answer column text (z, t, e, s) = ap₂ sort_by z e
      ∙ cond-false (length (0x2D ∷ 0x2D ∷ 0x2D ∷ t) == 0) _ _ (not_empty 0x2D (0x2D ∷ 0x2D ∷ t)) ∙ rw s refl

  dots_answer : (column : ℕ) (text : List ℕ) → ThreeStand 0x2E column text → sort_by column text ≡ EndMark
  dots_answer column text (z, t, e, s) = ap₂ sort_by z e
      ∙ cond-false (length (0x2E ∷ 0x2E ∷ 0x2E ∷ t) == 0) _ _ (not_empty 0x2E (0x2E ∷ 0x2E ∷ t)) ∙ rw s refl

  percent_printable : is_printable 0x25 ≡ true
  unfolding is_printable is_break
  percent_printable = refl

  placed_answer : (column c : ℕ) (text : List ℕ) (s : PlacedSort) → NoMark column (c ∷ text) → is_printable c ≡ true
      → (column ≡ 0 → c ≢ 0x25) → sort_of in_flow adjacent c (first text) ≡ s → sort_by column (c ∷ text) ≡ Placed s
  placed_answer column c text s bare y p e =
      cond-false (length (c ∷ text) == 0) _ _ (not_empty c text)
      ∙ cond-false (column == 0 && is_document_mark (c ∷ text)) _ _ (no_mark_there column (c ∷ text) bare)
      ∙ cond-false (not (is_printable c)) _ _ (ap not y)
      ∙ cond-false (column == 0 && c == 0x25) _ _ (unless_and column 0 (c == 0x25) (λ z. is_not c 0x25 (p z)))
      ∙ ap (λ (s : PlacedSort). Placed s) e

  begins_answer : {column : ℕ} {text : List ℕ} {s : LexemeSort} → Begins in_flow adjacent column text s
      → sort_by column text ≡ s
  begins_answer at_end = refl
  begins_answer {column = column} (dashes {text = text} t) = dashes_answer column text t
  begins_answer {column = column} (dots {text = text} t) = dots_answer column text t
  begins_answer {column = column} (unprintable {c = c} {text = text} bare e) =
      cond-false (length (c ∷ text) == 0) _ _ (not_empty c text)
      ∙ cond-false (column == 0 && is_document_mark (c ∷ text)) _ _ (no_mark_there column (c ∷ text) bare)
      ∙ cond-true (not (is_printable c)) _ _ (ap not e)
  begins_answer {column = column} (directive {text = text} z) =
      ap (λ c. sort_by c (0x25 ∷ text)) z ∙ cond-false (length (0x25 ∷ text) == 0) _ _ (not_empty 0x25 text)
      ∙ rw percent_printable refl
  begins_answer {column = column} (sign {c = c} {text = text} {sort = s} bare y p b) = placed_answer column c text s
      bare y p (sign_answers in_flow adjacent (first text) b)

-- the lexeme that begins here is of the sort that the reader finds
pub sort_answers : (in_flow adjacent : Bool) (h : Here) {s : LexemeSort}
    → Begins in_flow adjacent h.place.column h.unread.text s → sort_at in_flow adjacent h ≡ s
unfolding sort_at
sort_answers in_flow adjacent h b = begins_answer in_flow adjacent b

pub kind_not_end : {A : Type 0} (kind : LexemeKind) (x : Lexeme) → x.kind ≡ kind → is_end_kind kind ≡ false
    → is_end_kind x.kind ≡ true → A
kind_not_end kind x k n e = absurd (let f = ap is_end_kind k in cc (e, f, n))
