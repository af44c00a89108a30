-- What the sort of a lexeme says of the text.
use Rattle.std.proofs.Common.{◌≡◌, ℕ, ◌==◌, ◌&&◌, ◌||◌, Bool, true, false, not, refl, ap, arith}
use Rattle.std.proofs.lemmas.Bool.{not-false}
use Rattle.std.specs.Prelude.{if◌then◌else◌, slice_index}
use Rattle.std.proofs.lemmas.Bool.Decides.{nat_tests}
use Rattle.granit_base.specs.Classes.{is_blank, is_break, is_z, is_breakz, is_blank_or_breakz, is_gap, is_flow}
use Rattle.granit_base.specs.Classes.{is_printable}
use Rattle.granit_lexemes.specs.Basics.{is_document_mark}
use Rattle.granit_lexemes.specs.Here.{Here, text_len, next_char}
use Rattle.granit_lexemes.specs.Lexeme.{LexemeKind, StreamEnd}
use Rattle.granit_lexemes.specs.declared.layout.Bracket.TheVariants.{Square, Curly}
use Rattle.granit_base.specs.PlainContent.{is_content}
use Rattle.granit_machine.specs.LexemeSort.{PlacedSort, LexemeSort, Placed, TextEnd, StartMark, EndMark, Unprintable}
use Rattle.granit_machine.specs.LexemeSort.{DirectiveSign, OpenSign, CloseSign, CommaSign, DashSign, QuestionSign}
use Rattle.granit_machine.specs.LexemeSort.{ColonSign, PlainSign, sort_of, sort_at}
use Rattle.granit_machine.specs.Reader.{is_end_kind}

abbrev is_plain : PlacedSort → Bool
is_plain PlainSign = true
is_plain sort = false

abbrev is_plain_placed : LexemeSort → Bool
is_plain_placed (Placed sort) = is_plain sort
is_plain_placed sort = false

no_plain : (sort : PlacedSort) → is_plain sort ≡ false → sort ≡ PlainSign → ⊥
no_plain sort p e = let m : is_plain sort ≡ true = ap is_plain e in absurd cc

-- a test that would give another sort fails where a plain scalar begins
past_test : (test : Bool) (sort other : PlacedSort) → is_plain sort ≡ false
    → (if test then sort else other) ≡ PlainSign → (test ≡ false) × (other ≡ PlainSign)
past_test true sort other n is = absurd (no_plain sort n is)
past_test false sort other n is = (refl, is)

pub no_flow : (c : ℕ) → (c == 0x5B) ≡ false → (c == 0x7B) ≡ false → (c == 0x5D) ≡ false → (c == 0x7D) ≡ false
    → (c == 0x2C) ≡ false → is_flow c ≡ false
unfolding is_flow
no_flow c p q r s t = rw (p, q, r, s, t) refl

pub no_colon : (colon parted in_flow flow adjacent : Bool)
    → (colon && (parted || (in_flow && (flow || adjacent)))) ≡ false
    → (colon && (parted || (in_flow && flow))) ≡ false
no_colon false parted in_flow flow adjacent e = refl
no_colon true true in_flow flow adjacent e = e
no_colon true false false flow adjacent e = refl
no_colon true false true true adjacent e = e
no_colon true false true false adjacent e = refl

-- the tests of content, where they pass
content_as : (gap_or_nul colon in_flow flow : Bool) → gap_or_nul ≡ false → colon ≡ false → flow ≡ false
    → (not gap_or_nul && (not colon && not (in_flow && flow))) ≡ true
content_as gap_or_nul colon true flow p q r = rw (p, q, r) refl
content_as gap_or_nul colon false flow p q r = rw (p, q) refl

plain_of : (in_flow adjacent : Bool) (c next : ℕ) → sort_of in_flow adjacent c next ≡ PlainSign
    → (is_flow c ≡ false) × ((c == 0x3A && (is_blank_or_breakz next || (in_flow && is_flow next))) ≡ false)
unfolding sort_of
plain_of in_flow adjacent c next is =
    let open_square = past_test (c == 0x5B) (OpenSign Square) _ refl is in
    let open_curly = past_test (c == 0x7B) (OpenSign Curly) _ refl open_square.1 in
    let close_square = past_test (c == 0x5D) (CloseSign Square) _ refl open_curly.1 in
    let close_curly = past_test (c == 0x7D) (CloseSign Curly) _ refl close_square.1 in
    let comma = past_test (c == 0x2C) CommaSign _ refl close_curly.1 in
    let dash = past_test (c == 0x2D && is_blank_or_breakz next) DashSign _ refl comma.1 in
    let question = past_test (c == 0x3F && is_blank_or_breakz next) QuestionSign _ refl dash.1 in
    let colon = past_test (c == 0x3A && (is_blank_or_breakz next || (in_flow && (is_flow next || adjacent))))
    ColonSign _ refl question.1 in (
      no_flow c open_square.0 open_curly.0 close_square.0 close_curly.0 comma.0,
      no_colon (c == 0x3A) (is_blank_or_breakz next) in_flow (is_flow next) adjacent colon.0,
    )

nul_unprintable : is_printable 0 ≡ false
unfolding is_printable is_break
nul_unprintable = refl

printable_no_nul : (c : ℕ) (b : Bool) → (c == 0x00) ≡ b → is_printable c ≡ true → b ≡ false
printable_no_nul c true e p =
    let z : c ≡ 0 = grind (arith, nat_tests) in
    let gone = rw z at p in
    absurd (let m = nul_unprintable in cc)
printable_no_nul c false e p = refl

either_false : (a b c : Bool) → (a || b) ≡ false → c ≡ false → (a || (b || c)) ≡ false
either_false true b c p q = p
either_false false true c p q = p
either_false false false c p q = q

pub no_gap_or_nul : (c : ℕ) → is_gap c ≡ false → is_printable c ≡ true → is_blank_or_breakz c ≡ false
unfolding is_gap is_blank_or_breakz is_breakz is_z
no_gap_or_nul c p q = either_false (is_blank c) (is_break c) (c == 0x00) p (printable_no_nul c (c == 0x00) refl q)

-- the sort of what stands here, by its tests in their order
no_plain_placed : (sort : LexemeSort) → is_plain_placed sort ≡ false → sort ≡ Placed PlainSign → ⊥
no_plain_placed sort p e = let m : is_plain_placed sort ≡ true = ap is_plain_placed e in absurd cc

placed_plain : (sort : PlacedSort) → Placed sort ≡ Placed PlainSign → sort ≡ PlainSign
placed_plain PlainSign e = refl
placed_plain sort e = absurd (let m : is_plain sort ≡ true = ap is_plain_placed e in cc)

abbrev front : (a b dash d e : Bool) → PlacedSort → LexemeSort
front a b dash d e sort =
    if a then TextEnd
    else if b then (if dash then StartMark else EndMark)
    else if d then Unprintable
    else if e then DirectiveSign
    else Placed sort

no_mark : (dash : Bool) → (if dash then StartMark else EndMark) ≡ Placed PlainSign → ⊥
no_mark true e = no_plain_placed StartMark refl e
no_mark false e = no_plain_placed EndMark refl e

front_plain : (a b dash d e : Bool) (sort : PlacedSort) → front a b dash d e sort ≡ Placed PlainSign
    → (d ≡ false) × (sort ≡ PlainSign)
front_plain true b dash d e sort is = absurd (no_plain_placed TextEnd refl is)
front_plain false true dash d e sort is = absurd (no_mark dash is)
front_plain false false dash true e sort is = absurd (no_plain_placed Unprintable refl is)
front_plain false false dash false true sort is = absurd (no_plain_placed DirectiveSign refl is)
front_plain false false dash false false sort is = (refl, placed_plain sort is)

-- where a plain scalar begins behind a gap, it has content
pub plain_sign-content : (in_flow adjacent : Bool) (h : Here) → is_gap (next_char h) ≡ false
    → sort_at in_flow adjacent h ≡ Placed PlainSign → is_content in_flow h.unread.text ≡ true
unfolding sort_at
plain_sign-content in_flow adjacent h stops is =
    let x = front_plain (text_len h == 0) (h.place.column == 0 && is_document_mark h.unread.text) (next_char h == 0x2D)
    (not (is_printable (next_char h))) (h.place.column == 0 && next_char h == 0x25)
    (sort_of in_flow adjacent (next_char h) (slice_index h.unread.text 1)) is in
    let y = plain_of in_flow adjacent (next_char h) (slice_index h.unread.text 1) x.1 in
    content_as (is_blank_or_breakz (next_char h))
    (next_char h == 0x3A && (is_blank_or_breakz (slice_index h.unread.text 1)
    || (in_flow && is_flow (slice_index h.unread.text 1)))) in_flow (is_flow (next_char h))
    (no_gap_or_nul (next_char h) stops (not-false (is_printable (next_char h)) x.0)) y.1 y.0

pub end_kind_is : (kind : LexemeKind) → is_end_kind kind ≡ true → kind ≡ StreamEnd
end_kind_is StreamEnd e = refl
end_kind_is kind e = absurd (cc)
