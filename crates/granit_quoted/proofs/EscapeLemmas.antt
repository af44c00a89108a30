-- One hexadecimal digit after another.
use Rattle.std.proofs.Common.{◌≡◌, ℕ, suc, ◌+◌, ◌-◌, ◌*◌, ◌<◌, ◌≤◌, true, false, Ok, refl, arith}
use Rattle.granit_base.specs.Classes.{is_hex, hex_value}
use Rattle.granit_base.specs.Place.{Mark}
use Rattle.granit_error.specs.FaultKind.{FaultKind}
use Rattle.granit_lexemes.specs.Here.{Here, next_char, step}
use Rattle.granit_lexemes.specs.Basics.{fails_at}
use Rattle.granit_lexemes.specs.QuotedScalar.{digits_or}

pub digits_go : (kind : FaultKind) (start : Mark) (n i v : ℕ) (h : Here) → i < n → is_hex (next_char h) ≡ true
    → digits_or kind start (n - i) v h ≡ digits_or kind start (n - (i + 1)) (v * 16 + hex_value (next_char h)) (step h)
unfolding digits_or
digits_go kind start n i v h lt is =
    let k : n - i ≡ suc (n - (i + 1)) = omega arith in
    rw (k, is) refl

pub digits_stop : (kind : FaultKind) (start : Mark) (n i v : ℕ) (h : Here) → i < n → is_hex (next_char h) ≡ false
    → digits_or kind start (n - i) v h ≡ fails_at kind start
unfolding digits_or
digits_stop kind start n i v h lt is =
    let k : n - i ≡ suc (n - (i + 1)) = omega arith in
    rw (k, is) refl

pub digits_end : (kind : FaultKind) (start : Mark) (n i v : ℕ) (h : Here) → n ≤ i
    → digits_or kind start (n - i) v h ≡ Ok (v, h)
unfolding digits_or
digits_end kind start n i v h le =
    let k : n - i ≡ 0 = omega arith in
    rw k refl
