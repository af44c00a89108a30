-- Why a string keeps the laws of an input.
use Rattle.std.proofs.Common.{◌≡◌, ◌<◌, ◌≤◌, ◌-◌, ◌^◌, ℕ, true, List, Some, is_some, length, drop, sym, ap, ◌∙◌}
use Rattle.std.proofs.Common.{le_of_eq, arith}
use Rattle.std.specs.Str.{chars, is_utf8}
use Rattle.granit_base.specs.Place.{Unread}
use Rattle.granit_base.proofs.CharLemmas.{chars_len}
use Rattle.granit_runs.specs.Unread.{left_of, SpelledBy}
use Rattle.granit_input.specs.Origin.{Agrees, of_string}

-- no more characters than bytes
pub string_short : (source rest : List ℕ) → length rest ≤ length source → length source < 2 ^ 63
    → length (chars rest) < 2 ^ 63
string_short source rest within short = omega (arith, chars_len rest)

string_spells : (source rest : List ℕ) (u : Unread) → drop (length source - length rest) source ≡ rest
    → is_utf8 rest ≡ true → u ≡ left_of source rest
    → SpelledBy (Some source) u
string_spells source rest u suffix utf8 is = λ bytes at from told.
    let same : bytes ≡ source = cc in
    let here : Some at ≡ Some (length source - length rest) = sym told ∙ ap (λ (v : Unread). v.offset) is in
    let place : at ≡ length source - length rest = cc in
    let text : u.text ≡ chars rest = ap (λ (v : Unread). v.text) is in
    rw (same, place, text) (record { within = omega arith; utf8 = rw suffix utf8; spelled = ap chars suffix })

pub string_agrees : (source rest : List ℕ) (window : ℕ) (u : Unread)
    → drop (length source - length rest) source ≡ rest → is_utf8 rest ≡ true → u ≡ left_of source rest
    → Agrees (length (chars rest)) (of_string source window) u
string_agrees source rest window u suffix utf8 is =
    let text : u.text ≡ chars rest = ap (λ (v : Unread). v.text) is in
    record {
      bounded = le_of_eq (ap length text);
      exact = λ known none. sym (ap length text) ∙ none;
      offset = ap (λ (v : Unread). is_some v.offset) is;
      lends = ap (λ (v : Unread). v.lends) is;
      sliced = string_spells source rest u suffix utf8 is;
      lent = string_spells source rest u suffix utf8 is;
    }

-- the window of a string is its own floor
pub string_floor : (window : ℕ) → window ≤ window
string_floor window = omega arith
