-- A quoted scalar whose end is seen at once.
use Rattle.std.specs.Prelude.{◌≡◌, ◌≤◌, ℕ, ◌+◌, ◌==◌, Bool, true, ◌&&◌, ◌||◌, if◌then◌else◌, List, ◌∷◌, ◌++◌, length}
use Rattle.std.specs.Prelude.{drop, Option, Some, None}
use Rattle.std.specs.Str.{chars, is_utf8}
use Rattle.granit_base.specs.Place.{Unread, first}
use Rattle.granit_runs.specs.Cuts.{SpellsFront}
use Rattle.granit_runs.specs.Runs.{run_length, is_quoted_word}
use Rattle.granit_runs.specs.Unread.{past_count, utf8_length}

-- the quote, single or double
abbrev pub quote_of : Bool → ℕ
quote_of single = if single then 0x27 else 0x22

-- what may stand directly behind the closing quote: `:`, a line feed, and in flow `,`, `]` and `}`
abbrev pub ends_after_quote : Bool → ℕ → Bool
ends_after_quote in_flow c = (c == 0x3A || c == 0x0A) || (in_flow && (c == 0x2C || (c == 0x5D || c == 0x7D)))

-- a quoted scalar stands in front: between its quotes words of characters that mean themselves, and directly behind
-- them what may
pub record IsQuoted (single in_flow : Bool) (text inside : List ℕ) : Type 0 where
  pub behind : List ℕ
  pub is : text ≡ quote_of single ∷ (inside ++ quote_of single ∷ behind)
  pub words : length inside ≤ run_length (is_quoted_word single) (drop 1 text)
  pub ends : ends_after_quote in_flow (first behind) ≡ true

-- the same, and between these two bytes the source lends what stands between its quotes, a byte for each character
pub record QuotedAt (single in_flow : Bool) (u : Unread) (inside : List ℕ) (start end : ℕ) : Type 0 where
  pub quoted : IsQuoted single in_flow u.text inside
  pub ascii : utf8_length inside ≡ length inside
  pub lends : u.lends ≡ true
  pub begins : (at : ℕ) → u.offset ≡ Some at → start ≡ at + 1
  pub stops : end ≡ start + length inside

-- such a scalar was taken, or nothing was
abbrev pub TakesQuoted : Bool → Bool → Unread → Option (ℕ × ℕ) → (Unread → Type 0) → Type 0
TakesQuoted single in_flow u None Lands = Lands u
TakesQuoted single in_flow u (Some r) Lands =
    (inside : List ℕ) × QuotedAt single in_flow u inside r.0 r.1 × Lands (past_count (length inside + 2) u)

-- a string begins with such a scalar, with so many bytes between its quotes, and this follows it
pub record BeginsQuoted (single in_flow : Bool) (s : List ℕ) (count : ℕ) (rest : List ℕ) : Type 0 where
  pub inside : List ℕ
  pub quoted : IsQuoted single in_flow (chars s) inside
  pub counted : length inside ≡ count
  pub ascii : utf8_length inside ≡ count
  pub text : chars rest ≡ drop (count + 2) (chars s)
  pub bytes : SpellsFront s (count + 2) rest
  pub utf8 : is_utf8 rest ≡ true
