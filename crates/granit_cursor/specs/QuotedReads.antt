-- A quoted scalar of one line that a cursor takes at once.
use Rattle.std.specs.Prelude.{◌≡◌, ℕ, ◌+◌, Bool, true, List, length, Option, Some, None}
use Rattle.std.specs.Borrow.{Bor}
use Rattle.std.specs.Str.{chars}
use Rattle.granit_runs.specs.Quotes.{IsQuoted, QuotedAt}
use Rattle.granit_lexemes.specs.Here.{Here}
use Rattle.granit_lexemes.specs.Moves.{steps}

-- it was taken with its quotes, and it is known from which byte to which its text is lent; or nothing was taken
abbrev pub PassesQuoted : Bool → Bool → Here → Option (ℕ × ℕ) → (Here → Type 0) → Type 0
PassesQuoted single in_flow h None Lands = Lands h
PassesQuoted single in_flow h (Some r) Lands =
    (inside : List ℕ) × QuotedAt single in_flow h.unread inside r.0 r.1 × Lands (steps (length inside + 2) h)

-- it was taken with its quotes, and its text is lent; or nothing was taken
abbrev pub LendsQuoted : Bool → Bool → Here → Option (Bor (List ℕ)) → (Here → Type 0) → Type 0
LendsQuoted single in_flow h None Lands = Lands h
LendsQuoted single in_flow h (Some part) Lands =
    IsQuoted single in_flow h.unread.text (chars part.now) × (h.unread.lends ≡ true)
    × Lands (steps (length (chars part.now) + 2) h)
