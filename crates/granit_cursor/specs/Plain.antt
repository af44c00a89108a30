-- How a plain scalar of one line is passed at once (YAML 1.2.2, 6.1 and 7.3.3).
use Rattle.std.specs.Prelude.{◌≡◌, ℕ, ◌-◌, Bool, true, List, take, Option, Some, None}
use Rattle.std.specs.Borrow.{Bor}
use Rattle.std.specs.Str.{chars}
use Rattle.granit_base.specs.Place.{Mark}
use Rattle.granit_runs.specs.Runs.{is_plain_word, run_length}
use Rattle.granit_runs.specs.Words.{AreWords, EndsLine, LendsWords, stops_words}
use Rattle.granit_lexemes.specs.Here.{Here, mark_of, step}
use Rattle.granit_lexemes.specs.Moves.{steps}

-- behind words the scalar ends: by what stops them, or by a line feed, which is passed with the spaces behind it
abbrev pub EndsWordsAt : (in_flow : Bool) → (column : Option ℕ) → Here → (spaces : Option ℕ) → (Here → Type 0) → Type 0
EndsWordsAt in_flow column h None Lands = (stops_words in_flow h.unread.text ≡ true) × Lands h
EndsWordsAt in_flow column h (Some spaces) Lands =
    EndsLine in_flow column spaces h.unread.text × Lands (steps spaces (step h))

-- Words were passed that the input lends from one byte of its source to another, up to a mark, and what ends them. What
-- is passed with them is told by where the cursor then stands.
pub record WordsPassed (in_flow : Bool) (column : Option ℕ) (h : Here) (start end : ℕ) (behind : Mark)
    (Lands : Here → Type 0) : Type 0 where
  pub words : LendsWords in_flow h.unread start end
  pub mark : behind ≡ mark_of (steps (end - start) h)
  pub spaces : Option ℕ
  pub ends : EndsWordsAt in_flow column (steps (end - start) h) spaces Lands

abbrev pub PassesWords : (in_flow : Bool) → (column : Option ℕ) → Here → Option (ℕ × ℕ × Mark) → (Here → Type 0)
    → Type 0
PassesWords in_flow column h None Lands = Lands h
PassesWords in_flow column h (Some r) Lands = WordsPassed in_flow column h r.0 r.1 r.2 Lands

-- the same, and these are lent
pub record PlainPassed (in_flow : Bool) (column : Option ℕ) (h : Here) (text : List ℕ) (behind : Mark)
    (Lands : Here → Type 0) : Type 0 where
  pub count : ℕ
  pub words : AreWords h.unread.text count
  pub whole : count ≡ run_length (is_plain_word in_flow) h.unread.text
  pub lends : h.unread.lends ≡ true
  pub is : text ≡ take count h.unread.text
  pub mark : behind ≡ mark_of (steps count h)
  pub spaces : Option ℕ
  pub ends : EndsWordsAt in_flow column (steps count h) spaces Lands

-- a plain scalar was passed, or nothing
abbrev pub PassesPlain : (in_flow : Bool) → (column : Option ℕ) → Here → Option (Bor (List ℕ) × Mark)
    → (Here → Type 0) → Type 0
PassesPlain in_flow column h None Lands = Lands h
PassesPlain in_flow column h (Some r) Lands = PlainPassed in_flow column h (chars r.0.now) r.1 Lands
