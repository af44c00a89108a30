-- What the calls over runs take.
use Rattle.std.specs.Prelude.{◌≡◌, ◌≤◌, ℕ, ◌+◌, ◌++◌, Bool, true, false, List, length, take, drop, Result, Ok, Err}
use Rattle.granit_base.specs.Place.{Unread}
use Rattle.granit_runs.specs.Unread.{past_count}
use Rattle.granit_runs.specs.Runs.{run_length}

-- the whole run was taken, and counted
abbrev pub SkipsRun : (List ℕ → Bool) → Unread → ℕ → (Unread → Type 0) → Type 0
SkipsRun test u count Lands = (count ≡ run_length test u.text) × Lands (past_count count u)

-- so many characters of the run were taken
abbrev pub FrontOf : (List ℕ → Bool) → List ℕ → ℕ → Type 0
FrontOf test text count = count + run_length test (drop count text) ≡ run_length test text

-- what stood there still stands in front
pub record Extends (before : List ℕ) (after : List ℕ) : Type 0 where
  pub added : List ℕ
  pub is : after ≡ before ++ added

-- the run was broken off, and nothing is lost: what was taken of it was appended
pub record BreaksOff (test : List ℕ → Bool) (u : Unread) (Lands : Unread → Type 0) (before after : List ℕ) : Type
    0 where
  pub count : ℕ
  pub fits : count ≤ run_length test u.text
  pub lands : Lands (past_count count u)
  pub appended : after ≡ before ++ take count u.text

-- the whole run was taken and appended, or memory was wanting
abbrev pub FetchesRun : {E : Type 0} → (List ℕ → Bool) → Unread → Result ℕ E → (Unread → Type 0) → List ℕ → List ℕ
    → Type 0
FetchesRun test u (Ok count) Lands before after = (count ≡ run_length test u.text) × Lands (past_count count u)
    × (after ≡ before ++ take count u.text)
FetchesRun test u (Err e) Lands before after = BreaksOff test u Lands before after

-- a front of the run was taken: all of it where the run is said to have ended, and else no fewer characters than were
-- asked for
pub record TakesFront (test : List ℕ → Bool) (text : List ℕ) (asked : ℕ) (ended : Bool) (count : ℕ) : Type 0 where
  pub fits : count ≤ run_length test text
  pub whole : ended ≡ true → count ≡ run_length test text
  pub enough : ended ≡ false → asked ≤ count

abbrev pub SkipsFront : (List ℕ → Bool) → Unread → ℕ → Bool × ℕ → (Unread → Type 0) → Type 0
SkipsFront test u asked result Lands = TakesFront test u.text asked result.0 result.1 × Lands (past_count result.1 u)

abbrev pub FetchesFront : {E : Type 0} → (List ℕ → Bool) → Unread → ℕ → Result (Bool × ℕ) E → (Unread → Type 0)
    → List ℕ → List ℕ → Type 0
FetchesFront test u asked (Ok r) Lands before after = TakesFront test u.text asked r.0 r.1 × Lands (past_count r.1 u)
    × (after ≡ before ++ take r.1 u.text)
FetchesFront test u asked (Err e) Lands before after = BreaksOff test u Lands before after

-- a text that is a front of the run was taken
pub record TakesText (test : List ℕ → Bool) (u : Unread) (taken : List ℕ) (Lands : Unread → Type 0) : Type 0 where
  pub fits : length taken ≤ run_length test u.text
  pub text : taken ≡ take (length taken) u.text
  pub lands : Lands (past_count (length taken) u)

-- how many characters a call took that may want memory
abbrev pub count_of : {E : Type 0} → Result ℕ E → ℕ
count_of (Ok count) = count
count_of (Err e) = 0

abbrev pub front_count_of : {E : Type 0} → Result (Bool × ℕ) E → ℕ
front_count_of (Ok r) = r.1
front_count_of (Err e) = 0
