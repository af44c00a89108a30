-- How the code passes the first line of a plain scalar.
use Rattle.std.specs.Prelude.{◌≡◌, ℕ, ◌<◌, ◌≤◌, ◌==◌, Bool, true, false, ◌&&◌, not, if◌then◌else◌, List, []}
use Rattle.std.specs.Prelude.{◌++◌, length}
use Rattle.std.specs.Prelude.{Result, Ok, Err}
use Rattle.std.specs.Str.{chars}
use Rattle.granit_base.specs.Classes.{is_blank, is_break}
use Rattle.granit_base.specs.Place.{Mark}
use Rattle.granit_base.specs.PlainContent.{is_content}
use Rattle.granit_base.specs.Written.{Written, lent}
use Rattle.granit_runs.specs.Runs.{is_plain_word, run_length, starts}
use Rattle.granit_lexemes.specs.Basics.{owned, past_break}
use Rattle.granit_lexemes.specs.Here.{Here, next_char}
use Rattle.granit_lexemes.specs.LayoutData.{LayoutData}
use Rattle.granit_lexemes.specs.Moves.{steps}
use Rattle.granit_lexemes.specs.Outcome.{Fault, ◌>>=◌}
use Rattle.granit_lexemes.specs.Pieces.{with_front}
use Rattle.granit_lexemes.specs.PlainScalar.{PlainState, PlainRead, plain_start, is_one_line}
use Rattle.granit_plain.specs.PlainCode.{plain_rest, ended_plain, plain_ended_by}
use Rattle.granit_plain.specs.declared.line.Line.{Line}

-- on the first line, behind its content and what was read since
abbrev pub line_state : (end : Mark) (pending : List ℕ) → Here → PlainState
line_state end pending h = record { here = h; end = end; pending = pending; on_new_line = false; left_tab = false }

-- behind the break that ends it
abbrev pub broken_state : (end : Mark) → Here → PlainState
broken_state end h = record { here = h; end = end; pending = []; on_new_line = true; left_tab = false }

-- whether content goes on here, behind blanks or not
abbrev pub continues : (in_flow blank : Bool) → Here → Bool
continues in_flow blank h = is_content in_flow h.unread.text && not (next_char h == 0x23 && blank)

-- The blanks were passed, and words of content behind them where it goes on there.
abbrev pub PassesWord : (in_flow : Bool) → Here → (blank content : Bool) → (Here → Type 0) → Type 0
PassesWord in_flow h blank true Lands =
    (k n : ℕ) × (k ≡ run_length (starts is_blank) h.unread.text) × (blank ≡ not (k == 0)) × (0 < n)
    × (n ≡ run_length (is_plain_word in_flow) (steps k h).unread.text)
    × ((next_char (steps k h) == 0x23 && blank) ≡ false) × Lands (steps n (steps k h))
PassesWord in_flow h blank false Lands =
    (k : ℕ) × (k ≡ run_length (starts is_blank) h.unread.text) × (blank ≡ not (k == 0))
    × (continues in_flow blank (steps k h) ≡ false) × Lands (steps k h)

-- content takes a character
abbrev pub WordTakes : Bool → (old new : ℕ) → Type 0
WordTakes true old new = new < old
WordTakes false old new = new ≤ old

-- The first line was passed with the blanks behind it: where no break is next, the scalar ends with it, and else it
-- may go on behind the break.
pub record LinePassed (at : LayoutData) (start : Mark) (h : Here) (front : List ℕ) (end : Mark) (blank : Bool)
    (now : Here) : Type 0 where
  pub pending : List ℕ
  pub blanks : blank ≡ not (length pending == 0)
  pub ends : is_break (next_char now) ≡ false
      → plain_rest at start (plain_start h) ≡ Ok (front, line_state end pending now)
  pub breaks : is_break (next_char now) ≡ true
      → plain_rest at start (plain_start h) ≡ with_front front (plain_rest at start (broken_state end (past_break now)))
  pub end_line : end.place.line ≡ h.place.line
  pub line : now.place.line ≡ h.place.line
  pub lends : now.unread.lends ≡ h.unread.lends

-- the same, and its content is lent
abbrev pub PassesLine : {E : Type 0} → LayoutData → Mark → Here → Result Line E → (Here → Type 0) → Type 0
PassesLine at start h (Ok line) Lands =
    (now : Here) × Lands now × LinePassed at start h (chars line.front.now) line.end line.blank now
PassesLine at start h (Err e) Lands = ⊥

-- the text of a scalar by its first line and what is read behind it: the line itself where it stands on one
abbrev pub text_of_lines : (start end : Mark) → (front further : List ℕ) → Written
text_of_lines start end front further = if is_one_line start end then lent front else owned (front ++ further)

-- a scalar whose first line and the break behind it were passed
abbrev pub further_scalar : LayoutData → (start : Mark) → (front : List ℕ) → (end : Mark) → Here
    → Result (PlainRead × Here) Fault
further_scalar at start front end h =
    plain_rest at start (broken_state end h)
    >>= plain_ended_by at start (λ further behind. text_of_lines start behind front further)

-- a scalar whose first line was passed
abbrev pub line_scalar : LayoutData → (start : Mark) → (front : List ℕ) → (end : Mark) → (blank : Bool) → Here
    → Result (PlainRead × Here) Fault
line_scalar at start front end blank h =
    if is_break (next_char h)
    then further_scalar at start front end (past_break h)
    else ended_plain at start (lent front) end false blank h
