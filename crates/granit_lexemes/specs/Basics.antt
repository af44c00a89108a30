-- What the readers of all lexemes share.
use Rattle.std.specs.Prelude.{ℕ, ◌-◌, Bool, true, false, ◌==◌, ◌&&◌, not, if◌then◌else◌, List, take, slice_index}
use Rattle.std.specs.Prelude.{Option, Some, None, Result, Err}
use Rattle.std.specs.List.{find}
use Rattle.granit_base.specs.Classes.{is_printable}
pub use Rattle.granit_base.specs.DocumentMark.{is_document_mark}
use Rattle.granit_base.specs.Place.{Mark}
use Rattle.granit_base.specs.Written.{Written}
use Rattle.granit_error.specs.FaultKind.{FaultKind, UnexpectedCharacter}
use Rattle.granit_lexemes.specs.Here.{Here, text_len, next_char, step}
use Rattle.granit_lexemes.specs.Outcome.{Fault, fault_at}

abbrev pub fails_at : {Y : Type 0} → FaultKind → Mark → Result Y Fault
fails_at kind m = Err (fault_at kind m)

-- behind a break, which CR LF is too (5.4)
unfoldable pub past_break : Here → Here
past_break h =
    if next_char h == 0x0D && slice_index h.unread.text 1 == 0x0A then step (step h)
    else step h

-- the first character that isn't printable
abbrev pub unprintable : List ℕ → Option ℕ
unprintable text = find (λ c. not (is_printable c)) text

-- a value that may not hold an unprintable character
abbrev pub only_printable : {Y : Type 0} → Option ℕ → Mark → Result Y Fault → Result Y Fault
only_printable None start given = given
only_printable (Some c) start given = fails_at (UnexpectedCharacter c) start

-- a text of its own
abbrev pub owned : List ℕ → Written
owned text = record { characters = text; is_borrowed = false }

-- a text that is lent where the input lends and nothing in it was decoded
abbrev pub lent_if : (verbatim : Bool) → Here → List ℕ → Written
lent_if verbatim h text = record { characters = text; is_borrowed = verbatim && h.unread.lends }

-- a text as it stands in the source, which is lent where the input lends
abbrev pub as_spelled : Here → List ℕ → Written
as_spelled h text = lent_if true h text

-- how many characters stand between a place and a later one, and these characters
abbrev pub count_up_to : Here → Here → ℕ
count_up_to h after = text_len h - text_len after

abbrev pub text_up_to : Here → Here → List ℕ
text_up_to h after = take (count_up_to h after) h.unread.text
