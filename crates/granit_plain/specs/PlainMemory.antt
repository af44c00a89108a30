-- Which plain scalars take no memory: those whose text the input lends, as they stand.
use Rattle.std.specs.Prelude.{◌≡◌, ℕ, suc, ◌<◌, ◌==◌, nat_le, Bool, true, false, ◌&&◌, ◌||◌, List, Result, Ok, Err}
use Rattle.granit_base.specs.Classes.{is_break}
use Rattle.granit_base.specs.Place.{Mark, Place}
use Rattle.granit_error.specs.FaultKind.{NoMemory}
use Rattle.granit_error.specs.Refused.{Refused}
use Rattle.granit_lexemes.specs.Basics.{past_break}
use Rattle.granit_lexemes.specs.Here.{Here, next_char, mark_of}
use Rattle.granit_lexemes.specs.LayoutData.{LayoutData}
use Rattle.granit_lexemes.specs.Outcome.{Fault}
use Rattle.granit_lexemes.specs.PlainExtent.{is_flow_dash}
use Rattle.granit_lexemes.specs.PlainScalar.{PlainState, plain_start}
use Rattle.granit_plain.specs.LineCode.{broken_state}
use Rattle.granit_plain.specs.PlainCode.{plain_rest}
use Rattle.granit_plain.specs.PlainTaken.{PlainTaken}

-- whether what is read ends on that line, with no empty line behind it
abbrev pub ends_in_line : (line : ℕ) → Result (List ℕ × PlainState) Fault → Bool
ends_in_line line (Ok x) = line == x.1.end.place.line && nat_le x.1.here.place.line (suc line)
ends_in_line line (Err f) = false

-- Whether the plain scalar that begins here takes none: the input lends it, and it stands on one line with no empty
-- line behind it, or is refused by its first characters.
unfoldable pub plain_takes_none : LayoutData → Here → Bool
plain_takes_none at h = h.unread.lends
    && (is_flow_dash at h.unread.text || ends_in_line h.place.line (plain_rest at (mark_of h) (plain_start h)))

-- ---- a plain scalar behind its first line

-- a line behind its first is begun, and only blanks of it are read any more
abbrev pub OnlyBlanks : LayoutData → (start : Mark) → PlainState → Type 0
OnlyBlanks at start s = (s.on_new_line ≡ true) × (start.place.line < s.here.place.line)
    × (ends_in_line start.place.line (plain_rest at start s) ≡ true)

-- a turn leaves that so
abbrev pub StaysBlank : (start : Mark) → Result Bool Refused → Place → PlainTaken → Type 0
StaysBlank start (Ok more) now p = (p.on_new_line ≡ true) × (start.place.line < now.line)
StaysBlank start (Err e) now p = ¬ (e.kind ≡ NoMemory)

-- where the first line ends here, the scalar does, with no empty line behind it
abbrev pub EndsHere : LayoutData → (start end : Mark) → Here → Type 0
EndsHere at start end h = is_break (next_char h) ≡ true
    → ends_in_line start.place.line (plain_rest at start (broken_state end (past_break h))) ≡ true
