-- A state of the machine that is some turns ahead of another, each made while no event waited but comments: what these
-- gave waits. And a state from which no document comes.
use Rattle.std.specs.Prelude.{◌≡◌, ◌⊎◌, ℕ, suc, true, false, List, [], ◌∷◌, Some, None, Result, Ok, Err, Option}
use Rattle.granit_error.specs.OptionsData.{OptionsData}
use Rattle.granit_lexemes.specs.Outcome.{Fault}
use Rattle.granit_lexemes.specs.PlainEvent.{PlainEvent, StreamEnd}
pub use Rattle.granit_lexemes.specs.PlainEvent.{is_note}
use Rattle.granit_restart.specs.Following.{document_follows}
use Rattle.granit_restart.specs.Header.{is_directives}
use Rattle.granit_restart.specs.Looking.{told_by, turn_ahead, Outside}
use Rattle.granit_restart.specs.Turned.{Turned}
use Rattle.granit_steps.specs.Steps.{StepState}

abbrev pub OnlyNotes : List PlainEvent → Type 0
OnlyNotes [] = Unit {0}
OnlyNotes (e ∷ es) = (is_note e.kind ≡ true) × OnlyNotes es

pub data AheadOf (o : OptionsData) (s : StepState) : StepState → Type 0 where
  not_ahead : AheadOf o s s
  turn_made : {t u : StepState} {given : List PlainEvent} → AheadOf o s t → OnlyNotes t.pending
      → turn_ahead o t ≡ Ok (Some given, u) → AheadOf o s u

-- the same event comes next, and a state is ahead still; or the same end
abbrev pub AlikeNext : OptionsData → (behind ahead : Result (Option PlainEvent × StepState) Fault) → Type 0
AlikeNext o (Ok (Some e, s)) r = (t : StepState) × AheadOf o s t × (r ≡ Ok (Some e, t))
AlikeNext o (Ok (None, s)) r = r ≡ Ok (None, s)
AlikeNext o (Err f) r = r ≡ Err f

-- no document comes: behind comments the end of the stream waits, or between documents the text tells it, or all was
-- read and given
pub data NoneComes (o : OptionsData) (s : StepState) : Type 0 where
  end_waits : (room : ℕ) → told_by room s.pending ≡ Some (Ok false) → NoneComes o s
  end_left : (room : ℕ) → Turned o s → Outside s.parser → document_follows o room s ≡ Ok false → NoneComes o s
  all_given : s.pending ≡ [] → s.queue ≡ [] → s.reading.ended ≡ true → s.reading.fault ≡ None
      → is_directives s.parser.stage ≡ false → NoneComes o s

-- an event where no document comes: the end of the stream, or a comment, behind which there is room for one fewer
abbrev pub ComesLast : OptionsData → StepState → PlainEvent → StepState → Type 0
ComesLast o s e after =
    (e.kind ≡ StreamEnd)
    ⊎ ((is_note e.kind ≡ true) × NoneComes o after
    × ((room : ℕ) → document_follows o (suc room) s ≡ document_follows o room after))
