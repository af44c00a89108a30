-- What calls give and leave where the source of an input may fail.
use Rattle.std.specs.Prelude.{◌≡◌, ◌≤◌, ℕ, true, false, [], Option, Some, None, Result, Ok, Err, IfErr, IfSome, IsSome}
use Rattle.std.specs.Prelude.{◌⊎◌, is_some}
use Rattle.granit_base.specs.Place.{Place}
use Rattle.granit_cursor.specs.Reading.{Reading}
use Rattle.granit_error.specs.FaultKind.{FaultKind, NoMemory}
use Rattle.granit_error.specs.Refused.{Refused, UnlessMemory}
use Rattle.granit_input.specs.Origin.{Origin, Goes}
use Rattle.granit_stepper.specs.Stepping.{Stepping}

-- the first error that a source gave, at that place, outside any named source; its byte offset is told exactly where
-- the source tells offsets
pub record IsSourceError (o : Origin) (at : Place) (e : Refused) : Type 0 where
  pub kind : o.error ≡ Some e.kind
  pub place : e.mark.place ≡ at
  pub unnamed : e.sources ≡ []
  pub offset : is_some e.mark.byte_offset ≡ o.tells_offset

-- a call gave the error of the source, at the place up to which was read
abbrev pub TellsSource : {I X : Type 0} → (I → Origin) → Option (Result X Refused) → Reading I → Type 0
TellsSource origin None at = ⊥
TellsSource origin (Some (Ok x)) at = ⊥
TellsSource origin (Some (Err e)) at = IsSourceError (origin at.input) at.place e

-- this holds unless memory ran out, or the error of the source was given
abbrev pub UnlessSource : {I X : Type 0} → (I → Origin) → Result X Refused → Stepping I → Type 0 → Type 0
UnlessSource origin r new Holds = UnlessMemory r (Holds ⊎ TellsSource origin (Some r) new.scanner.cursor)

-- what a call gives where nothing was looked at before
abbrev pub IfUnseen : {X : Type 0} → Option X → Type 0 → Type 0
IfUnseen None Gives = Gives
IfUnseen (Some x) Gives = Unit {0}

-- the error of a source in the place of what was read up to it
abbrev pub unless_failed : {X : Type 0} → Option (Result X Refused) → Option Refused → Option (Result X Refused)
unless_failed r None = r
unless_failed r (Some e) = Some (Err e)

-- where the source gave an error that wasn't handed out, a call that reads gives exactly that
abbrev pub TellsError : {I X : Type 0} → (I → Origin) → Stepping I → Option (Result X Refused) → Reading I → Type 0
TellsError origin old r at =
    (f : FaultKind) → (origin at.input).error ≡ Some f → (origin old.scanner.cursor.input).handed_out ≡ false
    → old.failed ≡ false → TellsSource origin r at

-- where a call gave want of memory, recovery is refused
abbrev pub NeverRevives : {I X : Type 0} → Option (Result X Refused) → Stepping I → Type 0
NeverRevives r new = IfSome r (λ x. IfErr x (λ e. e.kind ≡ NoMemory → new.refusal ≡ None))

-- Behind the first error of a source nothing is read any more, and recovery is refused, as it is behind want of memory.
pub record NeverRecovers {I X : Type 0} (origin : I → Origin) (old : Stepping I) (r : Option (Result X Refused))
    (new : Stepping I) : Type 0 where
  pub source : (f : FaultKind) → (origin new.scanner.cursor.input).error ≡ Some f
      → (origin old.scanner.cursor.input).handed_out ≡ false → old.failed ≡ false
      → (new.failed ≡ true) × (new.refusal ≡ None)
  pub memory : NeverRevives r new

-- the same of calls one behind the other, where there was no error before
abbrev pub TellsMet : {I X : Type 0} → (I → Origin) → Reading I → Option (Result X Refused) → Reading I → Type 0
TellsMet origin old r at =
    (f : FaultKind) → (origin at.input).error ≡ Some f → (origin old.input).error ≡ None
    → (origin old.input).handed_out ≡ false → TellsSource origin r at

-- What a call leaves as it was that may hand out the error: all that `Goes` says, but of the handing out only where
-- there is no error.
pub record GoesGiving (old : Origin) (new : Origin) : Type 0 where
  pub sliced : new.sliced ≡ old.sliced
  pub lent : new.lent ≡ old.lent
  pub tells_offset : new.tells_offset ≡ old.tells_offset
  pub handed_out : new.error ≡ None → new.handed_out ≡ old.handed_out
  pub knows_end : old.knows_end ≡ true → (new.knows_end ≡ true) × (new.error ≡ old.error)
  pub error : IsSome old.error → new.error ≡ old.error
  pub floor : old.floor ≤ new.floor
  pub ends_with : (f : Option FaultKind) → old.ends_with f → new.ends_with f

-- a refusal alone may be an error that was handed out
abbrev pub GoesUnless : {X : Type 0} → Option (Result X Refused) → Origin → Origin → Type 0
GoesUnless None old new = Goes old new
GoesUnless (Some (Ok x)) old new = Goes old new
GoesUnless (Some (Err e)) old new = GoesGiving old new

-- no more is left than before, and where it comes from is as before, unless its error was handed out
abbrev pub MovesUnless : {I X : Type 0} → (I → ℕ) → (I → Origin) → Option (Result X Refused) → Reading I → Reading I
    → Type 0
MovesUnless left origin r old new =
    (left new.input ≤ left old.input) × GoesUnless r (origin old.input) (origin new.input)
