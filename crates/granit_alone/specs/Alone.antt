-- What is given behind a boundary, by what the text that is left there tells alone.
use Rattle.std.specs.Prelude.{◌≡◌, ℕ, List, [], ◌∷◌}
use Rattle.granit_declared.specs.DeclaredCause.{DeclaredCause}
use Rattle.granit_declared.specs.DeclaredReading.{DeclaredReading}
use Rattle.granit_error.specs.OptionsData.{OptionsData}
use Rattle.granit_lexemes.specs.Here.{mark_of, start_of}
use Rattle.granit_lexemes.specs.Outcome.{Fault}
use Rattle.granit_lexemes.specs.PlainEvent.{PlainEvent, StreamStart, event_on}
use Rattle.granit_shifted.specs.Shift.{Shift, moved_events, moved_fault}
use Rattle.granit_steps.specs.Levels.{IsStream, BeginsStream}

-- where the stream of a text starts, which isn't told behind a boundary
abbrev pub stream_start : List ℕ → PlainEvent
stream_start x = event_on StreamStart (mark_of (start_of x))

-- events are those with which a text's stream goes on behind its start, moved to where the text stands
pub record BeginsAlone (x : List ℕ) (shift : Shift) (es : List PlainEvent) : Type 0 where
  pub alone : List PlainEvent
  pub moved : es ≡ moved_events shift alone
  pub begins : BeginsStream (stream_start x ∷ alone)

-- they are all of them, those of the text's reading
pub record ReadsAlone (o : OptionsData) (x : List ℕ) (shift : Shift) (es : List PlainEvent) : Type 0 where
  pub alone : List PlainEvent
  pub moved : es ≡ moved_events shift alone
  pub reading : DeclaredReading o x (stream_start x ∷ alone)
  pub stream : IsStream (stream_start x ∷ alone)

-- a refusal is a cause of the text, moved, and names no source
pub record CausedAlone (o : OptionsData) (x : List ℕ) (shift : Shift) (f : Fault) : Type 0 where
  pub fault : Fault
  pub cause : DeclaredCause o x fault
  pub moved : f ≡ moved_fault shift fault
  pub unnamed : f.sources ≡ []
