-- A `---` that waits is the last item that was read, and nothing is read before it is used.
use Rattle.std.proofs.Common.{◌≡◌, true, List, refl, ap}
use Rattle.granit_error.specs.OptionsData.{OptionsData}
use Rattle.granit_lexemes.specs.Here.{Here}
use Rattle.granit_lexemes.specs.Lexeme as lexemes
use Rattle.granit_lexemes.specs.Lexeme.{Lexeme, LexemeKind}
use Rattle.granit_machine.specs.Lexing.{FlaggedItem}
use Rattle.granit_machine.specs.Reader.{LexState}
use Rattle.granit_restart.proofs.MarkLaws.{MarksSettled, items}
use Rattle.granit_restart.proofs.MarkReads.{is_mark}
use Rattle.granit_steps.specs.Steps.{StepState, Turn, is_open_comment, step_turn}
use Rattle.granit_led.proofs.MarkWaits as waiting
use Rattle.granit_led.proofs.MarkWaits.{WaitsLast}
use Rattle.granit_led.proofs.StartsRead.{is_start, read_start}
use Rattle.granit_led.specs.Found.{StartRead}

abbrev pub StartLast : LexState → List FlaggedItem → Type 0
StartLast l q = WaitsLast is_start StartRead l q

abbrev pub TurnLast : Turn → Type 0
TurnLast r = waiting.TurnLast is_start StartRead r

untailed : (h : Here) (x : Lexeme) → StartRead h x → StartRead h (record x { tail = Rattle.std.proofs.Common.None })
untailed h x r = record {
  place = r.place;
  behind = r.behind;
  column = r.column;
  text = r.text;
  parted = r.parted;
  kind = r.kind;
  untailed = refl;
  keyless = r.keyless;
  shown = r.shown;
  end = r.end;
  reaches = r.reaches;
}

marked : (k : LexemeKind) → is_start k ≡ true → is_mark k ≡ true
marked lexemes.DocumentStart e = refl
marked k e = absurd (cc)

pub turn_last : (o : OptionsData) (s : StepState) → StartLast s.reading s.queue
    → MarksSettled s.reading.reader.laid (items s.queue) → TurnLast (step_turn o s)
turn_last o = waiting.turn_last is_start StartRead untailed marked (λ h x r. ap is_start r.kind)
    (λ h x r. ap is_open_comment r.untailed) o (read_start o)
