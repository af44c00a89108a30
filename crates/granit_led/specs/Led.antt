-- The states to which turns and restarts behind faults lead, and what is told behind such a restart.
use Rattle.std.specs.Prelude.{◌≡◌, ℕ, Bool, List, Option, Some, None, Ok}
use Rattle.granit_error.specs.OptionsData.{OptionsData}
use Rattle.granit_lexemes.specs.Here.{Here}
use Rattle.granit_lexemes.specs.Lexeme as lexemes
use Rattle.granit_lexemes.specs.Lexeme.{Lexeme, LexemeKind}
use Rattle.granit_lexemes.specs.PlainEvent.{PlainEvent}
use Rattle.granit_machine.specs.Frames.{ParserState}
use Rattle.granit_restart.specs.Boundary.{AtStart, PastEnd, AtTextEnd, next_boundary}
use Rattle.granit_restart.specs.NextBoundary.{IsLineEnd}
use Rattle.granit_restart.specs.Restart.{behind_fault}
use Rattle.granit_steps.specs.Steps.{StepState, start_from, step_turn}
use Rattle.granit_led.specs.Alone.{TellsBehind}
use Rattle.granit_led.specs.Found.{StartRead}

pub data Led : OptionsData → StepState → Type 0 where
  led_start : {o : OptionsData} → (h : Here) → Led o (start_from h)
  led_on : {o : OptionsData} {s t : StepState} {given : Option (List PlainEvent)} → Led o s
      → step_turn o s ≡ Ok (given, t) → Led o t
  -- whatever events wait, and whatever the parser is told, as an offset of anchors, but what handles stay
  led_with : {o : OptionsData} {s : StepState} → (p : ParserState) (es : List PlainEvent) → Led o s
      → p.kept ≡ s.parser.kept → Led o (record s { parser = p; pending = es })
  -- wherever a refused read stopped
  led_anew : {o : OptionsData} {s : StepState} → (stop : Here) → Led o s → Led o (behind_fault stop s).1
  -- up to there with handles that stay over documents, or without
  led_keeping : {o : OptionsData} {s : StepState} → (keep : Bool) → Led (record o { keep_tags = keep }) s → Led o s

-- behind a mark that was read and not used: from its place on where it is a `---`, or from where reading stands, where
-- the line of a `...` ends or the text does
abbrev pub TellsMark : OptionsData → (count : ℕ) → ParserState → Here → LexemeKind → Lexeme → StepState → Type 0
TellsMark o count p h lexemes.DocumentStart l s =
    (r : StartRead h l) × TellsBehind o count p (AtStart r.place) s
TellsMark o count p h lexemes.DocumentEnd l s = IsLineEnd h.unread.text → TellsBehind o count p (PastEnd h) s
TellsMark o count p h lexemes.StreamEnd l s = TellsBehind o count p (AtTextEnd h) s
TellsMark o count p h kind l s = ⊥

-- behind what was found: a mark that was read, or the next boundary in the text
abbrev pub TellsFound : OptionsData → (count : ℕ) → ParserState → Here → Option Lexeme → StepState → Type 0
TellsFound o count p h (Some l) s = TellsMark o count p h l.kind l s
TellsFound o count p h None s = TellsBehind o count p (next_boundary h) s
