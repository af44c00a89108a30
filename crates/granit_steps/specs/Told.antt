-- What a text tells in all: the events that the parser gives of it, and the fault that ends them.
use Rattle.std.specs.Prelude.{◌≡◌, ℕ, List, [], ◌∷◌, ◌++◌, Option, Some, None, Result, Ok, Err}
use Rattle.granit_error.specs.OptionsData.{OptionsData}
use Rattle.granit_lexemes.specs.Here.{Here, mark_of, start_of}
use Rattle.granit_lexemes.specs.Lexeme.{Item}
use Rattle.granit_lexemes.specs.Outcome.{Fault}
use Rattle.granit_lexemes.specs.PlainEvent.{PlainEvent, event_on, StreamStart}
use Rattle.granit_machine.specs.Frames.{ParserState, parser_start}
use Rattle.granit_machine.specs.Laid.{Laid}
use Rattle.granit_machine.specs.Lexing.{FlaggedItem, flagged, lex}
use Rattle.granit_machine.specs.Machine.{asked_items, settled}
use Rattle.granit_machine.specs.Parser.{next_line, feed}
use Rattle.granit_machine.specs.Reader.{LexState}
use Rattle.granit_steps.specs.Flags.{flags}
use Rattle.granit_steps.specs.Steps.{StepState, next_event}

-- events, and a fault where one ends them
abbrev pub EventsTold : Type 0
EventsTold = List PlainEvent × Option Fault

abbrev pub before_told : List PlainEvent → EventsTold → EventsTold
before_told es x = (es ++ x.0, x.1)

abbrev pub told_behind : Result (List PlainEvent × ParserState) Fault → (ParserState → EventsTold) → EventsTold
told_behind (Ok x) more = before_told x.0 (more x.1)
told_behind (Err f) more = ([], Some f)

-- what the parser tells of items, and the reader's end behind them
abbrev pub fed : OptionsData → Option Fault → List FlaggedItem → ParserState → EventsTold
fed o end [] p = ([], end)
fed o end (i ∷ is) p = told_behind (feed o i (next_line is) p) (λ q. fed o end is q)

-- the items that the parser gets: all of them, or those before the oldest key that is possible where reading failed
abbrev pub parsers_items : Laid → Option Fault → List FlaggedItem → List FlaggedItem
parsers_items l None items = items
parsers_items l (Some f) items = settled l items

abbrev pub told_read : OptionsData → ParserState → Result (List Item × LexState) Fault → EventsTold
told_read o p (Ok x) =
    fed o x.1.fault (parsers_items x.1.reader.laid x.1.fault (asked_items o.emit_comments (flagged x.0))) p
told_read o p (Err f) = ([], Some f)

-- all that is told of a text
abbrev pub told_from : OptionsData → Here → EventsTold
told_from o h = before_told (event_on StreamStart (mark_of h) ∷ []) (told_read o (parser_start (mark_of h)) (lex o h))

abbrev pub told_of : OptionsData → List ℕ → EventsTold
told_of o text = told_from o (start_of text)

-- the answer of a whole run
abbrev pub answer : EventsTold → Option Fault → Result (List PlainEvent) Fault
answer x None = Ok x.0
answer x (Some f) = Err f

-- what calls give one by one from a state on: some events, and then nothing more or a fault
pub data GivesEvents (o : OptionsData) : StepState → List PlainEvent → Option Fault → Type 0 where
  gives_end : {s after : StepState} → next_event o s ≡ Ok (None, after) → GivesEvents o s [] None
  gives_fault : {s : StepState} {f : Fault} → next_event o s ≡ Err f → GivesEvents o s [] (Some f)
  gives_event : {s after : StepState} {e : PlainEvent} {es : List PlainEvent} {f : Option Fault}
      → next_event o s ≡ Ok (Some e, after) → GivesEvents o after es f → GivesEvents o s (e ∷ es) f

-- the flags that the stack gives are those that the numbers give
abbrev pub FlagsOf : Result (List Item × LexState) Fault → Type 0
FlagsOf (Ok x) = flagged x.0 ≡ flags x.0
FlagsOf (Err f) = Unit {0}
