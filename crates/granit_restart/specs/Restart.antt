-- Where reading goes on behind a fault: at the first boundary among what was read and not used, or in the text behind
-- where the cursor stands. Where a read that was refused stopped is no matter of the machine, so it is told.
use Rattle.std.specs.Prelude.{suc, Bool, true, false, ◌==◌, ◌&&◌, ◌||◌, not, if◌then◌else◌, nat_lt, List, [], ◌∷◌}
use Rattle.std.specs.Prelude.{Option, Some, None, is_some}
use Rattle.granit_base.specs.Classes.{is_break}
use Rattle.granit_lexemes.specs.Here.{Here, next_char, mark_of, text_len}
use Rattle.granit_lexemes.specs.Lexeme as lexemes
use Rattle.granit_lexemes.specs.Lexeme.{LexemeKind, Lexeme, Item, OfLexeme, OfComment}
use Rattle.granit_lexemes.specs.Moves.{steps}
use Rattle.granit_machine.specs.Frames.{Fresh, ParserState}
use Rattle.granit_machine.specs.Laid.{Laid, laid_start}
use Rattle.granit_machine.specs.Lexing.{FlaggedItem}
use Rattle.granit_machine.specs.Reader.{LexState}
use Rattle.granit_machine.specs.ReaderState.{lexeme_to}
use Rattle.granit_restart.specs.Boundary.{Boundary, AtStart, PastEnd, AtTextEnd, next_boundary}
use Rattle.granit_steps.specs.Steps.{StepState, unflagged}

-- what a lexeme that was read and not used is as a boundary: its line must be finished, and a NUL separates nothing
abbrev pub is_boundary : Here → LexemeKind → Lexeme → Bool
is_boundary h lexemes.DocumentStart l =
    not ((l.end.place.index == h.place.index && next_char h == 0) && not (text_len h == 0))
is_boundary h lexemes.DocumentEnd l =
    nat_lt l.end.place.line h.place.line || (text_len h == 0 || is_break (next_char h))
is_boundary h lexemes.StreamEnd l = true
is_boundary h kind l = false

abbrev pub lexeme_or : Bool → Lexeme → Option Lexeme → Option Lexeme
lexeme_or true l later = Some l
lexeme_or false l later = later

-- the first boundary among items
abbrev pub boundary_of : Here → Item → Option Lexeme → Option Lexeme
boundary_of h (OfComment c) later = later
boundary_of h (OfLexeme l) later = lexeme_or (is_boundary h l.kind l) l later

abbrev pub read_boundary : Here → List FlaggedItem → Option Lexeme
read_boundary h [] = None
read_boundary h (i ∷ is) = boundary_of h i.item (read_boundary h is)

-- nothing is open, and the numbers of lexemes go on
abbrev pub laid_anew : (may_prefix : Bool) → Laid → Laid
laid_anew may_prefix l = record laid_start { number = suc l.number; may_prefix = may_prefix }

-- the document is dropped with its anchors and tags, but for handles that stay; numbers of anchors go on
abbrev pub dropped : ParserState → ParserState
dropped p = record {
  frames = [];
  stage = Fresh;
  last_end = p.last_end;
  count = p.count;
  names = [];
  handles = [];
  kept = p.kept;
  waiting = None;
  given = [];
}

-- reading goes on here, with these items first
abbrev pub anew : (may_prefix : Bool) → List FlaggedItem → Here → StepState → StepState
anew may_prefix items h s = record {
  reading = record {
    reader = record { here = h; laid = laid_anew may_prefix s.reading.reader.laid };
    ended = false;
    fault = None;
  };
  queue = items;
  parser = dropped s.parser;
  pending = [];
}

-- a `---` that was found in what was dropped; it gets the next number
abbrev pub start_found : Here → StepState → Lexeme
start_found h s =
    record (lexeme_to false lexemes.DocumentStart (mark_of (steps 3 h)) h (laid_anew false s.reading.reader.laid)) {
      number = s.reading.reader.laid.number;
    }

-- whether the boundary is a `---`, and the state there
abbrev pub at_boundary : StepState → Boundary → Bool × StepState
at_boundary s (AtStart h) = (true, anew false (unflagged (OfLexeme (start_found h s)) ∷ []) (steps 3 h) s)
at_boundary s (PastEnd h) = (false, anew true [] h s)
at_boundary s (AtTextEnd h) = (false, anew false [] h s)

abbrev pub without_columns : Lexeme → Lexeme
without_columns l = record l { ends_column = false }

-- the same at a boundary that was read, where the cursor stands here
abbrev pub at_lexeme : Here → StepState → LexemeKind → Lexeme → Bool × StepState
at_lexeme h s lexemes.DocumentStart l = (true, anew false (unflagged (OfLexeme (without_columns l)) ∷ []) h s)
at_lexeme h s lexemes.DocumentEnd l = (false, anew true [] h s)
at_lexeme h s kind l = (false, anew false [] h s)

abbrev pub at_found : Here → StepState → Option Lexeme → Bool × StepState
at_found h s (Some l) = at_lexeme h s l.kind l
at_found h s None = at_boundary s (next_boundary h)

-- the next boundary from here on, first among what was read and not used
unfoldable pub behind_fault_at : Here → StepState → Bool × StepState
behind_fault_at h s = at_found h s (read_boundary h s.queue)

-- where the cursor stands: where the read that was refused stopped, if one was, or else where reading stands
abbrev pub cursor_at : (stop : Here) → LexState → Here
cursor_at stop l = if is_some l.fault then stop else l.reader.here

-- the next boundary behind a fault
abbrev pub behind_fault : (stop : Here) → StepState → Bool × StepState
behind_fault stop s = behind_fault_at (cursor_at stop s.reading) s
