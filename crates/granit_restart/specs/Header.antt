-- Whether a fault stands among the directives of a document of which nothing else was read.
use Rattle.std.specs.Prelude.{Bool, true, false, ◌==◌, ◌&&◌, ◌||◌, if◌then◌else◌, List, [], ◌∷◌, Some, None}
use Rattle.std.specs.Prelude.{Result, Ok, Err}
use Rattle.granit_error.specs.FaultKind.{ExpectedDocumentStart, fault_number}
use Rattle.granit_error.specs.OptionsData.{OptionsData}
use Rattle.granit_lexemes.specs.Here.{Here, mark_of}
use Rattle.granit_lexemes.specs.Lexeme.{Item, OfLexeme, OfComment}
pub use Rattle.granit_lexemes.specs.Lexeme.{is_directive}
use Rattle.granit_lexemes.specs.Outcome.{Fault}
use Rattle.granit_machine.specs.Frames.{DocumentStage, Fresh, Directives}
use Rattle.granit_machine.specs.Gaps.{GapRead, gap}
use Rattle.granit_machine.specs.Laid.{Laid, is_in_flow}
use Rattle.granit_machine.specs.Lexing.{FlaggedItem}
use Rattle.granit_machine.specs.LexemeSort.{LexemeSort, TextEnd, StartMark, EndMark, DirectiveSign, Unprintable, Placed}
use Rattle.granit_machine.specs.LexemeSort.{sort_at}
use Rattle.granit_machine.specs.PossibleKeys.{without_stale}
use Rattle.granit_steps.specs.Steps.{StepState, may_go}

abbrev pub is_directives : DocumentStage → Bool
is_directives (Directives version) = true
is_directives stage = false

abbrev pub is_fresh : DocumentStage → Bool
is_fresh Fresh = true
is_fresh stage = false

abbrev pub last_is_directive : Bool → Item → Bool
last_is_directive before (OfLexeme l) = is_directive l.kind
last_is_directive before (OfComment c) = before

-- whether the last lexeme is a directive
abbrev pub ends_in_directive : Bool → List FlaggedItem → Bool
ends_in_directive before [] = before
ends_in_directive before (i ∷ is) = ends_in_directive (last_is_directive before i.item) is

abbrev pub directive_sort : Bool → LexemeSort → Bool
directive_sort before TextEnd = before
directive_sort before Unprintable = before
directive_sort before DirectiveSign = true
directive_sort before StartMark = false
directive_sort before EndMark = false
directive_sort before (Placed sort) = false

-- where the keys that a gap leaves behind may go, by what stands behind it
abbrev pub directive_there : Bool → Here → Result Laid Fault → Bool
directive_there before h (Err f) = before
directive_there before h (Ok l) = directive_sort before (sort_at (is_in_flow l) false h)

-- the same with a read that failed: a directive, or what stands in a gap behind one
abbrev pub gap_in_directive : OptionsData → Bool → GapRead → Bool
gap_in_directive o before (Err f) = before
gap_in_directive o before (Ok (Some c, s)) = before
gap_in_directive o before (Ok (None, s)) = directive_there before s.here (without_stale o (mark_of s.here) s.laid)

-- whether the parser takes the oldest item, so that a fault is its own
abbrev pub parser_takes : StepState → List FlaggedItem → Bool
parser_takes s [] = false
parser_takes s (i ∷ is) = may_go s.reading i is

abbrev pub takes_front : StepState → Bool
takes_front s = parser_takes s s.queue

abbrev pub front_is_directive : List FlaggedItem → Bool
front_is_directive [] = false
front_is_directive (i ∷ is) = last_is_directive false i.item

abbrev pub is_start_expected : Fault → Bool
is_start_expected f = fault_number f.kind == fault_number ExpectedDocumentStart

-- whether reading stands among directives
abbrev pub reads_directives : OptionsData → StepState → Bool
reads_directives o s =
    let before = ends_in_directive (is_directives s.parser.stage) s.queue in
    if takes_front s then before else gap_in_directive o before (gap o s.reading.reader.here s.reading.reader.laid)

-- whether no document is open where the parser or the reader failed
abbrev pub fails_outside : StepState → Fault → Bool
fails_outside s f =
    if takes_front s then
    (is_start_expected f || is_directives s.parser.stage)
    || (is_fresh s.parser.stage && front_is_directive s.queue)
    else is_directives s.parser.stage || is_fresh s.parser.stage

abbrev pub is_in_header : OptionsData → StepState → Fault → Bool
is_in_header o s f = fails_outside s f && reads_directives o s
