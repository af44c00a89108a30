-- The end, document marks and directives (YAML 1.2.2, 6.8 and 9.1).
use Rattle.std.specs.Prelude.{suc, Bool, true, if◌then◌else◌, [], Option}
use Rattle.granit_base.specs.Classes.{is_breakz}
use Rattle.granit_error.specs.FaultKind.{InvalidDocumentEnd}
use Rattle.granit_error.specs.OptionsData.{OptionsData}
use Rattle.granit_lexemes.specs.Basics.{fails_at}
use Rattle.granit_lexemes.specs.Comment.{CommentRead}
use Rattle.granit_lexemes.specs.Directive as directives
use Rattle.granit_lexemes.specs.Directive.{DirectiveRead}
use Rattle.granit_lexemes.specs.Here.{Here, next_char, mark_of}
use Rattle.granit_lexemes.specs.Lexeme.{DocumentStart, DocumentEnd, StreamEnd, Lexeme}
use Rattle.granit_lexemes.specs.Lexeme as lexemes
use Rattle.granit_lexemes.specs.Moves.{steps}
use Rattle.granit_lexemes.specs.Outcome.{◌>>=◌}
use Rattle.granit_lexemes.specs.Tail.{tail_at}
use Rattle.granit_machine.specs.Columns.{ends_all}
use Rattle.granit_machine.specs.Gaps.{over_break_if}
use Rattle.granit_machine.specs.Laid.{Laid, behind_lexeme}
use Rattle.granit_lexemes.specs.declared.layout.LastLexeme.TheVariants.{Another}
use Rattle.granit_machine.specs.PossibleKeys.{drop_key, forgets_key}
use Rattle.granit_machine.specs.ReaderState.{Read, lexeme_to, with_tail, read_to, given, refuse_open}

abbrev pub behind_end : Laid → Laid
behind_end l = record l { number = suc l.number; columns = [] }

abbrev pub text_end : Here → Laid → Read
text_end h l =
    refuse_open l.brackets >>= λ u. drop_key l >>= λ t.
    read_to (lexeme_to (ends_all l) StreamEnd (mark_of h) h l) h (behind_end t)

abbrev pub start_mark : Bool → Here → Laid → Read
start_mark ends h l = given (lexeme_to ends DocumentStart (mark_of (steps 3 h)) h l) Another (steps 3 h) (forgets_key l)

abbrev pub behind_end_mark : Laid → Laid
behind_end_mark l = record (behind_lexeme Another (forgets_key l)) { may_prefix = true }

-- `...` with its tail, behind which the line ends
unfoldable pub end_mark_up_to : Lexeme → Laid → Option CommentRead → Here → Read
end_mark_up_to x l tail h =
    if is_breakz (next_char h) then read_to (with_tail x tail) h (behind_end_mark l)
    else fails_at InvalidDocumentEnd (mark_of h)

abbrev pub end_mark : Bool → Here → Laid → Read
end_mark ends h l =
    tail_at (steps 3 h) >>= λ x. end_mark_up_to (lexeme_to ends DocumentEnd (mark_of (steps 3 h)) h l) l x.0 x.1

-- behind it a byte-order mark in front of a document may still follow
abbrev pub behind_directive : Laid → Laid
behind_directive l = record (behind_lexeme Another (forgets_key l)) { may_prefix = l.may_prefix }

abbrev pub directive_given : Bool → Here → Laid → DirectiveRead → Here → Read
directive_given ends h l read after =
    read_to (with_tail (lexeme_to ends (lexemes.Directive read.kind) read.source.end h l) read.noted)
    (over_break_if after) (behind_directive l)

-- a directive with its tail and its break
abbrev pub directive_lexeme : OptionsData → Bool → Here → Laid → Read
directive_lexeme o ends h l = directives.directive o h >>= λ x. directive_given ends h l x.0 x.1
