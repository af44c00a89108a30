-- The lexemes that end all columns, as the code has them.
use Rattle.std.specs.Prelude.{if◌then◌else◌, Result, Ok}
use Rattle.granit_base.specs.Classes.{is_breakz}
use Rattle.granit_error.specs.FaultKind.{InvalidDocumentEnd}
use Rattle.granit_lexemes.specs.Basics.{fails_at}
use Rattle.granit_lexemes.specs.Here.{Here, next_char, mark_of}
use Rattle.granit_lexemes.specs.Outcome.{Fault, ◌>>=◌}
use Rattle.granit_machine.specs.Columns.{ends_all, closed_all}
use Rattle.granit_machine.specs.Laid.{Laid}
use Rattle.granit_machine.specs.ReaderState.{Read, refuse_open}
use Rattle.granit_machine.specs.StreamLexemes.{start_mark, end_mark}

-- `---` and `...` where no bracket is open, which end all columns
abbrev pub document_start : Here → Laid → Read
document_start h l = refuse_open l.brackets >>= λ u. start_mark (ends_all l) h (closed_all l)

abbrev pub document_end : Here → Laid → Read
document_end h l = refuse_open l.brackets >>= λ u. end_mark (ends_all l) h (closed_all l)

-- behind a `...` and its tail the line ends
abbrev pub refuse_more : Here → Result (Unit {0}) Fault
refuse_more h = if is_breakz (next_char h) then Ok tt else fails_at InvalidDocumentEnd (mark_of h)
