-- `-`, `?` and `:`, by what the code holds of them.
use Rattle.std.specs.Prelude.{ℕ, ◌==◌, ◌&&◌, not, Bool, true, if◌then◌else◌, Option, Some, None, Result, Ok}
use Rattle.granit_base.specs.Classes.{is_gap}
use Rattle.granit_base.specs.Place.{Mark}
use Rattle.granit_error.specs.FaultKind.{InvalidColonPlacement, MappingValueNotAllowed, ExpectedWhitespace}
use Rattle.granit_error.specs.OptionsData.{OptionsData}
use Rattle.granit_lexemes.specs.Basics.{fails_at}
use Rattle.granit_lexemes.specs.Here.{Here, text_len, next_char, mark_of, past}
use Rattle.granit_lexemes.specs.Lexeme.{Lexeme}
use Rattle.granit_lexemes.specs.Outcome.{Fault, ◌>>=◌}
use Rattle.granit_lexemes.specs.declared.layout.LastLexeme.{LastLexeme}
use Rattle.granit_lexemes.specs.declared.layout.LastLexeme.TheVariants.{Another, BehindBareColon}
use Rattle.granit_lexemes.specs.declared.layout.PossibleKey.{PossibleKey}
use Rattle.granit_machine.specs.Columns.{with_pair}
use Rattle.granit_machine.specs.IndicatorLexemes.{behind_question, question_up_to, keyed_given}
use Rattle.granit_machine.specs.Laid.{Laid, is_in_flow}
use Rattle.granit_machine.specs.PossibleKeys.{start_of_key, is_far_below}
use Rattle.granit_machine.specs.ReaderState.{Read, given}

-- behind a `?` that began an entry, where no NUL may stand
abbrev pub question_from : OptionsData → Lexeme → Here → Laid → Read
question_from o x h l =
    if next_char h == 0x00 && not (text_len h == 0) then fails_at ExpectedWhitespace (mark_of h)
    else question_up_to o x (past is_gap h) (behind_question l)

abbrev pub lexeme_with_key : PossibleKey → Lexeme → Lexeme
lexeme_with_key k x = record x { key = Some (start_of_key k) }

-- where a `:` at a mark may stand behind its key: in flow, or where the pair of a block mapping may
abbrev pub keyed_entry : OptionsData → PossibleKey → Mark → Laid → Result Laid Fault
keyed_entry o k m l =
    if is_far_below m.place l k then fails_at InvalidColonPlacement m
    else if is_in_flow l then Ok l
    else with_pair o k.start.place.column k.start l

abbrev pub keyed_by : OptionsData → PossibleKey → Lexeme → Mark → (after : Here) → Laid → Read
keyed_by o k x m after l = keyed_entry o k m l >>= keyed_given (lexeme_with_key k x) after

-- where one may stand without a key, and what it lets the next lexeme be
abbrev pub bare_entry : OptionsData → Mark → (allowed : Bool) → Laid → Result (LastLexeme × Laid) Fault
bare_entry o m allowed l =
    if is_in_flow l then Ok (Another, l)
    else if not allowed then fails_at MappingValueNotAllowed m
    else with_pair o m.place.column m l >>= λ n. Ok (BehindBareColon, n)

abbrev pub bare_entry_read : OptionsData → Lexeme → Mark → (allowed : Bool) → (after : Here) → Laid → Read
bare_entry_read o x m allowed after l = bare_entry o m allowed l >>= λ e. given x e.0 after e.1

abbrev pub colon_by : OptionsData → Option PossibleKey → Lexeme → Mark → (allowed : Bool) → (after : Here) → Laid → Read
colon_by o (Some k) x m allowed after l = keyed_by o k x m after l
colon_by o None x m allowed after l = bare_entry_read o x m allowed after l

-- ---- where memory may be wanted

-- whether an entry of a block collection begins, for which a column may be opened
abbrev pub begins_entry : (allowed : Bool) → Laid → Bool
begins_entry allowed l = not (is_in_flow l) && allowed

-- the same of a `:`, which is always allowed behind its key
abbrev pub colon_begins_entry : Option PossibleKey → (allowed : Bool) → Laid → Bool
colon_begins_entry (Some k) allowed l = begins_entry true l
colon_begins_entry None allowed l = begins_entry allowed l

-- the column of the pair that a `:` in a column divides
abbrev pub pair_column : Option PossibleKey → ℕ → ℕ
pair_column (Some k) column = k.start.place.column
pair_column None column = column
