-- Where memory may be wanted.
use Rattle.std.specs.Prelude.{◌≡◌, ◌≤◌, Bool, true, false, length, Result, Ok, IsOk}
use Rattle.granit_error.specs.Refused.{Refused}
use Rattle.granit_lexemes.specs.Lexeme.{Anchor, Tag, Directive, TagPrefix, LexemeKind}
use Rattle.granit_lexemes.specs.Outcome.{Fault}
use Rattle.granit_machine.specs.Frames.{ParserState}

-- where the definition gives no more events, no memory is wanted
abbrev pub WantsToGive : {X E : Type 0} → Result X E → (before after : ParserState) → Type 0
WantsToGive result before after = length after.given ≤ length before.given → IsOk result

-- the same of a step that may be refused
abbrev pub StepWantsToGive : {X : Type 0} → Result X Refused → ParserState → Result ParserState Fault → Type 0
StepWantsToGive result before given = (after : ParserState) → given ≡ Ok after → WantsToGive result before after

-- whether a lexeme is one for which a text is kept: an anchor, a tag, or a directive that says what a handle stands for
abbrev pub keeps_text : LexemeKind → Bool
keeps_text (Anchor name) = true
keeps_text (Tag handle suffix) = true
keeps_text (Directive (TagPrefix handle prefix)) = true
keeps_text kind = false
