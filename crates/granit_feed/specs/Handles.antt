-- The handles that stay over documents: which items leave them alone.
use Rattle.std.specs.Prelude.{◌≡◌, Bool, false, Result, Err}
use Rattle.granit_error.specs.FaultKind.{NoMemory}
use Rattle.granit_error.specs.Refused.{Refused}
use Rattle.granit_lexemes.specs.Lexeme.{Item, OfComment, OfLexeme}
pub use Rattle.granit_lexemes.specs.Lexeme.{is_directive}
use Rattle.granit_machine.specs.Frames.{ParserState}

abbrev pub holds_directive : Item → Bool
holds_directive (OfLexeme l) = is_directive l.kind
holds_directive (OfComment c) = false

-- what is refused leaves them alone, unless memory ran out
abbrev pub KeepsIfRefused : {X : Type 0} → Result X Refused → (before after : ParserState) → Type 0
KeepsIfRefused r before after = (e : Refused) → r ≡ Err e → (e.kind ≡ NoMemory → ⊥) → after.kept ≡ before.kept
