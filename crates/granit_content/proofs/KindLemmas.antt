-- What the tokens of the calls that read lexemes say.
use Rattle.std.proofs.Common.{◌≡◌, refl}
use Rattle.granit_cursor.specs.declared.comment.Comment.{Comment}
use Rattle.granit_cursor.specs.declared.token.TokenType.{TokenType}
use Rattle.granit_cursor.specs.declared.token.TokenType.TheVariants as tokens
use Rattle.granit_lexemes.specs.Source.{Source}
use Rattle.granit_content.specs.KindViews.{note_of_type}

-- a token that is no comment
pub no_note : (t : TokenType) (s : Source) → ((c : Comment) → t ≡ tokens.Comment c → ⊥)
    → note_of_type t s ≡ note_of_type tokens.Key s
no_note (tokens.Comment c) s differs = absurd (differs c refl)
no_note tokens.StreamStart s differs = refl
no_note tokens.StreamEnd s differs = refl
no_note tokens.DocumentStart s differs = refl
no_note tokens.DocumentEnd s differs = refl
no_note tokens.BlockSequenceStart s differs = refl
no_note tokens.BlockMappingStart s differs = refl
no_note tokens.BlockEnd s differs = refl
no_note tokens.FlowSequenceStart s differs = refl
no_note tokens.FlowSequenceEnd s differs = refl
no_note tokens.FlowMappingStart s differs = refl
no_note tokens.FlowMappingEnd s differs = refl
no_note tokens.BlockEntry s differs = refl
no_note tokens.FlowEntry s differs = refl
no_note tokens.Key s differs = refl
no_note tokens.Value s differs = refl
no_note (tokens.Alias a) s differs = refl
no_note (tokens.Anchor a) s differs = refl
no_note (tokens.VersionDirective a b) s differs = refl
no_note (tokens.TagDirective a b) s differs = refl
no_note (tokens.Tag a b) s differs = refl
no_note (tokens.Scalar a b) s differs = refl
no_note (tokens.ReservedDirective a b) s differs = refl
