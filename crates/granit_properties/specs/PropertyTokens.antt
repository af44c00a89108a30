-- What the definitions of names and tags give, as the code has it.
use Rattle.std.specs.Prelude.{◌≡◌, ℕ, Bool, true, false, Result, Ok}
use Rattle.granit_cursor.specs.declared.token.Token.{Token}
use Rattle.granit_cursor.specs.declared.token.TokenType.{TokenType}
use Rattle.granit_cursor.specs.declared.token.TokenType.TheVariants as tokens
use Rattle.granit_error.specs.FaultKind.{FaultKind, InputSlicingUnavailable, NoMemory, MissingAnchorOrAliasName}
use Rattle.granit_error.specs.FaultKind.{MissingTagUri}
use Rattle.granit_error.specs.FaultKind.{UnclosedVerbatimTag, InvalidTagTerminator, InvalidTagEscape}
use Rattle.granit_error.specs.FaultKind.{InvalidTagUtf8LeadingByte, InvalidTagUtf8TrailingByte, InvalidTagUtf8}
use Rattle.granit_base.specs.Written.{Written}
use Rattle.granit_lexemes.specs.Basics.{owned}
use Rattle.granit_lexemes.specs.Here.{Here, mark_of}
use Rattle.granit_lexemes.specs.Outcome.{Fault, ◌>>=◌}
use Rattle.granit_lexemes.specs.PlainEvent.{plain_span}
use Rattle.granit_lexemes.specs.Source.{Source}
use Rattle.granit_lexemes.specs.Tags.{TagRead}

-- what stands between two places
abbrev pub source_of : Here → Here → Source
source_of h after = record { start = mark_of h; end = mark_of after }

-- what was read, and where it stands
pub record PlacedValue (X : Type 0) : Type 0 where
  pub value : X
  pub source : Source

abbrev pub placed_at : {X : Type 0} → (Here → Result (X × Here) Fault) → Here → Result (PlacedValue X × Here) Fault
placed_at read h = read h >>= λ x. Ok (record { value = x.0; source = source_of h x.1 }, x.1)

-- something stands here, and up to there
abbrev pub StandsPlaced : {X : Type 0} → (Here → X → Here → Type 0) → Here → PlacedValue X → Here → Type 0
StandsPlaced Holds h p after = Holds h p.value after × (p.source ≡ source_of h after)

abbrev pub name_sign : (alias : Bool) → ℕ
name_sign true = 0x2A
name_sign false = 0x26

abbrev pub name_type : (alias : Bool) → Written → TokenType
name_type true name = tokens.Alias name
name_type false name = tokens.Anchor name

abbrev pub name_token : (alias : Bool) → PlacedValue Written → Token
name_token alias p = record { span = plain_span p.source.start p.source.end; token_type = name_type alias p.value }

abbrev pub tag_token : PlacedValue TagRead → Token
tag_token p = record {
  span = plain_span p.source.start p.source.end;
  token_type = tokens.Tag (owned p.value.handle) (owned p.value.suffix);
}

-- the kinds that a name is refused by, and a tag
abbrev pub IsNameKind : FaultKind → Type 0
IsNameKind NoMemory = Unit {0}
IsNameKind InputSlicingUnavailable = Unit {0}
IsNameKind MissingAnchorOrAliasName = Unit {0}
IsNameKind _ = ⊥

abbrev pub IsTagKind : FaultKind → Type 0
IsTagKind NoMemory = Unit {0}
IsTagKind MissingTagUri = Unit {0}
IsTagKind UnclosedVerbatimTag = Unit {0}
IsTagKind InvalidTagTerminator = Unit {0}
IsTagKind InvalidTagEscape = Unit {0}
IsTagKind InvalidTagUtf8LeadingByte = Unit {0}
IsTagKind InvalidTagUtf8TrailingByte = Unit {0}
IsTagKind InvalidTagUtf8 = Unit {0}
IsTagKind _ = ⊥
