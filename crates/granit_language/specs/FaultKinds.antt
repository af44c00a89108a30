-- The kind of a refusal, by the open place.
use Rattle.granit_lexemes.specs.declared.layout.Bracket.TheVariants.{Square, Curly}
use Rattle.granit_language.specs.Choice.{choose}
use Rattle.granit_language.specs.GrammarFault.{GrammarFault, ExpectedDocumentStart, MissingDocumentEndBeforeDirective}
use Rattle.granit_language.specs.GrammarFault.{UnexpectedEofBlockSequence, UnexpectedEofBlockMapping}
use Rattle.granit_language.specs.GrammarFault.{UnexpectedEofImplicitFlowMapping, ExpectedBlockMappingKey}
use Rattle.granit_language.specs.GrammarFault.{ExpectedBlockSequenceEntry, ExpectedFlowMappingSeparator}
use Rattle.granit_language.specs.GrammarFault.{ExpectedFlowSequenceSeparator, NoFault}
use Rattle.granit_language.specs.OpenPlace.{AtRoot, AtEntry, AtItem, AtKey, AtAsk, AtColon, OpenPlace, Fresh}
use Rattle.granit_language.specs.OpenPlace.{InDirectives, BehindRoot, Ended, Want, PastEntry, PastKey, PastAsk}
use Rattle.granit_language.specs.OpenPlace.{PastPair, PastItem, BlockPairs}
use Rattle.granit_language.specs.Terminal.{TerminalKind, is_directive_kind}

-- the kind of a lexeme that isn't admitted at an open place
abbrev pub fault_kind_at : OpenPlace → TerminalKind → GrammarFault
fault_kind_at (Fresh b) kind = UnexpectedEofBlockSequence
fault_kind_at (InDirectives ds) kind = ExpectedDocumentStart
fault_kind_at (BehindRoot ro) kind =
    choose (is_directive_kind kind) MissingDocumentEndBeforeDirective ExpectedDocumentStart
fault_kind_at (Ended s) kind = NoFault
fault_kind_at (Want (AtRoot root) p) kind = UnexpectedEofBlockSequence
fault_kind_at (Want (AtEntry r q loose c lead i) p) kind = UnexpectedEofBlockSequence
fault_kind_at (Want (AtItem r q bracket o lead) p) kind = UnexpectedEofImplicitFlowMapping
fault_kind_at (Want (AtKey r (BlockPairs q c lead) f) p) kind = ExpectedBlockMappingKey
fault_kind_at (Want (AtAsk r (BlockPairs q c lead) i) p) kind = UnexpectedEofBlockMapping
fault_kind_at (Want (AtColon r (BlockPairs q c lead) left i) p) kind = UnexpectedEofBlockMapping
fault_kind_at (Want r p) kind = UnexpectedEofImplicitFlowMapping
fault_kind_at (PastEntry r p loose c es) kind = ExpectedBlockSequenceEntry
fault_kind_at (PastKey r (BlockPairs p c lead) f k) kind = ExpectedBlockMappingKey
fault_kind_at (PastKey r a f k) kind = ExpectedFlowMappingSeparator
fault_kind_at (PastAsk r (BlockPairs p c lead) q v) kind = ExpectedBlockMappingKey
fault_kind_at (PastAsk r a q v) kind = ExpectedFlowMappingSeparator
fault_kind_at (PastPair r (BlockPairs p c lead) pair) kind = ExpectedBlockMappingKey
fault_kind_at (PastPair r a pair) kind = ExpectedFlowMappingSeparator
fault_kind_at (PastItem r p Square o lead item) kind = ExpectedFlowSequenceSeparator
fault_kind_at (PastItem r p Curly o lead item) kind = ExpectedFlowMappingSeparator
