-- What is wrong with a list of lexemes, and the fault that it is told as.
use Rattle.std.specs.Prelude.{Bool, true, false}
use Rattle.granit_base.specs.Place.{Mark}
use Rattle.granit_error.specs.FaultKind as refused
use Rattle.granit_lexemes.specs.Outcome.{Fault, fault_at}
use Rattle.granit_language.specs.Terminal.{At, Terminal}

-- what the grammar refuses
pub data GrammarFault : Type 0 where
  ExpectedDocumentStart MissingDocumentEndBeforeDirective : GrammarFault
  UnexpectedEofBlockSequence UnexpectedEofBlockMapping UnexpectedEofImplicitFlowMapping : GrammarFault
  ExpectedBlockMappingKey ExpectedBlockSequenceEntry ExpectedFlowMappingSeparator ExpectedFlowSequenceSeparator :
      GrammarFault
  -- a lexeme behind the end of the text, of which a list that ends there has none
  NoFault : GrammarFault
  -- what the grammar takes and the limit of open block collections refuses, at an indentless sequence or another one;
  -- and what means nothing by what stands declared
  TooManyBlocks : (indentless : Bool) → GrammarFault
  DuplicateVersionDirective UnsupportedYamlMajorVersion DuplicateTagDirective UnknownAnchor UndeclaredTagHandle :
      GrammarFault

abbrev pub fault_kind : GrammarFault → refused.FaultKind
fault_kind ExpectedDocumentStart = refused.ExpectedDocumentStart
fault_kind MissingDocumentEndBeforeDirective = refused.MissingDocumentEndBeforeDirective
fault_kind UnexpectedEofBlockSequence = refused.UnexpectedEofBlockSequence
fault_kind UnexpectedEofBlockMapping = refused.UnexpectedEofBlockMapping
fault_kind UnexpectedEofImplicitFlowMapping = refused.UnexpectedEofImplicitFlowMapping
fault_kind ExpectedBlockMappingKey = refused.ExpectedBlockMappingKey
fault_kind ExpectedBlockSequenceEntry = refused.ExpectedBlockSequenceEntry
fault_kind ExpectedFlowMappingSeparator = refused.ExpectedFlowMappingSeparator
fault_kind ExpectedFlowSequenceSeparator = refused.ExpectedFlowSequenceSeparator
fault_kind NoFault = refused.NoMemory
fault_kind (TooManyBlocks indentless) = refused.RecursionLimitExceeded
fault_kind DuplicateVersionDirective = refused.DuplicateVersionDirective
fault_kind UnsupportedYamlMajorVersion = refused.UnsupportedYamlMajorVersion
fault_kind DuplicateTagDirective = refused.DuplicateTagDirective
fault_kind UnknownAnchor = refused.UnknownAnchor
fault_kind UndeclaredTagHandle = refused.UndeclaredTagHandle

abbrev pub fault_mark : GrammarFault → At → Mark
fault_mark (TooManyBlocks false) i = i.start
fault_mark (TooManyBlocks true) i = i.end
fault_mark k i = i.shown.start

abbrev pub fault_of : GrammarFault → Terminal → Fault
fault_of k x = fault_at (fault_kind k) (fault_mark k x.at)
