-- The kind that an `ErrorKind` of the code names.
use Rattle.granit_error.specs.FaultKind.{FaultKind, NoMemory, UnclosedFlowCollection, MismatchedFlowCollectionEnd}
use Rattle.granit_error.specs.FaultKind.{MisplacedFlowCollectionEnd, RecursionLimitExceeded, BlockEntryInFlowCollection}
use Rattle.granit_error.specs.FaultKind.{PlainScalarStartsWithDashFlowIndicator, FlowMappingValueAdjacentCollection}
use Rattle.granit_error.specs.FaultKind.{InvalidColonPlacement, InvalidIndentation, ExpectedDocumentStart}
use Rattle.granit_error.specs.FaultKind.{MissingDocumentEndBeforeDirective, InvalidDocumentEnd, DirectiveDisallowed}
use Rattle.granit_error.specs.FaultKind.{MissingDirectiveName, InvalidDirectiveName, DirectiveByteLimitExceeded}
use Rattle.granit_error.specs.FaultKind.{TooManyReservedDirectiveParams, InvalidDirectiveTerminator, MissingYamlVersion}
use Rattle.granit_error.specs.FaultKind.{MissingYamlVersionSeparator, YamlVersionTooLong, DuplicateVersionDirective}
use Rattle.granit_error.specs.FaultKind.{UnsupportedYamlMajorVersion, DuplicateTagDirective, ExpectedTagBang}
use Rattle.granit_error.specs.FaultKind.{ExpectedTagDirectiveBang, InvalidGlobalTagCharacter}
use Rattle.granit_error.specs.FaultKind.{InvalidTagDirectiveTerminator, UnexpectedEofBlockSequence}
use Rattle.granit_error.specs.FaultKind.{UnexpectedEofBlockMapping, UnexpectedEofImplicitFlowMapping}
use Rattle.granit_error.specs.FaultKind.{ExpectedBlockMappingKey, ExpectedBlockSequenceEntry}
use Rattle.granit_error.specs.FaultKind.{ExpectedFlowMappingSeparator, ExpectedFlowSequenceSeparator, UnknownAnchor}
use Rattle.granit_error.specs.FaultKind.{UndeclaredTagHandle, UnclosedQuotedScalar, DocumentIndicatorInQuotedScalar}
use Rattle.granit_error.specs.FaultKind.{TabInIndentation, InvalidQuotedScalarIndent, InvalidTrailingSingleQuotedScalar}
use Rattle.granit_error.specs.FaultKind.{InvalidTrailingDoubleQuotedScalar, UnknownQuotedScalarEscape}
use Rattle.granit_error.specs.FaultKind.{InvalidQuotedScalarHexEscape, MissingLowSurrogate}
use Rattle.granit_error.specs.FaultKind.{InvalidLowSurrogateHexEscape, InvalidLowSurrogate, UnpairedLowSurrogate}
use Rattle.granit_error.specs.FaultKind.{InvalidUnicodeEscape, ZeroBlockScalarIndent, InvalidBlockScalarHeader}
use Rattle.granit_error.specs.FaultKind.{TabAtBlockScalarStart, InvalidBlockScalarIndent, MissingTagUri}
use Rattle.granit_error.specs.FaultKind.{UnclosedVerbatimTag, InvalidTagTerminator, InvalidTagEscape}
use Rattle.granit_error.specs.FaultKind.{InvalidTagUtf8LeadingByte, InvalidTagUtf8TrailingByte, InvalidTagUtf8}
use Rattle.granit_error.specs.FaultKind.{MissingAnchorOrAliasName, SimpleKeyExpected, BlockSequenceEntryNotAllowed}
use Rattle.granit_error.specs.FaultKind.{MappingKeyNotAllowed, MappingValueNotAllowed, InvalidBlockEntryWhitespace}
use Rattle.granit_error.specs.FaultKind.{ExpectedWhitespace, TabInBlockIndentation, TabNotAllowed, TabInPlainScalar}
use Rattle.granit_error.specs.FaultKind.{CommentNotSeparated, CommentInterceptedScalar, TooManyComments}
use Rattle.granit_error.specs.FaultKind.{UnexpectedCharacter, BomInsideDocument, InputIo, InputDecoding}
use Rattle.granit_error.specs.FaultKind.{InputByteLimitExceeded, Custom, InputOffsetsWithoutSlice}
use Rattle.granit_error.specs.FaultKind.{InputSlicingUnavailable, MissingIncludeResolver, MultipleDocumentsUnsupported}
use Rattle.granit_error.specs.FaultKind.{AnchorCountOverflow, UnexpectedEof, UnexpectedEofFlowSequence}
use Rattle.granit_error.specs.FaultKind.{UnexpectedEofFlowMapping, ExpectedNodeContent, ExpectedStreamStart}
use Rattle.granit_error.specs.FaultKind.{InvalidSimpleKey, InvalidFlowScalarIndent, InvalidMappingValueWhitespace}
use Rattle.granit_error.specs.FaultKind.{UnexpectedEndOfPlainScalar}
use Rattle.granit_error.specs.declared.kind.ErrorKind.{ErrorKind}
use Rattle.granit_error.specs.declared.kind.ErrorKind.TheVariants as code

abbrev pub kind_of : ErrorKind → FaultKind
kind_of code.NoMemory = NoMemory
kind_of (code.UnclosedFlowCollection opener) = UnclosedFlowCollection opener
kind_of (code.MismatchedFlowCollectionEnd opener closer) = MismatchedFlowCollectionEnd opener closer
kind_of code.MisplacedFlowCollectionEnd = MisplacedFlowCollectionEnd
kind_of code.RecursionLimitExceeded = RecursionLimitExceeded
kind_of code.BlockEntryInFlowCollection = BlockEntryInFlowCollection
kind_of code.PlainScalarStartsWithDashFlowIndicator = PlainScalarStartsWithDashFlowIndicator
kind_of code.FlowMappingValueAdjacentCollection = FlowMappingValueAdjacentCollection
kind_of code.InvalidColonPlacement = InvalidColonPlacement
kind_of code.InvalidIndentation = InvalidIndentation
kind_of code.ExpectedDocumentStart = ExpectedDocumentStart
kind_of code.MissingDocumentEndBeforeDirective = MissingDocumentEndBeforeDirective
kind_of code.InvalidDocumentEnd = InvalidDocumentEnd
kind_of code.DirectiveDisallowed = DirectiveDisallowed
kind_of code.MissingDirectiveName = MissingDirectiveName
kind_of code.InvalidDirectiveName = InvalidDirectiveName
kind_of (code.DirectiveByteLimitExceeded limit) = DirectiveByteLimitExceeded limit
kind_of (code.TooManyReservedDirectiveParams limit) = TooManyReservedDirectiveParams limit
kind_of code.InvalidDirectiveTerminator = InvalidDirectiveTerminator
kind_of code.MissingYamlVersion = MissingYamlVersion
kind_of code.MissingYamlVersionSeparator = MissingYamlVersionSeparator
kind_of code.YamlVersionTooLong = YamlVersionTooLong
kind_of code.DuplicateVersionDirective = DuplicateVersionDirective
kind_of code.UnsupportedYamlMajorVersion = UnsupportedYamlMajorVersion
kind_of code.DuplicateTagDirective = DuplicateTagDirective
kind_of code.ExpectedTagBang = ExpectedTagBang
kind_of code.ExpectedTagDirectiveBang = ExpectedTagDirectiveBang
kind_of code.InvalidGlobalTagCharacter = InvalidGlobalTagCharacter
kind_of code.InvalidTagDirectiveTerminator = InvalidTagDirectiveTerminator
kind_of code.UnexpectedEofBlockSequence = UnexpectedEofBlockSequence
kind_of code.UnexpectedEofBlockMapping = UnexpectedEofBlockMapping
kind_of code.UnexpectedEofImplicitFlowMapping = UnexpectedEofImplicitFlowMapping
kind_of code.ExpectedBlockMappingKey = ExpectedBlockMappingKey
kind_of code.ExpectedBlockSequenceEntry = ExpectedBlockSequenceEntry
kind_of code.ExpectedFlowMappingSeparator = ExpectedFlowMappingSeparator
kind_of code.ExpectedFlowSequenceSeparator = ExpectedFlowSequenceSeparator
kind_of code.UnknownAnchor = UnknownAnchor
kind_of code.UndeclaredTagHandle = UndeclaredTagHandle
kind_of code.UnclosedQuotedScalar = UnclosedQuotedScalar
kind_of code.DocumentIndicatorInQuotedScalar = DocumentIndicatorInQuotedScalar
kind_of code.TabInIndentation = TabInIndentation
kind_of code.InvalidQuotedScalarIndent = InvalidQuotedScalarIndent
kind_of code.InvalidTrailingSingleQuotedScalar = InvalidTrailingSingleQuotedScalar
kind_of code.InvalidTrailingDoubleQuotedScalar = InvalidTrailingDoubleQuotedScalar
kind_of code.UnknownQuotedScalarEscape = UnknownQuotedScalarEscape
kind_of code.InvalidQuotedScalarHexEscape = InvalidQuotedScalarHexEscape
kind_of code.MissingLowSurrogate = MissingLowSurrogate
kind_of code.InvalidLowSurrogateHexEscape = InvalidLowSurrogateHexEscape
kind_of code.InvalidLowSurrogate = InvalidLowSurrogate
kind_of code.UnpairedLowSurrogate = UnpairedLowSurrogate
kind_of code.InvalidUnicodeEscape = InvalidUnicodeEscape
kind_of code.ZeroBlockScalarIndent = ZeroBlockScalarIndent
kind_of code.InvalidBlockScalarHeader = InvalidBlockScalarHeader
kind_of code.TabAtBlockScalarStart = TabAtBlockScalarStart
kind_of code.InvalidBlockScalarIndent = InvalidBlockScalarIndent
kind_of code.MissingTagUri = MissingTagUri
kind_of code.UnclosedVerbatimTag = UnclosedVerbatimTag
kind_of code.InvalidTagTerminator = InvalidTagTerminator
kind_of code.InvalidTagEscape = InvalidTagEscape
kind_of code.InvalidTagUtf8LeadingByte = InvalidTagUtf8LeadingByte
kind_of code.InvalidTagUtf8TrailingByte = InvalidTagUtf8TrailingByte
kind_of code.InvalidTagUtf8 = InvalidTagUtf8
kind_of code.MissingAnchorOrAliasName = MissingAnchorOrAliasName
kind_of code.SimpleKeyExpected = SimpleKeyExpected
kind_of code.BlockSequenceEntryNotAllowed = BlockSequenceEntryNotAllowed
kind_of code.MappingKeyNotAllowed = MappingKeyNotAllowed
kind_of code.MappingValueNotAllowed = MappingValueNotAllowed
kind_of code.InvalidBlockEntryWhitespace = InvalidBlockEntryWhitespace
kind_of code.ExpectedWhitespace = ExpectedWhitespace
kind_of code.TabInBlockIndentation = TabInBlockIndentation
kind_of code.TabNotAllowed = TabNotAllowed
kind_of code.TabInPlainScalar = TabInPlainScalar
kind_of code.CommentNotSeparated = CommentNotSeparated
kind_of code.CommentInterceptedScalar = CommentInterceptedScalar
kind_of code.TooManyComments = TooManyComments
kind_of (code.UnexpectedCharacter character) = UnexpectedCharacter character
kind_of code.BomInsideDocument = BomInsideDocument
kind_of (code.InputIo error) = InputIo error
kind_of (code.InputDecoding message) = InputDecoding message.characters
kind_of (code.InputByteLimitExceeded limit) = InputByteLimitExceeded limit
kind_of (code.Custom message) = Custom message.characters
kind_of code.InputOffsetsWithoutSlice = InputOffsetsWithoutSlice
kind_of code.InputSlicingUnavailable = InputSlicingUnavailable
kind_of code.MissingIncludeResolver = MissingIncludeResolver
kind_of code.MultipleDocumentsUnsupported = MultipleDocumentsUnsupported
kind_of code.AnchorCountOverflow = AnchorCountOverflow
kind_of code.UnexpectedEof = UnexpectedEof
kind_of code.UnexpectedEofFlowSequence = UnexpectedEofFlowSequence
kind_of code.UnexpectedEofFlowMapping = UnexpectedEofFlowMapping
kind_of code.ExpectedNodeContent = ExpectedNodeContent
kind_of code.ExpectedStreamStart = ExpectedStreamStart
kind_of code.InvalidSimpleKey = InvalidSimpleKey
kind_of code.InvalidFlowScalarIndent = InvalidFlowScalarIndent
kind_of code.InvalidMappingValueWhitespace = InvalidMappingValueWhitespace
kind_of code.UnexpectedEndOfPlainScalar = UnexpectedEndOfPlainScalar
