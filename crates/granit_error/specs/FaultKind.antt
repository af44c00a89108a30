-- Why a text is refused, as plain data, with the number and the printed words of each kind. A text is seen as its
-- characters.
use Rattle.std.specs.Prelude.{ℕ, Bool, true, false, ◌==◌, List, ◌++◌, codes}
use Rattle.std.specs.Fmt.{decimal}
use Rattle.std.specs.Char.{encode_utf8}
use Rattle.std.specs.Char.Escape.{escape_default}
use Rattle.std.specs.Str.{encode_utf8_all}

pub data FaultKind : Type 0 where
  NoMemory : FaultKind
  UnclosedFlowCollection : (opener : ℕ) → FaultKind
  MismatchedFlowCollectionEnd : (opener : ℕ) → (closer : ℕ) → FaultKind
  MisplacedFlowCollectionEnd : FaultKind
  RecursionLimitExceeded : FaultKind
  BlockEntryInFlowCollection : FaultKind
  PlainScalarStartsWithDashFlowIndicator : FaultKind
  FlowMappingValueAdjacentCollection : FaultKind
  InvalidColonPlacement : FaultKind
  InvalidIndentation : FaultKind
  ExpectedDocumentStart : FaultKind
  MissingDocumentEndBeforeDirective : FaultKind
  InvalidDocumentEnd : FaultKind
  DirectiveDisallowed : FaultKind
  MissingDirectiveName : FaultKind
  InvalidDirectiveName : FaultKind
  DirectiveByteLimitExceeded : (limit : ℕ) → FaultKind
  TooManyReservedDirectiveParams : (limit : ℕ) → FaultKind
  InvalidDirectiveTerminator : FaultKind
  MissingYamlVersion : FaultKind
  MissingYamlVersionSeparator : FaultKind
  YamlVersionTooLong : FaultKind
  DuplicateVersionDirective : FaultKind
  UnsupportedYamlMajorVersion : FaultKind
  DuplicateTagDirective : FaultKind
  ExpectedTagBang : FaultKind
  ExpectedTagDirectiveBang : FaultKind
  InvalidGlobalTagCharacter : FaultKind
  InvalidTagDirectiveTerminator : FaultKind
  UnexpectedEofBlockSequence : FaultKind
  UnexpectedEofBlockMapping : FaultKind
  UnexpectedEofImplicitFlowMapping : FaultKind
  ExpectedBlockMappingKey : FaultKind
  ExpectedBlockSequenceEntry : FaultKind
  ExpectedFlowMappingSeparator : FaultKind
  ExpectedFlowSequenceSeparator : FaultKind
  UnknownAnchor : FaultKind
  UndeclaredTagHandle : FaultKind
  UnclosedQuotedScalar : FaultKind
  DocumentIndicatorInQuotedScalar : FaultKind
  TabInIndentation : FaultKind
  InvalidQuotedScalarIndent : FaultKind
  InvalidTrailingSingleQuotedScalar : FaultKind
  InvalidTrailingDoubleQuotedScalar : FaultKind
  UnknownQuotedScalarEscape : FaultKind
  InvalidQuotedScalarHexEscape : FaultKind
  MissingLowSurrogate : FaultKind
  InvalidLowSurrogateHexEscape : FaultKind
  InvalidLowSurrogate : FaultKind
  UnpairedLowSurrogate : FaultKind
  InvalidUnicodeEscape : FaultKind
  ZeroBlockScalarIndent : FaultKind
  InvalidBlockScalarHeader : FaultKind
  TabAtBlockScalarStart : FaultKind
  InvalidBlockScalarIndent : FaultKind
  MissingTagUri : FaultKind
  UnclosedVerbatimTag : FaultKind
  InvalidTagTerminator : FaultKind
  InvalidTagEscape : FaultKind
  InvalidTagUtf8LeadingByte : FaultKind
  InvalidTagUtf8TrailingByte : FaultKind
  InvalidTagUtf8 : FaultKind
  MissingAnchorOrAliasName : FaultKind
  SimpleKeyExpected : FaultKind
  BlockSequenceEntryNotAllowed : FaultKind
  MappingKeyNotAllowed : FaultKind
  MappingValueNotAllowed : FaultKind
  InvalidBlockEntryWhitespace : FaultKind
  ExpectedWhitespace : FaultKind
  TabInBlockIndentation : FaultKind
  TabNotAllowed : FaultKind
  TabInPlainScalar : FaultKind
  CommentNotSeparated : FaultKind
  CommentInterceptedScalar : FaultKind
  TooManyComments : FaultKind
  UnexpectedCharacter : (character : ℕ) → FaultKind
  BomInsideDocument : FaultKind
  InputIo : (error : List ℕ) → FaultKind
  InputDecoding : (message : List ℕ) → FaultKind
  InputByteLimitExceeded : (limit : ℕ) → FaultKind
  Custom : (message : List ℕ) → FaultKind
  InputOffsetsWithoutSlice : FaultKind
  InputSlicingUnavailable : FaultKind
  MissingIncludeResolver : FaultKind
  MultipleDocumentsUnsupported : FaultKind
  AnchorCountOverflow : FaultKind
  UnexpectedEof : FaultKind
  UnexpectedEofFlowSequence : FaultKind
  UnexpectedEofFlowMapping : FaultKind
  ExpectedNodeContent : FaultKind
  ExpectedStreamStart : FaultKind
  InvalidSimpleKey : FaultKind
  InvalidFlowScalarIndent : FaultKind
  InvalidMappingValueWhitespace : FaultKind
  UnexpectedEndOfPlainScalar : FaultKind

-- whether it holds a text, which is copied with it
abbrev pub holds_text : FaultKind → Bool
holds_text (InputIo error) = true
holds_text (InputDecoding message) = true
holds_text (Custom message) = true
holds_text _ = false

abbrev pub fault_number : FaultKind → ℕ
fault_number NoMemory = 1
fault_number (UnclosedFlowCollection opener) = 2
fault_number (MismatchedFlowCollectionEnd opener closer) = 3
fault_number MisplacedFlowCollectionEnd = 4
fault_number RecursionLimitExceeded = 5
fault_number BlockEntryInFlowCollection = 6
fault_number PlainScalarStartsWithDashFlowIndicator = 7
fault_number FlowMappingValueAdjacentCollection = 8
fault_number InvalidColonPlacement = 9
fault_number InvalidIndentation = 10
fault_number ExpectedDocumentStart = 11
fault_number MissingDocumentEndBeforeDirective = 12
fault_number InvalidDocumentEnd = 13
fault_number DirectiveDisallowed = 14
fault_number MissingDirectiveName = 15
fault_number InvalidDirectiveName = 16
fault_number (DirectiveByteLimitExceeded limit) = 17
fault_number (TooManyReservedDirectiveParams limit) = 18
fault_number InvalidDirectiveTerminator = 19
fault_number MissingYamlVersion = 20
fault_number MissingYamlVersionSeparator = 21
fault_number YamlVersionTooLong = 22
fault_number DuplicateVersionDirective = 23
fault_number UnsupportedYamlMajorVersion = 24
fault_number DuplicateTagDirective = 25
fault_number ExpectedTagBang = 26
fault_number ExpectedTagDirectiveBang = 27
fault_number InvalidGlobalTagCharacter = 28
fault_number InvalidTagDirectiveTerminator = 29
fault_number UnexpectedEofBlockSequence = 30
fault_number UnexpectedEofBlockMapping = 31
fault_number UnexpectedEofImplicitFlowMapping = 32
fault_number ExpectedBlockMappingKey = 33
fault_number ExpectedBlockSequenceEntry = 34
fault_number ExpectedFlowMappingSeparator = 35
fault_number ExpectedFlowSequenceSeparator = 36
fault_number UnknownAnchor = 37
fault_number UndeclaredTagHandle = 38
fault_number UnclosedQuotedScalar = 39
fault_number DocumentIndicatorInQuotedScalar = 40
fault_number TabInIndentation = 41
fault_number InvalidQuotedScalarIndent = 42
fault_number InvalidTrailingSingleQuotedScalar = 43
fault_number InvalidTrailingDoubleQuotedScalar = 44
fault_number UnknownQuotedScalarEscape = 45
fault_number InvalidQuotedScalarHexEscape = 46
fault_number MissingLowSurrogate = 47
fault_number InvalidLowSurrogateHexEscape = 48
fault_number InvalidLowSurrogate = 49
fault_number UnpairedLowSurrogate = 50
fault_number InvalidUnicodeEscape = 51
fault_number ZeroBlockScalarIndent = 52
fault_number InvalidBlockScalarHeader = 53
fault_number TabAtBlockScalarStart = 54
fault_number InvalidBlockScalarIndent = 55
fault_number MissingTagUri = 56
fault_number UnclosedVerbatimTag = 57
fault_number InvalidTagTerminator = 58
fault_number InvalidTagEscape = 59
fault_number InvalidTagUtf8LeadingByte = 60
fault_number InvalidTagUtf8TrailingByte = 61
fault_number InvalidTagUtf8 = 62
fault_number MissingAnchorOrAliasName = 63
fault_number SimpleKeyExpected = 64
fault_number BlockSequenceEntryNotAllowed = 65
fault_number MappingKeyNotAllowed = 66
fault_number MappingValueNotAllowed = 67
fault_number InvalidBlockEntryWhitespace = 68
fault_number ExpectedWhitespace = 69
fault_number TabInBlockIndentation = 70
fault_number TabNotAllowed = 71
fault_number TabInPlainScalar = 72
fault_number CommentNotSeparated = 73
fault_number CommentInterceptedScalar = 74
fault_number TooManyComments = 75
fault_number (UnexpectedCharacter character) = 76
fault_number BomInsideDocument = 77
fault_number (InputIo error) = 78
fault_number (InputDecoding message) = 79
fault_number (InputByteLimitExceeded limit) = 80
fault_number (Custom message) = 81
fault_number InputOffsetsWithoutSlice = 82
fault_number InputSlicingUnavailable = 83
fault_number MissingIncludeResolver = 84
fault_number MultipleDocumentsUnsupported = 85
fault_number AnchorCountOverflow = 86
fault_number UnexpectedEof = 87
fault_number UnexpectedEofFlowSequence = 88
fault_number UnexpectedEofFlowMapping = 89
fault_number ExpectedNodeContent = 90
fault_number ExpectedStreamStart = 91
fault_number InvalidSimpleKey = 92
fault_number InvalidFlowScalarIndent = 93
fault_number InvalidMappingValueWhitespace = 94
fault_number UnexpectedEndOfPlainScalar = 95

-- the words in UTF-8
abbrev pub fault_words : FaultKind → List ℕ
fault_words NoMemory = codes "out of memory"
fault_words (UnclosedFlowCollection opener) = codes "unclosed bracket '" ++ encode_utf8 opener ++ codes "'"
fault_words (MismatchedFlowCollectionEnd opener closer) = codes "mismatched bracket '"
    ++ (encode_utf8 opener ++ (codes "' closed by '" ++ (encode_utf8 closer ++ (codes "'"))))
fault_words MisplacedFlowCollectionEnd = codes "misplaced bracket"
fault_words RecursionLimitExceeded = codes "recursion limit exceeded"
fault_words BlockEntryInFlowCollection = codes "\"-\" is only valid inside a block"
fault_words PlainScalarStartsWithDashFlowIndicator = codes "plain scalar cannot start with '-' followed by ,[]{}"
fault_words FlowMappingValueAdjacentCollection = codes "':' may not precede any of `[{` in flow mapping"
fault_words InvalidColonPlacement = codes "illegal placement of ':' indicator"
fault_words InvalidIndentation = codes "invalid indentation"
fault_words ExpectedDocumentStart = codes "did not find expected <document start>"
fault_words MissingDocumentEndBeforeDirective = codes "missing explicit document end marker before directive"
fault_words InvalidDocumentEnd = codes "invalid content after document end marker"
fault_words DirectiveDisallowed = codes "YAML directives are disallowed"
fault_words MissingDirectiveName = codes "while scanning a directive, could not find expected directive name"
fault_words InvalidDirectiveName = codes "while scanning a directive, found unexpected non-alphabetical character"
fault_words (DirectiveByteLimitExceeded limit) = codes "directive exceeds the configured limit of " ++ decimal limit
    ++ codes " bytes"
fault_words (TooManyReservedDirectiveParams limit) = codes "reserved directive exceeds the configured limit of "
    ++ decimal limit ++ codes " parameters"
fault_words InvalidDirectiveTerminator = codes "while scanning a directive, did not find expected comment or line break"
fault_words MissingYamlVersion = codes "while scanning a YAML directive, did not find expected version number"
fault_words MissingYamlVersionSeparator = codes
    "while scanning a YAML directive, did not find expected digit or '.' character"
fault_words YamlVersionTooLong = codes "while scanning a YAML directive, found extremely long version number"
fault_words DuplicateVersionDirective = codes "duplicate version directive"
fault_words UnsupportedYamlMajorVersion = codes "unsupported YAML major version"
fault_words DuplicateTagDirective = codes
    "the TAG directive must only be given at most once per handle in the same document"
fault_words ExpectedTagBang = codes "while scanning a tag, did not find expected '!'"
fault_words ExpectedTagDirectiveBang = codes "while parsing a tag directive, did not find expected '!'"
fault_words InvalidGlobalTagCharacter = codes "invalid global tag character"
fault_words InvalidTagDirectiveTerminator = codes "while scanning TAG, did not find expected whitespace or line break"
fault_words UnexpectedEofBlockSequence = codes "unexpected EOF while parsing a block sequence"
fault_words UnexpectedEofBlockMapping = codes "unexpected EOF while parsing a block mapping"
fault_words UnexpectedEofImplicitFlowMapping = codes "unexpected EOF while parsing an implicit flow mapping"
fault_words ExpectedBlockMappingKey = codes "while parsing a block mapping, did not find expected key"
fault_words ExpectedBlockSequenceEntry = codes "while parsing a block collection, did not find expected '-' indicator"
fault_words ExpectedFlowMappingSeparator = codes "while parsing a flow mapping, did not find expected ',' or '}'"
fault_words ExpectedFlowSequenceSeparator = codes "while parsing a flow sequence, expected ',' or ']'"
fault_words UnknownAnchor = codes "while parsing node, found unknown anchor"
fault_words UndeclaredTagHandle = codes "the handle wasn't declared"
fault_words UnclosedQuotedScalar = codes "unclosed quote"
fault_words DocumentIndicatorInQuotedScalar = codes
    "while scanning a quoted scalar, found unexpected document indicator"
fault_words TabInIndentation = codes "tab cannot be used as indentation"
fault_words InvalidQuotedScalarIndent = codes "invalid indentation in multiline quoted scalar"
fault_words InvalidTrailingSingleQuotedScalar = codes "invalid trailing content after single-quoted scalar"
fault_words InvalidTrailingDoubleQuotedScalar = codes "invalid trailing content after double-quoted scalar"
fault_words UnknownQuotedScalarEscape = codes "while parsing a quoted scalar, found unknown escape character"
fault_words InvalidQuotedScalarHexEscape = codes
    "while parsing a quoted scalar, did not find expected hexadecimal number"
fault_words MissingLowSurrogate = codes
    "while parsing a quoted scalar, found high surrogate without following low surrogate"
fault_words InvalidLowSurrogateHexEscape = codes
    "while parsing a quoted scalar, did not find expected hexadecimal number for low surrogate"
fault_words InvalidLowSurrogate = codes "while parsing a quoted scalar, found invalid low surrogate"
fault_words UnpairedLowSurrogate = codes "while parsing a quoted scalar, found unpaired low surrogate"
fault_words InvalidUnicodeEscape = codes "while parsing a quoted scalar, found invalid Unicode character escape code"
fault_words ZeroBlockScalarIndent = codes "while scanning a block scalar, found an indentation indicator equal to 0"
fault_words InvalidBlockScalarHeader = codes
    "while scanning a block scalar, did not find expected comment or line break"
fault_words TabAtBlockScalarStart = codes "a block scalar content cannot start with a tab"
fault_words InvalidBlockScalarIndent = codes "wrongly indented line in block scalar"
fault_words MissingTagUri = codes "while parsing a tag, did not find expected tag URI"
fault_words UnclosedVerbatimTag = codes "while scanning a verbatim tag, did not find the expected '>'"
fault_words InvalidTagTerminator = codes "while scanning a tag, did not find expected whitespace or line break"
fault_words InvalidTagEscape = codes "while parsing a tag, found an invalid escape sequence"
fault_words InvalidTagUtf8LeadingByte = codes "while parsing a tag, found an incorrect leading UTF-8 byte"
fault_words InvalidTagUtf8TrailingByte = codes "while parsing a tag, found an incorrect trailing UTF-8 byte"
fault_words InvalidTagUtf8 = codes "while parsing a tag, found an invalid UTF-8 codepoint"
fault_words MissingAnchorOrAliasName = codes
    "while scanning an anchor or alias, did not find expected alphabetic or numeric character"
fault_words SimpleKeyExpected = codes "simple key expected ':'"
fault_words BlockSequenceEntryNotAllowed = codes "block sequence entries are not allowed in this context"
fault_words MappingKeyNotAllowed = codes "mapping keys are not allowed in this context"
fault_words MappingValueNotAllowed = codes "mapping values are not allowed in this context"
fault_words InvalidBlockEntryWhitespace = codes "'-' must be followed by a valid YAML whitespace"
fault_words ExpectedWhitespace = codes "expected whitespace"
fault_words TabInBlockIndentation = codes "tabs disallowed within this context (block indentation)"
fault_words TabNotAllowed = codes "tabs disallowed in this context"
fault_words TabInPlainScalar = codes "while scanning a plain scalar, found a tab"
fault_words CommentNotSeparated = codes "comments must be separated from other tokens by whitespace"
fault_words CommentInterceptedScalar = codes "comment intercepting the multiline text"
fault_words TooManyComments = codes "too many buffered comments while looking ahead"
fault_words (UnexpectedCharacter character) = codes "unexpected character: `"
    ++ encode_utf8_all (escape_default character) ++ codes "'"
fault_words BomInsideDocument = codes "a BOM must not appear inside a document"
fault_words (InputIo error) = codes "input I/O error: " ++ encode_utf8_all error
fault_words (InputDecoding message) = codes "input decoding error: " ++ encode_utf8_all message
fault_words (InputByteLimitExceeded limit) = codes "input exceeds the configured limit of " ++ decimal limit
    ++ codes " bytes"
fault_words (Custom message) = encode_utf8_all message
fault_words InputOffsetsWithoutSlice = codes "internal error: input advertised offsets but did not provide a slice"
fault_words InputSlicingUnavailable = codes "internal error: input advertised slicing but did not provide a slice"
fault_words MissingIncludeResolver = codes "No include resolver set for parser stack."
fault_words MultipleDocumentsUnsupported = codes "multiple documents not supported here"
fault_words AnchorCountOverflow = codes "while parsing anchor, anchor count exceeded supported limit"
fault_words UnexpectedEof = codes "unexpected eof"
fault_words UnexpectedEofFlowSequence = codes "unexpected EOF while parsing a flow sequence"
fault_words UnexpectedEofFlowMapping = codes "unexpected EOF while parsing a flow mapping"
fault_words ExpectedNodeContent = codes "while parsing a node, did not find expected node content"
fault_words ExpectedStreamStart = codes "did not find expected <stream-start>"
fault_words InvalidSimpleKey = codes "simple key is no longer valid"
fault_words InvalidFlowScalarIndent = codes "invalid indentation in flow construct"
fault_words InvalidMappingValueWhitespace = codes "':' must be followed by a valid YAML whitespace"
fault_words UnexpectedEndOfPlainScalar = codes "unexpected end of plain scalar"

-- want of memory, which no text causes
abbrev pub wants_memory : FaultKind → Bool
wants_memory kind = fault_number kind == fault_number NoMemory
