-- The printed lines of tokens, for the worked rows: a name and a span.
use Rattle.std.specs.Prelude.{ℕ, List, [], ◌++◌, codes, Result, Ok, Err}
use Rattle.std.specs.List.{flat_map}
use Rattle.granit_error.specs.OptionsData.{default_options}
use Rattle.granit_lexemes.specs.Here.{start_of}
use Rattle.granit_lexemes.specs.Lexeme.{DirectiveKind, Version, TagPrefix, Reserved, LexemeKind, Directive}
use Rattle.granit_lexemes.specs.Lexeme.{DocumentStart, DocumentEnd, StreamEnd, Open, Close, Comma, Dash, Question}
use Rattle.granit_lexemes.specs.Lexeme.{Colon, Alias, Anchor, Tag, Scalar}
use Rattle.granit_lexemes.specs.declared.layout.Bracket.TheVariants.{Square, Curly}
use Rattle.granit_lexemes.specs.Outcome.{Fault}
use Rattle.granit_lexemes.specs.Source.{Source}
use Rattle.granit_machine.specs.Items.{span_words}
use Rattle.granit_machine.specs.NodeEnds.{empty_span}
use Rattle.granit_machine.specs.Reader.{LexState}
use Rattle.granit_steps.specs.Tokens.{Insertion, BlockEnd, BlockMappingStart, BlockSequenceStart, KeySign, PairStart}
use Rattle.granit_steps.specs.Tokens.{PairEnd, ScanToken, Inserted, Own, Noted, own_span, text_tokens}

abbrev pub insertion_name : Insertion → List ℕ
insertion_name BlockEnd = codes "BlockEnd"
insertion_name BlockMappingStart = codes "BlockMappingStart"
insertion_name BlockSequenceStart = codes "BlockSequenceStart"
insertion_name KeySign = codes "Key"
insertion_name PairStart = codes "FlowMappingStart"
insertion_name PairEnd = codes "FlowMappingEnd"

abbrev pub directive_name : DirectiveKind → List ℕ
directive_name (Version major minor) = codes "VersionDirective"
directive_name (TagPrefix handle prefix) = codes "TagDirective"
directive_name (Reserved name parameters) = codes "ReservedDirective"

abbrev pub kind_name : LexemeKind → List ℕ
kind_name (Directive d) = directive_name d
kind_name DocumentStart = codes "DocumentStart"
kind_name DocumentEnd = codes "DocumentEnd"
kind_name StreamEnd = codes "StreamEnd"
kind_name (Open Square) = codes "FlowSequenceStart"
kind_name (Open Curly) = codes "FlowMappingStart"
kind_name (Close Square) = codes "FlowSequenceEnd"
kind_name (Close Curly) = codes "FlowMappingEnd"
kind_name Comma = codes "FlowEntry"
kind_name Dash = codes "BlockEntry"
kind_name Question = codes "Key"
kind_name Colon = codes "Value"
kind_name (Alias name) = codes "Alias"
kind_name (Anchor name) = codes "Anchor"
kind_name (Tag handle suffix) = codes "Tag"
kind_name (Scalar style text) = codes "Scalar"

abbrev pub with_span : List ℕ → Source → List ℕ
with_span name span = ((name ++ codes " ") ++ span_words span) ++ codes "\n"

abbrev pub scan_line : ScanToken → List ℕ
scan_line (Inserted what m) = with_span (insertion_name what) (empty_span m)
scan_line (Own l) = with_span (kind_name l.kind) (own_span l.kind l)
scan_line (Noted c) = with_span (codes "Comment") c.source

abbrev pub scan_lines : Result (List ScanToken × LexState) Fault → List ℕ
scan_lines (Ok x) = flat_map scan_line x.0
scan_lines (Err f) = []

-- what is printed of a text's tokens
abbrev pub scans : List ℕ → List ℕ
scans text = scan_lines (text_tokens default_options (start_of text))
