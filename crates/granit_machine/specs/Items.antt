-- The printed lines of items, for the worked examples.
use Rattle.std.specs.Prelude.{ℕ, Bool, true, false, ◌==◌, not, List, [], ◌++◌, codes, Option, Some, None, Result, Ok}
use Rattle.std.specs.Prelude.{Err}
use Rattle.std.specs.Fmt.{decimal}
use Rattle.std.specs.List.{flat_map}
use Rattle.granit_base.specs.Place.{Mark}
use Rattle.granit_error.specs.FaultKind.{fault_number}
use Rattle.granit_error.specs.OptionsData.{OptionsData, default_options}
use Rattle.granit_error.specs.Refused.{place_words}
use Rattle.granit_lexemes.specs.Comment.{CommentRead}
use Rattle.granit_lexemes.specs.Here.{start_of}
use Rattle.granit_lexemes.specs.declared.layout.Bracket.TheVariants.{Square, Curly}
use Rattle.granit_lexemes.specs.Source.{Source}
use Rattle.granit_lexemes.specs.Line.{in_quotes, style_word, place_line}
use Rattle.granit_lexemes.specs.Outcome.{Fault}
use Rattle.granit_lexemes.specs.Lexeme.{DirectiveKind, Version, TagPrefix, Reserved, LexemeKind, Directive, KeyStart}
use Rattle.granit_lexemes.specs.Lexeme.{DocumentStart, DocumentEnd, StreamEnd, Open, Close, Comma, Dash, Question}
use Rattle.granit_lexemes.specs.Lexeme.{Colon, Alias, Anchor, Tag, Scalar, Lexeme, Item, OfLexeme, OfComment}
use Rattle.granit_machine.specs.Lexing.{FlaggedItem, flagged, lex}
use Rattle.granit_machine.specs.Reader.{LexState}

abbrev pub directive_words : DirectiveKind → List ℕ
directive_words (Version major minor) = ((codes "Version " ++ decimal major) ++ codes ".") ++ decimal minor
directive_words (TagPrefix handle prefix) =
    ((codes "TagDirective " ++ in_quotes handle) ++ codes " ") ++ in_quotes prefix
directive_words (Reserved name parameters) =
    (codes "Reserved " ++ in_quotes name) ++ flat_map (λ p. codes " " ++ in_quotes p) parameters

abbrev pub kind_words : LexemeKind → List ℕ
kind_words (Directive d) = directive_words d
kind_words DocumentStart = codes "---"
kind_words DocumentEnd = codes "..."
kind_words StreamEnd = codes "End"
kind_words (Open Square) = codes "["
kind_words (Open Curly) = codes "{"
kind_words (Close Square) = codes "]"
kind_words (Close Curly) = codes "}"
kind_words Comma = codes ","
kind_words Dash = codes "-"
kind_words Question = codes "?"
kind_words Colon = codes ":"
kind_words (Alias name) = codes "Alias " ++ in_quotes name.characters
kind_words (Anchor name) = codes "Anchor " ++ in_quotes name.characters
kind_words (Tag handle suffix) = ((codes "Tag " ++ in_quotes handle) ++ codes " ") ++ in_quotes suffix
kind_words (Scalar style text) = ((codes "Scalar " ++ style_word style) ++ codes " ") ++ in_quotes text.characters

abbrev pub span_words : Source → List ℕ
span_words s = (place_line s.start.place ++ codes "-") ++ place_line s.end.place

abbrev pub word_if : Bool → List ℕ → List ℕ
word_if true word = word
word_if false word = []

abbrev pub indent_words : Option ℕ → List ℕ
indent_words None = []
indent_words (Some n) = codes " indent=" ++ decimal n

abbrev pub side_word : Bool → List ℕ
side_word true = codes " right "
side_word false = codes " free "

abbrev pub note_line : CommentRead → List ℕ
note_line c =
    ((side_word c.is_right ++ in_quotes c.text.characters) ++ (codes " " ++ span_words c.source)) ++ codes "\n"

abbrev pub tail_line : Option CommentRead → List ℕ
tail_line None = []
tail_line (Some c) = codes "tail" ++ note_line c

abbrev pub is_elsewhere : Mark → Mark → Bool
is_elsewhere a b = not (a.place.index == b.place.index)

abbrev pub has_key : Option KeyStart → Bool
has_key None = false
has_key (Some k) = true

abbrev pub flag_words : Lexeme → Bool → List ℕ
flag_words l begins_key =
    (word_if l.in_flow (codes " flow") ++ word_if l.ends_column (codes " ends"))
    ++ (word_if begins_key (codes " key") ++ word_if (has_key l.key) (codes " key"))

unfoldable pub lexeme_line : Lexeme → Bool → List ℕ
lexeme_line l begins_key =
    (((decimal l.number ++ codes " ") ++ (kind_words l.kind ++ codes " ")) ++ span_words l.shown)
    ++ ((word_if (is_elsewhere l.start l.shown.start) (codes " from " ++ place_line l.start.place)
    ++ word_if (is_elsewhere l.end l.shown.end) (codes " to " ++ place_line l.end.place))
    ++ ((indent_words l.indent ++ flag_words l begins_key) ++ (codes "\n" ++ tail_line l.tail)))

abbrev pub line_of : Item → Bool → List ℕ
line_of (OfLexeme l) begins_key = lexeme_line l begins_key
line_of (OfComment c) begins_key = codes "comment" ++ note_line c

abbrev pub item_line : FlaggedItem → List ℕ
item_line i = line_of i.item i.begins_key

abbrev pub fault_end : Option Fault → List ℕ
fault_end None = []
fault_end (Some f) =
    (codes "fault " ++ decimal (fault_number f.kind)) ++ (codes ":" ++ (place_words f.mark.place ++ codes "\n"))

abbrev pub lex_lines : Result (List Item × LexState) Fault → List ℕ
lex_lines (Ok (items, s)) = flat_map item_line (flagged items) ++ fault_end s.fault
lex_lines (Err f) = fault_end (Some f)

-- what is printed of the items of a text under some options
abbrev pub reads_under : OptionsData → List ℕ → List ℕ
reads_under o text = lex_lines (lex o (start_of text))

abbrev pub reads : List ℕ → List ℕ
reads text = reads_under default_options text
