-- The flags and the byte offsets of lexemes in printed lines, for the worked rows.
use Rattle.std.specs.Prelude.{ℕ, List, [], ◌++◌, codes, Option, Some, None, Result, Ok, Err}
use Rattle.std.specs.Fmt.{decimal}
use Rattle.std.specs.List.{flat_map}
use Rattle.granit_error.specs.OptionsData.{default_options}
use Rattle.granit_lexemes.specs.Comment.{CommentRead}
use Rattle.granit_lexemes.specs.Here.{start_of}
use Rattle.granit_lexemes.specs.Lexeme.{KeyStart, Lexeme, Item, OfLexeme, OfComment}
use Rattle.granit_lexemes.specs.Outcome.{Fault}
use Rattle.granit_lexemes.specs.Source.{Source}
use Rattle.granit_machine.specs.Items.{word_if, fault_end}
use Rattle.granit_machine.specs.Lexing.{lex}
use Rattle.granit_machine.specs.Reader.{LexState}

-- the number of the lexeme that begins its key, and that key's index
abbrev pub key_words : Option KeyStart → List ℕ
key_words None = []
key_words (Some k) = (codes " key=" ++ decimal k.number) ++ (codes ":" ++ decimal k.start.place.index)

-- whether it begins its line, whether it follows an indicator, whether it ends a column, and the key of a `:`
unfoldable pub flag_line : Lexeme → List ℕ
flag_line x =
    (decimal x.number ++ word_if x.begins_line (codes " line"))
    ++ ((word_if x.follows_indicator (codes " follows") ++ word_if x.ends_column (codes " ends"))
    ++ (key_words x.key ++ codes "\n"))

abbrev pub offset_words : Option ℕ → List ℕ
offset_words None = codes "?"
offset_words (Some n) = decimal n

abbrev pub offsets_of : Source → List ℕ
offsets_of s = (offset_words s.start.byte_offset ++ codes "-") ++ offset_words s.end.byte_offset

abbrev pub note_bytes : Option CommentRead → List ℕ
note_bytes None = []
note_bytes (Some c) = codes " #" ++ offsets_of c.source

-- the bytes before its start and before its end
unfoldable pub byte_line : Lexeme → List ℕ
byte_line x = ((decimal x.number ++ codes " ") ++ (offsets_of x.shown ++ note_bytes x.tail)) ++ codes "\n"

abbrev pub lines_by : (Lexeme → List ℕ) → Item → List ℕ
lines_by line (OfLexeme x) = line x
lines_by line (OfComment c) = codes "#" ++ (offsets_of c.source ++ codes "\n")

abbrev pub printed_by : (Lexeme → List ℕ) → Result (List Item × LexState) Fault → List ℕ
printed_by line (Ok (items, s)) = flat_map (lines_by line) items ++ fault_end s.fault
printed_by line (Err f) = fault_end (Some f)

abbrev pub flags_in : List ℕ → List ℕ
flags_in text = printed_by flag_line (lex default_options (start_of text))

abbrev pub bytes_in : List ℕ → List ℕ
bytes_in text = printed_by byte_line (lex default_options (start_of text))
