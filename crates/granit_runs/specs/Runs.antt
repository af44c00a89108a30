-- Runs: the longest prefix of a text in which each character passes a test. A test sees the text from the character on.
use Rattle.std.specs.Prelude.{ℕ, zero, suc, ◌==◌, ◌&&◌, ◌||◌, not, Bool, if◌then◌else◌, List, [], ◌∷◌, slice_index}
use Rattle.granit_base.specs.Place.{first}
use Rattle.granit_base.specs.PlainContent.{is_content, plain_goes_on}
use Rattle.granit_base.specs.Classes.{is_within, is_alpha, is_blank, is_blank_or_breakz, is_flow}
use Rattle.granit_base.specs.Classes.{is_printable, is_yaml_non_space, is_non_breakz}
pub use Rattle.granit_base.specs.Classes.{is_line_char}
use Rattle.granit_runs.specs.declared.class.Class.{Class}
use Rattle.granit_runs.specs.declared.class.Class.TheVariants.{Alpha, NonSpace, Blank, Printable, NonBreakz}
use Rattle.granit_runs.specs.declared.class.Run.{Run}
use Rattle.granit_runs.specs.declared.class.Run.TheVariants.{Of, Plain, Quoted, QuotedAscii}
use Rattle.granit_runs.specs.declared.class.Run.TheVariants.{PlainWords, QuotedWords}

-- how many characters the run at the front has
unfoldable pub run_length : (List ℕ → Bool) → List ℕ → ℕ
run_length test [] = zero
run_length test (c ∷ cs) = if test (c ∷ cs) then suc (run_length test cs) else zero

-- a test of the first character alone
abbrev pub starts : (ℕ → Bool) → List ℕ → Bool
starts test text = test (first text)

-- whether the first character, which may be a blank, doesn't end a plain scalar as an indicator
abbrev pub can_be_plain : Bool → List ℕ → Bool
can_be_plain in_flow text = plain_goes_on in_flow (first text) (slice_index text 1)

-- the quote of a quoted scalar, and in double quotes the backslash (7.3.1, 7.3.2)
abbrev pub is_quoted_stop : Bool → ℕ → Bool
is_quoted_stop single c = if single then c == 0x27 else (c == 0x22 || c == 0x5C)

-- a character from `!` to `~` that means itself in quotes
abbrev pub is_quoted_ascii : Bool → ℕ → Bool
is_quoted_ascii single c = is_within 0x21 0x7E c && not (is_quoted_stop single c)

-- the same, or a printable character past ASCII
abbrev pub is_quoted_char : Bool → ℕ → Bool
is_quoted_char single c = is_quoted_ascii single c || (is_within 0x80 0x10FFFF c && is_printable c)

-- a character from `!` to `~` that is content of a plain scalar, whatever follows it
abbrev pub is_plain_ascii : Bool → ℕ → Bool
is_plain_ascii in_flow c = is_within 0x21 0x7E c && (not (c == 0x3A) && not (in_flow && is_flow c))

-- a character that is content of a plain scalar behind a space, whatever follows it
abbrev pub begins_word : Bool → ℕ → Bool
begins_word in_flow c = not (is_blank_or_breakz c) && (not (c == 0x23) && plain_goes_on in_flow c 0x20)

-- content of a plain scalar, or a space before such content
abbrev pub is_plain_word : Bool → List ℕ → Bool
is_plain_word in_flow text = is_content in_flow text
    || (first text == 0x20 && begins_word in_flow (slice_index text 1))

-- a character that means itself in quotes and is no blank, or a space before one
abbrev pub is_quoted_word : Bool → List ℕ → Bool
is_quoted_word single text = is_quoted_char single (first text)
    || (first text == 0x20 && is_quoted_char single (slice_index text 1))

-- the classes that the code names
abbrev pub class_test : Class → ℕ → Bool
class_test Alpha c = is_alpha c
class_test NonSpace c = is_yaml_non_space c
class_test Blank c = is_blank c
class_test Printable c = is_line_char c
class_test NonBreakz c = is_non_breakz c

abbrev pub run_test : Run → List ℕ → Bool
run_test (Of class) text = class_test class (first text)
run_test (Plain in_flow) text = is_content in_flow text
run_test (Quoted single) text = is_quoted_char single (first text)
run_test (QuotedAscii single) text = is_quoted_ascii single (first text)
run_test (PlainWords in_flow) text = is_plain_word in_flow text
run_test (QuotedWords single) text = is_quoted_word single text
