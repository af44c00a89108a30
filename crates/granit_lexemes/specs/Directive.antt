-- Directives, word by word (YAML 1.2.2, 6.8).
use Rattle.std.specs.Prelude.{ℕ, ◌+◌, ◌-◌, ◌*◌, Bool, true, false, ◌==◌, ◌&&◌, ◌||◌, not, nat_lt, nat_le}
use Rattle.std.specs.Prelude.{if◌then◌else◌, List, [], ◌∷◌, length, codes, Option, Some, None, Result, Ok}
use Rattle.std.specs.Str.{encode_utf8_all}
use Rattle.granit_base.specs.Classes.{is_blank, is_breakz, is_blank_or_breakz, is_digit, is_alpha, is_uri_char}
use Rattle.granit_base.specs.Classes.{is_tag_char, is_yaml_non_space}
use Rattle.granit_base.specs.Place.{Mark}
use Rattle.granit_base.specs.Written.{same_text}
use Rattle.granit_error.specs.FaultKind.{DirectiveDisallowed, InvalidDirectiveTerminator, MissingDirectiveName}
use Rattle.granit_error.specs.FaultKind.{InvalidDirectiveName, TooManyReservedDirectiveParams, MissingYamlVersion}
use Rattle.granit_error.specs.FaultKind.{MissingYamlVersionSeparator, YamlVersionTooLong, ExpectedTagBang}
use Rattle.granit_error.specs.FaultKind.{ExpectedTagDirectiveBang, InvalidGlobalTagCharacter}
use Rattle.granit_error.specs.FaultKind.{InvalidTagDirectiveTerminator}
use Rattle.granit_error.specs.OptionsData.{OptionsData}
use Rattle.granit_lexemes.specs.Comment.{CommentRead, comment}
use Rattle.granit_lexemes.specs.Here.{Here, text_len, next_char, mark_of, step, past}
use Rattle.granit_lexemes.specs.Outcome.{Fault, ◌>>=◌}
use Rattle.granit_lexemes.specs.Pieces.{pieces}
use Rattle.granit_lexemes.specs.Basics.{fails_at, count_up_to, text_up_to}
use Rattle.granit_lexemes.specs.Lexeme.{DirectiveKind, Version, TagPrefix, Reserved}
use Rattle.granit_lexemes.specs.Source.{Source}
use Rattle.granit_lexemes.specs.Tail.{tail_at}
use Rattle.granit_lexemes.specs.Tags.{Budget, spent, decoded}

-- a word of characters that aren't blanks, within what may still be read
abbrev pub word_up_to : Option Budget → Mark → Here → Here → Result (Option Budget × Here) Fault
word_up_to budget start h after = spent budget (length (encode_utf8_all (text_up_to h after))) start >>= λ left. Ok
    (left, after)

-- ---- `%YAML` and a version (6.8.1)

abbrev pub digits_value : ℕ → List ℕ → ℕ
digits_value n [] = n
digits_value n (d ∷ ds) = digits_value (n * 10 + (d - 0x30)) ds

abbrev pub number_up_to : Mark → Here → Here → Result (ℕ × Here) Fault
number_up_to start h after =
    if count_up_to h after == 0 then fails_at MissingYamlVersion start
    else if nat_lt 9 (count_up_to h after) then fails_at YamlVersionTooLong start
    else Ok (digits_value 0 (text_up_to h after), after)

-- one to nine digits
unfoldable pub version_number : Mark → Here → Result (ℕ × Here) Fault
version_number start h = number_up_to start h (past is_digit h)

-- the second number, behind a `.`
unfoldable pub minor_number : Mark → Here → Result (ℕ × Here) Fault
minor_number start h = if next_char h == 0x2E then version_number start (step h) else fails_at
    MissingYamlVersionSeparator start

abbrev pub version_directive : Mark → Here → Result (DirectiveKind × Here) Fault
version_directive start h = version_number start (past is_blank h) >>= λ major. minor_number start major.1 >>=
    λ minor. Ok (Version major.0 minor.0, minor.1)

-- ---- `%TAG`, a handle and a prefix (6.8.2)

-- over blanks, within what may still be read
abbrev pub blanks_within : Option Budget → Mark → Here → Result (Option Budget × Here) Fault
blanks_within budget start h = spent budget (count_up_to h (past is_blank h)) start >>= λ left. Ok
    (left, past is_blank h)

-- whether a handle that begins here with its `!` ends with one behind a word
abbrev pub ends_handle : Here → Here → Bool
ends_handle h word = next_char word == 0x21 || count_up_to h word == 1

abbrev pub behind_word : Here → Here
behind_word word = if next_char word == 0x21 then step word else word

-- `!`, `!!`, or `!` and a word and `!`
unfoldable pub handle_by : Option Budget → Mark → Here → Here → Result (Option Budget × Here) Fault
handle_by budget start h word =
    spent budget (count_up_to h (behind_word word)) start >>= λ left.
    if ends_handle h word then Ok (left, behind_word word) else fails_at ExpectedTagDirectiveBang start

unfoldable pub handle_at : Option Budget → Mark → Here → Result (Option Budget × Here) Fault
handle_at budget start h =
    if next_char h == 0x21 then handle_by budget start h (past is_alpha (step h))
    else fails_at ExpectedTagBang start

abbrev pub prefix_ends : Mark → List ℕ → List ℕ → Here → Result (DirectiveKind × Here) Fault
prefix_ends start handle prefix h = if is_blank_or_breakz (next_char h) then Ok (TagPrefix handle prefix, h) else
    fails_at InvalidTagDirectiveTerminator start

-- the prefix: `!` or a character of a tag, and a URI
unfoldable pub prefix_at : Option Budget → Mark → List ℕ → Here → Result (DirectiveKind × Here) Fault
prefix_at budget start handle h =
    if next_char h == 0x21 then (spent budget 1 start >>= λ left. decoded is_uri_char start left (step h) >>=
    λ x. prefix_ends start handle (0x21 ∷ x.0) x.1.here)
    else if is_tag_char (next_char h) then (decoded is_uri_char start budget h >>= λ x. prefix_ends start handle x.0
    x.1.here)
    else fails_at InvalidGlobalTagCharacter start

abbrev pub behind_handle_at : Mark → Here → Option Budget × Here → Result (DirectiveKind × Here) Fault
behind_handle_at start h handle = blanks_within handle.0 start handle.1 >>= λ x. prefix_at x.0 start
    (text_up_to h handle.1) x.1

abbrev pub tag_directive : Option Budget → Mark → Here → Result (DirectiveKind × Here) Fault
tag_directive budget start h = blanks_within budget start h >>= λ x. handle_at x.0 start x.1 >>= behind_handle_at start
    x.1

-- ---- a reserved directive and its parameters (6.8)

pub record ParameterState : Type 0 where
  pub here : Here
  pub budget : Option Budget
  pub count : ℕ

-- another parameter, behind blanks
unfoldable pub parameter_behind : OptionsData → Mark → ParameterState → Here
    → Result (Option (List (List ℕ)) × ParameterState) Fault
parameter_behind o start s h =
    if (count_up_to s.here h == 0 || next_char h == 0x23)
    || is_blank_or_breakz (next_char h) then Ok (None, record s { here = h })
    else spent s.budget (count_up_to s.here h) start >>= λ left.
    if nat_le o.max_reserved_directive_params s.count then fails_at
    (TooManyReservedDirectiveParams o.max_reserved_directive_params) start
    else word_up_to left start h (past is_yaml_non_space h) >>= λ x.
    Ok (Some (text_up_to h x.1 ∷ []), record { here = x.1; budget = x.0; count = s.count + 1 })

abbrev pub parameter_turn : OptionsData → Mark → ParameterState → Result (Option (List (List ℕ)) × ParameterState) Fault
parameter_turn o start s = parameter_behind o start s (past is_blank s.here)

abbrev pub parameters_len : ParameterState → ℕ
parameters_len s = text_len s.here

abbrev pub reserved_directive : OptionsData → Option Budget → Mark → List ℕ → Here → Result (DirectiveKind × Here) Fault
reserved_directive o budget start name h =
    pieces parameters_len (parameter_turn o start) (record { here = h; budget = budget; count = 0 }) >>= λ x. Ok
    (Reserved name x.0, x.1.here)

-- ---- any directive

unfoldable pub directive_of : OptionsData → Option Budget → Mark → List ℕ → Here → Result (DirectiveKind × Here) Fault
directive_of o budget start name h =
    if same_text name (codes "YAML") then version_directive start h
    else if same_text name (codes "TAG") then tag_directive budget start h
    else reserved_directive o budget start name h

-- a name that goes up to a place
abbrev pub behind_name : OptionsData → Mark → Here → Option Budget × Here → Result (DirectiveKind × Here) Fault
behind_name o start h x =
    if count_up_to h x.1 == 0 then fails_at MissingDirectiveName (mark_of h)
    else if not (is_blank_or_breakz (next_char x.1)) then fails_at InvalidDirectiveName (mark_of h)
    else directive_of o x.0 start (text_up_to h x.1) x.1

-- the directive that begins here with its `%`, and the place behind it
unfoldable pub directive_at : OptionsData → Here → Result (DirectiveKind × Here) Fault
directive_at o h =
    word_up_to (Some (record { left = o.max_directive_bytes; limit = o.max_directive_bytes })) (mark_of (step h))
    (step h) (past is_yaml_non_space (step h)) >>=
    behind_name o (mark_of h) (step h)

-- ---- its line's end

-- a directive, as the call that reads it gives it, and the comment behind it on its line
pub record DirectiveRead : Type 0 where
  pub kind : DirectiveKind
  pub source : Source
  pub noted : Option CommentRead

-- whether blanks behind it belong to it, so that a comment may follow at once
abbrev pub is_reserved : DirectiveKind → Bool
is_reserved (Reserved name parameters) = true
is_reserved (Version major minor) = false
is_reserved (TagPrefix handle prefix) = false

-- the tail of a directive: behind a reserved one a comment may stand at once
unfoldable pub directive_tail : DirectiveKind → Here → Result (Option CommentRead × Here) Fault
directive_tail kind end =
    if is_reserved kind && next_char end == 0x23 then (comment end >>= λ x. Ok (Some x.0, x.1))
    else tail_at end

abbrev pub directive_read : Here → DirectiveKind → Here → Option CommentRead → DirectiveRead
directive_read h kind end noted = record {
  kind = kind;
  source = record { start = mark_of h; end = mark_of end };
  noted = noted;
}

-- a directive of a kind that goes up to a place, whose line ends behind its tail
unfoldable pub directive_up_to : Here → DirectiveKind → Here → Option CommentRead → Here
    → Result (DirectiveRead × Here) Fault
directive_up_to h kind end noted after =
    if is_breakz (next_char after) then Ok (directive_read h kind end noted, after)
    else fails_at InvalidDirectiveTerminator (mark_of h)

abbrev pub directive_behind : Here → DirectiveKind → Here → Result (DirectiveRead × Here) Fault
directive_behind h kind end = directive_tail kind end >>= λ x. directive_up_to h kind end x.0 x.1

-- the directive that begins here with its `%`, and where reading then stands: behind it, its blanks and its comment, in
-- front of its line's end
unfoldable pub directive : OptionsData → Here → Result (DirectiveRead × Here) Fault
directive o h =
    if o.disallow_directives then fails_at DirectiveDisallowed (mark_of h)
    else directive_at o h >>= λ x. directive_behind h x.0 x.1
