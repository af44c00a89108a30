-- How far a directive goes, its parts, its line's end, and what is refused at it (YAML 1.2.2, 6.8).
use Rattle.std.specs.Prelude.{◌≡◌, ◌≢◌, ℕ, ◌+◌, ◌≤◌, ◌<◌, ◌==◌, Bool, true, false, ◌||◌, not, List, [], ◌∷◌, ◌++◌}
use Rattle.std.specs.Prelude.{length, codes, Option, Some, None}
use Rattle.std.specs.Str.{encode_utf8_all}
use Rattle.granit_base.specs.Classes.{is_blank, is_breakz, is_blank_or_breakz, is_digit, is_alpha, is_uri_char}
use Rattle.granit_base.specs.Classes.{is_tag_char, is_yaml_non_space}
use Rattle.granit_base.specs.Place.{Mark, first}
use Rattle.granit_error.specs.FaultKind.{FaultKind, DirectiveDisallowed, MissingDirectiveName, InvalidDirectiveName}
use Rattle.granit_error.specs.FaultKind.{DirectiveByteLimitExceeded, TooManyReservedDirectiveParams}
use Rattle.granit_error.specs.FaultKind.{InvalidDirectiveTerminator, MissingYamlVersion, MissingYamlVersionSeparator}
use Rattle.granit_error.specs.FaultKind.{YamlVersionTooLong, ExpectedTagBang, ExpectedTagDirectiveBang}
use Rattle.granit_error.specs.FaultKind.{InvalidGlobalTagCharacter, InvalidTagDirectiveTerminator, CommentNotSeparated}
use Rattle.granit_error.specs.OptionsData.{OptionsData}
use Rattle.granit_lexemes.specs.Comment.{CommentRead, StandsComment, Spoils}
use Rattle.granit_lexemes.specs.Directive.{digits_value, DirectiveRead, is_reserved}
use Rattle.granit_lexemes.specs.Gap.{Each}
use Rattle.granit_lexemes.specs.Here.{Here, mark_of, step}
use Rattle.granit_lexemes.specs.Lexeme.{DirectiveKind, Version, TagPrefix, Reserved}
use Rattle.granit_lexemes.specs.PlainExtent.{over, starts_comment}
use Rattle.granit_lexemes.specs.TagExtent.{SpellsText, WrongEscapes}

-- how many bytes some characters have
abbrev pub bytes_of : List ℕ → ℕ
bytes_of cs = length (encode_utf8_all cs)

-- characters of a class, all that begin a text
pub record All (test : ℕ → Bool) (text run rest : List ℕ) : Type 0 where
  pub whole : text ≡ run ++ rest
  pub each : Each test run
  pub all : test (first rest) ≡ false

-- `%` and the name of a directive, all its characters
pub record DirectiveName (h : Here) (name rest : List ℕ) : Type 0 where
  pub text : List ℕ
  pub begins : h.unread.text ≡ 0x25 ∷ text
  pub is : All is_yaml_non_space text name rest

-- a name within the limit, with a blank, a break, NUL or the end behind it
pub record DirectiveNameStands (o : OptionsData) (h : Here) (name rest : List ℕ) : Type 0 where
  pub is : DirectiveName h name rest
  pub some : name ≢ []
  pub within : bytes_of name ≤ o.max_directive_bytes
  pub parted : is_blank_or_breakz (first rest) ≡ true

-- ---- `%YAML` (6.8.1)

-- one to nine decimal digits, all that begin a text, and their number
pub record NumberStands (text digits rest : List ℕ) (n : ℕ) : Type 0 where
  pub is : All is_digit text digits rest
  pub some : digits ≢ []
  pub few : length digits ≤ 9
  pub value : n ≡ digits_value 0 digits

-- blanks, a number, `.` and a number behind the name
pub record VersionStands (text source : List ℕ) (major minor : ℕ) : Type 0 where
  pub blanks : List ℕ
  pub behind : List ℕ
  pub first_digits : List ℕ
  pub fraction : List ℕ
  pub second_digits : List ℕ
  pub rest : List ℕ
  pub parts : All is_blank text blanks behind
  pub first_number : NumberStands behind first_digits (0x2E ∷ fraction) major
  pub second_number : NumberStands fraction second_digits rest minor
  pub is : source ≡ blanks ++ (first_digits ++ 0x2E ∷ second_digits)

-- no number begins a text, or one of more than nine digits does
pub data WrongNumber (text : List ℕ) : FaultKind → Type 0 where
  missing : is_digit (first text) ≡ false → WrongNumber text MissingYamlVersion
  too_long : {digits rest : List ℕ} → All is_digit text digits rest → 9 < length digits
      → WrongNumber text YamlVersionTooLong

-- what is wrong behind the name
pub data WrongVersion (text : List ℕ) : FaultKind → Type 0 where
  first_wrong : {blanks behind : List ℕ} {kind : FaultKind} → All is_blank text blanks behind
      → WrongNumber behind kind → WrongVersion text kind
  no_point : {blanks behind digits rest : List ℕ} {n : ℕ} → All is_blank text blanks behind
      → NumberStands behind digits rest n → (first rest == 0x2E) ≡ false
      → WrongVersion text MissingYamlVersionSeparator
  second_wrong : {blanks behind digits rest : List ℕ} {n : ℕ} {kind : FaultKind} → All is_blank text blanks behind
      → NumberStands behind digits (0x2E ∷ rest) n → WrongNumber rest kind → WrongVersion text kind

-- ---- `%TAG` (6.8.2)

-- `!`, a word and `!`; or `!` alone, where neither a word nor a second `!` follows
pub data SpellsHandle : (handle behind : List ℕ) → Type 0 where
  named : {behind : List ℕ} (word : List ℕ) → Each is_alpha word → SpellsHandle (0x21 ∷ (word ++ 0x21 ∷ [])) behind
  alone : {behind : List ℕ} → is_alpha (first behind) ≡ false → (first behind == 0x21) ≡ false
      → SpellsHandle (0x21 ∷ []) behind

-- blanks and a handle behind the name
pub record HandleStands (text blanks handle behind : List ℕ) : Type 0 where
  pub whole : text ≡ blanks ++ (handle ++ behind)
  pub each : Each is_blank blanks
  pub spells : SpellsHandle handle behind

-- whether a prefix may begin with a character
abbrev pub begins_prefix : ℕ → Bool
begins_prefix c = c == 0x21 || is_tag_char c

-- blanks, a handle, blanks or none, and a prefix: characters of a URI, the first one `!` or of a tag
pub record PrefixStands (text source handle prefix rest : List ℕ) : Type 0 where
  pub blanks : List ℕ
  pub gap : List ℕ
  pub behind : List ℕ
  pub spelled : List ℕ
  pub handle_is : HandleStands text blanks handle (gap ++ (spelled ++ rest))
  pub each : Each is_blank gap
  pub begins : begins_prefix (first spelled) ≡ true
  pub prefix_is : SpellsText is_uri_char spelled prefix
  pub is : source ≡ blanks ++ (handle ++ (gap ++ spelled))

-- what is wrong behind the name
pub data WrongPrefix (text : List ℕ) : FaultKind → Type 0 where
  no_bang : {blanks behind : List ℕ} → All is_blank text blanks behind → (first behind == 0x21) ≡ false
      → WrongPrefix text ExpectedTagBang
  no_second : (blanks word rest : List ℕ) → text ≡ blanks ++ (0x21 ∷ (word ++ rest)) → Each is_blank blanks
      → Each is_alpha word → word ≢ [] → is_alpha (first rest) ≡ false → (first rest == 0x21) ≡ false
      → WrongPrefix text ExpectedTagDirectiveBang
  no_prefix : (blanks handle behind gap rest : List ℕ) → HandleStands text blanks handle behind
      → All is_blank behind gap rest → begins_prefix (first rest) ≡ false
      → WrongPrefix text InvalidGlobalTagCharacter
  wrong_escape : {kind : FaultKind} (blanks handle gap spelled prefix rest : List ℕ)
      → HandleStands text blanks handle (gap ++ (spelled ++ rest)) → Each is_blank gap
      → begins_prefix (first (spelled ++ rest)) ≡ true → SpellsText is_uri_char spelled prefix
      → first rest ≡ 0x25 → WrongEscapes kind rest → WrongPrefix text kind
  unended : {source handle prefix rest : List ℕ} → PrefixStands text source handle prefix rest
      → is_uri_char (first rest) ≡ false → is_blank_or_breakz (first rest) ≡ false
      → WrongPrefix text InvalidTagDirectiveTerminator

-- the parts of `%TAG` that are kept, and the blanks before them, up to somewhere
pub data PrefixBegins (text : List ℕ) : (front : List ℕ) → Type 0 where
  up_to_blanks : {blanks rest : List ℕ} → All is_blank text blanks rest → PrefixBegins text blanks
  up_to_word : (blanks word rest : List ℕ) → text ≡ blanks ++ (0x21 ∷ (word ++ rest)) → Each is_blank blanks
      → Each is_alpha word → PrefixBegins text (blanks ++ 0x21 ∷ word)
  up_to_handle : (blanks handle behind : List ℕ) → HandleStands text blanks handle behind
      → PrefixBegins text (blanks ++ handle)
  up_to_gap : (blanks handle behind gap rest : List ℕ) → HandleStands text blanks handle behind
      → All is_blank behind gap rest → PrefixBegins text ((blanks ++ handle) ++ gap)
  up_to_prefix : (blanks handle gap spelled rest : List ℕ)
      → HandleStands text blanks handle (gap ++ (spelled ++ rest)) → Each is_blank gap
      → begins_prefix (first spelled) ≡ true → Each is_uri_char spelled
      → PrefixBegins text (((blanks ++ handle) ++ gap) ++ spelled)

-- ---- reserved directives (6.8)

-- whether no word stands behind some blanks: there are none, or a comment, a break, NUL or the end follows
abbrev pub ends_words : (blanks rest : List ℕ) → Bool
ends_words blanks rest = (length blanks == 0 || starts_comment rest) || is_blank_or_breakz (first rest)

-- Blanks and a word, all its characters. A word is empty before a character that is no YAML character, which no
-- line's end has behind it.
pub record WordStands (text source word rest : List ℕ) : Type 0 where
  pub blanks : List ℕ
  pub behind : List ℕ
  pub parted : All is_blank text blanks behind
  pub begins : ends_words blanks behind ≡ false
  pub is : All is_yaml_non_space behind word rest
  pub source_is : source ≡ blanks ++ word

-- no word behind blanks
pub record NoWord (text blanks rest : List ℕ) : Type 0 where
  pub is : All is_blank text blanks rest
  pub none : ends_words blanks rest ≡ true

-- words, in front of what stands behind the last one
pub data WordsStand : (text source : List ℕ) (words : List (List ℕ)) (rest : List ℕ) → Type 0 where
  no_more : {text : List ℕ} → WordsStand text [] [] text
  one_more : {text piece word behind source rest : List ℕ} {words : List (List ℕ)}
      → WordStands text piece word behind → WordsStand behind source words rest
      → WordsStand text (piece ++ source) (word ∷ words) rest

-- ---- a directive

-- what stands behind a name, and which directive it makes
pub data Continues (o : OptionsData) (name text : List ℕ) : (source : List ℕ) → DirectiveKind → Type 0 where
  version : {source : List ℕ} {major minor : ℕ} → name ≡ codes "YAML" → VersionStands text source major minor
      → Continues o name text source (Version major minor)
  -- its bytes, from the name on, are within the limit
  handle : {source handle prefix : List ℕ} (rest : List ℕ) → name ≡ codes "TAG"
      → PrefixStands text source handle prefix rest → is_blank_or_breakz (first rest) ≡ true
      → bytes_of name + bytes_of source ≤ o.max_directive_bytes
      → Continues o name text source (TagPrefix handle prefix)
  -- and so are those of the words and the blanks before them; blanks behind them are part of it
  reserved : {source blanks rest more : List ℕ} {words : List (List ℕ)} → name ≢ codes "YAML" → name ≢ codes "TAG"
      → WordsStand text source words more → NoWord more blanks rest
      → bytes_of name + bytes_of source ≤ o.max_directive_bytes → length words ≤ o.max_reserved_directive_params
      → Continues o name text (source ++ blanks) (Reserved name words)

-- A directive stands here with its `%`, and this is the place behind it.
pub record DirectiveStands (o : OptionsData) (h : Here) (kind : DirectiveKind) (end : Here) : Type 0 where
  pub name : List ℕ
  pub rest : List ℕ
  pub source : List ℕ
  pub stands : DirectiveNameStands o h name rest
  pub goes : Continues o name rest source kind
  pub reached : end ≡ over (0x25 ∷ (name ++ source)) h

-- what is wrong behind a name
pub data WrongContinuation (o : OptionsData) (name text : List ℕ) : FaultKind → Type 0 where
  version : {kind : FaultKind} → name ≡ codes "YAML" → WrongVersion text kind → WrongContinuation o name text kind
  handle : {kind : FaultKind} → name ≡ codes "TAG" → WrongPrefix text kind → WrongContinuation o name text kind
  -- more bytes than the limit: parts of `%TAG` and the blanks before them
  long_handle : {front : List ℕ} → name ≡ codes "TAG" → PrefixBegins text front
      → o.max_directive_bytes < bytes_of name + bytes_of front
      → WrongContinuation o name text (DirectiveByteLimitExceeded o.max_directive_bytes)
  -- words of a reserved directive and the blanks before them
  long_words : {source piece word rest behind : List ℕ} {words : List (List ℕ)} → name ≢ codes "YAML"
      → name ≢ codes "TAG" → WordsStand text source words rest → WordStands rest piece word behind
      → length words < o.max_reserved_directive_params
      → o.max_directive_bytes < bytes_of name + bytes_of (source ++ piece)
      → WrongContinuation o name text (DirectiveByteLimitExceeded o.max_directive_bytes)
  -- and the blanks before one word more than the limit
  long_blanks : {source piece word rest behind : List ℕ} {words : List (List ℕ)} → name ≢ codes "YAML"
      → name ≢ codes "TAG" → WordsStand text source words rest → (last : WordStands rest piece word behind)
      → length words ≡ o.max_reserved_directive_params
      → o.max_directive_bytes < bytes_of name + bytes_of (source ++ last.blanks)
      → WrongContinuation o name text (DirectiveByteLimitExceeded o.max_directive_bytes)
  -- one word more than the limit, where the bytes before it are within theirs
  many_words : {source piece word rest behind : List ℕ} {words : List (List ℕ)} → name ≢ codes "YAML"
      → name ≢ codes "TAG" → WordsStand text source words rest → (last : WordStands rest piece word behind)
      → length words ≡ o.max_reserved_directive_params
      → bytes_of name + bytes_of (source ++ last.blanks) ≤ o.max_directive_bytes
      → WrongContinuation o name text (TooManyReservedDirectiveParams o.max_reserved_directive_params)

-- why no directive stands here, for its name at the name's start, else at the `%`
pub data WrongDirective (o : OptionsData) (h : Here) : FaultKind → Mark → Type 0 where
  nameless : {rest : List ℕ} → DirectiveName h [] rest → WrongDirective o h MissingDirectiveName (mark_of (step h))
  wrong_name : {name rest : List ℕ} → DirectiveName h name rest → name ≢ [] → bytes_of name ≤ o.max_directive_bytes
      → is_blank_or_breakz (first rest) ≡ false
      → WrongDirective o h InvalidDirectiveName (mark_of (step h))
  long_name : {name rest : List ℕ} → DirectiveName h name rest → o.max_directive_bytes < bytes_of name
      → WrongDirective o h (DirectiveByteLimitExceeded o.max_directive_bytes) (mark_of (step h))
  behind : {name rest : List ℕ} {kind : FaultKind} → DirectiveNameStands o h name rest
      → WrongContinuation o name rest kind → WrongDirective o h kind (mark_of h)

-- ---- its line's end

-- whether a comment may stand behind some blanks: there are some, or they are part of what stands before them
abbrev pub may_comment : (owns_blanks : Bool) (blanks : List ℕ) → Bool
may_comment owns_blanks blanks = owns_blanks || not (length blanks == 0)

-- Behind a directive: blanks, and a comment that they part from it, up to the line's end. Behind a reserved one, whose
-- blanks are part of it, the comment may stand at once.
pub data DirectiveLineEnds (owns_blanks : Bool) (end : Here) : (noted : Option CommentRead) → (after : Here)
    → Type 0 where
  nothing : {blanks rest : List ℕ} → All is_blank end.unread.text blanks rest → is_breakz (first rest) ≡ true
      → DirectiveLineEnds owns_blanks end None (over blanks end)
  comment : {blanks rest : List ℕ} {after : Here} {c : CommentRead} → All is_blank end.unread.text blanks rest
      → may_comment owns_blanks blanks ≡ true → starts_comment rest ≡ true → StandsComment (over blanks end) c after
      → DirectiveLineEnds owns_blanks end (Some c) after

-- what is wrong there: `#` without a blank before it, an unprintable character in the comment, or, at the `%`, what
-- is no line's end
pub data WrongLineEnd (owns_blanks : Bool) (start : Mark) (end : Here) : FaultKind → Mark → Type 0 where
  touching : owns_blanks ≡ false → starts_comment end.unread.text ≡ true
      → WrongLineEnd owns_blanks start end CommentNotSeparated (mark_of end)
  spoiled : {blanks rest : List ℕ} {kind : FaultKind} {m : Mark} → All is_blank end.unread.text blanks rest
      → may_comment owns_blanks blanks ≡ true → starts_comment rest ≡ true → Spoils (over blanks end) kind m
      → WrongLineEnd owns_blanks start end kind m
  unended : {blanks rest : List ℕ} → All is_blank end.unread.text blanks rest → starts_comment rest ≡ false
      → is_breakz (first rest) ≡ false → WrongLineEnd owns_blanks start end InvalidDirectiveTerminator start

-- ---- the whole

-- A directive is answered where directives may stand and one stands with its line's end, and reading goes on in front
-- of that.
pub record AnswersDirective (o : OptionsData) (h : Here) (read : DirectiveRead) (after : Here) : Type 0 where
  pub allowed : o.disallow_directives ≡ false
  pub end : Here
  pub stands : DirectiveStands o h read.kind end
  pub line : DirectiveLineEnds (is_reserved read.kind) end read.noted after
  pub place : read.source ≡ record { start = mark_of h; end = mark_of end }

-- why a directive is refused, and where
pub data RefusesDirective (o : OptionsData) (h : Here) : FaultKind → Mark → Type 0 where
  disallowed : o.disallow_directives ≡ true → RefusesDirective o h DirectiveDisallowed (mark_of h)
  wrong : {kind : FaultKind} {m : Mark} → o.disallow_directives ≡ false → WrongDirective o h kind m
      → RefusesDirective o h kind m
  line : {found : DirectiveKind} {end : Here} {kind : FaultKind} {m : Mark} → o.disallow_directives ≡ false
      → DirectiveStands o h found end → WrongLineEnd (is_reserved found) (mark_of h) end kind m
      → RefusesDirective o h kind m
