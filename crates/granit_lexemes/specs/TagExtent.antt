-- How far a tag goes, what it spells, and what is refused at it (YAML 1.2.2, 6.9.1 and 5.6).
use Rattle.std.specs.Prelude.{◌≡◌, ◌≢◌, ℕ, ◌+◌, ◌*◌, ◌<◌, Bool, true, false, ◌==◌, ◌&&◌, ◌||◌, List, [], ◌∷◌, ◌++◌}
use Rattle.std.specs.Prelude.{length, slice_index, Some, None}
use Rattle.std.specs.Str.{encode_utf8_all}
use lib.Utf8.{scalars, scalar, encode}
use Rattle.granit_base.specs.Classes.{is_within, is_hex, hex_value, is_alpha, is_uri_char, is_tag_char}
use Rattle.granit_base.specs.Classes.{is_blank_or_breakz}
use Rattle.granit_base.specs.Place.{Mark, first}
use Rattle.granit_error.specs.FaultKind.{FaultKind, InvalidTagEscape, InvalidTagUtf8LeadingByte}
use Rattle.granit_error.specs.FaultKind.{InvalidTagUtf8TrailingByte, InvalidTagUtf8, MissingTagUri, UnclosedVerbatimTag}
use Rattle.granit_error.specs.FaultKind.{InvalidTagTerminator}
use Rattle.granit_lexemes.specs.Gap.{Each}
use Rattle.granit_lexemes.specs.Here.{Here, mark_of}
use Rattle.granit_lexemes.specs.PlainExtent.{over}
use Rattle.granit_lexemes.specs.Tags.{TagRead, tag_of, bytes_behind}

-- ---- what characters of a class spell (5.6)

-- the byte that `%` and two digits spell
abbrev pub byte_of : (high low : ℕ) → ℕ
byte_of high low = hex_value high * 16 + hex_value low

-- characters of a class, and the bytes that they spell: `%` and two digits a byte, another one itself
pub data SpellsBytes (test : ℕ → Bool) : (source bytes : List ℕ) → Type 0 where
  nothing : SpellsBytes test [] []
  itself : {c : ℕ} {source bytes : List ℕ} → test c ≡ true → (c == 0x25) ≡ false → SpellsBytes test source bytes
      → SpellsBytes test (c ∷ source) (c ∷ bytes)
  percent : {high low : ℕ} {source bytes : List ℕ} → is_hex high ≡ true → is_hex low ≡ true
      → SpellsBytes test source bytes → SpellsBytes test (0x25 ∷ high ∷ low ∷ source) (byte_of high low ∷ bytes)

-- characters of a class spell a text where their bytes are its UTF-8
pub record SpellsText (test : ℕ → Bool) (source text : List ℕ) : Type 0 where
  pub bytes : List ℕ
  pub spells : SpellsBytes test source bytes
  pub scalar : scalars text ≡ true
  pub encodes : encode_utf8_all text ≡ bytes

-- ---- what is wrong at a `%`

-- escapes, and their bytes
pub data Escapes : (source bytes : List ℕ) → Type 0 where
  no_more : Escapes [] []
  one_more : {high low : ℕ} {source bytes : List ℕ} → is_hex high ≡ true → is_hex low ≡ true → Escapes source bytes
      → Escapes (0x25 ∷ high ∷ low ∷ source) (byte_of high low ∷ bytes)

-- whether `%` and two digits begin a text
abbrev pub is_escape : List ℕ → Bool
is_escape text = (first text == 0x25 && is_hex (slice_index text 1)) && is_hex (slice_index text 2)

-- whether a byte is of the form 10xxxxxx
abbrev pub is_trailing : ℕ → Bool
is_trailing b = is_within 0x80 0xBF b

-- no character has these bytes
abbrev pub NoCharacter : List ℕ → Type 0
NoCharacter bytes = (c : ℕ) → scalar c ≡ true → encode c ≡ bytes → ⊥

-- a first byte that wants so many behind it, and escapes of some of them
pub record Begun (count : ℕ) (source : List ℕ) (bytes : List ℕ) : Type 0 where
  pub lead : ℕ
  pub more : List ℕ
  pub are : bytes ≡ lead ∷ more
  pub escapes : Escapes source bytes
  pub wants : bytes_behind lead ≡ Some count
  pub each : Each is_trailing more

-- what is wrong with the escapes of one character
pub data WrongEscapes : FaultKind → List ℕ → Type 0 where
  -- no two digits behind the first `%`
  digits : {rest : List ℕ} → is_escape rest ≡ false → WrongEscapes InvalidTagEscape rest
  -- no escape where a further byte must stand
  inside : (count : ℕ) (source bytes rest : List ℕ) → Begun count source bytes → length bytes < count + 1
      → is_escape rest ≡ false → WrongEscapes InvalidTagEscape (source ++ rest)
  -- a first byte that begins no character
  leading : (b : ℕ) (source rest : List ℕ) → Escapes source (b ∷ []) → bytes_behind b ≡ None
      → WrongEscapes InvalidTagUtf8LeadingByte (source ++ rest)
  -- a further byte that isn't one
  trailing : (count b : ℕ) (source piece bytes rest : List ℕ) → Begun count source bytes
      → length bytes < count + 1 → Escapes piece (b ∷ []) → is_trailing b ≡ false
      → WrongEscapes InvalidTagUtf8TrailingByte (source ++ (piece ++ rest))
  -- all bytes, which are no character's
  no_character : (count : ℕ) (source bytes rest : List ℕ) → Begun count source bytes → length bytes ≡ count + 1
      → NoCharacter bytes → WrongEscapes InvalidTagUtf8 (source ++ rest)

-- ---- tags

-- the characters that spell a tag, with its handle and what follows that
pub data SpellsTag : (source handle suffix : List ℕ) → Type 0 where
  -- `!<`, characters of a URI, and `>`
  verbatim : {uri suffix : List ℕ} → uri ≢ [] → SpellsText is_uri_char uri suffix
      → SpellsTag (0x21 ∷ 0x3C ∷ (uri ++ 0x3E ∷ [])) [] suffix
  -- `!`, a word, `!`, and characters of tags
  named : {source suffix : List ℕ} (word : List ℕ) → Each is_alpha word → source ≢ []
      → SpellsText is_tag_char source suffix
      → SpellsTag (0x21 ∷ (word ++ 0x21 ∷ source)) (0x21 ∷ (word ++ 0x21 ∷ [])) suffix
  -- `!` and characters of tags
  primary : {source suffix : List ℕ} → source ≢ [] → SpellsText is_tag_char source suffix
      → SpellsTag (0x21 ∷ source) (0x21 ∷ []) suffix
  -- `!` alone
  alone : SpellsTag (0x21 ∷ []) [] (0x21 ∷ [])

-- whether a tag may end before a character: a blank, a break, NUL, the end, or in flow `,` `]` `}`
unfoldable pub ends_tag : (in_flow : Bool) → ℕ → Bool
ends_tag in_flow c = is_blank_or_breakz c || (in_flow && (c == 0x2C || (c == 0x5D || c == 0x7D)))

-- a tag that stands here, and what stands behind it
pub record TagStands (in_flow : Bool) (h : Here) (source handle suffix rest : List ℕ) : Type 0 where
  pub whole : h.unread.text ≡ source ++ rest
  pub spells : SpellsTag source handle suffix
  pub ends : ends_tag in_flow (first rest) ≡ true

-- A tag is answered where it stands, and reading goes on behind it.
pub record AnswersTag (in_flow : Bool) (h : Here) (read : TagRead) (after : Here) : Type 0 where
  pub source : List ℕ
  pub handle : List ℕ
  pub suffix : List ℕ
  pub rest : List ℕ
  pub stands : TagStands in_flow h source handle suffix rest
  pub answer : read ≡ tag_of handle suffix
  pub reached : after ≡ over source h

-- what stands in front of the characters of a URI or a suffix, which are of a class
pub data Opens : (front : List ℕ) → (ℕ → Bool) → Type 0 where
  verbatim : Opens (0x21 ∷ 0x3C ∷ []) is_uri_char
  named : (word : List ℕ) → Each is_alpha word → Opens (0x21 ∷ (word ++ 0x21 ∷ [])) is_tag_char
  primary : Opens (0x21 ∷ []) is_tag_char

-- such a front, characters that spell a text, and what stands behind them
pub record TagFront (h : Here) (front : List ℕ) (test : ℕ → Bool) (source text rest : List ℕ) : Type 0 where
  pub whole : h.unread.text ≡ front ++ (source ++ rest)
  pub opens : Opens front test
  pub spells : SpellsText test source text

-- why a tag is refused; each refusal stands at the `!`
pub data RefusesTag (in_flow : Bool) (h : Here) : FaultKind → Mark → Type 0 where
  -- a wrong escape behind characters that spell a text
  escape : {kind : FaultKind} {front source text rest : List ℕ} {test : ℕ → Bool}
      → TagFront h front test source text rest → first rest ≡ 0x25 → WrongEscapes kind rest
      → RefusesTag in_flow h kind (mark_of h)
  -- no character behind `!<` or a handle with a second `!`
  nothing : {front rest : List ℕ} {test : ℕ → Bool} → TagFront h front test [] [] rest → front ≢ 0x21 ∷ []
      → test (first rest) ≡ false → RefusesTag in_flow h MissingTagUri (mark_of h)
  -- no `>` behind a URI
  unclosed : {uri text rest : List ℕ} → TagFront h (0x21 ∷ 0x3C ∷ []) is_uri_char uri text rest → uri ≢ []
      → is_uri_char (first rest) ≡ false → (first rest == 0x3E) ≡ false
      → RefusesTag in_flow h UnclosedVerbatimTag (mark_of h)
  -- something else behind the `>`
  behind_verbatim : {uri text rest : List ℕ} → TagFront h (0x21 ∷ 0x3C ∷ []) is_uri_char uri text (0x3E ∷ rest)
      → uri ≢ [] → ends_tag in_flow (first rest) ≡ false
      → RefusesTag in_flow h InvalidTagTerminator (mark_of h)
  -- something else behind a handle with a second `!` and a suffix
  behind_named : {source text rest : List ℕ} (word : List ℕ) → Each is_alpha word
      → TagFront h (0x21 ∷ (word ++ 0x21 ∷ [])) is_tag_char source text rest → source ≢ []
      → is_tag_char (first rest) ≡ false
      → ends_tag in_flow (first rest) ≡ false → RefusesTag in_flow h InvalidTagTerminator (mark_of h)
  -- something else behind `!` and what follows it, which begins neither a verbatim tag nor a second `!` of a handle
  behind_primary : {source text rest : List ℕ} → TagFront h (0x21 ∷ []) is_tag_char source text rest
      → is_tag_char (first rest) ≡ false → ends_tag in_flow (first rest) ≡ false
      → (slice_index h.unread.text 1 == 0x3C) ≡ false → (Each is_alpha source → first rest ≢ 0x21)
      → RefusesTag in_flow h InvalidTagTerminator (mark_of h)
