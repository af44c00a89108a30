-- Which cause of a directive stands: the first one, before which what is read is right and within the limit of its
-- bytes.
use Rattle.std.specs.Prelude.{ℕ, ◌+◌, ◌≤◌, ◌<◌, List, [], ◌∷◌, ◌++◌}
use Rattle.granit_base.specs.Place.{Mark}
use Rattle.granit_error.specs.FaultKind.{FaultKind}
use Rattle.granit_error.specs.OptionsData.{OptionsData}
use Rattle.granit_lexemes.specs.DirectiveExtent.{bytes_of, WrongPrefix, no_bang, no_second, no_prefix, wrong_escape}
use Rattle.granit_lexemes.specs.DirectiveExtent.{unended, WrongContinuation, version, handle, long_handle, long_words}
use Rattle.granit_lexemes.specs.DirectiveExtent.{long_blanks, many_words, WrongDirective, nameless, wrong_name}
use Rattle.granit_lexemes.specs.DirectiveExtent.{long_name, behind, RefusesDirective, disallowed, wrong, line}
use Rattle.granit_lexemes.specs.Here.{Here}
use Rattle.granit_lexemes.specs.TagExtent.{WrongEscapes, digits, inside, leading, trailing, no_character}

-- the escapes of a character up to where they are wrong: with the byte that is, without what is no escape
abbrev pub escapes_read : {kind : FaultKind} {text : List ℕ} → WrongEscapes kind text → List ℕ
escapes_read (digits n) = []
escapes_read (inside count source bytes rest begun few n) = source
escapes_read (leading b source rest is none) = source
escapes_read (trailing count b source piece bytes rest begun few is n) = source ++ piece
escapes_read (no_character count source bytes rest begun all none) = source

-- the parts of `%TAG` up to where they are wrong, and the blanks before them
abbrev pub prefix_read : {text : List ℕ} {kind : FaultKind} → WrongPrefix text kind → List ℕ
prefix_read (no_bang {blanks} all n) = blanks
prefix_read (no_second blanks word rest is each letters some n m) = blanks ++ 0x21 ∷ word
prefix_read (no_prefix blanks sign further gap rest is all n) = (blanks ++ sign) ++ gap
prefix_read (wrong_escape blanks sign gap spelled prefix rest is each begins spells f w) =
    ((blanks ++ sign) ++ gap) ++ (spelled ++ escapes_read w)
prefix_read (unended {source} is n m) = source

-- what is wrong in `%TAG` is so within the limit; or the limit is passed before anything is wrong
abbrev pub FirstBehind : {o : OptionsData} {name text : List ℕ} {kind : FaultKind} → WrongContinuation o name text kind
    → Type 0
FirstBehind (version is w) = Unit {0}
FirstBehind {o} {name} (handle is w) = bytes_of name + bytes_of (prefix_read w) ≤ o.max_directive_bytes
FirstBehind {o} {name} {text} (long_handle is begins more) =
    (kind : FaultKind) → (w : WrongPrefix text kind)
    → o.max_directive_bytes < bytes_of name + bytes_of (prefix_read w)
FirstBehind (long_words n m stand next few more) = Unit {0}
FirstBehind (long_blanks n m stand next all more) = Unit {0}
FirstBehind (many_words n m stand next all within) = Unit {0}

abbrev pub FirstWrong : {o : OptionsData} {h : Here} {kind : FaultKind} {m : Mark} → WrongDirective o h kind m → Type 0
FirstWrong (nameless is) = Unit {0}
FirstWrong (wrong_name is some within n) = Unit {0}
FirstWrong (long_name is more) = Unit {0}
FirstWrong (behind stands w) = FirstBehind w

-- a cause is the first one
abbrev pub ComesFirst : {o : OptionsData} {h : Here} {kind : FaultKind} {m : Mark} → RefusesDirective o h kind m
    → Type 0
ComesFirst (disallowed is) = Unit {0}
ComesFirst (wrong allowed w) = FirstWrong w
ComesFirst (line allowed stands w) = Unit {0}

-- why a directive is refused, and where: a cause before which no other stands
pub record DirectiveCause (o : OptionsData) (h : Here) (kind : FaultKind) (m : Mark) : Type 0 where
  pub cause : RefusesDirective o h kind m
  pub first : ComesFirst cause
