-- How far the name of an anchor or an alias goes, and what is refused at it (YAML 1.2.2, 6.9.2 and 7.1).
use Rattle.std.specs.Prelude.{◌≡◌, ◌≢◌, ℕ, ◌==◌, Bool, true, false, ◌||◌, List, [], ◌∷◌, ◌++◌, slice_index}
use Rattle.granit_base.specs.Classes.{is_anchor_char}
use Rattle.granit_base.specs.Place.{Mark, first}
use Rattle.granit_base.specs.Written.{Written}
use Rattle.granit_error.specs.FaultKind.{FaultKind, MissingAnchorOrAliasName}
use Rattle.granit_lexemes.specs.Basics.{as_spelled}
use Rattle.granit_lexemes.specs.Gap.{Each}
use Rattle.granit_lexemes.specs.Here.{Here, mark_of}
use Rattle.granit_lexemes.specs.PlainExtent.{over}

-- `&` of an anchor, `*` of an alias
abbrev pub is_name_sign : ℕ → Bool
is_name_sign c = c == 0x26 || c == 0x2A

-- a sign, a name of one or more characters, all that follow, and what stands behind it
pub record NameStands (h : Here) (name rest : List ℕ) : Type 0 where
  pub sign : ℕ
  pub begins : is_name_sign sign ≡ true
  pub whole : h.unread.text ≡ sign ∷ (name ++ rest)
  pub each : Each is_anchor_char name
  pub some : name ≢ []
  pub all : is_anchor_char (first rest) ≡ false

-- A name is answered where it stands, and reading goes on behind it.
pub record AnswersName (h : Here) (name : Written) (after : Here) : Type 0 where
  pub rest : List ℕ
  pub stands : NameStands h name.characters rest
  pub is : name ≡ as_spelled h name.characters
  pub reached : after ≡ over (first h.unread.text ∷ name.characters) h

-- why a name is refused, and where
pub data RefusesName (h : Here) : FaultKind → Mark → Type 0 where
  -- no character of a name behind the sign, at the sign
  nameless : is_anchor_char (slice_index h.unread.text 1) ≡ false →
      RefusesName h MissingAnchorOrAliasName (mark_of h)
