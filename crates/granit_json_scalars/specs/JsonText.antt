-- Which text is which JSON value (RFC 8259, 2, 4 and 5). What is written of a value leads from a text to its rest.
use Rattle.std.specs.Prelude.{◌≡◌, ℕ, ◌≤◌, List, [], ◌∷◌, ◌++◌, length, ◌⊎◌}
use Rattle.granit_json_scalars.specs.Json.{Json, Text, Bare, Array, Object, Elements, NoElement, AfterElements, Members}
use Rattle.granit_json_scalars.specs.Json.{NoMember, AfterMembers}
use Rattle.granit_json_scalars.specs.JsonScalars.{White, IsString, IsJsonNumber, IsName}

mutual
  pub data ValueText : Json → (from to : List ℕ) → Type 0 where
    text : {characters from to : List ℕ} (source : List ℕ) → IsString source characters
        → from ≡ 0x22 ∷ (source ++ 0x22 ∷ to) → ValueText (Text characters) from to
    bare : {characters from to : List ℕ} → IsJsonNumber characters ⊎ IsName characters → from ≡ characters ++ to
        → ValueText (Bare characters) from to
    no_elements : {from to : List ℕ} (white : List ℕ) → White white → from ≡ 0x5B ∷ (white ++ 0x5D ∷ to)
        → ValueText (Array NoElement) from to
    elements : {es : Elements} {from to : List ℕ} (inside : List ℕ) → from ≡ 0x5B ∷ inside
        → ElementsText es inside (0x5D ∷ to) → ValueText (Array es) from to
    no_members : {from to : List ℕ} (white : List ℕ) → White white → from ≡ 0x7B ∷ (white ++ 0x7D ∷ to)
        → ValueText (Object NoMember) from to
    members : {ms : Members} {from to : List ℕ} (inside : List ℕ) → from ≡ 0x7B ∷ inside
        → MembersText ms inside (0x7D ∷ to) → ValueText (Object ms) from to

  -- a value with white space around it
  pub data PartText : Json → (from to : List ℕ) → Type 0 where
    part : {t : Json} {from to : List ℕ} (before value after : List ℕ) → White before → from ≡ before ++ value
        → White after → ValueText t value (after ++ to) → PartText t from to

  -- one or more, with a comma between two
  pub data ElementsText : Elements → (from to : List ℕ) → Type 0 where
    one_element : {t : Json} {from to : List ℕ} → PartText t from to → ElementsText (AfterElements NoElement t) from to
    next_element : {es : Elements} {t : Json} {from to : List ℕ} (middle : List ℕ)
        → ElementsText es from (0x2C ∷ middle) → PartText t middle to → ElementsText (AfterElements es t) from to

  -- a name, a colon and a value, with white space around each
  pub data MemberText : (name : List ℕ) → Json → (from to : List ℕ) → Type 0 where
    member : {name : List ℕ} {t : Json} {from to : List ℕ} (before source between value : List ℕ) → White before
        → IsString source name → White between
        → from ≡ before ++ 0x22 ∷ (source ++ 0x22 ∷ (between ++ 0x3A ∷ value)) → PartText t value to
        → MemberText name t from to

  pub data MembersText : Members → (from to : List ℕ) → Type 0 where
    one_member : {name : List ℕ} {t : Json} {from to : List ℕ} → MemberText name t from to
        → MembersText (AfterMembers NoMember name t) from to
    next_member : {ms : Members} {name : List ℕ} {t : Json} {from to : List ℕ} (middle : List ℕ)
        → MembersText ms from (0x2C ∷ middle) → MemberText name t middle to
        → MembersText (AfterMembers ms name t) from to

-- a whole text
abbrev pub JsonText : List ℕ → Json → Type 0
JsonText x t = PartText t x []

-- each name and what parts it from its colon have no more characters than this, the quotes counted
abbrev mutual
  pub ValueNamesFit : ℕ → {t : Json} {from to : List ℕ} → ValueText t from to → Type 0
  ValueNamesFit n (text source s e) = Unit {0}
  ValueNamesFit n (bare b e) = Unit {0}
  ValueNamesFit n (no_elements white w e) = Unit {0}
  ValueNamesFit n (elements inside e es) = ElementNamesFit n es
  ValueNamesFit n (no_members white w e) = Unit {0}
  ValueNamesFit n (members inside e ms) = MemberNamesFit n ms

  pub NamesFit : ℕ → {t : Json} {from to : List ℕ} → PartText t from to → Type 0
  NamesFit n (part before value after w e v d) = ValueNamesFit n d

  pub ElementNamesFit : ℕ → {es : Elements} {from to : List ℕ} → ElementsText es from to → Type 0
  ElementNamesFit n (one_element p) = NamesFit n p
  ElementNamesFit n (next_element middle es p) = ElementNamesFit n es × NamesFit n p

  pub NameFits : ℕ → {name : List ℕ} {t : Json} {from to : List ℕ} → MemberText name t from to → Type 0
  NameFits n (member before source between value w s b e p) =
      (length (0x22 ∷ (source ++ 0x22 ∷ between)) ≤ n) × NamesFit n p

  pub MemberNamesFit : ℕ → {ms : Members} {from to : List ℕ} → MembersText ms from to → Type 0
  MemberNamesFit n (one_member m) = NameFits n m
  MemberNamesFit n (next_member middle ms m) = MemberNamesFit n ms × NameFits n m
