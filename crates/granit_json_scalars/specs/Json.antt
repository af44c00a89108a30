-- JSON values (RFC 8259, 3 to 7).
use Rattle.std.specs.Prelude.{ℕ, suc, max, List}

mutual
  pub data Json : Type 0 where
    -- a string, by the characters that it stands for
    Text : (characters : List ℕ) → Json
    -- a number, `true`, `false` or `null`, by its own characters
    Bare : (characters : List ℕ) → Json
    Array : Elements → Json
    Object : Members → Json

  pub data Elements : Type 0 where
    NoElement : Elements
    AfterElements : Elements → Json → Elements

  pub data Members : Type 0 where
    NoMember : Members
    AfterMembers : Members → (name : List ℕ) → Json → Members

-- how many arrays and objects stand in one another at most
abbrev mutual
  pub json_depth : Json → ℕ
  json_depth (Text characters) = 0
  json_depth (Bare characters) = 0
  json_depth (Array es) = suc (elements_depth es)
  json_depth (Object ms) = suc (members_depth ms)

  pub elements_depth : Elements → ℕ
  elements_depth NoElement = 0
  elements_depth (AfterElements es t) = max (elements_depth es) (json_depth t)

  pub members_depth : Members → ℕ
  members_depth NoMember = 0
  members_depth (AfterMembers ms name t) = max (members_depth ms) (json_depth t)
