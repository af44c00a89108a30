-- Parsers whose ids are counted.
use Rattle.std.specs.Prelude.{◌≡◌, ◌≤◌, ℕ, None}
use Rattle.granit_base.specs.Counts.{last_count}
use Rattle.granit_base.specs.Place.{Unread}
use Rattle.granit_layers.specs.declared.kinds.AnyKind.{AnyKind}
use Rattle.granit_layers.specs.declared.kinds.AnyKind.TheVariants.{First, Second, Third, Fourth}
use Rattle.granit_lexemes.specs.Here.{Here}
use Rattle.granit_parser.specs.Parsing.{Parsing, StandsIn}
use Rattle.granit_ids.specs.Ids.{counting_from}
use Rattle.granit_replay.specs.Replaying.{Replay}

-- nothing was read of it, and nothing looked at
pub record IsUnread {I : Type 0} (unread : I → Unread → Type 0) (p : Parsing I) : Type 0 where
  pub start : Here
  pub count : ℕ
  pub stands : StandsIn unread p.stepper (counting_from count start)
  pub unseen : p.peeked ≡ None

-- the number of events that are given once more is one of 64 bits
abbrev pub IsNumbered : Replay → Type 0
IsNumbered p = p.anchor_offset ≤ last_count

-- the same of a parser of one of four kinds
abbrev pub UnreadAny : {A B C D : Type 0} → (A → Type 0) → (B → Type 0) → (C → Type 0) → (D → Type 0)
    → AnyKind A B C D → Type 0
UnreadAny a b c d (First p) = a p
UnreadAny a b c d (Second p) = b p
UnreadAny a b c d (Third p) = c p
UnreadAny a b c d (Fourth p) = d p
