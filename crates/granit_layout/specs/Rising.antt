-- What is known of the possible keys in the open brackets, from the outermost bracket on.
use Rattle.std.specs.Prelude.{ℕ, ◌≡◌, ◌<◌, ◌≤◌, Bool, true, false, nat_le, ◌&&◌, ◌||◌, List, length, get_or, min, max}
use Rattle.std.specs.Prelude.{◌-◌, ◌^◌, Option, Some, None, if◌then◌else◌}
use Rattle.std.specs.List.{All, AllPairs}
use Rattle.granit_base.specs.Place.{Mark}
use Rattle.granit_error.specs.OptionsData.{OptionsData}
use Rattle.granit_lexemes.specs.declared.layout.OpenBracket.{OpenBracket}
use Rattle.granit_lexemes.specs.declared.layout.PossibleKey.{PossibleKey}
use Rattle.granit_layout.specs.declared.rising.KeyOrder.{KeyOrder}

-- a key begins with no earlier lexeme than another one, and at no earlier place
abbrev pub KeysInOrder : Option PossibleKey → Option PossibleKey → Type 0
KeysInOrder None later = Unit {0}
KeysInOrder (Some k) None = Unit {0}
KeysInOrder (Some k) (Some l) = (k.number ≤ l.number) × (k.start.place.index ≤ l.start.place.index)

-- a key begins with no later lexeme than that of a number, and not behind an index
abbrev pub KeyUpTo : (number index : ℕ) → Option PossibleKey → Type 0
KeyUpTo number index None = Unit {0}
KeyUpTo number index (Some k) = (k.number ≤ number) × (k.start.place.index ≤ index)

-- a key begins with no earlier lexeme than that of a number, and not before an index
abbrev pub KeyFrom : (number index : ℕ) → Option PossibleKey → Type 0
KeyFrom number index None = Unit {0}
KeyFrom number index (Some k) = (number ≤ k.number) × (index ≤ k.start.place.index)

-- the first brackets hold no key; the keys rise, where that is told; and none is behind or before what is told
pub record Rising (o : KeyOrder) (bs : List OpenBracket) : Type 0 where
  pub outer : (i : ℕ) (d : OpenBracket) → i < o.first → i < length bs → (get_or bs i d).key ≡ None
  pub order : o.rises ≡ true → AllPairs (λ a b. KeysInOrder a.key b.key) bs
  pub behind : All (λ b. KeyUpTo o.number o.index b.key) bs
  pub before : All (λ b. KeyFrom o.least o.start b.key) bs

-- a key begins with the lexeme of a number or with a later one
abbrev pub is_from : ℕ → Option PossibleKey → Bool
is_from number None = false
is_from number (Some k) = nat_le number k.number

-- ---- another key in the innermost bracket

-- a key that is behind a lexeme of a number and an index
abbrev pub is_behind : (number index : ℕ) → PossibleKey → Bool
is_behind number index k = nat_le number k.number && nat_le index k.start.place.index

-- a key in the place of one that it is not before
abbrev pub key_not_before : Option PossibleKey → PossibleKey → Bool
key_not_before None new = false
key_not_before (Some old) new = is_behind old.number old.start.place.index new

abbrev pub with_new : ℕ → Option PossibleKey → PossibleKey → KeyOrder → KeyOrder
with_new innermost old new o = record {
  first = min o.first innermost;
  rises = o.rises && (is_behind o.number o.index new || key_not_before old new);
  number = max o.number new.number;
  index = max o.index new.start.place.index;
  least = min o.least new.number;
  start = min o.start new.start.place.index;
}

abbrev pub with_key : ℕ → (old new : Option PossibleKey) → KeyOrder → KeyOrder
with_key innermost old None o = o
with_key innermost old (Some new) o = with_new innermost old new o

-- ---- fewer keys

-- no key in any bracket
abbrev pub without_keys : KeyOrder → KeyOrder
without_keys o = record o { first = 2 ^ 64 - 1; least = 2 ^ 64 - 1; start = 2 ^ 64 - 1 }

-- no key but in so many of the outermost brackets
abbrev pub ended_at : ℕ → KeyOrder → KeyOrder
ended_at depth o = if nat_le depth o.first then without_keys o else o

-- the outermost key is told
abbrev pub begun_at : Option PossibleKey → KeyOrder → KeyOrder
begun_at None o = o
begun_at (Some k) o = record o { least = k.number; start = k.start.place.index }

-- no key can have been left behind at a place
abbrev pub is_near : OptionsData → Mark → KeyOrder → Bool
is_near o m k = nat_le (m.place.index - k.start) o.simple_key_max_lookahead
