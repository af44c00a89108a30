-- Where nodes of block text may stand, and what follows them.
use Rattle.std.proofs.Common.{List, arith, suc, true, ℕ, ◌≡◌, ◌≤◌}
use Rattle.std.proofs.lemmas.Bool.Decides.{nat_tests}
use Rattle.std.specs.Prelude.{nat_lt}
use Rattle.granit_canonical_steps.proofs.Passing.{place_in}
use Rattle.granit_canonical_steps.specs.Canonical.{Anchors, spot}
use Rattle.granit_language.specs.Room.{PartFits, RightOf, Room, ValueIn, behind_property, right_fits}
use Rattle.granit_language.specs.Terminal.{PartKind, Terminal, reach_of, stands_left}
use Rattle.granit_lexemes.specs.Lexeme.{Lexeme}

-- ---- rooms

-- right of a column, counted from 1
pub data BlockRoom (m : ℕ) : Room → Type 0 where
  right_of : BlockRoom m (RightOf m)
  value_in : BlockRoom m (ValueIn m)

pub room_on : {m : ℕ} {room : Room} → BlockRoom m room → BlockRoom m (behind_property room)
room_on right_of = right_of
room_on value_in = value_in

-- a lexeme from that column on
pub part_in : {m : ℕ} {room : Room} → BlockRoom m room → (k : PartKind) (a : Anchors) (l : Lexeme)
    → m ≤ l.start.place.column → PartFits room k (place_in a l)
part_in {m = m} right_of k a l h = let e : nat_lt m (suc l.start.place.column) ≡ true = grind (arith, nat_tests) in e
part_in {m = m} value_in k a l h = let e : nat_lt m (suc l.start.place.column) ≡ true = grind (arith, nat_tests) in e

-- a collection in column c
pub collection_in : {m : ℕ} {room : Room} → BlockRoom m room → (c : ℕ) → m ≤ c → right_fits room (suc c) ≡ true
collection_in {m = m} right_of c h = grind (arith, nat_tests)
collection_in {m = m} value_in c h = grind (arith, nat_tests)

-- ---- what follows a node

-- it stands there, and reaches as far at most: 0 for what ends all collections
pub record Follows (x : List ℕ) (reach : ℕ) (next : List ℕ) (y : Terminal) : Type 0 where
  pub start : y.at.start ≡ spot x next
  pub reaches : reach_of y.kind y.at ≤ reach

pub follows_left : (x : List ℕ) (reach c : ℕ) (next : List ℕ) (y : Terminal) → Follows x reach next y → reach ≤ c
    → stands_left y (suc c) ≡ true
follows_left x reach c next y f h = let r = f.reaches in grind (arith, nat_tests)
