-- Why a buffer keeps the laws of an input.
use Rattle.std.proofs.Common.{◌≡◌, ◌+◌, ◌≤◌, ℕ, Bool, true, List, length, Option, is_some, ap, ◌∙◌, arith}
use Rattle.std.proofs.lemmas.List.{length-append}
use Rattle.granit_base.specs.Place.{Unread}
use Rattle.granit_error.specs.FaultKind.{FaultKind}
use Rattle.granit_input.specs.Origin.{Agrees}
use Rattle.granit_buffered.specs.Feeds.{LeftInFeed, origin_of}

-- What is told of a feed, and the laws of it that a buffer goes by.
pub record LawfulFeed (F : Type 0) : Type 1 where
  pub told : F → List ℕ → Option FaultKind → Type 0
  pub bound : F → ℕ
  pub ended : F → Bool
  pub error : F → Option FaultKind
  pub handed_out : F → Bool
  pub bounded : (s : F) (xs : List ℕ) (fault : Option FaultKind) → told s xs fault → length xs ≤ bound s
  pub over : (s : F) → ended s ≡ true → bound s ≡ 0

pub buffer_agrees : {F : Type 0} (f : LawfulFeed F) (feed : F) (front : List ℕ) (u : Unread)
    → LeftInFeed f.told feed front u
    → Agrees (length front + f.bound feed) (origin_of f.told f.ended f.error f.handed_out feed) u
buffer_agrees f feed front u k =
    let h = k.2.1 in
    let len = ap length h.1 ∙ length-append front h.0 in
    record {
      bounded = omega (arith, len, f.bounded feed h.0 k.2.0 h.2);
      exact = λ known none. omega (arith, len, none, f.over feed known);
      offset = ap is_some k.0;
      lends = k.1;
      sliced = λ bytes at from told. absurd cc;
      lent = λ bytes at from told. absurd cc;
    }
