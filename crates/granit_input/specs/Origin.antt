-- Where the characters of an input come from.
use Rattle.std.specs.Prelude.{◌≡◌, ◌≤◌, ◌&&◌, ◌||◌, ℕ, length, Bool, true, false, if◌then◌else◌, List, Option, None}
use Rattle.std.specs.Prelude.{Some, IsNone, IsSome, is_some}
use Rattle.std.specs.Borrow.{Bor}
use Rattle.granit_base.specs.Place.{Unread}
use Rattle.granit_runs.specs.Cuts.{PartOf}
use Rattle.granit_error.specs.FaultKind.{FaultKind}
use Rattle.granit_runs.specs.Unread.{SpelledBy}

pub record Origin : Type 1 where
  -- the bytes that `slice_bytes` reads, where it reads any
  pub sliced : Option (List ℕ)
  -- the bytes that `slice_borrowed` reads, where it reads any
  pub lent : Option (List ℕ)
  -- whether byte offsets are told
  pub tells_offset : Bool
  -- whether it is known where the characters end
  pub knows_end : Bool
  -- the first error that the source gave
  pub error : Option FaultKind
  -- whether an error was handed out
  pub handed_out : Bool
  -- the window is never smaller than this, whatever is consumed: the window itself where it never shrinks, else 0
  pub floor : ℕ
  -- this is known to be the error that the characters end with, None where they end without one
  pub ends_with : Option FaultKind → Type 0

-- What a call leaves as it was, unless it hands out the error: the sources and what is told never change, a known end
-- stays known and nothing comes behind it, the first error stays the first, the floor of the window never falls, and
-- what is known of the end stays known.
pub record Goes (old : Origin) (new : Origin) : Type 0 where
  pub sliced : new.sliced ≡ old.sliced
  pub lent : new.lent ≡ old.lent
  pub tells_offset : new.tells_offset ≡ old.tells_offset
  pub handed_out : new.handed_out ≡ old.handed_out
  pub knows_end : old.knows_end ≡ true → (new.knows_end ≡ true) × (new.error ≡ old.error)
  pub error : IsSome old.error → new.error ≡ old.error
  pub floor : old.floor ≤ new.floor
  pub ends_with : (f : Option FaultKind) → old.ends_with f → new.ends_with f

-- the error that is handed out
abbrev pub error_given : Origin → Option FaultKind
error_given o = if o.handed_out then None else o.error

-- what handing it out leaves: all else as it was
pub record Gave (old : Origin) (new : Origin) : Type 0 where
  pub sliced : new.sliced ≡ old.sliced
  pub lent : new.lent ≡ old.lent
  pub tells_offset : new.tells_offset ≡ old.tells_offset
  pub knows_end : new.knows_end ≡ old.knows_end
  pub error : new.error ≡ old.error
  pub handed_out : new.handed_out ≡ (old.handed_out || is_some old.error)
  pub floor : new.floor ≡ old.floor
  pub ends_with : (f : Option FaultKind) → old.ends_with f → new.ends_with f

-- what is left can be lent where its offsets are told and there is a source to lend from
abbrev pub can_lend : Origin → Bool
can_lend o = o.tells_offset && is_some o.lent

-- What is known to be left is within the bound, which is 0 at an end that is known. Its offset is known where offsets
-- are told, it can be lent as said above, and from its offset on the sources are its UTF-8.
pub record Agrees (left : ℕ) (o : Origin) (u : Unread) : Type 0 where
  pub bounded : length u.text ≤ left
  pub exact : o.knows_end ≡ true → length u.text ≡ 0 → left ≡ 0
  pub offset : is_some u.offset ≡ o.tells_offset
  pub lends : u.lends ≡ can_lend o
  pub sliced : SpelledBy o.sliced u
  pub lent : SpelledBy o.lent u

-- the part of the source between two offsets that may be told
abbrev pub LentBetween : Option (List ℕ) → Option ℕ → Option ℕ → Option (Bor (List ℕ)) → Type 0
LentBetween source None end answer = IsNone answer
LentBetween source (Some start) None answer = IsNone answer
LentBetween source (Some start) (Some end) answer = PartOf source start end answer

-- the origin of a string's characters: both slices come from it, offsets are told, the end is known, there is no
-- error, and the window never shrinks
abbrev pub of_string : List ℕ → (window : ℕ) → Origin
of_string source window = record {
  sliced = Some source;
  lent = Some source;
  tells_offset = true;
  knows_end = true;
  error = None;
  handed_out = false;
  floor = window;
  ends_with = λ f. f ≡ None;
}
