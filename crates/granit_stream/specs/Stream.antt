-- A stream: what its iterator gives is known, its end is not until it was asked for, and no offset is told unless there
-- is a text to lend.
use Rattle.std.specs.Prelude.{◌≡◌, ℕ, Bool, ◌&&◌, if◌then◌else◌, List, ◌++◌, Option}
use Rattle.std.specs.Prelude.{Some, None, is_some}
use Rattle.std.specs.Iterator.{Count}
use Rattle.granit_error.specs.FaultKind.{UnexpectedEof}
use Rattle.granit_buffered.specs.Feeds.{StillGives}
use Rattle.granit_input.specs.Origin.{Origin}

-- the text is what is held, and what the iterator still gives
abbrev pub StreamHolds :
    {S : Type 0} → (S → Option ℕ → S → Type 0) → (S → Count) → Bool → S → List ℕ → List ℕ → Type 0
StreamHolds steps remaining done s front text = (rest : List ℕ) × (text ≡ front ++ rest)
    × StillGives steps remaining done s rest

-- the bytes of what is lent, where something is
abbrev pub lent_bytes : {L : Type 0} → (L → Option (List ℕ)) → Option L → Option (List ℕ)
lent_bytes bytes None = None
lent_bytes bytes (Some lends) = bytes lends

-- where its characters come from: only the text that it lends is sliced, and a source that breaks off has an error,
-- which is met at the end
abbrev pub of_stream : {L : Type 0} → (done breaks_off handed_out : Bool) → (L → Origin) → Option L → Origin
of_stream done breaks_off handed_out origin lends = record {
  sliced = lent_bytes (λ l. (origin l).sliced) lends;
  lent = lent_bytes (λ l. (origin l).lent) lends;
  tells_offset = is_some lends;
  knows_end = done;
  error = if done && breaks_off then Some UnexpectedEof else None;
  handed_out = handed_out;
  floor = 0;
  ends_with = λ f. f ≡ (if breaks_off then Some UnexpectedEof else None);
}
