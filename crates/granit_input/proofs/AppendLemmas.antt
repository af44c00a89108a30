-- Characters that were appended.
use Rattle.std.proofs.Common.{◌≡◌, ℕ, ◌+◌, ◌<◌, Bool, List, [], ◌∷◌, ◌++◌, length, take, drop, sym, ap, subst, ◌∙◌}
use Rattle.std.proofs.Common.{append_assoc, arith}
use Rattle.std.proofs.lemmas.List.{append-nil}
use Rattle.granit_base.specs.Place.{Unread, first}
use Rattle.granit_runs.specs.Chunks.{Extends, BreaksOff}
use Rattle.granit_input.proofs.UnreadLemmas.{past_none}
use Rattle.granit_runs.proofs.WhiteLemmas.{take_more}

pub extends_none : (before : List ℕ) → Extends before before
extends_none before = record { added = []; is = sym (append-nil before) }

pub extends_more : (before now after more : List ℕ) → Extends before now → after ≡ now ++ more → Extends before after
extends_more before now after more so_far is =
    record {
      added = so_far.added ++ more;
      is = is ∙ ap (λ (cs : List ℕ). cs ++ more) so_far.is
          ∙ append_assoc before so_far.added more;
    }

-- the characters so far, and the next one
pub appended_more : (now after front : List ℕ) (count : ℕ) (text : List ℕ) (c : ℕ) → after ≡ now ++ c ∷ []
    → now ≡ front ++ take count text → 0 < length (drop count text)
    → c ≡ first (drop count text) → after ≡ front ++ take (count + 1) text
appended_more now after front count text c more so_far some is =
    let next : take (count + 1) text ≡ take count text ++ c ∷ [] = take_more count text some
    ∙ ap (λ (x : ℕ). take count text ++ x ∷ []) (sym is) in
    rw (more, next, so_far) (append_assoc front (take count text) (c ∷ []))

-- nothing was taken, and nothing appended
pub breaks_at_once : (test : List ℕ → Bool) (u : Unread) (Lands : Unread → Type 0) (before after : List ℕ) → Lands u
    → after ≡ before → BreaksOff test u Lands before after
breaks_at_once test u Lands before after here same =
    record {
      count = 0;
      fits = omega arith;
      lands = subst Lands (sym (past_none u)) here;
      appended = same
          ∙ sym (append-nil before);
    }
