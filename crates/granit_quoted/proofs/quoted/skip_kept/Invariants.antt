use Rattle.std.proofs.Common.{◌≡◌, ◌+◌, ℕ}
use Rattle.granit_runs.specs.Runs.{run_length, starts}
use Rattle.granit_lexemes.specs.Here.{Here}
use Rattle.granit_lexemes.specs.Moves.{steps}
use Rattle.granit_lexemes.specs.QuotedScalar.{is_kept}
use Rattle.granit_cursor.specs.Reading.{Stands, Moves}
use Rattle.granit_quoted.proofs.quoted.skip_kept.Given as goal

abbrev pub invariant-kept : goal.invariant-kept
invariant-kept g l = record {
  told : (h : Here) → Stands g.T.Input.unread l.fn.cursor h
      → (m : ℕ) × Stands g.T.Input.unread l.cursor (steps m h)
      × (run_length (starts (is_kept l.single)) h.unread.text
      ≡ m + run_length (starts (is_kept l.single)) (steps m h).unread.text);
  moves : Moves g.T.Input.unread g.T.Input.left g.T.Input.origin l.fn.cursor l.cursor;
}

abbrev pub decreases-kept : goal.decreases-kept
decreases-kept g l = g.T.Input.left l.cursor.input
