-- What the code reads behind a header on its line.
use Rattle.std.proofs.Common.{◌≡◌, ℕ, ◌==◌, Bool, true, false, Option, Some, None, Result, Ok, Err, refl, ap, ap₂, ◌∙◌}
use Rattle.granit_base.specs.Classes.{is_blank}
use Rattle.granit_error.specs.FaultKind.{CommentNotSeparated}
use Rattle.granit_runs.specs.Runs.{run_length, starts}
use Rattle.granit_lexemes.specs.Comment.{CommentRead}
use Rattle.granit_lexemes.specs.Here.{Here, next_char, mark_of, past}
use Rattle.granit_lexemes.specs.LayoutData.{LayoutData}
use Rattle.granit_lexemes.specs.Outcome.{Fault, fault_at, ◌>>=◌}
use Rattle.granit_blocks.proofs.BlockHeads.{tail_on, tail_at_is}
use Rattle.granit_cursor.specs.declared.token.Token.{Token}
use Rattle.granit_scalars.proofs.Comments.{with_note}
use Rattle.granit_block.specs.BlockCode.{asked_note, note_at, noted_tail}
use Rattle.granit_block.proofs.LineLemmas.{run_count}

abbrev noted_on : LayoutData → Result (Option CommentRead × Here) Fault → Result (Option Token × Here) Fault
noted_on at r = r >>= λ x. Ok (asked_note at x.0, x.1)

module _ (at : LayoutData) (n : ℕ) (h : Here) (is : n ≡ run_length (starts is_blank) h.unread.text) where
  by_tests : (hash near : Bool) → (next_char (past is_blank h) == 0x23) ≡ hash → (n == 0) ≡ near
      → noted_tail at h ≡ noted_on at (tail_on (past is_blank h) hash near)
  by_tests hash near y e =
      ap (noted_on at) (tail_at_is h ∙ ap₂ (tail_on (past is_blank h)) y
      (ap (λ (m : ℕ). m == 0) (run_count is_blank n h is) ∙ e))

  pub no_note : (next_char (past is_blank h) == 0x23) ≡ false → noted_tail at h ≡ Ok (None, past is_blank h)
  no_note y = by_tests false (n == 0) y refl

  pub note_touches : (next_char (past is_blank h) == 0x23) ≡ true → (n == 0) ≡ true
      → noted_tail at h ≡ Err (fault_at CommentNotSeparated (mark_of (past is_blank h)))
  note_touches y e = by_tests true true y e

  note_of : (r : Result (CommentRead × Here) Fault)
      → noted_on at (with_note r) ≡ (r >>= λ x. Ok (asked_note at (Some x.0), x.1))
  note_of (Ok x) = refl
  note_of (Err f) = refl

  pub note_stands : (next_char (past is_blank h) == 0x23) ≡ true → (n == 0) ≡ false
      → noted_tail at h ≡ note_at at (past is_blank h)
  note_stands y e = by_tests true false y e ∙ note_of _
