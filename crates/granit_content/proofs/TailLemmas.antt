-- What stands behind a lexeme on its line.
use Rattle.std.proofs.Common.{◌≡◌, ℕ, ◌-◌, ◌≤◌, ◌==◌, Bool, true, false, List, length, Some, Result, Ok, Err, refl, sym}
use Rattle.std.proofs.Common.{ap, ◌∙◌, arith}
use Rattle.std.proofs.lemmas.List.{length-drop}
use Rattle.granit_base.specs.Classes.{is_blank}
use Rattle.granit_error.specs.FaultKind.{CommentNotSeparated}
use Rattle.granit_runs.specs.Runs.{run_length, starts}
use Rattle.granit_runs.proofs.RunLemmas.{run_within}
use Rattle.granit_lexemes.specs.Basics.{count_up_to}
use Rattle.granit_lexemes.specs.Comment.{CommentRead, comment}
use Rattle.granit_lexemes.specs.Here.{Here, text_len, next_char, mark_of, past}
use Rattle.granit_lexemes.specs.Moves.{steps}
use Rattle.granit_lexemes.specs.Outcome.{Fault, fault_at, ◌>>=◌}
use Rattle.granit_lexemes.specs.Tail.{tail_behind, tail_at}
use Rattle.granit_quoted.proofs.SeenQuoted.{steps_text}
use Rattle.granit_cursor.specs.Reading.{coded}
use Rattle.granit_cursor.proofs.MoveLemmas.{steps_past}
use Rattle.granit_content.specs.Reads.{Nothing, seen, seen_comment}

-- ---- a run that is taken whole

pub run_lands : (test : ℕ → Bool) (n : ℕ) (h : Here) → n ≡ run_length (starts test) h.unread.text
    → steps n h ≡ past test h
run_lands test n h is = ap (λ (m : ℕ). steps m h) is ∙ steps_past test h

count_is : (n : ℕ) (h : Here) → n ≤ text_len h → count_up_to h (steps n h) ≡ n
count_is n h fits =
    let e : text_len (steps n h) ≡ text_len h - n = ap (λ (t : List ℕ). length t) (steps_text n h)
    ∙ length-drop n h.unread.text in
    omega (arith, e)

run_count : (test : ℕ → Bool) (n : ℕ) (h : Here) → n ≡ run_length (starts test) h.unread.text
    → count_up_to h (past test h) ≡ n
run_count test n h is =
    let fits : n ≤ text_len h = let le = run_within (starts test) h.unread.text in omega (arith, is) in
    sym (ap (count_up_to h) (run_lands test n h is)) ∙ count_is n h fits

-- ---- a comment behind the blanks, or none

with_it : (asked : Bool) (r : Result (CommentRead × Here) Fault)
    → coded (seen asked) (r >>= λ x. Ok (Some x.0, x.1)) ≡ coded (seen_comment asked) r
with_it asked (Ok x) = refl
with_it asked (Err f) = refl

module _ (asked : Bool) (n : ℕ) (h : Here) (is : n ≡ run_length (starts is_blank) h.unread.text) where
  count : (b : Bool) → (n == 0) ≡ b → (count_up_to h (past is_blank h) == 0) ≡ b
  count b e = ap (λ (m : ℕ). m == 0) (run_count is_blank n h is) ∙ e

  pub no_comment : (next_char (past is_blank h) == 0x23) ≡ false
      → coded (seen asked) (tail_at h) ≡ Ok (Nothing, past is_blank h)
  unfolding tail_behind
  no_comment y = rw y refl

  pub comment_touches : (next_char (past is_blank h) == 0x23) ≡ true → (n == 0) ≡ true
      → coded (seen asked) (tail_at h) ≡ Err (fault_at CommentNotSeparated (mark_of (past is_blank h)))
  unfolding tail_behind
  comment_touches y e = rw (y, count true e) refl

  pub comment_stands : (next_char (past is_blank h) == 0x23) ≡ true → (n == 0) ≡ false
      → coded (seen asked) (tail_at h) ≡ coded (seen_comment asked) (comment (past is_blank h))
  unfolding tail_behind
  comment_stands y e = rw (y, count false e) (with_it asked (comment (past is_blank h)))
