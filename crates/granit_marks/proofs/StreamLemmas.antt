-- The end and document marks, where they are taken or refused.
use Rattle.std.proofs.Common.{◌≡◌, Bool, true, false, Option, Result, Ok, Err, inl, inr, refl, ap, ◌∙◌}
use Rattle.std.proofs.lemmas.Bool.{cases_Bool}
use Rattle.granit_base.specs.Classes.{is_breakz}
use Rattle.granit_lexemes.specs.Comment.{CommentRead}
use Rattle.granit_lexemes.specs.Here.{Here, next_char, mark_of}
use Rattle.granit_lexemes.specs.Lexeme.{DocumentEnd, StreamEnd, Lexeme}
use Rattle.granit_lexemes.specs.Moves.{steps}
use Rattle.granit_lexemes.specs.Outcome.{Fault, ◌>>=◌}
use Rattle.granit_lexemes.specs.Tail.{tail_at}
use Rattle.granit_machine.specs.Columns.{ends_all}
use Rattle.granit_machine.specs.Laid.{Laid}
use Rattle.granit_machine.specs.PossibleKeys.{drop_key}
use Rattle.granit_machine.specs.ReaderState.{Read, lexeme_to, with_tail, read_to, refuse_open}
use Rattle.granit_machine.specs.StreamLexemes.{behind_end, text_end, behind_end_mark, end_mark_up_to, end_mark}
use Rattle.granit_steps.specs.Steps.{incoming}
use Rattle.granit_cursor.specs.Reading.{coded}
use Rattle.granit_cursor.proofs.GivenLemmas.{same_ok}
use Rattle.granit_content.specs.Reads.{Seen, seen, comment_kept}
use Rattle.granit_marks.specs.StreamReads.{refuse_more}
use Rattle.granit_content.proofs.ItemLemmas.{read_untailed, read_seen}

pub end_given : (asked : Bool) (h : Here) (l m : Laid) (u : Unit {0}) → refuse_open l.brackets ≡ Ok u
    → drop_key l ≡ Ok m → coded (incoming asked) (text_end h l)
    ≡ read_to (lexeme_to (ends_all l) StreamEnd (mark_of h) h l) h (behind_end m)
end_given asked h l m u none dropped = rw (none, dropped)
    (read_untailed asked (lexeme_to (ends_all l) StreamEnd (mark_of h) h l) h (behind_end m) refl)

-- ---- `...`

-- the line ends behind it, and then it is read
line_ends : (x : Lexeme) (l : Laid) (tail : Option CommentRead) (h : Here)
    → end_mark_up_to x l tail h ≡ (refuse_more h >>= λ u. read_to (with_tail x tail) h (behind_end_mark l))
unfolding end_mark_up_to
line_ends x l tail h =
    elim (cases_Bool (is_breakz (next_char h))) [
      | inl held ↦ rw held refl
      | inr failed ↦ rw failed refl
    ]

module _ (asked : Bool) (x : Lexeme) (l : Laid) where
  seen_mark : (r : Result (Option CommentRead × Here) Fault) (s : Seen) (after : Here)
      → coded (seen asked) r ≡ Ok (s, after)
      → coded (incoming asked) (r >>= λ y. end_mark_up_to x l y.0 y.1)
      ≡ (refuse_more after >>= λ u. read_to (with_tail x (comment_kept s)) after (behind_end_mark l))
  seen_mark (Ok y) s after is =
      let same = same_ok (seen asked y.0, y.1) (s, after) is in
      ap (coded (incoming asked)) (line_ends x l y.0 y.1) ∙ kept_mark y.0 y.1 (refuse_more y.1)
      ∙ ap (λ (p : Seen × Here). refuse_more p.1 >>= λ u. read_to (with_tail x (comment_kept p.0))
      p.1 (behind_end_mark l))
      same
    where
      kept_mark : (tail : Option CommentRead) (h : Here) (more : Result (Unit {0}) Fault)
          → coded (incoming asked) (more >>= λ u. read_to (with_tail x tail) h (behind_end_mark l))
          ≡ (more >>= λ u. read_to (with_tail x (comment_kept (seen asked tail))) h (behind_end_mark l))
      kept_mark tail h (Ok u) = read_seen asked x tail h (behind_end_mark l)
      kept_mark tail h (Err f) = refl
  seen_mark (Err f) s after is = absurd cc

pub mark_seen : (asked ends : Bool) (h : Here) (l : Laid) (s : Seen) (after : Here)
    → coded (seen asked) (tail_at (steps 3 h)) ≡ Ok (s, after)
    → coded (incoming asked) (end_mark ends h l)
    ≡ (refuse_more after >>= λ u. read_to (with_tail
    (lexeme_to ends DocumentEnd (mark_of (steps 3 h)) h l) (comment_kept s))
    after (behind_end_mark l))
mark_seen asked ends h l s after is = seen_mark asked (lexeme_to ends DocumentEnd (mark_of (steps 3 h)) h l) l
    (tail_at (steps 3 h)) s after is
