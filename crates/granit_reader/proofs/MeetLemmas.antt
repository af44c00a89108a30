-- What a read came to behind its gap.
use Rattle.std.proofs.Common.{◌≡◌, ◌==◌, ◌&&◌, not, Bool, true, false, Option, Some, None, Result, Ok, Err, refl}
use Rattle.std.proofs.Common.{sym, ap, ◌∙◌}
use Rattle.std.specs.Prelude.{if◌then◌else◌, slice_index}
use Rattle.granit_base.specs.Classes.{is_printable}
use Rattle.granit_error.specs.OptionsData.{OptionsData}
use Rattle.granit_error.specs.Refused.{Refused, UnlessMemory}
use Rattle.granit_lexemes.specs.Basics.{is_document_mark}
use Rattle.granit_lexemes.specs.Comment.{CommentRead}
use Rattle.granit_lexemes.specs.Here.{Here, mark_of, next_char, text_len}
use Rattle.granit_machine.specs.Gaps.{GapRead}
use Rattle.granit_machine.specs.Laid.{Laid, is_in_flow}
use Rattle.granit_machine.specs.LexemeSort.{PlacedSort, TextEnd, StartMark, EndMark, Unprintable, DirectiveSign, Placed}
use Rattle.granit_machine.specs.LexemeSort.{sort_at, sort_of}
use Rattle.granit_machine.specs.PossibleKeys.{without_stale}
use Rattle.granit_machine.specs.ReaderState.{ReaderState}
use Rattle.granit_content.specs.Reads.{Kept, Nothing, Passed, seen}
use Rattle.granit_reader.specs.Meets.{MeetsBehind, behind_met}
use Rattle.granit_reader.specs.Reads.{reader_at}
use Rattle.granit_reader.specs.declared.met.Met.{Met}
use Rattle.granit_reader.specs.declared.met.Met.TheVariants as mets
use Rattle.granit_restart.specs.Header.{directive_sort, directive_there, gap_in_directive}

-- ---- what is adjacent is no matter

same_by : (before ends marks starts hides signs : Bool) (p q : PlacedSort)
    → directive_sort before (if ends then TextEnd else if marks then (if starts then StartMark else EndMark)
    else if hides then Unprintable else if signs then DirectiveSign else Placed p)
    ≡ directive_sort before (if ends then TextEnd else if marks then (if starts then StartMark else EndMark)
    else if hides then Unprintable else if signs then DirectiveSign else Placed q)
same_by before true marks starts hides signs p q = refl
same_by before false true true hides signs p q = refl
same_by before false true false hides signs p q = refl
same_by before false false starts true signs p q = refl
same_by before false false starts false true p q = refl
same_by before false false starts false false p q = refl

pub adjacent_or_not : (before in_flow adjacent : Bool) (h : Here)
    → directive_sort before (sort_at in_flow adjacent h) ≡ directive_sort before (sort_at in_flow false h)
unfolding sort_at
adjacent_or_not before in_flow adjacent h =
    let c = next_char h in
    let next = slice_index h.unread.text 1 in
    same_by before (text_len h == 0) (h.place.column == 0 && is_document_mark h.unread.text) (c == 0x2D)
    (not (is_printable c)) (h.place.column == 0 && c == 0x25) (sort_of in_flow adjacent c next)
    (sort_of in_flow false c next)

-- ---- by what stands behind the gap

module _ (o : OptionsData) where
  pub meets_refused : (given : GapRead) (e : Refused) → given ≡ Err e → MeetsBehind o mets.Nothing given
  meets_refused given e is = λ before. ap (gap_in_directive o before) (sym is)

  pub meets_passed : (asked : Bool) (t : Option CommentRead) (s : ReaderState) → Passed ≡ seen asked t
      → MeetsBehind o mets.Nothing (Ok (t, s))
  meets_passed asked None s is = absurd cc
  meets_passed asked (Some c) s is = λ before. refl

  pub meets_kept : (asked : Bool) (t : Option CommentRead) (c : CommentRead) (s : ReaderState) → Kept c ≡ seen asked t
      → MeetsBehind o mets.Nothing (Ok (t, s))
  meets_kept asked None c s is = absurd cc
  meets_kept asked (Some d) c s is = λ before. refl

  -- behind a gap that is known
  pub meets_there : (met : Met) (given : GapRead) (t : Option CommentRead) (one two : ReaderState)
      → given ≡ Ok (t, one) → one ≡ two → MeetsBehind o met (Ok (t, two)) → MeetsBehind o met given
  meets_there met given t one two is same meets = λ before.
      meets before ∙ ap (gap_in_directive o before) (ap (λ (s : ReaderState). Ok (t, s)) (sym same) ∙ sym is)

  nothing_seen : (asked : Bool) (t : Option CommentRead) → Nothing ≡ seen asked t → t ≡ None
  nothing_seen asked None is = refl
  nothing_seen true (Some c) is = absurd cc
  nothing_seen false (Some c) is = absurd cc

  module _ (asked : Bool) (t : Option CommentRead) (h : Here) (l : Laid) (nothing : Nothing ≡ seen asked t) where
    there_is : (before : Bool) → directive_there before h (without_stale o (mark_of h) l)
        ≡ gap_in_directive o before (Ok (t, reader_at h l))
    there_is before =
        ap (λ (x : Option CommentRead). gap_in_directive o before (Ok (x, reader_at h l)))
        (sym (nothing_seen asked t nothing))

    pub meets_stale : (e : Refused) → without_stale o (mark_of h) l ≡ Err e
        → MeetsBehind o mets.Nothing (Ok (t, reader_at h l))
    meets_stale e is = λ before. ap (directive_there before h) (sym is) ∙ there_is before

    pub meets_lexeme : (met : Met) (after : Laid) → without_stale o (mark_of h) l ≡ Ok after
        → ((before : Bool) → behind_met met before ≡ directive_sort before (sort_at (is_in_flow after) false h))
        → MeetsBehind o met (Ok (t, reader_at h l))
    meets_lexeme met after is meets = λ before.
        meets before ∙ ap (directive_there before h) (sym is) ∙ there_is before

-- whatever was answered
pub unless_memory : {X : Type 0} (r : Result X Refused) (Holds : Type 0) → Holds → UnlessMemory r Holds
unless_memory (Ok x) Holds holds = holds
unless_memory (Err e) Holds holds = λ other. holds
