-- What the items of a read are, where comments are asked for or not.
use Rattle.std.proofs.Common.{◌≡◌, Bool, true, false, [], ◌∷◌, Option, Some, None, Result, Ok, Err, refl, sym, ap}
use Rattle.std.proofs.Common.{◌∙◌}
use Rattle.granit_error.specs.Refused.{Refused}
use Rattle.granit_lexemes.specs.Comment.{CommentRead}
use Rattle.granit_lexemes.specs.Here.{Here}
use Rattle.granit_lexemes.specs.Lexeme.{Lexeme, OfLexeme}
use Rattle.granit_lexemes.specs.Outcome.{Fault, Fails, ◌>>=◌}
use Rattle.granit_lexemes.specs.Tail.{tail_at}
use Rattle.granit_lexemes.specs.declared.layout.LastLexeme.{LastLexeme}
use Rattle.granit_lexemes.specs.declared.layout.LastLexeme.TheVariants.{Adjacent}
use Rattle.granit_machine.specs.Laid.{Laid}
use Rattle.granit_machine.specs.ReaderState.{with_tail, read_to, given, behind_tail, tailed_by, tailed}
use Rattle.granit_steps.specs.Steps.{incoming}
use Rattle.granit_cursor.specs.Reading.{coded}
use Rattle.granit_cursor.proofs.GivenLemmas.{same_ok}
use Rattle.granit_content.specs.Reads.{Seen, seen, comment_kept, behind_seen}

-- a lexeme with no tail
pub untailed : (asked : Bool) (x : Lexeme) → x.tail ≡ None → incoming asked (OfLexeme x ∷ []) ≡ OfLexeme x ∷ []
untailed true x none = refl
untailed false x none = ap (λ (t : Option CommentRead). OfLexeme (record x { tail = t }) ∷ []) (sym none)

pub read_untailed : (asked : Bool) (x : Lexeme) (h : Here) (l : Laid) → x.tail ≡ None
    → coded (incoming asked) (read_to x h l) ≡ read_to x h l
read_untailed asked x h l none = ap (λ i. Ok (i, record { here = h; laid = l })) (untailed asked x none)

-- a tail as it is seen
pub read_seen : (asked : Bool) (x : Lexeme) (tail : Option CommentRead) (h : Here) (l : Laid)
    → coded (incoming asked) (read_to (with_tail x tail) h l)
    ≡ read_to (with_tail x (comment_kept (seen asked tail))) h l
read_seen true x (Some c) h l = refl
read_seen true x None h l = refl
read_seen false x (Some c) h l = refl
read_seen false x None h l = refl

pub behind_seen_is : (asked : Bool) (last : LastLexeme) (tail : Option CommentRead)
    → behind_tail last tail ≡ behind_seen last (seen asked tail)
behind_seen_is asked Adjacent None = refl
behind_seen_is asked last None = refl
behind_seen_is true Adjacent (Some c) = refl
behind_seen_is true last (Some c) = refl
behind_seen_is false Adjacent (Some c) = refl
behind_seen_is false last (Some c) = refl

module _ (asked : Bool) (x : Lexeme) (last : LastLexeme) (l : Laid) where
  tailed_on : (r : Result (Option CommentRead × Here) Fault) (s : Seen) (after : Here)
      → coded (seen asked) r ≡ Ok (s, after)
      → coded (incoming asked) (r >>= λ y. tailed_by x last l y.0 y.1)
      ≡ given (with_tail x (comment_kept s)) (behind_seen last s) after l
  tailed_on (Ok y) s after is =
      let same = same_ok (seen asked y.0, y.1) (s, after) is in
      ap (λ (t : LastLexeme). coded (incoming asked) (given (with_tail x y.0) t y.1 l)) (behind_seen_is asked last y.0)
      ∙ read_seen asked x y.0 y.1 _
      ∙ ap (λ (p : Seen × Here). given (with_tail x (comment_kept p.0)) (behind_seen last p.0) p.1 l) same
  tailed_on (Err f) s after is = absurd cc

  -- with the tail that is seen
  pub tailed_given : (h : Here) (s : Seen) (after : Here) → coded (seen asked) (tail_at h) ≡ Ok (s, after)
      → coded (incoming asked) (tailed x last h l) ≡ given (with_tail x (comment_kept s)) (behind_seen last s) after l
  unfolding tailed
  tailed_given h s after is = tailed_on (tail_at h) s after is

  fails_on : (r : Result (Option CommentRead × Here) Fault) (e : Refused) → coded (seen asked) r ≡ Err e
      → coded (incoming asked) (r >>= λ y. tailed_by x last l y.0 y.1) ≡ Err e
  fails_on (Ok y) e is = absurd cc
  fails_on (Err f) e is = let same : f ≡ e = cc in ap (λ (d : Fault). Err d) same

  pub tailed_fails : (h : Here) (e : Refused) → Fails e (coded (seen asked) (tail_at h))
      → Fails e (coded (incoming asked) (tailed x last h l))
  unfolding tailed
  tailed_fails h e fails = λ other. fails_on (tail_at h) e (fails other)
