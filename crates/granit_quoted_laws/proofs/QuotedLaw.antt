-- The plain function answers the quoted scalar that stands there, or refuses it with its cause.
pub use Rattle.granit_scalars.proofs.PlainOnce.{is_answered, is_refused, is_standing}
pub use Rattle.granit_scalars.proofs.Comments.{with_note}
pub use Rattle.granit_scalars.proofs.CommentCauses.{comment_wrong}
use Rattle.std.proofs.Common.{◌≡◌, ℕ, ◌==◌, Bool, true, false, List, [], ◌∷◌, ◌++◌, Result, Ok, Err, refl, ap, ap₂, ◌∙◌}
use Rattle.std.proofs.Common.{subst}
use Rattle.granit_base.specs.Written.{Written}
use Rattle.granit_lexemes.specs.Here.{Here, next_char, mark_of, step}
use Rattle.granit_lexemes.specs.LayoutData.{LayoutData}
use Rattle.granit_lexemes.specs.Outcome.{Fault, ◌>>=◌}
use Rattle.granit_lexemes.specs.Pieces.{pieces}
use Rattle.granit_lexemes.specs.QuotedExtent.{Blanks, Trails, AnswersQuoted, WrongInside, WrongBehind}
use Rattle.granit_lexemes.specs.QuotedExtent.{RefusesQuoted, inside, behind}
use Rattle.granit_lexemes.specs.QuotedScalar.{QuotedState, QuotedRead, quote_char, quoted_at, between_quoted}
use Rattle.granit_lexemes.specs.QuotedScalar.{quoted_turn, quoted_len, quoted_read, quoted_text}
use Rattle.granit_lexemes.specs.QuotedScalar.{quoted_tail, quoted_scalar}
use Rattle.granit_quoted_laws.proofs.QuotedForms.{QuotedForm, FrontStands, FormStands, form_value, end_of_form}
use Rattle.granit_quoted_laws.proofs.QuotedKept.{quoted_fresh}
use Rattle.granit_quoted_laws.proofs.QuotedReads.{QuotedFinds, up_to_quote, QuotedReads, quoted_reads}
use Rattle.granit_quoted_laws.proofs.QuotedTail.{TailReads, tail_reads}
pub use Rattle.granit_scalars.proofs.Stepping.{seen}
use Rattle.granit_quoted_laws.proofs.Verbatim.{text_is}

abbrev pub QuotedAnswered : Bool → LayoutData → Here → Result (QuotedRead × Here) Fault → Type 0
QuotedAnswered single at h (Ok (read, after)) = AnswersQuoted single at h read after
QuotedAnswered single at h (Err f) = RefusesQuoted single at h f.kind f.mark

no_quote_nul : (single : Bool) → (0 == quote_char single) ≡ false
no_quote_nul true = refl
no_quote_nul false = refl

same_quote : (single : Bool) → (quote_char single == quote_char single) ≡ true
same_quote true = refl
same_quote false = refl

pub quote_seen : (single : Bool) (h : Here) → next_char h ≡ quote_char single
    → h.unread.text ≡ quote_char single ∷ (step h).unread.text
quote_seen single h y =
    let s = seen (λ c. c == quote_char single) h (no_quote_nul single)
    (ap (λ c. c == quote_char single) y ∙ same_quote single) in
    s.is ∙ ap (λ c. c ∷ (step h).unread.text) y

front_of : (single : Bool) (at : LayoutData) (h : Here) → next_char h ≡ quote_char single
    → {x : QuotedForm} → QuotedFinds single at false (step h) x → FrontStands single at h x
front_of single at h y f = record {
  whole = quote_seen single h y
      ∙ ap (λ (t : List ℕ). quote_char single ∷ t) f.whole;
  inside = f.inside;
  separated = f.separated;
}

with_tail : (single : Bool) (at : LayoutData) (h : Here) (x : QuotedForm) (text : List ℕ) (end : Here)
    → FormStands single at h x → text ≡ form_value x → end ≡ end_of_form single h x
    → (given : Result (QuotedRead × Here) Fault)
    → TailReads single at (mark_of h) (quoted_text single (step h) text) end given
    → QuotedAnswered single at h given
with_tail single at h x text end stands e f (Ok (read, after)) t = record {
  source = x.source;
  value = x.value;
  gap = x.gap;
  left = x.left;
  between = x.between;
  rest = x.rest;
  noted = t.0;
  stands = stands;
  trails = subst (λ (g : Here). Trails at (mark_of h) g t.0 after) f t.1;
  answer = t.2 ∙ ap₂ (λ (v : List ℕ) (g : Here). quoted_read single (mark_of h) (quoted_text single (step h) v)
      (mark_of g) t.0) e f
      ∙ ap (λ (v : Written). quoted_read single (mark_of h) v (mark_of (end_of_form single h x)) t.0)
      (text_is single h x.source x.value x.gap x.left x.between x.rest stands (form_value x));
}
with_tail single at h x text end stands e f (Err g) t =
    behind x.source x.value x.gap x.left x.between x.rest stands
    (subst (λ (i : Here). WrongBehind single at (mark_of h) i g.kind g.mark) f t)

run_answers : (single : Bool) (at : LayoutData) (h : Here) → next_char h ≡ quote_char single
    → (run : Result (List ℕ × QuotedState) Fault) → QuotedReads single at (mark_of h) (quoted_at false (step h)) run
    → QuotedAnswered single at h (run >>= λ x. quoted_tail single at (mark_of h)
    (quoted_text single (step h) (x.0 ++ between_quoted x.1)) (step x.1.here))
run_answers single at h y (Ok (text, last)) reading =
    let r = reading [] (Blanks []) (step h) (quoted_fresh at false (step h)) in
    let x = up_to_quote r.source r.value r.gap r.x last in
    let stands : FormStands single at h x =
    record { front = front_of single at h y r.finds; closing = r.closing; placed = r.placed } in
    with_tail single at h x (text ++ between_quoted last)
    (step last.here) stands r.value_is (ap step r.place)
    (quoted_tail single at (mark_of h) (quoted_text single (step h) (text ++ between_quoted last)) (step last.here))
    (tail_reads single at (mark_of h) (quoted_text single (step h) (text ++ between_quoted last)) (step last.here))
run_answers single at h y (Err f) reading =
    let r = reading [] (Blanks []) (step h) (quoted_fresh at false (step h)) in
    let x = r.form in
    inside x.source x.value x.gap x.left x.between x.rest (front_of single at h y r.finds)
    (subst (λ (g : Here). WrongInside single at (mark_of h) x.left x.between x.rest g f.kind f.mark)
    r.place_is r.wrong)

-- where its quote stands, the plain function answers what stands there
pub quoted_answered : (single : Bool) (at : LayoutData) (h : Here) → next_char h ≡ quote_char single
    → QuotedAnswered single at h (quoted_scalar single at h)
unfolding quoted_scalar
quoted_answered single at h y = run_answers single at h y
    (pieces quoted_len (quoted_turn single at (mark_of h)) (quoted_at false (step h)))
    (quoted_reads single at (mark_of h) (quoted_at false (step h)))

-- an answer is what stands there
pub quoted_standing : (single : Bool) (at : LayoutData) (h : Here) (read : QuotedRead) (after : Here)
    → next_char h ≡ quote_char single → quoted_scalar single at h ≡ Ok (read, after)
    → AnswersQuoted single at h read after
quoted_standing single at h read after y e = subst (QuotedAnswered single at h) e (quoted_answered single at h y)

-- a refusal has its cause
pub quoted_refused : (single : Bool) (at : LayoutData) (h : Here) (f : Fault) → next_char h ≡ quote_char single
    → quoted_scalar single at h ≡ Err f → RefusesQuoted single at h f.kind f.mark
quoted_refused single at h f y e = subst (QuotedAnswered single at h) e (quoted_answered single at h y)
