-- A quoted scalar that stands somewhere is the only one there, and is answered.
use Rattle.std.proofs.Common.{◌≡◌, ℕ, Bool, false, List, [], ◌++◌, Result, Ok, refl, sym, ap, ap₂, ◌∙◌, append_assoc}
use Rattle.std.proofs.Common.{append-nil}
use Rattle.std.proofs.lemmas.List.{append_cancel_right}
use Rattle.granit_base.specs.Written.{Written}
use Rattle.granit_lexemes.proofs.HereLemmas.{stepped_text}
use Rattle.granit_lexemes.specs.Here.{Here, mark_of, step}
use Rattle.granit_lexemes.specs.LayoutData.{LayoutData}
use Rattle.granit_lexemes.specs.Outcome.{Fault, ◌>>=◌}
use Rattle.granit_lexemes.specs.Pieces.{with_front}
use Rattle.granit_lexemes.specs.PlainExtent.{over}
use Rattle.granit_lexemes.specs.QuotedExtent.{quoted_end, quoted_value, AnswersQuoted}
use Rattle.granit_lexemes.specs.QuotedScalar.{QuotedState, QuotedRead, quote_char, between_quoted, quoted_at}
use Rattle.granit_lexemes.specs.QuotedScalar.{quoted_read, quoted_text, quoted_tail, quoted_scalar, quoted_rest}
pub use Rattle.granit_scalars.proofs.QuotedEscapes.{over_text}
use Rattle.granit_quoted_laws.proofs.QuotedForms.{QuotedForm, FormStands, form_value}
use Rattle.granit_quoted_laws.proofs.QuotedRuns.{inside_runs, closes}
use Rattle.granit_quoted_laws.proofs.QuotedTail.{tail_answers}
pub use Rattle.granit_scalars.proofs.Stepping.{over-append}
use Rattle.granit_quoted_laws.proofs.Verbatim.{text_is}

abbrev pub run : Bool → LayoutData → Here → Result (List ℕ × QuotedState) Fault
run single at h = quoted_rest single at (mark_of h) (quoted_at false (step h))

-- what is read between the quotes
pub record Body (single : Bool) (at : LayoutData) (h : Here) (x : QuotedForm) : Type 0 where
  pub after : QuotedState
  pub text : List ℕ
  pub gives : run single at h ≡ Ok (text, after)
  pub here : after.here ≡ over (x.source ++ x.gap) (step h)
  pub behind : after.here.unread.text ≡ x.rest
  pub spells : text ++ between_quoted after ≡ form_value x

pub body : (single : Bool) (at : LayoutData) (h : Here) (x : QuotedForm) → FormStands single at h x
    → Body single at h x
body single at h x p =
    let front = p.front in
    let there : (step h).unread.text ≡ x.source ++ (x.gap ++ x.rest) = stepped_text h (quote_char single)
    (x.source ++ (x.gap ++ x.rest)) front.whole in
    let past = over x.source (step h) in
    let up = closes single at (mark_of h) x.left past front.separated
    (over_text x.source (x.gap ++ x.rest) (step h) there) p.closing p.placed in
    let lands : up.after.here ≡ over (x.source ++ x.gap) (step h) =
    up.here ∙ sym (over-append x.source x.gap (step h)) in
    record {
      after = up.after;
      text = x.value ++ [];
      gives = inside_runs single at (mark_of h) front.inside (step h) there ∙ ap (with_front x.value) up.gives;
      here = lands;
      behind = ap (λ (g : Here). g.unread.text) lands
          ∙ over_text (x.source ++ x.gap) x.rest (step h) (there ∙ sym (append_assoc x.source x.gap x.rest));
      spells = ap₂ (λ (s t : List ℕ). s ++ t) (append-nil x.value) up.between;
    }

pub answer_of : (single : Bool) (at : LayoutData) (h : Here) (given : Result (List ℕ
    × QuotedState) Fault) (text : List ℕ) (last : QuotedState) → given ≡ Ok (text, last)
    → (given >>= λ x. quoted_tail single at (mark_of h) (quoted_text single (step h) (x.0 ++ between_quoted x.1))
    (step x.1.here))
    ≡ quoted_tail single at (mark_of h) (quoted_text single (step h) (text ++ between_quoted last)) (step last.here)
answer_of single at h given text last e = rw e refl

-- a scalar that nothing refuses is answered
pub quoted_is_answered : (single : Bool) (at : LayoutData) (h : Here) (read : QuotedRead) (after : Here)
    → AnswersQuoted single at h read after → quoted_scalar single at h ≡ Ok (read, after)
unfolding quoted_scalar
quoted_is_answered single at h read after p =
    let x : QuotedForm = record {
      source = p.source;
      value = p.value;
      gap = p.gap;
      left = p.left;
      between = p.between;
      rest = p.rest;
    } in
    let b = body single at h x p.stands in
    let end = quoted_end single h p.source p.gap in
    let value = quoted_value p.value p.left p.between in
    answer_of single at h (run single at h) b.text b.after b.gives
    ∙ ap₂ (λ (v : List ℕ) (g : Here). quoted_tail single at (mark_of h) (quoted_text single (step h) v) g) b.spells
    (ap step b.here)
    ∙ tail_answers single at (mark_of h) (quoted_text single (step h) value) end p.noted after p.trails
    ∙ ap (λ (t : Written). Ok (quoted_read single (mark_of h) t (mark_of end) p.noted, after))
    (text_is single h p.source p.value p.gap p.left p.between p.rest p.stands value)
    ∙ ap (λ (r : QuotedRead). Ok (r, after)) (sym p.answer)

abbrev answer : List ℕ → QuotedState → Result (List ℕ × QuotedState) Fault
answer text last = Ok (text, last)

abbrev both : List ℕ → QuotedState → List ℕ × QuotedState
both text last = (text, last)

same_body : (given : Result (List ℕ × QuotedState) Fault) (text other : List ℕ) (last after : QuotedState)
    → given ≡ answer text last → given ≡ answer other after → (text ≡ other) × (last ≡ after)
same_body given text other last after e f =
    let g : answer text last ≡ answer other after = sym e ∙ f in
    let p : both text last ≡ both other after = cc in
    (ap (λ (x : List ℕ × QuotedState). x.0) p, ap (λ (x : List ℕ × QuotedState). x.1) p)

form_text : (single : Bool) (at : LayoutData) (h : Here) (x : QuotedForm) → FormStands single at h x
    → (step h).unread.text ≡ (x.source ++ x.gap) ++ x.rest
form_text single at h x p = stepped_text h (quote_char single) (x.source ++ (x.gap ++ x.rest)) p.front.whole
    ∙ sym (append_assoc x.source x.gap x.rest)

-- what stands between the quotes, what it spells, and what stands behind it are known by where it stands
pub one_quoted : (single : Bool) (at : LayoutData) (h : Here) (x y : QuotedForm) → FormStands single at h x
    → FormStands single at h y
    → (x.source ++ x.gap ≡ y.source ++ y.gap) × (form_value x ≡ form_value y) × (x.rest ≡ y.rest)
one_quoted single at h x y p q =
    let a = body single at h x p in
    let b = body single at h y q in
    let s = same_body (run single at h) a.text b.text a.after b.after a.gives b.gives in
    let same_rest : x.rest ≡ y.rest = sym a.behind ∙ ap (λ (t : QuotedState). t.here.unread.text) s.1 ∙ b.behind in
    let joined : (x.source ++ x.gap) ++ x.rest ≡ (y.source ++ y.gap) ++ x.rest = sym (form_text single at h x p)
    ∙ form_text single at h y q
    ∙ ap (λ (t : List ℕ). (y.source ++ y.gap) ++ t) (sym same_rest) in (
      append_cancel_right (x.source ++ x.gap) (y.source ++ y.gap) x.rest joined,
      sym a.spells ∙ ap₂ (λ (t : List ℕ) (l : QuotedState). t ++ between_quoted l) s.0 s.1 ∙ b.spells,
      same_rest,
    )
