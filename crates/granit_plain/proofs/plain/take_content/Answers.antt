use Rattle.std.proofs.Common.{◌≡◌, ℕ, List, [], ◌∷◌, ◌++◌, take, refl, ap, ap₂, ◌∙◌}
use Rattle.granit_lexemes.specs.Here.{next_char, step}
use Rattle.granit_lexemes.specs.Moves.{steps}
use Rattle.granit_cursor.proofs.MoveLemmas.{cleared}
use Rattle.granit_plain.specs.PlainTaken.{PlainTaken}
use Rattle.granit_plain.proofs.plain.take_content.Goals as goal

pub returns-clause-here : goal.returns-clause-here
returns-clause-here g c = λ h k.
    let between = ap (λ (p : PlainTaken). p.value) c.parts.view_is ∙ c.in_ok-push_between.ensures.value h in
    let looked = c.look.ensures.here h k in
    let seen : c.peek.result ≡ next_char h = c.peek.ensures.value h.unread (rw c.input.ensures looked.0) in
    let stepped = c.step.ensures.here h looked in
    let taken = c.in_ok-fetch_plain_words.ensures.here (step h) stepped in
    let n = c.in_ok-fetch_plain_words.field-0 in
    let end = c.mark-parts-inside.ensures.here (steps n (step h)) taken.0.1 in
    let none = cleared c.clear.new.self c.clear.ensures.bytes in (
      n,
      taken.0.0,
      taken.0.1,
      taken.1 ∙ ap (λ (cs : List ℕ). cs ++ take n (step h).unread.text)
          (c.in_ok-push_char.ensures.appended ∙ ap₂ (λ (v : List ℕ) (x : ℕ). v ++ x ∷ []) between seen),
      rw (end, none) refl,
    )
