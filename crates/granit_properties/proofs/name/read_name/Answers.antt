use Rattle.std.proofs.Common.{◌≡◌, ◌==◌, ℕ, List, true, false, length, refl, sym, ap, ◌∙◌}
use Rattle.std.proofs.lemmas.Result.{err_from_is_err_and}
use Rattle.granit_base.specs.Written.{Written}
use Rattle.granit_lexemes.specs.Here.{step}
use Rattle.granit_lexemes.proofs.HereLemmas.{step_lends}
use Rattle.granit_properties.proofs.NameLemmas.{past_name, name_fails, name_given}
use Rattle.granit_properties.proofs.name.read_name.Goals as goal

pub returns-in_err-name-clause-here : goal.returns-in_err-name-clause-here
returns-in_err-name-clause-here g c = λ h k.
    let p = err_from_is_err_and c.from_residual.result c.from_residual.ensures.1 in
    rw (p.1, p.2) (λ other. absurd (other (c.in_err-name.ensures.here (step h) (c.step.ensures.here h k))))

pub returns-then-is_at_end-clause-here : goal.returns-then-is_at_end-clause-here
returns-then-is_at_end-clause-here g c = λ h k.
    let taken = c.in_ok-name.ensures.here (step h) (c.step.ensures.here h k) in
    let name = c.in_ok-name.name in
    let is = ap (λ (w : Written). w.characters) taken.1 in
    let none : (length name.characters == 0) ≡ true = ap (λ (t : List ℕ). length t == 0) (sym c.as_str.ensures)
    ∙ sym c.is_at_end.ensures.value ∙ c.if-is_at_end.true in
    λ other. rw (c.from_kind.ensures, c.mark-start.ensures.here h k)
    (name_fails c.args.alias h name.characters is none)

pub returns-clause-here : goal.returns-clause-here
returns-clause-here g c = λ h k.
    let taken = c.in_ok-name.ensures.here (step h) (c.step.ensures.here h k) in
    let name = c.in_ok-name.name in
    let some : (length name.characters == 0) ≡ false = ap (λ (t : List ℕ). length t == 0) (sym c.as_str.ensures)
    ∙ sym c.is_at_end.ensures.value ∙ c.if-is_at_end.false in
    let start = c.mark-start.ensures.here h k in
    let end = c.mark.ensures.here (past_name h) taken.0 in (
      past_name h,
      taken.0,
      name_given c.args.alias h name c.new-2.result taken.1 some
          (rw (c.new-2.ensures, c.new.ensures, start, end, c.name_type-token_type.ensures) refl),
    )

pub returns-in_err-name-clause-lent : goal.returns-in_err-name-clause-lent
returns-in_err-name-clause-lent g c = λ h k lends.
    let p = err_from_is_err_and c.from_residual.result c.from_residual.ensures.1 in
    rw (p.1, p.2) (c.in_err-name.ensures.lent (step h) (c.step.ensures.here h k) (step_lends h ∙ lends))

pub returns-then-is_at_end-clause-lent : goal.returns-then-is_at_end-clause-lent
returns-then-is_at_end-clause-lent g c = λ h k lends. rw c.from_kind.ensures (λ wanted. cc)
