use Rattle.std.proofs.Common.{◌≡◌, Bool, true, false, Option, None, Some, is_some, IfSome, refl, sym, ◌∙◌}
use Rattle.std.specs.Prelude.{if◌then◌else◌}
use Rattle.granit_error.specs.FaultKind.{FaultKind}
use Rattle.granit_error.specs.Refused.{Refused}
use Rattle.granit_input.specs.Origin.{Origin, Gave, Goes}
use Rattle.granit_stepper.proofs.stepper.Stepper.end_error.Goals as goal

still_given : (handed_out : Bool) (error : Option FaultKind) → handed_out ≡ false
    → (if handed_out then None else error) ≡ error
still_given true error fresh = absurd cc
still_given false error fresh = refl

pub returns-clause-told : goal.returns-clause-told
returns-clause-told g c = λ f ends fresh.
    let passed = c.pass_rest.new.self.scanner.cursor.input in
    let o = g.T.Input.origin passed in
    let goes = c.pass_rest.ensures.goes in
    c.take_source_error.ensures.given
    ∙ still_given o.handed_out o.error (goes.handed_out ∙ fresh)
    ∙ sym (g.met.T.Input.fails passed f c.pass_rest.ensures.ended (goes.ends_with f ends))

-- whether offsets are told never changes
told_before : (a b c : Origin) → Goes a b → Gave b c → (error : Option Refused)
    → IfSome error (λ e. is_some e.mark.byte_offset ≡ c.tells_offset)
    → IfSome error (λ e. is_some e.mark.byte_offset ≡ a.tells_offset)
told_before a b c goes gave None told = tt
told_before a b c goes gave (Some e) told = told ∙ gave.tells_offset ∙ goes.tells_offset

pub returns-clause-offset : goal.returns-clause-offset
returns-clause-offset g c = told_before (g.T.Input.origin c.args.self.now.scanner.cursor.input)
    (g.T.Input.origin c.pass_rest.new.self.scanner.cursor.input)
    (g.T.Input.origin c.take_source_error.new.self.scanner.cursor.input) c.pass_rest.ensures.goes
    c.take_source_error.ensures.origin c.take_source_error.result c.take_source_error.ensures.offset

pub returns-clause-failed : goal.returns-clause-failed
returns-clause-failed g c = rw c.take_source_error.ensures.failed (rw c.pass_rest.ensures.failed refl)
