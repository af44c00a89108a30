-- What calls give behind a boundary is what the text that is left there tells alone, moved.
pub use Rattle.granit_chains.proofs.Telling.{told}
use Rattle.std.proofs.Common.{◌≡◌, ◌≢◌, ℕ, Bool, List, [], ◌∷◌, ◌++◌, Some, None, Ok, Err, ◌⊎◌, inl, inr}
use Rattle.granit_chains.proofs.ChainLaws.{begins_by, caused_by, reads_by}
use Rattle.granit_event.specs.Events.{plain_event}
use Rattle.granit_error.specs.FaultKind.{NoMemory}
use Rattle.granit_error.specs.OptionsData.{OptionsData}
use Rattle.granit_error.specs.Refused.{Refused}
use Rattle.granit_lexemes.specs.Outcome.{Fails}
use Rattle.granit_lexemes.specs.PlainEvent.{PlainEvent}
use Rattle.granit_parser.proofs.TextLemmas.{given_behind, leads_front, leads_more, memory_or_not}
use Rattle.granit_parser.specs.Alone.{BeginsAlone, CausedAlone, EndsAlone}
use Rattle.granit_parser.specs.Parsing.{Next, LeadsTo}
use Rattle.granit_chains.proofs.ChainLaws.{told_alone}
use Rattle.granit_chains.specs.Chains.{TellsMoved, behind_first}
use Rattle.granit_shifted.specs.Shift.{Shift, moved_events, moved_fault_of}
use Rattle.granit_sourced.specs.Giving.{GivesNext}
use Rattle.granit_steps.specs.Steps.{StepState, next_event}
use Rattle.granit_steps.specs.Told.{gives_end, gives_fault, told_of}

module _ (o : OptionsData) (x : List ℕ) (shift : Shift) (s : StepState) (tells : TellsMoved o x shift s) where
  -- the events that lead from there to a state begin the text's stream, moved
  begins_alone : (es : List PlainEvent) (m : StepState) → LeadsTo o s es m → BeginsAlone x shift es
  begins_alone es m leads =
      let p = leads_front o s m es (moved_events shift (behind_first (told_of o x).0))
      (moved_fault_of shift (told_of o x).1) leads tells in
      begins_by o x shift es p.0 p.1

  module _ (es : List PlainEvent) (m : StepState) (leads : LeadsTo o s es m) where
    caused : (e : Refused) → (e.kind ≡ NoMemory) ⊎ (e.kind ≢ NoMemory) → Fails e (next_event o m)
        → (e.kind ≡ NoMemory) ⊎ CausedAlone o x shift e
    caused e (inl is) fails = inl is
    caused e (inr other) fails =
        let t = told_alone o x shift s es (Some e) tells
        (given_behind o s m es (Some e) leads (gives_fault (fails other))) in
        inr (caused_by o x shift e t.all t.fault t.end t.run)

    pub ends_alone : (r : Next) (Lands : StepState → Type 0) (renumbered : Bool) → GivesNext r Lands renumbered o m
        → EndsAlone o x shift es renumbered m r
    ends_alone None Lands renumbered g =
        let t = told_alone o x shift s es None tells (given_behind o s m es None leads (gives_end g.2)) in
        reads_by o x shift es t.all t.fault t.events t.end t.run
    ends_alone (Some (Ok e)) Lands renumbered g =
        begins_alone (es ++ plain_event e ∷ []) g.0 (leads_more o leads g.2)
    ends_alone (Some (Err e)) Lands renumbered (inl fails) = (
      begins_alone es m leads,
      elim (caused e (memory_or_not e.kind) fails) [
        | inl is ↦ inl is
        | inr cause ↦ inr (inl cause)
      ],
    )
    ends_alone (Some (Err e)) Lands renumbered (inr left) = (begins_alone es m leads, inr (inr left))
