-- The lines of all events that a parser gives.
use Rattle.std.proofs.Common.{◌≡◌, ℕ, Bool, true, false, List, ◌++◌, None, Result, Ok, Err, ap, ◌∙◌, sym}
use Rattle.std.proofs.lemmas.Grind.{flat_map-append}
use Rattle.granit_base.specs.Place.{Unread}
use Rattle.granit_error.specs.OptionsData.{OptionsData}
use Rattle.granit_error.specs.Refused.{Refused}
use Rattle.granit_input.specs.Origin.{Origin}
use Rattle.granit_lexemes.specs.Line.{event_line, event_lines}
use Rattle.granit_lexemes.specs.PlainEvent.{PlainEvent}
use Rattle.granit_load.proofs.GatherLemmas.{given_out, refused_late}
use Rattle.granit_load.proofs.LoadLemmas.{answer_of, given_of}
use Rattle.granit_load.specs.Lines.{GathersLines, GivesLines, LinesLead, PushesLines}
use Rattle.granit_machine.specs.Machine.{run}
use Rattle.granit_parser.proofs.GatherLemmas.{leads_behind}
use Rattle.granit_parser.specs.Gathering.{GathersSome, RefusesLate}
use Rattle.granit_parser.specs.Parsing.{Parsing, StandsAt}
use Rattle.granit_steps.specs.Steps.{StepState, steps_start}

-- lines of events behind others
more_lines : (page : List ℕ) (es fs : List PlainEvent) → page ≡ event_lines es
    → page ++ event_lines fs ≡ event_lines (es ++ fs)
more_lines page es fs is = ap (λ (xs : List ℕ). xs ++ event_lines fs) is ∙ sym (flat_map-append event_line es fs)

module _ {I : Type 0} (unread : I → Unread → Type 0) (origin : I → Origin) (o : OptionsData) (m : StepState)
    (page : List ℕ) (p q : Parsing I) (lead : LinesLead unread o m page p) where
  pub lines_pushed : (more : Bool) (fs : List PlainEvent)
      → ((n : StepState) → StandsAt unread p n → GathersSome unread origin o n (Ok more) fs q)
      → PushesLines unread origin o m (Ok more) (page ++ event_lines fs) q
  lines_pushed true fs gives =
      let g = (gives lead.1 lead.3).1 in (
        lead.0 ++ fs,
        g.0,
        leads_behind o lead.2 g.1,
        g.2,
        more_lines page lead.0 fs lead.4,
      )
  lines_pushed false fs gives =
      let g = gives lead.1 lead.3 in
      (lead.0 ++ fs, (g.0, leads_behind o lead.2 g.1, g.2, g.3), more_lines page lead.0 fs lead.4)

  pub lines_refused : (e : Refused) → ((n : StepState) → StandsAt unread p n → RefusesLate origin o n q e)
      → RefusesLate origin o m q e
  lines_refused e refuses =
      let late = refuses lead.1 lead.3 in (lead.0 ++ late.0, late.1, leads_behind o lead.2 late.2, late.3)

-- the lines of a text, where no source fails
pub lines_of_text : {I : Type 0} (origin : I → Origin) (o : OptionsData) (x : List ℕ) (a : OptionsData) → a ≡ o
    → (r : Result (List ℕ) Refused) (p : Parsing I) → p.stepper.renumbered ≡ false
    → GathersLines origin a (steps_start x) r p → ((i : I) → (origin i).error ≡ None) → GivesLines r (run o x)
lines_of_text origin o x a same (Ok page) p never out none =
    (out.0, answer_of o x a out.0 same (given_out a (steps_start x) out.0 out.1), out.2)
lines_of_text origin o x a same (Err e) p never late none =
    given_of o x origin (λ (es : List PlainEvent). es) a same (Err e) p.stepper never
    (refused_late a (steps_start x) origin (λ (es : List PlainEvent). es) p e late) none
