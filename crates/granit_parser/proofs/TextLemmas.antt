-- What the laws of the plain machine say of the calls that give a text's events one by one.
pub use Rattle.granit_declared.proofs.ReadingSaid.{answer_declared, declared_answer}
pub use Rattle.granit_declared.proofs.CauseSaid.{cause_declared, declared_cause}
use Rattle.std.proofs.Common.{◌≡◌, ◌≢◌, ℕ, List, [], ◌∷◌, ◌++◌, Option, Some, None, Ok, Err, ◌⊎◌, inl, inr}
use Rattle.std.proofs.Common.{Bool, refl, sym, ap, ap₂, ◌∙◌, subst, append_assoc}
use Rattle.granit_chains.proofs.ChainLaws.{any_fault_caused}
use Rattle.granit_chains.proofs.ChainLaws.{answer_reads}
use Rattle.granit_declared.specs.DeclaredCause.{DeclaredCause}
use Rattle.granit_event.specs.Events.{plain_event}
use Rattle.granit_error.specs.FaultKind.{FaultKind, NoMemory}
use Rattle.granit_error.specs.OptionsData.{OptionsData}
use Rattle.granit_error.specs.Refused.{Refused}
use Rattle.granit_lexemes.specs.Outcome.{Fault, Fails}
use Rattle.granit_lexemes.specs.PlainEvent.{PlainEvent}
use Rattle.granit_machine.specs.Machine.{run}
use Rattle.granit_parser.specs.Parsing.{Next, EndsText, LeadsTo, none_given, first_given}
pub use Rattle.granit_read_answers.proofs.ParserSources.{run_none}
use Rattle.granit_recovery.proofs.SkipLaws.{NextAnswer}
use Rattle.granit_sourced.specs.Giving.{GivesNext}
use Rattle.granit_steps.specs.Levels.{BeginsStream, stream_levels}
use Rattle.granit_steps.specs.Steps.{StepState, next_event, steps_start}
use Rattle.granit_steps.specs.Told.{GivesEvents, gives_end, gives_event, gives_fault, told_of}
use Rattle.granit_steps.proofs.StepLaws.{steps_give, steps_tell}
use Rattle.granit_recovery.proofs.SkipLaws.{run_is_stream, told_begins}

pub memory_or_not : (k : FaultKind) → (k ≡ NoMemory) ⊎ (k ≢ NoMemory)
memory_or_not NoMemory = inl refl
memory_or_not k = inr (λ e. cc)

-- what is given behind these events is given in all
pub given_behind : (o : OptionsData) (m last : StepState) (es : List PlainEvent) (f : Option Fault)
    → LeadsTo o m es last
    → GivesEvents o last [] f → GivesEvents o m es f
given_behind o m last es f none_given more = more
given_behind o m last es f (first_given {next = next} {es = rest} is leads) more =
    gives_event is (given_behind o next last rest f leads more)

-- one event more is given
pub leads_more : (o : OptionsData) {m last after : StepState} {es : List PlainEvent} {e : PlainEvent} →
    LeadsTo o m es last → next_event o last ≡ Ok (Some e, after) → LeadsTo o m (es ++ e ∷ []) after
leads_more o none_given is = first_given is none_given
leads_more o (first_given was leads) is = first_given was (leads_more o leads is)

one_step : {a b : Option PlainEvent} {s t : StepState} → ◌≡◌ {A = NextAnswer} (Ok (a, s)) (Ok (b, t))
    → (a ≡ b) × (s ≡ t)
one_step {a = a} {b = b} {s = s} {t = t} e =
    let p : ◌≡◌ {A = Option PlainEvent × StepState} (a, s) (b, t) = cc (e) in
    (ap (λ (x : Option PlainEvent × StepState). x.0) p, ap (λ (x : Option PlainEvent × StepState). x.1) p)

-- what is given in all begins with what is given up to a state
pub leads_front : (o : OptionsData) (m last : StepState) (es all : List PlainEvent) (f : Option Fault) →
    LeadsTo o m es last → GivesEvents o m all f → (more : List PlainEvent) × (all ≡ es ++ more)
leads_front o m last [] all f none_given g = (all, refl)
leads_front o m last (e ∷ es) all f (first_given is leads) (gives_end over) =
    absurd (let z = (one_step (sym is ∙ over)).0 in cc)
leads_front o m last (e ∷ es) all f (first_given is leads) (gives_fault over) =
    absurd (let z : ◌≡◌ {A = NextAnswer} _ _ = sym is ∙ over in cc)
leads_front o m last (e ∷ es) all f (first_given {next = next} is leads)
    (gives_event {after = after} {e = d} {es = ds} was more) =
    let z = one_step (sym was ∙ is) in
    let event : d ≡ e = cc (z.0) in
    let p = leads_front o next last es ds f leads (subst (λ (s : StepState). GivesEvents o s ds f) z.1 more) in
    (p.0, ap₂ (λ (e : PlainEvent) (es : List PlainEvent). e ∷ es) event p.1)

-- the events that lead from the start of a text to a state begin a stream
front_begins : (o : OptionsData) (x : List ℕ) (es : List PlainEvent) (m : StepState) → LeadsTo o (steps_start x) es m →
    BeginsStream es
front_begins o x es m leads =
    let p = leads_front o (steps_start x) m es (told_of o x).0 (told_of o x).1 leads (steps_tell o x) in
    let b = told_begins o x in (
      p.0 ++ b.0,
      sym (ap (λ (l : List PlainEvent). stream_levels (l ++ b.0)) p.1
          ∙ ap stream_levels (append_assoc es p.0 b.0)) ∙ b.1,
    )

module _ (o : OptionsData) (x : List ℕ) (es : List PlainEvent) (m : StepState) (leads : LeadsTo o (steps_start x) es m)
  where
    caused : (e : Refused) → (e.kind ≡ NoMemory) ⊎ (e.kind ≢ NoMemory) → Fails e (next_event o m)
        → (e.kind ≡ NoMemory) ⊎ (DeclaredCause o x e × (e.sources ≡ []))
    caused e (inl is) fails = inl is
    caused e (inr other) fails =
        let answer : run o x ≡ Err e =
        steps_give o x es (Some e) (given_behind o (steps_start x) m es (Some e) leads (gives_fault (fails other))) in
        inr (cause_declared o x e (any_fault_caused o x e answer), run_none o x e answer)

    begins_stream : BeginsStream es
    begins_stream = front_begins o x es m leads

    -- with one event more
    event_begins : (e : PlainEvent) (after : StepState) → next_event o m ≡ Ok (Some e, after) →
        BeginsStream (es ++ e ∷ [])
    event_begins e after is = front_begins o x (es ++ e ∷ []) after (leads_more o leads is)

    pub ends_text : (r : Next) (Lands : StepState → Type 0) (renumbered : Bool) → GivesNext r Lands renumbered o m
        → EndsText o x es renumbered m r
    ends_text None Lands renumbered g =
        let answer : run o x ≡ Ok es =
        steps_give o x es None (given_behind o (steps_start x) m es None leads (gives_end g.2)) in
        (answer_declared o x es (answer_reads o x es answer), run_is_stream o x es answer)
    ends_text (Some (Ok e)) Lands renumbered g = event_begins (plain_event e) g.0 g.2
    ends_text (Some (Err e)) Lands renumbered (inl fails) = (
      begins_stream,
      elim (caused e (memory_or_not e.kind) fails) [
        | inl is ↦ inl is
        | inr cause ↦ inr (inl cause)
      ],
    )
    ends_text (Some (Err e)) Lands renumbered (inr left) = (begins_stream, inr (inr left))
