-- What the parser answers, in words of readings and causes.
use Rattle.granit_views.specs.Running.{FairRun, RunView, ParsedAs, GivesTold}
use Rattle.granit_views.specs.View.{item_of}
use Rattle.granit_language.specs.Seen.{Flagged, terminal_seen}
use Rattle.granit_event_machine.specs.EventMachine.{EventAnswer, Events, Faulty, Unfinished, IsFresh}
use Rattle.granit_event_machine.specs.Guarded.{guarded, whole_guard, whole_run}
use Rattle.granit_language.specs.GrammarFault.{GrammarFault, fault_of}
use Rattle.granit_language.specs.Scope.{no_scope}
use Rattle.granit_language.specs.Scoping.{scoped}
use Rattle.granit_language.specs.Telling.{events_told}
use Rattle.granit_language.specs.Terminal.{At, TheEnd, Terminal, terminal, text_start}
use Rattle.granit_language.specs.TreeEvents.{TreeEvent, StreamStarts, pointed}
use Rattle.granit_language.specs.Whole.{Viable, WholeReading, WholeFault}
use Rattle.granit_machine.specs.Frames.{ParserState, parser_start}
use Rattle.granit_machine.specs.Machine.{feed_all}
use Rattle.std.proofs.Common.{◌≡◌, List, [], ◌∷◌, ◌++◌, map, refl, sym, ap, ap₂, ◌∙◌, subst, Result, Ok, Err}
use Rattle.granit_base.specs.Place.{Mark}
use Rattle.granit_error.specs.OptionsData.{OptionsData}
use Rattle.granit_lexemes.specs.Outcome.{Fault}
use Rattle.granit_lexemes.specs.PlainEvent.{PlainEvent, StreamStart, event_on}
use Rattle.granit_whole.proofs.Wholes.{whole_events, whole_streams, whole_faults, whole_never_unfinished, Starts}
use Rattle.granit_whole.proofs.Wholes.{whole_viable}
use Rattle.granit_event_machine.proofs.Guards.{NotFaulty}
use Rattle.granit_whole.proofs.OneWhole.{whole_faults_told}
pub use Rattle.granit_whole.proofs.OneWhole.{viable_blocked}
use Rattle.granit_agreement.proofs.WholeRuns.{run_agrees}

abbrev Guards : OptionsData → List Terminal → EventAnswer
Guards o xs = guarded (whole_guard o) (scoped no_scope xs) IsFresh

events_by :
    (o : OptionsData) (xs ys : List Terminal) (i : At) (gs : List PlainEvent) (p : ParserState) (a : EventAnswer) →
    xs ≡ ys ++ (terminal TheEnd i ∷ []) → Guards o xs ≡ a → RunView o (Ok (gs, p)) a → ParsedAs o xs gs
events_by o xs ys i gs p (Events es) n e h = (
  pointed StreamStarts text_start ∷ es,
  whole_events o xs (pointed StreamStarts text_start ∷ es) (ap Starts e),
  ap (λ gs. event_on StreamStart text_start ∷ gs) (sym h),
)
events_by o xs ys i gs p Unfinished n e h =
    absurd (whole_never_unfinished o ys i (ap (whole_run o) (sym n) ∙ ap Starts e))
events_by o xs ys i gs p (Faulty k x) n e h = absurd h

pub parsed_events :
    (o : OptionsData) (m : Mark) (fs : List Flagged) (ys : List Terminal) (i : At) (gs : List PlainEvent)
    (p : ParserState) → FairRun fs no_scope IsFresh → map terminal_seen fs ≡ ys ++ (terminal TheEnd i ∷ []) →
    feed_all o (map item_of fs) (parser_start m) ≡ Ok (gs, p) → ParsedAs o (map terminal_seen fs) gs
parsed_events o m fs ys i gs p fair n e =
    events_by o (map terminal_seen fs) ys i gs p (Guards o (map terminal_seen fs)) n refl
    (subst (λ r. RunView o r (Guards o (map terminal_seen fs))) e (run_agrees o m fs fair))

faults_by :
    (o : OptionsData) (xs : List Terminal) (f : Fault) (a : EventAnswer) → Guards o xs ≡ a → RunView o (Err f) a →
    (k : GrammarFault) × (x : Terminal) × WholeFault o xs k x × (f ≡ fault_of k x)
faults_by o xs f (Faulty k x) e h = (k, x, whole_faults o xs k x (ap Starts e), h)
faults_by o xs f (Events es) e h = absurd h
faults_by o xs f Unfinished e h = absurd h

pub parsed_faults :
    (o : OptionsData) (m : Mark) (fs : List Flagged) (f : Fault) → FairRun fs no_scope IsFresh →
    feed_all o (map item_of fs) (parser_start m) ≡ Err f →
    (k : GrammarFault) × (x : Terminal) × WholeFault o (map terminal_seen fs) k x × (f ≡ fault_of k x)
parsed_faults o m fs f fair e =
    faults_by o (map terminal_seen fs) f (Guards o (map terminal_seen fs)) refl
    (subst (λ r. RunView o r (Guards o (map terminal_seen fs))) e (run_agrees o m fs fair))

events_same : (es more : List TreeEvent) → Events es ≡ Events more → es ≡ more
events_same es more e = cc (e)

told_by :
    (o : OptionsData) (es : List TreeEvent) (r : Result (List PlainEvent × ParserState) Fault) (a : EventAnswer) →
    Starts a ≡ Events es → RunView o r a → GivesTold o es r
told_by o es (Ok y) (Events more) e h =
    subst (λ es. events_told o es ≡ event_on StreamStart text_start ∷ y.0)
    (events_same (pointed StreamStarts text_start ∷ more) es e)
    (ap (λ gs. event_on StreamStart text_start ∷ gs) (sym h))
told_by o es (Err f) (Events more) e h = absurd h
told_by o es r Unfinished e h = cc (e)
told_by o es r (Faulty k x) e h = cc (e)

pub readings_parsed :
    (o : OptionsData) (m : Mark) (fs : List Flagged) (es : List TreeEvent) → FairRun fs no_scope IsFresh →
    WholeReading o (map terminal_seen fs) es → GivesTold o es (feed_all o (map item_of fs) (parser_start m))
readings_parsed o m fs es fair r =
    told_by o es (feed_all o (map item_of fs) (parser_start m)) (Guards o (map terminal_seen fs))
    (whole_streams o (map terminal_seen fs) es r) (run_agrees o m fs fair)

-- ---- causes and beginnings of readings, and what is parsed

not_faulty_by :
    (o : OptionsData) (xs : List Terminal) (y : List PlainEvent × ParserState) (a : EventAnswer) → RunView o (Ok y) a →
    NotFaulty (Starts a)
not_faulty_by o xs y (Events es) h = tt
not_faulty_by o xs y Unfinished h = tt
not_faulty_by o xs y (Faulty k x) h = absurd h

pub parsed_viable :
    (o : OptionsData) (m : Mark) (fs : List Flagged) (y : List PlainEvent × ParserState) →
    FairRun fs no_scope IsFresh → feed_all o (map item_of fs) (parser_start m) ≡ Ok y → Viable o (map terminal_seen fs)
parsed_viable o m fs y fair e =
    whole_viable o (map terminal_seen fs)
    (not_faulty_by o (map terminal_seen fs) y (Guards o (map terminal_seen fs))
    (subst (λ r. RunView o r (Guards o (map terminal_seen fs))) e (run_agrees o m fs fair)))

fault_by :
    (o : OptionsData) (k : GrammarFault) (x : Terminal) (r : Result (List PlainEvent × ParserState) Fault)
    (a : EventAnswer) → Starts a ≡ Faulty k x → RunView o r a → r ≡ Err (fault_of k x)
fault_by o k x (Err f) (Faulty j y) e h = ap (λ f. Err f) (h ∙ same_fault j k y x e)
  where
    same_fault : (j k : GrammarFault) (y x : Terminal) → Faulty j y ≡ Faulty k x → fault_of j y ≡ fault_of k x
    same_fault j k y x e = let a : j ≡ k = cc (e) in let b : y ≡ x = cc (e) in ap₂ fault_of a b
fault_by o k x (Ok y) (Faulty j z) e h = absurd h
fault_by o k x r (Events es) e h = absurd cc
fault_by o k x r Unfinished e h = absurd cc

pub faults_parsed :
    (o : OptionsData) (m : Mark) (fs : List Flagged) (k : GrammarFault) (x : Terminal) → FairRun fs no_scope IsFresh →
    WholeFault o (map terminal_seen fs) k x → feed_all o (map item_of fs) (parser_start m) ≡ Err (fault_of k x)
faults_parsed o m fs k x fair f =
    fault_by o k x (feed_all o (map item_of fs) (parser_start m)) (Guards o (map terminal_seen fs))
    (whole_faults_told o (map terminal_seen fs) k x f) (run_agrees o m fs fair)

pub viable_parsed :
    (o : OptionsData) (m : Mark) (fs : List Flagged) → FairRun fs no_scope IsFresh → Viable o (map terminal_seen fs) →
    (y : List PlainEvent × ParserState) × (feed_all o (map item_of fs) (parser_start m) ≡ Ok y)
viable_parsed o m fs fair v = by (feed_all o (map item_of fs) (parser_start m)) refl
  where
    by :
        (r : Result (List PlainEvent × ParserState) Fault) → feed_all o (map item_of fs) (parser_start m) ≡ r →
        (y : List PlainEvent × ParserState) × (r ≡ Ok y)
    by (Ok y) e = (y, refl)
    by (Err f) e =
        let c = parsed_faults o m fs f fair e in absurd (viable_blocked o (map terminal_seen fs) c.0 c.1 c.2 v)
