-- Calls that give events are steps of the machine, in order.
use Rattle.std.proofs.Common.{◌≡◌, ◌||◌, Bool, true, false, List, [], ◌∷◌, ◌++◌, Option, Some, None, Ok, Err}
use Rattle.std.proofs.Common.{refl, sym, ap, ap₂, ◌∙◌, subst}
use Rattle.std.specs.Prelude.{if◌then◌else◌, is_some}
use Rattle.granit_alone.specs.Behind.{IsOpen, TellsRest}
use Rattle.granit_error.specs.OptionsData.{OptionsData}
use Rattle.granit_lexemes.specs.Outcome.{Fault}
use Rattle.granit_lexemes.specs.PlainEvent.{PlainEvent, EventKind, StreamEnd, DocumentStart, DocumentEnd}
use Rattle.granit_recovery.proofs.RecoveryLaws.{first_same, noted_steps, second_same, noted_fault}
use Rattle.granit_recovery.proofs.SkipLaws.{NextAnswer, event_in, state_or}
use Rattle.granit_recovery.specs.Streams.{CallsGive, gives_next, gives_none}
use Rattle.granit_restart.specs.Calls.{Calls, GivenByCall, given_by, next_call, noted}
use Rattle.granit_steps.specs.Steps.{StepState, next_event}
use Rattle.granit_steps.specs.Told.{GivesEvents, gives_end, gives_event, gives_fault}

-- ---- one call

none_goes : (a b c : Bool) → ((a || b) || c) ≡ false → (a ≡ false) × (b ≡ false) × (c ≡ false)
none_goes true b c e = absurd (cc)
none_goes false true c e = absurd (cc)
none_goes false false true e = absurd (cc)
none_goes false false false e = (refl, refl, refl)

is_none : {A : Type 0} (x : Option A) → is_some x ≡ false → x ≡ None
is_none None e = refl
is_none (Some x) e = absurd (cc)

going : (c : Calls) → ((c.over || is_some c.fault) || is_some c.refusal) ≡ false → IsOpen c
going c e =
    let x = none_goes c.over (is_some c.fault) (is_some c.refusal) e in
    record { over = x.0; fault = is_none c.fault x.1; refusal = is_none c.refusal x.2 }

-- calls that go on make the machine's next step
pub goes_by : (o : OptionsData) (c : Calls) → IsOpen c → next_call o c ≡ given_by o c (next_event o c.steps)
unfolding next_call
goes_by o c g =
    ap (λ b. if b then (None, c) else given_by o c (next_event o c.steps))
    (ap₂ (λ (a b : Bool). (a || b) || is_some c.refusal) g.over (ap is_some g.fault) ∙ ap is_some g.refusal)

-- ---- an event is given

-- the machine's step gives it, and what is noted of it is all that changes
pub record Step (o : OptionsData) (c : Calls) (e : PlainEvent) (after : Calls) : Type 0 where
  pub steps : StepState
  pub event : next_event o c.steps ≡ Ok (Some e, steps)
  pub are : after ≡ noted e.kind (record c { steps = steps })
  pub goes : IsOpen c

step_of : (o : OptionsData) (c after : Calls) (e : PlainEvent) (r : NextAnswer) → next_event o c.steps ≡ r → IsOpen c
    → given_by o c r ≡ (Some (Ok e), after) → Step o c e after
step_of o c after e (Ok (Some x, t)) is goes g =
    let same : x ≡ e = let f = first_same _ _ g in cc in
    record {
      steps = t;
      event = is ∙ ap (λ y. Ok (Some y, t)) same;
      are = sym (second_same _ _ g) ∙ ap (λ (y : PlainEvent). noted y.kind (record c { steps = t })) same;
      goes = goes;
    }
step_of o c after e (Ok (None, t)) is goes g = absurd (let f = first_same _ _ g in cc)
step_of o c after e (Err f) is goes g = absurd (let x = first_same _ _ g in cc)

step_by : (b : Bool) (o : OptionsData) (c after : Calls) (e : PlainEvent)
    → ((c.over || is_some c.fault) || is_some c.refusal) ≡ b
    → (if b then (None, c) else given_by o c (next_event o c.steps)) ≡ (Some (Ok e), after) → Step o c e after
step_by true o c after e is g = absurd (let f = first_same _ _ g in cc)
step_by false o c after e is g = step_of o c after e (next_event o c.steps) refl (going c is) g

pub step : (o : OptionsData) (c after : Calls) (e : PlainEvent) → next_call o c ≡ (Some (Ok e), after)
    → Step o c e after
unfolding next_call
step o c after e g = step_by ((c.over || is_some c.fault) || is_some c.refusal) o c after e refl g

pub noted_refusal : (kind : EventKind) (c : Calls) → (noted kind c).refusal ≡ c.refusal
noted_refusal (DocumentStart explicit version) c = refl
noted_refusal DocumentEnd c = refl
noted_refusal StreamEnd c = refl
noted_refusal kind c = refl

abbrev is_last : EventKind → Bool
is_last StreamEnd = true
is_last kind = false

noted_over : (kind : EventKind) (c : Calls) → c.over ≡ false → (noted kind c).over ≡ is_last kind
noted_over (DocumentStart explicit version) c e = e
noted_over DocumentEnd c e = e
noted_over StreamEnd c e = refl
noted_over kind c e = e

last_kind : (kind : EventKind) → is_last kind ≡ true → kind ≡ StreamEnd
last_kind StreamEnd e = refl
last_kind kind e = absurd (cc)

-- ---- where calls stand behind events

-- no call failed behind events; the end of the stream was given, where that is the last of them
pub record StandsBehind (es : List PlainEvent) (d : Calls) : Type 0 where
  pub fault : d.fault ≡ None
  pub refusal : d.refusal ≡ None
  pub last : d.over ≡ true
      → (front : List PlainEvent) × (end : PlainEvent) × (es ≡ front ++ end ∷ []) × (end.kind ≡ StreamEnd)

abbrev EndsIn : List PlainEvent → Type 0
EndsIn es = (front : List PlainEvent) × (end : PlainEvent) × (es ≡ front ++ end ∷ []) × (end.kind ≡ StreamEnd)

ends_behind : (e : PlainEvent) (es : List PlainEvent) → EndsIn es → EndsIn (e ∷ es)
ends_behind e es x = (e ∷ x.0, x.1, ap (λ l. e ∷ l) x.2, x.3)

-- the first event of calls that go on
step_behind : (o : OptionsData) (c d after : Calls) (e : PlainEvent) (es : List PlainEvent) → Step o c e after
    → (over : Bool) → after.over ≡ over → CallsGive o after es d → (IsOpen after → StandsBehind es d)
    → StandsBehind (e ∷ es) d
step_behind o c d after e es s false is gives more =
    let x = more (record {
      over = is;
      fault = ap (λ (d : Calls). d.fault) s.are ∙ noted_fault e.kind (record c { steps = s.steps }) ∙ s.goes.fault;
      refusal = ap (λ (d : Calls). d.refusal) s.are ∙ noted_refusal e.kind (record c { steps = s.steps })
          ∙ s.goes.refusal;
    }) in
    record { fault = x.fault; refusal = x.refusal; last = λ over. ends_behind e es (x.last over) }
step_behind o c d after e es s true is gives_none more =
    let kind : e.kind ≡ StreamEnd = last_kind e.kind (sym (noted_over e.kind (record c { steps = s.steps }) s.goes.over)
    ∙ ap (λ (d : Calls). d.over) (sym s.are) ∙ is) in
    record {
      fault = ap (λ (d : Calls). d.fault) s.are ∙ noted_fault e.kind (record c { steps = s.steps }) ∙ s.goes.fault;
      refusal = ap (λ (d : Calls). d.refusal) s.are ∙ noted_refusal e.kind (record c { steps = s.steps })
          ∙ s.goes.refusal;
      last = λ over. ([], e, refl, kind);
    }
step_behind o c d after e es s true is (gives_next {after = next} {e = x} g rest) more =
    absurd (let other = step o after next x g in let f = other.goes.over in cc)

pub behind : (o : OptionsData) (c d : Calls) (es : List PlainEvent) → IsOpen c → CallsGive o c es d → StandsBehind es d
behind o c d es g gives_none =
    record { fault = g.fault; refusal = g.refusal; last = λ over. absurd (let f = g.over in cc) }
behind o c d es g (gives_next {after = after} {e = e} {es = rest} is more) =
    step_behind o c d after e rest (step o c after e is) after.over refl more (λ h. behind o after d rest h more)

-- ---- what is told there

front_by : (o : OptionsData) (c d after : Calls) (e : PlainEvent) (es all : List PlainEvent) (f : Option Fault)
    → Step o c e after
    → ((all : List PlainEvent) → GivesEvents o after.steps all f → TellsRest o all es f d.steps)
    → GivesEvents o c.steps all f → TellsRest o all (e ∷ es) f d.steps
front_by o c d after e es all f s more (gives_end is) =
    absurd (let x : None ≡ Some e = ap event_in (sym is ∙ s.event) in cc)
front_by o c d after e es all f s more (gives_fault is) =
    absurd (let x : None ≡ Some e = ap event_in (sym is ∙ s.event) in cc)
front_by o c d after e es all f s more (gives_event {after = t} {e = x} {es = xs} is rest) =
    let some : Some x ≡ Some e = ap event_in (sym is ∙ s.event) in
    let event : x ≡ e = cc in
    let state : t ≡ after.steps = ap (state_or t) (sym is ∙ s.event)
    ∙ sym (ap (λ (d : Calls). d.steps) s.are ∙ noted_steps e.kind (record c { steps = s.steps })) in
    let p = more xs (subst (λ (s : StepState). GivesEvents o s xs f) state rest) in
    record {
      more = p.more;
      are = ap₂ (λ (e : PlainEvent) (es : List PlainEvent). e ∷ es) event p.are;
      left = p.left;
    }

pub front : (o : OptionsData) (c d : Calls) (es all : List PlainEvent) (f : Option Fault) → CallsGive o c es d
    → GivesEvents o c.steps all f → TellsRest o all es f d.steps
front o c d es all f gives_none g = record { more = all; are = refl; left = g }
front o c d es all f (gives_next {after = after} {e = e} {es = rest} is more) g =
    front_by o c d after e rest all f (step o c after e is) (λ all h. front o after d rest all f more h) g

-- ---- where the next call gives no event

none_by : (o : OptionsData) (c : Calls) (r : NextAnswer) → (given_by o c r).0 ≡ None
    → (t : StepState) × (r ≡ Ok (None, t))
none_by o c (Ok (Some e, t)) is = absurd (cc)
none_by o c (Ok (None, t)) is = (t, refl)
none_by o c (Err f) is = absurd (cc)

pub none_comes : (o : OptionsData) (c : Calls) → IsOpen c → (next_call o c).0 ≡ None
    → (t : StepState) × (next_event o c.steps ≡ Ok (None, t))
none_comes o c g is =
    none_by o c (next_event o c.steps) (ap (λ (x : GivenByCall × Calls). x.0) (sym (goes_by o c g)) ∙ is)

fault_of : (o : OptionsData) (c after : Calls) (f : Fault) (r : NextAnswer) → given_by o c r ≡ (Some (Err f), after)
    → r ≡ Err f
fault_of o c after f (Ok (Some e, t)) g = absurd (let x = first_same _ _ g in cc)
fault_of o c after f (Ok (None, t)) g = absurd (let x = first_same _ _ g in cc)
fault_of o c after f (Err x) g = let same : x ≡ f = let y = first_same _ _ g in cc in ap (λ f. Err f) same

fault_by : (b : Bool) (o : OptionsData) (c after : Calls) (f : Fault)
    → (if b then (None, c) else given_by o c (next_event o c.steps)) ≡ (Some (Err f), after)
    → next_event o c.steps ≡ Err f
fault_by true o c after f g = absurd (let x = first_same _ _ g in cc)
fault_by false o c after f g = fault_of o c after f (next_event o c.steps) g

-- a call that is refused is refused for the machine's fault
pub fault_comes : (o : OptionsData) (c after : Calls) (f : Fault) → next_call o c ≡ (Some (Err f), after)
    → next_event o c.steps ≡ Err f
unfolding next_call
fault_comes o c after f g = fault_by ((c.over || is_some c.fault) || is_some c.refusal) o c after f g

-- ---- what is told where it ends

pub told_none : (o : OptionsData) (s t : StepState) (more : List PlainEvent) (f : Option Fault)
    → next_event o s ≡ Ok (None, t) → GivesEvents o s more f → (more ≡ []) × (f ≡ None)
told_none o s t more f is (gives_end e) = (refl, refl)
told_none o s t more f is (gives_fault e) = absurd (let x = sym is ∙ e in cc)
told_none o s t more f is (gives_event {e = x} e rest) =
    absurd (let y : None ≡ Some x = ap event_in (sym is ∙ e) in cc)

pub told_fault : (o : OptionsData) (s : StepState) (g : Fault) (more : List PlainEvent) (f : Option Fault)
    → next_event o s ≡ Err g → GivesEvents o s more f → (more ≡ []) × (f ≡ Some g)
told_fault o s g more f is (gives_end e) = absurd (let x = sym is ∙ e in cc)
told_fault o s g more f is (gives_fault {f = x} e) =
    let same = sym e ∙ is in let y : x ≡ g = cc in (refl, ap (λ f. Some f) y)
told_fault o s g more f is (gives_event {e = x} e rest) = absurd (let y = sym is ∙ e in cc)
