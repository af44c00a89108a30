-- What recovery makes of a parser that is where the machine's calls led.
use Rattle.std.proofs.Common.{◌≡◌, ◌⊎◌, inl, inr, ℕ, Bool, true, false, ◌||◌, is_some, List, [], ◌∷◌, Option, Some}
use Rattle.std.proofs.Common.{None, Result, Ok, Err, refl, sym, ap, subst, ◌∙◌}
use Rattle.std.specs.Prelude.{if◌then◌else◌}
use Rattle.granit_error.specs.OptionsData.{OptionsData}
use Rattle.granit_lexemes.specs.Onward as onward
use Rattle.granit_lexemes.specs.Outcome.{Fault}
use Rattle.granit_lexemes.specs.PlainEvent.{PlainEvent, EventKind, DocumentStart, StreamEnd, Comment}
use Rattle.granit_parser.specs.Recovering.{StopsDropping}
use Rattle.granit_restart.proofs.LookTurns as look_turns
use Rattle.granit_restart.specs.Ahead.{is_note}
use Rattle.granit_restart.specs.Calls.{Calls, GivenByCall, given_by, next_call, noted}
use Rattle.granit_restart.specs.Header.{is_directives}
use Rattle.granit_restart.specs.Looking.{Look, behind_waiting, look_ahead, look_behind, told_by, told_event, turn_ahead}
use Rattle.granit_restart.specs.Recovery.{comment_count, extra_of, looked_by, recover, recover_with, recovered}
use Rattle.granit_restart.specs.Recovery.{recovery_answer, resumed, skipped, skipped_by, starts_by}
use Rattle.granit_restart.specs.Restart.{behind_fault}
use Rattle.granit_restart.specs.Skipping.{Ended, Failed, SkipEnd, Stops, skip_by_turns, skipped_document, skipped_fault}
use Rattle.granit_restart.specs.Skipping.{with_pending}
use Rattle.granit_sourced.proofs.CallLemmas.{Comes, call_going, comes_on, waits}
use Rattle.granit_stepper.proofs.FaultLemmas.{no_stop, stops_nowhere}
use Rattle.granit_steps.specs.Steps.{StepState, next_event, step_turn}

-- ---- what was looked at

abbrev pub begins : EventKind → Bool
begins (DocumentStart explicit version) = true
begins kind = false

pub starts_other : (kind : EventKind) (c : Calls) → begins kind ≡ false → starts_by kind c ≡ c
starts_other (DocumentStart explicit version) c e = absurd (cc)
starts_other kind c e = refl

pub starts_over : (kind : EventKind) (c : Calls) → (starts_by kind c).over ≡ c.over
starts_over (DocumentStart explicit version) c = refl
starts_over kind c = refl

pub starts_fault : (kind : EventKind) (c : Calls) → (starts_by kind c).fault ≡ c.fault
starts_fault (DocumentStart explicit version) c = refl
starts_fault kind c = refl

pub starts_steps : (kind : EventKind) (c : Calls) → (starts_by kind c).steps ≡ c.steps
starts_steps (DocumentStart explicit version) c = refl
starts_steps kind c = refl

-- the start of a document counts as given
pub starts_between : (kind : EventKind) (c : Calls) → (c.between ≡ false) ⊎ (begins kind ≡ true)
    → (starts_by kind c).between ≡ false
starts_between (DocumentStart explicit version) c e = refl
starts_between kind c (inl none) = none
starts_between kind c (inr begun) = absurd (cc)

-- where refused reads stopped, if none is asked for
abbrev pub any_stops : Calls → Stops
any_stops c = record { first = c.steps.reading.reader.here; second = c.steps.reading.reader.here }

-- stops that fit where nothing failed before
pub fitting : OptionsData → SkipEnd → Stops
fitting o (Ended n) = record { first = n.reading.reader.here; second = n.reading.reader.here }
fitting o (Failed e n) = record {
  first = n.reading.reader.here;
  second = no_stop (skip_by_turns o (behind_fault n.reading.reader.here n).1);
}

pub fits : (o : OptionsData) (r : SkipEnd) → StopsDropping o (fitting o r) r
unfolding fitting
fits o (Ended n) = tt
fits o (Failed e n) = (onward.there, stops_nowhere (skip_by_turns o (behind_fault n.reading.reader.here n).1))

pub answered_steps : (r : Result Bool Fault) (m : StepState) → (recovery_answer r (resumed m)).1.steps ≡ m
answered_steps (Ok true) m = refl
answered_steps (Ok false) m = refl
answered_steps (Err f) m = refl

module _ (o : OptionsData) (stops : Stops) where
  -- ---- where recovery asks

  with_none : (looked : Bool) (c : Calls) → c.refusal ≡ None → recover o stops looked c ≡ recover_with o stops looked
      None c
  unfolding recover
  with_none looked c e = ap (λ f. recover_with o stops looked f c) e

  -- nothing was looked at
  pub unlooked : (c : Calls) → c.refusal ≡ None → c.over ≡ false
      → recover o stops false c ≡ recovered o 0 (skipped o stops c)
  unlooked c refusal over =
      with_none false c refusal ∙ ap (λ (b : Bool). if b then (Ok false, c) else recovered o 0 (skipped o stops c)) over

  looked_with : (c : Calls) (x : GivenByCall × Calls) → (looked_by c x).over ≡ false
      → (let d = looked_by c x in if d.over then (Ok false, d) else recovered o (extra_of d x.0) (skipped o stops d))
      ≡ recovered o (extra_of (looked_by c x) x.0) (skipped o stops (looked_by c x))
  looked_with c x over =
      ap (λ (b : Bool). if b then (Ok false, looked_by c x)
      else recovered o (extra_of (looked_by c x) x.0) (skipped o stops (looked_by c x))) over

  -- an event was looked at, or a fault, which counts as given
  pub looked : (c : Calls) (x : GivenByCall × Calls) → c.refusal ≡ None → next_call o c ≡ x
      → (looked_by c x).over ≡ false
      → recover o stops true c ≡ recovered o (extra_of (looked_by c x) x.0) (skipped o stops (looked_by c x))
  looked c x refusal call over =
      with_none true c refusal
      ∙ looked_with c (next_call o c) (subst (λ y. (looked_by c y).over ≡ false) (sym call) over)
      ∙ ap (λ y. recovered o (extra_of (looked_by c y) y.0) (skipped o stops (looked_by c y))) call

  pub skipped_to_fault : (c : Calls) (f : Fault) → c.fault ≡ Some f
      → skipped o stops c ≡ resumed (skipped_fault o stops f c.steps)
  skipped_to_fault c f e = ap (λ g. resumed (skipped_by o stops g c.between c.steps)) e

  pub skipped_here : (c : Calls) → c.fault ≡ None → c.between ≡ true → skipped o stops c ≡ resumed c.steps
  skipped_here c e b =
      ap (λ g. resumed (skipped_by o stops g c.between c.steps)) e
      ∙ ap (λ b. resumed (skipped_by o stops None b c.steps)) b

  pub skipped_on : (c : Calls) → c.fault ≡ None → c.between ≡ false
      → skipped o stops c ≡ resumed (skipped_document o stops c.steps)
  skipped_on c e b =
      ap (λ g. resumed (skipped_by o stops g c.between c.steps)) e
      ∙ ap (λ b. resumed (skipped_by o stops None b c.steps)) b

  no_extra : (b : Bool) → ◌≡◌ {A = ℕ} (if b then 0 else 0) 0
  no_extra true = refl
  no_extra false = refl

  call_closed : (c : Calls) (f : Fault) → c.fault ≡ Some f → c.over ≡ false → next_call o c ≡ (None, c)
  unfolding next_call
  call_closed c f fault over =
      ap (λ (b : Bool). if b then (None, c) else given_by o c (next_event o c.steps))
      (ap (λ b. (b || is_some c.fault) || is_some c.refusal) over
      ∙ ap (λ (f : Option Fault). is_some f || is_some c.refusal) fault)

  -- behind a fault
  pub asks_fault : (b : Bool) (c : Calls) (f : Fault) → c.refusal ≡ None → c.over ≡ false → c.fault ≡ Some f
      → recover o stops b c ≡ recovered o 0 (resumed (skipped_fault o stops f c.steps))
  asks_fault false c f refusal over fault =
      unlooked c refusal over ∙ ap (recovered o 0) (skipped_to_fault c f fault)
  asks_fault true c f refusal over fault =
      looked c (None, c) refusal (call_closed c f fault over) over
      ∙ ap (λ n. recovered o n (skipped o stops c)) (no_extra c.between)
      ∙ ap (recovered o 0) (skipped_to_fault c f fault)

  module _ (c : Calls) (refusal : c.refusal ≡ None) (over : c.over ≡ false) (fault : c.fault ≡ None) where
    -- directly behind a document
    pub asks_here : c.between ≡ true → recover o stops false c ≡ recovered o 0 (resumed c.steps)
    asks_here b = unlooked c refusal over ∙ ap (recovered o 0) (skipped_here c fault b)

    -- else
    pub asks_on : c.between ≡ false → recover o stops false c ≡ recovered o 0 (resumed (skipped_document o stops
        c.steps))
    asks_on b = unlooked c refusal over ∙ ap (recovered o 0) (skipped_on c fault b)

    module _ (e : PlainEvent) (t : StepState) (next : next_event o c.steps ≡ Ok (Some e, t)) where
      pub seen_call : next_call o c ≡ (Some (Ok e), noted e.kind (record c { steps = t }))
      seen_call = call_going o c over fault refusal ∙ ap (given_by o c) next

      seen_looked : recover o stops true c
          ≡ recovered o (extra_of (starts_by e.kind c) (Some (Ok e))) (skipped o stops (starts_by e.kind c))
      seen_looked =
          looked c (Some (Ok e), noted e.kind (record c { steps = t })) refusal seen_call (starts_over e.kind c ∙ over)

      -- the event that was looked at stays
      pub asks_seen : c.between ≡ true → begins e.kind ≡ false
          → recover o stops true c ≡ recovered o (comment_count e.kind) (resumed c.steps)
      asks_seen b other =
          seen_looked
          ∙ ap (λ d. recovered o (extra_of d (Some (Ok e))) (skipped o stops d)) (starts_other e.kind c other)
          ∙ ap (λ (b : Bool). recovered o (if b then comment_count e.kind else 0) (skipped o stops c)) b
          ∙ ap (recovered o (comment_count e.kind)) (skipped_here c fault b)

      -- or it is dropped with its document
      pub asks_dropped : (c.between ≡ false) ⊎ (begins e.kind ≡ true)
          → recover o stops true c ≡ recovered o 0 (resumed (skipped_document o stops c.steps))
      asks_dropped within =
          let d : Calls = starts_by e.kind c in
          let none : d.between ≡ false = starts_between e.kind c within in
          seen_looked
          ∙ ap (λ (b : Bool). recovered o (if b then comment_count e.kind else 0) (skipped o stops d)) none
          ∙ ap (recovered o 0) (skipped_on d (starts_fault e.kind c ∙ fault) none)
          ∙ ap (λ s. recovered o 0 (resumed (skipped_document o stops s))) (starts_steps e.kind c)

-- ---- what is asked

module _ (o : OptionsData) where
  -- an event that is no comment tells
  told_other : (kind : EventKind) → is_note kind ≡ false → (kind ≡ StreamEnd → ⊥) → (room : ℕ) (e : PlainEvent)
      (es : List PlainEvent) → e.kind ≡ kind → told_by room (e ∷ es) ≡ Some (Ok true)
  told_other (Comment text placement) other going room e es is = absurd (cc)
  told_other StreamEnd other going room e es is = absurd (going refl)
  told_other kind other going room e es is =
      ap (λ k. told_event room k e.span.start (λ left. told_by left es)) is

  -- so a look tells that a document is there
  pub look_other : (e : PlainEvent) (t : StepState) → is_note e.kind ≡ false → (e.kind ≡ StreamEnd → ⊥) → (room : ℕ)
      → (s : StepState) → Comes o e t s → (look_ahead o room s).0 ≡ Ok true
  look_other e t other going room s (waits es is after) =
      ap (λ (l : Look). l.0) (look_turns.look_told o room s (Ok true)
      (ap (λ (u : StepState). told_by room u.pending) is ∙ told_other e.kind other going room e es refl))
  look_other e t other going room s (comes_on {u = u} given none turn more) =
      by (look_other e t other going room u more) (is_directives s.parser.stage) (is_directives u.parser.stage) refl
      refl
    where
      told : told_by room s.pending ≡ None
      told = ap (told_by room) none

      ahead : turn_ahead o s ≡ Ok (Some given, u)
      ahead =
          ap (λ es. behind_waiting es (step_turn o (with_pending [] s))) none
          ∙ ap (λ u. behind_waiting [] (step_turn o u)) (ap (λ es. with_pending es s) (sym none))
          ∙ ap (behind_waiting []) turn

      by : (look_ahead o room u).0 ≡ Ok true → (b d : Bool) → is_directives s.parser.stage ≡ b
          → is_directives u.parser.stage ≡ d
          → (look_ahead o room s).0 ≡ Ok true
      by later_tells true d here there =
          ap (λ (l : Look). l.0) (look_turns.look_ends o room s (Ok true, s) told
          (λ later. ap (λ (b : Bool). if b then (Ok true, s) else look_behind later s (turn_ahead o s)) here))
      by later_tells false true here there =
          ap (λ (l : Look). l.0) (look_turns.look_ends o room s (Ok true, u) told
          (λ later. ap (λ (b : Bool). if b then (Ok true, s) else look_behind later s (turn_ahead o s)) here
          ∙ ap (look_behind later s) ahead
          ∙ ap (λ (b : Bool). if b then (Ok true, u) else later u) there))
      by later_tells false false here there =
          ap (λ (l : Look). l.0) (look_turns.look_on o room s u given told here ahead there)
          ∙ later_tells
