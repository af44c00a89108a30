use Rattle.std.proofs.Common.{◌≡◌, ◌∙◌, Some, true, false, Result, Ok, Err, subst, sym, arith}
use Rattle.granit_base.specs.Counts.{last_count}
use Rattle.granit_base.specs.declared.place.Span.{Span}
use Rattle.granit_error.specs.Refused.{Refused}
use Rattle.granit_event.specs.declared.event.Event.{Event}
use Rattle.granit_layers.proofs.SendLemmas.{sent_all, sent_before, sent_event, sent_last, sent_no_more, sent_none}
use Rattle.granit_layers.proofs.layers.Layers.load.Goals as goal
use Rattle.granit_layers.specs.Stacking.{StepsTo}
use Rattle.granit_receivers.proofs.TakingLemmas.{took_one}
use Rattle.granit_receivers.specs.Taking.{Told}
use Rattle.granit_replay.specs.Sending.{ends_with}

pub events-init : goal.events-init
events-init g c =
    let r = g.R.SpannedEventReceiver in
    let s = g.S.StackedParser in
    sent_none s.steps s.offset_of s.sets_offset c.args.multi c.args.self.now (record {
      events = r.taken
          c.args.recv.now;
      places = r.spans c.args.recv.now;
    })

pub returns-in-None-clause-sent : goal.returns-in-None-clause-sent
returns-in-None-clause-sent g c =
    let r = g.R.SpannedEventReceiver in
    let s = g.S.StackedParser in
    let old : Told = (record { events = r.taken c.args.recv.now; places = r.spans c.args.recv.now }) in
    let mid : Told = (record { events = r.taken c.events.recv; places = r.spans c.events.recv }) in
    λ going. sent_all s.steps s.offset_of s.sets_offset c.args.multi c.events._count c.args.self.now c.events.self
    c.next_event.new.self old mid c.events.invariant
    c.in-None.ensures

pub returns-in-Some-Err-clause-sent : goal.returns-in-Some-Err-clause-sent
returns-in-Some-Err-clause-sent g c =
    let r = g.R.SpannedEventReceiver in
    let s = g.S.StackedParser in
    let old : Told = (record { events = r.taken c.args.recv.now; places = r.spans c.args.recv.now }) in
    let mid : Told = (record { events = r.taken c.events.recv; places = r.spans c.events.recv }) in
    let step : StepsTo s.steps s.offset_of s.sets_offset c.events.self (Some (Err c.in-Some-Err.error))
    c.next_event.new.self =
    subst (λ (x : Result (Event × Span) Refused). StepsTo s.steps s.offset_of s.sets_offset c.events.self (Some x)
    c.next_event.new.self) c.in-Some-Err.field-0-is c.in-Some-Err.ensures in
    λ going. sent_before s.steps s.offset_of s.sets_offset c.args.multi c.events._count c.args.self.now c.events.self
    c.next_event.new.self old mid c.events.invariant
    c.in-Some-Err.error step

pub returns-then-last-clause-sent : goal.returns-then-last-clause-sent
returns-then-last-clause-sent g c =
    let r = g.R.SpannedEventReceiver in
    let s = g.S.StackedParser in
    let old : Told = (record { events = r.taken c.args.recv.now; places = r.spans c.args.recv.now }) in
    let mid : Told = (record { events = r.taken c.events.recv; places = r.spans c.events.recv }) in
    let new : Told = (record { events = r.taken c.on_event.new.self; places = r.spans c.on_event.new.self }) in
    let e : Event × Span = (c.in-Some-Ok.event, c.in-Some-Ok.span) in
    let step : StepsTo s.steps s.offset_of s.sets_offset c.events.self (Some (Ok e)) c.next_event.new.self =
    subst (λ (x : Result (Event × Span) Refused). StepsTo s.steps s.offset_of s.sets_offset c.events.self (Some x)
    c.next_event.new.self) c.in-Some-Ok.field-0-is c.in-Some-Ok.ensures in
    let last : ends_with c.args.multi e ≡ true = sym c.is_last-last.ensures ∙ c.if-last.true in
    λ going. sent_last s.steps s.offset_of s.sets_offset c.args.multi c.events._count c.args.self.now c.events.self
    c.next_event.new.self old mid c.events.invariant new
    e step last (took_one mid new e c.on_event.ensures.events c.on_event.ensures.places)

pub events-preserved : goal.events-preserved
events-preserved g c =
    let r = g.R.SpannedEventReceiver in
    let s = g.S.StackedParser in
    let old : Told = (record { events = r.taken c.args.recv.now; places = r.spans c.args.recv.now }) in
    let mid : Told = (record { events = r.taken c.events.recv; places = r.spans c.events.recv }) in
    let new : Told = (record { events = r.taken c.on_event.new.self; places = r.spans c.on_event.new.self }) in
    let e : Event × Span = (c.in-Some-Ok.event, c.in-Some-Ok.span) in
    let step : StepsTo s.steps s.offset_of s.sets_offset c.events.self (Some (Ok e)) c.next_event.new.self =
    subst (λ (x : Result (Event × Span) Refused). StepsTo s.steps s.offset_of s.sets_offset c.events.self (Some x)
    c.next_event.new.self) c.in-Some-Ok.field-0-is c.in-Some-Ok.ensures in
    let more : ends_with c.args.multi e ≡ false = sym c.is_last-last.ensures ∙ c.if-last.false in
    sent_event s.steps s.offset_of s.sets_offset c.args.multi c.events._count c.args.self.now c.events.self
    c.next_event.new.self
    old mid c.events.invariant new
    e step more (took_one mid new e c.on_event.ensures.events c.on_event.ensures.places)

pub returns-clause-sent : goal.returns-clause-sent
returns-clause-sent g c =
    let r = g.R.SpannedEventReceiver in
    let s = g.S.StackedParser in
    let old : Told = (record { events = r.taken c.args.recv.now; places = r.spans c.args.recv.now }) in
    let mid : Told = (record { events = r.taken c.events.recv; places = r.spans c.events.recv }) in
    let least = c.events-test.false in
    let most = c.events.auto._count-end in
    let all : c.events._count ≡ last_count = omega arith in
    λ going. sent_no_more s.steps s.offset_of s.sets_offset c.args.multi c.events._count c.args.self.now c.events.self
    c.run_out.new.self old mid c.events.invariant
    c.run_out.result c.run_out.ensures all
