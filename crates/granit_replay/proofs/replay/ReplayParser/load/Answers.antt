use Rattle.std.proofs.Common.{◌≡◌, ◌∙◌, Some, None, true, false, sym}
use Rattle.granit_base.specs.declared.place.Span.{Span}
use Rattle.granit_event.specs.declared.event.Event.{Event}
use Rattle.granit_receivers.proofs.TakingLemmas.{took_one}
use Rattle.granit_receivers.specs.Taking.{Told}
use Rattle.granit_replay.proofs.SendLemmas.{all_left, all_took, last_left, last_took, sent_event}
use Rattle.granit_replay.proofs.replay.ReplayParser.load.Goals as goal
use Rattle.granit_replay.specs.Replaying.{first_of}
use Rattle.granit_replay.specs.Sending.{ends_with}

pub returns-then-last-clause-sent : goal.returns-then-last-clause-sent
returns-then-last-clause-sent g c =
    let r = g.R.SpannedEventReceiver in
    let old : Told = record { events = r.taken c.args.recv.now; places = r.spans c.args.recv.now } in
    let mid : Told = record { events = r.taken c.events.recv; places = r.spans c.events.recv } in
    let new : Told = record { events = r.taken c.on_event.new.self; places = r.spans c.on_event.new.self } in
    let e : Event × Span = (c.in-Some.event, c.in-Some.span) in
    let first : first_of c.events.self.events ≡ Some e = cc (c.take.ensures.value, c.in-Some.is) in
    let last : ends_with c.args.multi e ≡ true = sym c.is_last-last.ensures ∙ c.if-last.true in
    last_took c.args.multi c.args.self.now c.events.self old mid c.events.invariant c.take.new.self
    c.take.ensures.after e first new last (took_one mid new e c.on_event.ensures.events c.on_event.ensures.places)

pub returns-then-last-clause-left : goal.returns-then-last-clause-left
returns-then-last-clause-left g c =
    let r = g.R.SpannedEventReceiver in
    let old : Told = record { events = r.taken c.args.recv.now; places = r.spans c.args.recv.now } in
    let mid : Told = record { events = r.taken c.events.recv; places = r.spans c.events.recv } in
    let e : Event × Span = (c.in-Some.event, c.in-Some.span) in
    let first : first_of c.events.self.events ≡ Some e = cc (c.take.ensures.value, c.in-Some.is) in
    let last : ends_with c.args.multi e ≡ true = sym c.is_last-last.ensures ∙ c.if-last.true in
    last_left c.args.multi c.args.self.now c.events.self old mid c.events.invariant c.take.new.self
    c.take.ensures.after e first last

pub events-preserved : goal.events-preserved
events-preserved g c =
    let r = g.R.SpannedEventReceiver in
    let old : Told = record { events = r.taken c.args.recv.now; places = r.spans c.args.recv.now } in
    let mid : Told = record { events = r.taken c.events.recv; places = r.spans c.events.recv } in
    let new : Told = record { events = r.taken c.on_event.new.self; places = r.spans c.on_event.new.self } in
    let e : Event × Span = (c.in-Some.event, c.in-Some.span) in
    let first : first_of c.events.self.events ≡ Some e = cc (c.take.ensures.value, c.in-Some.is) in
    let more : ends_with c.args.multi e ≡ false = sym c.is_last-last.ensures ∙ c.if-last.false in
    sent_event c.args.multi c.args.self.now c.events.self old mid c.events.invariant c.take.new.self
    c.take.ensures.after e first new more (took_one mid new e c.on_event.ensures.events c.on_event.ensures.places)

pub returns-clause-sent : goal.returns-clause-sent
returns-clause-sent g c =
    let r = g.R.SpannedEventReceiver in
    let old : Told = record { events = r.taken c.args.recv.now; places = r.spans c.args.recv.now } in
    let mid : Told = record { events = r.taken c.events.recv; places = r.spans c.events.recv } in
    let none : first_of c.events.self.events ≡ None = cc (c.take.ensures.value, c.in_default.is) in
    all_took c.args.multi c.args.self.now c.events.self old mid c.events.invariant c.take.new.self
    c.take.ensures.after none

pub returns-clause-left : goal.returns-clause-left
returns-clause-left g c =
    let r = g.R.SpannedEventReceiver in
    let old : Told = record { events = r.taken c.args.recv.now; places = r.spans c.args.recv.now } in
    let mid : Told = record { events = r.taken c.events.recv; places = r.spans c.events.recv } in
    let none : first_of c.events.self.events ≡ None = cc (c.take.ensures.value, c.in_default.is) in
    all_left c.args.multi c.args.self.now c.events.self old mid c.events.invariant c.take.new.self
    c.take.ensures.after none
