use Rattle.std.proofs.Common.{◌≡◌, ◌∙◌, Result, Ok, Err, Some, None, ap, true, false, refl, rules, subst, sym, arith}
use Rattle.std.proofs.Common.{inl, inr}
use Rattle.granit_base.specs.declared.place.Span.{Span}
use Rattle.granit_error.specs.Refused.{Refused}
use Rattle.granit_event.specs.Events.{plain_event}
use Rattle.granit_event.specs.declared.event.Event.{Event}
use Rattle.granit_parser.proofs.LedLemmas.{CalledOr, led_event, led_fault, led_last, led_no_more, led_none, led_nowhere}
use Rattle.granit_parser.proofs.MetLemmas.{met_behind, quiet_first, quiet_on, unmet}
use Rattle.granit_parser.proofs.SendLemmas.{TookOr, sent_none, sent_event, sent_last, sent_all, sent_fault}
use Rattle.granit_parser.proofs.SendLemmas.{sent_no_more}
use Rattle.granit_parser.proofs.SourceLemmas.{moves_behind}
use Rattle.granit_parser.proofs.WantLemmas.{answered_none, counts_all, counts_more, counts_none, starves_by}
use Rattle.granit_parser.proofs.parser.Parser.load_rest.Goals as goal
use Rattle.granit_parser.specs.Parsing.{KeepsGiven}
use Rattle.granit_receivers.proofs.TakingLemmas.{took_one}
use Rattle.granit_receivers.specs.Sending.{is_last}
use Rattle.granit_receivers.specs.Taking.{Told, Took}
use Rattle.granit_sourced.proofs.SourceLemmas.{goes_giving}

pub events-init : goal.events-init
events-init g c = let r = g.R.SpannedEventReceiver in record {
  sent = sent_none g.T.Input.unread c.args.self.now c.args.multi
      (record { events = r.taken c.args.recv.now; places = r.spans c.args.recv.now });
  led = λ calls reached is at. led_nowhere g.T.Input.unread c.args.self.now.stepper.scanner.options c.args.multi calls
      c.args.self.now (record { events = r.taken c.args.recv.now; places = r.spans c.args.recv.now }) reached is at;
  counted = counts_none (record { events = r.taken c.args.recv.now; places = r.spans c.args.recv.now });
  same = refl;
  renumbered = refl;
  given = refl;
  moves = search rules;
  answered = λ unasked. unasked;
  quiet = λ none. quiet_first g.T.Input.origin c.args.self.now none;
}

pub returns-in-None-clause-known : goal.returns-in-None-clause-known
returns-in-None-clause-known g c =
    let r = g.R.SpannedEventReceiver in
    sent_all g.T.Input.unread g.T.Input.origin c.args.self.now c.events.self c.next_event.new.self c.args.multi
    (record { events = r.taken c.args.recv.now; places = r.spans c.args.recv.now })
    (record { events = r.taken c.events.recv; places = r.spans c.events.recv })
    (record { events = r.taken c.events.recv; places = r.spans c.events.recv })
    c.events.invariant.same c.events.invariant.sent c.in-None.ensures.known

pub returns-then-last-clause-known : goal.returns-then-last-clause-known
returns-then-last-clause-known g c =
    let r = g.R.SpannedEventReceiver in
    let x : Event × Span = (c.in-Some-Ok.event, c.in-Some-Ok.span) in
    let old : Told = record { events = r.taken c.args.recv.now; places = r.spans c.args.recv.now } in
    let mid : Told = record { events = r.taken c.events.recv; places = r.spans c.events.recv } in
    let new : Told = record { events = r.taken c.on_event.new.self; places = r.spans c.on_event.new.self } in
    let last : is_last c.args.multi (plain_event x).kind ≡ true = sym c.is_last-last.ensures ∙ c.if-last.true in
    sent_last g.T.Input.unread g.T.Input.origin c.args.self.now c.events.self c.next_event.new.self c.args.multi old
    mid new c.events.invariant.same c.events.invariant.sent x
    (subst (λ (y : Result (Event × Span) Refused). TookOr g.T.Input.unread g.T.Input.origin c.events.self (Some y)
    c.next_event.new.self)
    c.in-Some-Ok.field-0-is c.in-Some-Ok.ensures.known)
    last
    (took_one mid new x c.on_event.ensures.events c.on_event.ensures.places)

pub events-preserved : goal.events-preserved
events-preserved g c =
    let r = g.R.SpannedEventReceiver in
    let x : Event × Span = (c.in-Some-Ok.event, c.in-Some-Ok.span) in
    let old : Told = record { events = r.taken c.args.recv.now; places = r.spans c.args.recv.now } in
    let mid : Told = record { events = r.taken c.events.recv; places = r.spans c.events.recv } in
    let new : Told = record { events = r.taken c.on_event.new.self; places = r.spans c.on_event.new.self } in
    let more : is_last c.args.multi (plain_event x).kind ≡ false = sym c.is_last-last.ensures ∙ c.if-last.false in
    record {
      sent =
          sent_event g.T.Input.unread g.T.Input.origin c.args.self.now c.events.self c.next_event.new.self
          c.args.multi old mid new c.events.invariant.same c.events.invariant.sent x
          (subst
          (λ (y : Result (Event × Span) Refused). TookOr g.T.Input.unread g.T.Input.origin c.events.self (Some y)
          c.next_event.new.self)
          c.in-Some-Ok.field-0-is c.in-Some-Ok.ensures.known)
          more
          (took_one mid new x c.on_event.ensures.events c.on_event.ensures.places);
      led = λ calls reached is at.
          led_event g.T.Input.unread g.T.Input.origin c.args.self.now.stepper.scanner.options calls c.events.self
          c.next_event.new.self c.args.multi old mid new c.events.invariant.same
          (c.in-Some-Ok.ensures.options ∙ c.events.invariant.same) (c.events.invariant.led calls reached is at) x
          (subst (λ (y : Result (Event × Span) Refused). CalledOr g.T.Input.unread g.T.Input.origin c.events.self
          (Some y) c.next_event.new.self) c.in-Some-Ok.field-0-is c.in-Some-Ok.ensures.calls)
          more (took_one mid new x c.on_event.ensures.events c.on_event.ensures.places);
      counted = counts_more c.events._sent old mid new x c.events.invariant.counted
          (took_one mid new x c.on_event.ensures.events c.on_event.ensures.places);
      same = c.in-Some-Ok.ensures.options ∙ c.events.invariant.same;
      renumbered = c.in-Some-Ok.ensures.renumbered ∙ c.events.invariant.renumbered;
      given =
          subst (λ (y : Result (Event × Span) Refused). KeepsGiven (Some y) c.events.self.given
          c.next_event.new.self.given)
          c.in-Some-Ok.field-0-is c.in-Some-Ok.ensures.given ∙ c.events.invariant.given;
      moves =
          let more = moves_behind g.T.Input.unread g.T.Input.left g.T.Input.origin
          (Some c.in-Some-Ok.field-0) (Some (Ok x))
          c.args.self.now.stepper.scanner.cursor c.events.self c.next_event.new.self (ap Some c.in-Some-Ok.field-0-is)
          c.in-Some-Ok.ensures.seen c.in-Some-Ok.ensures.moves c.events.invariant.moves in
          (more.0, more.1, λ start before. c.in-Some-Ok.ensures.onward start (c.events.invariant.moves.2 start before));
      answered = λ unasked.
          answered_none c.in-Some-Ok.field-0 x c.events.self.answered c.next_event.new.self.answered
          c.in-Some-Ok.field-0-is c.in-Some-Ok.ensures.answered;
      quiet = quiet_on g.T.Input.unread g.T.Input.left g.T.Input.origin
          c.args.self.now c.events.self c.next_event.new.self
          c.events.invariant.quiet c.events.invariant.moves (Some c.in-Some-Ok.field-0) x
          (ap Some c.in-Some-Ok.field-0-is) c.in-Some-Ok.ensures.source c.in-Some-Ok.ensures.over
          c.in-Some-Ok.ensures.peeked;
    }

pub returns-in-None-clause-moves : goal.returns-in-None-clause-moves
returns-in-None-clause-moves g c =
    moves_behind g.T.Input.unread g.T.Input.left g.T.Input.origin
    None None c.args.self.now.stepper.scanner.cursor c.events.self
    c.next_event.new.self refl c.in-None.ensures.seen c.in-None.ensures.moves c.events.invariant.moves

pub returns-in-Some-Err-clause-moves : goal.returns-in-Some-Err-clause-moves
returns-in-Some-Err-clause-moves g c =
    moves_behind g.T.Input.unread g.T.Input.left g.T.Input.origin
    (Some c.in-Some-Err.field-0) (Some (Err c.in-Some-Err.error))
    c.args.self.now.stepper.scanner.cursor c.events.self c.next_event.new.self (ap Some c.in-Some-Err.field-0-is)
    c.in-Some-Err.ensures.seen c.in-Some-Err.ensures.moves c.events.invariant.moves

pub returns-then-last-clause-moves : goal.returns-then-last-clause-moves
returns-then-last-clause-moves g c =
    moves_behind g.T.Input.unread g.T.Input.left g.T.Input.origin (Some c.in-Some-Ok.field-0)
    (Some (Ok (c.in-Some-Ok.event, c.in-Some-Ok.span))) c.args.self.now.stepper.scanner.cursor c.events.self
    c.next_event.new.self (ap Some c.in-Some-Ok.field-0-is) c.in-Some-Ok.ensures.seen c.in-Some-Ok.ensures.moves
    c.events.invariant.moves

pub returns-clause-moves : goal.returns-clause-moves
returns-clause-moves g c =
    rw c.run_out.ensures.same (c.events.invariant.moves.0, goes_giving _ _ c.events.invariant.moves.1)

pub returns-in-Some-Err-clause-known : goal.returns-in-Some-Err-clause-known
returns-in-Some-Err-clause-known g c =
    let r = g.R.SpannedEventReceiver in
    let old : Told = record { events = r.taken c.args.recv.now; places = r.spans c.args.recv.now } in
    let mid : Told = record { events = r.taken c.events.recv; places = r.spans c.events.recv } in
    sent_fault g.T.Input.unread g.T.Input.origin c.args.self.now c.events.self c.next_event.new.self c.args.multi old
    mid
    mid c.events.invariant.same c.events.invariant.sent c.in-Some-Err.error
    (subst (λ (y : Result (Event × Span) Refused). TookOr g.T.Input.unread g.T.Input.origin c.events.self (Some y)
    c.next_event.new.self) c.in-Some-Err.field-0-is c.in-Some-Err.ensures.known)

pub returns-clause-known : goal.returns-clause-known
returns-clause-known g c =
    let r = g.R.SpannedEventReceiver in
    let old : Told = record { events = r.taken c.args.recv.now; places = r.spans c.args.recv.now } in
    let mid : Told = record { events = r.taken c.events.recv; places = r.spans c.events.recv } in
    sent_no_more g.T.Input.unread g.T.Input.origin c.args.self.now c.events.self c.run_out.new.self c.args.multi old mid
    mid c.events.invariant.same c.events.invariant.sent c.run_out.result c.run_out.ensures.kind

pub returns-in-None-clause-source : goal.returns-in-None-clause-source
returns-in-None-clause-source g c =
    met_behind g.T.Input.unread g.T.Input.left g.T.Input.origin c.args.self.now c.events.self c.next_event.new.self
    c.events.invariant.quiet c.events.invariant.moves None None refl c.in-None.ensures.source
    c.in-None.ensures.over

pub returns-in-Some-Err-clause-source : goal.returns-in-Some-Err-clause-source
returns-in-Some-Err-clause-source g c =
    met_behind g.T.Input.unread g.T.Input.left g.T.Input.origin c.args.self.now c.events.self c.next_event.new.self
    c.events.invariant.quiet c.events.invariant.moves (Some c.in-Some-Err.field-0) (Some (Err c.in-Some-Err.error))
    (ap Some c.in-Some-Err.field-0-is) c.in-Some-Err.ensures.source
    c.in-Some-Err.ensures.over

pub returns-then-last-clause-source : goal.returns-then-last-clause-source
returns-then-last-clause-source g c =
    met_behind g.T.Input.unread g.T.Input.left g.T.Input.origin c.args.self.now c.events.self c.next_event.new.self
    c.events.invariant.quiet c.events.invariant.moves (Some c.in-Some-Ok.field-0)
    (Some (Ok (c.in-Some-Ok.event, c.in-Some-Ok.span))) (ap Some c.in-Some-Ok.field-0-is) c.in-Some-Ok.ensures.source
    c.in-Some-Ok.ensures.over

pub returns-clause-source : goal.returns-clause-source
returns-clause-source g c = λ none f met before fresh.
    absurd (unmet g.T.Input.unread g.T.Input.left g.T.Input.origin c.args.self.now c.events.self c.run_out.new.self
    c.events.invariant.quiet c.events.invariant.moves c.run_out.ensures.same none f met before fresh)

pub returns-in-None-clause-calls : goal.returns-in-None-clause-calls
returns-in-None-clause-calls g c = λ calls reached is at.
    let r = g.R.SpannedEventReceiver in
    let old : Told = record { events = r.taken c.args.recv.now; places = r.spans c.args.recv.now } in
    let mid : Told = record { events = r.taken c.events.recv; places = r.spans c.events.recv } in
    led_none g.T.Input.unread g.T.Input.origin c.args.self.now.stepper.scanner.options calls c.events.self
    c.next_event.new.self c.args.multi old mid mid c.events.invariant.same
    (c.in-None.ensures.options ∙ c.events.invariant.same) (c.events.invariant.led calls reached is at)
    true c.in-None.ensures.calls

pub returns-in-Some-Err-clause-calls : goal.returns-in-Some-Err-clause-calls
returns-in-Some-Err-clause-calls g c = λ calls reached is at.
    let r = g.R.SpannedEventReceiver in
    let old : Told = record { events = r.taken c.args.recv.now; places = r.spans c.args.recv.now } in
    let mid : Told = record { events = r.taken c.events.recv; places = r.spans c.events.recv } in
    led_fault g.T.Input.unread g.T.Input.origin c.args.self.now.stepper.scanner.options calls c.events.self
    c.next_event.new.self c.args.multi old mid mid c.events.invariant.same
    (c.in-Some-Err.ensures.options ∙ c.events.invariant.same) (c.events.invariant.led calls reached is at)
    c.in-Some-Err.error
    (subst (λ (y : Result (Event × Span) Refused). CalledOr g.T.Input.unread g.T.Input.origin c.events.self (Some y)
    c.next_event.new.self) c.in-Some-Err.field-0-is c.in-Some-Err.ensures.calls)

pub returns-then-last-clause-calls : goal.returns-then-last-clause-calls
returns-then-last-clause-calls g c = λ calls reached is at.
    let r = g.R.SpannedEventReceiver in
    let old : Told = record { events = r.taken c.args.recv.now; places = r.spans c.args.recv.now } in
    let mid : Told = record { events = r.taken c.events.recv; places = r.spans c.events.recv } in
    let x : Event × Span = (c.in-Some-Ok.event, c.in-Some-Ok.span) in
    let new : Told = record { events = r.taken c.on_event.new.self; places = r.spans c.on_event.new.self } in
    let last : is_last c.args.multi (plain_event x).kind ≡ true = sym c.is_last-last.ensures ∙ c.if-last.true in
    led_last g.T.Input.unread g.T.Input.origin c.args.self.now.stepper.scanner.options calls c.events.self
    c.next_event.new.self c.args.multi old mid new c.events.invariant.same
    (c.in-Some-Ok.ensures.options ∙ c.events.invariant.same) (c.events.invariant.led calls reached is at) x
    (subst (λ (y : Result (Event × Span) Refused). CalledOr g.T.Input.unread g.T.Input.origin c.events.self (Some y)
    c.next_event.new.self) c.in-Some-Ok.field-0-is c.in-Some-Ok.ensures.calls)
    (took_one mid new x c.on_event.ensures.events c.on_event.ensures.places) true (λ e. last)

pub returns-clause-calls : goal.returns-clause-calls
returns-clause-calls g c = λ calls reached is at.
    let r = g.R.SpannedEventReceiver in
    led_no_more g.T.Input.unread g.T.Input.origin c.args.self.now.stepper.scanner.options c.args.multi
    (Took (record { events = r.taken c.args.recv.now; places = r.spans c.args.recv.now })
    (record { events = r.taken c.events.recv; places = r.spans c.events.recv })) c.run_out.new.self calls
    c.run_out.result c.run_out.ensures.kind

pub returns-in-Some-Err-clause-memory : goal.returns-in-Some-Err-clause-memory
returns-in-Some-Err-clause-memory g c = λ wants. inl (starves_by c.in-Some-Err.field-0 c.in-Some-Err.error
    c.in-Some-Err.field-0-is c.events.self.starved c.next_event.new.self.starved c.in-Some-Err.ensures.starved wants)

pub returns-clause-memory : goal.returns-clause-memory
returns-clause-memory g c =
    let r = g.R.SpannedEventReceiver in
    let old : Told = record { events = r.taken c.args.recv.now; places = r.spans c.args.recv.now } in
    let mid : Told = record { events = r.taken c.events.recv; places = r.spans c.events.recv } in
    let all = c.events-test.false in
    λ wants. inr (counts_all c.events._sent old mid c.events.invariant.counted (omega arith))

pub returns-in-None-clause-answered : goal.returns-in-None-clause-answered
returns-in-None-clause-answered g c = λ unasked. c.in-None.ensures.answered ∙ c.events.invariant.answered unasked

pub returns-then-last-clause-answered : goal.returns-then-last-clause-answered
returns-then-last-clause-answered g c = λ unasked.
    answered_none c.in-Some-Ok.field-0 (c.in-Some-Ok.event, c.in-Some-Ok.span) c.events.self.answered
    c.next_event.new.self.answered c.in-Some-Ok.field-0-is c.in-Some-Ok.ensures.answered

pub returns-in-None-clause-peeked : goal.returns-in-None-clause-peeked
returns-in-None-clause-peeked g c = c.in-None.ensures.peeked

pub returns-in-None-clause-options : goal.returns-in-None-clause-options
returns-in-None-clause-options g c = c.in-None.ensures.options ∙ c.events.invariant.same

pub returns-in-None-clause-renumbered : goal.returns-in-None-clause-renumbered
returns-in-None-clause-renumbered g c = c.in-None.ensures.renumbered ∙ c.events.invariant.renumbered

pub returns-in-None-clause-onward : goal.returns-in-None-clause-onward
returns-in-None-clause-onward g c = λ start before.
    c.in-None.ensures.onward start (c.events.invariant.moves.2 start before)

pub returns-in-Some-Err-clause-peeked : goal.returns-in-Some-Err-clause-peeked
returns-in-Some-Err-clause-peeked g c = c.in-Some-Err.ensures.peeked

pub returns-in-Some-Err-clause-options : goal.returns-in-Some-Err-clause-options
returns-in-Some-Err-clause-options g c = c.in-Some-Err.ensures.options ∙ c.events.invariant.same

pub returns-in-Some-Err-clause-renumbered : goal.returns-in-Some-Err-clause-renumbered
returns-in-Some-Err-clause-renumbered g c = c.in-Some-Err.ensures.renumbered ∙ c.events.invariant.renumbered

pub returns-in-Some-Err-clause-onward : goal.returns-in-Some-Err-clause-onward
returns-in-Some-Err-clause-onward g c = λ start before.
    c.in-Some-Err.ensures.onward start (c.events.invariant.moves.2 start before)

pub returns-then-last-clause-peeked : goal.returns-then-last-clause-peeked
returns-then-last-clause-peeked g c = c.in-Some-Ok.ensures.peeked

pub returns-then-last-clause-options : goal.returns-then-last-clause-options
returns-then-last-clause-options g c = c.in-Some-Ok.ensures.options ∙ c.events.invariant.same

pub returns-then-last-clause-renumbered : goal.returns-then-last-clause-renumbered
returns-then-last-clause-renumbered g c = c.in-Some-Ok.ensures.renumbered ∙ c.events.invariant.renumbered

pub returns-then-last-clause-onward : goal.returns-then-last-clause-onward
returns-then-last-clause-onward g c = λ start before.
    c.in-Some-Ok.ensures.onward start (c.events.invariant.moves.2 start before)

pub returns-in-None-clause-given : goal.returns-in-None-clause-given
returns-in-None-clause-given g c = λ none. c.in-None.ensures.given ∙ c.events.invariant.given ∙ none

pub returns-clause-peeked : goal.returns-clause-peeked
returns-clause-peeked g c = c.run_out.ensures.over.none

pub returns-clause-options : goal.returns-clause-options
returns-clause-options g c = rw c.run_out.ensures.same c.events.invariant.same

pub returns-clause-renumbered : goal.returns-clause-renumbered
returns-clause-renumbered g c = c.run_out.ensures.renumbered ∙ c.events.invariant.renumbered

pub returns-clause-onward : goal.returns-clause-onward
returns-clause-onward g c = rw c.run_out.ensures.same c.events.invariant.moves.2
