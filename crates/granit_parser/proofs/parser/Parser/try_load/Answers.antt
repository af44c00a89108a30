use Rattle.std.proofs.Common.{refl, le_refl}
use Rattle.std.proofs.Common.{◌≡◌, ◌∙◌, [], ◌∷◌, Some, Err, true, false, sym, subst}
use Rattle.std.proofs.lemmas.Result.{err_from_is_err_and}
use Rattle.std.specs.Prelude.{⊤}
use Rattle.granit_base.specs.declared.place.Span.{Span}
use Rattle.granit_error.specs.OptionsData.{OptionsData}
use Rattle.granit_event.specs.Events.{plain_event}
use Rattle.granit_event.specs.declared.event.Event.{Event}
use Rattle.granit_input.proofs.OriginLemmas.{goes_nowhere}
use Rattle.granit_parser.proofs.FirstLemmas.{first_is_last, first_is_refused, goes_behind, over_nowhere, tries_behind}
use Rattle.granit_parser.proofs.FirstLemmas.{try_refused}
use Rattle.granit_parser.proofs.LedLemmas.{first_led, leaves_behind, try_failed, over_closed, unasked}
use Rattle.granit_parser.proofs.MetLemmas.{try_tells, over_tells, rest_tells}
use Rattle.granit_parser.proofs.WantLemmas.{given_nothing, try_refuses, try_wants, unless_refused, wants_behind}
use Rattle.granit_parser.proofs.WantLemmas.{was_fed}
use Rattle.granit_parser.proofs.parser.Parser.try_load.Goals as goal
use Rattle.granit_parser.specs.Receiving.{IsPlaceOf, TriesRest, scanned}
use Rattle.granit_receivers.proofs.TakingLemmas.{took_one}
use Rattle.granit_receivers.specs.Sending.{is_last}
use Rattle.granit_receivers.specs.Taking.{Told, Took}
use Rattle.granit_sourced.proofs.SourceLemmas.{goes_giving, moves_on}

pub returns-in-Some-clause-known : goal.returns-in-Some-clause-known
returns-in-Some-clause-known g c = λ m at.
    absurd (over_nowhere g.T.Input.unread c.args.self.now m c.in-Some.ensures.over at)

pub returns-in_err-event-clause-known : goal.returns-in_err-event-clause-known
returns-in_err-event-clause-known g c =
    let r = g.R.TrySpannedEventReceiver in
    let told : Told = record { events = r.taken c.args.recv.now; places = r.spans c.args.recv.now } in
    λ m at.
    try_refused g.T.Input.unread g.T.Input.origin c.args.self.now.stepper.scanner.options c.args.multi m told
    c.first_event.new.self
    c.in_err-event.field-0.0 (c.in_err-event.ensures.known m at) c.from_residual.result c.from_residual.ensures.1

pub returns-in-Err-clause-known : goal.returns-in-Err-clause-known
returns-in-Err-clause-known g c =
    let r = g.R.TrySpannedEventReceiver in
    let o = c.args.self.now.stepper.scanner.options in
    let place = IsPlaceOf g.T.Input.unread c.first_event.new.self.stepper.scanner.cursor in
    let x : Event × Span = (c.in_ok-event.event, c.in_ok-event.span) in
    let old : Told = record { events = r.taken c.args.recv.now; places = r.spans c.args.recv.now } in
    let new : Told = record { events = r.taken c.on_event.new.self; places = r.spans c.on_event.new.self } in
    λ m at.
    let first = c.in_ok-event.ensures.known m at in (
      x ∷ [],
      took_one old new x c.in-Err.ensures.events c.in-Err.ensures.places,
      (first.0, first.1, first_is_refused o c.args.multi place m first.0 x first.2),
    )

pub returns-then-last-clause-known : goal.returns-then-last-clause-known
returns-then-last-clause-known g c =
    let r = g.R.TrySpannedEventReceiver in
    let o = c.args.self.now.stepper.scanner.options in
    let place = IsPlaceOf g.T.Input.unread c.first_event.new.self.stepper.scanner.cursor in
    let x : Event × Span = (c.in_ok-event.event, c.in_ok-event.span) in
    let old : Told = record { events = r.taken c.args.recv.now; places = r.spans c.args.recv.now } in
    let new : Told = record { events = r.taken c.on_event.new.self; places = r.spans c.on_event.new.self } in
    let last : is_last c.args.multi (plain_event x).kind ≡ true = sym c.is_last-last.ensures ∙ c.if-last.true in
    λ m at.
    let first = c.in_ok-event.ensures.known m at in (
      x ∷ [],
      took_one old new x c.on_event.ensures.events c.on_event.ensures.places,
      (first.0, first.1, first_is_last o c.args.multi place m first.0 x last first.2),
    )

pub returns-clause-known : goal.returns-clause-known
returns-clause-known g c =
    let r = g.R.TrySpannedEventReceiver in
    let o = c.args.self.now.stepper.scanner.options in
    let place = IsPlaceOf g.T.Input.unread c.first_event.new.self.stepper.scanner.cursor in
    let x : Event × Span = (c.in_ok-event.event, c.in_ok-event.span) in
    let old : Told = record { events = r.taken c.args.recv.now; places = r.spans c.args.recv.now } in
    let mid : Told = record { events = r.taken c.on_event.new.self; places = r.spans c.on_event.new.self } in
    let new : Told = record { events = r.taken c.try_rest.new.recv; places = r.spans c.try_rest.new.recv } in
    let more : is_last c.args.multi (plain_event x).kind ≡ false = sym c.is_last-last.ensures ∙ c.if-last.false in
    λ m at.
    let first = c.in_ok-event.ensures.known m at in
    tries_behind g.T.Input.unread g.T.Input.origin o c.args.multi m first.0 x old mid new c.try_rest.new.self more
    (goes_behind o c.args.multi place m first.0 (plain_event x) more first.2)
    (took_one old mid x c.on_event.ensures.events c.on_event.ensures.places) c.try_rest.result
    (subst (λ (q : OptionsData). TriesRest g.T.Input.unread g.T.Input.origin q c.args.multi first.0 (Took mid new)
    c.try_rest.new.self c.try_rest.result) c.in_ok-event.ensures.options
    (c.try_rest.ensures.known first.0 first.1))

pub returns-in-Some-clause-source : goal.returns-in-Some-clause-source
returns-in-Some-clause-source g c =
    over_tells g.T.Input.left g.T.Input.origin c.args.self.now.stepper {X = ⊤} c.args.self.now.peeked
    (Some (Err c.in-Some.error)) c.args.self.now.stepper.scanner.cursor c.in-Some.ensures.over.failed

pub returns-in_err-event-clause-source : goal.returns-in_err-event-clause-source
returns-in_err-event-clause-source g c =
    try_tells g.T.Input.left g.T.Input.origin c.args.self.now.stepper c.args.self.now.peeked c.in_err-event.field-0.0
    c.first_event.new.self.stepper.scanner.cursor c.from_residual.result c.from_residual.ensures.1
    c.in_err-event.ensures.source

pub returns-clause-source : goal.returns-clause-source
returns-clause-source g c =
    rest_tells g.T.Input.left g.T.Input.origin c.args.self.now.stepper c.args.self.now.peeked
    (c.in_ok-event.event, c.in_ok-event.span) c.first_event.new.self (scanned c.try_rest.result)
    c.try_rest.new.self.stepper.scanner.cursor c.in_ok-event.ensures.source c.in_ok-event.ensures.moves
    c.in_ok-event.ensures.peeked c.try_rest.ensures.source

pub returns-in-Some-clause-calls : goal.returns-in-Some-clause-calls
returns-in-Some-clause-calls g c = λ calls reached is at.
    absurd (over_closed g.T.Input.unread c.args.self.now calls c.in-Some.ensures.over is at)

pub returns-in_err-event-clause-calls : goal.returns-in_err-event-clause-calls
returns-in_err-event-clause-calls g c = λ calls reached is at.
    let r = g.R.TrySpannedEventReceiver in
    let told : Told = record { events = r.taken c.args.recv.now; places = r.spans c.args.recv.now } in
    try_failed g.T.Input.unread g.T.Input.origin c.args.self.now.stepper.scanner.options calls c.first_event.new.self
    c.in_err-event.ensures.options c.args.multi told c.in_err-event.field-0.0
    (c.in_err-event.ensures.calls calls reached is at) c.from_residual.result c.from_residual.ensures.1

pub returns-in-Err-clause-calls : goal.returns-in-Err-clause-calls
returns-in-Err-clause-calls g c = λ calls reached is at.
    let r = g.R.TrySpannedEventReceiver in
    let x : Event × Span = (c.in_ok-event.event, c.in_ok-event.span) in
    let old : Told = record { events = r.taken c.args.recv.now; places = r.spans c.args.recv.now } in
    let new : Told = record { events = r.taken c.on_event.new.self; places = r.spans c.on_event.new.self } in
    first_led g.T.Input.unread g.T.Input.origin c.args.self.now.stepper.scanner.options calls c.first_event.new.self
    c.in_ok-event.ensures.options c.args.multi false old new x unasked
    (c.in_ok-event.ensures.calls calls reached is at)
    (took_one old new x c.in-Err.ensures.events c.in-Err.ensures.places)

pub returns-then-last-clause-calls : goal.returns-then-last-clause-calls
returns-then-last-clause-calls g c = λ calls reached is at.
    let r = g.R.TrySpannedEventReceiver in
    let x : Event × Span = (c.in_ok-event.event, c.in_ok-event.span) in
    let old : Told = record { events = r.taken c.args.recv.now; places = r.spans c.args.recv.now } in
    let new : Told = record { events = r.taken c.on_event.new.self; places = r.spans c.on_event.new.self } in
    let last : is_last c.args.multi (plain_event x).kind ≡ true = sym c.is_last-last.ensures ∙ c.if-last.true in
    first_led g.T.Input.unread g.T.Input.origin c.args.self.now.stepper.scanner.options calls c.first_event.new.self
    c.in_ok-event.ensures.options c.args.multi true old new x (λ e. last)
    (c.in_ok-event.ensures.calls calls reached is at)
    (took_one old new x c.on_event.ensures.events c.on_event.ensures.places)

pub returns-clause-calls : goal.returns-clause-calls
returns-clause-calls g c = λ calls reached is at.
    let r = g.R.TrySpannedEventReceiver in
    let x : Event × Span = (c.in_ok-event.event, c.in_ok-event.span) in
    let old : Told = record { events = r.taken c.args.recv.now; places = r.spans c.args.recv.now } in
    let mid : Told = record { events = r.taken c.on_event.new.self; places = r.spans c.on_event.new.self } in
    let new : Told = record { events = r.taken c.try_rest.new.recv; places = r.spans c.try_rest.new.recv } in
    let more : is_last c.args.multi (plain_event x).kind ≡ false = sym c.is_last-last.ensures ∙ c.if-last.false in
    leaves_behind g.T.Input.unread g.T.Input.origin c.args.self.now.stepper.scanner.options calls
    c.first_event.new.self c.in_ok-event.ensures.options c.args.multi old mid new x more
    (took_one old mid x c.on_event.ensures.events c.on_event.ensures.places) c.try_rest.new.self
    (scanned c.try_rest.result) (c.in_ok-event.ensures.calls calls reached is at) reached is
    c.try_rest.ensures.calls

pub returns-in-Some-clause-memory : goal.returns-in-Some-clause-memory
returns-in-Some-clause-memory g c = λ none.
    absurd (given_nothing c.args.self.now.given c.in-Some.error c.in-Some.ensures.again none)

pub returns-in_err-event-clause-memory : goal.returns-in_err-event-clause-memory
returns-in_err-event-clause-memory g c =
    let r = g.R.TrySpannedEventReceiver in
    let told : Told = record { events = r.taken c.args.recv.now; places = r.spans c.args.recv.now } in
    λ none. (
      was_fed c.args.self.now.given c.args.self.now.starved c.given_again.ensures.starved none,
      try_wants c.in_err-event.field-0.0 c.first_event.new.self.starved (Took told told)
          c.in_err-event.ensures.memory c.from_residual.result c.from_residual.ensures.1,
    )

pub returns-clause-memory : goal.returns-clause-memory
returns-clause-memory g c =
    let r = g.R.TrySpannedEventReceiver in
    let x : Event × Span = (c.in_ok-event.event, c.in_ok-event.span) in
    let old : Told = record { events = r.taken c.args.recv.now; places = r.spans c.args.recv.now } in
    let mid : Told = record { events = r.taken c.on_event.new.self; places = r.spans c.on_event.new.self } in
    let new : Told = record { events = r.taken c.try_rest.new.recv; places = r.spans c.try_rest.new.recv } in
    λ none. (
      was_fed c.args.self.now.given c.args.self.now.starved c.given_again.ensures.starved none,
      wants_behind c.try_rest.new.self.starved old mid new x
          (took_one old mid x c.on_event.ensures.events c.on_event.ensures.places) (scanned c.try_rest.result)
          c.try_rest.ensures.memory,
    )

pub returns-then-last-clause-memory : goal.returns-then-last-clause-memory
returns-then-last-clause-memory g c = λ none. (
  was_fed c.args.self.now.given c.args.self.now.starved c.given_again.ensures.starved none,
  tt,
)

pub returns-in-Err-clause-memory : goal.returns-in-Err-clause-memory
returns-in-Err-clause-memory g c = λ none. (
  was_fed c.args.self.now.given c.args.self.now.starved c.given_again.ensures.starved none,
  tt,
)

pub returns-in_err-event-clause-answered : goal.returns-in_err-event-clause-answered
returns-in_err-event-clause-answered g c = λ calls reached is at.
    try_refuses (c.first_event.new.self.answered ≡ false) c.in_err-event.field-0.0 c.from_residual.result
    c.from_residual.ensures.1

pub returns-clause-answered : goal.returns-clause-answered
returns-clause-answered g c = λ calls reached is at.
    unless_refused (c.first_event.new.self.answered ≡ false) (c.try_rest.new.self.answered ≡ false)
    (scanned c.try_rest.result) c.try_rest.ensures.answered (c.in_ok-event.ensures.answered calls reached is at)

pub returns-in-Some-clause-peeked : goal.returns-in-Some-clause-peeked
returns-in-Some-clause-peeked g c = c.in-Some.ensures.over.none

pub returns-in-Some-clause-answered : goal.returns-in-Some-clause-answered
returns-in-Some-clause-answered g c = λ calls reached is at.
    absurd (over_closed g.T.Input.unread c.args.self.now calls c.in-Some.ensures.over is at)

pub returns-in-Some-clause-given : goal.returns-in-Some-clause-given
returns-in-Some-clause-given g c = λ none.
    absurd (given_nothing c.args.self.now.given c.in-Some.error c.in-Some.ensures.again none)

pub returns-in-Some-clause-options : goal.returns-in-Some-clause-options
returns-in-Some-clause-options g c = refl

pub returns-in-Some-clause-renumbered : goal.returns-in-Some-clause-renumbered
returns-in-Some-clause-renumbered g c = refl

pub returns-in-Some-clause-moves : goal.returns-in-Some-clause-moves
returns-in-Some-clause-moves g c = (le_refl _, goes_giving _ _ (goes_nowhere _))

pub returns-in-Some-clause-onward : goal.returns-in-Some-clause-onward
returns-in-Some-clause-onward g c = λ start before. before

pub returns-in_err-event-clause-peeked : goal.returns-in_err-event-clause-peeked
returns-in_err-event-clause-peeked g c = c.in_err-event.ensures.peeked

pub returns-in_err-event-clause-options : goal.returns-in_err-event-clause-options
returns-in_err-event-clause-options g c = c.in_err-event.ensures.options

pub returns-in_err-event-clause-renumbered : goal.returns-in_err-event-clause-renumbered
returns-in_err-event-clause-renumbered g c = c.in_err-event.ensures.renumbered

pub returns-in_err-event-clause-onward : goal.returns-in_err-event-clause-onward
returns-in_err-event-clause-onward g c = c.in_err-event.ensures.onward

pub returns-then-last-clause-peeked : goal.returns-then-last-clause-peeked
returns-then-last-clause-peeked g c = c.in_ok-event.ensures.peeked

pub returns-then-last-clause-given : goal.returns-then-last-clause-given
returns-then-last-clause-given g c = c.in_ok-event.ensures.given

pub returns-then-last-clause-options : goal.returns-then-last-clause-options
returns-then-last-clause-options g c = c.in_ok-event.ensures.options

pub returns-then-last-clause-renumbered : goal.returns-then-last-clause-renumbered
returns-then-last-clause-renumbered g c = c.in_ok-event.ensures.renumbered

pub returns-then-last-clause-moves : goal.returns-then-last-clause-moves
returns-then-last-clause-moves g c = c.in_ok-event.ensures.moves

pub returns-then-last-clause-onward : goal.returns-then-last-clause-onward
returns-then-last-clause-onward g c = c.in_ok-event.ensures.onward

pub returns-then-last-clause-source : goal.returns-then-last-clause-source
returns-then-last-clause-source g c = c.in_ok-event.ensures.source

pub returns-then-last-clause-answered : goal.returns-then-last-clause-answered
returns-then-last-clause-answered g c = c.in_ok-event.ensures.answered

pub returns-in-Err-clause-peeked : goal.returns-in-Err-clause-peeked
returns-in-Err-clause-peeked g c = c.in_ok-event.ensures.peeked

pub returns-in-Err-clause-given : goal.returns-in-Err-clause-given
returns-in-Err-clause-given g c = c.in_ok-event.ensures.given

pub returns-in-Err-clause-options : goal.returns-in-Err-clause-options
returns-in-Err-clause-options g c = c.in_ok-event.ensures.options

pub returns-in-Err-clause-renumbered : goal.returns-in-Err-clause-renumbered
returns-in-Err-clause-renumbered g c = c.in_ok-event.ensures.renumbered

pub returns-in-Err-clause-moves : goal.returns-in-Err-clause-moves
returns-in-Err-clause-moves g c = c.in_ok-event.ensures.moves

pub returns-in-Err-clause-onward : goal.returns-in-Err-clause-onward
returns-in-Err-clause-onward g c = c.in_ok-event.ensures.onward

pub returns-clause-peeked : goal.returns-clause-peeked
returns-clause-peeked g c = c.try_rest.ensures.peeked

pub returns-clause-given : goal.returns-clause-given
returns-clause-given g c = λ none. c.try_rest.ensures.given (c.in_ok-event.ensures.given none)

pub returns-clause-options : goal.returns-clause-options
returns-clause-options g c = c.try_rest.ensures.options ∙ c.in_ok-event.ensures.options

pub returns-clause-renumbered : goal.returns-clause-renumbered
returns-clause-renumbered g c = c.try_rest.ensures.renumbered ∙ c.in_ok-event.ensures.renumbered

pub returns-clause-moves : goal.returns-clause-moves
returns-clause-moves g c =
    moves_on g.T.Input.unread g.T.Input.left g.T.Input.origin (scanned c.try_rest.result)
    c.args.self.now.stepper.scanner.cursor c.first_event.new.self.stepper.scanner.cursor
    c.try_rest.new.self.stepper.scanner.cursor
    (c.in_ok-event.ensures.moves.0, c.in_ok-event.ensures.moves.1, c.in_ok-event.ensures.onward)
    c.try_rest.ensures.moves

pub returns-clause-onward : goal.returns-clause-onward
returns-clause-onward g c = λ start before.
    c.try_rest.ensures.onward start (c.in_ok-event.ensures.onward start before)

pub returns-in_err-event-clause-given : goal.returns-in_err-event-clause-given
returns-in_err-event-clause-given g c =
    let same = err_from_is_err_and c.from_residual.result c.from_residual.ensures.1 in
    rw (same.1, same.2) c.in_err-event.ensures.given

pub returns-in_err-event-clause-moves : goal.returns-in_err-event-clause-moves
returns-in_err-event-clause-moves g c =
    let same = err_from_is_err_and c.from_residual.result c.from_residual.ensures.1 in
    rw (same.1, same.2) c.in_err-event.ensures.moves
