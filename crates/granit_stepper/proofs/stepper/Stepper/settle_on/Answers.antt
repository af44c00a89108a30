use Rattle.std.proofs.Common.{◌≡◌, ◌∙◌, Bool, true, false, length, Ok, Err, refl, ap, subst, arith}
use Rattle.std.proofs.lemmas.Result.{err_from_is_err_and}
use Rattle.granit_refused.specs.Answered.{want_of_memory, why}
use Rattle.granit_input.proofs.OriginLemmas.{goes_nowhere, goes_on}
use Rattle.granit_stepper.proofs.CalmLemmas.{nothing_waits_outside, turns_turned}
use Rattle.granit_stepper.proofs.FreeLemmas.{fails_first, fails_free, given_none, made_free, not_over_free}
use Rattle.granit_stepper.proofs.SettleLemmas.{Turned, alike_done, alike_fails, alike_first, alike_more, keeps_both}
use Rattle.granit_stepper.proofs.SettleLemmas.{keeps_itself}
use Rattle.granit_stepper.proofs.StayLemmas.{Rests, rests_taken, stays_waiting, turned_none, turned_on, turns_none}
use Rattle.granit_stepper.proofs.stepper.Stepper.settle_on.Goals as goal

pub turns-init : goal.turns-init
turns-init g c = record {
  alike = alike_first g.T.Input.unread c.args.self.now;
  stays = turns_none (Rests c.args.self.now) c.args.self.now;
  fails = λ none e free. fails_first c.args.self.now e free;
  keeps = keeps_itself c.args.self.now;
  moves = (omega arith, goes_nowhere _, λ start before. before);
}

pub returns-in_err-turn-clause-known : goal.returns-in_err-turn-clause-known
returns-in_err-turn-clause-known g c = λ m at told.
    let p = err_from_is_err_and c.from_residual.result c.from_residual.ensures.1 in
    rw (p.1, p.2) (alike_fails g.T.Input.unread c.args.self.now c.turns.self c.turn.new.self c.turns.invariant.keeps
    c.turns.invariant.alike (why c.turn.new.fault c.in_err-turn.field-0.0) c.in_err-turn.ensures.known m at told)

pub returns-in_err-turn-clause-refused : goal.returns-in_err-turn-clause-refused
returns-in_err-turn-clause-refused g c = λ m at told turned.
    let p = err_from_is_err_and c.from_residual.result c.from_residual.ensures.1 in
    let n = c.turns.invariant.alike m at told in
    rw (p.1, p.2) (λ other. (
      n.0,
      n.3,
      c.in_err-turn.ensures.refused n.0 n.1 (c.turns.invariant.keeps.first ∙ told)
          (nothing_waits_outside c.args.self.now.scanner.options n.0 (turns_turned turned n.3)) other,
    ))

pub returns-then-not-branch-clause-known : goal.returns-then-not-branch-clause-known
returns-then-not-branch-clause-known g c =
    let stops : c.in_ok-turn.field-0 ≡ false = c.if-not-branch.true in
    let turned = subst
    (λ (b : Bool). Turned g.T.Input.unread c.turns.self (Ok b) c.turn.new.self) stops c.in_ok-turn.ensures.known in
    alike_done g.T.Input.unread c.args.self.now c.turns.self c.turn.new.self c.turns.invariant.keeps
    c.turns.invariant.alike (tt {0}) turned

pub turns-preserved : goal.turns-preserved
turns-preserved g c =
    let goes : c.in_ok-turn.field-0 ≡ true = c.if-not-branch.false in
    let turned = subst
    (λ (b : Bool). Turned g.T.Input.unread c.turns.self (Ok b) c.turn.new.self) goes c.in_ok-turn.ensures.known in
    let moved = c.turns.invariant.moves in
    let more = c.in_ok-turn.ensures.moves in
    record {
      alike = alike_more g.T.Input.unread c.args.self.now c.turns.self c.turn.new.self c.turns.invariant.keeps
          c.turns.invariant.alike turned;
      stays = turned_on c.turns._turn c.args.self.now c.turns.self c.turn.new.self c.turns.invariant.stays
          (Ok c.in_ok-turn.field-0) c.in_ok-turn.ensures.waiting c.in_ok-turn.ensures.ended (ap Ok goes);
      fails = λ none e free.
          let on = c.turns.invariant.fails none e free in
          let given = given_none c.args.self.now.parser.given c.turns.self.parser.given none on.few in
          made_free free.turns (length c.args.self.now.parser.given) c.turns._turn c.turns.self c.turn.new.self e on
          (Ok c.in_ok-turn.field-0) (c.in_ok-turn.ensures.at_once given on.none_ahead e)
          (c.in_ok-turn.ensures.eventless given on.none_ahead) (ap Ok goes);
      keeps = keeps_both c.args.self.now c.turns.self c.turn.new.self c.turns.invariant.keeps
          c.in_ok-turn.ensures.keeps;
      moves = (
        omega (arith, moved.0, more.0),
        goes_on _ _ _ moved.1 more.1,
        λ start before. more.2 start (moved.2 start before),
      );
    }

pub returns-in_err-turn-clause-waiting : goal.returns-in_err-turn-clause-waiting
returns-in_err-turn-clause-waiting g c =
    let p = err_from_is_err_and c.from_residual.result c.from_residual.ensures.1 in
    let e = why c.turn.new.fault c.in_err-turn.field-0.0 in
    rw (p.1, p.2) (stays_waiting tt (Err e) c.args.self.now c.turn.new.self (λ rests.
    absurd (let clash = (turned_none c.turns._turn c.args.self.now c.turns.self c.turn.new.self
    c.turns.invariant.stays (Err e) c.in_err-turn.ensures.waiting c.in_err-turn.ensures.ended rests).0 in cc)))

pub returns-in_err-turn-clause-ended : goal.returns-in_err-turn-clause-ended
returns-in_err-turn-clause-ended g c = λ at.
    absurd (let clash = (turned_none c.turns._turn c.args.self.now c.turns.self c.turn.new.self
    c.turns.invariant.stays (Err (why c.turn.new.fault c.in_err-turn.field-0.0)) c.in_err-turn.ensures.waiting
    c.in_err-turn.ensures.ended (rests_taken at)).0 in cc)

pub returns-then-not-branch-clause-waiting : goal.returns-then-not-branch-clause-waiting
returns-then-not-branch-clause-waiting g c = stays_waiting tt (Ok tt) c.args.self.now c.turn.new.self (λ rests. (
  refl,
  (turned_none c.turns._turn c.args.self.now c.turns.self c.turn.new.self c.turns.invariant.stays
      (Ok c.in_ok-turn.field-0) c.in_ok-turn.ensures.waiting c.in_ok-turn.ensures.ended rests).1,
))

pub returns-then-not-branch-clause-ended : goal.returns-then-not-branch-clause-ended
returns-then-not-branch-clause-ended g c = λ at. (
  refl,
  (turned_none c.turns._turn c.args.self.now c.turns.self c.turn.new.self c.turns.invariant.stays
      (Ok c.in_ok-turn.field-0) c.in_ok-turn.ensures.waiting c.in_ok-turn.ensures.ended (rests_taken at)).1,
)

pub returns-clause-waiting : goal.returns-clause-waiting
returns-clause-waiting g c = stays_waiting tt (Err want_of_memory) c.args.self.now c.turns.self (λ rests.
    let least = c.turns-test.false in
    let most = c.turns.auto._turn-end in
    let none = c.turns.invariant.stays.none rests in
    absurd (omega (arith, least, most, none)))

pub returns-clause-ended : goal.returns-clause-ended
returns-clause-ended g c = λ at.
    let least = c.turns-test.false in
    let most = c.turns.auto._turn-end in
    let none = c.turns.invariant.stays.none (rests_taken at) in
    absurd (omega (arith, least, most, none))

pub returns-in_err-turn-clause-at_once : goal.returns-in_err-turn-clause-at_once
returns-in_err-turn-clause-at_once g c = λ none e free.
    let p = err_from_is_err_and c.from_residual.result c.from_residual.ensures.1 in
    let f = why c.turn.new.fault c.in_err-turn.field-0.0 in
    let on = c.turns.invariant.fails none e free in
    let given = given_none c.args.self.now.parser.given c.turns.self.parser.given none on.few in
    rw (p.1, p.2) (ap Err (fails_free free.turns (length c.args.self.now.parser.given) c.turns._turn c.turns.self
    c.turn.new.self e on (Err f) (c.in_err-turn.ensures.at_once given on.none_ahead e)
    (c.in_err-turn.ensures.eventless given on.none_ahead) f refl))

pub returns-then-not-branch-clause-at_once : goal.returns-then-not-branch-clause-at_once
returns-then-not-branch-clause-at_once g c = λ none e free.
    let stops : c.in_ok-turn.field-0 ≡ false = c.if-not-branch.true in
    let on = c.turns.invariant.fails none e free in
    let given = given_none c.args.self.now.parser.given c.turns.self.parser.given none on.few in
    absurd (not_over_free free.turns (length c.args.self.now.parser.given) c.turns._turn c.turns.self c.turn.new.self e
    on (Ok c.in_ok-turn.field-0) (c.in_ok-turn.ensures.at_once given on.none_ahead e)
    (c.in_ok-turn.ensures.eventless given on.none_ahead) (ap Ok stops))

pub returns-clause-at_once : goal.returns-clause-at_once
returns-clause-at_once g c = λ none e free.
    let least = c.turns-test.false in
    let most = c.turns.auto._turn-end in
    let sum = (c.turns.invariant.fails none e free).sum in
    absurd (omega (arith, least, most, sum, free.few))
