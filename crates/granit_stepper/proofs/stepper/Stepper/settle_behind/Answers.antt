use Rattle.std.proofs.Common.{◌≡◌, ◌<◌, ◌≤◌, ◌∙◌, ℕ, Bool, true, false, length, Ok, Err, refl, sym, ap, subst, arith}
use Rattle.std.proofs.lemmas.Result.{err_from_is_err_and}
use Rattle.granit_input.proofs.OriginLemmas.{goes_nowhere, goes_on}
use Rattle.granit_refused.specs.Answered.{why}
use Rattle.granit_stepper.proofs.GatherLemmas.{TurnedEarly, behind_done, behind_fails, behind_first, behind_more}
use Rattle.granit_stepper.proofs.GatherLemmas.{behind_waits}
use Rattle.granit_stepper.proofs.FreeLemmas.{fails_first, fails_free, made_free, not_over_free}
use Rattle.granit_stepper.proofs.SettleLemmas.{keeps_both, keeps_itself}
use Rattle.granit_stepper.proofs.StayLemmas.{took_none, took_on, turns_none}
use Rattle.granit_stepper.specs.Waiting.{AllTaken}
use Rattle.granit_stepper.proofs.stepper.Stepper.settle_behind.Goals as goal

pub turns-init : goal.turns-init
turns-init g c = record {
  behind = behind_first g.T.Input.unread c.args.self.now;
  stays = turns_none (AllTaken c.args.self.now) c.args.self.now;
  fails = λ e free. fails_first c.args.self.now e free;
  keeps = keeps_itself c.args.self.now;
  moves = (omega arith, goes_nowhere _, λ start before. before);
}

pub returns-in_err-advance-clause-known : goal.returns-in_err-advance-clause-known
returns-in_err-advance-clause-known g c = λ m at told.
    let p = err_from_is_err_and c.from_residual.result c.from_residual.ensures.1 in
    rw (p.1, p.2) (behind_fails g.T.Input.unread c.args.self.now c.turns.self c.advance.new.self
    c.turns.invariant.keeps c.turns.invariant.behind (why c.advance.new.fault c.in_err-advance.field-0.0)
    c.in_err-advance.ensures.early m at told)

pub returns-then-not-branch-clause-known : goal.returns-then-not-branch-clause-known
returns-then-not-branch-clause-known g c =
    let stops : c.in_ok-advance.field-0 ≡ false = c.if-not-branch.true in
    let turned = subst
    (λ (b : Bool). TurnedEarly g.T.Input.unread c.turns.self (Ok b) c.advance.new.self) stops
    c.in_ok-advance.ensures.early in
    behind_done g.T.Input.unread c.args.self.now c.turns.self c.advance.new.self c.turns.invariant.keeps
    c.turns.invariant.behind turned

pub returns-then-all-waiting-clause-known : goal.returns-then-all-waiting-clause-known
returns-then-all-waiting-clause-known g c =
    let goes : c.in_ok-advance.field-0 ≡ true = c.if-not-branch.false in
    let turned = subst
    (λ (b : Bool). TurnedEarly g.T.Input.unread c.turns.self (Ok b) c.advance.new.self) goes
    c.in_ok-advance.ensures.early in
    behind_waits g.T.Input.unread c.args.self.now c.turns.self c.advance.new.self c.turns.invariant.keeps
    c.turns.invariant.behind turned (c.in_ok-advance.ensures.keeps.first ∙ c.turns.invariant.keeps.first)
    (subst (λ (n : ℕ). n < length c.advance.new.self.parser.given) c.event_count-waiting.ensures
    (subst (λ (n : ℕ). c.event_count-waiting.result < n) c.event_count-all.ensures c.if-all-waiting.true))

pub turns-preserved : goal.turns-preserved
turns-preserved g c =
    let goes : c.in_ok-advance.field-0 ≡ true = c.if-not-branch.false in
    let turned = subst
    (λ (b : Bool). TurnedEarly g.T.Input.unread c.turns.self (Ok b) c.advance.new.self) goes
    c.in_ok-advance.ensures.early in
    let moved = c.turns.invariant.moves in
    let more = c.in_ok-advance.ensures.moves in
    record {
      behind = behind_more g.T.Input.unread c.args.self.now c.turns.self c.advance.new.self c.turns.invariant.keeps
          c.turns.invariant.behind turned (c.in_ok-advance.ensures.keeps.first ∙ c.turns.invariant.keeps.first)
          (subst (λ (n : ℕ). length c.advance.new.self.parser.given ≤ n) c.event_count-waiting.ensures
          (subst (λ (n : ℕ). n ≤ c.event_count-waiting.result) c.event_count-all.ensures c.if-all-waiting.false));
      stays = took_on c.turns._turn c.args.self.now c.turns.self c.advance.new.self c.turns.invariant.stays
          (Ok c.in_ok-advance.field-0) c.in_ok-advance.ensures.ended (ap Ok goes);
      fails = λ e free.
          let on = c.turns.invariant.fails e free in
          made_free free.turns (length c.args.self.now.parser.given) c.turns._turn c.turns.self c.advance.new.self e on
          (Ok c.in_ok-advance.field-0) (c.in_ok-advance.ensures.at_once on.none_ahead e)
          (c.in_ok-advance.ensures.eventless on.none_ahead) (ap Ok goes);
      keeps = keeps_both c.args.self.now c.turns.self c.advance.new.self c.turns.invariant.keeps
          c.in_ok-advance.ensures.keeps;
      moves = (
        omega (arith, moved.0, more.0),
        goes_on _ _ _ moved.1 more.1,
        λ start before. more.2 start (moved.2 start before),
      );
    }

pub returns-in_err-advance-clause-ended : goal.returns-in_err-advance-clause-ended
returns-in_err-advance-clause-ended g c = λ at.
    absurd (let clash = (took_none c.turns._turn c.args.self.now c.turns.self c.advance.new.self
    c.turns.invariant.stays (Err (why c.advance.new.fault c.in_err-advance.field-0.0)) c.in_err-advance.ensures.ended
    at).0 in cc)

pub returns-then-not-branch-clause-ended : goal.returns-then-not-branch-clause-ended
returns-then-not-branch-clause-ended g c = λ at. (
  refl,
  (took_none c.turns._turn c.args.self.now c.turns.self c.advance.new.self c.turns.invariant.stays
      (Ok c.in_ok-advance.field-0) c.in_ok-advance.ensures.ended at).1,
)

pub returns-then-all-waiting-clause-ended : goal.returns-then-all-waiting-clause-ended
returns-then-all-waiting-clause-ended g c = λ at.
    let goes : c.in_ok-advance.field-0 ≡ true = c.if-not-branch.false in
    absurd (let clash = sym (ap Ok goes) ∙ (took_none c.turns._turn c.args.self.now c.turns.self c.advance.new.self
    c.turns.invariant.stays (Ok c.in_ok-advance.field-0) c.in_ok-advance.ensures.ended at).0 in cc)

pub returns-clause-ended : goal.returns-clause-ended
returns-clause-ended g c = λ at.
    let least = c.turns-test.false in
    let most = c.turns.auto._turn-end in
    let none = c.turns.invariant.stays.none at in
    absurd (omega (arith, least, most, none))

pub returns-in_err-advance-clause-at_once : goal.returns-in_err-advance-clause-at_once
returns-in_err-advance-clause-at_once g c = λ e free.
    let p = err_from_is_err_and c.from_residual.result c.from_residual.ensures.1 in
    let f = why c.advance.new.fault c.in_err-advance.field-0.0 in
    let on = c.turns.invariant.fails e free in
    rw (p.1, p.2) (ap Err (fails_free free.turns (length c.args.self.now.parser.given) c.turns._turn c.turns.self
    c.advance.new.self e on (Err f) (c.in_err-advance.ensures.at_once on.none_ahead e)
    (c.in_err-advance.ensures.eventless on.none_ahead) f refl))

pub returns-then-not-branch-clause-at_once : goal.returns-then-not-branch-clause-at_once
returns-then-not-branch-clause-at_once g c = λ e free.
    let stops : c.in_ok-advance.field-0 ≡ false = c.if-not-branch.true in
    let on = c.turns.invariant.fails e free in
    absurd (not_over_free free.turns (length c.args.self.now.parser.given) c.turns._turn c.turns.self
    c.advance.new.self e on (Ok c.in_ok-advance.field-0) (c.in_ok-advance.ensures.at_once on.none_ahead e)
    (c.in_ok-advance.ensures.eventless on.none_ahead) (ap Ok stops))

pub returns-then-all-waiting-clause-at_once : goal.returns-then-all-waiting-clause-at_once
returns-then-all-waiting-clause-at_once g c = λ e free.
    let goes : c.in_ok-advance.field-0 ≡ true = c.if-not-branch.false in
    let on = c.turns.invariant.fails e free in
    let few = (made_free free.turns (length c.args.self.now.parser.given) c.turns._turn c.turns.self
    c.advance.new.self e on (Ok c.in_ok-advance.field-0) (c.in_ok-advance.ensures.at_once on.none_ahead e)
    (c.in_ok-advance.ensures.eventless on.none_ahead) (ap Ok goes)).few in
    let more = subst (λ (n : ℕ). n < length c.advance.new.self.parser.given) c.event_count-waiting.ensures
    (subst (λ (n : ℕ). c.event_count-waiting.result < n) c.event_count-all.ensures c.if-all-waiting.true) in
    absurd (omega (arith, few, more))

pub returns-clause-at_once : goal.returns-clause-at_once
returns-clause-at_once g c = λ e free.
    let least = c.turns-test.false in
    let most = c.turns.auto._turn-end in
    let sum = (c.turns.invariant.fails e free).sum in
    absurd (omega (arith, least, most, sum, free.few))
