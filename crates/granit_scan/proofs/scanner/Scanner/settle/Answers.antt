use Rattle.std.proofs.Common.{◌≡◌, ◌+◌, Bool, true, false, Ok, subst, arith}
use Rattle.std.proofs.lemmas.Result.{err_from_is_err_and}
use Rattle.granit_input.proofs.OriginLemmas.{goes_on}
use Rattle.granit_scan.proofs.MemoryLemmas.{TurnTold, turned_fails, turned_last, turned_again}
use Rattle.granit_scan.proofs.SettleLemmas.{Turned, alike_done, alike_fails, alike_more, keeps_both, leads_fails}
use Rattle.granit_scan.proofs.SettleLemmas.{leads_more}
use Rattle.granit_scan.proofs.scanner.Scanner.settle.Goals as goal

pub returns-in_err-turn-clause-known : goal.returns-in_err-turn-clause-known
returns-in_err-turn-clause-known g c = λ m at told.
    let p = err_from_is_err_and c.from_residual.result c.from_residual.ensures.1 in
    rw (p.1, p.2) (alike_fails g.T.Input.unread c.args.self.now c.turns.self c.turn.new.self c.turns.invariant.keeps
    c.turns.invariant.alike c.in_err-turn.field-0.0 c.in_err-turn.ensures.known m at told)

pub returns-in_err-turn-clause-refused : goal.returns-in_err-turn-clause-refused
returns-in_err-turn-clause-refused g c = λ m at told.
    let p = err_from_is_err_and c.from_residual.result c.from_residual.ensures.1 in
    rw (p.1, p.2) (leads_fails g.T.Input.unread c.args.self.now c.turns.self c.turn.new.self c.turns.invariant.keeps
    c.turns.invariant.leads c.in_err-turn.field-0.0 c.in_err-turn.ensures.known c.in_err-turn.ensures.refused m at told)

pub returns-then-not-branch-clause-known : goal.returns-then-not-branch-clause-known
returns-then-not-branch-clause-known g c =
    let stops : c.in_ok-turn.field-0 ≡ false = c.if-not-branch.true in
    let turned = subst
    (λ (b : Bool). Turned g.T.Input.unread c.turns.self (Ok b) c.turn.new.self) stops c.in_ok-turn.ensures.known in
    alike_done g.T.Input.unread c.args.self.now c.turns.self c.turn.new.self c.turns.invariant.keeps
    c.turns.invariant.alike (tt {0}) turned

pub returns-in_err-turn-clause-memory : goal.returns-in_err-turn-clause-memory
returns-in_err-turn-clause-memory g c =
    let p = err_from_is_err_and c.from_residual.result c.from_residual.ensures.1 in
    rw (p.1, p.2) (turned_fails c.args.self.now c.turns.self c.turns._made c.turns.invariant.unturned
    c.in_err-turn.field-0.0 c.in_err-turn.ensures.memory)

pub returns-then-not-branch-clause-memory : goal.returns-then-not-branch-clause-memory
returns-then-not-branch-clause-memory g c =
    let stops : c.in_ok-turn.field-0 ≡ false = c.if-not-branch.true in
    turned_last c.args.self.now c.turns.self c.turns._made c.turns.invariant.unturned (tt {0})
    (subst (λ (b : Bool). TurnTold c.turns.self (Ok b)) stops c.in_ok-turn.ensures.memory)

pub turns-preserved : goal.turns-preserved
turns-preserved g c =
    let goes : c.in_ok-turn.field-0 ≡ true = c.if-not-branch.false in
    let turned = subst
    (λ (b : Bool). Turned g.T.Input.unread c.turns.self (Ok b) c.turn.new.self) goes c.in_ok-turn.ensures.known in
    let made = subst (λ (b : Bool). TurnTold c.turns.self (Ok b)) goes c.in_ok-turn.ensures.memory in
    let moved = c.turns.invariant.moves in
    let more = c.in_ok-turn.ensures.moves in
    record {
      alike = alike_more g.T.Input.unread c.args.self.now c.turns.self c.turn.new.self c.turns.invariant.keeps
          c.turns.invariant.alike turned;
      leads = leads_more g.T.Input.unread c.args.self.now c.turns.self c.turn.new.self c.turns.invariant.keeps
          c.turns.invariant.leads turned;
      unturned = turned_again c.args.self.now c.turns.self c.turns._made c.turns.invariant.unturned c.turn.new.self
          (c.turns._made + 1) made;
      keeps = keeps_both c.args.self.now c.turns.self c.turn.new.self c.turns.invariant.keeps
          c.in_ok-turn.ensures.keeps;
      moves = (
        omega (arith, moved.0, more.0),
        goes_on _ _ _ moved.1 more.1,
        λ start before. more.2 start (moved.2 start before),
      );
    }
