use Rattle.std.proofs.Common.{false, true, sym}
use Rattle.granit_restart.specs.Skipping.{ahead}
use Rattle.granit_stepper.proofs.PassLemmas.{drops_as, drops_none, drops_stream}
use Rattle.granit_stepper.proofs.stepper.Stepper.drop_events.Goals as goal

pub returns-in-None-clause-dropped : goal.returns-in-None-clause-dropped
returns-in-None-clause-dropped g c =
    let es = c.events.self.parser.given in
    drops_as (ahead c.args.self.now.parser.given) (ahead es) false es (sym c.events.invariant.ends)
    (drops_none es (sym c.in-None.ensures))

pub returns-in-StreamEnd-clause-dropped : goal.returns-in-StreamEnd-clause-dropped
returns-in-StreamEnd-clause-dropped g c =
    let es = c.events.self.parser.given in
    drops_as (ahead c.args.self.now.parser.given) (ahead es) true es (sym c.events.invariant.ends)
    (drops_stream es (sym c.in-StreamEnd.ensures))
