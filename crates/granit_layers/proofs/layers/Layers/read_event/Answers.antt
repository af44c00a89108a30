use Rattle.std.proofs.Common.{◌≡◌, refl, ap, arith}
use Rattle.granit_base.specs.Counts.{last_count}
use Rattle.granit_layers.proofs.StackLemmas.{same_on, withheld_long, withheld_more}
use Rattle.granit_layers.proofs.layers.Layers.read_event.Goals as goal
use Rattle.granit_layers.specs.Stacking.{none_yet}

pub turns-init : goal.turns-init
turns-init g c = record { withheld = record { turns = none_yet; counted = refl }; same = refl }

pub turns-preserved : goal.turns-preserved
turns-preserved g c =
    let s = g.S.StackedParser in
    record {
      withheld =
          withheld_more s.steps s.offset_of s.sets_offset c.args.self.now.emits_comments c.turns.self.emits_comments
          c.turns._count c.args.self.now.layers c.turns.self.layers c.turn.new.self.layers
          (ap (λ p. p.emits_comments) c.turns.invariant.same) c.turns.invariant.withheld c.in_default.ensures.turns;
      same =
          same_on c.args.self.now c.turns.self c.turn.new.self c.turns.invariant.same c.in_default.ensures.same;
    }

pub returns-clause-reads : goal.returns-clause-reads
returns-clause-reads g c =
    let s = g.S.StackedParser in
    let least = c.turns-test.false in
    let most = c.turns.auto._count-end in
    let all : c.turns._count ≡ last_count = omega arith in
    withheld_long s.steps s.offset_of s.sets_offset c.args.self.now.emits_comments c.turns._count
    c.args.self.now.layers c.turns.self.layers c.from.result c.turns.invariant.withheld all cc
