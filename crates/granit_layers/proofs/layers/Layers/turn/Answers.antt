use Rattle.std.proofs.Common.{◌∷◌, Some, None, Ok, Err, refl, rules}
use Rattle.granit_layers.proofs.StackLemmas.{turned}
use Rattle.granit_layers.proofs.layers.Layers.turn.Goals as goal
use Rattle.granit_layers.specs.declared.turn.Turn.TheVariants.{Gives, Withholds, Leaves, Ends, Fails}

pub returns-in-Gives-clause-turns : goal.returns-in-Gives-clause-turns
returns-in-Gives-clause-turns g c =
    let s = g.S.StackedParser in
    rw (← c.self.view_is)
    (turned (record { steps = s.steps; offset = s.offset_of; sets = s.sets_offset })
    c.self.inside.emits_comments c.self.inside.top c.self.inside.below.items
    (record {
      old = c.in-Some.layer;
      turn = Gives c.in-Gives.event;
      new = c.turn-turn.new.self;
      is_bottom = c.is_empty.result;
    }) _ (Some (Ok c.in-Gives.event)) (c.turn-turn.new.self ∷ c.self.inside.below.items) (cc)
    c.is_empty.ensures (search rules) c.in-Gives.ensures (refl, refl))

pub returns-in-Withholds-clause-turns : goal.returns-in-Withholds-clause-turns
returns-in-Withholds-clause-turns g c =
    let s = g.S.StackedParser in
    rw (← c.self.view_is)
    (turned (record { steps = s.steps; offset = s.offset_of; sets = s.sets_offset })
    c.self.inside.emits_comments c.self.inside.top c.self.inside.below.items
    (record {
      old = c.in-Some.layer;
      turn = Withholds c.in-Withholds.field-0;
      new = c.turn-turn.new.self;
      is_bottom = c.is_empty.result;
    }) _ None (c.turn-turn.new.self ∷ c.self.inside.below.items) (cc)
    c.is_empty.ensures (search rules) c.in-Withholds.ensures (refl, refl))

pub returns-in-Leaves-clause-turns : goal.returns-in-Leaves-clause-turns
returns-in-Leaves-clause-turns g c =
    let s = g.S.StackedParser in
    rw (← c.self.view_is)
    (turned (record { steps = s.steps; offset = s.offset_of; sets = s.sets_offset })
    c.self.inside.emits_comments c.self.inside.top c.self.inside.below.items
    (record {
      old = c.in-Some.layer;
      turn = Leaves;
      new = c.turn-turn.new.self;
      is_bottom = c.is_empty.result;
    }) _ None c.leave.new.self.layers (cc)
    c.is_empty.ensures (search rules) c.in-Leaves.ensures (refl, c.leave.ensures.left))

pub returns-in-Ends-clause-turns : goal.returns-in-Ends-clause-turns
returns-in-Ends-clause-turns g c =
    let s = g.S.StackedParser in
    rw (← c.self.view_is)
    (turned (record { steps = s.steps; offset = s.offset_of; sets = s.sets_offset })
    c.self.inside.emits_comments c.self.inside.top c.self.inside.below.items
    (record {
      old = c.in-Some.layer;
      turn = Ends c.in-Ends.event;
      new = c.turn-turn.new.self;
      is_bottom = c.is_empty.result;
    }) _ (Some (Ok c.in-Ends.event)) c.leave-in-Ends.new.self.layers (cc)
    c.is_empty.ensures (search rules) c.in-Ends.ensures (refl, c.leave-in-Ends.ensures.left))

pub returns-in-Fails-clause-turns : goal.returns-in-Fails-clause-turns
returns-in-Fails-clause-turns g c =
    let s = g.S.StackedParser in
    rw (← c.self.view_is)
    (turned (record { steps = s.steps; offset = s.offset_of; sets = s.sets_offset })
    c.self.inside.emits_comments c.self.inside.top c.self.inside.below.items
    (record {
      old = c.in-Some.layer;
      turn = Fails c.in-Fails.error;
      new = c.turn-turn.new.self;
      is_bottom = c.is_empty.result;
    }) _ (Some (Err c.named-error.result)) c.leave-in-Fails.new.self.layers (cc)
    c.is_empty.ensures (search rules) c.in-Fails.ensures (
      c.named-error.result,
      refl,
      c.named-error.ensures,
      c.leave-in-Fails.ensures.left,
    ))
