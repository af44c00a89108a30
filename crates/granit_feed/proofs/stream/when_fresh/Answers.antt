use Rattle.std.proofs.Common.{rules, subst}
use Rattle.granit_error.specs.OptionsView.{options_of}
use Rattle.granit_frames.specs.Wanting.{StepWantsToGive}
use Rattle.granit_items.specs.ItemViews.{kind_view}
use Rattle.granit_items.specs.declared.item.Lexeme.{Lexeme}
use Rattle.granit_machine.specs.StreamSteps.{when_fresh}
use Rattle.granit_refused.specs.Answered.{answered}
use Rattle.granit_sorts.specs.SortViews.{machine_token}
use Rattle.granit_feed.proofs.TokenGiving.{fresh_gives}
use Rattle.granit_feed.proofs.stream.when_fresh.Goals as goal

pub returns-in_default : goal.returns-in_default
returns-in_default c = record {
  leaves = search rules;
  by_fault = search rules;
  kept = search rules;
  refused = search rules;
  eventless = λ none.
      let o = options_of c.args.options.now in
      let t = machine_token c.args.token.now in
      let result = answered c.begin_document.new.fault c.begin_document.result in
      subst
      (λ (l : Lexeme). StepWantsToGive result c.args.state.now (when_fresh o (kind_view l.kind) t c.args.state.now))
      c.deref.ensures
      (fresh_gives o t result c.args.state.now none c.deref.result.now.kind
      c.in_default.not-Version c.in_default.not-TagPrefix c.in_default.not-Reserved
      c.in_default.not-DocumentStart c.in_default.not-DocumentEnd c.in_default.not-StreamEnd);
}
