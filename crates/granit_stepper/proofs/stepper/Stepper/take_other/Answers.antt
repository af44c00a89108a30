use Rattle.std.proofs.Common.{Ok, Err, refl, sym, ap, subst, ◌∙◌}
use Rattle.granit_error.specs.OptionsData.{OptionsData}
use Rattle.granit_refused.specs.Answered.{answered, why}
use Rattle.granit_feed.specs.AtOnce.{ItemAtOnce}
use Rattle.granit_feed.specs.Eventless.{ItemTakesToGive}
use Rattle.granit_frames.specs.Outside.{NoneWaitsOutside}
use Rattle.granit_frames.specs.Refusing.{RefusesByFault}
use Rattle.granit_frames.specs.Wanting.{StepWantsToGive}
use Rattle.granit_machine.specs.Frames.{ParserState}
use Rattle.granit_machine.specs.Leaving.{LeavesIfRoom}
use Rattle.granit_machine.specs.Parser.{take_item}
use Rattle.granit_scanner.specs.Scans.{front_view}
use Rattle.granit_refusals.specs.BeforeTurn.{whole}
use Rattle.granit_stepper.specs.Refusals.{RefusedItem}
use Rattle.granit_stepper.specs.Stepping.{Stepping, StandsIn}
use Rattle.granit_stepper.specs.TurnMemory.{PassesItemFree, RefusesItemFree}
use Rattle.granit_stepper.proofs.EarlyLemmas.{early_fed, early_not_fed}
use Rattle.granit_stepper.proofs.FreeLemmas.{not_refused, refused_free, taken_there}
use Rattle.granit_stepper.proofs.ItemLemmas.{item_fed, item_kept, item_not_fed, item_tags}
use Rattle.granit_stepper.proofs.NumberLemmas.{tells_last}
use Rattle.granit_stepper.proofs.StateLemmas.{nothing_waits}
use Rattle.granit_stepper.proofs.stepper.Stepper.take_other.Goals as goal

pub returns-in-Ok-clause-known : goal.returns-in-Ok-clause-known
returns-in-Ok-clause-known g c = λ m at told none.
    let unread = g.T.Input.unread in
    let inside : Stepping g.row.T.Denot = record {
      scanner = c.self.inside.scanner;
      parser = c.self.inside.parser;
      first = c.self.inside.first;
      failed = c.self.inside.failed;
      renumbered = c.self.inside.renumbered;
      ahead = c.self.inside.ahead;
      refusal = c.self.inside.refusal;
    } in
    let x = front_view c.args.front in
    let r = answered c.feed-fed.new.fault c.feed-fed.result in
    let after = c.feed-fed.new.state in
    let options = c.options-options.ensures
    ∙ ap (λ (s : Stepping g.row.T.Denot). s.scanner.options) c.self.view_is in
    let here = subst (λ (s : Stepping g.row.T.Denot). StandsIn unread s m) (sym c.self.view_is) at in
    let first = ap (λ (s : Stepping g.row.T.Denot). s.first) c.self.view_is ∙ told in
    let fed = subst (λ (o : OptionsData). LeavesIfRoom r after
    (take_item o x.0.item x.0.begins_key x.1 inside.parser)) options c.feed-fed.ensures.fed in
    item_fed unread inside m here c.args.self.now.scanner.options x after first none r fed
    c.last_anchor-anchor.result c.in-Ok.ensures

pub returns-in-Err-clause-known : goal.returns-in-Err-clause-known
returns-in-Err-clause-known g c = λ m at told none.
    let unread = g.T.Input.unread in
    let inside : Stepping g.row.T.Denot = record {
      scanner = c.self.inside.scanner;
      parser = c.self.inside.parser;
      first = c.self.inside.first;
      failed = c.self.inside.failed;
      renumbered = c.self.inside.renumbered;
      ahead = c.self.inside.ahead;
      refusal = c.self.inside.refusal;
    } in
    let x = front_view c.args.front in
    let r = answered c.feed-fed.new.fault c.feed-fed.result in
    let e = why c.unless_numberless.new.fault c.in-Err.refused in
    let after = c.feed-fed.new.state in
    let options = c.options-options.ensures
    ∙ ap (λ (s : Stepping g.row.T.Denot). s.scanner.options) c.self.view_is in
    let here = subst (λ (s : Stepping g.row.T.Denot). StandsIn unread s m) (sym c.self.view_is) at in
    let first = ap (λ (s : Stepping g.row.T.Denot). s.first) c.self.view_is ∙ told in
    let fed = subst (λ (o : OptionsData). LeavesIfRoom r after
    (take_item o x.0.item x.0.begins_key x.1 inside.parser)) options c.feed-fed.ensures.fed in
    item_not_fed unread inside m here c.args.self.now.scanner.options x after first none r fed
    c.last_anchor-anchor.result
    (tells_last c.anchor_count.result x.0.item c.last_anchor-anchor.result c.last_anchor-anchor.ensures)
    e c.in-Err.ensures

pub returns-in-Err-clause-refused : goal.returns-in-Err-clause-refused
returns-in-Err-clause-refused g c = λ m at told none calm other.
    let unread = g.T.Input.unread in
    let inside : Stepping g.row.T.Denot = record {
      scanner = c.self.inside.scanner;
      parser = c.self.inside.parser;
      first = c.self.inside.first;
      failed = c.self.inside.failed;
      renumbered = c.self.inside.renumbered;
      ahead = c.self.inside.ahead;
      refusal = c.self.inside.refusal;
    } in
    let x = front_view c.args.front in
    let r = answered c.feed-fed.new.fault c.feed-fed.result in
    let e = why c.unless_numberless.new.fault c.in-Err.refused in
    let after = c.feed-fed.new.state in
    let options = c.options-options.ensures
    ∙ ap (λ (s : Stepping g.row.T.Denot). s.scanner.options) c.self.view_is in
    let here = subst (λ (s : Stepping g.row.T.Denot). StandsIn unread s m) (sym c.self.view_is) at in
    let first = ap (λ (s : Stepping g.row.T.Denot). s.first) c.self.view_is ∙ told in
    let fed = subst (λ (o : OptionsData). LeavesIfRoom r after
    (take_item o x.0.item x.0.begins_key x.1 inside.parser)) options c.feed-fed.ensures.fed in
    let outside = subst (λ (p : ParserState). NoneWaitsOutside p) (nothing_waits unread inside m here first none)
    calm in
    let tags = item_tags (record inside { parser = after }) x.0.item inside.parser after r
    c.last_anchor-anchor.result e
    (tells_last c.anchor_count.result x.0.item c.last_anchor-anchor.result c.last_anchor-anchor.ensures)
    c.in-Err.ensures other
    c.feed-fed.ensures.kept (c.feed-fed.ensures.refused outside) in
    subst (λ (p : ParserState). RefusedItem unread x (record inside { parser = p; refusal = c.by.result }) m
    e) (sym c.drop_events.ensures)
    (item_kept unread inside m here c.args.self.now.scanner.options x after first none r fed
    c.last_anchor-anchor.result
    (tells_last c.anchor_count.result x.0.item c.last_anchor-anchor.result c.last_anchor-anchor.ensures)
    e c.in-Err.ensures other
    (whole c.at_item-before.result) c.at_item-before.ensures c.by.result (c.by.ensures other)
    tags (sym (ap (λ (s : Stepping g.row.T.Denot). s.scanner.options) c.self.view_is)))

pub returns-in-Ok-clause-early : goal.returns-in-Ok-clause-early
returns-in-Ok-clause-early g c = λ m at told.
    let unread = g.T.Input.unread in
    let inside : Stepping g.row.T.Denot = record {
      scanner = c.self.inside.scanner;
      parser = c.self.inside.parser;
      first = c.self.inside.first;
      failed = c.self.inside.failed;
      renumbered = c.self.inside.renumbered;
      ahead = c.self.inside.ahead;
      refusal = c.self.inside.refusal;
    } in
    let x = front_view c.args.front in
    let r = answered c.feed-fed.new.fault c.feed-fed.result in
    let after = c.feed-fed.new.state in
    let options = c.options-options.ensures
    ∙ ap (λ (s : Stepping g.row.T.Denot). s.scanner.options) c.self.view_is in
    let here = subst (λ (s : Stepping g.row.T.Denot). StandsIn unread s m) (sym c.self.view_is) at in
    let first = ap (λ (s : Stepping g.row.T.Denot). s.first) c.self.view_is ∙ told in
    let fed = subst (λ (o : OptionsData). LeavesIfRoom r after
    (take_item o x.0.item x.0.begins_key x.1 inside.parser)) options c.feed-fed.ensures.fed in
    early_fed unread inside m here c.args.self.now.scanner.options x after first r fed
    c.last_anchor-anchor.result c.in-Ok.ensures

pub returns-in-Err-clause-early : goal.returns-in-Err-clause-early
returns-in-Err-clause-early g c = λ m at told.
    let unread = g.T.Input.unread in
    let inside : Stepping g.row.T.Denot = record {
      scanner = c.self.inside.scanner;
      parser = c.self.inside.parser;
      first = c.self.inside.first;
      failed = c.self.inside.failed;
      renumbered = c.self.inside.renumbered;
      ahead = c.self.inside.ahead;
      refusal = c.self.inside.refusal;
    } in
    let x = front_view c.args.front in
    let r = answered c.feed-fed.new.fault c.feed-fed.result in
    let e = why c.unless_numberless.new.fault c.in-Err.refused in
    let after = c.feed-fed.new.state in
    let options = c.options-options.ensures
    ∙ ap (λ (s : Stepping g.row.T.Denot). s.scanner.options) c.self.view_is in
    let here = subst (λ (s : Stepping g.row.T.Denot). StandsIn unread s m) (sym c.self.view_is) at in
    let first = ap (λ (s : Stepping g.row.T.Denot). s.first) c.self.view_is ∙ told in
    let fed = subst (λ (o : OptionsData). LeavesIfRoom r after
    (take_item o x.0.item x.0.begins_key x.1 inside.parser)) options c.feed-fed.ensures.fed in
    early_not_fed unread inside m here c.args.self.now.scanner.options x after first r fed
    c.last_anchor-anchor.result
    (tells_last c.anchor_count.result x.0.item c.last_anchor-anchor.result c.last_anchor-anchor.ensures)
    e c.in-Err.ensures

pub returns-in-Ok-clause-at_once : goal.returns-in-Ok-clause-at_once
returns-in-Ok-clause-at_once g c = λ e free.
    let inside : Stepping g.row.T.Denot = record {
      scanner = c.self.inside.scanner;
      parser = c.self.inside.parser;
      first = c.self.inside.first;
      failed = c.self.inside.failed;
      renumbered = c.self.inside.renumbered;
      ahead = c.self.inside.ahead;
      refusal = c.self.inside.refusal;
    } in
    let x = front_view c.args.front in
    let fed = answered c.feed-fed.new.fault c.feed-fed.result in
    let now = record inside { parser = c.feed-fed.new.state } in
    let here = subst (λ (s : Stepping g.row.T.Denot). RefusesItemFree s.scanner.options x s.parser e)
    (sym c.self.view_is) free in
    let by_fault = subst (λ (o : OptionsData). ItemAtOnce x.0.item x.0.begins_key inside.parser
    → RefusesByFault fed (take_item o x.0.item x.0.begins_key x.1 inside.parser)) c.options-options.ensures
    c.feed-fed.ensures.by_fault in
    absurd (let clash = refused_free inside.scanner.options x inside.parser fed now c.last_anchor-anchor.result e here
    by_fault (Ok tt) c.in-Ok.ensures in cc)

pub returns-in-Err-clause-at_once : goal.returns-in-Err-clause-at_once
returns-in-Err-clause-at_once g c = λ e free.
    let inside : Stepping g.row.T.Denot = record {
      scanner = c.self.inside.scanner;
      parser = c.self.inside.parser;
      first = c.self.inside.first;
      failed = c.self.inside.failed;
      renumbered = c.self.inside.renumbered;
      ahead = c.self.inside.ahead;
      refusal = c.self.inside.refusal;
    } in
    let x = front_view c.args.front in
    let fed = answered c.feed-fed.new.fault c.feed-fed.result in
    let now = record inside { parser = c.feed-fed.new.state } in
    let here = subst (λ (s : Stepping g.row.T.Denot). RefusesItemFree s.scanner.options x s.parser e)
    (sym c.self.view_is) free in
    let by_fault = subst (λ (o : OptionsData). ItemAtOnce x.0.item x.0.begins_key inside.parser
    → RefusesByFault fed (take_item o x.0.item x.0.begins_key x.1 inside.parser)) c.options-options.ensures
    c.feed-fed.ensures.by_fault in
    let same = refused_free inside.scanner.options x inside.parser fed now c.last_anchor-anchor.result e here by_fault
    (Err (why c.unless_numberless.new.fault c.in-Err.refused)) c.in-Err.ensures in
    cc

pub returns-in-Ok-clause-eventless : goal.returns-in-Ok-clause-eventless
returns-in-Ok-clause-eventless g c = λ p free.
    let inside : Stepping g.row.T.Denot = record {
      scanner = c.self.inside.scanner;
      parser = c.self.inside.parser;
      first = c.self.inside.first;
      failed = c.self.inside.failed;
      renumbered = c.self.inside.renumbered;
      ahead = c.self.inside.ahead;
      refusal = c.self.inside.refusal;
    } in
    let x = front_view c.args.front in
    let fed = answered c.feed-fed.new.fault c.feed-fed.result in
    let now = record inside { parser = c.feed-fed.new.state } in
    let here = subst (λ (s : Stepping g.row.T.Denot). PassesItemFree s.scanner.options x s.parser p)
    (sym c.self.view_is) free in
    let left = subst (λ (o : OptionsData). LeavesIfRoom fed c.feed-fed.new.state
    (take_item o x.0.item x.0.begins_key x.1 inside.parser)) c.options-options.ensures c.feed-fed.ensures.fed in
    let there = taken_there inside.scanner.options x inside.parser fed now c.last_anchor-anchor.result p here left
    c.in-Ok.ensures in (
      refl,
      ap (λ (s : Stepping g.row.T.Denot). record s { parser = c.feed-fed.new.state }) c.self.view_is
          ∙ ap (λ (q : ParserState). record (c.args.self.now) { parser = q }) there,
    )

pub returns-in-Err-clause-eventless : goal.returns-in-Err-clause-eventless
returns-in-Err-clause-eventless g c = λ p free.
    let inside : Stepping g.row.T.Denot = record {
      scanner = c.self.inside.scanner;
      parser = c.self.inside.parser;
      first = c.self.inside.first;
      failed = c.self.inside.failed;
      renumbered = c.self.inside.renumbered;
      ahead = c.self.inside.ahead;
      refusal = c.self.inside.refusal;
    } in
    let x = front_view c.args.front in
    let fed = answered c.feed-fed.new.fault c.feed-fed.result in
    let now = record inside { parser = c.feed-fed.new.state } in
    let here = subst (λ (s : Stepping g.row.T.Denot). PassesItemFree s.scanner.options x s.parser p)
    (sym c.self.view_is) free in
    let left = subst (λ (o : OptionsData). LeavesIfRoom fed c.feed-fed.new.state
    (take_item o x.0.item x.0.begins_key x.1 inside.parser)) c.options-options.ensures c.feed-fed.ensures.fed in
    let wants = subst (λ (o : OptionsData). ItemTakesToGive x.0.item x.0.begins_key inside.parser
    → StepWantsToGive fed inside.parser (take_item o x.0.item x.0.begins_key x.1 inside.parser))
    c.options-options.ensures c.feed-fed.ensures.eventless in
    absurd (not_refused inside.scanner.options x inside.parser fed now c.last_anchor-anchor.result p here left wants
    (why c.unless_numberless.new.fault c.in-Err.refused) c.in-Err.ensures)
