use Rattle.std.proofs.Common.{◌≡◌, List, [], Option, None, Ok, Err, Result, Bool, true, false, refl, sym, ap, subst}
use Rattle.std.proofs.Common.{◌∙◌, arith}
use Rattle.std.specs.Prelude.{IfOk, IfSome}
use Rattle.granit_base.specs.Place.{Mark}
use Rattle.granit_error.specs.OptionsData.{OptionsData}
use Rattle.granit_error.specs.Refused.{Refused}
use Rattle.granit_input.proofs.OriginLemmas.{goes_nowhere, goes_on}
use Rattle.granit_cursor.specs.Reading.{Moves}
use Rattle.granit_lexemes.specs.PlainEvent.{PlainEvent}
use Rattle.granit_restart.specs.Skipping.{ahead, with_pending}
use Rattle.granit_restart.specs.Turned.{turned_with}
use Rattle.granit_stepper.proofs.CalmLemmas.{nothing_waits_outside}
use Rattle.granit_stepper.proofs.HoldingLemmas.{met_held, never_turned, passes_found, passes_met}
use Rattle.granit_stepper.proofs.PassLemmas as pass
use Rattle.granit_stepper.proofs.PassLemmas.{dropped_none}
use Rattle.granit_stepper.proofs.RefusalLemmas.{stands_with}
use Rattle.granit_stepper.specs.Holding.{MeetsHeld}
use Rattle.granit_stepper.specs.Numbers.{GivesOr, RefusesNumber}
use Rattle.granit_stepper.specs.Recovering.{DropsTo}
use Rattle.granit_stepper.specs.Refusals.{StandsAhead, StandsRefused}
use Rattle.granit_stepper.specs.Stepping.{Stepping, StandsIn, turn_view}
use Rattle.granit_stepper.proofs.stepper.Stepper.pass_document.Goals as goal
use Rattle.granit_steps.specs.Steps.{step_turn}

pub turns-init : goal.turns-init
turns-init g c =
    let inside : Stepping g.row.T.Denot = record {
      scanner = c.self.inside.scanner;
      parser = c.self.inside.parser;
      first = c.self.inside.first;
      failed = c.self.inside.failed;
      renumbered = c.self.inside.renumbered;
      ahead = c.self.inside.ahead;
      refusal = c.self.inside.refusal;
    } in
    record {
      along = λ m stands turned. pass.skips_first g.T.Input.unread c.args.self.now.scanner.options inside m
          (subst (λ (s : Stepping g.row.T.Denot). StandsAhead g.T.Input.unread s m) (sym c.self.view_is) stands) turned;
      held = λ f is. ap (λ (s : Stepping g.row.T.Denot). record s { first = None }) c.self.view_is;
      told = refl;
      options = ap (λ (s : Stepping g.row.T.Denot). s.scanner.options) c.self.view_is;
      renumbered = ap (λ (s : Stepping g.row.T.Denot). s.renumbered) c.self.view_is;
      moves = subst (λ (t : Stepping g.row.T.Denot). Moves g.T.Input.unread g.T.Input.left g.T.Input.origin
          t.scanner.cursor inside.scanner.cursor) c.self.view_is
          (omega arith, goes_nowhere _, λ start before. before);
    }

pub returns-then-drop_events-clause-known : goal.returns-then-drop_events-clause-known
returns-then-drop_events-clause-known g c = λ m stands turned.
    let o = c.args.self.now.scanner.options in
    let s = c.turns.self in
    let new = c.drop_events.new.self in
    pass.skips_found g.T.Input.unread o s m (c.turns.invariant.along m stands turned) c.turns.invariant.told new
    (subst (λ (b : Bool). DropsTo (ahead s.parser.given) b new.parser.given) c.if-drop_events.true
    c.drop_events.ensures.dropped) c.drop_events.ensures.rest

pub returns-in-Ok-false-clause-known : goal.returns-in-Ok-false-clause-known
returns-in-Ok-false-clause-known g c = λ m stands turned.
    let unread = g.T.Input.unread in
    let o = c.args.self.now.scanner.options in
    let s = c.turns.self in
    let mid = c.drop_events.new.self in
    let new = c.advance_alone.new.self in
    let told = c.turns.invariant.told in
    let rest = c.drop_events.ensures.rest in
    let d = subst (λ (b : Bool). DropsTo (ahead s.parser.given) b mid.parser.given) c.if-drop_events.false
    c.drop_events.ensures.dropped in
    let first = ap (λ (t : Stepping g.row.T.Denot). t.first) rest ∙ told in
    let options = ap (λ (t : Stepping g.row.T.Denot). t.scanner.options) rest ∙ c.turns.invariant.options in
    let k = c.turns.invariant.along m stands turned in
    let none = pass.none_waits unread o s m k told mid.parser.given d in
    let here = pass.all_dropped unread o s m k told mid d rest in
    let t = pass.turn_gives unread mid new (with_pending [] k.at) here refl first o false
    (λ n at first none. subst (λ (p : OptionsData). GivesOr turn_view (Ok false) (StandsIn unread new) (step_turn p n)
    (RefusesNumber new.renumbered p n)) options (subst (λ (b : Bool). GivesOr turn_view (Ok b) (StandsIn unread new)
    (step_turn mid.scanner.options n) (RefusesNumber new.renumbered mid.scanner.options n)) c.in-Ok-false.field-0-test
    (c.in-Ok-false.ensures.known n at first none)))
    (subst (λ (b : Bool). IfSome mid.ahead (λ f. (◌≡◌ {A = Result Bool Refused} (Ok b) (Err f))
    × (new ≡ record mid { ahead = None }))) c.in-Ok-false.field-0-test c.in-Ok-false.ensures.ahead) in
    pass.skips_all unread o s m k told none new t.0 t.1 t.2

pub returns-in-Err-clause-known : goal.returns-in-Err-clause-known
returns-in-Err-clause-known g c = λ m stands turned.
    let unread = g.T.Input.unread in
    let o = c.args.self.now.scanner.options in
    let s = c.turns.self in
    let mid = c.drop_events.new.self in
    let new = c.advance_alone.new.self in
    let told = c.turns.invariant.told in
    let rest = c.drop_events.ensures.rest in
    let d = subst (λ (b : Bool). DropsTo (ahead s.parser.given) b mid.parser.given) c.if-drop_events.false
    c.drop_events.ensures.dropped in
    let first = ap (λ (t : Stepping g.row.T.Denot). t.first) rest ∙ told in
    let options = ap (λ (t : Stepping g.row.T.Denot). t.scanner.options) rest ∙ c.turns.invariant.options in
    let k = c.turns.invariant.along m stands turned in
    let n = with_pending [] k.at in
    let none = pass.none_waits unread o s m k told mid.parser.given d in
    let here = pass.all_dropped unread o s m k told mid d rest in
    let keeps = c.in-Err.ensures.keeps in
    let calm = nothing_waits_outside o n (turned_with [] k.turned) in
    let fails = pass.turn_fails unread mid new n here c.in-Err.error
    (λ at. c.in-Err.ensures.refused n at first refl calm) c.in-Err.ensures.ahead in
    let given = c.met.ensures.known n (keeps.failed ∙ pass.ahead_going unread mid n here) fails in
    pass.if_met unread o s m k none c.met.new.self c.in-Err.error
    (ap (λ (t : Stepping g.row.T.Denot). t.scanner.options) c.met.ensures.rest ∙ keeps.options ∙ options)
    c.met.result given

pub turns-preserved : goal.turns-preserved
turns-preserved g c =
    let unread = g.T.Input.unread in
    let o = c.args.self.now.scanner.options in
    let s = c.turns.self in
    let mid = c.drop_events.new.self in
    let new = c.advance_alone.new.self in
    let told = c.turns.invariant.told in
    let rest = c.drop_events.ensures.rest in
    let d = subst (λ (b : Bool). DropsTo (ahead s.parser.given) b mid.parser.given) c.if-drop_events.false
    c.drop_events.ensures.dropped in
    let first = ap (λ (t : Stepping g.row.T.Denot). t.first) rest ∙ told in
    let options = ap (λ (t : Stepping g.row.T.Denot). t.scanner.options) rest ∙ c.turns.invariant.options in
    let keeps = c.in-Ok-true.ensures.keeps in
    let moved = c.turns.invariant.moves in
    let more = subst (λ (t : Stepping g.row.T.Denot). Moves g.T.Input.unread g.T.Input.left g.T.Input.origin
    t.scanner.cursor new.scanner.cursor) rest c.in-Ok-true.ensures.moves in
    record {
      along = λ m stands turned.
          let k = c.turns.invariant.along m stands turned in
          let none = pass.none_waits unread o s m k told mid.parser.given d in
          let here = pass.all_dropped unread o s m k told mid d rest in
          let t = pass.turn_gives unread mid new (with_pending [] k.at) here refl first o true
          (λ n at first none. subst (λ (p : OptionsData). GivesOr turn_view (Ok true) (StandsIn unread new)
          (step_turn p n) (RefusesNumber new.renumbered p n)) options
          (subst (λ (b : Bool). GivesOr turn_view (Ok b) (StandsIn unread new) (step_turn mid.scanner.options n)
          (RefusesNumber new.renumbered mid.scanner.options n)) c.in-Ok-true.field-0-test
          (c.in-Ok-true.ensures.known n at first none)))
          (subst (λ (b : Bool). IfSome mid.ahead (λ f. (◌≡◌ {A = Result Bool Refused} (Ok b) (Err f))
          × (new ≡ record mid { ahead = None }))) c.in-Ok-true.field-0-test c.in-Ok-true.ensures.ahead) in
          pass.skips_on unread o s m k told none new t.0 [] t.1 t.2;
      held = λ f is. absurd (never_turned mid new f (ap (λ (t : Stepping g.row.T.Denot). t.ahead) rest
          ∙ ap (λ (t : Stepping g.row.T.Denot). t.ahead) (c.turns.invariant.held f is) ∙ is) true
          (subst (λ (b : Bool). IfSome mid.ahead (λ f. (◌≡◌ {A = Result Bool Refused} (Ok b) (Err f))
          × (new ≡ record mid { ahead = None }))) c.in-Ok-true.field-0-test c.in-Ok-true.ensures.ahead));
      told = keeps.first ∙ first;
      options = keeps.options ∙ options;
      renumbered = keeps.renumbered ∙ ap (λ (t : Stepping g.row.T.Denot). t.renumbered) rest
          ∙ c.turns.invariant.renumbered;
      moves = (
        omega (arith, moved.0, more.0),
        goes_on _ _ _ moved.1 more.1,
        λ start before. more.2 start (moved.2 start before),
      );
    }

pub returns-then-drop_events-clause-held : goal.returns-then-drop_events-clause-held
returns-then-drop_events-clause-held g c = λ m e h.
    let old = c.args.self.now in
    let new = c.drop_events.new.self in
    let same = c.turns.invariant.held e h.ahead in
    passes_found g.T.Input.unread old m e h new
    (subst (λ (s : Stepping g.row.T.Denot). DropsTo (ahead s.parser.given) true new.parser.given) same
    (subst (λ (b : Bool). DropsTo (ahead c.turns.self.parser.given) b new.parser.given) c.if-drop_events.true
    c.drop_events.ensures.dropped))
    (c.drop_events.ensures.rest ∙ ap (λ (s : Stepping g.row.T.Denot). record s {
      parser = record (s.parser) { given = new.parser.given };
    }) same)

pub returns-in-Ok-false-clause-held : goal.returns-in-Ok-false-clause-held
returns-in-Ok-false-clause-held g c = λ m e h.
    let mid = c.drop_events.new.self in
    let new = c.advance_alone.new.self in
    absurd (never_turned mid new e (ap (λ (t : Stepping g.row.T.Denot). t.ahead) c.drop_events.ensures.rest
    ∙ ap (λ (t : Stepping g.row.T.Denot). t.ahead) (c.turns.invariant.held e h.ahead) ∙ h.ahead) false
    (subst (λ (b : Bool). IfSome mid.ahead (λ f. (◌≡◌ {A = Result Bool Refused} (Ok b) (Err f))
    × (new ≡ record mid { ahead = None }))) c.in-Ok-false.field-0-test c.in-Ok-false.ensures.ahead))

pub returns-in-Err-clause-held : goal.returns-in-Err-clause-held
returns-in-Err-clause-held g c = λ m e h.
    let unread = g.T.Input.unread in
    let old = c.args.self.now in
    let mid = c.drop_events.new.self in
    let met = c.advance_alone.new.self in
    let new = c.met.new.self in
    let same = c.turns.invariant.held e h.ahead in
    let d = dropped_none (ahead old.parser.given) mid.parser.given
    (subst (λ (s : Stepping g.row.T.Denot). DropsTo (ahead s.parser.given) false mid.parser.given) same
    (subst (λ (b : Bool). DropsTo (ahead c.turns.self.parser.given) b mid.parser.given) c.if-drop_events.false
    c.drop_events.ensures.dropped)) in
    let dropped : mid ≡ record old { first = None; parser = record (old.parser) { given = [] } } =
    c.drop_events.ensures.rest ∙ ap (λ (s : Stepping g.row.T.Denot). record s {
      parser = record (s.parser) { given = mid.parser.given };
    }) same ∙ ap (λ (es : List PlainEvent). record old {
      first = None;
      parser = record (old.parser) { given = es };
    }) d.1 in
    let is = met_held mid met e (ap (λ (t : Stepping g.row.T.Denot). t.ahead) dropped ∙ h.ahead) c.in-Err.error
    c.in-Err.ensures.ahead in
    let there : met ≡ record old { first = None; ahead = None; parser = record (old.parser) { given = [] } } =
    is.1 ∙ ap (λ (s : Stepping g.row.T.Denot). record s { ahead = None }) dropped in
    let refused = subst (λ (s : Stepping g.row.T.Denot). StandsRefused unread s (with_pending [] m) e)
    (sym (there ∙ ap (λ (first : Option Mark). record old {
      first = first;
      ahead = None;
      parser = record (old.parser) { given = [] };
    }) (sym h.stands.told)))
    (stands_with unread old m e [] (record (old.parser) { given = [] }) None old.failed refl h.stands) in
    passes_met unread old m e h c.met.result new d.0
    (c.met.ensures.rest ∙ ap (λ (s : Stepping g.row.T.Denot). record s { ahead = new.ahead }) there)
    (subst (λ (f : Refused). IfOk c.met.result (λ ends. MeetsHeld f new (with_pending [] m) ends)) is.0
    (c.met.ensures.held (with_pending [] m)
    (subst (λ (f : Refused). StandsRefused unread met (with_pending [] m) f) (sym is.0) refused)))
