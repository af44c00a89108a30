use Rattle.std.proofs.Common.{Bool, sym, ap, subst, ◌∙◌}
use Rattle.std.specs.Prelude.{if◌then◌else◌}
use Rattle.granit_error.specs.OptionsView.{options_of}
use Rattle.granit_reader.specs.Meets.{behind_met}
use Rattle.granit_restart.specs.Header.{ends_in_directive}
use Rattle.granit_scanner.specs.Scans.{Known, Scanning}
use Rattle.granit_scanner.proofs.KnownLemmas.{known_last}
use Rattle.granit_scanner.proofs.scanner.ItemScanner.ends_in_directive.Goals as goal

pub returns-then-is_some : goal.returns-then-is_some
returns-then-is_some g c = record {
  known = λ l q k.
      let unread = g.T.Input.unread in
      let inside : Scanning _ = record {
        cursor = c.self.inside.cursor;
        laid = c.self.inside.layouts;
        options = options_of c.self.inside.options;
        queue = c.self.inside.queue;
        ended = c.self.inside.ended;
        fault = c.self.inside.fault;
        met = c.self.inside.met;
        held = c.self.inside.held;
      } in
      let known : Known unread inside l q = subst (λ r. Known unread r l q) (sym c.self.view_is) k in
      let waiting = c.is_behind-waiting.ensures ∙ c.last_behind.ensures c.args.before in
      c.is_behind.ensures ∙ ap (behind_met inside.held) waiting
      ∙ sym (ap (λ (b : Bool). if b then behind_met inside.held (ends_in_directive c.args.before inside.queue)
      else ends_in_directive c.args.before inside.queue) (sym c.is_some.ensures ∙ c.if-is_some.true))
      ∙ known_last unread inside l q c.args.before known;
}

pub returns-else-is_some : goal.returns-else-is_some
returns-else-is_some g c = record {
  known = λ l q k.
      let unread = g.T.Input.unread in
      let inside : Scanning _ = record {
        cursor = c.self.inside.cursor;
        laid = c.self.inside.layouts;
        options = options_of c.self.inside.options;
        queue = c.self.inside.queue;
        ended = c.self.inside.ended;
        fault = c.self.inside.fault;
        met = c.self.inside.met;
        held = c.self.inside.held;
      } in
      let known : Known unread inside l q = subst (λ r. Known unread r l q) (sym c.self.view_is) k in
      c.is_behind-waiting.ensures ∙ c.last_behind.ensures c.args.before
      ∙ sym (ap (λ (b : Bool). if b then behind_met inside.held (ends_in_directive c.args.before inside.queue)
      else ends_in_directive c.args.before inside.queue) (sym c.is_some.ensures ∙ c.if-is_some.false))
      ∙ known_last unread inside l q c.args.before known;
}
