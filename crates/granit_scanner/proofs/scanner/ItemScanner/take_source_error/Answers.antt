use Rattle.std.proofs.Common.{sym, subst}
use Rattle.granit_error.specs.OptionsView.{options_of}
use Rattle.granit_scanner.specs.Scans.{Known, KnownBy, Scanning}
use Rattle.granit_scanner.proofs.KnownLemmas.{known_moved, moved_by}
use Rattle.granit_scanner.proofs.scanner.ItemScanner.take_source_error.Goals as goal

pub returns-clause-known : goal.returns-clause-known
returns-clause-known g c = λ l q k.
    let unread = g.T.Input.unread in
    let inside : Scanning _ = record {
      cursor = c.self.inside.cursor;
      laid = c.self.inside.layouts;
      options = options_of c.self.inside.options;
      queue = c.self.inside.queue;
      ended = c.self.inside.ended;
      fault = c.self.inside.fault;
      met = c.self.inside.met;
      held = c.self.inside.held;
    } in
    known_moved unread inside c.take_source_error.new.self l q c.take_source_error.ensures.here
    c.take_source_error.ensures.onward (subst (λ r. Known unread r l q) (sym c.self.view_is) k)

pub returns-clause-known_by : goal.returns-clause-known_by
returns-clause-known_by g c = λ f l q k.
    let unread = g.T.Input.unread in
    let inside : Scanning _ = record {
      cursor = c.self.inside.cursor;
      laid = c.self.inside.layouts;
      options = options_of c.self.inside.options;
      queue = c.self.inside.queue;
      ended = c.self.inside.ended;
      fault = c.self.inside.fault;
      met = c.self.inside.met;
      held = c.self.inside.held;
    } in
    moved_by unread inside c.take_source_error.new.self l q c.take_source_error.ensures.here
    c.take_source_error.ensures.onward f (subst (λ r. KnownBy unread f r l q) (sym c.self.view_is) k)
