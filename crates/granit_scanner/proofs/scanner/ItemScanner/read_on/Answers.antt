use Rattle.std.proofs.Common.{◌≡◌, false, None, take, refl, sym, subst}
use Rattle.std.proofs.lemmas.Result.{on_ok_weaker}
use Rattle.granit_error.specs.OptionsView.{options_of}
use Rattle.granit_items.specs.ItemViews.{found_items}
use Rattle.granit_machine.specs.Machine.{settled}
use Rattle.granit_scanner.specs.Scans.{Scanning, Known, ReadsOn, front_goes}
use Rattle.granit_refused.specs.Answered.{answered}
use Rattle.granit_scanner.proofs.KnownLemmas.{no_fault}
use Rattle.granit_scanner.proofs.ReadingLemmas.{stands, read_taken}
use Rattle.granit_scanner.proofs.scanner.ItemScanner.read_on.Goals as goal

pub returns-clause-known : goal.returns-clause-known
returns-clause-known g c = λ l q k none waits.
    let unread = g.T.Input.unread in
    let o = options_of c.self.inside.options in
    let inside : Scanning _ = record {
      cursor = c.self.inside.cursor;
      laid = c.self.inside.layouts;
      options = o;
      queue = c.self.inside.queue;
      ended = c.self.inside.ended;
      fault = c.self.inside.fault;
      met = c.self.inside.met;
      held = c.self.inside.held;
    } in
    let mid : Scanning _ = record {
      cursor = c.next_found-read.new.at;
      laid = c.next_found-read.new.layouts;
      options = o;
      queue = c.self.inside.queue;
      ended = c.next_found-read.new.ended;
      fault = None;
      met = c.self.inside.met;
      held = c.self.inside.held;
    } in
    let free = c.free_count-free.result in
    let known : Known unread inside l q = subst (λ r. Known unread r l q) (sym c.self.view_is) k in
    let at = stands unread inside l q known none in
    let frees = subst (λ r. front_goes false r.laid r.queue ≡ false
    → take free r.queue ≡ settled r.laid r.queue) (sym c.self.view_is) c.free_count-free.ensures in
    -- what the read met, behind the gap before which it began
    let meets = c.next_found-read.ensures.met l.reader.here at.0 in
    on_ok_weaker c.take_read.result
    (λ took. subst (λ r. ReadsOn unread r.options c.take_read.new.self l q) c.self.view_is
    (read_taken unread inside l q o known none mid c.take_read.new.self
    (sym (no_fault unread inside l q known none)) refl c.number-number.result
    c.next_found-read.new.met c.number-number.ensures c.next_found-read.ensures.moves.2
    (answered c.next_found-read.new.fault c.next_found-read.result)
    (found_items c.next_found-read.new.found) free took waits frees meets
    (c.next_found-read.ensures.here l.reader.here at.0)))
    c.take_read.ensures.taken
