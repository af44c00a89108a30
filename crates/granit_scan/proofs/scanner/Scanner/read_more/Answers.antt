use Rattle.std.proofs.Common.{◌≡◌, false, sym, ap, subst, ◌∙◌}
use Rattle.granit_error.specs.OptionsData.{OptionsData}
use Rattle.granit_scan.specs.Scanning.{ScannerIn, TokenScanning}
use Rattle.granit_scan.proofs.StateLemmas.{no_fault_yet, reads}
use Rattle.granit_scan.proofs.scanner.Scanner.read_more.Goals as goal
use Rattle.granit_scanner.specs.Scans.{ReadsOn}
use Rattle.granit_steps.specs.Steps.{is_over}

pub returns-clause-known : goal.returns-clause-known
returns-clause-known g c = λ m at waits.
    let unread = g.T.Input.unread in
    let inside : TokenScanning g.row.T.Denot = record {
      items = c.self.inside.items;
      writer = c.self.inside.writer;
      first = c.self.inside.first;
      ended = c.self.inside.ended;
      failed = c.self.inside.failed;
      failed_in_directive = c.self.inside.failed_in_directive;
      wants_memory = c.self.inside.wants_memory;
      comments = c.self.inside.comments;
      source_error = c.self.inside.source_error;
    } in
    let after = c.read_on.new.self in
    let here : ScannerIn unread inside m = subst
    (λ (s : TokenScanning g.row.T.Denot). ScannerIn unread s m) (sym c.self.view_is) at in
    let going : is_over m.reading ≡ false =
    sym (c.is_over.ensures.known m.reading m.queue here.reading) ∙ c.if-is_over.false in
    let none = no_fault_yet unread inside m here going in
    let read = c.in_ok-read_on.ensures.known m.reading m.queue here.reading none waits in
    let options = ap (λ (s : TokenScanning g.row.T.Denot). s.items.options) c.self.view_is in
    reads unread inside m here c.args.self.now.items.options after going
    (subst (λ (o : OptionsData). ReadsOn unread o after m.reading m.queue) options read)
