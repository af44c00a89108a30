use Rattle.std.proofs.Common.{ap, sym, subst, ◌∙◌}
use Rattle.granit_items.specs.ItemViews.{item_view}
use Rattle.granit_scan.specs.Scanning.{ScannerIn, TokenScanning}
use Rattle.granit_scan.proofs.StateLemmas.{writes}
use Rattle.granit_scan.proofs.scanner.Scanner.write_item.Goals as goal

pub returns-clause-known : goal.returns-clause-known
returns-clause-known g c = λ m at told none.
    let unread = g.T.Input.unread in
    let inside : TokenScanning g.row.T.Denot = record {
      items = c.self.inside.items;
      writer = c.self.inside.writer;
      first = c.self.inside.first;
      ended = c.self.inside.ended;
      failed = c.self.inside.failed;
      failed_in_directive = c.self.inside.failed_in_directive;
      wants_memory = c.self.inside.wants_memory;
      comments = c.self.inside.comments;
      source_error = c.self.inside.source_error;
    } in
    let here = subst (λ (s : TokenScanning g.row.T.Denot). ScannerIn unread s m) (sym c.self.view_is) at in
    let first = ap (λ (s : TokenScanning g.row.T.Denot). s.first) c.self.view_is ∙ told in
    writes unread inside m here c.args.queued.begins_key (item_view c.args.queued.item) c.write.new.self first none
    c.in_ok-write.ensures
