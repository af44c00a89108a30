use Rattle.std.proofs.Common.{◌≡◌, refl, sym, subst}
use Rattle.granit_scan.specs.Scanning.{ScannerIn, TokenScanning}
use Rattle.granit_scan.specs.TokenViews.{StartOfStream, marked, plain_token}
use Rattle.granit_scan.proofs.StateLemmas.{takes_start}
use Rattle.granit_scan.proofs.scanner.Scanner.take_token.Goals as goal

pub returns-in-Some-clause-known : goal.returns-in-Some-clause-known
returns-in-Some-clause-known g c = λ m at.
    let unread = g.T.Input.unread in
    let inside : TokenScanning g.row.T.Denot = record {
      items = c.self.inside.items;
      writer = c.self.inside.writer;
      first = c.self.inside.first;
      ended = c.self.inside.ended;
      failed = c.self.inside.failed;
      failed_in_directive = c.self.inside.failed_in_directive;
      wants_memory = c.self.inside.wants_memory;
      comments = c.self.inside.comments;
      source_error = c.self.inside.source_error;
    } in
    let here = subst (λ (s : TokenScanning g.row.T.Denot). ScannerIn unread s m) (sym c.self.view_is) at in
    let told : plain_token c.new.result ≡ marked StartOfStream c.in-Some.start =
    rw c.new.ensures (rw c.empty.ensures refl) in
    takes_start unread inside m here c.in-Some.start c.new.result c.in-Some.is told
