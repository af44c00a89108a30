use Rattle.std.proofs.Common.{◌≡◌, sym, subst, ◌∙◌, None}
use Rattle.std.specs.Prelude.{IfSome}
use Rattle.std.specs.Option.{option_map}
use Rattle.granit_scan.specs.Recovering.{Rests, ScannerProceeds}
use Rattle.granit_scan.specs.Scanning.{TokenScanning, revived}
use Rattle.granit_scan.specs.TokenViews.{plain_token}
use Rattle.granit_scan.proofs.RecoveryLemmas.{proceeds}
use Rattle.granit_scan.proofs.scanner.Scanner.restart.Goals as goal

pub returns-clause-known : goal.returns-clause-known
returns-clause-known g c = λ m rests told.
    let unread = g.T.Input.unread in
    let inside : TokenScanning g.row.T.Denot = record {
      items = c.self.inside.items;
      writer = c.self.inside.writer;
      first = c.self.inside.first;
      ended = c.self.inside.ended;
      failed = c.self.inside.failed;
      failed_in_directive = c.self.inside.failed_in_directive;
      wants_memory = c.self.inside.wants_memory;
      comments = c.self.inside.comments;
      source_error = c.self.inside.source_error;
    } in
    let after : TokenScanning g.row.T.Denot = record inside {
      items = c.restart.new.self;
      writer = c.begin_anew.new.self;
    } in
    let here = subst (λ (s : TokenScanning g.row.T.Denot). Rests unread s m) (sym c.self.view_is) rests in
    let given = subst (λ (s : TokenScanning g.row.T.Denot). IfSome c.args.token
    (λ t. s.first ≡ None)) (sym c.self.view_is)
    told in
    subst (λ (s : TokenScanning g.row.T.Denot).
    ScannerProceeds unread s.items.cursor (option_map plain_token c.args.token) m (revived after)) c.self.view_is
    (proceeds unread inside m here (sym c.is_lost.ensures ∙ c.if-is_lost.false) c.args.token given
    c.in_ok-mark.mark c.in_ok-mark.ensures.taken c.in_ok-restart.field-0 after c.in_ok-restart.ensures.known
    c.begin_anew.ensures)
