use Rattle.std.proofs.Common.{false, Option, Some, sym, ap, subst, ◌∙◌}
use Rattle.std.specs.Option.{option_map}
use Rattle.granit_error.specs.Refused.{Refused}
use Rattle.granit_scan.specs.Recovering.{ScannerProceeds}
use Rattle.granit_scan.specs.Scanning.{KeepsCopy, TokenScanning}
use Rattle.granit_scan.specs.TokenMemory.{KeepsWhole}
use Rattle.granit_scan.specs.TokenViews.{plain_token}
use Rattle.granit_scan.proofs.RecoveryLemmas.{rests}
use Rattle.granit_scan.proofs.SourceLemmas.{failed_on, moves_on}
use Rattle.granit_scan.proofs.scanner.Scanner.proceed_next_document.Goals as goal

pub returns-in-Ok-clause-known : goal.returns-in-Ok-clause-known
returns-in-Ok-clause-known g c = λ m here told.
    let same = ap (λ (s : TokenScanning g.row.T.Denot). s.items) c.revive.ensures in
    failed_on g.T.Input.origin c.args.self.now c.proceed.new.self c.revive.new.self same (λ e no. absurd cc)
    (λ there. subst (λ (s : TokenScanning g.row.T.Denot).
    ScannerProceeds g.T.Input.unread c.args.self.now.items.cursor (option_map plain_token c.args.token) m s)
    (sym c.revive.ensures) there)
    (c.in-Ok.ensures.known m here told)

pub returns-in-Ok-clause-standing : goal.returns-in-Ok-clause-standing
returns-in-Ok-clause-standing g c = λ m at told.
    let same = ap (λ (s : TokenScanning g.row.T.Denot). s.items) c.revive.ensures in
    failed_on g.T.Input.origin c.args.self.now c.proceed.new.self c.revive.new.self same (λ e no. absurd cc)
    (λ there. subst (λ (s : TokenScanning g.row.T.Denot).
    ScannerProceeds g.T.Input.unread c.args.self.now.items.cursor (option_map plain_token c.args.token) m s)
    (sym c.revive.ensures) there)
    (c.in-Ok.ensures.known m (rests g.T.Input.unread c.args.self.now m at) told)

pub returns-in-Ok-clause-source : goal.returns-in-Ok-clause-source
returns-in-Ok-clause-source g c =
    let same = ap (λ (s : TokenScanning g.row.T.Denot). s.items) c.revive.ensures in
    let kept = ap (λ (s : TokenScanning g.row.T.Denot). s.source_error) c.revive.ensures in
    failed_on g.T.Input.origin c.args.self.now c.proceed.new.self c.revive.new.self same
    (λ e no. absurd (let is = no.0 in cc)) (λ none. (none.0, kept ∙ none.1)) c.in-Ok.ensures.source

pub returns-in-Ok-clause-moves : goal.returns-in-Ok-clause-moves
returns-in-Ok-clause-moves g c =
    moves_on g.T.Input.left g.T.Input.origin (record c.args.self.now { failed = false }) c.proceed.new.self
    c.revive.new.self (ap (λ (s : TokenScanning g.row.T.Denot). s.items) c.revive.ensures) c.in-Ok.ensures.moves

pub returns-in-Err-clause-known : goal.returns-in-Err-clause-known
returns-in-Err-clause-known g c = λ m here told.
    let same = ap (λ (s : TokenScanning g.row.T.Denot). s.items) c.stop.ensures in
    failed_on g.T.Input.origin c.args.self.now c.proceed.new.self c.stop.new.self same (λ e is. is) (λ u. u)
    (c.in-Err.ensures.known m here told)

pub returns-in-Err-clause-standing : goal.returns-in-Err-clause-standing
returns-in-Err-clause-standing g c = λ m at told.
    let same = ap (λ (s : TokenScanning g.row.T.Denot). s.items) c.stop.ensures in
    failed_on g.T.Input.origin c.args.self.now c.proceed.new.self c.stop.new.self same (λ e is. is) (λ u. u)
    (c.in-Err.ensures.known m (rests g.T.Input.unread c.args.self.now m at) told)

pub returns-in-Err-clause-source : goal.returns-in-Err-clause-source
returns-in-Err-clause-source g c =
    let same = ap (λ (s : TokenScanning g.row.T.Denot). s.items) c.stop.ensures in
    let kept = ap (λ (s : TokenScanning g.row.T.Denot). s.source_error) c.stop.ensures in
    failed_on g.T.Input.origin c.args.self.now c.proceed.new.self c.stop.new.self same
    (λ e is. (is.0, subst (λ (r : Option Refused). KeepsCopy (Some e) r) (sym kept) is.1))
    (λ none. (none.0, kept ∙ none.1)) c.in-Err.ensures.source

pub returns-in-Err-clause-moves : goal.returns-in-Err-clause-moves
returns-in-Err-clause-moves g c =
    moves_on g.T.Input.left g.T.Input.origin (record c.args.self.now { failed = false }) c.proceed.new.self
    c.stop.new.self (ap (λ (s : TokenScanning g.row.T.Denot). s.items) c.stop.ensures) c.in-Err.ensures.moves

pub returns-in-Ok-clause-copied : goal.returns-in-Ok-clause-copied
returns-in-Ok-clause-copied g c =
    let same = ap (λ (s : TokenScanning g.row.T.Denot). s.items) c.revive.ensures in
    let kept = ap (λ (s : TokenScanning g.row.T.Denot). s.source_error) c.revive.ensures in
    failed_on g.T.Input.origin c.args.self.now c.proceed.new.self c.revive.new.self same
    (λ e whole. subst (λ (r : Option Refused). KeepsWhole e r) (sym kept) whole) (λ u. u) c.in-Ok.ensures.copied

pub returns-in-Err-clause-copied : goal.returns-in-Err-clause-copied
returns-in-Err-clause-copied g c =
    let same = ap (λ (s : TokenScanning g.row.T.Denot). s.items) c.stop.ensures in
    let kept = ap (λ (s : TokenScanning g.row.T.Denot). s.source_error) c.stop.ensures in
    failed_on g.T.Input.origin c.args.self.now c.proceed.new.self c.stop.new.self same
    (λ e whole. subst (λ (r : Option Refused). KeepsWhole e r) (sym kept) whole) (λ u. u) c.in-Err.ensures.copied

pub returns-in-Ok-clause-memory : goal.returns-in-Ok-clause-memory
returns-in-Ok-clause-memory g c = λ none.
    let same = ap (λ (s : TokenScanning g.row.T.Denot). s.items) c.revive.ensures in
    failed_on g.T.Input.origin c.args.self.now c.proceed.new.self c.revive.new.self same (λ e u. u) (λ is. is)
    (c.in-Ok.ensures.memory none)

pub returns-in-Err-clause-memory : goal.returns-in-Err-clause-memory
returns-in-Err-clause-memory g c = λ none.
    let same = ap (λ (s : TokenScanning g.row.T.Denot). s.items) c.stop.ensures in
    failed_on g.T.Input.origin c.args.self.now c.proceed.new.self c.stop.new.self same (λ e u. u) (λ is. is)
    (c.in-Err.ensures.memory none)
