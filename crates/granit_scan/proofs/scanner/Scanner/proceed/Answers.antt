use Rattle.std.proofs.Common.{false, refl, sym, ap, subst, ◌∙◌}
use Rattle.std.specs.Option.{option_map}
use Rattle.granit_scan.specs.Scanning.{TokenScanning}
use Rattle.granit_scan.specs.TokenMemory.{KeepsWhole}
use Rattle.granit_scan.specs.TokenViews.{plain_token}
use Rattle.granit_scan.proofs.RecoveryLemmas.{proceeds_still}
use Rattle.granit_scan.proofs.SourceLemmas.{ready_fails, ready_gives, ready_moves}
use Rattle.granit_scanner.specs.Scans as scans
use Rattle.granit_scanner.specs.Scans.{Known}
use Rattle.granit_scan.proofs.scanner.Scanner.proceed.Goals as goal

pub returns-in-None-clause-known : goal.returns-in-None-clause-known
returns-in-None-clause-known g c = λ m rests told.
    let unread = g.T.Input.unread in
    let asked = ap (λ (s : TokenScanning g.row.T.Denot). s.writer) c.ask_source.ensures.rest in
    let given = ap (λ (s : TokenScanning g.row.T.Denot). s.writer) c.in-None.ensures.rest in
    let items = ap (λ (s : TokenScanning g.row.T.Denot). s.items) c.in-None.ensures.rest in
    ready_gives g.T.Input.origin c.args.self.now c.restart-restarted.new.self c.ask_source.new.self
    c.give_source_error.new.self c.restart-restarted.ensures.keeps.source_error
    c.restart-restarted.ensures.moves.1 c.ask_source.ensures.origin c.ask_source.ensures.place
    c.ask_source.ensures.first (ap (λ (s : TokenScanning g.row.T.Denot). s.items) c.in-None.ensures.rest)
    _ _ c.in-None.ensures.given
    (proceeds_still unread c.args.self.now.items.cursor (option_map plain_token c.args.token) m
    c.restart-restarted.result
    c.restart-restarted.new.self c.give_source_error.new.self
    (λ l q known. subst (λ (i : scans.Scanning g.row.T.Denot). Known unread i l q) (sym items)
    (c.ask_source.ensures.reading l q known))
    (given ∙ asked) (c.restart-restarted.ensures.known m rests told))

pub returns-in-None-clause-source : goal.returns-in-None-clause-source
returns-in-None-clause-source g c =
    ready_gives g.T.Input.origin c.args.self.now c.restart-restarted.new.self c.ask_source.new.self
    c.give_source_error.new.self c.restart-restarted.ensures.keeps.source_error
    c.restart-restarted.ensures.moves.1 c.ask_source.ensures.origin c.ask_source.ensures.place
    c.ask_source.ensures.first (ap (λ (s : TokenScanning g.row.T.Denot). s.items) c.in-None.ensures.rest)
    _ _ c.in-None.ensures.given (c.restart-restarted.ensures.refused, c.in-None.ensures.kept)

pub returns-in-None-clause-moves : goal.returns-in-None-clause-moves
returns-in-None-clause-moves g c =
    ready_moves g.T.Input.origin (record c.args.self.now { failed = false }) c.restart-restarted.new.self
    c.ask_source.new.self c.give_source_error.new.self c.restart-restarted.ensures.keeps.source_error
    c.restart-restarted.ensures.moves.1 c.ask_source.ensures.origin c.ask_source.ensures.place
    c.ask_source.ensures.first (ap (λ (s : TokenScanning g.row.T.Denot). s.items) c.in-None.ensures.rest)
    g.T.Input.left c.restart-restarted.ensures.moves.0 c.ask_source.ensures.left

pub returns-in-Some-clause-known : goal.returns-in-Some-clause-known
returns-in-Some-clause-known g c = λ m rests told.
    ready_fails g.T.Input.origin c.args.self.now c.restart-restarted.new.self c.ask_source.new.self
    c.give_source_error.new.self c.restart-restarted.ensures.keeps.source_error
    c.restart-restarted.ensures.moves.1 c.ask_source.ensures.origin c.ask_source.ensures.place
    c.ask_source.ensures.first (ap (λ (s : TokenScanning g.row.T.Denot). s.items)
    c.in-Some.ensures.rest) _ _ c.in-Some.error
    c.in-Some.ensures.given refl

pub returns-in-Some-clause-source : goal.returns-in-Some-clause-source
returns-in-Some-clause-source g c =
    ready_fails g.T.Input.origin c.args.self.now c.restart-restarted.new.self c.ask_source.new.self
    c.give_source_error.new.self c.restart-restarted.ensures.keeps.source_error
    c.restart-restarted.ensures.moves.1 c.ask_source.ensures.origin c.ask_source.ensures.place
    c.ask_source.ensures.first (ap (λ (s : TokenScanning g.row.T.Denot). s.items)
    c.in-Some.ensures.rest) _ _ c.in-Some.error
    c.in-Some.ensures.given (refl, c.in-Some.ensures.kept)

pub returns-in-Some-clause-moves : goal.returns-in-Some-clause-moves
returns-in-Some-clause-moves g c =
    ready_moves g.T.Input.origin (record c.args.self.now { failed = false }) c.restart-restarted.new.self
    c.ask_source.new.self c.give_source_error.new.self c.restart-restarted.ensures.keeps.source_error
    c.restart-restarted.ensures.moves.1 c.ask_source.ensures.origin c.ask_source.ensures.place
    c.ask_source.ensures.first (ap (λ (s : TokenScanning g.row.T.Denot). s.items) c.in-Some.ensures.rest)
    g.T.Input.left c.restart-restarted.ensures.moves.0 c.ask_source.ensures.left

pub returns-in-None-clause-copied : goal.returns-in-None-clause-copied
returns-in-None-clause-copied g c =
    ready_gives g.T.Input.origin c.args.self.now c.restart-restarted.new.self c.ask_source.new.self
    c.give_source_error.new.self c.restart-restarted.ensures.keeps.source_error
    c.restart-restarted.ensures.moves.1 c.ask_source.ensures.origin c.ask_source.ensures.place
    c.ask_source.ensures.first (ap (λ (s : TokenScanning g.row.T.Denot). s.items) c.in-None.ensures.rest)
    _ (Unit {0}) c.in-None.ensures.given (tt {0})

pub returns-in-Some-clause-copied : goal.returns-in-Some-clause-copied
returns-in-Some-clause-copied g c =
    ready_fails g.T.Input.origin c.args.self.now c.restart-restarted.new.self c.ask_source.new.self
    c.give_source_error.new.self c.restart-restarted.ensures.keeps.source_error
    c.restart-restarted.ensures.moves.1 c.ask_source.ensures.origin c.ask_source.ensures.place
    c.ask_source.ensures.first (ap (λ (s : TokenScanning g.row.T.Denot). s.items) c.in-Some.ensures.rest)
    (λ e. KeepsWhole e c.give_source_error.new.self.source_error) _ c.in-Some.error c.in-Some.ensures.given
    c.in-Some.ensures.memory

pub returns-in-None-clause-memory : goal.returns-in-None-clause-memory
returns-in-None-clause-memory g c = λ none.
    ready_gives g.T.Input.origin c.args.self.now c.restart-restarted.new.self c.ask_source.new.self
    c.give_source_error.new.self c.restart-restarted.ensures.keeps.source_error
    c.restart-restarted.ensures.moves.1 c.ask_source.ensures.origin c.ask_source.ensures.place
    c.ask_source.ensures.first (ap (λ (s : TokenScanning g.row.T.Denot). s.items) c.in-None.ensures.rest)
    _ _ c.in-None.ensures.given (c.restart-restarted.ensures.memory none)

pub returns-in-Some-clause-memory : goal.returns-in-Some-clause-memory
returns-in-Some-clause-memory g c = λ none.
    ready_fails g.T.Input.origin c.args.self.now c.restart-restarted.new.self c.ask_source.new.self
    c.give_source_error.new.self c.restart-restarted.ensures.keeps.source_error
    c.restart-restarted.ensures.moves.1 c.ask_source.ensures.origin c.ask_source.ensures.place
    c.ask_source.ensures.first (ap (λ (s : TokenScanning g.row.T.Denot). s.items) c.in-Some.ensures.rest)
    (λ e. Unit {0}) _ c.in-Some.error c.in-Some.ensures.given (tt {0})
