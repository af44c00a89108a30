use Rattle.std.proofs.Common.{refl, ap}
use Rattle.granit_scan.specs.Scanning.{TokenScanning}
use Rattle.granit_scan.specs.TokenMemory.{KeepsWhole}
use Rattle.granit_scan.proofs.RecoveryLemmas.{refusal_stays, rests_alike, rests_on}
use Rattle.granit_scan.proofs.SourceLemmas.{lands_on, ready_fails, ready_gives, ready_moves}
use Rattle.granit_scan.proofs.scanner.Scanner.ready.Goals as goal
use Rattle.granit_scanner.specs.Scans as scans

pub returns-in-None-clause-known : goal.returns-in-None-clause-known
returns-in-None-clause-known g c = λ m at.
    ready_gives g.T.Input.origin c.args.self.now c.settle_behind_start-settled.new.self c.ask_source.new.self
    c.give_source_error.new.self c.settle_behind_start-settled.ensures.keeps.source_error
    c.settle_behind_start-settled.ensures.moves.1 c.ask_source.ensures.origin c.ask_source.ensures.place
    c.ask_source.ensures.first (ap (λ (s : TokenScanning g.row.T.Denot). s.items) c.in-None.ensures.rest)
    _ _ c.in-None.ensures.given
    (lands_on c.settle_behind_start-settled.result _ _ _ (λ n stands. c.in-None.ensures.known n
    (c.ask_source.ensures.known n stands)) (c.settle_behind_start-settled.ensures.known m at))

pub returns-in-None-clause-source : goal.returns-in-None-clause-source
returns-in-None-clause-source g c =
    ready_gives g.T.Input.origin c.args.self.now c.settle_behind_start-settled.new.self c.ask_source.new.self
    c.give_source_error.new.self c.settle_behind_start-settled.ensures.keeps.source_error
    c.settle_behind_start-settled.ensures.moves.1 c.ask_source.ensures.origin c.ask_source.ensures.place
    c.ask_source.ensures.first (ap (λ (s : TokenScanning g.row.T.Denot). s.items) c.in-None.ensures.rest)
    _ _ c.in-None.ensures.given (c.settle_behind_start-settled.ensures.start, c.in-None.ensures.kept)

pub returns-in-None-clause-moves : goal.returns-in-None-clause-moves
returns-in-None-clause-moves g c =
    ready_moves g.T.Input.origin c.args.self.now c.settle_behind_start-settled.new.self c.ask_source.new.self
    c.give_source_error.new.self c.settle_behind_start-settled.ensures.keeps.source_error
    c.settle_behind_start-settled.ensures.moves.1 c.ask_source.ensures.origin c.ask_source.ensures.place
    c.ask_source.ensures.first (ap (λ (s : TokenScanning g.row.T.Denot). s.items) c.in-None.ensures.rest)
    g.T.Input.left c.settle_behind_start-settled.ensures.moves.0 c.ask_source.ensures.left

pub returns-in-Some-clause-known : goal.returns-in-Some-clause-known
returns-in-Some-clause-known g c = λ m at.
    ready_fails g.T.Input.origin c.args.self.now c.settle_behind_start-settled.new.self c.ask_source.new.self
    c.give_source_error.new.self c.settle_behind_start-settled.ensures.keeps.source_error
    c.settle_behind_start-settled.ensures.moves.1 c.ask_source.ensures.origin c.ask_source.ensures.place
    c.ask_source.ensures.first (ap (λ (s : TokenScanning g.row.T.Denot). s.items)
    c.in-Some.ensures.rest) _ _ c.in-Some.error
    c.in-Some.ensures.given refl

pub returns-in-Some-clause-source : goal.returns-in-Some-clause-source
returns-in-Some-clause-source g c =
    ready_fails g.T.Input.origin c.args.self.now c.settle_behind_start-settled.new.self c.ask_source.new.self
    c.give_source_error.new.self c.settle_behind_start-settled.ensures.keeps.source_error
    c.settle_behind_start-settled.ensures.moves.1 c.ask_source.ensures.origin c.ask_source.ensures.place
    c.ask_source.ensures.first (ap (λ (s : TokenScanning g.row.T.Denot). s.items)
    c.in-Some.ensures.rest) _ _ c.in-Some.error
    c.in-Some.ensures.given (refl, c.in-Some.ensures.kept)

pub returns-in-Some-clause-moves : goal.returns-in-Some-clause-moves
returns-in-Some-clause-moves g c =
    ready_moves g.T.Input.origin c.args.self.now c.settle_behind_start-settled.new.self c.ask_source.new.self
    c.give_source_error.new.self c.settle_behind_start-settled.ensures.keeps.source_error
    c.settle_behind_start-settled.ensures.moves.1 c.ask_source.ensures.origin c.ask_source.ensures.place
    c.ask_source.ensures.first (ap (λ (s : TokenScanning g.row.T.Denot). s.items) c.in-Some.ensures.rest)
    g.T.Input.left c.settle_behind_start-settled.ensures.moves.0 c.ask_source.ensures.left

pub returns-in-None-clause-refused : goal.returns-in-None-clause-refused
returns-in-None-clause-refused g c = λ m at.
    let unread = g.T.Input.unread in
    let asked = c.ask_source.new.self in
    let given = c.give_source_error.new.self in
    let rest = c.ask_source.ensures.rest in
    let items = c.ask_source.ensures.items in
    let same = c.in-None.ensures.rest in
    ready_gives g.T.Input.origin c.args.self.now c.settle_behind_start-settled.new.self c.ask_source.new.self
    c.give_source_error.new.self c.settle_behind_start-settled.ensures.keeps.source_error
    c.settle_behind_start-settled.ensures.moves.1 c.ask_source.ensures.origin c.ask_source.ensures.place
    c.ask_source.ensures.first (ap (λ (s : TokenScanning g.row.T.Denot). s.items) c.in-None.ensures.rest)
    _ _ c.in-None.ensures.given
    (refusal_stays unread c.args.self.now.items.options c.settle_behind_start-settled.new.self given m
    (λ n r. rests_alike unread asked given n
    (ap (λ (s : TokenScanning g.row.T.Denot). s.items.cursor) same)
    (ap (λ (s : TokenScanning g.row.T.Denot). s.items.laid) same)
    (ap (λ (s : TokenScanning g.row.T.Denot). s.items.queue) same)
    (ap (λ (s : TokenScanning g.row.T.Denot). s.first) same) (ap (λ (s : TokenScanning g.row.T.Denot). s.writer) same)
    (rests_on unread c.settle_behind_start-settled.new.self asked n c.ask_source.ensures.here
    c.ask_source.ensures.onward (ap (λ (i : scans.Scanning g.row.T.Denot). i.laid) items)
    (ap (λ (i : scans.Scanning g.row.T.Denot). i.queue) items) (ap (λ (s : TokenScanning g.row.T.Denot). s.first) rest)
    (ap (λ (s : TokenScanning g.row.T.Denot). s.writer) rest) r))
    c.settle_behind_start-settled.result (c.settle_behind_start-settled.ensures.refused m at))

pub returns-in-Some-clause-refused : goal.returns-in-Some-clause-refused
returns-in-Some-clause-refused g c = λ m at.
    ready_fails g.T.Input.origin c.args.self.now c.settle_behind_start-settled.new.self c.ask_source.new.self
    c.give_source_error.new.self c.settle_behind_start-settled.ensures.keeps.source_error
    c.settle_behind_start-settled.ensures.moves.1 c.ask_source.ensures.origin c.ask_source.ensures.place
    c.ask_source.ensures.first (ap (λ (s : TokenScanning g.row.T.Denot). s.items) c.in-Some.ensures.rest)
    (λ e. Unit {0}) _ c.in-Some.error c.in-Some.ensures.given (tt {0})

pub returns-in-None-clause-memory : goal.returns-in-None-clause-memory
returns-in-None-clause-memory g c =
    ready_gives g.T.Input.origin c.args.self.now c.settle_behind_start-settled.new.self c.ask_source.new.self
    c.give_source_error.new.self c.settle_behind_start-settled.ensures.keeps.source_error
    c.settle_behind_start-settled.ensures.moves.1 c.ask_source.ensures.origin c.ask_source.ensures.place
    c.ask_source.ensures.first (ap (λ (s : TokenScanning g.row.T.Denot). s.items) c.in-None.ensures.rest)
    _ _ c.in-None.ensures.given c.settle_behind_start-settled.ensures.memory

pub returns-in-Some-clause-memory : goal.returns-in-Some-clause-memory
returns-in-Some-clause-memory g c =
    ready_fails g.T.Input.origin c.args.self.now c.settle_behind_start-settled.new.self c.ask_source.new.self
    c.give_source_error.new.self c.settle_behind_start-settled.ensures.keeps.source_error
    c.settle_behind_start-settled.ensures.moves.1 c.ask_source.ensures.origin c.ask_source.ensures.place
    c.ask_source.ensures.first (ap (λ (s : TokenScanning g.row.T.Denot). s.items) c.in-Some.ensures.rest)
    (λ e. Unit {0}) _ c.in-Some.error c.in-Some.ensures.given (tt {0})

pub returns-in-None-clause-copied : goal.returns-in-None-clause-copied
returns-in-None-clause-copied g c =
    ready_gives g.T.Input.origin c.args.self.now c.settle_behind_start-settled.new.self c.ask_source.new.self
    c.give_source_error.new.self c.settle_behind_start-settled.ensures.keeps.source_error
    c.settle_behind_start-settled.ensures.moves.1 c.ask_source.ensures.origin c.ask_source.ensures.place
    c.ask_source.ensures.first (ap (λ (s : TokenScanning g.row.T.Denot). s.items) c.in-None.ensures.rest)
    _ (Unit {0}) c.in-None.ensures.given (tt {0})

pub returns-in-Some-clause-copied : goal.returns-in-Some-clause-copied
returns-in-Some-clause-copied g c =
    ready_fails g.T.Input.origin c.args.self.now c.settle_behind_start-settled.new.self c.ask_source.new.self
    c.give_source_error.new.self c.settle_behind_start-settled.ensures.keeps.source_error
    c.settle_behind_start-settled.ensures.moves.1 c.ask_source.ensures.origin c.ask_source.ensures.place
    c.ask_source.ensures.first (ap (λ (s : TokenScanning g.row.T.Denot). s.items) c.in-Some.ensures.rest)
    (λ e. KeepsWhole e c.give_source_error.new.self.source_error) _ c.in-Some.error c.in-Some.ensures.given
    c.in-Some.ensures.memory
