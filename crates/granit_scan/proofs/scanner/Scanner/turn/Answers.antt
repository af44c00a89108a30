use Rattle.std.proofs.Common.{◌≡◌, [], true, false, ◌==◌, List, length, Ok, refl, sym, ap, subst, ◌∙◌}
use Rattle.granit_cursor.specs.Reading.{GivesTo}
use Rattle.granit_error.specs.OptionsData.{OptionsData}
use Rattle.granit_queue.specs.QueueViews.{queued_view}
use Rattle.granit_scan.specs.Scanning.{ScannerIn, TokenScanning, token_turn_view}
use Rattle.granit_scan.specs.TokenMemory.{AnswersKept}
use Rattle.granit_scan.specs.TokenSteps.{TokenState, TokenTurn, read_more_tokens}
use Rattle.granit_scan.specs.TokenViews.{PlainToken}
use Rattle.granit_scan.proofs.MemoryLemmas.{item_waits, reading_over, token_waits}
use Rattle.granit_scan.proofs.RecoveryLemmas.{memory_rests}
use Rattle.granit_scan.proofs.StateLemmas.{waiting}
use Rattle.granit_scan.proofs.TurnLemmas.{none_waits, turn_reads, turn_waits, turn_writes}
use Rattle.granit_scan.proofs.scanner.Scanner.turn.Goals as goal
use Rattle.granit_scanner.specs.Scans.{Scanning, is_done}

pub returns-then-not-is_empty-clause-known : goal.returns-then-not-is_empty-clause-known
returns-then-not-is_empty-clause-known g c = λ m at told.
    let writer = ap (λ (s : TokenScanning g.row.T.Denot). s.writer.waiting) c.self.view_is in
    let some : (length c.self.inside.writer.waiting == 0) ≡ false =
    sym c.is_empty.ensures ∙ c.if-not-is_empty.true in
    let pending = waiting g.T.Input.unread c.args.self.now m at told ∙ sym writer in (
      m,
      at,
      turn_waits c.args.self.now.items.options m (ap (λ (ts : List PlainToken). length ts == 0) pending ∙ some),
    )

pub returns-in-Some-clause-known : goal.returns-in-Some-clause-known
returns-in-Some-clause-known g c = λ m at told.
    let unread = g.T.Input.unread in
    let o = c.args.self.now.items.options in
    let i = queued_view c.in-Some.queued in
    let after = c.write_item.new.self in
    let writer = ap (λ (s : TokenScanning g.row.T.Denot). s.writer.waiting) c.self.view_is in
    let none : (length c.self.inside.writer.waiting == 0) ≡ true =
    sym c.is_empty.ensures ∙ c.if-not-is_empty.false in
    let pending : m.pending ≡ [] =
    waiting unread c.args.self.now m at told ∙ sym writer ∙ none_waits c.self.inside.writer.waiting none in
    let free = c.in-Some.ensures.known m at in
    let behind : TokenState = record m { queue = free.0 } in
    let wrote = c.write_item.ensures.known behind free.3 (c.in-Some.ensures.keeps.first ∙ told) pending in
    subst (λ (r : TokenTurn). GivesTo token_turn_view c.write_item.result (ScannerIn unread after) r)
    (sym (turn_writes o m i free.0 pending free.1 free.2)) wrote

pub returns-in-None-clause-known : goal.returns-in-None-clause-known
returns-in-None-clause-known g c = λ m at told.
    let unread = g.T.Input.unread in
    let o = c.args.self.now.items.options in
    let after = c.read_more.new.self in
    let writer = ap (λ (s : TokenScanning g.row.T.Denot). s.writer.waiting) c.self.view_is in
    let none : (length c.self.inside.writer.waiting == 0) ≡ true =
    sym c.is_empty.ensures ∙ c.if-not-is_empty.false in
    let pending : m.pending ≡ [] =
    waiting unread c.args.self.now m at told ∙ sym writer ∙ none_waits c.self.inside.writer.waiting none in
    let free = c.in-None.ensures.known m at in
    let read = c.read_more.ensures.known m free.1 free.0 in
    let same = subst
    (λ (p : OptionsData). GivesTo token_turn_view c.read_more.result (ScannerIn unread after)
    (read_more_tokens p m.reading.ended m))
    c.in-None.ensures.keeps.options read in
    subst (λ (r : TokenTurn). GivesTo token_turn_view c.read_more.result (ScannerIn unread after) r)
    (sym (turn_reads o m pending free.0)) same

pub returns-in-Some-clause-refused : goal.returns-in-Some-clause-refused
returns-in-Some-clause-refused g c = λ m at.
    memory_rests g.T.Input.unread c.write_item.result c.write_item.new.self m c.write_item.ensures.refused

pub returns-in-None-clause-refused : goal.returns-in-None-clause-refused
returns-in-None-clause-refused g c = λ m at.
    c.read_more.ensures.refused m (c.in-None.ensures.known m at).1

pub returns-then-not-is_empty-clause-memory : goal.returns-then-not-is_empty-clause-memory
returns-then-not-is_empty-clause-memory g c =
    let writer = ap (λ (s : TokenScanning g.row.T.Denot). s.writer.waiting) c.self.view_is in
    let some : (length c.self.inside.writer.waiting == 0) ≡ false =
    sym c.is_empty.ensures ∙ c.if-not-is_empty.true in
    token_waits c.args.self.now (Ok false) (ap (λ (ts : List PlainToken). length ts == 0) (sym writer) ∙ some) refl

pub returns-in-Some-clause-memory : goal.returns-in-Some-clause-memory
returns-in-Some-clause-memory g c =
    let writer = ap (λ (s : TokenScanning g.row.T.Denot). s.writer.waiting) c.self.view_is in
    let none : (length c.self.inside.writer.waiting == 0) ≡ true =
    sym c.is_empty.ensures ∙ c.if-not-is_empty.false in
    item_waits c.args.self.now c.write_item.result (queued_view c.in-Some.queued)
    (sym writer ∙ none_waits c.self.inside.writer.waiting none) c.in-Some.ensures.front

pub returns-in-None-clause-memory : goal.returns-in-None-clause-memory
returns-in-None-clause-memory g c =
    let writer = ap (λ (s : TokenScanning g.row.T.Denot). s.writer.waiting) c.self.view_is in
    let none : (length c.self.inside.writer.waiting == 0) ≡ true =
    sym c.is_empty.ensures ∙ c.if-not-is_empty.false in
    reading_over c.args.self.now c.read_more.result
    (sym writer ∙ none_waits c.self.inside.writer.waiting none)
    (subst (λ (i : Scanning g.row.T.Denot). is_done i ≡ true → AnswersKept i.fault c.read_more.result)
    c.in-None.ensures.rest c.read_more.ensures.memory)
