use Rattle.std.proofs.Common.{Ok, refl, sym, ap, ◌∙◌}
use Rattle.granit_scan.specs.Scanning.{TokenScanning}
use Rattle.granit_scan.proofs.MemoryLemmas.{told_at_start, told_past_start}
use Rattle.granit_scan.proofs.StateLemmas.{start_waits}
use Rattle.granit_scan.proofs.scanner.Scanner.settle_behind_start.Goals as goal

pub returns-in-Some-clause-known : goal.returns-in-Some-clause-known
returns-in-Some-clause-known g c = λ m at.
    let told = sym (ap (λ (s : TokenScanning g.row.T.Denot). s.first) c.self.view_is) ∙ c.in-Some.is in
    start_waits g.T.Input.unread c.args.self.now m at (tt {0}) c.args.self.now.items.options c.in-Some.field-0 told

pub returns-in-Some-clause-memory : goal.returns-in-Some-clause-memory
returns-in-Some-clause-memory g c =
    let told = sym (ap (λ (s : TokenScanning g.row.T.Denot). s.first) c.self.view_is) ∙ c.in-Some.is in
    told_at_start (Ok tt) c.args.self.now c.in-Some.field-0 told refl

pub returns-in-None-clause-memory : goal.returns-in-None-clause-memory
returns-in-None-clause-memory g c =
    let told = sym (ap (λ (s : TokenScanning g.row.T.Denot). s.first) c.self.view_is) ∙ c.in-None.is in
    told_past_start c.settle.result c.args.self.now told c.settle.ensures.memory
