use Rattle.granit_cursor.specs.Reading.{Moves}
use Rattle.granit_scan.specs.Scanning.{ScannerKeeps}
use Rattle.granit_scan.proofs.MemoryLemmas.{Unturned}
use Rattle.granit_scan.proofs.SettleLemmas.{Leads, SettlesAlike}
use Rattle.granit_scan.proofs.scanner.Scanner.settle.Given as goal

abbrev pub invariant-turns : goal.invariant-turns
invariant-turns g l = record {
  alike : SettlesAlike g.T.Input.unread l.fn.self l.self;
  leads : Leads g.T.Input.unread l.fn.self l.self;
  unturned : Unturned l.fn.self l.self l._made;
  keeps : ScannerKeeps l.fn.self l.self;
  moves : Moves g.T.Input.unread g.T.Input.left g.T.Input.origin l.fn.self.items.cursor l.self.items.cursor;
}
