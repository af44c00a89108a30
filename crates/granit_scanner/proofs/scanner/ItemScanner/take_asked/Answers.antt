use Rattle.granit_scanner.proofs.KnownLemmas.{taken_asked}
use Rattle.granit_scanner.proofs.scanner.ItemScanner.take_asked.Goals as goal

pub returns-clause-known : goal.returns-clause-known
returns-clause-known g c = λ l q k goes. rw (c.take_front_asked.ensures.item, c.take_front_asked.ensures.rest)
    (taken_asked g.T.Input.unread c.args.self.now l q k goes)
