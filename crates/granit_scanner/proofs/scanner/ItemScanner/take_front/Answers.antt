use Rattle.granit_scanner.proofs.KnownLemmas.{taken}
use Rattle.granit_scanner.proofs.scanner.ItemScanner.take_front.Goals as goal

pub returns-clause-known : goal.returns-clause-known
returns-clause-known g c = λ l q k goes. rw (c.take_oldest.ensures.item, c.take_oldest.ensures.rest)
    (taken g.T.Input.unread c.args.self.now l q k goes)
