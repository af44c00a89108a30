use Rattle.granit_event.proofs.NameLemmas.{strip_is}
use Rattle.granit_event.proofs.names.behind_front.Goals as goal

pub returns : goal.returns
returns c = strip_is c.strip_prefix.result c.args.front.now c.args.text.now c.utf8.front c.utf8.text
    c.strip_prefix.ensures.cases
