use Rattle.std.proofs.Common.{codes}
use Rattle.granit_lexemes.specs.Line.{in_quotes}
use Rattle.granit_lines.proofs.PushLemmas.{after_one}
use Rattle.granit_lines.proofs.printing.push_unresolved.Goals as goal

pub returns : goal.returns
returns c =
    let quoted = rw c.as_str.ensures at c.push_in_quotes.ensures in
    after_one c.push_in_quotes.result _ _ c.args.out.now.items (codes "UnresolvedAlias ")
    (in_quotes c.args.name.now.characters) c.in_ok-push_word.ensures quoted
