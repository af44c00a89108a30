use Rattle.std.proofs.Common.{codes}
use Rattle.std.specs.Option.{option_map}
use Rattle.granit_lexemes.specs.Line.{explicit_word, version_words}
use Rattle.granit_event.specs.Events.{plain_version}
use Rattle.granit_lines.proofs.PushLemmas.{after_two}
use Rattle.granit_lines.proofs.printing.push_document_start.Goals as goal

pub returns : goal.returns
returns c =
    let word = rw c.explicit_word.ensures at c.in_ok-push_word-2.ensures in
    after_two c.push_version.result _ _ _ c.args.out.now.items (codes "DocumentStart ")
    (explicit_word c.args.explicit) (version_words (option_map plain_version c.args.version.now))
    c.in_ok-push_word.ensures word c.push_version.ensures
