use Rattle.std.proofs.Common.{sym, ◌∙◌}
use Rattle.granit_runs.proofs.AsciiLemmas.{plain_ascii, word_ascii, space_ascii}
use Rattle.granit_runs.proofs.class.Run.takes_ascii.Goals as goal

pub returns-in-Plain-clause-takes : goal.returns-in-Plain-clause-takes
returns-in-Plain-clause-takes c = λ after held seen. rw c.in-Plain.is
    (plain_ascii c.in-Plain.in_flow c.args.c after (sym c.is_plain_ascii.ensures ∙ held))

pub returns-then-is_plain_ascii-clause-takes : goal.returns-then-is_plain_ascii-clause-takes
returns-then-is_plain_ascii-clause-takes c = λ after held seen. rw c.in-PlainWords.is
    (word_ascii c.in-PlainWords.in_flow c.args.c after (sym c.is_plain_ascii-in-PlainWords.ensures ∙ held))

pub returns-then-c-eq32-clause-takes : goal.returns-then-c-eq32-clause-takes
returns-then-c-eq32-clause-takes c = λ after held seen. rw c.in-PlainWords.is
    (space_ascii c.in-PlainWords.in_flow c.args.c c.args.next after c.if-c-eq32.true
    (sym c.begins_ascii_word.ensures ∙ held) seen)
