use Rattle.granit_error.specs.OptionsView.{options_of}
use Rattle.granit_words.specs.Words.{spelled}
use Rattle.granit_words.proofs.WordLemmas.{right_or_wrong}
use Rattle.granit_events.proofs.input.take_input.Goals as goal

pub returns-in-Ok-read_all-clause-unread : goal.returns-in-Ok-read_all-clause-unread
returns-in-Ok-read_all-clause-unread g c = λ k wrong. absurd (right_or_wrong (spelled c.args.words.now) k
    (options_of c.in-Ok.options, c.in-Ok.ensures.right) wrong)

pub returns-in-Err-TooLong-clause-unread : goal.returns-in-Err-TooLong-clause-unread
returns-in-Err-TooLong-clause-unread g c = λ k wrong. absurd (right_or_wrong (spelled c.args.words.now) k
    (options_of c.in-Ok.options, c.in-Ok.ensures.right) wrong)

pub returns-in-Err-Failed-clause-unread : goal.returns-in-Err-Failed-clause-unread
returns-in-Err-Failed-clause-unread g c = λ k wrong. absurd (right_or_wrong (spelled c.args.words.now) k
    (options_of c.in-Ok.options, c.in-Ok.ensures.right) wrong)

pub returns-in-Err-NoMemory-clause-unread : goal.returns-in-Err-NoMemory-clause-unread
returns-in-Err-NoMemory-clause-unread g c = λ k wrong. absurd (right_or_wrong (spelled c.args.words.now) k
    (options_of c.in-Ok.options, c.in-Ok.ensures.right) wrong)
