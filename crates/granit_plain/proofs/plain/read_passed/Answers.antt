use Rattle.std.proofs.Common.{◌≡◌, true, sym, ◌∙◌}
use Rattle.granit_base.specs.Classes.{is_break}
use Rattle.granit_lexemes.specs.Basics.{past_break}
use Rattle.granit_lexemes.specs.Here.{next_char}
use Rattle.granit_cursor.specs.Tokens.{layout_data}
use Rattle.granit_plain.proofs.MemoryLemmas.{broken_blank, unexpected_other}
use Rattle.granit_refused.specs.Answered.{answered}
use Rattle.granit_plain.proofs.plain.read_passed.Goals as goal

pub returns-clause-here : goal.returns-clause-here
returns-clause-here g c = λ h k.
    let broken = c.at_break.ensures.here h k in
    let y : is_break (next_char h) ≡ true = sym broken.1 ∙ c.if-not-at_break.false in
    rw y (c.read_further.ensures.here (past_break h) (c.past_break.ensures.here h broken.0))

-- ---- memory

pub returns-then-not-at_break-clause-memory : goal.returns-then-not-at_break-clause-memory
returns-then-not-at_break-clause-memory g c = λ h k here ends.
    unexpected_other (answered c.finish_plain.new.fault c.finish_plain.result) c.finish_plain.ensures.kinds

pub returns-clause-memory : goal.returns-clause-memory
returns-clause-memory g c = λ h k here ends.
    let broken = c.at_break.ensures.here h k in
    let y : is_break (next_char h) ≡ true = sym broken.1 ∙ c.if-not-at_break.false in
    c.read_further.ensures.memory (past_break h) (c.past_break.ensures.here h broken.0)
    (broken_blank (layout_data c.args.at.now) c.args.start c.args.line.now.end h here y ends)
