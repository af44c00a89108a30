use Rattle.std.proofs.Common.{ℕ, List, ◌++◌, ap, ◌∙◌}
use Rattle.std.specs.Str.{chars}
use Rattle.granit_lexemes.specs.Basics.{owned}
use Rattle.granit_cursor.proofs.MoveLemmas.{cleared}
use Rattle.granit_plain.proofs.plain.text_of_lines.Goals as goal

pub returns-clause-text : goal.returns-clause-text
returns-clause-text c =
    let front = c.in_ok-push_text.ensures.appended
    ∙ ap (λ (t : List ℕ). t ++ chars c.args.front.now) (cleared c.new-text.result c.new-text.ensures.bytes) in
    rw c.if-is_one_line.false (c.owned.ensures ∙ ap owned (c.in_ok-push_text-2.ensures.appended
    ∙ ap (λ (t : List ℕ). t ++ chars c.args.further.now) front))
