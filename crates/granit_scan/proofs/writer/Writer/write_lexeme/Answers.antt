use Rattle.std.proofs.Common.{ap, ◌∙◌}
use Rattle.granit_items.specs.ItemViews.{lexeme_view}
use Rattle.granit_scan.specs.Following.{inserted_before, left_behind, with_own}
use Rattle.granit_scan.proofs.WriteLemmas.{written_whole}
use Rattle.granit_scan.proofs.writer.Writer.write_lexeme.Goals as goal

pub returns : goal.returns
returns c =
    let l = lexeme_view c.args.lexeme.now in
    let b = c.args.begins_key in
    c.in_ok-write_own.ensures
    ∙ ap (with_own l) (c.in_ok-follow.ensures.left
    ∙ ap (left_behind l) (c.in_ok-insert_before.ensures.inserted
    ∙ ap (inserted_before b l) c.in_ok-write_ends.ensures.wrote))
    ∙ written_whole b l c.args.self.now
