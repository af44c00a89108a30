use Rattle.std.proofs.Common.{List, ℕ, ap, ◌∙◌, ◌++◌}
use Rattle.granit_event.proofs.NameLemmas.{two_pieces}
use Rattle.granit_event.proofs.names.joined.Goals as goal

pub returns : goal.returns
returns c = two_pieces _ _ c.args.first.now c.args.second.now c.utf8.first
    (c.in_ok-push_str.ensures.bytes ∙ ap (λ (bs : List ℕ). bs ++ c.args.second.now) c.in_ok-text.ensures.ok)
    c.new.ensures
