use Rattle.std.proofs.Common.{IsSome, true≢false, sym, ap, subst, ◌∙◌}
use Rattle.std.specs.Option.{option_map}
use Rattle.granit_base.specs.Written.{Written}
use Rattle.granit_frames.proofs.EntryLemmas.{prefix_found}
use Rattle.granit_frames.proofs.names.remember_handle.Goals as goal

pub returns-in_err-insert-clause-again : goal.returns-in_err-insert-clause-again
returns-in_err-insert-clause-again c = λ there.
    absurd (true≢false (sym (subst IsSome
    (sym (prefix_found c.args.handle c.args.handles.now.entries)
    ∙ ap (option_map (λ (t : Written). t.characters)) c.in_err-insert.ensures.absent) there)))
