use Rattle.std.proofs.Common.{◌++◌}
use Rattle.std.specs.Str.{chars}
use Rattle.granit_event.proofs.NameLemmas.{seven}
use Rattle.granit_event.proofs.names.core_name.Goals as goal

pub returns : goal.returns
unfolding chars
returns c = seven (chars c.args.first.now ++ chars c.args.second.now) _ _ _ _ _ _ _ c.name_or-found.ensures
    c.name_or-found-2.ensures c.name_or-found-3.ensures c.name_or-found-4.ensures c.name_or-found-5.ensures
    c.name_or-found-6.ensures c.name_or.ensures
