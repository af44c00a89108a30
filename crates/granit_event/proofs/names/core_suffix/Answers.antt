use Rattle.std.proofs.Common.{ap, ◌∙◌}
use Rattle.std.specs.Option.{option_and_then}
use Rattle.std.specs.Str.{chars}
use Rattle.granit_event.specs.Names.{named, core_names}
use Rattle.granit_event.proofs.names.core_suffix.Goals as goal

pub returns-in-None : goal.returns-in-None
unfolding chars
returns-in-None c = ap (option_and_then (named core_names)) c.in-None.ensures.joined

pub returns-in-Some : goal.returns-in-Some
unfolding chars
returns-in-Some c = c.core_name.ensures ∙ ap (option_and_then (named core_names)) c.in-Some.ensures.joined
