use Rattle.std.proofs.Common.{refl}
use Rattle.std.specs.Str.{chars}
use Rattle.granit_lexemes.specs.Here.{start_of}
use Rattle.granit_sourced.proofs.opening.open_str.Goals as goal

pub returns-clause-start : goal.returns-clause-start
returns-clause-start c =
    c.new.ensures.start (start_of (chars c.args.value.now)) c.new-input.ensures.unread refl refl refl
