-- The first of two mentions.
use Rattle.std.proofs.Common.{◌≡◌, true, false, Option, Some, None, is_some, refl}
use Rattle.granit_model.specs.declared.fitting.Mention.{Mention}
use Rattle.granit_model.specs.FirstMention.{or_else}

pub none_first : (a b : Option Mention) → is_some a ≡ false → b ≡ or_else a b
none_first None b h = refl
none_first (Some m) b h = absurd cc

pub some_first : (a b : Option Mention) → is_some a ≡ true → a ≡ or_else a b
some_first None b h = absurd cc
some_first (Some m) b h = refl
