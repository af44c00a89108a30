-- Keys that properties begin.
use Rattle.std.specs.Prelude.{Bool, false, Option, Some, None}
use Rattle.granit_lexemes.specs.declared.layout.PossibleKey.{PossibleKey}

-- a possible key of which only properties were read
abbrev pub is_headed : Option PossibleKey → Bool
is_headed None = false
is_headed (Some k) = k.is_head
