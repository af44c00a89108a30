-- The keys that are possible, and how they follow one another.
use Rattle.std.specs.Prelude.{ℕ, ◌<◌, List, [], ◌∷◌, Option, Some, None}
use Rattle.granit_lexemes.specs.declared.layout.OpenBracket.{OpenBracket}
use Rattle.granit_lexemes.specs.declared.layout.PossibleKey.{PossibleKey}
use Rattle.granit_machine.specs.Laid.{Laid}

abbrev pub and_possible : Option PossibleKey → List PossibleKey → List PossibleKey
and_possible None ks = ks
and_possible (Some k) ks = k ∷ ks

abbrev pub keys_inside : List OpenBracket → List PossibleKey → List PossibleKey
keys_inside [] ks = ks
keys_inside (b ∷ bs) ks = and_possible b.key (keys_inside bs ks)

-- the possible keys, the innermost first; that there is at most one a depth is said by the type of what is laid
abbrev pub possible_keys : Laid → List PossibleKey
possible_keys l = keys_inside l.brackets (and_possible l.key [])

-- each begins behind the next one, by number and by place, and all before a number and an index
abbrev pub KeysRise : (number index : ℕ) → List PossibleKey → Type 0
KeysRise number index [] = Unit {0}
KeysRise number index (k ∷ ks) =
    (k.number < number) × (k.start.place.index < index) × KeysRise k.number k.start.place.index ks
