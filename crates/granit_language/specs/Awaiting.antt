-- Lexemes behind which a node must come, directly behind a `-` or a `:` (YAML 1.2.2, 7.4 and 8.2).
use Rattle.std.specs.Prelude.{◌≡◌, true, List, []}
use Rattle.granit_language.specs.OpenPlace.{Around, FlowPairs, Hole, AtEntry, AtColon, spell_hole, HolePlaced}
use Rattle.granit_language.specs.Node.{Left}
use Rattle.granit_language.specs.Room.{is_made}
use Rattle.granit_language.specs.Terminal.{Terminal}
use Rattle.granit_lexemes.specs.declared.layout.Bracket.TheVariants.{Square}

-- the `:` of a pair waits, but for that behind a `?` in a flow sequence
abbrev pub PairWaits : Around → Left → Type 0
PairWaits (FlowPairs p Square opener lead) left = is_made left ≡ true
PairWaits around left = Unit {0}

-- a place for a node directly behind a `-` or such a `:`
abbrev pub WaitsIn : Hole → Type 0
WaitsIn (AtEntry r p indentless column lead dash) = Unit {0}
WaitsIn (AtColon r around left colon) = PairWaits around left
WaitsIn r = ⊥

-- Such a place stands behind these lexemes.
pub record AwaitsNode (xs : List Terminal) : Type 0 where
  pub hole : Hole
  pub placed : HolePlaced hole
  pub spelled : spell_hole hole [] ≡ xs
  pub waits : WaitsIn hole
