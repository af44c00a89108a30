-- What a fault says: a cut, the open place at its end, and that no stream goes on with the lexeme there.
use Rattle.std.specs.Prelude.{◌≡◌, List, [], ◌∷◌, ◌++◌}
use Rattle.granit_language.specs.FaultKinds.{fault_kind_at}
use Rattle.granit_language.specs.GrammarFault.{GrammarFault}
use Rattle.granit_language.specs.Node.{Stream}
use Rattle.granit_language.specs.OpenPlace.{OpenPlace, OpenPlaced, HasOneName, spell_open}
use Rattle.granit_language.specs.Placed.{StreamPlaced}
use Rattle.granit_language.specs.Settling.{settle_place}
use Rattle.granit_language.specs.Terminal.{Terminal}
use Rattle.granit_language.specs.Yield.{spell_stream}

-- the lexemes are those of a placed stream
abbrev pub IsSpelled : List Terminal → Type 0
IsSpelled xs = (s : Stream) × (spell_stream s [] ≡ xs) × StreamPlaced s

-- Lexemes with which some stream begins, the next lexeme, with which none goes on, and the open place between, which
-- names the kind.
pub record FaultAt (xs : List Terminal) (k : GrammarFault) (x : Terminal) : Type 0 where
  pub front : List Terminal
  pub rest : List Terminal
  pub is : xs ≡ front ++ (x ∷ rest)
  pub place : OpenPlace
  pub cut : (more : List Terminal) → spell_open place more ≡ front ++ more
  pub placed : OpenPlaced x place
  pub is_open : HasOneName place
  -- what the lexeme ends is finished there
  pub settled : settle_place x place ≡ place
  pub kind_is : k ≡ fault_kind_at place x.kind
  -- nothing goes on so
  pub unread : (more : List Terminal) → IsSpelled (front ++ (x ∷ more)) → ⊥
  -- and something without it does
  pub viable : (more : List Terminal) × IsSpelled (front ++ more)
