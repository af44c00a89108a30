-- Gaps: what stands between lexemes (YAML 1.2.2, 6.1, 6.2 and 6.5).
use Rattle.std.specs.Prelude.{◌≡◌, ℕ, ◌≢◌, Bool, true, List, [], ◌∷◌, ◌++◌, drop}
use Rattle.granit_base.specs.Classes.{is_gap}

-- each character passes a test
abbrev pub Each : (ℕ → Bool) → List ℕ → Type 0
Each test [] = Unit {0}
Each test (c ∷ cs) = (test c ≡ true) × Each test cs

-- these characters stand in a text from an index on, and there is this behind them
pub record CharactersStand (x : List ℕ) (i : ℕ) (cs : List ℕ) (behind : List ℕ) : Type 0 where
  pub inside : drop i x ≡ cs ++ behind

-- blanks and breaks
abbrev pub IsGap : List ℕ → Type 0
IsGap g = Each is_gap g

-- a gap that must hold a character, where the lexeme before it wants one
abbrev pub Parts : Bool → List ℕ → Type 0
Parts owes g = owes ≡ true → g ≢ []
