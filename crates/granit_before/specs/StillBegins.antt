-- With which lexemes a simple key may still begin behind others, said of the lexemes (YAML 1.2.2, 7.4.2 and 8.2.2).
use Rattle.std.specs.Prelude.{◌≡◌, ℕ, ◌≤◌, true, false, List, ◌∷◌, ◌⊎◌}
use Rattle.granit_base.specs.Place.{Mark}
use Rattle.granit_error.specs.OptionsData.{OptionsData}
use Rattle.granit_language.specs.Fitting.{Opens}
use Rattle.granit_language.specs.HeldSaid.{Lead}
use Rattle.granit_language.specs.KeyRuns.{role, WholeBrackets, Run, MayBeKey, too_far}
use Rattle.granit_lexemes.specs.Lexeme.{Lexeme}

-- a bracket is the innermost one that is open behind some lexemes
pub record IsInnermostBracket (opener : Lexeme) (before ls : List Lexeme) : Type 0 where
  pub whole : WholeBrackets ls (opener ∷ before)
  pub opens : role opener ≡ Opens

-- the run that ends with the lexemes may be a key, and a place behind them isn't too far from it for a `:`
pub record WaitsHere (o : OptionsData) (text : List ℕ) (m : Mark) (ls : List Lexeme) (first : Lexeme)
    (rest : List Lexeme) : Type 0 where
  pub run : Run ls first rest
  pub may : MayBeKey text first.in_flow first rest
  pub near : too_far o first.in_flow first.start m ≡ false

-- The run that a bracket begins or goes on with may be a key. While the bracket is open no break ends a key, and
-- characters alone say whether it is near a place; but outside flow the bracket opens on the line where the run begins.
pub record WaitsAround (o : OptionsData) (text : List ℕ) (m : Mark) (opener : Lexeme) (before : List Lexeme)
    (first : Lexeme) (rest : List Lexeme) : Type 0 where
  pub lead : Lead opener before first rest
  pub may : MayBeKey text first.in_flow first rest
  pub near : too_far o true first.start m ≡ false
  pub line : first.in_flow ≡ false → opener.start.place.line ≤ first.start.place.line

-- so does that of one of the open brackets
pub data WaitsOutside (o : OptionsData) (text : List ℕ) (m : Mark) (first : Lexeme) (rest : List Lexeme) :
    (ls : List Lexeme) → Type 0 where
  around_innermost :
      {opener : Lexeme} {before ls : List Lexeme} → IsInnermostBracket opener before ls →
      WaitsAround o text m opener before first rest → WaitsOutside o text m first rest ls
  further_out :
      {opener : Lexeme} {before ls : List Lexeme} → IsInnermostBracket opener before ls →
      WaitsOutside o text m first rest before → WaitsOutside o text m first rest ls

-- Behind these lexemes, the latest first, and at a place behind them, a simple key may still begin with the lexeme of a
-- number.
pub record StillBegins (o : OptionsData) (text : List ℕ) (m : Mark) (ls : List Lexeme) (number : ℕ) : Type 0 where
  pub first : Lexeme
  pub rest : List Lexeme
  pub waits : WaitsHere o text m ls first rest ⊎ WaitsOutside o text m first rest ls
  pub is : first.number ≡ number
