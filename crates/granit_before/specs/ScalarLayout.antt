-- What a scalar is told of its place, said of the lexemes before it (YAML 1.2.2, 6.1, 6.3 and 8.1).
use Rattle.std.specs.Prelude.{◌≡◌, ◌≢◌, ℕ, ◌+◌, ◌≤◌, true, List, ◌⊎◌, Option, Some, None}
use Rattle.granit_error.specs.OptionsData.{OptionsData}
use Rattle.granit_language.specs.OpenColumns.{IsOpenColumn, LeavesOpen}
use Rattle.granit_lexemes.specs.LayoutData.{LayoutData}
use Rattle.granit_lexemes.specs.Lexeme.{Lexeme}
use Rattle.granit_before.specs.Tabs.{IsWideColumn}

-- a column is open and stays so in front of a lexeme
abbrev pub StaysOpen : List Lexeme → Lexeme → ℕ → Type 0
StaysOpen before x c = IsOpenColumn before c × LeavesOpen x c

pub record InnermostStays (before : List Lexeme) (x : Lexeme) (c : ℕ) : Type 0 where
  pub stays : StaysOpen before x c
  pub innermost : (d : ℕ) → StaysOpen before x d → d ≤ c

abbrev pub NoColumnStays : List Lexeme → Lexeme → Type 0
NoColumnStays before x = (c : ℕ) → StaysOpen before x c → ⊥

-- the column of the block collection that a scalar stands in
pub data BlockIs (before : List Lexeme) (x : Lexeme) : Option ℕ → Type 0 where
  at_root : NoColumnStays before x → BlockIs before x None
  in_block : {c : ℕ} → InnermostStays before x c → BlockIs before x (Some c)

-- No tab of a line that the scalar goes on over may stand in that column either: its entry asks for a node further
-- right, and the scalar stands in flow or isn't in the column itself; or all in flow is indented strictly.
abbrev pub NoTabInColumn : OptionsData → (text : List ℕ) → List Lexeme → Lexeme → ℕ → Type 0
NoTabInColumn o text before x c =
    (IsWideColumn text before c × ((x.in_flow ≡ true) ⊎ (c ≢ x.start.place.column)))
    ⊎ ((x.in_flow ≡ true) × (o.strict_indentation ≡ true))

-- the column left of which a tab is refused
pub data TabsRefused (o : OptionsData) (text : List ℕ) (before : List Lexeme) (x : Lexeme) : ℕ → Type 0 where
  nowhere : NoColumnStays before x → TabsRefused o text before x 0
  left_of : {c : ℕ} → InnermostStays before x c → (NoTabInColumn o text before x c → ⊥) → TabsRefused o text before x c
  and_in : {c : ℕ} → InnermostStays before x c → NoTabInColumn o text before x c → TabsRefused o text before x (c + 1)

pub record ScalarLayout (o : OptionsData) (text : List ℕ) (before : List Lexeme) (x : Lexeme) (d : LayoutData) :
    Type 0 where
  pub block : BlockIs before x d.block_column
  pub tabs : TabsRefused o text before x d.tab_column
  pub flow : d.in_flow ≡ x.in_flow
  pub strict : d.strict ≡ o.strict_indentation
  pub comments : d.comments ≡ true
