-- Where a scanner goes on behind a refusal.
use Rattle.std.specs.Prelude.{◌≡◌, Bool, true, false, List, [], ◌∷◌, Option, Some, None}
use Rattle.std.specs.Global.{Box}
use Rattle.granit_base.specs.Place.{Unread}
use Rattle.granit_items.specs.ItemViews.{boxed_lexeme}
use Rattle.granit_items.specs.declared.item.Lexeme.{Lexeme}
use Rattle.granit_lexemes.specs.Here.{Here}
use Rattle.granit_lexemes.specs.Lexeme as lexemes
use Rattle.granit_lexemes.specs.Lexeme.{OfLexeme}
use Rattle.granit_machine.specs.Lexing.{FlaggedItem}
use Rattle.granit_restart.specs.Boundary.{AtStart, Boundary, next_boundary}
use Rattle.granit_restart.specs.Restart.{read_boundary}
use Rattle.granit_scanner.specs.Scans.{Scanning, Known}
use Rattle.granit_steps.specs.Steps.{StepState, unflagged}

-- a lexeme that was taken, in front of the items that wait
abbrev pub front_items : Option (Box Lexeme) → List FlaggedItem
front_items None = []
front_items (Some l) = unflagged (OfLexeme (boxed_lexeme l)) ∷ []

-- whether a `---` comes next is told, and a scanner is known to be there
abbrev pub Restarts : {I : Type 0} → (I → Unread → Type 0) → Bool × StepState → Scanning I → Bool → Type 0
Restarts unread x s starts = (starts ≡ x.0) × Known unread s x.1.reading x.1.queue

-- whether a boundary is a `---` that stands in the text
abbrev pub is_start_in_text : Boundary → Bool
is_start_in_text (AtStart h) = true
is_start_in_text b = false

abbrev pub finds_start_by : Option lexemes.Lexeme → Boundary → Bool
finds_start_by None b = is_start_in_text b
finds_start_by (Some l) b = false

-- whether that is where reading goes on, since none of these items is a boundary: a lexeme is made of it
abbrev pub finds_start : Here → List FlaggedItem → Bool
finds_start h q = finds_start_by (read_boundary h q) (next_boundary h)
