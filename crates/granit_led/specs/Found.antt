-- A `---` that was read and not used, behind which reading stands.
use Rattle.std.specs.Prelude.{◌≡◌, ℕ, true, List, ◌∷◌, None}
use Rattle.granit_base.specs.Classes.{is_blank_or_breakz}
use Rattle.granit_base.specs.Place.{first}
use Rattle.granit_lexemes.specs.Here.{Here, mark_of}
use Rattle.granit_lexemes.specs.Lexeme.{DocumentStart, Lexeme}
use Rattle.granit_lexemes.specs.Moves.{steps}

-- it stands at a place in column 0, and reading behind it
pub record StartRead (after : Here) (l : Lexeme) : Type 0 where
  pub place : Here
  pub behind : List ℕ
  pub column : place.place.column ≡ 0
  pub text : place.unread.text ≡ 0x2D ∷ 0x2D ∷ 0x2D ∷ behind
  pub parted : is_blank_or_breakz (first behind) ≡ true
  pub kind : l.kind ≡ DocumentStart
  pub untailed : l.tail ≡ None
  pub keyless : l.key ≡ None
  pub shown : l.shown ≡ record { start = mark_of place; end = mark_of (steps 3 place) }
  pub end : l.end ≡ mark_of (steps 3 place)
  pub reaches : after ≡ steps 3 place
