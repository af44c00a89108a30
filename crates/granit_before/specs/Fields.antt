-- What a lexeme bears of what stands before it, said of the lexemes.
use Rattle.std.specs.Prelude.{◌≡◌, ℕ, false, ◌||◌, List, [], ◌∷◌, length}
use Rattle.std.specs.Bool.{Decides}
use Rattle.granit_language.specs.KeyRuns.{follows_dash, follows_sign}
use Rattle.granit_language.specs.OpenColumns.{IsOpenColumn, LeavesOpen}
use Rattle.granit_lexemes.specs.Lexeme.{Lexeme, Item, OfLexeme, OfComment}
use Rattle.granit_before.specs.Openers.{IsInside}

-- it ends an open column: it ends the document, or stands left of the column, outside flow
pub record EndsColumn (before : List Lexeme) (x : Lexeme) : Type 0 where
  pub outside : x.in_flow ≡ false
  pub column : ℕ
  pub open_there : IsOpenColumn before column
  pub ends : LeavesOpen x column → ⊥

pub record FieldsSay (before : List Lexeme) (x : Lexeme) : Type 0 where
  pub number : x.number ≡ length before
  pub flow : Decides x.in_flow (IsInside before)
  -- directly behind a `-`, a `?` or a `:` without key, outside flow
  pub follows : x.follows_indicator ≡ (follows_dash before || follows_sign before)
  pub ends : Decides x.ends_column (EndsColumn before x)

-- each lexeme of some items, behind these
abbrev pub AllFieldsSay : List Lexeme → List Item → Type 0
AllFieldsSay before [] = Unit {0}
AllFieldsSay before (OfLexeme x ∷ is) = FieldsSay before x × AllFieldsSay (x ∷ before) is
AllFieldsSay before (OfComment c ∷ is) = AllFieldsSay before is
