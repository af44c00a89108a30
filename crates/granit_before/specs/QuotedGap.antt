-- Why the gap behind a quoted scalar is refused, which is read with it, said of the lexemes and the text (YAML 1.2.2,
-- 6.1 and 6.6).
use Rattle.std.specs.Prelude.{◌≡◌, ℕ, ◌==◌, false, List}
use Rattle.granit_base.specs.Place.{Mark}
use Rattle.granit_error.specs.FaultKind.{FaultKind, TabInBlockIndentation}
use Rattle.granit_error.specs.OptionsData.{OptionsData}
use Rattle.granit_language.specs.Allowed.{TabBegins}
use Rattle.granit_language.specs.Stretch.{GapHere}
use Rattle.granit_lexemes.specs.Comment.{Spoils}
use Rattle.granit_lexemes.specs.Here.{Here, next_char, mark_of}
use Rattle.granit_lexemes.specs.Lexeme.{Lexeme}
use Rattle.granit_before.specs.Tabs.{TabIndents}

-- Blanks and breaks behind the scalar, which is the latest of the lexemes, and behind them a comment with a character
-- that isn't printable, or what begins its line behind a tab of the indentation.
pub data QuotedGapWrong (o : OptionsData) (text : List ℕ) (ls : List Lexeme) (end : Here) : FaultKind → Mark →
    Type 0 where
  in_comment :
      {kind : FaultKind} {m : Mark} (at : Here) → GapHere ⊥ end at → Spoils at kind m →
      QuotedGapWrong o text ls end kind m
  behind_tab :
      {tab : Mark} (at : Here) → GapHere ⊥ end at → (next_char at == 0x23) ≡ false → TabBegins at tab →
      TabIndents o text ls tab.place.column → QuotedGapWrong o text ls end TabInBlockIndentation (mark_of at)
