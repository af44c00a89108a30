use Rattle.std.proofs.Common.{◌≡◌, ◌++◌}
use Rattle.granit_base.specs.Written.{string_chars}
use Rattle.granit_cursor.specs.Reading.{Stands, Moves}
use Rattle.granit_lexemes.specs.Basics.{text_up_to}
use Rattle.granit_lexemes.specs.Here.{Here, past}
use Rattle.granit_properties.specs.WordCode.{word_test}
use Rattle.granit_properties.proofs.word.take_word.Given as goal

abbrev pub invariant-word : goal.invariant-word
invariant-word g l = record {
  told : (h : Here) → Stands g.T.Input.unread l.fn.cursor h
      → (now : Here) × Stands g.T.Input.unread l.cursor now × (past (word_test l.word) now ≡ past (word_test l.word) h)
      × (string_chars l.out ++ text_up_to now (past (word_test l.word) now)
      ≡ string_chars l.fn.out ++ text_up_to h (past (word_test l.word) h));
  moves : Moves g.T.Input.unread g.T.Input.left g.T.Input.origin l.fn.cursor l.cursor;
}

abbrev pub decreases-word : goal.decreases-word
decreases-word g l = g.T.Input.left l.cursor.input
