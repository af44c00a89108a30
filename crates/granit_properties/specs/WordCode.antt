-- How the code reads words: characters of a class, one by one.
use Rattle.std.specs.Prelude.{◌≡◌, ℕ, Bool, Result, Ok, Err}
use Rattle.granit_base.specs.Classes.{is_anchor_char}
use Rattle.granit_base.specs.Written.{Written}
use Rattle.granit_error.specs.FaultKind.{NoMemory}
use Rattle.granit_error.specs.Refused.{Refused}
use Rattle.granit_lexemes.specs.Basics.{as_spelled, text_up_to}
use Rattle.granit_lexemes.specs.Here.{Here, past}
use Rattle.granit_runs.specs.Runs.{class_test}
use Rattle.granit_properties.specs.declared.word.Word.{Word}
use Rattle.granit_properties.specs.declared.word.Word.TheVariants.{Name, Of}

-- the characters that a word is of
abbrev pub word_test : Word → ℕ → Bool
word_test Name c = is_anchor_char c
word_test (Of class) c = class_test class c

-- The characters of a word were taken, and lent where the input lends. A refusal is for want of memory.
abbrev pub TakesWord : (ℕ → Bool) → Here → Result Written Refused → (Here → Type 0) → Type 0
TakesWord test h (Ok text) Lands = Lands (past test h) × (text ≡ as_spelled h (text_up_to h (past test h)))
TakesWord test h (Err e) Lands = e.kind ≡ NoMemory
