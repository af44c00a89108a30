-- How the code reads a word within a limit.
use Rattle.std.specs.Prelude.{◌≡◌, ℕ, Some, Result, Ok, Err}
use Rattle.granit_base.specs.Classes.{is_yaml_non_space}
use Rattle.granit_base.specs.Place.{Mark}
use Rattle.granit_base.specs.Written.{string_chars}
use Rattle.granit_error.specs.Refused.{Refused}
use Rattle.granit_lexemes.specs.Basics.{text_up_to}
use Rattle.granit_lexemes.specs.Directive.{word_up_to}
use Rattle.granit_lexemes.specs.Here.{Here, past}
use Rattle.granit_lexemes.specs.Outcome.{Fails}
use Rattle.granit_properties.specs.UriCode.{budget_of}
use Rattle.granit_directives.specs.declared.words.WordText.{WordText}

abbrev pub past_spelled : Here → Here
past_spelled h = past is_yaml_non_space h

-- a word was read, and so much is left behind it
abbrev pub WordTo : (limit left : ℕ) → Mark → Result WordText Refused → (Here → Type 0) → Here → Type 0
WordTo limit left start (Ok p) Lands h =
    Lands (past_spelled h) × (string_chars p.text ≡ text_up_to h (past_spelled h))
    × (word_up_to (budget_of (Some limit) left) start h (past_spelled h)
    ≡ Ok (budget_of (Some limit) p.left, past_spelled h))
WordTo limit left start (Err e) Lands h = Fails e (word_up_to (budget_of (Some limit) left) start h (past_spelled h))
