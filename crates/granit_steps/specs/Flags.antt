-- Which lexemes begin simple keys: those whose number a later `:` names.
use Rattle.std.specs.Prelude.{ℕ, Bool, false, ◌==◌, ◌||◌, List, [], ◌∷◌, Option, Some, None}
use Rattle.granit_lexemes.specs.Lexeme.{KeyStart, Item, OfLexeme, OfComment}
use Rattle.granit_machine.specs.Lexing.{FlaggedItem}
use Rattle.granit_steps.specs.Steps.{key_of_item}

abbrev pub is_wanted : ℕ → Option KeyStart → Bool
is_wanted n None = false
is_wanted n (Some k) = k.number == n

-- whether a `:` among items finds the key that begins with the lexeme of a number
abbrev pub is_keyed : ℕ → List Item → Bool
is_keyed n [] = false
is_keyed n (i ∷ is) = is_wanted n (key_of_item i) || is_keyed n is

abbrev pub is_begun : Item → List Item → Bool
is_begun (OfLexeme l) is = is_keyed l.number is
is_begun (OfComment c) is = false

abbrev pub with_flag : Bool → Item → FlaggedItem
with_flag b i = record { item = i; begins_key = b }

-- items with their flags, by number
abbrev pub flags : List Item → List FlaggedItem
flags [] = []
flags (i ∷ is) = with_flag (is_begun i is) i ∷ flags is
