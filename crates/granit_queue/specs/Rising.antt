-- Numbers of the lexemes that wait, from the oldest on.
use Rattle.std.specs.Prelude.{ℕ, ◌≡◌, ◌≤◌, Bool, true, false, nat_le, nat_lt, ◌&&◌, List, max, Option, Some, None}
use Rattle.std.specs.List.{All, AllPairs}
use Rattle.granit_lexemes.specs.Lexeme.{Item, OfLexeme, OfComment}
use Rattle.granit_machine.specs.Lexing.{FlaggedItem}
use Rattle.granit_queue.specs.declared.rising.Numbers.{Numbers}

-- the number of a lexeme
abbrev pub lexeme_number : Item → Option ℕ
lexeme_number (OfLexeme l) = Some l.number
lexeme_number (OfComment c) = None

-- one number isn't above another
abbrev pub NumberUpTo : Option ℕ → Option ℕ → Type 0
NumberUpTo None n = Unit {0}
NumberUpTo (Some m) None = Unit {0}
NumberUpTo (Some m) (Some n) = m ≤ n

-- no lexeme is behind one of a higher number
abbrev pub Rises : List FlaggedItem → Type 0
Rises fs = AllPairs (λ f g. NumberUpTo (lexeme_number f.item) (lexeme_number g.item)) fs

-- numbers rise, where that is told, and none is above the last one
pub record NumbersRise (o : Numbers) (fs : List FlaggedItem) : Type 0 where
  pub order : o.rises ≡ true → Rises fs
  pub last : All (λ f. NumberUpTo (lexeme_number f.item) (Some o.last)) fs

-- one more waits
abbrev pub with_one_waiting : Option ℕ → Numbers → Numbers
with_one_waiting None o = o
with_one_waiting (Some n) o = record { rises = o.rises && nat_le o.last n; last = max o.last n }

-- a lexeme of a number below another one
abbrev pub is_before : ℕ → Option ℕ → Bool
is_before number None = false
is_before number (Some n) = nat_lt n number
