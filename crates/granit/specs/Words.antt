-- The words that the arguments of a program are.
use Rattle.std.specs.Prelude.{◌≡◌, ℕ, ◌<◌, if◌then◌else◌, false, List, [], length, take, drop, map, Option, Some, None}
use Rattle.std.specs.Prelude.{Result, Ok, Err}
use Rattle.std.specs.Str.{chars, is_utf8}
use Rattle.std.specs.declared.env.FillError.{FillError}
use Rattle.std.specs.declared.env.FillError.TheVariants as fill
use Rattle.granit_base.specs.Written.{Written}

-- what a call answers that is to copy an argument to the front of a buffer
abbrev pub Fills : Option (List ℕ) → List ℕ → Result ℕ FillError → Type 0
Fills argument buffer (Ok n) = argument ≡ Some (take n buffer)
Fills argument buffer (Err fill.NotPresent) = argument ≡ None
Fills argument buffer (Err fill.TooLong) = (bytes : List ℕ) × (argument ≡ Some bytes) × (length buffer < length bytes)

-- the text of an argument, which is empty where its bytes are not UTF-8
abbrev pub owned_word : List ℕ → Written
owned_word bytes = record { characters = if is_utf8 bytes then chars bytes else []; is_borrowed = false }

-- the texts of all arguments
abbrev pub texts : List (List ℕ) → List Written
texts all = map owned_word all

-- the words: the texts behind the program's name
abbrev pub words_of : List (List ℕ) → List Written
words_of all = drop 1 (texts all)
