-- What stands behind some lexemes of a text, for the worked examples.
use Rattle.std.specs.Prelude.{ℕ, zero, suc, Bool, true, false, List, [], ◌∷◌, ◌++◌, Result, Ok, Err}
use Rattle.granit_error.specs.OptionsData.{default_options}
use Rattle.granit_language.specs.OpenColumns.{latest}
use Rattle.granit_lexemes.specs.Here.{mark_of, start_of}
use Rattle.granit_lexemes.specs.Lexeme.{Lexeme, Item, OfLexeme, OfComment}
use Rattle.granit_lexemes.specs.Outcome.{Fault}
use Rattle.granit_machine.specs.Lexing.{FlaggedItem, flagged, lex}
use Rattle.granit_machine.specs.Reader.{LexState, read, is_end}
use Rattle.granit_machine.specs.ReaderState.{ReaderState, Read, reader_start}
use Rattle.granit_before.specs.CutText.{LastCutsShort}
use Rattle.granit_before.specs.KeyBegins.{BeginsKey, items_of}
use Rattle.granit_before.specs.StillBegins.{StillBegins}
use Rattle.granit_before.specs.Tabs.{TabIndents, TabBeforeKey}

-- ---- behind at most so many reads

abbrev pub BehindRead : Type 0
BehindRead = List Item × ReaderState

abbrev pub joined_to : List Item → BehindRead → BehindRead
joined_to items b = (items ++ b.0, b.1)

abbrev pub further : Bool → List Item → ReaderState → BehindRead → BehindRead
further true items after on = (items, after)
further false items after on = joined_to items on

abbrev pub worked_behind : ReaderState → Read → (ReaderState → BehindRead) → BehindRead
worked_behind s (Ok (items, after)) on = further (is_end items) items after (on after)
worked_behind s (Err f) on = ([], s)

abbrev pub reads_from : ℕ → ReaderState → BehindRead
reads_from zero s = ([], s)
reads_from (suc n) s = worked_behind s (read default_options s) (reads_from n)

abbrev pub first_reads : ℕ → List ℕ → BehindRead
first_reads n text = reads_from n (reader_start (start_of text))

abbrev pub first_lexemes : ℕ → List ℕ → List Lexeme
first_lexemes n text = latest (first_reads n text).0 []

-- ---- tabs

-- behind so many reads of a text a tab in a column is one of the indentation
abbrev pub Indents : List ℕ → (reads column : ℕ) → Type 0
Indents text n column = TabIndents default_options text (first_lexemes n text) column

-- behind `?` no key may stand there
abbrev pub BeforeKey : List ℕ → (reads column : ℕ) → Type 0
BeforeKey text n column = TabBeforeKey default_options (first_lexemes n text) column

-- ---- keys

abbrev pub item_begins : List ℕ → List Lexeme → Item → List Item → Type 0
item_begins text before (OfLexeme x) more = BeginsKey default_options text before x more
item_begins text before (OfComment c) more = ⊥

abbrev pub BeginsIn : List ℕ → ℕ → List Lexeme → List FlaggedItem → Type 0
BeginsIn text n before [] = ⊥
BeginsIn text zero before (i ∷ is) = item_begins text before i.item (items_of is)
BeginsIn text (suc n) before (i ∷ is) = BeginsIn text n (latest (i.item ∷ []) before) is

abbrev pub items_in : Result (List Item × LexState) Fault → List Item
items_in (Ok x) = x.0
items_in (Err f) = []

abbrev pub flagged_of : List ℕ → List FlaggedItem
flagged_of text = flagged (items_in (lex default_options (start_of text)))

-- a simple key begins with the lexeme of a text that so many items stand before
abbrev pub KeyAt : List ℕ → ℕ → Type 0
KeyAt text n = BeginsIn text n [] (flagged_of text)

-- behind so many reads of a text a simple key may still begin with the lexeme of a number
abbrev pub StillKey : List ℕ → (reads number : ℕ) → Type 0
StillKey text n number =
    StillBegins default_options text (mark_of (first_reads n text).1.here) (first_lexemes n text) number

-- ---- comments

-- behind so many reads of a text a comment at an index cuts the last scalar short
abbrev pub CutAt : List ℕ → (reads index : ℕ) → Type 0
CutAt text n index = LastCutsShort default_options text (first_lexemes n text) index
