-- What the code's queue says.
use Rattle.std.specs.Prelude.{ℕ, Bool, false, ◌==◌, ◌||◌, List, ◌∷◌, map, Option, Some, None}
use Rattle.granit_items.specs.ItemViews.{item_view}
use Rattle.granit_lexemes.specs.Lexeme.{Item, OfLexeme, OfComment}
use Rattle.granit_machine.specs.Lexing.{FlaggedItem}
use Rattle.granit_queue.specs.declared.queue.Queued.{Queued}

abbrev pub queued_view : Queued → FlaggedItem
queued_view q = record { item = item_view q.item; begins_key = q.begins_key }

abbrev pub queue_view : List Queued → List FlaggedItem
queue_view qs = map queued_view qs

-- the oldest, where it stands by itself, and those behind it
abbrev pub with_oldest : Option Queued → List Queued → List Queued
with_oldest None behind = behind
with_oldest (Some oldest) behind = oldest ∷ behind

-- whether an item is the lexeme of a number
abbrev pub is_numbered : ℕ → Item → Bool
is_numbered number (OfLexeme l) = number == l.number
is_numbered number (OfComment c) = false

-- the lexeme of a number begins a key
abbrev pub flags_of : ℕ → FlaggedItem → FlaggedItem
flags_of number f = record { item = f.item; begins_key = f.begins_key || is_numbered number f.item }
