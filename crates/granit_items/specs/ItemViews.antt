-- What the code's items say.
use Rattle.std.specs.Prelude.{Bool, true, false, ℕ, List, [], ◌∷◌, ◌++◌, map, Option, Some, None}
use Rattle.std.specs.Global.{Box}
use Rattle.std.specs.Option.{option_map}
use Rattle.granit_base.specs.Written.{Written}
use Rattle.granit_lexemes.specs.Comment.{CommentRead}
use Rattle.granit_lexemes.specs.Lexeme as spec
use Rattle.granit_items.specs.declared.item.Found.{Found}
use Rattle.granit_items.specs.declared.item.Item.{Item}
use Rattle.granit_items.specs.declared.item.Item.TheVariants as items
use Rattle.granit_items.specs.declared.item.KeyStart.{KeyStart}
use Rattle.granit_items.specs.declared.item.Lexeme.{Lexeme}
use Rattle.granit_items.specs.declared.item.LexemeKind.{LexemeKind}
use Rattle.granit_items.specs.declared.item.LexemeKind.TheVariants as kinds
use Rattle.granit_items.specs.declared.item.Note.{Note}

abbrev pub written_characters : Written → List ℕ
written_characters t = t.characters

abbrev pub kind_view : LexemeKind → spec.LexemeKind
kind_view (kinds.Version major minor) = spec.Directive (spec.Version major minor)
kind_view (kinds.TagPrefix handle prefix) = spec.Directive (spec.TagPrefix handle.characters prefix.characters)
kind_view (kinds.Reserved name parameters) = spec.Directive
    (spec.Reserved name.characters (map written_characters parameters))
kind_view kinds.DocumentStart = spec.DocumentStart
kind_view kinds.DocumentEnd = spec.DocumentEnd
kind_view kinds.StreamEnd = spec.StreamEnd
kind_view (kinds.Open bracket) = spec.Open bracket
kind_view (kinds.Close bracket) = spec.Close bracket
kind_view kinds.Comma = spec.Comma
kind_view kinds.Dash = spec.Dash
kind_view kinds.Question = spec.Question
kind_view kinds.Colon = spec.Colon
kind_view (kinds.Alias name) = spec.Alias name
kind_view (kinds.Anchor name) = spec.Anchor name
kind_view (kinds.Tag handle suffix) = spec.Tag handle.characters suffix.characters
kind_view (kinds.Scalar style text) = spec.Scalar style text

abbrev pub note_view : Note → CommentRead
note_view n = record { text = n.text; source = record { start = n.start; end = n.end }; is_right = n.is_right }

abbrev pub boxed_view : Box Note → CommentRead
boxed_view b = note_view b.value

abbrev pub key_view : KeyStart → spec.KeyStart
key_view k = record { number = k.number; start = k.start }

abbrev pub lexeme_view : Lexeme → spec.Lexeme
lexeme_view l = record {
  number = l.number;
  kind = kind_view l.kind;
  start = l.start;
  shown = record { start = l.shown_start; end = l.shown_end };
  end = l.end;
  indent = l.indent;
  in_flow = l.in_flow;
  begins_line = l.begins_line;
  follows_indicator = l.follows_indicator;
  ends_column = l.ends_column;
  key = option_map key_view l.key;
  tail = option_map boxed_view l.tail;
}

abbrev pub boxed_lexeme : Box Lexeme → spec.Lexeme
boxed_lexeme b = lexeme_view b.value

-- a lexeme as the items of a read
abbrev pub alone : Lexeme → List spec.Item
alone l = spec.OfLexeme (lexeme_view l) ∷ []

abbrev pub boxed_note_items : Option (Box Note) → List spec.Item
boxed_note_items None = []
boxed_note_items (Some n) = spec.OfComment (boxed_view n) ∷ []

-- the lexeme that was read, where one was
abbrev pub filled_items : (filled : Bool) → Lexeme → List spec.Item
filled_items true l = alone l
filled_items false l = []

-- what a read gives, as items
abbrev pub found_items : Found → List spec.Item
found_items f = filled_items f.filled f.lexeme.value ++ boxed_note_items f.note

abbrev pub item_view : Item → spec.Item
item_view (items.Lexeme l) = spec.OfLexeme (boxed_lexeme l)
item_view (items.Note n) = spec.OfComment (boxed_view n)
