-- Which reads take no memory, where comments aren't asked for: those that open no bracket and no column, a bracket that
-- is one too many among them, and read no text that may be one of its own. A name that the input lends is none.
use Rattle.std.specs.Prelude.{◌≡◌, Bool, true, false, ◌&&◌, ◌||◌, not, nat_le, length, Option, Some, None, Result}
use Rattle.std.specs.Prelude.{Ok, Err}
use Rattle.granit_base.specs.Place.{Unread}
use Rattle.granit_cursor.specs.Reading.{Reading, Stands}
use Rattle.granit_error.specs.OptionsData.{OptionsData}
use Rattle.granit_error.specs.Refused.{Refused}
use Rattle.granit_lexemes.specs.Comment.{CommentRead}
use Rattle.granit_lexemes.specs.Here.{Here, mark_of}
use Rattle.granit_lexemes.specs.Outcome.{Fault}
use Rattle.granit_machine.specs.Columns.{closed_at}
use Rattle.granit_machine.specs.Gaps.{gap}
use Rattle.granit_machine.specs.Laid.{Laid, is_adjacent, is_in_flow}
use Rattle.granit_machine.specs.LexemeSort.{PlacedSort, OpenSign, CloseSign, CommaSign, DashSign}
use Rattle.granit_machine.specs.LexemeSort.{QuestionSign, ColonSign, AliasSign, AnchorSign, StrayMark, NoSign}
use Rattle.granit_machine.specs.LexemeSort.{LexemeSort, DirectiveSign, Placed, sort_at}
use Rattle.granit_machine.specs.PossibleKeys.{is_allowed, top_key, without_stale}
use Rattle.granit_machine.specs.Reader.{LexState}
use Rattle.granit_machine.specs.ReaderState.{ReaderState}
use Rattle.granit_content.specs.Reads.{NeverWants}
use Rattle.granit_layout.specs.Opening.{opens_column}
use Rattle.granit_signs.specs.IndicatorReads.{begins_entry, colon_begins_entry, pair_column}

-- ---- a lexeme

-- a `-` or `?`, or a `:`, opens a column, where no entry stands in it yet
abbrev pub entry_opens : OptionsData → Here → Laid → Bool
entry_opens o h l =
    begins_entry (is_allowed h.begins_line h.tab l) l && opens_column o h.place.column l.columns

abbrev pub colon_opens_column : OptionsData → Here → Laid → Bool
colon_opens_column o h l =
    colon_begins_entry (top_key l) (is_allowed h.begins_line h.tab l) l
    && opens_column o (pair_column (top_key l) h.place.column) l.columns

abbrev pub placed_takes_none : OptionsData → PlacedSort → Here → Laid → Bool
placed_takes_none o (OpenSign bracket) h l = nat_le o.flow_nesting_limit (length l.brackets)
placed_takes_none o (CloseSign bracket) h l = true
placed_takes_none o CommaSign h l = true
placed_takes_none o DashSign h l = not (entry_opens o h l)
placed_takes_none o QuestionSign h l = not (entry_opens o h l)
placed_takes_none o ColonSign h l = not (colon_opens_column o h l)
placed_takes_none o AliasSign h l = h.unread.lends
placed_takes_none o AnchorSign h l = h.unread.lends
placed_takes_none o StrayMark h l = true
placed_takes_none o NoSign h l = true
placed_takes_none o other h l = false

-- where columns right of it have ended
abbrev pub sort_takes_none : OptionsData → LexemeSort → Here → Laid → Bool
sort_takes_none o DirectiveSign h l = false
sort_takes_none o (Placed sort) h l = placed_takes_none o sort h (closed_at h.place.column l)
sort_takes_none o other h l = true

abbrev pub lexeme_takes_none : OptionsData → Here → Laid → Bool
lexeme_takes_none o h l = sort_takes_none o (sort_at (is_in_flow l) (is_adjacent l.last) h) h l

-- ---- a read

-- where possible keys that reading has left behind are dropped, or refused
abbrev pub fresh_takes_none : OptionsData → Here → Result Laid Fault → Bool
fresh_takes_none o h (Ok l) = lexeme_takes_none o h l
fresh_takes_none o h (Err f) = true

abbrev pub behind_takes_none : OptionsData → Option CommentRead → ReaderState → Bool
behind_takes_none o (Some c) s = true
behind_takes_none o None s = fresh_takes_none o s.here (without_stale o (mark_of s.here) s.laid)

abbrev pub gap_takes_none : OptionsData → Result (Option CommentRead × ReaderState) Fault → Bool
gap_takes_none o (Ok x) = behind_takes_none o x.0 x.1
gap_takes_none o (Err f) = true

abbrev pub read_takes_none : OptionsData → ReaderState → Bool
read_takes_none o s = gap_takes_none o (gap o s.here s.laid)

-- behind the end of the text nothing is read
abbrev pub turn_takes_none : OptionsData → LexState → Bool
turn_takes_none o s = s.ended || read_takes_none o s.reader

-- ---- of the code

-- no refusal is want of memory wherever a cursor is known to stand at such a place, where comments aren't asked for
abbrev pub NeverWantsAt : {I X : Type 0} → (I → Unread → Type 0) → (asked : Bool) → Reading I → Result X Refused
    → (Here → Bool) → Type 0
NeverWantsAt unread asked at result takes_none =
    asked ≡ false → (h : Here) → Stands unread at h → takes_none h ≡ true → NeverWants result
