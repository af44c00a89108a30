-- The plain machine's reader: what one read gives, and all that can be read.
use Rattle.std.specs.Prelude.{ℕ, suc, Bool, true, false, ◌&&◌, if◌then◌else◌, List, [], ◌∷◌, Option, Some, None, Result}
use Rattle.std.specs.Prelude.{Ok, Err}
use Rattle.granit_error.specs.FaultKind.{InvalidIndentation, BomInsideDocument}
use Rattle.granit_error.specs.OptionsData.{OptionsData}
use Rattle.granit_lexemes.specs.Basics.{fails_at}
use Rattle.granit_lexemes.specs.Comment.{CommentRead}
use Rattle.granit_lexemes.specs.Here.{Here, text_len, mark_of}
use Rattle.granit_lexemes.specs.LayoutData.{is_left}
use Rattle.granit_lexemes.specs.Lexeme.{LexemeKind, StreamEnd, Item, OfLexeme, OfComment}
use Rattle.granit_lexemes.specs.Outcome.{Fault, ◌>>=◌}
use Rattle.granit_machine.specs.Columns.{closed_at, closed_all, ends_at, ends_all}
use Rattle.granit_machine.specs.FlowLexemes.{opener, closer, comma}
use Rattle.granit_machine.specs.Gaps.{gap}
use Rattle.granit_machine.specs.IndicatorLexemes.{dash, question, colon}
use Rattle.granit_machine.specs.Laid.{Laid, is_adjacent, is_in_flow, block_column}
use Rattle.granit_machine.specs.LexemeSort.{PlacedSort, OpenSign, CloseSign, CommaSign, DashSign, QuestionSign}
use Rattle.granit_machine.specs.LexemeSort.{ColonSign, AliasSign, AnchorSign, TagSign, BlockSign, QuoteSign, StrayMark}
use Rattle.granit_machine.specs.LexemeSort.{NoSign, PlainSign, LexemeSort, TextEnd, StartMark, EndMark, Unprintable}
use Rattle.granit_machine.specs.LexemeSort.{DirectiveSign, Placed, sort_at}
use Rattle.granit_machine.specs.NodeLexemes.{alias_lexeme, anchor_lexeme, tag_lexeme, block_lexeme, plain_lexeme}
use Rattle.granit_machine.specs.NodeLexemes.{quoted_and_gap}
use Rattle.granit_machine.specs.PossibleKeys.{is_allowed, without_stale, with_node}
use Rattle.granit_machine.specs.ReaderState.{ReaderState, Read, refuse_open, unexpected}
use Rattle.granit_machine.specs.StreamLexemes.{text_end, start_mark, end_mark, directive_lexeme}

-- a lexeme of a node stands here, a property or not
abbrev pub noded : (property : Bool) → Here → Laid → Laid
noded property h l = with_node property (is_allowed h.begins_line h.tab l) (mark_of h) l

-- where columns right of it have ended
unfoldable pub lexeme_of : OptionsData → PlacedSort → Bool → Here → Laid → Read
lexeme_of o (OpenSign bracket) ends h l = opener o bracket ends h (noded false h l)
lexeme_of o (CloseSign bracket) ends h l = closer bracket ends h l
lexeme_of o CommaSign ends h l = comma ends h l
lexeme_of o DashSign ends h l = dash o ends h l
lexeme_of o QuestionSign ends h l = question o ends h l
lexeme_of o ColonSign ends h l = colon o ends h l
lexeme_of o AliasSign ends h l = alias_lexeme ends h (noded false h l)
lexeme_of o AnchorSign ends h l = anchor_lexeme o ends h (noded true h l)
lexeme_of o TagSign ends h l = tag_lexeme o ends h (noded true h l)
lexeme_of o (BlockSign literal) ends h l = block_lexeme literal ends h (noded false h l)
lexeme_of o (QuoteSign single) ends h l = quoted_and_gap o single ends h (noded false h l)
lexeme_of o StrayMark ends h l = fails_at BomInsideDocument (mark_of h)
lexeme_of o NoSign ends h l = unexpected h
lexeme_of o PlainSign ends h l = plain_lexeme o ends h (noded false h l)

-- whether a line that begins here is left of its block, where lines in flow are indented too
unfoldable pub is_strict_outside : OptionsData → ℕ → Laid → Bool
is_strict_outside o column l = (o.strict_indentation && is_in_flow l) && is_left (block_column l) column

unfoldable pub lexeme_in_column : OptionsData → PlacedSort → Bool → Here → Laid → Read
lexeme_in_column o sort ends h l =
    if is_strict_outside o h.place.column l then fails_at InvalidIndentation (mark_of h)
    else lexeme_of o sort ends h l

unfoldable pub lexeme_by : OptionsData → LexemeSort → Here → Laid → Read
lexeme_by o TextEnd h l = text_end h l
lexeme_by o StartMark h l = refuse_open l.brackets >>= λ u. start_mark (ends_all l) h (closed_all l)
lexeme_by o EndMark h l = refuse_open l.brackets >>= λ u. end_mark (ends_all l) h (closed_all l)
lexeme_by o DirectiveSign h l = directive_lexeme o (ends_all l) h (closed_all l)
lexeme_by o Unprintable h l = unexpected h
lexeme_by o (Placed sort) h l = lexeme_in_column o sort (ends_at h.place.column l) h (closed_at h.place.column l)

abbrev pub lexeme : OptionsData → Here → Laid → Read
lexeme o h l = lexeme_by o (sort_at (is_in_flow l) (is_adjacent l.last) h) h l

-- ---- one read

abbrev pub read_behind : OptionsData → Option CommentRead → ReaderState → Read
read_behind o (Some c) s = Ok (OfComment c ∷ [], s)
read_behind o None s = without_stale o (mark_of s.here) s.laid >>= λ l. lexeme o s.here l

-- the items of a read, without the keys that it leaves behind
abbrev pub read_whole : OptionsData → List Item → ReaderState → Read
read_whole o items s = without_stale o (mark_of s.here) s.laid >>= λ l. Ok (items, record { here = s.here; laid = l })

-- a comment, or a lexeme with its tail
unfoldable pub read : OptionsData → ReaderState → Read
read o s = gap o s.here s.laid >>= λ x. read_behind o x.0 x.1 >>= λ y. read_whole o y.0 y.1

-- ---- all reads

-- where reading stands, whether the end was read, and the fault of the read that failed from there
pub record LexState : Type 0 where
  pub reader : ReaderState
  pub ended : Bool
  pub fault : Option Fault

abbrev pub is_end_kind : LexemeKind → Bool
is_end_kind StreamEnd = true
is_end_kind _ = false

abbrev pub is_end : List Item → Bool
is_end [] = false
is_end (OfLexeme x ∷ items) = is_end_kind x.kind
is_end (OfComment c ∷ items) = false

abbrev pub LexTurn : Type 0
LexTurn = Result (Option (List Item) × LexState) Fault

abbrev pub behind_read : Read → ReaderState → LexTurn
behind_read (Ok (items, after)) s = Ok (Some items, record { reader = after; ended = is_end items; fault = None })
behind_read (Err f) s = Ok (None, record { reader = s; ended = false; fault = Some f })

unfoldable pub lex_turn : OptionsData → LexState → LexTurn
lex_turn o s = if s.ended then Ok (None, s) else behind_read (read o s.reader) s.reader

-- each read takes a character, or is the last one
abbrev pub lex_len : LexState → ℕ
lex_len s = if s.ended then 0 else suc (text_len s.reader.here)
