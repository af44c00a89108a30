-- A reading and its answer where the text stands behind another one.
use Rattle.std.specs.Prelude.{◌≡◌, ◌⊎◌, ℕ, zero, suc, ◌+◌, Bool, false, ◌&&◌, if◌then◌else◌, List, map, Option}
use Rattle.std.specs.Prelude.{Some, None, Result, Ok, Err}
use Rattle.std.specs.Option.{option_map}
use Rattle.granit_error.specs.OptionsData.{OptionsData}
use Rattle.granit_base.specs.Place.{Place, Mark}
use Rattle.granit_base.specs.Written.{Written}
use Rattle.granit_base.specs.declared.place.Span.{Span}
use Rattle.granit_base.specs.declared.style.ScalarStyle.{ScalarStyle}
use Rattle.granit_feeding.specs.Offsets.{is_empty_node}
use Rattle.granit_lexemes.specs.Comment.{CommentRead}
use Rattle.granit_lexemes.specs.Here.{Here}
use Rattle.granit_lexemes.specs.Lexeme.{KeyStart, LexemeKind, Lexeme, Item, OfLexeme, OfComment}
use Rattle.granit_lexemes.specs.Lexeme as lexemes
use Rattle.granit_lexemes.specs.Outcome.{Fault}
use Rattle.granit_lexemes.specs.PlainEvent.{EventKind, PlainEvent, PlainTag}
use Rattle.granit_lexemes.specs.PlainEvent as events
use Rattle.granit_lexemes.specs.Source.{Source}
use Rattle.granit_machine.specs.Frames.{NodeProperties, Frame, WithProperties, Waiting, ParserState}
use Rattle.granit_lexemes.specs.declared.layout.OpenBracket.{OpenBracket}
use Rattle.granit_lexemes.specs.declared.layout.PossibleKey.{PossibleKey}
use Rattle.granit_machine.specs.Laid.{Laid}
use Rattle.granit_machine.specs.Lexing.{FlaggedItem}
use Rattle.granit_machine.specs.Reader.{LexState}
use Rattle.granit_machine.specs.ReaderState.{ReaderState}

-- Where a text stands: how many characters, line ends, bytes, lexemes and anchors count before it, whether byte offsets
-- are told and texts lent, and handles that stay from before, where there are any.
pub record Shift : Type 0 where
  pub index : ℕ
  pub line : ℕ
  pub bytes : ℕ
  pub lexemes : ℕ
  pub anchors : ℕ
  pub offsets : Bool
  pub lending : Bool
  pub kept : Option (List (List ℕ × List ℕ))

-- handles of before matter only where handles stay
abbrev pub KeptFits : OptionsData → Shift → Type 0
KeptFits o shift = (shift.kept ≡ None) ⊎ (o.keep_tags ≡ false)

-- ---- places and numbers

abbrev pub moved_line : Shift → ℕ → ℕ
moved_line shift n = shift.line + n

abbrev pub moved_number : Shift → ℕ → ℕ
moved_number shift n = shift.lexemes + n

-- the number of an anchor; 0 means none
abbrev pub moved_id : Shift → ℕ → ℕ
moved_id shift zero = zero
moved_id shift (suc n) = suc (shift.anchors + n)

abbrev pub moved_place : Shift → Place → Place
moved_place shift p = record { index = shift.index + p.index; line = moved_line shift p.line; column = p.column }

abbrev pub moved_offset : Shift → Option ℕ → Option ℕ
moved_offset shift n = if shift.offsets then option_map (λ k. shift.bytes + k) n else None

abbrev pub moved_text : Shift → Written → Written
moved_text shift t = record { characters = t.characters; is_borrowed = t.is_borrowed && shift.lending }

abbrev pub moved_mark : Shift → Mark → Mark
moved_mark shift m = record { place = moved_place shift m.place; byte_offset = moved_offset shift m.byte_offset }

abbrev pub moved_mark_of : Shift → Option Mark → Option Mark
moved_mark_of shift None = None
moved_mark_of shift (Some m) = Some (moved_mark shift m)

abbrev pub moved_source : Shift → Source → Source
moved_source shift s = record { start = moved_mark shift s.start; end = moved_mark shift s.end }

-- where reading begins
abbrev pub moved_here : Shift → Here → Here
moved_here shift h = record {
  unread = record {
    text = h.unread.text;
    offset = moved_offset shift h.unread.offset;
    lends = h.unread.lends
        && shift.lending;
  };
  place = moved_place shift h.place;
  begins_line = h.begins_line;
  tab = moved_mark_of shift h.tab;
}

-- ---- events and faults

abbrev pub moved_span : Shift → Span → Span
moved_span shift s = record {
  start = moved_mark shift s.start;
  end = moved_mark shift s.end;
  indent = s.indent;
  tag_start = moved_mark_of shift s.tag_start;
  tag_length = s.tag_length;
}

-- the text of an empty node is lent from the program, whatever the input lends
abbrev pub moved_scalar : Shift → ScalarStyle → (start end : Mark) → Written → Written
moved_scalar shift style start end text = if is_empty_node style start end then text else moved_text shift text

abbrev pub moved_kind : Shift → (start end : Mark) → EventKind → EventKind
moved_kind shift start end (events.Alias n) = events.Alias (moved_id shift n)
moved_kind shift start end (events.Anchor n name) = events.Anchor (moved_id shift n) (moved_text shift name)
moved_kind shift start end (events.UnresolvedAlias name) = events.UnresolvedAlias (moved_text shift name)
moved_kind shift start end (events.Comment text placement) = events.Comment (moved_text shift text) placement
moved_kind shift start end (events.Scalar text style n tag) =
    events.Scalar (moved_scalar shift style start end text) style (moved_id shift n) tag
moved_kind shift start end (events.SequenceStart style n tag) = events.SequenceStart style (moved_id shift n) tag
moved_kind shift start end (events.MappingStart style n tag) = events.MappingStart style (moved_id shift n) tag
moved_kind shift start end kind = kind

abbrev pub moved_event : Shift → PlainEvent → PlainEvent
moved_event shift e = record { kind = moved_kind shift e.span.start e.span.end e.kind; span = moved_span shift e.span }

abbrev pub moved_events : Shift → List PlainEvent → List PlainEvent
moved_events shift es = map (moved_event shift) es

abbrev pub moved_fault : Shift → Fault → Fault
moved_fault shift f = record { kind = f.kind; mark = moved_mark shift f.mark; sources = f.sources }

abbrev pub moved_answer : Shift → Result (List PlainEvent) Fault → Result (List PlainEvent) Fault
moved_answer shift (Ok es) = Ok (moved_events shift es)
moved_answer shift (Err f) = Err (moved_fault shift f)

-- ---- items

abbrev pub moved_comment : Shift → CommentRead → CommentRead
moved_comment shift c = record {
  text = moved_text shift c.text;
  source = moved_source shift c.source;
  is_right =
      c.is_right;
}

abbrev pub moved_tail : Shift → Option CommentRead → Option CommentRead
moved_tail shift None = None
moved_tail shift (Some c) = Some (moved_comment shift c)

abbrev pub moved_key : Shift → Option KeyStart → Option KeyStart
moved_key shift None = None
moved_key shift (Some k) = Some (record { number = moved_number shift k.number; start = moved_mark shift k.start })

abbrev pub moved_word : Shift → (start end : Mark) → LexemeKind → LexemeKind
moved_word shift start end (lexemes.Alias name) = lexemes.Alias (moved_text shift name)
moved_word shift start end (lexemes.Anchor name) = lexemes.Anchor (moved_text shift name)
moved_word shift start end (lexemes.Scalar style text) = lexemes.Scalar style (moved_scalar shift style start end text)
moved_word shift start end kind = kind

abbrev pub moved_lexeme : Shift → Lexeme → Lexeme
moved_lexeme shift l = record l {
  number = moved_number shift l.number;
  kind = moved_word shift l.shown.start l.shown.end l.kind;
  start = moved_mark shift l.start;
  shown = moved_source shift l.shown;
  end = moved_mark shift l.end;
  key = moved_key shift l.key;
  tail = moved_tail shift l.tail;
}

abbrev pub moved_item : Shift → Item → Item
moved_item shift (OfLexeme l) = OfLexeme (moved_lexeme shift l)
moved_item shift (OfComment c) = OfComment (moved_comment shift c)

abbrev pub moved_flagged : Shift → FlaggedItem → FlaggedItem
moved_flagged shift i = record { item = moved_item shift i.item; begins_key = i.begins_key }

-- ---- the parser's state

abbrev pub moved_anchor : Shift → Option (ℕ × Written × Source) → Option (ℕ × Written × Source)
moved_anchor shift None = None
moved_anchor shift (Some a) = Some (moved_id shift a.0, moved_text shift a.1, moved_source shift a.2)

abbrev pub moved_tag : Shift → Option (PlainTag × Source) → Option (PlainTag × Source)
moved_tag shift None = None
moved_tag shift (Some t) = Some (t.0, moved_source shift t.1)

abbrev pub moved_properties : Shift → NodeProperties → NodeProperties
moved_properties shift q = record {
  anchor = moved_anchor shift q.anchor;
  tag = moved_tag shift q.tag;
  end = moved_mark shift
      q.end;
}

abbrev pub moved_frame : Shift → Frame → Frame
moved_frame shift (WithProperties q) = WithProperties (moved_properties shift q)
moved_frame shift f = f

abbrev pub moved_waiting : Shift → Option Waiting → Option Waiting
moved_waiting shift None = None
moved_waiting shift (Some w) = Some (record {
  at = moved_mark shift w.at;
  room = w.room;
  held = moved_events shift
      w.held;
})

abbrev pub moved_names : Shift → List (List ℕ × ℕ) → List (List ℕ × ℕ)
moved_names shift names = map (λ x. (x.0, moved_id shift x.1)) names

abbrev pub moved_kept : Option (List (List ℕ × List ℕ)) → List (List ℕ × List ℕ) → List (List ℕ × List ℕ)
moved_kept None kept = kept
moved_kept (Some before) kept = before

abbrev pub moved_state : Shift → ParserState → ParserState
moved_state shift p = record p {
  frames = map (moved_frame shift) p.frames;
  last_end = moved_mark shift p.last_end;
  count = shift.anchors + p.count;
  names = moved_names shift p.names;
  kept = moved_kept shift.kept p.kept;
  waiting = moved_waiting shift p.waiting;
  given = moved_events shift p.given;
}

-- the line of a token, where it is known
abbrev pub moved_next : Shift → Option ℕ → Option ℕ
moved_next shift None = None
moved_next shift (Some n) = Some (moved_line shift n)

-- events and a state, or a fault
abbrev pub moved_fed : Shift → Result (List PlainEvent × ParserState) Fault
    → Result (List PlainEvent × ParserState) Fault
moved_fed shift (Ok x) = Ok (moved_events shift x.0, moved_state shift x.1)
moved_fed shift (Err f) = Err (moved_fault shift f)

-- ---- what a reader keeps

abbrev pub moved_possible_key : Shift → PossibleKey → PossibleKey
moved_possible_key shift k = record k { number = moved_number shift k.number; start = moved_mark shift k.start }

abbrev pub moved_possible : Shift → Option PossibleKey → Option PossibleKey
moved_possible shift None = None
moved_possible shift (Some k) = Some (moved_possible_key shift k)

abbrev pub moved_bracket : Shift → OpenBracket → OpenBracket
moved_bracket shift b = record { bracket = b.bracket; mark = moved_mark shift b.mark; key = moved_possible shift b.key }

abbrev pub moved_laid : Shift → Laid → Laid
moved_laid shift l = record l {
  number = moved_number shift l.number;
  key = moved_possible shift l.key;
  brackets = map (moved_bracket shift) l.brackets;
  cut = moved_mark_of shift l.cut;
}

abbrev pub moved_reader : Shift → ReaderState → ReaderState
moved_reader shift s = record { here = moved_here shift s.here; laid = moved_laid shift s.laid }

abbrev pub moved_fault_of : Shift → Option Fault → Option Fault
moved_fault_of shift None = None
moved_fault_of shift (Some f) = Some (moved_fault shift f)

abbrev pub moved_reading : Shift → LexState → LexState
moved_reading shift s =
    record { reader = moved_reader shift s.reader; ended = s.ended; fault = moved_fault_of shift s.fault }

-- no lexeme, no anchor and no handle is before the text
abbrev pub IsFirst : Shift → Type 0
IsFirst shift = (shift.lexemes ≡ 0) × (shift.anchors ≡ 0) × (shift.kept ≡ None)
