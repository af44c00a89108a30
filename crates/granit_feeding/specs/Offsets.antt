-- What is left of a reading and its answer where byte offsets are forgotten, or whether texts are lent.
use Rattle.std.specs.Prelude.{ℕ, ◌==◌, Bool, false, ◌&&◌, if◌then◌else◌, List, map, Option, Some, None, Result, Ok, Err}
use Rattle.granit_base.specs.Place.{Mark}
use Rattle.granit_base.specs.Written.{Written}
use Rattle.granit_base.specs.declared.place.Span.{Span}
use Rattle.granit_base.specs.declared.style.ScalarStyle.{ScalarStyle}
use Rattle.granit_base.specs.declared.style.ScalarStyle.TheVariants.{Plain}
use Rattle.granit_lexemes.specs.Comment.{CommentRead}
use Rattle.granit_lexemes.specs.Here.{Here}
use Rattle.granit_lexemes.specs.Lexeme.{KeyStart, LexemeKind, Lexeme, Item, OfLexeme, OfComment}
use Rattle.granit_lexemes.specs.Lexeme as lexemes
use Rattle.granit_lexemes.specs.Outcome.{Fault}
use Rattle.granit_lexemes.specs.PlainEvent.{EventKind, PlainEvent, PlainTag}
use Rattle.granit_lexemes.specs.PlainEvent as events
use Rattle.granit_lexemes.specs.Source.{Source}
use Rattle.granit_machine.specs.Frames.{NodeProperties, Frame, WithProperties, Waiting, ParserState}
use Rattle.granit_lexemes.specs.declared.layout.OpenBracket.{OpenBracket}
use Rattle.granit_lexemes.specs.declared.layout.PossibleKey.{PossibleKey}
use Rattle.granit_machine.specs.Laid.{Laid}
use Rattle.granit_machine.specs.Lexing.{FlaggedItem}
use Rattle.granit_machine.specs.ReaderState.{ReaderState}

-- what is kept besides places and characters: byte offsets, and whether texts are lent
pub record Kept : Type 0 where
  pub offsets : Bool
  pub lending : Bool

abbrev pub bare_offset : Kept → Option ℕ → Option ℕ
bare_offset keep n = if keep.offsets then n else None

abbrev pub bare_text : Kept → Written → Written
bare_text keep t = record { characters = t.characters; is_borrowed = t.is_borrowed && keep.lending }

abbrev pub bare_mark : Kept → Mark → Mark
bare_mark keep m = record { place = m.place; byte_offset = bare_offset keep m.byte_offset }

abbrev pub bare_mark_of : Kept → Option Mark → Option Mark
bare_mark_of keep None = None
bare_mark_of keep (Some m) = Some (bare_mark keep m)

abbrev pub bare_source : Kept → Source → Source
bare_source keep s = record { start = bare_mark keep s.start; end = bare_mark keep s.end }

-- where reading begins
abbrev pub bare_here : Kept → Here → Here
bare_here keep h = record {
  unread = record {
    text = h.unread.text;
    offset = bare_offset keep h.unread.offset;
    lends = h.unread.lends
        && keep.lending;
  };
  place = h.place;
  begins_line = h.begins_line;
  tab = bare_mark_of keep h.tab;
}

-- ---- events and faults

abbrev pub bare_span : Kept → Span → Span
bare_span keep s = record {
  start = bare_mark keep s.start;
  end = bare_mark keep s.end;
  indent = s.indent;
  tag_start = bare_mark_of keep s.tag_start;
  tag_length = s.tag_length;
}

-- whether a scalar is an empty node: plain, and without extent
abbrev pub is_empty_node : ScalarStyle → (start end : Mark) → Bool
is_empty_node Plain start end = start.place.index == end.place.index
is_empty_node style start end = false

-- the text of an empty node is lent from the program, whatever the input lends
abbrev pub bare_scalar : Kept → ScalarStyle → (start end : Mark) → Written → Written
bare_scalar keep style start end text = if is_empty_node style start end then text else bare_text keep text

abbrev pub bare_kind : Kept → (start end : Mark) → EventKind → EventKind
bare_kind keep start end (events.Anchor n name) = events.Anchor n (bare_text keep name)
bare_kind keep start end (events.UnresolvedAlias name) = events.UnresolvedAlias (bare_text keep name)
bare_kind keep start end (events.Comment text placement) = events.Comment (bare_text keep text) placement
bare_kind keep start end (events.Scalar text style n tag) =
    events.Scalar (bare_scalar keep style start end text) style n tag
bare_kind keep start end kind = kind

abbrev pub bare_event : Kept → PlainEvent → PlainEvent
bare_event keep e = record { kind = bare_kind keep e.span.start e.span.end e.kind; span = bare_span keep e.span }

abbrev pub bare_events : Kept → List PlainEvent → List PlainEvent
bare_events keep es = map (bare_event keep) es

abbrev pub bare_fault : Kept → Fault → Fault
bare_fault keep f = record { kind = f.kind; mark = bare_mark keep f.mark; sources = f.sources }

abbrev pub bare_answer : Kept → Result (List PlainEvent) Fault → Result (List PlainEvent) Fault
bare_answer keep (Ok es) = Ok (bare_events keep es)
bare_answer keep (Err f) = Err (bare_fault keep f)

-- ---- items

abbrev pub bare_comment : Kept → CommentRead → CommentRead
bare_comment keep c = record { text = bare_text keep c.text; source = bare_source keep c.source; is_right = c.is_right }

abbrev pub bare_tail : Kept → Option CommentRead → Option CommentRead
bare_tail keep None = None
bare_tail keep (Some c) = Some (bare_comment keep c)

abbrev pub bare_key : Kept → Option KeyStart → Option KeyStart
bare_key keep None = None
bare_key keep (Some k) = Some (record { number = k.number; start = bare_mark keep k.start })

abbrev pub bare_word : Kept → (start end : Mark) → LexemeKind → LexemeKind
bare_word keep start end (lexemes.Alias name) = lexemes.Alias (bare_text keep name)
bare_word keep start end (lexemes.Anchor name) = lexemes.Anchor (bare_text keep name)
bare_word keep start end (lexemes.Scalar style text) = lexemes.Scalar style (bare_scalar keep style start end text)
bare_word keep start end kind = kind

abbrev pub bare_lexeme : Kept → Lexeme → Lexeme
bare_lexeme keep l = record l {
  kind = bare_word keep l.shown.start l.shown.end l.kind;
  start = bare_mark keep l.start;
  shown = bare_source keep l.shown;
  end = bare_mark keep l.end;
  key = bare_key keep l.key;
  tail = bare_tail keep l.tail;
}

abbrev pub bare_item : Kept → Item → Item
bare_item keep (OfLexeme l) = OfLexeme (bare_lexeme keep l)
bare_item keep (OfComment c) = OfComment (bare_comment keep c)

abbrev pub bare_flagged : Kept → FlaggedItem → FlaggedItem
bare_flagged keep i = record { item = bare_item keep i.item; begins_key = i.begins_key }

-- ---- the parser's state

abbrev pub bare_anchor : Kept → Option (ℕ × Written × Source) → Option (ℕ × Written × Source)
bare_anchor keep None = None
bare_anchor keep (Some a) = Some (a.0, bare_text keep a.1, bare_source keep a.2)

abbrev pub bare_tag : Kept → Option (PlainTag × Source) → Option (PlainTag × Source)
bare_tag keep None = None
bare_tag keep (Some t) = Some (t.0, bare_source keep t.1)

abbrev pub bare_properties : Kept → NodeProperties → NodeProperties
bare_properties keep q = record {
  anchor = bare_anchor keep q.anchor;
  tag = bare_tag keep q.tag;
  end = bare_mark keep
      q.end;
}

abbrev pub bare_frame : Kept → Frame → Frame
bare_frame keep (WithProperties q) = WithProperties (bare_properties keep q)
bare_frame keep f = f

abbrev pub bare_waiting : Kept → Option Waiting → Option Waiting
bare_waiting keep None = None
bare_waiting keep (Some w) = Some (record { at = bare_mark keep w.at; room = w.room; held = bare_events keep w.held })

abbrev pub bare_state : Kept → ParserState → ParserState
bare_state keep p = record p {
  frames = map (bare_frame keep) p.frames;
  last_end = bare_mark keep p.last_end;
  waiting = bare_waiting keep p.waiting;
  given = bare_events keep p.given;
}

-- events and a state, or a fault
abbrev pub bare_fed : Kept → Result (List PlainEvent × ParserState) Fault → Result (List PlainEvent × ParserState) Fault
bare_fed keep (Ok x) = Ok (bare_events keep x.0, bare_state keep x.1)
bare_fed keep (Err f) = Err (bare_fault keep f)

-- ---- what a reader keeps

abbrev pub bare_possible : Kept → Option PossibleKey → Option PossibleKey
bare_possible keep None = None
bare_possible keep (Some k) = Some (record k { start = bare_mark keep k.start })

abbrev pub bare_bracket : Kept → OpenBracket → OpenBracket
bare_bracket keep b = record { bracket = b.bracket; mark = bare_mark keep b.mark; key = bare_possible keep b.key }

abbrev pub bare_laid : Kept → Laid → Laid
bare_laid keep l = record l {
  key = bare_possible keep l.key;
  brackets = map (bare_bracket keep) l.brackets;
  cut = bare_mark_of keep l.cut;
}

abbrev pub bare_reader : Kept → ReaderState → ReaderState
bare_reader keep s = record { here = bare_here keep s.here; laid = bare_laid keep s.laid }
