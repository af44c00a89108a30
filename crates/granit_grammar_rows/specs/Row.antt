-- Rows: a list of lexemes, and the events that it is read as, or the kind and the lexeme at which it is refused.
use Rattle.std.specs.Prelude.{ℕ, suc, ◌+◌, ◌==◌, Bool, true, false, List, [], ◌∷◌, Option, Some, None}
use Rattle.granit_base.specs.Place.{Mark}
use Rattle.granit_base.specs.declared.style.ScalarStyle.TheVariants.{Plain}
use Rattle.granit_lexemes.specs.Basics.{owned}
use Rattle.granit_lexemes.specs.Lexeme.{Reserved}
use Rattle.granit_lexemes.specs.declared.layout.Bracket.{Bracket}
use Rattle.granit_language.specs.Choice.{choose}
use Rattle.granit_language.specs.GrammarFault.{GrammarFault}
use Rattle.granit_language.specs.Node.{TreeProperties, NoProperties, One, Two}
use Rattle.granit_language.specs.Scope.{no_scope}
use Rattle.granit_language.specs.Terminal as grammar
use Rattle.granit_language.specs.Terminal.{PropertyKind, TerminalKind, Terminal, terminal}
use Rattle.granit_language.specs.TreeEvents.{TreeEventKind, StreamStarts, StreamEnds, DocumentEnds, SequenceEnds}
use Rattle.granit_language.specs.TreeEvents.{MappingEnds, DocumentStarts, AliasIs, ScalarIs, SequenceStarts}
use Rattle.granit_language.specs.TreeEvents.{MappingStarts, TreeEvent}
use Rattle.granit_event_machine.specs.EventMachine.{EventAnswer, Events, Faulty, Unfinished, run_events}

-- ---- lexemes

-- a lexeme without its number: where it starts, where what is shown of it ends, the end of its tail, its column, and
-- whether a simple key begins with it
pub record Sketch : Type 0 where
  pub kind : TerminalKind
  pub start : ℕ
  pub shown_end : ℕ
  pub end : ℕ
  pub column : ℕ
  pub begins_key : Bool

abbrev pub sketched : TerminalKind → ℕ → ℕ → ℕ → Sketch
sketched kind start end column = record {
  kind = kind;
  start = start;
  shown_end = end;
  end = end;
  column = column;
  begins_key = false;
}

abbrev pub begins : Sketch → Sketch
begins s = record s { begins_key = true }

abbrev pub anchor_at : ℕ → ℕ → Sketch
anchor_at start column = sketched (grammar.Part (grammar.Property (grammar.Anchor (owned [])))) start (start + 2) column

abbrev pub alias_at : ℕ → ℕ → Sketch
alias_at start column = sketched (grammar.Part (grammar.Alias (owned []))) start (start + 2) column

abbrev pub tag_from : ℕ → ℕ → Sketch
tag_from start column = sketched (grammar.Part (grammar.Property (grammar.Tag [] []))) start (start + 2) column

abbrev pub text_at : ℕ → ℕ → ℕ → Sketch
text_at start end column = sketched (grammar.Part (grammar.Scalar Plain (owned (1 ∷ [])))) start end column

-- with the end of its tail
abbrev pub dash_at : ℕ → ℕ → ℕ → Sketch
dash_at start end column = record (sketched grammar.Dash start end column) { shown_end = start + 1 }

abbrev pub question_at : ℕ → ℕ → Sketch
question_at start column = sketched grammar.Question start (start + 1) column

abbrev pub colon_at : ℕ → ℕ → Sketch
colon_at start column = sketched (grammar.Colon None) start (start + 1) column

-- a `:` behind the simple key that begins with a lexeme of that number
abbrev pub colon_of : ℕ → ℕ → ℕ → Sketch
colon_of number start column = sketched (grammar.Colon (Some number)) start (start + 1) column

abbrev pub comma_at : ℕ → ℕ → Sketch
comma_at start column = sketched grammar.Comma start (start + 1) column

abbrev pub opener_at : Bracket → ℕ → ℕ → Sketch
opener_at bracket start column = sketched (grammar.Part (grammar.Open bracket)) start (start + 1) column

abbrev pub closer_at : Bracket → ℕ → ℕ → Sketch
closer_at bracket start column = sketched (grammar.Close bracket) start (start + 1) column

abbrev pub start_mark_at : ℕ → Sketch
start_mark_at start = sketched grammar.DocumentStart start (start + 3) 0

abbrev pub end_mark_at : ℕ → Sketch
end_mark_at start = sketched grammar.DocumentEnd start (start + 3) 0

abbrev pub directive_from : ℕ → Sketch
directive_from start = sketched (grammar.Directive (Reserved [] [])) start (start + 2) 0

abbrev pub end_at : ℕ → ℕ → Sketch
end_at start column = sketched grammar.TheEnd start start column

abbrev pub mark_on : ℕ → Mark
mark_on index = record { place = record { index = index; line = 1; column = 0 }; byte_offset = Some 0 }

abbrev pub drawn : ℕ → Sketch → Terminal
drawn number s = terminal s.kind (record {
  start = mark_on s.start;
  shown = record { start = mark_on s.start; end = mark_on s.shown_end };
  end = mark_on s.end;
  column = s.column;
  in_flow = false;
  begins_line = false;
  follows_indicator = false;
  number = number;
  own_indent = None;
  begins_key = s.begins_key;
  scope = no_scope;
})

-- numbered from the first one's number on
abbrev pub all_drawn : ℕ → List Sketch → List Terminal
all_drawn number [] = []
all_drawn number (s ∷ ss) = drawn number s ∷ all_drawn (suc number) ss

-- ---- events

pub data NodeWord : Type 0 where
  -- `Empty` is the empty text of a lone tag
  Text Null Empty BlockSequence FlowSequence BlockMapping FlowMapping : NodeWord

pub data EventWord : Type 0 where
  StreamStart StreamEnd BareDocument MarkedDocument DocumentEnd AliasWord SequenceEnd MappingEnd : EventWord
  -- with how many anchors and tags
  NodeOf : (anchors tags : ℕ) → NodeWord → EventWord

abbrev pub only : NodeWord → EventWord
only word = NodeOf 0 0 word

abbrev pub and_anchor : NodeWord → EventWord
and_anchor word = NodeOf 1 0 word

abbrev pub and_tag : NodeWord → EventWord
and_tag word = NodeOf 0 1 word

abbrev pub and_both : NodeWord → EventWord
and_both word = NodeOf 1 1 word

-- its span, and the indent that it imposes, counted from 1
pub record EventBrief : Type 0 where
  pub word : EventWord
  pub start : ℕ
  pub end : ℕ
  pub indent : Option ℕ

abbrev pub on : EventWord → ℕ → ℕ → EventBrief
on word start end = record { word = word; start = start; end = end; indent = None }

abbrev pub inner : ℕ → EventWord → ℕ → ℕ → EventBrief
inner indent word start end = record { word = word; start = start; end = end; indent = Some indent }

abbrev pub anchor_count : PropertyKind → ℕ
anchor_count (grammar.Anchor name) = 1
anchor_count (grammar.Tag handle suffix) = 0

abbrev pub tag_count : PropertyKind → ℕ
tag_count (grammar.Anchor name) = 0
tag_count (grammar.Tag handle suffix) = 1

abbrev pub and_properties : TreeProperties → NodeWord → EventWord
and_properties NoProperties word = only word
and_properties (One k i) word = NodeOf (anchor_count k) (tag_count k) word
and_properties (Two k i m j) word = NodeOf (anchor_count k + anchor_count m) (tag_count k + tag_count m) word

-- by the first character: the rows' scalars, what stands for nothing, and no text
abbrev pub text_word : List ℕ → NodeWord
text_word [] = Empty
text_word (c ∷ cs) = choose (c == 1) Text Null

abbrev pub sequence_word : (flow : Bool) → NodeWord
sequence_word true = FlowSequence
sequence_word false = BlockSequence

abbrev pub mapping_word : (flow : Bool) → NodeWord
mapping_word true = FlowMapping
mapping_word false = BlockMapping

abbrev pub document_word : (explicit : Bool) → EventWord
document_word true = MarkedDocument
document_word false = BareDocument

abbrev pub event_word : TreeEventKind → EventWord
event_word StreamStarts = StreamStart
event_word StreamEnds = StreamEnd
event_word (DocumentStarts explicit version) = document_word explicit
event_word DocumentEnds = DocumentEnd
event_word (AliasIs name s) = AliasWord
event_word SequenceEnds = SequenceEnd
event_word MappingEnds = MappingEnd
event_word (ScalarIs p style written) = and_properties p (text_word written.characters)
event_word (SequenceStarts flow p) = and_properties p (sequence_word flow)
event_word (MappingStarts flow p) = and_properties p (mapping_word flow)

abbrev pub brief : TreeEvent → EventBrief
brief e = record {
  word = event_word e.kind;
  start = e.from.place.index;
  end = e.to.place.index;
  indent = e.indent;
}

abbrev pub all_brief : List TreeEvent → List EventBrief
all_brief [] = []
all_brief (e ∷ es) = brief e ∷ all_brief es

-- ---- rows

pub data Telling : Type 0 where
  -- behind the start of the stream
  EventsAre : List EventBrief → Telling
  -- and the number of the lexeme
  RefusedAs : GrammarFault → ℕ → Telling
  Stops : Telling

abbrev pub without_first : List EventBrief → List EventBrief
without_first [] = []
without_first (e ∷ es) = es

abbrev pub telling : EventAnswer → Telling
telling (Events es) = EventsAre (without_first (all_brief es))
telling (Faulty k x) = RefusedAs k x.at.number
telling Unfinished = Stops

pub record Row : Type 0 where
  pub lexemes : List Sketch
  pub tells : Telling

abbrev pub is_read : List Sketch → List EventBrief → Row
is_read ss es = record { lexemes = ss; tells = EventsAre es }

abbrev pub is_refused : List Sketch → GrammarFault → ℕ → Row
is_refused ss k number = record { lexemes = ss; tells = RefusedAs k number }

-- what the lists are answered, and what is told of them
abbrev pub answers : List Row → List Telling
answers [] = []
answers (r ∷ rs) = telling (run_events (all_drawn 0 r.lexemes)) ∷ answers rs

abbrev pub tellings : List Row → List Telling
tellings [] = []
tellings (r ∷ rs) = r.tells ∷ tellings rs
