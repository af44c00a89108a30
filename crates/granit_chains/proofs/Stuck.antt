-- Where a turn fails: an item is refused, which begins no document where none is open, or a read was.
use Rattle.std.proofs.Common.{◌≡◌, ℕ, Bool, true, false, List, [], ◌∷◌, Option, Some, None, is_some, Result, Ok, Err}
use Rattle.std.proofs.Common.{refl, sym, ap, ap₂, ◌∙◌}
use Rattle.std.specs.Prelude.{if◌then◌else◌}
use Rattle.granit_chains.specs.Chains.{is_open_parser, is_open_by}
use Rattle.granit_error.specs.OptionsData.{OptionsData}
use Rattle.granit_lexemes.specs.Comment.{CommentRead}
use Rattle.granit_lexemes.specs.Lexeme as lexemes
use Rattle.granit_lexemes.specs.Lexeme.{Item, Lexeme, LexemeKind, OfComment, OfLexeme}
use Rattle.granit_lexemes.specs.Outcome.{Fault, ◌>>=◌}
use Rattle.granit_lexemes.specs.Pieces.{pieces, turns}
use Rattle.granit_lexemes.specs.PlainEvent.{PlainEvent}
use Rattle.granit_machine.specs.Closing.{close_turn}
use Rattle.granit_machine.specs.Frames.{DocumentStage, Frame, Fresh, ParserState, Waiting}
use Rattle.granit_machine.specs.Lexing.{FlaggedItem}
use Rattle.granit_machine.specs.Parser.{feed}
use Rattle.granit_machine.specs.Reader.{behind_read, LexTurn, lex_turn, LexState, read}
use Rattle.granit_machine.specs.ReaderState.{Read, ReaderState}
use Rattle.granit_alone.proofs.EndMarks.{is_start, starts}
use Rattle.granit_steps.specs.Steps.{front_turn, line_behind, may_go, read_more, read_unless, step_turn, StepState}
use Rattle.granit_steps.specs.Steps.{Turn, turn_by, with_fed, with_read}

-- ---- a `---` is never refused where nothing is open

abbrev parser_with : List Frame → DocumentStage → Option Waiting → ParserState → ParserState
parser_with frames stage waiting p = record p { frames = frames; stage = stage; waiting = waiting }

abbrev start_item : LexemeKind → Option CommentRead → Lexeme → Bool → FlaggedItem
start_item kind tail l b = record { item = OfLexeme (record l { kind = kind; tail = tail }); begins_key = b }

start_fed : (o : OptionsData) (tail : Option CommentRead) (l : Lexeme) (b : Bool) (next : Option ℕ) (p : ParserState)
    (f : Fault) → feed o (start_item lexemes.DocumentStart tail l b) next (parser_with [] Fresh None p) ≡ Err f → ⊥
unfolding feed pieces turns close_turn
start_fed o None l b next p f e = cc
start_fed o (Some c) l b next p f e = cc

document_start_is : (kind : LexemeKind) → is_start kind ≡ true → kind ≡ lexemes.DocumentStart
document_start_is lexemes.DocumentStart e = refl
document_start_is kind e = absurd (cc)

closed_with : (frames : List Frame) (stage : DocumentStage) (waiting : Option Waiting) (p : ParserState)
    → is_open_by frames stage waiting ≡ false → parser_with frames stage waiting p ≡ parser_with [] Fresh None p
closed_with [] Fresh None p e = refl
closed_with frames stage waiting p e = absurd (cc)

item_fed : (o : OptionsData) (i : Item) (b : Bool) (next : Option ℕ) (p : ParserState) (f : Fault)
    → starts i ≡ true → is_open_parser p ≡ false → feed o (record { item = i; begins_key = b }) next p ≡ Err f → ⊥
item_fed o (OfLexeme l) b next p f start closed e =
    start_fed o l.tail l b next p f
    (ap₂ (λ (kind : LexemeKind) (q : ParserState). feed o (start_item kind l.tail l b) next q)
    (sym (document_start_is l.kind start)) (sym (closed_with p.frames p.stage p.waiting p closed)) ∙ e)
item_fed o (OfComment c) b next p f start closed e = cc

-- ---- where a turn fails

pub data Stuck (s : StepState) : Type 0 where
  item_refused : (i : FlaggedItem) (is : List FlaggedItem) → s.queue ≡ i ∷ is
      → (starts i.item ≡ true → is_open_parser s.parser ≡ true) → Stuck s
  read_refused : is_some s.reading.fault ≡ true → Stuck s

open_by : (b : Bool) (p : ParserState) → is_open_parser p ≡ b → (is_open_parser p ≡ false → ⊥) → is_open_parser p ≡ true
open_by true p is never = is
open_by false p is never = absurd (never is)

fed_refused : (s : StepState) (is : List FlaggedItem) (r : Result (List PlainEvent × ParserState) Fault) (f : Fault)
    → ◌≡◌ {A = Turn} (r >>= λ x. Ok (Some [], with_fed s is x)) (Err f) → r ≡ Err f
fed_refused s is (Ok x) f e = absurd (cc)
fed_refused s is (Err g) f e = cc

read_ok : (r : Read) (s : ReaderState) (f : Fault) → behind_read r s ≡ Err f → ⊥
read_ok (Ok x) s f e = cc
read_ok (Err g) s f e = cc

lexed_ok : (o : OptionsData) (b : Bool) (l : LexState) (f : Fault)
    → (if b then Ok (None, l) else behind_read (read o l.reader) l.reader) ≡ Err f → ⊥
lexed_ok o true l f e = cc
lexed_ok o false l f e = read_ok (read o l.reader) l.reader f e

lex_ok : (o : OptionsData) (l : LexState) (f : Fault) → lex_turn o l ≡ Err f → ⊥
unfolding lex_turn
lex_ok o l f e = lexed_ok o l.ended l f e

then_ok : (o : OptionsData) (s : StepState) (r : LexTurn) (f : Fault) → ((g : Fault) → r ≡ Err g → ⊥)
    → ◌≡◌ {A = Turn} (r >>= λ x. Ok (Some [], with_read o s x)) (Err f) → ⊥
then_ok o s (Ok x) f never e = cc
then_ok o s (Err g) f never e = never g refl

unless_stuck : (o : OptionsData) (fault : Option Fault) (s : StepState) (f : Fault) → s.reading.fault ≡ fault
    → read_unless o fault s ≡ Err f → Stuck s
unless_stuck o (Some g) s f is e = read_refused (ap (λ (x : Option Fault). is_some x) is)
unless_stuck o None s f is e = absurd (then_ok o s (lex_turn o s.reading) f (λ g. lex_ok o s.reading g) e)

more_stuck : (o : OptionsData) (b : Bool) (s : StepState) (f : Fault) → read_more o b s ≡ Err f → Stuck s
more_stuck o true s f e = absurd (cc)
more_stuck o false s f e = unless_stuck o s.reading.fault s f refl e

front_stuck : (o : OptionsData) (b : Bool) (i : FlaggedItem) (is : List FlaggedItem) (s : StepState) (f : Fault)
    → s.queue ≡ i ∷ is → front_turn b o i is s ≡ Err f → Stuck s
front_stuck o true i is s f queue e =
    let r = feed o i (line_behind s.reading is) s.parser in
    item_refused i is queue (λ start. open_by (is_open_parser s.parser) s.parser refl
    (λ closed. item_fed o i.item i.begins_key (line_behind s.reading is) s.parser f start closed
    (fed_refused s is r f e)))
front_stuck o false i is s f queue e = more_stuck o s.reading.ended s f e

by_stuck : (o : OptionsData) (es : List PlainEvent) (q : List FlaggedItem) (s : StepState) (f : Fault)
    → s.queue ≡ q → turn_by o es q s ≡ Err f → Stuck s
by_stuck o (d ∷ es) q s f queue e = absurd (cc)
by_stuck o [] [] s f queue e = more_stuck o s.reading.ended s f e
by_stuck o [] (i ∷ is) s f queue e = front_stuck o (may_go s.reading i is) i is s f queue e

pub stuck : (o : OptionsData) (s : StepState) (f : Fault) → step_turn o s ≡ Err f → Stuck s
unfolding step_turn
stuck o s f e = by_stuck o s.pending s.queue s f refl e
