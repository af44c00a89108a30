-- The end of the text waits only where reading has ended, and there nothing is left.
use Rattle.std.proofs.Common.{◌≡◌, Bool, true, false, ◌||◌, List, [], ◌∷◌, ◌++◌, Option, Some, None, Result, Ok, Err}
use Rattle.std.proofs.Common.{refl, sym, ap}
use Rattle.std.proofs.Common.{subst, ◌∙◌}
use Rattle.std.proofs.lemmas.Bool.{or_parts, or_right}
use Rattle.std.specs.Prelude.{if◌then◌else◌}
use Rattle.granit_error.specs.OptionsData.{OptionsData}
use Rattle.granit_language.specs.Before.{freshened, in_front}
use Rattle.granit_language.specs.Begins.{Begins, at_end}
use Rattle.granit_language.specs.Reached.{ends_column_by, of_comment, of_lexeme, BeginsAt, Reads}
use Rattle.granit_language.specs.Standing.{Given, GivenOne}
use Rattle.granit_lexemes.specs.Comment.{CommentRead}
use Rattle.granit_lexemes.specs.Here.{Here}
use Rattle.granit_lexemes.specs.Lexeme.{Lexeme, Item, OfLexeme, OfComment}
use Rattle.granit_lexemes.specs.Outcome.{Fault, ◌>>=◌}
use Rattle.granit_lexemes.specs.PlainEvent.{PlainEvent}
use Rattle.granit_machine.specs.Frames.{ParserState}
use Rattle.granit_machine.specs.Laid.{Laid}
use Rattle.granit_machine.specs.LexemeSort.{LexemeSort, TextEnd}
use Rattle.granit_machine.specs.Lexing.{FlaggedItem}
use Rattle.granit_machine.specs.NodeLexemes.{note_items}
use Rattle.granit_machine.specs.Parser.{feed}
use Rattle.granit_machine.specs.Reader.{LexState, behind_read, is_end, is_end_kind, lex_turn, read}
use Rattle.granit_machine.specs.ReaderState.{Read, ReaderState}
use Rattle.granit_places.proofs.Telling.{Answers}
use Rattle.granit_places.proofs.Telling.{read-is, ReadsBy}
use Rattle.granit_places.proofs.Telling.{end_sort}
use Rattle.granit_places.proofs.Telling.{telling}
use Rattle.granit_restart.proofs.MarkLaws.{items, pushed_items}
use Rattle.granit_steps.proofs.Futures.{pushed_nil}
pub use Rattle.granit_streams.proofs.StreamLaws.{has_end}
pub use Rattle.granit_streams.proofs.StreamNesting.{is_end_item}
use Rattle.granit_steps.specs.Steps.{StepState, Turn, front_turn, incoming, line_behind, may_go, pushed, read_more}
use Rattle.granit_steps.specs.Steps.{read_unless}
use Rattle.granit_steps.specs.Steps.{step_turn, turn_by, with_fed, with_read}

-- ---- one read

abbrev NothingLeft : Here → Type 0
NothingLeft h = h.unread.text ≡ []

pub record EndRead (is : List Item) (h : Here) : Type 0 where
  pub first : has_end is ≡ is_end is
  pub left : is_end is ≡ true → NothingLeft h

alone_first : (x : Lexeme) (behind : Option CommentRead) → has_end (OfLexeme x ∷ note_items behind)
    ≡ is_end (OfLexeme x ∷ note_items behind)
alone_first x None = or_none (is_end_kind x.kind)
  where
    or_none : (b : Bool) → (b || false) ≡ b
    or_none true = refl
    or_none false = refl
alone_first x (Some c) = or_none (is_end_kind x.kind)
  where
    or_none : (b : Bool) → (b || false) ≡ b
    or_none true = refl
    or_none false = refl

empty_by : (in_flow adjacent : Bool) (column : _) (text : List _) → Begins in_flow adjacent column text TextEnd
    → text ≡ []
empty_by in_flow adjacent column text at_end = refl

empty_at : (o : OptionsData) (ends : Bool) (h : Here) (l : Laid) (is : List Item) (after : ReaderState)
    → NothingLeft h → GivenOne o ends TextEnd h l is after → NothingLeft after.here
empty_at o ends h l (OfLexeme x ∷ []) after none p = ap (λ (g : Here). g.unread.text) p.0.0.reaches ∙ none
empty_at o ends h l [] after none p = absurd p
empty_at o ends h l (OfComment c ∷ is) after none p = absurd p
empty_at o ends h l (OfLexeme x ∷ i ∷ is) after none p = absurd p

left_by : (o : OptionsData) (at behind : ReaderState) (is : List Item) (sort : LexemeSort) → sort ≡ TextEnd
    → BeginsAt (freshened o at) sort
    → Given o (ends_column_by sort (freshened o at)) sort at.here (in_front sort at.here (freshened o at).laid) is
    behind
    → NothingLeft behind.here
left_by o at behind is TextEnd e b given =
    empty_at o _ at.here _ is behind (empty_by _ _ _ at.here.unread.text b) given
left_by o at behind is sort e b given = absurd (cc)

reads_end : (o : OptionsData) (s after : ReaderState) (is : List Item) → Reads o s is after → EndRead is after.here
reads_end o s after is (of_comment at g k) = record { first = refl; left = λ e. absurd (cc) }
reads_end o s after is (of_lexeme at behind sort comes given keys) =
    let f = freshened o at in
    let l = in_front sort f.here f.laid in
    let t = telling o (ends_column_by sort f) f.here l sort is behind given.1 in
    record {
      first = ap has_end t.are ∙ alone_first t.lexeme t.note ∙ sym (ap is_end t.are);
      left = λ e. left_by o at behind is sort (end_sort f.here l t.lexeme sort t.says (sym (ap is_end t.are) ∙ e))
          comes.begins given.1;
    }

read_end : (o : OptionsData) (s after : ReaderState) (is : List Item) → read o s ≡ Ok (is, after)
    → EndRead is after.here
read_end o s after is e = reads_end o s after is (subst (Answers (ReadsBy o s) _) e (read-is o s))

-- ---- one turn

pub record EndLast (l : LexState) (q : List FlaggedItem) : Type 0 where
  pub waits : has_end (items q) ≡ true → l.ended ≡ true
  pub left : l.ended ≡ true → NothingLeft l.reader.here

abbrev pub TurnEnds : Turn → Type 0
TurnEnds (Ok x) = EndLast x.1.reading x.1.queue
TurnEnds (Err f) = Unit {0}

ends_joined : (xs ys : List Item) → has_end xs ≡ false → has_end (xs ++ ys) ≡ has_end ys
ends_joined [] ys e = refl
ends_joined (x ∷ xs) ys e =
    ap (λ (b : Bool). b || has_end (xs ++ ys)) (or_parts (is_end_item x) (has_end xs) e).0
    ∙ ends_joined xs ys (or_parts (is_end_item x) (has_end xs) e).1

asked_ends : (b : Bool) (is : List Item) → has_end (incoming b is) ≡ has_end is
asked_ends true is = refl
asked_ends false [] = refl
asked_ends false (OfLexeme l ∷ is) = ap (λ c. is_end_kind l.kind || c) (asked_ends false is)
asked_ends false (OfComment c ∷ is) = asked_ends false is

none_yet : (b c : Bool) → (b ≡ true → c ≡ true) → c ≡ false → b ≡ false
none_yet true c f e = sym (f refl) ∙ e
none_yet false c f e = refl

fed_ends : (s : StepState) (i : FlaggedItem) (is : List FlaggedItem)
    (r : Result (List PlainEvent × ParserState) Fault) → s.queue ≡ i ∷ is → EndLast s.reading s.queue
    → TurnEnds (r >>= λ x. Ok (Some [], with_fed s is x))
fed_ends s i is (Ok x) queue p = record {
  waits = λ e. p.waits (ap (λ (q : List FlaggedItem). has_end (items q)) queue
      ∙ or_right (is_end_item i.item) (has_end (items is)) e);
  left = p.left;
}
fed_ends s i is (Err f) queue p = tt

module _ (o : OptionsData) where
  nothing_came : (s : StepState) (l : LexState) → EndLast l s.queue
      → EndLast l (pushed s.queue (incoming o.emit_comments []))
  nothing_came s l p = subst (EndLast l) (sym (pushed_nil o.emit_comments s.queue)) p

  read_ends : (s : StepState) (r : Read) → read o s.reading.reader ≡ r → has_end (items s.queue) ≡ false
      → TurnEnds (behind_read r s.reading.reader >>= λ x. Ok (Some [], with_read o s x))
  read_ends s (Ok x) e none =
      let known = read_end o s.reading.reader x.1 x.0 e in
      let came = ap has_end (pushed_items s.queue (incoming o.emit_comments x.0))
      ∙ ends_joined (items s.queue) (incoming o.emit_comments x.0) none ∙ asked_ends o.emit_comments x.0
      ∙ known.first in
      record { waits = λ e. sym came ∙ e; left = known.left }
  read_ends s (Err f) e none =
      nothing_came s _ (record { waits = λ e. absurd (cc); left = λ e. absurd (cc) })

  lexed_ends : (b : Bool) (s : StepState) → s.reading.ended ≡ b → EndLast s.reading s.queue
      → TurnEnds ((if b then Ok (None, s.reading) else behind_read (read o s.reading.reader) s.reading.reader)
      >>= λ x. Ok (Some [], with_read o s x))
  lexed_ends true s e p = nothing_came s s.reading p
  lexed_ends false s e p = read_ends s (read o s.reading.reader) refl (none_yet _ s.reading.ended p.waits e)

  unless_ends : (f : Option Fault) (s : StepState) → EndLast s.reading s.queue → TurnEnds (read_unless o f s)
  unfolding lex_turn
  unless_ends (Some f) s p = tt
  unless_ends None s p = lexed_ends s.reading.ended s refl p

  more_ends : (b : Bool) (s : StepState) → EndLast s.reading s.queue → TurnEnds (read_more o b s)
  more_ends true s p = p
  more_ends false s p = unless_ends s.reading.fault s p

  front_ends : (b : Bool) (i : FlaggedItem) (is : List FlaggedItem) (s : StepState) → s.queue ≡ i ∷ is
      → EndLast s.reading s.queue → TurnEnds (front_turn b o i is s)
  front_ends true i is s queue p = fed_ends s i is (feed o i (line_behind s.reading is) s.parser) queue p
  front_ends false i is s queue p = more_ends s.reading.ended s p

  by_ends : (es : List PlainEvent) (q : List FlaggedItem) (s : StepState) → s.queue ≡ q → EndLast s.reading s.queue
      → TurnEnds (turn_by o es q s)
  by_ends (e ∷ es) q s queue p = p
  by_ends [] [] s queue p = more_ends s.reading.ended s p
  by_ends [] (i ∷ is) s queue p = front_ends (may_go s.reading i is) i is s queue p

  pub turn_ends : (s : StepState) → EndLast s.reading s.queue → TurnEnds (step_turn o s)
  unfolding step_turn
  turn_ends s p = by_ends s.pending s.queue s refl p

-- where nothing was read, or a `---` alone
pub not_ended : (l : LexState) (q : List FlaggedItem) → has_end (items q) ≡ false → l.ended ≡ false → EndLast l q
not_ended l q none e = record { waits = λ f. absurd (cc); left = λ f. absurd (cc) }
