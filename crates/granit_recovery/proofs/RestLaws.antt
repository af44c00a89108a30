-- Between documents, where none is there behind what was dropped: a stream goes on, or all was read and given.
-- Elsewhere the next turn may fail at once, and another document is there.
use Rattle.std.proofs.Common.{◌≡◌, ℕ, ◌&&◌, ◌||◌, is_some, Bool, true, false, not, List, [], ◌∷◌}
use Rattle.std.proofs.Common.{◌++◌, Option, Some, None, Result, Ok, Err, refl, sym, ap, subst, ◌∙◌}
use Rattle.std.proofs.lemmas.Bool.{and_parts}
use Rattle.granit_error.specs.OptionsData.{OptionsData}
use Rattle.granit_lexemes.specs.Comment.{CommentRead}
use Rattle.granit_lexemes.specs.Lexeme as lexemes
use Rattle.granit_lexemes.specs.Lexeme.{LexemeKind, Item, OfLexeme, OfComment}
use Rattle.granit_lexemes.specs.Outcome.{Fault, ◌>>=◌}
use Rattle.granit_lexemes.specs.PlainEvent.{PlainEvent}
use Rattle.granit_machine.specs.Frames.{DocumentStage, Fresh, Directives, Inside, BehindRoot, Between, ParserState}
use Rattle.granit_machine.specs.Lexing.{FlaggedItem}
use Rattle.granit_machine.specs.Machine.{is_settled}
use Rattle.granit_machine.specs.Parser.{feed}
use Rattle.granit_machine.specs.Reader.{lex_turn, LexTurn}
use Rattle.granit_recovery.proofs.MarkRefusals.{comment_not, ends_document, EndsDocument, feed_not, FedNotStart}
use Rattle.granit_recovery.proofs.SkipLaws.{comes_fault, comes_none, Known, known_along, known_start, Resumes}
use Rattle.granit_recovery.proofs.SkipLaws.{resumes}
use Rattle.granit_recovery.proofs.TurnLaws.{Along, along_end, along_stream, step_along, TurnAlong}
use Rattle.granit_recovery.specs.Streams.{EarlyOf, not_early, turn_early}
use Rattle.granit_restart.proofs.AheadLaws.{given_in, one, OneTurn}
use Rattle.granit_restart.proofs.LookLaws.{Asked, follows_says}
use Rattle.granit_restart.proofs.MarkLaws.{items}
use Rattle.granit_restart.specs.Following.{document_follows, past_events, past_items, past_lexeme, past_reading}
use Rattle.granit_restart.specs.Header.{is_directives, is_start_expected, parser_takes, takes_front}
use Rattle.granit_restart.specs.Skipping.{ends_before, is_within_document, with_pending}
use Rattle.granit_restart.specs.Turned.{with_count}
use Rattle.granit_streams.proofs.Nesting.{behind_append}
pub use Rattle.granit_streams.proofs.Nesting.{levels_of}
pub use Rattle.granit_streams.proofs.StreamLaws.{OnlyComments}
use Rattle.granit_steps.specs.Levels.{and_then, behind_events, InStream, Level}
use Rattle.granit_steps.specs.Steps.{asks_next, feed_front, front_turn, is_next_settled, line_behind, may_go, read_more}
use Rattle.granit_steps.specs.Steps.{read_unless, StepState, step_turn, Turn, turn_by, with_fed, with_read}

module _ (o : OptionsData) where
  -- where all was read and given

  abbrev behind_read : StepState → LexTurn → Turn
  behind_read s r = r >>= λ x. Ok (Some [], with_read o s x)

  abbrev behind_fed : StepState → List FlaggedItem → Result (List PlainEvent × ParserState) Fault → Turn
  behind_fed s is r = r >>= λ x. Ok (Some [], with_fed s is x)

  read_some : (s : StepState) (r : LexTurn) (t : StepState) → behind_read s r ≡ Ok (None, t) → ⊥
  read_some s (Ok x) t e = let f : Some [] ≡ None = ap (given_in o) e in cc
  read_some s (Err f) t e = cc

  unless_some : (s : StepState) (fault : Option Fault) (t : StepState) → read_unless o fault s ≡ Ok (None, t) → ⊥
  unless_some s (Some f) t e = cc
  unless_some s None t e = read_some s (lex_turn o s.reading) t e

  more_ended : (b : Bool) (s t : StepState) → s.reading.ended ≡ b → read_more o b s ≡ Ok (None, t)
      → s.reading.ended ≡ true
  more_ended true s t is e = is
  more_ended false s t is e = absurd (unless_some s s.reading.fault t e)

  fed_some : (s : StepState) (is : List FlaggedItem) (r : Result (List PlainEvent × ParserState) Fault) (t : StepState)
      → behind_fed s is r ≡ Ok (None, t) → ⊥
  fed_some s is (Ok x) t e = let f : Some [] ≡ None = ap (given_in o) e in cc
  fed_some s is (Err f) t e = cc

  goes_at_end : (s : StepState) (i : FlaggedItem) (is : List FlaggedItem) → may_go s.reading i is ≡ false
      → s.reading.ended ≡ true → ⊥
  goes_at_end s i is e ended =
      let f : true ≡ false =
      ap (λ b. b || (is_settled s.reading.reader.laid i.item
      && (is_some s.reading.fault || (not (asks_next i.item) || is_next_settled s.reading.reader.laid is))))
      (sym ended) ∙ e in
      cc

  front_none : (b : Bool) (s t : StepState) (i : FlaggedItem) (is : List FlaggedItem) → may_go s.reading i is ≡ b
      → front_turn b o i is s ≡ Ok (None, t) → ⊥
  front_none true s t i is goes e = fed_some s is (feed o i (line_behind s.reading is) s.parser) t e
  front_none false s t i is goes e = goes_at_end s i is goes (more_ended s.reading.ended s t refl e)

  pub queue_none : (q : List FlaggedItem) (s t : StepState) → turn_by o [] q s ≡ Ok (None, t)
      → (q ≡ []) × (s.reading.ended ≡ true)
  queue_none [] s t e = (refl, more_ended s.reading.ended s t refl e)
  queue_none (i ∷ is) s t e = absurd (front_none (may_go s.reading i is) s t i is refl e)

  pub turn_is : (s : StepState) → s.pending ≡ [] → step_turn o s ≡ turn_by o [] s.queue s
  unfolding step_turn
  turn_is s none = ap (λ es. turn_by o es s.queue s) none

  -- where the next document fails at once

  refused : (s : StepState) (is : List FlaggedItem) (r : Result (List PlainEvent × ParserState) Fault) (f : Fault)
      → FedNotStart r → behind_fed s is r ≡ Err f → is_start_expected f ≡ true → ⊥
  refused s is (Ok x) f none e start = cc
  refused s is (Err g) f none e start =
      let same : g ≡ f = cc in let t = sym none ∙ ap is_start_expected same ∙ start in cc

  other_follows : (kind : LexemeKind) (tail : Option CommentRead) (room : ℕ) (more : ℕ → Result Bool Fault)
      → ends_document kind ≡ false → past_lexeme room kind tail more ≡ Ok true
  other_follows lexemes.DocumentEnd tail room more e = absurd (cc)
  other_follows lexemes.StreamEnd tail room more e = absurd (cc)
  other_follows kind tail room more e = refl

  lexeme_follows : (b : Bool) (kind : LexemeKind) (tail : Option CommentRead) (room : ℕ)
      (more : ℕ → Result Bool Fault) → ends_document kind ≡ b → (ends_document kind ≡ true → ⊥)
      → past_lexeme room kind tail more ≡ Ok true
  lexeme_follows true kind tail room more e never = absurd (never e)
  lexeme_follows false kind tail room more e never = other_follows kind tail room more e

  item_follows : (i : Item) (is : List Item) (room : ℕ) (more : ℕ → Result Bool Fault) → (EndsDocument i → ⊥)
      → past_items room (i ∷ is) more ≡ Ok true
  item_follows (OfComment c) is room more never = absurd (never tt)
  item_follows (OfLexeme l) is room more never =
      lexeme_follows (ends_document l.kind) l.kind l.tail room _ refl never

  only_front : (i : Item) (is : List Item) → OnlyComments (i ∷ is) → (c : CommentRead) × (i ≡ OfComment c)
  only_front (OfComment c) is only = (c, refl)
  only_front (OfLexeme l) is only = absurd only

  -- the item in front is no comment, and no end of a document
  front_other : (ls : List Level) (s : StepState) (i : FlaggedItem) (is : List FlaggedItem) (f : Fault) → Along ls s
      → s.queue ≡ i ∷ is → feed_front o i is s ≡ Err f → is_start_expected f ≡ true
      → is_within_document s.parser.stage ≡ true → EndsDocument i.item → ⊥
  front_other ls s i is f (along_stream p rests seats waits) queue e start within ends =
      refused s is (feed o i (line_behind s.reading is) s.parser) f
      (feed_not o i (line_behind s.reading is) s.parser ends rests.fine seats.sits within) e start
  front_other ls s i is f (along_end p over only ended) queue e start within ends =
      let x = only_front i.item (items is) (subst (λ q. OnlyComments (items q)) queue only) in
      refused s is (feed o i (line_behind s.reading is) s.parser) f
      (subst (λ y. FedNotStart (feed o (record { item = y; begins_key = i.begins_key }) (line_behind s.reading is)
      s.parser)) (sym x.1) (comment_not o x.0 i.begins_key (line_behind s.reading is) s.parser)) e start

  queue_follows : (q : List FlaggedItem) (ls : List Level) (s : StepState) (room : ℕ) (f : Fault) → Along ls s
      → s.queue ≡ q → turn_by o [] q s ≡ Err f → parser_takes s q ≡ true → is_start_expected f ≡ true
      → is_within_document s.parser.stage ≡ true
      → past_items room (items q) (past_reading o s.reading s.reading.fault) ≡ Ok true
  queue_follows [] ls s room f a queue e goes start within = absurd (cc)
  queue_follows (i ∷ is) ls s room f a queue e goes start within =
      item_follows i.item (items is) room (past_reading o s.reading s.reading.fault)
      (front_other ls s i is f a queue (ap (λ b. front_turn b o i is s) (sym goes) ∙ e) start within)

  within_other : (stage : DocumentStage) → is_within_document stage ≡ true → is_directives stage ≡ false
  within_other Inside e = refl
  within_other BehindRoot e = refl
  within_other Fresh e = absurd (cc)
  within_other (Directives version) e = absurd (cc)
  within_other Between e = absurd (cc)

  fault_follows : (ls : List Level) (s : StepState) (room : ℕ) (f : Fault) → Along ls s → s.pending ≡ []
      → step_turn o s ≡ Err f → ends_before s f ≡ true → document_follows o room s ≡ Ok true
  fault_follows ls s room f a pending e before =
      let all = and_parts (takes_front s && is_start_expected f) (is_within_document s.parser.stage) before in
      let two = and_parts (takes_front s) (is_start_expected f) all.0 in
      follows_says o room s (within_other s.parser.stage all.1) ∙ ap (λ es. past_events room es (Asked o s)) pending
      ∙ queue_follows s.queue ls s room f a refl (sym (turn_is s pending) ∙ e) two.0 two.1 all.1

  pub known_follows : (s : StepState) (room : ℕ) (f : Fault) → Known s → s.pending ≡ [] → step_turn o s ≡ Err f
      → ends_before s f ≡ true → document_follows o room s ≡ Ok true
  known_follows s room f (known_start x es kind waits a) pending e before =
      absurd (let g = sym waits ∙ pending in cc)
  known_follows s room f (known_along {ls = ls} p a) pending e before = fault_follows ls s room f a pending e before

-- between documents a stream goes on, or all was read and given
pub data AtRest (s : StepState) : Type 0 where
  rests_along : Along (InStream ∷ []) s → AtRest s
  rests_done : s.pending ≡ [] → s.queue ≡ [] → s.reading.ended ≡ true → AtRest s

pub done_turn : (o : OptionsData) (s : StepState) → s.pending ≡ [] → s.queue ≡ [] → s.reading.ended ≡ true
    → step_turn o s ≡ Ok (None, s)
unfolding step_turn
done_turn o s pending queue ended =
    ap (λ es. turn_by o es s.queue s) pending ∙ ap (λ q. turn_by o [] q s) queue
    ∙ ap (λ b. read_more o b s) ended

pub rest_resumes : (o : OptionsData) (s : StepState) → AtRest s → Resumes o s
rest_resumes o s (rests_along a) = resumes a
rest_resumes o s (rests_done pending queue ended) = comes_none pending (done_turn o s pending queue ended)

pub none_rests : (o : OptionsData) (s : StepState) (room : ℕ) → Known s → Resumes o s
    → document_follows o room s ≡ Ok false → AtRest s
none_rests o s room known (resumes a) none = rests_along a
none_rests o s room known (comes_none {t = t} pending turn) none =
    let x = queue_none o s.queue s t (sym (turn_is o s pending) ∙ turn) in rests_done pending x.0 x.1
none_rests o s room known (comes_fault f pending turn before) none =
    absurd (let g = sym (known_follows o s room f known pending turn before) ∙ none in cc)

-- ---- turns that are made early

waits_before : (ls ks : List Level) (es : List PlainEvent) (s : StepState) → behind_events es ls ≡ Some ks → Along ks s
    → Along ls (with_pending (es ++ s.pending) s)
waits_before ls ks es s is (along_stream p rests seats waits) =
    along_stream (behind_append es s.pending ls ∙ ap (λ x. and_then x (behind_events s.pending)) is ∙ p) rests seats
    waits
waits_before ls ks es s is (along_end p over only ended) =
    along_end (behind_append es s.pending ls ∙ ap (λ x. and_then x (behind_events s.pending)) is ∙ p) over only ended

behind_along : (o : OptionsData) (ls : List Level) (s t : StepState) (x : OneTurn o s t) → Along ls (with_pending [] s)
    → Along ls x.behind
behind_along o ls s t x a = subst (TurnAlong ls) x.turn (step_along o ls (with_pending [] s) a)

one_along : (o : OptionsData) (ls : List Level) (s t : StepState) → OneTurn o s t → Along ls s → Along ls t
one_along o ls s t x (along_stream p rests seats waits) =
    let ks = levels_of s.parser.frames s.parser.stage in
    subst (Along ls) (sym x.is)
    (waits_before ls ks s.pending x.behind p (behind_along o ks s t x (along_stream refl rests seats waits)))
one_along o ls s t x (along_end p over only ended) =
    subst (Along ls) (sym x.is)
    (waits_before ls [] s.pending x.behind p (behind_along o [] s t x (along_end refl over only ended)))

-- with one event fewer in front
less_one : (o : OptionsData) (s t : StepState) (x : OneTurn o s t) (es : List PlainEvent)
    → OneTurn o (with_pending es s) (with_pending (es ++ x.behind.pending) x.behind)
less_one o s t x es = record { given = x.given; behind = x.behind; turn = x.turn; is = refl }

one_known : (o : OptionsData) (s t : StepState) → OneTurn o s t → Known s → Known t
one_known o s t x (known_start e es kind waits a) =
    let first : s.pending ++ x.behind.pending ≡ e ∷ (es ++ x.behind.pending) =
    ap (λ xs. xs ++ x.behind.pending) waits in
    subst Known (sym (x.is ∙ ap (λ xs. with_pending xs x.behind) first))
    (known_start e (es ++ x.behind.pending) kind refl
    (one_along o (InStream ∷ []) (with_pending es s) (with_pending (es ++ x.behind.pending) x.behind)
    (less_one o s t x es) a))
one_known o s t x (known_along {ls = ls} p a) = known_along p (one_along o ls s t x a)

pub early_known : (o : OptionsData) (s t : StepState) → EarlyOf o s t → Known s → Known t
early_known o s t not_early known = known
early_known o s t (turn_early {t = u} {given = given} p e) known =
    one_known o u t (one o u t given e) (early_known o s u p known)

one_rests : (o : OptionsData) (s t : StepState) → OneTurn o s t → AtRest s → AtRest t
one_rests o s t x (rests_along a) = rests_along (one_along o (InStream ∷ []) s t x a)
one_rests o s t x (rests_done pending queue ended) =
    absurd (let f : None ≡ Some x.given =
    ap (given_in o) (sym (done_turn o (with_pending [] s) refl queue ended) ∙ x.turn) in cc)

pub early_rests : (o : OptionsData) (s t : StepState) → EarlyOf o s t → AtRest s → AtRest t
early_rests o s t not_early rest = rest
early_rests o s t (turn_early {t = u} {given = given} p e) rest =
    one_rests o u t (one o u t given e) (early_rests o s u p rest)

-- ---- another count

count_along : (count : ℕ) (ls : List Level) (s : StepState) → Along ls s → Along ls (with_count count s)
count_along count ls s (along_stream p rests seats waits) =
    along_stream p (record { given = rests.given; fine = rests.fine; held = rests.held })
    (record { calm = seats.calm; sits = seats.sits }) waits
count_along count ls s (along_end p over only ended) =
    along_end p (record { given = over.given; held = over.held }) only ended

pub count_known : (count : ℕ) (s : StepState) → Known s → Known (with_count count s)
count_known count s (known_start e es kind waits a) =
    known_start e es kind waits (count_along count (InStream ∷ []) (with_pending es s) a)
count_known count s (known_along {ls = ls} p a) = known_along p (count_along count ls s a)

pub count_rests : (count : ℕ) (s : StepState) → AtRest s → AtRest (with_count count s)
count_rests count s (rests_along a) = rests_along (count_along count (InStream ∷ []) s a)
count_rests count s (rests_done pending queue ended) = rests_done pending queue ended
