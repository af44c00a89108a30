-- Where the end of the stream wasn't given, it is left: it waits, or is still to be read. So an event comes, or a
-- fault.
use Rattle.std.proofs.Common.{◌≡◌, ℕ, zero, suc, ◌+◌, ◌<◌, ◌||◌, ◌⊎◌, inl, inr, Bool, true, false, List, [], ◌∷◌}
use Rattle.std.proofs.Common.{◌++◌, Option, Some, None, Result, Ok, Err, refl, sym, ap, subst, ◌∙◌, arith}
use Rattle.std.specs.Prelude.{if◌then◌else◌}
use Rattle.granit_error.specs.OptionsData.{OptionsData}
use Rattle.granit_lexemes.specs.Lexeme.{Item, Lexeme, OfComment, OfLexeme}
use Rattle.granit_lexemes.specs.Outcome.{Fault, ◌>>=◌}
use Rattle.granit_lexemes.specs.Pieces.{pieces, then_more, turns, with_front}
use Rattle.granit_lexemes.specs.PlainEvent.{EventKind, PlainEvent}
use Rattle.granit_lexemes.specs.PlainEvent.{DocumentEnd, DocumentStart, StreamEnd, StreamStart}
use Rattle.granit_lexemes.specs.PlainEvent.{Alias, UnresolvedAlias, Anchor, Comment, Scalar, SequenceStart, SequenceEnd}
use Rattle.granit_lexemes.specs.PlainEvent.{MappingStart, MappingEnd}
use Rattle.granit_machine.specs.Frames.{BlockMapping, BlockSequence, DocumentStage, FlowMapping, FlowPair, FlowSequence}
use Rattle.granit_machine.specs.Frames.{BehindRoot, Frame, ParserState, Root, WithProperties}
use Rattle.granit_machine.specs.Lexing.{FlaggedItem}
use Rattle.granit_machine.specs.Parser.{feed}
use Rattle.granit_machine.specs.Reader.{behind_read, is_end, is_end_kind, lex_turn, read}
use Rattle.granit_machine.specs.ReaderState.{Read}
use Rattle.granit_recovery.proofs.LevelLaws.{Open, document_leaves, event_keeps, events_keep, split}
use Rattle.granit_recovery.proofs.RecoveryLaws.{failing_waits, first_same}
use Rattle.granit_recovery.proofs.RecoveryLaws.{second_same}
use Rattle.granit_recovery.proofs.RestLaws.{queue_none}
use Rattle.granit_recovery.proofs.SkipLaws.{Known, known_along, known_start}
use Rattle.granit_recovery.proofs.TurnLaws.{Along, along_end, along_stream, step_along}
use Rattle.granit_recovery.proofs.TurnLaws.{TurnAlong}
use Rattle.granit_restart.proofs.AheadLaws.{one, waits_next}
use Rattle.granit_restart.proofs.MarkLaws.{items, pushed_items}
use Rattle.granit_restart.specs.Calls.{failing, failing_by, failing_in}
use Rattle.granit_restart.specs.Skipping.{with_pending}
use Rattle.granit_recovery.proofs.RestLaws.{levels_of}
use Rattle.granit_steps.proofs.StepLaws.{step_turn-Shortens}
use Rattle.granit_recovery.proofs.RestLaws.{OnlyComments}
use Rattle.granit_recovery.proofs.TurnLaws.{has_end}
use Rattle.granit_recovery.proofs.LevelLaws.{end_behind}
use Rattle.granit_recovery.proofs.TurnLaws.{Fed, feed_fed}
use Rattle.granit_recovery.proofs.SeatSteps.{is_end_item}
use Rattle.granit_steps.specs.Levels.{behind_event, behind_events, document_begins, InStream, Level, node_begun}
use Rattle.granit_steps.specs.Levels.{BeforeNode, BehindNode, InMapping, InSequence, mapping_ends, node_done}
use Rattle.granit_steps.specs.Levels.{sequence_ends}
use Rattle.granit_steps.specs.Steps.{feed_front, first_pending, front_turn, incoming, line_behind, may_go, next_event}
use Rattle.granit_steps.specs.Steps.{read_more, read_unless, StepState, step_size, step_turn, Turn}
use Rattle.granit_steps.specs.Steps.{turn_by, with_fed, with_read}

-- ---- the end of a stream among events

abbrev pub ends_stream : EventKind → Bool
ends_stream StreamEnd = true
ends_stream kind = false

abbrev pub ends_in : List PlainEvent → Bool
ends_in [] = false
ends_in (e ∷ es) = ends_stream e.kind || ends_in es

abbrev NonEmpty : List Level → Type 0
NonEmpty [] = ⊥
NonEmpty (l ∷ ls) = Unit {0}

same_levels : (ls ks : List Level) → Some ls ≡ Some ks → NonEmpty ls → NonEmpty ks
same_levels ls ks e some = let s : ls ≡ ks = cc in subst NonEmpty s some

node_leaves : (ls ks : List Level) → node_done ls ≡ Some ks → NonEmpty ks
node_leaves [] ks e = absurd (cc)
node_leaves (InStream ∷ ls) ks e = absurd (cc)
node_leaves (BeforeNode ∷ ls) ks e = same_levels (BehindNode ∷ ls) ks e tt
node_leaves (BehindNode ∷ ls) ks e = absurd (cc)
node_leaves (InSequence ∷ ls) ks e = same_levels (InSequence ∷ ls) ks e tt
node_leaves (InMapping ∷ ls) ks e = same_levels (InMapping ∷ ls) ks e tt

begun_leaves : (l : Level) (ls ks : List Level) → node_begun l ls ≡ Some ks → NonEmpty ks
begun_leaves l [] ks e = absurd (cc)
begun_leaves l (InStream ∷ ls) ks e = absurd (cc)
begun_leaves l (BeforeNode ∷ ls) ks e = same_levels (l ∷ BeforeNode ∷ ls) ks e tt
begun_leaves l (BehindNode ∷ ls) ks e = absurd (cc)
begun_leaves l (InSequence ∷ ls) ks e = same_levels (l ∷ InSequence ∷ ls) ks e tt
begun_leaves l (InMapping ∷ ls) ks e = same_levels (l ∷ InMapping ∷ ls) ks e tt

begins_leaves : (ls ks : List Level) → document_begins ls ≡ Some ks → NonEmpty ks
begins_leaves [] ks e = absurd (cc)
begins_leaves (InStream ∷ ls) ks e = same_levels (BeforeNode ∷ InStream ∷ ls) ks e tt
begins_leaves (l ∷ ls) ks e = absurd (cc)

sequence_leaves : (ls ks : List Level) → sequence_ends ls ≡ Some ks → NonEmpty ks
sequence_leaves [] ks e = absurd (cc)
sequence_leaves (InSequence ∷ ls) ks e = node_leaves ls ks e
sequence_leaves (l ∷ ls) ks e = absurd (cc)

mapping_leaves : (ls ks : List Level) → mapping_ends ls ≡ Some ks → NonEmpty ks
mapping_leaves [] ks e = absurd (cc)
mapping_leaves (InMapping ∷ ls) ks e = node_leaves ls ks e
mapping_leaves (l ∷ ls) ks e = absurd (cc)

-- any other event leaves the stream open
kind_leaves : (kind : EventKind) (ls ks : List Level) → Open ls → NonEmpty ls → ends_stream kind ≡ false
    → behind_event kind ls ≡ Some ks → NonEmpty ks
kind_leaves StreamStart ls ks p some is e = absurd (cc)
kind_leaves StreamEnd ls ks p some is e = absurd (cc)
kind_leaves (DocumentStart explicit version) ls ks p some is e = begins_leaves ls ks e
kind_leaves DocumentEnd ls ks p some is e = subst NonEmpty (sym (document_leaves ls ks p e)) tt
kind_leaves (Alias n) ls ks p some is e = node_leaves ls ks e
kind_leaves (UnresolvedAlias name) ls ks p some is e = node_leaves ls ks e
kind_leaves (Anchor n name) ls ks p some is e = same_levels ls ks e some
kind_leaves (Comment text placement) ls ks p some is e = same_levels ls ks e some
kind_leaves (Scalar text style anchor tag) ls ks p some is e = node_leaves ls ks e
kind_leaves (SequenceStart style anchor tag) ls ks p some is e = begun_leaves InSequence ls ks e
kind_leaves SequenceEnd ls ks p some is e = sequence_leaves ls ks e
kind_leaves (MappingStart style anchor tag) ls ks p some is e = begun_leaves InMapping ls ks e
kind_leaves MappingEnd ls ks p some is e = mapping_leaves ls ks e

ended_by : (b : Bool) (x : PlainEvent) (es : List PlainEvent) (ls ks : List Level) → ends_stream x.kind ≡ b → Open ls
    → NonEmpty ls → behind_event x.kind ls ≡ Some ks → (NonEmpty ks → ends_in es ≡ true) → (b || ends_in es) ≡ true
ended_by true x es ls ks is p some first rest = refl
ended_by false x es ls ks is p some first rest = rest (kind_leaves x.kind ls ks p some is first)

-- what closes an open stream holds its end
closed_by_end : (es : List PlainEvent) (ls : List Level) → Open ls → NonEmpty ls → behind_events es ls ≡ Some []
    → ends_in es ≡ true
closed_by_end [] ls p some e = absurd (same_levels ls [] e some)
closed_by_end (x ∷ es) ls p some e =
    let s = split x es ls [] e in
    ended_by (ends_stream x.kind) x es ls s.behind refl p some s.first
    (λ more. closed_by_end es s.behind (event_keeps x.kind ls s.behind p s.first) more s.rest)

base_some : (stage : DocumentStage) (fs : List Frame) → fs ≡ [] → NonEmpty (levels_of fs stage)
base_some BehindRoot fs e = subst (λ gs. NonEmpty (levels_of gs BehindRoot)) (sym e) tt
base_some stage fs e = subst (λ gs. NonEmpty (levels_of gs stage)) (sym e) tt

levels_some : (fs : List Frame) (stage : DocumentStage) → NonEmpty (levels_of fs stage)
levels_some [] stage = base_some stage [] refl
levels_some (Root explicit ∷ fs) stage = tt
levels_some (WithProperties q ∷ fs) stage = levels_some fs stage
levels_some (BlockSequence column indentless ∷ fs) stage = tt
levels_some (BlockMapping column pair ∷ fs) stage = tt
levels_some (FlowSequence behind_entry ∷ fs) stage = tt
levels_some (FlowMapping single pair ∷ fs) stage = tt
levels_some (FlowPair pair ∷ fs) stage = tt

-- ---- what is left

-- where all was read, the end waits among the items or the events
abbrev pub Left : StepState → Type 0
Left s = s.reading.ended ≡ true → (has_end (items s.queue) ≡ true) ⊎ (ends_in s.pending ≡ true)

abbrev pub TurnLeft : Turn → Type 0
TurnLeft (Ok x) = Left x.1
TurnLeft (Err f) = Unit {0}

lexeme_comes : (b : Bool) (l : Lexeme) (is : List Item) → is_end_kind l.kind ≡ true
    → has_end (incoming b (OfLexeme l ∷ is)) ≡ true
lexeme_comes true l is e = ap (λ c. c || has_end is) e
lexeme_comes false l is e = ap (λ c. c || has_end (incoming false is)) e

end_comes : (b : Bool) (is : List Item) → is_end is ≡ true → has_end (incoming b is) ≡ true
end_comes b [] e = absurd (cc)
end_comes b (OfLexeme l ∷ is) e = lexeme_comes b l is e
end_comes b (OfComment c ∷ is) e = absurd (cc)

read_left : (o : OptionsData) (s : StepState) (r : Read)
    → TurnLeft (behind_read r s.reading.reader >>= λ x. Ok (Some [], with_read o s x))
read_left o s (Err f) = λ e. absurd (cc)
read_left o s (Ok x) = λ e.
    inl (subst (λ q. has_end q ≡ true) (sym (pushed_items s.queue (incoming o.emit_comments x.0)))
    (end_behind (items s.queue) (incoming o.emit_comments x.0) (end_comes o.emit_comments x.0 e)))

turned_left : (b : Bool) (o : OptionsData) (s : StepState) → s.reading.ended ≡ false → s.reading.ended ≡ b
    → TurnLeft ((if b then Ok (None, s.reading) else behind_read (read o s.reading.reader) s.reading.reader)
    >>= λ x. Ok (Some [], with_read o s x))
turned_left true o s e is = absurd (cc)
turned_left false o s e is = read_left o s (read o s.reading.reader)

unless_left : (o : OptionsData) (fault : Option Fault) (s : StepState) → s.reading.ended ≡ false
    → TurnLeft (read_unless o fault s)
unfolding lex_turn
unless_left o (Some f) s e = tt
unless_left o None s e = turned_left s.reading.ended o s e refl

more_left : (o : OptionsData) (b : Bool) (s : StepState) → s.reading.ended ≡ b → Left s → TurnLeft (read_more o b s)
more_left o true s e left = left
more_left o false s e left = unless_left o s.reading.fault s e

fed_left : (ls : List Level) (s : StepState) (is : List FlaggedItem) (b : Bool)
    (r : Result (List PlainEvent × ParserState) Fault) → Open ls → NonEmpty ls
    → (s.reading.ended ≡ true → (b || has_end (items is)) ≡ true) → Fed b ls r
    → TurnLeft (r >>= λ x. Ok (Some [], with_fed s is x))
fed_left ls s is true (Ok x) p some waits f = λ ended. inr (closed_by_end x.0 ls p some f.0)
fed_left ls s is false (Ok x) p some waits f = λ ended. inl (waits ended)
fed_left ls s is true (Err g) p some waits f = tt
fed_left ls s is false (Err g) p some waits f = tt

waiting_end : (s : StepState) (i : FlaggedItem) (is : List FlaggedItem) → s.pending ≡ [] → s.queue ≡ i ∷ is
    → (has_end (items s.queue) ≡ true) ⊎ (ends_in s.pending ≡ true) → (is_end_item i.item || has_end (items is)) ≡ true
waiting_end s i is none queue (inl e) = ap (λ q. has_end (items q)) (sym queue) ∙ e
waiting_end s i is none queue (inr e) = absurd (let f : false ≡ true = ap ends_in (sym none) ∙ e in cc)

only_no_end : (is : List Item) → OnlyComments is → has_end is ≡ false
only_no_end [] only = refl
only_no_end (OfComment c ∷ is) only = only_no_end is only
only_no_end (OfLexeme l ∷ is) only = absurd only

over_left : (s : StepState) → s.pending ≡ [] → OnlyComments (items s.queue)
    → (has_end (items s.queue) ≡ true) ⊎ (ends_in s.pending ≡ true) → ⊥
over_left s none only (inl e) = let f : false ≡ true = sym (only_no_end (items s.queue) only) ∙ e in cc
over_left s none only (inr e) = let f : false ≡ true = ap ends_in (sym none) ∙ e in cc

front_left : (o : OptionsData) (ls : List Level) (s : StepState) (i : FlaggedItem) (is : List FlaggedItem)
    → s.pending ≡ [] → s.queue ≡ i ∷ is → Open ls → Along ls s → Left s → TurnLeft (feed_front o i is s)
front_left o ls s i is none queue p (along_stream all rests seats w) left =
    let ms = levels_of s.parser.frames s.parser.stage in
    fed_left ms s is (is_end_item i.item) (feed o i (line_behind s.reading is) s.parser)
    (events_keep s.pending ls ms p all) (levels_some s.parser.frames s.parser.stage)
    (λ ended. waiting_end s i is none queue (left ended)) (feed_fed o i (line_behind s.reading is) s.parser rests)
front_left o ls s i is none queue p (along_end all over only ended) left =
    absurd (over_left s none only (left ended))

goes_left : (b : Bool) (o : OptionsData) (ls : List Level) (s : StepState) (i : FlaggedItem) (is : List FlaggedItem)
    → s.pending ≡ [] → s.queue ≡ i ∷ is → Open ls → Along ls s → Left s → TurnLeft (front_turn b o i is s)
goes_left true o ls s i is none queue p a left = front_left o ls s i is none queue p a left
goes_left false o ls s i is none queue p a left = more_left o s.reading.ended s refl left

turn_left : (o : OptionsData) (ls : List Level) (es : List PlainEvent) (q : List FlaggedItem) (s : StepState)
    → s.pending ≡ es → s.queue ≡ q → Open ls → Along ls s → Left s → TurnLeft (turn_by o es q s)
turn_left o ls (e ∷ es) q s pending queue p a left = left
turn_left o ls [] [] s pending queue p a left = more_left o s.reading.ended s refl left
turn_left o ls [] (i ∷ is) s pending queue p a left =
    goes_left (may_go s.reading i is) o ls s i is pending queue p a left

pub step_left : (o : OptionsData) (ls : List Level) (s : StepState) → Open ls → Along ls s → Left s
    → TurnLeft (step_turn o s)
unfolding step_turn
step_left o ls s p a left = turn_left o ls s.pending s.queue s refl refl p a left

-- ---- many turns

abbrev AllLeft : Result (List PlainEvent × StepState) Fault → Type 0
AllLeft (Ok x) = Left x.1
AllLeft (Err f) = Unit {0}

front_all : (front : List PlainEvent) (r : Result (List PlainEvent × StepState) Fault) → AllLeft r
    → AllLeft (with_front front r)
front_all front (Ok x) left = left
front_all front (Err f) left = tt

then_left : (o : OptionsData) (ls : List Level) (n : ℕ) (r : Turn)
    → ((s : StepState) → Along ls s → Left s → AllLeft (turns (step_turn o) n s)) → TurnAlong ls r → TurnLeft r
    → AllLeft (r >>= λ x. then_more (turns (step_turn o) n) x.0 x.1)
then_left o ls n (Err f) more a left = tt
then_left o ls n (Ok (None, t)) more a left = left
then_left o ls n (Ok (Some y, t)) more a left = front_all y (turns (step_turn o) n t) (more t a left)

turns_left : (o : OptionsData) (ls : List Level) (n : ℕ) (s : StepState) → Open ls → Along ls s → Left s
    → AllLeft (turns (step_turn o) n s)
unfolding turns
turns_left o ls zero s p a left = left
turns_left o ls (suc n) s p a left =
    then_left o ls n (step_turn o s) (λ t b more. turns_left o ls n t p b more) (step_along o ls s a)
    (step_left o ls s p a left)

-- a turn of which nothing comes leaves an event waiting
quiet : (o : OptionsData) (es : List PlainEvent) (q : List FlaggedItem) (s u : StepState) → s.pending ≡ es
    → s.queue ≡ q → turn_by o es q s ≡ Ok (None, u) → u.pending ≡ [] → Left s → ⊥
quiet o (e ∷ es) q s u pending queue is none left =
    let pair : ◌≡◌ {A = Option (List PlainEvent) × StepState} (None, s) (None, u) = cc in
    let same : s ≡ u = second_same (None, s) (None, u) pair in
    let f : e ∷ es ≡ [] = sym pending ∙ ap (λ (v : StepState). v.pending) same ∙ none in cc
quiet o [] q s u pending queue is none left = by (left x.1)
  where
    x : (q ≡ []) × (s.reading.ended ≡ true)
    x = queue_none o q s u is

    by : (has_end (items s.queue) ≡ true) ⊎ (ends_in s.pending ≡ true) → ⊥
    by (inl e) = let f : false ≡ true = ap (λ r. has_end (items r)) (sym (queue ∙ x.0)) ∙ e in cc
    by (inr e) = let f : false ≡ true = ap ends_in (sym pending) ∙ e in cc

record Behind (r : Result (List PlainEvent × StepState) Fault) (t : StepState) : Type 0 where
  given : List PlainEvent
  is : r ≡ Ok (given, t)

behind_front : (front given : List PlainEvent) (r : Result (List PlainEvent × StepState) Fault) (t : StepState)
    → with_front front r ≡ Ok (given, t) → Behind r t
behind_front front given (Ok x) t e =
    let pair : (front ++ x.0, x.1) ≡ (given, t) = cc in
    let same : x.1 ≡ t = second_same (front ++ x.0, x.1) (given, t) pair in
    record { given = x.0; is = ap (λ (u : StepState). Ok (x.0, u)) same }
behind_front front given (Err f) t e = absurd (cc)

abbrev SomeTurns : OptionsData → ℕ → StepState → Type 0
SomeTurns o n s =
    (given : List PlainEvent) (t : StepState) → turns (step_turn o) n s ≡ Ok (given, t) → t.pending ≡ [] → ⊥

some_then : (o : OptionsData) (ls : List Level) (n : ℕ) (s : StepState) (r : Turn) → step_turn o s ≡ r
    → step_size s < suc n → Left s → TurnAlong ls r → TurnLeft r
    → ((u : StepState) → step_size u < n → Along ls u → Left u → SomeTurns o n u) → (given : List PlainEvent)
    (t : StepState) → (r >>= λ x. then_more (turns (step_turn o) n) x.0 x.1) ≡ Ok (given, t) → t.pending ≡ [] → ⊥
unfolding step_turn
some_then o ls n s (Err f) is less left a b more given t e none = cc
some_then o ls n s (Ok (None, u)) is less left a b more given t e none =
    let pair : ◌≡◌ {A = List PlainEvent × StepState} ([], u) (given, t) = cc in
    let same : u ≡ t = second_same ([], u) (given, t) pair in
    quiet o s.pending s.queue s u refl refl is (ap (λ (v : StepState). v.pending) same ∙ none) left
some_then o ls n s (Ok (Some y, u)) is less left a b more given t e none =
    let x = behind_front y given (turns (step_turn o) n u) t e in
    let shorter = step_turn-Shortens o s u y is in
    more u (omega (arith, shorter, less)) a b x.given t x.is none

some_turns : (o : OptionsData) (ls : List Level) (n : ℕ) (s : StepState) → step_size s < n → Open ls → Along ls s
    → Left s → SomeTurns o n s
unfolding turns
some_turns o ls zero s less p a left given t e none = absurd (omega (arith, less))
some_turns o ls (suc n) s less p a left given t e none =
    some_then o ls n s (step_turn o s) refl less left (step_along o ls s a) (step_left o ls s p a left)
    (λ u small b more. some_turns o ls n u small p b more) given t e none

-- ---- one event

none_first : (e : PlainEvent) (s t : StepState)
    → ◌≡◌ {A = Result (Option PlainEvent × StepState) Fault} (Ok (Some e, s)) (Ok (None, t)) → ⊥
none_first e s t is =
    let pair : ◌≡◌ {A = Option PlainEvent × StepState} (Some e, s) (None, t) = cc in
    let f : Some e ≡ None = first_same (Some e, s) (None, t) pair in cc

pending_none : (es : List PlainEvent) (u t : StepState)
    → ◌≡◌ {A = Result (Option PlainEvent × StepState) Fault} (Ok (first_pending es u)) (Ok (None, t)) → es ≡ []
pending_none [] u t e = refl
pending_none (x ∷ es) u t e = absurd (none_first x (with_pending es u) t e)

settled_some : (r : Result (List PlainEvent × StepState) Fault) (t : StepState)
    → ((given : List PlainEvent) (u : StepState) → r ≡ Ok (given, u) → u.pending ≡ [] → ⊥)
    → (r >>= λ x. Ok (first_pending x.1.pending x.1)) ≡ Ok (None, t) → ⊥
settled_some (Ok x) t never e = never x.0 x.1 refl (pending_none x.1.pending x.1 t e)
settled_some (Err f) t never e = cc

some_along : (o : OptionsData) (ls : List Level) (s t : StepState) → Open ls → Along ls s → Left s
    → next_event o s ≡ Ok (None, t) → ⊥
unfolding next_event pieces
some_along o ls s t p a left is =
    settled_some (turns (step_turn o) (suc (step_size s)) s) t
    (some_turns o ls (suc (step_size s)) s (omega arith) p a left) is

pub some_event : (o : OptionsData) (s t : StepState) → Known s → Left s → next_event o s ≡ Ok (None, t) → ⊥
some_event o s t (known_along {ls = ls} p a) left is = some_along o ls s t p a left is
some_event o s t (known_start e es kind waits a) left is =
    none_first e (with_pending es s) t
    (sym (ap (λ xs. next_event o (with_pending xs s)) waits ∙ waits_next o s e es) ∙ is)

abbrev pub NextLeft : Result (Option PlainEvent × StepState) Fault → Type 0
NextLeft (Ok (Some e, t)) = ends_stream e.kind ≡ false → Left t
NextLeft (Ok (None, t)) = Unit {0}
NextLeft (Err f) = Unit {0}

pub rest_left : (e : PlainEvent) (es : List PlainEvent) (u : StepState) → u.pending ≡ e ∷ es → Left u
    → ends_stream e.kind ≡ false → Left (with_pending es u)
rest_left e es u waits left other = λ ended. by (left ended)
  where
    by : (has_end (items u.queue) ≡ true) ⊎ (ends_in u.pending ≡ true)
        → (has_end (items u.queue) ≡ true) ⊎ (ends_in es ≡ true)
    by (inl x) = inl x
    by (inr x) = inr (ap (λ b. b || ends_in es) (sym other) ∙ ap ends_in (sym waits) ∙ x)

first_left : (es : List PlainEvent) (u : StepState) → u.pending ≡ es → Left u → NextLeft (Ok (first_pending es u))
first_left [] u waits left = tt
first_left (e ∷ es) u waits left = rest_left e es u waits left

behind_settled : (r : Result (List PlainEvent × StepState) Fault) → AllLeft r
    → NextLeft (r >>= λ x. Ok (first_pending x.1.pending x.1))
behind_settled (Ok x) left = first_left x.1.pending x.1 refl left
behind_settled (Err f) left = tt

next_along_left : (o : OptionsData) (ls : List Level) (s : StepState) → Open ls → Along ls s → Left s
    → NextLeft (next_event o s)
unfolding next_event pieces
next_along_left o ls s p a left =
    behind_settled (turns (step_turn o) (suc (step_size s)) s) (turns_left o ls (suc (step_size s)) s p a left)

pub next_left : (o : OptionsData) (s : StepState) → Known s → Left s → NextLeft (next_event o s)
next_left o s (known_along {ls = ls} p a) left = next_along_left o ls s p a left
next_left o s (known_start e es kind waits a) left =
    subst NextLeft (sym (ap (λ xs. next_event o (with_pending xs s)) waits ∙ waits_next o s e es))
    (rest_left e es s waits left)

-- ---- where a call fails

failing_then : (ls : List Level) (later : StepState → StepState) (s : StepState) (r : Turn) → Left s
    → ((t : StepState) → Along ls t → Left t → Left (later t)) → TurnAlong ls r → TurnLeft r
    → Left (failing_by later s r)
failing_then ls later s (Ok (Some y, t)) left more a b = more t a b
failing_then ls later s (Ok (None, t)) left more a b = left
failing_then ls later s (Err f) left more a b = left

failing_along_left : (o : OptionsData) (ls : List Level) (n : ℕ) (s : StepState) → Open ls → Along ls s → Left s
    → Left (failing_in o n s)
failing_along_left o ls zero s p a left = left
failing_along_left o ls (suc n) s p a left =
    failing_then ls (failing_in o n) s (step_turn o s) left (λ t b more. failing_along_left o ls n t p b more)
    (step_along o ls s a) (step_left o ls s p a left)

pub failing_left : (o : OptionsData) (s : StepState) → Known s → Left s → Left (failing o s)
failing_left o s (known_along {ls = ls} p a) left = failing_along_left o ls (suc (step_size s)) s p a left
failing_left o s (known_start e es kind waits a) left =
    subst Left (sym (failing_waits o (suc (step_size s)) s e es waits)) left
