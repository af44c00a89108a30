-- Turns keep anchors' events behind their nodes', and nothing is given behind the end of the stream.
use Rattle.std.proofs.Common.{◌≡◌, ◌⊎◌, inl, inr, ℕ, zero, suc, Bool, true, false, List, [], ◌∷◌, ◌++◌, Option}
use Rattle.std.proofs.Common.{Some, None, Result, Ok, Err, refl, sym, ap, subst, ◌∙◌, arith}
use Rattle.std.proofs.lemmas.Bool.{or_parts}
use Rattle.std.specs.Prelude.{if◌then◌else◌}
use Rattle.granit_error.specs.OptionsData.{OptionsData}
use Rattle.granit_lexemes.proofs.PieceLemmas.{pieces_done}
use Rattle.granit_lexemes.specs.Here.{Here, mark_of}
use Rattle.granit_lexemes.specs.Lexeme.{Lexeme, Item, OfLexeme, OfComment}
use Rattle.granit_lexemes.specs.Outcome.{Fault, ◌>>=◌}
use Rattle.granit_lexemes.specs.Pieces.{with_front, then_more, turns, pieces}
use Rattle.granit_lexemes.specs.PlainEvent.{PlainEvent, EventKind, event_on, StreamStart, StreamEnd, Anchor, Comment}
use Rattle.granit_machine.specs.Frames.{BehindRoot, DocumentStage, Frame, ParserState, WithProperties}
use Rattle.granit_machine.specs.Laid.{Laid}
use Rattle.granit_machine.specs.Lexing.{FlaggedItem}
use Rattle.granit_machine.specs.Parser.{feed}
use Rattle.granit_machine.specs.Reader.{behind_read, is_end, is_end_kind, lex_turn, read}
use Rattle.granit_machine.specs.ReaderState.{Read}
use Rattle.granit_ids.proofs.AnchorOrder.{Follow, follow_anywhere, is_anchor, is_node}
use Rattle.granit_ids.proofs.EndFeeds.{EndsFed, EndsStream, feed_ends, Untailed}
use Rattle.granit_ids.proofs.EndReads.{Alone, read_end}
use Rattle.granit_ids.proofs.IdLaws.{NoBounds}
use Rattle.granit_ids.proofs.IdLemmas.{Num}
use Rattle.granit_ids.proofs.IdSteps.{FedNum, feed_num}
use Rattle.granit_recovery.proofs.LevelLaws.{event_keeps, in_stream, Open, split, stream_leaves}
use Rattle.granit_ids.proofs.OneLaws.{Inside, node_inside, strict_first}
use Rattle.granit_recovery.proofs.RecoveryLaws.{first_same, second_same}
use Rattle.granit_recovery.proofs.RestLaws.{done_turn}
use Rattle.granit_recovery.proofs.SkipLaws.{event_in}
use Rattle.granit_recovery.proofs.TurnLaws.{Along, along_end, along_stream, next_along, NextAlong, none_behind}
use Rattle.granit_recovery.proofs.TurnLaws.{read_waits, Told, Waits}
use Rattle.granit_ids.specs.Ids.{counting_from}
use Rattle.granit_ids.specs.OneDocument.{BehindStart, strict_events, StandStrictly}
use Rattle.granit_restart.proofs.MarkLaws.{items, pushed_items}
use Rattle.granit_restart.specs.Skipping.{with_pending}
use Rattle.granit_steps.proofs.Futures.{pushed_nil}
use Rattle.granit_steps.proofs.KeyReads.{possibles, Items, Lexed, read_keys}
use Rattle.granit_streams.proofs.Nesting.{base_levels, levels_of}
use Rattle.granit_streams.proofs.StreamLaws.{OnlyComments, has_end}
use Rattle.granit_streams.proofs.StreamNesting.{is_end_item}
use Rattle.granit_steps.specs.Levels.{and_then, behind_event, behind_events, InStream, Level}
use Rattle.granit_steps.specs.Steps.{feed_front, first_pending, front_turn, incoming, line_behind, may_go, next_event}
use Rattle.granit_steps.specs.Steps.{read_more, read_unless, settle, step_size, step_turn, StepState, Turn, turn_by}
use Rattle.granit_steps.specs.Steps.{with_fed, with_read}
use Rattle.granit_steps.specs.Told.{GivesEvents, gives_end, gives_event, gives_fault}

-- ---- the end among items that wait

-- the end was read and waits last, without a comment; or none waits
abbrev pub Last : (ended : Bool) → List Item → Type 0
Last true [] = ⊥
Last true (i ∷ is) =
    ((is_end_item i ≡ true) × (is ≡ []) × Untailed i) ⊎ ((is_end_item i ≡ false) × Last true is)
Last false is = has_end is ≡ false

pub last_behind : (ended : Bool) (xs ys : List Item) → has_end xs ≡ false → Last ended ys → Last ended (xs ++ ys)
last_behind true [] ys e l = l
last_behind true (x ∷ xs) ys e l =
    let parts = or_parts (is_end_item x) (has_end xs) e in inr (parts.0, last_behind true xs ys parts.1 l)
last_behind false xs ys e l = none_behind xs ys e l

end_comes : (b : Bool) (l : Lexeme) → is_end_kind l.kind ≡ true → l.tail ≡ None
    → Last true (incoming b (OfLexeme l ∷ []))
end_comes true l e none = inl (e, refl, none)
end_comes false l e none = inl (e, refl, refl)

pub read_last : (b : Bool) (number : ℕ) (before : List ℕ) (is : List Item) (t : Laid) → Items number before is t
    → (is_end is ≡ true → Alone is) → Last (is_end is) (incoming b is)
read_last b number before is t p alone = by (is_end is) refl
  where
    by : (v : Bool) → is_end is ≡ v → Last v (incoming b is)
    by false e = subst (λ v. Waits v (incoming b is)) e (read_waits b number before is t p)
    by true e =
        let a = alone e in
        subst (λ is. Last true (incoming b is)) (sym a.are)
        (end_comes b a.lexeme (sym (ap is_end a.are) ∙ e) a.untailed)

-- ---- a state

-- nothing waits, or the end of the stream does
abbrev Closed : List PlainEvent → Type 0
Closed es = (es ≡ []) ⊎ EndsStream es

closed_rest : (e : PlainEvent) (es : List PlainEvent) → Closed (e ∷ es) → Closed es
closed_rest e es (inl none) = absurd (cc)
closed_rest e es (inr x) = by x.front x.are
  where
    by : (front : List PlainEvent) → e ∷ es ≡ front ++ x.end ∷ [] → Closed es
    by [] are = inl (let f : es ≡ [] = cc in f)
    by (f ∷ fs) are =
        let same : es ≡ fs ++ x.end ∷ [] = cc in
        inr (record { front = fs; end = x.end; are = same; kind = x.kind })

-- the end wasn't fed yet, or it is the last of all that was
data EndWaits (s : StepState) : Type 0 where
  still : Last s.reading.ended (items s.queue) → EndWaits s
  passed : s.queue ≡ [] → s.reading.ended ≡ true → Closed s.pending → EndWaits s

-- behind a node's first event, or another
record Tidy (behind : Bool) (s : StepState) : Type 0 where
  num : Num NoBounds s.parser
  follow : Follow behind s.pending
  ends : EndWaits s

abbrev TurnTidy : Bool → Turn → Type 0
TurnTidy behind (Ok x) = Tidy behind x.1
TurnTidy behind (Err f) = Unit {0}

-- ---- an item is fed

pub items_none : (q : List FlaggedItem) → items q ≡ [] → q ≡ []
items_none [] e = refl
items_none (i ∷ is) e = absurd (cc)

last_fed : (ended : Bool) (s : StepState) (i : FlaggedItem) (is : List FlaggedItem) (x : List PlainEvent × ParserState)
    → s.reading.ended ≡ ended → (is_end_item i.item ≡ true → Untailed i.item → EndsStream x.0)
    → Last ended (i.item ∷ items is) → EndWaits (with_fed s is x)
last_fed true s i is x e ends (inl l) = passed (items_none is l.1) e (inr (ends l.0 l.2))
last_fed true s i is x e ends (inr l) = still (subst (λ b. Last b (items is)) (sym e) l.1)
last_fed false s i is x e ends l =
    still (subst (λ b. Last b (items is)) (sym e) (or_parts (is_end_item i.item) (has_end (items is)) l).1)

waits_fed : (s : StepState) (i : FlaggedItem) (is : List FlaggedItem) (x : List PlainEvent × ParserState)
    → s.queue ≡ i ∷ is → (is_end_item i.item ≡ true → Untailed i.item → EndsStream x.0) → EndWaits s
    → EndWaits (with_fed s is x)
waits_fed s i is x queue ends (still l) =
    last_fed s.reading.ended s i is x refl ends (subst (λ q. Last s.reading.ended (items q)) queue l)
waits_fed s i is x queue ends (passed none e c) = absurd (let f = sym queue ∙ none in cc)

fed_tidy : (behind : Bool) (s : StepState) (i : FlaggedItem) (is : List FlaggedItem)
    (r : Result (List PlainEvent × ParserState) Fault) → s.queue ≡ i ∷ is → FedNum NoBounds r
    → (is_end_item i.item ≡ true → Untailed i.item → EndsFed r) → EndWaits s
    → TurnTidy behind (r >>= λ x. Ok (Some [], with_fed s is x))
fed_tidy behind s i is (Ok x) queue f ends w =
    record { num = f.1; follow = follow_anywhere behind x.0 f.2; ends = waits_fed s i is x queue ends w }
fed_tidy behind s i is (Err g) queue f ends w = tt

front_tidy : (o : OptionsData) (behind : Bool) (s : StepState) (i : FlaggedItem) (is : List FlaggedItem)
    → s.queue ≡ i ∷ is → Tidy behind s → TurnTidy behind (feed_front o i is s)
front_tidy o behind s i is queue x =
    fed_tidy behind s i is (feed o i (line_behind s.reading is) s.parser) queue
    (feed_num NoBounds o i (line_behind s.reading is) s.parser x.num)
    (feed_ends o i (line_behind s.reading is) s.parser) x.ends

-- ---- a read

-- no end waits where none was read
none_waits : (s : StepState) → s.reading.ended ≡ false → EndWaits s → has_end (items s.queue) ≡ false
none_waits s e (still l) = subst (λ b. Last b (items s.queue)) e l
none_waits s e (passed none ended c) = absurd (cc)

read_tidy : (o : OptionsData) (behind : Bool) (s : StepState) (r : Read) → read o s.reading.reader ≡ r
    → Tidy behind s → s.reading.ended ≡ false
    → Lexed s.reading.reader.laid.number (possibles s.reading.reader.laid) r
    → TurnTidy behind (behind_read r s.reading.reader >>= λ x. Ok (Some [], with_read o s x))
read_tidy o behind s (Err f) is x e lexed = record {
  num = x.num;
  follow = x.follow;
  ends = still (ap (λ q. has_end (items q)) (pushed_nil o.emit_comments s.queue) ∙ none_waits s e x.ends);
}
read_tidy o behind s (Ok y) is x e lexed =
    let more = incoming o.emit_comments y.0 in
    record {
      num = x.num;
      follow = x.follow;
      ends = still (subst (Last (is_end y.0)) (sym (pushed_items s.queue more))
          (last_behind (is_end y.0) (items s.queue) more (none_waits s e x.ends)
          (read_last o.emit_comments s.reading.reader.laid.number (possibles s.reading.reader.laid) y.0 y.1.laid lexed
          (read_end o s.reading.reader y.1 y.0 is))));
    }

turned_tidy : (b : Bool) (o : OptionsData) (behind : Bool) (s : StepState) → Tidy behind s → s.reading.ended ≡ false
    → s.reading.ended ≡ b
    → TurnTidy behind ((if b then Ok (None, s.reading)
    else behind_read (read o s.reading.reader) s.reading.reader) >>= λ x. Ok (Some [], with_read o s x))
turned_tidy true o behind s x e is = absurd (cc)
turned_tidy false o behind s x e is =
    read_tidy o behind s (read o s.reading.reader) refl x e (read_keys o s.reading.reader)

unless_tidy : (o : OptionsData) (behind : Bool) (fault : Option Fault) (s : StepState) → Tidy behind s
    → s.reading.ended ≡ false → TurnTidy behind (read_unless o fault s)
unfolding lex_turn
unless_tidy o behind (Some f) s x e = tt
unless_tidy o behind None s x e = turned_tidy s.reading.ended o behind s x e refl

more_tidy : (o : OptionsData) (behind b : Bool) (s : StepState) → s.reading.ended ≡ b → Tidy behind s
    → TurnTidy behind (read_more o b s)
more_tidy o behind true s e x = x
more_tidy o behind false s e x = unless_tidy o behind s.reading.fault s x e

-- ---- a turn

goes_tidy : (b : Bool) (o : OptionsData) (behind : Bool) (s : StepState) (i : FlaggedItem) (is : List FlaggedItem)
    → s.queue ≡ i ∷ is → Tidy behind s → TurnTidy behind (front_turn b o i is s)
goes_tidy true o behind s i is queue x = front_tidy o behind s i is queue x
goes_tidy false o behind s i is queue x = more_tidy o behind s.reading.ended s refl x

turn_tidy : (o : OptionsData) (behind : Bool) (es : List PlainEvent) (q : List FlaggedItem) (s : StepState)
    → s.queue ≡ q → Tidy behind s → TurnTidy behind (turn_by o es q s)
turn_tidy o behind (e ∷ es) q s queue x = x
turn_tidy o behind [] [] s queue x = more_tidy o behind s.reading.ended s refl x
turn_tidy o behind [] (i ∷ is) s queue x = goes_tidy (may_go s.reading i is) o behind s i is queue x

step_tidy : (o : OptionsData) (behind : Bool) (s : StepState) → Tidy behind s → TurnTidy behind (step_turn o s)
unfolding step_turn
step_tidy o behind s x = turn_tidy o behind s.pending s.queue s refl x

-- ---- one event

abbrev AllTidy : Bool → Result (List PlainEvent × StepState) Fault → Type 0
AllTidy behind (Ok x) = Tidy behind x.1
AllTidy behind (Err f) = Unit {0}

front_all : (behind : Bool) (front : List PlainEvent) (r : Result (List PlainEvent × StepState) Fault)
    → AllTidy behind r → AllTidy behind (with_front front r)
front_all behind front (Ok x) y = y
front_all behind front (Err f) y = tt

then_tidy : (o : OptionsData) (behind : Bool) (n : ℕ) (r : Turn)
    → ((s : StepState) → Tidy behind s → AllTidy behind (turns (step_turn o) n s)) → TurnTidy behind r
    → AllTidy behind (r >>= λ x. then_more (turns (step_turn o) n) x.0 x.1)
then_tidy o behind n (Err f) more x = tt
then_tidy o behind n (Ok (None, t)) more x = x
then_tidy o behind n (Ok (Some y, t)) more x = front_all behind y (turns (step_turn o) n t) (more t x)

turns_tidy : (o : OptionsData) (behind : Bool) (n : ℕ) (s : StepState) → Tidy behind s
    → AllTidy behind (turns (step_turn o) n s)
unfolding turns
turns_tidy o behind zero s x = x
turns_tidy o behind (suc n) s x =
    then_tidy o behind n (step_turn o s) (turns_tidy o behind n) (step_tidy o behind s x)

settle_tidy : (o : OptionsData) (behind : Bool) (s : StepState) → Tidy behind s → AllTidy behind (settle o s)
unfolding pieces
settle_tidy o behind s x = turns_tidy o behind _ s x

abbrev NextTidy : Bool → Result (Option PlainEvent × StepState) Fault → Type 0
NextTidy behind (Ok (Some e, t)) = (is_anchor e.kind ≡ true → behind ≡ true) × Tidy (is_node e.kind) t
NextTidy behind (Ok (None, t)) = Tidy behind t
NextTidy behind (Err f) = Unit {0}

waits_rest : (e : PlainEvent) (es : List PlainEvent) (s : StepState) → s.pending ≡ e ∷ es → EndWaits s
    → EndWaits (with_pending es s)
waits_rest e es s is (still l) = still l
waits_rest e es s is (passed queue ended c) = passed queue ended (closed_rest e es (subst Closed is c))

first_tidy : (behind : Bool) (es : List PlainEvent) (s : StepState) → s.pending ≡ es → Tidy behind s
    → NextTidy behind (Ok (first_pending es s))
first_tidy behind [] s is x = x
first_tidy behind (e ∷ es) s is x =
    let f : Follow behind (e ∷ es) = subst (Follow behind) is x.follow in
    (f.0, record { num = x.num; follow = f.1; ends = waits_rest e es s is x.ends })

next_by : (behind : Bool) (r : Result (List PlainEvent × StepState) Fault) → AllTidy behind r
    → NextTidy behind (r >>= λ x. Ok (first_pending x.1.pending x.1))
next_by behind (Ok x) y = first_tidy behind x.1.pending x.1 refl y
next_by behind (Err f) y = tt

next_tidy : (o : OptionsData) (behind : Bool) (s : StepState) → Tidy behind s → NextTidy behind (next_event o s)
unfolding next_event
next_tidy o behind s x = next_by behind (settle o s) (settle_tidy o behind s x)

-- ---- nothing comes behind the end of the stream

kind_none : (kind : EventKind) (ks : List Level) → behind_event kind [] ≡ Some ks → ks ≡ []
kind_none (Anchor n name) ks e = cc
kind_none (Comment text placement) ks e = cc
kind_none kind ks e = absurd (cc)

left_none : (es : List PlainEvent) (ls ms : List Level) → ls ≡ [] → behind_events es ls ≡ Some ms → ms ≡ []
left_none [] ls ms none e = let f : ls ≡ ms = cc in sym f ∙ none
left_none (x ∷ es) ls ms none e =
    let s = split x es ls ms e in
    left_none es s.behind ms
    (kind_none x.kind s.behind (ap (λ ls. behind_event x.kind ls) (sym none) ∙ s.first)) s.rest

base_some : (stage : DocumentStage) → base_levels stage ≡ [] → ⊥
base_some BehindRoot e = cc
base_some stage e = cc

levels_some : (fs : List Frame) (stage : DocumentStage) → levels_of fs stage ≡ [] → ⊥
levels_some [] stage e = base_some stage e
levels_some (WithProperties q ∷ fs) stage e = levels_some fs stage e
levels_some (f ∷ fs) stage e = cc

-- the end of the stream isn't told behind it
end_never : (front : List PlainEvent) (end : PlainEvent) (ls ms : List Level) → ls ≡ [] → end.kind ≡ StreamEnd
    → behind_events (front ++ end ∷ []) ls ≡ Some ms → ⊥
end_never [] end ls ms none kind e =
    let f = ap (λ ls. behind_event end.kind ls) (sym none) in
    let g = ap (λ k. behind_event k []) (sym kind) in
    let h : and_then None (behind_events []) ≡ Some ms =
    ap (λ r. and_then r (behind_events [])) (g ∙ f) ∙ e in cc
end_never (x ∷ front) end ls ms none kind e =
    let s = split x (front ++ end ∷ []) ls ms e in
    end_never front end s.behind ms
    (kind_none x.kind s.behind (ap (λ ls. behind_event x.kind ls) (sym none) ∙ s.first)) kind s.rest

closed_none : (es : List PlainEvent) (ms : List Level) → behind_events es [] ≡ Some ms → Closed es → es ≡ []
closed_none es ms e (inl none) = none
closed_none es ms e (inr x) =
    absurd (end_never x.front x.end [] ms refl x.kind (ap (λ es. behind_events es []) (sym x.are) ∙ e))

comments_last : (is : List Item) → OnlyComments is → Last true is → ⊥
comments_last [] only l = l
comments_last (OfLexeme x ∷ is) only l = only
comments_last (OfComment c ∷ is) only (inl l) = let f = l.0 in cc
comments_last (OfComment c ∷ is) only (inr l) = comments_last is only l.1

-- nothing is left behind the end of the stream
record AllGiven (s : StepState) : Type 0 where
  pending : s.pending ≡ []
  queue : s.queue ≡ []
  ended : s.reading.ended ≡ true

over_left : (s : StepState) → behind_events s.pending [] ≡ Some [] → OnlyComments (items s.queue)
    → s.reading.ended ≡ true → EndWaits s → AllGiven s
over_left s left only ended (still l) =
    absurd (comments_last (items s.queue) only (subst (λ b. Last b (items s.queue)) ended l))
over_left s left only ended (passed queue end c) =
    record { pending = closed_none s.pending [] left c; queue = queue; ended = end }

none_left : (s : StepState) → Along [] s → EndWaits s → AllGiven s
none_left s (along_stream left rests seats waits) w =
    absurd (levels_some s.parser.frames s.parser.stage (left_none s.pending [] _ refl left))
none_left s (along_end left over only ended) w = over_left s left only ended w

given_next : (o : OptionsData) (s : StepState) → AllGiven s → next_event o s ≡ Ok (None, s)
unfolding next_event
given_next o s g =
    ap (λ r. r >>= λ x. Ok (first_pending x.1.pending x.1))
    (pieces_done step_size (step_turn o) s s (done_turn o s g.pending g.queue g.ended))
    ∙ ap (λ es. Ok (first_pending es s)) g.pending

silent : (o : OptionsData) (s t : StepState) (e : PlainEvent) → Along [] s → EndWaits s
    → next_event o s ≡ Ok (Some e, t) → ⊥
silent o s t e a w is =
    let f : None ≡ Some e = ap event_in (sym (given_next o s (none_left s a w)) ∙ is) in cc

-- ---- all events

record Strict (es : List PlainEvent) (ls : List Level) : Type 0 where
  left : List Level
  all : strict_events es ls ≡ Some left

given_strict : (o : OptionsData) (s : StepState) (es : List PlainEvent) (f : Option Fault) (ls : List Level)
    (behind : Bool) → Along ls s → Open ls → Tidy behind s → (behind ≡ true → Inside ls) → GivesEvents o s es f
    → Strict es ls
given_strict o s es f ls behind a p x node (gives_end is) = record { left = ls; all = refl }
given_strict o s es f ls behind a p x node (gives_fault is) = record { left = ls; all = refl }
given_strict o s es f ls behind a p x node (gives_event {after = after} {e = e} {es = rest} is more) =
    let n : Told ls e after = subst (NextAlong ls) is (next_along o ls s a) in
    let t : NextTidy behind (Ok (Some e, after)) = subst (NextTidy behind) is (next_tidy o behind s x) in
    let first = strict_first e.kind ls n.behind n.first
    (λ none. silent o s after e (subst (λ ls. Along ls s) none a) x.ends is) (λ anchor. node (t.0 anchor)) in
    let r = given_strict o after rest f n.behind (is_node e.kind) n.along (event_keeps e.kind ls n.behind p n.first)
    t.1 (λ y. node_inside e.kind ls n.behind y n.first) more in
    record { left = r.left; all = ap (λ y. and_then y (strict_events rest)) first ∙ r.all }

-- ---- from the start on

abbrev Begun : ℕ → Here → StepState
Begun count h = with_pending [] (counting_from count h)

started : (o : OptionsData) (count : ℕ) (h : Here)
    → next_event o (counting_from count h) ≡ Ok (Some (event_on StreamStart (mark_of h)), Begun count h)
unfolding next_event pieces turns step_turn
started o count h = refl

begun_along : (count : ℕ) (h : Here) → Along (InStream ∷ []) (Begun count h)
begun_along count h =
    along_stream refl (record { given = refl; fine = tt; held = tt }) (record { calm = tt; sits = tt }) refl

begun_tidy : (count : ℕ) (h : Here) → Tidy false (Begun count h)
begun_tidy count h = record {
  num = record { least = omega arith; low = omega arith; given = tt; frames = tt; held = tt; follow = tt };
  follow = tt;
  ends = still refl;
}

pub begun_strict : (o : OptionsData) (h : Here) (count : ℕ) (es : List PlainEvent) (f : Option Fault)
    → GivesEvents o (counting_from count h) es f → StandStrictly es
begun_strict o h count es f (gives_end is) = tt
begun_strict o h count es f (gives_fault is) = tt
begun_strict o h count es f (gives_event {after = after} {e = e} {es = rest} is more) =
    let same = sym (started o count h) ∙ is in
    let pair : ◌≡◌ {A = Option PlainEvent × StepState} (Some (event_on StreamStart (mark_of h)), Begun count h)
    (Some e, after) = cc in
    let event : event_on StreamStart (mark_of h) ≡ e = let f = first_same _ _ pair in cc in
    let state = second_same _ _ pair in
    let r = given_strict o (Begun count h) rest f (InStream ∷ []) false (begun_along count h) in_stream
    (begun_tidy count h) (λ y. absurd (cc)) (subst (λ s. GivesEvents o s rest f) (sym state) more) in
    subst (λ (x : PlainEvent). BehindStart x.kind rest) event (r.left, r.all)

-- ---- the end of the stream is the last that is told

ends_told : (o : OptionsData) (s : StepState) (f : Option Fault) (rest : List PlainEvent) → AllGiven s
    → GivesEvents o s rest f → (rest ≡ []) × (f ≡ None)
ends_told o s f rest g (gives_end is) = (refl, refl)
ends_told o s f rest g (gives_fault is) = absurd (let e = sym (given_next o s g) ∙ is in cc)
ends_told o s f rest g (gives_event {after = after} {e = e} is more) =
    absurd (let x : None ≡ Some e = ap event_in (sym (given_next o s g) ∙ is) in cc)

-- nothing comes behind it
none_behind_end : (o : OptionsData) (s : StepState) (f : Option Fault) (ls : List Level) (behind : Bool)
    (front rest : List PlainEvent) (end : PlainEvent) → Along ls s → Open ls → Tidy behind s → end.kind ≡ StreamEnd
    → GivesEvents o s (front ++ end ∷ rest) f → (rest ≡ []) × (f ≡ None)
none_behind_end o s f ls behind [] rest end a p x kind (gives_event {after = after} is more) =
    let n : Told ls end after = subst (NextAlong ls) is (next_along o ls s a) in
    let t : NextTidy behind (Ok (Some end, after)) = subst (NextTidy behind) is (next_tidy o behind s x) in
    let left : behind_event StreamEnd ls ≡ Some n.behind =
    ap (λ k. behind_event k ls) (sym kind) ∙ n.first in
    let none : n.behind ≡ [] = (stream_leaves ls n.behind p left).1 in
    ends_told o after f rest (none_left after (subst (λ ls. Along ls after) none n.along) t.1.ends) more
none_behind_end o s f ls behind (e ∷ front) rest end a p x kind (gives_event {after = after} is more) =
    let n : Told ls e after = subst (NextAlong ls) is (next_along o ls s a) in
    let t : NextTidy behind (Ok (Some e, after)) = subst (NextTidy behind) is (next_tidy o behind s x) in
    none_behind_end o after f n.behind (is_node e.kind) front rest end n.along
    (event_keeps e.kind ls n.behind p n.first) t.1 kind more

pub begun_ends : (o : OptionsData) (h : Here) (count : ℕ) (start end : PlainEvent) (front rest : List PlainEvent)
    (f : Option Fault) → end.kind ≡ StreamEnd → GivesEvents o (counting_from count h) (start ∷ (front ++ end ∷ rest)) f
    → (rest ≡ []) × (f ≡ None)
begun_ends o h count start end front rest f kind (gives_event {after = after} is more) =
    let same = sym (started o count h) ∙ is in
    let pair : ◌≡◌ {A = Option PlainEvent × StepState} (Some (event_on StreamStart (mark_of h)), Begun count h)
    (Some start, after) = cc in
    none_behind_end o (Begun count h) f (InStream ∷ []) false front rest end (begun_along count h) in_stream
    (begun_tidy count h) kind
    (subst (λ s. GivesEvents o s (front ++ end ∷ rest) f) (sym (second_same _ _ pair)) more)
