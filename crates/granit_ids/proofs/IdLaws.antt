-- The offset never falls, ids that are given are below it, and behind a fault they are no less than it was.
use Rattle.std.proofs.Common.{◌≡◌, ℕ, zero, suc, ◌<◌, ◌≤◌, Bool, true, false, ◌&&◌, ◌||◌, ◌⊎◌, inl, inr, List, [], ◌∷◌}
use Rattle.std.proofs.Common.{Option, Some, None, is_some, Result, Ok, Err, refl, sym, ap, subst, ◌∙◌, arith}
use Rattle.std.specs.Prelude.{if◌then◌else◌}
use Rattle.granit_error.specs.OptionsData.{OptionsData}
use Rattle.granit_lexemes.specs.Here.{Here}
use Rattle.granit_lexemes.specs.Lexeme as lexemes
use Rattle.granit_lexemes.specs.Lexeme.{LexemeKind, Lexeme}
use Rattle.granit_lexemes.specs.Outcome.{Fault, ◌>>=◌}
use Rattle.granit_lexemes.specs.Pieces.{with_front, then_more, turns, pieces}
use Rattle.granit_lexemes.specs.PlainEvent.{PlainEvent, EventKind, StreamEnd, DocumentStart, DocumentEnd}
use Rattle.granit_machine.specs.Frames.{Frame, ParserState, Waiting, WithProperties}
use Rattle.granit_machine.specs.Giving.{anchor_number}
use Rattle.granit_machine.specs.Lexing.{FlaggedItem}
use Rattle.granit_machine.specs.Parser.{feed}
use Rattle.granit_machine.specs.Reader.{LexTurn, lex_turn}
use Rattle.granit_ids.proofs.IdLemmas.{Bounds, Above, FrameIds, HeldIds, ids_append, IdsIn, Num}
use Rattle.granit_ids.proofs.IdSteps.{FedNum, feed_num}
use Rattle.granit_recovery.proofs.RecoveryLaws.{called, noted_steps, first_same, second_same}
use Rattle.granit_restart.specs.Boundary.{Boundary, AtStart, PastEnd, AtTextEnd, next_boundary}
use Rattle.granit_restart.specs.Calls.{Calls, failing_by, failing_in, GivenByCall, given_by}
use Rattle.granit_restart.specs.Calls.{next_call}
use Rattle.granit_restart.specs.Header.{is_in_header}
use Rattle.granit_ids.specs.Ids.{id_of, IdsFrom, NeverSetBack}
use Rattle.granit_restart.specs.Recovery.{skipped_by, skipped, starts_by, looked_by, recovery_answer, recovered}
use Rattle.granit_restart.specs.Recovery.{extra_of, recover_with, recover, anchor_offset}
use Rattle.granit_restart.specs.Restart.{at_boundary, at_lexeme, at_found, behind_fault, behind_fault_at, cursor_at}
use Rattle.granit_restart.specs.Restart.{read_boundary}
use Rattle.granit_restart.specs.Skipping.{Ahead, NoEnd, BehindDocument, AtStreamEnd, SkipEnd, Ended, Failed, Stops}
use Rattle.granit_restart.specs.Skipping.{ahead_by, ahead, ends_before, skip_turn, with_pending, skip_ahead, skip_in}
use Rattle.granit_restart.specs.Skipping.{skip_by_turns, restarted, skipped_fault, skipped_to}
use Rattle.granit_recovery.specs.Streams.{CallsGive, gives_none, gives_next, ReachedByCalls, reached_start}
use Rattle.granit_recovery.specs.Streams.{reached_call, EarlyOf, not_early, reached_counting, reached_early}
use Rattle.granit_recovery.specs.Streams.{reached_keeping, reached_recovery, turn_early}
use Rattle.granit_restart.proofs.AheadLaws.{one, OneTurn}
use Rattle.granit_restart.specs.Turned.{with_count}
use Rattle.granit_steps.specs.Steps.{StepState, Turn, with_read, read_unless, read_more, with_fed, front_turn, turn_by}
use Rattle.granit_steps.specs.Steps.{may_go, line_behind, step_turn, step_size, first_pending, settle, next_event}

-- ---- a machine's state

abbrev pub Ids : Bounds → StepState → Type 0
Ids b s = Num b s.parser × IdsIn b s.parser.count s.pending

abbrev TurnIds : Bounds → Turn → Type 0
TurnIds b (Ok x) = Ids b x.1
TurnIds b (Err f) = Unit {0}

read_ids : (b : Bounds) (o : OptionsData) (s : StepState) (r : LexTurn) → Ids b s
    → TurnIds b (r >>= λ x. Ok (Some [], with_read o s x))
read_ids b o s (Ok x) i = i
read_ids b o s (Err f) i = tt

unless_ids : (b : Bounds) (o : OptionsData) (s : StepState) (fault : Option Fault) → Ids b s
    → TurnIds b (read_unless o fault s)
unless_ids b o s (Some f) i = tt
unless_ids b o s None i = read_ids b o s (lex_turn o s.reading) i

more_ids : (b : Bounds) (o : OptionsData) (s : StepState) (ended : Bool) → Ids b s → TurnIds b (read_more o ended s)
more_ids b o s true i = i
more_ids b o s false i = unless_ids b o s s.reading.fault i

fed_ids : (b : Bounds) (s : StepState) (is : List FlaggedItem) (r : Result (List PlainEvent × ParserState) Fault)
    → FedNum b r → TurnIds b (r >>= λ x. Ok (Some [], with_fed s is x))
fed_ids b s is (Ok x) f = (f.1, f.0)
fed_ids b s is (Err g) f = tt

front_ids : (c : Bool) (b : Bounds) (o : OptionsData) (s : StepState) (i : FlaggedItem) (is : List FlaggedItem)
    → Ids b s → TurnIds b (front_turn c o i is s)
front_ids true b o s i is x =
    fed_ids b s is (feed o i (line_behind s.reading is) s.parser)
    (feed_num b o i (line_behind s.reading is) s.parser x.0)
front_ids false b o s i is x = more_ids b o s s.reading.ended x

by_ids : (b : Bounds) (o : OptionsData) (es : List PlainEvent) (q : List FlaggedItem) (s : StepState) → Ids b s
    → TurnIds b (turn_by o es q s)
by_ids b o (e ∷ es) q s x = x
by_ids b o [] [] s x = more_ids b o s s.reading.ended x
by_ids b o [] (i ∷ is) s x = front_ids (may_go s.reading i is) b o s i is x

turn_ids : (b : Bounds) (o : OptionsData) (s : StepState) → Ids b s → TurnIds b (step_turn o s)
unfolding step_turn
turn_ids b o s x = by_ids b o s.pending s.queue s x

-- ---- one event

abbrev AllIds : Bounds → Result (List PlainEvent × StepState) Fault → Type 0
AllIds b (Ok x) = Ids b x.1
AllIds b (Err f) = Unit {0}

with_front_ids : (b : Bounds) (front : List PlainEvent) (r : Result (List PlainEvent × StepState) Fault)
    → AllIds b r → AllIds b (with_front front r)
with_front_ids b front (Ok x) y = y
with_front_ids b front (Err f) y = tt

then_ids : (b : Bounds) (o : OptionsData) (n : ℕ) (r : Turn)
    → ((s : StepState) → Ids b s → AllIds b (turns (step_turn o) n s)) → TurnIds b r
    → AllIds b (r >>= λ x. then_more (turns (step_turn o) n) x.0 x.1)
then_ids b o n (Err f) more x = tt
then_ids b o n (Ok (None, t)) more x = x
then_ids b o n (Ok (Some y, t)) more x = with_front_ids b y (turns (step_turn o) n t) (more t x)

turns_ids : (b : Bounds) (o : OptionsData) (n : ℕ) (s : StepState) → Ids b s → AllIds b (turns (step_turn o) n s)
unfolding turns
turns_ids b o zero s x = x
turns_ids b o (suc n) s x = then_ids b o n (step_turn o s) (turns_ids b o n) (turn_ids b o s x)

settle_ids : (b : Bounds) (o : OptionsData) (s : StepState) → Ids b s → AllIds b (settle o s)
unfolding pieces
settle_ids b o s x = turns_ids b o _ s x

abbrev pub NextIds : Bounds → Result (Option PlainEvent × StepState) Fault → Type 0
NextIds b (Ok (Some e, t)) = Above b t.parser.count (id_of e.kind) × Ids b t
NextIds b (Ok (None, t)) = Ids b t
NextIds b (Err f) = Unit {0}

first_ids : (b : Bounds) (es : List PlainEvent) (s : StepState) → Num b s.parser → IdsIn b s.parser.count es
    → Ids b s → NextIds b (Ok (first_pending es s))
first_ids b [] s p e x = x
first_ids b (e ∷ es) s p i x = (i.0, (p, i.1))

next_by : (b : Bounds) (r : Result (List PlainEvent × StepState) Fault) → AllIds b r
    → NextIds b (r >>= λ x. Ok (first_pending x.1.pending x.1))
next_by b (Ok x) y = first_ids b x.1.pending x.1 y.0 y.1 y
next_by b (Err f) y = tt

pub next_ids : (b : Bounds) (o : OptionsData) (s : StepState) → Ids b s → NextIds b (next_event o s)
unfolding next_event
next_ids b o s x = next_by b (settle o s) (settle_ids b o s x)

failed_ids : (b : Bounds) (later : StepState → StepState) (s : StepState) (r : Turn) → Ids b s
    → ((t : StepState) → Ids b t → Ids b (later t)) → TurnIds b r → Ids b (failing_by later s r)
failed_ids b later s (Ok (Some y, t)) x more i = more t i
failed_ids b later s (Ok (None, t)) x more i = x
failed_ids b later s (Err f) x more i = x

failing_ids : (b : Bounds) (o : OptionsData) (n : ℕ) (s : StepState) → Ids b s → Ids b (failing_in o n s)
failing_ids b o zero s x = x
failing_ids b o (suc n) s x = failed_ids b (failing_in o n) s (step_turn o s) x (failing_ids b o n) (turn_ids b o s x)

-- ---- behind a fault

-- the bounds of a state whose count is this one
abbrev From : ℕ → Bounds → Type 0
From n b = (b.least ≤ n) × (b.low ≤ n)

boundary_ids : (b : Bounds) (s : StepState) (x : Boundary) → From s.parser.count b
    → Ids b (at_boundary s x).1
boundary_ids b s (AtStart h) f =
    (record { least = f.0; low = f.1; given = tt; frames = tt; held = tt; follow = tt }, tt)
boundary_ids b s (PastEnd h) f =
    (record { least = f.0; low = f.1; given = tt; frames = tt; held = tt; follow = tt }, tt)
boundary_ids b s (AtTextEnd h) f =
    (record { least = f.0; low = f.1; given = tt; frames = tt; held = tt; follow = tt }, tt)

lexeme_ids : (b : Bounds) (h : Here) (s : StepState) (kind : LexemeKind) (l : Lexeme) → From s.parser.count b
    → Ids b (at_lexeme h s kind l).1
lexeme_ids b h s lexemes.DocumentStart l f =
    (record { least = f.0; low = f.1; given = tt; frames = tt; held = tt; follow = tt }, tt)
lexeme_ids b h s lexemes.DocumentEnd l f =
    (record { least = f.0; low = f.1; given = tt; frames = tt; held = tt; follow = tt }, tt)
lexeme_ids b h s kind l f = (record { least = f.0; low = f.1; given = tt; frames = tt; held = tt; follow = tt }, tt)

found_ids : (b : Bounds) (h : Here) (s : StepState) (r : Option Lexeme) → From s.parser.count b
    → Ids b (at_found h s r).1
found_ids b h s (Some l) f = lexeme_ids b h s l.kind l f
found_ids b h s None f = boundary_ids b s (next_boundary h) f

-- whatever was open is dropped
restart_ids : (b : Bounds) (stop : Here) (s : StepState) → From s.parser.count b → Ids b (behind_fault stop s).1
unfolding behind_fault_at
restart_ids b stop s f = let h = cursor_at stop s.reading in found_ids b h s (read_boundary h s.queue) f

-- ---- skipping

abbrev AheadIds : Bounds → ℕ → Ahead → Type 0
AheadIds b n NoEnd = Unit {0}
AheadIds b n (BehindDocument es) = IdsIn b n es
AheadIds b n (AtStreamEnd es) = IdsIn b n es

kind_ids : (b : Bounds) (n : ℕ) (kind : EventKind) (e : PlainEvent) (es : List PlainEvent) (later : Ahead)
    → IdsIn b n (e ∷ es) → AheadIds b n later → AheadIds b n (ahead_by kind e es later)
kind_ids b n DocumentEnd e es later i more = i.1
kind_ids b n StreamEnd e es later i more = i
kind_ids b n kind e es later i more = more

ahead_ids : (b : Bounds) (n : ℕ) (es : List PlainEvent) → IdsIn b n es → AheadIds b n (ahead es)
ahead_ids b n [] i = tt
ahead_ids b n (e ∷ es) i = kind_ids b n e.kind e es (ahead es) i (ahead_ids b n es i.1)

from_ids : (b : Bounds) (s : StepState) → Ids b s → From s.parser.count b
from_ids b s x = let p = x.0 in (p.least, p.low)

-- where skipping ends ids stay in bounds, and where it failed the count does
abbrev EndIds : Bounds → SkipEnd → Type 0
EndIds b (Ended s) = Ids b s
EndIds b (Failed f s) = From s.parser.count b

fault_ids : (b : Bounds) (c : Bool) (f : Fault) (s : StepState) → Ids b s
    → EndIds b (if c then Ended s else Failed f s)
fault_ids b true f s x = x
fault_ids b false f s x = from_ids b s x

skipped_ids : (b : Bounds) (later : StepState → SkipEnd) (s : StepState) (r : Turn)
    → ((t : StepState) → Ids b t → EndIds b (later t)) → Ids b s → TurnIds b r → EndIds b (skip_turn later s r)
skipped_ids b later s (Ok (Some y, t)) more x i = more t i
skipped_ids b later s (Ok (None, t)) more x i = x
skipped_ids b later s (Err f) more x i = fault_ids b (ends_before s f) f s x

past_ids : (b : Bounds) (more : StepState → SkipEnd) (s : StepState) (r : Ahead)
    → (Ids b (with_pending [] s) → EndIds b (more (with_pending [] s))) → Num b s.parser
    → AheadIds b s.parser.count r → EndIds b (skip_ahead more s r)
past_ids b more s NoEnd go p i = go (p, tt)
past_ids b more s (BehindDocument es) go p i = (p, i)
past_ids b more s (AtStreamEnd es) go p i = (p, i)

skip_in_ids : (b : Bounds) (o : OptionsData) (n : ℕ) (s : StepState) → Ids b s → EndIds b (skip_in o n s)
skip_in_ids b o zero s x = x
skip_in_ids b o (suc n) s x =
    past_ids b (λ t. skip_turn (skip_in o n) t (step_turn o t)) s (ahead s.pending)
    (λ y. skipped_ids b (skip_in o n) (with_pending [] s) (step_turn o (with_pending [] s))
    (λ t z. skip_in_ids b o n t z) y (turn_ids b o (with_pending [] s) y)) x.0
    (ahead_ids b s.parser.count s.pending x.1)

skip_ids : (b : Bounds) (o : OptionsData) (s : StepState) → Ids b s → EndIds b (skip_by_turns o s)
skip_ids b o s x = skip_in_ids b o (suc (step_size s)) s x

restarted_ids : (b : Bounds) (stop : Here) (x : SkipEnd) → EndIds b x → Ids b (restarted stop x)
restarted_ids b stop (Ended s) i = i
restarted_ids b stop (Failed f s) i = restart_ids b stop s i

header_ids : (b : Bounds) (o : OptionsData) (stop : Here) (c : Bool) (x : Bool × StepState) → Ids b x.1
    → Ids b (if c then restarted stop (skip_by_turns o x.1) else x.1)
header_ids b o stop true x i = restarted_ids b stop (skip_by_turns o x.1) (skip_ids b o x.1 i)
header_ids b o stop false x i = i

fault_skipped : (b : Bounds) (o : OptionsData) (stops : Stops) (f : Fault) (s : StepState) → From s.parser.count b
    → Ids b (skipped_fault o stops f s)
fault_skipped b o stops f s x =
    header_ids b o stops.second (is_in_header o s f && (behind_fault stops.first s).0) (behind_fault stops.first s)
    (restart_ids b stops.first s x)

to_ids : (b : Bounds) (o : OptionsData) (stops : Stops) (x : SkipEnd) → EndIds b x → Ids b (skipped_to o stops x)
to_ids b o stops (Ended s) i = i
to_ids b o stops (Failed f s) i = fault_skipped b o stops f s i

by_skipped : (b : Bounds) (o : OptionsData) (stops : Stops) (fault : Option Fault) (between : Bool) (s : StepState)
    → Ids b s → Ids b (skipped_by o stops fault between s)
by_skipped b o stops (Some f) between s x = fault_skipped b o stops f s (from_ids b s x)
by_skipped b o stops None true s x = x
by_skipped b o stops None false s x = to_ids b o stops (skip_by_turns o s) (skip_ids b o s x)

-- ---- calls

given_ids : (b : Bounds) (o : OptionsData) (c : Calls) (r : Result (Option PlainEvent × StepState) Fault)
    → NextIds b r → Ids b c.steps → Ids b (given_by o c r).1.steps
given_ids b o c (Ok (Some e, t)) i x = subst (Ids b) (sym (noted_steps e.kind (record c { steps = t }))) i.1
given_ids b o c (Ok (None, t)) i x = x
given_ids b o c (Err f) i x = failing_ids b o (suc (step_size c.steps)) c.steps x

call_if : (c : Bool) (b : Bounds) (o : OptionsData) (d : Calls) → Ids b d.steps
    → Ids b (if c then (None, d) else given_by o d (next_event o d.steps)).1.steps
call_if true b o d x = x
call_if false b o d x = given_ids b o d (next_event o d.steps) (next_ids b o d.steps x) x

call_ids : (b : Bounds) (o : OptionsData) (c : Calls) → Ids b c.steps → Ids b (next_call o c).1.steps
unfolding next_call
call_ids b o c x = call_if ((c.over || is_some c.fault) || is_some c.refusal) b o c x

starts_ids : (b : Bounds) (kind : EventKind) (c : Calls) → Ids b c.steps → Ids b (starts_by kind c).steps
starts_ids b (DocumentStart explicit version) c x = x
starts_ids b kind c x = x

looked_ids : (b : Bounds) (c : Calls) (x : GivenByCall × Calls) → Ids b c.steps → Ids b x.1.steps
    → Ids b (looked_by c x).steps
looked_ids b c (Some (Ok e), after) i n = starts_ids b e.kind c i
looked_ids b c (Some (Err f), after) i n = n
looked_ids b c (None, after) i n = i

answered_ids : (b : Bounds) (r : Result Bool Fault) (c : Calls) → Ids b c.steps → Ids b (recovery_answer r c).1.steps
answered_ids b (Ok true) c x = x
answered_ids b (Ok false) c x = x
answered_ids b (Err f) c x = x

recovers_ids : (e : Bool) (b : Bounds) (o : OptionsData) (stops : Stops) (extra : ℕ) (c : Calls) → Ids b c.steps
    → Ids b (if e then (Ok false, c) else recovered o extra (skipped o stops c)).1.steps
recovers_ids true b o stops extra c x = x
recovers_ids false b o stops extra c x =
    answered_ids b _ (skipped o stops c) (by_skipped b o stops c.fault c.between c.steps x)

with_ids : (b : Bounds) (o : OptionsData) (stops : Stops) (looked : Bool) (refusal : Option Fault) (c : Calls)
    → Ids b c.steps → Ids b (recover_with o stops looked refusal c).1.steps
with_ids b o stops looked (Some f) c x = x
with_ids b o stops true None c x =
    let d = looked_by c (next_call o c) in
    recovers_ids d.over b o stops (extra_of d (next_call o c).0) d
    (looked_ids b c (next_call o c) x (call_ids b o c x))
with_ids b o stops false None c x = recovers_ids c.over b o stops 0 c x

recover_ids : (b : Bounds) (o : OptionsData) (stops : Stops) (looked : Bool) (c : Calls) → Ids b c.steps
    → Ids b (recover o stops looked c).1.steps
unfolding recover
recover_ids b o stops looked c x = with_ids b o stops looked c.refusal c x

-- ---- laws

abbrev pub NoBounds : Bounds
NoBounds = record { low = 0; least = 0 }

-- the count is at least what it is
abbrev pub AtLeast : ℕ → Bounds
AtLeast n = record { low = 0; least = n }

pub ids_now : (s : StepState) → Ids NoBounds s → Ids (AtLeast s.parser.count) s
ids_now s x =
    let p = x.0 in (
      record {
        least = omega arith;
        low = p.low;
        given = same s.parser.count s.parser.given p.given;
        frames = p.frames;
        held = p.held;
        follow = p.follow;
      },
      x.1,
    )
  where
    same : (n : ℕ) (es : List PlainEvent) → IdsIn NoBounds n es → IdsIn (AtLeast s.parser.count) n es
    same n es i = i

-- ---- where the count is raised between steps

above_up : (b : Bounds) (m n id : ℕ) → m ≤ n → Above b m id → Above b n id
above_up b m n id less (inl none) = inl none
above_up b m n id less (inr x) = let h = x.1 in inr (x.0, omega (arith, h))

ids_up : (b : Bounds) (m n : ℕ) (es : List PlainEvent) → m ≤ n → IdsIn b m es → IdsIn b n es
ids_up b m n [] less x = tt
ids_up b m n (e ∷ es) less x = (above_up b m n (id_of e.kind) less x.0, ids_up b m n es less x.1)

frames_up : (b : Bounds) (m n : ℕ) (fs : List Frame) → m ≤ n → FrameIds b m fs → FrameIds b n fs
frames_up b m n [] less x = tt
frames_up b m n (WithProperties q ∷ fs) less x =
    (above_up b m n (anchor_number q.anchor) less x.0, frames_up b m n fs less x.1)
frames_up b m n (f ∷ fs) less x = frames_up b m n fs less x

held_up : (b : Bounds) (m n : ℕ) (w : Option Waiting) → m ≤ n → HeldIds b m w → HeldIds b n w
held_up b m n None less x = tt
held_up b m n (Some w) less x = (ids_up b m n w.held less x.0, x.1)

pub ids_counting : (count : ℕ) (s : StepState) → s.parser.count ≤ count → Ids NoBounds s
    → Ids NoBounds (with_count count s)
ids_counting count s less x =
    let p = x.0 in (
      record {
        least = omega arith;
        low = omega arith;
        given = ids_up NoBounds s.parser.count count s.parser.given less p.given;
        frames = frames_up NoBounds s.parser.count count s.parser.frames less p.frames;
        held = held_up NoBounds s.parser.count count s.parser.waiting less p.held;
        follow = p.follow;
      },
      ids_up NoBounds s.parser.count count s.pending less x.1,
    )

-- ---- turns that are made early

one_ids : (o : OptionsData) (s t : StepState) → OneTurn o s t → Ids NoBounds s → Ids NoBounds t
one_ids o s t x ids =
    let none = with_pending [] s in
    let now : Ids NoBounds x.behind = subst (TurnIds NoBounds) x.turn (turn_ids NoBounds o none (ids.0, tt)) in
    let least = AtLeast s.parser.count in
    let more : Ids least x.behind =
    subst (TurnIds least) x.turn (turn_ids least o none (ids_now none (ids.0, tt))) in
    let counts = more.0 in
    subst (Ids NoBounds) (sym x.is) (
      now.0,
      ids_append NoBounds x.behind.parser.count s.pending x.behind.pending
          (ids_up NoBounds s.parser.count x.behind.parser.count s.pending counts.least ids.1) now.1,
    )

early_ids : (o : OptionsData) (s t : StepState) → EarlyOf o s t → Ids NoBounds s → Ids NoBounds t
early_ids o s t not_early ids = ids
early_ids o s t (turn_early {t = u} {given = given} p e) ids =
    one_ids o u t (one o u t given e) (early_ids o s u p ids)

-- ---- whatever was called

reached_ids : (o : OptionsData) (c : Calls) (r : ReachedByCalls o c) → NeverSetBack r → Ids NoBounds c.steps
reached_ids o c (reached_start h) never =
    (record { least = omega arith; low = omega arith; given = tt; frames = tt; held = tt; follow = tt }, (inl refl, tt))
reached_ids o c (reached_call {c = d} r) never = call_ids NoBounds o d (reached_ids o d r never)
reached_ids o c (reached_recovery {c = d} stops looked r) never =
    recover_ids NoBounds o stops looked d (reached_ids o d r never)
reached_ids o c (reached_early {c = d} {t = t} r early) never = early_ids o d.steps t early (reached_ids o d r never)
reached_ids o c (reached_counting {c = d} count r) never =
    ids_counting count d.steps never.0 (reached_ids o d r never.1)
reached_ids o c (reached_keeping keep r) never = reached_ids (record o { keep_tags = keep }) c r never

more_offset : (n : ℕ) (s : StepState) → Ids (AtLeast n) s → suc n ≤ suc s.parser.count
more_offset n s x = let p = x.0 in let l = p.least in omega (arith, l)

-- the offset never falls
pub calls_raise : (o : OptionsData) (c : Calls) (r : ReachedByCalls o c) → NeverSetBack r
    → anchor_offset c ≤ anchor_offset (next_call o c).1
calls_raise o c r never =
    more_offset c.steps.parser.count (next_call o c).1.steps
    (call_ids (AtLeast c.steps.parser.count) o c (ids_now c.steps (reached_ids o c r never)))

pub recoveries_raise : (o : OptionsData) (stops : Stops) (looked : Bool) (c : Calls) (r : ReachedByCalls o c)
    → NeverSetBack r → anchor_offset c ≤ anchor_offset (recover o stops looked c).1
recoveries_raise o stops looked c r never =
    more_offset c.steps.parser.count (recover o stops looked c).1.steps
    (recover_ids (AtLeast c.steps.parser.count) o stops looked c (ids_now c.steps (reached_ids o c r never)))

below : (b : Bounds) (n id : ℕ) → Above b n id → id < suc n
below b n id (inl e) = omega (arith, e)
below b n id (inr p) = let h = p.1 in omega (arith, h)

-- an id that is given is below it
pub given_below : (o : OptionsData) (c d : Calls) (e : PlainEvent) (r : ReachedByCalls o c) → NeverSetBack r
    → next_call o c ≡ (Some (Ok e), d) → id_of e.kind < anchor_offset d
given_below o c d e r never g =
    let x = called o c d e g in
    let n : NextIds NoBounds (Ok (Some e, x.steps)) =
    subst (NextIds NoBounds) x.event (next_ids NoBounds o c.steps (reached_ids o c r never)) in
    subst (λ (s : StepState). id_of e.kind < suc s.parser.count) (sym x.leaves)
    (below NoBounds x.steps.parser.count (id_of e.kind) n.0)

-- behind a fault ids are no less than the offset was
abbrev pub Anew : ℕ → Bounds
Anew n = record { low = n; least = n }

answered_anew : (b : Bounds) (r : Result Bool Fault) (c d : Calls) (follows : Bool)
    → recovery_answer r c ≡ (Ok follows, d)
    → Ids b c.steps → Ids b d.steps
answered_anew b r c d follows e x =
    subst (λ (z : Calls). Ids b z.steps) (second_same _ _ e) (answered_ids b r c x)

-- behind the end of the stream nothing more comes
abbrev OrOver : ℕ → Calls → Type 0
OrOver n d = (d.over ≡ true) ⊎ Ids (Anew n) d.steps

anew_if : (e : Bool) (o : OptionsData) (stops : Stops) (extra : ℕ) (c d : Calls) (f : Fault) (follows : Bool)
    → c.fault ≡ Some f → c.over ≡ e
    → (if e then (Ok false, c) else recovered o extra (skipped o stops c)) ≡ (Ok follows, d)
    → OrOver c.steps.parser.count d
anew_if true o stops extra c d f follows fault over e =
    inl (ap (λ (z : Calls). z.over) (sym (second_same _ _ e)) ∙ over)
anew_if false o stops extra c d f follows fault over e =
    inr (answered_anew (Anew c.steps.parser.count) _ (skipped o stops c) d follows e
    (subst (λ g. Ids (Anew c.steps.parser.count) (skipped_by o stops g c.between c.steps)) (sym fault)
    (fault_skipped (Anew c.steps.parser.count) o stops f c.steps (omega arith, omega arith))))

pub or_some : (a c : Bool) → ((a || true) || c) ≡ true
or_some true c = refl
or_some false c = refl

next_none : (o : OptionsData) (c : Calls) (f : Fault) → c.fault ≡ Some f → next_call o c ≡ (None, c)
unfolding next_call
next_none o c f e =
    ap (λ b. if b then (None, c) else given_by o c (next_event o c.steps))
    (ap (λ (g : Option Fault). (c.over || is_some g) || is_some c.refusal) e ∙ or_some c.over (is_some c.refusal))

anew_with : (o : OptionsData) (stops : Stops) (looked : Bool) (refusal : Option Fault) (c d : Calls) (f : Fault)
    (follows : Bool) → c.fault ≡ Some f → recover_with o stops looked refusal c ≡ (Ok follows, d)
    → OrOver c.steps.parser.count d
anew_with o stops looked (Some g) c d f follows fault e = absurd (let h = first_same _ _ e in cc)
anew_with o stops true None c d f follows fault e =
    let same = ap (λ (x : GivenByCall × Calls). if (looked_by c x).over then (Ok false, looked_by c x)
    else recovered o (extra_of (looked_by c x) x.0) (skipped o stops (looked_by c x)))
    (sym (next_none o c f fault)) in
    anew_if c.over o stops (extra_of c None) c d f follows fault refl (same ∙ e)
anew_with o stops false None c d f follows fault e = anew_if c.over o stops 0 c d f follows fault refl e

anew_ids : (o : OptionsData) (stops : Stops) (looked : Bool) (c d : Calls) (f : Fault) (follows : Bool)
    → c.fault ≡ Some f → recover o stops looked c ≡ (Ok follows, d) → OrOver c.steps.parser.count d
unfolding recover
anew_ids o stops looked c d f follows fault e = anew_with o stops looked c.refusal c d f follows fault e

pub from_above : (m n id : ℕ) → Above (Anew m) n id → (id ≡ 0) ⊎ (suc m ≤ id)
from_above m n id (inl e) = inl e
from_above m n id (inr p) = inr p.0

gives_from : (o : OptionsData) (n : ℕ) (c d : Calls) (es : List PlainEvent) → Ids (Anew n) c.steps → CallsGive o c es d
    → IdsFrom (suc n) es
gives_from o n c d es x gives_none = tt
gives_from o n c d es x (gives_next {after = after} {e = e} {es = rest} g more) =
    let y = called o c after e g in
    let m : NextIds (Anew n) (Ok (Some e, y.steps)) =
    subst (NextIds (Anew n)) y.event (next_ids (Anew n) o c.steps x) in (
      from_above n y.steps.parser.count (id_of e.kind) m.0,
      gives_from o n after d rest (subst (Ids (Anew n)) (sym y.leaves) m.1) more,
    )

gives_or : (o : OptionsData) (n : ℕ) (c d : Calls) (es : List PlainEvent) → OrOver n c → CallsGive o c es d
    → IdsFrom (suc n) es
gives_or o n c d es (inr x) g = gives_from o n c d es x g
gives_or o n c d es (inl over) gives_none = tt
gives_or o n c d es (inl over) (gives_next {after = after} {e = e} g more) =
    let x = called o c after e g in absurd (let h = x.not_over in cc)

pub behind_fault_from : (o : OptionsData) (stops : Stops) (looked follows : Bool) (c d after : Calls) (f : Fault)
    (es : List PlainEvent) → c.fault ≡ Some f → recover o stops looked c ≡ (Ok follows, d) → CallsGive o d es after
    → IdsFrom (anchor_offset c) es
behind_fault_from o stops looked follows c d after f es fault e g =
    gives_or o c.steps.parser.count d after es (anew_ids o stops looked c d f follows fault e) g
