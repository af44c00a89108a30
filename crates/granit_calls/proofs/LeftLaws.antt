-- What is left of a stream between calls, and behind recovery: so an open call always gives something.
use Rattle.std.proofs.Common.{◌≡◌, ℕ, zero, suc, ◌+◌, ◌<◌, ◌&&◌, ◌||◌, ◌⊎◌, inl, inr, is_some, Bool, true, false}
use Rattle.std.proofs.Common.{List, [], ◌∷◌}
use Rattle.std.proofs.Common.{◌++◌, Option, Some, None, Result, Ok, Err, refl, sym, ap, subst, ◌∙◌, arith}
use Rattle.std.proofs.lemmas.Bool.{or_right, or_parts}
use Rattle.std.specs.Prelude.{if◌then◌else◌}
use Rattle.granit_error.specs.OptionsData.{OptionsData}
use Rattle.granit_lexemes.specs.Here.{Here}
use Rattle.granit_lexemes.specs.Lexeme as lexemes
use Rattle.granit_lexemes.specs.Lexeme.{Lexeme, LexemeKind}
use Rattle.granit_lexemes.specs.Outcome.{Fault}
use Rattle.granit_lexemes.specs.Pieces.{turns}
use Rattle.granit_lexemes.specs.PlainEvent.{EventKind, PlainEvent}
use Rattle.granit_lexemes.specs.PlainEvent.{DocumentEnd, DocumentStart, StreamEnd, StreamStart}
use Rattle.granit_recovery.proofs.LevelLaws.{Open, all_closed, events_keep, in_stream}
use Rattle.granit_recovery.proofs.RecoveryLaws.{call_known, CallsKnown, looked_known}
use Rattle.granit_recovery.proofs.RecoveryLaws.{reached_known}
use Rattle.granit_recovery.proofs.RestLaws.{early_known}
use Rattle.granit_recovery.proofs.SkipLaws.{Known, known_along, known_start, restart_along, start_ahead}
use Rattle.granit_recovery.proofs.TurnLaws.{Along, along_end, along_stream, step_along, TurnAlong}
use Rattle.granit_recovery.specs.Streams.{EarlyOf, not_early, ReachedByCalls, reached_call, reached_counting}
use Rattle.granit_recovery.specs.Streams.{reached_early, reached_keeping, reached_recovery, reached_start, turn_early}
use Rattle.granit_restart.proofs.AheadLaws.{one, OneTurn}
use Rattle.granit_restart.proofs.MarkLaws.{items}
use Rattle.granit_restart.specs.Boundary.{AtStart, AtTextEnd, Boundary, next_boundary, PastEnd}
use Rattle.granit_restart.specs.Calls.{Calls, failing, GivenByCall, given_by, next_call, noted}
use Rattle.granit_restart.specs.Following.{document_follows}
use Rattle.granit_restart.specs.Header.{is_in_header}
use Rattle.granit_restart.specs.Recovery.{recovery_answer, extra_of, looked_by, recover, recovered, recover_with}
use Rattle.granit_restart.specs.Recovery.{resumed, skipped, skipped_by, starts_by}
use Rattle.granit_restart.specs.Restart.{at_boundary, at_found, at_lexeme, behind_fault, behind_fault_at}
use Rattle.granit_restart.specs.Restart.{cursor_at, read_boundary}
use Rattle.granit_restart.specs.Skipping.{Ahead, ahead, AtStreamEnd, BehindDocument, Ended, ends_before, Failed, NoEnd}
use Rattle.granit_restart.specs.Skipping.{ahead_by, restarted, skip_by_turns, skip_ahead, SkipEnd, skip_in}
use Rattle.granit_restart.specs.Skipping.{skipped_fault, skipped_to, skip_turn, Stops, with_pending}
use Rattle.granit_recovery.proofs.RestLaws.{levels_of}
use Rattle.granit_steps.proofs.StepLaws.{step_turn-Shortens}
use Rattle.granit_recovery.proofs.TurnLaws.{has_end}
use Rattle.granit_steps.specs.Levels.{InStream, Level}
use Rattle.granit_steps.specs.Steps.{next_event}
use Rattle.granit_steps.specs.Steps.{StepState, step_size, step_turn, Turn}
use Rattle.granit_calls.proofs.LeftTurns.{ends_in, ends_stream, failing_left, Left, next_left, NextLeft}
use Rattle.granit_calls.proofs.LeftTurns.{rest_left, some_event, step_left, TurnLeft}

-- ---- skipping

abbrev AheadLeft : Bool → Ahead → Type 0
AheadLeft b NoEnd = b ≡ false
AheadLeft b (BehindDocument es) = b ≡ true → ends_in es ≡ true
AheadLeft b (AtStreamEnd es) = ends_in es ≡ true

kind_ahead : (kind : EventKind) (e : PlainEvent) (es : List PlainEvent) → e.kind ≡ kind
    → AheadLeft (ends_in es) (ahead es) → AheadLeft (ends_stream kind || ends_in es) (ahead_by kind e es (ahead es))
kind_ahead DocumentEnd e es is more = λ x. x
kind_ahead StreamEnd e es is more = ap (λ k. ends_stream k || ends_in es) is
kind_ahead kind e es is more = more

ahead_left : (es : List PlainEvent) → AheadLeft (ends_in es) (ahead es)
ahead_left [] = refl
ahead_left (e ∷ es) = kind_ahead e.kind e es refl (ahead_left es)

-- what is left where skipping ends
abbrev EndLeft : SkipEnd → Type 0
EndLeft (Ended s) = Left s
EndLeft (Failed f s) = Unit {0}

abbrev SkipsLeft : OptionsData → ℕ → Type 0
SkipsLeft o n = (s : StepState) → step_size s < n → Known s → Left s → EndLeft (skip_in o n s)

fault_ends : (b : Bool) (s : StepState) (f : Fault) → Left s → EndLeft (if b then Ended s else Failed f s)
fault_ends true s f left = left
fault_ends false s f left = tt

turn_skips : (o : OptionsData) (n : ℕ) (ls : List Level) (s : StepState) (r : Turn) → SkipsLeft o n → Open ls → Left s
    → step_size s < suc n → step_turn o s ≡ r → TurnAlong ls r → TurnLeft r
    → EndLeft (skip_turn (skip_in o n) s r)
turn_skips o n ls s (Ok (Some y, t)) more p left h e a b =
    let less = step_turn-Shortens o s t y e in more t (omega (arith, less, h)) (known_along p a) b
turn_skips o n ls s (Ok (None, t)) more p left h e a b = left
turn_skips o n ls s (Err f) more p left h e a b = fault_ends (ends_before s f) s f left

-- nothing that was left is dropped
none_dropped : (s : StepState) → ends_in s.pending ≡ false → Left s → Left (with_pending [] s)
none_dropped s none left = λ ended. by (left ended)
  where
    by : (has_end (items s.queue) ≡ true) ⊎ (ends_in s.pending ≡ true)
        → (has_end (items s.queue) ≡ true) ⊎ (ends_in [] ≡ true)
    by (inl x) = inl x
    by (inr x) = absurd (let f : false ≡ true = sym none ∙ x in cc)

document_dropped : (s : StepState) (es : List PlainEvent) → (ends_in s.pending ≡ true → ends_in es ≡ true) → Left s
    → Left (with_pending es s)
document_dropped s es kept left = λ ended. by (left ended)
  where
    by : (has_end (items s.queue) ≡ true) ⊎ (ends_in s.pending ≡ true)
        → (has_end (items s.queue) ≡ true) ⊎ (ends_in es ≡ true)
    by (inl x) = inl x
    by (inr x) = inr (kept x)

ahead_skips : (o : OptionsData) (n : ℕ) (ms : List Level) (s : StepState) (r : Ahead) → SkipsLeft o n → Open ms
    → Along ms (with_pending [] s) → step_size s < suc n → Left s → AheadLeft (ends_in s.pending) r
    → EndLeft (skip_ahead (λ t. skip_turn (skip_in o n) t (step_turn o t)) s r)
ahead_skips o n ms s NoEnd more p a h left kept =
    let bare = none_dropped s kept left in
    turn_skips o n ms (with_pending [] s) (step_turn o (with_pending [] s)) more p bare h refl
    (step_along o ms (with_pending [] s) a) (step_left o ms (with_pending [] s) p a bare)
ahead_skips o n ms s (BehindDocument es) more p a h left kept = document_dropped s es kept left
ahead_skips o n ms s (AtStreamEnd es) more p a h left kept = document_dropped s es (λ x. kept) left

along_skips : (o : OptionsData) (n : ℕ) (ls : List Level) (s : StepState) → SkipsLeft o n → step_size s < suc n
    → Open ls → Along ls s → Left s
    → EndLeft (skip_ahead (λ t. skip_turn (skip_in o n) t (step_turn o t)) s (ahead s.pending))
along_skips o n ls s more h p (along_stream e rests seats w) left =
    let ms = levels_of s.parser.frames s.parser.stage in
    ahead_skips o n ms s (ahead s.pending) more (events_keep s.pending ls ms p e) (along_stream refl rests seats w) h
    left (ahead_left s.pending)
along_skips o n ls s more h p (along_end e over only ended) left =
    ahead_skips o n [] s (ahead s.pending) more all_closed (along_end refl over only ended) h left
    (ahead_left s.pending)

not_end : (kind : EventKind) → kind ≡ StreamStart → ends_stream kind ≡ false
not_end StreamStart is = refl
not_end kind is = absurd (cc)

known_skips : (o : OptionsData) (n : ℕ) (s : StepState) → SkipsLeft o n → step_size s < suc n → Known s → Left s
    → EndLeft (skip_ahead (λ t. skip_turn (skip_in o n) t (step_turn o t)) s (ahead s.pending))
known_skips o n s more h (known_start e es kind waits a) left =
    subst (λ (x : Ahead). EndLeft (skip_ahead (λ t. skip_turn (skip_in o n) t (step_turn o t)) s x))
    (sym (ap ahead waits ∙ start_ahead e.kind e es kind))
    (along_skips o n (InStream ∷ []) (with_pending es s) more h in_stream a
    (rest_left e es s waits left (not_end e.kind kind)))
known_skips o n s more h (known_along {ls = ls} p a) left = along_skips o n ls s more h p a left

skips_left : (o : OptionsData) (n : ℕ) → SkipsLeft o n
skips_left o zero s h k left = absurd (omega (arith, h))
skips_left o (suc n) s h k left = known_skips o n s (skips_left o n) h k left

skip_left : (o : OptionsData) (s : StepState) → Known s → Left s → EndLeft (skip_by_turns o s)
skip_left o s k left = skips_left o (suc (step_size s)) s (omega arith) k left

-- ---- behind a fault

boundary_left : (s : StepState) (b : Boundary) → Left (at_boundary s b).1
boundary_left s (AtStart h) = λ e. absurd (cc)
boundary_left s (PastEnd h) = λ e. absurd (cc)
boundary_left s (AtTextEnd h) = λ e. absurd (cc)

lexeme_left : (h : Here) (s : StepState) (kind : LexemeKind) (l : Lexeme) → Left (at_lexeme h s kind l).1
lexeme_left h s lexemes.DocumentStart l = λ e. absurd (cc)
lexeme_left h s lexemes.DocumentEnd l = λ e. absurd (cc)
lexeme_left h s kind l = λ e. absurd (cc)

found_left : (h : Here) (s : StepState) (r : Option Lexeme) → Left (at_found h s r).1
found_left h s (Some l) = lexeme_left h s l.kind l
found_left h s None = boundary_left s (next_boundary h)

restart_left : (stop : Here) (s : StepState) → Left (behind_fault stop s).1
unfolding behind_fault_at
restart_left stop s = let h = cursor_at stop s.reading in found_left h s (read_boundary h s.queue)

restarted_left : (stop : Here) (x : SkipEnd) → EndLeft x → Left (restarted stop x)
restarted_left stop (Ended s) left = left
restarted_left stop (Failed f s) left = restart_left stop s

header_left : (o : OptionsData) (stop : Here) (b : Bool) (x : Bool × StepState) → Along (InStream ∷ []) x.1 → Left x.1
    → Left (if b then restarted stop (skip_by_turns o x.1) else x.1)
header_left o stop true x a left =
    restarted_left stop (skip_by_turns o x.1) (skip_left o x.1 (known_along in_stream a) left)
header_left o stop false x a left = left

fault_left : (o : OptionsData) (stops : Stops) (f : Fault) (s : StepState) → Left (skipped_fault o stops f s)
fault_left o stops f s =
    header_left o stops.second (is_in_header o s f && (behind_fault stops.first s).0) (behind_fault stops.first s)
    (restart_along stops.first s) (restart_left stops.first s)

document_left : (o : OptionsData) (stops : Stops) (x : SkipEnd) → EndLeft x → Left (skipped_to o stops x)
document_left o stops (Ended s) left = left
document_left o stops (Failed f s) left = fault_left o stops f s

skipped_left : (o : OptionsData) (stops : Stops) (fault : Option Fault) (between : Bool) (s : StepState) → Known s
    → Left s → Left (skipped_by o stops fault between s)
skipped_left o stops (Some f) between s k left = fault_left o stops f s
skipped_left o stops None true s k left = left
skipped_left o stops None false s k left = document_left o stops (skip_by_turns o s) (skip_left o s k left)

-- ---- between calls

abbrev CallsLeft : Calls → Type 0
CallsLeft c = c.over ≡ false → Left c.steps

noted_left : (kind : EventKind) (c : Calls) → (ends_stream kind ≡ false → Left c.steps) → CallsLeft (noted kind c)
noted_left (DocumentStart explicit version) c left = λ over. left refl
noted_left DocumentEnd c left = λ over. left refl
noted_left StreamEnd c left = λ over. absurd (cc)
noted_left kind c left = λ over. left refl

given_left : (o : OptionsData) (c : Calls) (r : Result (Option PlainEvent × StepState) Fault) → NextLeft r
    → Left (failing o c.steps) → CallsLeft c → CallsLeft (given_by o c r).1
given_left o c (Ok (Some e, t)) next fails left = noted_left e.kind (record c { steps = t }) next
given_left o c (Ok (None, t)) next fails left = left
given_left o c (Err f) next fails left = λ over. fails

call_left_by : (b : Bool) (o : OptionsData) (c : Calls) → ((c.over || is_some c.fault) || is_some c.refusal) ≡ b
    → Known c.steps → CallsLeft c → CallsLeft (if b then (None, c) else given_by o c (next_event o c.steps)).1
call_left_by true o c is k left = left
call_left_by false o c is k left =
    let there = left ((or_parts c.over _ (or_parts _ _ is).0).0) in
    given_left o c (next_event o c.steps) (next_left o c.steps k there) (failing_left o c.steps k there) left

call_left : (o : OptionsData) (c : Calls) → Known c.steps → CallsLeft c → CallsLeft (next_call o c).1
unfolding next_call
call_left o c k left = call_left_by ((c.over || is_some c.fault) || is_some c.refusal) o c refl k left

-- ---- recovery

starts_left : (kind : EventKind) (c : Calls) → CallsLeft c → CallsLeft (starts_by kind c)
starts_left (DocumentStart explicit version) c left = left
starts_left kind c left = left

looked_left : (c : Calls) (x : GivenByCall × Calls) → CallsLeft c → CallsLeft x.1 → CallsLeft (looked_by c x)
looked_left c (Some (Ok e), after) left next = starts_left e.kind c left
looked_left c (Some (Err f), after) left next = next
looked_left c (None, after) left next = left

answered_left : (r : Result Bool Fault) (s : StepState) → Left s → CallsLeft (recovery_answer r (resumed s)).1
answered_left (Ok true) s left = λ over. left
answered_left (Ok false) s left = λ over. left
answered_left (Err f) s left = λ over. left

recovers_left : (b : Bool) (o : OptionsData) (stops : Stops) (extra : ℕ) (c : Calls) → c.over ≡ b → Known c.steps
    → CallsLeft c → CallsLeft (if b then (Ok false, c) else recovered o extra (skipped o stops c)).1
recovers_left true o stops extra c over k left = left
recovers_left false o stops extra c over k left =
    answered_left
    (document_follows o (o.max_buffered_comment_events + extra) (skipped_by o stops c.fault c.between c.steps))
    (skipped_by o stops c.fault c.between c.steps)
    (skipped_left o stops c.fault c.between c.steps k (left over))

with_left : (o : OptionsData) (stops : Stops) (looked : Bool) (refusal : Option Fault) (c : Calls) → CallsKnown c
    → CallsLeft c → CallsLeft (recover_with o stops looked refusal c).1
with_left o stops looked (Some f) c k left = left
with_left o stops true None c k left =
    let d = looked_by c (next_call o c) in
    recovers_left d.over o stops (extra_of d (next_call o c).0) d refl
    (looked_known o c (next_call o c) k (call_known o c k)).known
    (looked_left c (next_call o c) left (call_left o c k.known left))
with_left o stops false None c k left = recovers_left c.over o stops 0 c refl k.known left

recover_left : (o : OptionsData) (stops : Stops) (looked : Bool) (c : Calls) → CallsKnown c → CallsLeft c
    → CallsLeft (recover o stops looked c).1
unfolding recover
recover_left o stops looked c k left = with_left o stops looked c.refusal c k left

-- ---- turns that are made early

-- where what waits is put aside, a stream goes on from some levels
record Aside (s : StepState) : Type 0 where
  levels : List Level
  opened : Open levels
  along : Along levels (with_pending [] s)

along_aside : (ls : List Level) (s : StepState) → Open ls → Along ls s → Aside s
along_aside ls s p (along_stream e rests seats w) = record {
  levels = levels_of s.parser.frames s.parser.stage;
  opened = events_keep s.pending ls (levels_of s.parser.frames s.parser.stage) p e;
  along = along_stream refl rests seats w;
}
along_aside ls s p (along_end e over only ended) =
    record { levels = []; opened = all_closed; along = along_end refl over only ended }

known_aside : (s : StepState) → Known s → Aside s
known_aside s (known_along {ls = ls} p a) = along_aside ls s p a
known_aside s (known_start e es kind waits a) =
    let x = along_aside (InStream ∷ []) (with_pending es s) in_stream a in
    record { levels = x.levels; opened = x.opened; along = x.along }

or_more : (a b c : Bool) → (b ≡ true → c ≡ true) → (a || b) ≡ true → (a || c) ≡ true
or_more true b c more e = refl
or_more false b c more e = more e

ends_before_more : (xs ys : List PlainEvent) → ends_in xs ≡ true → ends_in (xs ++ ys) ≡ true
ends_before_more [] ys e = absurd (cc)
ends_before_more (x ∷ xs) ys e =
    or_more (ends_stream x.kind) (ends_in xs) (ends_in (xs ++ ys)) (λ f. ends_before_more xs ys f) e

ends_behind : (xs ys : List PlainEvent) → ends_in ys ≡ true → ends_in (xs ++ ys) ≡ true
ends_behind [] ys e = e
ends_behind (x ∷ xs) ys e = or_right (ends_stream x.kind) (ends_in (xs ++ ys)) (ends_behind xs ys e)

one_left : (o : OptionsData) (s t : StepState) → OneTurn o s t → Known s → Left s → Left t
one_left o s t x k left = subst Left (sym x.is) (λ ended. by s.reading.ended refl ended)
  where
    aside : Aside s
    aside = known_aside s k

    turned : Left (with_pending [] s) → Left x.behind
    turned bare =
        subst TurnLeft x.turn (step_left o aside.levels (with_pending [] s) aside.opened aside.along bare)

    Goal : Type 0
    Goal = (has_end (items x.behind.queue) ≡ true) ⊎ (ends_in (s.pending ++ x.behind.pending) ≡ true)

    more : (has_end (items x.behind.queue) ≡ true) ⊎ (ends_in x.behind.pending ≡ true) → Goal
    more (inl e) = inl e
    more (inr e) = inr (ends_behind s.pending x.behind.pending e)

    from : x.behind.reading.ended ≡ true → (has_end (items s.queue) ≡ true) ⊎ (ends_in s.pending ≡ true) → Goal
    from ended (inl e) = more (turned (λ y. inl e) ended)
    from ended (inr e) = inr (ends_before_more s.pending x.behind.pending e)

    by : (b : Bool) → s.reading.ended ≡ b → x.behind.reading.ended ≡ true → Goal
    by true is ended = from ended (left is)
    by false is ended = more (turned (λ y. absurd (let f : false ≡ true = sym is ∙ y in cc)) ended)

early_left : (o : OptionsData) (s t : StepState) → EarlyOf o s t → Known s → Left s → Left t
early_left o s t not_early k left = left
early_left o s t (turn_early {t = u} {given = given} p e) k left =
    one_left o u t (one o u t given e) (early_known o s u p k) (early_left o s u p k left)

-- ---- whatever was called

reached_left : (o : OptionsData) (c : Calls) → ReachedByCalls o c → CallsLeft c
reached_left o c (reached_start h) = λ over ended. absurd (cc)
reached_left o c (reached_call {c = d} r) = call_left o d (reached_known o d r).known (reached_left o d r)
reached_left o c (reached_recovery {c = d} stops looked r) =
    recover_left o stops looked d (reached_known o d r) (reached_left o d r)
reached_left o c (reached_early {c = d} {t = t} r early) = λ over.
    early_left o d.steps t early (reached_known o d r).known (reached_left o d r over)
reached_left o c (reached_counting {c = d} count r) = reached_left o d r
reached_left o c (reached_keeping keep r) = reached_left (record o { keep_tags = keep }) c r

given_some : (o : OptionsData) (c : Calls) (r : Result (Option PlainEvent × StepState) Fault)
    → ((t : StepState) → r ≡ Ok (None, t) → ⊥) → (given_by o c r).0 ≡ None → ⊥
given_some o c (Ok (Some e, t)) never is = cc
given_some o c (Ok (None, t)) never is = never t refl
given_some o c (Err f) never is = cc

open_by : (b : Bool) (o : OptionsData) (c : Calls) → b ≡ false
    → ((t : StepState) → next_event o c.steps ≡ Ok (None, t) → ⊥)
    → (if b then (None, c) else given_by o c (next_event o c.steps)).0 ≡ None → ⊥
open_by true o c is never e = cc
open_by false o c is never e = given_some o c (next_event o c.steps) never e

pub open_gives : (o : OptionsData) (c : Calls) → ReachedByCalls o c → c.over ≡ false → c.fault ≡ None → c.refusal ≡ None
    → (next_call o c).0 ≡ None → ⊥
unfolding next_call
open_gives o c r over fault refusal is =
    let closed : ((c.over || is_some c.fault) || is_some c.refusal) ≡ false =
    ap (λ b. (b || is_some c.fault) || is_some c.refusal) over
    ∙ ap (λ (f : Option Fault). is_some f || is_some c.refusal) fault
    ∙ ap (λ (f : Option Fault). is_some f) refusal in
    open_by ((c.over || is_some c.fault) || is_some c.refusal) o c closed
    (λ t e. some_event o c.steps t (reached_known o c r).known (reached_left o c r over) e) is
