-- Where recovery asks whether another document is there, a look ahead tells it: the end waits, no node is open, or the
-- next turn fails.
pub use Rattle.granit_looking.proofs.EndLaws.{look_none, next_none}
use Rattle.std.proofs.Common.{◌≡◌, ℕ, suc, Bool, true, false, List, [], ◌∷◌}
use Rattle.std.proofs.Common.{Option, Some}
use Rattle.std.proofs.Common.{None, Result, Ok, Err, refl, sym, ap, subst, ◌∙◌, arith}
use Rattle.std.specs.Prelude.{if◌then◌else◌}
use Rattle.granit_error.specs.OptionsData.{OptionsData}
use Rattle.granit_recovery.proofs.SeatSteps.{Calm, CalmBy}
use Rattle.granit_lexemes.specs.Outcome.{Fault}
use Rattle.granit_lexemes.specs.PlainEvent.{PlainEvent, PlainVersion, EventKind, Comment}
use Rattle.granit_machine.specs.Frames.{DocumentStage, Frame, Root, WithProperties, BlockSequence, BlockMapping}
use Rattle.granit_machine.specs.Frames.{FlowSequence, FlowMapping, FlowPair, Fresh, Directives, Inside, BehindRoot}
use Rattle.granit_machine.specs.Frames.{Between, ParserState, Waiting}
use Rattle.granit_calls.proofs.HeaderShapes.{Among}
use Rattle.granit_recovery.proofs.RecoveryLaws.{call_known, CallsKnown, looked_known, reached_known}
use Rattle.granit_recovery.proofs.RecoveryLaws.{skipped_good}
use Rattle.granit_recovery.proofs.RestLaws.{known_follows, queue_none, turn_is}
use Rattle.granit_recovery.proofs.SeatLaws.{SitsBy}
use Rattle.granit_recovery.proofs.SeatSteps.{Seats}
use Rattle.granit_recovery.proofs.SkipLaws.{comes_fault, comes_none, Known}
use Rattle.granit_recovery.proofs.SkipLaws.{Resumes}
use Rattle.granit_recovery.proofs.SkipLaws.{resumes}
use Rattle.granit_recovery.proofs.TurnLaws.{Along, along_end, along_stream}
use Rattle.granit_calls.specs.Asking.{LookTells}
use Rattle.granit_recovery.specs.Streams.{ReachedByCalls}
use Rattle.granit_restart.proofs.AheadLaws.{notes_told}
use Rattle.granit_looking.proofs.EndLaws.{given_follows, given_look}
use Rattle.granit_restart.proofs.LookLaws.{Asked, follows_told, kept, look_tells, told_look}
use Rattle.granit_restart.proofs.MarkLaws.{Sound, turned_sound}
use Rattle.granit_restart.specs.Ahead.{all_given, end_left, end_waits, is_note, NoneComes, OnlyNotes}
use Rattle.granit_restart.specs.Calls.{Calls, next_call}
use Rattle.granit_restart.specs.Following.{document_follows}
use Rattle.granit_restart.specs.Header.{is_directives}
use Rattle.granit_restart.specs.Looking.{behind_waiting, look_ahead, look_behind, look_by, look_in, Outside}
use Rattle.granit_restart.specs.Looking.{told_by, turn_ahead}
use Rattle.granit_restart.specs.Recovery.{looked_by, skipped}
use Rattle.granit_restart.specs.Skipping.{ends_before}
use Rattle.granit_restart.specs.Skipping.{Stops, with_pending}
use Rattle.granit_restart.specs.Turned.{Turned}
use Rattle.granit_steps.proofs.Futures.{Ready}
use Rattle.granit_recovery.proofs.SeatLaws.{Clean}
use Rattle.granit_recovery.proofs.SeatSteps.{Fine}
use Rattle.granit_recovery.proofs.RestLaws.{levels_of}
use Rattle.granit_steps.specs.Levels.{and_then, behind_event, behind_events, InStream, Level}
use Rattle.granit_steps.specs.Steps.{StepState, step_size, step_turn}
use Rattle.granit_recovery.proofs.TurnedLaws.{call_turned, looked_turned, reached_turned, skipped_by_turned}

module _ (o : OptionsData) where
  -- ---- comments leave open what was

  note_levels : (kind : EventKind) (ls : List Level) → is_note kind ≡ true → behind_event kind ls ≡ Some ls
  note_levels (Comment text placement) ls e = refl
  note_levels kind ls e = absurd (cc)

  notes_levels : (es : List PlainEvent) (ls : List Level) → OnlyNotes es → behind_events es ls ≡ Some ls
  notes_levels [] ls notes = refl
  notes_levels (e ∷ es) ls notes =
      ap (λ x. and_then x (behind_events es)) (note_levels e.kind ls notes.0) ∙ notes_levels es ls notes.1

  -- ---- no node is open

  clean_levels : (fs : List Frame) (stage : DocumentStage) → Clean fs → levels_of fs stage ≡ InStream ∷ [] → ⊥
  clean_levels [] stage c e = c
  clean_levels (Root explicit ∷ fs) stage c e = cc
  clean_levels (WithProperties q ∷ fs) stage c e = c
  clean_levels (BlockSequence column indentless ∷ fs) stage c e = cc
  clean_levels (BlockMapping column at ∷ fs) stage c e = cc
  clean_levels (FlowSequence behind ∷ fs) stage c e = cc
  clean_levels (FlowMapping single at ∷ fs) stage c e = cc
  clean_levels (FlowPair at ∷ fs) stage c e = cc

  fine_none : (fs : List Frame) (stage : DocumentStage) → Fine fs → levels_of fs stage ≡ InStream ∷ [] → fs ≡ []
  fine_none [] stage fine e = refl
  fine_none (Root explicit ∷ fs) stage fine e = absurd (cc)
  fine_none (WithProperties q ∷ fs) stage fine e = absurd (clean_levels fs stage fine e)
  fine_none (BlockSequence column indentless ∷ fs) stage fine e = absurd (cc)
  fine_none (BlockMapping column at ∷ fs) stage fine e = absurd (cc)
  fine_none (FlowSequence behind ∷ fs) stage fine e = absurd (cc)
  fine_none (FlowMapping single at ∷ fs) stage fine e = absurd (cc)
  fine_none (FlowPair at ∷ fs) stage fine e = absurd (cc)

  -- between documents, or among directives
  pub data Stood (p : ParserState) : Type 0 where
    stands_outside : Outside p → Stood p
    stands_directives : Among p → Stood p

  pub among_stage : (p : ParserState) → Among p → is_directives p.stage ≡ true
  among_stage p a = ap (λ (q : ParserState). is_directives q.stage) a.1

  outside_of : (p : ParserState) → p.frames ≡ [] → p.stage ≡ Fresh → p.waiting ≡ None → p.given ≡ [] → Outside p
  outside_of p frames stage waiting given =
      ap (λ fs. record p { frames = fs }) frames
      ∙ ap (λ st. record p { frames = []; stage = st }) stage
      ∙ ap (λ w. record p { frames = []; stage = Fresh; waiting = w }) waiting
      ∙ ap (λ es. record p { frames = []; stage = Fresh; waiting = None; given = es }) given

  among_of : (p : ParserState) (v : Option PlainVersion) → p.frames ≡ [] → p.stage ≡ Directives v → p.waiting ≡ None
      → p.given ≡ [] → Among p
  among_of p v frames stage waiting given = (
    v,
    ap (λ fs. record p { frames = fs }) frames
        ∙ ap (λ st. record p { frames = []; stage = st }) stage
        ∙ ap (λ w. record p { frames = []; stage = Directives v; waiting = w }) waiting
        ∙ ap (λ es. record p { frames = []; stage = Directives v; waiting = None; given = es }) given,
  )

  calm_none : (w : Option Waiting) → CalmBy [] w → w ≡ None
  calm_none None c = refl
  calm_none (Some w) c = absurd c

  stands_by : (p : ParserState) (stage : DocumentStage) → p.stage ≡ stage → p.frames ≡ [] → p.given ≡ [] → Calm p
      → SitsBy [] stage → levels_of [] stage ≡ InStream ∷ [] → Stood p
  stands_by p Fresh is frames given calm sits e =
      let none = calm_none p.waiting (subst (λ fs. CalmBy fs p.waiting) frames calm) in
      stands_outside (outside_of p frames is none given)
  stands_by p (Directives version) is frames given calm sits e =
      let none = calm_none p.waiting (subst (λ fs. CalmBy fs p.waiting) frames calm) in
      stands_directives (among_of p version frames is none given)
  stands_by p BehindRoot is frames given calm sits e = absurd (cc)
  stands_by p Inside is frames given calm sits e = absurd sits
  stands_by p Between is frames given calm sits e = absurd sits

  stands : (p : ParserState) → p.given ≡ [] → Fine p.frames → Seats p → levels_of p.frames p.stage ≡ InStream ∷ []
      → Stood p
  stands p given fine seats e =
      let frames = fine_none p.frames p.stage fine e in
      stands_by p p.stage refl frames given seats.calm (subst (λ fs. SitsBy fs p.stage) frames seats.sits)
      (subst (λ fs. levels_of fs p.stage ≡ InStream ∷ []) frames e)

  -- ---- what waits tells

  told_tells : (s : StepState) (room : ℕ) (x : Result Bool Fault) → told_by room s.pending ≡ Some x
      → (look_ahead o room s).0 ≡ document_follows o room s
  told_tells s room x e =
      told_look o room (suc (step_size s)) s x (omega arith) e ∙ sym (follows_told o room s x e)

  told_none : (s : StepState) (room : ℕ) (x : Result Bool Fault) → told_by room s.pending ≡ Some x
      → document_follows o room s ≡ Ok false → NoneComes o s
  told_none s room x e none =
      let same : x ≡ Ok false = sym (follows_told o room s x e) ∙ none in
      end_waits room (e ∙ ap (λ (r : Result Bool Fault). Some r) same)

  -- among directives
  directives_look : (s : StepState) (room : ℕ) → told_by room s.pending ≡ None → is_directives s.parser.stage ≡ true
      → (look_ahead o room s).0 ≡ Ok true
  directives_look s room e stage =
      let later = look_in o room (step_size s) in
      ap (λ told. (look_by o later s told).0) e
      ∙ ap (λ b. (if b then (Ok true, s) else look_behind later s (turn_ahead o s)).0) stage

  pub directives_follow : (s : StepState) (room : ℕ) → told_by room s.pending ≡ None
      → is_directives s.parser.stage ≡ true → document_follows o room s ≡ Ok true
  unfolding document_follows
  directives_follow s room e stage =
      let k = kept room s.pending e in
      k.past (λ left. if is_directives s.parser.stage then Ok true else Asked o s left)
      ∙ ap (λ b. if b then Ok true else Asked o s k.left) stage

  both_tell : (s : StepState) (room : ℕ) → Turned o s → told_by room s.pending ≡ None → Stood s.parser
      → (look_ahead o room s).0 ≡ document_follows o room s
  both_tell s room turned e (stands_outside out) = look_tells o room s turned out
  both_tell s room turned e (stands_directives a) =
      let stage = among_stage s.parser a in
      directives_look s room e stage ∙ sym (directives_follow s room e stage)

  both_none : (s : StepState) (room : ℕ) → Turned o s → told_by room s.pending ≡ None → Stood s.parser
      → document_follows o room s ≡ Ok false → NoneComes o s
  both_none s room turned e (stands_outside out) none = end_left room turned out none
  both_none s room turned e (stands_directives a) none =
      absurd (let f = sym (directives_follow s room e (among_stage s.parser a)) ∙ none in cc)

  -- along a stream

  pub along_stands : (s : StepState) → Along (InStream ∷ []) s → OnlyNotes s.pending → Stood s.parser
  along_stands s (along_stream e rests seats waits) notes =
      stands s.parser rests.given rests.fine seats
      (let f = sym (notes_levels s.pending (InStream ∷ []) notes) ∙ e in same_levels _ _ (sym f))
    where
      same_levels : (ls ms : List Level) → Some ls ≡ Some ms → ls ≡ ms
      same_levels ls ms e = cc
  along_stands s (along_end e over only ended) notes =
      absurd (let f = sym (notes_levels s.pending (InStream ∷ []) notes) ∙ e in cc)

  stream_tells : (s : StepState) (room : ℕ) (told : Option (Result Bool Fault)) → told_by room s.pending ≡ told
      → Turned o s → Along (InStream ∷ []) s → (look_ahead o room s).0 ≡ document_follows o room s
  stream_tells s room (Some x) e turned a = told_tells s room x e
  stream_tells s room None e turned a =
      both_tell s room turned e (along_stands s a (notes_told o room s.pending e))

  stream_none : (s : StepState) (room : ℕ) (told : Option (Result Bool Fault)) → told_by room s.pending ≡ told
      → Turned o s → Along (InStream ∷ []) s → document_follows o room s ≡ Ok false → NoneComes o s
  stream_none s room (Some x) e turned a none = told_none s room x e none
  stream_none s room None e turned a none =
      both_none s room turned e (along_stands s a (notes_told o room s.pending e)) none

  -- where all was read and given

  none_by : (b : Bool) (s : StepState) (room : ℕ) → is_directives s.parser.stage ≡ b → s.pending ≡ []
      → s.queue ≡ [] → s.reading.ended ≡ true → s.reading.fault ≡ None
      → (look_ahead o room s).0 ≡ document_follows o room s
  none_by true s room stage pending queue ended fault =
      let told = ap (told_by room) pending in
      directives_look s room told stage ∙ sym (directives_follow s room told stage)
  none_by false s room stage pending queue ended fault =
      given_look o s room pending queue ended stage ∙ sym (given_follows o s room pending queue ended fault stage)

  none_comes : (b : Bool) (s : StepState) (room : ℕ) → is_directives s.parser.stage ≡ b → s.pending ≡ []
      → s.queue ≡ [] → s.reading.ended ≡ true → s.reading.fault ≡ None → document_follows o room s ≡ Ok false
      → NoneComes o s
  none_comes true s room stage pending queue ended fault none =
      absurd (let f = sym (directives_follow s room (ap (told_by room) pending) stage) ∙ none in cc)
  none_comes false s room stage pending queue ended fault none = all_given pending queue ended fault stage

  read_tells : (s t : StepState) → Turned o s → s.pending ≡ [] → step_turn o s ≡ Ok (None, t) → LookTells o s
  read_tells s t turned pending e =
      let x = queue_none o s.queue s t (sym (turn_is o s pending) ∙ e) in
      let sound : Sound s = turned_sound o s turned in
      let ready : Ready s.reading s.queue = sound.ready in
      let fault = ready.one_end x.1 in
      record {
        tells = λ room. none_by (is_directives s.parser.stage) s room refl pending x.0 x.1 fault;
        none = λ room none. none_comes (is_directives s.parser.stage) s room refl pending x.0 x.1 fault none;
      }

  -- where the next document fails at once

  fault_look : (s : StepState) (room : ℕ) (f : Fault) (b : Bool) → s.pending ≡ [] → step_turn o s ≡ Err f
      → is_directives s.parser.stage ≡ b → (look_ahead o room s).0 ≡ Ok true
  fault_look s room f true pending e stage = directives_look s room (ap (told_by room) pending) stage
  fault_look s room f false pending e stage =
      let later = look_in o room (step_size s) in
      let same : with_pending [] s ≡ s = ap (λ es. with_pending es s) (sym pending) in
      ap (λ told. (look_by o later s told).0) (ap (told_by room) pending)
      ∙ ap (λ b. (if b then (Ok true, s) else look_behind later s (turn_ahead o s)).0) stage
      ∙ ap (λ r. (look_behind later s (behind_waiting s.pending r)).0) (ap (step_turn o) same ∙ e)

  fault_tells : (s : StepState) (f : Fault) → Known s → s.pending ≡ [] → step_turn o s ≡ Err f
      → ends_before s f ≡ true → LookTells o s
  fault_tells s f known pending e before = record {
    tells = λ room. fault_look s room f (is_directives s.parser.stage) pending e refl
        ∙ sym (known_follows o s room f known pending e before);
    none = λ room none. absurd (let g = sym (known_follows o s room f known pending e before) ∙ none in cc);
  }

  -- ---- where recovery asks

  good_tells : (s : StepState) → Turned o s → Known s → Resumes o s → LookTells o s
  good_tells s turned known (resumes a) = record {
    tells = λ room. stream_tells s room (told_by room s.pending) refl turned a;
    none = λ room none. stream_none s room (told_by room s.pending) refl turned a none;
  }
  good_tells s turned known (comes_none {t = t} pending e) = read_tells s t turned pending e
  good_tells s turned known (comes_fault f pending e before) = fault_tells s f known pending e before

  asks : (stops : Stops) (c : Calls) → CallsKnown c → Turned o c.steps → c.over ≡ false
      → LookTells o (skipped o stops c).steps
  asks stops c known turned over =
      let g = skipped_good o stops c.fault c.between c refl refl over known in
      good_tells (skipped o stops c).steps (skipped_by_turned o stops c.fault c.between c.steps turned) g.known
      g.resumed

  pub asks_here : (stops : Stops) (c : Calls) → ReachedByCalls o c → c.over ≡ false
      → LookTells o (skipped o stops c).steps
  asks_here stops c r over = asks stops c (reached_known o c r) (reached_turned o c r) over

  pub asks_looked : (stops : Stops) (c : Calls) → ReachedByCalls o c → (looked_by c (next_call o c)).over ≡ false
      → LookTells o (skipped o stops (looked_by c (next_call o c))).steps
  asks_looked stops c r over =
      let known = reached_known o c r in
      let turned = reached_turned o c r in
      asks stops (looked_by c (next_call o c)) (looked_known o c (next_call o c) known (call_known o c known))
      (looked_turned o c (next_call o c) turned (call_turned o c turned)) over
