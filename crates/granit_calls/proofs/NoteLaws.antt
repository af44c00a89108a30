-- Where recovery asks whether another document is there, it is asked behind a comment with room for one fewer.
use Rattle.std.proofs.Common.{◌≡◌, ◌<◌, inl, inr, ℕ, zero, suc, Bool, true, false, List, [], ◌∷◌, Option, Some, None}
use Rattle.std.proofs.Common.{Result, Ok, Err, refl, sym, ap, subst, ◌∙◌, arith}
use Rattle.std.specs.Prelude.{if◌then◌else◌}
use Rattle.granit_error.specs.OptionsData.{OptionsData}
use Rattle.granit_lexemes.specs.Outcome.{Fault}
use Rattle.granit_lexemes.specs.PlainEvent.{PlainEvent, EventKind, Comment}
use Rattle.granit_base.specs.Place.{Mark}
use Rattle.granit_calls.proofs.AskLaws.{along_stands, among_stage, directives_follow, Stood, stands_directives}
use Rattle.granit_calls.proofs.AskLaws.{stands_outside}
use Rattle.granit_calls.proofs.HeaderShapes.{Among, Between, Header, Heads, heads_among, heads_start}
use Rattle.granit_calls.proofs.HeaderShapes.{OneNote, Outer, Place, Stands, turn_leaves, TurnLeaves}
use Rattle.granit_recovery.proofs.RecoveryLaws.{call_known, first_same, looked_known, reached_known, second_same}
use Rattle.granit_recovery.proofs.RecoveryLaws.{skipped_good}
use Rattle.granit_recovery.proofs.SkipLaws.{comes_fault, comes_none, failed_silent, none_silent, Resumes, resumes}
use Rattle.granit_recovery.proofs.TurnedLaws.{call_turned, looked_turned, reached_turned, skipped_by_turned}
use Rattle.granit_recovery.specs.Streams.{ReachedByCalls}
use Rattle.granit_restart.proofs.AheadLaws.{turn_next, waits_next}
use Rattle.granit_restart.proofs.LookLaws.{Asked, follows_says, Looks, looks_directives, looks_on, looks_over}
use Rattle.granit_restart.proofs.LookLaws.{looks_start, outside_stage, turn_looks, TurnLooks}
use Rattle.granit_restart.proofs.MarkLaws.{Sound, turn_sound, turned_sound, TurnSound}
use Rattle.granit_restart.specs.Ahead.{is_note, OnlyNotes}
use Rattle.granit_restart.specs.Calls.{Calls, next_call}
use Rattle.granit_restart.specs.Following.{document_follows, past_event, past_events}
use Rattle.granit_restart.specs.Header.{is_directives}
use Rattle.granit_restart.specs.Looking.{Outside, told_by, told_event}
use Rattle.granit_restart.specs.Recovery.{looked_by, skipped}
use Rattle.granit_restart.specs.Skipping.{Stops, with_pending}
use Rattle.granit_restart.specs.Turned.{Turned}
use Rattle.granit_steps.proofs.StepLaws.{step_turn-Shortens}
use Rattle.granit_steps.specs.Steps.{next_event, StepState, step_size, step_turn, Turn}

-- a comment takes room for one
note_past : (kind : EventKind) (room : ℕ) (m : Mark) (more : ℕ → Result Bool Fault) → is_note kind ≡ true
    → past_event (suc room) kind m more ≡ more room
note_past (Comment text placement) room m more e = refl
note_past kind room m more e = absurd (cc)

-- what tells an answer where there is no room is no comment
record Other (es : List PlainEvent) : Type 0 where
  event : PlainEvent
  rest : List PlainEvent
  are : es ≡ event ∷ rest
  other : is_note event.kind ≡ false

told_other : (kind : EventKind) (m : Mark) (later : ℕ → Option (Result Bool Fault)) (b : Bool)
    → told_event 0 kind m later ≡ Some (Ok b) → is_note kind ≡ false
told_other (Comment text placement) m later b e = absurd (cc)
told_other kind m later b e = refl

tells_other : (es : List PlainEvent) (b : Bool) → told_by 0 es ≡ Some (Ok b) → Other es
tells_other [] b e = absurd (cc)
tells_other (x ∷ es) b e = record {
  event = x;
  rest = es;
  are = refl;
  other = told_other x.kind x.span.start (λ left. told_by left es) b e;
}

module _ (o : OptionsData) where
  -- an event that waits
  waiting_note : (s : StepState) (x : PlainEvent) (es : List PlainEvent) (room : ℕ) → is_note x.kind ≡ true
      → document_follows o (suc room) (with_pending (x ∷ es) s) ≡ document_follows o room (with_pending es s)
  unfolding document_follows
  waiting_note s x es room note =
      note_past x.kind room x.span.start
      (λ left. past_events left es (λ left. if is_directives s.parser.stage then Ok true else Asked o s left)) note

  -- the next event, and the state behind it
  abbrev Next : StepState → PlainEvent → StepState → Type 0
  Next s e after = next_event o s ≡ Ok (Some e, after)

  record Waits (s : StepState) (x e : PlainEvent) (es : List PlainEvent) (after : StepState) : Type 0 where
    event : x ≡ e
    leaves : with_pending es s ≡ after

  waits_is : (s : StepState) (x e : PlainEvent) (es : List PlainEvent) (after : StepState) → s.pending ≡ x ∷ es
      → Next s e after → Waits s x e es after
  waits_is s x e es after are is =
      let same : s ≡ with_pending (x ∷ es) s = ap (λ es. with_pending es s) are in
      let next = sym (ap (next_event o) same ∙ waits_next o s x es) ∙ is in
      let pair : ◌≡◌ {A = Option PlainEvent × StepState} (Some x, with_pending es s) (Some e, after) = cc in
      record { event = let f = first_same _ _ pair in cc; leaves = second_same _ _ pair }

  waits_note : (s : StepState) (x e : PlainEvent) (es : List PlainEvent) (after : StepState) (room : ℕ)
      → s.pending ≡ x ∷ es → Next s e after → is_note e.kind ≡ true
      → document_follows o (suc room) s ≡ document_follows o room after
  waits_note s x e es after room are is note =
      let w = waits_is s x e es after are is in
      let same : s ≡ with_pending (x ∷ es) s = ap (λ es. with_pending es s) are in
      ap (document_follows o (suc room)) same
      ∙ waiting_note s x es room (ap (λ (y : PlainEvent). is_note y.kind) w.event ∙ note)
      ∙ ap (document_follows o room) w.leaves

  -- ---- one turn

  -- what a turn leaves tells the same, or what comes first is no comment
  data Behind (room : ℕ) (s t : StepState) : Type 0 where
    goes_on : (place : Place) → Stands place t.parser
        → document_follows o (suc room) s ≡ document_follows o (suc room) t → Behind room s t
    begins : Other t.pending → Behind room s t

  among_follows : (room : ℕ) (s : StepState) → Among s.parser → OneNote s.pending
      → document_follows o (suc room) s ≡ Ok true
  among_follows room s a (inl none) =
      directives_follow o s (suc room) (ap (told_by (suc room)) none) (among_stage o s.parser a)
  among_follows room s a (inr x) =
      let same : s ≡ with_pending (x.0 ∷ []) s = ap (λ es. with_pending es s) x.1 in
      ap (document_follows o (suc room)) same ∙ waiting_note s x.0 [] room x.2
      ∙ directives_follow o (with_pending [] s) room refl (among_stage o s.parser a)

  outer_follows : (room : ℕ) (s : StepState) → s.pending ≡ [] → Outside s.parser
      → document_follows o room s ≡ Asked o s room
  outer_follows room s none out =
      follows_says o room s (outside_stage o s out) ∙ ap (λ es. past_events room es (Asked o s)) none

  header_behind : (room : ℕ) (s t : StepState) → s.pending ≡ [] → Among s.parser → Heads t.pending t.parser
      → Behind room s t
  header_behind room s t none a (heads_among b note) =
      goes_on Header b (among_follows room s a (inl none) ∙ sym (among_follows room t b note))
  header_behind room s t none a (heads_start e rest are other) =
      begins (record { event = e; rest = rest; are = are; other = other })

  over_stage : (t : StepState) → Outside t.parser → is_directives t.parser.stage ≡ true → ⊥
  over_stage t out e = let f = outside_stage o t out in cc

  read_behind : (room : ℕ) (s t : StepState) → s.pending ≡ [] → Outside s.parser
      → Asked o s (suc room) ≡ Ok true → Outer t.pending t.parser → is_directives t.parser.stage ≡ true
      → Behind room s t
  read_behind room s t none out e (inl over) stage = absurd (over_stage t over stage)
  read_behind room s t none out e (inr (heads_among b note)) stage =
      goes_on Header b (outer_follows (suc room) s none out ∙ e ∙ sym (among_follows room t b note))
  read_behind room s t none out e (inr (heads_start x rest are other)) stage =
      begins (record { event = x; rest = rest; are = are; other = other })

  looks_behind : (room : ℕ) (s t : StepState) → s.pending ≡ [] → Outside s.parser → Outer t.pending t.parser
      → Looks (Asked o s (suc room)) (suc room) (Asked o t) t.pending t.parser → Behind room s t
  looks_behind room s t none out left (looks_on over e) =
      goes_on Between over
      (outer_follows (suc room) s none out ∙ e ∙ sym (follows_says o (suc room) t (outside_stage o t over)))
  looks_behind room s t none out left (looks_start told e) = begins (tells_other t.pending true (told 0))
  looks_behind room s t none out left (looks_over stage told e) = begins (tells_other t.pending false (told 0))
  looks_behind room s t none out left (looks_directives stage e) = read_behind room s t none out e left stage

  turn_behind : (place : Place) (room : ℕ) (s t : StepState) (given : List PlainEvent) → Sound s → s.pending ≡ []
      → Stands place s.parser → step_turn o s ≡ Ok (Some given, t) → Behind room s t
  turn_behind Between room s t given sound none out e =
      let same : with_pending [] s ≡ s = ap (λ es. with_pending es s) (sym none) in
      let left : TurnLeaves Between (Ok (Some given, t)) =
      subst (TurnLeaves Between) e (turn_leaves o Between s none out) in
      looks_behind room s t none out left
      (subst (TurnLooks o (Asked o s (suc room)) (suc room)) (ap (step_turn o) same ∙ e)
      (turn_looks o s (suc room) sound out))
  turn_behind Header room s t given sound none a e =
      let left : TurnLeaves Header (Ok (Some given, t)) =
      subst (TurnLeaves Header) e (turn_leaves o Header s none a) in
      header_behind room s t none a left

  -- ---- turns up to an event

  abbrev NoteNext : ℕ → Type 0
  NoteNext n =
      (place : Place) (s : StepState) (e : PlainEvent) (after : StepState) (room : ℕ) → step_size s < n → Sound s
      → s.pending ≡ [] → Stands place s.parser → Next s e after → is_note e.kind ≡ true
      → document_follows o (suc room) s ≡ document_follows o room after

  behind_note : (n : ℕ) (t : StepState) (place : Place) (e : PlainEvent) (after : StepState) (room : ℕ)
      (es : List PlainEvent) → NoteNext n → step_size t < n → Sound t → t.pending ≡ es → Stands place t.parser
      → Next t e after → is_note e.kind ≡ true → document_follows o (suc room) t ≡ document_follows o room after
  behind_note n t place e after room [] more less sound are stands is note =
      more place t e after room less sound are stands is note
  behind_note n t place e after room (x ∷ es) more less sound are stands is note =
      waits_note t x e es after room are is note

  turned_note : (n : ℕ) (s t : StepState) (e : PlainEvent) (after : StepState) (room : ℕ) → NoteNext n
      → step_size t < n → Sound t → Behind room s t → Next t e after → is_note e.kind ≡ true
      → document_follows o (suc room) s ≡ document_follows o room after
  turned_note n s t e after room more less sound (goes_on place stands same) is note =
      same ∙ behind_note n t place e after room t.pending more less sound refl stands is note
  turned_note n s t e after room more less sound (begins x) is note =
      let w = waits_is t x.event e x.rest after x.are is in
      absurd (let f = sym x.other ∙ ap (λ (y : PlainEvent). is_note y.kind) w.event ∙ note in cc)

  turn_note : (n : ℕ) (place : Place) (s : StepState) (e : PlainEvent) (after : StepState) (room : ℕ) (r : Turn)
      → NoteNext n → step_size s < suc n → Sound s → s.pending ≡ [] → Stands place s.parser → Next s e after
      → is_note e.kind ≡ true → step_turn o s ≡ r → document_follows o (suc room) s ≡ document_follows o room after
  turn_note n place s e after room (Ok (Some given, t)) more h sound none stands is note turn =
      let less = step_turn-Shortens o s t given turn in
      let kept : TurnSound (Ok (Some given, t)) = subst TurnSound turn (turn_sound o s sound) in
      turned_note n s t e after room more (omega (arith, less, h)) kept
      (turn_behind place room s t given sound none stands turn) (sym (turn_next o s t given turn) ∙ is) note
  turn_note n place s e after room (Ok (None, t)) more h sound none stands is note turn =
      absurd (none_silent o s t turn none e after is)
  turn_note n place s e after room (Err f) more h sound none stands is note turn =
      absurd (failed_silent o s f turn e after is)

  note_next : (n : ℕ) → NoteNext n
  note_next zero place s e after room h sound none stands is note = absurd (omega arith)
  note_next (suc n) place s e after room h sound none stands is note =
      turn_note n place s e after room (step_turn o s) (note_next n) h sound none stands is note refl

  -- ---- where recovery asks

  standing_note : (s : StepState) (e : PlainEvent) (after : StepState) (room : ℕ) → Sound s → s.pending ≡ []
      → Stood o s.parser → Next s e after → is_note e.kind ≡ true
      → document_follows o (suc room) s ≡ document_follows o room after
  standing_note s e after room sound none (stands_outside out) is note =
      note_next (suc (step_size s)) Between s e after room (omega arith) sound none out is note
  standing_note s e after room sound none (stands_directives a) is note =
      note_next (suc (step_size s)) Header s e after room (omega arith) sound none a is note

  pending_note : (s : StepState) (e : PlainEvent) (after : StepState) (room : ℕ) (es : List PlainEvent)
      → s.pending ≡ es → Turned o s → Resumes o s → Next s e after → is_note e.kind ≡ true
      → document_follows o (suc room) s ≡ document_follows o room after
  pending_note s e after room (x ∷ es) are turned r is note = waits_note s x e es after room are is note
  pending_note s e after room [] are turned (resumes a) is note =
      standing_note s e after room (turned_sound o s turned) are
      (along_stands o s a (subst (λ es. OnlyNotes es) (sym are) tt)) is note
  pending_note s e after room [] are turned (comes_none {t = t} none turn) is note =
      absurd (none_silent o s t turn none e after is)
  pending_note s e after room [] are turned (comes_fault f none turn before) is note =
      absurd (failed_silent o s f turn e after is)

  pub note_here : (stops : Stops) (c : Calls) (e : PlainEvent) (after : StepState) (room : ℕ) → ReachedByCalls o c
      → c.over ≡ false → Next (skipped o stops c).steps e after → is_note e.kind ≡ true
      → document_follows o (suc room) (skipped o stops c).steps ≡ document_follows o room after
  note_here stops c e after room r over is note =
      let g = skipped_good o stops c.fault c.between c refl refl over (reached_known o c r) in
      let s = (skipped o stops c).steps in
      pending_note s e after room s.pending refl
      (skipped_by_turned o stops c.fault c.between c.steps (reached_turned o c r)) g.resumed is note

  pub note_looked : (stops : Stops) (c : Calls) (e : PlainEvent) (after : StepState) (room : ℕ) → ReachedByCalls o c
      → (looked_by c (next_call o c)).over ≡ false
      → Next (skipped o stops (looked_by c (next_call o c))).steps e after → is_note e.kind ≡ true
      → document_follows o (suc room) (skipped o stops (looked_by c (next_call o c))).steps
      ≡ document_follows o room after
  note_looked stops c e after room r over is note =
      let known = reached_known o c r in
      let turned = reached_turned o c r in
      let d = looked_by c (next_call o c) in
      let g = skipped_good o stops d.fault d.between d refl refl over
      (looked_known o c (next_call o c) known (call_known o c known)) in
      let s = (skipped o stops d).steps in
      pending_note s e after room s.pending refl
      (skipped_by_turned o stops d.fault d.between d.steps (looked_turned o c (next_call o c) turned
      (call_turned o c turned))) g.resumed is note
