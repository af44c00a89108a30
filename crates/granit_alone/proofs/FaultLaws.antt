-- Behind a fault that was given recovery leads to where the text that is left is read as its own.
pub use Rattle.granit_behind.proofs.TextEnds.{ReadsEnd, end_is_read}
pub use Rattle.granit_behind.proofs.LineGaps.{laid_at}
use Rattle.std.proofs.Common.{◌≡◌, ◌||◌, ◌&&◌, ◌+◌, ℕ, suc, Bool, true, false, List, [], ◌∷◌, ◌++◌, Option, Some, None}
use Rattle.std.proofs.Common.{Result, Ok, Err, refl, sym, ap, ◌∙◌, subst}
use Rattle.std.specs.Prelude.{if◌then◌else◌, is_some}
use Rattle.granit_alone.proofs.AloneLaws.{gives_alone, gives_end, rest_alone}
use Rattle.granit_alone.proofs.AnewLaws.{rest_anew}
use Rattle.granit_alone.proofs.EndMarks.{found_end}
use Rattle.granit_alone.proofs.SkipTold.{end_of, skip_told}
use Rattle.granit_alone.specs.Behind.{alone_given, anew_given, behind_both, behind_header, BoundaryBehind, end_waits}
use Rattle.granit_alone.specs.Behind.{GivesBehind, GivesItsText, GivesLeft, GivesOn, is_left, IsOpen, on_boundary}
use Rattle.granit_alone.specs.Behind.{start_waits, TellsOn, TellsRest, TellsRestAlone, text_end_waits}
use Rattle.granit_alone.specs.Lines.{CountsAt}
use Rattle.granit_error.specs.OptionsData.{OptionsData}
use Rattle.granit_lexemes.specs.Here.{Here}
use Rattle.granit_lexemes.specs.Lexeme as lexemes
use Rattle.granit_lexemes.specs.Lexeme.{Lexeme, LexemeKind}
use Rattle.granit_lexemes.specs.Outcome.{Fault}
use Rattle.granit_lexemes.specs.PlainEvent.{PlainEvent}
use Rattle.granit_machine.specs.Frames.{ParserState}
use Rattle.granit_recovery.proofs.RecoveryLaws.{first_same, second_same}
use Rattle.granit_recovery.specs.Streams.{EarlyOf, CallsGive, not_early, ReachedByCalls, reached_call, reached_counting}
use Rattle.granit_recovery.specs.Streams.{reached_early, reached_keeping, reached_recovery, reached_start, turn_early}
use Rattle.granit_restart.proofs.AheadLaws.{one, OneTurn}
use Rattle.granit_restart.specs.Boundary.{AtStart, AtTextEnd, Boundary, next_boundary, PastEnd}
use Rattle.granit_restart.specs.Calls.{Calls, given_by, next_call}
use Rattle.granit_restart.specs.Following.{document_follows}
use Rattle.granit_restart.specs.Header.{is_in_header}
use Rattle.granit_restart.specs.NextBoundary.{IsLineEnd}
use Rattle.granit_restart.specs.Recovery.{extra_of, looked_by, recover, recover_with, recovered, recovery_answer}
use Rattle.granit_restart.specs.Recovery.{resumed, skipped, skipped_by}
use Rattle.granit_restart.specs.Restart.{at_boundary, at_found, at_lexeme, behind_fault, behind_fault_at, cursor_at}
use Rattle.granit_restart.specs.Restart.{read_boundary}
use Rattle.granit_restart.specs.Skipping.{Ended, Failed, restarted, skip_by_turns, SkipEnd, skipped_fault, Stops}
use Rattle.granit_behind.proofs.FoundTells.{found_boundary, found_tells}
use Rattle.granit_led.proofs.LedLaws.{next_led, recover_led}
pub use Rattle.granit_led.proofs.LedLaws.{SkipLed, skip_led}
use Rattle.granit_led.specs.Alone.{alone_told, anew_told, shift_from, shift_to, TellsBehind, TellsItsText}
use Rattle.granit_led.specs.Alone.{TellsLeft}
use Rattle.granit_led.specs.Led.{Led, led_anew, led_keeping, led_on, led_start, led_with, TellsFound, TellsMark}
use Rattle.granit_shifted.specs.Shift.{moved_events, moved_fault_of}
use Rattle.granit_led.specs.Stopping.{EndFits, FaultFits}
use Rattle.granit_steps.specs.Steps.{next_event, StepState}

-- ---- where calls and recoveries lead

early_led : (o : OptionsData) (s t : StepState) → EarlyOf o s t → Led o s → Led o t
early_led o s t not_early led = led
early_led o s t (turn_early {t = u} {given = given} early e) led =
    let x : OneTurn o u t = one o u t given e in
    subst (Led o) (sym x.is)
    (led_with x.behind.parser (u.pending ++ x.behind.pending)
    (led_on (led_with u.parser [] (early_led o s u early led) refl) x.turn) refl)

pub reached_led : (o : OptionsData) (c : Calls) → ReachedByCalls o c → Led o c.steps
reached_led o c (reached_start h) = led_start h
reached_led o c (reached_call {c = d} r) = next_led o d (reached_led o d r)
reached_led o c (reached_recovery {c = d} stops looked r) = recover_led o stops looked d (reached_led o d r)
reached_led o c (reached_early {c = d} {t = t} r early) = early_led o d.steps t early (reached_led o d r)
reached_led o c (reached_counting {c = d} count r) =
    led_with (record (d.steps.parser) { count = count }) d.steps.pending (reached_led o d r) refl
reached_led o c (reached_keeping keep r) = led_keeping keep (reached_led (record o { keep_tags = keep }) c r)

-- ---- what an answer leaves

-- calls go on from a state
pub record GoesFrom (s : StepState) (d : Calls) : Type 0 where
  pub steps : d.steps ≡ s
  pub goes : IsOpen d

answer_goes : (s : StepState) (r : Result Bool Fault) (follows : Bool) (d : Calls)
    → recovery_answer r (resumed s) ≡ (Ok follows, d) → GoesFrom s d
answer_goes s (Ok true) follows d e =
    subst (GoesFrom s) (second_same _ _ e)
    (record { steps = refl; goes = record { over = refl; fault = refl; refusal = refl } })
answer_goes s (Ok false) follows d e =
    subst (GoesFrom s) (second_same _ _ e)
    (record { steps = refl; goes = record { over = refl; fault = refl; refusal = refl } })
answer_goes s (Err f) follows d e = absurd (let x = first_same _ _ e in cc)

module _ (o : OptionsData) (stops : Stops) (c d : Calls) (f : Fault) (follows : Bool) (fault : c.fault ≡ Some f) where
  skipped_goes : (extra : ℕ) (over : Bool) → over ≡ false
      → (if over then (Ok false, c) else recovered o extra (skipped o stops c)) ≡ (Ok follows, d)
      → GoesFrom (skipped_fault o stops f c.steps) d
  skipped_goes extra true is e = absurd (cc)
  skipped_goes extra false is e =
      subst (λ s. GoesFrom s d) (ap (λ (x : Option Fault). skipped_by o stops x c.between c.steps) fault)
      (answer_goes (skipped_by o stops c.fault c.between c.steps)
      (document_follows o (o.max_buffered_comment_events + extra) (skipped o stops c).steps) follows d e)

  or_some : (a b : Bool) → ((a || true) || b) ≡ true
  or_some true b = refl
  or_some false b = refl

  -- no call gives anything behind a fault
  silent : next_call o c ≡ (None, c)
  unfolding next_call
  silent =
      ap (λ b. if b then (None, c) else given_by o c (next_event o c.steps))
      (ap (λ (x : Option Fault). (c.over || is_some x) || is_some c.refusal) fault
      ∙ or_some c.over (is_some c.refusal))

  by_looked : (looked : Bool) (refusal : Option Fault) → c.over ≡ false
      → recover_with o stops looked refusal c ≡ (Ok follows, d) → GoesFrom (skipped_fault o stops f c.steps) d
  by_looked looked (Some g) over e = absurd (let x = first_same _ _ e in cc)
  by_looked false None over e = skipped_goes 0 c.over over e
  by_looked true None over e =
      let look : looked_by c (next_call o c) ≡ c = ap (looked_by c) silent in
      skipped_goes (extra_of (looked_by c (next_call o c)) (next_call o c).0) c.over over
      (ap (λ (b : Calls). if b.over then (Ok false, b)
      else recovered o (extra_of (looked_by c (next_call o c)) (next_call o c).0) (skipped o stops b)) (sym look) ∙ e)

  -- recovery goes on behind the fault
  pub recovery_goes : (looked : Bool) → c.over ≡ false → recover o stops looked c ≡ (Ok follows, d)
      → GoesFrom (skipped_fault o stops f c.steps) d
  unfolding recover
  recovery_goes looked over e = by_looked looked c.refusal over e

-- ---- the boundary

module _ (o : OptionsData) (s t : StepState) (h : Here)
    (ends : (l : Lexeme) → read_boundary h s.queue ≡ Some l → l.kind ≡ lexemes.DocumentEnd → IsLineEnd h.unread.text)
  where
    abbrev number : ℕ
    number = s.reading.reader.laid.number

    mark_on : (kind : LexemeKind) (l : Lexeme) → read_boundary h s.queue ≡ Some l → l.kind ≡ kind
        → TellsMark o number s.parser h kind l t → TellsOn o s h t
    mark_on lexemes.DocumentStart l found is tells =
        record { boundary = AtStart tells.0.place; next = start_waits found is tells.0; tells = tells.1 }
    mark_on lexemes.DocumentEnd l found is tells =
        let line = ends l found is in
        record { boundary = PastEnd h; next = end_waits found is line; tells = tells line }
    mark_on lexemes.StreamEnd l found is tells =
        record { boundary = AtTextEnd h; next = text_end_waits found is; tells = tells }
    mark_on kind l found is tells = absurd tells

    found_on : (r : Option Lexeme) → read_boundary h s.queue ≡ r → TellsFound o number s.parser h r t → TellsOn o s h t
    found_on None found tells = record { boundary = next_boundary h; next = is_left found; tells = tells }
    found_on (Some l) found tells = mark_on l.kind l found refl tells

-- ---- what calls give

module _ (o : OptionsData) (d e : Calls) (es : List PlainEvent) (goes : IsOpen d) (gives : CallsGive o d es e) where
  -- from the text at a place on
  text_gives : (lexemes : ℕ) (p : ParserState) (h : Here) → TellsItsText o lexemes h p d.steps
      → GivesItsText o lexemes h p [] es e
  text_gives lexemes p h (alone_told none tells) =
      alone_given none (gives_alone o h.unread.text (shift_to lexemes h p) d e es tells goes gives)
  text_gives lexemes p h (anew_told {es = all} {f = f} stay told tells) =
      anew_given stay
      (rest_anew o h.unread.text p.kept (shift_from lexemes h p) all f told d e [] es
      (record { more = moved_events (shift_from lexemes h p) all; are = refl; left = tells }) goes gives)

  -- where the document there was dropped first
  skipped_text : (lexemes : ℕ) (p : ParserState) (h : Here) (s : StepState) → TellsItsText o lexemes h p s
      → end_of (skip_by_turns o s) ≡ d.steps
      → (before : List PlainEvent) × GivesItsText o lexemes h p before es e
  skipped_text lexemes p h s (alone_told none tells) at =
      let shift = shift_to lexemes h p in
      let x = skip_told o s _ _ tells in (
        x.before,
        alone_given none (rest_alone o h.unread.text shift d e x.before es
            (subst (TellsRestAlone o h.unread.text shift x.before) at x.rest) goes gives),
      )
  skipped_text lexemes p h s (anew_told {es = all} {f = f} stay told tells) at =
      let shift = shift_from lexemes h p in
      let x = skip_told o s (moved_events shift all) (moved_fault_of shift f) tells in (
        x.before,
        anew_given stay (rest_anew o h.unread.text p.kept shift all f told d e x.before es
            (subst (TellsRest o (moved_events shift all) x.before (moved_fault_of shift f)) at x.rest) goes gives),
      )

  left_gives : (text : List ℕ) (lexemes : ℕ) (p : ParserState) (h : Here) → TellsLeft o text lexemes h p d.steps
      → GivesLeft o text lexemes h p es e
  left_gives [] lexemes p h tells = gives_end o h d e es tells goes gives
  left_gives (c ∷ cs) lexemes p h tells = text_gives lexemes p h tells

  behind_gives : (lexemes : ℕ) (p : ParserState) (b : Boundary) → TellsBehind o lexemes p b d.steps
      → GivesBehind o lexemes p b es e
  behind_gives lexemes p (AtStart h) tells = text_gives lexemes p h tells
  behind_gives lexemes p (PastEnd h) tells = left_gives h.unread.text (suc lexemes) p h tells
  behind_gives lexemes p (AtTextEnd h) tells = gives_end o h d e es tells goes gives

-- ---- behind a fault

-- wherever turns and restarts led
pub fault_tells : (o : OptionsData) (stop : Here) (s : StepState) → Led o s → CountsAt stop s
    → TellsOn o s (cursor_at stop s.reading) (behind_fault stop s).1
fault_tells o stop s led counts =
    let h = cursor_at stop s.reading in
    found_on o s (behind_fault stop s).1 h
    (λ l found is. found_end o stop s l led found is (found_boundary h s.queue l found)) (read_boundary h s.queue) refl
    (found_tells o s stop led counts)

-- a restart at a `---` is told
starts_there : (s : StepState) (b : Boundary) → (at_boundary s b).0 ≡ true → (g : Here) × (b ≡ AtStart g)
starts_there s (AtStart g) e = (g, refl)
starts_there s (PastEnd g) e = absurd (cc)
starts_there s (AtTextEnd g) e = absurd (cc)

at_start : (s : StepState) (h : Here) (b : Boundary) → BoundaryBehind s h b → (behind_fault_at h s).0 ≡ true
    → (g : Here) × (b ≡ AtStart g)
unfolding behind_fault_at
at_start s h b (is_left found) e =
    starts_there s (next_boundary h) (ap (λ r. (at_found h s r).0) (sym found) ∙ e)
at_start s h b (start_waits found kind r) e = (r.place, refl)
at_start s h b (end_waits {l = l} found kind line) e =
    absurd (let f : false ≡ true =
    ap (λ (k : LexemeKind). (at_lexeme h s k l).0) (sym kind) ∙ ap (λ r. (at_found h s r).0) (sym found) ∙ e in cc)
at_start s h b (text_end_waits {l = l} found kind) e =
    absurd (let f : false ≡ true =
    ap (λ (k : LexemeKind). (at_lexeme h s k l).0) (sym kind) ∙ ap (λ r. (at_found h s r).0) (sym found) ∙ e in cc)

module _ (o : OptionsData) (stops : Stops) (s : StepState) (d e : Calls) (es : List PlainEvent) (led : Led o s)
    (counts : FaultFits CountsAt o stops s) (goes : IsOpen d) (gives : CallsGive o d es e) where
  abbrev restart : Bool × StepState
  restart = behind_fault stops.first s

  tells : TellsOn o s (cursor_at stops.first s.reading) restart.1
  tells = fault_tells o stops.first s led counts.0

  -- what the document behind directives leaves
  dropped_gives : (t : StepState) → skip_by_turns o restart.1 ≡ Ended t → (g : Here) → tells.boundary ≡ AtStart g
      → d.steps ≡ t → GivesOn o stops s es e
  dropped_gives t ended g start at =
      let number = s.reading.reader.laid.number in
      let there : end_of (skip_by_turns o restart.1) ≡ d.steps = ap end_of ended ∙ sym at in
      let x = skipped_text o d e es goes gives number s.parser g restart.1
      (subst (λ b. TellsBehind o number s.parser b restart.1) start tells.tells) there in
      behind_header g x.0 (subst (BoundaryBehind s (cursor_at stops.first s.reading)) start tells.next) ended x.1

  failed_gives : (f : Fault) (n : StepState) → skip_by_turns o restart.1 ≡ Failed f n
      → d.steps ≡ (behind_fault stops.second n).1 → GivesOn o stops s es e
  failed_gives f n failed at =
      let led_there : Led o n = subst (SkipLed o) failed (skip_led o restart.1 (led_anew stops.first led)) in
      let counts_there : CountsAt stops.second n = subst (EndFits CountsAt stops.second) failed counts.1 in
      let x = fault_tells o stops.second n led_there counts_there in
      behind_both f x.boundary failed x.next
      (behind_gives o d e es goes gives n.reading.reader.laid.number n.parser x.boundary
      (subst (TellsBehind o n.reading.reader.laid.number n.parser x.boundary) (sym at) x.tells))

  skipped_gives : (end : SkipEnd) → skip_by_turns o restart.1 ≡ end → restart.0 ≡ true
      → d.steps ≡ restarted stops.second end
      → GivesOn o stops s es e
  skipped_gives (Ended t) is starts at =
      let g = at_start s (cursor_at stops.first s.reading) tells.boundary tells.next starts in
      dropped_gives t is g.0 g.1 at
  skipped_gives (Failed f n) is starts at = failed_gives f n is at

  header_gives : (b : Bool) → (b ≡ true → restart.0 ≡ true)
      → d.steps ≡ (if b then restarted stops.second (skip_by_turns o restart.1) else restart.1) → GivesOn o stops s es e
  header_gives true starts at = skipped_gives (skip_by_turns o restart.1) refl (starts refl) at
  header_gives false starts at =
      on_boundary tells.boundary tells.next
      (behind_gives o d e es goes gives s.reading.reader.laid.number s.parser tells.boundary
      (subst (TellsBehind o s.reading.reader.laid.number s.parser tells.boundary) (sym at) tells.tells))

  both_true : (a b : Bool) → (a && b) ≡ true → b ≡ true
  both_true true b e = e
  both_true false b e = absurd (cc)

  -- behind a fault in that state
  pub fault_gives : (f : Fault) → d.steps ≡ skipped_fault o stops f s → GivesOn o stops s es e
  fault_gives f at =
      header_gives (is_in_header o s f && restart.0) (both_true (is_in_header o s f) restart.0) at

pub recovery_gives : (o : OptionsData) (stops : Stops) (looked follows : Bool) (c d e : Calls) (f : Fault)
    (es : List PlainEvent) → ReachedByCalls o c → c.over ≡ false → c.fault ≡ Some f
    → FaultFits CountsAt o stops c.steps → recover o stops looked c ≡ (Ok follows, d) → CallsGive o d es e
    → GivesOn o stops c.steps es e
recovery_gives o stops looked follows c d e f es reached over fault counts is gives =
    let g = recovery_goes o stops c d f follows fault looked over is in
    fault_gives o stops c.steps d e es (reached_led o c reached) counts g.goes gives f g.steps

-- an answer that was asked where nothing was looked at
pub ask_goes : (o : OptionsData) (extra : ℕ) (s : StepState) (over : Bool) (c d : Calls) (follows : Bool) → over ≡ false
    → (if over then (Ok false, c) else recovered o extra (resumed s)) ≡ (Ok follows, d) → GoesFrom s d
ask_goes o extra s true c d follows is e = absurd (cc)
ask_goes o extra s false c d follows is e =
    answer_goes s (document_follows o (o.max_buffered_comment_events + extra) s) follows d e
