-- Where skipping ends, a stream goes on, or no event comes at all.
pub use Rattle.granit_streams.proofs.StreamLaws.{run_is_stream, told_begins}
use Rattle.std.proofs.Common.{◌≡◌, ℕ, zero, suc, ◌<◌, Bool, true, false, ◌&&◌, List, [], ◌∷◌, Option, Some, None}
use Rattle.std.proofs.Common.{Result}
use Rattle.std.proofs.Common.{Ok, Err, refl, sym, ap, subst, ◌∙◌, arith}
use Rattle.std.specs.Prelude.{if◌then◌else◌}
use Rattle.granit_error.specs.OptionsData.{OptionsData}
use Rattle.granit_lexemes.specs.Here.{Here, mark_of}
use Rattle.granit_lexemes.specs.Lexeme as lexemes
use Rattle.granit_lexemes.specs.Lexeme.{LexemeKind, Lexeme, OfLexeme}
use Rattle.granit_lexemes.specs.Outcome.{Fault, ◌>>=◌}
use Rattle.granit_lexemes.specs.Pieces.{then_more, turns, pieces}
use Rattle.granit_lexemes.specs.PlainEvent.{PlainEvent, EventKind, event_on, StreamStart, StreamEnd, DocumentEnd}
use Rattle.granit_machine.specs.Frames.{ParserState}
use Rattle.granit_machine.specs.Lexing.{FlaggedItem}
use Rattle.granit_machine.specs.Parser.{feed}
use Rattle.granit_machine.specs.Reader.{LexTurn, lex_turn}
use Rattle.granit_recovery.proofs.LevelLaws.{Open, all_closed, in_stream, split, event_keeps, events_keep}
use Rattle.granit_recovery.proofs.LevelLaws.{document_leaves, stream_leaves}
use Rattle.granit_recovery.proofs.TurnLaws.{Along, along_stream, along_end, TurnAlong, step_along}
use Rattle.granit_restart.proofs.MarkLaws.{items}
use Rattle.granit_restart.specs.Boundary.{Boundary, AtStart, PastEnd, AtTextEnd, next_boundary}
use Rattle.granit_restart.specs.Header.{is_in_header}
use Rattle.granit_restart.specs.Restart.{anew, at_boundary, at_lexeme, at_found, behind_fault, behind_fault_at}
use Rattle.granit_restart.specs.Restart.{cursor_at, read_boundary}
use Rattle.granit_restart.specs.Skipping.{Ahead, NoEnd, BehindDocument, AtStreamEnd, SkipEnd, Ended, Failed, Stops}
use Rattle.granit_restart.specs.Skipping.{ahead_by, ahead, ends_before, skip_turn, with_pending, skip_ahead, skip_in}
use Rattle.granit_restart.specs.Skipping.{skip_by_turns, restarted, skipped_fault, skipped_to, skipped_document}
use Rattle.granit_streams.proofs.Nesting.{levels_of}
use Rattle.granit_steps.proofs.StepLaws.{step_turn-Shortens}
use Rattle.granit_streams.proofs.StreamLaws.{has_end}
use Rattle.granit_steps.specs.Levels.{Level, InStream, behind_event, behind_events}
use Rattle.granit_steps.specs.Steps.{StepState, Turn, with_read, read_unless, read_more, with_fed}
use Rattle.granit_steps.specs.Steps.{front_turn, turn_by, may_go, line_behind, step_turn, step_size, first_pending}
use Rattle.granit_steps.specs.Steps.{next_event, start_from}

-- ---- what may be known of a state

-- the stream's start waits in front of what leaves a stream open, or what was given leaves these levels open
pub data Known (s : StepState) : Type 0 where
  known_start : (e : PlainEvent) (es : List PlainEvent) → e.kind ≡ StreamStart → s.pending ≡ e ∷ es
      → Along (InStream ∷ []) (with_pending es s) → Known s
  known_along : {ls : List Level} → Open ls → Along ls s → Known s

-- a stream goes on behind its start, or no event comes: nothing is left, or the next document fails at once
pub data Resumes (o : OptionsData) (s : StepState) : Type 0 where
  resumes : Along (InStream ∷ []) s → Resumes o s
  comes_none : {t : StepState} → s.pending ≡ [] → step_turn o s ≡ Ok (None, t) → Resumes o s
  comes_fault : (f : Fault) → s.pending ≡ [] → step_turn o s ≡ Err f → ends_before s f ≡ true → Resumes o s

pub record Good (o : OptionsData) (s : StepState) : Type 0 where
  pub known : Known s
  pub resumed : Resumes o s

good_stream : (o : OptionsData) (s : StepState) → Along (InStream ∷ []) s → Good o s
good_stream o s a = record { known = known_along in_stream a; resumed = resumes a }

pub start_known : (h : Here) → Known (start_from h)
start_known h =
    known_start (event_on StreamStart (mark_of h)) [] refl refl
    (along_stream refl (record { given = refl; fine = tt; held = tt }) (record { calm = tt; sits = tt }) refl)

-- ---- turns that give nothing

abbrev NextBy : OptionsData → StepState → Turn → Result (Option PlainEvent × StepState) Fault
NextBy o s r = (r >>= λ x. then_more (turns (step_turn o) (step_size s)) x.0 x.1)
    >>= λ x. Ok (first_pending x.1.pending x.1)

next_is : (o : OptionsData) (s : StepState) → next_event o s ≡ NextBy o s (step_turn o s)
unfolding next_event pieces turns
next_is o s = refl

pub failed_silent : (o : OptionsData) (s : StepState) (f : Fault) → step_turn o s ≡ Err f → (e : PlainEvent)
    (t : StepState) → next_event o s ≡ Ok (Some e, t) → ⊥
failed_silent o s f e x t n = let g = sym (next_is o s ∙ ap (NextBy o s) e) ∙ n in cc

-- a turn of which nothing comes changes nothing
abbrev NoneTurn : StepState → Turn → Type 0
NoneTurn s (Ok (Some y, t)) = Unit {0}
NoneTurn s (Ok (None, t)) = t ≡ s
NoneTurn s (Err f) = Unit {0}

none_read : (o : OptionsData) (s : StepState) (r : LexTurn)
    → NoneTurn s (r >>= λ x. Ok (Some [], with_read o s x))
none_read o s (Ok x) = tt
none_read o s (Err f) = tt

none_unless : (o : OptionsData) (s : StepState) (fault : Option Fault) → NoneTurn s (read_unless o fault s)
none_unless o s (Some f) = tt
none_unless o s None = none_read o s (lex_turn o s.reading)

none_more : (o : OptionsData) (s : StepState) (ended : Bool) → NoneTurn s (read_more o ended s)
none_more o s true = refl
none_more o s false = none_unless o s s.reading.fault

none_fed : (s : StepState) (is : List FlaggedItem) (r : Result (List PlainEvent × ParserState) Fault)
    → NoneTurn s (r >>= λ x. Ok (Some [], with_fed s is x))
none_fed s is (Ok x) = tt
none_fed s is (Err f) = tt

none_front : (b : Bool) (o : OptionsData) (s : StepState) (i : FlaggedItem) (is : List FlaggedItem)
    → NoneTurn s (front_turn b o i is s)
none_front true o s i is = none_fed s is (feed o i (line_behind s.reading is) s.parser)
none_front false o s i is = none_more o s s.reading.ended

none_by : (o : OptionsData) (es : List PlainEvent) (q : List FlaggedItem) (s : StepState)
    → NoneTurn s (turn_by o es q s)
none_by o (e ∷ es) q s = refl
none_by o [] [] s = none_more o s s.reading.ended
none_by o [] (i ∷ is) s = none_front (may_go s.reading i is) o s i is

none_turn : (o : OptionsData) (s : StepState) → NoneTurn s (step_turn o s)
unfolding step_turn
none_turn o s = none_by o s.pending s.queue s

abbrev pub event_in : Result (Option PlainEvent × StepState) Fault → Option PlainEvent
event_in (Ok x) = x.0
event_in (Err f) = None

pub none_silent : (o : OptionsData) (s t : StepState) → step_turn o s ≡ Ok (None, t) → s.pending ≡ [] → (e : PlainEvent)
    (u : StepState) → next_event o s ≡ Ok (Some e, u) → ⊥
none_silent o s t e none x u n =
    let same : t ≡ s = subst (NoneTurn s) e (none_turn o s) in
    let left : t.pending ≡ [] = ap (λ (v : StepState). v.pending) same ∙ none in
    let g : NextBy o s (Ok (None, t)) ≡ Ok (None, t) = ap (λ es. Ok (first_pending es t)) left in
    let h = ap event_in (sym g ∙ sym (next_is o s ∙ ap (NextBy o s) e) ∙ n) in cc

-- ---- behind a fault

anew_along : (may_prefix : Bool) (q : List FlaggedItem) (h : Here) (s : StepState) → has_end (items q) ≡ false
    → Along (InStream ∷ []) (anew may_prefix q h s)
anew_along may_prefix q h s e =
    along_stream refl (record { given = refl; fine = tt; held = tt }) (record { calm = tt; sits = tt }) e

boundary_along : (s : StepState) (b : Boundary) → Along (InStream ∷ []) (at_boundary s b).1
boundary_along s (AtStart h) = anew_along false _ _ s refl
boundary_along s (PastEnd h) = anew_along true [] h s refl
boundary_along s (AtTextEnd h) = anew_along false [] h s refl

lexeme_along : (h : Here) (s : StepState) (kind : LexemeKind) (l : Lexeme) → l.kind ≡ kind
    → Along (InStream ∷ []) (at_lexeme h s kind l).1
lexeme_along h s lexemes.DocumentStart l e = anew_along false _ _ s
    (ap (λ k. has_end (OfLexeme (record l { kind = k; ends_column = false }) ∷ [])) e)
lexeme_along h s lexemes.DocumentEnd l e = anew_along true [] h s refl
lexeme_along h s kind l e = anew_along false [] h s refl

found_along : (h : Here) (s : StepState) (r : Option Lexeme) → Along (InStream ∷ []) (at_found h s r).1
found_along h s (Some l) = lexeme_along h s l.kind l refl
found_along h s None = boundary_along s (next_boundary h)

pub restart_along : (stop : Here) (s : StepState) → Along (InStream ∷ []) (behind_fault stop s).1
unfolding behind_fault_at
restart_along stop s = let h = cursor_at stop s.reading in found_along h s (read_boundary h s.queue)

-- ---- what is ahead

abbrev AheadGoes : List Level → Ahead → Type 0
AheadGoes ms NoEnd = Unit {0}
AheadGoes ms (BehindDocument es) = behind_events es (InStream ∷ []) ≡ Some ms
AheadGoes ms (AtStreamEnd es) = behind_events es (InStream ∷ []) ≡ Some ms

ahead_kind : (kind : EventKind) (e : PlainEvent) (es : List PlainEvent) (ls ks ms : List Level) (later : Ahead)
    → Open ls → behind_event kind ls ≡ Some ks → behind_events es ks ≡ Some ms
    → behind_events (e ∷ es) ls ≡ Some ms → AheadGoes ms later → AheadGoes ms (ahead_by kind e es later)
ahead_kind DocumentEnd e es ls ks ms later p first rest all more =
    subst (λ ks. behind_events es ks ≡ Some ms) (document_leaves ls ks p first) rest
ahead_kind StreamEnd e es ls ks ms later p first rest all more =
    subst (λ ls. behind_events (e ∷ es) ls ≡ Some ms) (stream_leaves ls ks p first).0 all
ahead_kind kind e es ls ks ms later p first rest all more = more

ahead_goes : (es : List PlainEvent) (ls ms : List Level) → Open ls → behind_events es ls ≡ Some ms
    → AheadGoes ms (ahead es)
ahead_goes [] ls ms p e = tt
ahead_goes (x ∷ es) ls ms p e =
    let s = split x es ls ms e in
    ahead_kind x.kind x es ls s.behind ms (ahead es) p s.first s.rest e
    (ahead_goes es s.behind ms (event_keeps x.kind ls s.behind p s.first) s.rest)

-- ---- skipping

-- what a stream does where skipping ends; where it failed, all is dropped
abbrev EndGood : OptionsData → SkipEnd → Type 0
EndGood o (Ended s) = Good o s
EndGood o (Failed f s) = Unit {0}

abbrev SkipsGood : OptionsData → ℕ → Type 0
SkipsGood o n = (s : StepState) → step_size s < n → Known s → EndGood o (skip_in o n s)

fault_good : (b : Bool) (o : OptionsData) (s : StepState) (f : Fault) → ends_before s f ≡ b → Known s
    → s.pending ≡ [] → step_turn o s ≡ Err f → EndGood o (if b then Ended s else Failed f s)
fault_good true o s f before k none e = record { known = k; resumed = comes_fault f none e before }
fault_good false o s f before k none e = tt

turn_good : (o : OptionsData) (n : ℕ) (ls : List Level) (s : StepState) (r : Turn) → SkipsGood o n → Open ls
    → Along ls s → s.pending ≡ [] → step_size s < suc n → step_turn o s ≡ r → TurnAlong ls r
    → EndGood o (skip_turn (skip_in o n) s r)
turn_good o n ls s (Ok (Some y, t)) more p a none h e b =
    let less = step_turn-Shortens o s t y e in more t (omega (arith, less, h)) (known_along p b)
turn_good o n ls s (Ok (None, t)) more p a none h e b =
    record { known = known_along p a; resumed = comes_none none e }
turn_good o n ls s (Err f) more p a none h e b =
    fault_good (ends_before s f) o s f refl (known_along p a) none e

emptied_good : (o : OptionsData) (n : ℕ) (ls : List Level) (s : StepState) → SkipsGood o n → Open ls
    → Along ls (with_pending [] s) → step_size s < suc n
    → EndGood o (skip_turn (skip_in o n) (with_pending [] s) (step_turn o (with_pending [] s)))
emptied_good o n ls s more p a h =
    turn_good o n ls (with_pending [] s) (step_turn o (with_pending [] s)) more p a refl h refl
    (step_along o ls (with_pending [] s) a)

ahead_good : (o : OptionsData) (n : ℕ) (ms : List Level) (s : StepState) (r : Ahead) → SkipsGood o n → Open ms
    → ((es : List PlainEvent) (ls : List Level) → behind_events es ls ≡ Some ms → Along ls (with_pending es s))
    → step_size s < suc n → AheadGoes ms r
    → EndGood o (skip_ahead (λ t. skip_turn (skip_in o n) t (step_turn o t)) s r)
ahead_good o n ms s NoEnd more p along h goes = emptied_good o n ms s more p (along [] ms refl) h
ahead_good o n ms s (BehindDocument es) more p along h goes =
    good_stream o (with_pending es s) (along es (InStream ∷ []) goes)
ahead_good o n ms s (AtStreamEnd es) more p along h goes =
    good_stream o (with_pending es s) (along es (InStream ∷ []) goes)

along_good : (o : OptionsData) (n : ℕ) (ls : List Level) (s : StepState) → SkipsGood o n → step_size s < suc n
    → Open ls → Along ls s
    → EndGood o (skip_ahead (λ t. skip_turn (skip_in o n) t (step_turn o t)) s (ahead s.pending))
along_good o n ls s more h p (along_stream e rests seats w) =
    let ms = levels_of s.parser.frames s.parser.stage in
    ahead_good o n ms s (ahead s.pending) more (events_keep s.pending ls ms p e)
    (λ es ks g. along_stream g rests seats w) h (ahead_goes s.pending ls ms p e)
along_good o n ls s more h p (along_end e over only ended) =
    ahead_good o n [] s (ahead s.pending) more all_closed (λ es ks g. along_end g over only ended) h
    (ahead_goes s.pending ls [] p e)

pub start_ahead : (kind : EventKind) (e : PlainEvent) (es : List PlainEvent) → kind ≡ StreamStart
    → ahead_by kind e es (ahead es) ≡ ahead es
start_ahead StreamStart e es is = refl
start_ahead kind e es is = absurd (cc)

known_good : (o : OptionsData) (n : ℕ) (s : StepState) → SkipsGood o n → step_size s < suc n → Known s
    → EndGood o (skip_ahead (λ t. skip_turn (skip_in o n) t (step_turn o t)) s (ahead s.pending))
known_good o n s more h (known_start e es kind waits a) =
    subst (λ (x : Ahead). EndGood o (skip_ahead (λ t. skip_turn (skip_in o n) t (step_turn o t)) s x))
    (sym (ap ahead waits ∙ start_ahead e.kind e es kind))
    (along_good o n (InStream ∷ []) (with_pending es s) more h in_stream a)
known_good o n s more h (known_along {ls = ls} p a) = along_good o n ls s more h p a

skips_good : (o : OptionsData) (n : ℕ) → SkipsGood o n
skips_good o zero s h k = absurd (omega arith)
skips_good o (suc n) s h k = known_good o n s (skips_good o n) h k

skip_good : (o : OptionsData) (s : StepState) → Known s → EndGood o (skip_by_turns o s)
skip_good o s k = skips_good o (suc (step_size s)) s (omega arith) k

restarted_good : (o : OptionsData) (stop : Here) (x : SkipEnd) → EndGood o x → Good o (restarted stop x)
restarted_good o stop (Ended s) g = g
restarted_good o stop (Failed f s) g = good_stream o (behind_fault stop s).1 (restart_along stop s)

header_good : (o : OptionsData) (stop : Here) (b : Bool) (x : Bool × StepState) → Along (InStream ∷ []) x.1
    → Good o (if b then restarted stop (skip_by_turns o x.1) else x.1)
header_good o stop true x a = restarted_good o stop (skip_by_turns o x.1) (skip_good o x.1 (known_along in_stream a))
header_good o stop false x a = good_stream o x.1 a

-- behind a fault
pub fault_skipped : (o : OptionsData) (stops : Stops) (f : Fault) (s : StepState) → Good o (skipped_fault o stops f s)
fault_skipped o stops f s =
    header_good o stops.second (is_in_header o s f && (behind_fault stops.first s).0) (behind_fault stops.first s)
    (restart_along stops.first s)

skipped_good : (o : OptionsData) (stops : Stops) (x : SkipEnd) → EndGood o x → Good o (skipped_to o stops x)
skipped_good o stops (Ended s) g = g
skipped_good o stops (Failed f s) g = fault_skipped o stops f s

-- behind a document
pub document_skipped : (o : OptionsData) (stops : Stops) (s : StepState) → Known s
    → Good o (skipped_document o stops s)
document_skipped o stops s k = skipped_good o stops (skip_by_turns o s) (skip_good o s k)

abbrev pub NextAnswer : Type 0
NextAnswer = Result (Option PlainEvent × StepState) Fault

abbrev pub state_or : StepState → NextAnswer → StepState
state_or s (Ok x) = x.1
state_or s (Err f) = s
