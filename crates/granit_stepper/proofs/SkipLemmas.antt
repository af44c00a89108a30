-- What a stepper drops turn by turn is what the machine drops.
use Rattle.std.proofs.Common.{◌≡◌, Bool, true, false, List, [], ◌∷◌, ◌++◌, Option, Some, None, Result, Ok, Err}
use Rattle.std.proofs.Common.{refl}
use Rattle.std.proofs.Common.{sym, ap, subst, ◌∙◌, ◌⊎◌, inl, inr}
use Rattle.std.proofs.lemmas.List.{append-nil}
use Rattle.granit_error.specs.OptionsData.{OptionsData}
use Rattle.granit_lexemes.specs.Outcome.{Fault, ◌>>=◌}
use Rattle.granit_machine.specs.Lexing.{FlaggedItem}
use Rattle.granit_machine.specs.Parser.{feed}
use Rattle.granit_machine.specs.Reader.{lex_turn}
use Rattle.granit_lexemes.specs.PlainEvent.{DocumentEnd, EventKind, PlainEvent, StreamEnd}
use Rattle.granit_restart.proofs.TurnwiseLaws as turnwise
use Rattle.granit_restart.specs.Looking.{behind_waiting, turn_ahead}
use Rattle.granit_restart.specs.Skipping as skipping
use Rattle.granit_restart.specs.Skipping.{Ahead, AtStreamEnd, BehindDocument, Ended, Failed, NoEnd, SkipEnd, ahead}
use Rattle.granit_restart.specs.Skipping.{ahead_by, skip_by_turns, skip_fault, with_pending}
use Rattle.granit_restart.specs.Turned.{Turned, turned_on, turned_with}
use Rattle.granit_stepper.specs.Recovering.{DropsOn, drops_here, drops_turn}
use Rattle.granit_stepper.specs.Recovering.{front_kind}
use Rattle.granit_stepper.specs.declared.recovery.Front.TheVariants as fronts
use Rattle.granit_steps.specs.Steps.{StepState, front_turn, line_behind, may_go, read_more, read_unless, step_size}
use Rattle.granit_steps.specs.Steps.{Turn, step_turn, turn_by, with_fed, with_read}

-- ---- what waits

another_by : (kind : EventKind) (e : PlainEvent) (es : List PlainEvent) (later : Ahead)
    → front_kind kind ≡ fronts.Another ⊎ front_kind kind ≡ fronts.Comment → ahead_by kind e es later ≡ later
another_by DocumentEnd e es later (inl is) = absurd (cc)
another_by DocumentEnd e es later (inr is) = absurd (cc)
another_by StreamEnd e es later (inl is) = absurd (cc)
another_by StreamEnd e es later (inr is) = absurd (cc)
another_by kind e es later is = refl

-- an event that ends nothing is dropped
pub drops_one : (e : PlainEvent) (es : List PlainEvent)
    → front_kind e.kind ≡ fronts.Another ⊎ front_kind e.kind ≡ fronts.Comment → ahead es ≡ ahead (e ∷ es)
drops_one e es is = sym (another_by e.kind e es (ahead es) is)

document_by : (kind : EventKind) (e : PlainEvent) (es : List PlainEvent) (later : Ahead)
    → front_kind kind ≡ fronts.DocumentEnd → ahead_by kind e es later ≡ BehindDocument es
document_by DocumentEnd e es later is = refl
document_by kind e es later is = absurd (cc)

pub drops_document : (e : PlainEvent) (es : List PlainEvent) → front_kind e.kind ≡ fronts.DocumentEnd
    → ahead (e ∷ es) ≡ BehindDocument es
drops_document e es is = document_by e.kind e es (ahead es) is

stream_by : (kind : EventKind) (e : PlainEvent) (es : List PlainEvent) (later : Ahead)
    → front_kind kind ≡ fronts.StreamEnd → ahead_by kind e es later ≡ AtStreamEnd (e ∷ es)
stream_by StreamEnd e es later is = refl
stream_by kind e es later is = absurd (cc)

pub keeps_stream : (e : PlainEvent) (es : List PlainEvent) → front_kind e.kind ≡ fronts.StreamEnd
    → ahead (e ∷ es) ≡ AtStreamEnd (e ∷ es)
keeps_stream e es is = stream_by e.kind e es (ahead es) is

-- ---- turns

same_turn : (x y : Option (List PlainEvent) × StepState) → ◌≡◌ {A = Turn} (Ok x) (Ok y) → x ≡ y
same_turn x y e = cc

none_some : (y : List PlainEvent) (s t : StepState) → ◌≡◌ {A = Turn} (Ok (Some y, s)) (Ok (None, t)) → true ≡ false
none_some y s t e =
    let clash = ap (λ (x : Option (List PlainEvent) × StepState). x.0) (same_turn (Some y, s) (None, t) e) in
    absurd (cc)

same_state : (s t : StepState) → ◌≡◌ {A = Turn} (Ok (None, s)) (Ok (None, t)) → t ≡ s
same_state s t e = sym (ap (λ (x : Option (List PlainEvent) × StepState). x.1) (same_turn (None, s) (None, t) e))

-- where no turn is left nothing changes
module _ (s t : StepState) where
  some_made : {X : Type 0} (r : Result X Fault) (after : X → StepState)
      → ◌≡◌ {A = Turn} (r >>= λ x. Ok (Some [], after x)) (Ok (None, t)) → t ≡ s
  some_made (Ok x) after is = absurd (let clash = none_some [] (after x) t is in cc)
  some_made (Err f) after is = absurd (cc)

  none_unless : (o : OptionsData) (f : Option Fault) → read_unless o f s ≡ Ok (None, t) → t ≡ s
  none_unless o (Some f) is = absurd (cc)
  none_unless o None is = some_made (lex_turn o s.reading) (with_read o s) is

  none_read : (o : OptionsData) (b : Bool) → read_more o b s ≡ Ok (None, t) → t ≡ s
  none_read o true is = same_state s t is
  none_read o false is = none_unless o s.reading.fault is

  none_front : (o : OptionsData) (b : Bool) (i : FlaggedItem) (is : List FlaggedItem)
      → front_turn b o i is s ≡ Ok (None, t) → t ≡ s
  none_front o true i is e = some_made (feed o i (line_behind s.reading is) s.parser) (with_fed s is) e
  none_front o false i is e = none_read o s.reading.ended e

  none_by : (o : OptionsData) (es : List PlainEvent) (q : List FlaggedItem) → turn_by o es q s ≡ Ok (None, t) → t ≡ s
  none_by o (e ∷ es) q is = same_state s t is
  none_by o [] [] is = none_read o s.reading.ended is
  none_by o [] (i ∷ q) is = none_front o (may_go s.reading i q) i q is

  pub none_left : (o : OptionsData) → step_turn o s ≡ Ok (None, t) → t ≡ s
  unfolding step_turn
  none_left o is = none_by o s.pending s.queue is

ahead_by_turn : (o : OptionsData) (m t : StepState) (r : Turn) → step_turn o (with_pending [] m) ≡ r
    → behind_waiting m.pending r ≡ Ok (None, t) → t ≡ m
ahead_by_turn o m t (Ok (Some y, u)) is e =
    absurd (let clash = none_some y (with_pending (m.pending ++ u.pending) u) t e in cc)
ahead_by_turn o m t (Err f) is e = absurd (cc)
ahead_by_turn o m t (Ok (None, u)) is e =
    same_state (with_pending (m.pending ++ u.pending) u) t e
    ∙ ap (λ (v : StepState). with_pending (m.pending ++ v.pending) v) (none_left (with_pending [] m) u o is)
    ∙ ap (λ (es : List PlainEvent). with_pending es m) (append-nil m.pending)

pub none_ahead : (o : OptionsData) (m t : StepState) → turn_ahead o m ≡ Ok (None, t) → t ≡ m
none_ahead o m t e = ahead_by_turn o m t (step_turn o (with_pending [] m)) refl e

module _ (o : OptionsData) where
  pub drops_turned : {m n : StepState} → Turned o m → DropsOn o m n → Turned o n
  drops_turned turned (drops_here none) = turned_with [] turned
  drops_turned turned (drops_turn none turn rest) = drops_turned (turned_on (turned_with [] turned) turn) rest

  -- the same from a state of which what waits holds the same end
  pub drops_alike : {n k : StepState} (m : StepState) → DropsOn o n k → ahead n.pending ≡ ahead m.pending
      → with_pending [] n ≡ with_pending [] m → DropsOn o m k
  drops_alike m (drops_here none) ends same = subst (DropsOn o m) (sym same) (drops_here (sym ends ∙ none))
  drops_alike m (drops_turn none turn rest) ends same =
      drops_turn (sym ends ∙ none) (ap (step_turn o) (sym same) ∙ turn) rest

  -- what waits is of no matter but for an end in it
  alike_by : (m : StepState) (es fs : List PlainEvent) (r : Ahead) → ahead es ≡ r → ahead fs ≡ r
      → skip_by_turns o (with_pending es m) ≡ skip_by_turns o (with_pending fs m)
  alike_by m es fs (BehindDocument left) e f =
      turnwise.skip_document o (with_pending es m) left e ∙ sym (turnwise.skip_document o (with_pending fs m) left f)
  alike_by m es fs (AtStreamEnd left) e f =
      turnwise.skip_stream o (with_pending es m) left e ∙ sym (turnwise.skip_stream o (with_pending fs m) left f)
  alike_by m es fs NoEnd e f = ap (skipping.skip_ahead (λ t. skipping.skip_turn
      (skipping.skip_in o (step_size m)) t (step_turn o t)) (with_pending es m)) e
      ∙ sym (ap (skipping.skip_ahead (λ t. skipping.skip_turn
      (skipping.skip_in o (step_size m)) t (step_turn o t)) (with_pending fs m)) f)

  pub skips_alike : (m : StepState) (es fs : List PlainEvent) → ahead es ≡ ahead fs
      → skip_by_turns o (with_pending es m) ≡ skip_by_turns o (with_pending fs m)
  skips_alike m es fs same = alike_by m es fs (ahead fs) same refl
