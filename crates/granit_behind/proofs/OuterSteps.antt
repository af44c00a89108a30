-- Calls give the same events from states that differ where no document is open, or before the next gap alone.
use Rattle.std.proofs.Common.{◌≡◌, ℕ, zero, suc, Bool, true, false, List, [], ◌∷◌, ◌++◌, Option, Some, None, Result, Ok}
use Rattle.std.proofs.Common.{Err}
use Rattle.std.proofs.Common.{refl, sym, ap, subst, ◌+◌, ◌*◌, length}
use Rattle.granit_error.specs.OptionsData.{OptionsData}
use Rattle.granit_lexemes.specs.Here.{Here, text_len}
use Rattle.granit_lexemes.specs.Outcome.{Fault, ◌>>=◌}
use Rattle.granit_lexemes.specs.Pieces.{with_front, then_more, turns, pieces}
use Rattle.granit_lexemes.specs.PlainEvent.{PlainEvent}
use Rattle.granit_machine.specs.Frames.{ParserState}
use Rattle.granit_machine.specs.Laid.{Laid}
use Rattle.granit_machine.specs.Lexing.{FlaggedItem}
use Rattle.granit_machine.specs.Parser.{feed}
use Rattle.granit_machine.specs.Reader.{LexState, LexTurn, behind_read, lex_turn, read}
use Rattle.granit_machine.specs.ReaderState.{Read}
use Rattle.granit_steps.specs.Steps.{StepState, may_go, line_behind, Turn, with_read, read_unless, read_more, with_fed}
use Rattle.granit_steps.specs.Steps.{front_turn, turn_by, step_turn, step_size, first_pending, settle, next_event}
use Rattle.granit_steps.specs.Told.{GivesEvents, gives_end, gives_fault, gives_event}
use Rattle.granit_behind.proofs.Outer.{AlikeState, AlikeFed, feeds_on, feeds_not, feed_alike}

-- ---- readers that read the same

abbrev pub reading_at : Here → Laid → Option Fault → LexState
reading_at h l f = record { reader = record { here = h; laid = l }; ended = false; fault = f }

pub data AlikeReading (o : OptionsData) : LexState → LexState → Type 0 where
  same_reading : (l : LexState) → AlikeReading o l l
  both_read : (h k : Here) (l : Laid) (f : Option Fault) → text_len h ≡ text_len k
      → read o (record { here = h; laid = l }) ≡ read o (record { here = k; laid = l })
      → AlikeReading o (reading_at h l f) (reading_at k l f)

module _ (o : OptionsData) where
  pub data AlikeSteps : StepState → StepState → Type 0 where
    alike : {l k : LexState} {p q : ParserState} → AlikeReading o l k → AlikeState p q → (queue : List FlaggedItem)
        (pending : List PlainEvent)
        → AlikeSteps (record { reading = l; queue = queue; parser = p; pending = pending })
        (record { reading = k; queue = queue; parser = q; pending = pending })

  pub data AlikeTurn : Turn → Turn → Type 0 where
    turns_on : (given : Option (List PlainEvent)) {s t : StepState} → AlikeSteps s t
        → AlikeTurn (Ok (given, s)) (Ok (given, t))
    turns_not : (f : Fault) → AlikeTurn (Err f) (Err f)

  -- ---- a read

  abbrev read_on : StepState → LexTurn → Turn
  read_on s r = r >>= λ x. Ok (Some [], with_read o s x)

  on_read : (r : LexTurn) (l k : LexState) (p q : ParserState) (queue : List FlaggedItem) (pending : List PlainEvent)
      → AlikeState p q
      → AlikeTurn (read_on (record { reading = l; queue = queue; parser = p; pending = pending }) r)
      (read_on (record { reading = k; queue = queue; parser = q; pending = pending }) r)
  on_read (Ok x) l k p q queue pending y = turns_on (Some []) (alike (same_reading x.1) y _ pending)
  on_read (Err f) l k p q queue pending y = turns_not f

  read_at : (r : Read) (h k : Here) (l : Laid) (p q : ParserState) (queue : List FlaggedItem)
      (pending : List PlainEvent) → text_len h ≡ text_len k
      → read o (record { here = h; laid = l }) ≡ read o (record { here = k; laid = l }) → AlikeState p q
      → AlikeTurn (read_on (record { reading = reading_at h l None; queue = queue; parser = p; pending = pending })
      (behind_read r (record { here = h; laid = l })))
      (read_on (record { reading = reading_at k l None; queue = queue; parser = q; pending = pending })
      (behind_read r (record { here = k; laid = l })))
  read_at (Ok (items, after)) h k l p q queue pending len e y =
      turns_on (Some []) (alike (same_reading _) y _ pending)
  read_at (Err f) h k l p q queue pending len e y =
      turns_on (Some []) (alike (both_read h k l (Some f) len e) y _ pending)

  unless_alike : (f : Option Fault) (l k : LexState) (p q : ParserState) (queue : List FlaggedItem)
      (pending : List PlainEvent) → l.fault ≡ f → AlikeReading o l k → AlikeState p q
      → AlikeTurn (read_unless o f (record { reading = l; queue = queue; parser = p; pending = pending }))
      (read_unless o f (record { reading = k; queue = queue; parser = q; pending = pending }))
  unfolding lex_turn
  unless_alike (Some f) l k p q queue pending e x y = turns_not f
  unless_alike None l k p q queue pending e (same_reading m) y = on_read (lex_turn o m) m m p q queue pending y
  unless_alike None l k p q queue pending e (both_read h g m f len same) y =
      subst (λ (f : Option Fault). AlikeTurn
      (read_on (record { reading = reading_at h m f; queue = queue; parser = p; pending = pending })
      (behind_read (read o (record { here = h; laid = m })) (record { here = h; laid = m })))
      (read_on (record { reading = reading_at g m f; queue = queue; parser = q; pending = pending })
      (behind_read (read o (record { here = g; laid = m })) (record { here = g; laid = m })))) (sym e)
      (subst (λ (r : Read). AlikeTurn
      (read_on (record { reading = reading_at h m None; queue = queue; parser = p; pending = pending })
      (behind_read (read o (record { here = h; laid = m })) (record { here = h; laid = m })))
      (read_on (record { reading = reading_at g m None; queue = queue; parser = q; pending = pending })
      (behind_read r (record { here = g; laid = m })))) same
      (read_at (read o (record { here = h; laid = m })) h g m p q queue pending len same y))

  more_alike : (b : Bool) (l k : LexState) (p q : ParserState) (queue : List FlaggedItem) (pending : List PlainEvent)
      → AlikeReading o l k → AlikeState p q
      → AlikeTurn (read_more o b (record { reading = l; queue = queue; parser = p; pending = pending }))
      (read_more o b (record { reading = k; queue = queue; parser = q; pending = pending }))
  more_alike true l k p q queue pending x y = turns_on None (alike x y queue pending)
  more_alike false l k p q queue pending (same_reading m) y =
      unless_alike m.fault m m p q queue pending refl (same_reading m) y
  more_alike false l k p q queue pending (both_read h g m f len same) y =
      unless_alike f (reading_at h m f) (reading_at g m f) p q queue pending refl (both_read h g m f len same) y

  -- ---- a turn

  on_fed : (r n : Result (List PlainEvent × ParserState) Fault) (l k : LexState) (p q : ParserState)
      (queue is : List FlaggedItem) (pending : List PlainEvent) → AlikeReading o l k → AlikeFed r n
      → AlikeTurn (r >>= λ x. Ok
      (Some [], with_fed (record { reading = l; queue = queue; parser = p; pending = pending }) is x))
      (n >>= λ x. Ok
      (Some [], with_fed (record { reading = k; queue = queue; parser = q; pending = pending }) is x))
  on_fed r n l k p q queue is pending x (feeds_on es y) = turns_on (Some []) (alike x y is es)
  on_fed r n l k p q queue is pending x (feeds_not f) = turns_not f

  line_alike : (l k : LexState) (is : List FlaggedItem) → AlikeReading o l k → line_behind l is ≡ line_behind k is
  line_alike l k is (same_reading m) = refl
  line_alike l k is (both_read h g m f len same) = refl

  may_alike : (l k : LexState) (i : FlaggedItem) (is : List FlaggedItem) → AlikeReading o l k
      → may_go l i is ≡ may_go k i is
  may_alike l k i is (same_reading m) = refl
  may_alike l k i is (both_read h g m f len same) = refl

  ended_alike : (l k : LexState) → AlikeReading o l k → l.ended ≡ k.ended
  ended_alike l k (same_reading m) = refl
  ended_alike l k (both_read h g m f len same) = refl

  front_alike : (b : Bool) (i : FlaggedItem) (is : List FlaggedItem) (l k : LexState) (p q : ParserState)
      (queue : List FlaggedItem) (pending : List PlainEvent) → AlikeReading o l k → AlikeState p q
      → AlikeTurn (front_turn b o i is (record { reading = l; queue = queue; parser = p; pending = pending }))
      (front_turn b o i is (record { reading = k; queue = queue; parser = q; pending = pending }))
  front_alike true i is l k p q queue pending x y =
      on_fed (feed o i (line_behind l is) p) (feed o i (line_behind k is) q) l k p q queue is pending x
      (subst (λ (next : Option ℕ). AlikeFed (feed o i (line_behind l is) p) (feed o i next q)) (line_alike l k is x)
      (feed_alike o i (line_behind l is) p q y))
  front_alike false i is l k p q queue pending x y =
      subst (λ (b : Bool). AlikeTurn
      (read_more o l.ended (record { reading = l; queue = queue; parser = p; pending = pending }))
      (read_more o b (record { reading = k; queue = queue; parser = q; pending = pending }))) (ended_alike l k x)
      (more_alike l.ended l k p q queue pending x y)

  by_alike : (es : List PlainEvent) (is : List FlaggedItem) (l k : LexState) (p q : ParserState)
      (queue : List FlaggedItem) (pending : List PlainEvent) → AlikeReading o l k → AlikeState p q
      → AlikeTurn (turn_by o es is (record { reading = l; queue = queue; parser = p; pending = pending }))
      (turn_by o es is (record { reading = k; queue = queue; parser = q; pending = pending }))
  by_alike (e ∷ es) is l k p q queue pending x y = turns_on None (alike x y queue pending)
  by_alike [] [] l k p q queue pending x y =
      subst (λ (b : Bool). AlikeTurn
      (read_more o l.ended (record { reading = l; queue = queue; parser = p; pending = pending }))
      (read_more o b (record { reading = k; queue = queue; parser = q; pending = pending }))) (ended_alike l k x)
      (more_alike l.ended l k p q queue pending x y)
  by_alike [] (i ∷ is) l k p q queue pending x y =
      subst (λ (b : Bool). AlikeTurn
      (front_turn (may_go l i is) o i is (record { reading = l; queue = queue; parser = p; pending = pending }))
      (front_turn b o i is (record { reading = k; queue = queue; parser = q; pending = pending })))
      (may_alike l k i is x)
      (front_alike (may_go l i is) i is l k p q queue pending x y)

  pub turn_alike : (s t : StepState) → AlikeSteps s t → AlikeTurn (step_turn o s) (step_turn o t)
  unfolding step_turn
  turn_alike s t (alike {l = l} {k = k} {p = p} {q = q} x y queue pending) =
      by_alike pending queue l k p q queue pending x y

  -- ---- as many turns as are wanted

  data AlikeTurns : Result (List PlainEvent × StepState) Fault → Result (List PlainEvent × StepState) Fault
      → Type 0 where
    all_on : (es : List PlainEvent) {s t : StepState} → AlikeSteps s t → AlikeTurns (Ok (es, s)) (Ok (es, t))
    all_not : (f : Fault) → AlikeTurns (Err f) (Err f)

  fronted : (es : List PlainEvent) (r n : Result (List PlainEvent × StepState) Fault) → AlikeTurns r n
      → AlikeTurns (with_front es r) (with_front es n)
  fronted es r n (all_on fs x) = all_on (es ++ fs) x
  fronted es r n (all_not f) = all_not f

  then_alike : (k : StepState → Result (List PlainEvent × StepState) Fault)
      → ((s t : StepState) → AlikeSteps s t → AlikeTurns (k s) (k t)) → (r n : Turn) → AlikeTurn r n
      → AlikeTurns (r >>= λ x. then_more k x.0 x.1) (n >>= λ x. then_more k x.0 x.1)
  then_alike k h r n (turns_on None x) = all_on [] x
  then_alike k h r n (turns_on (Some es) {s = s} {t = t} x) = fronted es (k s) (k t) (h s t x)
  then_alike k h r n (turns_not f) = all_not f

  turns_alike : (n : ℕ) (s t : StepState) → AlikeSteps s t
      → AlikeTurns (turns (step_turn o) n s) (turns (step_turn o) n t)
  unfolding turns
  turns_alike zero s t x = all_on [] x
  turns_alike (suc n) s t x =
      then_alike (turns (step_turn o) n) (turns_alike n) (step_turn o s) (step_turn o t) (turn_alike s t x)

  size_alike : (s t : StepState) → AlikeSteps s t → step_size s ≡ step_size t
  size_alike s t (alike (same_reading l) y queue pending) = refl
  size_alike s t (alike (both_read h k l None len same) y queue pending) =
      ap (λ (n : ℕ). 3 * suc n + length queue) len
  size_alike s t (alike (both_read h k l (Some f) len same) y queue pending) = refl

  settle_alike : (s t : StepState) → AlikeSteps s t → AlikeTurns (settle o s) (settle o t)
  unfolding pieces
  settle_alike s t x =
      subst (λ (n : ℕ). AlikeTurns (settle o s) (turns (step_turn o) (suc n) t)) (size_alike s t x)
      (turns_alike (suc (step_size s)) s t x)

  -- ---- one event

  abbrev pub AlikeCall : Result (Option PlainEvent × StepState) Fault → Result (Option PlainEvent × StepState) Fault
      → Type 0
  AlikeCall (Ok (e, s)) r = (t : StepState) × AlikeSteps s t × (r ≡ Ok (e, t))
  AlikeCall (Err f) r = r ≡ Err f

  first_alike : (s t : StepState) → AlikeSteps s t
      → AlikeCall (Ok (first_pending s.pending s)) (Ok (first_pending t.pending t))
  first_alike s t (alike x y queue []) = (t, alike x y queue [], refl)
  first_alike s t (alike {k = k} {q = q} x y queue (e ∷ es)) =
      (record { reading = k; queue = queue; parser = q; pending = es }, alike x y queue es, refl)

  call_by : (r n : Result (List PlainEvent × StepState) Fault) → AlikeTurns r n
      → AlikeCall (r >>= λ x. Ok (first_pending x.1.pending x.1)) (n >>= λ x. Ok (first_pending x.1.pending x.1))
  call_by r n (all_on es {s = s} {t = t} x) = first_alike s t x
  call_by r n (all_not f) = refl

  pub call_alike : (s t : StepState) → AlikeSteps s t → AlikeCall (next_event o s) (next_event o t)
  unfolding next_event
  call_alike s t x = call_by (settle o s) (settle o t) (settle_alike s t x)

  -- ---- all events

  pub gives_alike : (s t : StepState) (es : List PlainEvent) (f : Option Fault) → AlikeSteps s t → GivesEvents o s es f
      → GivesEvents o t es f
  gives_alike s t es f x (gives_end e) =
      let a = subst (λ r. AlikeCall r (next_event o t)) e (call_alike s t x) in gives_end a.2
  gives_alike s t es f x (gives_fault e) =
      let a = subst (λ r. AlikeCall r (next_event o t)) e (call_alike s t x) in gives_fault a
  gives_alike s t es f x (gives_event {after = after} {es = more} e rest) =
      let a = subst (λ r. AlikeCall r (next_event o t)) e (call_alike s t x) in
      gives_event a.2 (gives_alike after a.0 more f a.1 rest)
