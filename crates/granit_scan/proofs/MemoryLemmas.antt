-- Why no memory is wanted where no turn is due.
use Rattle.std.proofs.Common.{◌≡◌, ℕ, Bool, true, false, ◌==◌, ◌||◌, List, [], ◌∷◌, ◌++◌, length, Option, Some, None}
use Rattle.std.proofs.Common.{is_some, Result, Ok, Err, refl, sym, ap, subst, ◌∙◌}
use Rattle.std.specs.Prelude.{IsOk, slice_get}
use Rattle.std.specs.Result.{result_transpose}
use Rattle.granit_base.specs.Place.{Mark, Unread}
use Rattle.granit_cursor.specs.declared.token.Token.{Token}
use Rattle.granit_error.specs.Refused.{Refused}
use Rattle.granit_input.specs.Origin.{Origin}
use Rattle.granit_machine.specs.Lexing.{FlaggedItem}
use Rattle.granit_scan.specs.Scanning.{ScannerIn, StepsWell, TokenScanning, UnlessFailed, all_waiting}
use Rattle.granit_scan.specs.Scanning.{first_tokens}
use Rattle.granit_scan.specs.TokenMemory.{AnswersKept, StateWithoutTurn, WithoutTurn, WithoutTurnBy}
use Rattle.granit_scan.specs.TokenSteps.{TokenState}
use Rattle.granit_scan.specs.TokenViews.{PlainToken}
use Rattle.granit_scan.proofs.RecoveryLemmas.{rests}
use Rattle.granit_scan.proofs.SourceLemmas.{failed, failed_on, fails_as}
use Rattle.granit_scanner.specs.Scans.{KnownBy, is_done}
use Rattle.granit_steps.specs.Steps.{is_over}
use Rattle.granit_steps.specs.Told.{parsers_items}

-- ---- what follows where no turn is due

module _ (F G : Refused → Type 0) (A B : Type 0) where
  without_turn_on : (ts : List PlainToken) (q : List FlaggedItem) (over : Bool) (kept : Option Refused)
      → ((e : Refused) → F e → G e) → (A → B) → WithoutTurnBy ts q over kept F A → WithoutTurnBy ts q over kept G B
  without_turn_on (t ∷ ts) q over kept fails gives told = gives told
  without_turn_on [] (i ∷ is) over kept fails gives told = tt
  without_turn_on [] [] false kept fails gives told = tt
  without_turn_on [] [] true None fails gives told = gives told
  without_turn_on [] [] true (Some f) fails gives told = fails f told

module _ (F : Refused → Type 0) (A P : Type 0) where
  -- from what holds wherever none is due
  without_turn_by : (ts : List PlainToken) (q : List FlaggedItem) (over : Bool) (kept : Option Refused)
      → WithoutTurnBy ts q over kept (λ e. P) P → (P → WithoutTurnBy ts q over kept F A)
      → WithoutTurnBy ts q over kept F A
  without_turn_by (t ∷ ts) q over kept holds told = told holds
  without_turn_by [] (i ∷ is) over kept holds told = tt
  without_turn_by [] [] false kept holds told = tt
  without_turn_by [] [] true None holds told = told holds
  without_turn_by [] [] true (Some f) holds told = told holds

without_turn_all : (P : Type 0) (ts : List PlainToken) (q : List FlaggedItem) (over : Bool) (kept : Option Refused)
    → P → WithoutTurnBy ts q over kept (λ e. P) P
without_turn_all P (t ∷ ts) q over kept holds = holds
without_turn_all P [] (i ∷ is) over kept holds = tt
without_turn_all P [] [] false kept holds = tt
without_turn_all P [] [] true None holds = holds
without_turn_all P [] [] true (Some f) holds = holds

-- ---- one turn

-- what a turn, or turns, tell where none is due
abbrev pub TurnTold : {I : Type 0} → TokenScanning I → Result Bool Refused → Type 0
TurnTold s r = WithoutTurn s.writer.waiting s.items (λ f. r ≡ Err f) (r ≡ Ok false)

abbrev pub TurnsTold : {I : Type 0} → TokenScanning I → Result (Unit {0}) Refused → Type 0
TurnsTold s r = WithoutTurn s.writer.waiting s.items (λ f. r ≡ Err f) (IsOk r)

module _ {I : Type 0} (s : TokenScanning I) (r : Result Bool Refused) where
  waits_by : (ts : List PlainToken) (q : List FlaggedItem) (over : Bool) (kept : Option Refused)
      → (length ts == 0) ≡ false → r ≡ Ok false → WithoutTurnBy ts q over kept (λ f. r ≡ Err f) (r ≡ Ok false)
  waits_by [] q over kept some none = absurd (cc)
  waits_by (t ∷ ts) q over kept some none = none

  pub token_waits : (length s.writer.waiting == 0) ≡ false → r ≡ Ok false → TurnTold s r
  token_waits some none = waits_by s.writer.waiting s.items.queue (is_done s.items) s.items.fault some none

  goes_by : (ts : List PlainToken) (q : List FlaggedItem) (over : Bool) (kept : Option Refused) (i : FlaggedItem)
      → ts ≡ [] → slice_get q 0 ≡ Some i → WithoutTurnBy ts q over kept (λ f. r ≡ Err f) (r ≡ Ok false)
  goes_by (t ∷ ts) q over kept i none front = absurd (cc)
  goes_by [] [] over kept i none front = absurd (cc)
  goes_by [] (j ∷ is) over kept i none front = tt

  pub item_waits : (i : FlaggedItem) → s.writer.waiting ≡ [] → slice_get s.items.queue 0 ≡ Some i → TurnTold s r
  item_waits i none front =
      goes_by s.writer.waiting s.items.queue (is_done s.items) s.items.fault i none front

  over_by : (ts : List PlainToken) (q : List FlaggedItem) (over : Bool) (kept : Option Refused) → ts ≡ []
      → (over ≡ true → AnswersKept kept r) → WithoutTurnBy ts q over kept (λ f. r ≡ Err f) (r ≡ Ok false)
  over_by (t ∷ ts) q over kept none answers = absurd (cc)
  over_by [] (i ∷ is) over kept none answers = tt
  over_by [] [] false kept none answers = tt
  over_by [] [] true None none answers = answers refl
  over_by [] [] true (Some f) none answers = answers refl

  pub reading_over : s.writer.waiting ≡ [] → (is_done s.items ≡ true → AnswersKept s.items.fault r) → TurnTold s r
  reading_over none answers =
      over_by s.writer.waiting s.items.queue (is_done s.items) s.items.fault none answers

-- ---- turns

-- where none is due, none was made
abbrev pub Unturned : {I : Type 0} → (initial now : TokenScanning I) → ℕ → Type 0
Unturned initial now made =
    WithoutTurn initial.writer.waiting initial.items (λ f. (now ≡ initial) × (made ≡ 0))
    ((now ≡ initial) × (made ≡ 0))

module _ {I : Type 0} (initial now : TokenScanning I) (made : ℕ) (unturned : Unturned initial now made) where
  -- so the one that follows tells of the first state
  turned_first : (r : Result Bool Refused) → TurnTold now r → TurnTold initial r
  turned_first r turned = without_turn_by (λ f. r ≡ Err f) (r ≡ Ok false) ((now ≡ initial) × (made ≡ 0))
      initial.writer.waiting initial.items.queue (is_done initial.items) initial.items.fault unturned
      (λ same. subst (λ (s : TokenScanning I). TurnTold s r) same.0 turned)

  turned_by : (P : Refused → Type 0) (A : Type 0) (r : Result Bool Refused)
      → ((f : Refused) → r ≡ Err f → P f) → (r ≡ Ok false → A) → TurnTold now r
      → WithoutTurn initial.writer.waiting initial.items P A
  turned_by P A r fails gives turned = without_turn_on (λ f. r ≡ Err f) P (r ≡ Ok false) A
      initial.writer.waiting initial.items.queue (is_done initial.items) initial.items.fault fails gives
      (turned_first r turned)

  pub turned_again : (after : TokenScanning I) (n : ℕ) → TurnTold now (Ok true) → Unturned initial after n
  turned_again after n turned = turned_by (λ f. (after ≡ initial) × (n ≡ 0)) ((after ≡ initial) × (n ≡ 0)) (Ok true)
      (λ f no. absurd (cc)) (λ no. absurd (cc)) turned

  pub turned_last : (u : Unit {0}) → TurnTold now (Ok false) → TurnsTold initial (Ok u)
  turned_last u turned = turned_by (λ f. Ok u ≡ failed (Unit {0}) f) (IsOk {E = Refused} (Ok u)) (Ok false)
      (λ f no. absurd (cc)) (λ is. refl) turned

  pub turned_fails : (e : Refused) → TurnTold now (Err e) → TurnsTold initial (Err e)
  turned_fails e turned = turned_by (λ f. failed (Unit {0}) e ≡ Err f) (IsOk (failed (Unit {0}) e)) (Err e)
      (λ f is. fails_as Bool (Unit {0}) e f is) (λ no. absurd (cc)) turned

pub unturned_first : {I : Type 0} (s : TokenScanning I) → Unturned s s 0
unturned_first s = without_turn_all ((s ≡ s) × (0 ≡ 0)) s.writer.waiting s.items.queue (is_done s.items) s.items.fault
    (refl, refl)

-- ---- the start of the stream

-- what turns behind the start of the stream, and a call for a token, tell where none is due
abbrev pub CallTold : {I X : Type 0} → TokenScanning I → Result X Refused → Type 0
CallTold s r = WithoutTurn (all_waiting s) s.items (λ f. r ≡ Err f) (IsOk r)

module _ (r : Result (Unit {0}) Refused) where
  start_by : (first : Option Mark) (m : Mark) (ts : List PlainToken) (q : List FlaggedItem) (over : Bool)
      (kept : Option Refused) → first ≡ Some m → IsOk r
      → WithoutTurnBy (first_tokens first ++ ts) q over kept (λ f. r ≡ Err f) (IsOk r)
  start_by None m ts q over kept is well = absurd (cc)
  start_by (Some n) m ts q over kept is well = well

  behind_by : (first : Option Mark) (ts : List PlainToken) (q : List FlaggedItem) (over : Bool)
      (kept : Option Refused) → first ≡ None → WithoutTurnBy ts q over kept (λ f. r ≡ Err f) (IsOk r)
      → WithoutTurnBy (first_tokens first ++ ts) q over kept (λ f. r ≡ Err f) (IsOk r)
  behind_by None ts q over kept none told = told
  behind_by (Some m) ts q over kept none told = absurd (cc)

  pub told_at_start : {I : Type 0} (s : TokenScanning I) (m : Mark) → s.first ≡ Some m → IsOk r → CallTold s r
  told_at_start s m is well =
      start_by s.first m s.writer.waiting s.items.queue (is_done s.items) s.items.fault is well

  pub told_past_start : {I : Type 0} (s : TokenScanning I) → s.first ≡ None → TurnsTold s r → CallTold s r
  told_past_start s none told =
      behind_by s.first s.writer.waiting s.items.queue (is_done s.items) s.items.fault none told

-- a token is then given
pub token_told : {I X Y : Type 0} (s : TokenScanning I) (x : X) (y : Y) → CallTold s (Ok x) → CallTold s (Ok y)
token_told {X = X} {Y = Y} s x y told = without_turn_on (λ f. Ok x ≡ failed X f) (λ f. Ok y ≡ failed Y f)
    (IsOk {E = Refused} (Ok x)) (IsOk {E = Refused} (Ok y)) (all_waiting s) s.items.queue (is_done s.items)
    s.items.fault (λ f no. absurd (cc)) (λ well. refl) told

-- or the call fails
pub failure_told : {I : Type 0} (X Y : Type 0) (s : TokenScanning I) (e : Refused) → CallTold s (failed X e)
    → CallTold s (failed Y e)
failure_told X Y s e told = without_turn_on (λ f. failed X e ≡ Err f) (λ f. failed Y e ≡ Err f)
    (IsOk (failed X e)) (IsOk (failed Y e)) (all_waiting s) s.items.queue (is_done s.items) s.items.fault
    (λ f is. fails_as X Y e f is) (λ no. absurd (cc)) told

-- ---- of the machine

or_true : (b : Bool) → true ≡ (b || true)
or_true true = refl
or_true false = refl

-- what is told of tokens, items and a fault is told of the same ones
alike : (F : Refused → Type 0) (A : Type 0) {ts us : List PlainToken} {q p : List FlaggedItem} {b c : Bool}
    {f g : Option Refused} → us ≡ ts → p ≡ q → c ≡ b → g ≡ f → WithoutTurnBy ts q b f F A → WithoutTurnBy us p c g F A
alike F A tokens items over kept told = rw (tokens, items, over, kept) told

module _ {I : Type 0} (unread : I → Unread → Type 0) (s : TokenScanning I) (m : TokenState)
    (at : ScannerIn unread s m) where
  done_by : (f : Option Refused) → KnownBy unread f s.items m.reading m.queue
      → (is_over m.reading ≡ (s.items.ended || is_some f)) × (m.reading.fault ≡ f)
  done_by None k = (
    ap (λ (b : Bool). b || is_some m.reading.fault) k.1
        ∙ ap (λ (x : Option Refused). s.items.ended || is_some x) k.2,
    k.2,
  )
  done_by (Some f) k = (
    ap (λ (b : Bool). b || is_some m.reading.fault) k.0
        ∙ ap (λ (x : Option Refused). is_some x) k.1
        ∙ or_true s.items.ended,
    k.1,
  )

  pub state_told : {X : Type 0} (r : Result X Refused) → CallTold s r
      → StateWithoutTurn m (λ f. r ≡ Err f) (IsOk r)
  state_told r told =
      let done = done_by s.items.fault at.reading in
      alike (λ f. r ≡ Err f) (IsOk r) at.pending (rests unread s m at).queue done.0 done.1 told

-- ---- a step of the iterator

steps_well : (q : Result (Option Token) Refused) → IsOk q → StepsWell (result_transpose q)
steps_well (Ok None) well = tt
steps_well (Ok (Some t)) well = refl
steps_well (Err e) well = absurd (cc)

pub step_memory : {I : Type 0} (origin : I → Origin) (s t : TokenScanning I) (q : Result (Option Token) Refused)
    → UnlessFailed origin s t (λ e. Unit {0}) (CallTold s q)
    → UnlessFailed origin s t (λ e. Unit {0})
    (WithoutTurn (all_waiting s) s.items (λ f. result_transpose q ≡ Some (Err f)) (StepsWell (result_transpose q)))
step_memory origin s t q = failed_on origin s t t refl (λ e u. u)
    (without_turn_on (λ f. q ≡ Err f) (λ f. result_transpose q ≡ Some (Err f)) (IsOk q)
    (StepsWell (result_transpose q)) (all_waiting s) s.items.queue (is_done s.items) s.items.fault
    (λ f is. ap result_transpose is) (steps_well q))
