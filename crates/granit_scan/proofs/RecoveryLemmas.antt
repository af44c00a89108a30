-- Where recovery leads.
use Rattle.std.proofs.Common.{◌≡◌, Bool, true, false, List, ◌++◌, Option, Some, None, is_some, Result, Ok, Err}
use Rattle.std.proofs.Common.{refl, sym, ap, subst, ◌∙◌, inl, inr}
use Rattle.std.specs.Prelude.{if◌then◌else◌, IfErr, IfOk, IfSome}
use Rattle.std.specs.Global.{Box}
use Rattle.std.specs.Option.{option_map}
use Rattle.granit_base.specs.Place.{Mark, Unread}
use Rattle.granit_cursor.specs.Reading.{CameOn, GoesOnward, GoesTo, Reading, Stands}
use Rattle.granit_cursor.specs.declared.token.Token.{Token}
use Rattle.granit_error.specs.FaultKind.{NoMemory}
use Rattle.granit_error.specs.OptionsData.{OptionsData}
use Rattle.granit_error.specs.Refused.{Refused}
use Rattle.granit_items.specs.ItemViews.{boxed_lexeme}
use Rattle.granit_items.specs.declared.item.Lexeme as code
use Rattle.granit_lexemes.specs.Here.{Here}
use Rattle.granit_lexemes.specs.Lexeme.{Lexeme}
use Rattle.granit_lexemes.specs.Onward.{Onward, there}
use Rattle.granit_machine.specs.Laid.{Laid}
use Rattle.granit_machine.specs.Lexing.{FlaggedItem}
use Rattle.granit_machine.specs.Reader.{LexState}
use Rattle.granit_restart.specs.Restart.{behind_fault_at, cursor_at, read_boundary}
use Rattle.granit_scan.specs.Following.{Writing, writing_start}
use Rattle.granit_scan.specs.Marks.{handed, mark_in, mark_items, proceeded, unwritten}
use Rattle.granit_scan.specs.Recovering.{CameBy, Rests, RestsIn, ScannerProceeds, ScannerRefusedIn, ScannerRefusesIn}
use Rattle.granit_scan.specs.Scanning.{ScannerIn, TokenScanning, first_tokens, revived}
use Rattle.granit_scan.specs.TokenSteps.{TokenState}
use Rattle.granit_scan.specs.TokenViews.{PlainToken, plain_token}
use Rattle.granit_scan.proofs.SourceLemmas.{failed}
use Rattle.granit_scanner.specs.Restarts.{Restarts, front_items}
use Rattle.granit_scanner.specs.Scans.{Known, KnownBy}
use Rattle.granit_steps.specs.Steps.{StepState}
use Rattle.granit_steps.specs.Told.{parsers_items}

-- ---- what waits

-- the start of the stream is no mark
mark_behind_start : (t : Option PlainToken) (first : Option Mark) (ts : List PlainToken)
    → IfSome t (λ x. first ≡ None) → mark_in (handed t ++ (first_tokens first ++ ts)) ≡ mark_in (handed t ++ ts)
mark_behind_start None None ts told = refl
mark_behind_start None (Some m) ts told = refl
mark_behind_start (Some x) None ts told = refl
mark_behind_start (Some x) (Some m) ts told = absurd (cc)

given_first : (t : Option Token) (first : Option Mark) → IfSome t (λ x. first ≡ None)
    → IfSome (option_map plain_token t) (λ x. first ≡ None)
given_first None first told = told
given_first (Some t) first told = told

front_is : (front : Option (Box code.Lexeme)) (l : Option Lexeme) → option_map boxed_lexeme front ≡ l
    → front_items front ≡ mark_items l
front_is None l is = ap mark_items is
front_is (Some x) l is = ap mark_items is

-- ---- where the cursor stands

module _ {I : Type 0} (unread : I → Unread → Type 0) (s : TokenScanning I) (m : TokenState) where
  stops_by : (f : Option Refused) → CameBy unread f m.reading.reader.here s.items.cursor → s.items.cursor.lost ≡ false
      → (stop : Here) × Onward m.reading.reader.here stop × Stands unread s.items.cursor stop
      × ((if is_some f then stop else m.reading.reader.here) ≡ stop)
  unfolding CameOn
  stops_by None came found = (m.reading.reader.here, there, came, refl)
  stops_by (Some f) (inl k) found = (k.0, k.1, k.2, refl)
  stops_by (Some f) (inr lost) found = absurd (let clash : true ≡ false = sym lost ∙ found in cc)

  -- ---- at the boundary

  module _ (rests : Rests unread s m) (found : s.items.cursor.lost ≡ false) (t : Option Token)
      (told : IfSome t (λ x. s.first ≡ None)) (front : Option (Box code.Lexeme))
      (mark : option_map boxed_lexeme front ≡ mark_in (handed (option_map plain_token t) ++ s.writer.waiting)) where
    tokens : List PlainToken
    tokens = handed (option_map plain_token t) ++ m.pending

    same_mark : option_map boxed_lexeme front ≡ mark_in tokens
    unfolding tokens
    same_mark =
        mark ∙ sym (mark_behind_start (option_map plain_token t) s.first s.writer.waiting (given_first t s.first told))
        ∙ sym (ap (λ (ts : List PlainToken). mark_in (handed (option_map plain_token t) ++ ts)) rests.pending)

    waits : (h : Here)
        → read_boundary h (unwritten tokens m).queue ≡ read_boundary h (front_items front ++ s.items.queue)
    waits h =
        ap (λ (q : List FlaggedItem). read_boundary h (mark_items (mark_in tokens) ++ q)) rests.queue
        ∙ sym (ap (λ (f : List FlaggedItem). read_boundary h (f ++ s.items.queue))
        (front_is front (mark_in tokens) same_mark))

    -- behind the items' recovery
    pub proceeds : (starts : Bool) (after : TokenScanning I)
        → ((n : StepState) (h : Here) → Stands unread s.items.cursor h
        → s.items.laid.number ≡ n.reading.reader.laid.number
        → read_boundary h n.queue ≡ read_boundary h (front_items front ++ s.items.queue)
        → Restarts unread (behind_fault_at h n) after.items starts)
        → after.writer ≡ writing_start
        → ScannerProceeds unread s.items.cursor (option_map plain_token t) m (revived after)
    unfolding proceeded tokens
    proceeds starts after restarts anew =
        let at = stops_by m.reading.fault rests.came found in
        let stands = subst (Stands unread s.items.cursor) (sym at.3) at.2 in
        let known = restarts (unwritten tokens m) (cursor_at at.0 m.reading) stands rests.number
        (waits (cursor_at at.0 m.reading)) in (
          at.0,
          at.1,
          at.2,
          record {
            going = refl;
            reading = known.1;
            following = sym (ap (λ (w : Writing). w.following) anew);
            pending = sym (ap (λ (w : Writing). w.waiting) anew);
          },
        )

-- what doesn't move the scanner leaves it there
module _ {I : Type 0} (unread : I → Unread → Type 0) (cursor : Reading I) (t : Option PlainToken) (m : TokenState)
  where
    stands_still : (mid new : TokenScanning I)
        → ((l : LexState) (q : List FlaggedItem) → Known unread mid.items l q → Known unread new.items l q)
        → new.writer ≡ mid.writer → ScannerProceeds unread cursor t m (revived mid)
        → ScannerProceeds unread cursor t m (revived new)
    stands_still mid new known same at = (
      at.0,
      at.1,
      at.2,
      record {
        going = refl;
        reading = known _ _ at.3.reading;
        following = at.3.following ∙ sym (ap (λ (w : Writing). w.following) same);
        pending = at.3.pending ∙ sym (ap (λ (w : Writing). w.waiting) same);
      },
    )

    pub proceeds_still : {U : Type 0} (r : Result U Refused) (mid new : TokenScanning I)
        → ((l : LexState) (q : List FlaggedItem) → Known unread mid.items l q → Known unread new.items l q)
        → new.writer ≡ mid.writer → IfOk r (λ x. ScannerProceeds unread cursor t m (revived mid))
        → IfOk r (λ x. ScannerProceeds unread cursor t m (revived new))
    proceeds_still (Ok u) mid new known same at = stands_still mid new known same at
    proceeds_still (Err e) mid new known same at = at

-- of a scanner that goes on all is known that recovery asks for
module _ {I : Type 0} (unread : I → Unread → Type 0) (s : TokenScanning I) (m : TokenState)
    (at : ScannerIn unread s m) where
  rests_by : (f : Option Refused) → KnownBy unread f s.items m.reading m.queue → Rests unread s m
  rests_by None k = record {
    came = subst (λ (x : Option Refused). CameBy unread x m.reading.reader.here s.items.cursor) (sym k.2) k.0.0;
    number = ap (λ (l : Laid). l.number) (sym k.0.1);
    queue = ap (λ (x : Option Refused). parsers_items m.reading.reader.laid x m.queue) k.2 ∙ k.3;
    pending = at.pending;
  }
  rests_by (Some f) k = record {
    came = subst (λ (x : Option Refused). CameBy unread x m.reading.reader.here s.items.cursor) (sym k.1) k.3.onward;
    number = k.3.number;
    queue = ap (λ (x : Option Refused). parsers_items m.reading.reader.laid x m.queue) k.1 ∙ k.2;
    pending = at.pending;
  }

  pub rests : Rests unread s m
  rests = rests_by s.items.fault at.reading

-- ---- behind a fault

came_on : {I : Type 0} (unread : I → Unread → Type 0) (old new : Reading I) (f : Option Refused) (h : Here)
    → GoesTo unread old new (λ x. x) → GoesOnward unread old new → CameBy unread f h old → CameBy unread f h new
came_on unread old new None h goes onward came = goes h came
came_on unread old new (Some f) h goes onward came = onward h came

module _ {I : Type 0} (unread : I → Unread → Type 0) (s t : TokenScanning I) (m : TokenState) where
  -- what is asked about is left alone, and the cursor stands where it stood
  pub rests_on : GoesTo unread s.items.cursor t.items.cursor (λ x. x)
      → GoesOnward unread s.items.cursor t.items.cursor → t.items.laid ≡ s.items.laid → t.items.queue ≡ s.items.queue
      → t.first ≡ s.first → t.writer ≡ s.writer → Rests unread s m → Rests unread t m
  rests_on goes onward laid queue first writer r = record {
    came = came_on unread s.items.cursor t.items.cursor m.reading.fault m.reading.reader.here goes onward r.came;
    number = ap (λ (l : Laid). l.number) laid ∙ r.number;
    queue = r.queue ∙ sym queue;
    pending = r.pending
        ∙ ap (λ (w : Writing). first_tokens s.first ++ w.waiting) (sym writer)
        ∙ ap (λ (x : Option Mark). first_tokens x ++ t.writer.waiting) (sym first);
  }

  pub rests_alike : t.items.cursor ≡ s.items.cursor → t.items.laid ≡ s.items.laid → t.items.queue ≡ s.items.queue
      → t.first ≡ s.first → t.writer ≡ s.writer → Rests unread s m → Rests unread t m
  rests_alike cursor laid queue first writer =
      rests_on (λ h stands. subst (λ (r : Reading I). Stands unread r h) (sym cursor) stands)
      (λ h came. subst (λ (r : Reading I). CameOn unread h r) (sym cursor) came) laid queue first writer

-- want of memory
pub memory_rests : {I X : Type 0} (unread : I → Unread → Type 0) (r : Result X Refused) (s : TokenScanning I)
    (m : TokenState) → IfErr r (λ e. e.kind ≡ NoMemory) → RestsIn unread r s m
memory_rests unread (Ok x) s m memory = tt
memory_rests unread (Err e) s m memory = λ no. absurd (no memory)

-- a refusal stays where it was
module _ {I : Type 0} (unread : I → Unread → Type 0) (o : OptionsData) (s t : TokenScanning I) (m : TokenState)
    (on : (n : TokenState) → Rests unread s n → Rests unread t n) where
  stays : (e : Refused) → ScannerRefusedIn unread o s m e → ScannerRefusedIn unread o t m e
  stays e r = record { at = r.at; turns = r.turns; fails = r.fails; rests = on r.at r.rests }

  pub refused_stays : (X Y : Type 0) (e : Refused) → ScannerRefusesIn unread o (failed X e) s m
      → ScannerRefusesIn unread o (failed Y e) t m
  refused_stays X Y e refused = λ no. stays e (refused no)

  pub refusal_stays : {X : Type 0} (r : Result X Refused) → ScannerRefusesIn unread o r s m
      → ScannerRefusesIn unread o r t m
  refusal_stays (Ok x) refused = refused
  refusal_stays (Err e) refused = λ no. stays e (refused no)
