-- A scanner that is known to be in a state of the machine.
use Rattle.std.proofs.Common.{◌≡◌, Bool, true, false, ◌&&◌, ◌||◌, not, List, [], ◌∷◌, drop, Option, Some, None, is_some}
use Rattle.std.proofs.Common.{length, refl, sym, ap, ◌∙◌}
use Rattle.std.proofs.Math.Bool.{or-true, or-false}
use Rattle.std.specs.Prelude.{if◌then◌else◌}
use Rattle.std.specs.List.{slice_get}
use Rattle.std.specs.Option.{option_map}
use Rattle.granit_base.specs.Place.{Unread}
use Rattle.granit_cursor.specs.Reading.{GoesOnward, Reading, Stands}
use Rattle.granit_error.specs.Refused.{Refused}
use Rattle.granit_lexemes.specs.Here.{Here}
use Rattle.granit_machine.specs.Gaps.{gap}
use Rattle.granit_machine.specs.Laid.{Laid}
use Rattle.granit_machine.specs.Lexing.{FlaggedItem}
use Rattle.granit_machine.specs.Machine.{front_if, is_settled, settled}
use Rattle.granit_machine.specs.Reader.{LexState}
use Rattle.granit_scanner.specs.Scans.{Scanning, Known, KnownBy, TakesAsked, TakesOldest, front_goes, is_done}
use Rattle.granit_reader.specs.Meets.{behind_met}
use Rattle.granit_restart.specs.Header.{ends_in_directive, gap_in_directive, last_is_directive}
use Rattle.granit_scanner.specs.Scans.{fails_in_header, line_asked, line_next, may_front_go, unsettled}
use Rattle.granit_steps.specs.Steps.{asks_next, is_next_settled, is_over, line_behind, may_go}

-- ---- where no read failed

same_goes : (l : LexState) (laid : Laid) (ended : Bool) (q : List FlaggedItem) → l.reader.laid ≡ laid → l.ended ≡ ended
    → l.fault ≡ None
    → front_goes (ended || false) laid q ≡ may_front_go l q
same_goes l laid ended [] at end none = refl
same_goes l laid true (i ∷ is) at end none = rw end refl
same_goes l laid false (i ∷ is) at end none = rw (at, end, none) refl

-- ---- where a read failed

goes_if : (b : Bool) (laid : Laid) (i : FlaggedItem) (is : List FlaggedItem)
    → front_goes true laid (front_if b i is) ≡ b
goes_if true laid i is = refl
goes_if false laid i is = refl

settled_goes : (b c : Bool) → (false || (b && (true || c))) ≡ b
settled_goes true c = refl
settled_goes false c = refl

kept_goes : (l : LexState) (laid : Laid) (f : Refused) (q : List FlaggedItem) → l.ended ≡ false → l.fault ≡ Some f
    → front_goes true laid (settled l.reader.laid q) ≡ may_front_go l q
kept_goes l laid f [] end is = refl
kept_goes l laid f (i ∷ rest) end is =
    goes_if (is_settled l.reader.laid i.item) laid i (settled l.reader.laid rest)
    ∙ rw (end, is) (sym (settled_goes (is_settled l.reader.laid i.item)
    (not (asks_next i.item) || is_next_settled l.reader.laid rest)))

-- what may go is kept
pub goes_kept : (l : LexState) (f : Refused) (i : FlaggedItem) (is : List FlaggedItem) → l.ended ≡ false
    → l.fault ≡ Some f → may_go l i is ≡ true → settled l.reader.laid (i ∷ is) ≡ i ∷ settled l.reader.laid is
goes_kept l f i is end failed goes =
    ap (λ (b : Bool). front_if b i (settled l.reader.laid is))
    (sym (goes_if (is_settled l.reader.laid i.item) l.reader.laid i (settled l.reader.laid is))
    ∙ kept_goes l l.reader.laid f (i ∷ is) end failed ∙ goes)

-- and what may not go stays behind it
unsettled_behind : (l : LexState) (f : Refused) (i : FlaggedItem) (is : List FlaggedItem) → l.ended ≡ false
    → l.fault ≡ Some f → may_go l i is ≡ true
    → unsettled l.reader.laid (i ∷ is) ≡ unsettled l.reader.laid is
unsettled_behind l f i is end failed goes =
    ap (λ (qs : List FlaggedItem). drop (length qs) (i ∷ is)) (goes_kept l f i is end failed goes)

-- what may go, and what may not
ends_front : (b : Bool) (before : Bool) (l : Laid) (i : FlaggedItem) (is : List FlaggedItem)
    → ((c : Bool) → ends_in_directive c is ≡ ends_in_directive (ends_in_directive c (settled l is)) (unsettled l is))
    → ends_in_directive before (i ∷ is)
    ≡ ends_in_directive (ends_in_directive before (front_if b i (settled l is)))
    (drop (length (front_if b i (settled l is))) (i ∷ is))
ends_front true before l i is more = more (last_is_directive before i.item)
ends_front false before l i is more = refl

pub ends_both : (before : Bool) (l : Laid) (q : List FlaggedItem)
    → ends_in_directive before q ≡ ends_in_directive (ends_in_directive before (settled l q)) (unsettled l q)
ends_both before l [] = refl
ends_both before l (i ∷ is) = ends_front (is_settled l i.item) before l i is (λ c. ends_both c l is)

-- ---- another cursor

-- a scanner whose cursor stands where it stood
module _ {I : Type 0} (unread : I → Unread → Type 0) (s : Scanning I) (to : Reading I) (l : LexState)
    (q : List FlaggedItem) (here : (h : Here) → Stands unread s.cursor h → Stands unread to h)
    (onward : GoesOnward unread s.cursor to) where
  pub moved_by : (f : Option Refused) → KnownBy unread f s l q → KnownBy unread f (record s { cursor = to }) l q
  moved_by None k = ((here l.reader.here k.0.0, k.0.1), k.1, k.2, k.3)
  moved_by (Some f) k = (
    k.0,
    k.1,
    k.2,
    record {
      number = k.3.number;
      onward = onward l.reader.here k.3.onward;
      held = k.3.held;
      met = k.3.met;
    },
  )

  pub known_moved : Known unread s l q → Known unread (record s { cursor = to }) l q
  known_moved k = moved_by s.fault k

module _ {I : Type 0} (unread : I → Unread → Type 0) (s : Scanning I) (l : LexState) where
  over_by : (q : List FlaggedItem) (f : Option Refused) → KnownBy unread f s l q → (s.ended || is_some f) ≡ is_over l
  over_by q None k = rw (k.1, k.2) refl
  over_by q (Some f) k = rw (k.0, k.1) (or-true s.ended)

  pub known_over : (q : List FlaggedItem) → Known unread s l q → is_done s ≡ is_over l
  known_over q k = over_by q s.fault k

  goes_by : (q : List FlaggedItem) (f : Option Refused) → KnownBy unread f s l q
      → front_goes (s.ended || is_some f) s.laid s.queue ≡ may_front_go l q
  goes_by q None k = rw (← k.3) (same_goes l s.laid s.ended q k.0.1 k.1 k.2)
  goes_by q (Some f) k = rw (← k.2, or-true s.ended) (kept_goes l s.laid f q k.0 k.1)

  pub known_goes : (q : List FlaggedItem) → Known unread s l q
      → front_goes (is_done s) s.laid s.queue ≡ may_front_go l q
  known_goes q k = goes_by q s.fault k

  fault_by : (q : List FlaggedItem) (f : Option Refused) → KnownBy unread f s l q → l.fault ≡ None → f ≡ None
  fault_by q None k none = refl
  fault_by q (Some f) k none = absurd (let e : Some f ≡ None = sym k.1 ∙ none in cc)

  pub no_fault : (q : List FlaggedItem) → Known unread s l q → l.fault ≡ None → s.fault ≡ None
  no_fault q k none = fault_by q s.fault k none

  -- ---- the oldest item is taken

  abbrev without_first : Scanning I
  without_first = record s { queue = drop 1 s.queue }

  line_kept : (f : Option Refused) (i : FlaggedItem) (is : List FlaggedItem) → KnownBy unread f s l (i ∷ is)
      → may_go l i is ≡ true
      → line_next (s.ended || is_some f) s.laid s.queue ≡ line_behind l is
  line_kept None i is k goes = rw (← k.3, or-false s.ended, k.1, k.0.1) refl
  line_kept (Some f) i is k goes =
      rw (← k.2, or-true s.ended, goes_kept l f i is k.0 k.1 goes, k.0) refl

  rest_kept : (f : Option Refused) (i : FlaggedItem) (is : List FlaggedItem) → KnownBy unread f s l (i ∷ is)
      → may_go l i is ≡ true
      → KnownBy unread f without_first l is
  rest_kept None i is k goes = (k.0, k.1, k.2, ap (drop 1) k.3)
  rest_kept (Some f) i is k goes = (
    k.0,
    k.1,
    ap (drop 1) (sym (goes_kept l f i is k.0 k.1 goes) ∙ k.2),
    record {
      number = k.3.number;
      onward = k.3.onward;
      held = λ before. k.3.held before ∙ ap (ends_in_directive before) (unsettled_behind l f i is k.0 k.1 goes);
      met = k.3.met;
    },
  )

  first_kept : (f : Option Refused) (i : FlaggedItem) (is : List FlaggedItem) → KnownBy unread f s l (i ∷ is)
      → may_go l i is ≡ true
      → slice_get s.queue 0 ≡ Some i
  first_kept None i is k goes = rw (← k.3) refl
  first_kept (Some f) i is k goes = rw (← k.2, goes_kept l f i is k.0 k.1 goes) refl

  -- the oldest item, with the line of what stands behind it
  pub taken : (q : List FlaggedItem) → Known unread s l q → may_front_go l q ≡ true
      → TakesOldest unread (option_map (λ (i : FlaggedItem). (i, line_next (is_done s) s.laid s.queue))
      (slice_get s.queue 0)) without_first l q
  taken [] k goes = cc
  taken (i ∷ is) k goes =
      (rw (first_kept s.fault i is k goes, line_kept s.fault i is k goes) refl, rest_kept s.fault i is k goes)

  -- the same, with the line where the item asks for it
  pub taken_asked : (q : List FlaggedItem) → Known unread s l q → may_front_go l q ≡ true
      → TakesAsked unread (option_map (λ (i : FlaggedItem). (
        i,
        line_asked i.item (line_next (is_done s) s.laid s.queue),
      )) (slice_get s.queue 0)) without_first l q
  taken_asked [] k goes = cc
  taken_asked (i ∷ is) k goes =
      (rw (first_kept s.fault i is k goes, line_kept s.fault i is k goes) refl, rest_kept s.fault i is k goes)

  -- ---- whether the last lexeme is a directive

  last_by : (q : List FlaggedItem) (before : Bool) (f : Option Refused) → KnownBy unread f s l q
      → (if is_some f then behind_met s.held (ends_in_directive before s.queue) else ends_in_directive before s.queue)
      ≡ ends_in_directive before q
  last_by q before None k = ap (ends_in_directive before) (sym k.3)
  last_by q before (Some f) k =
      k.3.held (ends_in_directive before s.queue)
      ∙ ap (λ (w : List FlaggedItem). ends_in_directive (ends_in_directive before w) (unsettled l.reader.laid q))
      (sym k.2)
      ∙ sym (ends_both before l.reader.laid q)

  -- the read that failed, and what waits before it
  pub known_header : (q : List FlaggedItem) (before : Bool) (f : Refused) → KnownBy unread (Some f) s l q
      → fails_in_header before s
      ≡ gap_in_directive s.options (ends_in_directive before q) (gap s.options l.reader.here l.reader.laid)
  known_header q before f k =
      ap (behind_met s.met) (last_by q before (Some f) k) ∙ k.3.met (ends_in_directive before q)

  pub known_last : (q : List FlaggedItem) (before : Bool) → Known unread s l q
      → (if is_some s.fault then behind_met s.held (ends_in_directive before s.queue)
      else ends_in_directive before s.queue) ≡ ends_in_directive before q
  known_last q before k = last_by q before s.fault k
