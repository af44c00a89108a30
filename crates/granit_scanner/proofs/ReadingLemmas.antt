-- One more read of a scanner.
use Rattle.std.proofs.Common.{◌≡◌, ℕ, zero, suc, Bool, true, false, List, [], ◌∷◌, drop, length, take, Option, Some}
use Rattle.std.proofs.Common.{None, Result, Ok, Err, inl, refl, sym, ap, subst, ◌∙◌}
use Rattle.std.specs.Prelude.{IfErr}
use Rattle.granit_base.specs.Place.{Unread}
use Rattle.granit_cursor.specs.Reading.{CameOn, GoesOnward, Reading, Stands}
use Rattle.granit_error.specs.FaultKind.{FaultKind, NoMemory}
use Rattle.granit_error.specs.OptionsData.{OptionsData}
use Rattle.granit_error.specs.Refused.{Refused}
use Rattle.granit_lexemes.specs.Here.{Here}
use Rattle.granit_lexemes.specs.Lexeme.{Item}
use Rattle.granit_lexemes.specs.Onward.{there}
use Rattle.granit_machine.specs.Gaps.{gap}
use Rattle.granit_machine.specs.Laid.{Laid, laid_start}
use Rattle.granit_machine.specs.Lexing.{FlaggedItem}
use Rattle.granit_machine.specs.Machine.{settled}
use Rattle.granit_machine.specs.Reader.{LexState, lex_turn}
use Rattle.granit_content.specs.Reads.{IsAt}
use Rattle.granit_reader.specs.Meets.{MeetsBehind}
use Rattle.granit_reader.specs.Reads.{reader_at}
use Rattle.granit_reader.specs.Turns.{TurnTo, before_turn, turn_items}
use Rattle.granit_content.proofs.CodedLemmas.{coded_back}
use Rattle.granit_reader.specs.declared.met.Met.{Met}
use Rattle.granit_restart.specs.Header.{ends_in_directive}
use Rattle.granit_scanner.specs.Scans.{KeepsBefore, Known, KnownBy, ReadsOn, Scanning, TakesRead, TellsLast, front_goes}
use Rattle.granit_scanner.specs.Scans.{is_done, may_front_go, unsettled, wants_memory}
use Rattle.granit_scanner.proofs.KnownLemmas.{known_goes, no_fault}
use Rattle.granit_steps.specs.Steps.{incoming, items_or_none, pushed}
use Rattle.granit_steps.proofs.Futures.{pushed_nil}

wants_none : (k : FaultKind) → wants_memory k ≡ false → k ≡ NoMemory → ⊥
wants_none k not_wanted is = let e : wants_memory NoMemory ≡ false = subst
    (λ (kind : FaultKind). wants_memory kind ≡ false) is not_wanted in cc

goes_less : (b : Bool) (l : Laid) (q : List FlaggedItem) → front_goes b l q ≡ false → front_goes false l q ≡ false
goes_less b l [] e = refl
goes_less true l (i ∷ is) e = absurd cc
goes_less false l (i ∷ is) e = e

drop_taken : (n : ℕ) (q : List FlaggedItem) → drop (length (take n q)) q ≡ drop n q
drop_taken zero [] = refl
drop_taken zero (i ∷ is) = refl
drop_taken (suc n) [] = refl
drop_taken (suc n) (i ∷ is) = drop_taken n is

-- where a cursor stands it came on to
pub comes_here : {I : Type 0} (unread : I → Unread → Type 0) (r : Reading I) (h : Here) → Stands unread r h
    → CameOn unread h r
unfolding CameOn
comes_here unread r h k = inl (h, there, k)

module _ {I : Type 0} (unread : I → Unread → Type 0) (s : Scanning I) (l : LexState) (q : List FlaggedItem) where
  abbrev before : LexState
  before = before_turn s.ended (reader_at l.reader.here s.laid)

  before_by : (f : Option Refused) → f ≡ None → KnownBy unread f s l q → before ≡ l
  before_by None none k = rw (sym k.0.1, sym k.1, sym k.2) refl
  before_by (Some f) none k = absurd cc

  stands_by : (f : Option Refused) → f ≡ None → KnownBy unread f s l q → IsAt unread s.cursor s.laid l.reader
  stands_by None none k = k.0
  stands_by (Some f) none k = absurd cc

  queue_by : (f : Option Refused) → f ≡ None → KnownBy unread f s l q → q ≡ s.queue
  queue_by None none k = k.3
  queue_by (Some f) none k = absurd cc

  -- where no read failed, the cursor is known to stand where reading does
  pub stands : Known unread s l q → l.fault ≡ None → IsAt unread s.cursor s.laid l.reader
  stands k none = stands_by s.fault (no_fault unread s l q k none) k

  module _ (o : OptionsData) (k : Known unread s l q) (none : l.fault ≡ None) (mid after : Scanning I)
      (same_fault : mid.fault ≡ s.fault) (same_queue : mid.queue ≡ s.queue) where
    turns_alike : lex_turn o before ≡ lex_turn o l
    turns_alike = ap (lex_turn o) (before_by s.fault (no_fault unread s l q k none) k)

    waiting : q ≡ mid.queue
    waiting = queue_by s.fault (no_fault unread s l q k none) k ∙ sym same_queue

    -- a read that gives something, or nothing behind the end
    given_by : (items : List Item) → after ≡ record mid { queue = pushed mid.queue items }
        → TurnTo o.emit_comments (Ok tt) items (IsAt unread mid.cursor mid.laid) mid.ended
        (reader_at l.reader.here s.laid) (lex_turn o before)
        → ReadsOn unread o after l q
    given_by items is given =
        let asked = o.emit_comments in
        let back = coded_back (turn_items asked) (lex_turn o before) items (before_turn mid.ended given.0) given.2 in
        let later : LexState = before_turn mid.ended given.0 in
        let left : List FlaggedItem = pushed q (incoming asked (items_or_none back.0)) in
        let fault : after.fault ≡ None = ap (λ (r : Scanning I). r.fault) is ∙ same_fault
        ∙ no_fault unread s l q k none in
        let known : KnownBy unread None after later left =
        subst (λ (r : Scanning I). KnownBy unread None r later left) (sym is)
        (given.1, refl, refl, queue_again back.0 back.2) in (
          (back.0, later),
          sym turns_alike ∙ back.1,
          subst (λ (f : Option Refused). KnownBy unread f after later left) (sym fault) known,
        )
      where
        queue_again : (y : Option (List Item)) → turn_items o.emit_comments y ≡ items
            → pushed q (incoming o.emit_comments (items_or_none y)) ≡ pushed mid.queue items
        queue_again y e = ap (pushed q) e ∙ ap (λ (w : List FlaggedItem). pushed w items) waiting

    -- a read that fails: where the lexemes before it are as many, and what it met is told
    module _ (number : ℕ) (met : Met) (counted : number ≡ s.laid.number)
        (goes : GoesOnward unread s.cursor mid.cursor) where
      abbrev Meets : Refused → Type 0
      Meets e = (e.kind ≡ NoMemory → ⊥) → MeetsBehind mid.options met (gap mid.options l.reader.here s.laid)

      failed_by : (e : Refused) (items : List Item) (free : ℕ) → KeepsBefore e free number met mid after
          → wants_memory e.kind ≡ false → TellsLast after.held (drop free mid.queue) → Meets e
          → take free mid.queue ≡ settled s.laid mid.queue
          → TurnTo o.emit_comments (Err e) items (IsAt unread mid.cursor mid.laid) mid.ended
          (reader_at l.reader.here s.laid) (lex_turn o before)
          → ReadsOn unread o after l q
      failed_by e items free is other last meets frees given =
          let stopped : LexState = record { reader = reader_at l.reader.here s.laid; ended = false; fault = Some e } in
          let left : List FlaggedItem = pushed q (incoming o.emit_comments []) in
          let same : left ≡ mid.queue = pushed_nil o.emit_comments q ∙ waiting in
          let kept : settled s.laid left ≡ take free mid.queue = ap (settled s.laid) same ∙ sym frees in
          let rest : drop free mid.queue ≡ unsettled s.laid left = sym (drop_taken free mid.queue)
          ∙ ap (λ (w : List FlaggedItem). drop (length w) mid.queue) (sym kept)
          ∙ ap (drop (length (settled s.laid left))) (sym same) in
          let facts : KnownBy unread (Some e) (record mid {
            laid = record laid_start { number = number; may_prefix = false };
            queue = take free mid.queue;
            fault = Some e;
            met = met;
            held = after.held;
          }) stopped left = (
            refl,
            refl,
            kept,
            record {
              number = counted;
              onward = goes l.reader.here (comes_here unread s.cursor l.reader.here (stands k none).0);
              held = λ b. last b ∙ ap (ends_in_directive b) rest;
              met = meets (wants_none e.kind other);
            },
          ) in (
            (None, stopped),
            sym turns_alike ∙ given (wants_none e.kind other),
            subst (λ (r : Scanning I). Known unread r stopped left) (sym is) facts,
          )

      -- one more read, whatever it gives
      pub read_taken : (read : Result (Unit {0}) Refused) (items : List Item) (free : ℕ)
          → TakesRead read items free number met mid after
          → may_front_go l q ≡ false
          → (front_goes false s.laid s.queue ≡ false → take free s.queue ≡ settled s.laid s.queue)
          → IfErr read Meets
          → TurnTo o.emit_comments read items (IsAt unread mid.cursor mid.laid) mid.ended
          (reader_at l.reader.here s.laid) (lex_turn o before)
          → ReadsOn unread o after l q
      read_taken (Ok u) items free is waits frees meets given = given_by items is given
      read_taken (Err e) items free is waits frees meets given =
          let free_now : take free mid.queue ≡ settled s.laid mid.queue =
          rw same_queue (frees (goes_less (is_done s) s.laid s.queue (known_goes unread s l q k ∙ waits))) in
          failed_by e items free is.0 is.1 is.2 meets free_now given
