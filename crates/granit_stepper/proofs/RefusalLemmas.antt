-- What is known where a turn was refused, as far as recovery asks.
use Rattle.std.proofs.Common.{◌≡◌, ℕ, ◌<◌, ◌-◌, ◌^◌, Bool, true, false, List, [], ◌∷◌, ◌++◌, Option, Some}
use Rattle.std.proofs.Common.{None, is_some, Result, Ok, Err, refl, sym, ap, subst, ◌∙◌, ◌⊎◌, inl, inr}
use Rattle.std.specs.Prelude.{if◌then◌else◌}
use Rattle.std.specs.Global.{Box}
use Rattle.std.specs.Option.{option_map}
use Rattle.granit_base.specs.Place.{Mark, Unread}
use Rattle.granit_cursor.specs.Reading.{CameOn, Reading, Stands}
use Rattle.granit_error.specs.FaultKind.{FaultKind, NoMemory}
use Rattle.granit_error.specs.OptionsData.{OptionsData}
use Rattle.granit_error.specs.Refused.{Refused}
use Rattle.granit_items.specs.declared.item.Lexeme as code
use Rattle.granit_lexemes.specs.Here.{Here}
use Rattle.granit_lexemes.specs.Lexeme as lexemes
use Rattle.granit_lexemes.specs.Lexeme.{Lexeme, LexemeKind}
use Rattle.granit_lexemes.specs.Onward.{Onward, there}
use Rattle.granit_lexemes.specs.PlainEvent.{PlainEvent}
use Rattle.granit_machine.specs.Frames.{ParserState, parser_start}
use Rattle.granit_machine.specs.Laid.{Laid}
use Rattle.granit_machine.specs.Lexing.{FlaggedItem}
use Rattle.granit_machine.specs.Machine.{settled}
use Rattle.granit_machine.specs.Reader.{LexState}
use Rattle.granit_restart.proofs.MarkLaws.{what_goes_holds}
use Rattle.granit_restart.specs.Boundary.{AtStart, AtTextEnd, Boundary, PastEnd, next_boundary}
use Rattle.granit_restart.specs.Restart.{at_boundary, at_found, at_lexeme, behind_fault, behind_fault_at, boundary_of}
use Rattle.granit_restart.specs.Restart.{cursor_at, dropped, read_boundary}
use Rattle.granit_scanner.specs.Restarts.{Restarts, front_items}
use Rattle.granit_restart.specs.Skipping.{with_pending}
use Rattle.granit_restart.specs.Turned.{Turned}
use Rattle.granit_scanner.specs.Scans.{KnownBy, Scanning, line_asked, may_front_go, wants_memory}
use Rattle.granit_scanner.proofs.KnownLemmas.{goes_kept}
use Rattle.granit_stepper.specs.Recovering.{RestartsIn}
use Rattle.granit_stepper.specs.Numbers.{GetsLast}
use Rattle.granit_stepper.specs.Offset.{with_offset}
use Rattle.granit_stepper.proofs.FrontLemmas.{front_reads}
use Rattle.granit_refusals.specs.BeforeTurn.{IsBeforeRead, recounted}
use Rattle.granit_stepper.specs.Refusals.{FailedToRead, FailsIn, HoldsRefusal, RefusedIn}
use Rattle.granit_stepper.specs.Refusals.{RefusedItem, RefusesIn, RefusesItem, StandsRefused, TookFront}
use Rattle.granit_stepper.specs.Stepping.{StandsIn, Stepping, feed_item, first_events}
use Rattle.granit_refusals.specs.declared.refusal.Refusal.{Refusal}
use Rattle.granit_stepper.proofs.NumberLemmas.{last_turn}
use Rattle.granit_stepper.proofs.TurnLemmas.{turn_feeds, turn_reads}
use Rattle.granit_steps.specs.Steps.{StepState, line_behind, may_go, read_more, read_unless, step_turn}

-- ---- where the cursor stands

-- the place where a read stopped, or where reading stands
pub record StopsAt {I : Type 0} (unread : I → Unread → Type 0) (r : Reading I) (l : LexState) : Type 0 where
  pub stop : Here
  pub onward : Onward l.reader.here stop
  pub stands : Stands unread r stop
  pub at : cursor_at stop l ≡ stop

cursor_there : (stop here : Here) (f : Option Refused) → f ≡ None → (if is_some f then stop else here) ≡ here
cursor_there stop here None none = refl
cursor_there stop here (Some f) none = absurd (cc)

cursor_stopped : (stop here : Here) (f : Option Refused) (e : Refused) → f ≡ Some e
    → (if is_some f then stop else here) ≡ stop
cursor_stopped stop here None e is = absurd (cc)
cursor_stopped stop here (Some f) e is = refl

module _ {I : Type 0} (unread : I → Unread → Type 0) (s : Scanning I) (l : LexState) (q : List FlaggedItem) where
  unless_lost : (f : Refused) → l.fault ≡ Some f → CameOn unread l.reader.here s.cursor → s.cursor.lost ≡ false
      → StopsAt unread s.cursor l
  unfolding CameOn
  unless_lost f is (inl k) found = record {
    stop = k.0;
    onward = k.1;
    stands = k.2;
    at = cursor_stopped k.0 l.reader.here l.fault f is;
  }
  unless_lost f is (inr lost) found = absurd (let clash : true ≡ false = sym lost ∙ found in cc)

  stops_by : (f : Option Refused) → KnownBy unread f s l q → s.cursor.lost ≡ false → StopsAt unread s.cursor l
  stops_by None k found = record {
    stop = l.reader.here;
    onward = there;
    stands = k.0.0;
    at = cursor_there l.reader.here l.reader.here l.fault k.2;
  }
  stops_by (Some f) k found = unless_lost f k.1 k.3.onward found

  number_by : (f : Option Refused) → KnownBy unread f s l q → s.laid.number ≡ l.reader.laid.number
  number_by None k = ap (λ (t : Laid). t.number) (sym k.0.1)
  number_by (Some f) k = k.3.number

  -- ---- what waits

  -- where no item was taken
  waits_by : (f : Option Refused) (h : Here) → KnownBy unread f s l q
      → read_boundary h q ≡ read_boundary h (settled l.reader.laid q) → read_boundary h q ≡ read_boundary h s.queue
  waits_by None h k law = ap (read_boundary h) k.3
  waits_by (Some f) h k law = law ∙ ap (read_boundary h) k.2

  -- behind an item that was taken
  behind_by : (f : Option Refused) (h : Here) (i : FlaggedItem) → KnownBy unread f s l q → may_go l i q ≡ true
      → read_boundary h (i ∷ q) ≡ read_boundary h (settled l.reader.laid (i ∷ q))
      → read_boundary h (i ∷ q) ≡ boundary_of h i.item (read_boundary h s.queue)
  behind_by None h i k goes law = ap (λ (w : List FlaggedItem). boundary_of h i.item (read_boundary h w)) k.3
  behind_by (Some f) h i k goes law =
      law ∙ ap (read_boundary h) (goes_kept l f i q k.0 k.1 goes)
      ∙ ap (λ (w : List FlaggedItem). boundary_of h i.item (read_boundary h w)) k.2

-- ---- where reading goes on

abbrev IsDropped : StepState → StepState → Type 0
IsDropped s t = (t.parser ≡ dropped s.parser) × (t.pending ≡ [])

lexeme_drops : (h : Here) (s : StepState) (kind : LexemeKind) (l : Lexeme) → IsDropped s (at_lexeme h s kind l).1
lexeme_drops h s lexemes.DocumentStart l = (refl, refl)
lexeme_drops h s lexemes.DocumentEnd l = (refl, refl)
lexeme_drops h s kind l = (refl, refl)

boundary_drops : (s : StepState) (b : Boundary) → IsDropped s (at_boundary s b).1
boundary_drops s (AtStart h) = (refl, refl)
boundary_drops s (PastEnd h) = (refl, refl)
boundary_drops s (AtTextEnd h) = (refl, refl)

found_drops : (h : Here) (s : StepState) (r : Option Lexeme) → IsDropped s (at_found h s r).1
found_drops h s (Some l) = lexeme_drops h s l.kind l
found_drops h s None = boundary_drops s (next_boundary h)

pub restart_drops : (h : Here) (s : StepState) → IsDropped s (behind_fault_at h s).1
unfolding behind_fault_at
restart_drops h s = found_drops h s (read_boundary h s.queue)

-- the parser as it begins anew
same_dropped : (p : ParserState) (end : Mark) (count : ℕ) (kept : List (List ℕ × List ℕ)) → end ≡ p.last_end
    → count ≡ p.count → kept ≡ p.kept → dropped p ≡ record (parser_start end) { count = count; kept = kept }
same_dropped p end count kept ends counts keeps = rw (ends, counts, keeps) refl

same_refusal : (x y : Refusal) → Some x ≡ Some y → x ≡ y
same_refusal x y e = cc

module _ {I : Type 0} (unread : I → Unread → Type 0) (s : Stepping I) (m : StepState) (e : Refused)
    (refused : StandsRefused unread s m e) where
  -- where the cursor stands
  pub stops : s.scanner.cursor.lost ≡ false → StopsAt unread s.scanner.cursor m.reading
  stops found = elim refused.how [
    | inl t ↦ stops_by unread s.scanner m.reading t.behind s.scanner.fault t.known found
    | inr f ↦ stops_by unread s.scanner m.reading m.queue (Some e) f.known found
  ]

  pub counted : s.scanner.laid.number ≡ m.reading.reader.laid.number
  counted = elim refused.how [
    | inl t ↦ number_by unread s.scanner m.reading t.behind s.scanner.fault t.known
    | inr f ↦ number_by unread s.scanner m.reading m.queue (Some e) f.known
  ]

  -- the boundary among what was read
  took_reads : (h : Here) (t : TookFront unread s m refused.refusal e)
      → read_boundary h m.queue ≡ read_boundary h (settled m.reading.reader.laid m.queue)
      → read_boundary h m.queue ≡ read_boundary h (front_items refused.refusal.front ++ s.scanner.queue)
  took_reads h t law =
      ap (read_boundary h) t.queue
      ∙ behind_by unread s.scanner m.reading t.behind s.scanner.fault h t.item t.known t.goes
      (subst (λ (w : List FlaggedItem). read_boundary h w ≡ read_boundary h (settled m.reading.reader.laid w)) t.queue
      law)
      ∙ sym (front_reads h s.scanner.queue refused.refusal.front t.item.item t.front)

  failed_reads : (h : Here) (f : FailedToRead unread s m refused.refusal e)
      → read_boundary h m.queue ≡ read_boundary h (settled m.reading.reader.laid m.queue)
      → read_boundary h m.queue ≡ read_boundary h (front_items refused.refusal.front ++ s.scanner.queue)
  failed_reads h f law =
      waits_by unread s.scanner m.reading m.queue (Some e) h f.known law
      ∙ ap (λ (x : Option (Box code.Lexeme)). read_boundary h (front_items x ++ s.scanner.queue)) (sym f.front)

  pub reads_alike : (h : Here) → read_boundary h m.queue ≡ read_boundary h (settled m.reading.reader.laid m.queue)
      → read_boundary h m.queue ≡ read_boundary h (front_items refused.refusal.front ++ s.scanner.queue)
  reads_alike h law = elim refused.how [ inl t ↦ took_reads h t law | inr f ↦ failed_reads h f law ]

  -- it goes on there
  pub restarts : (at : StopsAt unread s.scanner.cursor m.reading) (new : Stepping I) (starts : Bool)
      → Restarts unread (behind_fault_at at.stop m) new.scanner starts
      → new.parser ≡ record (parser_start refused.refusal.last_end) {
        count = refused.refusal.count;
        kept = s.parser.kept;
      }
      → new.first ≡ None → new.failed ≡ false → new.ahead ≡ None
      → RestartsIn unread s.scanner.cursor starts new m
  restarts at new starts goes parser first going none_ahead =
      let x = behind_fault_at at.stop m in
      let is : behind_fault at.stop m ≡ x = ap (λ (h : Here). behind_fault_at h m) at.at in
      let drops = restart_drops at.stop m in
      let same = same_dropped m.parser refused.refusal.last_end refused.refusal.count s.parser.kept refused.before.1
      refused.before.2 refused.tags in
      let stands : StandsIn unread new x.1 = record {
        going = going;
        reading = goes.1;
        parser = drops.0 ∙ ap (λ (p : ParserState). record p { given = [] }) (same ∙ sym parser);
        pending = drops.1 ∙ sym (ap (λ (y : Option Mark). first_events y ++ new.parser.given) first
            ∙ ap (λ (p : ParserState). p.given) parser);
        numbers = subst (λ (n : ℕ). n < 2 ^ 64 - 1) (sym (ap (λ (p : ParserState). p.count) parser
            ∙ refused.before.2)) refused.numbers;
        none_ahead = none_ahead;
      } in (
        at.stop,
        (at.onward, at.stands),
        goes.0 ∙ ap (λ (y : Bool × StepState). y.0) (sym is),
        subst (λ (y : Bool × StepState). StandsIn unread new y.1) (sym is) stands,
      )

  -- by what the scanner does
  pub restarts_behind : (r : Refusal) → s.refusal ≡ Some r → (o : OptionsData) → Turned o m
      → s.scanner.cursor.lost ≡ false → (new : Stepping I) (starts : Bool)
      → ((n : StepState) (h : Here) → Stands unread s.scanner.cursor h
      → s.scanner.laid.number ≡ n.reading.reader.laid.number
      → read_boundary h n.queue ≡ read_boundary h (front_items r.front ++ s.scanner.queue)
      → Restarts unread (behind_fault_at h n) new.scanner starts)
      → new.parser ≡ record (parser_start r.last_end) { count = r.count; kept = s.parser.kept } → new.first ≡ None
      → new.failed ≡ false → new.ahead ≡ None → RestartsIn unread s.scanner.cursor starts new m
  restarts_behind r is o turned found new starts goes parser first going none_ahead =
      let at = stops found in
      let same : refused.refusal ≡ r = same_refusal refused.refusal r (sym refused.is_kept ∙ is) in
      let reads = reads_alike at.stop (what_goes_holds o at.stop m turned)
      ∙ ap (λ (x : Refusal). read_boundary at.stop (front_items x.front ++ s.scanner.queue)) same in
      restarts at new starts (goes m at.stop at.stands counted reads)
      (parser ∙ ap (λ (x : Refusal). record (parser_start x.last_end) { count = x.count; kept = s.parser.kept })
      (sym same))
      first going none_ahead

-- ---- where a turn is refused

module _ {I : Type 0} (unread : I → Unread → Type 0) (s : Stepping I) (m : StepState) (e : Refused)
    (none : m.pending ≡ []) where
  abbrev here : StepState
  here = with_pending [] m

  -- an item is refused
  item_fails : (x : FlaggedItem × Option ℕ) (is : List FlaggedItem) → m.queue ≡ x.0 ∷ is
      → may_go m.reading x.0 is ≡ true → x.1 ≡ line_asked x.0.item (line_behind m.reading is)
      → (feed_item s.scanner.options x (record m { queue = is }) ≡ Err e)
      ⊎ ((s.renumbered ≡ true) × GetsLast s.scanner.options x m.parser e)
      → FailsIn s.renumbered s.scanner.options here e
  item_fails x is front goes line (inl fails) =
      inl (turn_feeds s.scanner.options here x is refl front goes line ∙ fails)
  item_fails x is front goes line (inr last) =
      inr (last.0, last_turn s.scanner.options here x is refl front goes line e last.1)

  pub item_refuses : (x : FlaggedItem × Option ℕ) (is : List FlaggedItem) → m.queue ≡ x.0 ∷ is
      → may_go m.reading x.0 is ≡ true → x.1 ≡ line_asked x.0.item (line_behind m.reading is)
      → RefusedItem unread x s (record m { queue = is }) e → RefusedIn unread s m e
  item_refuses x is front goes line r = record {
    stands = record {
      refusal = r.refusal;
      is_kept = r.is_kept;
      told = r.told;
      how = inl (record {
        item = x.0;
        behind = is;
        queue = front;
        goes = goes;
        takes = r.is_before.1;
        front = r.is_before.2;
        directive = r.is_before.3;
        expects = r.expects;
        known = r.known;
      });
      pending = none ∙ sym r.none_given;
      tags = r.tags;
      before = r.is_before.0;
      numbers = r.numbers;
    };
    fails = item_fails x is front goes line r.fails;
  }

  -- a read is refused
  fault_taken : KnownBy unread (Some e) s.scanner m.reading m.queue
      → KnownBy unread (Some e) (record (s.scanner) { fault = None; ended = true }) m.reading m.queue
  fault_taken k = (
    k.0,
    k.1,
    k.2,
    record { number = k.3.number; onward = k.3.onward; held = k.3.held; met = k.3.met },
  )

  known_fault : (f : Option Refused) → f ≡ Some e → KnownBy unread f s.scanner m.reading m.queue
      → KnownBy unread (Some e) s.scanner m.reading m.queue
  known_fault f is k = subst (λ (g : Option Refused). KnownBy unread g s.scanner m.reading m.queue) is k

  read_fails : KnownBy unread (Some e) s.scanner m.reading m.queue → may_front_go m.reading m.queue ≡ false
      → step_turn s.scanner.options here ≡ Err e
  read_fails k waits =
      turn_reads s.scanner.options here refl waits
      ∙ ap (λ (b : Bool). read_more s.scanner.options b here) k.0
      ∙ ap (λ (f : Option Refused). read_unless s.scanner.options f here) k.1

  pub read_refuses : (r : Refusal) → StandsIn unread s m → s.first ≡ None → s.scanner.fault ≡ Some e
      → may_front_go m.reading m.queue ≡ false → IsBeforeRead s.parser r
      → RefusedIn unread (record s {
        scanner = record (s.scanner) { fault = None; ended = true };
        refusal = Some r;
      }) m e
  read_refuses r at told is waits b =
      let k = known_fault s.scanner.fault is at.reading in
      record {
        stands = record {
          refusal = r;
          is_kept = refl;
          told = told;
          how = inr (record { waits = waits; takes = b.1; front = b.2; known = fault_taken k });
          pending = at.pending ∙ ap (λ (x : Option Mark). first_events x ++ s.parser.given) told;
          tags = sym (ap (λ (p : ParserState). p.kept) at.parser);
          before = (
            b.0.0 ∙ sym (ap (λ (p : ParserState). p.stage) at.parser),
            b.0.1 ∙ sym (ap (λ (p : ParserState). p.last_end) at.parser),
            b.0.2 ∙ sym (ap (λ (p : ParserState). p.count) at.parser),
          );
          numbers = subst (λ (n : ℕ). n < 2 ^ 64 - 1) (sym (ap (λ (p : ParserState). p.count) at.parser)) at.numbers;
        };
        fails = inl (read_fails k waits);
      }

-- what waits is another matter
module _ {I : Type 0} (unread : I → Unread → Type 0) (s : Stepping I) (m : StepState) (e : Refused)
    (es : List PlainEvent) (p : ParserState) (ahead : Option Refused) (failed : Bool)
    (is : p ≡ record (s.parser) { given = es }) where
  pub stands_with : StandsRefused unread s m e
      → StandsRefused unread (record s { parser = p; ahead = ahead; failed = failed }) (with_pending es m) e
  stands_with r = record {
    refusal = r.refusal;
    is_kept = r.is_kept;
    told = r.told;
    how = elim r.how [
      | inl t ↦ inl (record {
        item = t.item;
        behind = t.behind;
        queue = t.queue;
        goes = t.goes;
        takes = t.takes;
        front = t.front;
        directive = t.directive;
        expects = t.expects;
        known = t.known;
      })
      | inr f ↦ inr (record { waits = f.waits; takes = f.takes; front = f.front; known = f.known })
    ];
    pending = sym (ap (λ (q : ParserState). q.given) is);
    tags = ap (λ (q : ParserState). q.kept) is ∙ r.tags;
    before = r.before;
    numbers = r.numbers;
  }

  pub refused_with : RefusedIn unread s m e
      → RefusedIn unread (record s { parser = p; ahead = ahead; failed = failed }) (with_pending es m) e
  refused_with r = record { stands = stands_with r.stands; fails = r.fails }

-- and so is whether a call failed
pub refused_failed : {I : Type 0} (unread : I → Unread → Type 0) (s : Stepping I) (m : StepState) (e : Refused)
    → RefusedIn unread s m e → RefusedIn unread (record s { failed = true }) m e
refused_failed unread s m e r =
    refused_with unread s m e m.pending s.parser s.ahead true
    (ap (λ (es : List PlainEvent). record (s.parser) { given = es }) (sym r.stands.pending)) r

-- and the number that a next anchor gets, with which recovery goes on
pub stands_recounted : {I : Type 0} (unread : I → Unread → Type 0) (s : Stepping I) (m : StepState) (e : Refused)
    (offset : ℕ) → offset - 1 < 2 ^ 64 - 1 → (p : ParserState) → p ≡ record (s.parser) { count = offset - 1 }
    → (r : Option Refusal) → option_map (recounted offset) s.refusal ≡ r → StandsRefused unread s m e
    → StandsRefused unread (record s { parser = p; renumbered = true; refusal = r }) (with_offset offset m) e
stands_recounted unread s m e offset less p is r kept stands = record {
  refusal = recounted offset stands.refusal;
  is_kept = sym kept ∙ ap (option_map (recounted offset)) stands.is_kept;
  told = stands.told;
  how = elim stands.how [
    | inl t ↦ inl (record {
      item = t.item;
      behind = t.behind;
      queue = t.queue;
      goes = t.goes;
      takes = t.takes;
      front = t.front;
      directive = t.directive;
      expects = t.expects;
      known = t.known;
    })
    | inr f ↦ inr (record { waits = f.waits; takes = f.takes; front = f.front; known = f.known })
  ];
  pending = stands.pending ∙ sym (ap (λ (q : ParserState). q.given) is);
  tags = ap (λ (q : ParserState). q.kept) is ∙ stands.tags;
  before = (stands.before.0, stands.before.1, refl);
  numbers = less;
}

-- a turn that takes an item, whatever it gives
pub item_refuses_in : {I X : Type 0} (unread : I → Unread → Type 0) (s : Stepping I) (m : StepState)
    → m.pending ≡ [] → (x : FlaggedItem × Option ℕ) (is : List FlaggedItem) → m.queue ≡ x.0 ∷ is
    → may_go m.reading x.0 is ≡ true → x.1 ≡ line_asked x.0.item (line_behind m.reading is) → (r : Result X Refused)
    → RefusesItem unread x r s (record m { queue = is }) → RefusesIn unread r s m
item_refuses_in unread s m none x is front goes line (Ok y) given = tt
item_refuses_in unread s m none x is front goes line (Err e) given = λ other.
    item_refuses unread s m e none x is front goes line (given other)

-- and so is where the cursor is known to stand
module _ {I : Type 0} (unread : I → Unread → Type 0) (s : Stepping I) (sc : Scanning I)
    (known : (f : Option Refused) (l : LexState) (q : List FlaggedItem) → KnownBy unread f s.scanner l q
    → KnownBy unread f sc l q) (fault : sc.fault ≡ s.scanner.fault) where
  pub stands_moved : (m : StepState) (e : Refused) → StandsRefused unread s m e
      → StandsRefused unread (record s { scanner = sc }) m e
  stands_moved m e r = record {
    refusal = r.refusal;
    is_kept = r.is_kept;
    told = r.told;
    how = elim r.how [
      | inl t ↦ inl (record {
        item = t.item;
        behind = t.behind;
        queue = t.queue;
        goes = t.goes;
        takes = t.takes;
        front = t.front;
        directive = t.directive;
        expects = t.expects;
        known = subst (λ (f : Option Refused). KnownBy unread f sc m.reading t.behind) (sym fault)
            (known s.scanner.fault m.reading t.behind t.known);
      })
      | inr f ↦ inr (record {
        waits = f.waits;
        takes = f.takes;
        front = f.front;
        known = known (Some e) m.reading m.queue f.known;
      })
    ];
    pending = r.pending;
    tags = r.tags;
    before = r.before;
    numbers = r.numbers;
  }

  pub refused_moved : sc.options ≡ s.scanner.options → (m : StepState) (e : Refused) → RefusedIn unread s m e
      → RefusedIn unread (record s { scanner = sc }) m e
  refused_moved options m e r = record {
    stands = stands_moved m e r.stands;
    fails = subst (λ (o : OptionsData). FailsIn s.renumbered o (with_pending [] m) e) (sym options) r.fails;
  }

  pub held_moved : sc.options ≡ s.scanner.options → (m : StepState) → HoldsRefusal unread s m
      → HoldsRefusal unread (record s { scanner = sc }) m
  held_moved options m h = record {
    error = h.error;
    ahead = h.ahead;
    going = h.going;
    other = h.other;
    refused = refused_moved options m h.error h.refused;
  }

-- and so is what was made ahead
pub refused_ahead : {I : Type 0} (unread : I → Unread → Type 0) (s : Stepping I) (m : StepState) (e : Refused)
    (ahead : Option Refused) → RefusedIn unread s m e → RefusedIn unread (record s { ahead = ahead }) m e
refused_ahead unread s m e ahead r =
    refused_with unread s m e m.pending s.parser ahead s.failed
    (ap (λ (es : List PlainEvent). record (s.parser) { given = es }) (sym r.stands.pending)) r

-- what doesn't want memory is another refusal
pub not_memory : (kind : FaultKind) → wants_memory kind ≡ false → kind ≡ NoMemory → ⊥
not_memory kind is same = let clash : true ≡ false = sym (ap wants_memory same) ∙ is in cc
