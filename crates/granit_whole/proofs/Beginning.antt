-- The lexeme with which too many block collections are open begins one.
use Rattle.std.proofs.Common.{◌≡◌, ℕ, Bool, true, false, List, [], ◌∷◌, ◌++◌, refl, sym, ap, ◌∙◌, subst, inl, inr, Some}
use Rattle.std.proofs.Common.{None, ◌==◌}
use Rattle.std.specs.Prelude.{◌⊎◌, nat_le}
use Rattle.granit_event_machine.specs.EventMachine.{EventState, IsFresh, ending, ended_by, EventStep, GoesTo}
use Rattle.granit_event_machine.specs.EventMachine.{take_frames}
use Rattle.granit_event_machine.specs.Guarded.{Guard, Passes, limit_guard, limit_fault, fault_unless, is_loose}
use Rattle.granit_event_machine.specs.Guarded.{state_count}
use Rattle.granit_event_machine.specs.OpenWithin.{hole_blocks, open_blocks}
use Rattle.granit_event_machine.specs.Passing.{RunsTo, runs_none, runs_on, GuardFault}
use Rattle.granit_event_machine.specs.PlaceFrames.{state_at}
use Rattle.granit_grammar.specs.TreeMachine.{NextPlace, Go, NotTaken, if_go, entry_take, entry_at, plain_site}
use Rattle.granit_grammar.specs.TreeMachine.{pair_site, want_take, take, tree_step, Short, parse, tree_start}
use Rattle.granit_language.specs.Choice.{choose}
use Rattle.granit_language.specs.GrammarFault.{GrammarFault, TooManyBlocks}
use Rattle.granit_language.specs.Node.{TreeProperties, NoProperties, One, Two, Flow, EntryLead, NoEntry, Through}
use Rattle.granit_language.specs.Node.{NoPair, AfterPair, NoLast, LastItem, Paired}
use Rattle.granit_language.specs.OpenPlace.{Bare, BlockPairs, FlowPairs, Hole, AtRoot, AtEntry, AtItem, AtKey, AtAsk}
use Rattle.granit_language.specs.OpenPlace.{AtColon, OpenPlace, Fresh, InDirectives, BehindRoot, Want, PastEntry}
use Rattle.granit_language.specs.OpenPlace.{PastKey, PastAsk, PastPair, PastItem, spell_open, holder, room_of}
use Rattle.granit_language.specs.OpenPlace.{OpenPlaced, HasOneName}
use Rattle.granit_language.specs.Room.{room_behind, right_fits, loose_fits, indicates, opens, part_fits, place_fits}
use Rattle.granit_language.specs.Settling.{settle_place}
use Rattle.granit_language.specs.Terminal.{Alias, Property, Scalar, Open, TerminalKind, Directive, DocumentStart}
use Rattle.granit_language.specs.Terminal.{DocumentEnd, TheEnd, Dash, Question, Comma, Colon, Close, Part, At, Terminal}
use Rattle.granit_language.specs.Terminal.{terminal, edge, entry_in, no_terminal}
use Rattle.granit_language.specs.TreeEvents.{TreeEvent}
use Rattle.granit_language.specs.Whole.{BeginsBlock, begins_sequence, begins_mapping}
use Rattle.granit_lexemes.specs.declared.layout.Bracket.TheVariants.{Square, Curly}
use Rattle.granit_event_machine.proofs.AgreeClose.{ending_state, close_agrees}
use Rattle.granit_event_machine.proofs.AgreeStep.{StepsTo, goes_to, stops_at, take_agrees}
use Rattle.granit_event_machine.proofs.Guards.{unpass}
use Rattle.granit_grammar.proofs.Leading.{leads_want}
use Rattle.granit_event_machine.proofs.Limit.{from_zero, passed_fault}
use Rattle.granit_grammar.proofs.Placing.{NextPlaced, close_placed, take_placed}
use Rattle.granit_whole.proofs.Prefixes.{NextOpen, step_open}
use Rattle.granit_grammar.proofs.Sound.{Leads, Then, step_leads}
use Rattle.granit_event_machine.proofs.Withins.{NextStays, put_blocks, part_stays, entry_stays, close_most, count_same}

-- ---- the event machine's run from an open place comes to one

record StepTo (x : Terminal) (p : OpenPlace) (st : EventState) : Type 0 where
  place : OpenPlace
  goes : tree_step p x ≡ Go place
  is_open : HasOneName place
  placed : (y : Terminal) → OpenPlaced y place
  state : st ≡ state_at place
  spells : (more : List Terminal) → spell_open place more ≡ spell_open p (x ∷ more)

step_to :
    {f : List TreeEvent → List TreeEvent} {k : GrammarFault} {s : EventStep} {n : NextPlace} →
    (st : EventState) (es : List TreeEvent) → StepsTo f k s n → s ≡ GoesTo st es →
    (q : OpenPlace) × (n ≡ Go q) × (st ≡ state_at q)
step_to st es (goes_to {st = st1} {es = es1} {q = q} i e g) h = let same : st1 ≡ st = cc (h) in (q, refl, sym same ∙ e)
step_to st es (stops_at e) h = absurd cc

step_from :
    (x : Terminal) (p : OpenPlace) (st1 st2 : EventState) (es1 es2 : List TreeEvent) → HasOneName p →
    ((y : Terminal) → OpenPlaced y p) → ended_by x (state_at p) ≡ ending st1 es1 →
    take_frames st1 x.kind x.at ≡ GoesTo st2 es2 → StepTo x p st2
step_from x p st1 st2 es1 es2 i f e1 e2 =
    let a = close_agrees x p i in
    let q = settle_place x p in
    let same : st1 ≡ state_at q = sym (ap ending_state e1) ∙ a.state_is in
    let s = step_to st2 es2 (take_agrees q x.kind x.at a.is_open)
    (ap (λ st. take_frames st x.kind x.at) (sym same) ∙ e2) in
    record {
      place = s.0;
      goes = s.1;
      is_open = subst NextOpen s.1 (step_open p x i);
      placed = subst NextPlaced s.1 (take_placed q x.kind x.at (close_placed x p (f x)));
      state = s.2;
      spells = subst (λ n. Leads n (Then p x.kind x.at)) s.1 (step_leads p x);
    }

record RanTo (xs : List Terminal) (p : OpenPlace) (st : EventState) : Type 0 where
  place : OpenPlace
  is_open : HasOneName place
  placed : (y : Terminal) → OpenPlaced y place
  state : st ≡ state_at place
  spells : (more : List Terminal) → spell_open place more ≡ spell_open p (xs ++ more)

ran_to :
    {st to : EventState} {xs : List Terminal} → RunsTo st xs to → (p : OpenPlace) → st ≡ state_at p → HasOneName p →
    ((y : Terminal) → OpenPlaced y p) → RanTo xs p to
ran_to runs_none p e i f = record { place = p; is_open = i; placed = f; state = e; spells = λ more. refl }
ran_to (runs_on {st1 = st1} {st2 = st2} {es1 = es1} {es2 = es2} {x = x} {xs = xs} e1 e2 r) p e i f =
    let s = step_from x p st1 st2 es1 es2 i f (ap (ended_by x) (sym e) ∙ e1) e2 in
    let t = ran_to r s.place s.state s.is_open s.placed in
    record {
      place = t.place;
      is_open = t.is_open;
      placed = t.placed;
      state = t.state;
      spells = λ more. t.spells more ∙ s.spells (xs ++ more);
    }

record LastStep (front : List Terminal) (x : Terminal) (st to : EventState) : Type 0 where
  middle : EventState
  before : RunsTo st front middle
  last : RunsTo middle (x ∷ []) to

runs_split :
    (front : List Terminal) (x : Terminal) (st to : EventState) → RunsTo st (front ++ (x ∷ [])) to →
    LastStep front x st to
runs_split [] x st to r = record { middle = st; before = runs_none; last = r }
runs_split (y ∷ front) x st to (runs_on {st2 = st2} e1 e2 r) =
    let t = runs_split front x st2 to r in
    record { middle = t.middle; before = runs_on e1 e2 t.before; last = t.last }

runs_count :
    (n : ℕ) {st to : EventState} {xs : List Terminal} → RunsTo st xs to → Passes (limit_guard n) xs st →
    nat_le (state_count st) n ≡ true → nat_le (state_count to) n ≡ true
runs_count n runs_none h c = c
runs_count n (runs_on {st = st} {st1 = st1} {st2 = st2} {es1 = es1} {es2 = es2} {x = x} {xs = xs} e1 e2 r) h c =
    let u = unpass (limit_guard n) x xs st st1 st2 es1 es2 e1 e2 h in
    runs_count n r u.1 (passed_fault (nat_le (state_count st2) n) (TooManyBlocks (is_loose st2)) u.0)

-- ---- a step with which more block collections are open begins one

data SequenceBegun (i : At) : OpenPlace → Type 0 where
  sequence_begun :
      (r : Hole) (p : TreeProperties) (loose : Bool) (c : ℕ) (lead : EntryLead) →
      SequenceBegun i (Want (AtEntry r p loose c lead i) NoProperties)

abbrev Shape : TerminalKind → At → OpenPlace → Type 0
Shape Dash i q = SequenceBegun i q
Shape kind i q = is_loose (state_at q) ≡ false

abbrev Begun : ℕ → TerminalKind → At → NextPlace → Type 0
Begun d kind i (Go q) = (open_blocks q ≡ d) ⊎ Shape kind i q
Begun d kind i NotTaken = Unit {0}

if_begun : (d : ℕ) (kind : TerminalKind) (i : At) (b : Bool) (n : NextPlace) → Begun d kind i n
    → Begun d kind i (if_go b n)
if_begun d kind i true n h = h
if_begun d kind i false n h = tt

choose_begun :
    (d : ℕ) (kind : TerminalKind) (i : At) (b : Bool) (m n : NextPlace) → Begun d kind i m → Begun d kind i n →
    Begun d kind i (choose b m n)
choose_begun d kind i true m n h g = h
choose_begun d kind i false m n h g = g

stays_begun : (b : Bool) (d : ℕ) (kind : TerminalKind) (i : At) (n : NextPlace) → NextStays 0 b d n → Begun d kind i n
stays_begun b d kind i (Go q) h = inl h.1
stays_begun b d kind i NotTaken h = tt

mapping_begun :
    (r : Hole) (p : TreeProperties) (c d : ℕ) (kind : TerminalKind) (i : At) →
    Begun d kind i (entry_take r (BlockPairs p c NoPair) kind i)
mapping_begun r p c d (Part (Alias name)) i = inr refl
mapping_begun r p c d (Part (Property k)) i = inr refl
mapping_begun r p c d (Part (Scalar style text)) i = inr refl
mapping_begun r p c d (Part (Open Square)) i = inr refl
mapping_begun r p c d (Part (Open Curly)) i = inr refl
mapping_begun r p c d Question i = inr refl
mapping_begun r p c d (Colon None) i = inr refl
mapping_begun r p c d kind i = tt

plain_begun :
    (r : Hole) (kind : TerminalKind) (i : At) → Begun (hole_blocks r) kind i (entry_at (plain_site r i) kind i)
plain_begun (AtItem r q bracket o lead) kind i =
    stays_begun _ _ kind i _ (entry_stays 0 r (FlowPairs q bracket o lead) kind i)
plain_begun (AtRoot root) kind i = mapping_begun (AtRoot root) NoProperties (edge i) _ kind i
plain_begun (AtEntry r p loose c lead j) kind i = mapping_begun (AtEntry r p loose c lead j) NoProperties
    (edge i) _ kind i
plain_begun (AtKey r a f) kind i = mapping_begun (AtKey r a f) NoProperties (edge i) _ kind i
plain_begun (AtAsk r a q) kind i = mapping_begun (AtAsk r a q) NoProperties (edge i) _ kind i
plain_begun (AtColon r a left m) kind i = mapping_begun (AtColon r a left m) NoProperties (edge i) _ kind i

site_begun :
    (r : Hole) (p : TreeProperties) (kind : TerminalKind) (i : At) →
    Begun (hole_blocks r) kind i (entry_at (pair_site r p i) kind i)
site_begun r NoProperties kind i = plain_begun r kind i
site_begun r (One k j) kind i = mapping_begun r (One k j) (edge i) _ kind i
site_begun r (Two k j m h) kind i = mapping_begun r (Two k j m h) (edge i) _ kind i

want_begun :
    (r : Hole) (p : TreeProperties) (kind : TerminalKind) (i : At) → Begun (hole_blocks r) kind i (want_take r p kind i)
want_begun r p (Part k) i =
    choose_begun _ (Part k) i (opens (room_behind p (room_of r)) i) _ _ (site_begun r p (Part k) i)
    (if_begun _ (Part k) i (part_fits (room_behind p (room_of r)) i) _
    (stays_begun _ _ (Part k) i _ (part_stays 0 r p k i)))
want_begun r p Dash i =
    choose_begun _ Dash i (loose_fits (room_behind p (room_of r)) (edge i)) _ _
    (inr (sequence_begun r p true (edge i) NoEntry))
    (if_begun _ Dash i (right_fits (room_behind p (room_of r)) (edge i)) _
    (inr (sequence_begun r p false (edge i) NoEntry)))
want_begun r p Question i =
    if_begun _ Question i (indicates (room_behind p (room_of r)) i) _ (site_begun r p Question i)
want_begun r p (Colon None) i =
    if_begun _ (Colon None) i (indicates (room_behind p (room_of r)) i) _ (site_begun r p (Colon None) i)
want_begun (AtItem r q Square o lead) NoProperties (Close Square) i = inl (put_blocks r (Flow q Square o lead NoLast i))
want_begun (AtItem r q Curly o lead) NoProperties (Close Curly) i = inl (put_blocks r (Flow q Curly o lead NoLast i))
want_begun r p kind i = tt

take_begun : (p : OpenPlace) (kind : TerminalKind) (i : At) → Begun (open_blocks p) kind i (take p kind i)
take_begun (Fresh b) (Directive d) i = inl refl
take_begun (Fresh b) DocumentStart i = inl refl
take_begun (Fresh b) DocumentEnd i = inl refl
take_begun (Fresh b) TheEnd i = inl refl
take_begun (Fresh b) kind i = want_begun (AtRoot (Bare b)) NoProperties kind i
take_begun (InDirectives ds) (Directive d) i = inl refl
take_begun (InDirectives ds) DocumentStart i = inl refl
take_begun (BehindRoot ro) DocumentStart i = inl refl
take_begun (BehindRoot ro) DocumentEnd i = inl refl
take_begun (BehindRoot ro) TheEnd i = inl refl
take_begun (Want r p) kind i = want_begun r p kind i
take_begun (PastEntry r p loose c es) Dash i = if_begun _ Dash i (edge i == c) _ (inl refl)
take_begun (PastKey r a f k) (Colon (Some m)) i = inl refl
take_begun (PastAsk r a q v) (Colon None) i = if_begun _ (Colon None) i (place_fits (holder a) i) _ (inl refl)
take_begun (PastPair r (BlockPairs p c lead) pair) kind i =
    if_begun _ kind i (entry_in (terminal kind i) c) _
    (stays_begun _ _ kind i _ (entry_stays 0 r (BlockPairs p c (AfterPair (Through lead pair))) kind i))
take_begun (PastPair r (FlowPairs p Curly o lead) pair) Comma i = inl refl
take_begun (PastPair r (FlowPairs p Curly o lead) pair) (Close Curly) i =
    inl (put_blocks r (Flow p Curly o lead (LastItem (Paired pair)) i))
take_begun (PastItem r p bracket o lead item) Comma i = inl refl
take_begun (PastItem r p Square o lead item) (Close Square) i =
    inl (put_blocks r (Flow p Square o lead (LastItem item) i))
take_begun (PastItem r p Curly o lead item) (Close Curly) i = inl (put_blocks r (Flow p Curly o lead (LastItem item) i))
take_begun p kind i = tt

begins_by :
    (xs : List Terminal) (kind : TerminalKind) (i : At) (q : OpenPlace) → Shape kind i q → OpenPlaced no_terminal q →
    spell_open q [] ≡ xs → BeginsBlock xs kind (is_loose (state_at q))
begins_by xs Dash i q (sequence_begun r p loose c lead) f e = begins_sequence r p c lead i f.0 e
begins_by xs kind i q h f e = subst (BeginsBlock xs kind) (sym h) (begins_mapping refl)

-- ---- the fault of the limit

over_count : (b : Bool) (j k : GrammarFault) → fault_unless b j ≡ Some k → b ≡ false
over_count true j k e = absurd cc
over_count false j k e = refl

begins_at :
    (n : ℕ) (p : OpenPlace) (x : Terminal) (st : EventState) (k : GrammarFault) (s : StepTo x p st)
    (xs : List Terminal) →
    nat_le (open_blocks (settle_place x p)) n ≡ true → limit_fault n st ≡ Some k → spell_open s.place [] ≡ xs →
    Begun (open_blocks (settle_place x p)) x.kind x.at (Go s.place) → BeginsBlock xs x.kind (is_loose st)
begins_at n p x st k s xs le f e (inl same) =
    let over = over_count (nat_le (state_count st) n) (TooManyBlocks (is_loose st)) k f in
    let count : nat_le (state_count st) n ≡ true =
    ap (λ d. nat_le d n) (ap state_count s.state ∙ (count_same s.place ∙ same)) ∙ le in
    absurd cc
begins_at n p x st k s xs le f e (inr shape) =
    subst (λ st. BeginsBlock xs x.kind (is_loose st)) (sym s.state)
    (begins_by xs x.kind x.at s.place shape (s.placed no_terminal) e)

last_begins :
    (n : ℕ) (front : List Terminal) (x : Terminal) (middle to : EventState) (k : GrammarFault) →
    RanTo front tree_start middle → nat_le (state_count middle) n ≡ true → RunsTo middle (x ∷ []) to →
    limit_fault n to ≡ Some k → BeginsBlock (front ++ (x ∷ [])) x.kind (is_loose to)
last_begins n front x middle to k t le (runs_on {st1 = st1} {es1 = es1} {es2 = es2} e1 e2 runs_none) f =
    let s = step_from x t.place st1 to es1 es2 t.is_open t.placed (ap (ended_by x) (sym t.state) ∙ e1) e2 in
    let count : nat_le (open_blocks t.place) n ≡ true =
    ap (λ d. nat_le d n) (sym (count_same t.place) ∙ ap state_count (sym t.state)) ∙ le in
    begins_at n t.place x to k s (front ++ (x ∷ [])) (close_most n x t.place count) f
    (s.spells [] ∙ t.spells (x ∷ []))
    (subst (Begun (open_blocks (settle_place x t.place)) x.kind x.at) s.goes
    (take_begun (settle_place x t.place) x.kind x.at))

pub too_many_begin :
    (g : Guard) (n : ℕ) (xs : List Terminal) (k : GrammarFault) (x : Terminal) (h : GuardFault g xs IsFresh k x) →
    Passes (limit_guard n) h.front IsFresh → limit_fault n h.behind ≡ Some k →
    BeginsBlock (h.front ++ (x ∷ [])) x.kind (is_loose h.behind)
too_many_begin g n xs k x h p f =
    let r = runs_split h.front x IsFresh h.behind h.comes in
    last_begins n h.front x r.middle h.behind k (ran_to r.before tree_start refl tt (λ y. tt))
    (runs_count n r.before p (from_zero n)) r.last f

-- ---- what begins is one

short_same : (p q : OpenPlace) → Short p ≡ Short q → p ≡ q
short_same p q e = cc (e)

abbrev entry_loose : OpenPlace → Bool
entry_loose (Want (AtEntry r p loose c lead i) q) = loose
entry_loose p = false

pub begins_one :
    (xs : List Terminal) (kind : TerminalKind) (a b : Bool) → BeginsBlock xs kind a → BeginsBlock xs kind b → a ≡ b
begins_one xs kind a b (begins_sequence r p c lead i f e) (begins_sequence s q d more j g h) =
    let there = leads_want (AtEntry r p a c lead i) [] tt f in
    let same = leads_want (AtEntry s q b d more j) [] tt g in
    ap entry_loose
    (short_same (Want (AtEntry r p a c lead i) NoProperties) (Want (AtEntry s q b d more j) NoProperties)
    (sym there ∙ ap (λ ls. parse ls tree_start) (e ∙ sym h) ∙ same))
begins_one xs kind a b (begins_sequence r p c lead i f e) (begins_mapping n) = absurd cc
begins_one xs kind a b (begins_mapping n) (begins_sequence s q d more j g h) = absurd cc
begins_one xs kind a b (begins_mapping n) (begins_mapping m) = refl
