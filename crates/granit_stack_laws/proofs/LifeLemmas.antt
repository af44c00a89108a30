-- Parsers, and events that are given once more, have numbers above the ids that they give.
use Rattle.std.proofs.Common.{◌≡◌, ◌∙◌, ◌⊎◌, inl, inr, ℕ, suc, ◌+◌, ◌-◌, ◌<◌, ◌≤◌, ◌==◌, min, max, Bool, true}
use Rattle.std.proofs.Common.{false, List, [], ◌∷◌, Option, Some, None, Ok, refl, sym, ap, subst, arith}
use Rattle.std.proofs.lemmas.Bool.Decides.{Decides-eqb}
use Rattle.std.specs.Option.{option_map}
use Rattle.std.specs.Prelude.{if◌then◌else◌}
use Rattle.granit_base.specs.Counts.{last_count}
use Rattle.granit_base.specs.Place.{Unread}
use Rattle.granit_base.specs.declared.place.Span.{Span}
use Rattle.granit_error.specs.OptionsData.{OptionsData}
use Rattle.granit_event.specs.declared.event.Event.{Event}
use Rattle.granit_event.specs.Events.{event_kind, plain_event, plain_events}
use Rattle.granit_event.specs.Helpers.{anchor_of}
use Rattle.granit_input.specs.Origin.{Origin}
use Rattle.granit_layers.specs.Kinds.{SetsAny, StepsAny, number_by_kind, number_over}
use Rattle.granit_layers.specs.Turning.{Next}
use Rattle.granit_layers.specs.declared.kinds.AnyKind.{AnyKind}
use Rattle.granit_layers.specs.declared.kinds.AnyKind.TheVariants.{First, Second, Third, Fourth}
use Rattle.granit_lexemes.specs.PlainEvent.{EventKind, PlainEvent, Anchor, MappingStart, Scalar, SequenceStart}
use Rattle.granit_machine.specs.Frames.{ParserState}
use Rattle.granit_parser.proofs.SourceLemmas.{never_told}
use Rattle.granit_parser.specs.Numbers.{next_number, with_number}
use Rattle.granit_parser.specs.Parsing.{ParserStepsTo, Parsing, StandsAt, StandsBefore, Stepping, StandsIn}
use Rattle.granit_ids.specs.Ids.{Counted, counted_more, counted_start, counted_step, counting_from, id_of, id_told}
use Rattle.granit_restart.specs.Turned.{with_count}
use Rattle.granit_replay.specs.Replaying.{Replay, behind_next, next_of, raised_by, raised_by_all}
use Rattle.granit_replay.specs.Replaying.{raised_over}
use Rattle.granit_stack_laws.proofs.FreshLemmas.{below_more}
use Rattle.granit_stack_laws.specs.Fresh.{IdBelow, IdsBelow, Numbering}
use Rattle.granit_stack_laws.specs.Life.{IsNumbered, IsUnread, UnreadAny}
use Rattle.granit_refusals.specs.BeforeTurn.{recounted}
use Rattle.granit_refusals.specs.declared.refusal.Refusal.{Refusal}
use Rattle.granit_steps.specs.Steps.{StepState, next_event}

-- ---- parsers

-- the law on counts of the machine
abbrev pub StepsCount : Type 0
StepsCount = (o : OptionsData) (m after : StepState) (r : Option PlainEvent) → Counted o m
    → next_event o m ≡ Ok (r, after) → (m.parser.count ≤ after.parser.count) × (id_told r ≤ after.parser.count)

min_more : (a b top : ℕ) → a ≤ b → min (suc a) top ≤ min (suc b) top
min_more a b top less = omega arith

below_next : (id count top : ℕ) → id ≤ count → min (suc count) top < top → id < min (suc count) top
below_next id count top less small = omega arith

reaches : (n m top : ℕ) → m ≡ min (suc (n - 1)) top → n ≤ top → n ≤ m
reaches n m top is most = omega arith

less_one : (n count top : ℕ) → min (suc count) top ≤ n → count < top → count ≤ n - 1
less_one n count top less small = omega arith

within : (n top : ℕ) → 0 < top → n ≤ top → n - 1 < top
within n top some most = omega arith

at_most : (a top : ℕ) → min (suc a) top ≤ top
at_most a top = omega arith

module _ {I : Type 0} (unread : I → Unread → Type 0) (left : I → ℕ) (origin : I → Origin) (law : StepsCount) where
  pub record IsCounted (p : Parsing I) : Type 0 where
    state : StepState
    counted : Counted p.stepper.scanner.options state
    stands : StandsIn unread p.stepper state
    unseen : p.peeked ≡ None

  stands_at : (p : Parsing I) (m : StepState) → p.peeked ≡ None → StandsIn unread p.stepper m → StandsAt unread p m
  stands_at p m unseen stands = subst (λ (r : Next). StandsBefore unread r p.stepper m) (sym unseen) stands

  stands_in : (p : Parsing I) (m : StepState) → p.peeked ≡ None → StandsAt unread p m → StandsIn unread p.stepper m
  stands_in p m unseen stands = subst (λ (r : Next). StandsBefore unread r p.stepper m) unseen stands

  count_of : (s : Stepping I) (m : StepState) → StandsIn unread s m → m.parser.count ≡ s.parser.count
  count_of s m stands = let e = stands.parser in ap (λ (p : ParserState). p.count) e

  -- behind a step
  record Went (p q : Parsing I) (r : Option PlainEvent) : Type 0 where
    counted : IsCounted q
    count : p.stepper.parser.count ≤ q.stepper.parser.count
    id : id_told r ≤ q.stepper.parser.count

  went : (p q : Parsing I) (r : Option PlainEvent) (after : StepState) → (g : IsCounted p) → StandsAt unread q after
      → next_event p.stepper.scanner.options g.state ≡ Ok (r, after) → q.peeked ≡ None
      → q.stepper.scanner.options ≡ p.stepper.scanner.options → Went p q r
  went p q r after g at is unseen options =
      let o = p.stepper.scanner.options in
      let stands = stands_in q after unseen at in
      let counts = law o g.state after r g.counted is in
      let before : g.state.parser.count ≡ p.stepper.parser.count = count_of p.stepper g.state g.stands in
      let behind : after.parser.count ≡ q.stepper.parser.count = count_of q.stepper after stands in
      let more : g.state.parser.count ≤ after.parser.count = counts.0 in
      let below : id_told r ≤ after.parser.count = counts.1 in
      record {
        counted = record {
          state = after;
          counted = subst (λ (x : OptionsData). Counted x after) (sym options) (counted_step g.counted is);
          stands = stands;
          unseen = unseen;
        };
        count = omega arith;
        id = omega arith;
      }

  steps_on : (p q : Parsing I) (e : Event × Span) → IsCounted p → ParserStepsTo unread left origin p (Some (Ok e)) q
      → Went p q (Some (plain_event e))
  steps_on p q e g step =
      let gives = never_told (step.known g.state (stands_at p g.state g.unseen g.stands)) in
      went p q (Some (plain_event e)) gives.0 g gives.1 gives.2 step.none step.options

  steps_out : (p q : Parsing I) → IsCounted p → ParserStepsTo unread left origin p None q → Went p q None
  steps_out p q g step =
      let gives = never_told (step.known g.state (stands_at p g.state g.unseen g.stands)) in
      went p q None gives.0 g gives.1 gives.2 step.none step.options

  -- a number is set
  set_in : (s : Stepping I) (m : StepState) (count : ℕ) (r : Option Refusal) → count < last_count
      → StandsIn unread s m
      → StandsIn unread (record s { parser = record (s.parser) { count = count }; renumbered = true; refusal = r })
      (with_count count m)
  set_in s m count r small x = record {
    going = x.going;
    reading = x.reading;
    parser = ap (λ (p : ParserState). record p { count = count }) x.parser;
    pending = x.pending;
    numbers = small;
    none_ahead = x.none_ahead;
  }

  set_as : (n : ℕ) (p q : Parsing I) (m after : StepState) → n - 1 < last_count → q ≡ with_number n p
      → p.peeked ≡ None → after ≡ with_count (n - 1) m → StandsIn unread p.stepper m
      → Counted p.stepper.scanner.options after → IsCounted q
  set_as n p q m after small set unseen is stands counted = record {
    state = after;
    counted =
        subst (λ (x : OptionsData). Counted x after)
        (sym (ap (λ (x : Parsing I). x.stepper.scanner.options) set)) counted;
    stands =
        subst (λ (x : StepState). StandsIn unread q.stepper x) (sym is)
        (subst (λ (s : Stepping I). StandsIn unread s (with_count (n - 1) m))
        (sym (ap (λ (x : Parsing I). x.stepper) set)) (set_in p.stepper m (n - 1)
        (option_map (recounted n) p.stepper.refusal) small stands));
    unseen = ap (λ (x : Parsing I). x.peeked) set ∙ unseen;
  }

  numbered_as : (n : ℕ) (p q : Parsing I) → q ≡ with_number n p → next_number q ≡ min (suc (n - 1)) last_count
  numbered_as n p q set = ap next_number set

  -- a number of 64 bits is set
  set_to : (n : ℕ) (p q : Parsing I) (m after : StepState) → n ≤ last_count → q ≡ with_number n p → p.peeked ≡ None
      → after ≡ with_count (n - 1) m → StandsIn unread p.stepper m → Counted p.stepper.scanner.options after
      → IsCounted q × (n ≤ next_number q)
  set_to n p q m after most set unseen is stands counted = (
    set_as n p q m after (within n last_count (omega arith) most) set unseen is stands counted,
    reaches n (next_number q) last_count (numbered_as n p q set) most,
  )

  pub parser_numbers : Numbering (ParserStepsTo unread left origin) next_number (λ n p q. q ≡ with_number n p)
      (λ p below. below) IsCounted (IsUnread unread)
  parser_numbers = record {
    bound = λ p g. at_most p.stepper.parser.count last_count;
    gives = λ p q e g step.
        let w = steps_on p q e g step in
        (w.counted, min_more p.stepper.parser.count q.stepper.parser.count last_count w.count);
    ids = λ p q e g step small.
        let w = steps_on p q e g step in
        inr (below_next (id_of (event_kind e.0)) q.stepper.parser.count last_count w.id small);
    ends = λ p q g step.
        let w = steps_out p q g step in
        (w.counted, min_more p.stepper.parser.count q.stepper.parser.count last_count w.count);
    raises = λ n p q g less most set.
        let same : g.state.parser.count ≡ p.stepper.parser.count = count_of p.stepper g.state g.stands in
        let low : p.stepper.parser.count ≤ n - 1 =
        less_one n p.stepper.parser.count last_count less g.stands.numbers in
        let more : g.state.parser.count ≤ n - 1 = omega arith in
        set_to n p q g.state (with_count (n - 1) g.state) most set g.unseen refl g.stands
        (counted_more (n - 1) g.counted more);
    begins = λ n p q u most set.
        set_to n p q (counting_from u.count u.start) (counting_from (n - 1) u.start) most set u.unseen refl u.stands
        (counted_start (n - 1) u.start);
    lies = λ n p u most. (omega arith, most);
    alone = λ p u. record {
      state = counting_from u.count u.start;
      counted = counted_start u.count u.start;
      stands = u.stands;
      unseen = u.unseen;
    };
  }

-- ---- events that are given once more

-- each id is below a number
abbrev pub IdsUnder : ℕ → List PlainEvent → Type 0
IdsUnder n [] = Unit {0}
IdsUnder n (e ∷ es) = (id_of e.kind < n) × IdsUnder n es

-- a number that is raised over an id is above it, where either is below the greatest
below_raised : (id n top : ℕ) → (id < top) ⊎ (max n (min (id + 1) top) < top) → id < max n (min (id + 1) top)
below_raised id n top (inl small) = omega arith
below_raised id n top (inr small) = omega arith

by_zero : (b : Bool) (id n : ℕ) → (id == 0) ≡ b
    → (id < last_count) ⊎ (raised_over (if b then None else Some id) n < last_count)
    → (id ≡ 0) ⊎ (id < raised_over (if b then None else Some id) n)
by_zero true id n is small = inl ((Decides-eqb id 0).0 is)
by_zero false id n is small = inr (below_raised id n last_count small)

kind_below : (kind : EventKind) (n : ℕ) → (id_of kind < last_count) ⊎ (raised_over (anchor_of kind) n < last_count)
    → (id_of kind ≡ 0) ⊎ (id_of kind < raised_over (anchor_of kind) n)
kind_below (Anchor id name) n small = by_zero (id == 0) id n refl small
kind_below (Scalar text style id tag) n small = by_zero (id == 0) id n refl small
kind_below (SequenceStart style id tag) n small = by_zero (id == 0) id n refl small
kind_below (MappingStart style id tag) n small = by_zero (id == 0) id n refl small
kind_below kind n small = inl refl

raised_least : (anchor : Option ℕ) (n : ℕ) → n ≤ raised_over anchor n
raised_least None n = omega arith
raised_least (Some id) n = omega arith

raised_by_least : (es : List (Event × Span)) (n : ℕ) → n ≤ raised_by_all n es
raised_by_least [] n = omega arith
raised_by_least (e ∷ es) n =
    let first : n ≤ raised_by n e = raised_least (anchor_of (event_kind e.0)) n in
    let rest : raised_by n e ≤ raised_by_all (raised_by n e) es = raised_by_least es (raised_by n e) in omega arith

-- a number past all anchors of events is above their ids, where these are below the greatest
pub all_below : (es : List (Event × Span)) (n : ℕ) → IdsUnder last_count (plain_events es)
    → IdsBelow (raised_by_all n es) es
all_below [] n small = tt
all_below (e ∷ es) n small =
    let m = raised_by n e in
    let least : m ≤ raised_by_all m es = raised_by_least es m in (
      below_more m (raised_by_all m es) e least (kind_below (event_kind e.0) n (inl small.0)),
      all_below es m small.1,
    )

raised_most : (anchor : Option ℕ) (n : ℕ) → n ≤ last_count → raised_over anchor n ≤ last_count
raised_most None n most = most
raised_most (Some id) n most = omega arith

pub raised_by_all_most : (es : List (Event × Span)) (n : ℕ) → n ≤ last_count → raised_by_all n es ≤ last_count
raised_by_all_most [] n most = most
raised_by_all_most (e ∷ es) n most =
    raised_by_all_most es (raised_by n e) (raised_most (anchor_of (event_kind e.0)) n most)

replay_gives : (es : List (Event × Span)) (n : ℕ) (q : Replay) (e : Event × Span)
    → ◌≡◌ {A = Next} (Some (Ok e)) (next_of (record { events = es; anchor_offset = n }))
    → q ≡ behind_next (record { events = es; anchor_offset = n }) → q.anchor_offset ≡ raised_by n e
replay_gives [] n q e given behind = absurd cc
replay_gives (x ∷ xs) n q e given behind =
    let same : x ≡ e = cc in ap (λ (r : Replay). r.anchor_offset) behind ∙ ap (raised_by n) same

replay_ends : (es : List (Event × Span)) (n : ℕ) (q : Replay)
    → ◌≡◌ {A = Next} None (next_of (record { events = es; anchor_offset = n }))
    → q ≡ behind_next (record { events = es; anchor_offset = n }) → q.anchor_offset ≡ n
replay_ends [] n q given behind = ap (λ (r : Replay). r.anchor_offset) behind
replay_ends (x ∷ xs) n q given behind = absurd cc

pub replay_numbers : Numbering (λ (p : Replay) (r : Next) (q : Replay). (r ≡ next_of p) × (q ≡ behind_next p))
    (λ p. p.anchor_offset) (λ n p q. q ≡ record p { anchor_offset = n }) (λ p below. max p.anchor_offset below)
    IsNumbered IsNumbered
replay_numbers = record {
  bound = λ p g. g;
  gives = λ p q e g step.
      let is = replay_gives p.events p.anchor_offset q e step.0 step.1 in
      let anchor = anchor_of (event_kind e.0) in (
        subst (λ (m : ℕ). m ≤ last_count) (sym is) (raised_most anchor p.anchor_offset g),
        subst (λ (m : ℕ). p.anchor_offset ≤ m) (sym is) (raised_least anchor p.anchor_offset),
      );
  ids = λ p q e g step small.
      let is = replay_gives p.events p.anchor_offset q e step.0 step.1 in
      subst (λ (m : ℕ). IdBelow m e) (sym is)
      (kind_below (event_kind e.0) p.anchor_offset (inr (subst (λ (m : ℕ). m < last_count) is small)));
  ends = λ p q g step.
      let is = replay_ends p.events p.anchor_offset q step.0 step.1 in
      (subst (λ (m : ℕ). m ≤ last_count) (sym is) g, subst (λ (m : ℕ). p.anchor_offset ≤ m) (sym is) (omega arith));
  raises = λ n p q g less most set.
      let is : q.anchor_offset ≡ n = ap (λ (r : Replay). r.anchor_offset) set in
      (subst (λ (m : ℕ). m ≤ last_count) (sym is) most, subst (λ (m : ℕ). n ≤ m) (sym is) (omega arith));
  begins = λ n p q g most set.
      let is : q.anchor_offset ≡ n = ap (λ (r : Replay). r.anchor_offset) set in
      (subst (λ (m : ℕ). m ≤ last_count) (sym is) most, subst (λ (m : ℕ). n ≤ m) (sym is) (omega arith));
  lies = λ n p g most. (omega arith, omega arith);
  alone = λ p g. g;
}

-- ---- parsers of several kinds

module _ {A B C D : Type 0} (steps_a : A → Next → A → Type 0) (steps_b : B → Next → B → Type 0)
    (steps_c : C → Next → C → Type 0) (steps_d : D → Next → D → Type 0) (offset_a : A → ℕ) (offset_b : B → ℕ)
    (offset_c : C → ℕ) (offset_d : D → ℕ) (sets_a : ℕ → A → A → Type 0) (sets_b : ℕ → B → B → Type 0)
    (sets_c : ℕ → C → C → Type 0) (sets_d : ℕ → D → D → Type 0) (above_a : A → ℕ → ℕ) (above_b : B → ℕ → ℕ)
    (above_c : C → ℕ → ℕ) (above_d : D → ℕ → ℕ) (good_a unread_a : A → Type 0) (good_b unread_b : B → Type 0)
    (good_c unread_c : C → Type 0) (good_d unread_d : D → Type 0)
    (a : Numbering steps_a offset_a sets_a above_a good_a unread_a)
    (b : Numbering steps_b offset_b sets_b above_b good_b unread_b)
    (c : Numbering steps_c offset_c sets_c above_c good_c unread_c)
    (d : Numbering steps_d offset_d sets_d above_d good_d unread_d) where
  abbrev Kind : Type 0
  Kind = AnyKind A B C D

  abbrev Steps : Kind → Next → Kind → Type 0
  Steps = StepsAny steps_a steps_b steps_c steps_d

  abbrev Sets : ℕ → Kind → Kind → Type 0
  Sets = SetsAny sets_a sets_b sets_c sets_d

  abbrev number : Kind → ℕ
  number = number_by_kind offset_a offset_b offset_c offset_d

  abbrev above : Kind → ℕ → ℕ
  above = number_over above_a above_b above_c above_d

  abbrev GoodAny : Kind → Type 0
  GoodAny = UnreadAny good_a good_b good_c good_d

  abbrev Fresh : Kind → Type 0
  Fresh = UnreadAny unread_a unread_b unread_c unread_d

  any_gives : (p q : Kind) (e : Event × Span) → GoodAny p → Steps p (Some (Ok e)) q → GoodAny q × (number p ≤ number q)
  any_gives (First p) (First q) e g step = a.gives p q e g step
  any_gives (Second p) (Second q) e g step = b.gives p q e g step
  any_gives (Third p) (Third q) e g step = c.gives p q e g step
  any_gives (Fourth p) (Fourth q) e g step = d.gives p q e g step
  any_gives p q e g step = absurd step

  any_ids : (p q : Kind) (e : Event × Span) → GoodAny p → Steps p (Some (Ok e)) q → number q < last_count
      → IdBelow (number q) e
  any_ids (First p) (First q) e g step small = a.ids p q e g step small
  any_ids (Second p) (Second q) e g step small = b.ids p q e g step small
  any_ids (Third p) (Third q) e g step small = c.ids p q e g step small
  any_ids (Fourth p) (Fourth q) e g step small = d.ids p q e g step small
  any_ids p q e g step small = absurd step

  any_ends : (p q : Kind) → GoodAny p → Steps p None q → GoodAny q × (number p ≤ number q)
  any_ends (First p) (First q) g step = a.ends p q g step
  any_ends (Second p) (Second q) g step = b.ends p q g step
  any_ends (Third p) (Third q) g step = c.ends p q g step
  any_ends (Fourth p) (Fourth q) g step = d.ends p q g step
  any_ends p q g step = absurd step

  any_bound : (p : Kind) → GoodAny p → number p ≤ last_count
  any_bound (First p) g = a.bound p g
  any_bound (Second p) g = b.bound p g
  any_bound (Third p) g = c.bound p g
  any_bound (Fourth p) g = d.bound p g

  any_raises : (n : ℕ) (p q : Kind) → GoodAny p → number p ≤ n → n ≤ last_count → Sets n p q
      → GoodAny q × (n ≤ number q)
  any_raises n (First p) (First q) g less most set = a.raises n p q g less most set
  any_raises n (Second p) (Second q) g less most set = b.raises n p q g less most set
  any_raises n (Third p) (Third q) g less most set = c.raises n p q g less most set
  any_raises n (Fourth p) (Fourth q) g less most set = d.raises n p q g less most set
  any_raises n p q g less most set = absurd set

  any_begins : (n : ℕ) (p q : Kind) → Fresh p → n ≤ last_count → Sets n p q → GoodAny q × (n ≤ number q)
  any_begins n (First p) (First q) u most set = a.begins n p q u most set
  any_begins n (Second p) (Second q) u most set = b.begins n p q u most set
  any_begins n (Third p) (Third q) u most set = c.begins n p q u most set
  any_begins n (Fourth p) (Fourth q) u most set = d.begins n p q u most set
  any_begins n p q u most set = absurd set

  any_lies : (n : ℕ) (p : Kind) → Fresh p → n ≤ last_count → (n ≤ above p n) × (above p n ≤ last_count)
  any_lies n (First p) u most = a.lies n p u most
  any_lies n (Second p) u most = b.lies n p u most
  any_lies n (Third p) u most = c.lies n p u most
  any_lies n (Fourth p) u most = d.lies n p u most

  any_alone : (p : Kind) → Fresh p → GoodAny p
  any_alone (First p) u = a.alone p u
  any_alone (Second p) u = b.alone p u
  any_alone (Third p) u = c.alone p u
  any_alone (Fourth p) u = d.alone p u

  pub any_numbers : Numbering Steps number Sets above GoodAny Fresh
  any_numbers = record {
    bound = any_bound;
    gives = any_gives;
    ids = any_ids;
    ends = any_ends;
    raises = any_raises;
    begins = any_begins;
    lies = any_lies;
    alone = any_alone;
  }
