-- Along calls of a stack the number of the top parser is above all ids that were given.
use Rattle.std.proofs.Common.{◌≡◌, ◌∙◌, ◌⊎◌, inl, inr, ℕ, ◌<◌, ◌≤◌, false, List, [], ◌∷◌}
use Rattle.std.proofs.Common.{◌++◌, Option, Some, None, Result, Ok, Err, refl, sym, ap, subst, arith}
use Rattle.granit_base.specs.Counts.{last_count}
use Rattle.granit_base.specs.Written.{Written}
use Rattle.granit_base.specs.declared.place.Span.{Span}
use Rattle.granit_error.specs.OptionsData.{OptionsData}
use Rattle.granit_error.specs.Refused.{Refused}
use Rattle.granit_event.specs.declared.event.Event.{Event}
use Rattle.granit_event.specs.Events.{event_kind, plain_events}
use Rattle.granit_layers.specs.Passing.{held}
use Rattle.granit_layers.specs.Stacking.{Answer, EndsOn, EndsStack, PeeksAs, Pushes, Stack, StepsTo, is_ending}
use Rattle.granit_layers.specs.Stacking.{is_stream_end, top_offset}
use Rattle.granit_layers.specs.Turning.{Next, part_of}
use Rattle.granit_layers.specs.declared.layer.Layer.{Layer}
use Rattle.granit_layers.specs.declared.turn.Part.{Part}
use Rattle.granit_layers.specs.declared.turn.Part.TheVariants as parts
use Rattle.granit_ids.specs.Ids.{IdsFrom, id_of}
use Rattle.granit_replay.specs.Replaying.{Replay}
use Rattle.granit_replay.specs.declared.resolver.Included.{Included}
use Rattle.granit_stack.specs.Including.{Handling, IncludesNamed, ReadsText, first_number, number_above, replayed}
use Rattle.granit_stack.specs.Stacked.{Stacked}
use Rattle.granit_stack_laws.proofs.FreshLemmas.{AllGood, SeenBelow, all_below_more, came, pushed}
use Rattle.granit_stack_laws.proofs.LifeLemmas.{IdsUnder, raised_by_all_most}
use Rattle.granit_stack_laws.specs.Coming.{IncludesAreNew}
use Rattle.granit_stack_laws.specs.Fresh.{AreNew, Happens, IdsBelow, LaysOnly, Numbering, is_included}
use Rattle.granit_stack_laws.specs.Fresh.{is_kept, is_next, is_pushed, is_seen, nothing}

-- ---- lists

both_below : (n : ℕ) (es gs : List (Event × Span)) → IdsBelow n es → IdsBelow n gs → IdsBelow n (es ++ gs)
both_below n [] gs first more = more
both_below n (e ∷ es) gs first more = (first.0, both_below n es gs first.1 more)

-- ids from a number on, below the greatest, are above those below it
pub from_new : (n : ℕ) (es xs : List (Event × Span)) → (n < last_count → IdsBelow n es) → IdsFrom n (plain_events xs)
    → IdsUnder last_count (plain_events xs) → AreNew es xs
from_new n es [] below ids few = tt
from_new n es (x ∷ xs) below ids few = (one ids.0 few.0, from_new n es xs below ids.1 few.1)
  where
    one : (id_of (event_kind x.0) ≡ 0) ⊎ (n ≤ id_of (event_kind x.0)) → id_of (event_kind x.0) < last_count
        → (id_of (event_kind x.0) ≡ 0) ⊎ IdsBelow (id_of (event_kind x.0)) es
    one (inl none) small = inl none
    one (inr more) small = inr (all_below_more n (id_of (event_kind x.0)) es more (below (omega arith)))

-- ---- ends

-- an event that doesn't end a stack leaves the end as it was
ends_on : (e : Event × Span) (p : Part) (old new : Option (Result (Unit {0}) Refused)) → EndsOn e p old new
    → new ≡ None → (old ≡ None) × (is_stream_end p ≡ false)
ends_on e parts.StreamEnd old new ends none = absurd cc
ends_on e parts.Comment old new ends none = (sym ends ∙ none, refl)
ends_on e parts.Start old new ends none = (sym ends ∙ none, refl)
ends_on e parts.DocumentEnd old new ends none = (sym ends ∙ none, refl)
ends_on e parts.Content old new ends none = (sym ends ∙ none, refl)

no_end_yet : (end : Option (Result (Unit {0}) Refused)) → is_ending None end ≡ false → end ≡ None
no_end_yet None on = refl
no_end_yet (Some x) on = absurd cc

ending_on : (r : Option Answer) (end : Option (Result (Unit {0}) Refused)) → end ≡ None → is_ending r None ≡ false
    → is_ending r end ≡ false
ending_on r end none on = subst (λ (x : Option (Result (Unit {0}) Refused)). is_ending r x ≡ false) (sym none) on

ends_with : (r : Option Answer) (old new : Option (Result (Unit {0}) Refused)) → EndsStack r old new → new ≡ None
    → is_ending r old ≡ false
ends_with None old new ends none = ending_on None old (sym ends ∙ none) refl
ends_with (Some (Ok e)) old new ends none =
    let x = ends_on e (part_of (event_kind e.0)) old new ends none in ending_on (Some (Ok e)) old x.0 x.1
ends_with (Some (Err f)) old new ends none =
    let is : Some (Err ends.0) ≡ None = sym ends.1 ∙ none in absurd cc

module _ {S R : Type 0} (steps : S → Next → S → Type 0) (h : Handling S R) (Good Unread : S → Type 0)
    (good : Numbering steps h.offset_of h.sets_offset h.offset_over Good Unread)
    (again : (p : Replay) → p.anchor_offset ≤ last_count → Unread (h.again p)) where
  abbrev top : Stacked S R → ℕ
  top p = top_offset h.offset_of p.stack.layers

  -- it hasn't ended and isn't seen to end
  abbrev Goes : Stacked S R → Type 0
  Goes p = is_ending p.stack.peeked p.stack.end ≡ false

  abbrev Fine : List (Layer S) → Type 0
  Fine = AllGood steps h.offset_of h.sets_offset h.offset_over Good Unread good

  -- its parsers count their ids, and what was looked at is below the number of the top one
  record Counts (p : Stacked S R) : Type 0 where
    all : Fine p.stack.layers
    seen : SeenBelow (top p) p.stack.peeked

  -- behind calls that gave these events
  record Counted (n : ℕ) (es : List (Event × Span)) (q : Stacked S R) : Type 0 where
    counts : Counts q
    number : n ≤ top q
    ids : top q < last_count → IdsBelow (top q) es

  -- calls lead there
  record Leads (p : Stacked S R) (es : List (Event × Span)) (q : Stacked S R) : Type 0 where
    goes : Goes p
    counted : Counts p → Counted (top p) es q

  -- one call did
  record Called (p : Stacked S R) (r : Option Answer) (mid : Stacked S R) : Type 0 where
    goes : Goes p
    all : Counts p → Fine mid.stack.layers
    number : Counts p → top p ≤ top mid
    seen : Counts p → SeenBelow (top mid) mid.stack.peeked
    given : Counts p → SeenBelow (top mid) r

  -- and then more
  leads_on : (p mid q : Stacked S R) (r : Option Answer) (es : List (Event × Span)) → Called p r mid
      → Leads mid es q → Leads p (held r ++ es) q
  leads_on p mid q r es called more = record {
    goes = called.goes;
    counted = λ c.
        let then = more.counted (record { all = called.all c; seen = called.seen c }) in
        let first : top p ≤ top mid = called.number c in
        let rest : top mid ≤ top q = then.number in
        record {
          counts = then.counts;
          number = omega arith;
          ids = λ small.
              both_below (top q) (held r) es
              (all_below_more (top mid) (top q) (held r) rest (called.given c (omega arith))) (then.ids small);
        };
  }

  -- ---- one call

  next_called : (p mid : Stacked S R) (r : Option Answer)
      → StepsTo steps h.offset_of h.sets_offset p.stack r mid.stack → Goes mid → Called p r mid
  next_called p mid r step on =
      let none = no_end_yet mid.stack.end
      (subst (λ (x : Option Answer). is_ending x mid.stack.end ≡ false) step.peeked on) in
      let c = came steps h.offset_of h.sets_offset h.offset_over Good Unread good p.stack.emits_comments
      p.stack.peeked p.stack.end p.stack.layers mid.stack.layers r
      (ends_with r p.stack.end mid.stack.end step.end none) step.gives in
      record {
        goes = c.goes;
        all = λ is. (c.kept is.all is.seen).all;
        number = λ is. (c.kept is.all is.seen).number;
        seen = λ is. subst (λ (x : Option Answer). SeenBelow (top mid) x) (sym step.peeked) (λ small. tt);
        given = λ is. (c.kept is.all is.seen).given;
      }

  seen_called : (p mid : Stacked S R) (r : Option Answer)
      → PeeksAs steps h.offset_of h.sets_offset p.stack r mid.stack → Goes mid → Called p None mid
  seen_called p mid r look on =
      let going : is_ending r p.stack.end ≡ false =
      subst (λ (x : Option (Result (Unit {0}) Refused)). is_ending r x ≡ false) look.end
      (subst (λ (x : Option Answer). is_ending x mid.stack.end ≡ false) look.peeked on) in
      let c = came steps h.offset_of h.sets_offset h.offset_over Good Unread good p.stack.emits_comments
      p.stack.peeked p.stack.end p.stack.layers mid.stack.layers r going look.gives in
      record {
        goes = c.goes;
        all = λ is. (c.kept is.all is.seen).all;
        number = λ is. (c.kept is.all is.seen).number;
        seen = λ is.
            subst (λ (x : Option Answer). SeenBelow (top mid) x) (sym look.peeked)
            (c.kept is.all is.seen).given;
        given = λ is small. tt;
      }

  -- a stack as before but for its parsers
  laid : (p mid : Stacked S R) → LaysOnly p mid → Goes mid
      → (Counts p → Fine mid.stack.layers × (top p ≤ top mid) × SeenBelow (top mid) p.stack.peeked)
      → Called p None mid
  laid p mid same on kept =
      let peeked : mid.stack.peeked ≡ p.stack.peeked = ap (λ (x : Stack S). x.peeked) same in
      let end : mid.stack.end ≡ p.stack.end = ap (λ (x : Stack S). x.end) same in
      record {
        goes =
            subst (λ (x : Option (Result (Unit {0}) Refused)). is_ending p.stack.peeked x ≡ false) end
            (subst (λ (x : Option Answer). is_ending x mid.stack.end ≡ false) peeked on);
        all = λ is. (kept is).0;
        number = λ is. (kept is).1;
        seen = λ is.
            subst (λ (x : Option Answer). SeenBelow (top mid) x) (sym peeked) (kept is).2;
        given = λ is small. tt;
      }

  pushed_called : (p mid : Stacked S R) (parser : S) (name : Written) → (Counts p → Unread parser)
      → Pushes h.offset_of h.sets_offset h.offset_over p.stack.layers parser name mid.stack.layers → LaysOnly p mid
      → Goes mid → Called p None mid
  pushed_called p mid parser name unread pushes same on =
      laid p mid same on
      (λ is.
      let kept = pushed steps h.offset_of h.sets_offset h.offset_over Good Unread good p.stack.layers
      mid.stack.layers parser name p.stack.peeked is.all (unread is) pushes is.seen in
      (kept.all, kept.number, kept.given))

  same_called : (p mid : Stacked S R) → mid.stack.layers ≡ p.stack.layers → LaysOnly p mid → Goes mid
      → Called p None mid
  same_called p mid layers same on =
      laid p mid same on
      (λ is. (
        subst Fine (sym layers) is.all,
        subst (λ (ls : List (Layer S)). top p ≤ top_offset h.offset_of ls) (sym layers) (omega arith),
        subst (λ (ls : List (Layer S)). SeenBelow (top_offset h.offset_of ls) p.stack.peeked) (sym layers) is.seen,
      ))

  first_most : (ls : List (Layer S)) → Fine ls → first_number (number_above h.offset_of ls) ≤ last_count
  first_most [] all = omega arith
  first_most (l ∷ ls) all = good.bound l.parser all.0

  included_called : (p mid : Stacked S R) (name : List ℕ) (r : Result (Unit {0}) Refused)
      → IncludesNamed h p name r mid → LaysOnly p mid → Goes mid → Called p None mid
  included_called p mid name (Ok x) include same on =
      let replay = include.2.0 in
      let read = include.2.1 in
      pushed_called p mid (h.again replay) (record { characters = name; is_borrowed = false })
      (λ is. again replay
      (subst (λ (n : ℕ). n ≤ last_count) (sym read.1)
      (raised_by_all_most replay.events (first_number (number_above h.offset_of p.stack.layers))
      (first_most p.stack.layers is.all)))) include.2.2 same on
  included_called p mid name (Err f) include same on = same_called p mid include.2.0 same on

  kept_called : (p mid : Stacked S R) → mid.stack ≡ p.stack → Goes mid → Called p None mid
  kept_called p mid same on =
      let layers : mid.stack.layers ≡ p.stack.layers = ap (λ (x : Stack S). x.layers) same in
      same_called p mid layers (same ∙ ap (λ ls. record (p.stack) { layers = ls }) (sym layers)) on

  -- ---- calls

  runs : (p q : Stacked S R) (es : List (Event × Span)) → Happens steps h Unread p es q → Goes q → Leads p es q
  runs p q es nothing on = record {
    goes = on;
    counted = λ c. record { counts = c; number = omega arith; ids = λ small. tt };
  }
  runs p q es (is_next {mid = mid} {es = xs} r step more) on =
      let rest = runs mid q xs more on in
      leads_on p mid q r xs (next_called p mid r step rest.goes) rest
  runs p q es (is_seen {mid = mid} r look more) on =
      let rest = runs mid q es more on in
      leads_on p mid q None es (seen_called p mid r look rest.goes) rest
  runs p q es (is_pushed {mid = mid} parser name unread pushes same more) on =
      let rest = runs mid q es more on in
      leads_on p mid q None es (pushed_called p mid parser name (λ c. unread) pushes same rest.goes) rest
  runs p q es (is_included {mid = mid} name r include same more) on =
      let rest = runs mid q es more on in
      leads_on p mid q None es (included_called p mid name r include same rest.goes) rest
  runs p q es (is_kept {mid = mid} same more) on =
      let rest = runs mid q es more on in leads_on p mid q None es (kept_called p mid same rest.goes) rest

  -- of a stack that held no parser when the calls began
  pub given_below : (p q : Stacked S R) (es : List (Event × Span)) → p.stack.layers ≡ [] → p.stack.peeked ≡ None
      → Happens steps h Unread p es q → Goes q → top q < last_count
      → IdsBelow (top q) (es ++ held q.stack.peeked)
  given_below p q es empty unseen calls on small =
      let c = (runs p q es calls on).counted (record {
        all = subst Fine (sym empty) tt;
        seen = subst (λ (x : Option Answer). SeenBelow (top p) x) (sym unseen) (λ h. tt);
      }) in
      both_below (top q) es (held q.stack.peeked) (c.ids small) (c.counts.seen small)

  -- ids from the number of the top parser on are new
  pub new_includes : ((o : OptionsData) (n : ℕ) (text : Included) (p : Replay) → ReadsText o (Some n) text (Ok p)
      → IdsFrom n (replayed p))
      → ((o : OptionsData) (n : ℕ) (text : Included) (p : Replay) → ReadsText o (Some n) text (Ok p)
      → IdsUnder last_count (replayed p)) → IncludesAreNew steps h Unread
  new_includes ids few first old es k ks text events empty unseen calls on above reads =
      let n = h.offset_of k.parser in
      let gone = es ++ held old.stack.peeked in
      let below : n < last_count → IdsBelow n gone = λ small.
      subst (λ (ls : List (Layer S)). IdsBelow (top_offset h.offset_of ls) gone) above
      (given_below first old es empty unseen calls on
      (subst (λ (ls : List (Layer S)). top_offset h.offset_of ls < last_count) (sym above) small)) in
      from_new n gone events.events below (ids old.options n text events reads) (few old.options n text events reads)
