-- The number of the top parser is above all ids that a stack gave.
use Rattle.std.proofs.Common.{◌≡◌, ◌∙◌, ◌⊎◌, inl, inr, ℕ, ◌<◌, ◌≤◌, max, Bool, true, false, List, [], ◌∷◌, Option}
use Rattle.std.proofs.Common.{Some, None, Result, Ok, Err, refl, sym, ap, subst, arith}
use Rattle.granit_base.specs.Counts.{last_count}
use Rattle.granit_base.specs.Written.{Written}
use Rattle.granit_base.specs.declared.place.Span.{Span}
use Rattle.granit_error.specs.Refused.{Refused}
use Rattle.granit_event.specs.declared.event.Event.{Event}
use Rattle.granit_event.specs.Events.{event_kind}
use Rattle.granit_layers.specs.Passing.{held}
use Rattle.granit_layers.specs.Stacking.{Answer, ComesNext, ComesOf, Pushes, TurnsOnce, TurnsToFirst, Uncovers}
use Rattle.granit_layers.specs.Stacking.{Withheld, is_ending, is_none_left, is_stream_end, none_yet, one_more}
use Rattle.granit_layers.specs.Stacking.{top_offset}
use Rattle.granit_layers.specs.Turning.{Next, bare_end, part_of, turn_of, turn_on}
use Rattle.granit_layers.specs.declared.layer.Layer.{Layer}
use Rattle.granit_layers.specs.declared.turn.Part.{Part}
use Rattle.granit_layers.specs.declared.turn.Part.TheVariants as parts
use Rattle.granit_layers.specs.declared.turn.Turn.{Turn}
use Rattle.granit_layers.specs.declared.turn.Turn.TheVariants.{Gives, Withholds, Leaves, Ends, Fails}
use Rattle.granit_stack_laws.specs.Fresh.{IdBelow, IdsBelow, Numbering}

-- ---- what comes of a step

-- of an event: it, nothing, or a refusal; another parser than the bottom one leaves, and the end of the stream ends all
abbrev OfEvent : (is_bottom : Bool) → Event × Span → Turn → Type 0
OfEvent is_bottom e (Gives x) = x ≡ e
OfEvent is_bottom e (Withholds end) = Unit {0}
OfEvent is_bottom e Leaves = is_bottom ≡ false
OfEvent is_bottom e (Ends x) = is_stream_end (part_of (event_kind x.0)) ≡ true
OfEvent is_bottom e (Fails f) = Unit {0}

of_event : (is_bottom emits : Bool) (ended : Option Span) (e : Event × Span) (p : Part) → part_of (event_kind e.0) ≡ p
    → OfEvent is_bottom e (turn_on is_bottom emits ended e p)
of_event true emits ended e parts.StreamEnd is = ap is_stream_end is
of_event false emits ended e parts.StreamEnd is = refl
of_event b true ended e parts.Comment is = refl
of_event b false ended e parts.Comment is = tt
of_event b emits (Some end) e parts.Start is = tt
of_event b emits (Some end) e parts.DocumentEnd is = tt
of_event b emits (Some end) e parts.Content is = tt
of_event true emits None e parts.Start is = refl
of_event false emits None e parts.Start is = tt
of_event true emits None e parts.DocumentEnd is = refl
of_event false emits None e parts.DocumentEnd is = tt
of_event b emits None e parts.Content is = refl

-- of a step: events and withheld ones come of an event, and what is refused fails
abbrev OfStep : (is_bottom : Bool) → Next → Turn → Type 0
OfStep is_bottom None turn = ((is_bottom ≡ false) × (turn ≡ Leaves)) ⊎ (turn ≡ Ends bare_end)
OfStep is_bottom (Some (Ok e)) turn = OfEvent is_bottom e turn
OfStep is_bottom (Some (Err f)) turn = turn ≡ Fails f

of_step : (is_bottom emits : Bool) (ended : Option Span) (r : Next)
    → OfStep is_bottom r (turn_of is_bottom emits ended r)
of_step true emits ended None = inr refl
of_step false emits ended None = inl (refl, refl)
of_step b emits ended (Some (Ok e)) = of_event b emits ended e (part_of (event_kind e.0)) refl
of_step b emits ended (Some (Err f)) = refl

-- ---- numbers

pub below_more : (m n : ℕ) (e : Event × Span) → m ≤ n → IdBelow m e → IdBelow n e
below_more m n e less (inl none) = inl none
below_more m n e less (inr id) = inr (omega arith)

pub all_below_more : (m n : ℕ) (es : List (Event × Span)) → m ≤ n → IdsBelow m es → IdsBelow n es
all_below_more m n [] less ids = tt
all_below_more m n (e ∷ es) less ids = (below_more m n e less ids.0, all_below_more m n es less ids.1)

-- the id of an answer is below a number, unless that is the greatest
abbrev pub SeenBelow : ℕ → Option Answer → Type 0
SeenBelow n r = n < last_count → IdsBelow n (held r)

pub seen_more : (m n : ℕ) (r : Option Answer) → m ≤ n → SeenBelow m r → SeenBelow n r
seen_more m n r less seen = λ small. all_below_more m n (held r) less (seen (omega arith))

-- ---- answers that don't end a stack

-- what ends one
ends_not : (r x : Option Answer) → r ≡ x → is_ending r None ≡ false → is_ending x None ≡ false
ends_not r x is on = subst (λ (y : Option Answer). is_ending y None ≡ false) is on

no_refusal : (r : Option Answer) (f : Refused) → r ≡ Some (Err f) → is_ending r None ≡ false → ⊥
no_refusal r f is on = let h : true ≡ false = ends_not r (Some (Err f)) is on in absurd cc

no_end : (r : Option Answer) (e : Event × Span) → r ≡ Some (Ok e) → is_stream_end (part_of (event_kind e.0)) ≡ true
    → is_ending r None ≡ false → ⊥
no_end r e is ends on =
    let h : is_stream_end (part_of (event_kind e.0)) ≡ false = ends_not r (Some (Ok e)) is on in
    absurd cc

module _ {S : Type 0} (steps : S → Next → S → Type 0) (offset : S → ℕ) (sets : ℕ → S → S → Type 0)
    (above : S → ℕ → ℕ) (Good Unread : S → Type 0) (good : Numbering steps offset sets above Good Unread) where
  abbrev pub AllGood : List (Layer S) → Type 0
  AllGood [] = Unit {0}
  AllGood (l ∷ ls) = Good l.parser × AllGood ls

  -- a step that isn't refused
  abbrev Stepped : Next → ℕ → S → Type 0
  Stepped None n q = Good q × (n ≤ offset q)
  Stepped (Some (Ok e)) n q = Good q × (n ≤ offset q) × (offset q < last_count → IdBelow (offset q) e)
  Stepped (Some (Err f)) n q = Unit {0}

  stepped : (p q : S) (r : Next) → Good p → steps p r q → Stepped r (offset p) q
  stepped p q None g step = good.ends p q g step
  stepped p q (Some (Ok e)) g step = let x = good.gives p q e g step in (x.0, x.1, good.ids p q e g step)
  stepped p q (Some (Err f)) g step = tt

  -- what is left behind a turn, and the id that it gave
  pub record Kept (n : ℕ) (r : Option Answer) (new : List (Layer S)) : Type 0 where
    pub all : AllGood new
    pub number : n ≤ top_offset offset new
    pub given : SeenBelow (top_offset offset new) r

  -- the parser stays on top
  stays : (n : ℕ) (r : Option Answer) (l : Layer S) (ls new : List (Layer S)) → new ≡ l ∷ ls → Good l.parser
      → AllGood ls → n ≤ offset l.parser → SeenBelow (offset l.parser) r → Kept n r new
  stays n r l ls new same g all number given =
      subst (Kept n r) (sym same) (record { all = (g, all); number = number; given = given })

  -- it leaves the one below with the larger number
  uncovers : (n : ℕ) (l : Layer S) (ls new : List (Layer S)) → is_none_left ls ≡ false
      → Uncovers offset sets (l ∷ ls) new → Good l.parser → AllGood ls → n ≤ offset l.parser → Kept n None new
  uncovers n l [] new below left g all number = absurd cc
  uncovers n l (m ∷ ms) new below left g all number =
      let top = good.bound l.parser g in
      let next = good.bound m.parser all.0 in
      let least : offset m.parser ≤ max (offset m.parser) (offset l.parser) = omega arith in
      let most : max (offset m.parser) (offset l.parser) ≤ last_count = omega arith in
      let set = good.raises (max (offset m.parser) (offset l.parser)) m.parser left.0 all.0 least most left.1 in
      let more : max (offset m.parser) (offset l.parser) ≤ offset left.0 = set.1 in
      let reached : n ≤ offset left.0 = omega arith in
      stays n None (record m { parser = left.0 }) ms new left.2 set.0 all.1 reached (λ h. tt)

  none_on : (r : Option Answer) (n : ℕ) (new : List (Layer S)) → r ≡ None → Kept n None new → Kept n r new
  none_on r n new none kept = subst (λ (x : Option Answer). Kept n x new) (sym none) kept

  -- a turn at an event
  comes_event : (turn : Turn) (e : Event × Span) (r : Option Answer) (n : ℕ) (l : Layer S) (ls new : List (Layer S))
      → is_ending r None ≡ false → OfEvent (is_none_left ls) e turn → Stepped (Some (Ok e)) n l.parser → AllGood ls
      → ComesOf offset sets turn (l ∷ ls) r new → Kept n r new
  comes_event (Gives x) e r n l ls new on of step all comes =
      stays n r l ls new comes.1 step.0 all step.1
      (λ h. subst (λ (y : Option Answer). IdsBelow (offset l.parser) (held y)) (sym comes.0)
      (subst (λ (y : Event × Span). IdBelow (offset l.parser) y) (sym of) (step.2 h), tt))
  comes_event (Withholds end) e r n l ls new on of step all comes =
      none_on r n new comes.0 (stays n None l ls new comes.1 step.0 all step.1 (λ h. tt))
  comes_event Leaves e r n l ls new on of step all comes =
      none_on r n new comes.0 (uncovers n l ls new of comes.1 step.0 all step.1)
  comes_event (Ends x) e r n l ls new on of step all comes = absurd (no_end r x comes.0 of on)
  comes_event (Fails f) e r n l ls new on of step all comes = absurd (no_refusal r comes.0 comes.1 on)

  -- a turn at nothing more
  comes_end : (turn : Turn) (r : Option Answer) (n : ℕ) (l : Layer S) (ls new : List (Layer S))
      → is_ending r None ≡ false → OfStep (is_none_left ls) None turn → Stepped None n l.parser → AllGood ls
      → ComesOf offset sets turn (l ∷ ls) r new → Kept n r new
  comes_end turn r n l ls new on (inl (below, leaves)) step all comes =
      let c = subst (λ (x : Turn). ComesOf offset sets x (l ∷ ls) r new) leaves comes in
      none_on r n new c.0 (uncovers n l ls new below c.1 step.0 all step.1)
  comes_end turn r n l ls new on (inr ends) step all comes =
      let c = subst (λ (x : Turn). ComesOf offset sets x (l ∷ ls) r new) ends comes in
      absurd (no_end r bare_end c.0 refl on)

  comes_of : (given : Next) (turn : Turn) (r : Option Answer) (n : ℕ) (l : Layer S) (ls new : List (Layer S))
      → is_ending r None ≡ false → OfStep (is_none_left ls) given turn → Stepped given n l.parser → AllGood ls
      → ComesOf offset sets turn (l ∷ ls) r new → Kept n r new
  comes_of None turn r n l ls new on of step all comes = comes_end turn r n l ls new on of step all comes
  comes_of (Some (Ok e)) turn r n l ls new on of step all comes = comes_event turn e r n l ls new on of step all comes
  comes_of (Some (Err f)) turn r n l ls new on of step all comes =
      let c = subst (λ (x : Turn). ComesOf offset sets x (l ∷ ls) r new) of comes in absurd (no_refusal r c.0 c.1 on)

  -- ---- turns and pushes

  turned : (emits : Bool) (old new : List (Layer S)) (r : Option Answer) → is_ending r None ≡ false → AllGood old
      → TurnsOnce steps offset sets emits old r new → Kept (top_offset offset old) r new
  turned emits [] new r on all once = absurd (no_end r bare_end once.0 refl on)
  turned emits (l ∷ ls) new r on all once =
      let t = once.2 in
      let b = once.1 in
      let of = subst (OfStep (is_none_left ls) t.given) (sym t.turns)
      (of_step (is_none_left ls) emits l.ended t.given) in
      comes_of t.given once.0 r (offset l.parser) b ls new on of (stepped l.parser b.parser t.given all.0 t.step) all.1
      once.3

  from_less : (m n : ℕ) (r : Option Answer) (ls : List (Layer S)) → m ≤ n → Kept n r ls → Kept m r ls
  from_less m n r ls less kept = let number : n ≤ top_offset offset ls = kept.number in record {
    all = kept.all;
    number = omega arith;
    given = kept.given;
  }

  withheld : (emits : Bool) (old new : List (Layer S)) → AllGood old → Withheld steps offset sets emits old new
      → Kept (top_offset offset old) None new
  withheld emits old new all none_yet = record { all = all; number = omega arith; given = λ h. tt }
  withheld emits old new all (one_more {mid = mid} before once) =
      let kept = withheld emits old mid all before in
      from_less (top_offset offset old) (top_offset offset mid) None new kept.number
      (turned emits mid new None refl kept.all once)

  turned_to : (emits : Bool) (old new : List (Layer S)) (x : Answer) → is_ending (Some x) None ≡ false → AllGood old
      → TurnsToFirst steps offset sets emits old x new → Kept (top_offset offset old) (Some x) new
  turned_to emits old new x on all turns =
      let kept = withheld emits old turns.0 all turns.1 in
      from_less (top_offset offset old) (top_offset offset turns.0) (Some x) new kept.number
      (turned emits turns.0 new (Some x) on kept.all turns.2)

  -- ---- what comes next

  -- where it doesn't end the stack, that wasn't ending before, and its numbers are kept
  pub record Came (peeked : Option Answer) (end : Option (Result (Unit {0}) Refused)) (old : List (Layer S))
      (r : Option Answer) (new : List (Layer S)) : Type 0 where
    pub goes : is_ending peeked end ≡ false
    pub kept : AllGood old → SeenBelow (top_offset offset old) peeked → Kept (top_offset offset old) r new

  pub came : (emits : Bool) (peeked : Option Answer) (end : Option (Result (Unit {0}) Refused))
      (old new : List (Layer S)) (r : Option Answer) → is_ending r end ≡ false
      → ComesNext steps offset sets emits peeked end old r new → Came peeked end old r new
  came emits (Some x) None old new r on (is, same) = record {
    goes = ends_not r (Some x) is on;
    kept = λ all seen.
        subst (λ (ls : List (Layer S)). Kept (top_offset offset old) r ls) (sym same)
        (subst (λ (y : Option Answer). Kept (top_offset offset old) y old) (sym is)
        (record { all = all; number = omega arith; given = seen }));
  }
  came emits None None old new r on (x, is, inl turns) = record {
    goes = refl;
    kept = λ all seen.
        subst (λ (y : Option Answer). Kept (top_offset offset old) y new) (sym is)
        (turned_to emits old new x (ends_not r (Some x) is on) all turns);
  }
  came emits None None old new r on (x, is, inr out) =
      absurd (no_refusal r out.error (is ∙ ap Some out.refused) on)
  came emits peeked (Some y) old new (Some (Ok e)) on next = absurd cc
  came emits peeked (Some y) old new (Some (Err f)) on next = absurd cc
  came emits peeked (Some y) old new None on next = absurd cc

  pub pushed : (old mid : List (Layer S)) (p : S) (name : Written) (r : Option Answer) → AllGood old → Unread p
      → Pushes offset sets above old p name mid → SeenBelow (top_offset offset old) r
      → Kept (top_offset offset old) r mid
  pushed [] mid p name r all unread pushes seen =
      let g = good.alone p unread in
      let alone = pushes.2 ∙ ap (λ (q : S). record { name = name; parser = q; ended = None } ∷ []) pushes.1 in
      stays 0 r (record { name = name; parser = p; ended = None }) [] mid alone g tt (omega arith)
      (seen_more 0 (offset p) r (omega arith) seen)
  pushed (l ∷ ls) mid p name r all unread pushes seen =
      let n = offset l.parser in
      let lies = good.lies n p unread (good.bound l.parser all.0) in
      let low : n ≤ above p n = lies.0 in
      let set = good.begins (above p n) p pushes.0 unread lies.1 pushes.1 in
      let high : above p n ≤ offset pushes.0 = set.1 in
      let number : n ≤ offset pushes.0 = omega arith in
      stays n r (record { name = name; parser = pushes.0; ended = None }) (l ∷ ls) mid pushes.2 set.0 all number
      (seen_more n (offset pushes.0) r number seen)
