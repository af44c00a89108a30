-- Events that are given once more above other parsers come through one by one.
use Rattle.std.proofs.Common.{◌≡◌, ◌∙◌, ◌⊎◌, inl, inr, ℕ, Bool, false, List, [], ◌∷◌, ◌++◌, Option, Some, None, Result}
use Rattle.std.proofs.Common.{Ok, Err, refl, sym, ap, subst}
use Rattle.std.specs.Option.{option_map}
use Rattle.granit_base.specs.Written.{Written}
use Rattle.granit_base.specs.declared.place.Span.{Span}
use Rattle.granit_error.specs.Refused.{Refused}
use Rattle.granit_event.specs.declared.event.Event.{Event}
use Rattle.granit_layers.proofs.NestedLemmas.{one_document}
use Rattle.granit_layers.specs.Kinds.{StepsAny}
use Rattle.granit_layers.specs.Nested.{IsOneDocument, given_above, given_from, those_through}
use Rattle.granit_layers.specs.Passing.{StackRun, GivesBelow, GivesFirstOf, LooksAreTurns, PassesOn, ReplayComesThrough}
use Rattle.granit_layers.specs.Passing.{Replays, Turns, giving_turn, held, no_call, no_turn, one_call, quiet_turn}
use Rattle.granit_layers.specs.Stacking.{Answer, ComesNext, ComesOf, Stack, TurnsOnce, TurnsToFirst, Uncovers, Withheld}
use Rattle.granit_layers.specs.Stacking.{layer_of, none_yet, one_more}
use Rattle.granit_layers.specs.Turning.{Next, ended_behind, turn_of}
use Rattle.granit_layers.specs.declared.kinds.AnyKind.{AnyKind}
use Rattle.granit_layers.specs.declared.kinds.AnyKind.TheVariants.{First, Second, Third, Fourth}
use Rattle.granit_layers.specs.declared.layer.Layer.{Layer}
use Rattle.granit_layers.specs.declared.turn.Turn.{Turn}
use Rattle.granit_layers.specs.declared.turn.Turn.TheVariants.{Gives, Withholds, Leaves, Ends, Fails}
use Rattle.granit_replay.specs.Replaying.{Replay, behind_next, next_of}

abbrev Events : Type 0
Events = List (Event × Span)

-- ---- lists

mapped : {A B : Type 0} (f : A → B) (o : Option A) (b : B) → option_map f o ≡ Some b
    → (a : A) × (o ≡ Some a) × (b ≡ f a)
mapped f None b is = absurd cc
mapped f (Some a) b is = (a, refl, cc)

none_first : (gs xs : Events) → Some [] ≡ Some gs → xs ≡ gs ++ xs
none_first gs xs is = let none : gs ≡ [] = cc in subst (λ (hs : Events). xs ≡ hs ++ xs) (sym none) refl

one_first : (e x : Event × Span) (gs xs : Events) → Some (e ∷ []) ≡ Some gs
    → ◌≡◌ {A = Option Answer} (Some (Ok x)) (Some (Ok e)) → x ∷ xs ≡ gs ++ xs
one_first e x gs xs is same =
    let all : gs ≡ x ∷ [] = cc in subst (λ (hs : Events). x ∷ xs ≡ hs ++ xs) (sym all) refl

module _ {S : Type 0} (steps : S → Next → S → Type 0) (offset : S → ℕ) (sets : ℕ → S → S → Type 0) (emits : Bool) where
  abbrev Runs : List (Layer S) → Events → List (Layer S) → Type 0
  Runs = Turns steps offset sets emits

  -- ---- steps of a stack are turns

  -- turns that give nothing come first
  behind_withheld : (old mid new : List (Layer S)) (xs : Events) → Withheld steps offset sets emits old mid
      → Runs mid xs new → Runs old xs new
  behind_withheld old mid new xs none_yet more = more
  behind_withheld old mid new xs (one_more {mid = between} before once) more =
      behind_withheld old between new xs before (quiet_turn once more)

  -- where nothing was looked at an event comes from turns
  comes_turns : (peeked : Option Answer) (end : Option (Result (Unit {0}) Refused)) (old new : List (Layer S))
      (e : Event × Span) → peeked ≡ None → ComesNext steps offset sets emits peeked end old (Some (Ok e)) new
      → TurnsToFirst steps offset sets emits old (Ok e) new
  comes_turns None None old new e none (x, is, inl turns) =
      let same : x ≡ Ok e = cc in subst (λ (a : Answer). TurnsToFirst steps offset sets emits old a new) same turns
  comes_turns None None old new e none (x, is, inr out) =
      let h = out.refused in
      let same : ◌≡◌ {A = Option Answer} (Some (Ok e)) (Some (Err out.error)) = is ∙ ap Some h in
      absurd cc
  comes_turns None (Some x) old new e none comes = let h = comes.0 in absurd cc
  comes_turns (Some y) end old new e none comes = absurd cc

  -- ---- turns of a parser that gives events once more

  module _ (again : Replay → S) (replays : Replays steps again) (k : Layer S) (ks : List (Layer S)) where
    abbrev Passed : Events → Events → List (Layer S) → Type 0
    Passed = PassesOn steps offset sets emits (k ∷ ks)

    -- it lies on these
    record Lies (ls : List (Layer S)) (p : Replay) (ended : Option Span) : Type 0 where
      layer : Layer S
      is : ls ≡ layer ∷ k ∷ ks
      parser : layer.parser ≡ again p
      ends : layer.ended ≡ ended

    -- and makes a turn
    record Turned (p : Replay) (ended : Option Span) (r : Option Answer) (new : List (Layer S)) : Type 0 where
      turn : Turn
      behind : Layer S
      parser : behind.parser ≡ again (behind_next p)
      turns : turn ≡ turn_of false emits ended (next_of p)
      ends : behind.ended ≡ ended_behind turn ended
      comes : ComesOf offset sets turn (behind ∷ k ∷ ks) r new

    turned : (old new : List (Layer S)) (p : Replay) (ended : Option Span) (r : Option Answer) → Lies old p ended
        → TurnsOnce steps offset sets emits old r new → Turned p ended r new
    turned old new p ended r lies once =
        let o = subst (λ (ls : List (Layer S)). TurnsOnce steps offset sets emits ls r new) lies.is once in
        let t = o.2 in
        let b = o.1 in
        let l = lies.layer in
        let s = replays p t.given b.parser (subst (λ (q : S). steps q t.given b.parser) lies.parser t.step) in
        record {
          turn = o.0;
          behind = b;
          parser = s.1;
          turns = t.turns ∙ (ap (turn_of false emits l.ended) s.0
              ∙ ap (λ end. turn_of false emits end (next_of p)) lies.ends);
          ends = t.ended ∙ ap (ended_behind o.0) lies.ends;
          comes = o.3;
        }

    -- what is left to be shown behind a turn
    abbrev Later : List (Layer S) → Events → List (Layer S) → Type 0
    Later mid xs new =
        (q : Replay) (end : Option Span) (hs : Events) → Lies mid q end → given_above emits end q.events ≡ Some hs
        → Passed hs xs new

    -- it leaves
    leaves : (behind : Layer S) (gs xs ys : Events) (mid new : List (Layer S)) → ys ≡ gs ++ xs
        → Uncovers offset sets (behind ∷ k ∷ ks) mid → Runs mid xs new → Passed gs ys new
    leaves behind gs xs ys mid new all uncovers more = inr (xs, all, (behind, mid, uncovers, more))

    quiet_by : (turn : Turn) (behind : Layer S) (q : Replay) (ended : Option Span) (gs xs : Events)
        (mid new : List (Layer S)) → given_from ended turn (λ end. given_above emits end q.events) ≡ Some gs
        → behind.parser ≡ again q → behind.ended ≡ ended_behind turn ended
        → ComesOf offset sets turn (behind ∷ k ∷ ks) None mid → Later mid xs new → Runs mid xs new → Passed gs xs new
    quiet_by (Gives e) behind q ended gs xs mid new is parser ends comes later more = let h = comes.0 in absurd cc
    quiet_by (Withholds end) behind q ended gs xs mid new is parser ends comes later more =
        later q end gs (record { layer = behind; is = comes.1; parser = parser; ends = ends }) is
    quiet_by Leaves behind q ended gs xs mid new is parser ends comes later more =
        leaves behind gs xs xs mid new (none_first gs xs is) comes.1 more
    quiet_by (Ends e) behind q ended gs xs mid new is parser ends comes later more = let h = comes.0 in absurd cc
    quiet_by (Fails f) behind q ended gs xs mid new is parser ends comes later more = absurd cc

    -- a turn that gives nothing
    quiet : (es : Events) (n : ℕ) (ended : Option Span) (gs xs : Events) (mid new : List (Layer S))
        → given_above emits ended es ≡ Some gs → Turned (record { events = es; anchor_offset = n }) ended None mid
        → Later mid xs new → Runs mid xs new → Passed gs xs new
    quiet [] n ended gs xs mid new is t later more =
        let comes =
        subst (λ (x : Turn). ComesOf offset sets x (t.behind ∷ k ∷ ks) None mid) t.turns t.comes in
        leaves t.behind gs xs xs mid new (none_first gs xs is) comes.1 more
    quiet (e ∷ es) n ended gs xs mid new is t later more =
        quiet_by t.turn t.behind _ ended gs xs mid new
        (subst (λ (x : Turn). given_from ended x (λ end. given_above emits end es) ≡ Some gs) (sym t.turns) is)
        t.parser t.ends t.comes later more

    -- one event more was given
    passed_more : (e x : Event × Span) (gs hs xs : Events) (new : List (Layer S))
        → ◌≡◌ {A = Option Answer} (Some (Ok x)) (Some (Ok e)) → gs ≡ e ∷ hs → Passed hs xs new → Passed gs (x ∷ xs) new
    passed_more e x gs hs xs new same all (inl (rest, is)) =
        let one : e ≡ x = cc in inl (rest, all ∙ (ap (λ y. y ∷ hs) one ∙ ap (λ ys. x ∷ ys) is))
    passed_more e x gs hs xs new same all (inr (more, is, below)) =
        let one : x ≡ e = cc in
        inr (more, ap (λ ys. x ∷ ys) is ∙ (ap (λ y. y ∷ (hs ++ more)) one ∙ ap (λ ys. ys ++ more) (sym all)), below)

    giving_by : (turn : Turn) (behind : Layer S) (q : Replay) (ended : Option Span) (x : Event × Span) (gs xs : Events)
        (mid new : List (Layer S)) → given_from ended turn (λ end. given_above emits end q.events) ≡ Some gs
        → behind.parser ≡ again q → behind.ended ≡ ended_behind turn ended
        → ComesOf offset sets turn (behind ∷ k ∷ ks) (Some (Ok x)) mid → Later mid xs new → Runs mid xs new
        → Passed gs (x ∷ xs) new
    giving_by (Gives e) behind q ended x gs xs mid new is parser ends comes later more =
        let h = mapped (λ es. e ∷ es) (given_above emits ended q.events) gs is in
        passed_more e x gs h.0 xs new comes.0 h.2
        (later q ended h.0 (record { layer = behind; is = comes.1; parser = parser; ends = ends }) h.1)
    giving_by (Withholds end) behind q ended x gs xs mid new is parser ends comes later more =
        let h = comes.0 in absurd cc
    giving_by Leaves behind q ended x gs xs mid new is parser ends comes later more = let h = comes.0 in absurd cc
    giving_by (Ends e) behind q ended x gs xs mid new is parser ends comes later more =
        leaves behind gs xs (x ∷ xs) mid new (one_first e x gs xs is comes.0) comes.1 more
    giving_by (Fails f) behind q ended x gs xs mid new is parser ends comes later more = absurd cc

    -- a turn that gives an event
    giving : (es : Events) (n : ℕ) (ended : Option Span) (x : Event × Span) (gs xs : Events) (mid new : List (Layer S))
        → given_above emits ended es ≡ Some gs
        → Turned (record { events = es; anchor_offset = n }) ended (Some (Ok x)) mid → Later mid xs new
        → Runs mid xs new → Passed gs (x ∷ xs) new
    giving [] n ended x gs xs mid new is t later more =
        let comes =
        subst (λ (y : Turn). ComesOf offset sets y (t.behind ∷ k ∷ ks) (Some (Ok x)) mid) t.turns t.comes in
        let h = comes.0 in absurd cc
    giving (e ∷ es) n ended x gs xs mid new is t later more =
        giving_by t.turn t.behind _ ended x gs xs mid new
        (subst (λ (y : Turn). given_from ended y (λ end. given_above emits end es) ≡ Some gs) (sym t.turns) is)
        t.parser t.ends t.comes later more

    -- its events come through one by one
    through : (old new : List (Layer S)) (xs : Events) (p : Replay) (ended : Option Span) (gs : Events)
        → Lies old p ended → given_above emits ended p.events ≡ Some gs → Runs old xs new → Passed gs xs new
    through old new xs p ended gs lies is no_turn = inl (gs, refl)
    through old new xs p ended gs lies is (quiet_turn {mid = mid} once more) =
        quiet p.events p.anchor_offset ended gs xs mid new is (turned old mid p ended None lies once)
        (λ q end hs on now. through mid new xs q end hs on now more) more
    through old new xs p ended gs lies is (giving_turn {mid = mid} {e = e} {es = es} once more) =
        giving p.events p.anchor_offset ended e gs es mid new is (turned old mid p ended (Some (Ok e)) lies once)
        (λ q end hs on now. through mid new es q end hs on now more) more

module _ {S : Type 0} (steps : S → Next → S → Type 0) (offset : S → ℕ) (sets : ℕ → S → S → Type 0) where
  emits_on : (emits now : Bool) (old new : List (Layer S)) (xs : Events) → now ≡ emits
      → Turns steps offset sets now old xs new → Turns steps offset sets emits old xs new
  emits_on emits now old new xs same turns = subst (λ b. Turns steps offset sets b old xs new) same turns

  -- steps of a stack at which nothing was looked at are turns
  pub calls_turn : (p q : Stack S) (xs : Events) → p.peeked ≡ None → StackRun steps offset sets p xs q
      → Turns steps offset sets p.emits_comments p.layers xs q.layers
  calls_turn p q xs none no_call = no_turn
  calls_turn p q xs none (one_call {mid = mid} {e = e} {es = es} step more) =
      let t =
      comes_turns steps offset sets p.emits_comments p.peeked p.end p.layers mid.layers e none step.gives in
      behind_withheld steps offset sets p.emits_comments p.layers t.0 q.layers (e ∷ es) t.1
      (giving_turn t.2 (emits_on p.emits_comments mid.emits_comments mid.layers q.layers es step.emits_comments
      (calls_turn mid q es step.peeked more)))

  -- what was looked at comes next, of whatever end
  seen_next : (emits : Bool) (peeked : Option Answer) (end : Option (Result (Unit {0}) Refused)) (x : Answer)
      (old new : List (Layer S)) (r : Option Answer) → peeked ≡ Some x
      → ComesNext steps offset sets emits peeked end old r new → (r ≡ Some x) × (new ≡ old)
  seen_next emits None end x old new r is comes = absurd cc
  seen_next emits (Some y) end x old new r is comes = (comes.0 ∙ is, comes.1)

  -- so are looks
  pub looks_turn : LooksAreTurns steps offset sets
  looks_turn p q t e r none look step =
      let turns =
      comes_turns steps offset sets p.emits_comments p.peeked p.end p.layers q.layers e none look.gives in
      let next = seen_next q.emits_comments q.peeked q.end (Ok e) q.layers t.layers r look.peeked step.gives in (
        behind_withheld steps offset sets p.emits_comments p.layers turns.0 q.layers (e ∷ []) turns.1
            (giving_turn turns.2 no_turn),
        next.0,
        next.1,
      )

  module _ (again : Replay → S) (replays : Replays steps again) where
    -- where nothing was looked at
    unseen : (p q : Stack S) (name : Written) (r : Replay) (k : Layer S) (ks : List (Layer S)) (emits : Bool)
        (xs : Events) → p.layers ≡ layer_of (again r) name ∷ k ∷ ks → IsOneDocument false r.events → p.peeked ≡ None
        → p.emits_comments ≡ emits → StackRun steps offset sets p xs q
        → PassesOn steps offset sets emits (k ∷ ks) (those_through emits r.events) xs q.layers
    unseen p q name r k ks emits xs layers one none same calls =
        through steps offset sets emits again replays k ks p.layers q.layers xs r None (those_through emits r.events)
        (record { layer = layer_of (again r) name; is = layers; parser = refl; ends = refl })
        (one_document emits None r.events one)
        (emits_on emits p.emits_comments p.layers q.layers xs same (calls_turn p q xs none calls))

    -- what was looked at comes first
    taken : (emits : Bool) (peeked : Option Answer) (end : Option (Result (Unit {0}) Refused)) (y : Answer)
        (e : Event × Span) (old new : List (Layer S)) → peeked ≡ Some y
        → ComesNext steps offset sets emits peeked end old (Some (Ok e)) new
        → ◌≡◌ {A = Option Answer} (Some (Ok e)) (Some y) × (new ≡ old)
    taken emits None end y e old new is comes = absurd cc
    taken emits (Some z) end y e old new is comes = (comes.0 ∙ is, comes.1)

    seen : (p q : Stack S) (name : Written) (r : Replay) (k : Layer S) (ks : List (Layer S)) (peeked : Option Answer)
        (xs : Events) → p.layers ≡ layer_of (again r) name ∷ k ∷ ks → IsOneDocument false r.events → p.peeked ≡ peeked
        → StackRun steps offset sets p xs q
        → PassesOn steps offset sets p.emits_comments (k ∷ ks)
        (held peeked ++ those_through p.emits_comments r.events) xs
        q.layers
    seen p q name r k ks None xs layers one is calls =
        unseen p q name r k ks p.emits_comments xs layers one is refl calls
    seen p q name r k ks (Some x) xs layers one is no_call = inl (_, refl)
    seen p q name r k ks (Some (Err f)) xs layers one is (one_call {mid = mid} {e = e} step more) =
        let h = (taken p.emits_comments p.peeked p.end (Err f) e p.layers mid.layers is step.gives).0 in absurd cc
    seen p q name r k ks (Some (Ok y)) xs layers one is (one_call {mid = mid} {e = e} {es = es} step more) =
        let h = taken p.emits_comments p.peeked p.end (Ok y) e p.layers mid.layers is step.gives in
        let left = those_through p.emits_comments r.events in
        passed_more steps offset sets p.emits_comments again replays k ks y e (y ∷ left) left es q.layers h.0 refl
        (unseen mid q name r k ks p.emits_comments es (h.1 ∙ layers) one step.peeked step.emits_comments more)

    pub comes_through : ReplayComesThrough steps offset sets again
    comes_through p q name r k ks xs layers one calls = seen p q name r k ks p.peeked xs layers one refl calls

-- a parser of several kinds, where it is a replay
pub fourth_replays : {A B C : Type 0} (a : A → Next → A → Type 0) (b : B → Next → B → Type 0)
    (c : C → Next → C → Type 0)
    → Replays (StepsAny a b c (λ p r q. (r ≡ next_of p) × (q ≡ behind_next p))) Fourth
fourth_replays a b c p r (First q) step = absurd step
fourth_replays a b c p r (Second q) step = absurd step
fourth_replays a b c p r (Third q) step = absurd step
fourth_replays a b c p r (Fourth q) step = (step.0, ap Fourth step.1)
