-- Behind want of memory no call of recovery tells of a document.
use Rattle.std.proofs.Common.{◌≡◌, ◌⊎◌, inl, inr, Bool, true, false, Option, Some, None, Result, Ok, Err, refl, sym, ap}
use Rattle.std.proofs.Common.{subst, ◌∙◌}
use Rattle.std.specs.Prelude.{IfErr, IfSome}
use Rattle.granit_base.specs.Place.{Unread}
use Rattle.granit_error.specs.FaultKind.{FaultKind, NoMemory}
use Rattle.granit_error.specs.Refused.{Refused}
use Rattle.granit_input.specs.Origin.{Origin}
use Rattle.granit_parser.specs.Parsing.{KeepsGiven, Next, Parsing}
use Rattle.granit_parser.specs.Recovering.{GivesSeen, SeenBy}
use Rattle.granit_parser_laws.specs.Again.{ProceedsTo, SeesEvent, TakesEvent}
use Rattle.granit_receivers.specs.Kept.{GivesAgain}
use Rattle.granit_restart.specs.Calls.{Calls}
use Rattle.granit_parser.specs.Parsing.{EndsWith}
use Rattle.granit_parser.specs.Parsing.{IfUnseen}
use Rattle.granit_parser.specs.Recovering.{NeverRecovers}
use Rattle.granit_parser.specs.Parsing.{Stepping}

memory_or_other : (k : FaultKind) → (k ≡ NoMemory) ⊎ (k ≡ NoMemory → ⊥)
memory_or_other NoMemory = inl refl
memory_or_other k = inr (λ e. cc)

-- this isn't want of memory
abbrev pub HasMemory : Next → Type 0
HasMemory r = IfSome r (λ x. IfErr x (λ e. e.kind ≡ NoMemory → ⊥))

-- this is
pub record WantsMemory (r : Next) : Type 0 where
  error : Refused
  is : r ≡ Some (Err error)
  wants : error.kind ≡ NoMemory

pub memory_in : (r : Next) → HasMemory r ⊎ WantsMemory r
memory_in None = inl tt
memory_in (Some (Ok x)) = inl tt
memory_in (Some (Err e)) = by (memory_or_other e.kind)
  where
    by : (e.kind ≡ NoMemory) ⊎ (e.kind ≡ NoMemory → ⊥) → HasMemory (Some (Err e)) ⊎ WantsMemory (Some (Err e))
    by (inl wants) = inr (record { error = e; is = refl; wants = wants })
    by (inr other) = inl other

-- a refusal was given behind which recovery is refused, or such a one was looked at
pub record IsStarved {I : Type 0} (p : Parsing I) : Type 0 where
  failed : p.stepper.failed ≡ true
  refusal : p.stepper.refusal ≡ None
  how : ((p.peeked ≡ None) × ((e : Refused) × (p.given ≡ Some e))) ⊎ ((e : Refused) × (p.peeked ≡ Some (Err e)))

module _ {I : Type 0} (unread : I → Unread → Type 0) (origin : I → Origin) where
  -- ---- no call tells there

  answer_in : Result Bool Refused → Bool
  answer_in (Ok x) = x
  answer_in (Err e) = false

  pub never_tells : (p q : Parsing I) → IsStarved p → ProceedsTo unread origin p (Ok true) q → ⊥
  unfolding answer_in
  never_tells p q x tells = by p.over refl p.given refl
    where
      seen_by : p.over ≡ false → p.given ≡ None
          → ((p.peeked ≡ None) × ((e : Refused) × (p.given ≡ Some e))) ⊎ ((e : Refused) × (p.peeked ≡ Some (Err e)))
          → ⊥
      seen_by going none (inl y) = let e : None ≡ Some y.1.0 = sym none ∙ y.1.1 in cc
      seen_by going none (inr y) =
          let e : Ok true ≡ Err y.0 = subst (λ (r : Next). GivesSeen r (Ok true)) y.1
          (tells.seen going x.failed x.refusal none) in
          let f : true ≡ false = ap answer_in e in cc

      by : (over : Bool) → p.over ≡ over → (given : Option Refused) → p.given ≡ given → ⊥
      by true over given is = let e : true ≡ false = ap answer_in (tells.over over).0 in cc
      by false going None none = seen_by going none x.how
      by false going (Some e) is =
          (subst (λ (g : Option Refused). IfSome g (λ e. GivesAgain e (Ok true))) is
          (tells.again going x.failed x.refusal)).0

  -- ---- it stays so

  kept_in : (r : Next) (old new : Option Refused) (e : Refused) → r ≡ Some (Err e) → KeepsGiven r old new
      → (f : Refused) × (new ≡ Some f)
  kept_in None old new e is keeps = absurd (cc)
  kept_in (Some (Ok x)) old new e is keeps = absurd (cc)
  kept_in (Some (Err f)) old new e is keeps = (keeps.0, keeps.1)

  pub starved_taken : (p q : Parsing I) (r : Next) → IsStarved p → TakesEvent unread origin p r q → IsStarved q
  starved_taken p q r x takes = by x.how
    where
      by : ((p.peeked ≡ None) × ((e : Refused) × (p.given ≡ Some e))) ⊎ ((e : Refused) × (p.peeked ≡ Some (Err e)))
          → IsStarved q
      by (inl y) =
          subst (λ (s : Parsing I). IsStarved s) (sym (takes.over (record { none = y.0; failed = x.failed })).1) x
      by (inr y) =
          let at = subst (λ (s : Next). IfSome s (λ z. (r ≡ Some z) × (q.stepper ≡ p.stepper))) y.1 takes.seen in
          record {
            failed = ap (λ (s : Stepping I). s.failed) at.1 ∙ x.failed;
            refusal = ap (λ (s : Stepping I). s.refusal) at.1 ∙ x.refusal;
            how = inl (takes.peeked, kept_in r p.given q.given y.0 at.0 takes.given);
          }

  pub starved_seen : (p q : Parsing I) (r : Next) → IsStarved p → SeesEvent unread origin p r q → IsStarved q
  starved_seen p q r x sees = by x.how
    where
      by : ((p.peeked ≡ None) × ((e : Refused) × (p.given ≡ Some e))) ⊎ ((e : Refused) × (p.peeked ≡ Some (Err e)))
          → IsStarved q
      by (inl y) = subst (λ (s : Parsing I). IsStarved s) (sym (sees.over (record { none = y.0; failed = x.failed }))) x
      by (inr y) =
          subst (λ (s : Parsing I). IsStarved s)
          (sym (subst (λ (s : Next). IfSome s (λ z. q ≡ p)) y.1 sees.seen)) x

  -- ---- where a call wants memory it becomes so

  failed_by : (r : Next) (s : Stepping I) (e : Refused) → r ≡ Some (Err e) → EndsWith r s → s.failed ≡ true
  failed_by None s e is ends = absurd (cc)
  failed_by (Some (Ok x)) s e is ends = absurd (cc)
  failed_by (Some (Err f)) s e is ends = ends

  refused_by : (r : Next) (old new : Stepping I) (e : Refused) → r ≡ Some (Err e) → e.kind ≡ NoMemory
      → NeverRecovers origin old r new → new.refusal ≡ None
  refused_by r old new e is wants never =
      let told = subst (λ (s : Next). IfSome s (λ x. IfErr x (λ f. f.kind ≡ NoMemory → new.refusal ≡ None))) is
      never.memory in
      told wants

  pub taken_starved : (p q : Parsing I) (r : Next) (c : Calls) → SeenBy unread p.peeked p.stepper c
      → WantsMemory r → TakesEvent unread origin p r q → IsStarved q
  taken_starved p q r c seen x takes = by p.peeked refl seen
    where
      by : (v : Next) → p.peeked ≡ v → SeenBy unread v p.stepper c → IsStarved q
      by None is there = record {
        failed = failed_by r q.stepper x.error x.is takes.refused;
        refusal = refused_by r p.stepper q.stepper x.error x.is x.wants
            (subst (λ (v : Next). IfUnseen v (NeverRecovers origin p.stepper r q.stepper)) is takes.lost);
        how = inl (takes.peeked, kept_in r p.given q.given x.error x.is takes.given);
      }
      by (Some (Ok y)) is there =
          let at = subst (λ (s : Next). IfSome s (λ z. (r ≡ Some z) × (q.stepper ≡ p.stepper))) is takes.seen in
          absurd (let e : Some (Err x.error) ≡ Some (Ok y) = sym x.is ∙ at.0 in cc)
      by (Some (Err e)) is there = absurd there

  pub seen_starved : (p q : Parsing I) (r : Next) (c : Calls) → SeenBy unread p.peeked p.stepper c
      → WantsMemory r → SeesEvent unread origin p r q → IsStarved q
  seen_starved p q r c seen x sees = by p.peeked refl seen
    where
      by : (v : Next) → p.peeked ≡ v → SeenBy unread v p.stepper c → IsStarved q
      by None is there = record {
        failed = failed_by r q.stepper x.error x.is sees.refused;
        refusal = refused_by r p.stepper q.stepper x.error x.is x.wants
            (subst (λ (v : Next). IfUnseen v (NeverRecovers origin p.stepper r q.stepper)) is sees.calls.lost);
        how = inr (x.error, sym sees.shown ∙ x.is);
      }
      by (Some (Ok y)) is there =
          let same : q ≡ p = subst (λ (s : Next). IfSome s (λ z. q ≡ p)) is sees.seen in
          absurd (let e : Some (Err x.error) ≡ Some (Ok y) =
          sym x.is ∙ sees.shown ∙ ap (λ (s : Parsing I). s.peeked) same ∙ is in cc)
      by (Some (Err e)) is there = absurd there
