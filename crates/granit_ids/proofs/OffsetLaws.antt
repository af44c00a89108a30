-- Ids of a machine that has just begun.
use Rattle.std.proofs.Common.{◌≡◌, ℕ, suc, ◌≤◌, List, Option, Some, None, Ok, inl, inr, refl, subst, arith}
use Rattle.granit_error.specs.OptionsData.{OptionsData}
use Rattle.granit_lexemes.specs.Here.{Here}
use Rattle.granit_lexemes.specs.Outcome.{Fault}
use Rattle.granit_lexemes.specs.PlainEvent.{PlainEvent}
use Rattle.granit_ids.proofs.IdLaws.{Anew, AtLeast, Ids, NextIds, NoBounds, from_above, ids_counting, ids_now}
use Rattle.granit_ids.proofs.IdLaws.{next_ids}
use Rattle.granit_ids.proofs.IdLemmas.{Above, Bounds}
use Rattle.granit_ids.specs.Ids.{Counted, IdsFrom, counted_more, counted_start, counted_step, counting_from, id_of}
use Rattle.granit_ids.specs.Ids.{id_told}
use Rattle.granit_steps.specs.Steps.{StepState, next_event}
use Rattle.granit_steps.specs.Told.{GivesEvents, gives_end, gives_event, gives_fault}

given_from : (o : OptionsData) (n : ℕ) (s : StepState) (es : List PlainEvent) (f : Option Fault) → Ids (Anew n) s
    → GivesEvents o s es f → IdsFrom (suc n) es
given_from o n s es f x (gives_end is) = tt
given_from o n s es f x (gives_fault is) = tt
given_from o n s es f x (gives_event {after = after} {e = e} {es = rest} is more) =
    let m : NextIds (Anew n) (Ok (Some e, after)) = subst (NextIds (Anew n)) is (next_ids (Anew n) o s x) in
    (from_above n after.parser.count (id_of e.kind) m.0, given_from o n after rest f m.1 more)

pub begun_from : (o : OptionsData) (h : Here) (count : ℕ) (es : List PlainEvent) (f : Option Fault)
    → GivesEvents o (counting_from count h) es f → IdsFrom (suc count) es
begun_from o h count es f gives =
    given_from o count (counting_from count h) es f
    (record { least = omega arith; low = omega arith; given = tt; frames = tt; held = tt; follow = tt }, (inl refl, tt))
    gives

counted_ids : (o : OptionsData) (m : StepState) → Counted o m → Ids NoBounds m
counted_ids o m (counted_start count h) =
    (record { least = omega arith; low = omega arith; given = tt; frames = tt; held = tt; follow = tt }, (inl refl, tt))
counted_ids o m (counted_step {m = before} {r = None} c is) =
    let n : NextIds NoBounds (Ok (None, m)) =
    subst (NextIds NoBounds) is (next_ids NoBounds o before (counted_ids o before c)) in
    n
counted_ids o m (counted_step {m = before} {r = Some e} c is) =
    let n : NextIds NoBounds (Ok (Some e, m)) =
    subst (NextIds NoBounds) is (next_ids NoBounds o before (counted_ids o before c)) in
    n.1
counted_ids o m (counted_more {m = before} count c less) = ids_counting count before less (counted_ids o before c)

told : (b : Bounds) (n id : ℕ) → Above b n id → id ≤ n
told b n id (inl none) = omega arith
told b n id (inr x) = x.1

-- a step leaves a count that is no less, and gives no id above it
pub step_counts : (o : OptionsData) (m after : StepState) (r : Option PlainEvent) → Counted o m
    → next_event o m ≡ Ok (r, after) → (m.parser.count ≤ after.parser.count) × (id_told r ≤ after.parser.count)
step_counts o m after None c is =
    let b = AtLeast m.parser.count in
    let n : NextIds b (Ok (None, after)) =
    subst (NextIds b) is (next_ids b o m (ids_now m (counted_ids o m c))) in
    let p = n.0 in (p.least, omega arith)
step_counts o m after (Some e) c is =
    let b = AtLeast m.parser.count in
    let n : NextIds b (Ok (Some e, after)) =
    subst (NextIds b) is (next_ids b o m (ids_now m (counted_ids o m c))) in
    let p = n.1.0 in (p.least, told b after.parser.count (id_of e.kind) n.0)
