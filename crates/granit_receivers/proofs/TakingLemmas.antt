-- What a receiver tells of events that it took one behind the other.
use Rattle.std.proofs.Common.{◌≡◌, List, [], ◌∷◌, ◌++◌, map, Option, Some, None, sym, ap, subst, ◌∙◌, append_assoc}
use Rattle.std.proofs.lemmas.List.{append-nil, map-append}
use Rattle.granit_base.specs.declared.place.Span.{Span}
use Rattle.granit_event.specs.declared.event.Event.{Event}
use Rattle.granit_receivers.specs.Taking.{Grows, Told, Took, event_in, place_in}

-- nothing more is told of
grows_none : {A : Type 0} (xs : Option (List A)) → Grows xs xs []
grows_none None = tt
grows_none (Some xs) = sym (append-nil xs)

-- more is, and then more again
grows_more : {A : Type 0} (old mid new : Option (List A)) (xs ys : List A) → Grows old mid xs → Grows mid new ys
    → Grows old new (xs ++ ys)
grows_more None mid new xs ys first then = tt
grows_more (Some os) None new xs ys first then = absurd first
grows_more (Some os) (Some ms) None xs ys first then = absurd then
grows_more (Some os) (Some ms) (Some ns) xs ys first then =
    then ∙ (ap (λ zs. zs ++ ys) first ∙ append_assoc os xs ys)

pub took_none : (t : Told) → Took t t []
took_none t = record { events = grows_none t.events; places = grows_none t.places }

pub took_more : (old mid new : Told) (xs ys : List (Event × Span)) → Took old mid xs → Took mid new ys
    → Took old new (xs ++ ys)
took_more old mid new xs ys first then = record {
  events = subst (Grows old.events new.events) (sym (map-append event_in xs ys))
      (grows_more old.events mid.events new.events (map event_in xs) (map event_in ys) first.events then.events);
  places = subst (Grows old.places new.places) (sym (map-append place_in xs ys))
      (grows_more old.places mid.places new.places (map place_in xs) (map place_in ys) first.places then.places);
}

-- one event is taken
pub took_one : (old new : Told) (x : Event × Span) → Grows old.events new.events (x.0 ∷ [])
    → Grows old.places new.places (x.1 ∷ []) → Took old new (x ∷ [])
took_one old new x event place = record { events = event; places = place }
