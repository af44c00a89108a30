-- Events of a stack that are sent one behind the other.
use Rattle.std.proofs.Common.{◌≡◌, ◌∙◌, ℕ, ◌+◌, Bool, true, false, List, [], ◌∷◌, ◌++◌, length, Some, None, inl, inr}
use Rattle.std.proofs.Common.{Ok, Err, refl, ap}
use Rattle.std.proofs.lemmas.List.{length_push}
use Rattle.granit_base.specs.Counts.{last_count}
use Rattle.granit_base.specs.declared.place.Span.{Span}
use Rattle.granit_error.specs.Refused.{Refused}
use Rattle.granit_event.specs.declared.event.Event.{Event}
use Rattle.granit_layers.specs.Sending.{RunsOut, SendsAll, SendsBefore, StackSendsOn, StackSendsUpTo, none_given}
use Rattle.granit_layers.specs.Sending.{one_given}
use Rattle.granit_layers.specs.Stacking.{Stack, StepsTo}
use Rattle.granit_layers.specs.Turning.{Next}
use Rattle.granit_receivers.proofs.TakingLemmas.{took_more, took_none}
use Rattle.granit_receivers.specs.Taking.{Told, Took}
use Rattle.granit_replay.specs.Sending.{ends_with}

module _ {S : Type 0} (steps : S → Next → S → Type 0) (offset : S → ℕ) (sets : ℕ → S → S → Type 0) (multi : Bool) where
  -- so far these events were sent, so many
  pub record SentFirst (n : ℕ) (initial now : Stack S) (old new : Told) : Type 0 where
    pub first : List (Event × Span)
    pub counted : length first ≡ n
    pub gives : StackSendsOn steps offset sets multi initial first now
    pub took : Took old new first

  pub sent_none : (p : Stack S) (t : Told) → SentFirst 0 p p t t
  sent_none p t = record { first = []; counted = refl; gives = none_given; took = took_none t }

  module _ (n : ℕ) (initial now after : Stack S) (old mid : Told) (s : SentFirst n initial now old mid) where
    -- one more is sent
    pub sent_event : (new : Told) (e : Event × Span) → StepsTo steps offset sets now (Some (Ok e)) after
        → ends_with multi e ≡ false → Took mid new (e ∷ []) → SentFirst (n + 1) initial after old new
    sent_event new e step more takes = record {
      first = s.first ++ e ∷ [];
      counted = length_push s.first e ∙ ap (λ m. m + 1) s.counted;
      gives = one_given s.gives step more;
      took = took_more old mid new s.first (e ∷ []) s.took takes;
    }

    -- the last one is
    pub sent_last : (new : Told) (e : Event × Span) → StepsTo steps offset sets now (Some (Ok e)) after
        → ends_with multi e ≡ true → Took mid new (e ∷ []) → SendsAll steps offset sets multi (Took old new) initial
        after
    sent_last new e step last takes = (
      s.first,
      now,
      s.gives,
      inr (record {
        event = e;
        step = step;
        last = last;
        takes = took_more old mid new s.first (e ∷ []) s.took takes;
      }),
    )

    -- none is left
    pub sent_all : StepsTo steps offset sets now None after → SendsAll steps offset sets multi (Took old mid)
        initial after
    sent_all step = (s.first, now, s.gives, inl (record { step = step; takes = s.took }))

    -- a refusal comes
    pub sent_before : (e : Refused) → StepsTo steps offset sets now (Some (Err e)) after
        → SendsBefore steps offset sets multi (Took old mid) initial e after
    sent_before e step = (s.first, now, s.gives, s.took, inl step)

    -- memory ran out
    pub sent_no_more : (e : Refused) → RunsOut now e after → n ≡ last_count
        → SendsBefore steps offset sets multi (Took old mid) initial e after
    sent_no_more e out all = (s.first, now, s.gives, s.took, inr (out, s.counted ∙ all))

    -- the receiver refuses one
    pub sent_up_to : (new : Told) (e : Event × Span) → StepsTo steps offset sets now (Some (Ok e)) after
        → Took mid new (e ∷ []) → StackSendsUpTo steps offset sets multi (Took old new) initial after
    sent_up_to new e step takes =
        (s.first, now, e, s.gives, step, took_more old mid new s.first (e ∷ []) s.took takes)
