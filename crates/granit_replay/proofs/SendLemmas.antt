-- Events that are sent one behind the other.
use Rattle.std.proofs.Common.{◌≡◌, ◌∙◌, ℕ, Bool, true, false, if◌then◌else◌, List, [], ◌∷◌, ◌++◌, refl, sym, ap, subst}
use Rattle.std.proofs.Common.{append_assoc, Some, None}
use Rattle.std.proofs.lemmas.List.{append-nil}
use Rattle.granit_base.specs.declared.place.Span.{Span}
use Rattle.granit_event.specs.declared.event.Event.{Event}
use Rattle.granit_receivers.proofs.TakingLemmas.{took_none, took_more}
use Rattle.granit_receivers.specs.Taking.{Told, Took}
use Rattle.granit_replay.specs.Replaying.{Replay, behind_next, first_of, raised_by, raised_by_all, replay_behind_first}
use Rattle.granit_replay.specs.Sending.{SendingGoesOn, StopsSendingAt, behind_sent, ends_with, sent, unsent}

-- ---- lists

all_raised : (offset : ℕ) (xs ys : List (Event × Span))
    → raised_by_all offset (xs ++ ys) ≡ raised_by_all (raised_by_all offset xs) ys
all_raised offset [] ys = refl
all_raised offset (x ∷ xs) ys = all_raised (raised_by offset x) xs ys

-- where the sending goes on behind some events, what is sent of them and more is them, and what is sent of the rest
sent_more : (multi : Bool) (xs ys : List (Event × Span)) → SendingGoesOn multi xs
    → sent multi (xs ++ ys) ≡ xs ++ sent multi ys
sent_more multi [] ys on = refl
sent_more multi (x ∷ xs) ys on =
    ap (λ es. x ∷ es)
    (ap (λ b. if b then [] else sent multi (xs ++ ys)) on.0 ∙ sent_more multi xs ys on.1)

unsent_more : (multi : Bool) (xs ys : List (Event × Span)) → SendingGoesOn multi xs
    → unsent multi (xs ++ ys) ≡ unsent multi ys
unsent_more multi [] ys on = refl
unsent_more multi (x ∷ xs) ys on =
    ap (λ b. if b then xs ++ ys else unsent multi (xs ++ ys)) on.0 ∙ unsent_more multi xs ys on.1

goes_further : (multi : Bool) (xs : List (Event × Span)) (e : Event × Span) → SendingGoesOn multi xs
    → ends_with multi e ≡ false → SendingGoesOn multi (xs ++ e ∷ [])
goes_further multi [] e on more = (more, tt)
goes_further multi (x ∷ xs) e on more = (on.0, goes_further multi xs e on.1 more)

-- ---- a step

-- where an event is given, it is the first that is left
taken_first : (offset : ℕ) (es : List (Event × Span)) (after : Replay) (e : Event × Span) → first_of es ≡ Some e
    → after ≡ replay_behind_first offset es → (es ≡ e ∷ after.events) × (after.anchor_offset ≡ raised_by offset e)
taken_first offset [] after e first behind = absurd cc
taken_first offset (x ∷ es) after e first behind =
    let same : x ≡ e = cc in
    let rest : es ≡ after.events = sym (ap (λ p. p.events) behind) in
    (ap (λ y. y ∷ es) same ∙ ap (λ ys. e ∷ ys) rest, ap (λ p. p.anchor_offset) behind ∙ ap (raised_by offset) same)

-- where none is, none is left, and nothing changes
none_taken : (offset : ℕ) (es : List (Event × Span)) (after : Replay) → first_of es ≡ None
    → after ≡ replay_behind_first offset es → (es ≡ []) × (after.events ≡ []) × (after.anchor_offset ≡ offset)
none_taken offset [] after none behind = (refl, ap (λ p. p.events) behind, ap (λ p. p.anchor_offset) behind)
none_taken offset (x ∷ es) after none behind = absurd cc

-- ---- a sending

-- so far these events were sent
pub record SentFirst (multi : Bool) (initial now : Replay) (old new : Told) : Type 0 where
  pub first : List (Event × Span)
  pub goes_on : SendingGoesOn multi first
  pub took : Took old new first
  pub events : initial.events ≡ first ++ now.events
  pub offset : now.anchor_offset ≡ raised_by_all initial.anchor_offset first

pub sent_none : (multi : Bool) (p : Replay) (t : Told) → SentFirst multi p p t t
sent_none multi p t = record { first = []; goes_on = tt; took = took_none t; events = refl; offset = refl }

module _ (multi : Bool) (initial now : Replay) (old mid : Told) (s : SentFirst multi initial now old mid)
    (after : Replay) (behind : after ≡ behind_next now) where
  module _ (none : first_of now.events ≡ None) where
    -- none was left
    empty : now.events ≡ []
    empty = (none_taken now.anchor_offset now.events after none behind).0

    all_sent : sent multi initial.events ≡ s.first
    all_sent =
        ap (sent multi) s.events ∙ (sent_more multi s.first now.events s.goes_on
        ∙ (ap (λ es. s.first ++ sent multi es) empty ∙ append-nil s.first))

    -- all were sent
    pub all_took : Took old mid (sent multi initial.events)
    all_took = subst (Took old mid) (sym all_sent) s.took

    pub all_left : after ≡ behind_sent multi initial
    all_left =
        let t = none_taken now.anchor_offset now.events after none behind in
        let rest : unsent multi initial.events ≡ [] =
        ap (unsent multi) s.events ∙ (unsent_more multi s.first now.events s.goes_on ∙ ap (unsent multi) empty) in
        let offset : after.anchor_offset ≡ raised_by_all initial.anchor_offset (sent multi initial.events) =
        t.2 ∙ (s.offset ∙ ap (raised_by_all initial.anchor_offset) (sym all_sent)) in
        λ i. record { events = (t.1 ∙ sym rest) i; anchor_offset = offset i }

  module _ (e : Event × Span) (first : first_of now.events ≡ Some e) where
    -- this one was the first that was left
    is : now.events ≡ e ∷ after.events
    is = (taken_first now.anchor_offset now.events after e first behind).0

    -- the events so far, and this one
    first_more : initial.events ≡ (s.first ++ e ∷ []) ++ after.events
    first_more = s.events ∙ (ap (λ es. s.first ++ es) is ∙ sym (append_assoc s.first (e ∷ []) after.events))

    offset_more : after.anchor_offset ≡ raised_by_all initial.anchor_offset (s.first ++ e ∷ [])
    offset_more =
        (taken_first now.anchor_offset now.events after e first behind).1
        ∙ (ap (λ n. raised_by n e) s.offset ∙ sym (all_raised initial.anchor_offset s.first (e ∷ [])))

    -- one more is sent
    pub sent_event : (new : Told) → ends_with multi e ≡ false → Took mid new (e ∷ [])
        → SentFirst multi initial after old new
    sent_event new more takes = record {
      first = s.first ++ e ∷ [];
      goes_on = goes_further multi s.first e s.goes_on more;
      took = took_more old mid new s.first (e ∷ []) s.took takes;
      events = first_more;
      offset = offset_more;
    }

    -- the last one is
    last_sent : ends_with multi e ≡ true → sent multi initial.events ≡ s.first ++ e ∷ []
    last_sent last =
        ap (sent multi) (s.events ∙ ap (λ es. s.first ++ es) is)
        ∙ (sent_more multi s.first (e ∷ after.events) s.goes_on
        ∙ ap (λ b. s.first ++ e ∷ (if b then [] else sent multi after.events)) last)

    pub last_took : (new : Told) → ends_with multi e ≡ true → Took mid new (e ∷ [])
        → Took old new (sent multi initial.events)
    last_took new last takes =
        subst (Took old new) (sym (last_sent last)) (took_more old mid new s.first (e ∷ []) s.took takes)

    pub last_left : ends_with multi e ≡ true → after ≡ behind_sent multi initial
    last_left last =
        let rest : unsent multi initial.events ≡ after.events =
        ap (unsent multi) (s.events ∙ ap (λ es. s.first ++ es) is)
        ∙ (unsent_more multi s.first (e ∷ after.events) s.goes_on
        ∙ ap (λ b. if b then after.events else unsent multi after.events) last) in
        let offset : after.anchor_offset ≡ raised_by_all initial.anchor_offset (sent multi initial.events) =
        offset_more ∙ ap (raised_by_all initial.anchor_offset) (sym (last_sent last)) in
        λ i. record { events = sym rest i; anchor_offset = offset i }

    -- one is that the receiver refuses
    pub stops : (new : Told) → Took mid new (e ∷ []) → StopsSendingAt multi (Took old new) initial after
    stops new takes = record {
      before = s.first;
      refused = e;
      goes_on = s.goes_on;
      took = took_more old mid new s.first (e ∷ []) s.took takes;
      events = first_more;
      offset = offset_more;
    }
