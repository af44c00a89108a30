-- Which lexemes begin keys, as items come.
use Rattle.std.proofs.Common.{◌≡◌, ◌≤◌, ◌<◌, ◌+◌, ℕ, Bool, true, false, ◌||◌, List, [], ◌∷◌, ◌++◌, length, map, set}
use Rattle.std.proofs.Common.{take, drop, get_or, Option, Some, None, refl, sym, ap, ap₂, subst, ◌∙◌}
use Rattle.std.proofs.lemmas.List.{append-nil, get_or-map, length-map, map-set, take-map, take_all, drop_all}
use Rattle.std.proofs.lemmas.List.Edits.{map_over_more}
use Rattle.std.specs.List.{slice_get}
use Rattle.std.specs.Option.{option_map}
use Rattle.std.proofs.lemmas.Option.{slice_get-map}
use Rattle.granit_items.specs.ItemViews.{item_view}
use Rattle.granit_lexemes.specs.Lexeme.{KeyStart, Item, OfLexeme, OfComment}
use Rattle.granit_machine.specs.Lexing.{FlaggedItem}
use Rattle.granit_queue.specs.QueueViews.{flags_of, is_numbered, queue_view, queued_view}
use Rattle.granit_queue.specs.declared.queue.Queued.{Queued}
use Rattle.granit_steps.specs.Steps.{is_key_at, key_of_item, marked_by}

or_none : (b : Bool) → b ≡ (b || false)
or_none true = refl
or_none false = refl

abbrev marked_for : Option KeyStart → FlaggedItem → FlaggedItem
marked_for key f = record { item = f.item; begins_key = f.begins_key || is_key_at key f.item }

unmarked : (q : List FlaggedItem) → q ≡ map (marked_for None) q
unmarked [] = refl
unmarked (f ∷ fs) = ap₂ (λ (b : Bool) (rest : List FlaggedItem). record { item = f.item; begins_key = b } ∷ rest)
    (or_none f.begins_key) (unmarked fs)

same_test : (k : KeyStart) (i : Item) → is_numbered k.number i ≡ is_key_at (Some k) i
same_test k (OfLexeme l) = refl
same_test k (OfComment c) = refl

same_flag : (k : KeyStart) (f : FlaggedItem) → flags_of k.number f ≡ marked_for (Some k) f
same_flag k f = ap (λ (b : Bool). record { item = f.item; begins_key = f.begins_key || b }) (same_test k f.item)

-- an item without a key flags none
pub no_key_marks : (i : Item) (q : List FlaggedItem) → None ≡ key_of_item i → q ≡ map (marked_by i) q
no_key_marks i q e = subst (λ (key : Option KeyStart). q ≡ map (marked_for key) q) e (unmarked q)

-- a `:` with a key flags the lexeme that begins it
pub key_marks : (k : KeyStart) (i : Item) (q : List FlaggedItem) → Some k ≡ key_of_item i
    → map (flags_of k.number) q ≡ map (marked_by i) q
key_marks k i q e = subst (λ (key : Option KeyStart). map (flags_of k.number) q ≡ map (marked_for key) q) e (go q)
  where
    go : (fs : List FlaggedItem) → map (flags_of k.number) fs ≡ map (marked_for (Some k)) fs
    go [] = refl
    go (f ∷ fs) = ap₂ (λ (g : FlaggedItem) (rest : List FlaggedItem). g ∷ rest) (same_flag k f) (go fs)

-- ---- flags, one after another

-- a loop that flags each has flagged one more
pub flag_set : (number : ℕ) (old now : List Queued) (i : ℕ) (q : Queued) (b : Bool) → i < length old → i < length now
    → queue_view now ≡ map (flags_of number) (take i (queue_view old)) ++ drop i (queue_view old)
    → q ≡ get_or now i q → b ≡ q.begins_key || is_numbered number (item_view q.item)
    → queue_view (set now i (record { item = q.item; begins_key = b }))
    ≡ map (flags_of number) (take (i + 1) (queue_view old)) ++ drop (i + 1) (queue_view old)
flag_set number old now i q b before within told there is =
    map-set queued_view now i (record { item = q.item; begins_key = b })
    ∙ ap (λ (flag : Bool). set (queue_view now) i (record { item = item_view q.item; begins_key = flag })) is
    ∙ map_over_more (flags_of number) (queue_view old) (queue_view now) i (queued_view q)
    (rw (length-map old queued_view) before) told
    (ap queued_view there ∙ sym (get_or-map queued_view now i q (queued_view q) within))

-- at its end it has flagged all
pub flagged_all : (number : ℕ) (old now : List Queued) (i : ℕ) → length old ≤ i
    → queue_view now ≡ map (flags_of number) (take i (queue_view old)) ++ drop i (queue_view old)
    → queue_view now ≡ map (flags_of number) (queue_view old)
flagged_all number old now i past told =
    let all : length (queue_view old) ≤ i = rw (length-map old queued_view) past in
    told
    ∙ ap₂ (λ (front rest : List FlaggedItem). map (flags_of number) front ++ rest) (take_all i (queue_view old) all)
    (drop_all i (queue_view old) all)
    ∙ append-nil (map (flags_of number) (queue_view old))

pub queued_at : (qs : List Queued) (i : ℕ) → option_map queued_view (slice_get qs i) ≡ slice_get (queue_view qs) i
queued_at qs i = sym (slice_get-map queued_view qs i)

pub queue_cut : (n : ℕ) (qs : List Queued) → queue_view (take n qs) ≡ take n (queue_view qs)
queue_cut n qs = sym (take-map queued_view n qs)
