-- Numbers of waiting lexemes that rise.
use Rattle.std.proofs.Common.{◌≡◌, ◌≤◌, ◌<◌, ◌||◌, ℕ, suc, Bool, true, false, List, [], ◌∷◌, ◌++◌, length, map, set}
use Rattle.std.proofs.Common.{take, drop, get_or, Option, Some, None, true≢false, refl, sym, ap, subst, ⊎_elim, ◌∙◌}
use Rattle.std.proofs.Common.{arith, max, Result, Ok, Err}
use Rattle.std.specs.Prelude.{nat_le, nat_lt, OnErr, OnOk}
use Rattle.std.proofs.lemmas.Bool.{and_parts, cases_eq, cases_lt}
use Rattle.std.proofs.lemmas.Bool.Decides.{nat_tests}
use Rattle.std.proofs.lemmas.Grind.{common_steps}
use Rattle.std.proofs.lemmas.List.{ext_get_or, get_or-map, get_or-set_same, get_or-set_other, length-map}
use Rattle.std.proofs.lemmas.List.{length-set, get_or_default, map-set, take-map, map-append}
use Rattle.std.proofs.lemmas.List.Elements.{All-push, All-take}
use Rattle.std.proofs.lemmas.List.Quantifiers.{all_pairs_push}
use Rattle.std.proofs.Math.Seq.{map-set_same}
use Rattle.granit_items.specs.ItemViews.{item_view}
use Rattle.granit_lexemes.specs.Lexeme.{Item, OfLexeme, OfComment}
use Rattle.granit_machine.specs.Lexing.{FlaggedItem}
use Rattle.granit_queue.specs.QueueViews.{flags_of, is_numbered, queue_view, queued_view, with_oldest}
use Rattle.granit_queue.specs.Rising.{lexeme_number, NumberUpTo, Rises, NumbersRise, with_one_waiting, is_before}
use Rattle.granit_queue.specs.declared.queue.Queued.{Queued}
use Rattle.granit_queue.specs.declared.rising.Numbers.{Numbers}
use Rattle.granit_steps.specs.Steps.{marked_by}

-- ---- one more, and less

to_none : (m : Option ℕ) → NumberUpTo m None
to_none None = tt
to_none (Some m) = tt

further : (m : Option ℕ) (last n : ℕ) → NumberUpTo m (Some last) → last ≤ n → NumberUpTo m (Some n)
further None last n p q = tt
further (Some m) last n p q = omega arith

added : (o : Numbers) (n : Option ℕ) (fs : List FlaggedItem) (f : FlaggedItem)
    → lexeme_number f.item ≡ n → NumbersRise o fs
    → NumbersRise (with_one_waiting n o) (fs ++ f ∷ [])
added o None fs f is r = record {
  order = λ told.
      all_pairs_push (λ g h. NumberUpTo (lexeme_number g.item) (lexeme_number h.item)) fs f (r.order told)
      (λ k d low. subst (NumberUpTo (lexeme_number (get_or fs k d).item)) (sym is)
      (to_none (lexeme_number (get_or fs k d).item)));
  last = All-push (λ g. NumberUpTo (lexeme_number g.item) (Some o.last)) fs f r.last
      (subst (λ n. NumberUpTo n (Some o.last)) (sym is) tt);
}
added o (Some n) fs f is r = record {
  order = λ told.
      all_pairs_push (λ g h. NumberUpTo (lexeme_number g.item) (lexeme_number h.item)) fs f
      (r.order (and_parts o.rises _ told).0)
      (λ k d low. subst (NumberUpTo (lexeme_number (get_or fs k d).item)) (sym is)
      (further (lexeme_number (get_or fs k d).item) o.last n (r.last k d low)
      (let e = (and_parts o.rises (nat_le o.last n) told).1 in grind (arith, nat_tests, e))));
  last = All-push (λ g. NumberUpTo (lexeme_number g.item) (Some (max o.last n))) fs f
      (λ k d low. further (lexeme_number (get_or fs k d).item) o.last (max o.last n) (r.last k d low) (omega arith))
      (subst (λ m. NumberUpTo m (Some (max o.last n))) (sym is) (omega arith));
}

-- an item comes behind the others
pub pushed : (o : Numbers) (qs : List Queued) (q : Queued) → NumbersRise o (queue_view qs)
    → NumbersRise (with_one_waiting (lexeme_number (item_view q.item)) o) (queue_view (qs ++ q ∷ []))
pushed o qs q r =
    subst (NumbersRise (with_one_waiting (lexeme_number (item_view q.item)) o))
    (sym (map-append queued_view qs (q ∷ [])))
    (added o (lexeme_number (item_view q.item)) (queue_view qs) (queued_view q) refl r)

-- what is known of one more holds without it
pub noted : (o : Numbers) (n : Option ℕ) (fs : List FlaggedItem) → NumbersRise o fs
    → NumbersRise (with_one_waiting n o) fs
noted o None fs r = r
noted o (Some n) fs r = record {
  order = λ told. r.order (and_parts o.rises _ told).0;
  last = λ k d low. further (lexeme_number (get_or fs k d).item) o.last (max o.last n) (r.last k d low) (omega arith);
}

-- an item comes behind the others, unless memory runs out
pub pushed_or_not : {X E : Type 0} (r : Result X E) (o : Numbers) (qs new : List Queued) (q : Queued)
    → OnOk r (new ≡ qs ++ q ∷ []) → OnErr r (new ≡ qs) → NumbersRise o (queue_view qs)
    → NumbersRise (with_one_waiting (lexeme_number (item_view q.item)) o) (queue_view new)
pushed_or_not (Ok x) o qs new q more kept rises = rw more (pushed o qs q rises)
pushed_or_not (Err e) o qs new q more kept rises =
    rw kept (noted o (lexeme_number (item_view q.item)) (queue_view qs) rises)

-- those behind the oldest rise with it
pub behind : (oldest : Option Queued) (qs : List Queued) → Rises (queue_view (with_oldest oldest qs))
    → Rises (queue_view qs)
behind None qs r = r
behind (Some q) qs r = λ i j d lt low. r (suc i) (suc j) d (omega arith) (omega arith)

-- the oldest one goes
popped : (o : Numbers) (q : Queued) (qs : List Queued) → NumbersRise o (queue_view (q ∷ qs))
    → NumbersRise o (queue_view qs)
popped o q qs r = record {
  order = λ told. behind (Some q) qs (r.order told);
  last = λ k d low. r.last (suc k) d (omega arith);
}

pub without_first : (o : Numbers) (qs : List Queued) → NumbersRise o (queue_view qs)
    → NumbersRise o (queue_view (drop 1 qs))
without_first o [] r = r
without_first o (q ∷ qs) r = popped o q qs r

-- the oldest ones stay
pub cut : (o : Numbers) (n : ℕ) (qs : List Queued) → NumbersRise o (queue_view qs)
    → NumbersRise o (queue_view (take n qs))
cut o n qs r =
    subst (NumbersRise o) (take-map queued_view n qs)
    record {
      order = λ told i j d lt low.
          let fs = queue_view qs in
          let at_i : get_or (take n fs) i d ≡ get_or fs i d = grind (arith, common_steps, low, lt) in
          let at_j : get_or (take n fs) j d ≡ get_or fs j d = grind (arith, common_steps, low) in
          rw (at_i, at_j) (r.order told i j d lt (grind (arith, common_steps, low)));
      last = All-take (λ f. NumberUpTo (lexeme_number f.item) (Some o.last)) n (queue_view qs) r.last;
    }

-- flags change no number
pub flagged : (o : Numbers) (i : Item) (fs : List FlaggedItem) → NumbersRise o fs → NumbersRise o (map (marked_by i) fs)
flagged o i fs r =
    let long : length (map (marked_by i) fs) ≡ length fs = length-map fs (marked_by i) in
    record {
      order = λ told j k d lt low.
          rw (get_or-map (marked_by i) fs j d d (omega arith), get_or-map (marked_by i) fs k d d (omega arith))
          (r.order told j k d lt (omega arith));
      last = λ k d low. rw (get_or-map (marked_by i) fs k d d (omega arith)) (r.last k d (omega arith));
    }

-- ---- from the newest on

twice : (number : ℕ) (f : FlaggedItem) → flags_of number (flags_of number f) ≡ flags_of number f
twice number f = ap (λ (b : Bool). record { item = f.item; begins_key = b })
    (again f.begins_key (is_numbered number f.item))
  where
    again : (a b : Bool) → ((a || b) || b) ≡ (a || b)
    again true b = refl
    again false true = refl
    again false false = refl

same_flags : (number : ℕ) (f : FlaggedItem) → is_numbered number f.item ≡ false → flags_of number f ≡ f
same_flags number f e = ap (λ (b : Bool). record { item = f.item; begins_key = b })
    (ap (λ (b : Bool). f.begins_key || b) e ∙ none f.begins_key)
  where
    none : (a : Bool) → (a || false) ≡ a
    none true = refl
    none false = refl

-- a lexeme no later than one before that of a number is another one
other_number : (number n : ℕ) (i : Item) → NumberUpTo (lexeme_number i) (Some n) → nat_lt n number ≡ true
    → is_numbered number i ≡ false
other_number number n (OfLexeme l) p q = grind (arith, nat_tests, p, q)
other_number number n (OfComment c) p q = refl

before_another : (number : ℕ) (i j : Item) → NumberUpTo (lexeme_number i) (lexeme_number j)
    → is_before number (lexeme_number j) ≡ true
    → is_numbered number i ≡ false
before_another number i (OfLexeme l) p q = other_number number l.number i p q
before_another number i (OfComment c) p q = absurd (true≢false (sym q))

all_stay : (number : ℕ) (fs : List FlaggedItem)
    → ((j : ℕ) (d : FlaggedItem) → j < length fs → flags_of number (get_or fs j d) ≡ get_or fs j d)
    → map (flags_of number) fs ≡ fs
all_stay number [] same = refl
all_stay number (f ∷ fs) same =
    ext_get_or f (map (flags_of number) (f ∷ fs)) (f ∷ fs) (length-map (f ∷ fs) (flags_of number))
    (λ i low.
    let within : i < length (f ∷ fs) = rw (← length-map (f ∷ fs) (flags_of number)) low in
    get_or-map (flags_of number) (f ∷ fs) i f f within ∙ same i f within)

-- what is behind the first i items has its flags, and numbers rise
pub record Passed (number i : ℕ) (old fs : List FlaggedItem) : Type 0 where
  pub told : map (flags_of number) fs ≡ map (flags_of number) old
  pub order : Rises fs
  pub newer : (j : ℕ) (d : FlaggedItem) → i ≤ j → j < length fs → flags_of number (get_or fs j d) ≡ get_or fs j d

pub passes : (number : ℕ) (fs : List FlaggedItem) (i : ℕ) → length fs ≤ i
    → Rises fs → Passed number i fs fs
passes number fs i all r = record { told = refl; order = r; newer = λ j d past low. absurd (omega arith) }

at_set : (P : FlaggedItem → Type 0) (fs : List FlaggedItem) (i j : ℕ) (f d : FlaggedItem) → j < length fs
    → (i ≡ j → P f) → ((i ≡ j → ⊥) → P (get_or fs i d)) → P (get_or (set fs j f) i d)
at_set P fs i j f d within same other =
    ⊎_elim
    (λ e. subst (λ n. P (get_or (set fs j f) n d)) (sym e) (subst P (sym (get_or-set_same fs j f d within)) (same e)))
    (λ n. rw (get_or-set_other fs j i f d n) (other n))
    (cases_eq i j)

passes_one : (number i : ℕ) (old fs : List FlaggedItem) (f : FlaggedItem) → i < length fs → f ≡ get_or fs i f
    → Passed number (suc i) old fs → Passed number i old (set fs i (flags_of number f))
passes_one number i old fs f within is p =
    let g = flags_of number f in
    let long : length (set fs i g) ≡ length fs = length-set fs i g in
    let at : (d : FlaggedItem) → get_or fs i d ≡ f = λ d. get_or_default fs i d f within ∙ sym is in
    let R : FlaggedItem → FlaggedItem → Type 0 = λ a b. NumberUpTo (lexeme_number a.item) (lexeme_number b.item) in
    record {
      told = map-set_same (flags_of number) fs i g f
          (twice number f ∙ ap (flags_of number) is) ∙ p.told;
      order = λ j k d lt low.
          at_set (λ a. R a (get_or (set fs i g) k d)) fs j i g d within
          (λ e. at_set (λ b. R g b) fs k i g d within (λ e'. absurd (omega arith))
          (λ n. subst (λ a. R a (get_or fs k d)) (ap (λ (m : ℕ). get_or fs m d) e ∙ at d)
          (p.order j k d lt (omega arith))))
          (λ m. at_set (λ b. R (get_or fs j d) b) fs k i g d within
          (λ e. subst (R (get_or fs j d)) (ap (λ (m : ℕ). get_or fs m d) e ∙ at d) (p.order j k d lt (omega arith)))
          (λ n. p.order j k d lt (omega arith)));
      newer = λ j d past low.
          at_set (λ a. flags_of number a ≡ a) fs j i g d within (λ e. twice number f)
          (λ n. p.newer j d (omega arith) (omega arith));
    }

-- the newest item that wasn't passed gets its flag
pub passes_item : (number i : ℕ) (old : List FlaggedItem) (qs : List Queued) (q flagged : Queued) → i < length qs
    → q ≡ get_or qs i q → queued_view flagged ≡ flags_of number (queued_view q)
    → Passed number (suc i) old (queue_view qs) → Passed number i old (queue_view (set qs i flagged))
passes_item number i old qs q flagged within is flag p =
    let long : length (queue_view qs) ≡ length qs = length-map qs queued_view in
    subst (Passed number i old)
    (sym (map-set queued_view qs i flagged ∙ ap (λ (f : FlaggedItem). set (queue_view qs) i f) flag))
    (passes_one number i old (queue_view qs) (queued_view q) (omega arith)
    (ap queued_view is ∙ sym (get_or-map queued_view qs i q (queued_view q) within)) p)

-- all are passed
pub passed_all : (number : ℕ) (old fs : List FlaggedItem) → Passed number 0 old fs → fs ≡ map (flags_of number) old
passed_all number old fs p = sym (all_stay number fs (λ j d low. p.newer j d (omega arith) low)) ∙ p.told

-- none before a lexeme of a lower number is meant
passed_enough : (number i : ℕ) (old : List FlaggedItem) (qs : List Queued) (q : Queued) → i < length qs
    → q ≡ get_or qs i q → is_before number (lexeme_number (item_view q.item)) ≡ true
    → Passed number (suc i) old (queue_view qs) → queue_view qs ≡ map (flags_of number) old
passed_enough number i old qs q within is before p =
    let fs = queue_view qs in
    let long : length fs ≡ length qs = length-map qs queued_view in
    let at : (d : FlaggedItem) → get_or fs i d ≡ queued_view q =
    λ d. get_or-map queued_view qs i q d within ∙ sym (ap queued_view is) in
    sym (all_stay number fs
    (λ j d low.
    ⊎_elim
    (λ less. same_flags number (get_or fs j d)
    (before_another number (get_or fs j d).item (item_view q.item)
    (subst (λ g. NumberUpTo (lexeme_number (get_or fs j d).item) (lexeme_number g.item)) (at d)
    (p.order j i d less (omega arith))) before))
    (λ more. ⊎_elim
    (λ e. same_flags number (get_or fs j d)
    (before_another number (get_or fs j d).item (item_view q.item)
    (subst (λ g. NumberUpTo (lexeme_number g.item) (lexeme_number (item_view q.item)))
    (sym (ap (λ (m : ℕ). get_or fs m d) e ∙ at d)) (itself (lexeme_number (item_view q.item)))) before))
    (λ apart. p.newer j d (omega arith) low)
    (cases_eq j i))
    (cases_lt j i))) ∙ p.told
  where
    itself : (n : Option ℕ) → NumberUpTo n n
    itself None = tt
    itself (Some n) = omega arith

-- the same where it got its flag
pub passed_by : (number i : ℕ) (old : List FlaggedItem) (qs : List Queued) (q flagged : Queued) → i < length qs
    → q ≡ get_or qs i q → queued_view flagged ≡ flags_of number (queued_view q)
    → is_before number (lexeme_number (item_view q.item)) ≡ true
    → Passed number (suc i) old (queue_view qs) → queue_view (set qs i flagged) ≡ map (flags_of number) old
passed_by number i old qs q flagged within is flag before p =
    let step = passes_item number i old qs q flagged within is flag p in
    passed_enough number i old (set qs i flagged) flagged (rw (length-set qs i flagged) within)
    (sym (get_or-set_same qs i flagged flagged within))
    (ap (λ (f : FlaggedItem). is_before number (lexeme_number f.item)) flag ∙ before)
    (record { told = step.told; order = step.order; newer = λ j d past low. step.newer j d (omega arith) low })
