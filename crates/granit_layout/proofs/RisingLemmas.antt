-- Possible keys that rise from the outermost bracket on.
use Rattle.std.proofs.Common.{◌≡◌, ℕ, suc, ◌+◌, ◌≤◌, ◌<◌, Bool, true, false, List, [], ◌∷◌, ◌++◌, length}
use Rattle.std.proofs.Common.{map, set, get_or, if◌then◌else◌, Option, Some, None, is_some, true≢false}
use Rattle.std.proofs.Common.{refl, sym, ap, subst, ⊎_elim, arith, ◌∙◌}
use Rattle.std.specs.Prelude.{nat_le}
use Rattle.std.specs.List.{list_any}
use Rattle.std.proofs.lemmas.Bool.{and_parts, or_cases, cases_eq, cases_lt}
use Rattle.std.proofs.lemmas.Bool.Decides.{nat_tests}
use Rattle.std.proofs.lemmas.Grind.{common_steps}
use Rattle.std.proofs.lemmas.List.{length-set, get_or-set_same, get_or-set_other, ext_get_or, get_or-map, length-map}
use Rattle.std.proofs.lemmas.List.{get_or_append_left, get_or_default}
use Rattle.std.proofs.lemmas.List.Elements.{All-set, All-push}
use Rattle.std.proofs.lemmas.List.Folds.{list_any_at, list_any_none}
use Rattle.std.proofs.lemmas.List.Quantifiers.{all_pairs_push}
use Rattle.granit_base.specs.Place.{Mark}
use Rattle.granit_error.specs.OptionsData.{OptionsData}
use Rattle.granit_lexemes.specs.declared.layout.OpenBracket.{OpenBracket}
use Rattle.granit_lexemes.specs.declared.layout.PossibleKey.{PossibleKey}
use Rattle.granit_machine.specs.PossibleKeys.{fresh_bracket, fresh_key, is_of, is_stale}
use Rattle.granit_layout.specs.Rising.{KeysInOrder, KeyUpTo, KeyFrom, Rising, is_behind, is_from, key_not_before}
use Rattle.granit_layout.specs.Rising.{with_new, with_key, without_keys, ended_at, begun_at, is_near}
use Rattle.granit_layout.specs.declared.rising.KeyOrder.{KeyOrder}

-- ---- keys

then_none : (k : Option PossibleKey) → KeysInOrder k None
then_none None = tt
then_none (Some k) = tt

through : (a : Option PossibleKey) (b c : PossibleKey) → KeysInOrder a (Some b)
    → is_behind b.number b.start.place.index c ≡ true → KeysInOrder a (Some c)
through None b c p q = tt
through (Some a) b c p q = (grind (arith, nat_tests, p.0, q), grind (arith, nat_tests, p.1, q))

from_bounds : (number index : ℕ) (a : Option PossibleKey) (b : PossibleKey) → KeyUpTo number index a
    → is_behind number index b ≡ true → KeysInOrder a (Some b)
from_bounds number index None b p q = tt
from_bounds number index (Some a) b p q = (grind (arith, nat_tests, p.0, q), grind (arith, nat_tests, p.1, q))

further : (number index more last : ℕ) (a : Option PossibleKey) → number ≤ more → index ≤ last
    → KeyUpTo number index a → KeyUpTo more last a
further number index more last None p q u = tt
further number index more last (Some a) p q u = (omega arith, omega arith)

earlier : (number index less first : ℕ) (a : Option PossibleKey) → less ≤ number → first ≤ index
    → KeyFrom number index a → KeyFrom less first a
earlier number index less first None p q u = tt
earlier number index less first (Some a) p q u = (omega arith, omega arith)

going_on : (a old : Option PossibleKey) (new : PossibleKey) → KeysInOrder a old → key_not_before old new ≡ true
    → KeysInOrder a (Some new)
going_on a None new p q = absurd (true≢false (sym q))
going_on a (Some b) new p q = through a b new p q

-- ---- lists

at_set : (P : OpenBracket → Type 0) (bs : List OpenBracket) (i j : ℕ) (b d : OpenBracket) → j < length bs
    → (i ≡ j → P b) → ((i ≡ j → ⊥) → P (get_or bs i d)) → P (get_or (set bs j b) i d)
at_set P bs i j b d within same other =
    ⊎_elim
    (λ e. subst (λ n. P (get_or (set bs j b) n d)) (sym e)
    (subst P (sym (get_or-set_same bs j b d within)) (same e)))
    (λ n. rw (get_or-set_other bs j i b d n) (other n))
    (cases_eq i j)

-- a bracket more, with no key
pub pushed : (o : KeyOrder) (bs : List OpenBracket) (b : OpenBracket) → b.key ≡ None → Rising o bs
    → Rising o (bs ++ b ∷ [])
pushed o bs b none r =
    record {
      outer = λ i d first within.
          ⊎_elim
          (λ low. rw (get_or_append_left bs (b ∷ []) d i low) (r.outer i d first low))
          (λ last. let at : get_or (bs ++ b ∷ []) i d ≡ b = grind (arith, common_steps) in rw at none)
          (cases_lt i (length bs));
      order = λ told.
          all_pairs_push (λ a c. KeysInOrder a.key c.key) bs b (r.order told)
          (λ k d low. subst (λ key. KeysInOrder (get_or bs k d).key key) (sym none) (then_none _));
      behind = All-push (λ c. KeyUpTo o.number o.index c.key) bs b r.behind
          (subst (λ key. KeyUpTo o.number o.index key) (sym none) tt);
      before = All-push (λ c. KeyFrom o.least o.start c.key) bs b r.before
          (subst (λ key. KeyFrom o.least o.start key) (sym none) tt);
    }

-- a bracket less
pub popped : (o : KeyOrder) (bs : List OpenBracket) (b : OpenBracket) → Rising o (bs ++ b ∷ []) → Rising o bs
popped o bs b r =
    record {
      outer = λ i d first low.
          rw (← get_or_append_left bs (b ∷ []) d i low) (r.outer i d first (grind (arith, common_steps)));
      order = λ told i j d lt low.
          let at_i : get_or (bs ++ b ∷ []) i d ≡ get_or bs i d = get_or_append_left bs (b ∷ []) d i (omega arith) in
          let at_j : get_or (bs ++ b ∷ []) j d ≡ get_or bs j d = get_or_append_left bs (b ∷ []) d j low in
          rw (← at_i, ← at_j) (r.order told i j d lt (grind (arith, common_steps)));
      behind = λ k d low.
          rw (← get_or_append_left bs (b ∷ []) d k low) (r.behind k d (grind (arith, common_steps)));
      before = λ k d low.
          rw (← get_or_append_left bs (b ∷ []) d k low) (r.before k d (grind (arith, common_steps)));
    }

-- a bracket has no key any more
pub cleared : (o : KeyOrder) (bs : List OpenBracket) (j : ℕ) (b : OpenBracket) → j < length bs → b.key ≡ None
    → Rising o bs → Rising o (set bs j b)
cleared o bs j b within none r =
    let long : length (set bs j b) ≡ length bs = length-set bs j b in
    record {
      outer = λ i d first low.
          at_set (λ c. c.key ≡ None) bs i j b d within (λ e. none) (λ n. r.outer i d first (omega arith));
      order = λ told i k d lt low.
          at_set (λ a. KeysInOrder a.key (get_or (set bs j b) k d).key) bs i j b d within
          (λ e. subst (λ key. KeysInOrder key (get_or (set bs j b) k d).key) (sym none) tt)
          (λ n. at_set (λ c. KeysInOrder (get_or bs i d).key c.key) bs k j b d within
          (λ e. subst (λ key. KeysInOrder (get_or bs i d).key key) (sym none) (then_none _))
          (λ m. r.order told i k d lt (omega arith)));
      behind = All-set (λ c. KeyUpTo o.number o.index c.key) bs j b
          (subst (λ key. KeyUpTo o.number o.index key) (sym none) tt) r.behind;
      before = All-set (λ c. KeyFrom o.least o.start c.key) bs j b
          (subst (λ key. KeyFrom o.least o.start key) (sym none) tt) r.before;
    }

-- another key in the last bracket
renewed : (o : KeyOrder) (bs : List OpenBracket) (j : ℕ) (b : OpenBracket) (new : PossibleKey) → suc j ≡ length bs
    → b ≡ get_or bs j b → Rising o bs → Rising (with_new j b.key new o) (set bs j (record b { key = Some new }))
renewed o bs j b new last is r =
    let c : OpenBracket = record b { key = Some new } in
    let p = with_new j b.key new o in
    let long : length (set bs j c) ≡ length bs = length-set bs j c in
    let within : j < length bs = omega arith in
    let above : (i : ℕ) (d : OpenBracket) → p.rises ≡ true → i < j → KeysInOrder (get_or bs i d).key (Some new) =
    λ i d told lt.
    let parts = and_parts o.rises _ told in
    ⊎_elim
    (λ behind. from_bounds o.number o.index (get_or bs i d).key new (r.behind i d (omega arith)) behind)
    (λ on. going_on (get_or bs i d).key b.key new
    (subst (λ a. KeysInOrder (get_or bs i d).key a.key) (get_or_default bs j d b within ∙ sym is)
    (r.order parts.0 i j d lt within)) on)
    (or_cases _ _ parts.1) in
    record {
      outer = λ i d first low.
          rw (get_or-set_other bs j i c d (λ e. omega arith)) (r.outer i d (omega arith) (omega arith));
      order = λ told i k d lt low.
          rw (get_or-set_other bs j i c d (λ e. omega arith))
          (at_set (λ a. KeysInOrder (get_or bs i d).key a.key) bs k j c d within
          (λ e. above i d told (omega arith))
          (λ m. r.order (and_parts o.rises _ told).0 i k d lt (omega arith)));
      behind = All-set (λ a. KeyUpTo p.number p.index a.key) bs j c (omega arith, omega arith)
          (λ k d low. further o.number o.index p.number p.index (get_or bs k d).key (omega arith) (omega arith)
          (r.behind k d low));
      before = All-set (λ a. KeyFrom p.least p.start a.key) bs j c (omega arith, omega arith)
          (λ k d low. earlier o.least o.start p.least p.start (get_or bs k d).key (omega arith) (omega arith)
          (r.before k d low));
    }

pub keyed : (o : KeyOrder) (bs : List OpenBracket) (j : ℕ) (b : OpenBracket) (new : Option PossibleKey)
    → suc j ≡ length bs → b ≡ get_or bs j b → Rising o bs
    → Rising (with_key j b.key new o) (set bs j (record b { key = new }))
keyed o bs j b None last is r = cleared o bs j (record b { key = None }) (omega arith) refl r
keyed o bs j b (Some new) last is r = renewed o bs j b new last is r

-- ---- keys that reading has left behind

-- the first bracket that may hold a key holds none any more
pub passed : (o : KeyOrder) (bs : List OpenBracket) (b : OpenBracket) → b ≡ get_or bs o.first b → o.first < length bs
    → Rising o bs → Rising (record o { first = o.first + 1 }) (set bs o.first (record b { key = None }))
passed o bs b is within r =
    let rest = cleared o bs o.first (record b { key = None }) within refl r in
    record {
      outer = λ i d first low.
          at_set (λ c. c.key ≡ None) bs i o.first (record b { key = None }) d within (λ e. refl)
          (λ n. r.outer i d (omega arith) (rw (← length-set bs o.first (record b { key = None })) low));
      order = rest.order;
      behind = rest.behind;
      before = rest.before;
    }

fresh_later : (o : OptionsData) (m : Mark) (k l : PossibleKey) → k.start.place.index ≤ l.start.place.index
    → is_stale o true m k ≡ false → is_stale o true m l ≡ false
unfolding is_stale
fresh_later o m k l later fresh = grind (arith, nat_tests, later, fresh)

stays_fresh : (o : OptionsData) (m : Mark) (a : PossibleKey) (b : Option PossibleKey) → KeysInOrder (Some a) b
    → is_stale o true m a ≡ false → fresh_key o true m b ≡ b
stays_fresh o m a None p e = refl
stays_fresh o m a (Some l) p e = rw (fresh_later o m a l p.1 e) refl

same_bracket : (o : OptionsData) (m : Mark) (b : OpenBracket) → fresh_key o true m b.key ≡ b.key
    → fresh_bracket o m b ≡ b
same_bracket o m b e = ap (λ (k : Option PossibleKey). record b { key = k }) e

-- what stands at an index stays, so the list does
all_stay : (o : OptionsData) (m : Mark) (bs : List OpenBracket)
    → ((i : ℕ) (d : OpenBracket) → i < length bs → fresh_key o true m (get_or bs i d).key ≡ (get_or bs i d).key)
    → map (fresh_bracket o m) bs ≡ bs
all_stay o m [] same = refl
all_stay o m (b ∷ bs) same =
    ext_get_or b (map (fresh_bracket o m) (b ∷ bs)) (b ∷ bs) (length-map (b ∷ bs) (fresh_bracket o m))
    (λ i low.
    let within : i < length (b ∷ bs) = rw (← length-map (b ∷ bs) (fresh_bracket o m)) low in
    get_or-map (fresh_bracket o m) (b ∷ bs) i b b within
    ∙ same_bracket o m (get_or (b ∷ bs) i b) (same i b within))

none_stays : (o : OptionsData) (m : Mark) (k : Option PossibleKey) → k ≡ None → fresh_key o true m k ≡ k
none_stays o m k e = subst (λ a. fresh_key o true m a ≡ a) (sym e) refl

-- no bracket holds a key
pub none_left : (o : OptionsData) (m : Mark) (k : KeyOrder) (bs : List OpenBracket) → Rising k bs → length bs ≤ k.first
    → map (fresh_bracket o m) bs ≡ bs
none_left o m k bs r all =
    all_stay o m bs (λ i d within. none_stays o m (get_or bs i d).key (r.outer i d (omega arith) within))

-- the outermost key is fresh, so each is
pub rest_fresh : (o : OptionsData) (m : Mark) (k : KeyOrder) (bs : List OpenBracket) (b : OpenBracket)
    (key : PossibleKey) → Rising k bs → k.rises ≡ true → k.first < length bs → b ≡ get_or bs k.first b
    → b.key ≡ Some key → is_stale o true m key ≡ false → map (fresh_bracket o m) bs ≡ bs
rest_fresh o m k bs b key r rises within is holds fresh =
    all_stay o m bs
    (λ i d low.
    let first : (get_or bs k.first d).key ≡ Some key =
    ap (λ (c : OpenBracket). c.key) (get_or_default bs k.first d b within ∙ sym is) ∙ holds in
    ⊎_elim
    (λ before. none_stays o m (get_or bs i d).key (r.outer i d before low))
    (λ behind. ⊎_elim
    (λ at. stays_fresh o m key (get_or bs i d).key
    (subst (λ n. KeysInOrder (Some key) (get_or bs n d).key) (sym at)
    (subst (λ a. KeysInOrder (Some key) a) (sym first) (omega arith, omega arith))) fresh)
    (λ after. stays_fresh o m key (get_or bs i d).key
    (subst (λ a. KeysInOrder a (get_or bs i d).key) first (r.order rises k.first i d (omega arith) low)) fresh)
    (cases_eq i k.first))
    (cases_lt i k.first))

-- the first bracket that may hold a key holds one that stays
pub outermost_stays : (o : OptionsData) (m : Mark) (k : KeyOrder) (bs : List OpenBracket) (b : OpenBracket)
    → Rising k bs → k.rises ≡ true → k.first < length bs → b ≡ get_or bs k.first b
    → is_some (fresh_key o true m b.key) ≡ true → map (fresh_bracket o m) bs ≡ bs
outermost_stays o m k bs b r rises within is some = on b.key refl some
  where
    on : (a : Option PossibleKey) → b.key ≡ a → is_some (fresh_key o true m a) ≡ true
        → map (fresh_bracket o m) bs ≡ bs
    on None e s = absurd (true≢false (sym s))
    on (Some key) e s = by (is_stale o true m key) refl s
      where
        by : (w : Bool) → is_stale o true m key ≡ w → is_some (if w then None else Some key) ≡ true
            → map (fresh_bracket o m) bs ≡ bs
        by true f t = absurd (true≢false (sym t))
        by false f t = rest_fresh o m k bs b key r rises within is e f

none_of : {A : Type 0} (a : Option A) → is_some a ≡ false → a ≡ None
none_of None e = refl
none_of (Some x) e = absurd (true≢false e)

-- or one that goes, or none
pub outermost_goes : (o : OptionsData) (m : Mark) (bs : List OpenBracket) (i : ℕ) (b d : OpenBracket)
    → i < length bs → b ≡ get_or bs i b → is_some (fresh_key o true m b.key) ≡ false
    → fresh_bracket o m (record b { key = None }) ≡ fresh_bracket o m (get_or bs i d)
outermost_goes o m bs i b d within is none =
    sym (ap (fresh_bracket o m) (get_or_default bs i d b within ∙ sym is)
    ∙ ap (λ (k : Option PossibleKey). record b { key = k }) (none_of (fresh_key o true m b.key) none))

-- what all are freshened to is in order too
fresh_order : (o : OptionsData) (m : Mark) (a b : Option PossibleKey) → KeysInOrder a b
    → KeysInOrder (fresh_key o true m a) (fresh_key o true m b)
fresh_order o m None b p = tt
fresh_order o m (Some k) None p = then_none (fresh_key o true m (Some k))
fresh_order o m (Some k) (Some l) p = on (is_stale o true m k) (is_stale o true m l)
  where
    on : (v w : Bool) → KeysInOrder (if v then None else Some k) (if w then None else Some l)
    on true w = tt
    on false true = tt
    on false false = p

fresh_up_to : (o : OptionsData) (m : Mark) (number index : ℕ) (a : Option PossibleKey) → KeyUpTo number index a
    → KeyUpTo number index (fresh_key o true m a)
fresh_up_to o m number index None p = tt
fresh_up_to o m number index (Some k) p = on (is_stale o true m k)
  where
    on : (v : Bool) → KeyUpTo number index (if v then None else Some k)
    on true = tt
    on false = p

fresh_from : (o : OptionsData) (m : Mark) (number index : ℕ) (a : Option PossibleKey) → KeyFrom number index a
    → KeyFrom number index (fresh_key o true m a)
fresh_from o m number index None p = tt
fresh_from o m number index (Some k) p = on (is_stale o true m k)
  where
    on : (v : Bool) → KeyFrom number index (if v then None else Some k)
    on true = tt
    on false = p

pub freshened : (o : OptionsData) (m : Mark) (k : KeyOrder) (bs : List OpenBracket) → Rising k bs
    → Rising k (map (fresh_bracket o m) bs)
freshened o m k bs r =
    let long : length (map (fresh_bracket o m) bs) ≡ length bs = length-map bs (fresh_bracket o m) in
    record {
      outer = λ i d first low.
          rw (get_or-map (fresh_bracket o m) bs i d d (omega arith))
          (ap (fresh_key o true m) (r.outer i d first (omega arith)));
      order = λ told i j d lt low.
          rw (
            get_or-map (fresh_bracket o m) bs i d d (omega arith),
            get_or-map (fresh_bracket o m) bs j d d (omega arith),
          )
          (fresh_order o m (get_or bs i d).key (get_or bs j d).key (r.order told i j d lt (omega arith)));
      behind = λ i d low.
          rw (get_or-map (fresh_bracket o m) bs i d d (omega arith))
          (fresh_up_to o m k.number k.index (get_or bs i d).key (r.behind i d (omega arith)));
      before = λ i d low.
          rw (get_or-map (fresh_bracket o m) bs i d d (omega arith))
          (fresh_from o m k.least k.start (get_or bs i d).key (r.before i d (omega arith)));
    }

-- ---- fewer keys are told

no_key_from : (number index : ℕ) (a : Option PossibleKey) → a ≡ None → KeyFrom number index a
no_key_from number index a e = subst (λ k. KeyFrom number index k) (sym e) tt

-- no bracket holds a key
all_empty : (o : KeyOrder) (bs : List OpenBracket)
    → ((i : ℕ) (d : OpenBracket) → i < length bs → (get_or bs i d).key ≡ None) → Rising o bs
    → Rising (without_keys o) bs
all_empty o bs none r =
    record {
      outer = λ i d first low. none i d low;
      order = r.order;
      behind = r.behind;
      before = λ i d low. no_key_from _ _ (get_or bs i d).key (none i d low);
    }

-- none but so many of the outermost brackets holds a key
pub ended : (o : KeyOrder) (bs : List OpenBracket) (depth : ℕ)
    → ((i : ℕ) (d : OpenBracket) → depth ≤ i → i < length bs → (get_or bs i d).key ≡ None) → Rising o bs
    → Rising (ended_at depth o) bs
ended o bs depth none r = by (nat_le depth o.first) refl
  where
    by : (b : Bool) → nat_le depth o.first ≡ b → Rising (if b then without_keys o else o) bs
    by false e = r
    by true e =
        all_empty o bs
        (λ i d low.
        ⊎_elim
        (λ first. r.outer i d first low)
        (λ behind. none i d (grind (arith, nat_tests, e, behind)) low)
        (cases_lt i o.first)) r

-- the last bracket holds none any more
pub forgotten : (o : KeyOrder) (bs : List OpenBracket) (j : ℕ) (b : OpenBracket) → suc j ≡ length bs → b.key ≡ None
    → Rising o bs → Rising (ended_at j o) (set bs j b)
forgotten o bs j b last none r =
    let long : length (set bs j b) ≡ length bs = length-set bs j b in
    ended o (set bs j b) j
    (λ i d from low. at_set (λ c. c.key ≡ None) bs i j b d (omega arith) (λ e. none)
    (λ apart. let at : i ≡ j = omega arith in absurd (apart at)))
    (cleared o bs j b (omega arith) none r)

-- the first bracket that may hold a key holds this one, so none begins before it
pub begun : (o : KeyOrder) (bs : List OpenBracket) (b : OpenBracket) → b ≡ get_or bs o.first b
    → o.first < length bs → o.rises ≡ true → Rising o bs → Rising (begun_at b.key o) bs
begun o bs b is within rises r = on b.key refl
  where
    from : (k : PossibleKey) (a : Option PossibleKey) → KeysInOrder (Some k) a
        → KeyFrom k.number k.start.place.index a
    from k None p = tt
    from k (Some l) p = p

    on : (a : Option PossibleKey) → b.key ≡ a → Rising (begun_at a o) bs
    on None e = r
    on (Some k) e =
        let first : (d : OpenBracket) → (get_or bs o.first d).key ≡ Some k =
        λ d. ap (λ (c : OpenBracket). c.key) (get_or_default bs o.first d b within ∙ sym is) ∙ e in
        record {
          outer = r.outer;
          order = r.order;
          behind = r.behind;
          before = λ i d low.
              ⊎_elim
              (λ outside. no_key_from _ _ (get_or bs i d).key (r.outer i d outside low))
              (λ behind. ⊎_elim
              (λ at. subst (λ n. KeyFrom k.number k.start.place.index (get_or bs n d).key) (sym at)
              (subst (λ c. KeyFrom k.number k.start.place.index c) (sym (first d)) (omega arith, omega arith)))
              (λ after. from k (get_or bs i d).key
              (subst (λ c. KeysInOrder c (get_or bs i d).key) (first d)
              (r.order rises o.first i d (omega arith) low)))
              (cases_eq i o.first))
              (cases_lt i o.first);
        }

near_fresh : (o : OptionsData) (m : Mark) (k : KeyOrder) (a : PossibleKey) → k.start ≤ a.start.place.index
    → is_near o m k ≡ true → is_stale o true m a ≡ false
unfolding is_stale
near_fresh o m k a from near = grind (arith, nat_tests, from, near)

near_stays : (o : OptionsData) (m : Mark) (k : KeyOrder) (a : Option PossibleKey) → KeyFrom k.least k.start a
    → is_near o m k ≡ true → fresh_key o true m a ≡ a
near_stays o m k None p near = refl
near_stays o m k (Some a) p near = rw (near_fresh o m k a p.1 near) refl

-- no key begins so far before a place that it was left behind
pub all_near : (o : OptionsData) (m : Mark) (k : KeyOrder) (bs : List OpenBracket) → Rising k bs
    → is_near o m k ≡ true → map (fresh_bracket o m) bs ≡ bs
all_near o m k bs r near = all_stay o m bs (λ i d low. near_stays o m k (get_or bs i d).key (r.before i d low) near)

-- ---- the lexeme of a number

-- each key begins behind it
pub all_later : (number : ℕ) (k : KeyOrder) (bs : List OpenBracket) → Rising k bs → nat_le k.least number ≡ false
    → list_any (λ c. is_of number c.key) bs ≡ false
all_later number k bs r later =
    list_any_none (λ (c : OpenBracket). is_of number c.key) bs (λ i d low. other (get_or bs i d).key (r.before i d low))
  where
    other : (a : Option PossibleKey) → KeyFrom k.least k.start a → is_of number a ≡ false
    other None p = refl
    other (Some a) p = grind (arith, nat_tests, later, p.0)

-- a key that begins with it, or with a later one, settles it
pub none_behind : (number : ℕ) (k : KeyOrder) (bs : List OpenBracket) (i : ℕ) (b : OpenBracket)
    → Rising k bs → k.rises ≡ true → i < length bs → b ≡ get_or bs i b → is_from number b.key ≡ true
    → ((j : ℕ) (d : OpenBracket) → j < i → j < length bs → is_of number (get_or bs j d).key ≡ false)
    → list_any (λ c. is_of number c.key) bs ≡ is_of number b.key
none_behind number k bs i b r rises within is from before = on (is_of number b.key) refl
  where
    same : (d : OpenBracket) → (get_or bs i d).key ≡ b.key
    same d = ap (λ (c : OpenBracket). c.key) (get_or_default bs i d b within ∙ sym is)

    later : (a c : Option PossibleKey) → KeysInOrder a c → is_from number a ≡ true → is_of number a ≡ false
        → is_of number c ≡ false
    later a None p f n = refl
    later None (Some l) p f n = absurd (true≢false (sym f))
    later (Some j) (Some l) p f n = grind (arith, nat_tests, p.0, f, n)

    on : (v : Bool) → is_of number b.key ≡ v → list_any (λ c. is_of number c.key) bs ≡ v
    on true e =
        list_any_at (λ (c : OpenBracket). is_of number c.key) bs i b within
        (ap (is_of number) (same b) ∙ e)
    on false e =
        list_any_none (λ (c : OpenBracket). is_of number c.key) bs
        (λ j d low.
        ⊎_elim
        (λ less. before j d less low)
        (λ more. ⊎_elim
        (λ at. subst (λ n. is_of number (get_or bs n d).key ≡ false) (sym at) (ap (is_of number) (same d) ∙ e))
        (λ apart. later b.key (get_or bs j d).key
        (subst (λ a. KeysInOrder a (get_or bs j d).key) (same d) (r.order rises i j d (omega arith) low)) from e)
        (cases_eq j i))
        (cases_lt j i))

pub none_at_all : (number : ℕ) (bs : List OpenBracket)
    → ((j : ℕ) (d : OpenBracket) → j < length bs → is_of number (get_or bs j d).key ≡ false)
    → list_any (λ c. is_of number c.key) bs ≡ false
none_at_all number bs none = list_any_none (λ (c : OpenBracket). is_of number c.key) bs none

-- a key that doesn't reach a lexeme doesn't begin with it
pub not_of : (number : ℕ) (k : Option PossibleKey) → is_from number k ≡ false → is_of number k ≡ false
not_of number None e = refl
not_of number (Some k) e = grind (arith, nat_tests, e)
