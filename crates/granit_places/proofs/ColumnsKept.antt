-- The columns that a reader keeps are the open ones of the lexemes before it.
use Rattle.std.proofs.Common.{◌≡◌, ℕ, suc, ◌<◌, ◌==◌, Bool, true, false, List, [], ◌∷◌, drop, map, Option, Some, None}
use Rattle.std.proofs.Common.{◌⊎◌, inl, inr, refl, sym, ap, ◌∙◌, subst, arith}
use Rattle.std.specs.Prelude.{nat_lt, if◌then◌else◌}
use Rattle.std.proofs.lemmas.Bool.Decides.{nat_tests}
use Rattle.granit_base.specs.Place.{Mark}
use Rattle.granit_lexemes.specs.Lexeme.{LexemeKind, Directive, DocumentStart, DocumentEnd, StreamEnd, Colon, KeyStart}
use Rattle.granit_lexemes.specs.Lexeme.{Lexeme}
use Rattle.granit_machine.specs.Columns.{widened, chosen_columns, up_to_column}
use Rattle.granit_machine.specs.Laid.{Laid, innermost_column, is_column}
use Rattle.granit_lexemes.specs.declared.layout.PossibleKey.{PossibleKey}
use Rattle.granit_lexemes.specs.declared.layout.OpenColumn.{OpenColumn}
use Rattle.granit_machine.specs.PossibleKeys.{start_of_key}
use Rattle.granit_language.specs.OpenColumns.{start_column, EntryOf, is_outer_kind, Has, AtMost, Falls, columns_of}
use Rattle.granit_language.specs.OpenColumns.{ColumnsSay}

abbrev column_in : OpenColumn → ℕ
column_in x = x.column

abbrev pub chosen : Bool → List ℕ → List ℕ → List ℕ
chosen true a b = a
chosen false a b = b

abbrev pub pop : ℕ → List ℕ → List ℕ
pop k [] = []
pop k (n ∷ ns) = chosen (nat_lt k n) (pop k ns) (n ∷ ns)

pub popped : (k : ℕ) (cs : List OpenColumn) → map column_in (up_to_column k cs) ≡ pop k (map column_in cs)
popped k [] = refl
popped k (c ∷ cs) = on (nat_lt k c.column) (popped k cs)
  where
    on : (v : Bool) → map column_in (up_to_column k cs) ≡ pop k (map column_in cs)
        → map column_in (chosen_columns v (up_to_column k cs) (c ∷ cs))
        ≡ chosen v (pop k (map column_in cs)) (map column_in (c ∷ cs))
    on true e = e
    on false e = refl

pub all_widened : (cs : List OpenColumn) → map column_in (map widened cs) ≡ map column_in cs
all_widened [] = refl
all_widened (c ∷ cs) = ap (λ (ns : List ℕ). c.column ∷ ns) (all_widened cs)

abbrev pub unless_top : ℕ → List ℕ → List ℕ
unless_top c [] = []
unless_top c (n ∷ ns) = chosen (n == c) ns (n ∷ ns)

abbrev pub push : ℕ → List ℕ → List ℕ
push c ns = c ∷ unless_top c ns

pub pushed : (c : ℕ) (cs : List OpenColumn) → map column_in
    (if is_column (innermost_column cs) c then drop 1 cs else cs) ≡ unless_top c (map column_in cs)
pushed c [] = refl
pushed c (x ∷ xs) = on (x.column == c)
  where
    on : (v : Bool) → map column_in (if v then xs else x ∷ xs) ≡ chosen v (map column_in xs) (map column_in (x ∷ xs))
    on true = refl
    on false = refl

-- ---- lists that fall

pub under : (a n c : ℕ) → nat_lt a n ≡ false → nat_lt n c ≡ false → nat_lt a c ≡ false
under a n c p q = grind (arith, nat_tests, p, q)

pub at_most_has : (a c : ℕ) (ns : List ℕ) → AtMost a ns → Has c ns → nat_lt a c ≡ false
at_most_has a c [] p h = absurd h
at_most_has a c (n ∷ ns) p (inl e) = subst (λ c. nat_lt a c ≡ false) e p.0
at_most_has a c (n ∷ ns) p (inr h) = at_most_has a c ns p.1 h

pub at_most_more : (a n : ℕ) (ns : List ℕ) → nat_lt a n ≡ false → AtMost n ns → AtMost a ns
at_most_more a n [] e p = tt
at_most_more a n (m ∷ ns) e p = (under a n m e p.0, at_most_more a n ns e p.1)

pop_has : (k c : ℕ) (ns : List ℕ) → nat_lt k c ≡ false → Has c ns → Has c (pop k ns)
pop_has k c [] e h = h
pop_has k c (n ∷ ns) e h = on (nat_lt k n) refl (pop_has k c ns e) h
  where
    on : (v : Bool) → nat_lt k n ≡ v → (Has c ns → Has c (pop k ns)) → Has c (n ∷ ns)
        → Has c (chosen v (pop k ns) (n ∷ ns))
    on true f more (inl p) = absurd (let g : nat_lt k c ≡ true = subst (λ c. nat_lt k c ≡ true) p f in cc)
    on true f more (inr p) = more p
    on false f more p = p

has_pop : (k c : ℕ) (ns : List ℕ) → Falls ns → Has c (pop k ns) → (nat_lt k c ≡ false) × Has c ns
has_pop k c [] f h = absurd h
has_pop k c (n ∷ ns) f h = on (nat_lt k n) refl (has_pop k c ns f.1) h
  where
    on : (v : Bool) → nat_lt k n ≡ v → (Has c (pop k ns) → (nat_lt k c ≡ false) × Has c ns)
        → Has c (chosen v (pop k ns) (n ∷ ns)) → (nat_lt k c ≡ false) × Has c (n ∷ ns)
    on true e more p = let r = more p in (r.0, inr r.1)
    on false e more (inl p) = (subst (λ c. nat_lt k c ≡ false) p e, inl p)
    on false e more (inr p) = (under k n c e (at_most_has n c ns f.0 p), inr p)

pub pop_at_most : (a k : ℕ) (ns : List ℕ) → AtMost a ns → AtMost a (pop k ns)
pop_at_most a k [] p = tt
pop_at_most a k (n ∷ ns) p = on (nat_lt k n) (pop_at_most a k ns p.1)
  where
    on : (v : Bool) → AtMost a (pop k ns) → AtMost a (chosen v (pop k ns) (n ∷ ns))
    on true q = q
    on false q = p

pub pop_below : (k : ℕ) (ns : List ℕ) → Falls ns → AtMost k (pop k ns)
pop_below k [] f = tt
pop_below k (n ∷ ns) f = on (nat_lt k n) refl (pop_below k ns f.1)
  where
    on : (v : Bool) → nat_lt k n ≡ v → AtMost k (pop k ns) → AtMost k (chosen v (pop k ns) (n ∷ ns))
    on true e q = q
    on false e q = (e, at_most_more k n ns e f.0)

pop_falls : (k : ℕ) (ns : List ℕ) → Falls ns → Falls (pop k ns)
pop_falls k [] f = tt
pop_falls k (n ∷ ns) f = on (nat_lt k n) (pop_falls k ns f.1)
  where
    on : (v : Bool) → Falls (pop k ns) → Falls (chosen v (pop k ns) (n ∷ ns))
    on true q = q
    on false q = f

push_falls : (c : ℕ) (ns : List ℕ) → AtMost c ns → Falls ns → Falls (push c ns)
push_falls c [] p f = (tt, tt)
push_falls c (n ∷ ns) p f = on (n == c)
  where
    on : (v : Bool) → Falls (c ∷ chosen v ns (n ∷ ns))
    on true = (p.1, f.1)
    on false = (p, f)

has_push : (c d : ℕ) (ns : List ℕ) → Has d (push c ns) → (c ≡ d) ⊎ Has d ns
has_push c d ns (inl e) = inl e
has_push c d [] (inr h) = absurd h
has_push c d (n ∷ ns) (inr h) = inr (on (n == c) h)
  where
    on : (v : Bool) → Has d (chosen v ns (n ∷ ns)) → Has d (n ∷ ns)
    on true h = inr h
    on false h = h

push_has : (c d : ℕ) (ns : List ℕ) → (c ≡ d) ⊎ Has d ns → Has d (push c ns)
push_has c d ns (inl e) = inl e
push_has c d [] (inr h) = absurd h
push_has c d (n ∷ ns) (inr h) = on (n == c) refl h
  where
    on : (v : Bool) → (n == c) ≡ v → Has d (n ∷ ns) → Has d (c ∷ chosen v ns (n ∷ ns))
    on true e (inl p) = inl (let q : n ≡ c = grind (arith, nat_tests, e) in sym q ∙ p)
    on true e (inr p) = inr p
    on false e p = inr p

-- ---- one lexeme

abbrev pub SameKey : Option PossibleKey → Option PossibleKey → Type 0
SameKey None old = Unit {0}
SameKey (Some k) old = (j : PossibleKey) × (old ≡ Some j) × (k.number ≡ j.number) × (k.start ≡ j.start)

abbrev pub NewKey : Lexeme → Option PossibleKey → Type 0
NewKey l None = ⊥
NewKey l (Some k) = (k.number ≡ l.number) × (k.start ≡ l.start)

-- what a lexeme makes of the columns and of the possible key outside flow
pub data Change (s : Laid) (l : Lexeme) (after : Laid) : Type 0 where
  nothing : l.in_flow ≡ true → columns_of after ≡ columns_of s → SameKey after.key s.key → Change s l after
  all_end : l.in_flow ≡ false → is_outer_kind l.kind ≡ true → columns_of after ≡ [] → after.key ≡ None
      → Change s l after
  passes : l.in_flow ≡ false → is_outer_kind l.kind ≡ false
      → ((column c : ℕ) (ls : List Lexeme) → EntryOf l.kind l.key column ls c → ⊥)
      → columns_of after ≡ pop l.start.place.column (columns_of s)
      → SameKey after.key s.key ⊎ NewKey l after.key → Change s l after
  own : l.in_flow ≡ false → is_outer_kind l.kind ≡ false
      → ((c : ℕ) (ls : List Lexeme) → EntryOf l.kind l.key l.start.place.column ls c → l.start.place.column ≡ c)
      → ((c : ℕ) (ls : List Lexeme) → l.start.place.column ≡ c → EntryOf l.kind l.key l.start.place.column ls c)
      → columns_of after ≡ push l.start.place.column (pop l.start.place.column (columns_of s)) → after.key ≡ None
      → Change s l after
  keyed : (k : PossibleKey) → l.in_flow ≡ false → l.kind ≡ Colon → l.key ≡ Some (start_of_key k) → s.key ≡ Some k
      → columns_of after ≡ push k.start.place.column (pop l.start.place.column (columns_of s)) → after.key ≡ None
      → Change s l after

abbrev pub KeySays : List Lexeme → Laid → Option PossibleKey → Type 0
KeySays ls b None = Unit {0}
KeySays ls b (Some k) = (start_column k.number ls ≡ Some k.start.place.column)
    × AtMost k.start.place.column (columns_of b) × (k.number < b.number)

pub record OpenSays (ls : List Lexeme) (b : Laid) : Type 0 where
  pub columns : ColumnsSay ls b
  pub key : KeySays ls b b.key

stream_entry : (kind : LexemeKind) (key : Option KeyStart) (column c : ℕ) (ls : List Lexeme) → is_outer_kind kind ≡ true
    → EntryOf kind key column ls c → ⊥
stream_entry (Directive d) key column c ls e p = p
stream_entry DocumentStart key column c ls e p = p
stream_entry DocumentEnd key column c ls e p = p
stream_entry StreamEnd key column c ls e p = p
stream_entry kind key column c ls e p = absurd cc

-- a key that was there is still told, behind a lexeme of another number
key_on : (l : Lexeme) (ls : List Lexeme) (n c : ℕ) → (l.number == n) ≡ false → start_column n ls ≡ Some c
    → start_column n (l ∷ ls) ≡ Some c
key_on l ls n c e p = ap (λ v. if v then Some l.start.place.column else start_column n ls) e ∙ p

key_here : (l : Lexeme) (ls : List Lexeme) (n : ℕ) → l.number ≡ n → start_column n (l ∷ ls) ≡ Some l.start.place.column
key_here l ls n e = let f : (l.number == n) ≡ true = grind (arith, nat_tests, e) in ap
    (λ v. if v then Some l.start.place.column else start_column n ls) f

module _ (ls : List Lexeme) (s : Laid) (l : Lexeme) (after : Laid) (m : OpenSays ls s) (at : l.number ≡ s.number)
    (next : after.number ≡ suc s.number) where
  -- a key that stays
  same_says : (key : Option PossibleKey) → SameKey key s.key
      → ((a : ℕ) → AtMost a (columns_of s) → AtMost a (columns_of after)) → KeySays (l ∷ ls) after key
  same_says None p less = tt
  same_says (Some k) (j, old, n, e) less =
      let q : KeySays ls s (Some j) = subst (KeySays ls s) old m.key in
      let below = q.2 in
      let other : (l.number == k.number) ≡ false = grind (arith, nat_tests, at, n, below) in
      let column : j.start.place.column ≡ k.start.place.column = ap (λ (m : Mark). m.place.column) (sym e) in (
        key_on l ls k.number k.start.place.column other
            (ap (λ n. start_column n ls) n ∙ q.0 ∙ ap (λ (c : ℕ). Some c) column),
        less k.start.place.column
            (subst (λ c. AtMost c (columns_of s)) column q.1),
        omega (arith, n, below, next),
      )

  new_says : (key : Option PossibleKey) → NewKey l key → AtMost l.start.place.column (columns_of after)
      → KeySays (l ∷ ls) after key
  new_says None p less = absurd p
  new_says (Some k) p less =
      let column : l.start.place.column ≡ k.start.place.column = ap (λ (m : Mark). m.place.column) (sym p.1) in (
        key_here l ls k.number (sym p.0) ∙ ap (λ (c : ℕ). Some c) column,
        subst (λ c. AtMost c (columns_of after)) column
            less,
        let n = p.0 in omega (arith, n, at, next),
      )

  no_key : after.key ≡ None → KeySays (l ∷ ls) after after.key
  no_key e = subst (KeySays (l ∷ ls) after) (sym e) tt

  abbrev column : ℕ
  column = l.start.place.column

  clash : {A : Type 0} (v : Bool) → v ≡ true → v ≡ false → A
  clash v e f = absurd cc

  pub changed : Change s l after → OpenSays (l ∷ ls) after
  changed (nothing flow e k) = record {
    columns = record {
      are_open = λ c h. inr (λ f. clash l.in_flow flow f, m.columns.are_open c (subst (Has c) e h));
      are_kept = λ c p. elim p [
        | inl q ↦ clash l.in_flow flow q.0
        | inr q ↦ subst (Has c) (sym e)
            (m.columns.are_kept c q.1)
      ];
      fall = subst Falls (sym e) m.columns.fall;
    };
    key = same_says after.key k (λ a p. subst (AtMost a) (sym e) p);
  }
  changed (all_end flow stream e k) = record {
    columns = record {
      are_open = λ c h. absurd (subst (Has c) e h);
      are_kept = λ c p. elim p [
        | inl q ↦ absurd (stream_entry l.kind l.key column c ls stream q.1)
        | inr q ↦ clash
            (is_outer_kind l.kind) stream (q.0 flow).0
      ];
      fall = subst Falls (sym e) tt;
    };
    key = no_key k;
  }
  changed (passes flow stream none e k) = record {
    columns = record {
      are_open = λ c h. let r = has_pop column c (columns_of s) m.columns.fall (subst (Has c) e h) in inr
          (λ f. (stream, r.0), m.columns.are_open c r.1);
      are_kept = λ c p. elim p [
        | inl q ↦ absurd (none column c ls q.1)
        | inr q ↦ subst (Has c) (sym e)
            (pop_has column c (columns_of s) (q.0 flow).1 (m.columns.are_kept c q.1))
      ];
      fall = subst Falls (sym e) (pop_falls column (columns_of s) m.columns.fall);
    };
    key = elim k [
      | inl p ↦ same_says after.key p (λ a q. subst (AtMost a) (sym e) (pop_at_most a column (columns_of s) q))
      | inr p ↦ new_says after.key p (subst (AtMost column) (sym e) (pop_below column (columns_of s) m.columns.fall))
    ];
  }
  changed (own flow stream is here e k) = record {
    columns = record {
      are_open = λ c h. elim (has_push column c (pop column (columns_of s)) (subst (Has c) e h)) [
        | inl p ↦ inl (flow, here c ls p)
        | inr p ↦ let r = has_pop column c (columns_of s) m.columns.fall p in inr
            (λ f. (stream, r.0), m.columns.are_open c r.1)
      ];
      are_kept = λ c p. subst (Has c) (sym e)
          (push_has column c (pop column (columns_of s))
          (elim p [
            | inl q ↦ inl (is c ls q.1)
            | inr q ↦ inr
                (pop_has column c (columns_of s) (q.0 flow).1 (m.columns.are_kept c q.1))
          ]));
      fall = subst Falls (sym e) (push_falls column (pop column (columns_of s))
          (pop_below column (columns_of s) m.columns.fall) (pop_falls column (columns_of s) m.columns.fall));
    };
    key = no_key k;
  }
  changed (keyed k flow colon key old e none) =
      let q : KeySays ls s (Some k) = subst (KeySays ls s) old m.key in
      let c0 = k.start.place.column in
      let stream : is_outer_kind l.kind ≡ false = ap is_outer_kind colon in
      record {
        columns = record {
          are_open = λ c h. elim (has_push c0 c (pop column (columns_of s)) (subst (Has c) e h)) [
            | inl p ↦ inl (
              flow,
              subst (λ kind. EntryOf kind l.key column ls c) (sym colon)
                  (subst (λ key. EntryOf Colon key column ls c) (sym key) (q.0 ∙ ap (λ (c : ℕ). Some c) p)),
            )
            | inr p ↦ let r = has_pop column c (columns_of s) m.columns.fall p in inr
                (λ f. (stream, r.0), m.columns.are_open c r.1)
          ];
          are_kept = λ c p. subst (Has c) (sym e) (push_has c0 c (pop column (columns_of s)) (elim p [
            | inl r ↦ inl (let g : start_column k.number ls
                ≡ Some c = subst (λ key. EntryOf Colon key column ls c) key
                (subst (λ kind. EntryOf kind l.key column ls c) colon r.1) in let f = q.0 in cc)
            | inr r ↦ inr (pop_has column c (columns_of s) (r.0 flow).1 (m.columns.are_kept c r.1))
          ]));
          fall = subst Falls (sym e) (push_falls c0 (pop column (columns_of s))
              (pop_at_most c0 column (columns_of s) q.1) (pop_falls column (columns_of s) m.columns.fall));
        };
        key = no_key none;
      }
