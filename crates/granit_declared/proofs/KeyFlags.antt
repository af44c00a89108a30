-- A lexeme is flagged exactly where a simple key begins with it.
use Rattle.std.proofs.Common.{◌≡◌, ℕ, suc, ◌<◌, Bool, true, false, List, [], ◌∷◌, length, Option, Some, None}
use Rattle.std.proofs.Common.{◌⊎◌, inl, inr, refl, sym, ap, ◌∙◌, subst, arith}
use Rattle.std.proofs.lemmas.Bool.{eqb-true}
use Rattle.std.specs.Bool.{Decides}
use Rattle.granit_error.specs.OptionsData.{OptionsData}
use Rattle.granit_language.specs.Fitting.{Role, OfNode, Opens, Closes, Keyed, Other, role_of, with_inner_key}
use Rattle.granit_language.specs.Fitting.{outer_keys, without_inner_key, keys_behind, is_inner_key, role_fits}
use Rattle.granit_language.specs.Fitting.{ItemKeysFit}
use Rattle.granit_language.specs.KeyRuns.{Run, MayBeKey, too_far, HasKey, NoKey, no_run, no_key, ColonSays}
use Rattle.granit_language.specs.KeyRuns.{ColonsSay}
use Rattle.granit_language.specs.OpenColumns.{Has}
use Rattle.granit_language.specs.Reached.{Reached}
use Rattle.granit_lexemes.specs.Here.{start_of}
use Rattle.granit_lexemes.specs.Lexeme.{LexemeKind, Colon, KeyStart, Lexeme, Item, OfLexeme, OfComment}
use Rattle.granit_machine.specs.Lexing.{is_nearest, others, and_key, flag_lexeme, flagging}
use Rattle.granit_machine.specs.Lexing.{flagged}
use Rattle.granit_machine.specs.ReaderState.{ReaderState, reader_start}
pub use Rattle.granit_before.proofs.Numbered.{keys_fit}
use Rattle.granit_key_runs.proofs.RunsOnce.{run_once, none_ends}
use Rattle.granit_key_runs.proofs.RunsWhole.{colons_said}
use Rattle.granit_before.proofs.Numbered.{Bears, ItemsBear, one_end, run_ends_in, ends_numbered, items_bear}
use Rattle.granit_before.specs.HeldKeys.{EndsIn, all_of_it, behind_one}
use Rattle.granit_before.specs.KeyBegins.{AllNumbered, HasKeyOf, KeyOfOne, BeginsKey, items_of, FlagsSay}

-- ---- which `:` names a number

abbrev Names : Lexeme → ℕ → Type 0
Names y n = (k : KeyStart) × (y.key ≡ Some k) × (y.kind ≡ Colon) × (k.number ≡ n)

abbrev NamedIn : ℕ → List Item → Type 0
NamedIn n [] = ⊥
NamedIn n (OfLexeme y ∷ is) = Names y n ⊎ NamedIn n is
NamedIn n (OfComment c ∷ is) = NamedIn n is

in_others : (n : ℕ) (ns : List ℕ) → Has n (others ns) → Has n ns
in_others n [] p = p
in_others n (m ∷ ns) p = inr p

lexeme_named : (n : ℕ) (before : List Lexeme) (y : Lexeme) (is : List Item) (ns : List ℕ) → Bears before y →
    (Has n ns → NamedIn n is) → Has n (and_key y.key ns) → Names y n ⊎ NamedIn n is
lexeme_named n before y is ns b more p = on y.key refl p
  where
    on : (key : Option KeyStart) → y.key ≡ key → Has n (and_key key ns) → Names y n ⊎ NamedIn n is
    on None e q = inr (more q)
    on (Some k) e (inl q) = inl (k, e, b.keyed k e, q)
    on (Some k) e (inr q) = inr (more q)

flags_named : (n : ℕ) (before : List Lexeme) (is : List Item) → ItemsBear before is → Has n (flagging is).1 →
    NamedIn n is
flags_named n before [] b p = absurd p
flags_named n before (OfComment c ∷ is) b p = flags_named n before is b p
flags_named n before (OfLexeme y ∷ is) b p =
    on (is_nearest y.number (flagging is).1) (λ p. flags_named n (y ∷ before) is b.1 p) p
  where
    on : (v : Bool) → (Has n (flagging is).1 → NamedIn n is) →
        Has n (flag_lexeme v y (flagging is)).1 → Names y n ⊎ NamedIn n is
    on true more p =
        lexeme_named n before y is (others (flagging is).1) b.0 (λ p. more (in_others n (flagging is).1 p)) p
    on false more p = lexeme_named n before y is (flagging is).1 b.0 more p

nearest_in : (n : ℕ) (ns : List ℕ) → is_nearest n ns ≡ true → Has n ns
nearest_in n [] e = absurd cc
nearest_in n (m ∷ ns) e = inl (eqb-true m n e)

-- ---- what a named number says of the lexemes

module _ (o : OptionsData) (text : List ℕ) (x : Lexeme) (before : List Lexeme) (number : x.number ≡ length before) where
  -- the key of a `:` that names it is the run that begins with the lexeme
  key_of : (zs : List Lexeme) (y : Lexeme) (k : KeyStart) → AllNumbered zs → EndsIn zs (x ∷ before) →
      y.kind ≡ Colon → k.number ≡ x.number → HasKey o text zs y k → HasKeyOf o text x before zs y
  key_of zs y k n e c q h =
      let f = ends_numbered (run_ends_in h.run) n in
      let same : h.first ∷ h.rest ≡ x ∷ before = one_end (run_ends_in h.run) e
      (ap suc (sym f.0 ∙ (sym h.number ∙ (q ∙ number)))) in
      let first : h.first ≡ x = cc (same) in
      let rest : h.rest ≡ before = cc (same) in
      record {
        colon = c;
        run = subst (λ (rest : List Lexeme). Run zs x rest) rest
            (subst (λ (first : Lexeme). Run zs first h.rest) first h.run);
        begins = subst (λ (rest : List Lexeme). MayBeKey text y.in_flow x rest) rest
            (subst (λ (first : Lexeme). MayBeKey text y.in_flow first h.rest) first h.begins);
        near = sym (ap (λ (first : Lexeme). too_far o y.in_flow first.start y.start) first) ∙ h.near;
      }

  colon_key : (zs : List Lexeme) (y : Lexeme) (kind : LexemeKind) (key : Option KeyStart) (k : KeyStart) →
      kind ≡ Colon → key ≡ Some k → ColonSays o text zs y kind key → HasKey o text zs y k
  colon_key zs y kind key k e f s =
      subst (λ (key : Option KeyStart). ColonSays o text zs y Colon key) f
      (subst (λ (kind : LexemeKind). ColonSays o text zs y kind key) e s)

  begins_by : (zs : List Lexeme) (is : List Item) → AllNumbered zs → EndsIn zs (x ∷ before) → ItemsBear zs is →
      ColonsSay o text zs is → NamedIn x.number is → KeyOfOne o text x before zs is
  begins_by zs [] n e b s p = absurd p
  begins_by zs (OfLexeme y ∷ is) n e b s (inl p) =
      inl (key_of zs y p.0 n e p.2 p.3 (colon_key zs y y.kind y.key p.0 p.2 p.1 s.0))
  begins_by zs (OfLexeme y ∷ is) n e b s (inr p) =
      inr (begins_by (y ∷ zs) is (b.0.number, n) (behind_one e) b.1 s.1 p)
  begins_by zs (OfComment c ∷ is) n e b s p = begins_by zs is n e b s p

  -- a `:` with that run as its key names it
  names_it : (zs : List Lexeme) (y : Lexeme) → HasKeyOf o text x before zs y → ColonSays o text zs y y.kind y.key →
      Names y x.number
  names_it zs y h s = on y.key refl (subst (λ (kind : LexemeKind). ColonSays o text zs y kind y.key) h.colon s)
    where
      none : NoKey o text zs y → ⊥
      none (no_run n) = none_ends n h.run
      none (no_key {first = first} {rest = rest} r far) =
          let same = run_once h.run r in
          let may = subst (λ (rest : List Lexeme). MayBeKey text y.in_flow first rest) same.1
          (subst (λ (first : Lexeme). MayBeKey text y.in_flow first before) same.0 h.begins) in
          let z = sym (far may)
          ∙ (sym (ap (λ (first : Lexeme). too_far o y.in_flow first.start y.start) same.0) ∙ h.near) in
          cc

      on : (key : Option KeyStart) → y.key ≡ key → ColonSays o text zs y Colon key → Names y x.number
      on None e n = absurd (none n)
      on (Some k) e q =
          (k, e, h.colon, q.number ∙ ap (λ (x : Lexeme). x.number) (run_once q.run h.run).0)

  named_by : (zs : List Lexeme) (is : List Item) → ColonsSay o text zs is → KeyOfOne o text x before zs is →
      NamedIn x.number is
  named_by zs [] s p = absurd p
  named_by zs (OfLexeme y ∷ is) s (inl p) = inl (names_it zs y p s.0)
  named_by zs (OfLexeme y ∷ is) s (inr p) = inr (named_by (y ∷ zs) is s.1 p)
  named_by zs (OfComment c ∷ is) s p = named_by zs is s p

-- ---- what isn't flagged is never named

abbrev KeysNot : ℕ → List (Option ℕ) → Type 0
KeysNot n [] = Unit {0}
KeysNot n (None ∷ ks) = KeysNot n ks
KeysNot n (Some m ∷ ks) = (m ≡ n → ⊥) × KeysNot n ks

abbrev KeysBelow : ℕ → List (Option ℕ) → Type 0
KeysBelow b [] = Unit {0}
KeysBelow b (None ∷ ks) = KeysBelow b ks
KeysBelow b (Some m ∷ ks) = (m < b) × KeysBelow b ks

less_not : (m b : ℕ) → m < b → m ≡ b → ⊥
less_not m b e f = omega (arith, e, f)

less_more : (m b : ℕ) → m < b → m < suc b
less_more m b e = omega (arith, e)

is_less : (n b : ℕ) → n ≡ b → n < suc b
is_less n b e = omega (arith, e)

below_not : (b : ℕ) (ks : List (Option ℕ)) → KeysBelow b ks → KeysNot b ks
below_not b [] p = tt
below_not b (None ∷ ks) p = below_not b ks p
below_not b (Some m ∷ ks) p = (less_not m b p.0, below_not b ks p.1)

below_next : (b : ℕ) (ks : List (Option ℕ)) → KeysBelow b ks → KeysBelow (suc b) ks
below_next b [] p = tt
below_next b (None ∷ ks) p = below_next b ks p
below_next b (Some m ∷ ks) p = (less_more m b p.0, below_next b ks p.1)

below_tail : (b : ℕ) (k : Option ℕ) (ks : List (Option ℕ)) → KeysBelow b (k ∷ ks) → KeysBelow b ks
below_tail b None ks p = p
below_tail b (Some m) ks p = p.1

not_tail : (n : ℕ) (k : Option ℕ) (ks : List (Option ℕ)) → KeysNot n (k ∷ ks) → KeysNot n ks
not_tail n None ks p = p
not_tail n (Some m) ks p = p.1

inner_below : (flag : Bool) (n b : ℕ) (ks : List (Option ℕ)) → n ≡ b → KeysBelow b ks →
    KeysBelow (suc b) (with_inner_key flag n ks)
inner_below true n b [] e p = tt
inner_below true n b (k ∷ ks) e p = (is_less n b e, below_next b ks (below_tail b k ks p))
inner_below false n b ks e p = below_next b ks p

outer_below : (b : ℕ) (ks : List (Option ℕ)) → KeysBelow b ks → KeysBelow b (outer_keys ks)
outer_below b [] p = tt
outer_below b (k ∷ ks) p = below_tail b k ks p

without_below : (b : ℕ) (ks : List (Option ℕ)) → KeysBelow b ks → KeysBelow b (without_inner_key ks)
without_below b [] p = tt
without_below b (k ∷ ks) p = below_tail b k ks p

behind_below : (r : Role) (flag : Bool) (n b : ℕ) (ks : List (Option ℕ)) → n ≡ b → KeysBelow b ks →
    KeysBelow (suc b) (keys_behind r flag n ks)
behind_below OfNode flag n b ks e p = inner_below flag n b ks e p
behind_below Opens flag n b ks e p = inner_below flag n b ks e p
behind_below Closes flag n b ks e p = below_next b (outer_keys ks) (outer_below b ks p)
behind_below (Keyed m) flag n b ks e p = below_next b (without_inner_key ks) (without_below b ks p)
behind_below Other flag n b ks e p = below_next b ks p

inner_not : (flag : Bool) (n m : ℕ) (ks : List (Option ℕ)) → (flag ≡ true → m ≡ n → ⊥) → KeysNot n ks →
    KeysNot n (with_inner_key flag m ks)
inner_not true n m [] e p = tt
inner_not true n m (k ∷ ks) e p = (e refl, not_tail n k ks p)
inner_not false n m ks e p = p

outer_not : (n : ℕ) (ks : List (Option ℕ)) → KeysNot n ks → KeysNot n (outer_keys ks)
outer_not n [] p = tt
outer_not n (k ∷ ks) p = not_tail n k ks p

without_not : (n : ℕ) (ks : List (Option ℕ)) → KeysNot n ks → KeysNot n (without_inner_key ks)
without_not n [] p = tt
without_not n (k ∷ ks) p = not_tail n k ks p

behind_not : (r : Role) (flag : Bool) (n m : ℕ) (ks : List (Option ℕ)) → (flag ≡ true → m ≡ n → ⊥) → KeysNot n ks →
    KeysNot n (keys_behind r flag m ks)
behind_not OfNode flag n m ks e p = inner_not flag n m ks e p
behind_not Opens flag n m ks e p = inner_not flag n m ks e p
behind_not Closes flag n m ks e p = outer_not n ks p
behind_not (Keyed k) flag n m ks e p = without_not n ks p
behind_not Other flag n m ks e p = p

not_inner : (n : ℕ) (ks : List (Option ℕ)) → KeysNot n ks → is_inner_key n ks ≡ true → ⊥
not_inner n [] p e = absurd cc
not_inner n (None ∷ ks) p e = absurd cc
not_inner n (Some m ∷ ks) p e = p.0 (sym (eqb-true n m e))

later_not : (n b m : ℕ) → n < b → m ≡ b → m ≡ n → ⊥
later_not n b m e f g = omega (arith, e, f, g)

never_names : (n : ℕ) (y : Lexeme) (ks : List (Option ℕ)) → KeysNot n ks →
    role_fits (role_of y.kind y.key) ks ≡ true → Names y n → ⊥
never_names n y ks p e (k, key, kind, q) =
    not_inner n ks p
    (sym (ap (λ n. is_inner_key n ks) q)
    ∙ (sym (ap (λ key. role_fits (role_of Colon key) ks) key)
    ∙ (sym (ap (λ kind. role_fits (role_of kind y.key) ks) kind) ∙ e)))

never_named : (n : ℕ) (before : List Lexeme) (is : List Item) (ks : List (Option ℕ)) → n < length before →
    ItemsBear before is → KeysNot n ks → ItemKeysFit ks (flagging is).0 → NamedIn n is → ⊥
never_named n before [] ks l b p f q = q
never_named n before (OfComment c ∷ is) ks l b p f q = never_named n before is ks l b p f.1 q
never_named n before (OfLexeme y ∷ is) ks l b p f q =
    on (is_nearest y.number (flagging is).1)
    (λ ks p f q. never_named n (y ∷ before) is ks (less_more n (length before) l) b.1 p f q) f q
  where
    on : (v : Bool) →
        ((ks : List (Option ℕ)) → KeysNot n ks → ItemKeysFit ks (flagging is).0 → NamedIn n is → ⊥) →
        ItemKeysFit ks (flag_lexeme v y (flagging is)).0 → Names y n ⊎ NamedIn n is → ⊥
    on true more f (inl q) = never_names n y ks p f.0 q
    on true more f (inr q) =
        more _ (behind_not (role_of y.kind y.key) true n y.number ks
        (λ e. later_not n (length before) y.number l b.0.number) p) f.1 q
    on false more f (inl q) = never_names n y ks p f.0 q
    on false more f (inr q) = more _ (behind_not (role_of y.kind y.key) false n y.number ks (λ e. absurd cc) p) f.1 q

-- ---- all flags

pub items_same : (is : List Item) → items_of (flagging is).0 ≡ is
items_same [] = refl
items_same (OfComment c ∷ is) = ap (λ is. OfComment c ∷ is) (items_same is)
items_same (OfLexeme x ∷ is) = on (is_nearest x.number (flagging is).1) (items_same is)
  where
    on : (v : Bool) → items_of (flagging is).0 ≡ is →
        items_of (flag_lexeme v x (flagging is)).0 ≡ OfLexeme x ∷ is
    on true e = ap (λ is. OfLexeme x ∷ is) e
    on false e = ap (λ is. OfLexeme x ∷ is) e

module _ (o : OptionsData) (text : List ℕ) where
  lexeme_flag : (before : List Lexeme) (x : Lexeme) (is : List Item) (ks : List (Option ℕ)) → AllNumbered before →
      Bears before x → ItemsBear (x ∷ before) is → ColonsSay o text (x ∷ before) is → KeysBelow (length before) ks →
      (v : Bool) → is_nearest x.number (flagging is).1 ≡ v →
      ItemKeysFit ks (flag_lexeme v x (flagging is)).0 →
      Decides v (BeginsKey o text before x (items_of (flagging is).0))
  lexeme_flag before x is ks n b m s k true e f = (
    λ t. subst (BeginsKey o text before x) (sym (items_same is))
        (begins_by o text x before b.number (x ∷ before) is (b.number, n) all_of_it m s
        (flags_named x.number (x ∷ before) is m (nearest_in x.number (flagging is).1 e))),
    λ p. refl,
  )
  lexeme_flag before x is ks n b m s k false e f = (
    λ t. absurd cc,
    λ p. absurd (never_named x.number (x ∷ before) is _ (is_less x.number (length before) b.number) m
        (behind_not (role_of x.kind x.key) false x.number x.number ks (λ t. absurd cc)
        (subst (λ n. KeysNot n ks) (sym b.number) (below_not (length before) ks k))) f.1
        (named_by o text x before b.number (x ∷ before) is s
        (subst (BeginsKey o text before x) (items_same is) p))),
  )

  flags_from : (before : List Lexeme) (is : List Item) (ks : List (Option ℕ)) → AllNumbered before →
      ItemsBear before is → ColonsSay o text before is → KeysBelow (length before) ks →
      ItemKeysFit ks (flagging is).0 → FlagsSay o text before (flagging is).0
  flags_from before [] ks n b s k f = tt
  flags_from before (OfComment c ∷ is) ks n b s k f = (refl, flags_from before is ks n b s k f.1)
  flags_from before (OfLexeme x ∷ is) ks n b s k f =
      on (is_nearest x.number (flagging is).1)
      (λ f. lexeme_flag before x is ks n b.0 b.1 s.1 k (is_nearest x.number (flagging is).1) refl f)
      (λ ks k f. flags_from (x ∷ before) is ks (b.0.number, n) b.1 s.1 k f) f
    where
      on : (v : Bool) →
          (ItemKeysFit ks (flag_lexeme v x (flagging is)).0 →
          Decides v (BeginsKey o text before x (items_of (flagging is).0))) →
          ((ks : List (Option ℕ)) → KeysBelow (suc (length before)) ks → ItemKeysFit ks (flagging is).0 →
          FlagsSay o text (x ∷ before) (flagging is).0) →
          ItemKeysFit ks (flag_lexeme v x (flagging is)).0 →
          FlagsSay o text before (flag_lexeme v x (flagging is)).0
      on true flag more f = (
        flag f,
        more _ (behind_below (role_of x.kind x.key) true x.number (length before) ks b.0.number k) f.1,
      )
      on false flag more f = (
        flag f,
        more _ (behind_below (role_of x.kind x.key) false x.number (length before) ks b.0.number k) f.1,
      )

  pub flags_said : (items : List Item) (t : ReaderState) → Reached o (reader_start (start_of text)) items t →
      FlagsSay o text [] (flagged items)
  flags_said items t r =
      flags_from [] items (None ∷ []) tt (items_bear o (start_of text) items t r) (colons_said o text items t r) tt
      (keys_fit o (start_of text) items t r)
