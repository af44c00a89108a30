-- The key of each `:` is the run of lexemes before it.
use Rattle.std.proofs.Common.{◌≡◌, ℕ, suc, ◌+◌, ◌≤◌, ◌&&◌, ◌||◌, not, Bool, true, false, List, [], ◌∷◌, ◌++◌, drop, map}
use Rattle.std.proofs.Common.{Option, Some, None, ◌⊎◌, inl, inr, refl, sym, ap, ap₂, ◌∙◌, subst, arith}
use Rattle.std.specs.Prelude.{if◌then◌else◌, nat_lt, is_none}
use Rattle.std.proofs.lemmas.Bool.Decides.{nat_tests}
use Rattle.granit_base.specs.Place.{Mark}
use Rattle.granit_error.specs.OptionsData.{OptionsData}
use Rattle.granit_lexemes.specs.Here.{Here, mark_of}
use Rattle.granit_lexemes.specs.LayoutData.{is_left}
use Rattle.granit_lexemes.specs.Lexeme.{LexemeKind, Open, Comma, Dash, KeyStart, Lexeme, is_entry_dash}
use Rattle.granit_lexemes.specs.Place.{one_more_if, line_ends}
use Rattle.granit_machine.specs.Laid.{Laid, is_opener, is_dash, is_indicator, is_in_flow, block_column}
use Rattle.granit_lexemes.specs.declared.layout.PossibleKey.{PossibleKey}
use Rattle.granit_lexemes.specs.declared.layout.OpenBracket.{OpenBracket}
use Rattle.granit_machine.specs.PossibleKeys.{top_key, is_stale, fresh_key, fresh_bracket, is_allowed, new_key}
use Rattle.granit_machine.specs.PossibleKeys.{key_goes_on, node_key}
use Rattle.granit_language.specs.Fitting.{OfNode, Closes, role_of}
use Rattle.granit_language.specs.KeyRuns.{NoRun, joins_run, BeginsRun, Run, part_begins}
use Rattle.granit_language.specs.KeyRuns.{part_joins, whole_begins, whole_joins, opens_entry, follows_opener}
use Rattle.granit_language.specs.KeyRuns.{follows_dash, NoTabBehind, MayBeKey, too_far}
use Rattle.granit_language.specs.HeldSaid.{HeldKeySays, Now, no_run_now, run_now, lead_begins, lead_joins, Leads}
use Rattle.granit_language.specs.HeldSaid.{Pending, KeysAround, Depths, LastSays}
use Rattle.granit_places.proofs.Counting.{At, Further}

-- ---- places further on

abbrev pub Onward : Mark → Mark → Type 0
Onward m n = (m.place.index ≤ n.place.index) × (m.place.line ≤ n.place.line)

lines_on : (x : List ℕ) (i j : ℕ) → i ≤ j → line_ends x i ≤ line_ends x j
lines_on x Rattle.std.proofs.Common.zero j p = omega arith
lines_on [] (suc i) j p = omega arith
lines_on (c ∷ cs) (suc i) Rattle.std.proofs.Common.zero p = absurd (omega arith)
lines_on (c ∷ cs) (suc i) (suc j) p = more (Rattle.granit_base.specs.Place.ends_line (c ∷ cs)) (line_ends cs i)
    (line_ends cs j) (lines_on cs i j (omega (arith, p)))
  where
    more : (v : Bool) (a b : ℕ) → a ≤ b → one_more_if v a ≤ one_more_if v b
    more true a b p = omega (arith, p)
    more false a b p = p

pub onward : (x : List ℕ) {h g : Here} (a : At x h) (b : Further x h a g) → Onward (mark_of h) (mark_of g)
onward x a b =
    let i = a.here.mark.index in let j = b.place.here.mark.index in let p = b.index in
    let u = a.here.mark.line in let v = b.place.here.mark.line in let q = lines_on x a.index b.place.index p in
    (omega (arith, i, j, p), omega (arith, u, v, q))

far_on : (o : OptionsData) (f : Bool) (s m n : Mark) → Onward m n → too_far o f s m ≡ true → too_far o f s n ≡ true
far_on o f s m n w e = on (nat_lt (s.place.index + o.simple_key_max_lookahead) m.place.index)
    (nat_lt s.place.line m.place.line) refl refl e
  where
    later : (a b c : ℕ) → b ≤ c → nat_lt a b ≡ true → nat_lt a c ≡ true
    later a b c p q = grind (arith, nat_tests, p, q)

    first_true : (a b : Bool) → a ≡ true → (a || b) ≡ true
    first_true true b e = refl
    first_true false b e = absurd cc

    second_true : (a g c d : Bool) → (c ≡ true → d ≡ true) → (not g && c) ≡ true → (a || (not g && d)) ≡ true
    second_true true g c d p e = refl
    second_true false true c d p e = absurd cc
    second_true false false true d p e = p refl
    second_true false false false d p e = absurd cc

    on : (a c : Bool) → nat_lt (s.place.index + o.simple_key_max_lookahead) m.place.index ≡ a
        → nat_lt s.place.line m.place.line ≡ c → (a || (not f && c)) ≡ true → too_far o f s n ≡ true
    on true c p q e = first_true _ _ (later _ m.place.index n.place.index w.0 p)
    on false c p q e = second_true (nat_lt (s.place.index + o.simple_key_max_lookahead) n.place.index) f c
        (nat_lt s.place.line n.place.line) (λ t. later s.place.line m.place.line n.place.line w.1 (q ∙ t)) e

holds_on : (o : OptionsData) (text : List ℕ) (f : Bool) (m n : Mark) (key : Option PossibleKey) (first : Lexeme)
    (rest : List Lexeme) → Onward m n → HeldKeySays o text f m key first rest → HeldKeySays o text f n key first rest
holds_on o text f m n (Some k) first rest w h = h
holds_on o text f m n None first rest w h = λ e. far_on o f first.start m n w (h e)

-- ---- freshening

stale_far : (o : OptionsData) (f g : Bool) (m s : Mark) (k : PossibleKey) → (f ≡ true → g ≡ true) → k.start ≡ s
    → is_stale o g m k ≡ true → too_far o f s m ≡ true
unfolding is_stale
stale_far o f g m s k less e y = subst (λ s. too_far o f s m ≡ true) e
    (weaker (nat_lt (k.start.place.index + o.simple_key_max_lookahead) m.place.index)
    (nat_lt k.start.place.line m.place.line) f g less y)
  where
    weaker : (a c f g : Bool) → (f ≡ true → g ≡ true) → (a || (not g && c)) ≡ true → (a || (not f && c)) ≡ true
    weaker true c f g p e = refl
    weaker false c true g p e = absurd (let q = p refl in cc)
    weaker false c false true p e = absurd cc
    weaker false c false false p e = e

module _ (o : OptionsData) (text : List ℕ) (m n : Mark) (w : Onward m n) where
  holds_fresh : (f g : Bool) (key : Option PossibleKey) (first : Lexeme) (rest : List Lexeme) → (f ≡ true → g ≡ true)
      → HeldKeySays o text f m key first rest → HeldKeySays o text f n (fresh_key o g n key) first rest
  holds_fresh f g None first rest less h = holds_on o text f m n None first rest w h
  holds_fresh f g (Some k) first rest less h = on (is_stale o g n k) refl
    where
      on : (v : Bool) → is_stale o g n k ≡ v → HeldKeySays o text f n (if v then None else Some k) first rest
      on true e = λ _. stale_far o f g n first.start k less h.1 e
      on false e = h

  now_fresh : (f g : Bool) (ls : List Lexeme) (key : Option PossibleKey) → (f ≡ true → g ≡ true) → Now o text f m ls key
      → Now o text f n ls (fresh_key o g n key)
  now_fresh f g ls key less (no_run_now r e) = no_run_now r (ap (fresh_key o g n) e)
  now_fresh f g ls key less (run_now {first = first} {rest = rest} r h) = run_now r
      (holds_fresh f g key first rest less h)

  pending_fresh : (f g : Bool) (ls : List Lexeme) (key : Option PossibleKey) → (f ≡ true → g ≡ true)
      → Pending o text f m ls key → Pending o text f n ls (fresh_key o g n key)
  pending_fresh f g ls key less p = record {
    opener = p.opener;
    before = p.before;
    whole = p.whole;
    opens = p.opens;
    leads = record {
      first = p.leads.first;
      rest = p.leads.rest;
      lead = p.leads.lead;
      holds = holds_fresh f g key
          p.leads.first p.leads.rest less p.leads.holds;
    };
  }

  around_fresh : (g : Bool) (ls : List Lexeme) (bs : List OpenBracket) (key : Option PossibleKey)
      → KeysAround o text m ls bs key → KeysAround o text n ls (map (fresh_bracket o n) bs) (fresh_key o g n key)
  unfolding pending_fresh
  around_fresh g ls [] key p = pending_fresh false g ls key (λ e. absurd cc) p
  around_fresh g ls (b ∷ bs) key p = (
    pending_fresh true true ls b.key (λ e. e) p.0,
    around_fresh g p.0.before bs key
        p.1,
  )

  pub depths_fresh : (g : Bool) (ls : List Lexeme) (bs : List OpenBracket) (key : Option PossibleKey)
      → Depths o text m ls bs key → Depths o text n ls (map (fresh_bracket o n) bs) (fresh_key o g n key)
  depths_fresh g ls [] key p = now_fresh false g ls key (λ e. absurd cc) p
  depths_fresh g ls (b ∷ bs) key p = (now_fresh true true ls b.key (λ e. e) p.0, around_fresh g ls bs key p.1)

-- a key that is held fresh is not far
pub fresh_near : (o : OptionsData) (g : Bool) (m : Mark) (key : Option PossibleKey) (k : PossibleKey)
    → fresh_key o g m key ≡ Some k → is_stale o g m k ≡ false
fresh_near o g m None k e = absurd cc
fresh_near o g m (Some j) k e = on (is_stale o g m j) refl e
  where
    on : (v : Bool) → is_stale o g m j ≡ v → ◌≡◌ {A = Option PossibleKey} (if v then None else Some j) (Some k)
        → is_stale o g m k ≡ false
    on true f e = absurd cc
    on false f e = let q : j ≡ k = cc in subst (λ k. is_stale o g m k ≡ false) q f

-- ---- what ends a run

-- an alias, a property, a scalar or a closer lets no key begin behind it
part_lets : (kind : LexemeKind) (key : Option KeyStart) (f : Bool)
    → (role_of kind key ≡ OfNode) ⊎ (role_of kind key ≡ Closes)
    → (opens_entry kind f ≡ false) × (is_entry_dash kind ≡ false)
part_lets (Open bracket) key f (inl e) = absurd cc
part_lets (Open bracket) key f (inr e) = absurd cc
part_lets Comma key f (inl e) = absurd cc
part_lets Comma key f (inr e) = absurd cc
part_lets Dash key f (inl e) = absurd cc
part_lets Dash key f (inr e) = absurd cc
part_lets kind key f e = (refl, refl)

pub run_ends : {ls : List Lexeme} {first : Lexeme} {rest : List Lexeme} → Run ls first rest
    → (follows_opener ls ≡ false) × (follows_dash ls ≡ false) × (NoRun ls → ⊥)
run_ends (part_begins {x = x} r b) = let p = part_lets x.kind x.key x.in_flow (inl r) in (p.0, p.1, λ n. n.0 r)
run_ends (part_joins {x = x} r j s) = let p = part_lets x.kind x.key x.in_flow (inl r) in (p.0, p.1, λ n. n.0 r)
run_ends (whole_begins {closer = x} r w q b) = let p = part_lets x.kind x.key x.in_flow
    (inr r) in (p.0, p.1, λ n. n.1 r)
run_ends (whole_joins {closer = x} r w q j s) = let p = part_lets x.kind x.key x.in_flow
    (inr r) in (p.0, p.1, λ n. n.1 r)

-- ---- a lexeme of a node

-- behind a sign a tab before a place is one behind the sign
abbrev pub TabSays : List ℕ → List Lexeme → Here → Laid → Type 0
TabSays text ls h l = is_indicator l.last ≡ true → h.begins_line ≡ false
    → (is_none h.tab ≡ true → NoTabBehind text ls (mark_of h))
    × (NoTabBehind text ls (mark_of h) → is_none h.tab ≡ true)

module _ (o : OptionsData) (text : List ℕ) (h : Here) (l : Laid) (ls : List Lexeme) (x : Lexeme)
    (number : x.number ≡ l.number) (start : x.start ≡ mark_of h) (flow : x.in_flow ≡ is_in_flow l)
    (line : x.begins_line ≡ h.begins_line) (follows : x.follows_indicator ≡ (is_dash l.last || is_indicator l.last))
    (last : LastSays ls l) (tabs : TabSays text ls h l) where
  abbrev allowed : Bool
  allowed = is_allowed h.begins_line h.tab l

  may_on : (f b d s n : Bool) → is_in_flow l ≡ f → h.begins_line ≡ b → is_dash l.last ≡ d → is_indicator l.last ≡ s
      → is_none h.tab ≡ n → (if f then is_opener l.last else (b || d) || (s && n)) ≡ true → MayBeKey text f x ls
  may_on true b d s n p q r t u e = sym last.opener ∙ e
  may_on false true d s n p q r t u e = inl (line ∙ q)
  may_on false false true s n p q r t u e = inr (inl (sym last.dash ∙ r))
  may_on false false false true true p q r t u e = inr
      (inr (sym last.sign ∙ t, subst (NoTabBehind text ls) (sym start) ((tabs t q).0 u)))
  may_on false false false true false p q r t u e = absurd cc
  may_on false false false false n p q r t u e = absurd cc

  may : allowed ≡ true → MayBeKey text (is_in_flow l) x ls
  unfolding is_allowed
  may e = may_on (is_in_flow l) h.begins_line (is_dash l.last) (is_indicator l.last) (is_none h.tab) refl refl refl refl
      refl e

  must_on : (f b d s n : Bool) → is_in_flow l ≡ f → h.begins_line ≡ b → is_dash l.last ≡ d → is_indicator l.last ≡ s
      → is_none h.tab ≡ n → (if f then is_opener l.last else (b || d) || (s && n)) ≡ false → MayBeKey text f x ls → ⊥
  must_on true b d s n p q r t u e y = let z = last.opener in cc
  must_on false true d s n p q r t u e y = cc
  must_on false false true s n p q r t u e y = cc
  must_on false false false s n p q r t u e (inl b) = let z = line in cc
  must_on false false false s n p q r t u e (inr (inl v)) = let z = last.dash in cc
  must_on false false false false n p q r t u e (inr (inr (v, w))) = let z = last.sign in cc
  must_on false false false true true p q r t u e (inr (inr (v, w))) = cc
  must_on false false false true false p q r t u e (inr (inr (v, w))) = let z = (tabs t q).1
      (subst (NoTabBehind text ls) start w) in cc

  must : allowed ≡ false → MayBeKey text (is_in_flow l) x ls → ⊥
  unfolding is_allowed
  must e y = must_on (is_in_flow l) h.begins_line (is_dash l.last) (is_indicator l.last) (is_none h.tab) refl refl refl
      refl refl e y

  -- what joins a run isn't allowed to begin one
  not_allowed : {first : Lexeme} {rest : List Lexeme} → Run ls first rest → joins_run x ≡ true → allowed ≡ false
  unfolding is_allowed
  not_allowed r j =
      let e = run_ends r in
      on (is_in_flow l) h.begins_line (is_opener l.last) (is_dash l.last) (is_indicator l.last) (last.opener ∙ e.0)
      (last.dash ∙ e.1) (λ y. e.2 (last.indicator y)) (sym (ap₂ (λ (a b : Bool). a || not b) flow line) ∙ j)
    where
      on : (f line opens dash sign : Bool) → opens ≡ false → dash ≡ false → (sign ≡ true → ⊥) → (f || not line) ≡ true
          → (if f then opens else (line || dash) || (sign && is_none h.tab)) ≡ false
      on true line opens dash sign p q n j = p
      on false true opens dash sign p q n j = absurd cc
      on false false opens true sign p q n j = absurd cc
      on false false opens false true p q n j = absurd (n refl)
      on false false opens false false p q n j = refl

  -- what joins none and stands behind a run begins its line
  line_allowed : joins_run x ≡ false → allowed ≡ true
  unfolding is_allowed
  line_allowed j = on (is_in_flow l) h.begins_line (sym (ap₂ (λ (a b : Bool). a || not b) flow line) ∙ j)
    where
      on : (f line : Bool) → (f || not line) ≡ false
          → (if f then is_opener l.last else (line || is_dash l.last) || (is_indicator l.last && is_none h.tab)) ≡ true
      on true line j = absurd cc
      on false true j = refl
      on false false j = absurd cc

  abbrev key_by : Bool → Bool → Option PossibleKey
  key_by property v = if v then Some (new_key property (mark_of h) l) else key_goes_on property
      (is_left (block_column l) h.place.column) (top_key l)

  abbrev Led : Option PossibleKey → Type 0
  Led key = Leads o text (is_in_flow l) (mark_of h) x ls key

  begins_new : (property : Bool) → BeginsRun x ls → allowed ≡ true → Led (Some (new_key property (mark_of h) l))
  begins_new property b e = record {
    first = x;
    rest = ls;
    lead = lead_begins b;
    holds =
        (sym number, sym start, may e);
  }

  goes_holds : (property low : Bool) (key : Option PossibleKey) (first : Lexeme) (rest : List Lexeme)
      → HeldKeySays o text (is_in_flow l) (mark_of h) key first rest
      → HeldKeySays o text (is_in_flow l) (mark_of h) (key_goes_on property low key) first rest
  goes_holds property low None first rest p = p
  goes_holds property low (Some k) first rest p = on k.is_head
    where
      on : (v : Bool) → HeldKeySays o text (is_in_flow l) (mark_of h)
          (if v then Some (record k { is_low = k.is_low || low; is_head = property }) else Some k) first rest
      on true = p
      on false = p

  none_goes : (property low : Bool) → top_key l ≡ None → key_goes_on property low (top_key l) ≡ None
  none_goes property low e = ap (key_goes_on property low) e

  led_by : (property v : Bool) → allowed ≡ v → Now o text (is_in_flow l) (mark_of h) ls (top_key l)
      → Led (key_by property v)
  led_by property true e (no_run_now n k) = begins_new property (inr n) e
  led_by property false e (no_run_now n k) = subst Led (sym (none_goes property _ k))
      (record { first = x; rest = ls; lead = lead_begins (inr n); holds = λ y. absurd (must e y) })
  led_by property true e (run_now r p) = on (joins_run x) refl
    where
      on : (j : Bool) → joins_run x ≡ j → Led (Some (new_key property (mark_of h) l))
      on true j = absurd (let n = not_allowed r j in cc)
      on false j = begins_new property (inl j) e
  led_by property false e (run_now {first = first} {rest = rest} r p) = on (joins_run x) refl
    where
      on : (j : Bool) → joins_run x ≡ j → Led
          (key_goes_on property (is_left (block_column l) h.place.column) (top_key l))
      on true j = record {
        first = first;
        rest = rest;
        lead = lead_joins j r;
        holds = goes_holds property _ (top_key l)
            first rest p;
      }
      on false j = absurd (let n = line_allowed j in cc)

  -- a lexeme of a node begins a run or joins one, and the key says so
  pub leads_on : (property : Bool) → Now o text (is_in_flow l) (mark_of h) ls (top_key l)
      → Led (node_key property allowed (mark_of h) l)
  unfolding node_key
  leads_on property n = led_by property allowed refl n
