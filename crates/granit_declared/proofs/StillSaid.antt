-- A key is held possible exactly with the lexemes with which a simple key may still begin.
use Rattle.std.proofs.Common.{◌≡◌, ℕ, ◌≤◌, ◌<◌, ◌||◌, Bool, true, false, List, [], ◌∷◌, map, Option, Some, None}
use Rattle.std.proofs.Common.{◌⊎◌, inl, inr, refl, sym, ap, ◌∙◌, subst, arith}
use Rattle.std.proofs.lemmas.Bool.{eqb-true, eq-eqb, or_left, or_right}
use Rattle.std.specs.Bool.{Decides}
use Rattle.std.specs.List.{list_any}
use Rattle.granit_base.specs.Place.{Mark}
use Rattle.granit_error.specs.OptionsData.{OptionsData}
use Rattle.granit_language.specs.Fitting.{Opens}
use Rattle.granit_language.specs.HeldSaid.{HeldKeySays, Now, no_run_now, run_now, Lead, lead_begins, lead_joins}
use Rattle.granit_language.specs.HeldSaid.{Pending, KeysAround, Depths, has_ended}
use Rattle.granit_language.specs.KeyRuns.{role, WholeBrackets, joins_run, BeginsRun, Run, MayBeKey, too_far}
use Rattle.granit_language.specs.OpenColumns.{latest}
use Rattle.granit_language.specs.Reached.{Reached}
use Rattle.granit_lexemes.specs.Here.{mark_of, start_of}
use Rattle.granit_lexemes.specs.Lexeme.{Lexeme, Item}
use Rattle.granit_lexemes.specs.declared.layout.OpenBracket.{OpenBracket}
use Rattle.granit_lexemes.specs.declared.layout.PossibleKey.{PossibleKey}
use Rattle.granit_machine.specs.Laid.{is_nonempty}
use Rattle.granit_machine.specs.PossibleKeys.{is_of, is_possible, is_stale}
use Rattle.granit_machine.specs.ReaderState.{ReaderState, reader_start}
use Rattle.granit_key_runs.proofs.RunsOnce.{run_once, none_ends, whole_once}
use Rattle.granit_declared.proofs.Bracketed.{opens_one, whole_openers, run_openers, lead_openers, AllFlow}
use Rattle.granit_declared.proofs.Bracketed.{fields_flow, whole_flow, run_flow, lead_flow, flow_is}
use Rattle.granit_declared.proofs.FieldsSaid.{fields_said}
use Rattle.granit_before.proofs.HeldWhole.{opener_of}
use Rattle.granit_declared.proofs.OuterKey.{Kept, OuterKey, OuterSays, since_is, since_out}
use Rattle.granit_declared.proofs.OuterWhole.{IsNear, EachNear, along}
use Rattle.granit_before.specs.Openers.{Opener, openers}
use Rattle.granit_before.specs.StillBegins.{IsInnermostBracket, WaitsHere, WaitsAround, WaitsOutside, around_innermost}
use Rattle.granit_before.specs.StillBegins.{further_out}
use Rattle.granit_before.specs.StillBegins.{StillBegins}

-- ---- numbers of keys

key_of_number : (n : ℕ) (key : Option PossibleKey) → is_of n key ≡ true →
    (k : PossibleKey) × (key ≡ Some k) × (k.number ≡ n)
key_of_number n None e = absurd cc
key_of_number n (Some k) e = (k, refl, eqb-true k.number n e)

abbrev OneOf : ℕ → Option PossibleKey → List OpenBracket → Bool
OneOf n key bs = is_of n key || list_any (λ b. is_of n b.key) bs

-- the inner bracket's key, or one further out
one_of : (n : ℕ) (key : Option PossibleKey) (b : OpenBracket) (bs : List OpenBracket) →
    OneOf n key (b ∷ bs) ≡ true → (is_of n b.key ≡ true) ⊎ (OneOf n key bs ≡ true)
one_of n key b bs e = on (is_of n key) (is_of n b.key) (list_any (λ b. is_of n b.key) bs) e
  where
    on : (a b c : Bool) → (a || (b || c)) ≡ true → (b ≡ true) ⊎ ((a || c) ≡ true)
    on true b c e = inr refl
    on false true c e = inl refl
    on false false c e = inr e

of_inner : (n : ℕ) (key : Option PossibleKey) (b : OpenBracket) (bs : List OpenBracket) → is_of n b.key ≡ true →
    OneOf n key (b ∷ bs) ≡ true
of_inner n key b bs e = or_right (is_of n key) _ (or_left (is_of n b.key) _ e)

of_outer : (n : ℕ) (key : Option PossibleKey) (b : OpenBracket) (bs : List OpenBracket) → OneOf n key bs ≡ true →
    OneOf n key (b ∷ bs) ≡ true
of_outer n key b bs e = on (is_of n key) (is_of n b.key) (list_any (λ b. is_of n b.key) bs) e
  where
    on : (a b c : Bool) → (a || c) ≡ true → (a || (b || c)) ≡ true
    on true b c e = refl
    on false true c e = refl
    on false false c e = e

-- ---- one run

not_both : {A : Type 0} (x : Lexeme) {ys rest : List Lexeme} {first : Lexeme} → BeginsRun x ys → joins_run x ≡ true →
    Run ys first rest → A
not_both x (inl e) j r = absurd (let z = sym e ∙ j in cc)
not_both x (inr n) j r = absurd (none_ends n r)

lead_once : {x a b : Lexeme} {ys rest more : List Lexeme} → Lead x ys a rest → Lead x ys b more →
    (a ≡ b) × (rest ≡ more)
lead_once (lead_begins p) (lead_begins q) = (refl, refl)
lead_once {x = x} (lead_begins p) (lead_joins j r) = not_both x p j r
lead_once {x = x} (lead_joins j r) (lead_begins q) = not_both x q j r
lead_once (lead_joins j r) (lead_joins i s) = run_once r s

tail_of : (a b : Opener) (xs ys : List Opener) → ◌≡◌ {A = List Opener} (a ∷ xs) (b ∷ ys) → xs ≡ ys
tail_of a b xs ys e = cc (e)

-- ---- at a place behind lexemes

module _ (o : OptionsData) (text : List ℕ) (m : Mark) where
  near_start : (f g : Bool) (k : PossibleKey) (s : Mark) → k.start ≡ s → g ≡ f → is_stale o f m k ≡ false →
      too_far o g s m ≡ false
  unfolding is_stale
  near_start f g k s e i n =
      subst (λ g. too_far o g s m ≡ false) (sym i) (subst (λ s. too_far o f s m ≡ false) e n)

  may_as : (f g : Bool) (first : Lexeme) (rest : List Lexeme) → g ≡ f → MayBeKey text f first rest →
      MayBeKey text g first rest
  may_as f g first rest e p = subst (λ f. MayBeKey text f first rest) (sym e) p

  never : {A : Type 0} (v : Bool) → v ≡ true → v ≡ false → A
  never v a b = absurd cc

  -- what opens around some lexemes leaves open what is held around it
  around_open : {ls ys : List Lexeme} {x : Lexeme} (b : Opener) (bs : List OpenBracket) →
      WholeBrackets ls (x ∷ ys) → role x ≡ Opens → openers ls ≡ b ∷ map opener_of bs → openers ys ≡ map opener_of bs
  around_open {ys = ys} {x = x} b bs w r e =
      let p = opens_one x ys r in
      tail_of p.0 b (openers ys) (map opener_of bs) (sym p.1 ∙ (sym (whole_openers w) ∙ e))

  pending_flow : (f : Bool) {ls : List Lexeme} (b : Opener) (bs : List OpenBracket) (key : Option PossibleKey) →
      (p : Pending o text f m ls key) → AllFlow ls → openers ls ≡ b ∷ map opener_of bs →
      p.leads.first.in_flow ≡ is_nonempty bs
  pending_flow f b bs key p a e =
      flow_is p.leads.first p.leads.rest bs (lead_flow p.leads.lead (whole_flow p.whole a))
      (sym (around_open b bs p.whole p.opens e) ∙ lead_openers p.leads.lead)

  run_in_flow : {ls rest : List Lexeme} {first : Lexeme} (bs : List OpenBracket) → Run ls first rest → AllFlow ls →
      map opener_of bs ≡ openers ls → first.in_flow ≡ is_nonempty bs
  run_in_flow {rest = rest} {first = first} bs r a e = flow_is first rest bs (run_flow r a) (e ∙ run_openers r)

  -- what is held of the outermost bracket's run
  kept_there : {ls : List Lexeme} (key : Option PossibleKey) (p : Pending o text false m ls key) →
      openers p.before ≡ [] → OuterKey o text m ls key →
      Kept o text m p.opener p.leads.first p.leads.rest key
  kept_there key p e j =
      let same = since_is p.whole p.opens e j.since in
      let lead = subst (λ (ys : List Lexeme). Lead p.opener ys j.first j.rest) same.1
      (subst (λ (x : Lexeme). Lead x j.before j.first j.rest) same.0 j.lead) in
      let run = lead_once lead p.leads.lead in
      subst (λ (rest : List Lexeme). Kept o text m p.opener p.leads.first rest key) run.1
      (subst (λ (first : Lexeme). Kept o text m p.opener first j.rest key) run.0
      (subst (λ (x : Lexeme). Kept o text m x j.first j.rest key) same.0 j.kept))

  outer_out : {ls ys : List Lexeme} {x : Lexeme} (b : Opener) (bs : List Opener) (key : Option PossibleKey) →
      WholeBrackets ls (x ∷ ys) → role x ≡ Opens → openers ys ≡ b ∷ bs → OuterKey o text m ls key →
      OuterKey o text m ys key
  outer_out b bs key w r e j = record {
    opener = j.opener;
    before = j.before;
    since = since_out b bs w r e j.since;
    first = j.first;
    rest = j.rest;
    lead = j.lead;
    kept = j.kept;
  }

  -- ---- what is held may still begin

  abbrev Out : ℕ → List Lexeme → Type 0
  Out n ls = (first : Lexeme) × (rest : List Lexeme) × WaitsOutside o text m first rest ls × (first.number ≡ n)

  now_still : (f : Bool) (ls : List Lexeme) (key : Option PossibleKey) (n : ℕ) →
      ((first : Lexeme) (rest : List Lexeme) → Run ls first rest → first.in_flow ≡ f) → IsNear o f m key →
      Now o text f m ls key → is_of n key ≡ true → StillBegins o text m ls n
  now_still f ls key n flow near (no_run_now r e) y =
      absurd (let z = sym (ap (is_of n) e) ∙ y in cc)
  now_still f ls key n flow near (run_now {first = first} {rest = rest} r h) y =
      let s = key_of_number n key y in
      let held = subst (λ key. HeldKeySays o text f m key first rest) s.1 h in
      record {
        first = first;
        rest = rest;
        waits = inl (record {
          run = r;
          may = may_as f first.in_flow first rest (flow first rest r) held.2;
          near = near_start f first.in_flow s.0 first.start held.1 (flow first rest r) (near s.0 s.1);
        });
        is = sym held.0 ∙ s.2;
      }

  -- of one bracket
  pending_out : (f : Bool) (ls : List Lexeme) (key : Option PossibleKey) (n : ℕ) (p : Pending o text f m ls key) →
      p.leads.first.in_flow ≡ f → IsNear o true m key →
      ((k : PossibleKey) → key ≡ Some k → f ≡ false →
      p.opener.start.place.line ≤ p.leads.first.start.place.line) →
      is_of n key ≡ true → Out n ls
  pending_out f ls key n p flow near line y =
      let s = key_of_number n key y in
      let held = subst (λ key. HeldKeySays o text f m key p.leads.first p.leads.rest) s.1 p.leads.holds in (
        p.leads.first,
        p.leads.rest,
        around_innermost (record { whole = p.whole; opens = p.opens }) (record {
          lead = p.leads.lead;
          may = may_as f p.leads.first.in_flow p.leads.first p.leads.rest flow held.2;
          near = near_start true true s.0 p.leads.first.start held.1 refl (near s.0 s.1);
          line = λ e. line s.0 s.1 (sym flow ∙ e);
        }),
        sym held.0 ∙ s.2,
      )

  around_still : (ls : List Lexeme) (bs : List OpenBracket) (key : Option PossibleKey) (n : ℕ) (b : Opener) →
      AllFlow ls → openers ls ≡ b ∷ map opener_of bs → IsNear o true m key → EachNear o m bs →
      OuterKey o text m ls key → KeysAround o text m ls bs key → OneOf n key bs ≡ true → Out n ls
  around_still ls [] key n b a e near each j p y =
      pending_out false ls key n p (pending_flow false b [] key p a e) near
      (λ k f g. (subst (Kept o text m p.opener p.leads.first p.leads.rest) f
      (kept_there key p (around_open b [] p.whole p.opens e) j)).1)
      (or_less (is_of n key) y)
    where
      or_less : (v : Bool) → (v || false) ≡ true → v ≡ true
      or_less true e = refl
      or_less false e = e
  around_still ls (c ∷ bs) key n b a e near each j (p, q) y =
      elim (one_of n key c bs y) [
        | inl y ↦ pending_out true ls c.key n p (pending_flow true b (c ∷ bs) c.key p a e) each.0
            (λ k f g. absurd (let z = g in cc)) y
        | inr y ↦ out (around_still p.before bs key n (opener_of c) (whole_flow p.whole a).1 inner near each.1
            (outer_out (opener_of c) (map opener_of bs) key p.whole p.opens inner j) q y)
      ]
    where
      inner : openers p.before ≡ opener_of c ∷ map opener_of bs
      inner = around_open b (c ∷ bs) p.whole p.opens e

      out : Out n p.before → Out n ls
      out r = (r.0, r.1, further_out (record { whole = p.whole; opens = p.opens }) r.2, r.3)

  depths_still : (ls : List Lexeme) (bs : List OpenBracket) (key : Option PossibleKey) (n : ℕ) → AllFlow ls →
      map opener_of bs ≡ openers ls → IsNear o (is_nonempty bs) m key → EachNear o m bs →
      OuterSays o text m ls bs key → Depths o text m ls bs key → OneOf n key bs ≡ true → StillBegins o text m ls n
  depths_still ls [] key n a e near each j d y =
      now_still false ls key n (λ x ys r. run_in_flow [] r a e) near d (or_less (is_of n key) y)
    where
      or_less : (v : Bool) → (v || false) ≡ true → v ≡ true
      or_less true e = refl
      or_less false e = e
  depths_still ls (b ∷ bs) key n a e near each j d y =
      elim (one_of n key b bs y) [
        | inl y ↦ now_still true ls b.key n (λ x ys r. run_in_flow (b ∷ bs) r a e) each.0 d.0 y
        | inr y ↦ out (around_still ls bs key n (opener_of b) a (sym e) near each.1 j d.1 y)
      ]
    where
      out : Out n ls → StillBegins o text m ls n
      out r = record { first = r.0; rest = r.1; waits = inr r.2; is = r.3 }

  -- ---- what may still begin is held

  holds_number : (f : Bool) (first : Lexeme) (rest : List Lexeme) (key : Option PossibleKey) →
      HeldKeySays o text f m key first rest → (key ≡ None → ⊥) → is_of first.number key ≡ true
  holds_number f first rest None h n = absurd (n refl)
  holds_number f first rest (Some k) h n = eq-eqb k.number first.number h.0

  none_as : {key : Option PossibleKey} (Says : Option PossibleKey → Type 0) → Says key → key ≡ None → Says None
  none_as Says p e = subst Says e p

  still_now : (f : Bool) (ls : List Lexeme) (key : Option PossibleKey) (first : Lexeme) (rest : List Lexeme) →
      first.in_flow ≡ f → WaitsHere o text m ls first rest → Now o text f m ls key → is_of first.number key ≡ true
  still_now f ls key first rest flow w (no_run_now r e) = absurd (none_ends r w.run)
  still_now f ls key first rest flow w (run_now {first = x} {rest = ys} r h) =
      let same = run_once r w.run in
      let held = subst (λ (ys : List Lexeme). HeldKeySays o text f m key first ys) same.1
      (subst (λ (x : Lexeme). HeldKeySays o text f m key x ys) same.0 h) in
      holds_number f first rest key held
      (λ e. never (too_far o f first.start m)
      (none_as (λ key. HeldKeySays o text f m key first rest) held e
      (may_as first.in_flow f first rest (sym flow) w.may))
      (subst (λ f. too_far o f first.start m ≡ false) flow w.near))

  -- a bracket's run in the words of what is held
  waits_there : (f : Bool) {ls before rest : List Lexeme} {opener first : Lexeme} (key : Option PossibleKey)
      (p : Pending o text f m ls key) → IsInnermostBracket opener before ls →
      WaitsAround o text m opener before first rest →
      WaitsAround o text m p.opener p.before p.leads.first p.leads.rest × (first ≡ p.leads.first)
  waits_there f {before = before} {rest = rest} {first = first} key p e w =
      let same = whole_once e.whole e.opens p.whole p.opens in
      let v = subst (λ (ys : List Lexeme). WaitsAround o text m p.opener ys first rest) same.1
      (subst (λ (x : Lexeme). WaitsAround o text m x before first rest) same.0 w) in
      let run = lead_once v.lead p.leads.lead in (
        subst (λ (rest : List Lexeme). WaitsAround o text m p.opener p.before p.leads.first rest) run.1
            (subst (λ (first : Lexeme). WaitsAround o text m p.opener p.before first rest) run.0 v),
        run.0,
      )

  outside_open : {ls rest : List Lexeme} {first : Lexeme} → WaitsOutside o text m first rest ls → openers ls ≡ [] → ⊥
  outside_open (around_innermost {opener = x} {before = ys} e w) n = closed x ys e n
    where
      closed : (x : Lexeme) (ys : List Lexeme) {ls : List Lexeme} → IsInnermostBracket x ys ls → openers ls ≡ [] → ⊥
      closed x ys e n = let p = opens_one x ys e.opens in let z = sym p.1 ∙ (sym (whole_openers e.whole) ∙ n) in cc
  outside_open (further_out {opener = x} {before = ys} e w) n = closed x ys e n
    where
      closed : (x : Lexeme) (ys : List Lexeme) {ls : List Lexeme} → IsInnermostBracket x ys ls → openers ls ≡ [] → ⊥
      closed x ys e n = let p = opens_one x ys e.opens in let z = sym p.1 ∙ (sym (whole_openers e.whole) ∙ n) in cc

  not_less : (a b : ℕ) → a ≤ b → b < a → ⊥
  not_less a b p q = omega (arith, p, q)

  -- outside all brackets
  still_outermost : {ls before rest : List Lexeme} {opener first : Lexeme} (b : Opener) (key : Option PossibleKey) →
      AllFlow ls → openers ls ≡ b ∷ [] → OuterKey o text m ls key → Pending o text false m ls key →
      IsInnermostBracket opener before ls → WaitsAround o text m opener before first rest →
      is_of first.number key ≡ true
  still_outermost b key a e j p c w =
      let v = waits_there false key p c w in
      let flow = pending_flow false b [] key p a e in
      let kept = kept_there key p (around_open b [] p.whole p.opens e) j in
      subst (λ (x : Lexeme). is_of x.number key ≡ true) (sym v.1)
      (holds_number false p.leads.first p.leads.rest key p.leads.holds
      (λ n. missing p.opener p.leads.first p.leads.rest v.0.near (v.0.line flow)
      (none_as (Kept o text m p.opener p.leads.first p.leads.rest) kept n
      (may_as p.leads.first.in_flow false p.leads.first p.leads.rest (sym flow) v.0.may))))
    where
      missing : (x y : Lexeme) (ys : List Lexeme) → too_far o true y.start m ≡ false →
          x.start.place.line ≤ y.start.place.line →
          (too_far o true y.start m ≡ true) ⊎ (y.start.place.line < x.start.place.line) → ⊥
      missing x y ys n l (inl f) = never (too_far o true y.start m) f n
      missing x y ys n l (inr f) = not_less x.start.place.line y.start.place.line l f

  still_inner : {ls before rest : List Lexeme} {opener first : Lexeme} (b : Opener) (c : OpenBracket)
      (bs : List OpenBracket) (key : Option PossibleKey) → AllFlow ls → openers ls ≡ b ∷ map opener_of (c ∷ bs) →
      Pending o text true m ls key → IsInnermostBracket opener before ls →
      WaitsAround o text m opener before first rest →
      is_of first.number key ≡ true
  still_inner b c bs key a e p d w =
      let v = waits_there true key p d w in
      let flow = pending_flow true b (c ∷ bs) key p a e in
      subst (λ (x : Lexeme). is_of x.number key ≡ true) (sym v.1)
      (holds_number true p.leads.first p.leads.rest key p.leads.holds
      (λ n. never (too_far o true p.leads.first.start m)
      (none_as (λ key. HeldKeySays o text true m key p.leads.first p.leads.rest) p.leads.holds n
      (may_as p.leads.first.in_flow true p.leads.first p.leads.rest (sym flow) v.0.may)) v.0.near))

  still_around : (ls : List Lexeme) (bs : List OpenBracket) (key : Option PossibleKey) (b : Opener) (first : Lexeme)
      (rest : List Lexeme) → AllFlow ls → openers ls ≡ b ∷ map opener_of bs → OuterKey o text m ls key →
      KeysAround o text m ls bs key → WaitsOutside o text m first rest ls → OneOf first.number key bs ≡ true
  still_around ls [] key b first rest a e j p (around_innermost c w) =
      or_left (is_of first.number key) false (still_outermost b key a e j p c w)
  still_around ls [] key b first rest a e j p (further_out c w) =
      let same = whole_once c.whole c.opens p.whole p.opens in
      absurd (outside_open w (ap openers same.1 ∙ around_open b [] p.whole p.opens e))
  still_around ls (c ∷ bs) key b first rest a e j (p, q) (around_innermost d w) =
      of_inner first.number key c bs (still_inner b c bs c.key a e p d w)
  still_around ls (c ∷ bs) key b first rest a e j (p, q) (further_out d w) =
      let same = whole_once d.whole d.opens p.whole p.opens in
      let inner = around_open b (c ∷ bs) p.whole p.opens e in
      of_outer first.number key c bs
      (still_around p.before bs key (opener_of c) first rest (whole_flow p.whole a).1 inner
      (outer_out (opener_of c) (map opener_of bs) key p.whole p.opens inner j) q
      (subst (WaitsOutside o text m first rest) same.1 w))

  still_depths : (ls : List Lexeme) (bs : List OpenBracket) (key : Option PossibleKey) (first : Lexeme)
      (rest : List Lexeme) → AllFlow ls → map opener_of bs ≡ openers ls → OuterSays o text m ls bs key →
      Depths o text m ls bs key → WaitsHere o text m ls first rest ⊎ WaitsOutside o text m first rest ls →
      OneOf first.number key bs ≡ true
  still_depths ls [] key first rest a e j d (inl w) =
      or_left (is_of first.number key) false
      (still_now false ls key first rest (run_in_flow [] w.run a e) w d)
  still_depths ls [] key first rest a e j d (inr w) = absurd (outside_open w (sym e))
  still_depths ls (b ∷ bs) key first rest a e j d (inl w) =
      of_inner first.number key b bs (still_now true ls b.key first rest (run_in_flow (b ∷ bs) w.run a e) w d.0)
  still_depths ls (b ∷ bs) key first rest a e j d (inr w) =
      of_outer first.number key b bs (still_around ls bs key (opener_of b) first rest a (sym e) j d.1 w)

-- ---- all

pub still_said : (o : OptionsData) (text : List ℕ) (items : List Item) (t : ReaderState) (n : ℕ) →
    Reached o (reader_start (start_of text)) items t → has_ended (latest items []) ≡ false →
    Decides (is_possible n t.laid) (StillBegins o text (mark_of t.here) (latest items []) n)
still_said o text items t n r y =
    let w = along o text items t r y in
    let ls = latest items [] in
    let m = mark_of t.here in
    let a = fields_flow [] items (fields_said o text items t r) tt in (
      λ e. depths_still o text m ls t.laid.brackets t.laid.key n a w.held.brackets w.near.0 w.near.1 w.outer
          w.runs.depths e,
      λ s. subst (λ n. is_possible n t.laid ≡ true) s.is
          (still_depths o text m ls t.laid.brackets t.laid.key s.first s.rest a w.held.brackets w.outer
          w.runs.depths s.waits),
    )
