-- Flags from the right are the possible keys from the left that get their `:`.
use Rattle.std.proofs.Common.{◌≡◌, ℕ, suc, ◌<◌, ◌==◌, Bool, true, false, List, [], ◌∷◌, Option, Some, None, refl, sym}
use Rattle.std.proofs.Common.{ap, ◌∙◌, subst, arith}
use Rattle.std.proofs.lemmas.Bool.{eq-eqb}
use Rattle.std.proofs.lemmas.Bool.Decides.{nat_tests}
use Rattle.granit_machine.specs.Lexing.{is_nearest, others}
use Rattle.granit_language.specs.Fitting.{Role, OfNode, Opens, Closes, Keyed, Other, outer_keys, keys_behind, role_fits}

-- the keys that are possible, by their first lexemes, the innermost first
abbrev pub Held : Type 0
Held = List (Option ℕ)

abbrev pub top_of : Held → Option ℕ
top_of [] = None
top_of (h ∷ hs) = h

-- at each depth the key that is possible, or none
abbrev pub Within : Held → Held → Type 0
Within [] [] = Unit {0}
Within (None ∷ hs) (h ∷ gs) = Within hs gs
Within (Some n ∷ hs) (h ∷ gs) = (h ≡ Some n) × Within hs gs
Within hs gs = ⊥

pub within_self : (hs : Held) → Within hs hs
within_self [] = tt
within_self (None ∷ hs) = within_self hs
within_self (Some n ∷ hs) = (refl, within_self hs)

pub within_then : (a b d : Held) → Within a b → Within b d → Within a d
within_then [] [] [] p q = tt
within_then [] [] (x ∷ d) p q = q
within_then [] (y ∷ b) d p q = absurd p
within_then (x ∷ a) [] d p q = absurd (none x a p)
  where
    none : (x : Option ℕ) (a : Held) → Within (x ∷ a) [] → ⊥
    none None a p = p
    none (Some n) a p = p
within_then (None ∷ a) (None ∷ b) [] p q = q
within_then (None ∷ a) (Some m ∷ b) [] p q = q
within_then (None ∷ a) (None ∷ b) (z ∷ d) p q = within_then a b d p q
within_then (None ∷ a) (Some m ∷ b) (z ∷ d) p q = within_then a b d p q.1
within_then (Some n ∷ a) (None ∷ b) d p q = absurd (let e = p.0 in cc)
within_then (Some n ∷ a) (Some m ∷ b) [] p q = absurd q
within_then (Some n ∷ a) (Some m ∷ b) (z ∷ d) p q = (q.0 ∙ p.0, within_then a b d p.1 q.1)

abbrev pub Below : ℕ → Held → Type 0
Below n [] = Unit {0}
Below n (None ∷ hs) = Below n hs
Below n (Some m ∷ hs) = (m < n) × Below n hs

pub below_within : (n : ℕ) (a b : Held) → Within a b → Below n b → Below n a
below_within n [] b p q = tt
below_within n (None ∷ a) [] p q = absurd p
below_within n (Some m ∷ a) [] p q = absurd p
below_within n (None ∷ a) (None ∷ b) p q = below_within n a b p q
below_within n (None ∷ a) (Some k ∷ b) p q = below_within n a b p q.1
below_within n (Some m ∷ a) (None ∷ b) p q = absurd (let e = p.0 in cc)
below_within n (Some m ∷ a) (Some k ∷ b) p q =
    (let e : k ≡ m = let f = p.0 in cc in let l = q.0 in subst (λ m. m < n) e l, below_within n a b p.1 q.1)

pub below_more : (n : ℕ) (a : Held) → Below n a → Below (suc n) a
below_more n [] q = tt
below_more n (None ∷ a) q = below_more n a q
below_more n (Some m ∷ a) q = (let l = q.0 in omega (arith, l), below_more n a q.1)

pub below_others : (n : ℕ) (a : Held) → Below n a → Below n (outer_keys a)
below_others n [] q = tt
below_others n (None ∷ a) q = q
below_others n (Some m ∷ a) q = q.1

-- ---- choices

-- at each depth a possible key or none, and the chosen ones are these
abbrev pub Chosen : Held → Held → List ℕ → Type 0
Chosen [] [] [] = Unit {0}
Chosen (h ∷ hs) (None ∷ ks) ns = Chosen hs ks ns
Chosen (h ∷ hs) (Some n ∷ ks) (m ∷ ns) = (h ≡ Some n) × (n ≡ m) × Chosen hs ks ns
Chosen hs ks ns = ⊥

abbrev pub nones : Held → Held
nones [] = []
nones (h ∷ hs) = None ∷ nones hs

pub chosen_none : (hs : Held) → Chosen hs (nones hs) []
chosen_none [] = tt
chosen_none (h ∷ hs) = chosen_none hs

pub chosen_within : (a b ks : Held) (ns : List ℕ) → Within a b → Chosen a ks ns → Chosen b ks ns
chosen_within [] [] ks ns p q = q
chosen_within [] (y ∷ b) ks ns p q = absurd p
chosen_within (None ∷ a) [] ks ns p q = absurd p
chosen_within (Some n ∷ a) [] ks ns p q = absurd p
chosen_within (x ∷ a) (y ∷ b) [] ns p q = absurd q
chosen_within (None ∷ a) (y ∷ b) (None ∷ ks) ns p q = chosen_within a b ks ns p q
chosen_within (Some n ∷ a) (y ∷ b) (None ∷ ks) ns p q = chosen_within a b ks ns p.1 q
chosen_within (x ∷ a) (y ∷ b) (Some k ∷ ks) [] p q = absurd q
chosen_within (None ∷ a) (y ∷ b) (Some k ∷ ks) (m ∷ ns) p q = absurd (let e = q.0 in cc)
chosen_within (Some n ∷ a) (y ∷ b) (Some k ∷ ks) (m ∷ ns) p q = (p.0 ∙ q.0, q.1, chosen_within a b ks ns p.1 q.2)

pub not_nearest : (n : ℕ) (hs ks : Held) (ns : List ℕ) → Below n hs → Chosen hs ks ns → is_nearest n ns ≡ false
not_nearest n hs ks [] b q = refl
not_nearest n [] [] (m ∷ ns) b q = absurd q
not_nearest n [] (k ∷ ks) (m ∷ ns) b q = absurd q
not_nearest n (h ∷ hs) [] (m ∷ ns) b q = absurd q
not_nearest n (None ∷ hs) (None ∷ ks) (m ∷ ns) b q = not_nearest n hs ks (m ∷ ns) b q
not_nearest n (Some x ∷ hs) (None ∷ ks) (m ∷ ns) b q = not_nearest n hs ks (m ∷ ns) b.1 q
not_nearest n (None ∷ hs) (Some k ∷ ks) (m ∷ ns) b q = absurd (let e = q.0 in cc)
not_nearest n (Some x ∷ hs) (Some k ∷ ks) (m ∷ ns) b q =
    let e : x ≡ k = let f = q.0 in cc in let g = q.1 in let l = b.0 in grind (arith, nat_tests, e, g, l)

-- ---- one lexeme

-- how a lexeme moves the possible keys, where a key newly begins with it or not
abbrev pub Moves : Role → Bool → ℕ → Held → Held → Type 0
Moves OfNode true n hs gs = Within gs (Some n ∷ outer_keys hs)
Moves OfNode false n hs gs = Within gs hs
Moves Opens true n hs gs = Within gs (None ∷ Some n ∷ outer_keys hs)
Moves Opens false n hs gs = Within gs (None ∷ hs)
Moves Closes new n hs gs = Within gs (outer_keys hs)
Moves (Keyed m) new n hs gs = (top_of hs ≡ Some m) × Within gs (None ∷ outer_keys hs)
Moves Other new n hs gs = Within gs hs

pub below_moves : (role : Role) (new : Bool) (n : ℕ) (hs gs : Held) → Below n hs → Moves role new n hs gs
    → Below (suc n) gs
below_moves OfNode true n hs gs b p = below_within (suc n) gs (Some n ∷ outer_keys hs) p
    (omega arith, below_more n (outer_keys hs) (below_others n hs b))
below_moves OfNode false n hs gs b p = below_within (suc n) gs hs p (below_more n hs b)
below_moves Opens true n hs gs b p = below_within (suc n) gs (None ∷ Some n ∷ outer_keys hs) p
    (omega arith, below_more n (outer_keys hs) (below_others n hs b))
below_moves Opens false n hs gs b p = below_within (suc n) gs (None ∷ hs) p (below_more n hs b)
below_moves Closes new n hs gs b p = below_within (suc n) gs (outer_keys hs) p
    (below_more n (outer_keys hs) (below_others n hs b))
below_moves (Keyed m) new n hs gs b p = below_within (suc n) gs (None ∷ outer_keys hs) p.1
    (below_more n (outer_keys hs) (below_others n hs b))
below_moves Other new n hs gs b p = below_within (suc n) gs hs p (below_more n hs b)

abbrev pub role_key : Role → Option ℕ
role_key (Keyed n) = Some n
role_key role = None

abbrev pub and_number : Option ℕ → List ℕ → List ℕ
and_number None ns = ns
and_number (Some n) ns = n ∷ ns

abbrev pub pending : Bool → Role → List ℕ → List ℕ
pending true role ns = and_number (role_key role) (others ns)
pending false role ns = and_number (role_key role) ns

pub record Stepped (role : Role) (new : Bool) (n : ℕ) (hs ks : Held) (ns : List ℕ) : Type 0 where
  pub flag : Bool
  pub flags : is_nearest n ns ≡ flag
  pub begun : flag ≡ true → new ≡ true
  pub before : Held
  -- no key is due where one begins
  pub alone : flag ≡ true → top_of before ≡ None
  pub chosen : Chosen hs before (pending flag role ns)
  pub fits : role_fits role before ≡ true
  pub next : keys_behind role flag n before ≡ ks

nearest : (n k m : ℕ) → ◌≡◌ {A = Option ℕ} (Some n) (Some k) → k ≡ m → (m == n) ≡ true
nearest n k m e f = let g : n ≡ k = cc in grind (arith, nat_tests, g, f)

begins_new : (n : ℕ) (h : Option ℕ) (hs ks : Held) (ns : List ℕ) → Below n (h ∷ hs) → Chosen (Some n ∷ hs) ks ns
    → Stepped OfNode true n (h ∷ hs) ks ns
begins_new n h hs [] ns b q = absurd q
begins_new n h hs (None ∷ ks) ns b q = record {
  flag = false;
  flags = not_nearest n hs ks ns (below_others n (h ∷ hs) b)
      q;
  begun = λ e. refl;
  before = None ∷ ks;
  alone = λ e. refl;
  chosen = q;
  fits = refl;
  next = refl;
}
begins_new n h hs (Some k ∷ ks) [] b q = absurd q
begins_new n h hs (Some k ∷ ks) (m ∷ ns) b q =
    record {
      flag = true;
      flags = nearest n k m q.0 q.1;
      begun = λ e. refl;
      before = None
          ∷ ks;
      alone = λ e. refl;
      chosen = q.2;
      fits = refl;
      next = ap (λ (x : Option ℕ). x ∷ ks) q.0;
    }

opens_new : (n : ℕ) (h : Option ℕ) (hs ks : Held) (ns : List ℕ) → Below n (h ∷ hs) → Chosen (None ∷ Some n ∷ hs) ks ns
    → Stepped Opens true n (h ∷ hs) ks ns
opens_new n h hs [] ns b q = absurd q
opens_new n h hs (Some k ∷ ks) [] b q = absurd q
opens_new n h hs (Some k ∷ ks) (m ∷ ns) b q = absurd (let e = q.0 in cc)
opens_new n h hs (None ∷ ks) ns b q = let s = begins_new n h hs ks ns b
    q in record {
      flag = s.flag;
      flags = s.flags;
      begun = s.begun;
      before = s.before;
      alone = s.alone;
      chosen = as_opens
          s.flag s.before s.chosen;
      fits = refl;
      next = ap (λ (l : Held). None ∷ l) s.next;
    }
  where
    as_opens : (flag : Bool) (before : Held) → Chosen (h ∷ hs) before (pending flag OfNode ns)
        → Chosen (h ∷ hs) before (pending flag Opens ns)
    as_opens true before p = p
    as_opens false before p = p

kept : (role : Role) (new : Bool) (n : ℕ) (hs gs before ks : Held) (ns : List ℕ) → Below n gs → Chosen gs ks ns
    → Chosen hs before (pending false role ns) → role_fits role before ≡ true → keys_behind role false n before ≡ ks
    → Stepped role new n hs ks ns
kept role new n hs gs before ks ns b q c f x =
    record {
      flag = false;
      flags = not_nearest n gs ks ns b q;
      begun = λ e. absurd cc;
      before = before;
      alone =
          λ e. absurd cc;
      chosen = c;
      fits = f;
      next = x;
    }

opens_old : (n : ℕ) (hs ks : Held) (ns : List ℕ) → Below n hs → Chosen (None ∷ hs) ks ns
    → Stepped Opens false n hs ks ns
opens_old n hs [] ns b q = absurd q
opens_old n hs (Some k ∷ ks) [] b q = absurd q
opens_old n hs (Some k ∷ ks) (m ∷ ns) b q = absurd (let e = q.0 in cc)
opens_old n hs (None ∷ ks) ns b q = kept Opens false n hs (None ∷ hs) ks (None ∷ ks) ns b q q refl refl

keyed : (m : ℕ) (new : Bool) (n : ℕ) (hs ks : Held) (ns : List ℕ) → Below n hs → Chosen (None ∷ hs) ks ns
    → Stepped (Keyed m) new n (Some m ∷ hs) ks ns
keyed m new n hs [] ns b q = absurd q
keyed m new n hs (Some k ∷ ks) [] b q = absurd q
keyed m new n hs (Some k ∷ ks) (x ∷ ns) b q = absurd (let e = q.0 in cc)
keyed m new n hs (None ∷ ks) ns b q = kept (Keyed m) new n (Some m ∷ hs) (None ∷ hs) (Some m ∷ ks) (None ∷ ks) ns b q
    (refl, refl, q) (eq-eqb m m refl) refl

stepped_on : (role : Role) (new : Bool) (n : ℕ) (h : Option ℕ) (hs gs ks : Held) (ns : List ℕ) → Below n (h ∷ hs)
    → Moves role new n (h ∷ hs) gs → Chosen gs ks ns → Stepped role new n (h ∷ hs) ks ns
stepped_on OfNode true n h hs gs ks ns b p q = begins_new n h hs ks ns b (chosen_within gs (Some n ∷ hs) ks ns p q)
stepped_on OfNode false n h hs gs ks ns b p q = let c = chosen_within gs (h ∷ hs) ks ns p q in kept OfNode false n
    (h ∷ hs) (h ∷ hs) ks ks ns b c c refl refl
stepped_on Opens true n h hs gs ks ns b p q = opens_new n h hs ks ns b (chosen_within gs (None ∷ Some n ∷ hs) ks ns p q)
stepped_on Opens false n h hs gs ks ns b p q = opens_old n (h ∷ hs) ks ns b (chosen_within gs (None ∷ h ∷ hs) ks ns p q)
stepped_on Closes new n h hs gs ks ns b p q = let c = chosen_within gs hs ks ns p q in kept Closes new n (h ∷ hs) hs
    (None ∷ ks) ks ns (below_others n (h ∷ hs) b) c c refl refl
stepped_on (Keyed m) new n h hs gs ks ns b p q =
    subst (λ (x : Option ℕ). Stepped (Keyed m) new n (x ∷ hs) ks ns) (sym p.0)
    (keyed m new n hs ks ns (below_others n (h ∷ hs) b) (chosen_within gs (None ∷ hs) ks ns p.1 q))
stepped_on Other new n h hs gs ks ns b p q = let c = chosen_within gs (h ∷ hs) ks ns p q in kept Other new n (h ∷ hs)
    (h ∷ hs) ks ks ns b c c refl refl

pub stepped : (role : Role) (new : Bool) (n : ℕ) (hs gs ks : Held) (ns : List ℕ) → hs ≡ top_of hs ∷ outer_keys hs
    → Below n hs → Moves role new n hs gs → Chosen gs ks ns → Stepped role new n hs ks ns
stepped role new n [] gs ks ns e b p q = absurd cc
stepped role new n (h ∷ hs) gs ks ns e b p q = stepped_on role new n h hs gs ks ns b p q
