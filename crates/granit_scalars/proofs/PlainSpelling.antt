-- A plain scalar's spelling goes one way, so what ends one leaves no longer one.
use Rattle.std.proofs.Common.{◌≡◌, ℕ, ◌==◌, Bool, true, false, not, ◌&&◌, ◌||◌, List, [], ◌∷◌, ◌++◌, refl, sym, ap, ap₂}
use Rattle.std.proofs.Common.{◌∙◌, subst, append_assoc, append-nil, ◌⊎◌, inl, inr}
use Rattle.std.specs.Prelude.{slice_index}
use Rattle.granit_base.specs.Classes.{is_blank, is_break, is_breakz, is_blank_or_breakz, is_flow, is_gap, is_z}
use Rattle.granit_base.specs.Place.{first}
use Rattle.granit_lexemes.proofs.CharTests.{blank_apart_from_break, blank_gap, break_gap}
use Rattle.granit_lexemes.specs.Gap.{Each}
use Rattle.granit_lexemes.specs.LayoutData.{LayoutData}
use Rattle.granit_base.specs.PlainContent.{is_content}
use Rattle.granit_lexemes.proofs.PlainTurned.{no_gap_of}
use Rattle.granit_lexemes.specs.PlainExtent.{Separation, OnLine, Folded, separation_text, UpToBreak, at_break}
use Rattle.granit_lexemes.specs.PlainExtent.{before_break, IsSeparation, MayFollow, GoesOn, ends, goes_on, SpellsPlain}
use Rattle.granit_lexemes.specs.PlainExtent.{PlainExtent, EndsPlain, nothing_more, colon, flow_indicator, comment}
use Rattle.granit_lexemes.specs.PlainExtent.{comment_line, outside_line, tab_line, document_mark}

-- what content is not
pub record Solid (c : ℕ) : Type 0 where
  pub no_blank : is_blank c ≡ false
  pub no_break : is_break c ≡ false
  pub no_z : is_z c ≡ false
  pub no_gap : is_gap c ≡ false

solid_parts : (a b z p : Bool) → (not (a || (b || z)) && p) ≡ true → (a ≡ false) × (b ≡ false) × (z ≡ false)
solid_parts true b z p e = cc
solid_parts false true z p e = cc
solid_parts false false true p e = cc
solid_parts false false false p e = (refl, refl, refl)

rest_parts : (a k i : Bool) → (a && (not k && not i)) ≡ true → (k ≡ false) × (i ≡ false)
rest_parts false k i e = cc
rest_parts true true i e = cc
rest_parts true false true e = cc
rest_parts true false false e = (refl, refl)

-- the tests that content passes
abbrev pub colon_found : Bool → List ℕ → Bool
colon_found in_flow text = first text == 0x3A
    && (is_blank_or_breakz (slice_index text 1) || (in_flow && is_flow (slice_index text 1)))

abbrev pub indicator_found : Bool → List ℕ → Bool
indicator_found in_flow text = in_flow && is_flow (first text)

no_indicator : (in_flow : Bool) (text : List ℕ) → is_content in_flow text ≡ true
    → (colon_found in_flow text ≡ false) × (indicator_found in_flow text ≡ false)
no_indicator in_flow text e = rest_parts (not (is_blank_or_breakz (first text))) (colon_found in_flow text)
    (indicator_found in_flow text) e

no_content_parts : (a b z k i : Bool) → (not (a || (b || z)) && (not k && not i)) ≡ false → a ≡ false → b ≡ false
    → (z ≡ true) ⊎ ((k ≡ true) ⊎ (i ≡ true))
no_content_parts true b z k i e p q = cc
no_content_parts false true z k i e p q = cc
no_content_parts false false true k i e p q = inl refl
no_content_parts false false false true i e p q = inr (inl refl)
no_content_parts false false false false true e p q = inr (inr refl)
no_content_parts false false false false false e p q = cc

-- what stands there where neither content nor a blank nor a break does
pub no_content_is : (in_flow : Bool) (text : List ℕ) → is_content in_flow text ≡ false → is_blank (first text) ≡ false
    → is_break (first text) ≡ false
    → (is_z (first text) ≡ true) ⊎ ((colon_found in_flow text ≡ true) ⊎ (indicator_found in_flow text ≡ true))
unfolding is_blank_or_breakz is_breakz
no_content_is in_flow text e p q = no_content_parts (is_blank (first text)) (is_break (first text)) (is_z (first text))
    (colon_found in_flow text) (indicator_found in_flow text) e p q

pub solid : (flow : Bool) (text : List ℕ) → is_content flow text ≡ true → Solid (first text)
unfolding is_blank_or_breakz is_breakz
solid flow text e =
    let p = solid_parts (is_blank (first text)) (is_break (first text)) (is_z (first text)) _ e in
    record { no_blank = p.0; no_break = p.1; no_z = p.2; no_gap = no_gap_of (first text) p.0 p.1 }

-- ---- separations

pub blanks_gap : (bs : List ℕ) → Each is_blank bs → Each is_gap bs
blanks_gap [] y = tt
blanks_gap (b ∷ bs) y = (blank_gap b y.0, blanks_gap bs y.1)

breaks_gap : {breaks : List ℕ} → UpToBreak breaks → (indent : List ℕ) → Each is_gap indent
    → Each is_gap (breaks ++ indent)
breaks_gap (at_break {c} y) indent e = (break_gap c y, e)
breaks_gap (before_break y up) indent e = (y, breaks_gap up indent e)

pub separation_gap : (g : Separation) → IsSeparation g → Each is_gap (separation_text g)
separation_gap (OnLine blanks) y = blanks_gap blanks y
separation_gap (Folded breaks indent) y = breaks_gap y.0 indent (blanks_gap indent y.1)

-- blanks and breaks before something else are as many as can be
pub same_front : (f g a b : List ℕ) → f ++ a ≡ g ++ b → Each is_gap f → Each is_gap g → is_gap (first a) ≡ false
    → is_gap (first b) ≡ false → (f ≡ g) × (a ≡ b)
same_front [] [] a b e p q n m = (refl, e)
same_front [] (d ∷ g) a b e p q n m = absurd (let h : is_gap (first a) ≡ true = ap (λ (t : List ℕ). is_gap (first t)) e
    ∙ q.0 in cc)
same_front (c ∷ f) [] a b e p q n m = absurd (let h : is_gap (first b)
    ≡ true = ap (λ (t : List ℕ). is_gap (first t)) (sym e) ∙ p.0 in cc)
same_front (c ∷ f) (d ∷ g) a b e p q n m =
    let h : c ≡ d = cc in
    let t : f ++ a ≡ g ++ b = cc in
    let s = same_front f g a b t p.1 q.1 n m in
    (ap₂ (λ k (l : List ℕ). k ∷ l) h s.0, s.1)

-- blanks hold no break
no_break_among : {breaks : List ℕ} → UpToBreak breaks → (bs indent : List ℕ) → bs ≡ breaks ++ indent → Each is_blank bs
    → ⊥
no_break_among (at_break h) [] indent e y = cc
no_break_among (before_break h up) [] indent e y = cc
no_break_among (at_break {c} h) (b ∷ bs) indent e y =
    let same : b ≡ c = cc in
    let n : is_break c ≡ false = blank_apart_from_break c (ap is_blank (sym same) ∙ y.0) in
    cc
no_break_among (before_break {cs = cs} h up) (b ∷ bs) indent e y = let rest : bs
    ≡ cs ++ indent = cc in no_break_among up bs indent rest y.1

same_fold : {breaks others : List ℕ} → UpToBreak breaks → UpToBreak others → (indent blanks : List ℕ)
    → Each is_blank indent → Each is_blank blanks → breaks ++ indent ≡ others ++ blanks
    → Folded breaks indent ≡ Folded others blanks
same_fold (at_break {c} h) (at_break {c = d} k) indent blanks y z e = let same : c ≡ d = cc in let rest : indent
    ≡ blanks = cc in ap₂ (λ n (l : List ℕ). Folded (n ∷ []) l) same rest
same_fold (at_break {c} h) (before_break {cs = cs} k up) indent blanks y z e = let rest : indent
    ≡ cs ++ blanks = cc in absurd (no_break_among up indent blanks rest y)
same_fold (before_break {cs = cs} h up) (at_break {c = d} k) indent blanks y z e = let rest : blanks
    ≡ cs ++ indent = cc in absurd (no_break_among up blanks indent rest z)
same_fold (before_break {c} {cs} h up) (before_break {c = d} {cs = ds} k down) indent blanks y z e =
    let same : c ≡ d = cc in
    let rest : cs ++ indent ≡ ds ++ blanks = cc in
    let s = same_fold up down indent blanks y z rest in
    let p : cs ≡ ds = cc in
    let q : indent ≡ blanks = cc in
    rw (same, p, q) refl

-- a text is a separation in one way
pub same_separation : (g k : Separation) → IsSeparation g → IsSeparation k → separation_text g ≡ separation_text k
    → g ≡ k
same_separation (OnLine a) (OnLine b) p q e = ap OnLine e
same_separation (OnLine a) (Folded breaks indent) p q e = absurd (no_break_among q.0 a indent e p)
same_separation (Folded breaks indent) (OnLine b) p q e = absurd (no_break_among p.0 b indent (sym e) q)
same_separation (Folded breaks indent) (Folded others blanks) p q e = same_fold p.0 q.0 indent blanks p.1 q.1 e

-- ---- what goes on

-- what ends a scalar may not follow
pub ended : {at : LayoutData} {g : Separation} {rest : List ℕ} → EndsPlain at g rest → is_content at.in_flow rest ≡ true
    → MayFollow at g rest → ⊥
ended {at} {rest = rest} (nothing_more h) c f = let n = (solid at.in_flow rest c).no_z in cc
ended {at} {rest = rest} (colon h) c f = let n = (no_indicator at.in_flow rest c).0 in cc
ended {at} {rest = rest} (flow_indicator h) c f = let n = (no_indicator at.in_flow rest c).1 in cc
ended (comment h) c f = cc
ended (comment_line h) c f = let n = f.0 in cc
ended (outside_line h) c f = let n = f.1 in cc
ended (tab_line h) c f = let n = f.2 in cc
ended (document_mark h) c f = let n = f.3 in cc

not_nil : (f t : List ℕ) (c : ℕ) → [] ≡ f ++ c ∷ t → ⊥
not_nil [] t c e = cc
not_nil (d ∷ f) t c e = cc

-- a spelling that goes on behind a separation and content goes on behind these in any other
cancel_on : {at : LayoutData} {source behind : List ℕ} → GoesOn at source behind
    → (g : Separation) (c : ℕ) (cs more : List ℕ) → source ≡ (separation_text g ++ c ∷ cs) ++ more → IsSeparation g
    → is_gap c ≡ false
    → ((ds : List ℕ) → GoesOn at ds behind → ds ≡ cs ++ more → GoesOn at more behind) → GoesOn at more behind
cancel_on ends g c cs more e s n rest = absurd
    (not_nil (separation_text g) (cs ++ more) c (e ∙ append_assoc (separation_text g) (c ∷ cs) more))
cancel_on {at} (goes_on {behind = behind} {cs = ds} k d f t content follows goes) g c cs more e s n rest =
    let joined : separation_text k ++ d ∷ ds ≡ separation_text g ++ c ∷ (cs ++ more) = sym f ∙ e
    ∙ append_assoc (separation_text g) (c ∷ cs) more in
    let parts = same_front (separation_text k) (separation_text g) (d ∷ ds) (c ∷ (cs ++ more)) joined
    (separation_gap k t) (separation_gap g s) (solid at.in_flow (d ∷ (ds ++ behind)) content).no_gap n in
    let same = parts.1 in
    rest ds goes cc

-- so a longer spelling goes on behind a shorter one
cancel : {at : LayoutData} {source behind : List ℕ} → GoesOn at source behind → (longer more rest : List ℕ)
    → GoesOn at longer rest → longer ≡ source ++ more → behind ≡ more ++ rest → GoesOn at more rest
cancel {at} ends longer more rest goes e f = subst (λ (t : List ℕ). GoesOn at t rest) e goes
cancel {at} (goes_on {behind = behind} {cs = cs} g c eq s content follows on) longer more rest goes e f =
    cancel_on goes g c cs more (e ∙ ap (λ (t : List ℕ). t ++ more) eq) s
    (solid at.in_flow (c ∷ (cs ++ behind)) content).no_gap (λ ds onward same. cancel on ds more rest onward same f)

-- nothing goes on behind what ends a scalar
stops : {at : LayoutData} {more rest : List ℕ} → GoesOn at more rest → (tail : Separation) (behind : List ℕ)
    → separation_text tail ++ behind ≡ more ++ rest → IsSeparation tail → is_gap (first behind) ≡ false
    → EndsPlain at tail behind → more ≡ []
stops ends tail behind e s n over = refl
stops {at} (goes_on {behind = rest} {cs = cs} g c eq t content follows on) tail behind e s n over =
    let joined : separation_text tail ++ behind ≡ separation_text g ++ c ∷ (cs ++ rest) = e
    ∙ ap (λ (l : List ℕ). l ++ rest) eq ∙ append_assoc (separation_text g) (c ∷ cs) rest in
    let parts = same_front (separation_text tail) (separation_text g) behind (c ∷ (cs ++ rest)) joined
    (separation_gap tail s) (separation_gap g t) n (solid at.in_flow (c ∷ (cs ++ rest)) content).no_gap in
    let same = same_separation tail g s t parts.0 in
    absurd (ended over
    (subst (λ (l : List ℕ). is_content at.in_flow l ≡ true) (sym parts.1) content)
    (subst (λ (k : Separation). MayFollow at k behind) (sym same)
    (subst (λ (l : List ℕ). MayFollow at g l) (sym parts.1) follows)))

-- a scalar that is ended is as long as can be
pub no_longer : {at : LayoutData} (start : ℕ) (cs : List ℕ) (tail : Separation) (behind : List ℕ)
    → GoesOn at cs (separation_text tail ++ behind) → IsSeparation tail → is_gap (first behind) ≡ false
    → EndsPlain at tail behind
    → (more rest : List ℕ) → separation_text tail ++ behind ≡ more ++ rest → SpellsPlain at ((start ∷ cs) ++ more) rest
    → more ≡ []
no_longer start cs tail behind goes s n over more rest e longer =
    let same = longer.begins in
    let onward : longer.more ≡ cs ++ more = cc in
    stops (cancel goes longer.more more rest longer.goes onward e) tail behind e s n over

-- ---- one extent

-- of two ways to part a text, one goes at least as far
abbrev pub Further : (a b c d : List ℕ) → Type 0
Further a b c d = (more : List ℕ) × (a ++ more ≡ c) × (b ≡ more ++ d)

further_on : (x y : ℕ) (a b c d : List ℕ) → x ≡ y → Further a b c d ⊎ Further c d a b
    → Further (x ∷ a) b (y ∷ c) d ⊎ Further (y ∷ c) d (x ∷ a) b
further_on x y a b c d e (inl f) = inl (f.0, ap₂ (λ n (l : List ℕ). n ∷ l) e f.1, f.2)
further_on x y a b c d e (inr f) = inr (f.0, ap₂ (λ n (l : List ℕ). n ∷ l) (sym e) f.1, f.2)

further : (a b c d : List ℕ) → a ++ b ≡ c ++ d → Further a b c d ⊎ Further c d a b
further [] b c d e = inl (c, refl, e)
further (x ∷ a) b [] d e = inr (x ∷ a, refl, sym e)
further (x ∷ a) b (y ∷ c) d e = let h : x ≡ y = cc in let t : a ++ b
    ≡ c ++ d = cc in further_on x y a b c d h (further a b c d t)

none_further : {at : LayoutData} {text s b t d : List ℕ} → PlainExtent at text s b → PlainExtent at text t d
    → Further s b t d → t ≡ s
none_further {at} {s = s} {d = d} p q f =
    let none = p.longest f.0 d f.2 (subst (λ (l : List ℕ). SpellsPlain at l d) (sym f.1) q.spelled) in
    sym f.1 ∙ ap (λ (l : List ℕ). s ++ l) none ∙ append-nil s

either_further : {at : LayoutData} {text s b t d : List ℕ} → PlainExtent at text s b → PlainExtent at text t d
    → Further s b t d ⊎ Further t d s b → s ≡ t
either_further p q (inl f) = sym (none_further p q f)
either_further p q (inr f) = none_further q p f

-- one plain scalar begins a text
pub one_extent : {at : LayoutData} {text s b t d : List ℕ} → PlainExtent at text s b → PlainExtent at text t d → s ≡ t
one_extent {s = s} {b = b} {t = t} {d = d} p q = either_further p q (further s b t d (sym p.whole ∙ q.whole))
