-- A plain scalar that stands somewhere is the only one there, and is answered.
use Rattle.std.proofs.Common.{◌≡◌, ℕ, true, false, List, ◌++◌, Option, Some, None, Result, Ok, Err, refl, sym, ap, ap₂}
use Rattle.std.proofs.Common.{◌∙◌, subst}
use Rattle.std.proofs.lemmas.List.{append_cancel_left}
use Rattle.granit_base.specs.Place.{Mark, first}
use Rattle.granit_error.specs.FaultKind.{FaultKind, PlainScalarStartsWithDashFlowIndicator, TabInPlainScalar}
use Rattle.granit_error.specs.FaultKind.{UnexpectedCharacter}
use Rattle.granit_lexemes.specs.Here.{Here, mark_of}
use Rattle.granit_lexemes.specs.LayoutData.{LayoutData}
use Rattle.granit_lexemes.specs.Outcome.{Fault, fault_at}
use Rattle.granit_lexemes.specs.PlainExtent.{Separation, separation_text, PlainStands, tab_refused, behind_of}
use Rattle.granit_lexemes.specs.PlainExtent.{plain_answer, is_unprintable_at, is_flow_dash, AnswersPlain, PlainUntabbed}
use Rattle.granit_lexemes.specs.PlainExtent.{RefusesDash, RefusesTab, RefusesPlain, RefusesCharacter, is_inside}
use Rattle.granit_lexemes.specs.PlainExtent.{is_behind}
use Rattle.granit_lexemes.specs.Basics.{unprintable}
use Rattle.granit_lexemes.specs.PlainScalar.{PlainRead, plain_scalar}
use Rattle.granit_base.specs.PlainContent.{is_content}
use Rattle.granit_scalars.proofs.Nameless.{plain_none}
use Rattle.granit_scalars.proofs.PlainLaw.{Answered, answered}
use Rattle.granit_scalars.proofs.PlainSpelling.{one_extent, separation_gap, same_front, same_separation}

-- the scalar and what stands behind it are known by where they stand
pub one_standing : (at : LayoutData) (h : Here) (s u : List ℕ) (g k : Separation) (r v : List ℕ)
    → PlainStands at h s g r → PlainStands at h u k v → (s ≡ u) × (g ≡ k) × (r ≡ v)
one_standing at h s u g k r v p q =
    let source = one_extent p.extent q.extent in
    let joined : s ++ (separation_text g ++ r) ≡ s ++ (separation_text k ++ v) = sym p.extent.whole ∙ q.extent.whole
    ∙ ap (λ (t : List ℕ). t ++ (separation_text k ++ v)) (sym source) in
    let behind = append_cancel_left s (separation_text g ++ r) (separation_text k ++ v) joined in
    let parts = same_front (separation_text g) (separation_text k) r v behind (separation_gap g p.separation)
    (separation_gap k q.separation) p.behind q.behind in
    (source, same_separation g k p.separation q.separation parts.0, parts.1)

-- content begins it
pub begins_content : (at : LayoutData) (h : Here) (s : List ℕ) (g : Separation) (r : List ℕ) → PlainStands at h s g r
    → is_content at.in_flow h.unread.text ≡ true
begins_content at h s g r p =
    let spelled = p.extent.spelled in
    subst (λ (t : List ℕ). is_content at.in_flow t ≡ true)
    (sym (p.extent.whole ∙ ap (λ (t : List ℕ). t ++ (separation_text g ++ r)) spelled.begins)) spelled.content

no_character : (at : LayoutData) (h : Here) (read : PlainRead) (after : Here) (c : ℕ) (m : Mark)
    → AnswersPlain at h read after → RefusesCharacter at h c m → ⊥
no_character at h read after c m p (is_inside source tail rest stands held marks) =
    let one = one_standing at h p.source source p.tail tail p.rest rest p.stands stands.stands in
    let same : unprintable p.source ≡ Some c = ap unprintable one.0 ∙ held in
    let none = p.inside in
    cc
no_character at h read after c m p (is_behind source tail rest stands inside held is marks) =
    let one = one_standing at h p.source source p.tail tail p.rest rest p.stands stands.stands in
    let same : is_unprintable_at p.rest ≡ true = ap is_unprintable_at one.2 ∙ held in
    let none = p.printable in
    cc

not_refused : (at : LayoutData) (h : Here) (read : PlainRead) (after : Here) (kind : FaultKind) (m : Mark)
    → AnswersPlain at h read after → RefusesPlain at h kind m → ⊥
not_refused at h read after PlainScalarStartsWithDashFlowIndicator m p w = let dash = w.dash in let none =
    p.no_dash in cc
not_refused at h read after TabInPlainScalar m p w =
    let one = one_standing at h p.source w.source p.tail w.tail p.rest w.rest p.stands w.stands in
    let same : tab_refused at p.tail p.rest ≡ true = ap₂ (tab_refused at) one.1 one.2 ∙ w.tab in
    let none = p.no_tab in
    cc
not_refused at h read after (UnexpectedCharacter c) m p w = no_character at h read after c m p w
not_refused at h read after kind m p w = w

same_answer : (at : LayoutData) (h : Here) (s u : List ℕ) (g k : Separation) (r v : List ℕ) → s ≡ u → g ≡ k → r ≡ v
    → plain_answer at h s g r ≡ plain_answer at h u k v
same_answer at h s u g k r v a b c = rw (a, b, c) refl

answer_of : (at : LayoutData) (h : Here) (read : PlainRead) (after : Here) → AnswersPlain at h read after
    → (given : Result (PlainRead × Here) Fault) → Answered at h given → given ≡ Ok (read, after)
answer_of at h read after p (Ok (other, behind)) a =
    let one = one_standing at h a.source p.source a.tail p.tail a.rest p.rest a.stands p.stands in
    let same : other ≡ read = a.answer ∙ same_answer at h a.source p.source a.tail p.tail a.rest p.rest one.0 one.1
    one.2 ∙ sym p.answer in
    let place : behind ≡ after = a.reached ∙ ap₂ (behind_of h) one.0 one.1 ∙ sym p.reached in
    ap₂ (λ (x : PlainRead) (y : Here). Ok (x, y)) same place
answer_of at h read after p (Err f) w = absurd (not_refused at h read after f.kind f.mark p w)

-- a scalar that nothing refuses is answered
pub is_answered : (at : LayoutData) (h : Here) (read : PlainRead) (after : Here) → AnswersPlain at h read after
    → plain_scalar at h ≡ Ok (read, after)
is_answered at h read after p = answer_of at h read after p (plain_scalar at h)
    (answered at h (begins_content at h p.source p.tail p.rest p.stands))

-- an answer is what stands there
pub is_standing : (at : LayoutData) (h : Here) (read : PlainRead) (after : Here)
    → is_content at.in_flow h.unread.text ≡ true → plain_scalar at h ≡ Ok (read, after) → AnswersPlain at h read after
is_standing at h read after y e = subst (Answered at h) e (answered at h y)

-- a refusal has its cause
pub is_refused : (at : LayoutData) (h : Here) (f : Fault) → is_content at.in_flow h.unread.text ≡ true
    → plain_scalar at h ≡ Err f → RefusesPlain at h f.kind f.mark
is_refused at h f y e = subst (Answered at h) e (answered at h y)

-- ---- one cause

-- two causes are of one scalar
one_untabbed : (at : LayoutData) (h : Here) (s u : List ℕ) (g k : Separation) (r v : List ℕ) → PlainUntabbed at h s g r
    → PlainUntabbed at h u k v → (s ≡ u) × (g ≡ k) × (r ≡ v)
one_untabbed at h s u g k r v p q = one_standing at h s u g k r v p.stands q.stands

one_character : (at : LayoutData) (h : Here) (c d : ℕ) (m n : Mark) → RefusesCharacter at h c m
    → RefusesCharacter at h d n → (c ≡ d) × (m ≡ n)
one_character at h c d m n (is_inside s g r p e f) (is_inside u k v q i j) =
    let one = one_untabbed at h s u g k r v p q in
    let same : ◌≡◌ {A = Option ℕ} (Some c) (Some d) = sym e ∙ ap unprintable one.0 ∙ i in
    (cc, f ∙ sym j)
one_character at h c d m n (is_inside s g r p e f) (is_behind u k v q none i is j) =
    absurd (let one = one_untabbed at h s u g k r v p q in let same : ◌≡◌ {A = Option ℕ} (Some c) None = sym e
    ∙ ap unprintable one.0 ∙ none in cc)
one_character at h c d m n (is_behind s g r p none e is f) (is_inside u k v q i j) =
    absurd (let one = one_untabbed at h s u g k r v p q in let same : ◌≡◌ {A = Option ℕ} None (Some d) = sym none
    ∙ ap unprintable one.0 ∙ i in cc)
one_character at h c d m n (is_behind s g r p none e is f) (is_behind u k v q other i so j) =
    let one = one_untabbed at h s u g k r v p q in (
      is ∙ ap first one.2 ∙ sym so,
      f ∙ ap₂ (λ (x : List ℕ) (y : Separation). mark_of (behind_of h x y)) one.0 one.1
          ∙ sym j,
    )

no_dash_of : (at : LayoutData) (h : Here) (c : ℕ) (m : Mark) → RefusesCharacter at h c m
    → is_flow_dash at h.unread.text ≡ false
no_dash_of at h c m (is_inside s g r p e f) = p.no_dash
no_dash_of at h c m (is_behind s g r p none e is f) = p.no_dash

tab_or_character : (at : LayoutData) (h : Here) (c : ℕ) (m n : Mark) → RefusesTab at h m → RefusesCharacter at h c n → ⊥
tab_or_character at h c m n w (is_inside s g r p e f) =
    let one = one_standing at h w.source s w.tail g w.rest r w.stands p.stands in
    let same : true ≡ false = sym w.tab ∙ ap₂ (tab_refused at) one.1 one.2 ∙ p.no_tab in
    cc
tab_or_character at h c m n w (is_behind s g r p none e is f) =
    let one = one_standing at h w.source s w.tail g w.rest r w.stands p.stands in
    let same : true ≡ false = sym w.tab ∙ ap₂ (tab_refused at) one.1 one.2 ∙ p.no_tab in
    cc

dash_or_none : (at : LayoutData) (h : Here) (m : Mark) → RefusesDash at h m → is_flow_dash at h.unread.text ≡ false → ⊥
dash_or_none at h m w e = let d = w.dash in cc

-- at most one cause at one mark
pub one_plain_cause : (at : LayoutData) (h : Here) (kind other : FaultKind) (m n : Mark) → RefusesPlain at h kind m
    → RefusesPlain at h other n → (kind ≡ other) × (m ≡ n)
one_plain_cause at h PlainScalarStartsWithDashFlowIndicator PlainScalarStartsWithDashFlowIndicator m n p q =
    (refl, p.marks ∙ sym q.marks)
one_plain_cause at h PlainScalarStartsWithDashFlowIndicator TabInPlainScalar m n p q = absurd
    (dash_or_none at h m p q.no_dash)
one_plain_cause at h PlainScalarStartsWithDashFlowIndicator (UnexpectedCharacter d) m n p q = absurd
    (dash_or_none at h m p (no_dash_of at h d n q))
one_plain_cause at h TabInPlainScalar PlainScalarStartsWithDashFlowIndicator m n p q = absurd
    (dash_or_none at h n q p.no_dash)
one_plain_cause at h TabInPlainScalar TabInPlainScalar m n p q = (refl, p.marks ∙ sym q.marks)
one_plain_cause at h TabInPlainScalar (UnexpectedCharacter d) m n p q = absurd (tab_or_character at h d m n p q)
one_plain_cause at h (UnexpectedCharacter c) PlainScalarStartsWithDashFlowIndicator m n p q = absurd
    (dash_or_none at h n q (no_dash_of at h c m p))
one_plain_cause at h (UnexpectedCharacter c) TabInPlainScalar m n p q = absurd (tab_or_character at h c n m q p)
one_plain_cause at h (UnexpectedCharacter c) (UnexpectedCharacter d) m n p q = let one = one_character at h c d m n p
    q in (ap (λ (c : ℕ). UnexpectedCharacter c) one.0, one.1)
one_plain_cause at h kind PlainScalarStartsWithDashFlowIndicator m n p q = absurd p
one_plain_cause at h kind TabInPlainScalar m n p q = absurd p
one_plain_cause at h kind (UnexpectedCharacter d) m n p q = absurd p
one_plain_cause at h kind other m n p q = absurd q

-- what has a cause is refused with exactly that
pub plain_cause_refused : (at : LayoutData) (h : Here) (kind : FaultKind) (m : Mark)
    → is_content at.in_flow h.unread.text ≡ true → RefusesPlain at h kind m → plain_scalar at h ≡ Err (fault_at kind m)
plain_cause_refused at h kind m y p = on (plain_scalar at h) refl (answered at h y)
  where
    on : (r : Result (PlainRead × Here) Fault) → plain_scalar at h ≡ r → Answered at h r → r ≡ Err (fault_at kind m)
    on (Ok (read, after)) e a = absurd (not_refused at h read after kind m a p)
    on (Err f) e w =
        let one = one_plain_cause at h f.kind kind f.mark m w p in
        ap (λ (sources : List _). Err (record f { sources = sources })) ((plain_none at h).none f e)
        ∙ ap₂ (λ (k : FaultKind) (n : Mark). Err (fault_at k n)) one.0 one.1
