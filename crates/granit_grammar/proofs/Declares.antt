-- The kept scope is what the lexemes before a place declare.
use Rattle.std.proofs.Common.{◌≡◌, ℕ, suc, Bool, true, false, List, [], ◌∷◌, ◌++◌, refl, sym, ap, ◌∙◌, inl, inr, Option}
use Rattle.std.proofs.Common.{Some, None}
use Rattle.std.specs.Prelude.{◌⊎◌, if◌then◌else◌, nat_eq}
use lib.Pointwise.{pointwise}
use Rattle.granit_base.specs.Written.{Written}
use Rattle.granit_language.specs.Declared.{is_mark, is_anchor_of, is_handle_of, is_version, no_kind, one_more, anchors}
use Rattle.granit_language.specs.Declared.{Without, LastSince, NoneBehind, NoneSince, NamedBy, DeclaredBy, InForce}
use Rattle.granit_language.specs.Declared.{NotInForce}
use Rattle.granit_language.specs.Scope.{Scope, no_scope, entry_of}
use Rattle.granit_language.specs.Scoping.{next_scope, scope_behind, number_of_anchor}
use Rattle.granit_language.specs.Terminal.{Anchor, Tag, Alias, Property, Scalar, Open, TerminalKind, Directive}
use Rattle.granit_language.specs.Terminal.{DocumentStart, DocumentEnd, Part, At, Terminal, terminal}
use Rattle.granit_lexemes.specs.Lexeme.{Version, TagPrefix, Reserved}

-- what a lexeme does to a part of the scope: a mark clears it, what a test finds sets it
pub data Change {A : Type 0} (marks finds : Bool) (old new : Option A) : Type 0 where
  clears : marks ≡ true → new ≡ None → Change marks finds old new
  sets : marks ≡ false → finds ≡ true → (new ≡ None → ⊥) → Change marks finds old new
  leaves : marks ≡ false → finds ≡ false → new ≡ old → Change marks finds old new

abbrev pub Tracks : {A : Type 0} → (TerminalKind → Bool) → (Scope → Option A) → Type 0
Tracks test get = (k : TerminalKind) (s : Scope) → Change (is_mark k) (test k) (get s) (get (next_scope k s))

-- the lexeme that set it
record SetBy {A : Type 0} (test : TerminalKind → Bool) (get : Scope → Option A) (front : List Terminal) (s : Scope)
    (a : A) : Type 0 where
  setter : Terminal
  stands : LastSince test front setter
  value : get (next_scope setter.kind (scope_behind stands.before s)) ≡ Some a

set_on :
    {A : Type 0} →
    (test : TerminalKind → Bool) (get : Scope → Option A) (x : Terminal) (xs : List Terminal) (s : Scope) (a : A) →
    Change (is_mark x.kind) (test x.kind) (get s) (get (next_scope x.kind s)) →
    SetBy test get xs (next_scope x.kind s) a ⊎ (Without test xs × (get (next_scope x.kind s) ≡ Some a)) →
    SetBy test get (x ∷ xs) s a ⊎ (Without test (x ∷ xs) × (get s ≡ Some a))
set_on test get x xs s a c (inl h) =
    inl
    (record {
      setter = h.setter;
      stands =
          record {
            before = x ∷ h.stands.before;
            within = h.stands.within;
            is = ap (λ xs. x ∷ xs) h.stands.is;
            last = h.stands.last;
            found_is = h.stands.found_is;
          };
      value = h.value;
    })
set_on test get x xs s a (clears m n) (inr h) = absurd (let e = h.1 in cc)
set_on test get x xs s a (sets m f n) (inr h) =
    inl
    (record {
      setter = x;
      stands = record { before = []; within = xs; is = refl; last = h.0; found_is = f };
      value = h.1;
    })
set_on test get x xs s a (leaves m f e) (inr h) = inr ((m, f, h.0), sym e ∙ h.1)

was_set :
    {A : Type 0} → (test : TerminalKind → Bool) (get : Scope → Option A) (front : List Terminal) (s : Scope) (a : A) →
    Tracks test get → get (scope_behind front s) ≡ Some a →
    SetBy test get front s a ⊎ (Without test front × (get s ≡ Some a))
was_set test get [] s a t e = inr (tt, e)
was_set test get (x ∷ xs) s a t e =
    set_on test get x xs s a (t x.kind s) (was_set test get xs (next_scope x.kind s) a t e)

-- nothing set it
unset_on :
    {A : Type 0} →
    (test : TerminalKind → Bool) (get : Scope → Option A) (x : Terminal) (xs : List Terminal) (s : Scope) →
    Change (is_mark x.kind) (test x.kind) (get s) (get (next_scope x.kind s)) →
    NoneBehind test xs ⊎ (Without test xs × (get (next_scope x.kind s) ≡ None)) →
    NoneBehind test (x ∷ xs) ⊎ (Without test (x ∷ xs) × (get s ≡ None))
unset_on test get x xs s c (inl h) =
    inl
    (record {
      before = x ∷ h.before;
      mark = h.mark;
      within = h.within;
      is = ap (λ xs. x ∷ xs) h.is;
      mark_is = h.mark_is;
      none = h.none;
    })
unset_on test get x xs s (clears m n) (inr h) =
    inl (record { before = []; mark = x; within = xs; is = refl; mark_is = m; none = h.0 })
unset_on test get x xs s (sets m f n) (inr h) = absurd (n h.1)
unset_on test get x xs s (leaves m f e) (inr h) = inr ((m, f, h.0), sym e ∙ h.1)

was_unset :
    {A : Type 0} → (test : TerminalKind → Bool) (get : Scope → Option A) (front : List Terminal) (s : Scope) →
    Tracks test get → get (scope_behind front s) ≡ None → NoneBehind test front ⊎ (Without test front × (get s ≡ None))
was_unset test get [] s t e = inr (tt, e)
was_unset test get (x ∷ xs) s t e =
    unset_on test get x xs s (t x.kind s) (was_unset test get xs (next_scope x.kind s) t e)

from_start :
    {A : Type 0} → (test : TerminalKind → Bool) (get : Scope → Option A) (front : List Terminal) →
    NoneBehind test front ⊎ (Without test front × (get no_scope ≡ None)) → NoneSince test front
from_start test get front (inl h) = inl h
from_start test get front (inr h) = inr h.0

set_from_start :
    {A : Type 0} → (test : TerminalKind → Bool) (get : Scope → Option A) (front : List Terminal) (a : A) →
    get no_scope ≡ None → SetBy test get front no_scope a ⊎ (Without test front × (get no_scope ≡ Some a)) →
    SetBy test get front no_scope a
set_from_start test get front a n (inl h) = h
set_from_start test get front a n (inr h) = absurd (let e = h.1 in cc)

-- ---- anchors

next_count : (k : TerminalKind) (s : Scope) → (next_scope k s).count ≡ one_more k s.count
next_count (Directive (Version major minor)) s = refl
next_count (Directive (TagPrefix h p)) s = refl
next_count (Directive (Reserved n p)) s = refl
next_count DocumentStart s = refl
next_count DocumentEnd s = refl
next_count (Part (Property (Anchor w))) s = refl
next_count (Part (Property (Tag h p))) s = refl
next_count (Part (Alias w)) s = refl
next_count (Part (Scalar style text)) s = refl
next_count (Part (Open bracket)) s = refl
next_count k s = refl

pub count_is : (front : List Terminal) (s : Scope) → (scope_behind front s).count ≡ anchors front s.count
count_is [] s = refl
count_is (x ∷ xs) s = count_is xs (next_scope x.kind s) ∙ ap (anchors xs) (next_count x.kind s)

anchor_change :
    (name : List ℕ) (w : Written) (s : Scope) (b : Bool) →
    Change false b (number_of_anchor name s) (if b then Some (suc s.count) else number_of_anchor name s)
anchor_change name w s true = sets refl refl (λ e. cc (e))
anchor_change name w s false = leaves refl refl refl

pub names_track : (name : List ℕ) → Tracks (is_anchor_of name) (number_of_anchor name)
names_track name (Directive (Version major minor)) s = leaves refl refl refl
names_track name (Directive (TagPrefix h p)) s = leaves refl refl refl
names_track name (Directive (Reserved n p)) s = leaves refl refl refl
names_track name DocumentStart s = clears refl refl
names_track name DocumentEnd s = clears refl refl
names_track name (Part (Property (Anchor w))) s = anchor_change name w s (pointwise nat_eq name w.characters)
names_track name (Part (Property (Tag h p))) s = leaves refl refl refl
names_track name (Part (Alias w)) s = leaves refl refl refl
names_track name (Part (Scalar style text)) s = leaves refl refl refl
names_track name (Part (Open bracket)) s = leaves refl refl refl
names_track name k s = leaves refl refl refl

if_true : {A : Type 0} → (b : Bool) (x y : A) → b ≡ true → (if b then x else y) ≡ x
if_true true x y e = refl
if_true false x y e = cc (e)

-- the number that an anchor sets
anchor_number :
    (name : List ℕ) (k : TerminalKind) (s : Scope) (n : ℕ) → is_anchor_of name k ≡ true →
    number_of_anchor name (next_scope k s) ≡ Some n → n ≡ suc s.count
anchor_number name (Part (Property (Anchor w))) s n f e =
    let h = if_true (pointwise nat_eq name w.characters) (Some (suc s.count)) (number_of_anchor name s) f in cc (e, h)
anchor_number name k s n f e = absurd cc

pub named_by :
    (name : List ℕ) (front : List Terminal) (n : ℕ) → number_of_anchor name (scope_behind front no_scope) ≡ Some n →
    NamedBy name front n
named_by name front n e =
    let h = set_from_start (is_anchor_of name) (number_of_anchor name) front n refl
    (was_set (is_anchor_of name) (number_of_anchor name) front no_scope n (names_track name) e) in
    record {
      anchor = h.setter;
      stands = h.stands;
      counted =
          anchor_number name h.setter.kind (scope_behind h.stands.before no_scope) n h.stands.found_is h.value
          ∙ ap suc (count_is h.stands.before no_scope);
    }

pub not_named :
    (name : List ℕ) (front : List Terminal) → number_of_anchor name (scope_behind front no_scope) ≡ None →
    NoneSince (is_anchor_of name) front
not_named name front e =
    from_start (is_anchor_of name) (number_of_anchor name) front
    (was_unset (is_anchor_of name) (number_of_anchor name) front no_scope (names_track name) e)

-- ---- handles

abbrev pending_of : List ℕ → Scope → Option (List ℕ)
pending_of handle s = entry_of handle s.pending

handle_change : (b : Bool) (p : List ℕ) (old : Option (List ℕ)) → Change false b old (if b then Some p else old)
handle_change true p old = sets refl refl (λ e. cc (e))
handle_change false p old = leaves refl refl refl

pub handles_track : (handle : List ℕ) → Tracks (is_handle_of handle) (pending_of handle)
handles_track handle (Directive (Version major minor)) s = leaves refl refl refl
handles_track handle (Directive (TagPrefix h p)) s = handle_change (pointwise nat_eq handle h) p (pending_of handle s)
handles_track handle (Directive (Reserved n p)) s = leaves refl refl refl
handles_track handle DocumentStart s = clears refl refl
handles_track handle DocumentEnd s = clears refl refl
handles_track handle (Part (Property (Anchor w))) s = leaves refl refl refl
handles_track handle (Part (Property (Tag h p))) s = leaves refl refl refl
handles_track handle (Part (Alias w)) s = leaves refl refl refl
handles_track handle (Part (Scalar style text)) s = leaves refl refl refl
handles_track handle (Part (Open bracket)) s = leaves refl refl refl
handles_track handle k s = leaves refl refl refl

handle_prefix :
    (handle : List ℕ) (k : TerminalKind) (s : Scope) (prefix : List ℕ) → is_handle_of handle k ≡ true →
    pending_of handle (next_scope k s) ≡ Some prefix → (other : List ℕ) × (k ≡ Directive (TagPrefix other prefix))
handle_prefix handle (Directive (TagPrefix h p)) s prefix f e =
    let g = if_true (pointwise nat_eq handle h) (Some p) (pending_of handle s) f
    in let same : p ≡ prefix = cc (e, g) in (h, ap (λ p. Directive (TagPrefix h p)) same)
handle_prefix handle (Directive (Version major minor)) s prefix f e = absurd cc
handle_prefix handle (Directive (Reserved n p)) s prefix f e = absurd cc
handle_prefix handle k s prefix f e = absurd cc

pub declared_by :
    (handle : List ℕ) (front : List Terminal) (prefix : List ℕ) →
    pending_of handle (scope_behind front no_scope) ≡ Some prefix → DeclaredBy handle front prefix
declared_by handle front prefix e =
    let h = set_from_start (is_handle_of handle) (pending_of handle) front prefix refl
    (was_set (is_handle_of handle) (pending_of handle) front no_scope prefix (handles_track handle) e) in
    let p = handle_prefix handle h.setter.kind (scope_behind h.stands.before no_scope) prefix h.stands.found_is h.value
    in
    record { directive = h.setter; other = p.0; directive_is = p.1; stands = h.stands }

pub not_declared :
    (handle : List ℕ) (front : List Terminal) → pending_of handle (scope_behind front no_scope) ≡ None →
    NoneSince (is_handle_of handle) front
not_declared handle front e =
    from_start (is_handle_of handle) (pending_of handle) front
    (was_unset (is_handle_of handle) (pending_of handle) front no_scope (handles_track handle) e)

-- ---- the version

pub versions_track : Tracks is_version (λ s. s.version)
versions_track (Directive (Version major minor)) s = sets refl refl (λ e. cc (e))
versions_track (Directive (TagPrefix h p)) s = leaves refl refl refl
versions_track (Directive (Reserved n p)) s = leaves refl refl refl
versions_track DocumentStart s = clears refl refl
versions_track DocumentEnd s = clears refl refl
versions_track (Part (Property (Anchor w))) s = leaves refl refl refl
versions_track (Part (Property (Tag h p))) s = leaves refl refl refl
versions_track (Part (Alias w)) s = leaves refl refl refl
versions_track (Part (Scalar style text)) s = leaves refl refl refl
versions_track (Part (Open bracket)) s = leaves refl refl refl
versions_track k s = leaves refl refl refl

pub versioned_by :
    (front : List Terminal) (v : ℕ × ℕ) → (scope_behind front no_scope).version ≡ Some v →
    (directive : Terminal) × LastSince is_version front directive
versioned_by front v e =
    let h = set_from_start is_version (λ s. s.version) front v refl
    (was_set is_version (λ s. s.version) front no_scope v versions_track e)
    in (h.setter, h.stands)

pub not_versioned : (front : List Terminal) → (scope_behind front no_scope).version ≡ None → NoneSince is_version front
not_versioned front e =
    from_start is_version (λ s. s.version) front (was_unset is_version (λ s. s.version) front no_scope versions_track e)

-- ---- handles in force

abbrev force_of : List ℕ → Scope → Option (List ℕ)
force_of handle s = entry_of handle s.handles

-- the last mark
record MarkedAt (handle : List ℕ) (front : List Terminal) (s : Scope) (a : Option (List ℕ)) : Type 0 where
  before : List Terminal
  mark : Terminal
  within : List Terminal
  is : front ≡ before ++ (mark ∷ within)
  last : Without no_kind within
  value :
      ((mark.kind ≡ DocumentEnd) × (a ≡ None))
      ⊎ ((mark.kind ≡ DocumentStart) × (pending_of handle (scope_behind before s) ≡ a))

force_here :
    (handle : List ℕ) (k : TerminalKind) (i : At) (xs : List Terminal) (s : Scope) (a : Option (List ℕ)) →
    Without no_kind xs → force_of handle (next_scope k s) ≡ a →
    MarkedAt handle (terminal k i ∷ xs) s a ⊎ (Without no_kind (terminal k i ∷ xs) × (force_of handle s ≡ a))
force_here handle DocumentStart i xs s a w e =
    inl
    (record { before = []; mark = terminal DocumentStart i; within = xs; is = refl; last = w; value = inr (refl, e) })
force_here handle DocumentEnd i xs s a w e =
    inl
    (record {
      before = [];
      mark = terminal DocumentEnd i;
      within = xs;
      is = refl;
      last = w;
      value = inl (refl, sym e);
    })
force_here handle (Directive (Version major minor)) i xs s a w e = inr ((refl, refl, w), e)
force_here handle (Directive (TagPrefix h p)) i xs s a w e = inr ((refl, refl, w), e)
force_here handle (Directive (Reserved n p)) i xs s a w e = inr ((refl, refl, w), e)
force_here handle (Part (Property (Anchor v))) i xs s a w e = inr ((refl, refl, w), e)
force_here handle (Part (Property (Tag h p))) i xs s a w e = inr ((refl, refl, w), e)
force_here handle (Part (Alias v)) i xs s a w e = inr ((refl, refl, w), e)
force_here handle (Part (Scalar style text)) i xs s a w e = inr ((refl, refl, w), e)
force_here handle (Part (Open bracket)) i xs s a w e = inr ((refl, refl, w), e)
force_here handle k i xs s a w e = inr ((refl, refl, w), e)

force_on :
    (handle : List ℕ) (x : Terminal) (xs : List Terminal) (s : Scope) (a : Option (List ℕ)) →
    MarkedAt handle xs (next_scope x.kind s) a ⊎ (Without no_kind xs × (force_of handle (next_scope x.kind s) ≡ a)) →
    MarkedAt handle (x ∷ xs) s a ⊎ (Without no_kind (x ∷ xs) × (force_of handle s ≡ a))
force_on handle x xs s a (inl h) =
    inl
    (record {
      before = x ∷ h.before;
      mark = h.mark;
      within = h.within;
      is = ap (λ xs. x ∷ xs) h.is;
      last = h.last;
      value = h.value;
    })
force_on handle x xs s a (inr h) = force_here handle x.kind x.at xs s a h.0 h.1

force_is :
    (handle : List ℕ) (front : List Terminal) (s : Scope) (a : Option (List ℕ)) →
    force_of handle (scope_behind front s) ≡ a →
    MarkedAt handle front s a ⊎ (Without no_kind front × (force_of handle s ≡ a))
force_is handle [] s a e = inr (tt, e)
force_is handle (x ∷ xs) s a e = force_on handle x xs s a (force_is handle xs (next_scope x.kind s) a e)

in_force_by : (handle : List ℕ) (front : List Terminal) (prefix : List ℕ) (before : List Terminal) (mark : Terminal)
    (within : List Terminal) →
    front ≡ before ++ (mark ∷ within) → Without no_kind within →
    ((mark.kind ≡ DocumentEnd) × (Some prefix ≡ None))
    ⊎ ((mark.kind ≡ DocumentStart) × (pending_of handle (scope_behind before no_scope) ≡ Some prefix)) →
    InForce handle front prefix
in_force_by handle front prefix before mark within is last (inl v) = absurd (let e = v.1 in cc)
in_force_by handle front prefix before mark within is last (inr v) =
    record {
      before = before;
      mark = mark;
      within = within;
      is = is;
      mark_is = v.0;
      last = last;
      declared = declared_by handle before prefix v.1;
    }

in_force_from : (handle : List ℕ) (front : List Terminal) (prefix : List ℕ) →
    MarkedAt handle front no_scope (Some prefix) ⊎ (Without no_kind front × (force_of handle no_scope ≡ Some prefix)) →
    InForce handle front prefix
in_force_from handle front prefix (inr h) = absurd (let e = h.1 in cc)
in_force_from handle front prefix (inl h) = in_force_by handle front prefix h.before h.mark h.within h.is h.last h.value

pub in_force :
    (handle : List ℕ) (front : List Terminal) (prefix : List ℕ) →
    force_of handle (scope_behind front no_scope) ≡ Some prefix → InForce handle front prefix
in_force handle front prefix e = in_force_from handle front prefix (force_is handle front no_scope (Some prefix) e)

not_in_force_by :
    (handle : List ℕ) (before : List Terminal) (mark : Terminal) (a : Option (List ℕ)) → a ≡ None →
    ((mark.kind ≡ DocumentEnd) × (a ≡ None))
    ⊎ ((mark.kind ≡ DocumentStart) × (pending_of handle (scope_behind before no_scope) ≡ a)) →
    (mark.kind ≡ DocumentEnd) ⊎ ((mark.kind ≡ DocumentStart) × NoneSince (is_handle_of handle) before)
not_in_force_by handle before mark a e (inl v) = inl v.0
not_in_force_by handle before mark a e (inr v) = inr (v.0, not_declared handle before (v.1 ∙ e))

not_in_force_from :
    (handle : List ℕ) (front : List Terminal) →
    MarkedAt handle front no_scope None ⊎ (Without no_kind front × (force_of handle no_scope ≡ None)) →
    NotInForce handle front ⊎ Without no_kind front
not_in_force_from handle front (inr h) = inr h.0
not_in_force_from handle front (inl h) =
    inl
    (record {
      before = h.before;
      mark = h.mark;
      within = h.within;
      is = h.is;
      last = h.last;
      declares_not = not_in_force_by handle h.before h.mark None refl h.value;
    })

pub not_in_force :
    (handle : List ℕ) (front : List Terminal) → force_of handle (scope_behind front no_scope) ≡ None →
    NotInForce handle front ⊎ Without no_kind front
not_in_force handle front e = not_in_force_from handle front (force_is handle front no_scope None e)
