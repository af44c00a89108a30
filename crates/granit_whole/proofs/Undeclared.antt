-- What lexemes declare is kept: a lexeme of which a cause of scope is told means nothing.
use Rattle.std.proofs.Common.{arith, ◌≡◌, ℕ, Bool, true, false, List, [], ◌∷◌, ◌++◌, length, refl, sym, ap, ap₂, ◌∙◌}
use Rattle.std.proofs.Common.{inl, inr, Option, Some, None, ◌==◌, nat_lt}
use Rattle.std.specs.Prelude.{◌⊎◌, if◌then◌else◌, codes}
use Rattle.granit_error.specs.OptionsData.{OptionsData}
use Rattle.granit_language.specs.Declared.{is_mark, is_anchor_of, is_handle_of, is_version, no_kind, Without, LastSince}
use Rattle.granit_language.specs.Declared.{NoneSince, NotInForce}
use Rattle.granit_language.specs.GrammarFault.{GrammarFault, UndeclaredTagHandle, DuplicateVersionDirective}
use Rattle.granit_language.specs.GrammarFault.{UnsupportedYamlMajorVersion, DuplicateTagDirective}
use Rattle.granit_language.specs.Scope.{Scope, no_scope, entry_of}
use Rattle.granit_language.specs.Scoping.{next_scope, scope_behind, if_longer, prefix_by, or_kept, number_of_anchor}
use Rattle.granit_language.specs.Scoping.{fault_if_none, unless, alias_fault, version_fault, handle_fault, scope_fault}
use Rattle.granit_language.specs.Terminal.{Anchor, Tag, Alias, Property, Scalar, Open, TerminalKind, Directive}
use Rattle.granit_language.specs.Terminal.{DocumentStart, DocumentEnd, Part, Terminal}
use Rattle.granit_language.specs.Whole.{ScopeCause, no_anchor, no_handle, second_version, other_version, second_handle}
use Rattle.granit_lexemes.specs.Lexeme.{Version, TagPrefix, Reserved}
use Rattle.std.proofs.lemmas.Bool.Decides.{nat_tests}
use Rattle.granit_grammar.proofs.Declares.{Change, clears, sets, leaves, Tracks, names_track, handles_track}
use Rattle.granit_grammar.proofs.Declares.{versions_track}
use Rattle.granit_grammar.proofs.Kept.{none_kept}

-- ---- a part of the scope that marks clear and a test sets

module _ {A : Type 0} (test : TerminalKind → Bool) (get : Scope → Option A) (tracks : Tracks test get) where
  kept_by :
      (x : Terminal) (s : Scope) → is_mark x.kind ≡ false → test x.kind ≡ false →
      Change (is_mark x.kind) (test x.kind) (get s) (get (next_scope x.kind s)) → get (next_scope x.kind s) ≡ get s
  kept_by x s m f (clears n e) = absurd cc
  kept_by x s m f (sets n g e) = absurd cc
  kept_by x s m f (leaves n g e) = e

  kept : (xs : List Terminal) (s : Scope) → Without test xs → get (scope_behind xs s) ≡ get s
  kept [] s w = refl
  kept (x ∷ xs) s w = kept xs (next_scope x.kind s) w.2 ∙ kept_by x s w.0 w.1 (tracks x.kind s)

  set_by :
      (x : Terminal) (s : Scope) → is_mark x.kind ≡ false → test x.kind ≡ true →
      Change (is_mark x.kind) (test x.kind) (get s) (get (next_scope x.kind s)) → get (next_scope x.kind s) ≡ None → ⊥
  set_by x s m f (clears n e) h = cc
  set_by x s m f (sets n g e) h = e h
  set_by x s m f (leaves n g e) h = cc

  set_from :
      (before : List Terminal) (x : Terminal) (within : List Terminal) (s : Scope) → is_mark x.kind ≡ false →
      test x.kind ≡ true → Without test within → get (scope_behind (before ++ (x ∷ within)) s) ≡ None → ⊥
  set_from [] x within s m f w e =
      set_by x s m f (tracks x.kind s) (sym (kept within (next_scope x.kind s) w) ∙ e)
  set_from (y ∷ before) x within s m f w e = set_from before x within (next_scope y.kind s) m f w e

  cleared_by :
      (x : Terminal) (s : Scope) → is_mark x.kind ≡ true →
      Change (is_mark x.kind) (test x.kind) (get s) (get (next_scope x.kind s)) → get (next_scope x.kind s) ≡ None
  cleared_by x s m (clears n e) = e
  cleared_by x s m (sets n g e) = absurd cc
  cleared_by x s m (leaves n g e) = absurd cc

  cleared_from :
      (before : List Terminal) (x : Terminal) (within : List Terminal) (s : Scope) → is_mark x.kind ≡ true →
      Without test within → get (scope_behind (before ++ (x ∷ within)) s) ≡ None
  cleared_from [] x within s m w = kept within (next_scope x.kind s) w ∙ cleared_by x s m (tracks x.kind s)
  cleared_from (y ∷ before) x within s m w = cleared_from before x within (next_scope y.kind s) m w

  none_since : (front : List Terminal) → get no_scope ≡ None → NoneSince test front → get
      (scope_behind front no_scope) ≡ None
  none_since front e (inl h) =
      ap (λ xs. get (scope_behind xs no_scope)) h.is ∙ cleared_from h.before h.mark h.within no_scope h.mark_is h.none
  none_since front e (inr w) = kept front no_scope w ∙ e

  set_since :
      ((kind : TerminalKind) → test kind ≡ true → is_mark kind ≡ false) → (front : List Terminal) (found : Terminal) →
      LastSince test front found → get (scope_behind front no_scope) ≡ None → ⊥
  set_since apart front found h e =
      set_from h.before found h.within no_scope (apart found.kind h.found_is) h.found_is h.last
      (ap (λ xs. get (scope_behind xs no_scope)) (sym h.is) ∙ e)

versions_apart : (kind : TerminalKind) → is_version kind ≡ true → is_mark kind ≡ false
versions_apart (Directive d) e = refl
versions_apart kind e = absurd cc

handles_apart : (handle : List ℕ) (kind : TerminalKind) → is_handle_of handle kind ≡ true → is_mark kind ≡ false
handles_apart handle (Directive d) e = refl
handles_apart handle kind e = absurd cc

-- ---- handles in force

force_kept : (kind : TerminalKind) (s : Scope) → is_mark kind ≡ false → (next_scope kind s).handles ≡ s.handles
force_kept (Directive (Version major minor)) s m = refl
force_kept (Directive (TagPrefix h p)) s m = refl
force_kept (Directive (Reserved n p)) s m = refl
force_kept DocumentStart s m = absurd cc
force_kept DocumentEnd s m = absurd cc
force_kept (Part (Property (Anchor w))) s m = refl
force_kept (Part (Property (Tag h p))) s m = refl
force_kept (Part (Alias w)) s m = refl
force_kept (Part (Scalar style text)) s m = refl
force_kept (Part (Open bracket)) s m = refl
force_kept kind s m = refl

handles_kept : (xs : List Terminal) (s : Scope) → Without no_kind xs → (scope_behind xs s).handles ≡ s.handles
handles_kept [] s w = refl
handles_kept (x ∷ xs) s w = handles_kept xs (next_scope x.kind s) w.2 ∙ force_kept x.kind s w.0

abbrev MarkSays : List ℕ → TerminalKind → List Terminal → Type 0
MarkSays handle kind before = (kind ≡ DocumentEnd) ⊎ ((kind ≡ DocumentStart) × NoneSince (is_handle_of handle) before)

mark_none :
    (handle : List ℕ) (kind : TerminalKind) (before : List Terminal) → MarkSays handle kind before →
    entry_of handle (next_scope kind (scope_behind before no_scope)).handles ≡ None
mark_none handle kind before (inl e) = ap (λ kind. entry_of handle (next_scope kind
    (scope_behind before no_scope)).handles) e
mark_none handle kind before (inr h) =
    ap (λ kind. entry_of handle (next_scope kind (scope_behind before no_scope)).handles) h.0
    ∙ none_since (is_handle_of handle) (λ s. entry_of handle s.pending) (handles_track handle) before refl h.1

scope_joined :
    (xs ys : List Terminal) (s : Scope) → scope_behind (xs ++ ys) s ≡ scope_behind ys (scope_behind xs s)
scope_joined [] ys s = refl
scope_joined (x ∷ xs) ys s = scope_joined xs ys (next_scope x.kind s)

none_in_force :
    (handle : List ℕ) (front : List Terminal) → NotInForce handle front ⊎ Without no_kind front →
    entry_of handle (scope_behind front no_scope).handles ≡ None
none_in_force handle front (inl h) =
    ap (λ xs. entry_of handle (scope_behind xs no_scope).handles) h.is
    ∙ (ap (λ s. entry_of handle s.handles) (scope_joined h.before (h.mark ∷ h.within) no_scope)
    ∙ (ap (entry_of handle) (handles_kept h.within (next_scope h.mark.kind (scope_behind h.before no_scope)) h.last)
    ∙ mark_none handle h.mark.kind h.before h.declares_not))
none_in_force handle front (inr w) = ap (entry_of handle) (handles_kept front no_scope w)

-- ---- the fault of each cause

not_two : (n : ℕ) → nat_lt 2 n ≡ true → (n == 2) ≡ false
not_two n e = grind (arith, nat_tests)

some_version : (major : ℕ) (v : Option (ℕ × ℕ)) → (v ≡ None → ⊥) →
    version_fault major v ≡ Some DuplicateVersionDirective
some_version major (Some v) n = refl
some_version major None n = absurd (n refl)

some_handle : (p : Option (List ℕ)) → (p ≡ None → ⊥) → handle_fault p ≡ Some DuplicateTagDirective
some_handle (Some p) n = refl
some_handle None n = absurd (n refl)

longer_none :
    (handle : List ℕ) (core : Option (List ℕ)) → nat_lt 2 (length handle) ≡ true →
    fault_if_none (if_longer (length handle) None core) UndeclaredTagHandle ≡ Some UndeclaredTagHandle
longer_none handle core e =
    ap₂
    (λ (a b : Bool).
    fault_if_none (if a then Some (codes "tag:yaml.org,2002:") else if b then None else core) UndeclaredTagHandle)
    (not_two (length handle) e) e

pub cause_means_nothing :
    (o : OptionsData) (front : List Terminal) (kind : TerminalKind) (k : GrammarFault) → ScopeCause o front kind k →
    scope_fault o kind (scope_behind front no_scope) ≡ Some k
cause_means_nothing o front kind k (no_anchor {name = name} off none) =
    ap₂ alias_fault off
    (none_since (is_anchor_of name.characters) (number_of_anchor name.characters)
    (names_track name.characters) front refl none)
cause_means_nothing o front kind k (no_handle {handle = handle} {suffix = suffix} long none never) =
    ap₂ (λ p q. fault_if_none (prefix_by handle (or_kept p q)) UndeclaredTagHandle) (none_in_force handle front none)
    (none_kept o handle front never)
    ∙ longer_none handle (Some handle) long
cause_means_nothing o front kind k (second_version {major = major} {minor = minor} first since) =
    some_version major (scope_behind front no_scope).version
    (set_since is_version (λ s. s.version) versions_track versions_apart front first since)
cause_means_nothing o front kind k (other_version {major = major} {minor = minor} other none) =
    ap (version_fault major) (none_since is_version (λ s. s.version) versions_track front refl none)
    ∙ ap (λ b. unless b (Some UnsupportedYamlMajorVersion)) other
cause_means_nothing o front kind k (second_handle {handle = handle} {prefix = prefix} first declared) =
    some_handle (entry_of handle (scope_behind front no_scope).pending)
    (set_since (is_handle_of handle) (λ s. entry_of handle s.pending) (handles_track handle)
    (handles_apart handle) front
    declared.directive declared.stands)
