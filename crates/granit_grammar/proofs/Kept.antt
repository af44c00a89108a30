-- What the scope keeps of all directives is what stands before a place: the last directive of a handle, or none.
use Rattle.std.proofs.Common.{◌≡◌, ℕ, Bool, true, false, List, [], ◌∷◌, refl, sym, ap, ◌∙◌, inl, inr, Option, Some}
use Rattle.std.proofs.Common.{None}
use Rattle.std.proofs.Common.{length, nat_lt}
use Rattle.std.specs.Prelude.{◌⊎◌, ◌&&◌, if◌then◌else◌, nat_eq}
use lib.Pointwise.{pointwise}
use Rattle.granit_error.specs.OptionsData.{OptionsData}
use Rattle.granit_language.specs.Declared.{is_handle_of, Never, DeclaredEver}
use Rattle.granit_language.specs.Scope.{Scope, no_scope, entry_of}
use Rattle.granit_language.specs.Scoping.{next_scope, scope_behind, kept_of, or_kept}
use Rattle.granit_language.specs.Terminal.{Anchor, Tag, Alias, Property, Scalar, Open, TerminalKind, Directive}
use Rattle.granit_language.specs.Terminal.{DocumentStart, DocumentEnd, Part, Terminal}
use Rattle.granit_lexemes.specs.Lexeme.{Version, TagPrefix, Reserved}

abbrev last_of : List ℕ → Scope → Option (List ℕ)
last_of handle s = entry_of handle s.all_handles

-- what a lexeme does to it: a directive of the handle sets it, nothing clears it
data Change (finds : Bool) (kind : TerminalKind) (old new : Option (List ℕ)) : Type 0 where
  sets : (other prefix : List ℕ) → finds ≡ true → kind ≡ Directive (TagPrefix other prefix) → new ≡ Some prefix →
      Change finds kind old new
  leaves : finds ≡ false → new ≡ old → Change finds kind old new

tag_change : (b : Bool) (other prefix : List ℕ) (old : Option (List ℕ))
    → Change b (Directive (TagPrefix other prefix)) old (if b then Some prefix else old)
tag_change true other prefix old = sets other prefix refl refl refl
tag_change false other prefix old = leaves refl refl

tracks : (handle : List ℕ) (k : TerminalKind) (s : Scope)
    → Change (is_handle_of handle k) k (last_of handle s) (last_of handle (next_scope k s))
tracks handle (Directive (Version major minor)) s = leaves refl refl
tracks handle (Directive (TagPrefix h p)) s = tag_change (pointwise nat_eq handle h) h p (last_of handle s)
tracks handle (Directive (Reserved n p)) s = leaves refl refl
tracks handle DocumentStart s = leaves refl refl
tracks handle DocumentEnd s = leaves refl refl
tracks handle (Part (Property (Anchor w))) s = leaves refl refl
tracks handle (Part (Property (Tag h p))) s = leaves refl refl
tracks handle (Part (Alias w)) s = leaves refl refl
tracks handle (Part (Scalar style text)) s = leaves refl refl
tracks handle (Part (Open bracket)) s = leaves refl refl
tracks handle k s = leaves refl refl

some_is : {A : Type 0} {o : Option A} {a b : A} → o ≡ Some a → o ≡ Some b → a ≡ b
some_is e f = cc (e, f)

module _ (handle : List ℕ) where
  abbrev Found : List Terminal → Scope → List ℕ → Type 0
  Found front s prefix =
      DeclaredEver handle front prefix
      ⊎ (Never (is_handle_of handle) front × (last_of handle s ≡ Some prefix))

  found_on : (x : Terminal) (xs : List Terminal) (s : Scope) (prefix : List ℕ)
      → Change (is_handle_of handle x.kind) x.kind (last_of handle s) (last_of handle (next_scope x.kind s))
      → Found xs (next_scope x.kind s) prefix → Found (x ∷ xs) s prefix
  found_on x xs s prefix c (inl h) = inl (record {
    directive = h.directive;
    other = h.other;
    directive_is = h.directive_is;
    stands = record {
      before = x ∷ h.stands.before;
      within = h.stands.within;
      is = ap (λ xs. x ∷ xs) h.stands.is;
      last = h.stands.last;
      found_is = h.stands.found_is;
    };
  })
  found_on x xs s prefix (sets other p found is value) (inr h) = inl (record {
    directive = x;
    other = other;
    directive_is = is ∙ ap (λ (p : List ℕ). Directive (TagPrefix other p)) (some_is value h.1);
    stands = record { before = []; within = xs; is = refl; last = h.0; found_is = found };
  })
  found_on x xs s prefix (leaves found same) (inr h) = inr ((found, h.0), sym same ∙ h.1)

  found : (front : List Terminal) (s : Scope) (prefix : List ℕ) → last_of handle (scope_behind front s) ≡ Some prefix
      → Found front s prefix
  found [] s prefix e = inr (tt, e)
  found (x ∷ xs) s prefix e =
      found_on x xs s prefix (tracks handle x.kind s) (found xs (next_scope x.kind s) prefix e)

  found_at_start : (front : List Terminal) (prefix : List ℕ) → Found front no_scope prefix
      → DeclaredEver handle front prefix
  found_at_start front prefix (inl h) = h
  found_at_start front prefix (inr h) = absurd (let e = h.1 in cc)

  pub declared_ever : (front : List Terminal) (prefix : List ℕ)
      → entry_of handle (scope_behind front no_scope).all_handles ≡ Some prefix → DeclaredEver handle front prefix
  declared_ever front prefix e = found_at_start front prefix (found front no_scope prefix e)

  never_on : (x : Terminal) (xs : List Terminal) (s : Scope)
      → Change (is_handle_of handle x.kind) x.kind (last_of handle s) (last_of handle (next_scope x.kind s))
      → Never (is_handle_of handle) xs × (last_of handle (next_scope x.kind s) ≡ None)
      → Never (is_handle_of handle) (x ∷ xs) × (last_of handle s ≡ None)
  never_on x xs s (sets other p found is value) h = absurd (let e = h.1 in cc)
  never_on x xs s (leaves found same) h = ((found, h.0), sym same ∙ h.1)

  never : (front : List Terminal) (s : Scope) → last_of handle (scope_behind front s) ≡ None
      → Never (is_handle_of handle) front × (last_of handle s ≡ None)
  never [] s e = (tt, e)
  never (x ∷ xs) s e = never_on x xs s (tracks handle x.kind s) (never xs (next_scope x.kind s) e)

  pub never_declared : (front : List Terminal) → entry_of handle (scope_behind front no_scope).all_handles ≡ None
      → Never (is_handle_of handle) front
  never_declared front e = (never front no_scope e).0

  stays_on : (x : Terminal) (s : Scope) → is_handle_of handle x.kind ≡ false
      → Change (is_handle_of handle x.kind) x.kind (last_of handle s) (last_of handle (next_scope x.kind s))
      → last_of handle (next_scope x.kind s) ≡ last_of handle s
  stays_on x s n (sets other p found is value) = absurd cc
  stays_on x s n (leaves found same) = same

  stays : (front : List Terminal) (s : Scope) → Never (is_handle_of handle) front
      → last_of handle (scope_behind front s) ≡ last_of handle s
  stays [] s n = refl
  stays (x ∷ xs) s n = stays xs (next_scope x.kind s) n.1 ∙ stays_on x s n.0 (tracks handle x.kind s)

-- ---- where handles stay over documents

kept_by : (keep long : Bool) (last : Option (List ℕ)) → long ≡ true → (if long && keep then last else None) ≡ None
    → (keep ≡ false) ⊎ (last ≡ None)
kept_by false long last l e = inl refl
kept_by true true last l e = inr e
kept_by true false last l e = absurd cc

never_kept_by : (keep : Bool) (handle : List ℕ) (front : List Terminal)
    → (keep ≡ false) ⊎ (last_of handle (scope_behind front no_scope) ≡ None)
    → (keep ≡ false) ⊎ Never (is_handle_of handle) front
never_kept_by keep handle front (inl off) = inl off
never_kept_by keep handle front (inr e) = inr (never_declared handle front e)

-- a long handle that no document so far keeps
pub never_kept : (o : OptionsData) (handle : List ℕ) (front : List Terminal) → nat_lt 2 (length handle) ≡ true
    → kept_of o handle (scope_behind front no_scope) ≡ None → (o.keep_tags ≡ false) ⊎ Never (is_handle_of handle) front
never_kept o handle front long e =
    never_kept_by o.keep_tags handle front
    (kept_by o.keep_tags (nat_lt 2 (length handle)) (last_of handle (scope_behind front no_scope)) long e)

none_both : (b : Bool) → ◌≡◌ {A = Option (List ℕ)} (if b then None else None) None
none_both true = refl
none_both false = refl

none_off : (long : Bool) (last : Option (List ℕ)) → (if long && false then last else None) ≡ None
none_off true last = refl
none_off false last = refl

pub none_kept : (o : OptionsData) (handle : List ℕ) (front : List Terminal)
    → (o.keep_tags ≡ false) ⊎ Never (is_handle_of handle) front → kept_of o handle (scope_behind front no_scope) ≡ None
none_kept o handle front (inl off) =
    ap (λ (keep : Bool). if nat_lt 2 (length handle)
    && keep then last_of handle (scope_behind front no_scope) else None)
    off
    ∙ none_off (nat_lt 2 (length handle)) (last_of handle (scope_behind front no_scope))
none_kept o handle front (inr n) =
    ap (λ (last : Option (List ℕ)). if nat_lt 2 (length handle) && o.keep_tags then last else None)
    (stays handle front no_scope n)
    ∙ none_both (nat_lt 2 (length handle) && o.keep_tags)

-- nothing is told by neither
pub neither : (a b : Option (List ℕ)) → or_kept a b ≡ None → (a ≡ None) × (b ≡ None)
neither (Some p) b e = absurd cc
neither None b e = (refl, e)
