-- Where tabs may stand between a `?` and what its key begins with.
use Rattle.std.proofs.Common.{◌≡◌, ℕ, ◌≤◌, ◌<◌, List, ◌∷◌, ◌⊎◌, inl, inr, refl, sym, ap, ◌∙◌, arith}
use Rattle.std.proofs.lemmas.Bool.Decides.{leb_tells}
use Rattle.granit_base.specs.Place.{Mark}
use Rattle.granit_error.specs.OptionsData.{OptionsData}
use Rattle.granit_language.specs.Allowed.{TabBegins, LeftOfKey, InBlock, TabsFit}
use Rattle.granit_lexemes.specs.Here.{Here}
use Rattle.granit_lexemes.specs.declared.layout.OpenColumn.{OpenColumn}
use Rattle.granit_machine.specs.Columns.{entered_columns, entered}
use Rattle.granit_machine.specs.IndicatorLexemes.{behind_question}
use Rattle.granit_machine.specs.Laid.{Laid}

-- the innermost column behind a `?` is its own
own_column : (column : ℕ) (l : Laid) →
    (c : OpenColumn) × (cs : List OpenColumn) × ((behind_question (entered column l)).columns ≡ c ∷ cs)
    × (c.column ≡ column)
unfolding entered_columns
own_column column l = (_, _, refl, refl)

same_first : {c d : OpenColumn} {cs ds : List OpenColumn} → ◌≡◌ {A = List OpenColumn} (c ∷ cs) (d ∷ ds) → c ≡ d
same_first e = cc (e)

at_its_column : (column : ℕ) (l : Laid) (c : OpenColumn) (cs : List OpenColumn) →
    (behind_question (entered column l)).columns ≡ c ∷ cs → c.column ≡ column
at_its_column column l c cs e =
    let o = own_column column l in
    ap (λ (c : OpenColumn). c.column) (sym (same_first (sym o.2 ∙ e))) ∙ o.3

right_of : (a b : ℕ) → (a ≤ b → ⊥) → b < a
right_of a b n = elim (leb_tells a b) [ inl p ↦ absurd (n p.1) | inr p ↦ p.1 ]

never_right : (a b c : ℕ) → c ≡ b → b < a → a ≤ c → ⊥
never_right a b c e f g = omega (arith, e, f, g)

never_left : (a b c : ℕ) → c ≡ b → b < a → (a < c) ⊎ (a ≡ c) → ⊥
never_left a b c e f (inl g) = omega (arith, e, f, g)
never_left a b c e f (inr g) = omega (arith, e, f, g)

at_most_as : (a b c : ℕ) → c ≡ b → a ≤ b → a ≤ c
at_most_as a b c e f = omega (arith, e, f)

pub tabs_fit : (o : OptionsData) (column : ℕ) (l : Laid) (at : Here) →
    TabsFit o (behind_question (entered column l)) at → (tab : Mark) → TabBegins at tab → column < tab.place.column
tabs_fit o column l at fit tab b =
    let p = own_column column l in
    right_of tab.place.column column (λ e. (fit tab b).0 (
      inl refl,
      (
        p.0,
        p.1,
        p.2,
        at_most_as tab.place.column column p.0.column p.3 e,
      ),
    ))

pub fit_tabs : (o : OptionsData) (column : ℕ) (l : Laid) (at : Here) →
    ((tab : Mark) → TabBegins at tab → column < tab.place.column) → TabsFit o (behind_question (entered column l)) at
fit_tabs o column l at fit tab b = (λ p. key p, λ p. block p)
  where
    key : LeftOfKey (behind_question (entered column l)) tab → ⊥
    key (q, (c, cs, e, f)) =
        never_right tab.place.column column c.column (at_its_column column l c cs e) (fit tab b) f

    block : InBlock o (behind_question (entered column l)) tab → ⊥
    block (c, cs, e, inl f) =
        never_left tab.place.column column c.column (at_its_column column l c cs e) (fit tab b) (inl f)
    block (c, cs, e, inr f) =
        never_left tab.place.column column c.column (at_its_column column l c cs e) (fit tab b) (inr f.1)
