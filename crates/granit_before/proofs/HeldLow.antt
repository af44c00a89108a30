-- Where a lexeme stands to the columns that stay open in front of it.
use Rattle.std.proofs.Common.{◌≡◌, ℕ, ◌≤◌, ◌==◌, ◌&&◌, not, Bool, true, false, List, [], ◌∷◌, inl, inr}
use Rattle.std.proofs.Common.{refl, sym, ap, ◌∙◌, subst, arith}
use Rattle.std.proofs.Math.Nat.{le_refl}
use Rattle.std.proofs.lemmas.Bool.{eqb-true, leb-true, le-ltb}
use Rattle.std.specs.Bool.{Decides}
use Rattle.std.specs.Prelude.{if◌then◌else◌, nat_lt, nat_le}
use Rattle.std.proofs.lemmas.Bool.Decides.{nat_tests}
use Rattle.granit_base.specs.Place.{Mark}
use Rattle.granit_language.specs.OpenColumns.{is_outer_kind, IsOpenColumn, LeavesOpen, Has, Falls, columns_of}
use Rattle.granit_language.specs.OpenColumns.{ColumnsSay}
use Rattle.granit_lexemes.specs.Here.{Here, mark_of}
use Rattle.granit_lexemes.specs.LayoutData.{is_left}
use Rattle.granit_lexemes.specs.Lexeme.{Lexeme}
use Rattle.granit_lexemes.specs.declared.layout.OpenColumn.{OpenColumn}
use Rattle.granit_machine.specs.Columns.{chosen_columns, up_to_column, closed_at}
use Rattle.granit_machine.specs.Laid.{Laid, is_in_flow, block_column, innermost_column, is_column}
use Rattle.granit_places.proofs.ColumnsKept.{under}
pub use Rattle.granit_places.proofs.ColumnsKept.{at_most_has}
pub use Rattle.granit_places.proofs.ColumnsLaw.{cols}
use Rattle.granit_before.specs.HeldKeys.{StandsLow}

has_kept : (k c : ℕ) (cs : List OpenColumn) → Falls (cols cs) → Has c (cols (up_to_column k cs)) →
    (nat_lt k c ≡ false) × Has c (cols cs)
has_kept k c [] f h = absurd h
has_kept k c (d ∷ ds) f h = on (nat_lt k d.column) refl (λ h. has_kept k c ds f.1 h) h
  where
    on : (v : Bool) → nat_lt k d.column ≡ v →
        (Has c (cols (up_to_column k ds)) → (nat_lt k c ≡ false) × Has c (cols ds)) →
        Has c (cols (chosen_columns v (up_to_column k ds) (d ∷ ds))) →
        (nat_lt k c ≡ false) × Has c (cols (d ∷ ds))
    on true e more h = let r = more h in (r.0, inr r.1)
    on false e more (inl q) = (subst (λ c. nat_lt k c ≡ false) q e, inl q)
    on false e more (inr q) = (under k d.column c e (at_most_has d.column c (cols ds) f.0 q), inr q)

kept_has : (k c : ℕ) (cs : List OpenColumn) → nat_lt k c ≡ false → Has c (cols cs) →
    Has c (cols (up_to_column k cs))
kept_has k c [] e h = h
kept_has k c (d ∷ ds) e h = on (nat_lt k d.column) refl (λ h. kept_has k c ds e h) h
  where
    on : (v : Bool) → nat_lt k d.column ≡ v →
        (Has c (cols ds) → Has c (cols (up_to_column k ds))) → Has c (cols (d ∷ ds)) →
        Has c (cols (chosen_columns v (up_to_column k ds) (d ∷ ds)))
    on true f more (inl q) = absurd (let z = sym f ∙ (ap (λ c. nat_lt k c) q ∙ e) in cc)
    on true f more (inr q) = more q
    on false f more h = h

falls_kept : (k : ℕ) (cs : List OpenColumn) → Falls (cols cs) → Falls (cols (up_to_column k cs))
falls_kept k [] f = tt
falls_kept k (c ∷ cs) f = on (nat_lt k c.column) (falls_kept k cs f.1)
  where
    on : (v : Bool) → Falls (cols (up_to_column k cs)) →
        Falls (cols (chosen_columns v (up_to_column k cs) (c ∷ cs)))
    on true more = more
    on false more = f

le_test : (a b : ℕ) → a ≤ b → nat_le a b ≡ true
le_test a b e = grind (arith, nat_tests, e)

le_then : (a c d : ℕ) → a ≤ c → nat_lt d c ≡ false → a ≤ d
le_then a c d e f = grind (arith, nat_tests, e, f)

test_same : (a b : ℕ) → nat_lt a b ≡ false → nat_lt b a ≡ false → (a == b) ≡ true
test_same a b e f = grind (arith, nat_tests, e, f)

-- in front of a lexeme that ends no document
module _ (ls : List Lexeme) (l : Laid) (said : ColumnsSay ls l) (h : Here) (x : Lexeme) (start : x.start ≡ mark_of h)
    (flow : x.in_flow ≡ is_in_flow l) (outer : is_outer_kind x.kind ≡ false) where
  abbrev m : Laid
  m = closed_at h.place.column l

  column : x.start.place.column ≡ h.place.column
  column = ap (λ (m : Mark). m.place.column) start

  flow_columns : is_in_flow l ≡ true → m.columns ≡ l.columns
  flow_columns e = ap (λ v. if v then l.columns else up_to_column h.place.column l.columns) e

  out_columns : is_in_flow l ≡ false → m.columns ≡ up_to_column h.place.column l.columns
  out_columns e = ap (λ v. if v then l.columns else up_to_column h.place.column l.columns) e

  is_open : (v : Bool) → is_in_flow l ≡ v → (c : ℕ) → Has c (columns_of m) → IsOpenColumn ls c × LeavesOpen x c
  is_open true e c p = (
    said.are_open c (subst (Has c) (ap cols (flow_columns e)) p),
    λ f. absurd (let z = sym f ∙ (flow ∙ e) in cc),
  )
  is_open false e c p =
      let r = has_kept h.place.column c l.columns said.fall (subst (Has c) (ap cols (out_columns e)) p) in
      (said.are_open c r.1, λ f. (outer, ap (λ k. nat_lt k c) column ∙ r.0))

  is_kept : (v : Bool) → is_in_flow l ≡ v → (c : ℕ) → IsOpenColumn ls c → LeavesOpen x c → Has c (columns_of m)
  is_kept true e c p q = subst (Has c) (sym (ap cols (flow_columns e))) (said.are_kept c p)
  is_kept false e c p q =
      subst (Has c) (sym (ap cols (out_columns e)))
      (kept_has h.place.column c l.columns (sym (ap (λ k. nat_lt k c) column) ∙ (q (flow ∙ e)).1) (said.are_kept c p))

  falls : (v : Bool) → is_in_flow l ≡ v → Falls (columns_of m)
  falls true e = subst Falls (sym (ap cols (flow_columns e))) said.fall
  falls false e =
      subst Falls (sym (ap cols (out_columns e))) (falls_kept h.place.column l.columns said.fall)

  pub is_open_here : (c : ℕ) → Has c (columns_of m) → IsOpenColumn ls c × LeavesOpen x c
  is_open_here c p = is_open (is_in_flow l) refl c p

  pub is_kept_here : (c : ℕ) → IsOpenColumn ls c → LeavesOpen x c → Has c (columns_of m)
  is_kept_here c p q = is_kept (is_in_flow l) refl c p q

  pub head_least : (d : OpenColumn) (ds : List OpenColumn) → m.columns ≡ d ∷ ds → (c : ℕ) →
      Has c (cols (d ∷ ds)) → nat_lt d.column c ≡ false
  head_least d ds e c (inl q) = subst (λ c. nat_lt d.column c ≡ false) q (le-ltb d.column d.column (le_refl d.column))
  head_least d ds e c (inr q) =
      let f : Falls (cols (d ∷ ds)) = subst Falls (ap cols e) (falls (is_in_flow l) refl) in
      at_most_has d.column c (cols ds) f.0 q

  pub head_open : (d : OpenColumn) (ds : List OpenColumn) → m.columns ≡ d ∷ ds →
      IsOpenColumn ls d.column × LeavesOpen x d.column
  head_open d ds e = is_open_here d.column (subst (Has d.column) (sym (ap cols e)) (inl refl))

  pub low_decided : Decides (is_left (block_column m) h.place.column) (StandsLow ls x)
  low_decided = on m.columns refl
    where
      on : (cs : List OpenColumn) → m.columns ≡ cs →
          Decides (is_left (innermost_column cs) h.place.column) (StandsLow ls x)
      on [] e = (
        λ f. absurd cc,
        λ p. absurd (subst (Has p.column) (ap cols e) (is_kept_here p.column p.open_there p.stays)),
      )
      on (d ∷ ds) e = (
        λ f. record {
          column = d.column;
          open_there = (head_open d ds e).0;
          stays = (head_open d ds e).1;
          low = subst (λ k. k ≤ d.column) (sym column) (leb-true h.place.column d.column f);
        },
        λ p. le_test h.place.column d.column (le_then h.place.column p.column d.column
            (subst (λ k. k ≤ p.column) column p.low)
            (head_least d ds e p.column
            (subst (Has p.column) (ap cols e) (is_kept_here p.column p.open_there p.stays)))),
      )

  -- it stands in an open column
  in_column : is_in_flow l ≡ false →
      Decides (is_column (block_column m) h.place.column) (IsOpenColumn ls x.start.place.column)
  in_column out = on m.columns refl
    where
      stays : LeavesOpen x h.place.column
      stays f = (outer, ap (λ k. nat_lt k h.place.column) column ∙ le-ltb _ _ (le_refl h.place.column))

      kept : IsOpenColumn ls x.start.place.column → Has h.place.column (columns_of m)
      kept p = is_kept_here h.place.column (subst (IsOpenColumn ls) column p) stays

      on : (cs : List OpenColumn) → m.columns ≡ cs →
          Decides (is_column (innermost_column cs) h.place.column) (IsOpenColumn ls x.start.place.column)
      on [] e = (λ f. absurd cc, λ p. absurd (subst (Has h.place.column) (ap cols e) (kept p)))
      on (d ∷ ds) e = (
        λ f. subst (IsOpenColumn ls) (eqb-true d.column h.place.column f ∙ sym column) (head_open d ds e).0,
        λ p. test_same d.column h.place.column
            (head_least d ds e h.place.column (subst (Has h.place.column) (ap cols e) (kept p)))
            (sym (ap (λ k. nat_lt k d.column) column) ∙ ((head_open d ds e).1 (flow ∙ out)).1),
      )

  pub required_decided : Decides (not (is_in_flow m) && is_column (block_column m) h.place.column)
      ((x.in_flow ≡ false) × IsOpenColumn ls x.start.place.column)
  required_decided = on (is_in_flow l) refl
    where
      on : (v : Bool) → is_in_flow l ≡ v →
          Decides (not v && is_column (block_column m) h.place.column)
          ((x.in_flow ≡ false) × IsOpenColumn ls x.start.place.column)
      on true e = (λ f. absurd cc, λ p. absurd (let z = sym p.0 ∙ (flow ∙ e) in cc))
      on false e = let d = in_column e in (λ f. (flow ∙ e, d.0 f), λ p. d.1 p.1)
