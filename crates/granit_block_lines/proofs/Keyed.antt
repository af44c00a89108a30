-- The key that a lexeme of a node begins, or goes on with, in block text.
use Rattle.std.proofs.Common.{Bool, List, Option, [], arith, false, not, refl, subst, sym, true, ℕ, ◌||◌}
use Rattle.std.proofs.Common.{◌∙◌, ◌∷◌, ◌≡◌, ◌≤◌}
use Rattle.std.proofs.lemmas.Bool.{and_right}
use Rattle.std.proofs.lemmas.Bool.Decides.{nat_tests}
use Rattle.std.specs.Prelude.{None, Some, if◌then◌else◌}
use Rattle.granit_block_lines.proofs.Columns.{closed_map, up_bound}
use Rattle.granit_block_lines.proofs.Lines.{Along}
use Rattle.granit_block_lines.proofs.Ready.{Around, Kept, NodeAt, bound, kept_on, one_kept}
use Rattle.granit_block_lines.proofs.Signs.{key_outside, top_outside}
use Rattle.granit_lexemes.specs.Here.{Here, mark_of}
use Rattle.granit_lexemes.specs.LayoutData.{is_left}
use Rattle.granit_lexemes.specs.declared.layout.OpenColumn.{OpenColumn}
use Rattle.granit_lexemes.specs.declared.layout.PossibleKey.{PossibleKey}
use Rattle.granit_machine.specs.Columns.{closed_at}
use Rattle.granit_machine.specs.Laid.{Laid, block_column, innermost_column, is_column, is_in_flow}
use Rattle.granit_machine.specs.PossibleKeys.{is_allowed, key_goes_on, new_key, node_key, top_key}
use Rattle.granit_machine.specs.Reader.{noded}
pub use Rattle.granit_canonical_steps.proofs.Places.{cols}

no_column : (columns : List OpenColumn) (n : ℕ) → bound (cols columns) ≤ n
    → is_column (innermost_column columns) n ≡ false
no_column [] n h = refl
no_column (c ∷ cs) n h = grind (arith, nat_tests)

-- what is right of all open columns needs no `:`
new_kept : (property : Bool) (h : Here) (l : Laid) → bound (cols l.columns) ≤ h.place.column
    → Kept (Some (new_key property (mark_of h) l)) h.place.line
new_kept property h l b =
    one_kept (new_key property (mark_of h) l) h.place.line
    (and_right (not (is_in_flow l)) (is_column (block_column l) h.place.column)
    (no_column l.columns h.place.column b)) (omega arith)

goes_kept : (property low : Bool) (key : Option PossibleKey) (n : ℕ) → Kept key n
    → Kept (key_goes_on property low key) n
goes_kept property low None n h = h
goes_kept property low (Some k) n h = by k.is_head
  where
    by : (v : Bool) → Kept (if v then Some (record k { is_low = k.is_low || low; is_head = property }) else Some k) n
    by true = let r = h k refl in
        one_kept (record k { is_low = k.is_low || low; is_head = property }) n r.0 r.1
    by false = h

choose_kept : (v : Bool) (a b : Option PossibleKey) (n : ℕ) → Kept a n → Kept b n → Kept (if v then a else b) n
choose_kept true a b n p q = p
choose_kept false a b n p q = q

node_kept : (property allowed : Bool) (h : Here) (l : Laid) → bound (cols l.columns) ≤ h.place.column
    → Around [] l.brackets → Kept l.key h.place.line → Kept (node_key property allowed (mark_of h) l) h.place.line
unfolding node_key
node_kept property allowed h l b a k =
    choose_kept allowed (Some (new_key property (mark_of h) l))
    (key_goes_on property (is_left (block_column l) h.place.column) (top_key l)) h.place.line
    (new_kept property h l b)
    (goes_kept property (is_left (block_column l) h.place.column) (top_key l) h.place.line
    (subst (λ (key : Option PossibleKey). Kept key h.place.line) (sym (top_outside l.brackets l.key a)) k))

-- the columns at a place right of all that are open
pub open_columns : (n : ℕ) (l : Laid) (cs : List ℕ) → Around [] l.brackets → cols l.columns ≡ cs → bound cs ≤ n
    → cols (closed_at n l).columns ≡ cs
open_columns n l cs a e b = closed_map n l.brackets l.columns cs a e ∙ up_bound n cs b

pub noded_kept : (property : Bool) (h : Here) (l : Laid) (cs : List ℕ) → Around [] l.brackets
    → cols l.columns ≡ cs → NodeAt (bound cs) l.key h
    → Kept (noded property h (closed_at h.place.column l)).key h.place.line
noded_kept property h l cs a e n =
    let t = closed_at h.place.column l in
    let key = node_key property (is_allowed h.begins_line h.tab t) (mark_of h) t in
    subst (λ (key : Option PossibleKey). Kept key h.place.line) (sym (key_outside t.brackets key t.key a))
    (node_kept property (is_allowed h.begins_line h.tab t) h t
    (subst (λ (ds : List ℕ). bound ds ≤ h.place.column) (sym (open_columns h.place.column l cs a e n.right)) n.right)
    a n.kept)

-- further right on the same line
pub node_on : (m : ℕ) (key old : Option PossibleKey) (h g : Here) → Along h g → NodeAt m old h
    → Kept key h.place.line → NodeAt m key g
node_on m key old h g a n k =
    let r = n.right in
    let c = a.column in record {
      right = omega (arith, r, c);
      tab = a.tab n.tab;
      kept = kept_on key g.place.line h.place.line a.line k;
    }
