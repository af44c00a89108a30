-- What texts stand for in an ordered map, as the machine's entries have it.
use Rattle.std.proofs.Common.{◌≡◌, ℕ, Bool, true, false, List, [], ◌∷◌, map, cond, Option, Some, None, refl, sym, ap}
use Rattle.std.proofs.Common.{◌∙◌}
use Rattle.std.specs.Prelude.{if◌then◌else◌}
use Rattle.std.specs.BTreeMap.{insert_entry, is_at}
use Rattle.std.specs.Map.{lookup}
use Rattle.std.specs.Option.{option_map}
use Rattle.std.specs.declared.cmp.Ordering.{Ordering}
use Rattle.std.specs.declared.cmp.Ordering.TheVariants.{Less, Equal, Greater}
use Rattle.std.specs.Ordering.{match_ordering}
use Rattle.std.specs.Cmp.Lexicographic.{texts_ties}
use Rattle.granit_base.specs.Written.{Written, order_of_characters}
use Rattle.granit_machine.specs.Entries.{lookup_text, remembered}
use Rattle.granit_frames.specs.StateViews.{names_view, handles_view}

module _ {V A : Type 0} (g : V → A) where
  abbrev viewed : Written × V → List ℕ × A
  viewed e = (e.0.characters, g e.1)

  chosen : (b : Bool) (v : V) (o : Option V) (w : Option A) → option_map g o ≡ w
      → option_map g (cond b (Some v) o) ≡ (if b then Some (g v) else w)
  chosen true v o w e = refl
  chosen false v o w e = e

  -- a map finds what the entries have
  found : (name : Written) (es : List (Written × V))
      → option_map g (lookup (is_at (order_of_characters name)) es) ≡ lookup_text name.characters (map viewed es)
  found name [] = refl
  found name (e ∷ es) = rw (texts_ties name.characters e.0.characters) (chosen _ e.1 _ _ (found name es))

  placed : (k : Written) (v : V) (e : Written × V) (es : List (Written × V)) (r : Ordering)
      → map viewed (insert_entry order_of_characters es k v) ≡ remembered k.characters (g v) (map viewed es)
      → map viewed (match_ordering r ((k, v) ∷ e ∷ es) ((e.0, v) ∷ es) (e ∷ insert_entry order_of_characters es k v))
      ≡ match_ordering r ((k.characters, g v) ∷ map viewed (e ∷ es)) ((e.0.characters, g v) ∷ map viewed es)
      (viewed e ∷ remembered k.characters (g v) (map viewed es))
  placed k v e es Less ih = refl
  placed k v e es Equal ih = refl
  placed k v e es Greater ih = ap (λ (xs : List (List ℕ × A)). viewed e ∷ xs) ih

  -- what is put into a map is remembered
  inserted : (k : Written) (v : V) (es : List (Written × V))
      → map viewed (insert_entry order_of_characters es k v) ≡ remembered k.characters (g v) (map viewed es)
  inserted k v [] = refl
  inserted k v (e ∷ es) = placed k v e es (order_of_characters k e.0) (inserted k v es)

same_number : (o : Option ℕ) → option_map (λ (n : ℕ). n) o ≡ o
same_number None = refl
same_number (Some n) = refl

pub name_found : (name : Written) (es : List (Written × ℕ))
    → lookup (is_at (order_of_characters name)) es ≡ lookup_text name.characters (names_view es)
name_found name es = sym (same_number _) ∙ found (λ (n : ℕ). n) name es

pub name_inserted : (k : Written) (n : ℕ) (es : List (Written × ℕ))
    → names_view (insert_entry order_of_characters es k n) ≡ remembered k.characters n (names_view es)
name_inserted k n es = inserted (λ (m : ℕ). m) k n es

pub prefix_found : (handle : Written) (es : List (Written × Written))
    → option_map (λ (t : Written). t.characters) (lookup (is_at (order_of_characters handle)) es)
    ≡ lookup_text handle.characters (handles_view es)
prefix_found handle es = found (λ (t : Written). t.characters) handle es

pub prefix_inserted : (k prefix : Written) (es : List (Written × Written))
    → handles_view (insert_entry order_of_characters es k prefix)
    ≡ remembered k.characters prefix.characters (handles_view es)
prefix_inserted k prefix es = inserted (λ (t : Written). t.characters) k prefix es
