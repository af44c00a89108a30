-- The oldest items of a queue.
use Rattle.std.proofs.Common.{◌≡◌, Bool, true, false, ◌&&◌, ◌||◌, not, if◌then◌else◌, List, [], ◌∷◌, take, drop, Some}
use Rattle.std.proofs.Common.{None, refl, sym, ap, ◌∙◌}
use Rattle.std.proofs.lemmas.Option.{same_Some}
use Rattle.std.specs.List.{slice_get}
use Rattle.granit_machine.specs.Laid.{Laid}
use Rattle.granit_machine.specs.Lexing.{FlaggedItem}
use Rattle.granit_machine.specs.Machine.{front_if, is_settled, settled}
use Rattle.granit_machine.specs.Parser.{line_of_item, next_line}
use Rattle.granit_scanner.specs.Scans.{front_goes, is_final, line_front, line_known}
use Rattle.granit_steps.specs.Steps.{asks_next, is_next_settled}

module _ (over : Bool) (l : Laid) where
  pub none_goes : (q : List FlaggedItem) → None ≡ slice_get q 0 → false ≡ front_goes over l q
  none_goes [] e = refl
  none_goes (i ∷ is) e = absurd cc

  pub first_goes : (q : List FlaggedItem) (f : FlaggedItem) → Some f ≡ slice_get q 0
      → (over || is_final l f.item (drop 1 q)) ≡ front_goes over l q
  first_goes [] f e = absurd cc
  first_goes (i ∷ is) f e = ap (λ (g : FlaggedItem). over || is_final l g.item is) (same_Some f i e)

  pub no_line : (q : List FlaggedItem) → None ≡ slice_get q 0 → None ≡ line_front over l q
  no_line [] e = by_over over
    where
      by_over : (b : Bool) → None ≡ line_front b l []
      by_over true = refl
      by_over false = refl
  no_line (i ∷ is) e = absurd cc

line_by : (b : Bool) (l : Laid) (i : FlaggedItem) (is : List FlaggedItem)
    → (if b then line_of_item i.item i.begins_key else None) ≡ next_line (front_if b i is)
line_by true l i is = refl
line_by false l i is = refl

pub line_of_first : (over : Bool) (l : Laid) (q : List FlaggedItem) (f : FlaggedItem) → Some f ≡ slice_get q 0
    → line_known over l f ≡ line_front over l q
line_of_first over l [] f e = absurd cc
line_of_first true l (j ∷ js) f e = ap (λ (g : FlaggedItem). line_of_item g.item g.begins_key) (same_Some f j e)
line_of_first false l (j ∷ js) f e =
    ap (λ (g : FlaggedItem). line_known false l g) (same_Some f j e) ∙ line_by (is_settled l j.item) l j (settled l js)

module _ (l : Laid) where
  pub no_next : (q : List FlaggedItem) → None ≡ slice_get q 1 → false ≡ is_next_settled l (drop 1 q)
  no_next [] e = refl
  no_next (i ∷ []) e = refl
  no_next (i ∷ j ∷ js) e = absurd cc

  pub next_settled : (q : List FlaggedItem) (f : FlaggedItem) → Some f ≡ slice_get q 1
      → is_settled l f.item ≡ is_next_settled l (drop 1 q)
  next_settled [] f e = absurd cc
  next_settled (i ∷ []) f e = absurd cc
  next_settled (i ∷ j ∷ js) f e = ap (λ (g : FlaggedItem). is_settled l g.item) (same_Some f j e)

  -- ---- what may go before a fault

  pub none_free : (q : List FlaggedItem) → None ≡ slice_get q 0 → take 0 q ≡ settled l q
  none_free [] e = refl
  none_free (i ∷ is) e = absurd cc

  or_false_right : (a b : Bool) → (a || b) ≡ false → b ≡ false
  or_false_right true b e = absurd cc
  or_false_right false b e = e

  none_behind : (is : List FlaggedItem) → is_next_settled l is ≡ false → settled l is ≡ []
  none_behind [] e = refl
  none_behind (j ∷ js) e = ap (λ (b : Bool). front_if b j (settled l js)) e

  free_by : (b : Bool) (i : FlaggedItem) (is : List FlaggedItem)
      → (b && (not (asks_next i.item) || is_next_settled l is)) ≡ false
      → take (if b then 1 else 0) (i ∷ is) ≡ front_if b i (settled l is)
  free_by true i is e = ap (λ (rest : List FlaggedItem). i ∷ rest)
      (sym (none_behind is (or_false_right (not (asks_next i.item)) (is_next_settled l is) e)))
  free_by false i is e = refl

  -- where the oldest item waits for what is behind it, it may go alone
  pub first_free : (q : List FlaggedItem) (f : FlaggedItem) → Some f ≡ slice_get q 0 → front_goes false l q ≡ false
      → take (if is_settled l f.item then 1 else 0) q ≡ settled l q
  first_free [] f e waits = absurd cc
  first_free (i ∷ is) f e waits =
      ap (λ (g : FlaggedItem). take (if is_settled l g.item then 1 else 0) (i ∷ is)) (same_Some f i e)
      ∙ free_by (is_settled l i.item) i is waits

  -- where it waits for nothing, it isn't settled
  pub unasked_held : (q : List FlaggedItem) (f : FlaggedItem) → Some f ≡ slice_get q 0 → asks_next f.item ≡ false
      → front_goes false l q ≡ false → take 0 q ≡ settled l q
  unasked_held [] f e unasked waits = absurd cc
  unasked_held (i ∷ is) f e unasked waits =
      let same : asks_next i.item ≡ false =
      ap (λ (g : FlaggedItem). asks_next g.item) (sym (same_Some f i e)) ∙ unasked in
      held_by (is_settled l i.item) i is (asks_next i.item) same waits
    where
      held_by : (b : Bool) (i : FlaggedItem) (is : List FlaggedItem) (asks : Bool) → asks ≡ false
          → (b && (not asks || is_next_settled l is)) ≡ false → [] ≡ front_if b i (settled l is)
      held_by true i is true asks e = absurd cc
      held_by true i is false asks e = absurd cc
      held_by false i is asks none e = refl
