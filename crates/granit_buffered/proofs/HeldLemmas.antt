-- The slots from one place to another.
use Rattle.std.proofs.Common.{◌≡◌, ◌+◌, ◌-◌, ◌<◌, ◌≤◌, ℕ, suc, List, [], ◌∷◌, ◌++◌, length, take, drop, set}
use Rattle.std.proofs.Common.{refl, ap, sym, ◌∙◌, arith, length-drop}
use Rattle.std.proofs.lemmas.List.{drop-append-le, drop-take, length-take-le}
use Rattle.std.proofs.lemmas.List.Edits.{length-paste, take-paste}
use Rattle.std.proofs.Math.Seq.{paste}
use Rattle.std.proofs.lemmas.Grind.{take-set_at}

-- how many they are
pub held_length : (slots : List ℕ) (start end : ℕ) → end ≤ length slots
    → length (drop start (take end slots)) ≡ end - start
held_length slots start end within = length-drop start (take end slots) ∙ ap (λ (n : ℕ). n - start)
    (length-take-le end slots within)

-- one more behind them
pub held_more : (slots : List ℕ) (start end c : ℕ) → start ≤ end → end < length slots
    → drop start (take (end + 1) (set slots end c)) ≡ drop start (take end slots) ++ c ∷ []
held_more slots start end c order within =
    let len = length-take-le end slots (omega (arith, within)) in
    ap (drop start) (take-set_at slots end (end + 1) c refl within)
    ∙ drop-append-le start (take end slots) (c ∷ []) (omega (arith, len, order))

-- the first slots after a copy
copied_slots : (slots : List ℕ) (start end at : ℕ) → start ≤ end → end ≤ length slots → at ≤ length slots
    → take (at + (end - start)) (paste slots at (drop start slots) (end - start))
    ≡ take at slots ++ drop start (take end slots)
copied_slots slots start end at order within front =
    let whole : start + (end - start) ≡ end = omega (arith, order) in
    let len = length-drop start slots in
    take-paste slots at (drop start slots) (end - start) front (omega (arith, len, within))
    ∙ ap (λ (ys : List ℕ). take at slots ++ ys) (sym (drop-take start (end - start) slots)
    ∙ ap (λ (n : ℕ). drop start (take n slots)) whole)

-- moved to the front, with one more behind them
pub held_moved : (slots moved : List ℕ) (start end c : ℕ) → start ≤ end → end ≤ length slots
    → end - start < length slots → moved ≡ paste slots 0 (drop start slots) (end - start)
    → take (end - start + 1) (set moved (end - start) c) ≡ drop start (take end slots) ++ c ∷ []
held_moved slots moved start end c order within room is =
    let rest = length-drop start slots in
    let len = ap length is ∙ length-paste slots 0 (drop start slots) (end - start) (omega (arith, room))
    (omega (arith, rest, within)) in
    let count : end - start ≡ 0 + (end - start) = omega arith in
    take-set_at moved (end - start) (end - start + 1) c refl (omega (arith, room, len))
    ∙ ap (λ (ys : List ℕ). ys ++ c ∷ []) (ap (λ (n : ℕ). take n moved) count
    ∙ ap (take (0 + (end - start))) is ∙ copied_slots slots start end 0 order within (omega arith))

set_first : (slots : List ℕ) (n c : ℕ) → 0 < length slots
    → take (n + 1) (set slots 0 c) ≡ c ∷ drop 1 (take (n + 1) slots)
set_first [] n c some = absurd (omega (arith, some))
set_first (x ∷ slots) n c some = let count : n + 1 ≡ suc n = omega arith in rw count refl

-- moved behind the first slot, with one more in front of them
pub held_in_front : (slots moved : List ℕ) (start end c : ℕ) → start ≤ end → end ≤ length slots
    → end - start < length slots → moved ≡ paste slots 1 (drop start slots) (end - start)
    → take (end - start + 1) (set moved 0 c) ≡ c ∷ drop start (take end slots)
held_in_front [] moved start end c order within room is = absurd (omega (arith, room))
held_in_front (x ∷ slots) moved start end c order within room is =
    let all = x ∷ slots in
    let rest = length-drop start all in
    let len = ap length is ∙ length-paste all 1 (drop start all) (end - start) (omega (arith, room))
    (omega (arith, rest, within)) in
    let count : end - start + 1 ≡ 1 + (end - start) = omega arith in
    set_first moved (end - start) c (omega (arith, room, len))
    ∙ ap (λ (ys : List ℕ). c ∷ drop 1 ys) (ap (λ (n : ℕ). take n moved) count
    ∙ ap (take (1 + (end - start))) is ∙ copied_slots all start end 1 order within (omega (arith, room)))
