-- Pieces put behind the first bytes of a room.
use Rattle.std.proofs.Common.{◌≡◌, ℕ, ◌+◌, ◌<◌, ◌≤◌, List, [], ◌∷◌, ◌++◌, length, take, set, get_or, sym, ap, ◌∙◌}
use Rattle.std.proofs.Common.{arith, append_assoc, length-set}
use Rattle.std.proofs.Math.Seq.{take-append-add}
use Rattle.std.proofs.lemmas.Grind.{take-set_at}
use Rattle.std.proofs.lemmas.List.{length-take-le, take_all, take_more, take-take}

-- one more byte of those that are put
pub byte_more : (room old bytes : List ℕ) (at count : ℕ) → count < length bytes → at + count < length room
    → take (at + count) room ≡ take at old ++ take count bytes
    → take (at + (count + 1)) (set room (at + count) (get_or bytes count 0))
    ≡ take at old ++ take (count + 1) bytes
byte_more room old bytes at count some left put =
    take-set_at room (at + count) (at + (count + 1)) (get_or bytes count 0) (omega arith) left
    ∙ ap (λ (xs : List ℕ). xs ++ (get_or bytes count 0 ∷ [])) put
    ∙ append_assoc (take at old) (take count bytes) (get_or bytes count 0 ∷ [])
    ∙ ap (λ (xs : List ℕ). take at old ++ xs) (sym (take_more bytes count 0 some))

-- the same by its place, and by how many they are then
byte_at : (room old bytes : List ℕ) (at count next place : ℕ) → place ≡ at + count → next ≡ count + 1
    → count < length bytes → place < length room → take (at + count) room ≡ take at old ++ take count bytes
    → take (at + next) (set room place (get_or bytes count 0)) ≡ take at old ++ take next bytes
byte_at room old bytes at count next place there more some left put =
    rw (there, more) (byte_more room old bytes at count some (omega (arith, there, left)) put)

-- four more
pub four_more : (room old bytes : List ℕ) (at count : ℕ) → count + 4 ≤ length bytes → at + (count + 4) ≤ length room
    → take (at + count) room ≡ take at old ++ take count bytes
    → take (at + (count + 4)) (set (set (set (set room (at + count) (get_or bytes count 0)) (at + count + 1)
    (get_or bytes (count + 1) 0)) (at + count + 2) (get_or bytes (count + 2) 0)) (at + count + 3)
    (get_or bytes (count + 3) 0)) ≡ take at old ++ take (count + 4) bytes
four_more room old bytes at count some left put =
    let one = set room (at + count) (get_or bytes count 0) in
    let two = set one (at + count + 1) (get_or bytes (count + 1) 0) in
    let three = set two (at + count + 2) (get_or bytes (count + 2) 0) in
    let at_one : length one ≡ length room = length-set room _ _ in
    let at_two : length two ≡ length room = length-set one _ _ ∙ at_one in
    let at_three : length three ≡ length room = length-set two _ _ ∙ at_two in
    byte_at three old bytes at (count + 3) (count + 4) (at + count + 3) (omega arith) (omega arith)
    (omega (arith, some)) (omega (arith, left, at_three))
    (byte_at two old bytes at (count + 2) (count + 3) (at + count + 2) (omega arith) (omega arith)
    (omega (arith, some)) (omega (arith, left, at_two))
    (byte_at one old bytes at (count + 1) (count + 2) (at + count + 1) (omega arith) (omega arith) (omega (arith, some))
    (omega (arith, left, at_one)) (byte_more room old bytes at count (omega (arith, some)) (omega (arith, left)) put)))

-- two bytes
pub pair_put : (room : List ℕ) (at first second : ℕ) → at + 2 ≤ length room
    → take (at + 2) (set (set room at first) (at + 1) second) ≡ take at room ++ first ∷ second ∷ []
pair_put room at first second left =
    take-set_at (set room at first) (at + 1) (at + 2) second (omega arith)
    (omega (arith, left, length-set room at first))
    ∙ ap (λ (xs : List ℕ). xs ++ (second ∷ [])) (take-set_at room at (at + 1) first (omega arith) (omega (arith, left)))
    ∙ append_assoc (take at room) (first ∷ []) (second ∷ [])

-- eight bytes
pub eight_put : (room bytes : List ℕ) (at : ℕ) → length bytes ≡ 8 → at + 8 ≤ length room
    → take (at + 8) (set (set (set (set (set (set (set (set room at (get_or bytes 0 0)) (at + 1) (get_or bytes 1 0))
    (at + 2) (get_or bytes 2 0)) (at + 3) (get_or bytes 3 0)) (at + 4) (get_or bytes 4 0)) (at + 5) (get_or bytes 5 0))
    (at + 6) (get_or bytes 6 0)) (at + 7) (get_or bytes 7 0))
    ≡ take at room ++ bytes
eight_put room bytes at long left =
    let one = set room at (get_or bytes 0 0) in
    let two = set one (at + 1) (get_or bytes 1 0) in
    let three = set two (at + 2) (get_or bytes 2 0) in
    let four = set three (at + 3) (get_or bytes 3 0) in
    let five = set four (at + 4) (get_or bytes 4 0) in
    let six = set five (at + 5) (get_or bytes 5 0) in
    let seven = set six (at + 6) (get_or bytes 6 0) in
    let at_one : length one ≡ length room = length-set room at _ in
    let at_two : length two ≡ length room = length-set one _ _ ∙ at_one in
    let at_three : length three ≡ length room = length-set two _ _ ∙ at_two in
    let at_four : length four ≡ length room = length-set three _ _ ∙ at_three in
    let at_five : length five ≡ length room = length-set four _ _ ∙ at_four in
    let at_six : length six ≡ length room = length-set five _ _ ∙ at_five in
    let at_seven : length seven ≡ length room = length-set six _ _ ∙ at_six in
    let first : take (at + 1) one ≡ take at room ++ take 1 bytes =
    take-set_at room at (at + 1) (get_or bytes 0 0) (omega arith) (omega (arith, left))
    ∙ ap (λ (xs : List ℕ). take at room ++ xs) (sym (take_more bytes 0 0 (omega (arith, long)))) in
    byte_more seven room bytes at 7 (omega (arith, long)) (omega (arith, left, at_seven))
    (byte_more six room bytes at 6 (omega (arith, long)) (omega (arith, left, at_six))
    (byte_more five room bytes at 5 (omega (arith, long)) (omega (arith, left, at_five))
    (byte_more four room bytes at 4 (omega (arith, long)) (omega (arith, left, at_four))
    (byte_more three room bytes at 3 (omega (arith, long)) (omega (arith, left, at_three))
    (byte_more two room bytes at 2 (omega (arith, long)) (omega (arith, left, at_two))
    (byte_more one room bytes at 1 (omega (arith, long)) (omega (arith, left, at_one)) first))))))
    ∙ ap (λ (xs : List ℕ). take at room ++ xs) (take_all 8 bytes (omega (arith, long)))

-- of a piece that was put only so many bytes
pub piece_front : (now old piece : List ℕ) (at n count : ℕ) → at ≤ length old → at + count ≤ n
    → take n now ≡ take at old ++ piece → take (at + count) now ≡ take at old ++ take count piece
piece_front now old piece at n count within few put =
    sym (take-take (at + count) n now few) ∙ ap (take (at + count)) put
    ∙ ap (λ (m : ℕ). take (m + count) (take at old ++ piece)) (sym (length-take-le at old within))
    ∙ take-append-add (take at old) piece count
