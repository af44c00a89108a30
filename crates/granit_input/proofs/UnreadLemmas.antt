-- How what is left goes on.
use Rattle.std.proofs.Common.{◌≡◌, ℕ, ◌+◌, ◌<◌, ◌≤◌, ◌==◌, Bool, true, false, List, [], ◌∷◌, length, take, drop, Option}
use Rattle.std.proofs.Common.{Some, None, refl, ap, ◌∙◌, add-zero, arith}
use Rattle.std.specs.Option.{option_map}
use Rattle.std.specs.Char.{encode_utf8}
use Rattle.std.proofs.lemmas.List.{length-append, append-nil, drop-drop, length-drop}
use Rattle.std.proofs.lemmas.Bool.Decides.{nat_tests}
use Rattle.std.proofs.lemmas.Str.{encodes-append}
use Rattle.std.proofs.Math.Seq.{take-add}
use Rattle.granit_base.specs.Place.{Unread, past_first}
use Rattle.granit_runs.specs.Unread.{past_count, utf8_length}

pub past_text : (n : ℕ) (u : Unread) → (past_count n u).text ≡ drop n u.text
unfolding past_count
past_text n u = refl

pub past_offset : (n : ℕ) (u : Unread) → (past_count n u).offset
    ≡ option_map (λ bytes. bytes + utf8_length (take n u.text)) u.offset
unfolding past_count
past_offset n u = refl

plus_none : (o : Option ℕ) → option_map (λ bytes. bytes + 0) o ≡ o
plus_none None = refl
plus_none (Some n) = ap (λ (k : ℕ). Some k) (add-zero n)

pub past_none : (u : Unread) → past_count 0 u ≡ u
unfolding past_count
past_none u = ap (λ (o : Option ℕ). record u { offset = o }) (plus_none u.offset)

plus_twice : (a b : ℕ) (o : Option ℕ) → option_map (λ bytes. bytes + b) (option_map (λ bytes. bytes + a) o)
    ≡ option_map (λ bytes. bytes + (a + b)) o
plus_twice a b None = refl
plus_twice a b (Some n) = ap (λ (k : ℕ). Some k) (omega arith)

utf8_length_take : (m n : ℕ) (xs : List ℕ) → utf8_length (take (m + n) xs)
    ≡ utf8_length (take m xs) + utf8_length (take n (drop m xs))
utf8_length_take m n xs = ap utf8_length (take-add m n xs) ∙ ap length (encodes-append (take m xs) (take n (drop m xs)))
    ∙ length-append _ _

pub past_twice : (m n : ℕ) (u : Unread) → past_count n (past_count m u) ≡ past_count (m + n) u
unfolding past_count
past_twice m n u =
    let more = plus_twice (utf8_length (take m u.text)) (utf8_length (take n (drop m u.text))) u.offset in
    rw (drop-drop n m u.text, utf8_length_take m n u.text)
    (ap (λ (o : Option ℕ). record { text = drop (m + n) u.text; offset = o; lends = u.lends }) more)

-- past a character that is there
pub past_one : (u : Unread) → 0 < length u.text → past_count 1 u ≡ past_first u
unfolding past_count
past_one u some = one_of u.text u.offset u.lends some
  where
    one_of : (text : List ℕ) (offset : Option ℕ) (lends : Bool) → 0 < length text
        → (record {
          text = drop 1 text;
          offset = option_map (λ bytes. bytes + utf8_length (take 1 text)) offset;
          lends =
              lends;
        })
        ≡ past_first (record { text = text; offset = offset; lends = lends })
    one_of [] offset lends some = absurd (omega arith)
    one_of (c ∷ cs) offset lends some = rw (append-nil (encode_utf8 c)) refl

-- nothing is left behind as many characters as there are
pub end_reached : (n : ℕ) (text : List ℕ) → n ≤ length text → (length (drop n text) == 0) ≡ true → n ≡ length text
end_reached n text within e = grind (arith, nat_tests, length-drop, within, e)

pub end_ahead : (n : ℕ) (text : List ℕ) → (length (drop n text) == 0) ≡ false → n + 1 ≤ length text
end_ahead n text e = grind (arith, nat_tests, length-drop, e)
