-- Which words are right, and which is the first wrong one.
use Rattle.std.proofs.Common.{◌≡◌, ℕ, zero, suc, ◌<◌, ◌≤◌, List, [], ◌∷◌, length, codes, decimal, Some}
use Rattle.std.proofs.Common.{refl, sym, ap, ◌∙◌, arith}
use Rattle.std.proofs.lemmas.List.{length-map}
use Rattle.std.proofs.lemmas.Option.{slice_get-map}
use Rattle.std.specs.Option.{option_map}
use Rattle.std.specs.Prelude.{slice_get}
use Rattle.std.specs.Str.{encode_utf8_all}
use Rattle.std.specs.Str.Parse.{digits_value}
use Rattle.granit_base.specs.Written.{Written}
use Rattle.granit_words.specs.Words.{IsNumber, spelled}
use Rattle.granit_words.proofs.NumberLemmas.{decimal_value}
use Rattle.granit_words.specs.Asking.{Ask, AskWrongAt, WordMayStand, most_documents}

module _ (ws : List (List ℕ)) where
  abbrev At : ℕ → List ℕ → Type 0
  At i word = slice_get ws i ≡ Some word

  abbrev Fits : ℕ → Type 0
  Fits i = (word : List ℕ) × At i word × WordMayStand i word

  fits_one : At 0 (codes "selftest") → (i : ℕ) → i < 1 → Fits i
  fits_one a zero h = (codes "selftest", a, refl)
  fits_one a (suc i) h = absurd (omega (arith, h))

  fits_two : At 0 (codes "selftest") → (n : ℕ) → IsNumber n → At 1 (decimal n) → (i : ℕ) → i < 2 → Fits i
  fits_two a n h b zero k = fits_one a zero (omega arith)
  fits_two a n h b (suc zero) k = (decimal n, b, (n, h, refl))
  fits_two a n h b (suc (suc i)) k = absurd (omega (arith, k))

  fits_three : At 0 (codes "selftest") → (n : ℕ) → IsNumber n → At 1 (decimal n) → (m : ℕ) → m ≤ most_documents
      → At 2 (decimal m) → (i : ℕ) → i < 3 → Fits i
  fits_three a n h b m l d zero k = fits_one a zero (omega arith)
  fits_three a n h b m l d (suc zero) k = fits_two a n h b (suc zero) (omega arith)
  fits_three a n h b m l d (suc (suc zero)) k = (decimal m, d, (m, l, refl))
  fits_three a n h b m l d (suc (suc (suc i))) k = absurd (omega (arith, k))

  pub wrong_first : (At 0 (codes "selftest") → ⊥) → AskWrongAt ws 1
  wrong_first other = record {
    before = 0;
    number = refl;
    fit = λ i h. absurd (omega (arith, h));
    wrong = λ word e f. other (e ∙ ap Some f);
    not_right = λ seed size r. other (ap (λ (xs : List (List ℕ)). slice_get xs 0) r.are);
  }

  pub wrong_seed : At 0 (codes "selftest") → ((n : ℕ) → IsNumber n → At 1 (decimal n) → ⊥) → AskWrongAt ws 2
  wrong_seed a other = record {
    before = 1;
    number = refl;
    fit = fits_one a;
    wrong = λ word e f. other f.0 f.1 (e ∙ ap Some f.2);
    not_right = λ seed size r. other seed r.seed_fits (ap (λ (xs : List (List ℕ)). slice_get xs 1) r.are);
  }

  pub wrong_size : At 0 (codes "selftest") → (n : ℕ) → IsNumber n → At 1 (decimal n)
      → ((m : ℕ) → m ≤ most_documents → At 2 (decimal m) → ⊥) → AskWrongAt ws 3
  wrong_size a n h b other = record {
    before = 2;
    number = refl;
    fit = fits_two a n h b;
    wrong = λ word e f. other f.0 f.1 (e ∙ ap Some f.2);
    not_right = λ seed size r. other size r.size_fits (ap (λ (xs : List (List ℕ)). slice_get xs 2) r.are);
  }

  -- a number past the limit is not one within it
  pub too_many : (n : ℕ) → IsNumber n → most_documents < n → At 2 (decimal n) → (m : ℕ) → m ≤ most_documents
      → At 2 (decimal m) → ⊥
  too_many n h large d m l e =
      let same : decimal n ≡ decimal m = cc in
      let small : IsNumber m = omega (arith, l) in
      absurd (omega (
        arith,
        large,
        l,
        sym (decimal_value n h) ∙ ap (digits_value 10) same ∙ decimal_value m small,
      ))

  one_more : At 0 (codes "selftest") → (n : ℕ) → IsNumber n → At 1 (decimal n) → (m : ℕ) → m ≤ most_documents
      → At 2 (decimal m) → 3 < length ws → AskWrongAt ws 4
  one_more a n h b m l d long = record {
    before = 3;
    number = refl;
    fit = fits_three a n h b m l d;
    wrong = λ word e f. f;
    not_right = λ seed size r. absurd (omega (arith, long, ap length r.are));
  }

three : (ws : List (List ℕ)) (a b c : List ℕ) → slice_get ws 0 ≡ Some a → slice_get ws 1 ≡ Some b
    → slice_get ws 2 ≡ Some c → length ws ≤ 3 → ws ≡ a ∷ b ∷ c ∷ []
three [] a b c p q r h = cc
three (x ∷ []) a b c p q r h = cc
three (x ∷ y ∷ []) a b c p q r h = cc
three (x ∷ y ∷ z ∷ []) a b c p q r h = cc
three (x ∷ y ∷ z ∷ w ∷ ws) a b c p q r h = absurd (omega (arith, h))

asked_by : (ws : List (List ℕ)) → slice_get ws 0 ≡ Some (codes "selftest") → (n : ℕ) → IsNumber n
    → slice_get ws 1 ≡ Some (decimal n) → (m : ℕ) → m ≤ most_documents → slice_get ws 2 ≡ Some (decimal m)
    → length ws ≤ 3 → Ask ws n m
asked_by ws a n h b m l d short = record {
  are = three ws (codes "selftest") (decimal n) (decimal m) a b d short;
  seed_fits = h;
  size_fits = l;
}

-- the words behind so many others, in UTF-8
pub spelled_at : (words : List Written) (i : ℕ)
    → slice_get (spelled words) i ≡ option_map (λ w. encode_utf8_all w.characters) (slice_get words i)
spelled_at words i = slice_get-map (λ w. encode_utf8_all w.characters) words i

pub spelled_length : (words : List Written) → length (spelled words) ≡ length words
spelled_length words = length-map words (λ w. encode_utf8_all w.characters)

pub a_word_too_many : (words : List Written) → At (spelled words) 0 (codes "selftest") → (n : ℕ) → IsNumber n
    → At (spelled words) 1 (decimal n) → (m : ℕ) → m ≤ most_documents → At (spelled words) 2 (decimal m)
    → 3 < length words → AskWrongAt (spelled words) 4
a_word_too_many words a n h b m l d long =
    one_more (spelled words) a n h b m l d (omega (arith, long, spelled_length words))

pub asked : (words : List Written) → At (spelled words) 0 (codes "selftest") → (n : ℕ) → IsNumber n
    → At (spelled words) 1 (decimal n) → (m : ℕ) → m ≤ most_documents → At (spelled words) 2 (decimal m)
    → length words ≤ 3 → Ask (spelled words) n m
asked words a n h b m l d short =
    asked_by (spelled words) a n h b m l d (omega (arith, short, spelled_length words))

-- each word that may be the first wrong one
pub ruleset wrong_words = (wrong_first, wrong_seed, wrong_size, too_many)
