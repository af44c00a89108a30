-- The words `selftest SEED SIZE`.
use Rattle.std.specs.Prelude.{◌≡◌, ℕ, zero, suc, ◌<◌, ◌≤◌, List, [], ◌∷◌, slice_get, Some, codes}
use Rattle.std.specs.Fmt.{decimal}
use Rattle.granit_base.specs.Written.{Written}
use Rattle.granit_words.specs.Words.{IsNumber, spelled}

-- the first word is `selftest`
abbrev pub BeginSelftest : List Written → Type 0
BeginSelftest words = slice_get (spelled words) 0 ≡ Some (codes "selftest")

-- how many documents may be asked for
abbrev pub most_documents : ℕ
most_documents = 100_000

-- the words are `selftest` and these two numbers, in decimal with no zero in front of another digit
pub record Ask (words : List (List ℕ)) (seed size : ℕ) : Type 0 where
  pub are : words ≡ codes "selftest" ∷ decimal seed ∷ decimal size ∷ []
  pub seed_fits : IsNumber seed
  pub size_fits : size ≤ most_documents

-- what right words have behind so many others
abbrev pub WordMayStand : (before : ℕ) → List ℕ → Type 0
WordMayStand zero word = word ≡ codes "selftest"
WordMayStand (suc zero) word = (n : ℕ) × IsNumber n × (word ≡ decimal n)
WordMayStand (suc (suc zero)) word = (n : ℕ) × (n ≤ most_documents) × (word ≡ decimal n)
WordMayStand (suc (suc (suc i))) word = ⊥

-- The words in front of the k-th are as right words have them, and the k-th isn't, or is missing from right words.
pub record AskWrongAt (words : List (List ℕ)) (k : ℕ) : Type 0 where
  pub before : ℕ
  pub number : k ≡ suc before
  pub fit : (i : ℕ) → i < before → (word : List ℕ) × (slice_get words i ≡ Some word) × WordMayStand i word
  pub wrong : (word : List ℕ) → slice_get words before ≡ Some word → WordMayStand before word → ⊥
  pub not_right : (seed size : ℕ) → Ask words seed size → ⊥
