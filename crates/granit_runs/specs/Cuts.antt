-- A text that was cut.
use Rattle.std.specs.Prelude.{◌≡◌, ℕ, ◌-◌, ◌≤◌, ◌++◌, Bool, true, List, length, take, drop, Option, Some, None, IsNone}
use Rattle.std.specs.Borrow.{Bor}
use Rattle.std.specs.Str.{chars, encode_utf8_all, is_utf8}
use Rattle.granit_base.specs.Spans.{Slices}
use Rattle.granit_runs.specs.Chunks.{FrontOf}

-- in front of the rest stands the UTF-8 of so many characters
abbrev pub SpellsFront : List ℕ → ℕ → List ℕ → Type 0
SpellsFront text count rest = text ≡ encode_utf8_all (take count (chars text)) ++ rest

-- the last n bytes
abbrev pub last_bytes : ℕ → List ℕ → List ℕ
last_bytes n text = drop (length text - n) text

-- so many bytes in front are characters of a run
pub record IsAsciiFront (test : List ℕ → Bool) (text : List ℕ) (count : ℕ) : Type 0 where
  pub within : count ≤ length text
  pub utf8 : is_utf8 (drop count text) ≡ true
  pub front : FrontOf test (chars text) count
  pub rest : chars (drop count text) ≡ drop count (chars text)
  pub bytes : SpellsFront text count (drop count text)

-- the part of the source between two offsets, which is answered exactly where there is a source and both offsets lie
-- between its characters
abbrev pub PartOf : Option (List ℕ) → ℕ → ℕ → Option (Bor (List ℕ)) → Type 0
PartOf None start end answer = IsNone answer
PartOf (Some bytes) start end answer = Slices bytes (Some (record { start = start; end = end })) answer
