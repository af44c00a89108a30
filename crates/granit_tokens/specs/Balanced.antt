-- How the starts and the ends among a scanner's tokens belong together.
use Rattle.std.specs.Prelude.{◌≡◌, ℕ, Bool, true, false, List, [], ◌∷◌}
use Rattle.granit_base.specs.Place.{Mark}
use Rattle.granit_lexemes.specs.Lexeme.{LexemeKind, Open, Close, Lexeme, is_opener_kind}
use Rattle.granit_lexemes.specs.Place.{one_more_if}
use Rattle.granit_lexemes.specs.declared.layout.Bracket.{Bracket}
use Rattle.granit_steps.specs.Tokens.{BlockEnd, BlockMappingStart, BlockSequenceStart, KeySign, PairStart}
use Rattle.granit_steps.specs.Tokens.{PairEnd, ScanToken, Inserted, Own, Noted}

-- the end that belongs to a start; both sorts of block collections have one sort of end
pub data Encloses : ScanToken → ScanToken → Type 0 where
  block_mapping : {m n : Mark} → Encloses (Inserted BlockMappingStart m) (Inserted BlockEnd n)
  block_sequence : {m n : Mark} → Encloses (Inserted BlockSequenceStart m) (Inserted BlockEnd n)
  single_pair : {m n : Mark} → Encloses (Inserted PairStart m) (Inserted PairEnd n)
  in_brackets : {x y : Lexeme} {bracket : Bracket} → x.kind ≡ Open bracket → y.kind ≡ Close bracket →
      Encloses (Own x) (Own y)

-- neither a start nor an end
abbrev pub is_beside_kind : LexemeKind → Bool
is_beside_kind (Open bracket) = false
is_beside_kind (Close bracket) = false
is_beside_kind kind = true

abbrev pub is_beside : ScanToken → Bool
is_beside (Inserted KeySign m) = true
is_beside (Inserted what m) = false
is_beside (Own x) = is_beside_kind x.kind
is_beside (Noted c) = true

-- Tokens that begin with balanced ones, and what stands behind them: each start with its end, and balanced ones between
-- the two.
pub data BalancedTo : List ScanToken → List ScanToken → Type 0 where
  nothing_more : {rest : List ScanToken} → BalancedTo rest rest
  one_beside : {t : ScanToken} {ts rest : List ScanToken} → is_beside t ≡ true → BalancedTo ts rest →
      BalancedTo (t ∷ ts) rest
  enclosed : {start end : ScanToken} {ts us rest : List ScanToken} → Encloses start end → BalancedTo ts (end ∷ us) →
      BalancedTo us rest → BalancedTo (start ∷ ts) rest

abbrev pub Balanced : List ScanToken → Type 0
Balanced ts = BalancedTo ts []

abbrev pub is_start : ScanToken → Bool
is_start (Inserted BlockMappingStart m) = true
is_start (Inserted BlockSequenceStart m) = true
is_start (Inserted PairStart m) = true
is_start (Inserted what m) = false
is_start (Own x) = is_opener_kind x.kind
is_start (Noted c) = false

-- Balanced but for some starts that have no end yet.
pub data BeginsBalanced : List ScanToken → Type 0 where
  all_ended : {ts : List ScanToken} → Balanced ts → BeginsBalanced ts
  one_open : {start : ScanToken} {ts us : List ScanToken} → is_start start ≡ true → BalancedTo ts (start ∷ us) →
      BeginsBalanced us → BeginsBalanced ts

-- ---- block collections counted

abbrev pub starts_block : ScanToken → Bool
starts_block (Inserted BlockMappingStart m) = true
starts_block (Inserted BlockSequenceStart m) = true
starts_block t = false

abbrev pub ends_block : ScanToken → Bool
ends_block (Inserted BlockEnd m) = true
ends_block t = false

abbrev pub block_starts : List ScanToken → ℕ
block_starts [] = 0
block_starts (t ∷ ts) = one_more_if (starts_block t) (block_starts ts)

abbrev pub block_ends : List ScanToken → ℕ
block_ends [] = 0
block_ends (t ∷ ts) = one_more_if (ends_block t) (block_ends ts)
