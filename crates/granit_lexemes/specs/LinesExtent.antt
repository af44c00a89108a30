-- The lines of a block scalar: where its content stands, its empty lines, and its lines of content (YAML 1.2.2,
-- 8.1.1.1 and 8.1.2).
use Rattle.std.specs.Prelude.{◌≡◌, ℕ, zero, suc, ◌+◌, max, Bool, true, false, ◌==◌, ◌&&◌, ◌||◌, not, List, [], ◌∷◌}
use Rattle.std.specs.Prelude.{Option, Some, None}
use Rattle.granit_base.specs.Classes.{is_break, is_printable, is_non_breakz}
use Rattle.granit_lexemes.specs.Basics.{is_document_mark}
use Rattle.granit_lexemes.specs.BlockHeader.{margin_of, outer_of, greatest}
use Rattle.granit_lexemes.specs.BlockMoves.{Crosses, Breaks, AllSpaces, Spaces}
use Rattle.granit_lexemes.specs.Gap.{Each}
use Rattle.granit_lexemes.specs.Here.{Here, text_len, next_char, mid_line}

-- ---- the content's column

-- the columns of leading lines of spaces alone, and that of the first other line
pub data Leading : (h : Here) → List ℕ → ℕ → Type 0 where
  other_line : {h g : Here} → AllSpaces h g → is_break (next_char g) ≡ false → Leading h [] g.place.column
  spaces_alone : {h g i : Here} {widths : List ℕ} {column : ℕ} → AllSpaces h g → Breaks g i → Leading i widths column
      → Leading h (g.place.column ∷ widths) column

-- told by a digit; or right of the block column, and the greatest of those
pub data ContentColumn (block : Option ℕ) : Option ℕ → Here → ℕ → Type 0 where
  told_column : {d : ℕ} {h : Here} → ContentColumn block (Some d) h (outer_of block + d)
  found_column : {h : Here} {widths : List ℕ} {column : ℕ} → Leading h widths column
      → ContentColumn block None h (max (margin_of block) (greatest widths column))

-- ---- lines

-- so many empty lines, and behind them the spaces of the next line left of the content's column
pub data Empties (column : ℕ) : (h after : Here) → ℕ → Type 0 where
  no_empty_line : {h after : Here} → Spaces column h after → is_break (next_char after) ≡ false
      → Empties column h after zero
  empty_line : {h g i after : Here} {k : ℕ} → Spaces column h g → Breaks g i → Empties column i after k
      → Empties column h after (suc k)

-- a finished line of content, and the empty lines before it
pub record BlockLine : Type 0 where
  pub empty : ℕ
  pub text : List ℕ

-- Content at the content's column, which is no document mark in column 0, goes up to a break, a NUL or the end.
pub record IsLine (column : ℕ) (h : Here) (cs : List ℕ) (after : Here) : Type 0 where
  pub spans : Crosses h cs after
  pub each : Each is_non_breakz cs
  pub ends : is_non_breakz (next_char after) ≡ false
  pub begins : is_non_breakz (next_char h) ≡ true
  pub printable : is_printable (next_char h) ≡ true
  pub is_at : h.place.column ≡ column
  pub no_mark : (column == 0 && is_document_mark h.unread.text) ≡ false

-- What stands behind a line of content, and so many empty lines in it: its break, empty lines and the spaces of the
-- next line; or the end.
pub data BehindLine (column : ℕ) (h : Here) : Here → ℕ → Type 0 where
  by_break : {i after : Here} {k : ℕ} → Breaks h i → Empties column i after k → BehindLine column h after k
  by_end : h.unread.text ≡ [] → BehindLine column h h zero

-- Lines of content from behind so many empty ones on, and how many empty ones stand behind the last. Blanks of content
-- are no indentation.
pub data ContentLines (column : ℕ) : ℕ → (h after : Here) → List BlockLine → ℕ → Type 0 where
  no_line : {k : ℕ} {h : Here} → ContentLines column k h h [] k
  more_lines : {k : ℕ} {h g j after : Here} {cs : List ℕ} {n t : ℕ} {lines : List BlockLine} → IsLine column h cs g
      → BehindLine column (mid_line g) j n → ContentLines column n j after lines t
      → ContentLines column k h after (record { empty = k; text = cs } ∷ lines) t

-- no content stands here: the end, another column, or a document mark in column 0
abbrev pub is_outside_block : ℕ → Here → Bool
is_outside_block column h =
    (text_len h == 0 || not (h.place.column == column)) || (column == 0 && is_document_mark h.unread.text)

-- no unprintable character stands here
abbrev pub is_clear : Here → Bool
is_clear h = text_len h == 0 || is_printable (next_char h)
