-- What divides documents (YAML 1.2.2, 9.1.2), for inputs, cursors and definitions alike.
use Rattle.std.specs.Prelude.{ℕ, ◌==◌, ◌&&◌, ◌||◌, Bool, List, slice_index}
use Rattle.granit_base.specs.Classes.{is_blank_or_breakz}

-- whether a text begins with `---`, with a blank, a break, NUL or the end behind it
abbrev pub is_document_start : List ℕ → Bool
is_document_start text = ((slice_index text 0 == 0x2D && slice_index text 1 == 0x2D) && slice_index text 2 == 0x2D)
    && is_blank_or_breakz (slice_index text 3)

-- the same of `...`
abbrev pub is_document_end : List ℕ → Bool
is_document_end text = ((slice_index text 0 == 0x2E && slice_index text 1 == 0x2E) && slice_index text 2 == 0x2E)
    && is_blank_or_breakz (slice_index text 3)

-- whether it begins with one of both
abbrev pub is_document_mark : List ℕ → Bool
is_document_mark text = is_document_start text || is_document_end text
