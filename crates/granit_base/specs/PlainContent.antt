-- Which characters a plain scalar takes (YAML 1.2.2, 7.3.3), for inputs, cursors and definitions alike.
use Rattle.std.specs.Prelude.{ℕ, ◌==◌, ◌&&◌, ◌||◌, not, Bool, List, slice_index}
use Rattle.granit_base.specs.Classes.{is_blank_or_breakz, is_flow}
use Rattle.granit_base.specs.Place.{first}

-- Whether a character, with the next one behind it, doesn't end a plain scalar as an indicator: a `:` with a blank, a
-- break, NUL or the end behind it does, and in flow a `:` with a flow indicator behind it and a flow indicator.
abbrev pub plain_goes_on : (in_flow : Bool) → (c next : ℕ) → Bool
plain_goes_on in_flow c next = not (c == 0x3A && (is_blank_or_breakz next || (in_flow && is_flow next)))
    && not (in_flow && is_flow c)

-- whether the first character of a text is content of a plain scalar: no blank, no break, and the scalar goes on
abbrev pub is_content : (in_flow : Bool) → (text : List ℕ) → Bool
is_content in_flow text = not (is_blank_or_breakz (first text))
    && plain_goes_on in_flow (first text) (slice_index text 1)
