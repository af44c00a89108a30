-- Where a reader stands, what stands before it on its line, and how it moves on.
use Rattle.std.specs.Prelude.{ℕ, Bool, true, false, ◌==◌, ◌&&◌, ◌||◌, not, if◌then◌else◌, List, [], ◌∷◌, length, take}
use Rattle.std.specs.Prelude.{Option, Some, None}
use Rattle.std.specs.List.{prefix_len}
use Rattle.granit_base.specs.Place.{Place, Mark, Unread, first, past_first, place_after, ends_line}

-- what is still to be read, its place, and what stands before it on its line
pub record Here : Type 0 where
  pub unread : Unread
  pub place : Place
  -- whether only blanks and prefix marks stand before it on its line
  pub begins_line : Bool
  -- the first tab of the blanks directly before it on its line
  pub tab : Option Mark

abbrev pub first_place : Place
first_place = record { index = 0; line = 1; column = 0 }

-- the start of a string
abbrev pub start_of : List ℕ → Here
start_of text = record {
  unread = record { text = text; offset = Some 0; lends = true };
  place = first_place;
  begins_line = true;
  tab = None;
}

-- how many characters are left
abbrev pub text_len : Here → ℕ
text_len h = length h.unread.text

abbrev pub next_char : Here → ℕ
next_char h = first h.unread.text

abbrev pub mark_of : Here → Mark
mark_of h = record { place = h.place; byte_offset = h.unread.offset }

-- a blank, or the CR of a CR LF, which leave what is known of the line as it is (5.4, 5.5)
abbrev pub is_quiet : ℕ → Bool
is_quiet c = (c == 0x20 || c == 0x09) || c == 0x0D

abbrev pub first_tab : Option Mark → Mark → Option Mark
first_tab None m = Some m
first_tab (Some t) m = Some t

-- whether only blanks and prefix marks stand before the next place on its line
unfoldable pub begins_behind : Here → Bool
begins_behind h = ends_line h.unread.text || (is_quiet (next_char h) && h.begins_line)

-- the first tab of the blanks directly before the next place on its line
unfoldable pub tab_behind : Here → Option Mark
tab_behind h =
    if ends_line h.unread.text || not (is_quiet (next_char h)) then None
    else if next_char h == 0x09 then first_tab h.tab (mark_of h)
    else h.tab

-- one character on, stopping at the end: a break begins a line, blanks keep what was seen of it, another character
-- stands on it (6.1)
unfoldable pub step : Here → Here
step h =
    if length h.unread.text == 0 then h
    else record {
      unread = past_first h.unread;
      place = place_after h.unread.text h.place;
      begins_line = begins_behind
          h;
      tab = tab_behind h;
    }

-- the same place with something before it on its line, and no tab directly before it
abbrev pub mid_line : Here → Here
mid_line h = record { unread = h.unread; place = h.place; begins_line = false; tab = None }

abbrev pub chosen : Bool → Here → Here → Here
chosen true a b = a
chosen false a b = b

-- on over the characters that pass a test, at most as many as a list has
abbrev pub skip : (ℕ → Bool) → List ℕ → Here → Here
skip test [] h = h
skip test (c ∷ cs) h = let on = skip test cs (step h) in chosen (test (next_char h)) on h

-- on over the characters that pass a test that NUL doesn't pass
unfoldable pub past : (ℕ → Bool) → Here → Here
past test h = skip test h.unread.text h

-- how many characters stand in front that pass a test
abbrev pub chunk_len : (ℕ → Bool) → Here → ℕ
chunk_len test h = prefix_len test h.unread.text

abbrev pub chunk : (ℕ → Bool) → Here → List ℕ
chunk test h = take (chunk_len test h) h.unread.text
