-- A plain scalar, read character by character (YAML 1.2.2, 7.3.3 and 6.5).
use Rattle.std.specs.Prelude.{ℕ, ◌==◌, Bool, true, false, ◌&&◌, ◌||◌, not, if◌then◌else◌, List, [], ◌∷◌, ◌++◌, length}
use Rattle.std.specs.Prelude.{slice_index, Option, Some, None, Result, Ok}
use Rattle.granit_base.specs.Classes.{is_blank, is_break, is_z, is_flow, is_printable}
use Rattle.granit_base.specs.Place.{Mark}
use Rattle.granit_base.specs.PlainContent.{is_content}
use Rattle.granit_base.specs.Written.{Written}
use Rattle.granit_error.specs.FaultKind.{PlainScalarStartsWithDashFlowIndicator, TabInPlainScalar, UnexpectedCharacter}
use Rattle.granit_lexemes.specs.Basics.{fails_at, past_break, is_document_mark, unprintable, only_printable, lent_if}
use Rattle.granit_lexemes.specs.Here.{Here, text_len, next_char, mark_of, step}
use Rattle.granit_lexemes.specs.LayoutData.{LayoutData, is_left, is_outside}
use Rattle.granit_lexemes.specs.Source.{Source}
use Rattle.granit_lexemes.specs.Outcome.{Fault, ◌>>=◌}
use Rattle.granit_lexemes.specs.Pieces.{pieces}

-- where reading stands in a plain scalar
pub record PlainState : Type 0 where
  pub here : Here
  -- the place behind the last character of content
  pub end : Mark
  -- what was read since then: blanks, or behind a break an LF for each empty line
  pub pending : List ℕ
  -- whether a break was read since then
  pub on_new_line : Bool
  -- whether a tab left of where a node may stand is among the blanks that begin this line
  pub left_tab : Bool

-- a plain scalar, as the call that reads it gives it
pub record PlainRead : Type 0 where
  pub text : Written
  pub source : Source
  -- the `#` that ended the scalar, where its text might go on behind the comment
  pub cut_by_comment : Option Mark
  -- whether a break was read behind the scalar
  pub on_new_line : Bool

-- what stands for the blanks and breaks between two characters of content: one break gives a space
abbrev pub between : PlainState → List ℕ
between s = if s.on_new_line && length s.pending == 0 then 0x20 ∷ [] else s.pending

-- a character of content on
unfoldable pub on_content : PlainState → PlainState
on_content s = record {
  here = step s.here;
  end = mark_of (step s.here);
  pending = [];
  on_new_line = false;
  left_tab =
      false;
}

-- a blank on, which is dropped where it begins a line
unfoldable pub on_blank : LayoutData → PlainState → PlainState
on_blank at s =
    if s.on_new_line then record s {
      here = step s.here;
      left_tab = s.left_tab
          || (next_char s.here == 0x09 && is_left at.block_column s.here.place.column);
    }
    else record s { here = step s.here; pending = s.pending ++ next_char s.here ∷ [] }

-- a break on: blanks before the first are dropped, and each further one is an empty line
unfoldable pub on_break : PlainState → PlainState
on_break s =
    if s.on_new_line then record s { here = past_break s.here; pending = s.pending ++ 0x0A ∷ []; left_tab = false }
    else record s { here = past_break s.here; pending = []; on_new_line = true }

-- whether a comment cuts the scalar short: its `#` stands behind blanks on a line of content, or on a later line behind
-- such a tab
abbrev pub meets_comment : PlainState → Bool
meets_comment s = next_char s.here == 0x23 && (s.left_tab || (not s.on_new_line && not (length s.pending == 0)))

-- whether a line that begins here is no part of the scalar
abbrev pub ends_before_line : LayoutData → Here → Bool
ends_before_line at h = (next_char h == 0x23 || is_outside at h.place.column)
    || (h.place.column == 0 && is_document_mark h.unread.text)

-- the next character, which the scalar takes or ends before; such a tab is refused where content follows
unfoldable pub plain_turn : LayoutData → Mark → PlainState → Result (Option (List ℕ) × PlainState) Fault
plain_turn at start s =
    if is_blank (next_char s.here) then Ok (Some [], on_blank at s)
    else if is_break (next_char s.here) then Ok (Some [], on_break s)
    else if meets_comment s then Ok (None, s)
    else if s.left_tab && not (is_z (next_char s.here)) then fails_at TabInPlainScalar start
    else if s.on_new_line && ends_before_line at s.here then Ok (None, s)
    else if is_content at.in_flow s.here.unread.text then Ok (Some (between s ++ next_char s.here ∷ []), on_content s)
    else Ok (None, s)

abbrev pub plain_len : PlainState → ℕ
plain_len s = text_len s.here

abbrev pub plain_start : Here → PlainState
plain_start h = record { here = h; end = mark_of h; pending = []; on_new_line = false; left_tab = false }

-- the `#` that cut the scalar short, which is told outside flow
abbrev pub cut_mark : LayoutData → PlainState → Option Mark
cut_mark at s = if not at.in_flow && meets_comment s then Some (mark_of s.here) else None

-- whether a scalar that begins and ends there stands on one line, so that its text is spelled as it is
abbrev pub is_one_line : (start end : Mark) → Bool
is_one_line start end = start.place.line == end.place.line

abbrev pub plain_read : LayoutData → Mark → List ℕ → PlainState → PlainRead
plain_read at start value s = record {
  text = lent_if (is_one_line start s.end) s.here value;
  source = record { start = start; end = s.end };
  cut_by_comment = cut_mark at s;
  on_new_line = s.on_new_line;
}

-- behind the scalar, its blanks and breaks, where no unprintable character may stand
unfoldable pub behind_plain : LayoutData → Mark → List ℕ → PlainState → Result (PlainRead × Here) Fault
behind_plain at start value s =
    if not (text_len s.here == 0) && not (is_printable (next_char s.here)) then fails_at
    (UnexpectedCharacter (next_char s.here)) (mark_of s.here)
    else Ok (plain_read at start value s, s.here)

-- the plain scalar that begins here, and where reading then stands: behind it, its blanks and its breaks
unfoldable pub plain_scalar : LayoutData → Here → Result (PlainRead × Here) Fault
plain_scalar at h =
    if at.in_flow && (next_char h == 0x2D && is_flow (slice_index h.unread.text 1)) then fails_at
    PlainScalarStartsWithDashFlowIndicator (mark_of h)
    else pieces plain_len (plain_turn at (mark_of h)) (plain_start h) >>= λ x.
    only_printable (unprintable x.0) (mark_of h) (behind_plain at (mark_of h) x.0 x.1)
