-- Comments: how far one goes, its text, and what may not stand in it (YAML 1.2.2, 6.6).
use Rattle.std.specs.Prelude.{◌≡◌, ℕ, suc, ◌==◌, Bool, true, false, ◌&&◌, ◌||◌, not, if◌then◌else◌, List, [], ◌∷◌, ◌++◌}
use Rattle.std.specs.Prelude.{length, ◌⊎◌, Result, Ok, Err}
use Rattle.granit_base.specs.Classes.{is_break, is_printable}
pub use Rattle.granit_base.specs.Classes.{is_line_char}
use Rattle.granit_base.specs.Place.{Mark, first}
use Rattle.granit_base.specs.Written.{Written}
use Rattle.granit_error.specs.FaultKind.{FaultKind, UnexpectedCharacter}
use Rattle.granit_lexemes.specs.Gap.{Each}
use Rattle.granit_lexemes.specs.Basics.{fails_at, as_spelled}
use Rattle.granit_lexemes.specs.Here.{Here, text_len, next_char, mark_of, step, chunk_len, chunk, mid_line}
use Rattle.granit_lexemes.specs.Source.{Source}
use Rattle.granit_lexemes.specs.Moves.{steps}
use Rattle.granit_lexemes.specs.Outcome.{Fault, ◌>>=◌}

-- ---- what a comment is

-- A text begins with `#` and these characters, and then the line or the text ends.
pub record IsComment (x : List ℕ) (cs : List ℕ) : Type 0 where
  pub behind : List ℕ
  pub spelled : x ≡ 0x23 ∷ (cs ++ behind)
  pub text : Each is_line_char cs
  pub ends : (behind ≡ []) ⊎ (is_break (first behind) ≡ true)

-- A text begins with `#` and these characters, and on the same line an unprintable character follows.
pub record IsSpoiled (x : List ℕ) (cs : List ℕ) (c : ℕ) : Type 0 where
  pub behind : List ℕ
  pub spelled : x ≡ 0x23 ∷ (cs ++ c ∷ behind)
  pub text : Each is_line_char cs
  pub unprintable : is_printable c ≡ false

-- ---- how one is read

-- a comment, as the call that reads it gives it
pub record CommentRead : Type 0 where
  pub text : Written
  pub source : Source
  -- whether something else than blanks and prefix marks stands before it on its line
  pub is_right : Bool

-- behind the characters of a comment that begins here; its blanks are no indentation
abbrev pub past_comment : Here → Here
past_comment h = mid_line (steps (chunk_len is_line_char (step h)) (step h))

-- behind a comment, where no unprintable character may stand; a NUL in the text is one
unfoldable pub behind_comment : Here → Result (Unit {0} × Here) Fault
behind_comment h =
    if text_len h == 0 || is_printable (next_char h) then Ok (tt, h)
    else fails_at (UnexpectedCharacter (next_char h)) (mark_of h)

-- over the comment that begins here with its `#`
unfoldable pub skipped_comment : Here → Result (Unit {0} × Here) Fault
skipped_comment h = behind_comment (past_comment h)

-- the comment that begins here and ends there
abbrev pub comment_read : Here → Here → CommentRead
comment_read h after = record {
  text = as_spelled h (chunk is_line_char (step h));
  source = record { start = mark_of h; end = mark_of after };
  is_right = not h.begins_line;
}

-- the comment that begins here with its `#`
unfoldable pub comment : Here → Result (CommentRead × Here) Fault
comment h = skipped_comment h >>= λ x. Ok (comment_read h x.1, x.1)

-- ---- what is true of what is read

-- the comment of these characters that begins here
abbrev pub comment_of : List ℕ → Here → CommentRead
comment_of cs h = record {
  text = as_spelled h cs;
  source = record { start = mark_of h; end = mark_of (steps (suc (length cs)) h) };
  is_right = not h.begins_line;
}

-- a comment begins here, it is this one, and there it ends
pub record StandsComment (h : Here) (c : CommentRead) (after : Here) : Type 0 where
  pub spelled : IsComment h.unread.text c.text.characters
  pub is : c ≡ comment_of c.text.characters h
  pub lands : after ≡ mid_line (steps (suc (length c.text.characters)) h)

-- a comment begins here that isn't printable, and its first such character stands at the mark
pub record Spoils (h : Here) (kind : FaultKind) (mark : Mark) : Type 0 where
  pub front : List ℕ
  pub character : ℕ
  pub spelled : IsSpoiled h.unread.text front character
  pub names : kind ≡ UnexpectedCharacter character
  pub marks : mark ≡ mark_of (steps (suc (length front)) h)

abbrev pub ReadsComment : Here → Result (CommentRead × Here) Fault → Type 0
ReadsComment h (Ok (c, after)) = StandsComment h c after
ReadsComment h (Err f) = Spoils h f.kind f.mark
