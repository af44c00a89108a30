-- What stands between lexemes and behind them, said of the characters (YAML 1.2.2, 6.1, 6.2 and 6.6).
use Rattle.std.specs.Prelude.{◌≡◌, ◌≢◌, ℕ, Bool, true, false, List, [], ◌∷◌, Option, None}
use Rattle.granit_base.specs.Classes.{is_gap}
use Rattle.granit_base.specs.Place.{Mark}
use Rattle.granit_error.specs.FaultKind.{FaultKind, CommentNotSeparated}
use Rattle.granit_lexemes.specs.Comment.{CommentRead, Spoils}
use Rattle.granit_lexemes.specs.HeaderExtent.{LexemeTail}
use Rattle.granit_lexemes.specs.Here.{Here, next_char, mark_of, step}
use Rattle.granit_lexemes.specs.Moves.{past_prefix_mark}
use Rattle.granit_lexemes.specs.PlainExtent.{over, starts_comment}
use Rattle.granit_lexemes.specs.QuotedExtent.{BlanksBehind}

-- Blanks and breaks, and where they may stand byte-order marks in column 0 (5.2), from one place to another.
pub data GapTo (may_prefix : Type 0) : Here → List ℕ → Here → Type 0 where
  ends : {h : Here} → GapTo may_prefix h [] h
  white : {h after : Here} {c : ℕ} {cs rest : List ℕ} → h.unread.text ≡ c ∷ rest → is_gap c ≡ true
      → GapTo may_prefix (step h) cs after → GapTo may_prefix h (c ∷ cs) after
  prefix_mark : {h after : Here} {cs rest : List ℕ} → may_prefix → h.place.column ≡ 0
      → h.unread.text ≡ 0xFEFF ∷ rest → GapTo may_prefix (past_prefix_mark h) cs after
      → GapTo may_prefix h (0xFEFF ∷ cs) after

-- neither a blank, a break nor such a mark stands here
abbrev pub NoGap : (may_prefix : Type 0) → Here → Type 0
NoGap may_prefix h = (is_gap (next_char h) ≡ false) × (may_prefix → h.place.column ≡ 0 → next_char h ≢ 0xFEFF)

-- a gap, as far as it goes
pub record GapHere (may_prefix : Type 0) (h at : Here) : Type 0 where
  pub gap : List ℕ
  pub over : GapTo may_prefix h gap at
  pub stops : NoGap may_prefix at

-- what is refused behind a lexeme on its line: a `#` without a blank before it, and an unprintable character in the
-- comment
pub data WrongTail (end : Here) : FaultKind → Mark → Type 0 where
  touching : starts_comment end.unread.text ≡ true → WrongTail end CommentNotSeparated (mark_of end)
  spoiled : {kind : FaultKind} {m : Mark} (b : ℕ) (blanks rest : List ℕ) → BlanksBehind end (b ∷ blanks) rest
      → Spoils (over (b ∷ blanks) end) kind m → WrongTail end kind m

-- the same where a blank must follow the lexeme for it to have a tail
abbrev pub TailIf : (blank : Bool) → (end : Here) → Option CommentRead → Here → Type 0
TailIf true end tail after = LexemeTail end tail after
TailIf false end tail after = (tail ≡ None) × (after ≡ end)
