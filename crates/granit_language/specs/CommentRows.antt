-- Comments in a row behind a lexeme, its tail counted, more of them than may be held.
use Rattle.std.specs.Prelude.{◌≡◌, Bool, List, [], ◌∷◌, ◌++◌, length, Option, Some, None}
use Rattle.granit_error.specs.FaultKind.{TooManyComments}
use Rattle.granit_error.specs.OptionsData.{OptionsData}
use Rattle.granit_lexemes.specs.Comment.{CommentRead}
use Rattle.granit_lexemes.specs.Lexeme.{Lexeme, OfLexeme, OfComment}
use Rattle.granit_lexemes.specs.Outcome.{Fault, fault_at}
use Rattle.granit_machine.specs.Lexing.{FlaggedItem}

-- these items are these comments
abbrev pub AreComments : List FlaggedItem → List CommentRead → Type 0
AreComments [] [] = Unit {0}
AreComments (i ∷ is) (c ∷ cs) = (i.item ≡ OfComment c) × AreComments is cs
AreComments is cs = ⊥

abbrev pub tail_comments : Option CommentRead → List CommentRead
tail_comments None = []
tail_comments (Some c) = c ∷ []

-- Items begin with these, then comes a lexeme, and in a row behind it stand, its tail counted, as many comments as may
-- be held, and one more.
pub record RowTooLong (o : OptionsData) (items : List FlaggedItem) (front : List FlaggedItem) (f : Fault) : Type 0 where
  pub lexeme : Lexeme
  pub flag : Bool
  pub row : List FlaggedItem
  pub comments : List CommentRead
  pub rest : List FlaggedItem
  pub is : items ≡ front ++ (record { item = OfLexeme lexeme; begins_key = flag } ∷ (row ++ rest))
  pub are : AreComments row comments
  pub kept : List CommentRead
  pub one : CommentRead
  pub more : tail_comments lexeme.tail ++ comments ≡ kept ++ (one ∷ [])
  pub full : length kept ≡ o.max_buffered_comment_events
  pub fault_is : f ≡ fault_at TooManyComments one.source.start

-- the lexeme of such a row
abbrev pub up_to : {o : OptionsData} {items front : List FlaggedItem} {f : Fault} → RowTooLong o items front f →
    List FlaggedItem
up_to {front = front} r = front ++ (record { item = OfLexeme r.lexeme; begins_key = r.flag } ∷ [])
