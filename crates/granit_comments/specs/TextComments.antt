-- What an answer tells of the comments of its text (YAML 1.2.2, 6.6).
use Rattle.std.specs.Prelude.{◌≡◌, ℕ, Bool, true, false, List, [], ◌∷◌, ◌++◌, Some, None, Ok}
use Rattle.granit_answers.specs.CommentStands.{CommentStands}
use Rattle.granit_base.specs.declared.style.Placement.{Placement}
use Rattle.granit_before.specs.ToldComments.{TailPlaced}
use Rattle.granit_error.specs.OptionsData.{OptionsData}
use Rattle.granit_quiet.specs.CommentEvents.{comment_event, only_comments}
use Rattle.granit_before.specs.ToldComments.{PlacedAs}
use Rattle.granit_quiet.specs.Quiet.{asking, but_comments}
use Rattle.granit_language.specs.Reached.{ReadWhole}
use Rattle.granit_language.specs.TextFault.{NoneTold}
use Rattle.granit_lexemes.specs.Comment.{CommentRead}
use Rattle.granit_lexemes.specs.Here.{start_of}
use Rattle.granit_lexemes.specs.Lexeme.{Dash, Lexeme, Item, OfLexeme, OfComment}
use Rattle.granit_lexemes.specs.PlainEvent.{PlainEvent}
use Rattle.granit_machine.specs.Lexing.{FlaggedItem, flagged}
use Rattle.granit_machine.specs.Machine.{run}
use Rattle.granit_machine.specs.ReaderState.{ReaderState, reader_start}

-- These events are the comments of these items, in order, each with its text and its span, placed as the items behind
-- it say: those between lexemes, and those that are told with a lexeme, as is one behind it on its line, behind the
-- header of a block scalar, or before the key of a `?`.
pub data TellsEach : List FlaggedItem → List PlainEvent → Type 0 where
  no_more : TellsEach [] []
  between_lexemes : {rest : List FlaggedItem} {es : List PlainEvent} (c : CommentRead) (begins_key : Bool)
      (placement : Placement) → PlacedAs c rest placement → TellsEach rest es
      → TellsEach (record { item = OfComment c; begins_key = begins_key } ∷ rest) (comment_event c placement ∷ es)
  behind_lexeme : {rest : List FlaggedItem} {es : List PlainEvent} (l : Lexeme) (begins_key : Bool) (c : CommentRead)
      (placement : Placement) → l.tail ≡ Some c → TailPlaced l.kind c rest placement → TellsEach rest es
      → TellsEach (record { item = OfLexeme l; begins_key = begins_key } ∷ rest) (comment_event c placement ∷ es)
  no_comment : {rest : List FlaggedItem} {es : List PlainEvent} (l : Lexeme) (begins_key : Bool) → l.tail ≡ None
      → TellsEach rest es → TellsEach (record { item = OfLexeme l; begins_key = begins_key } ∷ rest) es

-- a comment between lexemes has its event behind those that the items before it give
abbrev pub LinesStand : OptionsData → List FlaggedItem → List PlainEvent → Type 0
LinesStand o items es =
    (front back : List FlaggedItem) (c : CommentRead) (begins_key : Bool) (placement : Placement)
    → items ≡ front ++ (record { item = OfComment c; begins_key = begins_key } ∷ back) → PlacedAs c back placement
    → CommentStands o front back ⊥ (comment_event c placement) es

-- and so has one that is told with a lexeme, that lexeme among them
abbrev pub TailsStand : OptionsData → List FlaggedItem → List PlainEvent → Type 0
TailsStand o items es =
    (front back : List FlaggedItem) (l : Lexeme) (begins_key : Bool) (c : CommentRead) (placement : Placement)
    → items ≡ front ++ (record { item = OfLexeme l; begins_key = begins_key } ∷ back) → l.tail ≡ Some c
    → TailPlaced l.kind c back placement
    → CommentStands o (front ++ (record { item = OfLexeme l; begins_key = begins_key } ∷ [])) back (l.kind ≡ Dash)
    (comment_event c placement) es

-- The text is read to its end, and where comments are asked for these events hold exactly those of its items, each in
-- its place, and none is one too many; unasked they hold none.
pub record TellsComments (o : OptionsData) (x : List ℕ) (es : List PlainEvent) : Type 0 where
  pub items : List Item
  pub state : ReaderState
  pub whole : ReadWhole o (reader_start (start_of x)) items true state
  pub told : o.emit_comments ≡ true → TellsEach (flagged items) (only_comments es)
  pub lines : o.emit_comments ≡ true → LinesStand o (flagged items) es
  pub tails : o.emit_comments ≡ true → TailsStand o (flagged items) es
  pub none : NoneTold o true state.laid items
  pub unasked : o.emit_comments ≡ false → only_comments es ≡ []

-- where comments aren't asked for, the text is answered with these events but for the comments
abbrev pub ToldUnasked : OptionsData → List ℕ → List PlainEvent → Type 0
ToldUnasked o x es = run (asking false o) x ≡ Ok (but_comments es)
