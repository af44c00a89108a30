-- The events of the comments of items, each placed as the items behind it say (YAML 1.2.2, 6.6).
pub use Rattle.granit_comment_places.specs.CommentPlaces.{tail_event}
use Rattle.std.specs.Prelude.{◌≡◌, List, [], ◌∷◌, Option, Some, None}
use Rattle.granit_base.specs.declared.style.Placement.{Placement}
use Rattle.granit_base.specs.declared.style.Placement.TheVariants.{Right}
use Rattle.granit_comment_places.specs.CommentPlaces.{comment_event}
pub use Rattle.granit_comment_places.specs.Placements.{PlacedAs}
use Rattle.granit_lexemes.specs.Comment.{CommentRead}
use Rattle.granit_lexemes.specs.Lexeme.{LexemeKind, Dash, Item, OfLexeme, OfComment}
use Rattle.granit_lexemes.specs.PlainEvent.{PlainEvent}
use Rattle.granit_machine.specs.Lexing.{FlaggedItem}

-- a comment behind a `-` on its line stands right of it, another one as any
abbrev pub TailPlaced : LexemeKind → CommentRead → List FlaggedItem → Placement → Type 0
TailPlaced Dash c rest p = p ≡ Right
TailPlaced kind c rest p = PlacedAs c rest p

-- the first of some events is a comment's, and this holds of the others
abbrev pub FirstTold : CommentRead → (Placement → Type 0) → (List PlainEvent → Type 0) → List PlainEvent → Type 0
FirstTold c placed more es =
    (p : Placement) × (others : List PlainEvent) × (es ≡ comment_event c p ∷ others) × placed p × more others

abbrev pub TailTold :
    LexemeKind → Option CommentRead → List FlaggedItem → (List PlainEvent → Type 0) → List PlainEvent → Type 0
TailTold kind None rest more es = more es
TailTold kind (Some c) rest more es = FirstTold c (TailPlaced kind c rest) more es

abbrev pub ItemTold : Item → List FlaggedItem → (List PlainEvent → Type 0) → List PlainEvent → Type 0
ItemTold (OfLexeme x) rest more es = TailTold x.kind x.tail rest more es
ItemTold (OfComment c) rest more es = FirstTold c (PlacedAs c rest) more es

-- these are the events of the comments of items, in order
abbrev pub CommentsTold : List FlaggedItem → List PlainEvent → Type 0
CommentsTold [] es = es ≡ []
CommentsTold (i ∷ is) es = ItemTold i.item is (CommentsTold is) es
