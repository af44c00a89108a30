-- The comments of items are told as declared, and in one way.
pub use Rattle.granit_before.proofs.Numbered.{lines_fit}
use Rattle.std.proofs.Common.{◌≡◌, List, [], ◌∷◌, ◌++◌, Option, Some, None, refl, sym, ap, ap₂, ◌∙◌}
use Rattle.granit_base.specs.declared.style.Placement.{Placement}
use Rattle.granit_base.specs.declared.style.Placement.TheVariants.{Right}
use Rattle.granit_before.proofs.Numbered.{placed_is, one_placement}
use Rattle.granit_order.specs.Answers.{comment_event, tail_events, item_events, comment_events}
use Rattle.granit_before.specs.ToldComments.{PlacedAs}
use Rattle.granit_lexemes.specs.Comment.{CommentRead}
use Rattle.granit_lexemes.specs.Lexeme.{LexemeKind, Dash, Item, OfLexeme, OfComment}
use Rattle.granit_lexemes.specs.PlainEvent.{PlainEvent}
use Rattle.granit_machine.specs.Lexing.{FlaggedItem}
use Rattle.granit_machine.specs.Parser.{next_line, placed}
use Rattle.granit_before.specs.ToldComments.{TailPlaced, FirstTold, TailTold, ItemTold, CommentsTold}

-- ---- they are

tail_placement : (kind : LexemeKind) (c : CommentRead) (rest : List FlaggedItem) →
    (p : Placement) × (tail_events kind (Some c) (next_line rest) ≡ comment_event c p ∷ []) × TailPlaced kind c rest p
tail_placement Dash c rest = (Right, refl, refl)
tail_placement kind c rest = (placed c (next_line rest), refl, placed_is c rest)

tail_told : (kind : LexemeKind) (tail : Option CommentRead) (rest : List FlaggedItem)
    (more : List PlainEvent → Type 0) (es : List PlainEvent) → more es →
    TailTold kind tail rest more (tail_events kind tail (next_line rest) ++ es)
tail_told kind None rest more es m = m
tail_told kind (Some c) rest more es m =
    let t = tail_placement kind c rest in (t.0, es, ap (λ (front : List PlainEvent). front ++ es) t.1, t.2, m)

pub comments_told : (is : List FlaggedItem) → CommentsTold is (comment_events is)
comments_told [] = refl
comments_told (i ∷ is) = on i.item (comments_told is)
  where
    on : (item : Item) → CommentsTold is (comment_events is) →
        ItemTold item is (CommentsTold is) (item_events item (next_line is) ++ comment_events is)
    on (OfComment c) m = (placed c (next_line is), comment_events is, refl, placed_is c is, m)
    on (OfLexeme x) m = tail_told x.kind x.tail is (CommentsTold is) (comment_events is) m

-- ---- and no others are

one_tail : (kind : LexemeKind) (c : CommentRead) (rest : List FlaggedItem) (p q : Placement) →
    TailPlaced kind c rest p → TailPlaced kind c rest q → p ≡ q
one_tail Dash c rest p q a b = a ∙ sym b
one_tail kind c rest p q a b = one_placement c rest p q a b

one_first : (c : CommentRead) (P : Placement → Type 0) (more : List PlainEvent → Type 0) (es fs : List PlainEvent) →
    ((p q : Placement) → P p → P q → p ≡ q) →
    ((xs ys : List PlainEvent) → more xs → more ys → xs ≡ ys) → FirstTold c P more es → FirstTold c P more fs → es ≡ fs
one_first c P more es fs place rest (p, xs, e, a, m) (q, ys, f, b, n) =
    e
    ∙ (ap₂ (λ (p : Placement) (xs : List PlainEvent). comment_event c p ∷ xs) (place p q a b) (rest xs ys m n)
    ∙ sym f)

pub one_telling : (is : List FlaggedItem) (es fs : List PlainEvent) → CommentsTold is es → CommentsTold is fs → es ≡ fs
one_telling [] es fs a b = a ∙ sym b
one_telling (i ∷ is) es fs a b = on i.item (λ xs ys m n. one_telling is xs ys m n) a b
  where
    tail : (kind : LexemeKind) (c : Option CommentRead) →
        ((xs ys : List PlainEvent) → CommentsTold is xs → CommentsTold is ys → xs ≡ ys) →
        TailTold kind c is (CommentsTold is) es → TailTold kind c is (CommentsTold is) fs → es ≡ fs
    tail kind None more a b = more es fs a b
    tail kind (Some c) more a b =
        one_first c (TailPlaced kind c is) (CommentsTold is) es fs (one_tail kind c is) more a b

    on : (item : Item) → ((xs ys : List PlainEvent) → CommentsTold is xs → CommentsTold is ys → xs ≡ ys) →
        ItemTold item is (CommentsTold is) es → ItemTold item is (CommentsTold is) fs → es ≡ fs
    on (OfComment c) more a b =
        one_first c (PlacedAs c is) (CommentsTold is) es fs (one_placement c is) more a b
    on (OfLexeme x) more a b = tail x.kind x.tail more a b
