-- A mark that was taken stands before what waits, and what stands before a turn goes by the parser alone.
use Rattle.std.proofs.Common.{◌≡◌, List, [], ◌++◌, Option, Some, None, refl, sym, ap, ◌∙◌}
use Rattle.std.specs.Global.{Box}
use Rattle.std.specs.Option.{option_map}
use Rattle.granit_items.specs.ItemViews.{boxed_lexeme}
use Rattle.granit_items.specs.declared.item.Lexeme as code
use Rattle.granit_lexemes.specs.Here.{Here}
use Rattle.granit_lexemes.specs.Lexeme as lexemes
use Rattle.granit_lexemes.specs.Lexeme.{Item, Lexeme, LexemeKind, OfComment, OfLexeme}
use Rattle.granit_machine.specs.Frames.{ParserState}
use Rattle.granit_machine.specs.Lexing.{FlaggedItem}
use Rattle.granit_refusals.specs.BeforeTurn.{IsBeforeItem, mark_if, mark_of_item}
use Rattle.granit_refusals.specs.declared.refusal.Refusal.{Refusal}
use Rattle.granit_restart.specs.Restart.{boundary_of, is_boundary, lexeme_or, read_boundary}
use Rattle.granit_scanner.specs.Restarts.{front_items}

-- ---- the item that was taken

same_some : (x y : Lexeme) → Some x ≡ Some y → x ≡ y
same_some x y e = cc

module _ (h : Here) (q : List FlaggedItem) where
  front_is : (front : Option (Box code.Lexeme)) (l : Lexeme) → option_map boxed_lexeme front ≡ Some l
      → read_boundary h (front_items front ++ q) ≡ boundary_of h (OfLexeme l) (read_boundary h q)
  front_is None l is = absurd (cc)
  front_is (Some x) l is =
      ap (λ (y : Lexeme). boundary_of h (OfLexeme y) (read_boundary h q)) (same_some (boxed_lexeme x) l is)

  none_front : (front : Option (Box code.Lexeme)) → option_map boxed_lexeme front ≡ None
      → read_boundary h (front_items front ++ q) ≡ read_boundary h q
  none_front None is = refl
  none_front (Some x) is = absurd (cc)

  front_by : (front : Option (Box code.Lexeme)) (l : Lexeme) (kind : LexemeKind) → l.kind ≡ kind
      → option_map boxed_lexeme front ≡ mark_if kind l
      → read_boundary h (front_items front ++ q) ≡ lexeme_or (is_boundary h kind l) l (read_boundary h q)
  front_by front l lexemes.DocumentStart named is =
      front_is front l is ∙ ap (λ (k : LexemeKind). lexeme_or (is_boundary h k l) l (read_boundary h q)) named
  front_by front l lexemes.DocumentEnd named is =
      front_is front l is ∙ ap (λ (k : LexemeKind). lexeme_or (is_boundary h k l) l (read_boundary h q)) named
  front_by front l lexemes.StreamEnd named is =
      front_is front l is ∙ ap (λ (k : LexemeKind). lexeme_or (is_boundary h k l) l (read_boundary h q)) named
  front_by front l kind named is = none_front front is

  -- a mark that was taken stands before what waits
  pub front_reads : (front : Option (Box code.Lexeme)) (i : Item) → option_map boxed_lexeme front ≡ mark_of_item i
      → read_boundary h (front_items front ++ q) ≡ boundary_of h i (read_boundary h q)
  front_reads front (OfLexeme l) is = front_by front l l.kind refl is
  front_reads front (OfComment c) is = none_front front is

-- ---- what stands before a turn

-- the same parser but for what waits
pub before_alike : (p q : ParserState) (i : Item) (r : Refusal) → p ≡ record q { given = [] } → IsBeforeItem q i r
    → IsBeforeItem p i r
before_alike p q i r same b = (
  (
    b.0.0 ∙ sym (ap (λ (x : ParserState). x.stage) same),
    b.0.1 ∙ sym (ap (λ (x : ParserState). x.last_end) same),
    b.0.2 ∙ sym (ap (λ (x : ParserState). x.count) same),
  ),
  b.1,
  b.2,
  b.3,
)
