-- One read, as the code makes it.
use Rattle.std.proofs.Common.{◌≡◌, Bool, true, false, List, [], ◌∷◌, ◌++◌, Option, Some, None, Result, Ok, Err}
use Rattle.std.proofs.Common.{refl, sym, ap, subst, ◌∙◌}
use Rattle.std.specs.Global.{Box}
use Rattle.granit_error.specs.OptionsData.{OptionsData}
use Rattle.granit_error.specs.Refused.{Refused}
use Rattle.granit_lexemes.specs.Comment.{CommentRead}
use Rattle.granit_lexemes.specs.Here.{Here, mark_of}
use Rattle.granit_lexemes.specs.Lexeme.{Item, OfComment}
use Rattle.granit_machine.specs.Gaps.{gap}
use Rattle.granit_machine.specs.Laid.{Laid}
use Rattle.granit_machine.specs.Leaving.{Leaves}
use Rattle.granit_machine.specs.LexemeSort.{PlacedSort, OpenSign, CloseSign, CommaSign, DashSign, QuestionSign}
use Rattle.granit_machine.specs.LexemeSort.{ColonSign, AliasSign, AnchorSign, TagSign, BlockSign, QuoteSign, StrayMark}
use Rattle.granit_machine.specs.LexemeSort.{NoSign, PlainSign}
use Rattle.granit_machine.specs.PossibleKeys.{without_stale}
use Rattle.granit_machine.specs.Reader.{lexeme_of, is_strict_outside, lexeme_in_column, read_behind, read}
use Rattle.granit_machine.specs.ReaderState.{ReaderState, Read}
use Rattle.granit_steps.specs.Steps.{incoming}
use Rattle.granit_cursor.specs.Reading.{GivesTo, coded}
use Rattle.granit_items.specs.ItemViews.{alone, boxed_note_items, filled_items}
use Rattle.granit_items.specs.declared.item.Lexeme.{Lexeme}
use Rattle.granit_items.specs.declared.item.Note.{Note}
use Rattle.granit_content.specs.Reads.{Passed, Kept, lexeme_in, seen}
use Rattle.granit_reader.specs.Reads.{reader_at}
use Rattle.granit_reader.specs.SortViews.{noded_by, begun}

-- ---- a lexeme with no comment behind it

only_lexeme : (filled : Bool) (x : Lexeme) (n : Option (Box Note)) → filled ≡ true → n ≡ None
    → alone x ≡ filled_items filled x ++ boxed_note_items n
only_lexeme filled x n some none = rw (some, none) refl

-- where no comment was found, a lexeme is all that was
pub found_alone : (filled : Bool) (x : Lexeme) (n : Option (Box Note)) (r : Result (Unit {0}) Refused)
    (Lands : ReaderState → Type 0) (given : Read) → filled ≡ true → n ≡ None → GivesTo (lexeme_in x) r Lands given
    → GivesTo (λ _. filled_items filled x ++ boxed_note_items n) r Lands given
found_alone filled x n r Lands given some none found =
    subst (λ (view : Unit {0} → List Item). GivesTo view r Lands given)
    (ap {B = Unit {0} → List Item} (λ (xs : List Item) (u : Unit {0}). xs) (only_lexeme filled x n some none)) found

-- ---- a lexeme that stands in a column

begun_is : (o : OptionsData) (sort : PlacedSort) (ends : Bool) (h : Here) (l : Laid)
    → begun o sort ends h (noded_by sort h l) ≡ lexeme_of o sort ends h l
unfolding lexeme_of
begun_is o (OpenSign bracket) ends h l = refl
begun_is o (CloseSign bracket) ends h l = refl
begun_is o CommaSign ends h l = refl
begun_is o DashSign ends h l = refl
begun_is o QuestionSign ends h l = refl
begun_is o ColonSign ends h l = refl
begun_is o AliasSign ends h l = refl
begun_is o AnchorSign ends h l = refl
begun_is o TagSign ends h l = refl
begun_is o (BlockSign literal) ends h l = refl
begun_is o (QuoteSign single) ends h l = refl
begun_is o StrayMark ends h l = refl
begun_is o NoSign ends h l = refl
begun_is o PlainSign ends h l = refl

pub placed_read : (o : OptionsData) (sort : PlacedSort) (ends : Bool) (h : Here) (l m : Laid)
    → is_strict_outside o h.place.column l ≡ false → m ≡ noded_by sort h l
    → lexeme_in_column o sort ends h l ≡ begun o sort ends h m
unfolding lexeme_in_column
placed_read o sort ends h l m inside is = rw inside (sym (begun_is o sort ends h l) ∙ ap (begun o sort ends h) (sym is))

-- ---- a comment

pub note_passed : (o : OptionsData) (asked : Bool) (t : Option CommentRead) (s : ReaderState) → Passed ≡ seen asked t
    → coded (incoming asked) (read_behind o t s) ≡ Ok ([], s)
note_passed o asked None s is = absurd cc
note_passed o true (Some c) s is = absurd cc
note_passed o false (Some c) s is = refl

pub note_kept : (o : OptionsData) (asked : Bool) (t : Option CommentRead) (c : CommentRead) (s : ReaderState)
    → Kept c ≡ seen asked t → coded (incoming asked) (read_behind o t s) ≡ Ok (OfComment c ∷ [], s)
note_kept o asked None c s is = absurd cc
note_kept o false (Some d) c s is = absurd cc
note_kept o true (Some d) c s is = let same : c
    ≡ d = cc in ap (λ (x : CommentRead). Ok (OfComment x ∷ [], s)) (sym same)

-- ---- one read, by its parts

module _ (o : OptionsData) (s : ReaderState) where
  read_given : (t : Option CommentRead) (one two : ReaderState) (items : List Item) (l : Laid)
      → gap o s.here s.laid ≡ Ok (t, one) → read_behind o t one ≡ Ok (items, two)
      → without_stale o (mark_of two.here) two.laid ≡ Ok l → read o s ≡ Ok (items, reader_at two.here l)
  unfolding read
  read_given t one two items l first second third = rw (first, second, third) refl

  pub gap_refused : (e : Refused) → gap o s.here s.laid ≡ Err e → read o s ≡ Err e
  unfolding read
  gap_refused e first = rw first refl

  pub behind_refused : (t : Option CommentRead) (one : ReaderState) (e : Refused) → gap o s.here s.laid ≡ Ok (t, one)
      → read_behind o t one ≡ Err e → read o s ≡ Err e
  unfolding read
  behind_refused t one e first second = rw (first, second) refl

  stale_refused : (t : Option CommentRead) (one two : ReaderState) (items : List Item) (e : Refused)
      → gap o s.here s.laid ≡ Ok (t, one) → read_behind o t one ≡ Ok (items, two)
      → without_stale o (mark_of two.here) two.laid ≡ Err e → read o s ≡ Err e
  unfolding read
  stale_refused t one two items e first second third = rw (first, second, third) refl

  -- whether keys that were left behind may go or not
  pub read_left : (asked : Bool) (t : Option CommentRead) (one two : ReaderState) (items found : List Item)
      (Lands : ReaderState → Type 0) (r : Result (Unit {0}) Refused) (l : Laid) → gap o s.here s.laid ≡ Ok (t, one)
      → read_behind o t one ≡ Ok (items, two) → incoming asked items ≡ found
      → Leaves r l (without_stale o (mark_of two.here) two.laid) → Lands (reader_at two.here l)
      → GivesTo (λ _. found) r Lands (coded (incoming asked) (read o s))
  read_left asked t one two items found Lands (Ok u) l first second same third lands = (
    reader_at two.here l,
    lands,
    ap (coded (incoming asked)) (read_given t one two items l first second third)
        ∙ ap (λ (xs : List Item). Ok (xs, reader_at two.here l)) same,
  )
  read_left asked t one two items found Lands (Err e) l first second same third lands = λ other.
      ap (coded (incoming asked)) (stale_refused t one two items e first second third)
