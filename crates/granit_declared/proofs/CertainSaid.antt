-- The lexemes of which it is certain whether a key begins with them, by what is held and by what is declared.
use Rattle.std.proofs.Common.{◌≡◌, ℕ, Bool, true, false, List, [], ◌∷◌, refl, sym, ap, ◌∙◌, subst}
use Rattle.std.specs.Bool.{Decides}
use Rattle.granit_error.specs.OptionsData.{OptionsData}
use Rattle.granit_language.specs.Before.{freshened}
use Rattle.granit_language.specs.HeldSaid.{has_ended}
use Rattle.granit_language.specs.OpenColumns.{latest}
use Rattle.granit_language.specs.Reached.{ends_column_by, Reads, of_comment, of_lexeme, Reached, ReadWhole, whole_ends}
use Rattle.granit_language.specs.Reached.{whole_stops, whole_goes_on}
use Rattle.granit_language.specs.Seen.{Flagged}
use Rattle.granit_language.specs.TextFault.{AreSettled, FirstIsOpen, SettledFront, IsSettled, IsUnsettled, ItemsSettled}
use Rattle.granit_language.specs.TextFault.{FirstUnsettled, ItemsBefore}
use Rattle.granit_lexemes.specs.Here.{mark_of, start_of}
use Rattle.granit_lexemes.specs.Lexeme.{Lexeme, Item, OfLexeme, OfComment}
use Rattle.granit_machine.specs.Laid.{Laid}
use Rattle.granit_machine.specs.Lexing.{FlaggedItem}
use Rattle.granit_machine.specs.PossibleKeys.{is_possible}
use Rattle.granit_machine.specs.Reader.{is_end}
use Rattle.granit_machine.specs.ReaderState.{ReaderState, reader_start}
use Rattle.granit_before.proofs.Numbered.{latest_noted}
use Rattle.granit_before.proofs.QuestionSaid.{latest_joined}
use Rattle.granit_order.proofs.BracketsKept.{lexed}
use Rattle.granit_before.proofs.Numbered.{telling}
use Rattle.granit_order.proofs.BracketsKept.{all_read_whole}
use Rattle.granit_declared.proofs.StillSaid.{still_said}
use Rattle.granit_before.specs.Certain.{NoneMay, FirstMay, CertainFront, ItemMay, NoItemMay, FirstItemMay}
use Rattle.granit_before.specs.Certain.{ToldBeforeFault}
use Rattle.granit_before.specs.StillBegins.{StillBegins}

-- ---- the end isn't among what stands before a place from which nothing is read

read_unended : (o : OptionsData) (ls : List Lexeme) {s after : ReaderState} {items : List Item} →
    Reads o s items after → is_end items ≡ false → has_ended ls ≡ false → has_ended (latest items ls) ≡ false
read_unended o ls (of_comment at g k) e n = n
read_unended o ls (of_lexeme {items = items} at behind sort comes given keys) e n =
    let f = freshened o at in
    let t = telling o (ends_column_by sort f) f.here _ sort items behind given.1 in
    ap has_ended (ap (λ (is : List Item). latest is ls) t.are ∙ latest_noted t.lexeme t.note ls)
    ∙ sym (ap is_end t.are) ∙ e

unended : (o : OptionsData) (ls : List Lexeme) {s t : ReaderState} {items : List Item} {ended : Bool} →
    ReadWhole o s items ended t → ended ≡ false → has_ended ls ≡ false → has_ended (latest items ls) ≡ false
unended o ls (whole_ends r e) y n = absurd cc
unended o ls (whole_stops q) y n = n
unended o ls (whole_goes_on next items more r e rest is) y n =
    ap has_ended (ap (λ (is : List Item). latest is ls) is ∙ latest_joined items more ls)
    ∙ unended o (latest items ls) rest y (read_unended o ls r e n)

-- there a key is held possible exactly with what may still begin one
pub possible_decided : (o : OptionsData) (x : List ℕ) (items : List Item) (s : ReaderState) →
    ReadWhole o (reader_start (start_of x)) items false s → (n : ℕ) →
    Decides (is_possible n s.laid) (StillBegins o x (mark_of s.here) (latest items []) n)
possible_decided o x items s w n =
    let r = all_read_whole o (start_of x) items false s w in
    still_said o x items s n
    (subst (Reached o (reader_start (start_of x)) items) r.3 (lexed o (start_of x) items r.0 r.1).reached)
    (unended o [] w refl refl)

-- ---- each in the words of the other

not_true : (v : Bool) → (v ≡ true → ⊥) → v ≡ false
not_true true n = absurd (n refl)
not_true false n = refl

module _ (l : Laid) (May : ℕ → Type 0) (d : (n : ℕ) → Decides (is_possible n l) (May n)) where
  possible_may : (n : ℕ) → is_possible n l ≡ true → May n
  possible_may n e = (d n).0 e

  may_possible : (n : ℕ) → May n → is_possible n l ≡ true
  may_possible n p = (d n).1 p

  settled_not : (n : ℕ) → is_possible n l ≡ false → May n → ⊥
  settled_not n e p = let z = sym e ∙ may_possible n p in cc

  not_settled : (n : ℕ) → (May n → ⊥) → is_possible n l ≡ false
  not_settled n p = not_true (is_possible n l) (λ e. p (possible_may n e))

  none_may : (fs : List Flagged) → AreSettled l fs → NoneMay May fs
  none_may [] s = tt
  none_may (f ∷ fs) s = (settled_not f.0.number s.0, none_may fs s.1)

  are_settled : (fs : List Flagged) → NoneMay May fs → AreSettled l fs
  are_settled [] s = tt
  are_settled (f ∷ fs) s = (not_settled f.0.number s.0, are_settled fs s.1)

  first_may : (fs : List Flagged) → FirstIsOpen l fs → FirstMay May fs
  first_may [] s = tt
  first_may (f ∷ fs) s = possible_may f.0.number s

  first_open : (fs : List Flagged) → FirstMay May fs → FirstIsOpen l fs
  first_open [] s = tt
  first_open (f ∷ fs) s = may_possible f.0.number s

  pub front_certain : {fs front : List Flagged} → SettledFront l fs front → CertainFront May fs front
  front_certain {front = front} s = record {
    more = s.more;
    is = s.is;
    certain = none_may front s.settled;
    waits = first_may s.more s.waits;
  }

  pub front_settled : {fs front : List Flagged} → CertainFront May fs front → SettledFront l fs front
  front_settled {front = front} s = record {
    more = s.more;
    is = s.is;
    settled = are_settled front s.certain;
    waits = first_open s.more s.waits;
  }

  item_not : (i : Item) → IsSettled l i → ItemMay May i → ⊥
  item_not (OfLexeme x) s p = settled_not x.number s p
  item_not (OfComment c) s p = p

  item_settled : (i : Item) → (ItemMay May i → ⊥) → IsSettled l i
  item_settled (OfLexeme x) p = not_settled x.number p
  item_settled (OfComment c) p = tt

  pub no_item_may : (is : List FlaggedItem) → ItemsSettled l is → NoItemMay May is
  no_item_may [] s = tt
  no_item_may (i ∷ is) s = (item_not i.item s.0, no_item_may is s.1)

  pub items_settled : (is : List FlaggedItem) → NoItemMay May is → ItemsSettled l is
  items_settled [] s = tt
  items_settled (i ∷ is) s = (item_settled i.item s.0, items_settled is s.1)

  item_may : (i : Item) → IsUnsettled l i → ItemMay May i
  item_may (OfLexeme x) s = possible_may x.number s
  item_may (OfComment c) s = s

  item_unsettled : (i : Item) → ItemMay May i → IsUnsettled l i
  item_unsettled (OfLexeme x) s = may_possible x.number s
  item_unsettled (OfComment c) s = s

  pub first_item_may : (is : List FlaggedItem) → FirstUnsettled l is → FirstItemMay May is
  first_item_may [] s = tt
  first_item_may (i ∷ is) s = item_may i.item s

  pub first_unsettled : (is : List FlaggedItem) → FirstItemMay May is → FirstUnsettled l is
  first_unsettled [] s = tt
  first_unsettled (i ∷ is) s = item_unsettled i.item s

-- where the text is read to its end, all is told
module _ (ended : Bool) (l : Laid) (May : ℕ → Type 0)
    (d : ended ≡ false → (n : ℕ) → Decides (is_possible n l) (May n)) where
  pub told_before : {items front : List FlaggedItem} → ItemsBefore ended l items front →
      ToldBeforeFault ended May items front
  told_before {front = front} b = record {
    more = b.more;
    is = b.is;
    all = b.all;
    certain =
        λ e. (no_item_may l May (d e) front (b.settled e).0, first_item_may l May (d e) b.more (b.settled e).1);
  }

  pub items_before : {items front : List FlaggedItem} → ToldBeforeFault ended May items front →
      ItemsBefore ended l items front
  items_before {front = front} b = record {
    more = b.more;
    is = b.is;
    all = b.all;
    settled =
        λ e. (items_settled l May (d e) front (b.certain e).0, first_unsettled l May (d e) b.more (b.certain e).1);
  }
