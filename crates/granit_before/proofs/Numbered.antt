-- Each lexeme of a text bears how many stand before it, and only a `:` names a key.
pub use Rattle.granit_places.proofs.KeysLaw.{fresh_some, keys_fit, lines_fit}
pub use Rattle.granit_comment_places.proofs.PlacementLaw.{one_placement, placed_is}
use Rattle.std.proofs.Common.{◌≡◌, suc, ◌≤◌, List, [], ◌∷◌, ◌++◌, length, Option, Some, None, refl}
use Rattle.std.proofs.Common.{sym, ap, ◌∙◌, subst, arith}
use Rattle.granit_error.specs.OptionsData.{OptionsData}
use Rattle.granit_language.specs.Before.{freshened, closed_for}
use Rattle.granit_language.specs.KeyRuns.{WholeBrackets, whole_none, whole_other, whole_pair, Run, part_begins}
use Rattle.granit_language.specs.KeyRuns.{part_joins, whole_begins, whole_joins}
use Rattle.granit_language.specs.OpenColumns.{latest}
use Rattle.granit_language.specs.Reached.{ends_column_by, Reads, of_comment, of_lexeme, Reached, stops, goes_on}
use Rattle.granit_lexemes.specs.Comment.{CommentRead}
use Rattle.granit_lexemes.specs.Here.{Here}
use Rattle.granit_lexemes.specs.Lexeme.{Colon, KeyStart, Lexeme, Item, OfLexeme, OfComment}
use Rattle.granit_machine.specs.Laid.{Laid}
use Rattle.granit_machine.specs.LexemeSort.{OpenSign, CloseSign, CommaSign, DashSign, QuestionSign}
use Rattle.granit_machine.specs.LexemeSort.{ColonSign, AliasSign, AnchorSign, TagSign, BlockSign, QuoteSign, PlainSign}
use Rattle.granit_machine.specs.LexemeSort.{StrayMark, NoSign, LexemeSort, TextEnd, StartMark, EndMark, DirectiveSign}
use Rattle.granit_machine.specs.LexemeSort.{Unprintable, Placed}
use Rattle.granit_machine.specs.NodeLexemes.{note_items}
use Rattle.granit_machine.specs.ReaderState.{ReaderState, reader_start}
pub use Rattle.granit_places.proofs.ColumnsWhole.{latest_noted}
pub use Rattle.granit_places.proofs.Moving.{closed_held, lexeme_moved}
pub use Rattle.granit_places.proofs.Telling.{SaysOf, gap_agrees, telling}
use Rattle.granit_before.specs.HeldKeys.{EndsIn, all_of_it, behind_one}
use Rattle.granit_before.specs.KeyBegins.{AllNumbered}

pub record Bears (before : List Lexeme) (x : Lexeme) : Type 0 where
  pub number : x.number ≡ length before
  pub keyed : (k : KeyStart) → x.key ≡ Some k → x.kind ≡ Colon

abbrev pub ItemsBear : List Lexeme → List Item → Type 0
ItemsBear before [] = Unit {0}
ItemsBear before (OfLexeme x ∷ is) = Bears before x × ItemsBear (x ∷ before) is
ItemsBear before (OfComment c ∷ is) = ItemsBear before is

-- ---- of two ends of a list one is in the other

pub ends_short : {xs ys : List Lexeme} → EndsIn xs ys → length ys ≤ length xs
ends_short {xs = xs} all_of_it = let n = length xs in omega arith
ends_short {ys = ys} (behind_one {xs = xs} e) = let p = ends_short e in omega (arith, p)

too_long : (x : Lexeme) (xs ys : List Lexeme) → EndsIn xs ys → length ys ≡ suc (length xs) → ⊥
too_long x xs ys e f = let p = ends_short e in omega (arith, p, f)

-- ends of the same length are the same
pub one_end : {xs ys zs : List Lexeme} → EndsIn xs ys → EndsIn xs zs → length ys ≡ length zs → ys ≡ zs
one_end all_of_it all_of_it e = refl
one_end {zs = zs} all_of_it (behind_one {x = x} {xs = xs} q) e = absurd (too_long x xs zs q (sym e))
one_end {ys = ys} (behind_one {x = x} {xs = xs} p) all_of_it e = absurd (too_long x xs ys p e)
one_end (behind_one p) (behind_one q) e = one_end p q e

pub ends_then : {xs ys zs : List Lexeme} → EndsIn xs ys → EndsIn ys zs → EndsIn xs zs
ends_then all_of_it q = q
ends_then (behind_one p) q = behind_one (ends_then p q)

whole_ends_in : {xs ys : List Lexeme} → WholeBrackets xs ys → EndsIn xs ys
whole_ends_in whole_none = all_of_it
whole_ends_in (whole_other n c w) = behind_one (whole_ends_in w)
whole_ends_in (whole_pair r w o v) =
    behind_one (ends_then (whole_ends_in w) (behind_one (whole_ends_in v)))

pub run_ends_in : {xs rest : List Lexeme} {first : Lexeme} → Run xs first rest → EndsIn xs (first ∷ rest)
run_ends_in (part_begins r p) = all_of_it
run_ends_in (part_joins r j p) = behind_one (run_ends_in p)
run_ends_in (whole_begins r w o p) = behind_one (whole_ends_in w)
run_ends_in (whole_joins r w o j p) = behind_one (ends_then (whole_ends_in w) (behind_one (run_ends_in p)))

pub ends_numbered : {xs ys : List Lexeme} → EndsIn xs ys → AllNumbered xs → AllNumbered ys
ends_numbered all_of_it n = n
ends_numbered (behind_one e) n = ends_numbered e n.1

-- ---- one read

keyed_as : (x : Lexeme) (k : KeyStart) → x.key ≡ None → x.key ≡ Some k → x.kind ≡ Colon
keyed_as x k e f = absurd (let z = sym e ∙ f in cc)

keyed_kind : (sort : LexemeSort) (h : Here) (l : Laid) (x : Lexeme) → SaysOf sort h l x → (k : KeyStart) →
    x.key ≡ Some k → x.kind ≡ Colon
keyed_kind TextEnd h l x s k e = keyed_as x k s.0.key e
keyed_kind StartMark h l x s k e = keyed_as x k s.0.key e
keyed_kind EndMark h l x s k e = keyed_as x k s.0.key e
keyed_kind DirectiveSign h l x s k e = keyed_as x k s.1.key e
keyed_kind Unprintable h l x s k e = absurd s
keyed_kind (Placed (OpenSign bracket)) h l x s k e = keyed_as x k s.key e
keyed_kind (Placed (CloseSign bracket)) h l x s k e = keyed_as x k s.0.key e
keyed_kind (Placed CommaSign) h l x s k e = keyed_as x k s.key e
keyed_kind (Placed DashSign) h l x s k e = keyed_as x k s.0.key e
keyed_kind (Placed QuestionSign) h l x s k e = keyed_as x k s.0.key e
keyed_kind (Placed ColonSign) h l x s k e = s.0
keyed_kind (Placed AliasSign) h l x s k e = keyed_as x k s.1.key e
keyed_kind (Placed AnchorSign) h l x s k e = keyed_as x k s.1.key e
keyed_kind (Placed TagSign) h l x s k e = keyed_as x k s.2.key e
keyed_kind (Placed (BlockSign literal)) h l x s k e = keyed_as x k s.2.key e
keyed_kind (Placed (QuoteSign single)) h l x s k e = keyed_as x k s.2.key e
keyed_kind (Placed PlainSign) h l x s k e = keyed_as x k s.2.key e
keyed_kind (Placed StrayMark) h l x s k e = absurd s
keyed_kind (Placed NoSign) h l x s k e = absurd s

pub record ReadBears (before : List Lexeme) (items : List Item) (after : Laid) : Type 0 where
  pub bear : ItemsBear before items
  pub number : after.number ≡ length (latest items before)

noted_bear : (before : List Lexeme) (x : Lexeme) (note : Option CommentRead) → Bears before x →
    ItemsBear before (OfLexeme x ∷ note_items note)
noted_bear before x None b = (b, tt)
noted_bear before x (Some c) b = (b, tt)

pub read_bears : (o : OptionsData) (ls : List Lexeme) {s after : ReaderState} {items : List Item} →
    Reads o s items after → s.laid.number ≡ length ls → ReadBears ls items after.laid
read_bears o ls (of_comment at g k) e = record { bear = tt; number = (gap_agrees g).number ∙ e }
read_bears o ls {s = s} (of_lexeme {items = items} at behind sort comes given keys) e =
    let f = freshened o at in
    let t = telling o (ends_column_by sort f) f.here _ sort items behind given.1 in
    let c = closed_held sort f.here f.laid in
    let v = lexeme_moved o sort f.here
    (closed_for sort f.here f.laid) t.lexeme t.cut t.reached behind.laid t.told t.says t.leaves in
    let n = c.0 ∙ ((gap_agrees comes.gap).number ∙ e) in
    record {
      bear =
          subst (ItemsBear ls) (sym t.are) (noted_bear ls t.lexeme t.note
          (record { number = v.number ∙ n; keyed = keyed_kind sort f.here _ t.lexeme t.says }));
      number =
          v.next ∙ ap suc n
          ∙ sym (ap length (ap (λ (is : List Item). latest is ls) t.are ∙ latest_noted t.lexeme t.note ls));
    }

-- ---- all

bear_joined : (before : List Lexeme) (items more : List Item) → ItemsBear before items →
    ItemsBear (latest items before) more → ItemsBear before (items ++ more)
bear_joined before [] more b n = n
bear_joined before (OfLexeme x ∷ is) more b n = (b.0, bear_joined (x ∷ before) is more b.1 n)
bear_joined before (OfComment c ∷ is) more b n = bear_joined before is more b n

reached_bear : (o : OptionsData) (ls : List Lexeme) {s t : ReaderState} {items : List Item} → Reached o s items t →
    s.laid.number ≡ length ls → ItemsBear ls items
reached_bear o ls stops e = tt
reached_bear o ls (goes_on next items more r last rest is) e =
    let b = read_bears o ls r e in
    subst (ItemsBear ls) (sym is) (bear_joined ls items more b.bear (reached_bear o (latest items ls) rest b.number))

pub items_bear : (o : OptionsData) (h : Here) (items : List Item) (t : ReaderState) →
    Reached o (reader_start h) items t → ItemsBear [] items
items_bear o h items t r = reached_bear o [] r refl

numbered_behind : (before : List Lexeme) (items : List Item) → AllNumbered before → ItemsBear before items →
    AllNumbered (latest items before)
numbered_behind before [] n b = n
numbered_behind before (OfLexeme x ∷ is) n b = numbered_behind (x ∷ before) is (b.0.number, n) b.1
numbered_behind before (OfComment c ∷ is) n b = numbered_behind before is n b

pub all_numbered : (o : OptionsData) (h : Here) (items : List Item) (t : ReaderState) →
    Reached o (reader_start h) items t → AllNumbered (latest items [])
all_numbered o h items t r = numbered_behind [] items tt (items_bear o h items t r)
