-- A `---` is read alone, and reading then stands behind it.
use Rattle.std.proofs.Common.{◌≡◌, Bool, true, false, ◌||◌, List, [], ◌∷◌, Option, Some, None, Ok, refl, ap, subst, ◌∙◌}
use Rattle.granit_error.specs.OptionsData.{OptionsData}
use Rattle.granit_language.specs.Before.{freshened, in_front}
use Rattle.granit_language.specs.Begins.{Begins, dashes}
use Rattle.granit_language.specs.Reached.{ends_column_by, of_comment, of_lexeme, BeginsAt, Reads}
use Rattle.granit_language.specs.Standing.{Given, GivenOne}
use Rattle.granit_lexemes.specs.Comment.{CommentRead}
use Rattle.granit_lexemes.specs.Here.{Here}
use Rattle.granit_lexemes.specs.Lexeme.{Lexeme, LexemeKind, Item, OfLexeme, OfComment}
use Rattle.granit_lexemes.specs.Lexeme as lexemes
use Rattle.granit_machine.specs.Laid.{Laid}
use Rattle.granit_machine.specs.LexemeSort.{LexemeSort, TextEnd, StartMark, EndMark, Unprintable, DirectiveSign, Placed}
use Rattle.granit_machine.specs.LexemeSort.{OpenSign, CloseSign, CommaSign, DashSign, QuestionSign, ColonSign}
use Rattle.granit_machine.specs.LexemeSort.{AliasSign, AnchorSign, TagSign, BlockSign, QuoteSign, StrayMark, NoSign}
use Rattle.granit_machine.specs.LexemeSort.{PlainSign}
use Rattle.granit_machine.specs.NodeLexemes.{note_items}
use Rattle.granit_machine.specs.Reader.{read}
use Rattle.granit_machine.specs.ReaderState.{ReaderState}
use Rattle.granit_places.proofs.Telling.{Answers}
use Rattle.granit_places.proofs.Telling.{read-is, ReadsBy}
pub use Rattle.granit_places.proofs.Telling.{SaysOf, telling}
use Rattle.granit_led.proofs.MarkWaits.{any_of, none_in, of_sort, one_in, OneIn}
use Rattle.granit_led.specs.Found.{StartRead}

abbrev pub is_start : LexemeKind → Bool
is_start lexemes.DocumentStart = true
is_start kind = false

abbrev pub starts : Item → Bool
starts i = of_sort is_start StartRead i

abbrev pub any_starts : List Item → Bool
any_starts is = any_of is_start StartRead is

-- items without a `---`, or one alone
abbrev pub StartsIn : Here → List Item → Type 0
StartsIn after is = OneIn is_start StartRead after is

pub or_false : (b : Bool) → b ≡ false → (b || false) ≡ false
or_false true e = e
or_false false e = refl

other_kind : (x : Lexeme) (kind : LexemeKind) (behind : Option CommentRead) → x.kind ≡ kind → is_start kind ≡ false
    → any_starts (OfLexeme x ∷ note_items behind) ≡ false
other_kind x kind None e n = or_false (is_start x.kind) (ap is_start e ∙ n)
other_kind x kind (Some c) e n = or_false (is_start x.kind) (ap is_start e ∙ n)

-- what is said of a lexeme of another sort
other_sort : (h : Here) (l : Laid) (x : Lexeme) (behind : Option CommentRead) (sort : LexemeSort) → SaysOf sort h l x
    → (sort ≡ StartMark → any_starts (OfLexeme x ∷ note_items behind) ≡ false)
    → any_starts (OfLexeme x ∷ note_items behind) ≡ false
other_sort h l x behind TextEnd s start = other_kind x _ behind s.0.is refl
other_sort h l x behind StartMark s start = start refl
other_sort h l x behind EndMark s start = other_kind x _ behind s.0.is refl
other_sort h l x behind DirectiveSign s start = other_kind x _ behind s.1.is refl
other_sort h l x behind Unprintable s start = absurd s
other_sort h l x behind (Placed (OpenSign bracket)) s start = other_kind x _ behind s.is refl
other_sort h l x behind (Placed (CloseSign bracket)) s start = other_kind x _ behind s.0.is refl
other_sort h l x behind (Placed CommaSign) s start = other_kind x _ behind s.is refl
other_sort h l x behind (Placed DashSign) s start = other_kind x _ behind s.0.is refl
other_sort h l x behind (Placed QuestionSign) s start = other_kind x _ behind s.0.is refl
other_sort h l x behind (Placed ColonSign) s start = other_kind x _ behind s.0 refl
other_sort h l x behind (Placed AliasSign) s start = other_kind x _ behind s.1.is refl
other_sort h l x behind (Placed AnchorSign) s start = other_kind x _ behind s.1.is refl
other_sort h l x behind (Placed TagSign) s start = other_kind x _ behind s.2.is refl
other_sort h l x behind (Placed (BlockSign literal)) s start = other_kind x _ behind s.2.is refl
other_sort h l x behind (Placed (QuoteSign single)) s start = other_kind x _ behind s.2.is refl
other_sort h l x behind (Placed PlainSign) s start = other_kind x _ behind s.2.is refl
other_sort h l x behind (Placed StrayMark) s start = absurd s
other_sort h l x behind (Placed NoSign) s start = absurd s

start_at : (o : OptionsData) (ends : Bool) (h : Here) (l : Laid) (items : List Item) (after : ReaderState)
    (in_flow adjacent : Bool) → Begins in_flow adjacent h.place.column h.unread.text StartMark
    → GivenOne o ends StartMark h l items after → StartsIn after.here items
start_at o ends h l (OfLexeme x ∷ []) after in_flow adjacent (dashes stands) p =
    one_in (record {
      place = h;
      behind = stands.1;
      column = stands.0;
      text = stands.2;
      parted = stands.3;
      kind = ap (λ (y : Lexeme). y.kind) p.0.0.is;
      untailed = ap (λ (y : Lexeme). y.tail) p.0.0.is;
      keyless = ap (λ (y : Lexeme). y.key) p.0.0.is;
      shown = ap (λ (y : Lexeme). y.shown) p.0.0.is;
      end = ap (λ (y : Lexeme). y.end) p.0.0.is;
      reaches = p.0.0.reaches;
    })
start_at o ends h l [] after in_flow adjacent b p = absurd p
start_at o ends h l (OfComment c ∷ is) after in_flow adjacent b p = absurd p
start_at o ends h l (OfLexeme x ∷ i ∷ is) after in_flow adjacent b p = absurd p

by_sort : (o : OptionsData) (at behind : ReaderState) (items : List Item) (sort : LexemeSort)
    → BeginsAt (freshened o at) sort
    → Given o (ends_column_by sort (freshened o at)) sort at.here (in_front sort at.here (freshened o at).laid) items
    behind
    → StartsIn behind.here items
by_sort o at behind items StartMark b given =
    start_at o _ at.here _ items behind _ _ b given
by_sort o at behind items sort b given =
    let t = telling o (ends_column_by sort (freshened o at)) at.here (in_front sort at.here (freshened o at).laid) sort
    items behind given in
    none_in (ap any_starts t.are ∙ other_sort at.here (in_front sort at.here (freshened o at).laid) t.lexeme t.note
    sort
    t.says (λ e. absurd (cc)))

reads_start : (o : OptionsData) (s after : ReaderState) (items : List Item) → Reads o s items after
    → StartsIn after.here items
reads_start o s after items (of_comment at g k) = none_in refl
reads_start o s after items (of_lexeme at behind sort comes given keys) =
    by_sort o at behind items sort comes.begins given.1

pub read_start : (o : OptionsData) (s after : ReaderState) (items : List Item) → read o s ≡ Ok (items, after)
    → StartsIn after.here items
read_start o s after items is = reads_start o s after items (subst (Answers (ReadsBy o s) _) is (read-is o s))
