-- What a comment cut short is the lexeme that was read last.
use Rattle.std.proofs.Common.{◌≡◌, Bool, true, false, List, [], ◌∷◌, Option, Some, None, refl, sym, ap, ◌∙◌, subst}
use Rattle.granit_base.specs.Place.{Mark}
use Rattle.granit_error.specs.OptionsData.{OptionsData}
use Rattle.granit_language.specs.Before.{freshened, with_run, in_front, behind_colon, behind_question_sign}
use Rattle.granit_language.specs.OpenColumns.{latest}
use Rattle.granit_language.specs.Reached.{ends_column_by, Reads, of_comment, of_lexeme, Reached, stops, goes_on}
use Rattle.granit_language.specs.Standing.{GapStands, in_front_of_comment, in_front_of_lexeme, Given}
use Rattle.granit_lexemes.specs.Comment.{CommentRead}
use Rattle.granit_lexemes.specs.Here.{Here}
use Rattle.granit_lexemes.specs.Lexeme.{Lexeme, Item, OfLexeme}
use Rattle.granit_lexemes.specs.declared.layout.PossibleKey.{PossibleKey}
use Rattle.granit_machine.specs.Laid.{Laid, is_in_flow}
use Rattle.granit_machine.specs.LexemeSort.{PlacedSort, OpenSign, CloseSign, CommaSign, DashSign, QuestionSign}
use Rattle.granit_machine.specs.LexemeSort.{ColonSign, AliasSign, AnchorSign, TagSign, BlockSign, QuoteSign, PlainSign}
use Rattle.granit_machine.specs.LexemeSort.{StrayMark, NoSign, LexemeSort, TextEnd, StartMark, EndMark, DirectiveSign}
use Rattle.granit_machine.specs.LexemeSort.{Unprintable, Placed}
use Rattle.granit_machine.specs.PossibleKeys.{top_key}
use Rattle.granit_machine.specs.ReaderState.{ReaderState, reader_start}
use Rattle.granit_order.proofs.BracketsKept.{latest_joined}
use Rattle.granit_answers.specs.CutShort.{CutShort, LastCut}

-- ---- what is kept and what is forgotten

gap_keeps : {o : OptionsData} {h : Here} {l : Laid} {c : Option CommentRead} {t : ReaderState} → GapStands o h l c t →
    l.cut ≡ None → t.laid.cut ≡ None
gap_keeps (in_front_of_comment at end g p) e = e
gap_keeps (in_front_of_lexeme at g n t k) e = refl

note_keeps : {o : OptionsData} {h : Here} {l : Laid} {c : CommentRead} {t : ReaderState} → GapStands o h l (Some c) t →
    t.laid.cut ≡ l.cut
note_keeps (in_front_of_comment at end g p) = refl

gap_forgets : {o : OptionsData} {h : Here} {l : Laid} {t : ReaderState} → GapStands o h l None t → t.laid.cut ≡ None
gap_forgets (in_front_of_lexeme at g n t k) = refl

run_keeps : (sort : PlacedSort) (h : Here) (l : Laid) → (with_run sort h l).cut ≡ l.cut
run_keeps (OpenSign bracket) h l = refl
run_keeps AliasSign h l = refl
run_keeps AnchorSign h l = refl
run_keeps TagSign h l = refl
run_keeps (BlockSign literal) h l = refl
run_keeps (QuoteSign single) h l = refl
run_keeps PlainSign h l = refl
run_keeps sort h l = refl

front_keeps : (sort : LexemeSort) (h : Here) (l : Laid) → (in_front sort h l).cut ≡ l.cut
front_keeps TextEnd h l = refl
front_keeps Unprintable h l = refl
front_keeps StartMark h l = refl
front_keeps EndMark h l = refl
front_keeps DirectiveSign h l = refl
front_keeps (Placed sort) h l = run_keeps sort h _

colon_keeps : (in_flow : Bool) (key : Option PossibleKey) (h : Here) (l : Laid) → (behind_colon in_flow key h l).cut
    ≡ l.cut
colon_keeps true (Some k) h l = refl
colon_keeps true None h l = refl
colon_keeps false (Some k) h l = refl
colon_keeps false None h l = refl

question_keeps : (in_flow : Bool) (h : Here) (l : Laid) → (behind_question_sign in_flow h l).cut ≡ l.cut
question_keeps true h l = refl
question_keeps false h l = refl

-- ---- one lexeme

-- nothing is cut short behind it, or it was
data Cuts (items : List Item) (after : ReaderState) : Type 0 where
  uncut : after.laid.cut ≡ None → Cuts items after
  cut_short : (x : Lexeme) → items ≡ OfLexeme x ∷ [] → ((m : Mark) → after.laid.cut ≡ Some m → CutShort x m)
      → Cuts items after

left_by :
    (o : OptionsData) (ends : Bool) (sort : LexemeSort) (h : Here) (l : Laid) (items : List Item)
    (after : ReaderState) →
    Given o ends sort h l items after → l.cut ≡ None → Cuts items after
left_by o ends (Placed (QuoteSign single)) h l items after p e =
    uncut (ap (λ (s : ReaderState). s.laid.cut) p.leaves ∙ gap_keeps p.gap e)
left_by o ends TextEnd h l (OfLexeme x ∷ []) after p e = uncut (ap (λ (l : Laid). l.cut) p.1 ∙ e)
left_by o ends StartMark h l (OfLexeme x ∷ []) after p e = uncut (ap (λ (l : Laid). l.cut) p.1 ∙ e)
left_by o ends EndMark h l (OfLexeme x ∷ []) after p e = uncut (ap (λ (l : Laid). l.cut) p.1 ∙ e)
left_by o ends DirectiveSign h l (OfLexeme x ∷ []) after p e = uncut (ap (λ (l : Laid). l.cut) p.1 ∙ e)
left_by o ends Unprintable h l (OfLexeme x ∷ []) after p e = absurd p.0
left_by o ends (Placed (OpenSign bracket)) h l (OfLexeme x ∷ []) after p e = uncut (ap (λ (l : Laid). l.cut) p.1 ∙ e)
left_by o ends (Placed (CloseSign bracket)) h l (OfLexeme x ∷ []) after p e = uncut (ap (λ (l : Laid). l.cut) p.1 ∙ e)
left_by o ends (Placed CommaSign) h l (OfLexeme x ∷ []) after p e = uncut (ap (λ (l : Laid). l.cut) p.1 ∙ e)
left_by o ends (Placed DashSign) h l (OfLexeme x ∷ []) after p e = uncut (ap (λ (l : Laid). l.cut) p.1 ∙ e)
left_by o ends (Placed QuestionSign) h l (OfLexeme x ∷ []) after p e =
    uncut (ap (λ (l : Laid). l.cut) p.1 ∙ (question_keeps (is_in_flow l) h l ∙ e))
left_by o ends (Placed ColonSign) h l (OfLexeme x ∷ []) after p e =
    uncut (ap (λ (l : Laid). l.cut) p.1 ∙ (colon_keeps (is_in_flow l) (top_key l) h l ∙ e))
left_by o ends (Placed AliasSign) h l (OfLexeme x ∷ []) after p e = uncut (ap (λ (l : Laid). l.cut) p.1 ∙ e)
left_by o ends (Placed AnchorSign) h l (OfLexeme x ∷ []) after p e = uncut (ap (λ (l : Laid). l.cut) p.1 ∙ e)
left_by o ends (Placed TagSign) h l (OfLexeme x ∷ []) after p e = uncut (ap (λ (l : Laid). l.cut) p.1 ∙ e)
left_by o ends (Placed (BlockSign literal)) h l (OfLexeme x ∷ []) after p e =
    uncut (ap (λ (l : Laid). l.cut) p.1 ∙ e)
left_by o ends (Placed PlainSign) h l (OfLexeme x ∷ []) after p e =
    cut_short x refl (λ m f. record {
      here = h;
      layout = p.1.layout;
      read = p.1.read;
      after = after.here;
      answers = p.1.answers;
      begins = ap (λ (x : Lexeme). x.start) p.1.is;
      kind = ap (λ (x : Lexeme). x.kind) p.1.is;
      cut = sym p.1.cuts ∙ (sym (ap (λ (l : Laid). l.cut) p.2) ∙ f);
    })
left_by o ends (Placed StrayMark) h l (OfLexeme x ∷ []) after p e = absurd p.0
left_by o ends (Placed NoSign) h l (OfLexeme x ∷ []) after p e = absurd p.0
left_by o ends sort h l items after p e = absurd p

-- ---- all

none_some : {c : Option Mark} {m : Mark} → c ≡ None → c ≡ Some m → ⊥
none_some e f = absurd (let g = sym e ∙ f in cc)

cuts_said : (ls : List Lexeme) (items : List Item) (after : ReaderState) (m : Mark) → Cuts items after →
    after.laid.cut ≡ Some m → LastCut (latest items ls) m
cuts_said ls items after m (uncut e) f = absurd (none_some e f)
cuts_said ls items after m (cut_short x is said) f =
    subst (λ (items : List Item). LastCut (latest items ls) m) (sym is) (said m f)

read_said : (o : OptionsData) (ls : List Lexeme) {s after : ReaderState} {items : List Item} → Reads o s items after →
    ((m : Mark) → s.laid.cut ≡ Some m → LastCut ls m) → (m : Mark) → after.laid.cut ≡ Some m →
    LastCut (latest items ls) m
read_said o ls (of_comment at g k) e m f = e m (sym (note_keeps g) ∙ f)
read_said o ls (of_lexeme {items = items} at behind sort comes given keys) e m f =
    let s = freshened o at in
    cuts_said ls items behind m
    (left_by o (ends_column_by sort s) sort s.here (in_front sort s.here s.laid) items behind given.1
    (front_keeps sort s.here s.laid ∙ gap_forgets comes.gap)) f

reached_said : (o : OptionsData) (ls : List Lexeme) {s t : ReaderState} {items : List Item} → Reached o s items t →
    ((m : Mark) → s.laid.cut ≡ Some m → LastCut ls m) → (m : Mark) → t.laid.cut ≡ Some m →
    LastCut (latest items ls) m
reached_said o ls stops e m f = e m f
reached_said o ls (goes_on next items more r last rest is) e m f =
    subst (λ (xs : List Lexeme). LastCut xs m)
    (sym (ap (λ (is : List Item). latest is ls) is ∙ latest_joined items more ls))
    (reached_said o (latest items ls) rest (read_said o ls r e) m f)

pub cut_said : (o : OptionsData) (h : Here) (items : List Item) (t : ReaderState) (m : Mark) →
    Reached o (reader_start h) items t → t.laid.cut ≡ Some m → LastCut (latest items []) m
cut_said o h items t m r = reached_said o [] r (λ m f. absurd cc) m
