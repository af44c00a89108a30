-- Byte-order marks may stand where nothing but directives stands before them in their document.
use Rattle.std.proofs.Common.{◌≡◌, Bool, true, false, List, [], ◌∷◌, Option, refl, sym, ap, ◌∙◌}
use Rattle.granit_error.specs.OptionsData.{OptionsData}
use Rattle.granit_language.specs.Before.{freshened, with_run, in_front}
use Rattle.granit_language.specs.OpenColumns.{latest}
use Rattle.granit_language.specs.Reached.{ends_column_by, Reads, of_comment, of_lexeme, Reached, stops, goes_on}
use Rattle.granit_language.specs.Standing.{GapStands, in_front_of_comment, in_front_of_lexeme, Given}
use Rattle.granit_lexemes.specs.Comment.{CommentRead}
use Rattle.granit_lexemes.specs.Here.{Here}
use Rattle.granit_lexemes.specs.Lexeme.{LexemeKind, Lexeme, Item, OfLexeme}
use Rattle.granit_machine.specs.Laid.{Laid}
use Rattle.granit_machine.specs.LexemeSort.{PlacedSort, OpenSign, CloseSign, CommaSign, DashSign, QuestionSign}
use Rattle.granit_machine.specs.LexemeSort.{ColonSign, AliasSign, AnchorSign, TagSign, BlockSign, QuoteSign, PlainSign}
use Rattle.granit_machine.specs.LexemeSort.{StrayMark, NoSign, LexemeSort, TextEnd, StartMark, EndMark, DirectiveSign}
use Rattle.granit_machine.specs.LexemeSort.{Unprintable, Placed}
use Rattle.granit_machine.specs.ReaderState.{ReaderState, reader_start}
use Rattle.granit_order.proofs.BracketsKept.{latest_noted, latest_joined}
use Rattle.granit_order.proofs.BracketsPassed.{SaysOf}
use Rattle.granit_order.proofs.BracketsKept.{telling}
use Rattle.granit_answers.specs.Prefix.{prefix_behind, before_document}

gap_keeps : {o : OptionsData} {h : Here} {l : Laid} {c : Option CommentRead} {t : ReaderState} → GapStands o h l c t →
    t.laid.may_prefix ≡ l.may_prefix
gap_keeps (in_front_of_comment at end g p) = refl
gap_keeps (in_front_of_lexeme at g n t k) = refl

run_keeps : (sort : PlacedSort) (h : Here) (l : Laid) → (with_run sort h l).may_prefix ≡ l.may_prefix
run_keeps (OpenSign bracket) h l = refl
run_keeps AliasSign h l = refl
run_keeps AnchorSign h l = refl
run_keeps TagSign h l = refl
run_keeps (BlockSign literal) h l = refl
run_keeps (QuoteSign single) h l = refl
run_keeps PlainSign h l = refl
run_keeps sort h l = refl

front_keeps : (sort : LexemeSort) (h : Here) (l : Laid) → (in_front sort h l).may_prefix ≡ l.may_prefix
front_keeps TextEnd h l = refl
front_keeps Unprintable h l = refl
front_keeps StartMark h l = refl
front_keeps EndMark h l = refl
front_keeps DirectiveSign h l = refl
front_keeps (Placed sort) h l = run_keeps sort h _

-- ---- one lexeme

abbrev prefix_of : LexemeSort → Bool → Bool
prefix_of TextEnd before = before
prefix_of EndMark before = true
prefix_of DirectiveSign before = before
prefix_of Unprintable before = before
prefix_of sort before = false

left_by :
    (o : OptionsData) (ends : Bool) (sort : LexemeSort) (h : Here) (l : Laid) (items : List Item)
    (after : ReaderState) →
    Given o ends sort h l items after → after.laid.may_prefix ≡ prefix_of sort l.may_prefix
left_by o ends (Placed (QuoteSign single)) h l items after p =
    ap (λ (s : ReaderState). s.laid.may_prefix) p.leaves ∙ gap_keeps p.gap
left_by o ends TextEnd h l (OfLexeme x ∷ []) after p = ap (λ (l : Laid). l.may_prefix) p.1
left_by o ends StartMark h l (OfLexeme x ∷ []) after p = ap (λ (l : Laid). l.may_prefix) p.1
left_by o ends EndMark h l (OfLexeme x ∷ []) after p = ap (λ (l : Laid). l.may_prefix) p.1
left_by o ends DirectiveSign h l (OfLexeme x ∷ []) after p = ap (λ (l : Laid). l.may_prefix) p.1
left_by o ends Unprintable h l (OfLexeme x ∷ []) after p = absurd p.0
left_by o ends (Placed (OpenSign bracket)) h l (OfLexeme x ∷ []) after p = ap (λ (l : Laid). l.may_prefix) p.1
left_by o ends (Placed (CloseSign bracket)) h l (OfLexeme x ∷ []) after p = ap (λ (l : Laid). l.may_prefix) p.1
left_by o ends (Placed CommaSign) h l (OfLexeme x ∷ []) after p = ap (λ (l : Laid). l.may_prefix) p.1
left_by o ends (Placed DashSign) h l (OfLexeme x ∷ []) after p = ap (λ (l : Laid). l.may_prefix) p.1
left_by o ends (Placed QuestionSign) h l (OfLexeme x ∷ []) after p = ap (λ (l : Laid). l.may_prefix) p.1
left_by o ends (Placed ColonSign) h l (OfLexeme x ∷ []) after p = ap (λ (l : Laid). l.may_prefix) p.1
left_by o ends (Placed AliasSign) h l (OfLexeme x ∷ []) after p = ap (λ (l : Laid). l.may_prefix) p.1
left_by o ends (Placed AnchorSign) h l (OfLexeme x ∷ []) after p = ap (λ (l : Laid). l.may_prefix) p.1
left_by o ends (Placed TagSign) h l (OfLexeme x ∷ []) after p = ap (λ (l : Laid). l.may_prefix) p.1
left_by o ends (Placed (BlockSign literal)) h l (OfLexeme x ∷ []) after p = ap (λ (l : Laid). l.may_prefix) p.1
left_by o ends (Placed PlainSign) h l (OfLexeme x ∷ []) after p = ap (λ (l : Laid). l.may_prefix) p.2
left_by o ends (Placed StrayMark) h l (OfLexeme x ∷ []) after p = absurd p.0
left_by o ends (Placed NoSign) h l (OfLexeme x ∷ []) after p = absurd p.0
left_by o ends sort h l items after p = absurd p

of_kind : (x : Lexeme) (kind : LexemeKind) (b v : Bool) → x.kind ≡ kind → v ≡ prefix_behind kind b →
    v ≡ prefix_behind x.kind b
of_kind x kind b v e f = f ∙ ap (λ kind. prefix_behind kind b) (sym e)

said_by : (sort : LexemeSort) (h : Here) (l : Laid) (x : Lexeme) (b : Bool) → SaysOf sort h l x →
    prefix_of sort b ≡ prefix_behind x.kind b
said_by TextEnd h l x b s = of_kind x _ b _ s.0.is refl
said_by StartMark h l x b s = of_kind x _ b _ s.0.is refl
said_by EndMark h l x b s = of_kind x _ b _ s.0.is refl
said_by DirectiveSign h l x b s = of_kind x _ b _ s.1.is refl
said_by Unprintable h l x b s = absurd s
said_by (Placed (OpenSign bracket)) h l x b s = of_kind x _ b _ s.is refl
said_by (Placed (CloseSign bracket)) h l x b s = of_kind x _ b _ s.0.is refl
said_by (Placed CommaSign) h l x b s = of_kind x _ b _ s.is refl
said_by (Placed DashSign) h l x b s = of_kind x _ b _ s.0.is refl
said_by (Placed QuestionSign) h l x b s = of_kind x _ b _ s.0.is refl
said_by (Placed ColonSign) h l x b s = of_kind x _ b _ s.0 refl
said_by (Placed AliasSign) h l x b s = of_kind x _ b _ s.1.is refl
said_by (Placed AnchorSign) h l x b s = of_kind x _ b _ s.1.is refl
said_by (Placed TagSign) h l x b s = of_kind x _ b _ s.2.is refl
said_by (Placed (BlockSign literal)) h l x b s = of_kind x _ b _ s.2.is refl
said_by (Placed (QuoteSign single)) h l x b s = of_kind x _ b _ s.2.is refl
said_by (Placed PlainSign) h l x b s = of_kind x _ b _ s.2.is refl
said_by (Placed StrayMark) h l x b s = absurd s
said_by (Placed NoSign) h l x b s = absurd s

-- ---- all

read_said : (o : OptionsData) (ls : List Lexeme) {s after : ReaderState} {items : List Item} → Reads o s items after →
    s.laid.may_prefix ≡ before_document ls → after.laid.may_prefix ≡ before_document (latest items ls)
read_said o ls (of_comment at g k) e = gap_keeps g ∙ e
read_said o ls {s = s} (of_lexeme {items = items} at behind sort comes given keys) e =
    let f = freshened o at in
    let t = telling o (ends_column_by sort f) f.here _ sort items behind given.1 in
    left_by o (ends_column_by sort f) sort f.here (in_front sort f.here f.laid) items behind given.1
    ∙ ap (prefix_of sort) (front_keeps sort f.here f.laid ∙ (gap_keeps comes.gap ∙ e))
    ∙ said_by sort f.here (in_front sort f.here f.laid) t.lexeme (before_document ls) t.says
    ∙ sym (ap before_document (ap (λ (is : List Item). latest is ls) t.are ∙ latest_noted t.lexeme t.note ls))

reached_said : (o : OptionsData) (ls : List Lexeme) {s t : ReaderState} {items : List Item} → Reached o s items t →
    s.laid.may_prefix ≡ before_document ls → t.laid.may_prefix ≡ before_document (latest items ls)
reached_said o ls stops e = e
reached_said o ls (goes_on next items more r last rest is) e =
    reached_said o (latest items ls) rest (read_said o ls r e)
    ∙ sym (ap before_document (ap (λ (is : List Item). latest is ls) is ∙ latest_joined items more ls))

pub prefix_said : (o : OptionsData) (h : Here) (items : List Item) (t : ReaderState) →
    Reached o (reader_start h) items t →
    t.laid.may_prefix ≡ before_document (latest items [])
prefix_said o h items t r = reached_said o [] r refl
