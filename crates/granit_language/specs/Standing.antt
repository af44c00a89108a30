-- The lexemes of a text by kind: which one stands at a place, how far it goes, and what is said of it.
use Rattle.std.specs.Prelude.{◌≡◌, ◌≢◌, ◌<◌, ◌==◌, Bool, true, false, List, [], ◌∷◌, length, Option, Some, None}
use Rattle.granit_base.specs.Classes.{is_blank, is_breakz}
use Rattle.granit_base.specs.Place.{Mark}
use Rattle.granit_base.specs.Written.{Written}
use Rattle.granit_base.specs.declared.style.ScalarStyle.TheVariants.{Plain}
use Rattle.granit_error.specs.OptionsData.{OptionsData}
use Rattle.granit_lexemes.specs.BlockExtent.{AnswersBlock}
use Rattle.granit_lexemes.specs.BlockScalar.{BlockGiven}
use Rattle.granit_lexemes.specs.Comment.{CommentRead, StandsComment}
use Rattle.granit_lexemes.specs.Directive.{DirectiveRead}
use Rattle.granit_lexemes.specs.DirectiveExtent.{AnswersDirective}
use Rattle.granit_lexemes.specs.HeaderExtent.{LexemeTail}
use Rattle.granit_lexemes.specs.Here.{Here, next_char, mark_of, step}
use Rattle.granit_lexemes.specs.LayoutData.{LayoutData}
use Rattle.granit_lexemes.specs.Lexeme.{LexemeKind, Directive, DocumentStart, DocumentEnd, StreamEnd, Open, Close}
use Rattle.granit_lexemes.specs.Lexeme.{Comma, Dash, Question, Colon, Alias, Anchor, Tag, Scalar, KeyStart, Lexeme}
use Rattle.granit_lexemes.specs.Lexeme.{Item, OfLexeme}
use Rattle.granit_lexemes.specs.declared.layout.Bracket.{Bracket}
use Rattle.granit_lexemes.specs.Moves.{steps}
use Rattle.granit_lexemes.specs.NameExtent.{AnswersName}
use Rattle.granit_lexemes.specs.PlainExtent.{AnswersPlain}
use Rattle.granit_lexemes.specs.PlainScalar.{PlainRead}
use Rattle.granit_lexemes.specs.QuotedExtent.{AnswersQuoted}
use Rattle.granit_lexemes.specs.QuotedScalar.{QuotedRead, quoted_style}
use Rattle.granit_lexemes.specs.TagExtent.{AnswersTag}
use Rattle.granit_lexemes.specs.Tags.{TagRead}
use Rattle.granit_machine.specs.Gaps.{over_break_if, behind_note, behind_gap}
use Rattle.granit_machine.specs.IndicatorLexemes.{behind_question}
use Rattle.granit_machine.specs.Columns.{entered}
use Rattle.granit_machine.specs.Laid.{Laid, behind_lexeme, is_nonempty, is_in_flow, block_column}
use Rattle.granit_lexemes.specs.declared.layout.LastLexeme.TheVariants.{Adjacent}
use Rattle.granit_lexemes.specs.declared.layout.PossibleKey.{PossibleKey}
use Rattle.granit_lexemes.specs.declared.layout.OpenBracket.{OpenBracket}
use Rattle.granit_machine.specs.LexemeSort.{PlacedSort, OpenSign, CloseSign, CommaSign, DashSign, QuestionSign}
use Rattle.granit_machine.specs.LexemeSort.{ColonSign, AliasSign, AnchorSign, TagSign, BlockSign, QuoteSign, PlainSign}
use Rattle.granit_machine.specs.LexemeSort.{LexemeSort, TextEnd, StartMark, EndMark, DirectiveSign, Placed}
use Rattle.granit_machine.specs.NodeLexemes.{block_shown, note_items, adjacent_unless}
use Rattle.granit_machine.specs.PossibleKeys.{top_key, start_of_key}
use Rattle.granit_machine.specs.ReaderState.{ReaderState, lexeme_to, sign_lexeme, with_tail}
use Rattle.granit_language.specs.Allowed.{EntryMayBegin, RoomFor, EntryFits, FarBelow, DashBehindTab, NulBehind}
use Rattle.granit_language.specs.Allowed.{OpenerBehind, TabsFit, CutFits, MayPrefix, LayoutIs}
use Rattle.granit_language.specs.Before.{behind}
use Rattle.granit_language.specs.Stretch.{GapHere, TailIf}

-- ---- gaps (6.1, 6.6)

-- A gap and a comment with its break, or a gap in front of what may be a lexeme. Behind a gap that holds a character,
-- or a comment, no value stands at once behind a quoted scalar or a closer.
pub data GapStands (o : OptionsData) (h : Here) (l : Laid) : Option CommentRead → ReaderState → Type 0 where
  in_front_of_comment : {comment : CommentRead} (at end : Here) → GapHere (MayPrefix l) h at
      → StandsComment at comment end
      → GapStands o h l (Some comment) (record { here = over_break_if end; laid = behind_note l })
  in_front_of_lexeme : (at : Here) (gap : GapHere (MayPrefix l) h at) → (next_char at == 0x23) ≡ false
      → TabsFit o l at → CutFits l at
      → GapStands o h l None (record { here = at; laid = behind_gap (is_nonempty gap.gap) l })

-- ---- lexemes that end at a place

-- with a tail
pub record Tailed (ends : Bool) (h : Here) (l : Laid) (kind : LexemeKind) (end : Here) (x : Lexeme)
    (after : Here) : Type 0 where
  pub tail : Option CommentRead
  pub tailed : LexemeTail end tail after
  pub is : x ≡ with_tail (lexeme_to ends kind (mark_of end) h l) tail

-- without one
pub record Untailed (ends : Bool) (h : Here) (l : Laid) (kind : LexemeKind) (end : Here) (x : Lexeme)
    (after : Here) : Type 0 where
  pub is : x ≡ lexeme_to ends kind (mark_of end) h l
  pub reaches : after ≡ end

-- no key that must have a `:` goes without one (8.2.2)
abbrev pub NoneRequired : Laid → Type 0
NoneRequired l = (k : PossibleKey) → top_key l ≡ Some k → k.is_required ≡ false

-- ---- directives (6.8)

pub record DirectiveLexeme (o : OptionsData) (ends : Bool) (h : Here) (l : Laid) (x : Lexeme)
    (after : Here) : Type 0 where
  pub read : DirectiveRead
  pub end : Here
  pub answers : AnswersDirective o h read end
  pub is : x ≡ with_tail (lexeme_to ends (Directive read.kind) read.source.end h l) read.noted
  pub reaches : after ≡ over_break_if end

-- ---- indicators (7.4.2, 8.2)

-- a `-`, behind whose tail no `-` stands behind a tab
pub record DashLexeme (o : OptionsData) (ends : Bool) (h : Here) (l : Laid) (x : Lexeme)
    (after : Here) : Type 0 where
  pub entry : EntryFits o h l
  pub tail : Option CommentRead
  pub tailed : LexemeTail (step h) tail after
  pub no_tab : DashBehindTab after → ⊥
  pub is : x ≡ record (with_tail (sign_lexeme ends Dash h l) tail) { end = mark_of after }

-- behind the blanks and breaks behind a `?`: a comment, or what the key may begin at
pub data QuestionTail (o : OptionsData) (l : Laid) (at : Here) : Option CommentRead → Here → Type 0 where
  a_comment : {comment : CommentRead} {after : Here} → StandsComment at comment after
      → QuestionTail o l at (Some comment) after
  no_comment : (next_char at == 0x23) ≡ false → TabsFit o l at → QuestionTail o l at None at

pub record QuestionLexeme (o : OptionsData) (ends : Bool) (h : Here) (l : Laid) (x : Lexeme)
    (after : Here) : Type 0 where
  pub entry : EntryFits o h l
  pub no_nul : NulBehind h → ⊥
  pub at : Here
  pub gap : GapHere ⊥ (step h) at
  pub tail : Option CommentRead
  pub tailed : QuestionTail o (behind_question (entered h.place.column l)) at tail after
  pub is : x ≡ with_tail (sign_lexeme ends Question h l) tail

abbrev pub QuestionStands : OptionsData → (ends : Bool) → Here → Laid → Lexeme → Here → (in_flow : Bool) → Type 0
QuestionStands o ends h l x after true = Untailed ends h l Question (step h) x after
QuestionStands o ends h l x after false = QuestionLexeme o ends h l x after

-- a `:` with its key, and one without
abbrev pub ColonFits : OptionsData → (in_flow : Bool) → Option PossibleKey → Here → Laid → Type 0
ColonFits o true (Some k) h l = FarBelow h l k → ⊥
ColonFits o true None h l = Unit {0}
ColonFits o false (Some k) h l = (FarBelow h l k → ⊥) × RoomFor o k.start.place.column l
ColonFits o false None h l = EntryMayBegin h l × RoomFor o h.place.column l

abbrev pub key_start : Option PossibleKey → Option KeyStart
key_start None = None
key_start (Some k) = Some (start_of_key k)

-- a `:` touches no opener, but behind a quoted scalar or a closer
abbrev pub ColonApart : Here → Laid → Type 0
ColonApart h l = l.last ≢ Adjacent → OpenerBehind h → ⊥

-- a `:`, with a tail where a blank follows it
pub record ColonLexeme (o : OptionsData) (ends : Bool) (h : Here) (l : Laid) (x : Lexeme)
    (after : Here) : Type 0 where
  pub apart : ColonApart h l
  pub tail : Option CommentRead
  pub tailed : TailIf (is_blank (next_char (step h))) (step h) tail after
  pub fits : ColonFits o (is_in_flow l) (top_key l) h l
  pub is : x ≡ record (sign_lexeme ends Colon h l) { key = key_start (top_key l); tail = tail }

-- ---- names, tags and scalars (6.9, 7.1, 7.3, 8.1)

pub record NameLexeme (ends : Bool) (h : Here) (l : Laid) (kind : Written → LexemeKind) (x : Lexeme)
    (after : Here) : Type 0 where
  pub name : Written
  pub answers : AnswersName h name after
  pub is : x ≡ lexeme_to ends (kind name) (mark_of after) h l

pub record TagLexeme (ends : Bool) (h : Here) (l : Laid) (x : Lexeme) (after : Here) : Type 0 where
  pub read : TagRead
  pub answers : AnswersTag (is_in_flow l) h read after
  pub is : x ≡ lexeme_to ends (Tag read.handle read.suffix) (mark_of after) h l

pub record BlockLexeme (literal ends : Bool) (h : Here) (l : Laid) (x : Lexeme) (after : Here) : Type 0 where
  pub given : BlockGiven
  pub answers : AnswersBlock literal (block_column l) h given after
  pub is : x ≡ block_shown literal ends given after h l

pub record PlainLexeme (o : OptionsData) (ends : Bool) (h : Here) (l : Laid) (x : Lexeme) (cut : Option Mark)
    (after : Here) : Type 0 where
  pub read : PlainRead
  pub layout : LayoutData
  pub told : LayoutIs o h.place.column l layout
  pub answers : AnswersPlain layout h read after
  pub is : x ≡ lexeme_to ends (Scalar Plain read.text) read.source.end h l
  pub cuts : cut ≡ read.cut_by_comment

abbrev pub quoted_lexeme_of : (single ends : Bool) → Here → Laid → QuotedRead → Lexeme
quoted_lexeme_of single ends h l read =
    with_tail (lexeme_to ends (Scalar (quoted_style single) read.text) read.source.end h l) read.comment

-- a quoted scalar, and the gap behind it with its comment, which are read together
pub record QuotedLexeme (o : OptionsData) (single ends : Bool) (h : Here) (l : Laid) (items : List Item)
    (after : ReaderState) : Type 0 where
  pub read : QuotedRead
  pub end : Here
  pub note : Option CommentRead
  pub at : ReaderState
  pub layout : LayoutData
  pub told : LayoutIs o h.place.column l layout
  pub answers : AnswersQuoted single layout h read end
  pub gap : GapStands o end (behind_lexeme Adjacent l) note at
  pub gives : items ≡ OfLexeme (quoted_lexeme_of single ends h l read) ∷ note_items note
  pub leaves : after ≡ record { here = at.here; laid = record (at.laid) { last = adjacent_unless note } }

-- ---- a lexeme of a sort

abbrev pub ClosesInnermost : Bracket → List OpenBracket → Type 0
ClosesInnermost bracket [] = ⊥
ClosesInnermost bracket (b ∷ bs) = b.bracket ≡ bracket

abbrev pub SortStands : OptionsData → (ends : Bool) → PlacedSort → Here → Laid → Lexeme → (after : Here) → Type 0
SortStands o ends (OpenSign bracket) h l x after =
    Tailed ends h l (Open bracket) (step h) x after × (length l.brackets < o.flow_nesting_limit)
SortStands o ends (CloseSign bracket) h l x after =
    Tailed ends h l (Close bracket) (step h) x after × ClosesInnermost bracket l.brackets
SortStands o ends CommaSign h l x after = Tailed ends h l Comma (step h) x after × NoneRequired l
SortStands o ends DashSign h l x after = DashLexeme o ends h l x after
SortStands o ends QuestionSign h l x after = QuestionStands o ends h l x after (is_in_flow l)
SortStands o ends ColonSign h l x after = ColonLexeme o ends h l x after
SortStands o ends AliasSign h l x after = NameLexeme ends h l (λ name. Alias name) x after
SortStands o ends AnchorSign h l x after = NameLexeme ends h l (λ name. Anchor name) x after
SortStands o ends TagSign h l x after = TagLexeme ends h l x after
SortStands o ends (BlockSign literal) h l x after = BlockLexeme literal ends h l x after
SortStands o ends sort h l x after = ⊥

abbrev pub StreamStands : OptionsData → (ends : Bool) → LexemeSort → Here → Laid → Lexeme → (after : Here) → Type 0
StreamStands o ends TextEnd h l x after = Untailed ends h l StreamEnd h x after × (l.brackets ≡ []) × NoneRequired l
StreamStands o ends StartMark h l x after = Untailed ends h l DocumentStart (steps 3 h) x after × (l.brackets ≡ [])
StreamStands o ends EndMark h l x after =
    Tailed ends h l DocumentEnd (steps 3 h) x after × (is_breakz (next_char after) ≡ true) × (l.brackets ≡ [])
StreamStands o ends DirectiveSign h l x after = DirectiveLexeme o ends h l x after
StreamStands o ends sort h l x after = ⊥

-- a lexeme whose read is of itself alone, and what it leaves
abbrev pub GivenAlone : OptionsData → (ends : Bool) → LexemeSort → Here → Laid → Lexeme → ReaderState → Type 0
GivenAlone o ends (Placed PlainSign) h l x after =
    (cut : Option Mark) × PlainLexeme o ends h l x cut after.here
    × (after.laid ≡ behind o (Placed PlainSign) x cut after.here h l)
GivenAlone o ends (Placed sort) h l x after =
    SortStands o ends sort h l x after.here × (after.laid ≡ behind o (Placed sort) x None after.here h l)
GivenAlone o ends sort h l x after =
    StreamStands o ends sort h l x after.here × (after.laid ≡ behind o sort x None after.here h l)

abbrev pub GivenOne : OptionsData → (ends : Bool) → LexemeSort → Here → Laid → List Item → ReaderState → Type 0
GivenOne o ends sort h l (OfLexeme x ∷ []) after = GivenAlone o ends sort h l x after
GivenOne o ends sort h l items after = ⊥

-- what one read of a lexeme of a sort gives
abbrev pub Given : OptionsData → (ends : Bool) → LexemeSort → Here → Laid → List Item → ReaderState → Type 0
Given o ends (Placed (QuoteSign single)) h l items after = QuotedLexeme o single ends h l items after
Given o ends sort h l items after = GivenOne o ends sort h l items after
