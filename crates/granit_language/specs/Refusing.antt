-- Why what stands at a place is refused, kind by kind. A cause says what holds up to it, so that no two hold at once.
use Rattle.std.specs.Prelude.{◌≡◌, ◌≢◌, ◌≤◌, ◌<◌, ◌==◌, Bool, true, false, List, [], ◌∷◌, length, Option, Some, None}
use Rattle.granit_base.specs.Classes.{is_blank, is_breakz}
use Rattle.granit_base.specs.Place.{Mark}
use Rattle.granit_error.specs.FaultKind.{FaultKind, UnclosedFlowCollection, MismatchedFlowCollectionEnd}
use Rattle.granit_error.specs.FaultKind.{MisplacedFlowCollectionEnd, RecursionLimitExceeded, BlockEntryInFlowCollection}
use Rattle.granit_error.specs.FaultKind.{FlowMappingValueAdjacentCollection, InvalidColonPlacement, InvalidDocumentEnd}
use Rattle.granit_error.specs.FaultKind.{SimpleKeyExpected, BlockSequenceEntryNotAllowed, MappingKeyNotAllowed}
use Rattle.granit_error.specs.FaultKind.{MappingValueNotAllowed, InvalidBlockEntryWhitespace, ExpectedWhitespace}
use Rattle.granit_error.specs.FaultKind.{TabInBlockIndentation, TabNotAllowed, CommentInterceptedScalar}
use Rattle.granit_error.specs.FaultKind.{UnexpectedCharacter, BomInsideDocument, InvalidIndentation}
use Rattle.granit_error.specs.OptionsData.{OptionsData}
use Rattle.granit_lexemes.specs.BlockExtent.{RefusesBlock}
use Rattle.granit_lexemes.specs.Comment.{CommentRead, Spoils}
use Rattle.granit_lexemes.specs.HeaderExtent.{LexemeTail}
use Rattle.granit_lexemes.specs.Here.{Here, next_char, mark_of, step}
use Rattle.granit_lexemes.specs.LayoutData.{LayoutData}
use Rattle.granit_lexemes.specs.Lexeme.{opener_char, closer_char}
use Rattle.granit_lexemes.specs.declared.layout.Bracket.{Bracket}
use Rattle.granit_lexemes.specs.Moves.{steps}
use Rattle.granit_lexemes.specs.NameExtent.{RefusesName}
use Rattle.granit_lexemes.specs.PlainExtent.{RefusesPlain}
use Rattle.granit_lexemes.specs.QuotedExtent.{AnswersQuoted, RefusesQuoted}
use Rattle.granit_lexemes.specs.QuotedScalar.{QuotedRead}
use Rattle.granit_lexemes.specs.TagExtent.{RefusesTag}
use Rattle.granit_machine.specs.Columns.{entered}
use Rattle.granit_machine.specs.IndicatorLexemes.{behind_question}
use Rattle.granit_machine.specs.Laid.{Laid, behind_lexeme, is_in_flow, block_column}
use Rattle.granit_lexemes.specs.declared.layout.LastLexeme.TheVariants.{Adjacent}
use Rattle.granit_lexemes.specs.declared.layout.PossibleKey.{PossibleKey}
use Rattle.granit_lexemes.specs.declared.layout.OpenBracket.{OpenBracket}
use Rattle.granit_machine.specs.LexemeSort.{PlacedSort, OpenSign, CloseSign, CommaSign, DashSign, QuestionSign}
use Rattle.granit_machine.specs.LexemeSort.{ColonSign, AliasSign, AnchorSign, TagSign, BlockSign, QuoteSign, StrayMark}
use Rattle.granit_machine.specs.LexemeSort.{NoSign, PlainSign, LexemeSort, TextEnd, StartMark, EndMark, Unprintable}
use Rattle.granit_machine.specs.LexemeSort.{DirectiveSign, Placed}
use Rattle.granit_machine.specs.PossibleKeys.{top_key}
use Rattle.granit_lexemes.specs.DirectiveCause.{DirectiveCause}
use Rattle.granit_language.specs.Allowed.{InFlow, OutsideFlow, EntryMayBegin, TooMany, EntryFits, FarBelow}
use Rattle.granit_language.specs.Allowed.{DashBehindTab, NulBehind, OpenerBehind, GoesOnBehind, TabBegins, LeftOfKey}
use Rattle.granit_language.specs.Allowed.{InBlock, TabsFit, LeftInside, MayPrefix, LayoutIs}
use Rattle.granit_language.specs.Standing.{NoneRequired, ColonApart, ClosesInnermost}
use Rattle.granit_language.specs.Stretch.{GapHere, WrongTail, TailIf}

-- ---- tabs and gaps (6.1, 6.6)

-- a tab that begins the line of a place with something on it
pub data WrongTab (o : OptionsData) (l : Laid) (at : Here) : FaultKind → Mark → Type 0 where
  -- behind `?`, left of where a node may stand
  left_of_key : {tab : Mark} → TabBegins at tab → LeftOfKey l tab → WrongTab o l at TabNotAllowed tab
  -- left of its block, or in the innermost column where none may stand there
  in_indentation : {tab : Mark} → TabBegins at tab → (LeftOfKey l tab → ⊥) → InBlock o l tab
      → WrongTab o l at TabInBlockIndentation (mark_of at)

pub data WrongGap (o : OptionsData) (l : Laid) (at : Here) : FaultKind → Mark → Type 0 where
  spoiled : {kind : FaultKind} {m : Mark} → Spoils at kind m → WrongGap o l at kind m
  tab : {kind : FaultKind} {m : Mark} → (next_char at == 0x23) ≡ false → WrongTab o l at kind m
      → WrongGap o l at kind m
  -- a comment behind a plain scalar, and on the next line what would go on with it
  cut : {m : Mark} → (next_char at == 0x23) ≡ false → TabsFit o l at → l.cut ≡ Some m → GoesOnBehind l at m
      → WrongGap o l at CommentInterceptedScalar m

-- a gap that goes as far as a place where something of it is wrong
pub record GapRefused (o : OptionsData) (h : Here) (l : Laid) (kind : FaultKind) (m : Mark) : Type 0 where
  pub at : Here
  pub gap : GapHere (MayPrefix l) h at
  pub wrong : WrongGap o l at kind m

-- ---- lexemes that stand in a column

-- a key that must have a `:` and has none (8.2.2)
pub record KeyWaits (l : Laid) (m : Mark) : Type 0 where
  pub key : PossibleKey
  pub is_top : top_key l ≡ Some key
  pub required : key.is_required ≡ true
  pub marks : m ≡ key.start

-- what holds before the tail behind a sign matters (7.4, 8.2)
pub data ReachesTail (o : OptionsData) (h : Here) (l : Laid) : PlacedSort → Type 0 where
  tail_of_open : {bracket : Bracket} → length l.brackets < o.flow_nesting_limit → ReachesTail o h l (OpenSign bracket)
  tail_of_close : {bracket : Bracket} → ClosesInnermost bracket l.brackets → ReachesTail o h l (CloseSign bracket)
  tail_of_comma : NoneRequired l → ReachesTail o h l CommaSign
  tail_of_dash : EntryFits o h l → ReachesTail o h l DashSign
  tail_of_colon : ColonApart h l → is_blank (next_char (step h)) ≡ true → ReachesTail o h l ColonSign

-- a `:` behind which its tail ends
pub record ColonTailed (h : Here) (l : Laid) : Type 0 where
  pub apart : ColonApart h l
  pub tail : Option CommentRead
  pub after : Here
  pub tailed : TailIf (is_blank (next_char (step h))) (step h) tail after

-- the blanks and breaks behind a `?` end here
pub record QuestionGap (o : OptionsData) (h : Here) (l : Laid) (at : Here) : Type 0 where
  pub entry : EntryFits o h l
  pub no_nul : NulBehind h → ⊥
  pub gap : GapHere ⊥ (step h) at

pub data Refuses (o : OptionsData) (h : Here) (l : Laid) : PlacedSort → FaultKind → Mark → Type 0 where
  tail : {sort : PlacedSort} {kind : FaultKind} {m : Mark} → ReachesTail o h l sort → WrongTail (step h) kind m
      → Refuses o h l sort kind m
  -- the other kind of closer, or none to close (7.4)
  mismatched : {bracket : Bracket} {b : OpenBracket} {bs : List OpenBracket} → l.brackets ≡ b ∷ bs
      → b.bracket ≢ bracket → Refuses o h l (CloseSign bracket)
      (MismatchedFlowCollectionEnd (opener_char b.bracket) (closer_char bracket)) b.mark
  misplaced : {bracket : Bracket} → l.brackets ≡ []
      → Refuses o h l (CloseSign bracket) MisplacedFlowCollectionEnd (mark_of h)
  -- as many collections are open as may be
  flow_deep : {bracket : Bracket} → o.flow_nesting_limit ≤ length l.brackets
      → Refuses o h l (OpenSign bracket) RecursionLimitExceeded (mark_of h)
  dash_deep : OutsideFlow l → EntryMayBegin h l → TooMany o h.place.column l
      → Refuses o h l DashSign RecursionLimitExceeded (mark_of h)
  question_deep : OutsideFlow l → EntryMayBegin h l → TooMany o h.place.column l
      → Refuses o h l QuestionSign RecursionLimitExceeded (mark_of h)
  colon_deep : ColonTailed h l → top_key l ≡ None → OutsideFlow l → EntryMayBegin h l → TooMany o h.place.column l
      → Refuses o h l ColonSign RecursionLimitExceeded (mark_of h)
  key_deep : {k : PossibleKey} → ColonTailed h l → top_key l ≡ Some k → (FarBelow h l k → ⊥) → OutsideFlow l
      → TooMany o k.start.place.column l → Refuses o h l ColonSign RecursionLimitExceeded k.start
  -- a key without its `:` before a `,`
  comma_waits : {m : Mark} → KeyWaits l m → Refuses o h l CommaSign SimpleKeyExpected m
  -- a `-` in flow (8.2.1), where no entry may begin, and with a `-` behind a tab behind it
  dash_in_flow : InFlow l → Refuses o h l DashSign BlockEntryInFlowCollection (mark_of h)
  dash_here : OutsideFlow l → (EntryMayBegin h l → ⊥) → Refuses o h l DashSign BlockSequenceEntryNotAllowed (mark_of h)
  dash_behind_tab : EntryFits o h l → (held : Option CommentRead) (after : Here) → LexemeTail (step h) held after
      → DashBehindTab after → Refuses o h l DashSign InvalidBlockEntryWhitespace (mark_of after)
  -- a `?` where no entry may begin (8.2.2), with a NUL behind it, and with a wrong gap
  question_here : OutsideFlow l → (EntryMayBegin h l → ⊥) → Refuses o h l QuestionSign MappingKeyNotAllowed (mark_of h)
  nul : EntryFits o h l → NulBehind h → Refuses o h l QuestionSign ExpectedWhitespace (mark_of (step h))
  question_spoiled : {kind : FaultKind} {m : Mark} (at : Here) → QuestionGap o h l at → Spoils at kind m
      → Refuses o h l QuestionSign kind m
  question_tab : {kind : FaultKind} {m : Mark} (at : Here) → QuestionGap o h l at → (next_char at == 0x23) ≡ false
      → WrongTab o (behind_question (entered h.place.column l)) at kind m → Refuses o h l QuestionSign kind m
  -- a `:` directly before an opener, far below its key, and without a key where no entry may begin (7.4.2, 8.2.2)
  colon_touches : l.last ≢ Adjacent → OpenerBehind h
      → Refuses o h l ColonSign FlowMappingValueAdjacentCollection (mark_of h)
  far_below : {k : PossibleKey} → ColonTailed h l → top_key l ≡ Some k → FarBelow h l k
      → Refuses o h l ColonSign InvalidColonPlacement (mark_of h)
  colon_here : ColonTailed h l → top_key l ≡ None → OutsideFlow l → (EntryMayBegin h l → ⊥)
      → Refuses o h l ColonSign MappingValueNotAllowed (mark_of h)
  -- names, plain and block scalars (6.9, 7.1, 7.3.3, 8.1)
  in_alias : {kind : FaultKind} {m : Mark} → RefusesName h kind m → Refuses o h l AliasSign kind m
  in_anchor : {kind : FaultKind} {m : Mark} → RefusesName h kind m → Refuses o h l AnchorSign kind m
  in_block : {literal : Bool} {kind : FaultKind} {m : Mark} → RefusesBlock literal (block_column l) h kind m
      → Refuses o h l (BlockSign literal) kind m
  in_plain : {kind : FaultKind} {m : Mark} (layout : LayoutData) → LayoutIs o h.place.column l layout
      → RefusesPlain layout h kind m → Refuses o h l PlainSign kind m
  -- in the gap that the read of a quoted scalar includes
  quoted_gap : {single : Bool} {kind : FaultKind} {m : Mark} (layout : LayoutData) → LayoutIs o h.place.column l layout
      → (read : QuotedRead) (end : Here) → AnswersQuoted single layout h read end
      → GapRefused o end (behind_lexeme Adjacent l) kind m → Refuses o h l (QuoteSign single) kind m
  -- characters that begin nothing (5.2, 5.3)
  nothing : Refuses o h l NoSign (UnexpectedCharacter (next_char h)) (mark_of h)
  stray : Refuses o h l StrayMark BomInsideDocument (mark_of h)

-- what is wrong inside a tag or a quoted scalar (6.9.1, 7.3.1, 7.3.2)
pub data Misspells (o : OptionsData) (h : Here) (l : Laid) : PlacedSort → FaultKind → Mark → Type 0 where
  in_tag : {kind : FaultKind} {m : Mark} → RefusesTag (is_in_flow l) h kind m → Misspells o h l TagSign kind m
  in_quoted : {single : Bool} {kind : FaultKind} {m : Mark} (layout : LayoutData) → LayoutIs o h.place.column l layout
      → RefusesQuoted single layout h kind m → Misspells o h l (QuoteSign single) kind m

-- ---- the end, document marks, directives and what isn't printable

-- the end, or a document mark
pub data IsOuter : LexemeSort → Type 0 where
  end_is : IsOuter TextEnd
  start_mark_is : IsOuter StartMark
  end_mark_is : IsOuter EndMark

pub data RefusesSort (o : OptionsData) (h : Here) (l : Laid) : LexemeSort → FaultKind → Mark → Type 0 where
  -- in flow, where lines are indented too, left of where a node may stand (6.1)
  left_of_block : {sort : PlacedSort} → LeftInside o h l
      → RefusesSort o h l (Placed sort) InvalidIndentation (mark_of h)
  placed : {sort : PlacedSort} {kind : FaultKind} {m : Mark} → (LeftInside o h l → ⊥) → Refuses o h l sort kind m
      → RefusesSort o h l (Placed sort) kind m
  -- the innermost open bracket meets the end or a document mark (7.4, 9.1)
  unclosed : {sort : LexemeSort} {b : OpenBracket} {bs : List OpenBracket} → IsOuter sort → l.brackets ≡ b ∷ bs
      → RefusesSort o h l sort (UnclosedFlowCollection (opener_char b.bracket)) b.mark
  -- a key without its `:` before the end
  end_waits : {m : Mark} → OutsideFlow l → KeyWaits l m → RefusesSort o h l TextEnd SimpleKeyExpected m
  -- behind `...` a wrong tail, or something else (9.1.2)
  dots_tail : {kind : FaultKind} {m : Mark} → OutsideFlow l → WrongTail (steps 3 h) kind m
      → RefusesSort o h l EndMark kind m
  behind_dots : OutsideFlow l → (held : Option CommentRead) (after : Here) → LexemeTail (steps 3 h) held after
      → is_breakz (next_char after) ≡ false → RefusesSort o h l EndMark InvalidDocumentEnd (mark_of after)
  -- a character that isn't printable (5.1)
  unprintable : RefusesSort o h l Unprintable (UnexpectedCharacter (next_char h)) (mark_of h)

-- the same of such a lexeme, or of a directive (6.8)
pub data MisspellsSort (o : OptionsData) (h : Here) (l : Laid) : LexemeSort → FaultKind → Mark → Type 0 where
  of_sign : {sort : PlacedSort} {kind : FaultKind} {m : Mark} → (LeftInside o h l → ⊥) → Misspells o h l sort kind m
      → MisspellsSort o h l (Placed sort) kind m
  in_directive : {kind : FaultKind} {m : Mark} → DirectiveCause o h kind m → MisspellsSort o h l DirectiveSign kind m
