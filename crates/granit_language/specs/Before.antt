-- What the lexemes before a place say of it, as a fold over them, in the record that the machine's reader carries.
use Rattle.std.specs.Prelude.{Bool, true, false, if◌then◌else◌, drop, Option, Some, None}
use Rattle.granit_base.specs.Place.{Mark}
use Rattle.granit_error.specs.OptionsData.{OptionsData}
use Rattle.granit_lexemes.specs.Here.{Here, mark_of}
use Rattle.granit_lexemes.specs.Lexeme.{Lexeme}
use Rattle.granit_machine.specs.Columns.{entered, pair_entered, closed_at, closed_all}
use Rattle.granit_machine.specs.FlowLexemes.{opened, closed_bracket, last_of_comma}
use Rattle.granit_machine.specs.IndicatorLexemes.{widened_if, is_before_break, behind_question}
use Rattle.granit_machine.specs.Laid.{Laid, behind_lexeme, is_in_flow}
use Rattle.granit_lexemes.specs.declared.layout.LastLexeme.{LastLexeme}
use Rattle.granit_lexemes.specs.declared.layout.LastLexeme.TheVariants.{Opener, BehindDash, BehindQuestion}
use Rattle.granit_lexemes.specs.declared.layout.LastLexeme.TheVariants.{BehindBareColon, Adjacent, Another}
use Rattle.granit_lexemes.specs.declared.layout.PossibleKey.{PossibleKey}
use Rattle.granit_machine.specs.LexemeSort.{PlacedSort, OpenSign, CloseSign, CommaSign, DashSign, QuestionSign}
use Rattle.granit_machine.specs.LexemeSort.{ColonSign, AliasSign, AnchorSign, TagSign, BlockSign, QuoteSign, PlainSign}
use Rattle.granit_machine.specs.LexemeSort.{LexemeSort, TextEnd, StartMark, EndMark, Unprintable, DirectiveSign, Placed}
use Rattle.granit_machine.specs.NodeLexemes.{last_of_property, unrolled}
use Rattle.granit_machine.specs.PossibleKeys.{top_key, forgets_key, fresh}
use Rattle.granit_machine.specs.Reader.{noded}
use Rattle.granit_machine.specs.ReaderState.{ReaderState, behind_tail}
use Rattle.granit_machine.specs.StreamLexemes.{behind_end, behind_end_mark, behind_directive}

-- ---- in front of a lexeme

-- without the keys that no `:` can have from here on (7.4.2)
abbrev pub freshened : OptionsData → ReaderState → ReaderState
freshened o s = record s { laid = fresh o (mark_of s.here) s.laid }

-- without the columns that a lexeme of a sort ends (8.1, 9.1)
abbrev pub closed_for : LexemeSort → Here → Laid → Laid
closed_for TextEnd h l = l
closed_for Unprintable h l = l
closed_for StartMark h l = closed_all l
closed_for EndMark h l = closed_all l
closed_for DirectiveSign h l = closed_all l
closed_for (Placed sort) h l = closed_at h.place.column l

-- with the run that a lexeme of a node begins or goes on with (7.4.2, 8.2.2)
abbrev pub with_run : PlacedSort → Here → Laid → Laid
with_run (OpenSign bracket) h l = noded false h l
with_run AliasSign h l = noded false h l
with_run AnchorSign h l = noded true h l
with_run TagSign h l = noded true h l
with_run (BlockSign literal) h l = noded false h l
with_run (QuoteSign single) h l = noded false h l
with_run PlainSign h l = noded false h l
with_run sort h l = l

abbrev pub run_for : LexemeSort → Here → Laid → Laid
run_for (Placed sort) h l = with_run sort h l
run_for sort h l = l

-- what the lexemes before a lexeme of a sort say in front of it
abbrev pub in_front : LexemeSort → Here → Laid → Laid
in_front sort h l = run_for sort h (closed_for sort h l)

-- ---- behind a lexeme

-- an entry of a block mapping stands in the column of its key, or in that of a `:` without one
abbrev pub behind_colon : (in_flow : Bool) → Option PossibleKey → Here → Laid → Laid
behind_colon true (Some k) h l = forgets_key l
behind_colon true None h l = l
behind_colon false (Some k) h l = forgets_key (pair_entered k.start.place.column l)
behind_colon false None h l = pair_entered h.place.column l

abbrev pub behind_question_sign : (in_flow : Bool) → Here → Laid → Laid
behind_question_sign true h l = forgets_key l
behind_question_sign false h l = behind_question (entered h.place.column l)

-- what a lexeme of a sort leaves, where reading goes on at a place behind it
abbrev pub left : PlacedSort → (cut : Option Mark) → (after h : Here) → Laid → Laid
left (OpenSign bracket) cut after h l = opened bracket (mark_of h) l
left (CloseSign bracket) cut after h l = closed_bracket (drop 1 l.brackets) l
left CommaSign cut after h l = forgets_key l
left DashSign cut after h l = forgets_key (widened_if (is_before_break after) (entered h.place.column l))
left QuestionSign cut after h l = behind_question_sign (is_in_flow l) h l
left ColonSign cut after h l = behind_colon (is_in_flow l) (top_key l) h l
left (BlockSign literal) cut after h l = unrolled l
left PlainSign cut after h l = record l { rolled = false; cut = cut }
left sort cut after h l = l

abbrev pub last_of_colon : (in_flow : Bool) → Option PossibleKey → LastLexeme
last_of_colon false None = BehindBareColon
last_of_colon in_flow key = Another

-- what it lets the next be
abbrev pub last_by : OptionsData → PlacedSort → Lexeme → Laid → LastLexeme
last_by o (OpenSign bracket) x l = Opener
last_by o (CloseSign bracket) x l = behind_tail Adjacent x.tail
last_by o CommaSign x l = last_of_comma l
last_by o DashSign x l = BehindDash
last_by o QuestionSign x l = if is_in_flow l then Another else BehindQuestion
last_by o ColonSign x l = last_of_colon (is_in_flow l) (top_key l)
last_by o AnchorSign x l = last_of_property o l
last_by o TagSign x l = last_of_property o l
last_by o (QuoteSign single) x l = Adjacent
last_by o sort x l = Another

-- behind a lexeme of a sort
abbrev pub behind : OptionsData → LexemeSort → Lexeme → (cut : Option Mark) → (after h : Here) → Laid → Laid
behind o TextEnd x cut after h l = behind_end (forgets_key l)
behind o StartMark x cut after h l = behind_lexeme Another (forgets_key l)
behind o EndMark x cut after h l = behind_end_mark l
behind o DirectiveSign x cut after h l = behind_directive l
behind o Unprintable x cut after h l = l
behind o (Placed sort) x cut after h l = behind_lexeme (last_by o sort x l) (left sort cut after h l)
