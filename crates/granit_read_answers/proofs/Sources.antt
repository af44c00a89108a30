-- No fault of the plain machine names a source: the reader's.
use Rattle.std.proofs.Common.{◌≡◌, ℕ, ◌==◌, ◌&&◌, not, Bool, true, false, List, [], ◌∷◌, length, Option, Some, None}
use Rattle.std.proofs.Common.{Result, Ok, Err, refl, subst}
use Rattle.std.specs.Prelude.{if◌then◌else◌, nat_le, nat_lt, slice_index}
use Rattle.granit_base.specs.Classes.{is_gap, is_blank, is_breakz}
use Rattle.granit_base.specs.Place.{Mark}
use Rattle.granit_error.specs.OptionsData.{OptionsData}
use Rattle.granit_lexemes.specs.Comment.{CommentRead}
use Rattle.granit_lexemes.specs.Here.{Here, next_char, mark_of, step, past}
use Rattle.granit_lexemes.specs.LayoutData.{is_left}
use Rattle.granit_lexemes.specs.Lexeme.{Lexeme, Item}
use Rattle.granit_lexemes.specs.Moves.{steps}
use Rattle.granit_lexemes.specs.Outcome.{Fault}
use Rattle.granit_lexemes.specs.Tail.{tail_at}
use Rattle.granit_scalars.proofs.Nameless.{IsNameless, ok_none, err_none, then_none, if_none, comment_none, plain_none}
use Rattle.granit_scalars.proofs.Nameless.{quoted_none}
use Rattle.granit_scalars.proofs.Turning.{Carries, pieces_hold}
use Rattle.granit_reading.proofs.Gapping.{TailReads, tail_reads}
use Rattle.granit_reading.proofs.Lexemes.{block_refused}
use Rattle.granit_names.proofs.NameLaw.{name_refused}
use Rattle.granit_names.proofs.TagLaw.{tag_refused}
use Rattle.granit_reading.proofs.ReadAnswers.{whole_refused}
use Rattle.granit_machine.specs.Columns.{refuse_column, closed_at, ends_at}
use Rattle.granit_machine.specs.FlowLexemes.{opener, closes, closer_by, comma}
use Rattle.granit_machine.specs.Gaps.{leading_tab, refuse_tab_at, refuse_tab, begins_gap, past_gap, goes_on_behind}
use Rattle.granit_machine.specs.Gaps.{refuse_cut_by, noted_gap, ready_gap, gap_ends, takes_prefix, gap}
use Rattle.granit_machine.specs.IndicatorLexemes.{is_tabbed_dash, behind_dash, dash_up_to, dash, question_up_to}
use Rattle.granit_machine.specs.IndicatorLexemes.{nul_behind, behind_question, question_by, question, keyed_colon}
use Rattle.granit_machine.specs.IndicatorLexemes.{bare_colon, colon_by_key, colon_tail, opens_flow, colon}
use Rattle.granit_machine.specs.Laid.{Laid, is_adjacent, is_in_flow, is_question, same_bracket, block_column, is_column}
use Rattle.granit_machine.specs.Laid.{innermost_column}
use Rattle.granit_lexemes.specs.declared.layout.Bracket.{Bracket}
use Rattle.granit_lexemes.specs.declared.layout.LastLexeme.{LastLexeme}
use Rattle.granit_lexemes.specs.declared.layout.OpenBracket.{OpenBracket}
use Rattle.granit_lexemes.specs.declared.layout.OpenColumn.{OpenColumn}
use Rattle.granit_lexemes.specs.declared.layout.PossibleKey.{PossibleKey}
use Rattle.granit_machine.specs.LexemeSort.{PlacedSort, OpenSign, CloseSign, CommaSign, DashSign, QuestionSign}
use Rattle.granit_machine.specs.LexemeSort.{ColonSign, AliasSign, AnchorSign, TagSign, BlockSign, QuoteSign, StrayMark}
use Rattle.granit_machine.specs.LexemeSort.{NoSign, PlainSign, LexemeSort, TextEnd, StartMark, EndMark, Unprintable}
use Rattle.granit_machine.specs.LexemeSort.{DirectiveSign, Placed, sort_at}
use Rattle.granit_machine.specs.NodeLexemes.{quoted_and_gap}
use Rattle.granit_machine.specs.PossibleKeys.{top_key, refuse_required, drop_key, is_allowed, is_far_below, stale_key}
use Rattle.granit_machine.specs.PossibleKeys.{without_stale, layout_of}
use Rattle.granit_machine.specs.Reader.{noded, lexeme_of, is_strict_outside, lexeme_in_column, lexeme_by, read_behind}
use Rattle.granit_machine.specs.Reader.{read, LexState, is_end, behind_read, lex_turn, lex_len}
use Rattle.granit_machine.specs.Lexing.{lex_start, lex}
use Rattle.granit_reading.proofs.WholeLaw.{lex_turn-Shortens}
use Rattle.granit_lexemes.specs.Pieces.{with_front}
use Rattle.granit_machine.specs.ReaderState.{ReaderState, Read, tailed, refuse_open}
use Rattle.granit_machine.specs.StreamLexemes.{end_mark_up_to}
use Rattle.granit_language.specs.Begins.{Begins}
use Rattle.granit_reading.proofs.Deciding.{tab_limit}
use Rattle.granit_reading.proofs.ReadingLaw.{Signs, signed, percent_there}
use Rattle.granit_reading.proofs.Sorting.{begins_is}

-- ---- tails and gaps

tail_none : (end : Here) → IsNameless (tail_at end)
tail_none end = record { none = λ f e. (subst (TailReads end) e (tail_reads end)).1 }

tab_none : (o : OptionsData) (l : Laid) (m : Mark) (tab : Option Mark) → IsNameless (refuse_tab o l m tab)
unfolding refuse_tab_at
tab_none o l m None = ok_none
tab_none o l m (Some t) =
    if_none (is_question l.last && is_left (block_column l) t.place.column) err_none
    (if_none (nat_lt t.place.column (tab_limit o l)) err_none ok_none)

cut_none : (l : Laid) (h : Here) (cut : Option Mark) → IsNameless (refuse_cut_by l h cut)
cut_none l h None = ok_none
cut_none l h (Some c) = if_none (goes_on_behind l h c) err_none ok_none

ends_none : (o : OptionsData) (moved : Bool) (h : Here) (l : Laid) → IsNameless (gap_ends o moved h l)
unfolding gap_ends noted_gap ready_gap
ends_none o moved h l =
    if_none (next_char h == 0x23) (then_none (comment_none h) (λ x. ok_none))
    (then_none (tab_none o l (mark_of h) (leading_tab h)) (λ t. then_none (cut_none l h l.cut) (λ u. ok_none)))

gap_none : (o : OptionsData) (h : Here) (l : Laid) → IsNameless (gap o h l)
gap_none o h l = ends_none o (begins_gap (takes_prefix l) h) (past_gap (takes_prefix l) h) l

-- ---- keys and columns

required_none : (key : Option PossibleKey) → IsNameless (refuse_required key)
required_none None = ok_none
required_none (Some k) = if_none k.is_required err_none ok_none

drop_none : (l : Laid) → IsNameless (drop_key l)
drop_none l = then_none (required_none (top_key l)) (λ u. ok_none)

stale_none : (o : OptionsData) (m : Mark) (l : Laid) → IsNameless (without_stale o m l)
stale_none o m l = then_none (required_none (stale_key o (is_in_flow l) m l.key)) (λ u. ok_none)

column_none : (o : OptionsData) (column : ℕ) (mark : Mark) (columns : List OpenColumn)
    → IsNameless (refuse_column o column mark columns)
unfolding refuse_column
column_none o column mark columns = if_none (is_column (innermost_column columns) column) ok_none
    (if_none (nat_le o.block_nesting_limit (length columns)) err_none ok_none)

-- ---- signs

tailed_none : (x : Lexeme) (last : LastLexeme) (end : Here) (l : Laid) → IsNameless (tailed x last end l)
unfolding tailed
tailed_none x last end l = then_none (tail_none end) (λ y. ok_none)

module _ (o : OptionsData) (ends : Bool) (h : Here) (l : Laid) where
  opener_none : (bracket : Bracket) → IsNameless (opener o bracket ends h l)
  unfolding opener
  opener_none bracket = if_none (nat_le o.flow_nesting_limit (length l.brackets)) err_none (tailed_none _ _ (step h) _)

  closer_none : (bracket : Bracket) (bs : List OpenBracket) → IsNameless (closer_by bracket bs ends h l)
  unfolding closes
  closer_none bracket [] = err_none
  closer_none bracket (b ∷ bs) = if_none (not (same_bracket b.bracket bracket)) err_none (tailed_none _ _ (step h) _)

  comma_none : IsNameless (comma ends h l)
  comma_none = then_none (drop_none l) (λ t. tailed_none _ _ (step h) t)

  dash_none : IsNameless (dash o ends h l)
  unfolding dash dash_up_to behind_dash
  dash_none =
      if_none (is_in_flow l) err_none
      (if_none (not (is_allowed h.begins_line h.tab l)) err_none
      (then_none (then_none (column_none o h.place.column (mark_of h) l.columns) (λ u. ok_none))
      (λ t. then_none (tail_none (step h)) (λ y. if_none (is_tabbed_dash y.1) err_none ok_none))))

  question_none : IsNameless (question o ends h l)
  unfolding question question_by question_up_to
  question_none =
      let at = past is_gap (step h) in
      if_none (is_in_flow l) ok_none
      (if_none (not (is_allowed h.begins_line h.tab l)) err_none
      (then_none (then_none (column_none o h.place.column (mark_of h) l.columns) (λ u. ok_none))
      (λ t. if_none (nul_behind h) err_none
      (if_none (next_char at == 0x23) (then_none (comment_none at) (λ y. ok_none))
      (then_none (tab_none o (behind_question t) (mark_of at) (leading_tab at)) (λ u. ok_none))))))

  key_none : (key : Option PossibleKey) (tail : Option CommentRead) (after : Here)
      → IsNameless (colon_by_key o ends key tail after h l)
  unfolding keyed_colon bare_colon
  key_none (Some k) tail after =
      if_none (is_far_below h.place l k) err_none
      (if_none (is_in_flow l) ok_none (then_none
      (then_none (column_none o k.start.place.column k.start l.columns) (λ u. ok_none)) (λ t. ok_none)))
  key_none None tail after =
      if_none (is_in_flow l) ok_none
      (if_none (not (is_allowed h.begins_line h.tab l)) err_none
      (then_none (then_none (column_none o h.place.column (mark_of h) l.columns) (λ u. ok_none)) (λ t. ok_none)))

  colon_none : IsNameless (colon o ends h l)
  unfolding colon colon_tail
  colon_none =
      if_none (not (is_adjacent l.last) && opens_flow (slice_index h.unread.text 1)) err_none
      (then_none (if_none (is_blank (next_char (step h))) (tail_none (step h)) ok_none)
      (λ x. key_none (top_key l) x.0 x.1))

  quote_none : (single : Bool) → IsNameless (quoted_and_gap o single ends h l)
  quote_none single = then_none (then_none (quoted_none single (layout_of o h.place.column l) h) (λ x. ok_none))
      (λ y. then_none (gap_none o y.1.here y.1.laid) (λ z. ok_none))

module _ (o : OptionsData) (ends : Bool) (h : Here) (l : Laid) where
  sign_none : (sort : PlacedSort) → Signs sort (next_char h) → IsNameless (lexeme_of o sort ends h l)
  unfolding lexeme_of
  sign_none (OpenSign bracket) p = opener_none o ends h (noded false h l) bracket
  sign_none (CloseSign bracket) p = closer_none o ends h l bracket l.brackets
  sign_none CommaSign p = comma_none o ends h l
  sign_none DashSign p = dash_none o ends h l
  sign_none QuestionSign p = question_none o ends h l
  sign_none ColonSign p = colon_none o ends h l
  sign_none AliasSign p = then_none (record { none = λ f e. (name_refused h f p e).1 }) (λ x. ok_none)
  sign_none AnchorSign p = then_none (record { none = λ f e. (name_refused h f p e).1 }) (λ x. ok_none)
  sign_none TagSign p = then_none (record { none = λ f e. (tag_refused (is_in_flow (noded true h l)) h f p e).1 })
      (λ x. ok_none)
  sign_none (BlockSign literal) p = then_none
      (record { none = λ f e. (block_refused literal (block_column (noded false h l)) h f e).1 }) (λ x. ok_none)
  sign_none (QuoteSign single) p = quote_none o ends h (noded false h l) single
  sign_none StrayMark p = err_none
  sign_none NoSign p = err_none
  sign_none PlainSign p = then_none (plain_none (layout_of o h.place.column (noded false h l)) h) (λ x. ok_none)

-- ---- lexemes

open_none : (bs : List OpenBracket) → IsNameless (refuse_open bs)
open_none [] = ok_none
open_none (b ∷ bs) = err_none

sort_none : (o : OptionsData) (sort : LexemeSort) (s : ReaderState)
    → Begins (is_in_flow s.laid) (is_adjacent s.laid.last) s.here.place.column s.here.unread.text sort
    → IsNameless (lexeme_by o sort s.here s.laid)
unfolding lexeme_by lexeme_in_column end_mark_up_to
sort_none o TextEnd s b = then_none (open_none s.laid.brackets) (λ u. then_none (drop_none s.laid) (λ t. ok_none))
sort_none o StartMark s b = then_none (open_none s.laid.brackets) (λ u. ok_none)
sort_none o EndMark s b = then_none (open_none s.laid.brackets)
    (λ u. then_none (tail_none (steps 3 s.here)) (λ x. if_none (is_breakz (next_char x.1)) ok_none err_none))
sort_none o DirectiveSign s b = then_none (record { none = λ f e. (whole_refused o s.here f (percent_there b) e).1 })
    (λ x. ok_none)
sort_none o Unprintable s b = err_none
sort_none o (Placed sort) s b = if_none (is_strict_outside o s.here.place.column (closed_at s.here.place.column s.laid))
    err_none (sign_none o (ends_at s.here.place.column s.laid) s.here (closed_at s.here.place.column s.laid) sort
    (signed b))

-- ---- one read

read_none : (o : OptionsData) (s : ReaderState) → IsNameless (read o s)
unfolding read
read_none o s = then_none (gap_none o s.here s.laid)
    (λ x. then_none (behind_none x.0 x.1) (λ y. then_none (stale_none o (mark_of y.1.here) y.1.laid) (λ l. ok_none)))
  where
    behind_none : (c : Option CommentRead) (at : ReaderState) → IsNameless (read_behind o c at)
    behind_none (Some c) at = ok_none
    behind_none None at =
        then_none (stale_none o (mark_of at.here) at.laid)
        (λ l. sort_none o (sort_at (is_in_flow l) (is_adjacent l.last) at.here)
        (record { here = at.here; laid = l }) (begins_is (is_in_flow l) (is_adjacent l.last) at.here))

-- ---- all reads

abbrev pub Nameless : Option Fault → Type 0
Nameless None = Unit {0}
Nameless (Some f) = f.sources ≡ []

-- the fault that all reads leave
abbrev LeavesNone : LexState → Result (List Item × LexState) Fault → Type 0
LeavesNone s (Ok x) = Nameless s.fault → Nameless x.1.fault
LeavesNone s (Err f) = Unit {0}

turn_none : (o : OptionsData) (s : LexState) → Carries LeavesNone s (lex_turn o s)
unfolding lex_turn
turn_none o s = on s.ended (read o s.reader) (read_none o s.reader)
  where
    front : (items : List Item) (after : ReaderState) (given : Result (List Item × LexState) Fault)
        → LeavesNone (record { reader = after; ended = is_end items; fault = None }) given
        → LeavesNone s (with_front items given)
    front items after (Ok x) m = λ before. m tt
    front items after (Err f) m = tt

    on : (v : Bool) (r : Read) → IsNameless r
        → Carries LeavesNone s (if v then Ok (None, s) else behind_read r s.reader)
    on true r n = λ before. before
    on false (Ok (items, after)) n = front items after
    on false (Err f) n = λ before. n.none f refl

-- the fault that reading a text ends at names none
pub lex_none : (o : OptionsData) (h : Here) (items : List Item) (t : LexState) → lex o h ≡ Ok (items, t)
    → Nameless t.fault
lex_none o h items t e = subst (LeavesNone (lex_start h)) e
    (pieces_hold LeavesNone lex_len (lex_turn o) (lex_turn-Shortens o) (turn_none o) (lex_start h)) tt
