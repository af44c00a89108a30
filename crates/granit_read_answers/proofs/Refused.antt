-- What has a cause at a place is refused with exactly that.
use Rattle.std.proofs.Common.{◌≡◌, ℕ, ◌==◌, ◌&&◌, not, Bool, true, false, List, [], ◌∷◌, length, Option, Some, None}
use Rattle.std.proofs.Common.{Result, Ok, Err, refl, sym, ap, ap₂, ◌∙◌, subst, arith}
use Rattle.std.specs.Prelude.{if◌then◌else◌, nat_le, nat_lt, slice_index}
use Rattle.std.proofs.lemmas.Bool.{cond-true, cond-false}
use Rattle.std.proofs.lemmas.Bool.Decides.{nat_tests}
use Rattle.granit_base.specs.Classes.{is_blank, is_breakz, is_anchor_char}
use Rattle.granit_base.specs.Place.{Mark, first}
use Rattle.granit_error.specs.FaultKind.{FaultKind, SimpleKeyExpected, RecursionLimitExceeded}
use Rattle.granit_error.specs.OptionsData.{OptionsData}
use Rattle.granit_lexemes.proofs.HereLemmas.{stepped_text}
use Rattle.granit_lexemes.specs.Comment.{CommentRead, comment, Spoils}
use Rattle.granit_lexemes.specs.Here.{Here, next_char, mark_of, step}
use Rattle.granit_lexemes.specs.LayoutData.{LayoutData, is_left}
use Rattle.granit_lexemes.specs.Lexeme.{Question}
use Rattle.granit_lexemes.specs.declared.layout.Bracket.{Bracket}
use Rattle.granit_lexemes.specs.declared.layout.OpenBracket.{OpenBracket}
use Rattle.granit_lexemes.specs.declared.layout.OpenColumn.{OpenColumn}
use Rattle.granit_lexemes.specs.declared.layout.PossibleKey.{PossibleKey}
use Rattle.granit_lexemes.specs.Moves.{steps}
use Rattle.granit_lexemes.specs.NameExtent.{RefusesName, nameless}
use Rattle.granit_lexemes.specs.Outcome.{Fault, fault_at, ◌>>=◌}
use Rattle.granit_lexemes.specs.QuotedExtent.{AnswersQuoted}
use Rattle.granit_lexemes.specs.QuotedScalar.{quoted_scalar}
use Rattle.granit_lexemes.specs.Tags.{name_at}
use Rattle.granit_lexemes.specs.Tail.{tail_at}
use Rattle.granit_scalars.proofs.CommentCauses.{comment_wrong}
use Rattle.granit_scalars.proofs.Comments.{comment_reads}
use Rattle.granit_scalars.proofs.PlainOnce.{plain_cause_refused}
use Rattle.granit_base.specs.PlainContent.{is_content}
use Rattle.granit_lexemes.specs.PlainExtent.{RefusesPlain}
use Rattle.granit_reading.proofs.LexemeAnswers.{quoted_is_answered}
use Rattle.granit_reading.proofs.GapAnswers.{in_comment_fails, cause_refused}
use Rattle.granit_reading.proofs.LexemeAnswers.{tail_is}
use Rattle.granit_reading.proofs.GapAnswers.{tail_touched}
use Rattle.granit_names.proofs.NameLaw.{name_run}
use Rattle.granit_machine.specs.Columns.{refuse_column, entered, closed_at, ends_at}
use Rattle.granit_machine.specs.FlowLexemes.{opener, closes, closer_by, comma}
use Rattle.granit_machine.specs.Gaps.{leading_tab, refuse_tab_at, refuse_tab, begins_gap, goes_on_behind, refuse_cut_by}
use Rattle.granit_machine.specs.Gaps.{noted_gap, ready_gap, gap_ends, takes_prefix, gap}
use Rattle.granit_machine.specs.IndicatorLexemes.{is_tabbed_dash, behind_dash, dash_up_to, dash, question_up_to}
use Rattle.granit_machine.specs.IndicatorLexemes.{nul_behind, behind_question, question_by, question, keyed_colon}
use Rattle.granit_machine.specs.IndicatorLexemes.{bare_colon, colon_by_key, colon_tail, opens_flow, colon}
use Rattle.granit_machine.specs.Laid.{Laid, is_adjacent, is_in_flow, is_question, same_bracket, innermost_column}
use Rattle.granit_machine.specs.Laid.{block_column, is_column}
use Rattle.granit_machine.specs.LexemeSort.{PlacedSort, OpenSign, CloseSign, CommaSign, DashSign, QuestionSign}
use Rattle.granit_machine.specs.LexemeSort.{ColonSign, AliasSign, AnchorSign, TagSign, BlockSign, QuoteSign, StrayMark}
use Rattle.granit_machine.specs.LexemeSort.{NoSign, PlainSign, LexemeSort, TextEnd, StartMark, EndMark, Unprintable}
use Rattle.granit_machine.specs.LexemeSort.{DirectiveSign, Placed}
use Rattle.granit_machine.specs.NodeLexemes.{quoted_and_gap}
use Rattle.granit_machine.specs.PossibleKeys.{top_key, refuse_required, drop_key, is_allowed, is_far_below, is_stale}
use Rattle.granit_machine.specs.PossibleKeys.{stale_key, without_stale, layout_of}
use Rattle.granit_machine.specs.Reader.{noded, lexeme_of, is_strict_outside, lexeme_in_column, lexeme_by, lexeme}
use Rattle.granit_machine.specs.Reader.{read_whole, read}
use Rattle.granit_machine.specs.ReaderState.{ReaderState, Read, sign_lexeme, tailed, refuse_open}
use Rattle.granit_machine.specs.StreamLexemes.{end_mark_up_to}
use Rattle.granit_reading.proofs.ReadingLaw.{noded-flow}
use Rattle.granit_machine.proofs.SortLemmas.{plain_sign-content}
use Rattle.granit_language.specs.Allowed.{outside, TooMany, EntryFits}
use Rattle.granit_language.specs.Before.{freshened, with_run, in_front}
use Rattle.granit_language.specs.Reached.{Comes, Overdue, ReadStopped, in_gap, key_overdue, at_lexeme}
use Rattle.granit_language.specs.Reached.{key_overdue_behind}
use Rattle.granit_language.specs.Refusing.{WrongTab, left_of_key, in_indentation, WrongGap, spoiled as gap_spoiled, tab}
use Rattle.granit_language.specs.Refusing.{cut, GapRefused, KeyWaits, tail_of_open, tail_of_close, tail_of_comma}
use Rattle.granit_language.specs.Refusing.{tail_of_dash, tail_of_colon, ColonTailed, QuestionGap, Refuses, tail}
use Rattle.granit_language.specs.Refusing.{mismatched, misplaced, flow_deep, dash_deep, question_deep, colon_deep}
use Rattle.granit_language.specs.Refusing.{key_deep, comma_waits, dash_in_flow, dash_here, dash_behind_tab}
use Rattle.granit_language.specs.Refusing.{question_here, nul, question_spoiled, question_tab, colon_touches, far_below}
use Rattle.granit_language.specs.Refusing.{colon_here, in_alias, in_anchor, in_block, in_plain, quoted_gap, nothing}
use Rattle.granit_language.specs.Refusing.{stray, RefusesSort, left_of_block, placed, unclosed, end_waits, dots_tail}
use Rattle.granit_language.specs.Refusing.{behind_dots, unprintable}
use Rattle.granit_language.specs.Standing.{ClosesInnermost}
use Rattle.granit_language.specs.Stretch.{WrongTail, touching, spoiled, TailIf}
use Rattle.granit_reading.proofs.Deciding.{asserts, rejects, is_decided, flow_decided, flow_same, begin_decided}
use Rattle.granit_reading.proofs.Deciding.{innermost_decided, full_decided, bracket_decided, far_decided, stale_decided}
use Rattle.granit_reading.proofs.Deciding.{tabbed_decided, nul_decided, goes_decided, tab_leads, key_tab_decided}
use Rattle.granit_reading.proofs.Deciding.{tab_limit, block_tab_decided, prefix_decided, touching_decided}
use Rattle.granit_reading.proofs.Deciding.{outside_block_decided, layout_same}
use Rattle.granit_reading.proofs.GapAnswers.{past_gap_answers, past_white_answers, tab_answers, gap_answers}
use Rattle.granit_reading.proofs.LexemeAnswers.{then_is, tail_then, drop_answers, room_answers, not_less}
use Rattle.granit_reading.proofs.Lexemes.{bind_bind}
use Rattle.granit_reading.proofs.ReadAnswers.{by_answers, fresh_answers}
use Rattle.granit_reading.proofs.ReadingLaw.{run_flow, run_columns, Starts, starts, signed, stops_there}
use Rattle.granit_reading.proofs.SortAnswers.{sort_answers}

-- a result is this refusal
abbrev pub Fails : {A : Type 0} → FaultKind → Mark → Result A Fault → Type 0
Fails kind m r = r ≡ Err (fault_at kind m)

pub fails_then : {A B : Type 0} {r : Result A Fault} {kind : FaultKind} {m : Mark} (f : A → Result B Fault)
    → Fails kind m r → Fails kind m (r >>= f)
fails_then f e = ap (λ r. r >>= f) e

-- ---- comments and tails

spoils_refused : (h : Here) {kind : FaultKind} {m : Mark} → Spoils h kind m → Fails kind m (comment h)
spoils_refused h p = comment_wrong h p (comment h) refl (comment_reads h (ap first p.spelled.spelled))

tail_refused : (end : Here) {kind : FaultKind} {m : Mark} → WrongTail end kind m → Fails kind m (tail_at end)
tail_refused end (touching e) = tail_touched end ((is_decided (next_char end) 0x23).0 e)
tail_refused end (spoiled b blanks rest p s) = in_comment_fails end b blanks rest p s

-- ---- gaps

tab_refused : (o : OptionsData) (l : Laid) (h : Here) {kind : FaultKind} {m : Mark} → WrongTab o l h kind m
    → Fails kind m (refuse_tab o l (mark_of h) (leading_tab h))
unfolding refuse_tab_at
tab_refused o l h (left_of_key {tab = t} b k) = ap (refuse_tab o l (mark_of h)) (tab_leads h t b)
    ∙ cond-true (is_question l.last && is_left (block_column l) t.place.column) _ _ (asserts (key_tab_decided l t) k)
tab_refused o l h (in_indentation {tab = t} b n k) =
    ap (refuse_tab o l (mark_of h)) (tab_leads h t b)
    ∙ cond-false (is_question l.last && is_left (block_column l) t.place.column) _ _
    (rejects (key_tab_decided l t) n)
    ∙ cond-true (nat_lt t.place.column (tab_limit o l)) _ _ (asserts (block_tab_decided o l t) k)

gap_ends_refused : (o : OptionsData) (moved : Bool) (l : Laid) (at : Here) {kind : FaultKind} {m : Mark}
    → WrongGap o l at kind m → Fails kind m (gap_ends o moved at l)
unfolding gap_ends noted_gap ready_gap
gap_ends_refused o moved l at (gap_spoiled p) = cond-true (next_char at == 0x23) _ _
    ((is_decided (next_char at) 0x23).1 (ap first p.spelled.spelled)) ∙ fails_then _ (spoils_refused at p)
gap_ends_refused o moved l at (tab n p) = cond-false (next_char at == 0x23) _ _ n ∙ fails_then _ (tab_refused o l at p)
gap_ends_refused o moved l at (cut {m = c} n t e g) =
    cond-false (next_char at == 0x23) _ _ n ∙ then_is _ (tab_answers o l at t)
    ∙ fails_then _ (ap (refuse_cut_by l at) e ∙ cond-true (goes_on_behind l at c) _ _ (asserts (goes_decided l at c) g))

gap_refused : (o : OptionsData) (h : Here) (l : Laid) {kind : FaultKind} {m : Mark} → GapRefused o h l kind m
    → Fails kind m (gap o h l)
gap_refused o h l p =
    ap (λ x. gap_ends o (begins_gap (takes_prefix l) h) x l)
    (past_gap_answers (takes_prefix l) (prefix_decided l) h p.at p.gap)
    ∙ gap_ends_refused o (begins_gap (takes_prefix l) h) l p.at p.wrong

-- ---- parts that lexemes share

key_refused : (l : Laid) {m : Mark} → KeyWaits l m → Fails SimpleKeyExpected m (drop_key l)
key_refused l p = fails_then _ (ap refuse_required p.is_top ∙ cond-true p.key.is_required _ _ p.required
    ∙ ap (λ (n : Mark). Err (fault_at SimpleKeyExpected n)) (sym p.marks))

room_refused : (o : OptionsData) (column : ℕ) (mark : Mark) (l : Laid) → TooMany o column l
    → Fails RecursionLimitExceeded mark (refuse_column o column mark l.columns)
unfolding refuse_column
room_refused o column mark l p =
    cond-false (is_column (block_column l) column) _ _ (rejects (innermost_decided l column) p.new)
    ∙ cond-true (nat_le o.block_nesting_limit (length l.columns)) _ _ (asserts (full_decided o l) p.full)

name_refused_there : (h : Here) {kind : FaultKind} {m : Mark} → RefusesName h kind m → Fails kind m (name_at h)
unfolding step
name_refused_there h (nameless e) = name_run h [] (step h).unread.text refl tt
    (ap is_anchor_char (behind_first h.unread.text refl) ∙ e)
  where
    behind_first : (text : List ℕ) → h.unread.text ≡ text → first (step h).unread.text ≡ slice_index h.unread.text 1
    behind_first [] f = ap (λ (g : Here). first g.unread.text)
        (cond-true (length h.unread.text == 0) _ _ (ap (λ (t : List ℕ). length t == 0) f)) ∙ ap first f
        ∙ sym (ap (λ (t : List ℕ). slice_index t 1) f)
    behind_first (c ∷ t) f = ap first (stepped_text h c t f) ∙ sym (ap (λ (t : List ℕ). slice_index t 1) f)

-- ---- signs

module _ (o : OptionsData) (ends : Bool) (h : Here) (l : Laid) where
  open_refused : {kind : FaultKind} {m : Mark} (bracket : Bracket) → Refuses o h l (OpenSign bracket) kind m
      → Fails kind m (opener o bracket ends h l)
  unfolding opener tailed
  open_refused bracket (tail (tail_of_open less) w) = cond-false (nat_le o.flow_nesting_limit (length l.brackets)) _ _
      (not_less o.flow_nesting_limit (length l.brackets) less) ∙ fails_then _ (tail_refused (step h) w)
  open_refused bracket (flow_deep p) = cond-true (nat_le o.flow_nesting_limit (length l.brackets)) _ _
      (grind (arith, nat_tests, p))

  close_refused : {kind : FaultKind} {m : Mark} (bracket : Bracket) → Refuses o h l (CloseSign bracket) kind m
      → Fails kind m (closer_by bracket l.brackets ends h l)
  unfolding closes tailed
  close_refused bracket (mismatched {b = b} e n) = ap (λ (bs : List OpenBracket). closer_by bracket bs ends h l) e
      ∙ cond-true (not (same_bracket b.bracket bracket)) _ _ (ap not (rejects (bracket_decided b.bracket bracket) n))
  close_refused bracket (misplaced e) = ap (λ (bs : List OpenBracket). closer_by bracket bs ends h l) e
  close_refused {kind = kind} {m = m} bracket (tail (tail_of_close inner) w) = on l.brackets inner
    where
      on : (bs : List OpenBracket) → ClosesInnermost bracket bs → Fails kind m (closer_by bracket bs ends h l)
      on [] c = absurd c
      on (b ∷ bs) c = cond-false (not (same_bracket b.bracket bracket)) _ _
          (ap not (asserts (bracket_decided b.bracket bracket) c)) ∙ fails_then _ (tail_refused (step h) w)

  comma_refused : {kind : FaultKind} {m : Mark} → Refuses o h l CommaSign kind m → Fails kind m (comma ends h l)
  unfolding tailed
  comma_refused (comma_waits k) = fails_then _ (key_refused l k)
  comma_refused (tail (tail_of_comma free) w) = then_is _ (drop_answers l free) ∙ fails_then _ (tail_refused (step h) w)

  dash_refused : {kind : FaultKind} {m : Mark} → Refuses o h l DashSign kind m → Fails kind m (dash o ends h l)
  unfolding dash dash_up_to behind_dash
  dash_refused (dash_in_flow f) = cond-true (is_in_flow l) _ _ (asserts (flow_decided l) f)
  dash_refused (dash_here out n) = cond-false (is_in_flow l) _ _ (flow_same {l = l} (outside out))
      ∙ cond-true (not (is_allowed h.begins_line h.tab l)) _ _ (ap not (rejects (begin_decided h l) n))
  dash_refused (dash_deep out may many) =
      cond-false (is_in_flow l) _ _ (flow_same {l = l} (outside out))
      ∙ cond-false (not (is_allowed h.begins_line h.tab l)) _ _ (ap not (asserts (begin_decided h l) may))
      ∙ fails_then _ (fails_then _ (room_refused o h.place.column (mark_of h) l many))
  dash_refused (tail (tail_of_dash e) w) =
      cond-false (is_in_flow l) _ _ (flow_same {l = l} (outside e.outside))
      ∙ cond-false (not (is_allowed h.begins_line h.tab l)) _ _ (ap not (asserts (begin_decided h l) e.allowed))
      ∙ then_is _ (then_is _ (room_answers o h.place.column (mark_of h) l e.room))
      ∙ fails_then _ (tail_refused (step h) w)
  dash_refused (dash_behind_tab e held after t b) =
      cond-false (is_in_flow l) _ _ (flow_same {l = l} (outside e.outside))
      ∙ cond-false (not (is_allowed h.begins_line h.tab l)) _ _ (ap not (asserts (begin_decided h l) e.allowed))
      ∙ then_is _ (then_is _ (room_answers o h.place.column (mark_of h) l e.room)) ∙ tail_then _ t
      ∙ cond-true (is_tabbed_dash after) _ _ (asserts (tabbed_decided after) b)

  abbrev entered_laid : Laid
  entered_laid = behind_question (entered h.place.column l)

  -- up to what follows a `?`
  question_enters : EntryFits o h l → question o ends h l
      ≡ question_by o (sign_lexeme ends Question h l) h (entered h.place.column l)
  unfolding question
  question_enters e =
      cond-false (is_in_flow l) _ _ (flow_same {l = l} (outside e.outside))
      ∙ cond-false (not (is_allowed h.begins_line h.tab l)) _ _ (ap not (asserts (begin_decided h l) e.allowed))
      ∙ then_is _ (then_is _ (room_answers o h.place.column (mark_of h) l e.room))

  question_gaps : (at : Here) → QuestionGap o h l at
      → question o ends h l ≡ question_up_to o (sign_lexeme ends Question h l) at entered_laid
  unfolding question_by
  question_gaps at g =
      question_enters g.entry ∙ cond-false (nul_behind h) _ _ (rejects (nul_decided h) g.no_nul)
      ∙ ap (λ at. question_up_to o (sign_lexeme ends Question h l) at entered_laid)
      (past_white_answers (step h) at g.gap)

  question_refused : {kind : FaultKind} {m : Mark} → Refuses o h l QuestionSign kind m
      → Fails kind m (question o ends h l)
  unfolding question question_by question_up_to
  question_refused (question_here out n) = cond-false (is_in_flow l) _ _ (flow_same {l = l} (outside out))
      ∙ cond-true (not (is_allowed h.begins_line h.tab l)) _ _ (ap not (rejects (begin_decided h l) n))
  question_refused (question_deep out may many) =
      cond-false (is_in_flow l) _ _ (flow_same {l = l} (outside out))
      ∙ cond-false (not (is_allowed h.begins_line h.tab l)) _ _ (ap not (asserts (begin_decided h l) may))
      ∙ fails_then _ (fails_then _ (room_refused o h.place.column (mark_of h) l many))
  question_refused (tail reaches w) = elim reaches [ ]
  question_refused (nul e z) = question_enters e ∙ cond-true (nul_behind h) _ _ (asserts (nul_decided h) z)
  question_refused (question_spoiled at g s) = question_gaps at g
      ∙ cond-true (next_char at == 0x23) _ _ ((is_decided (next_char at) 0x23).1 (ap first s.spelled.spelled))
      ∙ fails_then _ (spoils_refused at s)
  question_refused (question_tab at g n t) = question_gaps at g ∙ cond-false (next_char at == 0x23) _ _ n
      ∙ fails_then _ (tab_refused o entered_laid at t)

  -- up to what a `:` makes of its key
  colon_keyed : (t : ColonTailed h l) → colon o ends h l ≡ colon_by_key o ends (top_key l) t.tail t.after h l
  unfolding colon colon_tail
  colon_keyed t =
      cond-false (not (is_adjacent l.last) && opens_flow (slice_index h.unread.text 1)) _ _
      (rejects (touching_decided h l) (λ p. t.apart p.0 p.1))
      ∙ then_is _ (on (is_blank (next_char (step h))) t.tailed)
    where
      on : (v : Bool) → TailIf v (step h) t.tail t.after
          → (if v then tail_at (step h) else Ok (None, step h)) ≡ Ok (t.tail, t.after)
      on true p = tail_is (step h) t.tail t.after p
      on false p = ap₂ (λ (c : Option CommentRead) (g : Here). Ok (c, g)) (sym p.0) (sym p.1)

  colon_refused : {kind : FaultKind} {m : Mark} → Refuses o h l ColonSign kind m → Fails kind m (colon o ends h l)
  unfolding colon colon_tail keyed_colon bare_colon
  colon_refused (colon_touches a b) = cond-true (not (is_adjacent l.last) && opens_flow (slice_index h.unread.text 1)) _
      _ (asserts (touching_decided h l) (a, b))
  colon_refused (tail (tail_of_colon apart blank) w) =
      cond-false (not (is_adjacent l.last) && opens_flow (slice_index h.unread.text 1)) _ _
      (rejects (touching_decided h l) (λ p. apart p.0 p.1))
      ∙ fails_then _ (cond-true (is_blank (next_char (step h))) _ _ blank ∙ tail_refused (step h) w)
  colon_refused (far_below {k = k} t e f) =
      colon_keyed t ∙ ap (λ (key : Option PossibleKey). colon_by_key o ends key t.tail t.after h l) e
      ∙ cond-true (is_far_below h.place l k) _ _ (asserts (far_decided h l k) f)
  colon_refused (key_deep {k = k} t e near out many) =
      colon_keyed t ∙ ap (λ (key : Option PossibleKey). colon_by_key o ends key t.tail t.after h l) e
      ∙ cond-false (is_far_below h.place l k) _ _ (rejects (far_decided h l k) near)
      ∙ cond-false (is_in_flow l) _ _ (flow_same {l = l} (outside out))
      ∙ fails_then _ (fails_then _ (room_refused o k.start.place.column k.start l many))
  colon_refused (colon_here t e out n) =
      colon_keyed t ∙ ap (λ (key : Option PossibleKey). colon_by_key o ends key t.tail t.after h l) e
      ∙ cond-false (is_in_flow l) _ _ (flow_same {l = l} (outside out))
      ∙ cond-true (not (is_allowed h.begins_line h.tab l)) _ _ (ap not (rejects (begin_decided h l) n))
  colon_refused (colon_deep t e out may many) =
      colon_keyed t ∙ ap (λ (key : Option PossibleKey). colon_by_key o ends key t.tail t.after h l) e
      ∙ cond-false (is_in_flow l) _ _ (flow_same {l = l} (outside out))
      ∙ cond-false (not (is_allowed h.begins_line h.tab l)) _ _ (ap not (asserts (begin_decided h l) may))
      ∙ fails_then _ (fails_then _ (room_refused o h.place.column (mark_of h) l many))

  quote_refused : {kind : FaultKind} {m : Mark} (single : Bool) → Refuses o h l (QuoteSign single) kind m
      → Fails kind m (quoted_and_gap o single ends h l)
  quote_refused single (tail reaches w) = elim reaches [ ]
  quote_refused single (quoted_gap layout told given end a g) =
      bind_bind (quoted_scalar single (layout_of o h.place.column l) h) _ _
      ∙ then_is _ (quoted_is_answered single (layout_of o h.place.column l) h given end
      (subst (λ (d : LayoutData). AnswersQuoted single d h given end) (sym (layout_same o h.place.column l told)) a))
      ∙ fails_then _ (gap_refused o end _ g)

module _ (o : OptionsData) (ends : Bool) (h : Here) (l : Laid) where
  sign_refused : {kind : FaultKind} {m : Mark} (sort : PlacedSort) → Starts sort (is_in_flow l) h
      → Refuses o h (with_run sort h l) sort kind m → Fails kind m (lexeme_of o sort ends h l)
  unfolding lexeme_of
  sign_refused (OpenSign bracket) begins p = open_refused o ends h (noded false h l) bracket p
  sign_refused (CloseSign bracket) begins p = close_refused o ends h l bracket p
  sign_refused CommaSign begins p = comma_refused o ends h l p
  sign_refused DashSign begins p = dash_refused o ends h l p
  sign_refused QuestionSign begins p = question_refused o ends h l p
  sign_refused ColonSign begins p = colon_refused o ends h l p
  sign_refused AliasSign begins (in_alias p) = fails_then _ (name_refused_there h p)
  sign_refused AnchorSign begins (in_anchor p) = fails_then _ (name_refused_there h p)
  sign_refused (BlockSign literal) begins (in_block p) = fails_then _
      (cause_refused literal (block_column (noded false h l)) h p)
  sign_refused (QuoteSign single) begins p = quote_refused o ends h (noded false h l) single p
  sign_refused AliasSign begins (tail reaches w) = elim reaches [ ]
  sign_refused AnchorSign begins (tail reaches w) = elim reaches [ ]
  sign_refused TagSign begins (tail reaches w) = elim reaches [ ]
  sign_refused (BlockSign literal) begins (tail reaches w) = elim reaches [ ]
  sign_refused StrayMark begins (tail reaches w) = elim reaches [ ]
  sign_refused NoSign begins (tail reaches w) = elim reaches [ ]
  sign_refused PlainSign begins (tail reaches w) = elim reaches [ ]
  sign_refused {kind = kind} {m = m} PlainSign begins (in_plain layout told p) =
      fails_then _ (plain_cause_refused (layout_of o h.place.column (noded false h l)) h kind m
      (ap (λ f. is_content f h.unread.text) (noded-flow false h l) ∙ begins)
      (subst (λ (d : LayoutData). RefusesPlain d h kind m) (sym (layout_same o h.place.column (noded false h l) told))
      p))
  sign_refused StrayMark begins stray = refl
  sign_refused NoSign begins nothing = refl

-- ---- lexemes

open_met : {B : Type 0} (bs : List OpenBracket) (f : Unit {0} → Result B Fault) {b : OpenBracket}
    {cs : List OpenBracket} → bs ≡ b ∷ cs → (refuse_open bs >>= f) ≡ (refuse_open (b ∷ cs) >>= f)
open_met bs f e = ap (λ (bs : List OpenBracket). refuse_open bs >>= f) e

open_none : {B : Type 0} (bs : List OpenBracket) (f : Unit {0} → Result B Fault) → bs ≡ []
    → (refuse_open bs >>= f) ≡ f tt
open_none bs f e = ap (λ (bs : List OpenBracket). refuse_open bs >>= f) e

abbrev StartsAt : LexemeSort → ReaderState → Type 0
StartsAt (Placed sort) s = Starts sort (is_in_flow s.laid) s.here
StartsAt sort s = Unit {0}

sort_refused : (o : OptionsData) (sort : LexemeSort) (s : ReaderState) {kind : FaultKind} {m : Mark} → StartsAt sort s
    → RefusesSort o s.here (in_front sort s.here s.laid) sort kind m → Fails kind m (lexeme_by o sort s.here s.laid)
unfolding lexeme_by lexeme_in_column is_strict_outside end_mark_up_to
sort_refused o TextEnd s begins (unclosed outer e) = open_met s.laid.brackets _ e
sort_refused o StartMark s begins (unclosed outer e) = open_met s.laid.brackets _ e
sort_refused o EndMark s begins (unclosed outer e) = open_met s.laid.brackets _ e
sort_refused o TextEnd s begins (end_waits shut k) = open_none s.laid.brackets _ shut
    ∙ fails_then _ (key_refused s.laid k)
sort_refused o EndMark s begins (dots_tail shut w) = open_none s.laid.brackets _ shut
    ∙ fails_then _ (tail_refused (steps 3 s.here) w)
sort_refused o EndMark s begins (behind_dots shut held after t n) = open_none s.laid.brackets _ shut ∙ tail_then _ t
    ∙ cond-false (is_breakz (next_char after)) _ _ n
sort_refused o Unprintable s begins unprintable = refl
sort_refused o Unprintable s begins (unclosed outer e) = elim outer [ ]
sort_refused o DirectiveSign s begins (unclosed outer e) = elim outer [ ]
sort_refused o (Placed sort) s begins (unclosed outer e) = elim outer [ ]
sort_refused o (Placed sort) s begins (left_of_block p) =
    let l = closed_at s.here.place.column s.laid in
    cond-true (is_strict_outside o s.here.place.column l) _ _
    (sym (strict_same o sort s.here l) ∙ asserts (outside_block_decided o s.here (with_run sort s.here l)) p)
  where
    strict_same : (o : OptionsData) (sort : PlacedSort) (h : Here) (l : Laid)
        → ((o.strict_indentation && is_in_flow (with_run sort h l))
        && is_left (block_column (with_run sort h l)) h.place.column)
        ≡ ((o.strict_indentation && is_in_flow l) && is_left (block_column l) h.place.column)
    strict_same o sort h l = ap₂ (λ (f : Bool) (cs : List OpenColumn). (o.strict_indentation && f)
        && is_left (innermost_column cs) h.place.column) (run_flow sort h l) (run_columns sort h l)
sort_refused o (Placed sort) s begins (placed n p) =
    let l = closed_at s.here.place.column s.laid in
    let same : ((o.strict_indentation && is_in_flow (with_run sort s.here l))
    && is_left (block_column (with_run sort s.here l)) s.here.place.column)
    ≡ is_strict_outside o s.here.place.column l =
    ap₂ (λ (f : Bool) (cs : List OpenColumn). (o.strict_indentation && f)
    && is_left (innermost_column cs) s.here.place.column) (run_flow sort s.here l) (run_columns sort s.here l) in
    cond-false (is_strict_outside o s.here.place.column l) _ _
    (sym same ∙ rejects (outside_block_decided o s.here (with_run sort s.here l)) n)
    ∙ sign_refused o (ends_at s.here.place.column s.laid) s.here l sort begins p

-- ---- one read

overdue_refused : (o : OptionsData) (s : ReaderState) {kind : FaultKind} {m : Mark} → Overdue o s kind m
    → Fails kind m (without_stale o (mark_of s.here) s.laid)
overdue_refused o s p =
    fails_then _ (ap (λ (key : Option PossibleKey). refuse_required
    (stale_key o (is_in_flow s.laid) (mark_of s.here) key)) p.is_outer
    ∙ ap refuse_required (cond-true (is_stale o (is_in_flow s.laid) (mark_of s.here) p.key) _ _
    (asserts (stale_decided o s.laid (mark_of s.here) p.key) p.stale))
    ∙ cond-true p.key.is_required _ _ p.required
    ∙ ap₂ (λ (k : FaultKind) (n : Mark). Err (fault_at k n)) (sym p.names) (sym p.marks))

-- what begins where a lexeme is read
starts_at : (o : OptionsData) {s : ReaderState} (at : ReaderState) (sort : LexemeSort) → Comes o s at sort
    → StartsAt sort (freshened o at)
starts_at o at (Placed sort) comes =
    let f = freshened o at in
    starts sort (is_in_flow f.laid) f.here (signed comes.begins)
    (λ p. plain_sign-content (is_in_flow f.laid) (is_adjacent f.laid.last) f.here (stops_there comes.gap)
    (sort_answers (is_in_flow f.laid) (is_adjacent f.laid.last) f.here comes.begins
    ∙ ap (λ (sort : PlacedSort). Placed sort) p))
starts_at o at TextEnd comes = tt
starts_at o at StartMark comes = tt
starts_at o at EndMark comes = tt
starts_at o at Unprintable comes = tt
starts_at o at DirectiveSign comes = tt

-- a cause that stands behind what was read is what the read refuses
pub stopped_refused : (o : OptionsData) (s : ReaderState) {kind : FaultKind} {m : Mark} → ReadStopped o s kind m
    → Fails kind m (read o s)
unfolding read
stopped_refused o s (in_gap g) = fails_then _ (gap_refused o s.here s.laid g)
stopped_refused o s (key_overdue (Some c) at g k) = then_is _ (gap_answers g) ∙ fails_then _ (overdue_refused o at k)
stopped_refused o s (key_overdue None at g k) = then_is _ (gap_answers g)
    ∙ fails_then (λ y. read_whole o y.0 y.1) (fails_then (λ l. lexeme o at.here l) (overdue_refused o at k))
stopped_refused o s (at_lexeme at sort comes p) =
    let f = freshened o at in
    then_is _ (gap_answers comes.gap)
    ∙ ap (λ r. (r >>= λ l. lexeme o at.here l) >>= λ y. read_whole o y.0 y.1) (fresh_answers o at comes.keys)
    ∙ ap (λ sort. lexeme_by o sort f.here f.laid >>= λ y. read_whole o y.0 y.1)
    (sort_answers (is_in_flow f.laid) (is_adjacent f.laid.last) f.here comes.begins)
    ∙ fails_then _ (sort_refused o sort f (starts_at o at sort comes) p)
stopped_refused o s (key_overdue_behind items at behind sort comes given k) =
    let f = freshened o at in
    then_is _ (gap_answers comes.gap)
    ∙ ap (λ r. (r >>= λ l. lexeme o at.here l) >>= λ y. read_whole o y.0 y.1) (fresh_answers o at comes.keys)
    ∙ ap (λ sort. lexeme_by o sort f.here f.laid >>= λ y. read_whole o y.0 y.1)
    (sort_answers (is_in_flow f.laid) (is_adjacent f.laid.last) f.here comes.begins)
    ∙ then_is _ (by_answers o sort f items behind given) ∙ fails_then _ (overdue_refused o behind k)

-- ---- one refusal

pub fault_kind : {A : Type 0} (r : Result A Fault) {k j : FaultKind} {m n : Mark} → Fails k m r → Fails j n r
    → (k ≡ j) × (m ≡ n)
fault_kind {A = A} r {k} {j} {m} {n} e f =
    let p : ◌≡◌ {A = Result A Fault} (Err (fault_at k m)) (Err (fault_at j n)) = sym e ∙ f in
    let q : fault_at k m ≡ fault_at j n = cc in
    (ap (λ (f : Fault). f.kind) q, ap (λ (f : Fault). f.mark) q)

abbrev pub is_read : Read → Bool
is_read (Ok x) = true
is_read (Err f) = false
