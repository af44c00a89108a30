-- Each read gives the same wherever a text stands.
use Rattle.std.proofs.Common.{◌≡◌, ℕ, suc, ◌==◌, ◌&&◌, ◌||◌, not, Bool, true, false, List, [], ◌∷◌, ◌++◌, length, map}
use Rattle.std.proofs.Common.{Option, Some, None, refl, sym, ap, ap₂, ◌∙◌, Ok, arith, subst}
use Rattle.std.proofs.lemmas.Bool.{cond-false}
use Rattle.std.specs.Prelude.{nat_le, slice_index, if◌then◌else◌}
use Rattle.std.proofs.lemmas.List.{map-append, length-map}
use Rattle.granit_base.specs.Classes.{is_blank, is_gap, is_breakz}
use Rattle.granit_base.specs.Place.{Mark}
use Rattle.granit_base.specs.PlainContent.{is_content}
use Rattle.granit_base.specs.Written.{Written}
use Rattle.granit_base.specs.declared.style.ScalarStyle.TheVariants.{Plain}
use Rattle.granit_error.specs.FaultKind as kinds
use Rattle.granit_error.specs.OptionsData.{OptionsData}
use Rattle.granit_lexemes.specs.Basics.{fails_at}
use Rattle.granit_lexemes.specs.BlockScalar.{BlockGiven, block_style}
use Rattle.granit_lexemes.specs.Comment.{CommentRead}
use Rattle.granit_lexemes.specs.Here.{Here, next_char, mark_of, step, past}
use Rattle.granit_lexemes.specs.LayoutData.{is_left}
use Rattle.granit_lexemes.specs.Lexeme.{opener_char, closer_char, LexemeKind, DocumentStart, DocumentEnd, StreamEnd}
use Rattle.granit_lexemes.specs.Lexeme.{Open, Close, Comma, Dash, Question, Colon, KeyStart, Lexeme, Item, OfLexeme}
use Rattle.granit_lexemes.specs.Lexeme.{OfComment, Alias, Anchor, Directive, Scalar, Tag}
use Rattle.granit_lexemes.specs.declared.layout.Bracket.{Bracket}
use Rattle.granit_lexemes.specs.Moves.{steps}
use Rattle.granit_lexemes.specs.Outcome.{fault_at, ◌>>=◌}
use Rattle.granit_lexemes.specs.PlainScalar.{plain_scalar}
use Rattle.granit_lexemes.specs.QuotedScalar.{quoted_scalar, quoted_style}
use Rattle.granit_lexemes.specs.Tags.{tag_at}
use Rattle.granit_lexemes.specs.Tail.{tail_at}
use Rattle.granit_lexemes.specs.declared.layout.LastLexeme.{LastLexeme}
use Rattle.granit_lexemes.specs.declared.layout.LastLexeme.TheVariants.{Opener, BehindDash, BehindQuestion, Adjacent}
use Rattle.granit_lexemes.specs.declared.layout.LastLexeme.TheVariants.{Another}
use Rattle.granit_lexemes.specs.declared.layout.OpenBracket.{OpenBracket}
use Rattle.granit_lexemes.specs.declared.layout.PossibleKey.{PossibleKey}
use Rattle.granit_termination.proofs.LexLengths.{noded-flow}
use Rattle.granit_termination.proofs.ReadLengths.{reader_len, GapState, GapFits, gap-fits}
use Rattle.granit_machine.proofs.SortLemmas.{plain_sign-content}
use Rattle.granit_machine.specs.Columns.{with_entry, with_pair, closed_at, closed_all, ends_at, ends_all}
use Rattle.granit_machine.specs.FlowLexemes.{opened, opener, closed_bracket, closes, closer_by, last_of_comma, comma}
use Rattle.granit_machine.specs.Gaps.{leading_tab, refuse_tab, over_break_if, GapRead, gap}
use Rattle.granit_machine.specs.IndicatorLexemes.{widened_if, is_tabbed_dash, is_before_break, dash_lexeme, behind_dash}
use Rattle.granit_machine.specs.IndicatorLexemes.{dash_up_to, dash, question_up_to, nul_behind, behind_question}
use Rattle.granit_machine.specs.IndicatorLexemes.{question_by, question, colon_lexeme, keyed_given, keyed_colon}
use Rattle.granit_machine.specs.IndicatorLexemes.{bare_given, bare_colon, colon_by_key, colon_tail, opens_flow, colon}
use Rattle.granit_machine.specs.Laid.{Laid, behind_lexeme, is_adjacent, is_nonempty, is_in_flow, same_bracket}
use Rattle.granit_machine.specs.Laid.{block_column}
use Rattle.granit_machine.specs.LexemeSort.{PlacedSort, OpenSign, CloseSign, CommaSign, DashSign, QuestionSign}
use Rattle.granit_machine.specs.LexemeSort.{ColonSign, AliasSign, AnchorSign, TagSign, BlockSign, QuoteSign, StrayMark}
use Rattle.granit_machine.specs.LexemeSort.{NoSign, PlainSign, LexemeSort, TextEnd, StartMark, EndMark, Unprintable}
use Rattle.granit_machine.specs.LexemeSort.{DirectiveSign, Placed, sort_at}
use Rattle.granit_machine.specs.NodeLexemes.{unrolled, behind_plain_scalar, alias_lexeme, last_of_property}
use Rattle.granit_machine.specs.NodeLexemes.{anchor_lexeme, tag_lexeme, block_shown, block_lexeme, plain_lexeme}
use Rattle.granit_machine.specs.NodeLexemes.{quoted_lexeme, note_items, adjacent_unless, with_note, with_gap}
use Rattle.granit_machine.specs.NodeLexemes.{quoted_and_gap}
use Rattle.granit_machine.specs.PossibleKeys.{top_key, forgets_key, is_allowed, start_of_key, is_far_below, layout_of}
use Rattle.granit_machine.specs.Reader.{noded, lexeme_of, is_strict_outside, lexeme_in_column, lexeme_by, lexeme}
use Rattle.granit_machine.specs.Reader.{read_behind, read_whole, read}
use Rattle.granit_machine.specs.ReaderState.{ReaderState, Read, lexeme_to, sign_lexeme, with_tail, read_to, given}
use Rattle.granit_machine.specs.ReaderState.{behind_tail, tailed_by, tailed, refuse_open}
use Rattle.granit_machine.specs.StreamLexemes.{behind_end, text_end, start_mark, behind_end_mark, end_mark_up_to}
use Rattle.granit_machine.specs.StreamLexemes.{end_mark, behind_directive, directive_lexeme}
use Rattle.granit_shifted.specs.Shift.{moved_mark, moved_mark_of, moved_here, moved_comment, moved_tail, moved_key}
use Rattle.granit_shifted.specs.Shift.{moved_lexeme, moved_item, moved_possible, moved_bracket, moved_laid}
use Rattle.granit_shifted.specs.Shift.{moved_reader}
use Rattle.granit_shifted.specs.Shift.{Shift, moved_text, moved_scalar, moved_word, moved_number, moved_place}
use Rattle.granit_shifted.specs.Shift.{moved_possible_key}
use Rattle.granit_shifted.proofs.Sums.{sum_suc}
use Rattle.granit_shifted.proofs.MovedLexemes.{Same, same_ok, same_no, same_if, same_then, same_at, step_moved}
use Rattle.granit_shifted.proofs.MovedLexemes.{steps_moved, past_moved, on_here, on_comment, on_tail, comment_same}
use Rattle.granit_shifted.proofs.MovedBlocks.{block_same, itself, on_given}
use Rattle.granit_shifted.proofs.MovedLexemes.{tail_same, on_plain, plain_same, on_quoted, quoted_same}
use Rattle.granit_shifted.proofs.MovedLexemes.{same_then_from}
use Rattle.granit_shifted.proofs.MovedTags.{tag_same, name_same, on_directive, directive_same, on_name}
use Rattle.granit_shifted.proofs.MovedLaid.{flow_moved, top_moved, forgets_moved, drop_same, stale_same, allowed_moved}
use Rattle.granit_shifted.proofs.MovedLaid.{noded_moved, far_moved, layout_moved, entry_same, pair_same}
use Rattle.granit_shifted.proofs.MovedLaid.{closed_at_moved}
use Rattle.granit_shifted.proofs.MovedLaid.{closed_all_moved, ends_at_moved, ends_all_moved, leading_moved}
use Rattle.granit_shifted.proofs.MovedLaid.{refuse_tab_same, over_break_moved, on_gap, gap_same}
use Rattle.granit_invariants.proofs.ItemSpans.{plain_extends}

module _ (shift : Shift) where
  abbrev pub on_read : List Item × ReaderState → List Item × ReaderState
  on_read x = (map (moved_item shift) x.0, moved_reader shift x.1)

  abbrev pub Reads : Read → Read → Type 0
  Reads r s = Same shift on_read r s

  -- ---- what all lexemes share

  to_moved : (ends : Bool) (kind : LexemeKind) (to : Mark) (h : Here) (l : Laid)
      → lexeme_to ends (moved_word shift (mark_of h) to kind) (moved_mark shift to) (moved_here shift h)
      (moved_laid shift l)
      ≡ moved_lexeme shift (lexeme_to ends kind to h l)
  to_moved ends kind to h l = ap (λ (f : Bool). record (lexeme_to ends (moved_word shift (mark_of h) to kind)
      (moved_mark shift to) (moved_here shift h) (moved_laid shift l)) { in_flow = f }) (flow_moved shift l)

  sign_moved : (ends : Bool) (kind : LexemeKind) (h : Here) (l : Laid)
      → sign_lexeme ends (moved_word shift (mark_of h) (mark_of (step h)) kind) (moved_here shift h)
      (moved_laid shift l)
      ≡ moved_lexeme shift (sign_lexeme ends kind h l)
  sign_moved ends kind h l =
      ap (λ (g : Here). lexeme_to ends (moved_word shift (mark_of h) (mark_of (step h)) kind) (mark_of g)
      (moved_here shift h) (moved_laid shift l)) (step_moved shift h)
      ∙ to_moved ends kind (mark_of (step h)) h l

  read_same : (y x : Lexeme) (g h : Here) (m l : Laid) → y ≡ moved_lexeme shift x → g ≡ moved_here shift h
      → m ≡ moved_laid shift l
      → Reads (read_to y g m) (read_to x h l)
  read_same y x g h m l p q r =
      same_ok shift on_read (OfLexeme x ∷ [], record { here = h; laid = l }) _
      (ap₂ (λ (y : Lexeme) (s : ReaderState). let z : List Item × ReaderState = (OfLexeme y ∷ [], s) in z) p
      (ap₂ (λ (h : Here) (l : Laid). let s : ReaderState = record { here = h; laid = l } in s) q r))

  raised_laid : (n k : ℕ) (l : Laid) → n ≡ moved_number shift k
      → record (moved_laid shift l) { number = n } ≡ moved_laid shift (record l { number = k })
  raised_laid n k l e = ap (λ (n : ℕ). record (moved_laid shift l) { number = n }) e

  behind_moved : (last : LastLexeme) (l : Laid)
      → behind_lexeme last (moved_laid shift l) ≡ moved_laid shift (behind_lexeme last l)
  behind_moved last l = raised_laid _ (suc l.number) (behind_lexeme last l) (sum_suc shift.lexemes l.number)

  given_same : (y x : Lexeme) (last : LastLexeme) (g h : Here) (m l : Laid) → y ≡ moved_lexeme shift x
      → g ≡ moved_here shift h
      → m ≡ moved_laid shift l → Reads (given y last g m) (given x last h l)
  given_same y x last g h m l p q r = read_same y x g h (behind_lexeme last m) (behind_lexeme last l) p q
      (ap (behind_lexeme last) r ∙ behind_moved last l)

  behind_tail_moved : (last : LastLexeme) (tail : Option CommentRead)
      → behind_tail last (moved_tail shift tail) ≡ behind_tail last tail
  behind_tail_moved Adjacent None = refl
  behind_tail_moved Adjacent (Some c) = refl
  behind_tail_moved last tail = refl

  tailed_by_same : (y x : Lexeme) (last : LastLexeme) (m l : Laid) (tail : Option CommentRead) (h : Here)
      → y ≡ moved_lexeme shift x → m ≡ moved_laid shift l
      → Reads (tailed_by y last m (moved_tail shift tail) (moved_here shift h))
      (tailed_by x last l tail h)
  tailed_by_same y x last m l tail h p r =
      same_at shift on_read (λ (last : LastLexeme). given (with_tail y (moved_tail shift tail)) last
      (moved_here shift h) m)
      (behind_tail last (moved_tail shift tail)) (behind_tail last tail) _ (behind_tail_moved last tail)
      (given_same _ (with_tail x tail) (behind_tail last tail) _ h m l
      (ap (λ (y : Lexeme). with_tail y (moved_tail shift tail)) p) refl r)

  tailed_same : (y x : Lexeme) (last : LastLexeme) (g end : Here) (m l : Laid) → y ≡ moved_lexeme shift x
      → g ≡ moved_here shift end
      → m ≡ moved_laid shift l → Reads (tailed y last g m) (tailed x last end l)
  unfolding tailed
  tailed_same y x last g end m l p q r =
      same_then shift (on_tail shift) on_read _ _ _ _
      (same_at shift (on_tail shift) tail_at g (moved_here shift end) (tail_at end) q (tail_same shift end))
      (λ t. tailed_by_same y x last m l t.0 t.1 p r)

  open_same : (bs : List OpenBracket) → Same shift (itself shift) (refuse_open (map (moved_bracket shift) bs))
      (refuse_open bs)
  open_same [] = same_ok shift (itself shift) tt tt refl
  open_same (b ∷ bs) = same_no shift (itself shift)
      (fault_at (kinds.UnclosedFlowCollection (opener_char b.bracket)) b.mark)

  -- ---- brackets and `,`

  opened_moved : (bracket : Bracket) (m : Mark) (l : Laid)
      → opened bracket (moved_mark shift m) (moved_laid shift l) ≡ moved_laid shift (opened bracket m l)
  opened_moved bracket m l = ap (λ (f : Bool). record (opened bracket (moved_mark shift m) (moved_laid shift l)) {
    rolled = l.rolled
        || (not f && is_nonempty l.columns);
  }) (flow_moved shift l)

  opener_same : (o : OptionsData) (bracket : Bracket) (ends : Bool) (h : Here) (l : Laid)
      → Reads (opener o bracket ends (moved_here shift h) (moved_laid shift l)) (opener o bracket ends h l)
  unfolding opener
  opener_same o bracket ends h l =
      same_at shift on_read (λ (n : ℕ). if nat_le o.flow_nesting_limit n then fails_at kinds.RecursionLimitExceeded
      (moved_mark shift (mark_of h)) else tailed
      (sign_lexeme ends (Open bracket) (moved_here shift h) (moved_laid shift l))
      Opener
      (step (moved_here shift h)) (opened bracket (moved_mark shift (mark_of h)) (moved_laid shift l)))
      (length (map (moved_bracket shift) l.brackets)) (length l.brackets) _
      (length-map l.brackets (moved_bracket shift))
      (same_if shift on_read (nat_le o.flow_nesting_limit (length l.brackets)) _ _ _ _
      (same_no shift on_read (fault_at kinds.RecursionLimitExceeded (mark_of h)))
      (tailed_same _ (sign_lexeme ends (Open bracket) h l) Opener _ (step h) _ (opened bracket (mark_of h) l)
      (sign_moved ends (Open bracket) h l) (step_moved shift h) (opened_moved bracket (mark_of h) l)))

  closer_by_same : (bracket : Bracket) (bs : List OpenBracket) (ends : Bool) (h : Here) (l : Laid)
      → Reads (closer_by bracket (map (moved_bracket shift) bs) ends (moved_here shift h) (moved_laid shift l))
      (closer_by bracket bs ends h l)
  unfolding closes
  closer_by_same bracket [] ends h l = same_no shift on_read (fault_at kinds.MisplacedFlowCollectionEnd (mark_of h))
  closer_by_same bracket (b ∷ bs) ends h l =
      same_if shift on_read (not (same_bracket b.bracket bracket)) _ _ _ _
      (same_no shift on_read (fault_at (kinds.MismatchedFlowCollectionEnd (opener_char b.bracket) (closer_char bracket))
      b.mark)) (tailed_same _ (sign_lexeme ends (Close bracket) h l) Adjacent _ (step h) _ (closed_bracket bs l)
      (sign_moved ends (Close bracket) h l) (step_moved shift h) refl)

  comma_last_moved : (l : Laid) → last_of_comma (moved_laid shift l) ≡ last_of_comma l
  comma_last_moved l = ap (λ (f : Bool). if f then Opener else Another) (flow_moved shift l)

  comma_same : (ends : Bool) (h : Here) (l : Laid)
      → Reads (comma ends (moved_here shift h) (moved_laid shift l)) (comma ends h l)
  comma_same ends h l =
      same_then shift (moved_laid shift) on_read _ _ _ _ (drop_same shift l)
      (λ t. same_at shift on_read (λ (last : LastLexeme). tailed
      (sign_lexeme ends Comma (moved_here shift h) (moved_laid shift l)) last
      (step (moved_here shift h)) (moved_laid shift t)) (last_of_comma (moved_laid shift l)) (last_of_comma l) _
      (comma_last_moved l)
      (tailed_same _ (sign_lexeme ends Comma h l) (last_of_comma l) _ (step h) _ t (sign_moved ends Comma h l)
      (step_moved shift h) refl))

  -- ---- `-`

  some_tab : (t : Option Mark) → Rattle.std.specs.Prelude.is_some (moved_mark_of shift t)
      ≡ Rattle.std.specs.Prelude.is_some t
  some_tab None = refl
  some_tab (Some m) = refl

  tabbed_moved : (h : Here) → is_tabbed_dash (moved_here shift h) ≡ is_tabbed_dash h
  unfolding is_tabbed_dash
  tabbed_moved h = ap (λ (b : Bool). (b && next_char h == 0x2D)
      && Rattle.granit_base.specs.Classes.is_blank_or_breakz (slice_index h.unread.text 1)) (some_tab h.tab)

  behind_dash_same : (y x : Lexeme) (l : Laid) (tail : Option CommentRead) (h : Here) → y ≡ moved_lexeme shift x
      → Reads (behind_dash y (moved_laid shift l) (moved_tail shift tail) (moved_here shift h)) (behind_dash x l tail h)
  unfolding behind_dash
  behind_dash_same y x l tail h p =
      same_at shift on_read (λ (b : Bool). if b then fails_at kinds.InvalidBlockEntryWhitespace
      (moved_mark shift (mark_of h)) else
      given (dash_lexeme y (moved_tail shift tail) (moved_here shift h)) BehindDash (moved_here shift h)
      (forgets_key (widened_if (is_before_break h) (moved_laid shift l)))) (is_tabbed_dash (moved_here shift h))
      (is_tabbed_dash h)
      _ (tabbed_moved h)
      (same_if shift on_read (is_tabbed_dash h) _ _ _ _
      (same_no shift on_read (fault_at kinds.InvalidBlockEntryWhitespace (mark_of h)))
      (given_same _ (dash_lexeme x tail h) BehindDash _ h _ (forgets_key (widened_if (is_before_break h) l))
      (ap (λ (y : Lexeme). dash_lexeme y (moved_tail shift tail) (moved_here shift h)) p) refl
      (forgets_moved shift (widened_if (is_before_break h) l))))

  dash_up_same : (y x : Lexeme) (g end : Here) (l : Laid) → y ≡ moved_lexeme shift x → g ≡ moved_here shift end
      → Reads (dash_up_to y g (moved_laid shift l)) (dash_up_to x end l)
  unfolding dash_up_to
  dash_up_same y x g end l p q = same_then shift (on_tail shift) on_read _ _ _ _
      (same_at shift (on_tail shift) tail_at g (moved_here shift end) (tail_at end) q (tail_same shift end))
      (λ t. behind_dash_same y x l t.0 t.1 p)

  -- outside flow, where an entry may stand
  guarded : (o : OptionsData) (h : Here) (l : Laid) (r s : Read) (a : Mark → Read) (b : Mark → Read)
      → ((m : Mark) → Reads (a (moved_mark shift m)) (b m)) → (y x : Bool) → y ≡ x → Reads r s
      → Reads (if not y then a (moved_mark shift (mark_of h)) else r) (if not x then b (mark_of h) else s)
  guarded o h l r s a b p y x e q = same_at shift on_read
      (λ (y : Bool). if not y then a (moved_mark shift (mark_of h)) else r) y x _ e
      (same_if shift on_read (not x) _ _ _ _ (p (mark_of h)) q)

  dash_same : (o : OptionsData) (ends : Bool) (h : Here) (l : Laid)
      → Reads (dash o ends (moved_here shift h) (moved_laid shift l)) (dash o ends h l)
  unfolding dash
  dash_same o ends h l =
      same_at shift on_read (λ (f : Bool). if f then fails_at kinds.BlockEntryInFlowCollection
      (moved_mark shift (mark_of h)) else
      if not (is_allowed h.begins_line (moved_mark_of shift h.tab) (moved_laid shift l)) then fails_at
      kinds.BlockSequenceEntryNotAllowed (moved_mark shift (mark_of h)) else with_entry o h.place.column
      (moved_mark shift (mark_of h)) (moved_laid shift l) >>= dash_up_to
      (sign_lexeme ends Dash (moved_here shift h) (moved_laid shift l))
      (step (moved_here shift h))) (is_in_flow (moved_laid shift l)) (is_in_flow l) _ (flow_moved shift l)
      (same_if shift on_read (is_in_flow l) _ _ _ _
      (same_no shift on_read (fault_at kinds.BlockEntryInFlowCollection (mark_of h)))
      (guarded o h l _ _ (fails_at kinds.BlockSequenceEntryNotAllowed) (fails_at kinds.BlockSequenceEntryNotAllowed)
      (λ m. same_no shift on_read (fault_at kinds.BlockSequenceEntryNotAllowed m)) _ _
      (allowed_moved shift h.begins_line h.tab l)
      (same_then shift (moved_laid shift) on_read _ _ _ _ (entry_same shift o h.place.column (mark_of h) l)
      (λ t. dash_up_same _ (sign_lexeme ends Dash h l) _ (step h) t (sign_moved ends Dash h l) (step_moved shift h)))))

  -- ---- `?`

  question_up_same : (o : OptionsData) (y x : Lexeme) (h : Here) (l : Laid) → y ≡ moved_lexeme shift x
      → Reads (question_up_to o y (moved_here shift h) (moved_laid shift l)) (question_up_to o x h l)
  unfolding question_up_to
  question_up_same o y x h l p =
      same_if shift on_read (next_char h == 0x23) _ _ _ _
      (same_then shift (on_comment shift) on_read _ _ _ _ (comment_same shift h)
      (λ c. given_same _ (with_tail x (Some c.0)) BehindQuestion _ c.1 _ l
      (ap (λ (y : Lexeme). with_tail y (Some (moved_comment shift c.0))) p) refl refl))
      (same_then shift (itself shift) on_read _ _ _ _
      (same_at shift (itself shift) (refuse_tab o (moved_laid shift l) (moved_mark shift (mark_of h)))
      (leading_tab (moved_here shift h)) (moved_mark_of shift (leading_tab h))
      (refuse_tab o l (mark_of h) (leading_tab h))
      (leading_moved shift h) (refuse_tab_same shift o l (mark_of h) (leading_tab h)))
      (λ u. given_same y x BehindQuestion _ h _ l p refl refl))

  behind_question_moved : (l : Laid) → behind_question (moved_laid shift l) ≡ moved_laid shift (behind_question l)
  behind_question_moved l = forgets_moved shift (record l { rolled = false; last = BehindQuestion })

  question_by_same : (o : OptionsData) (y x : Lexeme) (h : Here) (l : Laid) → y ≡ moved_lexeme shift x
      → Reads (question_by o y (moved_here shift h) (moved_laid shift l)) (question_by o x h l)
  unfolding question_by
  question_by_same o y x h l p =
      same_at shift on_read (λ (g : Here). if nul_behind h then fails_at kinds.ExpectedWhitespace (mark_of g) else
      question_up_to o y (past is_gap g) (behind_question (moved_laid shift l))) (step (moved_here shift h))
      (moved_here shift (step h)) _
      (step_moved shift h)
      (same_if shift on_read (nul_behind h) _ _ _ _
      (same_no shift on_read (fault_at kinds.ExpectedWhitespace (mark_of (step h))))
      (same_at shift on_read (λ (g : Here). question_up_to o y g (behind_question (moved_laid shift l)))
      (past is_gap (moved_here shift (step h))) (moved_here shift (past is_gap (step h))) _
      (past_moved shift is_gap (step h))
      (same_at shift on_read (question_up_to o y (moved_here shift (past is_gap (step h))))
      (behind_question (moved_laid shift l))
      (moved_laid shift (behind_question l)) _ (behind_question_moved l)
      (question_up_same o y x (past is_gap (step h)) (behind_question l) p))))

  question_same : (o : OptionsData) (ends : Bool) (h : Here) (l : Laid)
      → Reads (question o ends (moved_here shift h) (moved_laid shift l)) (question o ends h l)
  unfolding question
  question_same o ends h l =
      same_at shift on_read (λ (f : Bool). if f then given
      (sign_lexeme ends Question (moved_here shift h) (moved_laid shift l)) Another
      (step (moved_here shift h)) (forgets_key (moved_laid shift l)) else if not
      (is_allowed h.begins_line (moved_mark_of shift h.tab) (moved_laid shift l)) then fails_at
      kinds.MappingKeyNotAllowed
      (moved_mark shift (mark_of h)) else with_entry o h.place.column (moved_mark shift (mark_of h))
      (moved_laid shift l) >>=
      question_by o
      (sign_lexeme ends Question (moved_here shift h) (moved_laid shift l)) (moved_here shift h))
      (is_in_flow (moved_laid shift l)) (is_in_flow l)
      _ (flow_moved shift l)
      (same_if shift on_read (is_in_flow l) _ _ _ _ (given_same _ (sign_lexeme ends Question h l) Another _ (step h) _
      (forgets_key l) (sign_moved ends Question h l) (step_moved shift h) (forgets_moved shift l))
      (guarded o h l _ _ (fails_at kinds.MappingKeyNotAllowed) (fails_at kinds.MappingKeyNotAllowed)
      (λ m. same_no shift on_read (fault_at kinds.MappingKeyNotAllowed m)) _ _
      (allowed_moved shift h.begins_line h.tab l)
      (same_then shift (moved_laid shift) on_read _ _ _ _ (entry_same shift o h.place.column (mark_of h) l)
      (λ t. question_by_same o _ (sign_lexeme ends Question h l) h t (sign_moved ends Question h l)))))

  -- ---- `:`

  colon_moved : (ends : Bool) (key : Option KeyStart) (tail : Option CommentRead) (h : Here) (l : Laid)
      → colon_lexeme ends (moved_key shift key) (moved_tail shift tail) (moved_here shift h) (moved_laid shift l)
      ≡ moved_lexeme shift (colon_lexeme ends key tail h l)
  colon_moved ends key tail h l = ap (λ (y : Lexeme). record y {
    key = moved_key shift key;
    tail = moved_tail shift
        tail;
  })
      (sign_moved ends Colon h l)

  keyed_same : (o : OptionsData) (ends : Bool) (k : PossibleKey) (tail : Option CommentRead) (after h : Here) (l : Laid)
      → Reads (keyed_colon o ends (moved_possible_key shift k) (moved_tail shift tail)
      (moved_here shift after)
      (moved_here shift h) (moved_laid shift l)) (keyed_colon o ends k tail after h l)
  unfolding keyed_colon
  keyed_same o ends k tail after h l =
      let y = colon_lexeme ends (Some (start_of_key (moved_possible_key shift k)))
      (moved_tail shift tail)
      (moved_here shift h) (moved_laid shift l) in
      let x = colon_lexeme ends (Some (start_of_key k)) tail h l in
      let e : y ≡ moved_lexeme shift x = colon_moved ends (Some (start_of_key k)) tail h l in
      same_at shift on_read (λ (b : Bool). if b then fails_at kinds.InvalidColonPlacement (moved_mark shift (mark_of h))
      else
      if is_in_flow (moved_laid shift l) then keyed_given y (moved_here shift after) (moved_laid shift l) else with_pair
      o
      k.start.place.column (moved_mark shift k.start) (moved_laid shift l) >>= keyed_given y (moved_here shift after))
      (is_far_below (moved_place shift h.place) (moved_laid shift l) (moved_possible_key shift k))
      (is_far_below h.place l k)
      _
      (far_moved shift h.place l k)
      (same_if shift on_read (is_far_below h.place l k) _ _ _ _
      (same_no shift on_read (fault_at kinds.InvalidColonPlacement (mark_of h)))
      (same_at shift on_read (λ (f : Bool). if f then keyed_given y (moved_here shift after) (moved_laid shift l) else
      with_pair o
      k.start.place.column (moved_mark shift k.start) (moved_laid shift l) >>= keyed_given y (moved_here shift after))
      (is_in_flow (moved_laid shift l)) (is_in_flow l) _ (flow_moved shift l)
      (same_if shift on_read (is_in_flow l) _ _ _ _
      (given_same y x Another _ after _ (forgets_key l) e refl (forgets_moved shift l))
      (same_then shift (moved_laid shift) on_read _ _ _ _ (pair_same shift o k.start.place.column k.start l)
      (λ t. given_same y x Another _ after _ (forgets_key t) e refl (forgets_moved shift t))))))

  bare_colon_same : (o : OptionsData) (ends : Bool) (tail : Option CommentRead) (after h : Here) (l : Laid)
      → Reads (bare_colon o ends (moved_tail shift tail) (moved_here shift after) (moved_here shift h)
      (moved_laid shift l))
      (bare_colon o ends tail after h l)
  unfolding bare_colon
  bare_colon_same o ends tail after h l =
      let y = colon_lexeme ends None (moved_tail shift tail) (moved_here shift h) (moved_laid shift l) in
      let x = colon_lexeme ends None tail h l in
      let e : y ≡ moved_lexeme shift x = colon_moved ends None tail h l in
      same_at shift on_read (λ (f : Bool). if f then given y Another (moved_here shift after) (moved_laid shift l) else
      if not
      (is_allowed h.begins_line (moved_mark_of shift h.tab) (moved_laid shift l)) then fails_at
      kinds.MappingValueNotAllowed
      (moved_mark shift (mark_of h)) else with_pair o h.place.column (moved_mark shift (mark_of h)) (moved_laid shift l)
      >>=
      bare_given y
      (moved_here shift after)) (is_in_flow (moved_laid shift l)) (is_in_flow l) _ (flow_moved shift l)
      (same_if shift on_read (is_in_flow l) _ _ _ _ (given_same y x Another _ after _ l e refl refl)
      (guarded o h l _ _ (fails_at kinds.MappingValueNotAllowed) (fails_at kinds.MappingValueNotAllowed)
      (λ m. same_no shift on_read (fault_at kinds.MappingValueNotAllowed m)) _ _
      (allowed_moved shift h.begins_line h.tab l)
      (same_then shift (moved_laid shift) on_read _ _ _ _ (pair_same shift o h.place.column (mark_of h) l)
      (λ t. given_same y x Rattle.granit_lexemes.specs.declared.layout.LastLexeme.TheVariants.BehindBareColon _ after
      _ t e refl refl))))

  by_key_same : (o : OptionsData) (ends : Bool) (k : Option PossibleKey) (tail : Option CommentRead) (after h : Here)
      (l : Laid) → Reads (colon_by_key o ends (moved_possible shift k) (moved_tail shift tail) (moved_here shift after)
      (moved_here shift h)
      (moved_laid shift l)) (colon_by_key o ends k tail after h l)
  by_key_same o ends (Some k) tail after h l = keyed_same o ends k tail after h l
  by_key_same o ends None tail after h l = bare_colon_same o ends tail after h l

  colon_tail_same : (h : Here) → Same shift (on_tail shift) (colon_tail (moved_here shift h)) (colon_tail h)
  unfolding colon_tail
  colon_tail_same h = same_if shift (on_tail shift) (is_blank (next_char h)) _ _ _ _ (tail_same shift h)
      (same_ok shift (on_tail shift) (None, h) _ refl)

  colon_same : (o : OptionsData) (ends : Bool) (h : Here) (l : Laid)
      → Reads (colon o ends (moved_here shift h) (moved_laid shift l)) (colon o ends h l)
  unfolding colon
  colon_same o ends h l =
      same_if shift on_read (not (is_adjacent l.last) && opens_flow (slice_index h.unread.text 1)) _ _ _ _
      (same_no shift on_read (fault_at kinds.FlowMappingValueAdjacentCollection (mark_of h)))
      (same_then shift (on_tail shift) on_read _ _ _ _
      (same_at shift (on_tail shift) colon_tail (step (moved_here shift h)) (moved_here shift (step h))
      (colon_tail (step h)) (step_moved shift h) (colon_tail_same (step h)))
      (λ x. same_at shift on_read (λ (k : Option PossibleKey). colon_by_key o ends k (moved_tail shift x.0)
      (moved_here shift x.1)
      (moved_here shift h) (moved_laid shift l)) (top_key (moved_laid shift l)) (moved_possible shift (top_key l)) _
      (top_moved shift l)
      (by_key_same o ends (top_key l) x.0 x.1 h l)))

  -- ---- nodes

  alias_same : (ends : Bool) (h : Here) (l : Laid)
      → Reads (alias_lexeme ends (moved_here shift h) (moved_laid shift l)) (alias_lexeme ends h l)
  alias_same ends h l = same_then shift (on_name shift) on_read _ _ _ _ (name_same shift h)
      (λ x. given_same _ _ Another _ x.1 _ l (to_moved ends (Alias x.0) (mark_of x.1) h l) refl refl)

  anchor_same : (o : OptionsData) (ends : Bool) (h : Here) (l : Laid)
      → Reads (anchor_lexeme o ends (moved_here shift h) (moved_laid shift l)) (anchor_lexeme o ends h l)
  anchor_same o ends h l = same_then shift (on_name shift) on_read _ _ _ _ (name_same shift h)
      (λ x. given_same _ _ (last_of_property o l) _ x.1 _ l (to_moved ends (Anchor x.0) (mark_of x.1) h l) refl refl)

  tag_lexeme_same : (o : OptionsData) (ends : Bool) (h : Here) (l : Laid)
      → Reads (tag_lexeme o ends (moved_here shift h) (moved_laid shift l)) (tag_lexeme o ends h l)
  tag_lexeme_same o ends h l =
      same_then shift (on_here shift) on_read _ _ _ _
      (same_at shift (on_here shift) (λ (f : Bool). tag_at f (moved_here shift h)) (is_in_flow (moved_laid shift l))
      (is_in_flow l) (tag_at (is_in_flow l) h) (flow_moved shift l) (tag_same shift (is_in_flow l) h))
      (λ x. given_same _ _ (last_of_property o l) _ x.1 _ l
      (to_moved ends (Tag x.0.handle x.0.suffix) (mark_of x.1) h l)
      refl refl)

  -- the text of a scalar that isn't plain
  block_text_moved : (literal : Bool) (start end : Mark) (text : Written)
      → moved_text shift text ≡ moved_scalar shift (block_style literal) start end text
  block_text_moved true start end text = refl
  block_text_moved false start end text = refl

  quoted_text_moved : (single : Bool) (start end : Mark) (text : Written)
      → moved_text shift text ≡ moved_scalar shift (quoted_style single) start end text
  quoted_text_moved true start end text = refl
  quoted_text_moved false start end text = refl

  shown_moved : (literal ends : Bool) (b : BlockGiven) (after h : Here) (l : Laid)
      → block_shown literal ends (on_given shift (b, after)).0 (moved_here shift after) (moved_here shift h)
      (moved_laid shift l)
      ≡ moved_lexeme shift (block_shown literal ends b after h l)
  shown_moved literal ends b after h l =
      ap₂ (λ (f : Bool) (text : Written). record (block_shown literal ends (on_given shift (b, after)).0
      (moved_here shift after) (moved_here shift h) (moved_laid shift l)) {
        kind = Scalar (block_style literal) text;
        in_flow = f;
      }) (flow_moved shift l) (block_text_moved literal b.read.shown (mark_of after) b.read.text)

  block_lexeme_same : (literal ends : Bool) (h : Here) (l : Laid)
      → Reads (block_lexeme literal ends (moved_here shift h) (moved_laid shift l)) (block_lexeme literal ends h l)
  block_lexeme_same literal ends h l = same_then shift (on_given shift) on_read _ _ _ _
      (block_same shift literal (block_column l) h)
      (λ x. given_same _ (block_shown literal ends x.0 x.1 h l) Another _ x.1 _ (unrolled l)
      (shown_moved literal ends x.0 x.1 h l) refl refl)

  -- a plain scalar that is written has an extent
  plain_text_moved : (start end : Mark) (text : Written) → (start.place.index == end.place.index) ≡ false
      → moved_text shift text ≡ moved_scalar shift Plain start end text
  plain_text_moved start end text e = sym (cond-false (start.place.index == end.place.index) text
      (moved_text shift text)
      e)

  plain_lexeme_same : (o : OptionsData) (ends : Bool) (h : Here) (l : Laid)
      → is_content (is_in_flow l) h.unread.text ≡ true
      → Reads (plain_lexeme o ends (moved_here shift h) (moved_laid shift l)) (plain_lexeme o ends h l)
  plain_lexeme_same o ends h l content =
      let at = layout_of o h.place.column l in
      same_then_from shift (on_plain shift) on_read _ (plain_scalar at h) _ _
      (same_at shift (on_plain shift) (λ at. plain_scalar at (moved_here shift h))
      (layout_of o h.place.column (moved_laid shift l)) at (plain_scalar at h) (layout_moved shift o h.place.column l)
      (plain_same shift at h))
      (λ x e. given_same _ _ Another _ x.1 _ (behind_plain_scalar x.0 l)
      (ap (λ (text : Written). lexeme_to ends (Scalar Plain text) (moved_mark shift x.0.source.end) (moved_here shift h)
      (moved_laid shift l)) (plain_text_moved (mark_of h) x.0.source.end x.0.text
      (plain_extends at h x.0 x.1 content e))
      ∙ to_moved ends (Scalar Plain x.0.text) x.0.source.end h l) refl refl)

  quoted_lexeme_same : (o : OptionsData) (single ends : Bool) (h : Here) (l : Laid)
      → Reads (quoted_lexeme o single ends (moved_here shift h) (moved_laid shift l)) (quoted_lexeme o single ends h l)
  quoted_lexeme_same o single ends h l =
      same_then shift (on_quoted shift) on_read _ _ _ _
      (same_at shift (on_quoted shift) (λ at. quoted_scalar single at (moved_here shift h))
      (layout_of o h.place.column (moved_laid shift l)) (layout_of o h.place.column l)
      (quoted_scalar single (layout_of o h.place.column l) h) (layout_moved shift o h.place.column l)
      (quoted_same shift single (layout_of o h.place.column l) h))
      (λ x. let kind = Scalar (quoted_style single) in
      given_same _ _ Adjacent _ x.1 _ l (ap (λ (y : Lexeme). with_tail y (moved_tail shift x.0.comment))
      (ap (λ (text : Written). lexeme_to ends (kind text) (moved_mark shift x.0.source.end) (moved_here shift h)
      (moved_laid shift l)) (quoted_text_moved single (mark_of h) x.0.source.end x.0.text)
      ∙ to_moved ends (kind x.0.text) x.0.source.end h l)) refl refl)

  notes_moved : (note : Option CommentRead) → note_items (moved_tail shift note)
      ≡ map (moved_item shift) (note_items note)
  notes_moved None = refl
  notes_moved (Some c) = refl

  unless_moved : (note : Option CommentRead) → adjacent_unless (moved_tail shift note) ≡ adjacent_unless note
  unless_moved None = refl
  unless_moved (Some c) = refl

  note_same : (items : List Item) (note : Option CommentRead) (s : ReaderState)
      → Reads (with_note (map (moved_item shift) items) (moved_tail shift note) (moved_reader shift s))
      (with_note items note s)
  note_same items note s =
      same_ok shift on_read (
        items ++ note_items note,
        record { here = s.here; laid = record (s.laid) { last = adjacent_unless note } },
      ) _
      (ap₂ (λ (is : List Item) (last : LastLexeme). let z : List Item
      × ReaderState = (
        is,
        record {
          here = moved_here shift s.here;
          laid =
              record (moved_laid shift s.laid) { last = last };
        },
      ) in z)
      (ap (λ is. map (moved_item shift) items ++ is) (notes_moved note)
      ∙ sym (map-append (moved_item shift) items (note_items note)))
      (unless_moved note))

  with_gap_same : (o : OptionsData) (items : List Item) (s : ReaderState)
      → Reads (with_gap o (map (moved_item shift) items) (moved_reader shift s)) (with_gap o items s)
  with_gap_same o items s = same_then shift (on_gap shift) on_read _ _ _ _ (gap_same shift o s.here s.laid)
      (λ x. note_same items x.0 x.1)

  quoted_gap_same : (o : OptionsData) (single ends : Bool) (h : Here) (l : Laid)
      → Reads (quoted_and_gap o single ends (moved_here shift h) (moved_laid shift l))
      (quoted_and_gap o single ends h l)
  quoted_gap_same o single ends h l = same_then shift on_read on_read _ _ _ _ (quoted_lexeme_same o single ends h l)
      (λ x. with_gap_same o x.0 x.1)

  -- ---- marks, directives and the end

  text_end_same : (h : Here) (l : Laid) → Reads (text_end (moved_here shift h) (moved_laid shift l)) (text_end h l)
  text_end_same h l =
      same_then shift (itself shift) on_read _ _ _ _ (open_same l.brackets)
      (λ u. same_then shift (moved_laid shift) on_read _ _ _ _ (drop_same shift l)
      (λ t. read_same _ (lexeme_to (ends_all l) StreamEnd (mark_of h) h l) _ h _ (behind_end t)
      (ap (λ (b : Bool). lexeme_to b StreamEnd (moved_mark shift (mark_of h)) (moved_here shift h) (moved_laid shift l))
      (ends_all_moved shift l)
      ∙ to_moved (ends_all l) StreamEnd (mark_of h) h l) refl
      (raised_laid _ (suc t.number) (behind_end t) (sum_suc shift.lexemes t.number))))

  three_moved : (ends : Bool) (kind : LexemeKind) (h : Here) (l : Laid)
      → lexeme_to ends (moved_word shift (mark_of h) (mark_of (steps 3 h)) kind)
      (mark_of (steps 3 (moved_here shift h)))
      (moved_here shift h) (moved_laid shift l) ≡ moved_lexeme shift (lexeme_to ends kind (mark_of (steps 3 h)) h l)
  three_moved ends kind h l =
      ap (λ (g : Here). lexeme_to ends (moved_word shift (mark_of h) (mark_of (steps 3 h)) kind) (mark_of g)
      (moved_here shift h) (moved_laid shift l)) (steps_moved shift 3 h) ∙ to_moved ends kind (mark_of (steps 3 h)) h l

  start_mark_same : (ends : Bool) (h : Here) (l : Laid)
      → Reads (start_mark ends (moved_here shift h) (moved_laid shift l)) (start_mark ends h l)
  start_mark_same ends h l = given_same _ (lexeme_to ends DocumentStart (mark_of (steps 3 h)) h l) Another _ (steps 3 h)
      _
      (forgets_key l) (three_moved ends DocumentStart h l) (steps_moved shift 3 h) (forgets_moved shift l)

  behind_mark_moved : (l : Laid) → behind_end_mark (moved_laid shift l) ≡ moved_laid shift (behind_end_mark l)
  behind_mark_moved l =
      ap (λ (l : Laid). record (behind_lexeme Another l) { may_prefix = true }) (forgets_moved shift l)
      ∙ ap (λ (l : Laid). record l { may_prefix = true }) (behind_moved Another (forgets_key l))

  end_up_same : (y x : Lexeme) (l : Laid) (tail : Option CommentRead) (h : Here) → y ≡ moved_lexeme shift x
      → Reads (end_mark_up_to y (moved_laid shift l) (moved_tail shift tail) (moved_here shift h))
      (end_mark_up_to x l tail h)
  unfolding end_mark_up_to
  end_up_same y x l tail h p =
      same_if shift on_read (is_breakz (next_char h)) _ _ _ _
      (read_same _ (with_tail x tail) _ h _ (behind_end_mark l)
      (ap (λ (y : Lexeme). with_tail y (moved_tail shift tail)) p)
      refl (behind_mark_moved l)) (same_no shift on_read (fault_at kinds.InvalidDocumentEnd (mark_of h)))

  end_mark_same : (ends : Bool) (h : Here) (l : Laid)
      → Reads (end_mark ends (moved_here shift h) (moved_laid shift l)) (end_mark ends h l)
  end_mark_same ends h l =
      same_then shift (on_tail shift) on_read _ _ _ _
      (same_at shift (on_tail shift) tail_at (steps 3 (moved_here shift h)) (moved_here shift (steps 3 h))
      (tail_at (steps 3 h)) (steps_moved shift 3 h) (tail_same shift (steps 3 h)))
      (λ x. end_up_same _ (lexeme_to ends DocumentEnd (mark_of (steps 3 h)) h l) l x.0 x.1
      (three_moved ends DocumentEnd h l))

  behind_directive_moved : (l : Laid) → behind_directive (moved_laid shift l) ≡ moved_laid shift (behind_directive l)
  behind_directive_moved l =
      ap (λ (m : Laid). record (behind_lexeme Another m) { may_prefix = l.may_prefix }) (forgets_moved shift l)
      ∙ ap (λ (m : Laid). record m { may_prefix = l.may_prefix }) (behind_moved Another (forgets_key l))

  directive_lexeme_same : (o : OptionsData) (ends : Bool) (h : Here) (l : Laid)
      → Reads (directive_lexeme o ends (moved_here shift h) (moved_laid shift l)) (directive_lexeme o ends h l)
  directive_lexeme_same o ends h l =
      same_then shift (on_directive shift) on_read _ _ _ _ (directive_same shift o h)
      (λ x. read_same _ _ _ (over_break_if x.1) _ (behind_directive l)
      (ap (λ (y : Lexeme). with_tail y (moved_tail shift x.0.noted))
      (to_moved ends (Directive x.0.kind) x.0.source.end h l))
      (over_break_moved shift x.1) (behind_directive_moved l))

  -- ---- any lexeme

  lexeme_of_same : (o : OptionsData) (sort : PlacedSort) (ends : Bool) (h : Here) (l : Laid)
      → (sort ≡ PlainSign → is_content (is_in_flow l) h.unread.text ≡ true)
      → Reads (lexeme_of o sort ends (moved_here shift h) (moved_laid shift l)) (lexeme_of o sort ends h l)
  unfolding lexeme_of
  lexeme_of_same o (OpenSign bracket) ends h l held = same_at shift on_read (opener o bracket ends (moved_here shift h))
      _
      _ _
      (noded_moved shift false h l) (opener_same o bracket ends h (noded false h l))
  lexeme_of_same o (CloseSign bracket) ends h l held = closer_by_same bracket l.brackets ends h l
  lexeme_of_same o CommaSign ends h l held = comma_same ends h l
  lexeme_of_same o DashSign ends h l held = dash_same o ends h l
  lexeme_of_same o QuestionSign ends h l held = question_same o ends h l
  lexeme_of_same o ColonSign ends h l held = colon_same o ends h l
  lexeme_of_same o AliasSign ends h l held = same_at shift on_read (alias_lexeme ends (moved_here shift h)) _ _ _
      (noded_moved shift false h l)
      (alias_same ends h (noded false h l))
  lexeme_of_same o AnchorSign ends h l held = same_at shift on_read (anchor_lexeme o ends (moved_here shift h)) _ _ _
      (noded_moved shift true h l)
      (anchor_same o ends h (noded true h l))
  lexeme_of_same o TagSign ends h l held = same_at shift on_read (tag_lexeme o ends (moved_here shift h)) _ _ _
      (noded_moved shift true h l)
      (tag_lexeme_same o ends h (noded true h l))
  lexeme_of_same o (BlockSign literal) ends h l held = same_at shift on_read
      (block_lexeme literal ends (moved_here shift h)) _ _ _
      (noded_moved shift false h l) (block_lexeme_same literal ends h (noded false h l))
  lexeme_of_same o (QuoteSign single) ends h l held = same_at shift on_read
      (quoted_and_gap o single ends (moved_here shift h)) _ _ _
      (noded_moved shift false h l) (quoted_gap_same o single ends h (noded false h l))
  lexeme_of_same o StrayMark ends h l held = same_no shift on_read (fault_at kinds.BomInsideDocument (mark_of h))
  lexeme_of_same o NoSign ends h l held = same_no shift on_read
      (fault_at (kinds.UnexpectedCharacter (next_char h)) (mark_of h))
  lexeme_of_same o PlainSign ends h l held = same_at shift on_read (plain_lexeme o ends (moved_here shift h)) _ _ _
      (noded_moved shift false h l)
      (plain_lexeme_same o ends h (noded false h l)
      (ap (λ (f : Bool). is_content f h.unread.text) (noded-flow false h l) ∙ held refl))

  outside_moved : (o : OptionsData) (column : ℕ) (l : Laid)
      → is_strict_outside o column (moved_laid shift l) ≡ is_strict_outside o column l
  unfolding is_strict_outside
  outside_moved o column l = ap (λ (f : Bool). (o.strict_indentation && f) && is_left (block_column l) column)
      (flow_moved shift l)

  in_column_same : (o : OptionsData) (sort : PlacedSort) (ends : Bool) (h : Here) (l : Laid)
      → (sort ≡ PlainSign → is_content (is_in_flow l) h.unread.text ≡ true)
      → Reads (lexeme_in_column o sort ends (moved_here shift h) (moved_laid shift l))
      (lexeme_in_column o sort ends h l)
  unfolding lexeme_in_column
  in_column_same o sort ends h l held =
      same_at shift on_read (λ (b : Bool). if b then fails_at kinds.InvalidIndentation (moved_mark shift (mark_of h))
      else
      lexeme_of o
      sort ends (moved_here shift h) (moved_laid shift l)) (is_strict_outside o h.place.column (moved_laid shift l))
      (is_strict_outside o h.place.column l) _ (outside_moved o h.place.column l)
      (same_if shift on_read (is_strict_outside o h.place.column l) _ _ _ _
      (same_no shift on_read (fault_at kinds.InvalidIndentation (mark_of h))) (lexeme_of_same o sort ends h l held))

  -- a lexeme that ends all columns
  all_same : (l : Laid) (F G : Bool → Laid → Read)
      → ((ends : Bool) (l : Laid) → Reads (F ends (moved_laid shift l)) (G ends l))
      → Reads (F (ends_all (moved_laid shift l)) (closed_all (moved_laid shift l))) (G (ends_all l) (closed_all l))
  all_same l F G p =
      same_at shift on_read (λ (b : Bool). F b (closed_all (moved_laid shift l))) (ends_all (moved_laid shift l))
      (ends_all l) _
      (ends_all_moved shift l)
      (same_at shift on_read (F (ends_all l)) (closed_all (moved_laid shift l)) (moved_laid shift (closed_all l)) _
      (closed_all_moved shift l)
      (p (ends_all l) (closed_all l)))

  by_same : (o : OptionsData) (sort : LexemeSort) (h : Here) (l : Laid)
      → (sort ≡ Placed PlainSign → is_content (is_in_flow l) h.unread.text ≡ true)
      → Reads (lexeme_by o sort (moved_here shift h) (moved_laid shift l)) (lexeme_by o sort h l)
  unfolding lexeme_by
  by_same o TextEnd h l held = text_end_same h l
  by_same o StartMark h l held = same_then shift (itself shift) on_read _ _ _ _ (open_same l.brackets)
      (λ u. all_same l (λ b. start_mark b (moved_here shift h)) (λ b. start_mark b h) (λ b l. start_mark_same b h l))
  by_same o EndMark h l held = same_then shift (itself shift) on_read _ _ _ _ (open_same l.brackets)
      (λ u. all_same l (λ b. end_mark b (moved_here shift h)) (λ b. end_mark b h) (λ b l. end_mark_same b h l))
  by_same o DirectiveSign h l held = all_same l (λ b. directive_lexeme o b (moved_here shift h))
      (λ b. directive_lexeme o b h)
      (λ b l. directive_lexeme_same o b h l)
  by_same o Unprintable h l held = same_no shift on_read
      (fault_at (kinds.UnexpectedCharacter (next_char h)) (mark_of h))
  by_same o (Placed sort) h l held =
      same_at shift on_read (λ (b : Bool). lexeme_in_column o sort b (moved_here shift h)
      (closed_at h.place.column (moved_laid shift l)))
      (ends_at h.place.column (moved_laid shift l)) (ends_at h.place.column l) _ (ends_at_moved shift h.place.column l)
      (same_at shift on_read (lexeme_in_column o sort (ends_at h.place.column l) (moved_here shift h))
      (closed_at h.place.column (moved_laid shift l)) (moved_laid shift (closed_at h.place.column l)) _
      (closed_at_moved shift h.place.column l) (in_column_same o sort (ends_at h.place.column l) h
      (closed_at h.place.column l) (λ e. held (ap (λ (sort : PlacedSort). Placed sort) e))))

  sort_moved : (in_flow adjacent : Bool) (h : Here)
      → sort_at in_flow adjacent (moved_here shift h) ≡ sort_at in_flow adjacent h
  unfolding sort_at
  sort_moved in_flow adjacent h = refl

  lexeme_same : (o : OptionsData) (h : Here) (l : Laid) → is_gap (next_char h) ≡ false
      → Reads (lexeme o (moved_here shift h) (moved_laid shift l)) (lexeme o h l)
  lexeme_same o h l stops =
      same_at shift on_read (λ sort. lexeme_by o sort (moved_here shift h) (moved_laid shift l))
      (sort_at (is_in_flow (moved_laid shift l)) (is_adjacent l.last) (moved_here shift h))
      (sort_at (is_in_flow l) (is_adjacent l.last) h) _
      (ap (λ (f : Bool). sort_at f (is_adjacent l.last) (moved_here shift h)) (flow_moved shift l)
      ∙ sort_moved (is_in_flow l) (is_adjacent l.last) h)
      (by_same o (sort_at (is_in_flow l) (is_adjacent l.last) h) h l
      (plain_sign-content (is_in_flow l) (is_adjacent l.last) h stops))

  -- ---- a read

  behind_same : (n : ℕ) (o : OptionsData) (c : Option CommentRead) (s : ReaderState) → GapState n c s
      → Reads (read_behind o (moved_tail shift c) (moved_reader shift s)) (read_behind o c s)
  behind_same n o (Some c) s p = same_ok shift on_read (OfComment c ∷ [], s) _ refl
  behind_same n o None s p =
      same_then shift (moved_laid shift) on_read _ _ _ _ (stale_same shift o (mark_of s.here) s.laid)
      (λ l. lexeme_same o s.here l p.1)

  whole_same : (o : OptionsData) (items : List Item) (s : ReaderState)
      → Reads (read_whole o (map (moved_item shift) items) (moved_reader shift s)) (read_whole o items s)
  whole_same o items s = same_then shift (moved_laid shift) on_read _ _ _ _ (stale_same shift o (mark_of s.here) s.laid)
      (λ l. same_ok shift on_read (items, record { here = s.here; laid = l }) _ refl)

  -- what a gap leaves
  gap_left : (n : ℕ) (r : GapRead) (x : Option CommentRead × ReaderState) → GapFits n r → r ≡ Ok x → GapState n x.0 x.1
  gap_left n r x p e = subst (GapFits n) e p

  pub reads_same : (o : OptionsData) (s : ReaderState) → Reads (read o (moved_reader shift s)) (read o s)
  unfolding read
  reads_same o s =
      let n = reader_len s in
      same_then_from shift (on_gap shift) on_read _ (gap o s.here s.laid) _ _ (gap_same shift o s.here s.laid)
      (λ x e. same_then shift on_read on_read _ _ _ _
      (behind_same n o x.0 x.1 (gap_left n (gap o s.here s.laid) x (gap-fits n o s.here s.laid (omega arith)) e))
      (λ y. whole_same o y.0 y.1))
