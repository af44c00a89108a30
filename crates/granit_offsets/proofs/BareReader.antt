-- Each read gives the same where byte offsets or lending are forgotten.
use Rattle.std.proofs.Common.{◌≡◌, ℕ, ◌==◌, ◌&&◌, ◌||◌, not, Bool, true, false, List, [], ◌∷◌, ◌++◌, length, map}
use Rattle.std.proofs.Common.{Option, Some, None, refl, sym, ap, ap₂, ◌∙◌, Ok, arith, subst}
use Rattle.std.proofs.lemmas.Bool.{cond-false}
use Rattle.std.specs.Prelude.{nat_le, slice_index, if◌then◌else◌}
use Rattle.std.proofs.lemmas.List.{map-append, length-map}
use Rattle.granit_base.specs.Classes.{is_blank, is_gap, is_breakz}
use Rattle.granit_base.specs.Place.{Mark}
use Rattle.granit_base.specs.PlainContent.{is_content}
use Rattle.granit_base.specs.Written.{Written}
use Rattle.granit_base.specs.declared.style.ScalarStyle.TheVariants.{Plain}
use Rattle.granit_error.specs.FaultKind as kinds
use Rattle.granit_error.specs.OptionsData.{OptionsData}
use Rattle.granit_lexemes.specs.Basics.{fails_at}
use Rattle.granit_lexemes.specs.BlockScalar.{BlockGiven, block_style}
use Rattle.granit_lexemes.specs.Comment.{CommentRead}
use Rattle.granit_lexemes.specs.Here.{Here, next_char, mark_of, step, past}
use Rattle.granit_lexemes.specs.LayoutData.{is_left}
use Rattle.granit_lexemes.specs.Lexeme.{opener_char, closer_char, LexemeKind, DocumentStart, DocumentEnd, StreamEnd}
use Rattle.granit_lexemes.specs.Lexeme.{Open, Close, Comma, Dash, Question, Colon, KeyStart, Lexeme, Item, OfLexeme}
use Rattle.granit_lexemes.specs.Lexeme.{OfComment, Alias, Anchor, Directive, Scalar, Tag}
use Rattle.granit_lexemes.specs.declared.layout.Bracket.{Bracket}
use Rattle.granit_lexemes.specs.Moves.{steps}
use Rattle.granit_lexemes.specs.Outcome.{fault_at, ◌>>=◌}
use Rattle.granit_lexemes.specs.PlainScalar.{plain_scalar}
use Rattle.granit_lexemes.specs.QuotedScalar.{quoted_scalar, quoted_style}
use Rattle.granit_lexemes.specs.Tags.{tag_at}
use Rattle.granit_lexemes.specs.Tail.{tail_at}
use Rattle.granit_lexemes.specs.declared.layout.LastLexeme.{LastLexeme}
use Rattle.granit_lexemes.specs.declared.layout.LastLexeme.TheVariants.{Opener, BehindDash, BehindQuestion, Adjacent}
use Rattle.granit_lexemes.specs.declared.layout.LastLexeme.TheVariants.{Another}
use Rattle.granit_lexemes.specs.declared.layout.OpenBracket.{OpenBracket}
use Rattle.granit_lexemes.specs.declared.layout.PossibleKey.{PossibleKey}
use Rattle.granit_termination.proofs.LexLengths.{noded-flow}
use Rattle.granit_termination.proofs.ReadLengths.{reader_len, GapState, GapFits, gap-fits}
use Rattle.granit_machine.proofs.SortLemmas.{plain_sign-content}
use Rattle.granit_machine.specs.Columns.{with_entry, with_pair, closed_at, closed_all, ends_at, ends_all}
use Rattle.granit_machine.specs.FlowLexemes.{opened, opener, closed_bracket, closes, closer_by, last_of_comma, comma}
use Rattle.granit_machine.specs.Gaps.{leading_tab, refuse_tab, over_break_if, GapRead, gap}
use Rattle.granit_machine.specs.IndicatorLexemes.{widened_if, is_tabbed_dash, is_before_break, dash_lexeme, behind_dash}
use Rattle.granit_machine.specs.IndicatorLexemes.{dash_up_to, dash, question_up_to, nul_behind, behind_question}
use Rattle.granit_machine.specs.IndicatorLexemes.{question_by, question, colon_lexeme, keyed_given, keyed_colon}
use Rattle.granit_machine.specs.IndicatorLexemes.{bare_given, bare_colon, colon_by_key, colon_tail, opens_flow, colon}
use Rattle.granit_machine.specs.Laid.{Laid, behind_lexeme, is_adjacent, is_nonempty, is_in_flow, same_bracket}
use Rattle.granit_machine.specs.Laid.{block_column}
use Rattle.granit_machine.specs.LexemeSort.{PlacedSort, OpenSign, CloseSign, CommaSign, DashSign, QuestionSign}
use Rattle.granit_machine.specs.LexemeSort.{ColonSign, AliasSign, AnchorSign, TagSign, BlockSign, QuoteSign, StrayMark}
use Rattle.granit_machine.specs.LexemeSort.{NoSign, PlainSign, LexemeSort, TextEnd, StartMark, EndMark, Unprintable}
use Rattle.granit_machine.specs.LexemeSort.{DirectiveSign, Placed, sort_at}
use Rattle.granit_machine.specs.NodeLexemes.{unrolled, behind_plain_scalar, alias_lexeme, last_of_property}
use Rattle.granit_machine.specs.NodeLexemes.{anchor_lexeme, tag_lexeme, block_shown, block_lexeme, plain_lexeme}
use Rattle.granit_machine.specs.NodeLexemes.{quoted_lexeme, note_items, adjacent_unless, with_note, with_gap}
use Rattle.granit_machine.specs.NodeLexemes.{quoted_and_gap}
use Rattle.granit_machine.specs.PossibleKeys.{top_key, forgets_key, is_allowed, start_of_key, is_far_below, layout_of}
use Rattle.granit_machine.specs.Reader.{noded, lexeme_of, is_strict_outside, lexeme_in_column, lexeme_by, lexeme}
use Rattle.granit_machine.specs.Reader.{read_behind, read_whole, read}
use Rattle.granit_machine.specs.ReaderState.{ReaderState, Read, lexeme_to, sign_lexeme, with_tail, read_to, given}
use Rattle.granit_machine.specs.ReaderState.{behind_tail, tailed_by, tailed, refuse_open}
use Rattle.granit_machine.specs.StreamLexemes.{behind_end, text_end, start_mark, behind_end_mark, end_mark_up_to}
use Rattle.granit_machine.specs.StreamLexemes.{end_mark, behind_directive, directive_lexeme}
use Rattle.granit_feeding.specs.Offsets.{bare_mark, bare_mark_of, bare_here, bare_comment, bare_tail, bare_key}
use Rattle.granit_feeding.specs.Offsets.{bare_lexeme, bare_item, bare_possible, bare_bracket, bare_laid, bare_reader}
use Rattle.granit_feeding.specs.Offsets.{Kept, bare_text, bare_scalar, bare_word}
use Rattle.granit_offsets.proofs.BareLexemes.{Same, same_ok, same_no, same_if, same_then, same_at, step_bare}
use Rattle.granit_offsets.proofs.BareLexemes.{steps_bare, past_bare, on_here, on_comment, on_tail, comment_same}
use Rattle.granit_offsets.proofs.BareLexemes.{tail_same, on_plain, plain_same, on_quoted, quoted_same, on_given}
use Rattle.granit_offsets.proofs.BareLexemes.{block_same, itself, same_then_from}
use Rattle.granit_offsets.proofs.BareTags.{tag_same, name_same, on_directive, directive_same, on_name}
use Rattle.granit_offsets.proofs.BareLaid.{flow_bare, top_bare, forgets_bare, drop_same, stale_same, allowed_bare}
use Rattle.granit_offsets.proofs.BareLaid.{noded_bare, far_bare, layout_bare, entry_same, pair_same, closed_at_bare}
use Rattle.granit_offsets.proofs.BareLaid.{closed_all_bare, ends_at_bare, ends_all_bare, leading_bare}
use Rattle.granit_offsets.proofs.BareLaid.{refuse_tab_same, over_break_bare, on_gap, gap_same}
use Rattle.granit_invariants.proofs.ItemSpans.{plain_extends}

module _ (keep : Kept) where
  abbrev pub on_read : List Item × ReaderState → List Item × ReaderState
  on_read x = (map (bare_item keep) x.0, bare_reader keep x.1)

  abbrev pub Reads : Read → Read → Type 0
  Reads r s = Same keep on_read r s

  -- ---- what all lexemes share

  to_bare : (ends : Bool) (kind : LexemeKind) (to : Mark) (h : Here) (l : Laid)
      → lexeme_to ends (bare_word keep (mark_of h) to kind) (bare_mark keep to) (bare_here keep h) (bare_laid keep l)
      ≡ bare_lexeme keep (lexeme_to ends kind to h l)
  to_bare ends kind to h l = ap (λ (f : Bool). record (lexeme_to ends (bare_word keep (mark_of h) to kind)
      (bare_mark keep to) (bare_here keep h) (bare_laid keep l)) { in_flow = f }) (flow_bare keep l)

  sign_bare : (ends : Bool) (kind : LexemeKind) (h : Here) (l : Laid)
      → sign_lexeme ends (bare_word keep (mark_of h) (mark_of (step h)) kind) (bare_here keep h) (bare_laid keep l)
      ≡ bare_lexeme keep (sign_lexeme ends kind h l)
  sign_bare ends kind h l =
      ap (λ (g : Here). lexeme_to ends (bare_word keep (mark_of h) (mark_of (step h)) kind) (mark_of g)
      (bare_here keep h) (bare_laid keep l)) (step_bare keep h)
      ∙ to_bare ends kind (mark_of (step h)) h l

  read_same : (y x : Lexeme) (g h : Here) (m l : Laid) → y ≡ bare_lexeme keep x → g ≡ bare_here keep h
      → m ≡ bare_laid keep l
      → Reads (read_to y g m) (read_to x h l)
  read_same y x g h m l p q r =
      same_ok keep on_read (OfLexeme x ∷ [], record { here = h; laid = l }) _
      (ap₂ (λ (y : Lexeme) (s : ReaderState). let z : List Item × ReaderState = (OfLexeme y ∷ [], s) in z) p
      (ap₂ (λ (h : Here) (l : Laid). let s : ReaderState = record { here = h; laid = l } in s) q r))

  given_same : (y x : Lexeme) (last : LastLexeme) (g h : Here) (m l : Laid) → y ≡ bare_lexeme keep x
      → g ≡ bare_here keep h
      → m ≡ bare_laid keep l → Reads (given y last g m) (given x last h l)
  given_same y x last g h m l p q r = read_same y x g h (behind_lexeme last m) (behind_lexeme last l) p q
      (ap (behind_lexeme last) r)

  behind_tail_bare : (last : LastLexeme) (tail : Option CommentRead)
      → behind_tail last (bare_tail keep tail) ≡ behind_tail last tail
  behind_tail_bare Adjacent None = refl
  behind_tail_bare Adjacent (Some c) = refl
  behind_tail_bare last tail = refl

  tailed_by_same : (y x : Lexeme) (last : LastLexeme) (m l : Laid) (tail : Option CommentRead) (h : Here)
      → y ≡ bare_lexeme keep x → m ≡ bare_laid keep l
      → Reads (tailed_by y last m (bare_tail keep tail) (bare_here keep h))
      (tailed_by x last l tail h)
  tailed_by_same y x last m l tail h p r =
      same_at keep on_read (λ (last : LastLexeme). given (with_tail y (bare_tail keep tail)) last (bare_here keep h) m)
      (behind_tail last (bare_tail keep tail)) (behind_tail last tail) _ (behind_tail_bare last tail)
      (given_same _ (with_tail x tail) (behind_tail last tail) _ h m l
      (ap (λ (y : Lexeme). with_tail y (bare_tail keep tail)) p) refl r)

  tailed_same : (y x : Lexeme) (last : LastLexeme) (g end : Here) (m l : Laid) → y ≡ bare_lexeme keep x
      → g ≡ bare_here keep end
      → m ≡ bare_laid keep l → Reads (tailed y last g m) (tailed x last end l)
  unfolding tailed
  tailed_same y x last g end m l p q r =
      same_then keep (on_tail keep) on_read _ _ _ _
      (same_at keep (on_tail keep) tail_at g (bare_here keep end) (tail_at end) q (tail_same keep end))
      (λ t. tailed_by_same y x last m l t.0 t.1 p r)

  open_same : (bs : List OpenBracket) → Same keep (itself keep) (refuse_open (map (bare_bracket keep) bs))
      (refuse_open bs)
  open_same [] = same_ok keep (itself keep) tt tt refl
  open_same (b ∷ bs) = same_no keep (itself keep)
      (fault_at (kinds.UnclosedFlowCollection (opener_char b.bracket)) b.mark)

  -- ---- brackets and `,`

  opened_bare : (bracket : Bracket) (m : Mark) (l : Laid)
      → opened bracket (bare_mark keep m) (bare_laid keep l) ≡ bare_laid keep (opened bracket m l)
  opened_bare bracket m l = ap (λ (f : Bool). record (opened bracket (bare_mark keep m) (bare_laid keep l)) {
    rolled = l.rolled
        || (not f && is_nonempty l.columns);
  }) (flow_bare keep l)

  opener_same : (o : OptionsData) (bracket : Bracket) (ends : Bool) (h : Here) (l : Laid)
      → Reads (opener o bracket ends (bare_here keep h) (bare_laid keep l)) (opener o bracket ends h l)
  unfolding opener
  opener_same o bracket ends h l =
      same_at keep on_read (λ (n : ℕ). if nat_le o.flow_nesting_limit n then fails_at kinds.RecursionLimitExceeded
      (bare_mark keep (mark_of h)) else tailed (sign_lexeme ends (Open bracket) (bare_here keep h) (bare_laid keep l))
      Opener
      (step (bare_here keep h)) (opened bracket (bare_mark keep (mark_of h)) (bare_laid keep l)))
      (length (map (bare_bracket keep) l.brackets)) (length l.brackets) _ (length-map l.brackets (bare_bracket keep))
      (same_if keep on_read (nat_le o.flow_nesting_limit (length l.brackets)) _ _ _ _
      (same_no keep on_read (fault_at kinds.RecursionLimitExceeded (mark_of h)))
      (tailed_same _ (sign_lexeme ends (Open bracket) h l) Opener _ (step h) _ (opened bracket (mark_of h) l)
      (sign_bare ends (Open bracket) h l) (step_bare keep h) (opened_bare bracket (mark_of h) l)))

  closer_by_same : (bracket : Bracket) (bs : List OpenBracket) (ends : Bool) (h : Here) (l : Laid)
      → Reads (closer_by bracket (map (bare_bracket keep) bs) ends (bare_here keep h) (bare_laid keep l))
      (closer_by bracket bs ends h l)
  unfolding closes
  closer_by_same bracket [] ends h l = same_no keep on_read (fault_at kinds.MisplacedFlowCollectionEnd (mark_of h))
  closer_by_same bracket (b ∷ bs) ends h l =
      same_if keep on_read (not (same_bracket b.bracket bracket)) _ _ _ _
      (same_no keep on_read (fault_at (kinds.MismatchedFlowCollectionEnd (opener_char b.bracket) (closer_char bracket))
      b.mark)) (tailed_same _ (sign_lexeme ends (Close bracket) h l) Adjacent _ (step h) _ (closed_bracket bs l)
      (sign_bare ends (Close bracket) h l) (step_bare keep h) refl)

  comma_last_bare : (l : Laid) → last_of_comma (bare_laid keep l) ≡ last_of_comma l
  comma_last_bare l = ap (λ (f : Bool). if f then Opener else Another) (flow_bare keep l)

  comma_same : (ends : Bool) (h : Here) (l : Laid)
      → Reads (comma ends (bare_here keep h) (bare_laid keep l)) (comma ends h l)
  comma_same ends h l =
      same_then keep (bare_laid keep) on_read _ _ _ _ (drop_same keep l)
      (λ t. same_at keep on_read (λ (last : LastLexeme). tailed
      (sign_lexeme ends Comma (bare_here keep h) (bare_laid keep l)) last
      (step (bare_here keep h)) (bare_laid keep t)) (last_of_comma (bare_laid keep l)) (last_of_comma l) _
      (comma_last_bare l)
      (tailed_same _ (sign_lexeme ends Comma h l) (last_of_comma l) _ (step h) _ t (sign_bare ends Comma h l)
      (step_bare keep h) refl))

  -- ---- `-`

  some_tab : (t : Option Mark) → Rattle.std.specs.Prelude.is_some (bare_mark_of keep t)
      ≡ Rattle.std.specs.Prelude.is_some t
  some_tab None = refl
  some_tab (Some m) = refl

  tabbed_bare : (h : Here) → is_tabbed_dash (bare_here keep h) ≡ is_tabbed_dash h
  unfolding is_tabbed_dash
  tabbed_bare h = ap (λ (b : Bool). (b && next_char h == 0x2D)
      && Rattle.granit_base.specs.Classes.is_blank_or_breakz (slice_index h.unread.text 1)) (some_tab h.tab)

  behind_dash_same : (y x : Lexeme) (l : Laid) (tail : Option CommentRead) (h : Here) → y ≡ bare_lexeme keep x
      → Reads (behind_dash y (bare_laid keep l) (bare_tail keep tail) (bare_here keep h)) (behind_dash x l tail h)
  unfolding behind_dash
  behind_dash_same y x l tail h p =
      same_at keep on_read (λ (b : Bool). if b then fails_at kinds.InvalidBlockEntryWhitespace
      (bare_mark keep (mark_of h)) else
      given (dash_lexeme y (bare_tail keep tail) (bare_here keep h)) BehindDash (bare_here keep h)
      (forgets_key (widened_if (is_before_break h) (bare_laid keep l)))) (is_tabbed_dash (bare_here keep h))
      (is_tabbed_dash h)
      _ (tabbed_bare h)
      (same_if keep on_read (is_tabbed_dash h) _ _ _ _
      (same_no keep on_read (fault_at kinds.InvalidBlockEntryWhitespace (mark_of h)))
      (given_same _ (dash_lexeme x tail h) BehindDash _ h _ (forgets_key (widened_if (is_before_break h) l))
      (ap (λ (y : Lexeme). dash_lexeme y (bare_tail keep tail) (bare_here keep h)) p) refl
      (forgets_bare keep (widened_if (is_before_break h) l))))

  dash_up_same : (y x : Lexeme) (g end : Here) (l : Laid) → y ≡ bare_lexeme keep x → g ≡ bare_here keep end
      → Reads (dash_up_to y g (bare_laid keep l)) (dash_up_to x end l)
  unfolding dash_up_to
  dash_up_same y x g end l p q = same_then keep (on_tail keep) on_read _ _ _ _
      (same_at keep (on_tail keep) tail_at g (bare_here keep end) (tail_at end) q (tail_same keep end))
      (λ t. behind_dash_same y x l t.0 t.1 p)

  -- outside flow, where an entry may stand
  guarded : (o : OptionsData) (h : Here) (l : Laid) (r s : Read) (a : Mark → Read) (b : Mark → Read)
      → ((m : Mark) → Reads (a (bare_mark keep m)) (b m)) → (y x : Bool) → y ≡ x → Reads r s
      → Reads (if not y then a (bare_mark keep (mark_of h)) else r) (if not x then b (mark_of h) else s)
  guarded o h l r s a b p y x e q = same_at keep on_read
      (λ (y : Bool). if not y then a (bare_mark keep (mark_of h)) else r) y x _ e
      (same_if keep on_read (not x) _ _ _ _ (p (mark_of h)) q)

  dash_same : (o : OptionsData) (ends : Bool) (h : Here) (l : Laid)
      → Reads (dash o ends (bare_here keep h) (bare_laid keep l)) (dash o ends h l)
  unfolding dash
  dash_same o ends h l =
      same_at keep on_read (λ (f : Bool). if f then fails_at kinds.BlockEntryInFlowCollection
      (bare_mark keep (mark_of h)) else
      if not (is_allowed h.begins_line (bare_mark_of keep h.tab) (bare_laid keep l)) then fails_at
      kinds.BlockSequenceEntryNotAllowed (bare_mark keep (mark_of h)) else with_entry o h.place.column
      (bare_mark keep (mark_of h)) (bare_laid keep l) >>= dash_up_to
      (sign_lexeme ends Dash (bare_here keep h) (bare_laid keep l))
      (step (bare_here keep h))) (is_in_flow (bare_laid keep l)) (is_in_flow l) _ (flow_bare keep l)
      (same_if keep on_read (is_in_flow l) _ _ _ _
      (same_no keep on_read (fault_at kinds.BlockEntryInFlowCollection (mark_of h)))
      (guarded o h l _ _ (fails_at kinds.BlockSequenceEntryNotAllowed) (fails_at kinds.BlockSequenceEntryNotAllowed)
      (λ m. same_no keep on_read (fault_at kinds.BlockSequenceEntryNotAllowed m)) _ _
      (allowed_bare keep h.begins_line h.tab l)
      (same_then keep (bare_laid keep) on_read _ _ _ _ (entry_same keep o h.place.column (mark_of h) l)
      (λ t. dash_up_same _ (sign_lexeme ends Dash h l) _ (step h) t (sign_bare ends Dash h l) (step_bare keep h)))))

  -- ---- `?`

  question_up_same : (o : OptionsData) (y x : Lexeme) (h : Here) (l : Laid) → y ≡ bare_lexeme keep x
      → Reads (question_up_to o y (bare_here keep h) (bare_laid keep l)) (question_up_to o x h l)
  unfolding question_up_to
  question_up_same o y x h l p =
      same_if keep on_read (next_char h == 0x23) _ _ _ _
      (same_then keep (on_comment keep) on_read _ _ _ _ (comment_same keep h)
      (λ c. given_same _ (with_tail x (Some c.0)) BehindQuestion _ c.1 _ l
      (ap (λ (y : Lexeme). with_tail y (Some (bare_comment keep c.0))) p) refl refl))
      (same_then keep (itself keep) on_read _ _ _ _
      (same_at keep (itself keep) (refuse_tab o (bare_laid keep l) (bare_mark keep (mark_of h)))
      (leading_tab (bare_here keep h)) (bare_mark_of keep (leading_tab h)) (refuse_tab o l (mark_of h) (leading_tab h))
      (leading_bare keep h) (refuse_tab_same keep o l (mark_of h) (leading_tab h)))
      (λ u. given_same y x BehindQuestion _ h _ l p refl refl))

  behind_question_bare : (l : Laid) → behind_question (bare_laid keep l) ≡ bare_laid keep (behind_question l)
  behind_question_bare l = forgets_bare keep (record l { rolled = false; last = BehindQuestion })

  question_by_same : (o : OptionsData) (y x : Lexeme) (h : Here) (l : Laid) → y ≡ bare_lexeme keep x
      → Reads (question_by o y (bare_here keep h) (bare_laid keep l)) (question_by o x h l)
  unfolding question_by
  question_by_same o y x h l p =
      same_at keep on_read (λ (g : Here). if nul_behind h then fails_at kinds.ExpectedWhitespace (mark_of g) else
      question_up_to o y (past is_gap g) (behind_question (bare_laid keep l))) (step (bare_here keep h))
      (bare_here keep (step h)) _
      (step_bare keep h)
      (same_if keep on_read (nul_behind h) _ _ _ _
      (same_no keep on_read (fault_at kinds.ExpectedWhitespace (mark_of (step h))))
      (same_at keep on_read (λ (g : Here). question_up_to o y g (behind_question (bare_laid keep l)))
      (past is_gap (bare_here keep (step h))) (bare_here keep (past is_gap (step h))) _ (past_bare keep is_gap (step h))
      (same_at keep on_read (question_up_to o y (bare_here keep (past is_gap (step h))))
      (behind_question (bare_laid keep l))
      (bare_laid keep (behind_question l)) _ (behind_question_bare l)
      (question_up_same o y x (past is_gap (step h)) (behind_question l) p))))

  question_same : (o : OptionsData) (ends : Bool) (h : Here) (l : Laid)
      → Reads (question o ends (bare_here keep h) (bare_laid keep l)) (question o ends h l)
  unfolding question
  question_same o ends h l =
      same_at keep on_read (λ (f : Bool). if f then given
      (sign_lexeme ends Question (bare_here keep h) (bare_laid keep l)) Another
      (step (bare_here keep h)) (forgets_key (bare_laid keep l)) else if not
      (is_allowed h.begins_line (bare_mark_of keep h.tab) (bare_laid keep l)) then fails_at kinds.MappingKeyNotAllowed
      (bare_mark keep (mark_of h)) else with_entry o h.place.column (bare_mark keep (mark_of h)) (bare_laid keep l) >>=
      question_by o
      (sign_lexeme ends Question (bare_here keep h) (bare_laid keep l)) (bare_here keep h))
      (is_in_flow (bare_laid keep l)) (is_in_flow l)
      _ (flow_bare keep l)
      (same_if keep on_read (is_in_flow l) _ _ _ _ (given_same _ (sign_lexeme ends Question h l) Another _ (step h) _
      (forgets_key l) (sign_bare ends Question h l) (step_bare keep h) (forgets_bare keep l))
      (guarded o h l _ _ (fails_at kinds.MappingKeyNotAllowed) (fails_at kinds.MappingKeyNotAllowed)
      (λ m. same_no keep on_read (fault_at kinds.MappingKeyNotAllowed m)) _ _ (allowed_bare keep h.begins_line h.tab l)
      (same_then keep (bare_laid keep) on_read _ _ _ _ (entry_same keep o h.place.column (mark_of h) l)
      (λ t. question_by_same o _ (sign_lexeme ends Question h l) h t (sign_bare ends Question h l)))))

  -- ---- `:`

  colon_bare : (ends : Bool) (key : Option KeyStart) (tail : Option CommentRead) (h : Here) (l : Laid)
      → colon_lexeme ends (bare_key keep key) (bare_tail keep tail) (bare_here keep h) (bare_laid keep l)
      ≡ bare_lexeme keep (colon_lexeme ends key tail h l)
  colon_bare ends key tail h l = ap (λ (y : Lexeme). record y { key = bare_key keep key; tail = bare_tail keep tail })
      (sign_bare ends Colon h l)

  keyed_same : (o : OptionsData) (ends : Bool) (k : PossibleKey) (tail : Option CommentRead) (after h : Here) (l : Laid)
      → Reads (keyed_colon o ends (record k { start = bare_mark keep k.start }) (bare_tail keep tail)
      (bare_here keep after)
      (bare_here keep h) (bare_laid keep l)) (keyed_colon o ends k tail after h l)
  unfolding keyed_colon
  keyed_same o ends k tail after h l =
      let y = colon_lexeme ends (Some (start_of_key (record k { start = bare_mark keep k.start })))
      (bare_tail keep tail)
      (bare_here keep h) (bare_laid keep l) in
      let x = colon_lexeme ends (Some (start_of_key k)) tail h l in
      let e : y ≡ bare_lexeme keep x = colon_bare ends (Some (start_of_key k)) tail h l in
      same_at keep on_read (λ (b : Bool). if b then fails_at kinds.InvalidColonPlacement (bare_mark keep (mark_of h))
      else
      if is_in_flow (bare_laid keep l) then keyed_given y (bare_here keep after) (bare_laid keep l) else with_pair o
      k.start.place.column (bare_mark keep k.start) (bare_laid keep l) >>= keyed_given y (bare_here keep after))
      (is_far_below h.place (bare_laid keep l) (record k { start = bare_mark keep k.start })) (is_far_below h.place l k)
      _
      (far_bare keep h.place l k)
      (same_if keep on_read (is_far_below h.place l k) _ _ _ _
      (same_no keep on_read (fault_at kinds.InvalidColonPlacement (mark_of h)))
      (same_at keep on_read (λ (f : Bool). if f then keyed_given y (bare_here keep after) (bare_laid keep l) else
      with_pair o
      k.start.place.column (bare_mark keep k.start) (bare_laid keep l) >>= keyed_given y (bare_here keep after))
      (is_in_flow (bare_laid keep l)) (is_in_flow l) _ (flow_bare keep l)
      (same_if keep on_read (is_in_flow l) _ _ _ _
      (given_same y x Another _ after _ (forgets_key l) e refl (forgets_bare keep l))
      (same_then keep (bare_laid keep) on_read _ _ _ _ (pair_same keep o k.start.place.column k.start l)
      (λ t. given_same y x Another _ after _ (forgets_key t) e refl (forgets_bare keep t))))))

  bare_colon_same : (o : OptionsData) (ends : Bool) (tail : Option CommentRead) (after h : Here) (l : Laid)
      → Reads (bare_colon o ends (bare_tail keep tail) (bare_here keep after) (bare_here keep h) (bare_laid keep l))
      (bare_colon o ends tail after h l)
  unfolding bare_colon
  bare_colon_same o ends tail after h l =
      let y = colon_lexeme ends None (bare_tail keep tail) (bare_here keep h) (bare_laid keep l) in
      let x = colon_lexeme ends None tail h l in
      let e : y ≡ bare_lexeme keep x = colon_bare ends None tail h l in
      same_at keep on_read (λ (f : Bool). if f then given y Another (bare_here keep after) (bare_laid keep l) else
      if not
      (is_allowed h.begins_line (bare_mark_of keep h.tab) (bare_laid keep l)) then fails_at kinds.MappingValueNotAllowed
      (bare_mark keep (mark_of h)) else with_pair o h.place.column (bare_mark keep (mark_of h)) (bare_laid keep l) >>=
      bare_given y
      (bare_here keep after)) (is_in_flow (bare_laid keep l)) (is_in_flow l) _ (flow_bare keep l)
      (same_if keep on_read (is_in_flow l) _ _ _ _ (given_same y x Another _ after _ l e refl refl)
      (guarded o h l _ _ (fails_at kinds.MappingValueNotAllowed) (fails_at kinds.MappingValueNotAllowed)
      (λ m. same_no keep on_read (fault_at kinds.MappingValueNotAllowed m)) _ _
      (allowed_bare keep h.begins_line h.tab l)
      (same_then keep (bare_laid keep) on_read _ _ _ _ (pair_same keep o h.place.column (mark_of h) l)
      (λ t. given_same y x Rattle.granit_lexemes.specs.declared.layout.LastLexeme.TheVariants.BehindBareColon _ after
      _ t e refl refl))))

  by_key_same : (o : OptionsData) (ends : Bool) (k : Option PossibleKey) (tail : Option CommentRead) (after h : Here)
      (l : Laid) → Reads (colon_by_key o ends (bare_possible keep k) (bare_tail keep tail) (bare_here keep after)
      (bare_here keep h)
      (bare_laid keep l)) (colon_by_key o ends k tail after h l)
  by_key_same o ends (Some k) tail after h l = keyed_same o ends k tail after h l
  by_key_same o ends None tail after h l = bare_colon_same o ends tail after h l

  colon_tail_same : (h : Here) → Same keep (on_tail keep) (colon_tail (bare_here keep h)) (colon_tail h)
  unfolding colon_tail
  colon_tail_same h = same_if keep (on_tail keep) (is_blank (next_char h)) _ _ _ _ (tail_same keep h)
      (same_ok keep (on_tail keep) (None, h) _ refl)

  colon_same : (o : OptionsData) (ends : Bool) (h : Here) (l : Laid)
      → Reads (colon o ends (bare_here keep h) (bare_laid keep l)) (colon o ends h l)
  unfolding colon
  colon_same o ends h l =
      same_if keep on_read (not (is_adjacent l.last) && opens_flow (slice_index h.unread.text 1)) _ _ _ _
      (same_no keep on_read (fault_at kinds.FlowMappingValueAdjacentCollection (mark_of h)))
      (same_then keep (on_tail keep) on_read _ _ _ _
      (same_at keep (on_tail keep) colon_tail (step (bare_here keep h)) (bare_here keep (step h))
      (colon_tail (step h)) (step_bare keep h) (colon_tail_same (step h)))
      (λ x. same_at keep on_read (λ (k : Option PossibleKey). colon_by_key o ends k (bare_tail keep x.0)
      (bare_here keep x.1)
      (bare_here keep h) (bare_laid keep l)) (top_key (bare_laid keep l)) (bare_possible keep (top_key l)) _
      (top_bare keep l)
      (by_key_same o ends (top_key l) x.0 x.1 h l)))

  -- ---- nodes

  alias_same : (ends : Bool) (h : Here) (l : Laid)
      → Reads (alias_lexeme ends (bare_here keep h) (bare_laid keep l)) (alias_lexeme ends h l)
  alias_same ends h l = same_then keep (on_name keep) on_read _ _ _ _ (name_same keep h)
      (λ x. given_same _ _ Another _ x.1 _ l (to_bare ends (Alias x.0) (mark_of x.1) h l) refl refl)

  anchor_same : (o : OptionsData) (ends : Bool) (h : Here) (l : Laid)
      → Reads (anchor_lexeme o ends (bare_here keep h) (bare_laid keep l)) (anchor_lexeme o ends h l)
  anchor_same o ends h l = same_then keep (on_name keep) on_read _ _ _ _ (name_same keep h)
      (λ x. given_same _ _ (last_of_property o l) _ x.1 _ l (to_bare ends (Anchor x.0) (mark_of x.1) h l) refl refl)

  tag_lexeme_same : (o : OptionsData) (ends : Bool) (h : Here) (l : Laid)
      → Reads (tag_lexeme o ends (bare_here keep h) (bare_laid keep l)) (tag_lexeme o ends h l)
  tag_lexeme_same o ends h l =
      same_then keep (on_here keep) on_read _ _ _ _
      (same_at keep (on_here keep) (λ (f : Bool). tag_at f (bare_here keep h)) (is_in_flow (bare_laid keep l))
      (is_in_flow l) (tag_at (is_in_flow l) h) (flow_bare keep l) (tag_same keep (is_in_flow l) h))
      (λ x. given_same _ _ (last_of_property o l) _ x.1 _ l (to_bare ends (Tag x.0.handle x.0.suffix) (mark_of x.1) h l)
      refl refl)

  -- the text of a scalar that isn't plain
  block_text_bare : (literal : Bool) (start end : Mark) (text : Written)
      → bare_text keep text ≡ bare_scalar keep (block_style literal) start end text
  block_text_bare true start end text = refl
  block_text_bare false start end text = refl

  quoted_text_bare : (single : Bool) (start end : Mark) (text : Written)
      → bare_text keep text ≡ bare_scalar keep (quoted_style single) start end text
  quoted_text_bare true start end text = refl
  quoted_text_bare false start end text = refl

  shown_bare : (literal ends : Bool) (b : BlockGiven) (after h : Here) (l : Laid)
      → block_shown literal ends (on_given keep (b, after)).0 (bare_here keep after) (bare_here keep h)
      (bare_laid keep l)
      ≡ bare_lexeme keep (block_shown literal ends b after h l)
  shown_bare literal ends b after h l =
      ap₂ (λ (f : Bool) (text : Written). record (block_shown literal ends (on_given keep (b, after)).0
      (bare_here keep after) (bare_here keep h) (bare_laid keep l)) {
        kind = Scalar (block_style literal) text;
        in_flow = f;
      }) (flow_bare keep l) (block_text_bare literal b.read.shown (mark_of after) b.read.text)

  block_lexeme_same : (literal ends : Bool) (h : Here) (l : Laid)
      → Reads (block_lexeme literal ends (bare_here keep h) (bare_laid keep l)) (block_lexeme literal ends h l)
  block_lexeme_same literal ends h l = same_then keep (on_given keep) on_read _ _ _ _
      (block_same keep literal (block_column l) h)
      (λ x. given_same _ (block_shown literal ends x.0 x.1 h l) Another _ x.1 _ (unrolled l)
      (shown_bare literal ends x.0 x.1 h l) refl refl)

  -- a plain scalar that is written has an extent
  plain_text_bare : (start end : Mark) (text : Written) → (start.place.index == end.place.index) ≡ false
      → bare_text keep text ≡ bare_scalar keep Plain start end text
  plain_text_bare start end text e = sym (cond-false (start.place.index == end.place.index) text (bare_text keep text)
      e)

  plain_lexeme_same : (o : OptionsData) (ends : Bool) (h : Here) (l : Laid)
      → is_content (is_in_flow l) h.unread.text ≡ true
      → Reads (plain_lexeme o ends (bare_here keep h) (bare_laid keep l)) (plain_lexeme o ends h l)
  plain_lexeme_same o ends h l content =
      let at = layout_of o h.place.column l in
      same_then_from keep (on_plain keep) on_read _ (plain_scalar at h) _ _
      (same_at keep (on_plain keep) (λ at. plain_scalar at (bare_here keep h))
      (layout_of o h.place.column (bare_laid keep l)) at (plain_scalar at h) (layout_bare keep o h.place.column l)
      (plain_same keep at h))
      (λ x e. given_same _ _ Another _ x.1 _ (behind_plain_scalar x.0 l)
      (ap (λ (text : Written). lexeme_to ends (Scalar Plain text) (bare_mark keep x.0.source.end) (bare_here keep h)
      (bare_laid keep l)) (plain_text_bare (mark_of h) x.0.source.end x.0.text (plain_extends at h x.0 x.1 content e))
      ∙ to_bare ends (Scalar Plain x.0.text) x.0.source.end h l) refl refl)

  quoted_lexeme_same : (o : OptionsData) (single ends : Bool) (h : Here) (l : Laid)
      → Reads (quoted_lexeme o single ends (bare_here keep h) (bare_laid keep l)) (quoted_lexeme o single ends h l)
  quoted_lexeme_same o single ends h l =
      same_then keep (on_quoted keep) on_read _ _ _ _
      (same_at keep (on_quoted keep) (λ at. quoted_scalar single at (bare_here keep h))
      (layout_of o h.place.column (bare_laid keep l)) (layout_of o h.place.column l)
      (quoted_scalar single (layout_of o h.place.column l) h) (layout_bare keep o h.place.column l)
      (quoted_same keep single (layout_of o h.place.column l) h))
      (λ x. let kind = Scalar (quoted_style single) in
      given_same _ _ Adjacent _ x.1 _ l (ap (λ (y : Lexeme). with_tail y (bare_tail keep x.0.comment))
      (ap (λ (text : Written). lexeme_to ends (kind text) (bare_mark keep x.0.source.end) (bare_here keep h)
      (bare_laid keep l)) (quoted_text_bare single (mark_of h) x.0.source.end x.0.text)
      ∙ to_bare ends (kind x.0.text) x.0.source.end h l)) refl refl)

  notes_bare : (note : Option CommentRead) → note_items (bare_tail keep note) ≡ map (bare_item keep) (note_items note)
  notes_bare None = refl
  notes_bare (Some c) = refl

  unless_bare : (note : Option CommentRead) → adjacent_unless (bare_tail keep note) ≡ adjacent_unless note
  unless_bare None = refl
  unless_bare (Some c) = refl

  note_same : (items : List Item) (note : Option CommentRead) (s : ReaderState)
      → Reads (with_note (map (bare_item keep) items) (bare_tail keep note) (bare_reader keep s))
      (with_note items note s)
  note_same items note s =
      same_ok keep on_read (
        items ++ note_items note,
        record { here = s.here; laid = record (s.laid) { last = adjacent_unless note } },
      ) _
      (ap₂ (λ (is : List Item) (last : LastLexeme). let z : List Item
      × ReaderState = (
        is,
        record {
          here = bare_here keep s.here;
          laid =
              record (bare_laid keep s.laid) { last = last };
        },
      ) in z)
      (ap (λ is. map (bare_item keep) items ++ is) (notes_bare note)
      ∙ sym (map-append (bare_item keep) items (note_items note)))
      (unless_bare note))

  with_gap_same : (o : OptionsData) (items : List Item) (s : ReaderState)
      → Reads (with_gap o (map (bare_item keep) items) (bare_reader keep s)) (with_gap o items s)
  with_gap_same o items s = same_then keep (on_gap keep) on_read _ _ _ _ (gap_same keep o s.here s.laid)
      (λ x. note_same items x.0 x.1)

  quoted_gap_same : (o : OptionsData) (single ends : Bool) (h : Here) (l : Laid)
      → Reads (quoted_and_gap o single ends (bare_here keep h) (bare_laid keep l)) (quoted_and_gap o single ends h l)
  quoted_gap_same o single ends h l = same_then keep on_read on_read _ _ _ _ (quoted_lexeme_same o single ends h l)
      (λ x. with_gap_same o x.0 x.1)

  -- ---- marks, directives and the end

  text_end_same : (h : Here) (l : Laid) → Reads (text_end (bare_here keep h) (bare_laid keep l)) (text_end h l)
  text_end_same h l =
      same_then keep (itself keep) on_read _ _ _ _ (open_same l.brackets)
      (λ u. same_then keep (bare_laid keep) on_read _ _ _ _ (drop_same keep l)
      (λ t. read_same _ (lexeme_to (ends_all l) StreamEnd (mark_of h) h l) _ h _ (behind_end t)
      (ap (λ (b : Bool). lexeme_to b StreamEnd (bare_mark keep (mark_of h)) (bare_here keep h) (bare_laid keep l))
      (ends_all_bare keep l)
      ∙ to_bare (ends_all l) StreamEnd (mark_of h) h l) refl refl))

  three_bare : (ends : Bool) (kind : LexemeKind) (h : Here) (l : Laid)
      → lexeme_to ends (bare_word keep (mark_of h) (mark_of (steps 3 h)) kind) (mark_of (steps 3 (bare_here keep h)))
      (bare_here keep h) (bare_laid keep l) ≡ bare_lexeme keep (lexeme_to ends kind (mark_of (steps 3 h)) h l)
  three_bare ends kind h l =
      ap (λ (g : Here). lexeme_to ends (bare_word keep (mark_of h) (mark_of (steps 3 h)) kind) (mark_of g)
      (bare_here keep h) (bare_laid keep l)) (steps_bare keep 3 h) ∙ to_bare ends kind (mark_of (steps 3 h)) h l

  start_mark_same : (ends : Bool) (h : Here) (l : Laid)
      → Reads (start_mark ends (bare_here keep h) (bare_laid keep l)) (start_mark ends h l)
  start_mark_same ends h l = given_same _ (lexeme_to ends DocumentStart (mark_of (steps 3 h)) h l) Another _ (steps 3 h)
      _
      (forgets_key l) (three_bare ends DocumentStart h l) (steps_bare keep 3 h) (forgets_bare keep l)

  behind_mark_bare : (l : Laid) → behind_end_mark (bare_laid keep l) ≡ bare_laid keep (behind_end_mark l)
  behind_mark_bare l = ap (λ (l : Laid). record (behind_lexeme Another l) { may_prefix = true }) (forgets_bare keep l)

  end_up_same : (y x : Lexeme) (l : Laid) (tail : Option CommentRead) (h : Here) → y ≡ bare_lexeme keep x
      → Reads (end_mark_up_to y (bare_laid keep l) (bare_tail keep tail) (bare_here keep h)) (end_mark_up_to x l tail h)
  unfolding end_mark_up_to
  end_up_same y x l tail h p =
      same_if keep on_read (is_breakz (next_char h)) _ _ _ _
      (read_same _ (with_tail x tail) _ h _ (behind_end_mark l)
      (ap (λ (y : Lexeme). with_tail y (bare_tail keep tail)) p)
      refl (behind_mark_bare l)) (same_no keep on_read (fault_at kinds.InvalidDocumentEnd (mark_of h)))

  end_mark_same : (ends : Bool) (h : Here) (l : Laid)
      → Reads (end_mark ends (bare_here keep h) (bare_laid keep l)) (end_mark ends h l)
  end_mark_same ends h l =
      same_then keep (on_tail keep) on_read _ _ _ _
      (same_at keep (on_tail keep) tail_at (steps 3 (bare_here keep h)) (bare_here keep (steps 3 h))
      (tail_at (steps 3 h)) (steps_bare keep 3 h) (tail_same keep (steps 3 h)))
      (λ x. end_up_same _ (lexeme_to ends DocumentEnd (mark_of (steps 3 h)) h l) l x.0 x.1
      (three_bare ends DocumentEnd h l))

  behind_directive_bare : (l : Laid) → behind_directive (bare_laid keep l) ≡ bare_laid keep (behind_directive l)
  behind_directive_bare l = ap (λ (m : Laid). record (behind_lexeme Another m) { may_prefix = l.may_prefix })
      (forgets_bare keep l)

  directive_lexeme_same : (o : OptionsData) (ends : Bool) (h : Here) (l : Laid)
      → Reads (directive_lexeme o ends (bare_here keep h) (bare_laid keep l)) (directive_lexeme o ends h l)
  directive_lexeme_same o ends h l =
      same_then keep (on_directive keep) on_read _ _ _ _ (directive_same keep o h)
      (λ x. read_same _ _ _ (over_break_if x.1) _ (behind_directive l)
      (ap (λ (y : Lexeme). with_tail y (bare_tail keep x.0.noted))
      (to_bare ends (Directive x.0.kind) x.0.source.end h l))
      (over_break_bare keep x.1) (behind_directive_bare l))

  -- ---- any lexeme

  lexeme_of_same : (o : OptionsData) (sort : PlacedSort) (ends : Bool) (h : Here) (l : Laid)
      → (sort ≡ PlainSign → is_content (is_in_flow l) h.unread.text ≡ true)
      → Reads (lexeme_of o sort ends (bare_here keep h) (bare_laid keep l)) (lexeme_of o sort ends h l)
  unfolding lexeme_of
  lexeme_of_same o (OpenSign bracket) ends h l held = same_at keep on_read (opener o bracket ends (bare_here keep h)) _
      _ _
      (noded_bare keep false h l) (opener_same o bracket ends h (noded false h l))
  lexeme_of_same o (CloseSign bracket) ends h l held = closer_by_same bracket l.brackets ends h l
  lexeme_of_same o CommaSign ends h l held = comma_same ends h l
  lexeme_of_same o DashSign ends h l held = dash_same o ends h l
  lexeme_of_same o QuestionSign ends h l held = question_same o ends h l
  lexeme_of_same o ColonSign ends h l held = colon_same o ends h l
  lexeme_of_same o AliasSign ends h l held = same_at keep on_read (alias_lexeme ends (bare_here keep h)) _ _ _
      (noded_bare keep false h l)
      (alias_same ends h (noded false h l))
  lexeme_of_same o AnchorSign ends h l held = same_at keep on_read (anchor_lexeme o ends (bare_here keep h)) _ _ _
      (noded_bare keep true h l)
      (anchor_same o ends h (noded true h l))
  lexeme_of_same o TagSign ends h l held = same_at keep on_read (tag_lexeme o ends (bare_here keep h)) _ _ _
      (noded_bare keep true h l)
      (tag_lexeme_same o ends h (noded true h l))
  lexeme_of_same o (BlockSign literal) ends h l held = same_at keep on_read
      (block_lexeme literal ends (bare_here keep h)) _ _ _
      (noded_bare keep false h l) (block_lexeme_same literal ends h (noded false h l))
  lexeme_of_same o (QuoteSign single) ends h l held = same_at keep on_read
      (quoted_and_gap o single ends (bare_here keep h)) _ _ _
      (noded_bare keep false h l) (quoted_gap_same o single ends h (noded false h l))
  lexeme_of_same o StrayMark ends h l held = same_no keep on_read (fault_at kinds.BomInsideDocument (mark_of h))
  lexeme_of_same o NoSign ends h l held = same_no keep on_read
      (fault_at (kinds.UnexpectedCharacter (next_char h)) (mark_of h))
  lexeme_of_same o PlainSign ends h l held = same_at keep on_read (plain_lexeme o ends (bare_here keep h)) _ _ _
      (noded_bare keep false h l)
      (plain_lexeme_same o ends h (noded false h l)
      (ap (λ (f : Bool). is_content f h.unread.text) (noded-flow false h l) ∙ held refl))

  outside_bare : (o : OptionsData) (column : ℕ) (l : Laid)
      → is_strict_outside o column (bare_laid keep l) ≡ is_strict_outside o column l
  unfolding is_strict_outside
  outside_bare o column l = ap (λ (f : Bool). (o.strict_indentation && f) && is_left (block_column l) column)
      (flow_bare keep l)

  in_column_same : (o : OptionsData) (sort : PlacedSort) (ends : Bool) (h : Here) (l : Laid)
      → (sort ≡ PlainSign → is_content (is_in_flow l) h.unread.text ≡ true)
      → Reads (lexeme_in_column o sort ends (bare_here keep h) (bare_laid keep l)) (lexeme_in_column o sort ends h l)
  unfolding lexeme_in_column
  in_column_same o sort ends h l held =
      same_at keep on_read (λ (b : Bool). if b then fails_at kinds.InvalidIndentation (bare_mark keep (mark_of h)) else
      lexeme_of o
      sort ends (bare_here keep h) (bare_laid keep l)) (is_strict_outside o h.place.column (bare_laid keep l))
      (is_strict_outside o h.place.column l) _ (outside_bare o h.place.column l)
      (same_if keep on_read (is_strict_outside o h.place.column l) _ _ _ _
      (same_no keep on_read (fault_at kinds.InvalidIndentation (mark_of h))) (lexeme_of_same o sort ends h l held))

  -- a lexeme that ends all columns
  all_same : (l : Laid) (F G : Bool → Laid → Read)
      → ((ends : Bool) (l : Laid) → Reads (F ends (bare_laid keep l)) (G ends l))
      → Reads (F (ends_all (bare_laid keep l)) (closed_all (bare_laid keep l))) (G (ends_all l) (closed_all l))
  all_same l F G p =
      same_at keep on_read (λ (b : Bool). F b (closed_all (bare_laid keep l))) (ends_all (bare_laid keep l))
      (ends_all l) _
      (ends_all_bare keep l)
      (same_at keep on_read (F (ends_all l)) (closed_all (bare_laid keep l)) (bare_laid keep (closed_all l)) _
      (closed_all_bare keep l)
      (p (ends_all l) (closed_all l)))

  by_same : (o : OptionsData) (sort : LexemeSort) (h : Here) (l : Laid)
      → (sort ≡ Placed PlainSign → is_content (is_in_flow l) h.unread.text ≡ true)
      → Reads (lexeme_by o sort (bare_here keep h) (bare_laid keep l)) (lexeme_by o sort h l)
  unfolding lexeme_by
  by_same o TextEnd h l held = text_end_same h l
  by_same o StartMark h l held = same_then keep (itself keep) on_read _ _ _ _ (open_same l.brackets)
      (λ u. all_same l (λ b. start_mark b (bare_here keep h)) (λ b. start_mark b h) (λ b l. start_mark_same b h l))
  by_same o EndMark h l held = same_then keep (itself keep) on_read _ _ _ _ (open_same l.brackets)
      (λ u. all_same l (λ b. end_mark b (bare_here keep h)) (λ b. end_mark b h) (λ b l. end_mark_same b h l))
  by_same o DirectiveSign h l held = all_same l (λ b. directive_lexeme o b (bare_here keep h))
      (λ b. directive_lexeme o b h)
      (λ b l. directive_lexeme_same o b h l)
  by_same o Unprintable h l held = same_no keep on_read (fault_at (kinds.UnexpectedCharacter (next_char h)) (mark_of h))
  by_same o (Placed sort) h l held =
      same_at keep on_read (λ (b : Bool). lexeme_in_column o sort b (bare_here keep h)
      (closed_at h.place.column (bare_laid keep l)))
      (ends_at h.place.column (bare_laid keep l)) (ends_at h.place.column l) _ (ends_at_bare keep h.place.column l)
      (same_at keep on_read (lexeme_in_column o sort (ends_at h.place.column l) (bare_here keep h))
      (closed_at h.place.column (bare_laid keep l)) (bare_laid keep (closed_at h.place.column l)) _
      (closed_at_bare keep h.place.column l) (in_column_same o sort (ends_at h.place.column l) h
      (closed_at h.place.column l) (λ e. held (ap (λ (sort : PlacedSort). Placed sort) e))))

  sort_bare : (in_flow adjacent : Bool) (h : Here)
      → sort_at in_flow adjacent (bare_here keep h) ≡ sort_at in_flow adjacent h
  unfolding sort_at
  sort_bare in_flow adjacent h = refl

  lexeme_same : (o : OptionsData) (h : Here) (l : Laid) → is_gap (next_char h) ≡ false
      → Reads (lexeme o (bare_here keep h) (bare_laid keep l)) (lexeme o h l)
  lexeme_same o h l stops =
      same_at keep on_read (λ sort. lexeme_by o sort (bare_here keep h) (bare_laid keep l))
      (sort_at (is_in_flow (bare_laid keep l)) (is_adjacent l.last) (bare_here keep h))
      (sort_at (is_in_flow l) (is_adjacent l.last) h) _
      (ap (λ (f : Bool). sort_at f (is_adjacent l.last) (bare_here keep h)) (flow_bare keep l)
      ∙ sort_bare (is_in_flow l) (is_adjacent l.last) h)
      (by_same o (sort_at (is_in_flow l) (is_adjacent l.last) h) h l
      (plain_sign-content (is_in_flow l) (is_adjacent l.last) h stops))

  -- ---- a read

  behind_same : (n : ℕ) (o : OptionsData) (c : Option CommentRead) (s : ReaderState) → GapState n c s
      → Reads (read_behind o (bare_tail keep c) (bare_reader keep s)) (read_behind o c s)
  behind_same n o (Some c) s p = same_ok keep on_read (OfComment c ∷ [], s) _ refl
  behind_same n o None s p =
      same_then keep (bare_laid keep) on_read _ _ _ _ (stale_same keep o (mark_of s.here) s.laid)
      (λ l. lexeme_same o s.here l p.1)

  whole_same : (o : OptionsData) (items : List Item) (s : ReaderState)
      → Reads (read_whole o (map (bare_item keep) items) (bare_reader keep s)) (read_whole o items s)
  whole_same o items s = same_then keep (bare_laid keep) on_read _ _ _ _ (stale_same keep o (mark_of s.here) s.laid)
      (λ l. same_ok keep on_read (items, record { here = s.here; laid = l }) _ refl)

  -- what a gap leaves
  gap_left : (n : ℕ) (r : GapRead) (x : Option CommentRead × ReaderState) → GapFits n r → r ≡ Ok x → GapState n x.0 x.1
  gap_left n r x p e = subst (GapFits n) e p

  pub reads_same : (o : OptionsData) (s : ReaderState) → Reads (read o (bare_reader keep s)) (read o s)
  unfolding read
  reads_same o s =
      let n = reader_len s in
      same_then_from keep (on_gap keep) on_read _ (gap o s.here s.laid) _ _ (gap_same keep o s.here s.laid)
      (λ x e. same_then keep on_read on_read _ _ _ _
      (behind_same n o x.0 x.1 (gap_left n (gap o s.here s.laid) x (gap-fits n o s.here s.laid (omega arith)) e))
      (λ y. whole_same o y.0 y.1))
