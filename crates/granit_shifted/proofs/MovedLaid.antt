-- What lexemes leave is the same wherever a text stands, and so are gaps.
use Rattle.std.proofs.Common.{◌≡◌, ℕ, ◌==◌, ◌&&◌, ◌||◌, not, Bool, true, false, List, [], ◌∷◌, length, map, Option}
use Rattle.std.proofs.Common.{Some, None, Ok, refl, ap, ap₂, ◌∙◌, drop}
use Rattle.std.specs.Char.{encode_utf8}
use Rattle.std.specs.Prelude.{nat_lt, nat_le, slice_index, is_none, if◌then◌else◌}
use Rattle.granit_base.specs.Classes.{is_break, is_blank_or_breakz, is_breakz}
use Rattle.granit_base.specs.Place.{Place, Mark, first}
use Rattle.granit_error.specs.FaultKind as kinds
use Rattle.granit_error.specs.OptionsData.{OptionsData}
use Rattle.granit_lexemes.specs.Basics.{is_document_mark}
use Rattle.granit_lexemes.specs.Comment.{CommentRead}
use Rattle.granit_lexemes.specs.Here.{Here, text_len, next_char, mark_of, chosen}
use Rattle.granit_lexemes.specs.LayoutData.{LayoutData, is_left}
use Rattle.granit_lexemes.specs.Moves.{past_prefix_mark}
use Rattle.granit_lexemes.specs.Outcome.{fault_at}
use Rattle.granit_lexemes.specs.declared.layout.OpenBracket.{OpenBracket}
use Rattle.granit_lexemes.specs.declared.layout.PossibleKey.{PossibleKey}
use Rattle.granit_machine.specs.Columns.{refuse_column, entered, with_entry, pair_entered, with_pair, up_to_column}
use Rattle.granit_machine.specs.Columns.{closed_at, closed_all, ends_at, ends_all, is_right_of_column}
use Rattle.granit_machine.specs.Gaps.{leading_tab, refuse_tab_at, refuse_tab, at_prefix_mark, begins_gap, over_gap_char}
use Rattle.granit_machine.specs.Gaps.{skip_gap, past_gap, over_break_if, goes_on_behind, refuse_cut_by, noted_gap}
use Rattle.granit_machine.specs.Gaps.{behind_note, behind_gap, ready_gap, gap_ends, takes_prefix, gap}
use Rattle.granit_machine.specs.Laid.{Laid, is_opener, is_dash, is_indicator, is_question, is_nonempty, is_in_flow}
use Rattle.granit_machine.specs.Laid.{in_square, block_column, is_column, innermost_column}
use Rattle.granit_machine.specs.PossibleKeys.{key_in, top_key, outer_key, keyed_brackets, with_top_key, forgets_key}
use Rattle.granit_machine.specs.PossibleKeys.{refuse_required, drop_key, is_stale, fresh_key, stale_key, fresh_bracket}
use Rattle.granit_machine.specs.PossibleKeys.{fresh, without_stale, is_allowed, new_key, key_goes_on, node_key}
use Rattle.granit_machine.specs.PossibleKeys.{with_node, is_far_below, is_wide_at, tab_column_of, layout_of}
use Rattle.granit_machine.specs.Reader.{noded}
use Rattle.granit_machine.specs.ReaderState.{ReaderState}
use Rattle.granit_shifted.specs.Shift.{moved_mark, moved_mark_of, moved_here, moved_comment, moved_tail, moved_possible}
use Rattle.granit_shifted.specs.Shift.{moved_bracket, moved_laid, moved_reader, Shift, moved_line, moved_place}
use Rattle.granit_shifted.specs.Shift.{moved_possible_key}
use Rattle.granit_shifted.proofs.Sums.{sum_lt, sum_lt_more, sum_eq_suc, sum_more}
use Rattle.granit_shifted.proofs.MovedLexemes.{Same, same_ok, same_no, same_if, same_then, same_at, step_moved}
use Rattle.granit_shifted.proofs.MovedBlocks.{itself}
use Rattle.granit_shifted.proofs.MovedLexemes.{offset_moved, break_moved, if_here, on_comment, comment_same}

module _ (shift : Shift) where
  -- ---- brackets and keys

  flow_by : (bs : List OpenBracket) → is_nonempty (map (moved_bracket shift) bs) ≡ is_nonempty bs
  flow_by [] = refl
  flow_by (b ∷ bs) = refl

  pub flow_moved : (l : Laid) → is_in_flow (moved_laid shift l) ≡ is_in_flow l
  flow_moved l = flow_by l.brackets

  square_by : (bs : List OpenBracket) → in_square (map (moved_bracket shift) bs) ≡ in_square bs
  square_by [] = refl
  square_by (b ∷ bs) = refl

  key_by : (bs : List OpenBracket) (key : Option PossibleKey)
      → key_in (map (moved_bracket shift) bs) (moved_possible shift key) ≡ moved_possible shift (key_in bs key)
  key_by [] key = refl
  key_by (b ∷ bs) key = refl

  pub top_moved : (l : Laid) → top_key (moved_laid shift l) ≡ moved_possible shift (top_key l)
  top_moved l = key_by l.brackets l.key

  outer_by : (bs : List OpenBracket) (new old : Option PossibleKey)
      → outer_key (map (moved_bracket shift) bs) (moved_possible shift new) (moved_possible shift old)
      ≡ moved_possible shift (outer_key bs new old)
  outer_by [] new old = refl
  outer_by (b ∷ bs) new old = refl

  keyed_by : (key : Option PossibleKey) (bs : List OpenBracket)
      → keyed_brackets (moved_possible shift key) (map (moved_bracket shift) bs)
      ≡ map (moved_bracket shift) (keyed_brackets key bs)
  keyed_by key [] = refl
  keyed_by key (b ∷ bs) = refl

  pub with_top_moved : (key : Option PossibleKey) (l : Laid)
      → with_top_key (moved_possible shift key) (moved_laid shift l) ≡ moved_laid shift (with_top_key key l)
  with_top_moved key l = ap₂ (λ (k : Option PossibleKey) (bs : List OpenBracket). record (moved_laid shift l) {
    key = k;
    brackets = bs;
  }) (outer_by l.brackets key l.key) (keyed_by key l.brackets)

  pub forgets_moved : (l : Laid) → forgets_key (moved_laid shift l) ≡ moved_laid shift (forgets_key l)
  forgets_moved l = with_top_moved None l

  required_same : (key : Option PossibleKey) → Same shift (itself shift) (refuse_required (moved_possible shift key))
      (refuse_required key)
  required_same None = same_ok shift (itself shift) tt tt refl
  required_same (Some k) = same_if shift (itself shift) k.is_required _ _ _ _
      (same_no shift (itself shift) (fault_at kinds.SimpleKeyExpected k.start))
      (same_ok shift (itself shift) tt tt refl)

  pub drop_same : (l : Laid) → Same shift (moved_laid shift) (drop_key (moved_laid shift l)) (drop_key l)
  drop_same l = same_then shift (itself shift) (moved_laid shift) _ _ _ _
      (same_at shift (itself shift) refuse_required (top_key (moved_laid shift l)) (moved_possible shift (top_key l))
      (refuse_required (top_key l))
      (top_moved l) (required_same (top_key l)))
      (λ u. same_ok shift (moved_laid shift) (forgets_key l) (forgets_key (moved_laid shift l)) (forgets_moved l))

  -- ---- stale keys

  stale_if : (b : Bool) (k : PossibleKey) → (if b then None else moved_possible shift (Some k))
      ≡ moved_possible shift (if b then None else Some k)
  stale_if true k = refl
  stale_if false k = refl

  kept_if : (b : Bool) (k : PossibleKey) → (if b then moved_possible shift (Some k) else None)
      ≡ moved_possible shift (if b then Some k else None)
  kept_if true k = refl
  kept_if false k = refl

  stale_moved : (o : OptionsData) (in_flow : Bool) (m : Mark) (k : PossibleKey)
      → is_stale o in_flow (moved_mark shift m) (moved_possible_key shift k) ≡ is_stale o in_flow m k
  unfolding is_stale
  stale_moved o in_flow m k = ap₂ (λ (far below : Bool). far || (not in_flow && below))
      (sum_lt_more shift.index k.start.place.index o.simple_key_max_lookahead m.place.index)
      (sum_lt shift.line k.start.place.line m.place.line)

  fresh_key_moved : (o : OptionsData) (in_flow : Bool) (m : Mark) (key : Option PossibleKey)
      → fresh_key o in_flow (moved_mark shift m) (moved_possible shift key)
      ≡ moved_possible shift (fresh_key o in_flow m key)
  fresh_key_moved o in_flow m None = refl
  fresh_key_moved o in_flow m (Some k) =
      ap (λ (b : Bool). if b then None else moved_possible shift (Some k)) (stale_moved o in_flow m k)
      ∙ stale_if (is_stale o in_flow m k) k

  stale_key_moved : (o : OptionsData) (in_flow : Bool) (m : Mark) (key : Option PossibleKey)
      → stale_key o in_flow (moved_mark shift m) (moved_possible shift key)
      ≡ moved_possible shift (stale_key o in_flow m key)
  stale_key_moved o in_flow m None = refl
  stale_key_moved o in_flow m (Some k) =
      ap (λ (b : Bool). if b then moved_possible shift (Some k) else None) (stale_moved o in_flow m k)
      ∙ kept_if (is_stale o in_flow m k) k

  brackets_moved : (o : OptionsData) (m : Mark) (bs : List OpenBracket)
      → map (fresh_bracket o (moved_mark shift m)) (map (moved_bracket shift) bs)
      ≡ map (moved_bracket shift) (map (fresh_bracket o m) bs)
  brackets_moved o m [] = refl
  brackets_moved o m (b ∷ bs) = ap₂ (λ (k : Option PossibleKey) (bs : List OpenBracket). let c : OpenBracket =
      record { bracket = b.bracket; mark = moved_mark shift b.mark; key = k } in c ∷ bs)
      (fresh_key_moved o true m b.key)
      (brackets_moved o m bs)

  pub fresh_moved : (o : OptionsData) (m : Mark) (l : Laid)
      → fresh o (moved_mark shift m) (moved_laid shift l) ≡ moved_laid shift (fresh o m l)
  fresh_moved o m l =
      ap₂ (λ (k : Option PossibleKey) (bs : List OpenBracket). record (moved_laid shift l) { key = k; brackets = bs })
      (ap (λ f. fresh_key o f (moved_mark shift m) (moved_possible shift l.key)) (flow_moved l)
      ∙ fresh_key_moved o (is_in_flow l) m l.key) (brackets_moved o m l.brackets)

  pub stale_same : (o : OptionsData) (m : Mark) (l : Laid)
      → Same shift (moved_laid shift) (without_stale o (moved_mark shift m) (moved_laid shift l)) (without_stale o m l)
  stale_same o m l =
      same_then shift (itself shift) (moved_laid shift) _ _ _ _ (same_at shift (itself shift) refuse_required
      (stale_key o (is_in_flow (moved_laid shift l)) (moved_mark shift m) (moved_possible shift l.key))
      (moved_possible shift (stale_key o (is_in_flow l) m l.key)) (refuse_required (stale_key o (is_in_flow l) m l.key))
      (ap (λ f. stale_key o f (moved_mark shift m) (moved_possible shift l.key)) (flow_moved l)
      ∙ stale_key_moved o (is_in_flow l) m l.key) (required_same (stale_key o (is_in_flow l) m l.key)))
      (λ u. same_ok shift (moved_laid shift) (fresh o m l) (fresh o (moved_mark shift m) (moved_laid shift l))
      (fresh_moved o m l))

  -- ---- a lexeme of a node

  none_mark : (t : Option Mark) → is_none (moved_mark_of shift t) ≡ is_none t
  none_mark None = refl
  none_mark (Some m) = refl

  pub allowed_moved : (begins : Bool) (tab : Option Mark) (l : Laid)
      → is_allowed begins (moved_mark_of shift tab) (moved_laid shift l) ≡ is_allowed begins tab l
  unfolding is_allowed
  allowed_moved begins tab l = ap₂ (λ (f n : Bool). if f then is_opener l.last else (begins || is_dash l.last)
      || (is_indicator l.last && n)) (flow_moved l) (none_mark tab)

  new_moved : (property : Bool) (m : Mark) (l : Laid)
      → Some (new_key property (moved_mark shift m) (moved_laid shift l))
      ≡ moved_possible shift (Some (new_key property m l))
  new_moved property m l = ap (λ f. Some (record
      (new_key property (moved_mark shift m) (moved_laid shift l)) {
        is_required = not f
            && is_column (block_column l) m.place.column;
      })) (flow_moved l)

  goes_moved : (property low : Bool) (key : Option PossibleKey)
      → key_goes_on property low (moved_possible shift key) ≡ moved_possible shift (key_goes_on property low key)
  goes_moved property low None = refl
  goes_moved property low (Some k) = on k.is_head
    where
      on : (b : Bool) → (if b then Some (record
          (moved_possible_key shift k) { is_low = k.is_low || low; is_head = property }) else Some
          (moved_possible_key shift k))
          ≡ moved_possible shift (if b then Some (record k { is_low = k.is_low || low; is_head = property }) else Some
          k)
      on true = refl
      on false = refl

  if_key : (b : Bool) (x y v w : Option PossibleKey) → x ≡ moved_possible shift v → y ≡ moved_possible shift w
      → (if b then x else y) ≡ moved_possible shift (if b then v else w)
  if_key true x y v w p q = p
  if_key false x y v w p q = q

  node_key_moved : (property allowed : Bool) (m : Mark) (l : Laid)
      → node_key property allowed (moved_mark shift m) (moved_laid shift l)
      ≡ moved_possible shift (node_key property allowed m l)
  unfolding node_key
  node_key_moved property allowed m l =
      if_key allowed _ _ _ _ (new_moved property m l)
      (ap (key_goes_on property (is_left (block_column l) m.place.column)) (top_moved l)
      ∙ goes_moved property (is_left (block_column l) m.place.column) (top_key l))

  pub noded_moved : (property : Bool) (h : Here) (l : Laid)
      → noded property (moved_here shift h) (moved_laid shift l) ≡ moved_laid shift (noded property h l)
  noded_moved property h l =
      let a = is_allowed h.begins_line h.tab l in
      ap (λ (b : Bool). with_node property b (moved_mark shift (mark_of h)) (moved_laid shift l))
      (allowed_moved h.begins_line h.tab l)
      ∙ ap (λ (k : Option PossibleKey). with_top_key k (moved_laid shift l)) (node_key_moved property a (mark_of h) l)
      ∙ with_top_moved (node_key property a (mark_of h) l) l

  pub far_moved : (p : Place) (l : Laid) (k : PossibleKey)
      → is_far_below (moved_place shift p) (moved_laid shift l) (moved_possible_key shift k) ≡ is_far_below p l k
  unfolding is_far_below
  far_moved p l k =
      ap (λ (b : Bool). (is_in_flow (moved_laid shift l) && b)
      && ((k.is_low || is_left (block_column l) p.column) || in_square (map (moved_bracket shift) l.brackets)))
      (sum_lt shift.line k.start.place.line p.line)
      ∙ ap₂ (λ (f s : Bool). (f && nat_lt k.start.place.line p.line)
      && ((k.is_low || is_left (block_column l) p.column) || s)) (flow_moved l) (square_by l.brackets)

  pub layout_moved : (o : OptionsData) (column : ℕ) (l : Laid)
      → layout_of o column (moved_laid shift l) ≡ layout_of o column l
  layout_moved o column l = ap (λ (f : Bool). let at : LayoutData =
      record {
        block_column = block_column l;
        tab_column = tab_column_of
            (is_wide_at f column l.columns || (f && o.strict_indentation)) (block_column l);
        in_flow = f;
        strict =
            o.strict_indentation;
        comments = true;
      } in at) (flow_moved l)

  -- ---- columns

  pub column_same : (o : OptionsData) (column : ℕ) (m : Mark) (l : Laid)
      → Same shift (itself shift) (refuse_column o column (moved_mark shift m) l.columns)
      (refuse_column o column m l.columns)
  unfolding refuse_column
  column_same o column m l =
      same_if shift (itself shift) (is_column (innermost_column l.columns) column) _ _ _ _
      (same_ok shift (itself shift) tt tt refl)
      (same_if shift (itself shift) (nat_le o.block_nesting_limit (length l.columns)) _ _ _ _
      (same_no shift (itself shift) (fault_at kinds.RecursionLimitExceeded m))
      (same_ok shift (itself shift) tt tt refl))

  pub entry_same : (o : OptionsData) (column : ℕ) (m : Mark) (l : Laid)
      → Same shift (moved_laid shift) (with_entry o column (moved_mark shift m) (moved_laid shift l))
      (with_entry o column m l)
  entry_same o column m l = same_then shift (itself shift) (moved_laid shift) _ _ _ _ (column_same o column m l)
      (λ u. same_ok shift (moved_laid shift) (entered column l) (entered column (moved_laid shift l)) refl)

  pub pair_same : (o : OptionsData) (column : ℕ) (m : Mark) (l : Laid)
      → Same shift (moved_laid shift) (with_pair o column (moved_mark shift m) (moved_laid shift l))
      (with_pair o column m l)
  pair_same o column m l = same_then shift (itself shift) (moved_laid shift) _ _ _ _ (column_same o column m l)
      (λ u. same_ok shift (moved_laid shift) (pair_entered column l) (pair_entered column (moved_laid shift l)) refl)

  pub closed_at_moved : (column : ℕ) (l : Laid)
      → closed_at column (moved_laid shift l) ≡ moved_laid shift (closed_at column l)
  closed_at_moved column l = ap (λ (f : Bool). record (moved_laid shift l) {
    columns = if f then l.columns else up_to_column
        column l.columns;
    rolled = l.rolled && (f || not (is_left (block_column l) column));
  }) (flow_moved l)

  pub closed_all_moved : (l : Laid) → closed_all (moved_laid shift l) ≡ moved_laid shift (closed_all l)
  closed_all_moved l = ap (λ (f : Bool). record (moved_laid shift l) {
    columns = if f then l.columns else [];
    rolled = l.rolled
        && f;
  }) (flow_moved l)

  pub ends_at_moved : (column : ℕ) (l : Laid) → ends_at column (moved_laid shift l) ≡ ends_at column l
  ends_at_moved column l = ap (λ (f : Bool). not f && is_right_of_column column l.columns) (flow_moved l)

  pub ends_all_moved : (l : Laid) → ends_all (moved_laid shift l) ≡ ends_all l
  ends_all_moved l = ap (λ (f : Bool). not f && is_nonempty l.columns) (flow_moved l)

  -- ---- gaps

  tab_if : (b : Bool) (t : Option Mark) → (if b then moved_mark_of shift t else None)
      ≡ moved_mark_of shift (if b then t else None)
  tab_if true t = refl
  tab_if false t = refl

  pub leading_moved : (h : Here) → leading_tab (moved_here shift h) ≡ moved_mark_of shift (leading_tab h)
  leading_moved h = tab_if (h.begins_line && not (is_breakz (next_char h))) h.tab

  tab_at_same : (o : OptionsData) (l : Laid) (m tab : Mark)
      → Same shift (itself shift) (refuse_tab_at o (moved_laid shift l) (moved_mark shift m) (moved_mark shift tab))
      (refuse_tab_at o l m tab)
  unfolding refuse_tab_at
  tab_at_same o l m tab =
      same_at shift (itself shift) (λ (f : Bool). if is_question l.last
      && is_left (block_column l) tab.place.column then Rattle.granit_lexemes.specs.Basics.fails_at
      kinds.TabNotAllowed (moved_mark shift tab) else if nat_lt tab.place.column
      (tab_column_of (l.rolled || (f && o.strict_indentation)) (block_column l)) then
      Rattle.granit_lexemes.specs.Basics.fails_at kinds.TabInBlockIndentation (moved_mark shift m) else Ok tt)
      (is_in_flow (moved_laid shift l)) (is_in_flow l) _ (flow_moved l)
      (same_if shift (itself shift) (is_question l.last && is_left (block_column l) tab.place.column) _ _ _ _
      (same_no shift (itself shift) (fault_at kinds.TabNotAllowed tab))
      (same_if shift (itself shift) (nat_lt tab.place.column
      (tab_column_of (l.rolled || (is_in_flow l && o.strict_indentation))
      (block_column l))) _ _ _ _ (same_no shift (itself shift) (fault_at kinds.TabInBlockIndentation m))
      (same_ok shift (itself shift) tt tt refl)))

  pub refuse_tab_same : (o : OptionsData) (l : Laid) (m : Mark) (tab : Option Mark)
      → Same shift (itself shift) (refuse_tab o (moved_laid shift l) (moved_mark shift m) (moved_mark_of shift tab))
      (refuse_tab o l m tab)
  refuse_tab_same o l m None = same_ok shift (itself shift) tt tt refl
  refuse_tab_same o l m (Some tab) = tab_at_same o l m tab

  prefix_moved : (h : Here) → past_prefix_mark (moved_here shift h) ≡ moved_here shift (past_prefix_mark h)
  unfolding past_prefix_mark
  prefix_moved h =
      ap₂ (λ (n : Option ℕ) (i : ℕ). let g : Here = record (moved_here shift (past_prefix_mark h)) {
        unread = record { text = drop 1 h.unread.text; offset = n; lends = h.unread.lends && shift.lending };
        place = record { index = i; line = moved_line shift h.place.line; column = h.place.column };
      } in g) (offset_moved shift (length (encode_utf8 (first h.unread.text))) h.unread.offset)
      (sum_more shift.index h.place.index 1)

  over_char_moved : (may : Bool) (h : Here) → over_gap_char may (moved_here shift h)
      ≡ moved_here shift (over_gap_char may h)
  over_char_moved may h = if_here shift (at_prefix_mark may h) _ _ _ _ (prefix_moved h) (step_moved shift h)

  chosen_moved : (b : Bool) (g h : Here) → chosen b (moved_here shift g) (moved_here shift h)
      ≡ moved_here shift (chosen b g h)
  chosen_moved true g h = refl
  chosen_moved false g h = refl

  skip_gap_moved : (may : Bool) (cs : List ℕ) (h : Here)
      → skip_gap may cs (moved_here shift h) ≡ moved_here shift (skip_gap may cs h)
  skip_gap_moved may [] h = refl
  skip_gap_moved may (c ∷ cs) h =
      ap (λ (g : Here). chosen (begins_gap may h) g (moved_here shift h))
      (ap (skip_gap may cs) (over_char_moved may h) ∙ skip_gap_moved may cs (over_gap_char may h))
      ∙ chosen_moved (begins_gap may h) (skip_gap may cs (over_gap_char may h)) h

  past_gap_moved : (may : Bool) (h : Here) → past_gap may (moved_here shift h) ≡ moved_here shift (past_gap may h)
  unfolding past_gap
  past_gap_moved may h = skip_gap_moved may h.unread.text h

  pub over_break_moved : (h : Here) → over_break_if (moved_here shift h) ≡ moved_here shift (over_break_if h)
  unfolding over_break_if
  over_break_moved h = if_here shift (is_break (next_char h)) _ _ _ _ (break_moved shift h) refl

  goes_on_moved : (l : Laid) (h : Here) (cut : Mark)
      → goes_on_behind (moved_laid shift l) (moved_here shift h) (moved_mark shift cut) ≡ goes_on_behind l h cut
  unfolding goes_on_behind
  goes_on_moved l h cut =
      ap₂ (λ (f b : Bool). ((not f && b)
      && (not (is_left (block_column l) h.place.column) && not (text_len h == 0)))
      && not (is_document_mark h.unread.text
      || (next_char h == 0x3A && is_blank_or_breakz (slice_index h.unread.text 1)))) (flow_moved l)
      (sum_eq_suc shift.line h.place.line cut.place.line)

  cut_same : (l : Laid) (h : Here) (cut : Option Mark)
      → Same shift (itself shift) (refuse_cut_by (moved_laid shift l) (moved_here shift h) (moved_mark_of shift cut))
      (refuse_cut_by l h cut)
  cut_same l h None = same_ok shift (itself shift) tt tt refl
  cut_same l h (Some cut) =
      same_at shift (itself shift) (λ (b : Bool). if b then Rattle.granit_lexemes.specs.Basics.fails_at
      kinds.CommentInterceptedScalar
      (moved_mark shift cut) else Ok tt) (goes_on_behind (moved_laid shift l) (moved_here shift h)
      (moved_mark shift cut))
      (goes_on_behind l h cut) _ (goes_on_moved l h cut)
      (same_if shift (itself shift) (goes_on_behind l h cut) _ _ _ _
      (same_no shift (itself shift) (fault_at kinds.CommentInterceptedScalar cut))
      (same_ok shift (itself shift) tt tt refl))

  abbrev pub on_gap : Option CommentRead × ReaderState → Option CommentRead × ReaderState
  on_gap x = (moved_tail shift x.0, moved_reader shift x.1)

  noted_same : (h : Here) (l : Laid) → Same shift on_gap (noted_gap (moved_here shift h) (moved_laid shift l))
      (noted_gap h l)
  unfolding noted_gap
  noted_same h l =
      same_then shift (on_comment shift) on_gap _ _ _ _ (comment_same shift h)
      (λ x. same_ok shift on_gap (Some x.0, record { here = over_break_if x.1; laid = behind_note l }) _
      (ap (λ (g : Here). let r : Option CommentRead
      × ReaderState = (
        Some (moved_comment shift x.0),
        record { here = g; laid = behind_note (moved_laid shift l) },
      ) in r)
      (over_break_moved x.1)))

  ready_same : (o : OptionsData) (moved : Bool) (h : Here) (l : Laid)
      → Same shift on_gap (ready_gap o moved (moved_here shift h) (moved_laid shift l)) (ready_gap o moved h l)
  unfolding ready_gap
  ready_same o moved h l =
      same_then shift (itself shift) on_gap _ _ _ _
      (same_at shift (itself shift) (refuse_tab o (moved_laid shift l) (moved_mark shift (mark_of h)))
      (leading_tab (moved_here shift h)) (moved_mark_of shift (leading_tab h))
      (refuse_tab o l (mark_of h) (leading_tab h))
      (leading_moved h) (refuse_tab_same o l (mark_of h) (leading_tab h)))
      (λ t. same_then shift (itself shift) on_gap _ _ _ _ (cut_same l h l.cut)
      (λ u. same_ok shift on_gap (None, record { here = h; laid = behind_gap moved l }) _ refl))

  gap_ends_same : (o : OptionsData) (moved : Bool) (h : Here) (l : Laid)
      → Same shift on_gap (gap_ends o moved (moved_here shift h) (moved_laid shift l)) (gap_ends o moved h l)
  unfolding gap_ends
  gap_ends_same o moved h l = same_if shift on_gap (next_char h == 0x23) _ _ _ _ (noted_same h l)
      (ready_same o moved h l)

  takes_moved : (l : Laid) → takes_prefix (moved_laid shift l) ≡ takes_prefix l
  takes_moved l = ap (λ (f : Bool). l.may_prefix && not f) (flow_moved l)

  pub gap_same : (o : OptionsData) (h : Here) (l : Laid)
      → Same shift on_gap (gap o (moved_here shift h) (moved_laid shift l)) (gap o h l)
  gap_same o h l =
      let may = takes_prefix l in
      same_at shift on_gap (λ (may : Bool). gap_ends o (begins_gap may (moved_here shift h))
      (past_gap may (moved_here shift h))
      (moved_laid shift l)) (takes_prefix (moved_laid shift l)) may _ (takes_moved l)
      (same_at shift on_gap (λ (g : Here). gap_ends o (begins_gap may h) g (moved_laid shift l))
      (past_gap may (moved_here shift h))
      (moved_here shift (past_gap may h)) _ (past_gap_moved may h)
      (gap_ends_same o (begins_gap may h) (past_gap may h) l))
