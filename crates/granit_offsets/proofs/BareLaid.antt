-- What lexemes leave is the same where byte offsets or lending are forgotten, and so are gaps.
use Rattle.std.proofs.Common.{◌≡◌, ℕ, suc, ◌==◌, ◌&&◌, ◌||◌, not, Bool, true, false, List, [], ◌∷◌, length, map, Option}
use Rattle.std.proofs.Common.{Some, None, Ok, refl, ap, ap₂, ◌∙◌, ◌+◌, drop}
use Rattle.std.specs.Char.{encode_utf8}
use Rattle.std.specs.Prelude.{nat_lt, nat_le, slice_index, is_none, if◌then◌else◌}
use Rattle.granit_base.specs.Classes.{is_break, is_blank_or_breakz, is_breakz}
use Rattle.granit_base.specs.Place.{Place, Mark, first}
use Rattle.granit_error.specs.FaultKind as kinds
use Rattle.granit_error.specs.OptionsData.{OptionsData}
use Rattle.granit_lexemes.specs.Basics.{is_document_mark}
use Rattle.granit_lexemes.specs.Comment.{CommentRead}
use Rattle.granit_lexemes.specs.Here.{Here, text_len, next_char, mark_of, chosen}
use Rattle.granit_lexemes.specs.LayoutData.{LayoutData, is_left}
use Rattle.granit_lexemes.specs.Moves.{past_prefix_mark}
use Rattle.granit_lexemes.specs.Outcome.{fault_at}
use Rattle.granit_lexemes.specs.declared.layout.OpenBracket.{OpenBracket}
use Rattle.granit_lexemes.specs.declared.layout.PossibleKey.{PossibleKey}
use Rattle.granit_machine.specs.Columns.{refuse_column, entered, with_entry, pair_entered, with_pair, up_to_column}
use Rattle.granit_machine.specs.Columns.{closed_at, closed_all, ends_at, ends_all, is_right_of_column}
use Rattle.granit_machine.specs.Gaps.{leading_tab, refuse_tab_at, refuse_tab, at_prefix_mark, begins_gap, over_gap_char}
use Rattle.granit_machine.specs.Gaps.{skip_gap, past_gap, over_break_if, goes_on_behind, refuse_cut_by, noted_gap}
use Rattle.granit_machine.specs.Gaps.{behind_note, behind_gap, ready_gap, gap_ends, takes_prefix, gap}
use Rattle.granit_machine.specs.Laid.{Laid, is_opener, is_dash, is_indicator, is_question, is_nonempty, is_in_flow}
use Rattle.granit_machine.specs.Laid.{in_square, block_column, is_column, innermost_column}
use Rattle.granit_machine.specs.PossibleKeys.{key_in, top_key, outer_key, keyed_brackets, with_top_key, forgets_key}
use Rattle.granit_machine.specs.PossibleKeys.{refuse_required, drop_key, is_stale, fresh_key, stale_key, fresh_bracket}
use Rattle.granit_machine.specs.PossibleKeys.{fresh, without_stale, is_allowed, new_key, key_goes_on, node_key}
use Rattle.granit_machine.specs.PossibleKeys.{with_node, is_far_below, is_wide_at, tab_column_of, layout_of}
use Rattle.granit_machine.specs.Reader.{noded}
use Rattle.granit_machine.specs.ReaderState.{ReaderState}
use Rattle.granit_feeding.specs.Offsets.{bare_mark, bare_mark_of, bare_here, bare_comment, bare_tail, bare_possible}
use Rattle.granit_feeding.specs.Offsets.{bare_bracket, bare_laid, bare_reader, Kept}
use Rattle.granit_offsets.proofs.BareLexemes.{Same, same_ok, same_no, same_if, same_then, same_at, step_bare}
use Rattle.granit_offsets.proofs.BareLexemes.{offset_by, break_bare, if_here, on_comment, comment_same, itself}

module _ (keep : Kept) where
  -- ---- brackets and keys

  flow_by : (bs : List OpenBracket) → is_nonempty (map (bare_bracket keep) bs) ≡ is_nonempty bs
  flow_by [] = refl
  flow_by (b ∷ bs) = refl

  pub flow_bare : (l : Laid) → is_in_flow (bare_laid keep l) ≡ is_in_flow l
  flow_bare l = flow_by l.brackets

  square_by : (bs : List OpenBracket) → in_square (map (bare_bracket keep) bs) ≡ in_square bs
  square_by [] = refl
  square_by (b ∷ bs) = refl

  key_by : (bs : List OpenBracket) (key : Option PossibleKey)
      → key_in (map (bare_bracket keep) bs) (bare_possible keep key) ≡ bare_possible keep (key_in bs key)
  key_by [] key = refl
  key_by (b ∷ bs) key = refl

  pub top_bare : (l : Laid) → top_key (bare_laid keep l) ≡ bare_possible keep (top_key l)
  top_bare l = key_by l.brackets l.key

  outer_by : (bs : List OpenBracket) (new old : Option PossibleKey)
      → outer_key (map (bare_bracket keep) bs) (bare_possible keep new) (bare_possible keep old)
      ≡ bare_possible keep (outer_key bs new old)
  outer_by [] new old = refl
  outer_by (b ∷ bs) new old = refl

  keyed_by : (key : Option PossibleKey) (bs : List OpenBracket)
      → keyed_brackets (bare_possible keep key) (map (bare_bracket keep) bs)
      ≡ map (bare_bracket keep) (keyed_brackets key bs)
  keyed_by key [] = refl
  keyed_by key (b ∷ bs) = refl

  pub with_top_bare : (key : Option PossibleKey) (l : Laid)
      → with_top_key (bare_possible keep key) (bare_laid keep l) ≡ bare_laid keep (with_top_key key l)
  with_top_bare key l = ap₂ (λ (k : Option PossibleKey) (bs : List OpenBracket). record (bare_laid keep l) {
    key = k;
    brackets = bs;
  }) (outer_by l.brackets key l.key) (keyed_by key l.brackets)

  pub forgets_bare : (l : Laid) → forgets_key (bare_laid keep l) ≡ bare_laid keep (forgets_key l)
  forgets_bare l = with_top_bare None l

  required_same : (key : Option PossibleKey) → Same keep (itself keep) (refuse_required (bare_possible keep key))
      (refuse_required key)
  required_same None = same_ok keep (itself keep) tt tt refl
  required_same (Some k) = same_if keep (itself keep) k.is_required _ _ _ _
      (same_no keep (itself keep) (fault_at kinds.SimpleKeyExpected k.start)) (same_ok keep (itself keep) tt tt refl)

  pub drop_same : (l : Laid) → Same keep (bare_laid keep) (drop_key (bare_laid keep l)) (drop_key l)
  drop_same l = same_then keep (itself keep) (bare_laid keep) _ _ _ _
      (same_at keep (itself keep) refuse_required (top_key (bare_laid keep l)) (bare_possible keep (top_key l))
      (refuse_required (top_key l))
      (top_bare l) (required_same (top_key l)))
      (λ u. same_ok keep (bare_laid keep) (forgets_key l) (forgets_key (bare_laid keep l)) (forgets_bare l))

  -- ---- stale keys

  stale_if : (b : Bool) (k : PossibleKey) → (if b then None else bare_possible keep (Some k))
      ≡ bare_possible keep (if b then None else Some k)
  stale_if true k = refl
  stale_if false k = refl

  kept_if : (b : Bool) (k : PossibleKey) → (if b then bare_possible keep (Some k) else None)
      ≡ bare_possible keep (if b then Some k else None)
  kept_if true k = refl
  kept_if false k = refl

  fresh_key_bare : (o : OptionsData) (in_flow : Bool) (m : Mark) (key : Option PossibleKey)
      → fresh_key o in_flow (bare_mark keep m) (bare_possible keep key) ≡ bare_possible keep (fresh_key o in_flow m key)
  unfolding is_stale
  fresh_key_bare o in_flow m None = refl
  fresh_key_bare o in_flow m (Some k) = stale_if (is_stale o in_flow m k) k

  stale_key_bare : (o : OptionsData) (in_flow : Bool) (m : Mark) (key : Option PossibleKey)
      → stale_key o in_flow (bare_mark keep m) (bare_possible keep key) ≡ bare_possible keep (stale_key o in_flow m key)
  unfolding is_stale
  stale_key_bare o in_flow m None = refl
  stale_key_bare o in_flow m (Some k) = kept_if (is_stale o in_flow m k) k

  brackets_bare : (o : OptionsData) (m : Mark) (bs : List OpenBracket)
      → map (fresh_bracket o (bare_mark keep m)) (map (bare_bracket keep) bs)
      ≡ map (bare_bracket keep) (map (fresh_bracket o m) bs)
  brackets_bare o m [] = refl
  brackets_bare o m (b ∷ bs) = ap₂ (λ (k : Option PossibleKey) (bs : List OpenBracket). let c : OpenBracket =
      record { bracket = b.bracket; mark = bare_mark keep b.mark; key = k } in c ∷ bs) (fresh_key_bare o true m b.key)
      (brackets_bare o m bs)

  pub fresh_bare : (o : OptionsData) (m : Mark) (l : Laid)
      → fresh o (bare_mark keep m) (bare_laid keep l) ≡ bare_laid keep (fresh o m l)
  fresh_bare o m l =
      ap₂ (λ (k : Option PossibleKey) (bs : List OpenBracket). record (bare_laid keep l) { key = k; brackets = bs })
      (ap (λ f. fresh_key o f (bare_mark keep m) (bare_possible keep l.key)) (flow_bare l)
      ∙ fresh_key_bare o (is_in_flow l) m l.key) (brackets_bare o m l.brackets)

  pub stale_same : (o : OptionsData) (m : Mark) (l : Laid)
      → Same keep (bare_laid keep) (without_stale o (bare_mark keep m) (bare_laid keep l)) (without_stale o m l)
  stale_same o m l =
      same_then keep (itself keep) (bare_laid keep) _ _ _ _ (same_at keep (itself keep) refuse_required
      (stale_key o (is_in_flow (bare_laid keep l)) (bare_mark keep m) (bare_possible keep l.key))
      (bare_possible keep (stale_key o (is_in_flow l) m l.key)) (refuse_required (stale_key o (is_in_flow l) m l.key))
      (ap (λ f. stale_key o f (bare_mark keep m) (bare_possible keep l.key)) (flow_bare l)
      ∙ stale_key_bare o (is_in_flow l) m l.key) (required_same (stale_key o (is_in_flow l) m l.key)))
      (λ u. same_ok keep (bare_laid keep) (fresh o m l) (fresh o (bare_mark keep m) (bare_laid keep l))
      (fresh_bare o m l))

  -- ---- a lexeme of a node

  none_mark : (t : Option Mark) → is_none (bare_mark_of keep t) ≡ is_none t
  none_mark None = refl
  none_mark (Some m) = refl

  pub allowed_bare : (begins : Bool) (tab : Option Mark) (l : Laid)
      → is_allowed begins (bare_mark_of keep tab) (bare_laid keep l) ≡ is_allowed begins tab l
  unfolding is_allowed
  allowed_bare begins tab l = ap₂ (λ (f n : Bool). if f then is_opener l.last else (begins || is_dash l.last)
      || (is_indicator l.last && n)) (flow_bare l) (none_mark tab)

  new_bare : (property : Bool) (m : Mark) (l : Laid)
      → Some (new_key property (bare_mark keep m) (bare_laid keep l)) ≡ bare_possible keep (Some (new_key property m l))
  new_bare property m l = ap (λ f. Some (record
      (new_key property (bare_mark keep m) (bare_laid keep l)) {
        is_required = not f
            && is_column (block_column l) m.place.column;
      })) (flow_bare l)

  goes_bare : (property low : Bool) (key : Option PossibleKey)
      → key_goes_on property low (bare_possible keep key) ≡ bare_possible keep (key_goes_on property low key)
  goes_bare property low None = refl
  goes_bare property low (Some k) = on k.is_head
    where
      on : (b : Bool) → (if b then Some (record
          k { start = bare_mark keep k.start; is_low = k.is_low || low; is_head = property }) else Some
          (record k { start = bare_mark keep k.start }))
          ≡ bare_possible keep (if b then Some (record k { is_low = k.is_low || low; is_head = property }) else Some k)
      on true = refl
      on false = refl

  if_key : (b : Bool) (x y v w : Option PossibleKey) → x ≡ bare_possible keep v → y ≡ bare_possible keep w
      → (if b then x else y) ≡ bare_possible keep (if b then v else w)
  if_key true x y v w p q = p
  if_key false x y v w p q = q

  node_key_bare : (property allowed : Bool) (m : Mark) (l : Laid)
      → node_key property allowed (bare_mark keep m) (bare_laid keep l)
      ≡ bare_possible keep (node_key property allowed m l)
  unfolding node_key
  node_key_bare property allowed m l =
      if_key allowed _ _ _ _ (new_bare property m l)
      (ap (key_goes_on property (is_left (block_column l) m.place.column)) (top_bare l)
      ∙ goes_bare property (is_left (block_column l) m.place.column) (top_key l))

  pub noded_bare : (property : Bool) (h : Here) (l : Laid)
      → noded property (bare_here keep h) (bare_laid keep l) ≡ bare_laid keep (noded property h l)
  noded_bare property h l =
      let a = is_allowed h.begins_line h.tab l in
      ap (λ (b : Bool). with_node property b (bare_mark keep (mark_of h)) (bare_laid keep l))
      (allowed_bare h.begins_line h.tab l)
      ∙ ap (λ (k : Option PossibleKey). with_top_key k (bare_laid keep l)) (node_key_bare property a (mark_of h) l)
      ∙ with_top_bare (node_key property a (mark_of h) l) l

  pub far_bare : (p : Place) (l : Laid) (k : PossibleKey)
      → is_far_below p (bare_laid keep l) (record k { start = bare_mark keep k.start }) ≡ is_far_below p l k
  unfolding is_far_below
  far_bare p l k = ap₂ (λ (f s : Bool). (f && nat_lt k.start.place.line p.line)
      && ((k.is_low || is_left (block_column l) p.column) || s)) (flow_bare l) (square_by l.brackets)

  pub layout_bare : (o : OptionsData) (column : ℕ) (l : Laid)
      → layout_of o column (bare_laid keep l) ≡ layout_of o column l
  layout_bare o column l = ap (λ (f : Bool). let at : LayoutData =
      record {
        block_column = block_column l;
        tab_column = tab_column_of
            (is_wide_at f column l.columns || (f && o.strict_indentation)) (block_column l);
        in_flow = f;
        strict =
            o.strict_indentation;
        comments = true;
      } in at) (flow_bare l)

  -- ---- columns

  pub column_same : (o : OptionsData) (column : ℕ) (m : Mark) (l : Laid)
      → Same keep (itself keep) (refuse_column o column (bare_mark keep m) l.columns)
      (refuse_column o column m l.columns)
  unfolding refuse_column
  column_same o column m l =
      same_if keep (itself keep) (is_column (innermost_column l.columns) column) _ _ _ _
      (same_ok keep (itself keep) tt tt refl)
      (same_if keep (itself keep) (nat_le o.block_nesting_limit (length l.columns)) _ _ _ _
      (same_no keep (itself keep) (fault_at kinds.RecursionLimitExceeded m)) (same_ok keep (itself keep) tt tt refl))

  pub entry_same : (o : OptionsData) (column : ℕ) (m : Mark) (l : Laid)
      → Same keep (bare_laid keep) (with_entry o column (bare_mark keep m) (bare_laid keep l)) (with_entry o column m l)
  entry_same o column m l = same_then keep (itself keep) (bare_laid keep) _ _ _ _ (column_same o column m l)
      (λ u. same_ok keep (bare_laid keep) (entered column l) (entered column (bare_laid keep l)) refl)

  pub pair_same : (o : OptionsData) (column : ℕ) (m : Mark) (l : Laid)
      → Same keep (bare_laid keep) (with_pair o column (bare_mark keep m) (bare_laid keep l)) (with_pair o column m l)
  pair_same o column m l = same_then keep (itself keep) (bare_laid keep) _ _ _ _ (column_same o column m l)
      (λ u. same_ok keep (bare_laid keep) (pair_entered column l) (pair_entered column (bare_laid keep l)) refl)

  pub closed_at_bare : (column : ℕ) (l : Laid)
      → closed_at column (bare_laid keep l) ≡ bare_laid keep (closed_at column l)
  closed_at_bare column l = ap (λ (f : Bool). record (bare_laid keep l) {
    columns = if f then l.columns else up_to_column
        column l.columns;
    rolled = l.rolled && (f || not (is_left (block_column l) column));
  }) (flow_bare l)

  pub closed_all_bare : (l : Laid) → closed_all (bare_laid keep l) ≡ bare_laid keep (closed_all l)
  closed_all_bare l = ap (λ (f : Bool). record (bare_laid keep l) {
    columns = if f then l.columns else [];
    rolled = l.rolled
        && f;
  }) (flow_bare l)

  pub ends_at_bare : (column : ℕ) (l : Laid) → ends_at column (bare_laid keep l) ≡ ends_at column l
  ends_at_bare column l = ap (λ (f : Bool). not f && is_right_of_column column l.columns) (flow_bare l)

  pub ends_all_bare : (l : Laid) → ends_all (bare_laid keep l) ≡ ends_all l
  ends_all_bare l = ap (λ (f : Bool). not f && is_nonempty l.columns) (flow_bare l)

  -- ---- gaps

  tab_if : (b : Bool) (t : Option Mark) → (if b then bare_mark_of keep t else None)
      ≡ bare_mark_of keep (if b then t else None)
  tab_if true t = refl
  tab_if false t = refl

  pub leading_bare : (h : Here) → leading_tab (bare_here keep h) ≡ bare_mark_of keep (leading_tab h)
  leading_bare h = tab_if (h.begins_line && not (is_breakz (next_char h))) h.tab

  tab_at_same : (o : OptionsData) (l : Laid) (m tab : Mark)
      → Same keep (itself keep) (refuse_tab_at o (bare_laid keep l) (bare_mark keep m) (bare_mark keep tab))
      (refuse_tab_at o l m tab)
  unfolding refuse_tab_at
  tab_at_same o l m tab =
      same_at keep (itself keep) (λ (f : Bool). if is_question l.last
      && is_left (block_column l) tab.place.column then Rattle.granit_lexemes.specs.Basics.fails_at
      kinds.TabNotAllowed (bare_mark keep tab) else if nat_lt tab.place.column
      (tab_column_of (l.rolled || (f && o.strict_indentation)) (block_column l)) then
      Rattle.granit_lexemes.specs.Basics.fails_at kinds.TabInBlockIndentation (bare_mark keep m) else Ok tt)
      (is_in_flow (bare_laid keep l)) (is_in_flow l) _ (flow_bare l)
      (same_if keep (itself keep) (is_question l.last && is_left (block_column l) tab.place.column) _ _ _ _
      (same_no keep (itself keep) (fault_at kinds.TabNotAllowed tab))
      (same_if keep (itself keep) (nat_lt tab.place.column
      (tab_column_of (l.rolled || (is_in_flow l && o.strict_indentation))
      (block_column l))) _ _ _ _ (same_no keep (itself keep) (fault_at kinds.TabInBlockIndentation m))
      (same_ok keep (itself keep) tt tt refl)))

  pub refuse_tab_same : (o : OptionsData) (l : Laid) (m : Mark) (tab : Option Mark)
      → Same keep (itself keep) (refuse_tab o (bare_laid keep l) (bare_mark keep m) (bare_mark_of keep tab))
      (refuse_tab o l m tab)
  refuse_tab_same o l m None = same_ok keep (itself keep) tt tt refl
  refuse_tab_same o l m (Some tab) = tab_at_same o l m tab

  prefix_bare : (h : Here) → past_prefix_mark (bare_here keep h) ≡ bare_here keep (past_prefix_mark h)
  unfolding past_prefix_mark
  prefix_bare h =
      let more = λ (n : ℕ). n + length (encode_utf8 (first h.unread.text)) in
      ap (λ (n : Option ℕ). let g : Here = record (bare_here keep (past_prefix_mark h)) {
        unread = record { text = drop 1 h.unread.text; offset = n; lends = h.unread.lends && keep.lending };
      } in g) (offset_by keep keep.offsets more h.unread.offset)

  over_char_bare : (may : Bool) (h : Here) → over_gap_char may (bare_here keep h) ≡ bare_here keep (over_gap_char may h)
  over_char_bare may h = if_here keep (at_prefix_mark may h) _ _ _ _ (prefix_bare h) (step_bare keep h)

  chosen_bare : (b : Bool) (g h : Here) → chosen b (bare_here keep g) (bare_here keep h) ≡ bare_here keep (chosen b g h)
  chosen_bare true g h = refl
  chosen_bare false g h = refl

  skip_gap_bare : (may : Bool) (cs : List ℕ) (h : Here)
      → skip_gap may cs (bare_here keep h) ≡ bare_here keep (skip_gap may cs h)
  skip_gap_bare may [] h = refl
  skip_gap_bare may (c ∷ cs) h =
      ap (λ (g : Here). chosen (begins_gap may h) g (bare_here keep h))
      (ap (skip_gap may cs) (over_char_bare may h) ∙ skip_gap_bare may cs (over_gap_char may h))
      ∙ chosen_bare (begins_gap may h) (skip_gap may cs (over_gap_char may h)) h

  past_gap_bare : (may : Bool) (h : Here) → past_gap may (bare_here keep h) ≡ bare_here keep (past_gap may h)
  unfolding past_gap
  past_gap_bare may h = skip_gap_bare may h.unread.text h

  pub over_break_bare : (h : Here) → over_break_if (bare_here keep h) ≡ bare_here keep (over_break_if h)
  unfolding over_break_if
  over_break_bare h = if_here keep (is_break (next_char h)) _ _ _ _ (break_bare keep h) refl

  goes_on_bare : (l : Laid) (h : Here) (cut : Mark)
      → goes_on_behind (bare_laid keep l) (bare_here keep h) (bare_mark keep cut) ≡ goes_on_behind l h cut
  unfolding goes_on_behind
  goes_on_bare l h cut =
      ap (λ (f : Bool). ((not f && h.place.line == suc cut.place.line)
      && (not (is_left (block_column l) h.place.column) && not (text_len h == 0)))
      && not (is_document_mark h.unread.text
      || (next_char h == 0x3A && is_blank_or_breakz (slice_index h.unread.text 1)))) (flow_bare l)

  cut_same : (l : Laid) (h : Here) (cut : Option Mark)
      → Same keep (itself keep) (refuse_cut_by (bare_laid keep l) (bare_here keep h) (bare_mark_of keep cut))
      (refuse_cut_by l h cut)
  cut_same l h None = same_ok keep (itself keep) tt tt refl
  cut_same l h (Some cut) =
      same_at keep (itself keep) (λ (b : Bool). if b then Rattle.granit_lexemes.specs.Basics.fails_at
      kinds.CommentInterceptedScalar
      (bare_mark keep cut) else Ok tt) (goes_on_behind (bare_laid keep l) (bare_here keep h) (bare_mark keep cut))
      (goes_on_behind l h cut) _ (goes_on_bare l h cut)
      (same_if keep (itself keep) (goes_on_behind l h cut) _ _ _ _
      (same_no keep (itself keep) (fault_at kinds.CommentInterceptedScalar cut))
      (same_ok keep (itself keep) tt tt refl))

  abbrev pub on_gap : Option CommentRead × ReaderState → Option CommentRead × ReaderState
  on_gap x = (bare_tail keep x.0, bare_reader keep x.1)

  noted_same : (h : Here) (l : Laid) → Same keep on_gap (noted_gap (bare_here keep h) (bare_laid keep l))
      (noted_gap h l)
  unfolding noted_gap
  noted_same h l =
      same_then keep (on_comment keep) on_gap _ _ _ _ (comment_same keep h)
      (λ x. same_ok keep on_gap (Some x.0, record { here = over_break_if x.1; laid = behind_note l }) _
      (ap (λ (g : Here). let r : Option CommentRead
      × ReaderState = (Some (bare_comment keep x.0), record { here = g; laid = behind_note (bare_laid keep l) }) in r)
      (over_break_bare x.1)))

  ready_same : (o : OptionsData) (moved : Bool) (h : Here) (l : Laid)
      → Same keep on_gap (ready_gap o moved (bare_here keep h) (bare_laid keep l)) (ready_gap o moved h l)
  unfolding ready_gap
  ready_same o moved h l =
      same_then keep (itself keep) on_gap _ _ _ _
      (same_at keep (itself keep) (refuse_tab o (bare_laid keep l) (bare_mark keep (mark_of h)))
      (leading_tab (bare_here keep h)) (bare_mark_of keep (leading_tab h)) (refuse_tab o l (mark_of h) (leading_tab h))
      (leading_bare h) (refuse_tab_same o l (mark_of h) (leading_tab h)))
      (λ t. same_then keep (itself keep) on_gap _ _ _ _ (cut_same l h l.cut)
      (λ u. same_ok keep on_gap (None, record { here = h; laid = behind_gap moved l }) _ refl))

  gap_ends_same : (o : OptionsData) (moved : Bool) (h : Here) (l : Laid)
      → Same keep on_gap (gap_ends o moved (bare_here keep h) (bare_laid keep l)) (gap_ends o moved h l)
  unfolding gap_ends
  gap_ends_same o moved h l = same_if keep on_gap (next_char h == 0x23) _ _ _ _ (noted_same h l)
      (ready_same o moved h l)

  takes_bare : (l : Laid) → takes_prefix (bare_laid keep l) ≡ takes_prefix l
  takes_bare l = ap (λ (f : Bool). l.may_prefix && not f) (flow_bare l)

  pub gap_same : (o : OptionsData) (h : Here) (l : Laid)
      → Same keep on_gap (gap o (bare_here keep h) (bare_laid keep l)) (gap o h l)
  gap_same o h l =
      let may = takes_prefix l in
      same_at keep on_gap (λ (may : Bool). gap_ends o (begins_gap may (bare_here keep h))
      (past_gap may (bare_here keep h))
      (bare_laid keep l)) (takes_prefix (bare_laid keep l)) may _ (takes_bare l)
      (same_at keep on_gap (λ (g : Here). gap_ends o (begins_gap may h) g (bare_laid keep l))
      (past_gap may (bare_here keep h))
      (bare_here keep (past_gap may h)) _ (past_gap_bare may h) (gap_ends_same o (begins_gap may h) (past_gap may h) l))
