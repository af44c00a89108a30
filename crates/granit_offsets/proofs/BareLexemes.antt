-- Each lexeme is read alike where byte offsets or lending are forgotten.
use Rattle.std.proofs.Common.{◌≡◌, ℕ, zero, suc, ◌+◌, ◌-◌, ◌*◌, ◌==◌, ◌&&◌, ◌||◌, not, Bool, true, false, List, [], ◌∷◌}
use Rattle.std.proofs.Common.{◌++◌, drop, Option, Some, None, Result, Ok, Err, refl, sym, ap, ap₂, ◌∙◌, subst}
use lib.Utf8.{scalar}
use Rattle.std.specs.Option.{option_map}
use Rattle.std.specs.Char.{encode_utf8}
use Rattle.std.specs.Prelude.{is_none, length, slice_index, if◌then◌else◌}
use Rattle.granit_base.specs.Classes.{is_z, is_printable, is_blank, is_break, is_hex, hex_value, is_digit}
use Rattle.granit_base.specs.Classes.{is_non_breakz}
use Rattle.granit_base.specs.Place.{Mark, first, past_first, place_after, ends_line}
use Rattle.granit_base.specs.Written.{Written}
use Rattle.granit_error.specs.FaultKind.{FaultKind}
use Rattle.granit_error.specs.FaultKind as kinds
use Rattle.granit_lexemes.specs.Basics.{fails_at, is_document_mark, past_break, only_printable, unprintable, text_up_to}
use Rattle.granit_lexemes.specs.Basics.{count_up_to}
use Rattle.granit_lexemes.specs.BlockHeader.{Chomping, BlockHeader, is_space, refuse_unprintable, header_sign}
use Rattle.granit_lexemes.specs.BlockHeader.{block_header, leading_turn, content_column, chomping_of, margin_of}
use Rattle.granit_lexemes.specs.BlockHeader.{greatest}
use Rattle.granit_lexemes.specs.BlockScalar.{over_spaces, indented, empty_turn, empty_lines, BlockState, between_lines}
use Rattle.granit_lexemes.specs.BlockScalar.{line_up_to, block_turn, block_len, BlockRead, last_break}
use Rattle.granit_lexemes.specs.BlockScalar.{kept, block_read, behind_block, no_content, is_between, content_lines}
use Rattle.granit_lexemes.specs.BlockScalar.{block_lines, block_body, BlockGiven, block_scalar}
use Rattle.granit_lexemes.specs.Comment.{CommentRead, is_line_char, past_comment, behind_comment, skipped_comment}
use Rattle.granit_lexemes.specs.Comment.{comment_read, comment}
use Rattle.granit_lexemes.specs.Decoding.{letter_value, digit_count, is_high, is_low, joined}
use Rattle.granit_lexemes.specs.Here.{Here, text_len, next_char, mark_of, first_tab, begins_behind, tab_behind, step}
use Rattle.granit_lexemes.specs.Here.{mid_line, chosen, skip, past, chunk_len, is_quiet}
use Rattle.granit_lexemes.specs.LayoutData.{LayoutData, is_left}
use Rattle.granit_lexemes.specs.Moves.{steps}
use Rattle.granit_lexemes.specs.Outcome.{Fault, fault_at, ◌>>=◌}
use Rattle.granit_base.specs.PlainContent.{is_content}
use Rattle.granit_lexemes.specs.Pieces.{with_front, then_more, turns, pieces}
use Rattle.granit_lexemes.specs.PlainScalar.{PlainState, PlainRead, between, ends_before_line, on_content, on_blank}
use Rattle.granit_lexemes.specs.PlainScalar.{on_break, plain_turn, plain_len, plain_start, meets_comment, plain_read}
use Rattle.granit_lexemes.specs.PlainScalar.{behind_plain, plain_scalar, is_one_line}
use Rattle.granit_lexemes.specs.QuotedScalar.{is_tab_left, is_strictly_left, is_loosely_left, may_trail, trailing_kind}
use Rattle.granit_lexemes.specs.QuotedScalar.{QuotedState, QuotedRead, is_closing, digits_or, joined_or, second_half_or}
use Rattle.granit_lexemes.specs.QuotedScalar.{numbered_or, escape_or_by, escape_or, over_blank, over_break}
use Rattle.granit_lexemes.specs.QuotedScalar.{between_quoted, quoted_at, quoted_piece, quoted_content, quoted_turn}
use Rattle.granit_lexemes.specs.QuotedScalar.{quoted_len, quoted_read, asked_comment, behind_quoted, quoted_tail}
use Rattle.granit_lexemes.specs.QuotedScalar.{quoted_rest, quoted_text, quoted_scalar, is_verbatim}
use Rattle.granit_lexemes.specs.Tail.{tail_behind, tail_at}
use Rattle.granit_feeding.specs.Offsets.{bare_offset, bare_text, bare_mark, bare_mark_of, bare_source, bare_here}
use Rattle.granit_feeding.specs.Offsets.{bare_fault, bare_comment, bare_tail, Kept}

module _ (keep : Kept) where
  -- ---- results

  abbrev pub mapped : {A B : Type 0} → (A → B) → Result A Fault → Result B Fault
  mapped f (Ok x) = Ok (f x)
  mapped f (Err e) = Err (bare_fault keep e)

  -- a result is another one with its places bare
  pub record Same {A B : Type 0} (f : A → B) (r : Result B Fault) (s : Result A Fault) : Type 0 where
    pub is : r ≡ mapped f s

  pub same_ok : {A B : Type 0} (f : A → B) (x : A) (y : B) → y ≡ f x → Same f (Ok y) (Ok x)
  same_ok {A} {B} f x y e = record { is = ap (λ (y : B). let r : Result B Fault = Ok y in r) e }

  pub same_no : {A B : Type 0} (f : A → B) (e : Fault) → Same f (Err (bare_fault keep e)) (Err e)
  same_no f e = record { is = refl }

  pub same_if : {A B : Type 0} (f : A → B) (b : Bool) (x y : Result B Fault) (v w : Result A Fault) → Same f x v
      → Same f y w → Same f (if b then x else y) (if b then v else w)
  same_if f true x y v w p q = p
  same_if f false x y v w p q = q

  pub same_then : {A B C D : Type 0} (f : A → B) (g : C → D) (r : Result B Fault) (s : Result A Fault)
      (k : B → Result D Fault) (l : A → Result C Fault) → Same f r s → ((x : A) → Same g (k (f x)) (l x))
      → Same g (r >>= k) (s >>= l)
  same_then {D = D} f g r (Ok x) k l e h = subst (λ (r : Result _ Fault). Same g (r >>= k) (l x)) (sym e.is) (h x)
  same_then f g r (Err e) k l p h = record { is = ap (λ r. r >>= k) p.is }

  -- with what is known of the first result
  pub same_then_from : {A B C D : Type 0} (f : A → B) (g : C → D) (r : Result B Fault) (s : Result A Fault)
      (k : B → Result D Fault) (l : A → Result C Fault) → Same f r s
      → ((x : A) → s ≡ Ok x → Same g (k (f x)) (l x)) → Same g (r >>= k) (s >>= l)
  same_then_from {D = D} f g r (Ok x) k l e h = subst (λ (r : Result _ Fault). Same g (r >>= k) (l x)) (sym e.is)
      (h x refl)
  same_then_from f g r (Err e) k l p h = record { is = ap (λ r. r >>= k) p.is }

  -- where a place is the bare one
  pub same_at : {A B : Type 0} {S : Type 0} (f : A → B) (F : S → Result B Fault) (g h : S) (r : Result A Fault) → g ≡ h
      → Same f (F h) r → Same f (F g) r
  same_at f F g h r e p = subst (λ g. Same f (F g) r) (sym e) p

  -- ---- loops

  abbrev pub on_state : {A S : Type 0} → (S → S) → A × S → A × S
  on_state b x = (x.0, b x.1)

  front_same : {A S : Type 0} (b : S → S) (xs : List A) (r s : Result (List A × S) Fault) → Same (on_state b) r s
      → Same (on_state b) (with_front xs r) (with_front xs s)
  front_same b xs r (Ok x) p = record { is = ap (with_front xs) p.is }
  front_same b xs r (Err e) p = record { is = ap (with_front xs) p.is }

  more_same : {A S : Type 0} (b : S → S) (k l : S → Result (List A × S) Fault)
      → ((s : S) → Same (on_state b) (k (b s)) (l s)) → (o : Option (List A)) (s : S)
      → Same (on_state b) (then_more k o (b s)) (then_more l o s)
  more_same b k l h None s = record { is = refl }
  more_same b k l h (Some xs) s = front_same b xs (k (b s)) (l s) (h s)

  turns_same : {A S : Type 0} (b : S → S) (k l : S → Result (Option (List A) × S) Fault)
      → ((s : S) → Same (on_state b) (k (b s)) (l s)) → (n : ℕ) (s : S)
      → Same (on_state b) (turns k n (b s)) (turns l n s)
  unfolding turns
  turns_same b k l h zero s = record { is = refl }
  turns_same b k l h (suc n) s = same_then (on_state b) (on_state b) (k (b s)) (l s) _ _ (h s)
      (λ x. more_same b (turns k n) (turns l n) (turns_same b k l h n) x.0 x.1)

  pub pieces_same : {A S : Type 0} (size : S → ℕ) (b : S → S) (k l : S → Result (Option (List A) × S) Fault)
      → ((s : S) → size (b s) ≡ size s) → ((s : S) → Same (on_state b) (k (b s)) (l s)) → (s : S)
      → Same (on_state b) (pieces size k (b s)) (pieces size l s)
  unfolding pieces
  pieces_same size b k l e h s = same_at (on_state b) (λ n. turns k (suc n) (b s)) (size (b s)) (size s) _ (e s)
      (turns_same b k l h (suc (size s)) s)

  -- ---- moves

  step_by : (b : Bool) (h g : Here) → (if b then bare_here keep h else bare_here keep g)
      ≡ bare_here keep (if b then h else g)
  step_by true h g = refl
  step_by false h g = refl

  first_bare : (t : Option Mark) (m : Mark) → first_tab (bare_mark_of keep t) (bare_mark keep m)
      ≡ bare_mark_of keep (first_tab t m)
  first_bare None m = refl
  first_bare (Some t) m = refl

  tab_by : (a b : Bool) (t : Option Mark) (m : Mark)
      → (if a then None else if b then first_tab (bare_mark_of keep t) (bare_mark keep m) else bare_mark_of keep t)
      ≡ bare_mark_of keep (if a then None else if b then first_tab t m else t)
  tab_by true b t m = refl
  tab_by false true t m = first_bare t m
  tab_by false false t m = refl

  tab_bare : (h : Here) → tab_behind (bare_here keep h) ≡ bare_mark_of keep (tab_behind h)
  unfolding tab_behind
  tab_bare h = tab_by (ends_line h.unread.text || not (is_quiet (next_char h))) (next_char h == 0x09) h.tab (mark_of h)

  begins_bare : (h : Here) → begins_behind (bare_here keep h) ≡ begins_behind h
  unfolding begins_behind
  begins_bare h = refl

  pub offset_by : (b : Bool) (f : ℕ → ℕ) (n : Option ℕ)
      → option_map f (if b then n else None) ≡ (if b then option_map f n else None)
  offset_by true f n = refl
  offset_by false f n = refl

  pub step_bare : (h : Here) → step (bare_here keep h) ≡ bare_here keep (step h)
  unfolding step
  step_bare h =
      let more = λ (n : ℕ). n + length (encode_utf8 (first h.unread.text)) in
      let made = λ (b : Bool) (t : Option Mark) (n : Option ℕ). if◌then◌else◌ {A = Here} (text_len h == 0)
      (bare_here keep h) (record {
        unread = record { text = drop 1 h.unread.text; offset = n; lends = h.unread.lends && keep.lending };
        place = place_after h.unread.text h.place;
        begins_line = b;
        tab = t;
      }) in
      ap₂ (λ (b : Bool) (t : Option Mark). made b t (option_map more (bare_offset keep h.unread.offset)))
      (begins_bare h) (tab_bare h)
      ∙ ap (made (begins_behind h) (bare_mark_of keep (tab_behind h)))
      (offset_by keep.offsets more h.unread.offset)
      ∙ step_by (text_len h == 0) h (record {
        unread = past_first h.unread;
        place = place_after h.unread.text h.place;
        begins_line = begins_behind h;
        tab = tab_behind h;
      })

  pub steps_bare : (n : ℕ) (h : Here) → steps n (bare_here keep h) ≡ bare_here keep (steps n h)
  unfolding steps
  steps_bare zero h = refl
  steps_bare (suc n) h = ap (steps n) (step_bare h) ∙ steps_bare n (step h)

  chosen_bare : (b : Bool) (g h : Here) → chosen b (bare_here keep g) (bare_here keep h) ≡ bare_here keep (chosen b g h)
  chosen_bare true g h = refl
  chosen_bare false g h = refl

  skip_bare : (test : ℕ → Bool) (cs : List ℕ) (h : Here)
      → skip test cs (bare_here keep h) ≡ bare_here keep (skip test cs h)
  skip_bare test [] h = refl
  skip_bare test (c ∷ cs) h = ap (λ (g : Here). chosen (test (next_char h)) g (bare_here keep h))
      (ap (skip test cs) (step_bare h) ∙ skip_bare test cs (step h))
      ∙ chosen_bare (test (next_char h)) (skip test cs (step h)) h

  pub past_bare : (test : ℕ → Bool) (h : Here) → past test (bare_here keep h) ≡ bare_here keep (past test h)
  unfolding past
  past_bare test h = skip_bare test h.unread.text h

  two_bare : (h : Here) → step (step (bare_here keep h)) ≡ bare_here keep (step (step h))
  two_bare h = ap step (step_bare h) ∙ step_bare (step h)

  pub if_here : (b : Bool) (g h x y : Here) → g ≡ bare_here keep x → h ≡ bare_here keep y
      → (if b then g else h) ≡ bare_here keep (if b then x else y)
  if_here true g h x y p q = p
  if_here false g h x y p q = q

  pub break_bare : (h : Here) → past_break (bare_here keep h) ≡ bare_here keep (past_break h)
  unfolding past_break
  break_bare h = if_here (next_char h == 0x0D && slice_index h.unread.text 1 == 0x0A) _ _ _ _ (two_bare h) (step_bare h)

  -- ---- comments and tails

  abbrev pub on_here : {A : Type 0} → A × Here → A × Here
  on_here x = (x.0, bare_here keep x.1)

  abbrev pub on_comment : CommentRead × Here → CommentRead × Here
  on_comment x = (bare_comment keep x.0, bare_here keep x.1)

  abbrev pub on_tail : Option CommentRead × Here → Option CommentRead × Here
  on_tail x = (bare_tail keep x.0, bare_here keep x.1)

  past_comment_bare : (h : Here) → past_comment (bare_here keep h) ≡ bare_here keep (past_comment h)
  past_comment_bare h = ap (λ (g : Here). mid_line (steps (chunk_len is_line_char g) g)) (step_bare h)
      ∙ ap mid_line (steps_bare (chunk_len is_line_char (step h)) (step h))

  behind_comment_same : (h : Here) → Same on_here (behind_comment (bare_here keep h)) (behind_comment h)
  unfolding behind_comment
  behind_comment_same h = same_if on_here _ _ _ _ _ (same_ok on_here (tt, h) _ refl) (same_no on_here _)

  skipped_same : (h : Here) → Same on_here (skipped_comment (bare_here keep h)) (skipped_comment h)
  unfolding skipped_comment
  skipped_same h = same_at on_here behind_comment (past_comment (bare_here keep h)) (bare_here keep (past_comment h)) _
      (past_comment_bare h) (behind_comment_same (past_comment h))

  comment_read_bare : (h after : Here) → comment_read (bare_here keep h) (bare_here keep after)
      ≡ bare_comment keep (comment_read h after)
  comment_read_bare h after = ap (λ (g : Here). record (comment_read (bare_here keep h) (bare_here keep after)) {
    text =
        Rattle.granit_lexemes.specs.Basics.as_spelled (bare_here keep h)
        (Rattle.granit_lexemes.specs.Here.chunk is_line_char g);
  }) (step_bare h)

  pub comment_same : (h : Here) → Same on_comment (comment (bare_here keep h)) (comment h)
  unfolding comment
  comment_same h =
      same_then on_here on_comment (skipped_comment (bare_here keep h)) (skipped_comment h) _ _ (skipped_same h)
      (λ x. same_ok on_comment (comment_read h x.1, x.1) _
      (ap (λ (c : CommentRead). let p : CommentRead × Here = (c, bare_here keep x.1) in p) (comment_read_bare h x.1)))

  pub some_comment : (h : Here) → Same on_tail (comment (bare_here keep h) >>= λ x. Ok (Some x.0, x.1))
      (comment h >>= λ x. Ok (Some x.0, x.1))
  some_comment h = same_then on_comment on_tail (comment (bare_here keep h)) (comment h) _ _ (comment_same h)
      (λ x. same_ok on_tail (Some x.0, x.1) _ refl)

  tail_behind_same : (end h : Here) → Same on_tail (tail_behind (bare_here keep end) (bare_here keep h))
      (tail_behind end h)
  unfolding tail_behind
  tail_behind_same end h = same_if on_tail _ _ _ _ _ (same_ok on_tail (None, h) _ refl)
      (same_if on_tail _ _ _ _ _ (same_no on_tail _) (some_comment h))

  pub tail_same : (end : Here) → Same on_tail (tail_at (bare_here keep end)) (tail_at end)
  tail_same end = same_at on_tail (tail_behind (bare_here keep end)) (past is_blank (bare_here keep end))
      (bare_here keep (past is_blank end)) _ (past_bare is_blank end) (tail_behind_same end (past is_blank end))

  -- ---- plain scalars

  abbrev bare_plain : PlainState → PlainState
  bare_plain s = record s { here = bare_here keep s.here; end = bare_mark keep s.end }

  abbrev pub on_plain : PlainRead × Here → PlainRead × Here
  on_plain x = (
    record {
      text = bare_text keep x.0.text;
      source = bare_source keep x.0.source;
      cut_by_comment = bare_mark_of keep
          x.0.cut_by_comment;
      on_new_line = x.0.on_new_line;
    },
    bare_here keep x.1,
  )

  content_bare : (s : PlainState) → on_content (bare_plain s) ≡ bare_plain (on_content s)
  unfolding on_content
  content_bare s = ap (λ (g : Here). let r : PlainState =
      record { here = g; end = mark_of g; pending = []; on_new_line = false; left_tab = false } in r) (step_bare s.here)

  if_plain : (b : Bool) (g h x y : PlainState) → g ≡ bare_plain x → h ≡ bare_plain y
      → (if b then g else h) ≡ bare_plain (if b then x else y)
  if_plain true g h x y p q = p
  if_plain false g h x y p q = q

  blank_bare : (at : LayoutData) (s : PlainState) → on_blank at (bare_plain s) ≡ bare_plain (on_blank at s)
  unfolding on_blank
  blank_bare at s = if_plain s.on_new_line _ _ _ _
      (ap (λ (g : Here). record (bare_plain s) {
        here = g;
        left_tab = s.left_tab
            || (next_char s.here == 0x09 && is_left at.block_column s.here.place.column);
      }) (step_bare s.here))
      (ap (λ (g : Here). record (bare_plain s) { here = g; pending = s.pending ++ next_char s.here ∷ [] })
      (step_bare s.here))

  line_bare : (s : PlainState) → on_break (bare_plain s) ≡ bare_plain (on_break s)
  unfolding on_break
  line_bare s = if_plain s.on_new_line _ _ _ _ (ap
      (λ (g : Here). record (bare_plain s) { here = g; pending = s.pending ++ 0x0A ∷ []; left_tab = false })
      (break_bare s.here)) (ap (λ (g : Here). record (bare_plain s) { here = g; pending = []; on_new_line = true })
      (break_bare s.here))

  -- a turn that gives something and a state
  pub gives : {S : Type 0} (b : S → S) (xs : Option (List ℕ)) (s t : S) → t ≡ b s
      → Same (on_state b) (Ok (xs, t)) (Ok (xs, s))
  gives {S} b xs s t e = same_ok (on_state b) (xs, s) (xs, t)
      (ap (λ (t : S). let p : Option (List ℕ) × S = (xs, t) in p) e)

  plain_turn_same : (at : LayoutData) (start : Mark) (s : PlainState)
      → Same (on_state bare_plain) (plain_turn at (bare_mark keep start) (bare_plain s)) (plain_turn at start s)
  unfolding plain_turn
  plain_turn_same at start s =
      let f = on_state {A = Option (List ℕ)} bare_plain in
      same_if f (is_blank (next_char s.here)) _ _ _ _ (gives bare_plain (Some []) (on_blank at s) _ (blank_bare at s))
      (same_if f (is_break (next_char s.here)) _ _ _ _ (gives bare_plain (Some []) (on_break s) _ (line_bare s))
      (same_if f (meets_comment s) _ _ _ _ (gives bare_plain None s _ refl)
      (same_if f (s.left_tab && not (is_z (next_char s.here))) _ _ _ _
      (same_no f (fault_at kinds.TabInPlainScalar start))
      (same_if f (s.on_new_line && ends_before_line at s.here) _ _ _ _ (gives bare_plain None s _ refl)
      (same_if f (is_content at.in_flow s.here.unread.text) _ _ _ _
      (gives bare_plain (Some (between s ++ next_char s.here ∷ [])) (on_content s) _ (content_bare s))
      (gives bare_plain None s _ refl))))))

  cut_bare : (b : Bool) (m : Mark) → (if b then Some (bare_mark keep m) else None)
      ≡ bare_mark_of keep (if b then Some m else None)
  cut_bare true m = refl
  cut_bare false m = refl

  -- a text is lent where nothing was decoded, the input lends and lending is kept
  lent_bare : (verbatim lends : Bool) → (verbatim && (lends && keep.lending)) ≡ ((verbatim && lends) && keep.lending)
  lent_bare true lends = refl
  lent_bare false lends = refl

  read_bare : (at : LayoutData) (start : Mark) (value : List ℕ) (s : PlainState)
      → ◌≡◌ {A = PlainRead × Here} (plain_read at (bare_mark keep start) value (bare_plain s), bare_here keep s.here)
      (on_plain (plain_read at start value s, s.here))
  read_bare at start value s =
      ap₂ (λ (m : Option Mark) (lent : Bool). let r : PlainRead × Here = (
        record (plain_read at (bare_mark keep start) value (bare_plain s)) {
          text = record { characters = value; is_borrowed = lent };
          cut_by_comment = m;
        },
        bare_here keep s.here,
      ) in r) (cut_bare (not at.in_flow && meets_comment s) (mark_of s.here))
      (lent_bare (is_one_line start s.end) s.here.unread.lends)

  behind_plain_same : (at : LayoutData) (start : Mark) (value : List ℕ) (s : PlainState)
      → Same on_plain (behind_plain at (bare_mark keep start) value (bare_plain s)) (behind_plain at start value s)
  unfolding behind_plain
  behind_plain_same at start value s = same_if on_plain _ _ _ _ _ (same_no on_plain _)
      (same_ok on_plain (plain_read at start value s, s.here) _ (read_bare at start value s))

  pub only_same : {A B : Type 0} (f : A → B) (c : Option ℕ) (m : Mark) (r : Result B Fault) (s : Result A Fault)
      → Same f r s → Same f (only_printable c (bare_mark keep m) r) (only_printable c m s)
  only_same f None m r s p = p
  only_same f (Some c) m r s p = same_no f _

  pub plain_same : (at : LayoutData) (h : Here) → Same on_plain (plain_scalar at (bare_here keep h)) (plain_scalar at h)
  unfolding plain_scalar
  plain_same at h =
      same_if on_plain _ _ _ _ _ (same_no on_plain _)
      (same_then (on_state bare_plain) on_plain _ _ _ _
      (pieces_same plain_len bare_plain (plain_turn at (bare_mark keep (mark_of h))) (plain_turn at (mark_of h))
      (λ s. refl) (plain_turn_same at (mark_of h)) (plain_start h))
      (λ x. only_same on_plain (unprintable x.0) (mark_of h) _ _ (behind_plain_same at (mark_of h) x.0 x.1)))

  -- ---- quoted scalars

  abbrev bare_quoted : QuotedState → QuotedState
  bare_quoted s = record s { here = bare_here keep s.here }

  abbrev pub on_quoted : QuotedRead × Here → QuotedRead × Here
  on_quoted x = (
    record {
      text = bare_text keep x.0.text;
      source = bare_source keep x.0.source;
      comment = bare_tail keep x.0.comment;
      on_new_line =
          x.0.on_new_line;
    },
    bare_here keep x.1,
  )

  digits_same : (kind : FaultKind) (start : Mark) (count n : ℕ) (h : Here)
      → Same on_here (digits_or kind (bare_mark keep start) count n (bare_here keep h)) (digits_or kind start count n h)
  unfolding digits_or
  digits_same kind start zero n h = same_ok on_here (n, h) _ refl
  digits_same kind start (suc count) n h =
      let more = same_at on_here (digits_or kind (bare_mark keep start) count (n * 16 + hex_value (next_char h)))
      (step (bare_here keep h)) (bare_here keep (step h))
      (digits_or kind start count (n * 16 + hex_value (next_char h)) (step h)) (step_bare h)
      (digits_same kind start count (n * 16 + hex_value (next_char h)) (step h)) in
      same_if on_here (is_hex (next_char h)) _ _ _ _ more (same_no on_here (fault_at kind start))

  joined_same : (start : Mark) (high low : ℕ) (h : Here)
      → Same on_here (joined_or (bare_mark keep start) high low (bare_here keep h)) (joined_or start high low h)
  joined_same start high low h = same_if on_here (is_low low) _ _ _ _ (same_ok on_here (joined high low, h) _ refl)
      (same_no on_here (fault_at kinds.InvalidLowSurrogate start))

  second_same : (start : Mark) (high : ℕ) (h : Here)
      → Same on_here (second_half_or (bare_mark keep start) high (bare_here keep h)) (second_half_or start high h)
  unfolding second_half_or
  second_same start high h =
      let digits = same_at on_here (digits_or kinds.InvalidLowSurrogateHexEscape (bare_mark keep start) 4 0)
      (step (step (bare_here keep h))) (bare_here keep (step (step h)))
      (digits_or kinds.InvalidLowSurrogateHexEscape start 4 0 (step (step h))) (two_bare h)
      (digits_same kinds.InvalidLowSurrogateHexEscape start 4 0 (step (step h))) in
      same_if on_here (next_char h == 0x5C && slice_index h.unread.text 1 == 0x75) _ _ _ _
      (same_then on_here on_here _ _ _ _ digits (λ x. joined_same start high x.0 x.1))
      (same_no on_here (fault_at kinds.MissingLowSurrogate start))

  numbered_same : (start : Mark) (count n : ℕ) (h : Here)
      → Same on_here (numbered_or (bare_mark keep start) count n (bare_here keep h)) (numbered_or start count n h)
  unfolding numbered_or
  numbered_same start count n h =
      same_if on_here (scalar n) _ _ _ _ (same_ok on_here (n, h) _ refl)
      (same_if on_here (count == 4 && is_high n) _ _ _ _ (second_same start n h)
      (same_if on_here (count == 4 && is_low n) _ _ _ _ (same_no on_here (fault_at kinds.UnpairedLowSurrogate start))
      (same_no on_here (fault_at kinds.InvalidUnicodeEscape start))))

  escape_by_same : (start : Mark) (c count : Option ℕ) (h : Here)
      → Same on_here (escape_or_by (bare_mark keep start) c count (bare_here keep h)) (escape_or_by start c count h)
  escape_by_same start (Some c) count h = same_ok on_here (c, step h) _
      (ap (λ (g : Here). let x : ℕ × Here = (c, g) in x) (step_bare h))
  escape_by_same start None (Some count) h =
      same_then on_here on_here _ _ _ _ (same_at on_here
      (digits_or kinds.InvalidQuotedScalarHexEscape (bare_mark keep start) count 0) (step (bare_here keep h))
      (bare_here keep (step h)) (digits_or kinds.InvalidQuotedScalarHexEscape start count 0 (step h)) (step_bare h)
      (digits_same kinds.InvalidQuotedScalarHexEscape start count 0 (step h)))
      (λ x. numbered_same start count x.0 x.1)
  escape_by_same start None None h = same_no on_here (fault_at kinds.UnknownQuotedScalarEscape start)

  escape_same : (start : Mark) (h : Here) → Same on_here (escape_or (bare_mark keep start) (bare_here keep h))
      (escape_or start h)
  unfolding escape_or
  escape_same start h = escape_by_same start (letter_value (next_char h)) (digit_count (next_char h)) h

  if_quoted : (b : Bool) (g h x y : QuotedState) → g ≡ bare_quoted x → h ≡ bare_quoted y
      → (if b then g else h) ≡ bare_quoted (if b then x else y)
  if_quoted true g h x y p q = p
  if_quoted false g h x y p q = q

  over_blank_bare : (s : QuotedState) → over_blank (bare_quoted s) ≡ bare_quoted (over_blank s)
  unfolding over_blank
  over_blank_bare s = if_quoted s.on_new_line _ _ _ _ (ap (λ (g : Here). record s { here = g }) (step_bare s.here))
      (ap (λ (g : Here). record s { here = g; pending = s.pending ++ next_char s.here ∷ [] }) (step_bare s.here))

  over_break_bare : (s : QuotedState) → over_break (bare_quoted s) ≡ bare_quoted (over_break s)
  unfolding over_break
  over_break_bare s = if_quoted s.on_new_line _ _ _ _
      (ap (λ (g : Here). record s { here = g; pending = s.pending ++ 0x0A ∷ [] }) (break_bare s.here))
      (ap (λ (g : Here). record s { here = g; pending = []; on_new_line = true }) (break_bare s.here))

  piece_same : (s : QuotedState) (c : ℕ) (g h : Here) → g ≡ bare_here keep h
      → Same (on_state bare_quoted) (quoted_piece (bare_quoted s) (c, g)) (quoted_piece s (c, h))
  piece_same s c g h e = gives bare_quoted (Some (between_quoted s ++ c ∷ [])) (quoted_at false h) _
      (ap (quoted_at false) e)

  quoted_content_same : (single : Bool) (start : Mark) (s : QuotedState)
      → Same (on_state bare_quoted) (quoted_content single (bare_mark keep start) (bare_quoted s))
      (quoted_content single start s)
  unfolding quoted_content
  quoted_content_same single start s =
      let f = on_state {A = Option (List ℕ)} bare_quoted in
      let escape = same_at on_here (escape_or (bare_mark keep start)) (step (bare_here keep s.here))
      (bare_here keep (step s.here))
      (escape_or start (step s.here)) (step_bare s.here) (escape_same start (step s.here)) in
      same_if f (single && next_char s.here == 0x27) _ _ _ _ (piece_same s 0x27 _ _ (two_bare s.here))
      (same_if f (single || not (next_char s.here == 0x5C)) _ _ _ _
      (piece_same s (next_char s.here) _ _ (step_bare s.here))
      (same_if f (is_break (slice_index s.here.unread.text 1)) _ _ _ _
      (gives bare_quoted (Some (between_quoted s)) (quoted_at true (step s.here)) _
      (ap (quoted_at true) (step_bare s.here)))
      (same_then on_here f _ _ _ _ escape (λ x. piece_same s x.0 _ _ refl))))

  quoted_turn_same : (single : Bool) (at : LayoutData) (start : Mark) (s : QuotedState)
      → Same (on_state bare_quoted) (quoted_turn single at (bare_mark keep start) (bare_quoted s))
      (quoted_turn single at start s)
  unfolding quoted_turn
  quoted_turn_same single at start s =
      let f = on_state {A = Option (List ℕ)} bare_quoted in
      same_if f (is_blank (next_char s.here)) _ _ _ _
      (same_if f (s.on_new_line && (next_char s.here == 0x09 && is_tab_left at s.here.place.column)) _ _ _ _
      (same_no f (fault_at kinds.TabInIndentation (mark_of s.here)))
      (gives bare_quoted (Some []) (over_blank s) _ (over_blank_bare s)))
      (same_if f (is_break (next_char s.here)) _ _ _ _
      (gives bare_quoted (Some []) (over_break s) _ (over_break_bare s))
      (same_if f (s.on_new_line && is_strictly_left at s.escaped s.here.place.column) _ _ _ _
      (same_no f (fault_at kinds.InvalidIndentation (mark_of s.here)))
      (same_if f (s.on_new_line && is_loosely_left at s.escaped (is_closing single s.here.unread.text)
      s.here.place.column) _ _ _ _ (same_no f (fault_at kinds.InvalidQuotedScalarIndent (mark_of s.here)))
      (same_if f (s.on_new_line && (s.here.place.column == 0 && is_document_mark s.here.unread.text)) _ _ _ _
      (same_no f (fault_at kinds.DocumentIndicatorInQuotedScalar start))
      (same_if f (text_len s.here == 0) _ _ _ _ (same_no f (fault_at kinds.UnclosedQuotedScalar start))
      (same_if f (not (is_printable (next_char s.here))) _ _ _ _
      (same_no f (fault_at (kinds.UnexpectedCharacter (next_char s.here)) (mark_of s.here)))
      (same_if f (is_closing single s.here.unread.text) _ _ _ _ (gives bare_quoted None s _ refl)
      (quoted_content_same single start s))))))))

  behind_quoted_same : (single : Bool) (at : LayoutData) (start : Mark) (value : Written) (end : Mark) (h : Here)
      → Same on_quoted (behind_quoted single at (bare_mark keep start) (bare_text keep value) (bare_mark keep end)
      (bare_here keep h))
      (behind_quoted single at start value end h)
  unfolding behind_quoted
  behind_quoted_same single at start value end h =
      let read = same_ok on_quoted (quoted_read single start value end None, h)
      (quoted_read single (bare_mark keep start) (bare_text keep value) (bare_mark keep end) None, bare_here keep h)
      refl in
      same_if on_quoted (text_len h == 0) _ _ _ _ read
      (same_if on_quoted (not (is_printable (next_char h))) _ _ _ _
      (same_no on_quoted (fault_at (kinds.UnexpectedCharacter (next_char h)) (mark_of h)))
      (same_if on_quoted (may_trail at (h.place.line == start.place.line) (next_char h)) _ _ _ _ read
      (same_no on_quoted (fault_at (trailing_kind single) (mark_of h)))))

  asked_bare : (at : LayoutData) (c : CommentRead)
      → asked_comment at (bare_comment keep c) ≡ bare_tail keep (asked_comment at c)
  asked_bare at c = on at.comments
    where
      on : (b : Bool) → (if b then Some (bare_comment keep c) else None) ≡ bare_tail keep (if b then Some c else None)
      on true = refl
      on false = refl

  quoted_tail_same : (single : Bool) (at : LayoutData) (start : Mark) (value : Written) (h : Here)
      → Same on_quoted (quoted_tail single at (bare_mark keep start) (bare_text keep value) (bare_here keep h))
      (quoted_tail single at start value h)
  unfolding quoted_tail
  quoted_tail_same single at start value h =
      same_if on_quoted (next_char h == 0x23) _ _ _ _
      (same_no on_quoted (fault_at kinds.CommentNotSeparated (mark_of h)))
      (same_at on_quoted (λ (g : Here). if next_char g == 0x23 then
      (comment g >>= λ x. Ok (
        quoted_read single (bare_mark keep start) (bare_text keep value) (bare_mark keep (mark_of h))
            (asked_comment at x.0),
        x.1,
      )) else behind_quoted single at (bare_mark keep start) (bare_text keep value) (bare_mark keep (mark_of h)) g)
      (past is_blank (bare_here keep h)) (bare_here keep (past is_blank h)) _ (past_bare is_blank h)
      (same_if on_quoted (next_char (past is_blank h) == 0x23) _ _ _ _
      (same_then on_comment on_quoted _ _ _ _ (comment_same (past is_blank h))
      (λ x. same_ok on_quoted (quoted_read single start value (mark_of h) (asked_comment at x.0), x.1) _
      (ap (λ (c : Option CommentRead). let r : QuotedRead
      × Here = (
        quoted_read single (bare_mark keep start) (bare_text keep value) (bare_mark keep (mark_of h)) c,
        bare_here keep x.1,
      ) in r)
      (asked_bare at x.0))))
      (behind_quoted_same single at start value (mark_of h) (past is_blank h))))

  quoted_text_bare : (single : Bool) (h : Here) (value : List ℕ)
      → quoted_text single (bare_here keep h) value ≡ bare_text keep (quoted_text single h value)
  quoted_text_bare single h value = ap (λ (lent : Bool). let t : Written =
      record { characters = value; is_borrowed = lent } in t)
      (lent_bare (is_verbatim single h.unread.text) h.unread.lends)

  pub quoted_same : (single : Bool) (at : LayoutData) (h : Here)
      → Same on_quoted (quoted_scalar single at (bare_here keep h)) (quoted_scalar single at h)
  unfolding quoted_scalar
  quoted_same single at h =
      let m = mark_of h in
      same_then (on_state bare_quoted) on_quoted
      (quoted_rest single at (bare_mark keep m) (quoted_at false (step (bare_here keep h))))
      (quoted_rest single at m (quoted_at false (step h))) _ _
      (same_at (on_state bare_quoted) (λ (g : Here). quoted_rest single at (bare_mark keep m) (quoted_at false g))
      (step (bare_here keep h)) (bare_here keep (step h)) _ (step_bare h)
      (pieces_same quoted_len bare_quoted (quoted_turn single at (bare_mark keep m)) (quoted_turn single at m)
      (λ s. refl)
      (quoted_turn_same single at m) (quoted_at false (step h))))
      (λ x. let value = x.0 ++ between_quoted x.1 in let text = quoted_text single (step h) value in
      same_at on_quoted (λ (t : Written). quoted_tail single at (bare_mark keep m) t (step (bare_here keep x.1.here)))
      (quoted_text single (step (bare_here keep h)) value) (bare_text keep text) _
      (ap (λ (g : Here). quoted_text single g value) (step_bare h) ∙ quoted_text_bare single (step h) value)
      (same_at on_quoted (quoted_tail single at (bare_mark keep m) (bare_text keep text))
      (step (bare_here keep x.1.here)) (bare_here keep (step x.1.here)) _ (step_bare x.1.here)
      (quoted_tail_same single at m text (step x.1.here))))

  -- ---- block scalars

  abbrev bare_block : BlockState → BlockState
  bare_block s = record s { here = bare_here keep s.here }

  abbrev pub on_block : BlockRead × Here → BlockRead × Here
  on_block x = (
    record { text = bare_text keep x.0.text; shown = bare_mark keep x.0.shown; indent = x.0.indent },
    bare_here keep x.1,
  )

  abbrev pub on_given : BlockGiven × Here → BlockGiven × Here
  on_given x = (
    record {
      read = record {
        text = bare_text keep x.0.read.text;
        shown = bare_mark keep x.0.read.shown;
        indent =
            x.0.read.indent;
      };
      noted = bare_tail keep x.0.noted;
    },
    bare_here keep x.1,
  )

  spaces_bare : (n : ℕ) (h : Here) → over_spaces n (bare_here keep h) ≡ bare_here keep (over_spaces n h)
  unfolding over_spaces
  spaces_bare zero h = refl
  spaces_bare (suc n) h = if_here (next_char h == 0x20) _ _ _ _
      (ap (over_spaces n) (step_bare h) ∙ spaces_bare n (step h)) refl

  indented_bare : (column : ℕ) (h : Here) → indented column (bare_here keep h) ≡ bare_here keep (indented column h)
  indented_bare column h = spaces_bare (column - h.place.column) h

  empty_turn_same : (column : ℕ) (h : Here) → Same (on_state (bare_here keep)) (empty_turn column (bare_here keep h))
      (empty_turn column h)
  unfolding empty_turn
  empty_turn_same column h =
      same_at (on_state (bare_here keep)) (λ (g : Here). if is_break (next_char g) then Ok
      (Some (0x0A ∷ []), past_break g) else
      Ok (None, g)) (indented column (bare_here keep h)) (bare_here keep (indented column h)) _ (indented_bare column h)
      (same_if (on_state (bare_here keep)) (is_break (next_char (indented column h))) _ _ _ _
      (gives (bare_here keep) (Some (0x0A ∷ [])) (past_break (indented column h)) _ (break_bare (indented column h)))
      (gives (bare_here keep) None (indented column h) _ refl))

  empty_same : (column : ℕ) (h : Here) → Same on_here (empty_lines column (bare_here keep h)) (empty_lines column h)
  empty_same column h = pieces_same text_len (bare_here keep) (empty_turn column) (empty_turn column) (λ h. refl)
      (empty_turn_same column) h

  refuse_same : {A B : Type 0} (f : A → B) (h : Here) (r : Result B Fault) (s : Result A Fault) → Same f r s
      → Same f (refuse_unprintable (bare_here keep h) r) (refuse_unprintable h s)
  refuse_same f h r s p = same_if f (text_len h == 0 || is_printable (next_char h)) _ _ _ _ p
      (same_no f (fault_at (kinds.UnexpectedCharacter (next_char h)) (mark_of h)))

  line_same : (literal : Bool) (column : ℕ) (s : BlockState) (after : Here)
      → Same (on_state bare_block) (line_up_to literal column (bare_block s) (bare_here keep after))
      (line_up_to literal column s after)
  unfolding line_up_to
  line_same literal column s after =
      let f = on_state {A = Option (List ℕ)} bare_block in
      let piece = between_lines literal s.before (is_blank (next_char s.here)) s.empty ++ text_up_to s.here after in
      same_if f (text_len after == 0) _ _ _ _ (gives bare_block (Some piece)
      (record { here = after; empty = []; before = Some (is_blank (next_char s.here)); broken = false }) _ refl)
      (refuse_same f after _ _ (same_then on_here f _ _ _ _
      (same_at on_here (empty_lines column) (past_break (bare_here keep after)) (bare_here keep (past_break after))
      (empty_lines column (past_break after)) (break_bare after) (empty_same column (past_break after)))
      (λ x. gives bare_block (Some piece) (record {
        here = x.1;
        empty = x.0;
        before = Some (is_blank (next_char s.here));
        broken = true;
      }) _ refl)))

  block_turn_same : (literal : Bool) (column : ℕ) (s : BlockState)
      → Same (on_state bare_block) (block_turn literal column (bare_block s)) (block_turn literal column s)
  unfolding block_turn
  block_turn_same literal column s =
      let f = on_state {A = Option (List ℕ)} bare_block in
      same_if f (text_len s.here == 0 || not (s.here.place.column == column)) _ _ _ _ (gives bare_block None s _ refl)
      (refuse_same f s.here _ _ (same_if f (column == 0 && is_document_mark s.here.unread.text) _ _ _ _
      (gives bare_block None s _ refl)
      (same_at f (λ (g : Here). line_up_to literal column (bare_block s) (mid_line g))
      (past is_non_breakz (bare_here keep s.here)) (bare_here keep (past is_non_breakz s.here)) _
      (past_bare is_non_breakz s.here) (line_same literal column s (mid_line (past is_non_breakz s.here))))))

  behind_block_same : (chomping : Chomping) (column : ℕ) (shown : Mark) (text : List ℕ) (s : BlockState)
      → Same on_block (behind_block chomping column (bare_mark keep shown) text (bare_block s))
      (behind_block chomping column shown text s)
  unfolding behind_block
  behind_block_same chomping column shown text s =
      let whole = (text ++ last_break chomping s) ++ kept chomping s.empty in
      refuse_same on_block s.here _ _ (only_same on_block (unprintable whole) shown _ _
      (same_ok on_block (block_read column shown whole, s.here) _ refl))

  content_lines_same : (literal : Bool) (chomping : Chomping) (broken : Bool) (block : Option ℕ) (column : ℕ)
      (start : Mark) (empty : List ℕ) (h : Here)
      → Same on_block (content_lines literal chomping broken block column (bare_mark keep start) empty
      (bare_here keep h))
      (content_lines literal chomping broken block column start empty h)
  unfolding content_lines
  content_lines_same literal chomping broken block column start empty h =
      refuse_same on_block h _ _ (same_if on_block (text_len h == 0) _ _ _ _
      (same_ok on_block (
        record {
          text = Rattle.granit_lexemes.specs.Basics.owned
              (no_content chomping broken empty h);
          shown = start;
          indent = None;
        },
        h,
      ) _ refl)
      (same_if on_block (is_between block column h) _ _ _ _
      (same_no on_block (fault_at kinds.InvalidBlockScalarIndent (mark_of h)))
      (same_then (on_state bare_block) on_block _ _ _ _
      (pieces_same block_len bare_block (block_turn literal column) (block_turn literal column) (λ s. refl)
      (block_turn_same literal column) (record { here = h; empty = empty; before = None; broken = false }))
      (λ x. behind_block_same chomping column (mark_of h) x.0 x.1))))

  leading_same : (h : Here) → Same (on_state (bare_here keep)) (leading_turn (bare_here keep h)) (leading_turn h)
  unfolding leading_turn
  leading_same h =
      same_at (on_state (bare_here keep)) (λ (g : Here). if is_break (next_char g) then Ok
      (Some (g.place.column ∷ []), past_break g) else Ok (None, g)) (past is_space (bare_here keep h))
      (bare_here keep (past is_space h)) _ (past_bare is_space h)
      (same_if (on_state (bare_here keep)) (is_break (next_char (past is_space h))) _ _ _ _
      (gives (bare_here keep) (Some ((past is_space h).place.column ∷ [])) (past_break (past is_space h)) _
      (break_bare (past is_space h))) (gives (bare_here keep) None (past is_space h) _ refl))

  abbrev pub itself : {A : Type 0} → A → A
  itself x = x

  column_same : (block digit : Option ℕ) (h : Here)
      → Same itself (content_column block digit (bare_here keep h)) (content_column block digit h)
  unfolding content_column
  column_same block (Some d) h = same_ok itself _ _ refl
  column_same block None h = same_then on_here itself _ _ _ _
      (pieces_same text_len (bare_here keep) leading_turn leading_turn (λ h. refl) leading_same h)
      (λ x. same_ok itself _ _ refl)

  block_lines_same : (literal : Bool) (header : BlockHeader) (broken : Bool) (block : Option ℕ) (start : Mark)
      (h : Here)
      → Same on_block (block_lines literal header broken block (bare_mark keep start) (bare_here keep h))
      (block_lines literal header broken block start h)
  unfolding block_lines
  block_lines_same literal header broken block start h =
      refuse_same on_block h _ _ (same_if on_block (next_char h == 0x09) _ _ _ _
      (same_no on_block (fault_at kinds.TabAtBlockScalarStart start))
      (same_then itself on_block _ _ _ _ (column_same block header.digit h)
      (λ column. same_then on_here on_block _ _ _ _ (empty_same column h)
      (λ x. content_lines_same literal (chomping_of header.chomping) broken block column start x.0 x.1))))

  block_body_same : (literal : Bool) (header : BlockHeader) (block : Option ℕ) (start : Mark) (h : Here)
      → Same on_block (block_body literal header block (bare_mark keep start) (bare_here keep h))
      (block_body literal header block start h)
  unfolding block_body
  block_body_same literal header block start h =
      refuse_same on_block h _ _ (same_if on_block (is_break (next_char h)) _ _ _ _
      (same_at on_block (block_lines literal header true block (bare_mark keep start)) (past_break (bare_here keep h))
      (bare_here keep (past_break h)) (block_lines literal header true block start (past_break h)) (break_bare h)
      (block_lines_same literal header true block start (past_break h)))
      (same_if on_block (text_len h == 0) _ _ _ _ (block_lines_same literal header false block start h)
      (same_no on_block (fault_at kinds.InvalidBlockScalarHeader start))))

  header_sign_same : (start : Mark) (b : BlockHeader) (h : Here)
      → Same on_here (header_sign (bare_mark keep start) b (bare_here keep h)) (header_sign start b h)
  unfolding header_sign
  header_sign_same start b h =
      let on = λ (c : BlockHeader). same_ok on_here (c, step h) (c, step (bare_here keep h))
      (ap (λ (g : Here). let x : BlockHeader × Here = (c, g) in x) (step_bare h)) in
      same_if on_here (next_char h == 0x2B && is_none b.chomping) _ _ _ _
      (on (record b { chomping = Some Rattle.granit_lexemes.specs.BlockHeader.Keep }))
      (same_if on_here (next_char h == 0x2D && is_none b.chomping) _ _ _ _
      (on (record b { chomping = Some Rattle.granit_lexemes.specs.BlockHeader.Strip }))
      (same_if on_here (is_digit (next_char h) && is_none b.digit) _ _ _ _
      (same_if on_here (next_char h == 0x30) _ _ _ _ (same_no on_here (fault_at kinds.ZeroBlockScalarIndent start))
      (on (record b { digit = Some (next_char h - 0x30) }))) (same_ok on_here (b, h) _ refl)))

  header_same : (h : Here) → Same on_here (block_header (bare_here keep h)) (block_header h)
  unfolding block_header
  header_same h =
      let none : BlockHeader = record { chomping = None; digit = None } in
      same_then on_here on_here _ _ _ _ (same_at on_here (header_sign (bare_mark keep (mark_of h)) none)
      (step (bare_here keep h))
      (bare_here keep (step h)) (header_sign (mark_of h) none (step h)) (step_bare h)
      (header_sign_same (mark_of h) none (step h))) (λ x. header_sign_same (mark_of h) x.0 x.1)

  pub block_same : (literal : Bool) (block : Option ℕ) (h : Here)
      → Same on_given (block_scalar literal block (bare_here keep h)) (block_scalar literal block h)
  unfolding block_scalar
  block_same literal block h =
      same_then on_here on_given _ _ _ _ (header_same h)
      (λ x. same_then on_tail on_given _ _ _ _ (tail_same x.1)
      (λ y. same_then on_block on_given _ _ _ _ (block_body_same literal x.0 block (mark_of h) y.1)
      (λ z. same_ok on_given (record { read = z.0; noted = y.0 }, z.1) _ refl)))
