-- Each lexeme is read alike wherever a text stands.
use Rattle.std.proofs.Common.{◌≡◌, ℕ, zero, suc, ◌+◌, ◌*◌, ◌==◌, ◌&&◌, ◌||◌, not, Bool, true, false, List, [], ◌∷◌}
use Rattle.std.proofs.Common.{◌++◌, drop, Option, Some, None, Result, Ok, Err, refl, sym, ap, ap₂, ◌∙◌, subst}
use lib.Utf8.{scalar}
use Rattle.std.specs.Option.{option_map}
use Rattle.std.specs.Char.{encode_utf8}
use Rattle.std.specs.Prelude.{length, slice_index, if◌then◌else◌}
use Rattle.granit_base.specs.Classes.{is_z, is_printable, is_blank, is_break, is_hex, hex_value}
use Rattle.granit_base.specs.Place.{Place, Mark, first, past_first, place_after, ends_line}
use Rattle.granit_base.specs.Written.{Written}
use Rattle.granit_error.specs.FaultKind.{FaultKind}
use Rattle.granit_error.specs.FaultKind as kinds
use Rattle.granit_lexemes.specs.Basics.{fails_at, is_document_mark, past_break, only_printable, unprintable}
use Rattle.granit_lexemes.specs.Comment.{CommentRead, is_line_char, past_comment, behind_comment, skipped_comment}
use Rattle.granit_lexemes.specs.Comment.{comment_read, comment}
use Rattle.granit_lexemes.specs.Decoding.{letter_value, digit_count, is_high, is_low, joined}
use Rattle.granit_lexemes.specs.Here.{Here, text_len, next_char, mark_of, first_tab, begins_behind, tab_behind, step}
use Rattle.granit_lexemes.specs.Here.{mid_line, chosen, skip, past, chunk_len, is_quiet}
use Rattle.granit_lexemes.specs.LayoutData.{LayoutData, is_left}
use Rattle.granit_lexemes.specs.Moves.{steps}
use Rattle.granit_lexemes.specs.Outcome.{Fault, fault_at, ◌>>=◌}
use Rattle.granit_base.specs.PlainContent.{is_content}
use Rattle.granit_lexemes.specs.Pieces.{with_front, then_more, turns, pieces}
use Rattle.granit_lexemes.specs.PlainScalar.{PlainState, PlainRead, between, ends_before_line, on_content, on_blank}
use Rattle.granit_lexemes.specs.PlainScalar.{on_break, plain_turn, plain_len, plain_start, meets_comment, plain_read}
use Rattle.granit_lexemes.specs.PlainScalar.{behind_plain, plain_scalar, is_one_line}
use Rattle.granit_lexemes.specs.QuotedScalar.{is_tab_left, is_strictly_left, is_loosely_left, may_trail, trailing_kind}
use Rattle.granit_lexemes.specs.QuotedScalar.{QuotedState, QuotedRead, is_closing, digits_or, joined_or, second_half_or}
use Rattle.granit_lexemes.specs.QuotedScalar.{numbered_or, escape_or_by, escape_or, over_blank, over_break}
use Rattle.granit_lexemes.specs.QuotedScalar.{between_quoted, quoted_at, quoted_piece, quoted_content, quoted_turn}
use Rattle.granit_lexemes.specs.QuotedScalar.{quoted_len, quoted_read, asked_comment, behind_quoted, quoted_tail}
use Rattle.granit_lexemes.specs.QuotedScalar.{quoted_rest, quoted_text, quoted_scalar, is_verbatim}
use Rattle.granit_lexemes.specs.Tail.{tail_behind, tail_at}
use Rattle.granit_shifted.specs.Shift.{moved_offset, moved_text, moved_mark, moved_mark_of, moved_source, moved_here}
use Rattle.granit_shifted.specs.Shift.{moved_fault, moved_comment, moved_tail, Shift, moved_line, moved_place}
use Rattle.granit_shifted.proofs.Sums.{sum_more, sum_eq}

module _ (shift : Shift) where
  -- ---- results

  abbrev pub mapped : {A B : Type 0} → (A → B) → Result A Fault → Result B Fault
  mapped f (Ok x) = Ok (f x)
  mapped f (Err e) = Err (moved_fault shift e)

  -- a result is another one with its places bare
  pub record Same {A B : Type 0} (f : A → B) (r : Result B Fault) (s : Result A Fault) : Type 0 where
    pub is : r ≡ mapped f s

  pub same_ok : {A B : Type 0} (f : A → B) (x : A) (y : B) → y ≡ f x → Same f (Ok y) (Ok x)
  same_ok {A} {B} f x y e = record { is = ap (λ (y : B). let r : Result B Fault = Ok y in r) e }

  pub same_no : {A B : Type 0} (f : A → B) (e : Fault) → Same f (Err (moved_fault shift e)) (Err e)
  same_no f e = record { is = refl }

  pub same_if : {A B : Type 0} (f : A → B) (b : Bool) (x y : Result B Fault) (v w : Result A Fault) → Same f x v
      → Same f y w → Same f (if b then x else y) (if b then v else w)
  same_if f true x y v w p q = p
  same_if f false x y v w p q = q

  pub same_then : {A B C D : Type 0} (f : A → B) (g : C → D) (r : Result B Fault) (s : Result A Fault)
      (k : B → Result D Fault) (l : A → Result C Fault) → Same f r s → ((x : A) → Same g (k (f x)) (l x))
      → Same g (r >>= k) (s >>= l)
  same_then {D = D} f g r (Ok x) k l e h = subst (λ (r : Result _ Fault). Same g (r >>= k) (l x)) (sym e.is) (h x)
  same_then f g r (Err e) k l p h = record { is = ap (λ r. r >>= k) p.is }

  -- with what is known of the first result
  pub same_then_from : {A B C D : Type 0} (f : A → B) (g : C → D) (r : Result B Fault) (s : Result A Fault)
      (k : B → Result D Fault) (l : A → Result C Fault) → Same f r s
      → ((x : A) → s ≡ Ok x → Same g (k (f x)) (l x)) → Same g (r >>= k) (s >>= l)
  same_then_from {D = D} f g r (Ok x) k l e h = subst (λ (r : Result _ Fault). Same g (r >>= k) (l x)) (sym e.is)
      (h x refl)
  same_then_from f g r (Err e) k l p h = record { is = ap (λ r. r >>= k) p.is }

  -- where a place is the bare one
  pub same_at : {A B : Type 0} {S : Type 0} (f : A → B) (F : S → Result B Fault) (g h : S) (r : Result A Fault) → g ≡ h
      → Same f (F h) r → Same f (F g) r
  same_at f F g h r e p = subst (λ g. Same f (F g) r) (sym e) p

  -- ---- loops

  abbrev pub on_state : {A S : Type 0} → (S → S) → A × S → A × S
  on_state b x = (x.0, b x.1)

  front_same : {A S : Type 0} (b : S → S) (xs : List A) (r s : Result (List A × S) Fault) → Same (on_state b) r s
      → Same (on_state b) (with_front xs r) (with_front xs s)
  front_same b xs r (Ok x) p = record { is = ap (with_front xs) p.is }
  front_same b xs r (Err e) p = record { is = ap (with_front xs) p.is }

  more_same : {A S : Type 0} (b : S → S) (k l : S → Result (List A × S) Fault)
      → ((s : S) → Same (on_state b) (k (b s)) (l s)) → (o : Option (List A)) (s : S)
      → Same (on_state b) (then_more k o (b s)) (then_more l o s)
  more_same b k l h None s = record { is = refl }
  more_same b k l h (Some xs) s = front_same b xs (k (b s)) (l s) (h s)

  turns_same : {A S : Type 0} (b : S → S) (k l : S → Result (Option (List A) × S) Fault)
      → ((s : S) → Same (on_state b) (k (b s)) (l s)) → (n : ℕ) (s : S)
      → Same (on_state b) (turns k n (b s)) (turns l n s)
  unfolding turns
  turns_same b k l h zero s = record { is = refl }
  turns_same b k l h (suc n) s = same_then (on_state b) (on_state b) (k (b s)) (l s) _ _ (h s)
      (λ x. more_same b (turns k n) (turns l n) (turns_same b k l h n) x.0 x.1)

  pub pieces_same : {A S : Type 0} (size : S → ℕ) (b : S → S) (k l : S → Result (Option (List A) × S) Fault)
      → ((s : S) → size (b s) ≡ size s) → ((s : S) → Same (on_state b) (k (b s)) (l s)) → (s : S)
      → Same (on_state b) (pieces size k (b s)) (pieces size l s)
  unfolding pieces
  pieces_same size b k l e h s = same_at (on_state b) (λ n. turns k (suc n) (b s)) (size (b s)) (size s) _ (e s)
      (turns_same b k l h (suc (size s)) s)

  -- ---- moves

  step_by : (b : Bool) (h g : Here) → (if b then moved_here shift h else moved_here shift g)
      ≡ moved_here shift (if b then h else g)
  step_by true h g = refl
  step_by false h g = refl

  first_moved : (t : Option Mark) (m : Mark) → first_tab (moved_mark_of shift t) (moved_mark shift m)
      ≡ moved_mark_of shift (first_tab t m)
  first_moved None m = refl
  first_moved (Some t) m = refl

  tab_by : (a b : Bool) (t : Option Mark) (m : Mark)
      → (if a then None else if b then first_tab (moved_mark_of shift t) (moved_mark shift m) else moved_mark_of shift
      t)
      ≡ moved_mark_of shift (if a then None else if b then first_tab t m else t)
  tab_by true b t m = refl
  tab_by false true t m = first_moved t m
  tab_by false false t m = refl

  tab_moved : (h : Here) → tab_behind (moved_here shift h) ≡ moved_mark_of shift (tab_behind h)
  unfolding tab_behind
  tab_moved h = tab_by (ends_line h.unread.text || not (is_quiet (next_char h))) (next_char h == 0x09) h.tab (mark_of h)

  begins_moved : (h : Here) → begins_behind (moved_here shift h) ≡ begins_behind h
  unfolding begins_behind
  begins_moved h = refl

  pub offset_moved : (k : ℕ) (n : Option ℕ)
      → option_map (λ n. n + k) (moved_offset shift n) ≡ moved_offset shift (option_map (λ n. n + k) n)
  offset_moved k n = on shift.offsets n
    where
      on : (b : Bool) (n : Option ℕ)
          → option_map (λ n. n + k) (if b then option_map (λ m. shift.bytes + m) n else None)
          ≡ (if b then option_map (λ m. shift.bytes + m) (option_map (λ n. n + k) n) else None)
      on true None = refl
      on true (Some m) = ap (λ (m : ℕ). let x : Option ℕ = Some m in x) (sum_more shift.bytes m k)
      on false n = refl

  place_moved : (text : List ℕ) (p : Place)
      → place_after text (moved_place shift p) ≡ moved_place shift (place_after text p)
  place_moved text p = on (ends_line text)
    where
      on : (b : Bool) → (if b then record {
        index = (shift.index + p.index) + 1;
        line = (shift.line + p.line) + 1;
        column = 0;
      }
          else record { index = (shift.index + p.index) + 1; line = shift.line + p.line; column = p.column + 1 })
          ≡ moved_place shift (if b then record { index = p.index + 1; line = p.line + 1; column = 0 }
          else record { index = p.index + 1; line = p.line; column = p.column + 1 })
      on true = ap₂ (λ (i n : ℕ). let q : Place = record { index = i; line = n; column = 0 } in q)
          (sum_more shift.index p.index 1) (sum_more shift.line p.line 1)
      on false = ap (λ (i : ℕ). let q : Place =
          record { index = i; line = shift.line + p.line; column = p.column + 1 } in q)
          (sum_more shift.index p.index 1)

  pub step_moved : (h : Here) → step (moved_here shift h) ≡ moved_here shift (step h)
  unfolding step
  step_moved h =
      let more = λ (n : ℕ). n + length (encode_utf8 (first h.unread.text)) in
      let made = λ (b : Bool) (t : Option Mark) (n : Option ℕ) (p : Place). if◌then◌else◌ {A = Here} (text_len h == 0)
      (moved_here shift h) (record {
        unread = record { text = drop 1 h.unread.text; offset = n; lends = h.unread.lends && shift.lending };
        place = p;
        begins_line = b;
        tab = t;
      }) in
      ap₂ (λ (b : Bool) (t : Option Mark). made b t (option_map more (moved_offset shift h.unread.offset))
      (place_after h.unread.text (moved_place shift h.place))) (begins_moved h) (tab_moved h)
      ∙ ap₂ (made (begins_behind h) (moved_mark_of shift (tab_behind h)))
      (offset_moved (length (encode_utf8 (first h.unread.text))) h.unread.offset)
      (place_moved h.unread.text h.place)
      ∙ step_by (text_len h == 0) h (record {
        unread = past_first h.unread;
        place = place_after h.unread.text h.place;
        begins_line = begins_behind h;
        tab = tab_behind h;
      })

  pub steps_moved : (n : ℕ) (h : Here) → steps n (moved_here shift h) ≡ moved_here shift (steps n h)
  unfolding steps
  steps_moved zero h = refl
  steps_moved (suc n) h = ap (steps n) (step_moved h) ∙ steps_moved n (step h)

  chosen_moved : (b : Bool) (g h : Here) → chosen b (moved_here shift g) (moved_here shift h)
      ≡ moved_here shift (chosen b g h)
  chosen_moved true g h = refl
  chosen_moved false g h = refl

  skip_moved : (test : ℕ → Bool) (cs : List ℕ) (h : Here)
      → skip test cs (moved_here shift h) ≡ moved_here shift (skip test cs h)
  skip_moved test [] h = refl
  skip_moved test (c ∷ cs) h = ap (λ (g : Here). chosen (test (next_char h)) g (moved_here shift h))
      (ap (skip test cs) (step_moved h) ∙ skip_moved test cs (step h))
      ∙ chosen_moved (test (next_char h)) (skip test cs (step h)) h

  pub past_moved : (test : ℕ → Bool) (h : Here) → past test (moved_here shift h) ≡ moved_here shift (past test h)
  unfolding past
  past_moved test h = skip_moved test h.unread.text h

  two_moved : (h : Here) → step (step (moved_here shift h)) ≡ moved_here shift (step (step h))
  two_moved h = ap step (step_moved h) ∙ step_moved (step h)

  pub if_here : (b : Bool) (g h x y : Here) → g ≡ moved_here shift x → h ≡ moved_here shift y
      → (if b then g else h) ≡ moved_here shift (if b then x else y)
  if_here true g h x y p q = p
  if_here false g h x y p q = q

  pub break_moved : (h : Here) → past_break (moved_here shift h) ≡ moved_here shift (past_break h)
  unfolding past_break
  break_moved h = if_here (next_char h == 0x0D && slice_index h.unread.text 1 == 0x0A) _ _ _ _ (two_moved h)
      (step_moved h)

  -- ---- comments and tails

  abbrev pub on_here : {A : Type 0} → A × Here → A × Here
  on_here x = (x.0, moved_here shift x.1)

  abbrev pub on_comment : CommentRead × Here → CommentRead × Here
  on_comment x = (moved_comment shift x.0, moved_here shift x.1)

  abbrev pub on_tail : Option CommentRead × Here → Option CommentRead × Here
  on_tail x = (moved_tail shift x.0, moved_here shift x.1)

  past_comment_moved : (h : Here) → past_comment (moved_here shift h) ≡ moved_here shift (past_comment h)
  past_comment_moved h = ap (λ (g : Here). mid_line (steps (chunk_len is_line_char g) g)) (step_moved h)
      ∙ ap mid_line (steps_moved (chunk_len is_line_char (step h)) (step h))

  behind_comment_same : (h : Here) → Same on_here (behind_comment (moved_here shift h)) (behind_comment h)
  unfolding behind_comment
  behind_comment_same h = same_if on_here _ _ _ _ _ (same_ok on_here (tt, h) _ refl) (same_no on_here _)

  skipped_same : (h : Here) → Same on_here (skipped_comment (moved_here shift h)) (skipped_comment h)
  unfolding skipped_comment
  skipped_same h = same_at on_here behind_comment (past_comment (moved_here shift h))
      (moved_here shift (past_comment h)) _
      (past_comment_moved h) (behind_comment_same (past_comment h))

  comment_read_moved : (h after : Here) → comment_read (moved_here shift h) (moved_here shift after)
      ≡ moved_comment shift (comment_read h after)
  comment_read_moved h after = ap (λ (g : Here). record (comment_read (moved_here shift h) (moved_here shift after)) {
    text =
        Rattle.granit_lexemes.specs.Basics.as_spelled (moved_here shift h)
        (Rattle.granit_lexemes.specs.Here.chunk is_line_char g);
  }) (step_moved h)

  pub comment_same : (h : Here) → Same on_comment (comment (moved_here shift h)) (comment h)
  unfolding comment
  comment_same h =
      same_then on_here on_comment (skipped_comment (moved_here shift h)) (skipped_comment h) _ _ (skipped_same h)
      (λ x. same_ok on_comment (comment_read h x.1, x.1) _
      (ap (λ (c : CommentRead). let p : CommentRead × Here = (c, moved_here shift x.1) in p)
      (comment_read_moved h x.1)))

  pub some_comment : (h : Here) → Same on_tail (comment (moved_here shift h) >>= λ x. Ok (Some x.0, x.1))
      (comment h >>= λ x. Ok (Some x.0, x.1))
  some_comment h = same_then on_comment on_tail (comment (moved_here shift h)) (comment h) _ _ (comment_same h)
      (λ x. same_ok on_tail (Some x.0, x.1) _ refl)

  tail_behind_same : (end h : Here) → Same on_tail (tail_behind (moved_here shift end) (moved_here shift h))
      (tail_behind end h)
  unfolding tail_behind
  tail_behind_same end h = same_if on_tail _ _ _ _ _ (same_ok on_tail (None, h) _ refl)
      (same_if on_tail _ _ _ _ _ (same_no on_tail _) (some_comment h))

  pub tail_same : (end : Here) → Same on_tail (tail_at (moved_here shift end)) (tail_at end)
  tail_same end = same_at on_tail (tail_behind (moved_here shift end)) (past is_blank (moved_here shift end))
      (moved_here shift (past is_blank end)) _ (past_moved is_blank end) (tail_behind_same end (past is_blank end))

  -- ---- plain scalars

  abbrev moved_plain : PlainState → PlainState
  moved_plain s = record s { here = moved_here shift s.here; end = moved_mark shift s.end }

  abbrev pub on_plain : PlainRead × Here → PlainRead × Here
  on_plain x = (
    record {
      text = moved_text shift x.0.text;
      source = moved_source shift x.0.source;
      cut_by_comment = moved_mark_of shift
          x.0.cut_by_comment;
      on_new_line = x.0.on_new_line;
    },
    moved_here shift x.1,
  )

  content_moved : (s : PlainState) → on_content (moved_plain s) ≡ moved_plain (on_content s)
  unfolding on_content
  content_moved s = ap (λ (g : Here). let r : PlainState =
      record { here = g; end = mark_of g; pending = []; on_new_line = false; left_tab = false } in r)
      (step_moved s.here)

  if_plain : (b : Bool) (g h x y : PlainState) → g ≡ moved_plain x → h ≡ moved_plain y
      → (if b then g else h) ≡ moved_plain (if b then x else y)
  if_plain true g h x y p q = p
  if_plain false g h x y p q = q

  blank_moved : (at : LayoutData) (s : PlainState) → on_blank at (moved_plain s) ≡ moved_plain (on_blank at s)
  unfolding on_blank
  blank_moved at s = if_plain s.on_new_line _ _ _ _
      (ap (λ (g : Here). record (moved_plain s) {
        here = g;
        left_tab = s.left_tab
            || (next_char s.here == 0x09 && is_left at.block_column s.here.place.column);
      }) (step_moved s.here))
      (ap (λ (g : Here). record (moved_plain s) { here = g; pending = s.pending ++ next_char s.here ∷ [] })
      (step_moved s.here))

  line_moved : (s : PlainState) → on_break (moved_plain s) ≡ moved_plain (on_break s)
  unfolding on_break
  line_moved s = if_plain s.on_new_line _ _ _ _ (ap
      (λ (g : Here). record (moved_plain s) { here = g; pending = s.pending ++ 0x0A ∷ []; left_tab = false })
      (break_moved s.here)) (ap (λ (g : Here). record (moved_plain s) { here = g; pending = []; on_new_line = true })
      (break_moved s.here))

  -- a turn that gives something and a state
  pub gives : {S : Type 0} (b : S → S) (xs : Option (List ℕ)) (s t : S) → t ≡ b s
      → Same (on_state b) (Ok (xs, t)) (Ok (xs, s))
  gives {S} b xs s t e = same_ok (on_state b) (xs, s) (xs, t)
      (ap (λ (t : S). let p : Option (List ℕ) × S = (xs, t) in p) e)

  plain_turn_same : (at : LayoutData) (start : Mark) (s : PlainState)
      → Same (on_state moved_plain) (plain_turn at (moved_mark shift start) (moved_plain s)) (plain_turn at start s)
  unfolding plain_turn
  plain_turn_same at start s =
      let f = on_state {A = Option (List ℕ)} moved_plain in
      same_if f (is_blank (next_char s.here)) _ _ _ _ (gives moved_plain (Some []) (on_blank at s) _ (blank_moved at s))
      (same_if f (is_break (next_char s.here)) _ _ _ _ (gives moved_plain (Some []) (on_break s) _ (line_moved s))
      (same_if f (meets_comment s) _ _ _ _ (gives moved_plain None s _ refl)
      (same_if f (s.left_tab && not (is_z (next_char s.here))) _ _ _ _
      (same_no f (fault_at kinds.TabInPlainScalar start))
      (same_if f (s.on_new_line && ends_before_line at s.here) _ _ _ _ (gives moved_plain None s _ refl)
      (same_if f (is_content at.in_flow s.here.unread.text) _ _ _ _
      (gives moved_plain (Some (between s ++ next_char s.here ∷ [])) (on_content s) _ (content_moved s))
      (gives moved_plain None s _ refl))))))

  cut_moved : (b : Bool) (m : Mark) → (if b then Some (moved_mark shift m) else None)
      ≡ moved_mark_of shift (if b then Some m else None)
  cut_moved true m = refl
  cut_moved false m = refl

  -- a text is lent where nothing was decoded, the input lends and lending is kept
  lent_moved : (verbatim lends : Bool) → (verbatim && (lends && shift.lending)) ≡ ((verbatim && lends) && shift.lending)
  lent_moved true lends = refl
  lent_moved false lends = refl

  read_moved : (at : LayoutData) (start : Mark) (value : List ℕ) (s : PlainState)
      → ◌≡◌ {A = PlainRead × Here} (
        plain_read at (moved_mark shift start) value (moved_plain s),
        moved_here shift
            s.here,
      )
      (on_plain (plain_read at start value s, s.here))
  read_moved at start value s =
      ap₂ (λ (m : Option Mark) (lent : Bool). let r : PlainRead × Here = (
        record (plain_read at (moved_mark shift start) value (moved_plain s)) {
          text = record { characters = value; is_borrowed = lent };
          cut_by_comment = m;
        },
        moved_here shift s.here,
      ) in r) (cut_moved (not at.in_flow && meets_comment s) (mark_of s.here))
      (ap (λ (b : Bool). b && (s.here.unread.lends && shift.lending))
      (sum_eq shift.line start.place.line s.end.place.line)
      ∙ lent_moved (is_one_line start s.end) s.here.unread.lends)

  behind_plain_same : (at : LayoutData) (start : Mark) (value : List ℕ) (s : PlainState)
      → Same on_plain (behind_plain at (moved_mark shift start) value (moved_plain s)) (behind_plain at start value s)
  unfolding behind_plain
  behind_plain_same at start value s = same_if on_plain _ _ _ _ _ (same_no on_plain _)
      (same_ok on_plain (plain_read at start value s, s.here) _ (read_moved at start value s))

  pub only_same : {A B : Type 0} (f : A → B) (c : Option ℕ) (m : Mark) (r : Result B Fault) (s : Result A Fault)
      → Same f r s → Same f (only_printable c (moved_mark shift m) r) (only_printable c m s)
  only_same f None m r s p = p
  only_same f (Some c) m r s p = same_no f _

  pub plain_same : (at : LayoutData) (h : Here)
      → Same on_plain (plain_scalar at (moved_here shift h)) (plain_scalar at h)
  unfolding plain_scalar
  plain_same at h =
      same_if on_plain _ _ _ _ _ (same_no on_plain _)
      (same_then (on_state moved_plain) on_plain _ _ _ _
      (pieces_same plain_len moved_plain (plain_turn at (moved_mark shift (mark_of h))) (plain_turn at (mark_of h))
      (λ s. refl) (plain_turn_same at (mark_of h)) (plain_start h))
      (λ x. only_same on_plain (unprintable x.0) (mark_of h) _ _ (behind_plain_same at (mark_of h) x.0 x.1)))

  -- ---- quoted scalars

  abbrev moved_quoted : QuotedState → QuotedState
  moved_quoted s = record s { here = moved_here shift s.here }

  abbrev pub on_quoted : QuotedRead × Here → QuotedRead × Here
  on_quoted x = (
    record {
      text = moved_text shift x.0.text;
      source = moved_source shift x.0.source;
      comment = moved_tail shift x.0.comment;
      on_new_line =
          x.0.on_new_line;
    },
    moved_here shift x.1,
  )

  digits_same : (kind : FaultKind) (start : Mark) (count n : ℕ) (h : Here)
      → Same on_here (digits_or kind (moved_mark shift start) count n (moved_here shift h))
      (digits_or kind start count n h)
  unfolding digits_or
  digits_same kind start zero n h = same_ok on_here (n, h) _ refl
  digits_same kind start (suc count) n h =
      let more = same_at on_here (digits_or kind (moved_mark shift start) count (n * 16 + hex_value (next_char h)))
      (step (moved_here shift h)) (moved_here shift (step h))
      (digits_or kind start count (n * 16 + hex_value (next_char h)) (step h)) (step_moved h)
      (digits_same kind start count (n * 16 + hex_value (next_char h)) (step h)) in
      same_if on_here (is_hex (next_char h)) _ _ _ _ more (same_no on_here (fault_at kind start))

  joined_same : (start : Mark) (high low : ℕ) (h : Here)
      → Same on_here (joined_or (moved_mark shift start) high low (moved_here shift h)) (joined_or start high low h)
  joined_same start high low h = same_if on_here (is_low low) _ _ _ _ (same_ok on_here (joined high low, h) _ refl)
      (same_no on_here (fault_at kinds.InvalidLowSurrogate start))

  second_same : (start : Mark) (high : ℕ) (h : Here)
      → Same on_here (second_half_or (moved_mark shift start) high (moved_here shift h)) (second_half_or start high h)
  unfolding second_half_or
  second_same start high h =
      let digits = same_at on_here (digits_or kinds.InvalidLowSurrogateHexEscape (moved_mark shift start) 4 0)
      (step (step (moved_here shift h))) (moved_here shift (step (step h)))
      (digits_or kinds.InvalidLowSurrogateHexEscape start 4 0 (step (step h))) (two_moved h)
      (digits_same kinds.InvalidLowSurrogateHexEscape start 4 0 (step (step h))) in
      same_if on_here (next_char h == 0x5C && slice_index h.unread.text 1 == 0x75) _ _ _ _
      (same_then on_here on_here _ _ _ _ digits (λ x. joined_same start high x.0 x.1))
      (same_no on_here (fault_at kinds.MissingLowSurrogate start))

  numbered_same : (start : Mark) (count n : ℕ) (h : Here)
      → Same on_here (numbered_or (moved_mark shift start) count n (moved_here shift h)) (numbered_or start count n h)
  unfolding numbered_or
  numbered_same start count n h =
      same_if on_here (scalar n) _ _ _ _ (same_ok on_here (n, h) _ refl)
      (same_if on_here (count == 4 && is_high n) _ _ _ _ (second_same start n h)
      (same_if on_here (count == 4 && is_low n) _ _ _ _ (same_no on_here (fault_at kinds.UnpairedLowSurrogate start))
      (same_no on_here (fault_at kinds.InvalidUnicodeEscape start))))

  escape_by_same : (start : Mark) (c count : Option ℕ) (h : Here)
      → Same on_here (escape_or_by (moved_mark shift start) c count (moved_here shift h)) (escape_or_by start c count h)
  escape_by_same start (Some c) count h = same_ok on_here (c, step h) _
      (ap (λ (g : Here). let x : ℕ × Here = (c, g) in x) (step_moved h))
  escape_by_same start None (Some count) h =
      same_then on_here on_here _ _ _ _ (same_at on_here
      (digits_or kinds.InvalidQuotedScalarHexEscape (moved_mark shift start) count 0) (step (moved_here shift h))
      (moved_here shift (step h)) (digits_or kinds.InvalidQuotedScalarHexEscape start count 0 (step h)) (step_moved h)
      (digits_same kinds.InvalidQuotedScalarHexEscape start count 0 (step h)))
      (λ x. numbered_same start count x.0 x.1)
  escape_by_same start None None h = same_no on_here (fault_at kinds.UnknownQuotedScalarEscape start)

  escape_same : (start : Mark) (h : Here) → Same on_here (escape_or (moved_mark shift start) (moved_here shift h))
      (escape_or start h)
  unfolding escape_or
  escape_same start h = escape_by_same start (letter_value (next_char h)) (digit_count (next_char h)) h

  if_quoted : (b : Bool) (g h x y : QuotedState) → g ≡ moved_quoted x → h ≡ moved_quoted y
      → (if b then g else h) ≡ moved_quoted (if b then x else y)
  if_quoted true g h x y p q = p
  if_quoted false g h x y p q = q

  over_blank_moved : (s : QuotedState) → over_blank (moved_quoted s) ≡ moved_quoted (over_blank s)
  unfolding over_blank
  over_blank_moved s = if_quoted s.on_new_line _ _ _ _ (ap (λ (g : Here). record s { here = g }) (step_moved s.here))
      (ap (λ (g : Here). record s { here = g; pending = s.pending ++ next_char s.here ∷ [] }) (step_moved s.here))

  over_break_moved : (s : QuotedState) → over_break (moved_quoted s) ≡ moved_quoted (over_break s)
  unfolding over_break
  over_break_moved s = if_quoted s.on_new_line _ _ _ _
      (ap (λ (g : Here). record s { here = g; pending = s.pending ++ 0x0A ∷ [] }) (break_moved s.here))
      (ap (λ (g : Here). record s { here = g; pending = []; on_new_line = true }) (break_moved s.here))

  piece_same : (s : QuotedState) (c : ℕ) (g h : Here) → g ≡ moved_here shift h
      → Same (on_state moved_quoted) (quoted_piece (moved_quoted s) (c, g)) (quoted_piece s (c, h))
  piece_same s c g h e = gives moved_quoted (Some (between_quoted s ++ c ∷ [])) (quoted_at false h) _
      (ap (quoted_at false) e)

  quoted_content_same : (single : Bool) (start : Mark) (s : QuotedState)
      → Same (on_state moved_quoted) (quoted_content single (moved_mark shift start) (moved_quoted s))
      (quoted_content single start s)
  unfolding quoted_content
  quoted_content_same single start s =
      let f = on_state {A = Option (List ℕ)} moved_quoted in
      let escape = same_at on_here (escape_or (moved_mark shift start)) (step (moved_here shift s.here))
      (moved_here shift (step s.here))
      (escape_or start (step s.here)) (step_moved s.here) (escape_same start (step s.here)) in
      same_if f (single && next_char s.here == 0x27) _ _ _ _ (piece_same s 0x27 _ _ (two_moved s.here))
      (same_if f (single || not (next_char s.here == 0x5C)) _ _ _ _
      (piece_same s (next_char s.here) _ _ (step_moved s.here))
      (same_if f (is_break (slice_index s.here.unread.text 1)) _ _ _ _
      (gives moved_quoted (Some (between_quoted s)) (quoted_at true (step s.here)) _
      (ap (quoted_at true) (step_moved s.here)))
      (same_then on_here f _ _ _ _ escape (λ x. piece_same s x.0 _ _ refl))))

  quoted_turn_same : (single : Bool) (at : LayoutData) (start : Mark) (s : QuotedState)
      → Same (on_state moved_quoted) (quoted_turn single at (moved_mark shift start) (moved_quoted s))
      (quoted_turn single at start s)
  unfolding quoted_turn
  quoted_turn_same single at start s =
      let f = on_state {A = Option (List ℕ)} moved_quoted in
      same_if f (is_blank (next_char s.here)) _ _ _ _
      (same_if f (s.on_new_line && (next_char s.here == 0x09 && is_tab_left at s.here.place.column)) _ _ _ _
      (same_no f (fault_at kinds.TabInIndentation (mark_of s.here)))
      (gives moved_quoted (Some []) (over_blank s) _ (over_blank_moved s)))
      (same_if f (is_break (next_char s.here)) _ _ _ _
      (gives moved_quoted (Some []) (over_break s) _ (over_break_moved s))
      (same_if f (s.on_new_line && is_strictly_left at s.escaped s.here.place.column) _ _ _ _
      (same_no f (fault_at kinds.InvalidIndentation (mark_of s.here)))
      (same_if f (s.on_new_line && is_loosely_left at s.escaped (is_closing single s.here.unread.text)
      s.here.place.column) _ _ _ _ (same_no f (fault_at kinds.InvalidQuotedScalarIndent (mark_of s.here)))
      (same_if f (s.on_new_line && (s.here.place.column == 0 && is_document_mark s.here.unread.text)) _ _ _ _
      (same_no f (fault_at kinds.DocumentIndicatorInQuotedScalar start))
      (same_if f (text_len s.here == 0) _ _ _ _ (same_no f (fault_at kinds.UnclosedQuotedScalar start))
      (same_if f (not (is_printable (next_char s.here))) _ _ _ _
      (same_no f (fault_at (kinds.UnexpectedCharacter (next_char s.here)) (mark_of s.here)))
      (same_if f (is_closing single s.here.unread.text) _ _ _ _ (gives moved_quoted None s _ refl)
      (quoted_content_same single start s))))))))

  behind_quoted_same : (single : Bool) (at : LayoutData) (start : Mark) (value : Written) (end : Mark) (h : Here)
      → Same on_quoted (behind_quoted single at (moved_mark shift start) (moved_text shift value) (moved_mark shift end)
      (moved_here shift h))
      (behind_quoted single at start value end h)
  unfolding behind_quoted
  behind_quoted_same single at start value end h =
      let read = same_ok on_quoted (quoted_read single start value end None, h) (
        quoted_read single (moved_mark shift start) (moved_text shift value) (moved_mark shift end) None,
        moved_here
            shift h,
      )
      refl in
      same_if on_quoted (text_len h == 0) _ _ _ _ read
      (same_if on_quoted (not (is_printable (next_char h))) _ _ _ _
      (same_no on_quoted (fault_at (kinds.UnexpectedCharacter (next_char h)) (mark_of h)))
      (same_at on_quoted (λ (b : Bool). if may_trail at b (next_char h) then Ok (
        quoted_read single (moved_mark shift start) (moved_text shift value) (moved_mark shift end) None,
        moved_here
            shift h,
      )
      else fails_at (trailing_kind single) (moved_mark shift (mark_of h)))
      (moved_line shift h.place.line == moved_line shift start.place.line) (h.place.line == start.place.line) _
      (sum_eq shift.line h.place.line start.place.line)
      (same_if on_quoted (may_trail at (h.place.line == start.place.line) (next_char h)) _ _ _ _ read
      (same_no on_quoted (fault_at (trailing_kind single) (mark_of h))))))

  asked_moved : (at : LayoutData) (c : CommentRead)
      → asked_comment at (moved_comment shift c) ≡ moved_tail shift (asked_comment at c)
  asked_moved at c = on at.comments
    where
      on : (b : Bool) → (if b then Some (moved_comment shift c) else None)
          ≡ moved_tail shift (if b then Some c else None)
      on true = refl
      on false = refl

  quoted_tail_same : (single : Bool) (at : LayoutData) (start : Mark) (value : Written) (h : Here)
      → Same on_quoted (quoted_tail single at (moved_mark shift start) (moved_text shift value) (moved_here shift h))
      (quoted_tail single at start value h)
  unfolding quoted_tail
  quoted_tail_same single at start value h =
      same_if on_quoted (next_char h == 0x23) _ _ _ _
      (same_no on_quoted (fault_at kinds.CommentNotSeparated (mark_of h)))
      (same_at on_quoted (λ (g : Here). if next_char g == 0x23 then
      (comment g >>= λ x. Ok (
        quoted_read single (moved_mark shift start) (moved_text shift value) (moved_mark shift (mark_of h))
            (asked_comment at x.0),
        x.1,
      )) else behind_quoted single at (moved_mark shift start) (moved_text shift value) (moved_mark shift (mark_of h))
      g)
      (past is_blank (moved_here shift h)) (moved_here shift (past is_blank h)) _ (past_moved is_blank h)
      (same_if on_quoted (next_char (past is_blank h) == 0x23) _ _ _ _
      (same_then on_comment on_quoted _ _ _ _ (comment_same (past is_blank h))
      (λ x. same_ok on_quoted (quoted_read single start value (mark_of h) (asked_comment at x.0), x.1) _
      (ap (λ (c : Option CommentRead). let r : QuotedRead
      × Here = (
        quoted_read single (moved_mark shift start) (moved_text shift value) (moved_mark shift (mark_of h)) c,
        moved_here shift x.1,
      ) in r)
      (asked_moved at x.0))))
      (behind_quoted_same single at start value (mark_of h) (past is_blank h))))

  quoted_text_moved : (single : Bool) (h : Here) (value : List ℕ)
      → quoted_text single (moved_here shift h) value ≡ moved_text shift (quoted_text single h value)
  quoted_text_moved single h value = ap (λ (lent : Bool). let t : Written =
      record { characters = value; is_borrowed = lent } in t)
      (lent_moved (is_verbatim single h.unread.text) h.unread.lends)

  pub quoted_same : (single : Bool) (at : LayoutData) (h : Here)
      → Same on_quoted (quoted_scalar single at (moved_here shift h)) (quoted_scalar single at h)
  unfolding quoted_scalar
  quoted_same single at h =
      let m = mark_of h in
      same_then (on_state moved_quoted) on_quoted
      (quoted_rest single at (moved_mark shift m) (quoted_at false (step (moved_here shift h))))
      (quoted_rest single at m (quoted_at false (step h))) _ _
      (same_at (on_state moved_quoted) (λ (g : Here). quoted_rest single at (moved_mark shift m) (quoted_at false g))
      (step (moved_here shift h)) (moved_here shift (step h)) _ (step_moved h)
      (pieces_same quoted_len moved_quoted (quoted_turn single at (moved_mark shift m)) (quoted_turn single at m)
      (λ s. refl)
      (quoted_turn_same single at m) (quoted_at false (step h))))
      (λ x. let value = x.0 ++ between_quoted x.1 in let text = quoted_text single (step h) value in
      same_at on_quoted (λ (t : Written). quoted_tail single at (moved_mark shift m) t
      (step (moved_here shift x.1.here)))
      (quoted_text single (step (moved_here shift h)) value) (moved_text shift text) _
      (ap (λ (g : Here). quoted_text single g value) (step_moved h) ∙ quoted_text_moved single (step h) value)
      (same_at on_quoted (quoted_tail single at (moved_mark shift m) (moved_text shift text))
      (step (moved_here shift x.1.here)) (moved_here shift (step x.1.here)) _ (step_moved x.1.here)
      (quoted_tail_same single at m text (step x.1.here))))
