-- Block scalars where their text stands behind another one.
use Rattle.std.proofs.Common.{◌≡◌, ℕ, zero, suc, ◌-◌, ◌==◌, ◌&&◌, ◌||◌, not, Bool, true, false, List, [], ◌∷◌}
use Rattle.std.proofs.Common.{◌++◌, Option, Some, None, Result, Ok, refl, ap, ◌∙◌}
use Rattle.std.specs.Prelude.{is_none, if◌then◌else◌}
use Rattle.granit_base.specs.Classes.{is_printable, is_blank, is_break, is_digit}
use Rattle.granit_base.specs.Classes.{is_non_breakz}
use Rattle.granit_base.specs.Place.{Mark}
use Rattle.granit_error.specs.FaultKind as kinds
use Rattle.granit_lexemes.specs.Basics.{is_document_mark, past_break, unprintable, text_up_to}
use Rattle.granit_lexemes.specs.BlockHeader.{Chomping, BlockHeader, is_space, refuse_unprintable, header_sign}
use Rattle.granit_lexemes.specs.BlockHeader.{block_header, leading_turn, content_column, chomping_of}
use Rattle.granit_lexemes.specs.BlockScalar.{over_spaces, indented, empty_turn, empty_lines, BlockState, between_lines}
use Rattle.granit_lexemes.specs.BlockScalar.{line_up_to, block_turn, block_len, BlockRead, last_break}
use Rattle.granit_lexemes.specs.BlockScalar.{kept, block_read, behind_block, no_content, is_between, content_lines}
use Rattle.granit_lexemes.specs.BlockScalar.{block_lines, block_body, BlockGiven, block_scalar}
use Rattle.granit_lexemes.specs.Here.{Here, text_len, next_char, mark_of, step}
use Rattle.granit_lexemes.specs.Here.{mid_line, past}
use Rattle.granit_lexemes.specs.Outcome.{Fault, fault_at}
use Rattle.granit_shifted.specs.Shift.{Shift, moved_text, moved_mark, moved_here}
use Rattle.granit_shifted.specs.Shift.{moved_tail}
use Rattle.granit_shifted.proofs.MovedLexemes.{Same, break_moved, gives, if_here, on_here, on_state, on_tail, only_same}
use Rattle.granit_shifted.proofs.MovedLexemes.{past_moved, pieces_same, same_at, same_if, same_no, same_ok, same_then}
use Rattle.granit_shifted.proofs.MovedLexemes.{step_moved, tail_same}

module _ (shift : Shift) where
  abbrev moved_block : BlockState → BlockState
  moved_block s = record s { here = moved_here shift s.here }

  abbrev pub on_block : BlockRead × Here → BlockRead × Here
  on_block x = (
    record { text = moved_text shift x.0.text; shown = moved_mark shift x.0.shown; indent = x.0.indent },
    moved_here shift x.1,
  )

  abbrev pub on_given : BlockGiven × Here → BlockGiven × Here
  on_given x = (
    record {
      read = record {
        text = moved_text shift x.0.read.text;
        shown = moved_mark shift x.0.read.shown;
        indent =
            x.0.read.indent;
      };
      noted = moved_tail shift x.0.noted;
    },
    moved_here shift x.1,
  )

  spaces_moved : (n : ℕ) (h : Here) → over_spaces n (moved_here shift h) ≡ moved_here shift (over_spaces n h)
  unfolding over_spaces
  spaces_moved zero h = refl
  spaces_moved (suc n) h = (if_here shift) (next_char h == 0x20) _ _ _ _
      (ap (over_spaces n) ((step_moved shift) h) ∙ spaces_moved n (step h)) refl

  indented_moved : (column : ℕ) (h : Here) → indented column (moved_here shift h) ≡ moved_here shift (indented column h)
  indented_moved column h = spaces_moved (column - h.place.column) h

  empty_turn_same : (column : ℕ) (h : Here) → (Same shift) ((on_state shift) (moved_here shift))
      (empty_turn column (moved_here shift h))
      (empty_turn column h)
  unfolding empty_turn
  empty_turn_same column h =
      (same_at shift) ((on_state shift) (moved_here shift)) (λ (g : Here). if is_break (next_char g) then Ok
      (Some (0x0A ∷ []), past_break g) else
      Ok (None, g)) (indented column (moved_here shift h)) (moved_here shift (indented column h)) _
      (indented_moved column h)
      ((same_if shift) ((on_state shift) (moved_here shift)) (is_break (next_char (indented column h))) _ _ _ _
      ((gives shift) (moved_here shift) (Some (0x0A ∷ [])) (past_break (indented column h)) _
      ((break_moved shift) (indented column h)))
      ((gives shift) (moved_here shift) None (indented column h) _ refl))

  empty_same : (column : ℕ) (h : Here) → (Same shift) (on_here shift) (empty_lines column (moved_here shift h))
      (empty_lines column h)
  empty_same column h = (pieces_same shift) text_len (moved_here shift) (empty_turn column) (empty_turn column)
      (λ h. refl)
      (empty_turn_same column) h

  refuse_same : {A B : Type 0} (f : A → B) (h : Here) (r : Result B Fault) (s : Result A Fault) → (Same shift) f r s
      → (Same shift) f (refuse_unprintable (moved_here shift h) r) (refuse_unprintable h s)
  refuse_same f h r s p = (same_if shift) f (text_len h == 0 || is_printable (next_char h)) _ _ _ _ p
      ((same_no shift) f (fault_at (kinds.UnexpectedCharacter (next_char h)) (mark_of h)))

  line_same : (literal : Bool) (column : ℕ) (s : BlockState) (after : Here)
      → (Same shift) ((on_state shift) moved_block) (line_up_to literal column (moved_block s) (moved_here shift after))
      (line_up_to literal column s after)
  unfolding line_up_to
  line_same literal column s after =
      let f = (on_state shift) {A = Option (List ℕ)} moved_block in
      let piece = between_lines literal s.before (is_blank (next_char s.here)) s.empty ++ text_up_to s.here after in
      (same_if shift) f (text_len after == 0) _ _ _ _ ((gives shift) moved_block (Some piece)
      (record { here = after; empty = []; before = Some (is_blank (next_char s.here)); broken = false }) _ refl)
      (refuse_same f after _ _ ((same_then shift) (on_here shift) f _ _ _ _
      ((same_at shift) (on_here shift) (empty_lines column) (past_break (moved_here shift after))
      (moved_here shift (past_break after))
      (empty_lines column (past_break after)) ((break_moved shift) after) (empty_same column (past_break after)))
      (λ x. (gives shift) moved_block (Some piece) (record {
        here = x.1;
        empty = x.0;
        before = Some (is_blank (next_char s.here));
        broken = true;
      }) _ refl)))

  block_turn_same : (literal : Bool) (column : ℕ) (s : BlockState)
      → (Same shift) ((on_state shift) moved_block) (block_turn literal column (moved_block s))
      (block_turn literal column s)
  unfolding block_turn
  block_turn_same literal column s =
      let f = (on_state shift) {A = Option (List ℕ)} moved_block in
      (same_if shift) f (text_len s.here == 0 || not (s.here.place.column == column)) _ _ _ _
      ((gives shift) moved_block None s _ refl)
      (refuse_same f s.here _ _ ((same_if shift) f (column == 0 && is_document_mark s.here.unread.text) _ _ _ _
      ((gives shift) moved_block None s _ refl)
      ((same_at shift) f (λ (g : Here). line_up_to literal column (moved_block s) (mid_line g))
      (past is_non_breakz (moved_here shift s.here)) (moved_here shift (past is_non_breakz s.here)) _
      ((past_moved shift) is_non_breakz s.here) (line_same literal column s (mid_line (past is_non_breakz s.here))))))

  behind_block_same : (chomping : Chomping) (column : ℕ) (shown : Mark) (text : List ℕ) (s : BlockState)
      → (Same shift) on_block (behind_block chomping column (moved_mark shift shown) text (moved_block s))
      (behind_block chomping column shown text s)
  unfolding behind_block
  behind_block_same chomping column shown text s =
      let whole = (text ++ last_break chomping s) ++ kept chomping s.empty in
      refuse_same on_block s.here _ _ ((only_same shift) on_block (unprintable whole) shown _ _
      ((same_ok shift) on_block (block_read column shown whole, s.here) _ refl))

  content_lines_same : (literal : Bool) (chomping : Chomping) (broken : Bool) (block : Option ℕ) (column : ℕ)
      (start : Mark) (empty : List ℕ) (h : Here)
      → (Same shift) on_block (content_lines literal chomping broken block column (moved_mark shift start) empty
      (moved_here shift h))
      (content_lines literal chomping broken block column start empty h)
  unfolding content_lines
  content_lines_same literal chomping broken block column start empty h =
      refuse_same on_block h _ _ ((same_if shift) on_block (text_len h == 0) _ _ _ _
      ((same_ok shift) on_block (
        record {
          text = Rattle.granit_lexemes.specs.Basics.owned
              (no_content chomping broken empty h);
          shown = start;
          indent = None;
        },
        h,
      ) _ refl)
      ((same_if shift) on_block (is_between block column h) _ _ _ _
      ((same_no shift) on_block (fault_at kinds.InvalidBlockScalarIndent (mark_of h)))
      ((same_then shift) ((on_state shift) moved_block) on_block _ _ _ _
      ((pieces_same shift) block_len moved_block (block_turn literal column) (block_turn literal column) (λ s. refl)
      (block_turn_same literal column) (record { here = h; empty = empty; before = None; broken = false }))
      (λ x. behind_block_same chomping column (mark_of h) x.0 x.1))))

  leading_same : (h : Here) → (Same shift) ((on_state shift) (moved_here shift)) (leading_turn (moved_here shift h))
      (leading_turn h)
  unfolding leading_turn
  leading_same h =
      (same_at shift) ((on_state shift) (moved_here shift)) (λ (g : Here). if is_break (next_char g) then Ok
      (Some (g.place.column ∷ []), past_break g) else Ok (None, g)) (past is_space (moved_here shift h))
      (moved_here shift (past is_space h)) _ ((past_moved shift) is_space h)
      ((same_if shift) ((on_state shift) (moved_here shift)) (is_break (next_char (past is_space h))) _ _ _ _
      ((gives shift) (moved_here shift) (Some ((past is_space h).place.column ∷ [])) (past_break (past is_space h)) _
      ((break_moved shift) (past is_space h))) ((gives shift) (moved_here shift) None (past is_space h) _ refl))

  abbrev pub itself : {A : Type 0} → A → A
  itself x = x

  column_same : (block digit : Option ℕ) (h : Here)
      → (Same shift) itself (content_column block digit (moved_here shift h)) (content_column block digit h)
  unfolding content_column
  column_same block (Some d) h = (same_ok shift) itself _ _ refl
  column_same block None h = (same_then shift) (on_here shift) itself _ _ _ _
      ((pieces_same shift) text_len (moved_here shift) leading_turn leading_turn (λ h. refl) leading_same h)
      (λ x. (same_ok shift) itself _ _ refl)

  block_lines_same : (literal : Bool) (header : BlockHeader) (broken : Bool) (block : Option ℕ) (start : Mark)
      (h : Here)
      → (Same shift) on_block (block_lines literal header broken block (moved_mark shift start) (moved_here shift h))
      (block_lines literal header broken block start h)
  unfolding block_lines
  block_lines_same literal header broken block start h =
      refuse_same on_block h _ _ ((same_if shift) on_block (next_char h == 0x09) _ _ _ _
      ((same_no shift) on_block (fault_at kinds.TabAtBlockScalarStart start))
      ((same_then shift) itself on_block _ _ _ _ (column_same block header.digit h)
      (λ column. (same_then shift) (on_here shift) on_block _ _ _ _ (empty_same column h)
      (λ x. content_lines_same literal (chomping_of header.chomping) broken block column start x.0 x.1))))

  block_body_same : (literal : Bool) (header : BlockHeader) (block : Option ℕ) (start : Mark) (h : Here)
      → (Same shift) on_block (block_body literal header block (moved_mark shift start) (moved_here shift h))
      (block_body literal header block start h)
  unfolding block_body
  block_body_same literal header block start h =
      refuse_same on_block h _ _ ((same_if shift) on_block (is_break (next_char h)) _ _ _ _
      ((same_at shift) on_block (block_lines literal header true block (moved_mark shift start))
      (past_break (moved_here shift h))
      (moved_here shift (past_break h)) (block_lines literal header true block start (past_break h))
      ((break_moved shift) h)
      (block_lines_same literal header true block start (past_break h)))
      ((same_if shift) on_block (text_len h == 0) _ _ _ _ (block_lines_same literal header false block start h)
      ((same_no shift) on_block (fault_at kinds.InvalidBlockScalarHeader start))))

  header_sign_same : (start : Mark) (b : BlockHeader) (h : Here)
      → (Same shift) (on_here shift) (header_sign (moved_mark shift start) b (moved_here shift h))
      (header_sign start b h)
  unfolding header_sign
  header_sign_same start b h =
      let on = λ (c : BlockHeader). (same_ok shift) (on_here shift) (c, step h) (c, step (moved_here shift h))
      (ap (λ (g : Here). let x : BlockHeader × Here = (c, g) in x) ((step_moved shift) h)) in
      (same_if shift) (on_here shift) (next_char h == 0x2B && is_none b.chomping) _ _ _ _
      (on (record b { chomping = Some Rattle.granit_lexemes.specs.BlockHeader.Keep }))
      ((same_if shift) (on_here shift) (next_char h == 0x2D && is_none b.chomping) _ _ _ _
      (on (record b { chomping = Some Rattle.granit_lexemes.specs.BlockHeader.Strip }))
      ((same_if shift) (on_here shift) (is_digit (next_char h) && is_none b.digit) _ _ _ _
      ((same_if shift) (on_here shift) (next_char h == 0x30) _ _ _ _
      ((same_no shift) (on_here shift) (fault_at kinds.ZeroBlockScalarIndent start))
      (on (record b { digit = Some (next_char h - 0x30) }))) ((same_ok shift) (on_here shift) (b, h) _ refl)))

  header_same : (h : Here) → (Same shift) (on_here shift) (block_header (moved_here shift h)) (block_header h)
  unfolding block_header
  header_same h =
      let none : BlockHeader = record { chomping = None; digit = None } in
      (same_then shift) (on_here shift) (on_here shift) _ _ _ _
      ((same_at shift) (on_here shift) (header_sign (moved_mark shift (mark_of h)) none)
      (step (moved_here shift h))
      (moved_here shift (step h)) (header_sign (mark_of h) none (step h)) ((step_moved shift) h)
      (header_sign_same (mark_of h) none (step h))) (λ x. header_sign_same (mark_of h) x.0 x.1)

  pub block_same : (literal : Bool) (block : Option ℕ) (h : Here)
      → (Same shift) on_given (block_scalar literal block (moved_here shift h)) (block_scalar literal block h)
  unfolding block_scalar
  block_same literal block h =
      (same_then shift) (on_here shift) on_given _ _ _ _ (header_same h)
      (λ x. (same_then shift) (on_tail shift) on_given _ _ _ _ ((tail_same shift) x.1)
      (λ y. (same_then shift) on_block on_given _ _ _ _ (block_body_same literal x.0 block (mark_of h) y.1)
      (λ z. (same_ok shift) on_given (record { read = z.0; noted = y.0 }, z.1) _ refl)))
