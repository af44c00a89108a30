-- How the code goes over lines of content.
use Rattle.std.proofs.Common.{◌≡◌, ℕ, ◌-◌, ◌≤◌, ◌==◌, Bool, true, false, List, [], ◌++◌, length, take, Some, None, Ok}
use Rattle.std.proofs.Common.{Err, refl, sym, ap, ap₂, ◌∙◌, append_assoc, arith}
use Rattle.std.proofs.lemmas.List.{length-drop}
use Rattle.granit_base.specs.Classes.{is_blank, is_non_breakz}
use Rattle.granit_base.specs.Written.{string_chars}
use Rattle.granit_error.specs.FaultKind.{UnexpectedCharacter}
use Rattle.granit_error.specs.Refused.{Refused}
use Rattle.granit_runs.specs.Runs.{run_length, starts}
use Rattle.granit_runs.proofs.RunLemmas.{run_within}
use Rattle.granit_lexemes.specs.Basics.{past_break, count_up_to, text_up_to}
use Rattle.granit_lexemes.specs.BlockScalar.{BlockState, between_lines, empty_lines, line_up_to}
use Rattle.granit_lexemes.specs.BlockScalar.{block_turn, block_len}
use Rattle.granit_lexemes.specs.Here.{Here, text_len, next_char, mark_of, mid_line, past}
use Rattle.granit_lexemes.specs.LinesExtent.{is_clear}
use Rattle.granit_lexemes.specs.Moves.{steps}
use Rattle.granit_lexemes.specs.Outcome.{fault_at, Fails}
use Rattle.granit_lexemes.proofs.PieceLemmas.{with_front-nil, loop_more, loop_done, loop_fails}
use Rattle.granit_scalars.proofs.Comments.{steps_text}
use Rattle.granit_blocks.proofs.LineTurns.{line_on, line_up_to_is, after_break, piece_of, turn_on, block_turn_is}
use Rattle.granit_blocks.proofs.LineTurns.{block_shortens, either_no}
use Rattle.granit_cursor.proofs.MoveLemmas.{steps_past}
use Rattle.granit_block.specs.BlockCode.{block_state, block_whole, empty_whole, is_off_content, is_content_mark}
use Rattle.granit_block.specs.declared.lines.Lines.{Lines}

-- ---- a run that is taken whole

pub count_is : (n : ℕ) (h : Here) → n ≤ text_len h → count_up_to h (steps n h) ≡ n
count_is n h fits =
    let e : text_len (steps n h) ≡ text_len h - n = ap (λ (t : List ℕ). length t) (steps_text n h)
    ∙ length-drop n h.unread.text in
    omega (arith, e)

run_fits : (test : ℕ → Bool) (n : ℕ) (h : Here) → n ≡ run_length (starts test) h.unread.text → n ≤ text_len h
run_fits test n h is = let le = run_within (starts test) h.unread.text in omega (arith, is)

pub run_count : (test : ℕ → Bool) (n : ℕ) (h : Here) → n ≡ run_length (starts test) h.unread.text
    → count_up_to h (past test h) ≡ n
run_count test n h is =
    sym (ap (count_up_to h) (ap (λ (m : ℕ). steps m h) is ∙ steps_past test h)) ∙ count_is n h (run_fits test n h is)

pub run_lands : (test : ℕ → Bool) (n : ℕ) (h : Here) → n ≡ run_length (starts test) h.unread.text
    → steps n h ≡ past test h
run_lands test n h is = ap (λ (m : ℕ). steps m h) is ∙ steps_past test h

pub run_text : (test : ℕ → Bool) (n : ℕ) (h : Here) → n ≡ run_length (starts test) h.unread.text
    → take n h.unread.text ≡ text_up_to h (past test h)
run_text test n h is = ap (λ (m : ℕ). take m h.unread.text) (sym (run_count test n h is))

-- ---- a line of content

-- where a line ends
abbrev pub line_end : Here → Here
line_end h = mid_line (past is_non_breakz h)

pub line_lands : (n : ℕ) (h : Here) → n ≡ run_length (starts is_non_breakz) h.unread.text
    → mid_line (steps n h) ≡ line_end h
line_lands n h is = ap mid_line (run_lands is_non_breakz n h is)

abbrev pub line_piece : Bool → BlockState → List ℕ
line_piece literal s = piece_of literal s (text_up_to s.here (line_end s.here))

-- what was appended is the piece
pub line_value : (literal : Bool) (s : BlockState) (old more new : List ℕ) (n : ℕ)
    → n ≡ run_length (starts is_non_breakz) s.here.unread.text
    → more ≡ old ++ between_lines literal s.before (is_blank (next_char s.here)) s.empty
    → new ≡ more ++ take n s.here.unread.text → new ≡ old ++ line_piece literal s
line_value literal s old more new n is grown taken =
    let between = between_lines literal s.before (is_blank (next_char s.here)) s.empty in
    taken ∙ ap₂ (λ (a b : List ℕ). a ++ b) grown (run_text is_non_breakz n s.here is)
    ∙ append_assoc old between (text_up_to s.here (line_end s.here))

-- where reading stands behind a line
abbrev pub behind_line : Here → List ℕ → Bool → Bool → BlockState
behind_line h empty blank broken = record { here = h; empty = empty; before = Some blank; broken = broken }

-- the text ends behind it
pub line_met : (literal : Bool) (column : ℕ) (s : BlockState) (l : Lines) → (text_len (line_end s.here) == 0) ≡ true
    → block_state l (line_end s.here) ≡ record {
      here = line_end s.here;
      empty = [];
      before = Some
          (is_blank (next_char s.here));
      broken = false;
    }
    → line_up_to literal column s (line_end s.here) ≡ Ok (Some (line_piece literal s), block_state l (line_end s.here))
line_met literal column s l met state =
    let g = line_end s.here in
    line_up_to_is literal column s g ∙ ap (λ (b : Bool). line_on literal column s (text_up_to s.here g) g b
    (is_clear g)) met
    ∙ ap (λ (t : BlockState). Ok (Some (line_piece literal s), t)) (sym state)

-- what isn't printable ends it
pub line_strange : (literal : Bool) (column : ℕ) (s : BlockState) → is_clear (line_end s.here) ≡ false
    → line_up_to literal column s (line_end s.here)
    ≡ Err (fault_at (UnexpectedCharacter (next_char (line_end s.here))) (mark_of (line_end s.here)))
line_strange literal column s strange =
    let g = line_end s.here in
    let met = (either_no (text_len g == 0) _ strange).0 in
    line_up_to_is literal column s g ∙ ap₂ (line_on literal column s (text_up_to s.here g) g) met strange

-- a break ends it, and empty lines follow
pub line_goes : (literal : Bool) (column : ℕ) (s : BlockState) (l : Lines) (new : List ℕ) (now : Here)
    → (text_len (line_end s.here) == 0) ≡ false → is_clear (line_end s.here) ≡ true
    → empty_whole column [] (past_break (line_end s.here)) ≡ Ok (new, now)
    → block_state l now ≡ record { here = now; empty = new; before = Some (is_blank (next_char s.here)); broken = true }
    → line_up_to literal column s (line_end s.here) ≡ Ok (Some (line_piece literal s), block_state l now)
line_goes literal column s l new now met clear empties state =
    let g = line_end s.here in
    line_up_to_is literal column s g ∙ ap₂ (line_on literal column s (text_up_to s.here g) g) met clear
    ∙ ap (after_break literal s (text_up_to s.here g))
    (sym (with_front-nil (empty_lines column (past_break g))) ∙ empties)
    ∙ ap (λ (t : BlockState). Ok (Some (line_piece literal s), t)) (sym state)

-- ---- a turn

module _ (literal : Bool) (column : ℕ) (l : Lines) (h : Here) where
  turn : (out clear mark : Bool) → is_off_content column h ≡ out → is_clear h ≡ clear → is_content_mark column h ≡ mark
      → block_turn literal column (block_state l h) ≡ turn_on literal column (block_state l h) out clear mark
  turn out clear mark o c m =
      block_turn_is literal column (block_state l h)
      ∙ ap₂ (λ (a b : Bool). turn_on literal column (block_state l h) a b (is_content_mark column h)) o c
      ∙ ap (turn_on literal column (block_state l h) out clear) m

  done : block_turn literal column (block_state l h) ≡ Ok (None, block_state l h)
      → block_whole literal column l h ≡ Ok (string_chars l.value, block_state l h)
  done is = loop_done block_len (block_turn literal column) (string_chars l.value) (block_state l h) (block_state l h)
      (block_whole literal column l h) refl is

  pub line_outside : is_off_content column h ≡ true
      → block_whole literal column l h ≡ Ok (string_chars l.value, block_state l h)
  line_outside o = done (turn true (is_clear h) (is_content_mark column h) o refl refl)

  pub line_mark : is_off_content column h ≡ false → is_clear h ≡ true → is_content_mark column h ≡ true
      → block_whole literal column l h ≡ Ok (string_chars l.value, block_state l h)
  line_mark o c m = done (turn false true true o c m)

  pub line_refused : (e : Refused) → is_off_content column h ≡ false → is_clear h ≡ false
      → e ≡ fault_at (UnexpectedCharacter (next_char h)) (mark_of h) → Fails e (block_whole literal column l h)
  line_refused e o c is =
      loop_fails block_len (block_turn literal column) (string_chars l.value) (block_state l h) e
      (block_whole literal column l h) refl (λ other.
      turn false false (is_content_mark column h) o c refl ∙ ap (λ (f : Refused). Err f) (sym is))

  line_turn : is_off_content column h ≡ false → is_clear h ≡ true → is_content_mark column h ≡ false
      → block_turn literal column (block_state l h) ≡ line_up_to literal column (block_state l h) (line_end h)
  line_turn o c m = turn false true false o c m

  pub line_fails : (e : Refused) → is_off_content column h ≡ false → is_clear h ≡ true
      → is_content_mark column h ≡ false → Fails e (line_up_to literal column (block_state l h) (line_end h))
      → Fails e (block_whole literal column l h)
  line_fails e o c m fails =
      loop_fails block_len (block_turn literal column) (string_chars l.value) (block_state l h) e
      (block_whole literal column l h) refl (λ other. line_turn o c m ∙ fails other)

  pub line_more : (new : Lines) (now : Here) (piece : List ℕ) → is_off_content column h ≡ false → is_clear h ≡ true
      → is_content_mark column h ≡ false
      → line_up_to literal column (block_state l h) (line_end h) ≡ Ok (Some piece, block_state new now)
      → string_chars new.value ≡ string_chars l.value ++ piece
      → block_whole literal column new now ≡ block_whole literal column l h
  line_more new now piece o c m is grown =
      loop_more block_len (block_turn literal column) (block_shortens literal column) (string_chars l.value)
      (string_chars new.value) (block_state l h) (block_state new now) piece (block_whole literal column l h) refl
      (line_turn o c m ∙ is) grown
