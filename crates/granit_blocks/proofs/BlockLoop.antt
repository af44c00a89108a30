-- The lines of content that the plain function reads.
use Rattle.std.proofs.Common.{◌≡◌, ℕ, ◌==◌, Bool, true, false, not, ◌&&◌, ◌||◌, List, [], ◌∷◌, ◌++◌, Option, Some, None}
use Rattle.std.proofs.Common.{Result, Ok, Err, refl, sym, ap, ap₂, ◌∙◌, append_assoc, append-nil}
use Rattle.std.specs.Prelude.{if◌then◌else◌, is_some}
use Rattle.granit_base.specs.Classes.{is_blank, is_break}
use Rattle.granit_error.specs.FaultKind.{UnexpectedCharacter}
use Rattle.granit_lexemes.specs.Here.{Here, text_len, next_char, mark_of, mid_line}
use Rattle.granit_lexemes.specs.Outcome.{Fault, fault_at}
use Rattle.granit_lexemes.specs.Pieces.{with_front, pieces}
use Rattle.granit_lexemes.proofs.PieceLemmas.{pieces_done, pieces_more}
use Rattle.granit_quoted_laws.proofs.QuotedReads.{Carries, pieces_hold}
use Rattle.granit_lexemes.specs.BlockHeader.{Chomping, Strip, Clip, Keep, is_strip}
use Rattle.granit_lexemes.specs.BlockScalar.{BlockState, between_lines, block_turn, block_len, last_break, kept}
use Rattle.granit_lexemes.specs.BlockValue.{line_feeds, line_gap, begins_blank, content_text, ending, kept_lines}
use Rattle.granit_lexemes.specs.BlockValue.{block_value}
use Rattle.granit_lexemes.specs.LinesExtent.{BlockLine, IsLine, BehindLine, ContentLines, no_line, more_lines}
use Rattle.granit_lexemes.specs.LinesExtent.{is_outside_block, is_clear}
use Rattle.granit_blocks.proofs.LineTurns.{state_at, BlockTurned, stops, at_strange, in_strange, takes_line}
use Rattle.granit_blocks.proofs.LineTurns.{block_turned, block_shortens, between_is, line_taken, stopped}
use Rattle.granit_blocks.proofs.LineTurns.{behind_no_break, line_first}

abbrev pub lines_from : Bool → ℕ → BlockState → Result (List ℕ × BlockState) Fault
lines_from literal column s = pieces block_len (block_turn literal column) s

-- what the state knows of the last line, where there is one
abbrev pub Ended : BlockState → List BlockLine → BlockState → Type 0
Ended s [] after = after ≡ s
Ended s (l ∷ ls) after = (after.broken || (is_some after.before && text_len after.here == 0)) ≡ true

-- ---- what is read stands there

pub record FindsLines (literal : Bool) (column : ℕ) (s : BlockState) (k : ℕ) (text : List ℕ) (after : BlockState) : Type
    0 where
  pub lines : List BlockLine
  pub t : ℕ
  pub stands : ContentLines column k s.here after.here lines t
  pub outside : is_outside_block column after.here ≡ true
  pub spells : text ≡ content_text literal s.before lines
  pub empty_is : after.empty ≡ line_feeds t
  pub ended : Ended s lines after

pub data FindsStrange (column k : ℕ) (h : Here) : Fault → Type 0 where
  before_line : {after : Here} {lines : List BlockLine} {t : ℕ} → ContentLines column k h after lines t
      → is_clear after ≡ false → FindsStrange column k h
      (fault_at (UnexpectedCharacter (next_char after)) (mark_of after))
  inside_line : {after end : Here} {lines : List BlockLine} {t : ℕ} {cs : List ℕ}
      → ContentLines column k h after lines t → IsLine column after cs end → is_clear end ≡ false
      → FindsStrange column k h (fault_at (UnexpectedCharacter (next_char end)) (mark_of end))

abbrev pub LinesRead : Bool → ℕ → BlockState → Result (List ℕ × BlockState) Fault → Type 0
LinesRead literal column s (Ok (text, after)) = (k : ℕ) → s.empty ≡ line_feeds k → is_break (next_char s.here) ≡ false
    → FindsLines literal column s k text after
LinesRead literal column s (Err f) = (k : ℕ) → s.empty ≡ line_feeds k → is_break (next_char s.here) ≡ false
    → FindsStrange column k s.here f

strange_on : {column k : ℕ} {h g j : Here} {cs : List ℕ} {n : ℕ} (f : Fault) → IsLine column h cs g
    → BehindLine column (mid_line g) j n → FindsStrange column n j f → FindsStrange column k h f
strange_on f l b (before_line ls c) = before_line (more_lines l b ls) c
strange_on f l b (inside_line ls i c) = inside_line (more_lines l b ls) i c

ended_on : (j : Here) (n : ℕ) (before : Bool) (broken : Bool) (l : BlockLine) (lines : List BlockLine)
    (after s : BlockState) → (broken || text_len j == 0) ≡ true → Ended (state_at j n (Some before) broken) lines after
    → Ended s (l ∷ lines) after
ended_on j n before broken l [] after s e w = ap
    (λ (u : BlockState). u.broken || (is_some u.before && text_len u.here == 0)) w ∙ e
ended_on j n before broken l (m ∷ lines) after s e w = w

further_lines : (literal : Bool) (column : ℕ) (s : BlockState) (cs : List ℕ) (g j : Here) (n : ℕ) (broken : Bool)
    → (is_break (next_char s.here) ≡ false → IsLine column s.here cs g) → BehindLine column (mid_line g) j n
    → (broken || text_len j == 0) ≡ true
    → (given : Result (List ℕ × BlockState) Fault)
    → LinesRead literal column (state_at j n (Some (is_blank (next_char s.here))) broken) given
    → LinesRead literal column s (with_front (between_lines literal s.before (is_blank (next_char s.here)) s.empty
    ++ cs) given)
further_lines literal column s cs g j n broken l b e (Ok (text, after)) read = λ k is no.
    let r = read n refl (behind_no_break b) in
    let v = is_blank (next_char s.here) in
    let blank : v ≡ begins_blank cs = ap is_blank (sym (line_first (l no))) in
    record {
      lines = record { empty = k; text = cs } ∷ r.lines;
      t = r.t;
      stands = more_lines (l no) b r.stands;
      outside = r.outside;
      spells = append_assoc (between_lines literal s.before v s.empty) cs text
          ∙ ap₂ (λ (x y : List ℕ). x ++ (cs ++ y)) (between_is literal s.before v s.empty k is) r.spells
          ∙ ap (λ (u : Bool). line_gap literal s.before u k ++ (cs ++ content_text literal (Some u) r.lines)) blank;
      empty_is = r.empty_is;
      ended = ended_on j n v broken (record { empty = k; text = cs }) r.lines after s e r.ended;
    }
further_lines literal column s cs g j n broken l b e (Err f) read = λ k is no. strange_on f (l no) b
    (read n refl (behind_no_break b))

carries : (literal : Bool) (column : ℕ) (s : BlockState) (r : Result (Option (List ℕ) × BlockState) Fault)
    → BlockTurned literal column s r → Carries (LinesRead literal column) s r
carries literal column s r (stops o) = λ k is no. record {
  lines = [];
  t = k;
  stands = no_line;
  outside = o;
  spells =
      refl;
  empty_is = is;
  ended = refl;
}
carries literal column s r (at_strange c) = λ k is no. before_line no_line c
carries literal column s r (in_strange cs g l c) = λ k is no. inside_line no_line (l no) c
carries literal column s r (takes_line cs g j n broken m le l b e) = further_lines literal column s cs g j n broken l b
    e

pub lines_read : (literal : Bool) (column : ℕ) (s : BlockState)
    → LinesRead literal column s (lines_from literal column s)
lines_read literal column s = pieces_hold (LinesRead literal column) block_len (block_turn literal column)
    (block_shortens literal column) (λ t. carries literal column t (block_turn literal column t)
    (block_turned literal column t)) s

-- ---- what stands there is read

pub record RunsLines (literal : Bool) (column k : ℕ) (h : Here) (before : Option Bool) (was : Bool)
    (lines : List BlockLine) (t : ℕ) (after : Here) : Type 0 where
  pub last : BlockState
  pub gives : lines_from literal column (state_at h k before was) ≡ Ok (content_text literal before lines, last)
  pub here : last.here ≡ after
  pub empty_is : last.empty ≡ line_feeds t
  pub ended : Ended (state_at h k before was) lines last

pub lines_run : (literal : Bool) {column k : ℕ} {h after : Here} {lines : List BlockLine} {t : ℕ}
    → ContentLines column k h after lines t → is_outside_block column after ≡ true → is_clear after ≡ true
    → (before : Option Bool) (was : Bool) → RunsLines literal column k h before was lines t after
lines_run literal {column} {k} {h} no_line o c before was =
    record {
      last = state_at h k before was;
      gives = pieces_done block_len (block_turn literal column)
          (state_at h k before was) (state_at h k before was) (stopped literal column (state_at h k before was) o c);
      here = refl;
      empty_is = refl;
      ended = refl;
    }
lines_run literal {column} {k} {h} (more_lines {j = j} {cs = cs} {n = n} {lines = lines} l b ls) o c before was =
    let d = line_taken literal column k before was l b in
    let v = begins_blank cs in
    let r = lines_run literal ls o c (Some v) d.broken in
    let s = state_at h k before was in
    record {
      last = r.last;
      gives = pieces_more block_len (block_turn literal column) (block_shortens literal column) s
          (state_at j n (Some v) d.broken) (line_gap literal before v k ++ cs) d.gives
          ∙ ap (with_front (line_gap literal before v k ++ cs)) r.gives
          ∙ ap (λ (x : List ℕ). Ok (x, r.last))
          (append_assoc (line_gap literal before v k) cs (content_text literal (Some v) lines));
      here = r.here;
      empty_is = r.empty_is;
      ended = ended_on j n v d.broken (record { empty = k; text = cs }) lines r.last s d.ended r.ended;
    }

-- ---- the value

last_is : (chomping : Chomping) (s : BlockState) → (s.broken || (is_some s.before && text_len s.here == 0)) ≡ true
    → last_break chomping s ≡ (if not (is_strip chomping) && true then 0x0A ∷ [] else [])
last_is chomping s e = ap (λ (b : Bool). if not (is_strip chomping) && b then 0x0A ∷ [] else []) e

ends_as : (chomping : Chomping) (text : List ℕ) (t : ℕ)
    → (text ++ (if not (is_strip chomping) && true then 0x0A ∷ [] else [])) ++ kept chomping (line_feeds t)
    ≡ text ++ ending chomping t
ends_as Strip text t = append-nil (text ++ [])
ends_as Clip text t = append-nil (text ++ 0x0A ∷ [])
ends_as Keep text t = append_assoc text (0x0A ∷ []) (line_feeds t)

none_as : (chomping : Chomping) (k : ℕ) → ([] ++ (if not (is_strip chomping) && false then 0x0A ∷ [] else []))
    ++ kept chomping (line_feeds k) ≡ kept_lines chomping k
none_as Strip k = refl
none_as Clip k = refl
none_as Keep k = refl

-- the text that was read, with what stands for the breaks behind it, is the value
pub value_is : (literal : Bool) (chomping : Chomping) (h : Here) (k : ℕ) (lines : List BlockLine) (t : ℕ)
    (text : List ℕ) (s : BlockState) → text ≡ content_text literal None lines → s.empty ≡ line_feeds t
    → Ended (state_at h k None false) lines s
    → (text ++ last_break chomping s) ++ kept chomping s.empty ≡ block_value literal chomping lines t
value_is literal chomping h k [] t text s e f w =
    ap₂ (λ (x : List ℕ) (u : BlockState). (x ++ last_break chomping u) ++ kept chomping s.empty) e w
    ∙ ap (λ (x : List ℕ). ([] ++ (if not (is_strip chomping) && false then 0x0A ∷ [] else [])) ++ kept chomping x) f
    ∙ none_as chomping t
value_is literal chomping h k (l ∷ lines) t text s e f w =
    ap₂ (λ (x y : List ℕ). (x ++ y) ++ kept chomping s.empty) e (last_is chomping s w)
    ∙ ap (λ (x : List ℕ). (content_text literal None (l ∷ lines)
    ++ (if not (is_strip chomping) && true then 0x0A ∷ [] else [])) ++ kept chomping x) f
    ∙ ends_as chomping (content_text literal None (l ∷ lines)) t
