-- The value of a block scalar, and the scalar whole, as the code has them.
use Rattle.std.proofs.Common.{◌≡◌, ℕ, zero, suc, ◌==◌, Bool, true, false, not, ◌&&◌, ◌||◌, cond, List, [], ◌∷◌, Option}
use Rattle.std.proofs.Common.{Some, None, Result, Ok, Err, refl, sym, ap, ap₂, ◌∙◌, arith}
use Rattle.std.specs.Prelude.{is_none, is_some, if◌then◌else◌}
use Rattle.std.specs.List.{find, list_all}
use Rattle.std.proofs.lemmas.Bool.Decides.{nat_tests}
use Rattle.granit_base.specs.Classes.{is_break}
use Rattle.granit_base.specs.Place.{Mark}
use Rattle.granit_base.specs.Written.{string_chars}
use Rattle.granit_error.specs.FaultKind.{TabAtBlockScalarStart}
use Rattle.granit_error.specs.Refused.{Refused}
use Rattle.granit_lexemes.specs.Basics.{owned, unprintable}
use Rattle.granit_lexemes.specs.BlockHeader.{BlockHeader, Chomping, Strip, Clip, Keep, chomping_of, content_column}
use Rattle.granit_lexemes.specs.BlockScalar.{BlockState, BlockRead, is_white, empty_lines, is_between, block_turn}
use Rattle.granit_lexemes.specs.BlockScalar.{block_len, behind_block, content_lines, block_lines, block_body}
use Rattle.granit_lexemes.specs.BlockValue.{line_feeds}
use Rattle.granit_lexemes.specs.Here.{Here, text_len, next_char, mark_of}
use Rattle.granit_lexemes.specs.LinesExtent.{is_clear}
use Rattle.granit_lexemes.specs.Outcome.{Fault, fault_at, Fails, ◌>>=◌}
use Rattle.granit_lexemes.specs.Pieces.{with_front, pieces}
use Rattle.granit_lexemes.proofs.PieceLemmas.{with_front-nil, pieces_done}
use Rattle.granit_blocks.proofs.BlockLaw.{whole_of, ended_on, behind_block_is, content_on, content_lines_is}
use Rattle.granit_blocks.proofs.BlockLaw.{then_content, then_lines, lines_on, block_lines_is, body_on, block_body_is}
use Rattle.granit_blocks.proofs.LineTurns.{state_at, turn_on, is_mark, block_turn_is}
use Rattle.granit_block.specs.BlockCode.{text_given, block_state, block_whole}
use Rattle.granit_block.specs.declared.lines.Lines.{Lines}

-- ---- white space

none_by : (b : Bool) (c : ℕ) (o : Option ℕ) (all : Bool) → is_none o ≡ all
    → is_none (cond (not b) (Some c) o) ≡ (b && all)
none_by true c o all e = e
none_by false c o all e = refl

pub none_found : (test : ℕ → Bool) (cs : List ℕ) → is_none (find (λ c. not (test c)) cs) ≡ list_all test cs
none_found test [] = refl
none_found test (c ∷ cs) = none_by (test c) c (find (λ d. not (test d)) cs) (list_all test cs) (none_found test cs)

pub none_of : (o : Option ℕ) (b : Bool) → is_some o ≡ not b → b ≡ is_none o
none_of None true e = refl
none_of None false e = absurd cc
none_of (Some c) true e = absurd cc
none_of (Some c) false e = refl

feed_white : is_white 0x0A ≡ true
unfolding is_white
feed_white = refl

feeds_white : (k : ℕ) → list_all is_white (line_feeds k) ≡ true
feeds_white zero = refl
feeds_white (suc k) = ap (λ (b : Bool). b && list_all is_white (line_feeds k)) feed_white ∙ feeds_white k

none_white : (chomping : Chomping) (h : Here) (k : ℕ)
    → list_all is_white (whole_of chomping [] (state_at h k None false)) ≡ true
none_white Strip h k = refl
none_white Clip h k = refl
none_white Keep h k = feeds_white k

-- ---- the content's column, where content stands

abbrev read_ended : Chomping → ℕ → Here → Result (List ℕ × BlockState) Fault → Result (BlockRead × Here) Fault
read_ended chomping column h r = r >>= λ x. behind_block chomping column (mark_of h) x.0 x.1

white_same : (chomping : Chomping) (c d : ℕ) (shown : Mark) (text : List ℕ) (s : BlockState)
    → list_all is_white (whole_of chomping text s) ≡ true
    → behind_block chomping c shown text s ≡ behind_block chomping d shown text s
white_same chomping c d shown text s w =
    let whole = whole_of chomping text s in
    behind_block_is chomping c shown text s
    ∙ by (is_clear s.here) (unprintable whole)
    ∙ sym (behind_block_is chomping d shown text s)
  where
    by : (clear : Bool) (o : Option ℕ) → ended_on c shown (whole_of chomping text s) s.here clear o
        ≡ ended_on d shown (whole_of chomping text s) s.here clear o
    by false o = refl
    by true (Some u) = refl
    by true None =
        ap (λ (b : Bool). Ok (
          record {
            text = owned (whole_of chomping text s);
            shown = shown;
            indent = if b then None
                else Some c;
          },
          s.here,
        )) w
        ∙ ap (λ (b : Bool). Ok (
          record {
            text = owned (whole_of chomping text s);
            shown = shown;
            indent = if b then None
                else Some d;
          },
          s.here,
        )) (sym w)

outside_by : (literal : Bool) (column k : ℕ) (h : Here) → (h.place.column == column) ≡ false
    → block_turn literal column (state_at h k None false) ≡ Ok (None, state_at h k None false)
outside_by literal column k h n =
    let s = state_at h k None false in
    block_turn_is literal column s ∙ ap (λ (o : Bool). turn_on literal column s o (is_clear h) (is_mark column h))
    (out (text_len h == 0) (h.place.column == column) n)
  where
    out : (a b : Bool) → b ≡ false → (a || not b) ≡ true
    out true b e = refl
    out false true e = absurd cc
    out false false e = refl

-- where content stands it stands in the scalar's column, and else the value is white space
pub column_shown : (literal : Bool) (chomping : Chomping) (column k : ℕ) (h : Here) (text : List ℕ) (s : BlockState)
    → pieces block_len (block_turn literal column) (state_at h k None false) ≡ Ok (text, s)
    → text_given literal chomping column k h ≡ behind_block chomping h.place.column (mark_of h) text s
column_shown literal chomping column k h text s e = by (h.place.column == column) refl
  where
    by : (b : Bool) → (h.place.column == column) ≡ b
        → text_given literal chomping column k h ≡ behind_block chomping h.place.column (mark_of h) text s
    by true y =
        let same : column ≡ h.place.column = grind (arith, nat_tests, y) in
        ap (read_ended chomping column h) e ∙ ap (λ (c : ℕ). behind_block chomping c (mark_of h) text s) same
    by false n =
        let none = pieces_done block_len (block_turn literal column) (state_at h k None false) (state_at h k None false)
        (outside_by literal column k h n) in
        ap (read_ended chomping column h) none
        ∙ white_same chomping column h.place.column (mark_of h) [] (state_at h k None false) (none_white chomping h k)
        ∙ ap (read_ended chomping h.place.column h) (sym none ∙ e)

pub text_read : (literal : Bool) (column k : ℕ) (h : Here) (l : Lines) (r : Result (List ℕ × BlockState) Fault)
    → string_chars l.value ≡ [] → block_state l h ≡ state_at h k None false → block_whole literal column l h ≡ r
    → pieces block_len (block_turn literal column) (state_at h k None false) ≡ r
text_read literal column k h l r none state whole =
    sym (with_front-nil _) ∙ ap₂ (λ (v : List ℕ) (s : BlockState). with_front v
    (pieces block_len (block_turn literal column) s)) (sym none) (sym state) ∙ whole

pub content_fails : (literal : Bool) (chomping : Chomping) (column k : ℕ) (h : Here) (e : Refused)
    → Fails e (pieces block_len (block_turn literal column) (state_at h k None false))
    → Fails e (text_given literal chomping column k h)
content_fails literal chomping column k h e fails = λ other. ap (read_ended chomping column h) (fails other)

-- ---- behind the last line

pub text_ends : (chomping : Chomping) (column : ℕ) (shown : Mark) (text whole : List ℕ) (s : BlockState) (clear : Bool)
    (o : Option ℕ) → whole ≡ whole_of chomping text s → is_clear s.here ≡ clear → unprintable whole ≡ o
    → behind_block chomping column shown text s ≡ ended_on column shown whole s.here clear o
text_ends chomping column shown text whole s clear o e c u =
    behind_block_is chomping column shown text s
    ∙ ap (λ (w : List ℕ). ended_on column shown w s.here (is_clear s.here) (unprintable w)) (sym e)
    ∙ ap₂ (ended_on column shown whole s.here) c u

-- ---- the first lines

pub content_at : (literal : Bool) (chomping : Chomping) (broken : Bool) (block : Option ℕ) (column : ℕ) (start : Mark)
    (k : ℕ) (h : Here) {clear met between : Bool} → is_clear h ≡ clear → (text_len h == 0) ≡ met
    → is_between block column h ≡ between
    → content_lines literal chomping broken block column start (line_feeds k) h
    ≡ content_on literal chomping broken column start k h clear met between
content_at literal chomping broken block column start k h {clear} {met} c m b =
    content_lines_is literal chomping broken block column start k h
    ∙ ap₂ (λ (x y : Bool). content_on literal chomping broken column start k h x y (is_between block column h)) c m
    ∙ ap (content_on literal chomping broken column start k h clear met) b

pub lines_tab : (literal : Bool) (header : BlockHeader) (broken : Bool) (block : Option ℕ) (start : Mark) (h : Here)
    → is_clear h ≡ true → (next_char h == 0x09) ≡ true
    → block_lines literal header broken block start h ≡ Err (fault_at TabAtBlockScalarStart start)
lines_tab literal header broken block start h c t = block_lines_is literal header broken block start h
    ∙ ap₂ (lines_on literal header broken block start h) c t

pub lines_go : (literal : Bool) (header : BlockHeader) (broken : Bool) (block : Option ℕ) (start : Mark) (h now : Here)
    (column k : ℕ) → is_clear h ≡ true → (next_char h == 0x09) ≡ false
    → content_column block header.digit h ≡ Ok column → empty_lines column h ≡ Ok (line_feeds k, now)
    → block_lines literal header broken block start h
    ≡ content_lines literal (chomping_of header.chomping) broken block column start (line_feeds k) now
lines_go literal header broken block start h now column k c t found empties =
    block_lines_is literal header broken block start h ∙ ap₂ (lines_on literal header broken block start h) c t
    ∙ ap (then_lines literal (chomping_of header.chomping) broken block start h) found
    ∙ ap (then_content literal (chomping_of header.chomping) broken block column start) empties

pub body_at : (literal : Bool) (header : BlockHeader) (block : Option ℕ) (start : Mark) (h : Here)
    (clear brk met : Bool) → is_clear h ≡ clear → is_break (next_char h) ≡ brk → (text_len h == 0) ≡ met
    → block_body literal header block start h ≡ body_on literal header block start h clear brk met
body_at literal header block start h clear brk met c b m =
    block_body_is literal header block start h
    ∙ ap₂ (λ (x y : Bool). body_on literal header block start h x y (text_len h == 0)) c b
    ∙ ap (body_on literal header block start h clear brk) m

-- where reading stands before the lines
abbrev pub starting : Here → List ℕ → BlockState
starting h empty = record { here = h; empty = empty; before = None; broken = false }
