-- What has a cause is refused with it.
use Rattle.std.proofs.Common.{◌≡◌, ℕ, zero, suc, ◌==◌, Bool, true, false, cond, not, ◌&&◌, List, [], ◌∷◌, ◌++◌}
use Rattle.std.proofs.Common.{Option, Some, None, Result, Ok, Err, refl, sym, ap, ap₂, ◌∙◌, arith}
use Rattle.std.specs.Prelude.{is_none, nat_lt}
use Rattle.std.proofs.lemmas.Bool.Decides.{nat_tests}
use Rattle.granit_base.specs.Classes.{is_break, is_digit, is_printable, is_non_breakz}
use Rattle.granit_base.specs.Place.{Mark, first}
use Rattle.granit_error.specs.FaultKind.{FaultKind, ZeroBlockScalarIndent, InvalidBlockScalarHeader}
use Rattle.granit_error.specs.FaultKind.{TabAtBlockScalarStart, InvalidBlockScalarIndent, CommentNotSeparated}
use Rattle.granit_error.specs.FaultKind.{UnexpectedCharacter}
use Rattle.granit_lexemes.proofs.CharTests.{feed_prints}
use Rattle.granit_lexemes.specs.Comment.{CommentRead, comment, Spoils}
use Rattle.granit_lexemes.specs.Here.{Here, text_len, next_char, mark_of, step, mid_line}
use Rattle.granit_lexemes.specs.Outcome.{Fault, fault_at, ◌>>=◌}
use Rattle.granit_lexemes.specs.Pieces.{with_front}
use Rattle.granit_lexemes.specs.PlainExtent.{over}
use Rattle.granit_lexemes.specs.Basics.{unprintable, count_up_to, text_up_to}
use Rattle.granit_lexemes.proofs.PieceLemmas.{pieces_done, pieces_more, pieces_fails}
use Rattle.granit_lexemes.specs.QuotedExtent.{BlanksBehind}
use Rattle.granit_quoted_laws.proofs.QuotedLaw.{comment_wrong}
use Rattle.granit_quoted_laws.proofs.QuotedTail.{comment_reads}
use Rattle.granit_quoted_laws.proofs.QuotedLaw.{with_note}
use Rattle.granit_quoted_laws.proofs.QuotedOnce.{over_text}
use Rattle.granit_lexemes.specs.BlockHeader.{Chomping, Strip, Clip, Keep, BlockHeader, chomping_of, header_sign}
use Rattle.granit_lexemes.specs.BlockHeader.{block_header}
use Rattle.granit_lexemes.specs.BlockScalar.{BlockState, is_between, block_turn, block_len, line_up_to}
use Rattle.granit_lexemes.specs.BlockScalar.{block_lines, block_body, block_scalar}
use Rattle.granit_lexemes.specs.Tail.{tail_at}
use Rattle.granit_lexemes.specs.BlockExtent.{BlockFront, RefusesBlock, zero_digit, hash_touches, in_comment}
use Rattle.granit_lexemes.specs.BlockExtent.{behind_header, other_content, first_character, first_tab, wrong_column}
use Rattle.granit_lexemes.specs.BlockExtent.{before_content, in_line, in_value}
use Rattle.granit_lexemes.specs.BlockMoves.{Spaces, at_column, no_space_left, space_left}
use Rattle.granit_lexemes.specs.BlockValue.{line_feeds, line_gap, begins_blank, content_text, kept_lines, block_value}
use Rattle.granit_lexemes.specs.HeaderExtent.{no_indicators, HeaderStands, HeaderFront, at_first, at_second, LexemeTail}
use Rattle.granit_lexemes.specs.HeaderExtent.{LineEnds}
use Rattle.granit_lexemes.specs.LinesExtent.{Empties, no_empty_line, empty_line, BlockLine, IsLine, ContentLines}
use Rattle.granit_lexemes.specs.LinesExtent.{no_line, more_lines, is_clear}
use Rattle.granit_blocks.proofs.BlockHeads.{sign_on, header_sign_is, sign_is, header_is, tail_on, tail_past}
use Rattle.granit_blocks.proofs.BlockHeads.{some_between, tail_touched, tail_is}
use Rattle.granit_blocks.proofs.BlockLaw.{whole_of, ended_on, behind_block_is, then_behind, content_on}
use Rattle.granit_blocks.proofs.BlockLaw.{content_lines_is, then_content, then_lines, lines_on, block_lines_is, body_on}
use Rattle.granit_blocks.proofs.BlockLaw.{block_body_is, given_on, tail_then, empties_clear, spaces_clear, body_by}
use Rattle.granit_blocks.proofs.BlockLaw.{space_printable}
use Rattle.granit_blocks.proofs.BlockLoop.{lines_from, lines_run, value_is}
use Rattle.granit_blocks.proofs.Leading.{empties_are, column_is}
use Rattle.granit_blocks.proofs.LineTurns.{state_at, line_on, line_up_to_is, turn_on, is_out, is_mark, block_turn_is}
use Rattle.granit_blocks.proofs.LineTurns.{not_out, either_no, line_taken, block_shortens, printable_clear, break_clear}
use Rattle.granit_blocks.proofs.LineTurns.{has_text, no_block_nul}
use Rattle.granit_blocks.proofs.Moving.{breaks_first, past_is}

abbrev Refused : Bool → Option ℕ → Here → FaultKind → Mark → Type 0
Refused literal block h kind m = block_scalar literal block h ≡ Err (fault_at kind m)

-- ---- in the header

zero_is_digit : is_digit 0x30 ≡ true
unfolding is_digit
zero_is_digit = refl

sign_zero : (start : Mark) (b : BlockHeader) (g : Here) → b.digit ≡ None → next_char g ≡ 0x30
    → header_sign start b g ≡ Err (fault_at ZeroBlockScalarIndent start)
sign_zero start b g n z =
    header_sign_is start b g
    ∙ ap (λ (c : ℕ). sign_on start b g (c == 0x2B && is_none b.chomping) (c == 0x2D && is_none b.chomping)
    (is_digit c && is_none b.digit) (c == 0x30)) z
    ∙ ap₂ (λ (v : Bool) (o : Option ℕ). sign_on start b g false false (v && is_none o) true) zero_is_digit n

header_zero : (h : Here) {b : BlockHeader} {g : Here} → HeaderFront h b g → b.digit ≡ None → next_char g ≡ 0x30
    → block_header h ≡ Err (fault_at ZeroBlockScalarIndent (mark_of h))
unfolding block_header
header_zero h at_first n z = ap (λ (r : Result (BlockHeader × Here) Fault). r >>= λ x. header_sign (mark_of h) x.0 x.1)
    (sign_zero (mark_of h) no_indicators (step h) n z)
header_zero h (at_second {once = once} {middle = middle} e) n z =
    ap (λ (r : Result (BlockHeader × Here) Fault). r >>= λ x. header_sign (mark_of h) x.0 x.1)
    (sign_is (mark_of h) no_indicators (step h) once middle e)
    ∙ sign_zero (mark_of h) once middle n z

by_header : (literal : Bool) (block : Option ℕ) (h : Here) (r : Result (BlockHeader × Here) Fault) → block_header h ≡ r
    → block_scalar literal block h ≡ (r >>= λ x. tail_then literal block h x.0 (tail_at x.1))
unfolding block_scalar
by_header literal block h r e = ap (λ (r : Result (BlockHeader × Here) Fault). r >>= λ x. tail_then literal block h x.0
    (tail_at x.1)) e

by_tail : (literal : Bool) (block : Option ℕ) (h : Here) {header : BlockHeader} {g : Here} → HeaderStands h header g
    → (r : Result (Option CommentRead × Here) Fault) → tail_at g ≡ r
    → block_scalar literal block h ≡ tail_then literal block h header r
by_tail literal block h {header} {g} heads r e = by_header literal block h (Ok (header, g)) (header_is h header g heads)
    ∙ ap (tail_then literal block h header) e

by_body : (literal : Bool) (block : Option ℕ) (h : Here) {header : BlockHeader} {g i : Here}
    {noted : Option CommentRead} → HeaderStands h header g → LexemeTail g noted i → (f : Fault)
    → block_body literal header block (mark_of h) i ≡ Err f → block_scalar literal block h ≡ Err f
by_body literal block h {header} {g} {i} {noted} heads tails f e = by_tail literal block h heads (Ok (noted, i))
    (tail_is g noted i tails) ∙ ap (given_on noted) e

by_lines : (literal : Bool) (block : Option ℕ) (h : Here) {header : BlockHeader} {g i j : Here}
    {noted : Option CommentRead} {broken : Bool} → HeaderStands h header g → LexemeTail g noted i → LineEnds i broken j
    → (f : Fault) → block_lines literal header broken block (mark_of h) j ≡ Err f
    → block_scalar literal block h ≡ Err f
by_lines literal block h {header} heads tails ends f e = by_body literal block h heads tails f
    (body_by literal header block (mark_of h) ends ∙ e)

-- ---- in a comment

pub in_comment_fails : (g : Here) {kind : FaultKind} {m : Mark} (b : ℕ) (blanks rest : List ℕ)
    → BlanksBehind g (b ∷ blanks) rest → Spoils (over (b ∷ blanks) g) kind m → tail_at g ≡ Err (fault_at kind m)
in_comment_fails g b blanks rest p s =
    let there = over_text (b ∷ blanks) rest g p.whole in
    let hash : first rest ≡ 0x23 = ap first (sym there ∙ s.spelled.spelled) in
    let c = over (b ∷ blanks) g in
    tail_past g (b ∷ blanks) rest p
    ∙ ap (λ (k : ℕ). tail_on c (k == 0x23) (count_up_to g c == 0)) hash
    ∙ ap (tail_on c true) (some_between g b blanks rest p)
    ∙ ap with_note (comment_wrong c s (comment c) refl (comment_reads c (ap first s.spelled.spelled)))

-- ---- behind the header's line

tab_printable : is_printable 0x09 ≡ true
unfolding is_printable is_break
tab_printable = refl

-- a place that spaces and empty lines lead to is where they begin, or they begin with a printable character
data ClearOr (h after : Here) : Type 0 where
  clears : is_clear h ≡ true → ClearOr h after
  there : h ≡ after → ClearOr h after

spaces_or : {column : ℕ} {h after : Here} → Spaces column h after → ClearOr h after
spaces_or (at_column p) = there refl
spaces_or (no_space_left n) = there refl
spaces_or {h = h} (space_left p y more) = clears (printable_clear h (space_printable (next_char h) y))

empties_or : {column : ℕ} {h after : Here} {k : ℕ} → Empties column h after k → ClearOr h after
empties_or (no_empty_line s n) = spaces_or s
empties_or (empty_line {g = g} {i = i} s b more) = clears (spaces_clear s (break_clear g (breaks_first g i b)))

pub lines_refused : (literal : Bool) (header : BlockHeader) (broken : Bool) (block : Option ℕ) (start : Mark) (j : Here)
    → is_clear j ≡ false → block_lines literal header broken block start j
    ≡ Err (fault_at (UnexpectedCharacter (next_char j)) (mark_of j))
lines_refused literal header broken block start j c = block_lines_is literal header broken block start j
    ∙ ap (λ (v : Bool). lines_on literal header broken block start j v (next_char j == 0x09)) c

-- ---- in the lines

-- everything here is known by what stands in front of the content
module _ (literal : Bool) {block : Option ℕ} {h : Here} {header : BlockHeader} {noted : Option CommentRead}
    {broken : Bool} {column k : ℕ} {place : Here} (front : BlockFront block h header noted broken column k place) where
  abbrev pub chomping : Chomping
  chomping = chomping_of header.chomping

  abbrev pub first_place : Here
  first_place = front.first_line

  pub by_content : is_clear first_place ≡ true
      → block_lines literal header broken block (mark_of h) first_place
      ≡ content_on literal chomping broken column (mark_of h) k place (is_clear place) (text_len place == 0)
      (is_between block column place)
  by_content c =
      block_lines_is literal header broken block (mark_of h) first_place
      ∙ ap₂ (lines_on literal header broken block (mark_of h) first_place) c front.no_tab
      ∙ ap (then_lines literal chomping broken block (mark_of h) first_place) (column_is front.indented)
      ∙ ap (then_content literal chomping broken block column (mark_of h)) (empties_are front.empties)
      ∙ content_lines_is literal chomping broken block column (mark_of h) k place

  pub refused_in : (f : Fault) → block_lines literal header broken block (mark_of h) first_place ≡ Err f
      → block_scalar literal block h ≡ Err f
  refused_in f e = by_lines literal block h front.heads front.tails front.ends f e

  place_refused_or : is_clear place ≡ false → ClearOr first_place place
      → block_lines literal header broken block (mark_of h) first_place
      ≡ Err (fault_at (UnexpectedCharacter (next_char place)) (mark_of place))
  place_refused_or c (clears y) = by_content y
      ∙ ap (λ (v : Bool). content_on literal chomping broken column (mark_of h) k place v (text_len place == 0)
      (is_between block column place)) c
  place_refused_or c (there e) =
      lines_refused literal header broken block (mark_of h) first_place (ap is_clear e ∙ c)
      ∙ ap (λ (g : Here). Err (fault_at (UnexpectedCharacter (next_char g)) (mark_of g))) e

  pub place_refused : is_clear place ≡ false → block_lines literal header broken block (mark_of h) first_place
      ≡ Err (fault_at (UnexpectedCharacter (next_char place)) (mark_of place))
  place_refused c = place_refused_or c (empties_or front.empties)

  pub wrong_place : is_clear place ≡ true → (text_len place == 0) ≡ false → is_between block column place ≡ true
      → block_lines literal header broken block (mark_of h) first_place
      ≡ Err (fault_at InvalidBlockScalarIndent (mark_of place))
  wrong_place c n y =
      by_content (empties_clear front.empties c)
      ∙ ap (λ (v : Bool). content_on literal chomping broken column (mark_of h) k place v (text_len place == 0)
      (is_between block column place)) c
      ∙ ap₂ (content_on literal chomping broken column (mark_of h) k place true) n y

  pub by_loop : is_clear place ≡ true → (text_len place == 0) ≡ false → is_between block column place ≡ false
      → block_lines literal header broken block (mark_of h) first_place
      ≡ then_behind chomping column (mark_of place) (lines_from literal column (state_at place k None false))
  by_loop c n y =
      by_content (empties_clear front.empties c)
      ∙ ap (λ (v : Bool). content_on literal chomping broken column (mark_of h) k place v (text_len place == 0)
      (is_between block column place)) c
      ∙ ap₂ (content_on literal chomping broken column (mark_of h) k place true) n y

-- content that stands at its column isn't left of it
at_column_not_between : (block : Option ℕ) (column : ℕ) (place : Here) → place.place.column ≡ column
    → is_between block column place ≡ false
at_column_not_between block column place e = none_of (nat_lt place.place.column column) _ _ (grind (arith, nat_tests))
  where
    none_of : (a b c : Bool) → a ≡ false → ((a && b) && c) ≡ false
    none_of true b c n = absurd cc
    none_of false b c n = refl

record Begun (block : Option ℕ) (column : ℕ) (place : Here) : Type 0 where
  clear : is_clear place ≡ true
  some : (text_len place == 0) ≡ false
  right : is_between block column place ≡ false

begun : (block : Option ℕ) {column : ℕ} {place : Here} {cs : List ℕ} {g : Here} → IsLine column place cs g
    → Begun block column place
begun block {column} {place} l = record {
  clear = printable_clear place l.printable;
  some = has_text is_non_breakz
      no_block_nul place l.begins;
  right = at_column_not_between block column place l.is_at;
}

-- a run that fails, or that stops at a place that will be refused
data RunsInto (r : Result (List ℕ × BlockState) Fault) (f : Fault) (after : Here) : Type 0 where
  fails : r ≡ Err f → RunsInto r f after
  stops_there : (text : List ℕ) (last : BlockState) → r ≡ Ok (text, last) → last.here ≡ after → RunsInto r f after

runs_on : (front : List ℕ) (r s : Result (List ℕ × BlockState) Fault) (f : Fault) (after : Here)
    → s ≡ with_front front r → RunsInto r f after → RunsInto s f after
runs_on front r s f after e (fails x) = fails (e ∙ ap (with_front front) x)
runs_on front r s f after e (stops_there text last x y) = stops_there (front ++ text) last (e ∙ ap (with_front front) x)
    y

lines_into : (literal : Bool) {column k : ℕ} {h after : Here} {lines : List BlockLine} {t : ℕ} (f : Fault) (end : Here)
    → ContentLines column k h after lines t → ((before : Option Bool) (was : Bool)
    → RunsInto (lines_from literal column (state_at after t before was)) f end)
    → (before : Option Bool) (was : Bool) → RunsInto (lines_from literal column (state_at h k before was)) f end
lines_into literal f end no_line base before was = base before was
lines_into literal {column} {k} {h} f end (more_lines {j = j} {cs = cs} {n = n} l b ls) base before was =
    let d = line_taken literal column k before was l b in
    let v = begins_blank cs in
    runs_on (line_gap literal before v k ++ cs) (lines_from literal column (state_at j n (Some v) d.broken))
    (lines_from literal column (state_at h k before was)) f end
    (pieces_more block_len (block_turn literal column) (block_shortens literal column) (state_at h k before was)
    (state_at j n (Some v) d.broken) (line_gap literal before v k ++ cs) d.gives)
    (lines_into literal f end ls base (Some v) d.broken)

abbrev strange_at : Here → Fault
strange_at g = fault_at (UnexpectedCharacter (next_char g)) (mark_of g)

strange_base_if : (literal : Bool) (column : ℕ) (s : BlockState) → is_clear s.here ≡ false → (out : Bool)
    → is_out column s.here ≡ out → RunsInto (lines_from literal column s) (strange_at s.here) s.here
strange_base_if literal column s c true o =
    stops_there [] s (pieces_done block_len (block_turn literal column) s s
    (block_turn_is literal column s ∙ ap (λ (v : Bool). turn_on literal column s v (is_clear s.here)
    (is_mark column s.here)) o)) refl
strange_base_if literal column s c false o =
    fails (pieces_fails block_len (block_turn literal column) s (strange_at s.here)
    (block_turn_is literal column s ∙ ap₂ (λ (v w : Bool). turn_on literal column s v w (is_mark column s.here)) o
    c))

inside_base : (literal : Bool) {column : ℕ} (s : BlockState) {cs : List ℕ} {g : Here} → IsLine column s.here cs g
    → is_clear g ≡ false → RunsInto (lines_from literal column s) (strange_at g) g
inside_base literal {column} s {cs} {g} l c =
    let m = has_text is_non_breakz no_block_nul s.here l.begins in
    fails (pieces_fails block_len (block_turn literal column) s (strange_at g) (
    block_turn_is literal column s
    ∙ ap (λ (o : Bool). turn_on literal column s o (is_clear s.here) (is_mark column s.here))
    (not_out column s.here m l.is_at)
    ∙ ap₂ (turn_on literal column s false) (printable_clear s.here l.printable) l.no_mark
    ∙ ap (λ (i : Here). line_up_to literal column s (mid_line i))
    (past_is is_non_breakz no_block_nul cs s.here g l.spans l.each l.ends)
    ∙ line_up_to_is literal column s (mid_line g)
    ∙ ap₂ (line_on literal column s (text_up_to s.here g) (mid_line g))
    (either_no (text_len g == 0) (is_printable (next_char g)) c).0 c))

then_refused : (chomping : Chomping) (column : ℕ) (shown : Mark) (r : Result (List ℕ × BlockState) Fault) (after : Here)
    → is_clear after ≡ false → RunsInto r (strange_at after) after
    → then_behind chomping column shown r ≡ Err (strange_at after)
then_refused chomping column shown r after c (fails e) = ap (then_behind chomping column shown) e
then_refused chomping column shown r after c (stops_there text last e y) =
    ap (then_behind chomping column shown) e
    ∙ behind_block_is chomping column shown text last
    ∙ ap (λ (g : Here). ended_on column shown (whole_of chomping text last) g (is_clear g)
    (unprintable (whole_of chomping text last))) y
    ∙ ap (λ (v : Bool). ended_on column shown (whole_of chomping text last) after v
    (unprintable (whole_of chomping text last))) c

feeds_printable : (k : ℕ) → unprintable (line_feeds k) ≡ None
feeds_printable zero = refl
feeds_printable (suc k) = ap (λ (b : Bool). cond (not b) (Some 0x0A) (unprintable (line_feeds k))) feed_prints
    ∙ feeds_printable k

kept_printable : (chomping : Chomping) (k : ℕ) → unprintable (kept_lines chomping k) ≡ None
kept_printable Strip k = refl
kept_printable Clip k = refl
kept_printable Keep k = feeds_printable k

begun_value : (literal : Bool) (chomping : Chomping) (block : Option ℕ) {column k : ℕ} {place after : Here}
    {lines : List BlockLine} {t c : ℕ} → ContentLines column k place after lines t
    → unprintable (block_value literal chomping lines t) ≡ Some c → Begun block column place
begun_value literal chomping block {t = t} {c = c} no_line e = absurd (let n = kept_printable chomping t in cc)
begun_value literal chomping block (more_lines l b ls) e = begun block l

before_fails : (literal : Bool) {block : Option ℕ} {h : Here} {header : BlockHeader} {noted : Option CommentRead}
    {broken : Bool} {column k : ℕ} {place : Here} (front : BlockFront block h header noted broken column k place)
    {after : Here} {lines : List BlockLine} {t : ℕ}
    → ContentLines column k place after lines t → is_clear after ≡ false
    → block_lines literal header broken block (mark_of h) front.first_line ≡ Err (strange_at after)
before_fails literal front no_line c = place_refused literal front c
before_fails literal {block} {h} {header} {column = column} {place = place} front {after = after} {t = t}
    (more_lines l b ls) c =
    let s = begun block l in
    by_loop literal front s.clear s.some s.right
    ∙ then_refused (chomping_of header.chomping) column (mark_of place) _ after c
    (lines_into literal (strange_at after) after (more_lines l b ls)
    (λ before was. strange_base_if literal column (state_at after t before was) c (is_out column after) refl) None
    false)

begun_line : (block : Option ℕ) {column k : ℕ} {place after end : Here} {lines : List BlockLine} {t : ℕ} {cs : List ℕ}
    → ContentLines column k place after lines t → IsLine column after cs end → Begun block column place
begun_line block no_line i = begun block i
begun_line block (more_lines l b ls) i = begun block l

-- ---- every cause

pub cause_refused : (literal : Bool) (block : Option ℕ) (h : Here) {kind : FaultKind} {m : Mark}
    → RefusesBlock literal block h kind m → block_scalar literal block h ≡ Err (fault_at kind m)
cause_refused literal block h (zero_digit front n z) = by_header literal block h
    (Err (fault_at ZeroBlockScalarIndent (mark_of h))) (header_zero h front n z)
cause_refused literal block h (hash_touches {g = g} heads y) =
    by_tail literal block h heads (Err (fault_at CommentNotSeparated (mark_of g))) (tail_touched g y)
cause_refused literal block h (in_comment {g = g} {kind = kind} {m = m} b blanks rest heads p s) = by_tail literal block
    h heads (Err (fault_at kind m)) (in_comment_fails g b blanks rest p s)
cause_refused literal block h (behind_header {header = header} {i = i} heads tails c) =
    by_body literal block h heads tails (strange_at i)
    (block_body_is literal header block (mark_of h) i
    ∙ ap (λ (v : Bool). body_on literal header block (mark_of h) i v (is_break (next_char i)) (text_len i == 0)) c)
cause_refused literal block h (other_content {header = header} {i = i} heads tails c n b) =
    by_body literal block h heads tails (fault_at InvalidBlockScalarHeader (mark_of h))
    (block_body_is literal header block (mark_of h) i
    ∙ ap (λ (v : Bool). body_on literal header block (mark_of h) i v (is_break (next_char i)) (text_len i == 0)) c
    ∙ ap₂ (body_on literal header block (mark_of h) i true) b n)
cause_refused literal block h (first_character {header = header} {j = j} {broken = broken} heads tails ends c) =
    by_lines literal block h heads tails ends (strange_at j) (lines_refused literal header broken block (mark_of h) j c)
cause_refused literal block h (first_tab {header = header} {j = j} {broken = broken} heads tails ends y) =
    by_lines literal block h heads tails ends (fault_at TabAtBlockScalarStart (mark_of h))
    (block_lines_is literal header broken block (mark_of h) j
    ∙ ap₂ (lines_on literal header broken block (mark_of h) j) (printable_clear j (ap is_printable y ∙ tab_printable))
    (ap (λ (c : ℕ). c == 0x09) y))
cause_refused literal block h (wrong_column {place = place} front c n y) =
    refused_in literal front (fault_at InvalidBlockScalarIndent (mark_of place)) (wrong_place literal front c n y)
cause_refused literal block h (before_content {after = after} front ls c) =
    refused_in literal front (strange_at after) (before_fails literal front ls c)
cause_refused literal block h (in_line {header = header} {column = column} {t = t} {place = place} {after = after}
    {end = end} front ls i c) =
    let s = begun_line block ls i in
    refused_in literal front (strange_at end) (
    by_loop literal front s.clear s.some s.right
    ∙ then_refused (chomping_of header.chomping) column (mark_of place) _ end c
    (lines_into literal (strange_at end) end ls (λ before was. inside_base literal (state_at after t before was) i c)
    None false))
cause_refused literal block h (in_value {header = header} {column = column} {k = k} {t = t} {c = d} {place = place}
    {after = after} {lines = lines} front ls out c e) =
    let chomping = chomping_of header.chomping in
    let s = begun_value literal chomping block ls e in
    let r = lines_run literal ls out c None false in
    let w : whole_of chomping (content_text literal None lines) r.last
    ≡ block_value literal chomping lines t = value_is literal chomping place k lines t
    (content_text literal None lines) r.last refl r.empty_is r.ended in
    refused_in literal front (fault_at (UnexpectedCharacter d) (mark_of place)) (
    by_loop literal front s.clear s.some s.right
    ∙ ap (then_behind chomping column (mark_of place)) r.gives
    ∙ behind_block_is chomping column (mark_of place) (content_text literal None lines) r.last
    ∙ ap₂ (λ (x : List ℕ) (g : Here). ended_on column (mark_of place) x g (is_clear g) (unprintable x)) w r.here
    ∙ ap₂ (ended_on column (mark_of place) (block_value literal chomping lines t) after) c e)
