-- The plain function answers the block scalar that stands there, or refuses it with its cause.
use Rattle.std.proofs.Common.{◌≡◌, ℕ, zero, suc, ◌==◌, Bool, true, false, ◌&&◌, List, [], ◌∷◌, ◌++◌, length, Option}
use Rattle.std.proofs.Common.{Some, None, Result, Ok, Err, refl, sym, ap, ap₂, ◌∙◌, subst, arith}
use Rattle.std.proofs.lemmas.Bool.{eqb-true}
use Rattle.std.specs.Prelude.{if◌then◌else◌, nat_lt}
use Rattle.std.proofs.lemmas.Bool.Decides.{nat_tests}
use Rattle.std.proofs.lemmas.List.{nil_from_length}
use Rattle.granit_base.specs.Classes.{is_break, is_printable}
use Rattle.granit_base.specs.Place.{Mark}
use Rattle.granit_error.specs.FaultKind.{ZeroBlockScalarIndent, InvalidBlockScalarHeader, TabAtBlockScalarStart}
use Rattle.granit_error.specs.FaultKind.{InvalidBlockScalarIndent, UnexpectedCharacter}
use Rattle.granit_lexemes.specs.Comment.{CommentRead}
use Rattle.granit_lexemes.specs.Here.{Here, text_len, next_char, mark_of}
use Rattle.granit_lexemes.specs.Outcome.{Fault, ◌>>=◌}
use Rattle.granit_lexemes.specs.Basics.{fails_at, past_break, only_printable, unprintable, owned}
use Rattle.granit_lexemes.proofs.HereLemmas.{not_empty}
use Rattle.granit_lexemes.specs.BlockHeader.{Chomping, Strip, Clip, Keep, BlockHeader, chomping_of, content_column}
use Rattle.granit_lexemes.specs.BlockHeader.{is_space, block_header}
use Rattle.granit_lexemes.specs.BlockScalar.{BlockState, BlockRead, block_read, is_between, empty_lines, no_content}
use Rattle.granit_lexemes.specs.BlockScalar.{kept, last_break, behind_block, content_lines, block_lines, block_body}
use Rattle.granit_lexemes.specs.BlockScalar.{BlockGiven, block_scalar}
use Rattle.granit_lexemes.specs.Tail.{tail_at}
use Rattle.granit_lexemes.specs.BlockExtent.{BlockFront, BlockBody, without_content, with_content, AnswersBlock}
use Rattle.granit_lexemes.specs.BlockExtent.{RefusesBlock, zero_digit, hash_touches, in_comment, behind_header}
use Rattle.granit_lexemes.specs.BlockExtent.{other_content, first_character, first_tab, wrong_column, before_content}
use Rattle.granit_lexemes.specs.BlockExtent.{in_line, in_value}
use Rattle.granit_lexemes.specs.BlockMoves.{Spaces, at_column, no_space_left, space_left}
use Rattle.granit_lexemes.specs.BlockValue.{line_feeds, content_text, block_value, empty_value}
use Rattle.granit_lexemes.specs.HeaderExtent.{HeaderStands, LexemeTail, LineEnds, line_broken, line_unbroken}
use Rattle.granit_lexemes.specs.LinesExtent.{ContentColumn, Empties, no_empty_line, empty_line, BlockLine, ContentLines}
use Rattle.granit_lexemes.specs.LinesExtent.{no_line, more_lines, is_outside_block, is_clear}
use Rattle.granit_blocks.proofs.BlockHeads.{HeaderReads, header_reads, header_is, ZeroAt, TailWrong, touches, spoils}
use Rattle.granit_blocks.proofs.BlockHeads.{TailReads, tail_reads, tail_is}
use Rattle.granit_blocks.proofs.BlockLoop.{lines_from, LinesRead, lines_read, FindsStrange, before_line, inside_line}
use Rattle.granit_blocks.proofs.BlockLoop.{lines_run, value_is}
use Rattle.granit_blocks.proofs.Leading.{EmptyReads, empty_reads, empties_are, ColumnReads, column_reads, column_is}
use Rattle.granit_blocks.proofs.LineTurns.{state_at, printable_clear, break_clear, end_clear, end_no_break}
use Rattle.granit_blocks.proofs.LineTurns.{empties_no_break}
use Rattle.granit_blocks.proofs.Moving.{breaks_of, breaks_is, breaks_first}

-- ---- texts without content

no_keep : (chomping : Chomping) (empty : List ℕ) (place : Here) → no_content chomping false empty place ≡ []
no_keep Strip empty place = refl
no_keep Clip empty place = refl
no_keep Keep empty place = refl

one_line : (b : Bool) → (if b then 0x0A ∷ [] else []) ≡ line_feeds (if b then 1 else 0)
one_line true = refl
one_line false = refl

empty_is : (chomping : Chomping) (broken : Bool) (k : ℕ) (place : Here)
    → no_content chomping broken (line_feeds k) place ≡ empty_value chomping broken k place.place.column
empty_is chomping false k place = no_keep chomping (line_feeds k) place
empty_is Strip true k place = refl
empty_is Clip true k place = refl
empty_is Keep true zero place = one_line (nat_lt 0 place.place.column)
empty_is Keep true (suc k) place = ap (λ (b : Bool). if b && nat_lt 0 place.place.column then 0x0A
    ∷ [] else line_feeds (suc k)) (not_empty 0x0A (line_feeds k))

-- ---- chains of tests

abbrev refused : {Y : Type 0} → Here → Bool → Result Y Fault → Result Y Fault
refused h clear given = if clear then given else fails_at (UnexpectedCharacter (next_char h)) (mark_of h)

abbrev pub whole_of : Chomping → List ℕ → BlockState → List ℕ
whole_of chomping text s = (text ++ last_break chomping s) ++ kept chomping s.empty

abbrev pub ended_on : ℕ → Mark → List ℕ → Here → (clear : Bool) → Option ℕ → Result (BlockRead × Here) Fault
ended_on column shown whole h clear o = refused h clear (only_printable o shown (Ok (block_read column shown whole, h)))

pub behind_block_is : (chomping : Chomping) (column : ℕ) (shown : Mark) (text : List ℕ) (s : BlockState)
    → behind_block chomping column shown text s
    ≡ ended_on column shown (whole_of chomping text s) s.here (is_clear s.here) (unprintable (whole_of chomping text s))
unfolding behind_block
behind_block_is chomping column shown text s = refl

abbrev empty_read : Chomping → Bool → Mark → List ℕ → Here → BlockRead
empty_read chomping broken start empty place =
    record { text = owned (no_content chomping broken empty place); shown = start; indent = None }

abbrev pub then_behind : Chomping → ℕ → Mark → Result (List ℕ × BlockState) Fault → Result (BlockRead × Here) Fault
then_behind chomping column shown given = given >>= λ x. behind_block chomping column shown x.0 x.1

abbrev pub content_on : Bool → Chomping → Bool → ℕ → Mark → ℕ → Here → (clear met between : Bool)
    → Result (BlockRead × Here) Fault
content_on literal chomping broken column start k place clear met between =
    refused place clear (
    if met then Ok (empty_read chomping broken start (line_feeds k) place, place)
    else if between then fails_at InvalidBlockScalarIndent (mark_of place)
    else then_behind chomping column (mark_of place) (lines_from literal column (state_at place k None false)))

pub content_lines_is : (literal : Bool) (chomping : Chomping) (broken : Bool) (block : Option ℕ) (column : ℕ)
    (start : Mark) (k : ℕ) (place : Here)
    → content_lines literal chomping broken block column start (line_feeds k) place
    ≡ content_on literal chomping broken column start k place (is_clear place) (text_len place == 0)
    (is_between block column place)
unfolding content_lines
content_lines_is literal chomping broken block column start k place = refl

abbrev pub then_content : Bool → Chomping → Bool → Option ℕ → ℕ → Mark → Result (List ℕ × Here) Fault
    → Result (BlockRead × Here) Fault
then_content literal chomping broken block column start given = given >>= λ x. content_lines literal chomping broken
    block column start x.0 x.1

abbrev pub then_lines : Bool → Chomping → Bool → Option ℕ → Mark → Here → Result ℕ Fault
    → Result (BlockRead × Here) Fault
then_lines literal chomping broken block start h given = given >>= λ column. then_content literal chomping broken block
    column start (empty_lines column h)

abbrev pub lines_on : Bool → BlockHeader → Bool → Option ℕ → Mark → Here → (clear tab : Bool)
    → Result (BlockRead × Here) Fault
lines_on literal header broken block start h clear tab =
    refused h clear (if tab then fails_at TabAtBlockScalarStart start else then_lines literal
    (chomping_of header.chomping) broken block start h (content_column block header.digit h))

pub block_lines_is : (literal : Bool) (header : BlockHeader) (broken : Bool) (block : Option ℕ) (start : Mark)
    (h : Here) → block_lines literal header broken block start h
    ≡ lines_on literal header broken block start h (is_clear h) (next_char h == 0x09)
unfolding block_lines
block_lines_is literal header broken block start h = refl

abbrev pub body_on : Bool → BlockHeader → Option ℕ → Mark → Here → (clear brk met : Bool)
    → Result (BlockRead × Here) Fault
body_on literal header block start h clear brk met =
    refused h clear (
    if brk then block_lines literal header true block start (past_break h)
    else if met then block_lines literal header false block start h
    else fails_at InvalidBlockScalarHeader start)

pub block_body_is : (literal : Bool) (header : BlockHeader) (block : Option ℕ) (start : Mark) (h : Here)
    → block_body literal header block start h
    ≡ body_on literal header block start h (is_clear h) (is_break (next_char h)) (text_len h == 0)
unfolding block_body
block_body_is literal header block start h = refl

-- ---- what is read stands there

abbrev BodyReads : Bool → Option ℕ → Here → Option CommentRead → Result (BlockRead × Here) Fault → Type 0
BodyReads literal block h noted (Ok (read, after)) = AnswersBlock literal block h
    (record { read = read; noted = noted }) after
BodyReads literal block h noted (Err f) = RefusesBlock literal block h f.kind f.mark × (f.sources ≡ [])

module _ (literal : Bool) (block : Option ℕ) (h : Here) (header : BlockHeader) (noted : Option CommentRead)
    (broken : Bool) (column k : ℕ) (place : Here) (front : BlockFront block h header noted broken column k place) where
  abbrev pub chomps : Chomping
  chomps = chomping_of header.chomping

  found_column : (some : (text_len place == 0) ≡ false) (right : is_between block column place ≡ false)
      (lines : List BlockLine) (t : ℕ) (after : Here) → ContentLines column k place after lines t
      → is_outside_block column after ≡ true → (clear : Bool) → is_clear after ≡ clear
      → (o : Option ℕ) → unprintable (block_value literal chomps lines t) ≡ o
      → BodyReads literal block h noted (ended_on column (mark_of place) (block_value literal chomps lines t) after
      clear o)
  found_column some right lines t after ls out true c None e =
      record {
        header = header;
        broken = broken;
        column = column;
        k = k;
        place = place;
        front = front;
        body =
            with_content lines t after some right ls out c e;
      }
  found_column some right lines t after ls out true c (Some d) e = (in_value front ls out c e, refl)
  found_column some right lines t after ls out false c o e = (before_content front ls c, refl)

  strange : (f : Fault) → FindsStrange column k place f → BodyReads literal block h noted (Err f)
  strange f (before_line ls c) = (before_content front ls c, refl)
  strange f (inside_line ls l c) = (in_line front ls l c, refl)

  behind_reads : (text_len place == 0) ≡ false → is_between block column place ≡ false
      → (given : Result (List ℕ × BlockState) Fault) → LinesRead literal column (state_at place k None false) given
      → BodyReads literal block h noted (then_behind chomps column (mark_of place) given)
  behind_reads some right (Ok (text, s)) read =
      let r = read k refl (empties_no_break front.empties) in
      let e : whole_of chomps text s ≡ block_value literal chomps r.lines r.t = value_is literal chomps place k r.lines
      r.t text s r.spells r.empty_is r.ended in
      subst (BodyReads literal block h noted)
      (sym (behind_block_is chomps column (mark_of place) text s
      ∙ ap (λ (w : List ℕ). ended_on column (mark_of place) w s.here (is_clear s.here) (unprintable w)) e))
      (found_column some right r.lines r.t s.here r.stands r.outside (is_clear s.here) refl
      (unprintable (block_value literal chomps r.lines r.t)) refl)
  behind_reads some right (Err f) read = strange f (read k refl (empties_no_break front.empties))

  content_reads_on : (clear met between : Bool) → is_clear place ≡ clear → (text_len place == 0) ≡ met
      → is_between block column place ≡ between
      → BodyReads literal block h noted (content_on literal chomps broken column (mark_of h) k place clear met between)
  content_reads_on false met between c m b = (before_content front no_line c, refl)
  content_reads_on true true between c m b =
      subst (λ (text : List ℕ). BodyReads literal block h noted
      (Ok (record { text = owned text; shown = mark_of h; indent = None }, place)))
      (sym (empty_is chomps broken k place))
      (record {
        header = header;
        broken = broken;
        column = column;
        k = k;
        place = place;
        front = front;
        body =
            without_content (nil_from_length place.unread.text (eqb-true (length place.unread.text) 0 m));
      })
  content_reads_on true false true c m b = (wrong_column front c m b, refl)
  content_reads_on true false false c m b = behind_reads m b (lines_from literal column (state_at place k None false))
      (lines_read literal column (state_at place k None false))

  pub content_reads : BodyReads literal block h noted
      (content_lines literal chomps broken block column (mark_of h) (line_feeds k) place)
  content_reads = subst (BodyReads literal block h noted)
      (sym (content_lines_is literal chomps broken block column (mark_of h) k place))
      (content_reads_on (is_clear place) (text_len place == 0) (is_between block column place) refl refl refl)

module _ (literal : Bool) (block : Option ℕ) (h : Here) (header : BlockHeader) (noted : Option CommentRead) (g i : Here)
    (heads : HeaderStands h header g) (tails : LexemeTail g noted i) where
  abbrev pub chomping : Chomping
  chomping = chomping_of header.chomping

  empties_read : (broken : Bool) (j : Here) → LineEnds i broken j → (next_char j == 0x09) ≡ false → (column : ℕ)
      → ContentColumn block header.digit j column → (given : Result (List ℕ × Here) Fault) → EmptyReads column j given
      → BodyReads literal block h noted (then_content literal chomping broken block column (mark_of h) given)
  empties_read broken j ends n column c (Ok (empty, place)) r =
      subst (λ (e : List ℕ). BodyReads literal block h noted
      (content_lines literal chomping broken block column (mark_of h) e place)) (sym r.1)
      (content_reads literal block h header noted broken column r.0 place
      (record {
        behind_header = g;
        behind_tail = i;
        first_line = j;
        heads = heads;
        tails = tails;
        ends = ends;
        no_tab = n;
        indented = c;
        empties = r.2;
      }))
  empties_read broken j ends n column c (Err f) r = absurd r

  columns_read : (broken : Bool) (j : Here) → LineEnds i broken j → (next_char j == 0x09) ≡ false
      → (given : Result ℕ Fault) → ColumnReads block header.digit j given
      → BodyReads literal block h noted (then_lines literal chomping broken block (mark_of h) j given)
  columns_read broken j ends n (Ok column) c = empties_read broken j ends n column c (empty_lines column j)
      (empty_reads column j)
  columns_read broken j ends n (Err f) c = absurd c

  lines_on_read : (broken : Bool) (j : Here) → LineEnds i broken j → (clear tab : Bool) → is_clear j ≡ clear
      → (next_char j == 0x09) ≡ tab → BodyReads literal block h noted
      (lines_on literal header broken block (mark_of h) j clear tab)
  lines_on_read broken j ends false tab c t = (first_character heads tails ends c, refl)
  lines_on_read broken j ends true true c t = (first_tab heads tails ends (eqb-true (next_char j) 0x09 t), refl)
  lines_on_read broken j ends true false c t = columns_read broken j ends t (content_column block header.digit j)
      (column_reads block header.digit j)

  block_lines_read : (broken : Bool) (j : Here) → LineEnds i broken j
      → BodyReads literal block h noted (block_lines literal header broken block (mark_of h) j)
  block_lines_read broken j ends = subst (BodyReads literal block h noted)
      (sym (block_lines_is literal header broken block (mark_of h) j))
      (lines_on_read broken j ends (is_clear j) (next_char j == 0x09) refl refl)

  body_on_read : (clear brk met : Bool) → is_clear i ≡ clear → is_break (next_char i) ≡ brk → (text_len i == 0) ≡ met
      → BodyReads literal block h noted (body_on literal header block (mark_of h) i clear brk met)
  body_on_read false brk met c b m = (behind_header heads tails c, refl)
  body_on_read true true met c b m = block_lines_read true (past_break i) (line_broken (breaks_of i b))
  body_on_read true false true c b m =
      block_lines_read false i (line_unbroken (nil_from_length i.unread.text (eqb-true (length i.unread.text) 0 m)))
  body_on_read true false false c b m = (other_content heads tails c m b, refl)

  pub body_reads : BodyReads literal block h noted (block_body literal header block (mark_of h) i)
  body_reads = subst (BodyReads literal block h noted) (sym (block_body_is literal header block (mark_of h) i))
      (body_on_read (is_clear i) (is_break (next_char i)) (text_len i == 0) refl refl refl)

abbrev pub BlockReads : Bool → Option ℕ → Here → Result (BlockGiven × Here) Fault → Type 0
BlockReads literal block h (Ok (given, after)) = AnswersBlock literal block h given after
BlockReads literal block h (Err f) = RefusesBlock literal block h f.kind f.mark × (f.sources ≡ [])

abbrev pub given_on : Option CommentRead → Result (BlockRead × Here) Fault → Result (BlockGiven × Here) Fault
given_on noted r = r >>= λ z. Ok (record { read = z.0; noted = noted }, z.1)

abbrev pub tail_then : Bool → Option ℕ → Here → BlockHeader → Result (Option CommentRead × Here) Fault
    → Result (BlockGiven × Here) Fault
tail_then literal block h header r = r >>= λ y. given_on y.0 (block_body literal header block (mark_of h) y.1)

given_reads : (literal : Bool) (block : Option ℕ) (h : Here) (noted : Option CommentRead)
    (r : Result (BlockRead × Here) Fault) → BodyReads literal block h noted r
    → BlockReads literal block h (given_on noted r)
given_reads literal block h noted (Ok (read, after)) p = p
given_reads literal block h noted (Err f) p = p

tail_wrong : (literal : Bool) (block : Option ℕ) (h g : Here) (header : BlockHeader) (f : Fault)
    → HeaderStands h header g → TailWrong g f.kind f.mark → RefusesBlock literal block h f.kind f.mark
tail_wrong literal block h g header f heads (touches y) = hash_touches heads y
tail_wrong literal block h g header f heads (spoils b blanks rest p s) = in_comment b blanks rest heads p s

tail_then_reads : (literal : Bool) (block : Option ℕ) (h g : Here) (header : BlockHeader) → HeaderStands h header g
    → (r : Result (Option CommentRead × Here) Fault) → TailReads g r
    → BlockReads literal block h (tail_then literal block h header r)
tail_then_reads literal block h g header heads (Ok (noted, i)) t = given_reads literal block h noted
    (block_body literal header block (mark_of h) i) (body_reads literal block h header noted g i heads t)
tail_then_reads literal block h g header heads (Err f) t = (tail_wrong literal block h g header f heads t.0, t.1)

zero_refused : (literal : Bool) (block : Option ℕ) (h : Here) → ZeroAt h
    → RefusesBlock literal block h ZeroBlockScalarIndent (mark_of h)
zero_refused literal block h z = zero_digit z.front z.no_digit z.is_zero

header_then_reads : (literal : Bool) (block : Option ℕ) (h : Here) (r : Result (BlockHeader × Here) Fault)
    → HeaderReads h r → BlockReads literal block h (r >>= λ x. tail_then literal block h x.0 (tail_at x.1))
header_then_reads literal block h (Ok (header, g)) heads = tail_then_reads literal block h g header heads (tail_at g)
    (tail_reads g)
header_then_reads literal block h (Err f) z = subst (λ (e : Fault). BlockReads literal block h (Err e)) (sym z.0)
    (zero_refused literal block h z.1, refl)

pub block_reads : (literal : Bool) (block : Option ℕ) (h : Here)
    → BlockReads literal block h (block_scalar literal block h)
unfolding block_scalar
block_reads literal block h = header_then_reads literal block h (block_header h) (header_reads h)

-- an answer is what stands there
pub block_standing : (literal : Bool) (block : Option ℕ) (h : Here) (given : BlockGiven) (after : Here)
    → block_scalar literal block h ≡ Ok (given, after) → AnswersBlock literal block h given after
block_standing literal block h given after e = subst (BlockReads literal block h) e (block_reads literal block h)

-- a refusal has its cause
pub block_refused : (literal : Bool) (block : Option ℕ) (h : Here) (f : Fault) → block_scalar literal block h ≡ Err f
    → RefusesBlock literal block h f.kind f.mark × (f.sources ≡ [])
block_refused literal block h f e = subst (BlockReads literal block h) e (block_reads literal block h)

-- ---- what stands there is read

pub space_printable : (c : ℕ) → is_space c ≡ true → is_printable c ≡ true
unfolding is_printable is_break
space_printable c y = grind (arith, nat_tests)

pub spaces_clear : {column : ℕ} {h after : Here} → Spaces column h after → is_clear after ≡ true → is_clear h ≡ true
spaces_clear (at_column p) c = c
spaces_clear (no_space_left n) c = c
spaces_clear {h = h} (space_left p y more) c = printable_clear h (space_printable (next_char h) y)

pub empties_clear : {column : ℕ} {h after : Here} {k : ℕ} → Empties column h after k → is_clear after ≡ true
    → is_clear h ≡ true
empties_clear (no_empty_line s n) c = spaces_clear s c
empties_clear (empty_line {g = g} {i = i} s b more) c = spaces_clear s (break_clear g (breaks_first g i b))

pub lines_clear : {column k : ℕ} {h after : Here} {lines : List BlockLine} {t : ℕ}
    → ContentLines column k h after lines t → is_clear after ≡ true → is_clear h ≡ true
lines_clear no_line c = c
lines_clear {h = h} (more_lines l b ls) c = printable_clear h l.printable

body_clear : {literal : Bool} {chomping : Chomping} {broken : Bool} {block : Option ℕ} {column k : ℕ} {start : Mark}
    {place : Here} {read : BlockRead} {after : Here}
    → BlockBody literal chomping broken block column k start place read after → is_clear place ≡ true
body_clear {place = place} (without_content e) = end_clear place e
body_clear (with_content lines t after some right ls out c u) = lines_clear ls c

content_is : (literal : Bool) (chomping : Chomping) (broken : Bool) (block : Option ℕ) (column k : ℕ) (start : Mark)
    {place : Here} {read : BlockRead} {after : Here}
    → BlockBody literal chomping broken block column k start place read after
    → content_on literal chomping broken column start k place true (text_len place == 0) (is_between block column place)
    ≡ Ok (read, after)
content_is literal chomping broken block column k start {place} (without_content e) =
    ap (λ (met : Bool). content_on literal chomping broken column start k place true met
    (is_between block column place)) (ap (λ (l : List ℕ). length l == 0) e)
    ∙ ap (λ (text : List ℕ). Ok (record { text = owned text; shown = start; indent = None }, place))
    (empty_is chomping broken k place)
content_is literal chomping broken block column k start {place} (with_content lines t after some right ls out c u) =
    let r = lines_run literal ls out c None false in
    let w : whole_of chomping (content_text literal None lines) r.last
    ≡ block_value literal chomping lines t = value_is literal chomping place k lines t
    (content_text literal None lines) r.last refl r.empty_is r.ended in
    ap₂ (content_on literal chomping broken column start k place true) some right
    ∙ ap (then_behind chomping column (mark_of place)) r.gives
    ∙ behind_block_is chomping column (mark_of place) (content_text literal None lines) r.last
    ∙ ap₂ (λ (x : List ℕ) (g : Here). ended_on column (mark_of place) x g (is_clear g) (unprintable x)) w r.here
    ∙ ap₂ (ended_on column (mark_of place) (block_value literal chomping lines t) after) c u

content_lines_are : (literal : Bool) (chomping : Chomping) (broken : Bool) (block : Option ℕ) (column k : ℕ)
    (start : Mark) {place : Here} {read : BlockRead} {after : Here}
    → BlockBody literal chomping broken block column k start place read after
    → content_lines literal chomping broken block column start (line_feeds k) place ≡ Ok (read, after)
content_lines_are literal chomping broken block column k start {place} b =
    content_lines_is literal chomping broken block column start k place
    ∙ ap (λ (v : Bool). content_on literal chomping broken column start k place v (text_len place == 0)
    (is_between block column place)) (body_clear b)
    ∙ content_is literal chomping broken block column k start b

lines_are : (literal : Bool) (block : Option ℕ) (h : Here) {header : BlockHeader} {noted : Option CommentRead}
    {broken : Bool} {column k : ℕ} {place : Here} {read : BlockRead} {after : Here}
    (p : BlockFront block h header noted broken column k place)
    → BlockBody literal (chomping_of header.chomping) broken block column k (mark_of h) place read after
    → block_lines literal header broken block (mark_of h) p.first_line ≡ Ok (read, after)
lines_are literal block h {header} {noted} {broken} {column} {k} {place} p b =
    let chomping = chomping_of header.chomping in
    let j = p.first_line in
    block_lines_is literal header broken block (mark_of h) j
    ∙ ap₂ (lines_on literal header broken block (mark_of h) j) (empties_clear p.empties (body_clear b)) p.no_tab
    ∙ ap (then_lines literal chomping broken block (mark_of h) j) (column_is p.indented)
    ∙ ap (then_content literal chomping broken block column (mark_of h)) (empties_are p.empties)
    ∙ content_lines_are literal chomping broken block column k (mark_of h) b

pub body_by : (literal : Bool) (header : BlockHeader) (block : Option ℕ) (start : Mark) {i j : Here} {broken : Bool}
    → LineEnds i broken j → block_body literal header block start i ≡ block_lines literal header broken block start j
body_by literal header block start {i} {j} (line_broken b) =
    let y = breaks_first i j b in
    block_body_is literal header block start i
    ∙ ap₂ (λ (v w : Bool). body_on literal header block start i v w (text_len i == 0)) (break_clear i y) y
    ∙ ap (block_lines literal header true block start) (breaks_is i j b)
body_by literal header block start {i} (line_unbroken e) =
    block_body_is literal header block start i
    ∙ ap₂ (λ (v w : Bool). body_on literal header block start i v w (text_len i == 0)) (end_clear i e)
    (end_no_break i e)
    ∙ ap (body_on literal header block start i true false) (ap (λ (l : List ℕ). length l == 0) e)

-- a scalar that nothing refuses is answered
pub block_is_answered : (literal : Bool) (block : Option ℕ) (h : Here) (given : BlockGiven) (after : Here)
    → AnswersBlock literal block h given after → block_scalar literal block h ≡ Ok (given, after)
unfolding block_scalar
block_is_answered literal block h given after p =
    let f = p.front in
    ap (λ (r : Result (BlockHeader × Here) Fault). r >>= λ x. tail_then literal block h x.0 (tail_at x.1))
    (header_is h p.header f.behind_header f.heads)
    ∙ ap (tail_then literal block h p.header) (tail_is f.behind_header given.noted f.behind_tail f.tails)
    ∙ ap (given_on given.noted) (body_by literal p.header block (mark_of h) f.ends ∙ lines_are literal block h f p.body)

abbrev answer : BlockGiven → Here → Result (BlockGiven × Here) Fault
answer given after = Ok (given, after)

abbrev both : BlockGiven → Here → BlockGiven × Here
both given after = (given, after)

same_answer : (given other : BlockGiven) (after further : Here) → answer given after ≡ answer other further
    → (given ≡ other) × (after ≡ further)
same_answer given other after further e =
    let p : both given after ≡ both other further = cc in
    (ap (λ (x : BlockGiven × Here). x.0) p, ap (λ (x : BlockGiven × Here). x.1) p)

-- one scalar stands there
pub one_block : (literal : Bool) (block : Option ℕ) (h : Here) (given other : BlockGiven) (after further : Here)
    → AnswersBlock literal block h given after → AnswersBlock literal block h other further
    → (given ≡ other) × (after ≡ further)
one_block literal block h given other after further p q =
    same_answer given other after further (sym (block_is_answered literal block h given after p)
    ∙ block_is_answered literal block h other further q)
