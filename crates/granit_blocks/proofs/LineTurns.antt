-- A turn of the plain function takes a line of content, and what stands behind it.
use Rattle.std.proofs.Common.{◌≡◌, ℕ, zero, suc, ◌<◌, ◌≤◌, ◌==◌, Bool, true, false, not, ◌&&◌, ◌||◌, List, [], ◌∷◌}
use Rattle.std.proofs.Common.{◌++◌, length, Option, Some, None, Result, Ok, Err, refl, sym, ap, ap₂, ◌∙◌, subst, arith}
use Rattle.std.specs.Prelude.{if◌then◌else◌}
use Rattle.std.proofs.lemmas.Bool.{cond-false, or_left, or_right, not-false, eqb-true}
use Rattle.std.proofs.lemmas.Bool.Decides.{nat_tests}
use Rattle.std.proofs.lemmas.List.{nil_from_length}
use Rattle.granit_base.specs.Classes.{is_blank, is_break, is_breakz, is_z, is_printable, is_non_breakz}
use Rattle.granit_base.specs.Place.{first}
use Rattle.granit_error.specs.FaultKind.{UnexpectedCharacter}
use Rattle.granit_lexemes.proofs.CharTests.{break_prints}
use Rattle.granit_lexemes.specs.Here.{Here, text_len, next_char, mark_of, mid_line, past}
use Rattle.granit_lexemes.specs.Outcome.{Fault, fault_at, ◌>>=◌}
use Rattle.granit_lexemes.specs.Pieces.{Shortens}
use Rattle.granit_lexemes.specs.Basics.{fails_at, past_break, is_document_mark, text_up_to}
use Rattle.granit_lexemes.proofs.HereLemmas.{not_empty}
use Rattle.granit_quoted_laws.proofs.QuotedLaw.{seen}
use Rattle.granit_quoted_laws.proofs.QuotedKept.{is_break_nul}
use Rattle.granit_lexemes.specs.BlockScalar.{BlockState, between_lines, empty_lines, line_up_to}
use Rattle.granit_lexemes.specs.BlockScalar.{block_turn, block_len}
use Rattle.granit_lexemes.specs.BlockMoves.{Crosses, Breaks}
use Rattle.granit_lexemes.specs.BlockValue.{line_feeds, line_gap, begins_blank}
use Rattle.granit_lexemes.specs.LinesExtent.{Empties, no_empty_line, empty_line, IsLine, BehindLine, by_break, by_end}
use Rattle.granit_lexemes.specs.LinesExtent.{is_outside_block, is_clear}
use Rattle.granit_blocks.proofs.Moving.{Past, past_reads, past_is, text_of, crosses_len, breaks_of, breaks_is}
use Rattle.granit_blocks.proofs.Moving.{breaks_first, break_shorter, spaces_len}
use Rattle.granit_blocks.proofs.Leading.{EmptyReads, empty_reads, empties_are}

pub no_block_nul : is_non_breakz 0 ≡ false
unfolding is_breakz is_break is_z
no_block_nul = refl

-- ---- facts of texts

pub some_text : (t : List ℕ) → (c : ℕ) (ds : List ℕ) → t ≡ c ∷ ds → (length t == 0) ≡ false
some_text t c ds e = ap (λ (l : List ℕ). length l == 0) e ∙ not_empty c ds

pub has_text : (test : ℕ → Bool) → test 0 ≡ false → (h : Here) → test (next_char h) ≡ true → (text_len h == 0) ≡ false
has_text test nul h y = let s = seen test h nul y in some_text h.unread.text (next_char h) _ s.is

pub end_no_break : (h : Here) → h.unread.text ≡ [] → is_break (next_char h) ≡ false
end_no_break h e = ap (λ (l : List ℕ). is_break (first l)) e ∙ is_break_nul

pub printable_clear : (h : Here) → is_printable (next_char h) ≡ true → is_clear h ≡ true
printable_clear h y = or_right (text_len h == 0) (is_printable (next_char h)) y

pub break_clear : (h : Here) → is_break (next_char h) ≡ true → is_clear h ≡ true
break_clear h y = printable_clear h (break_prints (next_char h) y)

pub end_clear : (h : Here) → h.unread.text ≡ [] → is_clear h ≡ true
end_clear h e = ap (λ (l : List ℕ). length l == 0 || is_printable (first l)) e

pub has_break : (h : Here) → is_break (next_char h) ≡ true → (text_len h == 0) ≡ false
has_break h y = has_text is_break is_break_nul h y

pub empties_no_break : {column : ℕ} {h after : Here} {k : ℕ} → Empties column h after k
    → is_break (next_char after) ≡ false
empties_no_break (no_empty_line s n) = n
empties_no_break (empty_line s b more) = empties_no_break more

empties_len : {column : ℕ} {h after : Here} {k : ℕ} → Empties column h after k → text_len after ≤ text_len h
empties_len (no_empty_line s n) = spaces_len s
empties_len (empty_line {h = h} {g = g} {i = i} {after = after} s b more) =
    let a = spaces_len s in
    let c = empties_len more in
    let d : text_len i < text_len g = subst (λ (j : Here). text_len j < text_len g) (breaks_is g i b)
    (break_shorter g (breaks_first g i b)) in
    omega arith

pub behind_no_break : {column : ℕ} {h after : Here} {k : ℕ} → BehindLine column h after k
    → is_break (next_char after) ≡ false
behind_no_break (by_break b e) = empties_no_break e
behind_no_break {h = h} (by_end e) = end_no_break h e

behind_len : {column : ℕ} {h after : Here} {k : ℕ} → BehindLine column h after k → text_len after ≤ text_len h
behind_len {h = h} (by_break {i = i} b e) =
    let d : text_len i < text_len h = subst (λ (j : Here). text_len j < text_len h) (breaks_is h i b)
    (break_shorter h (breaks_first h i b)) in
    let c = empties_len e in
    omega arith
behind_len (by_end e) = omega arith

-- a line that goes somewhere takes a character, or its break is one
line_less : {column : ℕ} (h : Here) {g after : Here} {k : ℕ} → (text_len h == 0) ≡ false → text_len g ≤ text_len h
    → BehindLine column g after k → text_len after < text_len h
line_less h {g = g} n le (by_break {i = i} b e) =
    let d : text_len i < text_len g = subst (λ (j : Here). text_len j < text_len g) (breaks_is g i b)
    (break_shorter g (breaks_first g i b)) in
    let c = empties_len e in
    omega arith
line_less h {g = g} n le (by_end e) = let z : text_len g
    ≡ 0 = ap (λ (l : List ℕ). length l) e in grind (arith, nat_tests)

first_of_line : (cs : List ℕ) (h after : Here) → Crosses h cs after → is_non_breakz (next_char h) ≡ true
    → is_non_breakz (next_char after) ≡ false → first cs ≡ next_char h
first_of_line [] h after s y n = absurd (let e : is_non_breakz (next_char h)
    ≡ is_non_breakz (next_char after) = ap (λ (l : List ℕ). is_non_breakz (first l)) s.text in cc)
first_of_line (c ∷ cs) h after s y n = sym (ap first s.text)

-- a line begins with the character that stands there
pub line_first : {column : ℕ} {h : Here} {cs : List ℕ} {after : Here} → IsLine column h cs after
    → first cs ≡ next_char h
line_first {h = h} {cs = cs} {after = after} l = first_of_line cs h after l.spans l.begins l.ends

-- ---- a turn

abbrev pub state_at : Here → ℕ → Option Bool → Bool → BlockState
state_at h k before broken = record { here = h; empty = line_feeds k; before = before; broken = broken }

pub data BlockTurned (literal : Bool) (column : ℕ) (s : BlockState) : Result (Option (List ℕ) × BlockState) Fault
    → Type 0 where
  stops : is_outside_block column s.here ≡ true → BlockTurned literal column s (Ok (None, s))
  at_strange : is_clear s.here ≡ false → BlockTurned literal column s
      (Err (fault_at (UnexpectedCharacter (next_char s.here)) (mark_of s.here)))
  in_strange : (cs : List ℕ) (g : Here) → (is_break (next_char s.here) ≡ false → IsLine column s.here cs g)
      → is_clear g ≡ false → BlockTurned literal column s
      (Err (fault_at (UnexpectedCharacter (next_char g)) (mark_of g)))
  takes_line : (cs : List ℕ) (g j : Here) (n : ℕ) (broken : Bool) → (text_len s.here == 0) ≡ false
      → text_len g ≤ text_len s.here → (is_break (next_char s.here) ≡ false → IsLine column s.here cs g)
      → BehindLine column (mid_line g) j n → (broken || text_len j == 0) ≡ true
      → BlockTurned literal column s (Ok (
        Some
            (between_lines literal s.before (is_blank (next_char s.here)) s.empty ++ cs),
        state_at j n
            (Some (is_blank (next_char s.here))) broken,
      ))

both_clear : (a b : Bool) → a ≡ false → (a || b) ≡ true → b ≡ true
both_clear true b n y = absurd cc
both_clear false b n y = y

pub either_no : (a b : Bool) → (a || b) ≡ false → (a ≡ false) × (b ≡ false)
either_no true b e = absurd cc
either_no false b e = (refl, e)

line_char : (c : ℕ) → is_printable c ≡ true → is_break c ≡ false → is_non_breakz c ≡ true
unfolding is_breakz is_break is_z is_printable
line_char c p n = grind (arith, nat_tests)

-- a clear end of a line is a break
line_ends : (h : Here) → is_non_breakz (next_char h) ≡ false → (text_len h == 0) ≡ false → is_clear h ≡ true
    → is_break (next_char h) ≡ true
unfolding is_breakz is_break is_z is_printable
line_ends h n m y = let p = both_clear (text_len h == 0) (is_printable (next_char h)) m y in grind (arith, nat_tests)

abbrev pub piece_of : Bool → BlockState → List ℕ → List ℕ
piece_of literal s cs = between_lines literal s.before (is_blank (next_char s.here)) s.empty ++ cs

abbrev pub after_break : Bool → BlockState → List ℕ → Result (List ℕ × Here) Fault
    → Result (Option (List ℕ) × BlockState) Fault
after_break literal s cs given = given >>= λ x. Ok (
  Some (piece_of literal s cs),
  record {
    here = x.1;
    empty = x.0;
    before = Some (is_blank (next_char s.here));
    broken = true;
  },
)

abbrev pub line_on : Bool → ℕ → BlockState → List ℕ → Here → (met clear : Bool)
    → Result (Option (List ℕ) × BlockState) Fault
line_on literal column s cs g met clear =
    if met then Ok (
      Some (piece_of literal s cs),
      record { here = g; empty = []; before = Some (is_blank (next_char s.here)); broken = false },
    )
    else (if clear then after_break literal s cs (empty_lines column (past_break g)) else fails_at
    (UnexpectedCharacter (next_char g)) (mark_of g))

pub line_up_to_is : (literal : Bool) (column : ℕ) (s : BlockState) (g : Here)
    → line_up_to literal column s g ≡ line_on literal column s (text_up_to s.here g) g (text_len g == 0) (is_clear g)
unfolding line_up_to
line_up_to_is literal column s g = refl

abbrev pub turn_on : Bool → ℕ → BlockState → (out clear mark : Bool) → Result (Option (List ℕ) × BlockState) Fault
turn_on literal column s out clear mark =
    if out then Ok (None, s)
    else (if clear then (if mark then Ok (None, s) else line_up_to literal column s
    (mid_line (past is_non_breakz s.here))) else fails_at (UnexpectedCharacter (next_char s.here)) (mark_of s.here))

abbrev pub is_out : ℕ → Here → Bool
is_out column h = text_len h == 0 || not (h.place.column == column)

abbrev pub is_mark : ℕ → Here → Bool
is_mark column h = column == 0 && is_document_mark h.unread.text

pub block_turn_is : (literal : Bool) (column : ℕ) (s : BlockState)
    → block_turn literal column s ≡ turn_on literal column s (is_out column s.here) (is_clear s.here)
    (is_mark column s.here)
unfolding block_turn
block_turn_is literal column s = refl

-- ---- what a turn does

line_of : (column : ℕ) (s : BlockState) (g : Here) (p : Past is_non_breakz s.here g) → (text_len s.here == 0) ≡ false
    → (s.here.place.column == column) ≡ true → is_clear s.here ≡ true → is_mark column s.here ≡ false
    → is_break (next_char s.here) ≡ false → IsLine column s.here p.characters g
line_of column s g p n at c m b =
    let prints = both_clear (text_len s.here == 0) (is_printable (next_char s.here)) n c in
    record {
      spans = p.spans;
      each = p.each;
      ends = p.stops;
      begins = line_char (next_char s.here) prints b;
      printable = prints;
      is_at = grind (arith, nat_tests);
      no_mark = m;
    }

turned_break : (literal : Bool) (column : ℕ) (s : BlockState) (cs : List ℕ) (g : Here) → (text_len s.here == 0) ≡ false
    → text_len g ≤ text_len s.here → (is_break (next_char s.here) ≡ false → IsLine column s.here cs g)
    → Breaks (mid_line g) (past_break (mid_line g))
    → (given : Result (List ℕ × Here) Fault) → EmptyReads column (past_break (mid_line g)) given
    → BlockTurned literal column s (after_break literal s cs given)
turned_break literal column s cs g n le l b (Ok (empty, after)) r =
    subst (λ (e : List ℕ). BlockTurned literal column s
    (Ok (
      Some (piece_of literal s cs),
      record {
        here = after;
        empty = e;
        before = Some
            (is_blank (next_char s.here));
        broken = true;
      },
    ))) (sym r.1)
    (takes_line cs g after r.0 true n le l (by_break b r.2) refl)
turned_break literal column s cs g n le l b (Err f) r = absurd r

turned_line : (literal : Bool) (column : ℕ) (s : BlockState) (cs : List ℕ) (g : Here) → (text_len s.here == 0) ≡ false
    → text_len g ≤ text_len s.here → is_non_breakz (next_char g) ≡ false
    → (is_break (next_char s.here) ≡ false → IsLine column s.here cs g)
    → (met clear : Bool) → (text_len g == 0) ≡ met → is_clear g ≡ clear
    → BlockTurned literal column s (line_on literal column s cs (mid_line g) met clear)
turned_line literal column s cs g n le z l true clear e c = takes_line cs g (mid_line g) zero false n le l
    (by_end (nil_from_length g.unread.text (eqb-true (length g.unread.text) 0 e))) e
turned_line literal column s cs g n le z l false true e c = turned_break literal column s cs g n le l
    (breaks_of (mid_line g) (line_ends g z e c)) (empty_lines column (past_break (mid_line g)))
    (empty_reads column (past_break (mid_line g)))
turned_line literal column s cs g n le z l false false e c = in_strange cs g l c

turned_on : (literal : Bool) (column : ℕ) (s : BlockState) → (out clear mark : Bool) → is_out column s.here ≡ out
    → is_clear s.here ≡ clear → is_mark column s.here ≡ mark
    → BlockTurned literal column s (turn_on literal column s out clear mark)
turned_on literal column s true clear mark o c m = stops (or_left (is_out column s.here) (is_mark column s.here) o)
turned_on literal column s false false mark o c m = at_strange c
turned_on literal column s false true true o c m = stops (or_right (is_out column s.here) (is_mark column s.here) m)
turned_on literal column s false true false o c m =
    let g = past is_non_breakz s.here in
    let p = past_reads is_non_breakz no_block_nul s.here in
    let d = either_no (text_len s.here == 0) (not (s.here.place.column == column)) o in
    let at = not-false (s.here.place.column == column) d.1 in
    subst (BlockTurned literal column s) (sym
    (line_up_to_is literal column s (mid_line g)
    ∙ ap (λ (cs : List ℕ). line_on literal column s cs (mid_line g) (text_len g == 0) (is_clear g))
    (text_of s.here p.characters g p.spans)))
    (turned_line literal column s p.characters g d.0 (crosses_len s.here p.characters g p.spans) p.stops
    (line_of column s g p d.0 at c m) (text_len g == 0) (is_clear g) refl refl)

pub block_turned : (literal : Bool) (column : ℕ) (s : BlockState)
    → BlockTurned literal column s (block_turn literal column s)
block_turned literal column s = subst (BlockTurned literal column s) (sym (block_turn_is literal column s))
    (turned_on literal column s (is_out column s.here) (is_clear s.here) (is_mark column s.here) refl refl refl)

-- ---- each line leaves less

abbrev LineLess : ℕ → Result (Option (List ℕ) × BlockState) Fault → Type 0
LineLess n (Ok (Some piece, after)) = block_len after < n
LineLess n (Ok (None, after)) = Unit {0}
LineLess n (Err f) = Unit {0}

turned_less : {literal : Bool} {column : ℕ} {s : BlockState} (r : Result (Option (List ℕ) × BlockState) Fault)
    → BlockTurned literal column s r → LineLess (block_len s) r
turned_less r (stops o) = tt
turned_less r (at_strange c) = tt
turned_less r (in_strange cs g l c) = tt
turned_less {s = s} r (takes_line cs g j n broken m le l b e) = line_less s.here {g = mid_line g} m le b

pub block_shortens : (literal : Bool) (column : ℕ) → Shortens block_len (block_turn literal column)
block_shortens literal column s after piece e = subst (LineLess (block_len s)) e
    (turned_less (block_turn literal column s) (block_turned literal column s))

-- ---- a line that stands is taken

gap_is : (literal : Bool) (before : Option Bool) (blank : Bool) (k : ℕ)
    → between_lines literal before blank (line_feeds k) ≡ line_gap literal before blank k
gap_is literal None blank k = refl
gap_is true (Some before) blank k = refl
gap_is false (Some true) blank k = refl
gap_is false (Some false) true k = refl
gap_is false (Some false) false zero = refl
gap_is false (Some false) false (suc k) = cond-false (length (line_feeds (suc k)) == 0) _ _
    (not_empty 0x0A (line_feeds k))

pub between_is : (literal : Bool) (before : Option Bool) (blank : Bool) (empty : List ℕ) (k : ℕ) → empty ≡ line_feeds k
    → between_lines literal before blank empty ≡ line_gap literal before blank k
between_is literal before blank empty k e = ap (between_lines literal before blank) e ∙ gap_is literal before blank k

-- what stands behind a line is read
record Behind (literal : Bool) (column : ℕ) (s : BlockState) (cs : List ℕ) (g j : Here) (n : ℕ) : Type 0 where
  broken : Bool
  gives : line_on literal column s cs g (text_len g == 0) (is_clear g)
      ≡ Ok (Some (piece_of literal s cs), state_at j n (Some (is_blank (next_char s.here))) broken)
  ended : (broken || text_len j == 0) ≡ true

behind : (literal : Bool) (column : ℕ) (s : BlockState) (cs : List ℕ) {g j : Here} {n : ℕ} → BehindLine column g j n
    → Behind literal column s cs g j n
behind literal column s cs {g} {j} {n} (by_break {i = i} b e) =
    let y = breaks_first g i b in
    record {
      broken = true;
      gives = ap₂ (line_on literal column s cs g) (has_break g y) (break_clear g y)
          ∙ ap (after_break literal s cs) (ap (empty_lines column) (breaks_is g i b) ∙ empties_are e);
      ended = refl;
    }
behind literal column s cs {g} (by_end e) =
    let z : (text_len g == 0) ≡ true = ap (λ (l : List ℕ). length l == 0) e in
    record {
      broken = false;
      gives = ap (λ (met : Bool). line_on literal column s cs g met (is_clear g)) z;
      ended = z;
    }

pub record LineTaken (literal : Bool) (column k : ℕ) (h : Here) (before : Option Bool) (was : Bool) (cs : List ℕ)
    (j : Here) (n : ℕ) : Type 0 where
  pub broken : Bool
  pub gives : block_turn literal column (state_at h k before was)
      ≡ Ok (Some (line_gap literal before (begins_blank cs) k ++ cs), state_at j n (Some (begins_blank cs)) broken)
  pub ended : (broken || text_len j == 0) ≡ true

pub not_out : (column : ℕ) (h : Here) → (text_len h == 0) ≡ false → h.place.column ≡ column → is_out column h ≡ false
not_out column h n e = grind (arith, nat_tests)

pub line_taken : (literal : Bool) (column k : ℕ) (before : Option Bool) (was : Bool) {h : Here} {cs : List ℕ}
    {g j : Here} {n : ℕ} → IsLine column h cs g → BehindLine column (mid_line g) j n
    → LineTaken literal column k h before was cs j n
line_taken literal column k before was {h} {cs} {g} {j} {n} l b =
    let s = state_at h k before was in
    let r = behind literal column s cs b in
    let m = has_text is_non_breakz no_block_nul h l.begins in
    let blank : is_blank (next_char h) ≡ begins_blank cs = ap is_blank (sym (line_first l)) in
    record {
      broken = r.broken;
      gives = block_turn_is literal column s
          ∙ ap (λ (o : Bool). turn_on literal column s o (is_clear h) (is_mark column h)) (not_out column h m l.is_at)
          ∙ ap₂ (turn_on literal column s false) (printable_clear h l.printable) l.no_mark
          ∙ ap (λ (i : Here). line_up_to literal column s (mid_line i))
          (past_is is_non_breakz no_block_nul cs h g l.spans l.each l.ends)
          ∙ line_up_to_is literal column s (mid_line g)
          ∙ ap (λ (ds : List ℕ). line_on literal column s ds (mid_line g) (text_len g == 0) (is_clear g))
          (text_of h cs g l.spans)
          ∙ r.gives
          ∙ ap (λ (v : Bool). Ok (
            Some (between_lines literal before v (line_feeds k) ++ cs),
            state_at j n (Some v)
                r.broken,
          )) blank
          ∙ ap (λ (u : List ℕ). Ok (Some (u ++ cs), state_at j n (Some (begins_blank cs)) r.broken))
          (gap_is literal before (begins_blank cs) k);
      ended = r.ended;
    }

pub stopped : (literal : Bool) (column : ℕ) (s : BlockState) → is_outside_block column s.here ≡ true
    → is_clear s.here ≡ true → block_turn literal column s ≡ Ok (None, s)
stopped literal column s o c = block_turn_is literal column s
    ∙ ap (λ (b : Bool). turn_on literal column s (is_out column s.here) b (is_mark column s.here)) c
    ∙ stops_on (is_out column s.here) (is_mark column s.here) o
  where
    stops_on : (a b : Bool) → (a || b) ≡ true → turn_on literal column s a true b ≡ Ok (None, s)
    stops_on true b y = refl
    stops_on false true y = refl
    stops_on false false y = absurd cc
