-- What stands before content of a quoted scalar, or before its closing quote, is read.
use Rattle.std.proofs.Common.{◌≡◌, ℕ, suc, ◌+◌, ◌==◌, Bool, true, false, ◌&&◌, List, [], ◌∷◌, ◌++◌, Some, Ok, refl, sym}
use Rattle.std.proofs.Common.{ap, ap₂, ◌∙◌, subst, arith, append_assoc, append-nil, add-zero}
use Rattle.std.specs.Prelude.{slice_index, if◌then◌else◌}
use Rattle.std.proofs.lemmas.Bool.{and_left}
use Rattle.granit_base.specs.Classes.{is_blank, is_break}
use Rattle.granit_base.specs.Place.{Mark, first}
use Rattle.granit_lexemes.proofs.CharTests.{blank_apart_from_break, no_blank_break}
use Rattle.granit_lexemes.proofs.HereLemmas.{stepped_text}
use Rattle.granit_lexemes.specs.Gap.{Each}
use Rattle.granit_lexemes.specs.Here.{Here, next_char, step}
use Rattle.granit_lexemes.specs.LayoutData.{LayoutData}
use Rattle.granit_lexemes.specs.PlainExtent.{over}
use Rattle.granit_lexemes.specs.Basics.{past_break}
use Rattle.granit_lexemes.specs.QuotedExtent.{OneBreak, line_feed, pair, carriage_return, NewLine, no_more, blank}
use Rattle.granit_lexemes.specs.QuotedExtent.{break, Between, Lines, Separates, on_line, folded}
use Rattle.granit_lexemes.specs.QuotedScalar.{QuotedState, is_tab_left, quoted_at, over_blank, over_break}
use Rattle.granit_lexemes.specs.QuotedScalar.{quoted_turn, quoted_len, quoted_rest}
use Rattle.granit_lexemes.proofs.PieceLemmas.{with_front-nil, pieces_more}
use Rattle.granit_scalars.proofs.PlainKept.{one_more}
use Rattle.granit_scalars.proofs.QuotedEscapes.{over_text}
use Rattle.granit_quoted_laws.proofs.QuotedKept.{StateIs, is_line_blank, is_indent_blank, is_first_break}
use Rattle.granit_quoted_laws.proofs.QuotedKept.{is_further_break}
use Rattle.granit_scalars.proofs.QuotedTurns.{tab_meets, tests_at, turn_on_tests, turn_is}
use Rattle.granit_scalars.proofs.QuotedTurns.{quoted_shortens}
use Rattle.granit_scalars.proofs.Stepping.{over-append, seen_as}
pub use Rattle.granit_scalars.proofs.Stepping.{broken, column_on}

-- ---- a turn over a blank, and over a break

blank_turn : (single : Bool) (at : LayoutData) (start : Mark) (s : QuotedState) → is_blank (next_char s.here) ≡ true
    → tab_meets at s ≡ false → quoted_turn single at start s ≡ Ok (Some [], over_blank s)
blank_turn single at start s y n =
    turn_is single at start s
    ∙ ap₂ (λ a t. turn_on_tests single start s (record (tests_at single at s) { blank = a; tab = t })) y n

break_turn : (single : Bool) (at : LayoutData) (start : Mark) (s : QuotedState) → is_break (next_char s.here) ≡ true
    → quoted_turn single at start s ≡ Ok (Some [], over_break s)
break_turn single at start s y =
    turn_is single at start s
    ∙ ap₂ (λ a b. turn_on_tests single start s (record (tests_at single at s) { blank = a; line_break = b }))
    (no_blank_break (next_char s.here) y) y

onward : (single : Bool) (at : LayoutData) (start : Mark) (s after last : QuotedState)
    → quoted_turn single at start s ≡ Ok (Some [], after) → after ≡ last
    → quoted_rest single at start s ≡ quoted_rest single at start last
onward single at start s after last e f =
    pieces_more quoted_len (quoted_turn single at start) (quoted_shortens single at start) s after [] e
    ∙ with_front-nil (quoted_rest single at start after) ∙ ap (quoted_rest single at start) f

-- ---- over blanks and breaks

-- where reading stands behind so much
pub record RunsTo (single : Bool) (at : LayoutData) (start : Mark) (s : QuotedState) (gap : List ℕ)
    (x : Between) : Type 0 where
  pub after : QuotedState
  pub same : quoted_rest single at start s ≡ quoted_rest single at start after
  pub here : after.here ≡ over gap s.here
  pub state : StateIs x after
  pub escaped : after.escaped ≡ s.escaped

pub break_first : {brk behind : List ℕ} → OneBreak brk behind → is_break (first (brk ++ behind)) ≡ true
unfolding is_break
break_first line_feed = refl
break_first pair = refl
break_first (carriage_return n) = refl

past_cr_if : (h : Here) (b : Bool) → (next_char h == 0x0D && slice_index h.unread.text 1 == 0x0A) ≡ b
    → past_break h ≡ (if b then step (step h) else step h)
unfolding past_break
past_cr_if h true e = rw e refl
past_cr_if h false e = rw e refl

pub past_one : {brk behind : List ℕ} → OneBreak brk behind → (h : Here) → h.unread.text ≡ brk ++ behind
    → past_break h ≡ over brk h
past_one line_feed h e = past_cr_if h false (ap (λ (t : List ℕ). first t == 0x0D && slice_index t 1 == 0x0A) e)
past_one pair h e = past_cr_if h true (ap (λ (t : List ℕ). first t == 0x0D && slice_index t 1 == 0x0A) e)
past_one (carriage_return n) h e =
    past_cr_if h false (ap (λ (t : List ℕ). first t == 0x0D && slice_index t 1 == 0x0A) e ∙ n)

tab_none : (line : Bool) (c b column n : ℕ) (at : LayoutData) → line ≡ true → c ≡ b → column ≡ n
    → (b == 0x09 && is_tab_left at n) ≡ false → (line && (c == 0x09 && is_tab_left at column)) ≡ false
tab_none line c b column n at p q r e = rw (p, q, r) e

newline_runs : (single : Bool) (at : LayoutData) (start : Mark) {column empty last : ℕ} {text behind : List ℕ}
    → NewLine at column text behind empty last → (s : QuotedState) (k : ℕ) → StateIs (Lines k column) s
    → s.here.unread.text ≡ text ++ behind
    → RunsTo single at start s text (Lines (k + empty) last)
newline_runs single at start {column} no_more s k i e =
    record {
      after = s;
      same = refl;
      here = refl;
      state = subst (λ m. StateIs (Lines m column) s)
          (sym (add-zero k)) i;
      escaped = refl;
    }
newline_runs single at start {column} (blank {text = text} {behind = behind} b y z more) s k i e =
    let there = seen_as s.here b (text ++ behind) e in
    let next : next_char s.here ≡ b = ap first e in
    let is_one : is_blank (next_char s.here) ≡ true = ap is_blank next ∙ y in
    let after = record s { here = step s.here } in
    let moved : (step s.here).place.column ≡ suc column = column_on s.here there
    (blank_apart_from_break (next_char s.here) is_one) ∙ ap (λ n. n + 1) i.2 ∙ omega arith in
    let r = newline_runs single at start more after k (i.0, i.1, moved) (stepped_text s.here b (text ++ behind) e) in
    record {
      after = r.after;
      same = onward single at start s (over_blank s) after
          (blank_turn single at start s is_one (tab_none s.on_new_line
          (next_char s.here) b s.here.place.column column at i.1 next i.2 z)) (is_indent_blank s i.1) ∙ r.same;
      here = r.here;
      state = r.state;
      escaped = r.escaped;
    }
newline_runs single at start {last = last} (break {text = text} {behind = behind} {empty = empty} brk one more)
    s k i e =
    let whole : s.here.unread.text ≡ brk ++ (text ++ behind) = e ∙ append_assoc brk text behind in
    let is_one : is_break (next_char s.here) ≡ true = ap (λ (t : List ℕ). is_break (first t)) whole ∙ break_first one in
    let after = record s { here = past_break s.here; pending = s.pending ++ 0x0A ∷ [] } in
    let lands = past_one one s.here whole in
    let r = newline_runs single at start more after (suc k) (
      ap (λ (t : List ℕ). t ++ 0x0A ∷ []) i.0
          ∙ one_more k 0x0A,
      i.1,
      (broken s.here is_one).column,
    ) (ap (λ (g : Here). g.unread.text) lands
    ∙ over_text brk (text ++ behind) s.here whole) in
    record {
      after = r.after;
      same = onward single at start s (over_break s) after (break_turn single at start s is_one)
          (is_further_break s i.1) ∙ r.same;
      here = r.here ∙ ap (over text) lands ∙ sym (over-append brk text s.here);
      state = subst (λ m. StateIs (Lines m last) r.after) (omega arith) r.state;
      escaped = r.escaped;
    }

record RunsOver (single : Bool) (at : LayoutData) (start : Mark) (s : QuotedState) (blanks : List ℕ) : Type 0 where
  after : QuotedState
  same : quoted_rest single at start s ≡ quoted_rest single at start after
  here : after.here ≡ over blanks s.here
  pending : after.pending ≡ s.pending ++ blanks
  line : after.on_new_line ≡ false
  escaped : after.escaped ≡ s.escaped

line_runs : (single : Bool) (at : LayoutData) (start : Mark) (blanks behind : List ℕ) (s : QuotedState)
    → Each is_blank blanks → s.on_new_line ≡ false → s.here.unread.text ≡ blanks ++ behind
    → RunsOver single at start s blanks
line_runs single at start [] behind s y n e =
    record { after = s; same = refl; here = refl; pending = sym (append-nil s.pending); line = n; escaped = refl }
line_runs single at start (b ∷ blanks) behind s y n e =
    let next : next_char s.here ≡ b = ap first e in
    let is_one : is_blank (next_char s.here) ≡ true = ap is_blank next ∙ y.0 in
    let after = record s { here = step s.here; pending = s.pending ++ next_char s.here ∷ [] } in
    let r = line_runs single at start blanks behind after y.1 n (stepped_text s.here b (blanks ++ behind) e) in
    record {
      after = r.after;
      same = onward single at start s (over_blank s) after
          (blank_turn single at start s is_one (and_left s.on_new_line (next_char s.here == 0x09
          && is_tab_left at s.here.place.column) n)) (is_line_blank s n) ∙ r.same;
      here = r.here;
      pending = r.pending ∙ append_assoc s.pending (next_char s.here ∷ []) blanks
          ∙ ap (λ c. s.pending ++ c ∷ blanks) next;
      line = r.line;
      escaped = r.escaped;
    }

gap_text : (blanks brk text behind : List ℕ) (h mid : Here) → mid ≡ over blanks h
    → h.unread.text ≡ (blanks ++ (brk ++ text)) ++ behind → mid.unread.text ≡ brk ++ (text ++ behind)
gap_text blanks brk text behind h mid e f =
    ap (λ (g : Here). g.unread.text) e ∙ over_text blanks ((brk ++ text) ++ behind) h (f
    ∙ append_assoc blanks (brk ++ text) behind) ∙ append_assoc brk text behind

text_on : (brk rest : List ℕ) (h mid : Here) → mid ≡ over brk h → h.unread.text ≡ brk ++ rest → mid.unread.text ≡ rest
text_on brk rest h mid e f = ap (λ (g : Here). g.unread.text) e ∙ over_text brk rest h f

gap_place : (blanks brk text : List ℕ) (h mid next last : Here) → mid ≡ over blanks h → next ≡ over brk mid
    → last ≡ over text next → last ≡ over (blanks ++ (brk ++ text)) h
gap_place blanks brk text h mid next last e f g =
    g ∙ ap (over text) (f ∙ ap (over brk) e) ∙ sym (over-append brk text (over blanks h))
    ∙ sym (over-append blanks (brk ++ text) h)

pub gap_runs : (single : Bool) (at : LayoutData) (start : Mark) (escaped : Bool)
    (h : Here) {gap behind : List ℕ} {x : Between} → Separates at gap behind x → h.unread.text ≡ gap ++ behind
    → RunsTo single at start (quoted_at escaped h) gap x
gap_runs single at start escaped h {behind = behind} (on_line {blanks = blanks} each) e =
    let r = line_runs single at start blanks behind (quoted_at escaped h) each refl e in
    record { after = r.after; same = r.same; here = r.here; state = (r.pending, r.line); escaped = r.escaped }
gap_runs single at start escaped h {behind = behind}
    (folded {text = text} {empty = empty} {column = column} blanks brk each one more) e =
    let r = line_runs single at start blanks ((brk ++ text) ++ behind) (quoted_at escaped h) each refl (e
    ∙ append_assoc blanks (brk ++ text) behind) in
    let s = r.after in
    let there : s.here.unread.text ≡ brk ++ (text ++ behind) = gap_text blanks brk text behind h s.here r.here e in
    let is_one : is_break (next_char s.here) ≡ true = ap (λ (t : List ℕ). is_break (first t)) there ∙ break_first one in
    let after : QuotedState = record s { here = past_break s.here; pending = []; on_new_line = true } in
    let lands = past_one one s.here there in
    let q = newline_runs single at start more after 0 (refl, refl, (broken s.here is_one).column)
    (text_on brk (text ++ behind) s.here (past_break s.here) lands there) in
    let turned : quoted_rest single at start s ≡ quoted_rest single at start after = onward single at start s
    (over_break s) after (break_turn single at start s is_one) (is_first_break s r.line) in
    record {
      after = q.after;
      same = r.same ∙ turned ∙ q.same;
      here = gap_place blanks brk text h s.here (past_break s.here) q.after.here r.here lands q.here;
      state = subst (λ m. StateIs (Lines m column) q.after) (omega arith) q.state;
      escaped = q.escaped ∙ r.escaped;
    }
