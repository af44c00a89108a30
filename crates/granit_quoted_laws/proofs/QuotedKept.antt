-- What is kept while a quoted scalar is read: the blanks and breaks that were read since its last content.
use Rattle.std.proofs.Common.{◌≡◌, ℕ, zero, suc, ◌+◌, ◌==◌, Bool, true, false, cond, not, ◌&&◌, List, [], ◌∷◌, ◌++◌}
use Rattle.std.proofs.Common.{length, replicate, refl, sym, ap, ap₂, ◌∙◌, subst, arith, append_assoc, append-nil}
use Rattle.std.specs.Prelude.{slice_index, if◌then◌else◌}
use Rattle.std.proofs.lemmas.Bool.Decides.{nat_tests}
use Rattle.granit_base.specs.Classes.{is_blank, is_break}
use Rattle.granit_base.specs.Place.{first}
use Rattle.granit_lexemes.proofs.CharTests.{blank_apart_from_break, is_break_lf}
use Rattle.granit_lexemes.specs.Here.{Here, next_char, step}
use Rattle.granit_lexemes.specs.LayoutData.{LayoutData}
use Rattle.granit_lexemes.specs.PlainExtent.{over}
use Rattle.granit_lexemes.specs.Basics.{past_break}
use Rattle.granit_lexemes.specs.QuotedExtent.{OneBreak, line_feed, pair, carriage_return, NewLine, no_more, blank}
use Rattle.granit_lexemes.specs.QuotedExtent.{break, Between, Blanks, Lines, Separates, on_line, folded, lines_text}
use Rattle.granit_lexemes.specs.QuotedExtent.{between_text}
use Rattle.granit_lexemes.specs.QuotedScalar.{QuotedState, is_tab_left, between_quoted, quoted_at, over_blank}
use Rattle.granit_lexemes.specs.QuotedScalar.{over_break}
use Rattle.granit_lexemes.proofs.HereLemmas.{not_empty}
use Rattle.granit_scalars.proofs.PlainKept.{one_more_blank, over_one, text_one, one_more}
use Rattle.granit_scalars.proofs.PlainTurns.{seen_blank}
use Rattle.granit_scalars.proofs.QuotedTurns.{tab_meets}
use Rattle.granit_scalars.proofs.Stepping.{over-append, Seen, seen, column_on, broken, second_of}
pub use Rattle.granit_scalars.proofs.Stepping.{is_break_nul}

-- ---- one more blank, and one more break

newline_blank : {at : LayoutData} {column empty last : ℕ} {text : List ℕ} (b : ℕ) (t : List ℕ)
    → NewLine at column text (b ∷ t) empty last → is_blank b ≡ true → (b == 0x09 && is_tab_left at last) ≡ false
    → NewLine at column (text ++ b ∷ []) t empty (suc last)
newline_blank b t no_more y z = blank b y z no_more
newline_blank b t (blank c p q more) y z = blank c p q (newline_blank b t more y z)
newline_blank {at} {column} b t (break {text = text} {empty = empty} {last = last} brk one more) y z =
    subst (λ (s : List ℕ). NewLine at column s t (suc empty) (suc last)) (sym (append_assoc brk text (b ∷ [])))
    (break brk (subst (OneBreak brk) (sym (append_assoc text (b ∷ []) t)) one) (newline_blank b t more y z))

newline_break : {at : LayoutData} {column empty last : ℕ} {text behind : List ℕ} (brk t : List ℕ)
    → NewLine at column text behind empty last → behind ≡ brk ++ t → OneBreak brk t
    → NewLine at column (text ++ brk) t (suc empty) 0
newline_break {at} {column} brk t no_more e one = subst (λ (s : List ℕ). NewLine at column s t 1 0) (append-nil brk)
    (break brk one no_more)
newline_break brk t (blank c p q more) e one = blank c p q (newline_break brk t more e one)
newline_break {at} {column} brk t (break {text = text} {empty = empty} front first_one more) e one =
    subst (λ (s : List ℕ). NewLine at column s t (suc (suc empty)) 0) (sym (append_assoc front text brk))
    (break front (subst (OneBreak front) (ap (λ (s : List ℕ). text ++ s) e ∙ sym (append_assoc text brk t)) first_one)
    (newline_break brk t more e one))

separates_blank : {at : LayoutData} {text blanks : List ℕ} (b : ℕ) (t : List ℕ)
    → Separates at text (b ∷ t) (Blanks blanks) → is_blank b ≡ true
    → Separates at (text ++ b ∷ []) t (Blanks (blanks ++ b ∷ []))
separates_blank b t (on_line {blanks = blanks} each) y = on_line (one_more_blank blanks b each y)

separates_indent : {at : LayoutData} {text : List ℕ} {empty column : ℕ} (b : ℕ) (t : List ℕ)
    → Separates at text (b ∷ t) (Lines empty column) → is_blank b ≡ true → (b == 0x09 && is_tab_left at column) ≡ false
    → Separates at (text ++ b ∷ []) t (Lines empty (suc column))
separates_indent {at} {empty = empty} {column = column} b t (folded {text = text} blanks brk each one more) y z =
    subst (λ (s : List ℕ). Separates at s t (Lines empty (suc column)))
    (sym (append_assoc blanks (brk ++ text) (b ∷ [])
    ∙ ap (λ (l : List ℕ). blanks ++ l) (append_assoc brk text (b ∷ []))))
    (folded blanks brk each (subst (OneBreak brk) (sym (append_assoc text (b ∷ []) t)) one)
    (newline_blank b t more y z))

separates_first : {at : LayoutData} {text blanks : List ℕ} (brk t : List ℕ)
    → Separates at text (brk ++ t) (Blanks blanks) → OneBreak brk t → Separates at (text ++ brk) t (Lines 0 0)
separates_first {at} brk t (on_line {blanks = blanks} each) one =
    subst (λ (s : List ℕ). Separates at (blanks ++ s) t (Lines 0 0)) (append-nil brk)
    (folded blanks brk each one no_more)

separates_further : {at : LayoutData} {text : List ℕ} {empty column : ℕ} (brk t : List ℕ)
    → Separates at text (brk ++ t) (Lines empty column) → OneBreak brk t
    → Separates at (text ++ brk) t (Lines (suc empty) 0)
separates_further {at} {empty = empty} brk t (folded {text = text} blanks front each first_one more) one =
    subst (λ (s : List ℕ). Separates at s t (Lines (suc empty) 0))
    (sym (append_assoc blanks (front ++ text) brk ∙ ap (λ (l : List ℕ). blanks ++ l) (append_assoc front text brk)))
    (folded blanks front each (subst (OneBreak front) (sym (append_assoc text brk t)) first_one)
    (newline_break brk t more refl one))

-- ---- a break is taken whole

pub record OneBroken (h after : Here) : Type 0 where
  pub characters : List ℕ
  pub one : OneBreak characters after.unread.text
  pub text : h.unread.text ≡ characters ++ after.unread.text
  pub is : after ≡ over characters h

lf_or : (h : Here) → Seen h → is_break (next_char h) ≡ true
    → (next_char h == 0x0D && slice_index h.unread.text 1 == 0x0A) ≡ false → (b : Bool) → (next_char h == 0x0A) ≡ b
    → OneBroken h (step h)
unfolding is_break
lf_or h s y e true f =
    let lf : next_char h ≡ 0x0A = grind (arith, nat_tests) in
    record {
      characters = next_char h ∷ [];
      one = subst (λ c. OneBreak (c ∷ []) (step h).unread.text) (sym lf)
          line_feed;
      text = s.is;
      is = refl;
    }
lf_or h s y e false f =
    let cr : next_char h ≡ 0x0D = grind (arith, nat_tests) in
    let no : (slice_index h.unread.text 1 == 0x0A) ≡ false = grind (arith, nat_tests) in
    let behind : (first (step h).unread.text == 0x0A) ≡ false = ap (λ c. c == 0x0A) (sym (second_of h s)) ∙ no in
    record {
      characters = next_char h ∷ [];
      one = subst (λ c. OneBreak (c ∷ []) (step h).unread.text) (sym cr)
          (carriage_return behind);
      text = s.is;
      is = refl;
    }

one_broken_if : (h : Here) → Seen h → is_break (next_char h) ≡ true → (b : Bool)
    → (next_char h == 0x0D && slice_index h.unread.text 1 == 0x0A) ≡ b
    → OneBroken h (if b then step (step h) else step h)
one_broken_if h s y true e =
    let cr : next_char h ≡ 0x0D = grind (arith, nat_tests) in
    let second : slice_index h.unread.text 1 ≡ 0x0A = grind (arith, nat_tests) in
    let lf : next_char (step h) ≡ 0x0A = sym (second_of h s) ∙ second in
    let t = seen is_break (step h) is_break_nul (ap is_break lf ∙ is_break_lf) in
    record {
      characters = 0x0D ∷ 0x0A ∷ [];
      one = pair;
      text = s.is ∙ ap₂ (λ n (l : List ℕ). n ∷ l) cr t.is ∙ ap (λ n. 0x0D ∷ n ∷ (step (step h)).unread.text) lf;
      is = refl;
    }
one_broken_if h s y false e = lf_or h s y e (next_char h == 0x0A) refl

pub one_broken : (h : Here) → is_break (next_char h) ≡ true → OneBroken h (past_break h)
unfolding past_break
one_broken h y = one_broken_if h (seen is_break h is_break_nul y) y
    (next_char h == 0x0D && slice_index h.unread.text 1 == 0x0A) refl

-- ---- what is kept

-- what the state knows of it
abbrev pub StateIs : Between → QuotedState → Type 0
StateIs (Blanks blanks) s = (s.pending ≡ blanks) × (s.on_new_line ≡ false)
StateIs (Lines empty column) s = (s.pending ≡ replicate empty 0x0A) × (s.on_new_line ≡ true)
    × (s.here.place.column ≡ column)

-- behind content that ends here, this was read
pub record QuotedStays (at : LayoutData) (gap : List ℕ) (x : Between) (behind : Here) (s : QuotedState) : Type 0 where
  pub here : s.here ≡ over gap behind
  pub text : behind.unread.text ≡ gap ++ s.here.unread.text
  pub separated : Separates at gap s.here.unread.text x
  pub state : StateIs x s

pub quoted_fresh : (at : LayoutData) (escaped : Bool) (h : Here) → QuotedStays at [] (Blanks []) h (quoted_at escaped h)
quoted_fresh at escaped h = record { here = refl; text = refl; separated = on_line tt; state = (refl, refl) }

-- what stands for it is what the state has gathered
between_lines : (escaped : Bool) (k : ℕ) → cond {A = List ℕ}
    ((true && not escaped) && length {A = ℕ} (replicate k 0x0A) == 0) (0x20 ∷ []) (replicate k 0x0A)
    ≡ lines_text escaped k
between_lines true k = refl
between_lines false zero = refl
between_lines false (suc k) = ap (λ b. cond {A = List ℕ} b (0x20 ∷ []) (replicate (suc k) 0x0A))
    (not_empty 0x0A (replicate k 0x0A))

pub between_is : (x : Between) (s : QuotedState) → StateIs x s → between_quoted s ≡ between_text s.escaped x
between_is (Blanks blanks) s k = ap (λ b. cond ((b && not s.escaped) && length s.pending == 0) (0x20 ∷ []) s.pending)
    k.1 ∙ k.0
between_is (Lines empty column) s k = ap₂ (λ b (t : List ℕ). cond ((b && not s.escaped) && length t == 0) (0x20 ∷ []) t)
    k.1 k.0 ∙ between_lines s.escaped empty

-- ---- a blank on

-- what was read after one more blank, or after one more break
pub record QuotedGoes (at : LayoutData) (behind : Here) (escaped : Bool) (after : QuotedState) : Type 0 where
  pub gap : List ℕ
  pub x : Between
  pub stays : QuotedStays at gap x behind after
  pub escaped_is : after.escaped ≡ escaped

abbrev on_line_blank : QuotedState → QuotedState
on_line_blank s = record s { here = step s.here; pending = s.pending ++ next_char s.here ∷ [] }

abbrev on_indent_blank : QuotedState → QuotedState
on_indent_blank s = record s { here = step s.here }

pub is_line_blank : (s : QuotedState) → s.on_new_line ≡ false → over_blank s ≡ on_line_blank s
unfolding over_blank
is_line_blank s e = rw e refl

pub is_indent_blank : (s : QuotedState) → s.on_new_line ≡ true → over_blank s ≡ on_indent_blank s
unfolding over_blank
is_indent_blank s e = rw e refl

pub quoted_blank : (at : LayoutData) (gap : List ℕ) (x : Between) (behind : Here) (s : QuotedState)
    → is_blank (next_char s.here) ≡ true → tab_meets at s ≡ false → QuotedStays at gap x behind s
    → QuotedGoes at behind s.escaped (over_blank s)
quoted_blank at gap (Blanks blanks) behind s y z h =
    let c = next_char s.here in
    let there = seen_blank s.here y in
    let after : QuotedStays at (gap ++ c ∷ []) (Blanks (blanks ++ c ∷ [])) behind (on_line_blank s) = record {
      here = over_one gap behind s.here h.here;
      text = text_one gap behind.unread.text s.here there h.text;
      separated = separates_blank c (step s.here).unread.text
          (subst (λ (t : List ℕ). Separates at gap t (Blanks blanks)) there.is h.separated) y;
      state = (ap (λ (t : List ℕ). t ++ c ∷ []) h.state.0, h.state.1);
    } in
    let e = sym (is_line_blank s h.state.1) in
    record {
      gap = gap ++ c ∷ [];
      x = Blanks (blanks ++ c ∷ []);
      stays =
          subst (QuotedStays at (gap ++ c ∷ []) (Blanks (blanks ++ c ∷ [])) behind) e after;
      escaped_is = ap
          (λ (a : QuotedState). a.escaped) (sym e);
    }
quoted_blank at gap (Lines empty column) behind s y z h =
    let c = next_char s.here in
    let there = seen_blank s.here y in
    let no_tab : (c == 0x09 && is_tab_left at column)
    ≡ false = ap₂ (λ b n. b && (c == 0x09 && is_tab_left at n)) (sym h.state.1) (sym h.state.2) ∙ z in
    let after : QuotedStays at (gap ++ c ∷ []) (Lines empty (suc column)) behind (on_indent_blank s) = record {
      here = over_one gap behind s.here h.here;
      text = text_one gap behind.unread.text s.here there h.text;
      separated = separates_indent c (step s.here).unread.text
          (subst (λ (t : List ℕ). Separates at gap t (Lines empty column)) there.is h.separated) y no_tab;
      state = (
        h.state.0,
        h.state.1,
        column_on s.here there (blank_apart_from_break c y) ∙ ap (λ n. n + 1) h.state.2
            ∙ omega arith,
      );
    } in
    let e = sym (is_indent_blank s h.state.1) in
    record {
      gap = gap ++ c ∷ [];
      x = Lines empty (suc column);
      stays =
          subst (QuotedStays at (gap ++ c ∷ []) (Lines empty (suc column)) behind) e after;
      escaped_is = ap
          (λ (a : QuotedState). a.escaped) (sym e);
    }

-- ---- a break on

abbrev on_first_break : QuotedState → QuotedState
on_first_break s = record s { here = past_break s.here; pending = []; on_new_line = true }

abbrev on_further_break : QuotedState → QuotedState
on_further_break s = record s { here = past_break s.here; pending = s.pending ++ 0x0A ∷ [] }

pub is_first_break : (s : QuotedState) → s.on_new_line ≡ false → over_break s ≡ on_first_break s
unfolding over_break
is_first_break s e = rw e refl

pub is_further_break : (s : QuotedState) → s.on_new_line ≡ true → over_break s ≡ on_further_break s
unfolding over_break
is_further_break s e = rw e refl

over_with : (gap cs : List ℕ) (behind h after : Here) → h ≡ over gap behind → after ≡ over cs h
    → after ≡ over (gap ++ cs) behind
over_with gap cs behind h after e f = f ∙ ap (over cs) e ∙ sym (over-append gap cs behind)

text_with : (gap cs whole : List ℕ) (h after : Here) → whole ≡ gap ++ h.unread.text
    → h.unread.text ≡ cs ++ after.unread.text → whole ≡ (gap ++ cs) ++ after.unread.text
text_with gap cs whole h after e f = e ∙ ap (λ (t : List ℕ). gap ++ t) f ∙ sym (append_assoc gap cs after.unread.text)

pub quoted_break : (at : LayoutData) (gap : List ℕ) (x : Between) (behind : Here) (s : QuotedState)
    → is_break (next_char s.here) ≡ true → QuotedStays at gap x behind s → QuotedGoes at behind s.escaped (over_break s)
quoted_break at gap (Blanks blanks) behind s y h =
    let b = one_broken s.here y in
    let cs = b.characters in
    let after : QuotedStays at (gap ++ cs) (Lines 0 0) behind (on_first_break s) = record {
      here = over_with gap cs behind s.here (past_break s.here) h.here b.is;
      text = text_with gap cs behind.unread.text s.here (past_break s.here) h.text b.text;
      separated = separates_first cs (past_break s.here).unread.text
          (subst (λ (t : List ℕ). Separates at gap t (Blanks blanks)) b.text h.separated) b.one;
      state = (refl, refl, (broken s.here y).column);
    } in
    let e = sym (is_first_break s h.state.1) in
    record {
      gap = gap ++ cs;
      x = Lines 0 0;
      stays = subst (QuotedStays at (gap ++ cs) (Lines 0 0) behind) e after;
      escaped_is = ap (λ (a : QuotedState). a.escaped) (sym e);
    }
quoted_break at gap (Lines empty column) behind s y h =
    let b = one_broken s.here y in
    let cs = b.characters in
    let after : QuotedStays at (gap ++ cs) (Lines (suc empty) 0) behind (on_further_break s) = record {
      here = over_with gap cs behind s.here (past_break s.here) h.here b.is;
      text = text_with gap cs behind.unread.text s.here (past_break s.here) h.text b.text;
      separated = separates_further cs (past_break s.here).unread.text
          (subst (λ (t : List ℕ). Separates at gap t (Lines empty column)) b.text h.separated) b.one;
      state = (
        ap (λ (t : List ℕ). t ++ 0x0A ∷ []) h.state.0
            ∙ one_more empty 0x0A,
        h.state.1,
        (broken s.here y).column,
      );
    } in
    let e = sym (is_further_break s h.state.1) in
    record {
      gap = gap ++ cs;
      x = Lines (suc empty) 0;
      stays =
          subst (QuotedStays at (gap ++ cs) (Lines (suc empty) 0) behind) e after;
      escaped_is = ap
          (λ (a : QuotedState). a.escaped) (sym e);
    }
