-- Moves over several characters of a line.
use Rattle.std.proofs.Common.{◌≡◌, ℕ, zero, suc, ◌+◌, ◌<◌, ◌≤◌, ◌==◌, Bool, true, false, not, ◌&&◌, ◌||◌, cond}
use Rattle.std.proofs.Common.{if◌then◌else◌, List, [], ◌∷◌, length, drop, Option, Some, None, ◌⊎◌, inl, inr, zero-add}
use Rattle.std.proofs.Common.{refl, sym, ap, ◌∙◌, subst, arith}
use Rattle.std.proofs.Math.Bool.{and-false, and-true}
use Rattle.std.specs.Prelude.{String, string_bytes}
use Rattle.std.specs.Str.{chars}
use Rattle.std.specs.declared.alloc.Global.{Global}
use Rattle.std.proofs.lemmas.Bool.{and_parts, cases_Bool, eqb-true}
use Rattle.std.proofs.lemmas.Bool.Decides.{nat_tests}
use Rattle.std.proofs.lemmas.Str.{chars-nil}
use Rattle.granit_base.specs.Classes.{is_alpha, is_word_char, is_digit, is_yaml_non_space, is_yaml_non_break}
use Rattle.granit_base.specs.Classes.{is_printable, is_bom, is_blank, is_break, is_breakz, is_blank_or_breakz}
use Rattle.granit_base.specs.Classes.{is_non_breakz}
use Rattle.granit_base.specs.Place.{Place, Mark, Unread, first, ends_line}
use Rattle.granit_base.specs.Written.{string_chars}
use Rattle.granit_runs.specs.Unread.{past_count}
use Rattle.granit_runs.specs.Runs.{run_length, starts, is_line_char, is_quoted_char}
use Rattle.granit_base.specs.PlainContent.{is_content}
use Rattle.granit_runs.specs.White.{is_skipped}
use Rattle.granit_runs.specs.declared.whitespace.SkipTabs.TheVariants.{No}
use Rattle.granit_input.proofs.UnreadLemmas.{past_none, past_one, past_text, past_twice}
use Rattle.granit_lexemes.specs.Here.{Here, next_char, mark_of, is_quiet, first_tab, begins_behind, tab_behind, step}
use Rattle.granit_lexemes.specs.Here.{mid_line, chosen, skip, past as past_all}
use Rattle.granit_lexemes.specs.Moves.{steps, past_prefix_mark}
use Rattle.granit_lexemes.proofs.HereLemmas.{step_text}
use Rattle.granit_cursor.specs.Reading.{Reading, Stands}

pub cleared : (s : String Global) → string_bytes s ≡ [] → string_chars s ≡ []
cleared s none = ap chars none ∙ chars-nil

-- ---- what is left, and its place

-- no character that passes a test ends a line
abbrev pub KeepsLine : (List ℕ → Bool) → Type 0
KeepsLine test = (text : List ℕ) → test text ≡ true → ends_line text ≡ false

-- so many characters right
abbrev pub moved : ℕ → Place → Place
moved n p = record { index = p.index + n; line = p.line; column = p.column + n }

plus_none : (n : ℕ) → n + 0 ≡ n
plus_none n = omega arith

moved_none : (p : Place) → p ≡ moved 0 p
moved_none p = rw (plus_none p.index, plus_none p.column) refl

moved_more : (n : ℕ) (p : Place) → moved n (moved 1 p) ≡ moved (suc n) p
moved_more n p =
    let i : p.index + 1 + n ≡ p.index + suc n = omega arith in
    let c : p.column + 1 + n ≡ p.column + suc n = omega arith in
    rw (i, c) refl

-- so many characters of a line are behind
pub record Along (n : ℕ) (h now : Here) : Type 0 where
  pub unread : now.unread ≡ past_count n h.unread
  pub place : now.place ≡ moved n h.place

pub not_none : (n : ℕ) → 0 < n → (n == 0) ≡ false
not_none n some = grind (arith, nat_tests, some)

pub step_along : (h : Here) → 0 < length h.unread.text → ends_line h.unread.text ≡ false → Along 1 h (step h)
unfolding step
step_along h some line =
    rw (not_none (length h.unread.text) some, line) (record { unread = sym (past_one h.unread some); place = refl })

-- a run that is there begins with a character that passes
pub record Begins (test : List ℕ → Bool) (n : ℕ) (text : List ℕ) : Type 0 where
  pub some : 0 < length text
  pub passes : test text ≡ true
  pub more : n ≤ run_length test (drop 1 text)

pub run_begins : (test : List ℕ → Bool) (n : ℕ) (text : List ℕ) → suc n ≤ run_length test text → Begins test n text
unfolding run_length
run_begins test n [] fits = absurd (omega arith)
run_begins test n (c ∷ cs) fits =
    elim (cases_Bool (test (c ∷ cs))) [
      | inl held ↦ record { some = omega arith; passes = held; more = let all = rw held at fits in omega (arith, all) }
      | inr failed ↦ absurd (let none = rw failed at fits in omega (arith, none))
    ]

-- the rest of a run behind its first character
pub run_rest : (test : List ℕ → Bool) (n : ℕ) (h : Here) → n ≤ run_length test (drop 1 h.unread.text)
    → n ≤ run_length test (step h).unread.text
run_rest test n h more = rw (step_text h) more

-- step by step over a run of a line
pub run_along : (test : List ℕ → Bool) (n : ℕ) (h : Here) → KeepsLine test → n ≤ run_length test h.unread.text
    → Along n h (steps n h)
unfolding steps
run_along test zero h line fits = record { unread = sym (past_none h.unread); place = moved_none h.place }
run_along test (suc n) h line fits =
    let b = run_begins test n h.unread.text fits in
    let one = step_along h b.some (line h.unread.text b.passes) in
    let rest = run_along test n (step h) line (run_rest test n h b.more) in
    let k : 1 + n ≡ suc n = omega arith in
    record {
      unread = rest.unread ∙ ap (past_count n) one.unread ∙ past_twice 1 n h.unread
          ∙ ap (λ (m : ℕ). past_count m h.unread) k;
      place = rest.place ∙ ap (moved n) one.place ∙ moved_more n h.place;
    }

-- ---- what stands before it on its line

-- no character that passes a test ends a line or leaves what is known of it as it is
abbrev pub Shows : (List ℕ → Bool) → Type 0
Shows test = (text : List ℕ) → test text ≡ true → (ends_line text ≡ false) × (is_quiet (first text) ≡ false)

pub step_shows : (h : Here) → 0 < length h.unread.text → ends_line h.unread.text ≡ false
    → is_quiet (next_char h) ≡ false → ((step h).begins_line ≡ false) × ((step h).tab ≡ None)
unfolding step begins_behind tab_behind
step_shows h some line shown = rw (not_none (length h.unread.text) some, line, shown) (refl, refl)

run_shows : (test : List ℕ → Bool) (n : ℕ) (h : Here) → Shows test → suc n ≤ run_length test h.unread.text
    → ((steps (suc n) h).begins_line ≡ false) × ((steps (suc n) h).tab ≡ None)
unfolding steps
run_shows test zero h shows fits =
    let b = run_begins test zero h.unread.text fits in
    let is = shows h.unread.text b.passes in
    step_shows h b.some is.0 is.1
run_shows test (suc n) h shows fits =
    let b = run_begins test (suc n) h.unread.text fits in
    run_shows test n (step h) shows (run_rest test (suc n) h b.more)

-- something is shown where a character was taken
pub shown : (test : List ℕ → Bool) (n : ℕ) (h : Here) → Shows test → n ≤ run_length test h.unread.text
    → ((steps n h).begins_line ≡ (h.begins_line && n == 0)) × ((steps n h).tab ≡ (if n == 0 then h.tab else None))
unfolding steps
shown test zero h shows fits = (sym (and-true h.begins_line), refl)
shown test (suc n) h shows fits =
    let is = run_shows test n h shows fits in
    let some : (suc n == 0) ≡ false = grind (arith, nat_tests) in
    rw some (is.0 ∙ sym (and-false h.begins_line), is.1)

-- all characters that pass a test are spaces, or blanks
pub step_blank : (h : Here) → 0 < length h.unread.text → ends_line h.unread.text ≡ false → is_quiet (next_char h) ≡ true
    → ((step h).begins_line ≡ h.begins_line) × ((step h).tab
    ≡ (if next_char h == 0x09 then first_tab h.tab (mark_of h) else h.tab))
unfolding step begins_behind tab_behind
step_blank h some line quiet = rw (not_none (length h.unread.text) some, line, quiet) (refl, refl)

pub quiet_of : (a b c : Bool) → (a || b) ≡ true → ((a || b) || c) ≡ true
quiet_of true b c e = refl
quiet_of false true c e = refl
quiet_of false false c e = absurd cc

blank_quiet : (c : ℕ) → is_blank c ≡ true → is_quiet c ≡ true
unfolding is_blank
blank_quiet c is = quiet_of (c == 0x20) (c == 0x09) (c == 0x0D) is

-- ---- tests that no break passes

other : (test : ℕ → Bool) (c k : ℕ) → test k ≡ false → test c ≡ true → (c == k) ≡ false
other test c k fails passes =
    elim (cases_Bool (c == k)) [
      | inl same ↦ absurd (let is : c ≡ k = eqb-true c k same in cc)
      | inr apart ↦ apart
    ]

pub keeps_line : (test : ℕ → Bool) → test 0x0A ≡ false → test 0x0D ≡ false → KeepsLine (starts test)
keeps_line test lf cr text passes = rw (other test (first text) 0x0A lf passes, other test (first text) 0x0D cr passes)
    refl

pub shows_all : (test : ℕ → Bool) → test 0x0A ≡ false → test 0x0D ≡ false → test 0x20 ≡ false → test 0x09 ≡ false
    → Shows (starts test)
shows_all test lf cr space tab text passes = (
  keeps_line test lf cr text passes,
  rw (
    other test (first text) 0x20 space passes,
    other test (first text) 0x09 tab
        passes,
    other test (first text) 0x0D cr passes,
  ) refl,
)

pub blank_line : KeepsLine (starts is_blank)
unfolding is_blank
blank_line = keeps_line is_blank refl refl

abbrev pub is_space : ℕ → Bool
is_space = is_skipped No

pub space_line : KeepsLine (starts is_space)
space_line = keeps_line is_space refl refl

pub char_line : KeepsLine (starts is_line_char)
unfolding is_breakz is_break
char_line = keeps_line is_line_char refl refl

pub non_breakz_line : KeepsLine (starts is_non_breakz)
unfolding is_breakz is_break
non_breakz_line = keeps_line is_non_breakz refl refl

pub alpha_shows : Shows (starts is_alpha)
unfolding is_alpha is_word_char is_digit
alpha_shows = shows_all is_alpha refl refl refl refl

pub non_space_shows : Shows (starts is_yaml_non_space)
unfolding is_yaml_non_space is_yaml_non_break is_printable is_blank is_break is_breakz is_bom
non_space_shows = shows_all is_yaml_non_space refl refl refl refl

pub quoted_shows : (single : Bool) → Shows (starts (is_quoted_char single))
quoted_shows true = shows_all (is_quoted_char true) refl refl refl refl
quoted_shows false = shows_all (is_quoted_char false) refl refl refl refl

abbrev no_separator : ℕ → Bool
no_separator c = not (is_blank_or_breakz c)

pub plain_shows : (in_flow : Bool) → Shows (is_content in_flow)
unfolding is_blank_or_breakz is_breakz is_break is_blank
plain_shows in_flow text passes = shows_all no_separator refl refl refl refl text
    (and_parts (no_separator (first text)) _ passes).0

-- ---- blanks

-- over blanks a line stays as it is, and so does a tab that is noted
pub blanks_stay : (n : ℕ) (h : Here) (t : Option Mark) → n ≤ run_length (starts is_blank) h.unread.text
    → ((m : Mark) → first_tab t m ≡ t) → h.tab ≡ t → ((steps n h).begins_line ≡ h.begins_line) × ((steps n h).tab ≡ t)
unfolding steps
blanks_stay zero h t fits noted is = (refl, is)
blanks_stay (suc n) h t fits noted is =
    let b = run_begins (starts is_blank) n h.unread.text fits in
    let one = step_blank h b.some (blank_line h.unread.text b.passes) (blank_quiet (next_char h) b.passes) in
    let kept : (step h).tab ≡ t = one.1 ∙ stays (next_char h == 0x09) is (noted (mark_of h)) in
    let rest = blanks_stay n (step h) t (run_rest (starts is_blank) n h b.more) noted kept in
    (rest.0 ∙ one.0, rest.1)
  where
    stays : (tab : Bool) → h.tab ≡ t → first_tab t (mark_of h) ≡ t
        → (if tab then first_tab h.tab (mark_of h) else h.tab) ≡ t
    stays true is noted = ap (λ (o : Option Mark). first_tab o (mark_of h)) is ∙ noted
    stays false is noted = is

some_noted : (o : Option Mark) (m k : Mark) → first_tab (first_tab o m) k ≡ first_tab o m
some_noted None m k = refl
some_noted (Some t) m k = refl

tab_run : (text : List ℕ) → first text ≡ 0x09 → 0 < run_length (starts is_blank) text
unfolding run_length is_blank
tab_run [] tab = absurd cc
tab_run (c ∷ cs) tab = let is : c ≡ 0x09 = tab in rw is (omega arith)

tab_noted : (k : ℕ) (h : Here) → next_char h ≡ 0x09 → 0 < k → k ≤ run_length (starts is_blank) h.unread.text
    → ((steps k h).begins_line ≡ h.begins_line) × ((steps k h).tab ≡ first_tab h.tab (mark_of h))
unfolding steps
tab_noted zero h tab some fits = absurd (omega arith)
tab_noted (suc k) h tab some fits =
    let b = run_begins (starts is_blank) k h.unread.text fits in
    let one = step_blank h b.some (blank_line h.unread.text b.passes) (blank_quiet (next_char h) b.passes) in
    let kept : (step h).tab ≡ first_tab h.tab (mark_of h) = one.1 ∙ rw tab refl in
    let rest = blanks_stay k (step h) (first_tab h.tab (mark_of h)) (run_rest (starts is_blank) k h b.more)
    (λ m. some_noted h.tab (mark_of h) m) kept in
    (rest.0 ∙ one.0, rest.1)

-- from a tab on that tab is noted, where none was
pub tabs_noted : (n : ℕ) (h : Here) → next_char h ≡ 0x09 → n ≡ run_length (starts is_blank) h.unread.text
    → ((steps n h).begins_line ≡ h.begins_line) × ((steps n h).tab ≡ first_tab h.tab (mark_of h))
tabs_noted n h tab whole =
    let some = tab_run h.unread.text tab in
    tab_noted n h tab (omega (arith, whole, some)) (omega (arith, whole))

-- over spaces all stays as it is
pub spaces_stay : (n : ℕ) (h : Here) → n ≤ run_length (starts is_space) h.unread.text
    → ((steps n h).begins_line ≡ h.begins_line) × ((steps n h).tab ≡ h.tab)
unfolding steps
spaces_stay zero h fits = (refl, refl)
spaces_stay (suc n) h fits =
    let b = run_begins (starts is_space) n h.unread.text fits in
    let one = step_blank h b.some (space_line h.unread.text b.passes)
    (quiet_of (next_char h == 0x20) (next_char h == 0x09) (next_char h == 0x0D) (rw b.passes refl)) in
    let no_tab : (next_char h == 0x09) ≡ false = other is_space (next_char h) 0x09 refl b.passes in
    let rest = spaces_stay n (step h) (run_rest (starts is_space) n h b.more) in
    (rest.0 ∙ one.0, rest.1 ∙ one.1 ∙ rw no_tab refl)

space_more : (c : ℕ) (cs : List ℕ) → (c == 0x20) ≡ true
    → run_length (starts is_space) (c ∷ cs) ≡ suc (run_length (starts is_space) cs)
unfolding run_length
space_more c cs is = rw is refl

space_none : (c : ℕ) (cs : List ℕ) → (c == 0x20) ≡ false → run_length (starts is_space) (c ∷ cs) ≡ 0
unfolding run_length
space_none c cs is = rw is refl

blank_more : (c : ℕ) (cs : List ℕ) → (c == 0x20) ≡ true
    → run_length (starts is_blank) (c ∷ cs) ≡ suc (run_length (starts is_blank) cs)
unfolding run_length is_blank
blank_more c cs is = rw is refl

blank_none : (c : ℕ) (cs : List ℕ) → (c == 0x20) ≡ false → (c == 0x09) ≡ false
    → run_length (starts is_blank) (c ∷ cs) ≡ 0
unfolding run_length is_blank
blank_none c cs space tab = rw (space, tab) refl

-- where another character stands, no blanks do
pub no_blanks : (text : List ℕ) → is_blank (first text) ≡ false → 0 ≡ run_length (starts is_blank) text
unfolding run_length
no_blanks [] none = refl
no_blanks (c ∷ cs) none = rw none refl

-- the blanks are the spaces, and the blanks behind these
blanks_split : (text : List ℕ) (n : ℕ) → n ≡ run_length (starts is_space) text
    → run_length (starts is_blank) text ≡ n + run_length (starts is_blank) (drop n text)
unfolding run_length
blanks_split [] n is = rw is refl
blanks_split (c ∷ cs) n is = split (blanks_split cs (run_length (starts is_space) cs) refl) (cases_Bool (c == 0x20))
  where
    split : run_length (starts is_blank) cs ≡ run_length (starts is_space) cs + run_length (starts is_blank)
        (drop (run_length (starts is_space) cs) cs)
        → ((c == 0x20) ≡ true) ⊎ ((c == 0x20) ≡ false)
        → run_length (starts is_blank) (c ∷ cs) ≡ n + run_length (starts is_blank) (drop n (c ∷ cs))
    split more (inl space) =
        let count : n ≡ suc (run_length (starts is_space) cs) = is ∙ space_more c cs space in
        rw (count, blank_more c cs space) (omega (arith, more))
    split more (inr other) =
        let count : n ≡ 0 = is ∙ space_none c cs other in
        rw count (sym (zero-add _))

-- the spaces are all the blanks where no tab stands behind them
spaces_all : (text : List ℕ) (n : ℕ) → n ≡ run_length (starts is_space) text → (first (drop n text) ≡ 0x09 → ⊥)
    → n ≡ run_length (starts is_blank) text
unfolding run_length
spaces_all [] n is none = is
spaces_all (c ∷ cs) n is none = split (λ more. spaces_all cs (run_length (starts is_space) cs) refl more)
    (cases_Bool (c == 0x20)) (cases_Bool (c == 0x09))
  where
    split : ((first (drop (run_length (starts is_space) cs) cs) ≡ 0x09 → ⊥)
        → run_length (starts is_space) cs ≡ run_length (starts is_blank) cs)
        → ((c == 0x20) ≡ true) ⊎ ((c == 0x20) ≡ false) → ((c == 0x09) ≡ true) ⊎ ((c == 0x09) ≡ false)
        → n ≡ run_length (starts is_blank) (c ∷ cs)
    split all (inl space) tab =
        let count : n ≡ suc (run_length (starts is_space) cs) = is ∙ space_more c cs space in
        let more = all (rw count at none) in
        count ∙ ap suc more ∙ sym (blank_more c cs space)
    split all (inr other) (inl tab) = absurd (let behind : first (drop 0 (c ∷ cs)) ≡ 0x09
        → ⊥ = rw (is ∙ space_none c cs other) at none in behind (eqb-true c 0x09 tab))
    split all (inr other) (inr solid) = is ∙ space_none c cs other ∙ sym (blank_none c cs other solid)

-- what is left behind spaces
behind_spaces : (n : ℕ) (h : Here) → n ≡ run_length (starts is_space) h.unread.text
    → (steps n h).unread.text ≡ drop n h.unread.text
behind_spaces n h spaces =
    let along = run_along (starts is_space) n h space_line (omega (arith, spaces)) in
    ap (λ (u : Unread). u.text) along.unread ∙ past_text n h.unread

pub spaces_alone : (n : ℕ) (h : Here) → n ≡ run_length (starts is_space) h.unread.text
    → (next_char (steps n h) ≡ 0x09 → ⊥) → n ≡ run_length (starts is_blank) h.unread.text
spaces_alone n h spaces none = spaces_all h.unread.text n spaces
    (λ tab. none (ap first (behind_spaces n h spaces) ∙ tab))

pub spaces_more : (n k : ℕ) (h : Here) → n ≡ run_length (starts is_space) h.unread.text
    → k ≡ run_length (starts is_blank) (steps n h).unread.text → n + k ≡ run_length (starts is_blank) h.unread.text
spaces_more n k h spaces more =
    let rest : k ≡ run_length (starts is_blank) (drop n h.unread.text) = more
    ∙ ap (run_length (starts is_blank)) (behind_spaces n h spaces) in
    let split = blanks_split h.unread.text n spaces in
    omega (arith, split, rest)

-- steps and further steps
pub steps_twice : (n k : ℕ) (h : Here) → steps k (steps n h) ≡ steps (n + k) h
unfolding steps
steps_twice zero k h = ap (λ (m : ℕ). steps m h) (let e : k ≡ 0 + k = omega arith in e)
steps_twice (suc n) k h = steps_twice n k (step h)
    ∙ ap (λ (m : ℕ). steps m h) (let e : suc (n + k) ≡ suc n + k = omega arith in e)

-- ---- where a cursor stands behind a call that took so many characters

-- the same cursor, by its parts
pub stands_at : {I : Type 0} (unread : I → Unread → Type 0) (r s : Reading I) (h : Here) → s ≡ r → Stands unread r h
    → Stands unread s h
stands_at unread r s h is k = subst (λ q. Stands unread q h) (sym is) k

-- what of a cursor tells where it stands
pub record Spot (I : Type 0) : Type 0 where
  pub input : I
  pub place : Place
  pub begins_line : Bool
  pub tab : Option Mark

abbrev pub StandsAt : {I : Type 0} → (I → Unread → Type 0) → Spot I → Here → Type 0
StandsAt unread s h = unread s.input h.unread × (h.place ≡ s.place) × (h.begins_line ≡ s.begins_line) × (h.tab ≡ s.tab)

module _ {I : Type 0} (unread : I → Unread → Type 0) (test : List ℕ → Bool) (n : ℕ) (old new : Spot I)
    (h : Here) where
  pub along_stands : Along n h (steps n h) → StandsAt unread old h → unread new.input (past_count n h.unread)
      → new.place ≡ moved n old.place → unread new.input (steps n h).unread × ((steps n h).place ≡ new.place)
  along_stands a k known place = (subst (unread new.input) (sym a.unread) known, a.place ∙ ap (moved n) k.1 ∙ sym place)

  -- behind characters that show
  pub lands : Shows test → n ≤ run_length test h.unread.text → StandsAt unread old h
      → unread new.input (past_count n h.unread) → new.place ≡ moved n old.place
      → new.begins_line ≡ (old.begins_line && n == 0) → new.tab ≡ (if n == 0 then old.tab else None)
      → StandsAt unread new (steps n h)
  lands shows fits k known place begins tab =
      let a = along_stands (run_along test n h (λ text passes. (shows text passes).0) fits) k known place in
      let s = shown test n h shows fits in (
        a.0,
        a.1,
        s.0 ∙ ap (λ (b : Bool). b && n == 0) k.2 ∙ sym begins,
        s.1
            ∙ ap (λ (t : Option Mark). if n == 0 then t else None) k.3 ∙ sym tab,
      )

  -- behind the characters of a line that is begun with them
  pub lands_inside : KeepsLine test → n ≤ run_length test h.unread.text → StandsAt unread old h
      → unread new.input (past_count n h.unread) → new.place ≡ moved n old.place
      → new.begins_line ≡ false → new.tab ≡ None → StandsAt unread new (mid_line (steps n h))
  lands_inside line fits k known place begins tab =
      let a = along_stands (run_along test n h line fits) k known place in
      (a.0, a.1, sym begins, sym tab)

pub lands_spaces :
    {I : Type 0} (unread : I → Unread → Type 0) (n : ℕ) (old new : Spot I) (h : Here)
    → n ≤ run_length (starts is_space) h.unread.text → StandsAt unread old h
    → unread new.input (past_count n h.unread) → new.place ≡ moved n old.place → new.begins_line ≡ old.begins_line
    → new.tab ≡ old.tab → StandsAt unread new (steps n h)
lands_spaces unread n old new h fits k known place begins tab =
    let a = along_stands unread (starts is_space) n old new h (run_along (starts is_space) n h space_line fits) k known
    place in
    let s = spaces_stay n h fits in
    (a.0, a.1, s.0 ∙ k.2 ∙ sym begins, s.1 ∙ k.3 ∙ sym tab)

pub lands_tabs :
    {I : Type 0} (unread : I → Unread → Type 0) (n : ℕ) (old new : Spot I) (h : Here) → next_char h ≡ 0x09
    → n ≡ run_length (starts is_blank) h.unread.text → StandsAt unread old h
    → unread new.input (past_count n h.unread) → new.place ≡ moved n old.place → new.begins_line ≡ old.begins_line
    → new.tab ≡ first_tab h.tab (mark_of h) → StandsAt unread new (steps n h)
lands_tabs unread n old new h is fits k known place begins tab =
    let a = along_stands unread (starts is_blank) n old new h
    (run_along (starts is_blank) n h blank_line (omega (arith, fits))) k known place in
    let s = tabs_noted n h is fits in
    (a.0, a.1, s.0 ∙ k.2 ∙ sym begins, s.1 ∙ sym tab)

-- behind a character above the space
above_some : (text : List ℕ) → 0x20 < first text → 0 < length text
above_some [] above = absurd (omega (arith, above))
above_some (c ∷ cs) above = omega arith

above_other : (c k : ℕ) → 0x20 < c → k ≤ 0x20 → (c == k) ≡ false
above_other c k above low = grind (arith, nat_tests, above, low)

pub lands_shown :
    {I : Type 0} (unread : I → Unread → Type 0) (old new : Spot I) (h : Here) → 0x20 < next_char h
    → StandsAt unread old h → unread new.input (past_count 1 h.unread) → new.place ≡ moved 1 old.place
    → new.begins_line ≡ false → new.tab ≡ None → StandsAt unread new (step h)
lands_shown unread old new h above k known place begins tab =
    let some = above_some h.unread.text above in
    let other = λ (c : ℕ) (low : c ≤ 0x20). above_other (next_char h) c above low in
    let line : ends_line h.unread.text ≡ false = rw (other 0x0A (omega arith), other 0x0D (omega arith)) refl in
    let quiet : is_quiet (next_char h) ≡ false =
    rw (other 0x20 (omega arith), other 0x09 (omega arith), other 0x0D (omega arith)) refl in
    let a = step_along h some line in
    let s = step_shows h some line quiet in (
      subst (unread new.input) (sym a.unread) known,
      a.place ∙ ap (moved 1) k.1 ∙ sym place,
      s.0 ∙ sym begins,
      s.1 ∙ sym tab,
    )

-- a byte-order mark is there
pub mark_some : (text : List ℕ) → first text ≡ 0xFEFF → 0 < length text
mark_some [] is = absurd cc
mark_some (c ∷ cs) is = omega arith

pub mark_lands :
    {I : Type 0} (unread : I → Unread → Type 0) (old new : Spot I) (h : Here) → next_char h ≡ 0xFEFF
    → StandsAt unread old h → unread new.input (past_count 1 h.unread)
    → new.place ≡ record { index = old.place.index + 1; line = old.place.line; column = old.place.column }
    → new.begins_line ≡ old.begins_line → new.tab ≡ old.tab → StandsAt unread new (past_prefix_mark h)
unfolding past_prefix_mark
mark_lands unread old new h mark k known place begins tab = (
  subst (unread new.input) (past_one h.unread (mark_some h.unread.text mark)) known,
  ap (λ (p : Place). record { index = p.index + 1; line = p.line; column = p.column }) k.1 ∙ sym place,
  k.2 ∙ sym begins,
  k.3 ∙ sym tab,
)

-- ---- as many steps as characters pass

chosen_steps : (b : Bool) (n : ℕ) (x h : Here) → x ≡ steps n (step h) → chosen b x h ≡ steps (cond b (suc n) 0) h
unfolding steps
chosen_steps true n x h e = e
chosen_steps false n x h e = refl

skip_steps : (test : ℕ → Bool) (text : List ℕ) (h : Here) → text ≡ h.unread.text
    → skip test text h ≡ steps (run_length (starts test) text) h
unfolding run_length steps
skip_steps test [] h e = refl
skip_steps test (c ∷ cs) h e =
    let rest : cs ≡ (step h).unread.text = sym (step_text h ∙ ap (λ (text : List ℕ). drop 1 text) (sym e)) in
    let seen : next_char h ≡ c = ap (λ (text : List ℕ). first text) (sym e) in
    ap (λ (k : ℕ). chosen (test k) (skip test cs (step h)) h) seen
    ∙ chosen_steps (test c) (run_length (starts test) cs) (skip test cs (step h)) h
    (skip_steps test cs (step h) rest)

pub steps_past : (test : ℕ → Bool) (h : Here) → steps (run_length (starts test) h.unread.text) h ≡ past_all test h
unfolding past_all
steps_past test h = sym (skip_steps test h.unread.text h refl)
