-- How a reader moves along a line, and onto a next one.
use Rattle.std.proofs.Common.{Bool, List, Option, [], ap, arith, false, length, not, refl, suc, true, zero, ℕ}
use Rattle.std.proofs.Common.{◌&&◌, ◌++◌, ◌+◌, ◌==◌, ◌||◌, ◌∙◌, ◌∷◌, ◌≡◌, ◌≤◌}
use Rattle.std.specs.Prelude.{None, if◌then◌else◌}
use Rattle.granit_base.specs.Classes.{is_blank, is_break, is_gap}
use Rattle.granit_base.specs.Place.{Mark, Place, ends_line, first, past_first, place_after}
use Rattle.granit_generator.specs.BlockText.{indent}
use Rattle.granit_lexemes.proofs.HereLemmas.{no_line_end, not_empty, stepped_text}
use Rattle.granit_lexemes.specs.Gap.{Each, IsGap}
use Rattle.granit_lexemes.specs.Here.{Here, begins_behind, first_tab, is_quiet, mark_of, next_char, step, tab_behind}
use Rattle.granit_lexemes.specs.PlainExtent.{over}
use Rattle.granit_canonical_steps.proofs.Places.{place_by}

-- a character that stands on its line, and is no tab
abbrev pub is_flat : ℕ → Bool
is_flat c = not (is_break c) && not (c == 0x09)

-- from one place of a line to another one further right, with no tab between
pub record Along (h g : Here) : Type 0 where
  pub column : h.place.column ≤ g.place.column
  pub line : g.place.line ≡ h.place.line
  pub tab : h.tab ≡ None → g.tab ≡ None

pub along_self : (h : Here) → Along h h
along_self h = record { column = omega arith; line = refl; tab = λ e. e }

pub along_then : (h g f : Here) → Along h g → Along g f → Along h f
along_then h g f p q = record {
  column = let a = p.column in let b = q.column in omega (arith, a, b);
  line = q.line ∙ p.line;
  tab = λ e. q.tab (p.tab e);
}

abbrev moved : Here → Here
moved h = record {
  unread = past_first h.unread;
  place = place_after h.unread.text h.place;
  begins_line = begins_behind h;
  tab = tab_behind h;
}

step_is : (c : ℕ) (t : List ℕ) (h : Here) → h.unread.text ≡ c ∷ t → step h ≡ moved h
unfolding step
step_is c t h e = ap (λ b. if b then h else moved h) (ap (λ (l : List ℕ). length l == 0) e ∙ not_empty c t)

abbrev tab_if : (ended quiet is_tab : Bool) → Here → Option Mark
tab_if ended quiet is_tab h =
    if ended || not quiet then None else if is_tab then first_tab h.tab (mark_of h) else h.tab

tab_is : (h : Here) → tab_behind h ≡ tab_if (ends_line h.unread.text) (is_quiet (next_char h)) (next_char h == 0x09) h
unfolding tab_behind
tab_is h = refl

begins_is : (h : Here) → begins_behind h ≡ (ends_line h.unread.text || (is_quiet (next_char h) && h.begins_line))
unfolding begins_behind
begins_is h = refl

no_tab : (ended quiet : Bool) (h : Here) → h.tab ≡ None → tab_if ended quiet false h ≡ None
no_tab true quiet h e = refl
no_tab false true h e = e
no_tab false false h e = refl

flat_break : (c : ℕ) → is_flat c ≡ true → is_break c ≡ false
flat_break c e = by (is_break c) (c == 0x09) e
  where
    by : (a b : Bool) → (not a && not b) ≡ true → a ≡ false
    by true b e = absurd cc
    by false b e = refl

flat_tab : (c : ℕ) → is_flat c ≡ true → (c == 0x09) ≡ false
flat_tab c e = by (is_break c) (c == 0x09) e
  where
    by : (a b : Bool) → (not a && not b) ≡ true → b ≡ false
    by true b e = absurd cc
    by false true e = absurd cc
    by false false e = refl

-- over one character of a line
pub along_one : (c : ℕ) (t : List ℕ) (h : Here) → h.unread.text ≡ c ∷ t → is_flat c ≡ true
    → Along h (step h) × ((step h).place.column ≡ h.place.column + 1)
along_one c t h e f =
    let s = step_is c t h e in
    let n : ends_line h.unread.text ≡ false = ap ends_line e ∙ no_line_end c t (flat_break c f) in
    let p : (step h).place ≡ place_by false h.place = ap (λ (g : Here). g.place) s
    ∙ ap (λ v. place_by v h.place) n in
    let column : (step h).place.column ≡ h.place.column + 1 = ap (λ (p : Place). p.column) p in (
      record {
        column = omega (arith, column);
        line = ap (λ (p : Place). p.line) p;
        tab = λ k. ap (λ (g : Here). g.tab) s ∙ tab_is h
            ∙ ap (λ v. tab_if (ends_line h.unread.text) (is_quiet (next_char h)) v h)
            (ap (λ (l : List ℕ). first l == 0x09) e ∙ flat_tab c f)
            ∙ no_tab (ends_line h.unread.text) (is_quiet (next_char h)) h k;
      },
      column,
    )

-- over characters of a line
pub along_all : (cs rest : List ℕ) (h : Here) → h.unread.text ≡ cs ++ rest → Each is_flat cs → Along h (over cs h)
along_all [] rest h e f = along_self h
along_all (c ∷ cs) rest h e f =
    along_then h (step h) (over cs (step h)) (along_one c (cs ++ rest) h e f.0).0
    (along_all cs rest (step h) (stepped_text h c (cs ++ rest) e) f.1)

-- a place in a column that begins its line, with nothing but spaces before it
pub record Begins (n line : ℕ) (p : Here) : Type 0 where
  pub column : p.place.column ≡ n
  pub on : p.place.line ≡ line
  pub begins : p.begins_line ≡ true
  pub tab : p.tab ≡ None

over_feed : (t : List ℕ) (h : Here) → h.unread.text ≡ 0x0A ∷ t → Begins 0 (h.place.line + 1) (step h)
over_feed t h e =
    let s = step_is 0x0A t h e in
    let n : ends_line h.unread.text ≡ true = ap ends_line e in
    let p : (step h).place ≡ place_by true h.place = ap (λ (g : Here). g.place) s ∙ ap (λ v. place_by v h.place) n in
    record {
      column = ap (λ (p : Place). p.column) p;
      on = ap (λ (p : Place). p.line) p;
      begins = ap (λ (g : Here). g.begins_line) s ∙ begins_is h
          ∙ ap (λ v. v || (is_quiet (next_char h) && h.begins_line)) n;
      tab = ap (λ (g : Here). g.tab) s ∙ tab_is h
          ∙ ap (λ v. tab_if v (is_quiet (next_char h)) (next_char h == 0x09) h) n;
    }

pub space_flat : is_flat 0x20 ≡ true
unfolding is_break
space_flat = refl

over_space : (n line : ℕ) (t : List ℕ) (h : Here) → h.unread.text ≡ 0x20 ∷ t → Begins n line h
    → Begins (suc n) line (step h)
over_space n line t h e b =
    let s = step_is 0x20 t h e in
    let a = along_one 0x20 t h e space_flat in
    let c = a.1 in
    let k = b.column in
    record {
      column = omega (arith, c, k);
      on = (a.0).line ∙ b.on;
      begins = ap (λ (g : Here). g.begins_line) s ∙ begins_is h
          ∙ ap (λ (l : List ℕ). ends_line l || (is_quiet (first l) && h.begins_line)) e ∙ b.begins;
      tab = (a.0).tab b.tab;
    }

over_spaces : (c n line : ℕ) (t : List ℕ) (h : Here) → h.unread.text ≡ indent c [] ++ t → Begins n line h
    → Begins (n + c) line (over (indent c []) h)
over_spaces zero n line t h e b = record {
  column = let k = b.column in omega (arith, k);
  on = b.on;
  begins = b.begins;
  tab = b.tab;
}
over_spaces (suc c) n line t h e b =
    let r = over_spaces c (suc n) line t (step h) (stepped_text h 0x20 (indent c [] ++ t) e)
    (over_space n line (indent c [] ++ t) h e b) in
    record {
      column = let k = r.column in omega (arith, k);
      on = r.on;
      begins = r.begins;
      tab = r.tab;
    }

-- onto the next line, and over the spaces that begin it
pub over_line : (c : ℕ) (t : List ℕ) (h : Here) → h.unread.text ≡ (0x0A ∷ indent c []) ++ t
    → Begins c (h.place.line + 1) (over (0x0A ∷ indent c []) h)
over_line c t h e =
    let r = over_spaces c 0 (h.place.line + 1) t (step h) (stepped_text h 0x0A (indent c [] ++ t) e)
    (over_feed (indent c [] ++ t) h e) in
    record {
      column = let k = r.column in omega (arith, k);
      on = r.on;
      begins = r.begins;
      tab = r.tab;
    }

pub indent_front : (c : ℕ) (rest : List ℕ) → indent c rest ≡ indent c [] ++ rest
indent_front zero rest = refl
indent_front (suc c) rest = ap (λ (l : List ℕ). 0x20 ∷ l) (indent_front c rest)

spaces_gap : (c : ℕ) → IsGap (indent c [])
unfolding is_gap is_blank
spaces_gap zero = tt
spaces_gap (suc c) = (refl, spaces_gap c)

pub line_gap : (c : ℕ) → IsGap (0x0A ∷ indent c [])
unfolding is_gap is_blank is_break
line_gap c = (refl, spaces_gap c)
