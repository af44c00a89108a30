-- How a reader moves on.
use Rattle.std.proofs.Common.{◌≡◌, ℕ, ◌-◌, ◌<◌, ◌≤◌, ◌==◌, ◌&&◌, ◌||◌, Bool, true, false, not, cond, List, [], ◌∷◌}
use Rattle.std.proofs.Common.{length, drop, refl, sym, ap, ◌∙◌, arith}
use Rattle.std.proofs.lemmas.List.{length-drop}
use Rattle.std.proofs.lemmas.Bool.Decides.{nat_tests}
use Rattle.granit_base.specs.Classes.{is_break}
use Rattle.granit_base.specs.Place.{first, ends_line}
use Rattle.granit_lexemes.specs.Here.{Here, text_len, next_char, step, chosen, skip, past}

pub not_empty : (c : ℕ) (cs : List ℕ) → (length (c ∷ cs) == 0) ≡ false
not_empty c cs = grind (arith, nat_tests)

step_over : (text : List ℕ) (h : Here) → text ≡ h.unread.text → (step h).unread.text ≡ drop 1 text
unfolding step
step_over [] h e = rw (← e) refl
step_over (c ∷ cs) h e = rw (← e, not_empty c cs) refl

-- a step takes the first character
pub step_text : (h : Here) → (step h).unread.text ≡ drop 1 h.unread.text
step_text h = step_over h.unread.text h refl

pub stepped_text : (h : Here) (c : ℕ) (t : List ℕ) → h.unread.text ≡ c ∷ t → (step h).unread.text ≡ t
stepped_text h c t e = step_text h ∙ ap (drop 1) e

pub stays_at_end : (h : Here) → h.unread.text ≡ [] → step h ≡ h
unfolding step
stays_at_end h e = rw e refl

pub if_lends : (b : Bool) (g h : Here) (l : Bool) → g.unread.lends ≡ l → h.unread.lends ≡ l
    → (cond b g h).unread.lends ≡ l
if_lends true g h l p q = p
if_lends false g h l p q = q

-- what follows is lent where this is
pub step_lends : (h : Here) → (step h).unread.lends ≡ h.unread.lends
unfolding step
step_lends h = if_lends (length h.unread.text == 0) h _ h.unread.lends refl refl

pub step_len : (h : Here) → text_len (step h) ≡ text_len h - 1
step_len h = rw (step_text h) (length-drop 1 h.unread.text)

-- a character that isn't NUL is there
pub seen : (c : ℕ) (text : List ℕ) → 0 < c → (first text == c) ≡ true → 0 < length text
seen c [] some e = grind (arith, nat_tests)
seen c (x ∷ xs) some e = omega arith

passes_some : (test : ℕ → Bool) (text : List ℕ) → test 0 ≡ false → test (first text) ≡ true → 0 < length text
passes_some test [] nul held = absurd cc
passes_some test (c ∷ cs) nul held = omega arith

skip_goes : (test : ℕ → Bool) (text : List ℕ) (h : Here) → text ≡ h.unread.text → test 0 ≡ false
    → test (next_char h) ≡ true → skip test text h ≡ skip test (drop 1 text) (step h)
skip_goes test [] h e nul held = absurd (let gone = rw (← e) at held in cc)
skip_goes test (c ∷ cs) h e nul held = rw held refl

skip_stops : (test : ℕ → Bool) (text : List ℕ) (h : Here) → test (next_char h) ≡ false → skip test text h ≡ h
skip_stops test [] h failed = refl
skip_stops test (c ∷ cs) h failed = rw failed refl

pub past_goes : (test : ℕ → Bool) (h : Here) → test 0 ≡ false → test (next_char h) ≡ true
    → past test (step h) ≡ past test h
unfolding past
past_goes test h nul held = ap (λ (text : List ℕ). skip test text (step h)) (step_text h)
    ∙ sym (skip_goes test h.unread.text h refl nul held)

pub past_stops : (test : ℕ → Bool) (h : Here) → test (next_char h) ≡ false → past test h ≡ h
unfolding past
past_stops test h failed = skip_stops test h.unread.text h failed

pub step_shortens : (test : ℕ → Bool) (h : Here) → test 0 ≡ false → test (next_char h) ≡ true
    → text_len (step h) < text_len h
step_shortens test h nul held = let some = passes_some test h.unread.text nul held in omega (arith, step_len h)

chosen_len : (b : Bool) (n : ℕ) (x y : Here) → text_len x ≤ n → text_len y ≤ n → text_len (chosen b x y) ≤ n
chosen_len true n x y p q = p
chosen_len false n x y p q = q

skip_len : (test : ℕ → Bool) (text : List ℕ) (h : Here) → text_len (skip test text h) ≤ text_len h
skip_len test [] h = omega arith
skip_len test (c ∷ cs) h = chosen_len (test (next_char h)) (text_len h) (skip test cs (step h)) h
    (omega (arith, skip_len test cs (step h), step_len h)) (omega arith)

pub past_len : (test : ℕ → Bool) (h : Here) → text_len (past test h) ≤ text_len h
unfolding past
past_len test h = skip_len test h.unread.text h

-- ---- ends of lines

either_not : (a b d : Bool) → (a || b) ≡ false → (a || (b && d)) ≡ false
either_not true b d e = e
either_not false true d e = cc
either_not false false d e = refl

-- a line doesn't end with a character that is no break
pub no_line_end : (c : ℕ) (cs : List ℕ) → is_break c ≡ false → ends_line (c ∷ cs) ≡ false
unfolding is_break
no_line_end c cs n = either_not (c == 0x0A) (c == 0x0D) (not (first cs == 0x0A)) n

pub step_line : (h : Here) (c : ℕ) (t : List ℕ) → h.unread.text ≡ c ∷ t → is_break c ≡ false →
    (step h).place.line ≡ h.place.line
unfolding step
step_line h c t e n =
    let some : (length h.unread.text == 0) ≡ false = ap (λ (l : List ℕ). length l == 0) e ∙ not_empty c t in
    let inside : ends_line h.unread.text ≡ false = ap ends_line e ∙ no_line_end c t n in
    rw (some, inside) refl
