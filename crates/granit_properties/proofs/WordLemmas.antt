-- Words, a character at a time.
use Rattle.std.proofs.Common.{◌≡◌, ℕ, zero, suc, ◌-◌, ◌<◌, ◌≤◌, Bool, true, false, List, [], ◌∷◌, ◌++◌, length, take}
use Rattle.std.proofs.Common.{drop, refl, sym, ap, ap₂, ◌∙◌, append_assoc, arith}
use Rattle.std.proofs.lemmas.List.{append-nil, length-take-le, length-drop}
use Rattle.granit_base.specs.Classes.{is_anchor_char, is_alpha, is_yaml_non_space, is_yaml_non_break, is_printable}
use Rattle.granit_base.specs.Classes.{is_blank, is_break, is_breakz, is_word_char, is_digit, is_z}
use Rattle.granit_base.specs.Place.{Unread, first}
use Rattle.granit_base.specs.Written.{Written}
use Rattle.granit_runs.specs.Runs.{run_length, starts}
use Rattle.granit_runs.specs.Unread.{past_count}
use Rattle.granit_runs.proofs.RunLemmas.{run_within}
use Rattle.granit_input.proofs.UnreadLemmas.{past_text}
use Rattle.granit_lexemes.specs.Basics.{as_spelled, count_up_to, text_up_to}
use Rattle.granit_lexemes.specs.Here.{Here, text_len, next_char, step, past}
use Rattle.granit_lexemes.proofs.HereLemmas.{step_text, step_len, step_shortens, past_goes, past_stops, past_len}
use Rattle.granit_cursor.proofs.MoveLemmas.{KeepsLine, keeps_line, run_along, steps_past}
use Rattle.granit_properties.specs.declared.word.Word.{Word}
use Rattle.granit_properties.specs.declared.word.Word.TheVariants.{Name, Of}
use Rattle.granit_runs.specs.declared.class.Class.TheVariants.{Alpha, NonSpace, Blank, Printable, NonBreakz}
use Rattle.granit_properties.specs.WordCode.{word_test}

-- NUL, which a look past the end gives, is in no word
pub no_nul : (w : Word) → word_test w 0 ≡ false
unfolding is_anchor_char is_alpha is_word_char is_digit is_yaml_non_space is_yaml_non_break is_printable is_break
    is_blank is_breakz is_z
no_nul Name = refl
no_nul (Of Alpha) = refl
no_nul (Of NonSpace) = refl
no_nul (Of Blank) = refl
no_nul (Of Printable) = refl
no_nul (Of NonBreakz) = refl

pub some_char : (w : Word) (c : ℕ) → word_test w c ≡ true → 0 < c
some_char w c e = by c refl
  where
    by : (k : ℕ) → c ≡ k → 0 < c
    by zero z = absurd (let a : word_test w 0 ≡ true = ap (word_test w) (sym z) ∙ e in let b = no_nul w in cc)
    by (suc k) z = omega (arith, z)

none_taken : (l : List ℕ) (n : ℕ) → n ≡ 0 → take n l ≡ []
none_taken [] n e = rw e refl
none_taken (c ∷ l) n e = rw e refl

-- nothing stands between a place and itself
pub none_between : (h : Here) → text_up_to h h ≡ []
none_between h = none_taken h.unread.text (count_up_to h h) (omega arith)

-- how many characters stand between two places
pub up_to_length : (h after : Here) → length (text_up_to h after) ≡ count_up_to h after
up_to_length h after = length-take-le (count_up_to h after) h.unread.text (omega arith)

take_front : (text : List ℕ) (n : ℕ) → 0 < length text → 0 < n → take n text ≡ first text ∷ take (n - 1) (drop 1 text)
take_front [] n some more = absurd (omega arith)
take_front (c ∷ cs) zero some more = absurd (omega arith)
take_front (c ∷ cs) (suc n) some more = ap (λ k. c ∷ take k cs) (omega arith)

-- behind a character, where a later place is not before the next
pub up_to_more : (h after : Here) → text_len (step h) < text_len h → text_len after ≤ text_len (step h)
    → text_up_to h after ≡ next_char h ∷ text_up_to (step h) after
up_to_more h after less le =
    let one = step_len h in
    take_front h.unread.text (count_up_to h after) (omega arith) (omega arith)
    ∙ ap₂ (λ k (l : List ℕ). next_char h ∷ take k l) (omega (arith, one)) (sym (step_text h))

-- over one character of a run, and behind the last
pub run_on : (test : ℕ → Bool) (h : Here) → test 0 ≡ false → test (next_char h) ≡ true
    → (past test (step h) ≡ past test h) × (text_up_to h (past test h)
    ≡ next_char h ∷ text_up_to (step h) (past test (step h)))
run_on test h nul held =
    let same = past_goes test h nul held in (
      same,
      up_to_more h (past test h) (step_shortens test h nul held)
          (let le = past_len test (step h) in omega (arith, le, ap text_len same))
          ∙ ap (λ (g : Here). next_char h ∷ text_up_to (step h) g) (sym same),
    )

pub run_ends : (test : ℕ → Bool) (h : Here) → test (next_char h) ≡ false
    → (past test h ≡ h) × (text_up_to h (past test h) ≡ [])
run_ends test h failed =
    let same = past_stops test h failed in
    (same, ap (text_up_to h) same ∙ none_between h)

-- what was taken and what is still to be taken
pub word_on : (test : ℕ → Bool) (h now : Here) (old out more : List ℕ) → test 0 ≡ false → test (next_char now) ≡ true
    → more ≡ out ++ next_char now ∷ []
    → out ++ text_up_to now (past test now) ≡ old ++ text_up_to h (past test h)
    → more ++ text_up_to (step now) (past test (step now)) ≡ old ++ text_up_to h (past test h)
word_on test h now old out more nul held grown so_far =
    ap (λ (l : List ℕ). l ++ text_up_to (step now) (past test (step now))) grown
    ∙ append_assoc out (next_char now ∷ []) (text_up_to (step now) (past test (step now)))
    ∙ ap (λ (l : List ℕ). out ++ l) (sym (run_on test now nul held).1)
    ∙ so_far

pub word_ends : (test : ℕ → Bool) (h now : Here) (old out : List ℕ) → test (next_char now) ≡ false
    → out ++ text_up_to now (past test now) ≡ old ++ text_up_to h (past test h)
    → out ≡ old ++ text_up_to h (past test h)
word_ends test h now old out failed so_far = sym (append-nil out)
    ∙ ap (λ (l : List ℕ). out ++ l) (sym (run_ends test now failed).1) ∙ so_far

-- ---- words that are lent

pub word_line : (w : Word) → KeepsLine (starts (word_test w))
unfolding is_anchor_char is_alpha is_word_char is_digit is_yaml_non_space is_yaml_non_break is_printable is_break
    is_blank is_breakz is_z
word_line Name = keeps_line (word_test Name) refl refl
word_line (Of Alpha) = keeps_line (word_test (Of Alpha)) refl refl
word_line (Of NonSpace) = keeps_line (word_test (Of NonSpace)) refl refl
word_line (Of Blank) = keeps_line (word_test (Of Blank)) refl refl
word_line (Of Printable) = keeps_line (word_test (Of Printable)) refl refl
word_line (Of NonBreakz) = keeps_line (word_test (Of NonBreakz)) refl refl

-- how many characters a word has
abbrev pub word_length : (ℕ → Bool) → Here → ℕ
word_length test h = run_length (starts test) h.unread.text

-- the place behind a word
pub word_behind : (w : Word) (h : Here)
    → (past (word_test w) h).unread ≡ past_count (word_length (word_test w) h) h.unread
word_behind w h = ap (λ (g : Here). g.unread) (sym (steps_past (word_test w) h))
    ∙ (run_along (starts (word_test w)) (word_length (word_test w) h) h (word_line w) (omega arith)).unread

pub word_count : (w : Word) (h : Here) → count_up_to h (past (word_test w) h) ≡ word_length (word_test w) h
word_count w h =
    let test = word_test w in
    let n = word_length test h in
    let rest : text_len (past test h) ≡ text_len h - n = ap (λ (u : Unread). length u.text) (word_behind w h)
    ∙ ap (length {A = ℕ}) (past_text n h.unread) ∙ length-drop n h.unread.text in
    omega (arith, rest, run_within (starts test) h.unread.text)

-- a word that was lent, and one that was copied
pub lent_word : (w : Word) (h : Here) (part : List ℕ) → h.unread.lends ≡ true
    → part ≡ take (word_length (word_test w) h) h.unread.text
    → ◌≡◌ {A = Written} (record { characters = part; is_borrowed = true })
    (as_spelled h (text_up_to h (past (word_test w) h)))
lent_word w h part lends is =
    ap₂ (λ (t : List ℕ) (b : Bool). record { characters = t; is_borrowed = b })
    (is ∙ ap (λ (n : ℕ). take n h.unread.text) (sym (word_count w h))) (sym lends)

pub own_word : (h after : Here) (empty out : List ℕ) → h.unread.lends ≡ false → empty ≡ []
    → out ≡ empty ++ text_up_to h after
    → ◌≡◌ {A = Written} (record { characters = out; is_borrowed = false }) (as_spelled h (text_up_to h after))
own_word h after empty out lends none is =
    ap₂ (λ (t : List ℕ) (b : Bool). record { characters = t; is_borrowed = b })
    (is ∙ ap (λ (t : List ℕ). t ++ text_up_to h after) none) (sym lends)
