-- How the lines of a source fold, character by character.
use Rattle.std.proofs.Common.{◌≡◌, ℕ, suc, Bool, true, false, List, [], ◌∷◌, ◌++◌, refl, sym, ap, ap₂, ◌∙◌}
use Rattle.std.proofs.Common.{append_assoc, append-nil}
use Rattle.granit_base.specs.Classes.{is_blank, is_break}
use Rattle.granit_base.specs.Place.{ends_line}
use Rattle.granit_lexemes.proofs.CharTests.{blank_apart_from_break}
use Rattle.granit_lexemes.specs.Gap.{Each}
use Rattle.granit_lexemes.proofs.HereLemmas.{no_line_end}
use Rattle.granit_lexemes.specs.Folding.{before_lines, lines_of, without_blank, trim_start, before_trimmed, trim_end}
use Rattle.granit_lexemes.specs.Folding.{trim_behind, trim_lines, break_text, fold_behind, fold, folded}

-- what lines give behind a break and so many empty ones
abbrev pub folded_behind : ℕ → List ℕ → List ℕ
folded_behind k text = fold_behind k (trim_behind (lines_of text))

-- no text is without lines
pub record Lines (text : List ℕ) : Type 0 where
  pub line : List ℕ
  pub more : List (List ℕ)
  pub are : lines_of text ≡ line ∷ more

some_before : (e b : Bool) (c : ℕ) (line : List ℕ) (more : List (List ℕ))
    → (l : List ℕ) × (ls : List (List ℕ)) × (before_lines e b c (line ∷ more) ≡ l ∷ ls)
some_before true b c line more = ([], line ∷ more, refl)
some_before false true c line more = (line, more, refl)
some_before false false c line more = (c ∷ line, more, refl)

some_lines : (text : List ℕ) → Lines text
some_lines [] = record { line = []; more = []; are = refl }
some_lines (c ∷ cs) =
    let l = some_lines cs in
    let s = some_before (ends_line (c ∷ cs)) (is_break c) c l.line l.more in
    record { line = s.0; more = s.1; are = ap (before_lines (ends_line (c ∷ cs)) (is_break c) c) l.are ∙ s.2 }

-- a character that is no break stands in the first line
pub in_first_line : (c : ℕ) (cs l : List ℕ) (ls : List (List ℕ)) → is_break c ≡ false → lines_of cs ≡ l ∷ ls
    → lines_of (c ∷ cs) ≡ (c ∷ l) ∷ ls
in_first_line c cs l ls n e = ap₂ (λ (p q : Bool). before_lines p q c (lines_of cs)) (no_line_end c cs n) n
    ∙ ap (before_lines false false c) e

-- ---- content

pub trim_start_stays : (c : ℕ) (l : List ℕ) → is_blank c ≡ false → trim_start (c ∷ l) ≡ c ∷ l
trim_start_stays c l n = ap (λ b. without_blank b (c ∷ l) (trim_start l)) n

pub trim_end_stays : (c : ℕ) (l : List ℕ) → is_blank c ≡ false → trim_end (c ∷ l) ≡ c ∷ trim_end l
trim_end_stays c l n = ap (λ b. before_trimmed b c (trim_end l)) n

fold_content : (c : ℕ) (l : List ℕ) (ls : List (List ℕ)) → is_blank c ≡ false
    → fold (trim_lines ((c ∷ l) ∷ ls)) ≡ c ∷ fold (trim_lines (l ∷ ls))
fold_content c l [] n = refl
fold_content c l (next ∷ more) n = ap (λ (t : List ℕ). t ++ fold_behind 0 (trim_behind (next ∷ more)))
    (trim_end_stays c l n)

-- a character of content folds to itself
pub folds_content : (c : ℕ) (cs : List ℕ) → is_blank c ≡ false → is_break c ≡ false → folded (c ∷ cs) ≡ c ∷ folded cs
folds_content c cs n m =
    let l = some_lines cs in
    ap (λ ls. fold (trim_lines ls)) (in_first_line c cs l.line l.more m l.are) ∙ fold_content c l.line l.more n
    ∙ ap (λ ls. c ∷ fold (trim_lines ls)) (sym l.are)

behind_content : (k c : ℕ) (l : List ℕ) (ls : List (List ℕ)) → is_blank c ≡ false
    → fold_behind k (trim_behind ((c ∷ l) ∷ ls)) ≡ break_text k ++ (c ∷ fold (trim_lines (l ∷ ls)))
behind_content k c l [] n = ap (λ (t : List ℕ). break_text k ++ t)
    (trim_start_stays c l n ∙ ap (λ (t : List ℕ). c ∷ t) (sym (append-nil l)))
behind_content k c l (next ∷ []) n =
    ap (λ (t : List ℕ). fold_behind k (trim_end t ∷ trim_start next ∷ [])) (trim_start_stays c l n)
    ∙ ap (λ (t : List ℕ). fold_behind k (t ∷ trim_start next ∷ [])) (trim_end_stays c l n)
    ∙ append_assoc (break_text k) (c ∷ trim_end l) (fold_behind 0 (trim_behind (next ∷ [])))
behind_content k c l (next ∷ other ∷ more) n =
    ap (λ (t : List ℕ). fold_behind k (trim_end t ∷ trim_behind (next ∷ other ∷ more))) (trim_start_stays c l n)
    ∙ ap (λ (t : List ℕ). fold_behind k (t ∷ trim_behind (next ∷ other ∷ more))) (trim_end_stays c l n)
    ∙ append_assoc (break_text k) (c ∷ trim_end l) (fold_behind 0 (trim_behind (next ∷ other ∷ more)))

-- content behind breaks
pub folds_behind_content : (k c : ℕ) (cs : List ℕ) → is_blank c ≡ false → is_break c ≡ false
    → folded_behind k (c ∷ cs) ≡ break_text k ++ (c ∷ folded cs)
folds_behind_content k c cs n m =
    let l = some_lines cs in
    ap (λ ls. fold_behind k (trim_behind ls)) (in_first_line c cs l.line l.more m l.are)
    ∙ behind_content k c l.line l.more n
    ∙ ap (λ ls. break_text k ++ (c ∷ fold (trim_lines ls))) (sym l.are)

-- ---- blanks

blank_start : (b : ℕ) (l : List ℕ) → is_blank b ≡ true → trim_start (b ∷ l) ≡ trim_start l
blank_start b l y = ap (λ v. without_blank v (b ∷ l) (trim_start l)) y

behind_blank : (b : ℕ) (l : List ℕ) (ls : List (List ℕ)) → is_blank b ≡ true
    → trim_behind ((b ∷ l) ∷ ls) ≡ trim_behind (l ∷ ls)
behind_blank b l [] y = ap (λ (t : List ℕ). t ∷ []) (blank_start b l y)
behind_blank b l (next ∷ more) y = ap (λ (t : List ℕ). trim_end t ∷ trim_behind (next ∷ more)) (blank_start b l y)

-- a blank that begins a line is dropped
pub folds_behind_blank : (k b : ℕ) (cs : List ℕ) → is_blank b ≡ true → is_break b ≡ false
    → folded_behind k (b ∷ cs) ≡ folded_behind k cs
folds_behind_blank k b cs y m =
    let l = some_lines cs in
    ap (λ ls. fold_behind k (trim_behind ls)) (in_first_line b cs l.line l.more m l.are)
    ∙ ap (fold_behind k) (behind_blank b l.line l.more y)
    ∙ ap (λ ls. fold_behind k (trim_behind ls)) (sym l.are)

trim_end_blank : (b d : ℕ) (t ds : List ℕ) → is_blank b ≡ true → trim_end t ≡ d ∷ ds → trim_end (b ∷ t) ≡ b ∷ d ∷ ds
trim_end_blank b d t ds y e = ap₂ (λ v (u : List ℕ). before_trimmed v b u) y e

-- blanks before content stay
trim_end_keeps : (bs : List ℕ) (c : ℕ) (l : List ℕ) → Each is_blank bs → is_blank c ≡ false
    → trim_end (bs ++ c ∷ l) ≡ bs ++ (c ∷ trim_end l)
trim_end_keeps [] c l y n = trim_end_stays c l n
trim_end_keeps (b ∷ []) c l y n = trim_end_blank b c (c ∷ l) (trim_end l) y.0 (trim_end_stays c l n)
trim_end_keeps (b ∷ d ∷ bs) c l y n = trim_end_blank b d (d ∷ (bs ++ c ∷ l)) (bs ++ (c ∷ trim_end l)) y.0
    (trim_end_keeps (d ∷ bs) c l y.1 n)

-- blanks stand in the first line
blanks_in_first : (bs cs l : List ℕ) (ls : List (List ℕ)) → Each is_blank bs → lines_of cs ≡ l ∷ ls
    → lines_of (bs ++ cs) ≡ (bs ++ l) ∷ ls
blanks_in_first [] cs l ls y e = e
blanks_in_first (b ∷ bs) cs l ls y e = in_first_line b (bs ++ cs) (bs ++ l) ls (blank_apart_from_break b y.0)
    (blanks_in_first bs cs l ls y.1 e)

fold_blanks : (bs : List ℕ) (c : ℕ) (l : List ℕ) (ls : List (List ℕ)) → Each is_blank bs → is_blank c ≡ false
    → fold (trim_lines ((bs ++ c ∷ l) ∷ ls)) ≡ bs ++ (c ∷ fold (trim_lines (l ∷ ls)))
fold_blanks bs c l [] y n = append_assoc bs (c ∷ l) []
fold_blanks bs c l (next ∷ more) y n =
    ap (λ (t : List ℕ). t ++ fold_behind 0 (trim_behind (next ∷ more))) (trim_end_keeps bs c l y n)
    ∙ append_assoc bs (c ∷ trim_end l) (fold_behind 0 (trim_behind (next ∷ more)))

-- blanks before content, and it, fold to themselves
pub folds_blanks : (bs : List ℕ) (c : ℕ) (cs : List ℕ) → Each is_blank bs → is_blank c ≡ false → is_break c ≡ false
    → folded (bs ++ c ∷ cs) ≡ bs ++ (c ∷ folded cs)
folds_blanks bs c cs y n m =
    let l = some_lines cs in
    ap (λ ls. fold (trim_lines ls)) (blanks_in_first bs (c ∷ cs) (c ∷ l.line) l.more y
    (in_first_line c cs l.line l.more m l.are))
    ∙ fold_blanks bs c l.line l.more y n
    ∙ ap (λ ls. bs ++ (c ∷ fold (trim_lines ls))) (sym l.are)

-- ---- breaks

-- these characters are one break where that follows them
abbrev pub IsBreak : (brk text : List ℕ) → Type 0
IsBreak brk text = lines_of (brk ++ text) ≡ [] ∷ lines_of text

behind_empty : (k : ℕ) (l : List ℕ) (ls : List (List ℕ))
    → fold_behind k (trim_behind ([] ∷ l ∷ ls)) ≡ fold_behind (suc k) (trim_behind (l ∷ ls))
behind_empty k l [] = refl
behind_empty k l (next ∷ more) = refl

-- a further break gives an empty line
pub folds_behind_break : (k : ℕ) (brk text : List ℕ) → IsBreak brk text
    → folded_behind k (brk ++ text) ≡ folded_behind (suc k) text
folds_behind_break k brk text e =
    let l = some_lines text in
    ap (λ ls. fold_behind k (trim_behind ls)) (e ∙ ap (λ ls. [] ∷ ls) l.are) ∙ behind_empty k l.line l.more
    ∙ ap (λ ls. fold_behind (suc k) (trim_behind ls)) (sym l.are)

all_blank : (bs : List ℕ) → Each is_blank bs → trim_end bs ≡ []
all_blank [] y = refl
all_blank (b ∷ bs) y = ap₂ (λ v (t : List ℕ). before_trimmed v b t) y.0 (all_blank bs y.1)

-- the blanks before the first break go
pub folds_break : (bs brk text : List ℕ) → Each is_blank bs → IsBreak brk text
    → folded (bs ++ (brk ++ text)) ≡ folded_behind 0 text
folds_break bs brk text y e =
    let l = some_lines text in
    ap (λ ls. fold (trim_lines ls)) (blanks_in_first bs (brk ++ text) [] (lines_of text) y e
    ∙ ap₂ (λ (t : List ℕ) ls. t ∷ ls) (append-nil bs) l.are)
    ∙ ap (λ (t : List ℕ). t ++ fold_behind 0 (trim_behind (l.line ∷ l.more))) (all_blank bs y)
    ∙ ap (λ ls. fold_behind 0 (trim_behind ls)) (sym l.are)
