-- A quoted scalar is the fold of its decoded lines.
use Rattle.std.proofs.Common.{◌≡◌, ℕ, zero, suc, ◌+◌, ◌==◌, Bool, true, false, not, ◌&&◌, map, List, [], ◌∷◌}
use Rattle.std.proofs.Common.{◌++◌, length, take, drop}
use Rattle.std.proofs.Common.{Some, refl, sym, ap, ap₂, ◌∙◌, subst, arith, append_assoc, append-nil}
use Rattle.std.proofs.Common.{eqb-true}
use Rattle.std.proofs.lemmas.Bool.{and_parts, not-true}
use Rattle.std.proofs.lemmas.List.{length-append}
use Rattle.std.proofs.Math.Bool.{and-false}
use Rattle.std.proofs.lemmas.Bool.Decides.{nat_tests}
use Rattle.std.proofs.Math.Seq.{take-append_seam, drop-append-add}
use lib.Utf8.{scalar}
use mathlib.Core.Bool.{true≢false}
use Rattle.granit_base.specs.Classes.{is_blank, is_break, is_gap, is_printable}
use Rattle.granit_base.specs.Place.{first, ends_line}
use Rattle.granit_lexemes.proofs.CharTests.{blank_apart_from_break}
use Rattle.granit_lexemes.specs.Decoding.{digit_count, number_of, is_high, joined, AreDigits}
use Rattle.granit_lexemes.specs.Decoding.{Escape, letter, number, halves}
use Rattle.granit_lexemes.specs.Gap.{Each}
use Rattle.granit_lexemes.specs.Here.{Here}
use Rattle.granit_lexemes.specs.LayoutData.{LayoutData}
use Rattle.granit_lexemes.specs.QuotedScalar.{quote_char, is_closing}
use Rattle.granit_lexemes.specs.QuotedExtent.{OneBreak, line_feed, pair, carriage_return, NewLine, no_more, blank}
use Rattle.granit_lexemes.specs.QuotedExtent.{break}
use Rattle.granit_lexemes.specs.QuotedExtent.{Between, Blanks, Lines, Separates, folded, lines_text}
use Rattle.granit_lexemes.specs.QuotedExtent.{between_text}
use Rattle.granit_lexemes.specs.QuotedExtent.{Piece, itself, doubled, escape, before_break}
use Rattle.granit_lexemes.specs.QuotedScalar.{is_literal, is_simple}
use Rattle.granit_lexemes.specs.QuotedExtent.{Inside, nothing, content, QuotedStands, quoted_value}
use Rattle.granit_lexemes.proofs.DecodingLemmas.{number_letter, u_wants_four, half_is_none}
use Rattle.granit_scalars.proofs.Comments.{none_dropped}
use Rattle.granit_scalars.proofs.PlainReads.{neither_gap}
use Rattle.granit_quoted_laws.proofs.QuotedFolding.{swap, literal_gap, blanks_are as blanks_of}
use Rattle.granit_quoted_laws.proofs.QuotedRuns.{no_break_behind, quote_no_gap, backslash_no_gap}
use Rattle.granit_quoted_lines.specs.QuotedLines.{QuotedItem, Blank, Shown, Joins, Break, escape_by, escape_of}
use Rattle.granit_quoted_lines.specs.QuotedLines.{number_by}
use Rattle.granit_quoted_lines.specs.QuotedLines.{front_by, front, items}
use Rattle.granit_quoted_lines.specs.QuotedLines.{in_first_line, item_lines, before_kept, drop_end}
use Rattle.granit_quoted_lines.specs.QuotedLines.{trimmed_behind, lines_trimmed, decoded_lines}
use Rattle.granit_quoted_lines.specs.QuotedLines.{line_text, joins_next, fold_lines_behind, fold_lines}

-- ---- lines of items

-- content, what it shows, and whether it escapes the break behind it
abbrev IsContent : QuotedItem → Type 0
IsContent (Shown c) = Unit {0}
IsContent Joins = Unit {0}
IsContent (Blank b) = ⊥
IsContent Break = ⊥

abbrev shows : QuotedItem → List ℕ
shows (Shown c) = c ∷ []
shows (Blank b) = []
shows Joins = []
shows Break = []

abbrev joined_by : QuotedItem → Bool
joined_by Joins = true
joined_by (Shown c) = false
joined_by (Blank b) = false
joined_by Break = false

-- no items are without lines
record SomeLines (is : List QuotedItem) : Type 0 where
  line : List QuotedItem
  more : List (List QuotedItem)
  are : item_lines is ≡ line ∷ more

some_lines : (is : List QuotedItem) → SomeLines is
some_lines [] = record { line = []; more = []; are = refl }
some_lines (Break ∷ is) = record { line = []; more = item_lines is; are = refl }
some_lines (Blank b ∷ is) = let l = some_lines is in record {
  line = Blank b ∷ l.line;
  more = l.more;
  are = ap (in_first_line (Blank b)) l.are;
}
some_lines (Shown c ∷ is) = let l = some_lines is in record {
  line = Shown c ∷ l.line;
  more = l.more;
  are = ap (in_first_line (Shown c)) l.are;
}
some_lines (Joins ∷ is) = let l = some_lines is in record {
  line = Joins ∷ l.line;
  more = l.more;
  are = ap (in_first_line Joins) l.are;
}

-- what items give behind content, or behind a backslash that escapes the break that they begin with
abbrev begins : Bool → List QuotedItem → List QuotedItem
begins true is = Joins ∷ is
begins false is = is

abbrev fold_of : List (List QuotedItem) → List ℕ
fold_of ls = fold_lines (lines_trimmed ls)

abbrev begun : Bool → List QuotedItem → List ℕ
begun escaped is = fold_of (item_lines (begins escaped is))

-- what they give behind a break and so many empty lines
abbrev behind_of : Bool → ℕ → List (List QuotedItem) → List ℕ
behind_of escaped k ls = fold_lines_behind escaped k (trimmed_behind ls)

abbrev after : Bool → ℕ → List QuotedItem → List ℕ
after escaped k is = behind_of escaped k (item_lines is)

-- ---- content

shown_first : (c : ℕ) (l : List QuotedItem) (ls : List (List QuotedItem))
    → fold_of ((Shown c ∷ l) ∷ ls) ≡ c ∷ fold_of (l ∷ ls)
shown_first c l [] = refl
shown_first c l (next ∷ more) = refl

content_first : (i : QuotedItem) (rest : List QuotedItem) → IsContent i
    → begun false (i ∷ rest) ≡ shows i ++ begun (joined_by i) rest
content_first (Shown c) rest y =
    let l = some_lines rest in
    ap (λ ls. fold_of (in_first_line (Shown c) ls)) l.are ∙ shown_first c l.line l.more
    ∙ ap (λ ls. c ∷ fold_of ls) (sym l.are)
content_first Joins rest y = refl
content_first (Blank b) rest y = elim y [ ]
content_first Break rest y = elim y [ ]

shown_behind : (escaped : Bool) (k c : ℕ) (l : List QuotedItem) (ls : List (List QuotedItem))
    → behind_of escaped k ((Shown c ∷ l) ∷ ls) ≡ lines_text escaped k ++ (c ∷ fold_of (l ∷ ls))
shown_behind escaped k c l [] = ap (λ (t : List ℕ). lines_text escaped k ++ (c ∷ t)) (sym (append-nil (line_text l)))
shown_behind escaped k c l (next ∷ []) = refl
shown_behind escaped k c l (next ∷ other ∷ more) = refl

joins_behind : (escaped : Bool) (k : ℕ) (l : List QuotedItem) (ls : List (List QuotedItem))
    → behind_of escaped k ((Joins ∷ l) ∷ ls) ≡ lines_text escaped k ++ fold_of ((Joins ∷ l) ∷ ls)
joins_behind escaped k l [] = ap (λ (t : List ℕ). lines_text escaped k ++ t) (sym (append-nil (line_text l)))
joins_behind escaped k l (next ∷ []) = refl
joins_behind escaped k l (next ∷ other ∷ more) = refl

content_behind : (escaped : Bool) (k : ℕ) (i : QuotedItem) (rest : List QuotedItem) → IsContent i
    → after escaped k (i ∷ rest) ≡ lines_text escaped k ++ (shows i ++ begun (joined_by i) rest)
content_behind escaped k (Shown c) rest y =
    let l = some_lines rest in
    ap (λ ls. behind_of escaped k (in_first_line (Shown c) ls)) l.are ∙ shown_behind escaped k c l.line l.more
    ∙ ap (λ ls. lines_text escaped k ++ (c ∷ fold_of ls)) (sym l.are)
content_behind escaped k Joins rest y =
    let l = some_lines rest in
    ap (λ ls. behind_of escaped k (in_first_line Joins ls)) l.are ∙ joins_behind escaped k l.line l.more
    ∙ ap (λ ls. lines_text escaped k ++ fold_of (in_first_line Joins ls)) (sym l.are)
content_behind escaped k (Blank b) rest y = elim y [ ]
content_behind escaped k Break rest y = elim y [ ]

-- ---- blanks and breaks

abbrev blank_items : List ℕ → List QuotedItem
blank_items bs = map Blank bs

blank_line_behind : (escaped : Bool) (k b : ℕ) (l : List QuotedItem) (ls : List (List QuotedItem))
    → behind_of escaped k ((Blank b ∷ l) ∷ ls) ≡ behind_of escaped k (l ∷ ls)
blank_line_behind escaped k b l [] = refl
blank_line_behind escaped k b l (next ∷ more) = refl

-- a blank that begins a line goes
blank_behind : (escaped : Bool) (k b : ℕ) (is : List QuotedItem) → after escaped k (Blank b ∷ is) ≡ after escaped k is
blank_behind escaped k b is =
    let l = some_lines is in
    ap (λ ls. behind_of escaped k (in_first_line (Blank b) ls)) l.are ∙ blank_line_behind escaped k b l.line l.more
    ∙ ap (behind_of escaped k) (sym l.are)

empty_line_behind : (escaped : Bool) (k : ℕ) (l : List QuotedItem) (ls : List (List QuotedItem))
    → behind_of escaped k ([] ∷ l ∷ ls) ≡ behind_of escaped (suc k) (l ∷ ls)
empty_line_behind escaped k l [] = refl
empty_line_behind escaped k l (next ∷ more) = refl

-- a further break gives an empty line
break_behind : (escaped : Bool) (k : ℕ) (is : List QuotedItem) → after escaped k (Break ∷ is) ≡ after escaped (suc k) is
break_behind escaped k is =
    let l = some_lines is in
    ap (λ ls. behind_of escaped k ([] ∷ ls)) l.are ∙ empty_line_behind escaped k l.line l.more
    ∙ ap (behind_of escaped (suc k)) (sym l.are)

-- blanks in the first line
blanks_first : (bs : List ℕ) (is : List QuotedItem) (l : List QuotedItem) (ls : List (List QuotedItem))
    → item_lines is ≡ l ∷ ls
    → item_lines (blank_items bs ++ is) ≡ (blank_items bs ++ l) ∷ ls
blanks_first [] is l ls e = e
blanks_first (b ∷ bs) is l ls e = ap (in_first_line (Blank b)) (blanks_first bs is l ls e)

blanks_end : (bs : List ℕ) → drop_end (blank_items bs) ≡ []
blanks_end [] = refl
blanks_end (b ∷ bs) = ap (before_kept b) (blanks_end bs)

nothing_more : (bs : List QuotedItem) → bs ++ [] ≡ bs
nothing_more bs = append-nil bs

-- the blanks before the first break go
first_break : (bs : List ℕ) (is : List QuotedItem) → begun false (blank_items bs ++ Break ∷ is) ≡ after false 0 is
first_break bs is =
    let l = some_lines is in
    ap fold_of (blanks_first bs (Break ∷ is) [] (item_lines is) refl
    ∙ ap₂ (λ (t : List QuotedItem) ls. t ∷ ls) (nothing_more (blank_items bs)) l.are)
    ∙ ap (λ (t : List QuotedItem). line_text t ++ fold_lines_behind (joins_next t) 0 (trimmed_behind (l.line ∷ l.more)))
    (blanks_end bs)
    ∙ ap (behind_of false 0) (sym l.are)

escaped_break : (is : List QuotedItem) → begun true (Break ∷ is) ≡ after true 0 is
escaped_break is =
    let l = some_lines is in
    ap (λ ls. fold_of ((Joins ∷ []) ∷ ls)) l.are ∙ ap (behind_of true 0) (sym l.are)

-- blanks before content stay
record Kept (line : List QuotedItem) : Type 0 where
  head : QuotedItem
  tail : List QuotedItem
  are : drop_end line ≡ head ∷ tail

content_kept : (i : QuotedItem) (l : List QuotedItem) → IsContent i → Kept (i ∷ l)
content_kept (Shown c) l y = record { head = Shown c; tail = drop_end l; are = refl }
content_kept Joins l y = record { head = Joins; tail = drop_end l; are = refl }
content_kept (Blank b) l y = elim y [ ]
content_kept Break l y = elim y [ ]

blanks_kept : (bs : List ℕ) (i : QuotedItem) (l : List QuotedItem) → IsContent i → Kept (blank_items bs ++ i ∷ l)
blanks_kept [] i l y = content_kept i l y
blanks_kept (b ∷ bs) i l y = let k = blanks_kept bs i l y in record {
  head = Blank b;
  tail = k.head ∷ k.tail;
  are = ap (before_kept b) k.are;
}

blank_first : (b : ℕ) (l : List QuotedItem) (ls : List (List QuotedItem)) → Kept l
    → fold_of ((Blank b ∷ l) ∷ ls) ≡ b ∷ fold_of (l ∷ ls)
blank_first b l [] k = refl
blank_first b l (next ∷ more) k =
    let fold_with : List QuotedItem → List ℕ = λ t. line_text t ++ fold_lines_behind (joins_next t) 0
    (trimmed_behind (next ∷ more)) in
    ap (λ (t : List QuotedItem). fold_with (before_kept b t)) k.are
    ∙ ap (λ (t : List QuotedItem). b ∷ fold_with t) (sym k.are)

blanks_before : (bs : List ℕ) (i : QuotedItem) (l : List QuotedItem) (ls : List (List QuotedItem)) → IsContent i
    → fold_of ((blank_items bs ++ i ∷ l) ∷ ls) ≡ bs ++ fold_of ((i ∷ l) ∷ ls)
blanks_before [] i l ls y = refl
blanks_before (b ∷ bs) i l ls y = blank_first b (blank_items bs ++ i ∷ l) ls (blanks_kept bs i l y)
    ∙ ap (λ (t : List ℕ). b ∷ t) (blanks_before bs i l ls y)

content_line : (i : QuotedItem) (rest : List QuotedItem) (l : List QuotedItem)
    (ls : List (List QuotedItem)) → IsContent i
    → item_lines rest ≡ l ∷ ls → item_lines (i ∷ rest) ≡ (i ∷ l) ∷ ls
content_line (Shown c) rest l ls y e = ap (in_first_line (Shown c)) e
content_line Joins rest l ls y e = ap (in_first_line Joins) e
content_line (Blank b) rest l ls y e = elim y [ ]
content_line Break rest l ls y e = elim y [ ]

blanks_content : (bs : List ℕ) (i : QuotedItem) (rest : List QuotedItem) → IsContent i
    → begun false (blank_items bs ++ i ∷ rest) ≡ bs ++ (shows i ++ begun (joined_by i) rest)
blanks_content bs i rest y =
    let l = some_lines rest in
    let one = content_line i rest l.line l.more y l.are in
    ap fold_of (blanks_first bs (i ∷ rest) (i ∷ l.line) l.more one) ∙ blanks_before bs i l.line l.more y
    ∙ ap (λ (t : List ℕ). bs ++ t) (ap fold_of (sym one) ∙ content_first i rest y)

blanks_alone : (bs : List ℕ) → line_text (blank_items bs) ≡ bs
blanks_alone [] = refl
blanks_alone (b ∷ bs) = ap (λ (t : List ℕ). b ∷ t) (blanks_alone bs)

only_blanks : (bs : List ℕ) → begun false (blank_items bs) ≡ bs
only_blanks bs =
    ap (λ (is : List QuotedItem). begun false is) (sym (nothing_more (blank_items bs)))
    ∙ ap fold_of (blanks_first bs [] [] [] refl ∙ ap (λ (t : List QuotedItem). t ∷ []) (nothing_more (blank_items bs)))
    ∙ append-nil (line_text (blank_items bs)) ∙ blanks_alone bs

-- ---- items of a source

by_front : (single : Bool) (c : ℕ) (cs : List ℕ) (f : List QuotedItem × ℕ) → front single c cs ≡ f
    → items single 0 (c ∷ cs) ≡ f.0 ++ items single f.1 cs
by_front single c cs f e = ap (λ (g : List QuotedItem × ℕ). g.0 ++ items single g.1 cs) e

skips : (single : Bool) (ds t : List ℕ) → items single (length ds) (ds ++ t) ≡ items single 0 t
skips single [] t = refl
skips single (d ∷ ds) t = skips single ds t

one_blank : (single : Bool) (b : ℕ) (t : List ℕ) → is_blank b ≡ true
    → items single 0 (b ∷ t) ≡ Blank b ∷ items single 0 t
one_blank single b t y =
    by_front single b t (Blank b ∷ [], 0)
    (ap (λ v. front_by v (is_break b) (ends_line (b ∷ t)) (single && b == 0x27) (not single && b == 0x5C)
    (is_break (first t)) b t) y)

blanks_are : (single : Bool) (bs t : List ℕ) → Each is_blank bs
    → items single 0 (bs ++ t) ≡ blank_items bs ++ items single 0 t
blanks_are single [] t y = refl
blanks_are single (b ∷ bs) t y = one_blank single b (bs ++ t) y.0
    ∙ ap (λ (is : List QuotedItem). Blank b ∷ is) (blanks_are single bs t y.1)

one_break : (single : Bool) {brk behind : List ℕ} → OneBreak brk behind
    → items single 0 (brk ++ behind) ≡ Break ∷ items single 0 behind
unfolding is_blank is_break
one_break single line_feed = refl
one_break single pair = refl
one_break single {behind = behind} (carriage_return n) =
    by_front single 0x0D behind (Break ∷ [], 0)
    (ap (λ v. front_by false true (not v) (single && false) (not single && false)
    (is_break (first behind)) 0x0D behind) n)

further_line : {at : LayoutData} {column empty last : ℕ} {text behind : List ℕ}
    → NewLine at column text behind empty last → (single escaped : Bool) (k : ℕ)
    → after escaped k (items single 0 (text ++ behind)) ≡ after escaped (k + empty) (items single 0 behind)
further_line {behind = behind} no_more single escaped k =
    let e : k ≡ k + 0 = omega arith in
    ap (λ n. after escaped n (items single 0 behind)) e
further_line {behind = behind} (blank {text = text} b y z more) single escaped k =
    ap (after escaped k) (one_blank single b (text ++ behind) y)
    ∙ blank_behind escaped k b (items single 0 (text ++ behind)) ∙ further_line more single escaped k
further_line {behind = behind} (break {text = text} {empty = empty} brk one more) single escaped k =
    let e : suc k + empty ≡ k + suc empty = omega arith in
    ap (λ (t : List ℕ). after escaped k (items single 0 t)) (append_assoc brk text behind)
    ∙ ap (after escaped k) (one_break single one)
    ∙ break_behind escaped k (items single 0 (text ++ behind)) ∙ further_line more single escaped (suc k)
    ∙ ap (λ n. after escaped n (items single 0 behind)) e

-- ---- items of a piece of content

-- a character that stands for itself is neither a doubled quote nor a backslash
plain_parts : (single : Bool) (c : ℕ) → is_literal single c ≡ true
    → ((single && c == 0x27) ≡ false) × ((not single && c == 0x5C) ≡ false)
unfolding is_literal
plain_parts true c y =
    let simple = (and_parts (not (is_gap c) && is_printable c) (is_simple true c) y).1 in
    (not-true (c == 0x27) (and_parts (not (c == 0x27)) true simple).0, refl)
plain_parts false c y =
    let simple = (and_parts (not (is_gap c) && is_printable c) (is_simple false c) y).1 in
    (refl, not-true (c == 0x5C) (and_parts (not (c == 0x22)) (not (c == 0x5C)) simple).1)

one_literal : (single : Bool) (c : ℕ) (t : List ℕ) → is_literal single c ≡ true
    → items single 0 (c ∷ t) ≡ Shown c ∷ items single 0 t
one_literal single c t y =
    let gap = neither_gap c (literal_gap single c y) in
    let p = plain_parts single c y in
    by_front single c t (Shown c ∷ [], 0)
    (ap₂ (λ v w. front_by v w (ends_line (c ∷ t)) (single && c == 0x27) (not single && c == 0x5C)
    (is_break (first t)) c t) gap.0 gap.1
    ∙ ap₂ (λ v w. front_by false false (ends_line (c ∷ t)) v w (is_break (first t)) c t) p.0 p.1)

one_quote : (t : List ℕ) → items true 0 (0x27 ∷ 0x27 ∷ t) ≡ Shown 0x27 ∷ items true 0 t
unfolding is_blank is_break
one_quote t = refl

one_join : (t : List ℕ) → is_break (first t) ≡ true → items false 0 (0x5C ∷ t) ≡ Joins ∷ items false 0 t
unfolding is_blank is_break
one_join t y =
    by_front false 0x5C t (Joins ∷ [], 0) (ap (λ v. front_by false false (ends_line (0x5C ∷ t)) false true v 0x5C t) y)

one_escape : (s : List ℕ) (c n : ℕ) → is_break (first s) ≡ false → escape_of s ≡ (c, n)
    → items false 0 (0x5C ∷ s) ≡ Shown c ∷ items false n s
unfolding is_blank is_break
one_escape s c n y e =
    by_front false 0x5C s (Shown (escape_of s).0 ∷ [], (escape_of s).1)
    (ap (λ v. front_by false false (ends_line (0x5C ∷ s)) false true v 0x5C s) y)
    ∙ ap (λ (p : ℕ × ℕ). Shown p.0 ∷ items false p.1 s) e

no_half : (n : ℕ) (b : Bool) → is_high n ≡ b → scalar n ≡ true → is_high n ≡ false
no_half n true y s = absurd (true≢false (sym s ∙ half_is_none n y))
no_half n false y s = y

-- digits in front of other characters
digits_taken : (count : ℕ) (digits t : List ℕ) → AreDigits count digits → take count (digits ++ t) ≡ digits
digits_taken count digits t a = ap (λ n. take n (digits ++ t)) (sym a.counted) ∙ take-append_seam digits t

numbered : (l count : ℕ) (digits t : List ℕ) → digit_count l ≡ Some count → AreDigits count digits
    → scalar (number_of digits) ≡ true → escape_of (l ∷ (digits ++ t)) ≡ (number_of digits, suc count)
numbered l count digits t y a s =
    let taken = digits_taken count digits t a in
    let single_half : (count == 4 && is_high (number_of (take count (digits ++ t)))) ≡ false =
    ap (λ (ds : List ℕ). count == 4 && is_high (number_of ds)) taken
    ∙ ap (λ b. count == 4 && b) (no_half (number_of digits) (is_high (number_of digits)) refl s)
    ∙ and-false (count == 4) in
    ap₂ (λ v w. escape_by v w (digits ++ t)) (number_letter l count y) y
    ∙ ap (λ b. number_by b count (digits ++ t)) single_half
    ∙ ap (λ (ds : List ℕ). (number_of ds, suc count)) taken

second_taken : (high low t : List ℕ) → AreDigits 4 high → AreDigits 4 low
    → take 4 (drop 6 (high ++ (0x5C ∷ 0x75 ∷ (low ++ t)))) ≡ low
second_taken high low t a b =
    let six : 6 ≡ length high + 2 = omega (arith, a.counted) in
    ap (take 4)
    (ap (λ n. drop n (high ++ (0x5C ∷ 0x75 ∷ (low ++ t)))) six ∙ drop-append-add high (0x5C ∷ 0x75 ∷ (low ++ t)) 2
    ∙ none_dropped (low ++ t))
    ∙ digits_taken 4 low t b

paired : (high low t : List ℕ) → AreDigits 4 high → is_high (number_of high) ≡ true → AreDigits 4 low
    → escape_of (0x75 ∷ (high ++ (0x5C ∷ 0x75 ∷ (low ++ t)))) ≡ (joined (number_of high) (number_of low), 11)
paired high low t a p b =
    let d = high ++ (0x5C ∷ 0x75 ∷ (low ++ t)) in
    let taken = digits_taken 4 high (0x5C ∷ 0x75 ∷ (low ++ t)) a in
    ap₂ (λ v w. escape_by v w d) (number_letter 0x75 4 u_wants_four) u_wants_four
    ∙ ap (λ b. number_by b 4 d) (ap (λ (ds : List ℕ). is_high (number_of ds)) taken ∙ p)
    ∙ ap₂ (λ (m n : List ℕ). (joined (number_of m) (number_of n), 11)) taken (second_taken high low t a b)

escape_items : {e : List ℕ} {c : ℕ} → Escape e c → (t : List ℕ) → items false 0 (e ++ t) ≡ Shown c ∷ items false 0 t
escape_items (letter {l = l} {c = c} y) t =
    one_escape (l ∷ t) c 1 (no_break_behind (letter y) t).0 (ap (λ v. escape_by v (digit_count l) t) y)
escape_items (number {l = l} {count = count} {digits = digits} y a s) t =
    one_escape (l ∷ (digits ++ t)) (number_of digits) (suc count) (no_break_behind (number y a s) t).0
    (numbered l count digits t y a s)
    ∙ ap (λ (is : List QuotedItem). Shown (number_of digits) ∷ is)
    (ap (λ n. items false n (digits ++ t)) (sym a.counted)
    ∙ skips false digits t)
escape_items (halves {high = high} {low = low} a p b q) t =
    let both = high ++ 0x5C ∷ 0x75 ∷ low in
    let there : both ++ t ≡ high ++ (0x5C ∷ 0x75 ∷ (low ++ t)) = append_assoc high (0x5C ∷ 0x75 ∷ low) t in
    let ten : 10 ≡ length both = omega (arith, length-append high (0x5C ∷ 0x75 ∷ low), a.counted, b.counted) in
    let c = joined (number_of high) (number_of low) in
    one_escape (0x75 ∷ (both ++ t)) c 11 (no_break_behind (halves a p b q) t).0 (ap
    (λ (s : List ℕ). escape_of (0x75 ∷ s)) there ∙ paired high low t a p b)
    ∙ ap (λ (is : List QuotedItem). Shown c ∷ is) (ap (λ n. items false n (both ++ t)) ten ∙ skips false both t)

-- a piece is one item
record PieceItem (single : Bool) (piece t taken : List ℕ) (escapes : Bool) : Type 0 where
  item : QuotedItem
  is_content : IsContent item
  read : items single 0 (piece ++ t) ≡ item ∷ items single 0 t
  value : taken ≡ shows item
  joined_so : escapes ≡ joined_by item
  no_gap : is_gap (first (piece ++ t)) ≡ false
  broken : escapes ≡ true → is_break (first t) ≡ true

piece_item : {single : Bool} {piece behind taken : List ℕ} {escapes : Bool}
    → Piece single piece behind taken escapes → (t : List ℕ) → (is_break (first behind) ≡ true
    → is_break (first t) ≡ true)
    → PieceItem single piece t taken escapes
piece_item {single} (itself {c = c} y) t keeps = record {
  item = Shown c;
  is_content = tt;
  read = one_literal single c t y;
  value = refl;
  joined_so = refl;
  no_gap = literal_gap single c y;
  broken = λ e. absurd (true≢false (sym e));
}
piece_item doubled t keeps = record {
  item = Shown 0x27;
  is_content = tt;
  read = one_quote t;
  value = refl;
  joined_so = refl;
  no_gap = quote_no_gap true;
  broken = λ e. absurd (true≢false (sym e));
}
piece_item (escape {c = c} y) t keeps = record {
  item = Shown c;
  is_content = tt;
  read = escape_items y t;
  value = refl;
  joined_so = refl;
  no_gap = ap is_gap (no_break_behind y t).1 ∙ backslash_no_gap;
  broken = λ e. absurd (true≢false (sym e));
}
piece_item (before_break y) t keeps = record {
  item = Joins;
  is_content = tt;
  read = one_join t (keeps y);
  value = refl;
  joined_so = refl;
  no_gap = backslash_no_gap;
  broken = λ e. keeps y;
}

-- ---- blanks and breaks before content and behind it

-- no blank stands behind an escaped break's backslash
no_blanks : (blanks r : List ℕ) → Each is_blank blanks → is_break (first r) ≡ false
    → is_break (first (blanks ++ r)) ≡ true → ⊥
no_blanks [] r y n b = true≢false (sym b ∙ n)
no_blanks (c ∷ cs) r y n b = true≢false (sym b ∙ blank_apart_from_break c y.0)

begins_break : (escaped : Bool) (blanks r : List ℕ) (is : List QuotedItem) → Each is_blank blanks → (escaped ≡ true
    → is_break (first (blanks ++ r)) ≡ true) → begun escaped (blank_items blanks ++ Break ∷ is) ≡ after escaped 0 is
begins_break false blanks r is y f = first_break blanks is
begins_break true [] r is y f = escaped_break is
begins_break true (b ∷ bs) r is y f = absurd (true≢false (sym (f refl) ∙ blank_apart_from_break b y.0))

lines_before : {at : LayoutData} {gap behind : List ℕ} {empty column : ℕ}
    → Separates at gap behind (Lines empty column) → (single escaped : Bool) → (escaped ≡ true
    → is_break (first (gap ++ behind)) ≡ true)
    → begun escaped (items single 0 (gap ++ behind)) ≡ after escaped empty (items single 0 behind)
lines_before {behind = behind} (folded {text = text} {empty = empty} blanks brk each one more) single escaped f =
    let r = brk ++ (text ++ behind) in
    let there : (blanks ++ (brk ++ text)) ++ behind ≡ blanks ++ r = append_assoc blanks (brk ++ text) behind
    ∙ ap (λ (t : List ℕ). blanks ++ t) (append_assoc brk text behind) in
    let e : 0 + empty ≡ empty = omega arith in
    ap (λ (t : List ℕ). begun escaped (items single 0 t)) there
    ∙ ap (begun escaped) (blanks_are single blanks r each
    ∙ ap (λ (is : List QuotedItem). blank_items blanks ++ is) (one_break single one))
    ∙ begins_break escaped blanks r (items single 0 (text ++ behind)) each (λ y. subst
    (λ (t : List ℕ). is_break (first t) ≡ true) there (f y))
    ∙ further_line more single escaped 0 ∙ ap (λ n. after escaped n (items single 0 behind)) e

gap_then : {at : LayoutData} {gap behind : List ℕ} (x : Between) → Separates at gap behind x
    → (single escaped : Bool) (i : QuotedItem) (rest : List QuotedItem) → items single 0 behind ≡ i ∷ rest → IsContent i
    → is_break (first behind) ≡ false → (escaped ≡ true → is_break (first (gap ++ behind)) ≡ true)
    → begun escaped (items single 0 (gap ++ behind))
    ≡ between_text escaped x ++ (shows i ++ begun (joined_by i) rest)
gap_then {behind = behind} (Blanks blanks) p single true i rest e y n f =
    let b = blanks_of p in
    absurd (no_blanks blanks behind b.1 n (subst (λ (t : List ℕ). is_break (first (t ++ behind)) ≡ true) b.0 (f refl)))
gap_then {behind = behind} (Blanks blanks) p single false i rest e y n f =
    let b = blanks_of p in
    ap (λ (t : List ℕ). begun false (items single 0 (t ++ behind))) b.0
    ∙ ap (begun false) (blanks_are single blanks behind b.1 ∙ ap (λ (is : List QuotedItem). blank_items blanks ++ is) e)
    ∙ blanks_content blanks i rest y
gap_then (Lines empty column) p single escaped i rest e y n f =
    lines_before p single escaped f ∙ ap (after escaped empty) e ∙ content_behind escaped empty i rest y

nul_breaks_no_line : is_break (first []) ≡ false
unfolding is_break
nul_breaks_no_line = refl

gap_last : {at : LayoutData} {gap : List ℕ} (x : Between) → Separates at gap [] x → (single escaped : Bool)
    → (escaped ≡ true → is_break (first gap) ≡ true) → begun escaped (items single 0 gap) ≡ between_text escaped x
gap_last {gap = gap} (Blanks blanks) p single true f =
    let b = blanks_of p in
    absurd (no_blanks blanks [] b.1 nul_breaks_no_line (subst (λ (t : List ℕ). is_break (first t) ≡ true)
    (b.0 ∙ sym (append-nil blanks)) (f refl)))
gap_last {gap = gap} (Blanks blanks) p single false f =
    let b = blanks_of p in
    ap (λ (t : List ℕ). begun false (items single 0 t)) (b.0 ∙ sym (append-nil blanks))
    ∙ ap (begun false) (blanks_are single blanks [] b.1 ∙ nothing_more (blank_items blanks)) ∙ only_blanks blanks
gap_last {gap = gap} (Lines empty column) p single escaped f =
    let whole = append-nil gap in
    ap (λ (t : List ℕ). begun escaped (items single 0 t)) (sym whole)
    ∙ lines_before p single escaped (λ y. subst (λ (t : List ℕ). is_break (first t) ≡ true) (sym whole) (f y))
    ∙ append-nil (lines_text escaped empty)

-- ---- the scalar

no_feed : (t : List ℕ) → is_gap (first t) ≡ false → (first t == 0x0A) ≡ false
unfolding is_gap is_blank is_break
no_feed t n = grind (arith, nat_tests)

inside_lines : {single : Bool} {at : LayoutData} {escaped left : Bool} {source behind value : List ℕ}
    → Inside single at escaped source behind value left → (further : List ℕ) (x : Between) → Separates at further [] x
    → ((t : List ℕ) → is_break (first (t ++ behind)) ≡ true → is_break (first (t ++ further)) ≡ true)
    → (escaped ≡ true → is_break (first (source ++ further)) ≡ true)
    → begun escaped (items single 0 (source ++ further)) ≡ value ++ between_text left x
inside_lines {single} {escaped = escaped} nothing further x p keeps f = gap_last x p single escaped f
inside_lines {single} {at} {escaped = escaped} {left = left} {source = source} (content {gap = gap} {piece =
    piece} {cs = cs} {taken = taken} {more = more} y is v q piece_is m on) further x p keeps f =
    let t = cs ++ further in
    let one = piece_item piece_is t (keeps cs) in
    let there : source ++ further ≡ gap ++ (piece ++ t) =
    ap (λ (s : List ℕ). s ++ further) is ∙ append_assoc gap (piece ++ cs) further
    ∙ ap (λ (s : List ℕ). gap ++ s) (append_assoc piece cs further) in
    let apart : Separates at gap (piece ++ t) y = swap q (piece ++ t) (no_feed (piece ++ t) one.no_gap) in
    let rest : begun (joined_by one.item) (items single 0 t) ≡ more ++ between_text left x =
    ap (λ b. begun b (items single 0 t)) (sym one.joined_so) ∙ inside_lines on further x p keeps one.broken in
    ap (λ (s : List ℕ). begun escaped (items single 0 s)) there
    ∙ gap_then y apart single escaped one.item (items single 0 t) one.read one.is_content (neither_gap (first
    (piece ++ t)) one.no_gap).1
    (λ e. subst (λ (s : List ℕ). is_break (first s) ≡ true) there (f e))
    ∙ ap₂ (λ (a b : List ℕ). between_text escaped y ++ (a ++ b)) (sym one.value) rest
    ∙ sym (ap (λ (s : List ℕ). s ++ between_text left x) v
    ∙ append_assoc (between_text escaped y) (taken ++ more) (between_text left x)
    ∙ ap (λ (s : List ℕ). between_text escaped y ++ s) (append_assoc taken more (between_text left x)))

-- the closing quote is no break
quote_first : (single : Bool) (rest : List ℕ) → is_closing single rest ≡ true → is_break (first rest) ≡ false
unfolding is_closing
quote_first single rest y =
    let is : first rest ≡ quote_char single = eqb-true (first rest) (quote_char single) (and_parts _ _ y).0 in
    ap is_break is ∙ (neither_gap (quote_char single) (quote_no_gap single)).1

without_rest : (t gap rest : List ℕ) → is_break (first rest) ≡ false → is_break (first (t ++ (gap ++ rest))) ≡ true
    → is_break (first (t ++ gap)) ≡ true
without_rest [] [] rest n y = absurd (true≢false (sym y ∙ n))
without_rest [] (c ∷ gap) rest n y = y
without_rest (c ∷ t) gap rest n y = y

-- the value of a quoted scalar is the fold of its decoded lines
pub lines_fold : (single : Bool) (at : LayoutData) (h : Here) (source value gap : List ℕ) (left : Bool)
    (x : Between) (rest : List ℕ) → QuotedStands single at h source value gap left x rest
    → quoted_value value left x ≡ fold_lines (decoded_lines single (source ++ gap))
lines_fold single at h source value gap left x rest p =
    sym (inside_lines p.front.inside gap x (swap p.front.separated [] refl) (λ t. without_rest t gap rest
    (quote_first single rest p.closing)) (λ e. absurd (true≢false (sym e))))

-- ---- without a break

front_alone : (is_one ends twice slash joins : Bool) (c : ℕ) (cs : List ℕ) (is : List QuotedItem)
    → item_lines is ≡ is ∷ []
    → item_lines ((front_by is_one false ends twice slash joins c cs).0 ++ is)
    ≡ ((front_by is_one false ends twice slash joins c cs).0 ++ is) ∷ []
front_alone true ends twice slash joins c cs is e = ap (in_first_line (Blank c)) e
front_alone false ends true slash joins c cs is e = ap (in_first_line (Shown c)) e
front_alone false ends false true true c cs is e = ap (in_first_line Joins) e
front_alone false ends false true false c cs is e = ap (in_first_line (Shown (escape_of cs).0)) e
front_alone false ends false false joins c cs is e = ap (in_first_line (Shown c)) e

one_line : (single : Bool) (n : ℕ) (source : List ℕ) → Each (λ c. not (is_break c)) source
    → item_lines (items single n source) ≡ items single n source ∷ []
one_line single n [] y = refl
one_line single (suc n) (c ∷ cs) y = one_line single n cs y.1
one_line single zero (c ∷ cs) y =
    let unbroken : front single c cs ≡ front_by (is_blank c) false (ends_line (c ∷ cs)) (single && c == 0x27)
    (not single && c == 0x5C) (is_break (first cs)) c cs =
    ap (λ b. front_by (is_blank c) b (ends_line (c ∷ cs)) (single && c == 0x27) (not single && c == 0x5C) (is_break
    (first cs)) c cs) (not-true (is_break c) y.0) in
    let rest = one_line single (front single c cs).1 cs y.1 in
    ap (λ (f : List QuotedItem × ℕ). item_lines (f.0 ++ items single (front single c cs).1 cs)) unbroken
    ∙ front_alone (is_blank c) (ends_line (c ∷ cs)) (single && c == 0x27) (not single && c == 0x5C) (is_break
    (first cs)) c cs (items single (front single c cs).1 cs) rest
    ∙ ap (λ (f : List QuotedItem × ℕ). (f.0 ++ items single (front single c cs).1 cs) ∷ []) (sym unbroken)

-- a quoted scalar on one line is what stands between its quotes, decoded
pub line_alone : (single : Bool) (at : LayoutData) (h : Here) (source value gap : List ℕ) (left : Bool)
    (x : Between) (rest : List ℕ) → QuotedStands single at h source value gap left x rest
    → Each (λ c. not (is_break c)) (source ++ gap)
    → quoted_value value left x ≡ line_text (items single 0 (source ++ gap))
line_alone single at h source value gap left x rest p y =
    lines_fold single at h source value gap left x rest p ∙ ap fold_of (one_line single 0 (source ++ gap) y)
    ∙ append-nil (line_text (items single 0 (source ++ gap)))
