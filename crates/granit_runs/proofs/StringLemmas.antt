-- Steps over a string.
use Rattle.std.proofs.Common.{◌≡◌, ℕ, ◌+◌, ◌-◌, ◌<◌, ◌≤◌, true, List, [], ◌∷◌, ◌++◌, length, take, drop, slice_range}
use Rattle.std.proofs.Common.{Bool, refl, sym, ap, subst, ◌∙◌, arith}
use Rattle.std.specs.Char.{encode_utf8}
use Rattle.std.specs.Str.{chars, encode_utf8_all, is_utf8, IsUtf8, IsCharBoundary}
use Rattle.std.proofs.lemmas.List.{length-append, length-take-le, append-nil, append_assoc, drop-drop, drop_at}
use Rattle.std.proofs.lemmas.List.{length-drop, take_all, drop_all}
use Rattle.std.proofs.Math.Seq.{take-append_seam}
use Rattle.std.proofs.lemmas.Str.{encodes-append, encodes-chars, encodes_same, IsCharBoundary-at_seam, IsUtf8-past_char}
use Rattle.std.proofs.lemmas.Str.{IsUtf8-from_is_utf8, is_utf8-from_IsUtf8}
use Rattle.granit_base.specs.Classes.{is_break, is_breakz, is_z}
use Rattle.granit_base.specs.Place.{Unread, first}
use Rattle.granit_runs.proofs.RunLemmas.{run_within}
use Rattle.granit_runs.proofs.WhiteLemmas.{take_more}
use Rattle.granit_runs.specs.Chunks.{TakesFront, SkipsFront, TakesText}
use Rattle.granit_runs.specs.Cuts.{SpellsFront, last_bytes}
use Rattle.granit_runs.specs.Runs.{run_length}
use Rattle.granit_runs.specs.Unread.{past_count, left_of, utf8_length}

-- so many characters on, what is left of a string is what is left behind their bytes
pub past_bytes : (source rest after : List ℕ) (n : ℕ) → length rest ≤ length source → chars after ≡ drop n (chars rest)
    → rest ≡ encode_utf8_all (take n (chars rest)) ++ after
    → past_count n (left_of source rest) ≡ left_of source after
unfolding past_count
past_bytes source rest after n fits text bytes =
    let len : length rest ≡ utf8_length (take n (chars rest)) + length after = ap length bytes
    ∙ length-append (encode_utf8_all (take n (chars rest))) after in
    let moved : length source - length rest + utf8_length (take n (chars rest))
    ≡ length source - length after = omega arith in
    rw (text, moved) refl

pub suffix_bytes : (source rest after front : List ℕ) → length rest ≤ length source
    → drop (length source - length rest) source ≡ rest → rest ≡ front ++ after
    → drop (length source - length after) source ≡ after
suffix_bytes source rest after front fits suffix bytes =
    let len : length rest ≡ length front + length after = ap length bytes ∙ length-append front after in
    let moved : length source - length after ≡ length source - length rest + length front = omega arith in
    rw (moved, ← drop-drop, suffix, bytes) (drop_at front after _ refl)

pub within_bytes : (source rest after front : List ℕ) → length rest ≤ length source → rest ≡ front ++ after
    → length after ≤ length source
within_bytes source rest after front fits bytes = omega (arith, ap length bytes ∙ length-append front after)

-- the bytes of one character
pub one_bytes : (rest after : List ℕ) (c : ℕ) → chars rest ≡ c ∷ chars after → rest ≡ encode_utf8 c ++ after
    → rest ≡ encode_utf8_all (take 1 (chars rest)) ++ after
one_bytes rest after c text bytes = bytes ∙ ap (λ (bs : List ℕ). bs ++ after)
    (sym (ap (λ (cs : List ℕ). encode_utf8_all (take 1 cs)) text ∙ append-nil (encode_utf8 c)))

-- ---- a string read on, character by character

-- where nothing is left, more characters are the same
pub behind_end : (s rest : List ℕ) (taken count : ℕ) → taken ≤ count → chars rest ≡ drop taken (chars s)
    → chars rest ≡ [] → s ≡ encode_utf8_all (take taken (chars s)) ++ rest
    → s ≡ encode_utf8_all (take count (chars s)) ++ rest
behind_end s rest taken count within text none bytes =
    let short : length (chars s) ≤ taken = omega (arith, length-drop taken (chars s), ap length (sym text ∙ none)) in
    let all = take_all taken (chars s) short in
    let more = take_all count (chars s) (omega arith) in
    rw (more, ← all) bytes

behind_text : (s rest after : List ℕ) (taken c : ℕ) → chars rest ≡ drop taken (chars s) → chars rest ≡ c ∷ chars after
    → chars after ≡ drop (taken + 1) (chars s)
behind_text s rest after taken c text more = ap (drop 1) (sym more ∙ text) ∙ drop-drop 1 taken (chars s)

behind_bytes : (s rest after : List ℕ) (taken c : ℕ) → chars rest ≡ drop taken (chars s) → chars rest ≡ c ∷ chars after
    → rest ≡ encode_utf8 c ++ after
    → s ≡ encode_utf8_all (take taken (chars s)) ++ rest → s ≡ encode_utf8_all (take (taken + 1) (chars s)) ++ after
behind_bytes s rest after taken c text more bytes so_far =
    let here : drop taken (chars s) ≡ c ∷ chars after = sym text ∙ more in
    let some : 0 < length (drop taken (chars s)) = omega (arith, ap length here) in
    let next : take (taken + 1) (chars s) ≡ take taken (chars s) ++ c ∷ [] = take_more taken (chars s) some
    ∙ ap (λ (x : ℕ). take taken (chars s) ++ x ∷ []) (ap first here) in
    let spelt : encode_utf8_all (take (taken + 1) (chars s)) ≡ encode_utf8_all (take taken (chars s)) ++ encode_utf8 c =
    ap encode_utf8_all next ∙ encodes-append (take taken (chars s)) (c ∷ [])
    ∙ ap (λ (bs : List ℕ). encode_utf8_all (take taken (chars s)) ++ bs) (append-nil (encode_utf8 c)) in
    rw (spelt, append_assoc (encode_utf8_all (take taken (chars s))) (encode_utf8 c) after, ← bytes) so_far

-- one character more is behind
pub behind_more : (s rest after : List ℕ) (taken c : ℕ) → chars rest ≡ drop taken (chars s)
    → chars rest ≡ c ∷ chars after → rest ≡ encode_utf8 c ++ after
    → s ≡ encode_utf8_all (take taken (chars s)) ++ rest
    → (chars after ≡ drop (taken + 1) (chars s)) × (s ≡ encode_utf8_all (take (taken + 1) (chars s)) ++ after)
behind_more s rest after taken c text more bytes so_far =
    (behind_text s rest after taken c text more, behind_bytes s rest after taken c text more bytes so_far)

-- ---- one character of a string is read

pub read_left : (source rest after : List ℕ) (c : ℕ) (u : Unread) → length rest ≤ length source
    → chars rest ≡ c ∷ chars after → rest ≡ encode_utf8 c ++ after
    → u ≡ left_of source rest → past_count 1 u ≡ left_of source after
read_left source rest after c u fits text bytes is =
    ap (past_count 1) is ∙ past_bytes source rest after 1 fits (sym (ap (drop 1) text))
    (one_bytes rest after c text bytes)

pub end_left : (source rest : List ℕ) (n : ℕ) (u : Unread) → length rest ≤ length source → chars rest ≡ []
    → u ≡ left_of source rest → past_count n u ≡ left_of source rest
end_left source rest n u fits none is =
    let same : drop n (chars rest) ≡ chars rest = ap (drop n) none ∙ drop_all n [] (omega arith) ∙ sym none in
    let front : take n (chars rest) ≡ [] = ap (take n) none ∙ take_all n [] (omega arith) in
    ap (past_count n) is ∙ past_bytes source rest rest n fits (sym same)
    (sym (ap (λ (cs : List ℕ). encode_utf8_all cs ++ rest) front))

pub first_left : (source rest : List ℕ) (c : ℕ) (cs : List ℕ) (u : Unread) → chars rest ≡ c ∷ cs
    → u ≡ left_of source rest → c ≡ first u.text
first_left source rest c cs u text is = sym (ap (λ (v : Unread). first v.text) is ∙ ap first text)

pub nul_left : (source rest : List ℕ) (u : Unread) → chars rest ≡ [] → u ≡ left_of source rest → 0 ≡ first u.text
nul_left source rest u none is = sym (ap (λ (v : Unread). first v.text) is ∙ ap first none)

-- the end counts as a break
pub end_breakz : (source rest : List ℕ) (u : Unread) → chars rest ≡ [] → u ≡ left_of source rest
    → is_breakz (first u.text) ≡ true
unfolding is_breakz is_break is_z
end_breakz source rest u none is = rw (← nul_left source rest u none is) refl

pub utf8_behind : (rest after : List ℕ) (c : ℕ) → is_utf8 rest ≡ true → rest ≡ encode_utf8 c ++ after
    → is_utf8 after ≡ true
utf8_behind rest after c utf8 bytes = is_utf8-from_IsUtf8 after
    (IsUtf8-past_char rest after c (IsUtf8-from_is_utf8 rest utf8) bytes)

-- ---- what stands in front of the rest of a string

pub seam_before : (text rest : List ℕ) (count : ℕ) → IsUtf8 rest → SpellsFront text count rest
    → IsCharBoundary text (length text - length rest)
seam_before text rest count utf8 bytes =
    let front = encode_utf8_all (take count (chars text)) in
    let place : length text - length rest ≡ length front = omega (arith, ap length bytes ∙ length-append front rest) in
    rw place (IsCharBoundary-at_seam text front rest bytes utf8)

pub before_chars : (text rest before : List ℕ) (count : ℕ) → IsUtf8 before → SpellsFront text count rest
    → before ≡ slice_range text 0 (length text - length rest)
    → chars before ≡ take count (chars text)
before_chars text rest before count utf8 bytes is =
    let front = encode_utf8_all (take count (chars text)) in
    let place : length text - length rest - 0
    ≡ length front = omega (arith, ap length bytes ∙ length-append front rest) in
    let same : before ≡ front = is ∙ ap (λ (n : ℕ). take n text) place ∙ ap (take (length front)) bytes
    ∙ take-append_seam front rest in
    encodes_same (chars before) (take count (chars text)) (encodes-chars before utf8 ∙ same)

-- a run at the front of what is left of a string is behind
pub run_behind : (test : List ℕ → Bool) (source rest after : List ℕ) (asked count : ℕ) (ended : Bool) (u : Unread)
    → length rest ≤ length source
    → TakesFront test (chars rest) asked ended count → chars after ≡ drop count (chars rest)
    → SpellsFront rest count after → u ≡ left_of source rest
    → SkipsFront test u asked (ended, count) (λ v. v ≡ left_of source after)
run_behind test source rest after asked count ended u fits front text bytes is =
    let here : chars rest ≡ u.text = sym (ap (λ (v : Unread). v.text) is) in (
      subst (λ (cs : List ℕ). TakesFront test cs asked ended count) here front,
      ap (past_count count) is
          ∙ past_bytes source rest after count fits text bytes,
    )

pub run_left : (test : List ℕ → Bool) (rest after : List ℕ) (asked count : ℕ) (ended : Bool)
    → TakesFront test (chars rest) asked ended count → chars after ≡ drop count (chars rest)
    → length (chars after) + count ≤ length (chars rest)
run_left test rest after asked count ended front text =
    omega (arith, ap length text ∙ length-drop count (chars rest), front.fits, run_within test (chars rest))

pub taken_length : (test : List ℕ → Bool) (rest text : List ℕ) (count : ℕ) → count ≡ run_length test (chars rest)
    → chars text ≡ take count (chars rest) → length (chars text) ≡ count
taken_length test rest text count whole taken =
    ap length taken ∙ length-take-le count (chars rest) (omega (arith, whole, run_within test (chars rest)))

-- the text of the whole run was taken
pub text_behind : (test : List ℕ → Bool) (source now rest after text : List ℕ) (count : ℕ) (u : Unread) → now ≡ source
    → length rest ≤ length source → count ≡ run_length test (chars rest)
    → chars after ≡ drop count (chars rest) → SpellsFront rest count after → chars text ≡ take count (chars rest)
    → u ≡ left_of source rest
    → TakesText test u (chars text) (λ v. v ≡ left_of now after)
text_behind test source now rest after text count u same fits whole behind bytes taken is =
    let here : chars rest ≡ u.text = sym (ap (λ (v : Unread). v.text) is) in
    let long : length (chars text) ≡ count = taken_length test rest text count whole taken in
    record {
      fits = omega (arith, long, whole ∙ ap (run_length test) here);
      text = taken ∙ ap (take count) here ∙ ap (λ (n : ℕ). take n u.text) (sym long);
      lands = subst (λ (n : ℕ). past_count n u ≡ left_of now after) (sym long)
          (ap (past_count count) is ∙ past_bytes source rest after count fits behind bytes
          ∙ ap (λ (s : List ℕ). left_of s after) (sym same));
    }

-- what was read since the rest was left
pub since_text : (source now rest after text : List ℕ) (count : ℕ) → now ≡ source
    → drop (length source - length rest) source ≡ rest → SpellsFront rest count after
    → ((n : ℕ) → SpellsFront (last_bytes (length rest) now) n after
    → chars text ≡ take n (chars (last_bytes (length rest) now))) → chars text ≡ take count (chars rest)
since_text source now rest after text count same suffix bytes since =
    let last : last_bytes (length rest) now ≡ rest = ap (last_bytes (length rest)) same ∙ suffix in
    since count (subst (λ (bs : List ℕ). SpellsFront bs count after) (sym last) bytes)
    ∙ ap (λ (bs : List ℕ). take count (chars bs)) last
