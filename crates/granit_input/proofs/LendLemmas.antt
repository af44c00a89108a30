-- Parts of a source between two places of reading.
use Rattle.std.proofs.Common.{◌≡◌, ℕ, zero, suc, ◌+◌, ◌-◌, ◌≤◌, Bool, List, [], ◌∷◌, ◌++◌, length, take, drop}
use Rattle.std.proofs.Common.{slice_range, ◌&&◌, Option, Some, None, is_some, IsNone, IfSome, refl, sym, ap, subst, ◌∙◌}
use Rattle.std.proofs.Common.{arith}
use Rattle.std.specs.Char.{encode_utf8}
use Rattle.std.specs.Str.{chars, encode_utf8_all, IsUtf8, IsCharBoundary}
use Rattle.std.proofs.lemmas.List.{take-append-drop, drop-drop, length-append, length-drop}
use Rattle.std.proofs.Math.Seq.{take-append_seam, drop-append_seam, take-nil, drop-nil}
use Rattle.std.proofs.lemmas.Str.{encodes-append, encodes-chars, encodes_same, IsUtf8-from_is_utf8}
use Rattle.std.proofs.lemmas.Str.{IsCharBoundary-from_drop, IsUtf8-take, chars_past_char, IsUtf8-past_char}
use Rattle.std.proofs.Common.{◌≡◌, ℕ, ◌+◌, ◌-◌, ◌≤◌, Bool, List, ◌++◌, length, take, drop, slice_range, ◌&&◌, Option}
use Rattle.std.proofs.Common.{Some, None, is_some, IsNone, IfSome, refl, sym, ap, subst, ◌∙◌, arith, zero, suc, [], ◌∷◌}
use Rattle.std.proofs.Common.{true, add-zero}
use Rattle.std.specs.Char.{encode_utf8}
use Rattle.std.specs.Str.{chars, encode_utf8_all, IsUtf8, IsCharBoundary}
use Rattle.std.proofs.lemmas.Bool.{and_parts}
use Rattle.std.proofs.lemmas.List.{take-append-drop, drop-drop, length-append, length-drop}
use Rattle.std.proofs.Math.Seq.{take-append_seam}
use Rattle.std.proofs.lemmas.Str.{encodes-append, encodes-chars, encodes_same, IsUtf8-from_is_utf8}
use Rattle.std.proofs.lemmas.Str.{IsCharBoundary-from_drop, IsUtf8-past_char, IsUtf8-take, chars_past_char}
use Rattle.std.proofs.lemmas.Str.{is_utf8-from_IsUtf8}
use Rattle.std.specs.Borrow.{Bor}
use Rattle.std.specs.Option.{option_map}
use Rattle.granit_base.specs.Spans.{CutsOut}
use Rattle.granit_base.specs.Place.{Unread}
use Rattle.granit_input.specs.Origin.{Origin, Goes, Agrees, LentBetween}
use Rattle.granit_runs.specs.Cuts.{PartOf}
use Rattle.granit_runs.specs.Unread.{Spells, utf8_length, past_count}
use Rattle.granit_runs.specs.Words.{LendsWords}
use Rattle.granit_input.proofs.UnreadLemmas.{past_offset}

pub spells_utf8 : (bytes : List ℕ) (at : ℕ) (text : List ℕ) → Spells bytes at text → IsUtf8 (drop at bytes)
spells_utf8 bytes at text s = IsUtf8-from_is_utf8 (drop at bytes) s.utf8

pub spells_cut : (bytes : List ℕ) (at : ℕ) (text : List ℕ) → Spells bytes at text → IsCharBoundary bytes at
spells_cut bytes at text s = IsCharBoundary-from_drop bytes at s.within (spells_utf8 bytes at text s)

-- a source spells on behind each character
spells_step : (bytes : List ℕ) (at c : ℕ) (cs : List ℕ) → Spells bytes at (c ∷ cs)
    → Spells bytes (at + length (encode_utf8 c)) cs
spells_step bytes at c cs s =
    let here = drop at bytes in
    let rest = encode_utf8_all cs in
    let utf8 = spells_utf8 bytes at (c ∷ cs) s in
    let spelt : here ≡ encode_utf8 c ++ rest = sym (encodes-chars here utf8) ∙ ap encode_utf8_all s.spelled in
    let behind : drop (at + length (encode_utf8 c)) bytes ≡ rest = sym (drop-drop (length (encode_utf8 c)) at bytes)
    ∙ ap (drop (length (encode_utf8 c))) spelt ∙ drop-append_seam (encode_utf8 c) rest in
    let text : chars rest ≡ cs = ap (drop 1) (sym (chars_past_char here rest c utf8 spelt) ∙ s.spelled) in
    record {
      within = omega (
        arith,
        s.within,
        length-drop at bytes,
        ap length spelt ∙ length-append (encode_utf8 c) rest,
      );
      utf8 = rw behind (is_utf8-from_IsUtf8 rest (IsUtf8-past_char here rest c utf8 spelt));
      spelled = ap chars behind ∙ text;
    }

pub spells_past : (bytes : List ℕ) (at : ℕ) (text : List ℕ) (n : ℕ) → Spells bytes at text
    → Spells bytes (at + utf8_length (take n text)) (drop n text)
spells_past bytes at [] n s =
    let none : at ≡ at + utf8_length (take n []) = rw (take-nil n) (omega arith) in
    subst (λ (k : ℕ). Spells bytes k (drop n [])) none (rw (drop-nil n) s)
spells_past bytes at (c ∷ cs) zero s =
    let none : at ≡ at + 0 = omega arith in
    subst (λ (k : ℕ). Spells bytes k (c ∷ cs)) none s
spells_past bytes at (c ∷ cs) (suc n) s =
    let next = spells_past bytes (at + length (encode_utf8 c)) cs n (spells_step bytes at c cs s) in
    let far : at + length (encode_utf8 c) + utf8_length (take n cs) ≡ at + utf8_length (c ∷ take n cs) =
    omega (arith, length-append (encode_utf8 c) (encode_utf8_all (take n cs))) in
    subst (λ (k : ℕ). Spells bytes k (drop n cs)) far next

-- between two places of reading the source can be cut
pub part_cut : (bytes : List ℕ) (start end : ℕ) (text rest : List ℕ) → Spells bytes start text → Spells bytes end rest
    → start ≤ end → CutsOut bytes (record { start = start; end = end })
part_cut bytes start end text rest first last order =
    (order, spells_cut bytes start text first, spells_cut bytes end rest last)

-- and the part is what was read between
pub part_bytes : (bytes : List ℕ) (start : ℕ) (text : List ℕ) (n : ℕ) → Spells bytes start text
    → take (utf8_length (take n text)) (drop start bytes) ≡ encode_utf8_all (take n text)
part_bytes bytes start text n s =
    let all : drop start bytes ≡ encode_utf8_all text = sym
    (encodes-chars (drop start bytes) (spells_utf8 bytes start text s)) ∙ ap encode_utf8_all s.spelled in
    let parts : encode_utf8_all text ≡ encode_utf8_all (take n text) ++ encode_utf8_all (drop n text) =
    ap encode_utf8_all (sym (take-append-drop n text)) ∙ encodes-append (take n text) (drop n text) in
    rw (all, parts) (take-append_seam (encode_utf8_all (take n text)) (encode_utf8_all (drop n text)))

pub part_chars : (bytes : List ℕ) (start : ℕ) (text rest part : List ℕ) (n : ℕ) → Spells bytes start text
    → Spells bytes (start + utf8_length (take n text)) rest
    → part ≡ slice_range bytes start (start + utf8_length (take n text)) → chars part ≡ take n text
part_chars bytes start text rest part n first last is =
    let long : start + utf8_length (take n text) - start ≡ utf8_length (take n text) = omega arith in
    let cut : part ≡ take (utf8_length (take n text)) (drop start bytes) = is
    ∙ ap (λ (k : ℕ). take k (drop start bytes)) long in
    let spelt : part ≡ encode_utf8_all (take n text) = cut ∙ part_bytes bytes start text n first in
    let behind : IsUtf8 (drop (utf8_length (take n text)) (drop start bytes)) = rw drop-drop
    (spells_utf8 bytes (start + utf8_length (take n text)) rest last) in
    let within : utf8_length (take n text) ≤ length (drop start bytes) = omega
    (arith, length-drop start bytes, last.within) in
    let edge = IsCharBoundary-from_drop (drop start bytes) (utf8_length (take n text)) within behind in
    let whole = IsUtf8-take (drop start bytes) (utf8_length (take n text)) (spells_utf8 bytes start text first) edge in
    let utf8 : IsUtf8 part = rw cut whole in
    encodes_same (chars part) (take n text) (encodes-chars part utf8 ∙ spelt)

none_is : (answer : Option (Bor (List ℕ))) (P : Bor (List ℕ) → Type 0) → IsNone answer → IfSome answer P
none_is None P none = tt
none_is (Some part) P none = absurd cc

found_is : (bytes : List ℕ) (start : ℕ) (text rest : List ℕ) (n : ℕ) (answer : Option (Bor (List ℕ)))
    → Spells bytes start text → Spells bytes (start + utf8_length (take n text)) rest
    → IfSome answer (λ part. part.now ≡ slice_range bytes start (start + utf8_length (take n text)))
    → IfSome answer (λ part. chars part.now ≡ take n text)
found_is bytes start text rest n None first last h = tt
found_is bytes start text rest n (Some part) first last h = part_chars bytes start text rest part.now n first last h

-- where there is a source and the offset is told, the source spells this from there on
abbrev pub SpelledFrom : Option (List ℕ) → Option ℕ → List ℕ → Type 0
SpelledFrom source offset text =
    (bytes : List ℕ) (at : ℕ) → source ≡ Some bytes → offset ≡ Some at → Spells bytes at text

-- what is lent of a source between two places of reading: something exactly where there is a source and the offset is
-- told, and then what was read between
pub lent_between : (source : Option (List ℕ)) (start end : Option ℕ) (text rest : List ℕ) (n : ℕ)
    (answer : Option (Bor (List ℕ))) → SpelledFrom source start text → SpelledFrom source end rest
    → end ≡ option_map (λ bytes. bytes + utf8_length (take n text)) start → LentBetween source start end answer
    → (is_some answer ≡ (is_some start && is_some source)) × IfSome answer (λ part. chars part.now ≡ take n text)
lent_between source None end text rest n answer first last far h = (h, none_is answer _ h)
lent_between None (Some start) end text rest n answer first last far h =
    let none : IsNone answer = subst (λ (e : Option ℕ). LentBetween None (Some start) e answer) far h in
    (none, none_is answer _ none)
lent_between (Some bytes) (Some start) end text rest n answer first last far h =
    let cut = subst (λ (e : Option ℕ). LentBetween (Some bytes) (Some start) e answer) far h in
    let here = first bytes start refl refl in
    let there = last bytes (start + utf8_length (take n text)) refl far in (
      cut.0.1 (part_cut bytes start (start + utf8_length (take n text)) text rest here there (omega arith)),
      found_is
          bytes start text rest n answer here there cut.1,
    )

-- the same for an input that read on
pub lent_past : (old now : Origin) (left_old left_now : ℕ) (u : Unread) (n : ℕ) (start end : Option ℕ)
    (answer : Option (Bor (List ℕ))) → Goes old now
    → Agrees left_old old u → Agrees left_now now (past_count n u) → start ≡ u.offset → end ≡ (past_count n u).offset
    → LentBetween now.lent start end answer
    → (is_some answer ≡ u.lends) × IfSome answer (λ part. chars part.now ≡ take n u.text)
lent_past old now left_old left_now u n start end answer goes before after from to h =
    let answered = lent_between now.lent start end u.text (past_count n u).text n answer
    (λ bytes at is told. before.lent bytes at (sym goes.lent ∙ is) (sym from ∙ told))
    (λ bytes at is told. after.lent bytes at is (sym to ∙ told))
    (to ∙ past_offset n u ∙ ap (option_map (λ bytes. bytes + utf8_length (take n u.text))) (sym from))
    h in
    let told : is_some start ≡ now.tells_offset = ap is_some from ∙ before.offset ∙ sym goes.tells_offset in
    let lends : u.lends ≡ (now.tells_offset && is_some now.lent) = before.lends
    ∙ rw (← goes.tells_offset, ← goes.lent) refl in
    (answered.0 ∙ ap (λ (t : Bool). t && is_some now.lent) told ∙ sym lends, answered.1)

-- ---- behind characters that stand there

-- so many characters on, what is left is spelled too
pub spells_behind : (n : ℕ) (bytes : List ℕ) (at : ℕ) (text : List ℕ) → Spells bytes at text
    → Spells bytes (at + utf8_length (take n text)) (drop n text)
spells_behind zero bytes at [] s = subst (λ (k : ℕ). Spells bytes k []) (sym (add-zero at)) s
spells_behind zero bytes at (c ∷ cs) s = subst (λ (k : ℕ). Spells bytes k (c ∷ cs)) (sym (add-zero at)) s
spells_behind (suc n) bytes at [] s = subst (λ (k : ℕ). Spells bytes k []) (sym (add-zero at)) s
spells_behind (suc n) bytes at (c ∷ cs) s =
    let more = spells_behind n bytes (at + length (encode_utf8 c)) cs (spells_step bytes at c cs s) in
    let apart : at + length (encode_utf8 c) + utf8_length (take n cs)
    ≡ at + (length (encode_utf8 c) + utf8_length (take n cs)) = omega arith in
    let far : at + length (encode_utf8 c) + utf8_length (take n cs) ≡ at + utf8_length (c ∷ take n cs) = apart
    ∙ ap (λ (k : ℕ). at + k) (sym (length-append (encode_utf8 c) (encode_utf8_all (take n cs)))) in
    subst (λ (k : ℕ). Spells bytes k (drop n cs)) far more

-- words are lent where they lie
pub lent_words : (in_flow : Bool) (old now : Origin) (left : ℕ) (u : Unread) (start end : ℕ)
    (answer : Option (Bor (List ℕ))) → Goes old now → Agrees left old u → LendsWords in_flow u start end
    → PartOf now.lent start end answer
    → (is_some answer ≡ true) × IfSome answer (λ part. chars part.now ≡ take (end - start) u.text)
lent_words in_flow old now left u start end answer goes before w h =
    let n = end - start in
    let far : start + utf8_length (take n u.text) ≡ end = omega (arith, w.words.single, w.words.some) in
    let here = λ (bytes : List ℕ) (source : now.lent ≡ Some bytes). before.lent bytes start (sym goes.lent ∙ source)
    w.offset in
    let answered = lent_between now.lent (Some start) (Some end) u.text (drop n u.text) n answer
    (λ bytes at is told. subst (λ (k : ℕ). Spells bytes k u.text) (some_of start at told) (here bytes is))
    (λ bytes at is told. subst (λ (k : ℕ). Spells bytes k (drop n u.text)) (far ∙ some_of end at told)
    (spells_behind n bytes start u.text (here bytes is)))
    (ap Some (sym far)) h in
    let there : is_some now.lent ≡ true = ap is_some goes.lent
    ∙ (and_parts old.tells_offset (is_some old.lent) (sym before.lends ∙ w.lends)).1 in
    (answered.0 ∙ there, answered.1)
  where
    some_of : (a b : ℕ) → ◌≡◌ {A = Option ℕ} (Some a) (Some b) → a ≡ b
    some_of a b is = cc
