-- Quoted scalars of ASCII taken of a string, and lent by its source.
use Rattle.std.proofs.Common.{◌≡◌, ℕ, ◌+◌, ◌-◌, ◌≤◌, Bool, true, List, [], ◌∷◌}
use Rattle.std.proofs.Common.{◌++◌, length, take, drop, Option, Some, None, is_some, IfSome}
use Rattle.std.proofs.Common.{refl, sym, ap, subst, ◌∙◌, arith, length-append, length-drop}
use Rattle.std.specs.Str.{chars}
use Rattle.std.specs.Borrow.{Bor}
use Rattle.std.proofs.Math.Seq.{take-append_seam}
use Rattle.std.proofs.lemmas.Str.{encode_ascii}
use Rattle.granit_base.specs.Place.{Unread, first}
use Rattle.granit_runs.specs.Cuts.{PartOf}
use Rattle.granit_runs.specs.Quotes.{BeginsQuoted, IsQuoted, QuotedAt, TakesQuoted, quote_of}
use Rattle.granit_runs.specs.Unread.{Spells, SpelledBy, left_of, past_count, utf8_length}
use Rattle.granit_input.proofs.LendLemmas.{lent_between, spells_past}
use Rattle.granit_runs.proofs.StringLemmas.{past_bytes}
use Rattle.granit_runs.proofs.QuoteLemmas.{quote_low}

-- ---- taken of a string

pub takes_quoted : (single in_flow : Bool) (source s rest : List ℕ) (count start : ℕ) (u : Unread)
    → length s ≤ length source → start ≡ length source - length s + 1 → BeginsQuoted single in_flow s count rest
    → u ≡ left_of source s
    → TakesQuoted single in_flow u (Some (start, start + count)) (λ v. v ≡ left_of source rest)
takes_quoted single in_flow source s rest count start u fits at b is =
    let here : chars s ≡ u.text = sym (ap (λ (v : Unread). v.text) is) in
    let lands : past_count (count + 2) u ≡ left_of source rest = ap (past_count (count + 2)) is
    ∙ past_bytes source s rest (count + 2) fits b.text b.bytes in (
      b.inside,
      record {
        quoted = subst (λ (text : List ℕ). IsQuoted single in_flow text b.inside) here b.quoted;
        ascii = b.ascii ∙ sym b.counted;
        lends = ap (λ (v : Unread). v.lends) is;
        begins = λ n told. (
            let offset : Some (length source - length s) ≡ Some n = sym (ap (λ (v : Unread). v.offset) is) ∙ told in
            let same : length source - length s ≡ n = cc in
            omega (arith, at, same));
        stops = ap (λ (n : ℕ). start + n) (sym b.counted);
      },
      subst (λ (n : ℕ). past_count (n + 2) u ≡ left_of source rest) (sym b.counted) lands,
    )

pub quoted_left : (single in_flow : Bool) (s rest : List ℕ) (count : ℕ) → BeginsQuoted single in_flow s count rest
    → length (chars rest) + (count + 2) ≤ length (chars s)
quoted_left single in_flow s rest count b =
    omega (
      arith,
      ap length b.text ∙ length-drop (count + 2) (chars s),
      ap length b.quoted.is,
      length-append b.inside (quote_of single ∷ b.quoted.behind),
      b.counted,
    )

-- ---- lent by its source

pub inside_is : (single in_flow : Bool) (text inside : List ℕ) → IsQuoted single in_flow text inside
    → take (length inside) (drop 1 text) ≡ inside
inside_is single in_flow text inside q = ap (λ (t : List ℕ). take (length inside) (drop 1 t)) q.is
    ∙ take-append_seam inside (quote_of single ∷ q.behind)

-- what stands between the quotes is what the source lends there
pub lent_inside : (source : Option (List ℕ)) (single in_flow : Bool) (u : Unread) (inside : List ℕ) (start end : ℕ)
    (answer : Option (Bor (List ℕ))) → SpelledBy source u → is_some source ≡ true → is_some u.offset ≡ true
    → QuotedAt single in_flow u inside start end → PartOf source start end answer
    → (is_some answer ≡ true) × IfSome answer (λ part. chars part.now ≡ inside)
lent_inside source single in_flow u inside start end answer spelled some told q h = by u.offset refl told
  where
    by : (offset : Option ℕ) → u.offset ≡ offset → is_some offset ≡ true
        → (is_some answer ≡ true) × IfSome answer (λ part. chars part.now ≡ inside)
    by None is told = absurd cc
    by (Some at) is told =
        let n = length inside in
        let quote = quote_of single in
        let text = drop 1 u.text in
        let same : take n text ≡ inside = inside_is single in_flow u.text inside q.quoted in
        let one : utf8_length (take 1 u.text) ≡ 1 = ap (λ (t : List ℕ). utf8_length (take 1 t)) q.quoted.is
        ∙ ap (λ (bs : List ℕ). length (bs ++ [])) (encode_ascii quote (quote_low single).1) in
        let from : at + utf8_length (take 1 u.text) ≡ start = omega (arith, one, q.begins at is) in
        let long : utf8_length (take n text) ≡ n = ap utf8_length same ∙ q.ascii in
        let to : start + utf8_length (take n text) ≡ end = omega (arith, long, q.stops) in
        let first : (bytes : List ℕ) → source ≡ Some bytes → Spells bytes start text = λ bytes there.
        subst (λ (p : ℕ). Spells bytes p text) from (spells_past bytes at u.text 1 (spelled bytes at there is)) in
        let last : (bytes : List ℕ) → source ≡ Some bytes → Spells bytes end (drop n text) = λ bytes there.
        subst (λ (p : ℕ). Spells bytes p (drop n text)) to (spells_past bytes start text n (first bytes there)) in
        let lent = lent_between source (Some start) (Some end) text (drop n text) n answer
        (λ bytes p there at. (let same : start ≡ p = cc in subst (λ (k : ℕ). Spells bytes k text) same
        (first bytes there)))
        (λ bytes p there at. (let same : end ≡ p = cc in subst (λ (k : ℕ). Spells bytes k (drop n text)) same
        (last bytes there)))
        (ap (λ (k : ℕ). Some k) (sym to)) h in (
          lent.0 ∙ some,
          subst (λ (t : List ℕ). IfSome answer (λ part. chars part.now ≡ t)) same lent.1,
        )
