-- Known bytes, a piece at a time.
use Rattle.std.proofs.Common.{ℕ, ◌<◌, List, [], ◌++◌, length, take, drop, sym, ap, ◌∙◌, append_assoc, length-append}
use Rattle.std.proofs.Common.{refl, arith}
use Rattle.std.proofs.lemmas.List.{append-nil, take-append-drop, length-drop}
use Rattle.std.specs.Prelude.{codes, Option, None, Some}
use Rattle.std.specs.Io.KnownBytes.{Appends, Keeps}
use Rattle.granit_events.specs.Wrote.{WroteFront}

-- nothing is added where bytes are kept
pub appends_nothing : (a b : Option (List ℕ)) → Keeps a b → Appends a b []
appends_nothing None b k = tt
appends_nothing (Some xs) None k = absurd k
appends_nothing (Some xs) (Some ys) k = k ∙ sym (append-nil xs)

pub keeps_itself : (a : Option (List ℕ)) → Keeps a a
keeps_itself None = tt
keeps_itself (Some xs) = refl

pub appends_both : (a b c : Option (List ℕ)) (xs ys : List ℕ) → Appends a b xs → Appends b c ys → Appends a c (xs ++ ys)
appends_both None b c xs ys p q = tt
appends_both (Some xa) None c xs ys p q = absurd p
appends_both (Some xa) (Some xb) None xs ys p q = absurd q
appends_both (Some xa) (Some xb) (Some xc) xs ys p q = rw (q, p) (append_assoc xa xs ys)

pub appends_then_keeps : (a b c : Option (List ℕ)) (xs : List ℕ) → Appends a b xs → Keeps b c → Appends a c xs
appends_then_keeps a b c xs p k = rw append-nil at (appends_both a b c xs [] p (appends_nothing b c k))

-- some bytes of an output were written, and then a write failed
pub wrote_part : (a b c : Option (List ℕ)) (n : ℕ) (output : List ℕ) → n < length output → Appends a b (take n output)
    → Keeps b c → WroteFront a c output
wrote_part a b c n output some p k = record {
  front = take n output;
  rest = drop n output;
  parts = sym (take-append-drop n output);
  unwritten = omega (arith, length-drop n output, some);
  wrote = appends_then_keeps a b c (take n output) p k;
}

-- nothing is a front of an output that has a byte
pub nothing_is_front : (a b : Option (List ℕ)) (output : List ℕ) → 0 < length output → Keeps a b → WroteFront a b output
nothing_is_front a b output some k = record {
  front = [];
  rest = output;
  parts = refl;
  unwritten = some;
  wrote =
      appends_nothing a b k;
}

-- a line has a byte, its line feed
pub line_has_some : (words : List ℕ) → 0 < length (words ++ codes "\n")
line_has_some words = omega (arith, length-append words (codes "\n"))
