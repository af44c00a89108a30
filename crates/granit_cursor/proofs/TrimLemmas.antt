-- White space taken off the ends of a text.
use Rattle.std.proofs.Common.{◌≡◌, ℕ, Bool, true, false, ◌&&◌, ◌==◌, cond, List, [], ◌∷◌, length, refl, sym, ap, ◌∙◌}
use Rattle.std.specs.Str.{chars, encode_utf8_all, IsUtf8, trim, trim_start, trim_end, skip_leading_whitespace}
use Rattle.std.specs.Str.{drop_trailing_whitespace}
use Rattle.std.specs.Char.{is_whitespace}
use Rattle.std.proofs.Math.Utf8.{scalars}
use Rattle.std.proofs.lemmas.Bool.{and_parts}
use Rattle.std.proofs.lemmas.Str.{chars_from_encodes, scalars-chars}
use Rattle.granit_cursor.specs.Trimmed.{trimmed}

scalars_cond : (t : Bool) (xs ys : List ℕ) → scalars xs ≡ true → scalars ys ≡ true → scalars (cond t xs ys) ≡ true
scalars_cond true xs ys p q = p
scalars_cond false xs ys p q = q

scalars_skip : (cs : List ℕ) → scalars cs ≡ true → scalars (skip_leading_whitespace cs) ≡ true
scalars_skip [] held = refl
scalars_skip (c ∷ cs) held = scalars_cond (is_whitespace c) (skip_leading_whitespace cs) (c ∷ cs)
    (scalars_skip cs (and_parts _ (scalars cs) held).1) held

scalars_drop : (cs : List ℕ) → scalars cs ≡ true → scalars (drop_trailing_whitespace cs) ≡ true
scalars_drop [] held = refl
scalars_drop (c ∷ cs) held =
    let more = scalars_drop cs (and_parts _ (scalars cs) held).1 in
    scalars_cond (is_whitespace c && length (drop_trailing_whitespace cs) == 0) [] (c ∷ drop_trailing_whitespace cs)
    refl
    (ap (λ (b : Bool). b && scalars (drop_trailing_whitespace cs)) (and_parts _ (scalars cs) held).0 ∙ more)

encoded : (cs : List ℕ) → scalars cs ≡ true → chars (encode_utf8_all cs) ≡ cs
encoded cs held = sym (chars_from_encodes cs (encode_utf8_all cs) (cs, (held, refl)) refl)

pub trimmed_is : (text : List ℕ) → IsUtf8 text → chars (trim text) ≡ trimmed (chars text)
unfolding trim_start trim_end
trimmed_is text u =
    let all = scalars-chars text u in
    let skipped = scalars_skip (chars text) all in
    ap (λ (cs : List ℕ). chars (encode_utf8_all (drop_trailing_whitespace cs)))
    (encoded (skip_leading_whitespace (chars text)) skipped)
    ∙ encoded (drop_trailing_whitespace (skip_leading_whitespace (chars text)))
    (scalars_drop (skip_leading_whitespace (chars text)) skipped)
