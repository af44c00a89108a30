-- The names of generated anchors.
use Rattle.std.proofs.Common.{◌≡◌, ℕ, ◌<◌, ◌^◌, List, [], ◌∷◌, ◌++◌, decimal, codes, arith, ap, ◌∙◌}
use Rattle.std.specs.Str.{chars}
use Rattle.std.proofs.lemmas.Fmt.{IsAscii-decimal}
use Rattle.std.proofs.lemmas.Str.{IsAscii-append, chars-IsAscii}
use Rattle.std.proofs.lemmas.Str.Ascii.{IsAscii-nil, IsAscii-push}

pub name_chars : (n : ℕ) → n < 2 ^ 32 → chars (codes "n" ++ decimal n) ≡ codes "n" ++ decimal n
name_chars n small = chars-IsAscii (codes "n" ++ decimal n)
    (IsAscii-append (codes "n") (decimal n) (IsAscii-push [] 110 IsAscii-nil (omega arith))
    (IsAscii-decimal n (omega (arith, small))))

pub tag_chars : chars (codes "t") ≡ codes "t"
tag_chars = chars-IsAscii (codes "t") (IsAscii-push [] 116 IsAscii-nil (omega arith))
