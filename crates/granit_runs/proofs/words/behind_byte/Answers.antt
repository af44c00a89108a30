use Rattle.std.proofs.Common.{◌∷◌, List, ℕ, slice_index, sym, ap, ◌∙◌, arith}
use Rattle.std.specs.Str.{chars}
use Rattle.std.proofs.lemmas.Str.{IsCharBoundary-from_drop, IsUtf8-from_is_utf8, is_utf8-from_IsUtf8}
use Rattle.granit_runs.proofs.WordLemmas.{all_chars, utf8_behind}
use Rattle.granit_runs.proofs.words.behind_byte.Goals as goal

pub range_from-requires : goal.range_from-requires
range_from-requires c = λ _. IsCharBoundary-from_drop c.args.s.now 1 (omega (arith, c.requires.some))
    (IsUtf8-from_is_utf8 _ (utf8_behind c.args.s.now (is_utf8-from_IsUtf8 c.args.s.now c.utf8.s) c.requires.low
    c.requires.some))

pub returns-clause-text : goal.returns-clause-text
returns-clause-text c =
    all_chars c.args.s.now (is_utf8-from_IsUtf8 c.args.s.now c.utf8.s) c.requires.low c.requires.some
    ∙ ap (λ (bs : List ℕ). slice_index c.args.s.now 0 ∷ chars bs) (sym c.range_from.ensures.value)
