use Rattle.std.proofs.Common.{◌≡◌, ◌<◌, true, List, ℕ, length, slice_index, sym, ap, ◌∙◌, arith}
use Rattle.std.specs.Char.{is_ascii_graphic}
use Rattle.std.proofs.lemmas.Str.{is_utf8-from_IsUtf8}
use Rattle.granit_runs.proofs.WordLemmas.{graphic_first}
use Rattle.granit_runs.proofs.words.shows.Goals as goal

pub returns-then-bytes-gt0 : goal.returns-then-bytes-gt0
returns-then-bytes-gt0 c = λ is.
    let s = c.args.s.now in
    let some : 0 < length s = omega (arith, c.if-bytes-gt0.true, c.as_bytes-bytes.ensures.len) in
    graphic_first s (is_utf8-from_IsUtf8 s c.utf8.s) some
    (ap (λ (bs : List ℕ). is_ascii_graphic (slice_index bs 0)) (sym c.as_bytes-bytes.ensures.value)
    ∙ sym c.is_ascii_graphic.ensures.value ∙ is)
