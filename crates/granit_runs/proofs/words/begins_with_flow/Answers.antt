use Rattle.std.proofs.Common.{◌≡◌, ◌<◌, true, List, ℕ, length, slice_index, sym, subst, ◌∙◌, arith}
use Rattle.std.proofs.lemmas.Str.{is_utf8-from_IsUtf8}
use Rattle.granit_base.specs.Classes.{is_flow}
use Rattle.granit_runs.proofs.WordLemmas.{flow_first}
use Rattle.granit_runs.proofs.words.begins_with_flow.Goals as goal

pub returns-then-bytes-gt0 : goal.returns-then-bytes-gt0
returns-then-bytes-gt0 c = λ is.
    let s = c.args.s.now in
    let some : 0 < length s = omega (arith, c.if-bytes-gt0.true, c.as_bytes-bytes.ensures.len) in
    flow_first s (is_utf8-from_IsUtf8 s c.utf8.s) some
    (subst (λ (bs : List ℕ). is_flow (slice_index bs 0) ≡ true) c.as_bytes-bytes.ensures.value
    (sym c.is_flow.ensures ∙ is))
