use Rattle.std.proofs.Common.{◌≡◌, ◌<◌, ◌==◌, ◌&&◌, ◌||◌, true, List, ℕ, length, slice_index, sym, subst, ◌∙◌, arith}
use Rattle.std.proofs.lemmas.Bool.{and_parts}
use Rattle.std.proofs.lemmas.Str.{is_utf8-from_IsUtf8}
use Rattle.granit_base.specs.Classes.{is_flow}
use Rattle.granit_runs.proofs.WordLemmas.{colon_byte, flow_byte}
use Rattle.granit_runs.proofs.words.stops_words.Goals as goal

pub returns-then-stops_flow : goal.returns-then-stops_flow
returns-then-stops_flow c = λ _.
    let s = c.args.s.now in
    let some : 0 < length s = omega (arith, c.if-bytes-lt2.false, c.as_bytes-bytes.ensures.len) in
    let parts = and_parts c.args.in_flow _ (sym c.stops_flow.ensures ∙ c.if-stops_flow.true) in
    rw parts.0 (flow_byte s (is_utf8-from_IsUtf8 s c.utf8.s) some
    (subst (λ (bs : List ℕ). is_flow (slice_index bs 0) ≡ true) c.as_bytes-bytes.ensures.value parts.1))

pub returns-then-bytes-eq58 : goal.returns-then-bytes-eq58
returns-then-bytes-eq58 c = λ is.
    let s = c.args.s.now in
    let same = c.as_bytes-bytes.ensures.value in
    let some : 1 < length s = omega (arith, c.if-bytes-lt2.false, c.as_bytes-bytes.ensures.len) in
    colon_byte c.args.in_flow s (is_utf8-from_IsUtf8 s c.utf8.s) some
    (subst (λ (bs : List ℕ). slice_index bs 0 ≡ 0x3A) same c.if-bytes-eq58.true)
    (subst (λ (bs : List ℕ). ((slice_index bs 1 == 0x20 || slice_index bs 1 == 0x0A)
    || (c.args.in_flow && is_flow (slice_index bs 1))) ≡ true) same (sym c.divides.ensures ∙ is))
