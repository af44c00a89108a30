use Rattle.std.proofs.Common.{◌+◌, drop, refl, arith}
use Rattle.std.proofs.lemmas.Str.{IsCharBoundary-from_drop, IsUtf8-from_is_utf8, is_utf8-from_IsUtf8}
use Rattle.granit_runs.proofs.QuoteLemmas.{opened, begins_quoted}
use Rattle.granit_runs.proofs.quotes.quoted_front.Goals as goal

pub range_from-inner-requires : goal.range_from-inner-requires
range_from-inner-requires c = λ some.
    let front = opened c.args.single c.args.s.now (is_utf8-from_IsUtf8 c.args.s.now c.utf8.s) c.requires in
    IsCharBoundary-from_drop c.args.s.now 1 front.1 (IsUtf8-from_is_utf8 (drop 1 c.args.s.now) front.0.utf8)

pub range_from-requires : goal.range_from-requires
range_from-requires c = λ some.
    let inner = c.range_from-inner.result.now in
    let behind = c.ascii_count-count.result + 1 in
    let closed = c.if-not-closes.false in
    let same = c.as_bytes.ensures.value in
    let within = rw same at (c.closes.ensures.within closed) in
    let quoted = begins_quoted c.args.single c.args.in_flow c.args.s.now inner (drop behind inner)
    c.ascii_count-count.result (is_utf8-from_IsUtf8 c.args.s.now c.utf8.s) c.requires c.range_from-inner.ensures.value
    c.ascii_count-count.ensures.front within (rw same at (c.closes.ensures.quote closed))
    (rw same at (c.closes.ensures.ends closed)) refl in
    IsCharBoundary-from_drop inner behind (omega (arith, within)) (IsUtf8-from_is_utf8 (drop behind inner) quoted.utf8)

pub returns : goal.returns
returns c =
    let closed = c.if-not-closes.false in
    let same = c.as_bytes.ensures.value in
    begins_quoted c.args.single c.args.in_flow c.args.s.now c.range_from-inner.result.now c.range_from.result.now
    c.ascii_count-count.result (is_utf8-from_IsUtf8 c.args.s.now c.utf8.s) c.requires c.range_from-inner.ensures.value
    c.ascii_count-count.ensures.front (rw same at (c.closes.ensures.within closed))
    (rw same at (c.closes.ensures.quote closed)) (rw same at (c.closes.ensures.ends closed)) c.range_from.ensures.value
