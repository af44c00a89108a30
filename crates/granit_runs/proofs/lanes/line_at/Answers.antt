use Rattle.std.proofs.Common.{ℕ, ◌+◌, ◌==◌, ◌||◌, sym, ◌∙◌, arith}
use Rattle.std.proofs.lemmas.Simd.{length-chunk}
use Rattle.std.specs.Simd.Lanes.{chunk}
use Rattle.granit_base.specs.Classes.{is_within}
use Rattle.granit_runs.specs.Runs.{is_line_char, starts}
use Rattle.granit_runs.proofs.LaneLemmas.{alone_lanes, line_sure, taken_each, taken_few}
use Rattle.granit_runs.proofs.lanes.line_at.Goals as goal

pub returns-clause-few : goal.returns-clause-few
returns-clause-few c =
    let bytes = c.args.bytes.now in
    let long = length-chunk c.args.at 16 bytes (omega (arith, c.requires)) in
    let next = length-chunk (c.args.at + 1) 16 bytes (omega (arith, c.requires)) in
    taken_few (starts is_line_char) _ line_sure bytes c.args.at _ _ c.requires
    (c.line-shown.ensures ∙ alone_lanes (λ (x : ℕ). is_within 0x20 0x7E x || x == 0x09) (chunk c.args.at 16 bytes)
    (chunk (c.args.at + 1) 16 bytes) (long ∙ sym next)) c.front.ensures

pub returns-clause-each : goal.returns-clause-each
returns-clause-each c =
    let bytes = c.args.bytes.now in
    let long = length-chunk c.args.at 16 bytes (omega (arith, c.requires)) in
    let next = length-chunk (c.args.at + 1) 16 bytes (omega (arith, c.requires)) in
    taken_each (starts is_line_char) _ line_sure bytes c.args.at _ _ c.requires
    (c.line-shown.ensures ∙ alone_lanes (λ (x : ℕ). is_within 0x20 0x7E x || x == 0x09) (chunk c.args.at 16 bytes)
    (chunk (c.args.at + 1) 16 bytes) (long ∙ sym next)) c.front.ensures
