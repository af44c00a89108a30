use Rattle.std.proofs.Common.{◌≡◌, ◌+◌, length, ap, ◌∙◌, arith, encode_utf8, length-append}
use Rattle.std.proofs.lemmas.Str.{length-encode, len_utf8_bounds}
use Rattle.granit_lines.proofs.quoted.put_escaped.Goals as goal

pub pieces-smaller : goal.pieces-smaller
pieces-smaller c =
    let first = c.in-Some.c in
    let parts : length c.pieces.rest.now ≡ length (encode_utf8 first) + length c.in-Some.behind.now =
    ap length c.in-Some.ensures.bytes ∙ length-append (encode_utf8 first) c.in-Some.behind.now in
    omega (arith, parts, length-encode first, (len_utf8_bounds first).0, c.put_front.ensures.shorter)
