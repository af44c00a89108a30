use Rattle.std.proofs.Common.{◌/◌, ◌%◌, [], ◌∷◌, List, ℕ, ◌++◌, false, take, sym, ap, ◌∙◌, append_assoc, arith}
use Rattle.std.specs.Fmt.{digit_glyph, radix_digits}
use Rattle.granit_lines.proofs.HexLemmas.{hex_longer, hex_step}
use Rattle.granit_lines.proofs.quoting.+put_hex.Goals as goal

pub put_hex-last-requires : goal.put_hex-last-requires
put_hex-last-requires t c =
    let longer = hex_longer c.args.n (omega (arith, c.if-n-lt16.false)) (omega arith) in
    (omega (arith, c.decreases, c.if-n-lt16.false), omega (arith, longer, c.requires.room))

pub put_byte-requires-2 : goal.put_byte-requires-2
put_byte-requires-2 t c =
    let longer = hex_longer c.args.n (omega (arith, c.if-n-lt16.false)) (omega arith) in
    record { room = omega (arith, longer, c.requires.room, c.put_hex-last.ensures.end, c.put_hex-last.auto.room) }

pub returns-clause-end : goal.returns-clause-end
returns-clause-end t c =
    let longer = hex_longer c.args.n (omega (arith, c.if-n-lt16.false)) (omega arith) in
    omega (arith, longer, c.put_hex-last.ensures.end, c.put_byte-2.ensures.end)

pub returns-clause-put : goal.returns-clause-put
returns-clause-put t c =
    let n = c.args.n in
    let old = take c.args.at c.args.room.now in
    let last = digit_glyph false (n % 16) ∷ [] in
    c.put_byte-2.ensures.put
    ∙ ap (λ (d : ℕ). take c.put_hex-last.result c.put_hex-last.new.room ++ d ∷ []) c.hex_digit-2.ensures
    ∙ ap (λ (xs : List ℕ). xs ++ last) c.put_hex-last.ensures.put
    ∙ append_assoc old (radix_digits 16 false (n / 16)) last
    ∙ ap (λ (xs : List ℕ). old ++ xs) (sym (hex_step n (omega (arith, c.if-n-lt16.false)) (omega arith)))
