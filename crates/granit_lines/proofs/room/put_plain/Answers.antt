use Rattle.std.proofs.Common.{◌≡◌, ◌+◌, ◌-◌, ◌++◌, ℕ, List, true, length, take, drop, subst, sym, ap, ◌∙◌}
use Rattle.std.proofs.Common.{append_assoc, arith}
use Rattle.std.proofs.Math.Seq.{take-add}
use Rattle.std.proofs.lemmas.List.{length-drop, take_all}
use Rattle.std.proofs.lemmas.List.Elements.{All-append}
use Rattle.std.specs.List.{All}
use Rattle.granit_lines.specs.Pieces.{is_plain}
use Rattle.granit_lines.proofs.room.put_plain.Goals as goal

pub returns-clause-plain : goal.returns-clause-plain
returns-clause-plain c =
    let bytes = c.args.bytes.now in
    let front = c.put_fours-front.result in
    let more = c.put_each.result in
    let rest = take_all (length bytes - front) (drop front bytes) (omega (arith, length-drop front bytes)) in
    subst (All (λ (b : ℕ). is_plain b ≡ true)) (sym (take-add front more bytes))
    (All-append (λ (b : ℕ). is_plain b ≡ true) (take front bytes) (take more (drop front bytes))
    c.put_fours-front.ensures.plain
    (subst (λ (xs : List ℕ). All (λ (b : ℕ). is_plain b ≡ true) (take more xs)) rest c.put_each.ensures.plain))

pub returns-clause-put : goal.returns-clause-put
returns-clause-put c =
    let bytes = c.args.bytes.now in
    let front = c.put_fours-front.result in
    let more = c.put_each.result in
    let old = take c.args.at c.args.room.now in
    let rest = take_all (length bytes - front) (drop front bytes) (omega (arith, length-drop front bytes)) in
    let place : c.args.at + (front + more) ≡ c.args.at + front + more = omega arith in
    ap (λ (n : ℕ). take n c.put_each.new.room) place ∙ c.put_each.ensures.put
    ∙ ap (λ (xs : List ℕ). take (c.args.at + front) c.put_fours-front.new.room ++ take more xs) rest
    ∙ ap (λ (xs : List ℕ). xs ++ take more (drop front bytes)) c.put_fours-front.ensures.put
    ∙ append_assoc old (take front bytes) (take more (drop front bytes))
    ∙ ap (λ (xs : List ℕ). old ++ xs) (sym (take-add front more bytes))
