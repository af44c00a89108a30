use Rattle.std.proofs.Common.{◌≡◌, ◌+◌, ℕ, max, length, Ok, sym, ap, ◌∙◌, arith}
use Rattle.granit_base.specs.Written.{string_chars}
use Rattle.granit_lexemes.specs.BlockHeader.{content_column, margin_of, greatest}
use Rattle.granit_block.proofs.SpaceLemmas.{feeds_given, column_told, column_led}
use Rattle.granit_block.proofs.spaces.find_column.Goals as goal

pub returns-in_ok-past_empty_lines-in-Some-clause-here : goal.returns-in_ok-past_empty_lines-in-Some-clause-here
returns-in_ok-past_empty_lines-in-Some-clause-here g c = λ h k.
    let read = c.in_ok-past_empty_lines-in-Some.ensures.here h k in
    let column = c.outer.result + c.in-Some.digit in
    let feeds = feeds_given column h read.0 (string_chars c.args.empty.now) (string_chars c.past_empty_lines.new.empty)
    read.2 in
    let told : content_column c.args.block_column c.args.digit h
    ≡ Ok column = rw c.in-Some.is (column_told c.args.block_column c.in-Some.digit h
    ∙ ap (λ (n : ℕ). Ok (n + c.in-Some.digit)) (sym c.outer.ensures.column)) in
    (read.0, feeds.0, read.1, told, feeds.1, feeds.2)

pub returns-in_ok-widest-in-None-clause-here : goal.returns-in_ok-widest-in-None-clause-here
returns-in_ok-widest-in-None-clause-here g c = λ h k.
    let read = c.in_ok-widest-in-None.ensures.here h k in
    let m : c.max.result ≡ max (margin_of c.args.block_column) (greatest read.1 read.0.place.column) = omega
    (arith, c.max.ensures, c.margin.ensures, read.4) in
    let led = column_led c.args.block_column h read.0 read.1 c.max.result read.3 m in
    (read.0, length read.1, read.2, rw c.in-None.is led.0, led.1, read.5)
