use Rattle.std.proofs.Common.{◌≡◌, ◌==◌, ℕ, true, false, Result, Err, sym, ap, ◌∙◌, ◌++◌, List, subst, arith}
use Rattle.std.proofs.lemmas.Bool.Decides.{nat_tests}
use Rattle.std.proofs.lemmas.Result.{err_from_is_err_and}
use Rattle.granit_base.specs.Written.{string_chars}
use Rattle.granit_blocks.proofs.BlockCauses.{lines_refused}
use Rattle.granit_error.specs.Refused.{Refused}
use Rattle.granit_lexemes.specs.BlockHeader.{Chomping}
use Rattle.granit_lexemes.specs.BlockScalar.{BlockRead, content_lines}
use Rattle.granit_lexemes.specs.BlockValue.{line_feeds}
use Rattle.granit_lexemes.specs.Here.{Here, next_char}
use Rattle.granit_lexemes.specs.Outcome.{Fault}
use Rattle.granit_cursor.specs.Reading.{Stands, GivesTo}
use Rattle.granit_cursor.proofs.MoveLemmas.{cleared}
use Rattle.granit_block.specs.BlockCode.{header_data, content_data}
use Rattle.granit_block.proofs.ContentLemmas.{lines_tab, lines_go}
use Rattle.granit_block.proofs.content.read_lines.Goals as goal

pub returns-in_err-refuse_unprintable-clause-here : goal.returns-in_err-refuse_unprintable-clause-here
returns-in_err-refuse_unprintable-clause-here g c = λ h k.
    let p = err_from_is_err_and c.from_residual.result c.from_residual.ensures.1 in
    let bad = c.in_err-refuse_unprintable.ensures.here h k in
    rw (p.1, p.2) (λ other. lines_refused c.args.literal (header_data c.args.header) c.args.broken
    c.args.at.now.block_column c.args.start h bad.0 ∙ ap (λ (f : Refused). Err f) (sym bad.1))

pub returns-then-peek-eq9-clause-here : goal.returns-then-peek-eq9-clause-here
returns-then-peek-eq9-clause-here g c = λ h k.
    let clear = c.in_ok-refuse_unprintable.ensures.here h k in
    let looked = c.look.ensures.here h clear.0 in
    let seen : c.peek.result ≡ next_char h = c.peek.ensures.value h.unread (rw c.input.ensures looked.0) in
    let tab : (next_char h == 0x09) ≡ true = grind (arith, nat_tests, seen, c.if-peek-eq9.true) in
    λ other. rw c.from_kind.ensures (lines_tab c.args.literal (header_data c.args.header) c.args.broken
    c.args.at.now.block_column c.args.start h clear.1 tab)

pub returns-clause-here : goal.returns-clause-here
returns-clause-here g c = λ h k.
    let clear = c.in_ok-refuse_unprintable.ensures.here h k in
    let looked = c.look.ensures.here h clear.0 in
    let seen : c.peek.result ≡ next_char h = c.peek.ensures.value h.unread (rw c.input.ensures looked.0) in
    let tab : (next_char h == 0x09) ≡ false = grind (arith, nat_tests, seen, c.if-peek-eq9.false) in
    let found = c.in_ok-column.ensures.here h looked in
    let feeds : string_chars c.find_column.new.empty ≡ line_feeds found.1 = found.5
    ∙ ap (λ (l : List ℕ). l ++ line_feeds found.1) (cleared c.new-empty.result c.new-empty.ensures.bytes) in
    let go = lines_go c.args.literal (header_data c.args.header) c.args.broken c.args.at.now.block_column c.args.start h
    found.0 c.in_ok-column.column found.1 clear.1 tab found.3 found.4
    ∙ ap (λ (x : Chomping). content_lines c.args.literal x c.args.broken c.args.at.now.block_column
    c.in_ok-column.column c.args.start (line_feeds found.1) found.0) (sym c.chomping-chomping.ensures) in
    subst (λ (r : Result (BlockRead × Here) Fault). GivesTo content_data c.read_content.result
    (Stands g.T.Input.unread c.read_content.new.cursor) r) (sym go)
    (c.read_content.ensures.here found.0 found.2 found.1 feeds)
