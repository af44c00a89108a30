use Rattle.std.proofs.Common.{◌≡◌, ◌==◌, true, false, Result, Err, refl, sym, ap, ◌∙◌, subst}
use Rattle.std.proofs.lemmas.Result.{err_from_is_err_and}
use Rattle.granit_base.specs.Classes.{is_break}
use Rattle.granit_error.specs.Refused.{Refused}
use Rattle.granit_lexemes.specs.Basics.{past_break}
use Rattle.granit_lexemes.specs.BlockScalar.{BlockRead}
use Rattle.granit_lexemes.specs.Here.{Here, text_len, next_char}
use Rattle.granit_lexemes.specs.Outcome.{Fault}
use Rattle.granit_cursor.specs.Reading.{Stands, GivesTo}
use Rattle.granit_block.specs.BlockCode.{header_data, content_data}
use Rattle.granit_block.proofs.ContentLemmas.{body_at}
use Rattle.granit_block.proofs.content.read_body.Goals as goal

pub returns-in_err-refuse_unprintable-clause-here : goal.returns-in_err-refuse_unprintable-clause-here
returns-in_err-refuse_unprintable-clause-here g c = λ h k.
    let p = err_from_is_err_and c.from_residual.result c.from_residual.ensures.1 in
    let bad = c.in_err-refuse_unprintable.ensures.here h k in
    rw (p.1, p.2) (λ other. body_at c.args.literal (header_data c.args.header) c.args.at.now.block_column c.args.start h
    false _ _ bad.0 refl refl ∙ ap (λ (f : Refused). Err f) (sym bad.1))

pub returns-then-is_break-clause-here : goal.returns-then-is_break-clause-here
returns-then-is_break-clause-here g c = λ h k.
    let clear = c.in_ok-refuse_unprintable.ensures.here h k in
    let looked = c.look.ensures.here h clear.0 in
    let y : is_break (next_char h) ≡ true = ap is_break
    (sym (c.peek.ensures.value h.unread (rw c.input.ensures looked.0))) ∙ sym c.is_break.ensures
    ∙ c.if-is_break.true in
    let go = body_at c.args.literal (header_data c.args.header) c.args.at.now.block_column c.args.start h true true _
    clear.1 y refl in
    subst (λ (r : Result (BlockRead × Here) Fault). GivesTo content_data c.read_lines.result
    (Stands g.T.Input.unread c.read_lines.new.cursor) r) (sym go)
    (c.read_lines.ensures.here (past_break h) (c.past_break.ensures.here h looked))

pub returns-then-next_is_z-clause-here : goal.returns-then-next_is_z-clause-here
returns-then-next_is_z-clause-here g c = λ h k.
    let clear = c.in_ok-refuse_unprintable.ensures.here h k in
    let looked = c.look.ensures.here h clear.0 in
    let n : is_break (next_char h) ≡ false = ap is_break
    (sym (c.peek.ensures.value h.unread (rw c.input.ensures looked.0))) ∙ sym c.is_break.ensures
    ∙ c.if-is_break.false in
    let z : (text_len h == 0) ≡ true = sym (c.next_is_z.ensures.value h.unread (rw c.input-2.ensures looked.0))
    ∙ c.if-next_is_z.true in
    let go = body_at c.args.literal (header_data c.args.header) c.args.at.now.block_column c.args.start h true false
    true clear.1 n z in
    subst (λ (r : Result (BlockRead × Here) Fault). GivesTo content_data c.read_lines-then-next_is_z.result
    (Stands g.T.Input.unread c.read_lines-then-next_is_z.new.cursor) r) (sym go)
    (c.read_lines-then-next_is_z.ensures.here h looked)

pub returns-clause-here : goal.returns-clause-here
returns-clause-here g c = λ h k.
    let clear = c.in_ok-refuse_unprintable.ensures.here h k in
    let looked = c.look.ensures.here h clear.0 in
    let n : is_break (next_char h) ≡ false = ap is_break
    (sym (c.peek.ensures.value h.unread (rw c.input.ensures looked.0))) ∙ sym c.is_break.ensures
    ∙ c.if-is_break.false in
    let z : (text_len h == 0) ≡ false = sym (c.next_is_z.ensures.value h.unread (rw c.input-2.ensures looked.0))
    ∙ c.if-next_is_z.false in
    λ other. rw c.from_kind.ensures (body_at c.args.literal (header_data c.args.header) c.args.at.now.block_column
    c.args.start h true false false clear.1 n z)
