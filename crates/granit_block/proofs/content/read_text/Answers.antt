use Rattle.std.proofs.Common.{false, None, Result, sym, ap, ◌∙◌, subst}
use Rattle.granit_base.specs.Place.{Mark}
use Rattle.granit_base.specs.Written.{string_chars}
use Rattle.granit_lexemes.specs.BlockScalar.{BlockRead, behind_block}
use Rattle.granit_lexemes.specs.Here.{Here}
use Rattle.granit_lexemes.specs.Outcome.{Fault}
use Rattle.granit_cursor.specs.Reading.{Stands, GivesTo}
use Rattle.granit_cursor.proofs.MoveLemmas.{cleared}
use Rattle.granit_block.specs.BlockCode.{chomping_data, content_data, block_state}
use Rattle.granit_block.specs.declared.lines.Lines.{Lines}
use Rattle.granit_block.proofs.ContentLemmas.{text_read, column_shown, starting}
use Rattle.granit_block.proofs.content.read_text.Goals as goal

pub returns-clause-here : goal.returns-clause-here
returns-clause-here g c = λ h k n e.
    let chomping = chomping_data c.args.frame.chomping in
    let begun : Lines = record { value = c.new.result; empty = c.args.empty; before = None; broken = false } in
    let read = c.in_ok-past_lines.ensures.here h k in
    let text = string_chars c.past_lines.new.lines.value in
    let s = block_state c.past_lines.new.lines read.0 in
    let whole = text_read c.args.frame.literal c.args.column n h begun _ (cleared c.new.result c.new.ensures.bytes)
    (ap (starting h) e) read.2 in
    let shown = c.mark-shown.ensures.here h k in
    let same = column_shown c.args.frame.literal chomping c.args.column n h text s whole
    ∙ ap (λ (m : Mark). behind_block chomping m.place.column m text s) (sym shown) in
    subst (λ (r : Result (BlockRead × Here) Fault). GivesTo content_data c.end_text.result
    (Stands g.T.Input.unread c.end_text.new.cursor) r) (sym same) (c.end_text.ensures.here read.0 read.1)
