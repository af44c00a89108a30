use Rattle.std.proofs.Common.{◌≡◌, ◌==◌, ℕ, Bool, true, false, List, [], ◌++◌, Some, Ok, Err, sym, ap, ap₂, ◌∙◌, subst}
use Rattle.std.proofs.lemmas.Result.{err_from_is_err_and}
use Rattle.granit_base.specs.Classes.{is_blank}
use Rattle.granit_base.specs.Written.{string_chars}
use Rattle.granit_error.specs.Refused.{Refused}
use Rattle.granit_lexemes.specs.Basics.{past_break}
use Rattle.granit_lexemes.specs.BlockScalar.{between_lines}
use Rattle.granit_lexemes.specs.Here.{Here, text_len, next_char}
use Rattle.granit_cursor.specs.Reading.{Stands}
use Rattle.granit_cursor.proofs.MoveLemmas.{cleared}
use Rattle.granit_block.specs.BlockCode.{block_state, empty_whole}
use Rattle.granit_block.specs.declared.lines.Lines.{Lines}
use Rattle.granit_block.proofs.LineLemmas.{behind_line, line_end, line_lands, line_piece, line_value, line_met}
use Rattle.granit_block.proofs.LineLemmas.{line_strange, line_goes}
use Rattle.granit_block.proofs.lines.take_content.Goals as goal

pub returns-then-next_is_z-clause-here : goal.returns-then-next_is_z-clause-here
returns-then-next_is_z-clause-here g c = λ h k.
    let s = block_state c.args.lines.now h in
    let looked = c.look.ensures.here h k in
    let blank : c.is_blank-blank.result ≡ is_blank (next_char h) = c.is_blank-blank.ensures
    ∙ ap is_blank (c.peek.ensures.value h.unread (rw c.input.ensures looked.0)) in
    let fetched = c.in_ok-fetch_block_scalar_line.ensures.here h looked in
    let n = c.in_ok-fetch_block_scalar_line.field-0 in
    let end = line_end h in
    let stands = subst (λ (i : Here). Stands g.T.Input.unread c.fetch_block_scalar_line.new.self i)
    (line_lands n h fetched.0.0) fetched.0.1 in
    let ended = c.look-2.ensures.here end stands in
    let grown = c.in_ok-push_between.ensures.value
    ∙ ap (λ (b : Bool). string_chars c.args.lines.now.value
    ++ between_lines c.args.literal c.args.lines.now.before b (string_chars c.args.lines.now.empty)) blank in
    let met : (text_len end == 0) ≡ true = sym (c.next_is_z.ensures.value end.unread (rw c.input-2.ensures ended.0))
    ∙ c.if-next_is_z.true in
    let l : Lines = record {
      value = c.fetch_block_scalar_line.new.out;
      empty = c.clear.new.self;
      before = Some
          c.is_blank-blank.result;
      broken = false;
    } in
    let none = cleared c.clear.new.self c.clear.ensures.bytes in (
      end,
      line_piece c.args.literal s,
      ended,
      line_met c.args.literal c.args.column s l met
          (ap₂ (λ (e : List ℕ) (b : Bool). behind_line end e b false) none blank),
      line_value c.args.literal s (string_chars c.args.lines.now.value) (string_chars c.push_between.new.lines.value)
          (string_chars c.fetch_block_scalar_line.new.out) n fetched.0.0 grown fetched.1,
    )

pub returns-in_err-refuse_unprintable-clause-here : goal.returns-in_err-refuse_unprintable-clause-here
returns-in_err-refuse_unprintable-clause-here g c = λ h k.
    let p = err_from_is_err_and c.from_residual-in_err-refuse_unprintable.result
    c.from_residual-in_err-refuse_unprintable.ensures.1 in
    let s = block_state c.args.lines.now h in
    let looked = c.look.ensures.here h k in
    let fetched = c.in_ok-fetch_block_scalar_line.ensures.here h looked in
    let n = c.in_ok-fetch_block_scalar_line.field-0 in
    let end = line_end h in
    let stands = subst (λ (i : Here). Stands g.T.Input.unread c.fetch_block_scalar_line.new.self i)
    (line_lands n h fetched.0.0) fetched.0.1 in
    let bad = c.in_err-refuse_unprintable.ensures.here end (c.look-2.ensures.here end stands) in
    rw (p.1, p.2) (λ other. line_strange c.args.literal c.args.column s bad.0 ∙ ap (λ (f : Refused). Err f) (sym bad.1))

pub returns-clause-here : goal.returns-clause-here
returns-clause-here g c = λ h k.
    let s = block_state c.args.lines.now h in
    let looked = c.look.ensures.here h k in
    let blank : c.is_blank-blank.result ≡ is_blank (next_char h) = c.is_blank-blank.ensures
    ∙ ap is_blank (c.peek.ensures.value h.unread (rw c.input.ensures looked.0)) in
    let fetched = c.in_ok-fetch_block_scalar_line.ensures.here h looked in
    let n = c.in_ok-fetch_block_scalar_line.field-0 in
    let end = line_end h in
    let stands = subst (λ (i : Here). Stands g.T.Input.unread c.fetch_block_scalar_line.new.self i)
    (line_lands n h fetched.0.0) fetched.0.1 in
    let ended = c.look-2.ensures.here end stands in
    let grown = c.in_ok-push_between.ensures.value
    ∙ ap (λ (b : Bool). string_chars c.args.lines.now.value
    ++ between_lines c.args.literal c.args.lines.now.before b (string_chars c.args.lines.now.empty)) blank in
    let met : (text_len end == 0) ≡ false = sym (c.next_is_z.ensures.value end.unread (rw c.input-2.ensures ended.0))
    ∙ c.if-next_is_z.false in
    let clear = c.in_ok-refuse_unprintable.ensures.here end ended in
    let empties = c.in_ok-past_empty_lines.ensures.here (past_break end) (c.past_break.ensures.here end clear.0) in
    let none = cleared c.clear.new.self c.clear.ensures.bytes in
    let whole : empty_whole c.args.column [] (past_break end)
    ≡ Ok (string_chars c.past_empty_lines.new.empty, empties.0) = ap
    (λ (e : List ℕ). empty_whole c.args.column e (past_break end)) (sym none) ∙ empties.2 in
    let l : Lines = record {
      value = c.fetch_block_scalar_line.new.out;
      empty = c.past_empty_lines.new.empty;
      before =
          Some c.is_blank-blank.result;
      broken = true;
    } in (
      empties.0,
      line_piece c.args.literal s,
      empties.1,
      line_goes c.args.literal c.args.column s l (string_chars c.past_empty_lines.new.empty) empties.0 met clear.1 whole
          (ap (λ (b : Bool). behind_line empties.0 (string_chars c.past_empty_lines.new.empty) b true) blank),
      line_value c.args.literal s (string_chars c.args.lines.now.value) (string_chars c.push_between.new.lines.value)
          (string_chars c.fetch_block_scalar_line.new.out) n fetched.0.0 grown fetched.1,
    )
