use Rattle.std.proofs.Common.{◌≡◌, ◌==◌, ℕ, List, None, true, false, Result, Ok, Err, refl, sym, ap, ◌∙◌, subst}
use Rattle.std.proofs.lemmas.Result.{err_from_is_err_and}
use Rattle.granit_base.specs.Place.{Mark}
use Rattle.granit_error.specs.Refused.{Refused}
use Rattle.granit_lexemes.specs.Basics.{owned}
use Rattle.granit_lexemes.specs.BlockScalar.{BlockRead, no_content}
use Rattle.granit_lexemes.specs.Here.{Here, text_len}
use Rattle.granit_lexemes.specs.Outcome.{Fault}
use Rattle.granit_cursor.specs.Reading.{Stands, GivesTo}
use Rattle.granit_block.specs.BlockCode.{chomping_data, content_data}
use Rattle.granit_block.proofs.ContentLemmas.{content_at}
use Rattle.granit_block.proofs.content.read_content.Goals as goal

pub returns-in_err-refuse_unprintable-clause-here : goal.returns-in_err-refuse_unprintable-clause-here
returns-in_err-refuse_unprintable-clause-here g c = λ h k n e.
    let p = err_from_is_err_and c.from_residual.result c.from_residual.ensures.1 in
    let f = c.args.frame in
    let bad = c.in_err-refuse_unprintable.ensures.here h k in
    rw (p.1, p.2) (λ other. content_at f.literal (chomping_data f.chomping) f.broken c.args.at.now.block_column
    c.args.column f.start n h bad.0 refl refl ∙ ap (λ (f : Refused). Err f) (sym bad.1))

pub returns-then-next_is_z-clause-here : goal.returns-then-next_is_z-clause-here
returns-then-next_is_z-clause-here g c = λ h k n e.
    let f = c.args.frame in
    let chomping = chomping_data f.chomping in
    let clear = c.in_ok-refuse_unprintable.ensures.here h k in
    let looked = c.look.ensures.here h clear.0 in
    let z : (text_len h == 0) ≡ true = sym (c.next_is_z.ensures.value h.unread (rw c.input.ensures looked.0))
    ∙ c.if-next_is_z.true in
    let col : c.col.result ≡ h.place.column = c.col.ensures
    ∙ ap (λ (m : Mark). m.place.column) (c.mark.ensures.here h looked) in
    let given = c.in_ok-content.ensures h (sym col) in (
      h,
      looked,
      content_at f.literal chomping f.broken c.args.at.now.block_column c.args.column f.start n h clear.1 z refl
          ∙ ap (λ (t : List ℕ). Ok (
            record {
              text = owned (no_content chomping f.broken t h);
              shown = f.start;
              indent =
                  None;
            },
            h,
          )) (sym e)
          ∙ ap (λ (r : BlockRead). Ok (r, h)) (sym given),
    )

pub returns-then-is_between-clause-here : goal.returns-then-is_between-clause-here
returns-then-is_between-clause-here g c = λ h k n e.
    let f = c.args.frame in
    let clear = c.in_ok-refuse_unprintable.ensures.here h k in
    let looked = c.look.ensures.here h clear.0 in
    let z : (text_len h == 0) ≡ false = sym (c.next_is_z.ensures.value h.unread (rw c.input.ensures looked.0))
    ∙ c.if-next_is_z.false in
    let b = sym (c.is_between.ensures h looked) ∙ c.if-is_between.true in
    λ other. rw (c.from_kind.ensures, c.mark-then-is_between.ensures.here h looked)
    (content_at f.literal (chomping_data f.chomping) f.broken c.args.at.now.block_column c.args.column f.start n h
    clear.1 z b)

pub returns-clause-here : goal.returns-clause-here
returns-clause-here g c = λ h k n e.
    let f = c.args.frame in
    let clear = c.in_ok-refuse_unprintable.ensures.here h k in
    let looked = c.look.ensures.here h clear.0 in
    let z : (text_len h == 0) ≡ false = sym (c.next_is_z.ensures.value h.unread (rw c.input.ensures looked.0))
    ∙ c.if-next_is_z.false in
    let b = sym (c.is_between.ensures h looked) ∙ c.if-is_between.false in
    let go = content_at f.literal (chomping_data f.chomping) f.broken c.args.at.now.block_column c.args.column f.start n
    h clear.1 z b in
    subst (λ (r : Result (BlockRead × Here) Fault). GivesTo content_data c.read_text.result
    (Stands g.T.Input.unread c.read_text.new.cursor) r) (sym go) (c.read_text.ensures.here h looked n e)
