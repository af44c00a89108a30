use Rattle.std.proofs.Common.{◌<◌, refl, sym, subst, arith}
use Rattle.std.proofs.lemmas.Result.{err_from_is_err_and}
use Rattle.granit_base.specs.Place.{Place}
use Rattle.granit_input.proofs.OriginLemmas.{goes_nowhere}
use Rattle.granit_cursor.specs.Tokens.{layout_data}
use Rattle.granit_plain.proofs.MemoryLemmas.{still_blank}
use Rattle.granit_plain.proofs.plain.plain_parts.Goals as goal

pub turns-init : goal.turns-init
turns-init g c = record {
  told = λ h k. (h, k, refl);
  blanks = λ h k blanks. (blanks.0, subst (λ (p : Place). c.args.start.place.line < p.line) k.1 blanks.1);
  moves = (omega arith, goes_nowhere _, λ start before. before);
}

pub returns-in_err-take_turn-clause-memory : goal.returns-in_err-take_turn-clause-memory
returns-in_err-take_turn-clause-memory g c = λ h k blanks.
    let p = err_from_is_err_and c.from_residual.result c.from_residual.ensures.1 in
    let told = c.turns.invariant.told h k in
    let now = c.turns.invariant.blanks h k blanks in
    rw (p.1, p.2) (c.in_err-take_turn.ensures.memory told.0 told.1
    (still_blank (layout_data c.args.at.now) c.args.start c.args.parts c.turns.parts h told.0 told.2 blanks now.0
    (subst (λ (p : Place). c.args.start.place.line < p.line) (sym told.1.1) now.1)))
