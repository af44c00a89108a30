use Rattle.std.proofs.Common.{◌+◌, ◌-◌, length, refl, sym, ap, subst, ◌∙◌, arith}
use Rattle.granit_lexemes.specs.Moves.{steps}
use Rattle.granit_cursor.proofs.MoveLemmas.{stands_at}
use Rattle.granit_cursor.proofs.OnwardLemmas.{goes_by, steps_onward}
use Rattle.granit_cursor.proofs.QuotedMoves.{count_is, lands_quoted, same_quote}
use Rattle.granit_cursor.proofs.cursor.Cursor.pass_quoted.Goals as goal

pub take_quoted-requires : goal.take_quoted-requires
take_quoted-requires g c = λ u k.
    let r = c.args.self.now in
    let known = subst (λ input. g.T.Input.unread input u) (ap (λ r. r.input) c.self.view_is) k in
    c.requires (record { unread = u; place = r.place; begins_line = r.begins_line; tab = r.tab })
    (known, refl, refl, refl) ∙ sym (same_quote c.args.single)

pub returns-in-Some-clause-here : goal.returns-in-Some-clause-here
returns-in-Some-clause-here g c = λ h k.
    let stood = stands_at g.T.Input.unread _ _ h c.self.view_is k in
    let taken = c.in-Some.ensures.takes h.unread stood.0 in
    let start = c.in-Some.start in
    let end = c.in-Some.end in (
      taken.0,
      taken.1,
      lands_quoted g.T.Input.unread _ _ h c.args.single c.args.in_flow taken.0 (end - start + 2)
          (count_is start end (length taken.0) taken.1.stops) taken.1.quoted stood taken.2 refl refl refl,
    )

pub returns-in-Some-clause-moves : goal.returns-in-Some-clause-moves
returns-in-Some-clause-moves g c =
    let same = sym (ap (λ r. r.input) c.self.view_is) in (
      rw same (omega (arith, c.in-Some.ensures.moves.1)),
      rw same c.in-Some.ensures.moves.3,
      goes_by g.T.Input.unread _ _ (ap (λ r. r.lost) c.self.view_is) (λ h k.
          let taken = returns-in-Some-clause-here g c h k in
          let count = length taken.0 + 2 in
          (steps count h, λ start o. steps_onward count h o, taken.2)),
    )
