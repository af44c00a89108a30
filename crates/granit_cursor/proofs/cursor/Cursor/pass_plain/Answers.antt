use Rattle.std.proofs.Common.{◌≡◌, ◌-◌, ◌+◌, Some, None, refl, sym, ap, ◌∙◌, arith}
use Rattle.granit_base.specs.Place.{Mark, Place}
use Rattle.granit_runs.specs.Words.{stops_words}
use Rattle.granit_cursor.proofs.MoveLemmas.{moved, stands_at}
use Rattle.granit_cursor.proofs.OnwardLemmas.{goes_by, stays}
use Rattle.granit_cursor.proofs.PlainLemmas.{ends_onward, line_lands, line_there, words_land, words_mark, words_text}
use Rattle.granit_cursor.proofs.cursor.Cursor.pass_plain.Goals as goal

pub returns-in_err-start-clause-moves : goal.returns-in_err-start-clause-moves
returns-in_err-start-clause-moves g c =
    let same = sym (ap (λ r. r.input) c.self.view_is) in (
      rw same (omega (arith, c.in_err-start.ensures.moves.0)),
      rw same c.in_err-start.ensures.moves.2,
      stays g.T.Input.unread _ _ (ap (λ r. r.lost) c.self.view_is) (λ h k.
          let stood = stands_at g.T.Input.unread _ _ h c.self.view_is k in
          (c.in_err-start.ensures.takes h.unread stood.0, stood.1, stood.2, stood.3)),
    )

pub returns-in-None-clause-here : goal.returns-in-None-clause-here
returns-in-None-clause-here g c = λ h k.
    let f = c.args.in_flow in
    let start = c.in_ok-start.start in
    let end = c.in_ok-start.end in
    let stood = stands_at g.T.Input.unread _ _ h c.self.view_is k in
    let taken = rw c.in-None.is at (c.in_ok-start.ensures.takes h.unread stood.0) in
    let w = taken.0 in
    record {
      words = w;
      mark = c.with_byte_offset-behind.ensures ∙ ap (λ (m : Mark). record m { byte_offset = Some end }) c.new.ensures
          ∙ words_mark f h start end w _ (ap (moved (end - start)) (sym stood.1));
      spaces = None;
      ends = (
        ap (stops_words f) (words_text f h start end w) ∙ taken.1.0,
        words_land f h start end w g.T.Input.unread _ _ stood
            taken.1.1 refl refl refl,
      );
    }

pub returns-in-None-clause-moves : goal.returns-in-None-clause-moves
returns-in-None-clause-moves g c =
    let same = sym (ap (λ r. r.input) c.self.view_is) in (
      rw same (omega (arith, c.in_ok-start.ensures.moves.0)),
      rw same c.in_ok-start.ensures.moves.2,
      goes_by g.T.Input.unread _ _ (ap (λ r. r.lost) c.self.view_is) (λ h k.
          let p = returns-in-None-clause-here g c h k in
          ends_onward c.args.in_flow c.args.column h (c.in_ok-start.end - c.in_ok-start.start) p.spaces _ p.ends),
    )

pub returns-in-Some-clause-here : goal.returns-in-Some-clause-here
returns-in-Some-clause-here g c = λ h k.
    let f = c.args.in_flow in
    let start = c.in_ok-start.start in
    let end = c.in_ok-start.end in
    let spaces = c.in-Some.spaces in
    let stood = stands_at g.T.Input.unread _ _ h c.self.view_is k in
    let taken = rw c.in-Some.is at (c.in_ok-start.ensures.takes h.unread stood.0) in
    let w = taken.0 in
    let column = c.args.column in
    record {
      words = w;
      mark = c.with_byte_offset-behind.ensures ∙ ap (λ (m : Mark). record m { byte_offset = Some end }) c.new.ensures
          ∙ words_mark f h start end w _ (ap (moved (end - start)) (sym stood.1));
      spaces = Some spaces;
      ends = (
        line_there f h start end w column spaces taken.1.0,
        line_lands g.T.Input.unread _ f h start end w column spaces taken.1.0 taken.1.1
            (ap (λ (p : Place). record {
              index = p.index + (end - start) + (1 + spaces);
              line = p.line + 1;
              column = spaces;
            }) (sym stood.1)) refl refl,
      );
    }

pub returns-in-Some-clause-moves : goal.returns-in-Some-clause-moves
returns-in-Some-clause-moves g c =
    let same = sym (ap (λ r. r.input) c.self.view_is) in (
      rw same (omega (arith, c.in_ok-start.ensures.moves.0)),
      rw same c.in_ok-start.ensures.moves.2,
      goes_by g.T.Input.unread _ _ (ap (λ r. r.lost) c.self.view_is) (λ h k.
          let p = returns-in-Some-clause-here g c h k in
          ends_onward c.args.in_flow c.args.column h (c.in_ok-start.end - c.in_ok-start.start) p.spaces _ p.ends),
    )
