use Rattle.std.proofs.Common.{◌≡◌, ◌-◌, false, take, is_some, IfSome, sym, ap, subst, ◌∙◌}
use Rattle.std.specs.Str.{chars}
use Rattle.granit_input.proofs.LendLemmas.{lent_words}
use Rattle.granit_cursor.proofs.plain.take_plain.Goals as goal

pub returns-in-Some-clause-here : goal.returns-in-Some-clause-here
returns-in-Some-clause-here g c = λ h k.
    let p = c.in_ok-start.ensures.here h k in
    let lent = lent_words c.args.in_flow (g.T.Input.origin c.args.cursor.now.input)
    (g.T.Input.origin c.pass_plain.new.self.input) (g.T.Input.left c.args.cursor.now.input) h.unread c.in_ok-start.start
    c.in_ok-start.end c.slice_borrowed.result c.in_ok-start.ensures.moves.1
    (g.met.T.Input.agrees c.args.cursor.now.input h.unread k.0) p.words
    (rw c.input.ensures at c.slice_borrowed.ensures) in
    record {
      count = c.in_ok-start.end - c.in_ok-start.start;
      words = p.words.words;
      whole = p.words.whole;
      lends = p.words.lends;
      is = subst (λ answer. IfSome answer (λ part. chars part.now
          ≡ take (c.in_ok-start.end - c.in_ok-start.start) h.unread.text)) c.in-Some.is lent.1;
      mark = p.mark;
      spaces = p.spaces;
      ends = p.ends;
    }

pub returns-in-None-clause-here : goal.returns-in-None-clause-here
returns-in-None-clause-here g c = λ h k.
    let p = c.in_ok-start.ensures.here h k in
    let lent = lent_words c.args.in_flow (g.T.Input.origin c.args.cursor.now.input)
    (g.T.Input.origin c.pass_plain.new.self.input) (g.T.Input.left c.args.cursor.now.input) h.unread c.in_ok-start.start
    c.in_ok-start.end c.slice_borrowed.result c.in_ok-start.ensures.moves.1
    (g.met.T.Input.agrees c.args.cursor.now.input h.unread k.0) p.words
    (rw c.input.ensures at c.slice_borrowed.ensures) in
    let none : is_some c.slice_borrowed.result ≡ false = ap is_some c.in-None.is in
    absurd (let some = lent.0 in cc)
