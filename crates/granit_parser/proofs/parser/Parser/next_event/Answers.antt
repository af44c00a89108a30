use Rattle.std.proofs.Common.{inl, inr, ap, subst, sym, ◌∙◌}
use Rattle.granit_parser.proofs.AloneLemmas.{ends_alone}
use Rattle.granit_parser.proofs.HeldLemmas.{waiting_gives}
use Rattle.granit_parser.proofs.InLemmas.{call_gives, closed_stays, never_none, noted_none, open_seen}
use Rattle.granit_parser.proofs.ResumedLemmas.{resumed_reached, resumes}
use Rattle.granit_parser.proofs.StartLaws.{ends_told}
use Rattle.granit_parser.proofs.TextLemmas.{ends_text}
use Rattle.granit_parser.proofs.parser.Parser.next_event.Goals as goal
use Rattle.granit_parser.specs.Parsing.{Parsing}
use Rattle.granit_parser.specs.Recovering.{notes_between, notes_over}
use Rattle.granit_sourced.specs.Going.{ReadsHeld, ReadsNext}
use Rattle.granit_sourced.specs.Sources.{TellsSource}
use Rattle.granit_stepper.specs.Stepping.{Stepping}

pub returns-clause-text : goal.returns-clause-text
returns-clause-text g c = λ x es m stands leads. rw c.note.ensures.rest
    (elim (c.take_event.ensures.known m stands) [
      | inl gives ↦ inl (ends_text c.args.self.now.stepper.scanner.options x es m leads c.take_event.new.next _
          c.take_event.new.self.stepper.renumbered gives)
      | inr told ↦ inr told
    ])

pub returns-clause-alone : goal.returns-clause-alone
returns-clause-alone g c = λ x shift s es m tells stands leads. rw c.note.ensures.rest
    (elim (c.take_event.ensures.known m stands) [
      | inl gives ↦ inl (ends_alone c.args.self.now.stepper.scanner.options x shift s tells es m leads
          c.take_event.new.next _ c.take_event.new.self.stepper.renumbered gives)
      | inr told ↦ inr told
    ])

pub returns-clause-told : goal.returns-clause-told
returns-clause-told g c = λ h es m stands leads. rw c.note.ensures.rest
    (elim (c.take_event.ensures.known m stands) [
      | inl gives ↦ inl (ends_told c.args.self.now.stepper.scanner.options h es m leads c.take_event.new.next _
          c.take_event.new.self.stepper.renumbered gives)
      | inr told ↦ inr told
    ])

pub returns-clause-calls : goal.returns-clause-calls
returns-clause-calls g c = λ calls reached is at.
    let p = c.args.self.now in
    let t = c.take_event in
    let q = c.note.new.self in
    let same = ap (λ (x : Parsing _). x.stepper) c.note.ensures.rest in
    elim (t.ensures.calls calls reached (open_seen g.T.Input.unread p calls is at)) [
      | inl reads ↦ inl (call_gives g.T.Input.unread t.new.next q calls p.between p.over is (at.between is) at.over
          (subst (λ (s : Stepping _). ReadsNext g.T.Input.unread t.new.next s calls) (sym same) reads)
          (ap (λ (x : Parsing _). x.peeked) c.note.ensures.rest ∙ ap (λ (x : Parsing _). x.peeked) t.ensures.rest)
          (c.note.ensures.between ∙ ap (λ (x : Parsing _). notes_between t.new.next x.between) t.ensures.rest)
          (c.note.ensures.over ∙ ap (λ (x : Parsing _). notes_over t.new.next x.over) t.ensures.rest)
          (never_none q.stepper.scanner.options p.stepper.scanner.options calls
          (ap (λ (s : Stepping _). s.scanner.options) same ∙ t.ensures.options)
          (c.an_open_call_gives_something.ensures p.stepper.scanner.options) reached is))
      | inr told ↦ inr (subst (λ (s : Stepping _). TellsSource g.T.Input.origin t.new.next s.scanner.cursor) (sym same)
          told)
    ]

pub returns-clause-resumed : goal.returns-clause-resumed
returns-clause-resumed g c = λ stops failed calls es r is at.
    let o = c.args.self.now.stepper.scanner.options in
    let same = ap (λ (x : Parsing _). x.stepper.scanner.options) c.note.ensures.rest
    ∙ c.take_event.ensures.options in
    elim (returns-clause-calls g c calls (resumed_reached o stops failed calls es r) is at) [
      | inl given ↦ inl (resumes g.T.Input.unread o stops failed calls es r is c.note.new.self same
          c.take_event.new.next given)
      | inr told ↦ inr told
    ]

pub returns-clause-closed : goal.returns-clause-closed
returns-clause-closed g c = λ calls closed at.
    let t = c.take_event in
    let q = c.note.new.self in
    closed_stays g.T.Input.unread c.args.self.now q calls closed at t.new.next
    (λ over. let x = t.ensures.over over in
    noted_none c.args.self.now t.new.self q t.new.next x.0 x.1 c.note.ensures.rest c.note.ensures.between
    c.note.ensures.over c.note.ensures.answered c.note.ensures.given c.note.ensures.starved)
    (rw c.note.ensures.rest t.ensures.seen)
    (ap (λ (x : Parsing _). x.peeked) c.note.ensures.rest ∙ ap (λ (x : Parsing _). x.peeked) t.ensures.rest)
    (c.note.ensures.over ∙ ap (λ (x : Parsing _). notes_over t.new.next x.over) t.ensures.rest)

pub returns-clause-held : goal.returns-clause-held
returns-clause-held g c = λ calls f holds.
    let unread = g.T.Input.unread in
    let p = c.args.self.now in
    let t = c.take_event in
    let q = c.note.new.self in
    let same = ap (λ (x : Parsing _). x.stepper) c.note.ensures.rest in
    elim (t.ensures.waits calls.steps f holds.waits) [
      | inl reads ↦ inl (waiting_gives unread p q calls f holds
          (ap (λ (s : Stepping _). s.scanner.options) same ∙ t.ensures.options)
          (ap (λ (s : Stepping _). s.renumbered) same ∙ t.ensures.renumbered) t.new.next
          (subst (λ (s : Stepping _). ReadsHeld unread t.new.next s calls.steps f) (sym same) reads)
          (ap (λ (x : Parsing _). x.peeked) c.note.ensures.rest ∙ ap (λ (x : Parsing _). x.peeked) t.ensures.rest)
          (c.note.ensures.between ∙ ap (λ (x : Parsing _). notes_between t.new.next x.between) t.ensures.rest)
          (c.note.ensures.over ∙ ap (λ (x : Parsing _). notes_over t.new.next x.over) t.ensures.rest))
      | inr told ↦ inr (subst (λ (s : Stepping _). TellsSource g.T.Input.origin t.new.next s.scanner.cursor) (sym same)
          told)
    ]
