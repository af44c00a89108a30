use Rattle.std.proofs.Common.{◌≡◌, ℕ, true, ap, subst, sym, refl, ◌∙◌}
use Rattle.granit_parser.proofs.AnswerLemmas.{follows_looked, follows_told}
use Rattle.granit_parser.proofs.DropLemmas.{behind_kept}
use Rattle.granit_parser.proofs.HeldProceedLemmas.{follows_behind, follows_seen}
use Rattle.granit_parser.proofs.parser.Parser.follows.Goals as goal
use Rattle.granit_parser.specs.Holding.{WaitsBehind, held_room}
use Rattle.granit_parser.specs.Parsing.{Parsing}
use Rattle.granit_seen.specs.Seeing as seeing
use Rattle.granit_parser.specs.Recovering.{AsksBy, seen_in}
use Rattle.granit_error.specs.Refused.{UnlessMemory}
use Rattle.granit_stepper.specs.Holding.{HoldsFault, held_follows}
use Rattle.granit_stepper.specs.Recovering.{Looks}

pub returns-then-tells-clause-known : goal.returns-then-tells-clause-known
returns-then-tells-clause-known g c = λ stops looked calls asks.
    follows_told g.T.Input.unread stops looked calls c.args.self.now asks
    (ap seeing.seen_tells_document (sym c.seen.ensures) ∙ sym c.tells.ensures ∙ c.if-tells.true)

pub invariant_of-self : goal.invariant_of-self
invariant_of-self g c = (
  behind_kept c.self.inside.peeked c.self.inside.given c.self.inside.stepper c.document_follows.new.self
      c.document_follows.ensures.failed c.self.invariant.0,
  c.self.invariant.1,
)

pub returns-clause-known : goal.returns-clause-known
returns-clause-known g c = λ stops looked calls asks.
    let inside : Parsing _ = record {
      stepper = c.self.inside.stepper;
      peeked = c.self.inside.peeked;
      given = c.self.inside.given;
      starved = c.self.inside.starved;
      between = c.self.inside.between;
      over = c.self.inside.over;
      answered = c.self.inside.answered;
    } in
    follows_looked g.T.Input.unread stops looked calls inside
    (record inside { stepper = c.document_follows.new.self })
    c.document_follows.result c.document_follows.ensures.options c.document_follows.ensures.first refl
    (subst (λ (p : Parsing _). AsksBy g.T.Input.unread stops looked p.peeked p.stepper calls) (sym c.self.view_is) asks)
    (ap (λ (p : Parsing _). seeing.seen_tells_document (seen_in p.peeked)) c.self.view_is
    ∙ ap seeing.seen_tells_document (sym c.seen.ensures) ∙ sym c.tells.ensures ∙ c.if-tells.false)
    (λ m stands first turned. subst (λ (n : ℕ). UnlessMemory c.document_follows.result
    (Looks g.T.Input.unread c.self.inside.stepper.scanner.options n c.document_follows.result
    c.document_follows.new.self
    m)) c.max_comments-room.ensures (c.document_follows.ensures.known m stands first turned))

pub returns-then-tells-clause-waits : goal.returns-then-tells-clause-waits
returns-then-tells-clause-waits g c = λ m f waits other.
    let p = c.args.self.now in
    follows_seen g.T.Input.unread p.peeked p.stepper m f (held_room p.stepper.scanner.options true p.peeked) waits
    (ap seeing.seen_tells_document (sym c.seen.ensures) ∙ sym c.tells.ensures ∙ c.if-tells.true) other

pub returns-clause-waits : goal.returns-clause-waits
returns-clause-waits g c = λ m f waits other.
    let unread = g.T.Input.unread in
    let r = c.document_follows.result in
    let o = c.self.inside.stepper.scanner.options in
    subst (λ (p : Parsing _). UnlessMemory r ((r ≡ held_follows (held_room p.stepper.scanner.options true p.peeked) m)
    × WaitsBehind unread c.self.inside.peeked c.document_follows.new.self m f)) c.self.view_is
    (follows_behind unread c.self.inside.peeked c.self.inside.stepper c.document_follows.new.self m f o r
    (ap (λ (p : Parsing _). seeing.seen_tells_document (seen_in p.peeked)) c.self.view_is
    ∙ ap seeing.seen_tells_document (sym c.seen.ensures) ∙ sym c.tells.ensures ∙ c.if-tells.false)
    (subst (λ (p : Parsing _). WaitsBehind unread p.peeked p.stepper m f) (sym c.self.view_is) waits)
    (λ n e holds. subst (λ (k : ℕ). UnlessMemory r ((r ≡ held_follows k n)
    × HoldsFault unread c.document_follows.new.self n e)) c.max_comments-room.ensures
    (c.document_follows.ensures.held n e holds)))
