use Rattle.std.proofs.Common.{sym, subst, refl}
use Rattle.granit_parser.proofs.HeldLemmas.{behind_kept}
use Rattle.granit_parser.proofs.SourceLemmas.{seen_kept}
use Rattle.granit_parser.proofs.parser.Parser.answer.Goals as goal
use Rattle.granit_parser.specs.Holding.{WaitsBehind}
use Rattle.granit_parser.specs.Parsing.{Parsing}
use Rattle.granit_parser.specs.Recovering.{SeenBy}

pub returns-in-None-clause-known : goal.returns-in-None-clause-known
returns-in-None-clause-known g c = λ d seen.
    let e = c.in-None.ensures in
    seen_kept g.T.Input.unread c.self.inside.stepper c.take_source_error.new.self e.options e.renumbered e.first
    e.failed (λ m at. e.known m at refl) (λ m at. e.held m at refl) (λ m f at. e.refused m f at refl)
    c.self.inside.peeked d
    (subst (λ (p : Parsing _). SeenBy g.T.Input.unread p.peeked p.stepper d) (sym c.self.view_is) seen)

pub returns-in-None-clause-waits : goal.returns-in-None-clause-waits
returns-in-None-clause-waits g c = λ m f waits.
    let e = c.in-None.ensures in
    behind_kept g.T.Input.unread c.self.inside.stepper c.take_source_error.new.self e.ahead e.failed
    (λ m f at. e.refused m f at refl) c.self.inside.peeked m f
    (subst (λ (p : Parsing _). WaitsBehind g.T.Input.unread p.peeked p.stepper m f) (sym c.self.view_is) waits)
