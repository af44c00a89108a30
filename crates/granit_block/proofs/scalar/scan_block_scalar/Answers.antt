use Rattle.std.proofs.Common.{sym, subst, Result}
use Rattle.granit_lexemes.specs.Here.{Here}
use Rattle.granit_lexemes.specs.Outcome.{Fault}
use Rattle.granit_cursor.specs.Reading.{Stands, GivesTo}
use Rattle.granit_cursor.specs.Tokens.{layout_data}
use Rattle.granit_cursor.specs.declared.token.Lexed.{Lexed}
use Rattle.granit_block.proofs.ScalarLemmas.{chain_is, scalar_stands, scalar_cause, scalar_answered}
use Rattle.granit_block.proofs.scalar.scan_block_scalar.Goals as goal

pub returns-clause-here : goal.returns-clause-here
returns-clause-here g c = λ h k.
    subst (λ (r : Result (Lexed × Here) Fault). GivesTo (λ l. l) c.read_block.result
    (Stands g.T.Input.unread c.read_block.new.cursor) r)
    (sym (chain_is (layout_data c.args.at.now) c.args.literal h)) (c.read_block.ensures.here h k)

pub returns-clause-scalar : goal.returns-clause-scalar
returns-clause-scalar g c = λ h k.
    scalar_stands (layout_data c.args.at.now) c.args.literal h (Stands g.T.Input.unread c.read_block.new.cursor)
    c.read_block.result (returns-clause-here g c h k)

pub returns-clause-cause : goal.returns-clause-cause
returns-clause-cause g c = λ h k.
    scalar_cause (layout_data c.args.at.now) c.args.literal h (Stands g.T.Input.unread c.read_block.new.cursor)
    c.read_block.result (returns-clause-here g c h k)

pub returns-clause-answered : goal.returns-clause-answered
returns-clause-answered g c = λ h given after k a.
    scalar_answered (layout_data c.args.at.now) c.args.literal h (Stands g.T.Input.unread c.read_block.new.cursor)
    c.read_block.result given after a (returns-clause-here g c h k)
