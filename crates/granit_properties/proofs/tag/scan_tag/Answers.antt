use Rattle.granit_cursor.specs.Reading.{Stands}
use Rattle.granit_lexemes.specs.TagExtent.{AnswersTag, RefusesTag}
use Rattle.granit_lexemes.specs.Tags.{tag_at}
use Rattle.granit_handles.proofs.TagFronts.{tag_stands, tag_refused}
use Rattle.granit_handles.proofs.TagFronts.{tag_is}
use Rattle.granit_properties.specs.PropertyTokens.{tag_token}
use Rattle.granit_properties.proofs.PlacedLemmas.{placed_answers, placed_cause, placed_memory}
use Rattle.granit_properties.proofs.tag.scan_tag.Goals as goal

pub returns-clause-tag : goal.returns-clause-tag
returns-clause-tag g c = λ h k.
    placed_answers tag_token (tag_at c.args.in_flow) h (Stands g.T.Input.unread c.read_tag.new.cursor) c.read_tag.result
    (AnswersTag c.args.in_flow)
    (λ tag after e. tag_stands c.args.in_flow h tag after (c.requires h k) e) (c.read_tag.ensures.here h k)

pub returns-clause-cause : goal.returns-clause-cause
returns-clause-cause g c = λ h k.
    placed_cause tag_token (tag_at c.args.in_flow) h (Stands g.T.Input.unread c.read_tag.new.cursor) c.read_tag.result
    (RefusesTag c.args.in_flow h)
    (λ f e. tag_refused c.args.in_flow h f (c.requires h k) e) (c.read_tag.ensures.here h k)

pub returns-clause-answered : goal.returns-clause-answered
returns-clause-answered g c = λ h tag after k a.
    placed_memory tag_token (tag_at c.args.in_flow) h (Stands g.T.Input.unread c.read_tag.new.cursor) c.read_tag.result
    tag after (tag_is c.args.in_flow h tag after a) (c.read_tag.ensures.here h k)
