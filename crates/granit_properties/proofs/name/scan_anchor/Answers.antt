use Rattle.std.proofs.Common.{◌≡◌, Bool, true, false, refl, ap, ◌∙◌}
use Rattle.granit_cursor.specs.Reading.{Stands}
use Rattle.granit_lexemes.specs.NameExtent.{is_name_sign, AnswersName, RefusesName}
use Rattle.granit_lexemes.specs.Tags.{name_at}
use Rattle.granit_handles.proofs.TagFronts.{name_stands, name_refused, name_is}
use Rattle.granit_properties.specs.PropertyTokens.{name_sign, name_token}
use Rattle.granit_properties.proofs.PlacedLemmas.{placed_answers, placed_cause, placed_memory}
use Rattle.granit_properties.proofs.name.scan_anchor.Goals as goal

is_sign : (alias : Bool) → is_name_sign (name_sign alias) ≡ true
is_sign true = refl
is_sign false = refl

pub returns-clause-name : goal.returns-clause-name
returns-clause-name g c = λ h k.
    placed_answers (name_token c.args.alias) name_at h (Stands g.T.Input.unread c.read_name.new.cursor)
    c.read_name.result AnswersName
    (λ name after e. name_stands h name after (ap is_name_sign (c.requires h k) ∙ is_sign c.args.alias) e)
    (c.read_name.ensures.here h k)

pub returns-clause-cause : goal.returns-clause-cause
returns-clause-cause g c = λ h k.
    placed_cause (name_token c.args.alias) name_at h (Stands g.T.Input.unread c.read_name.new.cursor) c.read_name.result
    (RefusesName h)
    (λ f e. name_refused h f (ap is_name_sign (c.requires h k) ∙ is_sign c.args.alias) e) (c.read_name.ensures.here h k)

pub returns-clause-answered : goal.returns-clause-answered
returns-clause-answered g c = λ h name after k a.
    placed_memory (name_token c.args.alias) name_at h (Stands g.T.Input.unread c.read_name.new.cursor)
    c.read_name.result name after (name_is h name after a) (c.read_name.ensures.here h k)
