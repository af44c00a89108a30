use Rattle.std.proofs.Common.{codes, ap, sym, ◌∙◌}
use Rattle.std.specs.Str.{encode_utf8_all}
use Rattle.std.proofs.lemmas.Str.{encodes-chars}
use Rattle.granit_words.proofs.WordLemmas.{is_text, is_no_text}
use Rattle.granit_words.proofs.words.is_events.Goals as goal

pub returns-clause-yes : goal.returns-clause-yes
returns-clause-yes c = λ t. is_text c.eq.result _ (codes "events") c.as_str.result.now
    (sym (encodes-chars c.as_str.result.now c.as_str.utf8) ∙ ap encode_utf8_all c.as_str.ensures) c.eq.ensures t

pub returns-clause-no : goal.returns-clause-no
returns-clause-no c = λ f e. is_no_text c.eq.result _ (codes "events") c.as_str.result.now
    (sym (encodes-chars c.as_str.result.now c.as_str.utf8) ∙ ap encode_utf8_all c.as_str.ensures) c.eq.ensures f e
