use Rattle.std.proofs.Common.{ap, sym, ◌∙◌}
use Rattle.std.specs.Str.{encode_utf8_all}
use Rattle.std.proofs.lemmas.Str.{encodes-chars}
use Rattle.granit_words.proofs.WordLemmas.{is_said, may_be_said, not_said}
use Rattle.granit_words.proofs.words.setting_of.Goals as goal

pub returns-in-Some-clause-some : goal.returns-in-Some-clause-some
returns-in-Some-clause-some c = is_said c.as_str-word.result.now _ c.in-Some.setting
    (sym (encodes-chars c.as_str-word.result.now c.as_str-word.utf8) ∙ ap encode_utf8_all c.as_str-word.ensures)
    c.in-Some.ensures.some

pub returns-in-None-clause-some : goal.returns-in-None-clause-some
returns-in-None-clause-some c = may_be_said c.as_str-word.result.now _ c.limit_setting.result
    (sym (encodes-chars c.as_str-word.result.now c.as_str-word.utf8) ∙ ap encode_utf8_all c.as_str-word.ensures)
    c.limit_setting.ensures.some

pub returns-in-None-clause-none : goal.returns-in-None-clause-none
returns-in-None-clause-none c = not_said c.as_str-word.result.now _ c.limit_setting.result
    (sym (encodes-chars c.as_str-word.result.now c.as_str-word.utf8) ∙ ap encode_utf8_all c.as_str-word.ensures)
    c.in-None.ensures.none c.limit_setting.ensures.none
