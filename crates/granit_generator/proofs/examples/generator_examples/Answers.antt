-- Each example is a computation.
use Rattle.std.proofs.Common.{refl}
use lib.Utf8.{encode}
use Rattle.std.specs.Fmt.{digits}
use Rattle.granit_base.specs.Classes.{is_word_char, is_digit}
use Rattle.granit_model.specs.FlowText.{upper_digit, tag_byte, quoted_character}
use Rattle.granit_generator.specs.Generator.{draw, beginning, content_made}
use Rattle.granit_generator.proofs.examples.generator_examples.Goals as goal

pub returns-clause-nothing : goal.returns-clause-nothing
returns-clause-nothing c = refl

pub returns-clause-worked : goal.returns-clause-worked
unfolding upper_digit tag_byte is_word_char is_digit quoted_character encode
returns-clause-worked c = refl

pub returns-clause-nested : goal.returns-clause-nested
unfolding upper_digit tag_byte is_word_char is_digit quoted_character encode
returns-clause-nested c = refl

pub returns-clause-none : goal.returns-clause-none
returns-clause-none c = refl

pub returns-clause-first : goal.returns-clause-first
unfolding upper_digit tag_byte is_word_char is_digit quoted_character encode digits draw beginning content_made
returns-clause-first c = refl

pub returns-clause-second : goal.returns-clause-second
unfolding upper_digit tag_byte is_word_char is_digit quoted_character encode digits draw beginning content_made
returns-clause-second c = refl
