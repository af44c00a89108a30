use Rattle.std.proofs.Common.{◌∙◌, List, ℕ, false, sym, ap}
use Rattle.std.specs.Str.{chars}
use Rattle.granit_base.specs.Written.{Written}
use Rattle.granit.proofs.WordLemmas.{word_of_utf8, word_of_other_bytes}
use Rattle.granit.proofs.arguments.word.Goals as goal

-- the text that has these bytes
abbrev text_of : List ℕ → Written
text_of bytes = record { characters = chars bytes; is_borrowed = false }

pub returns-in_ok-from_str-in-Ok : goal.returns-in_ok-from_str-in-Ok
returns-in_ok-from_str-in-Ok c =
    c.new.ensures
    ∙ ap text_of (c.in_ok-from_str-in-Ok.ensures.ok ∙ c.in-Ok.ensures.cases.0)
    ∙ sym (word_of_utf8 _ c.in-Ok.ensures.cases.1)

pub returns-in-Err : goal.returns-in-Err
unfolding chars
returns-in-Err c = c.new-in-Err-2.ensures ∙ ap text_of c.new-in-Err.ensures.bytes
    ∙ sym (word_of_other_bytes _ c.in-Err.ensures.cases.0)
