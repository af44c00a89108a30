use Rattle.std.proofs.Common.{arith}
use Rattle.std.proofs.lemmas.Str.{encodes-chars, scalars-chars, IsUtf8-from_is_utf8}
use Rattle.std.specs.Str.{chars}
use Rattle.std.specs.Str.Iter.{chars_rest}
use Rattle.std.specs.contracts.prelude.CharsIterator.TheImpl.{remaining-value}
use Rattle.granit_buffered.proofs.KnownLemmas.{string_gives}
use Rattle.granit_buffered.proofs.laws.a_string_gives_its_characters.Goals as goal

pub returns : goal.returns
returns c = λ s utf8.
    let good = IsUtf8-from_is_utf8 (chars_rest s) utf8 in
    string_gives remaining-value.it (λ t. omega arith) s (chars (chars_rest s)) (scalars-chars (chars_rest s) good)
    (encodes-chars (chars_rest s) good)
