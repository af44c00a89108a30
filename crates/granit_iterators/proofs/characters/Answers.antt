use Rattle.std.proofs.Common.{◌≡◌, List, Option, ap, subst}
use Rattle.std.proofs.lemmas.Str.{is_utf8-from_IsUtf8}
use Rattle.std.specs.Iterator.{Count}
use Rattle.std.specs.Str.{chars}
use Rattle.std.specs.contracts.prelude.CharsIterator.TheImpl.{remaining-value}
use Rattle.granit_buffered.specs.Feeds.{GivesOnly}
use Rattle.granit_iterators.proofs.characters.Goals as goal

gives_as : {S A : Type 0} (steps : S → Option A → S → Type 0) (remaining : S → Count) (s : S) (xs ys : List A) → xs ≡ ys
    → GivesOnly steps remaining s xs → GivesOnly steps remaining s ys
gives_as steps remaining s xs ys same gives = subst (GivesOnly steps remaining s) same gives

pub returns-clause-gives : goal.returns-clause-gives
returns-clause-gives c =
    let good = is_utf8-from_IsUtf8 c.args.text.now c.utf8.text in
    let told = c.a_string_gives_its_characters.ensures c.chars.result (rw c.chars.ensures.rest good) in
    gives_as _ remaining-value.it c.chars.result _ (chars c.args.text.now) (ap chars c.chars.ensures.rest) told
