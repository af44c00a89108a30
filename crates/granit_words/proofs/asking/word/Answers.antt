use Rattle.std.proofs.Common.{sym, ap, ◌∙◌, ◌≡◌, Some, None, arith}
use Rattle.std.specs.Prelude.{slice_get}
use Rattle.std.specs.Option.{option_map}
use Rattle.std.specs.Str.{encode_utf8_all}
use Rattle.std.proofs.lemmas.Option.{slice_get_read, slice_get_past}
use Rattle.std.proofs.lemmas.Str.{encodes-chars}
use Rattle.granit_words.proofs.AskLemmas.{spelled_at}
use Rattle.granit_words.proofs.asking.word.Goals as goal

pub returns-in-Some-clause-some : goal.returns-in-Some-clause-some
returns-in-Some-clause-some c =
    let at : slice_get c.args.words.now c.args.i ≡ Some c.in-Some.word.now =
    grind (arith, c.as_slice.ensures, c.in-Some.ensures.lookup, slice_get_read c.args.words.now) in
    let said : encode_utf8_all c.in-Some.word.now.characters ≡ c.as_str.result.now =
    sym (sym (encodes-chars c.as_str.result.now c.as_str.utf8) ∙ ap encode_utf8_all c.as_str.ensures) in
    spelled_at c.args.words.now c.args.i ∙ (ap (option_map (λ w. encode_utf8_all w.characters)) at ∙ ap Some said)

pub returns-in-None-clause-none : goal.returns-in-None-clause-none
returns-in-None-clause-none c =
    let past : slice_get c.args.words.now c.args.i ≡ None =
    grind (arith, c.as_slice.ensures, c.in-None.ensures.lookup, slice_get_past c.args.words.now) in
    spelled_at c.args.words.now c.args.i ∙ ap (option_map (λ w. encode_utf8_all w.characters)) past
