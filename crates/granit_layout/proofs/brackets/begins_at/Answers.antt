use Rattle.std.proofs.Common.{rules, ◌≡◌, ◌<◌, length, get_or, sym, ap, ◌∙◌}
use Rattle.std.proofs.lemmas.List.{get_or_default}
use Rattle.granit_lexemes.specs.declared.layout.OpenBracket.{OpenBracket}
use Rattle.granit_machine.specs.PossibleKeys.{is_of}
use Rattle.granit_layout.proofs.RisingLemmas.{none_behind, none_at_all}
use Rattle.granit_layout.proofs.brackets.begins_at.Goals as goal

pub returns-then-reaches : goal.returns-then-reaches
returns-then-reaches c =
    let open_brackets = c.args.brackets.now in
    let there = c.index-brackets-i.result in
    let within : c.brackets.i < length open_brackets = search rules in
    let is : there ≡ get_or open_brackets c.brackets.i there = search rules in
    let again = c.index-brackets-i-then-reaches.result in
    let same : get_or open_brackets c.brackets.i again ≡ there =
    get_or_default open_brackets c.brackets.i again there within ∙ sym is in
    c.is_of.ensures ∙ ap (λ (b : OpenBracket). is_of c.args.number b.key) same
    ∙ sym (none_behind c.args.number c.args.order.now open_brackets c.brackets.i there c.requires.rising
    c.requires.rises within is (search rules) c.brackets.invariant)

pub returns : goal.returns
returns c = sym (none_at_all c.args.number c.args.brackets.now (λ j d low. c.brackets.invariant j d (search rules) low))
