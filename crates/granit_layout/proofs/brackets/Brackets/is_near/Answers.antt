use Rattle.std.proofs.Common.{◌≡◌, ◌∙◌, List, map, reverse, sym, ap, subst}
use Rattle.granit_error.specs.OptionsView.{options_of}
use Rattle.granit_lexemes.specs.declared.layout.OpenBracket.{OpenBracket}
use Rattle.granit_machine.specs.PossibleKeys.{fresh_bracket}
use Rattle.granit_layout.proofs.ListLemmas.{map_reversed}
use Rattle.granit_layout.proofs.RisingLemmas.{all_near}
use Rattle.granit_layout.proofs.brackets.Brackets.is_near.Goals as goal

pub returns : goal.returns
returns c = λ near.
    let open_brackets = c.self.inside.list.items in
    let fresh = fresh_bracket (options_of c.args.options.now) c.args.mark.now in
    subst (λ (bs : List OpenBracket). map fresh bs ≡ bs) c.self.view_is
    (sym (map_reversed fresh open_brackets)
    ∙ ap reverse (all_near (options_of c.args.options.now) c.args.mark.now c.self.inside.order open_brackets
    c.self.invariant (sym c.is_near.ensures ∙ near)))
