use Rattle.std.proofs.Common.{◌≡◌, ◌∙◌, List, map, reverse, sym, ap, subst}
use Rattle.granit_error.specs.OptionsView.{options_of}
use Rattle.granit_lexemes.specs.declared.layout.OpenBracket.{OpenBracket}
use Rattle.granit_machine.specs.PossibleKeys.{fresh_bracket}
use Rattle.granit_layout.specs.Rising.{Rising}
use Rattle.granit_layout.proofs.ListLemmas.{map_reversed}
use Rattle.granit_layout.proofs.RisingLemmas.{all_near, freshened}
use Rattle.granit_layout.proofs.brackets.Brackets.refresh.Goals as goal

pub invariant_of-self-else-self : goal.invariant_of-self-else-self
invariant_of-self-else-self c =
    subst (Rising c.self.inside.order) (sym c.refresh_all.ensures)
    (freshened (options_of c.args.options.now) c.args.mark.now c.self.inside.order c.self.inside.list.items
    c.self.invariant)

pub returns-then-is_near : goal.returns-then-is_near
returns-then-is_near c =
    let open_brackets = c.self.inside.list.items in
    let fresh = fresh_bracket (options_of c.args.options.now) c.args.mark.now in
    subst (λ (bs : List OpenBracket). bs ≡ map fresh bs) c.self.view_is
    (ap reverse (sym (all_near (options_of c.args.options.now) c.args.mark.now c.self.inside.order open_brackets
    c.self.invariant (sym c.is_near.ensures ∙ c.if-is_near.true))) ∙ map_reversed fresh open_brackets)
