use Rattle.std.proofs.Common.{◌≡◌, ◌∙◌, false, sym, ap, arith}
use Rattle.std.specs.Prelude.{nat_le}
use Rattle.std.specs.List.{list_any}
use Rattle.std.proofs.lemmas.Bool.Decides.{nat_tests}
use Rattle.granit_lexemes.specs.declared.layout.OpenBracket.{OpenBracket}
use Rattle.granit_machine.specs.PossibleKeys.{is_of}
use Rattle.granit_layout.proofs.ListLemmas.{any_reversed}
use Rattle.granit_layout.proofs.RisingLemmas.{all_later}
use Rattle.granit_layout.proofs.brackets.Brackets.is_possible.Goals as goal

pub returns-else-number-self : goal.returns-else-number-self
returns-else-number-self c =
    let open_brackets = c.self.inside.list.items in
    let order = c.self.inside.order in
    let begins = λ (b : OpenBracket). is_of c.args.number b.key in
    let later : nat_le order.least c.args.number ≡ false = grind (arith, nat_tests, c.if-number-self.false) in
    later
    ∙ sym (ap (list_any begins) (sym c.self.view_is) ∙ any_reversed begins open_brackets
    ∙ all_later c.args.number order open_brackets c.self.invariant later)
