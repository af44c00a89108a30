use Rattle.std.proofs.Common.{◌∙◌, sym, ap, subst}
use Rattle.granit_error.specs.OptionsView.{options_of}
use Rattle.granit_frames.specs.Refusing.{RefusesByFault}
use Rattle.granit_items.specs.declared.item.Lexeme.{Lexeme}
use Rattle.granit_machine.specs.Leaving.{LeavesIfRoom}
use Rattle.granit_machine.specs.NodeSteps.{Stepped}
use Rattle.granit_nodes.proofs.BareLemmas.{as_bare_colon}
use Rattle.granit_nodes.proofs.nodes.any_bare.Goals as goal
use Rattle.granit_refused.specs.Answered.{answered}
use Rattle.granit_sorts.specs.SortViews.{machine_token}

pub returns-in-Scalar-clause-leaves : goal.returns-in-Scalar-clause-leaves
returns-in-Scalar-clause-leaves c =
    let kind = sym (c.in-Scalar.ensures.value ∙ ap (λ (l : Lexeme). l.kind) c.deref_mut.ensures.value) in
    rw (kind, sym c.deref_mut.ensures.value) (sym c.in_ok-scalar-in-Scalar.ensures.leaves)

pub returns : goal.returns
returns c =
    let kind = c.replace.ensures.value ∙ ap (λ (l : Lexeme). l.kind) c.deref_mut.ensures.value in
    let as_colon = sym (as_bare_colon (options_of c.args.options.now) (machine_token c.args.token.now)
    c.args.state.now c.replace.result c.args.token.now.lexeme.value.kind kind c.in_default.not-Open
    c.in_default.not-Dash c.in_default.not-Question c.in_default.not-Alias c.in_default.not-Anchor
    c.in_default.not-Tag c.in_default.not-Scalar) in
    let result = answered c.first_colon.new.fault c.first_colon.result in
    record {
      leaves = subst (λ (r : Stepped). LeavesIfRoom result c.first_colon.new.state r) as_colon
          (rw c.deref_mut.ensures.value at c.first_colon.ensures.leaves);
      by_fault = subst (λ (r : Stepped). RefusesByFault result r) as_colon
          (rw c.deref_mut.ensures.value at c.first_colon.ensures.by_fault);
      again = λ name is lent left known. absurd (c.in_default.not-Anchor name (kind ∙ is));
      kept = c.first_colon.ensures.kept;
    }
