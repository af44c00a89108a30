use Rattle.std.proofs.Common.{◌≡◌, ◌==◌, ℕ, List, Some, true, false, length, sym, ap, ◌∙◌}
use Rattle.std.proofs.lemmas.Result.{err_from_is_err_and}
use Rattle.std.specs.Str.{chars}
use Rattle.granit_base.specs.Classes.{is_blank_or_breakz}
use Rattle.granit_base.specs.Written.{string_chars}
use Rattle.granit_cursor.specs.Reading.{coded}
use Rattle.granit_directives.proofs.DirectiveLemmas.{name_passes, no_name, wrong_name, right_name}
use Rattle.granit_directives.proofs.directive.directive_at.Goals as goal
use Rattle.granit_directives.specs.DirectiveCode.{kind_type}
use Rattle.granit_directives.specs.WordCode.{past_spelled}
use Rattle.granit_error.specs.OptionsView.{options_of}
use Rattle.granit_lexemes.specs.Here.{next_char, step}
use Rattle.granit_properties.specs.UriCode.{budget_of}

pub returns-in_err-name-clause-here : goal.returns-in_err-name-clause-here
returns-in_err-name-clause-here g c = λ h k start.
    let p = err_from_is_err_and c.from_residual.result c.from_residual.ensures.1 in
    let o = options_of c.args.options.now in
    let stepped = c.step.ensures.here h k in
    let mark = c.mark-name_start.ensures.here (step h) stepped in
    let fails = name_passes o h c.in_err-name.field-0.0 (rw mark at (c.in_err-name.ensures.here (step h) stepped)) in
    rw (p.1, p.2) (λ other. ap (coded kind_type) (fails other))

pub returns-then-is_at_end-clause-here : goal.returns-then-is_at_end-clause-here
returns-then-is_at_end-clause-here g c = λ h k start.
    let o = options_of c.args.options.now in
    let stepped = c.step.ensures.here h k in
    let mark = c.mark-name_start.ensures.here (step h) stepped in
    let word = rw mark at (c.in_ok-name.ensures.here (step h) stepped) in
    let name = string_chars c.in_ok-name.name.text in
    let none : (length name == 0) ≡ true = ap (λ (b : List ℕ). length (chars b) == 0) (sym c.as_str.ensures.value)
    ∙ sym c.is_at_end.ensures.value ∙ c.if-is_at_end.true in
    λ other. rw (c.from_kind.ensures, mark) (ap (coded kind_type)
    (no_name o h (budget_of (Some c.args.options.now.max_directive_bytes) c.in_ok-name.name.left) name word.2 word.1
    none))

pub returns-then-not-is_blank_or_breakz-clause-here : goal.returns-then-not-is_blank_or_breakz-clause-here
returns-then-not-is_blank_or_breakz-clause-here g c = λ h k start.
    let o = options_of c.args.options.now in
    let stepped = c.step.ensures.here h k in
    let mark = c.mark-name_start.ensures.here (step h) stepped in
    let word = rw mark at (c.in_ok-name.ensures.here (step h) stepped) in
    let name = string_chars c.in_ok-name.name.text in
    let some : (length name == 0) ≡ false = ap (λ (b : List ℕ). length (chars b) == 0) (sym c.as_str.ensures.value)
    ∙ sym c.is_at_end.ensures.value ∙ c.if-is_at_end.false in
    let place = past_spelled (step h) in
    let looked = c.look.ensures.here place word.0 in
    let seen : c.peek.result ≡ next_char place = c.peek.ensures.value place.unread (rw c.input.ensures looked.0) in
    let joined : is_blank_or_breakz (next_char place) ≡ false = ap is_blank_or_breakz (sym seen)
    ∙ sym c.is_blank_or_breakz.ensures ∙ c.if-not-is_blank_or_breakz.true in
    λ other. rw (c.from_kind-then-not-is_blank_or_breakz.ensures, mark)
    (ap (coded kind_type) (wrong_name o h
    (budget_of (Some c.args.options.now.max_directive_bytes) c.in_ok-name.name.left) name word.2 word.1 some
    joined))

pub returns-clause-here : goal.returns-clause-here
returns-clause-here g c = λ h k start.
    let o = options_of c.args.options.now in
    let stepped = c.step.ensures.here h k in
    let mark = c.mark-name_start.ensures.here (step h) stepped in
    let word = rw mark at (c.in_ok-name.ensures.here (step h) stepped) in
    let name = string_chars c.in_ok-name.name.text in
    let some : (length name == 0) ≡ false = ap (λ (b : List ℕ). length (chars b) == 0) (sym c.as_str.ensures.value)
    ∙ sym c.is_at_end.ensures.value ∙ c.if-is_at_end.false in
    let place = past_spelled (step h) in
    let looked = c.look.ensures.here place word.0 in
    let seen : c.peek.result ≡ next_char place = c.peek.ensures.value place.unread (rw c.input.ensures looked.0) in
    let parted : is_blank_or_breakz (next_char place) ≡ true = ap is_blank_or_breakz (sym seen)
    ∙ sym c.is_blank_or_breakz.ensures ∙ c.if-not-is_blank_or_breakz.false in
    rw (
      right_name o h (budget_of (Some c.args.options.now.max_directive_bytes) c.in_ok-name.name.left) name word.2
          word.1 some parted,
      ← start,
    ) (c.directive_of.ensures.here place looked)
