use Rattle.std.proofs.Common.{◌≡◌, ◌==◌, ◌||◌, ℕ, Bool, true, false, nat_le, length, sym, ap₂, ◌∙◌, Some, arith}
use Rattle.std.proofs.lemmas.Bool.Decides.{nat_tests}
use Rattle.std.proofs.lemmas.Result.{err_from_is_err_and}
use Rattle.granit_base.specs.Classes.{is_blank, is_blank_or_breakz}
use Rattle.granit_base.specs.Written.{string_chars}
use Rattle.granit_directives.proofs.ReservedLemmas.{no_parameter, blanks_fail, one_too_many, word_fails, word_taken}
use Rattle.granit_directives.proofs.ReservedLemmas.{still_owned, parameters_go, parameters_fail, parameters_end}
use Rattle.granit_directives.proofs.reserved.take_parameter.Goals as goal
use Rattle.granit_directives.specs.ReservedCode.{parameters_at}
use Rattle.granit_directives.specs.WordCode.{past_spelled}
use Rattle.granit_error.specs.OptionsView.{options_of}
use Rattle.granit_lexemes.specs.Here.{next_char, past}
use Rattle.granit_properties.specs.UriCode.{budget_of}

-- the test of the code is that of the definition
same_ends : (n m c d : ℕ) (v w : Bool) → n ≡ m → c ≡ d → v ≡ ((n == 0 || c == 0x23) || is_blank_or_breakz c) → v ≡ w
    → ((m == 0 || d == 0x23) || is_blank_or_breakz d) ≡ w
same_ends n m c d v w p q e f = sym (ap₂ (λ (a b : ℕ). (a == 0 || b == 0x23) || is_blank_or_breakz b) p q) ∙ sym e ∙ f

pub returns-then-ends_parameters-clause-here : goal.returns-then-ends_parameters-clause-here
returns-then-ends_parameters-clause-here g c = λ h k.
    let o = options_of c.args.options.now in
    let now = past is_blank h in
    let blanks = c.count_blanks-blanks.ensures.here h k in
    let looked = c.look.ensures.here now blanks.1 in
    let seen : c.peek-c.result ≡ next_char now = c.peek-c.ensures.value now.unread (rw c.input.ensures looked.0) in
    let ends = same_ends c.count_blanks-blanks.result _ c.peek-c.result (next_char now) c.ends_parameters.result true
    blanks.0 seen c.ends_parameters.ensures c.if-ends_parameters.true in (
      now,
      looked,
      parameters_end o c.args.start c.args.parts.now h now
          (no_parameter o c.args.start (parameters_at o c.args.parts.now h) ends),
    )

pub returns-in_err-spend-clause-here : goal.returns-in_err-spend-clause-here
returns-in_err-spend-clause-here g c = λ h k.
    let p = err_from_is_err_and c.from_residual.result c.from_residual.ensures.1 in
    let o = options_of c.args.options.now in
    let now = past is_blank h in
    let blanks = c.count_blanks-blanks.ensures.here h k in
    let looked = c.look.ensures.here now blanks.1 in
    let seen : c.peek-c.result ≡ next_char now = c.peek-c.ensures.value now.unread (rw c.input.ensures looked.0) in
    let more = same_ends c.count_blanks-blanks.result _ c.peek-c.result (next_char now) c.ends_parameters.result false
    blanks.0 seen c.ends_parameters.ensures c.if-ends_parameters.false in
    rw (p.1, p.2) (parameters_fail o c.args.start c.args.parts.now h c.in_err-spend.field-0.0
    (blanks_fail o c.args.start (parameters_at o c.args.parts.now h) c.in_err-spend.field-0.0 more
    (rw blanks.0 at c.in_err-spend.ensures.spent)))

pub returns-then-most-len-clause-here : goal.returns-then-most-len-clause-here
returns-then-most-len-clause-here g c = λ h k.
    let o = options_of c.args.options.now in
    let s = parameters_at o c.args.parts.now h in
    let now = past is_blank h in
    let blanks = c.count_blanks-blanks.ensures.here h k in
    let looked = c.look.ensures.here now blanks.1 in
    let seen : c.peek-c.result ≡ next_char now = c.peek-c.ensures.value now.unread (rw c.input.ensures looked.0) in
    let more = same_ends c.count_blanks-blanks.result _ c.peek-c.result (next_char now) c.ends_parameters.result false
    blanks.0 seen c.ends_parameters.ensures c.if-ends_parameters.false in
    let counts = rw c.len.ensures at c.if-most-len.true in
    let many : nat_le c.args.options.now.max_reserved_directive_params (length c.args.parts.now.list) ≡ true =
    grind (arith, nat_tests, counts) in
    parameters_fail o c.args.start c.args.parts.now h c.from_kind.result
    (λ other. rw c.from_kind.ensures (one_too_many o c.args.start s
    (budget_of (Some c.args.options.now.max_directive_bytes) c.spend.new.left) more
    (rw blanks.0 at c.in_ok-spend.ensures.spent) many))

pub returns-in_err-word-clause-here : goal.returns-in_err-word-clause-here
returns-in_err-word-clause-here g c = λ h k.
    let p = err_from_is_err_and c.from_residual-in_err-word.result c.from_residual-in_err-word.ensures.1 in
    let o = options_of c.args.options.now in
    let s = parameters_at o c.args.parts.now h in
    let now = past is_blank h in
    let blanks = c.count_blanks-blanks.ensures.here h k in
    let looked = c.look.ensures.here now blanks.1 in
    let seen : c.peek-c.result ≡ next_char now = c.peek-c.ensures.value now.unread (rw c.input.ensures looked.0) in
    let more = same_ends c.count_blanks-blanks.result _ c.peek-c.result (next_char now) c.ends_parameters.result false
    blanks.0 seen c.ends_parameters.ensures c.if-ends_parameters.false in
    let counts = rw c.len.ensures at c.if-most-len.false in
    let few : nat_le c.args.options.now.max_reserved_directive_params (length c.args.parts.now.list) ≡ false =
    grind (arith, nat_tests, counts) in
    rw (p.1, p.2) (parameters_fail o c.args.start c.args.parts.now h c.in_err-word.field-0.0
    (word_fails o c.args.start s c.in_err-word.field-0.0
    (budget_of (Some c.args.options.now.max_directive_bytes) c.spend.new.left) more
    (rw blanks.0 at c.in_ok-spend.ensures.spent) few (c.in_err-word.ensures.here now looked)))

pub returns-clause-here : goal.returns-clause-here
returns-clause-here g c = λ h k.
    let o = options_of c.args.options.now in
    let s = parameters_at o c.args.parts.now h in
    let now = past is_blank h in
    let blanks = c.count_blanks-blanks.ensures.here h k in
    let looked = c.look.ensures.here now blanks.1 in
    let seen : c.peek-c.result ≡ next_char now = c.peek-c.ensures.value now.unread (rw c.input.ensures looked.0) in
    let more = same_ends c.count_blanks-blanks.result _ c.peek-c.result (next_char now) c.ends_parameters.result false
    blanks.0 seen c.ends_parameters.ensures c.if-ends_parameters.false in
    let counts = rw c.len.ensures at c.if-most-len.false in
    let few : nat_le c.args.options.now.max_reserved_directive_params (length c.args.parts.now.list) ≡ false =
    grind (arith, nat_tests, counts) in
    let budget = budget_of (Some c.args.options.now.max_directive_bytes) in
    let word = c.in_ok-word.ensures.here now looked in
    let turn = word_taken o c.args.start s (budget c.spend.new.left) (budget c.in_ok-word.word.left) more
    (rw blanks.0 at c.in_ok-spend.ensures.spent) few word.2 in (
      past_spelled now,
      word.0,
      parameters_go o c.args.start c.args.parts.now _ h (past_spelled now) (string_chars c.in_ok-word.word.text)
          (rw c.new.ensures at c.in_ok-push.ensures.ok) (rw word.1 turn),
    )

pub returns-clause-owned : goal.returns-clause-owned
returns-clause-owned g c = λ all. still_owned c.args.parts.now.list _ (string_chars c.in_ok-word.word.text)
    (rw c.new.ensures at c.in_ok-push.ensures.ok) all
