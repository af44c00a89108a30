use Rattle.std.proofs.Common.{◌<◌, true, List, length, get_or, refl, ap, ◌∙◌, arith, length-set}
use Rattle.granit_base.specs.Written.{Written}
use Rattle.granit_error.specs.OptionsView.{options_of}
use Rattle.granit_words.proofs.WordLemmas.{reaches_more, reaches_start, wrong_again, wrong_word}
use Rattle.granit_words.proofs.words.read_words.Goals as goal

pub words-init : goal.words-init
words-init c =
    let first = c.index-list-0.result in
    let some : 0 < length c.args.words.now = grind (arith, ap length c.as_slice-list.ensures) in
    record {
      reaches = reaches_start c.args.words.now first 11 (options_of c.default-options.result) some
          (c.index-list-0.is ∙ ap (λ (xs : List Written). get_or xs 0 first) c.as_slice-list.ensures)
          (c.is_events.ensures.yes c.if-not-is_events.false) c.default-options.ensures;
      same = c.as_slice-list.ensures;
      flags = refl;
    }

pub returns-in_default-clause-wrong : goal.returns-in_default-clause-wrong
returns-in_default-clause-wrong c =
    let word = c.index-list-i.result in
    let within : c.words.i < length c.args.words.now =
    omega (arith, c.words-test.true, ap length c.as_slice-list.ensures) in
    wrong_word c.args.words.now c.words.i word c.words.is_set (options_of c.words.options) c.words.invariant.reaches
    within
    (c.index-list-i.is ∙ ap (λ (xs : List Written). get_or xs c.words.i word) c.as_slice-list.ensures)
    c.setting_of.result c.setting_of.ensures.none c.in_default.not-Some

pub returns-then-is_set-option-clause-wrong : goal.returns-then-is_set-option-clause-wrong
returns-then-is_set-option-clause-wrong c =
    let word = c.index-list-i.result in
    let within : c.words.i < length c.args.words.now =
    omega (arith, c.words-test.true, ap length c.as_slice-list.ensures) in
    wrong_again c.args.words.now c.words.i word c.words.is_set c.option-option.result (options_of c.words.options)
    c.in-Some.setting c.words.invariant.reaches within
    (c.index-list-i.is ∙ ap (λ (xs : List Written). get_or xs c.words.i word) c.as_slice-list.ensures)
    c.in-Some.ensures.some c.option-option.ensures.is c.if-is_set-option.true

pub words-preserved : goal.words-preserved
words-preserved c =
    let word = c.index-list-i.result in
    let within : c.words.i < length c.args.words.now =
    omega (arith, c.words-test.true, ap length c.as_slice-list.ensures) in
    record {
      reaches = reaches_more c.args.words.now c.words.i word c.words.is_set c.option-option.result
          (options_of c.words.options) (options_of c.set_in.new.options) c.in-Some.setting c.words.invariant.reaches
          within
          (c.index-list-i.is ∙ ap (λ (xs : List Written). get_or xs c.words.i word) c.as_slice-list.ensures)
          c.in-Some.ensures.some c.option-option.ensures.is
          (omega (arith, c.option-option.ensures.bound, c.words.invariant.flags)) c.if-is_set-option.false
          c.set_in.ensures;
      same = c.as_slice-list.ensures;
      flags = length-set c.words.is_set c.option-option.result true ∙ c.words.invariant.flags;
    }
