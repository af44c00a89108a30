use Rattle.std.proofs.Common.{sym, ap, subst, ◌∙◌}
use Rattle.std.proofs.lemmas.Str.{chars-nil}
use Rattle.std.specs.Str.{chars}
use Rattle.granit_base.specs.Written.{string_chars}
use Rattle.granit_cursor.proofs.SourceLemmas.{found_lends, not_found_lends, spelled_on}
use Rattle.granit_lexemes.specs.Here.{past}
use Rattle.granit_properties.specs.WordCode.{word_test}
use Rattle.granit_properties.proofs.WordLemmas.{word_length, word_behind, lent_word, own_word}
use Rattle.granit_properties.proofs.word.word_text.Goals as goal

pub returns-in-Ok-clause-here : goal.returns-in-Ok-clause-here
returns-in-Ok-clause-here g c = λ h k.
    let test = word_test c.args.word in
    let taken = c.skip_word.ensures.here h k in
    let there = found_lends c.in-Some.start h.unread (sym c.in-Some.is ∙ c.lending_offset.ensures h k) in
    let before = g.met.T.Input.agrees c.args.cursor.now.input h.unread k.0 in
    let on = spelled_on (g.T.Input.origin c.args.cursor.now.input)
    (g.T.Input.origin c.skip_word.new.cursor.input) (g.T.Input.left c.args.cursor.now.input) h.unread
    c.skip_word.ensures.moves.1 before there.0 in
    let behind = subst (g.T.Input.unread c.skip_word.new.cursor.input) (word_behind c.args.word h) taken.0 in
    let lent = c.in-Ok.ensures.here h.unread (word_length test h) on.0 on.1 there.1 behind in
    (taken, c.borrowed.ensures ∙ lent_word c.args.word h _ there.0 lent)

pub returns-in-Err-clause-here : goal.returns-in-Err-clause-here
returns-in-Err-clause-here g c = λ h k. absurd (
    let test = word_test c.args.word in
    let taken = c.skip_word.ensures.here h k in
    let there = found_lends c.in-Some.start h.unread (sym c.in-Some.is ∙ c.lending_offset.ensures h k) in
    let before = g.met.T.Input.agrees c.args.cursor.now.input h.unread k.0 in
    let on = spelled_on (g.T.Input.origin c.args.cursor.now.input)
    (g.T.Input.origin c.skip_word.new.cursor.input) (g.T.Input.left c.args.cursor.now.input) h.unread
    c.skip_word.ensures.moves.1 before there.0 in
    let behind = subst (g.T.Input.unread c.skip_word.new.cursor.input) (word_behind c.args.word h) taken.0 in
    c.in-Err.ensures.here h.unread (word_length test h) on.0 on.1 there.1 behind)

pub returns-in_ok-take_word-in-None-clause-here : goal.returns-in_ok-take_word-in-None-clause-here
returns-in_ok-take_word-in-None-clause-here g c = λ h k.
    let taken = c.in_ok-take_word-in-None.ensures.here h k in
    let none = not_found_lends (g.T.Input.left c.args.cursor.now.input) (g.T.Input.origin c.args.cursor.now.input)
    h.unread (g.met.T.Input.agrees c.args.cursor.now.input h.unread k.0)
    (sym c.in-None.is ∙ c.lending_offset.ensures h k) in (
      taken.0,
      c.owned.ensures ∙ own_word h (past (word_test c.args.word) h) (string_chars c.new-text.result) _ none
          (ap chars c.new-text.ensures.bytes ∙ chars-nil) taken.1,
    )

pub returns-in_err-take_word-in-None-clause-lent : goal.returns-in_err-take_word-in-None-clause-lent
returns-in_err-take_word-in-None-clause-lent g c = λ h k lends. absurd (
    let none = not_found_lends (g.T.Input.left c.args.cursor.now.input) (g.T.Input.origin c.args.cursor.now.input)
    h.unread (g.met.T.Input.agrees c.args.cursor.now.input h.unread k.0)
    (sym c.in-None.is ∙ c.lending_offset.ensures h k) in cc)
