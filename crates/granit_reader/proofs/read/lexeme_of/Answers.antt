use Rattle.std.proofs.Common.{◌≡◌, true, false, inl, inr}
use Rattle.std.proofs.lemmas.Bool.{leb-true}
use Rattle.granit_error.specs.OptionsView.{options_of}
use Rattle.granit_reader.proofs.MemoryLemmas.{no_entry, no_pair}
use Rattle.granit_reader.proofs.ReadLemmas.{found_alone}
use Rattle.granit_refused.specs.Answered.{answered}
use Rattle.granit_reader.proofs.read.lexeme_of.Goals as goal

pub returns-in-OpenSign-clause-here : goal.returns-in-OpenSign-clause-here
returns-in-OpenSign-clause-here g c = λ h k.
    let read = c.opener.ensures.here h k in
    rw c.in-OpenSign.is (found_alone _ c.opener.new.found _ (answered c.opener.new.fault c.opener.result) _ _
    c.requires.filled
    c.requires.no_note read)

pub returns-in-CloseSign-clause-here : goal.returns-in-CloseSign-clause-here
returns-in-CloseSign-clause-here g c = λ h k.
    let read = c.closer.ensures.here h k in
    rw c.in-CloseSign.is (found_alone _ c.closer.new.found _ (answered c.closer.new.fault c.closer.result) _ _
    c.requires.filled
    c.requires.no_note read)

pub returns-in-CommaSign-clause-here : goal.returns-in-CommaSign-clause-here
returns-in-CommaSign-clause-here g c = λ h k.
    let read = c.comma.ensures.here h k in
    rw c.in-CommaSign.is (found_alone _ c.comma.new.found _ (answered c.comma.new.fault c.comma.result) _ _
    c.requires.filled
    c.requires.no_note read)

pub returns-in-DashSign-clause-here : goal.returns-in-DashSign-clause-here
returns-in-DashSign-clause-here g c = λ h k.
    let read = c.dash.ensures.here h k in
    rw c.in-DashSign.is (found_alone _ c.dash.new.found _ (answered c.dash.new.fault c.dash.result) _ _
    c.requires.filled
    c.requires.no_note read)

pub returns-in-QuestionSign-clause-here : goal.returns-in-QuestionSign-clause-here
returns-in-QuestionSign-clause-here g c = λ h k.
    let read = c.question.ensures.here h k in
    rw c.in-QuestionSign.is (found_alone _ c.question.new.found _ (answered c.question.new.fault c.question.result) _ _
    c.requires.filled
    c.requires.no_note read)

pub returns-in-ColonSign-clause-here : goal.returns-in-ColonSign-clause-here
returns-in-ColonSign-clause-here g c = λ h k.
    let read = c.colon.ensures.here h k in
    rw c.in-ColonSign.is (found_alone _ c.colon.new.found _ (answered c.colon.new.fault c.colon.result) _ _
    c.requires.filled
    c.requires.no_note read)

pub returns-in-AliasSign-clause-here : goal.returns-in-AliasSign-clause-here
returns-in-AliasSign-clause-here g c = λ h k.
    let read = c.alias_lexeme.ensures.here (options_of c.args.options.now).emit_comments h k in
    rw c.in-AliasSign.is (found_alone _ c.alias_lexeme.new.found _
    (answered c.alias_lexeme.new.fault c.alias_lexeme.result) _ _ c.requires.filled
    c.requires.no_note read)

pub returns-in-AnchorSign-clause-here : goal.returns-in-AnchorSign-clause-here
returns-in-AnchorSign-clause-here g c = λ h k.
    let read = c.anchor_lexeme.ensures.here (options_of c.args.options.now).emit_comments h k in
    rw c.in-AnchorSign.is (found_alone _ c.anchor_lexeme.new.found _
    (answered c.anchor_lexeme.new.fault c.anchor_lexeme.result) _ _ c.requires.filled
    c.requires.no_note read)

pub returns-in-TagSign-clause-here : goal.returns-in-TagSign-clause-here
returns-in-TagSign-clause-here g c = λ h k.
    let read = c.tag_lexeme.ensures.here (options_of c.args.options.now).emit_comments h k in
    rw c.in-TagSign.is (found_alone _ c.tag_lexeme.new.found _ (answered c.tag_lexeme.new.fault c.tag_lexeme.result) _ _
    c.requires.filled
    c.requires.no_note read)

pub returns-in-BlockSign-clause-here : goal.returns-in-BlockSign-clause-here
returns-in-BlockSign-clause-here g c = λ h k.
    let read = c.block_lexeme.ensures.here h k in
    rw c.in-BlockSign.is (found_alone _ c.block_lexeme.new.found _
    (answered c.block_lexeme.new.fault c.block_lexeme.result) _ _ c.requires.filled
    c.requires.no_note read)

pub returns-in-PlainSign-clause-here : goal.returns-in-PlainSign-clause-here
returns-in-PlainSign-clause-here g c = λ h k.
    let read = c.plain_lexeme.ensures.here h k in
    rw c.in-PlainSign.is (found_alone _ c.plain_lexeme.new.found _
    (answered c.plain_lexeme.new.fault c.plain_lexeme.result) _ _ c.requires.filled
    c.requires.no_note read)

-- ---- memory

pub returns-in-OpenSign-clause-memory : goal.returns-in-OpenSign-clause-memory
returns-in-OpenSign-clause-memory g c = λ unasked h k none.
    c.opener.ensures.memory (leb-true _ _ (rw c.in-OpenSign.is at none))

pub returns-in-AliasSign-clause-memory : goal.returns-in-AliasSign-clause-memory
returns-in-AliasSign-clause-memory g c = λ unasked h k none.
    c.alias_lexeme.ensures.lent h k (rw c.in-AliasSign.is at none)

pub returns-in-AnchorSign-clause-memory : goal.returns-in-AnchorSign-clause-memory
returns-in-AnchorSign-clause-memory g c = λ unasked h k none.
    c.anchor_lexeme.ensures.lent h k (rw c.in-AnchorSign.is at none)

pub returns-in-TagSign-clause-memory : goal.returns-in-TagSign-clause-memory
returns-in-TagSign-clause-memory g c = λ unasked h k none.
    let some : false ≡ true = rw c.in-TagSign.is at none in absurd cc

pub returns-in-BlockSign-clause-memory : goal.returns-in-BlockSign-clause-memory
returns-in-BlockSign-clause-memory g c = λ unasked h k none.
    let some : false ≡ true = rw c.in-BlockSign.is at none in absurd cc

pub returns-in-QuoteSign-clause-memory : goal.returns-in-QuoteSign-clause-memory
returns-in-QuoteSign-clause-memory g c = λ unasked h k none.
    let some : false ≡ true = rw c.in-QuoteSign.is at none in absurd cc

pub returns-in-PlainSign-clause-memory : goal.returns-in-PlainSign-clause-memory
returns-in-PlainSign-clause-memory g c = λ unasked h k none.
    let some : false ≡ true = rw c.in-PlainSign.is at none in absurd cc

pub returns-in-CloseSign-clause-memory : goal.returns-in-CloseSign-clause-memory
returns-in-CloseSign-clause-memory g c = λ unasked h k none.
    c.closer.ensures.memory unasked

pub returns-in-CommaSign-clause-memory : goal.returns-in-CommaSign-clause-memory
returns-in-CommaSign-clause-memory g c = λ unasked h k none.
    c.comma.ensures.memory unasked

pub returns-in-DashSign-clause-memory : goal.returns-in-DashSign-clause-memory
returns-in-DashSign-clause-memory g c = λ unasked h k none.
    let r = c.args.at.now in
    let opens = no_entry (options_of c.args.options.now) h r.place r.begins_line r.tab c.args.layouts.now k.1 k.2 k.3
    (rw c.in-DashSign.is at none) in
    elim opens [
      | inl begins ↦ c.dash.ensures.memory begins
      | inr column ↦ c.dash.ensures.column unasked column
    ]

pub returns-in-QuestionSign-clause-memory : goal.returns-in-QuestionSign-clause-memory
returns-in-QuestionSign-clause-memory g c = λ unasked h k none.
    let r = c.args.at.now in
    let opens = no_entry (options_of c.args.options.now) h r.place r.begins_line r.tab c.args.layouts.now k.1 k.2 k.3
    (rw c.in-QuestionSign.is at none) in
    elim opens [
      | inl begins ↦ c.question.ensures.memory begins
      | inr column ↦ c.question.ensures.column unasked column
    ]

pub returns-in-ColonSign-clause-memory : goal.returns-in-ColonSign-clause-memory
returns-in-ColonSign-clause-memory g c = λ unasked h k none.
    let r = c.args.at.now in
    let opens = no_pair (options_of c.args.options.now) h r.place r.begins_line r.tab c.args.layouts.now k.1 k.2 k.3
    (rw c.in-ColonSign.is at none) in
    elim opens [
      | inl begins ↦ c.colon.ensures.memory unasked begins
      | inr column ↦ c.colon.ensures.column unasked column
    ]
