use Rattle.std.proofs.Common.{Bool, false, refl, sym, ap, subst, ◌∙◌, ◌≡◌, true}
use Rattle.granit_error.specs.OptionsView.{options_of}
use Rattle.granit_machine.specs.LexemeSort.{LexemeSort, sort_at}
use Rattle.granit_reader.specs.SortViews.{SortFits, lexeme_sort_view}
use Rattle.granit_reader.proofs.MeetLemmas.{adjacent_or_not}
use Rattle.granit_reader.specs.WithoutMemory.{sort_takes_none}
use Rattle.granit_reader.proofs.SortLemmas.{sort_fits}
use Rattle.granit_reader.proofs.read.lexeme.Goals as goal
use Rattle.granit_restart.specs.Header.{directive_sort}

pub lexeme_by-requires : goal.lexeme_by-requires
lexeme_by-requires g c = λ _. (
  (refl, tt),
  (
    λ h k.
        subst (λ (b : Bool). SortFits b (lexeme_sort_view c.sort_at-sort.result) h) c.is_in_flow.ensures
        (subst (λ (s : LexemeSort). SortFits c.is_in_flow.result s h) (sym (c.sort_at-sort.ensures h k))
        (sort_fits c.is_in_flow.result c.is_adjacent.result h (c.requires.clear h k))),
    (c.requires.room, (refl, c.requires.no_note)),
  ),
)

pub returns-clause-met : goal.returns-clause-met
returns-clause-met g c = λ h k before.
    c.met_by.ensures before ∙ ap (directive_sort before) (c.sort_at-sort.ensures h k)
    ∙ adjacent_or_not before c.is_in_flow.result c.is_adjacent.result h
    ∙ ap (λ (b : Bool). directive_sort before (sort_at b false h)) c.is_in_flow.ensures

pub returns-clause-memory : goal.returns-clause-memory
returns-clause-memory g c = λ unasked h k none.
    c.lexeme_by.ensures.memory unasked h k (subst (λ (s : LexemeSort).
    sort_takes_none (options_of c.args.options.now) s h c.args.layouts.now ≡ true)
    (sym (c.sort_at-sort.ensures h k)) (rw (c.is_in_flow.ensures, c.is_adjacent.ensures, c.last.ensures) none))
