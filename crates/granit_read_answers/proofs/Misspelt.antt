-- What has a cause inside a tag, a quoted scalar or a directive is refused with exactly that, and so is each cause.
pub use Rattle.granit_reading.proofs.WholeLaw.{all_read_whole, lexed_whole, one_whole}
pub use Rattle.granit_reading.proofs.ReadingLaw.{lexed}
use Rattle.std.proofs.Common.{◌≡◌, Bool, true, false, ◌&&◌, List, sym, ap, ap₂, ◌∙◌, subst, inl, inr}
use Rattle.std.proofs.lemmas.Bool.{cond-false}
use Rattle.granit_base.specs.Place.{Mark}
use Rattle.granit_error.specs.FaultKind.{FaultKind}
use Rattle.granit_error.specs.OptionsData.{OptionsData}
use Rattle.granit_lexemes.specs.Here.{Here}
use Rattle.granit_lexemes.specs.LayoutData.{LayoutData, is_left}
use Rattle.granit_lexemes.specs.Lexeme.{Item}
use Rattle.granit_lexemes.specs.Outcome.{◌>>=◌}
use Rattle.granit_lexemes.specs.QuotedExtent.{RefusesQuoted}
use Rattle.granit_lexemes.specs.declared.layout.OpenColumn.{OpenColumn}
use Rattle.granit_machine.specs.Columns.{closed_at, ends_at}
use Rattle.granit_machine.specs.Laid.{Laid, is_adjacent, is_in_flow, innermost_column}
use Rattle.granit_machine.specs.LexemeSort.{PlacedSort, LexemeSort, TextEnd, StartMark, EndMark, Unprintable}
use Rattle.granit_machine.specs.LexemeSort.{DirectiveSign, Placed}
use Rattle.granit_machine.specs.PossibleKeys.{layout_of}
use Rattle.granit_machine.specs.Reader.{noded, lexeme_of, is_strict_outside, lexeme_in_column, lexeme_by, lexeme}
use Rattle.granit_machine.specs.Reader.{read_whole, read}
use Rattle.granit_machine.specs.ReaderState.{ReaderState}
use Rattle.granit_language.specs.Before.{freshened, with_run, in_front}
use Rattle.granit_language.specs.Reached.{Reads, ReadMisspelt, ReadRefused}
use Rattle.granit_language.specs.Refusing.{Misspells, in_tag, in_quoted, MisspellsSort, of_sign, in_directive}
use Rattle.granit_reading.proofs.ReadAnswers.{directive_cause_refused}
use Rattle.granit_names.proofs.TagCauses.{tag_cause_refused}
use Rattle.granit_reading.proofs.Deciding.{rejects, outside_block_decided, layout_same}
use Rattle.granit_reading.proofs.GapAnswers.{gap_answers}
use Rattle.granit_reading.proofs.LexemeAnswers.{then_is}
use Rattle.granit_reading.proofs.ReadAnswers.{fresh_answers, read_answers}
use Rattle.granit_reading.proofs.ReadingLaw.{run_flow, run_columns}
use Rattle.granit_read_answers.proofs.Refused.{Fails, fails_then, fault_kind, is_read, stopped_refused}
use Rattle.granit_reading.proofs.SortAnswers.{sort_answers}
use Rattle.granit_reading.proofs.GapAnswers.{quoted_cause_refused}

module _ (o : OptionsData) (ends : Bool) (h : Here) (l : Laid) where
  misspelt_sign : {kind : FaultKind} {m : Mark} (sort : PlacedSort) → Misspells o h (with_run sort h l) sort kind m
      → Fails kind m (lexeme_of o sort ends h l)
  unfolding lexeme_of
  misspelt_sign {kind} {m} sort (in_tag p) = fails_then _ (tag_cause_refused (is_in_flow (noded true h l)) h kind m p)
  misspelt_sign {kind} {m} sort (in_quoted {single} layout told p) =
      fails_then _ (fails_then _ (quoted_cause_refused single (layout_of o h.place.column (noded false h l)) h kind m
      (subst (λ (d : LayoutData). RefusesQuoted single d h kind m)
      (sym (layout_same o h.place.column (noded false h l) told)) p)))

misspelt_sort : (o : OptionsData) (sort : LexemeSort) (s : ReaderState) {kind : FaultKind} {m : Mark}
    → MisspellsSort o s.here (in_front sort s.here s.laid) sort kind m → Fails kind m (lexeme_by o sort s.here s.laid)
unfolding lexeme_by lexeme_in_column is_strict_outside
misspelt_sort o TextEnd s wrong = elim wrong [ ]
misspelt_sort o StartMark s wrong = elim wrong [ ]
misspelt_sort o EndMark s wrong = elim wrong [ ]
misspelt_sort o Unprintable s wrong = elim wrong [ ]
misspelt_sort o DirectiveSign s {kind} {m} (in_directive c) =
    fails_then _ (directive_cause_refused o s.here kind m c)
misspelt_sort o (Placed sort) s (of_sign n p) =
    let l = closed_at s.here.place.column s.laid in
    let same : ((o.strict_indentation && is_in_flow (with_run sort s.here l))
    && is_left (innermost_column (with_run sort s.here l).columns) s.here.place.column)
    ≡ is_strict_outside o s.here.place.column l =
    ap₂ (λ (f : Bool) (cs : List OpenColumn). (o.strict_indentation && f)
    && is_left (innermost_column cs) s.here.place.column) (run_flow sort s.here l) (run_columns sort s.here l) in
    cond-false (is_strict_outside o s.here.place.column l) _ _
    (sym same ∙ rejects (outside_block_decided o s.here (with_run sort s.here l)) n)
    ∙ misspelt_sign o (ends_at s.here.place.column s.laid) s.here l sort p

misspelt_refused : (o : OptionsData) (s : ReaderState) {kind : FaultKind} {m : Mark} → ReadMisspelt o s kind m
    → Fails kind m (read o s)
unfolding read
misspelt_refused o s p =
    let f = freshened o p.at in
    then_is _ (gap_answers p.comes.gap)
    ∙ ap (λ r. (r >>= λ l. lexeme o p.at.here l) >>= λ y. read_whole o y.0 y.1) (fresh_answers o p.at p.comes.keys)
    ∙ ap (λ sort. lexeme_by o sort f.here f.laid >>= λ y. read_whole o y.0 y.1)
    (sort_answers (is_in_flow f.laid) (is_adjacent f.laid.last) f.here p.comes.begins)
    ∙ fails_then _ (misspelt_sort o p.sort f p.wrong)

-- ---- each cause

-- a cause that stands behind what was read is what the read refuses
pub cause_refused : (o : OptionsData) (s : ReaderState) {kind : FaultKind} {m : Mark} → ReadRefused o s kind m
    → Fails kind m (read o s)
cause_refused o s (inl p) = stopped_refused o s p
cause_refused o s (inr p) = misspelt_refused o s p

pub one_refusal : (o : OptionsData) (s : ReaderState) {k j : FaultKind} {m n : Mark} → ReadRefused o s k m
    → ReadRefused o s j n → (k ≡ j) × (m ≡ n)
one_refusal o s p q = fault_kind (read o s) (cause_refused o s p) (cause_refused o s q)

pub nothing_read : (o : OptionsData) (s t : ReaderState) {k : FaultKind} {m : Mark} {items : List Item}
    → ReadRefused o s k m → Reads o s items t → ⊥
nothing_read o s t p q = let e = sym (cause_refused o s p) ∙ read_answers o q in absurd cc

-- where something is read no cause stands
pub well_read : (o : OptionsData) (s : ReaderState) {k : FaultKind} {m : Mark} → ReadRefused o s k m
    → is_read (read o s) ≡ true → ⊥
well_read o s p e = absurd (let f = sym (ap is_read (cause_refused o s p)) ∙ e in cc)
