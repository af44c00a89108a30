-- Where a read takes no memory, by its parts.
use Rattle.std.proofs.Common.{◌≡◌, Bool, true, false, ◌&&◌, not, nat_le, if◌then◌else◌, List, [], ◌∷◌, length}
use Rattle.std.proofs.Common.{Option, Some, None, Result, Ok, Err, ◌⊎◌, inl, inr, refl, sym, ap, subst, ◌∙◌}
use Rattle.std.proofs.lemmas.Bool.{not-true}
use Rattle.granit_base.specs.Place.{Mark, Place}
use Rattle.granit_error.specs.FaultKind.{SimpleKeyExpected}
use Rattle.granit_error.specs.OptionsData.{OptionsData}
use Rattle.granit_error.specs.Refused.{Refused}
use Rattle.granit_lexemes.specs.Basics.{fails_at}
use Rattle.granit_lexemes.specs.Comment.{CommentRead}
use Rattle.granit_lexemes.specs.Here.{Here, mark_of}
use Rattle.granit_lexemes.specs.Outcome.{Fault, ◌>>=◌}
use Rattle.granit_lexemes.specs.declared.layout.OpenBracket.{OpenBracket}
use Rattle.granit_lexemes.specs.declared.layout.PossibleKey.{PossibleKey}
use Rattle.granit_layout.specs.Opening.{opens_column}
use Rattle.granit_machine.specs.Gaps.{gap}
use Rattle.granit_machine.specs.Laid.{Laid, is_in_flow}
use Rattle.granit_machine.specs.Leaving.{Leaves}
use Rattle.granit_machine.specs.LexemeSort.{PlacedSort, OpenSign, CloseSign, CommaSign, DashSign, QuestionSign}
use Rattle.granit_machine.specs.LexemeSort.{ColonSign, AliasSign, AnchorSign, TagSign, BlockSign, QuoteSign, StrayMark}
use Rattle.granit_machine.specs.LexemeSort.{NoSign, PlainSign}
use Rattle.granit_machine.specs.PossibleKeys.{is_allowed, keyed_brackets, node_key, stale_key, refuse_required}
use Rattle.granit_machine.specs.PossibleKeys.{top_key, without_stale}
use Rattle.granit_machine.specs.ReaderState.{ReaderState}
use Rattle.granit_content.specs.Reads.{Nothing, NeverWants, seen}
use Rattle.granit_reader.specs.Reads.{reader_at}
use Rattle.granit_reader.specs.SortViews.{noded_by}
use Rattle.granit_reader.specs.WithoutMemory.{entry_opens, colon_opens_column, placed_takes_none, lexeme_takes_none}
use Rattle.granit_reader.specs.WithoutMemory.{fresh_takes_none, behind_takes_none, gap_takes_none, read_takes_none}
use Rattle.granit_signs.specs.IndicatorReads.{begins_entry, colon_begins_entry, pair_column}

neither : (a b : Bool) → not (a && b) ≡ true → (a ≡ false) ⊎ (b ≡ false)
neither true b is = inr (not-true b is)
neither false b is = inl refl

-- by what a cursor that stands there tells
module _ (o : OptionsData) (h : Here) (place : Place) (begins_line : Bool) (tab : Option Mark) (l : Laid)
    (first : h.place ≡ place) (second : h.begins_line ≡ begins_line) (third : h.tab ≡ tab) where
  pub no_entry : not (entry_opens o h l) ≡ true → (begins_entry (is_allowed begins_line tab l) l ≡ false)
      ⊎ (opens_column o place.column l.columns ≡ false)
  no_entry none =
      rw (first, second, third) at (neither (begins_entry (is_allowed h.begins_line h.tab l) l)
      (opens_column o h.place.column l.columns) none)

  pub no_pair : not (colon_opens_column o h l) ≡ true
      → (colon_begins_entry (top_key l) (is_allowed begins_line tab l) l ≡ false)
      ⊎ (opens_column o (pair_column (top_key l) place.column) l.columns ≡ false)
  no_pair none =
      rw (first, second, third) at (neither (colon_begins_entry (top_key l) (is_allowed h.begins_line h.tab l) l)
      (opens_column o (pair_column (top_key l) h.place.column) l.columns) none)

-- where a node begins, as many brackets are open as before
same_depth : (key : Option PossibleKey) (bs : List OpenBracket) → length (keyed_brackets key bs) ≡ length bs
same_depth key [] = refl
same_depth key (b ∷ bs) = refl

-- a lexeme that takes none takes none where its node has begun; but for a bracket it begins none
pub noded_takes_none : (o : OptionsData) (sort : PlacedSort) (h : Here) (l : Laid)
    → placed_takes_none o sort h l ≡ true → placed_takes_none o sort h (noded_by sort h l) ≡ true
noded_takes_none o (OpenSign bracket) h l none =
    ap (nat_le o.flow_nesting_limit)
    (same_depth (node_key false (is_allowed h.begins_line h.tab l) (mark_of h) l) l.brackets) ∙ none
noded_takes_none o (CloseSign bracket) h l none = none
noded_takes_none o CommaSign h l none = none
noded_takes_none o DashSign h l none = none
noded_takes_none o QuestionSign h l none = none
noded_takes_none o ColonSign h l none = none
noded_takes_none o AliasSign h l none = none
noded_takes_none o AnchorSign h l none = none
noded_takes_none o TagSign h l none = absurd cc
noded_takes_none o (BlockSign literal) h l none = absurd cc
noded_takes_none o (QuoteSign single) h l none = absurd cc
noded_takes_none o StrayMark h l none = none
noded_takes_none o NoSign h l none = none
noded_takes_none o PlainSign h l none = absurd cc

-- ---- keys that reading has left behind

refusal_other : (needed : Bool) (m : Mark) (fresh : Laid) → NeverWants {X = Laid}
    (if needed then fails_at SimpleKeyExpected m else Ok fresh)
refusal_other true m fresh = λ is. absurd cc
refusal_other false m fresh = tt

required_fresh : (needed : Bool) (m : Mark) (fresh : Laid)
    → ◌≡◌ {A = Result Laid Fault} (if needed then fails_at SimpleKeyExpected m else Ok fresh)
    ((if needed then fails_at {Y = Unit {0}} SimpleKeyExpected m else Ok tt) >>= λ u. Ok fresh)
required_fresh true m fresh = refl
required_fresh false m fresh = refl

required_other : (key : Option PossibleKey) (fresh : Laid)
    → NeverWants {X = Laid} (refuse_required key >>= λ u. Ok fresh)
required_other None fresh = tt
required_other (Some k) fresh =
    subst (λ (r : Result Laid Fault). NeverWants r) (required_fresh k.is_required k.start fresh)
    (refusal_other k.is_required k.start fresh)

pub stale_refused : (o : OptionsData) (m : Mark) (l after : Laid) (r : Result (Unit {0}) Refused)
    → Leaves r after (without_stale o m l) → NeverWants r
stale_refused o m l after (Ok u) left = tt
stale_refused o m l after (Err e) left =
    subst (λ (t : Result Laid Fault). NeverWants t) left (required_other (stale_key o (is_in_flow l) m l.key) _)

-- ---- a read, by its parts

-- the lexeme behind a gap with no comment
pub fresh_lexeme : (o : OptionsData) (asked : Bool) (t : Option CommentRead) (h : Here) (l after : Laid) (m : Mark)
    → Nothing ≡ seen asked t → m ≡ mark_of h → without_stale o m l ≡ Ok after
    → behind_takes_none o t (reader_at h l) ≡ true → lexeme_takes_none o h after ≡ true
fresh_lexeme o true (Some c) h l after m is marked fresh none = absurd cc
fresh_lexeme o false (Some c) h l after m is marked fresh none = absurd cc
fresh_lexeme o asked None h l after m is marked fresh none =
    subst (λ (r : Result Laid Fault). fresh_takes_none o h r ≡ true)
    (ap (λ (n : Mark). without_stale o n l) (sym marked) ∙ fresh) none

pub behind_gap_none : (o : OptionsData) (s one : ReaderState) (t : Option CommentRead) (l : Laid)
    → gap o s.here s.laid ≡ Ok (t, one) → one.laid ≡ l → read_takes_none o s ≡ true
    → behind_takes_none o t (reader_at one.here l) ≡ true
behind_gap_none o s one t l is left none =
    subst (λ (m : Laid). behind_takes_none o t (reader_at one.here m) ≡ true) left
    (subst (λ (r : Result (Option CommentRead × ReaderState) Fault). gap_takes_none o r ≡ true) is none)
