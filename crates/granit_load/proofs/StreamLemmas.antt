-- What the calls give of an iterator's characters is the run of their text, without byte offsets.
use Rattle.std.proofs.Common.{◌≡◌, ℕ, List, [], Option, Some, None, Bool, true, false, Result, Ok, Err, sym, subst}
use Rattle.std.proofs.Common.{◌⊎◌, ◌∙◌, inl, inr, is_some, refl}
use Rattle.granit_base.specs.Place.{Unread}
use Rattle.granit_buffered.specs.Fallible.{characters_of, first_error}
use Rattle.granit_cursor.specs.Reading.{Reading, CameOn, GoesOnward, Stands}
use Rattle.granit_error.specs.FaultKind.{FaultKind, NoMemory}
use Rattle.granit_error.specs.OptionsData.{OptionsData}
use Rattle.granit_error.specs.Refused.{Refused}
use Rattle.granit_error.specs.declared.kind.ErrorKind.{ErrorKind}
use Rattle.granit_input.specs.Origin.{Origin}
use Rattle.granit_offsets.proofs.BareRun.{run_bare}
use Rattle.granit_lexemes.specs.Here.{Here, start_of}
use Rattle.granit_lexemes.specs.Onward.{Onward}
use Rattle.granit_lexemes.specs.Outcome.{Fault, Fails, GivesValue}
use Rattle.granit_lexemes.specs.PlainEvent.{PlainEvent}
use Rattle.granit_parser.specs.Parsing.{Stepping}
use Rattle.granit_steps.specs.Steps.{StepState, start_from}
use Rattle.granit_steps.specs.Told.{GivesEvents, answer}
use Rattle.granit_load.specs.Answering.{AnswersItems, GivesAll, GivesAllOr, GivesWhole, IsPlacedFrom, IsPlacedOn}
use Rattle.granit_load.specs.Answering.{IsPlacedOr, bare_run}
use Rattle.granit_load.proofs.GatherLemmas.{never_failed, never_numbered}
use Rattle.granit_parser.specs.Gathering.{GoesGiving, IsSourceError}
use Rattle.granit_parser.specs.Streams.{bare_text_start}
use Rattle.granit_parser.proofs.StartLaws.{calls_give}

-- with options that are the same
told : (o p : OptionsData) (x : List ℕ) (es : List PlainEvent) (f : Option Fault) → p ≡ o
    → GivesEvents p (start_from (bare_text_start x)) es f → bare_run o x ≡ answer (es, f) f
told o p x es f same given =
    sym (run_bare (record { offsets = false; lending = false }) o (start_of x))
    ∙ calls_give o (bare_text_start x) es f
    (subst (λ (q : OptionsData). GivesEvents q (start_from (bare_text_start x)) es f) same given)

pub bare_answer_of : (o p : OptionsData) (x : List ℕ) (es : List PlainEvent) → p ≡ o
    → GivesEvents p (start_from (bare_text_start x)) es None → bare_run o x ≡ Ok es
bare_answer_of o p x es same given = told o p x es None same given

pub bare_fault_of : (o p : OptionsData) (x : List ℕ) (e : Refused) → p ≡ o
    → ((e.kind ≡ NoMemory → ⊥) → (es : List PlainEvent) × GivesEvents p (start_from (bare_text_start x)) es (Some e))
    → Fails e (bare_run o x)
bare_fault_of o p x e same gives = λ other.
    let given = gives other in told o p x given.0 (Some e) same given.1

-- where no source fails
pub bare_given_of : {I V : Type 0} (origin : I → Origin) (view : V → List PlainEvent) (o p : OptionsData) (x : List ℕ)
    → p ≡ o → (r : Result V Refused) (s : Stepping I) → s.renumbered ≡ false
    → GivesAllOr origin view p (start_from (bare_text_start x)) r s
    → ((i : I) → (origin i).error ≡ None) → GivesValue view r (bare_run o x)
bare_given_of origin view o p x same (Ok v) s never g none = bare_answer_of o p x (view v) same g
bare_given_of origin view o p x same (Err e) s never g none =
    bare_fault_of o p x e same (never_failed (origin s.scanner.cursor.input) s.scanner.cursor.place e
    (none s.scanner.cursor.input) (never_numbered s.renumbered never g))

-- ---- a source that may fail

module _ {I V : Type 0} (unread : I → Unread → Type 0) (origin : I → Origin) (view : V → List PlainEvent)
    (old new : Reading I) where
  -- where a cursor isn't lost, the place up to which it read is onward from wherever it came on
  placed_on : (e : Refused) → GoesOnward unread old new → new.lost ≡ false → e.mark.place ≡ new.place
      → IsPlacedOn unread old e
  unfolding CameOn
  placed_on e goes kept place start before = from (goes start before)
    where
      from : ((at : Here) × Onward start at × Stands unread new at) ⊎ (new.lost ≡ true) → IsPlacedFrom start e
      from (inl k) = (k.0, k.1, place ∙ sym k.2.1)
      from (inr lost) = absurd (let is : false ≡ true = sym kept ∙ lost in cc)

  module _ (o : OptionsData) (m : StepState) (f : Option FaultKind) (e r : Refused) where
    -- the error with which the source ends
    pub ended_whole : (lost : Bool) → IsPlacedOr lost e r → lost ≡ new.lost → GoesOnward unread old new
        → f ≡ Some e.kind → (e.mark.place ≡ new.place) × (e.sources ≡ [])
        → is_some e.mark.byte_offset ≡ (origin old.input).tells_offset
        → GivesWhole unread origin view o m f (Err r) old new
    ended_whole true none is goes ends place told = inl (λ other. absurd (other none))
    ended_whole false same is goes ends place told =
        subst (λ (x : Refused). GivesWhole unread origin view o m f (Err x) old new) (sym same)
        (inr (inl ends, place.1, placed_on e goes (sym is) place.0, told))

    -- a refusal that came before it was known how the source ends
    pub refused_whole : (lost : Bool) → IsPlacedOr lost e r → lost ≡ new.lost → GoesOnward unread old new
        → GivesAll view o m (Err e) ⊎ IsSourceError (origin new.input) new.place e
        → GoesGiving (origin old.input) (origin new.input)
        → GivesWhole unread origin view o m f (Err r) old new
    refused_whole true none is goes given moved = inl (λ other. absurd (other none))
    refused_whole false same is goes given moved =
        subst (λ (x : Refused). GivesWhole unread origin view o m f (Err x) old new) (sym same) (elim given [
          | inl gives ↦ inl gives
          | inr failed ↦ inr (
            inr (failed.kind, moved),
            failed.unnamed,
            placed_on e goes (sym is) failed.place,
            failed.offset ∙ moved.tells_offset,
          )
        ])

none_told : (offset : Option ℕ) → is_some offset ≡ false → offset ≡ None
none_told None silent = refl
none_told (Some at) silent = absurd cc

-- the error that a source meets on the way from one state to another is the first of these items
abbrev pub MeetsFirst : Origin → Origin → List (Result ℕ ErrorKind) → Type 0
MeetsFirst old new items = (k : FaultKind) → GoesGiving old new → new.error ≡ Some k → first_error items ≡ Some k

-- an error that a source gave is the first of the items
pub items_of : {I V : Type 0} (unread : I → Unread → Type 0) (origin : I → Origin) (view : V → List PlainEvent)
    (o p : OptionsData) (items : List (Result ℕ ErrorKind)) → p ≡ o → (r : Result V Refused) (old new : Reading I)
    → GivesWhole unread origin view p (start_from (bare_text_start (characters_of items))) (first_error items) r old new
    → CameOn unread (bare_text_start (characters_of items)) old
    → MeetsFirst (origin old.input) (origin new.input) items
    → (origin old.input).tells_offset ≡ false → AnswersItems view o items r
items_of unread origin view o p items same (Ok v) old new g came source silent =
    (g.0, bare_answer_of o p (characters_of items) (view v) same g.1)
items_of unread origin view o p items same (Err e) old new g came source silent = elim g [
  | inl gives ↦ inr (bare_fault_of o p (characters_of items) e same gives)
  | inr given ↦ inl (
    elim given.0 [
      | inl ended ↦ ended
      | inr failed ↦ source e.kind failed.1 failed.0
    ],
    given.1,
    given.2 (bare_text_start (characters_of items)) came,
    none_told e.mark.byte_offset (given.3 ∙ silent),
  )
]
