-- A text that is included is read whole.
use Rattle.std.proofs.Common.{◌≡◌, ℕ, true, false, List, [], ◌∷◌, Option, Some, None, Result, Err, refl, sym, subst}
use Rattle.std.proofs.Common.{◌∙◌, ap, inl, inr, true≢false}
use Rattle.std.specs.Borrow.{Bor}
use Rattle.std.specs.Prelude.{IfOk, String}
use Rattle.std.specs.Option.{unwrap_or}
use Rattle.std.specs.Str.{chars}
use Rattle.std.specs.declared.alloc.Global.{Global}
use Rattle.granit_base.specs.Written.{string_chars}
use Rattle.granit_base.specs.declared.place.Span.{Span}
use Rattle.granit_error.specs.OptionsData.{OptionsData}
use Rattle.granit_error.specs.Refused.{Refused}
use Rattle.granit_event.specs.declared.event.Event.{Event}
use Rattle.granit_event.specs.Events.{plain_events}
use Rattle.granit_input.specs.Origin.{Origin}
use Rattle.granit_layers.specs.Stacking.{is_none_left, top_offset}
use Rattle.granit_layers.specs.declared.layer.Layer.{Layer}
use Rattle.granit_load.proofs.GatherLemmas.{never_failed}
use Rattle.granit_load.specs.Answering.{GivesAllOr, LacksNumber}
use Rattle.granit_parser.specs.Parsing.{LeavesNumbers, Stepping}
use Rattle.granit_parser.specs.Streams.{bare_text_start}
use Rattle.granit_replay.specs.Replaying.{Replay, raised_by_all}
use Rattle.granit_replay.specs.declared.resolver.Included.{Included}
use Rattle.granit_replay.specs.declared.resolver.Included.TheVariants.{Owned, Borrowed}
use Rattle.granit_stack.specs.Including.{FailsAbove, GivesAllAbove, ReadsText, first_number, number_above, numbered}
use Rattle.granit_stack.specs.Including.{numbered_out, replayed, start_of_text, with_fault}
use Rattle.granit_steps.specs.Steps.{StepState, start_from, steps_start}
use Rattle.granit_steps.specs.Told.{GivesEvents}

-- ---- the number of the top parser

pub number_none : {S : Type 0} (offset : S → ℕ) (ls : List (Layer S)) → is_none_left ls ≡ true
    → None ≡ number_above offset ls
number_none offset [] none = refl
number_none offset (l ∷ ls) none = absurd cc

pub number_some : {S : Type 0} (offset : S → ℕ) (ls : List (Layer S)) → is_none_left ls ≡ false
    → Some (top_offset offset ls) ≡ number_above offset ls
number_some offset [] some = absurd cc
number_some offset (l ∷ ls) some = refl

pub number_kept : {S : Type 0} (offset : S → ℕ) (n : Option ℕ) (ls ms : List (Layer S)) → n ≡ number_above offset ls
    → ls ≡ ms → n ≡ number_above offset ms
number_kept offset n ls ms is same = is ∙ ap (λ (x : List (Layer _)). number_above offset x) same

pub unwrapped : (above : Option ℕ) → unwrap_or above 1 ≡ first_number above
unwrapped None = refl
unwrapped (Some offset) = refl

-- ---- all events of a parser

-- a source without errors is refused as the machine says, or no number is left
module _ {I : Type 0} (origin : I → Origin) (o p : OptionsData) (above : Option ℕ) (m : StepState) (e : Refused)
    (s : Stepping I) (options : p ≡ o) (none : (i : I) → (origin i).error ≡ None)
    (never : above ≡ None → s.renumbered ≡ false) where
  above_some : (a : Option ℕ) → above ≡ a → s.renumbered ≡ true → (offset : ℕ) × (above ≡ Some offset)
  above_some (Some offset) is set = (offset, is)
  above_some None is set = absurd (true≢false (sym set ∙ never is))

  pub fails_all : GivesAllOr {V = List (Event × Span)} origin plain_events p m (Err e) s
      → GivesAllAbove o above m (Err e)
  fails_all (inl gives) never =
      let ends = never_failed (origin s.scanner.cursor.input) s.scanner.cursor.place e (none s.scanner.cursor.input)
      gives never in
      with_fault ends.0 (subst (λ (q : OptionsData). GivesEvents q m ends.0 (Some e)) options ends.1)
  fails_all (inr left) never =
      let some = above_some above refl left.0 in
      numbered_out some.0 some.1 (subst (λ (q : OptionsData). LacksNumber q m e) options left.1)

-- what ends a text is the same by whatever names its options and the number above are known
pub fails_alike : (o p : OptionsData) (above below : Option ℕ) (text : Included) (e : Refused) → p ≡ o → above ≡ below
    → FailsAbove p above (numbered above (start_of_text text)) e
    → FailsAbove o below (numbered below (start_of_text text)) e
fails_alike o p above below text e options number fails =
    subst (λ (q : OptionsData). FailsAbove q below (numbered below (start_of_text text)) e) options
    (subst (λ (n : Option ℕ). FailsAbove p n (numbered n (start_of_text text)) e) number fails)

-- what anchors are counted is the same by whatever names the options and the events are known
pub leaves_alike : (o p : OptionsData) (m : StepState) (es gs : List (Event × Span)) → p ≡ o → es ≡ gs
    → LeavesNumbers p m (plain_events es) → LeavesNumbers o m (plain_events gs)
leaves_alike o p m es gs options events left =
    subst (λ (q : OptionsData). LeavesNumbers q m (plain_events gs)) options
    (subst (λ (xs : List (Event × Span)). LeavesNumbers p m (plain_events xs)) events left)

-- ---- the events of a text

module _ (o : OptionsData) (above : Option ℕ) (text : Included) (r : Result Replay Refused)
    (number : IfOk r (λ (p : Replay). p.anchor_offset ≡ raised_by_all (first_number above) p.events)) where
  -- fewer anchors are counted than the greatest number of 64 bits
  abbrev Leaves : OptionsData → StepState → Type 0
  Leaves p m = IfOk r (λ (x : Replay). LeavesNumbers p (numbered above m) (replayed x))

  -- and all events are given from a state on
  abbrev Gives : OptionsData → StepState → Type 0
  Gives p m = GivesAllAbove p above (numbered above m) r × Leaves p m

  reads : (t : Included) → Gives o (start_of_text t) → text ≡ t → ReadsText o above text r
  reads t gives is = subst (λ (x : Included). ReadsText o above x r) (sym is) (gives.0, number, gives.1)

  pub reads_lent : (p : OptionsData) (lent : Bor (List ℕ)) → text ≡ Borrowed lent → p ≡ o
      → GivesAllAbove p above (numbered above (steps_start (chars lent.now))) r
      → Leaves p (steps_start (chars lent.now)) → ReadsText o above text r
  reads_lent p lent is options gives left =
      reads (Borrowed lent)
      (subst (λ (q : OptionsData). Gives q (steps_start (chars lent.now))) options (gives, left)) is

  pub reads_own : (p : OptionsData) (own : String Global) (bytes : List ℕ) → text ≡ Owned own → p ≡ o
      → chars bytes ≡ string_chars own
      → GivesAllAbove p above (numbered above (start_from (bare_text_start (chars bytes)))) r
      → Leaves p (start_from (bare_text_start (chars bytes))) → ReadsText o above text r
  reads_own p own bytes is options same gives left =
      reads (Owned own)
      (subst (λ (x : List ℕ). Gives o (start_from (bare_text_start x))) same
      (subst (λ (q : OptionsData). Gives q (start_from (bare_text_start (chars bytes)))) options (gives, left))) is
