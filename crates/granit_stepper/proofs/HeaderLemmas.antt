-- Whether a refusal stands among the directives of a document, as the code finds it.
use Rattle.std.proofs.Common.{◌≡◌, Bool, true, false, List, [], ◌∷◌, Option, Some, refl, sym, ap}
use Rattle.std.proofs.Common.{subst, ◌∙◌}
use Rattle.std.proofs.Common.{◌⊎◌, inl, inr}
use Rattle.std.specs.Prelude.{if◌then◌else◌}
use Rattle.granit_base.specs.Place.{Unread}
use Rattle.granit_error.specs.Refused.{Refused}
use Rattle.granit_frames.specs.StateViews.{stage_view}
use Rattle.granit_lexemes.specs.Lexeme.{Item, OfComment, OfLexeme}
use Rattle.granit_machine.specs.Frames.{DocumentStage}
use Rattle.granit_machine.specs.Gaps.{GapRead, gap}
use Rattle.granit_machine.specs.Lexing.{FlaggedItem}
use Rattle.granit_machine.specs.Reader.{LexState}
use Rattle.granit_restart.specs.Header as header
use Rattle.granit_restart.specs.Header.{ends_in_directive, front_is_directive, gap_in_directive, is_directives}
use Rattle.granit_restart.specs.Header.{is_fresh, is_start_expected, last_is_directive, parser_takes, takes_front}
use Rattle.granit_restart.specs.Skipping as skipping
use Rattle.granit_scanner.specs.Scans.{Known, fails_in_header, may_front_go}
use Rattle.granit_scanner.proofs.KnownLemmas.{known_header}
use Rattle.granit_refusals.specs.BeforeTurn as spec
use Rattle.granit_refusals.specs.BeforeTurn.{directive_in, is_true, or_before}
use Rattle.granit_stepper.specs.Refusals.{FailedToRead, StandsRefused, TookFront}
use Rattle.granit_stepper.specs.Stepping.{Stepping}
use Rattle.granit_refusals.specs.declared.refusal.Refusal.{Refusal}
use Rattle.granit_steps.specs.Steps.{StepState}

-- ---- an item

true_directive : (d : Option Bool) (i : Item) → d ≡ directive_in i → is_true d ≡ last_is_directive false i
true_directive d (OfLexeme l) is = ap is_true is
true_directive d (OfComment c) is = ap is_true is

or_directive : (d : Option Bool) (i : Item) (before : Bool) → d ≡ directive_in i
    → or_before d before ≡ last_is_directive before i
or_directive d (OfLexeme l) before is = ap (λ (x : Option Bool). or_before x before) is
or_directive d (OfComment c) before is = ap (λ (x : Option Bool). or_before x before) is

goes_alike : (m : StepState) (q : List FlaggedItem) → parser_takes m q ≡ may_front_go m.reading q
goes_alike m [] = refl
goes_alike m (i ∷ is) = refl

-- ---- by what was refused

module _ {I : Type 0} (unread : I → Unread → Type 0) (s : Stepping I) (m : StepState) (r : Refusal) (e : Refused) where
  took_takes : (t : TookFront unread s m r e) → takes_front m ≡ true
  took_takes t = ap (parser_takes m) t.queue ∙ t.goes

  failed_takes : (f : FailedToRead unread s m r e) → takes_front m ≡ false
  failed_takes f = goes_alike m m.queue ∙ f.waits

  pub outside_alike : TookFront unread s m r e ⊎ FailedToRead unread s m r e → stage_view r.stage ≡ m.parser.stage
      → spec.refusal_outside r ≡ header.fails_outside m e
  outside_alike (inl t) stage =
      let directive : is_true r.directive ≡ front_is_directive m.queue =
      true_directive r.directive t.item.item t.directive ∙ sym (ap front_is_directive t.queue) in
      rw (t.takes, took_takes t, t.expects, stage, directive) refl
  outside_alike (inr f) stage = rw (f.takes, failed_takes f, stage) refl

  -- the item and what waits behind it
  pub took_reads : (t : TookFront unread s m r e) → stage_view r.stage ≡ m.parser.stage
      → ends_in_directive (spec.refusal_in_directive r) t.behind ≡ header.reads_directives s.scanner.options m
  took_reads t stage =
      let before = is_directives m.parser.stage in
      let here : spec.refusal_in_directive r ≡ last_is_directive before t.item.item =
      ap (λ (d : DocumentStage). or_before r.directive (is_directives d)) stage
      ∙ or_directive r.directive t.item.item before t.directive in
      ap (λ (b : Bool). ends_in_directive b t.behind) here
      ∙ sym (ap (ends_in_directive before) t.queue)
      ∙ sym (ap (λ (b : Bool). if b then ends_in_directive before m.queue
      else gap_in_directive s.scanner.options (ends_in_directive before m.queue)
      (gap s.scanner.options m.reading.reader.here m.reading.reader.laid)) (took_takes t))

  -- the read that failed, and what waits before it
  pub failed_reads : (f : FailedToRead unread s m r e) → stage_view r.stage ≡ m.parser.stage
      → fails_in_header (is_directives (stage_view r.stage)) s.scanner ≡ header.reads_directives s.scanner.options m
  failed_reads f stage =
      let before = is_directives m.parser.stage in
      let given : GapRead = gap s.scanner.options m.reading.reader.here m.reading.reader.laid in
      ap (λ (d : DocumentStage). fails_in_header (is_directives d) s.scanner) stage
      ∙ known_header unread s.scanner m.reading m.queue before e f.known
      ∙ sym (ap (λ (b : Bool). if b then ends_in_directive before m.queue
      else gap_in_directive s.scanner.options (ends_in_directive before m.queue) given) (failed_takes f))

-- ---- where a turn was refused

same_refusal : (x y : Refusal) → Some x ≡ Some y → x ≡ y
same_refusal x y e = cc

module _ {I : Type 0} (unread : I → Unread → Type 0) (s : Stepping I) (m : StepState) (e : Refused)
    (refused : StandsRefused unread s m e) (r : Refusal) (is : s.refusal ≡ Some r) where
  same : refused.refusal ≡ r
  same = same_refusal refused.refusal r (sym refused.is_kept ∙ is)

  how : TookFront unread s m r e ⊎ FailedToRead unread s m r e
  how = subst (λ (x : Refusal). TookFront unread s m x e ⊎ FailedToRead unread s m x e) same refused.how

  stage : stage_view r.stage ≡ m.parser.stage
  stage = subst (λ (x : Refusal). stage_view x.stage ≡ m.parser.stage) same refused.before.0

  pub refused_outside : spec.refusal_outside r ≡ header.fails_outside m e
  refused_outside = outside_alike unread s m r e how stage

  pub took_directives : r.takes_front ≡ true → (found : Bool)
      → ((l : LexState) (q : List FlaggedItem) → Known unread s.scanner l q
      → found ≡ ends_in_directive (spec.refusal_in_directive r) q)
      → found ≡ header.reads_directives s.scanner.options m
  took_directives takes found known = elim how [
    | inl t ↦ known m.reading t.behind t.known ∙ took_reads unread s m r e t stage
    | inr f ↦ absurd (let clash : true ≡ false = sym takes ∙ f.takes in cc)
  ]

  pub failed_directives : r.takes_front ≡ false → (found : Bool)
      → found ≡ fails_in_header (is_directives (stage_view r.stage)) s.scanner
      → found ≡ header.reads_directives s.scanner.options m
  failed_directives takes found known = elim how [
    | inl t ↦ absurd (let clash : true ≡ false = sym t.takes ∙ takes in cc)
    | inr f ↦ known ∙ failed_reads unread s m r e f stage
  ]

  -- whether the open document came to its end before
  ends_took : TookFront unread s m r e → spec.refusal_ends_before r ≡ skipping.ends_before m e
  ends_took t = rw (t.takes, took_takes unread s m r e t, t.expects, stage) refl

  ends_failed : FailedToRead unread s m r e → spec.refusal_ends_before r ≡ skipping.ends_before m e
  ends_failed f = rw (f.takes, failed_takes unread s m r e f) refl

  pub refused_before : spec.refusal_ends_before r ≡ skipping.ends_before m e
  refused_before = elim how [ inl t ↦ ends_took t | inr f ↦ ends_failed f ]
