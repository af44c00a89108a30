-- What a parser drops, by the branches of the code.
use Rattle.std.proofs.Common.{◌≡◌, ◌⊎◌, inl, inr, true, false, not, ◌&&◌, is_some, None, Result, Ok}
use Rattle.std.proofs.Common.{Err, refl, sym, ap, subst, ◌∙◌}
use Rattle.std.proofs.lemmas.Bool.{and_parts, not-true}
use Rattle.std.specs.Prelude.{IfOk, OnOk}
use Rattle.granit_base.specs.Place.{Unread}
use Rattle.granit_error.specs.OptionsData.{OptionsData}
use Rattle.granit_error.specs.Refused.{Refused}
use Rattle.granit_parser.proofs.DropLemmas.{AsksFrom, GoByTurns, TakesRoom, TellsHere, TellsLooked, all_stays, at_fault}
use Rattle.granit_parser.proofs.DropLemmas.{document_goes, end_goes, fault_asks, going, on_ok}
use Rattle.granit_parser.specs.Parsing.{Next, Parsing}
use Rattle.granit_seen.specs.Seeing as seeing
use Rattle.granit_parser.specs.Recovering.{AsksBy, MeetsNumber, ParserIn, SkipsToAsk, seen_in}
use Rattle.granit_seen.specs.declared.seen.Seen.TheVariants as seens
use Rattle.granit_recovery.specs.Streams.{ReachedByCalls}
use Rattle.granit_restart.specs.Calls.{Calls}
use Rattle.granit_restart.specs.Turned.{Turned}
use Rattle.granit_stepper.specs.Recovering.{SkipsDocument, SkipsFault}
use Rattle.granit_stepper.specs.Refusals.{StandsAhead, StandsRefused}
use Rattle.granit_stepper.specs.Stepping.{Stepping}
use Rattle.granit_steps.specs.Steps.{StepState}

module _ {I : Type 0} (unread : I → Unread → Type 0) (p : Parsing I) (c : Calls)
    (reached : ReachedByCalls p.stepper.scanner.options c) (at : ParserIn unread p c) (over : c.over ≡ false)
    (refusal : c.refusal ≡ None) (tells : TellsHere p.stepper.scanner.options)
    (by_turns : GoByTurns p.stepper.scanner.options) where
  o : OptionsData
  o = p.stepper.scanner.options

  -- nothing is looked at any more
  unseen : (q : Parsing I) → q.peeked ≡ None
      → AsksFrom unread p.stepper.scanner.cursor (is_some p.peeked) q.stepper c
      ⊎ MeetsNumber q.stepper.renumbered q.stepper.scanner.options c.steps
      → SkipsToAsk unread p.stepper.scanner.cursor (is_some p.peeked) q c
  unseen q none (inl a) =
      inl (a.0, a.1, subst (λ (w : Next). AsksBy unread a.0 (is_some p.peeked) w q.stepper c) (sym none) a.2)
  unseen q none (inr n) = inr n

  module _ (mid : Stepping I) (is : mid ≡ p.stepper) (q : Parsing I)
      (same : q.stepper.scanner.options ≡ mid.scanner.options) (none : q.peeked ≡ None)
      (r : Result (Unit {0}) Refused) (first : IfOk r (λ u. q.stepper.first ≡ None)) where
    kept : q.stepper.scanner.options ≡ p.stepper.scanner.options
    kept = same ∙ ap (λ (s : Stepping I). s.scanner.options) is

    pub fault_dropped : p.stepper.failed ≡ true
        → ((m : StepState) (e : Refused) → StandsRefused unread mid m e → Turned mid.scanner.options m
        → OnOk r (SkipsFault unread mid.scanner.options mid.scanner.cursor e q.stepper m))
        → OnOk r (SkipsToAsk unread p.stepper.scanner.cursor (is_some p.peeked) q c)
    fault_dropped failed known =
        let f = at_fault unread p c at over refusal failed in
        let here = subst (λ (s : Stepping I). (m : StepState) (e : Refused) → StandsRefused unread s m e
        → Turned s.scanner.options m
        → OnOk r (SkipsFault unread s.scanner.options s.scanner.cursor e q.stepper m)) is known in
        on_ok r (here c.steps f.fault f.failed.stands (by_turns c reached)) first
        (SkipsToAsk unread p.stepper.scanner.cursor (is_some p.peeked) q c)
        (λ x e. unseen q none (fault_asks unread c over refusal p.stepper.scanner.options (is_some p.peeked)
        reached tells by_turns q.stepper kept p.stepper.scanner.cursor f.fault f.is x e))

    pub document_dropped : TellsLooked p.stepper.scanner.options → p.stepper.failed ≡ false
        → (p.between && not (seeing.seen_starts_document (seen_in p.peeked))) ≡ false
        → seeing.seen_ends_document (seen_in p.peeked) ≡ false
        → (seen_in p.peeked ≡ seens.StreamEnd → ⊥)
        → ((m : StepState) → StandsAhead unread mid m → Turned mid.scanner.options m
        → OnOk r (SkipsDocument unread mid.scanner.options q.stepper m))
        → OnOk r (SkipsToAsk unread p.stepper.scanner.cursor (is_some p.peeked) q c)
    document_dropped looks failed not_here other end known = by r first
        (subst (λ (s : Stepping I). (m : StepState) → StandsAhead unread s m → Turned s.scanner.options m
        → OnOk r (SkipsDocument unread s.scanner.options q.stepper m)) is known)
      where
        by : (r : Result (Unit {0}) Refused) → IfOk r (λ u. q.stepper.first ≡ None)
            → ((m : StepState) → StandsAhead unread p.stepper m → Turned p.stepper.scanner.options m
            → OnOk r (SkipsDocument unread p.stepper.scanner.options q.stepper m))
            → OnOk r (SkipsToAsk unread p.stepper.scanner.cursor (is_some p.peeked) q c)
        by (Err e) first skips = tt
        by (Ok u) first skips =
            let g = going unread p c at over refusal failed in
            unseen q none (document_goes unread p c at over refusal g.fault p.stepper.scanner.options refl reached tells
            p.stepper.scanner.cursor q.stepper kept first by_turns looks g.seen not_here other end skips)

  pub end_dropped : (q : Parsing I) → q ≡ record p { peeked = None } → p.stepper.failed ≡ false
      → (p.between && not (seeing.seen_starts_document (seen_in p.peeked))) ≡ false
      → seeing.seen_ends_document (seen_in p.peeked) ≡ true
      → SkipsToAsk unread p.stepper.scanner.cursor (is_some p.peeked) q c
  end_dropped q is failed not_here end =
      let g = going unread p c at over refusal failed in
      subst (λ (q : Parsing I). SkipsToAsk unread p.stepper.scanner.cursor (is_some p.peeked) q c) (sym is)
      (inl (end_goes unread p c at over refusal g.fault p.stepper.scanner.options refl reached tells
      p.stepper.scanner.cursor g.seen by_turns not_here end))

  pub none_dropped : TakesRoom p.stepper.scanner.options → p.stepper.failed ≡ false
      → (p.between && not (seeing.seen_starts_document (seen_in p.peeked))) ≡ true
      → (seen_in p.peeked ≡ seens.StreamEnd → ⊥)
      → SkipsToAsk unread p.stepper.scanner.cursor (is_some p.peeked) p c
  none_dropped room failed here end =
      let g = going unread p c at over refusal failed in
      let both = and_parts p.between (not (seeing.seen_starts_document (seen_in p.peeked))) here in
      inl (all_stays unread p c at over refusal g.fault p.stepper.scanner.options refl reached tells
      p.stepper.scanner.cursor g.seen both.0 by_turns room
      (not-true (seeing.seen_starts_document (seen_in p.peeked)) both.1) end)
