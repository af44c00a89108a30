-- Recovery of a parser, by the branches of the code.
use Rattle.std.proofs.Common.{◌≡◌, ◌⊎◌, inl, inr, Bool, true, false, not, ◌&&◌, is_some, Option, Some, None, Result, Ok}
use Rattle.std.proofs.Common.{Err, refl, sym, ap, subst, ◌∙◌}
use Rattle.std.specs.Prelude.{IfErr, IfOk, IfSome}
use Rattle.granit_base.specs.Place.{Unread}
use Rattle.granit_error.specs.FaultKind.{NoMemory}
use Rattle.granit_error.specs.OptionsData.{OptionsData}
use Rattle.granit_error.specs.Refused.{Refused, UnlessMemory}
use Rattle.granit_input.specs.Origin.{Origin}
use Rattle.granit_lexemes.specs.Outcome.{Fault}
use Rattle.granit_parser.proofs.DropLemmas.{seen_going}
use Rattle.granit_parser.proofs.InLemmas.{goes_in}
use Rattle.granit_parser.proofs.RecoverLemmas.{any_stops}
use Rattle.granit_parser.specs.Parsing.{Parsing}
use Rattle.granit_seen.specs.Seeing as seeing
use Rattle.granit_parser.specs.Recovering.{AnswersBy, AnswersIn, AsksBy, Ends, Follows, GaveUp, MeetsNumber, ParserIn}
use Rattle.granit_parser.specs.Recovering.{Proceeds, SeenBy, SkipsToAsk, SeenOrFails, StopsIn}
use Rattle.granit_seen.specs.declared.seen.Seen.{Seen}
use Rattle.granit_seen.specs.declared.seen.Seen.TheVariants as seens
use Rattle.granit_receivers.specs.Kept.{GivesAgain, IsKept}
use Rattle.granit_restart.specs.Calls.{Calls}
use Rattle.granit_restart.specs.Recovery.{recover, recover_with, recovery_answer, resumed}
use Rattle.granit_restart.specs.Skipping.{Stops}
use Rattle.granit_sourced.specs.Sources.{TellsSource}

pub is_end : (s : Seen) → seeing.ends_stream s ≡ true → s ≡ seens.StreamEnd
is_end seens.StreamEnd e = refl
is_end seens.Nothing e = absurd (cc)
is_end seens.Comment e = absurd (cc)
is_end seens.DocumentStart e = absurd (cc)
is_end seens.DocumentEnd e = absurd (cc)
is_end seens.Another e = absurd (cc)

pub not_end : (s : Seen) → seeing.ends_stream s ≡ false → s ≡ seens.StreamEnd → ⊥
not_end s e is = let f = sym (ap seeing.ends_stream is) ∙ e in cc

pub failed_part : (a b : Bool) → (a && not b) ≡ true → (a ≡ true) × (b ≡ false)
failed_part true true e = absurd (cc)
failed_part true false e = (refl, refl)
failed_part false b e = absurd (cc)

pub recovers_part : {A : Type 0} (a : Bool) (r : Option A) → (a && not (is_some r)) ≡ false → a ≡ true → r ≡ None → ⊥
recovers_part a r e failed none =
    let f = sym (ap (λ a. a && not (is_some r)) failed ∙ ap (λ r. not (is_some r)) none) ∙ e in cc

pub gives_again : (X : Type 0) (given : Option Refused) (r : Refused) → IfSome given (λ e. IsKept e r)
    → IfSome given (λ e. GivesAgain {X = X} e (Err r))
gives_again X None r kept = tt
gives_again X (Some e) r kept = (tt, kept)

module _ {I : Type 0} (unread : I → Unread → Type 0) where
  -- ---- a refusal of recovery is answered again

  refusal_again : (o : OptionsData) (stops : Stops) (looked : Bool) (c : Calls) (f : Fault) → c.refusal ≡ Some f
      → recover o stops looked c ≡ (Err f, c)
  unfolding recover
  refusal_again o stops looked c f e = ap (λ r. recover_with o stops looked r c) e

  again_is : (f kept e : Refused) → IsKept f kept → IsKept kept e → (e.kind ≡ NoMemory → ⊥) → f ≡ e
  again_is f kept e first (inr memory) other = absurd (other memory)
  again_is f kept e (inl same) (inl is) other = sym same ∙ sym is
  again_is f kept e (inr memory) (inl is) other =
      absurd (other (ap (λ (x : Refused). x.kind) is ∙ memory))

  pub again_ends : (p q : Parsing I) (c : Calls) (e : Refused) → ParserIn unread p c → c.over ≡ false
      → (p.stepper.failed && not (is_some p.stepper.refusal)) ≡ true → IfSome p.given (λ g. IsKept g e)
      → (e.kind ≡ NoMemory → ⊥) → Ends unread (Err e) p q c
  again_ends p q c e at over closed given other = by c.refusal refl (at.stays over)
    where
      parts : (p.stepper.failed ≡ true) × (is_some p.stepper.refusal ≡ false)
      parts = failed_part p.stepper.failed (is_some p.stepper.refusal) closed

      open_by : (f : Option Fault) → SeenOrFails unread f p.peeked p.stepper c → Ends unread (Err e) p q c
      open_by None seen =
          absurd (let no : true ≡ false = sym parts.0 ∙ seen_going unread p.peeked p.stepper c seen in cc)
      open_by (Some f) stays =
          absurd (let no : true ≡ false = sym (ap is_some stays.1.stands.is_kept) ∙ parts.1 in cc)

      by : (r : Option Fault) → c.refusal ≡ r → AnswersBy unread r p c → Ends unread (Err e) p q c
      by None is stays = open_by c.fault stays
      by (Some f) is gone =
          let kept = subst (λ (g : Option Refused). IfSome g (λ g. IsKept g e)) gone.given given in
          let same = again_is f gone.kept e gone.is_kept kept other in
          inl (inl (
            any_stops c,
            λ over none. absurd (let clash : true ≡ false = ap is_some (sym is ∙ none) in cc),
            c,
            refusal_again q.stepper.scanner.options (any_stops c) (is_some p.peeked) c f is
                ∙ ap (λ e. (Err e, c)) same,
            (over, is ∙ ap Some same),
          ))

  -- a parser that may go on wasn't given up
  pub not_given_up : (p : Parsing I) (c : Calls) → ParserIn unread p c → c.over ≡ false
      → (p.stepper.failed && not (is_some p.stepper.refusal)) ≡ false → c.refusal ≡ None
  not_given_up p c at over going = by c.refusal refl (at.stays over)
    where
      by : (r : Option Fault) → c.refusal ≡ r → AnswersBy unread r p c → c.refusal ≡ None
      by None is stays = is
      by (Some f) is gone = absurd (recovers_part p.stepper.failed p.stepper.refusal going gone.failed gone.refusal)

  -- behind the end of the stream nothing changes
  pub over_ends : (p : Parsing I) (c : Calls) → ParserIn unread p c → c.over ≡ true
      → recover p.stepper.scanner.options (any_stops c) (is_some p.peeked) c ≡ (Ok false, c)
      → Ends unread (Ok false) p p c
  over_ends p c at over law = inl (inl (
    any_stops c,
    λ going none. absurd (let clash : true ≡ false = sym over ∙ going in cc),
    c,
    law,
    at,
  ))

  -- ---- behind what was dropped

  module _ (p mid : Parsing I) (c : Calls)
      (skips : SkipsToAsk unread p.stepper.scanner.cursor (is_some p.peeked) mid c) where
    abbrev StopsHere : OptionsData → Stops → Type 0
    StopsHere o stops = StopsIn unread p.stepper.scanner.cursor o stops c

    -- a refusal of the look
    pub refused_ends : (q : Parsing I) (e : Refused) → q.stepper.scanner.options ≡ mid.stepper.scanner.options
        → q.stepper.renumbered ≡ mid.stepper.renumbered
        → ((stops : Stops) (looked : Bool) (c : Calls) → AsksBy unread stops looked mid.peeked mid.stepper c
        → UnlessMemory {X = Bool} (Err e) (Follows unread stops looked (Err e) q c))
        → (e.kind ≡ NoMemory → ⊥) → Ends unread (Err e) p q c
    refused_ends q e options renumbered known other = by skips
      where
        met : MeetsNumber mid.stepper.renumbered mid.stepper.scanner.options c.steps
            → MeetsNumber q.stepper.renumbered q.stepper.scanner.options c.steps
        met n = subst (λ o. MeetsNumber q.stepper.renumbered o c.steps) (sym options)
            (subst (λ b. MeetsNumber b mid.stepper.scanner.options c.steps) (sym renumbered) n)

        answer : (stops : Stops) → StopsHere q.stepper.scanner.options stops
            → Follows unread stops (is_some p.peeked) (Err e) q c → Ends unread (Err e) p q c
        answer stops fit (inl a) =
            inl (inl (stops, fit, (recovery_answer (Err e) (resumed a.steps)).1, a.recovers, (refl, refl)))
        answer stops fit (inr n) = inr n

        by : SkipsToAsk unread p.stepper.scanner.cursor (is_some p.peeked) mid c → Ends unread (Err e) p q c
        by (inl asks) =
            answer asks.0 (subst (λ o. StopsHere o asks.0) (sym options) asks.1)
            (known asks.0 (is_some p.peeked) c asks.2 other)
        by (inr n) = inr (met n)

    answered_in : (follows : Bool) (q : Parsing I) (m : _) → q.over ≡ false → q.between ≡ not follows
        → SeenBy unread q.peeked q.stepper (recovery_answer (Ok follows) (resumed m)).1
        → ParserIn unread q (recovery_answer (Ok follows) (resumed m)).1
    answered_in true q m over between seen = goes_in unread q (resumed m) refl refl over between seen
    answered_in false q m over between seen =
        goes_in unread q (record (resumed m) { between = true }) refl refl over between seen

    -- the answer, unless the source failed
    pub answer_ends : (origin : I → Origin) (was q : Parsing I) (follows : Bool) (r : Result Bool Refused)
        → was.stepper.scanner.options ≡ mid.stepper.scanner.options
        → was.stepper.renumbered ≡ mid.stepper.renumbered
        → q.stepper.scanner.options ≡ was.stepper.scanner.options
        → q.stepper.renumbered ≡ was.stepper.renumbered → q.over ≡ false
        → ((stops : Stops) (looked : Bool) (c : Calls) → AsksBy unread stops looked mid.peeked mid.stepper c
        → Follows unread stops looked (Ok follows) was c)
        → ((d : Calls) → SeenBy unread was.peeked was.stepper d
        → IfOk r (λ x. SeenBy unread q.peeked q.stepper d))
        → IfOk r (λ x. (x ≡ follows) × (q.between ≡ not follows))
        → IfErr r (λ e. TellsSource {X = Bool} origin (Some (Err e)) q.stepper.scanner.cursor)
        → UnlessMemory r (Ends unread r p q c ⊎ TellsSource origin (Some r) q.stepper.scanner.cursor)
    answer_ends origin was q follows (Err e) o1 b1 o2 b2 over known kept answer source = λ other. inr source
    answer_ends origin was q follows (Ok x) o1 b1 o2 b2 over known kept answer source = inl (by skips)
      where
        met : MeetsNumber was.stepper.renumbered was.stepper.scanner.options c.steps
            → MeetsNumber q.stepper.renumbered q.stepper.scanner.options c.steps
        met n = subst (λ o. MeetsNumber q.stepper.renumbered o c.steps) (sym o2)
            (subst (λ b. MeetsNumber b was.stepper.scanner.options c.steps) (sym b2) n)

        met_before : MeetsNumber mid.stepper.renumbered mid.stepper.scanner.options c.steps
            → MeetsNumber was.stepper.renumbered was.stepper.scanner.options c.steps
        met_before n = subst (λ o. MeetsNumber was.stepper.renumbered o c.steps) (sym o1)
            (subst (λ b. MeetsNumber b mid.stepper.scanner.options c.steps) (sym b1) n)

        ends_with : (x : Bool) → x ≡ follows → (stops : Stops) → StopsHere was.stepper.scanner.options stops
            → AnswersIn unread stops (is_some p.peeked) (Ok follows) was c
            → ((d : Calls) → SeenBy unread was.peeked was.stepper d → SeenBy unread q.peeked q.stepper d)
            → q.between ≡ not follows → Ends unread (Ok x) p q c
        ends_with x is stops fit a on between =
            let d = (recovery_answer (Ok follows) (resumed a.steps)).1 in
            subst (λ (x : Bool). Ends unread (Ok x) p q c) (sym is) (inl (inl (
              stops,
              subst (λ o. StopsHere o stops) (sym o2) fit,
              d,
              subst (λ o. recover o stops (is_some p.peeked) c ≡ (Ok follows, d)) (sym o2)
                  (a.recovers ∙ answer_is follows a.steps),
              answered_in follows q a.steps over between (on d a.seen),
            )))
          where
            answer_is : (follows : Bool) (m : _)
                → recovery_answer (Ok follows) (resumed m) ≡ (Ok follows, (recovery_answer (Ok follows) (resumed m)).1)
            answer_is true m = refl
            answer_is false m = refl

        by : SkipsToAsk unread p.stepper.scanner.cursor (is_some p.peeked) mid c → Ends unread (Ok x) p q c
        by (inl asks) = elim (known asks.0 (is_some p.peeked) c asks.2) [
          | inl a ↦ ends_with x answer.0 asks.0 (subst (λ o. StopsHere o asks.0) (sym o1) asks.1) a kept answer.1
          | inr n ↦ inr (met n)
        ]
        by (inr n) = inr (met (met_before n))

  -- ---- where recovery is given up

  pub given_up : (p mid q : Parsing I) (c : Calls) (e : Refused) → GaveUp q e → mid.over ≡ false
      → q.over ≡ mid.over → q.stepper.scanner ≡ mid.stepper.scanner → q.stepper.renumbered ≡ mid.stepper.renumbered
      → Ends unread (Err e) p mid c → Proceeds unread (Err e) p q c
  given_up p mid q c e gone over same scanner renumbered (inl (inl x)) =
      inl (inl (
        x.0,
        subst (λ s. StopsIn unread p.stepper.scanner.cursor s.options x.0 c) (sym scanner) x.1,
        x.2,
        subst (λ s. recover s.options x.0 (is_some p.peeked) c ≡ (Err e, x.2)) (sym scanner) x.3,
        record {
          over = same ∙ over ∙ sym x.4.0;
          between = λ is. absurd (let f = sym x.4.1 ∙ is.refusal in cc);
          ended = λ b. absurd (let f = sym x.4.0 ∙ b in cc);
          stays = λ b. subst (λ r. AnswersBy unread r q x.2) (sym x.4.1) gone;
        },
      ))
  given_up p mid q c e gone over same scanner renumbered (inl (inr sees)) = absurd (let f = sees.1 in cc)
  given_up p mid q c e gone over same scanner renumbered (inr n) =
      inr (subst (λ s. MeetsNumber q.stepper.renumbered s.options c.steps) (sym scanner)
      (subst (λ b. MeetsNumber b mid.stepper.scanner.options c.steps) (sym renumbered) n))
