-- A turn that is made where events wait: these stay where they are.
use Rattle.std.proofs.Common.{◌≡◌, ◌⊎◌, inl, inr, ℕ, ◌<◌, ◌-◌, ◌^◌, Bool, true, false, List, [], ◌++◌, Option, Some}
use Rattle.std.proofs.Common.{None, Result, Ok, Err, refl, sym, ap, subst, ◌∙◌}
use Rattle.std.proofs.lemmas.List.{append-nil}
use Rattle.granit_base.specs.Place.{Mark, Unread}
use Rattle.granit_cursor.specs.Reading.{GivesTo}
use Rattle.granit_error.specs.OptionsData.{OptionsData}
use Rattle.granit_error.specs.Refused.{Refused}
use Rattle.granit_lexemes.specs.Lexeme.{Item}
use Rattle.granit_lexemes.specs.Outcome.{Fault, Fails, ◌>>=◌}
use Rattle.granit_lexemes.specs.PlainEvent.{PlainEvent}
use Rattle.granit_machine.specs.Frames.{ParserState}
use Rattle.granit_machine.specs.Leaving.{LeavesIfRoom}
use Rattle.granit_machine.specs.Lexing.{FlaggedItem}
use Rattle.granit_machine.specs.NodeSteps.{Stepped}
use Rattle.granit_machine.specs.Parser.{take_item}
use Rattle.granit_machine.specs.Reader.{LexState, lex_turn}
use Rattle.granit_restart.specs.Looking.{behind_waiting}
use Rattle.granit_restart.specs.Skipping.{with_pending}
use Rattle.granit_stepper.proofs.BehindFeeds.{item_behind}
use Rattle.granit_stepper.proofs.BehindSteps.{behind, behind_step}
use Rattle.granit_stepper.proofs.ItemLemmas.{item_fed, item_not_fed}
use Rattle.granit_stepper.proofs.StateLemmas.{waiting}
use Rattle.granit_stepper.proofs.WaitingLemmas.{put_back, set_aside}
use Rattle.granit_stepper.specs.Numbers.{GetsLast, IsAnchorStart, UnlessNumberless}
use Rattle.granit_stepper.specs.Stepping.{StandsIn, Stepping, feed_item, turn_view}
use Rattle.granit_steps.specs.Steps.{StepState, read_more, read_unless, with_read}

-- ---- a read gives no event

read_by : (o : OptionsData) (m : StepState) (r : Result (Option (List Item) × LexState) Fault)
    → (r >>= λ x. Ok (Some [], with_read o m x))
    ≡ behind_waiting m.pending (r >>= λ x. Ok (Some [], with_read o (with_pending [] m) x))
read_by o m (Ok x) =
    ap (λ (es : List PlainEvent). Ok (Some [], with_pending es (with_read o m x))) (sym (append-nil m.pending))
read_by o m (Err f) = refl

unless_behind : (o : OptionsData) (m : StepState) (f : Option Fault)
    → read_unless o f m ≡ behind_waiting m.pending (read_unless o f (with_pending [] m))
unless_behind o m (Some f) = refl
unless_behind o m None = read_by o m (lex_turn o m.reading)

pub read_behind : (o : OptionsData) (m : StepState) (ended : Bool)
    → read_more o ended m ≡ behind_waiting m.pending (read_more o ended (with_pending [] m))
read_behind o m true = ap (λ (es : List PlainEvent). Ok (None, with_pending es m)) (sym (append-nil m.pending))
read_behind o m false = unless_behind o m m.reading.fault

-- ---- an item is taken

apart : (p : ParserState) → p ≡ behind p.given (record p { given = [] })
apart p = ap (λ (es : List PlainEvent). record p { given = es }) (sym (append-nil p.given))

-- what is left is what the step leaves where nothing waits, behind the events that wait
taken_by : (r : Result (Unit {0}) Refused) (after : ParserState) (es : List PlainEvent) (given : Stepped)
    → LeavesIfRoom r after (behind_step es given)
    → (q : ParserState) × LeavesIfRoom r q given × (r ≡ Ok tt → after ≡ behind es q)
taken_by (Ok u) after es (Ok q) fed = (q, refl, λ is. cc)
taken_by (Ok u) after es (Err f) fed = absurd (cc)
taken_by (Err e) after es (Ok q) fed =
    (q, λ other. absurd (let clash : Ok (behind es q) ≡ Err e = fed other in cc), λ is. absurd (cc))
taken_by (Err e) after es (Err f) fed = (after, fed, λ is. absurd (cc))

module _ {I : Type 0} (unread : I → Unread → Type 0) (s : Stepping I) (m : StepState) (at : StandsIn unread s m)
    (o : OptionsData) (x : FlaggedItem × Option ℕ) (after : ParserState) (told : s.first ≡ None)
    (r : Result (Unit {0}) Refused)
    (fed : LeavesIfRoom r after (take_item o x.0.item x.0.begins_key x.1 s.parser)) where
  abbrev aside : Stepping I
  aside = record s { parser = record (s.parser) { given = [] } }

  abbrev fed_early : Stepping I
  fed_early = record s { parser = after }

  taken : (q : ParserState) × LeavesIfRoom r q (take_item o x.0.item x.0.begins_key x.1 aside.parser)
      × (r ≡ Ok tt → after ≡ behind s.parser.given q)
  taken = taken_by r after s.parser.given (take_item o x.0.item x.0.begins_key x.1 aside.parser)
      (subst (λ (given : Stepped). LeavesIfRoom r after given)
      (ap (take_item o x.0.item x.0.begins_key x.1) (apart s.parser)
      ∙ item_behind s.parser.given o x.0.item x.0.begins_key x.1 aside.parser) fed)

  stands_aside : StandsIn unread aside (with_pending [] m)
  stands_aside = set_aside unread s m aside.parser at told refl

  pub early_fed : (start : Option Mark) → UnlessNumberless fed_early r start (Ok tt)
      → GivesTo turn_view (Ok true) (StandsIn unread fed_early)
      (behind_waiting m.pending (feed_item o x (with_pending [] m)))
  early_fed start given =
      let q = taken.0 in
      let is : after ≡ behind s.parser.given q = taken.2 given.0 in
      let t = item_fed unread aside (with_pending [] m) stands_aside o x q told refl r taken.1 start
      (given.0, subst (λ (p : ParserState). p.count < 2 ^ 64 - 1) is given.1) in (
        with_pending (m.pending ++ t.0.pending) t.0,
        subst (λ (es : List PlainEvent). StandsIn unread fed_early (with_pending (es ++ t.0.pending) t.0))
            (sym (waiting unread s m at told))
            (put_back unread (record aside { parser = q }) t.0 s.parser.given after t.1 told is),
        ap (behind_waiting m.pending) t.2,
      )

  unless_aside : (start : Option Mark) (e : Refused) → UnlessNumberless fed_early r start (Err e)
      → UnlessNumberless (record aside { parser = taken.0 }) r start (Err e)
  unless_aside start e (inl err) = inl err
  unless_aside start e (inr last) =
      inr (last.0, subst (λ (p : ParserState). p.count ≡ 2 ^ 64 - 1) (taken.2 last.0) last.1, last.2)

  pub early_not_fed : (start : Option Mark) → IsAnchorStart start x.0.item → (e : Refused)
      → UnlessNumberless fed_early r start (Err e)
      → Fails e (behind_waiting m.pending (feed_item o x (with_pending [] m)))
      ⊎ ((s.renumbered ≡ true) × GetsLast o x m.parser e)
  early_not_fed start is e given =
      elim (item_not_fed unread aside (with_pending [] m) stands_aside o x taken.0 told refl r taken.1 start is e
      (unless_aside start e given)) [
        | inl fails ↦ inl (λ other. ap (behind_waiting m.pending) (fails other))
        | inr last ↦ inr last
      ]
