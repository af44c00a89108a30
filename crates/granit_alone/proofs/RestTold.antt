-- Wherever calls and recoveries lead within a text, what is told there is the rest of what the text tells.
use Rattle.std.proofs.Common.{◌≡◌, ℕ, Bool, true, false, List, [], ◌∷◌, ◌++◌, Option, Some, None, Ok}
use Rattle.std.proofs.Common.{Err, refl, sym, ap, ap₂, ◌∙◌, subst, append_assoc}
use Rattle.std.proofs.lemmas.List.{append-nil}
use Rattle.granit_alone.proofs.AloneLaws.{ends_all, text_begins, text_caused, text_read}
use Rattle.granit_alone.proofs.CallSteps.{behind, fault_comes, front, none_comes, StandsBehind, told_fault, told_none}
use Rattle.granit_alone.proofs.FaultLaws.{ask_goes, GoesFrom}
use Rattle.granit_alone.proofs.SkipTold.{end_of, skip_told}
use Rattle.granit_alone.specs.Behind.{GivesText, IsOpen, TellsRest}
use Rattle.granit_declared.specs.DeclaredCause.{DeclaredCause}
use Rattle.granit_declared.specs.DeclaredReading.{DeclaredReading}
use Rattle.granit_error.specs.OptionsData.{OptionsData}
use Rattle.granit_lexemes.specs.Outcome.{Fault}
use Rattle.granit_lexemes.specs.PlainEvent.{PlainEvent}
use Rattle.granit_recovery.proofs.RecoveryLaws.{first_same}
use Rattle.granit_recovery.specs.Streams.{CallsGive}
use Rattle.granit_restart.specs.Calls.{Calls, next_call}
use Rattle.granit_restart.specs.Recovery.{extra_of, looked_by, recover, recover_with, skipped_by}
use Rattle.granit_restart.specs.Skipping.{Ended, skip_by_turns, skipped_to, Stops}
use Rattle.granit_led.specs.Stopping.{looked_at}
use Rattle.granit_steps.specs.Levels.{IsStream}
use Rattle.granit_steps.specs.Steps.{StepState}
use Rattle.granit_steps.specs.Told.{told_of}

module _ (o : OptionsData) (all : List PlainEvent) (f : Option Fault) where
  -- events that were given are of it
  pub calls_rest : (before es : List PlainEvent) (c d : Calls) → TellsRest o all before f c.steps → CallsGive o c es d
      → TellsRest o all (before ++ es) f d.steps
  calls_rest before es c d r gives =
      let t = front o c d es r.more f gives r.left in
      record {
        more = t.more;
        are = r.are ∙ ap (λ l. before ++ l) t.are ∙ sym (append_assoc before es t.more);
        left = t.left;
      }

-- ---- recovery

module _ (o : OptionsData) (stops : Stops) (c b d : Calls) (follows : Bool) where
  by_looked : (looked : Bool) (refusal : Option Fault) → looked_at o looked c ≡ b → b.over ≡ false
      → recover_with o stops looked refusal c ≡ (Ok follows, d)
      → GoesFrom (skipped_by o stops b.fault b.between b.steps) d
  by_looked looked (Some g) is over e = absurd (let x = first_same _ _ e in cc)
  by_looked false None is over e =
      let same : c ≡ b = is in
      subst (λ (b : Calls). GoesFrom (skipped_by o stops b.fault b.between b.steps) d) same
      (ask_goes o 0 (skipped_by o stops c.fault c.between c.steps) c.over c d follows
      (ap (λ (b : Calls). b.over) same ∙ over) e)
  by_looked true None is over e =
      let l = looked_by c (next_call o c) in
      let same : l ≡ b = is in
      subst (λ (b : Calls). GoesFrom (skipped_by o stops b.fault b.between b.steps) d) same
      (ask_goes o (extra_of l (next_call o c).0) (skipped_by o stops l.fault l.between l.steps) l.over l d follows
      (ap (λ (b : Calls). b.over) same ∙ over) e)

  -- where an answer leads
  pub looked_goes : (looked : Bool) → looked_at o looked c ≡ b → b.over ≡ false
      → recover o stops looked c ≡ (Ok follows, d) → GoesFrom (skipped_by o stops b.fault b.between b.steps) d
  unfolding recover
  looked_goes looked is over e = by_looked looked c.refusal is over e

  module _ (looked : Bool) (is : looked_at o looked c ≡ b) (over : b.over ≡ false) (fault : b.fault ≡ None)
      (e : recover o stops looked c ≡ (Ok follows, d)) (all before : List PlainEvent) (f : Option Fault)
      (r : TellsRest o all before f b.steps) where
    -- directly behind a document
    pub between_rest : b.between ≡ true → TellsRest o all before f d.steps
    between_rest between =
        let g = looked_goes looked is over e in
        let same : skipped_by o stops b.fault b.between b.steps ≡ b.steps =
        ap₂ (λ (x : Option Fault) (v : Bool). skipped_by o stops x v b.steps) fault between in
        subst (TellsRest o all before f) (sym (g.steps ∙ same)) r

    -- a document, or what is left of the open one, is dropped
    pub dropping_rest : (t : StepState) → b.between ≡ false → skip_by_turns o b.steps ≡ Ended t
        → (dropped : List PlainEvent) × TellsRest o all (before ++ dropped) f d.steps
    dropping_rest t between ended =
        let g = looked_goes looked is over e in
        let same : skipped_by o stops b.fault b.between b.steps ≡ t =
        ap₂ (λ (x : Option Fault) (v : Bool). skipped_by o stops x v b.steps) fault between
        ∙ ap (skipped_to o stops) ended in
        let x = skip_told o b.steps r.more f r.left in
        let there : end_of (skip_by_turns o b.steps) ≡ d.steps = ap end_of ended ∙ sym (g.steps ∙ same) in (
          x.before,
          subst (TellsRest o all (before ++ x.before) f) there
              (record {
                more = x.rest.more;
                are = r.are ∙ ap (λ l. before ++ l) x.rest.are ∙ sym (append_assoc before x.before x.rest.more);
                left = x.rest.left;
              }),
        )

-- ---- a text from its start on

module _ (o : OptionsData) (x : List ℕ) (before es : List PlainEvent) (c d : Calls)
    (r : TellsRest o (told_of o x).0 before (told_of o x).1 c.steps) (goes : IsOpen c)
    (gives : CallsGive o c es d) where
  rest : TellsRest o (told_of o x).0 (before ++ es) (told_of o x).1 d.steps
  rest = calls_rest o (told_of o x).0 (told_of o x).1 before es c d r gives

  stands : StandsBehind es d
  stands = behind o c d es goes gives

  whole : rest.more ≡ [] → before ++ es ≡ (told_of o x).0
  whole none = sym (rest.are ∙ ap (λ l. (before ++ es) ++ l) none ∙ append-nil (before ++ es))

  reads : rest.more ≡ [] → (told_of o x).1 ≡ None → DeclaredReading o x (before ++ es) × IsStream (before ++ es)
  reads none fault =
      subst (λ es. DeclaredReading o x es × IsStream es) (sym (whole none)) (text_read o x fault)

  ended : (over : Bool) → d.over ≡ over → (next_call o d).0 ≡ None
      → DeclaredReading o x (before ++ es) × IsStream (before ++ es)
  ended true over none =
      let l = stands.last over in
      let e = ends_all o x (before ++ l.0) rest.more l.1
      (rest.are ∙ ap (λ l. (before ++ l) ++ rest.more) l.2
      ∙ ap (λ l. l ++ rest.more) (sym (append_assoc before l.0 (l.1 ∷ [])))
      ∙ append_assoc (before ++ l.0) (l.1 ∷ []) rest.more) l.3 in
      reads e.0 e.1
  ended false over none =
      let n = none_comes o d (record { over = over; fault = stands.fault; refusal = stands.refusal }) none in
      let t = told_none o d.steps n.0 rest.more (told_of o x).1 n.1 rest.left in
      reads t.0 t.1

  refused : (f : Fault) (after : Calls) → next_call o d ≡ (Some (Err f), after)
      → DeclaredCause o x f × (f.sources ≡ [])
  refused f after is =
      text_caused o x f (told_fault o d.steps f rest.more (told_of o x).1 (fault_comes o d after f is) rest.left).1

  pub gives_text : GivesText o x before es d
  gives_text = record {
    begins = text_begins o x (before ++ es) rest.more rest.are;
    refused = refused;
    ended = ended d.over refl;
  }
