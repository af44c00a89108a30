-- What calls give where handles stay from before is what the text tells behind one that declares them anew, moved.
use Rattle.std.proofs.Common.{◌≡◌, ℕ, Bool, true, false, List, [], ◌∷◌, ◌++◌, Option, Some, None, Err, refl, sym, ap}
use Rattle.std.proofs.Common.{◌∙◌, subst, append_assoc}
use Rattle.std.proofs.lemmas.List.{append-nil, map-append}
use Rattle.granit_alone.proofs.AloneLaws.{ends_all, images_front, last_image, moved_end, no_images, text_begins}
use Rattle.granit_alone.proofs.AloneLaws.{text_caused, text_read}
use Rattle.granit_alone.proofs.CallSteps.{behind, fault_comes, front, none_comes, StandsBehind, told_fault}
use Rattle.granit_alone.proofs.CallSteps.{told_none}
use Rattle.granit_alone.specs.Alone.{stream_start}
use Rattle.granit_alone.specs.Behind.{CausedAnew, GivesAnew, IsOpen, TellsRest, told_anew}
use Rattle.granit_declared.specs.DeclaredReading.{DeclaredReading}
use Rattle.granit_error.specs.OptionsData.{OptionsData}
use Rattle.granit_lexemes.specs.Outcome.{Fault}
use Rattle.granit_lexemes.specs.PlainEvent as events
use Rattle.granit_lexemes.specs.PlainEvent.{EventKind, PlainEvent}
use Rattle.granit_recovery.specs.Streams.{CallsGive}
use Rattle.granit_restart.specs.Calls.{Calls, next_call}
use Rattle.granit_led.specs.Declaring.{behind_documents, TellsAnew}
use Rattle.granit_shifted.specs.Shift.{moved_event, moved_events, moved_fault, moved_fault_of, moved_kind, Shift}
use Rattle.granit_steps.specs.Levels.{IsStream}
use Rattle.granit_steps.specs.Told.{told_of}

none_moved : (shift : Shift) (f : Option Fault) → moved_fault_of shift f ≡ None → f ≡ None
none_moved shift None e = refl
none_moved shift (Some f) e = absurd cc

module _ (o : OptionsData) (x : List ℕ) (kept : List (List ℕ × List ℕ)) (shift : Shift) (all : List PlainEvent)
    (f : Option Fault) (told : TellsAnew o kept x all f) where
  -- the text that declares them, and this one
  abbrev there : List ℕ
  there = told.before ++ x

  abbrev place : Shift
  place = behind_documents told.before told.documents told.lexemes

  abbrev stream : List PlainEvent → List PlainEvent
  stream own = told_anew x told.before told.documents told.lexemes own

  joined : (own more : List PlainEvent) → stream (own ++ more) ≡ stream own ++ moved_events place more
  joined own more =
      ap (λ l. stream_start there ∷ l)
      (ap (λ l. told.documents ++ l) (map-append (moved_event place) own more)
      ∙ sym (append_assoc told.documents (moved_events place own) (moved_events place more)))

  cut_there : (own more : List PlainEvent) → all ≡ own ++ more
      → (told_of o there).0 ≡ stream own ++ moved_events place more
  cut_there own more cut = told.events ∙ ap stream cut ∙ joined own more

  caused : (e : Fault) (g : Option Fault) → f ≡ g → moved_fault_of shift g ≡ Some e
      → CausedAnew o x told.before told.documents told.lexemes shift e
  caused e None same is = absurd cc
  caused e (Some g) same is =
      let moved : e ≡ moved_fault shift g = cc (is) in
      let c = text_caused o there (moved_fault place g) (told.fault ∙ ap (moved_fault_of place) same) in
      record { fault = g; cause = c.0; moved = moved; unnamed = ap (λ (r : Fault). r.sources) moved ∙ c.1 }

  -- the end of the stream is the last of it
  ends_there : (own more front : List PlainEvent) (last : PlainEvent) → all ≡ own ++ more → own ≡ front ++ last ∷ []
      → last.kind ≡ events.StreamEnd → (more ≡ []) × ((told_of o there).1 ≡ None)
  ends_there own more front last cut is kind =
      let e = ends_all o there (stream front) (moved_events place more) (moved_event place last)
      (cut_there front (last ∷ more) (cut ∙ ap (λ (l : List PlainEvent). l ++ more) is
      ∙ append_assoc front (last ∷ []) more))
      (ap (λ (k : EventKind). moved_kind place last.span.start last.span.end k) kind) in
      (no_images (moved_event place) more (sym e.0), e.1)

  module _ (c d : Calls) (dropped es : List PlainEvent)
      (rest : TellsRest o (moved_events shift all) dropped (moved_fault_of shift f) c.steps) (goes : IsOpen c)
      (gives : CallsGive o c es d) where
    left : TellsRest o rest.more es (moved_fault_of shift f) d.steps
    left = front o c d es rest.more (moved_fault_of shift f) gives rest.left

    stands : StandsBehind es d
    stands = behind o c d es goes gives

    -- all that is told begins with what was dropped and what was given
    all_are : moved_events shift all ≡ (dropped ++ es) ++ left.more
    all_are = rest.are ∙ ap (λ l. dropped ++ l) left.are ∙ sym (append_assoc dropped es left.more)

    abbrev Cut : Type 0
    Cut = (own more : List PlainEvent) × (all ≡ own ++ more) × (dropped ++ es ≡ moved_events shift own)
        × (left.more ≡ moved_events shift more)

    cut : Cut
    cut = images_front (moved_event shift) all (dropped ++ es) left.more all_are

    whole : left.more ≡ [] → (told_of o there).0 ≡ stream cut.0
    whole none =
        let nothing : cut.1 ≡ [] = no_images (moved_event shift) cut.1 (sym none ∙ cut.4) in
        told.events ∙ ap stream (cut.2 ∙ ap (λ l. cut.0 ++ l) nothing ∙ append-nil cut.0)

    reads : left.more ≡ [] → (told_of o there).1 ≡ None
        → DeclaredReading o there (stream cut.0) × IsStream (stream cut.0)
    reads none fault = subst (λ es. DeclaredReading o there es × IsStream es) (whole none) (text_read o there fault)

    ended : (over : Bool) → d.over ≡ over → (next_call o d).0 ≡ None
        → DeclaredReading o there (stream cut.0) × IsStream (stream cut.0)
    ended true over none =
        let l = stands.last over in
        let i = last_image (moved_event shift) cut.0 (dropped ++ l.0) l.1
        (sym (ap (λ l. dropped ++ l) l.2 ∙ sym (append_assoc dropped l.0 (l.1 ∷ []))) ∙ cut.3) in
        let own : i.1.kind ≡ events.StreamEnd =
        moved_end shift i.1 (ap (λ (e : PlainEvent). e.kind) i.3 ∙ l.3) in
        let e = ends_there cut.0 cut.1 i.0 i.1 cut.2 i.2 own in
        reads (cut.4 ∙ ap (moved_events shift) e.0) e.1
    ended false over none =
        let n = none_comes o d (record { over = over; fault = stands.fault; refusal = stands.refusal }) none in
        let t = told_none o d.steps n.0 left.more (moved_fault_of shift f) n.1 left.left in
        reads t.0 (told.fault ∙ ap (moved_fault_of place) (none_moved shift f t.1))

    refused : (e : Fault) (after : Calls) → next_call o d ≡ (Some (Err e), after)
        → CausedAnew o x told.before told.documents told.lexemes shift e
    refused e after is =
        caused e f refl
        (told_fault o d.steps e left.more (moved_fault_of shift f) (fault_comes o d after e is) left.left).1

    pub rest_anew : GivesAnew o x kept shift dropped es d
    rest_anew = record {
      before = told.before;
      declares = told.declares;
      documents = told.documents;
      empty = told.empty;
      lexemes = told.lexemes;
      own = cut.0;
      moved = cut.3;
      begins = text_begins o there (stream cut.0) (moved_events place cut.1) (cut_there cut.0 cut.1 cut.2);
      refused = refused;
      ended = ended d.over refl;
    }
