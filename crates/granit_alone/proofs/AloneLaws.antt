-- What calls give where a text stands alone is what it tells, moved.
use Rattle.std.proofs.Common.{◌≡◌, ℕ, Bool, true, false, List, [], ◌∷◌, ◌++◌, Option, Some, None, Err, map}
use Rattle.std.proofs.Common.{Ok, refl, sym, ap, ap₂, ◌∙◌, subst, append_assoc}
use Rattle.granit_alone.proofs.CallSteps.{behind, fault_comes, front, none_comes, StandsBehind, told_fault}
use Rattle.granit_alone.proofs.CallSteps.{told_none}
use Rattle.granit_alone.specs.Alone.{BeginsAlone, CausedAlone, ReadsAlone, stream_start}
use Rattle.granit_alone.specs.Behind.{GivesAlone, GivesEnd, IsOpen, TellsRest, TellsRestAlone}
pub use Rattle.granit_answers.proofs.CommentsCaused.{any_fault_caused}
pub use Rattle.granit_answers.proofs.OneCause.{answer_reads}
use Rattle.granit_declared.proofs.CauseSaid.{cause_declared}
use Rattle.granit_declared.proofs.ReadingSaid.{answer_declared}
use Rattle.granit_declared.specs.DeclaredCause.{DeclaredCause}
use Rattle.granit_declared.specs.DeclaredReading.{DeclaredReading}
use Rattle.granit_error.specs.OptionsData.{OptionsData}
use Rattle.granit_lexemes.specs.Here.{Here, mark_of, start_of}
use Rattle.granit_lexemes.specs.Outcome.{Fault}
use Rattle.granit_lexemes.specs.PlainEvent as events
use Rattle.granit_lexemes.specs.PlainEvent.{EventKind, event_on, PlainEvent}
use Rattle.granit_machine.specs.Machine.{run}
use Rattle.granit_answers.proofs.CommentsCaused.{run_none}
use Rattle.granit_ids.proofs.TidyLaws.{begun_ends}
use Rattle.granit_recovery.specs.Streams.{CallsGive}
use Rattle.granit_restart.specs.Calls.{Calls, next_call}
use Rattle.granit_led.specs.Alone.{behind_first, TellsMoved, TellsEnd}
use Rattle.granit_shifted.specs.Shift.{Shift, moved_event, moved_events, moved_fault, moved_fault_of, moved_kind}
use Rattle.granit_steps.proofs.StepLaws.{run_told, steps_tell}
use Rattle.granit_recovery.proofs.SkipLaws.{run_is_stream, told_begins}
use Rattle.granit_steps.specs.Levels.{BeginsStream, IsStream, stream_levels}
use Rattle.granit_steps.specs.Steps.{steps_start}
use Rattle.granit_steps.specs.Told.{answer, GivesEvents, told_of}

-- what begins the images of a list are the images of what begins it
pub images_front : {A B : Type 0} (f : A → B) (xs : List A) (ys zs : List B) → map f xs ≡ ys ++ zs
    → (front rest : List A) × (xs ≡ front ++ rest) × (ys ≡ map f front) × (zs ≡ map f rest)
images_front f xs [] zs is = ([], xs, refl, refl, sym is)
images_front f [] (y ∷ ys) zs is = absurd cc
images_front f (x ∷ xs) (y ∷ ys) zs is =
    let head : f x ≡ y = cc (is) in
    let tail : map f xs ≡ ys ++ zs = cc (is) in
    let p = images_front f xs ys zs tail in
    (x ∷ p.0, p.1, ap (λ l. x ∷ l) p.2, ap₂ (λ b l. b ∷ l) (sym head) p.3, p.4)

pub no_images : {A B : Type 0} (f : A → B) (xs : List A) → [] ≡ map f xs → xs ≡ []
no_images f [] e = refl
no_images f (x ∷ xs) e = absurd (cc)

-- the end of a stream is told wherever it stands
pub moved_end : (shift : Shift) (e : PlainEvent) → (moved_event shift e).kind ≡ events.StreamEnd
    → e.kind ≡ events.StreamEnd
moved_end shift e is = on e.kind is
  where
    on : (kind : EventKind) → moved_kind shift e.span.start e.span.end kind ≡ events.StreamEnd
        → kind ≡ events.StreamEnd
    on events.StreamEnd is = refl
    on kind is = absurd (cc)

-- the last of images is the image of the last
pub last_image : {A B : Type 0} (f : A → B) (xs : List A) (ys : List B) (y : B)
    → ys ++ y ∷ [] ≡ map f xs → (front : List A) × (x : A) × (xs ≡ front ++ x ∷ []) × (f x ≡ y)
last_image f xs ys y is =
    let p = images_front f xs ys (y ∷ []) (sym is) in
    one p.0 p.1 p.2 p.4
  where
    one : (front rest : _) → xs ≡ front ++ rest → y ∷ [] ≡ map f rest
        → (front : List _) × (x : _) × (xs ≡ front ++ x ∷ []) × (f x ≡ y)
    one front [] are image = absurd (cc)
    one front (x ∷ []) are image = (front, x, are, let same : y ≡ f x = cc in sym same)
    one front (x ∷ z ∷ rest) are image = absurd (cc)

-- ---- a text

module _ (o : OptionsData) (x : List ℕ) where
  -- what is told of it up to its end is its reading
  pub text_read : (told_of o x).1 ≡ None → DeclaredReading o x (told_of o x).0 × IsStream (told_of o x).0
  text_read none =
      let ran : run o x ≡ Ok (told_of o x).0 = run_told o x ∙ ap (answer (told_of o x)) none in
      let es = (told_of o x).0 in
      (answer_declared o x es (answer_reads o x es ran), run_is_stream o x es ran)

  -- and its fault is a cause of it
  pub text_caused : (f : Fault) → (told_of o x).1 ≡ Some f → DeclaredCause o x f × (f.sources ≡ [])
  text_caused f is =
      let ran : run o x ≡ Err f = run_told o x ∙ ap (answer (told_of o x)) is in
      (cause_declared o x f (any_fault_caused o x f ran), run_none o x f ran)

  -- what it begins with begins a stream
  pub text_begins : (es more : List PlainEvent) → (told_of o x).0 ≡ es ++ more → BeginsStream es
  text_begins es more are =
      let b = told_begins o x in (
        more ++ b.0,
        sym (ap (λ (l : List PlainEvent). stream_levels (l ++ b.0)) are
            ∙ ap stream_levels (append_assoc es more b.0)) ∙ b.1,
      )

  -- the end of the stream is the last of it
  pub ends_all : (front more : List PlainEvent) (end : PlainEvent) → (told_of o x).0 ≡ front ++ end ∷ more
      → end.kind ≡ events.StreamEnd → (more ≡ []) × ((told_of o x).1 ≡ None)
  ends_all [] more end are kind =
      absurd (let same : stream_start x ≡ end = cc (are) in
      let k : events.StreamStart ≡ events.StreamEnd = ap (λ (e : PlainEvent). e.kind) same ∙ kind in cc)
  ends_all (e ∷ front) more end are kind =
      begun_ends o (start_of x) 0 e end front more (told_of o x).1 kind
      (subst (λ (es : List PlainEvent). GivesEvents o (steps_start x) es (told_of o x).1) are (steps_tell o x))

-- ---- where it stands

module _ (o : OptionsData) (x : List ℕ) (shift : Shift) where
  pub reads_by : (es all : List PlainEvent) (f : Option Fault) → es ≡ moved_events shift all
      → None ≡ moved_fault_of shift f → run o x ≡ answer (stream_start x ∷ all, f) f → ReadsAlone o x shift es
  reads_by es all None moved is ran = record {
    alone = all;
    moved = moved;
    reading = answer_declared o x (stream_start x ∷ all) (answer_reads o x (stream_start x ∷ all) ran);
    stream = run_is_stream o x (stream_start x ∷ all) ran;
  }
  reads_by es all (Some f) moved is ran = absurd cc

  pub caused_by : (e : Fault) (all : List PlainEvent) (f : Option Fault) → Some e ≡ moved_fault_of shift f
      → run o x ≡ answer (stream_start x ∷ all, f) f → CausedAlone o x shift e
  caused_by e all None is ran = absurd cc
  caused_by e all (Some f) is ran =
      let moved : e ≡ moved_fault shift f = cc (is) in record {
        fault = f;
        cause = cause_declared o x f (any_fault_caused o x f ran);
        moved = moved;
        unnamed = ap (λ (r : Fault). r.sources) moved ∙ run_none o x f ran;
      }

  -- what begins all that is told, moved, begins the text's stream
  pub begins_by : (es more : List PlainEvent) → moved_events shift (behind_first (told_of o x).0) ≡ es ++ more
      → BeginsAlone x shift es
  begins_by es more are =
      let q = images_front (moved_event shift) (behind_first (told_of o x).0) es more are in
      let b = told_begins o x in
      let cut : (told_of o x).0 ≡ (stream_start x ∷ q.0)
      ++ q.1 = ap (λ (l : List PlainEvent). stream_start x ∷ l) q.2 in
      record {
        alone = q.0;
        moved = q.3;
        begins = (
          q.1 ++ b.0,
          sym (ap (λ (l : List PlainEvent). stream_levels (l ++ b.0)) cut
              ∙ ap stream_levels (append_assoc (stream_start x ∷ q.0) q.1 b.0)) ∙ b.1,
        );
      }

  -- all that is told, where it ends with what was given
  all_moved : (es more : List PlainEvent) → moved_events shift (behind_first (told_of o x).0) ≡ es ++ more → more ≡ []
      → es ≡ moved_events shift (behind_first (told_of o x).0)
  all_moved es more are none = sym (are ∙ ap (λ l. es ++ l) none ∙ append_none es)
    where
      append_none : (l : List PlainEvent) → l ++ [] ≡ l
      append_none [] = refl
      append_none (y ∷ l) = ap (λ z. y ∷ z) (append_none l)

  -- where the end of the stream was given, it is the last
  ends_by : (es more : List PlainEvent) → moved_events shift (behind_first (told_of o x).0) ≡ es ++ more
      → (before : List PlainEvent) (end : PlainEvent) → es ≡ before ++ end ∷ [] → end.kind ≡ events.StreamEnd
      → (more ≡ []) × ((told_of o x).1 ≡ None)
  ends_by es more are before end last kind =
      let q = images_front (moved_event shift) (behind_first (told_of o x).0) es more are in
      let l = last_image (moved_event shift) q.0 before end (sym last ∙ q.3) in
      let own : l.1.kind ≡ events.StreamEnd =
      moved_end shift l.1 (ap (λ (e : PlainEvent). e.kind) l.3 ∙ kind) in
      let cut : behind_first (told_of o x).0 ≡ l.0 ++ l.1 ∷ q.1 =
      q.2 ∙ ap (λ (l : List PlainEvent). l ++ q.1) l.2 ∙ append_assoc l.0 (l.1 ∷ []) q.1 in
      let d = begun_ends o (start_of x) 0 (stream_start x) l.1 l.0 q.1 (told_of o x).1 own
      (subst (λ (es : List PlainEvent). GivesEvents o
      (steps_start x) (stream_start x ∷ es) (told_of o x).1) cut (steps_tell o x)) in
      (q.4 ∙ ap (moved_events shift) d.0, d.1)

  module _ (c d : Calls) (before es : List PlainEvent) (rest : TellsRestAlone o x shift before c.steps)
      (goes : IsOpen c) (gives : CallsGive o c es d) where
    told : TellsRest o rest.more es (moved_fault_of shift (told_of o x).1) d.steps
    told = front o c d es rest.more (moved_fault_of shift (told_of o x).1) gives rest.left

    stands : StandsBehind es d
    stands = behind o c d es goes gives

    -- all that is told begins with what was dropped and what was given
    all_are : moved_events shift (behind_first (told_of o x).0) ≡ (before ++ es) ++ told.more
    all_are =
        rest.are ∙ ap (λ l. before ++ l) told.are ∙ sym (append_assoc before es told.more)

    reads : told.more ≡ [] → moved_fault_of shift (told_of o x).1 ≡ None → ReadsAlone o x shift (before ++ es)
    reads none fault = reads_by (before ++ es) (behind_first (told_of o x).0) (told_of o x).1
        (all_moved (before ++ es) told.more all_are none) (sym fault) (run_told o x)

    ended : (over : Bool) → d.over ≡ over → (next_call o d).0 ≡ None → ReadsAlone o x shift (before ++ es)
    ended true over none =
        let l = stands.last over in
        let e = ends_by (before ++ es) told.more all_are (before ++ l.0) l.1
        (ap (λ l. before ++ l) l.2 ∙ sym (append_assoc before l.0 (l.1 ∷ []))) l.3 in
        reads e.0 (ap (moved_fault_of shift) e.1)
    ended false over none =
        let n = none_comes o d (record { over = over; fault = stands.fault; refusal = stands.refusal }) none in
        let t = told_none o d.steps n.0 told.more (moved_fault_of shift (told_of o x).1) n.1 told.left in
        reads t.0 t.1

    refused : (f : Fault) (after : Calls) → next_call o d ≡ (Some (Err f), after) → CausedAlone o x shift f
    refused f after is =
        let t = told_fault o d.steps f told.more (moved_fault_of shift (told_of o x).1) (fault_comes o d after f is)
        told.left in
        caused_by f (behind_first (told_of o x).0) (told_of o x).1 (sym t.1) (run_told o x)

    pub rest_alone : GivesAlone o x shift before es d
    rest_alone = record {
      begins = begins_by (before ++ es) told.more all_are;
      refused = refused;
      ended = ended d.over refl;
    }

  -- nothing was dropped
  pub gives_alone : (c d : Calls) (es : List PlainEvent) → TellsMoved o x shift c.steps → IsOpen c → CallsGive o c es d
      → GivesAlone o x shift [] es d
  gives_alone c d es tells goes gives =
      rest_alone c d [] es
      (record { more = moved_events shift (behind_first (told_of o x).0); are = refl; left = tells }) goes gives

-- ---- where nothing is left

module _ (o : OptionsData) (h : Here) (c d : Calls) (es : List PlainEvent) (tells : TellsEnd o h c.steps)
    (goes : IsOpen c) (gives : CallsGive o c es d) where
  told_end : TellsRest o (event_on events.StreamEnd (mark_of h) ∷ []) es None d.steps
  told_end = front o c d es _ _ gives tells

  stands_end : StandsBehind es d
  stands_end = behind o c d es goes gives

  one_event : (before es more : List PlainEvent) (end e : PlainEvent) → e ∷ [] ≡ es ++ more
      → es ≡ before ++ end ∷ [] → more ≡ []
  one_event [] es more end e all last =
      let same : e ∷ [] ≡ end ∷ more = all ∙ ap (λ l. l ++ more) last in let none : [] ≡ more = cc in sym none
  one_event (b ∷ []) es more end e all last =
      absurd (let same : e ∷ [] ≡ b ∷ end ∷ more = all ∙ ap (λ l. l ++ more) last in cc)
  one_event (b ∷ c ∷ bs) es more end e all last =
      absurd (let same : e ∷ [] ≡ b ∷ c ∷ ((bs ++ end ∷ []) ++ more) = all ∙ ap (λ l. l ++ more) last in cc)

  end_last : (over : Bool) → d.over ≡ over → (next_call o d).0 ≡ None → told_end.more ≡ []
  end_last true over none =
      let l = stands_end.last over in one_event l.0 es told_end.more l.1 _ told_end.are l.2
  end_last false over none =
      let n = none_comes o d (record { over = over; fault = stands_end.fault; refusal = stands_end.refusal }) none in
      (told_none o d.steps n.0 told_end.more None n.1 told_end.left).0

  never : (f : Fault) (after : Calls) → next_call o d ≡ (Some (Err f), after) → ⊥
  never f after is =
      let t = told_fault o d.steps f told_end.more None (fault_comes o d after f is) told_end.left in
      let e = t.1 in cc

  pub gives_end : GivesEnd o h es d
  gives_end = record {
    more = told_end.more;
    begins = sym told_end.are;
    never = never;
    ended = end_last d.over refl;
  }
