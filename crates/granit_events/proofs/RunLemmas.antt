-- A whole run: what came in and what was answered fix how it ended, and what it calls for fixes that too.
use Rattle.std.proofs.Common.{◌≡◌, ℕ, ◌≤◌, ◌<◌, List, ◌++◌, length, refl, sym, ap, subst, ◌∙◌, arith, length-append}
use Rattle.std.proofs.lemmas.List.{append-nil}
use Rattle.std.specs.Prelude.{Option, None, Some, Ok, Err}
use Rattle.granit_base.specs.Written.{Written}
use Rattle.granit_error.specs.OptionsData.{OptionsData}
use Rattle.granit_error.specs.OptionsView.{options_of}
use Rattle.granit_lexemes.specs.Outcome.{Fault}
use Rattle.granit_lexemes.specs.PlainEvent.{PlainEvent}
use Rattle.granit_events.specs.Came.{most_bytes, CameWhole, CameTooMany}
use Rattle.granit_events.specs.Ended.{AreRight, AreWrongAt, Answers, Ended, EndedWhole, CallsFor, IsOrYields}
use Rattle.granit_events.specs.Ended.{SayOptions, machine_answer}
use Rattle.granit_words.specs.Words.{spelled}
use Rattle.granit_words.proofs.WordLemmas as words_of
use Rattle.granit_events.specs.Inputs.{TookInput, Responds}
use Rattle.granit_events.specs.Output.{WholeOutput, CutOutput}
use Rattle.granit_events.specs.Wrote.{WroteFront}
use Rattle.granit_events.specs.declared.input.Request.{Request}
use Rattle.granit_events.specs.declared.input.Request.TheVariants as came
use Rattle.granit_events.specs.declared.status.Status.{Status}
use Rattle.granit_events.specs.declared.status.Status.TheVariants as status

pub cut_input : (input same : Request) (a b : Option (List ℕ)) (s : Status) (output : List ℕ) → input ≡ same
    → Responds same s output → WroteFront a b output → CutOutput (Responds input) a b
cut_input input same a b s output e r w = record {
  wanted = s;
  output = output;
  called =
      subst (λ (i : Request). Responds i s output) (sym e) r;
  wrote = w;
}

ended_of : (words : List Written) (before now : Option (List ℕ)) (input : Request) (s : Status) (output : List ℕ)
    → TookInput words before now input → Responds input s output → Ended words before now s output
ended_of words before now (came.WrongWord k) status.Usage output t r = (t.0, (k, t.1, r))
ended_of words before now (came.WrongWord k) _ output t r = absurd r
ended_of words before now came.TooLong status.TooLong output t r = (t.0, (t.1.0, t.1.1, r))
ended_of words before now came.TooLong _ output t r = absurd r
ended_of words before now (came.Whole v p) status.NotUtf8 output t r = (options_of p, t.0, (v.items, t.1, r))
ended_of words before now (came.Whole v p) status.Fault output t r = (options_of p, t.0, (v.items, t.1, r))
ended_of words before now (came.Whole v p) status.Done output t r = (options_of p, t.0, (v.items, t.1, r))
ended_of words before now (came.Whole v p) _ output t r = absurd r

pub whole_ended : (words : List Written) (before now a b : Option (List ℕ)) (input : Request) (s : Status)
    → TookInput words before now input → WholeOutput (Responds input) a b s → WholeOutput (Ended words before now) a b s
whole_ended words before now a b input s t w =
    record { output = w.output; called = ended_of words before now input s w.output t w.called; wrote = w.wrote }

right_or_wrong : (words : List Written) (k : ℕ) → AreRight words → AreWrongAt words k → ⊥
right_or_wrong words k r w = words_of.right_or_wrong (spelled words) k r w

usage_on : (words : List Written) (before now : Option (List ℕ)) (k : ℕ) (input : Request) (s : Status)
    (output : List ℕ) → AreWrongAt words k → TookInput words before now input → Responds input s output
    → IsOrYields status.Usage s
usage_on words before now k (came.WrongWord j) status.Usage output wrong t r = refl
usage_on words before now k (came.WrongWord j) _ output wrong t r = absurd r
usage_on words before now k came.TooLong s output wrong t r = absurd (right_or_wrong words k t.0 wrong)
usage_on words before now k (came.Whole v p) s output wrong t r =
    absurd (right_or_wrong words k (options_of p, t.0) wrong)

-- wrong words end as such
pub usage_yields : (words : List Written) (before now a b : Option (List ℕ)) (k : ℕ) (input : Request) (s : Status)
    → AreWrongAt words k → TookInput words before now input → WholeOutput (Responds input) a b s
    → IsOrYields status.Usage s
usage_yields words before now a b k input s wrong t w =
    usage_on words before now k input s w.output wrong t w.called

pub yields : (s wanted : Status) → s ≡ wanted → IsOrYields wanted s
yields status.ReadFault wanted e = tt
yields status.WriteFault wanted e = tt
yields status.NoMemory wanted e = tt
yields _ wanted e = e

-- bytes that came whole are all that was left, where those are told
pub whole_bytes : (bytes came : List ℕ) (now : Option (List ℕ)) → CameWhole (Some bytes) now came → bytes ≡ came
whole_bytes bytes came None w = absurd w.came
whole_bytes bytes came (Some rest) w = w.came ∙ (ap (λ (xs : List ℕ). came ++ xs) w.none_left ∙ append-nil came)

too_many_bytes : (bytes came : List ℕ) (now : Option (List ℕ)) → CameTooMany (Some bytes) now came
    → most_bytes < length bytes
too_many_bytes bytes came None w = absurd w.came
too_many_bytes bytes came (Some rest) w = omega (arith, w.too_many, ap length w.came ∙ length-append came rest)

-- right words say one choice of options, under which a text has one answer
one_answer : (words : List Written) (o p : OptionsData) (bytes : List ℕ) (events : List PlainEvent) (f : Fault)
    → SayOptions words o → SayOptions words p → machine_answer o bytes ≡ Ok events → machine_answer p bytes ≡ Err f → ⊥
one_answer words o p bytes events f a b done fault =
    let same = words_of.say_one (spelled words) o p a b in
    let given = subst (λ (q : OptionsData). machine_answer q bytes ≡ Ok events) same done in cc

answers_exactly : (words : List Written) (o : OptionsData) (bytes output : List ℕ) (s wanted : Status)
    → SayOptions words o → length bytes ≤ most_bytes → Answers o bytes s output → CallsFor words bytes wanted
    → s ≡ wanted
answers_exactly words o bytes output status.NotUtf8 status.Usage r f a c =
    absurd (right_or_wrong words c.0 (o, r) c.1)
answers_exactly words o bytes output status.NotUtf8 status.TooLong r f a c = absurd (omega (arith, f, c.1))
answers_exactly words o bytes output status.NotUtf8 status.NotUtf8 r f a c = refl
answers_exactly words o bytes output status.NotUtf8 status.Fault r f a c = absurd (a.0 c.3)
answers_exactly words o bytes output status.NotUtf8 status.Done r f a c = absurd (a.0 c.3)
answers_exactly words o bytes output status.NotUtf8 _ r f a c = absurd c
answers_exactly words o bytes output status.Fault status.Usage r f a c = absurd (right_or_wrong words c.0 (o, r) c.1)
answers_exactly words o bytes output status.Fault status.TooLong r f a c = absurd (omega (arith, f, c.1))
answers_exactly words o bytes output status.Fault status.NotUtf8 r f a c = absurd (c.2 a.0)
answers_exactly words o bytes output status.Fault status.Fault r f a c = refl
answers_exactly words o bytes output status.Fault status.Done r f a c =
    absurd (one_answer words c.0 o bytes c.4.0 a.1.0 c.1 r c.4.1 a.1.1)
answers_exactly words o bytes output status.Fault _ r f a c = absurd c
answers_exactly words o bytes output status.Done status.Usage r f a c = absurd (right_or_wrong words c.0 (o, r) c.1)
answers_exactly words o bytes output status.Done status.TooLong r f a c = absurd (omega (arith, f, c.1))
answers_exactly words o bytes output status.Done status.NotUtf8 r f a c = absurd (c.2 a.0)
answers_exactly words o bytes output status.Done status.Fault r f a c =
    absurd (one_answer words o c.0 bytes a.1.0 c.4.0 r c.1 a.1.1 c.4.1)
answers_exactly words o bytes output status.Done status.Done r f a c = refl
answers_exactly words o bytes output status.Done _ r f a c = absurd c
answers_exactly words o bytes output _ wanted r f a c = absurd a

whole_exactly : (words : List Written) (bytes output : List ℕ) (now : Option (List ℕ)) (s wanted : Status)
    → EndedWhole words (Some bytes) now s output → CallsFor words bytes wanted → s ≡ wanted
whole_exactly words bytes output now s wanted e c =
    let came = e.2.0 in
    let same : bytes ≡ came = whole_bytes bytes came now e.2.1 in
    answers_exactly words e.0 bytes output s wanted e.1 (rw same e.2.1.fits) (rw same e.2.2) c

too_long_exactly : (words : List Written) (bytes : List ℕ) (wanted : Status) → AreRight words
    → most_bytes < length bytes → CallsFor words bytes wanted → status.TooLong ≡ wanted
too_long_exactly words bytes status.Usage r l c = absurd (right_or_wrong words c.0 r c.1)
too_long_exactly words bytes status.TooLong r l c = refl
too_long_exactly words bytes status.NotUtf8 r l c = absurd (omega (arith, c.1))
too_long_exactly words bytes status.Fault r l c = absurd (omega (arith, l, c.2))
too_long_exactly words bytes status.Done r l c = absurd (omega (arith, l, c.2))
too_long_exactly words bytes _ r l c = absurd c

usage_exactly : (words : List Written) (bytes : List ℕ) (k : ℕ) (wanted : Status) → AreWrongAt words k
    → CallsFor words bytes wanted → status.Usage ≡ wanted
usage_exactly words bytes k status.Usage w c = refl
usage_exactly words bytes k status.TooLong w c = absurd (right_or_wrong words k c.0 w)
usage_exactly words bytes k status.NotUtf8 w c = absurd (right_or_wrong words k c.0 w)
usage_exactly words bytes k status.Fault w c = absurd (right_or_wrong words k (c.0, c.1) w)
usage_exactly words bytes k status.Done w c = absurd (right_or_wrong words k (c.0, c.1) w)
usage_exactly words bytes k _ w c = absurd c

ended_exactly : (words : List Written) (bytes output : List ℕ) (now : Option (List ℕ)) (s wanted : Status)
    → Ended words (Some bytes) now s output → CallsFor words bytes wanted → s ≡ wanted
ended_exactly words bytes output now status.Usage wanted e c = usage_exactly words bytes e.1.0 wanted e.1.1 c
ended_exactly words bytes output now status.TooLong wanted e c = too_long_exactly words bytes wanted e.0
    (too_many_bytes bytes e.1.0 now e.1.1) c
ended_exactly words bytes output now status.NotUtf8 wanted e c = whole_exactly words bytes output now status.NotUtf8
    wanted e c
ended_exactly words bytes output now status.Fault wanted e c = whole_exactly words bytes output now status.Fault wanted
    e c
ended_exactly words bytes output now status.Done wanted e c = whole_exactly words bytes output now status.Done wanted e
    c
ended_exactly words bytes output now _ wanted e c = absurd e

pub exactly_yields : (words : List Written) (bytes : List ℕ) (before now a b : Option (List ℕ)) (s wanted : Status)
    → WholeOutput (Ended words before now) a b s → before ≡ Some bytes → CallsFor words bytes wanted
    → IsOrYields wanted s
exactly_yields words bytes before now a b s wanted w e c =
    yields s wanted (ended_exactly words bytes w.output now s wanted
    (subst (λ (o : Option (List ℕ)). Ended words o now s w.output) e w.called) c)
