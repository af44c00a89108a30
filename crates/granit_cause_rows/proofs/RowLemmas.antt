-- What the machine answers tells which causes a text has.
use Rattle.std.proofs.Common.{◌≡◌, ℕ, true, false, List, Ok, Err, Result, ap, ◌∙◌, subst, ◌==◌, is_ok}
use Rattle.std.proofs.Common.{refl}
use Rattle.std.proofs.lemmas.Bool.{eq-eqb, both_ways}
use Rattle.granit_answers.proofs.CommentsCaused.{any_fault_caused}
use Rattle.granit_answers.proofs.OneCause.{cause_answered}
use Rattle.granit_declared.proofs.CauseSaid.{cause_declared, declared_cause}
use Rattle.granit_declared.specs.DeclaredCause.{DeclaredCause}
use Rattle.granit_error.specs.FaultKind.{fault_number}
use Rattle.granit_error.specs.OptionsData.{OptionsData}
use Rattle.granit_lexemes.specs.Outcome.{Fault}
use Rattle.granit_lexemes.specs.PlainEvent.{PlainEvent}
use Rattle.granit_machine.specs.Machine.{run}
use Rattle.granit_cause_rows.specs.CauseRows.{NoCause, NoCauseOf}

-- a text that is refused has that cause
pub caused : {o : OptionsData} {x : List ℕ} {f : Fault} → run o x ≡ Err f → DeclaredCause o x f
caused {o} {x} {f} r = cause_declared o x f (any_fault_caused o x f r)

-- a cause is what its text is refused with
refused : (o : OptionsData) (x : List ℕ) (f : Fault) → DeclaredCause o x f → run o x ≡ Err f
refused o x f c = cause_answered o x f (declared_cause o x f c)

-- a text that is answered has none
pub uncaused : {o : OptionsData} {x : List ℕ} → is_ok (run o x) ≡ true → NoCause o x
uncaused {o} {x} answered f c = both_ways (is_ok (run o x)) (ap is_ok (refused o x f c)) answered

-- the number of a refusal's kind, and 0 of an answer
abbrev pub refused_number : Result (List PlainEvent) Fault → ℕ
refused_number (Ok es) = 0
refused_number (Err f) = fault_number f.kind

-- a text that is refused with another kind has none of this one
pub caused_otherwise : {o : OptionsData} {x : List ℕ} {number : ℕ} → (refused_number (run o x) == number) ≡ false →
    NoCauseOf o x number
caused_otherwise {o} {x} {number} other f c is =
    (both_ways (number == number)
    (subst (λ n. (n == number) ≡ false) (ap refused_number (refused o x f c) ∙ is) other)
    (eq-eqb number number refl))
