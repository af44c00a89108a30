-- Behind a fault the answer goes by the boundary, and by what stands behind it in the text.
use Rattle.std.proofs.Common.{◌≡◌, ℕ, Bool, false, inl, inr, Option, Some, None, Ok, refl, ap, subst}
use Rattle.granit_error.specs.OptionsData.{OptionsData}
use Rattle.granit_lexemes.specs.Here.{Here}
use Rattle.granit_lexemes.specs.Lexeme as lexemes
use Rattle.granit_lexemes.specs.Lexeme.{LexemeKind, Lexeme}
use Rattle.granit_calls.proofs.FollowLaws.{only_none, all_none}
use Rattle.granit_restart.specs.Boundary.{Boundary, AtStart, PastEnd, AtTextEnd, next_boundary}
use Rattle.granit_calls.specs.Ending.{OnlyGap, NoneFollows}
use Rattle.granit_restart.specs.Following.{document_follows}
use Rattle.granit_restart.specs.Restart.{at_boundary, at_lexeme, at_found, behind_fault, behind_fault_at}
use Rattle.granit_restart.specs.Restart.{cursor_at, read_boundary}
use Rattle.granit_steps.specs.Steps.{StepState}

-- where no `---` is the boundary, what is left of the text alone tells
record TextTells (o : OptionsData) (t : StepState) : Type 0 where
  ends : NoneFollows o t → OnlyGap o t.reading.reader
  none : OnlyGap o t.reading.reader → NoneFollows o t

abbrev Tells : OptionsData → Bool × StepState → Type 0
Tells o x = x.0 ≡ false → TextTells o x.1

boundary_tells : (o : OptionsData) (s : StepState) (b : Boundary) → Tells o (at_boundary s b)
boundary_tells o s (AtStart h) e = absurd (cc)
boundary_tells o s (PastEnd h) e = record { ends = λ n. gap_of n; none = λ g. (refl, (refl, inr g)) }
  where
    gap_of : NoneFollows o (at_boundary s (PastEnd h)).1 → OnlyGap o (at_boundary s (PastEnd h)).1.reading.reader
    gap_of (outside, (fault, inl ended)) = absurd (cc)
    gap_of (outside, (fault, inr g)) = g
boundary_tells o s (AtTextEnd h) e = record { ends = λ n. gap_of n; none = λ g. (refl, (refl, inr g)) }
  where
    gap_of : NoneFollows o (at_boundary s (AtTextEnd h)).1 → OnlyGap o (at_boundary s (AtTextEnd h)).1.reading.reader
    gap_of (outside, (fault, inl ended)) = absurd (cc)
    gap_of (outside, (fault, inr g)) = g

lexeme_tells : (o : OptionsData) (h : Here) (s : StepState) (kind : LexemeKind) (l : Lexeme)
    → Tells o (at_lexeme h s kind l)
lexeme_tells o h s lexemes.DocumentStart l e = absurd (cc)
lexeme_tells o h s lexemes.DocumentEnd l e = boundary_tells o s (PastEnd h) refl
lexeme_tells o h s kind l e = boundary_tells o s (AtTextEnd h) refl

found_tells : (o : OptionsData) (h : Here) (s : StepState) (r : Option Lexeme) → Tells o (at_found h s r)
found_tells o h s (Some l) e = lexeme_tells o h s l.kind l e
found_tells o h s None e = boundary_tells o s (next_boundary h) e

fault_tells : (o : OptionsData) (stop : Here) (s : StepState) → Tells o (behind_fault stop s)
unfolding behind_fault_at
fault_tells o stop s e =
    let h = cursor_at stop s.reading in found_tells o h s (read_boundary h s.queue) e

tells_of : (o : OptionsData) (stop : Here) (s t : StepState) → behind_fault stop s ≡ (false, t) → TextTells o t
tells_of o stop s t e =
    subst (TextTells o) (ap (λ (x : Bool × StepState). x.1) e)
    (fault_tells o stop s (ap (λ (x : Bool × StepState). x.0) e))

-- false is answered only where nothing but a gap stands there
pub fault_ends : (o : OptionsData) (room : ℕ) (stop : Here) (s t : StepState) → behind_fault stop s ≡ (false, t)
    → document_follows o room t ≡ Ok false → OnlyGap o t.reading.reader
fault_ends o room stop s t e f = (tells_of o stop s t e).ends (only_none o room t f)

-- and where that stands there, nothing else is
pub fault_none : (o : OptionsData) (room : ℕ) (stop : Here) (s t : StepState) (follows : Bool)
    → behind_fault stop s ≡ (false, t) → OnlyGap o t.reading.reader → document_follows o room t ≡ Ok follows
    → follows ≡ false
fault_none o room stop s t follows e g f = all_none o room t follows ((tells_of o stop s t e).none g) f
