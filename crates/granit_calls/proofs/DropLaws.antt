-- What recovery drops by where the parser stands.
use Rattle.std.proofs.Common.{◌≡◌, Bool, true, false, ◌||◌, [], Option, Some, None, is_some, Result, Ok, Err, refl}
use Rattle.std.proofs.Common.{ap, ◌∙◌}
use Rattle.std.specs.Prelude.{if◌then◌else◌}
use Rattle.granit_error.specs.OptionsData.{OptionsData}
use Rattle.granit_lexemes.specs.Here.{Here}
use Rattle.granit_lexemes.specs.Lexeme as lexemes
use Rattle.granit_lexemes.specs.Lexeme.{LexemeKind, Lexeme}
use Rattle.granit_lexemes.specs.Outcome.{Fault}
use Rattle.granit_restart.specs.Boundary.{Boundary, AtStart, PastEnd, AtTextEnd, next_boundary}
use Rattle.granit_restart.specs.Calls.{Calls, GivenByCall, given_by, next_call}
use Rattle.granit_restart.specs.Recovery.{skipped_by, skipped, looked_by, recovery_answer, recovered, extra_of}
use Rattle.granit_restart.specs.Recovery.{recover_with, recover}
use Rattle.granit_restart.specs.Restart.{dropped, at_boundary, at_lexeme, at_found, behind_fault, behind_fault_at}
use Rattle.granit_restart.specs.Restart.{cursor_at, read_boundary}
use Rattle.granit_restart.specs.Skipping.{Stops}
use Rattle.granit_steps.specs.Steps.{StepState, next_event}

-- ---- behind a fault

abbrev Dropped : StepState → StepState → Type 0
Dropped s t = (t.parser ≡ dropped s.parser) × (t.pending ≡ [])

boundary_drops : (s : StepState) (b : Boundary) → Dropped s (at_boundary s b).1
boundary_drops s (AtStart h) = (refl, refl)
boundary_drops s (PastEnd h) = (refl, refl)
boundary_drops s (AtTextEnd h) = (refl, refl)

lexeme_drops : (h : Here) (s : StepState) (kind : LexemeKind) (l : Lexeme) → Dropped s (at_lexeme h s kind l).1
lexeme_drops h s lexemes.DocumentStart l = (refl, refl)
lexeme_drops h s lexemes.DocumentEnd l = (refl, refl)
lexeme_drops h s kind l = (refl, refl)

found_drops : (h : Here) (s : StepState) (r : Option Lexeme) → Dropped s (at_found h s r).1
found_drops h s (Some l) = lexeme_drops h s l.kind l
found_drops h s None = boundary_drops s (next_boundary h)

-- frames, anchors and tags are dropped, and so is what wasn't given
pub fault_drops : (stop : Here) (s : StepState) → Dropped s (behind_fault stop s).1
unfolding behind_fault_at
fault_drops stop s =
    let h = cursor_at stop s.reading in found_drops h s (read_boundary h s.queue)

-- ---- behind a document, and behind the end

answered_steps : (r : Result Bool Fault) (c : Calls) → (recovery_answer r c).1.steps ≡ c.steps
answered_steps (Ok true) c = refl
answered_steps (Ok false) c = refl
answered_steps (Err f) c = refl

-- directly behind a document nothing is dropped
pub between_drops : (o : OptionsData) (stops : Stops) (c : Calls) → c.refusal ≡ None → c.fault ≡ None
    → c.over ≡ false → c.between ≡ true → (recover o stops false c).1.steps ≡ c.steps
unfolding recover
between_drops o stops c refusal fault over between =
    ap (λ (r : Option Fault). (recover_with o stops false r c).1.steps) refusal
    ∙ ap (λ b. (if b then (Ok false, c) else recovered o 0 (skipped o stops c)).1.steps) over
    ∙ answered_steps _ (skipped o stops c)
    ∙ ap (λ (f : Option Fault). skipped_by o stops f c.between c.steps) fault
    ∙ ap (λ b. skipped_by o stops None b c.steps) between

over_none : (o : OptionsData) (c : Calls) → c.over ≡ true → next_call o c ≡ (None, c)
unfolding next_call
over_none o c e =
    ap (λ b. if (b || is_some c.fault) || is_some c.refusal then (None, c) else given_by o c (next_event o c.steps)) e

over_with : (o : OptionsData) (stops : Stops) (looked : Bool) (c : Calls) → c.over ≡ true
    → recover_with o stops looked None c ≡ (Ok false, c)
over_with o stops true c e =
    ap (λ (x : GivenByCall × Calls). if (looked_by c x).over then (Ok false, looked_by c x)
    else recovered o (extra_of (looked_by c x) x.0) (skipped o stops (looked_by c x))) (over_none o c e)
    ∙ ap (λ b. if b then (Ok false, c) else recovered o (extra_of c None) (skipped o stops c)) e
over_with o stops false c e = ap (λ b. if b then (Ok false, c) else recovered o 0 (skipped o stops c)) e

-- behind the end of the stream nothing changes
pub end_stays : (o : OptionsData) (stops : Stops) (looked : Bool) (c : Calls) → c.refusal ≡ None → c.over ≡ true
    → recover o stops looked c ≡ (Ok false, c)
unfolding recover
end_stays o stops looked c refusal over =
    ap (λ (r : Option Fault). recover_with o stops looked r c) refusal ∙ over_with o stops looked c over
