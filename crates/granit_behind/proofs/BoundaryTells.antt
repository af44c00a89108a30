-- Behind the next boundary all is told that the text tells that is left.
use Rattle.std.proofs.Common.{◌≡◌, ℕ, zero, suc, ◌+◌, ◌≤◌, ◌==◌, ◌&&◌, Bool, true, false, List, [], ◌∷◌, length}
use Rattle.std.proofs.Common.{drop}
use Rattle.std.proofs.Common.{refl, sym, ap, ◌∙◌, arith, subst}
use Rattle.std.proofs.Math.Seq.{drop-append_seam}
use Rattle.std.specs.Prelude.{if◌then◌else◌}
use Rattle.granit_base.specs.Classes.{is_bom, is_break}
use Rattle.granit_base.specs.Place.{Place, ends_line, first}
use Rattle.granit_error.specs.OptionsData.{OptionsData}
use Rattle.granit_lexemes.specs.Here.{Here, next_char, step}
use Rattle.granit_lexemes.specs.Moves.{past_prefix_mark, steps}
use Rattle.granit_restart.proofs.BoundaryLaws.{finds_next}
use Rattle.granit_restart.specs.Boundary.{AtStart, Boundary, PastEnd, over_dropped, next_boundary}
use Rattle.granit_restart.specs.NextBoundary.{IsLineEnd, BoundaryStands, stands_start, stands_end, stands_text_end}
use Rattle.granit_restart.specs.NextBoundary.{NextBoundary, next_here, next_behind}
use Rattle.granit_restart.specs.Restart.{at_boundary, start_found}
use Rattle.granit_scalars.proofs.Comments.{steps_text}
use Rattle.granit_steps.specs.Steps.{StepState}
use Rattle.granit_behind.proofs.AtStarts.{waits_gives}
use Rattle.granit_behind.proofs.PastEnds.{past_end_gives}
use Rattle.granit_behind.proofs.TextEnds.{end_tells}
use Rattle.granit_behind.proofs.TextTells.{text_tells}
use Rattle.granit_led.specs.Alone.{StaysDeclared, TellsBehind, TellsLeft}

-- ---- lines are counted from 1

abbrev pub IsCounted : Here → Type 0
IsCounted h = 1 ≤ h.place.line

abbrev IsLine : Place → Type 0
IsLine p = 1 ≤ p.line

behind_line : (b : Bool) (p : Place) → IsLine p
    → IsLine (if b then record { index = p.index + 1; line = p.line + 1; column = 0 }
    else record { index = p.index + 1; line = p.line; column = p.column + 1 })
behind_line true p some = omega (arith, some)
behind_line false p some = some

pub stepped : (b : Bool) (h g : Here) → IsCounted h → IsCounted g → IsCounted (if b then h else g)
stepped true h g p q = p
stepped false h g p q = q

pub step_counted : (h : Here) → IsCounted h → IsCounted (step h)
unfolding step
step_counted h some = stepped (length h.unread.text == 0) h _ some (behind_line (ends_line h.unread.text) h.place some)

pub steps_counted : (n : ℕ) (h : Here) → IsCounted h → IsCounted (steps n h)
unfolding steps
steps_counted zero h some = some
steps_counted (suc n) h some = steps_counted n (step h) (step_counted h some)

pub mark_counted : (h : Here) → IsCounted h → IsCounted (past_prefix_mark h)
unfolding past_prefix_mark
mark_counted h some = some

pub dropped_counted : (h : Here) → IsCounted h → IsCounted (over_dropped h)
dropped_counted h some = stepped (h.place.column == 0 && is_bom (next_char h)) (past_prefix_mark h) (step h)
    (mark_counted h some) (step_counted h some)

-- ---- a boundary

module _ (o : OptionsData) (s : StepState) (stays : StaysDeclared o s.parser) where
  abbrev number : ℕ
  number = s.reading.reader.laid.number

  abbrev Tells : Boundary → Type 0
  Tells b = TellsBehind o number s.parser b (at_boundary s b).1

  pub left_tells : (h : Here) (behind : List ℕ) → IsCounted h → h.unread.text ≡ behind → IsLineEnd behind
      → Tells (PastEnd h)
  left_tells h [] some text ends =
      subst (λ (text : List ℕ). TellsLeft o text (suc number) h s.parser (at_boundary s (PastEnd h)).1) (sym text)
      (end_tells o s.parser (suc number) true h text)
  left_tells h (c ∷ cs) some text ends =
      subst (λ (text : List ℕ). TellsLeft o text (suc number) h s.parser (at_boundary s (PastEnd h)).1) (sym text)
      (text_tells o (suc number) h s.parser (at_boundary s (PastEnd h)).1 some
      (past_end_gives o s h (ap (λ (text : List ℕ). is_break (first text)) text ∙ ends)) stays)

  stands_tells : (h : Here) (b : Boundary) → IsCounted h → BoundaryStands h b → Tells b
  stands_tells h b some (stands_start behind column text separated) =
      text_tells o number h s.parser (at_boundary s (AtStart h)).1 some
      (λ es f gives. waits_gives o s h (steps 3 h) (start_found h s) behind es f column text separated refl refl refl
      refl refl gives) stays
  stands_tells h b some (stands_end line behind column text separated finishes ends) =
      let at = steps (length line) (steps 3 h) in
      left_tells at behind (steps_counted (length line) (steps 3 h) (steps_counted 3 h some))
      (steps_text (length line) (steps 3 h) ∙ ap (drop (length line)) (steps_text 3 h ∙ ap (drop 3) text)
      ∙ drop-append_seam line behind) ends
  stands_tells h b some (stands_text_end text) = end_tells o s.parser (suc number) false h text

  next_tells : (h : Here) (b : Boundary) → IsCounted h → NextBoundary h b → Tells b
  next_tells h b some (next_here stands) = stands_tells h b some stands
  next_tells h b some (next_behind other more) = next_tells (over_dropped h) b (dropped_counted h some) more

  pub boundary_tells : (h : Here) → IsCounted h → Tells (next_boundary h)
  boundary_tells h some = next_tells h (next_boundary h) some (finds_next h)
