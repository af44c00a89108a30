-- Calls and recoveries count lines from 1.
use Rattle.std.proofs.Common.{◌≡◌, Bool, true, false, List, [], ◌∷◌, Option, Some, None, Result, Ok, Err}
use Rattle.std.proofs.Common.{refl, sym, subst}
use Rattle.std.specs.Prelude.{if◌then◌else◌, is_some}
use Rattle.granit_alone.proofs.LineReads.{read_counted}
use Rattle.granit_alone.specs.Lines.{ComesOnward, CountsAt, LinesCount}
use Rattle.granit_error.specs.OptionsData.{OptionsData}
use Rattle.granit_lexemes.specs.Here.{Here}
use Rattle.granit_lexemes.specs.Lexeme as lexemes
use Rattle.granit_lexemes.specs.Lexeme.{Lexeme, LexemeKind}
use Rattle.granit_lexemes.specs.Moves.{steps}
use Rattle.granit_lexemes.specs.Onward.{begun, Onward, over_mark, stepped, there}
use Rattle.granit_lexemes.specs.Outcome.{Fault, ◌>>=◌}
use Rattle.granit_lexemes.specs.PlainEvent.{PlainEvent}
use Rattle.granit_machine.specs.Frames.{ParserState}
use Rattle.granit_machine.specs.Lexing.{FlaggedItem}
use Rattle.granit_machine.specs.Parser.{feed}
use Rattle.granit_machine.specs.Reader.{behind_read, lex_turn, read}
use Rattle.granit_machine.specs.ReaderState.{Read}
use Rattle.granit_calls.specs.BoundaryPlace.{boundary_place}
use Rattle.granit_recovery.specs.Streams.{EarlyOf, not_early, turn_early}
use Rattle.granit_restart.proofs.AheadLaws.{one, OneTurn}
use Rattle.granit_restart.proofs.BoundaryLaws.{finds_next}
use Rattle.granit_restart.specs.Boundary.{AtStart, AtTextEnd, Boundary, next_boundary, over_dropped, PastEnd}
use Rattle.granit_restart.specs.Calls.{Calls, next_call}
use Rattle.granit_restart.specs.NextBoundary.{NextBoundary, next_behind, next_here, BoundaryStands, stands_end}
use Rattle.granit_restart.specs.NextBoundary.{stands_start, stands_text_end}
use Rattle.granit_restart.specs.Recovery.{recover}
use Rattle.granit_restart.specs.Restart.{at_boundary, at_found, at_lexeme, behind_fault, behind_fault_at, cursor_at}
use Rattle.granit_restart.specs.Restart.{read_boundary}
use Rattle.granit_restart.specs.Skipping.{Ended, Failed, skip_by_turns, SkipEnd, Stops, with_pending}
use Rattle.granit_behind.proofs.BoundaryTells.{dropped_counted, IsCounted, mark_counted, step_counted, steps_counted}
use Rattle.granit_behind.proofs.BoundaryTells as places
use Rattle.granit_led.proofs.KeptLaws.{next_kept, recover_kept, skip_kept, SkipKept}
use Rattle.granit_led.specs.Stopping.{DropFits, EndFits, FaultFits, FitBehind, looked_at, StopsFit}
use Rattle.granit_steps.specs.Steps.{front_turn, line_behind, may_go, read_more, read_unless, step_turn, StepState}
use Rattle.granit_steps.specs.Steps.{Turn}
use Rattle.granit_steps.specs.Steps.{turn_by, with_fed, with_read}

abbrev IsLine : StepState → Type 0
IsLine s = IsCounted s.reading.reader.here

pub onward_counts : (start at : Here) → Onward start at → IsCounted start → IsCounted at
onward_counts start at there q = q
onward_counts start at (stepped {at = h} o) q = step_counted h (onward_counts start h o q)
onward_counts start at (over_mark {at = h} o bom column) q = mark_counted h (onward_counts start h o q)
onward_counts start at (begun {at = h} o) q = onward_counts start h o q

-- ---- a turn

abbrev TurnLine : Turn → Type 0
TurnLine (Ok x) = IsLine x.1
TurnLine (Err f) = Unit {0}

fed_line : (s : StepState) (is : List FlaggedItem) (r : Result (List PlainEvent × ParserState) Fault) → IsLine s
    → TurnLine (r >>= λ x. Ok (Some [], with_fed s is x))
fed_line s is (Ok x) q = q
fed_line s is (Err f) q = tt

module _ (o : OptionsData) where
  read_line : (s : StepState) (r : Read) → read o s.reading.reader ≡ r → IsLine s
      → TurnLine (behind_read r s.reading.reader >>= λ x. Ok (Some [], with_read o s x))
  read_line s (Ok x) is q = read_counted o s.reading.reader x.1 x.0 is q
  read_line s (Err f) is q = q

  lexed_line : (b : Bool) (s : StepState) → IsLine s
      → TurnLine ((if b then Ok (None, s.reading) else behind_read (read o s.reading.reader) s.reading.reader)
      >>= λ x. Ok (Some [], with_read o s x))
  lexed_line true s q = q
  lexed_line false s q = read_line s (read o s.reading.reader) refl q

  unless_line : (f : Option Fault) (s : StepState) → IsLine s → TurnLine (read_unless o f s)
  unfolding lex_turn
  unless_line (Some f) s q = tt
  unless_line None s q = lexed_line s.reading.ended s q

  more_line : (b : Bool) (s : StepState) → IsLine s → TurnLine (read_more o b s)
  more_line true s q = q
  more_line false s q = unless_line s.reading.fault s q

  front_line : (b : Bool) (i : FlaggedItem) (is : List FlaggedItem) (s : StepState) → IsLine s
      → TurnLine (front_turn b o i is s)
  front_line true i is s q = fed_line s is (feed o i (line_behind s.reading is) s.parser) q
  front_line false i is s q = more_line s.reading.ended s q

  by_line : (es : List PlainEvent) (items : List FlaggedItem) (s : StepState) → IsLine s
      → TurnLine (turn_by o es items s)
  by_line (e ∷ es) items s q = q
  by_line [] [] s q = more_line s.reading.ended s q
  by_line [] (i ∷ is) s q = front_line (may_go s.reading i is) i is s q

  turn_line : (s t : StepState) (given : Option (List PlainEvent)) → step_turn o s ≡ Ok (given, t) → IsLine s
      → IsLine t
  unfolding step_turn
  turn_line s t given e q = subst TurnLine e (by_line s.pending s.queue s q)

  pub early_counts : (s t : StepState) → EarlyOf o s t → IsLine s → IsLine t
  early_counts s t not_early q = q
  early_counts s t (turn_early {t = u} {given = given} early e) q =
      let x : OneTurn o u t = one o u t given e in
      subst IsLine (sym x.is)
      (turn_line (with_pending [] u) x.behind (Some x.given) x.turn (early_counts s u early q))

-- ---- a restart

stands_counts : (h : Here) (b : Boundary) → BoundaryStands h b → IsCounted h → IsCounted (boundary_place b)
stands_counts h b (stands_start behind column text separated) q = q
stands_counts h b (stands_end line behind column text separated finishes ends) q =
    steps_counted _ (steps 3 h) (steps_counted 3 h q)
stands_counts h b (stands_text_end text) q = q

next_counts : (h : Here) (b : Boundary) → NextBoundary h b → IsCounted h → IsCounted (boundary_place b)
next_counts h b (next_here p) q = stands_counts h b p q
next_counts h b (next_behind none more) q = next_counts (over_dropped h) b more (dropped_counted h q)

boundary_line : (s : StepState) (b : Boundary) → IsCounted (boundary_place b) → IsLine (at_boundary s b).1
boundary_line s (AtStart g) q = steps_counted 3 g q
boundary_line s (PastEnd g) q = q
boundary_line s (AtTextEnd g) q = q

lexeme_line : (h : Here) (s : StepState) (kind : LexemeKind) (l : Lexeme) → IsCounted h
    → IsLine (at_lexeme h s kind l).1
lexeme_line h s lexemes.DocumentStart l q = q
lexeme_line h s lexemes.DocumentEnd l q = q
lexeme_line h s kind l q = q

found_line : (h : Here) (s : StepState) (r : Option Lexeme) → IsCounted h → IsLine (at_found h s r).1
found_line h s None q = boundary_line s (next_boundary h) (next_counts h (next_boundary h) (finds_next h) q)
found_line h s (Some l) q = lexeme_line h s l.kind l q

restart_line : (stop : Here) (s : StepState) → CountsAt stop s → IsLine s → IsLine (behind_fault stop s).1
unfolding behind_fault_at
restart_line stop s fits q =
    let h = cursor_at stop s.reading in found_line h s (read_boundary h s.queue) fits

-- ---- calls

pub call_counts : (o : OptionsData) (c : Calls) → LinesCount c → LinesCount (next_call o c).1
call_counts o c q = next_kept o IsLine CountsAt (turn_line o) (λ s es l. l) restart_line c q

pub recovery_counts : (o : OptionsData) (stops : Stops) (looked : Bool) (c : Calls)
    → FitBehind CountsAt o stops (looked_at o looked c) → LinesCount c → LinesCount (recover o stops looked c).1
recovery_counts o stops looked c fits q =
    recover_kept o IsLine CountsAt (turn_line o) (λ s es l. l) restart_line stops looked c fits q

-- ---- where refused reads stopped

-- wherever reading came to behind a state
pub on_counts : (stop : Here) (s : StepState) → ComesOnward stop s → IsLine s → CountsAt stop s
on_counts stop s on q =
    places.stepped (is_some s.reading.fault) stop s.reading.reader.here
    (onward_counts s.reading.reader.here stop on q) q

end_counts : (o : OptionsData) (stop : Here) (e : SkipEnd) → EndFits ComesOnward stop e
    → SkipKept o IsLine CountsAt (turn_line o) (λ s es l. l) restart_line e → EndFits CountsAt stop e
end_counts o stop (Ended s) on q = tt
end_counts o stop (Failed f s) on q = on_counts stop s on q

pub fault_counts : (o : OptionsData) (stops : Stops) (s : StepState) → FaultFits ComesOnward o stops s → IsLine s
    → FaultFits CountsAt o stops s
fault_counts o stops s on q =
    let first = on_counts stops.first s on.0 q in
    let t = (behind_fault stops.first s).1 in (
      first,
      end_counts o stops.second (skip_by_turns o t) on.1
          (skip_kept o IsLine CountsAt (turn_line o) (λ s es l. l) restart_line t
          (restart_line stops.first s first q)),
    )

-- where a document is dropped up to a fault
pub skip_counts : (o : OptionsData) (s n : StepState) (f : Fault) → skip_by_turns o s ≡ Failed f n → IsLine s → IsLine n
skip_counts o s n f is q =
    subst (SkipKept o IsLine CountsAt (turn_line o) (λ s es l. l) restart_line) is
    (skip_kept o IsLine CountsAt (turn_line o) (λ s es l. l) restart_line s q)

drop_counts : (o : OptionsData) (stops : Stops) (e : SkipEnd) → DropFits ComesOnward o stops e
    → SkipKept o IsLine CountsAt (turn_line o) (λ s es l. l) restart_line e → DropFits CountsAt o stops e
drop_counts o stops (Ended s) on q = tt
drop_counts o stops (Failed f s) on q = fault_counts o stops s on q

stops_count : (o : OptionsData) (stops : Stops) (f : Option Fault) (s : StepState) → StopsFit ComesOnward o stops f s
    → IsLine s → StopsFit CountsAt o stops f s
stops_count o stops (Some f) s on q = fault_counts o stops s on q
stops_count o stops None s on q =
    drop_counts o stops (skip_by_turns o s) on
    (skip_kept o IsLine CountsAt (turn_line o) (λ s es l. l) restart_line s q)

pub behind_counts : (o : OptionsData) (stops : Stops) (c : Calls) → FitBehind ComesOnward o stops c → LinesCount c
    → FitBehind CountsAt o stops c
behind_counts o stops c on q = λ going. stops_count o stops c.fault c.steps (on going) q
