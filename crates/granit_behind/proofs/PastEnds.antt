-- Behind a `...` and its line the text that is left is read as from its own start.
use Rattle.std.proofs.Common.{◌≡◌, suc, true, List, [], Option, None, refl}
use Rattle.granit_base.specs.Classes.{is_break}
use Rattle.granit_error.specs.OptionsData.{OptionsData}
use Rattle.granit_lexemes.specs.Here.{Here, next_char, mark_of}
use Rattle.granit_lexemes.specs.Outcome.{Fault}
use Rattle.granit_lexemes.specs.PlainEvent.{PlainEvent}
use Rattle.granit_restart.specs.Boundary.{PastEnd}
use Rattle.granit_restart.specs.Restart.{at_boundary, dropped}
use Rattle.granit_steps.specs.Steps.{StepState}
use Rattle.granit_steps.specs.Told.{GivesEvents}
use Rattle.granit_behind.proofs.AloneStates.{seen_first, afresh, own_state}
use Rattle.granit_behind.proofs.LineGaps.{Seen, laid_at, read_alike}
use Rattle.granit_behind.proofs.Outer.{both_fresh}
use Rattle.granit_behind.proofs.OuterSteps.{alike, both_read, gives_alike}

abbrev seen_of : Here → Seen
seen_of h = record { column = h.place.column; begins_line = h.begins_line; tab = h.tab }

pub past_end_gives : (o : OptionsData) (s : StepState) (h : Here) → is_break (next_char h) ≡ true
    → (es : List PlainEvent) (f : Option Fault)
    → GivesEvents o (own_state (suc s.reading.reader.laid.number) h s.parser) es f
    → GivesEvents o (at_boundary s (PastEnd h)).1 es f
past_end_gives o s h breaks es f gives =
    let number = suc s.reading.reader.laid.number in
    let read = read_alike o number h.unread.text h.unread.offset h.unread.lends h.place.index h.place.line seen_first
    (seen_of h) breaks in
    gives_alike o (own_state number h s.parser) (at_boundary s (PastEnd h)).1 es f
    (alike (both_read (afresh h) h (laid_at number true) None refl read)
    (both_fresh (mark_of (afresh h)) s.parser.last_end (dropped s.parser)) [] []) gives
