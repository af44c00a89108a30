-- Recovery at a document boundary: a document is dropped, or what is left of the open one, and whether another is there
-- is told.
use Rattle.std.specs.Prelude.{ℕ, suc, ◌+◌, Bool, true, false, if◌then◌else◌, Option, Some, None, Result, Ok, Err}
use Rattle.granit_error.specs.OptionsData.{OptionsData}
use Rattle.granit_lexemes.specs.Outcome.{Fault}
use Rattle.granit_lexemes.specs.PlainEvent.{EventKind, DocumentStart, Comment}
use Rattle.granit_restart.specs.Calls.{Calls, GivenByCall, next_call}
use Rattle.granit_restart.specs.Following.{document_follows}
use Rattle.granit_restart.specs.Skipping.{Stops, skipped_document, skipped_fault}
use Rattle.granit_steps.specs.Steps.{StepState}

-- reading goes on from here
abbrev pub resumed : StepState → Calls
resumed s = record { steps = s; between = false; over = false; fault = None; refusal = None }

-- by where the parser stands: behind a fault, directly behind a document, or else
abbrev pub skipped_by : OptionsData → Stops → Option Fault → (between : Bool) → StepState → StepState
skipped_by o stops (Some f) between s = skipped_fault o stops f s
skipped_by o stops None true s = s
skipped_by o stops None false s = skipped_document o stops s

abbrev pub skipped : OptionsData → Stops → Calls → Calls
skipped o stops c = resumed (skipped_by o stops c.fault c.between c.steps)

-- what was looked at and not taken: the start of a document counts as given, and so does a fault
abbrev pub starts_by : EventKind → Calls → Calls
starts_by (DocumentStart explicit version) c = record c { between = false }
starts_by kind c = c

abbrev pub comment_count : EventKind → ℕ
comment_count (Comment text placement) = 1
comment_count kind = 0

abbrev pub looked_by : Calls → GivenByCall × Calls → Calls
looked_by c (Some (Ok e), after) = starts_by e.kind c
looked_by c (Some (Err f), after) = after
looked_by c (None, after) = c

-- a comment that was looked at is not counted
abbrev pub comment_looked_at : GivenByCall → ℕ
comment_looked_at (Some (Ok e)) = comment_count e.kind
comment_looked_at given = 0

abbrev pub recovery_answer : Result Bool Fault → Calls → Result Bool Fault × Calls
recovery_answer (Ok true) c = (Ok true, c)
recovery_answer (Ok false) c = (Ok false, record c { between = true })
recovery_answer (Err f) c = (Err f, record c { refusal = Some f })

abbrev pub recovered : OptionsData → ℕ → Calls → Result Bool Fault × Calls
recovered o extra c = recovery_answer (document_follows o (o.max_buffered_comment_events + extra) c.steps) c

-- how many comments that were looked at are kept: none behind a fault, or where something was dropped
abbrev pub extra_of : Calls → GivenByCall → ℕ
extra_of c given = if c.between then comment_looked_at given else 0

abbrev pub recover_with : OptionsData → Stops → (looked : Bool) → Option Fault → Calls → Result Bool Fault × Calls
recover_with o stops looked (Some f) c = (Err f, c)
recover_with o stops true None c =
    let d = looked_by c (next_call o c) in
    if d.over then (Ok false, d) else recovered o (extra_of d (next_call o c).0) (skipped o stops d)
recover_with o stops false None c = if c.over then (Ok false, c) else recovered o 0 (skipped o stops c)

-- drops a document, or what is left of the open one, and tells whether another is there; where reads that were refused
-- stopped, and whether the next event was looked at, is told
unfoldable pub recover : OptionsData → Stops → (looked : Bool) → Calls → Result Bool Fault × Calls
recover o stops looked c = recover_with o stops looked c.refusal c

-- the number that the next anchor gets
abbrev pub anchor_offset : Calls → ℕ
anchor_offset c = suc c.steps.parser.count
