-- What contracts see of a cursor, and what a reader gives for whatever is known to be left.
use Rattle.std.specs.Prelude.{◌≡◌, ◌⊎◌, ℕ, ◌+◌, ◌<◌, ◌≤◌, Bool, true, false, ◌&&◌, if◌then◌else◌, List, [], ◌++◌}
use Rattle.std.specs.Prelude.{take, Option, None, Some, is_some, Result, Ok, Err, IfOk, IfErr}
use Rattle.std.specs.Borrow.{Bor}
use Rattle.std.specs.Str.{chars}
use Rattle.granit_base.specs.Place.{Place, Mark, Unread}
use Rattle.granit_base.specs.Written.{Written}
use Rattle.granit_error.specs.FaultKind.{FaultKind, InputSlicingUnavailable, NoMemory}
use Rattle.granit_error.specs.Refused.{Refused}
use Rattle.granit_runs.specs.Chunks.{TakesFront}
use Rattle.granit_input.specs.Origin.{Origin, Goes, LentBetween}
use Rattle.granit_runs.specs.Runs.{run_length}
use Rattle.granit_lexemes.specs.Basics.{as_spelled}
use Rattle.granit_lexemes.specs.Here.{Here, mark_of, mid_line}
use Rattle.granit_lexemes.specs.Moves.{steps}
use Rattle.granit_lexemes.specs.Onward.{Onward}
use Rattle.granit_lexemes.specs.Outcome.{Fault, Fails, ◌>>=◌}

-- an input, the place up to which it was read, and what stands before that on its line
pub record Reading (I : Type 0) : Type 0 where
  pub input : I
  pub place : Place
  pub begins_line : Bool
  pub tab : Option Mark
  -- whether memory ran out in the midst of a run, so that it isn't known how much of it was taken
  pub lost : Bool

-- a cursor is known to stand there
abbrev pub Stands : {I : Type 0} → (I → Unread → Type 0) → Reading I → Here → Type 0
Stands unread r h = unread r.input h.unread × (h.place ≡ r.place) × (h.begins_line ≡ r.begins_line) × (h.tab ≡ r.tab)

-- a cursor is known to stand at a place onward from there, or it is lost
unfoldable pub CameOn : {I : Type 0} → (I → Unread → Type 0) → Here → Reading I → Type 0
CameOn unread start r = ((at : Here) × Onward start at × Stands unread r at) ⊎ (r.lost ≡ true)

-- where it came on before, it came on behind a call, whatever the call answers
abbrev pub GoesOnward : {I : Type 0} → (I → Unread → Type 0) → Reading I → Reading I → Type 0
GoesOnward unread old new = (start : Here) → CameOn unread start old → CameOn unread start new

-- no more is left than before, where it comes from is as before, and the cursor goes on if it goes anywhere
abbrev pub Moves : {I : Type 0} → (I → Unread → Type 0) → (I → ℕ) → (I → Origin) → Reading I → Reading I → Type 0
Moves unread left origin old new =
    (left new.input ≤ left old.input) × Goes (origin old.input) (origin new.input) × GoesOnward unread old new

-- wherever a cursor is known to stand, this holds of what is there and of where it then stands
abbrev pub Wherever : {I : Type 0} → (I → Unread → Type 0) → Reading I → Reading I
    → (Here → (Here → Type 0) → Type 0) → Type 0
Wherever unread old new Does = (h : Here) → Stands unread old h → Does h (Stands unread new)

-- wherever a cursor is known to stand, it then stands where that leads
abbrev pub GoesTo : {I : Type 0} → (I → Unread → Type 0) → Reading I → Reading I → (Here → Here) → Type 0
GoesTo unread old new move = Wherever unread old new (λ h Lands. Lands (move h))

-- ---- what a reader gives

-- What was returned, seen by a view, is what the definition gives, and the cursor is known to stand where that ends;
-- a refusal is the fault of the definition, unless memory ran out.
abbrev pub GivesTo : {X Y S : Type 0} → (X → Y) → Result X Refused → (S → Type 0) → Result (Y × S) Fault → Type 0
GivesTo {S = S} view (Ok x) Lands given = (after : S) × Lands after × (given ≡ Ok (view x, after))
GivesTo view (Err e) Lands given = Fails e given

-- a definition's value as the code has it
abbrev pub coded : {X Y S : Type 0} → (Y → X) → Result (Y × S) Fault → Result (X × S) Fault
coded code given = given >>= λ y. Ok (code y.0, y.1)

-- what is read of wherever a cursor is known to stand is what the definition gives there
abbrev pub ReadsAs : {I X : Type 0} → (I → Unread → Type 0) → Reading I → Reading I → Result X Refused
    → (Here → Result (X × Here) Fault) → Type 0
ReadsAs unread old new result given = Wherever unread old new (λ h Lands. GivesTo (λ x. x) result Lands (given h))

-- what is answered is the code's form of what is true there, and the cursor then stands where that ends
abbrev pub AnswersAs : {I X Y : Type 0} → (I → Unread → Type 0) → Reading I → Reading I → Result X Refused
    → (Y → X) → (Here → Y → Here → Type 0) → Type 0
AnswersAs {Y = Y} unread old new result code Holds =
    Wherever unread old new (λ h Lands.
    IfOk result (λ x. (y : Y) × (after : Here) × Holds h y after × (x ≡ code y) × Lands after))

-- a refusal is for want of memory, or has its cause there and names no source
abbrev pub RefusedFor : {I X : Type 0} → (I → Unread → Type 0) → Reading I → Result X Refused
    → (Here → FaultKind → Mark → Type 0) → Type 0
RefusedFor unread old result Holds =
    (h : Here) → Stands unread old h
    → IfErr result (λ e. (e.kind ≡ NoMemory) ⊎ (Holds h e.kind e.mark × (e.sources ≡ [])))

-- ---- what the calls over runs take

-- the whole run was taken and counted, and the cursor stands behind it
abbrev pub StepsRun : (List ℕ → Bool) → Here → ℕ → (Here → Type 0) → Type 0
StepsRun test h count Lands = (count ≡ run_length test h.unread.text) × Lands (steps count h)

-- the same, and it was appended
abbrev pub FetchesSteps : {E : Type 0} → (List ℕ → Bool) → Here → Result ℕ E → (Here → Type 0)
    → (before after : List ℕ) → Type 0
FetchesSteps test h result Lands before after =
    IfOk result (λ count. StepsRun test h count Lands × (after ≡ before ++ take count h.unread.text))

-- a cursor is known to stand there with something before it on its line, and no tab directly before it
abbrev pub InsideLine : (Here → Type 0) → Here → Type 0
InsideLine Lands h = Lands (mid_line h)

-- a front of the run was taken, and the cursor stands behind it
abbrev pub StepsFront : (List ℕ → Bool) → Here → ℕ → Bool × ℕ → (Here → Type 0) → Type 0
StepsFront test h asked result Lands = TakesFront test h.unread.text asked result.0 result.1 × Lands (steps result.1 h)

-- the same, and it was appended
abbrev pub FetchesFrontSteps : {E : Type 0} → (List ℕ → Bool) → Here → ℕ → Result (Bool × ℕ) E → (Here → Type 0)
    → (before after : List ℕ) → Type 0
FetchesFrontSteps test h asked result Lands before after =
    IfOk result (λ r. StepsFront test h asked r Lands × (after ≡ before ++ take r.1 h.unread.text))

-- So many characters were taken: as many fewer are left, and the window is smaller by no more than these. The cursor
-- is lost only where it was.
abbrev pub Takes : {I : Type 0} → (I → ℕ) → (I → ℕ) → Reading I → Reading I → ℕ → Type 0
Takes left window old new count =
    (left new.input + count ≤ left old.input) × (window old.input ≤ window new.input + count) × (new.lost ≡ old.lost)

-- whether an input has a source, and tells where in it what is left begins
abbrev pub has_source : Origin → Bool
has_source o = o.tells_offset && is_some o.sliced

-- Where the input has a source the whole run was taken, and else nothing; what was taken is counted and lent, and
-- the cursor stands behind it.
pub record LendsSteps (o : Origin) (test : List ℕ → Bool) (h : Here) (lent : List ℕ) (count : ℕ)
    (Lands : Here → Type 0) : Type 0 where
  pub counted : count ≡ (if has_source o then run_length test h.unread.text else 0)
  pub text : lent ≡ take count h.unread.text
  pub lands : Lands (steps count h)

-- ---- what is lent

-- the part of the source that was wanted was lent, and it is this text
abbrev pub IsLent : {E : Type 0} → Result (Bor (List ℕ)) E → List ℕ → Type 0
IsLent (Ok part) text = chars part.now ≡ text
IsLent (Err e) text = ⊥

-- from which byte of its source an input lends what follows
abbrev pub lends_from : Here → Option ℕ
lends_from h = if h.unread.lends then h.unread.offset else None

-- this mark is where the cursor stands, with a byte offset exactly where the input tells offsets
abbrev pub MarksPlace : {I : Type 0} → (I → Unread → Type 0) → (I → Origin) → Reading I → Mark → Type 0
MarksPlace unread origin r m =
    (m.place ≡ r.place) × (is_some m.byte_offset ≡ (origin r.input).tells_offset)
    × ((h : Here) → Stands unread r h → m ≡ mark_of h)

-- where the cursor stands, the input refuses to lend what it could; no source is named
abbrev pub RefusesSlice : {I : Type 0} → (I → Unread → Type 0) → (I → Origin) → Reading I → Refused → Type 0
RefusesSlice unread origin r e =
    (e.kind ≡ InputSlicingUnavailable) × MarksPlace unread origin r e.mark × (e.sources ≡ [])

-- what the source lends from a byte of it up to a mark, or at that mark that it refuses this
abbrev pub LendsUpTo : Option (List ℕ) → ℕ → Mark → Result (Bor (List ℕ)) Refused → Type 0
LendsUpTo source start end (Ok part) = LentBetween source (Some start) end.byte_offset (Some part)
LendsUpTo source start end (Err e) =
    LentBetween source (Some start) end.byte_offset None
    × (e ≡ record { kind = InputSlicingUnavailable; mark = end; sources = [] })

-- A text with the mark behind it is lent from a byte of the source on, where one is given, or at that mark it is told
-- that this is refused; with none given it is copied, or memory ran out.
abbrev pub LendsFrom : Option (List ℕ) → Option ℕ → Result (Written × Mark) Refused → Type 0
LendsFrom source None (Ok r) = r.0.is_borrowed ≡ false
LendsFrom source None (Err e) = e.kind ≡ NoMemory
LendsFrom source (Some start) (Ok r) =
    (r.0.is_borrowed ≡ true)
    × ((part : Bor (List ℕ)) × LentBetween source (Some start) r.1.byte_offset (Some part)
    × (r.0.characters ≡ chars part.now))
LendsFrom source (Some start) (Err e) =
    LentBetween source (Some start) e.mark.byte_offset None × (e.kind ≡ InputSlicingUnavailable)

-- A run was taken whole, and lent where the input lends; the cursor stands behind it. A refusal is for want of memory.
abbrev pub TakesWholeRun : (List ℕ → Bool) → Here → Result (Written × Mark) Refused → (Here → Type 0) → Type 0
TakesWholeRun test h (Ok r) Lands =
    (n : ℕ) × StepsRun test h n Lands × (r.0 ≡ as_spelled h (take n h.unread.text))
TakesWholeRun test h (Err e) Lands = e.kind ≡ NoMemory

-- where the input lends what is there, no refusal is for want of memory
abbrev pub LendsWithoutMemory : {I X : Type 0} → (I → Unread → Type 0) → Reading I → Result X Refused → Type 0
LendsWithoutMemory unread old result =
    (h : Here) → Stands unread old h → h.unread.lends ≡ true → IfErr result (λ e. ¬ (e.kind ≡ NoMemory))

-- a turn that goes on took a character
abbrev pub TurnTakes : {E : Type 0} → Result Bool E → ℕ → ℕ → Type 0
TurnTakes (Ok true) old new = new < old
TurnTakes (Ok false) old new = new ≤ old
TurnTakes (Err e) old new = new ≤ old
