-- What contracts see of a scanner, and in which state of the machine it is known to be.
use Rattle.std.specs.Prelude.{◌≡◌, ℕ, Bool, false, ◌&&◌, ◌||◌, not, if◌then◌else◌, List, [], ◌∷◌, drop, take}
use Rattle.std.specs.Prelude.{length, Option, Some, None, is_some, Result, Ok, Err}
use Rattle.granit_base.specs.Place.{Unread}
use Rattle.granit_cursor.specs.Reading.{CameOn, Reading}
pub use Rattle.granit_error.specs.FaultKind.{wants_memory}
use Rattle.granit_error.specs.OptionsData.{OptionsData}
use Rattle.granit_error.specs.Refused.{Refused}
use Rattle.granit_lexemes.specs.Lexeme.{Item}
use Rattle.granit_machine.specs.Gaps.{gap}
use Rattle.granit_machine.specs.Laid.{Laid, laid_start}
use Rattle.granit_machine.specs.Lexing.{FlaggedItem}
use Rattle.granit_machine.specs.Machine.{is_settled, settled}
use Rattle.granit_machine.specs.Parser.{line_of_item, next_line}
use Rattle.granit_machine.specs.Reader.{LexState, lex_turn}
use Rattle.granit_queue.specs.QueueViews.{queued_view}
use Rattle.granit_content.specs.Reads.{IsAt}
use Rattle.granit_reader.specs.Meets.{MeetsBehind, behind_met}
use Rattle.granit_reader.specs.declared.met.Met.{Met}
use Rattle.granit_restart.specs.Header.{ends_in_directive}
use Rattle.granit_scanner.specs.declared.scanner.Front.{Front}
use Rattle.granit_steps.specs.Steps.{asks_next, free_items, incoming, is_next_settled, items_or_none, line_behind}
use Rattle.granit_steps.specs.Steps.{may_go, pushed}

-- a cursor, what the lexemes so far left, the options, the items that wait, how reading ended, and of a read that
-- failed what it had met, and the last lexeme among the items that may not go before it
pub record Scanning (I : Type 0) : Type 0 where
  pub cursor : Reading I
  pub laid : Laid
  pub options : OptionsData
  pub queue : List FlaggedItem
  pub ended : Bool
  pub fault : Option Refused
  pub met : Met
  pub held : Met

-- the same, with handles that stay over documents or not
abbrev pub scanner_keeping : {I : Type 0} → Bool → Scanning I → Scanning I
scanner_keeping keep s = record s { options = record (s.options) { keep_tags = keep } }

-- ---- in which state of the machine

-- the items behind those that may go before a fault
abbrev pub unsettled : Laid → List FlaggedItem → List FlaggedItem
unsettled l q = drop (length (settled l q)) q

-- What is known of a scanner whose read failed: the machine stands before that read, the cursor came on from there, and
-- it is told whether the items that may not go end in a directive, and whether the read stands among directives, by
-- whether what is before does.
pub record BehindFault {I : Type 0} (unread : I → Unread → Type 0) (s : Scanning I) (l : LexState)
    (q : List FlaggedItem) : Type 0 where
  pub number : s.laid.number ≡ l.reader.laid.number
  pub onward : CameOn unread l.reader.here s.cursor
  pub held : (before : Bool) → behind_met s.held before ≡ ends_in_directive before (unsettled l.reader.laid q)
  pub met : MeetsBehind s.options s.met (gap s.options l.reader.here l.reader.laid)

-- whether the read that failed stands among directives, by whether what was taken before it ends in one
abbrev pub fails_in_header : {I : Type 0} → Bool → Scanning I → Bool
fails_in_header before s = behind_met s.met (behind_met s.held (ends_in_directive before s.queue))

-- before a fault only those items are kept that may go
abbrev pub KnownBy : {I : Type 0} → (I → Unread → Type 0) → Option Refused → Scanning I → LexState → List FlaggedItem
    → Type 0
KnownBy unread None s l q = IsAt unread s.cursor s.laid l.reader × (l.ended ≡ s.ended) × (l.fault ≡ None)
    × (q ≡ s.queue)
KnownBy unread (Some f) s l q = (l.ended ≡ false) × (l.fault ≡ Some f) × (settled l.reader.laid q ≡ s.queue)
    × BehindFault unread s l q

-- a scanner is known to be where reading stands, with those items
abbrev pub Known : {I : Type 0} → (I → Unread → Type 0) → Scanning I → LexState → List FlaggedItem → Type 0
Known unread s l q = KnownBy unread s.fault s l q

-- ---- what may go

abbrev pub is_done : {I : Type 0} → Scanning I → Bool
is_done s = s.ended || is_some s.fault

-- whether nothing behind an item can change what it is, before more is read
abbrev pub is_final : Laid → Item → List FlaggedItem → Bool
is_final l i is = is_settled l i && (not (asks_next i) || is_next_settled l is)

-- whether the oldest item may go, where reading is over or not
abbrev pub front_goes : (over : Bool) → Laid → List FlaggedItem → Bool
front_goes over l [] = false
front_goes over l (i ∷ is) = over || is_final l i.item is

-- whether the parser may have the oldest of the machine's items
abbrev pub may_front_go : LexState → List FlaggedItem → Bool
may_front_go l [] = false
may_front_go l (i ∷ is) = may_go l i is

abbrev pub line_known : (over : Bool) → Laid → FlaggedItem → Option ℕ
line_known over l i = if over || is_settled l i.item then line_of_item i.item i.begins_key else None

-- the line of the oldest item, and of what stands behind it, where it is known
abbrev pub line_front : (over : Bool) → Laid → List FlaggedItem → Option ℕ
line_front over l q = next_line (free_items over l q)

abbrev pub line_next : (over : Bool) → Laid → List FlaggedItem → Option ℕ
line_next over l q = line_front over l (drop 1 q)

-- the same, where an item asks for it
abbrev pub line_asked : Item → Option ℕ → Option ℕ
line_asked i line = if asks_next i then line else None

-- ---- what is taken

abbrev pub front_view : Front → FlaggedItem × Option ℕ
front_view f = (queued_view f.queued, f.next_line)

-- the oldest item and the line of what stands behind it, and the state with the items behind it
abbrev pub TakesOldest : {I : Type 0} → (I → Unread → Type 0) → Option (FlaggedItem × Option ℕ) → Scanning I → LexState
    → List FlaggedItem → Type 0
TakesOldest unread given s l [] = ⊥
TakesOldest unread given s l (i ∷ is) = (given ≡ Some (i, line_behind l is)) × Known unread s l is

-- the same, with the line where the item asks for it
abbrev pub TakesAsked : {I : Type 0} → (I → Unread → Type 0) → Option (FlaggedItem × Option ℕ) → Scanning I → LexState
    → List FlaggedItem → Type 0
TakesAsked unread given s l [] = ⊥
TakesAsked unread given s l (i ∷ is) = (given ≡ Some (i, line_asked i.item (line_behind l is))) × Known unread s l is

-- ---- what is read

-- the machine's turn, and its items came into the queue
abbrev pub ReadsOn : {I : Type 0} → (I → Unread → Type 0) → OptionsData → Scanning I → LexState → List FlaggedItem
    → Type 0
ReadsOn unread o s l q =
    (x : Option (List Item) × LexState) × (lex_turn o l ≡ Ok x)
    × Known unread s x.1 (pushed q (incoming o.emit_comments (items_or_none x.0)))

-- a read failed: so many items stay, nothing is open, and so many lexemes were read before it
abbrev pub KeepsBefore : {I : Type 0} → Refused → (free number : ℕ) → Met → (old new : Scanning I) → Type 0
KeepsBefore e free number met old new =
    new ≡ record old {
      laid = record laid_start { number = number; may_prefix = false };
      queue = take free old.queue;
      fault = Some e;
      met = met;
      held = new.held;
    }

-- the last lexeme of these items is told
abbrev pub TellsLast : Met → List FlaggedItem → Type 0
TellsLast last items = (before : Bool) → behind_met last before ≡ ends_in_directive before items

-- what a read leaves: what it found comes behind what waits, and before a fault so many items stay
abbrev pub TakesRead : {I : Type 0} → Result (Unit {0}) Refused → (found : List Item) → (free number : ℕ) → Met
    → (old new : Scanning I) → Type 0
TakesRead (Ok u) found free number met old new = new ≡ record old { queue = pushed old.queue found }
TakesRead (Err e) found free number met old new =
    KeepsBefore e free number met old new × (wants_memory e.kind ≡ false) × TellsLast new.held (drop free old.queue)
