-- What contracts see of a scanner, and in which state of the machine it is known to be.
use Rattle.std.specs.Prelude.{◌≡◌, ◌≤◌, ℕ, Bool, true, false, ◌&&◌, ◌||◌, nat_le, if◌then◌else◌, List, [], ◌∷◌, ◌++◌}
use Rattle.std.specs.Prelude.{IfSome, IsOk, Option, Some, None, is_some, Result, Ok, Err, drop, slice_get}
use Rattle.granit_base.specs.Place.{Place, Mark, Unread}
use Rattle.granit_cursor.specs.declared.token.Token.{Token}
use Rattle.granit_error.specs.FaultKind.{FaultKind, fault_number, NoMemory, DirectiveDisallowed, YamlVersionTooLong}
use Rattle.granit_error.specs.FaultKind.{ExpectedTagBang, InvalidTagDirectiveTerminator}
use Rattle.granit_error.specs.Refused.{Refused}
use Rattle.granit_input.specs.Origin.{Origin, Goes}
use Rattle.granit_lexemes.specs.Outcome.{Fault, Fails}
use Rattle.granit_machine.specs.Lexing.{FlaggedItem}
use Rattle.granit_scan.specs.Following.{Writing}
use Rattle.granit_scan.specs.TokenMemory.{KeepsWhole, WithoutTurn}
use Rattle.granit_scan.specs.TokenSteps.{TokenState, next_token}
use Rattle.granit_scan.specs.TokenViews.{PlainToken, TokenKind, StartOfStream, EndOfStream, marked, plain_token}
use Rattle.granit_scanner.specs.Scans as scans
use Rattle.granit_scanner.specs.Scans.{Known, may_front_go, wants_memory}
use Rattle.granit_steps.specs.Steps.{may_go}

-- a scanner of items, what was written of them, where the stream starts if that isn't told yet, whether its end was
-- given, whether a call failed, in a directive and for want of memory; whether comments may come, and what the source
-- gave
pub record TokenScanning (I : Type 0) : Type 0 where
  pub items : scans.Scanning I
  pub writer : Writing
  pub first : Option Mark
  pub ended : Bool
  pub failed : Bool
  pub failed_in_directive : Bool
  pub wants_memory : Bool
  pub comments : Bool
  pub source_error : Option Refused

-- ---- in which state of the machine

abbrev pub first_tokens : Option Mark → List PlainToken
first_tokens None = []
first_tokens (Some m) = marked StartOfStream m ∷ []

-- what a scanner has to give, the start of the stream first
abbrev pub all_waiting : {I : Type 0} → TokenScanning I → List PlainToken
all_waiting s = first_tokens s.first ++ s.writer.waiting

-- a scanner is known to be in a state of the machine: no call failed, and what wasn't given yet waits
pub record ScannerIn {I : Type 0} (unread : I → Unread → Type 0) (s : TokenScanning I) (m : TokenState) : Type 0 where
  pub going : s.failed ≡ false
  pub reading : Known unread s.items m.reading m.queue
  pub following : m.following ≡ s.writer.following
  pub pending : m.pending ≡ first_tokens s.first ++ s.writer.waiting

-- what no turn changes
pub record ScannerKeeps {I : Type 0} (old new : TokenScanning I) : Type 0 where
  pub first : new.first ≡ old.first
  pub ended : new.ended ≡ old.ended
  pub failed : new.failed ≡ old.failed
  pub failed_in_directive : new.failed_in_directive ≡ old.failed_in_directive
  pub wants_memory : new.wants_memory ≡ old.wants_memory
  pub comments : new.comments ≡ old.comments
  pub source_error : new.source_error ≡ old.source_error
  pub options : new.items.options ≡ old.items.options

-- ---- directives

-- whether a number is one of those from the first to the last
abbrev is_among : (first last number : ℕ) → Bool
is_among first last number = nat_le first number && nat_le number last

-- whether directives alone are refused so
abbrev pub is_of_directive : FaultKind → Bool
is_of_directive kind =
    is_among (fault_number DirectiveDisallowed) (fault_number YamlVersionTooLong) (fault_number kind)
    || is_among (fault_number ExpectedTagBang) (fault_number InvalidTagDirectiveTerminator) (fault_number kind)

-- whether the directives of a document are being told
abbrev pub in_header : {I : Type 0} → TokenScanning I → Bool
in_header s = s.failed_in_directive || s.writer.following.in_header

-- ---- what the source gave

-- the error that is kept, or the one that was given at a mark
abbrev pub first_kept_error : Option Refused → (given : Option FaultKind) → Mark → Option Refused
first_kept_error (Some e) given m = Some e
first_kept_error None (Some kind) m = Some (record { kind = kind; mark = m; sources = [] })
first_kept_error None None m = None

-- its kind
abbrev pub first_kind : Option Refused → (given : Option FaultKind) → Option FaultKind
first_kind (Some e) given = Some e.kind
first_kind None given = given

-- Ok exactly where no error is kept, and else that error, unless memory ran out
abbrev pub TellsKeptError : Option Refused → Result (Unit {0}) Refused → Type 0
TellsKeptError kept (Ok u) = kept ≡ None
TellsKeptError None (Err e) = ⊥
TellsKeptError (Some f) (Err e) = (e.kind ≡ NoMemory → ⊥) → e ≡ f

-- the error that is kept, or the one that was given at a mark of that place
abbrev pub KeepsFirst : Option Refused → (given : Option FaultKind) → Place → Option Refused → Type 0
KeepsFirst kept given at after = (m : Mark) × (m.place ≡ at) × (after ≡ first_kept_error kept given m)

-- a copy of an error is kept where there is one, and want of memory where there is none for that
abbrev pub KeepsCopy : Option Refused → Option Refused → Type 0
KeepsCopy None kept = kept ≡ None
KeepsCopy (Some f) None = ⊥
KeepsCopy (Some f) (Some e) = (e.kind ≡ NoMemory → ⊥) → e ≡ f

-- Where an error is kept, or the source gave one, a call fails with that, at that place; and else it gives what it
-- gives.
abbrev pub Unless : Option Refused → (given : Option FaultKind) → Place → (Fails : Refused → Type 0) → (Gives : Type 0)
    → Type 0
Unless None None at Fails Gives = Gives
Unless (Some e) given at Fails Gives = Fails e
Unless None (Some kind) at Fails Gives =
    (m : Mark) × (m.place ≡ at) × Fails (record { kind = kind; mark = m; sources = [] })

-- the error that a source has given by then, where none was handed out before
abbrev pub error_since : (before now : Origin) → Option FaultKind
error_since before now = if before.handed_out then None else now.error

-- a call fails with the first error of the source, at the place up to which was read, and else it gives what it gives
abbrev pub UnlessFailed : {I : Type 0} → (I → Origin) → (old new : TokenScanning I) → (Fails : Refused → Type 0)
    → (Gives : Type 0) → Type 0
UnlessFailed origin old new Fails Gives =
    Unless old.source_error (error_since (origin old.items.cursor.input) (origin new.items.cursor.input))
    new.items.cursor.place Fails Gives

-- the source is asked for its error, unless a call failed; else all is as before
abbrev pub Asks : (failed : Bool) → (old new : Origin) → Type 0
Asks failed old new =
    Goes old (record new { handed_out = old.handed_out })
    × (failed ≡ false → new.handed_out ≡ (old.handed_out || is_some new.error))

-- no more is left than before, and where it comes from is as before, but that its source was asked
abbrev pub MovesAsked : {I : Type 0} → (I → ℕ) → (I → Origin) → (old new : TokenScanning I) → Type 0
MovesAsked left origin old new =
    (left new.items.cursor.input ≤ left old.items.cursor.input)
    × Asks old.failed (origin old.items.cursor.input) (origin new.items.cursor.input)

-- a call failed: nothing more is given, and nothing was
pub record CallFails {I : Type 0} (old new : TokenScanning I) (kind : FaultKind) : Type 0 where
  pub failed : new.failed ≡ true
  pub in_directive : new.failed_in_directive ≡ is_of_directive kind
  pub memory : new.wants_memory ≡ wants_memory kind
  pub first : new.first ≡ old.first
  pub ended : new.ended ≡ old.ended

-- nothing failed, and neither the start nor the end of the stream is to be told
abbrev pub revived : {I : Type 0} → TokenScanning I → TokenScanning I
revived s = record s { first = None; ended = false; failed = false; failed_in_directive = false }

-- ---- turns

-- a turn was made, or none is left to make
abbrev pub token_turn_view : Bool → Option (List PlainToken)
token_turn_view true = Some []
token_turn_view false = None

-- turns give no tokens: these wait in the state
abbrev pub no_tokens : {X : Type 0} → X → List PlainToken
no_tokens x = []

-- The oldest item, where it may go: a scanner is then in the state with the items behind it.
abbrev pub ScannerTakesFree : {I : Type 0} → (I → Unread → Type 0) → Option FlaggedItem
    → TokenScanning I → TokenState → Type 0
ScannerTakesFree unread None s m = (may_front_go m.reading m.queue ≡ false) × ScannerIn unread s m
ScannerTakesFree unread (Some i) s m =
    (is : List FlaggedItem) × (m.queue ≡ i ∷ is) × (may_go m.reading i is ≡ true)
    × ScannerIn unread s (record m { queue = is })

-- ---- tokens

-- the start of the stream is given, where it wasn't yet
abbrev pub GivesStart : Option Mark → Result (Option Token) Refused → Type 0
GivesStart None r = Unit {0}
GivesStart (Some m) (Ok (Some t)) = plain_token t ≡ marked StartOfStream m
GivesStart (Some m) (Ok None) = ⊥
GivesStart (Some m) (Err e) = ⊥

-- the first token that waits, and a scanner is then in the state with the others
abbrev pub TakesToken : {I : Type 0} → (I → Unread → Type 0) → Option PlainToken → TokenScanning I → TokenState → Type 0
TakesToken unread t s m =
    (t ≡ slice_get m.pending 0) × ScannerIn unread s (record m { pending = drop 1 m.pending })

abbrev pub is_end_token_kind : TokenKind → Bool
is_end_token_kind EndOfStream = true
is_end_token_kind kind = false

-- whether a token is the end of the stream
abbrev pub is_last_token : Option PlainToken → Bool
is_last_token None = false
is_last_token (Some t) = is_end_token_kind t.kind

-- a step of the iterator gives what the machine's step gives; a refusal is its fault, unless memory ran out
abbrev pub NextToken : Type 0
NextToken = Option (Result Token Refused)

abbrev pub GivesNextToken : NextToken → (TokenState → Type 0) → Result (Option PlainToken × TokenState) Fault → Type 0
GivesNextToken None Lands given = (after : TokenState) × Lands after × (given ≡ Ok (None, after))
GivesNextToken (Some (Ok t)) Lands given = (after : TokenState) × Lands after
    × (given ≡ Ok (Some (plain_token t), after))
GivesNextToken (Some (Err e)) Lands given = Fails e given

-- a call gave a token, or there is none: nothing failed, and the start and the end of the stream are told once given
pub record CallGoesOn {I : Type 0} (old new : TokenScanning I) (t : Option PlainToken) : Type 0 where
  pub started : old.failed ≡ false → new.first ≡ None
  pub ended : new.ended ≡ (old.ended || is_last_token t)
  pub in_directive : new.failed_in_directive ≡ old.failed_in_directive

-- a step of the iterator didn't fail
abbrev pub StepsWell : NextToken → Type 0
StepsWell r = IfSome r IsOk

-- what is told of the stream behind a step
abbrev pub TellsOf : {I : Type 0} → (old new : TokenScanning I) → NextToken → Type 0
TellsOf old new None = CallGoesOn old new None
TellsOf old new (Some (Ok t)) = CallGoesOn old new (Some (plain_token t))
TellsOf old new (Some (Err e)) = CallFails old new e.kind

pub record ScannerStepsTo {I : Type 0} (unread : I → Unread → Type 0) (left : I → ℕ)
    (origin : I → Origin) (s : TokenScanning I)
    (r : NextToken) (t : TokenScanning I) : Type 0 where
  pub known : (m : TokenState) → ScannerIn unread s m → UnlessFailed origin s t (λ e. r ≡ Some (Err e))
      (GivesNextToken r (ScannerIn unread t) (next_token s.items.options m))
  pub source : s.failed ≡ false → UnlessFailed origin s t
      (λ e. (r ≡ Some (Err e)) × KeepsCopy (Some e) t.source_error) (t.source_error ≡ None)
  pub memory : s.failed ≡ false → UnlessFailed origin s t (λ e. Unit {0})
      (WithoutTurn (all_waiting s) s.items (λ f. r ≡ Some (Err f)) (StepsWell r))
  pub copied : s.failed ≡ false → UnlessFailed origin s t (λ e. KeepsWhole e t.source_error) (Unit {0})
  pub told : TellsOf s t r
  pub comments : t.comments ≡ s.comments
  pub over : s.failed ≡ true → (r ≡ None) × (t ≡ s)
  pub options : t.items.options ≡ s.items.options
  pub moves : MovesAsked left origin s t
