-- Why calls give and leave what they do where the source of an input may fail.
use Rattle.std.proofs.Common.{◌≡◌, ◌≤◌, ℕ, Bool, true, false, ◌||◌, List, Option, Some, None, Result, Ok, Err}
use Rattle.std.proofs.Common.{is_some, refl, sym, ap, subst, ◌∙◌, arith}
use Rattle.std.specs.Option.{option_map}
use Rattle.std.specs.Prelude.{if◌then◌else◌, IfOk, IfErr}
use Rattle.std.specs.Result.{result_transpose}
use Rattle.granit_base.specs.Place.{Mark, Place, Unread}
use Rattle.granit_cursor.specs.Reading.{GivesTo}
use Rattle.granit_cursor.specs.declared.token.Token.{Token}
use Rattle.granit_error.specs.FaultKind.{FaultKind}
use Rattle.granit_error.specs.Refused.{Refused}
use Rattle.granit_input.specs.Origin.{Origin, Goes, Gave, error_given}
use Rattle.granit_lexemes.specs.Outcome.{Fault}
use Rattle.granit_scan.specs.Scanning.{Asks, CallFails, GivesNextToken, GivesStart, KeepsCopy, KeepsFirst, MovesAsked}
use Rattle.granit_scan.specs.Scanning.{ScannerIn, ScannerStepsTo, StepsWell, TellsOf, TokenScanning, Unless}
use Rattle.granit_scan.specs.Scanning.{UnlessFailed, all_waiting, error_since, first_kept_error, is_last_token}
use Rattle.granit_scan.specs.Scanning.{no_tokens}
use Rattle.granit_scan.specs.TokenMemory.{KeepsWhole, WithoutTurn}
use Rattle.granit_scan.specs.TokenSteps.{TokenState, next_token}
use Rattle.granit_scan.specs.TokenViews.{PlainToken, plain_token}
use Rattle.granit_scanner.specs.Scans as scans

-- ---- what is left

pub moves_on : {I : Type 0} (left : I → ℕ) (origin : I → Origin) (old mid new : TokenScanning I) → new.items ≡ mid.items
    → MovesAsked left origin old mid → MovesAsked left origin old new
moves_on left origin old mid new same moved = subst
    (λ (s : scans.Scanning _). (left s.cursor.input ≤ left old.items.cursor.input)
    × Asks old.failed (origin old.items.cursor.input) (origin s.cursor.input)) (sym same) moved

module _ (a b c : Origin) (goes : Goes a b) (gave : Gave b c) where
  asks : (failed : Bool) → Asks failed a c
  asks failed = (
    record {
      sliced = gave.sliced ∙ goes.sliced;
      lent = gave.lent ∙ goes.lent;
      tells_offset = gave.tells_offset ∙ goes.tells_offset;
      handed_out = refl;
      knows_end = λ known. let same = goes.knows_end known in (gave.knows_end ∙ same.0, gave.error ∙ same.1);
      error = λ some. gave.error ∙ goes.error some;
      floor = subst (λ (n : ℕ). a.floor ≤ n) (sym gave.floor) goes.floor;
      ends_with = λ f told. gave.ends_with f (goes.ends_with f told);
    },
    λ going. gave.handed_out
        ∙ ap (λ (h : Bool). h || is_some b.error) goes.handed_out
        ∙ ap (λ (e : Option FaultKind). a.handed_out || is_some e) (sym gave.error),
  )

  -- what is handed out is the error since then
  given_since : error_given b ≡ error_since a c
  given_since =
      ap (λ (h : Bool). if h then None else b.error) goes.handed_out
      ∙ ap (λ (e : Option FaultKind). if a.handed_out then None else e) (sym gave.error)

-- ---- what is given

abbrev value_of : Option Refused → Refused → Refused
value_of None e = e
value_of (Some f) e = f

module _ (Fails : Refused → Type 0) (Gives : Type 0) (at : Place) where
  -- no error is kept
  unless_none : (kept : Option Refused) (given : Option FaultKind) → KeepsFirst kept given at None → Gives
      → Unless kept given at Fails Gives
  unless_none None None first gives = gives
  unless_none None (Some kind) first gives = absurd (let no = first.2 in cc)
  unless_none (Some e) given first gives = absurd (let no = first.2 in cc)

  -- one is
  unless_some : (kept : Option Refused) (given : Option FaultKind) (e : Refused) → KeepsFirst kept given at (Some e)
      → Fails e → Unless kept given at Fails Gives
  unless_some None None e first fails = absurd (let no = first.2 in cc)
  unless_some None (Some kind) e first fails =
      (first.0, first.1, subst Fails (ap (λ (r : Option Refused). value_of r e) first.2) fails)
  unless_some (Some k) given e first fails = subst Fails (ap (λ (r : Option Refused). value_of r e) first.2) fails

-- what follows from a failure, or from what is given
unless_on : {F G : Refused → Type 0} {A B : Type 0} (kept : Option Refused) (given : Option FaultKind) (at : Place)
    → ((e : Refused) → F e → G e) → (A → B) → Unless kept given at F A → Unless kept given at G B
unless_on None None at fails gives told = gives told
unless_on None (Some kind) at fails gives told = (told.0, told.1, fails _ told.2)
unless_on (Some e) given at fails gives told = fails e told

-- what was ready is taken
pub failed_on : {I : Type 0} (origin : I → Origin) {F G : Refused → Type 0} {A B : Type 0}
    (old mid new : TokenScanning I)
    → new.items ≡ mid.items → ((e : Refused) → F e → G e) → (A → B) → UnlessFailed origin old mid F A
    → UnlessFailed origin old new G B
failed_on origin {G = G} {B = B} old mid new same fails gives told = subst
    (λ (s : scans.Scanning _). Unless old.source_error
    (error_since (origin old.items.cursor.input) (origin s.cursor.input)) s.cursor.place G B) (sym same)
    (unless_on old.source_error _ mid.items.cursor.place fails gives told)

-- turns were made, the source was asked, and its error is given
module _ {I : Type 0} (origin : I → Origin) (old mid asked new : TokenScanning I)
    (kept : mid.source_error ≡ old.source_error)
    (goes : Goes (origin old.items.cursor.input) (origin mid.items.cursor.input))
    (gave : Gave (origin mid.items.cursor.input) (origin asked.items.cursor.input))
    (place : asked.items.cursor.place ≡ mid.items.cursor.place)
    (first : KeepsFirst mid.source_error (error_given (origin mid.items.cursor.input)) mid.items.cursor.place
    asked.source_error)
    (same : new.items ≡ asked.items) where
  keeps_first : (r : Option Refused) → r ≡ asked.source_error
      → KeepsFirst old.source_error (error_since (origin old.items.cursor.input) (origin new.items.cursor.input))
      new.items.cursor.place r
  keeps_first r is = (
    first.0,
    first.1 ∙ sym place ∙ sym (ap (λ (s : scans.Scanning I). s.cursor.place) same),
    is ∙ first.2
        ∙ ap (λ (k : Option Refused). first_kept_error k (error_given (origin mid.items.cursor.input)) first.0) kept
        ∙ ap (λ (k : Option FaultKind). first_kept_error old.source_error k first.0)
        (given_since (origin old.items.cursor.input) (origin mid.items.cursor.input) (origin asked.items.cursor.input)
        goes gave)
        ∙ ap (λ (s : scans.Scanning I). first_kept_error old.source_error
        (error_since (origin old.items.cursor.input) (origin s.cursor.input)) first.0) (sym same),
  )

  pub ready_fails : (Fails : Refused → Type 0) (Gives : Type 0) (e : Refused) → Some e ≡ asked.source_error → Fails e
      → UnlessFailed origin old new Fails Gives
  ready_fails Fails Gives e is fails =
      unless_some Fails Gives new.items.cursor.place old.source_error _ e (keeps_first (Some e) is) fails

  pub ready_gives : (Fails : Refused → Type 0) (Gives : Type 0) → None ≡ asked.source_error → Gives
      → UnlessFailed origin old new Fails Gives
  ready_gives Fails Gives is gives =
      unless_none Fails Gives new.items.cursor.place old.source_error _ (keeps_first None is) gives

  pub ready_moves : (left : I → ℕ) → left mid.items.cursor.input ≤ left old.items.cursor.input
      → left asked.items.cursor.input ≤ left mid.items.cursor.input → MovesAsked left origin old new
  ready_moves left fewer less = moves_on left origin old asked new same (
    omega (arith, fewer, less),
    asks (origin old.items.cursor.input) (origin mid.items.cursor.input) (origin asked.items.cursor.input) goes gave
        old.failed,
  )

-- where a scanner then stands
pub lands_on : {U : Type 0} (r : Result U Refused) (Here There : TokenState → Type 0)
    (given : Result (List PlainToken × TokenState) Fault) → ((m : TokenState) → Here m → There m)
    → GivesTo no_tokens r Here given → GivesTo no_tokens r There given
lands_on (Ok u) Here There given on gives = (gives.0, on gives.0 gives.1, gives.2)
lands_on (Err e) Here There given on gives = gives

abbrev error_of : {X : Type 0} → Result X Refused → Refused → Refused
error_of (Ok x) e = e
error_of (Err f) e = f

abbrev pub failed : (X : Type 0) → Refused → Result X Refused
failed X e = Err e

-- a failure is the same whatever would be given
pub fails_as : (X Y : Type 0) (e f : Refused) → failed X e ≡ failed X f → failed Y e ≡ failed Y f
fails_as X Y e f is = ap (failed Y) (ap (λ (r : Result X Refused). error_of r e) is)

-- a failure in front of the start would be a failure of the source
pub no_start : (first : Option Mark) (e : Refused) → first ≡ None → GivesStart first (Err e)
no_start None e none = tt
no_start (Some m) e none = absurd cc

-- a step of the iterator gives what the call for a token gives
step_gives : (q : Result (Option Token) Refused) (Lands : TokenState → Type 0)
    (given : Result (Option PlainToken × TokenState) Fault) → GivesTo (option_map plain_token) q Lands given
    → GivesNextToken (result_transpose q) Lands given
step_gives (Ok None) Lands given gives = gives
step_gives (Ok (Some t)) Lands given gives = gives
step_gives (Err e) Lands given gives = gives

-- and tells of the stream what that tells
pub step_tells : {I : Type 0} (s t : TokenScanning I) (q : Result (Option Token) Refused)
    → IfOk q (λ x. s.failed ≡ false → t.first ≡ None)
    → IfOk q (λ x. t.ended ≡ (s.ended || is_last_token (option_map plain_token x)))
    → IfOk q (λ x. t.failed_in_directive ≡ s.failed_in_directive) → IfErr q (λ e. CallFails s t e.kind)
    → TellsOf s t (result_transpose q)
step_tells s t (Ok None) started ended going stops =
    record { started = started; ended = ended; in_directive = going }
step_tells s t (Ok (Some x)) started ended going stops =
    record { started = started; ended = ended; in_directive = going }
step_tells s t (Err e) started ended going stops = stops

pub steps_to : {I : Type 0} (unread : I → Unread → Type 0) (left : I → ℕ) (origin : I → Origin) (s t : TokenScanning I)
    (q : Result (Option Token) Refused)
    → ((m : TokenState) → ScannerIn unread s m → UnlessFailed origin s t (λ e. q ≡ Err e)
    (GivesTo (option_map plain_token) q (ScannerIn unread t) (next_token s.items.options m)))
    → (s.failed ≡ false → UnlessFailed origin s t (λ e. (q ≡ Err e) × KeepsCopy (Some e) t.source_error)
    (GivesStart s.first q × (t.source_error ≡ None)))
    → (s.failed ≡ false → UnlessFailed origin s t (λ e. Unit {0})
    (WithoutTurn (all_waiting s) s.items (λ f. result_transpose q ≡ Some (Err f)) (StepsWell (result_transpose q))))
    → (s.failed ≡ false → UnlessFailed origin s t (λ e. KeepsWhole e t.source_error) (Unit {0}))
    → TellsOf s t (result_transpose q) → t.comments ≡ s.comments
    → (s.failed ≡ true → (q ≡ Ok None) × (t ≡ s)) → t.items.options ≡ s.items.options → MovesAsked left origin s t
    → ScannerStepsTo unread left origin s (result_transpose q) t
steps_to unread left origin s t q known source memory copied told comments over options moves = record {
  known = λ m at. failed_on origin s t t refl (λ e is. ap result_transpose is)
      (step_gives q (ScannerIn unread t) (next_token s.items.options m)) (known m at);
  source = λ going. failed_on origin s t t refl (λ e is. (ap result_transpose is.0, is.1)) (λ given. given.1)
      (source going);
  memory = memory;
  copied = copied;
  told = told;
  comments = comments;
  over = λ failed. let was = over failed in (ap result_transpose was.0, was.1);
  options = options;
  moves = moves;
}
