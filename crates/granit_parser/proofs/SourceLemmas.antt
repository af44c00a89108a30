-- Why what was looked at stays where the source of an input may fail.
use Rattle.std.proofs.Common.{◌≡◌, ℕ, false, ◌||◌, Option, Some, None, Ok, Err, is_some, refl, subst}
use Rattle.std.proofs.Common.{le_refl}
use Rattle.std.specs.Prelude.{IfSome}
use Rattle.granit_base.specs.Place.{Unread}
use Rattle.granit_cursor.specs.Reading.{Moves, Reading}
use Rattle.granit_error.specs.Refused.{Refused}
use Rattle.granit_event.specs.Events.{plain_event}
use Rattle.granit_input.specs.Origin.{Origin}
use Rattle.granit_input.proofs.OriginLemmas.{goes_nowhere}
use Rattle.granit_parser.specs.Parsing.{EndsBehind, Next, Parsing}
use Rattle.granit_parser.specs.Recovering.{SeenBy}
use Rattle.granit_restart.specs.Calls.{Calls}
use Rattle.granit_sourced.proofs.SourceLemmas.{ends_on, goes_kept, goes_unless, moves_on, next_kept}
pub use Rattle.granit_sourced.proofs.SourceLemmas.{never_told}
use Rattle.granit_sourced.specs.Sources.{GoesUnless, IfUnseen, MovesUnless}
use Rattle.granit_stepper.specs.Refusals.{HoldsRefusal, StandsRefused}
use Rattle.granit_stepper.specs.Stepping.{StandsIn, Stepping}
use Rattle.granit_steps.specs.Steps.{StepState}

-- nothing is read behind what was looked at, whether the source gave an error or not
pub behind_on : {I : Type 0} (r : Next) (given : Option Refused) (s t : Stepping I) (error : Option Refused)
    → t.failed ≡ (s.failed || is_some error) → EndsBehind r given s → EndsBehind r given t
behind_on r None s t error same behind = record { seen = ends_on r s t error same behind.seen; over = tt }
behind_on r (Some e) s t error same behind = record {
  seen = ends_on r s t error same behind.seen;
  over = (behind.over.0, rw (same, behind.over.1) refl);
}

-- what was looked at leaves all as it was
pub moves_seen : {I : Type 0} (left : I → ℕ) (origin : I → Origin) (r : Next) (peeked : Next) (old new : Stepping I)
    → IfSome peeked (λ x. (r ≡ Some x) × (new ≡ old))
    → IfUnseen peeked (MovesUnless left origin r old.scanner.cursor new.scanner.cursor)
    → GoesUnless r (origin old.scanner.cursor.input) (origin new.scanner.cursor.input)
moves_seen left origin r None old new seen moves = moves.1
moves_seen left origin r (Some x) old new seen moves =
    rw seen.1 (goes_unless r (origin old.scanner.cursor.input) (origin old.scanner.cursor.input) (goes_nowhere _))

-- a call that gives what was looked at moves nothing
pub moved : {I : Type 0} (left : I → ℕ) (origin : I → Origin) (r peeked : Next) (old new : Stepping I)
    → IfSome peeked (λ x. (r ≡ Some x) × (new ≡ old))
    → IfUnseen peeked (MovesUnless left origin r old.scanner.cursor new.scanner.cursor)
    → MovesUnless left origin r old.scanner.cursor new.scanner.cursor
moved left origin r None old new seen moves = moves
moved left origin r (Some x) old new seen moves =
    rw seen.1 (le_refl _, goes_unless r (origin old.scanner.cursor.input) _ (goes_nowhere _))

pub moves_behind : {I : Type 0} (unread : I → Unread → Type 0) (left : I → ℕ) (origin : I → Origin) (r s : Next)
    (a : Reading I) (now after : Parsing I) → r ≡ s
    → IfSome now.peeked (λ x. (r ≡ Some x) × (after.stepper ≡ now.stepper))
    → IfUnseen now.peeked (MovesUnless left origin r now.stepper.scanner.cursor after.stepper.scanner.cursor)
    → Moves unread left origin a now.stepper.scanner.cursor → MovesUnless left origin s a after.stepper.scanner.cursor
moves_behind unread left origin r s a now after same seen moves first =
    moves_on unread left origin s a now.stepper.scanner.cursor after.stepper.scanner.cursor first
    (subst (λ (x : Next). MovesUnless left origin x now.stepper.scanner.cursor after.stepper.scanner.cursor) same
    (moved left origin r now.peeked now.stepper after.stepper seen moves))

-- ---- where the machine's calls led

module _ {I : Type 0} (unread : I → Unread → Type 0) (mid new : Stepping I)
    (options : new.scanner.options ≡ mid.scanner.options) (renumbered : new.renumbered ≡ mid.renumbered)
    (first : new.first ≡ mid.first) (failed : new.failed ≡ (mid.failed || false))
    (known : (m : StepState) → StandsIn unread mid m → StandsIn unread new m)
    (held : (m : StepState) → HoldsRefusal unread mid m → HoldsRefusal unread new m)
    (refused : (m : StepState) (e : Refused) → StandsRefused unread mid m e → StandsRefused unread new m e) where
  pub seen_kept : (r : Next) (c : Calls) → SeenBy unread r mid c → SeenBy unread r new c
  seen_kept None c g = goes_kept unread mid new options renumbered first failed known held refused c g
  seen_kept (Some (Ok x)) c s =
      next_kept unread mid new options renumbered first failed known held refused (plain_event x) c s
  seen_kept (Some (Err e)) c s = s
