-- Where recovery wants no memory: reading goes on at a boundary that was read, at a `...` or at the end.
use Rattle.std.specs.Prelude.{◌≡◌, ◌<◌, ◌++◌, ◌^◌, false, Some}
use Rattle.granit_base.specs.Place.{Unread}
use Rattle.granit_cursor.specs.Reading.{Stands}
use Rattle.granit_lexemes.specs.Here.{Here}
use Rattle.granit_refusals.specs.BeforeTurn.{refusal_outside}
use Rattle.granit_refusals.specs.declared.refusal.Refusal.{Refusal}
use Rattle.granit_scanner.specs.Restarts.{finds_start, front_items}
use Rattle.granit_scanner.specs.Scans.{Scanning}
use Rattle.granit_stepper.specs.Stepping.{Stepping}

-- where a cursor is known to stand, and fewer than 2^63 lexemes were read, no lexeme is made
pub record RestartsFree {I : Type 0} (unread : I → Unread → Type 0) (s : Scanning I) (r : Refusal) : Type 0 where
  pub here : Here
  pub stands : Stands unread s.cursor here
  pub known : s.cursor.lost ≡ false
  pub few : s.laid.number < 2 ^ 63
  pub read : finds_start here (front_items r.front ++ s.queue) ≡ false

-- and a document was open, so that none is dropped behind directives
pub record SkipsFree {I : Type 0} (unread : I → Unread → Type 0) (s : Stepping I) : Type 0 where
  pub refusal : Refusal
  pub refused : s.refusal ≡ Some refusal
  pub inside : refusal_outside refusal ≡ false
  pub restarts : RestartsFree unread s.scanner refusal
