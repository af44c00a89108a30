-- What closing leaves, on both sides.
use Rattle.std.specs.Prelude.{◌≡◌, Bool, false, List, [], ◌∷◌, Ok, true, nat_le}
use Rattle.granit_base.specs.Place.{Mark}
use Rattle.granit_error.specs.OptionsData.{OptionsData}
use Rattle.granit_lexemes.specs.Lexeme as lexemes
use Rattle.granit_views.specs.Fair.{FairAt, frame_ends_at}
use Rattle.granit_views.specs.Good.{Good}
use Rattle.granit_views.specs.View.{Beside, state_of, give_all, with_given}
use Rattle.granit_language.specs.Seen.{terminal_of}
use Rattle.granit_event_machine.specs.EventMachine.{EventState, IsRooted, InFrames, Ending, with_event, ended_by}
use Rattle.granit_event_machine.specs.Guarded.{blocks_open}
use Rattle.granit_language.specs.Scope.{Scope}
use Rattle.granit_language.specs.Terminal.{Terminal}
use Rattle.granit_language.specs.TreeEvents.{TreeEvent}
use Rattle.granit_machine.specs.Frames.{ParserState}
use Rattle.granit_machine.specs.TokenSort.{token_of}
use Rattle.granit_machine.specs.Closing as machine

abbrev pub with_all : List TreeEvent → Ending → Ending
with_all [] y = y
with_all (e ∷ es) y = with_event e (with_all es y)

-- what closing comes to: inside a document it stays there or is behind its root, with no more block collections open
abbrev pub Below : EventState → EventState → Type 0
Below (InFrames fs) (InFrames gs) = nat_le (blocks_open gs) (blocks_open fs) ≡ true
Below (InFrames fs) (IsRooted e) = Unit {0}
Below (InFrames fs) st = ⊥
Below st other = other ≡ st

-- the parser where closing is done, and what the grammar's closing is from there
pub record ClosedView (o : OptionsData) (x : Terminal) (st : EventState) (d : Beside) (p : ParserState) : Type 0 where
  pub closed_state : EventState
  pub gives : List TreeEvent
  pub last : Mark
  pub view : p ≡ state_of o closed_state (with_given last (give_all o gives d.given) d)
  pub closes_is : ended_by x st ≡ with_all gives (ended_by x closed_state)
  pub is_good : Good closed_state
  pub is_fair : FairAt x closed_state
  pub stays : frame_ends_at x closed_state ≡ false
  pub below : Below st closed_state

-- what closing leaves
pub record Closed (b : Bool) (s : Scope) (l : lexemes.Lexeme) (o : OptionsData) (st : EventState) (d : Beside) :
    Type 0 where
  pub left : ParserState
  pub closes_to : machine.close o (token_of b l) (state_of o st d) ≡ Ok left
  pub viewed : ClosedView o (terminal_of b s l) st d left
