-- Where the comments of a text stand among the other events of its answer (YAML 1.2.2, 6.6).
pub use Rattle.granit_order.specs.Answers.{comment_events, only_comments, tail_events}
use Rattle.std.specs.Prelude.{◌≡◌, List, [], ◌∷◌, ◌++◌, map}
use Rattle.granit_base.specs.Place.{Mark}
use Rattle.granit_error.specs.OptionsData.{OptionsData}
use Rattle.granit_comment_places.specs.CommentPlaces.{SequenceStarted}
pub use Rattle.granit_order.specs.Answers.{but_comments}
use Rattle.granit_language.specs.Awaiting.{WaitsIn}
use Rattle.granit_language.specs.Node.{NoProperties}
use Rattle.granit_language.specs.OpenPlace.{Hole, OpenPlace, Want}
use Rattle.granit_language.specs.OpenTold.{ToldBefore, EmptyAt}
use Rattle.granit_language.specs.Scope.{no_scope}
use Rattle.granit_language.specs.Scoping.{scoped}
use Rattle.granit_language.specs.Seen.{terminal_seen, lexemes_flagged}
use Rattle.granit_language.specs.Terminal.{Terminal}
use Rattle.granit_lexemes.specs.PlainEvent.{PlainEvent}
use Rattle.granit_machine.specs.Giving.{null_at}
use Rattle.granit_machine.specs.Lexing.{FlaggedItem}

-- Comments aside, these events stand in front of a comment behind these lexemes: those before the open place that they
-- leave; with them the empty node directly behind a `-` or a `:`, where none begins there; and where the comment stands
-- behind a `-` on its line, those but for the start of a sequence that begins with it in the column of its mapping.
pub data InFrontOf (o : OptionsData) (xs : List Terminal) (behind_dash : Type 0) : List PlainEvent → Type 0 where
  directly : {told : List PlainEvent} (place : OpenPlace) → ToldBefore o xs place told → InFrontOf o xs behind_dash told
  behind_empty :
      {told : List PlainEvent} (given : List PlainEvent) (hole : Hole) (m : Mark) →
      ToldBefore o xs (Want hole NoProperties) given → WaitsIn hole → EmptyAt hole m →
      told ≡ given ++ (null_at m ∷ []) → InFrontOf o xs behind_dash told
  before_start :
      {told : List PlainEvent} (place : OpenPlace) (begun : List PlainEvent) → behind_dash → SequenceStarted begun →
      ToldBefore o xs place (told ++ begun) → InFrontOf o xs behind_dash told

-- A comment's event stands among these behind the events of the items up to it, and in front of the comments of the
-- items behind it.
pub record CommentStands (o : OptionsData) (items back : List FlaggedItem) (behind_dash : Type 0) (e : PlainEvent)
    (es : List PlainEvent) : Type 0 where
  pub front : List PlainEvent
  pub rest : List PlainEvent
  pub is : es ≡ front ++ (e ∷ rest)
  pub stands :
      InFrontOf o (scoped no_scope (map terminal_seen (lexemes_flagged items))) behind_dash (but_comments front)
  pub behind : only_comments rest ≡ comment_events back
