-- The plain machine's parser: the unfinished nodes, and what waits.
use Rattle.std.specs.Prelude.{ℕ, Bool, List, [], Option, None}
use Rattle.granit_base.specs.Place.{Mark}
use Rattle.granit_base.specs.Written.{Written}
use Rattle.granit_lexemes.specs.Source.{Source}
use Rattle.granit_lexemes.specs.PlainEvent.{PlainEvent, PlainVersion, PlainTag}

-- where a pair stands
pub data PairStage : Type 0 where
  -- before its key, at a simple key, behind it
  BeforePair AtKey BehindKey : PairStage
  -- behind `?`, behind its key, behind `:`
  AtQuestion BehindQuestion AtValue : PairStage
  -- behind a node without `:`, behind its value
  BehindAlone BehindPair : PairStage

-- an anchor by its number, a tag, and the place behind the last of them
pub record NodeProperties : Type 0 where
  pub anchor : Option (ℕ × Written × Source)
  pub tag : Option (PlainTag × Source)
  pub end : Mark

-- an unfinished node
pub data Frame : Type 0 where
  -- a document whose root must come; whether `---` was written
  Root : (explicit : Bool) → Frame
  WithProperties : NodeProperties → Frame
  -- a sequence in a column; whether it stands in the column of its mapping
  BlockSequence : (column : ℕ) (indentless : Bool) → Frame
  BlockMapping : (column : ℕ) (stage : PairStage) → Frame
  FlowSequence : (behind_entry : Bool) → Frame
  -- a mapping, or the pair that a `:` makes in a sequence
  FlowMapping : (single : Bool) (stage : PairStage) → Frame
  -- the pair that a `?` makes in a sequence
  FlowPair : (stage : PairStage) → Frame

-- where a stream stands around its documents (9.2)
pub data DocumentStage : Type 0 where
  Fresh : DocumentStage
  -- behind directives, one of which may name a version
  Directives : (version : Option PlainVersion) → DocumentStage
  Inside BehindRoot Between : DocumentStage

-- a `-` or a `:` whose node hasn't begun: where it stands if it stays empty, how many comments may still come, and
-- those that came
pub record Waiting : Type 0 where
  pub at : Mark
  pub room : ℕ
  pub held : List PlainEvent

pub record ParserState : Type 0 where
  -- the innermost first
  pub frames : List Frame
  pub stage : DocumentStage
  -- the end of the last event that is no comment and no anchor
  pub last_end : Mark
  -- how many anchors were read, and the number of the last one of each name in the document
  pub count : ℕ
  pub names : List (List ℕ × ℕ)
  -- the handles of the document's directives, and what they stand for
  pub handles : List (List ℕ × List ℕ)
  -- the same of all directives so far, where handles stay over documents
  pub kept : List (List ℕ × List ℕ)
  pub waiting : Option Waiting
  -- the events of this step so far
  pub given : List PlainEvent

abbrev pub parser_start : Mark → ParserState
parser_start m = record {
  frames = [];
  stage = Fresh;
  last_end = m;
  count = 0;
  names = [];
  handles = [];
  kept = [];
  waiting = None;
  given = [];
}
