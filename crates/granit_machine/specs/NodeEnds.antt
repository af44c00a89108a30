-- How nodes end and collections begin.
use Rattle.std.specs.Prelude.{ℕ, suc, Bool, true, false, ◌==◌, nat_le, if◌then◌else◌, List, [], ◌∷◌, codes, Option}
use Rattle.std.specs.Prelude.{Some, None, Result, Ok}
use Rattle.granit_base.specs.Place.{Mark}
use Rattle.granit_base.specs.Written.{lent}
use Rattle.granit_base.specs.declared.style.ScalarStyle.TheVariants.{Plain}
use Rattle.granit_base.specs.declared.style.StructureStyle.TheVariants.{Block}
use Rattle.granit_error.specs.FaultKind.{RecursionLimitExceeded}
use Rattle.granit_error.specs.OptionsData.{OptionsData}
use Rattle.granit_lexemes.specs.Source.{Source}
use Rattle.granit_lexemes.specs.Outcome.{Fault}
use Rattle.granit_lexemes.specs.PlainEvent.{PlainTag, EventKind, event_at, Scalar, SequenceEnd, MappingEnd}
use Rattle.granit_lexemes.specs.PlainEvent.{MappingStart}
use Rattle.granit_lexemes.specs.Basics.{fails_at}
use Rattle.granit_machine.specs.Frames.{PairStage, BeforePair, AtKey, BehindKey, AtQuestion, BehindQuestion, AtValue}
use Rattle.granit_machine.specs.Frames.{BehindAlone, BehindPair, NodeProperties, Frame, Root, BlockSequence}
use Rattle.granit_machine.specs.Frames.{BlockMapping, FlowSequence, FlowMapping, FlowPair, BehindRoot, ParserState}
use Rattle.granit_machine.specs.Giving.{null_at, with_indent, flush, give, give_empty, node_event}

abbrev pub finished_stage : PairStage → PairStage
finished_stage BeforePair = BehindAlone
finished_stage AtKey = BehindKey
finished_stage AtQuestion = BehindQuestion
finished_stage AtValue = BehindPair
finished_stage stage = stage

abbrev pub finish_in : List Frame → ParserState → ParserState
finish_in (Root explicit ∷ fs) p = record p { frames = fs; stage = BehindRoot }
finish_in (BlockMapping column stage ∷ fs) p = record p { frames = BlockMapping column (finished_stage stage) ∷ fs }
finish_in (FlowMapping single stage ∷ fs) p = record p { frames = FlowMapping single (finished_stage stage) ∷ fs }
finish_in (FlowPair stage ∷ fs) p = record p { frames = FlowPair (finished_stage stage) ∷ fs }
finish_in (FlowSequence behind_entry ∷ fs) p = record p { frames = FlowSequence true ∷ fs }
finish_in fs p = p

-- the node at the open place is finished
abbrev pub finish : ParserState → ParserState
finish p = finish_in p.frames p

abbrev pub owed_in : List Frame → Mark → ParserState → ParserState
owed_in (BlockSequence column indentless ∷ fs) x p = give_empty p
owed_in (BlockMapping column AtValue ∷ fs) x p = give_empty p
owed_in (FlowMapping single AtValue ∷ fs) x p = give_empty p
owed_in (BlockMapping column AtQuestion ∷ fs) x p = give (null_at x) (give (with_indent (Some column) (null_at x)) p)
owed_in (FlowMapping single AtQuestion ∷ fs) x p = give (null_at x) (give (null_at x) p)
owed_in (FlowPair AtQuestion ∷ fs) x p = give (null_at x) (give (null_at x) p)
owed_in (BlockMapping column BehindQuestion ∷ fs) x p = give (null_at x) p
owed_in (FlowMapping single BehindQuestion ∷ fs) x p = give (null_at x) p
owed_in (FlowMapping single BehindAlone ∷ fs) x p = give (null_at x) p
owed_in (FlowPair BehindQuestion ∷ fs) x p = give (null_at x) p
owed_in (FlowPair AtValue ∷ fs) x p = give (null_at x) p
owed_in fs x p = p

-- the empty nodes of the pair that ends before a place, or goes on there with no `:`
abbrev pub owed : Mark → ParserState → ParserState
owed x p = owed_in p.frames x p

abbrev pub end_kind : List Frame → EventKind
end_kind (BlockSequence column indentless ∷ fs) = SequenceEnd
end_kind (FlowSequence behind_entry ∷ fs) = SequenceEnd
end_kind fs = MappingEnd

abbrev pub below : List Frame → List Frame
below [] = []
below (f ∷ fs) = fs

abbrev pub end_by : Source → ParserState → ParserState
end_by source p = finish (give (event_at (end_kind p.frames) source) (record p { frames = below p.frames }))

-- the innermost collection ends before a place, with an event of a span
unfoldable pub end_node : Mark → Source → ParserState → ParserState
end_node x source p = end_by source (owed x p)

abbrev pub null_text : Option (PlainTag × Source) → List ℕ
null_text None = codes "~"
null_text (Some t) = []

abbrev pub null_node : NodeProperties → ℕ → Option PlainTag → EventKind
null_node q number tag = Scalar (lent (null_text q.tag)) Plain number tag

abbrev pub empty_span : Mark → Source
empty_span m = record { start = m; end = m }

-- the node of properties stays empty
unfoldable pub end_properties : OptionsData → NodeProperties → ParserState → ParserState
end_properties o q p = finish (node_event o (null_node q) (empty_span q.end) None p)

-- ---- what is asked of the frames

-- the column that a node must stand right of
abbrev pub under_column : List Frame → Option ℕ
under_column [] = None
under_column (BlockSequence column indentless ∷ fs) = Some column
under_column (BlockMapping column stage ∷ fs) = Some column
under_column (f ∷ fs) = under_column fs

abbrev pub block_count : List Frame → ℕ
block_count [] = 0
block_count (BlockSequence column indentless ∷ fs) = suc (block_count fs)
block_count (BlockMapping column stage ∷ fs) = suc (block_count fs)
block_count (f ∷ fs) = block_count fs

-- whether a sequence may begin in the column of its mapping (8.2.2)
abbrev pub may_be_indentless : ℕ → List Frame → Bool
may_be_indentless c (BlockMapping column AtQuestion ∷ fs) = column == c
may_be_indentless c (BlockMapping column AtValue ∷ fs) = column == c
may_be_indentless c fs = false

-- a collection begins
abbrev pub begin : OptionsData → (ℕ → Option PlainTag → EventKind) → Source → Frame → ParserState → ParserState
begin o kind source frame p = let q = node_event o kind source None p in record q { frames = frame ∷ q.frames }

-- a block collection begins at a mark, where one more may
unfoldable pub begin_block : OptionsData → (ℕ → Option PlainTag → EventKind) → Mark → Frame → ParserState
    → Result ParserState Fault
begin_block o kind m frame p =
    if nat_le o.block_nesting_limit (block_count p.frames) then fails_at RecursionLimitExceeded m
    else Ok (begin o kind (empty_span m) frame p)

abbrev pub block_mapping : ℕ → Option PlainTag → EventKind
block_mapping number tag = MappingStart Block number tag

-- a `-` or `:` waits for its node
abbrev pub waits : Mark → ℕ → ParserState → ParserState
waits m room p = let q = flush p in record q { waiting = Some (record { at = m; room = room; held = [] }) }

abbrev pub with_top : Frame → ParserState → ParserState
with_top frame p = record p { frames = frame ∷ below p.frames }
