-- A lexeme in a flow collection (YAML 1.2.2, 7.4).
use Rattle.std.specs.Prelude.{Bool, true, false, ◌∷◌, None, Ok}
use Rattle.granit_base.specs.Place.{Mark}
use Rattle.granit_base.specs.declared.style.StructureStyle.TheVariants.{Flow}
use Rattle.granit_error.specs.FaultKind.{UnexpectedEofImplicitFlowMapping, ExpectedFlowMappingSeparator}
use Rattle.granit_error.specs.FaultKind.{ExpectedFlowSequenceSeparator}
use Rattle.granit_error.specs.OptionsData.{OptionsData}
use Rattle.granit_lexemes.specs.PlainEvent.{event_at, MappingStart}
use Rattle.granit_machine.specs.Frames.{PairStage, BeforePair, AtKey, BehindKey, AtQuestion, BehindQuestion, AtValue}
use Rattle.granit_machine.specs.Frames.{Frame, FlowSequence, FlowMapping, FlowPair, ParserState}
use Rattle.granit_machine.specs.Giving.{null_at, flush, give}
use Rattle.granit_machine.specs.NodeEnds.{owed, end_node, waits, with_top}
use Rattle.granit_machine.specs.NodeSteps.{Stepped, misplaced, bare}
use Rattle.granit_machine.specs.TokenSort.{TokenSort, BeginsKey, BeginsNode, QuestionToken, BareColon, KeyedColon}
use Rattle.granit_machine.specs.TokenSort.{CommaToken, SequenceCloser, MappingCloser, Token}

-- a closer, whose event ends behind it
abbrev pub close_flow : Token → ParserState → ParserState
close_flow t p = end_node t.lexeme.start (record { start = t.lexeme.start; end = t.lexeme.shown.end }) p

abbrev pub flow_at : Bool → PairStage → ParserState → ParserState
flow_at single stage p = with_top (FlowMapping single stage) (flush p)

abbrev pub flow_colon : OptionsData → Token → Bool → ParserState → ParserState
flow_colon o t single p = waits t.lexeme.start o.max_buffered_comment_events (flow_at single AtValue p)

-- a single pair of a flow sequence begins
abbrev pub begin_pair : Token → Mark → Frame → ParserState → ParserState
begin_pair t end frame p =
    let q = give (event_at (MappingStart Flow 0 None) (record { start = t.lexeme.start; end = end })) p in
    record q { frames = frame ∷ q.frames }

abbrev pub at_entry : OptionsData → Token → TokenSort → ParserState → Stepped
at_entry o t SequenceCloser p = Ok (close_flow t p)
at_entry o t QuestionToken p = Ok (begin_pair t t.lexeme.shown.end (FlowPair AtQuestion) p)
at_entry o t BareColon p =
    Ok (flow_colon o t true
    (give (null_at t.lexeme.start) (begin_pair t t.lexeme.start (FlowMapping true BeforePair) p)))
at_entry o t BeginsKey p = bare o t (begin_pair t t.lexeme.start (FlowMapping true AtKey) p)
at_entry o t BeginsNode p = bare o t p
at_entry o t sort p = misplaced UnexpectedEofImplicitFlowMapping t

abbrev pub behind_entry_of : Token → TokenSort → ParserState → Stepped
behind_entry_of t SequenceCloser p = Ok (close_flow t p)
behind_entry_of t CommaToken p = Ok (with_top (FlowSequence false) p)
behind_entry_of t sort p = misplaced ExpectedFlowSequenceSeparator t

abbrev pub in_flow_sequence : OptionsData → Token → Bool → ParserState → Stepped
in_flow_sequence o t false p = at_entry o t t.sort p
in_flow_sequence o t true p = behind_entry_of t t.sort p

abbrev pub in_flow_mapping_by : OptionsData → Token → Bool → PairStage → TokenSort → ParserState → Stepped
in_flow_mapping_by o t single AtKey BeginsNode p = bare o t p
in_flow_mapping_by o t single AtKey sort p = misplaced UnexpectedEofImplicitFlowMapping t
in_flow_mapping_by o t single BehindKey KeyedColon p = Ok (flow_colon o t single p)
in_flow_mapping_by o t single BehindKey sort p = misplaced ExpectedFlowMappingSeparator t
in_flow_mapping_by o t single stage MappingCloser p = Ok (close_flow t p)
in_flow_mapping_by o t single BeforePair CommaToken p = misplaced UnexpectedEofImplicitFlowMapping t
in_flow_mapping_by o t single stage CommaToken p = Ok (flow_at single BeforePair (owed t.lexeme.start p))
in_flow_mapping_by o t single BeforePair QuestionToken p = Ok (flow_at single AtQuestion p)
in_flow_mapping_by o t single BeforePair BeginsKey p = bare o t (flow_at single AtKey p)
in_flow_mapping_by o t single BeforePair BareColon p = Ok (flow_colon o t single (give (null_at t.lexeme.start) p))
in_flow_mapping_by o t single AtQuestion BareColon p = Ok (flow_colon o t single (give (null_at t.lexeme.start) p))
in_flow_mapping_by o t single BehindQuestion BareColon p = Ok (flow_colon o t single p)
in_flow_mapping_by o t single BeforePair BeginsNode p = bare o t p
in_flow_mapping_by o t single AtQuestion BeginsNode p = bare o t p
in_flow_mapping_by o t single AtValue BeginsNode p = bare o t p
in_flow_mapping_by o t single BeforePair sort p = misplaced UnexpectedEofImplicitFlowMapping t
in_flow_mapping_by o t single AtQuestion sort p = misplaced UnexpectedEofImplicitFlowMapping t
in_flow_mapping_by o t single AtValue sort p = misplaced UnexpectedEofImplicitFlowMapping t
in_flow_mapping_by o t single stage sort p = misplaced ExpectedFlowMappingSeparator t

-- what closing leaves behind the key of such a pair is its `:`
abbrev pub in_flow_pair : OptionsData → Token → PairStage → TokenSort → ParserState → Stepped
in_flow_pair o t BehindQuestion sort p = Ok (with_top (FlowPair AtValue) p)
in_flow_pair o t stage BeginsNode p = bare o t p
in_flow_pair o t stage sort p = misplaced UnexpectedEofImplicitFlowMapping t
