-- Steps in a flow collection that give an event, whatever they are refused for.
use Rattle.std.proofs.Common.{◌≡◌, ◌≤◌, ◌<◌, Bool, true, false, Result, Ok, refl, arith}
use Rattle.granit_base.specs.Place.{Mark}
use Rattle.granit_error.specs.OptionsData.{OptionsData}
use Rattle.granit_error.specs.Refused.{Refused}
use Rattle.granit_machine.specs.FlowSteps.{close_flow, flow_at, flow_colon, begin_pair, at_entry, behind_entry_of}
use Rattle.granit_machine.specs.FlowSteps.{in_flow_mapping_by, in_flow_pair}
use Rattle.granit_machine.specs.Frames.{PairStage, BeforePair, AtKey, BehindKey, AtQuestion, BehindQuestion, AtValue}
use Rattle.granit_machine.specs.Frames.{BehindAlone, BehindPair, FlowMapping, FlowPair, Frame, ParserState}
use Rattle.granit_machine.specs.Giving.{null_at, give}
use Rattle.granit_machine.specs.NodeSteps.{bare}
use Rattle.granit_machine.specs.TokenSort.{TokenSort, BeginsKey, BeginsNode, QuestionToken, BareColon}
use Rattle.granit_machine.specs.TokenSort.{SequenceCloser, MappingCloser, Token}
use Rattle.granit_frames.specs.Wanting.{keeps_text, StepWantsToGive}
use Rattle.granit_nesting.specs.FrameViews.{pair_view}
use Rattle.granit_nesting.specs.declared.frames.PairStage as pairs
use Rattle.granit_nesting.specs.declared.frames.PairStage.TheVariants as stages
use Rattle.granit_nodes.proofs.GivenLemmas.{given_count, flush_events, give_events, bare_events, end_events, bare_gives}

-- what leaves more events wants no fewer
more_wants : {X : Type 0} (r : Result X Refused) (p q : ParserState) → given_count p < given_count q
    → StepWantsToGive r p (Ok q)
more_wants r p q less = λ s is few.
    let same : q ≡ s = cc in
    absurd (omega (arith, few, (rw same at less)))

close_gives : {X : Type 0} (t : Token) (r : Result X Refused) (p : ParserState)
    → StepWantsToGive r p (Ok (close_flow t p))
close_gives t r p =
    more_wants r p (close_flow t p)
    (end_events t.lexeme.start (record { start = t.lexeme.start; end = t.lexeme.shown.end }) p)

pub sequence_closer_gives : {X : Type 0} (t : Token) (r : Result X Refused) (p : ParserState) (sort : TokenSort)
    → sort ≡ SequenceCloser → StepWantsToGive r p (behind_entry_of t sort p)
sequence_closer_gives t r p sort is = rw is (close_gives t r p)

module _ (o : OptionsData) (t : Token) {X : Type 0} (r : Result X Refused) (p : ParserState) where
  pub entry_closer_gives : (sort : TokenSort) → sort ≡ SequenceCloser → StepWantsToGive r p (at_entry o t sort p)
  entry_closer_gives sort is = rw is (close_gives t r p)

  colon_events : (single : Bool) (q : ParserState) → given_count q ≤ given_count (flow_colon o t single q)
  colon_events single q = omega (arith, flush_events q, flush_events (flow_at single AtValue q))

  null_gives : (single : Bool) (q : ParserState) → given_count p ≤ given_count q
      → StepWantsToGive r p (Ok (flow_colon o t single (give (null_at t.lexeme.start) q)))
  null_gives single q less =
      let e = null_at t.lexeme.start in
      more_wants r p (flow_colon o t single (give e q))
      (omega (arith, less, give_events e q, colon_events single (give e q)))

  pub closer_gives : (single : Bool) (stage : PairStage) (sort : TokenSort) → sort ≡ MappingCloser
      → StepWantsToGive r p (in_flow_mapping_by o t single stage sort p)
  closer_gives single AtKey sort is = rw is λ q left few. absurd cc
  closer_gives single BehindKey sort is = rw is λ q left few. absurd cc
  closer_gives single BeforePair sort is = rw is (close_gives t r p)
  closer_gives single AtQuestion sort is = rw is (close_gives t r p)
  closer_gives single BehindQuestion sort is = rw is (close_gives t r p)
  closer_gives single AtValue sort is = rw is (close_gives t r p)
  closer_gives single BehindAlone sort is = rw is (close_gives t r p)
  closer_gives single BehindPair sort is = rw is (close_gives t r p)

  -- the `:` of an empty key
  pub first_colon_gives : (single : Bool) (sort : TokenSort) → sort ≡ BareColon
      → StepWantsToGive r p (in_flow_mapping_by o t single BeforePair sort p)
  first_colon_gives single sort is = rw is (null_gives single p (omega arith))

  pub question_colon_gives : (single : Bool) (sort : TokenSort) → sort ≡ BareColon
      → StepWantsToGive r p (in_flow_mapping_by o t single AtQuestion sort p)
  question_colon_gives single sort is = rw is (null_gives single p (omega arith))

  module _ (none : keeps_text t.lexeme.kind ≡ false) where
    bare_more : (q : ParserState) → given_count p ≤ given_count q → StepWantsToGive r p (bare o t q)
    bare_more q more = λ s is few.
        let less = bare_events o t q s none is in
        absurd (omega (arith, few, less, more))

    -- a node
    pub node_gives : (single : Bool) (stage : PairStage) (sort : TokenSort) → sort ≡ BeginsNode
        → StepWantsToGive r p (in_flow_mapping_by o t single stage sort p)
    node_gives single AtKey sort is = rw is (bare_gives o t r p none)
    node_gives single BehindKey sort is = rw is λ q left few. absurd cc
    node_gives single BeforePair sort is = rw is (bare_gives o t r p none)
    node_gives single AtQuestion sort is = rw is (bare_gives o t r p none)
    node_gives single BehindQuestion sort is = rw is λ q left few. absurd cc
    node_gives single AtValue sort is = rw is (bare_gives o t r p none)
    node_gives single BehindAlone sort is = rw is λ q left few. absurd cc
    node_gives single BehindPair sort is = rw is λ q left few. absurd cc

    -- a simple key
    pub pair_gives : (single : Bool) (sort : TokenSort) → sort ≡ BeginsKey
        → StepWantsToGive r p (in_flow_mapping_by o t single BeforePair sort p)
    pair_gives single sort is = rw is (bare_more (flow_at single AtKey p) (flush_events p))

    begun_events : (end : Mark) (frame : Frame) → given_count p < given_count (begin_pair t end frame p)
    begun_events end frame = give_events _ p

    -- any entry of a sequence
    pub entry_gives : (sort : TokenSort) → StepWantsToGive r p (at_entry o t sort p)
    entry_gives SequenceCloser = close_gives t r p
    entry_gives QuestionToken =
        more_wants r p (begin_pair t t.lexeme.shown.end (FlowPair AtQuestion) p)
        (begun_events t.lexeme.shown.end (FlowPair AtQuestion))
    entry_gives BareColon =
        null_gives true (begin_pair t t.lexeme.start (FlowMapping true BeforePair) p)
        (omega (arith, begun_events t.lexeme.start (FlowMapping true BeforePair)))
    entry_gives BeginsKey =
        bare_more (begin_pair t t.lexeme.start (FlowMapping true AtKey) p)
        (omega (arith, begun_events t.lexeme.start (FlowMapping true AtKey)))
    entry_gives BeginsNode = bare_gives o t r p none
    entry_gives sort = λ q left few. absurd cc

    -- a node where only one may stand
    pub key_gives : (single : Bool) (sort : TokenSort)
        → StepWantsToGive r p (in_flow_mapping_by o t single AtKey sort p)
    key_gives single BeginsNode = bare_gives o t r p none
    key_gives single sort = λ q left few. absurd cc

    pub value_gives : (stage : pairs.PairStage) → (stage ≡ stages.BehindQuestion → ⊥) → (sort : TokenSort)
        → StepWantsToGive r p (in_flow_pair o t (pair_view stage) sort p)
    value_gives stages.BehindQuestion other sort = absurd (other refl)
    value_gives stages.BeforePair other BeginsNode = bare_gives o t r p none
    value_gives stages.BeforePair other sort = λ q left few. absurd cc
    value_gives stages.AtKey other BeginsNode = bare_gives o t r p none
    value_gives stages.AtKey other sort = λ q left few. absurd cc
    value_gives stages.BehindKey other BeginsNode = bare_gives o t r p none
    value_gives stages.BehindKey other sort = λ q left few. absurd cc
    value_gives stages.AtQuestion other BeginsNode = bare_gives o t r p none
    value_gives stages.AtQuestion other sort = λ q left few. absurd cc
    value_gives stages.AtValue other BeginsNode = bare_gives o t r p none
    value_gives stages.AtValue other sort = λ q left few. absurd cc
    value_gives stages.BehindAlone other BeginsNode = bare_gives o t r p none
    value_gives stages.BehindAlone other sort = λ q left few. absurd cc
    value_gives stages.BehindPair other BeginsNode = bare_gives o t r p none
    value_gives stages.BehindPair other sort = λ q left few. absurd cc
