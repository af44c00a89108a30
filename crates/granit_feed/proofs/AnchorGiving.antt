-- An anchor that comes again: around documents, where an event comes before it, and as a pair's node.
use Rattle.std.proofs.Common.{◌≡◌, Bool, true, false, if◌then◌else◌, [], ◌∷◌, Result, Ok, refl, sym, subst, arith}
use Rattle.granit_base.specs.Written.{Written}
use Rattle.granit_error.specs.FaultKind.{UnexpectedEofBlockSequence}
use Rattle.granit_error.specs.OptionsData.{OptionsData}
use Rattle.granit_error.specs.Refused.{Refused}
use Rattle.granit_frames.specs.Wanting.{StepWantsToGive}
use Rattle.granit_lexemes.specs.Lexeme as lexemes
use Rattle.granit_lexemes.specs.Lexeme.{LexemeKind}
use Rattle.granit_machine.specs.FlowSteps.{in_flow_pair}
use Rattle.granit_machine.specs.Frames.{DocumentStage, Fresh, Directives, Inside, BehindRoot, Between, Root, AtValue}
use Rattle.granit_machine.specs.Frames.{ParserState}
use Rattle.granit_machine.specs.Giving.{give}
use Rattle.granit_machine.specs.NodeSteps.{Stepped, misplaced, node}
use Rattle.granit_machine.specs.StreamSteps.{bare_start, begin_document, behind_directives, behind_root, outside}
use Rattle.granit_machine.specs.StreamSteps.{when_between, when_fresh}
use Rattle.granit_machine.specs.TokenSort.{BeginsNode, Token, TokenSort, begins_node}
use Rattle.granit_nesting.specs.FrameViews.{pair_view}
use Rattle.granit_nesting.specs.declared.frames.PairStage as pairs
use Rattle.granit_nesting.specs.declared.frames.PairStage.TheVariants as stages
use Rattle.granit_nodes.proofs.AgainLemmas.{node_events}
use Rattle.granit_nodes.proofs.GivenLemmas.{give_events}

module _ (o : OptionsData) (t : Token) (name : Written) (anchor : t.lexeme.kind ≡ lexemes.Anchor name) {X : Type 0}
    (r : Result X Refused) (p : ParserState) where
  -- a document begins before it
  document_gives : StepWantsToGive r p (begin_document o t p)
  document_gives = by_sort (begins_node t.sort)
    where
      fresh : ParserState
      fresh = record p { names = []; handles = []; stage = Inside }

      begun : ParserState
      begun = let q = give (bare_start t.sort t) fresh in record q { frames = Root false ∷ q.frames }

      by_sort : (b : Bool) → StepWantsToGive r p (if b then node o t begun else misplaced UnexpectedEofBlockSequence t)
      by_sort true = λ q is few.
          let less = node_events o t name anchor begun q is in
          absurd (omega (arith, few, less, give_events (bare_start t.sort t) fresh))
      by_sort false = λ q is few. absurd cc

  -- around documents
  pub outside_gives : (stage : DocumentStage) → StepWantsToGive r p (outside o stage t p)
  outside_gives Fresh =
      subst (λ (k : LexemeKind). StepWantsToGive r p (when_fresh o k t p)) (sym anchor) document_gives
  outside_gives (Directives version) =
      subst (λ (k : LexemeKind). StepWantsToGive r p (behind_directives o k t version p)) (sym anchor)
      (λ q is few. absurd cc)
  outside_gives BehindRoot =
      subst (λ (k : LexemeKind). StepWantsToGive r p (behind_root k t p)) (sym anchor) (λ q is few. absurd cc)
  outside_gives Between =
      subst (λ (k : LexemeKind). StepWantsToGive r p (when_between k t p)) (sym anchor) (λ q is few. absurd cc)
  outside_gives Inside = λ q is few. absurd cc

module _ (o : OptionsData) (t : Token) {X : Type 0} (r : Result X Refused) (p : ParserState) where
  -- a pair's node, wherever it stands
  pub pair_node_again : (stage : pairs.PairStage) → (stage ≡ stages.BehindQuestion → ⊥) → (sort : TokenSort)
      → StepWantsToGive r p (in_flow_pair o t AtValue sort p)
      → StepWantsToGive r p (in_flow_pair o t (pair_view stage) sort p)
  pair_node_again stages.BehindQuestion other sort wants = absurd (other refl)
  pair_node_again stages.AtValue other sort wants = wants
  pair_node_again stages.BeforePair other BeginsNode wants = wants
  pair_node_again stages.BeforePair other sort wants = λ q left few. absurd cc
  pair_node_again stages.AtKey other BeginsNode wants = wants
  pair_node_again stages.AtKey other sort wants = λ q left few. absurd cc
  pair_node_again stages.BehindKey other BeginsNode wants = wants
  pair_node_again stages.BehindKey other sort wants = λ q left few. absurd cc
  pair_node_again stages.AtQuestion other BeginsNode wants = wants
  pair_node_again stages.AtQuestion other sort wants = λ q left few. absurd cc
  pair_node_again stages.BehindAlone other BeginsNode wants = wants
  pair_node_again stages.BehindAlone other sort wants = λ q left few. absurd cc
  pair_node_again stages.BehindPair other BeginsNode wants = wants
  pair_node_again stages.BehindPair other sort wants = λ q left few. absurd cc
