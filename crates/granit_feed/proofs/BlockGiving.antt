-- Steps in a block collection that give an event, whatever they are refused for.
use Rattle.std.proofs.Common.{◌≡◌, ◌≤◌, ◌<◌, ◌&&◌, ◌||◌, ℕ, Bool, true, false, if◌then◌else◌, Result, Ok}
use Rattle.std.proofs.Common.{refl, sym, arith, ◌∙◌}
use Rattle.std.specs.Prelude.{not, is_none, Some}
use Rattle.granit_error.specs.FaultKind.{ExpectedBlockSequenceEntry, UnexpectedEofBlockSequence}
use Rattle.granit_error.specs.FaultKind.{ExpectedBlockMappingKey, UnexpectedEofBlockMapping}
use Rattle.granit_error.specs.OptionsData.{OptionsData}
use Rattle.granit_error.specs.Refused.{Refused}
use Rattle.granit_lexemes.specs.PlainEvent.{PlainEvent}
use Rattle.granit_machine.specs.BlockSteps.{in_sequence, mapping_at, mapping_colon, bare_colon_in_mapping, next_pair}
use Rattle.granit_machine.specs.BlockSteps.{takes_node, behind_indicator, at_block_key}
use Rattle.granit_machine.specs.Frames.{PairStage, AtKey, AtValue, ParserState}
use Rattle.granit_machine.specs.Giving.{null_at, with_indent, give, give_empty}
use Rattle.granit_machine.specs.NodeEnds.{owed}
use Rattle.granit_machine.specs.NodeSteps.{Stepped, misplaced, NextEntry, take_dash, bare, node}
use Rattle.granit_machine.specs.TokenSort.{TokenSort, BeginsKey, BeginsNode, Token, begins_node, begins_pair}
use Rattle.granit_machine.specs.TokenSort.{is_dash_token, token_column, is_in_column, is_right_of}
use Rattle.granit_frames.specs.Wanting.{keeps_text, StepWantsToGive}
use Rattle.granit_nesting.specs.FrameViews.{pair_view}
use Rattle.granit_nesting.specs.declared.frames.PairStage as pairs
use Rattle.granit_nesting.specs.declared.frames.PairStage.TheVariants as stages
use Rattle.granit_nodes.proofs.GivenLemmas.{given_count, flush_events, give_events, owed_events, bare_events}
use Rattle.granit_nodes.proofs.GivenLemmas.{next_events, bare_gives, first_gives}

module _ (o : OptionsData) (t : Token) (column : ℕ) where
  colon_events : (p : ParserState) → given_count p ≤ given_count (mapping_colon o t column p)
  colon_events p = omega (arith, flush_events p, flush_events (mapping_at column AtValue p))

  -- an empty key is given before it
  pub given_colon : (e : PlainEvent) (p q : ParserState) → given_count p ≤ given_count q
      → given_count p < given_count (mapping_colon o t column (give e q))
  given_colon e p q less = omega (arith, less, give_events e q, colon_events (give e q))

  -- a key begins behind what is owed
  key_events : (p q : ParserState) → keeps_text t.lexeme.kind ≡ false
      → bare o t (mapping_at column AtKey (owed t.lexeme.start p)) ≡ Ok q → given_count p < given_count q
  key_events p q none is =
      let r = owed t.lexeme.start p in
      omega (arith, owed_events t.lexeme.start p, flush_events r, bare_events o t (mapping_at column AtKey r) q none is)

  behind_owed : (p : ParserState)
      → given_count p < given_count (mapping_colon o t column (give (null_at t.lexeme.start) (owed t.lexeme.start p)))
  behind_owed p = given_colon (null_at t.lexeme.start) p (owed t.lexeme.start p) (owed_events t.lexeme.start p)

  -- a `:` without a key, unless a `?` stands before it
  pub null_colon : (stage : pairs.PairStage) (p : ParserState) → (stage ≡ stages.BehindQuestion → ⊥)
      → given_count p < given_count (bare_colon_in_mapping o t column (pair_view stage) p)
  null_colon stages.BeforePair p other = behind_owed p
  null_colon stages.AtKey p other = behind_owed p
  null_colon stages.BehindKey p other = behind_owed p
  null_colon stages.AtQuestion p other =
      given_colon (with_indent (Some column) (null_at t.lexeme.start)) p p (omega arith)
  null_colon stages.BehindQuestion p other = absurd (other refl)
  null_colon stages.AtValue p other = behind_owed p
  null_colon stages.BehindAlone p other = behind_owed p
  null_colon stages.BehindPair p other = behind_owed p

  module _ {X : Type 0} (r : Result X Refused) (p : ParserState) (none : keeps_text t.lexeme.kind ≡ false) where
    pub pair_gives : (sort : TokenSort) (stage : PairStage) → sort ≡ BeginsKey
        → StepWantsToGive r p (next_pair o t column stage sort p)
    pair_gives sort stage is =
        rw is λ q left few. let less = key_events p q none left in absurd (omega (arith, few, less))

    pub key_gives : (sort : TokenSort) → sort ≡ BeginsNode → StepWantsToGive r p (at_block_key o t sort p)
    key_gives sort is = rw is (bare_gives o t r p none)

    refuses : (b : Bool) (s e : Stepped) → StepWantsToGive r p s → StepWantsToGive r p e
        → StepWantsToGive r p (if b then s else e)
    refuses true s e first second = first
    refuses false s e first second = second

    pub sequence_gives : (indentless : Bool) → (is_dash_token t.sort && is_in_column (token_column t) column) ≡ false
        → StepWantsToGive r p (in_sequence o t column indentless p)
    unfolding in_sequence
    sequence_gives indentless other =
        rw other
        (refuses (is_none p.waiting) (misplaced ExpectedBlockSequenceEntry t) _ (λ q is few. absurd cc)
        (refuses (begins_node t.sort && is_right_of (token_column t) (Some column)) (node o t p)
        (misplaced UnexpectedEofBlockSequence t) (first_gives o t r p none) (λ q is few. absurd cc)))

    pub indicator_gives : (stage : PairStage) → (begins_pair t.sort && is_in_column (token_column t) column) ≡ false
        → StepWantsToGive r p (behind_indicator o t column stage p)
    unfolding behind_indicator
    indicator_gives stage other =
        rw other
        (refuses (not (takes_node stage)) (misplaced ExpectedBlockMappingKey t) _ (λ q is few. absurd cc)
        (refuses ((is_dash_token t.sort && is_in_column (token_column t) column)
        || (begins_node t.sort && is_right_of (token_column t) (Some column))) (node o t p)
        (misplaced UnexpectedEofBlockMapping t) (first_gives o t r p none) (λ q is few. absurd cc)))

  goes_on : (indentless : Bool) (p : ParserState) → is_dash_token t.sort ≡ true
      → is_in_column (token_column t) column ≡ true
      → in_sequence o t column indentless p ≡ take_dash o t NextEntry indentless (give_empty p)
  unfolding in_sequence
  goes_on indentless p dash here = rw (dash, here) refl

  -- an empty node is given before a `-`
  pub dash_events : (indentless : Bool) (p q : ParserState) → is_dash_token t.sort ≡ true
      → is_in_column (token_column t) column ≡ true → in_sequence o t column indentless p ≡ Ok q
      → given_count (give_empty p) ≤ given_count q
  dash_events indentless p q dash here is =
      next_events o t indentless (give_empty p) q (sym (goes_on indentless p dash here) ∙ is)
