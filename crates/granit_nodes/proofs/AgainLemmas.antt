-- What an anchor leaves that comes again.
use Rattle.std.proofs.Common.{◌≡◌, ◌≤◌, ◌<◌, Option, Some, None, Result, Ok, refl, sym, subst, arith}
use Rattle.granit_base.specs.Written.{Written}
use Rattle.granit_error.specs.OptionsData.{OptionsData}
use Rattle.granit_error.specs.Refused.{Refused}
use Rattle.granit_lexemes.specs.Lexeme as lexemes
use Rattle.granit_lexemes.specs.Lexeme.{LexemeKind}
use Rattle.granit_machine.specs.Frames.{AtKey, BlockMapping, ParserState, Waiting}
use Rattle.granit_machine.specs.Giving.{flush, flush_held}
use Rattle.granit_machine.specs.NodeEnds.{begin_block, block_mapping}
use Rattle.granit_machine.specs.NodeSteps.{anchored, bare, bare_by, node, node_by, token_number}
use Rattle.granit_machine.specs.TokenSort.{BeginsKey, Token, TokenSort}
use Rattle.granit_frames.specs.Wanting.{StepWantsToGive}
use Rattle.granit_nodes.proofs.GivenLemmas.{IsLeft, block_events, bound, flush_events, given_count}

-- held comments leave the names of anchors and their number
held_names : (w : Option Waiting) (p : ParserState) → (flush_held w p).names ≡ p.names
held_names None p = refl
held_names (Some w) p = refl

pub flush_names : (p : ParserState) → (flush p).names ≡ p.names
flush_names p = held_names p.waiting p

held_number : (w : Option Waiting) (p : ParserState) → (flush_held w p).count ≡ p.count
held_number None p = refl
held_number (Some w) p = refl

pub flush_number : (p : ParserState) → (flush p).count ≡ p.count
flush_number p = held_number p.waiting p

module _ (o : OptionsData) (t : Token) (name : Written) (anchor : t.lexeme.kind ≡ lexemes.Anchor name) where
  -- its step is that of the held comments and its own
  pub anchored_by : (p q : ParserState) → bare o t p ≡ Ok q → anchored t name (flush p) ≡ q
  anchored_by p q is =
      let here : IsLeft (Ok (anchored t name (flush p))) q =
      subst (λ (k : LexemeKind). IsLeft (bare_by o k t p) q) anchor is in cc

  pub anchor_events : (p q : ParserState) → bare o t p ≡ Ok q → given_count p ≤ given_count q
  anchor_events p q is = rw (sym (anchored_by p q is)) (flush_events p)

  key_events : (p q : ParserState) → node_by o BeginsKey t p ≡ Ok q → given_count p < given_count q
  key_events p q left =
      let f = BlockMapping (token_number t) AtKey in
      let begun = bound (begin_block o block_mapping t.lexeme.start f p) (bare o t) q left in
      omega (
        arith,
        block_events o t block_mapping t.lexeme.start f p begun.0 begun.1,
        anchor_events begun.0 q begun.2,
      )

  -- a mapping begins before it
  pub key_again : {X : Type 0} (r : Result X Refused) (p : ParserState) → t.sort ≡ BeginsKey
      → StepWantsToGive r p (node o t p)
  key_again r p is = subst (λ (sort : TokenSort). StepWantsToGive r p (node_by o sort t p)) (sym is)
      (λ q left few. let less = key_events p q left in absurd (omega (arith, few, less)))

  node_events_by : (sort : TokenSort) (p q : ParserState) → node_by o sort t p ≡ Ok q → given_count p ≤ given_count q
  node_events_by BeginsKey p q left = let less = key_events p q left in omega (arith, less)
  node_events_by sort p q left = anchor_events p q left

  pub node_events : (p q : ParserState) → node o t p ≡ Ok q → given_count p ≤ given_count q
  node_events p q left = node_events_by t.sort p q left
