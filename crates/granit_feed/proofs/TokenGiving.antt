-- Tokens that give an event, whatever they are refused for, and those before which nothing ends.
use Rattle.std.proofs.Common.{◌≡◌, ℕ, Bool, true, false, if◌then◌else◌, List, [], ◌∷◌, Option, Result, Ok}
use Rattle.std.proofs.Common.{refl, sym, ap, subst, arith, ◌∙◌}
use Rattle.granit_error.specs.FaultKind.{UnexpectedEofBlockSequence}
use Rattle.granit_error.specs.OptionsData.{OptionsData}
use Rattle.granit_error.specs.Refused.{Refused}
use Rattle.granit_lexemes.specs.Outcome.{◌>>=◌}
use Rattle.granit_machine.specs.Closing.{close}
use Rattle.granit_machine.specs.Frames.{Frame, Root, WithProperties, NodeProperties, Inside, ParserState}
use Rattle.granit_machine.specs.Giving.{give}
use Rattle.granit_machine.specs.NodeSteps.{Stepped, misplaced, node}
use Rattle.granit_machine.specs.Parser.{take_in, take_lexeme, take_token}
use Rattle.granit_machine.specs.StreamSteps.{bare_start, begin_document, when_fresh}
use Rattle.granit_machine.specs.TokenSort.{Token, begins_node}
use Rattle.granit_frames.specs.Wanting.{keeps_text, StepWantsToGive}
use Rattle.granit_frames.proofs.CloseLemmas.{closed_all}
use Rattle.granit_nodes.proofs.GivenLemmas.{give_events, first_events, first_gives}
use Rattle.granit_items.specs.ItemViews.{kind_view}
use Rattle.granit_items.specs.declared.item.LexemeKind.{LexemeKind}
use Rattle.granit_items.specs.declared.item.LexemeKind.TheVariants as kinds
use Rattle.granit_feed.specs.Eventless.{StaysAlone, TokenTakesToGive}
use Rattle.granit_feed.proofs.TailLemmas.{without_tail}

module _ (o : OptionsData) (t : Token) {X : Type 0} (r : Result X Refused) (p : ParserState)
    (none : keeps_text t.lexeme.kind ≡ false) where
  or_misplaced : (b : Bool) (s : Stepped) → StepWantsToGive r p s
      → StepWantsToGive r p (if b then s else misplaced UnexpectedEofBlockSequence t)
  or_misplaced true s gives = gives
  or_misplaced false s gives = λ q is few. absurd cc

  -- a document without `---`
  pub document_gives : StepWantsToGive r p (begin_document o t p)
  document_gives =
      let fresh : ParserState = record p { names = []; handles = []; stage = Inside } in
      let q = give (bare_start t.sort t) fresh in
      let begun : ParserState = record q { frames = Root false ∷ q.frames } in
      or_misplaced (begins_node t.sort) (node o t begun)
      (λ s is few.
      let less = first_events o t begun s none is in
      absurd (omega (arith, few, less, give_events (bare_start t.sort t) fresh)))

  -- a lexeme that begins one
  pub fresh_gives : (k : LexemeKind) → ((a : _) (b : _) → k ≡ kinds.Version a b → ⊥)
      → ((a : _) (b : _) → k ≡ kinds.TagPrefix a b → ⊥) → ((a : _) (b : _) → k ≡ kinds.Reserved a b → ⊥)
      → (k ≡ kinds.DocumentStart → ⊥) → (k ≡ kinds.DocumentEnd → ⊥) → (k ≡ kinds.StreamEnd → ⊥)
      → StepWantsToGive r p (when_fresh o (kind_view k) t p)
  fresh_gives (kinds.Version a b) version prefix reserved start end last = absurd (version a b refl)
  fresh_gives (kinds.TagPrefix a b) version prefix reserved start end last = absurd (prefix a b refl)
  fresh_gives (kinds.Reserved a b) version prefix reserved start end last = absurd (reserved a b refl)
  fresh_gives kinds.DocumentStart version prefix reserved start end last = absurd (start refl)
  fresh_gives kinds.DocumentEnd version prefix reserved start end last = absurd (end refl)
  fresh_gives kinds.StreamEnd version prefix reserved start end last = absurd (last refl)
  fresh_gives (kinds.Open b) version prefix reserved start end last = document_gives
  fresh_gives (kinds.Close b) version prefix reserved start end last = document_gives
  fresh_gives kinds.Comma version prefix reserved start end last = document_gives
  fresh_gives kinds.Dash version prefix reserved start end last = document_gives
  fresh_gives kinds.Question version prefix reserved start end last = document_gives
  fresh_gives kinds.Colon version prefix reserved start end last = document_gives
  fresh_gives (kinds.Alias name) version prefix reserved start end last = document_gives
  fresh_gives (kinds.Anchor name) version prefix reserved start end last = document_gives
  fresh_gives (kinds.Tag handle suffix) version prefix reserved start end last = document_gives
  fresh_gives (kinds.Scalar style text) version prefix reserved start end last = document_gives

  pub root_gives : (explicit : Bool) (fs : List Frame) → p.frames ≡ Root explicit ∷ fs
      → StepWantsToGive r p (take_token o t p)
  root_gives explicit fs is =
      subst (λ (gs : List Frame). StepWantsToGive r p (take_in o gs t p)) (sym is)
      (or_misplaced (begins_node t.sort) (node o t p) (first_gives o t r p none))

  pub properties_give : (q : NodeProperties) (fs : List Frame) → p.frames ≡ WithProperties q ∷ fs
      → StepWantsToGive r p (take_token o t p)
  properties_give q fs is =
      subst (λ (gs : List Frame). StepWantsToGive r p (take_in o gs t p)) (sym is) (first_gives o t r p none)

module _ (o : OptionsData) (t : Token) (next : Option ℕ) (p : ParserState) where
  -- where nothing ends before a token, its step is that of the lexeme
  module _ (alone : StaysAlone t p) where
    closes_none : close o t p ≡ Ok p
    closes_none = closed_all o t p alone.stays

    taken_alone : take_lexeme o t next p ≡ take_token o t p
    taken_alone = without_tail o t next p alone.tailless ∙ ap (λ (r : Stepped). r >>= take_token o t) closes_none

    pub alone_wants : {X : Type 0} (q : ParserState) (r : Result X Refused) → close o t p ≡ Ok q
        → (q ≡ p → StepWantsToGive r q (take_token o t q)) → StepWantsToGive r p (take_lexeme o t next p)
    alone_wants q r closed wants = λ s is few.
        let both : Ok q ≡ Ok p = sym closed ∙ closes_none in
        let same : q ≡ p = cc in
        subst (λ (n : ParserState). StepWantsToGive r n (take_token o t n)) same (wants same) s
        (sym taken_alone ∙ is) few

  pub token_wants : TokenTakesToGive t p → {X : Type 0} (q : ParserState) (r : Result X Refused) → close o t p ≡ Ok q
      → (keeps_text t.lexeme.kind ≡ false → StepWantsToGive r q (take_token o t q))
      → StepWantsToGive r p (take_lexeme o t next p)
  token_wants takes q r closed wants =
      alone_wants (record { stays = takes.stays; tailless = takes.tailless }) q r closed (λ same. wants takes.textless)
