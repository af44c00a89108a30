-- A lexeme before which nothing ends, and behind which no comment is taken, is refused as its token is.
use Rattle.std.proofs.Common.{◌≡◌, ℕ, true, [], Option, None, Result, Ok, sym, ap, ◌∙◌}
use Rattle.granit_error.specs.OptionsData.{OptionsData}
use Rattle.granit_error.specs.Refused.{Refused}
use Rattle.granit_lexemes.specs.Outcome.{◌>>=◌}
use Rattle.granit_machine.specs.Closing.{close}
use Rattle.granit_machine.specs.Frames.{ParserState}
use Rattle.granit_machine.specs.NodeSteps.{Stepped}
use Rattle.granit_machine.specs.Parser.{take_lexeme, take_token}
use Rattle.granit_machine.specs.TokenSort.{BeginsKey, is_dash_token, Token}
use Rattle.granit_frames.specs.Refusing.{RefusesByFault}
use Rattle.granit_frames.proofs.CloseLemmas.{closed_all}
use Rattle.granit_feed.specs.AtOnce.{outside_at_once, TokenAtOnce}
use Rattle.granit_feed.proofs.TailLemmas.{without_tail}

module _ (o : OptionsData) (t : Token) (next : Option ℕ) (p : ParserState) (at_once : TokenAtOnce t p) where
  closes_none : close o t p ≡ Ok p
  closes_none = closed_all o t p at_once.stays

  taken_alone : take_lexeme o t next p ≡ take_token o t p
  taken_alone =
      without_tail o t next p at_once.tailless ∙ ap (λ (r : Stepped). r >>= take_token o t) closes_none

  same_state : (q : ParserState) → close o t p ≡ Ok q → q ≡ p
  same_state q closed =
      let both : Ok q ≡ Ok p = sym closed ∙ closes_none in
      cc

  -- what the token's step answers behind closing, the lexeme's answers
  pub token_refuses : {X : Type 0} (q : ParserState) (r : Result X Refused) → close o t p ≡ Ok q
      → ((t.sort ≡ BeginsKey → ⊥) → (is_dash_token t.sort ≡ true → q.waiting ≡ None)
      → (q.frames ≡ [] → outside_at_once q.stage t.sort ≡ true) → RefusesByFault r (take_token o t q))
      → RefusesByFault r (take_lexeme o t next p)
  token_refuses q r closed by_fault = λ f fails.
      let same = same_state q closed in
      (rw same at by_fault) at_once.keyless at_once.dash at_once.outer f (sym taken_alone ∙ fails)
