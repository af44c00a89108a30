-- A block scalar whole, as the code has it.
use Rattle.std.proofs.Common.{◌≡◌, Bool, [], Option, ◌⊎◌, Result, Ok, Err, IfOk, IfErr, refl, sym, ap, subst}
use Rattle.granit_error.specs.FaultKind.{NoMemory}
use Rattle.granit_error.specs.Refused.{Refused}
use Rattle.granit_lexemes.specs.BlockExtent.{AnswersBlock, RefusesBlock}
use Rattle.granit_lexemes.specs.BlockHeader.{BlockHeader, block_header}
use Rattle.granit_lexemes.specs.BlockScalar.{BlockRead, BlockGiven, block_body, block_scalar}
use Rattle.granit_lexemes.specs.Comment.{CommentRead}
use Rattle.granit_lexemes.specs.Here.{Here, mark_of}
use Rattle.granit_lexemes.specs.LayoutData.{LayoutData}
use Rattle.granit_lexemes.specs.Outcome.{Fault, ◌>>=◌}
use Rattle.granit_lexemes.specs.Tail.{tail_at}
use Rattle.granit_scalars.proofs.Nameless.{IsNameless}
use Rattle.granit_blocks.proofs.BlockLaw.{given_on, tail_then, block_refused, block_standing, block_is_answered}
use Rattle.granit_cursor.specs.Reading.{GivesTo, coded}
use Rattle.granit_cursor.specs.declared.token.Lexed.{Lexed}
use Rattle.granit_cursor.proofs.GivenLemmas.{same_ok, given_cause, given_answered}
use Rattle.granit_block.specs.BlockCode.{asked_note, block_lexed, block_lexed_at, body_read, tail_read, block_chained}

module _ (at : LayoutData) (literal : Bool) (h : Here) where
  abbrev given_from : Result (BlockGiven × Here) Fault → Result (Lexed × Here) Fault
  given_from r = r >>= λ x. Ok (block_lexed at literal x.0 x.1, x.1)

  abbrev scalar : Result (BlockGiven × Here) Fault
  scalar = block_scalar literal at.block_column h

  -- ---- part by part

  body_same : (noted : Option CommentRead) (r : Result (BlockRead × Here) Fault)
      → given_from (given_on noted r) ≡ body_read literal (asked_note at noted) r
  body_same noted (Ok x) = refl
  body_same noted (Err f) = refl

  tail_same : (header : BlockHeader) (r : Result (Option CommentRead × Here) Fault)
      → given_from (tail_then literal at.block_column h header r)
      ≡ tail_read at literal (mark_of h) header (r >>= λ x. Ok (asked_note at x.0, x.1))
  tail_same header (Ok (noted, i)) = body_same noted (block_body literal header at.block_column (mark_of h) i)
  tail_same header (Err f) = refl

  header_same : (r : Result (BlockHeader × Here) Fault)
      → given_from (r >>= λ x. tail_then literal at.block_column h x.0 (tail_at x.1))
      ≡ (r >>= λ x. tail_read at literal (mark_of h) x.0 (tail_at x.1 >>= λ y. Ok (asked_note at y.0, y.1)))
  header_same (Ok (header, g)) = tail_same header (tail_at g)
  header_same (Err f) = refl

  pub chain_is : block_lexed_at at literal h ≡ block_chained at literal h
  unfolding block_scalar
  chain_is = header_same (block_header h)

  -- ---- what is true of it

  abbrev ended : Result (BlockGiven × Here) Fault → Result ((BlockGiven × Here) × Here) Fault
  ended r = r >>= λ x. Ok (x, x.1)

  abbrev lexed : BlockGiven × Here → Lexed
  lexed x = block_lexed at literal x.0 x.1

  ended_same : (r : Result (BlockGiven × Here) Fault) → given_from r ≡ coded lexed (ended r)
  ended_same (Ok x) = refl
  ended_same (Err f) = refl

  ended_fails : (r : Result (BlockGiven × Here) Fault) (f : Fault) → ended r ≡ Err f → r ≡ Err f
  ended_fails (Ok x) f e = absurd cc
  ended_fails (Err g) f e = let same : g ≡ f = cc in ap (λ (u : Fault). Err u) same

  module _ (Lands : Here → Type 0) where
    stands_on : (r : Result (BlockGiven × Here) Fault) (l : Lexed) (after : Here) → scalar ≡ r → Lands after
        → given_from r ≡ Ok (l, after)
        → (given : BlockGiven) × (a : Here) × AnswersBlock literal at.block_column h given a
        × (l ≡ block_lexed at literal given a) × Lands a
    stands_on (Ok (given, a)) l after is lands e =
        let same = same_ok (block_lexed at literal given a, a) (l, after) e in (
          given,
          a,
          block_standing literal at.block_column h given a is,
          sym (ap (λ (p : Lexed × Here). p.0) same),
          subst Lands (sym (ap (λ (p : Lexed × Here). p.1) same)) lands,
        )
    stands_on (Err f) l after is lands e = absurd cc

    pub scalar_stands : (result : Result Lexed Refused) → GivesTo (λ l. l) result Lands (block_lexed_at at literal h)
        → IfOk result (λ l. (given : BlockGiven) × (a : Here) × AnswersBlock literal at.block_column h given a
        × (l ≡ block_lexed at literal given a) × Lands a)
    scalar_stands (Ok l) given = stands_on scalar l given.0 refl given.1 given.2
    scalar_stands (Err e) given = tt

    as_coded : (result : Result Lexed Refused) → GivesTo (λ l. l) result Lands (block_lexed_at at literal h)
        → GivesTo (λ l. l) result Lands (coded lexed (ended scalar))
    as_coded result given = subst (λ (r : Result (Lexed × Here) Fault). GivesTo (λ l. l) result Lands r)
        (ended_same scalar) given

    nameless : IsNameless (ended scalar)
    nameless = record { none = λ f e. (block_refused literal at.block_column h f (ended_fails scalar f e)).1 }

    pub scalar_cause : (result : Result Lexed Refused) → GivesTo (λ l. l) result Lands (block_lexed_at at literal h)
        → IfErr result (λ e. (e.kind ≡ NoMemory)
        ⊎ (RefusesBlock literal at.block_column h e.kind e.mark × (e.sources ≡ [])))
    scalar_cause result given =
        given_cause lexed Lands (RefusesBlock literal at.block_column h) (ended scalar) result
        (λ f e. (block_refused literal at.block_column h f (ended_fails scalar f e)).0) nameless
        (as_coded result given)

    pub scalar_answered : (result : Result Lexed Refused) (given : BlockGiven) (after : Here)
        → AnswersBlock literal at.block_column h given after
        → GivesTo (λ l. l) result Lands (block_lexed_at at literal h)
        → IfErr result (λ e. e.kind ≡ NoMemory)
    scalar_answered result given after answers gives =
        given_answered lexed Lands (ended scalar) result ((given, after), after)
        (ap ended (block_is_answered literal at.block_column h given after answers)) (as_coded result gives)
