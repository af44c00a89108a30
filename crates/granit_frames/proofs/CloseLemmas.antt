-- Closing, one frame at a time.
use Rattle.std.proofs.Common.{◌≡◌, ◌<◌, true, false, [], Some, None, Ok, refl, sym, ap, ◌∙◌}
use Rattle.granit_error.specs.OptionsData.{OptionsData}
use Rattle.granit_lexemes.specs.Outcome.{◌>>=◌}
use Rattle.granit_lexemes.specs.Pieces.{pieces}
use Rattle.granit_lexemes.proofs.PieceLemmas.{with_front-nil, pieces_done, pieces_more}
use Rattle.granit_machine.specs.Closing.{ends_top, end_top, close_turn, depth, close}
use Rattle.granit_machine.specs.Frames.{ParserState}
use Rattle.granit_machine.specs.TokenSort.{Token}
use Rattle.granit_machine.proofs.ClosingLemmas.{close_turn-Shortens}

ending_turn : (o : OptionsData) (t : Token) (p : ParserState) → ends_top t p p.frames ≡ true
    → close_turn o t p ≡ Ok (Some [], end_top o t p p.frames)
unfolding close_turn
ending_turn o t p ends = rw ends refl

last_turn : (o : OptionsData) (t : Token) (p : ParserState) → ends_top t p p.frames ≡ false
    → close_turn o t p ≡ Ok (None, p)
unfolding close_turn
last_turn o t p stays = rw stays refl

-- closing goes on behind the end of the frame on top
pub closes_on : (o : OptionsData) (t : Token) (p : ParserState) → ends_top t p p.frames ≡ true
    → close o t (end_top o t p p.frames) ≡ close o t p
closes_on o t p ends =
    let q = end_top o t p p.frames in
    let more = pieces_more depth (close_turn o t) (close_turn-Shortens o t) p q [] (ending_turn o t p ends)
    ∙ with_front-nil (pieces depth (close_turn o t) q) in
    sym (ap (λ r. r >>= λ x. Ok x.1) more)

pub closing_shortens : (o : OptionsData) (t : Token) (p : ParserState) → ends_top t p p.frames ≡ true
    → depth (end_top o t p p.frames) < depth p
closing_shortens o t p ends = close_turn-Shortens o t p (end_top o t p p.frames) [] (ending_turn o t p ends)

pub closed_all : (o : OptionsData) (t : Token) (p : ParserState) → ends_top t p p.frames ≡ false → close o t p ≡ Ok p
closed_all o t p stays =
    ap (λ r. r >>= λ x. Ok x.1) (pieces_done depth (close_turn o t) p p (last_turn o t p stays))

-- where the first frame stays, none was ended
pub ends_none : (t : Token) (first p : ParserState) → (ends_top t first first.frames ≡ false → p ≡ first)
    → ends_top t p p.frames ≡ true → ends_top t first first.frames ≡ false → ⊥
ends_none t first p same ends stays =
    let both : true ≡ false = sym ends ∙ ap (λ (q : ParserState). ends_top t q q.frames) (same stays) ∙ stays in
    cc both

-- a turn of closing, and its end
pub ruleset closing_turns = (closes_on, closing_shortens, closed_all)
