-- Each turn leaves less.
use Rattle.std.proofs.Common.{suc, ◌≡◌, ◌+◌, ◌<◌, ◌≤◌, Bool, true, false, List, [], ◌∷◌, length, Option, Some, None}
use Rattle.std.proofs.Common.{Result, Ok, Err, refl, ap, subst, arith}
use Rattle.std.specs.Prelude.{if◌then◌else◌}
use Rattle.granit_chains.proofs.FedEnds.{FedEnds, fed_ends}
use Rattle.granit_chains.specs.Chains.{ends_among, given_ends, state_left, left_unclosed, left_unread, left_waiting}
use Rattle.granit_error.specs.OptionsData.{OptionsData}
use Rattle.granit_lexemes.specs.Outcome.{Fault, ◌>>=◌}
use Rattle.granit_lexemes.specs.PlainEvent.{PlainEvent}
use Rattle.granit_termination.proofs.LexLengths.{ReadFits, read-fits}
use Rattle.granit_termination.proofs.ReadLengths.{reader_len}
use Rattle.granit_machine.specs.Frames.{ParserState}
use Rattle.granit_machine.specs.Lexing.{FlaggedItem}
use Rattle.granit_machine.specs.Parser.{feed}
use Rattle.granit_machine.specs.Reader.{behind_read, is_end, lex_turn, LexState, read}
use Rattle.granit_machine.specs.ReaderState.{Read, ReaderState}
use Rattle.granit_steps.proofs.Futures.{items_length, length_asked, length_pushed, pushed_nil}
use Rattle.granit_steps.proofs.KeyReads.{Lexed, possibles, read_keys}
use Rattle.granit_steps.specs.Steps.{front_turn, incoming, line_behind, may_go, read_more, step_turn, StepState, Turn}
use Rattle.granit_steps.specs.Steps.{turn_by, with_fed, with_read}

abbrev TurnFalls : StepState → Turn → Type 0
TurnFalls s (Ok (Some y, t)) = state_left t < state_left s
TurnFalls s (Ok (None, t)) = Unit {0}
TurnFalls s (Err f) = Unit {0}

abbrev pub state : LexState → List FlaggedItem → ParserState → StepState
state l q p = record { reading = l; queue = q; parser = p; pending = [] }

abbrev pub reading_of : ReaderState → Bool → Option Fault → LexState
reading_of s ended fault = record { reader = s; ended = ended; fault = fault }

one_most : (b : Bool) → (if b then 1 else 0) ≤ 1
one_most true = omega arith
one_most false = omega arith

pub open_most : (p : ParserState) → left_unclosed p ≤ 1
open_most p = one_most _

pub waiting_most : (es : List PlainEvent) → left_waiting es ≤ suc (ends_among es)
waiting_most [] = omega arith
waiting_most (e ∷ es) = omega arith

fed_falls : (l : LexState) (i : FlaggedItem) (is : List FlaggedItem) (p : ParserState)
    (r : Result (List PlainEvent × ParserState) Fault) → FedEnds (suc (given_ends p)) r
    → TurnFalls (state l (i ∷ is) p) (r >>= λ x. Ok (Some [], with_fed (state l (i ∷ is) p) is x))
fed_falls l i is p (Ok x) ends =
    let m = open_most x.1 in let w = waiting_most x.0 in omega (arith, m, w, ends)
fed_falls l i is p (Err f) ends = tt

unread_behind : (b : Bool) (s t : ReaderState) → (b ≡ false → reader_len t < reader_len s)
    → left_unread (reading_of t b None) + 9 ≤ left_unread (reading_of s false None)
unread_behind true s t p = omega arith
unread_behind false s t p = let h = p refl in omega (arith, h)

read_falls : (o : OptionsData) (s : ReaderState) (q : List FlaggedItem) (p : ParserState) (r : Read)
    → Lexed s.laid.number (possibles s.laid) r → ReadFits (reader_len s) r
    → TurnFalls (state (reading_of s false None) q p)
    (behind_read r s >>= λ x. Ok (Some [], with_read o (state (reading_of s false None) q p) x))
read_falls o s q p (Err f) ch fits = let n = ap length (pushed_nil o.emit_comments q) in omega (arith, n)
read_falls o s q p (Ok x) ch fits =
    let a = length_pushed q (incoming o.emit_comments x.0) in
    let b = length_asked o.emit_comments x.0 in
    let c = items_length s.laid.number (possibles s.laid) x.0 x.1.laid ch in
    let d = unread_behind (is_end x.0) s x.1 fits in
    omega (arith, a, b, c, d)

more_falls : (o : OptionsData) (s : ReaderState) (ended : Bool) (fault : Option Fault) (q : List FlaggedItem)
    (p : ParserState)
    → TurnFalls (state (reading_of s ended fault) q p) (read_more o ended (state (reading_of s ended fault) q p))
unfolding lex_turn
more_falls o s true fault q p = tt
more_falls o s false (Some f) q p = tt
more_falls o s false None q p = read_falls o s q p (read o s) (read_keys o s) (read-fits o s)

front_falls : (b : Bool) (o : OptionsData) (l : LexState) (i : FlaggedItem) (is : List FlaggedItem) (p : ParserState)
    → TurnFalls (state l (i ∷ is) p) (front_turn b o i is (state l (i ∷ is) p))
front_falls true o l i is p = fed_falls l i is p (feed o i (line_behind l is) p) (fed_ends o i (line_behind l is) p)
front_falls false o l i is p = more_falls o l.reader l.ended l.fault (i ∷ is) p

turn_falls : (o : OptionsData) (es : List PlainEvent) (q : List FlaggedItem) (l : LexState) (p : ParserState)
    → TurnFalls (record { reading = l; queue = q; parser = p; pending = es })
    (turn_by o es q (record { reading = l; queue = q; parser = p; pending = es }))
turn_falls o (e ∷ es) q l p = tt
turn_falls o [] [] l p = more_falls o l.reader l.ended l.fault [] p
turn_falls o [] (i ∷ is) l p = front_falls (may_go l i is) o l i is p

pub falls : (o : OptionsData) (s t : StepState) (es : List PlainEvent) → step_turn o s ≡ Ok (Some es, t)
    → state_left t < state_left s
unfolding step_turn
falls o s t es e = subst (TurnFalls s) e (turn_falls o s.pending s.queue s.reading s.parser)
