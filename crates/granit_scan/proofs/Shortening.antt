-- Each turn but the last leaves less to read or a shorter queue.
use Rattle.std.proofs.Common.{◌<◌, Bool, true, false, List, [], ◌∷◌, length, Option, Some, None, Ok, Err}
use Rattle.std.proofs.Common.{ap, subst, arith}
use Rattle.granit_error.specs.OptionsData.{OptionsData}
use Rattle.granit_lexemes.specs.Outcome.{Fault, ◌>>=◌}
use Rattle.granit_lexemes.specs.Pieces.{Shortens}
use Rattle.granit_machine.specs.Lexing.{FlaggedItem}
use Rattle.granit_machine.specs.Reader.{LexState, behind_read, is_end, lex_turn, read}
use Rattle.granit_machine.specs.ReaderState.{Read, ReaderState}
use Rattle.granit_termination.proofs.LexLengths.{ReadFits, read-fits, at_read}
use Rattle.granit_termination.proofs.ReadLengths.{reader_len}
use Rattle.granit_scan.specs.Following.{Following}
use Rattle.granit_scan.specs.TokenSteps.{TokenState, TokenTurn, front_token_turn, read_more_tokens, token_size}
use Rattle.granit_scan.specs.TokenSteps.{token_turn, token_turn_by, with_tokens_read}
use Rattle.granit_scan.specs.TokenViews.{PlainToken}
use Rattle.granit_steps.specs.Steps.{incoming, may_go}
use Rattle.granit_steps.proofs.Futures.{items_length, length_asked, length_pushed, pushed_nil, size_behind}
use Rattle.granit_steps.proofs.KeyReads.{Lexed, possibles, read_keys}

abbrev pub Shorter : TokenState → TokenTurn → Type 0
Shorter s (Ok (Some y, t)) = token_size t < token_size s
Shorter s (Ok (None, t)) = Unit {0}
Shorter s (Err f) = Unit {0}

module _ (o : OptionsData) (w : Following) where
  pub read_shorter : (s : ReaderState) (q : List FlaggedItem) (r : Read) → Lexed s.laid.number (possibles s.laid) r
      → ReadFits (reader_len s) r
      → Shorter (record { reading = at_read s; queue = q; following = w; pending = [] }) (behind_read r s >>= λ x. Ok (
        Some [],
        with_tokens_read o (record { reading = at_read s; queue = q; following = w; pending = [] }) x,
      ))
  read_shorter s q (Err f) ch fits = let n = ap length (pushed_nil o.emit_comments q) in omega (arith, n)
  read_shorter s q (Ok x) ch fits =
      let a = length_pushed q (incoming o.emit_comments x.0) in
      let b = length_asked o.emit_comments x.0 in
      let c = items_length s.laid.number (possibles s.laid) x.0 x.1.laid ch in
      let d = size_behind (is_end x.0) s x.1 fits in
      omega (arith, a, b, c, d)

  more_shorter : (s : ReaderState) (ended : Bool) (end : Option Fault) (q : List FlaggedItem)
      → Shorter (record {
        reading = record { reader = s; ended = ended; fault = end };
        queue = q;
        following = w;
        pending = [];
      }) (read_more_tokens o ended (record {
        reading = record { reader = s; ended = ended; fault = end };
        queue = q;
        following = w;
        pending = [];
      }))
  unfolding lex_turn
  more_shorter s true end q = tt
  more_shorter s false (Some f) q = tt
  more_shorter s false None q = read_shorter s q (read o s) (read_keys o s) (read-fits o s)

  front_shorter : (b : Bool) (l : LexState) (i : FlaggedItem) (is : List FlaggedItem)
      → Shorter (record { reading = l; queue = i ∷ is; following = w; pending = [] })
      (front_token_turn b o i is (record { reading = l; queue = i ∷ is; following = w; pending = [] }))
  front_shorter true l i is = omega arith
  front_shorter false l i is = more_shorter l.reader l.ended l.fault (i ∷ is)

  turn_shorter : (ts : List PlainToken) (q : List FlaggedItem) (l : LexState)
      → Shorter (record { reading = l; queue = q; following = w; pending = ts })
      (token_turn_by o ts q (record { reading = l; queue = q; following = w; pending = ts }))
  turn_shorter (t ∷ ts) q l = tt
  turn_shorter [] [] l = more_shorter l.reader l.ended l.fault []
  turn_shorter [] (i ∷ is) l = front_shorter (may_go l i is) l i is

pub token_turn-Shortens : (o : OptionsData) → Shortens token_size (token_turn o)
unfolding token_turn
token_turn-Shortens o s after piece e = subst (Shorter s) e (turn_shorter o s.following s.pending s.queue s.reading)
