-- The machine's tokens a step at a time: one token, or a fault, for each call, from no more of the text than it takes.
use Rattle.std.specs.Prelude.{ℕ, ◌+◌, ◌*◌, Bool, true, false, List, [], ◌∷◌, length, Option, Some, None, Result, Ok}
use Rattle.std.specs.Prelude.{Err}
use Rattle.granit_error.specs.OptionsData.{OptionsData}
use Rattle.granit_lexemes.specs.Here.{Here, mark_of, start_of}
use Rattle.granit_lexemes.specs.Lexeme.{Item}
use Rattle.granit_lexemes.specs.Outcome.{Fault, ◌>>=◌}
use Rattle.granit_lexemes.specs.Pieces.{pieces}
use Rattle.granit_machine.specs.Lexing.{FlaggedItem, lex_start}
use Rattle.granit_machine.specs.Reader.{LexState, lex_turn}
use Rattle.granit_steps.specs.Steps.{incoming, items_or_none, may_go, pushed, reading_size}
use Rattle.granit_scan.specs.Following.{Following, following_start, followed, item_tokens}
use Rattle.granit_scan.specs.TokenViews.{PlainToken, StartOfStream, marked, shown_tokens}

-- where reading stands and whether it is over, the items that were read and not written, what those that were written
-- leave open, and the tokens that weren't given yet
pub record TokenState : Type 0 where
  pub reading : LexState
  pub queue : List FlaggedItem
  pub following : Following
  pub pending : List PlainToken

-- ---- one turn: the front is written, or one more read is made

abbrev pub TokenTurn : Type 0
TokenTurn = Result (Option (List PlainToken) × TokenState) Fault

abbrev pub with_tokens_read : OptionsData → TokenState → Option (List Item) × LexState → TokenState
with_tokens_read o s x = record s {
  reading = x.1;
  queue = pushed s.queue (incoming o.emit_comments (items_or_none x.0));
}

abbrev pub read_tokens_unless : OptionsData → Option Fault → TokenState → TokenTurn
read_tokens_unless o (Some f) s = Err f
read_tokens_unless o None s = lex_turn o s.reading >>= λ x. Ok (Some [], with_tokens_read o s x)

-- at the end nothing is left to do, and behind a fault nothing may go any more
abbrev pub read_more_tokens : OptionsData → Bool → TokenState → TokenTurn
read_more_tokens o true s = Ok (None, s)
read_more_tokens o false s = read_tokens_unless o s.reading.fault s

abbrev pub with_written : FlaggedItem → List FlaggedItem → TokenState → TokenState
with_written i is s = record s {
  queue = is;
  following = followed i.begins_key i.item s.following;
  pending = shown_tokens (item_tokens i.begins_key i.item s.following);
}

abbrev pub front_token_turn : Bool → OptionsData → FlaggedItem → List FlaggedItem → TokenState → TokenTurn
front_token_turn true o i is s = Ok (Some [], with_written i is s)
front_token_turn false o i is s = read_more_tokens o s.reading.ended s

abbrev pub token_turn_by : OptionsData → List PlainToken → List FlaggedItem → TokenState → TokenTurn
token_turn_by o (t ∷ ts) q s = Ok (None, s)
token_turn_by o [] [] s = read_more_tokens o s.reading.ended s
token_turn_by o [] (i ∷ is) s = front_token_turn (may_go s.reading i is) o i is s

-- what the loop does until a token is there, or nothing is left
unfoldable pub token_turn : OptionsData → TokenState → TokenTurn
token_turn o s = token_turn_by o s.pending s.queue s

-- a read brings two items at most
abbrev pub token_size : TokenState → ℕ
token_size s = 3 * reading_size s.reading + length s.queue

-- ---- one token

abbrev pub first_pending_token : List PlainToken → TokenState → Option PlainToken × TokenState
first_pending_token [] s = (None, s)
first_pending_token (t ∷ ts) s = (Some t, record s { pending = ts })

abbrev pub settle_tokens : OptionsData → TokenState → Result (List PlainToken × TokenState) Fault
settle_tokens o s = pieces token_size (token_turn o) s

-- the next token, None behind the last one, or the fault that comes instead
unfoldable pub next_token : OptionsData → TokenState → Result (Option PlainToken × TokenState) Fault
next_token o s = settle_tokens o s >>= λ x. Ok (first_pending_token x.1.pending x.1)

abbrev pub tokens_start_from : Here → TokenState
tokens_start_from h = record {
  reading = lex_start h;
  queue = [];
  following = following_start;
  pending = marked StartOfStream (mark_of h) ∷ [];
}

abbrev pub tokens_start : List ℕ → TokenState
tokens_start text = tokens_start_from (start_of text)
