-- The tokens of a text in all, and what the calls give one by one.
use Rattle.std.specs.Prelude.{◌≡◌, List, [], ◌∷◌, ◌++◌, Option, Some, None, Result, Ok, Err}
use Rattle.granit_error.specs.OptionsData.{OptionsData}
use Rattle.granit_lexemes.specs.Here.{Here, mark_of}
use Rattle.granit_lexemes.specs.Lexeme.{Item}
use Rattle.granit_lexemes.specs.Outcome.{Fault}
use Rattle.granit_machine.specs.Lexing.{FlaggedItem, flagged, lex}
use Rattle.granit_machine.specs.Machine.{asked_items}
use Rattle.granit_machine.specs.Reader.{LexState}
use Rattle.granit_steps.specs.Told.{parsers_items}
use Rattle.granit_scan.specs.Following.{Following, following_start, followed, item_tokens}
use Rattle.granit_scan.specs.TokenSteps.{TokenState, next_token}
use Rattle.granit_scan.specs.TokenViews.{PlainToken, StartOfStream, marked, shown_tokens}

-- the tokens of items in order
abbrev pub written : List FlaggedItem → Following → List PlainToken
written [] f = []
written (i ∷ is) f =
    shown_tokens (item_tokens i.begins_key i.item f) ++ written is (followed i.begins_key i.item f)

-- tokens, and a fault where one ends them
abbrev pub TokensTold : Type 0
TokensTold = List PlainToken × Option Fault

abbrev pub before_tokens_told : List PlainToken → TokensTold → TokensTold
before_tokens_told ts x = (ts ++ x.0, x.1)

-- of all items, or of those before the oldest key that is possible where reading failed
abbrev pub tokens_told_read : OptionsData → Result (List Item × LexState) Fault → TokensTold
tokens_told_read o (Ok x) = (
  written (parsers_items x.1.reader.laid x.1.fault (asked_items o.emit_comments (flagged x.0))) following_start,
  x.1.fault,
)
tokens_told_read o (Err f) = ([], Some f)

-- all tokens of a text, and the fault behind them
abbrev pub tokens_told : OptionsData → Here → TokensTold
tokens_told o h = before_tokens_told (marked StartOfStream (mark_of h) ∷ []) (tokens_told_read o (lex o h))

-- what calls give one by one from a state on: some tokens, and then nothing more or a fault
pub data GivesTokens (o : OptionsData) : TokenState → List PlainToken → Option Fault → Type 0 where
  gives_end : {s after : TokenState} → next_token o s ≡ Ok (None, after) → GivesTokens o s [] None
  gives_fault : {s : TokenState} {f : Fault} → next_token o s ≡ Err f → GivesTokens o s [] (Some f)
  gives_token : {s after : TokenState} {t : PlainToken} {ts : List PlainToken} {f : Option Fault}
      → next_token o s ≡ Ok (Some t, after) → GivesTokens o after ts f → GivesTokens o s (t ∷ ts) f
