-- Where the parser takes memory for an event alone.
use Rattle.std.specs.Prelude.{◌≡◌, Bool, false}
use Rattle.granit_lexemes.specs.Lexeme.{Item, OfLexeme, OfComment}
use Rattle.granit_machine.specs.Closing.{ends_top}
use Rattle.granit_machine.specs.Frames.{ParserState}
use Rattle.granit_machine.specs.TokenSort.{Token, token_of}
use Rattle.granit_frames.specs.Wanting.{keeps_text}
use Rattle.granit_feed.specs.Tails.{is_dash_lexeme, takes_tail}

-- no text of the token is kept, it ends no node, and no comment is taken behind it
pub record TokenTakesToGive (t : Token) (p : ParserState) : Type 0 where
  pub textless : keeps_text t.lexeme.kind ≡ false
  pub stays : ends_top t p p.frames ≡ false
  pub tailless : takes_tail (is_dash_lexeme t.lexeme.kind) t.lexeme.tail ≡ false

-- a comment may be held, which takes memory and gives no event
abbrev pub ItemTakesToGive : Item → Bool → ParserState → Type 0
ItemTakesToGive (OfComment c) begins_key p = ⊥
ItemTakesToGive (OfLexeme l) begins_key p = TokenTakesToGive (token_of begins_key l) p

-- a token ends no node, and no comment is taken behind it
pub record StaysAlone (t : Token) (p : ParserState) : Type 0 where
  pub stays : ends_top t p p.frames ≡ false
  pub tailless : takes_tail (is_dash_lexeme t.lexeme.kind) t.lexeme.tail ≡ false
