-- Where the parser refuses, if it does, before it gives anything.
use Rattle.std.specs.Prelude.{◌≡◌, Bool, true, false, [], not, None}
use Rattle.granit_lexemes.specs.Lexeme.{Item, OfLexeme, OfComment}
use Rattle.granit_machine.specs.Closing.{ends_top}
use Rattle.granit_machine.specs.Frames.{DocumentStage, Fresh, Directives, Inside, BehindRoot, Between, ParserState}
use Rattle.granit_machine.specs.TokenSort.{TokenSort, BeginsKey, begins_node, is_dash_token, Token, token_of}
use Rattle.granit_feed.specs.Tails.{is_dash_lexeme, takes_tail}

-- around documents: neither a start nor an end of one stands before the token
abbrev pub outside_at_once : DocumentStage → TokenSort → Bool
outside_at_once Fresh sort = not (begins_node sort)
outside_at_once (Directives version) sort = true
outside_at_once Inside sort = true
outside_at_once BehindRoot sort = false
outside_at_once Between sort = true

-- the token ends no node, no simple key begins with it, no empty node comes before a `-`, and no comment is held for it
pub record TokenAtOnce (t : Token) (p : ParserState) : Type 0 where
  pub tailless : takes_tail (is_dash_lexeme t.lexeme.kind) t.lexeme.tail ≡ false
  pub stays : ends_top t p p.frames ≡ false
  pub keyless : t.sort ≡ BeginsKey → ⊥
  pub dash : is_dash_token t.sort ≡ true → p.waiting ≡ None
  pub outer : p.frames ≡ [] → outside_at_once p.stage t.sort ≡ true

abbrev pub ItemAtOnce : Item → Bool → ParserState → Type 0
ItemAtOnce (OfComment c) begins_key p = Unit {0}
ItemAtOnce (OfLexeme l) begins_key p = TokenAtOnce (token_of begins_key l) p
