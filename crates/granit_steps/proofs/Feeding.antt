-- What the parser takes of the next item: its line, and only for a comment that nothing stands before.
use Rattle.std.proofs.Common.{◌≡◌, ℕ, not, Bool, true, false, [], Option, Some, None, Ok, Err, refl, sym, ap, ◌∙◌}
use Rattle.std.proofs.lemmas.Bool.{not-false}
use Rattle.std.specs.Prelude.{if◌then◌else◌}
use Rattle.granit_base.specs.declared.style.Placement.TheVariants.{Right}
use Rattle.granit_error.specs.OptionsData.{OptionsData}
use Rattle.granit_lexemes.specs.Comment.{CommentRead}
use Rattle.granit_lexemes.specs.Lexeme.{LexemeKind, Dash, Item, OfLexeme, OfComment}
use Rattle.granit_lexemes.specs.Outcome.{◌>>=◌}
use Rattle.granit_lexemes.specs.PlainEvent.{PlainEvent, event_at}
use Rattle.granit_machine.specs.Closing.{close}
use Rattle.granit_machine.specs.Frames.{ParserState}
use Rattle.granit_machine.specs.Lexing.{FlaggedItem}
use Rattle.granit_machine.specs.NodeSteps.{Stepped}
use Rattle.granit_machine.specs.Parser.{placed_by_line, placed, hold, take_comment, take_tail, take_item, take_token}
use Rattle.granit_machine.specs.Parser.{feed}
use Rattle.granit_machine.specs.TokenSort.{token_of}
use Rattle.granit_steps.specs.Steps.{is_open_comment, asks_next}
use Rattle.granit_lexemes.specs.PlainEvent as events

placed_right : (c : CommentRead) (n : Option ℕ) → c.is_right ≡ true → placed c n ≡ Right
placed_right c n e = ap (λ b. if b then Right else placed_by_line c.source.end.place.line n) e

comment_any : (c : CommentRead) (n m : Option ℕ) (p : ParserState) → c.is_right ≡ true
    → take_comment c n p ≡ take_comment c m p
comment_any c n m p e = ap (λ x. hold c (event_at (events.Comment c.text x) c.source) p.waiting p)
    (placed_right c n e ∙ sym (placed_right c m e))

tail_any : (kind : LexemeKind) (tail : Option CommentRead) (n m : Option ℕ) (p : ParserState)
    → is_open_comment tail ≡ false → take_tail kind tail n p ≡ take_tail kind tail m p
tail_any Dash tail n m p e = refl
tail_any kind None n m p e = refl
tail_any kind (Some c) n m p e = comment_any c n m p (not-false c.is_right e)

bind_any : (r : Stepped) (f g : ParserState → Stepped) → ((p : ParserState) → f p ≡ g p) → (r >>= f) ≡ (r >>= g)
bind_any (Ok p) f g e = e p
bind_any (Err x) f g e = refl

item_any : (o : OptionsData) (i : Item) (b : Bool) (n m : Option ℕ) (p : ParserState) → asks_next i ≡ false
    → take_item o i b n p ≡ take_item o i b m p
item_any o (OfComment c) b n m p e = comment_any c n m p (not-false c.is_right e)
item_any o (OfLexeme l) b n m p e = bind_any (close o (token_of b l) p >>= take_token o (token_of b l))
    (take_tail l.kind l.tail n) (take_tail l.kind l.tail m) (λ q. tail_any l.kind l.tail n m q e)

-- an item that doesn't ask for the next one is fed alike before any
pub feed_any : (o : OptionsData) (i : FlaggedItem) (n m : Option ℕ) (p : ParserState) → asks_next i.item ≡ false
    → feed o i n p ≡ feed o i m p
unfolding feed
feed_any o i n m p e = ap (λ (r : Stepped). r >>= λ q. Ok (q.given, record q { given = [] }))
    (item_any o i.item i.begins_key n m p e)
