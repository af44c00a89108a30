-- The scanner's tokens: each lexeme with the tokens that stand for what it begins and ends.
use Rattle.std.specs.Prelude.{ℕ, ◌-◌, Bool, true, false, ◌&&◌, ◌||◌, not, List, [], ◌∷◌, ◌++◌, length, drop, replicate}
use Rattle.std.specs.Prelude.{map, Option, Some, None, is_none, Result, Ok}
use Rattle.granit_base.specs.Place.{Mark}
use Rattle.granit_error.specs.OptionsData.{OptionsData}
use Rattle.granit_lexemes.specs.Comment.{CommentRead}
use Rattle.granit_lexemes.specs.Here.{Here}
use Rattle.granit_lexemes.specs.Lexeme.{LexemeKind, Directive, KeyStart, DocumentStart, DocumentEnd, StreamEnd, Open}
use Rattle.granit_lexemes.specs.Lexeme.{Close, Comma, Dash, Question, Colon, Lexeme, Item, OfLexeme, OfComment}
use Rattle.granit_lexemes.specs.Outcome.{Fault, ◌>>=◌}
use Rattle.granit_lexemes.specs.Pieces.{pieces}
use Rattle.granit_lexemes.specs.Source.{Source}
use Rattle.granit_machine.specs.Columns.{closed_at, closed_all}
use Rattle.granit_machine.specs.Laid.{in_square, Laid, is_opener, is_in_flow, block_column, is_column}
use Rattle.granit_machine.specs.Lexing.{lex_start}
use Rattle.granit_machine.specs.NodeEnds.{empty_span}
use Rattle.granit_machine.specs.Reader.{LexState, LexTurn, lex_turn, lex_len}
use Rattle.granit_steps.specs.Flags.{is_begun}

-- what is inserted: the end of a block collection, its start, the sign of a simple key, and the two round a single
-- pair of a flow sequence
pub data Insertion : Type 0 where
  BlockEnd BlockMappingStart BlockSequenceStart KeySign PairStart PairEnd : Insertion

pub data ScanToken : Type 0 where
  Inserted : Insertion → Mark → ScanToken
  Own : Lexeme → ScanToken
  Noted : CommentRead → ScanToken

-- the span of a lexeme's own token
abbrev pub own_span : LexemeKind → Lexeme → Source
own_span Dash l = empty_span l.end
own_span Colon l = empty_span l.start
own_span kind l = l.shown

abbrev pub insert_if : Bool → Insertion → Mark → List ScanToken
insert_if true what m = Inserted what m ∷ []
insert_if false what m = []

-- ---- what a lexeme ends and begins, by what the lexemes before it left

-- the state behind what a lexeme ends: marks, directives and the end stand left of every column
abbrev pub left_open : LexemeKind → ℕ → Laid → Laid
left_open (Directive d) column s = closed_all s
left_open DocumentStart column s = closed_all s
left_open DocumentEnd column s = closed_all s
left_open StreamEnd column s = closed_all s
left_open kind column s = closed_at column s

abbrev pub behind_ends : Lexeme → Laid → Laid
behind_ends l s = left_open l.kind l.start.place.column s

-- how many block collections a lexeme ends
abbrev pub ended_blocks : Lexeme → Laid → ℕ
ended_blocks l s = length s.columns - length (behind_ends l s).columns

-- whether no entry stands in a lexeme's column yet
abbrev pub is_new_column : Lexeme → Laid → Bool
is_new_column l s = not (is_in_flow s) && not (is_column (block_column (behind_ends l s)) l.start.place.column)

abbrev pub block_start : Bool → LexemeKind → Option KeyStart → Bool → Mark → List ScanToken
block_start begins_key Dash key new m = insert_if new BlockSequenceStart m
block_start begins_key Question key new m = insert_if new BlockMappingStart m
block_start begins_key Colon key new m = insert_if (new && is_none key) BlockMappingStart m
block_start begins_key kind key new m = insert_if (new && begins_key) BlockMappingStart m

-- whether a single pair begins with a lexeme in a flow sequence: with its key, or with a `:` that no key stands before
abbrev pub is_bare_colon_of : LexemeKind → Option KeyStart → Bool
is_bare_colon_of Colon key = is_none key
is_bare_colon_of kind key = false

abbrev pub begins_single : Bool → Lexeme → Laid → Bool
begins_single begins_key l s =
    in_square s.brackets && (begins_key || (is_bare_colon_of l.kind l.key && is_opener s.last))

-- ---- the brackets: whether a single pair is open in each, the innermost first

abbrev pub top_pair : List Bool → Bool
top_pair [] = false
top_pair (b ∷ bs) = b

abbrev pub with_pair_if : Bool → List Bool → List Bool
with_pair_if true bs = true ∷ drop 1 bs
with_pair_if false bs = bs

abbrev pub ends_single : LexemeKind → List Bool → Bool
ends_single Comma bs = top_pair bs
ends_single (Close bracket) bs = top_pair bs
ends_single kind bs = false

abbrev pub pairs_behind : LexemeKind → List Bool → List Bool
pairs_behind (Open bracket) bs = false ∷ bs
pairs_behind (Close bracket) bs = drop 1 bs
pairs_behind Comma bs = false ∷ drop 1 bs
pairs_behind kind bs = bs

-- ---- the tokens

abbrev pub tail_token : Option CommentRead → List ScanToken
tail_token None = []
tail_token (Some c) = Noted c ∷ []

-- what is inserted before a lexeme
abbrev pub inserted : Laid → Bool → List Bool → Lexeme → List ScanToken
inserted s begins_key pairs l =
    replicate (ended_blocks l s) (Inserted BlockEnd l.start)
    ++ (insert_if (ends_single l.kind pairs) PairEnd l.start
    ++ (block_start begins_key l.kind l.key (is_new_column l s) l.start
    ++ (insert_if (begins_single begins_key l s) PairStart l.start
    ++ insert_if begins_key KeySign l.start)))

-- an item's tokens
abbrev pub tokens_of : Laid → Bool → List Bool → Item → List ScanToken
tokens_of s begins_key pairs (OfLexeme l) = inserted s begins_key pairs l ++ (Own l ∷ tail_token l.tail)
tokens_of s begins_key pairs (OfComment c) = Noted c ∷ []

abbrev pub pairs_of : Laid → Bool → List Bool → Item → List Bool
pairs_of s begins_key pairs (OfLexeme l) = pairs_behind l.kind (with_pair_if (begins_single begins_key l s) pairs)
pairs_of s begins_key pairs (OfComment c) = pairs

-- an item, and what the lexemes before its read left
abbrev pub StateItem : Type 0
StateItem = Laid × Item

abbrev pub item_in : StateItem → Item
item_in x = x.1

-- the tokens of items in order
abbrev pub tokens : List Bool → List StateItem → List ScanToken
tokens pairs [] = []
tokens pairs (x ∷ xs) =
    let begins_key = is_begun x.1 (map item_in xs) in
    tokens_of x.0 begins_key pairs x.1 ++ tokens (pairs_of x.0 begins_key pairs x.1) xs

-- ---- without what is inserted

abbrev pub own_of : ScanToken → List ScanToken
own_of (Inserted what m) = []
own_of (Own l) = Own l ∷ []
own_of (Noted c) = Noted c ∷ []

abbrev pub owns : List ScanToken → List ScanToken
owns [] = []
owns (t ∷ ts) = own_of t ++ owns ts

abbrev pub written_of : Item → List ScanToken
written_of (OfLexeme l) = Own l ∷ tail_token l.tail
written_of (OfComment c) = Noted c ∷ []

-- what is written: the lexemes and comments in order
abbrev pub items_written : List StateItem → List ScanToken
items_written [] = []
items_written (x ∷ xs) = written_of x.1 ++ items_written xs

-- ---- the tokens of a text, as far as reading goes

abbrev pub paired : Laid → Option (List Item) → Option (List StateItem)
paired s None = None
paired s (Some is) = Some (map (λ i. (s, i)) is)

abbrev pub pair_up : Laid → LexTurn → Result (Option (List StateItem) × LexState) Fault
pair_up s r = r >>= λ x. Ok (paired s x.0, x.1)

abbrev pub paired_turn : OptionsData → LexState → Result (Option (List StateItem) × LexState) Fault
paired_turn o s = pair_up s.reader.laid (lex_turn o s)

-- the items, each with what the lexemes before its read left
abbrev pub lex_states : OptionsData → Here → Result (List StateItem × LexState) Fault
lex_states o h = pieces lex_len (paired_turn o) (lex_start h)

abbrev pub items_of_states : Result (List StateItem × LexState) Fault → Result (List Item × LexState) Fault
items_of_states r = r >>= λ x. Ok (map item_in x.0, x.1)

abbrev pub text_tokens : OptionsData → Here → Result (List ScanToken × LexState) Fault
text_tokens o h = lex_states o h >>= λ x. Ok (tokens [] x.0, x.1)
