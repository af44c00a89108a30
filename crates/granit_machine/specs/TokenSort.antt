-- What a lexeme is to the parser.
use Rattle.std.specs.Prelude.{ℕ, Bool, true, false, ◌==◌, ◌&&◌, not, nat_lt, Option, Some, None}
use Rattle.granit_lexemes.specs.declared.layout.Bracket.TheVariants.{Square, Curly}
use Rattle.granit_lexemes.specs.Lexeme as lexemes
use Rattle.granit_lexemes.specs.Lexeme.{LexemeKind, KeyStart, Lexeme}

-- what a lexeme is to the frames
pub data TokenSort : Type 0 where
  -- a node's lexeme that begins a simple key, or another
  BeginsKey BeginsNode : TokenSort
  -- `-`, `?`, a `:` without a key and one with a key, `,` and closers
  DashToken QuestionToken BareColon KeyedColon CommaToken SequenceCloser MappingCloser : TokenSort
  -- document marks, directives and the end
  OfStream : TokenSort

pub record Token : Type 0 where
  pub lexeme : Lexeme
  pub sort : TokenSort

abbrev pub colon_sort : Option KeyStart → TokenSort
colon_sort None = BareColon
colon_sort (Some k) = KeyedColon

abbrev pub node_sort : Bool → TokenSort
node_sort true = BeginsKey
node_sort false = BeginsNode

abbrev pub token_sort : Bool → Option KeyStart → LexemeKind → TokenSort
token_sort begins_key key lexemes.Colon = colon_sort key
token_sort begins_key key lexemes.Dash = DashToken
token_sort begins_key key lexemes.Question = QuestionToken
token_sort begins_key key lexemes.Comma = CommaToken
token_sort begins_key key (lexemes.Close Square) = SequenceCloser
token_sort begins_key key (lexemes.Close Curly) = MappingCloser
token_sort begins_key key (lexemes.Open bracket) = node_sort begins_key
token_sort begins_key key (lexemes.Alias name) = node_sort begins_key
token_sort begins_key key (lexemes.Anchor name) = node_sort begins_key
token_sort begins_key key (lexemes.Tag handle suffix) = node_sort begins_key
token_sort begins_key key (lexemes.Scalar style text) = node_sort begins_key
token_sort begins_key key kind = OfStream

abbrev pub token_of : Bool → Lexeme → Token
token_of begins_key l = record { lexeme = l; sort = token_sort begins_key l.key l.kind }

-- whether it may begin a node outside flow
abbrev pub begins_node : TokenSort → Bool
begins_node BeginsKey = true
begins_node BeginsNode = true
begins_node DashToken = true
begins_node QuestionToken = true
begins_node BareColon = true
begins_node sort = false

-- whether it begins an entry of a block mapping
abbrev pub begins_pair : TokenSort → Bool
begins_pair BeginsKey = true
begins_pair QuestionToken = true
begins_pair BareColon = true
begins_pair sort = false

abbrev pub is_dash_token : TokenSort → Bool
is_dash_token DashToken = true
is_dash_token sort = false

abbrev pub is_bare_colon : TokenSort → Bool
is_bare_colon BareColon = true
is_bare_colon sort = false

abbrev pub is_of_stream : TokenSort → Bool
is_of_stream OfStream = true
is_of_stream sort = false

-- whether it ends an entry of a flow sequence
abbrev pub ends_entry : TokenSort → Bool
ends_entry CommaToken = true
ends_entry SequenceCloser = true
ends_entry sort = false

abbrev pub is_key_token : TokenSort → Bool
is_key_token BeginsKey = true
is_key_token sort = false

abbrev pub is_key_in_block : Token → Bool
is_key_in_block t = is_key_token t.sort && not t.lexeme.in_flow

abbrev pub column_of_token : TokenSort → ℕ → Option ℕ
column_of_token OfStream column = None
column_of_token sort column = Some column

-- its column; what is of the stream stands left of every column
abbrev pub token_column : Token → Option ℕ
token_column t = column_of_token t.sort t.lexeme.start.place.column

abbrev pub is_in_column : Option ℕ → ℕ → Bool
is_in_column None column = false
is_in_column (Some c) column = c == column

-- whether a frame's column is right of a token's
abbrev pub ends_frame : Option ℕ → ℕ → Bool
ends_frame None column = true
ends_frame (Some c) column = nat_lt c column

-- whether a token's column is right of that of the innermost block collection
abbrev pub is_right_of : Option ℕ → Option ℕ → Bool
is_right_of None under = false
is_right_of (Some c) None = true
is_right_of (Some c) (Some n) = nat_lt n c
