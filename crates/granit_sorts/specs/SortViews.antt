-- What the code's sorts of lexemes say.
use Rattle.granit_items.specs.ItemViews.{lexeme_view}
use Rattle.granit_items.specs.declared.item.Lexeme.{Lexeme}
use Rattle.granit_items.specs.declared.item.LexemeKind.{LexemeKind}
use Rattle.granit_machine.specs.TokenSort as spec
use Rattle.granit_sorts.specs.declared.sort.Token.{Token}
use Rattle.granit_sorts.specs.declared.sort.TokenSort.{TokenSort}
use Rattle.granit_sorts.specs.declared.sort.TokenSort.TheVariants as sorts

abbrev pub sort_view : TokenSort → spec.TokenSort
sort_view sorts.BeginsKey = spec.BeginsKey
sort_view sorts.BeginsNode = spec.BeginsNode
sort_view sorts.DashToken = spec.DashToken
sort_view sorts.QuestionToken = spec.QuestionToken
sort_view sorts.BareColon = spec.BareColon
sort_view sorts.KeyedColon = spec.KeyedColon
sort_view sorts.CommaToken = spec.CommaToken
sort_view sorts.SequenceCloser = spec.SequenceCloser
sort_view sorts.MappingCloser = spec.MappingCloser
sort_view sorts.OfStream = spec.OfStream

-- a lexeme of a sort, as the machine's parser has it
abbrev pub token_view : Lexeme → TokenSort → spec.Token
token_view l sort = record { lexeme = lexeme_view l; sort = sort_view sort }

abbrev pub machine_token : Token → spec.Token
machine_token t = token_view t.lexeme.value t.sort

-- a token whose kind was taken out of it
abbrev pub of_kind : LexemeKind → Token → spec.Token
of_kind kind t = token_view (record (t.lexeme.value) { kind = kind }) t.sort
