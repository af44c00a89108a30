-- Tests of a token are tests of its lexeme.
use Rattle.granit_views.specs.Good.{IsPositive}
use Rattle.granit_language.specs.Seen.{terminal_kind, at_of, terminal_of}
use Rattle.granit_language.specs.Scope.{Scope}
use Rattle.granit_language.specs.Telling.{one_less}
use Rattle.granit_language.specs.Terminal.{At, reach_of, is_stream_kind, is_dash_kind, is_bare_kind, is_comma_kind}
use Rattle.granit_language.specs.Terminal.{closes_kind, begins_entry_kind, stands_left, stands_in, dash_in, entry_in}
use Rattle.granit_lexemes.specs.Lexeme.{KeyStart}
use Rattle.granit_lexemes.specs.declared.layout.Bracket.TheVariants.{Square}
use Rattle.granit_machine.specs.TokenSort.{token_sort, token_of, begins_pair, is_dash_token, is_bare_colon}
use Rattle.granit_machine.specs.TokenSort.{is_of_stream, ends_entry, column_of_token, token_column, is_in_column}
use Rattle.granit_machine.specs.TokenSort.{ends_frame}
use Rattle.std.proofs.Common.{◌≡◌, ℕ, suc, zero, Bool, true, false, refl, sym, ap, ap₂, ◌∙◌, arith, ◌==◌, ◌&&◌, ◌||◌}
use Rattle.std.proofs.Common.{nat_lt, Option, Some, None}
use Rattle.std.proofs.lemmas.Bool.Decides.{nat_tests}
use Rattle.granit_lexemes.specs.Lexeme as lexemes
use Rattle.granit_lexemes.specs.declared.layout.Bracket.TheVariants as brackets

-- a column from 1, 0 left of all
abbrev pub reach : Option ℕ → ℕ
reach None = 0
reach (Some c) = suc c

pub record SortIs (b : Bool) (key : Option KeyStart) (k : lexemes.LexemeKind) : Type 0 where
  pub column : (i : At) → reach_of (terminal_kind k key) i ≡ reach (column_of_token (token_sort b key k) i.column)
  pub dash : is_dash_token (token_sort b key k) ≡ is_dash_kind (terminal_kind k key)
  pub bare : is_bare_colon (token_sort b key k) ≡ is_bare_kind (terminal_kind k key)
  pub stream : is_of_stream (token_sort b key k) ≡ is_stream_kind (terminal_kind k key)
  pub ends :
      ends_entry (token_sort b key k)
      ≡ (is_comma_kind (terminal_kind k key) || closes_kind Square (terminal_kind k key))
  pub pair : begins_pair (token_sort b key k) ≡ begins_entry_kind (terminal_kind k key) b

pub sort_is : (b : Bool) (key : Option KeyStart) (k : lexemes.LexemeKind) → SortIs b key k
sort_is b key (lexemes.Directive directive) =
    record { column = λ i. refl; dash = refl; bare = refl; stream = refl; ends = refl; pair = refl }
sort_is b key lexemes.DocumentStart =
    record { column = λ i. refl; dash = refl; bare = refl; stream = refl; ends = refl; pair = refl }
sort_is b key lexemes.DocumentEnd =
    record { column = λ i. refl; dash = refl; bare = refl; stream = refl; ends = refl; pair = refl }
sort_is b key lexemes.StreamEnd =
    record { column = λ i. refl; dash = refl; bare = refl; stream = refl; ends = refl; pair = refl }
sort_is b key (lexemes.Close brackets.Square) =
    record { column = λ i. refl; dash = refl; bare = refl; stream = refl; ends = refl; pair = refl }
sort_is b key (lexemes.Close brackets.Curly) =
    record { column = λ i. refl; dash = refl; bare = refl; stream = refl; ends = refl; pair = refl }
sort_is b key lexemes.Comma =
    record { column = λ i. refl; dash = refl; bare = refl; stream = refl; ends = refl; pair = refl }
sort_is b key lexemes.Dash =
    record { column = λ i. refl; dash = refl; bare = refl; stream = refl; ends = refl; pair = refl }
sort_is b key lexemes.Question =
    record { column = λ i. refl; dash = refl; bare = refl; stream = refl; ends = refl; pair = refl }
sort_is b None lexemes.Colon =
    record { column = λ i. refl; dash = refl; bare = refl; stream = refl; ends = refl; pair = refl }
sort_is b (Some n) lexemes.Colon =
    record { column = λ i. refl; dash = refl; bare = refl; stream = refl; ends = refl; pair = refl }
sort_is true key (lexemes.Open bracket) =
    record { column = λ i. refl; dash = refl; bare = refl; stream = refl; ends = refl; pair = refl }
sort_is false key (lexemes.Open bracket) =
    record { column = λ i. refl; dash = refl; bare = refl; stream = refl; ends = refl; pair = refl }
sort_is true key (lexemes.Alias name) =
    record { column = λ i. refl; dash = refl; bare = refl; stream = refl; ends = refl; pair = refl }
sort_is false key (lexemes.Alias name) =
    record { column = λ i. refl; dash = refl; bare = refl; stream = refl; ends = refl; pair = refl }
sort_is true key (lexemes.Anchor name) =
    record { column = λ i. refl; dash = refl; bare = refl; stream = refl; ends = refl; pair = refl }
sort_is false key (lexemes.Anchor name) =
    record { column = λ i. refl; dash = refl; bare = refl; stream = refl; ends = refl; pair = refl }
sort_is true key (lexemes.Tag handle suffix) =
    record { column = λ i. refl; dash = refl; bare = refl; stream = refl; ends = refl; pair = refl }
sort_is false key (lexemes.Tag handle suffix) =
    record { column = λ i. refl; dash = refl; bare = refl; stream = refl; ends = refl; pair = refl }
sort_is true key (lexemes.Scalar style text) =
    record { column = λ i. refl; dash = refl; bare = refl; stream = refl; ends = refl; pair = refl }
sort_is false key (lexemes.Scalar style text) =
    record { column = λ i. refl; dash = refl; bare = refl; stream = refl; ends = refl; pair = refl }

ends_column : (t : Option ℕ) (c : ℕ) → IsPositive c → ends_frame t (one_less c) ≡ nat_lt (reach t) c
ends_column t zero p = absurd p
ends_column None (suc c) p = grind (arith, nat_tests)
ends_column (Some k) (suc c) p = grind (arith, nat_tests)

in_column : (t : Option ℕ) (c : ℕ) → IsPositive c → is_in_column t (one_less c) ≡ (reach t == c)
in_column t zero p = absurd p
in_column None (suc c) p = grind (arith, nat_tests)
in_column (Some k) (suc c) p = grind (arith, nat_tests)

pub right_column : (k c : ℕ) → IsPositive c → nat_lt (one_less c) k ≡ nat_lt c (suc k)
right_column k zero p = absurd p
right_column k (suc c) p = grind (arith, nat_tests)

abbrev pub Column : Bool → lexemes.Lexeme → Option ℕ
Column b l = token_column (token_of b l)

pub left_same :
    (b : Bool) (s : Scope) (l : lexemes.Lexeme) (c : ℕ) → IsPositive c →
    ends_frame (Column b l) (one_less c) ≡ stands_left (terminal_of b s l) c
left_same b s l c p =
    ends_column (Column b l) c p ∙ ap (λ r. nat_lt r c) (sym ((sort_is b l.key l.kind).column (at_of b s l)))

pub stands_same :
    (b : Bool) (s : Scope) (l : lexemes.Lexeme) (c : ℕ) → IsPositive c →
    is_in_column (Column b l) (one_less c) ≡ stands_in (terminal_of b s l) c
stands_same b s l c p =
    in_column (Column b l) c p ∙ ap (λ r. r == c) (sym ((sort_is b l.key l.kind).column (at_of b s l)))

pub dash_same :
    (b : Bool) (s : Scope) (l : lexemes.Lexeme) (c : ℕ) → IsPositive c →
    (is_dash_token (token_of b l).sort && is_in_column (Column b l) (one_less c)) ≡ dash_in (terminal_of b s l) c
dash_same b s l c p = ap₂ (λ x y. x && y) (sort_is b l.key l.kind).dash (stands_same b s l c p)

pub entry_same :
    (b : Bool) (s : Scope) (l : lexemes.Lexeme) (c : ℕ) → IsPositive c →
    (begins_pair (token_of b l).sort && is_in_column (Column b l) (one_less c)) ≡ entry_in (terminal_of b s l) c
entry_same b s l c p = ap₂ (λ x y. x && y) (sort_is b l.key l.kind).pair (stands_same b s l c p)
