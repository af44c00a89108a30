-- Terminals: lexemes as the grammar sees them, and what one is to the collections before it.
use Rattle.std.specs.Prelude.{ℕ, suc, Bool, true, false, ◌&&◌, ◌==◌, nat_lt, Option, Some, None, List}
use Rattle.granit_base.specs.Place.{Mark}
use Rattle.granit_base.specs.Written.{Written}
use Rattle.granit_base.specs.declared.style.ScalarStyle.{ScalarStyle}
use Rattle.granit_lexemes.specs.Here.{first_place}
use Rattle.granit_lexemes.specs.Lexeme.{DirectiveKind}
use Rattle.granit_lexemes.specs.declared.layout.Bracket.{Bracket}
use Rattle.granit_lexemes.specs.declared.layout.Bracket.TheVariants.{Square, Curly}
use Rattle.granit_lexemes.specs.Source.{Source}
use Rattle.granit_language.specs.Scope.{Scope, no_scope}

-- the start of a text, where its stream starts
abbrev pub text_start : Mark
text_start = record { place = first_place; byte_offset = Some 0 }

-- `&` or `!` and what follows (c-ns-tag-property, c-ns-anchor-property, 6.9)
pub data PropertyKind : Type 0 where
  Anchor : (name : Written) → PropertyKind
  Tag : (handle suffix : List ℕ) → PropertyKind

-- the lexemes that begin a node or go on with its properties
pub data PartKind : Type 0 where
  Alias : (name : Written) → PartKind
  Property : PropertyKind → PartKind
  Scalar : (style : ScalarStyle) (text : Written) → PartKind
  Open : Bracket → PartKind

pub data TerminalKind : Type 0 where
  Directive : DirectiveKind → TerminalKind
  -- `---`, `...` and the end of the text (9.1)
  DocumentStart DocumentEnd TheEnd : TerminalKind
  -- `-`, `?` and `,` (5.3)
  Dash Question Comma : TerminalKind
  -- `:` with the number of the lexeme that begins its simple key
  Colon : (key : Option ℕ) → TerminalKind
  Close : Bracket → TerminalKind
  Part : PartKind → TerminalKind

-- where a terminal stands, and what is known of it from the lexemes before it
pub record At : Type 0 where
  -- the place of its first character
  pub start : Mark
  -- the span that its token bears, and the place behind its tail
  pub shown : Source
  pub end : Mark
  pub column : ℕ
  pub in_flow : Bool
  pub begins_line : Bool
  -- whether it directly follows a `-`, `?` or keyless `:` outside flow
  pub follows_indicator : Bool
  pub number : ℕ
  -- of a block scalar, the column of its content, counted from 1
  pub own_indent : Option ℕ
  -- whether a simple key begins with it
  pub begins_key : Bool
  -- what the lexemes before it declare
  pub scope : Scope

pub record Terminal : Type 0 where
  pub kind : TerminalKind
  pub at : At

abbrev pub terminal : TerminalKind → At → Terminal
terminal kind at = record { kind = kind; at = at }

-- stands for none
abbrev pub no_terminal : Terminal
no_terminal = terminal TheEnd (record {
  start = text_start;
  shown = record { start = text_start; end = text_start };
  end = text_start;
  column = 0;
  in_flow = false;
  begins_line = false;
  follows_indicator = false;
  number = 0;
  own_indent = None;
  begins_key = false;
  scope = no_scope;
})

-- a column, counted from 1
abbrev pub edge : At → ℕ
edge i = suc i.column

-- the same of a lexeme, 0 for what stands left of every column
abbrev pub reach_of : TerminalKind → At → ℕ
reach_of (Directive d) i = 0
reach_of DocumentStart i = 0
reach_of DocumentEnd i = 0
reach_of TheEnd i = 0
reach_of kind i = edge i

abbrev pub is_stream_kind : TerminalKind → Bool
is_stream_kind (Directive d) = true
is_stream_kind DocumentStart = true
is_stream_kind DocumentEnd = true
is_stream_kind TheEnd = true
is_stream_kind kind = false

abbrev pub is_directive_kind : TerminalKind → Bool
is_directive_kind (Directive d) = true
is_directive_kind kind = false

abbrev pub is_dash_kind : TerminalKind → Bool
is_dash_kind Dash = true
is_dash_kind kind = false

-- a `:` without key
abbrev pub is_bare_kind : TerminalKind → Bool
is_bare_kind (Colon None) = true
is_bare_kind kind = false

abbrev pub is_comma_kind : TerminalKind → Bool
is_comma_kind Comma = true
is_comma_kind kind = false

abbrev pub bracket_is : Bracket → Bracket → Bool
bracket_is Square Square = true
bracket_is Curly Curly = true
bracket_is a b = false

abbrev pub closes_kind : Bracket → TerminalKind → Bool
closes_kind bracket (Close other) = bracket_is bracket other
closes_kind bracket kind = false

-- an entry of a block mapping
abbrev pub begins_entry_kind : TerminalKind → Bool → Bool
begins_entry_kind (Part k) begins_key = begins_key
begins_entry_kind Question begins_key = true
begins_entry_kind (Colon None) begins_key = true
begins_entry_kind kind begins_key = false

-- a collection in column c ends before the lexeme
abbrev pub stands_left : Terminal → ℕ → Bool
stands_left x c = nat_lt (reach_of x.kind x.at) c

abbrev pub stands_in : Terminal → ℕ → Bool
stands_in x c = reach_of x.kind x.at == c

-- a `-`, an entry of a mapping, a keyless `:` in column c
abbrev pub dash_in : Terminal → ℕ → Bool
dash_in x c = is_dash_kind x.kind && stands_in x c

abbrev pub entry_in : Terminal → ℕ → Bool
entry_in x c = begins_entry_kind x.kind x.at.begins_key && stands_in x c

abbrev pub bare_in : Terminal → ℕ → Bool
bare_in x c = is_bare_kind x.kind && stands_in x c
