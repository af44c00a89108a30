-- Readings and causes with what stands declared and the limit of open block collections.
use Rattle.std.specs.Prelude.{◌≡◌, ℕ, Bool, true, false, ◌==◌, nat_lt, List, [], ◌∷◌, ◌++◌, length, ◌⊎◌}
use Rattle.granit_base.specs.Written.{Written}
use Rattle.granit_error.specs.OptionsData.{OptionsData}
use Rattle.granit_language.specs.Declared.{is_anchor_of, is_handle_of, is_version, no_kind, Without, LastSince, Never}
use Rattle.granit_language.specs.Declared.{NoneSince, DeclaredBy, NotInForce}
use Rattle.granit_language.specs.Faults.{IsSpelled, FaultAt}
use Rattle.granit_language.specs.GrammarFault.{GrammarFault, TooManyBlocks, DuplicateVersionDirective}
use Rattle.granit_language.specs.GrammarFault.{UnsupportedYamlMajorVersion, DuplicateTagDirective, UnknownAnchor}
use Rattle.granit_language.specs.GrammarFault.{UndeclaredTagHandle}
use Rattle.granit_language.specs.Node.{TreeProperties, EntryLead, Stream}
use Rattle.granit_language.specs.OpenPlace.{Hole, AtEntry, spell_hole, HolePlaced}
use Rattle.granit_language.specs.Placed.{StreamPlaced}
use Rattle.granit_language.specs.Scope.{no_scope}
use Rattle.granit_language.specs.Scoping.{scope_behind, in_scope, scoped, Means}
use Rattle.granit_language.specs.Terminal.{Tag, Alias, Property, TerminalKind, Directive, Dash, Part, At, Terminal}
use Rattle.granit_language.specs.Terminal.{is_dash_kind}
use Rattle.granit_language.specs.TreeEvents.{TreeEvent, stream_events}
use Rattle.granit_language.specs.Within.{stream_within}
use Rattle.granit_language.specs.Yield.{spell_stream}
use Rattle.granit_lexemes.specs.Lexeme.{Version, TagPrefix}

-- These events are those of the one stream of the lexemes, each with what stands before it; it keeps the limit, and all
-- means something.
pub record WholeReading (o : OptionsData) (xs : List Terminal) (es : List TreeEvent) : Type 0 where
  pub stream : Stream
  pub spelled : spell_stream stream [] ≡ scoped no_scope xs
  pub placed : StreamPlaced stream
  pub within : stream_within o.block_nesting_limit stream ≡ true
  pub means : Means o (scoped no_scope xs)
  pub events_are : es ≡ stream_events stream []

-- Why a lexeme behind these means nothing.
pub data ScopeCause (o : OptionsData) (front : List Terminal) : TerminalKind → GrammarFault → Type 0 where
  no_anchor :
      {name : Written} → o.emit_unresolved_aliases ≡ false → NoneSince (is_anchor_of name.characters) front →
      ScopeCause o front (Part (Alias name)) UnknownAnchor
  no_handle :
      {handle suffix : List ℕ} → nat_lt 2 (length handle) ≡ true → NotInForce handle front ⊎ Without no_kind front →
      (o.keep_tags ≡ false) ⊎ Never (is_handle_of handle) front →
      ScopeCause o front (Part (Property (Tag handle suffix))) UndeclaredTagHandle
  second_version :
      {major minor : ℕ} → (first : Terminal) → LastSince is_version front first →
      ScopeCause o front (Directive (Version major minor)) DuplicateVersionDirective
  other_version :
      {major minor : ℕ} → (major == 1) ≡ false → NoneSince is_version front →
      ScopeCause o front (Directive (Version major minor)) UnsupportedYamlMajorVersion
  second_handle :
      {handle prefix : List ℕ} → (first : List ℕ) → DeclaredBy handle front first →
      ScopeCause o front (Directive (TagPrefix handle prefix)) DuplicateTagDirective

-- a stream that keeps the limit begins so
abbrev pub BeginsWithin : ℕ → List Terminal → Type 0
BeginsWithin n xs = (s : Stream) × (spell_stream s [] ≡ xs) × StreamPlaced s × (stream_within n s ≡ true)

-- With these lexemes a reading begins: some stream that keeps the limit goes on with them, and each means something.
pub record Viable (o : OptionsData) (xs : List Terminal) : Type 0 where
  pub more : List Terminal
  pub within : BeginsWithin o.block_nesting_limit (scoped no_scope xs ++ more)
  pub means : Means o (scoped no_scope xs)

-- The last lexeme begins a block collection: a `-` a sequence, indentless or not, another one a mapping.
pub data BeginsBlock (xs : List Terminal) : TerminalKind → (indentless : Bool) → Type 0 where
  begins_sequence :
      {indentless : Bool} (r : Hole) (p : TreeProperties) (column : ℕ) (lead : EntryLead) (dash : At) →
      HolePlaced (AtEntry r p indentless column lead dash) →
      spell_hole (AtEntry r p indentless column lead dash) [] ≡ xs → BeginsBlock xs Dash indentless
  begins_mapping : {kind : TerminalKind} → is_dash_kind kind ≡ false → BeginsBlock xs kind false

-- Why no reading goes on with x, a lexeme of a kind with what stands declared there, behind these.
pub data LexemeCause (o : OptionsData) (front : List Terminal) (kind : TerminalKind) (x : Terminal) :
    GrammarFault → Type 0 where
  -- no stream goes on so
  not_taken : {k : GrammarFault} → FaultAt (scoped no_scope front ++ (x ∷ [])) k x → LexemeCause o front kind x k
  -- one does, but none that keeps the limit
  too_many :
      {indentless : Bool} (more : List Terminal) → IsSpelled (scoped no_scope front ++ (x ∷ more)) →
      ((more : List Terminal) → BeginsWithin o.block_nesting_limit (scoped no_scope front ++ (x ∷ more)) → ⊥) →
      BeginsBlock (scoped no_scope front ++ (x ∷ [])) kind indentless →
      LexemeCause o front kind x (TooManyBlocks indentless)
  -- one does that keeps it, but the lexeme means nothing
  means_nothing :
      {k : GrammarFault} (more : List Terminal) →
      BeginsWithin o.block_nesting_limit (scoped no_scope front ++ (x ∷ more)) →
      ScopeCause o front kind k → LexemeCause o front kind x k

-- Lexemes with which a reading begins, and the next one, with which none goes on, for a cause.
pub record WholeFault (o : OptionsData) (xs : List Terminal) (k : GrammarFault) (x : Terminal) : Type 0 where
  pub front : List Terminal
  pub here : Terminal
  pub rest : List Terminal
  pub is : xs ≡ front ++ (here ∷ rest)
  pub x_is : x ≡ in_scope (scope_behind front no_scope) here
  pub viable : Viable o front
  pub cause : LexemeCause o front here.kind x k
