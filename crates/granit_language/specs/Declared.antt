-- What stands declared at a place, said of the lexemes before it (YAML 1.2.2, 3.2.2.2, 6.8 and 6.9).
use Rattle.std.specs.Prelude.{◌≡◌, ℕ, suc, Bool, true, false, nat_eq, nat_lt, ◌==◌, List, [], ◌∷◌, ◌++◌, length, codes}
use Rattle.std.specs.Prelude.{◌⊎◌}
use lib.Pointwise.{pointwise}
use Rattle.granit_error.specs.OptionsData.{OptionsData}
use Rattle.granit_language.specs.Terminal.{Anchor, Property, TerminalKind, Directive, DocumentStart, DocumentEnd, Part}
use Rattle.granit_language.specs.Terminal.{Terminal}
use Rattle.granit_lexemes.specs.Lexeme.{Version, TagPrefix}

abbrev pub is_mark : TerminalKind → Bool
is_mark DocumentStart = true
is_mark DocumentEnd = true
is_mark kind = false

abbrev pub is_anchor_of : List ℕ → TerminalKind → Bool
is_anchor_of name (Part (Property (Anchor w))) = pointwise nat_eq name w.characters
is_anchor_of name kind = false

abbrev pub is_handle_of : List ℕ → TerminalKind → Bool
is_handle_of handle (Directive (TagPrefix other prefix)) = pointwise nat_eq handle other
is_handle_of handle kind = false

abbrev pub is_version : TerminalKind → Bool
is_version (Directive (Version major minor)) = true
is_version kind = false

abbrev pub no_kind : TerminalKind → Bool
no_kind kind = false

abbrev pub one_more : TerminalKind → ℕ → ℕ
one_more (Part (Property (Anchor w))) n = suc n
one_more kind n = n

-- how many anchors these lexemes are, behind n
abbrev pub anchors : List Terminal → ℕ → ℕ
anchors [] n = n
anchors (x ∷ xs) n = anchors xs (one_more x.kind n)

-- no document mark, and nothing that a test finds
abbrev pub Without : (TerminalKind → Bool) → List Terminal → Type 0
Without test [] = Unit {0}
Without test (x ∷ xs) = (is_mark x.kind ≡ false) × (test x.kind ≡ false) × Without test xs

-- the last lexeme that a test finds, with no mark behind it
pub record LastSince (test : TerminalKind → Bool) (front : List Terminal) (found : Terminal) : Type 0 where
  pub before : List Terminal
  pub within : List Terminal
  pub is : front ≡ before ++ (found ∷ within)
  pub last : Without test within
  pub found_is : test found.kind ≡ true

-- the last mark, with nothing that a test finds behind it
pub record NoneBehind (test : TerminalKind → Bool) (front : List Terminal) : Type 0 where
  pub before : List Terminal
  pub mark : Terminal
  pub within : List Terminal
  pub is : front ≡ before ++ (mark ∷ within)
  pub mark_is : is_mark mark.kind ≡ true
  pub none : Without test within

-- nothing that a test finds behind the last mark, or at all where there is none
abbrev pub NoneSince : (TerminalKind → Bool) → List Terminal → Type 0
NoneSince test front = NoneBehind test front ⊎ Without test front

-- nothing that a test finds at all
abbrev pub Never : (TerminalKind → Bool) → List Terminal → Type 0
Never test [] = Unit {0}
Never test (x ∷ xs) = (test x.kind ≡ false) × Never test xs

-- the last lexeme that a test finds, whatever marks stand behind it
pub record LastEver (test : TerminalKind → Bool) (front : List Terminal) (found : Terminal) : Type 0 where
  pub before : List Terminal
  pub within : List Terminal
  pub is : front ≡ before ++ (found ∷ within)
  pub last : Never test within
  pub found_is : test found.kind ≡ true

-- The last anchor of the name in the document, n by its position among all anchors.
pub record NamedBy (name : List ℕ) (front : List Terminal) (n : ℕ) : Type 0 where
  pub anchor : Terminal
  pub stands : LastSince (is_anchor_of name) front anchor
  pub counted : n ≡ suc (anchors stands.before 0)

-- the directive of the handle, with no mark behind it
pub record DeclaredBy (handle : List ℕ) (front : List Terminal) (prefix : List ℕ) : Type 0 where
  pub directive : Terminal
  pub other : List ℕ
  pub directive_is : directive.kind ≡ Directive (TagPrefix other prefix)
  pub stands : LastSince (is_handle_of handle) front directive

-- the same of the handles of a document: its `---`, and the directive before that
pub record InForce (handle : List ℕ) (front : List Terminal) (prefix : List ℕ) : Type 0 where
  pub before : List Terminal
  pub mark : Terminal
  pub within : List Terminal
  pub is : front ≡ before ++ (mark ∷ within)
  pub mark_is : mark.kind ≡ DocumentStart
  pub last : Without no_kind within
  pub declared : DeclaredBy handle before prefix

-- no directive of the handle before the `---` of the document, or no `---` in it
pub record NotInForce (handle : List ℕ) (front : List Terminal) : Type 0 where
  pub before : List Terminal
  pub mark : Terminal
  pub within : List Terminal
  pub is : front ≡ before ++ (mark ∷ within)
  pub last : Without no_kind within
  pub declares_not : (mark.kind ≡ DocumentEnd) ⊎ ((mark.kind ≡ DocumentStart) × NoneSince (is_handle_of handle) before)

-- the last directive of the handle, of this document or of an earlier one
pub record DeclaredEver (handle : List ℕ) (front : List Terminal) (prefix : List ℕ) : Type 0 where
  pub directive : Terminal
  pub other : List ℕ
  pub directive_is : directive.kind ≡ Directive (TagPrefix other prefix)
  pub stands : LastEver (is_handle_of handle) front directive

-- What a handle stands for behind these lexemes: what its document declares; else, where handles stay over documents,
-- what was declared last, of `!` and `!!` never; else `!!` stands for the tags that YAML itself has, and `!` and no
-- handle for themselves (YAML 1.2.2, 6.8.2).
pub data StandsFor (o : OptionsData) (handle : List ℕ) (front : List Terminal) : List ℕ → Type 0 where
  by_document : {prefix : List ℕ} → InForce handle front prefix → StandsFor o handle front prefix
  by_earlier :
      {prefix : List ℕ} → NotInForce handle front ⊎ Without no_kind front → o.keep_tags ≡ true →
      nat_lt 2 (length handle) ≡ true → DeclaredEver handle front prefix → StandsFor o handle front prefix
  of_core :
      NotInForce handle front ⊎ Without no_kind front → (length handle == 2) ≡ true →
      StandsFor o handle front (codes "tag:yaml.org,2002:")
  of_itself :
      NotInForce handle front ⊎ Without no_kind front → nat_lt 2 (length handle) ≡ false →
      StandsFor o handle front handle
