-- How lexemes declare, what they mean by what was declared before them, and which of them mean nothing.
use Rattle.std.specs.Prelude.{◌≡◌, ℕ, suc, Bool, true, false, ◌&&◌, ◌==◌, nat_lt, if◌then◌else◌, List, [], ◌∷◌, length}
use Rattle.std.specs.Prelude.{codes}
use Rattle.std.specs.Prelude.{Option, Some, None}
use Rattle.granit_base.specs.Written.{Written}
use Rattle.granit_error.specs.OptionsData.{OptionsData}
use Rattle.granit_language.specs.GrammarFault.{GrammarFault, DuplicateVersionDirective, UnsupportedYamlMajorVersion}
use Rattle.granit_language.specs.GrammarFault.{DuplicateTagDirective, UnknownAnchor, UndeclaredTagHandle}
use Rattle.granit_language.specs.Scope.{Scope, entry_of}
use Rattle.granit_language.specs.Terminal.{Anchor, Tag, Alias, Property, TerminalKind, Directive, DocumentStart}
use Rattle.granit_language.specs.Terminal.{DocumentEnd, Part, Terminal, terminal}
use Rattle.granit_lexemes.specs.Lexeme.{Version, TagPrefix}

abbrev pub with_anchor_named : Written → Scope → Scope
with_anchor_named name s = record s { count = suc s.count; names = (name.characters, suc s.count) ∷ s.names }

-- what stands behind a lexeme
abbrev pub next_scope : TerminalKind → Scope → Scope
next_scope (Directive (Version major minor)) s = record s { version = Some (major, minor) }
next_scope (Directive (TagPrefix handle prefix)) s =
    record s { pending = (handle, prefix) ∷ s.pending; all_handles = (handle, prefix) ∷ s.all_handles }
next_scope DocumentStart s = record s { names = []; handles = s.pending; pending = []; version = None }
next_scope DocumentEnd s = record s { names = []; handles = []; pending = []; version = None }
next_scope (Part (Property (Anchor name))) s = with_anchor_named name s
next_scope kind s = s

abbrev pub scope_behind : List Terminal → Scope → Scope
scope_behind [] s = s
scope_behind (x ∷ xs) s = scope_behind xs (next_scope x.kind s)

abbrev pub in_scope : Scope → Terminal → Terminal
in_scope s x = terminal x.kind (record (x.at) { scope = s })

-- each lexeme with what stands before it
abbrev pub scoped : Scope → List Terminal → List Terminal
scoped s [] = []
scoped s (x ∷ xs) = in_scope s x ∷ scoped (next_scope x.kind s) xs

-- ---- what a handle stands for

abbrev pub if_longer : ℕ → Option (List ℕ) → Option (List ℕ) → Option (List ℕ)
if_longer n a b = if n == 2 then Some (codes "tag:yaml.org,2002:") else if nat_lt 2 n then a else b

-- the prefix that is declared; else that of `!!`; `!` and no handle stay; another stands for nothing
abbrev pub prefix_by : List ℕ → Option (List ℕ) → Option (List ℕ)
prefix_by handle (Some prefix) = Some prefix
prefix_by handle None = if_longer (length handle) None (Some handle)

-- what a handle stood for last, where handles stay over documents; `!` and `!!` never do
abbrev pub kept_of : OptionsData → List ℕ → Scope → Option (List ℕ)
kept_of o handle s = if nat_lt 2 (length handle) && o.keep_tags then entry_of handle s.all_handles else None

abbrev pub or_kept : Option (List ℕ) → Option (List ℕ) → Option (List ℕ)
or_kept (Some prefix) kept = Some prefix
or_kept None kept = kept

abbrev pub prefix_of : OptionsData → List ℕ → Scope → Option (List ℕ)
prefix_of o handle s = prefix_by handle (or_kept (entry_of handle s.handles) (kept_of o handle s))

abbrev pub number_of_anchor : List ℕ → Scope → Option ℕ
number_of_anchor name s = entry_of name s.names

-- ---- what means nothing

abbrev pub fault_if_none : {A : Type 0} → Option A → GrammarFault → Option GrammarFault
fault_if_none None k = Some k
fault_if_none (Some a) k = None

abbrev pub unless : Bool → Option GrammarFault → Option GrammarFault
unless true k = None
unless false k = k

abbrev pub alias_fault : Bool → Option ℕ → Option GrammarFault
alias_fault unresolved number = unless unresolved (fault_if_none number UnknownAnchor)

abbrev pub version_fault : ℕ → Option (ℕ × ℕ) → Option GrammarFault
version_fault major (Some v) = Some DuplicateVersionDirective
version_fault major None = unless (major == 1) (Some UnsupportedYamlMajorVersion)

abbrev pub handle_fault : Option (List ℕ) → Option GrammarFault
handle_fault (Some known) = Some DuplicateTagDirective
handle_fault None = None

-- the kind of a lexeme that means nothing, by what stands before it
abbrev pub scope_fault : OptionsData → TerminalKind → Scope → Option GrammarFault
scope_fault o (Part (Alias name)) s = alias_fault o.emit_unresolved_aliases (number_of_anchor name.characters s)
scope_fault o (Part (Property (Tag handle suffix))) s = fault_if_none (prefix_of o handle s) UndeclaredTagHandle
scope_fault o (Directive (Version major minor)) s = version_fault major s.version
scope_fault o (Directive (TagPrefix handle prefix)) s = handle_fault (entry_of handle s.pending)
scope_fault o kind s = None

-- each lexeme means something by what stands before it
abbrev pub Means : OptionsData → List Terminal → Type 0
Means o [] = Unit {0}
Means o (x ∷ xs) = (scope_fault o x.kind x.at.scope ≡ None) × Means o xs
