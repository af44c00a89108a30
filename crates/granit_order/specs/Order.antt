-- What the flagged lexemes of a text keep to, said of the list alone: brackets match and `in_flow` is what they say; in
-- flow no `-` stands, and a simple key begins only behind an opener or a `,`; outside flow, what stands between the
-- begin of a simple key and its `:` stands right of it and begins nothing else; the end is the last (YAML 1.2.2, 7.4
-- and 8.2).
pub use Rattle.granit_views.specs.Running.{FairRun, GivesTold}
pub use Rattle.granit_views.specs.View.{IsFresh, item_of}
use Rattle.std.specs.Prelude.{◌≡◌, ℕ, Bool, true, false, List, [], ◌∷◌, Option, Some, None}
use Rattle.granit_views.specs.Fair.{is_key_part}
use Rattle.granit_language.specs.Seen.{Flagged, terminal_of}
use Rattle.granit_language.specs.Reading.{begins_kind}
use Rattle.granit_language.specs.Scope.{Scope}
use Rattle.granit_language.specs.Scoping.{next_scope}
use Rattle.granit_language.specs.Terminal.{Open, TerminalKind, TheEnd, Comma, Colon, Close, Part, At, Terminal, edge}
use Rattle.granit_language.specs.Terminal.{is_dash_kind, bracket_is, stands_left}
use Rattle.granit_lexemes.specs.declared.layout.Bracket.{Bracket}
use Rattle.granit_machine.specs.Laid.{is_nonempty}

-- ---- what stands behind a lexeme

-- the open brackets, the innermost first
abbrev pub outer_brackets : List Bracket → List Bracket
outer_brackets [] = []
outer_brackets (b ∷ bs) = bs

abbrev pub open_behind : TerminalKind → List Bracket → List Bracket
open_behind (Part (Open bracket)) bs = bracket ∷ bs
open_behind (Close bracket) bs = outer_brackets bs
open_behind kind bs = bs

-- the column of the simple key outside flow whose `:` must come
abbrev pub due_if : Bool → ℕ → Option ℕ → Option ℕ
due_if true c due = Some c
due_if false c due = due

abbrev pub due_by : TerminalKind → At → Option ℕ → Option ℕ
due_by (Part k) i due = due_if i.begins_key (edge i) due
due_by (Colon (Some n)) i due = None
due_by kind i due = due

abbrev pub due_behind : List Bracket → TerminalKind → At → Option ℕ → Option ℕ
due_behind [] kind i due = due_by kind i due
due_behind (b ∷ bs) kind i due = due

-- whether a simple key may begin in flow
abbrev pub may_follow : TerminalKind → Bool
may_follow (Part (Open bracket)) = true
may_follow Comma = true
may_follow kind = false

-- ---- each lexeme

abbrev pub is_innermost : Bracket → List Bracket → Bool
is_innermost bracket [] = false
is_innermost bracket (b ∷ bs) = bracket_is b bracket

abbrev pub closes_innermost : TerminalKind → List Bracket → Bool
closes_innermost (Close bracket) bs = is_innermost bracket bs
closes_innermost kind bs = true

-- behind open brackets, a column that is due, and where a key may begin in flow or not
pub record InOrder (bs : List Bracket) (due : Option ℕ) (may : Bool) (x : Terminal) : Type 0 where
  pub in_flow : x.at.in_flow ≡ is_nonempty bs
  pub closes : closes_innermost x.kind bs ≡ true
  pub no_dash : is_nonempty bs ≡ true → is_dash_kind x.kind ≡ false
  pub begins : is_nonempty bs ≡ true → may ≡ false → is_key_part x.kind x.at.begins_key ≡ false
  pub begins_none : (c : ℕ) → bs ≡ [] → due ≡ Some c → begins_kind x.kind x.at.begins_key ≡ false
  pub stands_right : (c : ℕ) → bs ≡ [] → due ≡ Some c → stands_left x c ≡ false

abbrev pub EndsThere : TerminalKind → List Flagged → Type 0
EndsThere TheEnd fs = fs ≡ []
EndsThere kind fs = Unit {0}

-- ---- lists

abbrev pub OrderedFrom : List Flagged → Scope → List Bracket → Option ℕ → Bool → Type 0
OrderedFrom [] s bs due may = Unit {0}
OrderedFrom (f ∷ fs) s bs due may =
    InOrder bs due may (terminal_of f.1 s f.0) × EndsThere (terminal_of f.1 s f.0).kind fs
    × OrderedFrom fs (next_scope (terminal_of f.1 s f.0).kind s)
    (open_behind (terminal_of f.1 s f.0).kind bs)
    (due_behind bs (terminal_of f.1 s f.0).kind (terminal_of f.1 s f.0).at due)
    (may_follow (terminal_of f.1 s f.0).kind)

-- ---- in two parts: brackets, and the keys that are due

pub record InBrackets (bs : List Bracket) (may : Bool) (x : Terminal) : Type 0 where
  pub in_flow : x.at.in_flow ≡ is_nonempty bs
  pub closes : closes_innermost x.kind bs ≡ true
  pub no_dash : is_nonempty bs ≡ true → is_dash_kind x.kind ≡ false
  pub begins : is_nonempty bs ≡ true → may ≡ false → is_key_part x.kind x.at.begins_key ≡ false

abbrev pub BracketsFrom : List Flagged → Scope → List Bracket → Bool → Type 0
BracketsFrom [] s bs may = Unit {0}
BracketsFrom (f ∷ fs) s bs may =
    InBrackets bs may (terminal_of f.1 s f.0) × EndsThere (terminal_of f.1 s f.0).kind fs
    × BracketsFrom fs (next_scope (terminal_of f.1 s f.0).kind s)
    (open_behind (terminal_of f.1 s f.0).kind bs)
    (may_follow (terminal_of f.1 s f.0).kind)

pub record KeepsKey (bs : List Bracket) (due : Option ℕ) (x : Terminal) : Type 0 where
  pub begins_none : (c : ℕ) → bs ≡ [] → due ≡ Some c → begins_kind x.kind x.at.begins_key ≡ false
  pub stands_right : (c : ℕ) → bs ≡ [] → due ≡ Some c → stands_left x c ≡ false

abbrev pub KeysFrom : List Flagged → Scope → List Bracket → Option ℕ → Type 0
KeysFrom [] s bs due = Unit {0}
KeysFrom (f ∷ fs) s bs due =
    KeepsKey bs due (terminal_of f.1 s f.0)
    × KeysFrom fs (next_scope (terminal_of f.1 s f.0).kind s)
    (open_behind (terminal_of f.1 s f.0).kind bs)
    (due_behind bs (terminal_of f.1 s f.0).kind (terminal_of f.1 s f.0).at due)
