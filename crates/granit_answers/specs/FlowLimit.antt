-- How brackets nest in the lexemes of a text (YAML 1.2.2, 7.4).
use Rattle.std.specs.Prelude.{◌≡◌, ℕ, ◌<◌, true, false, List, [], ◌∷◌, length, Option, Some}
use Rattle.granit_base.specs.Place.{Mark}
use Rattle.granit_error.specs.OptionsData.{OptionsData}
use Rattle.granit_language.specs.OpenColumns.{is_outer_kind, IsOpenColumn}
use Rattle.granit_language.specs.Seen.{terminal_kind}
use Rattle.granit_language.specs.Terminal as grammar
use Rattle.granit_language.specs.Terminal.{TerminalKind, Part}
use Rattle.granit_lexemes.specs.Lexeme.{LexemeKind, Colon, KeyStart, Lexeme, Item, OfLexeme, OfComment}
use Rattle.granit_lexemes.specs.declared.layout.Bracket.{Bracket}
use Rattle.granit_lexemes.specs.declared.layout.Bracket.TheVariants.{Square}
use Rattle.granit_order.specs.Order.{open_behind}

-- the open brackets behind items, the innermost first
abbrev pub brackets_behind : List Item → List Bracket → List Bracket
brackets_behind [] bs = bs
brackets_behind (OfLexeme x ∷ is) bs = brackets_behind is (open_behind (terminal_kind x.kind x.key) bs)
brackets_behind (OfComment c ∷ is) bs = brackets_behind is bs

-- a bracket opens inside fewer than so many
abbrev pub OpensInside : ℕ → TerminalKind → List Bracket → Type 0
OpensInside limit (Part (grammar.Open bracket)) bs = length bs < limit
OpensInside limit kind bs = Unit {0}

-- each of these does
abbrev pub NestWithin : ℕ → List Item → List Bracket → Type 0
NestWithin limit [] bs = Unit {0}
NestWithin limit (OfLexeme x ∷ is) bs =
    OpensInside limit (terminal_kind x.kind x.key) bs
    × NestWithin limit is (open_behind (terminal_kind x.kind x.key) bs)
NestWithin limit (OfComment c ∷ is) bs = NestWithin limit is bs

-- ---- the line of a key

-- a `:` in a flow sequence stands on no later line than its key begins on (7.4.2)
abbrev pub KeyOnLine : LexemeKind → Option KeyStart → Mark → List Bracket → Type 0
KeyOnLine Colon (Some k) m (Square ∷ bs) = k.start.place.line < m.place.line → ⊥
KeyOnLine kind key m bs = Unit {0}

abbrev pub KeysOnLines : List Item → List Bracket → Type 0
KeysOnLines [] bs = Unit {0}
KeysOnLines (OfLexeme x ∷ is) bs =
    KeyOnLine x.kind x.key x.start bs × KeysOnLines is (open_behind (terminal_kind x.kind x.key) bs)
KeysOnLines (OfComment c ∷ is) bs = KeysOnLines is bs

-- ---- columns

-- where indentation is strict, what stands in flow stands right of each open column (8.2)
abbrev pub StandsRight : OptionsData → List Lexeme → Lexeme → Type 0
StandsRight o ls x =
    o.strict_indentation ≡ true → x.in_flow ≡ true → is_outer_kind x.kind ≡ false → (c : ℕ) → IsOpenColumn ls c →
    c < x.start.place.column

abbrev pub AllStandRight : OptionsData → List Lexeme → List Item → Type 0
AllStandRight o ls [] = Unit {0}
AllStandRight o ls (OfLexeme x ∷ is) = StandsRight o ls x × AllStandRight o (x ∷ ls) is
AllStandRight o ls (OfComment c ∷ is) = AllStandRight o ls is
