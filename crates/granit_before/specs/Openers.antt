-- The brackets that are open behind lexemes (YAML 1.2.2, 7.4).
use Rattle.std.specs.Prelude.{◌≡◌, List, [], ◌∷◌}
use Rattle.granit_base.specs.Place.{Mark}
use Rattle.granit_lexemes.specs.Lexeme.{LexemeKind, Open, Close, Lexeme}
use Rattle.granit_lexemes.specs.declared.layout.Bracket.{Bracket}

abbrev pub Opener : Type 0
Opener = Bracket × Mark

abbrev pub inside_of : List Opener → List Opener
inside_of [] = []
inside_of (b ∷ bs) = bs

abbrev pub openers_behind : LexemeKind → Mark → List Opener → List Opener
openers_behind (Open bracket) m bs = (bracket, m) ∷ bs
openers_behind (Close bracket) m bs = inside_of bs
openers_behind kind m bs = bs

-- the brackets that are open behind lexemes, the innermost first, and where each stands
abbrev pub openers : List Lexeme → List Opener
openers [] = []
openers (x ∷ xs) = openers_behind x.kind x.start (openers xs)

-- one is
abbrev pub IsInside : List Lexeme → Type 0
IsInside xs = (b : Opener) × (bs : List Opener) × (openers xs ≡ b ∷ bs)
