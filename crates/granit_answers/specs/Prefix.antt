-- Where byte-order marks may stand: with nothing but directives before them in their document (YAML 1.2.2, 5.2).
use Rattle.std.specs.Prelude.{Bool, true, false, List, [], ◌∷◌}
use Rattle.granit_lexemes.specs.Lexeme.{LexemeKind, Directive, DocumentEnd, StreamEnd, Lexeme}

abbrev pub prefix_behind : LexemeKind → Bool → Bool
prefix_behind DocumentEnd before = true
prefix_behind (Directive directive) before = before
prefix_behind StreamEnd before = before
prefix_behind kind before = false

-- behind these lexemes, the latest first
abbrev pub before_document : List Lexeme → Bool
before_document [] = true
before_document (x ∷ xs) = prefix_behind x.kind (before_document xs)
