-- Where a value may stand at once in flow: behind a closer or a quoted scalar with no comment behind it (YAML 1.2.2,
-- 7.4.2).
use Rattle.std.specs.Prelude.{Bool, true, false, List, [], ◌∷◌, Option, None}
use Rattle.granit_lexemes.specs.Comment.{CommentRead}
use Rattle.granit_lexemes.specs.Lexeme.{LexemeKind, Close, Scalar, Item, OfLexeme, OfComment}
use Rattle.granit_before.specs.Tabs.{is_quoted}

-- a comment on the last line of a quoted scalar belongs to it
abbrev pub is_touching : LexemeKind → (tail : Option CommentRead) → Bool
is_touching (Close bracket) None = true
is_touching (Scalar style text) tail = is_quoted style
is_touching kind tail = false

-- behind some items, where it was so or not before them
abbrev pub ends_touching : (before : Bool) → List Item → Bool
ends_touching before [] = before
ends_touching before (OfLexeme x ∷ is) = ends_touching (is_touching x.kind x.tail) is
ends_touching before (OfComment c ∷ is) = ends_touching false is
