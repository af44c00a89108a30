-- An anchor that comes again.
use Rattle.std.specs.Prelude.{◌≡◌, ◌<◌, ◌-◌, ◌^◌, true, IsSome}
use Rattle.granit_base.specs.Written.{Written}
use Rattle.granit_items.specs.declared.item.LexemeKind.{LexemeKind}
use Rattle.granit_items.specs.declared.item.LexemeKind.TheVariants as kinds
use Rattle.granit_machine.specs.Entries.{lookup_text}
use Rattle.granit_machine.specs.Frames.{ParserState}

-- this holds where a lexeme is an anchor whose name is lent and kept already, and whose number isn't the greatest
abbrev pub WhereNamedAgain : LexemeKind → ParserState → Type 0 → Type 0
WhereNamedAgain kind p Holds =
    (name : Written) → kind ≡ kinds.Anchor name → name.is_borrowed ≡ true → p.count < 2 ^ 64 - 1
    → IsSome (lookup_text name.characters p.names) → Holds
