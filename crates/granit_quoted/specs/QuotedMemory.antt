-- Which quoted scalars take no memory: those whose text the input lends, as they stand.
use Rattle.std.specs.Prelude.{Bool, ◌&&◌}
use Rattle.granit_lexemes.specs.Here.{Here, step}
use Rattle.granit_lexemes.specs.QuotedScalar.{is_verbatim}

-- Whether the quoted scalar that begins here takes none: the input lends it, and all its characters stand for
-- themselves.
unfoldable pub quoted_takes_none : (single : Bool) → Here → Bool
quoted_takes_none single h = h.unread.lends && is_verbatim single (step h).unread.text
