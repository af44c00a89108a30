-- What was looked at, as far as recovery asks.
use Rattle.std.specs.Prelude.{Bool, true, false}
use Rattle.granit_lexemes.specs.PlainEvent.{Comment, DocumentEnd, DocumentStart, EventKind, StreamEnd}
use Rattle.granit_seen.specs.declared.seen.Seen.{Seen}
use Rattle.granit_seen.specs.declared.seen.Seen.TheVariants as seens

-- what an event is
abbrev pub seen_kind : EventKind → Seen
seen_kind (Comment text placement) = seens.Comment
seen_kind (DocumentStart explicit version) = seens.DocumentStart
seen_kind DocumentEnd = seens.DocumentEnd
seen_kind StreamEnd = seens.StreamEnd
seen_kind kind = seens.Another

abbrev pub seen_starts_document : Seen → Bool
seen_starts_document seens.DocumentStart = true
seen_starts_document seen = false

abbrev pub seen_ends_document : Seen → Bool
seen_ends_document seens.DocumentEnd = true
seen_ends_document seen = false

abbrev pub ends_stream : Seen → Bool
ends_stream seens.StreamEnd = true
ends_stream seen = false

-- whether what was looked at tells that another document is there: any event but a comment
abbrev pub seen_tells_document : Seen → Bool
seen_tells_document seens.Nothing = false
seen_tells_document seens.Comment = false
seen_tells_document seen = true
