-- What holds around documents.
use Rattle.std.specs.Prelude.{◌≡◌, [], None}
use Rattle.granit_machine.specs.Frames.{ParserState}

-- outside all nodes nothing waits for one
abbrev pub NoneWaitsOutside : ParserState → Type 0
NoneWaitsOutside p = p.frames ≡ [] → p.waiting ≡ None
