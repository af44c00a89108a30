-- Where a reader stands.
use Rattle.granit_lexemes.specs.Here.{Here}
use Rattle.granit_machine.specs.Laid.{Laid}
use Rattle.granit_machine.specs.ReaderState.{ReaderState}

abbrev pub reader_at : Here → Laid → ReaderState
reader_at h l = record { here = h; laid = l }
