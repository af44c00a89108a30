-- Where a boundary stands in a text: at a counted place.
use Rattle.std.specs.Prelude.{ℕ, List}
use Rattle.granit_quiet.specs.Quiet.{CountedHere}
use Rattle.granit_lexemes.specs.Here.{Here}
use Rattle.granit_restart.specs.Boundary.{Boundary, AtStart, PastEnd, AtTextEnd}

abbrev pub boundary_place : Boundary → Here
boundary_place (AtStart h) = h
boundary_place (PastEnd h) = h
boundary_place (AtTextEnd h) = h

-- a reader stands at some index of a text, where the byte-order marks at some indices count no column
pub record IsCounted (x : List ℕ) (h : Here) : Type 0 where
  pub index : ℕ
  pub marks : List ℕ
  pub counted : CountedHere x marks index h
