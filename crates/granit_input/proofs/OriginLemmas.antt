-- What calls leave as it was, one after the other.
use Rattle.std.proofs.Common.{refl, ap, ◌∙◌, is_some, le_trans, arith}
use Rattle.granit_input.specs.Origin.{Origin, Goes}

pub goes_nowhere : (o : Origin) → Goes o o
goes_nowhere o = record {
  sliced = refl;
  lent = refl;
  tells_offset = refl;
  handed_out = refl;
  knows_end = λ known. (known, refl);
  error = λ _. refl;
  floor = omega arith;
  ends_with = λ f told. told;
}

pub goes_on : (a b c : Origin) → Goes a b → Goes b c → Goes a c
goes_on a b c first next = record {
  sliced = next.sliced ∙ first.sliced;
  lent = next.lent ∙ first.lent;
  tells_offset = next.tells_offset ∙ first.tells_offset;
  handed_out = next.handed_out ∙ first.handed_out;
  knows_end = λ known.
      let same = first.knows_end known in
      let on = next.knows_end same.0 in (on.0, on.1 ∙ same.1);
  error = λ some. let same = first.error some in next.error (ap is_some same ∙ some) ∙ same;
  floor = le_trans first.floor next.floor;
  ends_with = λ f told. next.ends_with f (first.ends_with f told);
}
