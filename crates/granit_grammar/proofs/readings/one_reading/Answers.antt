use Rattle.std.proofs.Common.{subst, sym, ◌∙◌, None, [], ◌∷◌}
use Rattle.granit_language.specs.Reading.{KeysFit}
use Rattle.granit_grammar.proofs.Placing.{one_cut, Tells}
use Rattle.granit_grammar.proofs.Numbers.{stream_named}
use Rattle.granit_grammar.proofs.Complete.{one_stream}
use Rattle.granit_grammar.proofs.readings.one_reading.Goals as goal

pub returns-clause-reading : goal.returns-clause-reading
returns-clause-reading c =
    λ xs s l k e.
    let t = subst (λ a. Tells a xs) e (one_cut xs)
    in record {
      spelled = t.0;
      placed = t.1;
      named = stream_named s t.1 (subst (KeysFit (None ∷ [])) (sym t.0) k);
      lines = l;
    }

pub returns-clause-one : goal.returns-clause-one
returns-clause-one c = λ xs a b f g. one_stream a b f.placed g.placed (f.spelled ∙ sym g.spelled)
