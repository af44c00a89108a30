-- Each example is a computation.
use Rattle.std.proofs.Common.{Bool, List, [], arith, refl, true, ℕ, ◌∷◌, ◌≡◌}
use Rattle.std.proofs.lemmas.Bool.{and_parts}
use Rattle.std.specs.List.{list_all}
use Rattle.granit_base.specs.Classes.{is_break, is_printable}
use Rattle.granit_json.specs.Examples.{object_text}
use Rattle.granit_lexemes.specs.Gap.{Each}
use lib.Utf8.{encode}
use Rattle.std.specs.Fmt.{digits}
use Rattle.granit_lexemes.specs.Line.{event_line, quoted_char}
use Rattle.granit_json.proofs.examples.json_examples.Goals as goal

of_all : (test : ℕ → Bool) (cs : List ℕ) → list_all test cs ≡ true → Each test cs
of_all test [] e = tt
of_all test (c ∷ cs) e =
    let p = and_parts (test c) (list_all test cs) e in (p.0, of_all test cs p.1)

pub returns-clause-empty : goal.returns-clause-empty
unfolding event_line digits encode
returns-clause-empty c = refl

pub returns-clause-object : goal.returns-clause-object
unfolding event_line quoted_char digits encode
returns-clause-object c = refl

all_print : Each is_printable object_text
unfolding is_printable is_break
all_print = of_all is_printable object_text refl

pub returns-clause-can_be_met : goal.returns-clause-can_be_met
returns-clause-can_be_met c = (all_print, refl, ((omega arith, ((tt, tt), tt)), (omega arith, tt)))
