-- How the code reads the parameters of a reserved directive: one a turn.
use Rattle.std.specs.Prelude.{◌≡◌, ℕ, Bool, true, false, List, map, length, Some, Result, Ok, Err}
use Rattle.granit_base.specs.Place.{Mark}
use Rattle.granit_base.specs.Written.{Written}
use Rattle.granit_error.specs.OptionsData.{OptionsData}
use Rattle.granit_error.specs.Refused.{Refused}
use Rattle.granit_lexemes.specs.Basics.{owned}
use Rattle.granit_lexemes.specs.Directive.{ParameterState, parameter_turn, parameters_len}
use Rattle.granit_lexemes.specs.Here.{Here}
use Rattle.granit_lexemes.specs.Outcome.{Fault, Fails}
use Rattle.granit_lexemes.specs.Pieces.{with_front, pieces}
use Rattle.granit_properties.specs.UriCode.{budget_of}
use Rattle.granit_directives.specs.declared.reserved.ParameterParts.{ParameterParts}

abbrev pub reserved_words : List Written → List (List ℕ)
reserved_words list = map (λ (w : Written). w.characters) list

abbrev pub all_owned : List Written → Type 0
all_owned list = list ≡ map owned (reserved_words list)

-- where reading stands, by what the code holds
abbrev pub parameters_at : OptionsData → ParameterParts → Here → ParameterState
parameters_at o p h = record { here = h; budget = budget_of (Some o.max_directive_bytes) p.left; count = length p.list }

-- what is read from there on, behind what was read
abbrev pub parameters_whole : OptionsData → Mark → ParameterParts → Here → Result (List (List ℕ) × ParameterState) Fault
parameters_whole o start p h =
    with_front (reserved_words p.list) (pieces parameters_len (parameter_turn o start) (parameters_at o p h))

abbrev pub ParametersGo : OptionsData → Mark → Result Bool Refused → (Here → Type 0) → ParameterParts
    → Result (List (List ℕ) × ParameterState) Fault → Type 0
ParametersGo o start (Ok true) Lands p before = (now : Here) × Lands now × (parameters_whole o start p now ≡ before)
ParametersGo o start (Ok false) Lands p before =
    (now : Here) × Lands now × (before ≡ Ok (reserved_words p.list, parameters_at o p now))
ParametersGo o start (Err e) Lands p before = Fails e before

-- all of them were read
abbrev pub ParametersTo : OptionsData → Mark → (left : ℕ) → Result ParameterParts Refused → (Here → Type 0) → Here
    → Type 0
ParametersTo o start left (Ok p) Lands h = (now : Here) × Lands now × all_owned p.list
    × (pieces parameters_len (parameter_turn o start)
    (record { here = h; budget = budget_of (Some o.max_directive_bytes) left; count = 0 })
    ≡ Ok (reserved_words p.list, parameters_at o p now))
ParametersTo o start left (Err e) Lands h =
    Fails e (pieces parameters_len (parameter_turn o start)
    (record { here = h; budget = budget_of (Some o.max_directive_bytes) left; count = 0 }))
