-- The key outside brackets, where reading has left it behind.
use Rattle.std.specs.Prelude.{Result, Ok}
use Rattle.granit_base.specs.Place.{Mark}
use Rattle.granit_error.specs.OptionsData.{OptionsData}
use Rattle.granit_lexemes.specs.Outcome.{Fault, ◌>>=◌}
use Rattle.granit_machine.specs.Laid.{Laid, is_in_flow}
use Rattle.granit_machine.specs.PossibleKeys.{refuse_required, stale_key, fresh_key}

-- without it, where it is stale at a place; one that has to get a `:` is refused
abbrev pub without_stale_key : OptionsData → Mark → Laid → Result Laid Fault
without_stale_key o m l =
    refuse_required (stale_key o (is_in_flow l) m l.key)
    >>= λ u. Ok (record l { key = fresh_key o (is_in_flow l) m l.key })
