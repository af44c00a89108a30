-- What the whole program does.
use Rattle.std.specs.Prelude.{◌≡◌, ℕ, List, Option, IfSome}
use Rattle.std.specs.Process.{exit_status}
use Rattle.std.specs.declared.process.ExitCode.{ExitCode}
use Rattle.granit_base.specs.Written.{Written}
use Rattle.granit_events.specs.Codes.{code_of}
use Rattle.granit_events.specs.Ran.{End, Ran}
use Rattle.granit_events.specs.Tested.{Tested}
use Rattle.granit_events.specs.declared.status.Status.{Status}
use Rattle.granit_words.specs.Asking.{BeginSelftest}
use Rattle.granit.specs.Words.{words_of}

-- the status stands for what `run` did on the words behind the program's name, where the arguments are told
pub record RanOn (all : Option (List (List ℕ))) (source source_after sink sink_after : End) (ended_as : Status) : Type
    0 where
  pub words : List Written
  pub are_the_words : IfSome all (λ list. words ≡ words_of list)
  pub ran : (BeginSelftest words → ⊥) → Ran words source source_after sink sink_after ended_as
  pub tested : BeginSelftest words → Tested words source source_after sink sink_after ended_as

-- the exit code is that of such a status
abbrev pub Exits : Option (List (List ℕ)) → End → End → End → End → ExitCode → Type 0
Exits all source source_after sink sink_after code = (ended_as : Status) × (exit_status code ≡ code_of ended_as)
    × RanOn all source source_after sink sink_after ended_as
