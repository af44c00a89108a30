-- What contracts see of resolvers.
use Rattle.std.specs.Prelude.{◌≡◌, ℕ, List, [], None}
use Rattle.std.specs.Borrow.{Bor}
use Rattle.std.specs.Fn.{Called, Mut}
use Rattle.std.specs.Str.{chars}
use Rattle.std.specs.declared.alloc.Global.{Global}
use Rattle.granit_error.specs.FaultKind.{MissingIncludeResolver}
use Rattle.granit_error.specs.Refused.{Refused}
use Rattle.granit_lexemes.specs.Here.{first_place}

-- a call of a closure with a name of these characters gives this answer, and leaves this
abbrev pub ClosureAnswers : {F R : Type 0} → Mut F (Global × (Bor (List ℕ) × Unit {0})) R → F → List ℕ → R → F → Type 0
ClosureAnswers closure f name answer after =
    (alloc : Global) × (given : Bor (List ℕ)) × (chars given.now ≡ name)
    × Called closure f (alloc, (given, tt)) answer after

-- there is no resolver
abbrev pub missing_resolver : Refused
missing_resolver = record {
  kind = MissingIncludeResolver;
  mark = record { place = first_place; byte_offset = None };
  sources = [];
}
