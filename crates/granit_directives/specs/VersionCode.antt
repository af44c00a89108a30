-- How the code reads the numbers of a version.
use Rattle.std.specs.Prelude.{◌≡◌, ◌≢◌, ℕ, Result, Ok, Err}
use Rattle.granit_base.specs.Place.{Mark}
use Rattle.granit_error.specs.FaultKind.{MissingYamlVersion}
use Rattle.granit_error.specs.Refused.{Refused}
use Rattle.granit_lexemes.specs.Lexeme.{DirectiveKind, Version}
use Rattle.granit_lexemes.specs.Outcome.{fault_at}
use Rattle.granit_directives.specs.declared.version.VersionNumbers.{VersionNumbers}

abbrev pub version_read : VersionNumbers → DirectiveKind
version_read v = Version v.major v.minor

-- a number of so many digits, or none
abbrev pub counted_number : Mark → (count number : ℕ) → Result ℕ Refused → Type 0
counted_number start count number (Ok n) = (count ≢ 0) × (n ≡ number)
counted_number start count number (Err e) = (count ≡ 0) × (e ≡ fault_at MissingYamlVersion start)
