use Rattle.std.proofs.Common.{◌≡◌, ◌≤◌, ◌-◌, ◌++◌, take, drop}
use denote.Text.{Utf8}
use denote.Shadow.{shadow}
use Rattle.std.specs.Str.{chars, encode_utf8_all}
use Rattle.granit_runs.proofs.cuts.behind.Given as goal

abbrev pub invariant-taken : goal.invariant-taken
invariant-taken l = record {
  utf8 : shadow (Utf8 l.rest);
  within : l.taken ≤ l.count;
  text : chars l.rest ≡ drop l.taken (chars l.s);
  bytes : l.s ≡ encode_utf8_all (take l.taken (chars l.s)) ++ l.rest;
}

abbrev pub decreases-taken : goal.decreases-taken
decreases-taken l = l.count - l.taken
