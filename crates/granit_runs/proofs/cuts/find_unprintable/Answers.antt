use Rattle.std.proofs.Common.{sym, ◌∙◌}
use Rattle.std.specs.Str.{chars}
use Rattle.std.proofs.lemmas.Str.{IsUtf8-from_is_utf8}
use Rattle.granit_runs.proofs.PrintableLemmas.{printable_past}
use Rattle.granit_runs.proofs.cuts.find_unprintable.Goals as goal

pub found-preserved : goal.found-preserved
found-preserved c =
    let behind = c.past_ascii.result.1.now in
    record {
      utf8 = IsUtf8-from_is_utf8 behind c.past_ascii.ensures.utf8;
      same = printable_past (chars c.found.rest.now) c.in-Some.c (chars c.in-Some.after.now) (chars behind)
          c.past_ascii.result.0 c.in-Some.ensures.some (sym c.is_printable.ensures ∙ c.if-not-is_printable.false)
          c.past_ascii.ensures.front c.past_ascii.ensures.text ∙ c.found.invariant.same;
    }
