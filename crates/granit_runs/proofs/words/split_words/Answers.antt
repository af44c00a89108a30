use Rattle.std.proofs.Common.{◌<◌, ap, sym, subst, ◌∙◌, arith}
use Rattle.std.specs.Str.{chars}
use Rattle.std.proofs.lemmas.Str.{IsCharBoundary-from_drop, IsUtf8-from_is_utf8, is_utf8-from_IsUtf8}
use Rattle.granit_runs.specs.Cuts.{SpellsFront}
use Rattle.granit_runs.proofs.WordLemmas.{are_words, dash_more}
use Rattle.granit_runs.proofs.words.split_words.Goals as goal

pub range_from-requires : goal.range_from-requires
range_from-requires c = λ some. IsCharBoundary-from_drop c.args.s.now c.ascii_count-count.result
    c.ascii_count-count.ensures.front.within (IsUtf8-from_is_utf8 _ c.ascii_count-count.ensures.front.utf8)

pub returns : goal.returns
returns c =
    let s = c.args.s.now in
    let n = c.ascii_count-count.result in
    let front = c.ascii_count-count.ensures.front in
    let behind = c.range_from.ensures.value in
    let some : 0 < n = omega (arith, c.if-count-eq0.false) in
    record {
      words = are_words c.args.in_flow s n (is_utf8-from_IsUtf8 s c.utf8.s) front.within
          c.ascii_count-count.ensures.shown some (dash_more n _ some (sym c.is_dash.ensures ∙ c.if-is_dash.false));
      front = front.front;
      rest = ap chars behind ∙ front.rest;
      bytes = subst (SpellsFront s n) (sym behind) front.bytes;
      utf8 = is_utf8-from_IsUtf8 c.range_from.result.now c.range_from.utf8;
    }
