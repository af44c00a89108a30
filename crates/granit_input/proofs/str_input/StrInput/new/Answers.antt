use Rattle.std.proofs.lemmas.Str.{is_utf8-from_IsUtf8}
use Rattle.granit_input.proofs.str_input.StrInput.new.Goals as goal

pub invariant_of-result-clause-utf8 : goal.invariant_of-result-clause-utf8
invariant_of-result-clause-utf8 c = is_utf8-from_IsUtf8 c.args.input.now c.utf8.input
