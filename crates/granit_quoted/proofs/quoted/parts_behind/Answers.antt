use Rattle.std.proofs.Common.{ℕ, false, List, ap₂, ◌∙◌}
use Rattle.std.specs.Str.{chars}
use Rattle.granit_cursor.proofs.MoveLemmas.{cleared}
use Rattle.granit_quoted.specs.QuotedCode.{kept_chars}
use Rattle.granit_quoted.proofs.quoted.parts_behind.Goals as goal

pub returns : goal.returns
returns c =
    c.in_ok-push_all_kept.ensures
    ∙ ap₂ (λ (v p : List ℕ). kept_chars (record { value = v; pending = p; on_new_line = false; escaped = false })
    (chars c.args.front.now)) (cleared c.in_ok-value.value c.in_ok-value.ensures.bytes)
    (cleared c.new.result c.new.ensures.bytes)
