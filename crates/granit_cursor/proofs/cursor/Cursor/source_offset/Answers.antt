use Rattle.std.proofs.Common.{is_some, sym, ap, subst, ◌∙◌}
use Rattle.granit_cursor.proofs.SourceLemmas.{empty_slice, no_offset, no_source, some_source}
use Rattle.granit_cursor.proofs.cursor.Cursor.source_offset.Goals as goal

pub returns-in_err-here : goal.returns-in_err-here
returns-in_err-here g c = λ u k.
    let same = sym (ap (λ r. r.input) c.self.view_is) in
    let told = ap is_some (sym c.in_err-here.was) ∙ c.byte_offset.ensures.told in
    c.from_residual.ensures ∙ rw same (no_offset (g.T.Input.origin c.self.inside.input) u told)

pub returns-in_err-slice_bytes : goal.returns-in_err-slice_bytes
returns-in_err-slice_bytes g c = λ u k.
    let same = sym (ap (λ r. r.input) c.self.view_is) in
    let known = subst (λ input. g.T.Input.unread input u) same k in
    let here = c.in_ok-here.ensures.value u known in
    let cut = empty_slice (g.T.Input.left c.self.inside.input) c.in_ok-here.here (g.T.Input.origin c.self.inside.input)
    u c.slice_bytes.result (g.met.T.Input.agrees c.self.inside.input u known) here c.slice_bytes.ensures in
    c.from_residual-in_err-slice_bytes.ensures
    ∙ rw same (no_source (g.T.Input.origin c.self.inside.input) u (sym cut ∙ ap is_some c.in_err-slice_bytes.was))

pub returns : goal.returns
returns g c = λ u k.
    let same = sym (ap (λ r. r.input) c.self.view_is) in
    let known = subst (λ input. g.T.Input.unread input u) same k in
    let here = c.in_ok-here.ensures.value u known in
    let cut = empty_slice (g.T.Input.left c.self.inside.input) c.in_ok-here.here (g.T.Input.origin c.self.inside.input)
    u c.slice_bytes.result (g.met.T.Input.agrees c.self.inside.input u known) here c.slice_bytes.ensures in
    rw same (some_source c.in_ok-here.here (g.T.Input.origin c.self.inside.input) u c.in_ok-here.ensures.told
    (sym cut ∙ ap is_some c.in_ok-slice_bytes.was) here)
