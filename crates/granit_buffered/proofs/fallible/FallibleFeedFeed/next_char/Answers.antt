use Rattle.std.proofs.Common.{◌≡◌, ℕ, Some, Err, Result, refl, sym, subst, ◌∙◌}
use Rattle.granit_error.specs.declared.kind.ErrorKind.{ErrorKind}
use Rattle.granit_buffered.specs.Fallible.{progress_ended, error_of}
use Rattle.granit_buffered.proofs.FallibleLemmas.{comes_error}
use Rattle.granit_buffered.proofs.fallible.FallibleFeedFeed.next_char.Goals as goal

pub returns-in-Some-Err-clause-told : goal.returns-in-Some-Err-clause-told
returns-in-Some-Err-clause-told g c = λ xs fault k.
    let s = c.args.self.now in
    let is = c.in-Some-Err.kind-is in
    let same : c.in-Some-Err.field-0 ≡ Err c.in-Some-Err.kind = cc in
    let gave = subst
    (λ (item : Result ℕ ErrorKind). g.T.Iterator.next_gives s.iterator (Some item) c.next.new.self) same
    c.in-Some-Err.ensures.steps in
    let none = comes_error g.T.Iterator.next_gives g.T.Iterator.remaining
    (progress_ended s.progress) (error_of s.progress)
    s.iterator c.next.new.self c.in-Some-Err.kind xs fault (sym c.has_ended.ensures ∙ c.if-has_ended.false) k gave in
    (none.0, (refl, none.1))
