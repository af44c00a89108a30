use Rattle.std.proofs.Common.{ℕ, List, ◌++◌, take, Some, None, ap, subst, ◌∙◌}
use Rattle.std.specs.Str.{chars}
use Rattle.std.proofs.lemmas.Str.{chars-nil}
use Rattle.granit_base.specs.Written.{Written}
use Rattle.granit_runs.specs.Unread.{past_count}
use Rattle.granit_input.proofs.LendLemmas.{lent_past}
use Rattle.granit_input_tests.proofs.calls.word.Goals as goal

pub returns-in-Some : goal.returns-in-Some
returns-in-Some g c = record {
  word = λ u k.
      let fetch = c.in_ok-fetch_while_is_alpha in
      let fetched = fetch.ensures.fetches u k in
      let part = lent_past (g.T.Input.origin c.args.input.now) (g.T.Input.origin c.fetch_while_is_alpha.new.self)
      (g.T.Input.left c.args.input.now)
      (g.T.Input.left c.fetch_while_is_alpha.new.self) u fetch.field-0 c.byte_offset-start.result
      c.byte_offset-end.result (Some c.in-Some.text)
      fetch.ensures.moves.2 (g.met.T.Input.agrees c.args.input.now u k)
      (g.met.T.Input.agrees c.fetch_while_is_alpha.new.self (past_count fetch.field-0 u) fetched.1)
      (c.byte_offset-start.ensures.value u k) (c.byte_offset-end.ensures.value (past_count fetch.field-0 u) fetched.1)
      c.in-Some.ensures in
      ap (λ (w : Written). w.characters) c.borrowed.ensures ∙ part.1 ∙ ap (λ (m : ℕ). take m u.text) fetched.0;
  lent = λ u k.
      let fetch = c.in_ok-fetch_while_is_alpha in
      let fetched = fetch.ensures.fetches u k in
      let part = lent_past (g.T.Input.origin c.args.input.now) (g.T.Input.origin c.fetch_while_is_alpha.new.self)
      (g.T.Input.left c.args.input.now)
      (g.T.Input.left c.fetch_while_is_alpha.new.self) u fetch.field-0 c.byte_offset-start.result
      c.byte_offset-end.result (Some c.in-Some.text)
      fetch.ensures.moves.2 (g.met.T.Input.agrees c.args.input.now u k)
      (g.met.T.Input.agrees c.fetch_while_is_alpha.new.self (past_count fetch.field-0 u) fetched.1)
      (c.byte_offset-start.ensures.value u k) (c.byte_offset-end.ensures.value (past_count fetch.field-0 u) fetched.1)
      c.in-Some.ensures in
      ap (λ (w : Written). w.is_borrowed) c.borrowed.ensures ∙ part.0;
  rest = λ u k.
      let fetch = c.in_ok-fetch_while_is_alpha in
      let fetched = fetch.ensures.fetches u k in
      subst (λ (m : ℕ). g.T.Input.unread c.fetch_while_is_alpha.new.self (past_count m u)) fetched.0 fetched.1;
}

pub returns : goal.returns
returns g c = record {
  word = λ u k.
      let fetch = c.in_ok-fetch_while_is_alpha in
      let fetched = fetch.ensures.fetches u k in
      ap (λ (w : Written). w.characters) c.owned.ensures ∙ fetched.2
      ∙ ap (λ (cs : List ℕ). cs ++ take fetch.field-0 u.text) (ap chars c.new-copied.ensures.bytes ∙ chars-nil)
      ∙ ap (λ (m : ℕ). take m u.text) fetched.0;
  lent = λ u k.
      let fetch = c.in_ok-fetch_while_is_alpha in
      let fetched = fetch.ensures.fetches u k in
      let part = lent_past (g.T.Input.origin c.args.input.now) (g.T.Input.origin c.fetch_while_is_alpha.new.self)
      (g.T.Input.left c.args.input.now)
      (g.T.Input.left c.fetch_while_is_alpha.new.self) u fetch.field-0 c.byte_offset-start.result
      c.byte_offset-end.result (None)
      fetch.ensures.moves.2 (g.met.T.Input.agrees c.args.input.now u k)
      (g.met.T.Input.agrees c.fetch_while_is_alpha.new.self (past_count fetch.field-0 u) fetched.1)
      (c.byte_offset-start.ensures.value u k) (c.byte_offset-end.ensures.value (past_count fetch.field-0 u) fetched.1)
      c.in-None.ensures in
      ap (λ (w : Written). w.is_borrowed) c.owned.ensures ∙ part.0;
  rest = λ u k.
      let fetch = c.in_ok-fetch_while_is_alpha in
      let fetched = fetch.ensures.fetches u k in
      subst (λ (m : ℕ). g.T.Input.unread c.fetch_while_is_alpha.new.self (past_count m u)) fetched.0 fetched.1;
}
