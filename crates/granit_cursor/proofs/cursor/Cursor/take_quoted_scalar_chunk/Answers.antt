use Rattle.std.proofs.Common.{◌≡◌, ◌-◌, ◌^◌, false, take, is_some, IfSome, refl, sym, ap, subst, ◌∙◌, arith}
use Rattle.std.specs.Str.{chars}
use Rattle.std.proofs.lemmas.Str.{chars-nil}
use Rattle.granit_input.specs.Origin.{Goes}
use Rattle.granit_runs.specs.Runs.{starts, is_quoted_char}
use Rattle.granit_runs.specs.Unread.{past_count}
use Rattle.granit_input.proofs.OriginLemmas.{goes_nowhere}
use Rattle.granit_lexemes.specs.Moves.{steps}
use Rattle.granit_cursor.proofs.MoveLemmas.{stands_at, lands, quoted_shows}
use Rattle.granit_cursor.proofs.OnwardLemmas.{run_on}
use Rattle.granit_cursor.proofs.SourceLemmas.{none_found, some_found, lent_since, whole_run}
use Rattle.granit_cursor.proofs.cursor.Cursor.take_quoted_scalar_chunk.Goals as goal

pub returns-in-Some-source_since : goal.returns-in-Some-source_since
returns-in-Some-source_since g c =
    let same = sym (ap (λ r. r.input) c.self.view_is) in
    let goes : Goes (g.T.Input.origin c.args.self.now.input) (g.T.Input.origin c.skip_run-taken.new.self) = rw same
    c.skip_run-taken.ensures.moves.2 in
    let n = c.skip_run-taken.result.1 in (
      (
        refl,
        λ _. tt,
        (
          λ h k.
              let before = g.met.T.Input.agrees c.args.self.now.input h.unread k.0 in
              let there = some_found c.in-Some.start (g.T.Input.origin c.args.self.now.input) h.unread
              (sym c.in-Some.is ∙ c.source_offset.ensures h.unread k.0) in
              let stood = stands_at g.T.Input.unread _ _ h c.self.view_is k in
              let taken = c.skip_run-taken.ensures.skips h.unread stood.0 in
              let after = g.met.T.Input.agrees c.skip_run-taken.new.self (past_count n h.unread) taken.1 in
              let lent = lent_since (g.T.Input.origin c.args.self.now.input)
              (g.T.Input.origin c.skip_run-taken.new.self) (g.T.Input.left c.args.self.now.input)
              (g.T.Input.left c.skip_run-taken.new.self) h.unread n
              c.in-Some.start c.source_since.result goes before after there.0 there.1
              (c.source_since.ensures (past_count n h.unread) taken.1) in
              record {
                counted = rw there.0 (whole_run (starts (is_quoted_char c.args.single)) h.unread.text
                    (g.T.Input.left c.self.inside.input) n (2 ^ 64 - 1) c.skip_run-taken.result.0
                    (omega (arith, c.skip_run-taken.ensures.moves.0)) (g.met.T.Input.short c.self.inside.input)
                    (omega arith) c.skip_run-taken.ensures.few taken.0);
                text = subst (λ answer. IfSome answer (λ part. chars part.now ≡ take n h.unread.text))
                    c.in-Some-source_since.is lent.1;
                lands = lands g.T.Input.unread (starts (is_quoted_char c.args.single)) n _ _ h
                    (quoted_shows c.args.single) taken.0.fits stood taken.1 refl c.still_begins-self-inside.ensures
                    c.drop_tab.ensures;
              },
          (
            rw same (omega (arith, c.skip_run-taken.ensures.moves.0)),
            rw same c.skip_run-taken.ensures.moves.1,
            ap (λ r. r.lost) c.self.view_is,
          ),
          (
            rw same (omega (arith, c.skip_run-taken.ensures.moves.0)),
            goes,
            run_on g.T.Input.unread _ _ (ap (λ r. r.lost) c.self.view_is) n (λ h k.
                let stood = stands_at g.T.Input.unread _ _ h c.self.view_is k in
                let taken = c.skip_run-taken.ensures.skips h.unread stood.0 in
                lands g.T.Input.unread (starts (is_quoted_char c.args.single)) n _ _ h
                (quoted_shows c.args.single) taken.0.fits stood taken.1 refl c.still_begins-self-inside.ensures
                c.drop_tab.ensures),
          ),
        ),
      ),
      record { rests = tt },
    )

pub returns-in-None-source_since : goal.returns-in-None-source_since
returns-in-None-source_since g c =
    let same = sym (ap (λ r. r.input) c.self.view_is) in
    let goes : Goes (g.T.Input.origin c.args.self.now.input) (g.T.Input.origin c.skip_run-taken.new.self) = rw same
    c.skip_run-taken.ensures.moves.2 in
    let n = c.skip_run-taken.result.1 in (
      (
        refl,
        λ _. tt,
        (
          λ h k. absurd (
              let before = g.met.T.Input.agrees c.args.self.now.input h.unread k.0 in
              let there = some_found c.in-Some.start (g.T.Input.origin c.args.self.now.input) h.unread
              (sym c.in-Some.is ∙ c.source_offset.ensures h.unread k.0) in
              let stood = stands_at g.T.Input.unread _ _ h c.self.view_is k in
              let taken = c.skip_run-taken.ensures.skips h.unread stood.0 in
              let after = g.met.T.Input.agrees c.skip_run-taken.new.self (past_count n h.unread) taken.1 in
              let lent = lent_since (g.T.Input.origin c.args.self.now.input)
              (g.T.Input.origin c.skip_run-taken.new.self) (g.T.Input.left c.args.self.now.input)
              (g.T.Input.left c.skip_run-taken.new.self) h.unread n
              c.in-Some.start c.source_since.result goes before after there.0 there.1
              (c.source_since.ensures (past_count n h.unread) taken.1) in
              let none : is_some c.source_since.result ≡ false = ap is_some c.in-None-source_since.is in cc),
          (
            rw same (omega (arith, c.skip_run-taken.ensures.moves.0)),
            rw same c.skip_run-taken.ensures.moves.1,
            ap (λ r. r.lost) c.self.view_is,
          ),
          (
            rw same (omega (arith, c.skip_run-taken.ensures.moves.0)),
            goes,
            run_on g.T.Input.unread _ _ (ap (λ r. r.lost) c.self.view_is) n (λ h k.
                let stood = stands_at g.T.Input.unread _ _ h c.self.view_is k in
                let taken = c.skip_run-taken.ensures.skips h.unread stood.0 in
                lands g.T.Input.unread (starts (is_quoted_char c.args.single)) n _ _ h
                (quoted_shows c.args.single) taken.0.fits stood taken.1 refl c.still_begins-self-inside.ensures
                c.drop_tab.ensures),
          ),
        ),
      ),
      record { rests = tt },
    )

pub returns-in-None : goal.returns-in-None
unfolding steps
returns-in-None g c = (
  (
    refl,
    λ _. tt,
    (
      λ h k.
          let none = none_found (g.T.Input.left c.args.self.now.input) (g.T.Input.origin c.args.self.now.input) h.unread
          (g.met.T.Input.agrees c.args.self.now.input h.unread k.0)
          (sym c.in-None.is ∙ c.source_offset.ensures h.unread k.0) in
          record { counted = rw none refl; text = chars-nil; lands = k },
      (omega arith, omega arith, refl),
      (omega arith, goes_nowhere _, λ start before. before),
    ),
  ),
  record { rests = tt },
)
