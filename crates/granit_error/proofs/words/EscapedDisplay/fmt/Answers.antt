use Rattle.std.proofs.Common.{List, ℕ, ◌++◌, [], ◌∷◌, ◌≡◌, refl, sym, ap, ◌∙◌, append_assoc}
use Rattle.std.specs.Str.{encode_utf8_all}
use Rattle.std.specs.Char.{encode_utf8}
use Rattle.std.proofs.Output.{has_written_append, has_written_of_eq}
use Rattle.std.proofs.lemmas.List.{append-nil}
use Rattle.std.proofs.lemmas.Str.{encodes-append}
use Rattle.granit_error.proofs.words.EscapedDisplay.fmt.Goals as goal

one_more : (xs : List ℕ) (c : ℕ) → encode_utf8_all xs ++ encode_utf8 c ≡ encode_utf8_all (xs ++ c ∷ [])
one_more xs c = ap (λ (bs : List ℕ). encode_utf8_all xs ++ bs) (sym (append-nil _)) ∙ sym (encodes-append xs (c ∷ []))

pub loop-c-preserved : goal.loop-c-preserved
loop-c-preserved g c = (
  rw (append_assoc, ← c.in-Some.ensures.steps.1.0) c.loop-c.invariant.0,
  λ plain.
      let before = c.loop-c.invariant.1 plain in
      has_written_of_eq _ _ _ _ _ (one_more c.loop-c.yielded c.in-Some.c)
      (has_written_append _ _ _ _ _ _ before (c.in_ok-write_char.ensures.writes before.plain refl)),
)
