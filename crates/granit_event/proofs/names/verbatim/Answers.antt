use Rattle.std.proofs.Common.{List, ℕ, ap, ◌∙◌, ◌++◌, codes, refl}
use Rattle.std.specs.Str.{chars}
use lib.Utf8.{encode}
use Rattle.granit_event.proofs.NameLemmas.{three_pieces}
use Rattle.granit_event.proofs.names.verbatim.Goals as goal

pub returns : goal.returns
unfolding chars encode
returns c =
    three_pieces _ _ (codes "!<") c.args.suffix.now (codes ">") (codes "!<", (refl, refl)) c.utf8.suffix
    (c.in_ok-push_str-2.ensures.bytes ∙ ap (λ (bs : List ℕ). bs ++ codes ">")
    (c.in_ok-push_str.ensures.bytes ∙ ap (λ (bs : List ℕ). bs ++ c.args.suffix.now) c.in_ok-text.ensures.ok))
    c.new.ensures
