-- Where a sign has no name behind it, that is refused, and nothing else is.
use Rattle.std.proofs.Common.{◌≡◌, ℕ, List, [], ◌∷◌, Err, drop, refl, ap, ◌∙◌}
use Rattle.std.specs.Prelude.{slice_index}
use Rattle.granit_base.specs.Classes.{is_anchor_char}
use Rattle.granit_base.specs.Place.{Mark, first}
use Rattle.granit_error.specs.FaultKind.{FaultKind}
use Rattle.granit_lexemes.specs.Here.{Here, step}
use Rattle.granit_lexemes.specs.NameExtent.{RefusesName, nameless}
use Rattle.granit_lexemes.specs.Outcome.{fault_at}
use Rattle.granit_lexemes.specs.Tags.{name_at}
use Rattle.granit_lexemes.proofs.HereLemmas.{step_text}
use Rattle.granit_names.proofs.NameLaw.{name_run}
use Rattle.granit_scalars.proofs.Comments.{none_dropped}

second_is : (t : List ℕ) → first (drop 1 t) ≡ slice_index t 1
second_is [] = refl
second_is (c ∷ t) = ap first (none_dropped t)

-- what has a cause is refused with exactly that
pub name_cause_refused : (h : Here) (kind : FaultKind) (m : Mark) → RefusesName h kind m
    → name_at h ≡ Err (fault_at kind m)
name_cause_refused h kind m (nameless n) =
    name_run h [] (step h).unread.text refl tt
    (ap is_anchor_char (ap first (step_text h) ∙ second_is h.unread.text) ∙ n)

-- at most one cause at one mark
pub one_name_cause : (h : Here) (kind other : FaultKind) (m n : Mark) → RefusesName h kind m → RefusesName h other n
    → (kind ≡ other) × (m ≡ n)
one_name_cause h kind other m n (nameless p) (nameless q) = (refl, refl)
