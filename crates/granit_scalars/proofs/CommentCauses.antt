-- What spoils a comment is what the comment is refused for.
use Rattle.std.proofs.Common.{◌≡◌, ℕ, suc, List, ◌∷◌, ◌++◌, length, Result, Ok, Err, refl, sym, ap, ap₂, ◌∙◌}
use Rattle.granit_base.specs.Place.{Mark, first}
use Rattle.granit_error.specs.FaultKind.{FaultKind, UnexpectedCharacter}
use Rattle.granit_lexemes.specs.Comment.{CommentRead, comment, is_line_char, IsSpoiled, Spoils, ReadsComment}
use Rattle.granit_lexemes.specs.Here.{Here, mark_of}
use Rattle.granit_lexemes.specs.Moves.{steps}
use Rattle.granit_lexemes.specs.Outcome.{Fault, fault_at}
use Rattle.granit_scalars.proofs.Comments.{comment_reads, same_run, no_comment_strange, not_both}
use Rattle.granit_scalars.proofs.Nameless.{comment_none}

pub spoiled_once : (x cs ds : List ℕ) (c d : ℕ) → IsSpoiled x cs c → IsSpoiled x ds d → (cs ≡ ds) × (c ≡ d)
spoiled_once x cs ds c d p q =
    let joined : cs ++ c ∷ p.behind ≡ ds ++ d ∷ q.behind = let e = sym p.spelled ∙ q.spelled in cc in
    let s = same_run is_line_char cs ds (c ∷ p.behind) (d ∷ q.behind) joined p.text q.text
    (no_comment_strange c p.unprintable) (no_comment_strange d q.unprintable) in
    (s.0, ap first s.1)

pub spoils_once : (h : Here) {kind other : FaultKind} {m n : Mark} → Spoils h kind m → Spoils h other n
    → (kind ≡ other) × (m ≡ n)
spoils_once h p q =
    let s = spoiled_once h.unread.text p.front q.front p.character q.character p.spelled q.spelled in (
      p.names ∙ ap UnexpectedCharacter s.1 ∙ sym q.names,
      p.marks
          ∙ ap (λ (cs : List ℕ). mark_of (steps (suc (length cs)) h)) s.0 ∙ sym q.marks,
    )

pub comment_wrong : (h : Here) {kind : FaultKind} {m : Mark} → Spoils h kind m → (r : Result (CommentRead × Here) Fault)
    → comment h ≡ r → ReadsComment h r → r ≡ Err (fault_at kind m)
comment_wrong h p (Ok (c, after)) e read = absurd
    (not_both h.unread.text c.text.characters p.front p.character read.spelled p.spelled)
comment_wrong h {kind} {m} p (Err f) e read =
    let s = spoils_once h read p in
    ap (λ (sources : List _). Err (record f { sources = sources })) ((comment_none h).none f e)
    ∙ ap₂ (λ (k : FaultKind) (n : Mark). Err (fault_at k n)) s.0 s.1

pub comment_spoiled : (h : Here) {kind : FaultKind} {m : Mark} → Spoils h kind m → comment h ≡ Err (fault_at kind m)
comment_spoiled h p = comment_wrong h p (comment h) refl (comment_reads h (ap first p.spelled.spelled))
