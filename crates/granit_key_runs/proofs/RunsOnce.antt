-- At most one run ends with some lexemes.
use Rattle.std.proofs.Common.{◌≡◌, true, List, ◌∷◌, inl, inr, refl, sym, ◌∙◌, subst}
use Rattle.granit_lexemes.specs.Lexeme.{Lexeme}
use Rattle.granit_language.specs.Fitting.{Role, OfNode, Opens, Closes}
use Rattle.granit_language.specs.KeyRuns.{role, WholeBrackets, whole_none, whole_other, whole_pair, NoRun, joins_run}
use Rattle.granit_language.specs.KeyRuns.{BeginsRun, Run, part_begins, part_joins, whole_begins, whole_joins}
use Rattle.granit_key_runs.proofs.RunsLaw.{run_ends}

opens_closes : {A : Type 0} (r : Role) → r ≡ Opens → r ≡ Closes → A
opens_closes r p q = absurd (let e = sym p ∙ q in cc)

part_closes : {A : Type 0} (r : Role) → r ≡ OfNode → r ≡ Closes → A
part_closes r p q = absurd (let e = sym p ∙ q in cc)

-- the opener that is in front of whole brackets is one alone
pub whole_once : {xs ys zs : List Lexeme} {a b : Lexeme} → WholeBrackets xs (a ∷ ys) → role a ≡ Opens
    → WholeBrackets xs (b ∷ zs) → role b ≡ Opens → (a ≡ b) × (ys ≡ zs)
whole_once whole_none p whole_none q = (refl, refl)
whole_once {a = a} whole_none p (whole_other n c w) q = absurd (n p)
whole_once {a = a} whole_none p (whole_pair r w o v) q = opens_closes (role a) p r
whole_once (whole_other n c w) p whole_none q = absurd (n q)
whole_once (whole_other n c w) p (whole_other m d v) q = whole_once w p v q
whole_once (whole_other n c w) p (whole_pair r v o u) q = absurd (c r)
whole_once {b = b} (whole_pair r w o v) p whole_none q = opens_closes (role b) q r
whole_once (whole_pair r w o v) p (whole_other m d u) q = absurd (d r)
whole_once {zs = zs} {b = b} (whole_pair r w o v) p (whole_pair s u t k) q = let e = whole_once w o u t in whole_once v
    p (subst (λ (l : List Lexeme). WholeBrackets l (b ∷ zs)) (sym e.1) k) q

not_both : {A : Type 0} (x : Lexeme) {ys : List Lexeme} {first : Lexeme} {rest : List Lexeme} → BeginsRun x ys
    → joins_run x ≡ true → Run ys first rest → A
not_both x (inl e) j r = absurd cc
not_both x (inr n) j r = absurd ((run_ends r).2 n)

begins_as : {a b : Lexeme} {ys zs : List Lexeme} → a ≡ b → ys ≡ zs → BeginsRun a ys → BeginsRun b zs
begins_as {b = b} {ys = ys} e f p = subst (BeginsRun b) f (subst (λ a. BeginsRun a ys) e p)

-- the run before a lexeme, and what is before that
pub run_once : {xs : List Lexeme} {a b : Lexeme} {ys zs : List Lexeme} → Run xs a ys → Run xs b zs → (a ≡ b) × (ys ≡ zs)
run_once (part_begins r p) (part_begins s q) = (refl, refl)
run_once (part_begins {x = x} r p) (part_joins s j q) = not_both x p j q
run_once (part_begins {x = x} r p) (whole_begins s w o q) = part_closes (role x) r s
run_once (part_begins {x = x} r p) (whole_joins s w o j q) = part_closes (role x) r s
run_once (part_joins {x = x} r i p) (part_begins s q) = not_both x q i p
run_once (part_joins r i p) (part_joins s j q) = run_once p q
run_once (part_joins {x = x} r i p) (whole_begins s w o q) = part_closes (role x) r s
run_once (part_joins {x = x} r i p) (whole_joins s w o j q) = part_closes (role x) r s
run_once (whole_begins {closer = x} r w o p) (part_begins s q) = part_closes (role x) s r
run_once (whole_begins {closer = x} r w o p) (part_joins s j q) = part_closes (role x) s r
run_once (whole_begins r w o p) (whole_begins s v t q) = whole_once w o v t
run_once (whole_begins r w o p) (whole_joins {opener = x} s v t j q) = let e = whole_once w o v t in not_both x
    (begins_as e.0 e.1 p) j q
run_once (whole_joins {closer = x} r w o i p) (part_begins s q) = part_closes (role x) s r
run_once (whole_joins {closer = x} r w o i p) (part_joins s j q) = part_closes (role x) s r
run_once (whole_joins {opener = x} r w o i p) (whole_begins s v t q) = let e = whole_once v t w o in not_both x
    (begins_as e.0 e.1 q) i p
run_once {a = a} {ys = ys} (whole_joins r w o i p) (whole_joins s v t j q) = let e = whole_once w o v t in run_once
    (subst (λ (l : List Lexeme). Run l a ys) e.1 p) q

-- where none ends, there is none
pub none_ends : {xs : List Lexeme} {a : Lexeme} {ys : List Lexeme} → NoRun xs → Run xs a ys → ⊥
none_ends n r = (run_ends r).2 n
