-- A name is read where it stands, and refused where none does.
use Rattle.std.proofs.Common.{◌≡◌, ◌≢◌, ℕ, ◌==◌, true, false, List, [], ◌∷◌, ◌++◌, length, Result, Ok, Err, refl, sym}
use Rattle.std.proofs.Common.{ap, ap₂, ◌∙◌, subst}
use Rattle.std.specs.Prelude.{if◌then◌else◌}
use Rattle.granit_base.specs.Classes.{is_anchor_char, is_yaml_non_space, is_yaml_non_break, is_printable, is_break}
use Rattle.granit_base.specs.Place.{first}
use Rattle.granit_base.specs.Written.{Written}
use Rattle.granit_error.specs.FaultKind.{MissingAnchorOrAliasName}
use Rattle.granit_lexemes.specs.Gap.{Each}
use Rattle.granit_lexemes.specs.Here.{Here, next_char, mark_of, step}
use Rattle.granit_lexemes.specs.Outcome.{Fault}
use Rattle.granit_lexemes.specs.PlainExtent.{over}
use Rattle.granit_lexemes.specs.Basics.{fails_at, as_spelled}
use Rattle.granit_lexemes.proofs.HereLemmas.{not_empty, stepped_text}
pub use Rattle.granit_scalars.proofs.Comments.{same_run}
use Rattle.granit_scalars.proofs.Stepping.{Seen, second_of}
pub use Rattle.granit_scalars.proofs.Stepping.{seen}
use Rattle.granit_lexemes.specs.Tags.{name_up_to, name_at}
use Rattle.granit_lexemes.specs.NameExtent.{is_name_sign, NameStands, AnswersName, RefusesName, nameless}
use Rattle.granit_names.proofs.Runs.{run_of, past_run, count_over, text_over}

no_name_nul : is_anchor_char 0 ≡ false
unfolding is_anchor_char is_yaml_non_space is_yaml_non_break is_printable is_break
no_name_nul = refl

-- ---- what is read is there

abbrev pub NameAnswered : Here → Result (Written × Here) Fault → Type 0
NameAnswered h (Ok (name, after)) = AnswersName h name after
NameAnswered h (Err f) = RefusesName h f.kind f.mark × (f.sources ≡ [])

-- what the function gives for a run behind the sign
abbrev given_name : Here → (name : List ℕ) → Result (Written × Here) Fault
given_name h name = if length name == 0 then fails_at MissingAnchorOrAliasName (mark_of h) else Ok
    (as_spelled h name, over name (step h))

pub name_run : (h : Here) (name rest : List ℕ) → (step h).unread.text ≡ name ++ rest → Each is_anchor_char name
    → is_anchor_char (first rest) ≡ false → name_at h ≡ given_name h name
unfolding name_at
name_run h name rest e y n =
    ap (name_up_to h) (past_run is_anchor_char no_name_nul name rest (step h) e y n)
    ∙ ap₂ (λ k (l : List ℕ). if k == 0 then fails_at MissingAnchorOrAliasName (mark_of h) else Ok
    (as_spelled h l, over name (step h))) (count_over name rest (step h) e) (text_over name rest (step h) e)

some_name : (h : Here) (name : List ℕ) → name ≢ [] → given_name h name ≡ Ok (as_spelled h name, over name (step h))
some_name h [] n = absurd (n refl)
some_name h (c ∷ name) n = ap (λ b. if b then fails_at MissingAnchorOrAliasName (mark_of h) else Ok
    (as_spelled h (c ∷ name), over (c ∷ name) (step h))) (not_empty c name)

given_answers : (h : Here) (name rest : List ℕ) → is_name_sign (next_char h) ≡ true → Seen h
    → (step h).unread.text ≡ name ++ rest → Each is_anchor_char name → is_anchor_char (first rest) ≡ false
    → NameAnswered h (given_name h name)
given_answers h [] rest sign s e y n = (nameless (ap is_anchor_char (second_of h s ∙ ap first e) ∙ n), refl)
given_answers h (c ∷ name) rest sign s e y n = subst (NameAnswered h) (sym (some_name h (c ∷ name) (λ z. cc))) (record {
  rest = rest;
  stands = record {
    sign = next_char h;
    begins = sign;
    whole = s.is
        ∙ ap (λ (t : List ℕ). next_char h ∷ t) e;
    each = y;
    some = λ z. cc;
    all = n;
  };
  is = refl;
  reached = refl;
})

no_sign_nul : is_name_sign 0 ≡ false
no_sign_nul = refl

pub name_answered : (h : Here) → is_name_sign (next_char h) ≡ true → NameAnswered h (name_at h)
name_answered h sign =
    let r = run_of is_anchor_char no_name_nul (step h).unread.text in
    subst (NameAnswered h) (sym (name_run h r.front r.rest r.whole r.each r.all))
    (given_answers h r.front r.rest sign (seen is_name_sign h no_sign_nul sign) r.whole r.each r.all)

pub name_stands : (h : Here) (name : Written) (after : Here) → is_name_sign (next_char h) ≡ true
    → name_at h ≡ Ok (name, after) → AnswersName h name after
name_stands h name after sign e = subst (NameAnswered h) e (name_answered h sign)

pub name_refused : (h : Here) (f : Fault) → is_name_sign (next_char h) ≡ true → name_at h ≡ Err f
    → RefusesName h f.kind f.mark × (f.sources ≡ [])
name_refused h f sign e = subst (NameAnswered h) e (name_answered h sign)

-- ---- what stands there is read

pub name_is : (h : Here) (name : Written) (after : Here) → AnswersName h name after → name_at h ≡ Ok (name, after)
name_is h name after a =
    let s = a.stands in
    name_run h name.characters a.rest (stepped_text h s.sign (name.characters ++ a.rest) s.whole) s.each s.all
    ∙ some_name h name.characters s.some
    ∙ ap₂ (λ (t : Written) (g : Here). Ok (t, g)) (sym a.is) (sym a.reached)

pub one_name_stands : (h : Here) (name other rest behind : List ℕ) → NameStands h name rest → NameStands h other behind
    → (name ≡ other) × (rest ≡ behind)
one_name_stands h name other rest behind p q =
    let e : p.sign ∷ (name ++ rest) ≡ q.sign ∷ (other ++ behind) = sym p.whole ∙ q.whole in
    let t : name ++ rest ≡ other ++ behind = cc in
    same_run is_anchor_char name other rest behind t p.each q.each p.all q.all
