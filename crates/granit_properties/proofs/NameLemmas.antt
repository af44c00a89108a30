-- What a call that reads a name gives.
use Rattle.std.proofs.Common.{◌≡◌, ℕ, ◌==◌, Bool, true, false, List, [], ◌++◌, length, Ok, Err, refl, sym, ap, ◌∙◌}
use Rattle.granit_base.specs.Classes.{is_anchor_char}
use Rattle.granit_base.specs.Written.{Written}
use Rattle.granit_cursor.specs.Reading.{coded}
use Rattle.granit_cursor.specs.declared.token.Token.{Token}
use Rattle.granit_error.specs.FaultKind.{MissingAnchorOrAliasName}
use Rattle.granit_lexemes.specs.Basics.{as_spelled, count_up_to, text_up_to}
use Rattle.granit_lexemes.specs.Here.{Here, mark_of, step, past}
use Rattle.granit_lexemes.specs.Outcome.{fault_at}
use Rattle.granit_lexemes.specs.Tags.{name_at}
use Rattle.granit_lexemes.proofs.HereLemmas.{step_lends}
use Rattle.granit_properties.specs.PropertyTokens.{name_token, placed_at, source_of}
use Rattle.granit_properties.proofs.WordLemmas.{up_to_length}

-- behind a name
abbrev pub past_name : Here → Here
past_name h = past is_anchor_char (step h)

-- what was appended to an empty text, and whether that is empty
pub appended : (h after : Here) (empty name : List ℕ) → empty ≡ [] → name ≡ empty ++ text_up_to h after
    → name ≡ text_up_to h after
appended h after empty name none is = is ∙ ap (λ (l : List ℕ). l ++ text_up_to h after) none

pub counted : (h after : Here) (name : List ℕ) (v : Bool) → name ≡ text_up_to h after → (length name == 0) ≡ v
    → (count_up_to h after == 0) ≡ v
counted h after name v is e = ap (λ n. n == 0) (sym (up_to_length h after) ∙ ap (length {A = ℕ}) (sym is)) ∙ e

pub name_fails : (alias : Bool) (h : Here) (name : List ℕ) → name ≡ text_up_to (step h) (past_name h)
    → (length name == 0) ≡ true
    → coded (name_token alias) (placed_at name_at h) ≡ Err (fault_at MissingAnchorOrAliasName (mark_of h))
unfolding name_at
name_fails alias h name is none = rw (counted (step h) (past_name h) name true is none) refl

pub name_given : (alias : Bool) (h : Here) (name : Written) (t : Token)
    → name ≡ as_spelled (step h) (text_up_to (step h) (past_name h)) → (length name.characters == 0) ≡ false
    → t ≡ name_token alias (record { value = name; source = source_of h (past_name h) })
    → coded (name_token alias) (placed_at name_at h) ≡ Ok (t, past_name h)
unfolding name_at
name_given alias h name t is some token =
    let characters : name.characters ≡ text_up_to (step h) (past_name h) = ap (λ (w : Written). w.characters) is in
    let here : name ≡ as_spelled h (text_up_to (step h) (past_name h)) =
    is ∙ ap (λ (b : Bool). record { characters = text_up_to (step h) (past_name h); is_borrowed = b }) (step_lends h) in
    rw (counted (step h) (past_name h) name.characters false characters some, token, here) refl
