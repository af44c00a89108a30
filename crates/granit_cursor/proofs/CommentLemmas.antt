-- What a call that reads a comment gives.
use Rattle.std.proofs.Common.{◌≡◌, ℕ, suc, ◌+◌, ◌==◌, ◌||◌, if◌then◌else◌, Bool, cond, List, [], ◌∷◌, take, ◌⊎◌}
use Rattle.std.proofs.Common.{Result, Ok, Err, IfOk, IfErr, false, true, refl, sym, ap, ap₂, ◌∙◌, subst, arith}
use Rattle.std.specs.List.{prefix_len}
use Rattle.granit_base.specs.Classes.{is_printable}
use Rattle.granit_base.specs.Written.{Written}
use Rattle.granit_error.specs.FaultKind.{NoMemory, UnexpectedCharacter}
use Rattle.granit_error.specs.Refused.{Refused}
use Rattle.granit_runs.specs.Runs.{run_length, starts, is_line_char}
use Rattle.granit_lexemes.specs.Comment.{behind_comment, skipped_comment, comment, comment_read}
use Rattle.granit_lexemes.specs.Comment.{CommentRead, StandsComment, Spoils, ReadsComment}
use Rattle.granit_lexemes.specs.Basics.{as_spelled, fails_at}
use Rattle.granit_lexemes.specs.Here.{Here, text_len, next_char, mark_of, step, chunk, mid_line}
use Rattle.granit_lexemes.specs.Moves.{steps}
use Rattle.granit_lexemes.specs.Outcome.{Fault, Fails}
use Rattle.granit_lexemes.proofs.HereLemmas.{step_lends}
use Rattle.granit_scalars.proofs.Nameless.{IsNameless, comment_none, skipped_none}
use Rattle.granit_scalars.proofs.Comments.{with_text, comment_is, comment_reads}
use Rattle.granit_cursor.specs.Reading.{GivesTo, coded}
use Rattle.granit_cursor.specs.Tokens.{comment_token}
use Rattle.granit_cursor.specs.declared.token.Token.{Token}
use Rattle.granit_cursor.proofs.GivenLemmas.{same_ok, given_stands, given_cause}

-- the run of a class, by the first characters alone
pub run_prefix : (test : ℕ → Bool) (text : List ℕ) → run_length (starts test) text ≡ prefix_len test text
unfolding run_length
run_prefix test [] = refl
run_prefix test (c ∷ cs) =
    let more : suc (run_length (starts test) cs) ≡ 1 + prefix_len test cs = omega (arith, run_prefix test cs) in
    ap (λ (n : ℕ). cond (test c) n 0) more

-- ---- what is read of one

-- behind so many characters of its text
abbrev pub behind_text : ℕ → Here → Here
behind_text n h = mid_line (steps n (step h))

pub comment_behind : (n : ℕ) (h : Here) → n ≡ run_length (starts is_line_char) (step h).unread.text
    → skipped_comment h ≡ behind_comment (behind_text n h)
unfolding skipped_comment
comment_behind n h is = ap (λ (m : ℕ). behind_comment (behind_text m h))
    (sym (is ∙ run_prefix is_line_char (step h).unread.text))

pub comment_fails : (n : ℕ) (h : Here) (e : Refused) → n ≡ run_length (starts is_line_char) (step h).unread.text
    → Fails e (behind_comment (behind_text n h)) → Fails e (coded comment_token (comment h))
unfolding comment
comment_fails n h e is fails = λ other. ap (λ s. coded comment_token (with_text h s))
    (comment_behind n h is ∙ fails other)

pub comment_given : (n : ℕ) (h after : Here) (u : Unit {0}) (t : Token)
    → n ≡ run_length (starts is_line_char) (step h).unread.text → behind_comment (behind_text n h) ≡ Ok (u, after)
    → t ≡ comment_token (comment_read h after)
    → coded comment_token (comment h) ≡ Ok (t, after)
unfolding comment
comment_given n h after u t is behind token = ap (λ s. coded comment_token (with_text h s))
    (comment_behind n h is ∙ behind) ∙ ap (λ (v : Token). Ok (v, after)) (sym token)

-- what was taken behind the `#` is the text of the comment
pub text_of : (n : ℕ) (h : Here) (text : Written) → n ≡ run_length (starts is_line_char) (step h).unread.text
    → text ≡ as_spelled (step h) (take n (step h).unread.text) → text ≡ as_spelled h (chunk is_line_char (step h))
text_of n h text is taken =
    taken ∙ ap₂ (λ (m : ℕ) (b : Bool). record { characters = take m (step h).unread.text; is_borrowed = b })
    (is ∙ run_prefix is_line_char (step h).unread.text) (step_lends h)

-- where reading goes on behind the text of a comment, there it ends
pub behind_same : (h after : Here) (u : Unit {0}) → behind_comment h ≡ Ok (u, after) → after ≡ h
unfolding behind_comment
behind_same h after u behind = by_test (text_len h == 0 || is_printable (next_char h)) behind
  where
    by_test : (b : Bool) → if◌then◌else◌ {A = Result (Unit {0} × Here) Fault} b (Ok (tt, h))
        (fails_at (UnexpectedCharacter (next_char h)) (mark_of h)) ≡ Ok (u, after) → after ≡ h
    by_test true e = let same = same_ok (tt, h) (u, after) e in sym (ap (λ (p : Unit {0} × Here). p.1) same)
    by_test false e = absurd cc

-- ---- from what a call gives to what is true of it

module _ (h : Here) (Lands : Here → Type 0) where
  pub token_stands : (result : Result Token Refused) → next_char h ≡ 0x23
      → GivesTo (λ t. t) result Lands (coded comment_token (comment h))
      → IfOk result (λ t. (c : CommentRead) × (at : Here) × StandsComment h c at × (t ≡ comment_token c) × Lands at)
  token_stands result is given = given_stands comment_token Lands (StandsComment h) (comment h) result
      (λ c at e. subst (ReadsComment h) e (comment_reads h is)) given

  pub token_cause : (result : Result Token Refused) → next_char h ≡ 0x23
      → GivesTo (λ t. t) result Lands (coded comment_token (comment h))
      → IfErr result (λ e. (e.kind ≡ NoMemory) ⊎ (Spoils h e.kind e.mark × (e.sources ≡ [])))
  token_cause result is given = given_cause comment_token Lands (Spoils h) (comment h) result
      (λ f e. subst (ReadsComment h) e (comment_reads h is)) (comment_none h) given

  skip_on : (s : Result (Unit {0} × Here) Fault) (u : Unit {0}) (after : Here) → ReadsComment h (with_text h s)
      → Lands after → s ≡ Ok (u, after) → (c : CommentRead) × (at : Here) × StandsComment h c at × Lands at
  skip_on (Ok x) u after reads lands e =
      let same = same_ok x (u, after) e in
      (comment_read h x.1, x.1, reads, subst Lands (sym (ap (λ (p : Unit {0} × Here). p.1) same)) lands)
  skip_on (Err f) u after reads lands e = absurd cc

  skip_cause_on : (s : Result (Unit {0} × Here) Fault) (e : Refused) → ReadsComment h (with_text h s) → IsNameless s
      → s ≡ Err e → Spoils h e.kind e.mark × (e.sources ≡ [])
  skip_cause_on (Ok x) e reads none is = absurd cc
  skip_cause_on (Err f) e reads none is = let same : f
      ≡ e = cc in subst (λ (d : Fault). Spoils h d.kind d.mark × (d.sources ≡ [])) same (reads, none.none f refl)

  pub skip_stands : (result : Result (Unit {0}) Refused) → next_char h ≡ 0x23
      → GivesTo (λ u. u) result Lands (skipped_comment h)
      → IfOk result (λ u. (c : CommentRead) × (at : Here) × StandsComment h c at × Lands at)
  skip_stands (Ok u) is given = skip_on (skipped_comment h) u given.0 (comment_is h is) given.1 given.2
  skip_stands (Err e) is given = tt

  pub skip_cause : (result : Result (Unit {0}) Refused) → next_char h ≡ 0x23
      → IfErr result (λ e. (c : ℕ) × (e.kind ≡ UnexpectedCharacter c))
      → GivesTo (λ u. u) result Lands (skipped_comment h)
      → IfErr result (λ e. Spoils h e.kind e.mark × (e.sources ≡ []))
  skip_cause (Ok u) is kinds given = tt
  skip_cause (Err e) is kinds given = skip_cause_on (skipped_comment h) e (comment_is h is) (skipped_none h)
      (given (λ m. let names = kinds.1 in cc))
