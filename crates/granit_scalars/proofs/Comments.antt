-- A comment is read where it stands.
use Rattle.std.proofs.Common.{◌≡◌, ℕ, zero, suc, ◌+◌, ◌==◌, Bool, true, false, not, ◌&&◌, ◌||◌, cond, List, [], ◌∷◌}
use Rattle.std.proofs.Common.{◌++◌, length, take, drop, inl, inr, ◌⊎◌, Result, Ok, Err, refl, sym, ap, ap₂, ◌∙◌, subst}
use Rattle.std.proofs.Common.{arith, Option, Some}
use Rattle.std.specs.Prelude.{if◌then◌else◌}
use Rattle.std.specs.List.{prefix_len}
use Rattle.std.proofs.lemmas.List.{drop-drop, take-append-drop}
use Rattle.std.proofs.lemmas.List.Folds.{length-prefix_len}
use Rattle.std.proofs.lemmas.Bool.Decides.{nat_tests}
use Rattle.granit_base.specs.Classes.{is_break, is_breakz, is_printable, is_z}
use Rattle.granit_base.specs.Place.{first}
use Rattle.granit_error.specs.FaultKind.{UnexpectedCharacter}
use Rattle.granit_lexemes.proofs.CharTests.{break_prints}
use Rattle.granit_lexemes.specs.Comment.{is_line_char, behind_comment, skipped_comment, comment, comment_of}
use Rattle.granit_lexemes.specs.Comment.{comment_read, past_comment, CommentRead, IsComment, IsSpoiled, StandsComment}
use Rattle.granit_lexemes.specs.Comment.{ReadsComment}
use Rattle.granit_lexemes.specs.Gap.{Each}
use Rattle.granit_lexemes.specs.Here.{Here, text_len, next_char, mark_of, step, mid_line, chunk}
use Rattle.granit_lexemes.specs.Moves.{steps}
use Rattle.granit_lexemes.specs.Outcome.{Fault, fault_at, ◌>>=◌}
use Rattle.granit_lexemes.proofs.HereLemmas.{step_text, not_empty}

pub none_dropped : (xs : List ℕ) → drop 0 xs ≡ xs
none_dropped [] = refl
none_dropped (x ∷ xs) = refl

pub steps_text : (n : ℕ) (h : Here) → (steps n h).unread.text ≡ drop n h.unread.text
unfolding steps
steps_text zero h = sym (none_dropped h.unread.text)
steps_text (suc n) h =
    let k : 1 + n ≡ suc n = omega arith in
    steps_text n (step h) ∙ ap (drop n) (step_text h) ∙ drop-drop n 1 h.unread.text
    ∙ ap (λ (m : ℕ). drop m h.unread.text) k

prefix_more : (test : ℕ → Bool) (c : ℕ) (cs : List ℕ)
    → prefix_len test (c ∷ cs) ≡ cond (test c) (suc (prefix_len test cs)) 0
prefix_more test c cs =
    let more : 1 + prefix_len test cs ≡ suc (prefix_len test cs) = omega arith in
    ap (λ (n : ℕ). cond (test c) n 0) more

each_on : (test : ℕ → Bool) (v : Bool) (c : ℕ) (cs : List ℕ) (n : ℕ) → test c ≡ v → Each test (take n cs)
    → Each test (take (cond v (suc n) 0) (c ∷ cs))
each_on test true c cs n held rest = (held, rest)
each_on test false c cs n failed rest = tt

each_prefix : (test : ℕ → Bool) (text : List ℕ) → Each test (take (prefix_len test text) text)
each_prefix test [] = tt
each_prefix test (c ∷ cs) = rw (prefix_more test c cs)
    (each_on test (test c) c cs (prefix_len test cs) refl (each_prefix test cs))

stops_on : (test : ℕ → Bool) (v : Bool) (c d : ℕ) (cs ds : List ℕ) (n : ℕ) → test c ≡ v
    → (drop n cs ≡ d ∷ ds → test d ≡ false) → drop (cond v (suc n) 0) (c ∷ cs) ≡ d ∷ ds → test d ≡ false
stops_on test true c d cs ds n held rest e = rest e
stops_on test false c d cs ds n failed rest e = let same : c ≡ d = cc in subst (λ (k : ℕ). test k ≡ false) same failed

-- what stands behind a prefix fails the test
stops_prefix : (test : ℕ → Bool) (text : List ℕ) (d : ℕ) (ds : List ℕ) → drop (prefix_len test text) text ≡ d ∷ ds
    → test d ≡ false
stops_prefix test [] d ds e = absurd cc
stops_prefix test (c ∷ cs) d ds e = stops_on test (test c) c d cs ds (prefix_len test cs) refl
    (stops_prefix test cs d ds) (rw (prefix_more test c cs) at e)

-- a printable character that no comment takes is a break
breaks : (c : ℕ) → is_line_char c ≡ false → is_printable c ≡ true → is_break c ≡ true
unfolding is_printable is_break is_breakz is_z
breaks c stops prints = grind (arith, nat_tests, stops, prints)

abbrev pub with_text : Here → Result (Unit {0} × Here) Fault → Result (CommentRead × Here) Fault
with_text h s = s >>= λ x. Ok (comment_read h x.1, x.1)

-- ---- what is true of it

-- a place behind the `#` and the text of a comment that begins at another
record Parts (h after : Here) (cs : List ℕ) : Type 0 where
  spelled : h.unread.text ≡ 0x23 ∷ (cs ++ after.unread.text)
  text : Each is_line_char cs
  lands : after ≡ mid_line (steps (suc (length cs)) h)
  stops : (d : ℕ) (ds : List ℕ) → after.unread.text ≡ d ∷ ds → is_line_char d ≡ false

begins : (text : List ℕ) → first text ≡ 0x23 → text ≡ 0x23 ∷ drop 1 text
begins [] is = absurd cc
begins (c ∷ cs) is = ap (λ (k : ℕ). k ∷ cs) is

parts : (h : Here) → next_char h ≡ 0x23 → Parts h (past_comment h) (chunk is_line_char (step h))
unfolding steps
parts h is =
    let rest = (step h).unread.text in
    let n = prefix_len is_line_char rest in
    let behind = steps_text n (step h) in
    record {
      spelled = begins h.unread.text is ∙ ap (λ (cs : List ℕ). 0x23 ∷ cs)
          (sym (step_text h) ∙ sym (take-append-drop n rest) ∙ ap (λ (cs : List ℕ). take n rest ++ cs) (sym behind));
      text = each_prefix is_line_char rest;
      lands = ap (λ (m : ℕ). mid_line (steps m (step h))) (sym (length-prefix_len is_line_char rest));
      stops = λ d ds e. stops_prefix is_line_char rest d ds (sym behind ∙ e);
    }

ends_of : (text : List ℕ) → ((d : ℕ) (ds : List ℕ) → text ≡ d ∷ ds → is_line_char d ≡ false)
    → (length text == 0 || is_printable (first text)) ≡ true → (text ≡ []) ⊎ (is_break (first text) ≡ true)
ends_of [] stops held = inl refl
ends_of (d ∷ ds) stops held = inr (breaks d (stops d ds refl) (rw (not_empty d ds) at held))

strange_of : (text : List ℕ) → (length text == 0 || is_printable (first text)) ≡ false
    → (text ≡ first text ∷ drop 1 text) × (is_printable (first text) ≡ false)
strange_of [] held = absurd cc
strange_of (d ∷ ds) held = (refl, rw (not_empty d ds) at held)

abbrev behind_on : Bool → Here → Result (Unit {0} × Here) Fault
behind_on b h = if b then Ok (tt, h) else Err (fault_at (UnexpectedCharacter (next_char h)) (mark_of h))

reads_on : (h after : Here) → Parts h after (chunk is_line_char (step h)) → (b : Bool)
    → (text_len after == 0 || is_printable (next_char after)) ≡ b → ReadsComment h (with_text h (behind_on b after))
reads_on h after p true held = record {
  spelled = record {
    behind = after.unread.text;
    spelled = p.spelled;
    text = p.text;
    ends = ends_of after.unread.text
        p.stops held;
  };
  is = ap (comment_read h) p.lands;
  lands = p.lands;
}
reads_on h after p false held =
    let strange = strange_of after.unread.text held in
    record {
      front = chunk is_line_char (step h);
      character = next_char after;
      spelled = record {
        behind = drop 1 after.unread.text;
        spelled = p.spelled ∙ ap (λ (cs : List ℕ). 0x23 ∷ (chunk is_line_char (step h) ++ cs)) strange.0;
        text = p.text;
        unprintable = strange.1;
      };
      names = refl;
      marks = ap mark_of p.lands;
    }

pub comment_is : (h : Here) → next_char h ≡ 0x23 → ReadsComment h (with_text h (skipped_comment h))
unfolding skipped_comment behind_comment
comment_is h is = reads_on h (past_comment h) (parts h is)
    (text_len (past_comment h) == 0 || is_printable (next_char (past_comment h))) refl

pub comment_reads : (h : Here) → next_char h ≡ 0x23 → ReadsComment h (comment h)
unfolding comment
comment_reads h is = comment_is h is

-- ---- one comment stands there

-- characters that pass a test, before what doesn't, are as many as can be
pub same_run : (test : ℕ → Bool) (cs ds a b : List ℕ) → cs ++ a ≡ ds ++ b → Each test cs → Each test ds
    → test (first a) ≡ false → test (first b) ≡ false → (cs ≡ ds) × (a ≡ b)
same_run test [] [] a b e p q n m = (refl, e)
same_run test [] (d ∷ ds) a b e p q n m = absurd
    (let h : test (first a) ≡ true = ap (λ (t : List ℕ). test (first t)) e ∙ q.0 in cc)
same_run test (c ∷ cs) [] a b e p q n m = absurd
    (let h : test (first b) ≡ true = ap (λ (t : List ℕ). test (first t)) (sym e) ∙ p.0 in cc)
same_run test (c ∷ cs) (d ∷ ds) a b e p q n m =
    let h : c ≡ d = cc in
    let t : cs ++ a ≡ ds ++ b = cc in
    let s = same_run test cs ds a b t p.1 q.1 n m in
    (ap₂ (λ k (l : List ℕ). k ∷ l) h s.0, s.1)

no_comment_nul : is_line_char 0 ≡ false
unfolding is_breakz is_break is_z
no_comment_nul = refl

no_comment_break : (c : ℕ) → is_break c ≡ true → is_line_char c ≡ false
unfolding is_breakz
no_comment_break c y = ap (λ b. not (b || is_z c) && is_printable c) y

pub no_comment_strange : (c : ℕ) → is_printable c ≡ false → is_line_char c ≡ false
no_comment_strange c n = ap (λ b. not (is_breakz c) && b) n ∙ and_none (not (is_breakz c))
  where
    and_none : (b : Bool) → (b && false) ≡ false
    and_none true = refl
    and_none false = refl

ended : (behind : List ℕ) → (behind ≡ []) ⊎ (is_break (first behind) ≡ true) → is_line_char (first behind) ≡ false
ended behind (inl e) = ap (λ (t : List ℕ). is_line_char (first t)) e ∙ no_comment_nul
ended behind (inr y) = no_comment_break (first behind) y

pub not_both : (x cs ds : List ℕ) (c : ℕ) → IsComment x cs → IsSpoiled x ds c → ⊥
not_both x cs ds c p q =
    let joined : cs ++ p.behind ≡ ds ++ c ∷ q.behind = let e = sym p.spelled ∙ q.spelled in cc in
    let s = same_run is_line_char cs ds p.behind (c ∷ q.behind) joined p.text q.text (ended p.behind p.ends)
    (no_comment_strange c q.unprintable) in
    none p.behind s.1 p.ends
  where
    none : (behind : List ℕ) → behind ≡ c ∷ q.behind → (behind ≡ []) ⊎ (is_break (first behind) ≡ true) → ⊥
    none behind e (inl f) = let g : [] ≡ c ∷ q.behind = sym f ∙ e in cc
    none behind e (inr y) = let a = break_prints c (ap (λ (t : List ℕ). is_break (first t)) (sym e) ∙ y) in let b =
        q.unprintable in cc

one_comment : (x cs ds : List ℕ) → IsComment x cs → IsComment x ds → cs ≡ ds
one_comment x cs ds p q =
    let joined : cs ++ p.behind ≡ ds ++ q.behind = let e = sym p.spelled ∙ q.spelled in cc in
    (same_run is_line_char cs ds p.behind q.behind joined p.text q.text (ended p.behind p.ends)
    (ended q.behind q.ends)).0

is_given : (h : Here) (c : CommentRead) (after : Here) → StandsComment h c after
    → (r : Result (CommentRead × Here) Fault) → ReadsComment h r → r ≡ Ok (c, after)
is_given h c after p (Ok (d, at)) q =
    let same = one_comment h.unread.text d.text.characters c.text.characters q.spelled p.spelled in
    let is : d ≡ c = q.is ∙ ap (λ (cs : List ℕ). comment_of cs h) same ∙ sym p.is in
    let lands : at ≡ after = q.lands ∙ ap (λ (cs : List ℕ). mid_line (steps (suc (length cs)) h)) same ∙ sym p.lands in
    ap₂ (λ (x : CommentRead) (y : Here). Ok (x, y)) is lands
is_given h c after p (Err f) q = absurd (not_both h.unread.text c.text.characters q.front q.character p.spelled
    q.spelled)

-- a comment that stands there is read
pub comment_answered : (h : Here) (c : CommentRead) (after : Here) → StandsComment h c after → comment h ≡ Ok (c, after)
comment_answered h c after p = is_given h c after p (comment h) (comment_reads h (ap first p.spelled.spelled))

-- a comment, where one is asked for
abbrev pub with_note : Result (CommentRead × Here) Fault → Result (Option CommentRead × Here) Fault
with_note r = r >>= λ x. Ok (Some x.0, x.1)
