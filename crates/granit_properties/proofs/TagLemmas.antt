-- A tag, by what stands behind its `!`.
use Rattle.std.proofs.Common.{◌≡◌, ℕ, ◌==◌, Bool, true, false, List, [], ◌∷◌, ◌++◌, None, Result, Ok, Err, refl, sym}
use Rattle.std.proofs.Common.{ap, ap₂, ◌∙◌, append_assoc}
use Rattle.std.specs.Prelude.{slice_index}
use Rattle.granit_base.specs.Classes.{is_alpha, is_uri_char, is_tag_char}
use Rattle.granit_lexemes.specs.Basics.{text_up_to}
use Rattle.granit_lexemes.specs.Here.{Here, next_char, mark_of, step, past}
use Rattle.granit_lexemes.specs.Moves.{steps}
use Rattle.granit_lexemes.specs.Outcome.{Fault, ◌>>=◌}
use Rattle.granit_lexemes.specs.Pieces.{with_front}
use Rattle.granit_lexemes.specs.PlainExtent.{over}
use Rattle.granit_lexemes.specs.Tags.{UriState, decoded, tag_ends, behind_verbatim, behind_handle, short_tag, tag_at}
use Rattle.granit_handles.proofs.VersionLaw.{text_over}
use Rattle.granit_handles.proofs.HandleOnce.{no_alpha_nul}
use Rattle.granit_handles.proofs.VersionLaw.{all_over}
use Rattle.granit_handles.proofs.TagFronts.{seen}
use Rattle.granit_handles.proofs.TagFronts.{over-append}
use Rattle.granit_properties.specs.TagCode.{verbatim_rest, named_rest, short_rest}

-- behind the word that follows a `!`
abbrev pub past_word : Here → Here
past_word h = past is_alpha (step h)

abbrev places : Result (List ℕ × UriState) Fault → Result (List ℕ × Here) Fault
places r = r >>= λ x. Ok (x.0, x.1.here)

rest_is : {B : Type 0} (front : List ℕ) (r : Result (List ℕ × UriState) Fault) (k : List ℕ → Here → Result B Fault)
    → (r >>= λ x. k (front ++ x.0) x.1.here) ≡ (places (with_front front r) >>= λ x. k x.0 x.1)
rest_is front (Ok x) k = refl
rest_is front (Err f) k = refl

pub tag_verbatim : (in_flow : Bool) (h : Here) → (slice_index h.unread.text 1 == 0x3C) ≡ true
    → tag_at in_flow h ≡ verbatim_rest in_flow (mark_of h) (step (step h))
unfolding tag_at steps
tag_verbatim in_flow h e = rw e (rest_is [] (decoded is_uri_char (mark_of h) None (step (step h)))
    (behind_verbatim in_flow (mark_of h)))

pub tag_named : (in_flow : Bool) (h : Here) → (slice_index h.unread.text 1 == 0x3C) ≡ false
    → (next_char (past_word h) == 0x21) ≡ true
    → tag_at in_flow h ≡ named_rest in_flow (mark_of h) (text_up_to h (step (past_word h))) (step (past_word h))
unfolding tag_at
tag_named in_flow h e f =
    rw (e, f) (rest_is [] (decoded is_tag_char (mark_of h) None (step (past_word h)))
    (behind_handle in_flow (mark_of h) (text_up_to h (step (past_word h)))))

pub tag_short : (in_flow : Bool) (h : Here) → (slice_index h.unread.text 1 == 0x3C) ≡ false
    → (next_char (past_word h) == 0x21) ≡ false
    → tag_at in_flow h ≡ short_rest in_flow (mark_of h) (text_up_to (step h) (past_word h)) (past_word h)
unfolding tag_at
tag_short in_flow h e f =
    rw (e, f) (rest_is (text_up_to (step h) (past_word h)) (decoded is_tag_char (mark_of h) None (past_word h))
    (λ cs g. tag_ends in_flow (mark_of h) (short_tag cs) g))

-- the handle that a second `!` ends
pub handle_is : (h : Here) → next_char h ≡ 0x21 → next_char (past_word h) ≡ 0x21
    → text_up_to h (step (past_word h)) ≡ 0x21 ∷ (text_up_to (step h) (past_word h) ++ 0x21 ∷ [])
handle_is h sign second =
    let r = all_over is_alpha no_alpha_nul (step h) in
    let w = over r.0 (step h) in
    let there : next_char w ≡ 0x21 = ap (λ (g : Here). next_char g) (sym r.2) ∙ second in
    let s = seen (λ c. c == 0x21) h refl (ap (λ c. c == 0x21) sign) in
    let t = seen (λ c. c == 0x21) w refl (ap (λ c. c == 0x21) there) in
    let handle = 0x21 ∷ (r.0 ++ 0x21 ∷ []) in
    let whole : h.unread.text ≡ handle ++ (step w).unread.text =
    s.is ∙ ap₂ (λ k (l : List ℕ). k ∷ l) sign
    (r.1.whole ∙ ap (λ (l : List ℕ). r.0 ++ l) (t.is ∙ ap (λ k. k ∷ (step w).unread.text) there)
    ∙ sym (append_assoc r.0 (0x21 ∷ []) (step w).unread.text)) in
    let place : over handle h ≡ step w = over-append r.0 (0x21 ∷ []) (step h) in
    let word : text_up_to (step h) (past_word h) ≡ r.0 = ap (text_up_to (step h)) r.2
    ∙ text_over r.0 w.unread.text (step h) r.1.whole in
    ap (λ (g : Here). text_up_to h (step g)) r.2 ∙ ap (text_up_to h) (sym place)
    ∙ text_over handle (step w).unread.text h whole ∙ ap (λ (l : List ℕ). 0x21 ∷ (l ++ 0x21 ∷ [])) (sym word)
