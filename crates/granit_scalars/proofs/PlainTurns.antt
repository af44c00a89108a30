-- Each turn over a plain scalar but the last takes a character.
use Rattle.std.proofs.Common.{◌≡◌, ℕ, ◌<◌, Bool, true, false, List, [], ◌∷◌, Option, Some}
use Rattle.std.proofs.Common.{Result, Ok, refl, sym, ap, subst}
use Rattle.granit_base.specs.Classes.{is_blank, is_break, is_z, is_blank_or_breakz, is_breakz}
use Rattle.granit_base.specs.Place.{Mark}
use Rattle.granit_lexemes.specs.Here.{Here, next_char, step, text_len}
use Rattle.granit_lexemes.specs.LayoutData.{LayoutData}
use Rattle.granit_lexemes.specs.Outcome.{Fault}
use Rattle.granit_lexemes.specs.Pieces.{Shortens}
use Rattle.granit_lexemes.specs.Basics.{past_break}
use Rattle.granit_lexemes.specs.PlainScalar.{PlainState, on_content, on_blank, on_break}
use Rattle.granit_lexemes.specs.PlainScalar.{plain_turn, plain_len}
use Rattle.granit_base.specs.PlainContent.{is_content}
use Rattle.granit_lexemes.proofs.PlainTurned.{Turned, past_a_blank, past_a_break, at_a_comment, at_a_tab, at_a_line}
use Rattle.granit_lexemes.proofs.PlainTurned.{past_content, at_no_content, turned}
use Rattle.granit_scalars.proofs.Stepping.{Seen, seen, seen_as, shorter, broken}

is_blank_nul : is_blank 0 ≡ false
unfolding is_blank
is_blank_nul = refl

pub seen_blank : (h : Here) → is_blank (next_char h) ≡ true → Seen h
seen_blank h y = seen is_blank h is_blank_nul y

no_content_at_end : (in_flow : Bool) → is_content in_flow [] ≡ false
unfolding is_blank_or_breakz is_breakz is_blank is_break is_z
no_content_at_end in_flow = refl

seen_content_in : (text : List ℕ) (in_flow : Bool) (h : Here) → h.unread.text ≡ text → is_content in_flow text ≡ true
    → Seen h
seen_content_in [] in_flow h e y = absurd (let n = no_content_at_end in_flow in cc)
seen_content_in (c ∷ t) in_flow h e y = seen_as h c t e

pub seen_content : (in_flow : Bool) (h : Here) → is_content in_flow h.unread.text ≡ true → Seen h
seen_content in_flow h y = seen_content_in h.unread.text in_flow h refl y

blank_here : (at : LayoutData) (s : PlainState) (b : Bool) → s.on_new_line ≡ b → (on_blank at s).here ≡ step s.here
unfolding on_blank
blank_here at s true e = rw e refl
blank_here at s false e = rw e refl

break_here : (s : PlainState) (b : Bool) → s.on_new_line ≡ b → (on_break s).here ≡ past_break s.here
unfolding on_break
break_here s true e = rw e refl
break_here s false e = rw e refl

content_here : (s : PlainState) → (on_content s).here ≡ step s.here
unfolding on_content
content_here s = refl

abbrev Less : PlainState → Result (Option (List ℕ) × PlainState) Fault → Type 0
Less s (Ok (Some piece, after)) = plain_len after < plain_len s
Less s _ = Unit {0}

less_to : (s after : PlainState) (h : Here) → after.here ≡ h → text_len h < text_len s.here
    → plain_len after < plain_len s
less_to s after h e l = subst (λ n. n < plain_len s) (sym (ap text_len e)) l

less : {at : LayoutData} {start : Mark} (s : PlainState) (r : Result (Option (List ℕ) × PlainState) Fault)
    → Turned at start s r → Less s r
less {at} s r (past_a_blank y) = less_to s (on_blank at s) (step s.here) (blank_here at s s.on_new_line refl)
    (shorter s.here (seen_blank s.here y))
less s r (past_a_break y) = less_to s (on_break s) (past_break s.here) (break_here s s.on_new_line refl)
    (broken s.here y).shortens
less s r (at_a_comment n y) = tt
less s r (at_a_tab n m y) = tt
less s r (at_a_line n m y) = tt
less {at} s r (past_content n m l y) = less_to s (on_content s) (step s.here) (content_here s)
    (shorter s.here (seen_content at.in_flow s.here y))
less s r (at_no_content n m y) = tt

pub plain_shortens : (at : LayoutData) (start : Mark) → Shortens plain_len (plain_turn at start)
plain_shortens at start s after piece e = subst (Less s) e (less s (plain_turn at start s) (turned at start s))
