-- What a turn over a plain scalar does.
use Rattle.std.proofs.Common.{◌≡◌, ℕ, Bool, true, false, not, ◌&&◌, List, [], ◌∷◌, ◌++◌, Option, Some, None}
use Rattle.std.proofs.Common.{Result, Ok, Err, refl}
use Rattle.std.specs.Prelude.{if◌then◌else◌}
use Rattle.std.proofs.lemmas.Bool.{or_from}
use Rattle.granit_base.specs.Classes.{is_blank, is_break, is_z, is_gap}
use Rattle.granit_base.specs.Place.{Mark}
use Rattle.granit_error.specs.FaultKind.{TabInPlainScalar}
use Rattle.granit_lexemes.specs.Here.{next_char}
use Rattle.granit_lexemes.specs.LayoutData.{LayoutData}
use Rattle.granit_lexemes.specs.Outcome.{Fault, fault_at}
use Rattle.granit_lexemes.specs.Basics.{fails_at}
use Rattle.granit_lexemes.specs.PlainScalar.{PlainState, between, on_content, on_blank, on_break, meets_comment}
use Rattle.granit_lexemes.specs.PlainScalar.{ends_before_line, plain_turn}
use Rattle.granit_base.specs.PlainContent.{is_content}

pub no_gap_of : (c : ℕ) → is_blank c ≡ false → is_break c ≡ false → is_gap c ≡ false
unfolding is_gap
no_gap_of c n m = or_from (is_blank c) (is_break c) n m

-- whether content follows such a tab
abbrev pub tab_found : PlainState → Bool
tab_found s = s.left_tab && not (is_z (next_char s.here))

abbrev pub line_found : LayoutData → PlainState → Bool
line_found at s = s.on_new_line && ends_before_line at s.here

-- each turn, with the tests that led to it
pub data Turned (at : LayoutData) (start : Mark) (s : PlainState) : Result (Option (List ℕ) × PlainState) Fault
    → Type 0 where
  past_a_blank : is_blank (next_char s.here) ≡ true → Turned at start s (Ok (Some [], on_blank at s))
  past_a_break : is_break (next_char s.here) ≡ true → Turned at start s (Ok (Some [], on_break s))
  at_a_comment : is_gap (next_char s.here) ≡ false → meets_comment s ≡ true → Turned at start s (Ok (None, s))
  at_a_tab : is_gap (next_char s.here) ≡ false → meets_comment s ≡ false → tab_found s ≡ true
      → Turned at start s (Err (fault_at TabInPlainScalar start))
  at_a_line : is_gap (next_char s.here) ≡ false → tab_found s ≡ false → line_found at s ≡ true
      → Turned at start s (Ok (None, s))
  past_content : meets_comment s ≡ false → tab_found s ≡ false → line_found at s ≡ false
      → is_content at.in_flow s.here.unread.text ≡ true
      → Turned at start s (Ok (Some (between s ++ next_char s.here ∷ []), on_content s))
  at_no_content : is_gap (next_char s.here) ≡ false → tab_found s ≡ false
      → is_content at.in_flow s.here.unread.text ≡ false → Turned at start s (Ok (None, s))

-- a turn, by its tests in their order
abbrev pub chain : LayoutData → Mark → PlainState → (a b c d e f : Bool) → Result (Option (List ℕ) × PlainState) Fault
chain at start s a b c d e f =
    if a then Ok (Some [], on_blank at s)
    else if b then Ok (Some [], on_break s)
    else if c then Ok (None, s)
    else if d then fails_at TabInPlainScalar start
    else if e then Ok (None, s)
    else if f then Ok (Some (between s ++ next_char s.here ∷ []), on_content s)
    else Ok (None, s)

turned_as : (at : LayoutData) (start : Mark) (s : PlainState) (a b c d e f : Bool)
    → is_blank (next_char s.here) ≡ a → is_break (next_char s.here) ≡ b → meets_comment s ≡ c → tab_found s ≡ d
    → line_found at s ≡ e → is_content at.in_flow s.here.unread.text ≡ f
    → Turned at start s (chain at start s a b c d e f)
turned_as at start s true b c d e f p q r t u v = past_a_blank p
turned_as at start s false true c d e f p q r t u v = past_a_break q
turned_as at start s false false true d e f p q r t u v = at_a_comment (no_gap_of (next_char s.here) p q) r
turned_as at start s false false false true e f p q r t u v = at_a_tab (no_gap_of (next_char s.here) p q) r t
turned_as at start s false false false false true f p q r t u v = at_a_line (no_gap_of (next_char s.here) p q) t u
turned_as at start s false false false false false true p q r t u v = past_content r t u v
turned_as at start s false false false false false false p q r t u v = at_no_content (no_gap_of (next_char s.here) p q)
    t v

pub turned : (at : LayoutData) (start : Mark) (s : PlainState) → Turned at start s (plain_turn at start s)
unfolding plain_turn
turned at start s = turned_as at start s (is_blank (next_char s.here)) (is_break (next_char s.here)) (meets_comment s)
    (tab_found s) (line_found at s) (is_content at.in_flow s.here.unread.text) refl refl refl refl refl refl
