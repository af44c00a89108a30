-- Signs in flow, where they are taken or refused.
use Rattle.std.proofs.Common.{◌≡◌, ◌<◌, ◌≤◌, Bool, true, false, List, [], ◌∷◌, length, drop, Some, Err, refl, sym}
use Rattle.std.proofs.Common.{arith, ap, ap₂, ◌∙◌, subst}
use Rattle.std.specs.Prelude.{slice_get, nat_le}
use Rattle.std.proofs.lemmas.Bool.Decides.{nat_tests}
use Rattle.granit_error.specs.FaultKind.{MismatchedFlowCollectionEnd, RecursionLimitExceeded}
use Rattle.granit_error.specs.OptionsData.{OptionsData}
use Rattle.granit_lexemes.specs.Here.{Here, mark_of, step}
use Rattle.granit_lexemes.specs.Lexeme.{Lexeme, Open, Close, opener_char, closer_char}
use Rattle.granit_lexemes.specs.Outcome.{fault_at}
use Rattle.granit_lexemes.specs.declared.layout.Bracket.{Bracket}
use Rattle.granit_lexemes.specs.declared.layout.LastLexeme.{LastLexeme}
use Rattle.granit_lexemes.specs.declared.layout.LastLexeme.TheVariants.{Opener, Adjacent}
use Rattle.granit_lexemes.specs.declared.layout.OpenBracket.{OpenBracket}
use Rattle.granit_machine.specs.FlowLexemes.{opened, opener, closed_bracket, closes, closer_by}
use Rattle.granit_machine.specs.Laid.{Laid, same_bracket}
use Rattle.granit_machine.specs.ReaderState.{Read, sign_lexeme, tailed}

pub opener_full : (o : OptionsData) (bracket : Bracket) (ends : Bool) (h : Here) (l : Laid)
    → o.flow_nesting_limit ≤ length l.brackets
    → opener o bracket ends h l ≡ Err (fault_at RecursionLimitExceeded (mark_of h))
unfolding opener
opener_full o bracket ends h l full =
    let none : nat_le o.flow_nesting_limit (length l.brackets) ≡ true = grind (arith, nat_tests, full) in
    rw none refl

pub opener_read : (o : OptionsData) (bracket : Bracket) (ends : Bool) (h : Here) (l : Laid)
    → length l.brackets < o.flow_nesting_limit
    → opener o bracket ends h l ≡ tailed (sign_lexeme ends (Open bracket) h l) Opener (step h)
    (opened bracket (mark_of h) l)
unfolding opener
opener_read o bracket ends h l room =
    let some : nat_le o.flow_nesting_limit (length l.brackets) ≡ false = grind (arith, nat_tests, room) in
    rw some refl

closes_read : (bracket : Bracket) (b : OpenBracket) (bs : List OpenBracket) (ends : Bool) (h : Here) (l : Laid)
    → same_bracket b.bracket bracket ≡ true
    → closes bracket b bs ends h l ≡ tailed (sign_lexeme ends (Close bracket) h l) Adjacent (step h)
    (closed_bracket bs l)
unfolding closes
closes_read bracket b bs ends h l same = rw same refl

pub closer_read : (bracket : Bracket) (b : OpenBracket) (bs : List OpenBracket) (ends : Bool) (h : Here) (l : Laid)
    → slice_get bs 0 ≡ Some b → same_bracket b.bracket bracket ≡ true
    → closer_by bracket bs ends h l ≡ tailed (sign_lexeme ends (Close bracket) h l) Adjacent (step h)
    (closed_bracket (drop 1 bs) l)
closer_read bracket b [] ends h l is same = absurd cc
closer_read bracket b (x ∷ bs) ends h l is same =
    let first : x ≡ b = cc in
    closes_read bracket x bs ends h l (rw first same)

closes_other : (bracket : Bracket) (b : OpenBracket) (bs : List OpenBracket) (ends : Bool) (h : Here) (l : Laid)
    → same_bracket b.bracket bracket ≡ false
    → closes bracket b bs ends h l ≡ Err (fault_at
    (MismatchedFlowCollectionEnd (opener_char b.bracket) (closer_char bracket)) b.mark)
unfolding closes
closes_other bracket b bs ends h l other = rw other refl

pub closer_other : (bracket : Bracket) (b : OpenBracket) (bs : List OpenBracket) (ends : Bool) (h : Here) (l : Laid)
    → slice_get bs 0 ≡ Some b → same_bracket b.bracket bracket ≡ false
    → closer_by bracket bs ends h l ≡ Err (fault_at
    (MismatchedFlowCollectionEnd (opener_char b.bracket) (closer_char bracket)) b.mark)
closer_other bracket b [] ends h l is other = absurd cc
closer_other bracket b (x ∷ bs) ends h l is other =
    let first : x ≡ b = cc in
    closes_other bracket x bs ends h l (rw first other)
    ∙ ap (λ (y : OpenBracket). Err (fault_at
    (MismatchedFlowCollectionEnd (opener_char y.bracket) (closer_char bracket)) y.mark)) first

-- the same reading of a lexeme, by other names
pub same_tailed : (P : Read → Type 0) (x y : Lexeme) (last : LastLexeme) (end : Here) (l m : Laid) (read : Read)
    → read ≡ tailed x last end l → y ≡ x → m ≡ l → P (tailed y last end m) → P read
same_tailed P x y last end l m read is first second given = subst P
    (ap₂ (λ (z : Lexeme) (n : Laid). tailed z last end n) first second ∙ sym is) given
