-- Calls that take no memory are never refused for want of it.
use Rattle.std.proofs.Common.{◌≡◌, Bool, true, false, if◌then◌else◌, List, [], ◌∷◌, Option, Some, None, Result, Ok, Err}
use Rattle.std.proofs.Common.{sym, subst}
use Rattle.granit_base.specs.Place.{Mark}
use Rattle.granit_error.specs.FaultKind.{FaultKind, NoMemory, SimpleKeyExpected, TabInBlockIndentation, TabNotAllowed}
use Rattle.granit_error.specs.OptionsData.{OptionsData}
use Rattle.granit_error.specs.Refused.{Refused}
use Rattle.granit_lexemes.specs.Basics.{fails_at}
use Rattle.granit_lexemes.specs.Outcome.{Fault, ◌>>=◌}
use Rattle.granit_lexemes.specs.declared.layout.OpenBracket.{OpenBracket}
use Rattle.granit_lexemes.specs.declared.layout.PossibleKey.{PossibleKey}
use Rattle.granit_content.specs.Reads.{NeverWants}
use Rattle.granit_machine.specs.Gaps.{refuse_tab, refuse_tab_at}
use Rattle.granit_machine.specs.Laid.{Laid}
use Rattle.granit_machine.specs.Leaving.{Leaves}
use Rattle.granit_machine.specs.PossibleKeys.{top_key, refuse_required, drop_key}
use Rattle.granit_machine.specs.ReaderState.{refuse_open}

-- ---- by their parts

-- a result that isn't want of memory
record IsOther {X : Type 0} (r : Result X Refused) : Type 0 where
  never : NeverWants r

ok_other : {X : Type 0} {x : X} → IsOther (Ok x)
ok_other = record { never = tt }

fails_other : {X : Type 0} (kind : FaultKind) (mark : Mark) → (kind ≡ NoMemory → ⊥)
    → IsOther {X = X} (fails_at kind mark)
fails_other kind mark other = record { never = other }

if_other : {X : Type 0} (b : Bool) {r s : Result X Refused} → IsOther r → IsOther s → IsOther (if b then r else s)
if_other true x y = x
if_other false x y = y

then_other : {X Y : Type 0} {r : Result X Fault} (f : X → Y) → IsOther r → IsOther (r >>= λ x. Ok (f x))
then_other {r = Ok x} f other = ok_other
then_other {r = Err e} f other = record { never = other.never }

-- what equals a result that isn't want of memory
same_other : {X : Type 0} {r s : Result X Refused} → r ≡ s → IsOther s → NeverWants r
same_other {X = X} is other = subst (λ (t : Result X Refused). NeverWants t) (sym is) other.never

-- what leaves a state as a definition does that isn't want of memory
left_other : {X S : Type 0} (r : Result X Refused) (after : S) {given : Result S Fault} → Leaves r after given
    → IsOther given → NeverWants r
left_other (Ok x) after is other = tt
left_other {S = S} (Err e) after is other = subst (λ (t : Result S Fault). NeverWants t) is other.never

-- ---- refusals of what the lexemes so far left

tab_other : (o : OptionsData) (l : Laid) (m : Mark) (tab : Option Mark) → IsOther (refuse_tab o l m tab)
unfolding refuse_tab_at
tab_other o l m None = ok_other
tab_other o l m (Some tab) =
    if_other _ (fails_other TabNotAllowed tab (λ is. absurd cc))
    (if_other _ (fails_other TabInBlockIndentation m (λ is. absurd cc)) ok_other)

pub tab_refused : (o : OptionsData) (l : Laid) (m : Mark) (tab : Option Mark) (r : Result (Unit {0}) Refused)
    → r ≡ refuse_tab o l m tab → NeverWants r
tab_refused o l m tab r is = same_other is (tab_other o l m tab)

open_other : (bs : List OpenBracket) → IsOther (refuse_open bs)
open_other [] = ok_other
open_other (b ∷ bs) = fails_other _ b.mark (λ is. absurd cc)

pub open_refused : (bs : List OpenBracket) (r : Result (Unit {0}) Refused) → r ≡ refuse_open bs → NeverWants r
open_refused bs r is = same_other is (open_other bs)

required_other : (key : Option PossibleKey) → IsOther (refuse_required key)
required_other None = ok_other
required_other (Some k) = if_other k.is_required (fails_other SimpleKeyExpected k.start (λ is. absurd cc)) ok_other

pub key_refused : (l after : Laid) (r : Result (Unit {0}) Refused) → Leaves r after (drop_key l) → NeverWants r
key_refused l after r is = left_other r after is (then_other _ (required_other (top_key l)))
