-- The machine's turn, by what a scanner finds.
use Rattle.std.proofs.Common.{◌≡◌, ℕ, suc, Bool, true, false, ◌==◌, List, [], ◌∷◌, length, Some, None}
use Rattle.std.proofs.Common.{Ok, refl, sym, ap, ◌∙◌, arith}
use Rattle.std.proofs.lemmas.Bool.Decides.{nat_tests}
use Rattle.granit_error.specs.OptionsData.{OptionsData}
use Rattle.granit_machine.specs.Lexing.{FlaggedItem}
use Rattle.granit_scan.specs.TokenSteps.{TokenState, front_token_turn, read_more_tokens, token_turn, token_turn_by}
use Rattle.granit_scan.specs.TokenSteps.{with_written}
use Rattle.granit_scan.specs.TokenViews.{PlainToken}
use Rattle.granit_scanner.specs.Scans.{may_front_go}
use Rattle.granit_steps.specs.Steps.{may_go}

suc_zero : (n : ℕ) → (suc n == 0) ≡ false
suc_zero n = grind (arith, nat_tests)

-- what a test of emptiness says
pub none_waits : (ts : List PlainToken) → (length ts == 0) ≡ true → ts ≡ []
none_waits [] none = refl
none_waits (t ∷ ts) none = let e : true ≡ false = sym none ∙ suc_zero (length ts) in absurd (cc)

waits_by : (o : OptionsData) (m : TokenState) (q : List FlaggedItem) (ts : List PlainToken) → (length ts == 0) ≡ false
    → token_turn_by o ts q m ≡ Ok (None, m)
waits_by o m q [] e = absurd (cc)
waits_by o m q (t ∷ ts) e = refl

-- a token waits
pub turn_waits : (o : OptionsData) (m : TokenState) → (length m.pending == 0) ≡ false
    → token_turn o m ≡ Ok (None, m)
unfolding token_turn
turn_waits o m waits = waits_by o m m.queue m.pending waits

pub turn_waits_on : (o : OptionsData) (m : TokenState) (t : PlainToken) (ts : List PlainToken) → m.pending ≡ t ∷ ts
    → token_turn o m ≡ Ok (None, m)
unfolding token_turn
turn_waits_on o m t ts is = ap (λ (us : List PlainToken). token_turn_by o us m.queue m) is

-- the oldest item may go
pub turn_writes : (o : OptionsData) (m : TokenState) (i : FlaggedItem) (is : List FlaggedItem) → m.pending ≡ []
    → m.queue ≡ i ∷ is → may_go m.reading i is ≡ true → token_turn o m ≡ Ok (Some [], with_written i is m)
unfolding token_turn
turn_writes o m i is none front goes =
    ap (λ (ts : List PlainToken). token_turn_by o ts m.queue m) none
    ∙ ap (λ (q : List FlaggedItem). token_turn_by o [] q m) front
    ∙ ap (λ (b : Bool). front_token_turn b o i is m) goes

reads_by : (o : OptionsData) (m : TokenState) (q : List FlaggedItem) → may_front_go m.reading q ≡ false
    → token_turn_by o [] q m ≡ read_more_tokens o m.reading.ended m
reads_by o m [] waits = refl
reads_by o m (i ∷ is) waits = ap (λ (b : Bool). front_token_turn b o i is m) waits

-- no item may go
pub turn_reads : (o : OptionsData) (m : TokenState) → m.pending ≡ [] → may_front_go m.reading m.queue ≡ false
    → token_turn o m ≡ read_more_tokens o m.reading.ended m
unfolding token_turn
turn_reads o m none waits =
    ap (λ (ts : List PlainToken). token_turn_by o ts m.queue m) none ∙ reads_by o m m.queue waits
