-- Turns until a token waits, or nothing is left.
use Rattle.std.proofs.Common.{◌≡◌, Bool, true, false, [], Some, None, Result, Ok, Err, refl, sym, subst}
use Rattle.std.proofs.Common.{◌∙◌}
use Rattle.granit_base.specs.Place.{Unread}
use Rattle.granit_cursor.specs.Reading.{GivesTo}
use Rattle.granit_error.specs.OptionsData.{OptionsData}
use Rattle.granit_error.specs.FaultKind.{NoMemory}
use Rattle.granit_error.specs.Refused.{Refused}
use Rattle.granit_lexemes.specs.Outcome.{Fails}
use Rattle.granit_lexemes.proofs.PieceLemmas.{pieces_done, pieces_fails, pieces_more, with_front-nil}
use Rattle.granit_scan.specs.Recovering.{Rests, ScannerRefusedIn, TokenTurnsTo, no_turn, turned_on}
use Rattle.granit_scan.specs.Scanning.{TokenScanning, ScannerIn, ScannerKeeps, token_turn_view, no_tokens}
use Rattle.granit_scan.specs.TokenSteps.{TokenState, settle_tokens, token_size, token_turn}
use Rattle.granit_scan.proofs.Shortening.{token_turn-Shortens}

settle_on : (o : OptionsData) (m after : TokenState) → token_turn o m ≡ Ok (Some [], after)
    → settle_tokens o after ≡ settle_tokens o m
settle_on o m after is =
    sym (pieces_more token_size (token_turn o) (token_turn-Shortens o) m after [] is
    ∙ with_front-nil (settle_tokens o after))

-- as far as turns went, the machine settles as it does where they began
abbrev pub SettlesAlike : {I : Type 0} → (I → Unread → Type 0) → (initial now : TokenScanning I) → Type 0
SettlesAlike unread initial now =
    (m : TokenState) → ScannerIn unread initial m → initial.first ≡ None
    → (n : TokenState) × ScannerIn unread now n
    × (settle_tokens initial.items.options n ≡ settle_tokens initial.items.options m)

-- what a turn gives
abbrev pub Turned : {I : Type 0} → (I → Unread → Type 0) → TokenScanning I → Result Bool Refused
    → TokenScanning I → Type 0
Turned unread now r after =
    (m : TokenState) → ScannerIn unread now m → now.first ≡ None
    → GivesTo token_turn_view r (ScannerIn unread after) (token_turn now.items.options m)

pub alike_first : {I : Type 0} (unread : I → Unread → Type 0) (s : TokenScanning I) → SettlesAlike unread s s
alike_first unread s = λ m at none. (m, at, refl)

pub keeps_itself : {I : Type 0} (s : TokenScanning I) → ScannerKeeps s s
keeps_itself s = record {
  first = refl;
  ended = refl;
  failed = refl;
  failed_in_directive = refl;
  wants_memory = refl;
  comments = refl;
  source_error = refl;
  options = refl;
}

pub keeps_both : {I : Type 0} (a b c : TokenScanning I) → ScannerKeeps a b → ScannerKeeps b c → ScannerKeeps a c
keeps_both a b c x y = record {
  first = y.first ∙ x.first;
  ended = y.ended ∙ x.ended;
  failed = y.failed ∙ x.failed;
  failed_in_directive = y.failed_in_directive ∙ x.failed_in_directive;
  wants_memory = y.wants_memory ∙ x.wants_memory;
  comments = y.comments ∙ x.comments;
  source_error = y.source_error ∙ x.source_error;
  options = y.options ∙ x.options;
}

module _ {I : Type 0} (unread : I → Unread → Type 0) (initial now after : TokenScanning I)
    (keeps : ScannerKeeps initial now)
    (alike : SettlesAlike unread initial now) where
  -- a turn was made
  pub alike_more : Turned unread now (Ok true) after → SettlesAlike unread initial after
  alike_more turned = λ m at none.
      let o = initial.items.options in
      let n = alike m at none in
      let t = turned n.0 n.1 (keeps.first ∙ none) in
      let is : token_turn o n.0 ≡ Ok (Some [], t.0) = subst
      (λ (p : OptionsData). token_turn p n.0 ≡ Ok (Some [], t.0)) keeps.options t.2 in
      (t.0, t.1, settle_on o n.0 t.0 is ∙ n.2)

  -- none is left to make
  pub alike_done : {U : Type 0} (u : U) → Turned unread now (Ok false) after → (m : TokenState)
      → ScannerIn unread initial m
      → initial.first ≡ None → GivesTo no_tokens (Ok u) (ScannerIn unread after) (settle_tokens initial.items.options m)
  alike_done u turned = λ m at none.
      let o = initial.items.options in
      let n = alike m at none in
      let t = turned n.0 n.1 (keeps.first ∙ none) in
      let is : token_turn o n.0 ≡ Ok (None, t.0) = subst
      (λ (p : OptionsData). token_turn p n.0 ≡ Ok (None, t.0)) keeps.options t.2 in
      (t.0, t.1, sym n.2 ∙ pieces_done token_size (token_turn o) n.0 t.0 is)

  -- one fails
  pub alike_fails : (e : Refused) → Turned unread now (Err e) after → (m : TokenState) → ScannerIn unread initial m
      → initial.first ≡ None → Fails e (settle_tokens initial.items.options m)
  alike_fails e turned = λ m at none other.
      let o = initial.items.options in
      let n = alike m at none in
      let t : Fails e (token_turn now.items.options n.0) = turned n.0 n.1 (keeps.first ∙ none) in
      let is : token_turn o n.0 ≡ Err e = subst (λ (p : OptionsData). token_turn p n.0 ≡ Err e) keeps.options
      (t other) in
      sym n.2 ∙ pieces_fails token_size (token_turn o) n.0 e is

-- ---- where turns lead

abbrev pub Leads : {I : Type 0} → (I → Unread → Type 0) → (initial now : TokenScanning I) → Type 0
Leads unread initial now =
    (m : TokenState) → ScannerIn unread initial m → initial.first ≡ None
    → (n : TokenState) × ScannerIn unread now n × TokenTurnsTo initial.items.options m n

pub no_turn_made : (o : OptionsData) (m : TokenState) → TokenTurnsTo o m m
no_turn_made o m = no_turn

pub leads_first : {I : Type 0} (unread : I → Unread → Type 0) (s : TokenScanning I) → Leads unread s s
leads_first unread s = λ m at none. (m, at, no_turn)

module _ {I : Type 0} (unread : I → Unread → Type 0) (initial now after : TokenScanning I)
    (keeps : ScannerKeeps initial now)
    (leads : Leads unread initial now) where
  pub leads_more : Turned unread now (Ok true) after → Leads unread initial after
  leads_more turns = λ m at none.
      let o = initial.items.options in
      let n = leads m at none in
      let t = turns n.0 n.1 (keeps.first ∙ none) in
      let is : token_turn o n.0 ≡ Ok (Some [], t.0) = subst
      (λ (p : OptionsData). token_turn p n.0 ≡ Ok (Some [], t.0)) keeps.options t.2 in
      (t.0, t.1, turned_on n.2 is)

  pub leads_fails : (e : Refused) → Turned unread now (Err e) after
      → ((m : TokenState) → ScannerIn unread now m → (e.kind ≡ NoMemory → ⊥) → Rests unread after m)
      → (m : TokenState) → ScannerIn unread initial m → initial.first ≡ None → (e.kind ≡ NoMemory → ⊥)
      → ScannerRefusedIn unread initial.items.options after m e
  leads_fails e turns rested = λ m at none other.
      let o = initial.items.options in
      let n = leads m at none in
      let t : Fails e (token_turn now.items.options n.0) = turns n.0 n.1 (keeps.first ∙ none) in
      let is : token_turn o n.0 ≡ Err e = subst (λ (p : OptionsData). token_turn p n.0 ≡ Err e) keeps.options
      (t other) in
      record { at = n.0; turns = n.2; fails = is; rests = rested n.0 n.1 other }
