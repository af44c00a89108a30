-- Calls of a parser that tell of a document, in the calls of the machine.
use Rattle.std.proofs.Common.{◌≡◌, ◌⊎◌, inl, inr, Bool, true, false, ◌||◌, is_some}
use Rattle.std.proofs.Common.{Some, None, Result, Ok, Err, refl, sym, ap, subst, ◌∙◌}
use Rattle.granit_parser.specs.Recovering.{ComesOnward}
use Rattle.granit_base.specs.Place.{Unread}
use Rattle.granit_parser.proofs.AloneLemmas.{told}
use Rattle.granit_parser.specs.Recovering.{CallsBetween, event_given, fault_given, nothing_given, TellsOnce}
use Rattle.granit_error.specs.OptionsData.{OptionsData}
use Rattle.granit_error.specs.Refused.{Refused}
use Rattle.granit_event.specs.Events.{plain_event}
use Rattle.granit_input.specs.Origin.{Origin}
use Rattle.granit_lexemes.specs.Outcome.{Fault}
use Rattle.granit_parser.proofs.InLemmas.{closed_open}
use Rattle.granit_parser.specs.Parsing.{Next, Parsing, notes_answered}
use Rattle.granit_parser.specs.Recovering.{comes_ahead, comes_here, failed_in, GivesCall, IsClosed, IsOpen}
use Rattle.granit_parser.specs.Recovering.{LooksNoMore, MeetsNumber, ParserIn, Proceeds, ProceedsNext, ProceedsShown}
use Rattle.granit_parser.specs.Recovering.{ShowsCall, StopsIn}
use Rattle.granit_parser_laws.proofs.StopLemmas.{closed_fit, event_fit, fault_closed, FitLooked, fit_there}
use Rattle.granit_parser_laws.proofs.StarvedLemmas.{HasMemory, IsStarved, memory_in, never_tells, seen_starved}
use Rattle.granit_parser_laws.proofs.StarvedLemmas.{starved_seen, starved_taken, taken_starved, WantsMemory}
use Rattle.granit_parser_laws.proofs.StopLemmas.{open_or_closed, open_seen, parser_fit}
use Rattle.granit_parser_laws.specs.Again.{call_on, CallsOn, EventsTaken, no_event_taken, none_called}
use Rattle.granit_parser_laws.specs.Again.{number_here, number_later, NumberMet, NumberMetBehind, one_seen, one_taken}
use Rattle.granit_parser_laws.specs.Again.{ProceedsBehind, ProceedsTo, SeesEvent, TakesEvent, ToldIn}
use Rattle.granit_recovery.specs.Streams.{ReachedByCalls, reached_call, reached_recovery}
use Rattle.granit_restart.specs.Ahead.{AheadOf}
use Rattle.granit_restart.specs.Calls.{Calls, failing, given_by, GivenByCall, next_call}
use Rattle.granit_restart.specs.Recovery.{recover, resumed}
use Rattle.granit_restart.specs.Skipping.{Stops}
use Rattle.granit_led.specs.Stopping.{FitBehind, looked_at}
use Rattle.granit_parser.proofs.InLemmas.{call_going}
use Rattle.granit_parser.specs.Recovering.{FailsAt}
use Rattle.granit_parser.specs.Parsing.{TellsSource}
use Rattle.granit_parser.specs.Parsing.{RefusesNumber}
use Rattle.granit_steps.specs.Steps.{next_event, StepState}

reached_by : (o : OptionsData) (c d : Calls) (x : GivenByCall) → ReachedByCalls o c → next_call o c ≡ (x, d)
    → ReachedByCalls o d
reached_by o c d x r is = subst (λ (y : GivenByCall × Calls). ReachedByCalls o y.1) is (reached_call r)

lead_by : (o : OptionsData) (c d after : Calls) (x : GivenByCall) → CallsOn o c d → next_call o d ≡ (x, after)
    → CallsOn o c after
lead_by o c d after x lead is = subst (λ (y : GivenByCall × Calls). CallsOn o c y.1) is (call_on lead)

-- under these options, where a number was ever set or not
module _ (o : OptionsData) (b : Bool) where
  -- a call that is refused is the machine's
  failed_call : (c : Calls) (m : StepState) (e : Refused) → IsOpen c → FailsAt b o m c e
      → (next_call o c ≡ (Some (Err e), failed_in m e c)) ⊎ MeetsNumber b o c.steps
  failed_call c m e is fails = by fails.1
    where
      by : ((next_event o c.steps ≡ Err e) × (m ≡ failing o c.steps))
          ⊎ ((t : StepState) × AheadOf o c.steps t × RefusesNumber b o t e)
          → (next_call o c ≡ (Some (Err e), failed_in m e c)) ⊎ MeetsNumber b o c.steps
      by (inl x) =
          inl (call_going o c is.over is.fault is.refusal ∙ ap (given_by o c) x.0
          ∙ ap (λ (n : StepState). (Some (Err e), failed_in n e c)) (sym x.1))
      by (inr x) = inr (x.0, e, comes_ahead comes_here x.1, x.2)

  module _ {I : Type 0} (unread : I → Unread → Type 0) (origin : I → Origin) where
    -- the same options, and a number was ever set or not, as before
    pub record SameSettings (p : Parsing I) : Type 0 where
      pub options : p.stepper.scanner.options ≡ o
      pub renumbered : p.stepper.renumbered ≡ b

    same_on : (p q : Parsing I) (r : Next) → SameSettings p → TakesEvent unread origin p r q → SameSettings q
    same_on p q r same takes = record {
      options = takes.options ∙ same.options;
      renumbered = takes.renumbered ∙ same.renumbered;
    }

    same_seen : (p q : Parsing I) (r : Next) → SameSettings p → SeesEvent unread origin p r q → SameSettings q
    same_seen p q r same sees = record {
      options = sees.options ∙ same.options;
      renumbered = sees.renumbered ∙ same.renumbered;
    }

    all_same : (p q : Parsing I) → SameSettings p → EventsTaken unread origin p q → SameSettings q
    all_same p q same no_event_taken = same
    all_same p q same (one_taken {mid = mid} r before takes source) =
        same_on mid q r (all_same p mid same before) takes
    all_same p q same (one_seen {mid = mid} r before sees source) =
        same_seen mid q r (all_same p mid same before) sees

    tells_same : (p q : Parsing I) → SameSettings p → ProceedsTo unread origin p (Ok true) q → SameSettings q
    tells_same p q same tells = record {
      options = tells.options ∙ same.options;
      renumbered = tells.renumbered ∙ same.renumbered;
    }

    pub behind_same : (p q : Parsing I) → SameSettings p → ProceedsBehind unread origin p q → SameSettings q
    behind_same p q same proceeds =
        tells_same proceeds.parser q (all_same p proceeds.parser same proceeds.taken) proceeds.tells

    -- no number is met where none was ever set
    none_behind : (v : Bool) (k : OptionsData) (c : Calls) → v ≡ false → NumberMetBehind v k c → ⊥
    none_behind v k c is met = let e : true ≡ false = sym (met.meets.3.0) ∙ is in cc

    pub none_met : (p : Parsing I) (c : Calls) → SameSettings p → b ≡ false → NumberMet unread origin p c → ⊥
    none_met p c same is (number_here x) =
        none_behind p.stepper.renumbered p.stepper.scanner.options c (same.renumbered ∙ is) x
    none_met p c same is (number_later {next = q} {d = d} proceeds there met) =
        none_met q d (behind_same p q same proceeds) is met

    -- where calls led from there, recovery told of a document at first or not
    module _ (c : Calls) (Told : Type 0) where
      abbrev MetThere : Type 0
      MetThere = NumberMetBehind b o c

      -- something was given, or no look comes first
      record GivenSince (p : Parsing I) : Type 0 where
        given : Bool
        calls : Calls
        between : CallsBetween o c given calls
        lead : CallsOn o c calls
        reached : ReachedByCalls o calls
        stands : ParserIn unread p calls
        looks : LooksNoMore p calls
        told : Told → given ≡ true
        here : given ≡ false → calls ≡ c

      -- nothing was given since recovery told of a document
      record NothingSince (p : Parsing I) : Type 0 where
        reached : ReachedByCalls o c
        stands : ParserIn unread p c
        answered : p.answered ≡ true
        is_open : IsOpen c

      abbrev Amid : Parsing I → Type 0
      Amid p = GivenSince p ⊎ NothingSince p

      -- ---- events between

      stays_closed : {p : Parsing I} (q : Parsing I) (x : GivenSince p) → IsClosed x.calls → ParserIn unread q x.calls
          → GivenSince q
      stays_closed q x closed stands = record {
        given = x.given;
        calls = x.calls;
        between = x.between;
        lead = x.lead;
        reached = x.reached;
        stands = stands;
        looks = inr closed;
        told = x.told;
        here = x.here;
      }

      -- a fault is given, or looked at
      fault_to : (q : Parsing I) (e : Refused) (given : Bool) (d : Calls) → CallsBetween o c given d
          → CallsOn o c d → ReachedByCalls o d → IsOpen d → SameSettings q
          → (m : StepState) × FailsAt q.stepper.renumbered q.stepper.scanner.options m d e
          × ParserIn unread q (failed_in m e d) → GivenSince q ⊎ MetThere
      fault_to q e given d before lead reached is same x =
          by x.0 x.2 (failed_call d x.0 e is (subst (λ (k : OptionsData). FailsAt b k x.0 d e) same.options
          (subst (λ (v : Bool). FailsAt v q.stepper.scanner.options x.0 d e) same.renumbered x.1)))
        where
          by : (m : StepState) → ParserIn unread q (failed_in m e d)
              → (next_call o d ≡ (Some (Err e), failed_in m e d)) ⊎ MeetsNumber b o d.steps → GivenSince q ⊎ MetThere
          by m stands (inl call) = inl (record {
            given = true;
            calls = failed_in m e d;
            between = fault_given o.keep_tags before call;
            lead = lead_by o c d (failed_in m e d) (Some (Err e)) lead call;
            reached = reached_by o d (failed_in m e d) (Some (Err e)) reached call;
            stands = stands;
            looks = inr (fault_closed (failed_in m e d) e refl);
            told = λ t. refl;
            here = λ e. absurd (cc);
          })
          by m stands (inr met) = inr (record { calls = d; lead = lead; meets = met })

      gives_to : (p q : Parsing I) (r : Next) (given : Bool) (d : Calls) → CallsBetween o c given d
          → CallsOn o c d → ReachedByCalls o d → IsOpen d → SameSettings q → q.answered ≡ notes_answered r p.answered
          → HasMemory r → GivesCall unread r q d → GivenSince q ⊎ MetThere
      gives_to p q None given d before lead reached is same noted memory gives = absurd gives
      gives_to p q (Some (Ok x)) given d before lead reached is same noted memory gives =
          let call = subst (λ (k : OptionsData). next_call k d ≡ (Some (Ok (plain_event x)), gives.0)) same.options
          gives.1 in
          inl (record {
            given = true;
            calls = gives.0;
            between = event_given o.keep_tags before call;
            lead = lead_by o c d gives.0 (Some (Ok (plain_event x))) lead call;
            reached = reached_by o d gives.0 (Some (Ok (plain_event x))) reached call;
            stands = gives.2;
            looks = inl noted;
            told = λ t. refl;
            here = λ e. absurd (cc);
          })
      gives_to p q (Some (Err e)) given d before lead reached is same noted memory gives =
          fault_to q e given d before lead reached is same (gives memory)

      -- what a look shows is given behind it, but a fault counts as given
      shows_to : (p q : Parsing I) (r : Next) (given : Bool) (d : Calls) → CallsBetween o c given d
          → CallsOn o c d → ReachedByCalls o d → IsOpen d → SameSettings q
          → HasMemory r → ShowsCall unread r q d
          → ParserIn unread q d ⊎ (GivenSince q ⊎ MetThere)
      shows_to p q None given d before lead reached is same memory shows = absurd shows
      shows_to p q (Some (Ok x)) given d before lead reached is same memory shows = inl shows
      shows_to p q (Some (Err e)) given d before lead reached is same memory shows =
          inr (fault_to q e given d before lead reached is same (shows memory))

      taken_open : (p q : Parsing I) (r : Next) (given : Bool) (d : Calls) → CallsBetween o c given d
          → CallsOn o c d → ReachedByCalls o d → IsOpen d → ParserIn unread p d → SameSettings p → SameSettings q
          → TakesEvent unread origin p r q → HasMemory r
          → (TellsSource origin r q.stepper.scanner.cursor → ⊥) → GivenSince q ⊎ MetThere
      taken_open p q r given d before lead reached is stands first same takes memory source =
          by (takes.calls d (subst (λ (k : OptionsData). ReachedByCalls k d) (sym first.options) reached) is stands)
        where
          by : GivesCall unread r q d ⊎ TellsSource origin r q.stepper.scanner.cursor → GivenSince q ⊎ MetThere
          by (inl gives) = gives_to p q r given d before lead reached is same takes.answered memory gives
          by (inr tells) = absurd (source tells)

      taken : (p q : Parsing I) (r : Next) → Amid p → SameSettings p → SameSettings q
          → TakesEvent unread origin p r q → HasMemory r
          → (TellsSource origin r q.stepper.scanner.cursor → ⊥) → Amid q ⊎ MetThere
      taken p q r (inr x) first same takes memory source =
          by (taken_open p q r false c nothing_given none_called x.reached x.is_open x.stands first same takes memory
          source)
        where
          by : GivenSince q ⊎ MetThere → Amid q ⊎ MetThere
          by (inl y) = inl (inl y)
          by (inr met) = inr met
      taken p q r (inl x) first same takes memory source = by (open_or_closed x.calls)
        where
          since : GivenSince q ⊎ MetThere → Amid q ⊎ MetThere
          since (inl y) = inl (inl y)
          since (inr met) = inr met

          by : IsOpen x.calls ⊎ IsClosed x.calls → Amid q ⊎ MetThere
          by (inl is) =
              since (taken_open p q r x.given x.calls x.between x.lead x.reached is x.stands first same takes memory
              source)
          by (inr closed) = inl (inl (stays_closed q x closed (takes.closed x.calls closed x.stands)))

      shown : (p q : Parsing I) (r : Next) (d : Calls) → ReachedByCalls o d → IsOpen d → ParserIn unread p d
          → SameSettings p
          → SeesEvent unread origin p r q → (origin q.stepper.scanner.cursor.input).error ≡ None
          → ShowsCall unread r q d
      shown p q r d reached is stands first sees source =
          sees.calls.calls d (subst (λ (k : OptionsData). ReachedByCalls k d) (sym first.options) reached) is stands
          source

      seen : (p q : Parsing I) (r : Next) → Amid p → SameSettings p → SameSettings q → SeesEvent unread origin p r q
          → HasMemory r
          → (origin q.stepper.scanner.cursor.input).error ≡ None → Amid q ⊎ MetThere
      seen p q r (inr x) first same sees memory source =
          by (shows_to p q r false c nothing_given none_called x.reached x.is_open same memory
          (shown p q r c x.reached x.is_open x.stands first sees source))
        where
          by : ParserIn unread q c ⊎ (GivenSince q ⊎ MetThere) → Amid q ⊎ MetThere
          by (inl stands) = inl (inr (record {
            reached = x.reached;
            stands = stands;
            answered = sees.answered ∙ x.answered;
            is_open = x.is_open;
          }))
          by (inr (inl y)) = inl (inl y)
          by (inr (inr met)) = inr met
      seen p q r (inl x) first same sees memory source = by (open_or_closed x.calls) x.looks
        where
          still : ParserIn unread q x.calls → LooksNoMore q x.calls → Amid q ⊎ MetThere
          still stands looks = inl (inl (record {
            given = x.given;
            calls = x.calls;
            between = x.between;
            lead = x.lead;
            reached = x.reached;
            stands = stands;
            looks = looks;
            told = x.told;
            here = x.here;
          }))

          on : IsOpen x.calls → p.answered ≡ false → ParserIn unread q x.calls ⊎ (GivenSince q ⊎ MetThere)
              → Amid q ⊎ MetThere
          on is none (inl stands) = still stands (inl (sees.answered ∙ none))
          on is none (inr (inl y)) = inl (inl y)
          on is none (inr (inr met)) = inr met

          by : IsOpen x.calls ⊎ IsClosed x.calls → LooksNoMore p x.calls → Amid q ⊎ MetThere
          by (inr closed) looks = still (sees.calls.closed x.calls closed x.stands) (inr closed)
          by (inl is) (inr closed) = absurd (closed_open x.calls closed is)
          by (inl is) (inl none) =
              on is none
              (shows_to p q r x.given x.calls x.between x.lead x.reached is same memory
              (shown p q r x.calls x.reached is x.stands first sees source))

      -- ---- recovery tells again

      -- it is the machine's, behind calls that gave something or not
      pub record RecoversOn (q : Parsing I) : Type 0 where
        pub given : Bool
        pub calls : Calls
        pub between : CallsBetween o c given calls
        pub looked : Bool
        pub stops : Stops
        pub fits : calls.refusal ≡ None → FitBehind ComesOnward o stops (looked_at o looked calls)
        pub last : Calls
        pub tells : recover o stops looked calls ≡ (Ok true, last)
        pub reached : ReachedByCalls o last
        pub stands : ParserIn unread q last
        pub asks : Told → (given || looked) ≡ true
        pub here : given ≡ false → calls ≡ c

      leads : (p q : Parsing I) (given : Bool) (d : Calls) → CallsBetween o c given d → CallsOn o c d
          → ReachedByCalls o d → SameSettings q
          → ((stops : Stops) → FitLooked o stops (is_some p.peeked) d)
          → (Told → (given || is_some p.peeked) ≡ true) → (given ≡ false → d ≡ c)
          → Proceeds unread (Ok true) p q d → RecoversOn q ⊎ MetThere
      leads p q given d before lead reached same fit asks here (inl (inl x)) =
          let tells : recover o x.0 (is_some p.peeked) d ≡ (Ok true, x.2) =
          subst (λ (k : OptionsData). recover k x.0 (is_some p.peeked) d ≡ (Ok true, x.2)) same.options x.3 in
          let cursor = p.stepper.scanner.cursor in
          let stops = subst (λ (k : OptionsData). StopsIn unread cursor k x.0 d) same.options x.1 in
          inl (record {
            given = given;
            calls = d;
            between = before;
            looked = is_some p.peeked;
            stops = x.0;
            fits = λ refusal. fit x.0 (fit_there o x.0 unread cursor d stops refusal);
            last = x.2;
            tells = tells;
            reached = subst (λ (y : Result Bool Fault × Calls). ReachedByCalls o y.1) tells
                (reached_recovery x.0 (is_some p.peeked) reached);
            stands = x.4;
            asks = asks;
            here = here;
          })
      leads p q given d before lead reached same fit asks here (inl (inr x)) =
          absurd (let e : ◌≡◌ {A = Result Bool Refused} (Ok true) (Ok false) = x.1 in cc)
      leads p q given d before lead reached same fit asks here (inr x) = inr (record {
        calls = d;
        lead = lead;
        meets = subst (λ (k : OptionsData). MeetsNumber b k d.steps) same.options
            (subst (λ (v : Bool). MeetsNumber v q.stepper.scanner.options d.steps) same.renumbered x);
      })

      -- no look comes first
      leads_known : (p q : Parsing I) → GivenSince p → SameSettings p → SameSettings q
          → ProceedsTo unread origin p (Ok true) q
          → RecoversOn q ⊎ MetThere
      leads_known p q x first same tells =
          by (tells.known x.calls
          (subst (λ (k : OptionsData). ReachedByCalls k x.calls) (sym first.options) x.reached) x.stands x.looks)
        where
          asks : Told → (x.given || is_some p.peeked) ≡ true
          asks t = ap (λ (v : Bool). v || is_some p.peeked) (x.told t)

          by : Proceeds unread (Ok true) p q x.calls ⊎ ⊥ → RecoversOn q ⊎ MetThere
          by (inl y) =
              leads p q x.given x.calls x.between x.lead x.reached same
              (λ stops. parser_fit o stops unread p x.calls first.options x.stands) asks x.here y
          by (inr never) = absurd never

      -- what was looked at first
      leads_shown : (p q : Parsing I) (r : Next) → p.peeked ≡ r → ReachedByCalls o c → IsOpen c → SameSettings p
          → SameSettings q
          → ProceedsShown unread r (Ok true) p q c → RecoversOn q ⊎ MetThere
      leads_shown p q None seen reached is first same shown = absurd shown
      leads_shown p q (Some (Ok x)) seen reached is first same shown =
          let looks : is_some p.peeked ≡ true = ap (λ (r : Next). is_some r) seen in
          let next = subst (λ (k : OptionsData). next_event k c.steps ≡ Ok (Some (plain_event x), shown.0.0))
          first.options shown.0.1 in
          leads p q false c nothing_given none_called reached same
          (λ stops. subst (λ (v : Bool). FitLooked o stops v c) (sym looks)
          (event_fit o stops c (plain_event x) shown.0.0 is next))
          (λ t. looks) (λ e. refl) shown.1
      leads_shown p q (Some (Err e)) seen reached is first same shown =
          by (failed_call c shown.0 e is (subst (λ (k : OptionsData). FailsAt b k shown.0 c e) first.options
          (subst (λ (v : Bool). FailsAt v p.stepper.scanner.options shown.0 c e) first.renumbered shown.1)))
        where
          by : (next_call o c ≡ (Some (Err e), failed_in shown.0 e c)) ⊎ MeetsNumber b o c.steps
              → RecoversOn q ⊎ MetThere
          by (inl call) =
              let d : Calls = failed_in shown.0 e c in
              leads p q true d (fault_given o.keep_tags nothing_given call)
              (lead_by o c c d (Some (Err e)) none_called call) (reached_by o c d (Some (Err e)) reached call) same
              (λ stops. closed_fit o stops (is_some p.peeked) d (fault_closed d e refl)) (λ t. refl)
              (λ e. absurd (cc)) shown.2
          by (inr met) = inr (record { calls = c; lead = none_called; meets = met })

      leads_next : (p q : Parsing I) → NothingSince p → SameSettings p → SameSettings q
          → ProceedsTo unread origin p (Ok true) q
          → RecoversOn q ⊎ MetThere
      leads_next p q x first same tells =
          by (tells.next c (subst (λ (k : OptionsData). ReachedByCalls k c) (sym first.options) x.reached) x.stands
          x.answered x.is_open)
        where
          by : ProceedsNext unread (Ok true) p q c ⊎ ⊥ → RecoversOn q ⊎ MetThere
          by (inl (inl y)) =
              leads_shown y.0 q y.0.peeked refl x.reached x.is_open
              (record { options = y.2 ∙ first.options; renumbered = y.3 ∙ first.renumbered }) same y.4
          by (inl (inr y)) = inr (record {
            calls = c;
            lead = none_called;
            meets = subst (λ (k : OptionsData). MeetsNumber b k c.steps) same.options
                (subst (λ (v : Bool). MeetsNumber v q.stepper.scanner.options c.steps) same.renumbered y);
          })
          by (inr never) = absurd never

      leads_on : (p q : Parsing I) → Amid p → SameSettings p → SameSettings q
          → ProceedsTo unread origin p (Ok true) q → RecoversOn q ⊎ MetThere
      leads_on p q (inl x) first same tells = leads_known p q x first same tells
      leads_on p q (inr x) first same tells = leads_next p q x first same tells

      -- ---- events, and then recovery

      -- or a call wanted memory
      abbrev Between : Parsing I → Type 0
      Between p = Amid p ⊎ IsStarved p

      taken_on : (p q : Parsing I) (r : Next) → Amid p → SameSettings p → SameSettings q
          → TakesEvent unread origin p r q → (TellsSource origin r q.stepper.scanner.cursor → ⊥)
          → Between q ⊎ MetThere
      taken_on p q r x first same takes source = by x (memory_in r)
        where
          on : Amid q ⊎ MetThere → Between q ⊎ MetThere
          on (inl y) = inl (inl y)
          on (inr met) = inr met

          starved : WantsMemory r → (d : Calls) → ParserIn unread p d → IsOpen d → Between q ⊎ MetThere
          starved wants d stands is =
              inl (inr (taken_starved unread origin p q r d (open_seen unread p d is stands) wants takes))

          by_calls : WantsMemory r → (y : GivenSince p) → IsOpen y.calls ⊎ IsClosed y.calls → Between q ⊎ MetThere
          by_calls wants y (inl is) = starved wants y.calls y.stands is
          by_calls wants y (inr closed) =
              inl (inl (inl (stays_closed q y closed (takes.closed y.calls closed y.stands))))

          by : Amid p → HasMemory r ⊎ WantsMemory r → Between q ⊎ MetThere
          by y (inl memory) = on (taken p q r y first same takes memory source)
          by (inl y) (inr wants) = by_calls wants y (open_or_closed y.calls)
          by (inr y) (inr wants) = starved wants c y.stands y.is_open

      seen_on : (p q : Parsing I) (r : Next) → Amid p → SameSettings p → SameSettings q
          → SeesEvent unread origin p r q → (origin q.stepper.scanner.cursor.input).error ≡ None
          → Between q ⊎ MetThere
      seen_on p q r x first same sees source = by x (memory_in r)
        where
          on : Amid q ⊎ MetThere → Between q ⊎ MetThere
          on (inl y) = inl (inl y)
          on (inr met) = inr met

          starved : WantsMemory r → (d : Calls) → ParserIn unread p d → IsOpen d → Between q ⊎ MetThere
          starved wants d stands is =
              inl (inr (seen_starved unread origin p q r d (open_seen unread p d is stands) wants sees))

          by_calls : WantsMemory r → (y : GivenSince p) → IsOpen y.calls ⊎ IsClosed y.calls → Between q ⊎ MetThere
          by_calls wants y (inl is) = starved wants y.calls y.stands is
          by_calls wants y (inr closed) =
              inl (inl (inl (stays_closed q y closed (sees.calls.closed y.calls closed y.stands))))

          by : Amid p → HasMemory r ⊎ WantsMemory r → Between q ⊎ MetThere
          by y (inl memory) = on (seen p q r y first same sees memory source)
          by (inl y) (inr wants) = by_calls wants y (open_or_closed y.calls)
          by (inr y) (inr wants) = starved wants c y.stands y.is_open

      all_taken : (p q : Parsing I) → Amid p → SameSettings p → EventsTaken unread origin p q → Between q ⊎ MetThere
      all_taken p q x same no_event_taken = inl (inl x)
      all_taken p q x same (one_taken {mid = mid} r before takes source) =
          let between = all_same p mid same before in by between (all_taken p mid x same before)
        where
          by : SameSettings mid → Between mid ⊎ MetThere → Between q ⊎ MetThere
          by between (inl (inl y)) = taken_on mid q r y between (same_on mid q r between takes) takes source
          by between (inl (inr y)) = inl (inr (starved_taken unread origin mid q r y takes))
          by between (inr met) = inr met
      all_taken p q x same (one_seen {mid = mid} r before sees source) =
          let between = all_same p mid same before in by between (all_taken p mid x same before)
        where
          by : SameSettings mid → Between mid ⊎ MetThere → Between q ⊎ MetThere
          by between (inl (inl y)) = seen_on mid q r y between (same_seen mid q r between sees) sees source
          by between (inl (inr y)) = inl (inr (starved_seen unread origin mid q r y sees))
          by between (inr met) = inr met

      behind : (p q : Parsing I) → Amid p → SameSettings p → ProceedsBehind unread origin p q → RecoversOn q ⊎ MetThere
      behind p q x same proceeds =
          by (all_taken p proceeds.parser x same proceeds.taken) (all_same p proceeds.parser same proceeds.taken)
        where
          by : Between proceeds.parser ⊎ MetThere → SameSettings proceeds.parser → RecoversOn q ⊎ MetThere
          by (inl (inl y)) between =
              leads_on proceeds.parser q y between (tells_same proceeds.parser q between proceeds.tells) proceeds.tells
          by (inl (inr y)) between = absurd (never_tells unread origin proceeds.parser q y proceeds.tells)
          by (inr met) between = inr met

    -- ---- where recovery told of a document, less is left

    abbrev pub AskedThere : Parsing I → Calls → Type 0
    AskedThere p c = (p.answered ≡ true) × IsOpen c

    start_amid : (p : Parsing I) (c : Calls) → ReachedByCalls o c → ParserIn unread p c → Amid c (AskedThere p c) p
    start_amid p c reached stands = by p.answered refl (open_or_closed c)
      where
        still : LooksNoMore p c → (AskedThere p c → ⊥) → Amid c (AskedThere p c) p
        still looks none = inl (record {
          given = false;
          calls = c;
          between = nothing_given;
          lead = none_called;
          reached = reached;
          stands = stands;
          looks = looks;
          told = λ t. absurd (none t);
          here = λ e. refl;
        })

        by : (v : Bool) → p.answered ≡ v → IsOpen c ⊎ IsClosed c → Amid c (AskedThere p c) p
        by v is (inr closed) = still (inr closed) (λ t. closed_open c closed t.1)
        by false is (inl goes) = still (inl is) (λ t. let e : true ≡ false = sym t.0 ∙ is in cc)
        by true is (inl goes) =
            inr (record { reached = reached; stands = stands; answered = is; is_open = goes })

    pub leads_amid : (p q : Parsing I) (c : Calls) → ReachedByCalls o c → ParserIn unread p c → SameSettings p
        → ProceedsBehind unread origin p q → RecoversOn c (AskedThere p c) q ⊎ NumberMetBehind b o c
    leads_amid p q c reached stands same proceeds =
        behind c (AskedThere p c) p q (start_amid p c reached stands) same proceeds

    -- where it leads recovery told of a document
    pub tells_there : (p q : Parsing I) (c : Calls) (x : RecoversOn c (AskedThere p c) q) → SameSettings q
        → ProceedsBehind unread origin p q → ToldIn unread q x.last
    tells_there p q c x same proceeds =
        let t = told o x.stops x.looked x.calls x.last x.tells in
        record {
          reached = subst (λ (k : OptionsData). ReachedByCalls k x.last) (sym same.options) x.reached;
          stands = x.stands;
          resumes = t.is ∙ ap resumed (sym (ap (λ (y : Calls). y.steps) t.is));
          answered = proceeds.tells.answered;
        }

    pub once_of : (p q : Parsing I) (c : Calls) (x : RecoversOn c (AskedThere p c) q) → (x.given || x.looked) ≡ true
        → TellsOnce o c x.last
    once_of p q c x asks = record {
      keep = o.keep_tags;
      stops = x.stops;
      looked = x.looked;
      given = x.given;
      calls = x.calls;
      between = x.between;
      asks = asks;
      fits = x.fits;
      tells = x.tells;
    }

    pub open_resumed : (c : Calls) → c ≡ resumed c.steps → IsOpen c
    open_resumed c e = record {
      over = ap (λ (d : Calls). d.over) e;
      fault = ap (λ (d : Calls). d.fault) e;
      refusal = ap (λ (d : Calls). d.refusal) e;
    }
