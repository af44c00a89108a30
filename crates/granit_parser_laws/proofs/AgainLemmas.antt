-- Calls that tell of a document, one behind another, come to an end.
use Rattle.std.proofs.Common.{◌≡◌, ◌⊎◌, inl, inr, ℕ, zero, suc, ◌+◌, ◌*◌, ◌<◌, ◌≤◌, Bool, true, false, ◌||◌}
use Rattle.std.proofs.Common.{None, refl, sym, ap, subst, ◌∙◌, arith}
use Rattle.granit_parser.proofs.InLemmas.{reached_led}
use Rattle.granit_base.specs.Place.{Unread}
use Rattle.granit_parser.proofs.InLemmas.{once_less}
use Rattle.granit_parser.proofs.InLemmas.{leaves_most}
use Rattle.granit_parser.proofs.AloneLemmas.{told}
use Rattle.granit_parser.specs.Recovering.{state_left, TellsOnce}
use Rattle.granit_error.specs.OptionsData.{OptionsData}
use Rattle.granit_input.specs.Origin.{Origin}
use Rattle.granit_parser.specs.Parsing.{Parsing}
use Rattle.granit_parser.specs.Recovering.{ParserIn}
use Rattle.granit_parser_laws.proofs.LeadLemmas as calling
use Rattle.granit_parser_laws.proofs.LeadLemmas.{AskedThere, behind_same, RecoversOn, leads_amid, none_met, once_of}
use Rattle.granit_parser_laws.proofs.LeadLemmas.{open_resumed, tells_there}
use Rattle.granit_parser_laws.specs.Again.{no_proceeding, number_here, number_later, NumberMet, NumberMetBehind}
use Rattle.granit_parser_laws.specs.Again.{one_proceeding, ProceedingChain, ProceedsBehind, TellsAgain, ToldIn}
use Rattle.granit_lexemes.specs.Here.{Here, text_len}
use Rattle.granit_recovery.specs.Streams.{calls_from, ReachedByCalls, reached_start}
use Rattle.granit_restart.specs.Calls.{Calls, next_call}
use Rattle.granit_restart.specs.Recovery.{resumed}
use Rattle.granit_led.specs.Led.{Led}
use Rattle.granit_led.specs.Stopping.{looked_at}
use Rattle.granit_steps.specs.Steps.{start_from}

-- each open call that calls lead to gives something
abbrev OpenCallsGive : Type 0
OpenCallsGive = (o : OptionsData) (c : Calls) → ReachedByCalls o c → c.over ≡ false → c.fault ≡ None → c.refusal ≡ None
    → (next_call o c).0 ≡ None → ⊥

-- under these options, where a number was ever set or not
module _ (o : OptionsData) (b : Bool) {I : Type 0} (unread : I → Unread → Type 0) (origin : I → Origin) where
  abbrev SameSettings : Parsing I → Type 0
  SameSettings p = calling.SameSettings o b unread origin p

  abbrev RecoversBehind : (p q : Parsing I) → Calls → Type 0
  RecoversBehind p q c = RecoversOn o b unread origin c (AskedThere o b unread origin p c) q

  module _ (gives : OpenCallsGive) where
    less_by : (p q : Parsing I) (c : Calls) → SameSettings p → ToldIn unread p c → ReachedByCalls o c
        → ProceedsBehind unread origin p q → TellsAgain unread q c ⊎ NumberMetBehind b o c
    less_by p q c same there reached proceeds =
        by (leads_amid o b unread origin p q c reached there.stands same proceeds)
        (behind_same o b unread origin p q same proceeds)
      where
        by : RecoversBehind p q c ⊎ NumberMetBehind b o c → SameSettings q
            → TellsAgain unread q c ⊎ NumberMetBehind b o c
        by (inr met) last = inr met
        by (inl x) last =
            let asks = x.asks (there.answered, open_resumed o b unread origin c there.resumes) in
            let once = once_of o b unread origin p q c x asks in
            inl (record {
              calls = x.last;
              told = tells_there o b unread origin p q c x last proceeds;
              once = subst (λ (k : OptionsData). TellsOnce k c x.last) (sym last.options) once;
              less = once_less gives o c x.last reached there.resumes once;
            })

    -- ---- so many calls

    -- so many fewer are left
    record ToldFewer (n : ℕ) (c : Calls) (q : Parsing I) : Type 0 where
      calls : Calls
      told : ToldIn unread q calls
      fewer : n + state_left calls.steps ≤ state_left c.steps

    abbrev MetFrom : Parsing I → Calls → Type 0
    MetFrom p c = NumberMet unread origin p c

    meets_here : (p : Parsing I) (c : Calls) → SameSettings p → NumberMetBehind b o c → MetFrom p c
    meets_here p c same met =
        number_here (subst (λ (k : OptionsData). NumberMetBehind p.stepper.renumbered k c) (sym same.options)
        (subst (λ (v : Bool). NumberMetBehind v o c) (sym same.renumbered) met))

    chain_less : (n : ℕ) (p q : Parsing I) (c : Calls) → SameSettings p → ToldIn unread p c → ReachedByCalls o c
        → ProceedingChain unread origin n p q → ToldFewer n c q ⊎ MetFrom p c
    chain_less n p q c same there reached no_proceeding =
        inl (record { calls = c; told = there; fewer = omega arith })
    chain_less n p q c same there reached (one_proceeding {n = m} {mid = mid} proceeds more) =
        let between = behind_same o b unread origin p mid same proceeds in
        by between (λ d told_there reached_there. chain_less m mid q d between told_there reached_there more)
        (less_by p mid c same there reached proceeds)
      where
        on : (d : Calls) → ToldIn unread mid d → state_left d.steps < state_left c.steps
            → ToldFewer m d q ⊎ MetFrom mid d → ToldFewer (suc m) c q ⊎ MetFrom p c
        on d there less (inr met) = inr (number_later proceeds there met)
        on d there less (inl x) =
            let fewer = x.fewer in
            inl (record { calls = x.calls; told = x.told; fewer = omega (arith, fewer, less) })

        by : SameSettings mid
            → ((d : Calls) → ToldIn unread mid d → ReachedByCalls o d → ToldFewer m d q ⊎ MetFrom mid d)
            → TellsAgain unread mid c ⊎ NumberMetBehind b o c → ToldFewer (suc m) c q ⊎ MetFrom p c
        by between later (inr met) = inr (meets_here p c same met)
        by between later (inl x) =
            on x.calls x.told x.less (later x.calls x.told
            (subst (λ (k : OptionsData). ReachedByCalls k x.calls) between.options x.told.reached))

    -- the first that tells, wherever nothing is noted
    ask_fewer : (p q : Parsing I) (c : Calls) (x : RecoversBehind p q c) → ReachedByCalls o c → c ≡ resumed c.steps
        → state_left x.last.steps ≤ state_left c.steps
    ask_fewer p q c x reached resumes = by x.given x.looked refl refl
      where
        asked : (x.given || x.looked) ≡ true → state_left x.last.steps ≤ state_left c.steps
        asked asks =
            let less = once_less gives o c x.last reached resumes (once_of o b unread origin p q c x asks) in
            omega (arith, less)

        by : (given looked : Bool) → x.given ≡ given → x.looked ≡ looked
            → state_left x.last.steps ≤ state_left c.steps
        by true looked a e = asked (ap (λ (v : Bool). v || x.looked) a)
        by false true a e = asked (ap (λ (v : Bool). v || x.looked) a ∙ e)
        by false false a e =
            let same : looked_at o x.looked x.calls ≡ c = ap (λ (v : Bool). looked_at o v x.calls) e ∙ x.here a in
            let refusal : x.calls.refusal ≡ None =
            ap (λ (d : Calls). d.refusal) (x.here a) ∙ ap (λ (d : Calls). d.refusal) resumes in
            let most = leaves_most o x.stops (looked_at o x.looked x.calls) x.last
            (ap (λ (d : Calls). d.fault) same ∙ ap (λ (d : Calls). d.fault) resumes)
            (subst (λ (d : Calls). Led o d.steps) (sym same) (reached_led o c reached)) (x.fits refusal)
            (told o x.stops x.looked x.calls x.last x.tells) in
            subst (λ (d : Calls). state_left x.last.steps ≤ state_left d.steps) same most

    start_less : (n : ℕ) (p q : Parsing I) (c : Calls) → SameSettings p → ReachedByCalls o c → ParserIn unread p c
        → c ≡ resumed c.steps → ProceedingChain unread origin n p q → (n ≤ suc (state_left c.steps)) ⊎ MetFrom p c
    start_less n p q c same reached stands resumes no_proceeding = inl (omega arith)
    start_less n p q c same reached stands resumes (one_proceeding {n = m} {mid = mid} proceeds more) =
        by (leads_amid o b unread origin p mid c reached stands same proceeds)
        (behind_same o b unread origin p mid same proceeds)
      where
        on : (d : Calls) → ToldIn unread mid d → state_left d.steps ≤ state_left c.steps
            → ToldFewer m d q ⊎ MetFrom mid d → (suc m ≤ suc (state_left c.steps)) ⊎ MetFrom p c
        on d there most (inl x) = let fewer = x.fewer in inl (omega (arith, fewer, most))
        on d there most (inr met) = inr (number_later proceeds there met)

        by : RecoversBehind p mid c ⊎ NumberMetBehind b o c → SameSettings mid → (suc m ≤ suc (state_left c.steps))
            ⊎ MetFrom p c
        by (inr met) between = inr (meets_here p c same met)
        by (inl x) between =
            let there = tells_there o b unread origin p mid c x between proceeds in
            on x.last there (ask_fewer p mid c x reached resumes)
            (chain_less m mid q x.last between there x.reached more)

    -- ---- for ever

    module _ (f : ℕ → Parsing I) (all : (n : ℕ) → ProceedsBehind unread origin (f n) (f (suc n))) where
      record ChainOn (n k : ℕ) : Type 0 where
        last : Parsing I
        chain : ProceedingChain unread origin n (f k) last

      chain_on : (n k : ℕ) → ChainOn n k
      chain_on zero k = record { last = f k; chain = no_proceeding }
      chain_on (suc n) k =
          let more = chain_on n (suc k) in record { last = more.last; chain = one_proceeding (all k) more.chain }

      never_ends : (c : Calls) → SameSettings (f 0) → ReachedByCalls o c → ParserIn unread (f 0) c → MetFrom (f 0) c
      never_ends c same reached stands =
          by (leads_amid o b unread origin (f 0) (f 1) c reached stands same (all 0))
          (behind_same o b unread origin (f 0) (f 1) same (all 0))
        where
          on : (d : Calls) (n : ℕ) (q : Parsing I) → ToldIn unread (f 1) d → n ≡ suc (state_left d.steps)
              → ToldFewer n d q ⊎ MetFrom (f 1) d → MetFrom (f 0) c
          on d n q there e (inl x) = let fewer = x.fewer in absurd (omega (arith, e, fewer))
          on d n q there e (inr met) = number_later (all 0) there met

          by : RecoversBehind (f 0) (f 1) c ⊎ NumberMetBehind b o c → SameSettings (f 1) → MetFrom (f 0) c
          by (inr met) between = meets_here (f 0) c same met
          by (inl x) between =
              let there = tells_there o b unread origin (f 0) (f 1) c x between (all 0) in
              let more = chain_on (suc (state_left x.last.steps)) 1 in
              on x.last (suc (state_left x.last.steps)) more.last there refl
              (chain_less (suc (state_left x.last.steps)) (f 1) more.last x.last between there x.reached more.chain)

-- ---- the laws

module _ {I : Type 0} (unread : I → Unread → Type 0) (origin : I → Origin) where
  self : (p : Parsing I) → SameSettings p.stepper.scanner.options p.stepper.renumbered unread origin p
  self p = record { options = refl; renumbered = refl }

  pub number_law : (p : Parsing I) (c : Calls) → NumberMet unread origin p c → p.stepper.renumbered ≡ true
  number_law p c met = by p.stepper.renumbered refl
    where
      by : (v : Bool) → p.stepper.renumbered ≡ v → p.stepper.renumbered ≡ true
      by true is = is
      by false is =
          absurd (none_met p.stepper.scanner.options p.stepper.renumbered unread origin p c (self p) is met)

  pub told_law : (old new : Parsing I) (c : Calls) → ReachedByCalls old.stepper.scanner.options c
      → ParserIn unread old c → ProceedsBehind unread origin old new
      → ((d : Calls) × ToldIn unread new d) ⊎ NumberMetBehind old.stepper.renumbered old.stepper.scanner.options c
  told_law old new c reached stands proceeds =
      by (leads_amid o b unread origin old new c reached stands (self old) proceeds)
    where
      o : OptionsData
      o = old.stepper.scanner.options

      b : Bool
      b = old.stepper.renumbered

      by : RecoversBehind o b unread origin old new c ⊎ NumberMetBehind b o c
          → ((d : Calls) × ToldIn unread new d) ⊎ NumberMetBehind b o c
      by (inr met) = inr met
      by (inl x) =
          inl (
            x.last,
            tells_there o b unread origin old new c x
                (behind_same o b unread origin old new (self old) proceeds) proceeds,
          )

  module _ (gives : OpenCallsGive) where
    pub less_law : (old new : Parsing I) (c : Calls) → ToldIn unread old c → ProceedsBehind unread origin old new
        → TellsAgain unread new c ⊎ NumberMetBehind old.stepper.renumbered old.stepper.scanner.options c
    less_law old new c there proceeds =
        less_by old.stepper.scanner.options old.stepper.renumbered unread origin gives old new c (self old) there
        there.reached proceeds

    pub left_law : (n : ℕ) (old new : Parsing I) (c : Calls) → ToldIn unread old c
        → ProceedingChain unread origin n old new
        → ((d : Calls) × ToldIn unread new d × (n + state_left d.steps ≤ state_left c.steps))
        ⊎ NumberMet unread origin old c
    left_law n old new c there chain =
        by (chain_less old.stepper.scanner.options old.stepper.renumbered unread origin gives n old new c (self old)
        there there.reached chain)
      where
        by : ToldFewer old.stepper.scanner.options old.stepper.renumbered unread origin gives n c new
            ⊎ NumberMet unread origin old c
            → ((d : Calls) × ToldIn unread new d × (n + state_left d.steps ≤ state_left c.steps))
            ⊎ NumberMet unread origin old c
        by (inl x) = inl (x.calls, x.told, x.fewer)
        by (inr met) = inr met

    pub start_law : (n : ℕ) (h : Here) (old new : Parsing I) → ParserIn unread old (calls_from h)
        → old.stepper.renumbered ≡ false → ProceedingChain unread origin n old new → n ≤ 9 * text_len h + 12
    start_law n h old new stands is chain =
        by (start_less old.stepper.scanner.options old.stepper.renumbered unread origin gives n old new (calls_from h)
        (self old) (reached_start h) stands refl chain)
      where
        by : (n ≤ suc (state_left (start_from h))) ⊎ NumberMet unread origin old (calls_from h)
            → n ≤ 9 * text_len h + 12
        by (inl most) = omega (arith, most)
        by (inr met) =
            absurd (none_met old.stepper.scanner.options old.stepper.renumbered unread origin old (calls_from h)
            (self old) is met)

    pub met_law : (f : ℕ → Parsing I) (c : Calls) → ReachedByCalls (f 0).stepper.scanner.options c
        → ParserIn unread (f 0) c → ((n : ℕ) → ProceedsBehind unread origin (f n) (f (suc n)))
        → NumberMet unread origin (f 0) c
    met_law f c reached stands all =
        never_ends (f 0).stepper.scanner.options (f 0).stepper.renumbered unread origin gives f all c (self (f 0))
        reached stands

    pub ends_law : (f : ℕ → Parsing I) (c : Calls) → ReachedByCalls (f 0).stepper.scanner.options c
        → ParserIn unread (f 0) c → (f 0).stepper.renumbered ≡ false
        → ((n : ℕ) → ProceedsBehind unread origin (f n) (f (suc n))) → ⊥
    ends_law f c reached stands is all =
        none_met (f 0).stepper.scanner.options (f 0).stepper.renumbered unread origin (f 0) c (self (f 0)) is
        (met_law f c reached stands all)
