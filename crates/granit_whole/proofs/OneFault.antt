-- A list has one fault at most.
use Rattle.std.proofs.Common.{◌≡◌, List, [], ◌∷◌, ◌++◌, refl, sym, ap, ap₂, ◌∙◌, subst}
use Rattle.granit_event_machine.specs.EventMachine.{EventAnswer, Events, Faulty, Unfinished, run_events}
use Rattle.granit_grammar.specs.TreeMachine.{NextPlace, Go, NotTaken, tree_step, tree_goes, parse, tree_start}
use Rattle.granit_language.specs.FaultKinds.{fault_kind_at}
use Rattle.granit_language.specs.Faults.{IsSpelled, FaultAt}
use Rattle.granit_language.specs.GrammarFault.{GrammarFault}
use Rattle.granit_language.specs.Settling.{settle_place}
use Rattle.granit_language.specs.Terminal.{TheEnd, At, Terminal, terminal, no_terminal}
use Rattle.std.proofs.Common.{append_assoc}
use Rattle.granit_grammar.proofs.Placing.{close_placed, take_placed, NextPlaced}
use Rattle.granit_grammar.proofs.Leading.{leads_to, one_open}
use Rattle.granit_whole.proofs.Viable.{completes}
use Rattle.granit_whole.proofs.Prefixes.{NextOpen, step_open, whole, events_are, faults_are, never_unfinished}

-- two ways to split a list
pub data Splits (f g : List Terminal) (x y : Terminal) : Type 0 where
  alike_split : f ≡ g → x ≡ y → Splits f g x y
  longer : (z : List Terminal) → g ≡ f ++ (x ∷ z) → Splits f g x y
  shorter : (z : List Terminal) → f ≡ g ++ (y ∷ z) → Splits f g x y

one_more : (a b : Terminal) (f g : List Terminal) (x y : Terminal) → a ≡ b → Splits f g x y → Splits (a ∷ f) (b ∷ g) x y
one_more a b f g x y e (alike_split h i) = alike_split (ap₂ (λ a f. a ∷ f) e h) i
one_more a b f g x y e (longer z h) = longer z (ap₂ (λ a f. a ∷ f) (sym e) h)
one_more a b f g x y e (shorter z h) = shorter z (ap₂ (λ a f. a ∷ f) e h)

pub compare : (f g : List Terminal) (x y : Terminal) (r s : List Terminal) → f ++ (x ∷ r) ≡ g ++ (y ∷ s)
    → Splits f g x y
compare [] [] x y r s e = alike_split refl (cc (e))
compare [] (b ∷ g) x y r s e = let h : b ≡ x = cc (e) in longer g (ap (λ b. b ∷ g) h)
compare (a ∷ f) [] x y r s e = let h : a ≡ y = cc (e) in shorter f (ap (λ a. a ∷ f) h)
compare (a ∷ f) (b ∷ g) x y r s e =
    let h : a ≡ b = cc (e)
    in let i : f ++ (x ∷ r) ≡ g ++ (y ∷ s) = cc (e) in one_more a b f g x y h (compare f g x y r s i)

-- a stream can't begin with what no stream begins with
no_longer :
    (f g : List Terminal) (x : Terminal) (z : List Terminal) → g ≡ f ++ (x ∷ z) →
    ((more : List Terminal) → IsSpelled (f ++ (x ∷ more)) → ⊥) → (more : List Terminal) × IsSpelled (g ++ more) → ⊥
no_longer f g x z e h v = h (z ++ v.0) (subst IsSpelled (ap (λ g. g ++ v.0) e ∙ append_assoc f (x ∷ z) v.0) v.1)

-- the lexeme isn't admitted
refused_by :
    (xs : List Terminal) (k : GrammarFault) (x : Terminal) (f : FaultAt xs k x) (n : NextPlace) →
    tree_step f.place x ≡ n →
    n ≡ NotTaken
refused_by xs k x f NotTaken e = refl
refused_by xs k x f (Go q) e =
    let p = f.place in
    let i = subst NextOpen e (step_open p x f.is_open) in
    let g = subst NextPlaced e (take_placed (settle_place x p) x.kind x.at (close_placed x p f.placed)) in
    let c = completes q i (g no_terminal) in
    absurd
    (f.unread c.0
    (whole (f.front ++ (x ∷ c.0)) c.1.0
    (ap (λ ls. parse ls tree_start) (sym (f.cut (x ∷ c.0))) ∙ leads_to p x c.0 f.is_open f.placed
    ∙ ap (λ n. tree_goes n (settle_place x p) x (parse c.0)) e ∙ c.1.1)))

one_kind :
    (xs : List Terminal) (k j : GrammarFault) (x : Terminal) (f : FaultAt xs k x) (g : FaultAt xs j x) →
    f.front ≡ g.front → k ≡ j
one_kind xs k j x f g e =
    let same = one_open f.place g.place x f.is_open g.is_open f.placed g.placed
    (f.cut (x ∷ []) ∙ ap (λ ls. ls ++ (x ∷ [])) e ∙ sym (g.cut (x ∷ [])))
    (refused_by xs k x f (tree_step f.place x) refl) in
    let place : f.place ≡ g.place = sym f.settled ∙ same ∙ g.settled in
    f.kind_is ∙ ap (λ p. fault_kind_at p x.kind) place ∙ sym g.kind_is

split_faults :
    (xs : List Terminal) (k j : GrammarFault) (x y : Terminal) (f : FaultAt xs k x) (g : FaultAt xs j y) →
    Splits f.front g.front x y → (k ≡ j) × (x ≡ y)
split_faults xs k j x y f g (alike_split e h) =
    (subst (λ y. (g : FaultAt xs j y) → f.front ≡ g.front → k ≡ j) h (λ g e. one_kind xs k j x f g e) g e, h)
split_faults xs k j x y f g (longer z e) = absurd (no_longer f.front g.front x z e f.unread g.viable)
split_faults xs k j x y f g (shorter z e) = absurd (no_longer g.front f.front y z e g.unread f.viable)

pub one_fault :
    (xs : List Terminal) (k j : GrammarFault) (x y : Terminal) → FaultAt xs k x → FaultAt xs j y → (k ≡ j) × (x ≡ y)
one_fault xs k j x y f g = split_faults xs k j x y f g (compare f.front g.front x y f.rest g.rest (sym f.is ∙ g.is))

-- a list with a fault is no stream
pub no_both : (xs : List Terminal) (k : GrammarFault) (x : Terminal) → FaultAt xs k x → IsSpelled xs → ⊥
no_both xs k x f s = f.unread f.rest (subst IsSpelled f.is s)

-- so the event machine says each fault, where the list has its end
fault_run :
    (xs : List Terminal) (k : GrammarFault) (x : Terminal) (o : EventAnswer) → run_events xs ≡ o → FaultAt xs k x →
    (o ≡ Unfinished → ⊥) → o ≡ Faulty k x
fault_run xs k x (Events es) e f u = let s = events_are xs es e in absurd (no_both xs k x f (s.0, s.1, s.2))
fault_run xs k x (Faulty j y) e f u =
    let h = one_fault xs k j x y f (faults_are xs j y e) in ap₂ Faulty (sym h.0) (sym h.1)
fault_run xs k x Unfinished e f u = absurd (u refl)

pub faults_are_told :
    (xs : List Terminal) (i : At) (k : GrammarFault) (x : Terminal) → FaultAt (xs ++ (terminal TheEnd i ∷ [])) k x →
    run_events (xs ++ (terminal TheEnd i ∷ [])) ≡ Faulty k x
faults_are_told xs i k x f =
    fault_run (xs ++ (terminal TheEnd i ∷ [])) k x (run_events (xs ++ (terminal TheEnd i ∷ []))) refl f
    (never_unfinished xs i)
