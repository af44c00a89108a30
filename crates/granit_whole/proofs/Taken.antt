-- Lexemes that the event machine takes begin a stream.
use Rattle.std.proofs.Common.{◌≡◌, List, [], ◌∷◌, ◌++◌, refl, sym, ap, ◌∙◌, subst}
use Rattle.std.proofs.lemmas.List.{append-nil}
use Rattle.granit_event_machine.specs.EventMachine.{EventAnswer, Events, Faulty, Unfinished, run_events}
use Rattle.granit_grammar.specs.TreeMachine.{NextPlace, Go, NotTaken, take, tree_step, tree_start, TreeAnswer, ReadAs}
use Rattle.granit_grammar.specs.TreeMachine.{RefusedAt, Short, at_end, tree_goes, parse}
use Rattle.granit_language.specs.Faults.{IsSpelled}
use Rattle.granit_language.specs.OpenPlace.{OpenPlace, Ended, OpenPlaced, HasOneName}
use Rattle.granit_language.specs.Settling.{settle_place}
use Rattle.granit_language.specs.Terminal.{Terminal, no_terminal}
use Rattle.granit_event_machine.proofs.Agree.{Answers, machines_agree}
use Rattle.granit_grammar.proofs.Placing.{NextPlaced, take_placed, close_placed}
use Rattle.granit_whole.proofs.Prefixes.{NextOpen, step_open, whole}
use Rattle.granit_whole.proofs.Viable.{completes}
use Rattle.granit_event_machine.proofs.Guards.{NotFaulty}

-- A list that is parsed up to an open place.
pub record ComesTo (xs : List Terminal) (p q : OpenPlace) : Type 0 where
  pub is_open : HasOneName q
  pub placed : (y : Terminal) → OpenPlaced y q
  pub leads : (more : List Terminal) → parse (xs ++ more) p ≡ parse more q

short_same : (p q : OpenPlace) → at_end p ≡ Short q → p ≡ q
short_same (Ended s) q e = absurd cc
short_same p q e = cc (e)

goes_short :
    (n : NextPlace) (l : Terminal) (xs : List Terminal) (p q : OpenPlace) → take (settle_place l p) l.kind l.at ≡ n
    → NextOpen n →
    NextPlaced n →
    ((r : OpenPlace) → HasOneName r → ((y : Terminal) → OpenPlaced y r) → parse xs r ≡ Short q → ComesTo xs r q) →
    tree_goes n (settle_place l p) l (parse xs) ≡ Short q → ComesTo (l ∷ xs) p q
goes_short (Go r) l xs p q e i f ih h =
    let s = ih r i f h in
    record {
      is_open = s.is_open;
      placed = s.placed;
      leads = λ more. ap (λ n. tree_goes n (settle_place l p) l (parse (xs ++ more))) e ∙ s.leads more;
    }
goes_short NotTaken l xs p q e i f ih h = absurd cc

pub comes_to :
    (xs : List Terminal) (p q : OpenPlace) → HasOneName p → ((y : Terminal) → OpenPlaced y p) → parse xs p ≡ Short q →
    ComesTo xs p q
comes_to [] p q i f h =
    let same = short_same p q h in
    record {
      is_open = subst HasOneName same i;
      placed = λ y. subst (OpenPlaced y) same (f y);
      leads = λ more. ap (parse more) same;
    }
comes_to (l ∷ xs) p q i f h =
    goes_short (tree_step p l) l xs p q refl (step_open p l i)
    (take_placed (settle_place l p) l.kind l.at (close_placed l p (f l))) (λ r j g e. comes_to xs r q j g e) h

viable_by :
    (xs : List Terminal) (o : EventAnswer) (a : TreeAnswer) → parse xs tree_start ≡ a → NotFaulty o →
    Answers (λ more. more) o a → (more : List Terminal) × IsSpelled (xs ++ more)
viable_by xs o (ReadAs s) e n h = ([], subst IsSpelled (sym (append-nil xs)) (whole xs s e))
viable_by xs o (Short q) e n h =
    let t = comes_to xs tree_start q tt (λ y. tt) e in
    let c = completes q t.is_open (t.placed no_terminal) in
    (c.0, whole (xs ++ c.0) c.1.0 (t.leads c.0 ∙ c.1.1))
viable_by xs (Faulty k x) (RefusedAt q y) e n h = absurd n
viable_by xs (Events es) (RefusedAt q y) e n h = absurd h
viable_by xs Unfinished (RefusedAt q y) e n h = absurd h

pub taken_viable : (xs : List Terminal) → NotFaulty (run_events xs) → (more : List Terminal) × IsSpelled (xs ++ more)
taken_viable xs n = viable_by xs (run_events xs) (parse xs tree_start) refl n (machines_agree xs)
