use Rattle.std.proofs.Common.{Result, Ok, Err, IfOk}
use Rattle.granit_iterators.proofs.read_items.Goals as goal

ok_on : {A E : Type 0} (r : Result A E) (P Q : A → Type 0) → ((a : A) → P a → Q a) → IfOk r P → IfOk r Q
ok_on (Ok a) P Q on holds = on a holds
ok_on (Err e) P Q on holds = tt

pub returns-clause-read : goal.returns-clause-read
returns-clause-read c =
    ok_on c.new.result _ _ (λ s known. known c.args.list.items c.items.ensures.gives) c.new.ensures.read

pub returns-clause-ends : goal.returns-clause-ends
returns-clause-ends c =
    ok_on c.new.result _ _ (λ s known. known c.args.list.items c.items.ensures.gives) c.new.ensures.ends
