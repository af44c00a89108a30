-- One cause at most has a list of lexemes, and it is the answer.
use Rattle.std.proofs.Common.{◌≡◌, List, [], ◌∷◌, ◌++◌, refl, sym, ap, ap₂, ◌∙◌, subst, Some, None, append_assoc}
use Rattle.std.proofs.Common.{inl, inr}
use Rattle.std.specs.Prelude.{◌⊎◌}
use Rattle.granit_error.specs.OptionsData.{OptionsData}
use Rattle.granit_event_machine.specs.EventMachine.{EventAnswer, Events, Faulty, Unfinished}
use Rattle.granit_event_machine.specs.Guarded.{whole_run}
use Rattle.granit_language.proofs.Scopes.{scoped_append}
use Rattle.granit_language.specs.Faults.{IsSpelled, FaultAt}
use Rattle.granit_language.specs.GrammarFault.{GrammarFault, TooManyBlocks}
use Rattle.granit_language.specs.Scope.{Scope, no_scope}
use Rattle.granit_language.specs.Scoping.{next_scope, scope_behind, in_scope, scoped, scope_fault, Means}
use Rattle.granit_language.specs.Terminal.{TerminalKind, Terminal}
use Rattle.granit_language.specs.Whole.{BeginsWithin, Viable, LexemeCause, not_taken, too_many, means_nothing}
use Rattle.granit_language.specs.Whole.{WholeFault}
use Rattle.granit_whole.proofs.Beginning.{begins_one}
use Rattle.granit_event_machine.proofs.Guards.{NotFaulty}
use Rattle.granit_whole.proofs.OneFault.{Splits, alike_split, longer, shorter, compare, one_fault}
use Rattle.granit_whole.proofs.Undeclared.{cause_means_nothing}
use Rattle.granit_whole.proofs.Wholes.{whole_viable, whole_faults}

-- ---- a cause and what goes on

spelled_within : (n : _) (xs : List Terminal) → BeginsWithin n xs → IsSpelled xs
spelled_within n xs w = (w.0, w.1, w.2)

-- no stream goes on with lexemes that the grammar refuses
refused_so : (xs more : List Terminal) (k : GrammarFault) (x : Terminal) → FaultAt xs k x → IsSpelled (xs ++ more) → ⊥
refused_so xs more k x f s =
    f.unread (f.rest ++ more)
    (subst IsSpelled (ap (λ xs. xs ++ more) f.is ∙ append_assoc f.front (x ∷ f.rest) more) s)

one_more_refused :
    (xs more : List Terminal) (k : GrammarFault) (x : Terminal) → FaultAt (xs ++ (x ∷ [])) k x →
    IsSpelled (xs ++ (x ∷ more)) → ⊥
one_more_refused xs more k x f s =
    refused_so (xs ++ (x ∷ [])) more k x f (subst IsSpelled (sym (append_assoc xs (x ∷ []) more)) s)

means_there :
    (o : OptionsData) (s : Scope) (front : List Terminal) (here : Terminal) (rest : List Terminal) →
    Means o (scoped s (front ++ (here ∷ rest))) → scope_fault o here.kind (scope_behind front s) ≡ None
means_there o s [] here rest m = m.0
means_there o s (x ∷ front) here rest m = means_there o (next_scope x.kind s) front here rest m.1

module _ (o : OptionsData) (front : List Terminal) (here : Terminal) where
  abbrev There : Terminal
  There = in_scope (scope_behind front no_scope) here

  -- the lexemes of a list that begins so
  joined :
      (rest more : List Terminal) →
      scoped no_scope (front ++ (here ∷ rest)) ++ more
      ≡ scoped no_scope front ++ (There ∷ (scoped (next_scope here.kind (scope_behind front no_scope)) rest ++ more))
  joined rest more =
      ap (λ l. l ++ more) (scoped_append no_scope front (here ∷ rest))
      ∙ append_assoc (scoped no_scope front)
      (There ∷ scoped (next_scope here.kind (scope_behind front no_scope)) rest) more

  -- with a cause no reading goes on
  blocks :
      (rest : List Terminal) (k : GrammarFault) → LexemeCause o front here.kind There k →
      Viable o (front ++ (here ∷ rest)) → ⊥
  blocks rest k (not_taken f) v =
      one_more_refused (scoped no_scope front) (scoped (next_scope here.kind
      (scope_behind front no_scope)) rest ++ v.more)
      k There f
      (subst IsSpelled (joined rest v.more) (spelled_within _ (scoped no_scope (front ++
      (here ∷ rest)) ++ v.more) v.within))
  blocks rest k (too_many more s none b) v =
      none (scoped (next_scope here.kind (scope_behind front no_scope)) rest ++ v.more)
      (subst (BeginsWithin o.block_nesting_limit) (joined rest v.more) v.within)
  blocks rest k (means_nothing more w c) v =
      let a = cause_means_nothing o front here.kind k c in
      let b = means_there o no_scope front here rest v.means in
      cc (a, b)

some_same : (k j : GrammarFault) → Some k ≡ Some j → k ≡ j
some_same k j e = cc (e)

cause_one :
    (o : OptionsData) (front : List Terminal) (kind : TerminalKind) (x : Terminal) (k j : GrammarFault) →
    LexemeCause o front kind x k → LexemeCause o front kind x j → k ≡ j
cause_one o front kind x k j (not_taken f) (not_taken g) = (one_fault (scoped no_scope front ++ (x ∷ [])) k j x x f g).0
cause_one o front kind x k j (not_taken f) (too_many more s none b) =
    absurd (one_more_refused (scoped no_scope front) more k x f s)
cause_one o front kind x k j (not_taken f) (means_nothing more w c) =
    absurd (one_more_refused (scoped no_scope front) more k x f (spelled_within _ (scoped no_scope front ++
    (x ∷ more)) w))
cause_one o front kind x k j (too_many more s none b) (not_taken g) =
    absurd (one_more_refused (scoped no_scope front) more j x g s)
cause_one o front kind x k j (too_many {indentless = a} more s none b) (too_many {indentless = d} rest t never c) =
    ap TooManyBlocks (begins_one (scoped no_scope front ++ (x ∷ [])) kind a d b c)
cause_one o front kind x k j (too_many more s none b) (means_nothing rest w c) = absurd (none rest w)
cause_one o front kind x k j (means_nothing more w c) (not_taken g) =
    absurd (one_more_refused (scoped no_scope front) more j x g (spelled_within _ (scoped no_scope front ++
    (x ∷ more)) w))
cause_one o front kind x k j (means_nothing more w c) (too_many rest s none b) = absurd (none more w)
cause_one o front kind x k j (means_nothing more w c) (means_nothing rest v d) =
    some_same k j
    (sym (cause_means_nothing o front kind k c)
    ∙ cause_means_nothing o front kind j d)

-- ---- whole lists

same_front :
    (o : OptionsData) (xs : List Terminal) (k j : GrammarFault) (x y : Terminal) (f : WholeFault o xs k x)
    (g : WholeFault o xs j y) → f.front ≡ g.front → f.here ≡ g.here → (k ≡ j) × (x ≡ y)
same_front o xs k j x y f g e h =
    let same : x ≡ y =
    f.x_is ∙ (ap₂ (λ front here. in_scope (scope_behind front no_scope) here) e h ∙ sym g.x_is) in (
      cause_one o g.front g.here.kind y k j
          (subst (λ x. LexemeCause o g.front g.here.kind x k) same
          (subst (λ (here : Terminal). LexemeCause o g.front here.kind x k) h
          (subst (λ front. LexemeCause o front f.here.kind x k) e f.cause)))
          g.cause,
      same,
    )

goes_past :
    (o : OptionsData) (xs : List Terminal) (k : GrammarFault) (x : Terminal) (f : WholeFault o xs k x)
    (front z : List Terminal) → front ≡ f.front ++ (f.here ∷ z) → Viable o front → ⊥
goes_past o xs k x f front z e v =
    blocks o f.front f.here z k (subst (λ x. LexemeCause o f.front f.here.kind x k) f.x_is f.cause) (subst
    (Viable o) e v)

split_whole :
    (o : OptionsData) (xs : List Terminal) (k j : GrammarFault) (x y : Terminal) (f : WholeFault o xs k x)
    (g : WholeFault o xs j y) → Splits f.front g.front f.here g.here → (k ≡ j) × (x ≡ y)
split_whole o xs k j x y f g (alike_split e h) = same_front o xs k j x y f g e h
split_whole o xs k j x y f g (longer z e) = absurd (goes_past o xs k x f g.front z e g.viable)
split_whole o xs k j x y f g (shorter z e) = absurd (goes_past o xs j y g f.front z e f.viable)

pub one_whole_fault :
    (o : OptionsData) (xs : List Terminal) (k j : GrammarFault) (x y : Terminal) → WholeFault o xs k x →
    WholeFault o xs j y → (k ≡ j) × (x ≡ y)
one_whole_fault o xs k j x y f g =
    split_whole o xs k j x y f g (compare f.front g.front f.here g.here f.rest g.rest (sym f.is ∙ g.is))

pub viable_blocked :
    (o : OptionsData) (xs : List Terminal) (k : GrammarFault) (x : Terminal) → WholeFault o xs k x → Viable o xs → ⊥
viable_blocked o xs k x f v = goes_past o xs k x f xs f.rest f.is v

told_by :
    (o : OptionsData) (xs : List Terminal) (k : GrammarFault) (x : Terminal) (a : EventAnswer) → whole_run o xs ≡ a →
    WholeFault o xs k x → a ≡ Faulty k x
told_by o xs k x (Faulty j y) e f =
    let h = one_whole_fault o xs k j x y f (whole_faults o xs j y e) in ap₂ Faulty (sym h.0) (sym h.1)
told_by o xs k x (Events es) e f =
    absurd (viable_blocked o xs k x f (whole_viable o xs (subst NotFaulty (sym e) tt)))
told_by o xs k x Unfinished e f =
    absurd (viable_blocked o xs k x f (whole_viable o xs (subst NotFaulty (sym e) tt)))

pub whole_faults_told :
    (o : OptionsData) (xs : List Terminal) (k : GrammarFault) (x : Terminal) → WholeFault o xs k x →
    whole_run o xs ≡ Faulty k x
whole_faults_told o xs k x f = told_by o xs k x (whole_run o xs) refl f

by_answer :
    (o : OptionsData) (xs : List Terminal) (a : EventAnswer) → whole_run o xs ≡ a →
    Viable o xs ⊎ ((k : GrammarFault) × (x : Terminal) × WholeFault o xs k x)
by_answer o xs (Faulty k x) e = inr (k, x, whole_faults o xs k x e)
by_answer o xs (Events es) e = inl (whole_viable o xs (subst NotFaulty (sym e) tt))
by_answer o xs Unfinished e = inl (whole_viable o xs (subst NotFaulty (sym e) tt))

pub viable_or_fault :
    (o : OptionsData) (xs : List Terminal) → Viable o xs ⊎ ((k : GrammarFault) × (x : Terminal) × WholeFault o xs k x)
viable_or_fault o xs = by_answer o xs (whole_run o xs) refl
