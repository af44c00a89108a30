-- The whole machine's answers.
use Rattle.granit_language.specs.Faults.{IsSpelled, FaultAt}
use Rattle.granit_whole.proofs.Taken.{comes_to, taken_viable}
use Rattle.std.proofs.Common.{◌≡◌, ℕ, Bool, true, false, List, [], ◌∷◌, ◌++◌, length, codes, refl, sym, ap, ap₂, ◌∙◌}
use Rattle.std.proofs.Common.{subst, inl, inr, Option, Some, None, ◌==◌, nat_lt, append_assoc}
use Rattle.std.specs.Prelude.{◌⊎◌, if◌then◌else◌, nat_le}
use Rattle.granit_error.specs.OptionsData.{OptionsData}
use Rattle.granit_event_machine.specs.EventMachine.{EventState, IsFresh, EventAnswer, Events, Faulty, Unfinished}
use Rattle.granit_event_machine.specs.EventMachine.{events_before, run_events_from, run_events, outcome_at_end, IsEnded}
use Rattle.granit_event_machine.specs.Guarded.{guarded, Passes, first_fault, fault_unless, limit_fault, limit_guard}
use Rattle.granit_event_machine.specs.Guarded.{scope_guard, whole_guard, whole_run, state_count, is_loose, Guard}
use Rattle.granit_event_machine.specs.Passing.{GuardFault}
use Rattle.granit_grammar.specs.TreeMachine.{ReadAs, RefusedAt, Short, TreeAnswer, parse, tree_start}
use Rattle.granit_language.specs.GrammarFault.{GrammarFault, TooManyBlocks, UnknownAnchor, UndeclaredTagHandle}
use Rattle.granit_language.specs.GrammarFault.{UnsupportedYamlMajorVersion, DuplicateVersionDirective}
use Rattle.granit_language.specs.Node.{Stream}
use Rattle.granit_language.specs.Placed.{StreamPlaced}
use Rattle.granit_language.specs.Scope.{Scope, no_scope, entry_of}
use Rattle.granit_language.specs.Scoping.{next_scope, scope_behind, in_scope, scoped, prefix_by, number_of_anchor}
use Rattle.granit_language.specs.Scoping.{kept_of, or_kept}
use Rattle.granit_language.specs.Scoping.{fault_if_none, unless, alias_fault, version_fault, handle_fault, scope_fault}
use Rattle.granit_language.specs.Scoping.{Means}
use Rattle.granit_language.specs.Terminal.{Anchor, Tag, Alias, Property, Scalar, Open, TerminalKind, Directive, Part}
use Rattle.granit_language.specs.Terminal.{Terminal, text_start, At, TheEnd, terminal, no_terminal}
use Rattle.granit_language.specs.TreeEvents.{StreamStarts, TreeEvent, pointed}
use Rattle.granit_language.specs.Whole.{WholeReading, ScopeCause, no_anchor, no_handle, second_version, other_version}
use Rattle.granit_language.specs.Whole.{second_handle, BeginsWithin, Viable, BeginsBlock, LexemeCause, not_taken}
use Rattle.granit_language.specs.Whole.{too_many, means_nothing, WholeFault}
use Rattle.granit_language.specs.Within.{stream_within}
use Rattle.granit_language.specs.Yield.{spell_stream}
use Rattle.granit_lexemes.specs.Lexeme.{Version, TagPrefix, Reserved}
use Rattle.std.proofs.lemmas.List.{append-nil}
use Rattle.granit_event_machine.proofs.Agree.{Answers, machines_agree}
use Rattle.granit_whole.proofs.Beginning.{too_many_begin}
use Rattle.granit_grammar.proofs.Complete.{reads}
use Rattle.granit_whole.proofs.Completing.{completed_within}
use Rattle.granit_grammar.proofs.Placing.{Tells, one_cut}
use Rattle.granit_whole.proofs.Viable.{after_place, completed}
use Rattle.granit_whole.proofs.Prefixes.{events_are, streams_are_read, faults_are, never_unfinished}
use Rattle.granit_event_machine.proofs.Guards.{NotFaulty, drop_before, passes_front, passes_same, guarded_tells}
use Rattle.granit_event_machine.proofs.Guards.{TellsOf}
use Rattle.granit_grammar.proofs.Kept.{neither, never_kept}
use Rattle.granit_event_machine.proofs.Guards.{passes_first, passes_second, passes_both, means_passes, passes_means}
use Rattle.granit_event_machine.proofs.Limit.{from_zero, passes_within, within_passes}
use Rattle.granit_grammar.proofs.Declares.{not_named, declared_by, versioned_by, not_versioned, not_in_force}

abbrev pub Starts : EventAnswer → EventAnswer
Starts o = events_before (pointed StreamStarts text_start ∷ []) o

-- ---- streams

abbrev limit_of : OptionsData → ℕ
limit_of o = o.block_nesting_limit

stream_passes :
    (o : OptionsData) (xs : List Terminal) (s : Stream) → spell_stream s [] ≡ scoped no_scope xs → StreamPlaced s →
    stream_within (limit_of o) s ≡ true → Means o (scoped no_scope xs) →
    Passes (whole_guard o) (scoped no_scope xs) IsFresh
stream_passes o xs s e p w m =
    passes_both (limit_guard (limit_of o)) (scope_guard o) (scoped no_scope xs) IsFresh
    (within_passes (limit_of o) s w (scoped no_scope xs) tree_start tt refl (from_zero (limit_of o))
    (ap (λ ls. parse ls tree_start) (sym e) ∙ reads s p))
    (means_passes o (scoped no_scope xs) m IsFresh)

pub whole_streams :
    (o : OptionsData) (xs : List Terminal) (es : List TreeEvent) → WholeReading o xs es → whole_run o xs ≡ Events es
whole_streams o xs es r =
    ap Starts
    (passes_same (whole_guard o) (scoped no_scope xs) IsFresh
    (stream_passes o xs r.stream r.spelled r.placed r.within r.means))
    ∙ (ap run_events (sym r.spelled) ∙ (streams_are_read r.stream r.placed ∙ ap Events (sym r.events_are)))

-- ---- events

start_events :
    (o : EventAnswer) (es : List TreeEvent) → Starts o ≡ Events es → (more : List TreeEvent) × (o ≡ Events more)
start_events (Events more) es e = (more, refl)
start_events (Faulty k x) es e = absurd cc
start_events Unfinished es e = absurd cc

events_from :
    (o : OptionsData) (xs : List Terminal) (es more : List TreeEvent) (g : EventAnswer) → g ≡ Events more →
    TellsOf (whole_guard o) (scoped no_scope xs) IsFresh g → Starts g ≡ Events es →
    g ≡ guarded (whole_guard o) (scoped no_scope xs) IsFresh → WholeReading o xs es
events_from o xs es more (Events m) h p e same =
    let ran : run_events_from (scoped no_scope xs) IsFresh
    ≡ Events m = sym (passes_same (whole_guard o) (scoped no_scope xs) IsFresh p) ∙ sym same in
    let all : run_events (scoped no_scope xs) ≡ Events es = ap Starts ran ∙ e in
    let t = events_are (scoped no_scope xs) es all in
    record {
      stream = t.0;
      spelled = t.1;
      placed = t.2;
      within =
          passes_within (limit_of o) (ReadAs t.0) (scoped no_scope xs) tree_start tt refl
          (ap (λ ls. parse ls tree_start) (sym t.1) ∙ reads t.0 t.2)
          (passes_first (limit_guard (limit_of o)) (scope_guard o) (scoped no_scope xs)
          IsFresh p);
      means =
          passes_means o (scoped no_scope xs) IsFresh (subst NotFaulty (sym ran) tt)
          (passes_second (limit_guard (limit_of o)) (scope_guard o) (scoped no_scope xs)
          IsFresh p);
      events_are = t.3;
    }
events_from o xs es more (Faulty k x) h p e same = absurd cc
events_from o xs es more Unfinished h p e same = absurd cc

pub whole_events :
    (o : OptionsData) (xs : List Terminal) (es : List TreeEvent) → whole_run o xs ≡ Events es → WholeReading o xs es
whole_events o xs es e =
    let g = start_events (guarded (whole_guard o) (scoped no_scope xs) IsFresh) es e in
    events_from o xs es g.0 (guarded (whole_guard o) (scoped no_scope xs) IsFresh) g.1
    (guarded_tells (whole_guard o) (scoped no_scope xs) IsFresh) e refl

-- ---- causes

unknown :
    (u : Bool) (n : Option ℕ) (k : GrammarFault) → alias_fault u n ≡ Some k →
    (u ≡ false) × (n ≡ None) × (k ≡ UnknownAnchor)
unknown false None k e = (refl, refl, cc)
unknown false (Some n) k e = absurd cc
unknown true n k e = absurd cc

undeclared_by :
    (handle : List ℕ) (core : List ℕ) (a b : Bool) (k : GrammarFault) →
    fault_if_none (if a then Some core else (if b then None else Some handle)) UndeclaredTagHandle ≡ Some k →
    (b ≡ true) × (k ≡ UndeclaredTagHandle)
undeclared_by handle core true b k e = absurd cc
undeclared_by handle core false false k e = absurd cc
undeclared_by handle core false true k e = (refl, cc)

undeclared :
    (handle : List ℕ) (p : Option (List ℕ)) (k : GrammarFault) →
    fault_if_none (prefix_by handle p) UndeclaredTagHandle ≡ Some k →
    (p ≡ None) × (nat_lt 2 (length handle) ≡ true) × (k ≡ UndeclaredTagHandle)
undeclared handle (Some p) k e = absurd cc
undeclared handle None k e =
    let h = undeclared_by handle (codes "tag:yaml.org,2002:") (length handle == 2) (nat_lt 2 (length handle)) k e
    in (refl, h.0, h.1)

abbrev version_fault_by : Bool → Option (ℕ × ℕ) → Option GrammarFault
version_fault_by b (Some v) = Some DuplicateVersionDirective
version_fault_by b None = unless b (Some UnsupportedYamlMajorVersion)

version_is : (major : ℕ) (v : Option (ℕ × ℕ)) → version_fault_by (major == 1) v ≡ version_fault major v
version_is major (Some v) = refl
version_is major None = refl

some_kind : {j k : GrammarFault} → Some j ≡ Some k → j ≡ k
some_kind e = cc (e)

kind_unless : (b : Bool) (j k : GrammarFault) → fault_unless b j ≡ Some k → k ≡ j
kind_unless true j k e = absurd cc
kind_unless false j k e = cc (e)

version_cause :
    (o : OptionsData) (front : List Terminal) (major minor : ℕ) (v : Option (ℕ × ℕ)) (k : GrammarFault) →
    (scope_behind front no_scope).version ≡ v → (b : Bool) → (major == 1) ≡ b → version_fault_by b v ≡ Some k →
    ScopeCause o front (Directive (Version major minor)) k
version_cause o front major minor (Some v) k s b m e =
    let h = versioned_by front v s
    in subst (ScopeCause o front (Directive (Version major minor))) (some_kind e) (second_version h.0 h.1)
version_cause o front major minor None k s false m e =
    subst (ScopeCause o front (Directive (Version major minor))) (some_kind e) (other_version m (not_versioned front s))
version_cause o front major minor None k s true m e = absurd cc

handle_cause :
    (o : OptionsData) (front : List Terminal) (handle prefix : List ℕ) (p : Option (List ℕ)) (k : GrammarFault) →
    entry_of handle (scope_behind front no_scope).pending ≡ p → handle_fault p ≡ Some k →
    ScopeCause o front (Directive (TagPrefix handle prefix)) k
handle_cause o front handle prefix (Some first) k s e =
    subst (ScopeCause o front (Directive (TagPrefix handle prefix))) (some_kind e)
    (second_handle first (declared_by handle front first s))
handle_cause o front handle prefix None k s e = absurd cc

pub scope_cause :
    (o : OptionsData) (front : List Terminal) (kind : TerminalKind) (k : GrammarFault) →
    scope_fault o kind (scope_behind front no_scope) ≡ Some k → ScopeCause o front kind k
scope_cause o front (Part (Alias name)) k e =
    let h = unknown o.emit_unresolved_aliases (number_of_anchor name.characters (scope_behind front no_scope)) k e in
    subst (ScopeCause o front (Part (Alias name))) (sym h.2) (no_anchor h.0 (not_named name.characters front h.1))
scope_cause o front (Part (Property (Tag handle suffix))) k e =
    let s = scope_behind front no_scope in
    let h = undeclared handle (or_kept (entry_of handle s.handles) (kept_of o handle s)) k e in
    let n = neither (entry_of handle s.handles) (kept_of o handle s) h.0 in
    subst (ScopeCause o front (Part (Property (Tag handle suffix)))) (sym h.2)
    (no_handle h.1 (not_in_force handle front n.0) (never_kept o handle front h.1 n.1))
scope_cause o front (Directive (Version major minor)) k e =
    version_cause o front major minor (scope_behind front no_scope).version k refl (major == 1) refl
    (version_is major (scope_behind front no_scope).version ∙ e)
scope_cause o front (Directive (TagPrefix handle prefix)) k e =
    handle_cause o front handle prefix (entry_of handle (scope_behind front no_scope).pending) k refl e
scope_cause o front (Part (Property (Anchor name))) k e = absurd cc
scope_cause o front (Part (Scalar style text)) k e = absurd cc
scope_cause o front (Part (Open bracket)) k e = absurd cc
scope_cause o front (Directive (Reserved n p)) k e = absurd cc
scope_cause o front kind k e = absurd cc

-- ---- lexemes that are taken and that all guards let pass begin a reading

within_by :
    (n : ℕ) (ls : List Terminal) (a : TreeAnswer) → parse ls tree_start ≡ a → Passes (limit_guard n) ls IsFresh →
    (o : EventAnswer) → NotFaulty o → Answers (λ more. more) o a → (more : List Terminal) × BeginsWithin n (ls ++ more)
within_by n ls (ReadAs s) e p o f h =
    let t = subst (λ a. Tells a ls) e (one_cut ls) in
    ([], (s, t.0 ∙ sym (append-nil ls), t.1, passes_within n (ReadAs s) ls tree_start tt refl e p))
within_by n ls (Short q) e p o f h =
    let t = comes_to ls tree_start q tt (λ y. tt) e in
    let c = completed q t.is_open (t.placed no_terminal) in
    let u = subst (λ a. Tells a (ls ++ after_place q)) (t.leads (after_place q) ∙ c.1) (one_cut
    (ls ++ after_place q)) in (
      after_place q,
      (
        c.0,
        u.0,
        u.1,
        completed_within n q t.is_open (t.placed no_terminal) (passes_within n (Short q) ls tree_start tt refl e p),
      ),
    )
within_by n ls (RefusedAt q y) e p (Faulty k x) f h = absurd f
within_by n ls (RefusedAt q y) e p (Events es) f h = absurd h
within_by n ls (RefusedAt q y) e p Unfinished f h = absurd h

within_from :
    (n : ℕ) (ls : List Terminal) → Passes (limit_guard n) ls IsFresh → NotFaulty (run_events ls) →
    (more : List Terminal) × BeginsWithin n (ls ++ more)
within_from n ls p f = within_by n ls (parse ls tree_start) refl p (run_events ls) f (machines_agree ls)

viable_from :
    (o : OptionsData) (xs : List Terminal) → Passes (whole_guard o) (scoped no_scope xs) IsFresh →
    NotFaulty (run_events (scoped no_scope xs)) → Viable o xs
viable_from o xs p f =
    let ls = scoped no_scope xs in
    let w = within_from (limit_of o) ls
    (passes_first (limit_guard (limit_of o)) (scope_guard o) ls IsFresh p) f in
    record {
      more = w.0;
      within = w.1;
      means =
          passes_means o ls IsFresh
          (drop_before (pointed StreamStarts text_start ∷ []) (run_events_from ls IsFresh) f)
          (passes_second (limit_guard (limit_of o)) (scope_guard o) ls IsFresh p);
    }

-- with lexemes with which a stream begins there is no fault
taken_by :
    (xs more : List Terminal) (o : EventAnswer) → run_events xs ≡ o → IsSpelled (xs ++ more) → NotFaulty o
taken_by xs more (Events es) e v = tt
taken_by xs more Unfinished e v = tt
taken_by xs more (Faulty k x) e v =
    let f = faults_are xs k x e in
    f.unread (f.rest ++ more)
    (subst IsSpelled (ap (λ xs. xs ++ more) f.is ∙ append_assoc f.front (x ∷ f.rest) more) v)

viable_taken : (xs more : List Terminal) → IsSpelled (xs ++ more) → NotFaulty (run_events xs)
viable_taken xs more v = taken_by xs more (run_events xs) refl v

-- ---- faults

-- a list with scopes is split as the list is
record Split (s : Scope) (xs front : List Terminal) (x : Terminal) : Type 0 where
  plain : List Terminal
  here : Terminal
  rest : List Terminal
  is : xs ≡ plain ++ (here ∷ rest)
  front_is : front ≡ scoped s plain
  x_is : x ≡ in_scope (scope_behind plain s) here

split :
    (s : Scope) (xs front : List Terminal) (x : Terminal) (rest : List Terminal) → scoped s xs ≡ front ++ (x ∷ rest) →
    Split s xs front x
split s [] [] x rest e = absurd cc
split s [] (y ∷ front) x rest e = absurd cc
split s (z ∷ xs) [] x rest e =
    let same : in_scope s z ≡ x = cc (e)
    in record { plain = []; here = z; rest = xs; is = refl; front_is = refl; x_is = sym same }
split s (z ∷ xs) (y ∷ front) x rest e =
    let same : in_scope s z ≡ y = cc (e) in
    let more : scoped (next_scope z.kind s) xs ≡ front ++ (x ∷ rest) = cc (e) in
    let h = split (next_scope z.kind s) xs front x rest more in
    record {
      plain = z ∷ h.plain;
      here = h.here;
      rest = h.rest;
      is = ap (λ xs. z ∷ xs) h.is;
      front_is = ap₂ (λ y ys. y ∷ ys) (sym same) h.front_is;
      x_is = h.x_is;
    }

limit_kind : (n : ℕ) (st : EventState) (k : GrammarFault) → limit_fault n st ≡ Some k → k ≡ TooManyBlocks (is_loose st)
limit_kind n st k e = kind_unless (nat_le (state_count st) n) (TooManyBlocks (is_loose st)) k e

first_of_two :
    (a b : Option GrammarFault) (k : GrammarFault) → first_fault a b ≡ Some k →
    (a ≡ Some k) ⊎ ((a ≡ None) × (b ≡ Some k))
first_of_two (Some j) b k e = inl e
first_of_two None b k e = inr (refl, e)

-- the fault of a limit: no stream that keeps it goes on so
over_limit :
    (o : OptionsData) (xs : List Terminal) (k : GrammarFault) (x : Terminal)
    (h : GuardFault (whole_guard o) xs IsFresh k x) →
    limit_fault (limit_of o) h.behind ≡ Some k → (more : List Terminal) →
    BeginsWithin (limit_of o) (h.front ++ (x ∷ more)) → ⊥
over_limit o xs k x h f more s =
    let p = within_passes (limit_of o) s.0 s.3 (h.front ++ (x ∷ more)) tree_start tt refl (from_zero (limit_of o))
    (ap (λ ls. parse ls tree_start) (sym s.1) ∙ reads s.0 s.2) in
    let none = h.seen (limit_guard (limit_of o)) more p in
    let e : Some k ≡ None = sym f ∙ none in absurd cc

end_taken : (es more : List TreeEvent) (st : EventState) → NotFaulty (events_before es (events_before more
    (outcome_at_end st)))
end_taken es more IsEnded = tt
end_taken es more st = tt

-- what the guards refuse, the grammar takes
guard_taken :
    (o : OptionsData) (xs : List Terminal) (k : GrammarFault) (x : Terminal)
    (h : GuardFault (whole_guard o) xs IsFresh k x) → NotFaulty (run_events (h.front ++ (x ∷ [])))
guard_taken o xs k x h =
    subst NotFaulty (sym (ap Starts (h.runs []))) (end_taken (pointed StreamStarts text_start ∷ []) h.given h.behind)

guard_viable :
    (o : OptionsData) (xs : List Terminal) (k : GrammarFault) (x : Terminal)
    (h : GuardFault (whole_guard o) xs IsFresh k x) → (more : List Terminal) × IsSpelled (h.front ++ (x ∷ more))
guard_viable o xs k x h =
    let v = taken_viable (h.front ++ (x ∷ [])) (guard_taken o xs k x h) in
    (v.0, subst IsSpelled (append_assoc h.front (x ∷ []) v.0) v.1)

guard_before :
    (o : OptionsData) (xs : List Terminal) (k : GrammarFault) (x : Terminal)
    (h : GuardFault (whole_guard o) (scoped no_scope xs) IsFresh k x) (t : Split no_scope xs h.front x) →
    Viable o t.plain
guard_before o xs k x h t =
    let v = guard_viable o (scoped no_scope xs) k x h in
    viable_from o t.plain (subst (λ ls. Passes (whole_guard o) ls IsFresh) t.front_is h.passes)
    (viable_taken (scoped no_scope t.plain) (x ∷ v.0) (subst (λ front. IsSpelled (front ++ (x ∷ v.0))) t.front_is v.1))

guard_cause :
    (o : OptionsData) (xs : List Terminal) (k : GrammarFault) (x : Terminal)
    (h : GuardFault (whole_guard o) (scoped no_scope xs) IsFresh k x) (t : Split no_scope xs h.front x) →
    (limit_fault (limit_of o) h.behind ≡ Some k)
    ⊎ ((limit_fault (limit_of o) h.behind ≡ None)
    × (scope_fault o x.kind x.at.scope ≡ Some k)) →
    LexemeCause o t.plain t.here.kind x k
guard_cause o xs k x h t (inl f) =
    let v = guard_viable o (scoped no_scope xs) k x h in
    let limits = passes_first (limit_guard (limit_of o))
    (scope_guard o) h.front IsFresh h.passes
    in
    subst (LexemeCause o t.plain t.here.kind x) (sym (limit_kind (limit_of o) h.behind k f))
    (too_many v.0 (subst (λ front. IsSpelled (front ++ (x ∷ v.0))) t.front_is v.1)
    (λ more.
    subst (λ front. BeginsWithin (limit_of o) (front ++ (x ∷ more)) → ⊥) t.front_is
    (over_limit o (scoped no_scope xs) k x h f more))
    (subst (λ kind. BeginsBlock (scoped no_scope t.plain ++ (x ∷ [])) kind (is_loose h.behind))
    (ap (λ x. x.kind) t.x_is)
    (subst (λ front. BeginsBlock (front ++ (x ∷ [])) x.kind (is_loose h.behind)) t.front_is
    (too_many_begin (whole_guard o) (limit_of o) (scoped no_scope xs) k x h limits f))))
guard_cause o xs k x h t (inr f) =
    let limits = passes_first (limit_guard (limit_of o))
    (scope_guard o) h.front IsFresh h.passes
    in
    let w = within_from (limit_of o) (h.front ++ (x ∷ [])) (h.joined (limit_guard (limit_of o)) limits f.0)
    (guard_taken o (scoped no_scope xs) k x h) in
    means_nothing w.0
    (subst (λ front. BeginsWithin (limit_of o) (front ++ (x ∷ w.0))) t.front_is
    (subst (BeginsWithin (limit_of o)) (append_assoc h.front (x ∷ []) w.0) w.1))
    (scope_cause o t.plain t.here.kind k
    (subst (λ x. scope_fault o x.kind x.at.scope ≡ Some k) t.x_is f.1))

guard_fault :
    (o : OptionsData) (xs : List Terminal) (k : GrammarFault) (x : Terminal) →
    GuardFault (whole_guard o) (scoped no_scope xs) IsFresh k x → WholeFault o xs k x
guard_fault o xs k x h =
    let t = split no_scope xs h.front x h.rest h.is in
    record {
      front = t.plain;
      here = t.here;
      rest = t.rest;
      is = t.is;
      x_is = t.x_is;
      viable = guard_before o xs k x h t;
      cause =
          guard_cause o xs k x h t
          (first_of_two (limit_fault (limit_of o) h.behind) (scope_fault o x.kind x.at.scope) k
          h.fault);
    }

-- what all guards let pass and the grammar refuses
grammar_fault :
    (o : OptionsData) (xs : List Terminal) (k : GrammarFault) (x : Terminal) →
    Passes (whole_guard o) (scoped no_scope xs) IsFresh → FaultAt (scoped no_scope xs) k x → WholeFault o xs k x
grammar_fault o xs k x p f =
    let t = split no_scope xs f.front x f.rest f.is in
    let before = passes_front (whole_guard o) f.front (x ∷ f.rest) IsFresh
    (subst (λ ls. Passes (whole_guard o) ls IsFresh) f.is p) in
    record {
      front = t.plain;
      here = t.here;
      rest = t.rest;
      is = t.is;
      x_is = t.x_is;
      viable =
          viable_from o t.plain (subst (λ ls. Passes (whole_guard o) ls IsFresh) t.front_is before)
          (viable_taken (scoped no_scope t.plain) f.viable.0
          (subst (λ front. IsSpelled (front ++ f.viable.0)) t.front_is f.viable.1));
      cause =
          not_taken (record {
            front = f.front;
            rest = [];
            is = ap (λ front. front ++ (x ∷ [])) (sym t.front_is);
            place = f.place;
            cut = f.cut;
            placed = f.placed;
            is_open = f.is_open;
            settled = f.settled;
            kind_is = f.kind_is;
            unread = f.unread;
            viable = f.viable;
          });
    }

fault_from :
    (o : OptionsData) (xs : List Terminal) (k : GrammarFault) (x : Terminal) →
    (Passes (whole_guard o) (scoped no_scope xs) IsFresh × (run_events_from (scoped no_scope xs) IsFresh ≡ Faulty k x))
    ⊎ GuardFault (whole_guard o) (scoped no_scope xs) IsFresh k x →
    WholeFault o xs k x
fault_from o xs k x (inl h) = grammar_fault o xs k x h.0 (faults_are (scoped no_scope xs) k x (ap Starts h.1))
fault_from o xs k x (inr h) = guard_fault o xs k x h

start_fault : (o : EventAnswer) (k : GrammarFault) (x : Terminal) → Starts o ≡ Faulty k x → o ≡ Faulty k x
start_fault (Faulty j y) k x e = e
start_fault (Events es) k x e = absurd cc
start_fault Unfinished k x e = absurd cc

pub whole_faults :
    (o : OptionsData) (xs : List Terminal) (k : GrammarFault) (x : Terminal) → whole_run o xs ≡ Faulty k x →
    WholeFault o xs k x
whole_faults o xs k x e =
    fault_from o xs k x
    (subst (TellsOf (whole_guard o) (scoped no_scope xs) IsFresh)
    (start_fault (guarded (whole_guard o) (scoped no_scope xs) IsFresh) k x e)
    (guarded_tells (whole_guard o) (scoped no_scope xs) IsFresh))

-- ---- where there is no fault, a reading begins

not_faulty_tells :
    (o : OptionsData) (xs : List Terminal) (a : EventAnswer) →
    guarded (whole_guard o) (scoped no_scope xs) IsFresh ≡ a → NotFaulty (Starts a) →
    TellsOf (whole_guard o) (scoped no_scope xs) IsFresh a → Viable o xs
not_faulty_tells o xs (Events es) e n t =
    viable_from o xs t
    (subst NotFaulty (sym (ap Starts (sym (passes_same (whole_guard o) (scoped no_scope xs) IsFresh t) ∙ e))) tt)
not_faulty_tells o xs Unfinished e n t =
    viable_from o xs t
    (subst NotFaulty (sym (ap Starts (sym (passes_same (whole_guard o) (scoped no_scope xs) IsFresh t) ∙ e))) tt)
not_faulty_tells o xs (Faulty k x) e n t = absurd n

pub whole_viable : (o : OptionsData) (xs : List Terminal) → NotFaulty (whole_run o xs) → Viable o xs
whole_viable o xs n =
    not_faulty_tells o xs (guarded (whole_guard o) (scoped no_scope xs) IsFresh) refl n
    (guarded_tells (whole_guard o) (scoped no_scope xs) IsFresh)

-- ---- a list with its end has an answer

-- scope keeps the end where it is
record EndedBy (xs : List Terminal) : Type 0 where
  pub front : List Terminal
  pub at : At
  pub is : xs ≡ front ++ (terminal TheEnd at ∷ [])

scoped_end : (s : Scope) (xs : List Terminal) (i : At) → EndedBy (scoped s (xs ++ (terminal TheEnd i ∷ [])))
scoped_end s [] i = record { front = []; at = (in_scope s (terminal TheEnd i)).at; is = refl }
scoped_end s (x ∷ xs) i =
    let e = scoped_end (next_scope x.kind s) xs i in
    record { front = in_scope s x ∷ e.front; at = e.at; is = ap (λ ys. in_scope s x ∷ ys) e.is }

unfinished_passes :
    (g : Guard) (xs : List Terminal) (o : EventAnswer) → guarded g xs IsFresh ≡ o → TellsOf g xs IsFresh o →
    Starts o ≡ Unfinished → run_events xs ≡ Unfinished
unfinished_passes g xs Unfinished e t h = ap Starts (sym (passes_same g xs IsFresh t) ∙ e)
unfinished_passes g xs (Events es) e t h = cc (h)
unfinished_passes g xs (Faulty k x) e t h = cc (h)

pub whole_never_unfinished :
    (o : OptionsData) (xs : List Terminal) (i : At) → whole_run o (xs ++ (terminal TheEnd i ∷ [])) ≡ Unfinished → ⊥
whole_never_unfinished o xs i e =
    let ls = scoped no_scope (xs ++ (terminal TheEnd i ∷ [])) in
    let d = scoped_end no_scope xs i in
    never_unfinished d.front d.at
    (ap run_events (sym d.is)
    ∙ unfinished_passes (whole_guard o) ls (guarded (whole_guard o) ls IsFresh) refl (guarded_tells
    (whole_guard o) ls IsFresh) e)
