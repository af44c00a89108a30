-- What a list of flagged lexemes makes of the open columns, and what a lexeme of the reader does.
use Rattle.std.proofs.Common.{◌≡◌, ℕ, suc, ◌==◌, Bool, true, false, List, [], ◌∷◌, map, Option, Some, None, refl, sym}
use Rattle.std.proofs.Common.{ap, ap₂, ◌∙◌, subst, arith}
use Rattle.std.specs.Prelude.{nat_lt, if◌then◌else◌}
use Rattle.std.proofs.lemmas.Bool.Decides.{nat_tests}
use Rattle.granit_language.specs.Fitting.{role_of, role_fits}
use Rattle.granit_language.specs.OpenColumns.{EntryOf, is_outer_kind, start_column, columns_of}
use Rattle.granit_language.specs.Scope.{Scope}
use Rattle.granit_language.specs.Scoping.{next_scope}
use Rattle.granit_language.specs.Seen.{Flagged, terminal_kind, terminal_of, at_of}
use Rattle.granit_language.specs.Terminal.{TerminalKind, Dash, Question, Colon, At, edge, reach_of}
use Rattle.granit_lexemes.specs.Lexeme as lexemes
use Rattle.granit_lexemes.specs.Lexeme.{LexemeKind, KeyStart, Lexeme}
use Rattle.granit_lexemes.specs.declared.layout.Bracket.{Bracket}
use Rattle.granit_lexemes.specs.declared.layout.OpenBracket.{OpenBracket}
use Rattle.granit_machine.specs.Laid.{Laid, is_nonempty, is_in_flow}
use Rattle.granit_places.proofs.Choosing.{Held, top_of}
use Rattle.granit_places.proofs.ColumnsKept.{chosen, pop, push, Change, nothing, all_end, passes, own, keyed}
use Rattle.granit_places.proofs.ColumnsLaw.{shut_of}
use Rattle.granit_order.specs.Order.{open_behind, due_behind, KeepsKey, KeysFrom}
use Rattle.granit_order.proofs.BracketsPassed.{kinds_in}
use Rattle.granit_order.proofs.KeysMoved.{outer_in, due_by_key}

-- ---- columns behind a lexeme

abbrev pub due_pushed : Option ℕ → List ℕ → List ℕ
due_pushed None cs = cs
due_pushed (Some c) cs = push c cs

abbrev pub entry_columns : TerminalKind → ℕ → Option ℕ → List ℕ → List ℕ
entry_columns Dash e due cs = push e cs
entry_columns Question e due cs = push e cs
entry_columns (Colon None) e due cs = push e cs
entry_columns (Colon (Some n)) e due cs = due_pushed due cs
entry_columns kind e due cs = cs

abbrev pub columns_behind : List Bracket → TerminalKind → At → Option ℕ → List ℕ → List ℕ
columns_behind [] kind i due cs = entry_columns kind (edge i) due (pop (reach_of kind i) cs)
columns_behind (b ∷ bs) kind i due cs = cs

-- each keeps to the key that is due, and behind the last of them something holds
abbrev pub KeysTo : (List Bracket → Option ℕ → List ℕ → Type 0) → List Flagged → Scope → List Bracket → Option ℕ
    → List ℕ → Type 0
KeysTo Q [] s bs due cs = Q bs due cs
KeysTo Q (f ∷ fs) s bs due cs =
    KeepsKey bs due (terminal_of f.1 s f.0)
    × KeysTo Q fs (next_scope (terminal_of f.1 s f.0).kind s)
    (open_behind (terminal_of f.1 s f.0).kind bs)
    (due_behind bs (terminal_of f.1 s f.0).kind (terminal_of f.1 s f.0).at due)
    (columns_behind bs (terminal_of f.1 s f.0).kind (terminal_of f.1 s f.0).at due cs)

pub keys_from : (Q : List Bracket → Option ℕ → List ℕ → Type 0) (fs : List Flagged) (s : Scope) (bs : List Bracket)
    (due : Option ℕ) (cs : List ℕ) → KeysTo Q fs s bs due cs → KeysFrom fs s bs due
keys_from Q [] s bs due cs p = tt
keys_from Q (f ∷ fs) s bs due cs p =
    let x = terminal_of f.1 s f.0 in (
      p.0,
      keys_from Q fs (next_scope x.kind s) (open_behind x.kind bs) (due_behind bs x.kind x.at due)
          (columns_behind bs x.kind x.at due cs) p.1,
    )

-- ---- counted from 1

abbrev pub edges : Laid → List ℕ
edges l = map suc (columns_of l)

pub pop_suc : (k : ℕ) (ns : List ℕ) → map suc (pop k ns) ≡ pop (suc k) (map suc ns)
pop_suc k [] = refl
pop_suc k (n ∷ ns) = on (nat_lt k n) refl (pop_suc k ns)
  where
    on : (v : Bool) → nat_lt k n ≡ v → map suc (pop k ns) ≡ pop (suc k) (map suc ns)
        → map suc (chosen v (pop k ns) (n ∷ ns))
        ≡ chosen (nat_lt (suc k) (suc n)) (pop (suc k) (map suc ns)) (suc n ∷ map suc ns)
    on true e more = let f : nat_lt (suc k) (suc n) ≡ true = grind (arith, nat_tests, e) in more
        ∙ sym (ap (λ v. chosen v (pop (suc k) (map suc ns)) (suc n ∷ map suc ns)) f)
    on false e more = let f : nat_lt (suc k) (suc n)
        ≡ false = grind (arith, nat_tests, e) in sym
        (ap (λ v. chosen v (pop (suc k) (map suc ns)) (suc n ∷ map suc ns)) f)

push_suc : (c : ℕ) (ns : List ℕ) → map suc (push c ns) ≡ push (suc c) (map suc ns)
push_suc c [] = refl
push_suc c (n ∷ ns) = on (n == c) refl
  where
    on : (v : Bool) → (n == c) ≡ v → map suc (c ∷ chosen v ns (n ∷ ns))
        ≡ suc c ∷ chosen (suc n == suc c) (map suc ns) (suc n ∷ map suc ns)
    on true e = let f : (suc n == suc c) ≡ true = grind (arith, nat_tests, e) in sym
        (ap (λ v. suc c ∷ chosen v (map suc ns) (suc n ∷ map suc ns)) f)
    on false e = let f : (suc n == suc c) ≡ false = grind (arith, nat_tests, e) in sym
        (ap (λ v. suc c ∷ chosen v (map suc ns) (suc n ∷ map suc ns)) f)

pub pop_all : (ns : List ℕ) → [] ≡ pop 0 (map suc ns)
pop_all [] = refl
pop_all (n ∷ ns) = let f : nat_lt 0 (suc n) ≡ true = grind (arith, nat_tests) in pop_all ns
    ∙ sym (ap (λ v. chosen v (pop 0 (map suc ns)) (suc n ∷ map suc ns)) f)

-- ---- by kinds

module _ (i : At) (due : Option ℕ) (ns : List ℕ) where
  abbrev Behind : LexemeKind → Option KeyStart → List ℕ
  Behind kind key = entry_columns (terminal_kind kind key) (edge i) due
      (pop (reach_of (terminal_kind kind key) i) (map suc ns))

  ends_to : (kind : LexemeKind) (key : Option KeyStart) → is_outer_kind kind ≡ true → [] ≡ Behind kind key
  ends_to (lexemes.Directive d) key e = pop_all ns
  ends_to lexemes.DocumentStart key e = pop_all ns
  ends_to lexemes.DocumentEnd key e = pop_all ns
  ends_to lexemes.StreamEnd key e = pop_all ns
  ends_to kind key e = absurd cc

  abbrev NeverEntry : LexemeKind → Option KeyStart → Type 0
  NeverEntry kind key = (column c : ℕ) (ls : List Lexeme) → EntryOf kind key column ls c → ⊥

  of_number : (x : Lexeme) (n : ℕ) → start_column n (record x { number = n } ∷ []) ≡ Some x.start.place.column
  of_number x n = let f : (n == n) ≡ true = grind (arith, nat_tests) in ap
      (λ v. if v then Some x.start.place.column else None) f

  passes_to : (x : Lexeme) (kind : LexemeKind) (key : Option KeyStart) → is_outer_kind kind ≡ false
      → NeverEntry kind key → map suc (pop i.column ns) ≡ Behind kind key
  passes_to x (lexemes.Directive d) key e none = absurd cc
  passes_to x lexemes.DocumentStart key e none = absurd cc
  passes_to x lexemes.DocumentEnd key e none = absurd cc
  passes_to x lexemes.StreamEnd key e none = absurd cc
  passes_to x lexemes.Dash key e none = absurd (none 0 0 [] refl)
  passes_to x lexemes.Question key e none = absurd (none 0 0 [] refl)
  passes_to x lexemes.Colon None e none = absurd (none 0 0 [] refl)
  passes_to x lexemes.Colon (Some k) e none = absurd
      (none 0 x.start.place.column (record x { number = k.number } ∷ []) (of_number x k.number))
  passes_to x (lexemes.Open b) key e none = pop_suc i.column ns
  passes_to x (lexemes.Close b) key e none = pop_suc i.column ns
  passes_to x lexemes.Comma key e none = pop_suc i.column ns
  passes_to x (lexemes.Alias name) key e none = pop_suc i.column ns
  passes_to x (lexemes.Anchor name) key e none = pop_suc i.column ns
  passes_to x (lexemes.Tag handle suffix) key e none = pop_suc i.column ns
  passes_to x (lexemes.Scalar style text) key e none = pop_suc i.column ns

  entered_to : map suc (push i.column (pop i.column ns)) ≡ push (edge i) (pop (edge i) (map suc ns))
  entered_to = push_suc i.column (pop i.column ns) ∙ ap (push (edge i)) (pop_suc i.column ns)

  own_to : (kind : LexemeKind) (key : Option KeyStart) → is_outer_kind kind ≡ false
      → ((c : ℕ) (ls : List Lexeme) → i.column ≡ c → EntryOf kind key i.column ls c)
      → map suc (push i.column (pop i.column ns)) ≡ Behind kind key
  own_to lexemes.Dash key e here = entered_to
  own_to lexemes.Question key e here = entered_to
  own_to lexemes.Colon None e here = entered_to
  own_to lexemes.Colon (Some k) e here = absurd (let f = here i.column [] refl in cc)
  own_to (lexemes.Open b) key e here = absurd (here i.column [] refl)
  own_to (lexemes.Close b) key e here = absurd (here i.column [] refl)
  own_to lexemes.Comma key e here = absurd (here i.column [] refl)
  own_to (lexemes.Alias name) key e here = absurd (here i.column [] refl)
  own_to (lexemes.Anchor name) key e here = absurd (here i.column [] refl)
  own_to (lexemes.Tag handle suffix) key e here = absurd (here i.column [] refl)
  own_to (lexemes.Scalar style text) key e here = absurd (here i.column [] refl)
  own_to kind key e here = absurd cc

-- ---- a lexeme of the reader

top_number : (n : ℕ) (ks : Held) → role_fits (Rattle.granit_language.specs.Fitting.Keyed n) ks ≡ true
    → (m : ℕ) × (top_of ks ≡ Some m)
top_number n [] e = absurd cc
top_number n (None ∷ ks) e = absurd cc
top_number n (Some m ∷ ks) e = (m, refl)

module _ (l : Laid) (x : Lexeme) (after : Laid) (flow : x.in_flow ≡ is_in_flow l) (flag : Bool) (s : Scope)
    (before : Held) (fit : role_fits (role_of x.kind x.key) before ≡ true) where
  abbrev Moved : List OpenBracket → Type 0
  Moved bs = edges after ≡ columns_behind (kinds_in bs) (terminal_kind x.kind x.key) (at_of flag s x)
      (due_by_key (outer_in (kinds_in bs) before) l.key) (edges l)

  outside : x.in_flow ≡ false → Moved [] → Moved l.brackets
  outside f p = subst Moved (sym (shut_of l.brackets (sym flow ∙ f))) p

  within : (bs : List OpenBracket) → is_nonempty bs ≡ true → columns_of after ≡ columns_of l → Moved bs
  within [] e c = absurd cc
  within (b ∷ bs) e c = ap (map suc) c

  pub columns_move : Change l x after → Moved l.brackets
  columns_move (nothing f c k) = within l.brackets (sym flow ∙ f) c
  columns_move (all_end f outer c k) = outside f
      (ap (map suc) c ∙ ends_to (at_of flag s x) (due_by_key (top_of before) l.key) (columns_of l) x.kind x.key outer)
  columns_move (passes f outer none c k) = outside f
      (ap (map suc) c ∙ passes_to (at_of flag s x) (due_by_key (top_of before) l.key) (columns_of l) x x.kind x.key
      outer none)
  columns_move (own f outer is here c k) = outside f
      (ap (map suc) c ∙ own_to (at_of flag s x) (due_by_key (top_of before) l.key) (columns_of l) x.kind x.key outer
      here)
  columns_move (keyed j f colon key old c k) = outside f (ap (map suc) c ∙ keyed_to)
    where
      fit_there : role_fits (Rattle.granit_language.specs.Fitting.Keyed j.number) before ≡ true
      fit_there = subst (λ key. role_fits (role_of lexemes.Colon key) before ≡ true) key
          (subst (λ kind. role_fits (role_of kind x.key) before ≡ true) colon fit)

      due_there : due_by_key (top_of before) l.key ≡ Some (suc j.start.place.column)
      due_there = let t = top_number j.number before fit_there in ap₂ due_by_key t.1 old

      keyed_to : map suc (push j.start.place.column (pop x.start.place.column (columns_of l)))
          ≡ columns_behind [] (terminal_kind x.kind x.key) (at_of flag s x) (due_by_key (top_of before) l.key) (edges l)
      keyed_to =
          push_suc j.start.place.column (pop x.start.place.column (columns_of l))
          ∙ ap (push (suc j.start.place.column)) (pop_suc x.start.place.column (columns_of l))
          ∙ subst (λ due. push (suc j.start.place.column) (pop (suc x.start.place.column) (map suc (columns_of l)))
          ≡ columns_behind [] (terminal_kind x.kind x.key) (at_of flag s x) due (edges l)) (sym due_there)
          (subst (λ kind. push (suc j.start.place.column) (pop (suc x.start.place.column) (map suc (columns_of l)))
          ≡ columns_behind [] (terminal_kind kind x.key) (at_of flag s x) (Some (suc j.start.place.column))
          (edges l)) (sym colon)
          (subst (λ key. push (suc j.start.place.column) (pop (suc x.start.place.column) (map suc (columns_of l)))
          ≡ columns_behind [] (terminal_kind lexemes.Colon key) (at_of flag s x) (Some (suc j.start.place.column))
          (edges l)) (sym key) refl))
