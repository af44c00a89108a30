-- What is open where brackets, single pairs, a due key and columns are open, and what the tokens of a lexeme make of
-- it.
use Rattle.std.proofs.Common.{◌≡◌, ℕ, suc, ◌-◌, ◌≤◌, ◌==◌, ◌&&◌, not, Bool, true, false, List, [], ◌∷◌, ◌++◌, drop}
use Rattle.std.proofs.Common.{length, replicate, Option, Some, None, refl, sym, ap, ◌∙◌, subst, arith}
use Rattle.std.proofs.Math.Bool.{and-false, and-true}
use Rattle.std.specs.Prelude.{nat_lt}
use Rattle.std.proofs.lemmas.Bool.Decides.{nat_tests}
use Rattle.granit_views.specs.Fair.{is_key_part}
use Rattle.granit_base.specs.Place.{Mark}
use Rattle.granit_language.specs.Reading.{begins_kind}
use Rattle.granit_language.specs.Scope.{no_scope}
use Rattle.granit_language.specs.Seen.{terminal_kind, at_of}
use Rattle.granit_language.specs.Terminal.{At, edge, reach_of, bracket_is}
use Rattle.granit_lexemes.specs.Lexeme.{LexemeKind, Open, Close, Comma}
use Rattle.granit_lexemes.specs.Lexeme.{Dash, Question, Colon, Alias, Anchor, Tag, Scalar, KeyStart, Lexeme}
use Rattle.granit_lexemes.specs.declared.layout.Bracket.{Bracket}
use Rattle.granit_lexemes.specs.declared.layout.Bracket.TheVariants.{Square, Curly}
use Rattle.granit_places.proofs.ColumnsKept.{chosen, pop, push}
use Rattle.granit_steps.specs.Tokens.{Insertion, BlockEnd, BlockMappingStart, BlockSequenceStart, KeySign, PairStart}
use Rattle.granit_steps.specs.Tokens.{PairEnd, ScanToken, Inserted, insert_if, block_start, top_pair, with_pair_if}
use Rattle.granit_steps.specs.Tokens.{ends_single, pairs_behind}
use Rattle.granit_order.specs.Order.{outer_brackets, open_behind, is_innermost, closes_innermost, due_if, due_by}
use Rattle.granit_order.specs.Order.{may_follow}
use Rattle.granit_order.proofs.ColumnLists.{due_pushed, entry_columns}
use Rattle.granit_tokens.proofs.Openings.{OfBlock, OfPair, OfBracket, Openings, insertion_passed, kind_passed}
use Rattle.granit_tokens.proofs.Openings.{closes_of, and_then, passed, passed_both}

abbrev pub blocks : List ℕ → Openings
blocks [] = []
blocks (c ∷ cs) = OfBlock ∷ blocks cs

abbrev pub pair_open : Bool → Openings → Openings
pair_open true st = OfPair ∷ st
pair_open false st = st

-- the brackets, and which of them have an open pair, the innermost first
abbrev pub inside : List Bracket → List Bool → Openings → Openings
inside [] ps st = st
inside (b ∷ bs) ps st = pair_open (top_pair ps) (OfBracket b ∷ inside bs (drop 1 ps) st)

-- inside the blocks of the columns, and of the key that is due, stand the brackets
abbrev pub open_at : List Bracket → List Bool → Option ℕ → List ℕ → Openings
open_at bs ps due cs = inside bs ps (blocks (due_pushed due cs))

-- where a lexeme stands, as the grammar sees it
abbrev pub spot : Bool → Lexeme → At
spot flag x = at_of flag no_scope x

-- ---- what is inserted, by how many columns end, whether one and whether a pair begins

abbrev pub shaped : ℕ → (new single flag : Bool) → List Bool → LexemeKind → Option KeyStart → Mark → List ScanToken
shaped ended new single flag ps kind key m =
    replicate ended (Inserted BlockEnd m)
    ++ (insert_if (ends_single kind ps) PairEnd m
    ++ (block_start flag kind key new m
    ++ (insert_if single PairStart m
    ++ insert_if flag KeySign m)))

key_passed : (flag : Bool) (m : Mark) (st : Openings) → passed (insert_if flag KeySign m) st ≡ Some st
key_passed true m st = refl
key_passed false m st = refl

module _ (ended : ℕ) (new single flag : Bool) (ps : List Bool) (kind : LexemeKind) (key : Option KeyStart)
    (m : Mark) where
  shaped_passed : (a b c d e : Openings) → passed (replicate ended (Inserted BlockEnd m)) a ≡ Some b
      → passed (insert_if (ends_single kind ps) PairEnd m) b ≡ Some c
      → passed (block_start flag kind key new m) c ≡ Some d → passed (insert_if single PairStart m) d ≡ Some e
      → passed (shaped ended new single flag ps kind key m) a ≡ Some e
  shaped_passed a b c d e p q r s =
      let t = passed_both (insert_if single PairStart m) (insert_if flag KeySign m) d e (Some e) s
      (key_passed flag m e) in
      let u = passed_both (block_start flag kind key new m)
      (insert_if single PairStart m ++ insert_if flag KeySign m) c d (Some e) r t in
      let v = passed_both (insert_if (ends_single kind ps) PairEnd m)
      (block_start flag kind key new m ++ (insert_if single PairStart m ++ insert_if flag KeySign m)) b c (Some e) q
      u in
      passed_both (replicate ended (Inserted BlockEnd m))
      (insert_if (ends_single kind ps) PairEnd m
      ++ (block_start flag kind key new m ++ (insert_if single PairStart m ++ insert_if flag KeySign m))) a b (Some e)
      p v

-- ---- columns that end

length_popped : (k : ℕ) (cs : List ℕ) → length (pop k cs) ≤ length cs
length_popped k [] = omega arith
length_popped k (n ∷ ns) = on (nat_lt k n) (length_popped k ns)
  where
    on : (v : Bool) → length (pop k ns) ≤ length ns → length (chosen v (pop k ns) (n ∷ ns)) ≤ length (n ∷ ns)
    on true p = omega (arith, p)
    on false p = omega arith

ends_passed : (m : Mark) (k : ℕ) (cs : List ℕ)
    → passed (replicate (length cs - length (pop k cs)) (Inserted BlockEnd m)) (blocks cs) ≡ Some (blocks (pop k cs))
ends_passed m k [] = refl
ends_passed m k (n ∷ ns) = on (nat_lt k n) (length_popped k ns) (ends_passed m k ns)
  where
    on : (v : Bool) → length (pop k ns) ≤ length ns
        → passed (replicate (length ns - length (pop k ns)) (Inserted BlockEnd m)) (blocks ns)
        ≡ Some (blocks (pop k ns))
        → passed (replicate (length (n ∷ ns) - length (chosen v (pop k ns) (n ∷ ns))) (Inserted BlockEnd m))
        (OfBlock ∷ blocks ns) ≡ Some (blocks (chosen v (pop k ns) (n ∷ ns)))
    on true p more =
        let e : (length (n ∷ ns) - length (pop k ns)) ≡ suc (length ns - length (pop k ns)) = omega (arith, p) in
        ap (λ j. passed (replicate j (Inserted BlockEnd m)) (OfBlock ∷ blocks ns)) e ∙ more
    on false p more =
        let e : (length (n ∷ ns) - length (n ∷ ns)) ≡ 0 = omega arith in
        ap (λ j. passed (replicate j (Inserted BlockEnd m)) (OfBlock ∷ blocks ns)) e

none_passed : (m : Mark) (n : ℕ) (st : Openings) → n ≡ 0 → passed (replicate n (Inserted BlockEnd m)) st ≡ Some st
none_passed m n st e = ap (λ j. passed (replicate j (Inserted BlockEnd m)) st) e

-- ---- columns that begin

-- whether no entry stands in a column yet
abbrev pub is_new : ℕ → List ℕ → Bool
is_new e [] = true
is_new e (n ∷ ns) = not (n == e)

abbrev started : Bool → Openings → Openings
started true st = OfBlock ∷ st
started false st = st

starts_passed : (v : Bool) (what : Insertion) (m : Mark) (st : Openings)
    → insertion_passed what st ≡ Some (OfBlock ∷ st) → passed (insert_if v what m) st ≡ Some (started v st)
starts_passed true what m st e = ap (λ r. and_then r (passed [])) e
starts_passed false what m st e = refl

pushed_blocks : (e : ℕ) (cs : List ℕ) → started (is_new e cs) (blocks cs) ≡ blocks (push e cs)
pushed_blocks e [] = refl
pushed_blocks e (n ∷ ns) = on (n == e)
  where
    on : (v : Bool) → started (not v) (OfBlock ∷ blocks ns) ≡ OfBlock ∷ blocks (chosen v ns (n ∷ ns))
    on true = refl
    on false = refl

entry_passed : (what : Insertion) (m : Mark) (e : ℕ) (cs : List ℕ)
    → insertion_passed what (blocks cs) ≡ Some (OfBlock ∷ blocks cs)
    → passed (insert_if (is_new e cs) what m) (blocks cs) ≡ Some (blocks (push e cs))
entry_passed what m e cs p =
    starts_passed (is_new e cs) what m (blocks cs) p ∙ ap (λ (st : Openings). Some st) (pushed_blocks e cs)

pub unflagged : (flag : Bool) → (flag ≡ true → ◌≡◌ {A = Bool} false true) → flag ≡ false
unflagged true p = absurd (let e = p refl in cc)
unflagged false p = refl

unstarted : (v flag : Bool) (m : Mark) (st : Openings) → flag ≡ false
    → passed (insert_if (v && flag) BlockMappingStart m) st ≡ Some st
unstarted v flag m st e =
    ap (λ b. passed (insert_if b BlockMappingStart m) st) (ap (λ b. v && b) e ∙ and-false v)

node_started : (flag : Bool) (m : Mark) (e : ℕ) (cs : List ℕ)
    → passed (insert_if (is_new e cs && flag) BlockMappingStart m) (blocks cs)
    ≡ Some (blocks (due_pushed (due_if flag e None) cs))
node_started true m e cs =
    ap (λ b. passed (insert_if b BlockMappingStart m) (blocks cs)) (and-true (is_new e cs))
    ∙ entry_passed BlockMappingStart m e cs refl
node_started false m e cs = unstarted (is_new e cs) false m (blocks cs) refl

abbrev pub IsFlaggedNode : Bool → LexemeKind → Option KeyStart → Type 0
IsFlaggedNode flag kind key = flag ≡ true → is_key_part (terminal_kind kind key) flag ≡ true

module _ (x : Lexeme) (flag : Bool) (m : Mark) (cs : List ℕ) where
  abbrev Starts : LexemeKind → Option KeyStart → Type 0
  Starts kind key = passed (block_start flag kind key (is_new (edge (spot flag x)) cs) m) (blocks cs)
      ≡ Some (blocks (due_pushed (due_by (terminal_kind kind key) (spot flag x) None)
      (entry_columns (terminal_kind kind key) (edge (spot flag x)) None cs)))

  start_passed : (kind : LexemeKind) (key : Option KeyStart) → IsFlaggedNode flag kind key → Starts kind key
  start_passed Dash key p = entry_passed BlockSequenceStart m (edge (spot flag x)) cs refl
  start_passed Question key p = entry_passed BlockMappingStart m (edge (spot flag x)) cs refl
  start_passed Colon None p =
      ap (λ b. passed (insert_if b BlockMappingStart m) (blocks cs)) (and-true (is_new (edge (spot flag x)) cs))
      ∙ entry_passed BlockMappingStart m (edge (spot flag x)) cs refl
  start_passed Colon (Some k) p = unstarted (is_new (edge (spot flag x)) cs) false m (blocks cs) refl
  start_passed (Open b) key p = node_started flag m (edge (spot flag x)) cs
  start_passed (Alias name) key p = node_started flag m (edge (spot flag x)) cs
  start_passed (Anchor name) key p = node_started flag m (edge (spot flag x)) cs
  start_passed (Tag handle suffix) key p = node_started flag m (edge (spot flag x)) cs
  start_passed (Scalar style text) key p = node_started flag m (edge (spot flag x)) cs
  start_passed kind key p = unstarted (is_new (edge (spot flag x)) cs) flag m (blocks cs) (unflagged flag p)

-- ---- a key that is due

-- no column is right of it
abbrev pub NotRight : ℕ → List ℕ → Type 0
NotRight d [] = Unit {0}
NotRight d (n ∷ ns) = nat_lt d n ≡ false

abbrev pub DueFits : Option ℕ → List ℕ → Type 0
DueFits None cs = Unit {0}
DueFits (Some d) cs = NotRight d cs

pop_same : (r d : ℕ) (cs : List ℕ) → nat_lt r d ≡ false → NotRight d cs → pop r cs ≡ cs
pop_same r d [] e p = refl
pop_same r d (n ∷ ns) e p =
    let f : nat_lt r n ≡ false = grind (arith, nat_tests, e, p) in ap (λ v. chosen v (pop r ns) (n ∷ ns)) f

pop_front : (k : ℕ) (cs : List ℕ) → NotRight k (pop k cs)
pop_front k [] = tt
pop_front k (n ∷ ns) = on (nat_lt k n) refl (pop_front k ns)
  where
    on : (v : Bool) → nat_lt k n ≡ v → NotRight k (pop k ns) → NotRight k (chosen v (pop k ns) (n ∷ ns))
    on true e p = p
    on false e p = e

module _ (x : Lexeme) (flag : Bool) (m : Mark) (d : ℕ) (cs : List ℕ) (new : Bool) where
  abbrev Waits : LexemeKind → Option KeyStart → Type 0
  Waits kind key = (passed (block_start flag kind key new m) (blocks (push d cs)) ≡ Some (blocks (push d cs)))
      × (blocks (push d cs) ≡ blocks (due_pushed (due_by (terminal_kind kind key) (spot flag x) (Some d))
      (entry_columns (terminal_kind kind key) (edge (spot flag x)) (Some d) cs)))
      × DueFits (due_by (terminal_kind kind key) (spot flag x) (Some d))
      (entry_columns (terminal_kind kind key) (edge (spot flag x)) (Some d) cs)

  part_waits : flag ≡ false → NotRight d cs
      → (passed (insert_if (new && flag) BlockMappingStart m) (blocks (push d cs)) ≡ Some (blocks (push d cs)))
      × (blocks (push d cs) ≡ blocks (due_pushed (due_if flag (edge (spot flag x)) (Some d)) cs))
      × DueFits (due_if flag (edge (spot flag x)) (Some d)) cs
  part_waits f n = (
    unstarted new flag m (blocks (push d cs)) f,
    ap (λ b. blocks (due_pushed (due_if b (edge (spot flag x)) (Some d)) cs)) (sym f),
    subst (λ b. DueFits (due_if b (edge (spot flag x)) (Some d)) cs) (sym f) n,
  )

  waits : (kind : LexemeKind) (key : Option KeyStart) → IsFlaggedNode flag kind key
      → begins_kind (terminal_kind kind key) flag ≡ false → NotRight d cs → Waits kind key
  waits Dash key p b n = absurd cc
  waits Question key p b n = absurd cc
  waits Colon None p b n = absurd cc
  waits Colon (Some k) p b n = (unstarted new false m (blocks (push d cs)) refl, refl, tt)
  waits (Open c) key p b n = part_waits b n
  waits (Alias name) key p b n = part_waits b n
  waits (Anchor name) key p b n = part_waits b n
  waits (Tag handle suffix) key p b n = part_waits b n
  waits (Scalar style text) key p b n = part_waits b n
  waits kind key p b n = (unstarted new flag m (blocks (push d cs)) (unflagged flag p), refl, n)

-- a key that a lexeme begins fits
module _ (x : Lexeme) (flag : Bool) (cs : List ℕ) where
  abbrev pub Fits : LexemeKind → Option KeyStart → Type 0
  Fits kind key = DueFits (due_by (terminal_kind kind key) (spot flag x) None)
      (entry_columns (terminal_kind kind key) (edge (spot flag x)) None
      (pop (reach_of (terminal_kind kind key) (spot flag x)) cs))

  part_fits : (v : Bool) → DueFits (due_if v (edge (spot flag x)) None) (pop (edge (spot flag x)) cs)
  part_fits true = pop_front (edge (spot flag x)) cs
  part_fits false = tt

  begun_fits : (kind : LexemeKind) (key : Option KeyStart) → Fits kind key
  begun_fits (Open c) key = part_fits flag
  begun_fits (Alias name) key = part_fits flag
  begun_fits (Anchor name) key = part_fits flag
  begun_fits (Tag handle suffix) key = part_fits flag
  begun_fits (Scalar style text) key = part_fits flag
  begun_fits Colon None = tt
  begun_fits Colon (Some k) = tt
  begun_fits kind key = tt

-- ---- pairs

abbrev pub NonePaired : List Bool → Type 0
NonePaired [] = Unit {0}
NonePaired (p ∷ ps) = (p ≡ false) × NonePaired ps

-- no pair is open outside brackets
abbrev pub PairsInside : List Bracket → List Bool → Type 0
PairsInside [] ps = NonePaired ps
PairsInside (b ∷ bs) ps = PairsInside bs (drop 1 ps)

none_top : (ps : List Bool) → NonePaired ps → top_pair ps ≡ false
none_top [] p = refl
none_top (q ∷ ps) p = p.0

none_behind : (ps : List Bool) → NonePaired ps → NonePaired (drop 1 ps)
none_behind [] p = tt
none_behind (q ∷ ps) p = p.1

-- a `,` and a closer end the pair that is open
abbrev pub ends_pair : LexemeKind → Bool
ends_pair Comma = true
ends_pair (Close bracket) = true
ends_pair kind = false

abbrev pub ended : LexemeKind → List Bool → List Bool
ended Comma ps = false ∷ drop 1 ps
ended (Close bracket) ps = false ∷ drop 1 ps
ended kind ps = ps

pair_ended : (v : Bool) (m : Mark) (st : Openings) → passed (insert_if v PairEnd m) (pair_open v st) ≡ Some st
pair_ended true m st = refl
pair_ended false m st = refl

pair_started : (v : Bool) (m : Mark) (st : Openings) (qs : List Bool) → (v ≡ true → top_pair qs ≡ false)
    → passed (insert_if v PairStart m) (pair_open (top_pair qs) st) ≡ Some (pair_open (top_pair (with_pair_if v qs)) st)
pair_started true m st qs p = ap (λ w. Some (OfPair ∷ pair_open w st)) (p refl)
pair_started false m st qs p = refl

same_behind : (v : Bool) (qs : List Bool) → drop 1 (with_pair_if v qs) ≡ drop 1 qs
same_behind true qs = refl
same_behind false qs = refl

module _ (b : Bracket) (bs : List Bracket) (ps : List Bool) (st : Openings) (m : Mark) where
  abbrev opened_at : List Bool → Openings
  opened_at qs = inside (b ∷ bs) qs st

  end_passed : (kind : LexemeKind)
      → passed (insert_if (ends_single kind ps) PairEnd m) (opened_at ps) ≡ Some (opened_at (ended kind ps))
  end_passed Comma = pair_ended (top_pair ps) m (OfBracket b ∷ inside bs (drop 1 ps) st)
  end_passed (Close bracket) = pair_ended (top_pair ps) m (OfBracket b ∷ inside bs (drop 1 ps) st)
  end_passed kind = refl

  pair_passed : (v : Bool) (qs : List Bool) → (v ≡ true → top_pair qs ≡ false)
      → passed (insert_if v PairStart m) (opened_at qs) ≡ Some (opened_at (with_pair_if v qs))
  pair_passed v qs p =
      pair_started v m (OfBracket b ∷ inside bs (drop 1 qs) st) qs p
      ∙ ap (λ ds. Some (pair_open (top_pair (with_pair_if v qs)) (OfBracket b ∷ inside bs ds st)))
      (sym (same_behind v qs))

ended_top : (kind : LexemeKind) (ps : List Bool) → top_pair ps ≡ false → top_pair (ended kind ps) ≡ false
ended_top Comma ps e = refl
ended_top (Close bracket) ps e = refl
ended_top kind ps e = e

same_pairs : (kind : LexemeKind) (v : Bool) (ps : List Bool) → (v ≡ true → ends_pair kind ≡ false)
    → pairs_behind kind (with_pair_if v (ended kind ps)) ≡ pairs_behind kind (with_pair_if v ps)
same_pairs Comma true ps p = absurd (let e = p refl in cc)
same_pairs (Close bracket) true ps p = absurd (let e = p refl in cc)
same_pairs Comma false ps p = refl
same_pairs (Close bracket) false ps p = refl
same_pairs kind v ps p = refl

quiet_pairs : (kind : LexemeKind) (v : Bool) (ps : List Bool) → (v ≡ true → ends_pair kind ≡ false)
    → ends_pair kind ≡ true → top_pair (with_pair_if v (ended kind ps)) ≡ false
quiet_pairs kind true ps p e = absurd (let f = p refl in cc)
quiet_pairs Comma false ps p e = refl
quiet_pairs (Close bracket) false ps p e = refl
quiet_pairs kind false ps p e = absurd cc

-- ---- the lexeme itself

closed_passed : (bracket b : Bracket) (st : Openings) → bracket_is b bracket ≡ true
    → closes_of bracket (OfBracket b ∷ st) ≡ Some st
closed_passed Square Square st e = refl
closed_passed Curly Curly st e = refl
closed_passed Square Curly st e = absurd cc
closed_passed Curly Square st e = absurd cc

close_passed : (bracket : Bracket) (bs : List Bracket) (ps : List Bool) (st : Openings)
    → is_innermost bracket bs ≡ true → top_pair ps ≡ false
    → closes_of bracket (inside bs ps st) ≡ Some (inside (outer_brackets bs) (drop 1 ps) st)
close_passed bracket [] ps st c q = absurd cc
close_passed bracket (b ∷ bs) ps st c q =
    ap (λ v. closes_of bracket (pair_open v (OfBracket b ∷ inside bs (drop 1 ps) st))) q
    ∙ closed_passed bracket b (inside bs (drop 1 ps) st) c

comma_same : (bs : List Bracket) (ps : List Bool) (st : Openings) → top_pair ps ≡ false
    → inside bs ps st ≡ inside bs (false ∷ drop 1 ps) st
comma_same [] ps st q = refl
comma_same (b ∷ bs) ps st q = ap (λ v. pair_open v (OfBracket b ∷ inside bs (drop 1 ps) st)) q

own_passed : (kind : LexemeKind) (key : Option KeyStart) (bs : List Bracket) (ps : List Bool) (st : Openings)
    → closes_innermost (terminal_kind kind key) bs ≡ true → (ends_pair kind ≡ true → top_pair ps ≡ false)
    → kind_passed kind (inside bs ps st)
    ≡ Some (inside (open_behind (terminal_kind kind key) bs) (pairs_behind kind ps) st)
own_passed (Open bracket) key bs ps st c q = refl
own_passed (Close bracket) key bs ps st c q = close_passed bracket bs ps st c (q refl)
own_passed Comma key bs ps st c q = ap (λ (st : Openings). Some st) (comma_same bs ps st (q refl))
own_passed kind key bs ps st c q = refl

-- ---- in brackets

module _ (kind : LexemeKind) (key : Option KeyStart) (m : Mark) (flag single : Bool) (ps : List Bool) (b : Bracket)
    (bs : List Bracket) (st : Openings) (closes : closes_innermost (terminal_kind kind key) (b ∷ bs) ≡ true)
    (fresh : single ≡ true → top_pair ps ≡ false) (begins : single ≡ true → ends_pair kind ≡ false) where
  abbrev pub between : Openings
  between = inside (b ∷ bs) (with_pair_if single (ended kind ps)) st

  unbegun : (kind : LexemeKind) (key : Option KeyStart) (st : Openings)
      → passed (block_start flag kind key false m) st ≡ Some st
  unbegun Dash key st = refl
  unbegun Question key st = refl
  unbegun Colon key st = refl
  unbegun kind key st = refl

  pub in_brackets : (passed (shaped 0 false single flag ps kind key m) (inside (b ∷ bs) ps st) ≡ Some between)
      × (kind_passed kind between
      ≡ Some (inside (open_behind (terminal_kind kind key) (b ∷ bs)) (pairs_behind kind (with_pair_if single ps)) st))
  in_brackets = (
    shaped_passed 0 false single flag ps kind key m (inside (b ∷ bs) ps st) (inside (b ∷ bs) ps st)
        (inside (b ∷ bs) (ended kind ps) st) (inside (b ∷ bs) (ended kind ps) st) between refl
        (end_passed b bs ps st m kind) (unbegun kind key (inside (b ∷ bs) (ended kind ps) st))
        (pair_passed b bs ps st m single (ended kind ps) (λ e. ended_top kind ps (fresh e))),
    own_passed kind key (b ∷ bs) (with_pair_if single (ended kind ps)) st closes (quiet_pairs kind single ps begins)
        ∙ ap (λ (qs : List Bool). Some (inside (open_behind (terminal_kind kind key) (b ∷ bs)) qs st))
        (same_pairs kind single ps begins),
  )

-- ---- outside brackets

unended : (kind : LexemeKind) (ps : List Bool) (m : Mark) (st : Openings) → top_pair ps ≡ false
    → passed (insert_if (ends_single kind ps) PairEnd m) st ≡ Some st
unended Comma ps m st e = ap (λ v. passed (insert_if v PairEnd m) st) e
unended (Close bracket) ps m st e = ap (λ v. passed (insert_if v PairEnd m) st) e
unended kind ps m st e = refl

module _ (x : Lexeme) (kind : LexemeKind) (key : Option KeyStart) (m : Mark) (flag : Bool) (ps : List Bool)
    (cs : List ℕ) (closes : closes_innermost (terminal_kind kind key) [] ≡ true) (none : NonePaired ps)
    (node : IsFlaggedNode flag kind key) where
  abbrev pub reach : ℕ
  reach = reach_of (terminal_kind kind key) (spot flag x)

  abbrev pub left : List ℕ
  left = pop reach cs

  -- what is open behind it where a key is due or not
  abbrev pub behind_it : Option ℕ → Openings
  behind_it due = blocks (due_pushed (due_by (terminal_kind kind key) (spot flag x) due)
      (entry_columns (terminal_kind kind key) (edge (spot flag x)) due left))

  pub own_outside : (due : Option ℕ) → kind_passed kind (behind_it due)
      ≡ Some (inside (open_behind (terminal_kind kind key) []) (pairs_behind kind ps) (behind_it due))
  own_outside due = own_passed kind key [] ps (behind_it due) closes (λ e. none_top ps none)

  no_key_due :
      passed (shaped (length cs - length left) (is_new (edge (spot flag x)) left) false flag ps kind key m) (blocks cs)
      ≡ Some (behind_it None)
  no_key_due =
      shaped_passed (length cs - length left) (is_new (edge (spot flag x)) left) false flag ps kind key m (blocks cs)
      (blocks left) (blocks left) (behind_it None) (behind_it None) (ends_passed m reach cs)
      (unended kind ps m (blocks left) (none_top ps none)) (start_passed x flag m left kind key node) refl

  key_due : (d : ℕ) → begins_kind (terminal_kind kind key) flag ≡ false → nat_lt reach d ≡ false → NotRight d cs
      → (passed (shaped (length cs - length left) (is_new (edge (spot flag x)) left) false flag ps kind key m)
      (blocks (push d cs))
      ≡ Some (behind_it (Some d)))
      × DueFits (due_by (terminal_kind kind key) (spot flag x) (Some d))
      (entry_columns (terminal_kind kind key) (edge (spot flag x)) (Some d) left)
  key_due d b r n =
      let same : left ≡ cs = pop_same reach d cs r n in
      let w = waits x flag m d cs (is_new (edge (spot flag x)) left) kind key node b n in
      let gone : (length cs - length left) ≡ 0 =
      let e = ap (λ (ns : List ℕ). length ns) same in omega (arith, e) in (
        shaped_passed (length cs - length left) (is_new (edge (spot flag x)) left) false flag ps kind key m
            (blocks (push d cs))
            (blocks (push d cs)) (blocks (push d cs)) (blocks (push d cs)) (blocks (push d cs))
            (none_passed m (length cs - length left) (blocks (push d cs)) gone)
            (unended kind ps m (blocks (push d cs)) (none_top ps none)) w.0 refl
            ∙ ap (λ (st : Openings). Some st) (w.1
            ∙ ap (λ (ns : List ℕ). blocks (due_pushed (due_by (terminal_kind kind key) (spot flag x) (Some d))
            (entry_columns (terminal_kind kind key) (edge (spot flag x)) (Some d) ns))) (sym same)),
        subst (λ ns. DueFits (due_by (terminal_kind kind key) (spot flag x) (Some d))
            (entry_columns (terminal_kind kind key) (edge (spot flag x)) (Some d) ns)) (sym same) w.2,
      )

  -- a key that is due or none
  pub outside_passed : (due : Option ℕ)
      → ((c : ℕ) → due ≡ Some c → begins_kind (terminal_kind kind key) flag ≡ false)
      → ((c : ℕ) → due ≡ Some c → nat_lt reach c ≡ false) → DueFits due cs
      → (passed (shaped (length cs - length left) (is_new (edge (spot flag x)) left) false flag ps kind key m)
      (blocks (due_pushed due cs)) ≡ Some (behind_it due))
      × DueFits (due_by (terminal_kind kind key) (spot flag x) due)
      (entry_columns (terminal_kind kind key) (edge (spot flag x)) due left)
  outside_passed None begins stands fits = (no_key_due, begun_fits x flag cs kind key)
  outside_passed (Some d) begins stands fits = key_due d (begins d refl) (stands d refl) fits

-- ---- what is kept behind a lexeme

paired_inside : (bs : List Bracket) (ps : List Bool) (v : Bool) → (bs ≡ [] → v ≡ false) → PairsInside bs ps
    → PairsInside bs (with_pair_if v ps)
paired_inside [] ps true e p = absurd (let f = e refl in cc)
paired_inside [] ps false e p = p
paired_inside (b ∷ bs) ps v e p = subst (PairsInside bs) (sym (same_behind v ps)) p

comma_inside : (bs : List Bracket) (ps : List Bool) → PairsInside bs ps → PairsInside bs (false ∷ drop 1 ps)
comma_inside [] ps p = (refl, none_behind ps p)
comma_inside (b ∷ bs) ps p = p

close_inside : (bracket : Bracket) (bs : List Bracket) (ps : List Bool) → is_innermost bracket bs ≡ true
    → PairsInside bs ps → PairsInside (outer_brackets bs) (drop 1 ps)
close_inside bracket [] ps c p = absurd cc
close_inside bracket (b ∷ bs) ps c p = p

pub inside_behind : (kind : LexemeKind) (key : Option KeyStart) (bs : List Bracket) (ps : List Bool) (v : Bool)
    → (bs ≡ [] → v ≡ false) → closes_innermost (terminal_kind kind key) bs ≡ true → PairsInside bs ps
    → PairsInside (open_behind (terminal_kind kind key) bs) (pairs_behind kind (with_pair_if v ps))
inside_behind (Open bracket) key bs ps v e c p = paired_inside bs ps v e p
inside_behind (Close bracket) key bs ps v e c p = close_inside bracket bs (with_pair_if v ps) c
    (paired_inside bs ps v e p)
inside_behind Comma key bs ps v e c p = comma_inside bs (with_pair_if v ps) (paired_inside bs ps v e p)
inside_behind kind key bs ps v e c p = paired_inside bs ps v e p

-- behind what lets a key begin in flow no pair is open
pub fresh_behind : (kind : LexemeKind) (key : Option KeyStart) (ps : List Bool)
    → may_follow (terminal_kind kind key) ≡ true → top_pair (pairs_behind kind ps) ≡ false
fresh_behind (Open bracket) key ps e = refl
fresh_behind Comma key ps e = refl
fresh_behind kind key ps e = absurd cc
