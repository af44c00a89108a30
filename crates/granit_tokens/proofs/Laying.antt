-- What is inserted before a lexeme passes what is open where a state of the reader stands.
use Rattle.std.proofs.Common.{◌≡◌, ℕ, suc, ◌-◌, ◌==◌, ◌&&◌, ◌||◌, not, Bool, true, false, List, [], ◌∷◌, map, length}
use Rattle.std.proofs.Common.{Option, Some, None, refl, sym, ap, ap₂, ◌∙◌, subst, arith}
use Rattle.std.specs.Prelude.{if◌then◌else◌}
use Rattle.std.proofs.lemmas.Bool.Decides.{nat_tests}
use Rattle.std.proofs.lemmas.List.{length-map}
use Rattle.granit_language.specs.OpenColumns.{columns_of}
use Rattle.granit_language.specs.Scope.{no_scope}
use Rattle.granit_language.specs.Seen.{terminal_kind, at_of, terminal_of}
use Rattle.granit_language.specs.Terminal.{reach_of}
use Rattle.granit_lexemes.specs.Comment.{CommentRead}
use Rattle.granit_lexemes.specs.Lexeme.{LexemeKind, Directive, DocumentStart, DocumentEnd, StreamEnd, Close, Comma}
use Rattle.granit_lexemes.specs.Lexeme.{Colon, KeyStart, Lexeme, OfLexeme}
use Rattle.granit_lexemes.specs.declared.layout.Bracket.{Bracket}
use Rattle.granit_lexemes.specs.declared.layout.OpenBracket.{OpenBracket}
use Rattle.granit_lexemes.specs.declared.layout.OpenColumn.{OpenColumn}
use Rattle.granit_machine.specs.Columns.{up_to_column}
use Rattle.granit_machine.specs.Laid.{Laid, is_opener, is_nonempty, is_in_flow, in_square, innermost_column, is_column}
use Rattle.granit_places.proofs.ColumnsKept.{pop, popped}
use Rattle.granit_steps.specs.Tokens.{Own, left_open, ended_blocks, is_new_column, is_bare_colon_of}
use Rattle.granit_steps.specs.Tokens.{begins_single, top_pair, with_pair_if, pairs_behind, tail_token, inserted}
use Rattle.granit_steps.specs.Tokens.{tokens_of, pairs_of}
use Rattle.granit_order.specs.Order.{open_behind, closes_innermost, due_behind, KeepsKey}
use Rattle.granit_order.proofs.BracketsPassed.{kinds_in}
use Rattle.granit_order.proofs.ColumnLists.{edges, due_pushed, columns_behind, pop_suc, pop_all}
use Rattle.granit_order.proofs.KeysKept.{shut}
use Rattle.granit_tokens.proofs.Openings.{Openings, kind_passed, and_then, passed, passed_both}
use Rattle.granit_tokens.proofs.Stacks.{blocks, open_at, shaped, is_new, IsFlaggedNode, DueFits, PairsInside, ends_pair}
use Rattle.granit_tokens.proofs.Stacks.{in_brackets, outside_passed, own_outside, inside_behind}

-- ---- columns, counted from 1

abbrev edges_in : List OpenColumn → List ℕ
edges_in cs = map suc (map (λ (c : OpenColumn). c.column) cs)

length_edges : (cs : List OpenColumn) → length (edges_in cs) ≡ length cs
length_edges cs = length-map (map (λ (c : OpenColumn). c.column) cs) suc ∙ length-map cs (λ (c : OpenColumn). c.column)

suc_same : (a b : ℕ) → (suc a == suc b) ≡ (a == b)
suc_same a b = on (a == b) refl
  where
    on : (v : Bool) → (a == b) ≡ v → (suc a == suc b) ≡ v
    on true e = grind (arith, nat_tests, e)
    on false e = grind (arith, nat_tests, e)

new_in : (cs : List OpenColumn) (column : ℕ)
    → not (is_column (innermost_column cs) column) ≡ is_new (suc column) (edges_in cs)
new_in [] column = refl
new_in (c ∷ cs) column = ap not (sym (suc_same c.column column))

-- ---- what a lexeme leaves open

module _ (s : Laid) (x : Lexeme) (flag : Bool) where
  abbrev column : ℕ
  column = x.start.place.column

  abbrev reach_at : LexemeKind → Option KeyStart → ℕ
  reach_at kind key = reach_of (terminal_kind kind key) (at_of flag no_scope x)

  left_outer : is_in_flow s ≡ false
      → edges_in (if is_in_flow s then s.columns else []) ≡ pop 0 (edges s)
  left_outer e =
      ap (λ v. edges_in (if v then s.columns else [])) e ∙ pop_all (columns_of s)

  left_inner : is_in_flow s ≡ false
      → edges_in (if is_in_flow s then s.columns else up_to_column column s.columns) ≡ pop (suc column) (edges s)
  left_inner e =
      ap (λ v. edges_in (if v then s.columns else up_to_column column s.columns)) e
      ∙ ap (map suc) (popped column s.columns) ∙ pop_suc column (columns_of s)

  left_edges : (kind : LexemeKind) (key : Option KeyStart) → is_in_flow s ≡ false
      → edges_in (left_open kind column s).columns ≡ pop (reach_at kind key) (edges s)
  left_edges (Directive d) key e = left_outer e
  left_edges DocumentStart key e = left_outer e
  left_edges DocumentEnd key e = left_outer e
  left_edges StreamEnd key e = left_outer e
  left_edges Colon None e = left_inner e
  left_edges Colon (Some k) e = left_inner e
  left_edges kind key e = left_inner e

  left_same : (kind : LexemeKind) → is_in_flow s ≡ true → (left_open kind column s).columns ≡ s.columns
  left_same (Directive d) e = ap (λ v. if v then s.columns else []) e
  left_same DocumentStart e = ap (λ v. if v then s.columns else []) e
  left_same DocumentEnd e = ap (λ v. if v then s.columns else []) e
  left_same StreamEnd e = ap (λ v. if v then s.columns else []) e
  left_same kind e = ap (λ v. if v then s.columns else up_to_column column s.columns) e

  abbrev left_at : List ℕ
  left_at = pop (reach_at x.kind x.key) (edges s)

  ended_outside : is_in_flow s ≡ false → ended_blocks x s ≡ length (edges s) - length left_at
  ended_outside e =
      ap₂ (λ a b. a - b) (sym (length_edges s.columns))
      (sym (length_edges (left_open x.kind column s).columns) ∙ ap (λ (ns : List ℕ). length ns)
      (left_edges x.kind x.key e))

  ended_inside : is_in_flow s ≡ true → ended_blocks x s ≡ 0
  ended_inside e =
      let f = ap (λ (cs : List OpenColumn). length cs) (left_same x.kind e) in omega (arith, f)

  new_outside : is_in_flow s ≡ false → is_new_column x s ≡ is_new (suc column) left_at
  new_outside e =
      ap (λ v. not v && not (is_column (innermost_column (left_open x.kind column s).columns) column)) e
      ∙ new_in (left_open x.kind column s).columns column ∙ ap (is_new (suc column)) (left_edges x.kind x.key e)

  new_inside : is_in_flow s ≡ true → is_new_column x s ≡ false
  new_inside e = ap (λ v. not v && not (is_column (innermost_column (left_open x.kind column s).columns) column)) e

  shaped_is : (ps : List Bool) (n : ℕ) (v w : Bool) → ended_blocks x s ≡ n → is_new_column x s ≡ v
      → begins_single flag x s ≡ w → inserted s flag ps x ≡ shaped n v w flag ps x.kind x.key x.start
  shaped_is ps n v w a b c =
      ap (λ n. shaped n (is_new_column x s) (begins_single flag x s) flag ps x.kind x.key x.start) a
      ∙ ap (λ v. shaped n v (begins_single flag x s) flag ps x.kind x.key x.start) b
      ∙ ap (λ w. shaped n v w flag ps x.kind x.key x.start) c

-- ---- single pairs

single_says : (q f b o : Bool) → (q && (f || (b && o))) ≡ true → (f ≡ true → o ≡ true) → o ≡ true
single_says true true b o e p = p refl
single_says true false true o e p = e
single_says true false false o e p = absurd cc
single_says false f b o e p = absurd cc

not_ended : (q f o : Bool) → (f ≡ true → ◌≡◌ {A = Bool} false true) → (q && (f || (false && o))) ≡ true
    → ◌≡◌ {A = Bool} true false
not_ended true true o n e = sym (n refl)
not_ended true false o n e = sym e
not_ended false f o n e = sym e

single_kind : (q f o : Bool) (kind : LexemeKind) (key : Option KeyStart) → IsFlaggedNode f kind key
    → (q && (f || (is_bare_colon_of kind key && o))) ≡ true → ends_pair kind ≡ false
single_kind q f o Comma key n e = not_ended q f o n e
single_kind q f o (Close bracket) key n e = not_ended q f o n e
single_kind q f o kind key n e = refl

-- ---- a lexeme

tail_passed : (c : Option CommentRead) (st : Openings) → passed (tail_token c) st ≡ Some st
tail_passed None st = refl
tail_passed (Some c) st = refl

own_passed : (x : Lexeme) (b c : Openings) → kind_passed x.kind b ≡ Some c
    → passed (Own x ∷ tail_token x.tail) b ≡ Some c
own_passed x b c e = ap (λ r. and_then r (passed (tail_token x.tail))) e ∙ tail_passed x.tail c

some_brackets : (bs : List OpenBracket) (b : Bracket) (cs : List Bracket) → kinds_in bs ≡ b ∷ cs
    → is_nonempty bs ≡ true
some_brackets [] b cs e = absurd cc
some_brackets (c ∷ bs) b cs e = refl

-- where a key may begin in flow no pair is open
abbrev pub Fresh : List Bracket → Laid → List Bool → Type 0
Fresh bs s ps = is_nonempty bs ≡ true → is_opener s.last ≡ true → top_pair ps ≡ false

module _ (s : Laid) (x : Lexeme) (flag : Bool) (ps : List Bool) where
  -- what is open behind it
  abbrev pub after_it : List Bracket → Option ℕ → Openings
  after_it bs due = open_at (open_behind (terminal_kind x.kind x.key) bs) (pairs_of s flag ps (OfLexeme x))
      (due_behind bs (terminal_kind x.kind x.key) (at_of flag no_scope x) due)
      (columns_behind bs (terminal_kind x.kind x.key) (at_of flag no_scope x) due (edges s))

  pub record Passes (bs : List Bracket) (due : Option ℕ) : Type 0 where
    pub tokens : passed (tokens_of s flag ps (OfLexeme x)) (open_at bs ps due (edges s)) ≡ Some (after_it bs due)
    pub fits : DueFits (due_behind bs (terminal_kind x.kind x.key) (at_of flag no_scope x) due)
        (columns_behind bs (terminal_kind x.kind x.key) (at_of flag no_scope x) due (edges s))

  module _ (node : IsFlaggedNode flag x.kind x.key) where
    -- in front of it and itself
    by_shape : (n : ℕ) (v w : Bool) (a b c : Openings) → ended_blocks x s ≡ n → is_new_column x s ≡ v
        → begins_single flag x s ≡ w → passed (shaped n v w flag ps x.kind x.key x.start) a ≡ Some b
        → kind_passed x.kind b ≡ Some c → passed (tokens_of s flag ps (OfLexeme x)) a ≡ Some c
    by_shape n v w a b c e f g p q =
        passed_both (inserted s flag ps x) (Own x ∷ tail_token x.tail) a b (Some c)
        (ap (λ ts. passed ts a) (shaped_is s x flag ps n v w e f g) ∙ p) (own_passed x b c q)

    unsingle : kinds_in s.brackets ≡ [] → begins_single flag x s ≡ false
    unsingle none = ap (λ (bs : List OpenBracket). in_square bs
        && (flag || (is_bare_colon_of x.kind x.key && is_opener s.last))) (shut s.brackets none)

    outside : (due : Option ℕ) → kinds_in s.brackets ≡ [] → closes_innermost (terminal_kind x.kind x.key) [] ≡ true
        → KeepsKey [] due (terminal_of flag no_scope x) → PairsInside [] ps → DueFits due (edges s) → Passes [] due
    outside due none closes keeps pairs fits =
        let out : is_in_flow s ≡ false = ap (λ (bs : List OpenBracket). is_nonempty bs)
        (shut s.brackets none) in
        let p = outside_passed x x.kind x.key x.start flag ps (edges s) closes pairs node due
        (λ c e. keeps.begins_none c refl e) (λ c e. keeps.stands_right c refl e) fits in
        record {
          tokens = subst (λ v. passed (tokens_of s flag ps (OfLexeme x)) (blocks (due_pushed due (edges s)))
              ≡ Some (open_at (open_behind (terminal_kind x.kind x.key) []) (pairs_behind x.kind (with_pair_if v ps))
              (due_behind [] (terminal_kind x.kind x.key) (at_of flag no_scope x) due)
              (columns_behind [] (terminal_kind x.kind x.key) (at_of flag no_scope x) due (edges s))))
              (sym (unsingle none))
              (by_shape _ _ false (blocks (due_pushed due (edges s))) _ _ (ended_outside s x flag out)
              (new_outside s x flag out) (unsingle none) p.0
              (own_outside x x.kind x.key x.start flag ps (edges s) closes pairs node due));
          fits = p.1;
        }

    within : (b : Bracket) (bs : List Bracket) (due : Option ℕ) → kinds_in s.brackets ≡ b ∷ bs
        → closes_innermost (terminal_kind x.kind x.key) (b ∷ bs) ≡ true → (flag ≡ true → is_opener s.last ≡ true)
        → Fresh (b ∷ bs) s ps → DueFits due (edges s) → Passes (b ∷ bs) due
    within b bs due some closes opener fresh fits =
        let flow : is_in_flow s ≡ true = some_brackets s.brackets b bs some in
        let single = begins_single flag x s in
        let p = in_brackets x.kind x.key x.start flag single ps b bs (blocks (due_pushed due (edges s))) closes
        (λ e. fresh refl (single_says (in_square s.brackets) flag (is_bare_colon_of x.kind x.key) (is_opener s.last) e
        opener))
        (λ e. single_kind (in_square s.brackets) flag (is_opener s.last) x.kind x.key node e) in
        record {
          tokens = by_shape 0 false single _ _ _ (ended_inside s x flag flow) (new_inside s x flag flow) refl p.0 p.1;
          fits = fits;
        }

    pub lexeme_passes : (bs : List Bracket) (due : Option ℕ) → kinds_in s.brackets ≡ bs
        → closes_innermost (terminal_kind x.kind x.key) bs ≡ true
        → (is_nonempty bs ≡ true → flag ≡ true → is_opener s.last ≡ true)
        → KeepsKey bs due (terminal_of flag no_scope x) → PairsInside bs ps → Fresh bs s ps → DueFits due (edges s)
        → Passes bs due
    lexeme_passes [] due is closes opener keeps pairs fresh fits = outside due is closes keeps pairs fits
    lexeme_passes (b ∷ bs) due is closes opener keeps pairs fresh fits =
        within b bs due is closes (opener refl) fresh fits

    -- pairs stay inside brackets
    pub pairs_after : (bs : List Bracket) → kinds_in s.brackets ≡ bs
        → closes_innermost (terminal_kind x.kind x.key) bs ≡ true → PairsInside bs ps
        → PairsInside (open_behind (terminal_kind x.kind x.key) bs) (pairs_of s flag ps (OfLexeme x))
    pairs_after bs is closes pairs =
        inside_behind x.kind x.key bs ps (begins_single flag x s)
        (λ e. unsingle (is ∙ e)) closes pairs
