-- All that is read from a state on: which keys are found there, and that they nest.
use Rattle.std.proofs.Common.{◌≡◌, ℕ, zero, suc, ◌<◌, ◌==◌, ◌||◌, Bool, true, false, List, [], ◌∷◌, ◌++◌, Option, Some}
use Rattle.std.proofs.Common.{None, Result, Ok, Err, refl, sym, ap, ap₂, subst, ◌∙◌, inl, inr, arith}
use Rattle.std.proofs.lemmas.Bool.{or_from, eq-eqb}
use Rattle.std.proofs.lemmas.Bool.Decides.{nat_tests}
use Rattle.granit_error.specs.OptionsData.{OptionsData}
use Rattle.granit_lexemes.specs.Lexeme.{KeyStart, Lexeme, Item, OfLexeme, OfComment}
use Rattle.granit_lexemes.specs.Outcome.{Fault, ◌>>=◌}
use Rattle.granit_lexemes.specs.Pieces.{with_front, then_more, turns, pieces}
use Rattle.granit_termination.proofs.LexLengths.{lex_by}
use Rattle.granit_machine.specs.Laid.{Laid}
use Rattle.granit_machine.specs.Lexing.{Flagging, is_nearest, others, and_key, flag_lexeme, flagging}
use Rattle.granit_machine.specs.Reader.{read, LexState, behind_read, lex_turn, lex_len, is_end}
use Rattle.granit_machine.specs.ReaderState.{Read}
use Rattle.granit_steps.specs.Flags.{is_wanted, is_keyed, with_flag, flags}
use Rattle.granit_steps.proofs.KeyReads.{possibles, KeysBehind, IsComment, Items, Lexed, read_keys}
use Rattle.granit_steps.proofs.Subs.{Sub, sub_nil, sub_refl, sub_trans, sub_rest, is_in, sub_in, Below}
use Rattle.granit_steps.proofs.Subs.{sub_below, below_suc, below_not}

-- ---- the stack of found keys

abbrev popped : Bool → List ℕ → List ℕ
popped true ns = others ns
popped false ns = ns

flag_lexeme_is : (b : Bool) (l : Lexeme) (x : Flagging)
    → flag_lexeme b l x ≡ (with_flag b (OfLexeme l) ∷ x.0, and_key l.key (popped b x.1))
flag_lexeme_is true l x = refl
flag_lexeme_is false l x = refl

in_key : (m : ℕ) (key : Option KeyStart) (xs : List ℕ) → is_in m (and_key key xs) ≡ (is_wanted m key || is_in m xs)
in_key m None xs = refl
in_key m (Some k) xs = refl

less_false : (m n : ℕ) → m < n → (n == m) ≡ false
less_false m n h = grind (arith, nat_tests)

pub greater_false : (m n : ℕ) → m < n → (m == n) ≡ false
greater_false m n h = grind (arith, nat_tests)

-- a stack of keys of which the first may be that of a lexeme
record Pops (number : ℕ) (before stack : List ℕ) (b : Bool) : Type 0 where
  same : b ≡ is_in number stack
  below : Sub (popped b stack) before
  kept : (m : ℕ) → m < number → is_in m (popped b stack) ≡ is_in m stack

pops_first : (number k : ℕ) (before stack : List ℕ) → k ≡ number → Sub stack before
    → Pops number before (k ∷ stack) (k == number)
pops_first number k before stack e p =
    let t = eq-eqb k number e in
    subst (λ b. Pops number before (k ∷ stack) b) (sym t)
    (record {
      same = sym (ap (λ b. b || is_in number stack) t);
      below = p;
      kept = λ m h. let f : (k == m) ≡ false = ap (λ n. n == m) e
          ∙ less_false m number h in sym (ap (λ b. b || is_in m stack) f);
    })

pops_none : (number : ℕ) (before stack : List ℕ) → Below number before → Sub stack before
    → Pops number before stack (is_nearest number stack)
pops_none number before [] below p = record { same = refl; below = p; kept = λ m h. refl }
pops_none number before (k ∷ stack) below p =
    let all = sub_below number (k ∷ stack) before p below in
    let f = greater_false k number all.0 in
    subst (λ b. Pops number before (k ∷ stack) b) (sym f)
    (record {
      same = sym (or_from (k == number) (is_in number stack) f (below_not number number stack (omega arith) all.1));
      below = p;
      kept = λ m h. refl;
    })

pops_one : (number : ℕ) (before stack : List ℕ) → Below number before → Sub stack (number ∷ before)
    → Pops number before stack (is_nearest number stack)
pops_one number before stack below (inr p) = pops_none number before stack below p
pops_one number before [] below (inl p) = absurd p
pops_one number before (k ∷ stack) below (inl p) = pops_first number k before stack p.0 p.1

-- ---- what is known of all items read from a state on

pub record Chain (s : Laid) (items : List Item) (t : Laid) : Type 0 where
  pub stacked : Sub (flagging items).1 (possibles s)
  pub same_flags : (flagging items).0 ≡ flags items
  pub keyed : (m : ℕ) → m < s.number → is_keyed m items ≡ is_in m (flagging items).1
  pub never_again : (m : ℕ) → m < s.number → is_in m (possibles s) ≡ false → is_in m (possibles t) ≡ false

chain_nil : (s : Laid) → Chain s [] s
chain_nil s = record {
  stacked = sub_nil (possibles s);
  same_flags = refl;
  keyed = λ m h. refl;
  never_again =
      λ m h e. e;
}

chain_comment : (s u t : Laid) (c : _) (items : List Item) → u.number ≡ s.number → Sub (possibles u) (possibles s)
    → Chain u items t → Chain s (OfComment c ∷ items) t
chain_comment s u t c items e p ch = record {
  stacked = sub_trans (flagging items).1 (possibles u) (possibles s) ch.stacked p;
  same_flags = ap (λ fs. with_flag false (OfComment c) ∷ fs) ch.same_flags;
  keyed = λ m h. ch.keyed m (omega (arith, e, h));
  never_again = λ m h none. ch.never_again m (omega (arith, e, h)) (sub_in m (possibles u) (possibles s) p none);
}

pub not_behind : (key : Option KeyStart) (number m : ℕ) (before after : List ℕ) → KeysBehind key number before after
    → m < number → is_in m before ≡ false → is_in m after ≡ false
not_behind None number m before after p h e = sub_in m after (number ∷ before) p
    (or_from (number == m) (is_in m before) (less_false m number h) e)
not_behind (Some k) number m before after p h e = sub_in m after before (sub_rest k.number after before p) e

pub below_behind : (key : Option KeyStart) (number : ℕ) (before after : List ℕ) → KeysBehind key number before after
    → Below number before → Below (suc number) after
below_behind None number before after p q = sub_below (suc number) after (number ∷ before) p
    (omega arith, below_suc number before q)
below_behind (Some k) number before after p q = below_suc number after
    (sub_below number after before (sub_rest k.number after before p) q)

-- the stack behind a lexeme, and what it leaves of it
pops_by : (key : Option KeyStart) (number : ℕ) (before after stack : List ℕ) → Below number before
    → KeysBehind key number before after → Sub stack after → Pops number before stack (is_nearest number stack)
pops_by None number before after stack below p q = pops_one number before stack below
    (sub_trans stack after (number ∷ before) q p)
pops_by (Some k) number before after stack below p q = pops_none number before stack below
    (sub_trans stack after before q (sub_rest k.number after before p))

stays_by : (key : Option KeyStart) (number : ℕ) (before after stack : List ℕ) → Below number before
    → KeysBehind key number before after → Sub stack after
    → Sub (and_key key (popped (is_nearest number stack) stack)) before
stays_by None number before after stack below p q =
    (pops_one number before stack below (sub_trans stack after (number ∷ before) q p)).below
stays_by (Some k) number before after stack below p q =
    let inner = sub_trans stack after before q (sub_rest k.number after before p) in
    let none = pops_none number before stack below inner in
    let f : is_nearest number stack ≡ false = none.same
    ∙ below_not number number stack (omega arith) (sub_below number stack before inner below) in
    subst (λ b. Sub (k.number ∷ popped b stack) before) (sym f)
    (sub_trans (k.number ∷ stack) (k.number ∷ after) before (inl (refl, q)) p)

chain_lexeme : (s u t : Laid) (l : Lexeme) (items : List Item) → Below s.number (possibles s) → l.number ≡ s.number
    → u.number ≡ suc s.number → KeysBehind l.key s.number (possibles s) (possibles u) → Chain u items t
    → Chain s (OfLexeme l ∷ items) t
chain_lexeme s u t l items below e n p ch =
    let stack = (flagging items).1 in
    let b = is_nearest l.number stack in
    let pops : Pops l.number (possibles s) stack b = subst (λ k. Pops k (possibles s) stack (is_nearest k stack))
    (sym e) (pops_by l.key s.number (possibles s) (possibles u) stack below p ch.stacked) in
    let stays : Sub (and_key l.key (popped b stack)) (possibles s) =
    subst (λ k. Sub (and_key l.key (popped (is_nearest k stack) stack)) (possibles s)) (sym e)
    (stays_by l.key s.number (possibles s) (possibles u) stack below p ch.stacked) in
    let is = flag_lexeme_is b l (flagging items) in
    let own : b ≡ is_keyed l.number items = pops.same ∙ sym (ch.keyed l.number (omega (arith, e, n))) in
    record {
      stacked = subst (λ x. Sub x.1 (possibles s)) (sym is) stays;
      same_flags = ap (λ x. x.0) is ∙ ap₂ (λ c fs. with_flag c (OfLexeme l) ∷ fs) own ch.same_flags;
      keyed = λ m h. ap (λ c. is_wanted m l.key || c)
          (ch.keyed m (omega (arith, n, h)) ∙ sym (pops.kept m (omega (arith, e, h))))
          ∙ sym (in_key m l.key (popped b stack)) ∙ sym (ap (λ (x : Flagging). is_in m x.1) is);
      never_again = λ m h none. ch.never_again m (omega (arith, n, h))
          (not_behind l.key s.number m (possibles s) (possibles u) p h none);
    }

-- ---- a read before

-- a read keeps the possible keys below the next number
pub items_below : (s u : Laid) (items : List Item) → Items s.number (possibles s) items u → Below s.number (possibles s)
    → Below u.number (possibles u)
items_below s u [] p q = absurd p
items_below s u (OfComment c ∷ []) p q = subst (λ n. Below n (possibles u)) (sym p.0)
    (sub_below s.number (possibles u) (possibles s) p.1 q)
items_below s u (OfComment c ∷ i ∷ is) p q = absurd p
items_below s u (OfLexeme l ∷ is) p q = subst (λ n. Below n (possibles u)) (sym p.1)
    (below_behind l.key s.number (possibles s) (possibles u) p.2 q)

chain_tail : (u t : Laid) (tail items : List Item) → IsComment tail → Chain u items t → Chain u (tail ++ items) t
chain_tail u t [] items p ch = ch
chain_tail u t (OfLexeme l ∷ is) items p ch = absurd p
chain_tail u t (OfComment c ∷ []) items p ch = chain_comment u u t c items refl (sub_refl (possibles u)) ch
chain_tail u t (OfComment c ∷ i ∷ is) items p ch = absurd p

chain_read : (s u t : Laid) (front items : List Item) → Below s.number (possibles s)
    → Items s.number (possibles s) front u → Chain u items t → Chain s (front ++ items) t
chain_read s u t [] items below p ch = absurd p
chain_read s u t (OfComment c ∷ []) items below p ch = chain_comment s u t c items p.0 p.1 ch
chain_read s u t (OfComment c ∷ i ∷ is) items below p ch = absurd p
chain_read s u t (OfLexeme l ∷ is) items below p ch = chain_lexeme s u t l (is ++ items) below p.0 p.1 p.2
    (chain_tail u t is items p.3 ch)

-- ---- all reads

abbrev pub LexChain : Laid → Result (List Item × LexState) Fault → Type 0
LexChain s (Ok x) = Chain s x.0 x.1.reader.laid
LexChain s (Err f) = ⊥

chain_front : (s u : Laid) (front : List Item) (r : Result (List Item × LexState) Fault) → Below s.number (possibles s)
    → Items s.number (possibles s) front u → LexChain u r → LexChain s (with_front front r)
chain_front s u front (Ok x) below p ch = chain_read s u x.1.reader.laid front x.0 below p ch
chain_front s u front (Err f) below p ch = absurd ch

abbrev ChainsOn : OptionsData → ℕ → Type 0
ChainsOn o n = (s : LexState) → Below s.reader.laid.number (possibles s.reader.laid)
    → LexChain s.reader.laid (turns (lex_turn o) n s)

read_chain : (o : OptionsData) (n : ℕ) (s : LexState) (r : Read) → ChainsOn o n
    → Below s.reader.laid.number (possibles s.reader.laid) → Lexed s.reader.laid.number (possibles s.reader.laid) r
    → LexChain s.reader.laid (behind_read r s.reader >>= λ x. then_more (turns (lex_turn o) n) x.0 x.1)
read_chain o n s (Err f) more below p = chain_nil s.reader.laid
read_chain o n s (Ok x) more below p =
    let after : LexState = record { reader = x.1; ended = is_end x.0; fault = None } in
    chain_front s.reader.laid x.1.laid x.0 (turns (lex_turn o) n after) below p
    (more after (items_below s.reader.laid x.1.laid x.0 p below))

turn_chain : (o : OptionsData) (n : ℕ) (s : LexState) (b : Bool) → ChainsOn o n
    → Below s.reader.laid.number (possibles s.reader.laid)
    → LexChain s.reader.laid (lex_by b o s >>= λ x. then_more (turns (lex_turn o) n) x.0 x.1)
turn_chain o n s true more below = chain_nil s.reader.laid
turn_chain o n s false more below = read_chain o n s (read o s.reader) more below (read_keys o s.reader)

lex_chain : (o : OptionsData) (n : ℕ) → ChainsOn o n
unfolding turns lex_turn
lex_chain o zero s below = chain_nil s.reader.laid
lex_chain o (suc n) s below = turn_chain o n s s.ended (lex_chain o n) below

-- all that is read from a state on
pub pieces_chain : (o : OptionsData) (s : LexState) → Below s.reader.laid.number (possibles s.reader.laid)
    → LexChain s.reader.laid (pieces lex_len (lex_turn o) s)
unfolding pieces
pieces_chain o s below = lex_chain o (suc (lex_len s)) s below
