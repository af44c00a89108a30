-- What a lexeme makes of the column of the simple key outside flow whose `:` must come.
use Rattle.std.proofs.Common.{◌≡◌, ℕ, suc, ◌<◌, Bool, true, false, List, [], ◌∷◌, Option, Some, None, ◌⊎◌, inl, inr}
use Rattle.std.proofs.Common.{refl, sym, ap, ◌∙◌, subst, arith}
use Rattle.std.specs.Prelude.{nat_lt}
use Rattle.std.proofs.lemmas.Bool.Decides.{nat_tests}
use Rattle.granit_base.specs.Place.{Mark}
use Rattle.granit_language.specs.Seen.{terminal_kind, at_of}
use Rattle.granit_language.specs.Fitting.{role_of, outer_keys, with_inner_key, without_inner_key, keys_behind}
use Rattle.granit_language.specs.OpenColumns.{EntryOf, is_outer_kind}
use Rattle.granit_language.specs.Reading.{begins_kind}
use Rattle.granit_language.specs.Scope.{Scope}
use Rattle.granit_language.specs.Terminal.{stands_left}
use Rattle.granit_lexemes.specs.Lexeme.{LexemeKind, Directive, DocumentStart, DocumentEnd, StreamEnd, Open, Close}
use Rattle.granit_lexemes.specs.Lexeme.{Comma, Dash, Question, Colon, Alias, Anchor, Tag, Scalar, KeyStart, Lexeme}
use Rattle.granit_lexemes.specs.declared.layout.Bracket.{Bracket}
use Rattle.granit_lexemes.specs.declared.layout.OpenBracket.{OpenBracket}
use Rattle.granit_lexemes.specs.declared.layout.PossibleKey.{PossibleKey}
use Rattle.granit_machine.specs.Laid.{Laid}
use Rattle.granit_places.proofs.Choosing.{Held, top_of, Below, Chosen}
use Rattle.granit_places.proofs.ColumnsKept.{SameKey, NewKey, Change, nothing, all_end, passes, own, keyed}
use Rattle.granit_places.proofs.Holding.{key_number, held_in}
use Rattle.granit_order.specs.Order.{open_behind, closes_innermost, due_by}
use Rattle.granit_order.proofs.BracketsPassed.{kinds_in}

-- the key outside these brackets
abbrev pub outer_in : List Bracket → Held → Option ℕ
outer_in [] ks = top_of ks
outer_in (b ∷ bs) ks = outer_in bs (outer_keys ks)

abbrev pub due_by_key : Option ℕ → Option PossibleKey → Option ℕ
due_by_key None key = None
due_by_key (Some n) None = None
due_by_key (Some n) (Some k) = Some (suc k.start.place.column)

-- one that is chosen is the possible one
pub chosen_outer : (bs : List OpenBracket) (key : Option PossibleKey) (ks : Held) (ns : List ℕ)
    → Chosen (held_in bs key) ks ns → (n : ℕ) → outer_in (kinds_in bs) ks ≡ Some n → key_number key ≡ Some n
chosen_outer [] key [] ns c n e = absurd c
chosen_outer [] key (None ∷ ks) ns c n e = absurd cc
chosen_outer [] key (Some k ∷ ks) [] c n e = absurd c
chosen_outer [] key (Some k ∷ ks) (m ∷ ns) c n e = c.0 ∙ e
chosen_outer (b ∷ bs) key [] ns c n e = absurd c
chosen_outer (b ∷ bs) key (None ∷ ks) ns c n e = chosen_outer bs key ks ns c n e
chosen_outer (b ∷ bs) key (Some k ∷ ks) [] c n e = absurd c
chosen_outer (b ∷ bs) key (Some k ∷ ks) (m ∷ ns) c n e = chosen_outer bs key ks ns c.2 n e

pub below_outer : (bs : List OpenBracket) (key : Option PossibleKey) (n : ℕ) → Below n (held_in bs key) → (m : ℕ)
    → key_number key ≡ Some m → m < n
below_outer [] None n b m e = absurd cc
below_outer [] (Some k) n b m e = let f : k.number ≡ m = cc in subst (λ m. m < n) f b.0
below_outer (c ∷ bs) key n b m e = below_outer bs key n (on c.key b) m e
  where
    on : (inner : Option PossibleKey) → Below n (key_number inner ∷ held_in bs key) → Below n (held_in bs key)
    on None b = b
    on (Some k) b = b.1

pub due_same : (a b : Option PossibleKey) (n : Option ℕ) → SameKey a b → ((m : ℕ) → n ≡ Some m → key_number a ≡ Some m)
    → due_by_key n a ≡ due_by_key n b
due_same a b None s p = refl
due_same None b (Some m) s p = absurd (let e = p m refl in cc)
due_same (Some k) b (Some m) (j, old, i, e) p = ap (λ (at : Mark). Some (suc at.place.column)) e
    ∙ sym (ap (due_by_key (Some m)) old)

-- ---- how the possible key outside brackets moves

pub record KeyMove (old : Option PossibleKey) (x : Lexeme) (new : Option PossibleKey) : Type 0 where
  pub kept : x.in_flow ≡ true → SameKey new old
  pub moves : SameKey new old ⊎ NewKey x new
  pub ends : x.in_flow ≡ false → EntryOf x.kind x.key x.start.place.column [] x.start.place.column
      ⊎ (is_outer_kind x.kind ≡ true) → new ≡ None

pub clash : {A : Type 0} (v : Bool) → v ≡ true → v ≡ false → A
clash v e f = absurd cc

key_gone : (old : Option PossibleKey) (x : Lexeme) (new : Option PossibleKey) → new ≡ None → KeyMove old x new
key_gone old x new e =
    let s : SameKey new old = subst (λ new. SameKey new old) (sym e) tt in
    record { kept = λ f. s; moves = inl s; ends = λ f p. e }

pub key_move : (l : Laid) (x : Lexeme) (after : Laid) → Change l x after → KeyMove l.key x after.key
key_move l x after (nothing flow c k) = record { kept = λ e. k; moves = inl k; ends = λ e p. clash x.in_flow flow e }
key_move l x after (all_end flow stream c k) = key_gone l.key x after.key k
key_move l x after (passes flow stream none c k) = record {
  kept = λ e. clash x.in_flow e flow;
  moves = k;
  ends = λ e p. elim p [
    | inl q ↦ absurd (none x.start.place.column x.start.place.column [] q)
    | inr q ↦ clash
        (is_outer_kind x.kind) q stream
  ];
}
key_move l x after (own flow stream is here c k) = key_gone l.key x after.key k
key_move l x after (keyed j flow colon key old c k) = key_gone l.key x after.key k

-- ---- in flow

inner_same : (flag : Bool) (n : ℕ) (ks : Held) → outer_keys (with_inner_key flag n ks) ≡ outer_keys ks
inner_same true n [] = refl
inner_same true n (k ∷ ks) = refl
inner_same false n [] = refl
inner_same false n (k ∷ ks) = refl

gone_same : (ks : Held) → outer_keys (without_inner_key ks) ≡ outer_keys ks
gone_same [] = refl
gone_same (k ∷ ks) = refl

pub outer_kept : (kind : LexemeKind) (key : Option KeyStart) (flag : Bool) (n : ℕ) (b : Bracket) (bs : List Bracket)
    (ks : Held)
    → outer_in (open_behind (terminal_kind kind key) (b ∷ bs)) (keys_behind (role_of kind key) flag n ks)
    ≡ outer_in (b ∷ bs) ks
outer_kept (Directive d) key flag n b bs ks = refl
outer_kept DocumentStart key flag n b bs ks = refl
outer_kept DocumentEnd key flag n b bs ks = refl
outer_kept StreamEnd key flag n b bs ks = refl
outer_kept (Open c) key flag n b bs ks = ap (outer_in bs) (inner_same flag n ks)
outer_kept (Close c) key flag n b bs ks = refl
outer_kept Comma key flag n b bs ks = refl
outer_kept Dash key flag n b bs ks = refl
outer_kept Question key flag n b bs ks = refl
outer_kept Colon None flag n b bs ks = refl
outer_kept Colon (Some k) flag n b bs ks = ap (outer_in bs) (gone_same ks)
outer_kept (Alias name) key flag n b bs ks = ap (outer_in bs) (inner_same flag n ks)
outer_kept (Anchor name) key flag n b bs ks = ap (outer_in bs) (inner_same flag n ks)
outer_kept (Tag handle suffix) key flag n b bs ks = ap (outer_in bs) (inner_same flag n ks)
outer_kept (Scalar style text) key flag n b bs ks = ap (outer_in bs) (inner_same flag n ks)

-- ---- outside flow

module _ (s : Scope) (x : Lexeme) (n : ℕ) (number : x.number ≡ n) (old new : Option PossibleKey)
    (older : (m : ℕ) → key_number old ≡ Some m → m < n) (moves : SameKey new old ⊎ NewKey x new) where
  stay : (k : Option ℕ) → ((m : ℕ) → k ≡ Some m → key_number old ≡ Some m)
      → ((m : ℕ) → k ≡ Some m → key_number new ≡ Some m) → due_by_key k old ≡ due_by_key k new
  stay None b a = refl
  stay (Some m) b a = elim moves [
    | inl same ↦ sym (due_same new old (Some m) same a)
    | inr q ↦ absurd
        (other new q (a m refl) (older m (b m refl)))
  ]
    where
      other : (new : Option PossibleKey) → NewKey x new → key_number new ≡ Some m → m < n → ⊥
      other None q e l = q
      other (Some k) q e l = let i : k.number ≡ m = cc in let j = q.0 in omega (arith, i, j, l, number)

  begun : (new : Option PossibleKey) → SameKey new old ⊎ NewKey x new → key_number new ≡ Some n
      → ◌≡◌ {A = Option ℕ} (Some (suc x.start.place.column)) (due_by_key (Some n) new)
  begun None q e = absurd cc
  begun (Some k) (inl (j, is, i, at)) e = absurd
      (let f : k.number ≡ n = cc in let l = older j.number (ap key_number is) in omega (arith, f, i, l))
  begun (Some k) (inr q) e = ap (λ (at : Mark). Some (suc at.place.column)) (sym q.1)

  abbrev pub AfterSays : LexemeKind → Option KeyStart → Bool → Held → Type 0
  AfterSays kind key flag ks = (m : ℕ) → outer_in (open_behind (terminal_kind kind key) [])
      (keys_behind (role_of kind key) flag n ks) ≡ Some m → key_number new ≡ Some m

  pub due_out : (kind : LexemeKind) (key : Option KeyStart) (flag : Bool) (k : Option ℕ) (ks : Held)
      → closes_innermost (terminal_kind kind key) [] ≡ true → ((m : ℕ) → k ≡ Some m → key_number old ≡ Some m)
      → AfterSays kind key flag (k ∷ ks)
      → due_by (terminal_kind kind key) (at_of flag s x) (due_by_key k old)
      ≡ due_by_key (outer_in (open_behind (terminal_kind kind key) []) (keys_behind (role_of kind key) flag n (k ∷ ks)))
      new
  due_out (Directive d) key flag k ks c b a = stay k b a
  due_out DocumentStart key flag k ks c b a = stay k b a
  due_out DocumentEnd key flag k ks c b a = stay k b a
  due_out StreamEnd key flag k ks c b a = stay k b a
  due_out (Open d) key true k ks c b a = begun new moves (a n refl)
  due_out (Open d) key false k ks c b a = stay k b a
  due_out (Close d) key flag k ks c b a = absurd cc
  due_out Comma key flag k ks c b a = stay k b a
  due_out Dash key flag k ks c b a = stay k b a
  due_out Question key flag k ks c b a = stay k b a
  due_out Colon None flag k ks c b a = stay k b a
  due_out Colon (Some j) flag k ks c b a = refl
  due_out (Alias name) key true k ks c b a = begun new moves (a n refl)
  due_out (Alias name) key false k ks c b a = stay k b a
  due_out (Anchor name) key true k ks c b a = begun new moves (a n refl)
  due_out (Anchor name) key false k ks c b a = stay k b a
  due_out (Tag handle suffix) key true k ks c b a = begun new moves (a n refl)
  due_out (Tag handle suffix) key false k ks c b a = stay k b a
  due_out (Scalar style text) key true k ks c b a = begun new moves (a n refl)
  due_out (Scalar style text) key false k ks c b a = stay k b a

  gone : {A : Type 0} (m : ℕ) → new ≡ None → key_number new ≡ Some m → A
  gone m e f = let g = ap key_number e in absurd cc

  abbrev pub EntryEnds : LexemeKind → Option KeyStart → Type 0
  EntryEnds kind key = EntryOf kind key x.start.place.column [] x.start.place.column ⊎ (is_outer_kind kind ≡ true)
      → new ≡ None

  unflagged : (flag : Bool) (m : ℕ) → (flag ≡ true → ◌≡◌ {A = Option ℕ} (Some m) None) → flag ≡ false
  unflagged true m p = absurd (let e = p refl in cc)
  unflagged false m p = refl

  pub begins_on : (kind : LexemeKind) (key : Option KeyStart) (flag : Bool) (m : ℕ) (ks : Held)
      → (flag ≡ true → ◌≡◌ {A = Option ℕ} (Some m) None) → AfterSays kind key flag (Some m ∷ ks) → EntryEnds kind key
      → begins_kind (terminal_kind kind key) flag ≡ false
  begins_on (Directive d) key flag m ks p a e = refl
  begins_on DocumentStart key flag m ks p a e = refl
  begins_on DocumentEnd key flag m ks p a e = refl
  begins_on StreamEnd key flag m ks p a e = refl
  begins_on (Open d) key flag m ks p a e = unflagged flag m p
  begins_on (Close d) key flag m ks p a e = refl
  begins_on Comma key flag m ks p a e = refl
  begins_on Dash key flag m ks p a e = gone m (e (inl refl)) (a m refl)
  begins_on Question key flag m ks p a e = gone m (e (inl refl)) (a m refl)
  begins_on Colon None flag m ks p a e = gone m (e (inl refl)) (a m refl)
  begins_on Colon (Some j) flag m ks p a e = refl
  begins_on (Alias name) key flag m ks p a e = unflagged flag m p
  begins_on (Anchor name) key flag m ks p a e = unflagged flag m p
  begins_on (Tag handle suffix) key flag m ks p a e = unflagged flag m p
  begins_on (Scalar style text) key flag m ks p a e = unflagged flag m p

  beyond : (c : ℕ) → nat_lt x.start.place.column c ≡ false → nat_lt (suc x.start.place.column) (suc c) ≡ false
  beyond c e = grind (arith, nat_tests, e)

  pub stands_on : (kind : LexemeKind) (key : Option KeyStart) (flag : Bool) (m c : ℕ) (ks : Held)
      → AfterSays kind key flag (Some m ∷ ks) → EntryEnds kind key → nat_lt x.start.place.column c ≡ false
      → stands_left (Rattle.granit_language.specs.Terminal.terminal (terminal_kind kind key) (at_of flag s x)) (suc c)
      ≡ false
  stands_on (Directive d) key flag m c ks a e r = gone m (e (inr refl)) (a m refl)
  stands_on DocumentStart key flag m c ks a e r = gone m (e (inr refl)) (a m refl)
  stands_on DocumentEnd key flag m c ks a e r = gone m (e (inr refl)) (a m refl)
  stands_on StreamEnd key flag m c ks a e r = gone m (e (inr refl)) (a m refl)
  stands_on (Open d) key flag m c ks a e r = beyond c r
  stands_on (Close d) key flag m c ks a e r = beyond c r
  stands_on Comma key flag m c ks a e r = beyond c r
  stands_on Dash key flag m c ks a e r = beyond c r
  stands_on Question key flag m c ks a e r = beyond c r
  stands_on Colon None flag m c ks a e r = beyond c r
  stands_on Colon (Some j) flag m c ks a e r = beyond c r
  stands_on (Alias name) key flag m c ks a e r = beyond c r
  stands_on (Anchor name) key flag m c ks a e r = beyond c r
  stands_on (Tag handle suffix) key flag m c ks a e r = beyond c r
  stands_on (Scalar style text) key flag m c ks a e r = beyond c r
