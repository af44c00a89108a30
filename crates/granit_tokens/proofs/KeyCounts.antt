-- Among the tokens of a text each inserted key has its value.
use Rattle.std.proofs.Common.{◌≡◌, ℕ, zero, suc, ◌+◌, ◌≤◌, ◌&&◌, Bool, true, false, List, [], ◌∷◌, ◌++◌, map, length}
use Rattle.std.proofs.Common.{replicate, Option, Some, None, Ok, refl, sym, ap, ◌∙◌, subst, append_assoc, arith}
use Rattle.std.specs.Prelude.{is_none}
use Rattle.granit_base.specs.Place.{Mark}
use Rattle.granit_error.specs.OptionsData.{OptionsData}
use Rattle.granit_lexemes.specs.Comment.{CommentRead}
use Rattle.granit_lexemes.specs.Here.{start_of}
use Rattle.granit_lexemes.specs.Lexeme.{LexemeKind, Dash, Question, Colon, KeyStart, Lexeme, OfLexeme, OfComment}
use Rattle.granit_lexemes.specs.Place.{one_more_if}
use Rattle.granit_machine.specs.Items.{has_key}
use Rattle.granit_machine.specs.Laid.{Laid}
use Rattle.granit_machine.specs.Lexing.{Flagging, is_nearest, others, and_key, flag_lexeme, flagging, lex_start}
use Rattle.granit_machine.specs.Reader.{LexState}
use Rattle.granit_places.proofs.Choosing.{Held, Chosen}
use Rattle.granit_steps.specs.Flags.{is_keyed}
use Rattle.granit_steps.specs.Tokens.{Insertion, BlockEnd, BlockMappingStart, BlockSequenceStart, KeySign, PairStart}
use Rattle.granit_steps.specs.Tokens.{PairEnd, ScanToken, Inserted, Own, insert_if, ended_blocks, is_new_column}
use Rattle.granit_steps.specs.Tokens.{block_start, begins_single, ends_single, tail_token, inserted, pairs_of}
use Rattle.granit_steps.specs.Tokens.{StateItem, item_in, tokens, lex_states, text_tokens}
use Rattle.granit_tokens.proofs.ReadTokens.{HasOwnKeys, SameFlags, begun_there, flags_on, flags_noted}
use Rattle.granit_tokens.proofs.TextTokens.{Holds, states_hold, text_flags, given}
use Rattle.granit_tokens.specs.Keys.{is_inserted_key, is_keyed_kind, is_keyed_value, key_signs, keyed_values}

-- ---- counts of lists one behind the other

one_more_sum : (b : Bool) (m n : ℕ) → one_more_if b (m + n) ≡ one_more_if b m + n
one_more_sum true m n = omega arith
one_more_sum false m n = refl

signs_append : (xs ys : List ScanToken) → key_signs (xs ++ ys) ≡ key_signs xs + key_signs ys
signs_append [] ys = omega arith
signs_append (x ∷ xs) ys =
    ap (one_more_if (is_inserted_key x)) (signs_append xs ys)
    ∙ one_more_sum (is_inserted_key x) (key_signs xs) (key_signs ys)

values_append : (xs ys : List ScanToken) → keyed_values (xs ++ ys) ≡ keyed_values xs + keyed_values ys
values_append [] ys = omega arith
values_append (x ∷ xs) ys =
    ap (one_more_if (is_keyed_value x)) (values_append xs ys)
    ∙ one_more_sum (is_keyed_value x) (keyed_values xs) (keyed_values ys)

-- ---- what is inserted has no value, and one key at most

-- lists of no key and no value
abbrev IsQuiet : List ScanToken → Type 0
IsQuiet ts = (key_signs ts ≡ 0) × (keyed_values ts ≡ 0)

quiet_if : (b : Bool) (what : Insertion) (m : Mark) → is_inserted_key (Inserted what m) ≡ false
    → IsQuiet (insert_if b what m)
quiet_if true what m e = (ap (λ v. one_more_if v 0) e, refl)
quiet_if false what m e = (refl, refl)

quiet_ends : (n : ℕ) (m : Mark) → IsQuiet (replicate n (Inserted BlockEnd m))
quiet_ends zero m = (refl, refl)
quiet_ends (suc n) m = quiet_ends n m

quiet_start : (flag : Bool) (kind : LexemeKind) (key : Option KeyStart) (new : Bool) (m : Mark)
    → IsQuiet (block_start flag kind key new m)
quiet_start flag Dash key new m = quiet_if new BlockSequenceStart m refl
quiet_start flag Question key new m = quiet_if new BlockMappingStart m refl
quiet_start flag Colon key new m = quiet_if (new && is_none key) BlockMappingStart m refl
quiet_start flag kind key new m = quiet_if (new && flag) BlockMappingStart m refl

quiet_tail : (c : Option CommentRead) → IsQuiet (tail_token c)
quiet_tail None = (refl, refl)
quiet_tail (Some c) = (refl, refl)

-- a list that begins with a quiet one
signs_behind : (xs ys : List ScanToken) (n : ℕ) → IsQuiet xs → key_signs ys ≡ n → key_signs (xs ++ ys) ≡ n
signs_behind xs ys n q e = let s = signs_append xs ys in let z = q.0 in omega (arith, s, z, e)

one_sign : (flag : Bool) (m : Mark) → key_signs (insert_if flag KeySign m) ≡ one_more_if flag 0
one_sign true m = refl
one_sign false m = refl

signs_inserted : (s : Laid) (flag : Bool) (ps : List Bool) (x : Lexeme)
    → key_signs (inserted s flag ps x) ≡ one_more_if flag 0
signs_inserted s flag ps x =
    let e = insert_if flag KeySign x.start in
    let d = insert_if (begins_single flag x s) PairStart x.start in
    let c = block_start flag x.kind x.key (is_new_column x s) x.start in
    let b = insert_if (ends_single x.kind ps) PairEnd x.start in
    signs_behind (replicate (ended_blocks x s) (Inserted BlockEnd x.start)) (b ++ (c ++ (d ++ e))) (one_more_if flag 0)
    (quiet_ends (ended_blocks x s) x.start)
    (signs_behind b (c ++ (d ++ e)) (one_more_if flag 0) (quiet_if (ends_single x.kind ps) PairEnd x.start refl)
    (signs_behind c (d ++ e) (one_more_if flag 0) (quiet_start flag x.kind x.key (is_new_column x s) x.start)
    (signs_behind d e (one_more_if flag 0) (quiet_if (begins_single flag x s) PairStart x.start refl)
    (one_sign flag x.start))))

values_both : (xs ys : List ScanToken) → keyed_values xs ≡ 0 → keyed_values ys ≡ 0 → keyed_values (xs ++ ys) ≡ 0
values_both xs ys p q = let s = values_append xs ys in omega (arith, s, p, q)

values_inserted : (s : Laid) (flag : Bool) (ps : List Bool) (x : Lexeme) → keyed_values (inserted s flag ps x) ≡ 0
values_inserted s flag ps x =
    let e = insert_if flag KeySign x.start in
    let d = insert_if (begins_single flag x s) PairStart x.start in
    let c = block_start flag x.kind x.key (is_new_column x s) x.start in
    let b = insert_if (ends_single x.kind ps) PairEnd x.start in
    values_both (replicate (ended_blocks x s) (Inserted BlockEnd x.start)) (b ++ (c ++ (d ++ e)))
    (quiet_ends (ended_blocks x s) x.start).1
    (values_both b (c ++ (d ++ e)) (quiet_if (ends_single x.kind ps) PairEnd x.start refl).1
    (values_both c (d ++ e) (quiet_start flag x.kind x.key (is_new_column x s) x.start).1
    (values_both d e (quiet_if (begins_single flag x s) PairStart x.start refl).1 (no_value flag))))
  where
    no_value : (b : Bool) → keyed_values (insert_if b KeySign x.start) ≡ 0
    no_value true = refl
    no_value false = refl

-- ---- each key that stands behind a place has its value there

abbrev HaveValues : List ScanToken → Type 0
HaveValues [] = Unit {0}
HaveValues (t ∷ ts) = (key_signs (t ∷ ts) ≤ keyed_values (t ∷ ts)) × HaveValues ts

more_of : (b : Bool) (n : ℕ) → n ≤ one_more_if b n
more_of true n = omega arith
more_of false n = omega arith

have_front : (us ts : List ScanToken) → key_signs us + key_signs ts ≤ keyed_values ts → HaveValues ts
    → HaveValues (us ++ ts)
have_front [] ts p h = h
have_front (u ∷ us) ts p h =
    let s = signs_append (u ∷ us) ts in
    let v = values_append (u ∷ us) ts in
    let more = more_of (is_inserted_key u) (key_signs us) in
    (omega (arith, s, v, p), have_front us ts (omega (arith, p, more)) h)

have_behind : (front back : List ScanToken) → HaveValues (front ++ back) → HaveValues back
have_behind [] back h = h
have_behind (t ∷ front) back h = have_behind front back h.1

have_now : (ts : List ScanToken) → HaveValues ts → key_signs ts ≤ keyed_values ts
have_now [] h = omega arith
have_now (t ∷ ts) h = h.0

-- ---- the tokens of items

wanted_one : (n : ℕ) (ns : List ℕ) → is_nearest n ns ≡ true → 1 ≤ length ns
wanted_one n [] e = absurd cc
wanted_one n (m ∷ ns) e = omega arith

length_keyed : (key : Option KeyStart) (ns : List ℕ) → length (and_key key ns) ≡ one_more_if (has_key key) (length ns)
length_keyed None ns = refl
length_keyed (Some k) ns = refl

length_others : (ns : List ℕ) → 1 ≤ length ns → suc (length (others ns)) ≡ length ns
length_others [] p = absurd (omega (arith, p))
length_others (n ∷ ns) p = refl

-- a lexeme in front: what it pops of the numbers that are wanted, and what it pushes
number_counts : (flag : Bool) (x : Lexeme) (y : Flagging) (m n : ℕ) → (flag ≡ true → 1 ≤ length y.1)
    → m + length y.1 ≡ n
    → (one_more_if flag m + length (flag_lexeme flag x y).1) ≡ one_more_if (has_key x.key) n
number_counts true x y m n p e =
    on (has_key x.key) (length (others y.1)) (length_keyed x.key (others y.1)) (length_others y.1 (p refl))
  where
    on : (b : Bool) (l : ℕ) → length (and_key x.key (others y.1)) ≡ one_more_if b l → suc l ≡ length y.1
        → suc m + length (and_key x.key (others y.1)) ≡ one_more_if b n
    on true l f g = omega (arith, f, g, e)
    on false l f g = omega (arith, f, g, e)
number_counts false x y m n p e = on (has_key x.key) (length_keyed x.key y.1)
  where
    on : (b : Bool) → length (and_key x.key y.1) ≡ one_more_if b (length y.1)
        → m + length (and_key x.key y.1) ≡ one_more_if b n
    on true f = omega (arith, f, e)
    on false f = omega (arith, f, e)

record KeysCounted (ps : List Bool) (xs : List StateItem) : Type 0 where
  have : HaveValues (tokens ps xs)
  sum : key_signs (tokens ps xs) + length (flagging (map item_in xs)).1 ≡ keyed_values (tokens ps xs)

one_more_is : (b : Bool) (n : ℕ) → one_more_if b 0 + n ≡ one_more_if b n
one_more_is true n = omega arith
one_more_is false n = omega arith

module _ (s : Laid) (x : Lexeme) (xs : List StateItem) (ps : List Bool)
    (same : SameFlags (OfLexeme x ∷ map item_in xs)) (keyed : has_key x.key ≡ is_keyed_kind x.kind x.key) where
  abbrev flag : Bool
  flag = is_keyed x.number (map item_in xs)

  abbrev rest_pairs : List Bool
  rest_pairs = pairs_of s flag ps (OfLexeme x)

  module _ (more : KeysCounted rest_pairs xs) where
    abbrev behind_it : List ScanToken
    behind_it = Own x ∷ (tail_token x.tail ++ tokens rest_pairs xs)

    all_tokens : tokens ps ((s, OfLexeme x) ∷ xs) ≡ inserted s flag ps x ++ behind_it
    all_tokens = append_assoc (inserted s flag ps x) (Own x ∷ tail_token x.tail) (tokens rest_pairs xs)

    tail_signs : key_signs (tail_token x.tail ++ tokens rest_pairs xs) ≡ key_signs (tokens rest_pairs xs)
    tail_signs = signs_behind (tail_token x.tail) (tokens rest_pairs xs) _ (quiet_tail x.tail) refl

    tail_values : keyed_values (tail_token x.tail ++ tokens rest_pairs xs) ≡ keyed_values (tokens rest_pairs xs)
    tail_values =
        let v = values_append (tail_token x.tail) (tokens rest_pairs xs) in
        let z = (quiet_tail x.tail).1 in omega (arith, v, z)

    values_there : keyed_values behind_it ≡ one_more_if (has_key x.key) (keyed_values (tokens rest_pairs xs))
    values_there =
        ap (λ b. one_more_if b (keyed_values (tail_token x.tail ++ tokens rest_pairs xs))) (sym keyed)
        ∙ ap (one_more_if (has_key x.key)) tail_values

    wanted : flag ≡ true → 1 ≤ length (flagging (map item_in xs)).1
    wanted e = wanted_one x.number (flagging (map item_in xs)).1 (sym (begun_there x (map item_in xs) same) ∙ e)

    counted : (one_more_if flag (key_signs (tokens rest_pairs xs))
        + length (flag_lexeme flag x (flagging (map item_in xs))).1)
        ≡ one_more_if (has_key x.key) (keyed_values (tokens rest_pairs xs))
    counted = number_counts flag x (flagging (map item_in xs)) (key_signs (tokens rest_pairs xs))
        (keyed_values (tokens rest_pairs xs)) wanted more.sum

    lexeme_counted : KeysCounted ps ((s, OfLexeme x) ∷ xs)
    lexeme_counted =
        let i = signs_inserted s flag ps x in
        let o = one_more_is flag (key_signs (tokens rest_pairs xs)) in
        let v = values_inserted s flag ps x in
        let a = signs_append (inserted s flag ps x) behind_it in
        let b = values_append (inserted s flag ps x) behind_it in
        let c = counted in
        let tail = tail_signs in
        let there = values_there in
        let have_more = have_now (tokens rest_pairs xs) more.have in
        let grows = more_of (has_key x.key) (keyed_values (tokens rest_pairs xs)) in
        let z = (quiet_tail x.tail).0 in
        let numbers = ap (λ b. length (flag_lexeme b x (flagging (map item_in xs))).1)
        (begun_there x (map item_in xs) same) in
        record {
          have = subst HaveValues (sym all_tokens)
              (have_front (inserted s flag ps x) behind_it (omega (arith, i, o, c, tail, there)) (
                omega (arith, tail, there, have_more, grows),
                have_front (tail_token x.tail) (tokens rest_pairs xs) (omega (arith, z, have_more)) more.have,
              ));
          sum =
              let t = ap key_signs all_tokens in
              let u = ap keyed_values all_tokens in omega (arith, t, u, a, b, i, o, v, c, tail, there, numbers);
        }

keys_counted : (ps : List Bool) (xs : List StateItem) → SameFlags (map item_in xs) → HasOwnKeys (map item_in xs)
    → KeysCounted ps xs
keys_counted ps [] e h = record { have = tt; sum = refl }
keys_counted ps ((s, OfComment c) ∷ xs) e h =
    let k = keys_counted ps xs (flags_noted c (map item_in xs) e) h in
    record { have = (have_now (tokens ps xs) k.have, k.have); sum = k.sum }
keys_counted ps ((s, OfLexeme x) ∷ xs) e h =
    lexeme_counted s x xs ps e h.0
    (keys_counted (pairs_of s (is_keyed x.number (map item_in xs)) ps (OfLexeme x)) xs
    (flags_on x (map item_in xs) e) h.1)

-- ---- a text

none_wanted : (ks : Held) (ns : List ℕ) → Chosen (None ∷ []) ks ns → ns ≡ []
none_wanted [] [] c = refl
none_wanted [] (n ∷ ns) c = absurd c
none_wanted (None ∷ []) [] c = refl
none_wanted (None ∷ []) (n ∷ ns) c = absurd c
none_wanted (None ∷ k ∷ ks) [] c = absurd c
none_wanted (None ∷ k ∷ ks) (n ∷ ns) c = absurd c
none_wanted (Some k ∷ ks) [] c = refl
none_wanted (Some k ∷ ks) (n ∷ ns) c = absurd (let e = c.0 in cc)

module _ (o : OptionsData) (x : List ℕ) where
  states_count : (xs : List StateItem) (t : LexState) → lex_states o (start_of x) ≡ Ok (xs, t)
      → HaveValues (tokens [] xs) × (keyed_values (tokens [] xs) ≡ key_signs (tokens [] xs))
  states_count xs t e =
      let same = text_flags o x xs t e in
      let g = subst (Holds o x (lex_start (start_of x))) e (states_hold o x) same in
      let k = keys_counted [] xs same g.keyed in
      let none = ap (λ (ns : List ℕ). length ns) (none_wanted g.ks (flagging (map item_in xs)).1 g.chosen) in
      let sum = k.sum in (k.have, omega (arith, sum, none))

  module _ (ts : List ScanToken) (t : LexState) (are : text_tokens o (start_of x) ≡ Ok (ts, t)) where
    text_counted : HaveValues ts × (keyed_values ts ≡ key_signs ts)
    text_counted =
        let g = given o x ts t are in
        subst (λ ts. HaveValues ts × (keyed_values ts ≡ key_signs ts)) g.are (states_count g.items t g.states)

    pub keys_in_all : keyed_values ts ≡ key_signs ts
    keys_in_all = text_counted.1

    pub keys_in_front : (front back : List ScanToken) → ts ≡ front ++ back → keyed_values front ≤ key_signs front
    keys_in_front front back e =
        let c = text_counted in
        let h = have_now back (have_behind front back (subst HaveValues e c.0)) in
        let a = ap key_signs e ∙ signs_append front back in
        let b = ap keyed_values e ∙ values_append front back in
        let d = c.1 in omega (arith, a, b, d, h)
