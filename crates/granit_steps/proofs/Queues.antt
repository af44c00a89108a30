-- The queue: items come in one by one, and what goes has its last flag.
use Rattle.std.proofs.Common.{◌≡◌, ℕ, ◌<◌, ◌||◌, not, Bool, true, false, List, [], ◌∷◌, ◌++◌, map, Option, Some, None}
use Rattle.std.proofs.Common.{refl, sym, ap, ap₂, ◌∙◌, append_assoc}
use Rattle.std.proofs.Math.Bool.{or_comm, or-false}
use Rattle.std.proofs.lemmas.Bool.{or_parts, not-true}
use Rattle.std.proofs.lemmas.List.{append-nil, map-append}
use Rattle.std.specs.List.{list_any}
use Rattle.granit_lexemes.specs.Lexeme.{KeyStart, Lexeme, Item, OfLexeme, OfComment}
use Rattle.granit_machine.specs.Laid.{Laid}
use Rattle.granit_lexemes.specs.declared.layout.PossibleKey.{PossibleKey}
use Rattle.granit_lexemes.specs.declared.layout.OpenBracket.{OpenBracket}
use Rattle.granit_machine.specs.Lexing.{FlaggedItem, and_key}
use Rattle.granit_machine.specs.Machine.{without_tail, asked_items, is_settled}
use Rattle.granit_machine.specs.PossibleKeys.{is_of, is_possible}
use Rattle.granit_steps.specs.Flags.{is_wanted, is_keyed, is_begun, with_flag, flags}
use Rattle.granit_steps.specs.Steps.{incoming, is_key_at, key_of_item, marked_by, unflagged, pushed}
use Rattle.granit_steps.proofs.Chains.{Chain}
use Rattle.granit_steps.proofs.KeyReads.{key_start, in_brackets, possibles}
use Rattle.granit_steps.proofs.Subs.{is_in, sub_in}

or_assoc : (a b c : Bool) → ((a || b) || c) ≡ (a || (b || c))
or_assoc true b c = refl
or_assoc false b c = refl

-- ---- what comes in

pub pushed_append : (q : List FlaggedItem) (a b : List Item) → pushed q (a ++ b) ≡ pushed (pushed q a) b
pushed_append q [] b = refl
pushed_append q (i ∷ a) b = pushed_append (map (marked_by i) q ++ unflagged i ∷ []) a b

key_at_is : (key : Option KeyStart) (i : Item) (l : Lexeme) → i ≡ OfLexeme l → is_key_at key i ≡ is_wanted l.number key
key_at_is None i l e = refl
key_at_is (Some k) i l e = ap (is_key_at (Some k)) e

-- an item whose key is found among no more items
not_marked : (j : Item) (i : Item) (b : Bool) (js : List Item) → is_begun i (j ∷ js) ≡ false
    → marked_by j (with_flag b i) ≡ with_flag b i
not_marked j (OfLexeme l) b js e =
    let f : is_key_at (key_of_item j) (OfLexeme l) ≡ false = key_at_is (key_of_item j) (OfLexeme l) l refl
    ∙ (or_parts (is_wanted l.number (key_of_item j)) (is_keyed l.number js) e).0 in
    ap (λ c. with_flag c (OfLexeme l)) (ap (λ c. b || c) f ∙ or-false b)
not_marked j (OfComment c) b js e = let f : is_key_at (key_of_item j) (OfComment c)
    ≡ false = comment_key (key_of_item j) c in ap (λ d. with_flag d (OfComment c)) (ap (λ d. b || d) f ∙ or-false b)
  where
    comment_key : (key : Option KeyStart) (c : _) → is_key_at key (OfComment c) ≡ false
    comment_key None c = refl
    comment_key (Some k) c = refl

begun_rest : (i j : Item) (js : List Item) → is_begun i (j ∷ js) ≡ false → is_begun i js ≡ false
begun_rest (OfLexeme l) j js e = (or_parts (is_wanted l.number (key_of_item j)) (is_keyed l.number js) e).1
begun_rest (OfComment c) j js e = refl

-- the front has its last flag where no key that begins with it is found any more
pub pushed_front : (f : FlaggedItem) (q : List FlaggedItem) (items : List Item) → is_begun f.item items ≡ false
    → pushed (f ∷ q) items ≡ f ∷ pushed q items
pushed_front f q [] e = refl
pushed_front f q (j ∷ js) e =
    ap (λ x. pushed (x ∷ (map (marked_by j) q ++ unflagged j ∷ [])) js) (not_marked j f.item f.begins_key js e)
    ∙ pushed_front f (map (marked_by j) q ++ unflagged j ∷ []) js (begun_rest f.item j js e)

-- ---- the whole queue at once

abbrev marked_all : List Item → FlaggedItem → FlaggedItem
marked_all items f = record { item = f.item; begins_key = f.begins_key || is_begun f.item items }

marked_none : (q : List FlaggedItem) → q ≡ map (marked_all []) q
marked_none [] = refl
marked_none (f ∷ q) = ap₂ (λ x xs. x ∷ xs) (one f.item f.begins_key) (marked_none q)
  where
    one : (i : Item) (b : Bool) → with_flag b i ≡ marked_all [] (with_flag b i)
    one (OfLexeme l) b = ap (λ c. with_flag c (OfLexeme l)) (sym (or-false b))
    one (OfComment d) b = ap (λ c. with_flag c (OfComment d)) (sym (or-false b))

marked_more : (i : Item) (b : Bool) (j : Item) (js : List Item)
    → marked_all js (marked_by j (with_flag b i)) ≡ marked_all (j ∷ js) (with_flag b i)
marked_more (OfLexeme l) b j js =
    ap (λ c. with_flag c (OfLexeme l)) (or_assoc b (is_key_at (key_of_item j) (OfLexeme l)) (is_keyed l.number js)
    ∙ ap (λ c. b || (c || is_keyed l.number js)) (key_at_is (key_of_item j) (OfLexeme l) l refl))
marked_more (OfComment d) b j js = ap (λ c. with_flag c (OfComment d))
    (or-false (b || is_key_at (key_of_item j) (OfComment d)) ∙ ap (λ c. b || c) (comment_key (key_of_item j)))
  where
    comment_key : (key : Option KeyStart) → is_key_at key (OfComment d) ≡ false
    comment_key None = refl
    comment_key (Some k) = refl

marked_all_more : (q : List FlaggedItem) (j : Item) (js : List Item)
    → map (marked_all js) (map (marked_by j) q) ≡ map (marked_all (j ∷ js)) q
marked_all_more [] j js = refl
marked_all_more (f ∷ q) j js = ap₂ (λ x xs. x ∷ xs) (marked_more f.item f.begins_key j js) (marked_all_more q j js)

pub pushed_is : (q : List FlaggedItem) (items : List Item) → pushed q items ≡ map (marked_all items) q ++ flags items
pushed_is q [] = marked_none q ∙ sym (append-nil (map (marked_all []) q))
pushed_is q (j ∷ js) =
    pushed_is (map (marked_by j) q ++ unflagged j ∷ []) js
    ∙ ap (λ x. x ++ flags js) (map-append (marked_all js) (map (marked_by j) q) (unflagged j ∷ []))
    ∙ append_assoc (map (marked_all js) (map (marked_by j) q)) (map (marked_all js) (unflagged j ∷ [])) (flags js)
    ∙ ap (λ x. x ++ (with_flag (is_begun j js) j ∷ flags js)) (marked_all_more q j js)

-- ---- comments that aren't asked for

pub asked_append : (b : Bool) (xs ys : List Item) → incoming b (xs ++ ys) ≡ incoming b xs ++ incoming b ys
asked_append true xs ys = refl
asked_append false [] ys = refl
asked_append false (OfLexeme l ∷ xs) ys = ap (λ r. without_tail (OfLexeme l) ∷ r) (asked_append false xs ys)
asked_append false (OfComment c ∷ xs) ys = asked_append false xs ys

pub keyed_asked : (b : Bool) (n : ℕ) (items : List Item) → is_keyed n (incoming b items) ≡ is_keyed n items
keyed_asked true n items = refl
keyed_asked false n [] = refl
keyed_asked false n (OfLexeme l ∷ is) = ap (λ c. is_wanted n l.key || c) (keyed_asked false n is)
keyed_asked false n (OfComment c ∷ is) = keyed_asked false n is

begun_asked : (b : Bool) (i : Item) (items : List Item) → is_begun i (incoming b items) ≡ is_begun i items
begun_asked b (OfLexeme l) items = keyed_asked b l.number items
begun_asked b (OfComment c) items = refl

pub asked_flags : (b : Bool) (items : List Item) → asked_items b (flags items) ≡ flags (incoming b items)
asked_flags true items = refl
asked_flags false [] = refl
asked_flags false (OfLexeme l ∷ is) = ap₂ (λ c fs. with_flag c (without_tail (OfLexeme l)) ∷ fs)
    (sym (keyed_asked false l.number is)) (asked_flags false is)
asked_flags false (OfComment c ∷ is) = asked_flags false is

pub pushed_asked : (b : Bool) (items : List Item) → pushed [] (incoming b items) ≡ asked_items b (flags items)
pushed_asked b items = pushed_is [] (incoming b items) ∙ sym (asked_flags b items)

-- ---- possible keys by their numbers

of_key : (n : ℕ) (k : Option PossibleKey) (xs : List ℕ) → is_in n (and_key (key_start k) xs) ≡ (is_of n k || is_in n xs)
of_key n None xs = refl
of_key n (Some k) xs = refl

of_brackets : (n : ℕ) (bs : List OpenBracket) (xs : List ℕ)
    → is_in n (in_brackets bs xs) ≡ (list_any (λ b. is_of n b.key) bs || is_in n xs)
of_brackets n [] xs = refl
of_brackets n (b ∷ bs) xs =
    of_key n b.key (in_brackets bs xs) ∙ ap (λ c. is_of n b.key || c) (of_brackets n bs xs)
    ∙ sym (or_assoc (is_of n b.key) (list_any (λ b. is_of n b.key) bs) (is_in n xs))

pub possible_is : (n : ℕ) (s : Laid) → is_possible n s ≡ is_in n (possibles s)
possible_is n s =
    sym (of_brackets n s.brackets (and_key (key_start s.key) [])
    ∙ ap (λ c. list_any (λ b. is_of n b.key) s.brackets || c) (of_key n s.key [] ∙ or-false (is_of n s.key))
    ∙ or_comm (list_any (λ b. is_of n b.key) s.brackets) (is_of n s.key))

-- ---- items that were read before

abbrev pub IsOld : ℕ → Item → Type 0
IsOld n (OfLexeme l) = l.number < n
IsOld n (OfComment c) = Unit {0}

-- what may go may go for ever, and its flag is the last
pub goes_for_ever : (s t : Laid) (i : Item) (items : List Item) → Chain s items t → IsOld s.number i
    → is_settled s i ≡ true → is_settled t i ≡ true
goes_for_ever s t (OfLexeme l) items ch old e =
    let none : is_in l.number (possibles s) ≡ false = sym (possible_is l.number s)
    ∙ not-true (is_possible l.number s) e in
    ap not (possible_is l.number t ∙ ch.never_again l.number old none)
goes_for_ever s t (OfComment c) items ch old e = refl

pub not_begun : (s t : Laid) (b : Bool) (i : Item) (items : List Item) → Chain s items t → IsOld s.number i
    → is_settled s i ≡ true → is_begun i (incoming b items) ≡ false
not_begun s t b (OfLexeme l) items ch old e =
    let none : is_in l.number (possibles s) ≡ false = sym (possible_is l.number s)
    ∙ not-true (is_possible l.number s) e in
    keyed_asked b l.number items ∙ ch.keyed l.number old ∙ sub_in l.number _ (possibles s) ch.stacked none
not_begun s t b (OfComment c) items ch old e = refl
