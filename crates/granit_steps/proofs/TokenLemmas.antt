-- Without the inserted ones the tokens are the lexemes and comments in order.
use Rattle.std.proofs.Common.{◌≡◌, ℕ, zero, suc, Bool, true, false, List, [], ◌∷◌, ◌++◌, replicate, map, Option, Some}
use Rattle.std.proofs.Common.{None, Result, Ok, Err, refl, sym, ap, ap₂, ◌∙◌, append_assoc}
use Rattle.std.proofs.lemmas.List.{map-append}
use Rattle.granit_base.specs.Place.{Mark}
use Rattle.granit_error.specs.OptionsData.{OptionsData}
use Rattle.granit_lexemes.specs.Comment.{CommentRead}
use Rattle.granit_lexemes.specs.Here.{Here}
use Rattle.granit_lexemes.specs.Lexeme.{LexemeKind, Dash, Question, Colon, Lexeme, Item, OfLexeme, OfComment, KeyStart}
use Rattle.granit_lexemes.specs.Outcome.{Fault, ◌>>=◌}
use Rattle.granit_lexemes.specs.Pieces.{with_front, then_more, turns, pieces}
use Rattle.granit_machine.specs.Laid.{Laid}
use Rattle.granit_machine.specs.Lexing.{lex, lex_start}
use Rattle.granit_machine.specs.Reader.{LexState, LexTurn, lex_turn, lex_len}
use Rattle.granit_steps.specs.Flags.{is_begun}
use Rattle.granit_steps.specs.Tokens.{Insertion, BlockEnd, PairStart, PairEnd, KeySign, BlockMappingStart}
use Rattle.granit_steps.specs.Tokens.{BlockSequenceStart, ScanToken, Inserted, Own, insert_if, ended_blocks}
use Rattle.granit_steps.specs.Tokens.{is_new_column, block_start, begins_single, ends_single, tail_token, inserted}
use Rattle.granit_steps.specs.Tokens.{tokens_of, pairs_of, StateItem, item_in, tokens, own_of, owns, written_of}
use Rattle.granit_steps.specs.Tokens.{items_written, pair_up, paired_turn, items_of_states, lex_states}

owns_append : (xs ys : List ScanToken) → owns (xs ++ ys) ≡ owns xs ++ owns ys
owns_append [] ys = refl
owns_append (x ∷ xs) ys = ap (λ r. own_of x ++ r) (owns_append xs ys)
    ∙ sym (append_assoc (own_of x) (owns xs) (owns ys))

owns_if : (b : Bool) (what : Insertion) (m : Mark) → owns (insert_if b what m) ≡ []
owns_if true what m = refl
owns_if false what m = refl

owns_ends : (n : ℕ) (what : Insertion) (m : Mark) → owns (replicate n (Inserted what m)) ≡ []
owns_ends zero what m = refl
owns_ends (suc n) what m = owns_ends n what m

owns_start : (begins_key : Bool) (kind : LexemeKind) (key : Option KeyStart) (new : Bool) (m : Mark)
    → owns (block_start begins_key kind key new m) ≡ []
owns_start begins_key Dash key new m = owns_if new BlockSequenceStart m
owns_start begins_key Question key new m = owns_if new BlockMappingStart m
owns_start begins_key Colon key new m = owns_if _ BlockMappingStart m
owns_start begins_key kind key new m = owns_if _ BlockMappingStart m

nothing_more : (xs ys : List ScanToken) → owns xs ≡ [] → owns ys ≡ [] → owns (xs ++ ys) ≡ []
nothing_more xs ys p q = owns_append xs ys ∙ ap₂ (λ a b. a ++ b) p q

nothing_in_five : (a b c d e : List ScanToken) → owns a ≡ [] → owns b ≡ [] → owns c ≡ [] → owns d ≡ [] → owns e ≡ []
    → owns (a ++ (b ++ (c ++ (d ++ e)))) ≡ []
nothing_in_five a b c d e p q r s t = nothing_more a (b ++ (c ++ (d ++ e))) p
    (nothing_more b (c ++ (d ++ e)) q (nothing_more c (d ++ e) r (nothing_more d e s t)))

owns_inserted : (s : Laid) (b : Bool) (pairs : List Bool) (l : Lexeme) → owns (inserted s b pairs l) ≡ []
owns_inserted s b pairs l =
    nothing_in_five (replicate (ended_blocks l s) (Inserted BlockEnd l.start))
    (insert_if (ends_single l.kind pairs) PairEnd l.start) (block_start b l.kind l.key (is_new_column l s) l.start)
    (insert_if (begins_single b l s) PairStart l.start) (insert_if b KeySign l.start)
    (owns_ends (ended_blocks l s) BlockEnd l.start) (owns_if (ends_single l.kind pairs) PairEnd l.start)
    (owns_start b l.kind l.key (is_new_column l s) l.start)
    (owns_if (begins_single b l s) PairStart l.start) (owns_if b KeySign l.start)

owns_tail : (c : Option CommentRead) → owns (tail_token c) ≡ tail_token c
owns_tail None = refl
owns_tail (Some c) = refl

owns_item : (s : Laid) (b : Bool) (pairs : List Bool) (i : Item) → owns (tokens_of s b pairs i) ≡ written_of i
owns_item s b pairs (OfLexeme l) =
    owns_append (inserted s b pairs l) (Own l ∷ tail_token l.tail)
    ∙ ap₂ (λ x y. x ++ (Own l ∷ y)) (owns_inserted s b pairs l) (owns_tail l.tail)
owns_item s b pairs (OfComment c) = refl

pub owns_tokens : (pairs : List Bool) (xs : List StateItem) → owns (tokens pairs xs) ≡ items_written xs
owns_tokens pairs [] = refl
owns_tokens pairs (x ∷ xs) =
    let b = is_begun x.1 (map item_in xs) in
    owns_append (tokens_of x.0 b pairs x.1) (tokens (pairs_of x.0 b pairs x.1) xs)
    ∙ ap₂ (λ a c. a ++ c) (owns_item x.0 b pairs x.1) (owns_tokens (pairs_of x.0 b pairs x.1) xs)

-- ---- the items with the states before them are those of all reads

items_map : (s : Laid) (is : List Item) → map item_in (map (λ i. (s, i)) is) ≡ is
items_map s [] = refl
items_map s (i ∷ is) = ap (λ xs. i ∷ xs) (items_map s is)

front_in : (s : Laid) (is : List Item) (r : Result (List StateItem × LexState) Fault)
    → items_of_states (with_front (map (λ i. (s, i)) is) r) ≡ with_front is (items_of_states r)
front_in s is (Ok x) = ap (λ xs. Ok (xs, x.1))
    (map-append item_in (map (λ i. (s, i)) is) x.0 ∙ ap (λ a. a ++ map item_in x.0) (items_map s is))
front_in s is (Err f) = refl

paired_by : (o : OptionsData) (n : ℕ) (s : Laid) (r : LexTurn)
    → ((t : LexState) → items_of_states (turns (paired_turn o) n t) ≡ turns (lex_turn o) n t)
    → items_of_states (pair_up s r >>= λ x. then_more (turns (paired_turn o) n) x.0 x.1)
    ≡ (r >>= λ x. then_more (turns (lex_turn o) n) x.0 x.1)
paired_by o n s (Err f) more = refl
paired_by o n s (Ok (None, t)) more = refl
paired_by o n s (Ok (Some is, t)) more = front_in s is (turns (paired_turn o) n t) ∙ ap (with_front is) (more t)

paired_turns : (o : OptionsData) (n : ℕ) (s : LexState)
    → items_of_states (turns (paired_turn o) n s) ≡ turns (lex_turn o) n s
unfolding turns
paired_turns o zero s = refl
paired_turns o (suc n) s = paired_by o n s.reader.laid (lex_turn o s) (paired_turns o n)

pub paired_items : (o : OptionsData) (h : Here) → items_of_states (lex_states o h) ≡ lex o h
unfolding pieces
paired_items o h = paired_turns o (suc (lex_len (lex_start h))) (lex_start h)
