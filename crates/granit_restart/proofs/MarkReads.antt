-- Behind a document mark and the end of the text no key is possible, and no other lexeme is one of these.
use Rattle.std.proofs.Common.{◌≡◌, ℕ, Bool, true, false, ◌||◌, List, [], ◌∷◌, ◌++◌, map, Option, Some, None, Result, Ok}
use Rattle.std.proofs.Common.{Err, refl, ap, ap₂}
use Rattle.std.specs.Prelude.{if◌then◌else◌}
use Rattle.std.specs.List.{list_any}
use Rattle.granit_base.specs.Place.{Mark}
use Rattle.granit_error.specs.OptionsData.{OptionsData}
use Rattle.granit_lexemes.specs.BlockScalar.{block_scalar}
use Rattle.granit_lexemes.specs.Comment.{CommentRead, comment}
use Rattle.granit_lexemes.specs.Directive as directives
use Rattle.granit_lexemes.specs.Here.{Here, mark_of, step, past}
use Rattle.granit_base.specs.Classes.{is_gap}
use Rattle.granit_lexemes.specs.Lexeme as lexemes
use Rattle.granit_lexemes.specs.Lexeme.{LexemeKind, Lexeme, KeyStart, Item, OfLexeme, OfComment}
use Rattle.granit_lexemes.specs.Moves.{steps}
use Rattle.granit_lexemes.specs.Outcome.{Fault, ◌>>=◌}
use Rattle.granit_lexemes.specs.PlainScalar.{plain_scalar}
use Rattle.granit_lexemes.specs.QuotedScalar.{quoted_scalar}
use Rattle.granit_lexemes.specs.Tags.{name_at, tag_at}
use Rattle.granit_lexemes.specs.Tail.{tail_at}
use Rattle.granit_lexemes.specs.declared.layout.Bracket.{Bracket}
use Rattle.granit_lexemes.specs.declared.layout.LastLexeme.{LastLexeme}
use Rattle.granit_lexemes.specs.declared.layout.LastLexeme.TheVariants.{Opener, BehindDash, BehindQuestion, Adjacent}
use Rattle.granit_lexemes.specs.declared.layout.LastLexeme.TheVariants.{Another, BehindBareColon}
use Rattle.granit_lexemes.specs.declared.layout.OpenBracket.{OpenBracket}
use Rattle.granit_lexemes.specs.declared.layout.PossibleKey.{PossibleKey}
use Rattle.granit_machine.specs.Columns.{refuse_column, entered, pair_entered, closed_at, closed_all, ends_at, ends_all}
use Rattle.granit_machine.specs.FlowLexemes.{opened, opener, closed_bracket, closes, closer_by, last_of_comma, comma}
use Rattle.granit_machine.specs.Gaps.{leading_tab, refuse_tab, gap}
use Rattle.granit_machine.specs.IndicatorLexemes.{widened_if, is_before_break, dash_lexeme, behind_dash, dash_up_to}
use Rattle.granit_machine.specs.IndicatorLexemes.{dash, question_noted, question_up_to, behind_question, question_by}
use Rattle.granit_machine.specs.IndicatorLexemes.{question, colon_lexeme, keyed_given, keyed_colon, bare_given}
use Rattle.granit_machine.specs.IndicatorLexemes.{bare_colon, colon_by_key, colon_tail, colon}
use Rattle.granit_machine.specs.Laid.{Laid, is_in_flow, is_adjacent, block_column}
use Rattle.granit_machine.specs.LexemeSort.{PlacedSort, OpenSign, CloseSign, CommaSign, DashSign, QuestionSign}
use Rattle.granit_machine.specs.LexemeSort.{ColonSign, AliasSign, AnchorSign, TagSign, BlockSign, QuoteSign, StrayMark}
use Rattle.granit_machine.specs.LexemeSort.{NoSign, PlainSign, LexemeSort, TextEnd, StartMark, EndMark, Unprintable}
use Rattle.granit_machine.specs.LexemeSort.{DirectiveSign, Placed, sort_at}
use Rattle.granit_machine.specs.NodeLexemes.{quoted_lexeme, note_items, with_gap}
use Rattle.granit_machine.specs.PossibleKeys.{top_key, outer_key, keyed_brackets, forgets_key, is_possible, is_of}
use Rattle.granit_machine.specs.PossibleKeys.{refuse_required, stale_key, fresh_key, fresh_bracket, fresh, start_of_key}
use Rattle.granit_machine.specs.PossibleKeys.{layout_of}
use Rattle.granit_machine.specs.Reader.{noded, lexeme_of, lexeme_in_column, lexeme_by, lexeme, read_behind, read_whole}
use Rattle.granit_machine.specs.Reader.{read}
use Rattle.granit_machine.specs.ReaderState.{ReaderState, Read, lexeme_to, sign_lexeme, with_tail, given}
use Rattle.granit_machine.specs.ReaderState.{behind_tail, tailed_by, tailed, read_to, refuse_open}
use Rattle.granit_machine.specs.StreamLexemes.{behind_end, behind_end_mark, text_end, end_mark_up_to, end_mark}
use Rattle.granit_machine.specs.StreamLexemes.{directive_given, directive_lexeme}

-- ---- marks

abbrev pub is_mark : LexemeKind → Bool
is_mark lexemes.DocumentStart = true
is_mark lexemes.DocumentEnd = true
is_mark lexemes.StreamEnd = true
is_mark kind = false

abbrev pub marks : Item → Bool
marks (OfLexeme l) = is_mark l.kind
marks (OfComment c) = false

abbrev pub any_marks : List Item → Bool
any_marks [] = false
any_marks (i ∷ is) = marks i || any_marks is

-- nothing is open, and no key is possible
abbrev pub IsClear : Laid → Type 0
IsClear l = (l.brackets ≡ []) × (l.key ≡ None)

pub none_possible : (n : ℕ) (l : Laid) → IsClear l → is_possible n l ≡ false
none_possible n l p = ap₂ (λ k (bs : List OpenBracket). is_of n k || list_any (λ b. is_of n b.key) bs) p.1 p.0

-- ---- other lexemes

abbrev Unmarked : Read → Type 0
Unmarked (Ok x) = any_marks x.0 ≡ false
Unmarked (Err f) = Unit {0}

unmarked_if : (b : Bool) (x y : Read) → Unmarked x → Unmarked y → Unmarked (if b then x else y)
unmarked_if true x y p q = p
unmarked_if false x y p q = q

unmarked_behind : {A : Type 0} (r : Result A Fault) (f : A → Read) → ((x : A) → Unmarked (f x)) → Unmarked (r >>= f)
unmarked_behind (Ok x) f q = q x
unmarked_behind (Err e) f q = tt

given_unmarked : (x : Lexeme) (last : LastLexeme) (h : Here) (t : Laid) → is_mark x.kind ≡ false
    → Unmarked (given x last h t)
given_unmarked x last h t e = ap (λ b. b || false) e

tailed_unmarked : (x : Lexeme) (last : LastLexeme) (end : Here) (t : Laid) → is_mark x.kind ≡ false
    → Unmarked (tailed x last end t)
unfolding tailed
tailed_unmarked x last end t e =
    unmarked_behind (tail_at end) (λ y. tailed_by x last t y.0 y.1)
    (λ y. given_unmarked (with_tail x y.0) (behind_tail last y.0) y.1 t e)

opener_unmarked : (o : OptionsData) (bracket : Bracket) (ends : Bool) (h : Here) (l : Laid)
    → Unmarked (opener o bracket ends h l)
unfolding opener
opener_unmarked o bracket ends h l =
    let e = tailed_unmarked (sign_lexeme ends (lexemes.Open bracket) h l) Opener (step h)
    (opened bracket (mark_of h) l) refl in
    search (unmarked_if, e)

closes_unmarked : (bracket : Bracket) (b : OpenBracket) (bs : List OpenBracket) (ends : Bool) (h : Here) (l : Laid)
    → Unmarked (closes bracket b bs ends h l)
unfolding closes
closes_unmarked bracket b bs ends h l =
    let e = tailed_unmarked (sign_lexeme ends (lexemes.Close bracket) h l) Adjacent (step h) (closed_bracket bs l)
    refl in
    search (unmarked_if, e)

closer_unmarked : (bracket : Bracket) (bs : List OpenBracket) (ends : Bool) (h : Here) (l : Laid)
    → Unmarked (closer_by bracket bs ends h l)
closer_unmarked bracket [] ends h l = tt
closer_unmarked bracket (b ∷ bs) ends h l = closes_unmarked bracket b bs ends h l

comma_unmarked : (ends : Bool) (h : Here) (l : Laid) → Unmarked (comma ends h l)
comma_unmarked ends h l =
    unmarked_behind (refuse_required (top_key l) >>= λ u. Ok (forgets_key l)) _
    (λ t. tailed_unmarked (sign_lexeme ends lexemes.Comma h l) (last_of_comma l) (step h) t refl)

behind_dash_unmarked : (x : Lexeme) (l : Laid) (tail : Option CommentRead) (h : Here) → is_mark x.kind ≡ false
    → Unmarked (behind_dash x l tail h)
unfolding behind_dash
behind_dash_unmarked x l tail h e =
    let f = given_unmarked (dash_lexeme x tail h) BehindDash h (forgets_key (widened_if (is_before_break h) l)) e in
    search (unmarked_if, f)

dash_unmarked : (o : OptionsData) (ends : Bool) (h : Here) (l : Laid) → Unmarked (dash o ends h l)
unfolding dash dash_up_to
dash_unmarked o ends h l =
    let x = sign_lexeme ends lexemes.Dash h l in
    let e = unmarked_behind
    (refuse_column o h.place.column (mark_of h) l.columns >>= λ u. Ok (entered h.place.column l))
    (dash_up_to x (step h))
    (λ t. unmarked_behind (tail_at (step h)) (λ y. behind_dash x t y.0 y.1)
    (λ y. behind_dash_unmarked x t y.0 y.1 refl)) in
    search (unmarked_if, e)

question_up_to_unmarked : (o : OptionsData) (x : Lexeme) (h : Here) (l : Laid) → is_mark x.kind ≡ false
    → Unmarked (question_up_to o x h l)
unfolding question_up_to
question_up_to_unmarked o x h l e =
    let a = unmarked_behind (comment h) (λ y. question_noted x l y.0 y.1)
    (λ y. given_unmarked (with_tail x (Some y.0)) BehindQuestion y.1 l e) in
    let b = unmarked_behind (refuse_tab o l (mark_of h) (leading_tab h)) (λ u. given x BehindQuestion h l)
    (λ u. given_unmarked x BehindQuestion h l e) in
    search (unmarked_if, a, b)

question_by_unmarked : (o : OptionsData) (x : Lexeme) (h : Here) (l : Laid) → is_mark x.kind ≡ false
    → Unmarked (question_by o x h l)
unfolding question_by
question_by_unmarked o x h l e =
    let a = question_up_to_unmarked o x (past is_gap (step h)) (behind_question l) e in search (unmarked_if, a)

question_unmarked : (o : OptionsData) (ends : Bool) (h : Here) (l : Laid) → Unmarked (question o ends h l)
unfolding question
question_unmarked o ends h l =
    let x = sign_lexeme ends lexemes.Question h l in
    let a = given_unmarked x Another (step h) (forgets_key l) refl in
    let b = unmarked_behind
    (refuse_column o h.place.column (mark_of h) l.columns >>= λ u. Ok (entered h.place.column l))
    (question_by o x h) (λ t. question_by_unmarked o x h t refl) in
    search (unmarked_if, a, b)

keyed_unmarked : (o : OptionsData) (ends : Bool) (k : PossibleKey) (tail : Option CommentRead) (after h : Here)
    (l : Laid) → Unmarked (keyed_colon o ends k tail after h l)
unfolding keyed_colon
keyed_unmarked o ends k tail after h l =
    let x = colon_lexeme ends (Some (start_of_key k)) tail h l in
    let a = given_unmarked x Another after (forgets_key l) refl in
    let b = unmarked_behind
    (refuse_column o k.start.place.column k.start l.columns >>= λ u. Ok (pair_entered k.start.place.column l))
    (keyed_given x after) (λ t. given_unmarked x Another after (forgets_key t) refl) in
    search (unmarked_if, a, b)

bare_unmarked : (o : OptionsData) (ends : Bool) (tail : Option CommentRead) (after h : Here) (l : Laid)
    → Unmarked (bare_colon o ends tail after h l)
unfolding bare_colon
bare_unmarked o ends tail after h l =
    let x = colon_lexeme ends None tail h l in
    let a = given_unmarked x Another after l refl in
    let b = unmarked_behind
    (refuse_column o h.place.column (mark_of h) l.columns >>= λ u. Ok (pair_entered h.place.column l))
    (bare_given x after) (λ t. given_unmarked x BehindBareColon after t refl) in
    search (unmarked_if, a, b)

by_key_unmarked : (o : OptionsData) (ends : Bool) (k : Option PossibleKey) (tail : Option CommentRead) (after h : Here)
    (l : Laid) → Unmarked (colon_by_key o ends k tail after h l)
by_key_unmarked o ends (Some k) tail after h l = keyed_unmarked o ends k tail after h l
by_key_unmarked o ends None tail after h l = bare_unmarked o ends tail after h l

colon_unmarked : (o : OptionsData) (ends : Bool) (h : Here) (l : Laid) → Unmarked (colon o ends h l)
unfolding colon
colon_unmarked o ends h l =
    let e = unmarked_behind (colon_tail (step h)) (λ x. colon_by_key o ends (top_key l) x.0 x.1 h l)
    (λ x. by_key_unmarked o ends (top_key l) x.0 x.1 h l) in
    search (unmarked_if, e)

noted_unmarked : (is : List Item) (note : Option CommentRead) → any_marks is ≡ false
    → any_marks (is ++ note_items note) ≡ false
noted_unmarked [] None e = refl
noted_unmarked [] (Some c) e = refl
noted_unmarked (OfComment c ∷ is) note e = noted_unmarked is note e
noted_unmarked (OfLexeme l ∷ is) note e =
    rest (is_mark l.kind) (any_marks is) (any_marks (is ++ note_items note)) e (noted_unmarked is note)
  where
    rest : (a b c : Bool) → (a || b) ≡ false → (b ≡ false → c ≡ false) → (a || c) ≡ false
    rest true b c e more = e
    rest false b c e more = more e

gap_unmarked : (o : OptionsData) (r : Read) → Unmarked r → Unmarked (r >>= λ x. with_gap o x.0 x.1)
gap_unmarked o (Ok x) p =
    unmarked_behind (gap o x.1.here x.1.laid) _ (λ y. noted_unmarked x.0 y.0 p)
gap_unmarked o (Err f) p = tt

lexeme_of_unmarked : (o : OptionsData) (sort : PlacedSort) (ends : Bool) (h : Here) (l : Laid)
    → Unmarked (lexeme_of o sort ends h l)
unfolding lexeme_of
lexeme_of_unmarked o (OpenSign bracket) ends h l = opener_unmarked o bracket ends h (noded false h l)
lexeme_of_unmarked o (CloseSign bracket) ends h l = closer_unmarked bracket l.brackets ends h l
lexeme_of_unmarked o CommaSign ends h l = comma_unmarked ends h l
lexeme_of_unmarked o DashSign ends h l = dash_unmarked o ends h l
lexeme_of_unmarked o QuestionSign ends h l = question_unmarked o ends h l
lexeme_of_unmarked o ColonSign ends h l = colon_unmarked o ends h l
lexeme_of_unmarked o AliasSign ends h l = unmarked_behind (name_at h) _ (λ x. refl)
lexeme_of_unmarked o AnchorSign ends h l = unmarked_behind (name_at h) _ (λ x. refl)
lexeme_of_unmarked o TagSign ends h l = unmarked_behind (tag_at (is_in_flow (noded true h l)) h) _ (λ x. refl)
lexeme_of_unmarked o (BlockSign literal) ends h l =
    unmarked_behind (block_scalar literal (block_column (noded false h l)) h) _ (λ x. refl)
lexeme_of_unmarked o (QuoteSign single) ends h l =
    gap_unmarked o (quoted_lexeme o single ends h (noded false h l))
    (unmarked_behind (quoted_scalar single (layout_of o h.place.column (noded false h l)) h) _ (λ x. refl))
lexeme_of_unmarked o StrayMark ends h l = tt
lexeme_of_unmarked o NoSign ends h l = tt
lexeme_of_unmarked o PlainSign ends h l =
    unmarked_behind (plain_scalar (layout_of o h.place.column (noded false h l)) h) _ (λ x. refl)

in_column_unmarked : (o : OptionsData) (sort : PlacedSort) (ends : Bool) (h : Here) (l : Laid)
    → Unmarked (lexeme_in_column o sort ends h l)
unfolding lexeme_in_column
in_column_unmarked o sort ends h l =
    let e = lexeme_of_unmarked o sort ends h l in search (unmarked_if, e)

-- ---- marks

abbrev pub Clears : Read → Type 0
Clears (Ok x) = any_marks x.0 ≡ true → IsClear x.1.laid
Clears (Err f) = Unit {0}

clears_unmarked : (r : Read) → Unmarked r → Clears r
clears_unmarked (Ok x) p = λ e. absurd (cc)
clears_unmarked (Err f) p = tt

clears_if : (b : Bool) (x y : Read) → Clears x → Clears y → Clears (if b then x else y)
clears_if true x y p q = p
clears_if false x y p q = q

clears_guarded : (r : Result (Unit {0}) Fault) (t : Laid) (f : Laid → Read) → Clears (f t)
    → Clears ((r >>= λ u. Ok t) >>= f)
clears_guarded (Ok u) t f p = p
clears_guarded (Err e) t f p = tt

clears_behind : {A : Type 0} (r : Result A Fault) (f : A → Read) → ((x : A) → Clears (f x)) → Clears (r >>= f)
clears_behind (Ok x) f q = q x
clears_behind (Err e) f q = tt

forgotten_clear : (l : Laid) → l.brackets ≡ [] → IsClear (forgets_key l)
forgotten_clear l e =
    (ap (keyed_brackets None) e, ap (λ (bs : List OpenBracket). outer_key bs None l.key) e)

-- what refuses open brackets is followed where none is open
open_clears : (bs : List OpenBracket) (f : Unit {0} → Read) → (bs ≡ [] → Clears (f tt)) → Clears (refuse_open bs >>= f)
open_clears [] f q = q refl
open_clears (b ∷ bs) f q = tt

text_end_clears : (h : Here) (l : Laid) → Clears (text_end h l)
text_end_clears h l =
    let f : Laid → Read = λ t. read_to (lexeme_to (ends_all l) lexemes.StreamEnd (mark_of h) h l) h (behind_end t) in
    open_clears l.brackets _
    (λ e. clears_guarded (refuse_required (top_key l)) (forgets_key l) f (λ any. forgotten_clear l e))

end_mark_up_to_clears : (x : Lexeme) (l : Laid) (tail : Option CommentRead) (h : Here) → l.brackets ≡ []
    → Clears (end_mark_up_to x l tail h)
unfolding end_mark_up_to
end_mark_up_to_clears x l tail h e =
    let clear : Clears (read_to (with_tail x tail) h (behind_end_mark l)) = λ any. forgotten_clear l e in
    search (clears_if, clear)

end_mark_clears : (ends : Bool) (h : Here) (l : Laid) → l.brackets ≡ [] → Clears (end_mark ends h l)
end_mark_clears ends h l e =
    let x = lexeme_to ends lexemes.DocumentEnd (mark_of (steps 3 h)) h l in
    clears_behind (tail_at (steps 3 h)) (λ y. end_mark_up_to x l y.0 y.1)
    (λ y. end_mark_up_to_clears x l y.0 y.1 e)

lexeme_clears : (o : OptionsData) (sort : LexemeSort) (h : Here) (l : Laid) → Clears (lexeme_by o sort h l)
unfolding lexeme_by
lexeme_clears o TextEnd h l = text_end_clears h l
lexeme_clears o StartMark h l =
    open_clears l.brackets _ (λ e any. forgotten_clear (closed_all l) e)
lexeme_clears o EndMark h l = open_clears l.brackets _ (λ e. end_mark_clears (ends_all l) h (closed_all l) e)
lexeme_clears o DirectiveSign h l =
    clears_unmarked (directive_lexeme o (ends_all l) h (closed_all l))
    (unmarked_behind (directives.directive o h) (λ x. directive_given (ends_all l) h (closed_all l) x.0 x.1)
    (λ x. refl))
lexeme_clears o Unprintable h l = tt
lexeme_clears o (Placed sort) h l =
    clears_unmarked (lexeme_in_column o sort (ends_at h.place.column l) h (closed_at h.place.column l))
    (in_column_unmarked o sort (ends_at h.place.column l) h (closed_at h.place.column l))

-- ---- a read

behind_clears : (o : OptionsData) (c : Option CommentRead) (s : ReaderState) → Clears (read_behind o c s)
behind_clears o (Some c) s = λ e. absurd (cc)
behind_clears o None s =
    clears_behind
    (refuse_required (stale_key o (is_in_flow s.laid) (mark_of s.here) s.laid.key)
    >>= λ u. Ok (fresh o (mark_of s.here) s.laid)) (lexeme o s.here)
    (λ l. lexeme_clears o (sort_at (is_in_flow l) (is_adjacent l.last) s.here) s.here l)

fresh_clear : (o : OptionsData) (m : Mark) (l : Laid) → IsClear l → IsClear (fresh o m l)
fresh_clear o m l p = (ap (map (fresh_bracket o m)) p.0, ap (fresh_key o (is_in_flow l) m) p.1)

whole_clears : (o : OptionsData) (r : Read) → Clears r → Clears (r >>= λ y. read_whole o y.0 y.1)
whole_clears o (Ok y) p =
    let m = mark_of y.1.here in
    clears_guarded (refuse_required (stale_key o (is_in_flow y.1.laid) m y.1.laid.key)) (fresh o m y.1.laid)
    (λ l. Ok (y.0, record { here = y.1.here; laid = l })) (λ any. fresh_clear o m y.1.laid (p any))
whole_clears o (Err f) p = tt

pub read_clears : (o : OptionsData) (s : ReaderState) → Clears (read o s)
unfolding read
read_clears o s =
    clears_behind (gap o s.here s.laid) (λ x. read_behind o x.0 x.1 >>= λ y. read_whole o y.0 y.1)
    (λ x. whole_clears o (read_behind o x.0 x.1) (behind_clears o x.0 x.1))
