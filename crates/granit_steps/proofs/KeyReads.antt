-- Simple keys are possible from the read of their first lexeme on, and never again once they aren't; and they nest.
use Rattle.std.proofs.Common.{◌≡◌, ℕ, suc, ◌||◌, Bool, true, false, List, [], ◌∷◌, map, Option, Some, None, Result, Ok}
use Rattle.std.proofs.Common.{Err, refl, sym, ap, subst, ◌∙◌, inl, inr}
use Rattle.std.specs.Prelude.{if◌then◌else◌}
use Rattle.granit_base.specs.Classes.{is_gap}
use Rattle.granit_base.specs.Place.{Mark}
use Rattle.granit_error.specs.OptionsData.{OptionsData}
use Rattle.granit_lexemes.specs.BlockScalar.{block_scalar}
use Rattle.granit_lexemes.specs.Comment.{CommentRead, comment}
use Rattle.granit_lexemes.specs.Directive as directives
use Rattle.granit_lexemes.specs.Here.{Here, mark_of, step, past}
use Rattle.granit_lexemes.specs.LayoutData.{is_left}
use Rattle.granit_lexemes.specs.Lexeme.{DocumentEnd, StreamEnd, Open, Close, Comma, Dash, Question, KeyStart, Lexeme}
use Rattle.granit_lexemes.specs.Lexeme.{Item, OfLexeme, OfComment}
use Rattle.granit_lexemes.specs.declared.layout.Bracket.{Bracket}
use Rattle.granit_lexemes.specs.Moves.{steps}
use Rattle.granit_lexemes.specs.Outcome.{Fault, ◌>>=◌}
use Rattle.granit_lexemes.specs.PlainScalar.{plain_scalar}
use Rattle.granit_lexemes.specs.QuotedScalar.{quoted_scalar}
use Rattle.granit_lexemes.specs.Tags.{name_at, tag_at}
use Rattle.granit_lexemes.specs.Tail.{tail_at}
use Rattle.granit_machine.specs.Columns.{refuse_column, entered, pair_entered, closed_at, closed_all, ends_at, ends_all}
use Rattle.granit_machine.specs.FlowLexemes.{opened, opener, closed_bracket, closes, closer_by, last_of_comma, comma}
use Rattle.granit_machine.specs.Gaps.{leading_tab, refuse_tab, refuse_cut, past_gap, begins_gap, takes_prefix, GapRead}
use Rattle.granit_machine.specs.Gaps.{noted_gap, ready_gap, gap_ends, gap}
use Rattle.granit_machine.specs.IndicatorLexemes.{widened_if, is_before_break, dash_lexeme, behind_dash, dash_up_to}
use Rattle.granit_machine.specs.IndicatorLexemes.{dash, question_noted, question_up_to, behind_question, question_by}
use Rattle.granit_machine.specs.IndicatorLexemes.{question, colon_lexeme, keyed_given, keyed_colon, bare_given}
use Rattle.granit_machine.specs.IndicatorLexemes.{bare_colon, colon_by_key, colon_tail, colon}
use Rattle.granit_machine.specs.Laid.{Laid, is_in_flow, is_adjacent, block_column}
use Rattle.granit_lexemes.specs.declared.layout.LastLexeme.{LastLexeme}
use Rattle.granit_lexemes.specs.declared.layout.LastLexeme.TheVariants.{Opener, BehindDash, BehindQuestion, Adjacent}
use Rattle.granit_lexemes.specs.declared.layout.LastLexeme.TheVariants.{Another}
use Rattle.granit_lexemes.specs.declared.layout.PossibleKey.{PossibleKey}
use Rattle.granit_lexemes.specs.declared.layout.OpenBracket.{OpenBracket}
use Rattle.granit_machine.specs.LexemeSort.{PlacedSort, OpenSign, CloseSign, CommaSign, DashSign, QuestionSign}
use Rattle.granit_machine.specs.LexemeSort.{ColonSign, AliasSign, AnchorSign, TagSign, BlockSign, QuoteSign, StrayMark}
use Rattle.granit_machine.specs.LexemeSort.{NoSign, PlainSign, LexemeSort, TextEnd, StartMark, EndMark, Unprintable}
use Rattle.granit_machine.specs.LexemeSort.{DirectiveSign, Placed, sort_at}
use Rattle.granit_machine.specs.Lexing.{and_key}
use Rattle.granit_machine.specs.NodeLexemes.{alias_lexeme, anchor_lexeme, tag_lexeme, block_lexeme, plain_lexeme}
use Rattle.granit_machine.specs.NodeLexemes.{quoted_lexeme, with_note, with_gap, quoted_and_gap}
use Rattle.granit_machine.specs.PossibleKeys.{key_in, top_key, outer_key, keyed_brackets, with_top_key, forgets_key}
use Rattle.granit_machine.specs.PossibleKeys.{refuse_required, fresh_key, stale_key, fresh_bracket, fresh, is_stale}
use Rattle.granit_machine.specs.PossibleKeys.{is_allowed, new_key, key_goes_on, node_key, start_of_key, layout_of}
use Rattle.granit_machine.specs.Reader.{noded, lexeme_of, lexeme_in_column, lexeme_by, lexeme, read_behind, read_whole}
use Rattle.granit_machine.specs.Reader.{read}
use Rattle.granit_machine.specs.ReaderState.{ReaderState, Read, lexeme_to, sign_lexeme, with_tail, read_to, given}
use Rattle.granit_machine.specs.ReaderState.{behind_tail, tailed_by, tailed, refuse_open}
use Rattle.granit_machine.specs.StreamLexemes.{behind_end, text_end, start_mark, end_mark_up_to, end_mark}
use Rattle.granit_machine.specs.StreamLexemes.{directive_given, directive_lexeme}
use Rattle.granit_steps.proofs.Subs.{Sub, sub_refl, sub_trans, sub_without_key}

-- ---- the possible keys, the innermost first

abbrev pub key_start : Option PossibleKey → Option KeyStart
key_start None = None
key_start (Some k) = Some (start_of_key k)

abbrev pub in_brackets : List OpenBracket → List ℕ → List ℕ
in_brackets [] ns = ns
in_brackets (b ∷ bs) ns = and_key (key_start b.key) (in_brackets bs ns)

abbrev pub possibles : Laid → List ℕ
possibles l = in_brackets l.brackets (and_key (key_start l.key) [])

-- ---- the same number and no more keys

abbrev pub IsFewer : Laid → Laid → Type 0
IsFewer s t = (t.number ≡ s.number) × Sub (possibles t) (possibles s)

pub fewer_refl : (s : Laid) → IsFewer s s
fewer_refl s = (refl, sub_refl (possibles s))

-- ---- the innermost key

-- the keys outside the innermost bracket
abbrev outer : List OpenBracket → Option PossibleKey → List ℕ
outer [] key = []
outer (b ∷ bs) key = in_brackets bs (and_key (key_start key) [])

abbrev outside : Laid → List ℕ
outside l = outer l.brackets l.key

parts_in : (bs : List OpenBracket) (key : Option PossibleKey)
    → in_brackets bs (and_key (key_start key) []) ≡ and_key (key_start (key_in bs key)) (outer bs key)
parts_in [] key = refl
parts_in (b ∷ bs) key = refl

top_parts : (l : Laid) → possibles l ≡ and_key (key_start (top_key l)) (outside l)
top_parts l = parts_in l.brackets l.key

with_parts_in : (bs : List OpenBracket) (key old : Option PossibleKey)
    → in_brackets (keyed_brackets key bs) (and_key (key_start (outer_key bs key old)) [])
    ≡ and_key (key_start key) (outer bs old)
with_parts_in [] key old = refl
with_parts_in (b ∷ bs) key old = refl

with_parts : (key : Option PossibleKey) (l : Laid)
    → possibles (with_top_key key l) ≡ and_key (key_start key) (outside l)
with_parts key l = with_parts_in l.brackets key l.key

outside_sub : (l : Laid) → Sub (outside l) (possibles l)
outside_sub l = subst (λ ys. Sub (outside l) ys) (sym (top_parts l))
    (sub_without_key (key_start (top_key l)) (outside l) (outside l) (sub_refl (outside l)))

forgets_fewer : (l : Laid) → IsFewer l (forgets_key l)
forgets_fewer l = (refl, subst (λ xs. Sub xs (possibles l)) (sym (with_parts None l)) (outside_sub l))

-- ---- stale keys

fresh_if : (b : Bool) (k : PossibleKey) (xs ys : List ℕ) → Sub xs ys
    → Sub (and_key (key_start (if b then None else Some k)) xs) (k.number ∷ ys)
fresh_if true k xs ys p = inr p
fresh_if false k xs ys p = inl (refl, p)

fresh_key_sub : (o : OptionsData) (in_flow : Bool) (m : Mark) (k : Option PossibleKey) (xs ys : List ℕ) → Sub xs ys
    → Sub (and_key (key_start (fresh_key o in_flow m k)) xs) (and_key (key_start k) ys)
fresh_key_sub o in_flow m None xs ys p = p
fresh_key_sub o in_flow m (Some k) xs ys p = fresh_if (is_stale o in_flow m k) k xs ys p

fresh_sub : (o : OptionsData) (m : Mark) (bs : List OpenBracket) (xs ys : List ℕ) → Sub xs ys
    → Sub (in_brackets (map (fresh_bracket o m) bs) xs) (in_brackets bs ys)
fresh_sub o m [] xs ys p = p
fresh_sub o m (b ∷ bs) xs ys p = fresh_key_sub o true m b.key (in_brackets (map (fresh_bracket o m) bs) xs)
    (in_brackets bs ys) (fresh_sub o m bs xs ys p)

fresh_fewer : (o : OptionsData) (m : Mark) (l : Laid) → IsFewer l (fresh o m l)
fresh_fewer o m l = (
  refl,
  fresh_sub o m l.brackets (and_key (key_start (fresh_key o (is_in_flow l) m l.key)) [])
      (and_key (key_start l.key) []) (fresh_key_sub o (is_in_flow l) m l.key [] [] tt),
)

-- ---- what a read gives

-- a key that a `:` finds is possible until then, and no key inside it; otherwise the new lexeme's key may be possible
-- too
abbrev pub KeysBehind : Option KeyStart → ℕ → List ℕ → List ℕ → Type 0
KeysBehind None number before after = Sub after (number ∷ before)
KeysBehind (Some k) number before after = Sub (k.number ∷ after) before

abbrev pub IsComment : List Item → Type 0
IsComment [] = Unit {0}
IsComment (OfLexeme x ∷ is) = ⊥
IsComment (OfComment c ∷ []) = Unit {0}
IsComment (OfComment c ∷ i ∷ is) = ⊥

-- a lexeme, and a comment at most behind it
abbrev pub Items : ℕ → List ℕ → List Item → Laid → Type 0
Items number before [] t = ⊥
Items number before (OfComment c ∷ []) t = (t.number ≡ number) × Sub (possibles t) before
Items number before (OfComment c ∷ i ∷ is) t = ⊥
Items number before (OfLexeme x ∷ is) t = (x.number ≡ number) × (t.number ≡ suc number)
    × KeysBehind x.key number before (possibles t) × IsComment is

abbrev pub Lexed : ℕ → List ℕ → Read → Type 0
Lexed number before (Ok x) = Items number before x.0 x.1.laid
Lexed number before (Err f) = Unit {0}

-- where a lexeme of a number begins
abbrev At : ℕ → List ℕ → Laid → Type 0
At number before l = (l.number ≡ number) × Sub (possibles l) (number ∷ before)

-- where a lexeme begins that finds a key, or may
abbrev AtOld : ℕ → List ℕ → Laid → Type 0
AtOld number before l = (l.number ≡ number) × Sub (possibles l) before

at_old : (number : ℕ) (before : List ℕ) (l : Laid) → AtOld number before l → At number before l
at_old number before l p = (p.0, inr p.1)

old_fewer : (number : ℕ) (before : List ℕ) (s t : Laid) → AtOld number before s → IsFewer s t → AtOld number before t
old_fewer number before s t p q = (q.0 ∙ p.0, sub_trans (possibles t) (possibles s) before q.1 p.1)

forgotten : (number : ℕ) (before : List ℕ) (l : Laid) → At number before l → At number before (forgets_key l)
forgotten number before l p = let q = forgets_fewer
    l in (p.0, sub_trans (possibles (forgets_key l)) (possibles l) (number ∷ before) q.1 p.1)

lexed_if : (number : ℕ) (before : List ℕ) (b : Bool) (x y : Read) → Lexed number before x → Lexed number before y
    → Lexed number before (if b then x else y)
lexed_if number before true x y p q = p
lexed_if number before false x y p q = q

lexed_behind : {A : Type 0} (number : ℕ) (before : List ℕ) (r : Result A Fault) (f : A → Read)
    → ((x : A) → Lexed number before (f x)) → Lexed number before (r >>= f)
lexed_behind number before (Ok x) f q = q x
lexed_behind number before (Err e) f q = tt

-- behind a guard that leaves a state
lexed_guarded : (number : ℕ) (before : List ℕ) (r : Result (Unit {0}) Fault) (t : Laid) (f : Laid → Read)
    → Lexed number before (f t) → Lexed number before ((r >>= λ u. Ok t) >>= f)
lexed_guarded number before (Ok u) t f p = p
lexed_guarded number before (Err e) t f p = tt

-- a lexeme that finds no key
given_keys : (number : ℕ) (before : List ℕ) (x : Lexeme) (last : LastLexeme) (h : Here) (t : Laid) → x.number ≡ number
    → x.key ≡ None → At number before t → Lexed number before (given x last h t)
given_keys number before x last h t e k p = (
  e,
  ap suc p.0,
  subst (λ key. KeysBehind key number before (possibles t))
      (sym k) p.1,
  tt,
)

tailed_keys : (number : ℕ) (before : List ℕ) (x : Lexeme) (last : LastLexeme) (end : Here) (t : Laid)
    → x.number ≡ number → x.key ≡ None → At number before t → Lexed number before (tailed x last end t)
unfolding tailed
tailed_keys number before x last end t e k p =
    lexed_behind number before (tail_at end) (λ y. tailed_by x last t y.0 y.1)
    (λ y. given_keys number before (with_tail x y.0) (behind_tail last y.0) y.1 t e k p)

-- ---- nodes

goes_on_if : (property low b : Bool) (k : PossibleKey) (xs : List ℕ)
    → Sub (and_key (key_start (if b then Some (record k { is_low = k.is_low || low; is_head = property }) else Some k))
    xs) (k.number ∷ xs)
goes_on_if property low true k xs = sub_refl (k.number ∷ xs)
goes_on_if property low false k xs = sub_refl (k.number ∷ xs)

goes_on_sub : (property low : Bool) (k : Option PossibleKey) (xs : List ℕ)
    → Sub (and_key (key_start (key_goes_on property low k)) xs) (and_key (key_start k) xs)
goes_on_sub property low None xs = sub_refl xs
goes_on_sub property low (Some k) xs = goes_on_if property low k.is_head k xs

key_if : (b : Bool) (x y : Option PossibleKey) (inner outer : List ℕ) → Sub (and_key (key_start x) inner) outer
    → Sub (and_key (key_start y) inner) outer → Sub (and_key (key_start (if b then x else y)) inner) outer
key_if true x y inner outer p q = p
key_if false x y inner outer p q = q

node_key_sub : (number : ℕ) (before : List ℕ) (property allowed : Bool) (m : Mark) (l : Laid) → AtOld number before l
    → Sub (and_key (key_start (node_key property allowed m l)) (outside l)) (number ∷ before)
unfolding node_key
node_key_sub number before property allowed m l p =
    let low = is_left (block_column l) m.place.column in
    key_if allowed (Some (new_key property m l)) (key_goes_on property low (top_key l)) (outside l) (number ∷ before)
    (inl (p.0, sub_trans (outside l) (possibles l) before (outside_sub l) p.1))
    (inr (sub_trans (and_key (key_start (key_goes_on property low (top_key l))) (outside l))
    (and_key (key_start (top_key l)) (outside l)) before (goes_on_sub property low (top_key l) (outside l))
    (subst (λ xs. Sub xs before) (top_parts l) p.1)))

noded_at : (number : ℕ) (before : List ℕ) (property : Bool) (h : Here) (l : Laid) → AtOld number before l
    → At number before (noded property h l)
noded_at number before property h l p =
    let allowed = is_allowed h.begins_line h.tab l in (
      p.0,
      subst (λ xs. Sub xs (number ∷ before)) (sym (with_parts (node_key property allowed (mark_of h) l) l))
          (node_key_sub number before property allowed (mark_of h) l p),
    )

-- ---- brackets and `,`

opener_keys : (number : ℕ) (before : List ℕ) (o : OptionsData) (bracket : Bracket) (ends : Bool) (h : Here) (l : Laid)
    → At number before l → Lexed number before (opener o bracket ends h l)
unfolding opener
opener_keys number before o bracket ends h l p =
    let e = tailed_keys number before (sign_lexeme ends (Open bracket) h l) Opener (step h)
    (opened bracket (mark_of h) l) p.0 refl p in
    search (lexed_if, e)

closes_keys : (number : ℕ) (before : List ℕ) (bracket : Bracket) (b : OpenBracket) (bs : List OpenBracket) (ends : Bool)
    (h : Here) (l : Laid) → l.brackets ≡ b ∷ bs → At number before l
    → Lexed number before (closes bracket b bs ends h l)
unfolding closes
closes_keys number before bracket b bs ends h l e p =
    let inner = in_brackets bs (and_key (key_start l.key) []) in
    let inside : Sub inner (number ∷ before) =
    sub_trans inner (in_brackets (b ∷ bs) (and_key (key_start l.key) [])) (number ∷ before)
    (sub_without_key (key_start b.key) inner inner (sub_refl inner))
    (subst (λ bs. Sub (in_brackets bs (and_key (key_start l.key) [])) (number ∷ before)) e p.1) in
    let k = tailed_keys number before (sign_lexeme ends (Close bracket) h l) Adjacent (step h) (closed_bracket bs l) p.0
    refl (p.0, inside) in
    search (lexed_if, k)

closer_by_keys : (number : ℕ) (before : List ℕ) (bracket : Bracket) (bs : List OpenBracket) (ends : Bool) (h : Here)
    (l : Laid) → l.brackets ≡ bs → At number before l → Lexed number before (closer_by bracket bs ends h l)
closer_by_keys number before bracket [] ends h l e p = tt
closer_by_keys number before bracket (b ∷ bs) ends h l e p = closes_keys number before bracket b bs ends h l e p

comma_keys : (number : ℕ) (before : List ℕ) (ends : Bool) (h : Here) (l : Laid) → At number before l
    → Lexed number before (comma ends h l)
comma_keys number before ends h l p =
    let x = sign_lexeme ends Comma h l in
    lexed_guarded number before (refuse_required (top_key l)) (forgets_key l) (tailed x (last_of_comma l) (step h))
    (tailed_keys number before x (last_of_comma l) (step h) (forgets_key l) p.0 refl (forgotten number before l p))

-- ---- indicators

behind_dash_keys : (number : ℕ) (before : List ℕ) (x : Lexeme) (l : Laid) (tail : Option CommentRead) (h : Here)
    → x.number ≡ number → x.key ≡ None → At number before l → Lexed number before (behind_dash x l tail h)
unfolding behind_dash
behind_dash_keys number before x l tail h e k p =
    let t = widened_if (is_before_break h) l in
    let f = given_keys number before (dash_lexeme x tail h) BehindDash h (forgets_key t) e k
    (forgotten number before t p) in
    search (lexed_if, f)

dash_up_to_keys : (number : ℕ) (before : List ℕ) (x : Lexeme) (end : Here) (l : Laid) → x.number ≡ number → x.key ≡ None
    → At number before l → Lexed number before (dash_up_to x end l)
unfolding dash_up_to
dash_up_to_keys number before x end l e k p = lexed_behind number before (tail_at end) (λ y. behind_dash x l y.0 y.1)
    (λ y. behind_dash_keys number before x l y.0 y.1 e k p)

dash_keys : (number : ℕ) (before : List ℕ) (o : OptionsData) (ends : Bool) (h : Here) (l : Laid) → At number before l
    → Lexed number before (dash o ends h l)
unfolding dash
dash_keys number before o ends h l p =
    let x = sign_lexeme ends Dash h l in
    let e = lexed_guarded number before (refuse_column o h.place.column (mark_of h) l.columns)
    (entered h.place.column l) (dash_up_to x (step h))
    (dash_up_to_keys number before x (step h) (entered h.place.column l) p.0 refl p) in
    search (lexed_if, e)

question_up_to_keys : (number : ℕ) (before : List ℕ) (o : OptionsData) (x : Lexeme) (h : Here) (l : Laid)
    → x.number ≡ number → x.key ≡ None → At number before l → Lexed number before (question_up_to o x h l)
unfolding question_up_to
question_up_to_keys number before o x h l e k p =
    let a = lexed_behind number before (comment h) (λ y. question_noted x l y.0 y.1)
    (λ y. given_keys number before (with_tail x (Some y.0)) BehindQuestion y.1 l e k p) in
    let b = lexed_behind number before (refuse_tab o l (mark_of h) (leading_tab h)) (λ u. given x BehindQuestion h l)
    (λ u. given_keys number before x BehindQuestion h l e k p) in
    search (lexed_if, a, b)

question_by_keys : (number : ℕ) (before : List ℕ) (o : OptionsData) (x : Lexeme) (h : Here) (l : Laid)
    → x.number ≡ number → x.key ≡ None → At number before l → Lexed number before (question_by o x h l)
unfolding question_by
question_by_keys number before o x h l e k p =
    let a = question_up_to_keys number before o x (past is_gap (step h)) (behind_question l) e k
    (forgotten number before (record l { rolled = false; last = BehindQuestion }) p) in
    search (lexed_if, a)

question_keys : (number : ℕ) (before : List ℕ) (o : OptionsData) (ends : Bool) (h : Here) (l : Laid)
    → At number before l → Lexed number before (question o ends h l)
unfolding question
question_keys number before o ends h l p =
    let x = sign_lexeme ends Question h l in
    let a = given_keys number before x Another (step h) (forgets_key l) p.0 refl (forgotten number before l p) in
    let b = lexed_guarded number before (refuse_column o h.place.column (mark_of h) l.columns)
    (entered h.place.column l) (question_by o x h)
    (question_by_keys number before o x h (entered h.place.column l) p.0 refl p) in
    search (lexed_if, a, b)

-- ---- `:`

found_key : (number : ℕ) (before : List ℕ) (ends : Bool) (k : PossibleKey) (tail : Option CommentRead) (after h : Here)
    (l t : Laid) → top_key l ≡ Some k → AtOld number before l → t.number ≡ l.number
    → possibles (forgets_key t) ≡ outside l
    → Lexed number before (keyed_given (colon_lexeme ends (Some (start_of_key k)) tail h l) after t)
found_key number before ends k tail after h l t e p n left =
    let is : possibles l ≡ k.number ∷ outside l = top_parts l ∙ ap (λ key. and_key (key_start key) (outside l)) e in (
      p.0,
      ap suc (n ∙ p.0),
      subst (λ xs. Sub (k.number ∷ xs) before) (sym left) (subst (λ xs. Sub xs before) is p.1),
      tt,
    )

keyed_colon_keys : (number : ℕ) (before : List ℕ) (o : OptionsData) (ends : Bool) (k : PossibleKey)
    (tail : Option CommentRead) (after h : Here) (l : Laid) → top_key l ≡ Some k → AtOld number before l
    → Lexed number before (keyed_colon o ends k tail after h l)
unfolding keyed_colon
keyed_colon_keys number before o ends k tail after h l e p =
    let column = k.start.place.column in
    let a = found_key number before ends k tail after h l l e p refl (with_parts None l) in
    let b = lexed_guarded number before (refuse_column o column k.start l.columns) (pair_entered column l)
    (keyed_given (colon_lexeme ends (Some (start_of_key k)) tail h l) after)
    (found_key number before ends k tail after h l (pair_entered column l) e p refl (with_parts None l)) in
    search (lexed_if, a, b)

bare_colon_keys : (number : ℕ) (before : List ℕ) (o : OptionsData) (ends : Bool) (tail : Option CommentRead)
    (after h : Here) (l : Laid) → AtOld number before l → Lexed number before (bare_colon o ends tail after h l)
unfolding bare_colon
bare_colon_keys number before o ends tail after h l p =
    let x = colon_lexeme ends None tail h l in
    let q = at_old number before l p in
    let a = given_keys number before x Another after l p.0 refl q in
    let b = lexed_guarded number before (refuse_column o h.place.column (mark_of h) l.columns)
    (pair_entered h.place.column l) (bare_given x after) (p.0, ap suc p.0, q.1, tt) in
    search (lexed_if, a, b)

colon_by_key_keys : (number : ℕ) (before : List ℕ) (o : OptionsData) (ends : Bool) (k : Option PossibleKey)
    (tail : Option CommentRead) (after h : Here) (l : Laid) → top_key l ≡ k → AtOld number before l
    → Lexed number before (colon_by_key o ends k tail after h l)
colon_by_key_keys number before o ends (Some k) tail after h l e p = keyed_colon_keys number before o ends k tail after
    h l e p
colon_by_key_keys number before o ends None tail after h l e p = bare_colon_keys number before o ends tail after h l p

colon_keys : (number : ℕ) (before : List ℕ) (o : OptionsData) (ends : Bool) (h : Here) (l : Laid)
    → AtOld number before l → Lexed number before (colon o ends h l)
unfolding colon
colon_keys number before o ends h l p =
    let e = lexed_behind number before (colon_tail (step h)) (λ x. colon_by_key o ends (top_key l) x.0 x.1 h l)
    (λ x. colon_by_key_keys number before o ends (top_key l) x.0 x.1 h l refl p) in
    search (lexed_if, e)

-- ---- document marks, directives and the end

start_mark_keys : (number : ℕ) (before : List ℕ) (ends : Bool) (h : Here) (l : Laid) → At number before l
    → Lexed number before (start_mark ends h l)
start_mark_keys number before ends h l p = let b = forgotten number before l p in (p.0, ap suc b.0, b.1, tt)

end_mark_up_to_keys : (number : ℕ) (before : List ℕ) (x : Lexeme) (l : Laid) (tail : Option CommentRead) (h : Here)
    → x.number ≡ number → x.key ≡ None → At number before l → Lexed number before (end_mark_up_to x l tail h)
unfolding end_mark_up_to
end_mark_up_to_keys number before x l tail h e k p =
    let f = given_keys number before (with_tail x tail) Another h (forgets_key l) e k (forgotten number before l p) in
    search (lexed_if, f)

end_mark_keys : (number : ℕ) (before : List ℕ) (ends : Bool) (h : Here) (l : Laid) → At number before l
    → Lexed number before (end_mark ends h l)
end_mark_keys number before ends h l p =
    let x = lexeme_to ends DocumentEnd (mark_of (steps 3 h)) h l in
    lexed_behind number before (tail_at (steps 3 h)) (λ y. end_mark_up_to x l y.0 y.1)
    (λ y. end_mark_up_to_keys number before x l y.0 y.1 p.0 refl p)

directive_keys : (number : ℕ) (before : List ℕ) (o : OptionsData) (ends : Bool) (h : Here) (l : Laid)
    → At number before l → Lexed number before (directive_lexeme o ends h l)
directive_keys number before o ends h l p =
    let b = forgotten number before l p in
    lexed_behind number before (directives.directive o h) (λ x. directive_given ends h l x.0 x.1)
    (λ x. (p.0, ap suc b.0, b.1, tt))

text_end_keys : (number : ℕ) (before : List ℕ) (h : Here) (l : Laid) → At number before l
    → Lexed number before (text_end h l)
text_end_keys number before h l p =
    let b = forgotten number before l p in
    let f : Laid → Read = λ t. read_to (lexeme_to (ends_all l) StreamEnd (mark_of h) h l) h (behind_end t) in
    lexed_behind number before (refuse_open l.brackets) _
    (λ u. lexed_guarded number before (refuse_required (top_key l)) (forgets_key l) f (p.0, ap suc b.0, b.1, tt))

-- ---- properties and scalars

alias_keys : (number : ℕ) (before : List ℕ) (ends : Bool) (h : Here) (l : Laid) → At number before l
    → Lexed number before (alias_lexeme ends h l)
alias_keys number before ends h l p = lexed_behind number before (name_at h) _ (λ x. (p.0, ap suc p.0, p.1, tt))

anchor_keys : (number : ℕ) (before : List ℕ) (o : OptionsData) (ends : Bool) (h : Here) (l : Laid) → At number before l
    → Lexed number before (anchor_lexeme o ends h l)
anchor_keys number before o ends h l p = lexed_behind number before (name_at h) _ (λ x. (p.0, ap suc p.0, p.1, tt))

tag_keys : (number : ℕ) (before : List ℕ) (o : OptionsData) (ends : Bool) (h : Here) (l : Laid) → At number before l
    → Lexed number before (tag_lexeme o ends h l)
tag_keys number before o ends h l p = lexed_behind number before (tag_at (is_in_flow l) h) _
    (λ x. (p.0, ap suc p.0, p.1, tt))

block_keys : (number : ℕ) (before : List ℕ) (literal ends : Bool) (h : Here) (l : Laid) → At number before l
    → Lexed number before (block_lexeme literal ends h l)
block_keys number before literal ends h l p = lexed_behind number before (block_scalar literal (block_column l) h) _
    (λ x. (p.0, ap suc p.0, p.1, tt))

plain_keys : (number : ℕ) (before : List ℕ) (o : OptionsData) (ends : Bool) (h : Here) (l : Laid) → At number before l
    → Lexed number before (plain_lexeme o ends h l)
plain_keys number before o ends h l p = lexed_behind number before (plain_scalar (layout_of o h.place.column l) h) _
    (λ x. (p.0, ap suc p.0, p.1, tt))

-- ---- gaps, which leave the keys as they are

abbrev pub GapKeeps : Laid → GapRead → Type 0
GapKeeps l (Ok x) = IsFewer l x.1.laid
GapKeeps l (Err f) = Unit {0}

gap_behind : {A : Type 0} (l : Laid) (r : Result A Fault) (f : A → GapRead) → ((x : A) → GapKeeps l (f x))
    → GapKeeps l (r >>= f)
gap_behind l (Ok x) f q = q x
gap_behind l (Err e) f q = tt

gap_if : (l : Laid) (b : Bool) (x y : GapRead) → GapKeeps l x → GapKeeps l y → GapKeeps l (if b then x else y)
gap_if l true x y p q = p
gap_if l false x y p q = q

noted_gap_keeps : (h : Here) (l : Laid) → GapKeeps l (noted_gap h l)
unfolding noted_gap
noted_gap_keeps h l = gap_behind l (comment h) _ (λ x. fewer_refl l)

ready_gap_keeps : (o : OptionsData) (moved : Bool) (h : Here) (l : Laid) → GapKeeps l (ready_gap o moved h l)
unfolding ready_gap
ready_gap_keeps o moved h l = gap_behind l (refuse_tab o l (mark_of h) (leading_tab h)) _
    (λ t. gap_behind l (refuse_cut l h) _ (λ u. fewer_refl l))

gap_ends_keeps : (o : OptionsData) (moved : Bool) (h : Here) (l : Laid) → GapKeeps l (gap_ends o moved h l)
unfolding gap_ends
gap_ends_keeps o moved h l = let a = noted_gap_keeps h l in let b = ready_gap_keeps o moved h l in search (gap_if, a, b)

pub gap_keeps : (o : OptionsData) (h : Here) (l : Laid) → GapKeeps l (gap o h l)
gap_keeps o h l = gap_ends_keeps o (begins_gap (takes_prefix l) h) (past_gap (takes_prefix l) h) l

lexed_behind_gap : (number : ℕ) (before : List ℕ) (l : Laid) (r : GapRead) (f : Option CommentRead × ReaderState → Read)
    → GapKeeps l r → ((x : Option CommentRead × ReaderState) → IsFewer l x.1.laid → Lexed number before (f x))
    → Lexed number before (r >>= f)
lexed_behind_gap number before l (Ok x) f p q = q x p
lexed_behind_gap number before l (Err e) f p q = tt

-- ---- quoted scalars

keys_fewer : (key : Option KeyStart) (number : ℕ) (before after less : List ℕ) → Sub less after
    → KeysBehind key number before after → KeysBehind key number before less
keys_fewer None number before after less p q = sub_trans less after (number ∷ before) p q
keys_fewer (Some k) number before after less p q = sub_trans (k.number ∷ less) (k.number ∷ after) before (inl (refl, p))
    q

items_fewer : (number : ℕ) (before : List ℕ) (items : List Item) (s t : Laid) → IsFewer s t
    → Items number before items s → Items number before items t
items_fewer number before [] s t p q = q
items_fewer number before (OfComment c ∷ []) s t p q = (p.0 ∙ q.0, sub_trans (possibles t) (possibles s) before p.1 q.1)
items_fewer number before (OfComment c ∷ i ∷ is) s t p q = q
items_fewer number before (OfLexeme x ∷ is) s t p q =
    (q.0, p.0 ∙ q.1, keys_fewer x.key number before (possibles s) (possibles t) p.1 q.2, q.3)

-- one lexeme
abbrev LexedAlone : ℕ → List ℕ → Read → Type 0
LexedAlone number before (Ok (OfLexeme x ∷ [], s)) = Items number before (OfLexeme x ∷ []) s.laid
LexedAlone number before (Ok (items, s)) = ⊥
LexedAlone number before (Err f) = Unit {0}

alone_behind : {A : Type 0} (number : ℕ) (before : List ℕ) (r : Result A Fault) (f : A → Read)
    → ((x : A) → LexedAlone number before (f x)) → LexedAlone number before (r >>= f)
alone_behind number before (Ok x) f q = q x
alone_behind number before (Err e) f q = tt

with_note_keys : (number : ℕ) (before : List ℕ) (x : Lexeme) (note : Option CommentRead) (l : Laid) (s : ReaderState)
    → IsFewer l s.laid → Items number before (OfLexeme x ∷ []) l
    → Lexed number before (with_note (OfLexeme x ∷ []) note s)
with_note_keys number before x None l s p q = items_fewer number before (OfLexeme x ∷ []) l s.laid p q
with_note_keys number before x (Some c) l s p q = items_fewer number before (OfLexeme x ∷ OfComment c ∷ []) l s.laid p
    (q.0, q.1, q.2, tt)

with_gap_keys : (number : ℕ) (before : List ℕ) (o : OptionsData) (r : Read) → LexedAlone number before r
    → Lexed number before (r >>= λ x. with_gap o x.0 x.1)
with_gap_keys number before o (Ok (OfLexeme x ∷ [], s)) p =
    lexed_behind_gap number before s.laid (gap o s.here s.laid) (λ y. with_note (OfLexeme x ∷ []) y.0 y.1)
    (gap_keeps o s.here s.laid) (λ y q. with_note_keys number before x y.0 s.laid y.1 q p)
with_gap_keys number before o (Ok ([], s)) p = absurd p
with_gap_keys number before o (Ok (OfComment c ∷ is, s)) p = absurd p
with_gap_keys number before o (Ok (OfLexeme x ∷ i ∷ is, s)) p = absurd p
with_gap_keys number before o (Err f) p = tt

quoted_keys : (number : ℕ) (before : List ℕ) (o : OptionsData) (single ends : Bool) (h : Here) (l : Laid)
    → At number before l → Lexed number before (quoted_and_gap o single ends h l)
quoted_keys number before o single ends h l p =
    with_gap_keys number before o (quoted_lexeme o single ends h l)
    (alone_behind number before (quoted_scalar single (layout_of o h.place.column l) h) _
    (λ x. (p.0, ap suc p.0, p.1, tt)))

-- ---- any lexeme

lexeme_of_keys : (number : ℕ) (before : List ℕ) (o : OptionsData) (sort : PlacedSort) (ends : Bool) (h : Here)
    (l : Laid) → AtOld number before l → Lexed number before (lexeme_of o sort ends h l)
unfolding lexeme_of
lexeme_of_keys number before o (OpenSign bracket) ends h l p = opener_keys number before o bracket ends h
    (noded false h l) (noded_at number before false h l p)
lexeme_of_keys number before o (CloseSign bracket) ends h l p = closer_by_keys number before bracket l.brackets ends h l
    refl (at_old number before l p)
lexeme_of_keys number before o CommaSign ends h l p = comma_keys number before ends h l (at_old number before l p)
lexeme_of_keys number before o DashSign ends h l p = dash_keys number before o ends h l (at_old number before l p)
lexeme_of_keys number before o QuestionSign ends h l p = question_keys number before o ends h l
    (at_old number before l p)
lexeme_of_keys number before o ColonSign ends h l p = colon_keys number before o ends h l p
lexeme_of_keys number before o AliasSign ends h l p = alias_keys number before ends h (noded false h l)
    (noded_at number before false h l p)
lexeme_of_keys number before o AnchorSign ends h l p = anchor_keys number before o ends h (noded true h l)
    (noded_at number before true h l p)
lexeme_of_keys number before o TagSign ends h l p = tag_keys number before o ends h (noded true h l)
    (noded_at number before true h l p)
lexeme_of_keys number before o (BlockSign literal) ends h l p = block_keys number before literal ends h
    (noded false h l) (noded_at number before false h l p)
lexeme_of_keys number before o (QuoteSign single) ends h l p = quoted_keys number before o single ends h
    (noded false h l) (noded_at number before false h l p)
lexeme_of_keys number before o StrayMark ends h l p = tt
lexeme_of_keys number before o NoSign ends h l p = tt
lexeme_of_keys number before o PlainSign ends h l p = plain_keys number before o ends h (noded false h l)
    (noded_at number before false h l p)

lexeme_in_column_keys : (number : ℕ) (before : List ℕ) (o : OptionsData) (sort : PlacedSort) (ends : Bool) (h : Here)
    (l : Laid) → AtOld number before l → Lexed number before (lexeme_in_column o sort ends h l)
unfolding lexeme_in_column
lexeme_in_column_keys number before o sort ends h l p = let e = lexeme_of_keys number before o sort ends h l p in search
    (lexed_if, e)

lexeme_by_keys : (number : ℕ) (before : List ℕ) (o : OptionsData) (sort : LexemeSort) (h : Here) (l : Laid)
    → AtOld number before l → Lexed number before (lexeme_by o sort h l)
unfolding lexeme_by
lexeme_by_keys number before o TextEnd h l p = text_end_keys number before h l (at_old number before l p)
lexeme_by_keys number before o StartMark h l p =
    lexed_behind number before (refuse_open l.brackets) _
    (λ u. start_mark_keys number before (ends_all l) h (closed_all l) (at_old number before l p))
lexeme_by_keys number before o EndMark h l p =
    lexed_behind number before (refuse_open l.brackets) _
    (λ u. end_mark_keys number before (ends_all l) h (closed_all l) (at_old number before l p))
lexeme_by_keys number before o DirectiveSign h l p = directive_keys number before o (ends_all l) h (closed_all l)
    (at_old number before l p)
lexeme_by_keys number before o Unprintable h l p = tt
lexeme_by_keys number before o (Placed sort) h l p = lexeme_in_column_keys number before o sort
    (ends_at h.place.column l) h (closed_at h.place.column l) p

-- ---- a read

read_behind_keys : (number : ℕ) (before : List ℕ) (o : OptionsData) (c : Option CommentRead) (s : ReaderState)
    → AtOld number before s.laid → Lexed number before (read_behind o c s)
read_behind_keys number before o (Some c) s p = p
read_behind_keys number before o None s p =
    let m = mark_of s.here in
    let l = fresh o m s.laid in
    lexed_guarded number before (refuse_required (stale_key o (is_in_flow s.laid) m s.laid.key)) l (lexeme o s.here)
    (lexeme_by_keys number before o (sort_at (is_in_flow l) (is_adjacent l.last) s.here) s.here l
    (old_fewer number before s.laid l p (fresh_fewer o m s.laid)))

read_whole_keys : (number : ℕ) (before : List ℕ) (o : OptionsData) (r : Read) → Lexed number before r
    → Lexed number before (r >>= λ y. read_whole o y.0 y.1)
read_whole_keys number before o (Ok y) p =
    let m = mark_of y.1.here in
    let l = fresh o m y.1.laid in
    lexed_guarded number before (refuse_required (stale_key o (is_in_flow y.1.laid) m y.1.laid.key)) l
    (λ l. Ok (y.0, record { here = y.1.here; laid = l }))
    (items_fewer number before y.0 y.1.laid l (fresh_fewer o m y.1.laid) p)
read_whole_keys number before o (Err f) p = tt

pub read_keys : (o : OptionsData) (s : ReaderState) → Lexed s.laid.number (possibles s.laid) (read o s)
unfolding read
read_keys o s =
    let number = s.laid.number in
    let before = possibles s.laid in
    lexed_behind_gap number before s.laid (gap o s.here s.laid)
    (λ x. read_behind o x.0 x.1 >>= λ y. read_whole o y.0 y.1) (gap_keeps o s.here s.laid)
    (λ x q. read_whole_keys number before o (read_behind o x.0 x.1)
    (read_behind_keys number before o x.0 x.1 (old_fewer number before s.laid x.1.laid (refl, sub_refl before) q)))
