-- Between the begin of a simple key of a text and its `:`, nothing outside flow stands left of it or begins an entry.
use Rattle.std.proofs.Common.{◌≡◌, ℕ, suc, ◌<◌, Bool, true, false, List, [], ◌∷◌, ◌++◌, map, Option, Some, None, inl}
use Rattle.std.proofs.Common.{inr, refl, sym, ap, ◌∙◌, subst, arith}
use Rattle.std.specs.Prelude.{if◌then◌else◌, nat_lt, ◌||◌, ◌&&◌}
use Rattle.std.proofs.lemmas.Bool.Decides.{nat_tests}
use Rattle.granit_base.specs.Place.{Place, Mark}
use Rattle.granit_error.specs.OptionsData.{OptionsData}
use Rattle.granit_language.specs.Seen.{terminal_kind, terminal_of, at_of, lexemes_flagged, read_lexemes}
use Rattle.granit_language.specs.Seen.{key_number as start_number}
use Rattle.granit_language.specs.Before.{freshened, closed_for}
use Rattle.granit_language.specs.Fitting.{role_of, role_fits, keys_behind}
use Rattle.granit_language.specs.Reached.{ends_column_by, Reads, of_comment, of_lexeme, Reached, stops, goes_on}
use Rattle.granit_language.specs.Reading.{begins_kind}
use Rattle.granit_language.specs.Scope.{Scope, no_scope}
use Rattle.granit_language.specs.Scoping.{next_scope}
use Rattle.granit_language.specs.Terminal.{stands_left}
use Rattle.granit_lexemes.specs.Comment.{CommentRead}
use Rattle.granit_lexemes.specs.Here.{mark_of, start_of}
use Rattle.granit_lexemes.specs.Lexeme.{Lexeme, Item, OfLexeme, OfComment}
use Rattle.granit_lexemes.specs.declared.layout.Bracket.{Bracket}
use Rattle.granit_lexemes.specs.declared.layout.OpenBracket.{OpenBracket}
use Rattle.granit_lexemes.specs.declared.layout.OpenColumn.{OpenColumn}
use Rattle.granit_lexemes.specs.declared.layout.PossibleKey.{PossibleKey}
use Rattle.granit_machine.specs.Laid.{Laid, is_nonempty, is_in_flow}
use Rattle.granit_machine.specs.Lexing.{Flagging, is_nearest, others, flag_lexeme, flag_item, flagging}
use Rattle.granit_machine.specs.LexemeSort.{LexemeSort}
use Rattle.granit_machine.specs.NodeLexemes.{note_items}
use Rattle.granit_machine.specs.PossibleKeys.{is_stale, fresh_key, fresh}
use Rattle.granit_machine.specs.ReaderState.{ReaderState, reader_start}
use Rattle.granit_places.proofs.Choosing.{Held, top_of, Within, within_self, Below, below_within, Chosen, nones}
use Rattle.granit_places.proofs.Choosing.{chosen_none, chosen_within, and_number, pending, stepped, below_moves}
use Rattle.granit_places.proofs.Choosing.{role_key}
use Rattle.granit_places.proofs.ColumnsKept.{SameKey, NewKey}
use Rattle.granit_places.proofs.ColumnsLaw.{same_self, closed_brackets, closed_key, columns_change}
use Rattle.granit_places.proofs.ColumnsWhole.{fresh_kept}
use Rattle.granit_places.proofs.Counting.{At, Ahead, ahead_self, ahead_then, start_at}
use Rattle.granit_places.proofs.Holding.{key_number, held, full, fresh-within}
use Rattle.granit_places.proofs.KeysLaw.{named}
use Rattle.granit_places.proofs.Moving.{agrees_held, lexeme_moved, closed_held}
use Rattle.granit_places.proofs.PlacesLaw.{gap_passes, given_places}
use Rattle.granit_places.proofs.Telling.{Agrees, gap_agrees, telling}
use Rattle.granit_order.specs.FrameColumns.{flag_before}
use Rattle.granit_order.specs.Order.{open_behind, closes_innermost, due_behind, KeepsKey, KeysFrom}
use Rattle.granit_order.proofs.BracketsKept.{fresh_kinds, closed_same, run_flow}
use Rattle.granit_order.proofs.BracketsPassed.{kinds_in, kinds_flow, Passed, passed}
use Rattle.granit_order.proofs.ColumnLists.{KeysTo, keys_from, columns_behind, edges, columns_move}
use Rattle.granit_order.proofs.KeysMoved.{outer_in, due_by_key, chosen_outer, below_outer, due_same, KeyMove}
use Rattle.granit_order.proofs.KeysMoved.{key_move, outer_kept, due_out, begins_on, stands_on}

abbrev pub due_of : Laid → Held → Option ℕ
due_of l ks = due_by_key (outer_in (kinds_in l.brackets) ks) l.key

-- what holds behind the flagged items
abbrev pub Aim : Type 1
Aim = List Bracket → Option ℕ → List ℕ → Type 0

-- flagged items that keep to the key that is due where these are possible, and what they make of open columns
pub record KeyFits (q : Aim) (l : Laid) (cs : List ℕ) (y : Flagging) : Type 0 where
  pub ks : Held
  pub chosen : Chosen (held l) ks y.1
  pub ordered : (s : Scope) → KeysTo q (lexemes_flagged y.0) s (kinds_in l.brackets) (due_of l ks) cs

fits_from : (q : Aim) (a b : Laid) (cs : List ℕ) (y : Flagging) → Within (held a) (held b)
    → kinds_in a.brackets ≡ kinds_in b.brackets → SameKey a.key b.key → KeyFits q a cs y → KeyFits q b cs y
fits_from q a b cs y w k s f =
    let due = due_same a.key b.key (outer_in (kinds_in a.brackets) f.ks) s
    (chosen_outer a.brackets a.key f.ks y.1 f.chosen) in
    record {
      ks = f.ks;
      chosen = chosen_within (held a) (held b) f.ks y.1 w f.chosen;
      ordered = λ s. subst (λ bs. KeysTo q (lexemes_flagged y.0) s bs (due_by_key (outer_in bs f.ks) b.key) cs) k
          (subst (λ due. KeysTo q (lexemes_flagged y.0) s (kinds_in a.brackets) due cs) due (f.ordered s));
    }

comment_fits : (q : Aim) (l : Laid) (cs : List ℕ) (c : CommentRead) (y : Flagging) → KeyFits q l cs y
    → KeyFits q l cs (flag_item (OfComment c) y)
comment_fits q l cs c y f = record { ks = f.ks; chosen = f.chosen; ordered = f.ordered }

-- ---- one lexeme

record SomeDue (k : Option ℕ) (key : Option PossibleKey) (c : ℕ) : Type 0 where
  number : ℕ
  is : k ≡ Some number
  begun : PossibleKey
  held_is : key ≡ Some begun
  column : suc begun.start.place.column ≡ c

some_due : (k : Option ℕ) (key : Option PossibleKey) (c : ℕ) → due_by_key k key ≡ Some c → SomeDue k key c
some_due None key c e = absurd cc
some_due (Some n) None c e = absurd cc
some_due (Some n) (Some k) c e = record { number = n; is = refl; begun = k; held_is = refl; column = cc }

-- outside flow a lexeme stands right of the possible key
abbrev StandsBehind : Laid → Lexeme → Type 0
StandsBehind l x = (k : PossibleKey) → l.brackets ≡ [] → l.key ≡ Some k
    → nat_lt x.start.place.column k.start.place.column ≡ false

pub shut : (bs : List OpenBracket) → kinds_in bs ≡ [] → bs ≡ []
shut [] e = refl
shut (b ∷ bs) e = absurd cc

abbrev ColumnsMove : Laid → Laid → List ℕ → Lexeme → Type 0
ColumnsMove l after cs x = (flag : Bool) (s : Scope) (before : Held) → role_fits (role_of x.kind x.key) before ≡ true
    → edges after ≡ columns_behind (kinds_in l.brackets) (terminal_kind x.kind x.key) (at_of flag s x) (due_of l before)
    cs

module _ (q : Aim) (l after : Laid) (cs : List ℕ) (x : Lexeme) (columns : ColumnsMove l after cs x)
    (flow : x.in_flow ≡ is_in_flow l) (number : x.number ≡ l.number)
    (key : start_number x.key ≡ role_key (role_of x.kind x.key)) (p : Passed l x after) (mv : KeyMove l.key x after.key)
    (right : StandsBehind l x) (b : Below l.number (held l)) (y : Flagging) (f : KeyFits q after (edges after) y) where
  older : (m : ℕ) → key_number l.key ≡ Some m → m < l.number
  older m e = below_outer l.brackets l.key l.number b m e

  kinds_after : kinds_in after.brackets ≡ open_behind (terminal_kind x.kind x.key) (kinds_in l.brackets)
  kinds_after = p.kinds ∙ ap (λ kind. open_behind kind (kinds_in l.brackets)) (sym p.term_is)

  module _ (flag : Bool) (before : Held) (alone : flag ≡ true → top_of before ≡ None) (ns : List ℕ)
      (chosen : Chosen (held l) before ns) (next : keys_behind (role_of x.kind x.key) flag l.number before ≡ f.ks)
      (fit : role_fits (role_of x.kind x.key) before ≡ true) where
    after_says : (m : ℕ) → outer_in (open_behind (terminal_kind x.kind x.key) (kinds_in l.brackets))
        (keys_behind (role_of x.kind x.key) flag l.number before) ≡ Some m → key_number after.key ≡ Some m
    after_says m e = chosen_outer after.brackets after.key f.ks y.1 f.chosen m
        (ap (λ bs. outer_in bs f.ks) kinds_after
        ∙ ap (outer_in (open_behind (terminal_kind x.kind x.key) (kinds_in l.brackets))) (sym next) ∙ e)

    before_says : (m : ℕ) → outer_in (kinds_in l.brackets) before ≡ Some m → key_number l.key ≡ Some m
    before_says = chosen_outer l.brackets l.key before ns chosen

    not_flow : kinds_in l.brackets ≡ [] → x.in_flow ≡ false
    not_flow e = flow ∙ ap (λ (bs : List OpenBracket). is_nonempty bs) (shut l.brackets e)

    keeps : (s : Scope) → KeepsKey (kinds_in l.brackets) (due_of l before) (terminal_of flag s x)
    keeps s = record {
      begins_none = λ c e d. let z = some_due _ l.key c (out e d) in begins_in c e before refl z;
      stands_right = λ c e d. let z = some_due _ l.key c (out e d) in stands_in c e before refl z;
    }
      where
        out : {c : ℕ} → kinds_in l.brackets ≡ [] → due_of l before ≡ Some c → due_by_key (top_of before) l.key ≡ Some c
        out e d = sym (ap (λ bs. due_by_key (outer_in bs before) l.key) e) ∙ d

        says : (bs : List Bracket) → kinds_in l.brackets ≡ bs → (gs : Held) → before ≡ gs → (m : ℕ)
            → outer_in (open_behind (terminal_kind x.kind x.key) bs)
            (keys_behind (role_of x.kind x.key) flag l.number gs) ≡ Some m → key_number after.key ≡ Some m
        says bs e gs g m q = after_says m (ap
            (λ bs. outer_in (open_behind (terminal_kind x.kind x.key) bs)
            (keys_behind (role_of x.kind x.key) flag l.number before)) e
            ∙ ap (λ gs. outer_in (open_behind (terminal_kind x.kind x.key) bs)
            (keys_behind (role_of x.kind x.key) flag l.number gs)) g ∙ q)

        begins_in : (c : ℕ) → kinds_in l.brackets ≡ [] → (gs : Held) → before ≡ gs → SomeDue (top_of before) l.key c
            → begins_kind (terminal_kind x.kind x.key) flag ≡ false
        begins_in c e [] g z = absurd (let q = sym (ap top_of g) ∙ z.is in cc)
        begins_in c e (k ∷ gs) g z =
            let h : before ≡ Some z.number ∷ gs = g ∙ ap (λ (k : Option ℕ). k ∷ gs) (sym (ap top_of g) ∙ z.is) in
            begins_on s x l.number number l.key after.key older mv.moves x.kind x.key flag z.number gs
            (λ q. sym z.is ∙ alone q) (says [] e (Some z.number ∷ gs) h) (mv.ends (not_flow e))

        stands_in : (c : ℕ) → kinds_in l.brackets ≡ [] → (gs : Held) → before ≡ gs → SomeDue (top_of before) l.key c
            → stands_left (terminal_of flag s x) c ≡ false
        stands_in c e [] g z = absurd (let q = sym (ap top_of g) ∙ z.is in cc)
        stands_in c e (k ∷ gs) g z =
            let h : before ≡ Some z.number ∷ gs = g ∙ ap (λ (k : Option ℕ). k ∷ gs) (sym (ap top_of g) ∙ z.is) in
            subst (λ c. stands_left (terminal_of flag s x) c ≡ false) z.column
            (stands_on s x l.number number l.key after.key older mv.moves x.kind x.key flag z.number
            z.begun.start.place.column gs (says [] e (Some z.number ∷ gs) h) (mv.ends (not_flow e))
            (right z.begun (shut l.brackets e) z.held_is))

    due_next : (s : Scope) (bs : List Bracket) → kinds_in l.brackets ≡ bs → (gs : Held) → before ≡ gs
        → due_behind bs (terminal_kind x.kind x.key) (at_of flag s x) (due_by_key (outer_in bs gs) l.key)
        ≡ due_by_key (outer_in (open_behind (terminal_kind x.kind x.key) bs)
        (keys_behind (role_of x.kind x.key) flag l.number gs)) after.key
    due_next s (c ∷ bs) e gs g =
        let in_flow : x.in_flow ≡ true = flow ∙ sym (kinds_flow l.brackets)
        ∙ ap (λ (bs : List Bracket). is_nonempty bs) e in
        let same = outer_kept x.kind x.key flag l.number c bs gs in
        let outer = says_next (c ∷ bs) e gs g in
        sym (due_same after.key l.key _ (mv.kept in_flow) outer ∙ ap (λ k. due_by_key k l.key) same)
      where
        says_next : (bs : List Bracket) → kinds_in l.brackets ≡ bs → (gs : Held) → before ≡ gs → (m : ℕ)
            → outer_in (open_behind (terminal_kind x.kind x.key) bs)
            (keys_behind (role_of x.kind x.key) flag l.number gs) ≡ Some m → key_number after.key ≡ Some m
        says_next bs e gs g m q = after_says m
            (ap (λ bs. outer_in (open_behind (terminal_kind x.kind x.key) bs)
            (keys_behind (role_of x.kind x.key) flag l.number before)) e
            ∙ ap (λ gs. outer_in (open_behind (terminal_kind x.kind x.key) bs)
            (keys_behind (role_of x.kind x.key) flag l.number gs)) g ∙ q)
    due_next s [] e [] g = absurd (none l.brackets (subst (λ gs. Chosen (held l) gs ns) g chosen))
      where
        none : (bs : List OpenBracket) → Chosen (Rattle.granit_places.proofs.Holding.held_in bs l.key) [] ns → ⊥
        none [] c = c
        none (b ∷ bs) c = c
    due_next s [] e (k ∷ gs) g =
        due_out s x l.number number l.key after.key older mv.moves x.kind x.key flag k gs
        (ap (λ bs. closes_innermost (terminal_kind x.kind x.key) bs) (sym e)
        ∙ ap (λ kind. closes_innermost kind (kinds_in l.brackets)) p.term_is ∙ p.closes)
        (λ m q. before_says m (ap (λ bs. outer_in bs before) e ∙ ap top_of g ∙ q))
        (λ m q. after_says m (ap (λ bs. outer_in (open_behind (terminal_kind x.kind x.key) bs)
        (keys_behind (role_of x.kind x.key) flag l.number before)) e
        ∙ ap (λ gs. outer_in (open_behind (terminal_kind x.kind x.key) [])
        (keys_behind (role_of x.kind x.key) flag l.number gs)) g ∙ q))

    ordered_as : (s : Scope) → KeysTo q ((x, flag) ∷ lexemes_flagged y.0) s (kinds_in l.brackets) (due_of l before) cs
    ordered_as s =
        let t = next_scope (terminal_kind x.kind x.key) s in
        let due = due_next s (kinds_in l.brackets) refl before refl
        ∙ ap (λ ks. due_by_key (outer_in (open_behind (terminal_kind x.kind x.key) (kinds_in l.brackets)) ks)
        after.key) next in (
          keeps s,
          subst (KeysTo q (lexemes_flagged y.0) t (open_behind (terminal_kind x.kind x.key) (kinds_in l.brackets))
              (due_behind (kinds_in l.brackets) (terminal_kind x.kind x.key) (at_of flag s x) (due_of l before)))
              (columns flag s before fit)
              (subst (λ due. KeysTo q (lexemes_flagged y.0) t
              (open_behind (terminal_kind x.kind x.key) (kinds_in l.brackets)) due (edges after)) (sym due)
              (subst (λ bs. KeysTo q (lexemes_flagged y.0) t bs (due_by_key (outer_in bs f.ks) after.key) (edges after))
              kinds_after (f.ordered t))),
        )

  as_flagged : (flag : Bool) (before : Held) → (flag ≡ true → top_of before ≡ None)
      → Chosen (held l) before (pending flag (role_of x.kind x.key) y.1)
      → keys_behind (role_of x.kind x.key) flag l.number before ≡ f.ks → role_fits (role_of x.kind x.key) before ≡ true
      → KeyFits q l cs (flag_lexeme flag x y)
  as_flagged true before a c n t = record {
    ks = before;
    chosen = subst (Chosen (held l) before)
        (sym (named x.key _ ∙ ap (λ k. and_number k (others y.1)) key)) c;
    ordered = ordered_as true before a _ c n t;
  }
  as_flagged false before a c n t = record {
    ks = before;
    chosen = subst (Chosen (held l) before)
        (sym (named x.key _ ∙ ap (λ k. and_number k y.1) key)) c;
    ordered = ordered_as false before a _ c n t;
  }

  lexeme_fits : KeyFits q l cs (flag_item (OfLexeme x) y)
  lexeme_fits =
      let t = stepped (role_of x.kind x.key) p.new l.number (held l) (held after) f.ks y.1 (full l) b p.moves
      f.chosen in
      subst (λ flag. KeyFits q l cs (flag_lexeme flag x y)) (sym (ap (λ n. is_nearest n y.1) number ∙ t.flags))
      (as_flagged t.flag t.before t.alone t.chosen t.next t.fits)

-- ---- the key stands before the place

abbrev KeyAhead : Option PossibleKey → Place → Type 0
KeyAhead None p = Unit {0}
KeyAhead (Some k) p = Ahead k.start.place p

ahead_on : (key : Option PossibleKey) (p q : Place) → KeyAhead key p → Ahead p q → KeyAhead key q
ahead_on None p q a b = tt
ahead_on (Some k) p q a b = ahead_then k.start.place p q a b

same_ahead : (a b : Option PossibleKey) (p : Place) → SameKey a b → KeyAhead b p → KeyAhead a p
same_ahead None b p s h = tt
same_ahead (Some k) b p (j, e, i, m) h =
    let g : KeyAhead (Some j) p = subst (λ b. KeyAhead b p) e h in
    subst (λ (m : Mark). Ahead m.place p) (sym m) g

new_ahead : (key : Option PossibleKey) (x : Lexeme) (m : Mark) → x.start ≡ m → NewKey x key → KeyAhead key m.place
new_ahead None x m e q = absurd q
new_ahead (Some k) x m e q = subst (λ (a : Mark). Ahead a.place m.place) (sym (q.1 ∙ e)) (ahead_self m.place)

-- outside flow a key that is not stale stands on the line
later_ends : (a line : Bool) → (a || (true && line)) ≡ false → line ≡ false
later_ends true line e = absurd cc
later_ends false line e = e

on_line : (p q : Place) → Ahead p q → nat_lt p.line q.line ≡ false → nat_lt q.column p.column ≡ false
on_line p q (inl a) e = absurd (let f : nat_lt p.line q.line ≡ true = grind (arith, nat_tests, a) in cc)
on_line p q (inr a) e = let c = a.1 in grind (arith, nat_tests, c)

stays_right : (o : OptionsData) (m : Mark) (key : Option PossibleKey) (v : Bool) → v ≡ false → KeyAhead key m.place
    → (k : PossibleKey) → fresh_key o v m key ≡ Some k → nat_lt m.place.column k.start.place.column ≡ false
unfolding is_stale
stays_right o m key true f a k e = absurd cc
stays_right o m None false f a k e = absurd cc
stays_right o m (Some j) false f a k e = on (is_stale o false m j) refl e
  where
    on : (v : Bool) → is_stale o false m j ≡ v → (if v then None else Some j) ≡ Some k
        → nat_lt m.place.column k.start.place.column ≡ false
    on true g e = absurd cc
    on false g e = let same : j ≡ k = cc in subst (λ (k : PossibleKey). nat_lt m.place.column k.start.place.column
        ≡ false) same (on_line j.start.place m.place a (later_ends _ _ g))

-- ---- one read

unfresh : (q : Aim) (o : OptionsData) (m : Mark) (l : Laid) (cs : List ℕ) (y : Flagging) → KeyFits q (fresh o m l) cs y
    → KeyFits q l cs y
unfresh q o m l cs y f = fits_from q (fresh o m l) l cs y (fresh-within o m l) (fresh_kinds o m l.brackets)
    (fresh_kept o m (is_in_flow l) l.key) f

pub flag_joined : (is js : List Item) (y : Flagging) → flag_before (is ++ js) y ≡ flag_before is (flag_before js y)
flag_joined [] js y = refl
flag_joined (i ∷ is) js y = ap (flag_item i) (flag_joined is js y)

pub flag_all : (is : List Item) → flagging is ≡ flag_before is ([], [])
flag_all [] = refl
flag_all (i ∷ is) = ap (flag_item i) (flag_all is)

same_edges : {a b : Laid} → Agrees a b → edges a ≡ edges b
same_edges a = ap (λ (cs : List OpenColumn). map suc (map (λ (x : OpenColumn). x.column) cs)) a.columns

closed_move : (l c after : Laid) (cs : List ℕ) (x : Lexeme) → c.brackets ≡ l.brackets → c.key ≡ l.key
    → ColumnsMove l after cs x → ColumnsMove c after cs x
closed_move l c after cs x b k m flag s before fit =
    subst (λ (bs : List OpenBracket). edges after
    ≡ columns_behind (kinds_in bs) (terminal_kind x.kind x.key) (at_of flag s x)
    (due_by_key (outer_in (kinds_in bs) before) c.key) cs) (sym b)
    (subst (λ (key : Option PossibleKey). edges after
    ≡ columns_behind (kinds_in l.brackets) (terminal_kind x.kind x.key) (at_of flag s x)
    (due_by_key (outer_in (kinds_in l.brackets) before) key) cs) (sym k) (m flag s before fit))

record ReadFits (q : Aim) (x : List ℕ) (l : Laid) (items : List Item) (after : ReaderState) : Type 0 where
  place : At x after.here
  below : Below after.laid.number (held after.laid)
  ahead : KeyAhead after.laid.key after.here.place
  fits : (more : Flagging) → KeyFits q after.laid (edges after.laid) more
      → KeyFits q l (edges l) (flag_before items more)

noted_fits : (q : Aim) (l after : Laid) (cs : List ℕ) (x : Lexeme) (note : Option CommentRead) (more : Flagging)
    → ((y : Flagging) → KeyFits q after (edges after) y → KeyFits q l cs (flag_item (OfLexeme x) y))
    → KeyFits q after (edges after) more → KeyFits q l cs (flag_before (OfLexeme x ∷ note_items note) more)
noted_fits q l after cs x None more step f = step more f
noted_fits q l after cs x (Some c) more step f = step (flag_item (OfComment c) more)
    (comment_fits q after (edges after) c more f)

fresh_ahead : (o : OptionsData) (s : ReaderState) → KeyAhead s.laid.key s.here.place
    → KeyAhead (freshened o s).laid.key s.here.place
fresh_ahead o s h = same_ahead (freshened o s).laid.key s.laid.key s.here.place
    (fresh_kept o (mark_of s.here) (is_in_flow s.laid) s.laid.key) h

stands_behind : (o : OptionsData) (at : ReaderState) (sort : LexemeSort) (x : Lexeme) → x.start ≡ mark_of at.here
    → KeyAhead at.laid.key at.here.place → StandsBehind (closed_for sort at.here (freshened o at).laid) x
stands_behind o at sort x start a k e g =
    let f = (freshened o at).laid in
    let none : kinds_in at.laid.brackets ≡ [] = sym (fresh_kinds o (mark_of at.here) at.laid.brackets)
    ∙ ap kinds_in (sym (closed_brackets sort at.here f) ∙ e) in
    let out : is_in_flow at.laid ≡ false = sym (kinds_flow at.laid.brackets)
    ∙ ap (λ (bs : List Bracket). is_nonempty bs) none in
    subst (λ (m : Mark). nat_lt m.place.column k.start.place.column ≡ false) (sym start)
    (stays_right o (mark_of at.here) at.laid.key (is_in_flow at.laid) out a k (sym (closed_key sort at.here f) ∙ g))

read_fits : (t : Aim) (o : OptionsData) (x : List ℕ) (s : ReaderState) {items : List Item} {after : ReaderState}
    → Reads o s items after → At x s.here → Below s.laid.number (held s.laid) → KeyAhead s.laid.key s.here.place
    → ReadFits t x s.laid items after
read_fits z o x s (of_comment {comment = c} at g k) i p q =
    let a = gap_agrees g in
    let f = fresh o (mark_of at.here) at.laid in
    let w = subst (Within (held f)) (agrees_held a) (fresh-within o (mark_of at.here) at.laid) in
    let b = (gap_passes x g i).further in
    let front : KeyAhead at.laid.key at.here.place = subst (λ key. KeyAhead key at.here.place) (sym a.key)
    (ahead_on s.laid.key s.here.place at.here.place q b.ahead) in
    record {
      place = b.place;
      below = below_within at.laid.number (held f) (held s.laid) w
          (subst (λ n. Below n (held s.laid)) (sym a.number) p);
      ahead = fresh_ahead o at front;
      fits = λ more g. comment_fits z s.laid (edges s.laid) c more
          (subst (λ cs. KeyFits z s.laid cs more) (same_edges a)
          (fits_from z f s.laid (edges f) more w
          (fresh_kinds o (mark_of at.here) at.laid.brackets ∙ ap kinds_in a.brackets)
          (subst (λ key. SameKey f.key key) a.key (fresh_kept o (mark_of at.here) (is_in_flow at.laid) at.laid.key))
          g));
    }
read_fits z o x s (of_lexeme {items = items} at behind sort comes given keys) i p q =
    let a = gap_agrees comes.gap in
    let h = at.here in
    let f = (freshened o at).laid in
    let w = subst (Within (held f)) (agrees_held a) (fresh-within o (mark_of h) at.laid) in
    let below_front : Below f.number (held f) = below_within at.laid.number (held f) (held s.laid) w
    (subst (λ n. Below n (held s.laid)) (sym a.number) p) in
    let c = closed_for sort h f in
    let v = closed_held sort h f in
    let u = closed_same sort h f in
    let t = telling o (ends_column_by sort (freshened o at)) h _ sort items behind given.1 in
    let m = lexeme_moved o sort h c t.lexeme t.cut t.reached behind.laid t.told t.says t.leaves in
    let g = passed o h c t.lexeme t.cut t.reached behind.laid m sort t.says t.leaves in
    let change = columns_change o sort h f t.lexeme t.cut t.reached behind.laid t.told t.says t.leaves in
    let d = key_move f t.lexeme behind.laid change in
    let columns : ColumnsMove c behind.laid (edges f) t.lexeme = closed_move f c behind.laid (edges f) t.lexeme
    (closed_brackets sort h f) (closed_key sort h f)
    (λ flag s before fit. columns_move f t.lexeme behind.laid
    (t.told.flow ∙ run_flow sort h c ∙ ap (λ (bs : List OpenBracket). is_nonempty bs) (closed_brackets sort h f))
    flag s before fit change) in
    let r : Below c.number (held c) = subst (λ n. Below n (held c)) (sym v.0)
    (subst (λ hs. Below f.number hs) (sym v.1) below_front) in
    let gap = (gap_passes x comes.gap i).further in
    let front : KeyAhead at.laid.key h.place = subst (λ key. KeyAhead key h.place) (sym a.key)
    (ahead_on s.laid.key s.here.place h.place q gap.ahead) in
    let past = ((given_places x o (ends_column_by sort (freshened o at)) sort h _ items behind given.1).passes
    gap.place).further in
    let began : KeyAhead behind.laid.key h.place = elim d.moves [
      | inl same ↦ same_ahead behind.laid.key f.key h.place same (fresh_ahead o at front)
      | inr new ↦ new_ahead behind.laid.key t.lexeme (mark_of h) t.told.start new
    ] in
    record {
      place = past.place;
      below = below_within behind.laid.number (held (freshened o behind).laid) (held behind.laid)
          (fresh-within o (mark_of behind.here) behind.laid)
          (subst (λ n. Below n (held behind.laid)) (sym m.next)
          (below_moves (role_of t.lexeme.kind t.lexeme.key) g.new c.number (held c) (held behind.laid) r g.moves));
      ahead = fresh_ahead o behind (ahead_on behind.laid.key h.place behind.here.place began past.ahead);
      fits = λ more after.
          subst (λ cs. KeyFits z s.laid cs (flag_before items more)) (same_edges a)
          (fits_from z f s.laid (edges f) (flag_before items more) w
          (fresh_kinds o (mark_of h) at.laid.brackets ∙ ap kinds_in a.brackets)
          (subst (λ key. SameKey f.key key) a.key (fresh_kept o (mark_of h) (is_in_flow at.laid) at.laid.key))
          (fits_from z c f (edges f) (flag_before items more)
          (subst (λ hs. Within hs (held f)) (sym v.1) (within_self (held f))) u.0
          (subst (λ key. SameKey key f.key) (sym (closed_key sort h f)) (same_self f.key))
          (subst (λ (is : List Item). KeyFits z c (edges f) (flag_before is more)) (sym t.are)
          (noted_fits z c behind.laid (edges f) t.lexeme t.note more
          (λ y k. lexeme_fits z c behind.laid (edges f) t.lexeme columns (t.told.flow ∙ run_flow sort h c) m.number
          m.key g (subst (λ key. KeyMove key t.lexeme behind.laid.key) (sym (closed_key sort h f)) d)
          (stands_behind o at sort t.lexeme t.told.start front) r y k)
          (unfresh z o (mark_of behind.here) behind.laid (edges behind.laid) more after)))));
    }

pub all_fit : (z : Aim) (o : OptionsData) (x : List ℕ) {s t : ReaderState} {items : List Item} (y : Flagging)
    → Reached o s items t → At x s.here → Below s.laid.number (held s.laid) → KeyAhead s.laid.key s.here.place
    → KeyFits z t.laid (edges t.laid) y → KeyFits z s.laid (edges s.laid) (flag_before items y)
all_fit z o x {s = s} y stops i p q g = g
all_fit z o x {s = s} y (goes_on after items more r last rest e) i p q g =
    let f = read_fits z o x s r i p q in
    subst (λ (y : Flagging). KeyFits z s.laid (edges s.laid) y)
    (sym (ap (λ (is : List Item). flag_before is y) e ∙ flag_joined items more y))
    (f.fits (flag_before more y) (all_fit z o x y rest f.place f.below f.ahead g))

-- what reading keeps to
pub record Keeps (x : List ℕ) (t : ReaderState) : Type 0 where
  pub place : At x t.here
  pub below : Below t.laid.number (held t.laid)
  pub ahead : KeyAhead t.laid.key t.here.place

-- behind all items no key is due
abbrev pub Anything : Aim
Anything bs due cs = Unit {0}

pub none_left : (z : Aim) (l : Laid) → z (kinds_in l.brackets) (due_of l (nones (held l))) (edges l)
    → KeyFits z l (edges l) ([], [])
none_left z l h = record { ks = nones (held l); chosen = chosen_none (held l); ordered = λ s. h }

pub none_due : (k : Option ℕ) → due_by_key k None ≡ None
none_due None = refl
none_due (Some n) = refl

pub all_keep : (o : OptionsData) (x : List ℕ) {s t : ReaderState} {items : List Item} → Reached o s items t
    → At x s.here → Below s.laid.number (held s.laid) → KeyAhead s.laid.key s.here.place → Keeps x t
all_keep o x stops i p q = record { place = i; below = p; ahead = q }
all_keep o x {s = s} (goes_on after items more r last rest e) i p q = let f = read_fits Anything o x s r i p
    q in all_keep o x rest f.place f.below f.ahead

pub keys_kept : (o : OptionsData) (x : List ℕ) (items : List Item) (t : ReaderState)
    → Reached o (reader_start (start_of x)) items t → KeysFrom (read_lexemes items) no_scope [] None
keys_kept o x items t r =
    let f = all_fit Anything o x ([], []) r (start_at x) tt tt (none_left Anything t.laid tt) in
    subst (λ (y : Flagging). KeysFrom (lexemes_flagged y.0) no_scope [] None) (sym (flag_all items))
    (subst (KeysFrom (lexemes_flagged (flag_before items ([], [])).0) no_scope []) (none_due (outer_in [] f.ks))
    (keys_from Anything (lexemes_flagged (flag_before items ([], [])).0) no_scope []
    (due_by_key (outer_in [] f.ks) None) [] (f.ordered no_scope)))
