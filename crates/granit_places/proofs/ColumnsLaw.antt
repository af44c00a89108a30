-- What a lexeme of each sort makes of the open columns.
use Rattle.std.proofs.Common.{◌≡◌, ℕ, ◌||◌, Bool, true, false, List, [], ◌∷◌, map, Option, Some, None, ◌⊎◌, inl, inr}
use Rattle.std.proofs.Common.{refl, sym, ap, ap₂, ◌∙◌, subst}
use Rattle.std.specs.Prelude.{if◌then◌else◌}
use Rattle.granit_base.specs.Place.{Mark}
use Rattle.granit_error.specs.OptionsData.{OptionsData}
use Rattle.granit_lexemes.specs.Here.{Here, mark_of}
use Rattle.granit_lexemes.specs.LayoutData.{is_left}
use Rattle.granit_lexemes.specs.Lexeme.{LexemeKind, Question, Colon, KeyStart, Lexeme}
use Rattle.granit_lexemes.specs.declared.layout.Bracket.{Bracket}
use Rattle.granit_machine.specs.Columns.{entered, pair_entered, up_to_column, closed_at, closed_all}
use Rattle.granit_machine.specs.IndicatorLexemes.{widened_if, is_before_break}
use Rattle.granit_machine.specs.Laid.{Laid, is_nonempty, is_in_flow, block_column}
use Rattle.granit_lexemes.specs.declared.layout.PossibleKey.{PossibleKey}
use Rattle.granit_lexemes.specs.declared.layout.OpenBracket.{OpenBracket}
use Rattle.granit_lexemes.specs.declared.layout.OpenColumn.{OpenColumn}
use Rattle.granit_machine.specs.LexemeSort.{PlacedSort, OpenSign, CloseSign, CommaSign, DashSign, QuestionSign}
use Rattle.granit_machine.specs.LexemeSort.{ColonSign, AliasSign, AnchorSign, TagSign, BlockSign, QuoteSign, StrayMark}
use Rattle.granit_machine.specs.LexemeSort.{NoSign, PlainSign, LexemeSort, TextEnd, StartMark, EndMark, Unprintable}
use Rattle.granit_machine.specs.LexemeSort.{DirectiveSign, Placed}
use Rattle.granit_machine.specs.PossibleKeys.{key_in, top_key, outer_key, is_allowed, new_key, key_goes_on, node_key}
use Rattle.granit_machine.specs.Reader.{noded}
use Rattle.granit_language.specs.Before.{closed_for, run_for, behind_colon, behind_question_sign, behind, in_front}
use Rattle.granit_language.specs.OpenColumns.{EntryOf, is_outer_kind, columns_of}
use Rattle.granit_language.specs.Standing.{key_start, ClosesInnermost}
use Rattle.granit_places.proofs.ColumnsKept.{all_widened, pop, popped, push, pushed, SameKey, NewKey, Change, nothing}
use Rattle.granit_places.proofs.ColumnsKept.{all_end, passes, own, keyed}
use Rattle.granit_reading.proofs.ReadingLaw.{run_flow}
use Rattle.granit_places.proofs.Telling.{Told, Unkeyed, SaysOf, Agrees}
use Rattle.std.proofs.Common.{◌<◌, ◌==◌, arith}
use Rattle.std.specs.Prelude.{nat_lt}
use Rattle.std.proofs.lemmas.Bool.Decides.{nat_tests}

pub is_below : (n c : ℕ) → (n == c) ≡ false → nat_lt c n ≡ false → n < c
is_below n c e f = grind (arith, nat_tests, e, f)

abbrev pub cols : List OpenColumn → List ℕ
cols cs = map (λ (x : OpenColumn). x.column) cs

pub same_self : (key : Option PossibleKey) → SameKey key key
same_self None = tt
same_self (Some k) = (k, refl, refl, refl)

-- ---- in flow

record Kept (l after : Laid) : Type 0 where
  columns : columns_of after ≡ columns_of l
  key : after.key ≡ l.key

module _ (l : Laid) (b : OpenBracket) (bs : List OpenBracket) (e : l.brackets ≡ b ∷ bs) where
  kept_key : (new : Option PossibleKey) → outer_key l.brackets new l.key ≡ l.key
  kept_key new = ap (λ (bs : List OpenBracket). outer_key bs new l.key) e

  no_bracket : {A : Type 0} → l.brackets ≡ [] → A
  no_bracket f = absurd cc

  colon_kept : (h : Here) (v : Bool) (key : Option PossibleKey) → v ≡ true → Kept l (behind_colon v key h l)
  colon_kept h false key f = absurd cc
  colon_kept h true None f = record { columns = refl; key = refl }
  colon_kept h true (Some k) f = record { columns = refl; key = kept_key None }

  question_kept : (h : Here) (v : Bool) → v ≡ true → Kept l (behind_question_sign v h l)
  question_kept h false f = absurd cc
  question_kept h true f = record { columns = refl; key = kept_key None }

  kept_as : (after m : Laid) → Agrees after m → Kept l m → Kept l after
  kept_as after m a k = record { columns = ap cols a.columns ∙ k.columns; key = a.key ∙ k.key }

  in_flow_here : is_in_flow l ≡ true
  in_flow_here = ap (λ (l : List OpenBracket). is_nonempty l) e

  flow_kept : (o : OptionsData) (sort : LexemeSort) (h : Here) (x : Lexeme) (cut : Option Mark) (g : Here)
      (after : Laid) → SaysOf sort h (run_for sort h l) x → Agrees after (behind o sort x cut g h (run_for sort h l))
      → Kept l after
  flow_kept o TextEnd h x cut g after s a = no_bracket s.1
  flow_kept o StartMark h x cut g after s a = no_bracket s.1
  flow_kept o EndMark h x cut g after s a = no_bracket s.1
  flow_kept o DirectiveSign h x cut g after s a = kept_as after _ a (record { columns = refl; key = kept_key None })
  flow_kept o Unprintable h x cut g after s a = absurd s
  flow_kept o (Placed (OpenSign bracket)) h x cut g after s a = kept_as after _ a
      (record { columns = all_widened l.columns; key = kept_key _ })
  flow_kept o (Placed (CloseSign bracket)) h x cut g after s a = kept_as after _ a
      (record { columns = refl; key = refl })
  flow_kept o (Placed CommaSign) h x cut g after s a = kept_as after _ a
      (record { columns = refl; key = kept_key None })
  flow_kept o (Placed DashSign) h x cut g after s a = absurd (let a = in_flow_here in let b = s.1 in cc)
  flow_kept o (Placed QuestionSign) h x cut g after s a = let q = question_kept h (is_in_flow l) in_flow_here in kept_as
      after _ a (record { columns = q.columns; key = q.key })
  flow_kept o (Placed ColonSign) h x cut g after s a = let q = colon_kept h (is_in_flow l) (top_key l)
      in_flow_here in kept_as after _ a (record { columns = q.columns; key = q.key })
  flow_kept o (Placed AliasSign) h x cut g after s a = kept_as after _ a (record { columns = refl; key = kept_key _ })
  flow_kept o (Placed AnchorSign) h x cut g after s a = kept_as after _ a (record { columns = refl; key = kept_key _ })
  flow_kept o (Placed TagSign) h x cut g after s a = kept_as after _ a (record { columns = refl; key = kept_key _ })
  flow_kept o (Placed (BlockSign literal)) h x cut g after s a = kept_as after _ a
      (record { columns = refl; key = kept_key _ })
  flow_kept o (Placed (QuoteSign single)) h x cut g after s a = kept_as after _ a
      (record { columns = refl; key = kept_key _ })
  flow_kept o (Placed PlainSign) h x cut g after s a = kept_as after _ a (record { columns = refl; key = kept_key _ })
  flow_kept o (Placed StrayMark) h x cut g after s a = absurd s
  flow_kept o (Placed NoSign) h x cut g after s a = absurd s

-- ---- outside flow

pub entered_columns : (column : ℕ) (l : Laid) → columns_of (entered column l) ≡ push column (columns_of l)
unfolding Rattle.granit_machine.specs.Columns.entered_columns
entered_columns column l = ap (λ (ns : List ℕ). column ∷ ns) (pushed column l.columns)

paired_columns : (column : ℕ) (l : Laid) → columns_of (pair_entered column l) ≡ push column (columns_of l)
paired_columns column l = all_widened (entered column l).columns ∙ entered_columns column l

widened_columns : (v : Bool) (l : Laid) → columns_of (widened_if v l) ≡ columns_of l
widened_columns true l = all_widened l.columns
widened_columns false l = refl

closed_none : (bs : List OpenBracket) (bracket : Bracket) → bs ≡ [] → ClosesInnermost bracket bs → ⊥
closed_none [] bracket e p = p
closed_none (b ∷ bs) bracket e p = absurd cc

-- a kind that never begins an entry
abbrev NoEntry : LexemeKind → Type 0
NoEntry kind = (is_outer_kind kind ≡ false) × ((key : Option KeyStart) (column c : ℕ) (ls : List Lexeme)
    → EntryOf kind key column ls c → ⊥)

same_goes : (property low : Bool) (key : Option PossibleKey) → SameKey (key_goes_on property low key) key
same_goes property low None = tt
same_goes property low (Some k) = on k.is_head
  where
    on : (v : Bool) → SameKey (if v then Some (record k { is_low = k.is_low || low; is_head = property }) else Some k)
        (Some k)
    on true = (k, refl, refl, refl)
    on false = (k, refl, refl, refl)

-- l is what is in front of the lexeme, and m the same without the columns that it ends
module _ (h : Here) (l m : Laid) (x : Lexeme) (after : Laid) (shut : m.brackets ≡ []) (number : m.number ≡ l.number)
    (key : m.key ≡ l.key) (flow : x.in_flow ≡ false) (start : x.start ≡ mark_of h) where
  gone_key : (new : Option PossibleKey) → outer_key m.brackets new m.key ≡ new
  gone_key new = ap (λ (bs : List OpenBracket). outer_key bs new m.key) shut

  top_out : top_key m ≡ l.key
  top_out = ap (λ (bs : List OpenBracket). key_in bs m.key) shut ∙ key

  column : x.start.place.column ≡ h.place.column
  column = ap (λ (m : Mark). m.place.column) start

  -- the end of a document, or a directive
  outer_change : {kind : LexemeKind} → Unkeyed kind x → is_outer_kind kind ≡ true → columns_of after ≡ []
      → after.key ≡ None → Change l x after
  outer_change u e c k = all_end flow (ap is_outer_kind u.is ∙ e) c k

  module _ (cs : columns_of m ≡ pop h.place.column (columns_of l)) where
    popped_here : columns_of m ≡ pop x.start.place.column (columns_of l)
    popped_here = cs ∙ ap (λ i. pop i (columns_of l)) (sym column)

    passing : {kind : LexemeKind} → x.kind ≡ kind → NoEntry kind → columns_of after ≡ columns_of m
        → SameKey after.key l.key ⊎ NewKey x after.key → Change l x after
    passing is none c k = passes flow (ap is_outer_kind is ∙ none.0)
        (λ column c ls q. none.1 x.key column c ls (subst (λ kind. EntryOf kind x.key column ls c) is q))
        (c ∙ popped_here) k

    -- a lexeme of a node
    node_change : {kind : LexemeKind} (property : Bool) → x.number ≡ m.number → x.kind ≡ kind → NoEntry kind
        → columns_of after ≡ columns_of m → after.key ≡ (noded property h m).key → Change l x after
    unfolding node_key
    node_change property n is none c k = passing is none c
        (subst (λ key. SameKey key l.key ⊎ NewKey x key) (sym (k ∙ gone_key _)) (on (is_allowed h.begins_line h.tab m)))
      where
        on : (v : Bool) → SameKey (if v then Some (new_key property (mark_of h) m) else key_goes_on property
            (is_left (block_column m) h.place.column) (top_key m)) l.key
            ⊎ NewKey x (if v then Some (new_key property (mark_of h) m) else key_goes_on property
            (is_left (block_column m) h.place.column) (top_key m))
        on true = inr (sym n, sym start)
        on false = inl (subst (SameKey (key_goes_on property (is_left (block_column m) h.place.column) (top_key m)))
            top_out (same_goes property (is_left (block_column m) h.place.column) (top_key m)))

    -- one that begins an entry where it stands
    own_change : {kind : LexemeKind} → Unkeyed kind x → is_outer_kind kind ≡ false
        → ((column c : ℕ) (ls : List Lexeme) → EntryOf kind None column ls c → column ≡ c)
        → ((column c : ℕ) (ls : List Lexeme) → column ≡ c → EntryOf kind None column ls c)
        → columns_of after ≡ push h.place.column (columns_of m) → after.key ≡ None → Change l x after
    own_change {kind = kind} u none is here c k =
        own flow (ap is_outer_kind u.is ∙ none)
        (λ c ls q. is x.start.place.column c ls
        (subst (λ key. EntryOf kind key x.start.place.column ls c) u.key
        (subst (λ kind. EntryOf kind x.key x.start.place.column ls c) u.is q)))
        (λ c ls q. subst (λ kind. EntryOf kind x.key x.start.place.column ls c) (sym u.is)
        (subst (λ key. EntryOf kind key x.start.place.column ls c) (sym u.key) (here x.start.place.column c ls q)))
        (c ∙ ap₂ push (sym column) popped_here) k

    colon_change : (v : Bool) (k : Option PossibleKey) → v ≡ false → top_key m ≡ k → x.kind ≡ Colon
        → x.key ≡ key_start k → columns_of after ≡ columns_of (behind_colon v k h m)
        → after.key ≡ (behind_colon v k h m).key → Change l x after
    colon_change true k v t is e c g = absurd cc
    colon_change false None v t is e c g = own_change (record { is = is; key = e }) refl (λ column c ls q. q)
        (λ column c ls q. q) (c ∙ paired_columns h.place.column m) (g ∙ key ∙ sym top_out ∙ t)
    colon_change false (Some j) v t is e c g =
        keyed j flow is e (sym top_out ∙ t) (c ∙ paired_columns j.start.place.column m
        ∙ ap (push j.start.place.column) popped_here) (g ∙ gone_key None)

    question_change : (v : Bool) → v ≡ false → Unkeyed Question x
        → columns_of after ≡ columns_of (behind_question_sign v h m) → after.key ≡ (behind_question_sign v h m).key
        → Change l x after
    question_change true v u c k = absurd cc
    question_change false v u c k = own_change u refl (λ column c ls q. q) (λ column c ls q. q)
        (c ∙ entered_columns h.place.column m) (k ∙ gone_key None)

    placed_change : (o : OptionsData) (sort : PlacedSort) (cut : Option Mark) (g : Here)
        → Told h (run_for (Placed sort) h m) x → SaysOf (Placed sort) h (run_for (Placed sort) h m) x
        → Agrees after (behind o (Placed sort) x cut g h (run_for (Placed sort) h m)) → Change l x after
    placed_change o (OpenSign bracket) cut g t s a = node_change false t.number s.is (refl, λ key column c ls q. q)
        (ap cols a.columns ∙ all_widened m.columns) a.key
    placed_change o (CloseSign bracket) cut g t s a = absurd (closed_none m.brackets bracket shut s.1)
    placed_change o CommaSign cut g t s a = passing s.is (refl, λ key column c ls q. q) (ap cols a.columns)
        (inl (subst (λ key. SameKey key l.key) (sym (a.key ∙ gone_key None)) tt))
    placed_change o DashSign cut g t s a =
        own_change s.0 refl (λ column c ls q. q) (λ column c ls q. q)
        (ap cols a.columns ∙ widened_columns (is_before_break g) (entered h.place.column m)
        ∙ entered_columns h.place.column m) (a.key ∙ gone_key None)
    placed_change o QuestionSign cut g t s a = question_change (is_in_flow m)
        (ap (λ (bs : List OpenBracket). is_nonempty bs) shut) s.0 (ap cols a.columns) a.key
    placed_change o ColonSign cut g t s a = colon_change (is_in_flow m) (top_key m)
        (ap (λ (bs : List OpenBracket). is_nonempty bs) shut) refl s.0 s.1 (ap cols a.columns) a.key
    placed_change o AliasSign cut g t s a = node_change false t.number s.1.is (refl, λ key column c ls q. q)
        (ap cols a.columns) a.key
    placed_change o AnchorSign cut g t s a = node_change true t.number s.1.is (refl, λ key column c ls q. q)
        (ap cols a.columns) a.key
    placed_change o TagSign cut g t s a = node_change true t.number s.2.is (refl, λ key column c ls q. q)
        (ap cols a.columns) a.key
    placed_change o (BlockSign literal) cut g t s a = node_change false t.number s.2.is (refl, λ key column c ls q. q)
        (ap cols a.columns) a.key
    placed_change o (QuoteSign single) cut g t s a = node_change false t.number s.2.is (refl, λ key column c ls q. q)
        (ap cols a.columns) a.key
    placed_change o PlainSign cut g t s a = node_change false t.number s.2.is (refl, λ key column c ls q. q)
        (ap cols a.columns) a.key
    placed_change o StrayMark cut g t s a = absurd s
    placed_change o NoSign cut g t s a = absurd s

-- ---- one lexeme

pub shut_of : (bs : List OpenBracket) → is_nonempty bs ≡ false → bs ≡ []
shut_of [] e = refl
shut_of (b ∷ bs) e = absurd cc

pub some_of : (bs : List OpenBracket) → is_nonempty bs ≡ true
    → (b : OpenBracket) × (cs : List OpenBracket) × (bs ≡ b ∷ cs)
some_of [] e = absurd cc
some_of (b ∷ bs) e = (b, bs, refl)

pub closed_brackets : (sort : LexemeSort) (h : Here) (l : Laid) → (closed_for sort h l).brackets ≡ l.brackets
closed_brackets TextEnd h l = refl
closed_brackets StartMark h l = refl
closed_brackets EndMark h l = refl
closed_brackets DirectiveSign h l = refl
closed_brackets Unprintable h l = refl
closed_brackets (Placed sort) h l = refl

pub closed_key : (sort : LexemeSort) (h : Here) (l : Laid) → (closed_for sort h l).key ≡ l.key
closed_key TextEnd h l = refl
closed_key StartMark h l = refl
closed_key EndMark h l = refl
closed_key DirectiveSign h l = refl
closed_key Unprintable h l = refl
closed_key (Placed sort) h l = refl

-- in flow no column ends
kept_columns : (sort : LexemeSort) (h : Here) (l : Laid) → is_in_flow l ≡ true
    → columns_of (closed_for sort h l) ≡ columns_of l
kept_columns TextEnd h l e = refl
kept_columns Unprintable h l e = refl
kept_columns StartMark h l e = ap (λ v. cols (if v then l.columns else [])) e
kept_columns EndMark h l e = ap (λ v. cols (if v then l.columns else [])) e
kept_columns DirectiveSign h l e = ap (λ v. cols (if v then l.columns else [])) e
kept_columns (Placed sort) h l e = ap (λ v. cols (if v then l.columns else up_to_column h.place.column l.columns)) e

all_columns : (l : Laid) → is_in_flow l ≡ false → columns_of (closed_all l) ≡ []
all_columns l e = ap (λ v. cols (if v then l.columns else [])) e

at_columns : (h : Here) (l : Laid) → is_in_flow l ≡ false
    → columns_of (closed_at h.place.column l) ≡ pop h.place.column (columns_of l)
at_columns h l e = ap (λ v. cols (if v then l.columns else up_to_column h.place.column l.columns)) e
    ∙ popped h.place.column l.columns

pub run_in_flow : (sort : LexemeSort) (h : Here) (l : Laid) → is_in_flow (run_for sort h l) ≡ is_in_flow l
run_in_flow (Placed sort) h l = run_flow sort h l
run_in_flow sort h l = refl

pub front_flow : (sort : LexemeSort) (h : Here) (l : Laid) → is_in_flow (in_front sort h l) ≡ is_in_flow l
front_flow sort h l =
    run_in_flow sort h (closed_for sort h l)
    ∙ ap (λ (bs : List OpenBracket). is_nonempty bs) (closed_brackets sort h l)

out_change : (o : OptionsData) (sort : LexemeSort) (h : Here) (l : Laid) (x : Lexeme) (cut : Option Mark) (g : Here)
    (after : Laid) → l.brackets ≡ [] → x.in_flow ≡ false → is_in_flow l ≡ false
    → Told h (run_for sort h (closed_for sort h l)) x → SaysOf sort h (run_for sort h (closed_for sort h l)) x
    → Agrees after (behind o sort x cut g h (run_for sort h (closed_for sort h l))) → Change l x after
out_change o TextEnd h l x cut g after shut flow out t s a = outer_change h l l x after shut refl refl flow t.start s.0
    refl (ap cols a.columns) (a.key ∙ ap (λ (bs : List OpenBracket). outer_key bs None l.key) shut)
out_change o StartMark h l x cut g after shut flow out t s a = outer_change h l (closed_all l) x after shut refl refl
    flow t.start s.0 refl (ap cols a.columns ∙ all_columns l out)
    (a.key ∙ ap (λ (bs : List OpenBracket). outer_key bs None l.key) shut)
out_change o EndMark h l x cut g after shut flow out t s a = outer_change h l (closed_all l) x after shut refl refl flow
    t.start s.0 refl (ap cols a.columns ∙ all_columns l out)
    (a.key ∙ ap (λ (bs : List OpenBracket). outer_key bs None l.key) shut)
out_change o DirectiveSign h l x cut g after shut flow out t s a = outer_change h l (closed_all l) x after shut refl
    refl flow t.start s.1 refl (ap cols a.columns ∙ all_columns l out)
    (a.key ∙ ap (λ (bs : List OpenBracket). outer_key bs None l.key) shut)
out_change o Unprintable h l x cut g after shut flow out t s a = absurd s
out_change o (Placed sort) h l x cut g after shut flow out t s a = placed_change h l (closed_at h.place.column l) x
    after shut refl refl flow t.start (at_columns h l out) o sort cut g t s a

pub columns_change : (o : OptionsData) (sort : LexemeSort) (h : Here) (l : Laid) (x : Lexeme) (cut : Option Mark)
    (g : Here) (after : Laid) → Told h (run_for sort h (closed_for sort h l)) x
    → SaysOf sort h (run_for sort h (closed_for sort h l)) x
    → Agrees after (behind o sort x cut g h (run_for sort h (closed_for sort h l))) → Change l x after
columns_change o sort h l x cut g after t s a = on (is_in_flow l) refl
  where
    on : (v : Bool) → is_in_flow l ≡ v → Change l x after
    on true e =
        let c = closed_for sort h l in
        let b = some_of c.brackets (ap (λ (bs : List OpenBracket). is_nonempty bs) (closed_brackets sort h l) ∙ e) in
        let k = flow_kept c b.0 b.1 b.2 o sort h x cut g after s a in
        nothing (t.flow ∙ front_flow sort h l ∙ e) (k.columns ∙ kept_columns sort h l e)
        (subst (λ key. SameKey key l.key) (sym (k.key ∙ closed_key sort h l)) (same_self l.key))
    on false e = out_change o sort h l x cut g after (shut_of l.brackets e) (t.flow ∙ front_flow sort h l ∙ e) e t s a
