-- The layout that a scalar is told is what the lexemes before it say.
use Rattle.std.proofs.Common.{◌≡◌, ◌≢◌, ℕ, ◌+◌, ◌==◌, ◌&&◌, ◌||◌, not, Bool, true, false, List, [], ◌∷◌}
use Rattle.std.proofs.Common.{Option, Some, None, refl, sym, ap, ap₂, ◌∙◌, subst}
use Rattle.std.proofs.Math.Nat.{le_antisymm}
use Rattle.std.proofs.lemmas.Bool.{ltb-false}
use Rattle.std.specs.Bool.{Decides}
use Rattle.std.specs.Prelude.{if◌then◌else◌}
use Rattle.std.proofs.lemmas.Bool.Decides.{Decides-and, Decides-or, Decides-not}
use Rattle.granit_base.specs.Place.{Mark}
use Rattle.granit_error.specs.OptionsData.{OptionsData}
use Rattle.granit_language.specs.Allowed.{LayoutIs}
use Rattle.granit_language.specs.Before.{freshened, in_front}
use Rattle.granit_language.specs.OpenColumns.{latest, is_outer_kind, Has, Falls, ColumnsSay}
use Rattle.granit_language.specs.Reached.{Reached}
use Rattle.granit_language.specs.Standing.{GapStands}
use Rattle.granit_lexemes.specs.Here.{Here, mark_of, start_of}
use Rattle.granit_lexemes.specs.LayoutData.{LayoutData}
use Rattle.granit_lexemes.specs.Lexeme.{Lexeme, Item}
use Rattle.granit_lexemes.specs.declared.layout.OpenBracket.{OpenBracket}
use Rattle.granit_lexemes.specs.declared.layout.OpenColumn.{OpenColumn}
use Rattle.granit_machine.specs.Columns.{up_to_column, closed_at}
use Rattle.granit_machine.specs.Laid.{Laid, is_nonempty, is_in_flow, innermost_column}
use Rattle.granit_machine.specs.LexemeSort.{PlacedSort, Placed}
use Rattle.granit_machine.specs.PossibleKeys.{fresh_bracket, is_wide_at, tab_column_of, layout_of}
use Rattle.granit_machine.specs.ReaderState.{ReaderState, reader_start}
use Rattle.granit_places.proofs.ColumnsLaw.{front_flow, cols}
use Rattle.granit_places.proofs.ColumnsWhole.{columns_said}
use Rattle.granit_reading.proofs.Deciding.{layout_is, layout_same, is_decided, true_decided}
use Rattle.granit_places.proofs.Telling.{gap_agrees}
use Rattle.granit_declared.proofs.FieldsSaid.{mapped_nonempty}
use Rattle.granit_before.proofs.HeldLow.{is_kept_here, head_least, head_open}
use Rattle.granit_before.proofs.TabsColumns.{Widths, pop_widths}
use Rattle.granit_before.proofs.TabsLeft.{gap_tabs, run_tabs}
use Rattle.granit_before.proofs.TabsWhole.{tabs_said}
use Rattle.granit_before.specs.ScalarLayout.{InnermostStays, NoColumnStays, BlockIs, at_root, in_block}
use Rattle.granit_before.specs.ScalarLayout.{NoTabInColumn, TabsRefused, nowhere, left_of, and_in, ScalarLayout}

columns_as : (ls : List Lexeme) {l m : Laid} → m.columns ≡ l.columns → ColumnsSay ls l → ColumnsSay ls m
columns_as ls e s = record {
  are_open = λ c h. s.are_open c (subst (Has c) (ap cols e) h);
  are_kept = λ c p. subst (Has c) (sym (ap cols e)) (s.are_kept c p);
  fall = subst Falls (sym (ap cols e)) s.fall;
}

-- l is what the lexemes before it leave
module _ (o : OptionsData) (text : List ℕ) (ls : List Lexeme) (l : Laid) (said : ColumnsSay ls l)
    (w : Widths text ls l.columns) (h : Here) (x : Lexeme) (start : x.start ≡ mark_of h)
    (flow : x.in_flow ≡ is_in_flow l) (outer : is_outer_kind x.kind ≡ false) where
  abbrev m : Laid
  m = closed_at h.place.column l

  widths : (v : Bool) → is_in_flow l ≡ v → Widths text ls m.columns
  widths true e =
      subst (Widths text ls)
      (sym (ap (λ v. if v then l.columns else up_to_column h.place.column l.columns) e)) w
  widths false e =
      subst (Widths text ls)
      (sym (ap (λ v. if v then l.columns else up_to_column h.place.column l.columns) e))
      (pop_widths text ls h.place.column l.columns w)

  head_stays : (c : OpenColumn) (cs : List OpenColumn) → m.columns ≡ c ∷ cs → InnermostStays ls x c.column
  head_stays c cs e = record {
    stays = head_open ls l said h x start flow outer c cs e;
    innermost = λ d p. ltb-false c.column d (head_least ls l said h x start flow outer c cs e d
        (subst (Has d) (ap cols e) (is_kept_here ls l said h x start flow outer d p.0 p.1)));
  }

  none_stays : m.columns ≡ [] → NoColumnStays ls x
  none_stays e c p = subst (Has c) (ap cols e) (is_kept_here ls l said h x start flow outer c p.0 p.1)

  wide_decided : (c : OpenColumn) (cs : List OpenColumn) → m.columns ≡ c ∷ cs →
      Decides (is_wide_at (is_in_flow l) h.place.column (c ∷ cs) || (is_in_flow l && o.strict_indentation))
      (NoTabInColumn o text ls x c.column)
  wide_decided c cs e =
      let ws : Widths text ls (c ∷ cs) = subst (Widths text ls) e (widths (is_in_flow l) refl) in
      let inside : Decides (is_in_flow l) (x.in_flow ≡ true) = (λ f. flow ∙ f, λ p. sym flow ∙ p) in
      let column : h.place.column ≡ x.start.place.column = ap (λ (m : Mark). m.place.column) (sym start) in
      let other : Decides (not (c.column == h.place.column)) (c.column ≢ x.start.place.column) =
      subst (λ k. Decides (not (c.column == h.place.column)) (c.column ≢ k)) column
      (Decides-not (c.column == h.place.column) (is_decided c.column h.place.column)) in
      Decides-or (c.is_wide && (is_in_flow l || not (c.column == h.place.column)))
      (is_in_flow l && o.strict_indentation)
      (Decides-and c.is_wide (is_in_flow l || not (c.column == h.place.column)) ws.0
      (Decides-or (is_in_flow l) (not (c.column == h.place.column)) inside other))
      (Decides-and (is_in_flow l) o.strict_indentation inside (true_decided o.strict_indentation))

  block_is : (cs : List OpenColumn) → m.columns ≡ cs → BlockIs ls x (innermost_column cs)
  block_is [] e = at_root (none_stays e)
  block_is (c ∷ cs) e = in_block (head_stays c cs e)

  tabs_are : (cs : List OpenColumn) → m.columns ≡ cs →
      TabsRefused o text ls x (tab_column_of
      (is_wide_at (is_in_flow l) h.place.column cs || (is_in_flow l && o.strict_indentation)) (innermost_column cs))
  tabs_are [] e = nowhere (none_stays e)
  tabs_are (c ∷ cs) e =
      on (is_wide_at (is_in_flow l) h.place.column (c ∷ cs) || (is_in_flow l && o.strict_indentation))
      (wide_decided c cs e)
    where
      on : (v : Bool) → Decides v (NoTabInColumn o text ls x c.column) →
          TabsRefused o text ls x (if v then c.column + 1 else c.column)
      on true d = and_in (head_stays c cs e) (d.0 refl)
      on false d = left_of (head_stays c cs e) (λ p. absurd (let z = d.1 p in cc))

  closed_layout : ScalarLayout o text ls x (layout_of o h.place.column m)
  closed_layout = record {
    block = block_is m.columns refl;
    tabs = tabs_are m.columns refl;
    flow = sym flow;
    strict = refl;
    comments = refl;
  }

  -- the run that the lexeme begins or joins changes nothing of it
  front_layout : (sort : PlacedSort) → layout_of o h.place.column (in_front (Placed sort) h l)
      ≡ layout_of o h.place.column m
  front_layout sort =
      ap₂ (λ (v : Bool) (cs : List OpenColumn). layout_by v cs) (front_flow (Placed sort) h l)
      (run_tabs (Placed sort) h m).columns
    where
      layout_by : Bool → List OpenColumn → LayoutData
      layout_by v cs = record {
        block_column = innermost_column cs;
        tab_column =
            tab_column_of (is_wide_at v h.place.column cs || (v && o.strict_indentation)) (innermost_column cs);
        in_flow = v;
        strict = o.strict_indentation;
        comments = true;
      }

-- ---- at most one

module _ (o : OptionsData) (text : List ℕ) (ls : List Lexeme) (x : Lexeme) where
  same_column : (c d : ℕ) → InnermostStays ls x c → InnermostStays ls x d → c ≡ d
  same_column c d p q = le_antisymm (q.innermost c p.stays) (p.innermost d q.stays)

  one_block : {a b : Option ℕ} → BlockIs ls x a → BlockIs ls x b → a ≡ b
  one_block (at_root n) (at_root m) = refl
  one_block (at_root n) (in_block {c = c} p) = absurd (n c p.stays)
  one_block (in_block {c = c} p) (at_root m) = absurd (m c p.stays)
  one_block (in_block {c = c} p) (in_block {c = d} q) = ap (λ (c : ℕ). Some c) (same_column c d p q)

  one_refused : {a b : ℕ} → TabsRefused o text ls x a → TabsRefused o text ls x b → a ≡ b
  one_refused (nowhere n) (nowhere m) = refl
  one_refused (nowhere n) (left_of {c = c} p f) = absurd (n c p.stays)
  one_refused (nowhere n) (and_in {c = c} p f) = absurd (n c p.stays)
  one_refused (left_of {c = c} p f) (nowhere m) = absurd (m c p.stays)
  one_refused (left_of {c = c} p f) (left_of {c = d} q g) = same_column c d p q
  one_refused (left_of {c = c} p f) (and_in {c = d} q g) =
      absurd (f (subst (NoTabInColumn o text ls x) (sym (same_column c d p q)) g))
  one_refused (and_in {c = c} p f) (nowhere m) = absurd (m c p.stays)
  one_refused (and_in {c = c} p f) (left_of {c = d} q g) =
      absurd (g (subst (NoTabInColumn o text ls x) (same_column c d p q) f))
  one_refused (and_in {c = c} p f) (and_in {c = d} q g) = ap (λ c. c + 1) (same_column c d p q)

  layout_by : Option ℕ → ℕ → Bool → Bool → Bool → LayoutData
  layout_by block tabs flow strict comments = record {
    block_column = block;
    tab_column = tabs;
    in_flow = flow;
    strict = strict;
    comments = comments;
  }

  pub one_layout : (d e : LayoutData) → ScalarLayout o text ls x d → ScalarLayout o text ls x e → d ≡ e
  unfolding layout_by
  one_layout d e p q =
      ap₂ (λ (b : Option ℕ) (t : ℕ). layout_by b t d.in_flow d.strict d.comments) (one_block p.block q.block)
      (one_refused p.tabs q.tabs)
      ∙ (ap₂ (λ (f s : Bool). layout_by e.block_column e.tab_column f s d.comments) (p.flow ∙ sym q.flow)
      (p.strict ∙ sym q.strict)
      ∙ ap (λ (c : Bool). layout_by e.block_column e.tab_column e.in_flow e.strict c) (p.comments ∙ sym q.comments))

pub layout_said : (o : OptionsData) (text : List ℕ) (items : List Item) (t at : ReaderState) (sort : PlacedSort)
    (x : Lexeme) (d : LayoutData) → Reached o (reader_start (start_of text)) items t →
    GapStands o t.here t.laid None at → x.start ≡ mark_of at.here → x.in_flow ≡ is_in_flow t.laid →
    is_outer_kind x.kind ≡ false →
    LayoutIs o at.here.place.column (in_front (Placed sort) at.here (freshened o at).laid) d →
    ScalarLayout o text (latest items []) x d
layout_said o text items t at sort x d r g start flow outer is =
    let l = (freshened o at).laid in
    let ls = latest items [] in
    let e = (gap_tabs g).columns in
    let said = columns_as ls {l = t.laid} {m = l} e (columns_said o (start_of text) items t r) in
    let w = subst (Widths text ls) (sym e) (tabs_said o text items t r).widths in
    let f : is_in_flow l ≡ is_in_flow t.laid =
    mapped_nonempty (fresh_bracket o (mark_of at.here)) at.laid.brackets
    ∙ ap (λ (bs : List OpenBracket). is_nonempty bs) (gap_agrees g).brackets in
    subst (ScalarLayout o text ls x)
    (sym (front_layout o text ls l said w at.here x start (flow ∙ sym f) outer sort)
    ∙ layout_same o at.here.place.column (in_front (Placed sort) at.here l) is)
    (closed_layout o text ls l said w at.here x start (flow ∙ sym f) outer)

pub said_layout : (o : OptionsData) (text : List ℕ) (items : List Item) (t at : ReaderState) (sort : PlacedSort)
    (x : Lexeme) (d : LayoutData) → Reached o (reader_start (start_of text)) items t →
    GapStands o t.here t.laid None at → x.start ≡ mark_of at.here → x.in_flow ≡ is_in_flow t.laid →
    is_outer_kind x.kind ≡ false → ScalarLayout o text (latest items []) x d →
    LayoutIs o at.here.place.column (in_front (Placed sort) at.here (freshened o at).laid) d
said_layout o text items t at sort x d r g start flow outer p =
    let l = in_front (Placed sort) at.here (freshened o at).laid in
    let c = at.here.place.column in
    let q = layout_said o text items t at sort x (layout_of o c l) r g start flow outer (layout_is o c l) in
    subst (LayoutIs o c l) (one_layout o text (latest items []) x (layout_of o c l) d q p) (layout_is o c l)
