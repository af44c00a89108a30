-- Which tab is refused that begins a line, said of the lexemes before it.
use Rattle.std.proofs.Common.{◌≡◌, ℕ, ◌≤◌, ◌<◌, false, List, [], ◌∷◌, inl, inr, refl, sym, ap, ◌∙◌}
use Rattle.std.proofs.Common.{subst, arith}
use Rattle.std.proofs.Math.Nat.{le_antisymm}
use Rattle.std.proofs.lemmas.Bool.{ltb-false}
use Rattle.std.specs.Bool.{Decides}
use Rattle.granit_base.specs.Place.{Mark}
use Rattle.granit_error.specs.OptionsData.{OptionsData}
use Rattle.granit_language.specs.Allowed.{InFlow, LeftOfNodes, LeftOfKey, InBlock}
use Rattle.granit_language.specs.OpenColumns.{latest, IsOpenColumn, Has, Falls, ColumnsSay}
use Rattle.granit_language.specs.Reached.{Reached}
use Rattle.granit_lexemes.specs.Here.{Here, start_of}
use Rattle.granit_lexemes.specs.Lexeme.{Lexeme, Item}
use Rattle.granit_lexemes.specs.declared.layout.OpenColumn.{OpenColumn}
use Rattle.granit_machine.specs.Laid.{Laid, is_question}
use Rattle.granit_machine.specs.ReaderState.{ReaderState, reader_start}
use Rattle.granit_places.proofs.ColumnsKept.{at_most_has}
use Rattle.granit_places.proofs.ColumnsLaw.{cols}
use Rattle.granit_places.proofs.ColumnsWhole.{columns_said}
use Rattle.granit_reading.proofs.Deciding.{question_decided}
use Rattle.granit_before.proofs.HeldWhole.{held_said, inside_said}
use Rattle.granit_before.proofs.QuestionSaid.{question_said}
use Rattle.granit_before.proofs.TabsColumns.{Widths}
use Rattle.granit_before.proofs.TabsWhole.{tabs_said}
use Rattle.granit_before.specs.Openers.{IsInside}
use Rattle.granit_before.specs.Tabs.{BehindQuestionSign, IndentsFurther, IsWideColumn, HasColumn, InnermostOpen}
use Rattle.granit_before.specs.Tabs.{TabIndents, TabBeforeKey}

-- ---- each column

width_of : (text : List ℕ) (ls : List Lexeme) (cs : List OpenColumn) (c : OpenColumn) → Widths text ls cs →
    HasColumn c cs → Decides c.is_wide (IsWideColumn text ls c.column)
width_of text ls [] c w h = absurd h
width_of text ls (d ∷ ds) c w (inl e) =
    subst (λ (c : OpenColumn). Decides c.is_wide (IsWideColumn text ls c.column)) e w.0
width_of text ls (d ∷ ds) c w (inr h) = width_of text ls ds c w.2 h

pub widths_said : (o : OptionsData) (text : List ℕ) (items : List Item) (t : ReaderState) (c : OpenColumn) →
    Reached o (reader_start (start_of text)) items t → HasColumn c t.laid.columns →
    Decides c.is_wide (IsWideColumn text (latest items []) c.column)
widths_said o text items t c r h =
    width_of text (latest items []) t.laid.columns c (tabs_said o text items t r).widths h

pub innermost_said : (o : OptionsData) (text : List ℕ) (items : List Item) (t : ReaderState) →
    Reached o (reader_start (start_of text)) items t → Decides t.laid.rolled (IndentsFurther text (latest items []))
innermost_said o text items t r = (tabs_said o text items t r).innermost

-- ---- the innermost column

at_most_then : (a b c : ℕ) → a ≤ b → b ≤ c → a ≤ c
at_most_then a b c e f = omega (arith, e, f)

head_innermost : (ls : List Lexeme) (l : Laid) (c : OpenColumn) (cs : List OpenColumn) → ColumnsSay ls l →
    l.columns ≡ c ∷ cs → InnermostOpen ls c.column
head_innermost ls l c cs said e = record {
  open_there = said.are_open c.column (subst (Has c.column) (sym (ap cols e)) (inl refl));
  innermost = λ d p. by d (subst (Has d) (ap cols e) (said.are_kept d p));
}
  where
    falls : Falls (cols (c ∷ cs))
    falls = subst Falls (ap cols e) said.fall

    by : (d : ℕ) → Has d (cols (c ∷ cs)) → d ≤ c.column
    by d (inl q) = subst (λ d. d ≤ c.column) q (let z = c.column in omega arith)
    by d (inr q) = ltb-false c.column d (at_most_has c.column d (cols cs) falls.0 q)

-- an open column is kept, so there is an innermost one
head_of : (ls : List Lexeme) (l : Laid) (c : ℕ) → ColumnsSay ls l → InnermostOpen ls c →
    (d : OpenColumn) × (ds : List OpenColumn) × (l.columns ≡ d ∷ ds) × (d.column ≡ c)
head_of ls l c said p = on l.columns refl
  where
    on : (cs : List OpenColumn) → l.columns ≡ cs →
        (d : OpenColumn) × (ds : List OpenColumn) × (l.columns ≡ d ∷ ds) × (d.column ≡ c)
    on [] e = absurd (subst (Has c) (ap cols e) (said.are_kept c p.open_there))
    on (d ∷ ds) e =
        let q = head_innermost ls l d ds said e in
        (d, ds, e, (le_antisymm (p.innermost d.column q.open_there) (q.innermost c p.open_there)))

module _ (o : OptionsData) (text : List ℕ) (ls : List Lexeme) (l : Laid) (said : ColumnsSay ls l)
    (inside : (InFlow l → IsInside ls) × (IsInside ls → InFlow l)) (tab : Mark) where
  pub tab_there : Decides l.rolled (IndentsFurther text ls) → InBlock o l tab →
      TabIndents o text ls tab.place.column
  tab_there d (c, cs, e, inl f) = (c.column, head_innermost ls l c cs said e, inl f)
  tab_there d (c, cs, e, inr (inl f, g)) = (c.column, head_innermost ls l c cs said e, inr (inl (d.0 f), g))
  tab_there d (c, cs, e, inr (inr f, g)) = (c.column, head_innermost ls l c cs said e, inr (inr (inside.0 f.0, f.1), g))

  pub tab_back : Decides l.rolled (IndentsFurther text ls) → TabIndents o text ls tab.place.column →
      InBlock o l tab
  tab_back d (c, p, inl f) =
      let q = head_of ls l c said p in (q.0, q.1, q.2, inl (subst (λ c. tab.place.column < c) (sym q.3) f))
  tab_back d (c, p, inr (inl f, g)) =
      let q = head_of ls l c said p in (q.0, q.1, q.2, inr (inl (d.1 f), g ∙ sym q.3))
  tab_back d (c, p, inr (inr f, g)) =
      let q = head_of ls l c said p in (q.0, q.1, q.2, inr (inr (inside.1 f.0, f.1), g ∙ sym q.3))

pub block_row : (o : OptionsData) (text : List ℕ) (items : List Item) (t : ReaderState) (tab : Mark) →
    Reached o (reader_start (start_of text)) items t →
    (InBlock o t.laid tab → TabIndents o text (latest items []) tab.place.column)
    × (TabIndents o text (latest items []) tab.place.column → InBlock o t.laid tab)
block_row o text items t tab r =
    let said = columns_said o (start_of text) items t r in
    let d = innermost_said o text items t r in
    let inside = inside_said (latest items []) t.laid (held_said o (start_of text) items t r).brackets in (
      λ p. tab_there o text (latest items []) t.laid said inside tab d p,
      λ p. tab_back o text (latest items []) t.laid said inside tab d p,
    )

-- ---- behind `?`

-- a node may not stand left of an open column
left_of_open : (ls : List Lexeme) (l : Laid) (k c : ℕ) → ColumnsSay ls l → IsOpenColumn ls c → k ≤ c → LeftOfNodes l k
left_of_open ls l k c said p f = on l.columns refl
  where
    on : (cs : List OpenColumn) → l.columns ≡ cs → LeftOfNodes l k
    on [] e = absurd (subst (Has c) (ap cols e) (said.are_kept c p))
    on (d ∷ ds) e = (d, ds, e, at_most_then k c d.column f ((head_innermost ls l d ds said e).innermost c p))

key_there : (o : OptionsData) (ls : List Lexeme) (l : Laid) (tab : Mark) → ColumnsSay ls l →
    Decides (is_question l.last) (BehindQuestionSign o ls) → LeftOfKey l tab → TabBeforeKey o ls tab.place.column
key_there o ls l tab said d (b, (c, cs, e, f)) = (
  d.0 ((question_decided l.last).1 b),
  (c.column, (head_innermost ls l c cs said e).open_there, f),
)

key_back : (o : OptionsData) (ls : List Lexeme) (l : Laid) (tab : Mark) → ColumnsSay ls l →
    Decides (is_question l.last) (BehindQuestionSign o ls) → TabBeforeKey o ls tab.place.column → LeftOfKey l tab
key_back o ls l tab said d (b, (c, p, f)) =
    ((question_decided l.last).0 (d.1 b), left_of_open ls l tab.place.column c said p f)

pub key_row : (o : OptionsData) (h : Here) (items : List Item) (t : ReaderState) (tab : Mark) →
    Reached o (reader_start h) items t →
    (LeftOfKey t.laid tab → TabBeforeKey o (latest items []) tab.place.column)
    × (TabBeforeKey o (latest items []) tab.place.column → LeftOfKey t.laid tab)
key_row o h items t tab r =
    let said = columns_said o h items t r in
    let d = question_said o h items t r in
    (λ p. key_there o (latest items []) t.laid tab said d p, λ p. key_back o (latest items []) t.laid tab said d p)
