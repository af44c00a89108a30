-- Possible keys rise by number and by place.
use Rattle.std.proofs.Common.{◌≡◌, ℕ, suc, ◌<◌, ◌≤◌, ◌||◌, Bool, true, false, List, [], ◌∷◌, drop, map, Option, Some}
use Rattle.std.proofs.Common.{None, ◌⊎◌, inl, inr, refl, sym, ap, ap₂, ◌∙◌, subst, arith}
use Rattle.std.specs.Prelude.{if◌then◌else◌}
use Rattle.granit_base.specs.Place.{Mark}
use Rattle.granit_error.specs.OptionsData.{OptionsData}
use Rattle.granit_invariants.proofs.Onward.{gap_on, comment_on, lexeme_on}
use Rattle.granit_invariants.specs.RisingKeys.{and_possible, keys_inside, possible_keys, KeysRise}
use Rattle.granit_language.specs.Before.{freshened, behind_colon, behind_question_sign, closed_for, run_for, in_front}
use Rattle.granit_language.specs.Before.{behind}
use Rattle.granit_language.specs.Reached.{ends_column_by, Reads, of_comment, of_lexeme, Reached, stops, goes_on}
use Rattle.granit_language.specs.Standing.{Given}
use Rattle.granit_lexemes.specs.Here.{Here, mark_of}
use Rattle.granit_lexemes.specs.LayoutData.{is_left}
use Rattle.granit_lexemes.specs.Lexeme.{Lexeme, Item, OfLexeme}
use Rattle.granit_lexemes.specs.declared.layout.OpenBracket.{OpenBracket}
use Rattle.granit_lexemes.specs.declared.layout.PossibleKey.{PossibleKey}
use Rattle.granit_machine.specs.Laid.{Laid, is_in_flow, block_column}
use Rattle.granit_machine.specs.LexemeSort.{OpenSign, CloseSign, CommaSign, DashSign, QuestionSign, ColonSign}
use Rattle.granit_machine.specs.LexemeSort.{AliasSign, AnchorSign, TagSign, BlockSign, QuoteSign, StrayMark, NoSign}
use Rattle.granit_machine.specs.LexemeSort.{PlainSign, LexemeSort, TextEnd, StartMark, EndMark, Unprintable}
use Rattle.granit_machine.specs.LexemeSort.{DirectiveSign, Placed}
use Rattle.granit_machine.specs.PossibleKeys.{key_in, top_key, outer_key, keyed_brackets, with_top_key, forgets_key}
use Rattle.granit_machine.specs.PossibleKeys.{is_stale, fresh_key, fresh_bracket, fresh, is_allowed, new_key}
use Rattle.granit_machine.specs.PossibleKeys.{key_goes_on, node_key}
use Rattle.granit_machine.specs.NodeLexemes.{note_items}
use Rattle.granit_machine.specs.Reader.{is_end_kind, is_end, noded}
use Rattle.granit_machine.specs.ReaderState.{ReaderState, reader_start}
use Rattle.granit_places.proofs.ColumnsLaw.{closed_brackets, closed_key}
use Rattle.granit_places.proofs.Moving.{lexeme_moved, closed_held}
use Rattle.granit_places.proofs.Telling.{SaysOf, Agrees, gap_agrees, telling}

-- ---- lists of keys

rise_more : (n m i j : ℕ) (ks : List PossibleKey) → n ≤ m → i ≤ j → KeysRise n i ks → KeysRise m j ks
rise_more n m i j [] p q r = tt
rise_more n m i j (k ∷ ks) p q r = let a = r.0 in let b = r.1 in (omega (arith, a, p), omega (arith, b, q), r.2)

rise_rest : (n i : ℕ) (key : Option PossibleKey) (ks : List PossibleKey) → KeysRise n i (and_possible key ks)
    → KeysRise n i ks
rise_rest n i None ks r = r
rise_rest n i (Some k) ks r = let a = r.0 in let b = r.1 in rise_more k.number n k.start.place.index i ks
    (omega (arith, a)) (omega (arith, b)) r.2

-- below every bound that some keys rise to, others do
abbrev RisesAs : List PossibleKey → List PossibleKey → Type 0
RisesAs ks less = (n i : ℕ) → KeysRise n i ks → KeysRise n i less

rise_with : (n i : ℕ) (key : Option PossibleKey) (ks less : List PossibleKey) → RisesAs ks less
    → KeysRise n i (and_possible key ks) → KeysRise n i (and_possible key less)
rise_with n i None ks less f r = f n i r
rise_with n i (Some k) ks less f r = (r.0, r.1, f k.number k.start.place.index r.2)

-- ---- the innermost key, and those outside it

abbrev outer : List OpenBracket → Option PossibleKey → List PossibleKey
outer [] key = []
outer (b ∷ bs) key = keys_inside bs (and_possible key [])

abbrev outside : Laid → List PossibleKey
outside l = outer l.brackets l.key

parts_in : (bs : List OpenBracket) (key : Option PossibleKey)
    → keys_inside bs (and_possible key []) ≡ and_possible (key_in bs key) (outer bs key)
parts_in [] key = refl
parts_in (b ∷ bs) key = refl

with_in : (bs : List OpenBracket) (key old : Option PossibleKey)
    → keys_inside (keyed_brackets key bs) (and_possible (outer_key bs key old) []) ≡ and_possible key (outer bs old)
with_in [] key old = refl
with_in (b ∷ bs) key old = refl

with_rises : (n i : ℕ) (key : Option PossibleKey) (l : Laid) → KeysRise n i (and_possible key (outside l))
    → KeysRise n i (possible_keys (with_top_key key l))
with_rises n i key l r = subst (KeysRise n i) (sym (with_in l.brackets key l.key)) r

parts_rise : (n i : ℕ) (l : Laid) → KeysRise n i (possible_keys l) → KeysRise n i (and_possible (top_key l) (outside l))
parts_rise n i l r = subst (KeysRise n i) (parts_in l.brackets l.key) r

outside_rises : (n i : ℕ) (l : Laid) → KeysRise n i (possible_keys l) → KeysRise n i (outside l)
outside_rises n i l r = rise_rest n i (top_key l) (outside l) (parts_rise n i l r)

forgets_rises : (n i : ℕ) (l : Laid) → KeysRise n i (possible_keys l) → KeysRise n i (possible_keys (forgets_key l))
forgets_rises n i l r = with_rises n i None l (outside_rises n i l r)

dropped_rises : (n i : ℕ) (bs : List OpenBracket) (key : Option PossibleKey)
    → KeysRise n i (keys_inside bs (and_possible key [])) → KeysRise n i (keys_inside (drop 1 bs) (and_possible key []))
dropped_rises n i [] key r = r
dropped_rises n i (b ∷ bs) key r = rise_rest n i b.key (keys_inside bs (and_possible key [])) r

-- ---- stale keys

fresh_rises : (n i : ℕ) (o : OptionsData) (in_flow : Bool) (m : Mark) (key : Option PossibleKey)
    (ks less : List PossibleKey) → RisesAs ks less → KeysRise n i (and_possible key ks)
    → KeysRise n i (and_possible (fresh_key o in_flow m key) less)
fresh_rises n i o in_flow m None ks less f r = f n i r
fresh_rises n i o in_flow m (Some k) ks less f r = on (is_stale o in_flow m k)
  where
    on : (v : Bool) → KeysRise n i (and_possible (if v then None else Some k) less)
    on true = f n i (rise_rest n i (Some k) ks r)
    on false = rise_with n i (Some k) ks less f r

fresh_in : (o : OptionsData) (m : Mark) (bs : List OpenBracket) (ks less : List PossibleKey)
    → RisesAs ks less → (n i : ℕ) → KeysRise n i (keys_inside bs ks)
    → KeysRise n i (keys_inside (map (fresh_bracket o m) bs) less)
fresh_in o m [] ks less f n i r = f n i r
fresh_in o m (b ∷ bs) ks less f n i r = fresh_rises n i o true m b.key (keys_inside bs ks)
    (keys_inside (map (fresh_bracket o m) bs) less) (fresh_in o m bs ks less f) r

pub freshened_rise : (o : OptionsData) (m : Mark) (l : Laid) (n i : ℕ) → KeysRise n i (possible_keys l)
    → KeysRise n i (possible_keys (fresh o m l))
freshened_rise o m l n i r = fresh_in o m l.brackets (and_possible l.key [])
    (and_possible (fresh_key o (is_in_flow l) m l.key) [])
    (λ n i. fresh_rises n i o (is_in_flow l) m l.key [] [] (λ n i r. r)) n i r

-- ---- a lexeme of a node

goes_rises : (n i : ℕ) (property low : Bool) (key : Option PossibleKey) (ks : List PossibleKey)
    → KeysRise n i (and_possible key ks) → KeysRise n i (and_possible (key_goes_on property low key) ks)
goes_rises n i property low None ks r = r
goes_rises n i property low (Some k) ks r = on k.is_head
  where
    on : (v : Bool) → KeysRise n i (and_possible
        (if v then Some (record k { is_low = k.is_low || low; is_head = property }) else Some k) ks)
    on true = r
    on false = r

-- the new key begins at the lexeme
noded_rises : (property : Bool) (h : Here) (l : Laid) (j : ℕ) → h.place.index < j
    → KeysRise l.number h.place.index (possible_keys l) → KeysRise (suc l.number) j (possible_keys (noded property h l))
unfolding node_key
noded_rises property h l j p r = with_rises (suc l.number) j _ l (on (is_allowed h.begins_line h.tab l))
  where
    on : (v : Bool) → KeysRise (suc l.number) j
        (and_possible (if v then Some (new_key property (mark_of h) l) else key_goes_on property
        (is_left (block_column l) h.place.column) (top_key l)) (outside l))
    on true = (omega arith, p, outside_rises l.number h.place.index l r)
    on false = goes_rises (suc l.number) j property (is_left (block_column l) h.place.column) (top_key l) (outside l)
        (rise_more l.number (suc l.number) h.place.index j (and_possible (top_key l) (outside l)) (omega arith)
        (omega (arith, p)) (parts_rise l.number h.place.index l r))

-- ---- one lexeme

question_rises : (n i : ℕ) (h : Here) (l : Laid) (v : Bool) → KeysRise n i (possible_keys l)
    → KeysRise n i (possible_keys (behind_question_sign v h l))
question_rises n i h l true r = forgets_rises n i l r
question_rises n i h l false r = forgets_rises n i l r

colon_rises : (n i : ℕ) (h : Here) (l : Laid) (v : Bool) (key : Option PossibleKey) → KeysRise n i (possible_keys l)
    → KeysRise n i (possible_keys (behind_colon v key h l))
colon_rises n i h l true None r = r
colon_rises n i h l true (Some k) r = forgets_rises n i l r
colon_rises n i h l false None r = r
colon_rises n i h l false (Some k) r = forgets_rises n i l r

pub keys_as : (a b : Laid) → Agrees a b → possible_keys a ≡ possible_keys b
keys_as a b p = ap₂ (λ bs key. keys_inside bs (and_possible key [])) p.brackets p.key

module _ (o : OptionsData) (h : Here) (l : Laid) (x : Lexeme) (cut : Option Mark) (g : Here) (j : ℕ)
    (on : h.place.index ≤ j) (past : is_end_kind x.kind ≡ false → h.place.index < j)
    (r : KeysRise l.number h.place.index (possible_keys l)) where
  further : KeysRise (suc l.number) j (possible_keys l)
  further = rise_more l.number (suc l.number) h.place.index j (possible_keys l) (omega arith) on r

  forgotten : KeysRise (suc l.number) j (possible_keys (forgets_key l))
  forgotten = forgets_rises (suc l.number) j l further

  pub behind_rises : (sort : LexemeSort) → SaysOf sort h (run_for sort h l) x
      → KeysRise (suc l.number) j (possible_keys (behind o sort x cut g h (run_for sort h l)))
  behind_rises TextEnd s = forgotten
  behind_rises StartMark s = forgotten
  behind_rises EndMark s = forgotten
  behind_rises DirectiveSign s = forgotten
  behind_rises Unprintable s = absurd s
  behind_rises (Placed (OpenSign bracket)) s = noded_rises false h l j (past (ap is_end_kind s.is)) r
  behind_rises (Placed (CloseSign bracket)) s = dropped_rises (suc l.number) j l.brackets l.key further
  behind_rises (Placed CommaSign) s = forgotten
  behind_rises (Placed DashSign) s = forgotten
  behind_rises (Placed QuestionSign) s = question_rises (suc l.number) j h l (is_in_flow l) further
  behind_rises (Placed ColonSign) s = colon_rises (suc l.number) j h l (is_in_flow l) (top_key l) further
  behind_rises (Placed AliasSign) s = noded_rises false h l j (past (ap is_end_kind s.1.is)) r
  behind_rises (Placed AnchorSign) s = noded_rises true h l j (past (ap is_end_kind s.1.is)) r
  behind_rises (Placed TagSign) s = noded_rises true h l j (past (ap is_end_kind s.2.is)) r
  behind_rises (Placed (BlockSign literal)) s = noded_rises false h l j (past (ap is_end_kind s.2.is)) r
  behind_rises (Placed (QuoteSign single)) s = noded_rises false h l j (past (ap is_end_kind s.2.is)) r
  behind_rises (Placed PlainSign) s = noded_rises false h l j (past (ap is_end_kind s.2.is)) r
  behind_rises (Placed StrayMark) s = absurd s
  behind_rises (Placed NoSign) s = absurd s

-- only the end of the text goes no further
end_or_on : (o : OptionsData) (ended : Bool) (sort : LexemeSort) (h : Here) (l : Laid) (x : Lexeme) (notes : List Item)
    (after : ReaderState) → SaysOf sort h l x → Given o ended sort h l (OfLexeme x ∷ notes) after
    → (is_end_kind x.kind ≡ false) ⊎ (after.here ≡ h)
end_or_on o ended TextEnd h l x [] after s p = inr p.0.0.reaches
end_or_on o ended TextEnd h l x (i ∷ is) after s p = absurd p
end_or_on o ended StartMark h l x notes after s p = inl (ap is_end_kind s.0.is)
end_or_on o ended EndMark h l x notes after s p = inl (ap is_end_kind s.0.is)
end_or_on o ended DirectiveSign h l x notes after s p = inl (ap is_end_kind s.1.is)
end_or_on o ended Unprintable h l x notes after s p = absurd s
end_or_on o ended (Placed (OpenSign bracket)) h l x notes after s p = inl (ap is_end_kind s.is)
end_or_on o ended (Placed (CloseSign bracket)) h l x notes after s p = inl (ap is_end_kind s.0.is)
end_or_on o ended (Placed CommaSign) h l x notes after s p = inl (ap is_end_kind s.is)
end_or_on o ended (Placed DashSign) h l x notes after s p = inl (ap is_end_kind s.0.is)
end_or_on o ended (Placed QuestionSign) h l x notes after s p = inl (ap is_end_kind s.0.is)
end_or_on o ended (Placed ColonSign) h l x notes after s p = inl (ap is_end_kind s.0)
end_or_on o ended (Placed AliasSign) h l x notes after s p = inl (ap is_end_kind s.1.is)
end_or_on o ended (Placed AnchorSign) h l x notes after s p = inl (ap is_end_kind s.1.is)
end_or_on o ended (Placed TagSign) h l x notes after s p = inl (ap is_end_kind s.2.is)
end_or_on o ended (Placed (BlockSign literal)) h l x notes after s p = inl (ap is_end_kind s.2.is)
end_or_on o ended (Placed (QuoteSign single)) h l x notes after s p = inl (ap is_end_kind s.2.is)
end_or_on o ended (Placed PlainSign) h l x notes after s p = inl (ap is_end_kind s.2.is)
end_or_on o ended (Placed StrayMark) h l x notes after s p = absurd s
end_or_on o ended (Placed NoSign) h l x notes after s p = absurd s

-- ---- all of a text

abbrev Rises : ReaderState → Type 0
Rises s = KeysRise s.laid.number s.here.place.index (possible_keys s.laid)

agrees_rise : (a b : Laid) (i : ℕ) → Agrees a b → KeysRise b.number i (possible_keys b)
    → KeysRise a.number i (possible_keys a)
agrees_rise a b i p r = subst (λ n. KeysRise n i (possible_keys a)) (sym p.number)
    (subst (KeysRise b.number i) (sym (keys_as a b p)) r)

closed_rise : (sort : LexemeSort) (h : Here) (l : Laid) (i : ℕ) → KeysRise l.number i (possible_keys l)
    → KeysRise (closed_for sort h l).number i (possible_keys (closed_for sort h l))
closed_rise sort h l i r =
    let e = ap₂ (λ bs key. keys_inside bs (and_possible key [])) (closed_brackets sort h l) (closed_key sort h l) in
    subst (λ n. KeysRise n i (possible_keys (closed_for sort h l))) (sym (closed_held sort h l).0)
    (subst (KeysRise l.number i) (sym e) r)

reads_rise : (o : OptionsData) {s after : ReaderState} {items : List Item} → Reads o s items after → Rises s
    → Rises after
reads_rise o {s = s} (of_comment at g k) r =
    let i = comment_on g k in
    freshened_rise o (mark_of at.here) at.laid at.laid.number at.here.place.index
    (rise_more at.laid.number at.laid.number s.here.place.index at.here.place.index (possible_keys at.laid)
    (omega arith) (omega (arith, i)) (agrees_rise at.laid s.laid s.here.place.index (gap_agrees g) r))
reads_rise o {s = s} (of_lexeme {items = items} at behind sort comes given keys) r =
    let f = freshened o at in
    let l = closed_for sort f.here f.laid in
    let i = gap_on comes.gap in
    let front : KeysRise at.laid.number at.here.place.index (possible_keys at.laid) =
    rise_more at.laid.number at.laid.number s.here.place.index at.here.place.index (possible_keys at.laid) (omega arith)
    i (agrees_rise at.laid s.laid s.here.place.index (gap_agrees comes.gap) r) in
    let closed : KeysRise l.number at.here.place.index (possible_keys l) = closed_rise sort f.here f.laid
    at.here.place.index (freshened_rise o (mark_of at.here) at.laid at.laid.number at.here.place.index front) in
    let t = telling o (ends_column_by sort f) f.here _ sort items behind given.1 in
    let m = lexeme_moved o sort f.here l t.lexeme t.cut t.reached behind.laid t.told t.says t.leaves in
    let past : is_end_kind t.lexeme.kind ≡ false
    → at.here.place.index < behind.here.place.index = λ more. lexeme_on o s at behind sort items comes given
    (ap is_end t.are ∙ more) in
    let ends = end_or_on o (ends_column_by sort f) sort f.here (in_front sort f.here f.laid) t.lexeme
    (note_items t.note) behind t.says (subst
    (λ (is : List Item). Given o (ends_column_by sort f) sort f.here (in_front sort f.here f.laid) is behind) t.are
    given.1) in
    let on : at.here.place.index ≤ behind.here.place.index = elim ends [
      | inl e ↦ (let p = past e in omega (arith, p))
      | inr e ↦
          (let p = ap (λ (h : Here). h.place.index) e in omega (arith, p))
    ] in
    let left = behind_rises o f.here l t.lexeme t.cut t.reached behind.here.place.index on past closed sort t.says in
    let next : KeysRise behind.laid.number behind.here.place.index (possible_keys behind.laid) =
    subst (λ n. KeysRise n behind.here.place.index (possible_keys behind.laid)) (sym m.next)
    (subst (KeysRise (suc l.number) behind.here.place.index) (sym (keys_as behind.laid _ t.leaves)) left) in
    freshened_rise o (mark_of behind.here) behind.laid behind.laid.number behind.here.place.index next

reached_rise : (o : OptionsData) {s t : ReaderState} {items : List Item} → Reached o s items t → Rises s → Rises t
reached_rise o stops r = r
reached_rise o (goes_on next items more read last rest e) r = reached_rise o rest (reads_rise o read r)

pub keys_rise : (o : OptionsData) (h : Here) (items : List Item) (t : ReaderState) → Reached o (reader_start h) items t
    → KeysRise t.laid.number t.here.place.index (possible_keys t.laid)
keys_rise o h items t r = reached_rise o r tt
