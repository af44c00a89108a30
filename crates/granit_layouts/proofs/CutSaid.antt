-- What a comment cut short is said of the last lexeme and the text behind it.
use Rattle.std.proofs.Common.{◌≡◌, ℕ, ◌+◌, ◌==◌, ◌&&◌, not, Bool, true, false, List, [], ◌∷◌, ◌++◌, length, drop}
use Rattle.std.proofs.Common.{Option, Some, None, refl, sym, ap, ◌∙◌, subst, arith, append_assoc}
use Rattle.std.proofs.lemmas.List.{append-nil}
use Rattle.std.specs.Prelude.{if◌then◌else◌}
use Rattle.granit_answers.proofs.CutSaid as answers
use Rattle.granit_answers.specs.CutShort.{LastCut}
use Rattle.granit_base.specs.Classes.{is_gap}
use Rattle.granit_base.specs.Place.{Mark, first, ends_line}
use Rattle.granit_base.specs.Written.{Written}
use Rattle.granit_base.specs.declared.style.ScalarStyle.TheVariants.{Plain}
use Rattle.granit_error.specs.OptionsData.{OptionsData}
use Rattle.granit_language.specs.Allowed.{LayoutIs}
use Rattle.granit_language.specs.Before.{freshened, in_front}
use Rattle.granit_language.specs.HeldSaid.{has_ended}
use Rattle.granit_language.specs.OpenColumns.{latest, is_outer_kind}
use Rattle.granit_language.specs.Reached.{ends_column_by, Reads, of_comment, of_lexeme, Reached, stops, goes_on}
use Rattle.granit_language.specs.Standing.{GapStands, in_front_of_comment, Given, PlainLexeme}
use Rattle.granit_language.specs.Standing.{QuestionStands}
use Rattle.granit_lexemes.specs.Comment.{CommentRead}
use Rattle.granit_lexemes.specs.Here.{Here, mark_of, start_of, step}
use Rattle.granit_lexemes.specs.LayoutData.{LayoutData}
use Rattle.granit_lexemes.specs.Lexeme.{LexemeKind, Scalar, Lexeme, Item, OfLexeme}
use Rattle.granit_lexemes.specs.PlainExtent.{Separation, separation_text, IsSeparation, is_cut, over}
use Rattle.granit_lexemes.specs.PlainExtent.{behind_of}
use Rattle.granit_lexemes.specs.declared.layout.OpenBracket.{OpenBracket}
use Rattle.granit_lexemes.specs.PlainScalar.{PlainRead}
use Rattle.granit_lexemes.proofs.HereLemmas.{not_empty, stepped_text}
use Rattle.granit_machine.specs.Laid.{Laid, is_in_flow, is_nonempty}
use Rattle.granit_machine.specs.LexemeSort.{OpenSign, CloseSign, CommaSign, DashSign, QuestionSign, ColonSign}
use Rattle.granit_machine.specs.LexemeSort.{AliasSign, AnchorSign, TagSign, BlockSign, QuoteSign, PlainSign, StrayMark}
use Rattle.granit_machine.specs.LexemeSort.{NoSign, LexemeSort, TextEnd, StartMark, EndMark, DirectiveSign}
use Rattle.granit_machine.specs.LexemeSort.{Unprintable, Placed}
use Rattle.granit_machine.specs.NodeLexemes.{note_items}
use Rattle.granit_machine.specs.PossibleKeys.{fresh_bracket}
use Rattle.granit_machine.specs.Reader.{is_end}
use Rattle.granit_machine.specs.ReaderState.{ReaderState, reader_start}
use Rattle.granit_places.proofs.ColumnsLaw.{front_flow}
use Rattle.granit_places.proofs.ColumnsWhole.{latest_noted, latest_joined}
use Rattle.granit_places.proofs.Counting.{At, start_at, to_over, place_index}
use Rattle.granit_places.proofs.PlacesLaw.{gap_passes, given_places}
use Rattle.granit_places.proofs.Telling.{gap_agrees, telling}
use Rattle.granit_scalars.proofs.PlainSpelling.{separation_gap, same_front, same_separation}
use Rattle.granit_scalars.proofs.QuotedEscapes.{over_text}
use Rattle.granit_declared.proofs.FieldsSaid.{mapped_nonempty}
use Rattle.granit_layouts.proofs.LayoutSaid.{layout_said, one_layout}
use Rattle.granit_declared.proofs.OuterWhole.{end_read}
use Rattle.granit_before.specs.CutText.{LastCutsShort}
use Rattle.granit_before.specs.ScalarLayout.{ScalarLayout}

-- ---- the last lexeme, where it is a plain scalar

-- no lexeme of another sort is one
data IsPlain (o : OptionsData) (ends : Bool) (sort : LexemeSort) (h : Here) (l : Laid) (x : Lexeme)
    (after : ReaderState) : Type 0 where
  other : ((value : Written) → x.kind ≡ Scalar Plain value → ⊥) → IsPlain o ends sort h l x after
  plain :
      (cut : Option Mark) → PlainLexeme o ends h l x cut after.here → after.laid.cut ≡ cut →
      is_outer_kind x.kind ≡ false → sort ≡ Placed PlainSign → IsPlain o ends sort h l x after

module _ (o : OptionsData) (ends : Bool) (h : Here) (l : Laid) (after : ReaderState) (x : Lexeme)
    (notes : List Item) where
  same_head : (y : Lexeme) (is : List Item) → ◌≡◌ {A = List Item} (OfLexeme y ∷ is) (OfLexeme x ∷ notes) → y ≡ x
  same_head y is e = cc (e)

  not_plain : {sort : LexemeSort} (y : Lexeme) (is : List Item) (kind : LexemeKind) →
      ◌≡◌ {A = List Item} (OfLexeme y ∷ is) (OfLexeme x ∷ notes) → y.kind ≡ kind →
      ((value : Written) → kind ≡ Scalar Plain value → ⊥) → IsPlain o ends sort h l x after
  not_plain y is kind e f n =
      other (λ value k. n value (sym f ∙ (ap (λ (y : Lexeme). y.kind) (same_head y is e) ∙ k)))

  kind_in : {a b : Lexeme} → a ≡ b → a.kind ≡ b.kind
  kind_in e = ap (λ (y : Lexeme). y.kind) e

  is_plain : (sort : LexemeSort) (items : List Item) → items ≡ OfLexeme x ∷ notes → Given o ends sort h l items after →
      IsPlain o ends sort h l x after
  is_plain (Placed (QuoteSign true)) items e p =
      not_plain _ (note_items p.note) _ (sym p.gives ∙ e) refl (λ value k. absurd cc)
  is_plain (Placed (QuoteSign false)) items e p =
      not_plain _ (note_items p.note) _ (sym p.gives ∙ e) refl (λ value k. absurd cc)
  is_plain TextEnd (OfLexeme y ∷ []) e p = not_plain y [] _ e (kind_in p.0.0.is) (λ value k. absurd cc)
  is_plain StartMark (OfLexeme y ∷ []) e p = not_plain y [] _ e (kind_in p.0.0.is) (λ value k. absurd cc)
  is_plain EndMark (OfLexeme y ∷ []) e p = not_plain y [] _ e (kind_in p.0.0.is) (λ value k. absurd cc)
  is_plain DirectiveSign (OfLexeme y ∷ []) e p = not_plain y [] _ e (kind_in p.0.is) (λ value k. absurd cc)
  is_plain Unprintable (OfLexeme y ∷ []) e p = absurd p.0
  is_plain (Placed (OpenSign bracket)) (OfLexeme y ∷ []) e p =
      not_plain y [] _ e (kind_in p.0.0.is) (λ value k. absurd cc)
  is_plain (Placed (CloseSign bracket)) (OfLexeme y ∷ []) e p =
      not_plain y [] _ e (kind_in p.0.0.is) (λ value k. absurd cc)
  is_plain (Placed CommaSign) (OfLexeme y ∷ []) e p = not_plain y [] _ e (kind_in p.0.0.is) (λ value k. absurd cc)
  is_plain (Placed DashSign) (OfLexeme y ∷ []) e p = not_plain y [] _ e (kind_in p.0.is) (λ value k. absurd cc)
  is_plain (Placed QuestionSign) (OfLexeme y ∷ []) e p = on (is_in_flow l) p.0
    where
      on : (v : Bool) → QuestionStands o ends h l y after.here v →
          IsPlain o ends (Placed QuestionSign) h l x after
      on true p = not_plain y [] _ e (kind_in p.is) (λ value k. absurd cc)
      on false p = not_plain y [] _ e (kind_in p.is) (λ value k. absurd cc)
  is_plain (Placed ColonSign) (OfLexeme y ∷ []) e p = not_plain y [] _ e (kind_in p.0.is) (λ value k. absurd cc)
  is_plain (Placed AliasSign) (OfLexeme y ∷ []) e p = not_plain y [] _ e (kind_in p.0.is) (λ value k. absurd cc)
  is_plain (Placed AnchorSign) (OfLexeme y ∷ []) e p = not_plain y [] _ e (kind_in p.0.is) (λ value k. absurd cc)
  is_plain (Placed TagSign) (OfLexeme y ∷ []) e p = not_plain y [] _ e (kind_in p.0.is) (λ value k. absurd cc)
  is_plain (Placed (BlockSign true)) (OfLexeme y ∷ []) e p =
      not_plain y [] _ e (kind_in p.0.is) (λ value k. absurd cc)
  is_plain (Placed (BlockSign false)) (OfLexeme y ∷ []) e p =
      not_plain y [] _ e (kind_in p.0.is) (λ value k. absurd cc)
  is_plain (Placed PlainSign) (OfLexeme y ∷ []) e p =
      subst (λ (y : Lexeme). IsPlain o ends (Placed PlainSign) h l y after) (same_head y [] e)
      (plain p.0 p.1 (ap (λ (l : Laid). l.cut) p.2) (ap is_outer_kind (kind_in p.1.is)) refl)
  is_plain (Placed StrayMark) (OfLexeme y ∷ []) e p = absurd p.0
  is_plain (Placed NoSign) (OfLexeme y ∷ []) e p = absurd p.0
  is_plain sort items e p = absurd p

-- ---- what stands behind it

pub record PlainThere (o : OptionsData) (text : List ℕ) (before : List Lexeme) (x : Lexeme) (cut : Option Mark) :
    Type 0 where
  pub tail : Separation
  pub rest : List ℕ
  pub behind : drop x.end.place.index text ≡ separation_text tail ++ rest
  pub separates : IsSeparation tail
  pub stops : is_gap (first rest) ≡ false
  pub layout : LayoutData
  pub layout_is : ScalarLayout o text before x layout
  pub mark : Mark
  pub cut_is : cut ≡ (if not layout.in_flow && is_cut layout tail rest then Some mark else None)
  pub place : mark.place.index ≡ x.end.place.index + length (separation_text tail)

abbrev pub LastPlain : OptionsData → List ℕ → List Lexeme → Option Mark → Type 0
LastPlain o text [] cut = Unit {0}
LastPlain o text (x ∷ xs) cut = (value : Written) → x.kind ≡ Scalar Plain value → PlainThere o text xs x cut

step_index : (h : Here) (c : ℕ) (t : List ℕ) → h.unread.text ≡ c ∷ t → (step h).place.index ≡ h.place.index + 1
unfolding step
step_index h c t e =
    let some : (length h.unread.text == 0) ≡ false = ap (λ (l : List ℕ). length l == 0) e ∙ not_empty c t in
    rw some (place_index (ends_line h.unread.text) h.place)

over_index : (cs more : List ℕ) (h : Here) → h.unread.text ≡ cs ++ more →
    (over cs h).place.index ≡ h.place.index + length cs
over_index [] more h e = let n = h.place.index in omega arith
over_index (c ∷ cs) more h e =
    let p = over_index cs more (step h) (stepped_text h c (cs ++ more) e) in
    let q = step_index h c (cs ++ more) e in
    omega (arith, p, q)

module _ (o : OptionsData) (text : List ℕ) where
  plain_there : (ends : Bool) (h : Here) (l : Laid) (before : List Lexeme) (x : Lexeme) (cut : Option Mark)
      (after : ReaderState) → At text h → (p : PlainLexeme o ends h l x cut after.here) → after.laid.cut ≡ cut →
      ScalarLayout o text before x p.layout → PlainThere o text before x after.laid.cut
  plain_there ends h l before x cut after place p cuts is =
      let a = p.answers in
      let sep = separation_text a.tail in
      let whole = a.stands.extent.whole in
      let q = (to_over text a.source h place).place in
      let end : x.end ≡ mark_of (over a.source h) = ap (λ (y : Lexeme). y.end) p.is
      ∙ ap (λ (r : PlainRead). r.source.end) a.answer in
      let at : x.end.place.index ≡ (over a.source h).place.index = ap (λ (m : Mark). m.place.index) end in
      let behind = over_text a.source (sep ++ a.rest) h whole in
      record {
        tail = a.tail;
        rest = a.rest;
        behind =
            ap (λ i. drop i text) (at ∙ q.here.mark.index) ∙ (sym q.here.text ∙ behind);
        separates = a.stands.separation;
        stops = a.stands.behind;
        layout = p.layout;
        layout_is = is;
        mark = mark_of (behind_of h a.source a.tail);
        cut_is =
            cuts ∙ (p.cuts
            ∙ ap (λ (r : PlainRead). r.cut_by_comment) a.answer);
        place =
            over_index sep a.rest (over a.source h) behind
            ∙ ap (λ i. i + length sep) (sym at);
      }

  -- reads one by one, none of the end
  data Chain : ReaderState → List Item → ReaderState → Type 0 where
    no_more : {s : ReaderState} → Chain s [] s
    one_more :
        {s t : ReaderState} {all : List Item} (next : ReaderState) (items more : List Item) → Reads o s items next →
        is_end items ≡ false → Chain next more t → all ≡ items ++ more → Chain s all t

  chained : {s t : ReaderState} {items : List Item} → Chain s items t → Reached o s items t
  chained no_more = stops
  chained (one_more next items more r n c e) = goes_on next items more r (λ y. absurd cc) (chained c) e

  chain_on : {s t u : ReaderState} {items more : List Item} → Chain s items t → Reads o t more u →
      is_end more ≡ false → Chain s (items ++ more) u
  chain_on {u = u} {more = more} no_more r n = one_more u more [] r n no_more (sym (append-nil more))
  chain_on {more = last} (one_more next items more r n c e) q m =
      one_more next items (more ++ last) r n (chain_on c q m)
      (ap (λ (is : List Item). is ++ last) e ∙ append_assoc items more last)

  -- behind a lexeme
  last_read : {s at : ReaderState} (xs : List Item) → Reached o (reader_start (start_of text)) xs s →
      GapStands o s.here s.laid None at → (ends : Bool) (sort : LexemeSort) (x : Lexeme) (after : ReaderState) →
      x.start ≡ mark_of at.here → x.in_flow ≡ is_in_flow s.laid → At text at.here →
      IsPlain o ends sort at.here (in_front sort at.here (freshened o at).laid) x after →
      LastPlain o text (x ∷ latest xs []) after.laid.cut
  last_read xs r gap ends sort x after start flow place (other n) = λ value k. absurd (n value k)
  last_read {s = s} {at = at} xs r gap ends sort x after start flow place (plain cut p cuts outer same) =
      λ value k. plain_there ends at.here _ (latest xs []) x cut after place p cuts
      (layout_said o text xs s at PlainSign x p.layout r gap start flow outer
      (subst (λ (sort : LexemeSort). LayoutIs o at.here.place.column (in_front sort at.here (freshened o at).laid)
      p.layout) same p.told))

  note_keeps : {h : Here} {l : Laid} {c : CommentRead} {t : ReaderState} → GapStands o h l (Some c) t →
      t.laid.cut ≡ l.cut
  note_keeps (in_front_of_comment at end g p) = refl

  read_last : {s after : ReaderState} {items : List Item} (xs : List Item) →
      Reached o (reader_start (start_of text)) xs s → Reads o s items after → At text s.here →
      LastPlain o text (latest xs []) s.laid.cut →
      LastPlain o text (latest items (latest xs [])) after.laid.cut × At text after.here
  read_last xs r (of_comment at g k) place w =
      (subst (LastPlain o text (latest xs [])) (sym (note_keeps g)) w, (gap_passes text g place).further.place)
  read_last {s = s} xs r (of_lexeme {items = items} at behind sort comes given keys) place w =
      let f = freshened o at in
      let h = at.here in
      let l = in_front sort h f.laid in
      let t = telling o (ends_column_by sort f) h l sort items behind given.1 in
      let p = (gap_passes text comes.gap place).further in
      let ls = latest xs [] in
      let inside : is_in_flow f.laid ≡ is_in_flow s.laid =
      mapped_nonempty (fresh_bracket o (mark_of at.here)) at.laid.brackets
      ∙ ap (λ (bs : List OpenBracket). is_nonempty bs) (gap_agrees comes.gap).brackets in (
        subst (λ (ys : List Lexeme). LastPlain o text ys behind.laid.cut)
            (sym (ap (λ (is : List Item). latest is ls) t.are ∙ latest_noted t.lexeme t.note ls))
            (last_read xs r comes.gap (ends_column_by sort f) sort t.lexeme behind t.told.start
            (t.told.flow ∙ (front_flow sort h f.laid ∙ inside)) p.place
            (is_plain o (ends_column_by sort f) h l behind t.lexeme (note_items t.note) sort items t.are given.1)),
        ((given_places text o _ sort h _ items behind given.1).passes p.place).further.place,
      )

  last_reach : {s t : ReaderState} {items : List Item} (xs : List Item) → Chain (reader_start (start_of text)) xs s →
      Reached o s items t → At text s.here → LastPlain o text (latest xs []) s.laid.cut →
      has_ended (latest items (latest xs [])) ≡ false → LastPlain o text (latest items (latest xs [])) t.laid.cut
  last_reach xs c stops place w n = w
  last_reach {t = t} xs c (goes_on next items more read last rest e) place w n =
      let ls = latest xs [] in
      let same = ap (λ (is : List Item). latest is ls) e ∙ latest_joined items more ls in
      let step = read_last xs (chained c) read place w in
      subst (λ (ys : List Lexeme). LastPlain o text ys t.laid.cut) (sym same)
      (on (is_end items) refl (sym (ap has_ended same) ∙ n)
      (λ y n. subst (λ (ys : List Lexeme). LastPlain o text (latest more ys) t.laid.cut) (latest_joined xs items [])
      (last_reach (xs ++ items) (chain_on c read y) rest step.1
      (subst (λ (ys : List Lexeme). LastPlain o text ys next.laid.cut) (sym (latest_joined xs items [])) step.0)
      (ap (λ (ys : List Lexeme). has_ended (latest more ys)) (latest_joined xs items []) ∙ n))))
    where
      on : (v : Bool) → is_end items ≡ v → has_ended (latest more (latest items (latest xs []))) ≡ false →
          (is_end items ≡ false → has_ended (latest more (latest items (latest xs []))) ≡ false →
          LastPlain o text (latest more (latest items (latest xs []))) t.laid.cut) →
          LastPlain o text (latest more (latest items (latest xs []))) t.laid.cut
      on true y n g =
          absurd (let z = end_read o text (latest xs []) read y in
          let u = sym (ap (λ (more : List Item). has_ended (latest more (latest items (latest xs [])))) (last y)) ∙ n in
          let q = sym z ∙ u in cc)
      on false y n g = g y n

  last_plain : (items : List Item) (t : ReaderState) → Reached o (reader_start (start_of text)) items t →
      has_ended (latest items []) ≡ false → LastPlain o text (latest items []) t.laid.cut
  last_plain items t r n = last_reach [] no_more r (start_at text) tt n

  -- ---- both ways

  some_cut : (a b : Bool) (mark m : Mark) → ◌≡◌ {A = Option Mark} (if not a && b then Some mark else None) (Some m) →
      (a ≡ false) × (b ≡ true) × (mark ≡ m)
  some_cut true b mark m e = absurd cc
  some_cut false true mark m e = (refl, refl, cc (e))
  some_cut false false mark m e = absurd cc

  cut_some : (a b : Bool) (mark : Mark) → a ≡ false → b ≡ true →
      ◌≡◌ {A = Option Mark} (if not a && b then Some mark else None) (Some mark)
  cut_some true b mark e f = absurd cc
  cut_some false true mark e f = refl
  cut_some false false mark e f = absurd cc

  cut_text : (xs : List Lexeme) (cut : Option Mark) (m : Mark) → LastPlain o text xs cut → cut ≡ Some m →
      LastCut xs m → LastCutsShort o text xs m.place.index
  cut_text [] cut m w e c = c
  cut_text (x ∷ xs) cut m w e c =
      let q = w c.read.text c.kind in
      let s = some_cut q.layout.in_flow (is_cut q.layout q.tail q.rest) q.mark m (sym q.cut_is ∙ e) in
      record {
        value = c.read.text;
        kind = c.kind;
        outside = sym q.layout_is.flow ∙ s.0;
        tail = q.tail;
        rest = q.rest;
        behind = q.behind;
        separates = q.separates;
        stops = q.stops;
        layout = q.layout;
        layout_is = q.layout_is;
        cut = s.1;
        place = sym (ap (λ (m : Mark). m.place.index) s.2) ∙ q.place;
      }

  text_cut : (xs : List Lexeme) (cut : Option Mark) (i : ℕ) → LastPlain o text xs cut → LastCutsShort o text xs i →
      (m : Mark) × (cut ≡ Some m) × (m.place.index ≡ i)
  text_cut [] cut i w c = absurd c
  text_cut (x ∷ xs) cut i w c =
      let q = w c.value c.kind in
      let gaps = same_front (separation_text c.tail) (separation_text q.tail) c.rest q.rest (sym c.behind ∙ q.behind)
      (separation_gap c.tail c.separates) (separation_gap q.tail q.separates) c.stops q.stops in
      let tails = same_separation c.tail q.tail c.separates q.separates gaps.0 in
      let layouts = one_layout o text xs x c.layout q.layout c.layout_is q.layout_is in
      let cut_there : is_cut q.layout q.tail q.rest ≡ true =
      subst (λ (rest : List ℕ). is_cut q.layout q.tail rest ≡ true) gaps.1
      (subst (λ (tail : Separation). is_cut q.layout tail c.rest ≡ true) tails
      (subst (λ (d : LayoutData). is_cut d c.tail c.rest ≡ true) layouts c.cut)) in (
        q.mark,
        q.cut_is ∙ cut_some q.layout.in_flow (is_cut q.layout q.tail q.rest) q.mark
            (q.layout_is.flow ∙ c.outside) cut_there,
        q.place
            ∙ (ap (λ (cs : List ℕ). x.end.place.index + length cs) (sym gaps.0) ∙ sym c.place),
      )

  pub cut_said : (items : List Item) (t : ReaderState) (m : Mark) → Reached o (reader_start (start_of text)) items t →
      has_ended (latest items []) ≡ false → t.laid.cut ≡ Some m → LastCutsShort o text (latest items []) m.place.index
  cut_said items t m r n e =
      cut_text (latest items []) t.laid.cut m (last_plain items t r n) e
      (answers.cut_said o (start_of text) items t m r e)

  pub cut_held : (items : List Item) (t : ReaderState) (i : ℕ) → Reached o (reader_start (start_of text)) items t →
      has_ended (latest items []) ≡ false → LastCutsShort o text (latest items []) i →
      (m : Mark) × (t.laid.cut ≡ Some m) × (m.place.index ≡ i)
  cut_held items t i r n c = text_cut (latest items []) t.laid.cut i (last_plain items t r n) c
