-- A name of JSON and the colon behind it are read: the colon finds its key.
use Rattle.std.proofs.Common.{Bool, List, Option, [], ap, arith, false, length, refl, subst, sym, true, ℕ, ◌&&◌, ◌+◌}
use Rattle.std.proofs.Common.{◌++◌, ◌-◌, ◌==◌, ◌||◌, ◌∙◌, ◌∷◌, ◌≡◌, ◌≤◌}
use Rattle.std.proofs.lemmas.List.{length-append}
use Rattle.std.specs.Prelude.{None, Some, if◌then◌else◌}
use Rattle.granit_base.specs.Classes.{is_blank, is_blank_or_breakz, is_break, is_flow, is_gap, is_printable}
use Rattle.granit_base.specs.Place.{first}
use Rattle.granit_base.specs.Written.{Written}
use Rattle.granit_base.specs.declared.style.ScalarStyle.TheVariants.{DoubleQuoted}
use Rattle.granit_canonical_steps.proofs.Calm.{Calm, Mild, calm_behind, calm_closed, calm_fresh, calm_gap, gap_opener}
use Rattle.granit_canonical_steps.proofs.Calm.{none_overdue, no_cut_fits}
use Rattle.granit_canonical_steps.proofs.Nodes.{quote_starts}
use Rattle.granit_canonical_steps.proofs.Places.{Before, Held, Starts, gap_stops, gap_to, held_on, past_all}
use Rattle.granit_canonical_steps.proofs.Taking.{begins_text, begins_with, is_mark, LexemeRead, mark_starts}
use Rattle.granit_canonical_steps.specs.Canonical.{spot, stretch}
use Rattle.granit_error.specs.OptionsData.{OptionsData}
use Rattle.granit_json_scalars.proofs.Gaps.{tail_past}
use Rattle.granit_json_scalars.proofs.Named.{Named, named_done, named_due, named_flow, named_fresh, named_key}
use Rattle.granit_json_scalars.proofs.Named.{named_noded}
use Rattle.granit_json_scalars.proofs.Named.{new_key_low, none_below, not_stale}
use Rattle.granit_json_scalars.proofs.Open.{open_inside, open_tabs}
use Rattle.granit_json_scalars.proofs.Quoted.{at_mark, before_string, quotes_here}
use Rattle.granit_json_scalars.specs.JsonEvents.{string_text}
use Rattle.granit_json_scalars.specs.JsonScalars.{IsString}
use Rattle.granit_language.specs.Allowed.{MayPrefix}
use Rattle.granit_language.specs.Before.{behind, behind_colon, freshened, in_front, last_of_colon}
use Rattle.granit_language.specs.Begins.{Begins, colon}
use Rattle.granit_language.specs.Reached.{ends_column_by, of_lexeme}
use Rattle.granit_language.specs.Standing.{ColonFits, in_front_of_lexeme, key_start}
use Rattle.granit_language.specs.Stretch.{TailIf}
use Rattle.granit_lexemes.proofs.HereLemmas.{stepped_text}
use Rattle.granit_lexemes.specs.Gap.{Each, IsGap}
use Rattle.granit_lexemes.specs.Here.{Here, mark_of, next_char, step}
use Rattle.granit_lexemes.specs.Lexeme.{Colon, Lexeme, Scalar}
use Rattle.granit_lexemes.specs.PlainExtent.{over}
use Rattle.granit_lexemes.specs.declared.layout.Bracket.{Bracket}
use Rattle.granit_lexemes.specs.declared.layout.Bracket.TheVariants.{Curly}
use Rattle.granit_lexemes.specs.declared.layout.LastLexeme.TheVariants.{Adjacent}
use Rattle.granit_lexemes.specs.declared.layout.PossibleKey.{PossibleKey}
use Rattle.granit_lexemes.specs.declared.layout.OpenColumn.{OpenColumn}
use Rattle.granit_machine.specs.Columns.{closed_at, up_to_column}
use Rattle.granit_machine.specs.Gaps.{behind_gap}
use Rattle.granit_machine.specs.Laid.{Laid, is_adjacent, is_in_flow, is_nonempty, is_opener}
use Rattle.granit_machine.specs.LexemeSort.{ColonSign, Placed, QuoteSign}
use Rattle.granit_machine.specs.PossibleKeys.{is_stale, new_key, start_of_key, top_key}
use Rattle.granit_machine.specs.ReaderState.{ReaderState, sign_lexeme}

-- ---- the name

-- a name that is read, with all that stands up to its colon
pub record NameRead (o : OptionsData) (x from to rest : List ℕ) (text : Written) (bs : List Bracket)
    (s : ReaderState) : Type 0 where
  pub read : LexemeRead o (Scalar DoubleQuoted text) None s
  pub open read use *
  pub key : PossibleKey
  pub indent_is : lexeme.indent ≡ None
  pub shown_is : lexeme.shown ≡ stretch x from to
  pub number_is : lexeme.number ≡ key.number
  pub held : Held x after.here
  pub left : after.here.unread.text ≡ rest
  pub named : Named bs key after.laid
  pub low : key.is_low ≡ false
  pub fresh : is_stale o true (mark_of after.here) key ≡ false
  pub last : after.laid.last ≡ Adjacent

spot_index : (x rest : List ℕ) → (spot x rest).place.index ≡ length x - length rest
spot_index x rest = refl

colon_mark : is_mark 0x3A ≡ true
colon_mark = refl

module _ (o : OptionsData) (x : List ℕ) where
  -- how far a name's colon stands from it
  near_enough : (source g more : List ℕ) (h at : Here) → Held x h → Held x at
      → h.unread.text ≡ 0x22 ∷ (source ++ 0x22 ∷ (g ++ 0x3A ∷ more)) → at.unread.text ≡ 0x3A ∷ more
      → length (0x22 ∷ (source ++ 0x22 ∷ g)) ≤ o.simple_key_max_lookahead
      → (mark_of at).place.index ≤ (mark_of h).place.index + o.simple_key_max_lookahead
  near_enough source g more h at held there e f limit =
      let a : held.index + length (0x22 ∷ (source ++ 0x22 ∷ (g ++ 0x3A ∷ more))) ≡ length x =
      sym (ap (λ (l : List ℕ). held.index + length l) e) ∙ held.sum in
      let b : there.index + length (0x3A ∷ more) ≡ length x =
      sym (ap (λ (l : List ℕ). there.index + length l) f) ∙ there.sum in
      let i : h.place.index ≡ held.index = held.counted.mark.index in
      let j : at.place.index ≡ there.index = there.counted.mark.index in
      omega (
        arith,
        a,
        b,
        i,
        j,
        limit,
        length-append source (0x22 ∷ (g ++ 0x3A ∷ more)),
        length-append g (0x3A ∷ more),
        length-append source (0x22 ∷ g),
      )

  pub reads_name : (bs : List Bracket) (source chars g more : List ℕ) (s : ReaderState) → IsString source chars
      → Each is_printable source → IsGap g → length (0x22 ∷ (source ++ 0x22 ∷ g)) ≤ o.simple_key_max_lookahead
      → Before x (0x22 ∷ (source ++ 0x22 ∷ (g ++ 0x3A ∷ more))) s.here → Calm (Curly ∷ bs) s.laid
      → is_opener s.laid.last ≡ true
      → NameRead o x (0x22 ∷ (source ++ 0x22 ∷ (g ++ 0x3A ∷ more))) (g ++ 0x3A ∷ more) (0x3A ∷ more)
      (string_text source chars) bs s
  reads_name bs source chars g more s is printable i limit b c f =
      let from = 0x22 ∷ (source ++ 0x22 ∷ (g ++ 0x3A ∷ more)) in
      let h = over b.gap s.here in
      let p = past_all x b.gap from s.here b.text b.held in
      let at : ReaderState = record { here = h; laid = behind_gap (is_nonempty b.gap) s.laid } in
      let calm = calm_gap (is_nonempty b.gap) (Curly ∷ bs) s.laid c in
      let t = freshened o at in
      let fresh = calm_fresh o (mark_of h) (Curly ∷ bs) at.laid calm in
      let closed = closed_at h.place.column t.laid in
      let quiet = calm_closed h.place.column (Curly ∷ bs) t.laid fresh in
      let n = named_noded h bs closed quiet (gap_opener (is_nonempty b.gap) s.laid.last ∙ f) in
      let key = new_key false (mark_of h) closed in
      let q = quotes_here o x source chars g (0x3A ∷ more) t is printable i (mark_starts 0x3A more colon_mark)
      (at_mark (named_flow bs key (before_string t) n) colon_mark) p.held p.text
      (record { columns = n.columns; cut = n.cut }) in
      let far = not_stale o (mark_of q.behind.here) key
      (near_enough source g more h q.behind.here p.held q.held p.text q.left limit) in
      let left : Named bs key q.behind.laid = record {
        mark = n.mark;
        around = n.around;
        brackets = q.brackets ∙ n.brackets;
        shape = n.shape;
        key = subst Mild (sym q.key) n.key;
        columns = q.columns ∙ n.columns;
        cut = q.cut;
      } in
      let st = quote_starts (source ++ 0x22 ∷ (g ++ 0x3A ∷ more)) in
      record {
        read = record {
          lexeme = q.lexeme;
          after = freshened o q.behind;
          reads = of_lexeme at q.behind (Placed (QuoteSign false))
              (record {
                gap = in_front_of_lexeme h (record {
                  gap = b.gap;
                  over = gap_to (MayPrefix s.laid) b.gap from s.here b.text b.is_gap;
                  stops = gap_stops (MayPrefix s.laid) from h p.text st;
                })
                    (ap (λ (l : List ℕ). first l == 0x23) p.text ∙ st.no_comment) (open_tabs o s.laid h c.columns)
                    (no_cut_fits s.laid h c.cut);
                keys = none_overdue o (Curly ∷ bs) at calm;
                begins = q.begins;
              })
              q.given (named_due o bs key q.behind left);
          kind_is = q.kind_is;
          key_is = q.key_is;
          tail_is = q.tail_is;
        };
        key = key;
        indent_is = q.indent_is;
        shown_is = q.shown_is;
        number_is = q.number_is;
        held = q.held;
        left = q.left;
        named = named_fresh o (mark_of q.behind.here) bs key q.behind.laid left far;
        low = new_key_low (mark_of h) closed quiet.columns;
        fresh = far;
        last = q.last;
      }

-- ---- the colon

pub record ColonRead (o : OptionsData) (x from rest : List ℕ) (bs : List Bracket) (key : PossibleKey)
    (s : ReaderState) : Type 0 where
  pub read : LexemeRead o Colon (Some (start_of_key key)) s
  pub open read use *
  pub before : Before x rest after.here
  pub calm : Calm (Curly ∷ bs) after.laid
  pub opener : is_opener after.laid.last ≡ false

parts_by : (a f b c : Bool) → f ≡ true → c ≡ true → (a || (f && (b || c))) ≡ true
parts_by true f b c p q = refl
parts_by false true true c p q = refl
parts_by false true false c p q = q
parts_by false false b c p q = absurd cc

colon_begins : (flow adjacent : Bool) (column : ℕ) (text : List ℕ) → flow ≡ true → adjacent ≡ true
    → Begins flow adjacent column (0x3A ∷ text) (Placed ColonSign)
unfolding is_printable is_break
colon_begins flow adjacent column text p q =
    begins_with flow adjacent column 0x3A text ColonSign refl refl refl refl
    (colon (parts_by (is_blank_or_breakz (first text)) flow (is_flow (first text)) adjacent p q))

-- what is read behind it: blanks where one follows
pub record After (x rest : List ℕ) (end : Here) : Type 0 where
  pub here : Here
  pub tail : TailIf (is_blank (next_char end)) end None here
  pub before : Before x rest here

after_sign : (x rest g : List ℕ) (end : Here) → IsGap g → Starts rest → Held x end → end.unread.text ≡ g ++ rest
    → After x rest end
after_sign x rest g end i st held e = by (is_blank (next_char end)) refl
  where
    by : (v : Bool) → is_blank (next_char end) ≡ v → After x rest end
    by true q =
        let k = tail_past x rest g end i st held e in record {
          here = k.tail.after;
          tail = subst (λ v. TailIf v end None k.tail.after) (sym q) k.tail.tail;
          before = k.tail.before;
        }
    by false q = record {
      here = end;
      tail = subst (λ v. TailIf v end None end) (sym q) (refl, refl);
      before = record { gap = g; held = held; text = e; is_gap = i };
    }

module _ (o : OptionsData) (x : List ℕ) where
  colon_left : (bs : List Bracket) (k : PossibleKey) (h : Here) (l : Laid) (v : Bool) (key : Option PossibleKey)
      → v ≡ true → key ≡ Some k → Named bs k l → Calm (Curly ∷ bs) (behind_colon v key h l)
  colon_left bs k h l v key p q n =
      subst (λ v. Calm (Curly ∷ bs) (behind_colon v key h l)) (sym p)
      (subst (λ (key : Option PossibleKey). Calm (Curly ∷ bs) (behind_colon true key h l)) (sym q)
      (named_done bs k l n))

  colon_fits : (bs : List Bracket) (k : PossibleKey) (h : Here) (l : Laid) (v : Bool) (key : Option PossibleKey)
      → v ≡ true → key ≡ Some k → Named bs k l → k.is_low ≡ false → ColonFits o v key h l
  colon_fits bs k h l v key p q n low =
      subst (λ v. ColonFits o v key h l) (sym p)
      (subst (λ (key : Option PossibleKey). ColonFits o true key h l) (sym q) (none_below h bs k l n low))

  colon_opener : (v : Bool) (key : Option PossibleKey) → is_opener (last_of_colon v key) ≡ false
  colon_opener true None = refl
  colon_opener true (Some k) = refl
  colon_opener false None = refl
  colon_opener false (Some k) = refl

  pub reads_colon : (bs : List Bracket) (k : PossibleKey) (g rest : List ℕ) (s : ReaderState) → IsGap g → Starts rest
      → Held x s.here → s.here.unread.text ≡ 0x3A ∷ (g ++ rest) → Named bs k s.laid → k.is_low ≡ false
      → is_stale o true (mark_of s.here) k ≡ false → s.laid.last ≡ Adjacent
      → ColonRead o x (0x3A ∷ (g ++ rest)) rest bs k s
  reads_colon bs k g rest s i st held e n low far last =
      let h = s.here in
      let from = 0x3A ∷ (g ++ rest) in
      let at : ReaderState = record { here = h; laid = behind_gap false s.laid } in
      let named : Named bs k at.laid = record {
        mark = n.mark;
        around = n.around;
        brackets = n.brackets;
        shape = n.shape;
        key = n.key;
        columns = n.columns;
        cut = refl;
      } in
      let t = freshened o at in
      let fresh = named_fresh o (mark_of h) bs k at.laid named far in
      let l = in_front (Placed ColonSign) h t.laid in
      let m : Named bs k l = record {
        mark = fresh.mark;
        around = fresh.around;
        brackets = fresh.brackets;
        shape = fresh.shape;
        key = fresh.key;
        columns = if_both (is_in_flow t.laid) t.laid.columns (up_to_column h.place.column t.laid.columns) []
            fresh.columns (ap (up_to_column h.place.column) fresh.columns);
        cut = fresh.cut;
      } in
      let flow = named_flow bs k l m in
      let top = named_key bs k l m in
      let text = stepped_text h 0x3A (g ++ rest) e in
      let end = held_on x h 0x3A (g ++ rest) e held in
      let z = after_sign x rest g (step h) i st end text in
      let y : Lexeme = record (sign_lexeme (ends_column_by (Placed ColonSign) t) Colon h l) {
        key = key_start (top_key l);
        tail = None;
      } in
      let left : ReaderState = record { here = z.here; laid = behind o (Placed ColonSign) y None z.here h l } in
      let calm = calm_behind (last_of_colon (is_in_flow l) (top_key l)) (Curly ∷ bs)
      (behind_colon (is_in_flow l) (top_key l) h l) (colon_left bs k h l (is_in_flow l) (top_key l) flow top m) in
      let cs = mark_starts 0x3A (g ++ rest) refl in
      record {
        read = record {
          lexeme = y;
          after = freshened o left;
          reads = of_lexeme at left (Placed ColonSign)
              (record {
                gap = in_front_of_lexeme h (record {
                  gap = [];
                  over = gap_to (MayPrefix s.laid) [] from h e tt;
                  stops = gap_stops (MayPrefix s.laid) from h e cs;
                })
                    (ap (λ (l : List ℕ). first l == 0x23) e ∙ cs.no_comment) (open_tabs o s.laid h n.columns)
                    (no_cut_fits s.laid h n.cut);
                keys = named_due o bs k at named;
                begins = begins_text t from (Placed ColonSign) e
                    (colon_begins (is_in_flow t.laid) (is_adjacent t.laid.last) h.place.column (g ++ rest)
                    (named_flow bs k t.laid fresh) (ap is_adjacent last));
              }) (
                open_inside o ColonSign h l (record { columns = m.columns; cut = m.cut }),
                (
                  record {
                    apart = λ other b. absurd (other last);
                    tail = None;
                    tailed = z.tail;
                    fits = colon_fits bs k h l (is_in_flow l) (top_key l) flow top m low;
                    is = refl;
                  },
                  refl,
                ),
              )
              (none_overdue o (Curly ∷ bs) left calm);
          kind_is = refl;
          key_is = ap key_start top;
          tail_is = refl;
        };
        before = z.before;
        calm = calm_fresh o (mark_of left.here) (Curly ∷ bs) left.laid calm;
        opener = colon_opener (is_in_flow l) (top_key l);
      }
    where
      if_both : (b : Bool) (a c z : List OpenColumn) → a ≡ z → c ≡ z → (if b then a else c) ≡ z
      if_both true a c z p q = p
      if_both false a c z p q = q
