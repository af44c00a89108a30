-- `[]` and `{}` of block text stand in their lines.
use Rattle.std.proofs.Common.{List, [], arith, drop, false, length, refl, subst, suc, sym, true, ℕ}
use Rattle.std.proofs.Common.{◌++◌, ◌<◌, ◌==◌, ◌∙◌, ◌∷◌, ◌≡◌, ◌≤◌}
use Rattle.std.specs.Prelude.{None, if◌then◌else◌}
use Rattle.granit_base.specs.Classes.{is_blank, is_break}
use Rattle.granit_base.specs.Place.{Mark}
use Rattle.granit_block_lines.proofs.Columns.{widened_map}
use Rattle.granit_block_lines.proofs.Keyed.{node_on, noded_kept, open_columns}
use Rattle.granit_block_lines.proofs.Lines.{along_one, is_flat}
use Rattle.granit_block_lines.proofs.Ready.{Around, Arrived, Behind, OnLine, bound, inside, leads}
use Rattle.granit_block_lines.proofs.Ready.{outside, tail_read}
use Rattle.granit_block_lines.proofs.Signs.{keyed_outside, no_left_inside}
use Rattle.granit_block_lines.proofs.Taking.{Taken}
use Rattle.granit_canonical_steps.proofs.Places.{Starts, held_on}
use Rattle.granit_canonical_steps.proofs.Taking.{begins_text}
use Rattle.granit_canonical_steps.proofs.Signs.{closer_begins, opener_begins}
use Rattle.granit_error.specs.OptionsData.{OptionsData}
use Rattle.granit_language.specs.Before.{behind, in_front}
use Rattle.granit_language.specs.Reached.{ends_column_by}
use Rattle.granit_language.specs.Standing.{ClosesInnermost}
use Rattle.granit_lexemes.proofs.HereLemmas.{stepped_text}
use Rattle.granit_lexemes.specs.HeaderExtent.{uncommented}
use Rattle.granit_lexemes.specs.Here.{mark_of, step}
use Rattle.granit_lexemes.specs.Lexeme.{Close, Open, closer_char, opener_char}
use Rattle.granit_lexemes.specs.declared.layout.Bracket.{Bracket}
use Rattle.granit_lexemes.specs.declared.layout.Bracket.TheVariants.{Curly, Square}
use Rattle.granit_lexemes.specs.declared.layout.OpenBracket.{OpenBracket}
use Rattle.granit_lexemes.specs.declared.layout.OpenColumn.{OpenColumn}
use Rattle.granit_machine.specs.Columns.{up_to_column}
use Rattle.granit_machine.specs.Laid.{is_adjacent, is_in_flow, is_nonempty}
use Rattle.granit_machine.specs.LexemeSort.{CloseSign, OpenSign, Placed}
use Rattle.granit_machine.specs.ReaderState.{ReaderState, lexeme_to, with_tail}
use Rattle.granit_block_lines.proofs.Keyed.{cols}

opener_flat : (b : Bracket) → is_flat (opener_char b) ≡ true
unfolding is_break
opener_flat Square = refl
opener_flat Curly = refl

closer_flat : (b : Bracket) → is_flat (closer_char b) ≡ true
unfolding is_break
closer_flat Square = refl
closer_flat Curly = refl

closer_no_blank : (b : Bracket) → is_blank (closer_char b) ≡ false
unfolding is_blank
closer_no_blank Square = refl
closer_no_blank Curly = refl

closer_no_comment : (b : Bracket) → (closer_char b == 0x23) ≡ false
closer_no_comment Square = refl
closer_no_comment Curly = refl

-- a bracket is opened where none is
opened_around : (b : Bracket) (m : Mark) (obs : List OpenBracket) → Around [] obs
    → Around (b ∷ []) (record { bracket = b; mark = m; key = None } ∷ obs)
opened_around b m _ outside = inside b m

none_open : (obs : List OpenBracket) (limit : ℕ) → Around [] obs → 0 < limit → length obs < limit
none_open _ limit outside h = h

closes_innermost : (b : Bracket) (obs : List OpenBracket) → Around (b ∷ []) obs → ClosesInnermost b obs
closes_innermost _ _ (inside b m) = refl

closed_around : (b : Bracket) (obs : List OpenBracket) → Around (b ∷ []) obs → Around [] (drop 1 obs)
closed_around _ _ (inside b m) = outside

kept_columns : (b : Bracket) (obs : List OpenBracket) (cs : List OpenColumn) (n : ℕ) → Around (b ∷ []) obs
    → cols (if is_nonempty obs then cs else up_to_column n cs) ≡ cols cs
kept_columns _ _ cs n (inside b m) = refl

-- what is right of all open columns is left of no node
not_left : (n : ℕ) (columns : List OpenColumn) → bound (cols columns) ≤ n
    → ((c : OpenColumn) × (cs : List OpenColumn) × (columns ≡ c ∷ cs) × (n ≤ c.column)) → ⊥
not_left n columns h l =
    let b : suc (l.0).column ≤ n = subst (λ (cs : List OpenColumn). bound (cols cs) ≤ n) l.2 h in
    let k = l.3 in
    omega (arith, b, k)

module _ (o : OptionsData) (x : List ℕ) where
  pub takes_opener : (b : Bracket) (cs rest : List ℕ) (t : ReaderState) → 0 < o.flow_nesting_limit
      → Arrived x (opener_char b ∷ closer_char b ∷ rest) [] cs (OnLine (bound cs)) t
      → Taken o x (b ∷ []) cs (OnLine (bound cs)) (Placed (OpenSign b)) (Open b) (closer_char b ∷ rest) t
  takes_opener b cs rest t room a =
      let h = t.here in
      let l = in_front (Placed (OpenSign b)) h t.laid in
      let next = closer_char b ∷ rest in
      let text = stepped_text h (opener_char b) next a.text in
      let end = held_on x h (opener_char b) next a.text a.held in
      let along = (along_one (opener_char b) next h a.text (opener_flat b)).0 in
      let kept = noded_kept false h t.laid cs a.around a.columns a.lies in
      let around = keyed_outside t.laid.brackets _ a.around in
      let y = with_tail (lexeme_to (ends_column_by (Placed (OpenSign b)) t) (Open b) (mark_of (step h)) h l) None in
      record {
        lexeme = y;
        behind = record { here = step h; laid = behind o (Placed (OpenSign b)) y None (step h) h l };
        begins = begins_text t (opener_char b ∷ next) (Placed (OpenSign b)) a.text
            (opener_begins b (is_in_flow t.laid) (is_adjacent t.laid.last) h.place.column next);
        given = (
          no_left_inside o h l around,
          (
            (
              record {
                tail = None;
                tailed = uncommented [] next (record { whole = text; each = tt; all = closer_no_blank b })
                    (closer_no_comment b) refl;
                is = refl;
              },
              none_open l.brackets o.flow_nesting_limit around room,
            ),
            refl,
          ),
        );
        kind_is = refl;
        key_is = refl;
        tail_is = refl;
        indent_is = refl;
        place_is = refl;
        ready = record {
          gap = [];
          held = end;
          text = text;
          is_gap = tt;
          lies = node_on (bound cs) l.key t.laid.key h (step h) along a.lies kept;
          around = opened_around b (mark_of h) l.brackets around;
          columns = widened_map l.columns
              ∙ open_columns h.place.column t.laid cs a.around a.columns (a.lies).right;
          cut = a.cut;
        };
      }

  pub takes_closer : {g : List ℕ} (c : Behind g) (b : Bracket) (cs rest : List ℕ) (t : ReaderState) → Starts rest
      → Arrived x (closer_char b ∷ (g ++ rest)) (b ∷ []) cs (OnLine (bound cs)) t
      → Taken o x [] cs (leads c (bound cs)) (Placed (CloseSign b)) (Close b) rest t
  takes_closer {g} c b cs rest t st a =
      let h = t.here in
      let l = in_front (Placed (CloseSign b)) h t.laid in
      let text = stepped_text h (closer_char b) (g ++ rest) a.text in
      let end = held_on x h (closer_char b) (g ++ rest) a.text a.held in
      let along = (along_one (closer_char b) (g ++ rest) h a.text (closer_flat b)).0 in
      let at = a.lies in
      let tail = tail_read x c (bound cs) rest t.laid.key (step h) st end text
      (node_on (bound cs) t.laid.key t.laid.key h (step h) along at at.kept) in
      let columns : cols l.columns ≡ cs =
      kept_columns b t.laid.brackets t.laid.columns h.place.column a.around ∙ a.columns in
      let y = with_tail (lexeme_to (ends_column_by (Placed (CloseSign b)) t) (Close b) (mark_of (step h)) h l) None in
      record {
        lexeme = y;
        behind = record { here = tail.after; laid = behind o (Placed (CloseSign b)) y None tail.after h l };
        begins = begins_text t (closer_char b ∷ (g ++ rest)) (Placed (CloseSign b)) a.text
            (closer_begins b (is_in_flow t.laid) (is_adjacent t.laid.last) h.place.column (g ++ rest));
        given = (
          λ f. not_left h.place.column l.columns
              (subst (λ (ds : List ℕ). bound ds ≤ h.place.column) (sym columns) at.right) f.1,
          (
            (record { tail = None; tailed = tail.tail; is = refl }, closes_innermost b l.brackets a.around),
            refl,
          ),
        );
        kind_is = refl;
        key_is = refl;
        tail_is = refl;
        indent_is = refl;
        place_is = refl;
        ready = record {
          gap = tail.gap;
          held = tail.held;
          text = tail.text;
          is_gap = tail.is_gap;
          lies = tail.lies;
          around = closed_around b l.brackets a.around;
          columns = columns;
          cut = a.cut;
        };
      }
