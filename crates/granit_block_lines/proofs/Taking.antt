-- One read of a lexeme of block text, by what stands at its place.
use Rattle.std.proofs.Common.{List, Option, [], ap, refl, subst, sym, ℕ, ◌==◌, ◌∙◌, ◌∷◌, ◌≡◌}
use Rattle.std.specs.Prelude.{None, Some}
use Rattle.granit_base.specs.Place.{Mark, first}
use Rattle.granit_block_lines.proofs.Ready.{Arrived, InColumn, Ready, Where, fresh_around, lies_column, lies_fresh}
use Rattle.granit_block_lines.proofs.Ready.{lies_gone, lies_mild, lies_tab}
use Rattle.granit_canonical_steps.proofs.Calm.{Mild, no_cut_fits}
use Rattle.granit_canonical_steps.proofs.Places.{Starts, gap_stops, gap_to, marked, past_all}
use Rattle.granit_canonical_steps.proofs.Taking.{LexemeRead}
use Rattle.granit_canonical_steps.specs.Canonical.{spot}
use Rattle.granit_error.specs.OptionsData.{OptionsData}
use Rattle.granit_language.specs.Allowed.{MayPrefix, TabsFit}
use Rattle.granit_language.specs.Before.{freshened}
use Rattle.granit_language.specs.Reached.{BeginsAt, GivenAt, NoneOverdue, of_lexeme}
use Rattle.granit_language.specs.Standing.{in_front_of_lexeme}
use Rattle.granit_lexemes.specs.Here.{Here, mark_of}
use Rattle.granit_lexemes.specs.Lexeme.{Lexeme, LexemeKind, OfLexeme}
use Rattle.granit_lexemes.specs.PlainExtent.{over}
use Rattle.granit_lexemes.specs.declared.layout.Bracket.{Bracket}
use Rattle.granit_machine.specs.Gaps.{behind_gap}
use Rattle.granit_machine.specs.Laid.{Laid, is_in_flow, is_nonempty}
use Rattle.granit_machine.specs.LexemeSort.{LexemeSort}
use Rattle.granit_machine.specs.ReaderState.{ReaderState}

-- ---- what is asked of a place

pub no_tab_fits : (o : OptionsData) (l : Laid) (h : Here) → h.tab ≡ None → TabsFit o l h
no_tab_fits o l h e tab b = absurd (some_tab (sym e ∙ b.1))
  where
    some_tab : ◌≡◌ {A = Option Mark} None (Some tab) → ⊥
    some_tab f = cc

pub mild_fits : (o : OptionsData) (s : ReaderState) → Mild s.laid.key → NoneOverdue o s
mild_fits o s h k e l = h k e

-- a lexeme that stands at a place, and what its read gives there
pub record Taken (o : OptionsData) (x : List ℕ) (bs : List Bracket) (cs : List ℕ) (w : Where) (sort : LexemeSort)
    (kind : LexemeKind) (next : List ℕ) (t : ReaderState) : Type 0 where
  pub lexeme : Lexeme
  pub behind : ReaderState
  pub begins : BeginsAt t sort
  pub given : GivenAt o sort t (OfLexeme lexeme ∷ []) behind
  pub kind_is : lexeme.kind ≡ kind
  pub key_is : lexeme.key ≡ None
  pub tail_is : lexeme.tail ≡ None
  pub indent_is : lexeme.indent ≡ None
  pub place_is : lexeme.start ≡ mark_of t.here
  pub ready : Ready x next bs cs w behind

-- one read of it, with the gap before it
pub record OneRead (o : OptionsData) (x : List ℕ) (bs : List Bracket) (cs : List ℕ) (v w : Where) (kind : LexemeKind)
    (from next : List ℕ) (s : ReaderState) : Type 0 where
  pub read : LexemeRead o kind None s
  pub open read use *
  pub indent_is : lexeme.indent ≡ None
  pub start_is : lexeme.start ≡ spot x from
  pub column : InColumn v lexeme.start.place.column
  pub ready : Ready x next bs cs w after

module _ (o : OptionsData) (x : List ℕ) where
  ready_fresh : (next : List ℕ) (bs : List Bracket) (cs : List ℕ) (w : Where) (s : ReaderState)
      → Ready x next bs cs w s → Ready x next bs cs w (freshened o s)
  ready_fresh next bs cs w s r = record {
    gap = r.gap;
    held = r.held;
    text = r.text;
    is_gap = r.is_gap;
    lies = lies_fresh w o (is_in_flow s.laid) (mark_of s.here) s.laid.key (over r.gap s.here) r.lies;
    around = fresh_around o (mark_of s.here) bs s.laid.brackets r.around;
    columns = r.columns;
    cut = r.cut;
  }

  pub reads_one : (bs ds : List Bracket) (cs es : List ℕ) (v w : Where) (sort : LexemeSort) (kind : LexemeKind)
      (from next : List ℕ) (s : ReaderState) → Ready x from bs cs v s → Starts from
      → ((t : ReaderState) → Arrived x from bs cs v t → Taken o x ds es w sort kind next t)
      → OneRead o x ds es v w kind from next s
  reads_one bs ds cs es v w sort kind from next s r st f =
      let h = over r.gap s.here in
      let p = past_all x r.gap from s.here r.text r.held in
      let at : ReaderState = record { here = h; laid = behind_gap (is_nonempty r.gap) s.laid } in
      let t = freshened o at in
      let k = f t (record {
        held = p.held;
        text = p.text;
        lies = lies_fresh v o (is_in_flow s.laid) (mark_of h) s.laid.key h r.lies;
        fresh = lies_gone v bs o (mark_of h) s.laid.key h s.laid.brackets r.around refl r.lies;
        around = fresh_around o (mark_of h) bs s.laid.brackets r.around;
        columns = r.columns;
        cut = refl;
      }) in
      let b = k.ready in
      record {
        read = record {
          lexeme = k.lexeme;
          after = freshened o k.behind;
          reads = of_lexeme at k.behind sort
              (record {
                gap = in_front_of_lexeme h (record {
                  gap = r.gap;
                  over = gap_to (MayPrefix s.laid) r.gap from s.here r.text r.is_gap;
                  stops = gap_stops (MayPrefix s.laid) from h p.text st;
                })
                    (ap (λ (l : List ℕ). first l == 0x23) p.text ∙ st.no_comment)
                    (no_tab_fits o s.laid h (lies_tab v s.laid.key h r.lies)) (no_cut_fits s.laid h r.cut);
                keys = mild_fits o at (lies_mild v s.laid.key h r.lies);
                begins = k.begins;
              })
              k.given (mild_fits o k.behind (lies_mild w k.behind.laid.key (over b.gap k.behind.here) b.lies));
          kind_is = k.kind_is;
          key_is = k.key_is;
          tail_is = k.tail_is;
        };
        indent_is = k.indent_is;
        start_is = k.place_is ∙ marked x from h p.held p.text;
        column = at_start v k.lexeme.start (mark_of h) k.place_is (lies_column v s.laid.key h r.lies);
        ready = ready_fresh next ds es w k.behind b;
      }
    where
      at_start : (v : Where) (a b : Mark) → a ≡ b → InColumn v b.place.column → InColumn v a.place.column
      at_start v a b e h = subst (λ (m : Mark). InColumn v m.place.column) (sym e) h
