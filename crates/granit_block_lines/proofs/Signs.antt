-- `-`, `?` and `:` of block text stand at the front of their lines.
use Rattle.std.proofs.Common.{Bool, List, Option, [], ap, arith, drop, false, map, refl, subst, suc, sym, true, ℕ}
use Rattle.std.proofs.Common.{◌++◌, ◌==◌, ◌∙◌, ◌∷◌, ◌≡◌}
use Rattle.std.proofs.lemmas.Bool.{or_left}
use Rattle.std.proofs.lemmas.Bool.Decides.{nat_tests}
use Rattle.std.specs.Prelude.{None, Some, if◌then◌else◌}
use Rattle.granit_base.specs.Classes.{is_blank, is_blank_or_breakz, is_break, is_breakz, is_printable, is_z}
use Rattle.granit_base.specs.Place.{Mark, first}
use Rattle.granit_block_lines.proofs.Columns.{Enters, closed_map, entered_map, room_in, widened_map}
use Rattle.granit_block_lines.proofs.Lines.{along_one, is_flat}
use Rattle.granit_block_lines.proofs.Ready.{Around, Arrived, Begun, Behind, Lies, LineAt, NodeAt, Ready}
use Rattle.granit_block_lines.proofs.Ready.{around_none, behind_gap_is, fed_to, lands, leads, lies_tab}
use Rattle.granit_block_lines.proofs.Ready.{none_kept, outside, outside_flow, spaced, tail_read, up_to}
use Rattle.granit_block_lines.proofs.Taking.{Taken, no_tab_fits}
use Rattle.granit_canonical_steps.proofs.Places.{Starts, gap_stops, gap_to, held_on, past_all}
use Rattle.granit_canonical_steps.proofs.Signs.{no_space}
use Rattle.granit_canonical_steps.proofs.Taking.{begins_text, begins_with}
use Rattle.granit_error.specs.OptionsData.{OptionsData}
use Rattle.granit_language.specs.Allowed.{DashBehindTab, EntryMayBegin, InFlow, LeftInside, NulBehind, RoomFor}
use Rattle.granit_language.specs.Allowed.{first_on_line}
use Rattle.granit_language.specs.Before.{behind, behind_colon, behind_question_sign, in_front, last_of_colon}
use Rattle.granit_language.specs.Begins.{Begins, ThreeStand, colon, dash, question, sign}
use Rattle.granit_language.specs.Reached.{ends_column_by}
use Rattle.granit_language.specs.Standing.{ColonFits, QuestionStands, key_start, no_comment}
use Rattle.granit_language.specs.Stretch.{TailIf}
use Rattle.granit_lexemes.proofs.HereLemmas.{stepped_text}
use Rattle.granit_lexemes.specs.Here.{Here, mark_of, step}
use Rattle.granit_lexemes.specs.Lexeme.{Colon, Dash, Lexeme, Question, opener_char}
use Rattle.granit_lexemes.specs.PlainExtent.{over}
use Rattle.granit_lexemes.specs.declared.layout.Bracket.{Bracket}
use Rattle.granit_lexemes.specs.declared.layout.Bracket.TheVariants.{Curly, Square}
use Rattle.granit_lexemes.specs.declared.layout.LastLexeme.TheVariants.{Another, BehindQuestion}
use Rattle.granit_lexemes.specs.declared.layout.OpenBracket.{OpenBracket}
use Rattle.granit_lexemes.specs.declared.layout.OpenColumn.{OpenColumn}
use Rattle.granit_lexemes.specs.declared.layout.PossibleKey.{PossibleKey}
use Rattle.granit_machine.specs.Columns.{entered, entered_columns, widened}
use Rattle.granit_machine.specs.IndicatorLexemes.{behind_question, is_before_break}
use Rattle.granit_machine.specs.Laid.{Laid, behind_lexeme, is_adjacent, is_in_flow}
use Rattle.granit_machine.specs.LexemeSort.{ColonSign, DashSign, Placed, QuestionSign}
use Rattle.granit_machine.specs.PossibleKeys.{key_in, keyed_brackets, outer_key, top_key}
use Rattle.granit_machine.specs.ReaderState.{ReaderState, sign_lexeme, with_tail}
use Rattle.granit_canonical_steps.proofs.Places.{cols}

-- ---- outside brackets

pub no_left_inside : (o : OptionsData) (h : Here) (l : Laid) → Around [] l.brackets → LeftInside o h l → ⊥
no_left_inside o h l a i =
    let f : InFlow l = i.0.0 in
    none (sym (around_none l.brackets a) ∙ f.is)
  where
    none : {b : OpenBracket} {bs : List OpenBracket} → ◌≡◌ {A = List OpenBracket} [] (b ∷ bs) → ⊥
    none e = cc

pub keyed_outside : (obs : List OpenBracket) (key : Option PossibleKey) → Around [] obs
    → Around [] (keyed_brackets key obs)
keyed_outside _ key outside = outside

pub key_outside : (obs : List OpenBracket) (key old : Option PossibleKey) → Around [] obs → outer_key obs key old ≡ key
key_outside _ key old outside = refl

pub top_outside : (obs : List OpenBracket) (key : Option PossibleKey) → Around [] obs → key_in obs key ≡ key
top_outside _ key outside = refl

-- ---- what follows a sign

pub next_parts : {g : List ℕ} → Behind g → (rest : List ℕ) → is_blank_or_breakz (first (g ++ rest)) ≡ true
unfolding is_blank_or_breakz is_blank is_breakz is_break is_z
next_parts spaced rest = refl
next_parts (fed_to c) rest = refl

no_marks : {g : List ℕ} → Behind g → (d column : ℕ) (rest : List ℕ) → (d == 0x20) ≡ false → (d == 0x0A) ≡ false
    → ThreeStand d column (0x2D ∷ (g ++ rest)) → ⊥
no_marks spaced d column rest e f s = second d 0x20 s.1 (ap (λ (l : List ℕ). first (drop 1 l)) s.2) e
  where
    second : (d c : ℕ) (more : List ℕ) → c ≡ d → (d == c) ≡ false → ⊥
    second d c more p q = absurd (grind (arith, nat_tests))
no_marks (fed_to c) d column rest e f s = second d 0x0A s.1 (ap (λ (l : List ℕ). first (drop 1 l)) s.2) f
  where
    second : (d c : ℕ) (more : List ℕ) → c ≡ d → (d == c) ≡ false → ⊥
    second d c more p q = absurd (grind (arith, nat_tests))

dash_prints : is_printable 0x2D ≡ true
unfolding is_printable is_break
dash_prints = refl

dash_begins : {g : List ℕ} (b : Behind g) (flow adjacent : Bool) (column : ℕ) (rest : List ℕ)
    → Begins flow adjacent column (0x2D ∷ (g ++ rest)) (Placed DashSign)
dash_begins b flow adjacent column rest =
    sign (no_marks b 0x2D column rest refl refl, no_marks b 0x2E column rest refl refl) dash_prints
    (λ z q. percent q) (dash (next_parts b rest))
  where
    percent : ◌≡◌ {A = ℕ} 0x2D 0x25 → ⊥
    percent q = cc

question_begins : {g : List ℕ} (b : Behind g) (flow adjacent : Bool) (column : ℕ) (rest : List ℕ)
    → Begins flow adjacent column (0x3F ∷ (g ++ rest)) (Placed QuestionSign)
unfolding is_printable is_break
question_begins {g} b flow adjacent column rest =
    begins_with flow adjacent column 0x3F (g ++ rest) QuestionSign refl refl refl refl (question (next_parts b rest))

colon_begins : {g : List ℕ} (b : Behind g) (flow adjacent : Bool) (column : ℕ) (rest : List ℕ)
    → Begins flow adjacent column (0x3A ∷ (g ++ rest)) (Placed ColonSign)
unfolding is_printable is_break
colon_begins {g} b flow adjacent column rest =
    begins_with flow adjacent column 0x3A (g ++ rest) ColonSign refl refl refl refl
    (colon (or_left (is_blank_or_breakz (first (g ++ rest))) _ (next_parts b rest)))

-- a sign was passed that stands in a column
sign_end : (g : List ℕ) (c n : ℕ) (rest : List ℕ) (key : Option PossibleKey) (h : Here)
    → h.unread.text ≡ c ∷ (g ++ rest) → is_flat c ≡ true → LineAt n key h → NodeAt (suc n) None (step h)
sign_end g c n rest key h e f l =
    let a = along_one c (g ++ rest) h e f in
    let p = a.1 in
    let q = l.column in record {
      right = omega (arith, p, q);
      tab = (a.0).tab l.tab;
      kept = none_kept (step h).place.line;
    }

dash_flat : is_flat 0x2D ≡ true
unfolding is_break
dash_flat = refl

question_flat : is_flat 0x3F ≡ true
unfolding is_break
question_flat = refl

colon_flat : is_flat 0x3A ≡ true
unfolding is_break
colon_flat = refl

if_widened : (v : Bool) (cs : List OpenColumn) → cols (if v then map widened cs else cs) ≡ cols cs
if_widened true cs = widened_map cs
if_widened false cs = refl

no_tabbed_dash : (h : Here) → h.tab ≡ None → DashBehindTab h → ⊥
no_tabbed_dash h e d = none (sym e ∙ d.0.1)
  where
    none : {m : Mark} → ◌≡◌ {A = Option Mark} None (Some m) → ⊥
    none f = cc

no_nul : {g : List ℕ} → Behind g → (rest : List ℕ) (h : Here) → h.unread.text ≡ 0x3F ∷ (g ++ rest) → NulBehind h → ⊥
no_nul spaced rest h e n = none (ap (λ (l : List ℕ). first (drop 1 l)) (sym e ∙ n.2))
  where
    none : ◌≡◌ {A = ℕ} 0x20 0x00 → ⊥
    none f = cc
no_nul (fed_to c) rest h e n = none (ap (λ (l : List ℕ). first (drop 1 l)) (sym e ∙ n.2))
  where
    none : ◌≡◌ {A = ℕ} 0x0A 0x00 → ⊥
    none f = cc

opener_no_feed : (b : Bracket) → (opener_char b == 0x0A) ≡ true → ⊥
opener_no_feed Square e = cc
opener_no_feed Curly e = cc

no_opener : {g : List ℕ} → Behind g → (b : Bracket) (rest more : List ℕ) (c d : ℕ)
    → c ∷ (g ++ rest) ≡ d ∷ opener_char b ∷ more → ⊥
no_opener spaced b rest more c d e = no_space b (sym (ap (λ (l : List ℕ). first (drop 1 l) == 0x20) e))
no_opener (fed_to n) b rest more c d e = opener_no_feed b (sym (ap (λ (l : List ℕ). first (drop 1 l) == 0x0A) e))

module _ (o : OptionsData) (x : List ℕ) where
  -- the columns of an entry that begins there
  enters_there : (c : ℕ) (ds cs : List ℕ) (p : ℕ) → p ≡ c → Enters o.block_nesting_limit c ds cs
      → Enters o.block_nesting_limit p ds cs
  enters_there c ds cs p e n = subst (λ n. Enters o.block_nesting_limit n ds cs) (sym e) n

  pub takes_dash : {g : List ℕ} (b : Behind g) (c : ℕ) (ds cs : List ℕ) (rest : List ℕ) (t : ReaderState)
      → Starts rest → Enters o.block_nesting_limit c ds cs
      → Arrived x (0x2D ∷ (g ++ rest)) [] ds (Begun c) t
      → Taken o x [] (c ∷ cs) (leads b (suc c)) (Placed DashSign) Dash rest t
  takes_dash {g} b c ds cs rest t st enters a =
      let h = t.here in
      let l = in_front (Placed DashSign) h t.laid in
      let at = a.lies in
      let within = enters_there c ds cs h.place.column at.column enters in
      let left : cols l.columns ≡ up_to h.place.column ds =
      closed_map h.place.column t.laid.brackets t.laid.columns ds a.around a.columns in
      let text = stepped_text h 0x2D (g ++ rest) a.text in
      let end = held_on x h 0x2D (g ++ rest) a.text a.held in
      let tail = tail_read x b (suc c) rest None (step h) st end text
      (sign_end g 0x2D c rest t.laid.key h a.text dash_flat at) in
      let y : Lexeme = record (with_tail (sign_lexeme (ends_column_by (Placed DashSign) t) Dash h l) None) {
        end = mark_of tail.after;
      } in
      record {
        lexeme = y;
        behind = record { here = tail.after; laid = behind o (Placed DashSign) y None tail.after h l };
        begins = begins_text t (0x2D ∷ (g ++ rest)) (Placed DashSign) a.text
            (dash_begins b (is_in_flow t.laid) (is_adjacent t.laid.last) h.place.column rest);
        given = (
          no_left_inside o h l a.around,
          (
            record {
              entry = record {
                outside = around_none l.brackets a.around;
                allowed = first_on_line (around_none l.brackets a.around) at.begins;
                room = room_in l.columns left within;
              };
              tail = None;
              tailed = tail.tail;
              no_tab = no_tabbed_dash tail.after tail.tab;
              is = refl;
            },
            refl,
          ),
        );
        kind_is = refl;
        key_is = refl;
        tail_is = refl;
        indent_is = refl;
        place_is = refl;
        ready = record {
          gap = tail.gap;
          held = tail.held;
          text = tail.text;
          is_gap = tail.is_gap;
          lies = subst (λ (key : Option PossibleKey). Lies (leads b (suc c)) key (over tail.gap tail.after))
              (sym (key_outside l.brackets None l.key a.around)) tail.lies;
          around = keyed_outside l.brackets None a.around;
          columns = if_widened (is_before_break tail.after) (entered_columns h.place.column l.columns)
              ∙ entered_map l.columns left within ∙ ap (λ n. n ∷ cs) at.column;
          cut = a.cut;
        };
      }

  pub takes_question : {g : List ℕ} (b : Behind g) (c : ℕ) (ds cs : List ℕ) (rest : List ℕ) (t : ReaderState)
      → Starts rest → Enters o.block_nesting_limit c ds cs
      → Arrived x (0x3F ∷ (g ++ rest)) [] ds (Begun c) t
      → Taken o x [] (c ∷ cs) (leads b (suc c)) (Placed QuestionSign) Question rest t
  takes_question {g} b c ds cs rest t st enters a =
      let h = t.here in
      let l = in_front (Placed QuestionSign) h t.laid in
      let at = a.lies in
      let within = enters_there c ds cs h.place.column at.column enters in
      let left : cols l.columns ≡ up_to h.place.column ds =
      closed_map h.place.column t.laid.brackets t.laid.columns ds a.around a.columns in
      let flow : is_in_flow l ≡ false = outside_flow l.brackets a.around in
      let text = stepped_text h 0x3F (g ++ rest) a.text in
      let end = held_on x h 0x3F (g ++ rest) a.text a.held in
      let p = past_all x g rest (step h) text end in
      let after = over g (step h) in
      let lies = lands b (suc c) rest None (step h) text
      (sign_end g 0x3F c rest t.laid.key h a.text question_flat at) in
      let ends = ends_column_by (Placed QuestionSign) t in
      let y = sign_lexeme ends Question h l in
      let last = if is_in_flow l then Another else BehindQuestion in
      record {
        lexeme = y;
        behind = record { here = after; laid = behind o (Placed QuestionSign) y None after h l };
        begins = begins_text t (0x3F ∷ (g ++ rest)) (Placed QuestionSign) a.text
            (question_begins b (is_in_flow t.laid) (is_adjacent t.laid.last) h.place.column rest);
        given = (
          no_left_inside o h l a.around,
          (
            subst (λ v. QuestionStands o ends h l y after v) (sym flow) (record {
              entry = record {
                outside = around_none l.brackets a.around;
                allowed = first_on_line (around_none l.brackets a.around) at.begins;
                room = room_in l.columns left within;
              };
              no_nul = no_nul b rest h a.text;
              at = after;
              gap = record {
                gap = g;
                over = gap_to ⊥ g rest (step h) text (behind_gap_is b);
                stops = gap_stops ⊥ rest after p.text st;
              };
              tail = None;
              tailed = no_comment (ap (λ (l : List ℕ). first l == 0x23) p.text ∙ st.no_comment)
                  (no_tab_fits o (behind_question (entered h.place.column l)) after
                  (lies_tab (leads b (suc c)) None after lies));
              is = refl;
            }),
            refl,
          ),
        );
        kind_is = refl;
        key_is = refl;
        tail_is = refl;
        indent_is = refl;
        place_is = refl;
        ready = subst (λ v. Ready x rest [] (c ∷ cs) (leads b (suc c))
            (record { here = after; laid = behind_lexeme last (behind_question_sign v h l) })) (sym flow) (record {
              gap = [];
              held = p.held;
              text = p.text;
              is_gap = tt;
              lies = subst (λ (key : Option PossibleKey). Lies (leads b (suc c)) key after)
                  (sym (key_outside l.brackets None l.key a.around)) lies;
              around = keyed_outside l.brackets None a.around;
              columns = entered_map l.columns left within ∙ ap (λ n. n ∷ cs) at.column;
              cut = a.cut;
            });
      }

  bare_fits : (h : Here) (l : Laid) (v : Bool) (key : Option PossibleKey) → v ≡ false → key ≡ None
      → EntryMayBegin h l × RoomFor o h.place.column l → ColonFits o v key h l
  bare_fits h l v key p q f =
      subst (λ v. ColonFits o v key h l) (sym p)
      (subst (λ (key : Option PossibleKey). ColonFits o false key h l) (sym q) f)

  -- the key before it has its text, and an entry of its mapping stands in its column
  pub takes_colon : {g : List ℕ} (b : Behind g) (c : ℕ) (ds cs : List ℕ) (rest : List ℕ) (t : ReaderState)
      → Starts rest → Enters o.block_nesting_limit c ds cs
      → Arrived x (0x3A ∷ (g ++ rest)) [] ds (Begun c) t
      → Taken o x [] (c ∷ cs) (leads b (suc c)) (Placed ColonSign) Colon rest t
  takes_colon {g} b c ds cs rest t st enters a =
      let h = t.here in
      let l = in_front (Placed ColonSign) h t.laid in
      let at = a.lies in
      let within = enters_there c ds cs h.place.column at.column enters in
      let left : cols l.columns ≡ up_to h.place.column ds =
      closed_map h.place.column t.laid.brackets t.laid.columns ds a.around a.columns in
      let flow : is_in_flow l ≡ false = outside_flow l.brackets a.around in
      let gone : l.key ≡ None = a.fresh in
      let none : top_key l ≡ None = top_outside l.brackets l.key a.around ∙ gone in
      let text = stepped_text h 0x3A (g ++ rest) a.text in
      let end = held_on x h 0x3A (g ++ rest) a.text a.held in
      let stand = sign_end g 0x3A c rest t.laid.key h a.text colon_flat at in
      let tail = tail_read x b (suc c) rest None (step h) st end text stand in
      let ends = ends_column_by (Placed ColonSign) t in
      let y : Lexeme = record (sign_lexeme ends Colon h l) { key = key_start (top_key l); tail = None } in
      let last = last_of_colon (is_in_flow l) (top_key l) in
      record {
        lexeme = y;
        behind = record { here = tail.after; laid = behind o (Placed ColonSign) y None tail.after h l };
        begins = begins_text t (0x3A ∷ (g ++ rest)) (Placed ColonSign) a.text
            (colon_begins b (is_in_flow t.laid) (is_adjacent t.laid.last) h.place.column rest);
        given = (
          no_left_inside o h l a.around,
          (
            record {
              apart = λ last f. no_opener b f.1 rest f.2 0x3A f.0 (sym a.text ∙ f.3);
              tail = None;
              tailed = subst (λ (t : List ℕ). TailIf (is_blank (first t)) (step h) None tail.after) (sym text)
                  tail.asked;
              fits = bare_fits h l (is_in_flow l) (top_key l) flow none
                  (first_on_line (around_none l.brackets a.around) at.begins, room_in l.columns left within);
              is = refl;
            },
            refl,
          ),
        );
        kind_is = refl;
        key_is = ap key_start none;
        tail_is = refl;
        indent_is = refl;
        place_is = refl;
        ready = subst (λ v. Ready x rest [] (c ∷ cs) (leads b (suc c))
            (record { here = tail.after; laid = behind_lexeme last (behind_colon v (top_key l) h l) })) (sym flow)
            (subst (λ (key : Option PossibleKey). Ready x rest [] (c ∷ cs) (leads b (suc c))
            (record { here = tail.after; laid = behind_lexeme last (behind_colon false key h l) })) (sym none) (record {
              gap = tail.gap;
              held = tail.held;
              text = tail.text;
              is_gap = tail.is_gap;
              lies = subst (λ (key : Option PossibleKey). Lies (leads b (suc c)) key (over tail.gap tail.after))
                  (sym gone) tail.lies;
              around = a.around;
              columns = widened_map (entered_columns h.place.column l.columns)
                  ∙ entered_map l.columns left within ∙ ap (λ n. n ∷ cs) at.column;
              cut = a.cut;
            }));
      }
