-- A number or a name of JSON stands as a plain scalar.
use Rattle.std.proofs.Common.{Bool, List, Option, [], ap, arith, false, inl, inr, length, not, refl, subst, sym, true}
use Rattle.std.proofs.Common.{ℕ}
use Rattle.std.proofs.Common.{suc, ◌&&◌, ◌++◌, ◌==◌, ◌||◌, ◌∙◌, ◌∷◌, ◌≡◌, ◌≢◌}
use Rattle.std.proofs.Common.{ap₂}
use Rattle.std.proofs.lemmas.Bool.{and_from, and_left, and_right, or_from}
use Rattle.std.proofs.lemmas.Bool.Decides.{nat_tests}
use Rattle.std.specs.Prelude.{None, Some, cond, if◌then◌else◌}
use Rattle.granit_base.specs.Classes.{is_blank, is_blank_or_breakz, is_break, is_breakz, is_digit, is_flow, is_gap}
use Rattle.granit_base.specs.Classes.{is_printable, is_z}
use Rattle.granit_base.specs.Place.{Mark, first}
use Rattle.granit_base.specs.PlainContent.{is_content}
use Rattle.granit_base.specs.Written.{lent}
use Rattle.granit_base.specs.declared.style.ScalarStyle.TheVariants.{Plain}
use Rattle.granit_canonical_steps.proofs.Calm.{Calm, Fine, Shape, calm_closed, calm_noded, shape_flow, stands_inside}
use Rattle.granit_canonical_steps.proofs.Places.{Held, directly, marked, past_all}
use Rattle.granit_canonical_steps.proofs.Quotes.{mark_prints}
use Rattle.granit_canonical_steps.proofs.Signs.{source_is}
use Rattle.granit_canonical_steps.proofs.Taking.{Taken, begins_text, is_mark, passed_at}
use Rattle.granit_error.specs.OptionsData.{OptionsData}
use Rattle.granit_json_scalars.proofs.Bares.{Sound, is_bare, is_bare_start, no_digit_dash}
use Rattle.granit_json_scalars.proofs.Gaps.{Ends, at_end, at_sign, ends_start, gap_breaks}
use Rattle.granit_language.specs.Before.{behind, in_front}
use Rattle.granit_language.specs.Begins.{Begins, ReservedChar, ThreeStand, other, sign}
use Rattle.granit_language.specs.Reached.{ends_column_by}
use Rattle.granit_lexemes.proofs.HereLemmas.{stepped_text, step_line}
use Rattle.granit_lexemes.specs.Basics.{unprintable}
use Rattle.granit_lexemes.specs.Folding.{folded}
use Rattle.granit_lexemes.specs.Gap.{Each, IsGap}
use Rattle.granit_lexemes.specs.Here.{Here, step}
use Rattle.granit_lexemes.specs.Here.{mark_of}
use Rattle.granit_lexemes.specs.LayoutData.{LayoutData}
use Rattle.granit_lexemes.specs.Lexeme.{Scalar}
use Rattle.granit_lexemes.specs.PlainExtent.{EndsPlain, Folded, GoesOn, IsSeparation, OnLine, Separation, SpellsPlain}
use Rattle.granit_lexemes.specs.PlainExtent.{at_break}
use Rattle.granit_lexemes.specs.PlainExtent.{before_break, behind_of, ends, flow_indicator, goes_on, is_cut}
use Rattle.granit_lexemes.specs.PlainExtent.{is_flow_dash}
use Rattle.granit_lexemes.specs.PlainExtent.{is_unprintable_at, left_tab, nothing_more, over, plain_answer}
use Rattle.granit_lexemes.specs.PlainExtent.{separation_text, starts_comment, tab_refused}
use Rattle.granit_lexemes.specs.PlainScalar.{is_one_line}
use Rattle.granit_lexemes.specs.declared.layout.Bracket.{Bracket}
use Rattle.granit_lexemes.specs.declared.layout.OpenColumn.{OpenColumn}
use Rattle.granit_machine.specs.Columns.{closed_at}
use Rattle.granit_machine.specs.Laid.{innermost_column, is_adjacent, is_in_flow}
use Rattle.granit_machine.specs.LexemeSort.{Placed, PlainSign}
use Rattle.granit_machine.specs.PossibleKeys.{layout_of}
use Rattle.granit_machine.specs.ReaderState.{ReaderState, lexeme_to}
use Rattle.granit_reading.proofs.Deciding.{layout_is}
use Rattle.granit_scalars.proofs.Folding.{folds_content}
use Rattle.granit_scalars.proofs.PlainSpelling.{no_longer}

-- ---- content

content_by : (z colon follows flow_sign flow : Bool) → z ≡ false → colon ≡ false → flow_sign ≡ false
    → (not z && (not (colon && follows) && not (flow && flow_sign))) ≡ true
content_by true colon follows flow_sign flow p q r = absurd cc
content_by false true follows flow_sign flow p q r = absurd cc
content_by false false follows true flow p q r = absurd cc
content_by false false follows false true p q r = refl
content_by false false follows false false p q r = refl

pub bare_starts : (c : ℕ) → is_bare_start c ≡ true → is_bare c ≡ true
unfolding is_bare is_bare_start is_digit
bare_starts c e = grind (arith, nat_tests)

bare_solid : (c : ℕ) → is_bare c ≡ true → is_blank_or_breakz c ≡ false
unfolding is_bare is_digit is_blank_or_breakz is_blank is_breakz is_break is_z
bare_solid c e = grind (arith, nat_tests)

bare_flow : (c : ℕ) → is_bare c ≡ true → is_flow c ≡ false
unfolding is_bare is_digit is_flow
bare_flow c e = grind (arith, nat_tests)

bare_colon : (c : ℕ) → is_bare c ≡ true → (c == 0x3A) ≡ false
unfolding is_bare is_digit
bare_colon c e = grind (arith, nat_tests)

bare_blank : (c : ℕ) → is_bare c ≡ true → is_blank c ≡ false
unfolding is_bare is_digit is_blank
bare_blank c e = grind (arith, nat_tests)

bare_break : (c : ℕ) → is_bare c ≡ true → is_break c ≡ false
unfolding is_bare is_digit is_break
bare_break c e = grind (arith, nat_tests)

bare_prints : (c : ℕ) → is_bare c ≡ true → is_printable c ≡ true
unfolding is_bare is_digit is_printable is_break
bare_prints c e = grind (arith, nat_tests)

bare_content : (flow : Bool) (c : ℕ) (text : List ℕ) → is_bare c ≡ true → is_content flow (c ∷ text) ≡ true
bare_content flow c text e =
    content_by (is_blank_or_breakz c) (c == 0x3A)
    (is_blank_or_breakz (first text) || (flow && is_flow (first text))) (is_flow c) flow (bare_solid c e)
    (bare_colon c e) (bare_flow c e)

bare_goes : (at : LayoutData) (cs behind : List ℕ) → Each is_bare cs → GoesOn at cs behind
bare_goes at [] behind e = ends
bare_goes at (c ∷ cs) behind e =
    goes_on (OnLine []) c refl tt (bare_content at.in_flow c (cs ++ behind) e.0) tt (bare_goes at cs behind e.1)

folds_bare : (cs : List ℕ) → Each is_bare cs → folded cs ≡ cs
folds_bare [] e = refl
folds_bare (c ∷ cs) e =
    folds_content c cs (bare_blank c e.0) (bare_break c e.0) ∙ ap (λ (l : List ℕ). c ∷ l) (folds_bare cs e.1)

prints_bare : (cs : List ℕ) → Each is_bare cs → unprintable cs ≡ None
prints_bare [] e = refl
prints_bare (c ∷ cs) e =
    ap (λ v. cond (not v) (Some c) (unprintable cs)) (bare_prints c e.0) ∙ prints_bare cs e.1

-- ---- the gap behind it, as what parts content

pub record Parted (g : List ℕ) : Type 0 where
  pub tail : Separation
  pub text : separation_text tail ≡ g
  pub parts : IsSeparation tail

parted_on : (c : ℕ) (cs : List ℕ) → is_gap c ≡ true → (tail : Separation) → separation_text tail ≡ cs
    → IsSeparation tail → (v : Bool) → is_blank c ≡ v → Parted (c ∷ cs)
parted_on c cs i (OnLine blanks) t s true e =
    record { tail = OnLine (c ∷ blanks); text = ap (λ (l : List ℕ). c ∷ l) t; parts = (e, s) }
parted_on c cs i (OnLine blanks) t s false e = record {
  tail = Folded (c ∷ []) blanks;
  text = ap (λ (l : List ℕ). c ∷ l) t;
  parts = (at_break (gap_breaks c i e), s);
}
parted_on c cs i (Folded breaks indent) t s v e = record {
  tail = Folded (c ∷ breaks) indent;
  text = ap (λ (l : List ℕ). c ∷ l) t;
  parts = (before_break i s.0, s.1);
}

pub parted : (g : List ℕ) → IsGap g → Parted g
parted [] i = record { tail = OnLine []; text = refl; parts = tt }
parted (c ∷ cs) i =
    let r = parted cs i.1 in parted_on c cs i.0 r.tail r.text r.parts (is_blank c) refl

no_left_tab : (column : ℕ) (cs : List ℕ) → left_tab None column cs ≡ false
no_left_tab column [] = refl
no_left_tab column (c ∷ cs) =
    or_from (c == 0x09 && false) (left_tab None (suc column) cs) (and_right (c == 0x09) false refl)
    (no_left_tab (suc column) cs)

no_tab_refused : (at : LayoutData) (tail : Separation) (rest : List ℕ) → at.block_column ≡ None
    → tab_refused at tail rest ≡ false
no_tab_refused at (OnLine blanks) rest e = refl
no_tab_refused at (Folded breaks indent) rest e =
    and_left (left_tab at.block_column 0 indent && not (is_z (first rest))) (not (starts_comment rest))
    (and_left (left_tab at.block_column 0 indent) (not (is_z (first rest)))
    (ap (λ (b : Option ℕ). left_tab b 0 indent) e ∙ no_left_tab 0 indent))

no_cut : (at : LayoutData) (tail : Separation) (rest : List ℕ) → starts_comment rest ≡ false
    → is_cut at tail rest ≡ false
no_cut at (OnLine blanks) rest e = and_left (starts_comment rest) (not (length blanks == 0)) e
no_cut at (Folded breaks indent) rest e = and_left (starts_comment rest) (left_tab at.block_column 0 indent) e

sign_flows : (c : ℕ) → is_mark c ≡ true → (c == 0x3A) ≡ false → is_flow c ≡ true
unfolding is_flow
sign_flows c e n = grind (arith, nat_tests)

end_is : is_z (first []) ≡ true
unfolding is_z
end_is = refl

-- what ends it
ends_bare : (at : LayoutData) (tail : Separation) (bs : List Bracket) (rest : List ℕ) → Ends bs rest
    → ((b : Bracket) (ds : List Bracket) → bs ≡ b ∷ ds → at.in_flow ≡ true) → EndsPlain at tail rest
ends_bare at tail _ _ at_end flow = nothing_more end_is
ends_bare at tail _ _ (at_sign {b = b} {bs = bs} {c = c} {rest = rest} e n) flow =
    flow_indicator (and_from at.in_flow (is_flow c) (flow b bs refl) (sign_flows c e n))

prints_behind : (bs : List Bracket) (rest : List ℕ) → Ends bs rest → is_unprintable_at rest ≡ false
prints_behind _ _ at_end = refl
prints_behind _ _ (at_sign {c = c} {rest = rest} e n) =
    and_right (not (length (c ∷ rest) == 0)) (not (is_printable c)) (ap not (mark_prints c e))

-- ---- where it begins

start_not : (c d : ℕ) → is_bare_start c ≡ true → is_bare_start d ≡ false → c ≢ d
start_not c d e n p = let y : true ≡ false = sym e ∙ ap is_bare_start p ∙ n in cc

digit_solid : (d : ℕ) → is_digit d ≡ true → is_blank_or_breakz d ≡ false
unfolding is_digit is_blank_or_breakz is_blank is_breakz is_break is_z
digit_solid d e = grind (arith, nat_tests)

digit_flow : (d : ℕ) → is_digit d ≡ true → is_flow d ≡ false
unfolding is_digit is_flow
digit_flow d e = grind (arith, nat_tests)

not_reserved : (c : ℕ) → is_bare_start c ≡ true → ReservedChar c → ⊥
unfolding is_bare_start is_digit
not_reserved c e (inl (inl p)) = start_not c 0x40 e refl p
not_reserved c e (inl (inr p)) = start_not c 0x60 e refl p
not_reserved c e (inr (inl p)) = start_not c 0x25 e refl p
not_reserved c e (inr (inr (inl p))) = start_not c 0x7C e refl p
not_reserved c e (inr (inr (inr p))) = start_not c 0x3E e refl p

heads : {a b : ℕ} {x y : List ℕ} → a ∷ x ≡ b ∷ y → a ≡ b
heads e = cc

tails : {a b : ℕ} {x y : List ℕ} → a ∷ x ≡ b ∷ y → x ≡ y
tails e = cc

-- behind a `-` a digit stands
abbrev DigitBehind : (c : ℕ) (more : List ℕ) → Type 0
DigitBehind c more = c ≡ 0x2D → (d : ℕ) × (ds : List ℕ) × (more ≡ d ∷ ds) × (is_digit d ≡ true)

no_dashes : (c column : ℕ) (more rest : List ℕ) → DigitBehind c more → ThreeStand 0x2D column (c ∷ (more ++ rest)) → ⊥
no_dashes c column more rest dash three =
    let d = dash (heads three.2) in
    no_digit_dash d.0 d.3 (heads (ap (λ (l : List ℕ). l ++ rest) (sym d.2) ∙ tails three.2))

bare_begins : (flow adjacent : Bool) (column c : ℕ) (more rest : List ℕ) → is_bare_start c ≡ true
    → DigitBehind c more
    → Begins flow adjacent column (c ∷ (more ++ rest)) (Placed PlainSign)
unfolding is_bare_start is_digit
bare_begins flow adjacent column c more rest s dash =
    sign (no_dashes c column more rest dash, λ three. start_not c 0x2E s refl (heads three.2))
    (bare_prints c (bare_starts c s)) (λ z. start_not c 0x25 s refl)
    (other (bare_flow c (bare_starts c s)) (λ e. solid (dash e)) (λ e. absurd (start_not c 0x3F s refl e))
    (λ e. absurd (start_not c 0x3A s refl e)) (start_not c 0x2A s refl) (start_not c 0x26 s refl)
    (start_not c 0x21 s refl) (start_not c 0x27 s refl) (start_not c 0x22 s refl) (start_not c 0xFEFF s refl)
    (not_reserved c s))
  where
    solid : ((d : ℕ) × (ds : List ℕ) × (more ≡ d ∷ ds) × (is_digit d ≡ true))
        → is_blank_or_breakz (first (more ++ rest)) ≡ false
    solid d = ap (λ (l : List ℕ). is_blank_or_breakz (first (l ++ rest))) d.2 ∙ digit_solid d.0 d.3

dash_flows : (flow : Bool) (c : ℕ) (more rest : List ℕ)
    → DigitBehind c more
    → (flow && (c == 0x2D && is_flow (first (more ++ rest)))) ≡ false
dash_flows flow c more rest dash = and_right flow (c == 0x2D && is_flow (first (more ++ rest))) (by (c == 0x2D) refl)
  where
    by : (v : Bool) → (c == 0x2D) ≡ v → (v && is_flow (first (more ++ rest))) ≡ false
    by true e =
        let same : c ≡ 0x2D = grind (arith, nat_tests) in
        let d = dash same in
        ap (λ (l : List ℕ). is_flow (first (l ++ rest))) d.2 ∙ digit_flow d.0 d.3
    by false e = refl

-- ---- it stands on one line, so its text is lent

same_line : (cs more : List ℕ) (h : Here) → h.unread.text ≡ cs ++ more → Each is_bare cs
    → (over cs h).place.line ≡ h.place.line
same_line [] more h e i = refl
same_line (c ∷ cs) more h e i =
    same_line cs more (step h) (stepped_text h c (cs ++ more) e) i.1
    ∙ step_line h c (cs ++ more) e (bare_break c i.0)

one_line : (m n : Mark) → n.place.line ≡ m.place.line → is_one_line m n ≡ true
one_line m n e = grind (arith, nat_tests)

module _ (o : OptionsData) (x : List ℕ) where
  -- the scalar as a lexeme, with all that stands behind it up to the next
  pub takes_bare : (bs : List Bracket) (chars g rest : List ℕ) (t : ReaderState) → Sound chars → IsGap g → Ends bs rest
      → Held x t.here → t.here.unread.text ≡ chars ++ (g ++ rest) → Calm bs t.laid → Fine bs t.laid.last
      → Taken o x bs (Placed PlainSign) (Scalar Plain (lent chars)) (chars ++ (g ++ rest)) (g ++ rest) rest false t
  takes_bare bs chars g rest t sound i ff held e c f =
      let h = t.here in
      let st = ends_start ff in
      let l = in_front (Placed PlainSign) h t.laid in
      let calm = calm_noded false h bs (closed_at h.place.column t.laid) (calm_closed h.place.column bs t.laid c) f in
      let at = layout_of o h.place.column l in
      let each : Each is_bare (sound.start ∷ sound.more) = (bare_starts sound.start sound.starts, sound.each) in
      let each_of : Each is_bare chars = subst (Each is_bare) (sym sound.is) each in
      let r = parted g i in
      let behind_text : separation_text r.tail ++ rest ≡ g ++ rest = ap (λ (l : List ℕ). l ++ rest) r.text in
      let p = past_all x chars (g ++ rest) h e held in
      let q = past_all x (separation_text r.tail) rest (over chars h) (p.text ∙ sym behind_text) p.held in
      let from = chars ++ (g ++ rest) in
      let read = plain_answer at h chars r.tail rest in
      let y = lexeme_to (ends_column_by (Placed PlainSign) t) (Scalar Plain read.text)
      (mark_of (over chars h)) h l in
      let after = behind_of h chars r.tail in
      let no_block : at.block_column ≡ None = ap (λ (cs : List OpenColumn). innermost_column cs) calm.columns in
      let flow = λ (b : Bracket) (ds : List Bracket) (same : bs ≡ b ∷ ds). shape_flow b ds l.brackets
      (subst (λ bs. Shape bs l.brackets) same calm.shape) in
      let back = sound.more ++ (g ++ rest) in
      let starts_at : from ≡ sound.start ∷ back = ap (λ (l : List ℕ). l ++ (g ++ rest)) sound.is in
      record {
        lexeme = y;
        behind = record { here = after; laid = behind o (Placed PlainSign) y None after h l };
        begins = begins_text t (sound.start ∷ (sound.more ++ (g ++ rest))) (Placed PlainSign) (e ∙ starts_at)
            (bare_begins (is_in_flow t.laid) (is_adjacent t.laid.last) h.place.column sound.start sound.more (g ++ rest)
            sound.starts sound.dash);
        given = (
          stands_inside o PlainSign bs l h calm,
          (
            None,
            record {
              read = read;
              layout = at;
              told = layout_is o h.place.column l;
              answers = record {
                source = chars;
                tail = r.tail;
                rest = rest;
                stands = record {
                  extent = record {
                    whole = e ∙ ap (λ (l : List ℕ). chars ++ l) (sym behind_text);
                    spelled = record {
                      start = sound.start;
                      more = sound.more;
                      begins = sound.is;
                      content = bare_content at.in_flow sound.start (sound.more ++ (separation_text r.tail ++ rest))
                          each.0;
                      goes = bare_goes at sound.more (separation_text r.tail ++ rest) sound.each;
                    };
                    longest = λ more others same longer.
                        no_longer sound.start sound.more r.tail rest
                        (bare_goes at sound.more (separation_text r.tail ++ rest) sound.each) r.parts st.no_gap
                        (ends_bare at r.tail bs rest ff flow) more others same
                        (subst (λ (l : List ℕ). SpellsPlain at (l ++ more) others) sound.is longer);
                  };
                  separation = r.parts;
                  behind = st.no_gap;
                  ends = ends_bare at r.tail bs rest ff flow;
                };
                answer = refl;
                reached = refl;
                no_dash = ap (λ (l : List ℕ). is_flow_dash at l) (e ∙ starts_at)
                    ∙ dash_flows at.in_flow sound.start sound.more (g ++ rest) sound.dash;
                no_tab = no_tab_refused at r.tail rest no_block;
                inside = prints_bare chars each_of;
                printable = prints_behind bs rest ff;
              };
              is = refl;
              cuts = sym (uncut at.in_flow (is_cut at r.tail rest) (mark_of after)
                  (no_cut at r.tail rest st.no_comment));
            },
            refl,
          ),
        );
        kind_is = ap₂ (λ (lent : Bool) (l : List ℕ). Scalar Plain (record { characters = l; is_borrowed = lent }))
            (ap₂ (λ (a b : Bool). a && b) (one_line (mark_of h) (mark_of (over chars h))
            (same_line chars (g ++ rest) h e each_of)) held.lends) (folds_bare chars each_of);
        key_is = refl;
        tail_is = refl;
        indent_is = refl;
        start_is = marked x from h held e;
        shown_is = source_is (marked x from h held e) (marked x (g ++ rest) (over chars h) p.held p.text);
        before = directly x rest after q.held q.text;
        passed = passed_at x (g ++ rest) (over chars h) p.held p.text;
        calm = record { key = calm.key; shape = calm.shape; columns = calm.columns; cut = refl };
        opener = refl;
      }
    where
      uncut : (flow cut : Bool) (m : Mark) → cut ≡ false
          → ◌≡◌ {A = Option Mark} (if not flow && cut then Some m else None) None
      uncut true cut m n = refl
      uncut false true m n = absurd cc
      uncut false false m n = refl
