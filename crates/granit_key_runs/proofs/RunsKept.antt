-- What each lexeme makes of the runs that may be a key.
use Rattle.std.proofs.Common.{◌≡◌, ℕ, ◌&&◌, Bool, true, false, List, [], ◌∷◌, ◌++◌, drop, map, Option, Some, None, refl}
use Rattle.std.proofs.Common.{sym, ap, ap₂, ◌∙◌, subst, not, ◌⊎◌, inl, inr}
use Rattle.std.proofs.Math.Bool.{and-false}
use Rattle.std.specs.Prelude.{if◌then◌else◌}
use Rattle.granit_base.specs.Place.{Mark}
use Rattle.granit_error.specs.OptionsData.{OptionsData}
use Rattle.granit_lexemes.specs.Comment.{CommentRead}
use Rattle.granit_lexemes.specs.Here.{Here, is_quiet, mark_of}
use Rattle.granit_lexemes.specs.Lexeme.{LexemeKind, Comma, Question, Colon, KeyStart, Lexeme, Item}
use Rattle.granit_lexemes.specs.Lexeme.{OfLexeme, OfComment, is_entry_dash}
use Rattle.granit_machine.specs.Columns.{entered}
use Rattle.granit_machine.specs.IndicatorLexemes.{widened_if, is_before_break}
use Rattle.granit_machine.specs.Laid.{Laid, is_opener, is_dash, is_indicator, is_question, is_nonempty, is_in_flow}
use Rattle.granit_lexemes.specs.declared.layout.LastLexeme.{LastLexeme}
use Rattle.granit_lexemes.specs.declared.layout.LastLexeme.TheVariants.{BehindProperty, Adjacent, Opener}
use Rattle.granit_lexemes.specs.declared.layout.LastLexeme.TheVariants.{BehindQuestion, Another}
use Rattle.granit_lexemes.specs.declared.layout.PossibleKey.{PossibleKey}
use Rattle.granit_lexemes.specs.declared.layout.OpenBracket.{OpenBracket}
use Rattle.granit_machine.specs.LexemeSort.{OpenSign, CloseSign, CommaSign, DashSign, QuestionSign, ColonSign}
use Rattle.granit_machine.specs.LexemeSort.{AliasSign, AnchorSign, TagSign, BlockSign, QuoteSign, StrayMark, NoSign}
use Rattle.granit_machine.specs.LexemeSort.{PlainSign, LexemeSort, TextEnd, StartMark, EndMark, Unprintable}
use Rattle.granit_machine.specs.LexemeSort.{DirectiveSign, Placed, PlacedSort}
use Rattle.granit_machine.specs.NodeLexemes.{note_items, last_of_property}
use Rattle.granit_machine.specs.PossibleKeys.{key_in, top_key, outer_key, keyed_brackets, is_stale, fresh_key}
use Rattle.granit_machine.specs.PossibleKeys.{fresh_bracket, is_allowed, node_key}
use Rattle.granit_machine.specs.Reader.{noded}
use Rattle.granit_machine.specs.ReaderState.{ReaderState, behind_tail}
use Rattle.granit_termination.proofs.LexLengths.{noded-flow}
use Rattle.granit_language.specs.Before.{freshened, closed_for, run_for, behind_colon, behind_question_sign}
use Rattle.granit_language.specs.Before.{last_of_colon, behind}
use Rattle.granit_language.specs.Begins.{SignBegins, Begins, sign}
use Rattle.granit_language.specs.Begins as begins
use Rattle.granit_language.specs.Fitting.{OfNode, Opens, Closes, Other, role_of}
use Rattle.granit_language.specs.KeyRuns.{role, WholeBrackets, whole_none, whole_other, whole_pair, Run, part_begins}
use Rattle.granit_language.specs.KeyRuns.{part_joins, whole_begins, whole_joins, opens_entry}
use Rattle.granit_language.specs.KeyRuns.{is_key_sign, MayBeKey, too_far, no_run, no_key}
use Rattle.granit_language.specs.KeyRuns.{ColonSays, ColonsSay}
use Rattle.granit_language.specs.HeldSaid.{Now, no_run_now, run_now, Lead, lead_begins, lead_joins, Leads, Pending}
use Rattle.granit_language.specs.HeldSaid.{KeysAround, Depths, LastSays, RunsSay}
use Rattle.granit_language.specs.OpenColumns.{latest}
use Rattle.granit_language.specs.Standing.{key_start}
use Rattle.granit_places.proofs.Moving.{left_open}
use Rattle.granit_key_runs.proofs.RunsLaw.{Onward, depths_fresh, fresh_near, TabSays, leads_on}
use Rattle.granit_places.proofs.Signs.{From}
use Rattle.granit_places.proofs.Telling.{Told, Unkeyed, SaysOf, SameLast, Agrees}

abbrev pub IsPlaced : LexemeSort → Type 0
IsPlaced (Placed sort) = Unit {0}
IsPlaced sort = ⊥

-- ---- what a lexeme leaves open

module _ (o : OptionsData) (text : List ℕ) (m : Mark) (ls : List Lexeme) (x : Lexeme) where
  -- one that is no part of a run
  abbrev Plain : Type 0
  Plain = (role x ≡ OfNode → ⊥) × (role x ≡ Opens → ⊥) × (role x ≡ Closes → ⊥)

  plain_around : Plain → (bs : List OpenBracket) (key : Option PossibleKey) → KeysAround o text m ls bs key
      → KeysAround o text m (x ∷ ls) bs key
  plain_around n [] key p = record {
    opener = p.opener;
    before = p.before;
    whole = whole_other n.1 n.2 p.whole;
    opens = p.opens;
    leads = p.leads;
  }
  plain_around n (b ∷ bs) key p = (
    record {
      opener = p.0.opener;
      before = p.0.before;
      whole = whole_other n.1 n.2
          p.0.whole;
      opens = p.0.opens;
      leads = p.0.leads;
    },
    p.1,
  )

  forgets_depths : Plain → (bs : List OpenBracket) (key : Option PossibleKey) → Depths o text m ls bs key
      → Depths o text m (x ∷ ls) (keyed_brackets None bs) (outer_key bs None key)
  forgets_depths n [] key p = no_run_now (n.0, n.2) refl
  forgets_depths n (b ∷ bs) key p = (no_run_now (n.0, n.2) refl, plain_around n bs key p.1)

  bare_depths : Plain → (bs : List OpenBracket) (key : Option PossibleKey) → key_in bs key ≡ None
      → Depths o text m ls bs key → Depths o text m (x ∷ ls) bs key
  bare_depths n [] key e p = no_run_now (n.0, n.2) e
  bare_depths n (b ∷ bs) key e p = (no_run_now (n.0, n.2) e, plain_around n bs key p.1)

  part_run : {first : Lexeme} {rest : List Lexeme} → role x ≡ OfNode → Lead x ls first rest → Run (x ∷ ls) first rest
  part_run r (lead_begins b) = part_begins r b
  part_run r (lead_joins j s) = part_joins r j s

  part_now : (f : Bool) (key : Option PossibleKey) → role x ≡ OfNode → Leads o text f m x ls key
      → Now o text f m (x ∷ ls) key
  part_now f key r p = run_now (part_run r p.lead) p.holds

  part_around : role x ≡ OfNode → (bs : List OpenBracket) (key : Option PossibleKey) → KeysAround o text m ls bs key
      → KeysAround o text m (x ∷ ls) bs key
  part_around r [] key p = record {
    opener = p.opener;
    before = p.before;
    whole = whole_other
        (λ e. let q = sym r ∙ e in cc) (λ e. let q = sym r ∙ e in cc) p.whole;
    opens = p.opens;
    leads = p.leads;
  }
  part_around r (b ∷ bs) key p = (
    record {
      opener = p.0.opener;
      before = p.0.before;
      whole = whole_other
          (λ e. let q = sym r ∙ e in cc) (λ e. let q = sym r ∙ e in cc) p.0.whole;
      opens = p.0.opens;
      leads = p.0.leads;
    },
    p.1,
  )

  part_depths : role x ≡ OfNode → (bs : List OpenBracket) (key new : Option PossibleKey) → Depths o text m ls bs key
      → Leads o text (is_nonempty bs) m x ls new → Depths o text m (x ∷ ls) (keyed_brackets new bs)
      (outer_key bs new key)
  part_depths r [] key new p q = part_now false new r q
  part_depths r (b ∷ bs) key new p q = (part_now true new r q, part_around r bs key p.1)

  opens_depths : role x ≡ Opens → (b : OpenBracket) (bs : List OpenBracket) (key new : Option PossibleKey) → b.key
      ≡ None → Depths o text m ls bs key → Leads o text (is_nonempty bs) m x ls new
      → Depths o text m (x ∷ ls) (b ∷ keyed_brackets new bs) (outer_key bs new key)
  opens_depths r b [] key new e p q = (
    no_run_now (λ t. let u = sym r ∙ t in cc, λ t. let u = sym r ∙ t in cc) e,
    record { opener = x; before = ls; whole = whole_none; opens = r; leads = q },
  )
  opens_depths r b (c ∷ bs) key new e p q = (
    no_run_now (λ t. let u = sym r ∙ t in cc, λ t. let u = sym r ∙ t in cc)
        e,
    (record { opener = x; before = ls; whole = whole_none; opens = r; leads = q }, p.1),
  )

  whole_run : {opener first : Lexeme} {ys rest : List Lexeme} → role x ≡ Closes → WholeBrackets ls (opener ∷ ys)
      → role opener ≡ Opens → Lead opener ys first rest → Run (x ∷ ls) first rest
  whole_run r w q (lead_begins b) = whole_begins r w q b
  whole_run r w q (lead_joins j s) = whole_joins r w q j s

  closes_now : (f : Bool) (key : Option PossibleKey) → role x ≡ Closes → Pending o text f m ls key
      → Now o text f m (x ∷ ls) key
  closes_now f key r p = run_now (whole_run r p.whole p.opens p.leads.lead) p.leads.holds

  closes_around : role x ≡ Closes → {opener : Lexeme} {ys : List Lexeme} → WholeBrackets ls (opener ∷ ys)
      → role opener ≡ Opens → (bs : List OpenBracket) (key : Option PossibleKey) → KeysAround o text m ys bs key
      → KeysAround o text m (x ∷ ls) bs key
  closes_around r w q [] key p = record {
    opener = p.opener;
    before = p.before;
    whole = whole_pair r w q p.whole;
    opens = p.opens;
    leads = p.leads;
  }
  closes_around r w q (b ∷ bs) key p = (
    record {
      opener = p.0.opener;
      before = p.0.before;
      whole = whole_pair r w q
          p.0.whole;
      opens = p.0.opens;
      leads = p.0.leads;
    },
    p.1,
  )

  closes_depths : role x ≡ Closes → (bs : List OpenBracket) (key : Option PossibleKey) → (b : OpenBracket)
      × (cs : List OpenBracket) × (bs ≡ b ∷ cs) → Depths o text m ls bs key → Depths o text m (x ∷ ls) (drop 1 bs) key
  closes_depths r [] key (b, cs, e) p = absurd cc
  closes_depths r (b ∷ []) key e p = closes_now false key r p.1
  closes_depths r (b ∷ c ∷ bs) key e p = (
    closes_now true c.key r p.1.0,
    closes_around r p.1.0.whole p.1.0.opens bs
        key p.1.1,
  )

-- ---- what a lexeme lets begin behind it

record LastOf (x : Lexeme) (a : LastLexeme) : Type 0 where
  opener : is_opener a ≡ opens_entry x.kind x.in_flow
  dash : is_dash a ≡ is_entry_dash x.kind
  indicator : is_indicator a ≡ true → (role x ≡ OfNode → ⊥) × (role x ≡ Closes → ⊥)
  sign : is_indicator a ≡ (not x.in_flow && is_key_sign x.kind x.key)

last_says : (ls : List Lexeme) (x : Lexeme) (l : Laid) (a : LastLexeme) → SameLast l.last a → LastOf x a
    → LastSays (x ∷ ls) l
last_says ls x l a s p = record {
  opener = s.opener ∙ p.opener;
  dash = s.dash
      ∙ p.dash;
  indicator = λ e. p.indicator (sym s.indicator ∙ e);
  sign = s.indicator ∙ p.sign;
}

-- what is no sign lets no sign's place begin
no_sign : (x : Lexeme) (kind : LexemeKind) → Unkeyed kind x → is_key_sign kind None ≡ false
    → (not x.in_flow && is_key_sign x.kind x.key) ≡ false
no_sign x kind u e = ap (λ b. not x.in_flow && b) (ap₂ is_key_sign u.is u.key ∙ e) ∙ and-false (not x.in_flow)

-- behind a lexeme of this kind neither an opener's nor a dash's place
quiet_last : (x : Lexeme) (kind : LexemeKind) (a : LastLexeme) → Unkeyed kind x → opens_entry kind x.in_flow ≡ false
    → is_entry_dash kind ≡ false → is_key_sign kind None ≡ false → is_opener a ≡ false → is_dash a ≡ false
    → is_indicator a ≡ false → LastOf x a
quiet_last x kind a k p q n u v w = record {
  opener = u ∙ sym p
      ∙ ap (λ k. opens_entry k x.in_flow) (sym k.is);
  dash = v ∙ sym q
      ∙ ap is_entry_dash (sym k.is);
  indicator = λ y. absurd (let z = sym w ∙ y in cc);
  sign = w
      ∙ sym (no_sign x kind k n);
}

property_last : (o : OptionsData) (l : Laid) → (is_opener (last_of_property o l) ≡ false)
    × (is_dash (last_of_property o l) ≡ false) × (is_indicator (last_of_property o l) ≡ false)
property_last o l = on (o.strict_indentation && is_question l.last)
  where
    on : (v : Bool) → (is_opener (if v then BehindProperty else Another) ≡ false)
        × (is_dash (if v then BehindProperty else Another) ≡ false)
        × (is_indicator (if v then BehindProperty else Another) ≡ false)
    on true = (refl, refl, refl)
    on false = (refl, refl, refl)

role_is : {kind : LexemeKind} {x : Lexeme} → Unkeyed kind x → role x ≡ role_of kind None
role_is u = ap₂ role_of u.is u.key

-- ---- one lexeme

module _ (o : OptionsData) (text : List ℕ) (h : Here) (l : Laid) (ls : List Lexeme) (x : Lexeme) (after : Laid)
    (says : RunsSay o text (mark_of h) ls l) where
  abbrev Goes : Type 0
  Goes = RunsSay o text (mark_of h) (x ∷ ls) after

  goes_as : (a : Laid) → Agrees after a → Depths o text (mark_of h) (x ∷ ls) a.brackets a.key → LastOf x a.last → Goes
  goes_as a e d p = record {
    depths = subst (λ bs. Depths o text (mark_of h) (x ∷ ls) bs after.key) (sym e.brackets)
        (subst (λ key. Depths o text (mark_of h) (x ∷ ls) a.brackets key) (sym e.key) d);
    last = last_says ls x after
        a.last e.last p;
  }

  plain_of : {kind : LexemeKind} → Unkeyed kind x → role_of kind None ≡ Other → Plain o text (mark_of h) ls x
  plain_of u e = let r = role_is u ∙ e in (
    λ t. let q = sym r ∙ t in cc,
    λ t. let q = sym r
        ∙ t in cc,
    λ t. let q = sym r ∙ t in cc,
  )

  forgets : Plain o text (mark_of h) ls x → Depths o text (mark_of h) (x ∷ ls) (keyed_brackets None l.brackets)
      (outer_key l.brackets None l.key)
  forgets n = forgets_depths o text (mark_of h) ls x n l.brackets l.key says.depths

  now_of : (bs : List OpenBracket) (key : Option PossibleKey) → Depths o text (mark_of h) ls bs key
      → Now o text (is_nonempty bs) (mark_of h) ls (key_in bs key)
  now_of [] key d = d
  now_of (b ∷ bs) key d = d.0

  -- a lexeme of a node, told by what it notes
  module _ (tabs : TabSays text ls h l) (property : Bool) (t : Told h (noded property h l) x) where
    noted : Option PossibleKey
    noted = node_key property (is_allowed h.begins_line h.tab l) (mark_of h) l

    leads : Leads o text (is_in_flow l) (mark_of h) x ls
        (node_key property (is_allowed h.begins_line h.tab l) (mark_of h) l)
    leads = leads_on o text h l ls x t.number t.start (t.flow ∙ noded-flow property h l) t.line t.follows says.last
        tabs property (now_of l.brackets l.key says.depths)

    node_goes : (a : Laid) → Agrees after a → a.brackets ≡ (noded property h l).brackets → a.key
        ≡ (noded property h l).key → role x ≡ OfNode → LastOf x a.last → Goes
    node_goes a e b k r p = goes_as a e (subst (λ bs. Depths o text (mark_of h) (x ∷ ls) bs a.key) (sym b)
        (subst (λ key. Depths o text (mark_of h) (x ∷ ls) (noded property h l).brackets key) (sym k)
        (part_depths o text (mark_of h) ls x r l.brackets l.key _ says.depths leads))) p

  question_goes : (a : Laid) (v : Bool) → is_in_flow l ≡ v → Agrees after a → a.brackets
      ≡ (behind_question_sign v h l).brackets → a.key ≡ (behind_question_sign v h l).key → a.last
      ≡ (if v then Another else BehindQuestion) → Unkeyed Question x → x.in_flow ≡ v → Goes
  question_goes a true f e b k q u w =
      let n = plain_of u refl in
      goes_as a e (subst (λ bs. Depths o text (mark_of h) (x ∷ ls) bs a.key) (sym b)
      (subst (λ key. Depths o text (mark_of h) (x ∷ ls) (keyed_brackets None l.brackets) key) (sym k)
      (forgets n)))
      (record {
        opener = ap is_opener q ∙ ap (λ k. opens_entry k x.in_flow) (sym u.is);
        dash = ap is_dash q
            ∙ ap is_entry_dash (sym u.is);
        indicator = λ y. (n.0, n.2);
        sign = ap is_indicator q
            ∙ sym (ap₂ (λ (f s : Bool). not f && s) w (ap₂ is_key_sign u.is u.key));
      })
  question_goes a false f e b k q u w =
      let n = plain_of u refl in
      goes_as a e (subst (λ bs. Depths o text (mark_of h) (x ∷ ls) bs a.key) (sym b)
      (subst (λ key. Depths o text (mark_of h) (x ∷ ls) (keyed_brackets None l.brackets) key) (sym k)
      (forgets n)))
      (record {
        opener = ap is_opener q ∙ ap (λ k. opens_entry k x.in_flow) (sym u.is);
        dash = ap is_dash q
            ∙ ap is_entry_dash (sym u.is);
        indicator = λ y. (n.0, n.2);
        sign = ap is_indicator q
            ∙ sym (ap₂ (λ (f s : Bool). not f && s) w (ap₂ is_key_sign u.is u.key));
      })

  colon_plain : x.kind ≡ Colon → Plain o text (mark_of h) ls x
  colon_plain e = (
    λ t. never_part x.key (sym (ap (λ k. role_of k x.key) e) ∙ t),
    λ t. never_opens x.key (sym (ap (λ k. role_of k x.key) e) ∙ t),
    λ t. never_closes x.key (sym (ap (λ k. role_of k x.key) e) ∙ t),
  )
    where
      never_part : (key : Option KeyStart) → role_of Colon key ≡ OfNode → ⊥
      never_part None p = cc
      never_part (Some k) p = cc

      never_opens : (key : Option KeyStart) → role_of Colon key ≡ Opens → ⊥
      never_opens None p = cc
      never_opens (Some k) p = cc

      never_closes : (key : Option KeyStart) → role_of Colon key ≡ Closes → ⊥
      never_closes None p = cc
      never_closes (Some k) p = cc

  colon_goes : (a : Laid) (v : Bool) (key : Option PossibleKey) → top_key l ≡ key → Agrees after a → a.brackets
      ≡ (behind_colon v key h l).brackets → a.key ≡ (behind_colon v key h l).key → a.last ≡ last_of_colon v key
      → x.kind ≡ Colon → x.in_flow ≡ v → x.key ≡ key_start key → Goes
  colon_goes a v key t e b k q is w ks =
      let n = colon_plain is in
      goes_as a e (subst (λ bs. Depths o text (mark_of h) (x ∷ ls) bs a.key) (sym b)
      (subst (λ k. Depths o text (mark_of h) (x ∷ ls) (behind_colon v key h l).brackets k) (sym k) (on v key t)))
      (record {
        opener = ap is_opener q ∙ no_opener v key
            ∙ ap (λ k. opens_entry k x.in_flow) (sym is);
        dash = ap is_dash q ∙ no_dash v key
            ∙ ap is_entry_dash (sym is);
        indicator = λ y. (n.0, n.2);
        sign = ap is_indicator q ∙ signs v key
            ∙ sym (ap₂ (λ (f s : Bool). not f && s) w (ap₂ is_key_sign is ks));
      })
    where
      signs : (v : Bool) (key : Option PossibleKey) → is_indicator (last_of_colon v key)
          ≡ (not v && is_key_sign Colon (key_start key))
      signs false None = refl
      signs false (Some k) = refl
      signs true None = refl
      signs true (Some k) = refl

      no_opener : (v : Bool) (key : Option PossibleKey) → is_opener (last_of_colon v key) ≡ false
      no_opener false None = refl
      no_opener false (Some k) = refl
      no_opener true None = refl
      no_opener true (Some k) = refl

      no_dash : (v : Bool) (key : Option PossibleKey) → is_dash (last_of_colon v key) ≡ false
      no_dash false None = refl
      no_dash false (Some k) = refl
      no_dash true None = refl
      no_dash true (Some k) = refl

      on : (v : Bool) (key : Option PossibleKey) → top_key l ≡ key
          → Depths o text (mark_of h) (x ∷ ls) (behind_colon v key h l).brackets (behind_colon v key h l).key
      on true None t = bare_depths o text (mark_of h) ls x (colon_plain is) l.brackets l.key t says.depths
      on false None t = bare_depths o text (mark_of h) ls x (colon_plain is) l.brackets l.key t says.depths
      on true (Some k) t = forgets (colon_plain is)
      on false (Some k) t = forgets (colon_plain is)

  comma_last_of : x.in_flow ≡ is_in_flow l → Unkeyed Comma x → LastOf x (if is_in_flow l then Opener else Another)
  comma_last_of f u = record {
    opener = on (is_in_flow l) ∙ sym f
        ∙ ap (λ k. opens_entry k x.in_flow) (sym u.is);
    dash = off (is_in_flow l)
        ∙ ap is_entry_dash (sym u.is);
    indicator = λ y. let n = plain_of u refl in (n.0, n.2);
    sign = none
        (is_in_flow l) ∙ sym (no_sign x Comma u refl);
  }
    where
      none : (v : Bool) → is_indicator (if v then Opener else Another) ≡ false
      none true = refl
      none false = refl

      on : (v : Bool) → is_opener (if v then Opener else Another) ≡ v
      on true = refl
      on false = refl

      off : (v : Bool) → is_dash (if v then Opener else Another) ≡ false
      off true = refl
      off false = refl

  node_last : {kind : LexemeKind} → Unkeyed kind x → (a : LastLexeme) → (opens_entry kind x.in_flow ≡ false)
      → (is_entry_dash kind ≡ false) → (is_key_sign kind None ≡ false) → (is_opener a ≡ false) × (is_dash a ≡ false)
      × (is_indicator a ≡ false) → LastOf x a
  node_last {kind = kind} u a p q n z = quiet_last x kind a u p q n z.0 z.1 z.2

  pub lexeme_goes : (sort : LexemeSort) (cut : Option Mark) (g : Here) → (IsPlaced sort → TabSays text ls h l)
      → (x.kind ≡ Rattle.granit_lexemes.specs.Lexeme.StreamEnd → ⊥) → Told h (run_for sort h l) x
      → SaysOf sort h (run_for sort h l) x → Agrees after (behind o sort x cut g h (run_for sort h l)) → Goes
  lexeme_goes TextEnd cut g tabs w t s a = absurd (w s.0.is)
  lexeme_goes StartMark cut g tabs w t s a = goes_as _ a (forgets (plain_of s.0 refl))
      (node_last s.0 Another refl refl refl (refl, refl, refl))
  lexeme_goes EndMark cut g tabs w t s a = goes_as _ a (forgets (plain_of s.0 refl))
      (node_last s.0 Another refl refl refl (refl, refl, refl))
  lexeme_goes DirectiveSign cut g tabs w t s a = goes_as _ a (forgets (plain_of s.1 refl))
      (node_last s.1 Another refl refl refl (refl, refl, refl))
  lexeme_goes Unprintable cut g tabs w t s a = absurd s
  lexeme_goes (Placed (OpenSign bracket)) cut g tabs w t s a =
      goes_as _ a (opens_depths o text (mark_of h) ls x (role_is s)
      (record { bracket = bracket; mark = mark_of h; key = None }) l.brackets l.key _ refl says.depths
      (leads (tabs tt) false t))
      (record {
        opener = ap (λ k. opens_entry k x.in_flow) (sym s.is);
        dash = ap is_entry_dash (sym s.is);
        indicator =
            λ y. absurd cc;
        sign = sym (no_sign x _ s refl);
      })
  lexeme_goes (Placed (CloseSign bracket)) cut g tabs w t s a =
      goes_as _ a (closes_depths o text (mark_of h) ls x (role_is s.0) l.brackets l.key
      (left_open l.brackets bracket s.1) says.depths)
      (node_last s.0 _ refl refl refl (closer_last x.tail))
    where
      closer_last : (tail : Option CommentRead) → (is_opener (behind_tail Adjacent tail) ≡ false)
          × (is_dash (behind_tail Adjacent tail) ≡ false) × (is_indicator (behind_tail Adjacent tail) ≡ false)
      closer_last None = (refl, refl, refl)
      closer_last (Some c) = (refl, refl, refl)
  lexeme_goes (Placed CommaSign) cut g tabs w t s a = goes_as _ a (forgets (plain_of s refl)) (comma_last_of t.flow s)
  lexeme_goes (Placed DashSign) cut g tabs w t s a =
      goes_as _ a (dash_depths (is_before_break g))
      (record {
        opener = ap (λ k. opens_entry k x.in_flow) (sym s.0.is);
        dash = ap is_entry_dash (sym s.0.is);
        indicator = λ y. absurd cc;
        sign = sym (no_sign x _ s.0 refl);
      })
    where
      dash_depths : (v : Bool) → Depths o text (mark_of h) (x ∷ ls)
          (keyed_brackets None (widened_if v (entered h.place.column l)).brackets)
          (outer_key (widened_if v (entered h.place.column l)).brackets None
          (widened_if v (entered h.place.column l)).key)
      dash_depths v = forgets (plain_of s.0 refl)
  lexeme_goes (Placed QuestionSign) cut g tabs w t s a = question_goes _ (is_in_flow l) refl a refl refl refl s.0 t.flow
  lexeme_goes (Placed ColonSign) cut g tabs w t s a = colon_goes _ (is_in_flow l) (top_key l) refl a refl refl refl
      s.0 t.flow s.1
  lexeme_goes (Placed AliasSign) cut g tabs w t s a = node_goes (tabs tt) false t _ a refl refl (role_is s.1)
      (node_last s.1 Another refl refl refl (refl, refl, refl))
  lexeme_goes (Placed AnchorSign) cut g tabs w t s a = node_goes (tabs tt) true t _ a refl refl (role_is s.1)
      (node_last s.1 _ refl refl refl (property_last o (noded true h l)))
  lexeme_goes (Placed TagSign) cut g tabs w t s a = node_goes (tabs tt) true t _ a refl refl (role_is s.2)
      (node_last s.2 _ refl refl refl (property_last o (noded true h l)))
  lexeme_goes (Placed (BlockSign literal)) cut g tabs w t s a = node_goes (tabs tt) false t _ a refl refl
      (role_is s.2) (node_last s.2 Another refl refl refl (refl, refl, refl))
  lexeme_goes (Placed (QuoteSign single)) cut g tabs w t s a = node_goes (tabs tt) false t _ a refl refl (role_is s.2)
      (node_last s.2 Adjacent refl refl refl (refl, refl, refl))
  lexeme_goes (Placed PlainSign) cut g tabs w t s a = node_goes (tabs tt) false t _ a refl refl (role_is s.2)
      (node_last s.2 Another refl refl refl (refl, refl, refl))
  lexeme_goes (Placed StrayMark) cut g tabs w t s a = absurd s
  lexeme_goes (Placed NoSign) cut g tabs w t s a = absurd s

  -- ---- what a `:` says

  -- the key that is held fresh
  abbrev Near : Type 0
  Near = (k : PossibleKey) → top_key l ≡ Some k → is_stale o (is_in_flow l) (mark_of h) k ≡ false

  colon_by : Near → x.in_flow ≡ is_in_flow l → x.start ≡ mark_of h → (key : Option PossibleKey) → top_key l ≡ key
      → Now o text (is_in_flow l) (mark_of h) ls key → ColonSays o text ls x Colon (key_start key)
  unfolding is_stale
  colon_by near f s None e (no_run_now n k) = no_run n
  colon_by near f s None e (run_now {first = first} {rest = rest} r p) =
      no_key r (subst (λ f. MayBeKey text f first rest → too_far o f first.start x.start ≡ true) (sym f)
      (subst (λ m. MayBeKey text (is_in_flow l) first rest → too_far o (is_in_flow l) first.start m ≡ true)
      (sym s) p))
  colon_by near f s (Some k) e (no_run_now n q) = absurd cc
  colon_by near f s (Some k) e (run_now {first = first} {rest = rest} r p) = record {
    first = first;
    rest = rest;
    run = r;
    number = p.0;
    start = p.1;
    begins = subst (λ f. MayBeKey text f first rest) (sym f) p.2;
    near = subst (λ f. too_far o f first.start x.start ≡ false) (sym f)
        (subst (λ m. too_far o (is_in_flow l) first.start m ≡ false) (sym s)
        (subst (λ m. too_far o (is_in_flow l) m (mark_of h) ≡ false) p.1 (near k e)));
  }

  other_says : {kind : LexemeKind} → Unkeyed kind x → ColonSays o text ls x kind None
      → ColonSays o text ls x x.kind x.key
  other_says {kind = kind} u p = subst (λ k. ColonSays o text ls x k x.key) (sym u.is)
      (subst (ColonSays o text ls x kind) (sym u.key) p)

  pub colon_says : Near → (sort : LexemeSort) → Told h (run_for sort h l) x → SaysOf sort h (run_for sort h l) x
      → ColonSays o text ls x x.kind x.key
  colon_says near TextEnd t s = other_says s.0 tt
  colon_says near StartMark t s = other_says s.0 tt
  colon_says near EndMark t s = other_says s.0 tt
  colon_says near DirectiveSign t s = other_says s.1 tt
  colon_says near Unprintable t s = absurd s
  colon_says near (Placed (OpenSign bracket)) t s = other_says s tt
  colon_says near (Placed (CloseSign bracket)) t s = other_says s.0 tt
  colon_says near (Placed CommaSign) t s = other_says s tt
  colon_says near (Placed DashSign) t s = other_says s.0 tt
  colon_says near (Placed QuestionSign) t s = other_says s.0 tt
  colon_says near (Placed ColonSign) t s =
      subst (λ k. ColonSays o text ls x k x.key) (sym s.0)
      (subst (ColonSays o text ls x Colon) (sym s.1)
      (colon_by near t.flow t.start (top_key l) refl (now_of l.brackets l.key says.depths)))
  colon_says near (Placed AliasSign) t s = other_says s.1 tt
  colon_says near (Placed AnchorSign) t s = other_says s.1 tt
  colon_says near (Placed TagSign) t s = other_says s.2 tt
  colon_says near (Placed (BlockSign literal)) t s = other_says s.2 tt
  colon_says near (Placed (QuoteSign single)) t s = other_says s.2 tt
  colon_says near (Placed PlainSign) t s = other_says s.2 tt
  colon_says near (Placed StrayMark) t s = absurd s
  colon_says near (Placed NoSign) t s = absurd s

-- ---- reads

pub gap_runs : (o : OptionsData) (text : List ℕ) (m : Mark) (ls : List Lexeme) (l after : Laid) → Agrees after l
    → RunsSay o text m ls l → RunsSay o text m ls after
gap_runs o text m ls l after a r = record {
  depths = subst (λ bs. Depths o text m ls bs after.key) (sym a.brackets)
      (subst (λ key. Depths o text m ls l.brackets key) (sym a.key) r.depths);
  last = record {
    opener = a.last.opener ∙ r.last.opener;
    dash = a.last.dash
        ∙ r.last.dash;
    indicator = λ e. r.last.indicator (sym a.last.indicator ∙ e);
    sign = a.last.indicator
        ∙ r.last.sign;
  };
}

pub fresh_runs : (o : OptionsData) (text : List ℕ) (m : Mark) (ls : List Lexeme) (s : ReaderState)
    → Onward m (mark_of s.here) → RunsSay o text m ls s.laid → RunsSay o text (mark_of s.here) ls (freshened o s).laid
fresh_runs o text m ls s w r = record {
  depths = depths_fresh o text m (mark_of s.here) w (is_in_flow s.laid) ls
      s.laid.brackets s.laid.key r.depths;
  last = record
      { opener = r.last.opener; dash = r.last.dash; indicator = r.last.indicator; sign = r.last.sign };
}

-- what is held behind a fresh look is near
pub fresh_nears : (o : OptionsData) (s : ReaderState) (k : PossibleKey) → top_key (freshened o s).laid ≡ Some k
    → is_stale o (is_in_flow (freshened o s).laid) (mark_of s.here) k ≡ false
fresh_nears o s k e = on s.laid.brackets refl e
  where
    on : (bs : List OpenBracket) → s.laid.brackets ≡ bs
        → key_in (map (fresh_bracket o (mark_of s.here)) bs)
        (fresh_key o (is_in_flow s.laid) (mark_of s.here) s.laid.key) ≡ Some k
        → is_stale o (is_nonempty (map (fresh_bracket o (mark_of s.here)) s.laid.brackets)) (mark_of s.here) k ≡ false
    on [] f e = subst (λ (bs : List OpenBracket). is_stale o (is_nonempty (map (fresh_bracket o (mark_of s.here)) bs))
        (mark_of s.here) k ≡ false) (sym f)
        (subst (λ g. is_stale o g (mark_of s.here) k ≡ false) (ap (λ (bs : List OpenBracket). is_nonempty bs) f)
        (fresh_near o (is_in_flow s.laid) (mark_of s.here) s.laid.key k e))
    on (b ∷ bs) f e = subst (λ (bs : List OpenBracket). is_stale o
        (is_nonempty (map (fresh_bracket o (mark_of s.here)) bs)) (mark_of s.here) k ≡ false) (sym f)
        (fresh_near o true (mark_of s.here) b.key k e)

pub closed_runs : (o : OptionsData) (text : List ℕ) (m : Mark) (ls : List Lexeme) (sort : LexemeSort) (h : Here)
    (l : Laid) → RunsSay o text m ls l → RunsSay o text m ls (closed_for sort h l)
closed_runs o text m ls TextEnd h l r = r
closed_runs o text m ls Unprintable h l r = r
closed_runs o text m ls StartMark h l r = record {
  depths = r.depths;
  last = record {
    opener = r.last.opener;
    dash = r.last.dash;
    indicator = r.last.indicator;
    sign = r.last.sign;
  };
}
closed_runs o text m ls EndMark h l r = record {
  depths = r.depths;
  last = record
      { opener = r.last.opener; dash = r.last.dash; indicator = r.last.indicator; sign = r.last.sign };
}
closed_runs o text m ls DirectiveSign h l r = record {
  depths = r.depths;
  last = record {
    opener = r.last.opener;
    dash = r.last.dash;
    indicator = r.last.indicator;
    sign = r.last.sign;
  };
}
closed_runs o text m ls (Placed sort) h l r = record {
  depths = r.depths;
  last = record {
    opener = r.last.opener;
    dash = r.last.dash;
    indicator = r.last.indicator;
    sign = r.last.sign;
  };
}

pub closed_near : (sort : LexemeSort) (h : Here) (l : Laid) → (top_key (closed_for sort h l) ≡ top_key l)
    × (is_in_flow (closed_for sort h l) ≡ is_in_flow l)
closed_near TextEnd h l = (refl, refl)
closed_near Unprintable h l = (refl, refl)
closed_near StartMark h l = (refl, refl)
closed_near EndMark h l = (refl, refl)
closed_near DirectiveSign h l = (refl, refl)
closed_near (Placed sort) h l = (refl, refl)

pub noted_says : (o : OptionsData) (text : List ℕ) (ls : List Lexeme) (x : Lexeme) (note : Option CommentRead)
    → ColonSays o text ls x x.kind x.key → ColonsSay o text ls (OfLexeme x ∷ note_items note)
noted_says o text ls x None p = (p, tt)
noted_says o text ls x (Some c) p = (p, tt)

pub says_joined : (o : OptionsData) (text : List ℕ) (ls : List Lexeme) (items more : List Item)
    → ColonsSay o text ls items → ColonsSay o text (latest items ls) more → ColonsSay o text ls (items ++ more)
says_joined o text ls [] more p q = q
says_joined o text ls (OfLexeme x ∷ is) more p q = (p.0, says_joined o text (x ∷ ls) is more p.1 q)
says_joined o text ls (OfComment c ∷ is) more p q = says_joined o text ls is more p q

-- ---- behind a `?` or a `:` without key

-- where the last lexeme is one, characters of the text lead from its end
abbrev pub Signed : List ℕ → List Lexeme → ReaderState → Type 0
Signed text ls s = is_indicator s.laid.last ≡ true → (y : Lexeme) × (ys : List Lexeme) × (ls ≡ y ∷ ys)
    × From text y.shown.end.place.index s.here

pub sign_there : {in_flow adjacent : Bool} {column : ℕ} {text : List ℕ} {sort : PlacedSort}
    → Begins in_flow adjacent column text (Placed sort) → (c : ℕ) × (t : List ℕ) × (text ≡ c ∷ t)
    × ((sort ≡ QuestionSign) ⊎ (sort ≡ ColonSign) → is_quiet c ≡ false)
sign_there (sign {c = c} {text = t} m p d s) = (c, t, refl, λ e. loud s e)
  where
    loud : {in_flow adjacent : Bool} {next c : ℕ} {sort : PlacedSort} → SignBegins in_flow adjacent next c sort
        → (sort ≡ QuestionSign) ⊎ (sort ≡ ColonSign) → is_quiet c ≡ false
    loud (begins.SignBegins.question e) k = refl
    loud (begins.SignBegins.colon e) k = refl
    loud (begins.SignBegins.opens b) (inl e) = absurd cc
    loud (begins.SignBegins.opens b) (inr e) = absurd cc
    loud (begins.SignBegins.closes b) (inl e) = absurd cc
    loud (begins.SignBegins.closes b) (inr e) = absurd cc
    loud begins.SignBegins.comma (inl e) = absurd cc
    loud begins.SignBegins.comma (inr e) = absurd cc
    loud (begins.SignBegins.dash n) (inl e) = absurd cc
    loud (begins.SignBegins.dash n) (inr e) = absurd cc
    loud begins.SignBegins.alias (inl e) = absurd cc
    loud begins.SignBegins.alias (inr e) = absurd cc
    loud begins.SignBegins.anchor (inl e) = absurd cc
    loud begins.SignBegins.anchor (inr e) = absurd cc
    loud begins.SignBegins.tag (inl e) = absurd cc
    loud begins.SignBegins.tag (inr e) = absurd cc
    loud (begins.SignBegins.block v n) (inl e) = absurd cc
    loud (begins.SignBegins.block v n) (inr e) = absurd cc
    loud (begins.SignBegins.quote v) (inl e) = absurd cc
    loud (begins.SignBegins.quote v) (inr e) = absurd cc
    loud begins.SignBegins.stray (inl e) = absurd cc
    loud begins.SignBegins.stray (inr e) = absurd cc
    loud (begins.SignBegins.nothing r n) (inl e) = absurd cc
    loud (begins.SignBegins.nothing r n) (inr e) = absurd cc
    loud (begins.SignBegins.other a b d e f g i j k m n) (inl z) = absurd cc
    loud (begins.SignBegins.other a b d e f g i j k m n) (inr z) = absurd cc
