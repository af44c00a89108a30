-- What is held of the key outside all brackets behind the lexemes of a text, and that each held key is near.
use Rattle.std.proofs.Common.{◌≡◌, ℕ, ◌+◌, ◌≤◌, ◌<◌, ◌||◌, ◌&&◌, not, Bool, true, false, List, [], ◌∷◌, map, Option}
use Rattle.std.proofs.Common.{Some}
use Rattle.std.proofs.Common.{None, inl, inr, ◌⊎◌, refl, sym, ap, ◌∙◌, subst, arith}
use Rattle.std.proofs.lemmas.Bool.{ltb-false}
use Rattle.std.specs.Prelude.{nat_lt}
use Rattle.std.proofs.lemmas.Bool.Decides.{nat_tests}
use Rattle.granit_base.specs.Place.{Mark}
use Rattle.granit_error.specs.OptionsData.{OptionsData}
use Rattle.granit_language.specs.Before.{freshened, closed_for}
use Rattle.granit_language.specs.Fitting.{Opens}
use Rattle.granit_language.specs.HeldSaid.{HeldKeySays, Lead, Pending, KeysAround, Depths, RunsSay, has_ended}
use Rattle.granit_language.specs.KeyRuns.{role, whole_none, too_far}
use Rattle.granit_language.specs.OpenColumns.{latest}
use Rattle.granit_language.specs.Reached.{ends_column_by, Reads, of_comment, of_lexeme, Reached, stops, goes_on}
use Rattle.granit_lexemes.specs.Here.{Here, mark_of, start_of}
use Rattle.granit_lexemes.specs.Lexeme.{Lexeme, Item}
use Rattle.granit_lexemes.specs.declared.layout.OpenBracket.{OpenBracket}
use Rattle.granit_lexemes.specs.declared.layout.PossibleKey.{PossibleKey}
use Rattle.granit_machine.specs.Laid.{Laid, is_in_flow, is_nonempty}
use Rattle.granit_machine.specs.PossibleKeys.{is_stale, fresh_key, fresh_bracket}
use Rattle.granit_machine.specs.Reader.{is_end}
use Rattle.granit_machine.specs.ReaderState.{ReaderState, reader_start}
use Rattle.granit_before.proofs.HeldWhole.{closed_brackets}
use Rattle.granit_before.proofs.HeldSteps.{closed_key}
use Rattle.granit_before.proofs.Numbered.{latest_noted}
use Rattle.granit_before.proofs.QuestionSaid.{latest_joined}
use Rattle.granit_before.proofs.TabsWhole.{At, start_at}
use Rattle.granit_before.proofs.Numbered.{fresh_some}
use Rattle.granit_before.proofs.TabsWhole.{gap_passes, given_places}
use Rattle.granit_key_runs.proofs.RunsKept.{Signed}
use Rattle.granit_key_runs.proofs.RunsLaw.{Onward, onward, fresh_near}
use Rattle.granit_key_runs.proofs.RunsOnce.{whole_once}
use Rattle.granit_key_runs.proofs.RunsWhole.{read_runs, start_says}
use Rattle.granit_before.proofs.HeldWhole.{Agrees}
use Rattle.granit_before.proofs.Numbered.{gap_agrees, telling}
use Rattle.granit_declared.proofs.Bracketed.{opened}
use Rattle.granit_before.proofs.HeldWhole.{opener_of, HeldSay, read_held}
use Rattle.granit_declared.proofs.OuterKey.{Near, Moves, moves, opened_line, opens_it, still_open, Kept}
use Rattle.granit_declared.proofs.OuterKey.{OuterKey, OuterSays, outer_fresh}
use Rattle.granit_before.specs.Openers.{Opener, openers_behind, openers}

-- ---- each held key is near

abbrev pub IsNear : OptionsData → Bool → Mark → Option PossibleKey → Type 0
IsNear o f m key = (k : PossibleKey) → key ≡ Some k → is_stale o f m k ≡ false

abbrev pub EachNear : OptionsData → Mark → List OpenBracket → Type 0
EachNear o m [] = Unit {0}
EachNear o m (b ∷ bs) = IsNear o true m b.key × EachNear o m bs

abbrev pub AllNear : OptionsData → Mark → Laid → Type 0
AllNear o m l = IsNear o (is_in_flow l) m l.key × EachNear o m l.brackets

fresh_all : (o : OptionsData) (m : Mark) (bs : List OpenBracket) (key : Option PossibleKey) →
    IsNear o (is_nonempty (map (fresh_bracket o m) bs)) m (fresh_key o (is_nonempty bs) m key)
    × EachNear o m (map (fresh_bracket o m) bs)
fresh_all o m [] key = (λ k e. fresh_near o false m key k e, tt)
fresh_all o m (b ∷ bs) key = (λ k e. fresh_near o true m key k e, each (b ∷ bs))
  where
    each : (bs : List OpenBracket) → EachNear o m (map (fresh_bracket o m) bs)
    each [] = tt
    each (b ∷ bs) = (λ k e. fresh_near o true m b.key k e, each bs)

-- ---- behind the first bracket

is_before : (a b : ℕ) → nat_lt a b ≡ true → a < b
is_before a b e = grind (arith, nat_tests, e)

module _ (o : OptionsData) (text : List ℕ) (h : Here) (x : Lexeme) (start : x.start ≡ mark_of h) where
  line_is : x.start.place.line ≡ h.place.line
  line_is = ap (λ (m : Mark). m.place.line) start

  not_later : (k : PossibleKey) → is_stale o false (mark_of h) k ≡ false → h.place.line ≤ k.start.place.line
  unfolding is_stale
  not_later k e = ltb-false k.start.place.line h.place.line
      (second (nat_lt (k.start.place.index + o.simple_key_max_lookahead) h.place.index)
      (nat_lt k.start.place.line h.place.line) e)
    where
      second : (a b : Bool) → (a || b) ≡ false → b ≡ false
      second true b e = absurd cc
      second false b e = e

  far_or_later : (first : Lexeme) (m : Mark) → m.place.line ≡ h.place.line → too_far o false first.start m ≡ true →
      (too_far o true first.start m ≡ true) ⊎ (first.start.place.line < x.start.place.line)
  far_or_later first m line e =
      on (nat_lt (first.start.place.index + o.simple_key_max_lookahead) m.place.index)
      (nat_lt first.start.place.line m.place.line) refl e
    where
      on : (a b : Bool) → nat_lt first.start.place.line m.place.line ≡ b → (a || (not false && b)) ≡ true →
          ((a || (not true && b)) ≡ true) ⊎ (first.start.place.line < x.start.place.line)
      on true b f e = inl refl
      on false true f e =
          let p = is_before first.start.place.line m.place.line f in
          let q = line_is in
          inr (omega (arith, p, q, line))
      on false false f e = absurd cc

  first_kept : (m : Mark) → m.place.line ≡ h.place.line → (first : Lexeme) (rest : List Lexeme)
      (key : Option PossibleKey) → IsNear o false (mark_of h) key → HeldKeySays o text false m key first rest →
      Kept o text m x first rest key
  first_kept m line first rest None n p = λ y. far_or_later first m line (p y)
  first_kept m line first rest (Some k) n p =
      let q = not_later k (n k refl) in
      let e = line_is in
      let s : k.start.place.line ≡ first.start.place.line = ap (λ (m : Mark). m.place.line) p.1 in
      (p.1, omega (arith, q, e, s))

  first_outer : (m : Mark) → m.place.line ≡ h.place.line → (ls : List Lexeme) (key : Option PossibleKey) →
      role x ≡ Opens → openers ls ≡ [] → IsNear o false (mark_of h) key → Pending o text false m (x ∷ ls) key →
      OuterKey o text m (x ∷ ls) key
  first_outer m line ls key r e n p =
      let same = whole_once p.whole p.opens whole_none r in
      record {
        opener = x;
        before = ls;
        since = opens_it r e;
        first = p.leads.first;
        rest = p.leads.rest;
        lead =
            subst (λ (ys : List Lexeme). Lead x ys p.leads.first p.leads.rest) same.1
            (subst (λ (y : Lexeme). Lead y p.before p.leads.first p.leads.rest) same.0 p.leads.lead);
        kept = first_kept m line p.leads.first p.leads.rest key n p.leads.holds;
      }

-- ---- one read

outer_as : (o : OptionsData) (text : List ℕ) (m : Mark) (ls : List Lexeme) {bs cs : List OpenBracket}
    {key old : Option PossibleKey} → bs ≡ cs → key ≡ old → OuterSays o text m ls cs old → OuterSays o text m ls bs key
outer_as o text m ls {bs = bs} {old = old} e f p =
    subst (OuterSays o text m ls bs) (sym f) (subst (λ bs. OuterSays o text m ls bs old) (sym e) p)

module _ (o : OptionsData) (text : List ℕ) where
  -- what is known along the lexemes of a text
  pub record Along (ls : List Lexeme) (s : ReaderState) : Type 0 where
    pub place : At text s.here
    pub runs : RunsSay o text (mark_of s.here) ls s.laid
    pub signed : Signed text ls s
    pub held : HeldSay ls s.laid
    pub outer : OuterSays o text (mark_of s.here) ls s.laid.brackets s.laid.key
    pub near : AllNear o (mark_of s.here) s.laid

  -- behind a lexeme, at a place further on
  lexeme_outer : (h : Here) (l after : Laid) (reached : Here) (ls : List Lexeme) (x : Lexeme) → x.start ≡ mark_of h →
      Onward (mark_of h) (mark_of reached) → Moves o h l after reached → IsNear o (is_in_flow l) (mark_of h) l.key →
      map opener_of l.brackets ≡ openers ls → (bs cs : List OpenBracket) → l.brackets ≡ bs → after.brackets ≡ cs →
      OuterSays o text (mark_of h) ls bs l.key →
      map opener_of (map (fresh_bracket o (mark_of reached)) cs) ≡ openers (x ∷ ls) →
      Depths o text (mark_of reached) (x ∷ ls) (map (fresh_bracket o (mark_of reached)) cs)
      (fresh_key o (is_nonempty cs) (mark_of reached) after.key) →
      OuterSays o text (mark_of reached) (x ∷ ls) (map (fresh_bracket o (mark_of reached)) cs)
      (fresh_key o (is_nonempty cs) (mark_of reached) after.key)
  lexeme_outer h l after reached ls x start w v n i bs [] e f j u d = tt
  lexeme_outer h l after reached ls x start w v n i (b ∷ bs) (c ∷ cs) e f j u d =
      outer_fresh o text (mark_of h) (mark_of reached) (x ∷ ls) w (c ∷ cs) after.key (record {
        opener = j.opener;
        before = j.before;
        since = still_open (opener_of c, map opener_of (map (fresh_bracket o (mark_of reached)) cs), sym u) j.since;
        first = j.first;
        rest = j.rest;
        lead = j.lead;
        kept = subst (Kept o text (mark_of h) j.opener j.first j.rest) (sym (v.in_flow b bs e)) j.kept;
      })
  lexeme_outer h l after reached ls x start w v n i [] (c ∷ cs) e f j u d =
      let none : openers ls ≡ [] = sym i ∙ ap (λ (bs : List OpenBracket). map opener_of bs) e in
      let p = opened x _ _ (sym (u ∙ ap (openers_behind x.kind x.start) none)) in
      only cs p.1 p.0 none d.1
    where
      near : IsNear o false (mark_of h) after.key
      near = v.outside e
          (subst (λ (bs : List OpenBracket). IsNear o (is_nonempty bs) (mark_of h) l.key) e n)

      only : (cs : List OpenBracket) → map opener_of (map (fresh_bracket o (mark_of reached)) cs) ≡ [] →
          role x ≡ Opens → openers ls ≡ [] →
          KeysAround o text (mark_of reached) (x ∷ ls) (map (fresh_bracket o (mark_of reached)) cs)
          (fresh_key o true (mark_of reached) after.key) →
          OuterKey o text (mark_of reached) (x ∷ ls) (fresh_key o true (mark_of reached) after.key)
      only [] g r none p =
          first_outer o text h x start (mark_of reached) (v.line c cs e f) ls _ r none
          (λ k g. near k (fresh_some o true (mark_of reached) after.key k g)) p
      only (d ∷ ds) g r none p = absurd cc

  read_along : {s after : ReaderState} {items : List Item} (ls : List Lexeme) → Reads o s items after →
      is_end items ≡ false → Along ls s → Along (latest items ls) after
  read_along {s = s} ls (of_comment at g k) y w =
      let r = of_comment at g k in
      let q = read_runs o text ls r w.place w.runs w.signed in
      record {
        place = q.place;
        runs = q.runs y;
        signed = q.signed y;
        held = read_held o ls r w.held;
        outer =
            outer_fresh o text (mark_of s.here) (mark_of at.here) ls
            (onward text w.place (gap_passes text g w.place).further) at.laid.brackets at.laid.key
            (outer_as o text (mark_of s.here) ls (gap_agrees g).brackets (gap_agrees g).key w.outer);
        near = fresh_all o (mark_of at.here) at.laid.brackets at.laid.key;
      }
  read_along {s = s} ls (of_lexeme {items = items} at behind sort comes given keys) y w =
      let r = of_lexeme at behind sort comes given keys in
      let q = read_runs o text ls r w.place w.runs w.signed in
      let held = read_held o ls r w.held in
      let f = freshened o at in
      let h = at.here in
      let l = closed_for sort h f.laid in
      let p = (gap_passes text comes.gap w.place).further in
      let further = ((given_places text o _ sort h _ items behind given.1).passes p.place).further in
      let t = telling o (ends_column_by sort f) h _ sort items behind given.1 in
      let x = t.lexeme in
      let same = ap (λ (is : List Item). latest is ls) t.are ∙ latest_noted x t.note ls in
      let a = gap_agrees comes.gap in
      let here : OuterSays o text (mark_of h) ls l.brackets l.key =
      outer_as o text (mark_of h) ls (closed_brackets sort h f.laid) (closed_key sort h f.laid)
      (outer_fresh o text (mark_of s.here) (mark_of h) ls (onward text w.place p) at.laid.brackets at.laid.key
      (outer_as o text (mark_of s.here) ls a.brackets a.key w.outer)) in
      let near : AllNear o (mark_of h) f.laid = fresh_all o (mark_of h) at.laid.brackets at.laid.key in
      let v = moves o h l x t.cut t.reached behind.here sort
      (opened_line o (ends_column_by sort f) sort h _ items behind comes.begins given.1) in
      record {
        place = q.place;
        runs = q.runs y;
        signed = q.signed y;
        held = held;
        outer =
            subst (λ (xs : List Lexeme). OuterSays o text (mark_of behind.here) xs (freshened o behind).laid.brackets
            (freshened o behind).laid.key) (sym same)
            (lexeme_outer h l behind.laid behind.here ls x t.told.start (onward text p.place further)
            (moved h l t.leaves v)
            (near_as (mark_of h) (closed_brackets sort h f.laid) (closed_key sort h f.laid) near.0)
            (ap (λ (bs : List OpenBracket). map opener_of bs) (closed_brackets sort h f.laid)
            ∙ (fresh_same (mark_of h) at.laid.brackets
            ∙ (ap (λ (bs : List OpenBracket). map opener_of bs) a.brackets ∙ w.held.brackets)))
            l.brackets behind.laid.brackets refl refl here (held.brackets ∙ ap openers same)
            (subst (λ (xs : List Lexeme). Depths o text (mark_of behind.here) xs (freshened o behind).laid.brackets
            (freshened o behind).laid.key) same (q.runs y).depths));
        near = fresh_all o (mark_of behind.here) behind.laid.brackets behind.laid.key;
      }
    where
      moved : (h : Here) (l : Laid) {a b : Laid} {reached : Here} → Agrees a b → Moves o h l b reached →
          Moves o h l a reached
      moved h l e v = record {
        in_flow = λ b bs g. e.key ∙ v.in_flow b bs g;
        outside = λ g n. subst (Near o h l) (sym e.key) (v.outside g n);
        line = λ b bs g i. v.line b bs g (sym e.brackets ∙ i);
      }

      near_as : (m : Mark) {bs cs : List OpenBracket} {key old : Option PossibleKey} → bs ≡ cs → key ≡ old →
          IsNear o (is_nonempty cs) m old → IsNear o (is_nonempty bs) m key
      near_as m {bs = bs} {old = old} e f n =
          subst (IsNear o (is_nonempty bs) m) (sym f)
          (subst (λ (bs : List OpenBracket). IsNear o (is_nonempty bs) m old) (sym e) n)

      fresh_same : (m : Mark) (bs : List OpenBracket) → map opener_of (map (fresh_bracket o m) bs) ≡ map opener_of bs
      fresh_same m [] = refl
      fresh_same m (b ∷ bs) = ap (λ (ys : List Opener). opener_of b ∷ ys) (fresh_same m bs)

  -- ---- all reads

  pub end_read : (ls : List Lexeme) {s after : ReaderState} {items : List Item} → Reads o s items after →
      is_end items ≡ true → has_ended (latest items ls) ≡ true
  end_read ls (of_comment at g k) e = absurd cc
  end_read ls (of_lexeme {items = items} at behind sort comes given keys) e =
      let f = freshened o at in
      let t = telling o (ends_column_by sort f) f.here _ sort items behind given.1 in
      ap has_ended (ap (λ (is : List Item). latest is ls) t.are ∙ latest_noted t.lexeme t.note ls)
      ∙ sym (ap is_end t.are) ∙ e

  along_reach : {s t : ReaderState} {items : List Item} (ls : List Lexeme) → Reached o s items t → Along ls s →
      has_ended (latest items ls) ≡ false → Along (latest items ls) t
  along_reach ls stops w n = w
  along_reach {t = t} ls (goes_on next items more read last rest e) w n =
      let same = ap (λ (is : List Item). latest is ls) e ∙ latest_joined items more ls in
      subst (λ (xs : List Lexeme). Along xs t) (sym same)
      (on (is_end items) refl (sym (ap has_ended same) ∙ n)
      (λ y n. along_reach (latest items ls) rest (read_along ls read y w) n))
    where
      on : (v : Bool) → is_end items ≡ v → has_ended (latest more (latest items ls)) ≡ false →
          (is_end items ≡ false → has_ended (latest more (latest items ls)) ≡ false →
          Along (latest more (latest items ls)) t) → Along (latest more (latest items ls)) t
      on true y n g =
          absurd (let z = end_read ls read y in
          let u = sym (ap (λ (more : List Item). has_ended (latest more (latest items ls))) (last y)) ∙ n in
          let q = sym z ∙ u in cc)
      on false y n g = g y n

  pub along : (items : List Item) (t : ReaderState) → Reached o (reader_start (start_of text)) items t →
      has_ended (latest items []) ≡ false → Along (latest items []) t
  along items t r n =
      along_reach [] r (record {
        place = start_at text;
        runs = start_says o text (start_of text);
        signed = λ e. absurd cc;
        held =
            record {
              columns =
                  record { columns = record { are_open = λ c p. p; are_kept = λ c p. p; fall = tt }; key = tt };
              number = refl;
              keys = record { says = (tt, tt); heads = tt };
              brackets = refl;
            };
        outer = tt;
        near = (λ k e. absurd cc, tt);
      }) n
