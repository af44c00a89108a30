-- Each open column is right of the one around it.
use Rattle.std.proofs.Common.{◌≡◌, ℕ, ◌==◌, Bool, true, false, List, [], ◌∷◌, Some, refl, sym, ap, subst}
use Rattle.std.proofs.lemmas.Bool.{eqb-true}
use Rattle.std.specs.Prelude.{nat_lt}
use Rattle.granit_error.specs.OptionsData.{OptionsData}
use Rattle.granit_lexemes.specs.Here.{Here}
use Rattle.granit_lexemes.specs.Lexeme.{Lexeme, Item}
use Rattle.granit_machine.specs.Laid.{Laid}
use Rattle.granit_machine.specs.ReaderState.{ReaderState, reader_start}
use Rattle.granit_language.specs.Before.{freshened}
use Rattle.granit_language.specs.OpenColumns.{latest, AtMost, columns_of}
use Rattle.granit_language.specs.Reached.{ends_column_by, Reads, of_comment, of_lexeme, Reached, stops, goes_on}
use Rattle.granit_places.proofs.ColumnsKept.{chosen, pop, push, pop_at_most, pop_below, KeySays, OpenSays, Change}
use Rattle.granit_places.proofs.ColumnsKept.{nothing, all_end, passes, own, keyed}
use Rattle.granit_places.proofs.ColumnsLaw.{columns_change, cols}
use Rattle.granit_places.proofs.ColumnsWhole.{agrees_said, fresh_said, reads_said}
use Rattle.granit_places.proofs.Telling.{gap_agrees, telling}
use Rattle.granit_invariants.specs.RisingColumns.{RightOf, Rise}
use Rattle.granit_places.proofs.ColumnsLaw.{is_below}

-- ---- lists

pop_rise : (k : ℕ) (ns : List ℕ) → Rise ns → Rise (pop k ns)
pop_rise k [] r = tt
pop_rise k (n ∷ ns) r = on (nat_lt k n) (pop_rise k ns r.1)
  where
    on : (v : Bool) → Rise (pop k ns) → Rise (chosen v (pop k ns) (n ∷ ns))
    on true q = q
    on false q = r

push_rise : (c : ℕ) (ns : List ℕ) → AtMost c ns → Rise ns → Rise (push c ns)
push_rise c [] p r = (tt, tt)
push_rise c (n ∷ ns) p r = on (n == c) refl
  where
    on : (v : Bool) → (n == c) ≡ v → Rise (c ∷ chosen v ns (n ∷ ns))
    on true e = (subst (λ a. RightOf a ns) (eqb-true n c e) r.0, r.1)
    on false e = (is_below n c e p.0, r)

-- ---- one lexeme

changed_rise : (ls : List Lexeme) (s : Laid) (l : Lexeme) (after : Laid) → OpenSays ls s → Rise (columns_of s)
    → Change s l after → Rise (columns_of after)
changed_rise ls s l after m r (nothing flow e k) = subst Rise (sym e) r
changed_rise ls s l after m r (all_end flow stream e k) = subst Rise (sym e) tt
changed_rise ls s l after m r (passes flow stream none e k) = subst Rise (sym e)
    (pop_rise l.start.place.column (columns_of s) r)
changed_rise ls s l after m r (own flow stream is here e k) =
    let c = l.start.place.column in
    subst Rise (sym e) (push_rise c (pop c (columns_of s)) (pop_below c (columns_of s) m.columns.fall)
    (pop_rise c (columns_of s) r))
changed_rise ls s l after m r (keyed k flow colon key old e none) =
    let c = l.start.place.column in
    let q : KeySays ls s (Some k) = subst (KeySays ls s) old m.key in
    subst Rise (sym e) (push_rise k.start.place.column (pop c (columns_of s))
    (pop_at_most k.start.place.column c (columns_of s) q.1) (pop_rise c (columns_of s) r))

-- ---- all of a text

reads_rise : (o : OptionsData) (ls : List Lexeme) {s after : ReaderState} {items : List Item} → Reads o s items after
    → OpenSays ls s.laid → Rise (columns_of s.laid) → Rise (columns_of after.laid)
reads_rise o ls {s = s} (of_comment at g k) m r = let a = gap_agrees g in subst Rise (sym (ap cols a.columns)) r
reads_rise o ls {s = s} (of_lexeme {items = items} at behind sort comes given keys) m r =
    let f = freshened o at in
    let a = gap_agrees comes.gap in
    let n = fresh_said o ls at (agrees_said ls s.laid at.laid a m) in
    let t = telling o (ends_column_by sort f) f.here _ sort items behind given.1 in
    changed_rise ls f.laid t.lexeme behind.laid n (subst Rise (sym (ap cols a.columns)) r)
    (columns_change o sort f.here f.laid t.lexeme t.cut t.reached behind.laid t.told t.says t.leaves)

reached_rise : (o : OptionsData) (ls : List Lexeme) {s t : ReaderState} {items : List Item} → Reached o s items t
    → OpenSays ls s.laid → Rise (columns_of s.laid) → Rise (columns_of t.laid)
reached_rise o ls stops m r = r
reached_rise o ls {t = t} (goes_on next items more read last rest e) m r = reached_rise o (latest items ls) rest
    (reads_said o ls read m) (reads_rise o ls read m r)

pub columns_rise : (o : OptionsData) (h : Here) (items : List Item) (t : ReaderState)
    → Reached o (reader_start h) items t → Rise (columns_of t.laid)
columns_rise o h items t r = reached_rise o [] r
    (record { columns = record { are_open = λ c p. p; are_kept = λ c p. p; fall = tt }; key = tt }) tt
