-- What stands behind a directive on its line, and a directive with its line's end.
pub use Rattle.granit_handles.proofs.TagFronts.{tag_refused, tag_stands}
pub use Rattle.granit_handles.proofs.TagFronts.{name_is, name_refused, name_stands}
pub use Rattle.granit_handles.proofs.TagFronts.{tag_is}
use Rattle.std.proofs.Common.{◌≡◌, ℕ, suc, ◌==◌, Bool, true, false, not, ◌&&◌, ◌||◌, List, [], ◌∷◌, length, drop}
use Rattle.std.proofs.Common.{Option, Some, None, inl, inr, ◌⊎◌, Result, Ok, Err, refl, sym, ap, ◌∙◌, subst, arith}
use Rattle.std.specs.Prelude.{if◌then◌else◌}
use Rattle.std.proofs.Math.Seq.{drop-append_seam}
use Rattle.std.proofs.lemmas.Bool.{cond-true, cond-false}
use Rattle.std.proofs.lemmas.Bool.Decides.{nat_tests}
use Rattle.granit_base.specs.Classes.{is_blank, is_break, is_breakz, is_z}
use Rattle.granit_base.specs.Place.{Mark, first}
use Rattle.granit_error.specs.FaultKind.{FaultKind, CommentNotSeparated, DirectiveDisallowed}
use Rattle.granit_error.specs.FaultKind.{InvalidDirectiveTerminator}
use Rattle.granit_error.specs.OptionsData.{OptionsData}
use Rattle.granit_lexemes.proofs.CharTests.{blank_no_hash}
use Rattle.granit_lexemes.specs.Basics.{fails_at}
use Rattle.granit_lexemes.specs.Comment.{CommentRead, comment, StandsComment, ReadsComment}
use Rattle.granit_lexemes.specs.Directive.{DirectiveRead, is_reserved, directive_at, directive_tail, directive_read}
use Rattle.granit_lexemes.specs.Directive.{directive_up_to, directive_behind, directive}
use Rattle.granit_lexemes.specs.DirectiveExtent.{All, DirectiveStands, may_comment, DirectiveLineEnds, nothing}
use Rattle.granit_lexemes.specs.DirectiveExtent.{comment as noted_comment, WrongLineEnd, touching, spoiled, unended}
use Rattle.granit_lexemes.specs.DirectiveExtent.{AnswersDirective, RefusesDirective, disallowed, wrong, line}
use Rattle.granit_lexemes.specs.Here.{Here, next_char, mark_of}
use Rattle.granit_lexemes.specs.Lexeme.{DirectiveKind}
use Rattle.granit_lexemes.specs.Moves.{steps}
use Rattle.granit_lexemes.specs.Outcome.{Fault, fault_at, ◌>>=◌}
use Rattle.granit_lexemes.specs.PlainExtent.{over, starts_comment}
use Rattle.granit_lexemes.specs.Source.{Source}
use Rattle.granit_lexemes.specs.Tail.{tail_behind}
use Rattle.granit_lexemes.proofs.HereLemmas.{not_empty}
use Rattle.granit_scalars.proofs.Comments.{steps_text, comment_reads, comment_answered, with_note}
use Rattle.granit_scalars.proofs.Nameless.{IsNameless, comment_none}
use Rattle.granit_scalars.proofs.QuotedEscapes.{over_text}
use Rattle.granit_lexemes.specs.DirectiveCause.{DirectiveCause}
use Rattle.granit_scalars.proofs.CommentCauses.{comment_spoiled}
use Rattle.granit_handles.proofs.VersionLaw.{count_over}
use Rattle.granit_handles.proofs.VersionLaw.{no_blank_nul, all_over, all_past}
use Rattle.granit_directive_laws.proofs.DirectiveLaw.{DirectiveAnswered, directive_answered, directive_is}

-- what the function gives behind some blanks
abbrev pub given_tail : (reserved : Bool) (blanks : List ℕ) → Here → Result (Option CommentRead × Here) Fault
given_tail reserved blanks g =
    if not (next_char g == 0x23) then Ok (None, g)
    else if may_comment reserved blanks then with_note (comment g)
    else fails_at CommentNotSeparated (mark_of g)

abbrev blank_tail : Here → ℕ → Here → Result (Option CommentRead × Here) Fault
blank_tail end n g =
    if not (next_char g == 0x23) then Ok (None, g)
    else if n == 0 then fails_at CommentNotSeparated (mark_of g)
    else with_note (comment g)

none_before : (reserved hash : Bool) (r s : Result (Option CommentRead × Here) Fault) (end : Here)
    → (if reserved && hash then r else if not hash then Ok (None, end) else s)
    ≡ (if not hash then Ok (None, end) else if reserved || false then r else s)
none_before true true r s end = refl
none_before true false r s end = refl
none_before false true r s end = refl
none_before false false r s end = refl

some_before : (reserved hash again some : Bool) (r s t : Result (Option CommentRead × Here) Fault) (g : Here)
    → hash ≡ false → some ≡ false
    → (if reserved && hash then r else if not again then Ok (None, g) else if some then t else s)
    ≡ (if not again then Ok (None, g) else if reserved || not some then s else t)
some_before true true again some r s t g e n = absurd cc
some_before false true again some r s t g e n = absurd cc
some_before reserved false again true r s t g e n = absurd cc
some_before true false true false r s t g e n = refl
some_before true false false false r s t g e n = refl
some_before false false true false r s t g e n = refl
some_before false false false false r s t g e n = refl

tail_by : (reserved : Bool) (end : Here) (blanks rest : List ℕ) → All is_blank end.unread.text blanks rest
    → (if reserved && next_char end == 0x23 then with_note (comment end) else blank_tail end (length blanks)
    (over blanks end)) ≡ given_tail reserved blanks (over blanks end)
tail_by reserved end [] rest a = none_before reserved (next_char end == 0x23) (with_note (comment end))
    (fails_at CommentNotSeparated (mark_of end)) end
tail_by reserved end (b ∷ blanks) rest a =
    let n : (next_char end == 0x23) ≡ false = ap (λ (t : List ℕ). first t == 0x23) a.whole ∙ blank_no_hash b a.each.0 in
    let g = over (b ∷ blanks) end in
    some_before reserved (next_char end == 0x23) (next_char g == 0x23) (length (b ∷ blanks) == 0)
    (with_note (comment end)) (with_note (comment g)) (fails_at CommentNotSeparated (mark_of g)) g n
    (not_empty b blanks)

pub tail_run : (kind : DirectiveKind) (end : Here) (blanks rest : List ℕ) → All is_blank end.unread.text blanks rest
    → directive_tail kind end ≡ given_tail (is_reserved kind) blanks (over blanks end)
unfolding directive_tail tail_behind
tail_run kind end blanks rest a =
    ap (λ (r : Result (Option CommentRead × Here) Fault). if is_reserved kind
    && next_char end == 0x23 then with_note (comment end) else r)
    (ap (tail_behind end) (all_past is_blank no_blank_nul end blanks rest a)
    ∙ ap (λ n. blank_tail end n (over blanks end)) (count_over blanks rest end a.whole))
    ∙ tail_by (is_reserved kind) end blanks rest a

-- ---- what is read is there

-- a comment goes up to its line's end
break_ends : (behind : List ℕ) → (behind ≡ []) ⊎ (is_break (first behind) ≡ true) → is_breakz (first behind) ≡ true
unfolding is_breakz is_z is_break
break_ends behind (inl e) = ap (λ (t : List ℕ). is_breakz (first t)) e
break_ends behind (inr y) = ap (λ b. b || is_z (first behind)) y

comment_ends : (h : Here) (c : CommentRead) (after : Here) → StandsComment h c after
    → is_breakz (next_char after) ≡ true
unfolding steps
comment_ends h c after s =
    let cs = c.text.characters in
    let text : after.unread.text ≡ s.spelled.behind =
    ap (λ (g : Here). g.unread.text) s.lands ∙ steps_text (suc (length cs)) h
    ∙ ap (drop (suc (length cs))) s.spelled.spelled ∙ drop-append_seam cs s.spelled.behind in
    ap (λ (t : List ℕ). is_breakz (first t)) text ∙ break_ends s.spelled.behind s.spelled.ends

hash_no_end : (c : ℕ) → is_breakz c ≡ true → (c == 0x23) ≡ false
unfolding is_breakz is_break is_z
hash_no_end c e = grind (arith, nat_tests)

abbrev pub LineAnswered : (h : Here) (kind : DirectiveKind) (end : Here) → Result (DirectiveRead × Here) Fault → Type 0
LineAnswered h kind end (Ok (read, after)) = DirectiveLineEnds (is_reserved kind) end read.noted after
    × (read ≡ directive_read h kind end read.noted)
LineAnswered h kind end (Err f) = WrongLineEnd (is_reserved kind) (mark_of h) end f.kind f.mark × (f.sources ≡ [])

module _ (h : Here) (kind : DirectiveKind) (end : Here) where
  up_to_if : (noted : Option CommentRead) (after : Here)
      → (is_breakz (next_char after) ≡ true → DirectiveLineEnds (is_reserved kind) end noted after)
      → (is_breakz (next_char after) ≡ false → WrongLineEnd (is_reserved kind) (mark_of h) end
      InvalidDirectiveTerminator (mark_of h)) → (v : Bool) → is_breakz (next_char after) ≡ v
      → LineAnswered h kind end (if v then Ok (directive_read h kind end noted, after) else fails_at
      InvalidDirectiveTerminator (mark_of h))
  up_to_if noted after stood failed true e = (stood e, refl)
  up_to_if noted after stood failed false e = (failed e, refl)

  up_to : (noted : Option CommentRead) (after : Here)
      → (is_breakz (next_char after) ≡ true → DirectiveLineEnds (is_reserved kind) end noted after)
      → (is_breakz (next_char after) ≡ false → WrongLineEnd (is_reserved kind) (mark_of h) end
      InvalidDirectiveTerminator (mark_of h)) → LineAnswered h kind end (directive_up_to h kind end noted after)
  unfolding directive_up_to
  up_to noted after stood failed = up_to_if noted after stood failed (is_breakz (next_char after)) refl

  module _ (blanks : List ℕ) (a : All is_blank end.unread.text blanks (over blanks end).unread.text) where
    abbrev place : Here
    place = over blanks end

    noted_on : may_comment (is_reserved kind) blanks ≡ true → starts_comment place.unread.text ≡ true
        → (r : Result (CommentRead × Here) Fault) → ReadsComment place r → IsNameless r
        → LineAnswered h kind end (with_note r >>= λ x. directive_up_to h kind end x.0 x.1)
    noted_on m y (Ok (c, after)) read plain = up_to (Some c) after (λ e. noted_comment a m y read)
        (λ e. let z = comment_ends place c after read in absurd cc)
    noted_on m y (Err f) read plain = (spoiled a m y read, plain.none f refl)

    may_if : starts_comment place.unread.text ≡ true → (v : Bool) → may_comment (is_reserved kind) blanks ≡ v
        → LineAnswered h kind end ((if v then with_note (comment place) else fails_at CommentNotSeparated
        (mark_of place)) >>= λ x. directive_up_to h kind end x.0 x.1)
    may_if y true m = noted_on m y (comment place)
        (comment_reads place (let is : next_char place ≡ 0x23 = grind (arith, nat_tests) in is)) (comment_none place)
    may_if y false m = touched blanks m refl
      where
        touched : (l : List ℕ) → may_comment (is_reserved kind) l ≡ false → blanks ≡ l
            → LineAnswered h kind end (fails_at CommentNotSeparated (mark_of place))
        touched [] n is =
            let none : is_reserved kind ≡ false = not_reserved (is_reserved kind) n in
            let same : place ≡ end = ap (λ (l : List ℕ). over l end) is in
            subst (λ (g : Here). LineAnswered h kind end (fails_at CommentNotSeparated (mark_of g))) (sym same)
            (touching none (ap (λ (g : Here). starts_comment g.unread.text) (sym same) ∙ y), refl)
          where
            not_reserved : (b : Bool) → (b || false) ≡ false → b ≡ false
            not_reserved true e = cc
            not_reserved false e = refl
        touched (b ∷ l) n is = absurd (some (is_reserved kind)
            (ap (λ t. is_reserved kind || not t) (sym (not_empty b l)) ∙ n))
          where
            some : (b : Bool) → (b || true) ≡ false → ⊥
            some true e = cc
            some false e = cc

    hash_if : (v : Bool) → (next_char place == 0x23) ≡ v
        → LineAnswered h kind end ((if not v then Ok (None, place) else if may_comment (is_reserved kind) blanks then
        with_note (comment place) else fails_at CommentNotSeparated (mark_of place)) >>= λ x. directive_up_to h kind end
        x.0 x.1)
    hash_if true e = may_if e (may_comment (is_reserved kind) blanks) refl
    hash_if false e = up_to None place (λ y. nothing a y) (λ n. unended a e n)

  pub line_answered : LineAnswered h kind end (directive_behind h kind end)
  line_answered =
      let b = all_over is_blank no_blank_nul end in
      subst (λ (r : Result (Option CommentRead × Here) Fault). LineAnswered h kind end
      (r >>= λ x. directive_up_to h kind end x.0 x.1)) (sym (tail_run kind end b.0 (over b.0 end).unread.text b.1))
      (hash_if b.0 b.1 (next_char (over b.0 end) == 0x23) refl)

-- ---- what stands there is read

line_end_is : (h : Here) (kind : DirectiveKind) (end : Here) (noted : Option CommentRead) (after : Here)
    → DirectiveLineEnds (is_reserved kind) end noted after
    → directive_behind h kind end ≡ Ok (directive_read h kind end noted, after)
unfolding directive_up_to
line_end_is h kind end noted after (nothing {blanks} {rest} a y) =
    let t : (over blanks end).unread.text ≡ rest = over_text blanks rest end a.whole in
    let z : is_breakz (next_char (over blanks end)) ≡ true = ap (λ (l : List ℕ). is_breakz (first l)) t ∙ y in
    let n : not (next_char (over blanks end) == 0x23) ≡ true = ap not (hash_no_end (next_char (over blanks end)) z) in
    ap (λ (r : Result (Option CommentRead × Here) Fault). r >>= λ x. directive_up_to h kind end x.0 x.1)
    (tail_run kind end blanks rest a ∙ cond-true (not (next_char (over blanks end) == 0x23)) _ _ n)
    ∙ cond-true (is_breakz (next_char (over blanks end))) _ _ z
line_end_is h kind end noted after (noted_comment {blanks} {rest} {c} a m y s) =
    let t : (over blanks end).unread.text ≡ rest = over_text blanks rest end a.whole in
    let n : not (next_char (over blanks end) == 0x23) ≡ false = ap not (ap (λ (l : List ℕ). first l == 0x23) t ∙ y) in
    ap (λ (r : Result (Option CommentRead × Here) Fault). r >>= λ x. directive_up_to h kind end x.0 x.1)
    (tail_run kind end blanks rest a
    ∙ cond-false (not (next_char (over blanks end) == 0x23)) _ _ n
    ∙ cond-true (may_comment (is_reserved kind) blanks) _ _ m
    ∙ ap with_note (comment_answered (over blanks end) c after s))
    ∙ cond-true (is_breakz (next_char after)) _ _ (comment_ends (over blanks end) c after s)

-- ---- what is wrong there is refused

hash_no_blank : (c : ℕ) → (c == 0x23) ≡ true → is_blank c ≡ false
hash_no_blank c e = by (is_blank c) refl
  where
    by : (v : Bool) → is_blank c ≡ v → v ≡ false
    by false p = refl
    by true p = absurd (let n = blank_no_hash c p in cc)

pub line_end_wrong : (h : Here) (kind : DirectiveKind) (end : Here) {wrong : FaultKind} {m : Mark}
    → WrongLineEnd (is_reserved kind) (mark_of h) end wrong m → directive_behind h kind end ≡ Err (fault_at wrong m)
unfolding directive_up_to
line_end_wrong h kind end (touching none y) =
    let a : All is_blank end.unread.text [] end.unread.text =
    record { whole = refl; each = tt; all = hash_no_blank (next_char end) y } in
    ap (λ (r : Result (Option CommentRead × Here) Fault). r >>= λ x. directive_up_to h kind end x.0 x.1)
    (tail_run kind end [] end.unread.text a
    ∙ cond-false (not (next_char end == 0x23)) _ _ (ap not y)
    ∙ cond-false (may_comment (is_reserved kind) []) _ _ (ap (λ b. b || false) none))
line_end_wrong h kind end (spoiled {blanks} {rest} a m y s) =
    let t : (over blanks end).unread.text ≡ rest = over_text blanks rest end a.whole in
    ap (λ (r : Result (Option CommentRead × Here) Fault). r >>= λ x. directive_up_to h kind end x.0 x.1)
    (tail_run kind end blanks rest a
    ∙ cond-false (not (next_char (over blanks end) == 0x23)) _ _
    (ap not (ap (λ (l : List ℕ). first l == 0x23) t ∙ y))
    ∙ cond-true (may_comment (is_reserved kind) blanks) _ _ m
    ∙ ap with_note (comment_spoiled (over blanks end) s))
line_end_wrong h kind end (unended {blanks} {rest} a n z) =
    let t : (over blanks end).unread.text ≡ rest = over_text blanks rest end a.whole in
    ap (λ (r : Result (Option CommentRead × Here) Fault). r >>= λ x. directive_up_to h kind end x.0 x.1)
    (tail_run kind end blanks rest a
    ∙ cond-true (not (next_char (over blanks end) == 0x23)) _ _
    (ap not (ap (λ (l : List ℕ). first l == 0x23) t ∙ n)))
    ∙ cond-false (is_breakz (next_char (over blanks end))) _ _ (ap (λ (l : List ℕ). is_breakz (first l)) t ∙ z)

-- ---- the whole

abbrev pub WholeAnswered : OptionsData → Here → Result (DirectiveRead × Here) Fault → Type 0
WholeAnswered o h (Ok (read, after)) = AnswersDirective o h read after
WholeAnswered o h (Err f) = DirectiveCause o h f.kind f.mark × (f.sources ≡ [])

module _ (o : OptionsData) (h : Here) where
  whole_line : o.disallow_directives ≡ false → (kind : DirectiveKind) (end : Here) → DirectiveStands o h kind end
      → (r : Result (DirectiveRead × Here) Fault) → LineAnswered h kind end r → WholeAnswered o h r
  whole_line n kind end s (Ok (read, after)) l =
      let k : kind ≡ read.kind = sym (ap (λ (d : DirectiveRead). d.kind) l.1) in
      record {
        allowed = n;
        end = end;
        stands = subst (λ (d : DirectiveKind). DirectiveStands o h d end) k s;
        line = subst (λ (d : DirectiveKind). DirectiveLineEnds (is_reserved d) end read.noted after) k l.0;
        place = ap (λ (d : DirectiveRead). d.source) l.1;
      }
  whole_line n kind end s (Err f) l = (record { cause = line n s l.0; first = tt }, l.1)

  whole_on : o.disallow_directives ≡ false → (r : Result (DirectiveKind × Here) Fault) → DirectiveAnswered o h r
      → WholeAnswered o h (r >>= λ x. directive_behind h x.0 x.1)
  whole_on n (Ok (kind, end)) a = whole_line n kind end a (directive_behind h kind end) (line_answered h kind end)
  whole_on n (Err f) a = (record { cause = wrong n a.0.wrong; first = a.0.first }, a.1)

  allowed_if : next_char h ≡ 0x25 → (v : Bool) → o.disallow_directives ≡ v
      → WholeAnswered o h (if v then fails_at DirectiveDisallowed (mark_of h) else directive_at o h >>=
      λ x. directive_behind h x.0 x.1)
  allowed_if sign true e = (record { cause = disallowed e; first = tt }, refl)
  allowed_if sign false e = whole_on e (directive_at o h) (directive_answered o h sign)

  whole_answered : next_char h ≡ 0x25 → WholeAnswered o h (directive o h)
  unfolding directive
  whole_answered sign = allowed_if sign o.disallow_directives refl

pub whole_stands : (o : OptionsData) (h : Here) (read : DirectiveRead) (after : Here) → next_char h ≡ 0x25
    → directive o h ≡ Ok (read, after) → AnswersDirective o h read after
whole_stands o h read after b e = subst (WholeAnswered o h) e (whole_answered o h b)

pub whole_caused : (o : OptionsData) (h : Here) (f : Fault) → next_char h ≡ 0x25 → directive o h ≡ Err f
    → DirectiveCause o h f.kind f.mark × (f.sources ≡ [])
whole_caused o h f b e = subst (WholeAnswered o h) e (whole_answered o h b)

pub whole_refused : (o : OptionsData) (h : Here) (f : Fault) → next_char h ≡ 0x25 → directive o h ≡ Err f
    → RefusesDirective o h f.kind f.mark × (f.sources ≡ [])
whole_refused o h f b e = let c = whole_caused o h f b e in (c.0.cause, c.1)

pub whole_is : (o : OptionsData) (h : Here) (read : DirectiveRead) (after : Here) → AnswersDirective o h read after
    → directive o h ≡ Ok (read, after)
unfolding directive
whole_is o h read after a =
    cond-false o.disallow_directives _ _ a.allowed
    ∙ ap (λ (r : Result (DirectiveKind × Here) Fault). r >>= λ x. directive_behind h x.0 x.1)
    (directive_is o h read.kind a.end a.stands)
    ∙ line_end_is h read.kind a.end read.noted after a.line
    ∙ ap (λ (s : Source). Ok (record { kind = read.kind; source = s; noted = read.noted }, after)) (sym a.place)

pub one_whole : (o : OptionsData) (h : Here) (read other : DirectiveRead) (after behind : Here)
    → AnswersDirective o h read after → AnswersDirective o h other behind → (read ≡ other) × (after ≡ behind)
one_whole o h read other after behind p q =
    let e : ◌≡◌ {A = Result (DirectiveRead × Here) Fault} (Ok (read, after)) (Ok (other, behind)) = sym
    (whole_is o h read after p) ∙ whole_is o h other behind q in
    let pair : ◌≡◌ {A = DirectiveRead × Here} (read, after) (other, behind) = cc in
    (ap (λ (x : DirectiveRead × Here). x.0) pair, ap (λ (x : DirectiveRead × Here). x.1) pair)
