-- Each lexeme takes a character.
use Rattle.std.proofs.Common.{◌≡◌, ℕ, suc, ◌-◌, ◌≤◌, ◌==◌, Bool, true, false, List, [], ◌∷◌, length, Option, Some}
use Rattle.std.proofs.Common.{None, Result, Ok, Err, refl, arith}
use Rattle.std.proofs.lemmas.Bool.{or_parts}
use Rattle.std.specs.Prelude.{if◌then◌else◌}
use Rattle.std.proofs.lemmas.List.{length-drop}
use Rattle.granit_base.specs.Classes.{is_blank, is_break, is_gap}
use Rattle.granit_base.specs.Place.{first}
use Rattle.granit_error.specs.OptionsData.{OptionsData}
use Rattle.granit_lexemes.specs.Basics.{past_break}
use Rattle.granit_lexemes.specs.BlockScalar.{block_scalar}
use Rattle.granit_lexemes.specs.Comment.{CommentRead, comment}
use Rattle.granit_lexemes.specs.Directive as directives
use Rattle.granit_lexemes.specs.Here.{Here, text_len, next_char, step, chosen, past, mark_of}
use Rattle.granit_lexemes.specs.Lexeme.{Open, Close, Comma, Dash, Question, Lexeme, Item, DocumentEnd}
use Rattle.granit_lexemes.specs.declared.layout.Bracket.{Bracket}
use Rattle.granit_lexemes.specs.Moves.{steps, past_prefix_mark}
use Rattle.granit_lexemes.specs.Outcome.{Fault, ◌>>=◌}
use Rattle.granit_lexemes.specs.PlainScalar.{plain_scalar}
use Rattle.granit_base.specs.PlainContent.{is_content}
use Rattle.granit_lexemes.specs.QuotedScalar.{quoted_scalar}
use Rattle.granit_lexemes.specs.Tags.{name_at, tag_at}
use Rattle.granit_lexemes.specs.Tail.{tail_at}
use Rattle.granit_lexemes.proofs.HereLemmas.{seen}
use Rattle.granit_machine.specs.Columns.{with_entry, with_pair}
use Rattle.granit_machine.specs.FlowLexemes.{opened, opener, closed_bracket, closes, closer_by, closer, last_of_comma}
use Rattle.granit_machine.specs.FlowLexemes.{comma}
use Rattle.granit_machine.specs.Gaps.{leading_tab, refuse_tab, refuse_cut, at_prefix_mark, begins_gap, over_gap_char}
use Rattle.granit_machine.specs.Gaps.{skip_gap, past_gap, over_break_if, takes_prefix, GapRead, behind_note, noted_gap}
use Rattle.granit_machine.specs.Gaps.{ready_gap, gap_ends, gap}
use Rattle.granit_machine.specs.IndicatorLexemes.{behind_dash, dash_up_to, dash, question_noted, question_up_to}
use Rattle.granit_machine.specs.IndicatorLexemes.{behind_question, question_by, question, keyed_colon, bare_colon}
use Rattle.granit_machine.specs.IndicatorLexemes.{colon_by_key, colon_tail, colon, keyed_given, bare_given}
use Rattle.granit_machine.specs.IndicatorLexemes.{colon_lexeme}
use Rattle.granit_machine.specs.Laid.{Laid, is_in_flow, block_column}
use Rattle.granit_lexemes.specs.declared.layout.LastLexeme.{LastLexeme}
use Rattle.granit_lexemes.specs.declared.layout.LastLexeme.TheVariants.{Opener, Adjacent}
use Rattle.granit_lexemes.specs.declared.layout.PossibleKey.{PossibleKey}
use Rattle.granit_lexemes.specs.declared.layout.OpenBracket.{OpenBracket}
use Rattle.granit_machine.specs.NodeLexemes.{alias_lexeme, anchor_lexeme, tag_lexeme, block_lexeme, plain_lexeme}
use Rattle.granit_machine.specs.NodeLexemes.{quoted_lexeme, with_note, with_gap, quoted_and_gap}
use Rattle.granit_machine.specs.PossibleKeys.{top_key, drop_key, layout_of, start_of_key}
use Rattle.granit_machine.specs.ReaderState.{ReaderState, lexeme_to, sign_lexeme, tailed_by, tailed}
use Rattle.granit_machine.specs.StreamLexemes.{end_mark_up_to, end_mark, directive_given, directive_lexeme}
use Rattle.granit_termination.proofs.BlockLengths.{block_scalar-fits}
use Rattle.granit_termination.proofs.LengthLemmas.{Fits, fits_if, fits_bind, fits_behind, here_if, step-fits, step-less}
use Rattle.granit_termination.proofs.LengthLemmas.{past-fits, past_break-fits, comment-fits, tail_at-fits}
use Rattle.granit_termination.proofs.ScalarLengths.{plain_scalar-fits, quoted_scalar-fits}
use Rattle.granit_termination.proofs.TagLengths.{name_at-fits, tag_at-fits, directive-fits}

abbrev pub reader_len : ReaderState → ℕ
reader_len s = text_len s.here

-- ---- gaps

over_break_if-fits : (n : ℕ) (h : Here) → text_len h ≤ n → text_len (over_break_if h) ≤ n
unfolding over_break_if
over_break_if-fits n h p = here_if n (is_break (next_char h)) (past_break h) h (past_break-fits n h p) p

past_prefix_mark-fits : (n : ℕ) (h : Here) → text_len h ≤ n → text_len (past_prefix_mark h) ≤ n
unfolding past_prefix_mark
past_prefix_mark-fits n h p = let m = length-drop 1 h.unread.text in omega (arith, m, p)

pub past_prefix_mark-less : (n : ℕ) (h : Here) → text_len h ≤ suc n → text_len (past_prefix_mark h) ≤ n
unfolding past_prefix_mark
past_prefix_mark-less n h p = let m = length-drop 1 h.unread.text in omega (arith, m, p)

chosen-len : (n : ℕ) (b : Bool) (g h : Here) → text_len g ≤ n → text_len h ≤ n → text_len (chosen b g h) ≤ n
chosen-len n true g h p q = p
chosen-len n false g h p q = q

over_gap_char-fits : (may_prefix : Bool) (n : ℕ) (h : Here) → text_len h ≤ n → text_len (over_gap_char may_prefix h) ≤ n
over_gap_char-fits may_prefix n h p = here_if n (at_prefix_mark may_prefix h) (past_prefix_mark h) (step h)
    (past_prefix_mark-fits n h p) (step-fits n h p)

over_gap_char-less : (may_prefix : Bool) (n : ℕ) (h : Here) → text_len h ≤ suc n
    → text_len (over_gap_char may_prefix h) ≤ n
over_gap_char-less may_prefix n h p = here_if n (at_prefix_mark may_prefix h) (past_prefix_mark h) (step h)
    (past_prefix_mark-less n h p) (step-less n h p)

skip_gap-fits : (may_prefix : Bool) (cs : List ℕ) (n : ℕ) (h : Here) → text_len h ≤ n
    → text_len (skip_gap may_prefix cs h) ≤ n
skip_gap-fits may_prefix [] n h p = p
skip_gap-fits may_prefix (c ∷ cs) n h p =
    chosen-len n (begins_gap may_prefix h) (skip_gap may_prefix cs (over_gap_char may_prefix h)) h
    (skip_gap-fits may_prefix cs n (over_gap_char may_prefix h) (over_gap_char-fits may_prefix n h p)) p

past_gap-fits : (may_prefix : Bool) (n : ℕ) (h : Here) → text_len h ≤ n → text_len (past_gap may_prefix h) ≤ n
unfolding past_gap
past_gap-fits may_prefix n h p = skip_gap-fits may_prefix h.unread.text n h p

-- ---- a gap is taken whole

nul_no_gap : is_gap 0 ≡ false
unfolding is_gap is_blank is_break
nul_no_gap = refl

nothing_left : (text : List ℕ) → length text ≤ 0 → is_gap (first text) ≡ false
nothing_left [] p = nul_no_gap
nothing_left (c ∷ cs) p = absurd (omega arith)

chosen-stops : (b : Bool) (g h : Here) → is_gap (next_char g) ≡ false → (b ≡ false → is_gap (next_char h) ≡ false)
    → is_gap (next_char (chosen b g h)) ≡ false
chosen-stops true g h p q = p
chosen-stops false g h p q = q refl

skip_gap-stops : (may_prefix : Bool) (cs : List ℕ) (h : Here) → text_len h ≤ length cs
    → is_gap (next_char (skip_gap may_prefix cs h)) ≡ false
skip_gap-stops may_prefix [] h p = nothing_left h.unread.text p
skip_gap-stops may_prefix (c ∷ cs) h p =
    let q : text_len h ≤ suc (length cs) = omega (arith, p) in
    chosen-stops (begins_gap may_prefix h) (skip_gap may_prefix cs (over_gap_char may_prefix h)) h
    (skip_gap-stops may_prefix cs (over_gap_char may_prefix h) (over_gap_char-less may_prefix (length cs) h q))
    (λ e. (or_parts (is_gap (next_char h)) (at_prefix_mark may_prefix h) e).0)

past_gap-stops : (may_prefix : Bool) (h : Here) → is_gap (next_char (past_gap may_prefix h)) ≡ false
unfolding past_gap
past_gap-stops may_prefix h = skip_gap-stops may_prefix h.unread.text h (omega arith)

-- ---- what a gap leaves

-- how much is left behind a gap: less than before where it holds a comment, and otherwise no blank and no break stands
-- there
abbrev pub GapState : ℕ → Option CommentRead → ReaderState → Type 0
GapState n None s = (reader_len s ≤ n) × (is_gap (next_char s.here) ≡ false)
GapState n (Some c) s = suc (reader_len s) ≤ n

abbrev pub GapFits : ℕ → GapRead → Type 0
GapFits n (Ok x) = GapState n x.0 x.1
GapFits n (Err f) = Unit {0}

gap_behind : (n : ℕ) (r : Result (Unit {0}) Fault) (x : GapRead) → GapFits n x → GapFits n (r >>= λ u. x)
gap_behind n (Ok u) x p = p
gap_behind n (Err f) x p = tt

noted : (n m : ℕ) (l : Laid) (r : Result (CommentRead × Here) Fault) → Fits text_len m r → suc m ≤ n
    → GapFits n (r >>= λ x. Ok (Some x.0, record { here = over_break_if x.1; laid = behind_note l }))
noted n m l (Ok x) p q = let e = over_break_if-fits m x.1 p in omega (arith, e, q)
noted n m l (Err f) p q = tt

noted_gap-fits : (n : ℕ) (h : Here) (l : Laid) → (next_char h == 0x23) ≡ true → text_len h ≤ n
    → GapFits n (noted_gap h l)
unfolding noted_gap
noted_gap-fits n h l is p =
    let some = seen 0x23 h.unread.text (omega arith) is in
    let m : text_len h ≤ suc (text_len h - 1) = omega (arith, some) in
    noted n (text_len h - 1) l (comment h) (comment-fits (text_len h - 1) h m) (omega (arith, some, p))

ready_gap-fits : (n : ℕ) (o : OptionsData) (moved : Bool) (h : Here) (l : Laid) → text_len h ≤ n
    → is_gap (next_char h) ≡ false → GapFits n (ready_gap o moved h l)
unfolding ready_gap
ready_gap-fits n o moved h l p stops = gap_behind n (refuse_tab o l (mark_of h) (leading_tab h)) _
    (gap_behind n (refuse_cut l h) _ (p, stops))

gap_by : (b : Bool) (n : ℕ) (o : OptionsData) (moved : Bool) (h : Here) (l : Laid) → (next_char h == 0x23) ≡ b
    → text_len h ≤ n → is_gap (next_char h) ≡ false → GapFits n (if b then noted_gap h l else ready_gap o moved h l)
gap_by true n o moved h l is p stops = noted_gap-fits n h l is p
gap_by false n o moved h l is p stops = ready_gap-fits n o moved h l p stops

pub gap-fits : (n : ℕ) (o : OptionsData) (h : Here) (l : Laid) → text_len h ≤ n → GapFits n (gap o h l)
unfolding gap_ends
gap-fits n o h l p =
    let g = past_gap (takes_prefix l) h in
    gap_by (next_char g == 0x23) n o (begins_gap (takes_prefix l) h) g l refl (past_gap-fits (takes_prefix l) n h p)
    (past_gap-stops (takes_prefix l) h)

-- ---- lexemes of one character

tailed-fits : (x : Lexeme) (last : LastLexeme) (n : ℕ) (end : Here) (l : Laid) → text_len end ≤ n
    → Fits reader_len n (tailed x last end l)
unfolding tailed
tailed-fits x last n end l p = fits_bind text_len reader_len n n (tail_at end) (λ y. tailed_by x last l y.0 y.1)
    (tail_at-fits n end p) (λ y q. q)

pub opener-fits : (o : OptionsData) (bracket : Bracket) (ends : Bool) (n : ℕ) (h : Here) (l : Laid) → text_len h ≤ suc n
    → Fits reader_len n (opener o bracket ends h l)
unfolding opener
opener-fits o bracket ends n h l p =
    let e = tailed-fits (sign_lexeme ends (Open bracket) h l) Opener n (step h) (opened bracket (mark_of h) l)
    (step-less n h p) in
    search (fits_if, e)

closes-fits : (bracket : Bracket) (b : OpenBracket) (bs : List OpenBracket) (ends : Bool) (n : ℕ) (h : Here) (l : Laid)
    → text_len h ≤ suc n → Fits reader_len n (closes bracket b bs ends h l)
unfolding closes
closes-fits bracket b bs ends n h l p =
    let e = tailed-fits (sign_lexeme ends (Close bracket) h l) Adjacent n (step h) (closed_bracket bs l)
    (step-less n h p) in
    search (fits_if, e)

closer_by-fits : (bracket : Bracket) (bs : List OpenBracket) (ends : Bool) (n : ℕ) (h : Here) (l : Laid)
    → text_len h ≤ suc n → Fits reader_len n (closer_by bracket bs ends h l)
closer_by-fits bracket [] ends n h l p = tt
closer_by-fits bracket (b ∷ bs) ends n h l p = closes-fits bracket b bs ends n h l p

pub closer-fits : (bracket : Bracket) (ends : Bool) (n : ℕ) (h : Here) (l : Laid) → text_len h ≤ suc n
    → Fits reader_len n (closer bracket ends h l)
closer-fits bracket ends n h l p = closer_by-fits bracket l.brackets ends n h l p

pub comma-fits : (ends : Bool) (n : ℕ) (h : Here) (l : Laid) → text_len h ≤ suc n → Fits reader_len n (comma ends h l)
comma-fits ends n h l p =
    fits_behind reader_len n (drop_key l) _ (λ t. tailed-fits (sign_lexeme ends Comma h l) (last_of_comma l) n (step h)
    t (step-less n h p))

-- ---- indicators

behind_dash-fits : (x : Lexeme) (n : ℕ) (l : Laid) (tail : Option CommentRead) (h : Here) → text_len h ≤ n
    → Fits reader_len n (behind_dash x l tail h)
unfolding behind_dash
behind_dash-fits x n l tail h p = search (fits_if, p)

dash_up_to-fits : (x : Lexeme) (n : ℕ) (end : Here) (l : Laid) → text_len end ≤ n
    → Fits reader_len n (dash_up_to x end l)
unfolding dash_up_to
dash_up_to-fits x n end l p = fits_bind text_len reader_len n n (tail_at end) (λ y. behind_dash x l y.0 y.1)
    (tail_at-fits n end p) (λ y q. behind_dash-fits x n l y.0 y.1 q)

pub dash-fits : (o : OptionsData) (ends : Bool) (n : ℕ) (h : Here) (l : Laid) → text_len h ≤ suc n
    → Fits reader_len n (dash o ends h l)
unfolding dash
dash-fits o ends n h l p =
    let x = sign_lexeme ends Dash h l in
    let e = fits_behind reader_len n (with_entry o h.place.column (mark_of h) l) (dash_up_to x (step h))
    (λ t. dash_up_to-fits x n (step h) t (step-less n h p)) in
    search (fits_if, e)

question_up_to-fits : (o : OptionsData) (x : Lexeme) (n : ℕ) (h : Here) (l : Laid) → text_len h ≤ n
    → Fits reader_len n (question_up_to o x h l)
unfolding question_up_to
question_up_to-fits o x n h l p =
    let more : text_len h ≤ suc n = omega (arith, p) in
    let e = fits_bind text_len reader_len n n (comment h) (λ y. question_noted x l y.0 y.1) (comment-fits n h more)
    (λ y q. q) in
    search (fits_if, fits_behind, e, p)

question_by-fits : (o : OptionsData) (x : Lexeme) (n : ℕ) (h : Here) (l : Laid) → text_len h ≤ suc n
    → Fits reader_len n (question_by o x h l)
unfolding question_by
question_by-fits o x n h l p =
    let e = question_up_to-fits o x n (past is_gap (step h)) (behind_question l)
    (past-fits is_gap n (step h) (step-less n h p)) in
    search (fits_if, e)

pub question-fits : (o : OptionsData) (ends : Bool) (n : ℕ) (h : Here) (l : Laid) → text_len h ≤ suc n
    → Fits reader_len n (question o ends h l)
unfolding question
question-fits o ends n h l p =
    let x = sign_lexeme ends Question h l in
    let s = step-less n h p in
    let e = fits_behind reader_len n (with_entry o h.place.column (mark_of h) l) (question_by o x h)
    (λ t. question_by-fits o x n h t p) in
    search (fits_if, s, e)

keyed_colon-fits : (o : OptionsData) (ends : Bool) (k : PossibleKey) (tail : Option CommentRead) (n : ℕ)
    (after h : Here) (l : Laid) → text_len after ≤ n → Fits reader_len n (keyed_colon o ends k tail after h l)
unfolding keyed_colon
keyed_colon-fits o ends k tail n after h l p =
    let e = fits_behind reader_len n (with_pair o k.start.place.column k.start l)
    (keyed_given (colon_lexeme ends (Some (start_of_key k)) tail h l) after) (λ t. p) in
    search (fits_if, e, p)

bare_colon-fits : (o : OptionsData) (ends : Bool) (tail : Option CommentRead) (n : ℕ) (after h : Here) (l : Laid)
    → text_len after ≤ n → Fits reader_len n (bare_colon o ends tail after h l)
unfolding bare_colon
bare_colon-fits o ends tail n after h l p =
    let e = fits_behind reader_len n (with_pair o h.place.column (mark_of h) l)
    (bare_given (colon_lexeme ends None tail h l) after) (λ t. p) in
    search (fits_if, e, p)

colon_by_key-fits : (o : OptionsData) (ends : Bool) (k : Option PossibleKey) (tail : Option CommentRead) (n : ℕ)
    (after h : Here) (l : Laid) → text_len after ≤ n → Fits reader_len n (colon_by_key o ends k tail after h l)
colon_by_key-fits o ends (Some k) tail n after h l p = keyed_colon-fits o ends k tail n after h l p
colon_by_key-fits o ends None tail n after h l p = bare_colon-fits o ends tail n after h l p

colon_tail-fits : (n : ℕ) (h : Here) → text_len h ≤ n → Fits text_len n (colon_tail h)
unfolding colon_tail
colon_tail-fits n h p = let e = tail_at-fits n h p in search (fits_if, e, p)

pub colon-fits : (o : OptionsData) (ends : Bool) (n : ℕ) (h : Here) (l : Laid) → text_len h ≤ suc n
    → Fits reader_len n (colon o ends h l)
unfolding colon
colon-fits o ends n h l p =
    let e = fits_bind text_len reader_len n n (colon_tail (step h)) (λ x. colon_by_key o ends (top_key l) x.0 x.1 h l)
    (colon_tail-fits n (step h) (step-less n h p)) (λ x q. colon_by_key-fits o ends (top_key l) x.0 n x.1 h l q) in
    search (fits_if, e)

-- ---- document marks and directives

pub three_steps : (n : ℕ) (h : Here) → text_len h ≤ suc n → text_len (steps 3 h) ≤ n
unfolding steps
three_steps n h p = step-fits n (step (step h)) (step-fits n (step h) (step-less n h p))

end_mark_up_to-fits : (x : Lexeme) (n : ℕ) (l : Laid) (tail : Option CommentRead) (h : Here) → text_len h ≤ n
    → Fits reader_len n (end_mark_up_to x l tail h)
unfolding end_mark_up_to
end_mark_up_to-fits x n l tail h p = search (fits_if, p)

pub end_mark-fits : (ends : Bool) (n : ℕ) (h : Here) (l : Laid) → text_len h ≤ suc n
    → Fits reader_len n (end_mark ends h l)
end_mark-fits ends n h l p =
    let x = lexeme_to ends DocumentEnd (mark_of (steps 3 h)) h l in
    fits_bind text_len reader_len n n (tail_at (steps 3 h)) (λ y. end_mark_up_to x l y.0 y.1)
    (tail_at-fits n (steps 3 h) (three_steps n h p)) (λ y q. end_mark_up_to-fits x n l y.0 y.1 q)

pub directive_lexeme-fits : (o : OptionsData) (ends : Bool) (n : ℕ) (h : Here) (l : Laid) → text_len h ≤ suc n
    → Fits reader_len n (directive_lexeme o ends h l)
directive_lexeme-fits o ends n h l p =
    fits_bind text_len reader_len n n (directives.directive o h) (λ x. directive_given ends h l x.0 x.1)
    (directive-fits o n h p) (λ x q. over_break_if-fits n x.1 q)

-- ---- properties and scalars

pub alias_lexeme-fits : (ends : Bool) (n : ℕ) (h : Here) (l : Laid) → text_len h ≤ suc n
    → Fits reader_len n (alias_lexeme ends h l)
alias_lexeme-fits ends n h l p = fits_bind text_len reader_len n n (name_at h) _ (name_at-fits n h p) (λ x q. q)

pub anchor_lexeme-fits : (o : OptionsData) (ends : Bool) (n : ℕ) (h : Here) (l : Laid) → text_len h ≤ suc n
    → Fits reader_len n (anchor_lexeme o ends h l)
anchor_lexeme-fits o ends n h l p = fits_bind text_len reader_len n n (name_at h) _ (name_at-fits n h p) (λ x q. q)

pub tag_lexeme-fits : (o : OptionsData) (ends : Bool) (n : ℕ) (h : Here) (l : Laid) → text_len h ≤ suc n
    → Fits reader_len n (tag_lexeme o ends h l)
tag_lexeme-fits o ends n h l p = fits_bind text_len reader_len n n (tag_at (is_in_flow l) h) _
    (tag_at-fits (is_in_flow l) n h p) (λ x q. q)

pub block_lexeme-fits : (literal ends : Bool) (n : ℕ) (h : Here) (l : Laid) → text_len h ≤ suc n
    → Fits reader_len n (block_lexeme literal ends h l)
block_lexeme-fits literal ends n h l p = fits_bind text_len reader_len n n (block_scalar literal (block_column l) h) _
    (block_scalar-fits literal (block_column l) n h p) (λ x q. q)

pub plain_lexeme-fits : (o : OptionsData) (ends : Bool) (n : ℕ) (h : Here) (l : Laid) → text_len h ≤ suc n
    → is_content (is_in_flow l) h.unread.text ≡ true → Fits reader_len n (plain_lexeme o ends h l)
plain_lexeme-fits o ends n h l p held =
    fits_bind text_len reader_len n n (plain_scalar (layout_of o h.place.column l) h) _
    (plain_scalar-fits (layout_of o h.place.column l) n h p held) (λ x q. q)

quoted_lexeme-fits : (o : OptionsData) (single ends : Bool) (n : ℕ) (h : Here) (l : Laid) → text_len h ≤ suc n
    → Fits reader_len n (quoted_lexeme o single ends h l)
quoted_lexeme-fits o single ends n h l p =
    fits_bind text_len reader_len n n (quoted_scalar single (layout_of o h.place.column l) h) _
    (quoted_scalar-fits single (layout_of o h.place.column l) n h p) (λ x q. q)

with_note-fits : (n : ℕ) (items : List Item) (note : Option CommentRead) (s : ReaderState) → GapState n note s
    → Fits reader_len n (with_note items note s)
with_note-fits n items None s p = p.0
with_note-fits n items (Some c) s p = omega (arith, p)

noted_behind : (n : ℕ) (items : List Item) (r : GapRead) → GapFits n r
    → Fits reader_len n (r >>= λ x. with_note items x.0 x.1)
noted_behind n items (Ok x) p = with_note-fits n items x.0 x.1 p
noted_behind n items (Err f) p = tt

with_gap-fits : (o : OptionsData) (n : ℕ) (items : List Item) (s : ReaderState) → reader_len s ≤ n
    → Fits reader_len n (with_gap o items s)
with_gap-fits o n items s p = noted_behind n items (gap o s.here s.laid) (gap-fits n o s.here s.laid p)

pub quoted_and_gap-fits : (o : OptionsData) (single ends : Bool) (n : ℕ) (h : Here) (l : Laid) → text_len h ≤ suc n
    → Fits reader_len n (quoted_and_gap o single ends h l)
quoted_and_gap-fits o single ends n h l p =
    fits_bind reader_len reader_len n n (quoted_lexeme o single ends h l) (λ x. with_gap o x.0 x.1)
    (quoted_lexeme-fits o single ends n h l p) (λ x q. with_gap-fits o n x.0 x.1 q)
