-- The test of what stands up to the closing quote says whether what stands between the quotes is kept as it is.
use Rattle.std.proofs.Common.{◌≡◌, ℕ, Bool, true, false, ◌&&◌, ◌||◌, List, [], ◌∷◌, ◌++◌, refl, sym, ap, ap₂}
use Rattle.std.proofs.Common.{◌∙◌, append_assoc, arith}
use Rattle.std.proofs.lemmas.Bool.{or_right}
use Rattle.std.specs.Prelude.{if◌then◌else◌}
use Rattle.std.specs.List.{list_all}
use Rattle.std.proofs.lemmas.Bool.Decides.{nat_tests}
use Rattle.granit_base.specs.Classes.{is_blank, is_break, is_gap, is_printable}
use Rattle.granit_lexemes.proofs.CharTests.{backslash_stops}
use Rattle.granit_lexemes.specs.Decoding.{Escape, letter, number, halves}
use Rattle.granit_lexemes.specs.Gap.{Each}
use Rattle.granit_lexemes.specs.Here.{Here, step}
use Rattle.granit_lexemes.specs.LayoutData.{LayoutData}
use Rattle.granit_lexemes.specs.Basics.{lent_if}
use Rattle.granit_lexemes.specs.QuotedExtent.{OneBreak, line_feed, pair, carriage_return, Between, Separates, on_line}
use Rattle.granit_lexemes.specs.QuotedExtent.{folded, Piece, itself, doubled, escape, before_break, Inside, nothing}
use Rattle.granit_lexemes.specs.QuotedExtent.{content, QuotedStands, is_unchanged}
use Rattle.granit_lexemes.specs.QuotedScalar.{quote_char, is_closing, is_literal, is_kept, is_verbatim, quoted_text}
use Rattle.granit_lexemes.proofs.HereLemmas.{step_lends, stepped_text}

-- what is found of a front and what stands behind it is what is found of both
abbrev Parts : Bool → (front behind : List ℕ) → Type 0
Parts single front behind = is_verbatim single (front ++ behind)
    ≡ (list_all (is_kept single) front && is_verbatim single behind)

kept_parts : (single : Bool) (c : ℕ) (front behind : List ℕ) → is_kept single c ≡ true → Parts single front behind
    → Parts single (c ∷ front) behind
kept_parts single c front behind k p =
    ap (λ b. if b then is_verbatim single (front ++ behind) else is_closing single (c ∷ (front ++ behind))) k ∙ p
    ∙ sym (ap (λ b. (b && list_all (is_kept single) front) && is_verbatim single behind) k)

stops_parts : (single : Bool) (c : ℕ) (front behind : List ℕ) → is_kept single c ≡ false
    → is_closing single (c ∷ (front ++ behind)) ≡ false → Parts single (c ∷ front) behind
stops_parts single c front behind k n =
    ap (λ b. if b then is_verbatim single (front ++ behind) else is_closing single (c ∷ (front ++ behind))) k ∙ n
    ∙ sym (ap (λ b. (b && list_all (is_kept single) front) && is_verbatim single behind) k)

and_assoc : (a b c : Bool) → (a && (b && c)) ≡ ((a && b) && c)
and_assoc true b c = refl
and_assoc false b c = refl

all_parts : (single : Bool) (front more : List ℕ) → list_all (is_kept single) (front ++ more)
    ≡ (list_all (is_kept single) front && list_all (is_kept single) more)
all_parts single [] more = refl
all_parts single (c ∷ front) more = ap (λ b. is_kept single c && b) (all_parts single front more)
    ∙ and_assoc (is_kept single c) (list_all (is_kept single) front) (list_all (is_kept single) more)

join_parts : (single : Bool) (front more behind : List ℕ) → Parts single front (more ++ behind)
    → Parts single more behind → Parts single (front ++ more) behind
join_parts single front more behind p q =
    ap (is_verbatim single) (append_assoc front more behind) ∙ p
    ∙ ap (λ b. list_all (is_kept single) front && b) q
    ∙ and_assoc (list_all (is_kept single) front) (list_all (is_kept single) more) (is_verbatim single behind)
    ∙ ap (λ b. b && is_verbatim single behind) (sym (all_parts single front more))

-- ---- characters

blank_kept : (single : Bool) (c : ℕ) → is_blank c ≡ true → is_kept single c ≡ true
blank_kept single c y = ap (λ b. b || is_literal single c) y

break_stops : (single : Bool) → (is_kept single 0x0A ≡ false) × (is_kept single 0x0D ≡ false)
unfolding is_blank is_break is_gap is_literal
break_stops true = (refl, refl)
break_stops false = (refl, refl)

break_open : (single : Bool) (t : List ℕ) → (is_closing single (0x0A ∷ t) ≡ false)
    × (is_closing single (0x0D ∷ t) ≡ false)
unfolding is_closing
break_open true t = (refl, refl)
break_open false t = (refl, refl)

quote_stops : (single : Bool) → is_kept single (quote_char single) ≡ false
unfolding is_blank is_break is_gap is_printable is_literal
quote_stops true = refl
quote_stops false = refl

backslash_open : (t : List ℕ) → is_closing false (0x5C ∷ t) ≡ false
unfolding is_closing
backslash_open t = refl

doubled_open : (t : List ℕ) → is_closing true (0x27 ∷ 0x27 ∷ t) ≡ false
unfolding is_closing
doubled_open t = refl

-- ---- blanks, breaks and content

blanks_parts : (single : Bool) (blanks behind : List ℕ) → Each is_blank blanks → Parts single blanks behind
blanks_parts single [] behind y = refl
blanks_parts single (c ∷ blanks) behind y = kept_parts single c blanks behind (blank_kept single c y.0)
    (blanks_parts single blanks behind y.1)

break_parts : (single : Bool) (brk text behind : List ℕ) → OneBreak brk (text ++ behind)
    → Parts single (brk ++ text) behind
break_parts single brk text behind line_feed =
    stops_parts single 0x0A text behind (break_stops single).0 (break_open single (text ++ behind)).0
break_parts single brk text behind pair = stops_parts single 0x0D (0x0A ∷ text) behind (break_stops single).1
    (break_open single (0x0A ∷ (text ++ behind))).1
break_parts single brk text behind (carriage_return n) =
    stops_parts single 0x0D text behind (break_stops single).1 (break_open single (text ++ behind)).1

gap_parts : {at : LayoutData} {gap behind : List ℕ} {x : Between} (single : Bool) → Separates at gap behind x
    → Parts single gap behind
gap_parts {gap = gap} {behind = behind} single (on_line y) = blanks_parts single gap behind y
gap_parts {behind = behind} single (folded {text = text} blanks brk y b n) =
    join_parts single blanks (brk ++ text) behind (blanks_parts single blanks ((brk ++ text) ++ behind) y)
    (break_parts single brk text behind b)

escape_parts : {e : List ℕ} {c : ℕ} (behind : List ℕ) → Escape e c → Parts false e behind
escape_parts behind (letter {l = l} y) = stops_parts false 0x5C (l ∷ []) behind backslash_stops
    (backslash_open (l ∷ behind))
escape_parts behind (number {l = l} {digits = digits} y a v) =
    stops_parts false 0x5C (l ∷ digits) behind backslash_stops (backslash_open (l ∷ (digits ++ behind)))
escape_parts behind (halves {high = high} {low = low} a p b q) =
    stops_parts false 0x5C (0x75 ∷ (high ++ 0x5C ∷ 0x75 ∷ low)) behind backslash_stops
    (backslash_open (0x75 ∷ ((high ++ 0x5C ∷ 0x75 ∷ low) ++ behind)))

piece_parts : {single : Bool} {piece behind value : List ℕ} {escapes : Bool} → Piece single piece behind value escapes
    → Parts single piece behind
piece_parts {single} {behind = behind} (itself {c = c} y) =
    kept_parts single c [] behind (or_right (is_blank c) (is_literal single c) y) refl
piece_parts {behind = behind} doubled = stops_parts true 0x27 (0x27 ∷ []) behind (quote_stops true)
    (doubled_open behind)
piece_parts {behind = behind} (escape y) = escape_parts behind y
piece_parts {behind = behind} (before_break y) = stops_parts false 0x5C [] behind backslash_stops
    (backslash_open behind)

inside_parts : {at : LayoutData} {single escaped left : Bool} {source behind value : List ℕ}
    → Inside single at escaped source behind value left → Parts single source behind
inside_parts nothing = refl
inside_parts {single = single} {behind = behind} (content {gap = gap} {piece = piece} {cs = cs} x is v q p m on) =
    let rest : Parts single (piece ++ cs) behind = join_parts single piece cs behind (piece_parts p)
    (inside_parts on) in
    let whole : Parts single (gap ++ (piece ++ cs)) behind = join_parts single gap (piece ++ cs) behind
    (ap (λ (t : List ℕ). is_verbatim single (gap ++ t)) (append_assoc piece cs behind) ∙ gap_parts single q
    ∙ ap (λ (t : List ℕ). list_all (is_kept single) gap && is_verbatim single t) (sym (append_assoc piece cs behind)))
    rest in
    ap (λ (t : List ℕ). is_verbatim single (t ++ behind)) is ∙ whole
    ∙ sym (ap (λ (t : List ℕ). list_all (is_kept single) t && is_verbatim single behind) is)

-- ---- up to the closing quote

closes_if : (single : Bool) (text : List ℕ) → is_closing single text ≡ true → is_verbatim single text ≡ true
unfolding is_closing
closes_if single [] y = no_quote single y
  where
    no_quote : (single : Bool) → is_closing single [] ≡ true → is_verbatim single [] ≡ true
    no_quote true y = absurd cc
    no_quote false y = absurd cc
closes_if single (c ∷ cs) y = quote_is single c (first_is single c cs y) cs y
  where
    first_is : (single : Bool) (c : ℕ) (cs : List ℕ) → is_closing single (c ∷ cs) ≡ true
        → c ≡ quote_char single
    first_is single c cs y = grind (arith, nat_tests)

    quote_is : (single : Bool) (c : ℕ) → c ≡ quote_char single → (cs : List ℕ) → is_closing single (c ∷ cs) ≡ true
        → is_verbatim single (c ∷ cs) ≡ true
    quote_is single c e cs y =
        ap (λ b. if b then is_verbatim single cs else is_closing single (c ∷ cs))
        (ap (is_kept single) e ∙ quote_stops single) ∙ y

and_true : (a b : Bool) → b ≡ true → (a && b) ≡ a
and_true true b y = y
and_true false b y = refl

-- what is tested is what stands between the quotes
pub verbatim_is : {at : LayoutData} (single : Bool) (h : Here) (source value gap : List ℕ) (left : Bool) (x : Between)
    (rest : List ℕ) → QuotedStands single at h source value gap left x rest
    → is_verbatim single (step h).unread.text ≡ is_unchanged single (source ++ gap)
verbatim_is single h source value gap left x rest p =
    let all : Parts single (source ++ gap) rest = join_parts single source gap rest (inside_parts p.front.inside)
    (gap_parts single p.front.separated) in
    ap (is_verbatim single) (stepped_text h (quote_char single) (source ++ (gap ++ rest)) p.front.whole
    ∙ sym (append_assoc source gap rest))
    ∙ all
    ∙ and_true (list_all (is_kept single) (source ++ gap)) (is_verbatim single rest)
    (closes_if single rest p.closing)

-- so its text is what is answered for it
pub text_is : {at : LayoutData} (single : Bool) (h : Here) (source value gap : List ℕ) (left : Bool) (x : Between)
    (rest : List ℕ) → QuotedStands single at h source value gap left x rest → (text : List ℕ)
    → quoted_text single (step h) text ≡ lent_if (is_unchanged single (source ++ gap)) h text
text_is single h source value gap left x rest p text =
    ap₂ (λ (b l : Bool). record { characters = text; is_borrowed = b && l })
    (verbatim_is single h source value gap left x rest p) (step_lends h)
