-- What is followed of the lexemes is what the reader keeps.
use Rattle.std.proofs.Common.{◌≡◌, ℕ, ◌-◌, ◌==◌, ◌&&◌, ◌||◌, not, Bool, true, false, List, [], ◌∷◌, ◌++◌, drop, length}
use Rattle.std.proofs.Common.{replicate, Option, Some, None, refl, sym, ap, ap₂, ◌∙◌, subst, arith}
use Rattle.std.specs.Prelude.{if◌then◌else◌}
use Rattle.std.proofs.lemmas.List.{length-map}
use Rattle.std.proofs.lemmas.Bool.Decides.{nat_tests}
use Rattle.granit_order.proofs.BracketsPassed.{kinds_flow, kinds_in}
use Rattle.granit_order.proofs.KeysMoved.{clash}
use Rattle.granit_order.specs.Order.{may_follow, open_behind}
use Rattle.granit_language.specs.OpenColumns.{EntryOf, columns_of, is_outer_kind, start_column}
use Rattle.granit_language.specs.Seen.{terminal_kind}
use Rattle.granit_lexemes.specs.Lexeme.{LexemeKind, Directive, DocumentStart, DocumentEnd, StreamEnd, Open, Close}
use Rattle.granit_lexemes.specs.Lexeme.{Comma}
use Rattle.granit_lexemes.specs.Lexeme.{Dash, Question, Colon, KeyStart, Lexeme, Item, OfLexeme, OfComment}
use Rattle.granit_lexemes.specs.declared.layout.Bracket.{Bracket}
use Rattle.granit_lexemes.specs.declared.layout.Bracket.TheVariants.{Square}
use Rattle.granit_lexemes.specs.declared.layout.OpenBracket.{OpenBracket}
use Rattle.granit_lexemes.specs.declared.layout.OpenColumn.{OpenColumn}
use Rattle.granit_lexemes.specs.declared.layout.LastLexeme.TheVariants.{Another, Opener}
use Rattle.granit_machine.specs.Columns.{entered, up_to_column}
use Rattle.granit_machine.specs.Laid.{Laid, in_square, innermost_column, is_column, is_in_flow, is_nonempty, is_opener}
use Rattle.granit_machine.specs.Laid.{same_bracket}
use Rattle.granit_machine.specs.Lexing.{is_nearest}
use Rattle.granit_places.proofs.ColumnsKept.{Change, all_end, all_widened, keyed, nothing, own, passes, pop, popped}
use Rattle.granit_places.proofs.ColumnsKept.{push}
use Rattle.granit_places.proofs.ColumnsLaw.{cols, entered_columns}
use Rattle.granit_scan.specs.Following.{entry_in_column, entry_start, laid_behind, laid_by_lexeme, with_last}
use Rattle.granit_steps.specs.Tokens.{behind_ends, begins_single, ended_blocks, inserted, is_bare_colon_of}
use Rattle.granit_steps.specs.Tokens.{is_new_column}
use Rattle.granit_steps.specs.Tokens.{left_open, pairs_of, tokens_of, block_start, ends_single, insert_if, pairs_behind}
use Rattle.granit_steps.specs.Tokens.{tail_token, with_pair_if, ScanToken, Inserted, Own, BlockEnd, PairEnd, PairStart}
use Rattle.granit_steps.specs.Tokens.{KeySign}

-- ---- columns, by kind

-- what a lexeme outside flow leaves of the columns
abbrev pub followed_by : LexemeKind → Option KeyStart → (column : ℕ) → List ℕ → List ℕ
followed_by (Directive d) key column ns = []
followed_by DocumentStart key column ns = []
followed_by DocumentEnd key column ns = []
followed_by StreamEnd key column ns = []
followed_by Dash key column ns = push column (pop column ns)
followed_by Question key column ns = push column (pop column ns)
followed_by Colon None column ns = push column (pop column ns)
followed_by Colon (Some k) column ns = push k.start.place.column (pop column ns)
followed_by kind key column ns = pop column ns

module _ (x : Lexeme) (f : Laid) (out : is_in_flow f ≡ false) where
  abbrev stands : ℕ
  stands = x.start.place.column

  ends_all : cols (if is_in_flow f then f.columns else []) ≡ []
  ends_all = ap (λ v. cols (if v then f.columns else [])) out

  ends_right : cols (if is_in_flow f then f.columns else up_to_column stands f.columns) ≡ pop stands (columns_of f)
  ends_right = ap (λ v. cols (if v then f.columns else up_to_column stands f.columns)) out
      ∙ popped stands f.columns

  enters : (c : ℕ) (s : Laid) → is_in_flow s ≡ is_in_flow f → columns_of s ≡ pop stands (columns_of f)
      → columns_of (entry_in_column c s) ≡ push c (pop stands (columns_of f))
  enters c s flow e =
      ap (λ (v : Bool). columns_of (if v then with_last Another s
      else entered c (with_last Another s))) (flow ∙ out)
      ∙ entered_columns c (with_last Another s)
      ∙ ap (push c) e

  abbrev left : LexemeKind → Laid
  left kind = left_open kind stands f

  outside_by : (kind : LexemeKind) (key : Option KeyStart) → x.key ≡ key
      → columns_of (laid_by_lexeme kind x (left kind)) ≡ followed_by kind key stands (columns_of f)
  outside_by (Directive d) key e = ends_all
  outside_by DocumentStart key e = ends_all
  outside_by DocumentEnd key e = ends_all
  outside_by StreamEnd key e = ends_all
  outside_by Dash key e = enters stands (left Dash) refl ends_right
  outside_by Question key e = enters stands (left Question) refl ends_right
  outside_by Colon None e =
      ap (λ (key : Option KeyStart). columns_of (entry_in_column (entry_start key x.start).place.column (left Colon))) e
      ∙ enters stands (left Colon) refl ends_right
  outside_by Colon (Some k) e =
      ap (λ (key : Option KeyStart). columns_of (entry_in_column (entry_start key x.start).place.column (left Colon))) e
      ∙ enters k.start.place.column (left Colon) refl ends_right
  outside_by (Open bracket) key e = all_widened (left (Open bracket)).columns ∙ ends_right
  outside_by kind key e = ends_right

  pub outside : columns_of (laid_behind x f) ≡ followed_by x.kind x.key stands (columns_of f)
  outside = outside_by x.kind x.key refl

module _ (x : Lexeme) (f : Laid) (inside : is_in_flow f ≡ true) where
  stays_all : cols (if is_in_flow f then f.columns else []) ≡ columns_of f
  stays_all = ap (λ v. cols (if v then f.columns else [])) inside

  stays : cols (if is_in_flow f then f.columns else up_to_column x.start.place.column f.columns) ≡ columns_of f
  stays = ap (λ v. cols (if v then f.columns else up_to_column x.start.place.column f.columns)) inside

  enters_none : (c : ℕ) (s : Laid) → is_in_flow s ≡ is_in_flow f → columns_of s ≡ columns_of f
      → columns_of (entry_in_column c s) ≡ columns_of f
  enters_none c s flow e =
      ap (λ (v : Bool). columns_of (if v then with_last Another s
      else entered c (with_last Another s))) (flow ∙ inside)
      ∙ e

  inside_by : (kind : LexemeKind) → columns_of
      (laid_by_lexeme kind x (left_open kind x.start.place.column f)) ≡ columns_of f
  inside_by (Directive d) = stays_all
  inside_by DocumentStart = stays_all
  inside_by DocumentEnd = stays_all
  inside_by StreamEnd = stays_all
  inside_by Dash = enters_none x.start.place.column (left_open Dash x.start.place.column f) refl stays
  inside_by Question = enters_none x.start.place.column (left_open Question x.start.place.column f) refl stays
  inside_by Colon =
      enters_none (entry_start x.key x.start).place.column (left_open Colon x.start.place.column f) refl stays
  inside_by (Open bracket) = all_widened (left_open (Open bracket) x.start.place.column f).columns ∙ stays
  inside_by kind = stays

-- ---- columns, by what the reader does

outer_by : (kind : LexemeKind) (key : Option KeyStart) (column : ℕ) (ns : List ℕ) → is_outer_kind kind ≡ true
    → [] ≡ followed_by kind key column ns
outer_by (Directive d) key column ns e = refl
outer_by DocumentStart key column ns e = refl
outer_by DocumentEnd key column ns e = refl
outer_by StreamEnd key column ns e = refl
outer_by kind key column ns e = absurd cc

of_number : (x : Lexeme) (n : ℕ) → start_column n (record x { number = n } ∷ []) ≡ Some x.start.place.column
of_number x n = let f : (n == n) ≡ true = grind (arith, nat_tests) in
    ap (λ v. if v then Some x.start.place.column else None) f

-- a `:` with a key is an entry where the key's lexeme stands, which some list of lexemes has in that column
passes_by : (x : Lexeme) (kind : LexemeKind) (key : Option KeyStart) (column : ℕ) (ns : List ℕ)
    → is_outer_kind kind ≡ false → ((column c : ℕ) (ls : List Lexeme) → EntryOf kind key column ls c → ⊥)
    → pop column ns ≡ followed_by kind key column ns
passes_by x (Directive d) key column ns e none = absurd cc
passes_by x DocumentStart key column ns e none = absurd cc
passes_by x DocumentEnd key column ns e none = absurd cc
passes_by x StreamEnd key column ns e none = absurd cc
passes_by x Dash key column ns e none = absurd (none 0 0 [] refl)
passes_by x Question key column ns e none = absurd (none 0 0 [] refl)
passes_by x Colon None column ns e none = absurd (none 0 0 [] refl)
passes_by x Colon (Some k) column ns e none =
    absurd (none column x.start.place.column (record x { number = k.number } ∷ []) (of_number x k.number))
passes_by x kind key column ns e none = refl

own_by : (kind : LexemeKind) (key : Option KeyStart) (column : ℕ) (ns : List ℕ) → is_outer_kind kind ≡ false
    → ((c : ℕ) (ls : List Lexeme) → column ≡ c → EntryOf kind key column ls c)
    → push column (pop column ns) ≡ followed_by kind key column ns
own_by Dash key column ns e here = refl
own_by Question key column ns e here = refl
own_by Colon None column ns e here = refl
own_by Colon (Some k) column ns e here = absurd (let f = here column [] refl in cc)
own_by (Directive d) key column ns e here = absurd cc
own_by DocumentStart key column ns e here = absurd cc
own_by DocumentEnd key column ns e here = absurd cc
own_by StreamEnd key column ns e here = absurd cc
own_by kind key column ns e here = absurd (here column [] refl)

-- what a read says of its lexeme
pub record Moved (s : Laid) (x : Lexeme) (after : Laid) : Type 0 where
  pub inside : is_in_flow s ≡ true → columns_of after ≡ columns_of s
  pub outside : is_in_flow s ≡ false → columns_of after
      ≡ followed_by x.kind x.key x.start.place.column (columns_of s)
  pub kinds : kinds_in after.brackets ≡ open_behind (terminal_kind x.kind x.key) (kinds_in s.brackets)
  pub last : is_nonempty (kinds_in after.brackets) ≡ true
      → is_opener after.last ≡ may_follow (terminal_kind x.kind x.key)

module _ (s : Laid) (x : Lexeme) (after : Laid) (flow : x.in_flow ≡ is_in_flow s) where
  pub moved_inside : Change s x after → is_in_flow s ≡ true → columns_of after ≡ columns_of s
  moved_inside (nothing f c k) e = c
  moved_inside (all_end f outer c k) e = clash x.in_flow (flow ∙ e) f
  moved_inside (passes f outer none c k) e = clash x.in_flow (flow ∙ e) f
  moved_inside (own f outer is here c k) e = clash x.in_flow (flow ∙ e) f
  moved_inside (keyed j f colon key old c k) e = clash x.in_flow (flow ∙ e) f

  abbrev Goes : LexemeKind → Option KeyStart → Type 0
  Goes kind key = columns_of after ≡ followed_by kind key x.start.place.column (columns_of s)

  pub moved_outside : Change s x after → is_in_flow s ≡ false → Goes x.kind x.key
  moved_outside (nothing f c k) e = clash x.in_flow f (flow ∙ e)
  moved_outside (all_end f outer c k) e = c ∙ outer_by x.kind x.key x.start.place.column (columns_of s) outer
  moved_outside (passes f outer none c k) e =
      c ∙ passes_by x x.kind x.key x.start.place.column (columns_of s) outer none
  moved_outside (own f outer is here c k) e =
      c ∙ own_by x.kind x.key x.start.place.column (columns_of s) outer here
  moved_outside (keyed j f colon key old c k) e =
      subst (λ kind. Goes kind x.key) (sym colon) (subst (λ key. Goes Colon key) (sym key) c)

-- ---- brackets

entry_brackets : (c : ℕ) (s : Laid) → (entry_in_column c s).brackets ≡ s.brackets
entry_brackets c s = on (is_in_flow s)
  where
    on : (v : Bool) → (if v then with_last Another s else entered c (with_last Another s)).brackets ≡ s.brackets
    on true = refl
    on false = refl

entry_last : (c : ℕ) (s : Laid) → is_opener (entry_in_column c s).last ≡ false
entry_last c s = on (is_in_flow s)
  where
    on : (v : Bool) → is_opener (if v then with_last Another s else entered c (with_last Another s)).last ≡ false
    on true = refl
    on false = refl

closed_kinds : (bracket : Bracket) (bs : List OpenBracket)
    → kinds_in (drop 1 bs) ≡ open_behind (Rattle.granit_language.specs.Terminal.Close bracket) (kinds_in bs)
closed_kinds bracket [] = refl
closed_kinds bracket (b ∷ bs) = refl

kinds_by : (kind : LexemeKind) (x : Lexeme) (f : Laid)
    → kinds_in (laid_by_lexeme kind x (left_open kind x.start.place.column f)).brackets
    ≡ open_behind (terminal_kind kind x.key) (kinds_in f.brackets)
kinds_by (Directive d) x f = refl
kinds_by DocumentStart x f = refl
kinds_by DocumentEnd x f = refl
kinds_by StreamEnd x f = refl
kinds_by (Close bracket) x f = closed_kinds bracket f.brackets
kinds_by Dash x f = ap kinds_in (entry_brackets x.start.place.column (left_open Dash x.start.place.column f))
kinds_by Question x f = ap kinds_in (entry_brackets x.start.place.column (left_open Question x.start.place.column f))
kinds_by Colon x f = ap kinds_in
    (entry_brackets (entry_start x.key x.start).place.column (left_open Colon x.start.place.column f))
kinds_by kind x f = refl

last_by : (kind : LexemeKind) (x : Lexeme) (f : Laid)
    → is_nonempty (open_behind (terminal_kind kind x.key) (kinds_in f.brackets)) ≡ true
    → is_opener (laid_by_lexeme kind x (left_open kind x.start.place.column f)).last
    ≡ may_follow (terminal_kind kind x.key)
last_by (Directive d) x f e = refl
last_by DocumentStart x f e = refl
last_by DocumentEnd x f e = refl
last_by StreamEnd x f e = refl
last_by Dash x f e = entry_last x.start.place.column (left_open Dash x.start.place.column f)
last_by Question x f e = entry_last x.start.place.column (left_open Question x.start.place.column f)
last_by Colon x f e = entry_last (entry_start x.key x.start).place.column (left_open Colon x.start.place.column f)
last_by Comma x f e =
    ap (λ (v : Bool). is_opener (if v then Opener else Another)) (sym (kinds_flow f.brackets) ∙ e)
last_by kind x f e = refl

-- ---- what is followed is like what the reader keeps

pub record Alike (s f : Laid) : Type 0 where
  pub columns : columns_of s ≡ columns_of f
  pub kinds : kinds_in s.brackets ≡ kinds_in f.brackets
  pub opener : is_nonempty (kinds_in s.brackets) ≡ true → is_opener s.last ≡ is_opener f.last

pub flow_alike : (s f : Laid) → Alike s f → is_in_flow s ≡ is_in_flow f
flow_alike s f a = sym (kinds_flow s.brackets) ∙ ap (λ (ks : List Bracket). is_nonempty ks) a.kinds
    ∙ kinds_flow f.brackets

module _ (s after f : Laid) (x : Lexeme) (m : Moved s x after) (a : Alike s f) where
  columns_on : (v : Bool) → is_in_flow s ≡ v → columns_of after ≡ columns_of (laid_behind x f)
  columns_on true e = m.inside e ∙ a.columns ∙ sym (inside_by x f (sym (flow_alike s f a) ∙ e) x.kind)
  columns_on false e =
      m.outside e ∙ ap (followed_by x.kind x.key x.start.place.column) a.columns
      ∙ sym (outside x f (sym (flow_alike s f a) ∙ e))

  kinds_on : kinds_in after.brackets ≡ open_behind (terminal_kind x.kind x.key) (kinds_in f.brackets)
  kinds_on = m.kinds ∙ ap (open_behind (terminal_kind x.kind x.key)) a.kinds

  pub alike_behind : Alike after (laid_behind x f)
  alike_behind = record {
    columns = columns_on (is_in_flow s) refl;
    kinds = kinds_on ∙ sym (kinds_by x.kind x f);
    opener = λ e. m.last e
        ∙ sym (last_by x.kind x f (ap (λ (ks : List Bracket). is_nonempty ks) (sym kinds_on) ∙ e));
  }

-- ---- and so are the tokens

abbrev kept_cols : (flow outer : Bool) → ℕ → List ℕ → List ℕ
kept_cols true outer column ns = ns
kept_cols false true column ns = []
kept_cols false false column ns = pop column ns

module _ (column : ℕ) (s : Laid) where
  all_cols : (v : Bool) → cols (if v then s.columns else []) ≡ kept_cols v true column (columns_of s)
  all_cols true = refl
  all_cols false = refl

  right_cols : (v : Bool) → cols (if v then s.columns else up_to_column column s.columns)
      ≡ kept_cols v false column (columns_of s)
  right_cols true = refl
  right_cols false = popped column s.columns

  left_is : (kind : LexemeKind) → columns_of (left_open kind column s)
      ≡ kept_cols (is_in_flow s) (is_outer_kind kind) column (columns_of s)
  left_is (Directive d) = all_cols (is_in_flow s)
  left_is DocumentStart = all_cols (is_in_flow s)
  left_is DocumentEnd = all_cols (is_in_flow s)
  left_is StreamEnd = all_cols (is_in_flow s)
  left_is kind = right_cols (is_in_flow s)

top_is : (column : ℕ) (cs : List OpenColumn) → is_column (innermost_column cs) column ≡ is_nearest column (cols cs)
top_is column [] = refl
top_is column (c ∷ cs) = refl

abbrev square_kinds : List Bracket → Bool
square_kinds [] = false
square_kinds (k ∷ ks) = same_bracket k Square

square_is : (bs : List OpenBracket) → in_square bs ≡ square_kinds (kinds_in bs)
square_is [] = refl
square_is (b ∷ bs) = refl

square_open : (ks : List Bracket) → square_kinds ks ≡ true → is_nonempty ks ≡ true
square_open [] e = absurd cc
square_open (k ∷ ks) e = refl

and_same : (q a b : Bool) → (q ≡ true → a ≡ b) → (q && a) ≡ (q && b)
and_same true a b same = same refl
and_same false a b same = refl

length_cols : (cs : List OpenColumn) → length cs ≡ length (cols cs)
length_cols cs = sym (length-map cs (λ (c : OpenColumn). c.column))

module _ (s f : Laid) (a : Alike s f) where
  flow : is_in_flow s ≡ is_in_flow f
  flow = flow_alike s f a

  left_alike : (kind : LexemeKind) (column : ℕ) → columns_of (left_open kind column s)
      ≡ columns_of (left_open kind column f)
  left_alike kind column =
      left_is column s kind
      ∙ ap₂ (λ (v : Bool) (ns : List ℕ). kept_cols v (is_outer_kind kind) column ns) flow a.columns
      ∙ sym (left_is column f kind)

  count_alike : (cs ds : List OpenColumn) → cols cs ≡ cols ds → length cs ≡ length ds
  count_alike cs ds e = length_cols cs ∙ ap (λ (ns : List ℕ). length ns) e ∙ sym (length_cols ds)

  ended_alike : (x : Lexeme) → ended_blocks x s ≡ ended_blocks x f
  ended_alike x = ap₂ (λ (n m : ℕ). n - m) (count_alike s.columns f.columns a.columns)
      (count_alike (behind_ends x s).columns (behind_ends x f).columns (left_alike x.kind x.start.place.column))

  new_alike : (x : Lexeme) → is_new_column x s ≡ is_new_column x f
  new_alike x =
      ap₂ (λ (v w : Bool). not v && not w) flow
      (top_is x.start.place.column (behind_ends x s).columns
      ∙ ap (is_nearest x.start.place.column) (left_alike x.kind x.start.place.column)
      ∙ sym (top_is x.start.place.column (behind_ends x f).columns))

  pub single_alike : (b : Bool) (x : Lexeme) → begins_single b x s ≡ begins_single b x f
  single_alike b x =
      and_same (in_square s.brackets) (b || (is_bare_colon_of x.kind x.key && is_opener s.last))
      (b || (is_bare_colon_of x.kind x.key && is_opener f.last))
      (λ e. ap (λ (v : Bool). b || (is_bare_colon_of x.kind x.key && v))
      (a.opener (square_open (kinds_in s.brackets) (sym (square_is s.brackets) ∙ e))))
      ∙ ap (λ (v : Bool). v && (b || (is_bare_colon_of x.kind x.key && is_opener f.last)))
      (square_is s.brackets ∙ ap square_kinds a.kinds ∙ sym (square_is f.brackets))

  abbrev shape : Bool → List Bool → Lexeme → ℕ → Bool → Bool → List ScanToken
  shape b ps x n new single =
      replicate n (Inserted BlockEnd x.start)
      ++ (insert_if (ends_single x.kind ps) PairEnd x.start
      ++ (block_start b x.kind x.key new x.start
      ++ (insert_if single PairStart x.start ++ insert_if b KeySign x.start)))

  inserted_alike : (b : Bool) (ps : List Bool) (x : Lexeme) → inserted s b ps x ≡ inserted f b ps x
  inserted_alike b ps x =
      ap (λ (n : ℕ). shape b ps x n (is_new_column x s) (begins_single b x s)) (ended_alike x)
      ∙ ap (λ (v : Bool). shape b ps x (ended_blocks x f) v (begins_single b x s)) (new_alike x)
      ∙ ap (λ (v : Bool). shape b ps x (ended_blocks x f) (is_new_column x f) v) (single_alike b x)

  pub tokens_alike : (b : Bool) (ps : List Bool) (i : Item) → tokens_of s b ps i ≡ tokens_of f b ps i
  tokens_alike b ps (OfLexeme x) =
      ap (λ (ts : List ScanToken). ts ++ (Own x ∷ tail_token x.tail)) (inserted_alike b ps x)
  tokens_alike b ps (OfComment c) = refl

  pub pairs_alike : (b : Bool) (ps : List Bool) (i : Item) → pairs_of s b ps i ≡ pairs_of f b ps i
  pairs_alike b ps (OfLexeme x) = ap (λ (v : Bool). pairs_behind x.kind (with_pair_if v ps)) (single_alike b x)
  pairs_alike b ps (OfComment c) = refl
