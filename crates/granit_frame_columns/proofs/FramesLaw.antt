-- Behind each item of a text, the columns of the parser's frames are the reader's, with the one of a key that is due.
use Rattle.std.proofs.Common.{◌≡◌, ℕ, zero, suc, ◌==◌, Bool, true, false, List, [], ◌∷◌, ◌++◌, map, Option, Some, None}
use Rattle.std.proofs.Common.{inl, Ok, refl, sym, ap, ◌∙◌, subst, arith}
use Rattle.std.proofs.lemmas.Bool.Decides.{nat_tests}
use Rattle.granit_base.specs.Place.{Mark}
use Rattle.granit_error.specs.OptionsData.{OptionsData}
use Rattle.granit_views.specs.Good.{is_fresh}
use Rattle.granit_views.specs.View.{item_of}
use Rattle.granit_agreement.proofs.WholeRuns.{none_stay}
use Rattle.granit_event_machine.proofs.Limit.{from_zero}
use Rattle.granit_event_machine.specs.EventMachine.{IsFresh}
use Rattle.granit_quiet.proofs.CommentLaws.{items_given}
use Rattle.granit_quiet.specs.Quiet.{but_comments, quiet}
use Rattle.granit_language.specs.OpenColumns.{columns_of}
use Rattle.granit_language.specs.Reached.{Reached}
use Rattle.granit_language.specs.Scope.{Scope, no_scope}
use Rattle.granit_language.specs.Scoping.{next_scope}
use Rattle.granit_language.specs.Seen.{Flagged, terminal_of, lexemes_flagged, read_lexemes}
use Rattle.granit_language.specs.Telling.{one_less, indent_told}
use Rattle.granit_language.specs.Terminal.{TerminalKind, Colon, Part, At, edge}
use Rattle.granit_lexemes.specs.Here.{start_of}
use Rattle.granit_lexemes.specs.Lexeme.{Lexeme, Item, OfLexeme, OfComment}
use Rattle.granit_lexemes.specs.PlainEvent.{PlainEvent}
use Rattle.granit_lexemes.specs.declared.layout.Bracket.{Bracket}
use Rattle.granit_machine.specs.Frames.{ParserState, parser_start}
use Rattle.granit_machine.specs.Lexing.{FlaggedItem, Flagging, is_nearest, flag_lexeme, flag_item, flagging, flagged}
use Rattle.granit_machine.specs.Machine.{feed_all}
use Rattle.granit_machine.specs.ReaderState.{ReaderState, reader_start}
use Rattle.granit_places.proofs.Choosing.{Chosen}
use Rattle.granit_places.proofs.ColumnsKept.{chosen, unless_top}
use Rattle.granit_places.proofs.Counting.{start_at}
use Rattle.granit_places.proofs.Holding.{held}
use Rattle.granit_order.specs.FrameColumns.{block_columns, flag_before, flagged_before, due_along}
use Rattle.granit_order.specs.FrameColumns.{other_columns, beside_column, with_due}
use Rattle.granit_order.specs.Order.{open_behind, due_if, due_behind, OrderedFrom}
use Rattle.granit_answers.proofs.Answered.{asked_are}
use Rattle.granit_order.proofs.BracketsKept.{brackets_kept}
use Rattle.granit_order.proofs.ColumnLists.{due_pushed, KeysTo, edges}
use Rattle.granit_order.proofs.Enclosing.{suits_fresh}
use Rattle.granit_frame_columns.proofs.FramesRun.{all_go}
use Rattle.granit_order.proofs.KeysKept.{Aim, Anything, KeyFits, all_fit, all_keep, flag_all, flag_joined, keys_kept}
use Rattle.granit_order.proofs.KeysKept.{none_due, none_left}
use Rattle.granit_order.proofs.KeysMoved.{outer_in}
use Rattle.granit_order.proofs.OrderSteps.{make_order}
use Rattle.granit_answers.proofs.RowsTold.{lexemes_joined, ordered_front}

-- ---- flags of items in front of others

lexeme_joins : (v : Bool) (l : Lexeme) (a w : List FlaggedItem) (ns : List ℕ)
    → flag_lexeme v l (a ++ w, ns) ≡ ((flag_lexeme v l (a, ns)).0 ++ w, (flag_lexeme v l (a, ns)).1)
lexeme_joins true l a w ns = refl
lexeme_joins false l a w ns = refl

item_joins : (i : Item) (a w : List FlaggedItem) (ns : List ℕ)
    → flag_item i (a ++ w, ns) ≡ ((flag_item i (a, ns)).0 ++ w, (flag_item i (a, ns)).1)
item_joins (OfComment c) a w ns = refl
item_joins (OfLexeme l) a w ns = lexeme_joins (is_nearest l.number ns) l a w ns

flags_split : (is : List Item) (w : List FlaggedItem) (ns : List ℕ)
    → flag_before is (w, ns) ≡ ((flag_before is ([], ns)).0 ++ w, (flag_before is ([], ns)).1)
flags_split [] w ns = refl
flags_split (i ∷ is) w ns = ap (flag_item i) (flags_split is w ns)
    ∙ item_joins i (flag_before is ([], ns)).0 w (flag_before is ([], ns)).1

pub flags_before : (front back : List Item) → flagged (front ++ back)
    ≡ flagged_before front (flagging back).1 ++ flagged back
flags_before front back =
    ap (λ (y : Flagging). y.0) (flag_all (front ++ back) ∙ flag_joined front back ([], [])
    ∙ ap (flag_before front) (sym (flag_all back)) ∙ flags_split front (flagging back).0 (flagging back).1)

-- ---- the front of a list in order

-- ---- a column that is due is counted from 1

abbrev Counts : Option ℕ → Type 0
Counts None = Unit {0}
Counts (Some zero) = ⊥
Counts (Some (suc c)) = Unit {0}

counts_if : (flag : Bool) (i : At) (due : Option ℕ) → Counts due → Counts (due_if flag (edge i) due)
counts_if true i due p = tt
counts_if false i due p = p

counts_behind : (bs : List Bracket) (kind : TerminalKind) (i : At) (due : Option ℕ) → Counts due
    → Counts (due_behind bs kind i due)
counts_behind (b ∷ bs) kind i due p = p
counts_behind [] (Part k) i due p = counts_if i.begins_key i due p
counts_behind [] (Colon (Some n)) i due p = tt
counts_behind [] (Colon None) i due p = p
counts_behind [] kind i due p = p

counts_along : (fs : List Flagged) (s : Scope) (bs : List Bracket) (due : Option ℕ) → Counts due
    → Counts (due_along fs s bs due)
counts_along [] s bs due p = p
counts_along (f ∷ fs) s bs due p =
    let x = terminal_of f.1 s f.0 in
    counts_along fs (next_scope x.kind s) (open_behind x.kind bs) (due_behind bs x.kind x.at due)
    (counts_behind bs x.kind x.at due p)

one_less_all : (ns : List ℕ) → map one_less (map suc ns) ≡ ns
one_less_all [] = refl
one_less_all (n ∷ ns) = ap (λ (ns : List ℕ). n ∷ ns) (one_less_all ns)

beside_less : (c : ℕ) (ns : List ℕ) → map one_less (unless_top (suc c) (map suc ns)) ≡ beside_column c ns
beside_less c [] = refl
beside_less c (n ∷ ns) = on (n == c) refl
  where
    on : (v : Bool) → (n == c) ≡ v → map one_less (chosen (suc n == suc c) (map suc ns) (suc n ∷ map suc ns))
        ≡ other_columns v n ns
    on true e = let f : (suc n == suc c) ≡ true = grind (arith, nat_tests, e) in ap
        (λ v. map one_less (chosen v (map suc ns) (suc n ∷ map suc ns))) f ∙ one_less_all ns
    on false e = let f : (suc n == suc c) ≡ false = grind (arith, nat_tests, e) in ap
        (λ v. map one_less (chosen v (map suc ns) (suc n ∷ map suc ns))) f
        ∙ ap (λ (ns : List ℕ). n ∷ ns) (one_less_all ns)

less_due : (due : Option ℕ) (ns : List ℕ) → Counts due
    → map one_less (due_pushed due (map suc ns)) ≡ with_due (indent_told due) ns
less_due None ns p = one_less_all ns
less_due (Some zero) ns p = absurd p
less_due (Some (suc c)) ns p = ap (λ (ns : List ℕ). c ∷ ns) (beside_less c ns)

-- ---- the law

module _ (o : OptionsData) (x : List ℕ) (front back : List Item) (s t : ReaderState)
    (whole : Reached o (reader_start (start_of x)) (front ++ back) t)
    (rf : Reached o (reader_start (start_of x)) front s) (rb : Reached o s back t) where
  abbrev Named : List ℕ
  Named = (flagging back).1

  abbrev Fronted : List FlaggedItem
  Fronted = flagged_before front Named

  abbrev There : Aim
  There bs due cs = cs ≡ edges s.laid

  front_order : OrderedFrom (lexemes_flagged Fronted) no_scope [] None false
  front_order =
      ordered_front (lexemes_flagged Fronted) (lexemes_flagged (flagged back)) no_scope [] None false
      (subst (λ (fs : List Flagged). OrderedFrom fs no_scope [] None false)
      (ap (λ (is : List FlaggedItem). lexemes_flagged is) (flags_before front back)
      ∙ lexemes_joined Fronted (flagged back))
      (make_order (read_lexemes (front ++ back)) no_scope [] None false (brackets_kept o x (front ++ back) t whole)
      (keys_kept o x (front ++ back) t whole)))

  base : KeyFits There s.laid (edges s.laid) ([], Named)
  base =
      let k = all_keep o x rf (start_at x) tt tt in
      let f = all_fit Anything o x ([], []) rb k.place k.below k.ahead (none_left Anything t.laid tt) in
      record {
        ks = f.ks;
        chosen = subst (λ (y : Flagging). Chosen (held s.laid) f.ks y.1) (sym (flag_all back))
            f.chosen;
        ordered = λ s. refl;
      }

  front_keys : KeysTo There (lexemes_flagged Fronted) no_scope [] None []
  front_keys =
      let f = all_fit There o x ([], Named) rf (start_at x) tt tt base in
      subst (λ due. KeysTo There (lexemes_flagged Fronted) no_scope [] due []) (none_due (outer_in [] f.ks))
      (f.ordered no_scope)

  abbrev Due : Option ℕ
  Due = due_along (lexemes_flagged Fronted) no_scope [] None

  pub frames_law : (m : Mark) (gs : List PlainEvent) (p : ParserState)
      → feed_all o Fronted (parser_start m) ≡ Ok (gs, p)
      → block_columns p.frames ≡ with_due (indent_told Due) (columns_of s.laid)
  frames_law m gs p e =
      let fed = items_given o Fronted (parser_start m) p gs refl e in
      let alone : feed_all o (map item_of (lexemes_flagged Fronted)) (parser_start m)
      ≡ Ok (but_comments gs, quiet o p) = ap (λ is. feed_all o is (parser_start m)) (sym (asked_are Fronted))
      ∙ fed in
      let l = all_go o There (lexemes_flagged Fronted) no_scope [] None false [] IsFresh
      (record { last = m; count = 0; names = []; handles = []; kept = []; given = [] }) (parser_start m)
      (but_comments gs)
      (quiet o p)
      is_fresh (refl, refl, refl, refl, refl, none_stay o.keep_tags) (from_zero o.block_nesting_limit) refl
      (inl suits_fresh)
      (record { columns = refl; over = tt; sits = tt }) front_order front_keys refl tt alone in
      l.are ∙ ap (λ cs. map one_less (due_pushed Due cs)) l.says
      ∙ less_due Due (columns_of s.laid) (counts_along (lexemes_flagged Fronted) no_scope [] None tt)
