-- A quoted scalar and the gap behind it.
use Rattle.std.proofs.Common.{◌≡◌, Bool, true, false, List, [], ◌∷◌, ◌++◌, map, Option, Some, None, Ok, Err}
use Rattle.std.proofs.Common.{refl, sym, ap, ◌∙◌}
use Rattle.std.specs.Global.{Box}
use Rattle.std.specs.List.{filter}
use Rattle.std.specs.Option.{option_map}
use Rattle.granit_cursor.specs.Reading.{coded}
use Rattle.granit_error.specs.OptionsData.{OptionsData}
use Rattle.granit_error.specs.Refused.{Refused}
use Rattle.granit_lexemes.specs.Comment.{CommentRead}
use Rattle.granit_lexemes.specs.Lexeme.{Item, OfLexeme, OfComment}
use Rattle.granit_lexemes.specs.Outcome.{Fails, ◌>>=◌}
use Rattle.granit_lexemes.specs.declared.layout.LastLexeme.{LastLexeme}
use Rattle.granit_lexemes.specs.declared.layout.LastLexeme.TheVariants.{Adjacent}
use Rattle.granit_machine.specs.Gaps.{GapRead, gap}
use Rattle.granit_machine.specs.Laid.{Laid}
use Rattle.granit_machine.specs.Machine.{without_tail, is_lexeme}
use Rattle.granit_machine.specs.NodeLexemes as nodes
use Rattle.granit_machine.specs.ReaderState.{ReaderState, Read}
use Rattle.granit_steps.specs.Steps.{incoming}
use Rattle.granit_items.specs.ItemViews as view
use Rattle.granit_items.specs.ItemViews.{boxed_view}
use Rattle.granit_content.specs.Reads.{Seen, seen, comment_kept, behind_seen}
use Rattle.granit_content.specs.ScalarReads.{with_seen}
use Rattle.granit_items.specs.declared.item.Note.{Note}
use Rattle.granit_content.proofs.CodedLemmas.{coded_back, coded_fails, fails_then}

-- ---- as it is given

note_items_are : (note : Option (Box Note)) → nodes.note_items (option_map boxed_view note) ≡ view.boxed_note_items note
note_items_are None = refl
note_items_are (Some n) = refl

pub seen_given : (items : List Item) (t : Seen) (note : Option (Box Note)) (s : ReaderState) (before after : Laid)
    → option_map boxed_view note ≡ comment_kept t → s.laid ≡ before
    → after ≡ record before { last = behind_seen Adjacent t }
    → with_seen items t s ≡ Ok (items ++ view.boxed_note_items note, record { here = s.here; laid = after })
seen_given items t note s before after is same left =
    let there = ap nodes.note_items (sym is) ∙ note_items_are note in
    ap (λ (i : List Item). Ok (
      items ++ i,
      record {
        here = s.here;
        laid =
            record (s.laid) { last = behind_seen Adjacent t };
      },
    )) there
    ∙ ap (λ (l : Laid). Ok (
      items ++ view.boxed_note_items note,
      record { here = s.here; laid = record l { last = behind_seen Adjacent t } },
    )) same
    ∙ ap (λ (l : Laid). Ok (items ++ view.boxed_note_items note, record { here = s.here; laid = l })) (sym left)

-- ---- as it is defined

unasked : (items : List Item) (note : Option CommentRead)
    → map without_tail (filter is_lexeme (items ++ nodes.note_items note))
    ≡ map without_tail (filter is_lexeme items) ++ []
unasked [] None = refl
unasked [] (Some c) = refl
unasked (OfLexeme x ∷ items) note = ap (λ (rest : List Item). without_tail (OfLexeme x) ∷ rest) (unasked items note)
unasked (OfComment c ∷ items) note = unasked items note

incoming_note : (asked : Bool) (items : List Item) (note : Option CommentRead)
    → incoming asked (items ++ nodes.note_items note)
    ≡ incoming asked items ++ nodes.note_items (comment_kept (seen asked note))
incoming_note true items None = refl
incoming_note true items (Some c) = refl
incoming_note false items None = unasked items None
incoming_note false items (Some c) = unasked items (Some c)

last_is : (asked : Bool) (note : Option CommentRead)
    → nodes.adjacent_unless note ≡ behind_seen Adjacent (seen asked note)
last_is true None = refl
last_is true (Some c) = refl
last_is false None = refl
last_is false (Some c) = refl

module _ (asked : Bool) (o : OptionsData) where
  gap_on : (items : List Item) (q : GapRead) → coded (incoming asked) (q >>= λ x. nodes.with_note items x.0 x.1)
      ≡ (coded (seen asked) q >>= λ x. with_seen (incoming asked items) x.0 x.1)
  gap_on items (Ok x) =
      ap (λ (i : List Item). Ok (
        i,
        record {
          here = x.1.here;
          laid =
              record (x.1.laid) { last = nodes.adjacent_unless x.0 };
        },
      )) (incoming_note asked items x.0)
      ∙ ap (λ (t : LastLexeme). Ok (
        incoming asked items
            ++ nodes.note_items (comment_kept (seen asked x.0)),
        record { here = x.1.here; laid = record (x.1.laid) { last = t } },
      ))
      (last_is asked x.0)
  gap_on items (Err f) = refl

  -- behind what was read, the gap is read
  pub gap_behind : (r : Read) (items : List Item) (s : ReaderState) (before : Laid) → s.laid ≡ before
      → coded (incoming asked) r ≡ Ok (items, s)
      → coded (incoming asked) (r >>= λ x. nodes.with_gap o x.0 x.1)
      ≡ (coded (seen asked) (gap o s.here before) >>= λ x. with_seen items x.0 x.1)
  gap_behind r items s before same is =
      let y = coded_back (incoming asked) r items s is in
      ap (λ (q : Read). coded (incoming asked) (q >>= λ x. nodes.with_gap o x.0 x.1)) y.1
      ∙ gap_on y.0 (gap o s.here s.laid)
      ∙ ap (λ (i : List Item). coded (seen asked) (gap o s.here s.laid) >>= λ x. with_seen i x.0 x.1) y.2
      ∙ ap (λ (l : Laid). coded (seen asked) (gap o s.here l) >>= λ x. with_seen items x.0 x.1) same

  pub gap_unreached : (r : Read) (e : Refused) → Fails e (coded (incoming asked) r)
      → Fails e (coded (incoming asked) (r >>= λ x. nodes.with_gap o x.0 x.1))
  gap_unreached r e fails = fails_then (r >>= λ x. nodes.with_gap o x.0 x.1) _ e
      (fails_then r _ e (coded_fails (incoming asked) r e fails))
