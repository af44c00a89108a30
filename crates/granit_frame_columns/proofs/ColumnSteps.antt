-- What each lexeme makes of the columns of the frames of the grammar's machine.
use Rattle.std.proofs.Common.{◌≡◌, ℕ, ◌==◌, ◌&&◌, Bool, true, false, List, [], ◌∷◌, Option, Some, None, refl, sym}
use Rattle.std.proofs.Common.{ap, ◌∙◌, subst, arith}
use Rattle.std.specs.Prelude.{not, nat_lt}
use Rattle.std.proofs.lemmas.Bool.{and_parts}
use Rattle.std.proofs.lemmas.Bool.Decides.{nat_tests}
use Rattle.granit_views.specs.Running.{FairNext}
use Rattle.granit_views.specs.Stepping.{taken}
use Rattle.granit_event_machine.specs.EventMachine.{Key, Asking, Value, OpenFrame, DocumentFrame}
use Rattle.granit_event_machine.specs.EventMachine.{SequenceFrame, MappingFrame, FlowSequenceFrame}
use Rattle.granit_event_machine.specs.EventMachine.{FlowMappingFrame, EventState, InFrames, FlowPairFrame, Ending}
use Rattle.granit_event_machine.specs.EventMachine.{ending}
use Rattle.granit_event_machine.specs.EventMachine.{frames_room}
use Rattle.granit_event_machine.specs.EventMachine.{frames_indent, stop_kind, Opened}
use Rattle.granit_event_machine.specs.EventMachine.{ended_by, EventStep, GoesTo, if_gives, part_frames, BlockSite}
use Rattle.granit_event_machine.specs.EventMachine.{entry_frames, begin_pair_frames, want_frames, take_frames}
use Rattle.granit_language.specs.Choice.{choose}
use Rattle.granit_language.specs.GrammarFault.{GrammarFault, ExpectedBlockMappingKey, ExpectedBlockSequenceEntry}
use Rattle.granit_language.specs.Node.{TreeProperties, NoProperties, One, Two}
use Rattle.granit_language.specs.OpenColumns.{AtMost}
use Rattle.granit_language.specs.Reading.{begins_kind}
use Rattle.granit_language.specs.Room.{Room, RightOf, ValueIn, KeyIn, BehindKey, ItemIn, Inside}
use Rattle.granit_language.specs.Room.{right_fits, loose_fits}
use Rattle.granit_language.specs.Room.{part_fits, opens, room_behind, indicates}
use Rattle.granit_language.specs.Terminal.{PartKind, TerminalKind, Directive}
use Rattle.granit_language.specs.Terminal.{DocumentStart, DocumentEnd, TheEnd, Dash, Question, Comma, Colon, Close}
use Rattle.granit_language.specs.Terminal.{Part, At, Terminal, terminal, edge, reach_of, entry_in}
use Rattle.granit_language.specs.TreeEvents.{sequence_start, bare_document_start}
use Rattle.granit_lexemes.specs.declared.layout.Bracket.{Bracket}
use Rattle.granit_lexemes.specs.declared.layout.Bracket.TheVariants.{Square, Curly}
use Rattle.granit_places.proofs.ColumnsKept.{push}
use Rattle.granit_order.specs.Order.{InOrder}
use Rattle.granit_order.proofs.Enclosing.{Blocks, block_root, block_entry, block_asked, block_value, Encloses}
use Rattle.granit_order.proofs.Enclosing.{in_blocks, in_key, in_item, in_curly, in_curly_key, in_curly_asked}
use Rattle.granit_order.proofs.Enclosing.{in_curly_value, in_made_key, in_made_value, in_pair_asked, in_pair_value}
use Rattle.granit_order.proofs.Enclosing.{Suits, suits_fresh, suits_directed, suits_rooted, suits_blocks, suits_item}
use Rattle.granit_order.proofs.Enclosing.{suits_curly, suits_curly_asked, suits_curly_value, suits_made_value}
use Rattle.granit_order.proofs.Enclosing.{suits_pair_asked, suits_pair_value, suits_one, suits_two, suits_past_entry}
use Rattle.granit_order.proofs.Enclosing.{suits_key_done, suits_ask_done, suits_done, suits_item_done}
use Rattle.granit_order.proofs.Enclosing.{suits_curly_key_done, suits_curly_ask_done, suits_curly_solo}
use Rattle.granit_order.proofs.Enclosing.{suits_curly_done, suits_made_key_done, suits_made_done}
use Rattle.granit_order.proofs.Enclosing.{suits_square_ask_done, suits_square_done}
use Rattle.granit_order.proofs.OrderSteps.{EndSuits, closed_suits, IsSome, after_next, if_next, choose_next}
use Rattle.granit_order.proofs.OrderSteps.{no_opening}
use Rattle.granit_frame_columns.proofs.ColumnCloses.{open_columns, state_columns, Sits, StateSits, Holds, sits_fall}
use Rattle.granit_frame_columns.proofs.ColumnCloses.{at_most_behind, push_same, Beyond, beyond_all, beyond_top}
use Rattle.granit_frame_columns.proofs.ColumnCloses.{EndHolds}
use Rattle.granit_frame_columns.proofs.ColumnCloses.{closed_columns, closed_hold, begun_if, stepped, To, to_as}
use Rattle.granit_frame_columns.proofs.ColumnCloses.{put_holds}
use Rattle.granit_frame_columns.proofs.ColumnCloses.{part_holds, entry_holds, square_holds, curly_holds, pair_holds}

module _ (i : At) where
  room_same : (p : TreeProperties) (fs : List OpenFrame) → Blocks fs → room_behind p (frames_room fs) ≡ frames_room fs
  room_same NoProperties fs b = refl
  room_same (One k j) fs block_root = refl
  room_same (One k j) fs (block_entry b) = refl
  room_same (One k j) fs (block_asked b) = refl
  room_same (One k j) fs (block_value b) = refl
  room_same (Two k j m h) fs block_root = refl
  room_same (Two k j m h) fs (block_entry b) = refl
  room_same (Two k j m h) fs (block_asked b) = refl
  room_same (Two k j m h) fs (block_value b) = refl

  beyond : (fs : List OpenFrame) → Blocks fs → Sits fs → right_fits (frames_room fs) (edge i) ≡ true
      → Beyond (edge i) (open_columns fs)
  beyond fs block_root s e = (tt, refl)
  beyond fs (block_entry {loose = true} {c = c} {fs = gs} b) s e = beyond_all c (edge i) (open_columns gs) e s.1
      (sits_fall gs s.2)
  beyond fs (block_entry {loose = false} {c = c} {fs = gs} b) s e = beyond_top c (edge i) (open_columns gs) e s.1
      (sits_fall gs s.2)
  beyond fs (block_asked {c = c} {fs = gs} b) s e = beyond_top c (edge i) (open_columns gs) e s.0 (sits_fall gs s.1)
  beyond fs (block_value {c = c} {fs = gs} b) s e = beyond_top c (edge i) (open_columns gs) e s.0 (sits_fall gs s.1)

  right_of : (fs : List OpenFrame) → Blocks fs → indicates (frames_room fs) i ≡ true
      → right_fits (frames_room fs) (edge i) ≡ true
  right_of fs block_root e = e
  right_of fs (block_entry b) e = e
  right_of fs (block_asked b) e = e
  right_of fs (block_value b) e = e

  -- an indentless sequence stands in the column of its mapping
  seated : (fs : List OpenFrame) → Blocks fs → loose_fits (frames_room fs) (edge i) ≡ true → Sits fs
      → (push (edge i) (open_columns fs) ≡ open_columns fs) × AtMost (edge i) (open_columns fs)
  seated fs block_root e s = absurd cc
  seated fs (block_entry b) e s = absurd cc
  seated fs (block_asked {c = c} {fs = gs} b) e s = (
    push_same (edge i) c (open_columns gs) e,
    at_most_behind (edge i) c (open_columns gs)
        (let f : nat_lt (edge i) c ≡ false = grind (arith, nat_tests, e) in f) s.0 (sits_fall gs s.1),
  )
  seated fs (block_value {c = c} {fs = gs} b) e s = (
    push_same (edge i) c (open_columns gs) e,
    at_most_behind (edge i) c (open_columns gs)
        (let f : nat_lt (edge i) c ≡ false = grind (arith, nat_tests, e) in f) s.0 (sits_fall gs s.1),
  )

  indicated : (fs : List OpenFrame) (p : TreeProperties) → Blocks fs → Sits fs
      → indicates (room_behind p (frames_room fs)) i ≡ true → Beyond (edge i) (open_columns fs)
  indicated fs p b s e = beyond fs b s (right_of fs b (ap (λ room. indicates room i) (sym (room_same p fs b)) ∙ e))

  not_true : (a : Bool) → not a ≡ true → a ≡ false
  not_true true e = absurd cc
  not_true false e = refl

  fits_not : (room : Room) → part_fits room i ≡ true → i.begins_key ≡ false
  fits_not (RightOf n) e = not_true i.begins_key (and_parts _ _ e).0
  fits_not (ValueIn n) e = not_true i.begins_key (and_parts _ _ e).0
  fits_not (BehindKey n) e = not_true i.begins_key (and_parts _ _ e).0
  fits_not (KeyIn h f) e = absurd cc
  fits_not ItemIn e = not_true i.begins_key e
  fits_not Inside e = not_true i.begins_key e

  part_wants : (fs : List OpenFrame) (p : TreeProperties) (k : PartKind) → Blocks fs → Sits fs
      → To (stepped [] (Part k) i (open_columns fs))
      (choose (opens (room_behind p (frames_room fs)) i) (begin_pair_frames (stop_kind fs) fs p (Part k) i)
      (if_gives (part_fits (room_behind p (frames_room fs)) i) (stop_kind fs) (part_frames (stop_kind fs) fs p k i)))
  part_wants fs p k b s =
      choose_next (Holds (stepped [] (Part k) i (open_columns fs))) (opens (room_behind p (frames_room fs)) i)
      (begin_pair_frames (stop_kind fs) fs p (Part k) i)
      (if_gives (part_fits (room_behind p (frames_room fs)) i) (stop_kind fs) (part_frames (stop_kind fs) fs p k i))
      (λ e. let q = and_parts i.begins_key (indicates (room_behind p (frames_room fs)) i) e in
      let r = indicated fs p b s q.1 in
      to_as (begin_pair_frames (stop_kind fs) fs p (Part k) i)
      (sym (ap (λ v. begun_if v (edge i) (open_columns fs)) q.0 ∙ r.1))
      (pair_holds (stop_kind fs) i fs p (Part k) b (r.0, s)))
      (if_next (Holds (stepped [] (Part k) i (open_columns fs))) (part_fits (room_behind p (frames_room fs)) i)
      (stop_kind fs) (part_frames (stop_kind fs) fs p k i)
      (λ e. to_as (part_frames (stop_kind fs) fs p k i)
      (sym (ap (λ v. begun_if v (edge i) (open_columns fs)) (fits_not (room_behind p (frames_room fs)) e)))
      (part_holds (stop_kind fs) i p k (in_blocks {due = None} b) s)))

  dash_wants : (fs : List OpenFrame) (p : TreeProperties) → Blocks fs → Sits fs
      → To (push (edge i) (open_columns fs)) (choose (loose_fits (room_behind p (frames_room fs)) (edge i))
      (GoesTo (InFrames (SequenceFrame true (edge i) (Some i.end) ∷ fs))
      (sequence_start p true i (frames_indent fs) ∷ []))
      (if_gives (right_fits (room_behind p (frames_room fs)) (edge i)) (stop_kind fs)
      (GoesTo (InFrames (SequenceFrame false (edge i) (Some i.end) ∷ fs))
      (sequence_start p false i (frames_indent fs) ∷ []))))
  dash_wants fs p b s =
      choose_next (Holds (push (edge i) (open_columns fs))) (loose_fits (room_behind p (frames_room fs)) (edge i))
      (GoesTo (InFrames (SequenceFrame true (edge i) (Some i.end) ∷ fs))
      (sequence_start p true i (frames_indent fs) ∷ []))
      (if_gives (right_fits (room_behind p (frames_room fs)) (edge i)) (stop_kind fs)
      (GoesTo (InFrames (SequenceFrame false (edge i) (Some i.end) ∷ fs))
      (sequence_start p false i (frames_indent fs) ∷ [])))
      (λ e. let q = seated fs b (ap (λ room. loose_fits room (edge i)) (sym (room_same p fs b)) ∙ e)
      s in (sym q.0, (q.0, q.1, s)))
      (if_next (Holds (push (edge i) (open_columns fs))) (right_fits (room_behind p (frames_room fs)) (edge i))
      (stop_kind fs) (GoesTo (InFrames (SequenceFrame false (edge i) (Some i.end) ∷ fs))
      (sequence_start p false i (frames_indent fs) ∷ []))
      (λ e. let q = beyond fs b s (ap (λ room. right_fits room (edge i)) (sym (room_same p fs b))
      ∙ e) in (sym q.1, (tt, q.0, s))))

  pair_wants : (fs : List OpenFrame) (p : TreeProperties) (kind : TerminalKind) → Blocks fs → Sits fs
      → To (push (edge i) (open_columns fs)) (if_gives (indicates (room_behind p (frames_room fs)) i) (stop_kind fs)
      (begin_pair_frames (stop_kind fs) fs p kind i))
  pair_wants fs p kind b s =
      if_next (Holds (push (edge i) (open_columns fs))) (indicates (room_behind p (frames_room fs)) i) (stop_kind fs)
      (begin_pair_frames (stop_kind fs) fs p kind i)
      (λ e. let q = indicated fs p b s e in to_as (begin_pair_frames (stop_kind fs) fs p kind i) (sym q.1)
      (pair_holds (stop_kind fs) i fs p kind b (q.0, s)))

  block_holds : (fs : List OpenFrame) (p : TreeProperties) (kind : TerminalKind) → Blocks fs → Sits fs
      → To (stepped [] kind i (open_columns fs)) (want_frames fs p kind i)
  block_holds fs p (Part k) b s = part_wants fs p k b s
  block_holds fs p Dash b s = dash_wants fs p b s
  block_holds fs p Question b s = pair_wants fs p Question b s
  block_holds fs p (Colon None) b s = pair_wants fs p (Colon None) b s
  block_holds fs p kind block_root s = tt
  block_holds fs p kind (block_entry b) s = tt
  block_holds fs p kind (block_asked b) s = tt
  block_holds fs p kind (block_value b) s = tt

  -- where no pair may begin
  tight_holds : {bs : List Bracket} {due : Option ℕ} (fs : List OpenFrame) (p : TreeProperties) (k : PartKind)
      (stop : GrammarFault) (y : EventStep) (v : Bool) → Encloses bs due fs → Sits fs
      → To (open_columns fs) (choose (i.begins_key && false) y (if_gives v stop (part_frames stop fs p k i)))
  tight_holds fs p k stop y v e s =
      choose_next (Holds (open_columns fs)) (i.begins_key && false) y (if_gives v stop (part_frames stop fs p k i))
      (λ f. no_opening i.begins_key f)
      (if_next (Holds (open_columns fs)) v stop (part_frames stop fs p k i) (λ f. part_holds stop i p k e s))

  inside : {b : Bracket} {bs : List Bracket} {due : Option ℕ} (p : TreeProperties) (fs : List OpenFrame) → IsSome p
      → Encloses (b ∷ bs) due fs → room_behind p (frames_room fs) ≡ Inside
  inside NoProperties fs some e = absurd some
  inside (One k j) fs some (in_item e) = refl
  inside (One k j) fs some (in_curly e) = refl
  inside (One k j) fs some (in_curly_key e) = refl
  inside (One k j) fs some (in_curly_asked e) = refl
  inside (One k j) fs some (in_curly_value e) = refl
  inside (One k j) fs some (in_made_key e) = refl
  inside (One k j) fs some (in_made_value e) = refl
  inside (One k j) fs some (in_pair_asked e) = refl
  inside (One k j) fs some (in_pair_value e) = refl
  inside (Two k j m h) fs some (in_item e) = refl
  inside (Two k j m h) fs some (in_curly e) = refl
  inside (Two k j m h) fs some (in_curly_key e) = refl
  inside (Two k j m h) fs some (in_curly_asked e) = refl
  inside (Two k j m h) fs some (in_curly_value e) = refl
  inside (Two k j m h) fs some (in_made_key e) = refl
  inside (Two k j m h) fs some (in_made_value e) = refl
  inside (Two k j m h) fs some (in_pair_asked e) = refl
  inside (Two k j m h) fs some (in_pair_value e) = refl

  part_inside : {b : Bracket} {bs : List Bracket} {due : Option ℕ} (fs : List OpenFrame) (p : TreeProperties)
      (k : PartKind) → IsSome p → Encloses (b ∷ bs) due fs → Sits fs
      → To (open_columns fs) (want_frames fs p (Part k) i)
  part_inside fs p k some e s =
      subst (λ room. To (open_columns fs) (choose (opens room i) (begin_pair_frames (stop_kind fs) fs p (Part k) i)
      (if_gives (part_fits room i) (stop_kind fs) (part_frames (stop_kind fs) fs p k i))))
      (sym (inside p fs some e))
      (tight_holds fs p k (stop_kind fs) (begin_pair_frames (stop_kind fs) fs p (Part k) i) (part_fits Inside i) e s)

  flow_holds : {b : Bracket} {bs : List Bracket} {due : Option ℕ} (fs : List OpenFrame) (p : TreeProperties)
      (kind : TerminalKind) → IsSome p → Encloses (b ∷ bs) due fs → Sits fs
      → To (open_columns fs) (want_frames fs p kind i)
  flow_holds fs NoProperties kind some e s = absurd some
  flow_holds fs (One m j) (Part k) some e s = part_inside fs (One m j) k tt e s
  flow_holds fs (Two m j n h) (Part k) some e s = part_inside fs (Two m j n h) k tt e s
  flow_holds fs (One m j) (Colon None) some (in_item e) s = tt
  flow_holds fs (One m j) kind some (in_item e) s = tt
  flow_holds fs (One m j) (Colon None) some (in_curly e) s = tt
  flow_holds fs (One m j) kind some (in_curly e) s = tt
  flow_holds fs (One m j) (Colon None) some (in_curly_key e) s = tt
  flow_holds fs (One m j) kind some (in_curly_key e) s = tt
  flow_holds fs (One m j) (Colon None) some (in_curly_asked e) s = tt
  flow_holds fs (One m j) kind some (in_curly_asked e) s = tt
  flow_holds fs (One m j) (Colon None) some (in_curly_value e) s = tt
  flow_holds fs (One m j) kind some (in_curly_value e) s = tt
  flow_holds fs (One m j) (Colon None) some (in_made_key e) s = tt
  flow_holds fs (One m j) kind some (in_made_key e) s = tt
  flow_holds fs (One m j) (Colon None) some (in_made_value e) s = tt
  flow_holds fs (One m j) kind some (in_made_value e) s = tt
  flow_holds fs (One m j) (Colon None) some (in_pair_asked e) s = tt
  flow_holds fs (One m j) kind some (in_pair_asked e) s = tt
  flow_holds fs (One m j) (Colon None) some (in_pair_value e) s = tt
  flow_holds fs (One m j) kind some (in_pair_value e) s = tt
  flow_holds fs (Two m j n h) (Colon None) some (in_item e) s = tt
  flow_holds fs (Two m j n h) kind some (in_item e) s = tt
  flow_holds fs (Two m j n h) (Colon None) some (in_curly e) s = tt
  flow_holds fs (Two m j n h) kind some (in_curly e) s = tt
  flow_holds fs (Two m j n h) (Colon None) some (in_curly_key e) s = tt
  flow_holds fs (Two m j n h) kind some (in_curly_key e) s = tt
  flow_holds fs (Two m j n h) (Colon None) some (in_curly_asked e) s = tt
  flow_holds fs (Two m j n h) kind some (in_curly_asked e) s = tt
  flow_holds fs (Two m j n h) (Colon None) some (in_curly_value e) s = tt
  flow_holds fs (Two m j n h) kind some (in_curly_value e) s = tt
  flow_holds fs (Two m j n h) (Colon None) some (in_made_key e) s = tt
  flow_holds fs (Two m j n h) kind some (in_made_key e) s = tt
  flow_holds fs (Two m j n h) (Colon None) some (in_made_value e) s = tt
  flow_holds fs (Two m j n h) kind some (in_made_value e) s = tt
  flow_holds fs (Two m j n h) (Colon None) some (in_pair_asked e) s = tt
  flow_holds fs (Two m j n h) kind some (in_pair_asked e) s = tt
  flow_holds fs (Two m j n h) (Colon None) some (in_pair_value e) s = tt
  flow_holds fs (Two m j n h) kind some (in_pair_value e) s = tt

  -- in a key outside flow
  key_holds : (c : ℕ) (fs : List OpenFrame) (p : TreeProperties) (kind : TerminalKind) → IsSome p → Blocks fs
      → AtMost c (open_columns fs) × Sits fs → begins_kind kind i.begins_key ≡ false
      → To (stepped [] kind i (c ∷ open_columns fs)) (want_frames (MappingFrame c Key ∷ fs) p kind i)
  key_holds c fs NoProperties kind some b s n = absurd some
  key_holds c fs (One m j) (Part k) some b s n = to_as (want_frames (MappingFrame c Key ∷ fs) (One m j) (Part k) i)
      (sym (ap (λ v. begun_if v (edge i) (c ∷ open_columns fs)) n))
      (tight_holds (MappingFrame c Key ∷ fs) (One m j) k (stop_kind (MappingFrame c Key ∷ fs))
      (begin_pair_frames (stop_kind (MappingFrame c Key ∷ fs)) (MappingFrame c Key ∷ fs) (One m j) (Part k) i)
      (part_fits (BehindKey c) i) (in_key b) s)
  key_holds c fs (Two m j k2 h) (Part k) some b s n = to_as
      (want_frames (MappingFrame c Key ∷ fs) (Two m j k2 h) (Part k) i)
      (sym (ap (λ v. begun_if v (edge i) (c ∷ open_columns fs)) n))
      (tight_holds (MappingFrame c Key ∷ fs) (Two m j k2 h) k (stop_kind (MappingFrame c Key ∷ fs))
      (begin_pair_frames (stop_kind (MappingFrame c Key ∷ fs)) (MappingFrame c Key ∷ fs) (Two m j k2 h) (Part k) i)
      (part_fits (BehindKey c) i) (in_key b) s)
  key_holds c fs (One m j) (Colon None) some b s n = tt
  key_holds c fs (One m j) kind some b s n = tt
  key_holds c fs (Two m j k2 h) (Colon None) some b s n = tt
  key_holds c fs (Two m j k2 h) kind some b s n = tt

  behind_holds : (bs : List Bracket) (due : Option ℕ) (may : Bool) (fs : List OpenFrame) (p : TreeProperties)
      (kind : TerminalKind) → IsSome p → Encloses bs due fs → Sits fs → InOrder bs due may (terminal kind i)
      → To (stepped bs kind i (open_columns fs)) (want_frames fs p kind i)
  behind_holds bs due may fs p kind some (in_blocks b) s o = block_holds fs p kind b s
  behind_holds bs due may fs p kind some (in_key {c = c} {fs = gs} b) s o = key_holds c gs p kind some b s
      (o.begins_none c refl refl)
  behind_holds bs due may fs p kind some (in_item e) s o = flow_holds fs p kind some (in_item e) s
  behind_holds bs due may fs p kind some (in_curly e) s o = flow_holds fs p kind some (in_curly e) s
  behind_holds bs due may fs p kind some (in_curly_key e) s o = flow_holds fs p kind some (in_curly_key e) s
  behind_holds bs due may fs p kind some (in_curly_asked e) s o = flow_holds fs p kind some (in_curly_asked e) s
  behind_holds bs due may fs p kind some (in_curly_value e) s o = flow_holds fs p kind some (in_curly_value e) s
  behind_holds bs due may fs p kind some (in_made_key e) s o = flow_holds fs p kind some (in_made_key e) s
  behind_holds bs due may fs p kind some (in_made_value e) s o = flow_holds fs p kind some (in_made_value e) s
  behind_holds bs due may fs p kind some (in_pair_asked e) s o = flow_holds fs p kind some (in_pair_asked e) s
  behind_holds bs due may fs p kind some (in_pair_value e) s o = flow_holds fs p kind some (in_pair_value e) s

  -- ---- all places

  take_holds : (bs : List Bracket) (due : Option ℕ) (may : Bool) (st : EventState) (kind : TerminalKind)
      → Suits bs due may st → StateSits st → InOrder bs due may (terminal kind i)
      → To (stepped bs kind i (state_columns st)) (take_frames st kind i)
  take_holds bs due may st (Directive d) suits_fresh s o = (refl, tt)
  take_holds bs due may st DocumentStart suits_fresh s o = (refl, tt)
  take_holds bs due may st DocumentEnd suits_fresh s o = (refl, tt)
  take_holds bs due may st TheEnd suits_fresh s o = (refl, tt)
  take_holds bs due may st kind suits_fresh s o = after_next (Holds (stepped [] kind i []))
      (bare_document_start kind i ∷ []) (want_frames (DocumentFrame None ∷ []) NoProperties kind i)
      (block_holds (DocumentFrame None ∷ []) NoProperties kind block_root tt)
  take_holds bs due may st (Directive d) suits_directed s o = (refl, tt)
  take_holds bs due may st DocumentStart suits_directed s o = (refl, tt)
  take_holds bs due may st kind suits_directed s o = tt
  take_holds bs due may st DocumentStart suits_rooted s o = (refl, tt)
  take_holds bs due may st DocumentEnd suits_rooted s o = (refl, tt)
  take_holds bs due may st TheEnd suits_rooted s o = (refl, tt)
  take_holds bs due may st kind suits_rooted s o = tt
  take_holds bs due may st kind (suits_blocks {fs = fs} block_root) s o = block_holds fs NoProperties kind block_root s
  take_holds bs due may st kind (suits_blocks {fs = fs} (block_entry b)) s o = block_holds fs NoProperties kind
      (block_entry b) s
  take_holds bs due may st kind (suits_blocks {fs = fs} (block_asked b)) s o = block_holds fs NoProperties kind
      (block_asked b) s
  take_holds bs due may st kind (suits_blocks {fs = fs} (block_value b)) s o = block_holds fs NoProperties kind
      (block_value b) s
  take_holds bs due may st (Part k) (suits_item {fs = gs} e) s o = choose_next (Holds (open_columns gs))
      (i.begins_key && true) (begin_pair_frames (stop_kind (FlowSequenceFrame false ∷ gs))
      (FlowSequenceFrame false ∷ gs) NoProperties (Part k) i)
      (if_gives (part_fits ItemIn i) (stop_kind (FlowSequenceFrame false ∷ gs))
      (part_frames (stop_kind (FlowSequenceFrame false ∷ gs)) (FlowSequenceFrame false ∷ gs) NoProperties k i))
      (λ f. square_holds (stop_kind (FlowSequenceFrame false ∷ gs)) i (Part k) e s)
      (if_next (Holds (open_columns gs)) (part_fits ItemIn i) (stop_kind (FlowSequenceFrame false ∷ gs))
      (part_frames (stop_kind (FlowSequenceFrame false ∷ gs)) (FlowSequenceFrame false ∷ gs) NoProperties k i)
      (λ f. part_holds (stop_kind (FlowSequenceFrame false ∷ gs)) i NoProperties k (in_item e) s))
  take_holds bs due may st Question (suits_item e) s o = (refl, s)
  take_holds bs due may st (Colon None) (suits_item e) s o = (refl, s)
  take_holds bs due may st (Close Square) (suits_item e) s o = put_holds i.shown.end e s
  take_holds bs due may st kind (suits_item e) s o = tt
  take_holds bs due may st (Part k) (suits_curly {fs = gs} e) s o = choose_next (Holds (open_columns gs))
      (i.begins_key && true) (begin_pair_frames (stop_kind (FlowMappingFrame false Opened ∷ gs))
      (FlowMappingFrame false Opened ∷ gs) NoProperties (Part k) i)
      (if_gives (part_fits ItemIn i) (stop_kind (FlowMappingFrame false Opened ∷ gs))
      (part_frames (stop_kind (FlowMappingFrame false Opened ∷ gs)) (FlowMappingFrame false Opened ∷ gs) NoProperties k
      i)) (λ f. curly_holds (stop_kind (FlowMappingFrame false Opened ∷ gs)) i (Part k) e s)
      (if_next (Holds (open_columns gs)) (part_fits ItemIn i) (stop_kind (FlowMappingFrame false Opened ∷ gs))
      (part_frames (stop_kind (FlowMappingFrame false Opened ∷ gs)) (FlowMappingFrame false Opened ∷ gs) NoProperties k
      i) (λ f. part_holds (stop_kind (FlowMappingFrame false Opened ∷ gs)) i NoProperties k (in_curly e) s))
  take_holds bs due may st Question (suits_curly e) s o = (refl, s)
  take_holds bs due may st (Colon None) (suits_curly e) s o = (refl, s)
  take_holds bs due may st (Close Curly) (suits_curly e) s o = put_holds i.shown.end e s
  take_holds bs due may st kind (suits_curly e) s o = tt
  take_holds bs due may st (Part k) (suits_curly_asked {fs = gs} e) s o = tight_holds
      (FlowMappingFrame false Asking ∷ gs) NoProperties k (stop_kind (FlowMappingFrame false Asking ∷ gs))
      (begin_pair_frames (stop_kind (FlowMappingFrame false Asking ∷ gs)) (FlowMappingFrame false Asking ∷ gs)
      NoProperties (Part k) i) (part_fits Inside i) (in_curly_asked e) s
  take_holds bs due may st (Colon None) (suits_curly_asked e) s o = tt
  take_holds bs due may st kind (suits_curly_asked e) s o = tt
  take_holds bs due may st (Part k) (suits_curly_value {w = w} {fs = gs} e) s o = tight_holds
      (FlowMappingFrame false (Value w) ∷ gs) NoProperties k (stop_kind (FlowMappingFrame false (Value w) ∷ gs))
      (begin_pair_frames (stop_kind (FlowMappingFrame false (Value w) ∷ gs)) (FlowMappingFrame false (Value w) ∷ gs)
      NoProperties (Part k) i) (part_fits Inside i) (in_curly_value e) s
  take_holds bs due may st (Colon None) (suits_curly_value e) s o = tt
  take_holds bs due may st kind (suits_curly_value e) s o = tt
  take_holds bs due may st (Part k) (suits_made_value {w = w} {fs = gs} e) s o = tight_holds
      (FlowMappingFrame true (Value w) ∷ FlowSequenceFrame false ∷ gs) NoProperties k
      (stop_kind (FlowMappingFrame true (Value w) ∷ FlowSequenceFrame false ∷ gs))
      (begin_pair_frames (stop_kind (FlowMappingFrame true (Value w) ∷ FlowSequenceFrame false ∷ gs))
      (FlowMappingFrame true (Value w) ∷ FlowSequenceFrame false ∷ gs) NoProperties (Part k) i) (part_fits Inside i)
      (in_made_value e) s
  take_holds bs due may st (Colon None) (suits_made_value e) s o = tt
  take_holds bs due may st kind (suits_made_value e) s o = tt
  take_holds bs due may st (Part k) (suits_pair_asked {fs = gs} e) s o = tight_holds
      (FlowPairFrame Asking ∷ FlowSequenceFrame false ∷ gs) NoProperties k
      (stop_kind (FlowPairFrame Asking ∷ FlowSequenceFrame false ∷ gs))
      (begin_pair_frames (stop_kind (FlowPairFrame Asking ∷ FlowSequenceFrame false ∷ gs))
      (FlowPairFrame Asking ∷ FlowSequenceFrame false ∷ gs) NoProperties (Part k) i) (part_fits Inside i)
      (in_pair_asked e) s
  take_holds bs due may st (Colon None) (suits_pair_asked e) s o = tt
  take_holds bs due may st kind (suits_pair_asked e) s o = tt
  take_holds bs due may st (Part k) (suits_pair_value {w = w} {fs = gs} e) s o = tight_holds
      (FlowPairFrame (Value w) ∷ FlowSequenceFrame false ∷ gs) NoProperties k
      (stop_kind (FlowPairFrame (Value w) ∷ FlowSequenceFrame false ∷ gs))
      (begin_pair_frames (stop_kind (FlowPairFrame (Value w) ∷ FlowSequenceFrame false ∷ gs))
      (FlowPairFrame (Value w) ∷ FlowSequenceFrame false ∷ gs) NoProperties (Part k) i) (part_fits Inside i)
      (in_pair_value e) s
  take_holds bs due may st (Colon None) (suits_pair_value e) s o = tt
  take_holds bs due may st kind (suits_pair_value e) s o = tt
  take_holds bs due may st kind (suits_one {k = k} {i = j} {fs = fs} off e) s o = behind_holds bs due may fs (One k j)
      kind tt e s o
  take_holds bs due may st kind (suits_two {k = k} {m = m} {i = j} {j = h} {fs = fs} off e) s o = behind_holds bs due
      may fs (Two k j m h) kind tt e s o
  take_holds bs due may st Dash (suits_past_entry {loose = true} {c = c} {fs = gs} b) s o = if_next
      (Holds (push (edge i) (open_columns gs))) (edge i == c) ExpectedBlockSequenceEntry
      (GoesTo (InFrames (SequenceFrame true c (Some i.end) ∷ gs)) [])
      (λ e. let f : c ≡ edge i = grind (arith, nat_tests, e) in (
        sym
            (subst (λ c. push c (open_columns gs) ≡ open_columns gs) f s.0),
        s,
      ))
  take_holds bs due may st Dash (suits_past_entry {loose = false} {c = c} {fs = gs} b) s o = if_next
      (Holds (push (edge i) (c ∷ open_columns gs))) (edge i == c) ExpectedBlockSequenceEntry
      (GoesTo (InFrames (SequenceFrame false c (Some i.end) ∷ gs)) [])
      (λ e. (sym (push_same (edge i) c (open_columns gs) e), s))
  take_holds bs due may st kind (suits_past_entry b) s o = tt
  take_holds bs due may st (Colon (Some n)) (suits_key_done b) s o = (refl, s)
  take_holds bs due may st kind (suits_key_done b) s o = tt
  take_holds bs due may st (Colon None) (suits_ask_done {c = c} {fs = gs} b) s o = if_next
      (Holds (push (edge i) (c ∷ open_columns gs))) (edge i == c) ExpectedBlockMappingKey
      (GoesTo (InFrames (MappingFrame c (Value i.start) ∷ gs)) [])
      (λ e. (sym (push_same (edge i) c (open_columns gs) e), s))
  take_holds bs due may st kind (suits_ask_done b) s o = tt
  take_holds bs due may st (Part k) (suits_done {c = c} {fs = gs} b) s o =
      if_next (Holds (stepped [] (Part k) i (c ∷ open_columns gs))) (entry_in (terminal (Part k) i) c)
      ExpectedBlockMappingKey (entry_frames ExpectedBlockMappingKey (BlockSite c gs) (Part k) i)
      (λ e. let q = and_parts i.begins_key (edge i == c) e in
      to_as (entry_frames ExpectedBlockMappingKey (BlockSite c gs) (Part k) i)
      (sym (ap (λ v. begun_if v (edge i) (c ∷ open_columns gs)) q.0 ∙ push_same (edge i) c (open_columns gs) q.1))
      (entry_holds ExpectedBlockMappingKey i (Part k) c b s))
  take_holds bs due may st Question (suits_done {c = c} {fs = gs} b) s o =
      if_next (Holds (push (edge i) (c ∷ open_columns gs))) (edge i == c) ExpectedBlockMappingKey
      (entry_frames ExpectedBlockMappingKey (BlockSite c gs) Question i)
      (λ e. to_as (entry_frames ExpectedBlockMappingKey (BlockSite c gs) Question i)
      (sym (push_same (edge i) c (open_columns gs) e)) (entry_holds ExpectedBlockMappingKey i Question c b s))
  take_holds bs due may st (Colon None) (suits_done {c = c} {fs = gs} b) s o =
      if_next (Holds (push (edge i) (c ∷ open_columns gs))) (edge i == c) ExpectedBlockMappingKey
      (entry_frames ExpectedBlockMappingKey (BlockSite c gs) (Colon None) i)
      (λ e. to_as (entry_frames ExpectedBlockMappingKey (BlockSite c gs) (Colon None) i)
      (sym (push_same (edge i) c (open_columns gs) e)) (entry_holds ExpectedBlockMappingKey i (Colon None) c b s))
  take_holds bs due may st kind (suits_done b) s o = tt
  take_holds bs due may st Comma (suits_item_done e) s o = (refl, s)
  take_holds bs due may st (Close Square) (suits_item_done e) s o = put_holds i.shown.end e s
  take_holds bs due may st kind (suits_item_done e) s o = tt
  take_holds bs due may st (Colon (Some n)) (suits_curly_key_done e) s o = (refl, s)
  take_holds bs due may st kind (suits_curly_key_done e) s o = tt
  take_holds bs due may st (Colon None) (suits_curly_ask_done e) s o = (refl, s)
  take_holds bs due may st kind (suits_curly_ask_done e) s o = tt
  take_holds bs due may st Comma (suits_curly_solo e) s o = (refl, s)
  take_holds bs due may st (Close Curly) (suits_curly_solo e) s o = put_holds i.shown.end e s
  take_holds bs due may st kind (suits_curly_solo e) s o = tt
  take_holds bs due may st Comma (suits_curly_done e) s o = (refl, s)
  take_holds bs due may st (Close Curly) (suits_curly_done e) s o = put_holds i.shown.end e s
  take_holds bs due may st kind (suits_curly_done e) s o = tt
  take_holds bs due may st (Colon (Some n)) (suits_made_key_done e) s o = (refl, s)
  take_holds bs due may st kind (suits_made_key_done e) s o = tt
  take_holds bs due may st kind (suits_made_done e) s o = tt
  take_holds bs due may st (Colon None) (suits_square_ask_done e) s o = (refl, s)
  take_holds bs due may st kind (suits_square_ask_done e) s o = tt
  take_holds bs due may st kind (suits_square_done e) s o = tt

-- ---- a whole step

taken_holds : (x : Terminal) (bs : List Bracket) (due : Option ℕ) (may : Bool) (cs : List ℕ) (y : Ending)
    → EndSuits bs due may y → EndHolds cs y → InOrder bs due may x → To (stepped bs x.kind x.at cs) (taken y x)
taken_holds x bs due may cs (ending st es) p h o =
    after_next (Holds (stepped bs x.kind x.at cs)) es (take_frames st x.kind x.at)
    (to_as (take_frames st x.kind x.at) (ap (stepped bs x.kind x.at) h.0)
    (take_holds x.at bs due may st x.kind p h.1 o))

pub step_holds : (x : Terminal) (bs : List Bracket) (due : Option ℕ) (may : Bool) (st : EventState)
    → InOrder bs due may x → Suits bs due may st → StateSits st
    → FairNext (taken (ended_by x st) x) (Holds
    (stepped bs x.kind x.at (closed_columns bs (reach_of x.kind x.at) (state_columns st))))
step_holds x bs due may st o p s =
    taken_holds x bs due may (closed_columns bs (reach_of x.kind x.at) (state_columns st)) (ended_by x st)
    (closed_suits x bs due may st p) (closed_hold x bs due may st o.stands_right p s) o
