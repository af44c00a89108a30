use Rattle.std.proofs.Common.{◌≡◌, false}
use Rattle.granit_error.specs.OptionsView.{options_of}
use Rattle.granit_sorts.specs.SortViews.{machine_token}
use Rattle.granit_machine.specs.Closing.{close, depth, ends_top}
use Rattle.granit_frames.specs.Outside.{NoneWaitsOutside}
use Rattle.granit_frames.proofs.state.ParserState.close.Given as goal

abbrev pub invariant-tops : goal.invariant-tops
invariant-tops l = record {
  closes : close (options_of l.options) (machine_token l.token) l.self
      ≡ close (options_of l.options) (machine_token l.token) l.fn.self;
  outside : NoneWaitsOutside l.fn.self → NoneWaitsOutside l.self;
  kept : l.self.kept ≡ l.fn.self.kept;
  stays : ends_top (machine_token l.token) l.fn.self l.fn.self.frames ≡ false → l.self ≡ l.fn.self;
}

abbrev pub decreases-tops : goal.decreases-tops
decreases-tops l = depth l.self
