use Rattle.std.proofs.Common.{refl}
use Rattle.granit_stream.proofs.stream.StreamBorrowedInput.slice_borrowed.Goals as goal

pub returns-in-Some : goal.returns-in-Some
returns-in-Some g c = rw c.in-Some.is c.slice_borrowed.ensures

pub returns-in-None : goal.returns-in-None
returns-in-None g c = rw c.in-None.is refl
