use Rattle.granit_quoted.proofs.quoted.take_content.Goals as goal

pub returns-clause-here : goal.returns-clause-here
returns-clause-here g c = λ h k.
    let read = c.in_ok-content.ensures.here h k in (
      read.0,
      c.in_ok-content.content,
      read.1,
      read.2,
      c.in_ok-push_content.ensures.value h,
      c.in_ok-push_content.ensures.state read.0,
    )
