-- Wrong steps, of which a text may ask what comes of them.
use Rattle.std.specs.Prelude.{false, Option, Some, None}
use Rattle.lab_step_orders.specs.declared.calls.Answer.TheVariants.{Done}
use Rattle.lab_step_orders.specs.declared.steps.MutexStep.TheVariants.{Mark, Offer}
use Rattle.lab_step_orders.specs.declared.steps.Place.TheVariants.{Claimed, Left as LeftStax}
use Rattle.lab_step_orders.specs.declared.steps.Then.{Then}
use Rattle.lab_step_orders.specs.declared.steps.Then.TheVariants.{Stands, Answers}
use Rattle.lab_step_orders.specs.declared.steps.Turn.{Turn}
use Rattle.lab_step_orders.specs.declared.steps.WhatIf.{WhatIf}
use Rattle.lab_step_orders.specs.declared.steps.WhatIf.TheVariants.{OfferDropsMark, ClaimSetsNoMark, UnlockSkipsKernel, LeaveKeepsMark}
use Rattle.lab_step_orders.specs.declared.steps.WordStep.{WordStep}
use Rattle.lab_step_orders.specs.declared.steps.WordStep.TheVariants.{AtMutex}

-- an offer says of no thread that it still waits
abbrev pub offered : WordStep → WordStep
offered (AtMutex mutex (Offer next more)) = AtMutex mutex (Offer next false)
offered step = step

-- a claim leaves the word as it is
abbrev pub unmarked : WordStep → Option WordStep
unmarked (AtMutex mutex Mark) = None
unmarked step = Some step

-- the call ends where its mutex was found claimed,
abbrev pub unlocked : Then → Then
unlocked (Stands (Claimed mutex)) = Answers Done
unlocked next = next

-- or the mark of the stax that it left
abbrev pub left_so : Then → Then
left_so (Stands (LeftStax stax)) = Answers Done
left_so next = next

abbrev pub stepped_wrong : WhatIf → WordStep → Option WordStep
stepped_wrong OfferDropsMark step = Some (offered step)
stepped_wrong ClaimSetsNoMark step = unmarked step
stepped_wrong UnlockSkipsKernel step = Some step
stepped_wrong LeaveKeepsMark step = Some step

abbrev pub then_wrong : WhatIf → Then → Then
then_wrong OfferDropsMark next = next
then_wrong ClaimSetsNoMark next = next
then_wrong UnlockSkipsKernel next = unlocked next
then_wrong LeaveKeepsMark next = left_so next

-- the step that is made, and what the call comes to, in place of the right ones
abbrev pub step_made : Option WhatIf → Option WordStep → Option WordStep
step_made None step = step
step_made (Some what) None = None
step_made (Some what) (Some step) = stepped_wrong what step

-- rule: A wrong step that is asked for takes the place of the right one.
--   clauses: step_outcomes_of
--   rows: offer_without_its_mark_loses_a_waiter; wait_without_its_mark_is_lost
-- a turn that makes a step, as callers make it
abbrev pub made_so : Option WhatIf → Turn → Turn
made_so None turn = turn
made_so (Some what) turn = record turn { step = step_made (Some what) turn.step; then = then_wrong what turn.then }
