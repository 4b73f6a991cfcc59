-- For what a thread waits, by the calls that it made itself: what it began and has not finished.
use Rattle.std.specs.Prelude.{List, [], ◌∷◌, Option, Some, None, Result, Ok, Err}
use Rattle.evl_base.specs.declared.call.Call.{Call}
use Rattle.evl_base.specs.declared.call.Call.TheVariants.{BeginGet, BeginTake, BeginWrite, BeginRead, Claim, Finish}
use Rattle.evl_base.specs.declared.entry.Entry.{Entry}
use Rattle.evl_base.specs.declared.refusal.Refusal.{Refusal}
use Rattle.evl_base.specs.declared.reply.Reply.{Reply}
use Rattle.evl_machine.specs.declared.unfinished.Unfinished.{Unfinished}
use Rattle.evl_machine.specs.declared.unfinished.Unfinished.TheVariants.{Mutex, Element}
use Rattle.evl_machine.specs.declared.unfinished.WaitStep.{WaitStep}
use Rattle.evl_machine.specs.declared.unfinished.WaitStep.TheVariants.{Begins, Ends, Keeps}

abbrev pub wait_step : Call → WaitStep
wait_step (Claim mutex owner until) = Begins (Mutex mutex)
wait_step (BeginGet sem until) = Begins Element
wait_step (BeginTake flags kind until) = Begins Element
wait_step (BeginWrite xbuf way bytes until) = Begins Element
wait_step (BeginRead xbuf way len until) = Begins Element
wait_step (Finish keep) = Ends
wait_step _ = Keeps

-- a refused call leaves the wait as it is
abbrev pub wait_after : Option Unfinished → WaitStep → Result Reply Refusal → Option Unfinished
wait_after wait step (Err refusal) = wait
wait_after wait (Begins on) (Ok reply) = Some on
wait_after wait Ends (Ok reply) = None
wait_after wait Keeps (Ok reply) = wait

-- what is unfinished after these calls of a thread, before which this was
abbrev pub unfinished_from : Option Unfinished → List Entry → Option Unfinished
unfinished_from wait [] = wait
unfinished_from wait (e ∷ es) = unfinished_from (wait_after wait (wait_step e.call) e.reply) es

abbrev pub unfinished_wait : List Entry → Option Unfinished
unfinished_wait calls = unfinished_from None calls
