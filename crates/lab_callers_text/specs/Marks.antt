-- The act of a step that was put as the step of a scenario.
use Rattle.std.specs.Prelude.{Option, Some, None, String}
use Rattle.std.specs.declared.alloc.Global.{Global}
use Rattle.evl_base.specs.declared.call.Call.{Call}
use Rattle.evl_base.specs.declared.call.Call.TheVariants as call
use Rattle.lab_callers_text.specs.declared.acts.Act.{Act}
use Rattle.lab_callers_text.specs.declared.acts.Act.TheVariants as act
use Rattle.lab_callers_text.specs.declared.marks.Mark.{Mark}
use Rattle.lab_callers_text.specs.declared.step_words.OwnWord.{OwnWord}
use Rattle.lab_callers_text.specs.declared.step_words.OwnWord.TheVariants as word

-- a step that spends or gives a pass of this name
abbrev pub plain_act : OwnWord → String Global → Act
plain_act word.UnlockStax name = act.UnlockStax name
plain_act word.UnlockMutexFast name = act.UnlockMutexFast name
plain_act word.TryUnlockMutex name = act.TryUnlockMutex name
plain_act word.FinishLockMutex name = act.FinishLockMutex name
plain_act word.Give name = act.Give
plain_act _ name = act.Take

-- the numbers are those of the call in place of the step
abbrev pub named_act : OwnWord → String Global → Call → Act
named_act w name (call.Peek sem) = act.TryLockStax (record { 0 = sem.0 }) name
named_act w name (call.Release mutex) = act.TryLockMutex mutex name
named_act w name (call.BeginGet sem until) = act.BeginLockMutex (record { 0 = sem.0 }) until name
named_act w name _ = plain_act w name

abbrev pub unnamed_act : OwnWord → Act
unnamed_act word.Give = act.Give
unnamed_act _ = act.Take

abbrev pub marked_act : OwnWord → Option (String Global) → Call → Act
marked_act w None c = unnamed_act w
marked_act w (Some name) c = named_act w name c

abbrev pub act_of : Option Mark → Call → Act
act_of None c = act.Call c
act_of (Some mark) c = marked_act mark.word mark.name c
