-- The text of a line of what a caller does.
use Rattle.std.specs.Prelude.{ℕ, List, ◌++◌, codes, decimal, Option, Some, None, string_bytes}
use Rattle.evl_base.specs.Call.{call_text}
use Rattle.lab_callers_text.specs.declared.acts.Act.{Act}
use Rattle.lab_callers_text.specs.declared.acts.Act.TheVariants.{Call, TryLockStax, UnlockStax, TryLockMutex, UnlockMutexFast, TryUnlockMutex, BeginLockMutex, FinishLockMutex, Take, Give}

-- a deadline
abbrev pub until_text : Option ℕ → List ℕ
until_text None = codes "until=none"
until_text (Some date) = codes "until=" ++ decimal date

-- the name that a pass gets, and the name of one that is spent
abbrev pub as_text : List ℕ → List ℕ
as_text name = codes " as=" ++ name

abbrev pub spent_text : List ℕ → List ℕ → List ℕ
spent_text word name = word ++ (codes " pass=" ++ name)

-- the word, and its keys
abbrev pub act_text : Act → List ℕ
act_text (Call call) = call_text call
act_text (TryLockStax stax name) = codes "try_lock_stax stax=" ++ (decimal stax.0 ++ as_text (string_bytes name))
act_text (UnlockStax name) = spent_text (codes "unlock_stax") (string_bytes name)
act_text (TryLockMutex mutex name) = codes "try_lock_mutex mutex=" ++ (decimal mutex.0 ++ as_text (string_bytes name))
act_text (UnlockMutexFast name) = spent_text (codes "unlock_mutex_fast") (string_bytes name)
act_text (TryUnlockMutex name) = spent_text (codes "try_unlock_mutex") (string_bytes name)
act_text (BeginLockMutex mutex until name) = codes "begin_lock_mutex mutex=" ++ (decimal mutex.0 ++ (codes " " ++ (until_text until ++ as_text (string_bytes name))))
act_text (FinishLockMutex name) = codes "finish_lock_mutex" ++ as_text (string_bytes name)
act_text Take = codes "take"
act_text Give = codes "give"
