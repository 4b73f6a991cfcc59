-- The words of steps that aren't calls of the kernel.
use Rattle.std.specs.Prelude.{ℕ, List, codes, Option, Some, None, if◌then◌else◌}
use Rattle.std.specs.Str.{bytes_eq}
use Rattle.lab_callers_text.specs.declared.step_words.OwnWord.{OwnWord}
use Rattle.lab_callers_text.specs.declared.step_words.OwnWord.TheVariants.{TryLockStax, UnlockStax, TryLockMutex, UnlockMutexFast, TryUnlockMutex, BeginLockMutex, FinishLockMutex, Take, Give}

abbrev pub other_word : List ℕ → Option OwnWord
other_word text =
    if bytes_eq text (codes "try_unlock_mutex") then Some TryUnlockMutex
    else if bytes_eq text (codes "begin_lock_mutex") then Some BeginLockMutex
    else if bytes_eq text (codes "finish_lock_mutex") then Some FinishLockMutex
    else if bytes_eq text (codes "take") then Some Take
    else if bytes_eq text (codes "give") then Some Give
    else None

-- the word that a text is
abbrev pub own_word : List ℕ → Option OwnWord
own_word text =
    if bytes_eq text (codes "try_lock_stax") then Some TryLockStax
    else if bytes_eq text (codes "unlock_stax") then Some UnlockStax
    else if bytes_eq text (codes "try_lock_mutex") then Some TryLockMutex
    else if bytes_eq text (codes "unlock_mutex_fast") then Some UnlockMutexFast
    else other_word text

-- the key of a pass's name
abbrev pub name_key : OwnWord → Option (List ℕ)
name_key TryLockStax = Some (codes "as")
name_key UnlockStax = Some (codes "pass")
name_key TryLockMutex = Some (codes "as")
name_key UnlockMutexFast = Some (codes "pass")
name_key TryUnlockMutex = Some (codes "pass")
name_key BeginLockMutex = Some (codes "as")
name_key FinishLockMutex = Some (codes "as")
name_key Take = None
name_key Give = None

-- the key whose number is at that of a semaphore
abbrev pub number_key : OwnWord → Option (List ℕ)
number_key TryLockStax = Some (codes "stax")
number_key BeginLockMutex = Some (codes "mutex")
number_key _ = None

-- the word of a scenario whose step has the same other keys
abbrev pub stand_in : OwnWord → List ℕ
stand_in TryLockStax = codes "peek"
stand_in TryLockMutex = codes "release"
stand_in BeginLockMutex = codes "begin_get"
stand_in _ = codes "now"
