use Rattle.lab_callers_text.proofs.acts.Act.put.Goals as goal

pub returns-in-TryLockMutex : goal.returns-in-TryLockMutex
returns-in-TryLockMutex c = rw c.in-TryLockMutex.is (c.put_numbered-in-TryLockMutex.ensures)

pub returns-in-UnlockMutexFast : goal.returns-in-UnlockMutexFast
returns-in-UnlockMutexFast c = rw c.in-UnlockMutexFast.is (c.put_spent-in-UnlockMutexFast.ensures)

pub returns-in-FinishLockMutex : goal.returns-in-FinishLockMutex
returns-in-FinishLockMutex c = rw c.in-FinishLockMutex.is (c.put_named.ensures)
