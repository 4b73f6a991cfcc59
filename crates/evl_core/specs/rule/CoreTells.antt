-- All that the steps on the core's lock say to their thread.
use Rattle.std.specs.Prelude.{◌≡◌, ◌≢◌, ℕ, [], ◌∷◌, Option, Some}
use Rattle.atomic_table.specs.Table.{Me}
use Rattle.evl_kernel.specs.histories.Histories.{History, IsLegal}
use Rattle.evl_words.specs.Parts.{Tells}
use Rattle.evl_core.specs.declared.views.CorePart.{CorePart}
use Rattle.evl_core.specs.accounts.Accounts.{Fits, HasNoStranger}
use Rattle.evl_core.specs.lock.Lock.{LockView}
use Rattle.evl_core.specs.rule.CoreRule.{account_at, after_take, after_loss, after_give}
use Rattle.evl_core.specs.worlds.CoreWorld.{IsCoreEvent, takes, gives}

abbrev pub CoreMe : Type 0 → Type 0 → Type 0
CoreMe S B = Me (Option S) (CorePart B)

module _ {S B : Type 0} (past : S → History) (room : S → ℕ) (comes : B → S → Type 0) where
  -- where a take found the word 0: the kernel that the thread has now, with a legal history that has no stranger's call and that its account fits
  abbrev pub Took : ℕ → CoreMe S B → CoreMe S B → Type 0
  Took k m m' = (y : S) × (lock : LockView) × (m' ≡ (after_take (past y) (room y) lock m.0, (0, Some y) ∷ [])) × IsLegal (past y) × HasNoStranger (past y) × Fits (past y) (account_at k m.0) × comes m.0.first y

  -- a take says that it is an event, and where it found another word, that it is lost
  abbrev pub took : Tells (Option S) (CorePart B)
  took st k m found m' = (found ≡ 0 → Took k m m') × (found ≢ 0 → (lock : LockView) × (m' ≡ (after_loss lock m.0, m.1))) × IsCoreEvent past room comes k m.0 takes found m'.0

  -- a give says that it is one, which found some word
  abbrev pub gave : Tells (Option S) (CorePart B)
  gave st k m _ m' = (y : S) → m.1 ≡ (0, Some y) ∷ [] → (lock : LockView) × (m' ≡ (after_give (past y) k lock m.0, [])) × (found : ℕ) × IsCoreEvent past room comes k m.0 (gives y) found m'.0
