-- The words about a bank's file that is refused.
use Rattle.std.proofs.Common.{◌≡◌, ◌≤◌, length, ◌⊎◌, inl, inr, ℕ, List, Option, Some, None, Result, Ok, Err, IfOk, IfSome, refl, subst}
use Rattle.std.specs.Prelude.{IsSomeAnd}
use Rattle.std.specs.Io.KnownBytes.{Appends}
use Rattle.evl_kernel.specs.state.States.{Handler}
use Rattle.evl_plans.specs.Banks.{bank_of}
use Rattle.evl_plans.specs.declared.faults.BankFault.{BankFault}
use Rattle.evl_plans.specs.declared.faults.BankFault.TheVariants.{Memory}
use Rattle.lab_streams.specs.Banks.{SaysRefused, bank_fault_words, bank_line, unread_line}
use Rattle.lab_streams.specs.Readings.{most_bytes}
use Rattle.lab_streams.specs.declared.texts.Unread.{Unread}

some_line : (line : List ℕ → List ℕ) (words : Option (List ℕ)) (quiet spoken : Option (List ℕ)) → IsSomeAnd words (λ w. Appends quiet spoken (line w))
    → (said : List ℕ) × IsSomeAnd words (λ w. said ≡ line w) × Appends quiet spoken said
some_line line (Some w) quiet spoken says = (line w, refl, says)
some_line line None quiet spoken says = absurd says

-- a text that is no bank
pub bank_refused : (path text : List ℕ) (fault : BankFault) (quiet spoken : Option (List ℕ)) → (fault ≡ Memory) ⊎ (bank_of text ≡ Err fault)
    → IsSomeAnd (bank_fault_words fault) (λ w. Appends quiet spoken (bank_line path w)) → SaysRefused (Some path) quiet spoken
bank_refused path text fault quiet spoken (inl h) says =
    absurd (subst (λ (f : BankFault). IsSomeAnd (bank_fault_words f) (λ w. Appends quiet spoken (bank_line path w))) h says)
bank_refused path text fault quiet spoken (inr h) says =
    let s = some_line (bank_line path) (bank_fault_words fault) quiet spoken says in
    record { path = path; named = refl; said = s.0; why = inr (text, fault, h, s.1); says = s.2 }

-- a file that isn't read
pub bank_unread : (path : List ℕ) (why : Unread) (quiet spoken : Option (List ℕ)) → IsSomeAnd (unread_line path why) (λ l. Appends quiet spoken l) → SaysRefused (Some path) quiet spoken
bank_unread path why quiet spoken says =
    let s = some_line (λ l. l) (unread_line path why) quiet spoken says in
    record { path = path; named = refl; said = s.0; why = inl (why, s.1); says = s.2 }

-- the callbacks of a file, by its text
pub file_bank : {E P : Type 0} (handlers : P → List Handler) (text : List ℕ) (r : Result (Option P) E) → length text ≤ most_bytes → IfOk r (λ plans. IfSome plans (λ p. bank_of text ≡ Ok (handlers p)))
    → IfOk r (λ plans. IfSome plans (λ p. (file : List ℕ) × (length file ≤ most_bytes) × (bank_of file ≡ Ok (handlers p))))
file_bank handlers text (Ok (Some p)) few is = (text, few, is)
file_bank handlers text (Ok None) few is = tt
file_bank handlers text (Err e) few is = tt
