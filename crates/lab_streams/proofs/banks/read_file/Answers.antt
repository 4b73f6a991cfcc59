use Rattle.std.proofs.Common.{List, ℕ, ◌≤◌, length, map, subst, sym}
use Rattle.evl_plans.specs.Told.{handler_of}
use Rattle.lab_streams.specs.Readings.{most_bytes}
use Rattle.lab_streams.proofs.BankLemmas.{bank_unread, file_bank}
use Rattle.lab_streams.proofs.banks.read_file.Goals as goal

pub returns-in-Ok-clause-bank : goal.returns-in-Ok-clause-bank
returns-in-Ok-clause-bank g c =
    file_bank (λ p. map handler_of p.items) c.as_slice.result.now c.read_text.result (subst (λ (l : List ℕ). length l ≤ most_bytes) (sym c.as_slice.ensures.value) c.in-Ok.ensures) c.read_text.ensures.bank

pub returns-in-Ok-tell_unread-clause-refused : goal.returns-in-Ok-tell_unread-clause-refused
returns-in-Ok-tell_unread-clause-refused g c = λ none. bank_unread c.args.path.now c.in-Err.why _ _ c.in-Ok-tell_unread.ensures.line
