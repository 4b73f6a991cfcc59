-- The callbacks of a bank, read one after the other.
use Rattle.std.proofs.Common.{◌≡◌, ◌∙◌, ◌+◌, ◌<◌, List, ◌∷◌, ◌++◌, Result, Ok, Err}
use Rattle.evl_kernel.specs.state.States.{Handler}
use Rattle.evl_plans.specs.declared.faults.BankFault.{BankFault}

abbrev pub Read : Type 0
Read = Result (List Handler) BankFault

-- the whole, where these callbacks are done and the rest is to be read
abbrev pub after_callbacks : List Handler → Read → Read
after_callbacks done (Ok rest) = Ok (done ++ rest)
after_callbacks done (Err e) = Err e
