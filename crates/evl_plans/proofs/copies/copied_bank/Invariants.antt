use Rattle.std.proofs.Common.{◌≡◌, ◌++◌, drop, map}
use Rattle.evl_plans.specs.Told.{handler_of}
use Rattle.evl_plans.proofs.copies.copied_bank.Given as goal

abbrev pub invariant-loop-planned : goal.invariant-loop-planned
invariant-loop-planned l = map handler_of l.copied.items ++ map handler_of (drop l.planned-index l.bank) ≡ map handler_of l.bank
