use Rattle.std.proofs.Common.{◌≡◌, drop}
use Rattle.evl_c.specs.Verdicts.{state_against}
use Rattle.evl_c.proofs.verdicts.state_against.Given as goal

abbrev pub invariant-loop-place : goal.invariant-loop-place
invariant-loop-place l = state_against l.firsts l.is_whole l.place (drop l.place l.watches) ≡ state_against l.firsts l.is_whole 0 l.watches
