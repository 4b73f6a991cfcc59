-- Why the scenario of a history isn't written is why the history has no texts.
use Rattle.std.proofs.Common.{true≢false}
use Rattle.evl_kernel.specs.histories.Histories.{History}
use Rattle.evl_scenario.specs.Writings.{IsUnwritten, script_of_history, without_staxes}
use Rattle.evl_scenario.specs.declared.writing.Unwritten.{Unwritten}
use Rattle.evl_scenario.specs.declared.writing.Unwritten.TheVariants as unwritten
use Rattle.test_hosts.specs.Texts.{IsUntold}
use Rattle.test_hosts.specs.declared.texts.Failure.TheVariants as failure

pub unwritten_is_untold :
    (h : History) (why : Unwritten) → IsUnwritten why (script_of_history (without_staxes h.board) 1000000 h.entries)
    → IsUntold h (failure.Unwritten why)
unwritten_is_untold h unwritten.Board no_keys = no_keys
unwritten_is_untold h unwritten.Limit out_of_range = absurd (true≢false out_of_range.1)
unwritten_is_untold h unwritten.TooLong long = long.2
unwritten_is_untold h unwritten.Memory short = short
