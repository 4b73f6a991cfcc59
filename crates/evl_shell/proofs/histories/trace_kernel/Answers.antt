use Rattle.std.proofs.Common.{◌∙◌, string_bytes}
use Rattle.evl_shell.proofs.HistoryLemmas.{traced_again}
use Rattle.evl_shell.proofs.histories.trace_kernel.Goals as goal

pub returns-clause-plays_again : goal.returns-clause-plays_again
returns-clause-plays_again g c =
    traced_again (λ text. string_bytes text) c.args.kernel.now.history c.args.board.now c.args.limit _ _ c.trace_history.result
    c.history.ensures.legal (c.as_slice.ensures.value ∙ (c.in_ok-entries.ensures.entries ∙ c.history.ensures.entries)) c.plays.ensures.plays c.trace_history.ensures.trace
