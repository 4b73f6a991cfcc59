use Rattle.std.proofs.Common.{rules, List, ◌≡◌, ◌∙◌, ap}
use Rattle.evl_base.specs.declared.board.Board.{Board}
use Rattle.evl_base.specs.declared.entry.Entry.{Entry}
use Rattle.evl_scenario.specs.Traces.{history_trace}
use Rattle.evl_scenario.specs.Writings.{scenario_text, script_of_history, without_staxes}
use Rattle.test_hosts.specs.Boards.{shared_board}
use Rattle.test_hosts.proofs.TextLaws.{unwritten_is_untold}
use Rattle.test_hosts.proofs.texts.texts_of.Goals as goal

pub returns-in-Err-clause-untold : goal.returns-in-Err-clause-untold
returns-in-Err-clause-untold g c = search (unwritten_is_untold, rules)

pub returns-in-Ok-trace_kernel-clause-texts : goal.returns-in-Ok-trace_kernel-clause-texts
returns-in-Ok-trace_kernel-clause-texts g c =
    let same : c.without_staxes-board.result ≡ without_staxes (shared_board c.args.threads) = c.without_staxes-board.ensures ∙ ap without_staxes c.shared_board.ensures in
    record {
      scenario = c.in-Ok.ensures.text ∙ ap (λ (b : Board). scenario_text (script_of_history b 1000000 c.history-entries.result.now)) same
          ∙ ap (λ (es : List Entry). scenario_text (script_of_history (without_staxes (shared_board c.args.threads)) 1000000 es)) c.history-entries.ensures.entries;
      trace = c.in-Ok-trace_kernel.ensures.trace ∙ ap (λ (b : Board). history_trace b 1000000 c.args.kernel.now.history.entries c.args.kernel.now.history.plays) same;
    }
