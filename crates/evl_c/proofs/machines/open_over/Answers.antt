use Rattle.std.proofs.Common.{ap, length, sym, ◌∙◌}
use Rattle.evl_base.specs.declared.board.Board.{Board}
use Rattle.evl_c.proofs.HandleLemmas.{as_many}
use Rattle.evl_c.proofs.machines.open_over.Goals as goal

pub put_all-requires : goal.put_all-requires
put_all-requires c =
    let opened = c.in-Ok-open_hosts.ensures.opened in
    record {
      each = ap length opened.2 ∙ (as_many opened.0 c.in-Some.first.threads ∙ (ap (λ (board : Board). board.threads) c.in-Some.ensures.board ∙ sym c.requires.count));
    }
