use Rattle.std.proofs.Common.{nat_eq, not, sym, ap, ◌∙◌}
use Rattle.evl_mutex.specs.Views.{ahead_in}
use Rattle.evl_mutex.proofs.CountLaws.{nobody-waits, unreached}
use Rattle.evl_mutex.proofs.walks.is_reached.Goals as goal

pub returns-else-at-ne0 : goal.returns-else-at-ne0
returns-else-at-ne0 g c = record {
  reached = λ n counted there.
      let ahead = c.args.ahead.now.items in let to = c.args.to in
      let nobody = nobody-waits ahead to (sym (counted.each to there) ∙ sym c.at.ensures.number ∙ c.if-at-ne0.false) in
      ap (λ k. not (nat_eq k 0)) c.if-at-ne0.false ∙ sym (unreached (ahead_in ahead) to nobody c.args.steps c.args.from);
}
