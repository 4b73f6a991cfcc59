use Rattle.std.proofs.Common.{◌≡◌, false, sym, ◌∙◌}
use Rattle.std.proofs.lemmas.Bool.{false≢true}
use Rattle.evl_kernel.specs.settling.Settling.{line_goes, next_play}
use Rattle.evl_kernel.specs.settling.Settled.{settling}
use Rattle.evl_kernel.proofs.settling.ItemLaws.{item_goes, line_behind}
use Rattle.evl_kernel.proofs.records.Records.play_next.Goals as goal
use Rattle.evl_kernel.proofs.records.Records.play_next.Goals.{then-of_clock+in_default, else-of_clock}

pub returns-in-Some-clause-played : goal.returns-in-Some-clause-played
returns-in-Some-clause-played g c = rw c.if-of_clock.true (item_goes c.args.self.now c.play_due.new.self c.args.inband c.in-Some.play c.in-Some.ensures.played)

pub play_line-requires-clause-by_plan : goal.play_line-requires-clause-by_plan
play_line-requires-clause-by_plan g c = elim c.if-of_clock.branch [
  | then-of_clock+in_default w ↦ rw (w.self-is, w.in_default.ensures.ended.1) c.requires.by_plan
  | else-of_clock w ↦ rw w.self-is c.requires.by_plan
]

-- nothing has changed
unchanged : (g : _) (c : goal.After-play_line g) → c.if-of_clock.self ≡ c.args.self.now
unchanged g c = elim c.if-of_clock.branch [
  | then-of_clock+in_default w ↦ w.self-is ∙ w.in_default.ensures.ended.1
  | else-of_clock w ↦ w.self-is
]

-- a line is next
behind : (g : _) (c : goal.After-play_line g) → next_play (settling c.args.self.now c.args.inband c.args.of_clock) ≡ line_goes (settling c.if-of_clock.self c.args.inband false)
behind g c = elim c.if-of_clock.branch [
  | then-of_clock+in_default w ↦ rw (w.self-is, w.in_default.ensures.ended.1) (line_behind c.args.self.now c.args.inband c.args.of_clock (λ _. w.in_default.ensures.ended.0))
  | else-of_clock w ↦ rw w.self-is (line_behind c.args.self.now c.args.inband c.args.of_clock (λ e. absurd (false≢true (sym w.if-of_clock.false ∙ e))))
]

pub returns-clause-played : goal.returns-clause-played
returns-clause-played g c = rw (behind g c) c.play_line.ensures.played

pub returns-clause-ended : goal.returns-clause-ended
returns-clause-ended g c = rw (behind g c, sym (unchanged g c)) c.play_line.ensures.ended
