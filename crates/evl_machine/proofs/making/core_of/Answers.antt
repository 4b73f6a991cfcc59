use Rattle.std.proofs.Common.{Some, [], ◌∷◌, ap, ◌∙◌}
use Rattle.evl_machine.proofs.callers.Seating.{opens_as}
use Rattle.evl_machine.proofs.making.core_of.Goals as goal

pub new-requires-2 : goal.new-requires-2
new-requires-2 g c = opens_as c.args.kernel _ _ _ c.of-key.ensures (c.as_slice.ensures.value ∙ c.requires.words) (c.in_ok-slots.ensures ∙ ap (λ k. Some k ∷ []) c.in_ok-kernel.ensures) c.requires.board c.requires.new.0 c.requires.new.1
