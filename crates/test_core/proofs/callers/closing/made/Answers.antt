use Rattle.std.proofs.Common.{◌≡◌, refl, sym, subst}
use Rattle.std.specs.Prelude.{All}
use Rattle.std.specs.List.{range_with_len}
use Rattle.std.proofs.lemmas.List.Elements.{All-map}
use Rattle.evl_machine.specs.callers.Handles.{newcomer_of}
use Rattle.test_core.proofs.callers.closing.made.Goals as goal

pub returns-in-Ok : goal.returns-in-Ok
returns-in-Ok g c = let m = c.in-Ok.made.0.of in subst (λ l. All (λ k. k.machine ≡ m) l) (sym c.in-Ok.ensures.callers) (All-map (λ k. k.machine ≡ m) (newcomer_of m) (range_with_len 0 c.args.board.threads) (λ k d lt. refl))
