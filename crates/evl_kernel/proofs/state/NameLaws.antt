-- The lines and the clock with each callback replaced by its name, as their own crates say it, are those of the kernel.
use Rattle.std.proofs.Common.{◌≡◌, refl}
use Rattle.evl_pipeline.specs.Lines.{Pipeline}
use Rattle.evl_pipeline.specs.Names.{named_pipeline}
use Rattle.evl_clock.specs.Clocks.{Clock}
use Rattle.evl_clock.specs.Names.{named_clock}
use Rattle.evl_kernel.specs.state.Renamed.{renamed, renamed_clock}

module _ {X Y : Type 0} (name : X → Y) where
  pub lines-named : (p : Pipeline X) → named_pipeline name p ≡ renamed name p
  lines-named p = refl

  pub clock-named : (c : Clock X) → named_clock name c ≡ renamed_clock name c
  clock-named c = refl
