-- The declarations and answers of the callbacks of the program's bank.
use Rattle.std.proofs.Common.{◌≡◌, ℕ, ◌∙◌}
use Rattle.evl_pipeline.specs.declared.plan.Plan.{Plan}
use Rattle.evl_kernel.specs.state.States.{Handler}

abbrev pub handler : ℕ → Plan → Handler
handler kinds plan = record { kinds = kinds; plan = plan }

-- a callback with these kinds, that stored this plan
pub tells : (kinds declared : ℕ) (stored given plan : Plan) → kinds ≡ declared → stored ≡ given → given ≡ plan → handler kinds stored ≡ handler declared plan
tells kinds declared stored given plan k s p = λ i. handler (k i) ((s ∙ p) i)
