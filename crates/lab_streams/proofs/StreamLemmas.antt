-- A part that ends early does so whatever becomes of an input that it does not read.
use Rattle.std.proofs.Common.{Bool, false, Result, Ok, Err, refl, ℕ}
use Rattle.std.specs.Prelude.{IfErr}
use Rattle.std.specs.declared.io.Error.{Error}
use Rattle.lab_streams.specs.Streams.{EndsEarly}

pub early_beside : (r : Result ℕ Error) (input out errors : Bool) → IfErr r (EndsEarly false out errors) → IfErr r (EndsEarly input out errors)
early_beside (Ok status) input out errors early = tt
early_beside (Err error) input out errors early = λ unread unwritten untold. early refl unwritten untold
