use Rattle.std.specs.Str.Parse.{ParsesUnsigned, ExplainsUnsignedError, HasUnsignedDigitsIfOk}
use Rattle.evl_shell.proofs.ArgumentLemmas.{reads_number}
use Rattle.lab_streams.proofs.words.number_at.Goals as goal

pub returns : goal.returns
returns c =
    reads_number (λ bs r. ParsesUnsigned 32 10 bs r × ExplainsUnsignedError 10 bs r × HasUnsignedDigitsIfOk bs r) (λ t r given. given.0) _ c.get_one.result c.get_one.ensures.none c.get_one.ensures.value
