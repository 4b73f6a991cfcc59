use Rattle.evl_shell.proofs.SoundLemmas.{sound_bank}
use Rattle.evl_shell.proofs.histories.know_bank.Goals as goal

pub returns : goal.returns
returns g c = sound_bank c.args.bank.now
