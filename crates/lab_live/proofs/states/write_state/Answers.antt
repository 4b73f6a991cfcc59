use Rattle.std.proofs.Common.{string_bytes}
use Rattle.lab_live.proofs.StateLaws.{state_told}
use Rattle.lab_live.proofs.states.write_state.Goals as goal

pub returns : goal.returns
returns c =
    state_told c.args.session.now _ _ (string_bytes c.args.told.now) (string_bytes c.write_threads.new.told) (string_bytes c.write_rest.new.told) c.kernel.ensures c.threads.ensures
    c.in_ok-write_threads.ensures c.in_ok-write_rest.ensures
