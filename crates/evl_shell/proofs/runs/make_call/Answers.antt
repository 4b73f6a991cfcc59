use Rattle.std.proofs.Common.{◌∙◌, ap, sym, length, refl}
use Rattle.evl_shell.specs.Moments.{number_after}
use Rattle.evl_shell.proofs.TurnLemmas.{made, wanted}
use Rattle.evl_shell.proofs.runs.make_call.Goals as goal

pub returns-clause-turn : goal.returns-clause-turn
returns-clause-turn g c =
    let call = c.apply-answer in
    let told = made c.args.kernel.now call.new.self c.args.step c.args.step.call call.result refl
    call.ensures.entry call.ensures.none call.ensures.full call.ensures.limit (sym c.wants_memory.ensures ∙ c.if-wants_memory.false) in
    record {
      turns = told.turns;
      number_is = c.number_after-number.ensures ∙ (λ i. number_after ((c.len-before.ensures ∙ ap length c.history.ensures.entries) i) ((c.len.ensures ∙ ap length c.history-2.ensures.entries) i)) ∙ told.number_is;
      answer_is = told.answer_is;
    }

pub returns-then-wants_memory-clause-memory : goal.returns-then-wants_memory-clause-memory
returns-then-wants_memory-clause-memory g c =
    let call = c.apply-answer in
    call.ensures.memory (wanted call.result (sym c.wants_memory.ensures ∙ c.if-wants_memory.true))
