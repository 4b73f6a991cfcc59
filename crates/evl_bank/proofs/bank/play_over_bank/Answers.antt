use Rattle.std.proofs.Common.{◌≡◌, List, [], ◌∷◌, map, subst, ap, ◌∙◌}
use Rattle.evl_base.specs.declared.action_kinds.ActionKinds.{ActionKinds}
use Rattle.evl_kernel.specs.state.States.{Handler}
use Rattle.evl_bank.specs.Bank.{program_bank}
use Rattle.evl_shell.specs.Programs.{Answers}
use Rattle.evl_shell.specs.Runs.{handlers_of}
use Rattle.evl_bank.proofs.BankLemmas.{tells}
use Rattle.evl_bank.proofs.bank.play_over_bank.Goals as goal

pub returns-clause-answers : goal.returns-clause-answers
returns-clause-answers g c =
    let tells-0 = tells c.new.result.kinds.0 _ _ _ _ (ap (λ (k : ActionKinds). k.0) c.new.ensures.kinds ∙ c.from_bits_retain-none.ensures tt) c.new.ensures.plan c.quiet_plan.ensures in
    let tells-1 = tells c.new-2.result.kinds.0 _ _ _ _ (ap (λ (k : ActionKinds). k.0) c.new-2.ensures.kinds) c.new-2.ensures.plan c.plan.ensures in
    let tells-2 = tells c.new-3.result.kinds.0 _ _ _ _ (ap (λ (k : ActionKinds). k.0) c.new-3.ensures.kinds) c.new-3.ensures.plan c.plan-2.ensures in
    let tells-3 = tells c.new-4.result.kinds.0 _ _ _ _ (ap (λ (k : ActionKinds). k.0) c.new-4.ensures.kinds) c.new-4.ensures.plan c.plan-3.ensures in
    let tells-4 = tells c.new-5.result.kinds.0 _ _ _ _ (ap (λ (k : ActionKinds). k.0) c.new-5.ensures.kinds) c.new-5.ensures.plan c.plan-4.ensures in
    let tells-5 = tells c.new-6.result.kinds.0 _ _ _ _ (ap (λ (k : ActionKinds). k.0) c.new-6.ensures.kinds) c.new-6.ensures.plan c.plan-5.ensures in
    let tells-6 = tells c.new-7.result.kinds.0 _ _ _ _ (ap (λ (k : ActionKinds). k.0) c.new-7.ensures.kinds) c.new-7.ensures.plan c.plan-6.ensures in
    let tells-7 = tells c.new-8.result.kinds.0 _ _ _ _ (ap (λ (k : ActionKinds). k.0) c.new-8.ensures.kinds ∙ c.from_bits_retain-none.ensures tt) c.new-8.ensures.plan c.quiet_plan-2.ensures in
    let items : c.in_ok-bank.bank.items ≡ c.new.result ∷ c.new-2.result ∷ c.new-3.result ∷ c.new-4.result ∷ c.new-5.result ∷ c.new-6.result ∷ c.new-7.result ∷ c.new-8.result ∷ [] = c.in_ok-bank.ensures.items in
    let told : handlers_of (λ x. x.kinds.0) (λ x. x.plan.value) c.in_ok-bank.bank.items ≡ program_bank =
    ap (handlers_of (λ x. x.kinds.0) (λ x. x.plan.value)) items ∙ (λ i. tells-0 i ∷ tells-1 i ∷ tells-2 i ∷ tells-3 i ∷ tells-4 i ∷ tells-5 i ∷ tells-6 i ∷ tells-7 i ∷ []) in
    let P : List Handler → Type 0 = λ b. Answers (map (λ s. s.now) c.args.words.now) b (g.R.Read.remaining c.args.input.now) (g.S.Sink.told c.args.out.now) (g.S.Sink.told c.play_into.new.out)
    (g.S.Sink.has_failed c.play_into.new.out) (g.T.Sink.told c.args.err.now) (g.T.Sink.told c.play_into.new.err) (g.T.Sink.has_failed c.play_into.new.err) c.play_into.result in
    subst P told c.play_into.ensures.answers
