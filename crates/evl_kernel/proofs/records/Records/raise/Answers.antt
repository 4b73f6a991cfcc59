use Rattle.std.proofs.Common.{◌≡◌, Bool, true, [], Option, Some, None, Ok, if◌then◌else◌, sym, ap, ◌∙◌}
use Rattle.evl_base.specs.declared.refusal.Refusal.{Refusal}
use Rattle.evl_base.specs.declared.refusal.Refusal.TheVariants.{Unknown}
use Rattle.evl_base.specs.declared.reply.Reply.TheVariants.{Done}
use Rattle.evl_sched.specs.Calls.{stranger_refusal}
use Rattle.evl_sched.specs.Threads.{Sched, refused_first}
use Rattle.evl_kernel.specs.waiting.Beginnings.{is_there}
use Rattle.evl_kernel.specs.calls.Effects.{Effect, refused_by}
use Rattle.evl_kernel.specs.calls.Elements.{elements, on_mutex, stepping}
use Rattle.evl_kernel.specs.state.ElementsViews.{owners_of}
use Rattle.evl_kernel.specs.calls.Mutexes as mutex
use Rattle.evl_kernel.specs.calls.OwnerCalls.{raiser_refusal}
use Rattle.evl_kernel.specs.state.Records.{state_of}
use Rattle.evl_kernel.specs.state.RecordsInside.{records_view}
use Rattle.evl_kernel.specs.state.States.{with_sched}
use Rattle.evl_kernel.specs.declared.waits.Awaited.TheVariants.{Mutex as OnMutex}
use Rattle.evl_kernel.proofs.calls.MutexCalls.{raise_wakes}
use Rattle.evl_kernel.proofs.calls.QueueLaws.{asks_raise}
use Rattle.evl_kernel.proofs.state.RankLaws.{ranks-handed}
use Rattle.evl_kernel.proofs.waiting.WaitRecords.{asked_done, asked_ranked, keeps-changed}
use Rattle.evl_kernel.specs.state.ChangedThreads.{is_noted}
use Rattle.evl_kernel.proofs.state.ChangedLaws.{given-beside}
use Rattle.evl_kernel.proofs.records.Records.raise.Goals as goal

pub invariant_of-self-2 : goal.invariant_of-self-2
invariant_of-self-2 g c =
    asked_ranked (records_view c.self.inside) c.self.invariant (on_mutex c.args.mutex.0 (mutex.raise c.args.thread.0)) (asks_raise c.args.mutex.0 c.args.thread.0) Done c.raise.new.self c.in-Ok-raise.ensures.step c.hand_on.new.sched
    (ranks-handed (owners_of c.self.inside.elements) c.self.inside.sched c.hand_on.new.sched c.self.invariant.ranks c.raise.new.self.base c.raise.new.self.elements.mutexes c.raise.ensures.base c.hand_on.ensures.kept c.hand_on.ensures.given)

pub hand_on-requires-clause-others : goal.hand_on-requires-clause-others
hand_on-requires-clause-others g c =
    given-beside (owners_of c.self.inside.elements) (owners_of c.raise.new.self) c.self.inside.sched (is_noted c.self.inside.changes) (is_noted c.raise.new.changes) c.self.invariant.ranks c.raise.ensures.noted

pub returns-clause-stands : goal.returns-clause-stands
returns-clause-stands g c = rw (← c.self.view_is) (keeps-changed (records_view c.self.inside) c.raise.new.self c.hand_on.new.sched c.self.inside.waits.items)

pub returns-in-Err-raise-clause-stands : goal.returns-in-Err-raise-clause-stands
returns-in-Err-raise-clause-stands g c = rw (← c.self.view_is) (keeps-changed (records_view c.self.inside) c.raise.new.self c.self.inside.sched c.self.inside.waits.items)

pub returns-clause-served : goal.returns-clause-served
returns-clause-served g c =
    let r = records_view c.self.inside in let s = state_of r in let n = c.args.mutex.0 in let thread = c.args.thread.0 in let step = on_mutex n (mutex.raise thread) in
    let there : is_there (elements s) (OnMutex c.args.mutex) ≡ true = sym c.has.ensures.there ∙ c.if-not-has.false in
    let none : raiser_refusal s thread n ≡ None = ap (λ (b : Bool). refused_first (if b then None else Some Unknown) (stranger_refusal s.sched thread)) there ∙ c.in-Ok.ensures.ok.0 in
    let F : Option Refusal → Effect = λ o. refused_by o (stepping s step) in
    let G : Sched → Effect = λ q. Ok (Done, with_sched (state_of (record r { elements = c.raise.new.self })) q) in
    rw (← c.self.view_is) (ap F none ∙ asked_done r c.self.invariant step (asks_raise n thread) Done c.raise.new.self c.in-Ok-raise.ensures.step [] (raise_wakes (elements s) n thread) ∙ ap G (sym c.hand_on.ensures.kept))
