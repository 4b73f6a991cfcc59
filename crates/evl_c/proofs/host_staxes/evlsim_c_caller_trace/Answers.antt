use Rattle.std.proofs.Common.{ℕ, List, Result, Ok, Err, String, Global, refl, rules, string_bytes, subst, sym}
use Rattle.evl_base.specs.declared.refusal.Refusal.{Refusal}
use Rattle.evl_hosts.specs.Hosts.{Steps, TellsTrace, bytes_of}
use Rattle.evl_c.specs.Texts.{TellsText}
use Rattle.evl_c.proofs.HostCallLemmas.{traces_as}
use Rattle.evl_c.proofs.host_staxes.evlsim_c_caller_trace.Goals as goal

pub returns-in-Ok-clause-told : goal.returns-in-Ok-clause-told
returns-in-Ok-clause-told c = λ there.
    traces_as 0 c.args.start _ _ c.in-Some.there.value c.deref_mut.result.now c.trace-text.new.self (Ok (string_bytes c.in-Ok.text)) c.args.out.now c.tell_text.new.out c.tell_text.new.length
    (sym c.in-Some.ensures.taken) c.deref_mut.ensures.value c.put.ensures c.in-Ok.ensures.traced
    (refl, subst (λ (l : List ℕ). TellsText l c.args.start c.args.out.now c.tell_text.new.out c.tell_text.new.length) c.as_str.ensures.value c.tell_text.ensures)

pub returns-in-Err-CoreBusy-clause-told : goal.returns-in-Err-CoreBusy-clause-told
returns-in-Err-CoreBusy-clause-told c = λ there.
    traces_as 11 c.args.start _ _ c.in-Some.there.value c.deref_mut.result.now c.trace-text.new.self (Err c.in-Err-CoreBusy.field-0) c.args.out.now c.args.out.now c.args.length.now
    (sym c.in-Some.ensures.taken) c.deref_mut.ensures.value c.put.ensures
    (subst (λ (r : Result (String Global) Refusal). Steps (λ a b. TellsTrace c.deref_mut.result.now.machine (bytes_of r) a b) c.deref_mut.result.now.staxes c.deref_mut.result.now.mutexes c.deref_mut.result.now c.trace-text.new.self) c.in-Err-CoreBusy.is c.trace-text.ensures.traced)
    (search rules, refl)

pub returns-in-Err : goal.returns-in-Err
returns-in-Err c = record {
  told = λ there.
      traces_as 4 c.args.start _ _ c.in-Some.there.value c.deref_mut.result.now c.trace-text.new.self (Err c.in-Err.field-0) c.args.out.now c.args.out.now c.args.length.now
      (sym c.in-Some.ensures.taken) c.deref_mut.ensures.value c.put.ensures c.in-Err.ensures.traced (search rules, refl);
  none = search rules;
  statuses = refl;
  refused = λ it. (refl, refl);
}
