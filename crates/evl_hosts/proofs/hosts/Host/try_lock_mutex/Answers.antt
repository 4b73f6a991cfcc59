use Rattle.std.proofs.Common.{List, [], ◌∷◌, ◌++◌, Some, Ok, Err, inr, refl, sym, ap, ◌∙◌, append-nil}
use Rattle.std.specs.Arc.{arc_value}
use Rattle.evl_words.specs.declared.mutex.MutexPass.{MutexPass}
use Rattle.evl_hosts.proofs.HostLaws.{kept}
use Rattle.evl_hosts.proofs.hosts.Host.try_lock_mutex.Goals as goal

pub returns-in-Ok : goal.returns-in-Ok
returns-in-Ok c = rw (← c.self.view_is) (record {
  locked = inr (
    Ok c.in-Ok.pass,
    refl,
    record {
      before = c.in-Some.caller;
      after = c.try_lock_mutex.new.caller;
      had = c.in-Some.is;
      done = c.in-Ok.ensures.locked;
      has = kept (arc_value c.self.inside.shared) (Some c.try_lock_mutex.new.caller) c.self.inside.staxes.items c.keep.new.passes.items (c.self.inside.mutexes.items ++ c.in-Ok.pass ∷ [])
          (c.keep.ensures ∙ ap (λ (passes : List MutexPass). passes ++ c.in-Ok.pass ∷ []) c.reserve.ensures.items);
    },
  );
})

pub returns-in-Err : goal.returns-in-Err
returns-in-Err c = rw (← c.self.view_is) (record {
  locked = inr (
    Err c.in-Err.refusal,
    refl,
    record {
      before = c.in-Some.caller;
      after = c.try_lock_mutex.new.caller;
      had = c.in-Some.is;
      done = c.in-Err.ensures.locked;
      has = kept (arc_value c.self.inside.shared) (Some c.try_lock_mutex.new.caller) c.self.inside.staxes.items c.reserve.new.self.items (c.self.inside.mutexes.items ++ [])
          (c.reserve.ensures.items ∙ sym (append-nil c.self.inside.mutexes.items));
    },
  );
})
