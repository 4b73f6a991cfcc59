-- The queue of a flag group as each step leaves it, and that it stays sound.
use Rattle.std.proofs.Common.{◌≡◌, ◌<◌, ℕ, ◌==◌, Bool, true, false, ◌||◌, List, [], ◌∷◌, Option, Some, None, Ok, Err, if◌then◌else◌, refl, sym, ap, ◌∙◌, subst}
use Rattle.std.specs.Option.{option_map, option_map_or}
use Rattle.std.proofs.lemmas.Bool.{false≢true, eqb-true, or_left, or_parts, or_right}
use Rattle.std.proofs.lemmas.Option.{none-some}
use Rattle.evl_base.specs.Limits.{thread_limit}
use Rattle.evl_base.specs.declared.refusal.Refusal.TheVariants.{Again, Invalid}
use Rattle.evl_base.specs.declared.reply.Reply.{Reply}
use Rattle.evl_base.specs.declared.reply.Reply.TheVariants.{Bits, Done}
use Rattle.evl_base.specs.declared.take.Take.{Take}
use Rattle.evl_sync.specs.Steps.{unless}
use Rattle.evl_sync.specs.Queues.{AreRanked, enqueued_by, stands_in}
use Rattle.evl_sync.specs.FlagGroups as flags
use Rattle.evl_sync.specs.FlagGroups.{FlagGroup, IsSoundGroup, Walk, is_empty_mask, left_of, waiter_passed, bits_taken, walk_of}
use Rattle.evl_sync.specs.declared.flag_waiter.FlagWaiter.{FlagWaiter}
use Rattle.evl_sync.proofs.GroupLaws.{sound-begun, sound-dropped, sound-walked, sound_taken}
use Rattle.evl_kernel.specs.calls.Effects.{reply_by}
use Rattle.evl_kernel.specs.calls.FlagGroups as group
use Rattle.evl_kernel.specs.calls.FlagGroups.{all_served, flag_group as machine, flag_serves, flag_wakes}
use Rattle.evl_kernel.specs.waiting.Standing.{in_flags, is_served}
use Rattle.evl_kernel.proofs.calls.ElementSteps.{err_ok, ok_is}
use Rattle.evl_kernel.proofs.calls.QueueSteps.{OneGoes, OneComes, OneDrops, dropped_drops, enqueued_comes, same_queue}

abbrev of : FlagWaiter → ℕ
of w = w.thread

-- whom a walk serves, it lets go, and all others wait as before
pub walk_goes : (ws : List FlagWaiter) (bits : ℕ) → AreRanked of (λ (w : FlagWaiter). w.rank) ws
    → OneGoes (λ t. stands_in of t ws) (λ t. stands_in of t (walk_of ws bits).waiting) (all_served (walk_of ws bits).served)
walk_goes [] bits ranked = record { left = λ t is. absurd (false≢true is); same = λ t is. refl }
walk_goes (w ∷ ws) bits ranked = by (bits_taken w.kind bits) (walk_of ws (left_of bits (bits_taken w.kind bits))) (walk_goes ws (left_of bits (bits_taken w.kind bits)) ranked.2)
  where
    -- each thread after the first is another one
    apart : (t : ℕ) → stands_in of t ws ≡ true → (w.thread == t) ≡ false
    apart t stands = test (w.thread == t) refl
      where
        test : (b : Bool) → (w.thread == t) ≡ b → b ≡ false
        test true is = absurd (false≢true (sym ranked.1 ∙ (ap (λ (m : ℕ). stands_in of m ws) (eqb-true w.thread t is) ∙ stands)))
        test false is = refl

    nobody : (walk : Walk) → OneGoes (λ t. stands_in of t ws) (λ t. stands_in of t walk.waiting) (all_served walk.served) → (t : ℕ) → stands_in of t ws ≡ false → stands_in of t walk.waiting ≡ false
    nobody walk rest t away = test (is_served t (all_served walk.served)) refl
      where
        test : (b : Bool) → is_served t (all_served walk.served) ≡ b → stands_in of t walk.waiting ≡ false
        test true is = absurd (false≢true (sym away ∙ (rest.left t is).0))
        test false is = rest.same t is ∙ away

    by : (got : Option ℕ) (walk : Walk) → OneGoes (λ t. stands_in of t ws) (λ t. stands_in of t walk.waiting) (all_served walk.served)
        → OneGoes (λ t. stands_in of t (w ∷ ws)) (λ t. stands_in of t (waiter_passed w got walk).waiting) (all_served (waiter_passed w got walk).served)
    by None walk rest = record {
      left = λ t is. (
        or_right (w.thread == t) (stands_in of t ws) (rest.left t is).0,
        ap (λ (b : Bool). b || stands_in of t walk.waiting) (apart t (rest.left t is).0) ∙ (rest.left t is).1,
      );
      same = λ t is. ap (λ (b : Bool). (w.thread == t) || b) (rest.same t is);
    }
    by (Some g) walk rest = record { left = λ t is. left t (w.thread == t) refl is; same = same }
      where
        left : (t : ℕ) (b : Bool) → (w.thread == t) ≡ b → (b || is_served t (all_served walk.served)) ≡ true
            → (((w.thread == t) || stands_in of t ws) ≡ true) × (stands_in of t walk.waiting ≡ false)
        left t true is served = (
          or_left (w.thread == t) (stands_in of t ws) is,
          nobody walk rest t (ap (λ (m : ℕ). stands_in of m ws) (sym (eqb-true w.thread t is)) ∙ ranked.1),
        )
        left t false is served = (or_right (w.thread == t) (stands_in of t ws) (rest.left t served).0, (rest.left t served).1)

        same : (t : ℕ) → ((w.thread == t) || is_served t (all_served walk.served)) ≡ false → stands_in of t walk.waiting ≡ ((w.thread == t) || stands_in of t ws)
        same t is =
            let neither = or_parts (w.thread == t) (is_served t (all_served walk.served)) is in
            rest.same t neither.1 ∙ sym (ap (λ (b : Bool). b || stands_in of t ws) neither.0)

-- a flag group after a step: sound, and these were let go
pub record Left (f g : FlagGroup) (served : List (ℕ × Reply)) : Type 0 where
  pub sound : IsSoundGroup g
  pub goes : OneGoes (in_flags f) (in_flags g) served

less_bits : (f : FlagGroup) (kind : Take) (got : ℕ) → Some got ≡ bits_taken kind f.bits → IsSoundGroup f → Left f (flags.without_bits f got) []
less_bits f kind got is h = record { sound = sound_taken kind f.bits got f.waiters is h; goes = same_queue in_flags f (flags.without_bits f got) (λ t. refl) }

pub take_left : (f g : FlagGroup) (reply : Reply) (kind : Take) → IsSoundGroup f → machine f (group.take kind) ≡ Ok (reply, g) → Left f g []
take_left f g reply kind h = by (is_empty_mask kind) (bits_taken kind f.bits) refl
  where
    by : (empty : Bool) (got : Option ℕ) → bits_taken kind f.bits ≡ got
        → reply_by (λ (n : ℕ). Bits n) (unless (if empty then Some Invalid else None) (option_map_or (λ (n : ℕ). Ok (n, flags.without_bits f n)) got (Err Again))) ≡ Ok (reply, g) → Left f g []
    by true got is e = absurd (err_ok e)
    by false None is e = absurd (err_ok e)
    by false (Some n) is e = subst (λ (x : FlagGroup). Left f x []) (ap (λ (x : Reply × FlagGroup). x.1) (ok_is e)) (less_bits f kind n (sym is) h)

pub post_left : (f g : FlagGroup) (reply : Reply) (bits : ℕ) → IsSoundGroup f → machine f (group.post bits) ≡ Ok (reply, g) → Left f g (flag_wakes f (group.post bits))
post_left f g reply bits h = by (bits == 0)
  where
    by : (none : Bool) → reply_by (λ (served : List (ℕ × ℕ)). Done) (unless (if none then Some Invalid else None) (Ok (flags.walk_waiters (flags.post bits f)))) ≡ Ok (reply, g)
        → Left f g (flag_wakes f (group.post bits))
    by true e = absurd (err_ok e)
    by false e =
        subst (λ (x : FlagGroup). Left f x (flag_wakes f (group.post bits))) (ap (λ (x : Reply × FlagGroup). x.1) (ok_is e))
        (record { sound = sound-walked f.waiters _ h.queue; goes = walk_goes f.waiters _ h.queue.ranked })

-- a wait that begins: it is served, or it goes on
pub record Begun (f g : FlagGroup) (thread : ℕ) (served : Option Reply) : Type 0 where
  pub sound : IsSoundGroup g
  pub at_once : (outcome : Reply) → served ≡ Some outcome → OneGoes (in_flags f) (in_flags g) []
  pub waits : served ≡ None → OneComes (in_flags f) (in_flags g) thread

pub begun : (f g : FlagGroup) (reply : Reply) (w : FlagWaiter) → IsSoundGroup f → in_flags f w.thread ≡ false → w.thread < thread_limit → machine f (group.begin w) ≡ Ok (reply, g)
    → Begun f g w.thread (flag_serves f (group.begin w))
begun f g reply w h away within is =
    subst (λ (x : FlagGroup). Begun f x w.thread (flag_serves f (group.begin w))) (ap (λ (x : Reply × FlagGroup). x.1) (ok_is is)) (by (bits_taken w.kind f.bits) refl)
  where
    some_none : {A : Type 0} {x : A} → Some x ≡ None → ⊥
    some_none e = cc

    by : (got : Option ℕ) → bits_taken w.kind f.bits ≡ got
        → Begun f (option_map_or (flags.without_bits f) got (flags.with_waiter w f)) w.thread (option_map (λ (n : ℕ). Bits n) got)
    by None none = record {
      sound = sound-begun w f.bits f.waiters away within none h;
      at_once = λ outcome s. absurd (none-some _ s);
      waits = λ s. enqueued_comes of (λ (v : FlagWaiter). v.rank) f.waiters w (enqueued_by (λ (v : FlagWaiter). v.rank) w f.waiters) refl;
    }
    by (Some n) some = record {
      sound = (less_bits f w.kind n (sym some) h).sound;
      at_once = λ outcome s. (less_bits f w.kind n (sym some) h).goes;
      waits = λ s. absurd (some_none s);
    }

-- a waiter leaves
pub drop_sound : (thread : ℕ) (f : FlagGroup) → IsSoundGroup f → IsSoundGroup (flags.drop_waiter thread f)
drop_sound thread f h = sound-dropped thread f.bits f.waiters h

pub drop_drops : (thread : ℕ) (f : FlagGroup) → OneDrops (in_flags f) (in_flags (flags.drop_waiter thread f)) thread
drop_drops thread f = dropped_drops of thread f.waiters
