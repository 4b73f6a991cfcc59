-- All that was read from a way of a cross-buffer is the front of what was accepted into it, over a whole history.
use Rattle.std.proofs.Common.{◌≡◌, ℕ, zero, suc, nat_lt, Bool, true, false, not, ◌&&◌, List, [], ◌∷◌, ◌++◌, map, Option, Some, None, Result, Ok, Err, slice_get, if◌then◌else◌, refl, sym, ap, ◌∙◌, subst}
use Rattle.std.specs.List.{cons_option}
use Rattle.std.proofs.lemmas.Bool.{false≢true}
use Rattle.std.proofs.lemmas.Option.{none-some, same_Some}
use Rattle.evl_base.specs.declared.refusal.Refusal.{Refusal}
use Rattle.evl_base.specs.declared.refusal.Refusal.TheVariants.{Range, WrongStage}
use Rattle.evl_base.specs.declared.reply.Reply.{Reply}
use Rattle.evl_base.specs.declared.reply.Reply.TheVariants.{Begun, Done}
use Rattle.evl_base.specs.declared.way.Way.{Way}
use Rattle.evl_base.specs.declared.way.Way.TheVariants.{In, Out}
use Rattle.evl_sync.specs.Steps.{unless}
use Rattle.evl_xbuf.specs.Flows as flows
use Rattle.evl_xbuf.specs.Flows.{flow, of_begin_read, of_begin_write, of_read, of_write, run}
use Rattle.evl_xbuf.specs.Streams as streams
use Rattle.evl_xbuf.specs.Streams.{Service, Stream}
use Rattle.evl_xbuf.specs.Xbufs as xbufs
use Rattle.evl_xbuf.specs.Xbufs.{Xbuf, with_other_way, reading_stage, same_stage, stream, unless_refused, with_stream, writing_stage}
use Rattle.evl_xbuf.proofs.FlowLaws.{run-goes}
use Rattle.evl_kernel.specs.calls.Effects.{Made, Runs, if_done, reply_by}
use Rattle.evl_kernel.specs.calls.CrossBuffers as through
use Rattle.evl_kernel.specs.calls.CrossBuffers.{XbufStep, bytes_told, cross_buffer}
use Rattle.evl_kernel.specs.calls.Elements.{part, its_xbuf}
use Rattle.evl_kernel.specs.histories.Replays.{touches}
use Rattle.evl_kernel.specs.histories.Transfers.{ReadsFollowWritesThere, call_on, calls_on, if_reached, same_way}
use Rattle.evl_kernel.proofs.histories.OwnRunLaws.{xbufs_by_themselves}

way_is : (v w : Way) → same_way v w ≡ true → v ≡ w
way_is In In e = refl
way_is In Out e = absurd (false≢true e)
way_is Out In e = absurd (false≢true e)
way_is Out Out e = refl

-- what a call that may be refused leaves of its way
abbrev left_by : {A : Type 0} → Result (A × Stream) Refusal → Stream → Stream
left_by (Ok (answer, after)) s = after
left_by (Err refusal) s = s

abbrev after_of : Option flows.Call → Stream → Stream
after_of None s = s
after_of (Some call) s = (flow call s).after

module _ (x : Xbuf) where
  with_way : (way : Way) (s : Stream) → stream (with_stream x way s) way ≡ s
  with_way In s = refl
  with_way Out s = refl

  with_other : (way w : Way) → same_way way w ≡ false → (s : Stream) → stream (with_stream x w s) way ≡ stream x way
  with_other In In e s = absurd (false≢true (sym e))
  with_other In Out e s = refl
  with_other Out In e s = refl
  with_other Out Out e s = absurd (false≢true (sym e))

  own_way : {A : Type 0} (f : A → Reply) (w : Way) (r : Result (A × Stream) Refusal) → stream (if_done x (reply_by f (unless_refused x w r))) w ≡ left_by r (stream x w)
  own_way f w (Ok (answer, after)) = with_way w after
  own_way f w (Err refusal) = refl

  other_way : {A : Type 0} (f : A → Reply) (way w : Way) → same_way way w ≡ false → (r : Result (A × Stream) Refusal) → stream (if_done x (reply_by f (unless_refused x w r))) way ≡ stream x way
  other_way f way w apart (Ok (answer, after)) = with_other way w apart after
  other_way f way w apart (Err refusal) = refl

  -- a call that is on this way where it is reached, and else changes nothing of it
  module _ {A : Type 0} (f : A → Reply) (way w : Way) (call : flows.Call) (r : Result (A × Stream) Refusal) (is : (flow call (stream x w)).after ≡ left_by r (stream x w)) where
    on_way : (same : Bool) → same_way way w ≡ same → after_of (if_reached same call) (stream x way) ≡ stream (if_done x (reply_by f (unless_refused x w r))) way
    on_way true same = subst (λ (v : Way). (flow call (stream x v)).after ≡ stream (if_done x (reply_by f (unless_refused x w r))) v) (sym (way_is way w same)) (is ∙ sym (own_way f w r))
    on_way false apart = sym (other_way f way w apart r)

write_after : (s : Stream) (bytes : List ℕ) (r : Result (List Service × Stream) Refusal) → (of_write s bytes r).after ≡ left_by r s
write_after s bytes (Ok (services, after)) = refl
write_after s bytes (Err refusal) = refl

read_after : (s : Stream) (r : Result ((List ℕ × List Service) × Stream) Refusal) → (of_read s r).after ≡ left_by r s
read_after s (Ok ((bytes, services), after)) = refl
read_after s (Err refusal) = refl

begin_write_after : (s : Stream) (bytes : List ℕ) (r : Result (Option (List Service) × Stream) Refusal) → (of_begin_write s bytes r).after ≡ left_by r s
begin_write_after s bytes (Ok (Some services, after)) = refl
begin_write_after s bytes (Ok (None, after)) = refl
begin_write_after s bytes (Err refusal) = refl

begin_read_after : (s : Stream) (r : Option (List ℕ × List Service) × Stream) → (of_begin_read s r).after ≡ r.1
begin_read_after s (Some (bytes, services), after) = refl
begin_read_after s (None, after) = refl

own_stage : (w : Way) → (same_stage (writing_stage w) (writing_stage w) ≡ true) × (same_stage (reading_stage w) (reading_stage w) ≡ true)
own_stage In = (refl, refl)
own_stage Out = (refl, refl)

reached : (x : Xbuf) (way : Way) (step : XbufStep) → after_of (call_on way step) (stream x way) ≡ stream (if_done x (cross_buffer x step)) way
reached x way (through.write stage w bytes) = by (same_way way w) refl (same_stage (writing_stage w) stage)
  where
    by : (same : Bool) → same_way way w ≡ same → (right : Bool) → after_of (if_reached (same && right) (flows.Write bytes)) (stream x way)
        ≡ stream (if_done x (reply_by (λ (u : List Service). Done) (unless (if right then None else Some WrongStage) (unless_refused x w (streams.try_write bytes (stream x w)))))) way
    by true is true = on_way x (λ (u : List Service). Done) way w (flows.Write bytes) (streams.try_write bytes (stream x w)) (write_after (stream x w) bytes (streams.try_write bytes (stream x w))) true is
    by false is true = on_way x (λ (u : List Service). Done) way w (flows.Write bytes) (streams.try_write bytes (stream x w)) (write_after (stream x w) bytes (streams.try_write bytes (stream x w))) false is
    by true is false = refl
    by false is false = refl
reached x way (through.read stage w len) = by (same_way way w) refl (nat_lt 256 len) (same_stage (reading_stage w) stage)
  where
    by : (same : Bool) → same_way way w ≡ same → (wide right : Bool) → after_of (if_reached (same && not wide && right) (flows.Read len)) (stream x way)
        ≡ stream (if_done x (reply_by (λ (got : List ℕ × List Service). bytes_told got.0) (unless (if wide then Some Range else None) (unless (if right then None else Some WrongStage) (unless_refused x w (streams.try_read len (stream x w))))))) way
    by true is false true = on_way x (λ (got : List ℕ × List Service). bytes_told got.0) way w (flows.Read len) (streams.try_read len (stream x w)) (read_after (stream x w) (streams.try_read len (stream x w))) true is
    by false is false true = on_way x (λ (got : List ℕ × List Service). bytes_told got.0) way w (flows.Read len) (streams.try_read len (stream x w)) (read_after (stream x w) (streams.try_read len (stream x w))) false is
    by true is false false = refl
    by false is false false = refl
    by true is true right = refl
    by false is true right = refl
reached x way (through.room w) = refl
reached x way (through.begin_write thread w bytes) = by (same_way way w) refl (same_stage (writing_stage w) (writing_stage w)) (own_stage w).0
  where
    by : (same : Bool) → same_way way w ≡ same → (right : Bool) → right ≡ true → after_of (if_reached same (flows.BeginWrite thread bytes)) (stream x way)
        ≡ stream (if_done x (reply_by (λ (u : Option (List Service)). Begun) (unless (if right then None else Some WrongStage) (unless_refused x w (streams.begin_write thread bytes (stream x w)))))) way
    by same is true right =
        on_way x (λ (u : Option (List Service)). Begun) way w (flows.BeginWrite thread bytes) (streams.begin_write thread bytes (stream x w)) (begin_write_after (stream x w) bytes (streams.begin_write thread bytes (stream x w))) same is
    by same is false right = absurd (false≢true right)
reached x way (through.begin_read thread w len) = by (same_way way w) refl (nat_lt 256 len) (same_stage (reading_stage w) (reading_stage w)) (own_stage w).1
  where
    by : (same : Bool) → same_way way w ≡ same → (wide right : Bool) → right ≡ true → after_of (if_reached (same && not wide) (flows.BeginRead thread len)) (stream x way)
        ≡ stream (if_done x (reply_by (λ (got : Option (List ℕ × List Service)). Begun) (unless (if wide then Some Range else None) (unless (if right then None else Some WrongStage) (Ok (with_other_way x w (streams.begin_read thread len (stream x w)))))))) way
    by true is false true right = on_way x (λ (got : Option (List ℕ × List Service)). Begun) way w (flows.BeginRead thread len) (Ok (streams.begin_read thread len (stream x w))) (begin_read_after (stream x w) (streams.begin_read thread len (stream x w))) true is
    by false is false true right = on_way x (λ (got : Option (List ℕ × List Service)). Begun) way w (flows.BeginRead thread len) (Ok (streams.begin_read thread len (stream x w))) (begin_read_after (stream x w) (streams.begin_read thread len (stream x w))) false is
    by true is true true right = refl
    by false is true true right = refl
    by same is wide false right = absurd (false≢true right)
reached x way (through.drop thread w) = on_way x (λ (services : List Service). Done) way w (flows.Drop thread) (Ok (streams.drop_waiter thread (stream x w))) refl (same_way way w) refl

-- the calls on a way lead from its opening to its end
leads : (way : Way) (x y : Xbuf) (steps : List (Made XbufStep)) → Runs cross_buffer x steps y → (run (calls_on way steps) (stream x way)).after ≡ stream y way
leads way x y [] same = ap (λ (z : Xbuf). stream z way) (sym same)
leads way x y (made ∷ others) (said, rest) = by (call_on way made.step) (reached x way made.step) (leads way (if_done x (cross_buffer x made.step)) y others rest)
  where
    by : (o : Option flows.Call) → after_of o (stream x way) ≡ stream (if_done x (cross_buffer x made.step)) way → (run (calls_on way others) (stream (if_done x (cross_buffer x made.step)) way)).after ≡ stream y way
        → (run (cons_option o (calls_on way others)) (stream x way)).after ≡ stream y way
    by None is ends = ap (λ (s : Stream). (run (calls_on way others) s).after) is ∙ ends
    by (Some call) is ends = ap (λ (s : Stream). (run (calls_on way others) s).after) is ∙ ends

-- nothing is there at the beginning
nothing_there : (sizes : List (ℕ × ℕ)) (n : ℕ) (x : Xbuf) → slice_get (map (λ (s : ℕ × ℕ). xbufs.opened_xbuf s.0 s.1) sizes) n ≡ Some x → (way : Way) → (stream x way).there ≡ []
nothing_there [] n x is way = absurd (none-some _ is)
nothing_there (s ∷ sizes) zero x is In = ap (λ (z : Xbuf). z.inbound.there) (sym (same_Some _ _ is))
nothing_there (s ∷ sizes) zero x is Out = ap (λ (z : Xbuf). z.outbound.there) (sym (same_Some _ _ is))
nothing_there (s ∷ sizes) (suc n) x is way = nothing_there sizes n x is way

pub reads_follow_there : ReadsFollowWritesThere
reads_follow_there h legal n x has way =
    let ran = xbufs_by_themselves n h legal x has in
    let calls = calls_on way (part (its_xbuf n) (touches h)) in (
      ran.0,
      ran.1,
      record {
        after_is = leads way x ran.0 (part (its_xbuf n) (touches h)) ran.2;
        in_order = ap (λ (bytes : List ℕ). bytes ++ (run calls (stream x way)).accepted) (sym (nothing_there h.board.xbufs.items n x has way)) ∙ run-goes calls (stream x way);
      },
    )
