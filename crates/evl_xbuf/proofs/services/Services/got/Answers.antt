use Rattle.std.proofs.Common.{◌≡◌, ◌++◌, length, ap, ◌∙◌}
use Rattle.evl_xbuf.proofs.ServedLaws.{services-got, turns-got}
use Rattle.evl_xbuf.proofs.services.Services.got.Goals as goal

pub invariant_of-self : goal.invariant_of-self
invariant_of-self c =
    let bytes = c.self.inside.bytes.items in let more = c.args.bytes.now in
    let extended : c.try_extend_from_slice.new.self.items ≡ bytes ++ more = rw c.unwrap.ensures at c.try_extend_from_slice.ensures.ok in
    rw (c.push.ensures.items, extended) (turns-got bytes more c.self.inside.turns.items c.args.thread c.len-start.result c.len.result c.len-start.ensures.value (c.len.ensures.value ∙ ap length extended) c.self.invariant)

pub returns : goal.returns
returns c =
    let bytes = c.self.inside.bytes.items in let more = c.args.bytes.now in
    let extended : c.try_extend_from_slice.new.self.items ≡ bytes ++ more = rw c.unwrap.ensures at c.try_extend_from_slice.ensures.ok in
    record { told = rw (c.push.ensures.items, extended, ← c.self.view_is) (services-got bytes more c.self.inside.turns.items c.args.thread c.len-start.result c.len.result c.len-start.ensures.value (c.len.ensures.value ∙ ap length extended) c.self.invariant.within) }
