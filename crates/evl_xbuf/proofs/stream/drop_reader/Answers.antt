use Rattle.std.proofs.Common.{rules, ◌==◌, not}
use Rattle.std.proofs.lemmas.Fn.{filter_same}
use Rattle.evl_xbuf.proofs.stream.drop_reader.Goals as goal

pub returns-clause-dropped : goal.returns-clause-dropped
returns-clause-dropped g c = filter_same _ (λ r. not (r.thread == c.args.thread)) _ (λ x b f' k. search rules) _ _ c.retain.ensures.filtered
