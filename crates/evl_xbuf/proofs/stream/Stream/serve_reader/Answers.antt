use Rattle.std.proofs.Common.{◌∷◌}
use Rattle.evl_xbuf.proofs.ServingLaws.{can_be_read, reader-serves}
use Rattle.evl_xbuf.proofs.stream.Stream.serve_reader.Goals as goal

pub returns : goal.returns
returns g c =
    let mid = c.pop_reader-reader.new.self in let r = c.pop_reader-reader.result in let first = c.pop_reader-reader.ensures.first in
    record {
      one = rw (c.got.ensures.told, c.as_slice.ensures.value, c.take.ensures.given, c.take.ensures.read, first)
          (reader-serves mid r c.args.served.now (can_be_read (record mid { readers = r ∷ mid.readers }) r mid.readers (rw first at c.requires.able)) (rw first at c.requires.one_queue) (rw first at c.requires.fit));
    }
