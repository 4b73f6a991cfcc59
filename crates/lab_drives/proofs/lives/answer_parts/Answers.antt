use Rattle.std.proofs.Common.{List, ℕ, [], ◌++◌, sym, subst, take}
use Rattle.std.specs.Io.KnownBytes.{Consumes}
use Rattle.std.proofs.KnownBytes.{Appends-trans, Consumes-trans}
use Rattle.lab_drives.proofs.LiveLemmas.{heard_more}
use Rattle.lab_drives.proofs.lives.answer_parts.Goals as goal

pub loop-preserved : goal.loop-preserved
loop-preserved g c =
    let had = c.loop.invariant.heard in
    let part = c.front.result.now in
    let more = c.in_ok-answer_part.ensures.heard in
    let read = subst (λ (l : List ℕ). Consumes (g.I.Read.remaining c.loop.input) (g.I.Read.remaining c.fetch.new.self) l) {x = take c.in_ok-count.count c.fetch.new.buffer} (sym {b = take c.in_ok-count.count c.fetch.new.buffer} c.front.ensures) c.in_ok-count.ensures.bytes.0 in
    record {
      waits = c.in_ok-answer_part.ensures.waits;
      heard = (
        had.0 ++ part,
        had.1 ++ more.0,
        Consumes-trans _ _ _ had.0 part had.2 read,
        heard_more had.0 part [] _ _ _ _ _ had.1 more.0 had.3 more.1,
        Appends-trans _ _ _ had.1 more.0 had.4 more.2,
      );
    }
