use Rattle.std.proofs.Common.{◌∙◌, ℕ, List, [], ◌++◌, append-nil, append_assoc, sym, ap}
use Rattle.std.proofs.lemmas.List.{take_more}
use Rattle.lab_drives.proofs.LiveLemmas.{heard_more, heard_none}
use Rattle.lab_drives.proofs.lives.take_bytes.Goals as goal

pub loop-byte-init : goal.loop-byte-init
loop-byte-init g c = record { waits = c.requires; heard = ([], heard_none _ _, sym (append-nil _)) }

pub loop-byte-preserved : goal.loop-byte-preserved
loop-byte-preserved g c =
    let had = c.loop-byte.invariant.heard in
    let more = c.in_ok-take_byte.ensures.heard in
    record {
      waits = c.in_ok-take_byte.ensures.waits;
      heard = (
        had.0 ++ more.0,
        rw (take_more c.args.bytes.now c.loop-byte.byte-index 0 c.loop-byte-test.true) (heard_more _ _ _ _ _ _ _ _ _ _ had.1 more.1),
        more.2 ∙ ap (λ (l : List ℕ). l ++ more.0) had.2 ∙ append_assoc _ had.0 more.0,
      );
    }
