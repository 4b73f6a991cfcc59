use Rattle.std.proofs.Common.{◌≡◌, ◌++◌, List, ℕ, refl, subst}
use Rattle.std.specs.Prelude.{string_bytes}
use Rattle.std.specs.Io.KnownBytes.{Appends}
use Rattle.std.proofs.KnownBytes.{Appends-trans}
use Rattle.lab_drives.specs.Callers.{ending_status, ending_text, played_told}
use Rattle.lab_streams.specs.Outputs.{Output}
use Rattle.lab_streams.proofs.OutputLemmas.{written_err}
use Rattle.lab_drives.proofs.callers.tell_played.Goals as goal

pub returns-clause-writes : goal.returns-clause-writes
returns-clause-writes g c =
    let played = c.args.played.now in
    let name = c.args.name.now in
    let old = g.O.Stream.contents c.args.out.now in
    let mid = g.O.Stream.contents c.write_all.new.self in
    let new = g.O.Stream.contents c.write_all-2.new.self in
    let first = subst (λ (l : List ℕ). Appends old mid l) c.as_bytes.ensures.value c.in_ok-write_all.ensures.bytes in
    let second = subst (λ (l : List ℕ). Appends mid new l) c.as_bytes-2.ensures.value c.in_ok-write_all-2.ensures.bytes in
    written_err _ (λ (output : Output). output ≡ played_told name played) old new _ _ (string_bytes played.lines ++ string_bytes played.closing) (ending_text name played.ending)
    (ending_status played.ending) c.tell_ending.result refl (Appends-trans old mid new _ _ first second) c.tell_ending.ensures.line c.tell_ending.ensures.status
