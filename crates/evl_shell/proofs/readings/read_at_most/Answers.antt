use Rattle.std.proofs.Common.{rules, ◌++◌, take, length-append}
use Rattle.std.proofs.lemmas.List.{length-take}
use Rattle.evl_shell.proofs.InputLemmas.{consumes-more, input-ended, input-full}
use Rattle.evl_shell.proofs.readings.read_at_most.Goals as goal

pub returns-then-count-eq0-clause-text : goal.returns-then-count-eq0-clause-text
returns-then-count-eq0-clause-text g c =
    let kept = c.reading.invariant in
    input-ended _ _ _ _ c.reading.text.items c.read.new.buf c.in-Ok.count kept.within kept.read c.in-Ok.ensures.bytes.0 c.if-count-eq0.true
    (c.in-Ok.ensures.bytes.1 c.if-count-eq0.true (search rules))

pub returns-clause-text : goal.returns-clause-text
returns-clause-text g c =
    let kept = c.reading.invariant in
    input-full _ _ _ c.reading.text.items (search rules) kept.read

pub returns-then-is_err-clause-few : goal.returns-then-is_err-clause-few
returns-then-is_err-clause-few g c =
    let kept = c.reading.invariant in
    let text = c.reading.text.items in
    let part = take c.in-Ok.count c.read.new.buf in
    let both = length-append text part in
    let cut = length-take c.in-Ok.count c.read.new.buf in
    (text ++ part, rw (both, cut) (search rules), consumes-more _ _ _ text _ kept.read c.in-Ok.ensures.bytes.0)
