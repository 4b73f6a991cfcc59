use Rattle.lab_kinds.proofs.reports.report_kind.Goals as goal

pub returns : goal.returns
returns c = record {
  found = c.in_ok-found.found.items;
  tells = c.in_ok-found.ensures.told;
  lines = rw c.as_slice.ensures.value at c.in_ok-write_found.ensures;
  answers = rw c.as_slice-2.ensures.value at c.is_some_found.ensures;
  judges = rw (c.is_some_found.ensures, c.as_slice-2.ensures.value) c.in_ok-found.ensures.judged;
}
