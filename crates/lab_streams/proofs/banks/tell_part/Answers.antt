use Rattle.lab_streams.proofs.banks.tell_part.Goals as goal

pub returns-in-Keys-clause-line : goal.returns-in-Keys-clause-line
returns-in-Keys-clause-line g c = rw c.in-Keys.is c.tell_callback.ensures.line

pub returns-in-Accepts-clause-line : goal.returns-in-Accepts-clause-line
returns-in-Accepts-clause-line g c = rw c.in-Accepts.is c.tell_callback-in-Accepts.ensures.line

pub returns-in-Rows-clause-line : goal.returns-in-Rows-clause-line
returns-in-Rows-clause-line g c = rw c.in-Rows.is c.tell_callback-in-Rows.ensures.line
