use Rattle.obq_run.proofs.texts.write_cause.Goals as goal

pub returns-in-Usage-clause-whole : goal.returns-in-Usage-clause-whole
returns-in-Usage-clause-whole g c = rw c.in-Usage.is (rw (c.as_bytes-word.ensures.value, c.format.ensures.text) at c.write_pieces.ensures.whole)

pub returns-in-Usage-clause-prefix : goal.returns-in-Usage-clause-prefix
returns-in-Usage-clause-prefix g c = rw c.in-Usage.is (rw (c.as_bytes-word.ensures.value, c.format.ensures.text) at c.write_pieces.ensures.prefix)
