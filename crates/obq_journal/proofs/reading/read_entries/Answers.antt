use Rattle.std.proofs.Common.{arith, rules, sym}
use Rattle.obq_journal.proofs.Entries.{all_read, bad_at, bad_line, good_line, no_end, one_more}
use Rattle.obq_journal.proofs.reading.read_entries.Goals as goal

-- src/reading.rt: a line without its end
pub returns-in_default : goal.returns-in_default
returns-in_default c =
    bad_at c.args.turns c.loop-rest.line c.loop-rest.journal.entries _ _ c.loop-rest.invariant.read (no_end c.loop-rest.line c.loop-rest.rest.now (search rules) c.in_default.ensures.cut)

-- a line that is no entry's
pub returns-in_default-entry_in : goal.returns-in_default-entry_in
returns-in_default-entry_in c =
    bad_at c.args.turns c.loop-rest.line c.loop-rest.journal.entries _ _ c.loop-rest.invariant.read (bad_line c.loop-rest.line c.loop-rest.rest.now c.in-Some.words.now c.in-Some.behind.now c.in-Some.ensures.cut c.in_default-entry_in.ensures)

pub loop-rest-preserved : goal.loop-rest-preserved
loop-rest-preserved c = record {
  limit = search rules;
  read = one_more c.loop-rest.line c.loop-rest.journal.entries c.push.new.self.entries c.in-Some-entry_in.entry _ _ _ c.loop-rest.invariant.read (good_line c.loop-rest.line c.loop-rest.rest.now c.in-Some.words.now c.in-Some.behind.now c.in-Some-entry_in.entry c.in-Some.ensures.cut c.in-Some-entry_in.ensures) (search rules);
  few = omega (arith, c.loop-rest.invariant.few, c.in-Some.ensures.shorter);
}

-- the text is read to its end
pub returns : goal.returns
returns c = search (rules, all_read c.args.turns c.loop-rest.line c.loop-rest.journal.entries c.loop-rest.rest.now _ c.loop-rest.invariant.read (search rules), c.loop-rest.invariant.limit)
