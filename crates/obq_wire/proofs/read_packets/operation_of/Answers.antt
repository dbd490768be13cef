use Rattle.std.proofs.Common.{rules, tests}
use Rattle.obq_wire.proofs.BehindTags.{behind}
use Rattle.obq_wire.proofs.read_packets.operation_of.Goals as goal

pub returns-in-10 : goal.returns-in-10
returns-in-10 c = rw (behind _ _ _ _ c.in_ok-tag.ensures, c.in-10.is) c.var_set_of.ensures

pub returns-in-11 : goal.returns-in-11
returns-in-11 c = rw (behind _ _ _ _ c.in_ok-tag.ensures, c.in-11.is) c.put_of.ensures

pub returns-in_default : goal.returns-in_default
returns-in_default c = rw (behind _ _ _ _ c.in_ok-tag.ensures) (search (tests, rules))
