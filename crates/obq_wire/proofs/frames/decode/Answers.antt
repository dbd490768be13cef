use Rattle.std.proofs.Common.{subst, arith}
use Rattle.obq_wire.specs.Frames.{Answers}
use Rattle.obq_wire.proofs.FrameLaws.{answer_found, spelled_again}
use Rattle.obq_wire.proofs.frames.decode.Goals as goal

pub returns-clause-found : goal.returns-clause-found
returns-clause-found c = answer_found c.args.bytes.now c.read_frame.result (λ i. omega (arith, c.type_inv.bytes i)) c.read_frame.ensures

pub returns-clause-only : goal.returns-clause-only
returns-clause-only c = λ p s. subst (λ f. Answers c.read_frame.result f) (spelled_again c.args.bytes.now p s) c.read_frame.ensures
