-- Each operation is spelled behind the number of its name.
use Rattle.std.proofs.Common.{◌≡◌, refl}
use Rattle.std.specs.Prelude.{slice_get}
use Rattle.obq_wire.specs.declared.packets.Operation.{Operation}
use Rattle.obq_wire.specs.declared.packets.Operation.TheVariants as op
use Rattle.obq_wire.specs.Spelling.{operation}
use Rattle.obq_wire.specs.Tags.{number_named, operation_name}

pub numbered : (x : Operation) → slice_get (operation x) 0 ≡ number_named (operation_name x)
numbered (op.Get object name) = refl
numbered (op.Call object name arguments) = refl
numbered (op.Set object name new) = refl
numbered (op.Copy object) = refl
numbered (op.Redirect object target) = refl
numbered (op.ArrayItem array index) = refl
numbered (op.ArraySize array) = refl
numbered (op.ArraySet array index new) = refl
numbered (op.VarGet variable) = refl
numbered (op.VarSet variable new) = refl
numbered (op.Put writer text) = refl
numbered (op.Join t) = refl
numbered (op.Line condition object) = refl
numbered (op.GiveUp object) = refl
numbered (op.Again object condition) = refl
numbered (op.Signal condition) = refl
numbered (op.Broadcast condition) = refl
numbered (op.Export name new) = refl
numbered (op.Import name engine) = refl
numbered (op.Engine engine procedure) = refl
