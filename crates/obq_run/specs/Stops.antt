-- Why a run stops, in the words of a World.
use Rattle.obq_pure.specs.declared.steps.Stop.{Stop as Why}
use Rattle.obq_pure.specs.declared.steps.Stop.TheVariants as why
use Rattle.obq_world.specs.declared.machine.Stop.{Stop}
use Rattle.obq_world.specs.declared.machine.Stop.TheVariants as stop

abbrev pub stop_of : Why → Stop
stop_of why.Most = stop.Most
stop_of why.Needs = stop.Needs
stop_of why.Bottom = stop.Bottom
