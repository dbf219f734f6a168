-- What a run stands for.
use Rattle.star_run.specs.declared.running.Run.TheInside.{Inside}
use Rattle.star_run.specs.Running.{Running}

abbrev pub running_of : Inside → Running
running_of r = record {
  machine = r.machine;
  frame = record { blocks = r.blocks; active = r.active; locked = r.locked };
  out = r.out;
  left = r.meter.left;
}
