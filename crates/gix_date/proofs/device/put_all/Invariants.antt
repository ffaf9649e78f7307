use Rattle.std.proofs.Common.{length, ◌-◌, ◌≤◌, take}
use Rattle.gix_date.specs.Devices.StreamState.{Takes}
use Rattle.gix_date.proofs.device.put_all.Given as goal

abbrev pub invariant-loop-done : goal.invariant-loop-done
invariant-loop-done g l = (l.done ≤ length l.text) × Takes (g.W.Sink.known l.initial.out) (g.W.Sink.known l.out) (take l.done l.text)

abbrev pub decreases-loop-done : goal.decreases-loop-done
decreases-loop-done g l = length l.text - l.done
