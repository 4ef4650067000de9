use Rattle.off_device_runs.proofs.device_runs.DeviceRuns.is_free.Goals as goal

pub returns : goal.returns
returns c = rw (← c.self.view_is) c.is_free.ensures
