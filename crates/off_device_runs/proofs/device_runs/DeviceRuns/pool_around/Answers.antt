use Rattle.off_device_runs.proofs.device_runs.DeviceRuns.pool_around.Goals as goal

pub returns-clause-is : goal.returns-clause-is
returns-clause-is c = rw (← c.self.view_is) c.pool_around.ensures.is
