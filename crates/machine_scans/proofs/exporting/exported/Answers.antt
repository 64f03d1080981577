use Rattle.machine_scans.proofs.exporting.exported.Goals as goal

pub returns-in-Array : goal.returns-in-Array
returns-in-Array c = λ key chosen records. rw c.in-Array.is (c.array_value.ensures key chosen records)
