use Rattle.mr_container_work.proofs.works.work.Goals as goal

pub returns-in-Map-clause-works : goal.returns-in-Map-clause-works
returns-in-Map-clause-works g c = λ cfg is. rw (c.in-Map.is, ← c.as_slice.ensures) (c.work_of_map.ensures.works cfg is)

pub returns-in-Reduce-clause-works : goal.returns-in-Reduce-clause-works
returns-in-Reduce-clause-works g c = λ cfg is. rw (c.in-Reduce.is, ← c.as_slice-in-Reduce.ensures) (c.work_of_reduce.ensures.works cfg)

pub returns-in-Reduce-clause-fault : goal.returns-in-Reduce-clause-fault
returns-in-Reduce-clause-fault g c = rw (c.in-Reduce.is, ← c.as_slice-in-Reduce.ensures) (c.work_of_reduce.ensures.fault c.args.reduces)
