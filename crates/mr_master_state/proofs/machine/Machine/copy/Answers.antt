use Rattle.mr_master_state.proofs.machine.Machine.copy.Goals as goal

pub returns : goal.returns
returns c = record {
  is = λ i. record {
    setting = c.in_ok-running.ensures.setting i;
    work = c.in_ok-running.ensures.work i;
    tasks = c.in_ok-running.ensures.tasks i;
    launches = c.in_ok-running.running.launches;
    nodes = c.in_ok-noted.ensures.nodes i;
    earlier = c.in_ok-noted.ensures.earlier i;
    writing = c.in_ok-noted.noted.writing;
    bars = c.in_ok-noted.noted.bars;
  };
  launches = c.in_ok-running.ensures.launches;
  writing = c.in_ok-noted.ensures.writing;
  bars = c.in_ok-noted.ensures.bars;
}
