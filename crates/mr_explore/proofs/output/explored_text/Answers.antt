use Rattle.std.proofs.Common.{ap, ◌∙◌}
use Rattle.mr_explore.specs.Ends.{told_text}
use Rattle.mr_explore.proofs.Printing.{unsaid_failed}
use Rattle.mr_explore.proofs.output.explored_text.Goals as goal

pub returns-in_err-sequential-clause-fault : goal.returns-in_err-sequential-clause-fault
returns-in_err-sequential-clause-fault c =
    unsaid_failed c.args.input.now c.in_err-sequential.field-0.0 c.from_residual.result c.in_err-sequential.ensures.fault c.from_residual.ensures.1

pub returns-clause-tells : goal.returns-clause-tells
returns-clause-tells c = record {
  sequential = c.in_ok-sequential.sequential;
  of_job = c.in_ok-sequential.ensures.is;
  is = (λ i. (c.plain.ensures.text i).items) ∙ c.in_ok-text.ensures ∙ ap (told_text c.args.form c.in_ok-sequential.sequential _) (λ i. record { table = c.table-table.ensures i; faults = c.faults.ensures i; whole = c.is_whole.ensures i });
}
