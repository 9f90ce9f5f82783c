use Rattle.std.proofs.Common.{◌≡◌, ◌∙◌}
use Rattle.mr_container_work.proofs.Faults.{map-refused, not-longer, refused-as}
use Rattle.mr_container_work.proofs.works.work_of_map.Goals as goal

pub returns-in_err-output-clause-works : goal.returns-in_err-output-clause-works
returns-in_err-output-clause-works g c = λ cfg is. rw is (refused-as _ _ c.from_residual.result c.in_err-output.field-0.0 c.from_residual.ensures.1 (map-refused _ c.in_err-output.field-0.0 _ c.in_err-output.ensures.fault))

pub returns-clause-works : goal.returns-clause-works
returns-clause-works g c = λ cfg is.
    let bytes : c.shared.result ≡ c.in_ok-output.output = c.shared.ensures ∙ c.into_bytes.ensures.value in
    (rw (bytes, is) c.in_ok-output.ensures.output, rw bytes (not-longer _ c.in_ok-output.ensures.short))
