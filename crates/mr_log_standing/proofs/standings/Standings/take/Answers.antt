use Rattle.std.proofs.Common.{◌||◌, sym, ap, subst, ◌∙◌}
use Rattle.std.specs.List.{list_any}
use Rattle.mr_log_standing.specs.Standing.{ends_job, releases, is_publication}
use Rattle.mr_log_standing.specs.inner.Kept.{AreKept}
use Rattle.mr_log_standing.proofs.Keeping.{kept-more}
use Rattle.mr_log_standing.proofs.standings.Standings.take.Goals as goal

pub invariant_of-result : goal.invariant_of-result
invariant_of-result c =
    let s = c.self.inside in
    subst (λ es. AreKept s.job es c.note_all.new.tasks.items c.either-over.result c.either-released.result c.either-published.result) (sym c.in_ok-push.ensures.ok)
    (kept-more s.job s.entries c.args.entry s.tasks.items c.note_all.new.tasks.items s.over s.released s.published c.either-over.result c.either-released.result c.either-published.result c.self.invariant c.in_ok-note_all.ensures
    (c.either-over.ensures ∙ ap (λ b. s.over || b) (c.any_ends.ensures ∙ ap (λ ls. list_any ends_job ls) c.as_slice-lines.ensures))
    (c.either-released.ensures ∙ ap (λ b. s.released || b) (c.any_releases.ensures ∙ ap (λ ls. list_any releases ls) c.as_slice-lines.ensures))
    (c.either-published.ensures ∙ ap (λ b. s.published || b) (c.any_publication.ensures ∙ ap (λ ls. list_any is_publication ls) c.as_slice-lines.ensures)))
