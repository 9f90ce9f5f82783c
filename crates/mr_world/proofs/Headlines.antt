-- The headline holds of a world before and after any further events.
use Rattle.std.proofs.Common.{◌≡◌, sym, subst, true, List, [], ◌++◌, length, append-nil, nat_lt, nat_le, if◌then◌else◌, ◌^◌}
use Rattle.std.proofs.lemmas.Bool.{leb-true}
use Rattle.mr_mapside.specs.declared.TheConstants.{MAX_OUTPUT_LEN}
use Rattle.mr_world_model.specs.Packets.{Config}
use Rattle.mr_world_model.specs.World.{Event, Compute}
use Rattle.mr_world_model.specs.Sequential.{BoundsOutputs, most_output}
use Rattle.mr_world_model.proofs.Grows.{winner_stays}
use Rattle.mr_world_model.proofs.Won.{told_the_same}
use Rattle.mr_world_model.proofs.Outcomes.{marker_means_complete, no_later_event, outcomes_agree}
use Rattle.mr_world_model.proofs.Numbers.{whole_is_one}
use Rattle.mr_world_model.proofs.Published.{published_are_winners}
use Rattle.mr_world_model.proofs.Results.{results_stay}
use Rattle.mr_world_model.proofs.Faithful.{marked_files_are_sequential}
use Rattle.mr_world_model.proofs.Found.{recovery_finds}
use Rattle.mr_world_model.proofs.Suspicion.{bars_hold}
use Rattle.mr_world.specs.Headline.{HeadlineHolds}
use Rattle.mr_world.specs.Journal.{Journal}
use Rattle.mr_world_state.specs.Limits.{within, fits_bytes}
use Rattle.mr_world_state.proofs.Bounds.{fits-parts}

-- the limits take no map's output beyond what it may have
pub outputs-are-bounded : (cfg : Config) → BoundsOutputs (within cfg)
unfolding most_output
outputs-are-bounded cfg w c p bytes place map t =
    let own = subst (λ o. fits_bytes o (length bytes) ≡ true) place (fits-parts cfg w (Compute c bytes) t).own in
    leb-true (length bytes) MAX_OUTPUT_LEN (subst (λ b. (if b then nat_lt (length bytes) (2 ^ 32) else nat_le (length bytes) MAX_OUTPUT_LEN) ≡ true) map own)

pub holds-on : (cfg : Config) (es fs : List Event) → HeadlineHolds (record { config = cfg; events = es }) (record { config = cfg; events = es ++ fs })
holds-on cfg es fs = let one = outcomes_agree cfg (within cfg) in let stay = results_stay cfg (within cfg) in let found = recovery_finds cfg (within cfg) in let bars = bars_hold cfg (within cfg) in record {
  winner_stays = winner_stays cfg (within cfg) es fs;
  told = told_the_same cfg (within cfg) (es ++ fs);
  whole_files = marker_means_complete cfg (within cfg) (es ++ fs);
  one_whole = whole_is_one cfg (within cfg) (es ++ fs);
  published = published_are_winners cfg (within cfg) (es ++ fs);
  marker_stays = no_later_event cfg (within cfg) es fs;
  files_stay = stay.marked_stays es fs;
  one_outcome = stay.told_outcome (es ++ fs);
  outcome_stays = stay.outcome_stays es fs;
  success_is_marked = one.marked (es ++ fs);
  settled = λ b o. (one.settled es fs b (stay.outcome_told es b o)).0;
  files_settled = stay.told_stays es fs;
  marker_settled = λ b o m. (one.settled es fs b (stay.outcome_told es b o)).1.1 m;
  sequential = λ job laws faithful marked. marked_files_are_sequential job cfg (within cfg) laws (outputs-are-bounded cfg) (es ++ fs) faithful marked;
  recovered = found.files (es ++ fs);
  exactly = found.exactly (es ++ fs);
  launches_later = found.before (es ++ fs);
  never_again = found.never (es ++ fs);
  never_its_own = found.own es fs;
  barred = bars.refused es fs;
  over = bars.over (es ++ fs);
  expiry = bars.expiry (es ++ fs);
}

-- where a journal was added to
pub holds-after : (old new : Journal) (fs : List Event) → new ≡ record { config = old.config; events = old.events ++ fs } → HeadlineHolds old new
holds-after old new fs is = subst (HeadlineHolds old) (sym is) (holds-on old.config old.events fs)

-- where nothing was
pub holds-still : (old new : Journal) → new ≡ old → HeadlineHolds old new
holds-still old new is = subst (HeadlineHolds old) (sym is)
    (subst (λ es. HeadlineHolds old (record { config = old.config; events = es })) (append-nil old.events) (holds-on old.config old.events []))
