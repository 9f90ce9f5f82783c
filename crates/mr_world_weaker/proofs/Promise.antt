-- Where a run is the cluster's, the promise is the cluster's.
use Rattle.std.proofs.Common.{◌≡◌, sym, subst, List, ◌++◌, Some}
use Rattle.mr_world_model.specs.Packets.{Config}
use Rattle.mr_world_model.specs.World.{World, Event, opening_world}
use Rattle.mr_world_model.specs.Claims.{Limits, world_of, winner, IsToldWon, IsMarked, IsComplete, LooksTheSame}
use Rattle.mr_world_model.specs.Sequential.{SeesSequential}
use Rattle.mr_world_model.proofs.Grows.{winner_stays}
use Rattle.mr_world_model.proofs.Won.{told_the_same}
use Rattle.mr_world_model.proofs.Faithful.{marked_files_are_sequential}
use Rattle.mr_world_model.proofs.Outcomes.{marker_means_complete, no_later_event}
use Rattle.mr_world_weaker.specs.Lacking.{Kind, NobodySlips, AreBorne, AllEndFirst, weak_world_of}
use Rattle.mr_world_weaker.specs.Weaker.{PromiseHolds}
use Rattle.mr_world_weaker.proofs.Slips.{only-who-slips}
use Rattle.mr_world_weaker.proofs.Borne.{nobody-slips}
use Rattle.mr_world_weaker.proofs.Ends.{ends-first}

holds : (kd : Kind) (cfg : Config) (within : Limits) (Fits : List Event → Type 0) → ((es : List Event) → Fits es → weak_world_of kd cfg within es ≡ world_of cfg within es) → PromiseHolds kd cfg within Fits
holds kd cfg within Fits same = record {
  winner_stays = λ es fs t a f g w. subst (λ (u : World). winner u t ≡ Some a) (sym (same (es ++ fs) g)) (winner_stays cfg within es fs t a (subst (λ (u : World). winner u t ≡ Some a) (same es f) w));
  told = λ es t a f i. subst (λ (u : World). winner u t ≡ Some a) (sym (same es f)) (told_the_same cfg within es t a (subst (λ (u : World). IsToldWon u t a) (same es f) i));
  whole_files = λ es f m. subst (IsComplete cfg) (sym (same es f)) (marker_means_complete cfg within es (subst IsMarked (same es f) m));
  final = λ es fs f g m. subst (λ (u : World). IsMarked u × LooksTheSame (weak_world_of kd cfg within es) u) (sym (same (es ++ fs) g))
      (subst (λ (u : World). IsMarked (world_of cfg within (es ++ fs)) × LooksTheSame u (world_of cfg within (es ++ fs))) (sym (same es f)) (no_later_event cfg within es fs (subst IsMarked (same es f) m)));
  sequential = λ job laws bounds es f faithful m. subst (λ (u : World). SeesSequential job cfg u) (sym (same es f)) (marked_files_are_sequential job cfg within laws bounds es faithful (subst IsMarked (same es f) m));
}

pub holds-where-nobody-slips : (kd : Kind) (cfg : Config) (within : Limits) → PromiseHolds kd cfg within (NobodySlips kd cfg within opening_world)
holds-where-nobody-slips kd cfg within = holds kd cfg within (NobodySlips kd cfg within opening_world) (only-who-slips kd cfg within)

pub holds-of-what-is-borne : (kd : Kind) (cfg : Config) (within : Limits) → PromiseHolds kd cfg within (AreBorne kd)
holds-of-what-is-borne kd cfg within = holds kd cfg within (AreBorne kd) (λ es b. only-who-slips kd cfg within es (nobody-slips kd cfg within es b))

pub holds-where-all-end : (kd : Kind) (cfg : Config) (within : Limits) → PromiseHolds kd cfg within (AllEndFirst kd cfg within opening_world)
holds-where-all-end kd cfg within = holds kd cfg within (AllEndFirst kd cfg within opening_world) (λ es b. only-who-slips kd cfg within es (ends-first kd cfg within es b))
