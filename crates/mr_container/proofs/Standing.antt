-- A machine whose readings take a step stands for its past and this step.
use Rattle.std.proofs.Common.{◌≡◌, ℕ, ap, ◌∙◌}
use Rattle.mr_packet.specs.declared.packet.ContainerId.{ContainerId}
use Rattle.mr_container.specs.declared.place.Place.{Place}
use Rattle.mr_container.specs.Past.{Step, launched_as}
use Rattle.mr_container.specs.Readings.{seen, next_seen, opening}
use Rattle.mr_container.specs.State.{Container, StandsFor, Stands, after}

pub launched : (m : Container) (c : ContainerId) (p : Place) (count : ℕ) → m ≡ record { id = c; place = p; maps = count; seen = opening count p.attempt } → StandsFor m c count (launched_as p)
unfolding seen
launched m c p count e = record { id = ap (λ (x : Container). x.id) e; place = ap (λ (x : Container). x.place) e; maps = ap (λ (x : Container). x.maps) e; seen = ap (λ (x : Container). x.seen) e }

pub stands_after : (old new : Container) (step : Step) → new ≡ after old step → Stands old step new
unfolding seen
stands_after old new step e = λ c count past st. record {
  id = ap (λ (x : Container). x.id) e ∙ st.id;
  place = ap (λ (x : Container). x.place) e ∙ st.place;
  maps = ap (λ (x : Container). x.maps) e ∙ st.maps;
  seen = ap (λ (x : Container). x.seen) e
      ∙ (λ i. next_seen (st.maps i) (st.place i).attempt (st.seen i) step);
}
