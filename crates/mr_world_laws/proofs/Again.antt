-- What is told once is told again: of a world before and after events, by the headline, and of a world as it stands.
use Rattle.std.proofs.Common.{◌≡◌, ◌⊎◌, ℕ, Bool, true, false, List, [], ◌∷◌, map, slice_get, Option, Some, None, Result, Ok, Err, IsSome, IfErr, inl, inr, refl, sym, ◌∙◌}
use Rattle.mr_world_events.specs.declared.why.Why.{Why}
use Rattle.mr_world_model.specs.Ids.{Attempt, TaskId, marker}
use Rattle.mr_world_model.specs.Content.{entry_at, is_file}
use Rattle.mr_world_model.specs.Packets.{Envelope, Won}
use Rattle.mr_world_model.specs.World.{Event}
use Rattle.mr_world_model.specs.Claims.{winner}
use Rattle.mr_world_model.specs.Results.{outcome, visible}
use Rattle.mr_world_model.proofs.Cluster.{slice_get-In}
use Rattle.mr_world_model.proofs.Outcomes.{outcomes_agree}
use Rattle.mr_world_model.proofs.Results.{results_stay}
use Rattle.mr_world_model.proofs.Won.{told_the_same}
use Rattle.mr_world.specs.mr_world_state.specs.declared.fault.WorldFault.{WorldFault}
use Rattle.mr_world.specs.mr_world_state.specs.declared.fault.WorldFault.TheVariants as fault
use Rattle.mr_world.specs.declared.results.VisibleFile.{VisibleFile}
use Rattle.mr_world.specs.Applying.{StopsAt}
use Rattle.mr_world.specs.Headline.{HeadlineHolds}
use Rattle.mr_world.specs.Journal.{Journal, world_in}
use Rattle.mr_world.specs.Limits.{within}
use Rattle.mr_world.specs.Standing.{Refuses}
use Rattle.mr_world.specs.VisibleFiles.{as_pair}

-- ---- before and after

pub winner_again : (old new : Journal) → HeadlineHolds old new → (t : TaskId) (b a : Option Attempt) → b ≡ winner (world_in old) t → a ≡ winner (world_in new) t → IsSome b → a ≡ b
winner_again old new h t None a p q s = let none : false ≡ true = s in cc
winner_again old new h t (Some x) a p q s = q ∙ h.winner_stays t x (sym p)

pub outcome_again : (old new : Journal) → HeadlineHolds old new → (b a : Option Bool) → b ≡ outcome (world_in old) → a ≡ outcome (world_in new) → IsSome b → a ≡ b
outcome_again old new h None a p q s = let none : false ≡ true = s in cc
outcome_again old new h (Some x) a p q s = q ∙ h.outcome_stays x (sym p)

pub marker_again : (old new : Journal) → HeadlineHolds old new → (b a : Bool) → b ≡ is_file (entry_at (world_in old).content marker) → a ≡ is_file (entry_at (world_in new).content marker) → b ≡ true → a ≡ true
marker_again old new h b a p q t = q ∙ (h.marker_stays (sym p ∙ t)).0

same_files : (xs ys : List VisibleFile) → map as_pair xs ≡ map as_pair ys → xs ≡ ys
same_files [] [] e = refl
same_files [] (y ∷ ys) e = cc
same_files (x ∷ xs) (y ∷ ys) e =
    let first : as_pair x ≡ as_pair y = cc in
    let others : map as_pair xs ≡ map as_pair ys = cc in
    (λ i. record { name = (first i).0; bytes = (first i).1 } ∷ same_files xs ys others i)
same_files (x ∷ xs) [] e = cc

pub marked_files_again : (old new : Journal) → HeadlineHolds old new → (b : Bool) → b ≡ is_file (entry_at (world_in old).content marker) → b ≡ true → (xs ys : List VisibleFile) → map as_pair xs ≡ visible (world_in old) → map as_pair ys ≡ visible (world_in new) → ys ≡ xs
marked_files_again old new h b p t xs ys x y = same_files ys xs (y ∙ (h.files_stay (sym p ∙ t) ∙ sym x))

pub told_files_again : (old new : Journal) → HeadlineHolds old new → (b : Bool) → outcome (world_in old) ≡ Some b → (xs ys : List VisibleFile) → map as_pair xs ≡ visible (world_in old) → map as_pair ys ≡ visible (world_in new) → ys ≡ xs
told_files_again old new h b t xs ys x y = same_files ys xs (y ∙ (h.files_settled b t ∙ sym x))

-- ---- as it stands

pub success_marked : (j : Journal) → outcome (world_in j) ≡ Some true → is_file (entry_at (world_in j).content marker) ≡ true
success_marked j e = (outcomes_agree j.config (within j.config)).marked j.events ((results_stay j.config (within j.config)).outcome_told j.events true e)

pub bag_winner : (j : Journal) (i : ℕ) (e : Envelope) (t : TaskId) (a : Attempt) → slice_get (world_in j).bag i ≡ Some e → e.body ≡ Won t a → winner (world_in j) t ≡ Some a
bag_winner j i e t a s b = told_the_same j.config (within j.config) j.events t a (e, slice_get-In (world_in j).bag i e s, b)

-- ---- what a run is refused for

refused : (o : Option Why) (fits first : Bool) (f : WorldFault) → o ≡ None → Refuses o fits first f → (f ≡ fault.Full) ⊎ (f ≡ fault.NoMemory)
refused (Some why) fits first f e r = cc
refused None true first f e r = inr r
refused None false false f e r = inl r
refused None false true f e r = r

pub run_refused : (old new : Journal) (es : List Event) (f : WorldFault) → StopsAt old es f new → (f ≡ fault.Full) ⊎ (f ≡ fault.NoMemory)
run_refused old new es f h = refused _ _ _ f h.now h.refused
