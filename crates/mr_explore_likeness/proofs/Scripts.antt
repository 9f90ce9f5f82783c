-- The least runs to an end have one script.
use Rattle.std.proofs.Common.{◌≡◌, ◌⊎◌, inl, inr, sym, ◌∙◌, true, false, List, length}
use Rattle.std.proofs.lemmas.Bool.{true≢false}
use Rattle.mr_world_model.specs.World.{Event}
use Rattle.mr_script_order.specs.Order.{sooner}
use Rattle.mr_script_order.proofs.Ordered.{in_order}
use Rattle.mr_explore_alike.proofs.Least.{least_are_one, searches_find_one}
use Rattle.mr_explore.specs.Faults.{most_events}
use Rattle.mr_explore.specs.Runs.{Exploring, explored}
use Rattle.mr_explore_likeness.specs.Losing.{LeastRunsHaveOneScript, SearchesFindOneScript}
use Rattle.mr_explore_likeness.proofs.Alike.{few-left}
use Rattle.mr_explore_likeness.proofs.Itself.{first-itself}
use Rattle.mr_explore_likeness.proofs.Whole.{level_likens}
use Rattle.mr_explore_likeness.specs.Runs.{before, ends, like, rest, void}

neither-first : (a b : List Event) → sooner a b ≡ false → sooner b a ≡ false → a ≡ b
neither-first a b p q = by (in_order.total a b)
  where
    by : (sooner a b ≡ true) ⊎ ((a ≡ b) ⊎ (sooner b a ≡ true)) → a ≡ b
    by (inl x) = absurd (true≢false (sym x ∙ p))
    by (inr (inl e)) = e
    by (inr (inr x)) = absurd (true≢false (sym x ∙ q))

back-end : (s t : Exploring) → ends s t → ends t s
back-end s t e = record { outcome = sym e.outcome; stalled = sym e.stalled }

pub one_script : LeastRunsHaveOneScript
one_script budget first j k u s a b e f g =
    let r = least_are_one explored rest before void (like true) ends most_events budget first j k u s a b e (back-end u s e) f g in
    (r.0, neither-first u.played.events s.played.events r.1 r.2)

through-end : (s t u : Exploring) → ends s t → ends t u → ends s u
through-end s t u a b = record { outcome = a.outcome ∙ b.outcome; stalled = a.stalled ∙ b.stalled }

pub one_script_found : SearchesFindOneScript
one_script_found input budget first made others found told is one other j k u s a b e f g =
    let itself = first-itself true input first is in
    let r = searches_find_one explored rest before void (like true) ends most_events budget first made others found told level_likens through-end itself (few-left (length first.played.events) itself.begun) one other j k u s a b e (back-end u s e) f g in
    (r.0, neither-first u.played.events s.played.events r.1 r.2)
