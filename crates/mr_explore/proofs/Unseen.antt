-- Nothing is seen of who asks in vain.
use Rattle.std.proofs.Common.{◌≡◌, ℕ, suc, Bool, true, false, List, [], ◌∷◌, ◌++◌, drop, length, Option, Some, refl, sym, ap, subst, ◌∙◌}
use Rattle.std.specs.Prelude.{if◌then◌else◌, ◌&&◌, nat_eq, nat_lt}
use Rattle.std.specs.List.{flat_map, list_all, range_with_len}
use Rattle.std.proofs.lemmas.Bool.{and_parts}
use Rattle.mr_packet.specs.declared.packet.ContainerId.{ContainerId}
use Rattle.mr_world_model.specs.Ids.{marker, reduce_of}
use Rattle.mr_world_model.specs.Content.{entry_at, is_file}
use Rattle.mr_world_model.specs.Records.{records_below, winner_in}
use Rattle.mr_world_model.specs.Packets.{Config}
use Rattle.mr_world_model.specs.World.{World, Event, opening_world}
use Rattle.mr_world_model.specs.Effect.{happens, run}
use Rattle.mr_world_model.specs.Claims.{Limits, world_of}
use Rattle.mr_world_model.specs.Results.{visible_in}
use Rattle.mr_world_model.proofs.Basic.{run-append}
use Rattle.mr_world_model.specs.Sequential.{Job}
use Rattle.mr_play.specs.mr_world.specs.Readings.{living}
use Rattle.mr_play.specs.Played.{Played, world}
use Rattle.mr_play.specs.WorldText.{line_of_marker, line_of_outcome, line_of_winner, visible_text, world_text}
use Rattle.mr_explore.specs.Faults.{asks_on, calm, goes_in_vain, only_asked}
use Rattle.mr_explore.specs.Laws.{AskingShowsNothing}
use Rattle.mr_explore.specs.Vain.{all_come, all_wait, ask_behind, asks, most_ahead, only_ask, step_twice, waits}
use Rattle.mr_explore.proofs.Asking.{LooksLike, looks_still}
use Rattle.mr_explore.proofs.Listed.{all_who_live}
use Rattle.mr_explore.proofs.Waiting.{looks_along}

same_text : (cfg : Config) (w v : World) → LooksLike w v → world_text cfg v ≡ world_text cfg w
unfolding world_text
same_text cfg w v l = λ i.
    flat_map (λ r. line_of_winner r (winner_in (records_below (l.history i) (suc (l.fence i))) (reduce_of cfg.job r))) (range_with_len 0 cfg.reduces)
    ++ line_of_marker (is_file (entry_at (l.content i) marker)) ++ line_of_outcome (l.outcome i) ++ flat_map visible_text (visible_in (l.content i))

unless_short : (b x : Bool) → (if b then false else x) ≡ true → x ≡ true
unless_short true x e = cc
unless_short false x e = e

behind_all : {A : Type 0} (xs ys : List A) → drop (length xs) (xs ++ ys) ≡ ys
behind_all [] ys = refl
behind_all (x ∷ xs) ys = behind_all xs ys

-- what is looked at asks
looked_at : (cs : List ContainerId) (n sent : ℕ) (w : World) (events : List Event) → ask_behind cs n sent w events ≡ true → list_all (asks w.bag) (drop n events) ≡ true
looked_at cs n sent w events on =
    let made = drop n events in
    let some = (and_parts (nat_eq (length made) (most_ahead cs)) (only_ask cs sent w made) (unless_short (nat_lt (length events) n) _ on)).1 in
    let asked = (and_parts (step_twice cs made) (list_all (asks w.bag) made && all_come w made sent) some).1 in
    (and_parts (list_all (asks w.bag) made) (all_come w made sent) asked).0

all_listed : (cfg : Config) (w : World) (cs : List ContainerId) → all_wait cfg w cs ≡ true → list_all (waits cfg w) cs ≡ true
all_listed cfg w cs wait =
    let some = (and_parts (nat_lt 0 (length cs)) _ wait).1 in (and_parts _ (list_all (waits cfg w) cs) some).1

ahead_law : (job : Job) (cfg : Config) (within : Limits) (s t : Played) → goes_in_vain job cfg within s ≡ true → calm job cfg within (most_ahead (living cfg (world job cfg within s))) s ≡ Some t
    → (es fs : List Event) → t.events ≡ s.events ++ (es ++ fs) → world_text cfg (world_of cfg within (s.events ++ es)) ≡ world_text cfg (world job cfg within s)
ahead_law job cfg within s t vain made es fs is =
    let w = world job cfg within s in
    let cs = living cfg w in
    let parts = and_parts (all_wait cfg w cs) (asks_on job cfg within cs s) vain in
    let on : ask_behind cs (length s.events) (length w.bag) (world job cfg within t) t.events ≡ true = subst (λ (o : Option Played). only_asked job cfg within cs (length s.events) (length w.bag) o ≡ true) made parts.1 in
    let asked : list_all (asks (world job cfg within t).bag) (drop (length s.events) t.events) ≡ true = looked_at cs (length s.events) (length w.bag) (world job cfg within t) t.events on in
    let there : list_all (asks (world job cfg within t).bag) (es ++ fs) ≡ true = subst (λ (xs : List Event). list_all (asks (world job cfg within t).bag) xs ≡ true) (ap (drop (length s.events)) is ∙ behind_all s.events (es ++ fs)) asked in
    let bag : (run cfg within w (es ++ fs)).bag ≡ (world job cfg within t).bag =
    ap (λ (u : World). u.bag) (sym (ap (world_of cfg within) is ∙ run-append cfg within opening_world s.events (es ++ fs))) in
    let looks = looks_along cfg within w (world job cfg within t).bag es fs (all_who_live cfg within s.events (all_listed cfg w cs parts.0)) bag there in
    ap (world_text cfg) (run-append cfg within opening_world s.events es) ∙ same_text cfg w (run cfg within w es) looks

pub asking_shows_nothing_law : AskingShowsNothing
asking_shows_nothing_law = record {
  one = λ cfg within w e asked. same_text cfg w (happens cfg within w e) (looks_still cfg within w e asked);
  ahead = ahead_law;
}
