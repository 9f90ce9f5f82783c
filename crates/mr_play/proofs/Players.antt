-- A player that plays commands in turn.
use Rattle.std.proofs.Common.{◌≡◌, ◌<◌, ℕ, suc, List, [], ◌∷◌, ◌++◌, length, take, drop, get_or, Option, Some, None, Result, IsErrAnd, refl, sym, ap, subst, ◌∙◌, append-nil, append_assoc}
use Rattle.std.proofs.Math.Seq.{split_at}
use Rattle.std.proofs.lemmas.Result.{err_from_is_err_and}
use Rattle.std.specs.Option.{option_and_then}
use Rattle.mr_world_model.specs.Packets.{Config}
use Rattle.mr_script.specs.declared.command.Command.{Command}
use Rattle.mr_world.specs.Limits.{within}
use Rattle.mr_play.specs.declared.fault.PlayerFault.{PlayerFault}
use Rattle.mr_play.specs.declared.player.Player.{Player}
use Rattle.mr_sim_commands.specs.declared.job.submission.JobKind.{JobKind}
use Rattle.mr_play.specs.Text.{job_as}
use Rattle.mr_play.specs.Played.{Played, obeyed, played}
use Rattle.mr_play.specs.declared.sources.Stretch.{Stretch}
use Rattle.mr_play.specs.Sources.{noted, stretch_of, stretches}
use Rattle.mr_play.specs.Players.{state_in, FullWhere, Goes, GoesNoting, Notes}
use Rattle.mr_play.proofs.Calmly.{full_then}
use Rattle.mr_play.proofs.Playing.{noted_then, played_then}

-- what a `?` answers where a call has failed
pub failed_goes : {A : Type 0} (old new : Player) (said : Option Played) (f : PlayerFault) (r : Result A PlayerFault) → FullWhere f (said ≡ None) → IsErrAnd r (λ g. g ≡ f) → Goes old said r new
failed_goes {A} old new said f r h g = let z = err_from_is_err_and r g in
    subst (λ (y : Result A PlayerFault). Goes old said y new) (sym z.1) (subst (λ h. FullWhere h (said ≡ None)) (sym z.2) h)

failed_noting : {A : Type 0} (old new : Player) (said : Option Played) (more : List Stretch) (f : PlayerFault) (r : Result A PlayerFault) → FullWhere f (said ≡ None) → IsErrAnd r (λ g. g ≡ f) → GoesNoting old said more r new
failed_noting {A} old new said more f r h g = let z = err_from_is_err_and r g in
    subst (λ (y : Result A PlayerFault). GoesNoting old said more y new) (sym z.1) (subst (λ h. FullWhere h (said ≡ None)) (sym z.2) h)

-- what commands make of a player, and one
abbrev pub played_by : Player → List (ℕ × Command) → Option Played
played_by p cs = played (job_as p.job) p.world.config (within p.world.config) cs (state_in p)

abbrev pub obeyed_by : Player → ℕ × Command → Option Played
obeyed_by p x = obeyed (job_as p.job) p.world.config (within p.world.config) x.0 x.1 (state_in p)

pub split_by : (all xs : List (ℕ × Command)) (x : ℕ × Command) → xs ≡ take (length xs) all → (length xs < length all) × (x ≡ get_or all (length xs) x) → all ≡ xs ++ x ∷ drop (suc (length xs)) all
split_by all xs x front turn = split_at all (length xs) x turn.0 ∙ (ap (λ ys. ys ++ get_or all (length xs) x ∷ drop (suc (length xs)) all) (sym front) ∙ ap (λ x. xs ++ x ∷ drop (suc (length xs)) all) (sym turn.1))

-- which of them made which events
abbrev pub noted_by : Player → List (ℕ × Command) → List Stretch
noted_by p cs = stretches (job_as p.job) p.world.config (within p.world.config) cs (state_in p)

pub none_obeyed : (p : Player) → Notes p (played_by p []) (noted_by p []) p
none_obeyed p = record { job = refl; config = refl; state = refl; noted = sym (append-nil p.stretches.items) }

module _ (old mid new : Player) (cs : List (ℕ × Command)) (x : ℕ × Command) (h : Notes old (played_by old cs) (noted_by old cs) mid) where
  -- it is the one job
  same_obeyed : obeyed (job_as old.job) old.world.config (within old.world.config) x.0 x.1 (state_in mid) ≡ obeyed_by mid x
  same_obeyed = ap (λ (j : JobKind). obeyed (job_as j) old.world.config (within old.world.config) x.0 x.1 (state_in mid)) (sym h.job)
      ∙ ap (λ (cfg : Config). obeyed (job_as mid.job) cfg (within cfg) x.0 x.1 (state_in mid)) (sym h.config)

  then_is : (ds : List (ℕ × Command)) → played_by old (cs ++ x ∷ ds) ≡ option_and_then (played (job_as old.job) old.world.config (within old.world.config) ds) (obeyed_by mid x)
  then_is ds = played_then (job_as old.job) old.world.config (within old.world.config) cs (x ∷ ds) (state_in old) (state_in mid) h.state
      ∙ ap (option_and_then (played (job_as old.job) old.world.config (within old.world.config) ds)) same_obeyed

  -- what is noted of one more
  noted_is : obeyed_by mid x ≡ Some (state_in new) → noted_by old (cs ++ x ∷ []) ≡ noted_by old cs ++ stretch_of x.0 x.1 (length new.world.events) ∷ []
  noted_is g = noted_then (job_as old.job) old.world.config (within old.world.config) cs (x ∷ []) (state_in old) (state_in mid) h.state
      ∙ ap (λ o. noted_by old cs ++ noted (job_as old.job) old.world.config (within old.world.config) (stretches (job_as old.job) old.world.config (within old.world.config) []) x o) (same_obeyed ∙ g)

  pub one_obeyed : Notes mid (obeyed_by mid x) (stretch_of x.0 x.1 (length new.world.events) ∷ []) new → Notes old (played_by old (cs ++ x ∷ [])) (noted_by old (cs ++ x ∷ [])) new
  one_obeyed g = record {
    job = g.job ∙ h.job;
    config = g.config ∙ h.config;
    state = then_is [] ∙ ap (option_and_then (played (job_as old.job) old.world.config (within old.world.config) [])) g.state;
    noted = g.noted ∙ ap (λ xs. xs ++ stretch_of x.0 x.1 (length new.world.events) ∷ []) h.noted
        ∙ append_assoc old.stretches.items (noted_by old cs) (stretch_of x.0 x.1 (length new.world.events) ∷ [])
        ∙ ap (λ xs. old.stretches.items ++ xs) (sym (noted_is g.state));
  }

  pub one_failed : {A : Type 0} (all ds : List (ℕ × Command)) (f : PlayerFault) (r : Result A PlayerFault) → all ≡ cs ++ x ∷ ds → FullWhere f (obeyed_by mid x ≡ None) → IsErrAnd r (λ g. g ≡ f) → GoesNoting old (played_by old all) (noted_by old all) r new
  one_failed all ds f r is g e = failed_noting old new (played_by old all) (noted_by old all) f r
      (full_then f _ _ (λ none. ap (played_by old) is ∙ then_is ds ∙ ap (option_and_then (played (job_as old.job) old.world.config (within old.world.config) ds)) none) g) e
