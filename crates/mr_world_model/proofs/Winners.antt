-- Winners among records, each once, and where their directories lie.
use Rattle.std.proofs.Common.{ℕ, zero, suc, ◌≡◌, refl, sym, ◌∙◌, ap, subst, Bool, true, false, ◌&&◌, ◌||◌, not, List, [], ◌∷◌, ◌++◌, Option, Some, None, if◌then◌else◌, nat_eq, ◌⊎◌, inl, inr, arith, length}
use Rattle.std.proofs.lemmas.Bool.{false≢true, eqb-true, eqb-false}
use Rattle.mr_world_model.specs.Claims.{IsOf}
use Rattle.mr_world_model.specs.Ids.{Attempt, ContainerId, task_attempt, committed, TaskId, JobId, is_reduce, task_eq, reduce_of}
use Rattle.mr_world_model.proofs.Names.{task_eq-true, task_eq-false, task_ne, generation-ne, task_name-ne}
use Rattle.mr_world_model.specs.Content.{File, Op, Delete, Rename}
use Rattle.mr_world_model.specs.Records.{Record, ReduceSucceeded, JobUnsuccessful, winner_in}
use Rattle.mr_world_model.specs.Packets.{Config, Done}
use Rattle.mr_world_model.specs.Pasts.{Wish, To_clear, To_rename, wished_op, computed, Place}
use Rattle.mr_world_model.specs.Hearing.{Todo_winner, has_winner, is_over, named_in}
use Rattle.mr_world_model.specs.Duties.{winners_of, one_winner}
use Rattle.mr_world_model.specs.World.{World}
use Rattle.mr_world_model.specs.Sending.{to_app}
use Rattle.mr_world_model.specs.Claims.{In}
use Rattle.mr_world_model.proofs.Basic.{winner-append}
use Rattle.mr_world_model.proofs.Lists.{Each, Each-append, Each-In}
use Rattle.mr_world_model.proofs.Files.{Holds}
use Rattle.mr_world_model.proofs.Apart.{Diverge}
use Rattle.mr_world_model.proofs.Phases.{winners-all}
use Rattle.mr_world_model.proofs.Cluster.{IsLaunched, launched_as}
use Rattle.mr_world_model.proofs.Wishes.{renamed-done, done-late}
use Rattle.mr_world_model.proofs.Reports.{Sender, sender-whole}
use Rattle.mr_world_model.proofs.Masters.{is_early}
use Rattle.mr_world_model.proofs.Steps.{newest}
use Rattle.mr_world_model.proofs.Regions.{commits}
use Rattle.mr_world_model.proofs.Dirs.{Known, HoldsAt, NoTwice, Dirs, none-some}
use Rattle.mr_world_model.proofs.Lists.{winner-none-append}
use Rattle.mr_world_model.proofs.Reports.{SaysDone}
use Rattle.mr_world_model.specs.Hearing.{Ending}
use Rattle.mr_world_model.specs.Records.{AttemptStarted, MapSucceeded, AttemptFailed}

pub winner-In : (rs : List Record) (t : TaskId) (a : Attempt) → winner_in rs t ≡ Some a → (z : Option ℕ) × In (ReduceSucceeded a z) rs × (a.task ≡ t)
unfolding winner_in
winner-In [] t a e = cc
winner-In (ReduceSucceeded b y ∷ rs) t a e = by (task_eq b.task t) refl e (winner-In rs t a)
  where
    by : (c : Bool) → task_eq b.task t ≡ c → (if c then Some b else winner_in rs t) ≡ Some a → (winner_in rs t ≡ Some a → (z : Option ℕ) × In (ReduceSucceeded a z) rs × (a.task ≡ t)) → (z : Option ℕ) × In (ReduceSucceeded a z) (ReduceSucceeded b y ∷ rs) × (a.task ≡ t)
    by true q e f = let g : b ≡ a = cc in (y, inl (ap (λ x. ReduceSucceeded x y) g), subst (λ (z : Attempt). z.task ≡ t) g (task_eq-true b.task t q))
    by false q e f = let r = f e in (r.0, inr r.1, r.2)
winner-In (AttemptStarted b n ∷ rs) t a e = let r = winner-In rs t a e in (r.0, inr r.1, r.2)
winner-In (MapSucceeded b n i ∷ rs) t a e = let r = winner-In rs t a e in (r.0, inr r.1, r.2)
winner-In (AttemptFailed b ∷ rs) t a e = let r = winner-In rs t a e in (r.0, inr r.1, r.2)
winner-In (JobUnsuccessful ∷ rs) t a e = let r = winner-In rs t a e in (r.0, inr r.1, r.2)

pub winner-split : (xs ys : List Record) (t : TaskId) (a : Attempt) → winner_in (xs ++ ys) t ≡ Some a → (winner_in xs t ≡ Some a) ⊎ ((z : Option ℕ) × In (ReduceSucceeded a z) ys × (a.task ≡ t))
winner-split xs ys t a e = by (winner_in xs t) refl
  where
    by : (o : Option Attempt) → winner_in xs t ≡ o → (winner_in xs t ≡ Some a) ⊎ ((z : Option ℕ) × In (ReduceSucceeded a z) ys × (a.task ≡ t))
    by None q = inr (winner-In ys t a (sym (winner-none-append xs ys t q) ∙ e))
    by (Some b) q = let f = winner-append xs ys t b q in inl (q ∙ (sym f ∙ e))

pub named-not-over : (asked : List Attempt) (es : List Ending) (t : TaskId) (a : Attempt) → named_in asked es t ≡ Some a → is_over es a ≡ false
unfolding named_in
named-not-over [] es t a e = cc
named-not-over (b ∷ bs) es t a e = by (is_reduce b) (task_eq b.task t) (is_over es b) refl e (named-not-over bs es t a)
  where
    by : (r s o : Bool) → is_over es b ≡ o → (if r && (s && not o) then Some b else named_in bs es t) ≡ Some a → (named_in bs es t ≡ Some a → is_over es a ≡ false) → is_over es a ≡ false
    by true true false q e f = let g : b ≡ a = cc in subst (λ z. is_over es z ≡ false) g q
    by true true true q e f = f e
    by true false o q e f = f e
    by false s o q e f = f e

pub Each-map : {A : Type 0} (P Q : A → Type 0) (xs : List A) → ((x : A) → P x → Q x) → Each P xs → Each Q xs
Each-map P Q [] f o = tt
Each-map P Q (x ∷ xs) f o = (f x o.0, Each-map P Q xs f o.1)

pub one-small : (j : JobId) (n : ℕ) (z : Option ℕ) (o : Option Attempt) → Each (λ (x : Todo_winner). IsOf j (suc n) x.task) (one_winner (reduce_of j n) z o)
one-small j n z None = tt
one-small j n z (Some a) = (record { is = refl; small = omega arith }, tt)

pub is-more : (j : JobId) (n : ℕ) (t : TaskId) → IsOf j n t → IsOf j (suc n) t
is-more j n t l = let q = l.small in record { is = l.is; small = omega (arith, q) }

pub winners-small : (rs : List Record) (j : JobId) (n : ℕ) → Each (λ (x : Todo_winner). IsOf j n x.task) (winners_of rs j n)
unfolding winners_of
winners-small rs j zero = tt
winners-small rs j (suc n) = Each-append (λ (x : Todo_winner). IsOf j (suc n) x.task) (winners_of rs j n) _ (Each-map (λ (x : Todo_winner). IsOf j n x.task) (λ (x : Todo_winner). IsOf j (suc n) x.task) (winners_of rs j n) (λ x l. is-more j n x.task l) (winners-small rs j n)) (one-small j n _ (winner_in rs (reduce_of j n)))

pub once-more : (j : JobId) (n : ℕ) (xs : List Todo_winner) (z : Option ℕ) (o : Option Attempt) → Each (λ (x : Todo_winner). IsOf j n x.task) xs → NoTwice xs → NoTwice (xs ++ one_winner (reduce_of j n) z o)
once-more j n [] z None s d = tt
once-more j n [] z (Some a) s d = (refl, tt)
once-more j n (x ∷ xs) z o s d = (other xs d.0 o, once-more j n xs z o s.1 d.1)
  where
    last : (o : Option Attempt) → has_winner (one_winner (reduce_of j n) z o) x.task ≡ false
    last None = refl
    last (Some a) = rw (task_ne (reduce_of j n) x.task (λ q. let l = s.0.small in let m : n ≡ x.task.number = ap (λ (t : TaskId). t.number) q in omega (arith, l, m))) refl

    other : (ys : List Todo_winner) → has_winner ys x.task ≡ false → (o : Option Attempt) → has_winner (ys ++ one_winner (reduce_of j n) z o) x.task ≡ false
    other [] e o = last o
    other (y ∷ ys) e o = by (task_eq y.task x.task) e (other ys)
      where
        by : (b : Bool) → (b || has_winner ys x.task) ≡ false → (has_winner ys x.task ≡ false → (o : Option Attempt) → has_winner (ys ++ one_winner (reduce_of j n) z o) x.task ≡ false) → (b || has_winner (ys ++ one_winner (reduce_of j n) z o) x.task) ≡ false
        by true e f = e
        by false e f = f e o

pub winners-once : (rs : List Record) (j : JobId) (n : ℕ) → NoTwice (winners_of rs j n)
unfolding winners_of
winners-once rs j zero = tt
winners-once rs j (suc n) = once-more j n (winners_of rs j n) _ (winner_in rs (reduce_of j n)) (winners-small rs j n) (winners-once rs j n)

pub winners-has : (rs : List Record) (j : JobId) (n : ℕ) (t : TaskId) (a : Attempt) → IsOf j n t → winner_in rs t ≡ Some a → has_winner (winners_of rs j n) t ≡ true
winners-has rs j n t a l e = by (has_winner (winners_of rs j n) t) refl
  where
    by : (b : Bool) → has_winner (winners_of rs j n) t ≡ b → has_winner (winners_of rs j n) t ≡ true
    by true q = q
    by false q = none-some (sym (winners-all rs j n t l q) ∙ e)

pub spot : (k j : ℕ) (t u : TaskId) → ((k ≡ j) × (t ≡ u)) ⊎ Diverge (committed k t) (committed j u)
spot k j t u = by (nat_eq k j) refl (task_eq t u) refl
  where
    by : (b : Bool) → nat_eq k j ≡ b → (c : Bool) → task_eq t u ≡ c → ((k ≡ j) × (t ≡ u)) ⊎ Diverge (committed k t) (committed j u)
    by true p true q = inl (eqb-true k j p, task_eq-true t u q)
    by true p false q = inr (inr (inr (inr (inl (task_name-ne t u (task_eq-false t u q))))))
    by false p c q = inr (inr (inr (inl (generation-ne k j (eqb-false k j p)))))

-- what a commit's wishes call
pub commit-op : (k : ℕ) (a : Attempt) (bytes : List ℕ) (v : Wish) (op : Op) → wished_op k a bytes v ≡ Some op → commits v ≡ true →
    (op ≡ Delete (committed k a.task)) ⊎ ((op ≡ Rename (task_attempt k a) (committed k a.task)) × (v ≡ To_rename))
unfolding wished_op
commit-op k a bytes To_clear op q e = inl cc
commit-op k a bytes To_rename op q e = inr (cc, refl)
commit-op k a bytes v op q e = absurd (false≢true e)

pub empty-launched : (cfg : Config) (w : World) → Known cfg w → is_early (newest cfg w).phase ≡ true → (c : ContainerId) (p : Place) → c.app ≡ w.fence → w.place c ≡ Some p → ⊥
empty-launched cfg w kn e c p app q = subst (λ z. In (launched_as c p.attempt p.node p.incarnation) z) (kn.masters.early w.fence e) (subst (λ z. IsLaunched cfg w z (launched_as c p.attempt p.node p.incarnation)) app (kn.cluster.places c p q).0)

-- an accepted reduce's whole file is in the newest generation
pub accepted-holds : (cfg : Config) (w : World) → Known cfg w → Dirs cfg w → (a : Attempt) → In a (newest cfg w).accepted → is_reduce a ≡ true → HoldsAt w w.fence a.task a
accepted-holds cfg w kn dirs a i d =
    let s : Sender cfg w w.fence a = (let m = kn.masters.said w.fence a i in Each-In (SaysDone cfg w) w.bag kn.reports.done (to_app w.fence (Done a m.0)) m.1 w.fence a m.0 refl d) in
    let over : is_over (newest cfg w).ended a ≡ false = named-not-over (newest cfg w).asked (newest cfg w).ended a.task a ((kn.honest.steady w.fence (omega arith)).named a i d) in
    let h = dirs.renamed s.0 s.1 s.2 s.4 (subst (λ z. (is_reduce z) ≡ true) (sym s.3) d) s.5 (subst (λ z. is_over (newest cfg w).ended z ≡ false) (sym s.3) over) in
    let late = done-late _ (renamed-done (length cfg.splits) s.1.attempt (w.container_past s.0) s.5) in
    subst (λ (z : Attempt). HoldsAt w w.fence z.task z) s.3 (record {
      bytes = computed (w.container_past s.0);
      whole = sender-whole cfg w kn.reports s.0 s.1 s.4 late;
      holds = subst (λ z. Holds w.content (committed z s.1.attempt.task) s.1.attempt.task (File (computed (w.container_past s.0)) true)) s.2 h;
    })
