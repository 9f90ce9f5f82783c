-- How a run goes on by itself.
use Rattle.std.proofs.Common.{◌≡◌, ◌||◌, Bool, true, false, not, [], Option, Some, None, Result, Ok, Err, IfOk, refl, sym, ap, subst, ◌∙◌}
use Rattle.std.specs.declared.alloc.AllocError.{AllocError}
use Rattle.mr_explore_search.specs.Steps.{Onward, Goes, Ends, Full, GoesOn}
use Rattle.mr_explore_faults.specs.declared.fault.Fault.{Fault}
use Rattle.mr_play.specs.mr_world.specs.Journal.{world_in}
use Rattle.mr_play.specs.declared.player.Player.{Player}
use Rattle.mr_play.specs.Played.{Played}
use Rattle.mr_play.specs.Players.{SameJob, state_in}
use Rattle.mr_explore.specs.declared.tried.Tried.{Tried}
use Rattle.mr_explore.specs.declared.tried.Tried.TheVariants as tried
use Rattle.mr_explore.specs.Exploring.{goes_on, is_cut}
use Rattle.mr_explore.specs.Faults.{NotPermitted}
use Rattle.mr_explore.specs.Runs.{Exploring, befallen_with, explored, onward_with, with}
use Rattle.mr_explore.specs.inner.Players.{Fares, FaresAs, GoesAs, befallen_in, faults_in, onward_in, view_as, view_with}

-- ---- as a run of mr_explore_search

same_view : (deep : Bool) (old new : Player) → SameJob old new → with (view_as deep old) (state_in new) ≡ view_as deep new
same_view deep old new same = λ i. record { job = sym same.job i; config = sym same.config i; played = state_in new; past_limit = false; deep = deep }

pub viewed : (deep : Bool) (old new : Player) (b : Bool) → GoesAs (onward_in deep old) old (Ok b) new → GoesOn (explored.onward (view_as deep old)) (Ok b) (view_as deep new)
viewed deep old new true h = ap (onward_with (view_as deep old)) h.1 ∙ ap (λ (e : Exploring). Goes e) (same_view deep old new h.0)
viewed deep old new false h = ap (onward_with (view_as deep old)) h.1 ∙ ap (λ (e : Exploring). Ends e) (same_view deep old new h.0)

pub viewed_full : (deep : Bool) (old : Player) → onward_in deep old ≡ Full → explored.onward (view_as deep old) ≡ Full
viewed_full deep old h = ap (onward_with (view_as deep old)) h

-- ---- whether it goes on

pub goes_if : (said : Onward Played) (old new : Player) (went : Bool) → GoesAs said old (Ok went) new → went ≡ goes_on said
goes_if said old new true h = sym (ap goes_on h.1)
goes_if said old new false h = sym (ap goes_on h.1)

pub goes_to_limit : (said : Onward Played) → said ≡ Full → true ≡ goes_on said
goes_to_limit said h = sym (ap goes_on h)

goes_as : (e : Exploring) (o : Onward Played) → goes_on o ≡ goes_on (onward_with e o)
goes_as e (Goes s) = refl
goes_as e (Ends s) = refl
goes_as e Full = refl

pub not_cut : (past deep : Bool) (p : Player) → (past || not deep) ≡ true → is_cut (view_with past deep p) ≡ false
not_cut true true p is = refl
not_cut true false p is = refl
not_cut false true p is = absurd (cc)
not_cut false false p is = refl

pub is_cut_by : (past deep : Bool) (p : Player) (r : Result Bool AllocError) → past ≡ false → deep ≡ true → IfOk r (λ on. on ≡ goes_on (onward_in true p)) → IfOk r (λ cut. cut ≡ is_cut (view_with past deep p))
is_cut_by true deep p r goes is h = absurd (cc)
is_cut_by false false p r goes is h = absurd (cc)
is_cut_by false true p (Ok on) goes is h = h ∙ goes_as (view_as true p) (onward_in true p)
is_cut_by false true p (Err e) goes is h = h

-- ---- a fault that is tried

pub fares : (past deep : Bool) (old new : Player) (f : Fault) (r : Result Tried AllocError) → past ≡ false → Fares old (befallen_in old (world_in old.world).fence f) r new → IfOk r (λ t. FaresAs (explored.befallen f (view_with past deep old)) past deep t new)
fares true deep old new f r is h = absurd (cc)
fares false deep old new f (Ok tried.Befell) is h = ap (befallen_with (view_as deep old)) h.1 ∙ ap (λ (e : Exploring). Some e) (same_view deep old new h.0)
fares false deep old new f (Ok tried.CanNot) is h = ap (befallen_with (view_as deep old)) h
fares false deep old new f (Ok tried.PassesLimit) is h =
    ap (befallen_with (view_as deep old)) h.1 ∙ ap (λ (e : Exploring). Some e) (λ i. record { job = sym h.0.job i; config = sym h.0.config i; played = state_in new; past_limit = true; deep = deep })
fares false deep old new f (Err e) is h = h

pub as_befell : (said : Option Exploring) (past deep : Bool) (t : Tried) (new : Player) → t ≡ tried.Befell → FaresAs said past deep t new → said ≡ Some (view_with past deep new)
as_befell said past deep t new is h = subst (λ (u : Tried). FaresAs said past deep u new) is h

pub as_not : (said : Option Exploring) (past deep : Bool) (t : Tried) (new : Player) → t ≡ tried.CanNot → FaresAs said past deep t new → said ≡ None
as_not said past deep t new is h = subst (λ (u : Tried). FaresAs said past deep u new) is h

pub as_passed : (said : Option Exploring) (past deep : Bool) (t : Tried) (new : Player) → t ≡ tried.PassesLimit → FaresAs said past deep t new → said ≡ Some (view_with true deep new)
as_passed said past deep t new is h = subst (λ (u : Tried). FaresAs said past deep u new) is h

pub never : (past deep : Bool) (p : Player) (f : Fault) → past ≡ true → explored.befallen f (view_with past deep p) ≡ None
never true deep p f is = refl
never false deep p f is = absurd (cc)

pub may_not : (past deep : Bool) (p : Player) (f : Fault) → befallen_in p (world_in p.world).fence f ≡ NotPermitted → explored.befallen f (view_with past deep p) ≡ None
may_not true deep p f is = refl
may_not false deep p f is = ap (befallen_with (view_as deep p)) is

-- ---- what may be tried

pub faults_are : (past deep : Bool) (p : Player) → past ≡ false → explored.faults (view_with past deep p) ≡ faults_in deep p
faults_are true deep p is = absurd (cc)
faults_are false deep p is = refl

pub no_faults : (past deep : Bool) (p : Player) → past ≡ true → explored.faults (view_with past deep p) ≡ []
no_faults true deep p is = refl
no_faults false deep p is = absurd (cc)
