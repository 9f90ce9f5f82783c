-- The parts of a new world stand for the opening world.
use Rattle.std.proofs.Common.{◌≡◌, ℕ, zero, suc, refl, sym, ◌∙◌, ap, subst, Bool, true, false, nat_lt, replicate, List, [], Some, None, if◌then◌else◌, is_some, unwrap_or}
use Rattle.mr_names.specs.declared.fault.NameFault.{NameFault}
use Rattle.mr_names.specs.declared.fault.NameFault.TheVariants as fault
use Rattle.mr_names.specs.declared.op.Caller.{Caller}
use Rattle.mr_names.specs.Calls as names
use Rattle.mr_history.specs.State.{State}
use Rattle.mr_history.specs.Segment.{fresh}
use Rattle.mr_node.specs.Readings.{opening}
use Rattle.mr_node.specs.State as node
use Rattle.mr_node.proofs.Standing.{begun}
use Rattle.mr_world_model.specs.Ids.{ContainerId, staged}
use Rattle.mr_world_model.specs.Content.{MkDirs}
use Rattle.mr_world_model.specs.Stored.{StoresStand, master}
use Rattle.mr_world_model.proofs.Stored.{stores_go_on, staging-allowed}
use Rattle.mr_world_model.specs.Packets.{Config}
use Rattle.mr_world_model.specs.World.{opening_world}
use Rattle.mr_world_model.specs.Effect.{run}
use Rattle.mr_world_actors.specs.declared.living.Living.{Living}
use Rattle.mr_world_actors.specs.declared.nodes.Nodes.{Nodes}
use Rattle.mr_world_actors.specs.Living.{kept}
use Rattle.mr_world_actors.specs.Nodes.{node_of}
use Rattle.mr_world_state.specs.declared.masters.Masters.{Masters}
use Rattle.mr_world_state.specs.Limits.{launches_of}
use Rattle.mr_world_state.specs.Machines.{master_of, master_count}
use Rattle.mr_world_state.specs.Standing.{Reached, LivingStand, NodesStand, MastersStand}

pub opens : (cfg : Config) → Reached cfg opening_world
unfolding run
opens cfg = record { events = []; is = refl }

pub none-launched : (n : ℕ) → launches_of (λ k. []) n ≡ 0
unfolding launches_of
none-launched zero = refl
none-launched (suc n) = rw (none-launched n) refl

pub none-live : (cfg : Config) (living : Living) → ((c : ContainerId) → kept living c ≡ None) → LivingStand cfg living opening_world
none-live cfg living none = record { alive = λ c. ap is_some (none c); machines = λ c m e. cc (none c, e) }

pub no-master : (cfg : Config) (masters : Masters) → ((k : ℕ) → master_of masters k ≡ None) → master_count masters ≡ 0 → MastersStand cfg masters opening_world
no-master cfg masters none count = record { count = count; alive = λ k. ap is_some (none k); machines = λ k m e. cc (none k, e) }

there-if : (b : Bool) (m : node.Node) → is_some (if b then Some m else None) ≡ b
there-if true m = refl
there-if false m = refl

one-of : (b : Bool) (m n : node.Node) → (if b then Some m else None) ≡ Some n → n ≡ m
one-of true m n e = cc
one-of false m n e = cc

pub nodes-begin : (cfg : Config) (nodes : Nodes) → ((n : ℕ) → node_of nodes n ≡ (if nat_lt n cfg.nodes then Some (record { number = n; seen = opening cfg.reduces }) else None)) → NodesStand cfg nodes opening_world
nodes-begin cfg nodes is = record {
  there = λ n. ap is_some (is n) ∙ there-if (nat_lt n cfg.nodes) _;
  machines = λ n m e. begun m n cfg.reduces (one-of (nat_lt n cfg.nodes) _ m (sym (is n) ∙ e));
}

pub stores-open : (s : names.State) (h : State) → s ≡ (names.call_of names.opening (master 1) (MkDirs staged)).1 → h ≡ record { segments = replicate 1000 (fresh 1); fence = 0 } → StoresStand s h opening_world
stores-open s h p q = subst (λ x. StoresStand x h opening_world) (sym p) (subst (λ x. StoresStand (names.call_of names.opening (master 1) (MkDirs staged)).1 x opening_world) (sym q) stores_go_on.opens)

-- the staging folder's making fails by nothing but memory
pub staging-fault : (s : names.State) (caller : Caller) (path : List (List ℕ)) (f : NameFault) → s ≡ names.opening → caller ≡ master 1 → path ≡ staged →
    f ≡ unwrap_or (names.refused s caller (MkDirs path)) fault.NoMemory → f ≡ fault.NoMemory
staging-fault s caller path f at by is e = e ∙ ap (λ why. unwrap_or why fault.NoMemory)
    (ap (λ x. names.refused x caller (MkDirs path)) at ∙ (ap (λ x. names.refused names.opening x (MkDirs path)) by ∙ (ap (λ x. names.refused names.opening (master 1) (MkDirs x)) is ∙ staging-allowed)))
