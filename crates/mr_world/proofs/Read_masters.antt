-- What is read of masters, of their history and of the bag is what the definitions say.
use Rattle.std.proofs.Common.{◌≡◌, ℕ, refl, sym, ◌∙◌, ap, Bool, true, List, Option, Some, None, if◌then◌else◌, is_some, length, arith}
use Rattle.std.specs.Option.{option_map}
use Rattle.mr_ids.specs.declared.id.TaskId.{TaskId}
use Rattle.mr_history.specs.Calls.{segment}
use Rattle.mr_history.specs.Recorded.{tail_width}
use Rattle.mr_history.proofs.Segments.{tail_len}
use Rattle.mr_world_state.specs.mr_master.specs.State as master
use Rattle.mr_master_model.specs.declared.phase.Phase.{Phase}
use Rattle.mr_master_model.specs.declared.phase.DutyName.{DutyName}
use Rattle.mr_master_model.specs.declared.setting.Setting.{Setting}
use Rattle.mr_master_model.specs.Answered.{name_of}
use Rattle.mr_master_model.specs.Duty as machine
use Rattle.mr_master_model.specs.Next.{seen}
use Rattle.mr_master_model.specs.Past as past
use Rattle.mr_master_model.specs.Readings as read
use Rattle.mr_world_model.specs.World.{World, duty, seen_by}
use Rattle.mr_world_model.specs.Wanted.{wanted}
use Rattle.mr_master_refinement.specs.Steps.{setting, steps}
use Rattle.mr_master_refinement.specs.Works.{phase_of, named}
use Rattle.mr_world_state.specs.declared.parts.Parts.{Parts}
use Rattle.mr_world_state.specs.Machines.{master_of}
use Rattle.mr_world.specs.Readings.{phase_in, wanted_in, due_in, unflushed_in}
use Rattle.mr_world_state.specs.Standing.{Standing}
use Rattle.mr_world_state.proofs.Mastering.{is-generation}
use Rattle.mr_world_state.proofs.Stepping.{agrees}

-- ---- who is alive

alive : (p : Parts) (w : World) (k : ℕ) (m : master.Master) → Standing p w → master_of p.masters k ≡ Some m → w.is_master k ≡ true
alive p w k m s at = sym (s.masters.alive k) ∙ ap is_some at

pub none-read : {A : Type 0} (p : Parts) (w : World) (k : ℕ) (o : Option A) → Standing p w → master_of p.masters k ≡ None → None ≡ (if w.is_master k then o else None)
none-read p w k o s at = ap (λ (b : Bool). if b then o else None) (ap is_some (sym at) ∙ s.masters.alive k)

is-read : {A : Type 0} (p : Parts) (w : World) (k : ℕ) (m : master.Master) (o : Option A) → Standing p w → master_of p.masters k ≡ Some m → o ≡ (if w.is_master k then o else None)
is-read p w k m o s at = sym (ap (λ (b : Bool). if b then o else None) (alive p w k m s at))

-- ---- a machine's answer, at its past in a world

there : {A : Type 0} (p : Parts) (w : World) (k : ℕ) (m : master.Master) (reading : Setting → List past.Step → A) (r : A) → Standing p w → master_of p.masters k ≡ Some m → master.Answers m reading r → r ≡ reading (setting p.config k) (steps (w.master_past k))
there p w k m reading r s at a = a (setting p.config k) (steps (w.master_past k)) (s.masters.machines k m at)

pub phase-is : (p : Parts) (w : World) (k : ℕ) (m : master.Master) (r : Phase) → Standing p w → master_of p.masters k ≡ Some m → master.Answers m (λ w h. past.phase_of (seen w h).work) r → Some r ≡ phase_in p.config w k
phase-is p w k m r s at a = ap Some (there p w k m _ r s at a ∙ (agrees k s.reached).point.phase) ∙ is-read p w k m (Some (phase_of (seen_by p.config w k).phase)) s at

pub wanted-is : (p : Parts) (w : World) (k : ℕ) (m : master.Master) (r : Option TaskId) → Standing p w → master_of p.masters k ≡ Some m → master.Answers m (λ w h. read.wanted w (seen w h)) r → r ≡ wanted_in p.config w k
wanted-is p w k m r s at a = there p w k m _ r s at a ∙ ((agrees k s.reached).wanted ∙ is-read p w k m (wanted p.config (seen_by p.config w k)) s at)

named-so : (d : Option machine.Duty) → name_of d ≡ option_map (λ (e : machine.Duty). e.name) d
named-so None = refl
named-so (Some d) = refl

pub due-is : (p : Parts) (w : World) (k : ℕ) (m : master.Master) (r : Option DutyName) → Standing p w → master_of p.masters k ≡ Some m → master.Answers m (λ w h. name_of (machine.duty w (seen w h))) r → r ≡ due_in p.config w k
due-is p w k m r s at a = there p w k m _ r s at a ∙ (named-so _ ∙ (ap (option_map (λ (d : machine.Duty). d.name)) (agrees k s.reached).point.duty
    ∙ is-read p w k m (option_map (λ (d : machine.Duty). d.name) (named (seen_by p.config w k).phase (duty p.config w k))) s at))

pub unflushed-is : (p : Parts) (w : World) (k n : ℕ) → Standing p w → is_some (master_of p.masters k) ≡ true → n ≡ length (segment p.history k).tail → Some n ≡ unflushed_in w k
unflushed-is p w k n s alive is =
    let of = is-generation p w k s alive in
    let tells = s.stores.tells.each k of.0 (let u = of.1 in omega (arith, u, s.stores.sound.count)) in
    ap Some (is ∙ (tail_len (segment p.history k) tells.sound ∙ ap tail_width tells.is)) ∙ sym (ap (λ (b : Bool). if b then Some (tail_width (w.history k)) else None) (sym (s.masters.alive k) ∙ alive))
