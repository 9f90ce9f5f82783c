-- The store call that an event would make, by whom, and what its caller would hear (our own profile).
use Rattle.std.specs.Prelude.{◌≡◌, ℕ, Option, Some, None, Result, Ok, Err}
use Rattle.mr_names.specs.declared.op.Op.{Op}
use Rattle.mr_world_model.specs.Ids.{ContainerId}
use Rattle.mr_world_model.specs.Packets.{Config, Store, Names}
use Rattle.mr_world_model.specs.World.{World, Event, Duty, ContainerStep, Weather, duty, op_of, caller_of, reply_of, reply_to, reply_under, as_heard}
use Rattle.mr_master_refinement.specs.Steps.{store_call, answer_of}
use Rattle.mr_world_state.specs.declared.asked.Asked.{Asked}
use Rattle.mr_world_state.specs.declared.asked.Asked.TheVariants.{Master, Container}
use Rattle.mr_world_state.specs.declared.fault.WorldFault.{WorldFault}
use Rattle.mr_world_state.specs.declared.fault.WorldFault.TheVariants as fault
use Rattle.mr_world_state.specs.declared.parts.Parts.{Parts}
use Rattle.mr_world_state.specs.Standing.{Standing, IsTaken}

-- of the duty of master k
abbrev pub by_master : World → ℕ → Weather → Option Store → Option Asked
by_master w k f None = None
by_master w k f (Some call) = Some (Master k (store_call call) (answer_of call (reply_under f (reply_of w k call))))

-- of the step of a container
abbrev pub by_container : World → ContainerId → Weather → Option Op → Option Asked
by_container w c f None = None
by_container w c f (Some op) = Some (Container (caller_of w c) op (as_heard (reply_under f (reply_to w (caller_of w c) (Names op)))))

abbrev pub asked_by : Config → World → Event → Option Asked
asked_by cfg w (Duty k f) = by_master w k f (duty cfg w k)
asked_by cfg w (ContainerStep c f) = by_container w c f (op_of cfg w c)
asked_by cfg w _ = None

-- a look at the store call of an event, in every world that the parts stand for and in which it would be taken
abbrev pub Looks : Parts → Event → Result (Option Asked) WorldFault → Type 0
Looks p e (Ok asked) = (w : World) → Standing p w → IsTaken p.config w e → asked ≡ asked_by p.config w e
Looks p e (Err f) = (w : World) → Standing p w → IsTaken p.config w e → f ≡ fault.NoMemory
