-- The store call of an event is what the definitions say.
use Rattle.std.proofs.Common.{◌≡◌, ℕ, sym, ◌∙◌, ap, ap₂, subst, Option, Some, Ok}
use Rattle.std.specs.Option.{option_map}
use Rattle.mr_container.specs.declared.reply.Reply.{Reply}
use Rattle.mr_master_model.specs.declared.store.StoreCall.{StoreCall}
use Rattle.mr_master_model.specs.declared.store.StoreAnswer.{StoreAnswer}
use Rattle.mr_world_model.specs.Ids.{ContainerId}
use Rattle.mr_world_model.specs.Packets.{Caller}
use Rattle.mr_world_model.specs.Stored.{heard_in}
use Rattle.mr_world_model.specs.World.{World, Weather, duty, op_of, caller_of}
use Rattle.mr_world_model.proofs.Stored.{stores_go_on}
use Rattle.mr_master_refinement.specs.Steps.{store_call}
use Rattle.mr_world_stores.specs.Calls.{answer_of}
use Rattle.mr_world_stores.specs.declared.container.ContainerCall as container
use Rattle.mr_world_state.specs.declared.asked.Asked.{Asked}
use Rattle.mr_world_state.specs.declared.asked.Asked.TheVariants.{Master, Container}
use Rattle.mr_world_state.specs.declared.parts.Parts.{Parts}
use Rattle.mr_world_state.specs.inner.Asking.{IsForeseen}
use Rattle.mr_world_state.specs.Asks.{by_container, by_master}
use Rattle.mr_world_state.specs.inner.Calling.{ForeseesCall}
use Rattle.mr_world_state.specs.Standing.{Standing}
use Rattle.mr_world_state.proofs.Asking.{asks}

-- ---- a master's

same-call : (a b : StoreCall) → Some a ≡ Some b → a ≡ b
same-call a b e = cc

pub by-master : (p : Parts) (app k : ℕ) (f : Weather) (c called : StoreCall) (a : StoreAnswer) → app ≡ k → called ≡ c → IsForeseen p k f c a → (w : World) → Standing p w → Some (Master app called a) ≡ by_master w k f (duty p.config w k)
by-master p app k f c called a is same i w s = let m = asks p k f c a i w s in
    let call : store_call m.call ≡ c = same-call _ c (sym (ap (option_map store_call) m.due) ∙ (i.due.due w s).due) in
    ap₂ (λ j x. Some (Master j x a)) is same ∙ (ap₂ (λ x y. Some (Master k x y)) (sym call) (i.told ∙ sym m.agrees.told) ∙ ap (by_master w k f) (sym m.due))

-- ---- a container's

pub by-container : (p : Parts) (c : ContainerId) (f : Weather) (call : container.ContainerCall) (r : Reply) → ForeseesCall p c f (Ok (Some call)) → r ≡ heard_in f (answer_of p.names call).0
    → (w : World) → Standing p w → Some (Container call.caller call.op r) ≡ by_container w c f (op_of p.config w c)
by-container p c f call r fore is w s = let g = fore w s in
    let heard = (stores_go_on.container_calls p.config w p.names p.history c f call.op s.stores g.1).heard in
    ap (λ x. Some (Container call.caller call.op x)) is
    ∙ (subst (λ (who : Caller). Some (Container who call.op (heard_in f (answer_of p.names (record { caller = who; op = call.op })).0)) ≡ by_container w c f (Some call.op)) g.2
    (ap (λ x. Some (Container (caller_of w c) call.op x)) (sym heard))
    ∙ ap (by_container w c f) (sym g.1))
