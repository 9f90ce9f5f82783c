-- What a call prepared is handed on as it is.
use Rattle.std.proofs.Common.{◌≡◌, List, Result, Ok, Err, IfOk, true}
use Rattle.std.specs.Option.{is_some}
use Rattle.mr_packet.specs.declared.packet.Envelope.{Envelope}
use Rattle.mr_master_model.specs.declared.setting.Setting.{Setting}
use Rattle.mr_master_model.specs.declared.store.StoreAnswer.{StoreAnswer}
use Rattle.mr_master_model.specs.Duty.{duty}
use Rattle.mr_master_model.specs.Past.{Answered}
use Rattle.mr_master_model.specs.Readings.{Seen}
use Rattle.mr_master_state.specs.Prepared.{Prepared, Plans, PlansFor, PlansDue}
use Rattle.mr_master_state.specs.State.{Master, Keeps}
use Rattle.mr_master_state.proofs.Made.{plans-as, due-plan}

-- if it prepared something, that is the same in other words
pub handed-as : {m : Master} {E : Type 0} {f g : Setting → Seen → List Envelope} {p q : Setting → Seen → Seen} (r : Result Prepared E) → ((w : Setting) (s : Seen) → Keeps m w s → f w s ≡ g w s) → ((w : Setting) (s : Seen) → Keeps m w s → p w s ≡ q w s)
    → IfOk r (λ x. Plans m x f p) → IfOk r (λ x. Plans m x g q)
handed-as (Ok x) sends after h = plans-as sends after h
handed-as (Err e) sends after h = h

-- a call is due
pub due-handed : {m : Master} {E : Type 0} (r : Result Prepared E) (a : StoreAnswer) → ((w : Setting) (s : Seen) → Keeps m w s → is_some (duty w s) ≡ true)
    → IfOk r (λ x. PlansDue m a x) → IfOk r (λ x. PlansFor m (Answered a) x)
due-handed (Ok x) a due h = due-plan a due h
due-handed (Err e) a due h = h
