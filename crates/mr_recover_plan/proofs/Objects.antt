-- No member of a plan's object is a float.
use Rattle.std.proofs.Common.{◌≡◌, ◌||◌, ℕ, false, List, [], ◌∷◌, map, Option, Some, None, codes, refl, ap, ◌∙◌}
use Rattle.mr_ids.specs.Attempt.{Attempt}
use Rattle.mr_ids.specs.Text.{attempt_text, task_text}
use Rattle.mr_ids.specs.declared.id.TaskId.{TaskId}
use Rattle.mr_sim_json.specs.Members.{object_of, text}
use Rattle.serde_json.specs.View.{items_of, view}
use Rattle.serde_json.specs.Written.{has_float, items_have_float}
use Rattle.serde_json.specs.declared.value.Value.{Value}
use Rattle.mr_recover.specs.declared.plan.Recovery.{Recovery}
use Rattle.mr_recover.specs.declared.plan.Recovery.TheVariants.{Resume, Succeeded, Failed}
use Rattle.mr_recover.specs.declared.winner.TaskWinner.{TaskWinner}
use Rattle.mr_recover_plan.specs.Said.{length_member, plan_object, winner_object}

with_length : (t : TaskId) (a : Attempt) (bytes : Option ℕ) → has_float (object_of ((codes "task", text (task_text t)) ∷ (codes "winner", text (attempt_text a)) ∷ length_member bytes)) ≡ false
with_length t a None = refl
with_length t a (Some bytes) = refl

winner_is_plain : (w : TaskWinner) → has_float (winner_object w) ≡ false
winner_is_plain w = with_length w.task w.attempt w.bytes

winners_are_plain : (ws : List TaskWinner) → items_have_float (items_of (map winner_object ws)) ≡ false
winners_are_plain [] = refl
winners_are_plain (w ∷ ws) = ap (λ b. b || items_have_float (items_of (map winner_object ws))) (winner_is_plain w) ∙ winners_are_plain ws

plain : (plan : Recovery) → has_float (plan_object plan) ≡ false
plain (Resume winners) = ap (λ b. b || false) (winners_are_plain winners)
plain Succeeded = refl
plain Failed = refl

pub is_plain : (v : Value) (plan : Recovery) → view v ≡ plan_object plan → has_float (view v) ≡ false
is_plain v plan is = ap has_float is ∙ plain plan
