-- No member of an object of a call is a float.
use Rattle.std.proofs.Common.{◌≡◌, ℕ, List, ◌∷◌, Option, Some, None, Result, Ok, Err, OnOk, codes, false, refl, sym, ap, ◌∙◌}
use Rattle.serde_json.specs.Data.{Members, put}
use Rattle.serde_json.specs.View.{view}
use Rattle.serde_json.specs.Written.{has_float}
use Rattle.serde_json.specs.declared.value.Value.{Value}
use Rattle.mr_ids.specs.Attempt.{Attempt}
use Rattle.mr_names.specs.declared.op.Caller.{Caller}
use Rattle.mr_names.specs.declared.op.Op.{Op}
use Rattle.mr_sim_json.specs.Members.{count, object_of, text, with_all}
use Rattle.mr_call_words.specs.Words.{call_line}
use Rattle.mr_judge.specs.declared.line.Told.{Told}
use Rattle.mr_judge.specs.declared.line.Told.TheVariants.{Raised, Called}
use Rattle.mr_sim_commands.specs.declared.committer.command.ScriptCommand.{ScriptCommand}
use Rattle.mr_commit_trace.specs.Shown.{name_of, told_members, told_object, who_members}

plain_called : (c : ℕ × ScriptCommand) (app : ℕ) (call : Op) (answer : List ℕ) (who : Option Attempt)
    → has_float (object_of ((codes "line", count c.0) ∷ (codes "command", text (name_of c.1)) ∷ (codes "generation", count app) ∷ (codes "call", text (call_line call)) ∷ (codes "answer", text answer) ∷ who_members who)) ≡ false
plain_called c app call answer None = refl
plain_called c app call answer (Some a) = refl

plain : (c : ℕ × ScriptCommand) (told : Told) → has_float (told_object c told) ≡ false
plain c (Raised k) = refl
plain c (Called caller call answer) = plain_called c caller.app call answer caller.attempt

pub is_plain : (v : Value) (c : ℕ × ScriptCommand) (told : Told) → view v ≡ told_object c told → has_float (view v) ≡ false
is_plain v c told is = ap has_float is ∙ plain c told

-- the members of a call, put in turn
pub called : {E : Type 0} (told : Told) (caller : Caller) (call : Op) (answer : List ℕ) (m a b d n : Members) (r : Result (Unit {0}) E) → told ≡ Called caller call answer → a ≡ put (codes "generation") (count caller.app) m
    → b ≡ put (codes "call") (text (call_line call)) a → d ≡ put (codes "answer") (text answer) b → OnOk r (n ≡ with_all (who_members caller.attempt) d) → OnOk r (n ≡ with_all (told_members told) m)
called told caller call answer m a b d n (Ok x) is first second third last =
    last
    ∙ (ap (λ ms. with_all (who_members caller.attempt) ms) (third ∙ ap (λ ms. put (codes "answer") (text answer) ms) (second ∙ ap (λ ms. put (codes "call") (text (call_line call)) ms) first))
    ∙ ap (λ t. with_all (told_members t) m) (sym is))
called told caller call answer m a b d n (Err e) is first second third last = tt
