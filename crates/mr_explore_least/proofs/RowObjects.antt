-- No member of a row's object is a float, and the object is put together in two parts.
use Rattle.std.proofs.Common.{◌≡◌, ◌++◌, ℕ, false, map, refl, sym, ap, ◌∙◌}
use Rattle.mr_explore_ends.proofs.EndObjects.{plain_winners}
use Rattle.mr_explore_ends.specs.JsonLines.{read_members, winner_data}
use Rattle.mr_explore_ends.specs.Text.{Sequential}
use Rattle.mr_explore_least.specs.JsonLines.{row_object, runs_members, script_members}
use Rattle.mr_explore_least.specs.Table.{Arrival, Table}
use Rattle.mr_sim_json.proofs.Members.{neither, plain_object, with_append}
use Rattle.mr_sim_json.specs.Members.{object_of, with_all}
use Rattle.serde_json.specs.Data.{Data, Members, no_members, object}
use Rattle.serde_json.specs.View.{items_of, view}
use Rattle.serde_json.specs.Written.{has_float, items_have_float}
use Rattle.serde_json.specs.declared.value.Value.{Value}

plain_row : (s : Sequential) (r : Arrival) → has_float (row_object s r) ≡ false
plain_row s r =
    plain_object (read_members s r.end ++ script_members r) (neither (items_have_float (items_of (map winner_data r.end.winners))) false (plain_winners r.end.winners) refl)

pub row_is_plain : (v : Value) (s : Sequential) (r : Arrival) → view v ≡ row_object s r → has_float (view v) ≡ false
row_is_plain v s r is = ap has_float is ∙ plain_row s r

pub runs_are_plain : (v : Value) (s : Sequential) (faults : ℕ) (t : Table) → view v ≡ object_of (runs_members s faults t) → has_float (view v) ≡ false
runs_are_plain v s faults t is = ap has_float is ∙ plain_object (runs_members s faults t) refl

-- its members were put in two parts
pub row_is : (s : Sequential) (r : Arrival) (v : Data) (mid all : Members) → mid ≡ with_all (read_members s r.end) no_members → all ≡ with_all (script_members r) mid → v ≡ object all → v ≡ row_object s r
row_is s r v mid all first second is = is ∙ ap object (second ∙ (ap (with_all (script_members r)) first ∙ sym (with_append (read_members s r.end) (script_members r) no_members)))
