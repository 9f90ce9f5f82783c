-- `==` of two settings holds exactly where they are equal.
use Rattle.std.proofs.Common.{◌≡◌, ℕ, List, nat_eq, refl, rules}
use Rattle.std.proofs.lemmas.Slice.Eq.{slice_eq-Decides}
use Rattle.std.specs.Bool.{Decides}
use Rattle.std.specs.Cmp.{unsigned_Decides}
use Rattle.std.specs.Cmp.Lexicographic.{pointwise}
use Rattle.mr_master_model.specs.declared.setting.Setting.{Setting}
use Rattle.mr_master_model.specs.contracts.setting.SettingPartialEq.TheImpl.{eq-value}

name-decides : (a b : List ℕ) → Decides (pointwise nat_eq a b) (a ≡ b)
name-decides a b = slice_eq-Decides unsigned_Decides a b _ refl

path-decides : (a b : List (List ℕ)) → Decides (pointwise (pointwise nat_eq) a b) (a ≡ b)
path-decides a b = slice_eq-Decides name-decides a b _ refl

pub setting_decides : (a b : Setting) → Decides (eq-value.it a b) (a ≡ b)
setting_decides = search (rules, path-decides)
