-- Objects that are put together in turn, and that none of their members is a float.
use Rattle.std.proofs.Common.{◌≡◌, ℕ, List, [], ◌∷◌, ◌++◌, Bool, true, false, Ordering, Less, Equal, Greater, nat_cmp, refl, sym, ap, ◌∙◌}
use Rattle.std.specs.Prelude.{◌||◌}
use Rattle.std.specs.Cmp.Lexicographic.{slice_cmp}
use Rattle.std.specs.Ordering.{match_ordering}
use Rattle.serde_json.specs.Data.{Data, Members, member, no_members, put}
use Rattle.serde_json.specs.Written.{has_float, members_have_float}
use Rattle.mr_sim_json.specs.Members.{Member, object_of, with_all}

-- members put in two parts
pub with_append : (a b : List Member) (ms : Members) → with_all (a ++ b) ms ≡ with_all b (with_all a ms)
with_append [] b ms = refl
with_append (m ∷ a) b ms = with_append a b (put m.0 m.1 ms)

-- ---- floats

pub neither : (a b : Bool) → a ≡ false → b ≡ false → (a || b) ≡ false
neither true b h g = h
neither false b h g = g

both : (a b : Bool) → (a || b) ≡ false → (a ≡ false) × (b ≡ false)
both true b h = (h, absurd (cc))
both false b h = (refl, h)

on_ordering : (o : Ordering) (a b c : Members) → members_have_float a ≡ false → members_have_float b ≡ false → members_have_float c ≡ false → members_have_float (match_ordering o a b c) ≡ false
on_ordering Less a b c x y z = x
on_ordering Equal a b c x y z = y
on_ordering Greater a b c x y z = z

plain_put : (k : List ℕ) (d : Data) (ms : Members) → has_float d ≡ false → members_have_float ms ≡ false → members_have_float (put k d ms) ≡ false
plain_put k d no_members h g = neither (has_float d) false h refl
plain_put k d (member l e ms) h g =
    let parts = both (has_float e) (members_have_float ms) g in
    on_ordering (slice_cmp nat_cmp k l) (member k d (member l e ms)) (member l d ms) (member l e (put k d ms))
    (neither (has_float d) (members_have_float (member l e ms)) h g)
    (neither (has_float d) (members_have_float ms) h parts.1)
    (neither (has_float e) (members_have_float (put k d ms)) parts.0 (plain_put k d ms h parts.1))

-- one of these members is a float
abbrev pub have_float : List Member → Bool
have_float [] = false
have_float (m ∷ more) = has_float m.1 || have_float more

pub plain_append : (a b : List Member) → have_float a ≡ false → have_float b ≡ false → have_float (a ++ b) ≡ false
plain_append [] b h g = g
plain_append (m ∷ a) b h g =
    let parts = both (has_float m.1) (have_float a) h in
    neither (has_float m.1) (have_float (a ++ b)) parts.0 (plain_append a b parts.1 g)

pub plain_with : (all : List Member) (ms : Members) → have_float all ≡ false → members_have_float ms ≡ false → members_have_float (with_all all ms) ≡ false
plain_with [] ms h g = g
plain_with (m ∷ all) ms h g =
    let parts = both (has_float m.1) (have_float all) h in
    plain_with all (put m.0 m.1 ms) parts.1 (plain_put m.0 m.1 ms parts.0 g)

pub plain_object : (all : List Member) → have_float all ≡ false → has_float (object_of all) ≡ false
plain_object all h = plain_with all no_members h refl
