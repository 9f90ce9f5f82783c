-- A yes, back to what was recorded and seen: nothing was found of the whole, of any task, or of any name.
use Rattle.std.proofs.Common.{◌≡◌, ℕ, Bool, true, false, not, ◌==◌, List, [], ◌∷◌, ◌++◌, length, Option, Some, None, if◌then◌else◌, refl, ap, ◌∙◌, inl, inr, codes}
use Rattle.std.specs.List.{AllByRecursion, flat_map}
use Rattle.std.specs.Str.{bytes_eq}
use Rattle.std.proofs.lemmas.Bool.Decides.{Decides-eqb}
use Rattle.std.proofs.lemmas.Slice.Eq.{slice_eq-Decides}
use Rattle.mr_paths.specs.Layout.{marker_name}
use Rattle.mr_out_listing.specs.declared.entry.Kind.{Kind}
use Rattle.mr_out_listing.specs.declared.entry.Kind.TheVariants.{File, Directory, Closed, Other}
use Rattle.mr_out_check.specs.declared.verdict.Answer.TheVariants.{Yes}
use Rattle.mr_out_winners.specs.Tasks.{NameSeen, Part, look_at}
use Rattle.mr_out_winners.specs.Findings.{Found, answer_of, findings, found_at, is_file, is_other, length_trouble, look_trouble, name_found, task_found, task_trouble, trouble_if, whole_found}
use Rattle.mr_out_winners.specs.Laws.{Among, IsThere, YesMeansWhole}
use Rattle.mr_out_winners.specs.declared.name.Look.{Look}
use Rattle.mr_out_winners.specs.declared.task.Won.{Won}
use Rattle.mr_out_winners.specs.declared.trouble.Trouble.{Trouble}
use Rattle.mr_out_winners.specs.declared.trouble.Trouble.TheVariants.{Unmarked, OtherTasks, Over, NoFile, OtherLength}

-- ---- nothing was found

yes-none : (fs : List Found) → answer_of fs ≡ Yes → fs ≡ []
yes-none [] h = refl
yes-none (f ∷ fs) h = absurd (cc)

pub both-none : (xs ys : List Found) → xs ++ ys ≡ [] → (xs ≡ []) × (ys ≡ [])
both-none [] ys h = (refl, h)
both-none (x ∷ xs) ys h = absurd (cc)

none-at : (name : List ℕ) (t : Option Trouble) → found_at name t ≡ [] → t ≡ None
none-at name None h = refl
none-at name (Some t) h = absurd (cc)

none-if : (b : Bool) (t : Trouble) → trouble_if b t ≡ None → b ≡ false
none-if true t h = absurd (cc)
none-if false t h = refl

-- ---- a task

no-not : (b : Bool) → not b ≡ false → b ≡ true
no-not true h = refl
no-not false h = absurd (cc)

num-same : (m n : ℕ) → (m == n) ≡ true → m ≡ n
num-same m n h = (Decides-eqb m n).0 h

length-is : (o : Option ℕ) (len : ℕ) → length_trouble o len ≡ None → o ≡ Some len
length-is None len h = absurd (cc)
length-is (Some n) len h = ap (λ (m : ℕ). Some m) (num-same n len (no-not (n == len) (none-if (not (n == len)) OtherLength h)))

file-is : (k : Kind) (t : Option Trouble) → (if is_file k then t else Some NoFile) ≡ None → (k ≡ File) × (t ≡ None)
file-is File t h = (refl, h)
file-is Directory t h = absurd (cc)
file-is Closed t h = absurd (cc)
file-is Other t h = absurd (cc)

-- what was looked at stands among the names
same_bytes : (xs ys : List ℕ) → bytes_eq xs ys ≡ true → xs ≡ ys
same_bytes xs ys h = (slice_eq-Decides Decides-eqb xs ys _ refl).0 h

looked-among : (name : List ℕ) (ns : List NameSeen) (l : Look) → look_at name ns ≡ Some l → Among (record { name = name; look = l }) ns
looked-among name [] l h = absurd (cc)
looked-among name (n ∷ ns) l h = by (bytes_eq n.name name) refl h (looked-among name ns l)
  where
    one : n.name ≡ name → Some n.look ≡ Some l → n ≡ record { name = name; look = l }
    one a b = let c : n.look ≡ l = cc in (λ j. record { name = a j; look = c j })

    by : (b : Bool) → bytes_eq n.name name ≡ b → (if b then Some n.look else look_at name ns) ≡ Some l → (look_at name ns ≡ Some l → Among (record { name = name; look = l }) ns) → Among (record { name = name; look = l }) (n ∷ ns)
    by true e h rest = inl (one (same_bytes n.name name e) h)
    by false e h rest = inr (rest h)

there : (ns : List NameSeen) (p : Part) (w : Won) (l : Look) → p.won ≡ Some w → look_at p.name ns ≡ Some l → look_trouble w l ≡ None → IsThere ns p
there ns p w l won looked h =
    let parts = file-is l.kind (length_trouble w.len l.len) h in
    let len = length-is w.len l.len parts.1 in
    let look : l ≡ record { kind = File; len = l.len } = (λ j. record { kind = parts.0 j; len = l.len }) in
    record {
      len = l.len;
      won = won ∙ (λ j. Some (record { len = len j }));
      seen = looked-among p.name ns (record { kind = File; len = l.len }) (looked ∙ ap (λ (m : Look). Some m) look);
    }

task-there : (ns : List NameSeen) (p : Part) → task_found ns p ≡ [] → IsThere ns p
task-there ns p h = by p.won refl (look_at p.name ns) refl (none-at p.name (task_trouble p.won (look_at p.name ns)) h)
  where
    by : (o : Option Won) → p.won ≡ o → (k : Option Look) → look_at p.name ns ≡ k → task_trouble o k ≡ None → IsThere ns p
    by None e k f h = absurd (cc)
    by (Some w) e None f h = absurd (cc)
    by (Some w) e (Some l) f h = there ns p w l e f h

all-there : (ns : List NameSeen) (ps : List Part) → flat_map (task_found ns) ps ≡ [] → AllByRecursion (IsThere ns) ps
all-there ns [] h = tt
all-there ns (p ∷ ps) h =
    let parts = both-none (task_found ns p) (flat_map (task_found ns) ps) h in
    (task-there ns p parts.0, all-there ns ps parts.1)

-- ---- all of it

pub yes-whole : YesMeansWhole
yes-whole marked over told ps ns h =
    let none = yes-none (findings marked told over ps ns) h in
    let whole = both-none (whole_found marked told over (length ps)) (flat_map (task_found ns) ps ++ flat_map (name_found ps) ns) none in
    let rest = both-none (flat_map (task_found ns) ps) (flat_map (name_found ps) ns) whole.1 in
    let first = both-none (found_at marker_name (trouble_if (not marked) Unmarked)) (found_at (codes "_mrout") (trouble_if (is_other told (length ps)) OtherTasks) ++ found_at (codes "_mrout") (trouble_if over Over)) whole.0 in
    let second = both-none (found_at (codes "_mrout") (trouble_if (is_other told (length ps)) OtherTasks)) (found_at (codes "_mrout") (trouble_if over Over)) first.1 in
    record {
      marker = no-not marked (none-if (not marked) Unmarked (none-at marker_name (trouble_if (not marked) Unmarked) first.0));
      stands = none-if over Over (none-at (codes "_mrout") (trouble_if over Over) second.1);
      tasks = all-there ns ps rest.0;
    }
