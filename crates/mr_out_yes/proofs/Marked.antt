-- Beside a marker there is nothing to find: each task has a winner, whose file is listed as it was when the marker was seen, and no other part is visible.
use Rattle.std.proofs.Common.{◌≡◌, ◌≢◌, ◌<◌, ◌⊎◌, inl, inr, ℕ, zero, suc, Bool, true, false, not, cond, ◌||◌, ◌==◌, List, [], ◌∷◌, ◌++◌, length, Option, Some, None, codes, refl, sym, ap, ◌∙◌, arith}
use Rattle.std.specs.List.{AllByRecursion, flat_map, list_any}
use Rattle.std.specs.Str.{bytes_eq}
use Rattle.std.proofs.lemmas.List.{append_cancel_right, length-append}
use Rattle.std.proofs.lemmas.Bool.Decides.{Decides-eqb}
use Rattle.std.proofs.lemmas.Slice.Eq.{slice_eq-Decides}
use Rattle.mr_ids.specs.Attempt.{Attempt}
use Rattle.mr_ids.specs.declared.id.JobId.{JobId}
use Rattle.mr_paths.specs.Layout.{is_hidden, marker_name, part}
use Rattle.mr_paths.proofs.Apart.{part_injective}
use Rattle.mr_history.specs.declared.record.Record.{Record}
use Rattle.mr_history.specs.Winner.{winner_in}
use Rattle.mr_out_listing.specs.declared.entry.Kind.TheVariants.{File}
use Rattle.mr_out_check.specs.declared.verdict.Answer.TheVariants.{Yes}
use Rattle.mr_out_disk.specs.declared.place.Place.TheVariants as place
use Rattle.mr_out_disk.specs.Disk.{seen}
use Rattle.mr_out_steps.specs.Standing.{task_of}
use Rattle.mr_out_model.specs.Worlds.{Setting, World}
use Rattle.mr_out_model.specs.Runs.{Move, after, IsRun}
use Rattle.mr_out_model.specs.Promises.{IsWinners, Promises}
use Rattle.mr_out_model.proofs.Keeping.{keeps}
use Rattle.mr_out_winners.specs.Tasks.{NameSeen, Part, length_of, look_at, part_at, part_name, parts, won_by}
use Rattle.mr_out_winners.specs.Findings.{Found, answer_of, found_at, has_part, is_other, name_found, task_found, task_trouble, trouble_if, whole_found}
use Rattle.mr_out_winners.specs.declared.name.Look.{Look}
use Rattle.mr_out_winners.specs.declared.task.Measured.{Measured}
use Rattle.mr_out_winners.specs.declared.task.Won.{Won}
use Rattle.mr_out_winners.specs.declared.trouble.Trouble.TheVariants.{Unmarked, OtherTasks, Over, OtherLength, Foreign}
use Rattle.mr_out_yes.specs.Readers.{IsSeen, MarkedIsYes, Mentions, look_of, world}
use Rattle.mr_out_yes.proofs.Reading.{read-front, stays}

-- ---- names

true-is-not-false : {b : Bool} → b ≡ true → b ≡ false → ⊥
true-is-not-false h g = cc

same_bytes : (xs ys : List ℕ) → bytes_eq xs ys ≡ true → xs ≡ ys
same_bytes xs ys h = (slice_eq-Decides Decides-eqb xs ys _ refl).0 h

bytes_same : (xs ys : List ℕ) → xs ≡ ys → bytes_eq xs ys ≡ true
bytes_same xs ys h = (slice_eq-Decides Decides-eqb xs ys _ refl).1 h

shown : (n : ℕ) (suffix : List ℕ) → is_hidden (part_name n suffix) ≡ false
unfolding part
shown n suffix = refl

one-part : (m n : ℕ) (suffix : List ℕ) → part_name m suffix ≡ part_name n suffix → m ≡ n
one-part m n suffix e = part_injective m n (append_cancel_right (part m) (part n) suffix e)

-- ---- what is looked at

-- an equation that the name's own part decides
abbrev LooksSo : List ℕ → Look → NameSeen → Type 0
LooksSo name l x = x.name ≡ name → x.look ≡ l

look-is : (name : List ℕ) (l : Look) (ns : List NameSeen) → AllByRecursion (LooksSo name l) ns → Mentions name ns → look_at name ns ≡ Some l
look-is name l [] all m = absurd m
look-is name l (x ∷ xs) all m = by (bytes_eq x.name name) refl (look-is name l xs all.1) m
  where
    by : (b : Bool) → bytes_eq x.name name ≡ b → (Mentions name xs → look_at name xs ≡ Some l) → (x.name ≡ name) ⊎ Mentions name xs → cond b (Some x.look) (look_at name xs) ≡ Some l
    by true e rest m = ap (λ (k : Look). Some k) (all.0 (same_bytes x.name name e))
    by false e rest (inl same) = absurd (let yes = bytes_same x.name name same in cc)
    by false e rest (inr later) = rest later

all-map : (P Q : NameSeen → Type 0) (ns : List NameSeen) → ((x : NameSeen) → P x → Q x) → AllByRecursion P ns → AllByRecursion Q ns
all-map P Q [] f all = tt
all-map P Q (x ∷ xs) f all = (f x all.0, all-map P Q xs f all.1)

some-one : (x : Option ℕ) (f g : ℕ) → x ≡ Some f → x ≡ Some g → f ≡ g
some-one x f g e d = let h : Some f ≡ Some g = sym e ∙ d in cc

-- a part file that is listed is what it was when the marker was seen
looks-so : (s : Setting) (size : ℕ → ℕ) (suffix : List ℕ) (w : World) (n f : ℕ) → ((more : List Move) → IsRun s w more → Promises s w (after s w more)) → seen w.disk place.Marker ≢ None → seen w.disk (place.Part n) ≡ Some f → (x : NameSeen) → IsSeen s size suffix w x → LooksSo (part_name n suffix) (look_of size (w.disk.bytes f)) x
looks-so s size suffix w n f law marked there x (inl hidden) same = absurd (let no-way : true ≡ false = sym hidden ∙ (ap is_hidden same ∙ shown n suffix) in cc)
looks-so s size suffix w n f law marked there x (inr p) same =
    let v = after s w p.more in
    let q = law p.more p.run in
    let number : p.number ≡ n = one-part p.number n suffix (sym p.name ∙ same) in
    let stood : seen w.disk (place.Part p.number) ≡ Some p.file = sym (q.parts_stay marked p.number) ∙ p.stood in
    let file : p.file ≡ f = some-one (seen w.disk (place.Part p.number)) p.file f stood (ap (λ m. seen w.disk (place.Part m)) number ∙ there) in
    p.look ∙ ap (look_of size) (q.bytes_stay marked p.number p.file stood ∙ ap w.disk.bytes file)

-- ---- a task

none-found : (m : ℕ) → trouble_if (not (m == m)) OtherLength ≡ None
none-found m = ap (λ (b : Bool). trouble_if (not b) OtherLength) ((Decides-eqb m m).1 refl)

task-fine : (o : Option Won) (l : Option Look) (m : ℕ) → o ≡ Some (record { len = Some m }) → l ≡ Some (record { kind = File; len = m }) → task_trouble o l ≡ None
task-fine o l m won look = ap (λ (p : Option Won). task_trouble p l) won ∙ (ap (λ (k : Option Look). task_trouble (Some (record { len = Some m })) k) look ∙ none-found m)

task-none : (s : Setting) (size : ℕ → ℕ) (suffix : List ℕ) (w : World) (rs : List Record) (ms : List Measured) (ns : List NameSeen) (n f : ℕ) (p : IsWinners s w n f) → winner_in rs (task_of s.job n) ≡ Some p.winner → length_of p.winner ms ≡ Some (size (w.disk.bytes f)) → look_at (part_name n suffix) ns ≡ Some (look_of size (w.disk.bytes f)) → task_found ns (part_at s.job suffix rs ms n) ≡ []
task-none s size suffix w rs ms ns n f p told noted look =
    let won : won_by (winner_in rs (task_of s.job n)) ms ≡ Some (record { len = Some (size (w.disk.bytes f)) }) = ap (λ (a : Option Attempt). won_by a ms) told ∙ ap (λ (k : Option ℕ). Some (record { len = k })) noted in
    ap (found_at (part_name n suffix)) (task-fine (won_by (winner_in rs (task_of s.job n)) ms) (look_at (part_name n suffix) ns) (size (w.disk.bytes f)) won look)

-- ---- all tasks

flat-one : (f : Part → List Found) (xs : List Part) (y : Part) → flat_map f xs ≡ [] → f y ≡ [] → flat_map f (xs ++ y ∷ []) ≡ []
flat-one f [] y h g = ap (λ (zs : List Found). zs ++ []) g
flat-one f (x ∷ xs) y h g = by (f x) (flat_map f xs) h (flat-one f xs y) g
  where
    by : (zs us : List Found) → zs ++ us ≡ [] → (us ≡ [] → f y ≡ [] → flat_map f (xs ++ y ∷ []) ≡ []) → f y ≡ [] → zs ++ flat_map f (xs ++ y ∷ []) ≡ []
    by [] us h rest g = rest h g
    by (z ∷ zs) us h rest g = absurd (cc)

pub all-none : (job : JobId) (suffix : List ℕ) (rs : List Record) (ms : List Measured) (f : Part → List Found) (n : ℕ) → ((k : ℕ) → k < n → f (part_at job suffix rs ms k) ≡ []) → flat_map f (parts job suffix rs ms n) ≡ []
unfolding parts
all-none job suffix rs ms f zero each = refl
all-none job suffix rs ms f (suc n) each = flat-one f (parts job suffix rs ms n) (part_at job suffix rs ms n) (all-none job suffix rs ms f n (λ k l. each k (omega (arith, l)))) (each n (omega arith))

pub count-is : (job : JobId) (suffix : List ℕ) (rs : List Record) (ms : List Measured) (n : ℕ) → length (parts job suffix rs ms n) ≡ n
unfolding parts
count-is job suffix rs ms zero = refl
count-is job suffix rs ms (suc n) = let e = count-is job suffix rs ms n in let l = length-append (parts job suffix rs ms n) (part_at job suffix rs ms n ∷ []) in omega (arith, e, l)

-- ---- names

any-one : (f : Part → Bool) (xs : List Part) (y : Part) → list_any f (xs ++ y ∷ []) ≡ (list_any f xs || f y)
any-one f [] y = by (f y)
  where
    by : (b : Bool) → (b || false) ≡ b
    by true = refl
    by false = refl
any-one f (x ∷ xs) y = by (f x) (any-one f xs y)
  where
    by : (b : Bool) → list_any f (xs ++ y ∷ []) ≡ (list_any f xs || f y) → (b || list_any f (xs ++ y ∷ [])) ≡ ((b || list_any f xs) || f y)
    by true e = refl
    by false e = e

or-left : (a b : Bool) → a ≡ true → (a || b) ≡ true
or-left true b h = refl
or-left false b h = absurd (cc)

or-right : (a b : Bool) → b ≡ true → (a || b) ≡ true
or-right true b h = refl
or-right false b h = h

below : (k n : ℕ) → k < suc n → (k == n) ≡ false → k < n
below k n l d =
    let other : k ≢ n = λ same. true-is-not-false ((Decides-eqb k n).1 same) d in
    omega (arith, l)

abbrev is_named : List ℕ → Part → Bool
is_named name p = bytes_eq p.name name

pub part-stands : (job : JobId) (suffix : List ℕ) (rs : List Record) (ms : List Measured) (name : List ℕ) (n k : ℕ) → k < n → part_name k suffix ≡ name → has_part name (parts job suffix rs ms n) ≡ true
unfolding parts
part-stands job suffix rs ms name zero k l e = absurd (omega (arith, l))
part-stands job suffix rs ms name (suc n) k l e = any-one (is_named name) (parts job suffix rs ms n) (part_at job suffix rs ms n) ∙ by (k == n) refl (part-stands job suffix rs ms name n k)
  where
    by : (b : Bool) → (k == n) ≡ b → (k < n → part_name k suffix ≡ name → has_part name (parts job suffix rs ms n) ≡ true) → (list_any (is_named name) (parts job suffix rs ms n) || bytes_eq (part_name n suffix) name) ≡ true
    by true d rest = or-right (list_any (is_named name) (parts job suffix rs ms n)) (bytes_eq (part_name n suffix) name) (bytes_same (part_name n suffix) name (ap (λ m. part_name m suffix) (sym ((Decides-eqb k n).0 d)) ∙ e))
    by false d rest = or-left (list_any (is_named name) (parts job suffix rs ms n)) (bytes_eq (part_name n suffix) name) (rest (below k n l d) e)

-- a name that is listed is no foreign one
name-fine : (s : Setting) (size : ℕ → ℕ) (suffix : List ℕ) (w : World) (rs : List Record) (ms : List Measured) → ((more : List Move) → IsRun s w more → Promises s w (after s w more)) → seen w.disk place.Marker ≢ None → (x : NameSeen) → IsSeen s size suffix w x → name_found (parts s.job suffix rs ms s.tasks) x ≡ []
name-fine s size suffix w rs ms law marked x (inl hidden) = ap (λ (b : Bool). found_at x.name (trouble_if (cond b false (not (has_part x.name (parts s.job suffix rs ms s.tasks)))) Foreign)) hidden
name-fine s size suffix w rs ms law marked x (inr p) =
    let q = law p.more p.run in
    let stood : seen w.disk (place.Part p.number) ≡ Some p.file = sym (q.parts_stay marked p.number) ∙ p.stood in
    let within = (q.visible p.number p.file stood).number in
    let stands = part-stands s.job suffix rs ms x.name s.tasks p.number within (sym p.name) in
    ap (λ (b : Bool). found_at x.name (trouble_if (cond b false (not (has_part x.name (parts s.job suffix rs ms s.tasks)))) Foreign)) (ap is_hidden p.name ∙ shown p.number suffix)
    ∙ ap (λ (b : Bool). found_at x.name (trouble_if (not b) Foreign)) stands

names-fine : (f : NameSeen → List Found) (ns : List NameSeen) → AllByRecursion (λ x. f x ≡ []) ns → flat_map f ns ≡ []
names-fine f [] all = refl
names-fine f (x ∷ xs) all = ap (λ (zs : List Found). zs ++ flat_map f xs) all.0 ∙ names-fine f xs all.1

told-fine : (told : Option ℕ) (n : ℕ) → (told ≡ None) ⊎ (told ≡ Some n) → is_other told n ≡ false
told-fine told n (inl none) = ap (λ (o : Option ℕ). is_other o n) none
told-fine told n (inr same) = ap (λ (o : Option ℕ). is_other o n) same ∙ ap not ((Decides-eqb n n).1 refl)

no-other : (told : Option ℕ) (m n : ℕ) → m ≡ n → is_other told n ≡ false → is_other told m ≡ false
no-other told m n same h = ap (is_other told) same ∙ h

nothing : (xs ys zs : List Found) → xs ≡ [] → ys ≡ [] → zs ≡ [] → answer_of (xs ++ (ys ++ zs)) ≡ Yes
nothing xs ys zs a b c = ap (λ (us : List Found). answer_of (us ++ (ys ++ zs))) a ∙ (ap (λ (us : List Found). answer_of (us ++ zs)) b ∙ ap answer_of c)

pub marked-is-yes : MarkedIsYes
marked-is-yes s bytes size moves between told suffix rs ms ns run run-between marked r noted listing same =
    let w = world s bytes moves in
    let law : (more : List Move) → IsRun s w more → Promises s w (after s w more) = λ more q. keeps s bytes moves more run q in
    let p = law between run-between in
    let front = read-front w (after s w between) rs p.records r in
    let other = no-other told (length (parts s.job suffix rs ms s.tasks)) s.tasks (count-is s.job suffix rs ms s.tasks) (told-fine told s.tasks same) in
    let whole = ap (λ (b : Bool). found_at marker_name (trouble_if (not true) Unmarked) ++ (found_at (codes "_mrout") (trouble_if b OtherTasks) ++ found_at (codes "_mrout") (trouble_if false Over))) other in
    let task : (k : ℕ) → k < s.tasks → task_found ns (part_at s.job suffix rs ms k) ≡ [] = λ k l.
    let there = p.marked marked k l in
    let won = p.visible k there.0 there.1 in
    let look = look-is (part_name k suffix) (look_of size (w.disk.bytes there.0)) ns (all-map (IsSeen s size suffix w) (LooksSo (part_name k suffix) (look_of size (w.disk.bytes there.0))) ns (looks-so s size suffix w k there.0 law marked there.1) listing.each) (listing.whole k l) in
    task-none s size suffix w rs ms ns k there.0 won (stays w.disk.synced rs (task_of s.job k) won.winner front won.recorded) (noted k there.0 won) look in
    nothing (whole_found true told false (length (parts s.job suffix rs ms s.tasks))) (flat_map (task_found ns) (parts s.job suffix rs ms s.tasks)) (flat_map (name_found (parts s.job suffix rs ms s.tasks)) ns)
    whole
    (all-none s.job suffix rs ms (task_found ns) s.tasks task)
    (names-fine (name_found (parts s.job suffix rs ms s.tasks)) ns (all-map (IsSeen s size suffix w) (λ x. name_found (parts s.job suffix rs ms s.tasks) x ≡ []) ns (name-fine s size suffix w rs ms law marked) listing.each))
