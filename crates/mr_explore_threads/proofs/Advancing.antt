-- Parts that were counted apart are taken in their order, and the runs behind them are made.
use Rattle.std.proofs.Common.{◌≡◌, ◌<◌, ◌≤◌, ◌+◌, ◌-◌, ◌^◌, ◌⊎◌, ℕ, suc, min, Bool, true, false, not, List, [], ◌∷◌, ◌++◌, drop, drop-cons, get_or, map, length, length-append, append_assoc, append-nil, slice_get, Option, Some, None, Result, Ok, Err, IfSome, inl, inr, refl, sym, ap, subst, ◌∙◌, arith}
use Rattle.std.specs.List.{flat_map}
use Rattle.std.proofs.lemmas.Option.{slice_get-get_or}
use Rattle.mr_sim_commands.specs.declared.fault.SimFault.{SimFault}
use Rattle.mr_sim_commands.specs.declared.fault.SimFault.TheVariants as fault
use Rattle.mr_script.specs.declared.expectation.Expectation.{Expectation}
use Rattle.mr_explore_search.specs.Runs.{Found, PassesLimit}
use Rattle.mr_explore_search.specs.Taking.{no_more}
use Rattle.mr_explore_search.specs.Parting.{Parted, whole}
use Rattle.mr_explore_ends.specs.Table.{Came, ToEnd, ToLimit, Table, all_noted, empty, noted, table_of}
use Rattle.mr_explore_threads.specs.inner.Counting.{Advances, IsCounted, IsCountedAt}
use Rattle.mr_explore_threads.specs.declared.counting.Counted.{Counted}
use Rattle.mr_explore.specs.Exploring.{AreEnough, Fails, IsFullBehind, Made, MadeRun, Makes, NoneMeets, Remaining, as_found, came}
use Rattle.mr_explore.specs.Runs.{Exploring}
use Rattle.mr_explore_threads.specs.inner.Counts.{CountsAll, remaining}
use Rattle.mr_explore.proofs.Making.{Ran, behind, mapped, none_behind, noted_behind}

-- ---- all that is left of a walk

none_there : {A : Type 0} (xs : List A) → no_more xs ≡ true → xs ≡ []
none_there [] e = refl
none_there (x ∷ xs) e = absurd (cc)

pub counts_all : (n most : ℕ) (goal : Option (List Expectation)) (old new : Remaining) → Ran n goal old new → n ≤ most → no_more new.left ≡ true → CountsAll most goal old new
counts_all n most goal old new r few done =
    let first = r.count in record {
      made = r.made;
      are = r.are ∙ (ap (λ xs. map as_found r.made ++ xs) (none_there new.left done) ∙ append-nil (map as_found r.made));
      none = r.none;
      few = omega (arith, few, first);
      table = r.table;
    }

pub counted : (most : ℕ) (goal : Option (List Expectation)) (left after : List (Found Exploring)) (start table : Table) → start ≡ empty → CountsAll most goal (remaining left start) (remaining after table) → IsCounted most goal left table
counted most goal left after start table none c = record { made = c.made; are = c.are; none = c.none; few = c.few; is = c.table ∙ ap (all_noted (map came c.made)) none }

-- the part at a place was counted
pub part_counted : (most : ℕ) (goal : Option (List Expectation)) (parts : Parted Exploring) (place : ℕ) (walk : List (Found Exploring)) (table : Option Table) (r : Option Counted) → Some walk ≡ slice_get parts.parts place → IfSome table (IsCounted most goal walk)
    → IfSome r (λ c. (c.place ≡ place) × (Some c.table ≡ table)) → IfSome r (IsCountedAt most goal parts)
part_counted most goal parts place walk table None is h k = tt
part_counted most goal parts place walk table (Some c) is h k =
    let there : IsCounted most goal walk c.table = subst (λ t. IfSome t (IsCounted most goal walk)) (sym k.1) h in
    subst (λ o. IfSome o (λ left. IsCounted most goal left c.table)) (is ∙ ap (slice_get parts.parts) (sym k.0)) there

-- ---- how many runs a table has

one_more : (n m : ℕ) → n + 1 ≤ m → min (n + 1) m ≡ n + 1
one_more n m few = omega (arith, few)

noted_runs : (c : Came) (t : Table) → (noted c t).runs ≡ min (t.runs + 1) (2 ^ 64 - 1)
noted_runs (ToEnd cut r) t = refl
noted_runs ToLimit t = refl

pub runs_after : (cs : List Came) (t : Table) → t.runs + length cs ≤ 2 ^ 64 - 1 → (all_noted cs t).runs ≡ t.runs + length cs
runs_after [] t few = omega arith
runs_after (c ∷ cs) t few =
    let n : (noted c t).runs ≡ t.runs + 1 = noted_runs c t ∙ one_more t.runs (2 ^ 64 - 1) (omega (arith, few)) in
    let rest = runs_after cs (noted c t) (omega (arith, few, n)) in
    omega (arith, rest, n)

length-map : {A B : Type 0} (f : A → B) (xs : List A) → length (map f xs) ≡ length xs
length-map f [] = refl
length-map f (x ∷ xs) = ap suc (length-map f xs)

-- ---- a part is taken

pub none_yet : (most : ℕ) (goal : Option (List Expectation)) (x : Remaining) → Advances most goal x x
none_yet most goal x = record { made = []; are = refl; none = refl; few = inl refl; faults = refl; table = refl }

-- the first part, in front of what is left
pub first_part : (ps : List (List (Found Exploring))) (x rest : List (Found Exploring)) → whole (record { parts = x ∷ ps; rest = rest }) ≡ x ++ whole (record { parts = ps; rest = rest })
first_part ps x rest = append_assoc x (flat_map (λ runs. runs) ps) rest

-- how many runs were made so far
pub made_so_far : (most : ℕ) (goal : Option (List Expectation)) (old new : Remaining) (a : Advances most goal old new) → most ≤ 2 ^ 64 - 1 → new.table.runs ≡ old.table.runs + length a.made
made_so_far most goal old new a few = by a.few where
  by : (a.made ≡ []) ⊎ (old.table.runs + length a.made ≤ most) → new.table.runs ≡ old.table.runs + length a.made
  by (inl none) =
      let nothing : length a.made ≡ 0 = ap length none in
      let same : new.table.runs ≡ old.table.runs = ap (λ (t : Table). t.runs) a.table ∙ ap (λ ms. (all_noted (map came ms) old.table).runs) none in
      omega (arith, nothing, same)
  by (inr some) =
      let long = length-map came a.made in
      let runs = runs_after (map came a.made) old.table (omega (arith, some, few, long)) in
      let same : new.table.runs ≡ (all_noted (map came a.made) old.table).runs = ap (λ (t : Table). t.runs) a.table in
      omega (arith, long, runs, same)

pub part_taken : (most limit : ℕ) (goal : Option (List Expectation)) (old mid new : Remaining) (x : List (Found Exploring)) (part : Table) → most ≤ 2 ^ 64 - 1 → limit ≤ most → Advances most goal old mid → mid.left ≡ x ++ new.left → IsCounted limit goal x part
    → mid.table.runs + part.runs ≤ most → new.faults ≡ mid.faults → ((cs : List Came) → part ≡ table_of cs → new.table ≡ all_noted cs mid.table) → Advances most goal old new
part_taken most limit goal old mid new x part small less a left c few faults joined =
    let sofar = made_so_far most goal old mid a small in
    let long = length-map came c.made in
    let short = c.few in
    let own : part.runs ≡ (table_of (map came c.made)).runs = ap (λ (t : Table). t.runs) c.is in
    let all = runs_after (map came c.made) empty (omega (arith, short, less, small, long)) in
    let both = length-append a.made c.made in record {
      made = a.made ++ c.made;
      are = behind a.made c.made old.left mid.left new.left a.are (left ∙ ap (λ xs. xs ++ new.left) c.are);
      none = none_behind goal a.made c.made a.none c.none;
      few = inr (omega (arith, few, sofar, long, own, all, both));
      faults = faults ∙ a.faults;
      table = joined (map came c.made) c.is ∙ (ap (all_noted (map came c.made)) a.table ∙ (sym (noted_behind (map came a.made) (map came c.made) old.table) ∙ ap (λ cs. all_noted cs old.table) (sym (mapped came a.made c.made))));
    }

-- the first part was taken
pub first_taken : (most limit : ℕ) (goal : Option (List Expectation)) (old : Remaining) (parts others_left : Parted Exploring) (t u part : Table) (first : List (Found Exploring)) (others : List (List (Found Exploring))) → most ≤ 2 ^ 64 - 1 → limit ≤ most → parts.parts ≡ first ∷ others → IsCounted limit goal first part
    → Advances most goal old (remaining (whole parts) t) → t.runs + part.runs ≤ most → others_left ≡ record parts { parts = drop 1 parts.parts } → ((cs : List Came) → part ≡ table_of cs → u ≡ all_noted cs t) → Advances most goal old (remaining (whole others_left) u)
first_taken most limit goal old parts others_left t u part first others small less is c a few gone joined =
    part_taken most limit goal old (remaining (whole parts) t) (remaining (whole others_left) u) first part small less a
    (ap (λ ps. whole (record { parts = ps; rest = parts.rest })) is
    ∙ (first_part others first parts.rest
    ∙ (ap (λ ps. first ++ whole (record { parts = ps; rest = parts.rest })) (sym (ap (drop 1) is))
    ∙ sym (ap (λ (p : Parted Exploring). first ++ whole p) gone))))
    c few refl joined

-- the part at this place comes first of those that are left
pub next_first : (ps : List (List (Found Exploring))) (k : ℕ) → k < length ps → drop k ps ≡ get_or ps k [] ∷ drop (k + 1) ps
next_first ps k few = drop-cons ps k [] few ∙ ap (λ n. get_or ps k [] ∷ drop n ps) (let e : suc k ≡ k + 1 = omega arith in e)

-- it was counted
pub next_counted : (limit : ℕ) (goal : Option (List Expectation)) (parts : Parted Exploring) (k : ℕ) (table : Table) → k < length parts.parts → IfSome (slice_get parts.parts k) (λ left. IsCounted limit goal left table) → IsCounted limit goal (get_or parts.parts k []) table
next_counted limit goal parts k table few h = subst (λ o. IfSome o (λ left. IsCounted limit goal left table)) (slice_get-get_or parts.parts k [] few) h

-- ---- the runs behind those that were made so far

pub advances_on : (most : ℕ) (goal : Option (List Expectation)) (old mid new : Remaining) → most ≤ 2 ^ 64 - 1 → Advances most goal old mid → Advances most goal mid new → Advances most goal old new
advances_on most goal old mid new small a b = record {
  made = a.made ++ b.made;
  are = behind a.made b.made old.left mid.left new.left a.are b.are;
  none = none_behind goal a.made b.made a.none b.none;
  few = by b.few;
  faults = b.faults ∙ a.faults;
  table = b.table ∙ (ap (all_noted (map came b.made)) a.table ∙ (sym (noted_behind (map came a.made) (map came b.made) old.table) ∙ ap (λ cs. all_noted cs old.table) (sym (mapped came a.made b.made))));
} where
  by : (b.made ≡ []) ⊎ (mid.table.runs + length b.made ≤ most) → (a.made ++ b.made ≡ []) ⊎ (old.table.runs + length (a.made ++ b.made) ≤ most)
  by (inl none) = subst (λ ms. (ms ≡ []) ⊎ (old.table.runs + length ms ≤ most)) (sym (ap (λ ms. a.made ++ ms) none ∙ append-nil a.made)) a.few
  by (inr some) =
      let sofar = made_so_far most goal old mid a small in
      let both = length-append a.made b.made in
      inr (omega (arith, some, sofar, both))

enough : (most : ℕ) (seconds : Option ℕ) (goal : Option (List Expectation)) (before made : List MadeRun) (rest : List (Found Exploring)) (n : ℕ) → n ≡ length before → n ≤ most → NoneMeets goal before → AreEnough (most - n) seconds goal made rest → AreEnough most seconds goal (before ++ made) rest
enough most seconds goal before made rest n is few none (short, inl last) =
    let both = length-append before made in (
      omega (arith, short, both, is, few),
      inl (record { before = before ++ last.before; last = last.last; are = ap (λ ms. before ++ ms) last.are ∙ sym (append_assoc before last.before (last.last ∷ [])); none = none_behind goal before last.before none last.none; meets = last.meets }),
    )
enough most seconds goal before made rest n is few none (short, inr (others, inl all)) =
    let both = length-append before made in
    (omega (arith, short, both, is, few), inr (none_behind goal before made none others, inl (omega (arith, all, both, is, few))))
enough most seconds goal before made rest n is few none (short, inr (others, inr over)) =
    let both = length-append before made in
    (omega (arith, short, both, is, few), inr (none_behind goal before made none others, inr over))

pub made_behind : (most : ℕ) (seconds : Option ℕ) (goal : Option (List Expectation)) (old mid new : Remaining) → most ≤ 2 ^ 64 - 1 → old.table ≡ empty → Advances most goal old mid → Made (most - mid.table.runs) seconds goal mid new → Made most seconds goal old new
made_behind most seconds goal old mid new small fresh a m =
    let nothing : old.table.runs ≡ 0 = ap (λ (t : Table). t.runs) fresh in
    let sofar = made_so_far most goal old mid a small in
    let is : mid.table.runs ≡ length a.made = omega (arith, nothing, sofar) in record {
      made = a.made ++ m.made;
      are = behind a.made m.made old.left mid.left new.left a.are m.are;
      count = enough most seconds goal a.made m.made new.left mid.table.runs is (within a.few is nothing) a.none m.count;
      faults = m.faults ∙ a.faults;
      table = m.table ∙ (ap (all_noted (map came m.made)) a.table ∙ (sym (noted_behind (map came a.made) (map came m.made) old.table) ∙ ap (λ cs. all_noted cs old.table) (sym (mapped came a.made m.made))));
    } where
      within : (a.made ≡ []) ⊎ (old.table.runs + length a.made ≤ most) → mid.table.runs ≡ length a.made → old.table.runs ≡ 0 → mid.table.runs ≤ most
      within (inl none) is nothing = let n = ap length none in omega (arith, is, n)
      within (inr some) is nothing = omega (arith, is, some, nothing)

pub full_behind : (most : ℕ) (goal : Option (List Expectation)) (old mid : Remaining) → most ≤ 2 ^ 64 - 1 → old.table ≡ empty → Advances most goal old mid → IsFullBehind (most - mid.table.runs) goal mid.left → IsFullBehind most goal old.left
full_behind most goal old mid small fresh a f =
    let nothing : old.table.runs ≡ 0 = ap (λ (t : Table). t.runs) fresh in
    let sofar = made_so_far most goal old mid a small in
    let both = length-append a.made f.made in
    let short = f.few in record {
      made = a.made ++ f.made;
      none = none_behind goal a.made f.made a.none f.none;
      rest = f.rest;
      is = behind a.made f.made old.left mid.left (PassesLimit ∷ f.rest) a.are f.is;
      few = omega (arith, short, both, nothing, sofar);
    }

pub fails_behind : (most : ℕ) (goal : Option (List Expectation)) (old mid : Remaining) (f : SimFault) → most ≤ 2 ^ 64 - 1 → old.table ≡ empty → Advances most goal old mid → Fails (most - mid.table.runs) goal mid f → Fails most goal old f
fails_behind most goal old mid fault.NoMemory small fresh a h = tt
fails_behind most goal old mid fault.JournalMismatch small fresh a h = tt
fails_behind most goal old mid fault.Full small fresh a h = full_behind most goal old mid small fresh a h
fails_behind most goal old mid fault.Read small fresh a h = absurd h
fails_behind most goal old mid fault.Write small fresh a h = absurd h
fails_behind most goal old mid fault.TooLong small fresh a h = absurd h
fails_behind most goal old mid (fault.BadCommand n) small fresh a h = absurd h
fails_behind most goal old mid (fault.BadRecord n) small fresh a h = absurd h
fails_behind most goal old mid (fault.Job e) small fresh a h = absurd h
fails_behind most goal old mid fault.Refused small fresh a h = absurd h
fails_behind most goal old mid fault.JobFailed small fresh a h = absurd h
fails_behind most goal old mid fault.TurnsSpent small fresh a h = absurd h
fails_behind most goal old mid fault.Thread small fresh a h = absurd h

-- the same of other views of both
pub advances_as : (most : ℕ) (goal : Option (List Expectation)) (old new : Remaining) (left after : List (Found Exploring)) (t u : Table) → old.left ≡ left → old.table ≡ t → new.left ≡ after → new.table ≡ u → new.faults ≡ old.faults
    → Advances most goal (remaining left t) (remaining after u) → Advances most goal old new
advances_as most goal old new left after t u a b c d faults adv = record {
  made = adv.made;
  are = a ∙ (adv.are ∙ ap (λ xs. map as_found adv.made ++ xs) (sym c));
  none = adv.none;
  few = subst (λ (x : Table). (adv.made ≡ []) ⊎ (x.runs + length adv.made ≤ most)) (sym b) adv.few;
  faults = faults;
  table = d ∙ (adv.table ∙ ap (all_noted (map came adv.made)) (sym b));
}

pub not_met : (b : Bool) → not b ≡ true → b ≡ false
not_met false e = refl
not_met true e = absurd (cc)

pub makes_behind : (most left : ℕ) (seconds : Option ℕ) (goal : Option (List Expectation)) (old mid new : Remaining) (r : Result (Unit {0}) SimFault) → most ≤ 2 ^ 64 - 1 → left ≡ most - mid.table.runs → old.table ≡ empty → Advances most goal old mid → Makes left seconds goal mid r new → Makes most seconds goal old r new
makes_behind most left seconds goal old mid new (Ok done) small is fresh a h = made_behind most seconds goal old mid new small fresh a (subst (λ n. Made n seconds goal mid new) is h)
makes_behind most left seconds goal old mid new (Err f) small is fresh a h = fails_behind most goal old mid f small fresh a (subst (λ n. Fails n goal mid f) is h)
