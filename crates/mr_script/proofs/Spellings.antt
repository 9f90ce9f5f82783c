-- No two verbs have one text, and no two names of events.
use Rattle.std.specs.List.{slice_index_or}
use Rattle.std.proofs.Math.Nat.{eq-or-lt_of_le}
use Rattle.std.proofs.Common.{inl, inr, ◌≡◌, ◌<◌, ◌∷◌, [], rules, ◌≤◌, arith, ◌+◌, ◌*◌, ℕ, List, cond, eqb, length, slice_index, refl, sym, ap, ◌∙◌}
use Rattle.mr_script.specs.declared.event_name.EventName.{EventName}
use Rattle.mr_script.specs.declared.event_name.EventName.TheVariants as name
use Rattle.mr_script.specs.declared.line.Verb.{Verb}
use Rattle.mr_script.specs.declared.line.Verb.TheVariants as verb
use Rattle.mr_script.specs.Names.{name_text}
use Rattle.mr_script.specs.Verb.{text_of}

-- a number that tells the verbs apart
verb_key : List ℕ → ℕ
verb_key w = slice_index w 0 + (3 * slice_index w 1 + slice_index w 3)

verb_by : ℕ → Verb
verb_by k =
    (cond (eqb k 577) verb.Start
    (cond (eqb k 556) verb.Crash
    (cond (eqb k 572) verb.Duty
    (cond (eqb k 509) verb.Launch
    (cond (eqb k 508) verb.Deliver
    (cond (eqb k 575) verb.Step
    (cond (eqb k 544) verb.Compute
    (cond (eqb k 415) verb.Die
    (cond (eqb k 533) verb.Restart
    (cond (eqb k 566) verb.Expire
    (cond (eqb k 499) verb.Calm
    (cond (eqb k 554) verb.Drop
    verb.Expect))))))))))))

verb_back : (v : Verb) → verb_by (verb_key (text_of v)) ≡ v
unfolding verb_key verb_by
verb_back verb.Start = refl
verb_back verb.Crash = refl
verb_back verb.Duty = refl
verb_back verb.Launch = refl
verb_back verb.Deliver = refl
verb_back verb.Step = refl
verb_back verb.Compute = refl
verb_back verb.Die = refl
verb_back verb.Restart = refl
verb_back verb.Expire = refl
verb_back verb.Calm = refl
verb_back verb.Drop = refl
verb_back verb.Expect = refl

pub text_of-injective : (v w : Verb) → text_of v ≡ text_of w → v ≡ w
text_of-injective v w e = sym (verb_back v) ∙ ap (λ t. verb_by (verb_key t)) e ∙ verb_back w

-- the place of a verb among all verbs
abbrev pub place_of : Verb → ℕ
place_of verb.Start = 0
place_of verb.Crash = 1
place_of verb.Duty = 2
place_of verb.Launch = 3
place_of verb.Deliver = 4
place_of verb.Step = 5
place_of verb.Compute = 6
place_of verb.Die = 7
place_of verb.Restart = 8
place_of verb.Expire = 9
place_of verb.Calm = 10
place_of verb.Drop = 11
place_of verb.Expect = 12

abbrev pub verbs : List Verb
verbs = verb.Start ∷ verb.Crash ∷ verb.Duty ∷ verb.Launch ∷ verb.Deliver ∷ verb.Step ∷ verb.Compute ∷ verb.Die ∷ verb.Restart ∷ verb.Expire ∷ verb.Calm ∷ verb.Drop ∷ verb.Expect ∷ []

pub at_place : (v d : Verb) → v ≡ slice_index_or verbs (place_of v) d
at_place verb.Start d = refl
at_place verb.Crash d = refl
at_place verb.Duty d = refl
at_place verb.Launch d = refl
at_place verb.Deliver d = refl
at_place verb.Step d = refl
at_place verb.Compute d = refl
at_place verb.Die d = refl
at_place verb.Restart d = refl
at_place verb.Expire d = refl
at_place verb.Calm d = refl
at_place verb.Drop d = refl
at_place verb.Expect d = refl

pub placed : (v : Verb) → place_of v < 13
placed verb.Start = search rules
placed verb.Crash = search rules
placed verb.Duty = search rules
placed verb.Launch = search rules
placed verb.Deliver = search rules
placed verb.Step = search rules
placed verb.Compute = search rules
placed verb.Die = search rules
placed verb.Restart = search rules
placed verb.Expire = search rules
placed verb.Calm = search rules
placed verb.Drop = search rules
placed verb.Expect = search rules

-- a word that is none of the first verbs, nor the next one, is none of these
pub other_place : (i : ℕ) (word next : List ℕ) (d : Verb) → ((v : Verb) → place_of v < i → word ≡ text_of v → ⊥) → next ≡ text_of (slice_index_or verbs i d) → (word ≡ next → ⊥) →
    (v : Verb) → place_of v < i + 1 → word ≡ text_of v → ⊥
other_place i word next d earlier is differs v below e =
    let most : place_of v ≤ i = omega arith in
    elim (eq-or-lt_of_le most) [
      | inl same ↦ differs (e ∙ ap text_of (at_place v d) ∙ ap (λ k. text_of (slice_index_or verbs k d)) same ∙ sym is)
      | inr less ↦ earlier v less e
    ]

-- a number that tells the names apart
name_key : List ℕ → ℕ
name_key w = length w + (slice_index w 0 + (11 * slice_index w 1 + slice_index w 2))

name_by : ℕ → EventName
name_by k =
    (cond (eqb k 1295) name.Marks
    (cond (eqb k 1326) name.Read
    (cond (eqb k 1347) name.Setup
    (cond (eqb k 1331) name.Recover
    (cond (eqb k 1282) name.Bar
    (cond (eqb k 1447) name.Append
    (cond (eqb k 1412) name.Flush
    (cond (eqb k 1495) name.Started
    (cond (eqb k 1339) name.Merge
    (cond (eqb k 1395) name.Cleanup
    (cond (eqb k 1296) name.Marker
    (cond (eqb k 1508) name.Success
    (cond (eqb k 1278) name.Fail
    (cond (eqb k 1291) name.Abort
    (cond (eqb k 1436) name.Compute
    (cond (eqb k 1369) name.Where
    (cond (eqb k 1334) name.Fetch
    (cond (eqb k 1448) name.Lost
    (cond (eqb k 1392) name.Mkdirs
    (cond (eqb k 1460) name.Create
    (cond (eqb k 1483) name.Write
    (cond (eqb k 1403) name.Close
    (cond (eqb k 1327) name.Needs
    (cond (eqb k 1340) name.Pending
    (cond (eqb k 1445) name.Poll
    (cond (eqb k 1444) name.Look
    (cond (eqb k 1393) name.Clear
    (cond (eqb k 1341) name.Rename
    (cond (eqb k 1343) name.Report
    (cond (eqb k 1280) name.Failed
    (cond (eqb k 1298) name.Launch
    name.Step)))))))))))))))))))))))))))))))

name_back : (n : EventName) → name_by (name_key (name_text n)) ≡ n
unfolding name_key name_by
name_back name.Marks = refl
name_back name.Read = refl
name_back name.Setup = refl
name_back name.Recover = refl
name_back name.Bar = refl
name_back name.Append = refl
name_back name.Flush = refl
name_back name.Started = refl
name_back name.Merge = refl
name_back name.Cleanup = refl
name_back name.Marker = refl
name_back name.Success = refl
name_back name.Fail = refl
name_back name.Abort = refl
name_back name.Compute = refl
name_back name.Where = refl
name_back name.Fetch = refl
name_back name.Lost = refl
name_back name.Mkdirs = refl
name_back name.Create = refl
name_back name.Write = refl
name_back name.Close = refl
name_back name.Needs = refl
name_back name.Pending = refl
name_back name.Poll = refl
name_back name.Look = refl
name_back name.Clear = refl
name_back name.Rename = refl
name_back name.Report = refl
name_back name.Failed = refl
name_back name.Launch = refl
name_back name.Step = refl

pub name_text-injective : (m n : EventName) → name_text m ≡ name_text n → m ≡ n
name_text-injective m n e = sym (name_back m) ∙ ap (λ t. name_by (name_key t)) e ∙ name_back n

-- the place of a name among all names
abbrev pub name_place : EventName → ℕ
name_place name.Marks = 0
name_place name.Read = 1
name_place name.Setup = 2
name_place name.Recover = 3
name_place name.Bar = 4
name_place name.Append = 5
name_place name.Flush = 6
name_place name.Started = 7
name_place name.Merge = 8
name_place name.Cleanup = 9
name_place name.Marker = 10
name_place name.Success = 11
name_place name.Fail = 12
name_place name.Abort = 13
name_place name.Compute = 14
name_place name.Where = 15
name_place name.Fetch = 16
name_place name.Lost = 17
name_place name.Mkdirs = 18
name_place name.Create = 19
name_place name.Write = 20
name_place name.Close = 21
name_place name.Needs = 22
name_place name.Pending = 23
name_place name.Poll = 24
name_place name.Look = 25
name_place name.Clear = 26
name_place name.Rename = 27
name_place name.Report = 28
name_place name.Failed = 29
name_place name.Launch = 30
name_place name.Step = 31

abbrev pub names : List EventName
names = name.Marks ∷ name.Read ∷ name.Setup ∷ name.Recover ∷ name.Bar ∷ name.Append ∷ name.Flush ∷ name.Started ∷ name.Merge ∷ name.Cleanup ∷ name.Marker ∷ name.Success ∷ name.Fail ∷ name.Abort ∷ name.Compute ∷ name.Where ∷ name.Fetch ∷ name.Lost ∷ name.Mkdirs ∷ name.Create ∷ name.Write ∷ name.Close ∷ name.Needs ∷ name.Pending ∷ name.Poll ∷ name.Look ∷ name.Clear ∷ name.Rename ∷ name.Report ∷ name.Failed ∷ name.Launch ∷ name.Step ∷ []

pub at_name_place : (n d : EventName) → n ≡ slice_index_or names (name_place n) d
at_name_place name.Marks d = refl
at_name_place name.Read d = refl
at_name_place name.Setup d = refl
at_name_place name.Recover d = refl
at_name_place name.Bar d = refl
at_name_place name.Append d = refl
at_name_place name.Flush d = refl
at_name_place name.Started d = refl
at_name_place name.Merge d = refl
at_name_place name.Cleanup d = refl
at_name_place name.Marker d = refl
at_name_place name.Success d = refl
at_name_place name.Fail d = refl
at_name_place name.Abort d = refl
at_name_place name.Compute d = refl
at_name_place name.Where d = refl
at_name_place name.Fetch d = refl
at_name_place name.Lost d = refl
at_name_place name.Mkdirs d = refl
at_name_place name.Create d = refl
at_name_place name.Write d = refl
at_name_place name.Close d = refl
at_name_place name.Needs d = refl
at_name_place name.Pending d = refl
at_name_place name.Poll d = refl
at_name_place name.Look d = refl
at_name_place name.Clear d = refl
at_name_place name.Rename d = refl
at_name_place name.Report d = refl
at_name_place name.Failed d = refl
at_name_place name.Launch d = refl
at_name_place name.Step d = refl

pub name_placed : (n : EventName) → name_place n < 32
name_placed name.Marks = search rules
name_placed name.Read = search rules
name_placed name.Setup = search rules
name_placed name.Recover = search rules
name_placed name.Bar = search rules
name_placed name.Append = search rules
name_placed name.Flush = search rules
name_placed name.Started = search rules
name_placed name.Merge = search rules
name_placed name.Cleanup = search rules
name_placed name.Marker = search rules
name_placed name.Success = search rules
name_placed name.Fail = search rules
name_placed name.Abort = search rules
name_placed name.Compute = search rules
name_placed name.Where = search rules
name_placed name.Fetch = search rules
name_placed name.Lost = search rules
name_placed name.Mkdirs = search rules
name_placed name.Create = search rules
name_placed name.Write = search rules
name_placed name.Close = search rules
name_placed name.Needs = search rules
name_placed name.Pending = search rules
name_placed name.Poll = search rules
name_placed name.Look = search rules
name_placed name.Clear = search rules
name_placed name.Rename = search rules
name_placed name.Report = search rules
name_placed name.Failed = search rules
name_placed name.Launch = search rules
name_placed name.Step = search rules

-- a word that is none of the first names, nor the next one, is none of these
pub other_name : (i : ℕ) (word next : List ℕ) (d : EventName) → ((v : EventName) → name_place v < i → word ≡ name_text v → ⊥) → next ≡ name_text (slice_index_or names i d) → (word ≡ next → ⊥) →
    (v : EventName) → name_place v < i + 1 → word ≡ name_text v → ⊥
other_name i word next d earlier is differs v below e =
    let most : name_place v ≤ i = omega arith in
    elim (eq-or-lt_of_le most) [
      | inl same ↦ differs (e ∙ ap name_text (at_name_place v d) ∙ ap (λ k. name_text (slice_index_or names k d)) same ∙ sym is)
      | inr less ↦ earlier v less e
    ]
