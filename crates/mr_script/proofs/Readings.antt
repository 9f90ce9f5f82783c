-- A line is at most one command, and a script at most one list of them.
use Rattle.std.proofs.Common.{◌≡◌, false, ◌<◌, ◌^◌, ℕ, List, ◌∷◌, ◌++◌, Option, Some, None, decimal, codes, slice_index, sym, refl, ap, ap₂, ◌∙◌, arith}
use Rattle.std.proofs.lemmas.Fmt.{decimal_injective}
use Rattle.mr_ids.specs.declared.id.JobId.{JobId}
use Rattle.mr_ids.specs.declared.id.TaskId.{TaskId}
use Rattle.mr_ids.specs.declared.id.TaskKind.{TaskKind}
use Rattle.mr_ids.specs.declared.id.TaskKind.TheVariants.{Map, Reduce}
use Rattle.mr_packet.specs.declared.packet.ContainerId.{ContainerId}
use Rattle.mr_world_events.specs.declared.event.Weather.{Weather}
use Rattle.mr_world_events.specs.declared.event.Weather.TheVariants.{Calm, Unavailable, Unanswered}
use Rattle.mr_world_events.specs.declared.event.Event.TheVariants as event
use Rattle.mr_script.specs.declared.command.Command.{Command}
use Rattle.mr_script.specs.declared.command.Command.TheVariants as command
use Rattle.mr_script.specs.declared.command.Until.{Until}
use Rattle.mr_script.specs.declared.command.Until.TheVariants.{Most, Before, Through}
use Rattle.mr_script.specs.declared.event_name.EventName.{EventName}
use Rattle.mr_script.specs.Lines.{before, after, is_comment, lines_of}
use Rattle.mr_script.specs.Names.{name_text}
use Rattle.mr_script.specs.Script.{line_of, rest_of, IsGeneration, IsContainer, IsTaskOf, IsCommand, IsLine}
use Rattle.mr_script.specs.Words.{with_word, kind_word, task_words, container_word, and_words, fault_word, name_words, until_words}
use Rattle.mr_script.specs.Verb.{verb_of}
use Rattle.mr_script.specs.Laws.{OneReading, ReadOrBad, OneFirstBad, CommentsAreNoCommands}
use Rattle.mr_script.proofs.Expectations.{same-expected}
use Rattle.mr_script.proofs.Lines.{same-lines, not-both, same-first}
use Rattle.mr_script.proofs.Words.{Lacks, after-by, none-after, some-inj, cut-same}
use Rattle.mr_script.proofs.Numbers.{no-space, no-stop, low, container-no-space, kind-no-space}
use Rattle.mr_script.proofs.Spellings.{text_of-injective, name_text-injective}
use Rattle.mr_script.proofs.Verbs.{spelled}

-- ---- two words and more

record Ands (a b : List ℕ) (x y : Option (List ℕ)) : Type 0 where
  front : a ≡ b
  rest : x ≡ y

ands-same : (a b : List ℕ) (x y : Option (List ℕ)) → Lacks 32 a → Lacks 32 b → and_words a x ≡ and_words b y → Ands a b x y
ands-same a b None None g h e = record { front = e; rest = refl }
ands-same a b None (Some y) g h e = let clash : None ≡ Some y = sym (none-after 32 a g) ∙ ap (after 32) e ∙ after-by 32 b y h in absurd (cc)
ands-same a b (Some x) None g h e = let clash : Some x ≡ None = sym (after-by 32 a x g) ∙ ap (after 32) e ∙ none-after 32 b h in absurd (cc)
ands-same a b (Some x) (Some y) g h e = let p = cut-same 32 a b x y g h e in record { front = p.front; rest = ap Some p.rest }

-- ---- the parts of commands

generation-same : (k m : ℕ) → IsGeneration k → IsGeneration m → decimal k ≡ decimal m → k ≡ m
generation-same k m g h e = decimal_injective k m (low k g) (low m h) e

small-same : (k m : ℕ) → k < 2 ^ 32 → m < 2 ^ 32 → decimal k ≡ decimal m → k ≡ m
small-same k m g h e = decimal_injective k m (omega (arith, g)) (omega (arith, h)) e

container-same : (c d : ContainerId) → IsContainer c → IsContainer d → container_word c ≡ container_word d → c ≡ d
container-same c d g h e =
    let p = cut-same 46 (decimal c.app) (decimal d.app) (decimal c.number) (decimal d.number) (no-stop c.app (low c.app g.0)) (no-stop d.app (low d.app h.0)) e in
    ap₂ (λ (k : ℕ) (n : ℕ). record { app = k; number = n }) (generation-same c.app d.app g.0 h.0 p.front) (small-same c.number d.number g.1 h.1 p.rest)

fault-same : (v w : Weather) → fault_word v ≡ fault_word w → v ≡ w
fault-same Calm Calm e = refl
fault-same Unavailable Unavailable e = refl
fault-same Unanswered Unanswered e = refl
fault-same Calm Unavailable e = absurd (cc)
fault-same Calm Unanswered e = absurd (cc)
fault-same Unavailable Calm e = absurd (cc)
fault-same Unanswered Calm e = absurd (cc)
fault-same Unavailable Unanswered e = absurd (cc)
fault-same Unanswered Unavailable e = absurd (cc)

before-is-not-all : (n : EventName) → name_words n ≡ codes "all" → ⊥
before-is-not-all n e = let clash : ◌≡◌ {A = ℕ} 98 97 = ap (λ w. slice_index w 0) e in absurd (omega (arith, clash))

until-same : (s t : Until) → until_words s ≡ until_words t → s ≡ t
until-same Most Most e = refl
until-same Most (Before n) e = absurd (cc)
until-same Most Through e = absurd (cc)
until-same (Before m) Most e = absurd (cc)
until-same (Before m) (Before n) e =
    let p = some-inj (name_words m) (name_words n) e in
    ap Before (name_text-injective m n (some-inj (name_text m) (name_text n) (ap (after 32) p)))
until-same (Before m) Through e = absurd (before-is-not-all m (some-inj (name_words m) (codes "all") e))
until-same Through Most e = absurd (cc)
until-same Through (Before n) e = absurd (before-is-not-all n (some-inj (name_words n) (codes "all") (sym e)))
until-same Through Through e = refl

kind-same : (k l : TaskKind) → kind_word k ≡ kind_word l → k ≡ l
kind-same Map Map e = refl
kind-same Reduce Reduce e = refl
kind-same Map Reduce e = let clash : ◌≡◌ {A = ℕ} 109 114 = ap (λ w. slice_index w 0) e in absurd (omega (arith, clash))
kind-same Reduce Map e = let clash : ◌≡◌ {A = ℕ} 114 109 = ap (λ w. slice_index w 0) e in absurd (omega (arith, clash))

record SameTask (t u : TaskId) (m n : ℕ) : Type 0 where
  task : t ≡ u
  node : m ≡ n

task-by : (t u : TaskId) → t.job ≡ u.job → t.kind ≡ u.kind → t.number ≡ u.number → t ≡ u
task-by t u a b c =
    ap (λ j. made j t.kind t.number) a ∙ ap (λ k. made u.job k t.number) b ∙ ap (made u.job u.kind) c
  where
    made : JobId → TaskKind → ℕ → TaskId
    made j k n = record { job = j; kind = k; number = n }

task-same : (job : JobId) (t u : TaskId) (m n : ℕ) → IsTaskOf job t → IsTaskOf job u → m < 2 ^ 32 → n < 2 ^ 32 → task_words t (decimal m) ≡ task_words u (decimal n) → SameTask t u m n
task-same job t u m n g h a b e =
    let p = cut-same 32 (kind_word t.kind) (kind_word u.kind) (with_word (decimal t.number) (decimal m)) (with_word (decimal u.number) (decimal n)) (kind-no-space t.kind) (kind-no-space u.kind) e in
    let q = cut-same 32 (decimal t.number) (decimal u.number) (decimal m) (decimal n) (no-space t.number (omega (arith, g.1))) (no-space u.number (omega (arith, h.1))) p.rest in
    let jobs = g.0 ∙ sym h.0 in
    let kinds = kind-same t.kind u.kind p.front in
    let numbers = small-same t.number u.number g.1 h.1 q.front in
    record { task = task-by t u jobs kinds numbers; node = small-same m n a b q.rest }

-- ---- one command a line

same-parts : (job : JobId) (c d : Command) → IsCommand job c → IsCommand job d → verb_of c ≡ verb_of d → rest_of c ≡ rest_of d → c ≡ d
same-parts job (command.Makes (event.Start k a)) (command.Makes (event.Start m b)) g h v e =
    let p = cut-same 32 (decimal k) (decimal m) (decimal a) (decimal b) (no-space k (low k g.0)) (no-space m (low m h.0)) e in
    ap₂ (λ x y. command.Makes (event.Start x y)) (generation-same k m g.0 h.0 p.front) (decimal_injective a b g.1 h.1 p.rest)
same-parts job (command.Makes (event.Crash k a)) (command.Makes (event.Crash m b)) g h v e =
    let p = cut-same 32 (decimal k) (decimal m) (decimal a) (decimal b) (no-space k (low k g.0)) (no-space m (low m h.0)) e in
    ap₂ (λ x y. command.Makes (event.Crash x y)) (generation-same k m g.0 h.0 p.front) (decimal_injective a b g.1 h.1 p.rest)
same-parts job (command.Makes (event.Expire k a)) (command.Makes (event.Expire m b)) g h v e =
    let p = cut-same 32 (decimal k) (decimal m) (decimal a) (decimal b) (no-space k (low k g.0)) (no-space m (low m h.0)) e in
    ap₂ (λ x y. command.Makes (event.Expire x y)) (generation-same k m g.0 h.0 p.front) (small-same a b g.1 h.1 p.rest)
same-parts job (command.Makes (event.Duty k a)) (command.Makes (event.Duty m b)) g h v e =
    let p = ands-same (decimal k) (decimal m) (fault_word a) (fault_word b) (no-space k (low k g)) (no-space m (low m h)) e in
    ap₂ (λ x y. command.Makes (event.Duty x y)) (generation-same k m g h p.front) (fault-same a b p.rest)
same-parts job (command.Makes (event.LaunchOn k t a)) (command.Makes (event.LaunchOn m u b)) g h v e =
    let p = cut-same 32 (decimal k) (decimal m) (task_words t (decimal a)) (task_words u (decimal b)) (no-space k (low k g.0)) (no-space m (low m h.0)) e in
    let q = task-same job t u a b g.1.0 h.1.0 g.1.1 h.1.1 p.rest in
    let generations = generation-same k m g.0 h.0 p.front in
    let tasks = q.task in
    let nodes = q.node in
    cc
same-parts job (command.Makes (event.Deliver a)) (command.Makes (event.Deliver b)) g h v e = ap (λ x. command.Makes (event.Deliver x)) (decimal_injective a b g h e)
same-parts job (command.Makes (event.ContainerStep a f)) (command.Makes (event.ContainerStep b w)) g h v e =
    let p = ands-same (container_word a) (container_word b) (fault_word f) (fault_word w) (container-no-space a g) (container-no-space b h) e in
    ap₂ (λ x y. command.Makes (event.ContainerStep x y)) (container-same a b g h p.front) (fault-same f w p.rest)
same-parts job (command.Makes (event.Die a)) (command.Makes (event.Die b)) g h v e = ap (λ x. command.Makes (event.Die x)) (container-same a b g h e)
same-parts job (command.Makes (event.NodeRestart a)) (command.Makes (event.NodeRestart b)) g h v e = ap (λ x. command.Makes (event.NodeRestart x)) (small-same a b g h e)
same-parts job (command.Compute a) (command.Compute b) g h v e = ap command.Compute (container-same a b g h e)
same-parts job (command.Calm k s) (command.Calm m t) g h v e =
    let p = ands-same (decimal k) (decimal m) (until_words s) (until_words t) (no-space k (low k g)) (no-space m (low m h)) e in
    ap₂ command.Calm (generation-same k m g h p.front) (until-same s t p.rest)
same-parts job (command.Drop a) (command.Drop b) g h v e = ap command.Drop (decimal_injective a b g h e)
same-parts job (command.Expect a) (command.Expect b) g h v e = ap command.Expect (same-expected a b g h e)
same-parts job (command.Makes (event.Computed c bytes)) d g h v e = absurd g
same-parts job c (command.Makes (event.Computed d bytes)) g h v e = absurd h
same-parts job c d g h v e = absurd (cc)

-- what stands behind the first word and its space
after-line : (job : JobId) (c : Command) → IsCommand job c → after 32 (line_of c) ≡ Some (rest_of c)
after-line job (command.Makes (event.Start k kept)) h = refl
after-line job (command.Makes (event.Crash k kept)) h = refl
after-line job (command.Makes (event.Duty k fault)) h = refl
after-line job (command.Makes (event.LaunchOn k t n)) h = refl
after-line job (command.Makes (event.Deliver i)) h = refl
after-line job (command.Makes (event.ContainerStep c fault)) h = refl
after-line job (command.Makes (event.Computed c bytes)) h = absurd h
after-line job (command.Makes (event.Die c)) h = refl
after-line job (command.Makes (event.NodeRestart n)) h = refl
after-line job (command.Makes (event.Expire k n)) h = refl
after-line job (command.Compute c) h = refl
after-line job (command.Calm k until) h = refl
after-line job (command.Drop i) h = refl
after-line job (command.Expect e) h = refl

same-command : (job : JobId) (line : List ℕ) (c d : Command) → IsLine job line c → IsLine job line d → c ≡ d
same-command job line c d x y =
    let e : line_of c ≡ line_of d = sym x.1 ∙ y.1 in
    let s = spelled job c x.0 in
    let t = spelled job d y.0 in
    let verbs = text_of-injective s.verb t.verb (sym s.first ∙ ap (before 32) e ∙ t.first) in
    same-parts job c d x.0 y.0 (s.is ∙ ap Some verbs ∙ sym t.is)
    (some-inj (rest_of c) (rest_of d) (sym (after-line job c x.0) ∙ ap (after 32) e ∙ after-line job d y.0))

pub one_reading_law : OneReading
one_reading_law = λ job first bytes cs ds. same-lines (IsLine job) (same-command job) first (lines_of bytes) cs ds

pub read_or_bad_law : ReadOrBad
read_or_bad_law = λ job first bytes cs k. not-both (IsLine job) first (lines_of bytes) cs k

pub one_first_bad_law : OneFirstBad
one_first_bad_law = λ job first bytes j k. same-first (IsLine job) first (lines_of bytes) j k

no-comment : (c : Command) → is_comment (line_of c) ≡ false
no-comment (command.Makes (event.Start k kept)) = refl
no-comment (command.Makes (event.Crash k kept)) = refl
no-comment (command.Makes (event.Duty k fault)) = refl
no-comment (command.Makes (event.LaunchOn k t n)) = refl
no-comment (command.Makes (event.Deliver i)) = refl
no-comment (command.Makes (event.ContainerStep c fault)) = refl
no-comment (command.Makes (event.Computed c bytes)) = refl
no-comment (command.Makes (event.Die c)) = refl
no-comment (command.Makes (event.NodeRestart n)) = refl
no-comment (command.Makes (event.Expire k n)) = refl
no-comment (command.Compute c) = refl
no-comment (command.Calm k until) = refl
no-comment (command.Drop i) = refl
no-comment (command.Expect e) = refl

pub comments_are_no_commands_law : CommentsAreNoCommands
comments_are_no_commands_law = λ job line c h. ap is_comment h.1 ∙ no-comment c
