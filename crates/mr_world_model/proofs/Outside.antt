-- Paths outside the staging folder: what a container's call, or a lost one, leaves there.
use Rattle.std.proofs.Common.{is_some, ◌&&◌, ℕ, ◌≡◌, refl, sym, ◌∙◌, ap, subst, Bool, true, false, not, List, [], ◌∷◌, ◌++◌, Option, Some, None, if◌then◌else◌, is_none, nat_lt, inl, inr}
use Rattle.std.proofs.lemmas.Bool.{true≢false}
use Rattle.mr_paths.specs.Path.{strip, prefixes}
use Rattle.mr_names.proofs.TreeLaws.{get-made, any_at, list_any-prefixes}
use Rattle.mr_world_model.proofs.Commits.{may-mkdirs}
use Rattle.mr_world_model.specs.Claims.{IsReduce}
use Rattle.mr_world_model.specs.Ids.{Name, Path, Attempt, task_attempt, committed, job_attempt, temporary, dest, commit_started, task_name, is_hidden, TaskId, generation_name, attempt_name, temporary_name}
use Rattle.mr_world_model.specs.Content.{Close, Append, Content, Entry, Dir, File, entry_at, Op, MkDirs, Create, Delete, Rename, left, made, refusal, is_file, NameFault, Superseded}
use Rattle.mr_world_model.specs.Packets.{Config, Reply, Names, Refused, Fault}
use Rattle.mr_world_model.specs.Pasts.{Wish, To_mkdirs, To_create, To_write, To_close, To_need, To_look, To_clear, To_rename, To_abort, wished_op, part_at}
use Rattle.mr_world_model.specs.Duties.{is_temporary}
use Rattle.mr_world_model.specs.World.{World, Event, Weather, Calm, Unavailable, Unanswered, reply_of, reply_under, unless_refused, names_answer}
use Rattle.mr_world_model.specs.Effect.{content_after, effect, not_now}
use Rattle.mr_world_model.specs.Claims.{winner, IsVisible}
use Rattle.mr_world_model.proofs.Paths.{left-away, put-other, without-other, moved-other}
use Rattle.mr_world_model.proofs.Files.{same_at}
use Rattle.mr_world_model.proofs.Apart.{Diverge, Diverge-longer, Elsewhere, left-elsewhere}
use Rattle.mr_world_model.proofs.Regions.{AwayFrom, away-same, name-ne, attempt_apart_name, committed_name}
use Rattle.mr_world_model.proofs.Steps.{Calls}
use Rattle.mr_world_model.proofs.Dirs.{Known, calls-away, calls-small}
use Rattle.mr_world_model.proofs.Found.{merge-away}

abbrev pub Outside : Path → Type 0
Outside d = Diverge temporary d

pub visible-outside : (p : Path) → IsVisible p → Outside p
visible-outside p v = subst (λ z. Diverge temporary z) (sym v.2) (inr (inl (name-ne temporary_name v.0 (λ q. true≢false (subst (λ z. is_hidden z ≡ false) (sym q) v.3)))))

pub elsewhere-at : (c : Content) (op : Op) (d : Path) → Elsewhere op d → entry_at (left c op) d ≡ entry_at c d
elsewhere-at c op d e = same_at c (left c op) d (left-elsewhere c op d e)

-- What a call is answered and what it leaves; a lost one may have been applied
pub data Result (c : Content) (op : Op) (c' : Content) : Reply → Type 0 where
  good : refusal c op ≡ None → c' ≡ left c op → Result c op c' (names_answer c op)
  no : (f : NameFault) → c' ≡ c → Result c op c' (Refused f)
  gone : c' ≡ c → Result c op c' Fault
  blind : refusal c op ≡ None → c' ≡ left c op → Result c op c' Fault

pub result : (w : World) (k : ℕ) (op : Op) (g : Weather) → Result w.content op (content_after w (Some (record { app = k; call = Names op; fault = g }))) (reply_under g (reply_of w k (Names op)))
unfolding reply_of
result w k op Unavailable = gone refl
result w k op Unanswered = by (nat_lt k w.fence) (refusal w.content op) refl
  where
    by : (b : Bool) (f : Option NameFault) → refusal w.content op ≡ f → Result w.content op (if not b then (if is_none f then left w.content op else w.content) else w.content) Fault
    by true f e = gone refl
    by false None e = blind e refl
    by false (Some f) e = gone refl
result w k op Calm = by (nat_lt k w.fence) (refusal w.content op) refl
  where
    by : (b : Bool) (f : Option NameFault) → refusal w.content op ≡ f →
        Result w.content op (if not b then (if is_none f then left w.content op else w.content) else w.content) (if b then Refused (Superseded w.fence) else unless_refused f (names_answer w.content op))
    by true f e = no (Superseded w.fence) refl
    by false None e = good e refl
    by false (Some f) e = no f refl

-- The destination's own directory

-- a directory stays while others are made
pub made-there : (c : Content) (p x : Path) → entry_at c x ≡ Some Dir → entry_at (made c p) x ≡ Some Dir
made-there c p x e = get-made c p x ∙ rw e refl

-- setting a job up makes it
pub mkdirs-dest : (c : Content) (k : ℕ) → refusal c (MkDirs (job_attempt k)) ≡ None → entry_at (left c (MkDirs (job_attempt k))) dest ≡ Some Dir
unfolding left
mkdirs-dest c k ok = get-made c (job_attempt k) dest ∙ by (entry_at c dest) refl
  where
    no_file : is_file (entry_at c dest) ≡ false
    no_file = any_at (λ p. is_file (entry_at c p)) dest (prefixes (job_attempt k)) (may-mkdirs c (job_attempt k) ok).no_file (list_any-prefixes dest (job_attempt k))

    by : (o : Option Entry) → entry_at c dest ≡ o → (if is_none (entry_at c dest) && is_some (strip dest (job_attempt k)) then Some Dir else entry_at c dest) ≡ Some Dir
    by None q = rw q refl
    by (Some Dir) q = rw q refl
    by (Some (File b d)) q = absurd (true≢false (sym (ap is_file q) ∙ no_file))

abbrev DestKept : Content → Option Op → Type 0
DestKept c None = Unit {0}
DestKept c (Some op) = entry_at c dest ≡ Some Dir → entry_at (left c op) dest ≡ Some Dir

wish-dest : (c : Content) (k : ℕ) (a : Attempt) (bytes : List ℕ) (v : Wish) → DestKept c (wished_op k a bytes v)
unfolding wished_op left
wish-dest c k a bytes To_mkdirs = λ e. made-there c (task_attempt k a) dest e
wish-dest c k a bytes To_create = λ e. put-other c (part_at k a) _ dest (λ (q : part_at k a ≡ dest). cc) ∙ e
wish-dest c k a bytes To_write = λ e. left-away c (Append (part_at k a) bytes) dest (λ (q : part_at k a ≡ dest). cc) ∙ e
wish-dest c k a bytes To_close = λ e. left-away c (Close (part_at k a)) dest (λ (q : part_at k a ≡ dest). cc) ∙ e
wish-dest c k a bytes To_need = λ e. e
wish-dest c k a bytes To_look = λ e. e
wish-dest c k a bytes To_clear = λ e. without-other c (committed k a.task) dest refl ∙ e
wish-dest c k a bytes To_rename = λ e. moved-other c (task_attempt k a) (committed k a.task) dest refl refl ∙ e
wish-dest c k a bytes To_abort = λ e. without-other c (task_attempt k a) dest refl ∙ e
wish-dest c k a bytes _ = tt

-- recovery's calls keep it too
pub clear-dest : (c : Content) (k : ℕ) (t : TaskId) → entry_at c dest ≡ Some Dir → entry_at (left c (Delete (committed k t))) dest ≡ Some Dir
unfolding left
clear-dest c k t e = without-other c (committed k t) dest refl ∙ e

pub move-dest : (c : Content) (j k : ℕ) (t : TaskId) → entry_at c dest ≡ Some Dir → entry_at (left c (Rename (committed j t) (committed k t))) dest ≡ Some Dir
unfolding left
move-dest c j k t e = moved-other c (committed j t) (committed k t) dest refl refl ∙ e

pub start-dest : (c : Content) → entry_at c dest ≡ Some Dir → entry_at (left c (Create commit_started true)) dest ≡ Some Dir
unfolding left
start-dest c e = put-other c commit_started _ dest (λ (q : commit_started ≡ dest). cc) ∙ e

-- What an event that is none of a merge keeps: what is outside, the destination's directory, the whole files of the winners, and the other names in the job attempt
pub record Kept (cfg : Config) (w : World) (e : Event) : Type 0 where
  pub outside : (d : Path) → Outside d → entry_at (effect cfg w e).content d ≡ entry_at w.content d
  pub destination : entry_at w.content dest ≡ Some Dir → entry_at (effect cfg w e).content dest ≡ Some Dir
  pub held : (t : TaskId) (a : Attempt) → winner w t ≡ Some a → (x : Path) → entry_at (effect cfg w e).content (committed w.fence t ++ x) ≡ entry_at w.content (committed w.fence t ++ x)
  pub names : (x : Name) → is_temporary x ≡ false → ((t : TaskId) → IsReduce cfg t → x ≡ task_name t → ⊥) → entry_at (effect cfg w e).content (job_attempt w.fence ++ x ∷ []) ≡ entry_at w.content (job_attempt w.fence ++ x ∷ [])

pub same-kept : (cfg : Config) (w : World) (e : Event) → (effect cfg w e).content ≡ w.content → Kept cfg w e
same-kept cfg w e c = record {
  outside = λ d o. ap (λ z. entry_at z d) c;
  destination = λ q. ap (λ z. entry_at z dest) c ∙ q;
  held = λ t a q x. ap (λ z. entry_at z (committed w.fence t ++ x)) c;
  names = λ x i o. ap (λ z. entry_at z (job_attempt w.fence ++ x ∷ [])) c;
}

pub calls-kept : (cfg : Config) (w : World) (e : Event) (kn : Known cfg w) (n : not_now cfg w e ≡ None) → Calls cfg w e → Kept cfg w e
calls-kept cfg w e kn n k = record {
  outside = λ d o. by d (calls-away cfg w e kn n k d
      (Diverge-longer temporary d (generation_name k.who.app ∷ temporary_name ∷ attempt_name k.place.attempt ∷ []) o)
      (λ m. Diverge-longer temporary d (generation_name k.who.app ∷ task_name k.place.attempt.task ∷ []) o));
  destination = λ q. ap (λ z. entry_at z dest) k.content ∙ subst (DestKept w.content) k.wished (wish-dest w.content k.who.app k.place.attempt _ _) q;
  held = λ t a q x. ap (λ z. entry_at z (committed w.fence t ++ x)) k.content ∙ away-same w.content k.op (committed w.fence t) (merge-away cfg w e kn n k t a q) x;
  names = λ x i o. by (job_attempt w.fence ++ x ∷ []) (calls-away cfg w e kn n k (job_attempt w.fence ++ x ∷ []) (attempt_apart_name k.who.app w.fence k.place.attempt x i)
      (λ m. committed_name k.who.app w.fence k.place.attempt.task x (o k.place.attempt.task (calls-small cfg w e kn n k))));
}
  where
    by : (d : Path) → AwayFrom k.op d → entry_at (effect cfg w e).content d ≡ entry_at w.content d
    by d a = ap (λ z. entry_at z d) k.content ∙ same_at w.content (left w.content k.op) d (away-same w.content k.op d a)
