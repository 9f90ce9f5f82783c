-- How far what is published of a winner has come: each of its names is there, or a call that makes it is still to be made.
use Rattle.std.proofs.Common.{◌≡◌, ◌⊎◌, inl, inr, ◌<◌, ◌≤◌, ℕ, zero, suc, Bool, true, false, not, ◌&&◌, is_some, List, [], ◌∷◌, ◌++◌, Option, Some, None, refl, sym, ap, subst, ◌∙◌, arith}
use Rattle.std.proofs.lemmas.Bool.{cases_lt}
use Rattle.mr_ids.specs.Attempt.{Attempt}
use Rattle.mr_ids.specs.declared.id.TaskId.{TaskId}
use Rattle.mr_log_entries.specs.declared.line.Handed.{Handed}
use Rattle.mr_log_entries.specs.declared.line.Handed.TheVariants as handed
use Rattle.mr_log_entries.specs.declared.entry.Entry.{Entry}
use Rattle.mr_log_entries.specs.Recorded.{lines_of}
use Rattle.mr_log_disk.specs.declared.place.Item.{Item}
use Rattle.mr_log_disk.specs.declared.place.Node.{Node}
use Rattle.mr_log_disk.specs.declared.place.Node.TheVariants as node
use Rattle.mr_log_disk.specs.declared.place.Place.{Place}
use Rattle.mr_log_disk.specs.declared.place.Place.TheVariants.{Top, Beneath, Marker, Inside}
use Rattle.mr_log_disk.specs.declared.place.Folder.TheVariants as folder
use Rattle.mr_log_disk.specs.Names.{IsVisible, folder_of, Moments}
use Rattle.mr_log_standing.specs.declared.job.Job.{Job}
use Rattle.mr_log_standing.specs.declared.standing.Win.{Win}
use Rattle.mr_log_standing.specs.Standing.{task_of, win_of, winner_of, has_winner, is_left, left, has_won_all, is_publishable}
use Rattle.mr_log_standing.proofs.Winning.{win-stays, has-win}
use Rattle.mr_log_standing.proofs.Below.{none-passes}
use Rattle.mr_log_steps.specs.declared.phase.Step.{Step}
use Rattle.mr_log_steps.specs.declared.phase.Step.TheVariants as step
use Rattle.mr_log_steps.specs.Lists.{shown, all_shown, shown_synced, all_shown_synced, publication, link_of, with_win, wins}
use Rattle.mr_log_model.specs.Worlds.{Setting}
use Rattle.mr_log_model.specs.Runs.{IsListedFolder, StandInFolders}
use Rattle.mr_log_model.specs.Promises.{IsFront}
use Rattle.mr_log_model.specs.Visible.{IsItemOf, IsPartOf, IsOutputOf, LinksOwn}
use Rattle.mr_log_model.proofs.Names.{Every, IsNode, There, Lasts}

-- ---- steps that are still to be made

abbrev pub AnyStep : (Step → Type 0) → List Step → Type 0
AnyStep Q [] = ⊥
AnyStep Q (x ∷ xs) = Q x ⊎ AnyStep Q xs

abbrev pub AllSteps : (Step → Type 0) → List Step → Type 0
AllSteps Q [] = Unit {0}
AllSteps Q (x ∷ xs) = Q x × AllSteps Q xs

-- the step makes this name
abbrev pub Makes : Place → Step → Type 0
Makes p (step.Link from to file) = to ≡ p
Makes p (step.MakeFolder q) = q ≡ p
Makes p _ = ⊥

-- it makes the name durable
abbrev pub Syncs : Place → Step → Type 0
Syncs p (step.SyncFolder f) = f ≡ folder_of p
Syncs p _ = ⊥

abbrev pub IsBelow : Place → Type 0
IsBelow (Top n) = Unit {0}
IsBelow (Beneath n i f) = Unit {0}
IsBelow Marker = ⊥
IsBelow (Inside a i f) = ⊥

-- what it makes, if anything, is no marker; what it links is the attempt's own
abbrev pub IsOwn : Attempt → Step → Type 0
IsOwn a (step.Link from to file) = IsBelow to × LinksOwn a from to
IsOwn a (step.MakeFolder p) = IsBelow p
IsOwn a step.LinkMarker = ⊥
IsOwn a _ = Unit {0}

-- nothing is made after a folder was synced
abbrev pub IsOrdered : List Step → Type 0
IsOrdered [] = Unit {0}
IsOrdered (x ∷ xs) = ((p q : Place) → Syncs p x → AnyStep (Makes q) xs → ⊥) × IsOrdered xs

any-left : (Q : Step → Type 0) (xs ys : List Step) → AnyStep Q xs → AnyStep Q (xs ++ ys)
any-left Q [] ys h = absurd h
any-left Q (x ∷ xs) ys (inl h) = inl h
any-left Q (x ∷ xs) ys (inr h) = inr (any-left Q xs ys h)

any-right : (Q : Step → Type 0) (xs ys : List Step) → AnyStep Q ys → AnyStep Q (xs ++ ys)
any-right Q [] ys h = h
any-right Q (x ∷ xs) ys h = inr (any-right Q xs ys h)

any-split : (Q : Step → Type 0) (xs ys : List Step) → AnyStep Q (xs ++ ys) → AnyStep Q xs ⊎ AnyStep Q ys
any-split Q [] ys h = inr h
any-split Q (x ∷ xs) ys (inl h) = inl (inl h)
any-split Q (x ∷ xs) ys (inr h) = by (any-split Q xs ys h)
  where
    by : AnyStep Q xs ⊎ AnyStep Q ys → AnyStep Q (x ∷ xs) ⊎ AnyStep Q ys
    by (inl k) = inl (inr k)
    by (inr k) = inr k

all-both : (Q : Step → Type 0) (xs ys : List Step) → AllSteps Q xs → AllSteps Q ys → AllSteps Q (xs ++ ys)
all-both Q [] ys h k = k
all-both Q (x ∷ xs) ys h k = (h.0, all-both Q xs ys h.1 k)

ordered-none : (xs : List Step) → ((q : Place) → AnyStep (Makes q) xs → ⊥) → IsOrdered xs
ordered-none [] h = tt
ordered-none (x ∷ xs) h = ((λ p q s m. h q (inr m)), ordered-none xs (λ q m. h q (inr m)))

-- ---- a winner's output

-- the output of a winner is there, and what is in its folder for good
pub record Linked (s : Setting) (v : Place → Moments) (win : Win) : Type 0 where
  pub names : (p : Place) → IsOutputOf s win p → There (v p)
  pub inner : (n i f : ℕ) → IsOutputOf s win (Beneath n i f) → Lasts (v (Beneath n i f))

-- it will be, once these steps were made
pub record Progress (s : Setting) (v : Place → Moments) (win : Win) (todo : List Step) : Type 0 where
  pub names : (p : Place) → IsOutputOf s win p → AnyStep (Makes p) todo ⊎ There (v p)
  pub inner : (n i f : ℕ) → IsOutputOf s win (Beneath n i f) → AnyStep (Syncs (Beneath n i f)) todo ⊎ Lasts (v (Beneath n i f))
  pub ordered : IsOrdered todo
  pub own : AllSteps (IsOwn win.attempt) todo

-- what was there for good is
abbrev pub KeepsLasting : (Place → Moments) → (Place → Moments) → Type 0
KeepsLasting v u = (p : Place) → IsVisible p → (n : Node) → Every (IsNode n) (v p) → Every (IsNode n) (u p)

pub still : (v u : Place → Moments) → KeepsLasting v u → (p : Place) → IsVisible p → Lasts (v p) → Lasts (u p)
still v u k p x l = record { node = l.node; every = k p x l.node l.every }

-- what was there is there, and what was there for good is
pub record Keeps (v u : Place → Moments) : Type 0 where
  pub there : (p : Place) → IsVisible p → There (v p) → There (u p)
  pub lasts : KeepsLasting v u

item-visible : (n : ℕ) (items : List Item) (p : Place) → IsItemOf n items p → IsVisible p
item-visible n [] p h = absurd h
item-visible n (i ∷ more) p (inl e) = subst IsVisible (sym e) tt
item-visible n (i ∷ more) p (inr h) = item-visible n more p h

pub output-visible : (s : Setting) (win : Win) (p : Place) → IsOutputOf s win p → IsVisible p
output-visible s win p h = by win.handed h
  where
    by : (x : Handed) → IsPartOf s win x p → IsVisible p
    by (handed.File file bytes) e = subst IsVisible (sym e) tt
    by (handed.Folder bytes) (inl e) = subst IsVisible (sym e) tt
    by (handed.Folder bytes) (inr i) = item-visible win.attempt.task.number (s.lists win.attempt win.id) p i

pub linked-stays : (s : Setting) (v u : Place → Moments) (win : Win) → Keeps v u → Linked s v win → Linked s u win
linked-stays s v u win k l = record { names = λ p o. k.there p (output-visible s win p o) (l.names p o); inner = λ n i f o. still v u k.lasts (Beneath n i f) tt (l.inner n i f o) }

pub progress-stays : (s : Setting) (v u : Place → Moments) (win : Win) (todo : List Step) → Keeps v u → Progress s v win todo → Progress s u win todo
progress-stays s v u win todo k g = record {
  names = λ p o. name p o (g.names p o);
  inner = λ n i f o. deep n i f (g.inner n i f o);
  ordered = g.ordered;
  own = g.own;
}
  where
    name : (p : Place) → IsOutputOf s win p → AnyStep (Makes p) todo ⊎ There (v p) → AnyStep (Makes p) todo ⊎ There (u p)
    name p o (inl m) = inl m
    name p o (inr t) = inr (k.there p (output-visible s win p o) t)

    deep : (n i f : ℕ) → AnyStep (Syncs (Beneath n i f)) todo ⊎ Lasts (v (Beneath n i f)) → AnyStep (Syncs (Beneath n i f)) todo ⊎ Lasts (u (Beneath n i f))
    deep n i f (inl m) = inl m
    deep n i f (inr l) = inr (still v u k.lasts (Beneath n i f) tt l)

-- the first step was made
pub progress-next : (s : Setting) (v u : Place → Moments) (win : Win) (x : Step) (rest : List Step) → Keeps v u
    → ((p : Place) → IsVisible p → Makes p x → There (u p)) → ((p : Place) → IsVisible p → Syncs p x → There (v p) → Lasts (u p))
    → Progress s v win (x ∷ rest) → Progress s u win rest
progress-next s v u win x rest k made synced g = record {
  names = λ p o. name p o (g.names p o);
  inner = λ n i f o. deep n i f o (g.inner n i f o);
  ordered = g.ordered.1;
  own = g.own.1;
}
  where
    name : (p : Place) → IsOutputOf s win p → AnyStep (Makes p) (x ∷ rest) ⊎ There (v p) → AnyStep (Makes p) rest ⊎ There (u p)
    name p o (inl (inl m)) = inr (made p (output-visible s win p o) m)
    name p o (inl (inr m)) = inl m
    name p o (inr t) = inr (k.there p (output-visible s win p o) t)

    no-step : (p q : Place) (y : Step) → Makes p y → Syncs q y → ⊥
    no-step p q (step.SyncFile r) m h = m
    no-step p q (step.SyncFolder f) m h = m
    no-step p q step.WriteList m h = m
    no-step p q (step.Link from to file) m h = h
    no-step p q (step.MakeFolder r) m h = h
    no-step p q step.LinkMarker m h = m

    there : (p : Place) → Syncs p x → AnyStep (Makes p) (x ∷ rest) ⊎ There (v p) → There (v p)
    there p h (inl (inl m)) = absurd (no-step p p x m h)
    there p h (inl (inr m)) = absurd (g.ordered.0 p p h m)
    there p h (inr t) = t

    deep : (n i f : ℕ) → IsOutputOf s win (Beneath n i f) → AnyStep (Syncs (Beneath n i f)) (x ∷ rest) ⊎ Lasts (v (Beneath n i f)) → AnyStep (Syncs (Beneath n i f)) rest ⊎ Lasts (u (Beneath n i f))
    deep n i f o (inl (inl h)) = inr (synced (Beneath n i f) tt h (there (Beneath n i f) h (g.names (Beneath n i f) o)))
    deep n i f o (inl (inr h)) = inl h
    deep n i f o (inr l) = inr (still v u k.lasts (Beneath n i f) tt l)

pub progress-done : (s : Setting) (v : Place → Moments) (win : Win) → Progress s v win [] → Linked s v win
progress-done s v win g = record { names = λ p o. name p (g.names p o); inner = λ n i f o. deep n i f (g.inner n i f o) }
  where
    name : (p : Place) → AnyStep (Makes p) [] ⊎ There (v p) → There (v p)
    name p (inl m) = absurd m
    name p (inr t) = t

    deep : (n i f : ℕ) → AnyStep (Syncs (Beneath n i f)) [] ⊎ Lasts (v (Beneath n i f)) → Lasts (v (Beneath n i f))
    deep n i f (inl m) = absurd m
    deep n i f (inr l) = l

-- ---- a winner's one file

no-top : (n i f m : ℕ) → Beneath n i f ≡ Top m → ⊥
no-top n i f m e = absurd (cc)

pub progress-file : (s : Setting) (v : Place → Moments) (win : Win) (file bytes : ℕ) → win.handed ≡ handed.File file bytes → Progress s v win (link_of win.attempt file ∷ [])
progress-file s v win file bytes e = record {
  names = λ p o. inl (inl (sym (part p o)));
  inner = λ n i f o. absurd (no-top n i f win.attempt.task.number (part (Beneath n i f) o));
  ordered = ((λ p q h m. h), tt);
  own = ((tt, (refl, refl)), tt);
}
  where
    part : (p : Place) → IsOutputOf s win p → p ≡ Top win.attempt.task.number
    part p o = let P : Handed → Type 0 = λ x. IsPartOf s win x p in subst P e o

-- ---- a winner's folder

shown-item : (a : Attempt) (items : List Item) (p : Place) → IsItemOf a.task.number items p → AnyStep (Makes p) (all_shown a items)
unfolding all_shown
shown-item a [] p h = absurd h
shown-item a (i ∷ more) p (inl e) = inl (by i.node)
  where
    by : (x : Node) → Makes p (shown a i x)
    by (node.File f) = sym e
    by node.Folder = sym e
shown-item a (i ∷ more) p (inr h) = inr (shown-item a more p h)

shown-own : (a : Attempt) (items : List Item) → AllSteps (IsOwn a) (all_shown a items)
unfolding all_shown
shown-own a [] = tt
shown-own a (i ∷ more) = (by i.node, shown-own a more)
  where
    by : (x : Node) → IsOwn a (shown a i x)
    by (node.File f) = (tt, (refl, refl, refl, refl))
    by node.Folder = tt

shown-ordered : (a : Attempt) (items : List Item) (ys : List Step) → IsOrdered ys → IsOrdered (all_shown a items ++ ys)
unfolding all_shown
shown-ordered a [] ys h = h
shown-ordered a (i ∷ more) ys h = ((λ p q e m. by i.node p e), shown-ordered a more ys h)
  where
    by : (x : Node) (p : Place) → Syncs p (shown a i x) → ⊥
    by (node.File f) p e = e
    by node.Folder p e = e

synced-own : (a : Attempt) (n : ℕ) (items : List Item) → AllSteps (IsOwn a) (all_shown_synced n items)
unfolding all_shown_synced
synced-own a n [] = tt
synced-own a n (i ∷ more) = all-both (IsOwn a) (all_shown_synced n more) (shown_synced n i i.node) (synced-own a n more) (by i.node)
  where
    by : (x : Node) → AllSteps (IsOwn a) (shown_synced n i x)
    by (node.File f) = tt
    by node.Folder = (tt, tt)

synced-makes : (n : ℕ) (items : List Item) (q : Place) → AnyStep (Makes q) (all_shown_synced n items) → ⊥
unfolding all_shown_synced
synced-makes n [] q h = h
synced-makes n (i ∷ more) q h = by (any-split (Makes q) (all_shown_synced n more) (shown_synced n i i.node) h) (synced-makes n more q)
  where
    one : (x : Node) → AnyStep (Makes q) (shown_synced n i x) → ⊥
    one (node.File f) k = k
    one node.Folder (inl k) = k
    one node.Folder (inr k) = k

    by : AnyStep (Makes q) (all_shown_synced n more) ⊎ AnyStep (Makes q) (shown_synced n i i.node) → (AnyStep (Makes q) (all_shown_synced n more) → ⊥) → ⊥
    by (inl k) go = go k
    by (inr k) go = one i.node k

-- a folder that is listed is synced, or it is the attempt's own
listed-synced : (n k f : ℕ) (items : List Item) → IsListedFolder f items → (f ≡ 0) ⊎ AnyStep (Syncs (Beneath n k f)) (all_shown_synced n items)
unfolding all_shown_synced
listed-synced n k f [] e = inl e
listed-synced n k f (i ∷ more) (inl h) = inr (any-right (Syncs (Beneath n k f)) (all_shown_synced n more) (shown_synced n i i.node) (let P : Node → Type 0 = λ x. AnyStep (Syncs (Beneath n k f)) (shown_synced n i x) in subst P (sym h.0) (inl (ap (λ m. folder.Beneath n m) h.1))))
listed-synced n k f (i ∷ more) (inr h) = by (listed-synced n k f more h)
  where
    by : (f ≡ 0) ⊎ AnyStep (Syncs (Beneath n k f)) (all_shown_synced n more) → (f ≡ 0) ⊎ AnyStep (Syncs (Beneath n k f)) (all_shown_synced n more ++ shown_synced n i i.node)
    by (inl e) = inl e
    by (inr q) = inr (any-left (Syncs (Beneath n k f)) (all_shown_synced n more) (shown_synced n i i.node) q)

-- an item stands in a folder that is listed
same-folder : (m i f n j g : ℕ) → Beneath m i f ≡ Beneath n j g → (m ≡ n) × (f ≡ g)
same-folder m i f n j g e = (cc, cc)

item-folder : (n : ℕ) (all items : List Item) → StandInFolders all items → (m i f : ℕ) → IsItemOf n items (Beneath m i f) → (m ≡ n) × IsListedFolder f all
item-folder n all [] h m i f o = absurd o
item-folder n all (x ∷ more) h m i f (inl e) =
    let q = same-folder m i f n x.item x.folder e in
    let P : ℕ → Type 0 = λ g. IsListedFolder g all in
    (q.0, subst P (sym q.1) h.0)
item-folder n all (x ∷ more) h m i f (inr o) = item-folder n all more h.1 m i f o

-- what is synced of a folder, its own last
abbrev syncs_of : ℕ → List Item → List Step
syncs_of t items = all_shown_synced t items ++ step.SyncFolder (folder.Beneath t 0) ∷ []

syncs-make : (t : ℕ) (items : List Item) (q : Place) → AnyStep (Makes q) (syncs_of t items) → ⊥
syncs-make t items q h = by (any-split (Makes q) (all_shown_synced t items) (step.SyncFolder (folder.Beneath t 0) ∷ []) h)
  where
    by : AnyStep (Makes q) (all_shown_synced t items) ⊎ AnyStep (Makes q) (step.SyncFolder (folder.Beneath t 0) ∷ []) → ⊥
    by (inl k) = synced-makes t items q k
    by (inr (inl k)) = k
    by (inr (inr k)) = k

syncs-own : (a : Attempt) (t : ℕ) (items : List Item) → AllSteps (IsOwn a) (syncs_of t items)
syncs-own a t items = all-both (IsOwn a) (all_shown_synced t items) (step.SyncFolder (folder.Beneath t 0) ∷ []) (synced-own a t items) (tt, tt)

syncs-listed : (t i f : ℕ) (items : List Item) → IsListedFolder f items → AnyStep (Syncs (Beneath t i f)) (syncs_of t items)
syncs-listed t i f items h = by (listed-synced t i f items h)
  where
    by : (f ≡ 0) ⊎ AnyStep (Syncs (Beneath t i f)) (all_shown_synced t items) → AnyStep (Syncs (Beneath t i f)) (syncs_of t items)
    by (inl z) = any-right (Syncs (Beneath t i f)) (all_shown_synced t items) (step.SyncFolder (folder.Beneath t 0) ∷ []) (inl (ap (λ m. folder.Beneath t m) (sym z)))
    by (inr q) = any-left (Syncs (Beneath t i f)) (all_shown_synced t items) (step.SyncFolder (folder.Beneath t 0) ∷ []) q

-- what belongs to the output of a folder
abbrev IsOfFolder : ℕ → List Item → Place → Type 0
IsOfFolder t items p = (p ≡ Top t) ⊎ IsItemOf t items p

folder-made : (a : Attempt) (items : List Item) (p : Place) → IsOfFolder a.task.number items p → AnyStep (Makes p) (publication a items)
folder-made a items p (inl q) = inl (sym q)
folder-made a items p (inr i) = inr (any-left (Makes p) (all_shown a items) (syncs_of a.task.number items) (shown-item a items p i))

folder-synced : (a : Attempt) (items : List Item) → StandInFolders items items → (n i f : ℕ) → IsOfFolder a.task.number items (Beneath n i f) → AnyStep (Syncs (Beneath n i f)) (publication a items)
folder-synced a items stand n i f (inl q) = absurd (no-top n i f a.task.number q)
folder-synced a items stand n i f (inr o) =
    let x = item-folder a.task.number items items stand n i f o in
    let P : ℕ → Type 0 = λ m. AnyStep (Syncs (Beneath m i f)) (syncs_of a.task.number items) in
    inr (any-right (Syncs (Beneath n i f)) (all_shown a items) (syncs_of a.task.number items) (subst P (sym x.0) (syncs-listed a.task.number i f items x.1)))

pub progress-folder : (s : Setting) (v : Place → Moments) (win : Win) (bytes : ℕ) (items : List Item) → win.handed ≡ handed.Folder bytes → items ≡ s.lists win.attempt win.id → StandInFolders items items → Progress s v win (publication win.attempt items)
progress-folder s v win bytes items e same stand = record {
  names = λ p o. inl (folder-made win.attempt items p (part p o));
  inner = λ n i f o. inl (folder-synced win.attempt items stand n i f (part (Beneath n i f) o));
  ordered = ((λ p q h m. h), shown-ordered win.attempt items (syncs_of win.attempt.task.number items) (ordered-none (syncs_of win.attempt.task.number items) (syncs-make win.attempt.task.number items)));
  own = (tt, all-both (IsOwn win.attempt) (all_shown win.attempt items) (syncs_of win.attempt.task.number items) (shown-own win.attempt items) (syncs-own win.attempt win.attempt.task.number items));
}
  where
    part : (p : Place) → IsOutputOf s win p → IsOfFolder win.attempt.task.number items p
    part p o =
        let P : Handed → Type 0 = λ x. IsPartOf s win x p in
        let Q : List Item → Type 0 = λ xs. IsOfFolder win.attempt.task.number xs p in
        subst Q (sym same) (subst P e o)

-- ---- all tasks

abbrev pub IsIn : Win → List Win → Type 0
IsIn w [] = ⊥
IsIn w (x ∷ xs) = (x ≡ w) ⊎ IsIn w xs

-- the recorded winner of the task is still to be published, or was
pub record ToBe (s : Setting) (durable : List Entry) (v : Place → Moments) (todo : List Win) (n : ℕ) : Type 0 where
  pub win : Win
  pub is : win_of durable (task_of s.job.id n) ≡ Some win
  pub state : IsIn win todo ⊎ Linked s v win

abbrev pub ToShow : Setting → List Entry → (Place → Moments) → List Win → Type 0
ToShow s durable v todo = (n : ℕ) → n < s.job.tasks → ToBe s durable v todo n

pub win-front : (xs ys : List Entry) (t : TaskId) (w : Win) → IsFront xs ys → win_of xs t ≡ Some w → win_of ys t ≡ Some w
win-front xs ys t w f e = ap (λ (es : List Entry). win_of es t) f.is ∙ win-stays xs f.rest t w e

pub to-show-stays : (s : Setting) (durable more : List Entry) (v u : Place → Moments) (todo : List Win) → IsFront durable more → Keeps v u → ToShow s durable v todo → ToShow s more u todo
to-show-stays s durable more v u todo f k h n l =
    let x = h n l in
    record { win = x.win; is = win-front durable more (task_of s.job.id n) x.win f x.is; state = by x.win x.state }
  where
    by : (w : Win) → IsIn w todo ⊎ Linked s v w → IsIn w todo ⊎ Linked s u w
    by w (inl i) = inl i
    by w (inr q) = inr (linked-stays s v u w k q)

-- the first of them was
pub to-show-next : (s : Setting) (durable : List Entry) (v : Place → Moments) (w : Win) (rest : List Win) → Linked s v w → ToShow s durable v (w ∷ rest) → ToShow s durable v rest
to-show-next s durable v w rest l h n b = let x = h n b in record { win = x.win; is = x.is; state = by x.win x.state }
  where
    by : (y : Win) → IsIn y (w ∷ rest) ⊎ Linked s v y → IsIn y rest ⊎ Linked s v y
    by y (inl (inl e)) = let P : Win → Type 0 = λ z. Linked s v z in inr (subst P e l)
    by y (inl (inr i)) = inl i
    by y (inr q) = inr q

in-more : (w : Win) (xs : List Win) (o : Option Win) → IsIn w xs → IsIn w (with_win xs o)
in-more w xs None h = h
in-more w xs (Some y) h = left-of w xs (y ∷ []) h
  where
    left-of : (w : Win) (xs ys : List Win) → IsIn w xs → IsIn w (xs ++ ys)
    left-of w [] ys h = absurd h
    left-of w (x ∷ xs) ys (inl e) = inl e
    left-of w (x ∷ xs) ys (inr k) = inr (left-of w xs ys k)

in-last : (w : Win) (xs : List Win) → IsIn w (xs ++ w ∷ [])
in-last w [] = inl refl
in-last w (x ∷ xs) = inr (in-last w xs)

wins-all : (job : Job) (es : List Entry) (m n : ℕ) (w : Win) → n < m → win_of es (task_of job.id n) ≡ Some w → IsIn w (wins job es m)
unfolding wins
wins-all job es zero n w l e = absurd (let no : n < 0 = l in omega arith)
wins-all job es (suc m) n w l e = by (cases_lt n m) (wins-all job es m n w)
  where
    by : (n < m) ⊎ (m ≤ n) → (n < m → win_of es (task_of job.id n) ≡ Some w → IsIn w (wins job es m)) → IsIn w (with_win (wins job es m) (win_of es (task_of job.id m)))
    by (inl k) go = in-more w (wins job es m) (win_of es (task_of job.id m)) (go k e)
    by (inr k) go =
        let same : n ≡ m = omega arith in
        let P : Option Win → Type 0 = λ o. IsIn w (with_win (wins job es m) o) in
        subst P (sym (ap (λ i. win_of es (task_of job.id i)) (sym same) ∙ e)) (in-last w (wins job es m))

both-first : (x y : Bool) → (x && y) ≡ true → x ≡ true
both-first true y e = refl
both-first false y e = absurd (cc)

not-false : (x : Bool) → not x ≡ false → x ≡ true
not-false true e = refl
not-false false e = absurd (cc)

some-of : (o : Option Attempt) → is_some o ≡ true → (a : Attempt) × (o ≡ Some a)
some-of None e = absurd (cc)
some-of (Some a) e = (a, refl)

-- a job that may be published has a winner of each task
each-won : (job : Job) (es : List Entry) → is_publishable job (lines_of es) ≡ true → (n : ℕ) → n < job.tasks → (w : Win) × (win_of es (task_of job.id n) ≡ Some w)
unfolding left
each-won job es p n l =
    let won : has_won_all job (lines_of es) ≡ true = both-first (has_won_all job (lines_of es)) _ p in
    let here : is_left job (lines_of es) n ≡ false = none-passes (is_left job (lines_of es)) job.tasks won n l in
    let a = some-of (winner_of (lines_of es) (task_of job.id n)) (not-false (has_winner (lines_of es) (task_of job.id n)) here) in
    let w = has-win es (task_of job.id n) a.0 a.1 in
    (w.0, w.1)

-- ---- recorded winners

pub record IsWin (durable : List Entry) (w : Win) : Type 0 where
  pub task : TaskId
  pub is : win_of durable task ≡ Some w

abbrev pub AreWins : List Entry → List Win → Type 0
AreWins durable [] = Unit {0}
AreWins durable (w ∷ ws) = IsWin durable w × AreWins durable ws

pub are-wins-stay : (durable more : List Entry) (ws : List Win) → IsFront durable more → AreWins durable ws → AreWins more ws
are-wins-stay durable more [] f h = tt
are-wins-stay durable more (w ∷ ws) f h = (record { task = h.0.task; is = win-front durable more h.0.task w f h.0.is }, are-wins-stay durable more ws f h.1)

wins-both : (durable : List Entry) (xs ys : List Win) → AreWins durable xs → AreWins durable ys → AreWins durable (xs ++ ys)
wins-both durable [] ys h k = k
wins-both durable (x ∷ xs) ys h k = (h.0, wins-both durable xs ys h.1 k)

are-wins : (job : Job) (es : List Entry) (n : ℕ) → AreWins es (wins job es n)
unfolding wins
are-wins job es zero = tt
are-wins job es (suc n) = by (win_of es (task_of job.id n)) refl (are-wins job es n)
  where
    by : (o : Option Win) → win_of es (task_of job.id n) ≡ o → AreWins es (wins job es n) → AreWins es (with_win (wins job es n) o)
    by None e h = h
    by (Some w) e h = wins-both es (wins job es n) (w ∷ []) h (record { task = task_of job.id n; is = e }, tt)

pub are-wins-all : (job : Job) (durable es : List Entry) → IsFront es durable → AreWins durable (wins job es job.tasks)
are-wins-all job durable es f = are-wins-stay es durable (wins job es job.tasks) f (are-wins job es job.tasks)

-- where nothing was published yet, all winners are to be
pub to-show-all : (s : Setting) (durable es : List Entry) (v : Place → Moments) → IsFront es durable → is_publishable s.job (lines_of es) ≡ true → ToShow s durable v (wins s.job es s.job.tasks)
to-show-all s durable es v f p n l =
    let w = each-won s.job es p n l in
    record { win = w.0; is = win-front es durable (task_of s.job.id n) w.0 f w.1; state = inl (wins-all s.job es s.job.tasks n w.0 l w.1) }

-- ---- the whole output of each task is there for good

pub record Whole (s : Setting) (durable : List Entry) (v : Place → Moments) (n : ℕ) : Type 0 where
  pub win : Win
  pub is : win_of durable (task_of s.job.id n) ≡ Some win
  pub each : (p : Place) → IsOutputOf s win p → Lasts (v p)

abbrev pub AllShown : Setting → List Entry → (Place → Moments) → Type 0
AllShown s durable v = (n : ℕ) → n < s.job.tasks → Whole s durable v n

-- and so is the marker
abbrev pub IsShown : Setting → List Entry → (Place → Moments) → Type 0
IsShown s durable v = AllShown s durable v × Lasts (v Marker)

pub all-shown-stays : (s : Setting) (durable more : List Entry) (v u : Place → Moments) → IsFront durable more → KeepsLasting v u → AllShown s durable v → AllShown s more u
all-shown-stays s durable more v u f k h n l =
    let x = h n l in
    record { win = x.win; is = win-front durable more (task_of s.job.id n) x.win f x.is; each = λ p o. still v u k p (output-visible s x.win p o) (x.each p o) }

pub is-shown-stays : (s : Setting) (durable more : List Entry) (v u : Place → Moments) → IsFront durable more → KeepsLasting v u → IsShown s durable v → IsShown s more u
is-shown-stays s durable more v u f k h = (all-shown-stays s durable more v u f k h.0, still v u k Marker tt h.1)
