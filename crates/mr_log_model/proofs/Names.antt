-- What holds of a visible name at every moment since its folder was synced, and so after a power cut too; and what a call leaves of it.
use Rattle.std.proofs.Common.{◌≡◌, ◌≢◌, ◌⊎◌, inl, inr, ◌==◌, ◌&&◌, ℕ, Bool, true, false, cond, List, [], ◌∷◌, Option, Some, None, refl, sym, ap, subst, ◌∙◌}
use Rattle.std.proofs.lemmas.Bool.{eqb-true, eq-eqb}
use Rattle.mr_ids.specs.Same.{same_attempt}
use Rattle.mr_ids.proofs.Same.{same_attempt-is}
use Rattle.mr_log_disk.specs.declared.place.Node.{Node}
use Rattle.mr_log_disk.specs.declared.place.Place.{Place}
use Rattle.mr_log_disk.specs.declared.place.Place.TheVariants.{Top, Beneath, Marker, Inside}
use Rattle.mr_log_disk.specs.declared.place.Folder.{Folder}
use Rattle.mr_log_disk.specs.declared.call.Call.{Call}
use Rattle.mr_log_disk.specs.declared.call.Call.TheVariants as call
use Rattle.mr_log_disk.specs.declared.answer.Answer.{Answer}
use Rattle.mr_log_disk.specs.declared.answer.Answer.TheVariants.{Says, Told, Listed}
use Rattle.mr_log_disk.specs.declared.answer.Reply.TheVariants.{Done, Taken, Found, Failed}
use Rattle.mr_log_disk.specs.Names.{IsVisible, same_place, folder_of, stands_in, Moments, moved, lasting}
use Rattle.mr_log_disk.specs.Log.{Disk}
use Rattle.mr_log_disk.specs.Calls.{seen, IsNamed, Names, FolderIsSynced, SyncsNames, Looks, EffectOnNames}
use Rattle.mr_log_disk.specs.Cuts.{IsOneOf, IsMoment}

abbrev pub EveryOf : (Option Node → Type 0) → List (Option Node) → Type 0
EveryOf P [] = Unit {0}
EveryOf P (x ∷ xs) = P x × EveryOf P xs

abbrev pub Every : (Option Node → Type 0) → Moments → Type 0
Every P m = P m.now × EveryOf P m.before

every_of-map : (P Q : Option Node → Type 0) (xs : List (Option Node)) → ((x : Option Node) → P x → Q x) → EveryOf P xs → EveryOf Q xs
every_of-map P Q [] f e = tt
every_of-map P Q (x ∷ xs) f e = (f x e.0, every_of-map P Q xs f e.1)

pub every-map : (P Q : Option Node → Type 0) (m : Moments) → ((x : Option Node) → P x → Q x) → Every P m → Every Q m
every-map P Q m f e = (f m.now e.0, every_of-map P Q m.before f e.1)

one-of : (P : Option Node → Type 0) (x : Option Node) (xs : List (Option Node)) → IsOneOf x xs → EveryOf P xs → P x
one-of P x [] i e = absurd i
one-of P x (y ∷ ys) (inl is) e = subst P is e.0
one-of P x (y ∷ ys) (inr i) e = one-of P x ys i e.1

pub every-left : (P : Option Node → Type 0) (m n : Moments) → IsMoment m n → Every P m → Every P n
every-left P m n l e =
    let all : EveryOf P (m.now ∷ m.before) = (e.0, e.1) in
    let Q : List (Option Node) → Type 0 = λ xs. EveryOf P xs in
    (one-of P n.now (m.now ∷ m.before) l.was all, subst Q (sym l.alone) tt)

-- ---- what stands somewhere, now or for good

pub record There (m : Moments) : Type 0 where
  pub node : Node
  pub now : m.now ≡ Some node

abbrev pub IsNode : Node → Option Node → Type 0
IsNode n x = x ≡ Some n

pub record Lasts (m : Moments) : Type 0 where
  pub node : Node
  pub every : Every (IsNode node) m

abbrev pub IfThere : Type 0 → Option Node → Type 0
IfThere X None = Unit {0}
IfThere X (Some n) = X

pub there-lasts : (m : Moments) → There m → Lasts (lasting m)
there-lasts m t = record { node = t.node; every = (t.now, tt) }

pub lasts-there : (m : Moments) → Lasts m → There m
lasts-there m l = record { node = l.node; now = l.every.0 }

pub if-there-map : (X Y : Type 0) → (X → Y) → (x : Option Node) → IfThere X x → IfThere Y x
if-there-map X Y f None i = tt
if-there-map X Y f (Some n) i = f i

-- ---- names and folders that are one

both : (x y : Bool) → (x && y) ≡ true → (x ≡ true) × (y ≡ true)
both true true e = (refl, refl)
both true false e = absurd (cc)
both false y e = absurd (cc)

and : (x y : Bool) → x ≡ true → y ≡ true → (x && y) ≡ true
and true true e f = refl
and true false e f = absurd (cc)
and false y e f = absurd (cc)

number-itself : (n : ℕ) → (n == n) ≡ true
number-itself n = eq-eqb n n refl

pub place-is : (p q : Place) → same_place p q ≡ true → p ≡ q
place-is (Top m) (Top n) e = ap Top (eqb-true m n e)
place-is (Beneath m i f) (Beneath n j g) e =
    let b = both (m == n) ((i == j) && (f == g)) e in
    let c = both (i == j) (f == g) b.1 in
    λ k. Beneath (eqb-true m n b.0 k) (eqb-true i j c.0 k) (eqb-true f g c.1 k)
place-is Marker Marker e = refl
place-is (Inside a i f) (Inside b j g) e =
    let x = both (same_attempt a b) ((i == j) && (f == g)) e in
    let c = both (i == j) (f == g) x.1 in
    λ k. Inside (same_attempt-is a b x.0 k) (eqb-true i j c.0 k) (eqb-true f g c.1 k)
place-is (Top m) (Beneath n j g) e = absurd (cc)
place-is (Top m) Marker e = absurd (cc)
place-is (Top m) (Inside b j g) e = absurd (cc)
place-is (Beneath m i f) (Top n) e = absurd (cc)
place-is (Beneath m i f) Marker e = absurd (cc)
place-is (Beneath m i f) (Inside b j g) e = absurd (cc)
place-is Marker (Top n) e = absurd (cc)
place-is Marker (Beneath n j g) e = absurd (cc)
place-is Marker (Inside b j g) e = absurd (cc)
place-is (Inside a i f) (Top n) e = absurd (cc)
place-is (Inside a i f) (Beneath n j g) e = absurd (cc)
place-is (Inside a i f) Marker e = absurd (cc)

place-itself : (p : Place) → IsVisible p → same_place p p ≡ true
place-itself (Top n) v = number-itself n
place-itself (Beneath n i f) v = and (n == n) ((i == i) && (f == f)) (number-itself n) (and (i == i) (f == f) (number-itself i) (number-itself f))
place-itself Marker v = refl
place-itself (Inside a i f) v = absurd v

stands-itself : (p : Place) → IsVisible p → stands_in (folder_of p) p ≡ true
stands-itself (Top n) v = refl
stands-itself (Beneath n i f) v = and (n == n) (f == f) (number-itself n) (number-itself f)
stands-itself Marker v = refl
stands-itself (Inside a i f) v = absurd v

-- ---- what a call leaves of a name

-- the call makes this name
abbrev pub IsTarget : Call → Place → Type 0
IsTarget (call.Link from to) p = to ≡ p
IsTarget (call.MakeFolder q) p = q ≡ p
IsTarget call.LinkMarker p = Marker ≡ p
IsTarget _ p = ⊥

-- nothing stood there, and the call made it
pub record Newly (x : Call) (p : Place) (m n : Moments) : Type 0 where
  pub target : IsTarget x p
  pub node : Node
  pub was : m.now ≡ None
  pub is : n ≡ moved (Some node) m

-- the same, or synced, or made
abbrev pub Turn : Call → Place → Moments → Moments → Type 0
Turn x p m n = (n ≡ m) ⊎ ((n ≡ lasting m) ⊎ Newly x p m n)

named-turn : (d new : Disk) (x : Call) (q : Place) → ((p : Place) → q ≡ p → IsTarget x p) → IsNamed d q new → (p : Place) → IsVisible p → Turn x p (d.names p) (new.names p)
named-turn d new x q t n p v = by (same_place q p) refl
  where
    by : (b : Bool) → same_place q p ≡ b → Turn x p (d.names p) (new.names p)
    by true e =
        let same : q ≡ p = place-is q p e in
        let P : Place → Type 0 = λ r. seen d r ≡ None in
        inr (inr (record { target = t p same; node = n.node; was = subst P same n.was; is = n.is p v ∙ ap (λ b. cond b (moved (Some n.node) (d.names p)) (d.names p)) e }))
    by false e = inl (n.is p v ∙ ap (λ b. cond b (moved (Some n.node) (d.names p)) (d.names p)) e)

names-turn : (d new : Disk) (x : Call) (q : Place) → ((p : Place) → q ≡ p → IsTarget x p) → (answer : Answer) → Names d q answer new → (p : Place) → IsVisible p → Turn x p (d.names p) (new.names p)
names-turn d new x q t (Says Done) e p v = named-turn d new x q t e p v
names-turn d new x q t (Says Taken) (inl e) p v = inl (e.1 p v)
names-turn d new x q t (Says Taken) (inr e) p v = named-turn d new x q t e p v
names-turn d new x q t (Says Failed) (inl e) p v = inl (e p v)
names-turn d new x q t (Says Failed) (inr e) p v = named-turn d new x q t e p v
names-turn d new x q t (Says _) e p v = inl (e p v)
names-turn d new x q t (Told es) e p v = inl (e p v)
names-turn d new x q t (Listed items) e p v = inl (e p v)

may-turn : (x : Call) (p : Place) (m n : Moments) → (n ≡ m) ⊎ (n ≡ lasting m) → Turn x p m n
may-turn x p m n (inl e) = inl e
may-turn x p m n (inr e) = inr (inl e)

if-turn : (x : Call) (p : Place) (m n : Moments) (b : Bool) → n ≡ cond b (lasting m) m → Turn x p m n
if-turn x p m n true e = inr (inl e)
if-turn x p m n false e = inl e

sync-turn : (d new : Disk) (f : Folder) (answer : Answer) → SyncsNames d f answer new → (p : Place) → IsVisible p → Turn (call.SyncFolder f) p (d.names p) (new.names p)
sync-turn d new f (Says Done) e p v = if-turn (call.SyncFolder f) p (d.names p) (new.names p) (stands_in f p) (e p v)
sync-turn d new f (Says _) e p v = may-turn (call.SyncFolder f) p (d.names p) (new.names p) (e p v)
sync-turn d new f (Told es) e p v = may-turn (call.SyncFolder f) p (d.names p) (new.names p) (e p v)
sync-turn d new f (Listed items) e p v = may-turn (call.SyncFolder f) p (d.names p) (new.names p) (e p v)

look-turn : (d new : Disk) (q : Place) (answer : Answer) → Looks d q answer new → (p : Place) → IsVisible p → Turn (call.Look q) p (d.names p) (new.names p)
look-turn d new q (Says (Found n)) e p v = inl (e.1 p v)
look-turn d new q (Says _) e p v = inl (e p v)
look-turn d new q (Told es) e p v = inl (e p v)
look-turn d new q (Listed items) e p v = inl (e p v)

pub turns : (d new : Disk) (x : Call) (answer : Answer) → EffectOnNames d x answer new → (p : Place) → IsVisible p → Turn x p (d.names p) (new.names p)
turns d new (call.Link from to) answer e p v = names-turn d new (call.Link from to) to (λ q s. s) answer e p v
turns d new (call.MakeFolder q) answer e p v = names-turn d new (call.MakeFolder q) q (λ r s. s) answer e p v
turns d new call.LinkMarker answer e p v = names-turn d new call.LinkMarker Marker (λ q s. s) answer e p v
turns d new (call.SyncFolder f) answer e p v = sync-turn d new f answer e p v
turns d new (call.Look q) answer e p v = look-turn d new q answer e p v
turns d new _ answer e p v = inl (e p v)

-- ---- what stays

pub every-turn : (P : Option Node → Type 0) (x : Call) (p : Place) (m n : Moments) → Turn x p m n → (IsTarget x p → (y : Node) → P (Some y)) → Every P m → Every P n
every-turn P x p m n (inl e) f h = let Q : Moments → Type 0 = λ k. Every P k in subst Q (sym e) h
every-turn P x p m n (inr (inl e)) f h = let Q : Moments → Type 0 = λ k. Every P k in subst Q (sym e) (h.0, tt)
every-turn P x p m n (inr (inr w)) f h = let Q : Moments → Type 0 = λ k. Every P k in subst Q (sym w.is) (f w.target w.node, (h.0, h.1))

none-some : (x : Option Node) (n : Node) → x ≡ None → x ≡ Some n → ⊥
none-some x n e f = absurd (cc)

pub now-turn : (x : Call) (p : Place) (m n : Moments) (y : Node) → Turn x p m n → m.now ≡ Some y → n.now ≡ Some y
now-turn x p m n y (inl e) h = ap (λ (k : Moments). k.now) e ∙ h
now-turn x p m n y (inr (inl e)) h = ap (λ (k : Moments). k.now) e ∙ h
now-turn x p m n y (inr (inr w)) h = absurd (none-some m.now y w.was h)

pub there-turn : (x : Call) (p : Place) (m n : Moments) → Turn x p m n → There m → There n
there-turn x p m n t h = record { node = h.node; now = now-turn x p m n h.node t h.now }

pub node-turn : (x : Call) (p : Place) (m n : Moments) (y : Node) → Turn x p m n → Every (IsNode y) m → Every (IsNode y) n
node-turn x p m n y (inl e) h = let Q : Moments → Type 0 = λ k. Every (IsNode y) k in subst Q (sym e) h
node-turn x p m n y (inr (inl e)) h = let Q : Moments → Type 0 = λ k. Every (IsNode y) k in subst Q (sym e) (h.0, tt)
node-turn x p m n y (inr (inr w)) h = absurd (none-some m.now y w.was h.0)

-- ---- what a call that was made leaves

is-named : (d new : Disk) (p : Place) → IsVisible p → IsNamed d p new → There (new.names p)
is-named d new p v n = record { node = n.node; now = ap (λ (k : Moments). k.now) (n.is p v ∙ ap (λ b. cond b (moved (Some n.node) (d.names p)) (d.names p)) (place-itself p v)) }

stood : (x : Option Node) → x ≢ None → (n : Node) × (x ≡ Some n)
stood None h = absurd (h refl)
stood (Some n) h = (n, refl)

pub made-there : (d new : Disk) (p : Place) → IsVisible p → Names d p (Says Done) new → There (new.names p)
made-there d new p v e = is-named d new p v e

pub taken-there : (d new : Disk) (p : Place) → IsVisible p → Names d p (Says Taken) new → There (new.names p)
taken-there d new p v (inl e) = let x = stood (seen d p) e.0 in record { node = x.0; now = ap (λ (k : Moments). k.now) (e.1 p v) ∙ x.1 }
taken-there d new p v (inr e) = is-named d new p v e

pub looked-there : (d new : Disk) (p : Place) (n : Node) → IsVisible p → Looks d p (Says (Found n)) new → There (new.names p)
looked-there d new p n v e = record { node = n; now = ap (λ (k : Moments). k.now) (e.1 p v) ∙ e.0 }

pub synced-lasts : (d new : Disk) (f : Folder) (p : Place) → IsVisible p → f ≡ folder_of p → FolderIsSynced d f new → There (d.names p) → Lasts (new.names p)
synced-lasts d new f p v same e t =
    let in-it : stands_in f p ≡ true = ap (λ (g : Folder). stands_in g p) same ∙ stands-itself p v in
    let Q : Moments → Type 0 = λ k. Lasts k in
    subst Q (sym (e p v ∙ ap (λ b. cond b (lasting (d.names p)) (d.names p)) in-it)) (there-lasts (d.names p) t)
