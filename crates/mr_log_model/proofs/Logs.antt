-- What a call, or a power cut, leaves of a log: its entries are durable, but for one at the end at most.
use Rattle.std.proofs.Common.{◌≡◌, ◌⊎◌, inl, inr, ◌==◌, ℕ, zero, suc, Bool, true, false, cond, List, [], ◌∷◌, ◌++◌, length, Option, Some, None, refl, sym, ap, subst, ◌∙◌, append_assoc, append-nil, true≢false}
use Rattle.std.proofs.lemmas.Bool.{eqb-true, eq-eqb}
use Rattle.mr_log_entries.specs.declared.entry.Entry.{Entry}
use Rattle.mr_log_disk.specs.Log.{LogName, Absent, Fresh, Durable, Disk, IsThere, AreThere, with_entry, settled}
use Rattle.mr_log_disk.specs.Calls.{LogStays, LogIsSynced, LogMayBeSynced}
use Rattle.mr_log_disk.specs.Cuts.{IsLeft, IsCut}
use Rattle.mr_log_model.specs.Promises.{name_at, IsLog, with_last, IsFront}
use Rattle.mr_log_model.proofs.Fronts.{front-self, front-more, front-last}

-- ---- names by number

name-skip : (xs ys : List Entry) (last : Option Entry) → name_at (xs ++ ys) last (length xs) ≡ name_at ys last zero
name-skip [] ys last = refl
name-skip (x ∷ xs) ys last = name-skip xs ys last

name-last : (es : List Entry) (e : Entry) → name_at es (Some e) (length es) ≡ Fresh e
name-last [] e = refl
name-last (x ∷ es) e = name-last es e

name-other : (es : List Entry) (e : Entry) (n : ℕ) → (n ≡ length es → ⊥) → name_at es (Some e) n ≡ name_at es None n
name-other [] e zero h = absurd (h refl)
name-other [] e (suc n) h = refl
name-other (x ∷ es) e zero h = refl
name-other (x ∷ es) e (suc n) h = name-other es e n (λ q. h (ap suc q))

name-end : (es : List Entry) → name_at es None (length es) ≡ Absent
name-end [] = refl
name-end (x ∷ es) = name-end es

more-last : (es : List Entry) (e : Entry) → name_at (es ++ e ∷ []) None (length es) ≡ Durable e
more-last [] e = refl
more-last (x ∷ es) e = more-last es e

more-other : (es : List Entry) (e : Entry) (n : ℕ) → (n ≡ length es → ⊥) → name_at (es ++ e ∷ []) None n ≡ name_at es None n
more-other [] e zero h = absurd (h refl)
more-other [] e (suc n) h = refl
more-other (x ∷ es) e zero h = refl
more-other (x ∷ es) e (suc n) h = more-other es e n (λ q. h (ap suc q))

-- a number is the end, or it is not
at-or-not : (P : Type 0) (m n : ℕ) → (m ≡ n → P) → ((m ≡ n → ⊥) → P) → P
at-or-not P m n f g = by (m == n) refl
  where
    by : (b : Bool) → (m == n) ≡ b → P
    by true e = f (eqb-true m n e)
    by false e = g (λ q. true≢false (sym (eq-eqb m n q) ∙ e))

-- ---- synced

settled-none : (es : List Entry) (n : ℕ) → settled (name_at es None n) ≡ name_at es None n
settled-none [] n = refl
settled-none (x ∷ es) zero = refl
settled-none (x ∷ es) (suc n) = settled-none es n

pub settled-name : (es : List Entry) (last : Option Entry) (n : ℕ) → settled (name_at es last n) ≡ name_at (with_last es last) None n
settled-name es None n = settled-none es n
settled-name [] (Some e) zero = refl
settled-name [] (Some e) (suc n) = refl
settled-name (x ∷ es) (Some e) zero = refl
settled-name (x ∷ es) (Some e) (suc n) = settled-name es (Some e) n

-- What a call leaves of a log that it adds no entry to: the same entries, of which no fewer are durable.
pub record Kept (durable : List Entry) (last : Option Entry) (d : Disk) : Type 0 where
  pub durable_now : List Entry
  pub last_now : Option Entry
  pub log : IsLog d durable_now last_now
  pub front : IsFront durable durable_now
  pub all : with_last durable_now last_now ≡ with_last durable last

pub kept-stays : (durable : List Entry) (last : Option Entry) (d new : Disk) → IsLog d durable last → LogStays d new → Kept durable last new
kept-stays durable last d new l s = record { durable_now = durable; last_now = last; log = record { names = λ n. s n ∙ l.names n }; front = front-self durable; all = refl }

pub log-synced : (durable : List Entry) (last : Option Entry) (d new : Disk) → IsLog d durable last → LogIsSynced d new → IsLog new (with_last durable last) None
log-synced durable last d new l s = record { names = λ n. s n ∙ ap settled (l.names n) ∙ settled-name durable last n }

all-synced : (durable : List Entry) (last : Option Entry) (new : Disk) → IsLog new (with_last durable last) None → Kept durable last new
all-synced durable last new l = record { durable_now = with_last durable last; last_now = None; log = l; front = front-last durable last; all = refl }

pub kept-synced : (durable : List Entry) (last : Option Entry) (d new : Disk) → IsLog d durable last → LogIsSynced d new → Kept durable last new
kept-synced durable last d new l s = all-synced durable last new (log-synced durable last d new l s)

pub kept-maybe : (durable : List Entry) (last : Option Entry) (d new : Disk) → IsLog d durable last → LogMayBeSynced d new → Kept durable last new
kept-maybe durable None d new l s = record { durable_now = durable; last_now = None; log = record { names = λ n. by n (s n) }; front = front-self durable; all = refl }
  where
    by : (n : ℕ) → (new.log n ≡ d.log n) ⊎ (new.log n ≡ settled (d.log n)) → new.log n ≡ name_at durable None n
    by n (inl e) = e ∙ l.names n
    by n (inr e) = e ∙ ap settled (l.names n) ∙ settled-none durable n
kept-maybe durable (Some x) d new l s = at (s (length durable))
  where
    -- all names but the last
    other : (n : ℕ) → (n ≡ length durable → ⊥) → (new.log n ≡ d.log n) ⊎ (new.log n ≡ settled (d.log n)) → new.log n ≡ name_at durable None n
    other n h (inl e) = e ∙ l.names n ∙ name-other durable x n h
    other n h (inr e) = e ∙ ap settled (l.names n) ∙ settled-name durable (Some x) n ∙ more-other durable x n h

    at : (new.log (length durable) ≡ d.log (length durable)) ⊎ (new.log (length durable) ≡ settled (d.log (length durable))) → Kept durable (Some x) new
    at (inl e) = record {
      durable_now = durable;
      last_now = Some x;
      log = record {
        names = λ n. at-or-not (new.log n ≡ name_at durable (Some x) n) n (length durable)
            (λ q. ap new.log q ∙ e ∙ l.names (length durable) ∙ ap (name_at durable (Some x)) (sym q))
            (λ h. other n h (s n) ∙ sym (name-other durable x n h));
      };
      front = front-self durable;
      all = refl;
    }
    at (inr e) = all-synced durable (Some x) new (record {
      names = λ n. at-or-not (new.log n ≡ name_at (durable ++ x ∷ []) None n) n (length durable)
          (λ q. ap new.log q ∙ e ∙ ap settled (l.names (length durable)) ∙ settled-name durable (Some x) (length durable) ∙ ap (name_at (durable ++ x ∷ []) None) (sym q))
          (λ h. other n h (s n) ∙ sym (more-other durable x n h));
    })

-- ---- an entry is made

-- who knows a durable front, and finds no name right after it, knows all
pub record Ends (xs durable : List Entry) (last : Option Entry) : Type 0 where
  pub same : durable ≡ xs
  pub none : last ≡ None

pub ends-here : (xs durable : List Entry) (last : Option Entry) (d : Disk) → IsLog d durable last → IsFront xs durable → d.log (length xs) ≡ Absent → Ends xs durable last
ends-here xs durable last d l f a = by f.rest last f.is (sym (name-skip xs f.rest last) ∙ ap (λ (es : List Entry). name_at es last (length xs)) (sym f.is) ∙ sym (l.names (length xs)) ∙ a)
  where
    by : (rest : List Entry) (o : Option Entry) → durable ≡ xs ++ rest → name_at rest o zero ≡ Absent → Ends xs durable o
    by [] None e q = record { same = e ∙ append-nil xs; none = refl }
    by [] (Some x) e q = absurd (cc)
    by (y ∷ rest) o e q = absurd (cc)

pub log-made : (durable : List Entry) (e : Entry) (d new : Disk) → IsLog d durable None → ((n : ℕ) → new.log n ≡ with_entry (length durable) e d n) → IsLog new durable (Some e)
log-made durable e d new l m = record { names = λ n. m n ∙ by n (n == length durable) refl }
  where
    by : (n : ℕ) (b : Bool) → (n == length durable) ≡ b → cond (n == length durable) (Fresh e) (d.log n) ≡ name_at durable (Some e) n
    by n true q = ap (λ b. cond b (Fresh e) (d.log n)) q ∙ sym (name-last durable e) ∙ ap (name_at durable (Some e)) (sym (eqb-true n (length durable) q))
    by n false q = ap (λ b. cond b (Fresh e) (d.log n)) q ∙ l.names n ∙ sym (name-other durable e n (λ s. true≢false (sym (eq-eqb n (length durable) s) ∙ q)))

-- ---- what is read

is-durable : (n : LogName) (e : Entry) → IsThere e n → settled n ≡ Durable e
is-durable Absent e h = absurd h
is-durable (Fresh x) e h = ap Durable h
is-durable (Durable x) e h = ap Durable h

length-one : (xs : List Entry) (e : Entry) → length (xs ++ e ∷ []) ≡ suc (length xs)
length-one [] e = refl
length-one (x ∷ xs) e = ap suc (length-one xs e)

read-on : (all : List Entry) (d : Disk) → ((n : ℕ) (e : Entry) → IsThere e (d.log n) → name_at all None n ≡ Durable e)
    → (xs rest es : List Entry) → all ≡ xs ++ rest → AreThere d (length xs) es → IsFront (xs ++ es) all
unfolding AreThere
read-on all d h xs rest [] is t = record { rest = rest; is = is ∙ ap (λ (ys : List Entry). ys ++ rest) (sym (append-nil xs)) }
read-on all d h xs rest (e ∷ es) is t = by rest is (sym (name-skip xs rest None) ∙ ap (λ (ys : List Entry). name_at ys None (length xs)) (sym is) ∙ h (length xs) e t.0) (λ zs ys q u. read-on all d h zs ys es q u)
  where
    by : (ys : List Entry) → all ≡ xs ++ ys → name_at ys None zero ≡ Durable e → ((zs ys : List Entry) → all ≡ zs ++ ys → AreThere d (length zs) es → IsFront (zs ++ es) all) → IsFront (xs ++ e ∷ es) all
    by [] is q go = absurd (cc)
    by (y ∷ ys) is q go =
        let same : y ≡ e = cc in
        let begins : all ≡ (xs ++ e ∷ []) ++ ys = is ∙ ap (λ (x : Entry). xs ++ x ∷ ys) same ∙ sym (append_assoc xs (e ∷ []) ys) in
        let P : ℕ → Type 0 = λ n. AreThere d n es in
        let Q : List Entry → Type 0 = λ zs. IsFront zs all in
        subst Q (append_assoc xs (e ∷ []) es) (go (xs ++ e ∷ []) ys begins (subst P (sym (length-one xs e)) t.1))

pub log-read : (durable : List Entry) (last : Option Entry) (d : Disk) (xs es : List Entry) → IsLog d durable last → IsFront xs (with_last durable last) → AreThere d (length xs) es → IsFront (xs ++ es) (with_last durable last)
log-read durable last d xs es l f t =
    read-on (with_last durable last) d (λ n e h. sym (settled-name durable last n) ∙ ap settled (sym (l.names n)) ∙ is-durable (d.log n) e h) xs f.rest es f.is t

-- ---- a power cut

-- all that was durable is left, and it is durable; so may one entry more be
pub record Left (durable : List Entry) (last : Option Entry) (d : Disk) : Type 0 where
  pub durable_now : List Entry
  pub log : IsLog d durable_now None
  pub front : IsFront durable durable_now
  pub within : IsFront durable_now (with_last durable last)

left-none : (es : List Entry) (n : ℕ) (x : LogName) → IsLeft (name_at es None n) x → x ≡ name_at es None n
left-none [] n x h = h
left-none (e ∷ es) zero x h = h
left-none (e ∷ es) (suc n) x h = left-none es n x h

left-other : (es : List Entry) (e : Entry) (n : ℕ) (x : LogName) → (n ≡ length es → ⊥) → IsLeft (name_at es (Some e) n) x → x ≡ name_at es None n
left-other [] e zero x h l = absurd (h refl)
left-other [] e (suc n) x h l = l
left-other (y ∷ es) e zero x h l = l
left-other (y ∷ es) e (suc n) x h l = left-other es e n x (λ q. h (ap suc q)) l

pub cut-log : (durable : List Entry) (last : Option Entry) (d new : Disk) → IsLog d durable last → IsCut d new → Left durable last new
cut-log durable last d new l c = by last (λ n. let P : LogName → Type 0 = λ x. IsLeft x (new.log n) in subst P (l.names n) (c.log n))
  where
    by : (o : Option Entry) → ((n : ℕ) → IsLeft (name_at durable o n) (new.log n)) → Left durable o new
    by None h = record { durable_now = durable; log = record { names = λ n. left-none durable n (new.log n) (h n) }; front = front-self durable; within = front-self durable }
    by (Some e) h = at (let P : LogName → Type 0 = λ x. IsLeft x (new.log (length durable)) in subst P (name-last durable e) (h (length durable)))
      where
        at : (new.log (length durable) ≡ Absent) ⊎ (new.log (length durable) ≡ Durable e) → Left durable (Some e) new
        at (inl q) = record {
          durable_now = durable;
          log = record {
            names = λ n. at-or-not (new.log n ≡ name_at durable None n) n (length durable)
                (λ s. ap new.log s ∙ q ∙ sym (name-end durable) ∙ ap (name_at durable None) (sym s))
                (λ s. left-other durable e n (new.log n) s (h n));
          };
          front = front-self durable;
          within = front-more durable (e ∷ []);
        }
        at (inr q) = record {
          durable_now = durable ++ e ∷ [];
          log = record {
            names = λ n. at-or-not (new.log n ≡ name_at (durable ++ e ∷ []) None n) n (length durable)
                (λ s. ap new.log s ∙ q ∙ sym (more-last durable e) ∙ ap (name_at (durable ++ e ∷ []) None) (sym s))
                (λ s. left-other durable e n (new.log n) s (h n) ∙ sym (more-other durable e n s));
          };
          front = front-more durable (e ∷ []);
          within = front-self (durable ++ e ∷ []);
        }
