-- Where a directory is there that was begun, it is whole.
use Rattle.std.proofs.Common.{◌≡◌, ◌≢◌, ◌⊎◌, inl, inr, ℕ, zero, suc, true, [], ◌∷◌, Option, Some, None, refl, sym, ap, subst, ◌∙◌}
use Rattle.mr_out_disk.specs.Disk.{Moments}
use Rattle.mr_out_disk.specs.Cuts.{IsOneOf, IsLeft}
use Rattle.mr_out_files.specs.Begins.{Site, missing, nowhere, steps, after_first, MayBe, IsCutTo, IsWhole, DirectoriesBeginWhole, BegunDirectoriesStay}

abbrev alone : Option ℕ → Moments
alone x = record { now = x; before = [] }

-- of a name with one moment a cut leaves that
left-alone : (x : Option ℕ) (m : Moments) → IsLeft (alone x) m → m.now ≡ x
left-alone x m l = by l.was
  where
    by : IsOneOf m.now (x ∷ []) → m.now ≡ x
    by (inl e) = sym e
    by (inr i) = absurd i

there : (x : Option ℕ) → x ≡ Some 0 → x ≡ None → ⊥
there x e n = absurd (cc)

-- no directory is there, and none comes by a cut
none-left : (s u : Site) → s.directory ≡ missing → (u ≡ s) ⊎ IsCutTo s u → u.directory.now ≡ None
none-left s u e (inl same) = ap (λ (x : Site). x.directory.now) same ∙ ap (λ (m : Moments). m.now) e
none-left s u e (inr cut) = let P : Moments → Type 0 = λ m. IsLeft m u.directory in left-alone None u.directory (subst P e cut.directory)

-- all within is durable
pub record Durable (s : Site) : Type 0 where
  pub home : s.home ≡ alone (Some 0)
  pub folders : s.folders ≡ alone (Some 0)
  pub job : s.job ≡ alone (Some 0)
  pub history : s.history ≡ alone (Some 0)
  pub job_whole : s.is_job_whole ≡ true
  pub history_whole : s.is_history_whole ≡ true

left-there : (m n : Moments) → m ≡ alone (Some 0) → IsLeft m n → n.now ≢ None
left-there m n e l = let P : Moments → Type 0 = λ x. IsLeft x n in there n.now (left-alone (Some 0) n (subst P e l))

now-there : (m : Moments) → m ≡ alone (Some 0) → m.now ≢ None
now-there m e = there m.now (ap (λ (x : Moments). x.now) e)

whole-now : (s : Site) → Durable s → IsWhole s
whole-now s d = record { home = now-there s.home d.home; folders = now-there s.folders d.folders; job = now-there s.job d.job; history = now-there s.history d.history; job_whole = d.job_whole; history_whole = d.history_whole }

whole-left : (s u : Site) → Durable s → IsCutTo s u → IsWhole u
whole-left s u d c = record {
  home = left-there s.home u.home d.home c.home;
  folders = left-there s.folders u.folders d.folders c.folders;
  job = left-there s.job u.job d.job c.job;
  history = left-there s.history u.history d.history c.history;
  job_whole = c.job_whole d.job_whole;
  history_whole = c.history_whole d.history_whole;
}

whole-so : (s u : Site) → Durable s → (u ≡ s) ⊎ IsCutTo s u → IsWhole u
whole-so s u d (inl same) = let P : Site → Type 0 = λ x. IsWhole x in subst P (sym same) (whole-now s d)
whole-so s u d (inr c) = whole-left s u d c

-- behind n steps there is no directory yet, or all within is durable
behind : (n : ℕ) → ((after_first steps n nowhere).directory ≡ missing) ⊎ Durable (after_first steps n nowhere)
behind zero = inl refl
behind (suc zero) = inl refl
behind (suc (suc zero)) = inl refl
behind (suc (suc (suc zero))) = inl refl
behind (suc (suc (suc (suc zero)))) = inl refl
behind (suc (suc (suc (suc (suc zero))))) = inl refl
behind (suc (suc (suc (suc (suc (suc zero)))))) = inr (record { home = refl; folders = refl; job = refl; history = refl; job_whole = refl; history_whole = refl })
behind (suc (suc (suc (suc (suc (suc (suc n))))))) = inr (record { home = refl; folders = refl; job = refl; history = refl; job_whole = refl; history_whole = refl })

pub whole : DirectoriesBeginWhole
whole n s u may left out = by may
  where
    known : s ≡ after_first steps n nowhere → ((after_first steps n nowhere).directory ≡ missing) ⊎ Durable (after_first steps n nowhere) → IsWhole u
    known e (inl none) = absurd (out (none-left s u (ap (λ (x : Site). x.directory) e ∙ none) left))
    known e (inr d) = let P : Site → Type 0 = λ x. Durable x in whole-so s u (subst P (sym e) d) left

    by : MayBe n s → IsWhole u
    by (inl e) = known e (behind n)
    by (inr none) = absurd (out (none-left s u none left))

pub stays : BegunDirectoriesStay
stays u c = (there u.directory.now (left-alone (Some 0) u.directory c.directory), whole-left (after_first steps 7 nowhere) u (record { home = refl; folders = refl; job = refl; history = refl; job_whole = refl; history_whole = refl }) c)
